use Rattle.std.proofs.Common.{sym, ◌∙◌, string_bytes}
use Rattle.rg_outline_meaning.specs.Names.{text_of}
use Rattle.rg_outline_meaning.specs.Members.{member_name}
use Rattle.rg_outline_meaning.specs.View.{outline}
use Rattle.rg_outline_meaning.proofs.Placed.{same_text}
use Rattle.rg_outline_meaning.proofs.names.Reader.want_name.Goals as goal

pub returns-then-eq : goal.returns-then-eq
returns-then-eq c =
    sym (same_text c.as_slice.result.now c.as_bytes.result.now (member_name (text_of (outline c.args.self.now) c.args.name) c.args.indices.now) (string_bytes c.args.part.now.name) (c.as_slice.ensures.value ∙ c.in_ok-name.ensures) c.as_bytes.ensures.value c.if-eq.ensures)
