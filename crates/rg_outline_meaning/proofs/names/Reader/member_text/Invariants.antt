use Rattle.std.proofs.Common.{◌≡◌, drop}
use Rattle.rg_outline_meaning.specs.Names.{text_of}
use Rattle.rg_outline_meaning.specs.Members.{member_name}
use Rattle.rg_outline_meaning.specs.View.{outline}
use Rattle.rg_outline_meaning.proofs.names.Reader.member_text.Given as goal

-- with the indices that are left it is the whole name
abbrev pub invariant-loop-index : goal.invariant-loop-index
invariant-loop-index l = member_name l.text.items (drop l.index-index l.indices) ≡ member_name (text_of (outline l.self) l.fn.name) l.indices
