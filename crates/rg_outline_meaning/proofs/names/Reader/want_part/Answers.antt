use Rattle.rg_tree.specs.ProgramView.{part, statement}
use Rattle.rg_outline_meaning.specs.Names.{text_of}
use Rattle.rg_outline_meaning.specs.Members.{member_name}
use Rattle.rg_outline_meaning.specs.Programs.{of_outline, bare_statement}
use Rattle.rg_outline_meaning.specs.View.{outline, words, knowns}
use Rattle.rg_outline_meaning.proofs.ProgramRules.{part_known, body_known}
use Rattle.rg_outline_meaning.proofs.names.Reader.want_part.Goals as goal

pub returns-clause-part : goal.returns-clause-part
returns-clause-part c =
    let r = c.args.self.now in
    let s = c.know_part.new.self in
    let p = c.args.written.now in
    let t = c.args.part.now in
    let same = c.in_ok-owned.ensures.same in
    part_known (outline r) (words r) (knowns r) (knowns s) p (member_name (text_of (outline r) p.name) c.args.indices.now) (part t) c.in_ok-owned.owned c.in_ok-want_name.ensures c.in_ok-owned.ensures.owned
    (body_known (outline r) (outline s) (words r) (words s) c.in_ok-owned.owned c.waiting_word-waiting_word.result (of_outline (knowns s)) p.body (bare_statement (statement t.body)) same.0 same.1 c.waiting_word-waiting_word.ensures c.in_ok-want_body.ensures)
