use Rattle.std.proofs.Common.{◌∙◌}
use Rattle.rg_tree.specs.ProgramTrees.{program}
use Rattle.rg_outline_meaning.specs.View.{outline, words, knowns, clauses}
use Rattle.rg_outline_meaning.proofs.ProgramRules.{program_of}
use Rattle.rg_outline_meaning.proofs.names.Reader.want_program.Goals as goal

pub returns : goal.returns
returns c =
    let r = c.args.self.now in
    let s₁ = c.know_heads.new.self in
    let s₂ = c.know_words.new.self in
    let s₃ = c.clauses.new.self in
    let e₁ = c.in_ok-know_heads.ensures.same in
    let e₂ = c.in_ok-know_words.ensures.same in
    let e₃ = c.in_ok-clauses.ensures.same in
    let w = c.requires.words in
    program_of (outline r) (outline s₁) (outline s₂) (outline s₃) (program c.args.program.now) (words s₁) (words s₂) (words s₃) (knowns s₁) (knowns s₂) (knowns s₃) (clauses c.in_ok-clauses.clauses)
    e₁.0 (e₂.0 ∙ e₁.0) (e₃.0 ∙ e₂.0 ∙ e₁.0) (e₁.1 ∙ w) (e₂.1 ∙ e₁.1 ∙ w) (e₃.1 ∙ e₂.1 ∙ e₁.1 ∙ w)
    (rw c.requires.known at c.in_ok-know_heads.ensures.known) c.in_ok-know_words.ensures.declared c.in_ok-clauses.ensures.clauses c.in_ok-want_specified.ensures (rw c.deref.ensures.value at c.in_ok-want_parts.ensures)
