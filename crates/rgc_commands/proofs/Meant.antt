-- What the text of an outline spells is what the outline stands for.
use Rattle.std.proofs.Common.{◌≡◌, ◌∙◌, refl, sym, ap, subst, Bool, true, false, inl, inr, Err}
use Rattle.rg_words.specs.declared.refusal.Refusal.{Refusal}
use Rattle.rg_words.specs.Refusals.{no_memory}
use Rattle.rg_tree.specs.Statements.{ProgramTree}
use Rattle.rg_parse.specs.Programs.{SpellsProgram}
use Rattle.rg_parse.proofs.ProgramMeanings.{one_spelled_program}
use Rattle.rg_outline_meaning.specs.Programs.{OutlineStandsFor}
use Rattle.rg_outline_reports.specs.declared.files.NoFiles.{NoFiles}
use Rattle.rg_outline_reports.specs.declared.files.OutlineSource.{OutlineSource}
use Rattle.rg_outline_reports.specs.declared.outlined.Outlined.{Outlined}
use Rattle.rg_outline_reports.specs.declared.worked_out.Reading.{Reading}
use Rattle.rg_outline_reports.specs.declared.worked_out.WorkedOut.{WorkedOut}
use Rattle.rg_outline_reports.specs.WorkedOut.{read_source, read_result, worked_source, worked_result, IsExpansionOf}
use Rattle.rgc_commands.specs.Meant.{as_read, IsMeant, AreMeant, IsUnmeant}
use Rattle.rgc_commands.specs.Of.{IsWorkedOut}
use Rattle.rgc_commands.specs.Inner.Meant.{is_memory}

-- the text spells a program, and no other
pub meant_as_read : (outline : OutlineSource) (outlined : Outlined) (t : ProgramTree) (is : Bool) → SpellsProgram outlined.files.text.items t → (is ≡ true → OutlineStandsFor (as_read outline outlined) t) → is ≡ true → IsMeant outline outlined
meant_as_read outline outlined t is spells stands so = λ p s.
    subst (λ (x : ProgramTree). OutlineStandsFor (as_read outline outlined) x) (one_spelled_program outlined.files.text.items t p spells s) (stands so)

-- the text spells none
pub meant_for_nothing : (outline : OutlineSource) (outlined : Outlined) (e : Refusal) → is_memory e.number ≡ false → ((t : ProgramTree) → SpellsProgram outlined.files.text.items t → e ≡ no_memory) → IsMeant outline outlined
meant_for_nothing outline outlined e other accepts = λ p s.
    let none : ⊥ = cc (sym other ∙ ap (λ (x : Refusal). is_memory x.number) (accepts p s)) in
    absurd none

-- an outline is taken for what it was worked out to, or refused
pub taken_as_worked : (outline : OutlineSource) (reading : Reading) (worked : WorkedOut) → read_source reading ≡ outline → worked_source worked ≡ read_source reading
    → IsExpansionOf (read_result reading) (worked_result worked) → AreMeant outline (worked_result worked) → IsWorkedOut outline (worked_result worked)
taken_as_worked outline reading worked read of written meant =
    record { reading = reading; read = read; worked = worked; of = of ∙ read; written = written; taken = inl (refl, meant) }

pub taken_as_refused : (outline : OutlineSource) (reading : Reading) (worked : WorkedOut) (none : NoFiles) → read_source reading ≡ outline → worked_source worked ≡ read_source reading
    → IsExpansionOf (read_result reading) (worked_result worked) → IsUnmeant outline none → IsWorkedOut outline (Err none)
taken_as_refused outline reading worked none read of written unmeant =
    record { reading = reading; read = read; worked = worked; of = of ∙ read; written = written; taken = inr unmeant }

pub ruleset rules = (meant_as_read, meant_for_nothing, taken_as_worked, taken_as_refused)
