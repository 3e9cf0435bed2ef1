-- What a listing is of.
use Rattle.std.proofs.Common.{◌∙◌, sym}
use Rattle.std.proofs.lemmas.Simd.{map-map}
use Rattle.rg_tree.specs.declared.program.Program.{Program}
use Rattle.rg_tree.specs.ProgramTrees.{program}
use Rattle.rg_tree.specs.ProgramView.{part}
use Rattle.rg_tree.specs.Statements.{PartTree}
use Rattle.rg_code.specs.declared.code.Code.{Code}
use Rattle.rg_code.specs.Lawful.{IsLawful}
use Rattle.rgc_answers.specs.Accepted.{IsOver}

-- lawful code is over the words of its program, and its parts have the names of the program's
pub lawful_over : (p : Program) (code : Code) → IsLawful p code → IsOver (program p) code
lawful_over p code l = record {
  words = l.words;
  names = l.names ∙ sym (map-map (λ (q : PartTree). q.name) part p.parts.items);
}
