-- A lawful program and its code, without where they lie in memory.
use Rattle.std.proofs.Common.{◌≡◌, ℕ, Bool, List, length, map, refl, sym, ap, ◌∙◌}
use Rattle.std.specs.Prelude.{string_bytes}
use Rattle.std.specs.Coded.{Coded, Coded-set, code_by, coded×, coded_list, coded_ℕ, coded_bool}
use Rattle.std.proofs.Math.Logic.{∥∥₁_elim, ∥∥₁_map}
use Rattle.std.proofs.lemmas.List.{length-map}
use Rattle.rg_words.specs.Layout.{Word}
use Rattle.rg_tree.specs.declared.program.Program.{Program}
use Rattle.rg_tree.specs.ProgramTrees.{program}
use Rattle.rg_tree.specs.ProgramView.{part}
use Rattle.rg_code.specs.declared.code.Code.{Code}
use Rattle.rg_code.specs.BlockView.{blocks}
use Rattle.rg_code.specs.CodeTrees.{code_blocks, names_of_code, names_of_program}
use Rattle.rg_code.specs.Lawful.{IsLawful}
use Rattle.rg_floor.specs.History.{GoTogether}

coded_word : Coded Word
coded_word = code_by (List ℕ × (ℕ × Bool)) (coded× (coded_list coded_ℕ) (coded× coded_ℕ coded_bool)) (λ w. (w.name, (w.width, w.fixed))) (λ p. record { name = p.0; width = p.1.0; fixed = p.1.1 }) (λ _. refl)

-- the code has the program's words
pub same_words : (source : Program) (code : Code) → ∥ IsLawful source code ∥₁ → code.layout ≡ source.layout
same_words source code l = ∥∥₁_elim l (Coded-set (coded_list coded_word) _ _) (λ (h : IsLawful source code). h.words)

one_each : (source : Program) (code : Code) → names_of_code code ≡ names_of_program source → length (code_blocks code) ≡ length (map part source.parts.items)
one_each source code e =
    length-map code.parts.items blocks ∙ sym (length-map code.parts.items (λ p. string_bytes p.name)) ∙ ap (λ ns. length {A = List ℕ} ns) e
    ∙ length-map source.parts.items (λ q. string_bytes q.name) ∙ sym (length-map source.parts.items part)

pub together : (source : Program) (code : Code) → ∥ IsLawful source code ∥₁ → ∥ GoTogether (program source) (code_blocks code) ∥₁
together source code l =
    ∥∥₁_map l (λ (h : IsLawful source code). record { satisfied = h.satisfied; runs = h.runs; parts = one_each source code h.names })
