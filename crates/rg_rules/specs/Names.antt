-- The printed names of the conditions of a derivation's lines.
use Rattle.std.specs.Prelude.{ℕ, ◌+◌, List, [], ◌∷◌, ◌++◌, map, codes}
use Rattle.std.specs.Fmt.{decimal}
use Rattle.rg_tree.specs.declared.line.Rule.{Rule}
use Rattle.rg_tree.specs.declared.line.Rule.TheVariants.{Basic, Atomic, Seq, If, Loop, Conseq}
use Rattle.rg_tree.specs.Lines.{LineTree}

-- what each condition of a line is called, by its rule
abbrev pub condition_names : Rule → List (List ℕ)
condition_names Basic = codes "reach" ∷ codes "step" ∷ codes "pre stable" ∷ codes "post stable" ∷ []
condition_names Atomic = codes "reach" ∷ codes "step" ∷ codes "pre stable" ∷ codes "post stable" ∷ []
condition_names Seq = []
condition_names If = codes "pre stable" ∷ []
condition_names Loop = codes "pre stable" ∷ codes "exit" ∷ codes "post stable" ∷ []
condition_names Conseq = codes "pre" ∷ codes "rely" ∷ codes "guar" ∷ codes "post" ∷ []

-- a condition of line k, as `line 2 pre stable`
abbrev pub named : ℕ → List ℕ → List ℕ
named k name = codes "line " ++ (decimal k ++ (codes " " ++ name))

-- the names of the conditions of these lines, the first of which is line k
abbrev pub line_names : ℕ → List LineTree → List (List ℕ)
line_names k [] = []
line_names k (line ∷ lines) = map (named k) (condition_names line.rule) ++ line_names (k + 1) lines
