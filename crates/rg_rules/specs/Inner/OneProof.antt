-- That lines are typed in one way at most, as a fact that is kept with a value must.
use Rattle.std.specs.Prelude.{◌≡◌, Bool, List, [], ◌∷◌}
use Rattle.std.specs.Coded.{×_prop, Unit-prop, Coded-set, coded_bool}
use Rattle.rg_words.specs.Layout.{Word, widths_of}
use Rattle.rg_tree.specs.Trees.{Proposition}
use Rattle.rg_tree.specs.Inner.OneProof.{IsTyped-prop}
use Rattle.rg_tree.specs.Statements.{Specification}
use Rattle.rg_tree.specs.TypedPrograms.{IsTypedPredicate, IsTypedSpecification}
use Rattle.rg_tree.specs.Lines.{LineTree, AreTypedLines}

same_bool : {a b : Bool} → IsProp (a ≡ b)
same_bool = Coded-set coded_bool _ _

predicate-prop : (words : List Word) (f : Proposition) → IsProp (IsTypedPredicate words f)
predicate-prop words f = ×_prop (IsTyped-prop (widths_of words) f) same_bool

specification-prop : (words : List Word) (spec : Specification) → IsProp (IsTypedSpecification words spec)
specification-prop words spec =
    hlevel (predicate-prop words spec.pre, IsTyped-prop (widths_of words) spec.rely, IsTyped-prop (widths_of words) spec.guar, predicate-prop words spec.post)

pub AreTypedLines-prop : (words : List Word) (lines : List LineTree) → IsProp (AreTypedLines words lines)
AreTypedLines-prop words [] = Unit-prop
AreTypedLines-prop words (line ∷ lines) = ×_prop (specification-prop words line.spec) (AreTypedLines-prop words lines)
