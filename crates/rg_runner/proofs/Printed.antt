-- Text that waits.
use Rattle.std.proofs.Common.{◌≡◌, ℕ, List, [], ◌∷◌, ◌++◌, sym, ap, ◌∙◌, append_assoc, append-nil, subst}
use Rattle.std.specs.Prelude.{Option}
use Rattle.std.specs.Io.KnownBytes.{Appends, append_known}
use Rattle.std.proofs.KnownBytes.{Appends-trans, append_known-grown, Keeps-refl}
use Rattle.rg_tree.specs.Statements.{ProgramTree}
use Rattle.rg_monitor.specs.Entry.{Entry}
use Rattle.rg_monitor.specs.Lines.{line_of, lines_of}

pub lines_of-push : (p : ProgramTree) (rs : List Entry) (r : Entry) → lines_of p (rs ++ r ∷ []) ≡ lines_of p rs ++ line_of p r
lines_of-push p [] r = append-nil (line_of p r)
lines_of-push p (x ∷ rs) r = ap (λ t. line_of p x ++ t) (lines_of-push p rs r) ∙ sym (append_assoc (line_of p x) (lines_of p rs) (line_of p r))

-- one line more waits
pub added : (p : ProgramTree) (base taken : Option (List ℕ)) (waiting waiting' : List ℕ) (rs rs' : List Entry) (r : Entry) → Appends base (append_known taken waiting) (lines_of p rs)
    → waiting' ≡ waiting ++ line_of p r → rs' ≡ rs ++ r ∷ [] → Appends base (append_known taken waiting') (lines_of p rs')
added p base taken waiting waiting' rs rs' r h text list =
    let grown = append_known-grown (append_known taken waiting) taken waiting waiting' (line_of p r) (Keeps-refl _) text in
    let P : List Entry → Type 0 = λ x. Appends base (append_known taken waiting') (lines_of p x) in
    let Q : List ℕ → Type 0 = λ t. Appends base (append_known taken waiting') t in
    subst P (sym list) (subst Q (sym (lines_of-push p rs r)) (Appends-trans base _ _ (lines_of p rs) (line_of p r) h grown))
