-- Visits of typed steps, of which typed lines speak, are typed.
use Rattle.std.proofs.Common.{◌≡◌, ◌∙◌, ℕ, zero, suc, ◌+◌, ◌<◌, Bool, true, false, cond, List, [], ◌∷◌, ◌++◌, map, length, get_or, drop, Option, Some, None, ap, sym, subst, arith}
use Rattle.std.specs.Prelude.{option_map, slice_index}
use Rattle.std.specs.List.{filter}
use Rattle.std.proofs.lemmas.List.{length-map}
use Rattle.std.proofs.lemmas.List.FromFn.{length-range_with_len}
use Rattle.rg_words.specs.Layout.{Word, widths_of}
use Rattle.rg_tree.specs.Trees.{Proposition}
use Rattle.rg_tree.specs.Statements.{PartTree, ProgramTree}
use Rattle.rg_tree.specs.Typing.{IsTyped}
use Rattle.rg_tree.specs.TypedPrograms.{IsTypedProgram, AreTypedParts}
use Rattle.rg_tree.specs.Lines.{LineTree, AreTypedLines}
use Rattle.rg_tree.specs.declared.numbered.Numbered.{Numbered}
use Rattle.rg_erase.specs.Erased.{staying}
use Rattle.rg_c_plan.specs.Accesses.{StepTree, steps, steps_of_parts, writes, places}
use Rattle.rg_c_plan.specs.Where.{step_where}
use Rattle.rg_apart.specs.Lifted.{lifted_formula, old_places}
use Rattle.rg_apart.specs.Conditions.{VisitTree, is_line_of, visit_of, visits_by, visits}
use Rattle.rg_apart.specs.Inner.View.{visit, IsTypedVisit, AreTypedVisits}
use Rattle.rg_apart.specs.declared.visits.Visit.{Visit}
use Rattle.rg_apart.proofs.Lifted.{staying_length, staying-map, at_old_place, old_within, typed_lifted}
use Rattle.rg_apart.proofs.Typed.{SiteTyped, StepsTyped, site_typed, then_typed, steps_typed}

-- one of typed visits is
pub visit_typed : (widths : List ℕ) (vs : List Visit) (i : ℕ) (v : Visit) → AreTypedVisits widths (map visit vs) → i < length vs → v ≡ get_or vs i v → IsTypedVisit widths (visit v)
visit_typed widths [] i v h less at = absurd (omega arith)
visit_typed widths (w ∷ vs) zero v h less at = subst (λ (x : Visit). IsTypedVisit widths (visit x)) (sym at) h.0
visit_typed widths (w ∷ vs) (suc i) v h less at = visit_typed widths vs i v h.1 (omega arith) at

-- so are those from a place on
pub visits_from : (widths : List ℕ) (vs : List Visit) (i : ℕ) → AreTypedVisits widths (map visit vs) → AreTypedVisits widths (map visit (drop i vs))
visits_from widths [] zero h = h
visits_from widths [] (suc i) h = h
visits_from widths (v ∷ vs) zero h = h
visits_from widths (v ∷ vs) (suc i) h = visits_from widths vs i h.1

both_typed : (widths : List ℕ) (us vs : List VisitTree) → AreTypedVisits widths us → AreTypedVisits widths vs → AreTypedVisits widths (us ++ vs)
both_typed widths [] vs h k = k
both_typed widths (u ∷ us) vs h k = (h.0, both_typed widths us vs h.1 k)

module _ (words : List Word) where
  lines_typed : (lines : List LineTree) → AreTypedLines words lines → (n : Numbered) (f : Proposition) (writing : Bool) → IsTyped (widths_of words) f → AreTypedVisits (widths_of words) (map (visit_of n.part f writing) (filter (is_line_of n.number) lines))
  lines_typed [] t n f writing h = tt
  lines_typed (line ∷ lines) t n f writing h = by (is_line_of n.number line) (lines_typed lines t.1 n f writing h)
    where
      by : (b : Bool) → AreTypedVisits (widths_of words) (map (visit_of n.part f writing) (filter (is_line_of n.number) lines)) → AreTypedVisits (widths_of words) (map (visit_of n.part f writing) (cond b (line ∷ filter (is_line_of n.number) lines) (filter (is_line_of n.number) lines)))
      by true rest = ((t.0.0.0, h), rest)
      by false rest = rest

  by_typed : (lines : List LineTree) → AreTypedLines words lines → (n : Numbered) (o : Option Proposition) (writing : Bool) → SiteTyped (widths_of words) o → AreTypedVisits (widths_of words) (visits_by lines n o writing)
  by_typed lines t n None writing h = tt
  by_typed lines t n (Some f) writing h = lines_typed lines t n f writing h

parts_typed : (words : List Word) (ps : List PartTree) → AreTypedParts words ps → StepsTyped (widths_of words) (steps_of_parts ps)
parts_typed words [] t = tt
parts_typed words (p ∷ ps) t = then_typed (widths_of words) (steps p.body) (steps_of_parts ps) (steps_typed words p.body t.1) (parts_typed words ps t.2)

module _ (words : List Word) (erased : List Bool) (left : List Word) (same : left ≡ staying erased words) where
  abbrev old : List ℕ
  old = old_places erased words

  size : length (widths_of left) ≡ length old
  size = length-map left (λ (w : Word). w.width) ∙ ap (λ (ws : List Word). length ws) same ∙ staying_length erased words (places words) (sym (length-range_with_len 0 (length words)))

  within : (k : ℕ) → k < length old → slice_index old k < length (widths_of words)
  within k less = let w = old_within erased 0 (length words) k less in omega (arith, w, length-map words (λ (x : Word). x.width))

  width_there : (k : ℕ) → k < length old → slice_index (widths_of words) (slice_index old k) ≡ slice_index (widths_of left) k
  width_there k less =
      at_old_place erased (length words) (widths_of words) (length-map words (λ (x : Word). x.width)) k less
      ∙ ap (λ (ws : List ℕ). slice_index ws k) (staying-map (λ (x : Word). x.width) erased words ∙ ap (λ (ws : List Word). widths_of ws) (sym same))

  site_lifted : (o : Option Proposition) → SiteTyped (widths_of left) o → SiteTyped (widths_of words) (option_map (lifted_formula old) o)
  site_lifted None h = tt
  site_lifted (Some f) h = typed_lifted old (widths_of left) size (widths_of words) within width_there f h

  visits_typed : (k : ℕ) (lines : List LineTree) → AreTypedLines words lines → (ss : List StepTree) (ns : List Numbered) → StepsTyped (widths_of left) ss → AreTypedVisits (widths_of words) (visits old k lines ss ns)
  visits_typed k lines t [] ns h = tt
  visits_typed k lines t (s ∷ ss) [] h = tt
  visits_typed k lines t (s ∷ ss) (n ∷ ns) h =
      both_typed (widths_of words) (visits_by lines n (option_map (lifted_formula old) (step_where k s.guard s.act)) (writes k s.act)) (visits old k lines ss ns)
      (by_typed words lines t n (option_map (lifted_formula old) (step_where k s.guard s.act)) (writes k s.act) (site_lifted (step_where k s.guard s.act) (site_typed (widths_of left) k s.guard s.act h.0 h.1)))
      (visits_typed k lines t ss ns h.2)

-- the visits of what is left of a program
pub all_typed : (words : List Word) (erased : List Bool) (q : ProgramTree) (k : ℕ) (lines : List LineTree) (ns : List Numbered) → IsTypedProgram q → q.words ≡ staying erased words → AreTypedLines words lines → AreTypedVisits (widths_of words) (visits (old_places erased words) k lines (steps_of_parts q.parts) ns)
all_typed words erased q k lines ns typed same t = visits_typed words erased q.words same k lines t (steps_of_parts q.parts) ns (parts_typed q.words q.parts typed.parts)
