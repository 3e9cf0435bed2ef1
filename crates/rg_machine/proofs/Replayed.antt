-- Events that happen, and fixed words that agree.
use Rattle.std.proofs.Common.{◌≡◌, ℕ, zero, suc, ◌+◌, ◌-◌, ◌<◌, ◌≤◌, true, false, List, [], ◌∷◌, ◌++◌, length, map, take, drop, get_or, Option, Some, None, refl, sym, subst, ap, ◌∙◌, add-one, arith}
use Rattle.std.specs.Prelude.{slice_get, slice_index, slice_index_or, ◌↔◌}
use Rattle.rg_words.specs.Layout.{Word, widths_of, fixed_of}
use Rattle.rg_words.specs.States.{SameIf, AgreeOnFixed}
use Rattle.rg_tree.specs.Traces.{State, Step}
use Rattle.rg_code.specs.Code.{BlockTree, do_block, await_block, test_block, end_block, Makes_step, is_end, PlacesGo}
use Rattle.rg_machine.specs.declared.event.Event.{Event}
use Rattle.rg_machine.specs.declared.event.Event.TheVariants.{Part, Environment}
use Rattle.rg_machine.specs.Machine.{Configuration, IsStepOf, CanStep, IsAtEnd, block_of}
use Rattle.rg_machine.specs.Replay.{Happening, by_part, by_environment, happening, EventFits, EventsFit, Leads, Replays}

-- the words from a place on agree where the word there does, and those after it
pub agree_at : (words : List Word) (s t : State) (k : ℕ) → k < length words → k < length s → k < length t → AgreeOnFixed (drop k words) (drop k s) (drop k t) ↔ (SameIf (slice_index_or (fixed_of words) k false) (slice_index s k) (slice_index t k) × AgreeOnFixed (drop (suc k) words) (drop (suc k) s) (drop (suc k) t))
unfolding AgreeOnFixed
agree_at (w ∷ ws) (x ∷ s) (y ∷ t) zero a b c = ((λ h. h), (λ h. h))
agree_at (w ∷ ws) (x ∷ s) (y ∷ t) (suc k) a b c = agree_at ws s t k (omega arith) (omega arith) (omega arith)
agree_at [] s t k a b c = absurd (omega arith)
agree_at (w ∷ ws) [] t k a b c = absurd (omega arith)
agree_at (w ∷ ws) (x ∷ s) [] k a b c = absurd (omega arith)

pub agree_end : (words : List Word) (s t : State) (k : ℕ) → length words ≤ k → AgreeOnFixed (drop k words) s t
unfolding AgreeOnFixed
agree_end [] s t zero h = tt
agree_end [] s t (suc k) h = tt
agree_end (w ∷ ws) s t zero h = absurd (omega arith)
agree_end (w ∷ ws) s t (suc k) h = agree_end ws s t k (omega arith)

-- an end makes no step
end_makes_none : (b : Option BlockTree) (s t : State) (to : ℕ) → is_end b ≡ true → Makes_step b s t to → ⊥
end_makes_none None s t to e m = m
end_makes_none (Some (do_block row next act)) s t to e m = cc e
end_makes_none (Some (await_block row next b act)) s t to e m = cc e
end_makes_none (Some (test_block row yes_place no_place b)) s t to e m = cc e
end_makes_none (Some end_block) s t to e m = m

-- the step of a part is a step of its block
step_made : (i : ℕ) (cs : List (List BlockTree)) (ks ks' : List ℕ) (j : ℕ) (s : State) (x : Step) → PlacesGo i cs ks ks' s x → j < length cs → x.who ≡ i + j → (to : ℕ) × Makes_step (slice_get (get_or cs j []) (get_or ks j 0)) s x.after to
step_made i [] [] [] j s x g less who = absurd (omega arith)
step_made i (c ∷ cs) (k ∷ ks) (k' ∷ ks') zero s x g less who = (k', g.0 (omega (arith, who)))
step_made i (c ∷ cs) (k ∷ ks) (k' ∷ ks') (suc j) s x g less who = step_made (suc i) cs ks ks' j s x g.2 (omega arith) (omega (arith, who))
step_made i _ _ _ j s x g less who = absurd g

can_step : (c : Configuration) (i : ℕ) (d : Configuration) → 0 < i → i ≤ length c.codes → IsStepOf c i d → CanStep c i
can_step c i d some most h =
    let m = step_made 1 c.codes c.places d.places (i - 1) c.state (record { who = i; after = d.state }) h.goes (omega (arith, some, most)) (omega (arith, some)) in
    (d.state, m.0, m.1)

pub blocked_refuses : (c : Configuration) (i : ℕ) → (0 < i) × (i ≤ length c.codes) → (CanStep c i → ⊥) → (d : Configuration) → IsStepOf c i d → ⊥
blocked_refuses c i part none d h = none (can_step c i d part.0 part.1 h)

pub end_refuses : (c : Configuration) (i : ℕ) → (0 < i) × (i ≤ length c.codes) → IsAtEnd c i → (d : Configuration) → IsStepOf c i d → ⊥
end_refuses c i part at d h =
    let r = can_step c i d part.0 part.1 h in
    end_makes_none (block_of c i) c.state r.0 r.1 at r.2

-- what fits goes on to fit
led_words : (c d : Configuration) (e : Happening) → Leads c e d → (d.words ≡ c.words) × (d.codes ≡ c.codes)
led_words c d (by_part i) h = (h.words, h.codes)
led_words c d (by_environment t) h = (h.words, h.codes)

one_fits : (c d : Configuration) (e : Event) → d.words ≡ c.words → d.codes ≡ c.codes → EventFits c e → EventFits d e
one_fits c d (Part i) w k h = (h.0, subst (λ cs. i ≤ length {A = List BlockTree} cs) (sym k) h.1)
one_fits c d (Environment s) w k h = h ∙ ap (λ ws. widths_of ws) (sym w)

all_fit : (c d : Configuration) (es : List Event) → d.words ≡ c.words → d.codes ≡ c.codes → EventsFit c es → EventsFit d es
all_fit c d [] w k h = tt
all_fit c d (e ∷ es) w k h = (one_fits c d e w k h.0, all_fit c d es w k h.1)

pub fit_on : (c d : Configuration) (e : Happening) (es : List Event) → Leads c e d → EventsFit c es → EventsFit d es
fit_on c d e es h f = let q = led_words c d e h in all_fit c d es q.0 q.1 f

pub fit_at : (c : Configuration) (es : List Event) (i : ℕ) (e : Event) → EventsFit c es → i < length es → e ≡ get_or es i e → EventFits c e
fit_at c [] i e h less at = absurd (omega arith)
fit_at c (x ∷ es) zero e h less at = subst (λ (y : Event). EventFits c y) (sym at) h.0
fit_at c (x ∷ es) (suc i) e h less at = fit_at c es i e h.1 (omega arith) at

-- one event more
replays_push : (c m d : Configuration) (es : List Happening) (e : Happening) → Replays c es m → Leads m e d → Replays c (es ++ e ∷ []) d
replays_push c m d [] e h k = (d, subst (λ x. Leads x e d) h k, refl)
replays_push c m d (x ∷ es) e h k = (h.0, h.1, replays_push h.0 m d es e h.2 k)

taken : (es : List Event) (i : ℕ) (e : Event) → i < length es → e ≡ get_or es i e → map happening (take (suc i) es) ≡ map happening (take i es) ++ happening e ∷ []
taken [] i e less at = absurd (omega arith)
taken (x ∷ es) zero e less at = ap (λ (y : Event). happening y ∷ []) (sym at)
taken (x ∷ es) (suc i) e less at = ap (λ l. happening x ∷ l) (taken es i e (omega arith) at)

pub replays_on : (c m d : Configuration) (es : List Event) (i : ℕ) (e : Event) → i < length es → e ≡ get_or es i e → Replays c (map happening (take i es)) m → Leads m (happening e) d → Replays c (map happening (take (i + 1) es)) d
replays_on c m d es i e less at h k =
    let q = taken es i e less at ∙ refl in
    let n = ap (λ j. map happening (take j es)) (add-one i) in
    subst (λ l. Replays c l d) (sym (n ∙ q)) (replays_push c m d (map happening (take i es)) (happening e) h k)

-- the event that comes next
mapped : (es : List Event) (i : ℕ) (e : Event) → i < length es → e ≡ get_or es i e → slice_get (map happening es) i ≡ Some (happening e)
mapped [] i e less at = absurd (omega arith)
mapped (x ∷ es) zero e less at = ap (λ (y : Event). Some (happening y)) (sym at)
mapped (x ∷ es) (suc i) e less at = mapped es i e (omega arith) at

pub stops_at : (c : Configuration) (es : List Event) (i : ℕ) (e : Event) → i < length es → e ≡ get_or es i e → ((d : Configuration) → Leads c (happening e) d → ⊥) → (h : Happening) → slice_get (map happening es) i ≡ Some h → (d : Configuration) → Leads c h d → ⊥
stops_at c es i e less at none h is d k =
    let q = mapped es i e less at in
    let same : happening e ≡ h = cc (q, is) in
    none d (subst (λ x. Leads c x d) (sym same) k)

pub none_left : (c : Configuration) (es : List Event) (i : ℕ) → length es ≤ i → (h : Happening) → slice_get (map happening es) i ≡ Some h → (d : Configuration) → Leads c h d → ⊥
none_left c [] zero less h is d k = cc is
none_left c [] (suc i) less h is d k = cc is
none_left c (x ∷ es) zero less h is d k = absurd (omega arith)
none_left c (x ∷ es) (suc i) less h is d k = none_left c es i (omega arith) h is d k
