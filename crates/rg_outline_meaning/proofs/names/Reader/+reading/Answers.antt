use Rattle.std.proofs.Common.{◌≡◌, ◌+◌, ◌-◌, ◌<◌, ◌≤◌, ℕ, ℤ, sym, ◌∙◌, ap, refl, subst, true, false, pos, List, [], ◌∷◌, ◌++◌, map, take, length, slice_index_or, option_map, Some, slice_get, rules, arith, SFits}
use Rattle.std.specs.Int.{w128}
use Rattle.std.proofs.lemmas.Grind.{common_steps}
use Rattle.std.proofs.lemmas.Int.{to_z-of_z}
use Rattle.std.proofs.lemmas.List.{append-nil, take_all, map-append}
use Rattle.std.proofs.lemmas.Result.{IfOk-weaker}
use Rattle.rg_tree.specs.View.{expression, formula}
use Rattle.rg_outline_syntax.specs.declared.written.ExpressionKind.TheVariants.{Name, Unchanged, UnchangedBut, Bound, Compare, Operate}
use Rattle.rg_outline_meaning.specs.Meanings.{Meaning, whole, value, claim, same_word, IsConjunction, IsUsed}
use Rattle.rg_outline_meaning.specs.Names.{text_of, listed, piece_of, parameters_of, tree, HasKind, Knows, Binds, with_number, inside, bound_to}
use Rattle.rg_outline_meaning.specs.Members.{numbers, without}
use Rattle.rg_outline_meaning.specs.Expressions as rule
use Rattle.rg_outline_meaning.specs.Expressions.{StandsFor, AllStandFor, WordsStandFor, InstancesStandFor, RangeIs, IsUnchanged, no_words, none}
use Rattle.rg_outline_meaning.specs.Inner.{AreArguments, MayBePrimed}
use Rattle.rg_outline_meaning.specs.View.{meaning, sense, known, bound, selected, outline, words, names}
use Rattle.rg_outline_meaning.proofs.Arguments.{next_meaning, all_arguments}
use Rattle.rg_outline_meaning.proofs.Chains.{first_operand, next_operand, all_operands}
use Rattle.rg_outline_meaning.proofs.Collections.{one_more, all_together}
use Rattle.rg_outline_meaning.proofs.Placed.{at_place}
use Rattle.rg_outline_meaning.proofs.Rules.{of_instances}
use Rattle.rg_outline_meaning.proofs.Turns.{next_instance, next_words, words_of_name}
use Rattle.rg_outline_meaning.proofs.Known.{nothing_left, both}
use Rattle.rg_outline_meaning.proofs.names.Reader.+reading.Goals as goal

pub arguments-loop-place-init : goal.arguments-loop-place-init
arguments-loop-place-init t c =
    let o = outline c.args.self.now in
    let ws = words c.args.self.now in
    let ns = names c.args.self.now c.args.names.now in
    rw c.new-bound.ensures.items (refl, none ns)

pub arguments-loop-place-preserved : goal.arguments-loop-place-preserved
arguments-loop-place-preserved t c =
    let o = outline c.args.self.now in
    let ws = words c.args.self.now in
    let ns = names c.args.self.now c.args.names.now in (
      grind (arith, common_steps, map-append),
      next_meaning o ws ns c.listed-indices.result.now (λ b. meaning b.meaning) c.loop-place.place _ _ c.loop-place.bound.items c.push.new.self.items _ refl c.loop-place-test.true c.loop-place.invariant.1 c.in_ok-meaning.ensures c.in_ok-push.ensures.items,
    )

pub arguments-returns : goal.arguments-returns
arguments-returns t c =
    let o = outline c.args.self.now in
    let ws = words c.args.self.now in
    let ns = names c.args.self.now c.args.names.now in
    let long : length c.listed-indices.result.now ≡ length c.args.parameters.now = omega arith in
    all_arguments o ws ns c.listed-indices.result.now (listed o c.args.listed) c.args.parameters.now c.loop-place.bound.items c.loop-place.place c.listed-indices.ensures long c.loop-place-test.false c.loop-place.invariant.0 c.loop-place.invariant.1

pub chain-loop-place-init : goal.chain-loop-place-init
chain-loop-place-init t c =
    let o = outline c.args.self.now in
    let ws = words c.args.self.now in
    let ns = names c.args.self.now c.args.names.now in
    λ index made. first_operand o ws ns c.in_ok-first.links.items index c.in_ok-first.first (formula c.in_ok-formula.formula) (c.in_ok-first.ensures index made) c.in_ok-formula.ensures

pub chain-loop-place-preserved : goal.chain-loop-place-preserved
chain-loop-place-preserved t c =
    let o = outline c.args.self.now in
    let ws = words c.args.self.now in
    let ns = names c.args.self.now c.args.names.now in
    let links = c.in_ok-first.links.items in
    let l = c.index-link.result.now in
    let low : c.loop-place.place < length links = omega arith in
    let there : c.len.result - 1 - c.loop-place.place ≡ length links - 1 - c.loop-place.place = omega arith in
    let at : l ≡ slice_index_or links (length links - 1 - c.loop-place.place) l = subst (λ k. l ≡ slice_index_or links k l) there c.index-link.ensures in
    λ index made. next_operand o ws ns links index c.loop-place.place l l (formula c.loop-place.formula) (formula c.in_ok-next.next) (formula c.in_ok-formula-2.formula) low at c.in_ok-next.ensures c.in_ok-formula-2.ensures (c.loop-place.invariant index made)

pub chain-returns : goal.chain-returns
chain-returns t c =
    let o = outline c.args.self.now in
    let ws = words c.args.self.now in
    let ns = names c.args.self.now c.args.names.now in
    let links = c.in_ok-first.links.items in
    let far : length links ≤ c.loop-place.place = omega arith in
    λ index made. all_operands o ws ns links index c.loop-place.place (formula c.loop-place.formula) far (c.loop-place.invariant index made)

pub claim-returns-in_ok-second-in-Compare : goal.claim-returns-in_ok-second-in-Compare
claim-returns-in_ok-second-in-Compare t c =
    let o = outline c.args.self.now in
    let ws = words c.args.self.now in
    let ns = names c.args.self.now c.args.names.now in
    let k = c.in-Compare in
    let made : HasKind o c.args.index (Compare k.comparison k.left k.right) = subst (λ kind. HasKind o c.args.index kind) k.is c.in_ok-inner.ensures in
    IfOk-weaker c.compared.result _ _
    (λ p is. rule.comparison ns c.args.index k.left k.right k.comparison (meaning c.in_ok-first-in-Compare.first) (meaning c.in_ok-second-in-Compare.second) (formula p) made c.in_ok-first-in-Compare.ensures c.in_ok-second-in-Compare.ensures is)
    c.compared.ensures

pub claim-returns-in_ok-words-in-Unchanged : goal.claim-returns-in_ok-words-in-Unchanged
claim-returns-in_ok-words-in-Unchanged t c =
    let o = outline c.args.self.now in
    let ws = words c.args.self.now in
    let ns = names c.args.self.now c.args.names.now in
    let k = c.in-Unchanged in
    let made : HasKind o c.args.index (Unchanged k.listed) = subst (λ kind. HasKind o c.args.index kind) k.is c.in_ok-inner.ensures in
    IfOk-weaker c.same_words.result _ _
    (λ p is. rule.unchanged ns c.args.index k.listed c.in_ok-words-in-Unchanged.words.items (formula p) made c.in_ok-words-in-Unchanged.ensures (subst (λ ks. IsConjunction (map same_word ks) (formula p)) c.deref.ensures.value is))
    c.same_words.ensures

pub claim-returns-in_ok-words-in-UnchangedBut : goal.claim-returns-in_ok-words-in-UnchangedBut
claim-returns-in_ok-words-in-UnchangedBut t c =
    let o = outline c.args.self.now in
    let ws = words c.args.self.now in
    let ns = names c.args.self.now c.args.names.now in
    let k = c.in-UnchangedBut in
    let made : HasKind o c.args.index (UnchangedBut k.listed) = subst (λ kind. HasKind o c.args.index kind) k.is c.in_ok-inner.ensures in
    IfOk-weaker c.all_same_but.result _ _
    (λ p is. rule.unchanged_but ns c.args.index k.listed c.in_ok-words-in-UnchangedBut.words.items (formula p) made c.in_ok-words-in-UnchangedBut.ensures (subst (λ ks. IsUnchanged ws ks (formula p)) c.deref-in-UnchangedBut.ensures.value is))
    c.all_same_but.ensures

pub collected-loop-number-init : goal.collected-loop-number-init
collected-loop-number-init t c =
    let o = outline c.args.self.now in
    let ws = words c.args.self.now in
    let ns = names c.args.self.now c.args.names.now in
    let i = c.args.instances in
    (c.in_ok-inner.ensures, [], rule.no_number ns i.binder (text_of o i.index) i.body, refl)

pub collected-loop-number-preserved : goal.collected-loop-number-preserved
collected-loop-number-preserved t c =
    let o = outline c.args.self.now in
    let ws = words c.args.self.now in
    let ns = names c.args.self.now c.args.names.now in
    let i = c.args.instances in
    let index = text_of o i.index in
    let zs = c.deref-number-items.result.now in
    let k = c.loop-number.number-index in
    let z = slice_index_or zs k (pos 0) in
    let fits : SFits w128 z = search rules in
    let back = to_z-of_z w128 z fits in
    let inner = names c.args.self.now c.loop-number.inner in
    let m = meaning c.in_ok-next.next in
    let so = c.loop-number.invariant in
    let there : StandsFor o ws (with_number inner index z) i.body m = subst (λ y. StandsFor o ws (with_number inner index y) i.body m) back c.in_ok-next.ensures.stands in
    let stands : StandsFor o ws (with_number ns index z) i.body m = subst (λ n. StandsFor o ws (with_number n index z) i.body m) so.0 there in (
      c.in_ok-next.ensures.kept ∙ so.0,
      so.1 ++ m ∷ [],
      next_instance o ws ns i.binder index i.body zs k (pos 0) z so.1 m refl c.loop-number-test.true so.2 stands c.in_ok-next.ensures.kind,
      one_more i.binder so.1 (option_map meaning c.loop-number.made) m (meaning c.in_ok-with_next.field-0) so.3 c.in_ok-with_next.ensures,
    )

pub collected-returns : goal.collected-returns
collected-returns t c =
    let o = outline c.args.self.now in
    let ws = words c.args.self.now in
    let ns = names c.args.self.now c.args.names.now in
    let i = c.args.instances in
    let so = c.loop-number.invariant in
    let all = take_all c.loop-number.number-index c.deref-number-items.result.now c.loop-number-test.false ∙ c.deref-number-items.ensures.value in
    record {
      zs = c.in_ok-numbers.numbers.items;
      ms = so.1;
      fresh = c.in_ok-want_unbound.ensures;
      numbers = c.in_ok-numbers.ensures;
      each = subst (λ zs. InstancesStandFor o ws ns i.binder (text_of o i.index) i.body zs so.1) all so.2;
      made = all_together i.binder so.1 (option_map meaning c.loop-number.made) (meaning c.all_of.result) so.3 c.all_of.ensures;
    }

pub listed_words-loop-index-init : goal.listed_words-loop-index-init
listed_words-loop-index-init t c =
    let o = outline c.args.self.now in
    let ws = words c.args.self.now in
    let ns = names c.args.self.now c.args.names.now in
    subst (λ ks. WordsStandFor o ws ns [] ks) (sym c.new-words.ensures.items) (no_words ns)

pub listed_words-loop-index-preserved : goal.listed_words-loop-index-preserved
listed_words-loop-index-preserved t c =
    let o = outline c.args.self.now in
    let ws = words c.args.self.now in
    let ns = names c.args.self.now c.args.names.now in
    next_words o ws ns c.listed-index-items.result.now c.loop-index.index-index _ _ c.loop-index.words.items c.in_ok-own.own.items c.append.new.self.items refl c.loop-index-test.true c.loop-index.invariant c.in_ok-own.ensures c.in_ok-append.ensures.items

pub meaning-returns-in_ok-second-in-Operate : goal.meaning-returns-in_ok-second-in-Operate
meaning-returns-in_ok-second-in-Operate t c =
    let o = outline c.args.self.now in
    let ws = words c.args.self.now in
    let ns = names c.args.self.now c.args.names.now in
    let k = c.in-Operate in
    let made : HasKind o c.args.index (Operate k.operator k.left k.right) = subst (λ kind. HasKind o c.args.index kind) k.is c.in_ok-number.ensures in
    IfOk-weaker c.operated.result _ _
    (λ m is. rule.operation ns c.args.index k.left k.right k.operator (meaning c.in_ok-first-in-Operate.first) (meaning c.in_ok-second-in-Operate.second) (meaning m) made c.in_ok-first-in-Operate.ensures c.in_ok-second-in-Operate.ensures is)
    c.operated.ensures

pub meaning-returns-in-Bound : goal.meaning-returns-in-Bound
meaning-returns-in-Bound t c =
    let o = outline c.args.self.now in
    let ws = words c.args.self.now in
    let ns = names c.args.self.now c.args.names.now in
    let k = c.in-Bound in
    let made : HasKind o c.args.index (Bound k.binder k.index k.range k.body) = subst (λ kind. HasKind o c.args.index kind) k.is c.in_ok-number.ensures in
    IfOk-weaker c.collected.result _ _ (λ m h. of_instances o ws ns c.args.index k.binder k.index k.range k.body (meaning m) made h) c.collected.ensures

pub meanings-loop-index-init : goal.meanings-loop-index-init
meanings-loop-index-init t c =
    let o = outline c.args.self.now in
    let ws = words c.args.self.now in
    let ns = names c.args.self.now c.args.names.now in
    subst (λ xs. AllStandFor o ws ns [] (map meaning xs)) (sym c.new-meanings.ensures.items) (none ns)

pub meanings-loop-index-preserved : goal.meanings-loop-index-preserved
meanings-loop-index-preserved t c =
    let o = outline c.args.self.now in
    let ws = words c.args.self.now in
    let ns = names c.args.self.now c.args.names.now in
    next_meaning o ws ns c.args.indices.now meaning c.loop-index.index-index _ _ c.loop-index.meanings.items c.push.new.self.items c.in_ok-meaning.meaning refl c.loop-index-test.true c.loop-index.invariant c.in_ok-meaning.ensures c.in_ok-push.ensures.items

pub named-returns-in-Some : goal.named-returns-in-Some
named-returns-in-Some t c =
    let o = outline c.args.self.now in
    let ws = words c.args.self.now in
    let ns = names c.args.self.now c.args.names.now in
    let n = c.in-Name in
    let there = c.in-Some.ensures.some in
    let m = meaning c.in_ok-copy.copy in
    let made : HasKind o c.args.index (Name n.name n.listed false n.is_primed) = subst (λ kind. HasKind o c.args.index kind) (n.is ∙ ap (λ b. Name n.name n.listed b n.is_primed) c.if-has_arguments.false) c.in_ok-name.ensures in
    let empty : listed o n.listed ≡ [] = sym c.listed.ensures ∙ nothing_left c.listed.result.now c.if-not-is_empty.ensures in
    let binds : Binds ns there.0 (text_of o n.name) m = subst (λ x. Binds ns there.0 (text_of o n.name) x) (sym c.in_ok-copy.ensures) there.1 in
    IfOk-weaker c.used_bound.result _ _
    (λ r is. rule.bound ns c.args.index there.0 n.name n.listed n.is_primed m (meaning r) made binds empty is.1 is.0)
    (both c.used_bound.result (λ r. IsUsed n.is_primed m (meaning r)) (λ r. MayBePrimed n.is_primed m) c.used_bound.ensures.used c.used_bound.ensures.no_number)

pub named-returns-in_ok-meaning-in-Let : goal.named-returns-in_ok-meaning-in-Let
named-returns-in_ok-meaning-in-Let t c =
    let o = outline c.args.self.now in
    let ws = words c.args.self.now in
    let ns = names c.args.self.now c.args.names.now in
    let n = c.in-Name in
    let l = c.in-Let.named in
    let bs = map (bound o) c.in_ok-bound-in-Let.bound.items in
    let m = meaning c.in_ok-meaning-in-Let.meaning in
    let made : HasKind o c.args.index (Name n.name n.listed n.has_arguments n.is_primed) = subst (λ kind. HasKind o c.args.index kind) n.is c.in_ok-name.ensures in
    let knows : Knows o ns n.name (tree (parameters_of o l.parameters) l.body) = subst (λ s. Knows o ns n.name (sense o s)) c.in-Let.is c.in-Some-known.ensures in
    let given : AreArguments o ws ns (listed o n.listed) (parameters_of o l.parameters) bs = subst (λ ps. AreArguments o ws ns (listed o n.listed) (map (text_of o) ps) bs) (c.piece-parameters.ensures ∙ ap (λ xs. piece_of xs l.parameters) c.as_slice.ensures.value) c.in_ok-bound-in-Let.ensures in
    let stands : StandsFor o ws (inside ns (bound_to (parameters_of o l.parameters) given.0)) l.body m = subst (λ b. StandsFor o ws (record { known = ns.known; bound = b }) l.body m) given.3 c.in_ok-meaning-in-Let.ensures in
    IfOk-weaker c.used.result _ _
    (λ r is. rule.named ns c.args.index l.body n.name n.listed n.has_arguments n.is_primed (parameters_of o l.parameters) given.0 m (meaning r) made knows c.in_ok-want_arguments-in-Let.ensures given.1 given.2 stands is)
    c.used.ensures

pub named-returns-in_ok-value_of-in-Family : goal.named-returns-in_ok-value_of-in-Family
named-returns-in_ok-value_of-in-Family t c =
    let o = outline c.args.self.now in
    let ws = words c.args.self.now in
    let ns = names c.args.self.now c.args.names.now in
    let n = c.in-Name in
    let s = selected c.in_ok-selected-in-Family.selected in
    let made : HasKind o c.args.index (Name n.name n.listed false n.is_primed) = subst (λ kind. HasKind o c.args.index kind) (cc (n.is, c.if-not-has_arguments.true)) c.in_ok-name.ensures in
    IfOk-weaker c.used-in-Family.result _ _
    (λ r is. rule.selection ns c.args.index n.name n.listed n.is_primed s (meaning r) made c.in_ok-selected-in-Family.ensures (subst (λ e. IsUsed n.is_primed (value e) (meaning r)) c.in_ok-value_of-in-Family.ensures is))
    c.used-in-Family.ensures

pub named-returns-in-Number : goal.named-returns-in-Number
named-returns-in-Number t c =
    let o = outline c.args.self.now in
    let ws = words c.args.self.now in
    let ns = names c.args.self.now c.args.names.now in
    let n = c.in-Name in
    let made : HasKind o c.args.index (Name n.name n.listed false false) = subst (λ kind. HasKind o c.args.index kind) (cc (n.is, c.if-not-has_arguments-2.true, c.if-not-is_primed.true)) c.in_ok-name.ensures in
    let empty : listed o n.listed ≡ [] = sym c.listed-then-not-is_primed.ensures ∙ nothing_left c.listed-then-not-is_primed.result.now c.if-is_empty.ensures in
    let fits : SFits w128 c.in-Number.number = search rules in
    subst (λ z. StandsFor o ws ns c.args.index (whole z)) (sym (to_z-of_z w128 c.in-Number.number fits)) (rule.number_of_part ns c.args.index n.name n.listed c.in-Number.number made (subst (λ s. Knows o ns n.name (sense o s)) c.in-Number.is c.in-Some-known.ensures) empty)

pub range-returns : goal.range-returns
range-returns t c =
    let o = outline c.args.self.now in
    let ws = words c.args.self.now in
    let ns = names c.args.self.now c.args.names.now in
    let found = c.in-Some.ensures.lookup in
    let r = c.in-Some.range.now in
    let there : slice_get o.written.ranges.items c.args.range ≡ Some r = rw c.deref.ensures.value at (at_place c.deref.result.now c.args.range r found.1 found.3.0) in
    let least : SFits w128 c.in_ok-first.first = search rules in
    let most : SFits w128 c.in_ok-last.last = search rules in
    let all : c.in_ok-all.all.items ≡ numbers c.in_ok-first.first c.in_ok-last.last = rw (to_z-of_z w128 c.in_ok-first.first least, to_z-of_z w128 c.in_ok-last.last most) at c.in_ok-all.ensures in
    let left = c.in_ok-left_out.left_out.items in
    let out : AllStandFor o ws ns (listed o r.without) (map (λ z. whole z) left) = subst (λ is. AllStandFor o ws ns is (map (λ z. whole z) left)) c.listed.ensures c.in_ok-left_out.ensures in
    let h : RangeIs o ws ns c.args.range (without left (numbers c.in_ok-first.first c.in_ok-last.last)) = rule.range ns c.args.range r.first r.last r.without r.span c.in_ok-first.first c.in_ok-last.last left there c.in_ok-first.ensures c.in_ok-last.ensures out in
    IfOk-weaker c.numbers_without.result _ _
    (λ zs is. subst (λ xs. RangeIs o ws ns c.args.range xs) (sym (is ∙ ap (λ xs. without c.deref-3.result.now xs) (c.deref-2.ensures.value ∙ all) ∙ ap (λ xs. without xs (numbers c.in_ok-first.first c.in_ok-last.last)) c.deref-3.ensures.value)) h)
    c.numbers_without.ensures

pub selected-returns : goal.selected-returns
selected-returns t c =
    let o = outline c.args.self.now in
    let ws = words c.args.self.now in
    let ns = names c.args.self.now c.args.names.now in
    let ms = map meaning c.in_ok-meanings.meanings.items in
    let these : AllStandFor o ws ns (listed o c.args.listed) ms = subst (λ is. AllStandFor o ws ns is ms) c.listed.ensures c.in_ok-meanings.ensures in
    let all : AllStandFor o ws ns (listed o c.args.listed) (map meaning c.deref.result.now) = subst (λ xs. AllStandFor o ws ns (listed o c.args.listed) (map meaning xs)) (sym c.deref.ensures.value) these in
    IfOk-weaker c.select.result _ _ (λ s h. h all) c.select.ensures

pub words_named-returns : goal.words_named-returns
words_named-returns t c =
    let o = outline c.args.self.now in
    let ws = words c.args.self.now in
    let ns = names c.args.self.now c.args.names.now in
    let n = c.in-Name-default-default-false-false in
    let zs = c.in_ok-given.given.items in
    let made : HasKind o c.args.index (Name n.name n.listed false false) = subst (λ kind. HasKind o c.args.index kind) (cc (n.is, n.has_arguments-is, n.is_primed-is)) c.in_ok-kind.ensures in
    let all : AllStandFor o ws ns (listed o n.listed) (map (λ z. whole z) zs) = subst (λ is. AllStandFor o ws ns is (map (λ z. whole z) zs)) c.listed.ensures c.in_ok-given.ensures in
    IfOk-weaker c.words_of.result _ _
    (λ ks h. words_of_name o ws ns c.args.index n.name n.listed zs ks.items made all (rw c.deref.ensures.value at h))
    c.words_of.ensures
