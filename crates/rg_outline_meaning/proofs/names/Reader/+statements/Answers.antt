use Rattle.std.proofs.Common.{◌≡◌, ◌∙◌, refl, ap, subst, false, pos, [], ◌∷◌, ◌++◌, map, slice_index_or, SFits, arith, rules}
use Rattle.std.specs.Int.{w128}
use Rattle.std.proofs.lemmas.Result.{IfOk-weaker}
use Rattle.std.proofs.lemmas.Int.{to_z-of_z}
use Rattle.rg_tree.specs.ProgramView.{statement}
use Rattle.rg_outline_meaning.specs.declared.meaning.Meaning.TheVariants.{Whole}
use Rattle.rg_outline_meaning.specs.declared.names.Bound.{Bound}
use Rattle.rg_outline_syntax.specs.declared.written.ExpressionKind.TheVariants.{Name}
use Rattle.rg_outline_meaning.specs.Names.{text_of, listed, piece_of, parameters_of, HasKind, Knows, statements}
use Rattle.rg_outline_meaning.specs.Inner.{AreArguments}
use Rattle.rg_outline_meaning.specs.View.{outline, words, names, bound}
use Rattle.rg_outline_meaning.proofs.Placed.{at_place}
use Rattle.rg_outline_meaning.proofs.StatementRules.{items_next, rounds_next, of_rounds, of_use, inside_names, names_with, one_more_bound, no_more_bound}
use Rattle.rg_outline_meaning.proofs.names.Reader.+statements.Goals as goal

pub items-loop-index-preserved : goal.items-loop-index-preserved
items-loop-index-preserved t c =
    let r = c.args.self.now in
    let found = c.in-Some-get.ensures.lookup in
    items_next (outline r) (words r) c.args.waiting_word (names r c.args.names.now) c.listed-index-items.result.now c.loop-index.index-index _ _ c.in-Some-get.item.now c.loop-index.statements.items c.in_ok-own.own.items c.append.new.self.items
    refl c.loop-index-test.true (rw c.deref.ensures.value at (at_place c.deref.result.now _ c.in-Some-get.item.now found.1 found.3.0)) c.in_ok-append.ensures.items c.loop-index.invariant c.in_ok-own.ensures

pub rounds-loop-number-preserved : goal.rounds-loop-number-preserved
rounds-loop-number-preserved t c =
    let r = c.args.self.now in
    let n = names r c.args.names.now in
    let inner = c.loop-number.inner in
    let k = c.loop-number.number-index in
    let z = slice_index_or c.deref-number-items.result.now k (pos 0) in
    let fits : SFits w128 z = search rules in
    let b : Bound = record { name = c.in-For.index; meaning = Whole z } in
    let pushed : c.push.new.self.items ≡ inner.bound.items ++ b ∷ [] = rw (to_z-of_z w128 z fits) at c.in_ok-push.ensures.items in (
      no_more_bound r n inner.bound.items c.push.new.self.items c.pop.new.self.items b c.push.new.self.len c.loop-number.invariant.0 pushed (omega (arith, c.push.new.self.ok.0)) c.pop.ensures.rest,
      rounds_next (outline r) (words r) c.args.waiting_word n (names_with r c.push.new.self.items) (text_of (outline r) c.in-For.index) c.in-For.body c.deref-number-items.result.now k (pos 0) z c.loop-number.statements.items c.in_ok-own.own.items c.append.new.self.items
          refl c.loop-number-test.true c.in_ok-append.ensures.items (one_more_bound r n inner.bound.items c.push.new.self.items b c.loop-number.invariant.0 pushed) c.loop-number.invariant.1 c.in_ok-own.ensures,
    )

pub rounds-returns : goal.rounds-returns
rounds-returns t c =
    let r = c.args.self.now in
    of_rounds (outline r) (words r) c.args.waiting_word (names r c.args.names.now) c.args.kind c.in-For.index c.in-For.range c.in-For.body c.in_ok-numbers.numbers.items c.deref-number-items.result.now c.loop-number.number-index (map statement c.loop-number.statements.items)
    c.in-For.is c.in_ok-want_unbound.ensures c.in_ok-numbers.ensures c.deref-number-items.ensures.value c.loop-number-test.false c.loop-number.invariant.1

pub use_of-returns : goal.use_of-returns
use_of-returns t c =
    let r = c.args.self.now in
    let o = outline r in
    let n = names r c.args.names.now in
    let a = c.in-Name-default-default-default-false in
    let p = c.in-Some-Procedure in
    let parameters = parameters_of o p.named.parameters in
    let body = listed o p.named.body in
    let bs = c.in_ok-bound.bound.items in
    let made : HasKind o c.args.used (Name a.name a.listed a.has_arguments false) = search rules in
    let knows : Knows o n a.name (statements parameters body) = search (rules, p.in-Some-ensures) in
    let same : map (text_of o) c.piece-parameters.result.now ≡ parameters = ap (λ ss. map (text_of o) ss) (c.piece-parameters.ensures ∙ ap (λ xs. piece_of xs p.named.parameters) c.as_slice.ensures.value) in
    let given : AreArguments o (words r) n (listed o a.listed) parameters (map (bound o) bs) = subst (λ ps. AreArguments o (words r) n (listed o a.listed) ps (map (bound o) bs)) same c.in_ok-bound.ensures in
    let inner = inside_names r bs c.args.names.now.bound.items _ given.3 in
    IfOk-weaker c.items.result _ _ (λ ss all. of_use o (words r) c.args.waiting_word n (names_with r bs) c.args.used a.name a.listed a.has_arguments parameters body given.0 (map statement ss.items) made knows c.in_ok-want_arguments.ensures given.1 given.2 inner all) c.items.ensures
