use Rattle.std.proofs.Common.{◌≡◌, sym, ◌∙◌, true, false, pos, slice_index_or, map, slice_set, ap, refl, [], ◌∷◌, ◌++◌, rules, SFits}
use Rattle.std.specs.Int.{w128}
use Rattle.std.proofs.lemmas.Int.{to_z-of_z}
use Rattle.std.proofs.lemmas.List.{map-append}
use Rattle.rg_outline_meaning.specs.Names.{text_of}
use Rattle.rg_outline_meaning.specs.Members.{fits, IsMember}
use Rattle.rg_outline_meaning.specs.View.{outline, words, candidate}
use Rattle.rg_outline_meaning.proofs.Families.{choices_next, choices_passed}
use Rattle.rg_outline_meaning.proofs.names.Reader.choices.Goals as goal
use Rattle.rg_outline_meaning.proofs.names.Reader.choices.Goals.{in-Some+in_ok-own+in_ok-word+in_ok-push, in_default}

pub loop-number-preserved : goal.loop-number-preserved
loop-number-preserved c =
    let o = outline c.args.self.now in
    let ws = words c.args.self.now in
    let name = text_of o c.args.name in
    let is = c.args.indices.now in
    let zs = c.args.numbers.now in
    let before = map candidate c.loop-number.members.items in
    let k = c.loop-number.number-index in
    let z = slice_index_or zs k (pos 0) in
    let in_range : SFits w128 z = search rules in
    let back = to_z-of_z w128 z in_range in
    elim c.match-branch-2.branch [
      | in-Some+in_ok-own+in_ok-word+in_ok-push w ↦
          (let fit : true ≡ fits c.args.width z = rw (w.in-Some.is, back) at c.in_ok-fitting.ensures.fits in
          let number : z ≡ pos w.in-Some.fitting = rw (w.in-Some.is, back) at c.in_ok-fitting.ensures.some in
          let own : IsMember ws name (slice_set is c.args.place z) w.in_ok-word.word = rw (w.deref.ensures.value, w.in_ok-own.ensures, back) at w.in_ok-word.ensures in
          let members = ap (λ v. map candidate v.items) w.members-is ∙ ap (λ ms. map candidate ms) w.in_ok-push.ensures.items ∙ map-append candidate c.loop-number.members.items (record { number = w.in-Some.fitting; word = w.in_ok-word.word } ∷ []) in
          choices_next ws name is c.args.place c.args.width zs k (pos 0) z before (map candidate c.match-branch-2.members.items) (record { number = w.in-Some.fitting; word = w.in_ok-word.word }) refl c.loop-number-test.true (sym fit) c.loop-number.invariant number own members)
      | in_default w ↦
          (let fit : false ≡ fits c.args.width z = rw (w.in_default.is, back) at c.in_ok-fitting.ensures.fits in
          rw w.members-is (choices_passed ws name is c.args.place c.args.width zs k (pos 0) z before refl c.loop-number-test.true (sym fit) c.loop-number.invariant))
    ]
