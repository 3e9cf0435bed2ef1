use Rattle.std.proofs.Common.{◌≡◌, ◌∙◌, sym, ap, subst, ◌∷◌, length, map, filter, slice_get, Some, rules, arith, SFits}
use Rattle.std.specs.Int.{w128}
use Rattle.std.proofs.lemmas.Int.{to_z-of_z}
use Rattle.std.specs.Prelude.{option_map}
use Rattle.std.proofs.lemmas.List.{length-map}
use Rattle.rg_tree.specs.View.{expression}
use Rattle.rg_outline_meaning.specs.Meanings.{whole}
use Rattle.rg_outline_meaning.specs.Names.{text_of, listed}
use Rattle.rg_outline_meaning.specs.Members.{numbers, fits, AreWithin, IsMember}
use Rattle.rg_outline_meaning.specs.Expressions as rule
use Rattle.rg_outline_meaning.specs.Expressions.{AllStandFor}
use Rattle.rg_outline_meaning.specs.View.{meaning, candidate, outline, words, names}
use Rattle.rg_outline_meaning.specs.Inner.{AreIndices, AreCandidatesAt}
use Rattle.rg_outline_meaning.proofs.Placed.{at_place}
use Rattle.rg_outline_meaning.proofs.Several.{several_at}
use Rattle.rg_outline_meaning.proofs.Indices.{as_many}
use Rattle.rg_outline_meaning.proofs.names.Reader.select.Goals as goal

pub returns-in-None : goal.returns-in-None
returns-in-None c = λ all.
    let o = outline c.args.self.now in
    let ws = words c.args.self.now in
    let ns = names c.args.self.now c.args.names.now in
    let ms = c.args.meanings.now in
    let zs = c.in_ok-indices.indices.items in
    let ranges = c.in_ok-ranges.ranges.now in
    let are : map meaning ms ≡ map (λ z. whole z) zs = rw c.in-None.is at c.in_ok-indices.ensures in
    let same : length ms ≡ length ranges = omega arith in
    let count : length zs ≡ length ranges = as_many (map meaning ms) zs (option_map (λ p. (p.0, expression p.1)) c.in_ok-indices.choosing) c.in_ok-indices.ensures ∙ length-map ms meaning ∙ same in
    rule.single ns c.in_ok-member-in-None.field-0 c.args.name c.args.listed ranges zs c.in_ok-ranges.ensures (subst (λ xs. AllStandFor o ws ns (listed o c.args.listed) xs) are all) count
    (subst (λ is. AreWithin ranges is) c.deref.ensures.value c.in_ok-want_within.ensures)
    (subst (λ is. IsMember ws (text_of o c.args.name) is c.in_ok-member-in-None.field-0) c.deref-in-None.ensures.value c.in_ok-member-in-None.ensures)

pub returns : goal.returns
returns c = λ all.
    let o = outline c.args.self.now in
    let ws = words c.args.self.now in
    let ns = names c.args.self.now c.args.names.now in
    let name = text_of o c.args.name in
    let ms = c.args.meanings.now in
    let zs = c.in_ok-indices.indices.items in
    let ranges = c.in_ok-ranges.ranges.now in
    let place = c.in-Some.place in
    let e = expression c.in-Some.value in
    let range = c.in-Some-get.range.now in
    let width = c.in_ok-width-in-Some.width in
    let made = c.in_ok-members-in-Some.members.items in
    let choosing : option_map (λ p. (p.0, expression p.1)) c.in_ok-indices.choosing ≡ Some (place, e) = ap (option_map (λ p. (p.0, expression p.1))) c.in-Some.is in
    let are : AreIndices (map meaning ms) zs (Some (place, e)) = subst (AreIndices (map meaning ms) zs) choosing c.in_ok-indices.ensures in
    let same : length ms ≡ length ranges = omega arith in
    let count : length zs ≡ length ranges = as_many (map meaning ms) zs (Some (place, e)) are ∙ length-map ms meaning ∙ same in
    let found = c.in-Some-get.ensures.lookup in
    let at : slice_get ranges place ≡ Some range = at_place ranges place range found.1 found.3.0 in
    let first = c.in_ok-width-in-Some.ensures.first in
    let least : SFits w128 range.0 = search rules in
    let most : SFits w128 range.1 = search rules in
    let numbered : c.in_ok-all-in-Some.all.items ≡ numbers range.0 range.1 = rw (to_z-of_z w128 range.0 least, to_z-of_z w128 range.1 most) at c.in_ok-all-in-Some.ensures in
    let placed : AreCandidatesAt ws name zs place (filter (fits width) c.deref-in-Some-2.result.now) (map candidate made) = subst (λ is. AreCandidatesAt ws name is place (filter (fits width) c.deref-in-Some-2.result.now) (map candidate made)) c.deref-in-Some.ensures.value c.in_ok-members-in-Some.ensures in
    let chosen : AreCandidatesAt ws name zs place (filter (fits width) (numbers range.0 range.1)) (map candidate made) = subst (λ xs. AreCandidatesAt ws name zs place (filter (fits width) xs) (map candidate made)) (c.deref-in-Some-2.ensures.value ∙ numbered) placed in
    let split : made ≡ c.in-Some-split_first.first.now ∷ c.in_ok-rest-in-Some.rest.items = sym c.deref-in-Some-3.ensures.value ∙ c.in-Some-split_first.ensures.cases.0 ∙ ap (λ xs. c.in-Some-split_first.first.now ∷ xs) (sym c.in_ok-rest-in-Some.ensures.items) in
    several_at o ws ns place first.0 c.args.name c.args.listed ranges zs e range width (candidate c.in-Some-split_first.first.now) (map candidate c.in_ok-rest-in-Some.rest.items) c.in_ok-ranges.ensures
    (subst (λ xs. AllStandFor o ws ns (listed o c.args.listed) xs) are.1 all) count
    (subst (λ is. AreWithin ranges is) c.deref.ensures.value c.in_ok-want_within.ensures) at first.1 first.2
    (subst (λ xs. AreCandidatesAt ws name zs place (filter (fits width) (numbers range.0 range.1)) (map candidate xs)) split chosen)
