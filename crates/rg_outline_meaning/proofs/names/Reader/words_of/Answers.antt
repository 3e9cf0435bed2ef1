use Rattle.std.proofs.Common.{◌≡◌, ◌-◌, sym, ◌∙◌, ap, subst, [], ◌∷◌, take, drop, length, arith}
use Rattle.std.proofs.lemmas.List.{take_all, length-drop}
use Rattle.std.proofs.lemmas.Result.{IfOk-weaker}
use Rattle.rg_outline_meaning.specs.Names.{text_of}
use Rattle.rg_outline_meaning.specs.Members.{members, AreMembers}
use Rattle.rg_outline_meaning.specs.View.{outline, words}
use Rattle.rg_outline_meaning.proofs.names.Reader.words_of.Goals as goal

pub returns : goal.returns
returns c =
    let rs = c.in_ok-ranges.ranges.now in
    let gs = c.args.given.now in
    let rest : take (length rs - length gs) (drop (length gs) rs) ≡ drop (length gs) rs = take_all (length rs - length gs) (drop (length gs) rs) (omega (arith, length-drop (length gs) rs)) in
    IfOk-weaker
    c.words_at.result
    _
    _
    (λ ks are. (rs, c.in_ok-ranges.ensures, c.in_ok-want_within.ensures, rw (c.deref.ensures.value, c.in_ok-all.ensures, rest) at are))
    c.words_at.ensures
