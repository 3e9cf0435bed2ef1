use Rattle.std.proofs.Common.{◌≡◌, ◌∙◌, ◌<◌, ◌+◌, ◌++◌, [], ◌∷◌, List, take, length, true, false, cond, get_or, sym, ap, arith, append-nil}
use Rattle.std.proofs.lemmas.Option.{slice_get-get_or}
use Rattle.rg_words.specs.Layout.{Word}
use Rattle.rg_erase.specs.Erased.{staying}
use Rattle.rg_erase.proofs.Loops.{staying_nil, staying_more, absent_among, room_among}
use Rattle.rg_erase.proofs.words.words_without.Goals as goal
use Rattle.rg_erase.proofs.words.words_without.Goals.{then-not-is_set+in-Ok, else-not-is_set}

abbrev no_word : Word
no_word = record { name = []; width = 0; fixed = false }

pub loop-word-init : goal.loop-word-init
loop-word-init c = c.new-words.ensures ∙ sym (staying_nil c.args.erased.now)

pub declare-requires-clause-absent : goal.declare-requires-clause-absent
declare-requires-clause-absent c =
    let less : c.loop-word.word < length c.args.layout.now = omega (arith, c.loop-word-test.true, c.len-word-end.ensures.count) in
    let e : c.loop-word.words ≡ staying c.args.erased.now (take c.loop-word.word c.args.layout.now) = c.loop-word.invariant in
    rw e (absent_among c.args.erased.now c.args.layout.now c.loop-word.word c.len-word-end.ensures.layout less)

pub declare-requires-clause-room : goal.declare-requires-clause-room
declare-requires-clause-room c =
    let less : c.loop-word.word < length c.args.layout.now = omega (arith, c.loop-word-test.true, c.len-word-end.ensures.count) in
    let e : c.loop-word.words ≡ staying c.args.erased.now (take c.loop-word.word c.args.layout.now) = c.loop-word.invariant in
    rw e (room_among c.args.erased.now c.args.layout.now c.loop-word.word c.len-word-end.ensures.layout less)

pub loop-word-preserved : goal.loop-word-preserved
loop-word-preserved c =
    let i = c.loop-word.word in
    let es = c.args.erased.now in
    let ws = c.args.layout.now in
    let w = get_or ws i no_word in
    let less : i < length ws = omega (arith, c.loop-word-test.true, c.len-word-end.ensures.count) in
    let inv : c.loop-word.words ≡ staying es (take i ws) = c.loop-word.invariant in
    let more : staying es (take (i + 1) ws) ≡ staying es (take i ws) ++ cond (get_or es i false) [] (w ∷ []) = staying_more es ws i no_word less in
    elim c.if-not-is_set.branch [
      | then-not-is_set+in-Ok v ↦
          let stays : get_or es i false ≡ false = sym c.is_set.ensures ∙ v.if-not-is_set.true in
          let went : v.declare.new.words ≡ c.loop-word.words ++ w ∷ [] = v.in-Ok.ensures.ok w (slice_get-get_or ws i no_word less) in
          v.words-is ∙ went ∙ ap (λ (xs : List Word). xs ++ w ∷ []) inv ∙ sym (more ∙ ap (λ b. staying es (take i ws) ++ cond b [] (w ∷ [])) stays)
      | else-not-is_set v ↦
          let gone : get_or es i false ≡ true = sym c.is_set.ensures ∙ v.if-not-is_set.false in
          v.words-is ∙ inv ∙ sym (more ∙ ap (λ b. staying es (take i ws) ++ cond b [] (w ∷ [])) gone ∙ append-nil (staying es (take i ws)))
    ]
