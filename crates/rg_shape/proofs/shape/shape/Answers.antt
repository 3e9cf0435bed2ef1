use Rattle.std.proofs.Common.{◌≡◌, Bool, ℕ, List, map, take, reverse, true, Some, Err, sym, ap, ◌∙◌, length, ◌≤◌, ◌<◌, arith}
use Rattle.std.proofs.lemmas.List.{take_all, length-map}
use Rattle.rg_text.specs.declared.kind.Kind.{Kind}
use Rattle.rg_text.specs.declared.kind.Kind.TheVariants.{Name}
use Rattle.rg_text.specs.declared.token.Token.{Token}
use Rattle.rg_shape.specs.declared.point.Point.{Point}
use Rattle.rg_syntax.specs.declared.text_kind.TextKind.{TextKind}
use Rattle.rg_shape.specs.declared.shape.ShapeFault.TheVariants.{Unexpected, TooDeep, TooMany, Unfinished}
use Rattle.rg_syntax.specs.Grammar.{lexeme_of}
use Rattle.rg_shape.specs.Shape.{ShapeIs}
use Rattle.rg_shape.specs.Inner.Machine.{start, is_shallow, has_room, is_at_end}
use Rattle.rg_shape.proofs.Steps.{kinds, limited}
use Rattle.rg_shape.proofs.Tokens.{kinds_of, kinds_same, one_kind_more, tokens_written}
use Rattle.rg_shape.proofs.Outcome.{answers_unexpected, answers_too_deep, answers_too_many, limited_more, answers_whole, answers_unfinished, accepts_within}
use Rattle.rg_shape.proofs.shape.shape.Goals as goal

-- stands for what is past the end of the list
abbrev no_token : Token
no_token = record { kind = Name; start = 0; end = 0; line = 0 }

many : (ts : List Token) (i : ℕ) → i < length ts → i < length (kinds_of ts)
many ts i h = omega (arith, h, length-map ts (λ (t : Token). t.kind))

-- what the tests of the limits said of the places
shallow_is : (ps qs : List Point) (k : Kind) (a b : Bool) → ps ≡ qs → a ≡ is_shallow (reverse ps) k → a ≡ b → is_shallow (reverse qs) k ≡ b
shallow_is ps qs k a b e h n = ap (λ rs. is_shallow (reverse rs) k) (sym e) ∙ sym h ∙ n

room_is : (ps qs : List Point) (k : Kind) (a b : Bool) → ps ≡ qs → a ≡ has_room (reverse ps) k → a ≡ b → has_room (reverse qs) k ≡ b
room_is ps qs k a b e h n = ap (λ rs. has_room (reverse rs) k) (sym e) ∙ sym h ∙ n

at_end_is : (ps qs : List Point) (a b : Bool) → ps ≡ qs → a ≡ is_at_end (reverse ps) → a ≡ b → is_at_end (reverse qs) ≡ b
at_end_is ps qs a b e h n = ap (λ rs. is_at_end (reverse rs)) (sym e) ∙ sym h ∙ n

pub returns-then-not-branch : goal.returns-then-not-branch
returns-then-not-branch c =
    let k = c.args.text in
    let ts = c.args.tokens.now in
    let i = c.loop-i.i in
    let answer : (src : List ℕ) → ShapeIs k (map (lexeme_of src) ts) (Err (Unexpected i)) = λ src.
    answers_unexpected k (map (lexeme_of src) ts) (tokens_written src ts) (kinds_of ts) (kinds_same src ts) i _ (reverse c.loop-i.points.items) (many ts i c.loop-i-test.true) (one_kind_more ts i no_token c.loop-i-test.true) c.loop-i.invariant (rw c.if-not-branch.true at c.in_ok-next.ensures) in
    record { answers = answer; accepts = λ src w. accepts_within k _ (Err (Unexpected i)) (answer src) w }

pub returns-then-not-shallow : goal.returns-then-not-shallow
returns-then-not-shallow c =
    let k = c.args.text in
    let ts = c.args.tokens.now in
    let i = c.loop-i.i in
    let answer : (src : List ℕ) → ShapeIs k (map (lexeme_of src) ts) (Err (TooDeep i)) = λ src.
    answers_too_deep k (map (lexeme_of src) ts) (tokens_written src ts) (kinds_of ts) (kinds_same src ts) i _ (reverse c.loop-i.points.items) (many ts i c.loop-i-test.true) (one_kind_more ts i no_token c.loop-i-test.true) c.loop-i.invariant (reverse c.next.new.points.items) (rw c.if-not-branch.false at c.in_ok-next.ensures) (shallow_is _ _ _ _ _ c.deref.ensures.value c.is_shallow-shallow.ensures c.if-not-shallow.true) in
    record { answers = answer; accepts = λ src w. accepts_within k _ (Err (TooDeep i)) (answer src) w }

pub returns-then-not-room : goal.returns-then-not-room
returns-then-not-room c =
    let k = c.args.text in
    let ts = c.args.tokens.now in
    let i = c.loop-i.i in
    let answer : (src : List ℕ) → ShapeIs k (map (lexeme_of src) ts) (Err (TooMany i)) = λ src.
    answers_too_many k (map (lexeme_of src) ts) (tokens_written src ts) (kinds_of ts) (kinds_same src ts) i _ (reverse c.loop-i.points.items) (many ts i c.loop-i-test.true) (one_kind_more ts i no_token c.loop-i-test.true) c.loop-i.invariant (reverse c.next.new.points.items) (rw c.if-not-branch.false at c.in_ok-next.ensures) (shallow_is _ _ _ _ _ c.deref.ensures.value c.is_shallow-shallow.ensures c.if-not-shallow.false) (room_is _ _ _ _ _ c.deref-in-loop-i.ensures.value c.has_room-room.ensures c.if-not-room.true) in
    record { answers = answer; accepts = λ src w. accepts_within k _ (Err (TooMany i)) (answer src) w }

pub loop-i-preserved : goal.loop-i-preserved
loop-i-preserved c =
    let ts = c.args.tokens.now in
    limited_more c.args.text (kinds_of ts) c.loop-i.i _ (reverse c.loop-i.points.items) (reverse c.next.new.points.items) (one_kind_more ts c.loop-i.i no_token c.loop-i-test.true) c.loop-i.invariant (rw c.if-not-branch.false at c.in_ok-next.ensures) (shallow_is _ _ _ _ _ c.deref.ensures.value c.is_shallow-shallow.ensures c.if-not-shallow.false) (room_is _ _ _ _ _ c.deref-in-loop-i.ensures.value c.has_room-room.ensures c.if-not-room.false)

-- the run over all tokens
ran_all : (k : TextKind) (src : List ℕ) (ts : List Token) (i : ℕ) (ps : List Point) → length ts ≤ i → limited true (start k) (take i (kinds_of ts)) ≡ Some ps → limited true (start k) (kinds (map (lexeme_of src) ts)) ≡ Some ps
ran_all k src ts i ps long ran =
    ap (limited true (start k)) (kinds_same src ts ∙ sym (take_all i (kinds_of ts) (omega (arith, long, length-map ts (λ (t : Token). t.kind))))) ∙ ran

pub returns-then-not-is_at_end : goal.returns-then-not-is_at_end
returns-then-not-is_at_end c =
    let k = c.args.text in
    let ts = c.args.tokens.now in
    let answer : (src : List ℕ) → ShapeIs k (map (lexeme_of src) ts) (Err Unfinished) = λ src.
    answers_unfinished k (map (lexeme_of src) ts) (tokens_written src ts) (reverse c.loop-i.points.items) (ran_all k src ts c.loop-i.i _ c.loop-i-test.false c.loop-i.invariant) (at_end_is _ _ _ _ c.deref-2.ensures.value c.is_at_end.ensures c.if-not-is_at_end.true) in
    record { answers = answer; accepts = λ src w. accepts_within k _ (Err Unfinished) (answer src) w }

pub returns : goal.returns
returns c = record {
  answers = λ src.
      answers_whole c.args.text (map (lexeme_of src) c.args.tokens.now) (tokens_written src c.args.tokens.now) (reverse c.loop-i.points.items) (ran_all c.args.text src c.args.tokens.now c.loop-i.i _ c.loop-i-test.false c.loop-i.invariant) (at_end_is _ _ _ _ c.deref-2.ensures.value c.is_at_end.ensures c.if-not-is_at_end.false);
  accepts = λ src w. tt;
}
