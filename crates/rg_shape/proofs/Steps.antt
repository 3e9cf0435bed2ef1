-- Runs of the machine, with limits and without.
use Rattle.std.proofs.Common.{◌≡◌, Bool, true, false, ◌||◌, ◌&&◌, not, cond, List, [], ◌∷◌, ◌++◌, Option, Some, None, option_and_then, refl, sym, ap, ◌∙◌, map}
use Rattle.rg_text.specs.declared.kind.Kind.{Kind}
use Rattle.rg_shape.specs.declared.point.Point.{Point}
use Rattle.rg_shape.specs.declared.point.Point.TheVariants.{AfterWord, AfterPart, AfterAssignment, Settings, AfterClaim, AfterAwaitGuard, AwaitTarget, AfterLoopGuard, Item}
use Rattle.rg_shape.specs.declared.point.Owner.TheVariants.{Program, Part, Line as LineOwner}
use Rattle.rg_shape.specs.declared.point.Clause.TheVariants.{Pre, Rely, Guar, Post}
use Rattle.rg_shape.specs.declared.point.BlockKind.TheVariants.{Loop}
use Rattle.rg_text.specs.declared.kind.Kind.TheVariants.{Name, Primed, Number, Fixed}
use Rattle.rg_text.specs.declared.kind.Terminal.TheVariants.{If, Section}
use Rattle.rg_text.specs.declared.kind.Keyword.TheVariants.{Skip, Await, While, Line, Do}
use Rattle.rg_syntax.specs.Grammar.{Lexeme, terminal_of, fixed, opening, name, primed, number}
use Rattle.rg_shape.specs.Inner.Machine.{next, is_shallow, has_room, is_opener, is_join, begins_word, begins_part, begins_line, is_semicolon, is_do, has_room_at}
use Rattle.rg_syntax.proofs.Clauses.{and_both}

-- the kind of a token that the grammar sees
abbrev pub kind_of : Lexeme → Kind
kind_of (fixed t) = Fixed t
kind_of (opening o leaf) = Fixed (terminal_of o)
kind_of (name leaf) = Name
kind_of (primed leaf) = Primed
kind_of (number leaf) = Number

abbrev pub run : List Point → List Kind → Option (List Point)
run ps [] = Some ps
run ps (k ∷ ks) = option_and_then (λ qs. run qs ks) (next ps k)

-- whether the limits of depth let the token stand here, and where lists are asked about those of lists too
abbrev pub allowed : Bool → List Point → Kind → Bool
allowed lists ps k = (has_room ps k || not lists) && is_shallow ps k

-- the tokens, each within the limits
abbrev pub limited : Bool → List Point → List Kind → Option (List Point)
limited lists ps [] = Some ps
limited lists ps (k ∷ ks) = cond (allowed lists ps k) (option_and_then (λ qs. limited lists qs ks) (next ps k)) None

abbrev pub kinds : List Lexeme → List Kind
kinds tokens = map kind_of tokens

room_of : (ps qs : List Point) → ps ≡ qs → (x : Kind) → has_room ps x ≡ true → has_room qs x ≡ true
room_of ps qs e x h = ap (λ rs. has_room rs x) (sym e) ∙ h

not_true : (a : Bool) → not a ≡ true → a ≡ false
not_true true h = cc
not_true false h = refl

-- each keyword that begins a statement or a line has its text and line
abbrev pub is_written : Lexeme → Bool
is_written (fixed If) = false
is_written (fixed (Section Skip)) = false
is_written (fixed (Section Await)) = false
is_written (fixed (Section While)) = false
is_written (fixed (Section Line)) = false
is_written _ = true

abbrev pub written : List Lexeme → Bool
written [] = true
written (l ∷ ls) = is_written l && written ls

-- tokens that open nothing, go on with no list and begin no item of one, so that no limit is met
abbrev pub is_calm : Kind → Bool
is_calm k = not (is_opener k) && (not (is_join k) && (not (begins_word k) && (not (begins_part k) && (not (begins_line k) && not (is_semicolon k)))))

abbrev pub is_name : Kind → Bool
is_name Name = true
is_name _ = false

abbrev pub is_do_kind : Kind → Bool
is_do_kind (Fixed (Section k)) = is_do k
is_do_kind _ = false

-- the same, where a name may stand after `do`
abbrev pub calm_from : Bool → List Lexeme → Bool
calm_from d [] = true
calm_from d (l ∷ ls) = ((d && is_name (kind_of l)) || is_calm (kind_of l)) && calm_from (is_do_kind (kind_of l)) ls

abbrev pub calm : List Lexeme → Bool
calm ls = calm_from false ls

or_either : (a b : Bool) → b ≡ true → (a || b) ≡ true
or_either true b h = refl
or_either false b h = h

calm_more : (d : Bool) (ls : List Lexeme) → calm_from false ls ≡ true → calm_from d ls ≡ true
calm_more d [] h = refl
calm_more d (l ∷ ls) h =
    let a = and_both (is_calm (kind_of l)) (calm_from (is_do_kind (kind_of l)) ls) h in
    rw (or_either (d && is_name (kind_of l)) (is_calm (kind_of l)) a.0) a.1

pub calm-append : (d : Bool) (xs ys : List Lexeme) → calm_from d xs ≡ true → calm ys ≡ true → calm_from d (xs ++ ys) ≡ true
calm-append d [] ys g h = calm_more d ys h
calm-append d (x ∷ xs) ys g h =
    let a = and_both ((d && is_name (kind_of x)) || is_calm (kind_of x)) (calm_from (is_do_kind (kind_of x)) xs) g in
    rw a.0 (calm-append (is_do_kind (kind_of x)) xs ys a.1 h)

-- with limits no run is another
pub limited_run : (lists : Bool) (ks : List Kind) (ps qs : List Point) → limited lists ps ks ≡ Some qs → run ps ks ≡ Some qs
limited_run lists [] ps qs h = h
limited_run lists (k ∷ ks) ps qs h = go (allowed lists ps k) (next ps k) (limited_run lists ks) h
  where
    go : (b : Bool) (o : Option (List Point)) → ((ps qs : List Point) → limited lists ps ks ≡ Some qs → run ps ks ≡ Some qs) → cond b (option_and_then (λ rs. limited lists rs ks) o) None ≡ Some qs → option_and_then (λ rs. run rs ks) o ≡ Some qs
    go true None ih h = cc
    go true (Some rs) ih h = ih rs qs h
    go false o ih h = cc

-- the limits of depth are some of the limits
pub fewer_limits : (ks : List Kind) (ps qs : List Point) → limited true ps ks ≡ Some qs → limited false ps ks ≡ Some qs
fewer_limits [] ps qs h = h
fewer_limits (k ∷ ks) ps qs h = go (is_shallow ps k) (has_room ps k) (next ps k) (fewer_limits ks) h
  where
    go : (a b : Bool) (o : Option (List Point)) → ((ps qs : List Point) → limited true ps ks ≡ Some qs → limited false ps ks ≡ Some qs) → cond ((b || false) && a) (option_and_then (λ rs. limited true rs ks) o) None ≡ Some qs → cond ((b || true) && a) (option_and_then (λ rs. limited false rs ks) o) None ≡ Some qs
    go true true None ih h = cc
    go true true (Some rs) ih h = ih rs qs h
    go a false o ih h = cc
    go false true o ih h = cc

has_room_calm : (p : Point) (k : Kind) → begins_word k ≡ false → begins_part k ≡ false → begins_line k ≡ false → is_semicolon k ≡ false → has_room_at p k ≡ true
has_room_calm (AfterWord b n) k g h d e = rw g refl
has_room_calm (AfterPart n) k g h d e = rw h refl
has_room_calm (AfterClaim c o) k g h d e = rw d refl
has_room_calm (AfterAssignment b n) k g h d e = rw e refl
has_room_calm _ k g h d e = refl

allowed_calm : (lists : Bool) (ps : List Point) (k : Kind) → is_calm k ≡ true → allowed lists ps k ≡ true
allowed_calm lists [] k h = refl
allowed_calm lists (p ∷ ps) k h =
    let a = and_both (not (is_opener k)) _ h in
    let b = and_both (not (is_join k)) _ a.1 in
    let c = and_both (not (begins_word k)) _ b.1 in
    let d = and_both (not (begins_part k)) _ c.1 in
    let e = and_both (not (begins_line k)) (not (is_semicolon k)) d.1 in
    free (is_opener k) (is_join k) (has_room_at p k) _ _ (not_true (is_opener k) a.0) (not_true (is_join k) b.0) (has_room_calm p k (not_true (begins_word k) c.0) (not_true (begins_part k) d.0) (not_true (begins_line k) e.0) (not_true (is_semicolon k) e.1))
  where
    free : (o j r x y : Bool) → o ≡ false → j ≡ false → r ≡ true → ((r || not lists) && cond o x (cond j y true)) ≡ true
    free o j r x y e f g = rw (e, f, g) refl

-- after `do` each token has room
do_room : (ps qs : List Point) (k : Kind) → is_do_kind k ≡ true → next ps k ≡ Some qs → (x : Kind) → has_room qs x ≡ true
do_room [] qs k d h x = cc
do_room (AfterAwaitGuard b ∷ ps) qs (Fixed (Section Do)) d h x = room_of (AwaitTarget b 0 ∷ ps) qs (cc) x refl
do_room (AfterLoopGuard ∷ ps) qs (Fixed (Section Do)) d h x = room_of (Item Loop ∷ ps) qs (cc) x refl
do_room (Settings true ∷ ps) qs (Fixed (Section Do)) d h x = cc
do_room (Settings false ∷ ps) qs (Fixed (Section Do)) d h x = cc
do_room (AfterClaim Pre o ∷ ps) qs (Fixed (Section Do)) d h x = cc
do_room (AfterClaim Rely o ∷ ps) qs (Fixed (Section Do)) d h x = cc
do_room (AfterClaim Guar o ∷ ps) qs (Fixed (Section Do)) d h x = cc
do_room (AfterClaim Post Program ∷ ps) qs (Fixed (Section Do)) d h x = cc
do_room (AfterClaim Post (Part n) ∷ ps) qs (Fixed (Section Do)) d h x = cc
do_room (AfterClaim Post (LineOwner n) ∷ ps) qs (Fixed (Section Do)) d h x = cc
do_room (_ ∷ ps) qs (Fixed (Section Do)) d h x = cc
do_room (p ∷ ps) qs _ d h x = cc

-- where nothing is opened and no list goes on the limits change nothing
pub calm_from_run : (lists d : Bool) (ls : List Lexeme) (ps : List Point) → calm_from d ls ≡ true → (d ≡ true → (x : Kind) → has_room ps x ≡ true) → limited lists ps (kinds ls) ≡ run ps (kinds ls)
calm_from_run lists d [] ps h room = refl
calm_from_run lists d (l ∷ ls) ps h room =
    let b = and_both ((d && is_name (kind_of l)) || is_calm (kind_of l)) (calm_from (is_do_kind (kind_of l)) ls) h in
    rw (allowed_here (kind_of l) b.0) (go (next ps (kind_of l)) refl (λ qs e. calm_from_run lists (is_do_kind (kind_of l)) ls qs b.1 (λ is x. do_room ps qs (kind_of l) is e x)))
  where
    go : (o : Option (List Point)) → next ps (kind_of l) ≡ o → ((qs : List Point) → next ps (kind_of l) ≡ Some qs → limited lists qs (kinds ls) ≡ run qs (kinds ls)) → option_and_then (λ rs. limited lists rs (kinds ls)) o ≡ option_and_then (λ rs. run rs (kinds ls)) o
    go None e ih = refl
    go (Some rs) e ih = ih rs e

    name_allowed : (k : Kind) → is_name k ≡ true → has_room ps k ≡ true → allowed lists ps k ≡ true
    name_allowed Name n r = free ps r
      where
        free : (ps : List Point) → has_room ps Name ≡ true → allowed lists ps Name ≡ true
        free [] r = refl
        free (p ∷ ps) r = rw r refl
    name_allowed _ n r = cc

    allowed_here : (k : Kind) → ((d && is_name k) || is_calm k) ≡ true → allowed lists ps k ≡ true
    allowed_here k a = by (d && is_name k) refl a
      where
        by : (e : Bool) → (d && is_name k) ≡ e → (e || is_calm k) ≡ true → allowed lists ps k ≡ true
        by true e a = let f = and_both d (is_name k) e in name_allowed k f.1 (room f.0 k)
        by false e a = allowed_calm lists ps k a

pub calm_run : (lists : Bool) (ls : List Lexeme) (ps : List Point) → calm ls ≡ true → limited lists ps (kinds ls) ≡ run ps (kinds ls)
calm_run lists ls ps h = calm_from_run lists false ls ps h (λ e. cc)

-- a run over some tokens and then others
pub run-append : (xs ys : List Kind) (ps : List Point) → run ps (xs ++ ys) ≡ option_and_then (λ qs. run qs ys) (run ps xs)
run-append [] ys ps = refl
run-append (k ∷ xs) ys ps = go (next ps k) (run-append xs ys)
  where
    go : (o : Option (List Point)) → ((qs : List Point) → run qs (xs ++ ys) ≡ option_and_then (λ rs. run rs ys) (run qs xs)) → option_and_then (λ qs. run qs (xs ++ ys)) o ≡ option_and_then (λ qs. run qs ys) (option_and_then (λ qs. run qs xs) o)
    go None ih = refl
    go (Some qs) ih = ih qs

pub limited-append : (lists : Bool) (xs ys : List Kind) (ps : List Point) → limited lists ps (xs ++ ys) ≡ option_and_then (λ qs. limited lists qs ys) (limited lists ps xs)
limited-append lists [] ys ps = refl
limited-append lists (k ∷ xs) ys ps = go (allowed lists ps k) (next ps k) (limited-append lists xs ys)
  where
    go : (b : Bool) (o : Option (List Point)) → ((qs : List Point) → limited lists qs (xs ++ ys) ≡ option_and_then (λ rs. limited lists rs ys) (limited lists qs xs)) → cond b (option_and_then (λ qs. limited lists qs (xs ++ ys)) o) None ≡ option_and_then (λ qs. limited lists qs ys) (cond b (option_and_then (λ qs. limited lists qs xs) o) None)
    go false o ih = refl
    go true None ih = refl
    go true (Some qs) ih = ih qs
