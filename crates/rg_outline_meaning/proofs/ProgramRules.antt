-- The rules of heads, declarations, clauses and parts, one by one.
use Rattle.std.proofs.Common.{◌≡◌, ◌≢◌, ℕ, zero, suc, ◌+◌, ◌-◌, ◌<◌, ◌≤◌, ℤ, pos, Bool, true, false, refl, sym, ◌∙◌, ap, subst, subst₂, List, [], ◌∷◌, ◌++◌, map, take, drop, length, All, slice_get, slice_index, slice_index_or, Option, Some, None, option_map, ◌==◌, arith, add-one}
use Rattle.std.specs.Option.{option_or}
use Rattle.std.proofs.lemmas.List.{map-append, append_assoc, append-nil, take_more, take_all, take-map, drop_more, length-drop, at_drop_more, at_drop_all}
use Rattle.std.proofs.lemmas.Option.{get_or_from_slice_get, slice_get-map, slice_get_within}
use Rattle.std.proofs.Math.Seq.{take-append_seam}
use Rattle.rg_words.specs.Layout.{Word, names_of, widths_of, fixed_of}
use Rattle.rg_tree.specs.Trees.{Proposition}
use Rattle.rg_tree.specs.Statements.{Statement, PartTree, ProgramTree}
use Rattle.rg_tree.specs.declared.part.Part.{Part}
use Rattle.rg_tree.specs.ProgramView.{part}
use Rattle.rg_outline_syntax.specs.declared.span.Span.{Span}
use Rattle.rg_outline_syntax.specs.declared.written.List as written
use Rattle.rg_outline_syntax.specs.declared.written.Head.{Head}
use Rattle.rg_outline_syntax.specs.declared.written.HeadKind.{HeadKind}
use Rattle.rg_outline_syntax.specs.declared.written.HeadKind.TheVariants.{Let, Procedure, Owns, Interrupts, Clause}
use Rattle.rg_outline_syntax.specs.declared.written.Clause as clause
use Rattle.rg_outline_syntax.specs.declared.written.Clause.TheVariants.{Invariant, Pre, Rely, Guar, Post}
use Rattle.rg_outline_syntax.specs.declared.written.Declaration.{Declaration}
use Rattle.rg_outline_syntax.specs.declared.written.PartWritten.{PartWritten}
use Rattle.rg_outline_meaning.specs.Names.{Outline, text_of, listed, piece_of, Known, Bound, Names, IsNew, AreDifferent, parameters_in, part_number}
use Rattle.rg_outline_meaning.specs.Members.{member_name}
use Rattle.rg_outline_meaning.specs.Meanings.{claim, IsConjunction}
use Rattle.rg_outline_meaning.specs.Expressions.{StandsFor, RangeIs, IsUnchanged}
use Rattle.rg_outline_meaning.specs.Statements.{BlockStandsFor}
use Rattle.rg_outline_meaning.specs.Programs as rule
use Rattle.rg_outline_meaning.specs.Programs.{of_outline, known_of, KnownAfter, IsIndexRange, AreIndexRanges, declared_words, AreDeclared, Clauses, with_clause, ClausesStandFor, first_of, first_changing, PartKnows, PartStandsFor, MembersStandFor, PartsStandFor, IsRely, AreSpecified, OutlineStandsFor}
use Rattle.rg_outline_meaning.specs.Reading.{ReadsSame, LearnsHead, Declares, with_one, both, IsClauseOf, OwnsFirst, ArePartsOf, IsPartOf, AreMembersOf, PartKnown}
use Rattle.rg_outline_meaning.specs.View.{outline, known, knowns}
use Rattle.rg_outline_meaning.specs.declared.names.Known as declared
use Rattle.rg_outline_meaning.specs.declared.names.Reader.{Reader}

-- all names so far
pub none_bound : (ks : List Known) (bs : List Bound) → bs ≡ [] → record { known = ks; bound = bs } ≡ of_outline ks
none_bound ks bs none = ap (λ (xs : List Bound). record { known = ks; bound = xs }) none

-- a list of some elements
pub some_of : (zs : List ℤ) (b : Bool) → b ≡ (length zs == 0) → b ≡ false → zs ≢ []
some_of [] b is is_not = cc
some_of (z ∷ zs) b is is_not = λ same. cc

-- ---- heads

-- a name is none of those after it, which differ
pub different_next : (name : Span → List ℕ) (all : List Span) (k : ℕ) (s : Span) → k < length all → All (λ other. other ≢ name (slice_index_or all k s)) (map name (take (length all - (k + 1)) (drop (k + 1) all))) → (AreDifferent (map name (drop k all)) → AreDifferent (map name all)) → AreDifferent (map name (drop (k + 1) all)) → AreDifferent (map name all)
different_next name all k s low others so_far rest =
    let later : take (length all - (k + 1)) (drop (k + 1) all) ≡ drop (k + 1) all = take_all (length all - (k + 1)) (drop (k + 1) all) (omega (arith, length-drop (k + 1) all)) in
    so_far (rw (drop_more all k s low) (subst (λ xs. All (λ other. other ≢ name (slice_index_or all k s)) (map name xs)) later others, rest))

pub different_all : (name : Span → List ℕ) (all : List Span) (k : ℕ) → length all ≤ k → (AreDifferent (map name (drop k all)) → AreDifferent (map name all)) → AreDifferent (map name all)
different_all name all k far so_far = so_far (rw (at_drop_all (λ xs. xs) all k far) tt)

pub learned : (o : Outline) (before all : List Known) (kind : HeadKind) (k : Known) → known_of o kind ≡ Some k → IsNew (of_outline before) k.name → AreDifferent (k.name ∷ parameters_in k.sense) → all ≡ before ++ k ∷ [] → LearnsHead o before kind all true
learned o before all kind k is new others same = (k, is, (new, others), same)

module _ (o : Outline) where
  -- one more head
  pub heads_from : (before after all : List Known) (h : Head) (hs : List Head) → LearnsHead o before h.kind after true → KnownAfter o after hs all → KnownAfter o before (h ∷ hs) all
  heads_from before after all h hs (k, is, new, same) rest = rule.name_and_more before all h hs k is new (subst (λ ks. KnownAfter o ks hs all) same rest)

  pub heads_next : (first before after : List Known) (hs : List Head) (k : ℕ) (d : Head) → k < length hs → ((all : List Known) → KnownAfter o before (drop k hs) all → KnownAfter o first hs all) → LearnsHead o before (slice_index_or hs k d).kind after true → (all : List Known) → KnownAfter o after (drop (k + 1) hs) all → KnownAfter o first hs all
  heads_next first before after hs k d low so_far learns all rest = so_far all (rw (drop_more hs k d low) (heads_from before after all (slice_index_or hs k d) (drop (k + 1) hs) learns rest))

  pub heads_step : (q : Outline) (first before after : List Known) (hs : List Head) (k : ℕ) (d : Head) (b : Bool) → q ≡ o → k < length hs → ((all : List Known) → KnownAfter o before (drop k hs) all → KnownAfter o first hs all) → LearnsHead q before (slice_index_or hs k d).kind after b → b ≡ true → (all : List Known) → KnownAfter o after (drop (k + 1) hs) all → KnownAfter o first hs all
  heads_step q first before after hs k d b is low so_far learns so = heads_next first before after hs k d low so_far (subst₂ (λ x y. LearnsHead x before (slice_index_or hs k d).kind after y) is so learns)

  pub heads_all : (first before : List Known) (hs : List Head) (k : ℕ) → length hs ≤ k → ((all : List Known) → KnownAfter o before (drop k hs) all → KnownAfter o first hs all) → KnownAfter o first hs before
  heads_all first before hs k far so_far = so_far before (rw (at_drop_all (λ xs. xs) hs k far) (rule.no_heads before))

-- ---- words

module _ (o : Outline) (words : List Word) where
  -- ranges of indices, and one more
  pub ranges_and_one : (known : List Known) (is : List ℕ) (rs : List (ℤ × ℤ)) (i : ℕ) (r : ℤ × ℤ) → AreIndexRanges o words known is rs → IsIndexRange o words known i r → AreIndexRanges o words known (is ++ i ∷ []) (rs ++ r ∷ [])
  ranges_and_one known [] [] i r all one = (one, tt)
  ranges_and_one known (j ∷ is) (s ∷ rs) i r all one = (all.0, ranges_and_one known is rs i r all.1 one)
  ranges_and_one known [] (s ∷ rs) i r all one = absurd all
  ranges_and_one known (j ∷ is) [] i r all one = absurd all

  pub ranges_next : (known : List Known) (is : List ℕ) (k d i : ℕ) (old new : List (ℤ × ℤ)) (r : ℤ × ℤ) → i ≡ slice_index_or is k d → k < length is → new ≡ old ++ r ∷ [] → AreIndexRanges o words known (take k is) old → IsIndexRange o words known i r → AreIndexRanges o words known (take (k + 1) is) new
  ranges_next known is k d i old new r at low same all one = rw (take_more is k d low, ← at, same) (ranges_and_one known (take k is) old i r all one)

  -- one more declaration
  pub declarations_from : (before after all : List Known) (d : Declaration) (ds : List Declaration) (first next : ℕ) (rest : List Word) → Declares o words before after d first next → AreDeclared o words after ds all rest → (own : List Word) × (take next words ≡ take first words ++ own) × AreDeclared o words before (d ∷ ds) all (own ++ rest)
  declarations_from before after all d ds first next rest h others =
      (declared_words o d h.ranges h.width, h.words_are, rule.declaration_and_more before all d ds h.ranges h.width rest h.indices h.stands h.new (subst (λ ks. AreDeclared o words ks ds all rest) h.learned others))

  pub declarations_next : (start before after : List Known) (ds : List Declaration) (k : ℕ) (e d : Declaration) (first next : ℕ) → d ≡ slice_index_or ds k e → k < length ds → ((all : List Known) (rest : List Word) → AreDeclared o words before (drop k ds) all rest → AreDeclared o words start ds all (take first words ++ rest)) → Declares o words before after d first next → (all : List Known) (rest : List Word) → AreDeclared o words after (drop (k + 1) ds) all rest → AreDeclared o words start ds all (take next words ++ rest)
  declarations_next start before after ds k e d first next at low so_far h all rest others =
      let one = declarations_from before after all d (drop (k + 1) ds) first next rest h others in
      let whole : take next words ++ rest ≡ take first words ++ (one.0 ++ rest) = ap (λ ws. ws ++ rest) one.1 ∙ append_assoc (take first words) one.0 rest in
      rw whole (so_far all (one.0 ++ rest) (rw (drop_more ds k e low, ← at) one.2))

  pub declarations_step : (q : Outline) (v : List Word) (start before after : List Known) (ds : List Declaration) (k : ℕ) (e d : Declaration) (first next : ℕ) → q ≡ o → v ≡ words → d ≡ slice_index_or ds k e → k < length ds → ((all : List Known) (rest : List Word) → AreDeclared o words before (drop k ds) all rest → AreDeclared o words start ds all (take first words ++ rest)) → Declares q v before after d first next → (all : List Known) (rest : List Word) → AreDeclared o words after (drop (k + 1) ds) all rest → AreDeclared o words start ds all (take next words ++ rest)
  declarations_step q v start before after ds k e d first next is same at low so_far h = declarations_next start before after ds k e d first next at low so_far (subst₂ (λ x w. Declares x w before after d first next) is same h)

  pub declarations_all : (start before : List Known) (ds : List Declaration) (k n : ℕ) → length ds ≤ k → n ≡ length words → ((all : List Known) (rest : List Word) → AreDeclared o words before (drop k ds) all rest → AreDeclared o words start ds all (take n words ++ rest)) → AreDeclared o words start ds before words
  declarations_all start before ds k n far all so_far =
      let made = so_far before [] (rw (at_drop_all (λ xs. xs) ds k far) (rule.no_declarations before)) in
      subst (λ ws. AreDeclared o words start ds before ws) (append-nil (take n words) ∙ take_all n words (omega arith)) made

-- the word at a place
pub word_at : (words : List Word) (k : ℕ) → k < length words → slice_get words k ≡ Some (record { name = slice_index_or (names_of words) k []; width = slice_index (widths_of words) k; fixed = slice_index_or (fixed_of words) k false })
word_at [] k low = absurd (omega arith)
word_at (w ∷ words) zero low = refl
word_at (w ∷ words) (suc k) low = word_at words k (omega arith)

pub words_to : (words : List Word) (k n : ℕ) (w : Word) → k < length words → n ≡ k + 1 → slice_index_or (names_of words) k [] ≡ w.name → slice_index (widths_of words) k ≡ w.width → slice_index_or (fixed_of words) k false ≡ w.fixed → take n words ≡ take k words ++ w ∷ []
words_to words k n w low is name width fixed =
    let got : slice_get words k ≡ Some w = word_at words k low ∙ (λ i. Some (record { name = name i; width = width i; fixed = fixed i })) in
    rw is (take_more words k w low ∙ ap (λ x. take k words ++ x ∷ []) (get_or_from_slice_get words k w w got))

-- the word of a member of a declaration
abbrev pub word_of : Outline → Declaration → ℕ → List ℤ → Word
word_of o d width zs = record { name = member_name (text_of o d.name) zs; width = width; fixed = rule.is_fixed d.standing }

-- the words of the members so far
pub members_to : (words : List Word) (mk : List ℤ → Word) (first before next : ℕ) (zss : List (List ℤ)) (k : ℕ) (zs : List ℤ) (d : List ℤ) → zs ≡ slice_index_or zss k d → k < length zss → take before words ≡ take first words ++ map mk (take k zss) → take next words ≡ take before words ++ mk zs ∷ [] → take next words ≡ take first words ++ map mk (take (k + 1) zss)
members_to words mk first before next zss k zs d at low all one =
    one ∙ ap (λ ws. ws ++ mk zs ∷ []) all ∙ append_assoc (take first words) (map mk (take k zss)) (mk zs ∷ []) ∙ ap (λ ws. take first words ++ ws) (sym (map-append mk (take k zss) (zs ∷ [])) ∙ ap (λ x. map mk x) (ap (λ z. take k zss ++ z ∷ []) at ∙ sym (take_more zss k d low)))

-- ---- clauses

pub both_none : (c : Clauses) → both c (record { pre = []; rely = []; guar = []; post = [] }) ≡ c
both_none c = λ i. record { pre = append-nil c.pre i; rely = append-nil c.rely i; guar = append-nil c.guar i; post = append-nil c.post i }

pub both_with : (which : clause.Clause) (p : Proposition) (c d : Clauses) → both (with_one which p c) d ≡ both c (with_clause which p d)
both_with Invariant p c d = refl
both_with Pre p c d = λ i. record { pre = append_assoc c.pre (p ∷ []) d.pre i; rely = c.rely ++ d.rely; guar = c.guar ++ d.guar; post = c.post ++ d.post }
both_with Rely p c d = λ i. record { pre = c.pre ++ d.pre; rely = append_assoc c.rely (p ∷ []) d.rely i; guar = c.guar ++ d.guar; post = c.post ++ d.post }
both_with Guar p c d = λ i. record { pre = c.pre ++ d.pre; rely = c.rely ++ d.rely; guar = append_assoc c.guar (p ∷ []) d.guar i; post = c.post ++ d.post }
both_with Post p c d = λ i. record { pre = c.pre ++ d.pre; rely = c.rely ++ d.rely; guar = c.guar ++ d.guar; post = append_assoc c.post (p ∷ []) d.post i }

module _ (o : Outline) (words : List Word) where
  pub clauses_name : (start before after : List Known) (hs : List Head) (k : ℕ) (d : Head) (c : Clauses) → k < length hs → ((all : List Known) (e : Clauses) → ClausesStandFor o words before (drop k hs) all e → ClausesStandFor o words start hs all (both c e)) → LearnsHead o before (slice_index_or hs k d).kind after true → (all : List Known) (e : Clauses) → ClausesStandFor o words after (drop (k + 1) hs) all e → ClausesStandFor o words start hs all (both c e)
  clauses_name start before after hs k d c low so_far (x, is, new, same) all e rest =
      so_far all e (rw (drop_more hs k d low) (rule.name_and_clauses before all (slice_index_or hs k d) (drop (k + 1) hs) x e is new (subst (λ ks. ClausesStandFor o words ks (drop (k + 1) hs) all e) same rest)))

  pub clauses_next : (start before after : List Known) (hs : List Head) (k : ℕ) (d : Head) (c e : Clauses) → k < length hs → ((all : List Known) (f : Clauses) → ClausesStandFor o words before (drop k hs) all f → ClausesStandFor o words start hs all (both c f)) → LearnsHead o before (slice_index_or hs k d).kind after false → IsClauseOf o words after (slice_index_or hs k d).kind c e → (all : List Known) (f : Clauses) → ClausesStandFor o words after (drop (k + 1) hs) all f → ClausesStandFor o words start hs all (both e f)
  clauses_next start before after hs k d c e low so_far (is, same) (which, j, p, made, stands, more) all f rest =
      let more_of : both e f ≡ both c (with_clause which p f) = ap (λ x. both x f) more ∙ both_with which p c f in
      rw more_of (so_far all (with_clause which p f) (rw (drop_more hs k d low) (rule.clause_and_more before all (slice_index_or hs k d) (drop (k + 1) hs) which j p f made (subst (λ ks. StandsFor o words (of_outline ks) j (claim p)) same stands) (subst (λ ks. ClausesStandFor o words ks (drop (k + 1) hs) all f) same rest))))

  pub clauses_named : (q : Outline) (start before after : List Known) (hs : List Head) (k : ℕ) (d : Head) (b : Bool) (c : Clauses) → q ≡ o → k < length hs → ((all : List Known) (e : Clauses) → ClausesStandFor o words before (drop k hs) all e → ClausesStandFor o words start hs all (both c e)) → LearnsHead q before (slice_index_or hs k d).kind after b → b ≡ true → (all : List Known) (e : Clauses) → ClausesStandFor o words after (drop (k + 1) hs) all e → ClausesStandFor o words start hs all (both c e)
  clauses_named q start before after hs k d b c is low so_far learns so = clauses_name start before after hs k d c low so_far (subst₂ (λ x y. LearnsHead x before (slice_index_or hs k d).kind after y) is so learns)

  pub clauses_step : (q p : Outline) (v : List Word) (start before after : List Known) (hs : List Head) (k : ℕ) (d : Head) (b : Bool) (c e : Clauses) → q ≡ o → p ≡ o → v ≡ words → k < length hs → ((all : List Known) (f : Clauses) → ClausesStandFor o words before (drop k hs) all f → ClausesStandFor o words start hs all (both c f)) → LearnsHead q before (slice_index_or hs k d).kind after b → b ≡ false → IsClauseOf p v after (slice_index_or hs k d).kind c e → (all : List Known) (f : Clauses) → ClausesStandFor o words after (drop (k + 1) hs) all f → ClausesStandFor o words start hs all (both e f)
  clauses_step q p v start before after hs k d b c e is so same low so_far learns none taken =
      clauses_next start before after hs k d c e low so_far (subst₂ (λ x y. LearnsHead x before (slice_index_or hs k d).kind after y) is none learns) (subst₂ (λ x w. IsClauseOf x w after (slice_index_or hs k d).kind c e) so same taken)

  pub clauses_all : (start before : List Known) (hs : List Head) (k : ℕ) (c : Clauses) → length hs ≤ k → ((all : List Known) (e : Clauses) → ClausesStandFor o words before (drop k hs) all e → ClausesStandFor o words start hs all (both c e)) → ClausesStandFor o words start hs before c
  clauses_all start before hs k c far so_far =
      let nothing : Clauses = record { pre = []; rely = []; guar = []; post = [] } in
      subst (λ x. ClausesStandFor o words start hs before x) (both_none c) (so_far before nothing (rw (at_drop_all (λ xs. xs) hs k far) (rule.no_clauses before)))

-- ---- the heads of a part

pub or_or : (a b c : Option ℕ) → option_or (option_or a b) c ≡ option_or a (option_or b c)
or_or None b c = refl
or_or (Some k) b c = refl

module _ (o : Outline) (words : List Word) where
  pub part_from : (before all : List Known) (h : Head) (hs : List Head) (kind : HeadKind) (k later : Option ℕ) → h.kind ≡ kind → known_of o kind ≡ None → OwnsFirst o words before kind k → PartKnows o words before hs all later → PartKnows o words before (h ∷ hs) all (option_or k later)
  part_from before all h hs (Let l) k later made is own rest = cc
  part_from before all h hs (Procedure l) k later made is own rest = cc
  part_from before all h hs (Owns l) k later made is (ks, stand, first) rest = rw first (rule.part_owns before all h hs l ks later made stand rest)
  part_from before all h hs (Interrupts n l) k later made is own rest = rw own (rule.part_other before all h hs later (rw made is) (λ l' other. cc) rest)
  part_from before all h hs (Clause w f) k later made is own rest = rw own (rule.part_other before all h hs later (rw made is) (λ l' other. cc) rest)

  pub part_name : (start before after : List Known) (hs : List Head) (k : ℕ) (d : Head) (owned : Option ℕ) → k < length hs → ((all : List Known) (later : Option ℕ) → PartKnows o words before (drop k hs) all later → PartKnows o words start hs all (option_or owned later)) → LearnsHead o before (slice_index_or hs k d).kind after true → (all : List Known) (later : Option ℕ) → PartKnows o words after (drop (k + 1) hs) all later → PartKnows o words start hs all (option_or owned later)
  part_name start before after hs k d owned low so_far (x, is, new, same) all later rest =
      so_far all later (rw (drop_more hs k d low) (rule.part_name before all (slice_index_or hs k d) (drop (k + 1) hs) x later is new (subst (λ ks. PartKnows o words ks (drop (k + 1) hs) all later) same rest)))

  pub part_next : (start before after : List Known) (hs : List Head) (k : ℕ) (d : Head) (owned own owned' : Option ℕ) → k < length hs → ((all : List Known) (later : Option ℕ) → PartKnows o words before (drop k hs) all later → PartKnows o words start hs all (option_or owned later)) → LearnsHead o before (slice_index_or hs k d).kind after false → OwnsFirst o words after (slice_index_or hs k d).kind own → owned' ≡ option_or owned own → (all : List Known) (later : Option ℕ) → PartKnows o words after (drop (k + 1) hs) all later → PartKnows o words start hs all (option_or owned' later)
  part_next start before after hs k d owned own owned' low so_far (is, same) owns so all later rest =
      rw (so, or_or owned own later) (so_far all (option_or own later) (rw (drop_more hs k d low) (part_from before all (slice_index_or hs k d) (drop (k + 1) hs) (slice_index_or hs k d).kind own later refl is (subst (λ ks. OwnsFirst o words ks (slice_index_or hs k d).kind own) same owns) (subst (λ ks. PartKnows o words ks (drop (k + 1) hs) all later) same rest))))

  pub part_named : (q : Outline) (start before after : List Known) (hs : List Head) (k : ℕ) (d : Head) (b : Bool) (owned : Option ℕ) → q ≡ o → k < length hs → ((all : List Known) (later : Option ℕ) → PartKnows o words before (drop k hs) all later → PartKnows o words start hs all (option_or owned later)) → LearnsHead q before (slice_index_or hs k d).kind after b → b ≡ true → (all : List Known) (later : Option ℕ) → PartKnows o words after (drop (k + 1) hs) all later → PartKnows o words start hs all (option_or owned later)
  part_named q start before after hs k d b owned is low so_far learns so = part_name start before after hs k d owned low so_far (subst₂ (λ x y. LearnsHead x before (slice_index_or hs k d).kind after y) is so learns)

  pub part_step : (q p : Outline) (v : List Word) (start before after : List Known) (hs : List Head) (k : ℕ) (d : Head) (b : Bool) (owned own owned' : Option ℕ) → q ≡ o → p ≡ o → v ≡ words → k < length hs → ((all : List Known) (later : Option ℕ) → PartKnows o words before (drop k hs) all later → PartKnows o words start hs all (option_or owned later)) → LearnsHead q before (slice_index_or hs k d).kind after b → b ≡ false → OwnsFirst p v after (slice_index_or hs k d).kind own → owned' ≡ option_or owned own → (all : List Known) (later : Option ℕ) → PartKnows o words after (drop (k + 1) hs) all later → PartKnows o words start hs all (option_or owned' later)
  part_step q p v start before after hs k d b owned own owned' is so same low so_far learns none owns new =
      part_next start before after hs k d owned own owned' low so_far (subst₂ (λ x y. LearnsHead x before (slice_index_or hs k d).kind after y) is none learns) (subst₂ (λ x w. OwnsFirst x w after (slice_index_or hs k d).kind own) so same owns) new

  pub part_all : (start before : List Known) (hs : List Head) (k : ℕ) (owned : Option ℕ) → length hs ≤ k → ((all : List Known) (later : Option ℕ) → PartKnows o words before (drop k hs) all later → PartKnows o words start hs all (option_or owned later)) → PartKnows o words start hs before owned
  part_all start before hs k owned far so_far = subst (λ x. PartKnows o words start hs before x) (or_none owned) (so_far before None (rw (at_drop_all (λ xs. xs) hs k far) (rule.no_part_heads before)))
    where
      or_none : (x : Option ℕ) → option_or x None ≡ x
      or_none None = refl
      or_none (Some j) = refl

  -- the names before those of a part
  pub part_longer : (before all : List Known) (hs : List Head) (owned : Option ℕ) → PartKnows o words before hs all owned → (more : List Known) × (all ≡ before ++ more)
  part_longer _ _ _ _ (rule.no_part_heads before) = ([], sym (append-nil before))
  part_longer _ _ _ _ (rule.part_name before all h hs k owned is new rest) = let r = part_longer (before ++ k ∷ []) all hs owned rest in (k ∷ r.0, r.1 ∙ append_assoc before (k ∷ []) r.0)
  part_longer _ _ _ _ (rule.part_owns before all h hs l ks later is stand rest) = part_longer before all hs later rest
  part_longer _ _ _ _ (rule.part_other before all h hs owned is other rest) = part_longer before all hs owned rest

  pub part_known : (before all : List Known) (p : PartWritten) (name : List ℕ) (t : PartTree) (owned : Option ℕ) → t.name ≡ name → PartKnows o words before (piece_of o.written.heads.items p.heads) all owned → BlockStandsFor o words (option_or owned (first_changing 0 (fixed_of words))) (of_outline all) p.body (rule.bare_statement t.body) → PartKnown o words before all p name t
  part_known before all p name t owned named heads body =
      let more = part_longer before all (piece_of o.written.heads.items p.heads) owned heads in
      record {
        longer = λ n is. rw (is, more.1) (take-append_seam before more.0);
        stands = record { all = all; owned = owned; named = named; heads = heads; body = body };
      }

-- ---- parts

-- the names as they were before a part
pub truncated : (s : Reader) (n : ℕ) (cut : List declared.Known) (before : List Known) → cut ≡ take n s.known.items → take n (knowns s) ≡ before → map (known (outline s)) cut ≡ before
truncated s n cut before is all = ap (λ ks. map (known (outline s)) ks) is ∙ sym (take-map (known (outline s)) n s.known.items) ∙ all

pub one_part : (parts : List Part) (k n : ℕ) (p : Part) → slice_get parts k ≡ Some p → n ≡ k + 1 → take n (map part parts) ≡ take k (map part parts) ++ part p ∷ []
one_part parts k n p at is =
    let there : slice_get (map part parts) k ≡ Some (part p) = slice_get-map part parts k ∙ ap (λ x. option_map part x) at in
    rw is (take_more (map part parts) k (part p) (slice_get_within (map part parts) k (part p) there) ∙ ap (λ x. take k (map part parts) ++ x ∷ []) (get_or_from_slice_get (map part parts) k (part p) (part p) there))

module _ (o : Outline) (words : List Word) where
  pub members_and_one : (before : List Known) (p : PartWritten) (index : Span) (zs : List ℤ) (ts : List PartTree) (z : ℤ) (t : PartTree) → MembersStandFor o words before p index zs ts → PartStandsFor o words (before ++ record { name = text_of o index; since = index.end; sense = part_number z } ∷ []) p (member_name (text_of o p.name) (z ∷ [])) t → MembersStandFor o words before p index (zs ++ z ∷ []) (ts ++ t ∷ [])
  members_and_one before p index [] [] z t all one = (one, tt)
  members_and_one before p index (y ∷ zs) (u ∷ ts) z t all one = (all.0, members_and_one before p index zs ts z t all.1 one)
  members_and_one before p index [] (u ∷ ts) z t all one = absurd all
  members_and_one before p index (y ∷ zs) [] z t all one = absurd all

  pub members_next : (before inner : List Known) (p : PartWritten) (index : Span) (zs : List ℤ) (k : ℕ) (d z : ℤ) (parts : List Part) (first place next : ℕ) → z ≡ slice_index_or zs k d → k < length zs → AreMembersOf o words before p index (take k zs) parts first place → inner ≡ before ++ record { name = text_of o index; since = index.end; sense = part_number z } ∷ [] → IsPartOf o words inner p (z ∷ []) parts place next → AreMembersOf o words before p index (take (k + 1) zs) parts first next
  members_next before inner p index zs k d z parts first place next at low (ts, all, stand) is (t, one, own) = (
    ts ++ t ∷ [],
    one ∙ ap (λ x. x ++ t ∷ []) all ∙ append_assoc (take first (map part parts)) ts (t ∷ []),
    rw (take_more zs k d low, ← at) (members_and_one before p index (take k zs) ts z t stand (subst (λ ks. PartStandsFor o words ks p (member_name (text_of o p.name) (z ∷ [])) t) is own)),
  )

  pub no_members : (before : List Known) (p : PartWritten) (index : Span) (parts : List Part) (first : ℕ) → AreMembersOf o words before p index [] parts first first
  no_members before p index parts first = ([], sym (append-nil (take first (map part parts))), tt)

  pub all_members : (before : List Known) (p : PartWritten) (index : Span) (zs : List ℤ) (k : ℕ) (parts : List Part) (first next : ℕ) → length zs ≤ k → AreMembersOf o words before p index (take k zs) parts first next → AreMembersOf o words before p index zs parts first next
  all_members before p index zs k parts first next far all = subst (λ ys. AreMembersOf o words before p index ys parts first next) (take_all k zs far) all

  pub single : (before : List Known) (p : PartWritten) (parts : List Part) (first next : ℕ) → p.index ≡ None → IsPartOf o words before p [] parts first next → ArePartsOf o words before p parts first next
  single before p parts first next none (t, is, own) = (t ∷ [], is, λ ps us rest. rule.part_and_more p ps t us none own rest)

  pub family_of : (before : List Known) (p : PartWritten) (parts : List Part) (first next : ℕ) (index : Span) (range : ℕ) (zs : List ℤ) → p.index ≡ Some (index, range) → IsNew (of_outline before) (text_of o index) → RangeIs o words (of_outline before) range zs → zs ≢ [] → AreMembersOf o words before p index zs parts first next → ArePartsOf o words before p parts first next
  family_of before p parts first next index range zs some new numbers one (ts, is, all) = (ts, is, λ ps us rest. rule.members_and_more p ps index range zs ts us some new numbers one all rest)

  pub parts_next : (before : List Known) (ps : List PartWritten) (k : ℕ) (d p : PartWritten) (parts : List Part) (place next : ℕ) → p ≡ slice_index_or ps k d → k < length ps → ((ts : List PartTree) → PartsStandFor o words before (drop k ps) ts → PartsStandFor o words before ps (take place (map part parts) ++ ts)) → ArePartsOf o words before p parts place next → (ts : List PartTree) → PartsStandFor o words before (drop (k + 1) ps) ts → PartsStandFor o words before ps (take next (map part parts) ++ ts)
  parts_next before ps k d p parts place next at low so_far (own, is, stand) ts rest =
      let whole : take next (map part parts) ++ ts ≡ take place (map part parts) ++ (own ++ ts) = ap (λ x. x ++ ts) is ∙ append_assoc (take place (map part parts)) own ts in
      rw whole (so_far (own ++ ts) (rw (drop_more ps k d low, ← at) (stand (drop (k + 1) ps) ts rest)))

  pub parts_step : (q : Outline) (v : List Word) (before known : List Known) (ps : List PartWritten) (k : ℕ) (d p : PartWritten) (parts : List Part) (place next : ℕ) → q ≡ o → v ≡ words → known ≡ before → p ≡ slice_index_or ps k d → k < length ps → ((ts : List PartTree) → PartsStandFor o words before (drop k ps) ts → PartsStandFor o words before ps (take place (map part parts) ++ ts)) → ArePartsOf q v known p parts place next → (ts : List PartTree) → PartsStandFor o words before (drop (k + 1) ps) ts → PartsStandFor o words before ps (take next (map part parts) ++ ts)
  parts_step q v before known ps k d p parts place next is same known_is at low so_far h = parts_next before ps k d p parts place next at low so_far (subst (λ ks. ArePartsOf o words ks p parts place next) known_is (subst₂ (λ x w. ArePartsOf x w known p parts place next) is same h))

  pub parts_all : (before : List Known) (ps : List PartWritten) (k : ℕ) (parts : List Part) (n : ℕ) → length ps ≤ k → n ≡ length parts → ((ts : List PartTree) → PartsStandFor o words before (drop k ps) ts → PartsStandFor o words before ps (take n (map part parts) ++ ts)) → PartsStandFor o words before ps (map part parts)
  parts_all before ps k parts n far all so_far =
      let made = so_far [] (rw (at_drop_all (λ xs. xs) ps k far) rule.no_parts) in
      subst (λ ts. PartsStandFor o words before ps ts) (append-nil (take n (map part parts)) ∙ take-map part n parts ∙ ap (λ xs. map part xs) (take_all n parts (omega arith))) made

-- ---- the four formulas

pub rely_given : (words : List Word) (fs : List Proposition) (b : Bool) (p : Proposition) → b ≡ (length fs == 0) → b ≡ false → IsConjunction fs p → IsRely words fs p
rely_given words [] b p is none h = cc (sym none ∙ is)
rely_given words (f ∷ fs) b p is none h = h

pub rely_none : (words : List Word) (fs : List Proposition) (p : Proposition) → fs ≡ [] → IsUnchanged words [] p → IsRely words fs p
rely_none words fs p none h = subst (λ xs. IsRely words xs p) (sym none) h

-- the body of a part
pub body_known : (o q : Outline) (words v : List Word) (owned waiting_word : Option ℕ) (n : Names) (l : written.List) (t : Statement) → q ≡ o → v ≡ words → waiting_word ≡ option_or owned (first_changing 0 (fixed_of v)) → BlockStandsFor q v waiting_word n l t → BlockStandsFor o words (option_or owned (first_changing 0 (fixed_of words))) n l t
body_known o q words v owned waiting_word n l t same known_words is h = subst₂ (λ x y. BlockStandsFor x y (option_or owned (first_changing 0 (fixed_of y))) n l t) same known_words (subst (λ k. BlockStandsFor q v k n l t) is h)

-- one more in a view
pub map_pushed : {X Y : Type 0} (f : X → Y) (old new : List X) (x : X) → new ≡ old ++ x ∷ [] → map f new ≡ map f old ++ f x ∷ []
map_pushed f old new x is = ap (λ xs. map f xs) is ∙ map-append f old (x ∷ [])

-- ---- the program

-- the names before one more
pub cut_back : (n : ℕ) (xs before : List Known) (k : Known) → xs ≡ before ++ k ∷ [] → n ≡ length before → take n xs ≡ before
cut_back n xs before k is all = rw (all, is) (take-append_seam before (k ∷ []))

-- the index of a family of parts is known
pub index_known : (o q : Outline) (before so_far inner : List Known) (index : Span) (z : ℤ) → inner ≡ so_far ++ record { name = text_of q index; since = index.end; sense = part_number z } ∷ [] → q ≡ o → so_far ≡ before → inner ≡ before ++ record { name = text_of o index; since = index.end; sense = part_number z } ∷ []
index_known o q before so_far inner index z is same known_is = is ∙ ap (λ (ks : List Known). ks ++ record { name = text_of q index; since = index.end; sense = part_number z } ∷ []) known_is ∙ ap (λ (x : Outline). before ++ record { name = text_of x index; since = index.end; sense = part_number z } ∷ []) same

pub program_of : (o q₁ q₂ q₃ : Outline) (p : ProgramTree) (v₁ v₂ v₃ : List Word) (first before all : List Known) (clauses : Clauses) → q₁ ≡ o → q₂ ≡ o → q₃ ≡ o → v₁ ≡ p.words → v₂ ≡ p.words → v₃ ≡ p.words
    → KnownAfter o [] (piece_of o.written.heads.items o.written.before_words) first
    → AreDeclared q₁ v₁ first q₁.written.declarations.items before v₁
    → ClausesStandFor q₂ v₂ before (piece_of q₂.written.heads.items q₂.written.following_words) all clauses
    → AreSpecified v₃ clauses p.spec
    → PartsStandFor q₃ v₃ all q₃.written.parts.items p.parts
    → OutlineStandsFor o p
program_of o q₁ q₂ q₃ p v₁ v₂ v₃ first before all clauses o₁ o₂ o₃ w₁ w₂ w₃ names declared given specified parts = record {
  before_words = first;
  with_words = before;
  with_lets = all;
  clauses = clauses;
  names = names;
  words = subst₂ (λ q v. AreDeclared q v first q.written.declarations.items before v) o₁ w₁ declared;
  formulas = subst₂ (λ q v. ClausesStandFor q v before (piece_of q.written.heads.items q.written.following_words) all clauses) o₂ w₂ given;
  specified = subst (λ v. AreSpecified v clauses p.spec) w₃ specified;
  parts = subst₂ (λ q v. PartsStandFor q v all q.written.parts.items p.parts) o₃ w₃ parts;
}

-- ---- the first word that isn't fixed

pub changing_next : (bs : List Bool) (k : ℕ) → k < length bs → slice_index_or bs k false ≡ true → first_changing k (drop k bs) ≡ first_changing (k + 1) (drop (k + 1) bs)
changing_next bs k low is = at_drop_more (λ rest. first_changing k rest) bs k false low ∙ ap (λ b. first_changing k (b ∷ drop (k + 1) bs)) is ∙ ap (λ n. first_changing n (drop (k + 1) bs)) (sym (add-one k))

pub changing_here : (bs : List Bool) (k : ℕ) → k < length bs → slice_index_or bs k false ≡ false → first_changing k (drop k bs) ≡ Some k
changing_here bs k low is = at_drop_more (λ rest. first_changing k rest) bs k false low ∙ ap (λ b. first_changing k (b ∷ drop (k + 1) bs)) is

pub changing_none : (bs : List Bool) (k : ℕ) → length bs ≤ k → first_changing k (drop k bs) ≡ None
changing_none bs k far = at_drop_all (λ rest. first_changing k rest) bs k far

pub ruleset changing = (changing_next, changing_here, changing_none)

pub ruleset rules = (learned, heads_all, rely_given, rely_none, no_members, single, family_of, map_pushed)
