-- Places of parts, blocks at them, and what can be done there.
use Rattle.std.proofs.Common.{◌≡◌, ℕ, zero, suc, ◌+◌, ◌<◌, ◌≤◌, ◌^◌, max, replicate, true, List, [], ◌∷◌, length, map, get_or, Some, None, refl, sym, subst, ap, ◌∙◌, arith}
use Rattle.std.specs.Prelude.{Option, option_and_then, option_map, slice_get, slice_set, slice_index, if◌then◌else◌}
use Rattle.std.proofs.lemmas.List.{length-map}
use Rattle.rg_words.specs.Layout.{Word, widths_of}
use Rattle.rg_words.specs.States.{IsState}
use Rattle.rg_tree.specs.Traces.{State, Step}
use Rattle.rg_tree.proofs.Steps.{set_values}
use Rattle.rg_code.specs.Operations.{left_by, reported_by}
use Rattle.rg_code.specs.Code.{StoreTree, BlockTree, do_block, await_block, test_block, stored, Makes_step, PlacesGo, zeros}
use Rattle.rg_code.specs.Legal.{IsBelow, AreLegalStores, IsLegalBlock, AreLegalBlocks, EndsOnce, AreLegalParts}
use Rattle.rg_code.specs.declared.block.Block.{Block}
use Rattle.rg_code.specs.declared.code.PartCode.{PartCode}
use Rattle.rg_code.specs.BlockView.{block, blocks}
use Rattle.rg_machine.specs.Kept.{AreAtBlocks, block_room, blocks_room, codes_room}
use Rattle.rg_machine.specs.Machine.{CanLead}

-- the first places
zeros_replicate : (cs : List (List BlockTree)) → zeros cs ≡ replicate (length cs) 0
zeros_replicate [] = refl
zeros_replicate (c ∷ cs) = ap (λ ks. 0 ∷ ks) (zeros_replicate cs)

some_block : (c : List BlockTree) → EndsOnce c → 0 < length c
some_block [] h = absurd h
some_block (b ∷ bs) h = omega arith

zeros_at : (words : List Word) (cs : List (List BlockTree)) → AreLegalParts words cs → AreAtBlocks cs (zeros cs)
zeros_at words [] h = tt
zeros_at words (c ∷ cs) h = (some_block c h.1, zeros_at words cs h.2)

pub first_places : (words : List Word) (cs : List (List BlockTree)) (ks : List ℕ) → AreLegalParts words cs → ks ≡ replicate (length cs) 0 → (ks ≡ zeros cs) × AreAtBlocks cs ks
first_places words cs ks h e =
    let q : ks ≡ zeros cs = e ∙ sym (zeros_replicate cs) in
    (q, subst (λ l. AreAtBlocks cs l) (sym q) (zeros_at words cs h))

-- all others stay
stays : (i : ℕ) (cs : List (List BlockTree)) (ks : List ℕ) (s : State) (x : Step) → AreAtBlocks cs ks → x.who < i → PlacesGo i cs ks ks s x
stays i [] [] s x h less = tt
stays i (c ∷ cs) (k ∷ ks) s x h less = ((λ w. absurd (omega arith)), (λ ne. refl), stays (suc i) cs ks s x h.1 (omega arith))
stays i [] (k ∷ ks) s x h less = absurd h
stays i (c ∷ cs) [] s x h less = absurd h

-- the part's place goes on
pub goes : (i : ℕ) (cs : List (List BlockTree)) (ks : List ℕ) (j to : ℕ) (s : State) (x : Step) → AreAtBlocks cs ks → j < length cs → x.who ≡ i + j → Makes_step (slice_get (get_or cs j []) (get_or ks j 0)) s x.after to → PlacesGo i cs ks (slice_set ks j to) s x
goes i [] [] j to s x h less who m = absurd (omega arith)
goes i (c ∷ cs) (k ∷ ks) zero to s x h less who m =
    ((λ w. m), (λ ne. absurd (ne (omega (arith, who)))), stays (suc i) cs ks s x h.1 (omega (arith, who)))
goes i (c ∷ cs) (k ∷ ks) (suc j) to s x h less who m =
    ((λ w. absurd (omega (arith, who, w))), (λ ne. refl), goes (suc i) cs ks j to s x h.1 (omega arith) (omega (arith, who)) m)
goes i [] (k ∷ ks) j to s x h less who m = absurd h
goes i (c ∷ cs) [] j to s x h less who m = absurd h

pub set_at : (cs : List (List BlockTree)) (ks : List ℕ) (j to : ℕ) → AreAtBlocks cs ks → to < length (get_or cs j []) → AreAtBlocks cs (slice_set ks j to)
set_at [] [] j to h less = tt
set_at (c ∷ cs) (k ∷ ks) zero to h less = (less, h.1)
set_at (c ∷ cs) (k ∷ ks) (suc j) to h less = (h.0, set_at cs ks j to h.1 less)
set_at [] (k ∷ ks) j to h less = absurd h
set_at (c ∷ cs) [] j to h less = absurd h

-- what is known of the place of a part, and of its block
pub place_below : (cs : List (List BlockTree)) (ks : List ℕ) (j : ℕ) → AreAtBlocks cs ks → j < length cs → (j < length ks) × (get_or ks j 0 < length (get_or cs j []))
place_below [] [] j h less = absurd (omega arith)
place_below (c ∷ cs) (k ∷ ks) zero h less = (omega arith, h.0)
place_below (c ∷ cs) (k ∷ ks) (suc j) h less = let r = place_below cs ks j h.1 (omega arith) in (omega (arith, r.0), r.1)
place_below [] (k ∷ ks) j h less = absurd h
place_below (c ∷ cs) [] j h less = absurd h

legal_in : (words : List Word) (n : ℕ) (bs : List BlockTree) (k : ℕ) (b : BlockTree) → AreLegalBlocks words n bs → slice_get bs k ≡ Some b → IsLegalBlock words n b × (block_room b ≤ blocks_room bs)
legal_in words n [] k b h at = cc at
legal_in words n (c ∷ bs) zero b h at =
    let e : c ≡ b = cc at in
    subst (λ (x : BlockTree). IsLegalBlock words n x × (block_room x ≤ max (block_room c) (blocks_room bs))) e (h.0, omega arith)
legal_in words n (c ∷ bs) (suc k) b h at = let r = legal_in words n bs k b h.1 at in (r.0, omega (arith, r.1))

pub legal_at : (words : List Word) (cs : List (List BlockTree)) (j k : ℕ) (b : BlockTree) → AreLegalParts words cs → slice_get (get_or cs j []) k ≡ Some b → IsLegalBlock words (length (get_or cs j [])) b × (block_room b ≤ codes_room cs)
legal_at words [] j k b h at = absurd (nowhere k at)
  where
    nowhere : (i : ℕ) → slice_get {X = BlockTree} [] i ≡ Some b → ⊥
    nowhere zero e = cc e
    nowhere (suc i) e = cc e
legal_at words (c ∷ cs) zero k b h at = let r = legal_in words (length c) c k b h.0 at in (r.0, omega (arith, r.1))
legal_at words (c ∷ cs) (suc j) k b h at = let r = legal_at words cs j k b h.2 at in (r.0, omega (arith, r.1))

-- legal stores can be done
number_there : (bound : ℕ) (o : Option ℕ) → IsBelow bound o → (x : ℕ) × (o ≡ Some x) × (x < bound)
number_there bound None h = absurd h
number_there bound (Some x) h = (x, refl, h)

pub stores_done : (words : List Word) (act : List StoreTree) (s : State) → AreLegalStores words act → IsState words s → (t : State) × (stored act s ≡ Some t)
stores_done words [] s h st = (s, refl)
stores_done words (a ∷ act) s h st =
    let found = number_there (2 ^ slice_index (widths_of words) a.target) (left_by a.value s) (h.0.2.1 s st) in
    let size = length-map words (λ w. w.width) in
    let st' = set_values (widths_of words) s a.target found.0 st (omega (arith, size, h.0.0)) found.2 in
    let rest = stores_done words act (slice_set s a.target found.0) h.1 st' in
    (rest.0, ap (λ o. option_and_then (λ x. stored act (slice_set s a.target x)) o) found.1 ∙ rest.1)

-- legal code can do what has no guard, and tests
pub do_can : (words : List Word) (n row next : ℕ) (act : List StoreTree) (s : State) → IsLegalBlock words n (do_block row next act) → IsState words s → CanLead (Some (do_block row next act)) s
do_can words n row next act s h st = let r = stores_done words act s h.1 st in (r.0, next, (r.1, refl))

pub await_can : (words : List Word) (n row next : ℕ) (b : List _) (act : List StoreTree) (s : State) → IsLegalBlock words n (await_block row next b act) → IsState words s → reported_by b s ≡ Some true → CanLead (Some (await_block row next b act)) s
await_can words n row next b act s h st reported = let r = stores_done words act s h.2 st in (r.0, next, (reported, r.1, refl))

pub test_can : (words : List Word) (n row yes_place no_place : ℕ) (b : List _) (s : State) → IsLegalBlock words n (test_block row yes_place no_place b) → IsState words s → CanLead (Some (test_block row yes_place no_place b)) s
test_can words n row yes_place no_place b s h st =
    let found = number_there 2 (left_by b s) (h.2.1 s st) in
    (s, _, (refl, ap (λ o. option_map (λ v. if v then yes_place else no_place) (option_map Rattle.rg_code.specs.Operations.truth_of o)) found.1))

-- a block of the code, by its part and its place there
block_mapped : (bs : List Block) (k : ℕ) (b : Block) → k < length bs → b ≡ get_or bs k b → slice_get (map block bs) k ≡ Some (block b)
block_mapped [] k b less at = absurd (omega arith)
block_mapped (x ∷ bs) zero b less at = ap (λ (y : Block). Some (block y)) (sym at)
block_mapped (x ∷ bs) (suc k) b less at = block_mapped bs k b (omega arith) at

part_mapped : (parts : List PartCode) (j : ℕ) (p : PartCode) → j < length parts → p ≡ get_or parts j p → get_or (map blocks parts) j [] ≡ blocks p
part_mapped [] j p less at = absurd (omega arith)
part_mapped (q ∷ parts) zero p less at = ap (λ (x : PartCode). blocks x) (sym at)
part_mapped (q ∷ parts) (suc j) p less at = part_mapped parts j p (omega arith) at

module _ (parts : List PartCode) (ks : List ℕ) (j : ℕ) (p : PartCode) (at_blocks : AreAtBlocks (map blocks parts) ks) (less : j < length parts) (at : p ≡ get_or parts j p) where
  pub place_in : (j < length ks) × (get_or ks j 0 < length p.blocks.items)
  place_in =
      let size = length-map parts blocks in
      let r = place_below (map blocks parts) ks j at_blocks (omega (arith, size, less)) in
      let q = ap (λ bs. length {A = BlockTree} bs) (part_mapped parts j p less at) in
      let inner = length-map p.blocks.items block in
      (r.0, omega (arith, r.1, q, inner))

  pub found_at : (b : Block) → b ≡ get_or p.blocks.items (get_or ks j 0) b → slice_get (get_or (map blocks parts) j []) (get_or ks j 0) ≡ Some (block b)
  found_at b is =
      ap (λ bs. slice_get bs (get_or ks j 0)) (part_mapped parts j p less at) ∙ block_mapped p.blocks.items (get_or ks j 0) b place_in.1 is
