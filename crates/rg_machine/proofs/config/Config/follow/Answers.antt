use Rattle.std.proofs.Common.{◌≡◌, ℕ, List, [], ◌∷◌, length, ap, sym, ◌∙◌, refl, arith}
use Rattle.rg_code.specs.Code.{BlockTree}
use Rattle.rg_code.specs.CodeTrees.{code_blocks}
use Rattle.rg_machine.specs.Kept.{AreAtBlocks}
use Rattle.rg_machine.specs.Machine.{Configuration}
use Rattle.rg_machine.proofs.config.Config.follow.Goals as goal

size : (cs : List (List BlockTree)) (ks : List ℕ) → AreAtBlocks cs ks → length ks ≡ length cs
size [] [] h = refl
size (c ∷ cs) (k ∷ ks) h = let e = size cs ks h.1 in omega (arith, e)
size [] (k ∷ ks) h = absurd h
size (c ∷ cs) [] h = absurd h

pub copy_from_slice-requires : goal.copy_from_slice-requires
copy_from_slice-requires c =
    let mine = size _ _ c.self.invariant.at_blocks in
    let theirs = size _ _ c.other.invariant.at_blocks in
    let codes : code_blocks c.other.inside.code.now ≡ code_blocks c.self.inside.code.now = rw (← c.self.view_is, ← c.other.view_is) at c.requires.codes in
    let value = ap (λ (ks : List ℕ). length ks) c.deref.ensures.value in
    omega (arith, mine, theirs, ap (λ (cs : List (List BlockTree)). length cs) codes, value, c.self.inside.places.ok.0)
