-- The parts of a buffered writer.
use Rattle.std.specs.Prelude.{ℕ, List, drop}
use Rattle.rg_words.specs.declared.buffered.Buffered.{Buffered}

-- the writer below
abbrev pub inner_of : {W : Type 0} → Buffered W → W
inner_of b = b.inner

-- the bytes that were taken and aren't out yet
abbrev pub waiting_in : {W : Type 0} → Buffered W → List ℕ
waiting_in b = drop b.sent b.pending.items
