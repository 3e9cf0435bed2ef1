-- The parts of writers that tests use.
use Rattle.std.specs.Prelude.{ℕ}
use Rattle.rg_words.specs.declared.writers.Fuse.{Fuse}

-- the writer below a fuse
abbrev pub guarded_by : {W : Type 0} → Fuse W → W
guarded_by f = f.inner

-- how many calls it still passes on
abbrev pub calls_left_of : {W : Type 0} → Fuse W → ℕ
calls_left_of f = f.calls_left

-- how many calls it failed itself
abbrev pub own_failures_of : {W : Type 0} → Fuse W → ℕ
own_failures_of f = f.failures
