-- How the words of a test are read.
use Rattle.std.specs.Prelude.{ℕ, Bool, true, false, ◌&&◌, List, [], ◌∷◌, map, nat_eq, length, replicate, slice_set, if◌then◌else◌}
use Rattle.rg_words.specs.Layout.{Word}
use Rattle.rg_c_values.specs.declared.print.Read.{Read}
use Rattle.rg_c_values.specs.declared.print.Read.TheVariants.{Plain, Load, Local}
use Rattle.rg_c_plan.specs.declared.kind.Kind.{Kind}
use Rattle.rg_c_plan.specs.Accesses.{places}
use Rattle.rg_c_plan.specs.Ways.{kind_at, has_atomic_accesses}
use Rattle.rg_c_values.specs.CTrees.{CValue, CTest, c_literal, c_word, c_compared}

-- a value is this word
abbrev pub is_load_of : ℕ → CValue → Bool
is_load_of x (c_word g k) = nat_eq x k
is_load_of x v = false

-- a value is a number
abbrev pub is_literal : CValue → Bool
is_literal (c_literal n) = true
is_literal v = false

-- a test loads this word once: it compares it with a number
abbrev pub is_one_load : ℕ → CTest → Bool
is_one_load x (c_compared c a b) = is_load_of x a && is_literal b
is_one_load x t = false

-- a word is read by a load, and all others plainly
abbrev pub load_reads : List Word → ℕ → List Read
load_reads words x = slice_set (replicate (length words) Plain) x Load

-- a word is read by a load where each access to it is atomic, and else plainly
abbrev pub kind_read : List Kind → ℕ → Read
kind_read kinds k = if has_atomic_accesses (kind_at kinds k) then Load else Plain

abbrev pub kind_reads : List Word → List Kind → List Read
kind_reads words kinds = map (kind_read kinds) (places words)

-- these words are read from locals, after those that are already
abbrev pub with_locals : List Read → List ℕ → List Read
with_locals reads [] = reads
with_locals reads (k ∷ ks) = with_locals (slice_set reads k Local) ks

-- these words are read from locals, and all others by their kinds
abbrev pub local_reads : List Word → List Kind → List ℕ → List Read
local_reads words kinds ks = with_locals (kind_reads words kinds) ks
