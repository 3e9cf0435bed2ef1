-- Expressions whose arithmetic in C11 is the one that is written down, on each device whose `int` has at most 32 bits.
use Rattle.std.specs.Prelude.{◌≡◌, ◌⊎◌, ℕ, ◌<◌, ◌^◌, List, length, slice_index}
use Rattle.rg_c_values.specs.CTrees.{CValue, CTest, c_literal, c_word, c_cast, c_inverse, c_binary, c_rest, c_shifted, c_choice, c_truth, c_not, c_joined, c_compared}
use Rattle.rg_c_values.specs.Translation.{container}

-- the bits of the unsigned type that C gives a value. A literal has a type that its size and the device decide, which is told as 0
abbrev pub c_bits : CValue → ℕ
c_bits (c_literal n) = 0
c_bits (c_word c k) = c
c_bits (c_cast n v) = n
c_bits (c_inverse g v) = g
c_bits (c_binary o g a b) = g
c_bits (c_rest g v n) = g
c_bits (c_shifted d g v k) = g
c_bits (c_choice t a b) = c_bits a

-- the bits of a type that C computes in, and doesn't widen to `int` first
abbrev pub IsComputed : ℕ → Type 0
IsComputed g = (g ≡ 32) ⊎ (g ≡ 64)

-- the bits of an unsigned type
abbrev pub IsUnsigned : ℕ → Type 0
IsUnsigned n = (n ≡ 8) ⊎ (n ≡ 16) ⊎ IsComputed n

-- a second operand, which C takes as one of the unsigned type of g bits: one of that type, or a literal within it
abbrev pub IsBeside : ℕ → CValue → Type 0
IsBeside g (c_literal n) = n < 2 ^ g
IsBeside g (c_word c k) = c ≡ g
IsBeside g (c_cast n v) = n ≡ g
IsBeside g (c_inverse h v) = h ≡ g
IsBeside g (c_binary o h a b) = h ≡ g
IsBeside g (c_rest h v n) = h ≡ g
IsBeside g (c_shifted d h v k) = h ≡ g
IsBeside g (c_choice t a b) = c_bits a ≡ g

abbrev mutual
  -- over words of these widths: a word has its container's type, a first operand its operation's, a shift moves by less than its type has bits, and what
  -- divides isn't 0
  pub IsC : List ℕ → CValue → Type 0
  IsC widths (c_literal n) = n < 2 ^ 64
  IsC widths (c_word c k) = (k < length widths) × (c ≡ container (slice_index widths k))
  IsC widths (c_cast n v) = IsUnsigned n × IsC widths v
  IsC widths (c_inverse g v) = IsComputed g × (c_bits v ≡ g) × IsC widths v
  IsC widths (c_binary o g a b) = IsComputed g × (c_bits a ≡ g) × IsBeside g b × IsC widths a × IsC widths b
  IsC widths (c_rest g v n) = IsComputed g × (c_bits v ≡ g) × (0 < n) × (n < 2 ^ g) × IsC widths v
  IsC widths (c_shifted d g v k) = IsComputed g × (c_bits v ≡ g) × (k < g) × IsC widths v
  IsC widths (c_choice t a b) = IsComputed (c_bits a) × IsBeside (c_bits a) b × IsCTest widths t × IsC widths a × IsC widths b

  -- numbers of any unsigned types are compared as numbers
  pub IsCTest : List ℕ → CTest → Type 0
  IsCTest widths (c_truth b) = Unit {0}
  IsCTest widths (c_not t) = IsCTest widths t
  IsCTest widths (c_joined j t u) = IsCTest widths t × IsCTest widths u
  IsCTest widths (c_compared c a b) = IsC widths a × IsC widths b
