-- What the words of a program are called in C.
use Rattle.std.specs.Prelude.{◌≡◌, ℕ, Bool, false, not, ◌&&◌, ◌||◌, nat_eq, List, ◌∷◌, [], ◌++◌, if◌then◌else◌, codes}
use Rattle.std.specs.List.{list_any, starts_with, ends_with}
use Rattle.std.specs.Str.{bytes_eq}
use Rattle.std.specs.Char.{is_ascii_lowercase}

-- words of C, and macros that it, its headers and compilers have without a capital letter, and the name of the struct of the words
unfoldable pub c_words : List (List ℕ)
c_words =
    codes "auto" ∷ codes "break" ∷ codes "case" ∷ codes "char" ∷ codes "const" ∷ codes "continue" ∷ codes "default" ∷ codes "do"
    ∷ codes "double" ∷ codes "else" ∷ codes "enum" ∷ codes "extern" ∷ codes "float" ∷ codes "for" ∷ codes "goto" ∷ codes "if"
    ∷ codes "inline" ∷ codes "int" ∷ codes "long" ∷ codes "register" ∷ codes "restrict" ∷ codes "return" ∷ codes "short"
    ∷ codes "signed" ∷ codes "sizeof" ∷ codes "static" ∷ codes "struct" ∷ codes "switch" ∷ codes "typedef" ∷ codes "union"
    ∷ codes "unsigned" ∷ codes "void" ∷ codes "volatile" ∷ codes "while"
    ∷ codes "bool" ∷ codes "true" ∷ codes "false" ∷ codes "alignas" ∷ codes "alignof" ∷ codes "asm" ∷ codes "constexpr"
    ∷ codes "kill_dependency" ∷ codes "noreturn" ∷ codes "nullptr" ∷ codes "static_assert" ∷ codes "thread_local"
    ∷ codes "typeof" ∷ codes "typeof_unqual" ∷ codes "offsetof" ∷ codes "assert" ∷ codes "errno" ∷ codes "stdin" ∷ codes "stdout"
    ∷ codes "stderr" ∷ codes "complex" ∷ codes "imaginary" ∷ codes "math_errhandling" ∷ codes "and" ∷ codes "and_eq" ∷ codes "bitand"
    ∷ codes "bitor" ∷ codes "compl" ∷ codes "not" ∷ codes "not_eq" ∷ codes "or" ∷ codes "or_eq" ∷ codes "xor" ∷ codes "xor_eq"
    ∷ codes "linux" ∷ codes "unix" ∷ codes "i386" ∷ codes "mips" ∷ codes "sparc" ∷ codes "sun" ∷ codes "vax" ∷ codes "m68k"
    ∷ codes "mc68000" ∷ codes "hppa" ∷ codes "hpux" ∷ codes "near" ∷ codes "far" ∷ codes "w" ∷ []

-- how names begin that C keeps for itself and its headers, besides those without a small letter
unfoldable pub c_beginnings : List (List ℕ)
c_beginnings =
    codes "_" ∷ codes "atomic_" ∷ codes "ATOMIC_" ∷ codes "memory_" ∷ codes "PRI" ∷ codes "SCN" ∷ codes "L_" ∷ codes "P_" ∷ codes "M_" ∷ []

-- how names begin that are ours
unfoldable pub our_beginnings : List (List ℕ)
our_beginnings = codes "w_" ∷ codes "rgc_" ∷ codes "RGC_" ∷ []

-- the name is such a word
unfoldable pub is_c_word : List ℕ → Bool
is_c_word name = list_any (λ word. bytes_eq name word) c_words

-- the name begins as C's do, or as ours
unfoldable pub begins_as_c : List ℕ → Bool
begins_as_c name = list_any (λ beginning. starts_with nat_eq name beginning) c_beginnings

unfoldable pub begins_as_ours : List ℕ → Bool
begins_as_ours name = list_any (λ beginning. starts_with nat_eq name beginning) our_beginnings

-- the name has a small letter; most macros have none
unfoldable pub has_small_letter : List ℕ → Bool
has_small_letter name = list_any is_ascii_lowercase name

-- the name is one of a type, as `int_least8_t`
unfoldable pub is_int_type : List ℕ → Bool
is_int_type name = (starts_with nat_eq name (codes "int") || starts_with nat_eq name (codes "uint")) && ends_with nat_eq name (codes "_t")

-- the name means something in C or its headers, or may do so (C11, 7.31)
abbrev pub is_reserved : List ℕ → Bool
is_reserved name = is_c_word name || begins_as_c name || is_int_type name || not (has_small_letter name)

-- the name is reserved, begins as ours do, or ends with `_` as locals do
abbrev pub is_taken : List ℕ → Bool
is_taken name = is_reserved name || begins_as_ours name || ends_with nat_eq name (codes "_")

-- the name of a word in C: its own, or with `w_` before it where that is taken
abbrev pub c_name : List ℕ → List ℕ
c_name name = if is_taken name then codes "w_" ++ name else name

-- different names have different names in C
abbrev pub NamesStayApart : Type 0
NamesStayApart = (a b : List ℕ) → c_name a ≡ c_name b → a ≡ b

-- no name in C is reserved
abbrev pub NamesAreFree : Type 0
NamesAreFree = (a : List ℕ) → is_reserved (c_name a) ≡ false
