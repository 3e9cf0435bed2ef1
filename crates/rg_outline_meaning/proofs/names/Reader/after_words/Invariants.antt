use Rattle.std.proofs.Common.{◌≡◌, ◌++◌, ℤ, List, map, take}
use Rattle.rg_words.specs.Layout.{Word}
use Rattle.rg_outline_meaning.specs.Names.{text_of}
use Rattle.rg_outline_meaning.specs.Members.{member_name}
use Rattle.rg_outline_meaning.specs.Programs.{is_fixed}
use Rattle.rg_outline_meaning.specs.View.{outline, words}
use Rattle.rg_outline_meaning.proofs.ProgramRules.{word_of}
use Rattle.rg_outline_meaning.proofs.names.Reader.after_words.Given as goal

-- the words of the members so far
abbrev pub invariant-loop-indices : goal.invariant-loop-indices
invariant-loop-indices l = take l.place (words l.self) ≡ take l.fn.first (words l.self) ++ map (word_of (outline l.self) l.fn.declaration l.fn.width) (map (λ is. is.items) (take l.indices-index l.indices-items))
