-- Words of a program, one by one.
use Rattle.std.proofs.Common.{◌≡◌, ℕ, suc, ◌+◌, ◌-◌, ◌<◌, List, ◌++◌, ap, arith}
use Rattle.rg_tree.specs.Statements.{ProgramTree}
use Rattle.rg_c_plan.specs.Views.{ViewTree}
use Rattle.rg_c_plan.specs.declared.kind.Kind.{Kind}
use Rattle.rg_c_report.specs.Reports.{word_text, words_text}

-- the first of those that are left, and the rest
pub words_next : (p : ProgramTree) (kinds : List Kind) (lines : List ℕ) (vs : List ViewTree) (k n : ℕ) → k < n → words_text p kinds lines vs k (n - k) ≡ word_text p kinds lines vs k ++ words_text p kinds lines vs (k + 1) (n - (k + 1))
words_next p kinds lines vs k n less = ap (words_text p kinds lines vs k) count
  where
    count : n - k ≡ suc (n - (k + 1))
    count = omega (arith, less)
