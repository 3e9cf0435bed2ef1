-- An example of what the first tokens of a program begin: in its one part, a `skip` and a branch whose first block has a `;`.
use Rattle.std.proofs.Common.{◌≡◌, ℕ, true, false, [], ◌∷◌, map, length, refl}
use Rattle.rg_text.specs.Text.{Leaf}
use Rattle.rg_syntax.specs.Grammar.{truth, numeral, one, SpecSpelling, skipping, assigning, branching, one_statement, and_statement, one_part, ProgramSpelling, program}
use Rattle.rg_syntax.specs.Begun.{program_begun}

abbrev on : ℕ → Leaf
on n = record { text = []; line = n }

abbrev clauses : SpecSpelling
clauses = record { pre = truth true; rely = truth true; guar = truth true; post = truth true }

-- words x : 1 pre true rely true guar true post true part p pre true rely true guar true post true begin
-- skip; if true then skip; x := 1 else skip end end
abbrev example : ProgramSpelling
example = record {
  words = one (record { fixed = false; name = on 1; width = on 1 });
  spec = clauses;
  parts = one_part (record {
    name = on 4;
    spec = clauses;
    body = and_statement (one_statement (skipping (on 5))) (branching (on 6) (truth true)
        (and_statement (one_statement (skipping (on 7))) (assigning (record { target = on 8; value = numeral (on 8) })))
        (one_statement (skipping (on 9))));
  });
}

-- up to `begin`, and then with each token
begins : map (program_begun example) (0 ∷ 23 ∷ 24 ∷ 25 ∷ 26 ∷ 27 ∷ 28 ∷ 29 ∷ 30 ∷ 31 ∷ 32 ∷ 33 ∷ 34 ∷ 35 ∷ 36 ∷ 37 ∷ [])
    ≡ [] ∷ [] ∷ (5 ∷ []) ∷ (5 ∷ 5 ∷ []) ∷ (5 ∷ 5 ∷ 6 ∷ []) ∷ (5 ∷ 5 ∷ 6 ∷ []) ∷ (5 ∷ 5 ∷ 6 ∷ []) ∷ (5 ∷ 5 ∷ 6 ∷ 7 ∷ []) ∷ (5 ∷ 5 ∷ 6 ∷ 7 ∷ 7 ∷ []) ∷ (5 ∷ 5 ∷ 6 ∷ 7 ∷ 7 ∷ 8 ∷ []) ∷ (5 ∷ 5 ∷ 6 ∷ 7 ∷ 7 ∷ 8 ∷ []) ∷ (5 ∷ 5 ∷ 6 ∷ 7 ∷ 7 ∷ 8 ∷ []) ∷ (5 ∷ 5 ∷ 6 ∷ 7 ∷ 7 ∷ 8 ∷ []) ∷ (5 ∷ 5 ∷ 6 ∷ 7 ∷ 7 ∷ 8 ∷ 9 ∷ []) ∷ (5 ∷ 5 ∷ 6 ∷ 7 ∷ 7 ∷ 8 ∷ 9 ∷ []) ∷ (5 ∷ 5 ∷ 6 ∷ 7 ∷ 7 ∷ 8 ∷ 9 ∷ []) ∷ []
begins = refl

all_tokens : length (program example []) ≡ 37
all_tokens = refl
