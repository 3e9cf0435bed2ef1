-- The line that says that an outline is verified.
use Rattle.std.specs.Prelude.{ℕ, List, [], ◌++◌, codes, decimal}
use Rattle.serde_json.specs.Data.{Data, object, member, no_members, number, string, unsigned}
use Rattle.serde_json.specs.Written.{compact_text}
use Rattle.rgc_outlines.specs.declared.verdict.VerdictForm.{VerdictForm}
use Rattle.rgc_outlines.specs.declared.verdict.VerdictForm.TheVariants.{Alone, Named, Json}

-- how many conditions were proved, and for how many of them a search found lines
abbrev pub verified_text : ℕ → ℕ → List ℕ
verified_text conditions found = codes "verified: " ++ (decimal conditions ++ (codes " conditions, " ++ (decimal found ++ codes " by search\n")))

-- the same as a JSON value, with the outline's file
abbrev pub verdict_data : List ℕ → ℕ → ℕ → Data
verdict_data file conditions found =
    object (member (codes "by_search") (number (unsigned found)) (member (codes "conditions") (number (unsigned conditions)) (member (codes "file") (string file) (member (codes "kind") (string (codes "verified")) no_members))))

-- the same in a form, as a line
abbrev pub verdict_text : VerdictForm → ℕ → ℕ → List ℕ
verdict_text Alone conditions found = verified_text conditions found
verdict_text (Named name) conditions found = name.now ++ (codes ": " ++ verified_text conditions found)
verdict_text (Json name) conditions found = compact_text (verdict_data name.now conditions found) ++ codes "\n"

-- the outline's name, where lines about it begin with it
abbrev pub name_text : VerdictForm → List ℕ
name_text Alone = []
name_text (Named name) = name.now ++ codes ": "
name_text (Json name) = []
