-- What is printed of a refusal.
use Rattle.std.specs.Prelude.{ℕ, List, ◌++◌, codes}
use Rattle.std.specs.Fmt.{decimal}
use Rattle.rgc_commands.specs.declared.entries.Entry.{Entry}

-- the number, the name, when it is given, what is after it, what to do and an example
abbrev pub explanation_text : ℕ → Entry → List ℕ
explanation_text number entry =
    codes "refused " ++ (decimal number ++ (codes " " ++ (entry.name.now ++ (codes ": " ++ (entry.when.now ++ (codes "\n\n"
    ++ (entry.meaning.now ++ (codes "\n\nWhat to do: " ++ (entry.remedy.now ++ (codes "\n" ++ entry.example.now))))))))))
