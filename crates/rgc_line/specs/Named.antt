-- The files that a command reads.
use Rattle.std.specs.Prelude.{Option, Some, None, option_map}
use Rattle.std.specs.Borrow.{Bor}
use Rattle.clap.specs.Words.{Text}
use Rattle.rgc_line.specs.declared.command.Named.{Named}
use Rattle.rgc_line.specs.declared.command.Command.{Command}
use Rattle.rgc_line.specs.declared.command.Command.TheVariants.{Number, Check, Conditions, Prove, Emit, EmitOutline, Accesses, AccessesOutline, Run, RunOutline, Valid, Clauses, Find, Outline, Verify, Complete, Challenge, Explain}

-- a text, a derivation and proofs
abbrev pub files : Option (Bor Text) → Option (Bor Text) → Option (Bor Text) → Named
files text derivation proofs = record { text = text; derivation = derivation; proofs = proofs; start = None; moves = None }

-- the files that a command reads: a run is drawn to a file, and reads none there
abbrev pub named : Command → Named
named (Number text) = files (Some text) None None
named (Check text derivation proofs) = files (Some text) (Some derivation) (Some proofs)
named (Conditions text derivation _) = files (Some text) (Some derivation) None
named (Prove text derivation _ _) = files (Some text) (Some derivation) None
named (Emit text derivation proofs) = files (Some text) (Some derivation) (Some proofs)
named (Run text derivation proofs start moves _ _) = record (files (Some text) (Some derivation) (Some proofs)) { start = start; moves = moves }
named (Valid text proofs) = files (Some text) None (Some proofs)
named (Clauses text chosen) = files (Some text) (option_map (λ c. c.derivation) chosen) None
named (Find text _ chosen) = files (Some text) (option_map (λ c. c.derivation) chosen) None
named (EmitOutline outline) = files (Some outline) None None
named (Accesses text derivation proofs) = files (Some text) (Some derivation) (Some proofs)
named (AccessesOutline outline) = files (Some outline) None None
named (RunOutline outline start moves _ _) = record (files (Some outline) None None) { start = start; moves = moves }
named (Complete outline _ _ _) = files (Some outline) None None
named (Challenge outline _) = files (Some outline) None None
named (Outline outline _ _ _ _ _) = files (Some outline) None None
named (Verify outlines _ _ _) = files (Some outlines.outline) None None
named (Explain _) = files None None None
