use Rattle.std.proofs.Common.{◌≡◌, ℕ, List, false, refl}
use Rattle.serde_json.specs.Written.{has_float}
use Rattle.rgc_answers.specs.Proofs.{proofs_data}
use Rattle.rgc_answers.specs.declared.proof_lines.Range.{Range}
use Rattle.rgc_answers.specs.declared.proof_lines.Range.TheVariants.{All, Part}
use Rattle.rgc_answers.proofs.Items.{lined}
use Rattle.rgc_answers.proofs.proof_lines.piece_text.Goals as goal

proofs_exact : (range : Range) (text : List ℕ) → has_float (proofs_data range text) ≡ false
proofs_exact (All count) text = refl
proofs_exact (Part first last) text = refl

pub returns-in_ok-value-in-Json : goal.returns-in_ok-value-in-Json
returns-in_ok-value-in-Json c = rw c.in-Json.is (lined c.line_of.result _ _ (proofs_exact c.args.range c.args.piece.now) c.in_ok-value-in-Json.ensures c.line_of.ensures)
