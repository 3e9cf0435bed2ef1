use Rattle.rg_text.proofs.ByFirst.{no_bytes}
use Rattle.rg_text.proofs.scan.token_at.Goals as goal

pub returns-in_err-first : goal.returns-in_err-first
returns-in_err-first c = rw c.from_residual.ensures (no_bytes c.args.bytes.now c.in_err-first.ensures.item.3)
