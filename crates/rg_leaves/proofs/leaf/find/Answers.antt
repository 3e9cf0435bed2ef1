use Rattle.rg_leaves.proofs.Names.{no_text_no_word}
use Rattle.rg_leaves.proofs.leaf.find.Goals as goal

pub returns-in-Err : goal.returns-in-Err
returns-in-Err c = no_text_no_word c.args.layout.now c.args.name.now c.facts.ensures.layout c.in-Err.ensures.cases.0
