use Rattle.std.proofs.Common.{rules, ap, ◌∙◌}
use Rattle.rg_outline_meaning.specs.View.{outline, words, names, meaning}
use Rattle.rg_outline_meaning.proofs.StatementRules.{passed_word}
use Rattle.rg_outline_meaning.proofs.names.Reader.target.Goals as goal

pub returns-in-Value-Word : goal.returns-in-Value-Word
returns-in-Value-Word c =
    let r = c.args.self.now in
    passed_word (outline r) (words r) (names r c.args.names.now) c.args.name c.args.listed c.in-Value-Word.word (meaning c.in-Some.meaning.now) c.listed.result.now c.is_empty.result
    c.in-Some.ensures.some (search rules) c.listed.ensures c.is_empty.ensures c.if-is_empty.true
