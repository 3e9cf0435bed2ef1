use Rattle.rg_parse.proofs.ProgramMeanings.{words_named, words_count, each_part_named, limits_kept}
use Rattle.rg_parse.proofs.programs.ProgramReaderReader.resolve.Goals as goal

pub resolve_program-requires-clause-names : goal.resolve_program-requires-clause-names
resolve_program-requires-clause-names c =
    let r = c.requires in
    words_named c.args.source.now r.tokens r.spelling r.written.spelled c.args.written.now r.says r.each

pub resolve_program-requires-clause-count : goal.resolve_program-requires-clause-count
resolve_program-requires-clause-count c =
    let r = c.requires in
    words_count c.args.source.now r.tokens r.spelling r.written.spelled c.args.written.now r.says r.written.short

pub resolve_program-requires-clause-part_names : goal.resolve_program-requires-clause-part_names
resolve_program-requires-clause-part_names c =
    let r = c.requires in
    each_part_named c.args.source.now r.tokens r.spelling r.written.spelled c.args.written.now r.says r.each

pub resolve_program-requires-clause-limits : goal.resolve_program-requires-clause-limits
resolve_program-requires-clause-limits c =
    let r = c.requires in
    limits_kept c.args.source.now r.tokens r.spelling r.written.spelled c.args.written.now r.says r.written.counted r.written.short
