use Rattle.std.proofs.Common.{◌++◌}
use Rattle.std.specs.Prelude.{codes}
use Rattle.rg_c_values.specs.Arrays.{member_of}
use Rattle.rg_c_values.proofs.Texts.{then_pushed}
use Rattle.rg_c_values.proofs.print.push_read.Goals as goal

pub returns-in_ok-push_str-in-Load-2 : goal.returns-in_ok-push_str-in-Load-2
returns-in_ok-push_str-in-Load-2 c =
    let member = member_of c.args.layout.now c.args.word in
    rw c.in-Load.is
    (then_pushed (codes "RGC_LOAD(&w->") (member ++ codes ")") _ _ _ c.in_ok-push_str-in-Load.ensures.bytes
    (then_pushed member (codes ")") _ _ _ c.in_ok-push_member_of-in-Load.ensures c.in_ok-push_str-in-Load-2.ensures.bytes))
