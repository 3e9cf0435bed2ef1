use Rattle.std.proofs.Common.{◌+◌, All, map}
use Rattle.rg_tree.specs.Conditions.{condition_tree}
use Rattle.rgc.specs.Proofs.{IsUnproved, AreReportedOrHold, KeepLimit}
use Rattle.rgc.specs.Inner.Search.{AreSought}
use Rattle.rgc.proofs.proofs_found.search_in.Given as goal

-- what is reported so far is true, the other conditions so far hold, and so is what is known; and the conditions so far keep the limit of variables
abbrev pub invariant-loop-place : goal.invariant-loop-place
invariant-loop-place g l = record {
  reported : All (IsUnproved (map condition_tree l.conditions)) l.found.unproved.items;
  others : AreReportedOrHold (map condition_tree l.conditions) (l.from + 1) (l.place + 1) l.found.unproved.items;
  known : AreSought (map condition_tree l.conditions) l.from l.settings.steps l.reported;
  keep : KeepLimit (map condition_tree l.conditions) (l.from + 1) (l.place + 1);
}
