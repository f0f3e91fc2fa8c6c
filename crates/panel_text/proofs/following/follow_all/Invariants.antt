use Rattle.std.proofs.Common.{◌≡◌, take}
use Rattle.panel_text.proofs.following.follow_all.Given as goal

abbrev pub invariant-loop-entry : goal.invariant-loop-entry
invariant-loop-entry l = record {
  same : l.controller.fixed ≡ l.fn.controller.fixed;
  history : l.controller.history ≡ take l.entry-index l.entries;
}
