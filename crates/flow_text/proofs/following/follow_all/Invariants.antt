use Rattle.std.proofs.Common.{◌≡◌, drop, take}
use Rattle.controller_core.specs.Controller.{state_of}
use Rattle.flow_text.specs.Lines.{scan_lines}
use Rattle.flow_text.specs.Solved.{networks_solved, solved_from}
use Rattle.flow_text.specs.Window.{texts_of, told}
use Rattle.flow_text.proofs.following.follow_all.Given as goal

abbrev pub invariant-loop-entry : goal.invariant-loop-entry
invariant-loop-entry l = record {
  same : l.controller.fixed ≡ l.fn.controller.fixed;
  history : l.controller.history ≡ take l.entry-index l.entries;
  first : l.window.first ≡ l.fn.window.first;
  texts :
      told (scan_lines l.node (solved_from l.fn.controller.fixed (state_of l.controller)
      (drop l.entry-index l.entries))) l.window.first (texts_of l.window)
      ≡ told (scan_lines l.node (networks_solved l.fn.controller.fixed l.entries))
      l.fn.window.first (texts_of l.fn.window);
}
