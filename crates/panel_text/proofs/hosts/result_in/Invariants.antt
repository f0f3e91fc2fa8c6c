use Rattle.std.proofs.Common.{◌≡◌, drop}
use Rattle.panel_text.specs.Hosts.{result_in}
use Rattle.panel_text.proofs.hosts.result_in.Given as goal

abbrev pub invariant-loop-entry : goal.invariant-loop-entry
invariant-loop-entry l = result_in (drop l.entry-index l.entries) l.id ≡ result_in l.entries l.id
