use Rattle.std.proofs.Common.{◌≡◌, ◌-◌, ◌+◌, ◌≤◌, length, take, map}
use Rattle.mstr_block.specs.Table.{started_calls}
use Rattle.controller_core.specs.Calls.{call_of}
use Rattle.controller_core.proofs.machine.Machine.uncollected.Given as goal

abbrev pub invariant-loop-call : goal.invariant-loop-call
invariant-loop-call l =
    (1 ≤ l.next) × (l.next ≤ length (started_calls l.self.bank) + 1)
    × (l.calls ≡ map call_of (take (l.next - 1) (started_calls l.self.bank)))

abbrev pub decreases-loop-call : goal.decreases-loop-call
decreases-loop-call l = length (started_calls l.self.bank) + 1 - l.next
