use Rattle.std.proofs.Common.{◌≡◌, ℕ, ◌%◌, ◌^◌, []}
use Rattle.turn_gate.specs.Moves.{in_phase}
use Rattle.turn_gate.specs.declared.views.Phase.TheVariants.{Waiting}
use Rattle.turn_gate.proofs.gates.Gate.await_turn.Given as goal

abbrev pub invariant-loop : goal.invariant-loop
invariant-loop g l = (l.seat.table_id ≡ l.fn.seat.table_id)
    × ((t : ℕ) × (l.ticket ≡ t % 2 ^ 64) × (l.seat.me ≡ (in_phase l.fn.seat.me.0 (Waiting t), [])))
