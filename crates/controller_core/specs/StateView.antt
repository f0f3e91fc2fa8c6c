-- The state that a controller lends to be read.
use Rattle.plant_types.specs.Discretes.{discretes_on}
use Rattle.ladder_solver.specs.State.{solve_state}
use Rattle.controller_core.specs.declared.state.StateView.{StateView}
use Rattle.controller_core.specs.Replay.{ControllerState}

-- The state that these parts are: the references, the discretes of the last End or Fail, the edge
-- bits, the MSTR blocks, the clock, what the watchdog has left, the exchanges, the scans that are
-- gone, the stop code, the power and its failures. This project's own.
abbrev pub state_seen : StateView → ControllerState
state_seen parts = record {
  solving =
      solve_state parts.ram.now (discretes_on parts.past.now) parts.ladder.now.edges parts.bank.now
      parts.clock parts.left;
  exchanges = parts.exchanges.now;
  gone = parts.gone;
  stop = parts.stop;
  powered = parts.powered;
  failures = parts.failures;
}
