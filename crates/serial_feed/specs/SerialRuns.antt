-- Words of serial runs, for those that stand on a fed run. All of it is this project's own.
pub use Rattle.serial_run.specs.Feeding.{history_if, history_of, CanFeedNode}
pub use Rattle.serial_run.specs.Over.{IsNotedRun}
pub use Rattle.serial_run.specs.Serial.{all_have_ended, away_turns_of, log_has_ended, log_with_scan}
pub use Rattle.serial_run.specs.Serial.{members_on, scanned, visits_of, Finishes, IsChain}
pub use Rattle.serial_run.specs.Serial.{IsLateRound, IsRepetition, IsSerial, MakesRound}
pub use Rattle.serial_run.specs.Serial.{MakesRoundOfEach}
pub use Rattle.serial_run.specs.Stations.{log_of, log_of_ring, ring_if, station_on, station_ring}
pub use Rattle.serial_run.specs.Stations.{StandsOn}
pub use Rattle.serial_run.specs.Turns.{coming_back, empty_log, empty_ring_log, holder_on}
pub use Rattle.serial_run.specs.Turns.{net_numbered, nothing_made, place_of_bridge}
pub use Rattle.serial_run.specs.Turns.{place_of_controller, place_of_host, visit_is_due}
pub use Rattle.serial_run.specs.Turns.{with_entries, with_list, with_noted_on, ComesBackAt}
pub use Rattle.serial_run.specs.Turns.{EndHoldsAt, HostHoldsAt, IsControllerAt, MakesAwayTurn}
pub use Rattle.serial_run.specs.Turns.{MakesHold, MakesHoldOn, MakesHoldTurnAt, MakesStep}
pub use Rattle.serial_run.specs.Turns.{MakesTurn, MakesTurns, MakesVisit, StepsAt, VisitsIfDue}
pub use Rattle.serial_run.specs.Turns.{VisitsWhere}
pub use Rattle.serial_run.specs.declared.order.Turn.{Turn}
pub use Rattle.serial_run.specs.declared.order.Turn.TheVariants.{Away, Hold, Step, Visit}
pub use Rattle.serial_run.specs.declared.stations.ControllerStation.{ControllerStation}
pub use Rattle.serial_run.specs.declared.stations.RingStation.{RingStation}
