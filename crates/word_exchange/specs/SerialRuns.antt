-- Words of serial runs, for those that stand on a word exchange. All of it is this project's own.
pub use Rattle.serial_feed.specs.SerialRuns.{all_have_ended, away_turns_of, coming_back, empty_log}
pub use Rattle.serial_feed.specs.SerialRuns.{holder_on, log_has_ended, log_with_scan, members_on}
pub use Rattle.serial_feed.specs.SerialRuns.{net_numbered, nothing_made, place_of_bridge}
pub use Rattle.serial_feed.specs.SerialRuns.{place_of_controller, place_of_host, scanned}
pub use Rattle.serial_feed.specs.SerialRuns.{visit_is_due, visits_of, with_list, with_noted_on}
pub use Rattle.serial_feed.specs.SerialRuns.{Away, ComesBackAt, EndHoldsAt, Finishes, Hold}
pub use Rattle.serial_feed.specs.SerialRuns.{HostHoldsAt, IsChain, IsControllerAt, IsLateRound}
pub use Rattle.serial_feed.specs.SerialRuns.{IsRepetition, IsSerial, MakesAwayTurn, MakesHold}
pub use Rattle.serial_feed.specs.SerialRuns.{MakesHoldOn, MakesHoldTurnAt, MakesRound}
pub use Rattle.serial_feed.specs.SerialRuns.{MakesRoundOfEach, MakesStep, MakesTurn, MakesTurns}
pub use Rattle.serial_feed.specs.SerialRuns.{MakesVisit, Step, StepsAt, Turn, Visit, VisitsIfDue}
pub use Rattle.serial_feed.specs.SerialRuns.{VisitsWhere}
