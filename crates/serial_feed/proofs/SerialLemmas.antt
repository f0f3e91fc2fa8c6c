-- Lemmas about serial runs, for those that stand on a fed run.
pub use Rattle.serial_run.proofs.Grown.{further-adds, further-both, further-grew, Further}
pub use Rattle.serial_run.proofs.HeldTurns.{end-turn-ended, host-turn-ring, turn-known, turn-ring}
pub use Rattle.serial_run.proofs.HeldTurns.{visit-known, visit-ring, TurnEnded}
pub use Rattle.serial_run.proofs.Lists.{found-at, found-place, from-places, map-there, zip-at}
pub use Rattle.serial_run.proofs.Lists.{zip-at-first, zip-position, zip-same-map, zip-there}
pub use Rattle.serial_run.proofs.Repeats.{all-at}
pub use Rattle.serial_run.proofs.Rounds.{chain-more, ended-as}
