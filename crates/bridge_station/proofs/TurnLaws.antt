-- Lemmas of turn_laws, for those that stand on this crate.
pub use Rattle.end_laws.proofs.TurnLaws.{alone-collects, away-others, cancel, cons-head, cons-tail}
pub use Rattle.end_laws.proofs.TurnLaws.{each-join, ended-join, host-others, host-stands-of}
pub use Rattle.end_laws.proofs.TurnLaws.{host-starts, in-of, items-push, left-others, member-there}
pub use Rattle.end_laws.proofs.TurnLaws.{nil-cons, others, scans, stands-of, starts}
pub use Rattle.end_laws.proofs.TurnLaws.{there-member, visit-status}
