-- Lemmas of turn_laws, for those that stand on this crate.
pub use Rattle.turn_laws.proofs.Holders.{away-others, in-of, left-others, member-there}
pub use Rattle.turn_laws.proofs.Holders.{there-member}
pub use Rattle.turn_laws.proofs.Stands.{host-stands-of, stands-of}
pub use Rattle.turn_laws.proofs.Others.{others, scans, starts}
pub use Rattle.turn_laws.proofs.HostOthers.{host-others, host-starts}
pub use Rattle.turn_laws.proofs.Passes.{cancel, cons-head, cons-tail, each-join, ended-join}
pub use Rattle.turn_laws.proofs.Passes.{nil-cons}
pub use Rattle.turn_laws.proofs.Rests.{items-push}
pub use Rattle.turn_laws.proofs.Uncollected.{alone-collects, visit-status}
