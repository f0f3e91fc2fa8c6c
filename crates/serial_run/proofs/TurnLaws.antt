-- Lemmas of turn_laws, for those that stand on this crate.
pub use Rattle.bridge_station.proofs.TurnLaws.{cancel, cons-head, cons-tail, each-join, ended-join}
pub use Rattle.bridge_station.proofs.TurnLaws.{nil-cons}
pub use Rattle.bridge_station.proofs.TurnLaws.{items-push}
