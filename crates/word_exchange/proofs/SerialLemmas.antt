-- Lemmas about serial runs, for those that stand on a word exchange.
pub use Rattle.serial_feed.proofs.SerialLemmas.{found-at, found-place, from-places, map-there}
pub use Rattle.serial_feed.proofs.SerialLemmas.{zip-at, zip-at-first, zip-position, zip-same-map}
