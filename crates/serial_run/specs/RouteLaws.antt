-- Words of route_laws, for those that stand on this crate. All of it is this project's own.
pub use Rattle.route_laws.specs.Laws.{AllEffectsAreRight}
pub use Rattle.route_laws.specs.Effects.{EffectsAreRight}
