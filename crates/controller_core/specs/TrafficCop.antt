-- Words of traffic_cop, for those that stand on this crate. All of it is this project's own.
pub use Rattle.traffic_cop.specs.Rows.{IsRunnablePlan}
