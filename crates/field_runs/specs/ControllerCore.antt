-- Words of controller_core, for those that stand on this crate. All of it is this project's own.
pub use Rattle.controller_core.specs.declared.fixed.Fixed.{Fixed}
pub use Rattle.controller_core.specs.Controller.{fixed_with}
pub use Rattle.controller_core.specs.Replay.{start, ControllerState}
