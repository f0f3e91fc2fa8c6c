-- Words of grid_compile, for those that stand on this crate. All of it is this project's own.
pub use Rattle.grid_compile.specs.Layout.{grids_of}
