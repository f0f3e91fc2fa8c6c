-- Words of field_search, for those that stand on this crate. All of it is this project's own.
pub use Rattle.field_search.specs.Covered.{IsAlone}
