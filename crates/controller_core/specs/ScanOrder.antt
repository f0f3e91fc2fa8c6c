-- Words of scan_order, for those that stand on this crate. All of it is this project's own.
pub use Rattle.scan_order.specs.Due.{row_of}
