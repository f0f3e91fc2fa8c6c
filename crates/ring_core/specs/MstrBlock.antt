-- Words of mstr_block, for those that stand on this crate. All of it is this project's own.
pub use Rattle.mstr_block.specs.declared.call.MstrResult.TheVariants.{Bad, Good}
pub use Rattle.mstr_block.specs.declared.call.MstrResult.{MstrResult}
pub use Rattle.mstr_block.specs.Call.{is_same_call, words_told}
pub use Rattle.mstr_block.specs.declared.call.CallId.{CallId}
pub use Rattle.mstr_block.specs.Table.{last_call_number, network_paths}
