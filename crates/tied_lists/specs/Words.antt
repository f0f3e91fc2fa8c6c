-- The words of the ring, as this crate uses them.
pub use Rattle.ring_core.specs.MstrBlock.{CallId}
pub use Rattle.ring_core.specs.MstrBlock.{MstrResult}
pub use Rattle.ring_core.specs.MstrBlock.{Good, Bad}
pub use Rattle.plant_types.specs.declared.net.NetPlan.{NetPlan}
pub use Rattle.ring_core.specs.declared.frame.FrameKind.{FrameKind}
pub use Rattle.ring_core.specs.declared.frame.FrameKind.TheVariants.{Request, Reply}
pub use Rattle.ring_core.specs.declared.frame.Frame.{Frame}
pub use Rattle.ring_core.specs.declared.entry.LocalOp.{LocalOp}
pub use Rattle.ring_core.specs.declared.entry.LocalOp.TheVariants.{GetStats, ClearStats, PutGlobal}
pub use Rattle.ring_core.specs.declared.entry.LocalOp.TheVariants.{GetGlobal, RemoteGet}
pub use Rattle.ring_core.specs.declared.entry.LocalOp.TheVariants.{RemoteClear}
pub use Rattle.ring_core.specs.declared.entry.Heard.{Heard}
pub use Rattle.ring_core.specs.declared.entry.Heard.TheVariants.{Acked, Silent, Busy}
pub use Rattle.ring_core.specs.declared.entry.LeaveCause.{LeaveCause}
pub use Rattle.ring_core.specs.declared.entry.LeaveCause.TheVariants.{Ended, Spent, Down}
pub use Rattle.ring_core.specs.declared.entry.RingEntry.{RingEntry}
pub use Rattle.ring_core.specs.declared.entry.RingEntry.TheVariants.{Post, Send, Take, Local}
pub use Rattle.ring_core.specs.declared.entry.RingEntry.TheVariants.{GiveUp, Pass, Leave, Join}
pub use Rattle.ring_core.specs.declared.status.NodeStatus.{NodeStatus}
pub use Rattle.ring_core.specs.declared.status.NodeStatus.TheVariants.{In, Away, Asking, Gone}
