use Rattle.scan_order.proofs.Following.{following-gives}
use Rattle.scan_order.proofs.due.following_gives_due.Goals as goal

pub returns : goal.returns
returns c = following-gives
