use Rattle.scan_order.proofs.LastSteps.{ends-once}
use Rattle.scan_order.proofs.due.scans_end_once.Goals as goal

pub returns : goal.returns
returns c = ends-once
