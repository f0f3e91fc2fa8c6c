use Rattle.ring_core.proofs.Holders.{holder-is-member}
use Rattle.ring_core.proofs.laws.holder_is_member.Goals as goal

pub returns : goal.returns
returns c = holder-is-member
