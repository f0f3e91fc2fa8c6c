use Rattle.std.proofs.Common.{refl}
use Rattle.time_judge.proofs.First.{hosts-behind}
use Rattle.time_judge.proofs.judging.joint_standstill.Goals as goal

pub returns : goal.returns
returns c =
    let none = rw c.in_default.is at c.in_ok-at.ensures in
    hosts-behind _ _ _ _ _ _ c.hosts_standstill.result refl
    c.as_slice-controllers.ensures c.as_slice.ensures none c.hosts_standstill.ensures
