use Rattle.std.proofs.Common.{List, map, subst, arith}
use Rattle.host_port.specs.declared.entry.HostEntry.{HostEntry}
use Rattle.entry_causes.specs.Causes.{ByHost}
use Rattle.entry_causes.specs.Joint.{host_log}
use Rattle.time_judge.specs.Judging.{StandsStill}
use Rattle.time_judge.proofs.First.{first-here}
use Rattle.time_judge.proofs.judging.hosts_standstill.Goals as goal

pub returns-in-Some : goal.returns-in-Some
returns-in-Some c =
    let here = rw c.in-Some.is at c.in_ok-at.ensures in
    first-here host_log c.args.ring.now c.args.logs.now c.loop-host.host-index c.host-item.result
    c.in-Some.at (omega arith) c.host-item.is c.loop-host.invariant
    (subst (λ (l : List HostEntry). StandsStill c.args.ring.now
    (record { node = c.host-item.result.node; entries = map ByHost l }) c.in-Some.at)
    c.as_slice-entries.ensures here)
