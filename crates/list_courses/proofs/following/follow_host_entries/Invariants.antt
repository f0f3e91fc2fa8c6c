use Rattle.std.proofs.Common.{◌≡◌, take}
use Rattle.host_port.specs.Legal.{IsHostHistory}
use Rattle.list_courses.proofs.following.follow_host_entries.Given as goal

abbrev pub invariant-loop-place : goal.invariant-loop-place
invariant-loop-place l =
    record {
      history : l.host.history ≡ take l.place l.entries;
      plan : l.host.plan ≡ l.initial.host.plan;
      legal : IsHostHistory l.initial.host.plan (take l.place l.entries);
    }
