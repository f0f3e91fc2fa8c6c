use Rattle.std.proofs.Common.{◌≡◌, take}
use Rattle.bridge_relay.specs.Legal.{IsBridgeHistory}
use Rattle.list_courses.proofs.following.follow_bridge_entries.Given as goal

abbrev pub invariant-loop-place : goal.invariant-loop-place
invariant-loop-place l =
    record {
      history : l.bridge.history ≡ take l.place l.entries;
      plan : l.bridge.plan ≡ l.initial.bridge.plan;
      legal : IsBridgeHistory l.initial.bridge.plan (take l.place l.entries);
    }
