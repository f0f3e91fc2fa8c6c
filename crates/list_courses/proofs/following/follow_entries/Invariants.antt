use Rattle.std.proofs.Common.{◌≡◌, take}
use Rattle.controller_core.specs.Controller.{IsLegal}
use Rattle.list_courses.proofs.following.follow_entries.Given as goal

abbrev pub invariant-loop-place : goal.invariant-loop-place
invariant-loop-place l =
    record {
      history : l.controller.history ≡ take l.place l.entries;
      fixed : l.controller.fixed ≡ l.initial.controller.fixed;
      legal : IsLegal l.initial.controller.fixed (take l.place l.entries);
    }
