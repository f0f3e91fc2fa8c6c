use Rattle.std.proofs.Common.{◌≡◌, drop, length}
use Rattle.std.specs.Prelude.{nat_eq}
use Rattle.std.specs.Cmp.Lexicographic.{pointwise}
use Rattle.controller_core.specs.Notes.{values_of}
use Rattle.field_machine.specs.Keys.{map_in}
use Rattle.field_pair.proofs.pair.Pair.shows_same.Given as goal

abbrev pub invariant-loop-at : goal.invariant-loop-at
invariant-loop-at l =
    let one = map_in l.self.old.fixed.plan (length l.self.old.counters.items) l.old in
    let other = map_in l.self.new.fixed.plan (length l.self.new.counters.items) l.new in
    let panel = l.self.panel.items in
    pointwise nat_eq (values_of one panel) (values_of other panel)
    ≡ pointwise nat_eq (values_of one (drop l.at-index panel)) (values_of other (drop l.at-index
    panel))
