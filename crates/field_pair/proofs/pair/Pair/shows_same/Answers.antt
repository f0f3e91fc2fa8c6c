use Rattle.std.proofs.Common.{length}
use Rattle.plant_types.specs.declared.reference.Ref.{Ref}
use Rattle.plant_types.specs.declared.reference.RefKind.TheVariants.{Coil}
use Rattle.field_machine.specs.Keys.{map_in}
use Rattle.field_pair.proofs.Panels.{values-differ, values-same}
use Rattle.field_pair.proofs.pair.Pair.shows_same.Goals as goal

abbrev no-reference : Ref
no-reference = record { kind = Coil; number = 0 }

pub returns-then-value_in : goal.returns-then-value_in
returns-then-value_in c =
    let pair = c.args.self.now in
    values-differ (map_in pair.old.fixed.plan (length pair.old.counters.items) c.args.old.now)
    (map_in pair.new.fixed.plan (length pair.new.counters.items) c.args.new.now)
    pair.panel.items c.as_slice-at-items.result.now c.loop-at.at-index no-reference
    c.as_slice-at-items.ensures.value c.loop-at-test.true _ c.value_in.result
    c.value_in-in-loop-at.result c.loop-at.invariant c.value_in.ensures
    c.value_in-in-loop-at.ensures c.if-value_in.true

pub loop-at-preserved : goal.loop-at-preserved
loop-at-preserved c =
    let pair = c.args.self.now in
    values-same (map_in pair.old.fixed.plan (length pair.old.counters.items) c.args.old.now)
    (map_in pair.new.fixed.plan (length pair.new.counters.items) c.args.new.now)
    pair.panel.items c.as_slice-at-items.result.now c.loop-at.at-index no-reference
    c.as_slice-at-items.ensures.value c.loop-at-test.true _ c.value_in.result
    c.value_in-in-loop-at.result c.loop-at.invariant c.value_in.ensures
    c.value_in-in-loop-at.ensures c.if-value_in.false
