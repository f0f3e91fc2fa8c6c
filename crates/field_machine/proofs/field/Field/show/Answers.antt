use Rattle.std.proofs.Common.{◌≡◌, List, ℕ, ap, ◌∙◌, arith, length}
use Rattle.std.specs.Prelude.{slice_index}
use Rattle.field_machine.proofs.Showing.{all-shown, more-shown, none-shown}
use Rattle.field_machine.proofs.field.Field.show.Goals as goal

pub loop-way-init : goal.loop-way-init
loop-way-init c =
    record {
      work = c.in_ok-start.ensures.fits.work_is;
      shown = none-shown c.scans_settle.ensures c.args.self.now.fixed
          c.args.self.now.counters.items c.args.ways.now c.start.new.key.items
          c.new-values.result.items c.in_ok-start.ensures.key c.new-values.ensures.items;
    }

pub loop-way-preserved : goal.loop-way-preserved
loop-way-preserved c =
    record {
      work = c.in_ok-show_scan.ensures.work;
      shown = more-shown c.alike_states_stay.ensures c.scans_settle.ensures
          c.scans_are_field_runs.ensures c.args.self.now.fixed c.requires.field.alone
          c.args.self.now.counters.items c.args.ways.now c.loop-way.way-index
          c.loop-way.key.items c.show_scan.new.key.items c.loop-way.values.items
          c.show_scan.new.values.items c.loop-way-test.true c.loop-way.invariant.shown
          c.in_ok-show_scan.ensures.shows;
    }

pub returns : goal.returns
returns c =
    let over = c.loop-way-test.false in
    let all : c.loop-way.way-index ≡ length c.args.ways.now = omega (arith, over) in
    all-shown c.scans_are_field_runs.ensures c.args.self.now.fixed c.requires.field.alone
    c.args.self.now.counters.items c.args.ways.now c.loop-way.way-index c.loop-way.key.items
    _ all c.loop-way.invariant.shown
    (c.word_at-stop.ensures ∙ ap (λ (key : List ℕ). slice_index key 1) c.as_slice.ensures.value)
