use Rattle.std.proofs.Common.{◌≡◌, ◌==◌, Bool, true, false, ◌&&◌, not, List, length, refl, sym, ap, ◌∙◌}
use Rattle.std.specs.List.{list_any}
use Rattle.plant_types.specs.declared.network.Segment.{Segment}
use Rattle.plant_types.specs.declared.plan.PowerRow.{PowerRow}
use Rattle.plant_types.specs.Standing.{cells_of_segments}
use Rattle.field_machine.specs.Alone.{calls}
use Rattle.field_machine.proofs.TestAlone.{test-alone}
use Rattle.field_machine.proofs.alone.is_alone.Goals as goal

both : (a b : Bool) → a ≡ true → b ≡ true → a && b ≡ true
both true true p q = refl
both true false p q = q
both false b p q = p

pub returns-then-is_empty-clause-alone : goal.returns-then-is_empty-clause-alone
returns-then-is_empty-clause-alone c is runs =
    let plan = c.args.plan.now in
    let none : (length plan.power == 0) ≡ true =
    sym (c.is_empty.ensures ∙ ap (λ (l : List PowerRow). length l == 0) c.as_slice.ensures)
    ∙ c.if-is_empty.true in
    let quiet : not (list_any calls (cells_of_segments plan.segments)) ≡ true =
    sym (ap not (c.segments_call.ensures
    ∙ ap (λ (l : List Segment). list_any calls (cells_of_segments l))
    c.as_slice-then-is_empty.ensures)) ∙ is in
    test-alone plan (both _ _ none quiet) runs
