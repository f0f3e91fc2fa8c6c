use Rattle.std.proofs.Common.{◌+◌, ◌<◌, List, length, take, drop, refl, sym, ap, subst, ◌∙◌}
use Rattle.std.proofs.Common.{arith}
use Rattle.std.proofs.lemmas.List.{take_all}
use Rattle.list_courses.specs.Completing.{EachAllows}
use Rattle.list_courses.specs.Leaving.{LeaveAllows, MayFollow, row_next, done_row}
use Rattle.station_laws.specs.Picked.{picked}
use Rattle.list_courses.specs.declared.leaving.Row.{Row}
use Rattle.list_courses.proofs.Fitting.{each-none, each-push}
use Rattle.list_courses.proofs.Rows.{by-quietly, quietly-by, row-push}
use Rattle.station_laws.proofs.Lists.{not-true, picked-around, picked-push}
use Rattle.list_courses.proofs.leaving.leaves_quietly.Goals as goal

pub loop-place-init : goal.loop-place-init
loop-place-init c = record { row_is = refl; each = each-none LeaveAllows }

pub returns-then-not-may_follow : goal.returns-then-not-may_follow
returns-then-not-may_follow c =
    let low : c.loop-place.place-index < length c.args.places.now = omega arith in
    let e = c.index-ring-place.result in
    let front = picked c.args.ring.now (take c.loop-place.place-index c.args.places.now) in
    let rest = picked c.args.ring.now (drop (c.loop-place.place-index + 1) c.args.places.now) in
    let around = picked-around c.args.ring.now c.args.places.now c.loop-place.place-index e
    c.requires low c.index-ring-place.is in (
      λ no'. not-true no',
      λ quietly. c.if-not-may_follow.ensures.1
          (subst (λ (row : Row). MayFollow row e) (sym c.loop-place.invariant.row_is)
          (by-quietly (picked c.args.ring.now c.args.places.now) quietly front rest e around)),
    )

pub loop-place-preserved : goal.loop-place-preserved
loop-place-preserved c =
    let low : c.loop-place.place-index < length c.args.places.now = omega arith in
    let e = c.index-ring-place.result in
    let front = picked c.args.ring.now (take c.loop-place.place-index c.args.places.now) in
    let push = picked-push c.args.ring.now c.args.places.now c.loop-place.place-index e c.requires
    low c.index-ring-place.is in
    let here = subst (λ (row : Row). MayFollow row e) c.loop-place.invariant.row_is
    (c.if-not-may_follow.ensures.0 refl) in
    record {
      row_is = c.row_next-row.ensures
          ∙ (ap (λ (row : Row). row_next row e) c.loop-place.invariant.row_is
          ∙ (sym (row-push front e) ∙ ap done_row (sym push)));
      each =
          subst (EachAllows LeaveAllows) (sym push)
          (each-push LeaveAllows front e c.loop-place.invariant.each here);
    }

pub returns : goal.returns
returns c =
    let all = take_all c.loop-place.place-index c.args.places.now (omega arith) in (
      λ _. quietly-by (picked c.args.ring.now c.args.places.now)
          (subst (λ (places : List _). EachAllows LeaveAllows (picked c.args.ring.now places)) all
          c.loop-place.invariant.each),
      λ _. refl,
    )
