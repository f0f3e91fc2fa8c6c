use Rattle.std.proofs.Common.{◌-◌, ◌≤◌, length, arith}
use Rattle.time_judge.proofs.Steps.{reaches-first, reaches-noted, reaches-done, due-within}
use Rattle.time_judge.proofs.Steps.{left-within, still}
use Rattle.time_judge.proofs.Walking.{whole-as}
use Rattle.time_judge.specs.Reaching.{MayPost}
use Rattle.time_judge.proofs.reaching.how_far.Goals as goal

pub walk-init : goal.walk-init
walk-init g c =
    reaches-first _ _ _ _ _ _ _ _ _ c.requires c.none-noted.ensures c.none-done.ensures
    c.new-answers.ensures.items c.new-requests.ensures.items c.none-walk.ensures

pub walk-preserved-in-Some : goal.walk-preserved-in-Some
walk-preserved-in-Some g c =
    let whole = whole-as c.walk_on-walk.result _ c.walk.requests.items _ c.walk.answers.items
    c.walk.done.answered_port c.deref.ensures.value c.deref-in-walk.ensures.value
    c.walk_on-walk.ensures in
    let may : MayPost c.walk.noted c.walk.done c.walk.answers.items c.walk.requests.items
    c.walk_on-walk.result.ready
    = record { caused = c.walk.invariant.caused; may_is = whole.all_ready } in
    let e = (rw c.in-Some.is at c.in_ok-next.ensures) c.walk.answers.items c.walk.requests.items
    may in
    reaches-noted g.E.StationItem.entry _ _ _ c.walk.left.now _ _ _ _ _ _ _ _ _ _ e.0
    c.in_ok-answers_on.ensures c.rest_of-left.ensures e.1 whole.walk
    c.walk.invariant

pub done_next-requires : goal.done_next-requires
done_next-requires g c = due-within _ _ _ _ _ _ _ c.walk.invariant.stands

pub requests_on-requires : goal.requests_on-requires
requests_on-requires g c = due-within _ _ _ _ _ _ _ c.walk.invariant.stands

pub walk-preserved : goal.walk-preserved
walk-preserved g c =
    let whole = whole-as c.walk_on-walk.result _ c.walk.requests.items _ c.walk.answers.items
    c.walk.done.answered_port c.deref.ensures.value c.deref-in-walk.ensures.value
    c.walk_on-walk.ensures in
    let may : MayPost c.walk.noted c.walk.done c.walk.answers.items c.walk.requests.items
    c.walk_on-walk.result.ready
    = record { caused = c.walk.invariant.caused; may_is = whole.all_ready } in
    let e = (rw c.in-Some-2.is at c.in_ok-next-2.ensures) c.walk.answers.items
    c.walk.requests.items may in
    reaches-done _ _ _ _ c.walk.due.now _ _ _ _ _ _ _ _ _ e.0 c.in_ok-requests_on.ensures
    c.rest_of-due.ensures e.1 whole.walk c.walk.invariant

pub overflow_sub-result : goal.overflow_sub-result
overflow_sub-result g c =
    left-within g.E.StationItem.entry _ c.args.entries.now c.walk.left.now _ _ _ _
    c.walk.invariant.stands

pub returns-in_default-2 : goal.returns-in_default-2
returns-in_default-2 g c =
    let within : length c.walk.left.now ≤ length c.args.entries.now = left-within
    g.E.StationItem.entry _ c.args.entries.now c.walk.left.now _ _ _ _ c.walk.invariant.stands in
    let whole = whole-as c.walk_on-walk.result _ c.walk.requests.items _ c.walk.answers.items
    c.walk.done.answered_port c.deref.ensures.value c.deref-in-walk.ensures.value
    c.walk_on-walk.ensures in
    let may : MayPost c.walk.noted c.walk.done c.walk.answers.items c.walk.requests.items
    c.walk_on-walk.result.ready
    = record { caused = c.walk.invariant.caused; may_is = whole.all_ready } in
    let no_note = (rw c.in_default.is at c.in_ok-next.ensures) c.walk.answers.items
    c.walk.requests.items may in
    let no_deed = (rw c.in_default-2.is at c.in_ok-next-2.ensures) c.walk.answers.items
    c.walk.requests.items may in
    still g.E.StationItem.entry c.args.node c.args.entries.now c.walk.left.now c.args.ring.now
    c.walk.due.now _ _ (length c.args.entries.now - length c.walk.left.now) c.next_place.result
    (omega arith) c.next_place.ensures no_note no_deed c.walk.invariant.stands
