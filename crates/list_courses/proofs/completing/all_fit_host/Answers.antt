use Rattle.std.proofs.Common.{List, [], ◌+◌, ◌<◌, length, take, drop, refl, sym, ap, subst, ◌∙◌}
use Rattle.std.proofs.Common.{arith}
use Rattle.list_courses.specs.Completing.{EachAllows, HostAllows, HostFits, progress_next}
use Rattle.list_courses.specs.Completing.{left_given}
use Rattle.list_courses.specs.Completing.{progress_of}
use Rattle.list_courses.specs.declared.completing.Progress.{Progress}
use Rattle.station_laws.specs.Picked.{picked}
use Rattle.tied_lists.specs.Items.{taken_by, taken_of}
use Rattle.std.specs.List.{cons_option}
use Rattle.ring_core.specs.declared.entry.RingEntry.{RingEntry}
use Rattle.list_courses.proofs.Fitting.{each-none, each-push}
use Rattle.station_laws.proofs.Lists.{not-true, picked-around, picked-push}
use Rattle.list_courses.proofs.Progress.{left-push, progress-push, progress-short}
use Rattle.list_courses.proofs.completing.all_fit_host.Goals as goal

pub loop-place-init : goal.loop-place-init
loop-place-init c =
    record {
      progress_is = c.no_progress-progress.ensures [];
      left_is = c.new-given.ensures.items;
      each = each-none (HostAllows c.args.plan.now);
    }

pub host_fits-requires : goal.host_fits-requires
host_fits-requires c =
    let low : c.loop-place.place-index < length c.args.places.now = omega arith in
    progress-short [] c.args.ring.now c.args.places.now c.loop-place.place-index
    c.loop-place.progress c.loop-place.invariant.progress_is (omega arith)

pub returns-then-not-host_fits : goal.returns-then-not-host_fits
returns-then-not-host_fits c =
    let low : c.loop-place.place-index < length c.args.places.now = omega arith in
    let front = picked c.args.ring.now (take c.loop-place.place-index c.args.places.now) in
    let rest = picked c.args.ring.now (drop (c.loop-place.place-index + 1) c.args.places.now) in
    let around = picked-around c.args.ring.now c.args.places.now c.loop-place.place-index
    c.index-ring-place.result c.requires low c.index-ring-place.is in (
      λ no'. not-true no',
      λ each. c.if-not-host_fits.ensures.1
          (subst (λ (p : Progress). HostFits c.args.plan.now p c.index-ring-place.result)
          (sym c.loop-place.invariant.progress_is)
          (each front rest c.index-ring-place.result around)),
    )

pub next-progress-requires : goal.next-progress-requires
next-progress-requires c =
    let low : c.loop-place.place-index < length c.args.places.now = omega arith in
    progress-short [] c.args.ring.now c.args.places.now c.loop-place.place-index
    c.loop-place.progress c.loop-place.invariant.progress_is (omega arith)

pub loop-place-preserved : goal.loop-place-preserved
loop-place-preserved c =
    let low : c.loop-place.place-index < length c.args.places.now = omega arith in
    let e = c.index-ring-place.result in
    let front = picked c.args.ring.now (take c.loop-place.place-index c.args.places.now) in
    let push = picked-push c.args.ring.now c.args.places.now c.loop-place.place-index e c.requires
    low c.index-ring-place.is in
    let here = subst (λ (p : Progress). HostFits c.args.plan.now p c.index-ring-place.result)
    c.loop-place.invariant.progress_is (c.if-not-host_fits.ensures.0 refl) in
    record {
      progress_is = c.next-progress.ensures.next
          ∙ ((λ i. progress_next (c.loop-place.invariant.left_is i)
          (c.loop-place.invariant.progress_is i) e)
          ∙ (sym (progress-push [] front e) ∙ ap (progress_of []) (sym push)));
      left_is = c.next-progress.ensures.left
          ∙ (ap (left_given (cons_option (taken_of e) [])) c.loop-place.invariant.left_is
          ∙ (sym (left-push [] front e)
          ∙ ap (λ (b : List RingEntry). left_given (taken_by b) []) (sym push)));
      each =
          subst (EachAllows (HostAllows c.args.plan.now)) (sym push)
          (each-push (HostAllows c.args.plan.now) front e c.loop-place.invariant.each here);
    }
