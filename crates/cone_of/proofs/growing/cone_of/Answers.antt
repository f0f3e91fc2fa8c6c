use Rattle.std.proofs.Common.{◌≡◌, Bool, true, false, List, sym, ap, subst, ◌∙◌}
use Rattle.std.specs.List.{list_all}
use Rattle.std.specs.FinSet.{contains, contains-empty}
use Rattle.plant_types.specs.declared.network.Segment.{Segment}
use Rattle.plant_types.specs.declared.plan.OrderRow.{OrderRow}
use Rattle.plant_types.specs.declared.reference.Ref.{Ref}
use Rattle.plant_types.specs.Discretes.{Refs}
use Rattle.plant_types.specs.Reference.{ref_cmp}
use Rattle.cone_of.specs.Cone.{HasSegments}
use Rattle.cone_of.specs.Growing.{forced_by}
use Rattle.cone_of.proofs.Forced.{all-more, forced-all, forced-had}
use Rattle.cone_of.proofs.growing.cone_of.Goals as goal

pub loop-init : goal.loop-init
loop-init c =
    let plan = c.args.plan.now in
    let of = c.args.of in
    let adds = c.in_ok-add_all.ensures in
    let refs : c.as_slice-2.result.now ≡ forced_by of plan.orders =
    c.as_slice-2.ensures.value ∙ (c.in_ok-put_forced.ensures
    ∙ ap (λ (orders : List OrderRow). forced_by of orders) c.as_slice.ensures) in
    record {
      forced = ap (list_all (contains c.add_all.new.self)) (sym refs) ∙ adds.has;
      least = λ set closed has. adds.least set
          (λ at is. let no' : false ≡ true =
          sym (contains-empty ref_cmp at)
          ∙ (ap (λ (s : Refs). contains s at) (sym c.new-cone.ensures) ∙ is) in absurd (cc))
          (ap (list_all (contains set)) refs
          ∙ forced-all set of plan.orders has closed.controls);
    }

pub returns-then-not-grew : goal.returns-then-not-grew
returns-then-not-grew c =
    let plan = c.args.plan.now in
    let new = c.grow_segments.new.self in
    let grows = c.in_ok-grew.ensures in
    let segments = c.as_slice-in-loop.ensures in
    let forced = forced-had new c.args.of plan.orders
    (all-more c.loop.cone new (forced_by c.args.of plan.orders) grows.keeps
    c.loop.invariant.forced) in
    record {
      closed = record {
        networks = subst (λ (l : List Segment). HasSegments new l) segments
            (grows.such c.if-not-grew.true);
        controls = forced.1;
      };
      holds = forced.0;
      least = λ set closed has. grows.least set (c.loop.invariant.least set closed has)
          (subst (λ (l : List Segment). HasSegments set l) (sym segments) closed.networks);
    }

pub loop-preserved : goal.loop-preserved
loop-preserved c =
    let plan = c.args.plan.now in
    let new = c.grow_segments.new.self in
    let grows = c.in_ok-grew.ensures in
    let segments = c.as_slice-in-loop.ensures in
    record {
      forced = all-more c.loop.cone new (forced_by c.args.of plan.orders) grows.keeps
          c.loop.invariant.forced;
      least = λ set closed has. grows.least set (c.loop.invariant.least set closed has)
          (subst (λ (l : List Segment). HasSegments set l) (sym segments) closed.networks);
    }
