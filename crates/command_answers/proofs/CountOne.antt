-- The number of states to which runs of a field come is one.
use Rattle.std.proofs.Common.{◌≡◌, ◌∙◌, ℕ, ◌-◌, ◌≤◌, true, List, Option, Some, None, sym, arith}
use Rattle.std.specs.Prelude.{slice_get}
use Rattle.plant_types.specs.declared.network.Network.{Network}
use Rattle.plant_types.specs.declared.network.Segment.{Segment}
use Rattle.plant_types.specs.declared.plan.ControllerPlan.{ControllerPlan}
use Rattle.plant_types.specs.Discretes.{Refs}
use Rattle.ladder_solver.specs.declared.places.BlockPlace.{BlockPlace}
use Rattle.ladder_solver.specs.Numbers.{networks_of}
use Rattle.controller_core.specs.declared.fixed.Fixed.{Fixed}
use Rattle.controller_core.specs.Replay.{ControllerState}
use Rattle.cone_of.specs.Cone.{HasAllOf}
use Rattle.cone_of.proofs.Forced.{network-more}
use Rattle.cone_laws.specs.Agree.{found_matters, place_matters}
use Rattle.cone_runs.specs.AlikeIn.{IsAlikeIn}
use Rattle.field_machine.specs.declared.asked.Asked.{Asked}
use Rattle.field_machine.specs.Never.{IsNeverSo, state_of_run}
use Rattle.field_pair.proofs.AsMany.{Each, no-longer}

found-more : (set other : Refs) (found : Option Network) → HasAllOf other set
    → found_matters set found ≡ true → found_matters other found ≡ true
found-more set other None all is = is
found-more set other (Some network) all is = network-more set other network all is

place-more : (set other : Refs) (segments : List Segment) (place : BlockPlace) → HasAllOf other set
    → place_matters set segments place ≡ true → place_matters other segments place ≡ true
place-more set other segments place all is =
    found-more set other (slice_get (networks_of segments place.segment) (place.network - 1)) all is

-- states that are alike on a set are alike on each that it has all of
narrower : (plan : ControllerPlan) (set other : Refs) (s t : ControllerState) → HasAllOf other set
    → IsAlikeIn plan other s t → IsAlikeIn plan set s t
narrower plan set other s t all a = record {
  references = λ at has. a.references at (all at has);
  edges = λ place matters. a.edges place (place-more set other plan.segments place all matters);
  stop = a.stop;
  clock = a.clock;
}

module _ (plan : ControllerPlan) (set : Refs) where
  alike-back : (s t : ControllerState) → IsAlikeIn plan set s t → IsAlikeIn plan set t s
  alike-back s t a = record {
    references = λ at has. sym (a.references at has);
    edges = λ place matters. sym (a.edges place matters);
    stop = sym a.stop;
    clock = sym a.clock;
  }

  alike-on : (s t u : ControllerState) → IsAlikeIn plan set s t → IsAlikeIn plan set t u
      → IsAlikeIn plan set s u
  alike-on s t u a b = record {
    references = λ at has. a.references at has ∙ b.references at has;
    edges = λ place matters. a.edges place matters ∙ b.edges place matters;
    stop = a.stop ∙ b.stop;
    clock = a.clock ∙ b.clock;
  }

module _ (fixed : Fixed) (asked : Asked) (limit : Option ℕ) where
  -- each state of one list is alike one of the other
  each-of : (k n : ℕ) (one : IsNeverSo fixed asked limit k) (other : IsNeverSo fixed asked limit n)
      → Each (IsAlikeIn fixed.plan one.cone) (alike-back fixed.plan one.cone)
      (alike-on fixed.plan one.cone) one.states other.states
  each-of k n one other i s is =
      let run = one.reached i s is in
      let there = other.all run.played run.scans run.plays run.within in
      let state = state_of_run fixed run.played run.scans in
      let all = one.is_cone.least other.cone other.is_cone.closed other.is_cone.holds in
      record {
        place = there.place;
        one = there.one;
        is_there = there.is_there;
        like = alike-on fixed.plan one.cone s state there.one
            (alike-back fixed.plan one.cone state s run.alike)
            (narrower fixed.plan one.cone other.cone state there.one all there.alike);
      }

  no-more : (k n : ℕ) → IsNeverSo fixed asked limit k → IsNeverSo fixed asked limit n → k ≤ n
  no-more k n one other =
      let few = no-longer (IsAlikeIn fixed.plan one.cone) (alike-back fixed.plan one.cone)
      (alike-on fixed.plan one.cone) one.states other.states one.apart (each-of k n one other) in
      omega (arith, few, one.as_many, other.as_many)

  pub count-one : (k n : ℕ) → IsNeverSo fixed asked limit k → IsNeverSo fixed asked limit n
      → k ≡ n
  count-one k n one other =
      let up = no-more k n one other in
      let down = no-more n k other one in
      omega (arith, up, down)
