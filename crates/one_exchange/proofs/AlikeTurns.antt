-- Turns of a plant are turns of a plant that is alike, where their fixed parts agree.
use Rattle.std.proofs.Common.{◌≡◌, ℕ, Bool, true, false, List, [], ◌∷◌, ◌++◌, Option, Some, None}
use Rattle.std.proofs.Common.{sym, ap, subst, ◌∙◌}
use Rattle.std.specs.Prelude.{◌&&◌}
use Rattle.std.specs.List.{AllZip, slice_get}
use Rattle.plant_types.specs.declared.net.NetPlan.{NetPlan}
use Rattle.plant_types.specs.declared.plan.ControllerPlan.{ControllerPlan}
use Rattle.plant_types.specs.declared.plan.Plant.{Plant}
use Rattle.plant_types.specs.Plans.{IsPlant, net_of}
use Rattle.controller_core.specs.declared.entry.Entry.{Entry}
use Rattle.joint_history.specs.declared.joint.ControllerLog.{ControllerLog}
use Rattle.joint_history.specs.declared.joint.Joint.{Joint}
use Rattle.joint_history.specs.Nets.{noted_on}
use Rattle.joint_history.proofs.Collected.{CallLaws}
use Rattle.tied_lists.specs.Waits.{status_at}
use Rattle.one_run.specs.TurnLaws.{is_out_of_ring}
use Rattle.fed_turns.proofs.Agreements.{ended-same, off-same, started-same}
use Rattle.fed_turns.proofs.AgreedScans.{step-same}
use Rattle.fed_turns.proofs.AgreedTurns.{holds, visits}
use Rattle.word_exchange.specs.SerialRuns.{Turn}
use Rattle.word_exchange.specs.SerialRuns.{Step, Hold, Visit, Away}
use Rattle.word_exchange.specs.SerialRuns.{coming_back, holder_on, net_numbered, place_of_bridge}
use Rattle.word_exchange.specs.SerialRuns.{place_of_controller, place_of_host, visit_is_due, with_list}
use Rattle.word_exchange.specs.SerialRuns.{with_noted_on, ComesBackAt, EndHoldsAt, HostHoldsAt}
use Rattle.word_exchange.specs.SerialRuns.{MakesAwayTurn, MakesHold, MakesHoldOn, MakesHoldTurnAt}
use Rattle.word_exchange.specs.SerialRuns.{MakesStep, MakesTurn, MakesTurns, MakesVisit, StepsAt}
use Rattle.word_exchange.specs.SerialRuns.{VisitsIfDue, VisitsWhere}
use Rattle.one_run.proofs.Runs.{turns-grow}
use Rattle.one_exchange.proofs.Alike.{agree-set, agrees-front, at-q, fixed_in_p, in_q, fixed_in_q}
use Rattle.one_exchange.proofs.Alike.{q as alike_plant, same-place, Agrees, Alike}

module _ (p : Plant) (plans : List ControllerPlan) (scans : ℕ)
    (like : AllZip Alike p.controllers plans) where
  abbrev q : Plant
  q = alike_plant p plans scans like

  -- both fixed parts of each controller agree on its list
  abbrev AllAgree : Joint → Type 0
  AllAgree joint = Agrees p plans scans like joint

  -- a step
  step-alike : (at : ℕ) (old new : Joint) → AllAgree old → StepsAt p scans at old new
      → StepsAt q scans at old new
  step-alike at old new agrees s = record {
    plan = in_q p plans scans like at s.plan s.is.plan_is;
    log = s.log;
    is = at-q p plans scans like old at s.plan s.log s.is;
    made = s.made ∙ ap (λ (l : List Entry). with_list at s.log l old)
        (sym (step-same (fixed_in_p p plans scans like s.plan)
        (fixed_in_q p plans scans like at s.plan s.is.plan_is) s.log.entries
        (agrees at s.plan s.log s.is)));
  }

  -- ---- a hold

  -- of a controller
  hold-alike : (at : ℕ) (old new : Joint) → AllAgree new → MakesHoldTurnAt p scans at old new
      → MakesHoldTurnAt q scans at old new
  hold-alike at old new agrees h = record {
    plan = in_q p plans scans like at h.plan h.is.plan_is;
    log = h.log;
    is = at-q p plans scans like old at h.plan h.log h.is;
    entries = h.entries;
    ring = h.ring;
    end = h.end;
    turn = holds (fixed_in_p p plans scans like h.plan)
        (fixed_in_q p plans scans like at h.plan h.is.plan_is) (net_of p h.plan.node) h.plan.node
        true true h.log.entries h.entries (noted_on h.plan.network old) h.ring h.end
        (agree-set p plans scans like old new at h.plan h.log h.entries h.is
        (ap (λ (j : Joint). j.controllers) h.made) agrees) h.turn;
    made = h.made;
  }

  -- of a host
  host-alike : (at : ℕ) (old new : Joint) → HostHoldsAt p at old new → HostHoldsAt q at old new
  host-alike at old new h = record {
    plan = h.plan;
    log = h.log;
    is = record { plan_is = h.is.plan_is; log_is = h.is.log_is };
    entries = h.entries;
    ring = h.ring;
    left = h.left;
    turn = h.turn;
    made = h.made;
  }

  -- of an end of a bridge
  end-alike : (net : NetPlan) (side at : ℕ) (old new : Joint) → EndHoldsAt p net side at old new
      → EndHoldsAt q net side at old new
  end-alike net side at old new h = record {
    plan = h.plan;
    log = h.log;
    is = record { plan_is = h.is.plan_is; log_is = h.is.log_is };
    entries = h.entries;
    ring = h.ring;
    left = h.left;
    turn = h.turn;
    made = h.made;
  }

  -- of whoever has the token
  by-alike : (net : NetPlan) (c h b : Option ℕ) (old new : Joint) → AllAgree new
      → MakesHold p scans net c h b old new → MakesHold q scans net c h b old new
  by-alike net (Some at) h b old new agrees m = hold-alike at old new agrees m
  by-alike net None (Some at) b old new agrees m = host-alike at old new m
  by-alike net None None (Some at) old new agrees m =
      end-alike net (holder_on net old) at old new m
  by-alike net None None None old new agrees m = m

  -- on a network
  on-alike : (net : Option NetPlan) (old new : Joint) → AllAgree new
      → MakesHoldOn p scans net old new → MakesHoldOn q scans net old new
  on-alike None old new agrees m = m
  on-alike (Some net) old new agrees m =
      let holder = holder_on net old in
      subst (λ (c : Option ℕ). MakesHold q scans net c (place_of_host p holder)
      (place_of_bridge p holder) old new)
      (sym (same-place p plans scans like holder))
      (by-alike net (place_of_controller p holder) (place_of_host p holder)
      (place_of_bridge p holder) old new agrees m)

  -- ---- a visit

  -- which is due, or not
  where-alike : (b : Bool) (at : ℕ) (plan : ControllerPlan) (log : ControllerLog)
      (old new : Joint) (there : slice_get p.controllers at ≡ Some plan)
      → slice_get old.controllers at ≡ Some log → AllAgree new
      → VisitsWhere b p scans at plan log old new
      → VisitsWhere b q scans at (in_q p plans scans like at plan there) log old new
  where-alike true at plan log old new there is agrees v = record {
    entries = v.entries;
    ring = v.ring;
    visit = visits (fixed_in_p p plans scans like plan)
        (fixed_in_q p plans scans like at plan there) (net_of p plan.node) plan.node true
        log.entries v.entries (noted_on plan.network old) v.ring
        (agree-set p plans scans like old new at plan log v.entries
        (record { plan_is = there; log_is = is })
        (ap (λ (j : Joint). j.controllers) v.made) agrees) v.visit;
    made = v.made;
  }
  where-alike false at plan log old new there is agrees v = v

  -- it is due in both plants, or in neither
  visit-alike : (at : ℕ) (old new : Joint) → AllAgree old → AllAgree new
      → VisitsIfDue p scans at old new → VisitsIfDue q scans at old new
  visit-alike at old new before agrees v =
      let a = before at v.plan v.log v.is in
      let was = fixed_in_p p plans scans like v.plan in
      let now = fixed_in_q p plans scans like at v.plan v.is.plan_is in
      let ended = ended-same was now v.log.entries a in
      let off = off-same was now v.log.entries a in
      let started = started-same was now v.log.entries a in
      let past = noted_on v.plan.network old in
      let status = status_at (net_of p v.plan.node) past v.plan.node in
      let due : visit_is_due q scans (in_q p plans scans like at v.plan v.is.plan_is)
      v.log.entries past ≡ visit_is_due p scans v.plan v.log.entries past =
      λ i. is_out_of_ring (ended i && off i) status && started i in
      record {
        plan = in_q p plans scans like at v.plan v.is.plan_is;
        log = v.log;
        is = at-q p plans scans like old at v.plan v.log v.is;
        visits = subst (λ (b : Bool). VisitsWhere b q scans at
            (in_q p plans scans like at v.plan v.is.plan_is) v.log old new) (sym due)
            (where-alike (visit_is_due p scans v.plan v.log.entries past) at v.plan v.log old new
            v.is.plan_is v.is.log_is agrees v.visits);
      }

  -- ---- an away turn

  away-alike : (at : ℕ) (old new : Joint) → AllAgree old → ComesBackAt p scans at old new
      → ComesBackAt q scans at old new
  away-alike at old new agrees c =
      let past = noted_on c.plan.network old in
      let status = status_at (net_of p c.plan.node) past c.plan.node in
      record {
        plan = in_q p plans scans like at c.plan c.is.plan_is;
        log = c.log;
        is = at-q p plans scans like old at c.plan c.log c.is;
        made = c.made
            ∙ ap (λ (off : Bool). with_noted_on c.plan.network
            (past ++ coming_back status off c.plan.node) old)
            (sym (off-same (fixed_in_p p plans scans like c.plan)
            (fixed_in_q p plans scans like at c.plan c.is.plan_is) c.log.entries
            (agrees at c.plan c.log c.is)));
      }

  -- ---- a turn, by the place of its controller

  step-at-alike : (c : Option ℕ) (old new : Joint) → AllAgree old → MakesStep p scans c old new
      → MakesStep q scans c old new
  step-at-alike None old new agrees m = m
  step-at-alike (Some at) old new agrees m = step-alike at old new agrees m

  visit-at-alike : (c : Option ℕ) (old new : Joint) → AllAgree old → AllAgree new
      → MakesVisit p scans c old new → MakesVisit q scans c old new
  visit-at-alike None old new before agrees m = m
  visit-at-alike (Some at) old new before agrees m = visit-alike at old new before agrees m

  away-at-alike : (c : Option ℕ) (old new : Joint) → AllAgree old
      → MakesAwayTurn p scans c old new → MakesAwayTurn q scans c old new
  away-at-alike None old new agrees m = m
  away-at-alike (Some at) old new agrees m = away-alike at old new agrees m

  -- a turn
  turn-alike : (turn : Turn) (old new : Joint) → AllAgree old → AllAgree new
      → MakesTurn p scans turn old new → MakesTurn q scans turn old new
  turn-alike (Step n) old new before agrees m =
      subst (λ (c : Option ℕ). MakesStep q scans c old new) (sym (same-place p plans scans like n))
      (step-at-alike (place_of_controller p n) old new before m)
  turn-alike (Hold network) old new before agrees m =
      on-alike (net_numbered p network) old new agrees m
  turn-alike (Visit n) old new before agrees m =
      subst (λ (c : Option ℕ). MakesVisit q scans c old new)
      (sym (same-place p plans scans like n))
      (visit-at-alike (place_of_controller p n) old new before agrees m)
  turn-alike (Away n) old new before agrees m =
      subst (λ (c : Option ℕ). MakesAwayTurn q scans c old new)
      (sym (same-place p plans scans like n))
      (away-at-alike (place_of_controller p n) old new before m)

  -- ---- turns one after another

  pub turns-alike : IsPlant p → CallLaws → (turns : List Turn) (old new : Joint) → AllAgree old
      → AllAgree new → MakesTurns p scans turns old new → MakesTurns q scans turns old new
  turns-alike sound laws [] old new before agrees m = m
  turns-alike sound laws (turn ∷ turns) old new before agrees m =
      let next = agrees-front p plans scans like m.0 new
      (turns-grow p scans sound laws turns m.0 new m.2) agrees in (
        m.0,
        turn-alike turn old m.0 before next m.1,
        turns-alike sound laws turns m.0 new next agrees m.2,
      )
