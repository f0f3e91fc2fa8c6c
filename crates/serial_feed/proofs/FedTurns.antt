-- Turns of a plant are turns of the plant with a row more, where all lists agree.
use Rattle.std.proofs.Common.{◌≡◌, ℕ, Bool, true, false, List, [], ◌∷◌, ◌++◌, Option, Some, None}
use Rattle.std.proofs.Common.{refl, sym, ap, subst, ◌∙◌}
use Rattle.std.specs.Prelude.{◌&&◌}
use Rattle.std.specs.List.{slice_get}
use Rattle.plant_types.specs.declared.drops.ScriptRow.{ScriptRow}
use Rattle.plant_types.specs.declared.net.NetPlan.{NetPlan}
use Rattle.plant_types.specs.declared.plan.ControllerPlan.{ControllerPlan}
use Rattle.plant_types.specs.declared.plan.Plant.{Plant}
use Rattle.plant_types.specs.Plans.{net_of}
use Rattle.scan_order.specs.declared.due.ScanStep.{ScanStep}
use Rattle.controller_core.specs.declared.entry.Entry.{Entry}
use Rattle.controller_core.specs.declared.fixed.Fixed.{Fixed}
use Rattle.controller_core.specs.Controller.{due_step, made}
use Rattle.controller_core.specs.Event.{entry_of}
use Rattle.controller_core.specs.Replay.{replay}
use Rattle.joint_history.specs.declared.joint.ControllerLog.{ControllerLog}
use Rattle.joint_history.specs.declared.joint.Joint.{Joint}
use Rattle.joint_history.specs.Nets.{noted_on}
use Rattle.joint_history.specs.Reading.{controller_at}
use Rattle.tied_lists.specs.Waits.{status_at}
use Rattle.serial_run.specs.TurnLaws.{is_out_of_ring}
use Rattle.fed_turns.specs.Agreeing.{IsFront}
use Rattle.fed_turns.proofs.Agreements.{ended-same, front-all, off-same, started-same}
use Rattle.fed_turns.proofs.AgreedScans.{step-same}
use Rattle.fed_turns.proofs.AgreedTurns.{hold-front, holds, visit-front, visits}
use Rattle.serial_run.specs.declared.order.Turn.{Turn}
use Rattle.serial_run.specs.declared.order.Turn.TheVariants.{Step, Hold, Visit, Away}
use Rattle.serial_run.specs.Turns.{coming_back, net_numbered, place_of_bridge, place_of_controller}
use Rattle.serial_run.specs.Turns.{holder_on, place_of_host, stepped_list, visit_is_due, with_list}
use Rattle.serial_run.specs.Turns.{with_noted_on, ComesBackAt, EndHoldsAt, HostHoldsAt}
use Rattle.serial_run.specs.Turns.{MakesAwayTurn}
use Rattle.serial_run.specs.Turns.{MakesHold, MakesHoldOn, MakesHoldTurnAt, MakesStep, MakesTurn}
use Rattle.serial_run.specs.Turns.{MakesTurns, MakesVisit, StepsAt, VisitsIfDue, VisitsWhere}
use Rattle.serial_feed.proofs.GoingOn.{agree-set, agrees-front, at-fed, fed, fixed_as, fixed_fed_as}
use Rattle.serial_feed.proofs.GoingOn.{goes-rings, goes-same, goes-set, goes-then, same-place}
use Rattle.serial_feed.proofs.GoingOn.{with_row, Agrees, GoesOn}

made-front : (fixed : Fixed) (h : List Entry) (o : Option ScanStep)
    → IsFront h (made (controller_at fixed h) o).history
made-front fixed h None = front-all h
made-front fixed h (Some step) = (entry_of fixed (replay fixed h) step ∷ [], refl)

module _ (plant : Plant) (scans node drop : ℕ) (row : ScriptRow) where
  abbrev Goes : Joint → Joint → Type 0
  Goes old new = GoesOn plant scans node drop row old new

  abbrev AllAgree : Joint → Type 0
  AllAgree joint = Agrees plant scans node drop row joint

  abbrev p : Plant
  p = fed plant scans node drop row

  abbrev as_fed : ControllerPlan → ControllerPlan
  as_fed plan = with_row plant scans node drop row plan

  abbrev old_fixed : ControllerPlan → Fixed
  old_fixed plan = fixed_as plant scans node drop row plan

  abbrev new_fixed : ControllerPlan → Fixed
  new_fixed plan = fixed_fed_as plant scans node drop row plan

  before : (old new : Joint) → Goes old new → AllAgree new → AllAgree old
  before old new goes agrees = agrees-front plant scans node drop row old new goes agrees

  -- ---- a step

  step-goes : (at : ℕ) (old new : Joint) → StepsAt plant scans at old new → Goes old new
  step-goes at old new s =
      let fixed = old_fixed s.plan in
      goes-set plant scans node drop row old new at s.log (stepped_list fixed s.log.entries)
      s.is.log_is
      (made-front fixed s.log.entries (due_step (controller_at fixed s.log.entries)))
      (ap (λ (j : Joint). j.controllers) s.made)

  step-fed : (at : ℕ) (old new : Joint) → AllAgree new → StepsAt plant scans at old new
      → StepsAt p scans at old new
  step-fed at old new agrees s = record {
    plan = as_fed s.plan;
    log = s.log;
    is = at-fed plant scans node drop row old at s.plan s.log s.is;
    made = s.made ∙ ap (λ (l : List Entry). with_list at s.log l old)
        (sym (step-same (old_fixed s.plan) (new_fixed s.plan) s.log.entries
        (before old new (step-goes at old new s) agrees at s.plan s.log s.is)));
  }

  -- ---- a hold

  hold-goes : (at : ℕ) (old new : Joint) → MakesHoldTurnAt plant scans at old new → Goes old new
  hold-goes at old new h = goes-set plant scans node drop row old new at h.log h.entries h.is.log_is
      (hold-front (old_fixed h.plan) (old_fixed h.plan) true h.plan.node
      (net_of plant h.plan.node) true h.log.entries h.entries (noted_on h.plan.network old) h.ring
      h.end h.turn)
      (ap (λ (j : Joint). j.controllers) h.made)

  hold-fed : (at : ℕ) (old new : Joint) → AllAgree new → MakesHoldTurnAt plant scans at old new
      → MakesHoldTurnAt p scans at old new
  hold-fed at old new agrees h = record {
    plan = as_fed h.plan;
    log = h.log;
    is = at-fed plant scans node drop row old at h.plan h.log h.is;
    entries = h.entries;
    ring = h.ring;
    end = h.end;
    turn = holds (old_fixed h.plan) (new_fixed h.plan) (net_of plant h.plan.node) h.plan.node true
        true h.log.entries h.entries (noted_on h.plan.network old) h.ring h.end
        (agree-set plant scans node drop row old new at h.plan h.log h.entries h.is
        (ap (λ (j : Joint). j.controllers) h.made) agrees) h.turn;
    made = h.made;
  }

  host-fed : (at : ℕ) (old new : Joint) → HostHoldsAt plant at old new → HostHoldsAt p at old new
  host-fed at old new h = record {
    plan = h.plan;
    log = h.log;
    is = record { plan_is = h.is.plan_is; log_is = h.is.log_is };
    entries = h.entries;
    ring = h.ring;
    left = h.left;
    turn = h.turn;
    made = h.made;
  }

  end-fed : (net : NetPlan) (side at : ℕ) (old new : Joint) → EndHoldsAt plant net side at old new
      → EndHoldsAt p net side at old new
  end-fed net side at old new h = record {
    plan = h.plan;
    log = h.log;
    is = record { plan_is = h.is.plan_is; log_is = h.is.log_is };
    entries = h.entries;
    ring = h.ring;
    left = h.left;
    turn = h.turn;
    made = h.made;
  }

  by-goes : (net : NetPlan) (c h b : Option ℕ) (old new : Joint)
      → MakesHold plant scans net c h b old new → Goes old new
  by-goes net (Some at) h b old new m = hold-goes at old new m
  by-goes net None (Some at) b old new m = goes-rings plant scans node drop row old new
      (ap (λ (j : Joint). j.controllers) m.made)
  by-goes net None None (Some at) old new m = goes-rings plant scans node drop row old new
      (ap (λ (j : Joint). j.controllers) m.made)
  by-goes net None None None old new m = goes-same plant scans node drop row old new m

  by-fed : (net : NetPlan) (c h b : Option ℕ) (old new : Joint) → AllAgree new
      → MakesHold plant scans net c h b old new → MakesHold p scans net c h b old new
  by-fed net (Some at) h b old new agrees m = hold-fed at old new agrees m
  by-fed net None (Some at) b old new agrees m = host-fed at old new m
  by-fed net None None (Some at) old new agrees m = end-fed net (holder_on net old) at old new m
  by-fed net None None None old new agrees m = m

  on-goes : (net : Option NetPlan) (old new : Joint) → MakesHoldOn plant scans net old new
      → Goes old new
  on-goes None old new m = goes-same plant scans node drop row old new m
  on-goes (Some net) old new m = by-goes net (place_of_controller plant (holder_on net old))
      (place_of_host plant (holder_on net old)) (place_of_bridge plant (holder_on net old)) old new
      m

  on-fed : (net : Option NetPlan) (old new : Joint) → AllAgree new
      → MakesHoldOn plant scans net old new → MakesHoldOn p scans net old new
  on-fed None old new agrees m = m
  on-fed (Some net) old new agrees m =
      let holder = holder_on net old in
      subst (λ (c : Option ℕ). MakesHold p scans net c (place_of_host plant holder)
      (place_of_bridge plant holder) old new)
      (sym (same-place plant scans node drop row holder))
      (by-fed net (place_of_controller plant holder) (place_of_host plant holder)
      (place_of_bridge plant holder) old new agrees m)

  -- ---- a visit

  where-goes : (b : Bool) (at : ℕ) (plan : ControllerPlan) (log : ControllerLog) (old new : Joint)
      → slice_get old.controllers at ≡ Some log → VisitsWhere b plant scans at plan log old new
      → Goes old new
  where-goes true at plan log old new is v =
      goes-set plant scans node drop row old new at log v.entries is
      (visit-front (old_fixed plan) (old_fixed plan) true plan.node (net_of plant plan.node)
      log.entries v.entries (noted_on plan.network old) v.ring v.visit)
      (ap (λ (j : Joint). j.controllers) v.made)
  where-goes false at plan log old new is v = goes-same plant scans node drop row old new v

  where-fed : (b : Bool) (at : ℕ) (plan : ControllerPlan) (log : ControllerLog) (old new : Joint)
      → slice_get plant.controllers at ≡ Some plan → slice_get old.controllers at ≡ Some log
      → AllAgree new
      → VisitsWhere b plant scans at plan log old new
      → VisitsWhere b p scans at (as_fed plan) log old new
  where-fed true at plan log old new plan_is is agrees v = record {
    entries = v.entries;
    ring = v.ring;
    visit = visits (old_fixed plan) (new_fixed plan) (net_of plant plan.node) plan.node true
        log.entries v.entries (noted_on plan.network old) v.ring
        (agree-set plant scans node drop row old new at plan log v.entries
        (record { plan_is = plan_is; log_is = is })
        (ap (λ (j : Joint). j.controllers) v.made) agrees) v.visit;
    made = v.made;
  }
  where-fed false at plan log old new plan_is is agrees v = v

  visit-goes : (at : ℕ) (old new : Joint) → VisitsIfDue plant scans at old new → Goes old new
  visit-goes at old new v = where-goes
      (visit_is_due plant scans v.plan v.log.entries (noted_on v.plan.network old)) at v.plan v.log
      old new v.is.log_is v.visits

  visit-fed : (at : ℕ) (old new : Joint) → AllAgree new → VisitsIfDue plant scans at old new
      → VisitsIfDue p scans at old new
  visit-fed at old new agrees v =
      let a = before old new (visit-goes at old new v) agrees at v.plan v.log v.is in
      let was = old_fixed v.plan in
      let now = new_fixed v.plan in
      let ended = ended-same was now v.log.entries a in
      let off = off-same was now v.log.entries a in
      let started = started-same was now v.log.entries a in
      let status = status_at (net_of plant v.plan.node) (noted_on v.plan.network old)
      v.plan.node in
      let due : visit_is_due p scans (as_fed v.plan) v.log.entries (noted_on v.plan.network old)
      ≡ visit_is_due plant scans v.plan v.log.entries (noted_on v.plan.network old) =
      λ i. is_out_of_ring (ended i && off i) status && started i in
      record {
        plan = as_fed v.plan;
        log = v.log;
        is = at-fed plant scans node drop row old at v.plan v.log v.is;
        visits = subst (λ (b : Bool). VisitsWhere b p scans at (as_fed v.plan) v.log old new)
            (sym due)
            (where-fed (visit_is_due plant scans v.plan v.log.entries
            (noted_on v.plan.network old)) at v.plan v.log old new v.is.plan_is v.is.log_is agrees
            v.visits);
      }

  -- ---- an away turn

  away-goes : (at : ℕ) (old new : Joint) → ComesBackAt plant scans at old new → Goes old new
  away-goes at old new c = goes-rings plant scans node drop row old new
      (ap (λ (j : Joint). j.controllers) c.made)

  away-fed : (at : ℕ) (old new : Joint) → AllAgree new → ComesBackAt plant scans at old new
      → ComesBackAt p scans at old new
  away-fed at old new agrees c =
      let a = before old new (away-goes at old new c) agrees at c.plan c.log c.is in
      let past = noted_on c.plan.network old in
      let status = status_at (net_of plant c.plan.node) past c.plan.node in
      record {
        plan = as_fed c.plan;
        log = c.log;
        is = at-fed plant scans node drop row old at c.plan c.log c.is;
        made = c.made
            ∙ ap (λ (off : Bool). with_noted_on c.plan.network
            (past ++ coming_back status off c.plan.node) old)
            (sym (off-same (old_fixed c.plan) (new_fixed c.plan) c.log.entries a));
      }

  -- ---- a turn, by the place of its controller

  step-at-goes : (c : Option ℕ) (old new : Joint) → MakesStep plant scans c old new → Goes old new
  step-at-goes None old new m = goes-same plant scans node drop row old new m
  step-at-goes (Some at) old new m = step-goes at old new m

  visit-at-goes : (c : Option ℕ) (old new : Joint) → MakesVisit plant scans c old new
      → Goes old new
  visit-at-goes None old new m = goes-same plant scans node drop row old new m
  visit-at-goes (Some at) old new m = visit-goes at old new m

  away-at-goes : (c : Option ℕ) (old new : Joint) → MakesAwayTurn plant scans c old new
      → Goes old new
  away-at-goes None old new m = goes-same plant scans node drop row old new m
  away-at-goes (Some at) old new m = away-goes at old new m

  pub turn-goes : (turn : Turn) (old new : Joint) → MakesTurn plant scans turn old new
      → Goes old new
  turn-goes (Step n) old new m = step-at-goes (place_of_controller plant n) old new m
  turn-goes (Hold network) old new m = on-goes (net_numbered plant network) old new m
  turn-goes (Visit n) old new m = visit-at-goes (place_of_controller plant n) old new m
  turn-goes (Away n) old new m = away-at-goes (place_of_controller plant n) old new m

  step-at-fed : (c : Option ℕ) (old new : Joint) → AllAgree new → MakesStep plant scans c old new
      → MakesStep p scans c old new
  step-at-fed None old new agrees m = m
  step-at-fed (Some at) old new agrees m = step-fed at old new agrees m

  visit-at-fed : (c : Option ℕ) (old new : Joint) → AllAgree new → MakesVisit plant scans c old new
      → MakesVisit p scans c old new
  visit-at-fed None old new agrees m = m
  visit-at-fed (Some at) old new agrees m = visit-fed at old new agrees m

  away-at-fed : (c : Option ℕ) (old new : Joint) → AllAgree new
      → MakesAwayTurn plant scans c old new → MakesAwayTurn p scans c old new
  away-at-fed None old new agrees m = m
  away-at-fed (Some at) old new agrees m = away-fed at old new agrees m

  pub turn-fed : (turn : Turn) (old new : Joint) → AllAgree new → MakesTurn plant scans turn old new
      → MakesTurn p scans turn old new
  turn-fed (Step n) old new agrees m =
      subst (λ (c : Option ℕ). MakesStep p scans c old new)
      (sym (same-place plant scans node drop row n))
      (step-at-fed (place_of_controller plant n) old new agrees m)
  turn-fed (Hold network) old new agrees m =
      on-fed (net_numbered plant network) old new agrees m
  turn-fed (Visit n) old new agrees m =
      subst (λ (c : Option ℕ). MakesVisit p scans c old new)
      (sym (same-place plant scans node drop row n))
      (visit-at-fed (place_of_controller plant n) old new agrees m)
  turn-fed (Away n) old new agrees m =
      subst (λ (c : Option ℕ). MakesAwayTurn p scans c old new)
      (sym (same-place plant scans node drop row n))
      (away-at-fed (place_of_controller plant n) old new agrees m)

  -- ---- turns one after another

  pub turns-go : (turns : List Turn) (old new : Joint) → MakesTurns plant scans turns old new
      → Goes old new
  turns-go [] old new m = goes-same plant scans node drop row old new m
  turns-go (turn ∷ turns) old new m = goes-then plant scans node drop row old m.0 new
      (turn-goes turn old m.0 m.1) (turns-go turns m.0 new m.2)

  pub turns-fed : (turns : List Turn) (old new : Joint) → AllAgree new
      → MakesTurns plant scans turns old new → MakesTurns p scans turns old new
  turns-fed [] old new agrees m = m
  turns-fed (turn ∷ turns) old new agrees m = (
    m.0,
    turn-fed turn old m.0 (before m.0 new (turns-go turns m.0 new m.2) agrees) m.1,
    turns-fed turns m.0 new agrees m.2,
  )
