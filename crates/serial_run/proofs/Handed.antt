-- What a run that is over hands over.
use Rattle.std.proofs.Common.{◌≡◌, ℕ, ◌+◌, List, [], ◌∷◌, map, refl, sym, ap, subst, ◌∙◌}
use Rattle.std.proofs.Common.{Result, Ok, Err, IfOk}
use Rattle.std.specs.Prelude.{fold}
use Rattle.std.specs.List.{AllZip, count_by, sum_by, zip}
use Rattle.std.proofs.lemmas.List.Sums.{sum_by-cons}
use Rattle.plant_types.specs.declared.plan.ControllerPlan.{ControllerPlan}
use Rattle.plant_types.specs.declared.plan.Plant.{Plant}
use Rattle.plant_types.specs.Store.{is_on}
use Rattle.controller_core.specs.declared.entry.Entry.{Entry}
use Rattle.controller_core.specs.declared.entry.Entry.TheVariants as entries
use Rattle.controller_core.specs.declared.fixed.Fixed.{Fixed}
use Rattle.controller_core.specs.Notes.{NotesAskNoScans, notes_of}
use Rattle.controller_core.specs.Replay.{ControllerState, apply, replay, start}
use Rattle.route_laws.specs.Effects.{EffectsAreRight}
use Rattle.bridge_station.specs.TurnLaws.{IsInOneOrder}
use Rattle.bridge_station.specs.EndTimes.{AreBridgesInTime}
use Rattle.joint_history.specs.declared.joint.Joint.{Joint}
use Rattle.joint_history.specs.declared.noted.Noted.{Noted}
use Rattle.summary_text.specs.Coils.{all_coils, coils_at_end, coils_by_log}
use Rattle.joint_history.specs.Complete.{IsComplete}
use Rattle.joint_history.specs.JointLaws.{IsJoint, IsLegalJoint, fixed_of, most_scans}
use Rattle.joint_history.specs.Noted.{notes_by_log, notes_in}
use Rattle.serial_run.specs.declared.stations.ControllerStation.{ControllerStation}
use Rattle.serial_run.specs.declared.stations.Stations.{Stations}
use Rattle.serial_run.specs.Over.{AreOver, IsNotedRun}
use Rattle.serial_run.specs.Serial.{IsSerial}
use Rattle.serial_run.specs.Stations.{StandAll, StandsOn, joint_of, log_of}
use Rattle.serial_run.specs.Stations.{station_coils, station_notes}
use Rattle.serial_run.proofs.Laws.{stand-bridges-in-time, stand-joint, stand-legal}

-- ---- what the controllers noted

-- a station's notes are those by its log
notes-same : NotesAskNoScans → (plant : Plant) (scans : ℕ) (plan : ControllerPlan)
    (station : ControllerStation) → station.controller.fixed ≡ fixed_of plant scans plan
    → station_notes station ≡ notes_by_log plant (plan, log_of station)
notes-same law plant scans plan station fixed =
    let h = station.controller.history in
    ap (λ (f : Fixed). notes_of f h) fixed ∙ sym (law (fixed_of plant scans plan) most_scans h)

notes-all : NotesAskNoScans → (plant : Plant) (scans : ℕ) (rings : List _)
    (plans : List ControllerPlan) (stations : List ControllerStation)
    → AllZip (StandsOn plant scans rings) plans stations
    → map station_notes stations ≡ map (notes_by_log plant) (zip plans (map log_of stations))
notes-all law plant scans rings [] [] all = refl
notes-all law plant scans rings [] (s ∷ stations) all = absurd all
notes-all law plant scans rings (plan ∷ plans) [] all = absurd all
notes-all law plant scans rings (plan ∷ plans) (s ∷ stations) all =
    λ i. notes-same law plant scans plan s all.0.fixed i
    ∷ notes-all law plant scans rings plans stations all.1 i

-- the notes of stations that stand are those of their joint history
pub stand-noted : NotesAskNoScans → (plant : Plant) (scans : ℕ) (run : Stations)
    → StandAll plant scans run → map station_notes run.controllers.items ≡ notes_in plant
    (joint_of run)
stand-noted law plant scans run all =
    notes-all law plant scans run.rings.items plant.controllers run.controllers.items
    all.controllers

-- ---- the coils

same-after : (f : Fixed) (n : ℕ) (s : ControllerState) (e : Entry)
    → apply (record f { scans = n }) s e ≡ apply f s e
same-after f n s entries.Begin = refl
same-after f n s (entries.Input row) = refl
same-after f n s (entries.Solve row) = refl
same-after f n s (entries.Output row words) = refl
same-after f n s entries.End = refl
same-after f n s entries.Fail = refl
same-after f n s entries.Dark = refl
same-after f n s (entries.Collect calls) = refl
same-after f n s (entries.Peer id request reply) = refl
same-after f n s (entries.Off id request) = refl
same-after f n s (entries.Finish id result) = refl

same-fold : (f : Fixed) (n : ℕ) (s : ControllerState) (h : List Entry)
    → fold (apply (record f { scans = n })) s h ≡ fold (apply f) s h
same-fold f n s [] = refl
same-fold f n s (e ∷ h) =
    ap (λ (t : ControllerState). fold (apply (record f { scans = n })) t h) (same-after f n s e)
    ∙ same-fold f n (apply f s e) h

-- the coils that are on at a station are those by its log
coils-same : (plant : Plant) (scans : ℕ) (plan : ControllerPlan) (station : ControllerStation)
    → station.controller.fixed ≡ fixed_of plant scans plan
    → station_coils (plan, station) ≡ coils_by_log plant (plan, log_of station)
coils-same plant scans plan station fixed =
    let h = station.controller.history in
    let on = λ (s : ControllerState). count_by (is_on s.solving.map) (all_coils plan) in
    ap (λ (f : Fixed). on (replay f h)) fixed
    ∙ sym (ap on (same-fold (fixed_of plant scans plan) most_scans (start plan) h))

coils-all : (plant : Plant) (scans : ℕ) (rings : List _) (plans : List ControllerPlan)
    (stations : List ControllerStation) → AllZip (StandsOn plant scans rings) plans stations
    → sum_by station_coils (zip plans stations)
    ≡ sum_by (coils_by_log plant) (zip plans (map log_of stations))
coils-all plant scans rings [] [] all = refl
coils-all plant scans rings [] (s ∷ stations) all = absurd all
coils-all plant scans rings (plan ∷ plans) [] all = absurd all
coils-all plant scans rings (plan ∷ plans) (s ∷ stations) all =
    sum_by-cons station_coils (plan, s) (zip plans stations)
    ∙ ap (λ n. n + sum_by station_coils (zip plans stations))
    (coils-same plant scans plan s all.0.fixed)
    ∙ ap (λ n. coils_by_log plant (plan, log_of s) + n)
    (coils-all plant scans rings plans stations all.1)
    ∙ sym (sum_by-cons (coils_by_log plant) (plan, log_of s) (zip plans (map log_of stations)))

-- the coils of stations that stand are those at the end of their joint history
pub stand-coils : (plant : Plant) (scans : ℕ) (run : Stations) → StandAll plant scans run
    → sum_by station_coils (zip plant.controllers run.controllers.items)
    ≡ coils_at_end plant (joint_of run)
stand-coils plant scans run all =
    coils-all plant scans run.rings.items plant.controllers run.controllers.items all.controllers

-- ---- the whole

-- what stations hand over whose serial run is over
pub noted-run : (plant : Plant) (scans : ℕ) (run : Stations) (noted : Noted)
    → AreOver plant scans run → EffectsAreRight (joint_of run) → IsInOneOrder plant (joint_of run)
    → NotesAskNoScans → noted.joint ≡ joint_of run
    → noted.notes ≡ map station_notes run.controllers.items → IsNotedRun plant scans noted
noted-run plant scans run noted over effects in_time law is notes = record {
  serial = subst (IsSerial plant scans) (sym is) over.serial;
  legal = subst (IsLegalJoint plant scans) (sym is) (stand-legal plant scans run over.stand);
  joint = subst IsJoint (sym is) (stand-joint plant scans run over.stand);
  effects = subst EffectsAreRight (sym is) effects;
  in_time = subst (IsInOneOrder plant) (sym is) in_time;
  bridges_in_time = subst AreBridgesInTime (sym is)
      (stand-bridges-in-time plant scans run over.stand);
  complete = subst (IsComplete plant scans) (sym is) over.complete;
  notes = notes ∙ stand-noted law plant scans run over.stand
      ∙ ap (λ (j : Joint). notes_in plant j) (sym is);
}

-- two facts of what came of a call, where it came to something
pub if-both : {T E : Type 0} {P Q S : T → Type 0} (r : Result T E) → ((x : T) → P x → Q x → S x)
    → IfOk r P → IfOk r Q → IfOk r S
if-both (Ok x) f p q = f x p q
if-both (Err e) f p q = p
