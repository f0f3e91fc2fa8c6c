-- A joint history that is legal for some scans is legal for more.
use Rattle.std.proofs.Common.{◌≡◌, ℕ, zero, suc, ◌+◌, ◌-◌, ◌≤◌, List, [], ◌∷◌, ◌++◌, refl, sym, ap}
use Rattle.std.proofs.Common.{◌∙◌, subst, arith, append_assoc}
use Rattle.std.specs.List.{AllZip, flat_map, range_with_len}
use Rattle.std.proofs.lemmas.Grind.{flat_map-append}
use Rattle.plant_types.specs.declared.plan.ControllerPlan.{ControllerPlan}
use Rattle.plant_types.specs.declared.plan.Plant.{Plant}
use Rattle.scan_order.specs.declared.due.ScanStep.{ScanStep}
use Rattle.scan_order.specs.Due.{due}
use Rattle.controller_core.specs.declared.entry.Entry.{Entry}
use Rattle.controller_core.specs.declared.entry.Entry.TheVariants as entries
use Rattle.controller_core.specs.Controller.{EachFits, Fits, IsLegal}
use Rattle.controller_core.specs.Event.{scan_steps}
use Rattle.controller_core.specs.Replay.{ControllerState, apply, start}
use Rattle.controller_core.specs.Scans.{all_due}
use Rattle.joint_history.specs.declared.joint.ControllerLog.{ControllerLog}
use Rattle.joint_history.specs.declared.joint.Joint.{Joint}
use Rattle.joint_history.specs.JointLaws.{IsLegalJoint, IsLegalLog, fixed_of}

-- an event does the same
apply-same : (plant : Plant) (plan : ControllerPlan) (n m : ℕ) (s : ControllerState) (entry : Entry)
    → apply (fixed_of plant m plan) s entry ≡ apply (fixed_of plant n plan) s entry
apply-same plant plan n m s entries.Begin = refl
apply-same plant plan n m s (entries.Input row) = refl
apply-same plant plan n m s (entries.Solve row) = refl
apply-same plant plan n m s (entries.Output row words) = refl
apply-same plant plan n m s entries.End = refl
apply-same plant plan n m s entries.Fail = refl
apply-same plant plan n m s entries.Dark = refl
apply-same plant plan n m s (entries.Collect calls) = refl
apply-same plant plan n m s (entries.Peer id request reply) = refl
apply-same plant plan n m s (entries.Off id request) = refl
apply-same plant plan n m s (entries.Finish id result) = refl

-- and fits where it did
fits-same : (plant : Plant) (plan : ControllerPlan) (n m : ℕ) (s : ControllerState) (entry : Entry)
    → Fits (fixed_of plant n plan) s entry → Fits (fixed_of plant m plan) s entry
fits-same plant plan n m s entries.Begin fits = fits
fits-same plant plan n m s (entries.Input row) fits = fits
fits-same plant plan n m s (entries.Solve row) fits = fits
fits-same plant plan n m s (entries.Output row words) fits = fits
fits-same plant plan n m s entries.End fits = fits
fits-same plant plan n m s entries.Fail fits = fits
fits-same plant plan n m s entries.Dark fits = fits
fits-same plant plan n m s (entries.Collect calls) fits = fits
fits-same plant plan n m s (entries.Peer id request reply) fits = fits
fits-same plant plan n m s (entries.Off id request) fits = fits
fits-same plant plan n m s (entries.Finish id result) fits = fits

-- so do all
each-same : (plant : Plant) (plan : ControllerPlan) (n m : ℕ) (s : ControllerState)
    (log : List Entry)
    → EachFits (fixed_of plant n plan) s log → EachFits (fixed_of plant m plan) s log
unfolding EachFits
each-same plant plan n m s [] fits = tt
each-same plant plan n m s (entry ∷ log) fits = (
  fits-same plant plan n m s entry fits.0,
  subst (λ (after : ControllerState). EachFits (fixed_of plant m plan) after log)
      (sym (apply-same plant plan n m s entry))
      (each-same plant plan n m (apply (fixed_of plant n plan) s entry) log fits.1),
)

-- numbers from one on, and further ones
range-more : (a n k : ℕ) → range_with_len a (n + k) ≡ range_with_len a n ++ range_with_len (a + n) k
range-more a zero k =
    let e : a + zero ≡ a = omega arith in
    let f : zero + k ≡ k = omega arith in
    rw (e, f) refl
range-more a (suc n) k =
    let e : suc n + k ≡ suc (n + k) = omega arith in
    let f : a + suc n ≡ (a + 1) + n = omega arith in
    rw (e, f) (ap (λ rest. a ∷ rest) (range-more (a + 1) n k))

-- what is due in so many scans is the first that is due in more
due-more : (plant : Plant) (plan : ControllerPlan) (n m : ℕ) → n ≤ m
    → (more : List ScanStep)
    × (all_due (fixed_of plant n plan) ++ more ≡ all_due (fixed_of plant m plan))
due-more plant plan n m few =
    let is : n + (m - n) ≡ m = omega arith in
    let parts = flat_map-append (due plan) (range_with_len 1 n)
    (range_with_len (1 + n) (m - n)) in (
      flat_map (due plan) (range_with_len (1 + n) (m - n)),
      sym parts
          ∙ ap (flat_map (due plan)) (sym (range-more 1 n (m - n)) ∙ ap (range_with_len 1) is),
    )

-- a list that is legal for some scans is legal for more
legal-more : (plant : Plant) (plan : ControllerPlan) (n m : ℕ) (log : List Entry) → n ≤ m
    → IsLegal (fixed_of plant n plan) log → IsLegal (fixed_of plant m plan) log
legal-more plant plan n m log few legal =
    let more = due-more plant plan n m few in
    let rest = legal.due.0 in
    record {
      each = each-same plant plan n m (start plan) log legal.each;
      due = (
        rest ++ more.0,
        sym (append_assoc (scan_steps log) rest more.0)
            ∙ ap (λ steps. steps ++ more.0) legal.due.1 ∙ more.1,
      );
    }

logs-more : (plant : Plant) (n m : ℕ) (plans : List ControllerPlan) (logs : List ControllerLog)
    → n ≤ m
    → AllZip (IsLegalLog plant n) plans logs → AllZip (IsLegalLog plant m) plans logs
logs-more plant n m [] [] few legal = legal
logs-more plant n m [] (log ∷ logs) few legal = legal
logs-more plant n m (plan ∷ plans) [] few legal = legal
logs-more plant n m (plan ∷ plans) (log ∷ logs) few legal = (
  (legal.0.0, legal-more plant plan n m log.entries few legal.0.1),
  logs-more plant n m plans logs few legal.1,
)

-- so is a joint history
pub joint_more : (plant : Plant) (n m : ℕ) (joint : Joint) → n ≤ m
    → IsLegalJoint plant n joint → IsLegalJoint plant m joint
joint_more plant n m joint few legal = record {
  controllers = logs-more plant n m plant.controllers joint.controllers few legal.controllers;
  hosts = legal.hosts;
  bridges = legal.bridges;
  rings = legal.rings;
}
