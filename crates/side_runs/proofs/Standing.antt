-- Scans of states and of those that stand for them at all references.
use Rattle.std.proofs.Common.{◌≡◌, ℕ, ◌%◌, Bool, true, false, ◌==◌, List, sym, ap, ◌∙◌, subst}
use Rattle.std.proofs.lemmas.Bool.{eqb-true, eq-eqb}
use Rattle.plant_types.specs.declared.plan.ControllerPlan.{ControllerPlan}
use Rattle.scan_order.specs.Due.{full_scan}
use Rattle.ladder_solver.specs.State.{SolveState}
use Rattle.controller_core.specs.declared.fixed.Fixed.{Fixed}
use Rattle.controller_core.specs.Replay.{ControllerState}
use Rattle.field_runs.specs.Alike.{AlikeStatesStay, IsAlike, IsSettled, ScansSettle}
use Rattle.field_runs.specs.Scan.{scanned}
use Rattle.field_runs.specs.Told.{Agrees}
use Rattle.field_runs.proofs.Playing.{stopped-steps}
use Rattle.field_search.specs.Covered.{IsAlone}
use Rattle.side_runs.specs.Standing.{StandsWhole}

-- alike states of alike states are alike
pub alike-then : (s t u : ControllerState) → IsAlike s t → IsAlike t u → IsAlike s u
alike-then s t u a b = record {
  references = a.references ∙ b.references;
  edges = a.edges ∙ b.edges;
  stop = a.stop ∙ b.stop;
  clock = a.clock ∙ b.clock;
}

-- states that agree are alike
pub agrees-alike : (s t : ControllerState) → Agrees s t → IsAlike s t
agrees-alike s t r = record {
  references = ap (λ (q : SolveState). q.map) r.solving;
  edges = ap (λ (q : SolveState). q.edges) r.solving;
  stop = r.stop;
  clock = ap (λ (q : SolveState). q.clock.now % 100) r.solving;
}

module _ (stay : AlikeStatesStay) (settle : ScansSettle) (fixed : Fixed)
    (alone : IsAlone fixed.plan) where
  -- a scan of a state and of the one that its key stands for
  pub scanned-alike : (told : List ℕ) (s kept : ControllerState) (b : Bool) → (s.stop == 0) ≡ b
      → (s.stop ≡ 0 → IsSettled fixed.plan s) → StandsWhole fixed.plan s kept
      → IsAlike (scanned fixed told s) (scanned fixed told kept)
  scanned-alike told s kept true is settled stands =
      let goes : s.stop ≡ 0 = eqb-true s.stop 0 is in
      stay fixed told s kept (settled goes) (stands.settled (sym stands.alike.stop ∙ goes)) goes
      stands.alike
  scanned-alike told s kept false is settled stands =
      let one = stopped-steps fixed told s (full_scan fixed.plan) is in
      let other = stopped-steps fixed told kept (full_scan fixed.plan)
      (ap (λ k. k == 0) (sym stands.alike.stop) ∙ is) in
      subst (λ (q : ControllerState). IsAlike q (scanned fixed told kept)) (sym one)
      (subst (λ (q : ControllerState). IsAlike s q) (sym other) stands.alike)

  -- a scan that did not stop settles
  pub scanned-settled : (told : List ℕ) (s : ControllerState) (b : Bool) → (s.stop == 0) ≡ b
      → (s.stop ≡ 0 → IsSettled fixed.plan s) → (scanned fixed told s).stop ≡ 0
      → IsSettled fixed.plan (scanned fixed told s)
  scanned-settled told s true is settled goes =
      settle.scans fixed told s alone.runs alone.messages (settled (eqb-true s.stop 0 is)) goes
  scanned-settled told s false is settled goes =
      let one = stopped-steps fixed told s (full_scan fixed.plan) is in
      let on : s.stop ≡ 0 = ap (λ (q : ControllerState). q.stop) (sym one) ∙ goes in
      absurd (let no' : true ≡ false = sym (eq-eqb s.stop 0 on) ∙ is in cc)
