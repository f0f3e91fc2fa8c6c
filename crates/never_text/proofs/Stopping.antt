-- A run that is the shortest goes on up to its last scan.
use Rattle.std.proofs.Common.{◌≡◌, ◌==◌, ℕ, zero, suc, ◌+◌, ◌-◌, Bool, true, false, List}
use Rattle.std.proofs.Common.{Option, sym, ap, ◌∙◌, arith, length, refl}
use Rattle.std.proofs.lemmas.Bool.{eqb-true}
use Rattle.plant_types.specs.declared.plan.ControllerPlan.{ControllerPlan}
use Rattle.scan_order.specs.Due.{due}
use Rattle.controller_core.specs.declared.fixed.Fixed.{Fixed}
use Rattle.controller_core.specs.Controller.{fixed_with}
use Rattle.controller_core.specs.Replay.{ControllerState}
use Rattle.field_runs.specs.Field.{state_after}
use Rattle.field_runs.specs.Played.{with_scripts}
use Rattle.field_runs.proofs.Runs.{after-more, run-stopped, run_steps}
use Rattle.field_machine.specs.Never.{state_of_run, IsFirstSo}
use Rattle.never_text.specs.Lines.{StopsNoSooner}

-- where a controller has stopped, it stays so
pub stays-stopped : (plan : ControllerPlan) (scan_time watchdog n k : ℕ)
    → ((state_after plan scan_time watchdog n).stop == 0) ≡ false
    → state_after plan scan_time watchdog (n + k) ≡ state_after plan scan_time watchdog n
stays-stopped plan scan_time watchdog n zero stopped =
    let e : n + 0 ≡ n = omega arith in ap (state_after plan scan_time watchdog) e
stays-stopped plan scan_time watchdog n (suc k) stopped =
    let e : n + suc k ≡ n + k + 1 = omega arith in
    let f = fixed_with plan scan_time watchdog (n + k) in
    let s = state_after plan scan_time watchdog n in
    ap (state_after plan scan_time watchdog) e
    ∙ (after-more plan scan_time watchdog (n + k)
    ∙ (ap (λ (t : ControllerState). run_steps f t (due plan (1 + (n + k))))
    (stays-stopped plan scan_time watchdog n k stopped)
    ∙ run-stopped f s (due plan (1 + (n + k))) stopped))

pub first-goes : (fixed : Fixed) (asked : ControllerState → Bool) (limit : Option ℕ)
    (told : List (List ℕ)) → IsFirstSo fixed asked limit told → StopsNoSooner fixed told
first-goes fixed asked limit told first scans less =
    by ((state_of_run fixed played scans).stop == 0) refl
  where
    played : ControllerPlan
    played = with_scripts fixed.plan told

    by : (b : Bool) → ((state_of_run fixed played scans).stop == 0) ≡ b
        → (state_of_run fixed played scans).stop ≡ 0
    by true is = eqb-true (state_of_run fixed played scans).stop 0 is
    by false is =
        let far : scans + (length told - scans) ≡ length told = omega (arith, less) in
        let same : state_of_run fixed played (length told) ≡ state_of_run fixed played scans =
        ap (state_of_run fixed played) (sym far)
        ∙ stays-stopped played fixed.scan_time fixed.watchdog scans (length told - scans) is in
        absurd (let no' : true ≡ false =
        sym first.so ∙ (ap asked same ∙ first.first played scans first.plays less) in cc)
