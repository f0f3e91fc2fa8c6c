-- What the solve of a segment keeps of a work.
use Rattle.std.proofs.Common.{◌≡◌, ℕ, ◌<◌, ◌≤◌, Bool, true, false, ◌==◌, inl, inr, refl, sym, ap, ◌∙◌}
use Rattle.std.proofs.Common.{arith}
use Rattle.std.specs.Prelude.{if◌then◌else◌}
use Rattle.plant_types.specs.declared.plan.ControllerPlan.{ControllerPlan}
use Rattle.alike_states.specs.Counters.{EdgesStayElsewhere}
use Rattle.ladder_solver.specs.State.{SolveState}
use Rattle.ladder_solver.specs.Segment.{segment_after}
use Rattle.field_machine.specs.Counters.{counters_of}
use Rattle.field_machine.proofs.Counting.{counter-listed}
use Rattle.field_machine.proofs.Edges.{among-or-not, Within}

-- edge bits stay at counters
pub solved-edges : EdgesStayElsewhere → (plan : ControllerPlan) (segment : ℕ) (s : SolveState)
    → 1 ≤ segment → Within s.edges (counters_of plan.segments)
    → Within (segment_after plan.segments segment s).edges (counters_of plan.segments)
solved-edges stay plan segment s from within q is =
    elim (among-or-not (counters_of plan.segments) q) [
      | inl among ↦ among
      | inr none ↦ within q (sym (stay plan.segments segment q s from
          (λ counter. none (counter-listed plan.segments q counter))) ∙ is)
    ]

-- where a solve did not stop, networks are left
pub left-some : (left stop : ℕ) → (if left == 0 then 1 else stop) ≡ 0 → 0 < left
left-some left stop is = by (left == 0) refl
  where
    by : (b : Bool) → (left == 0) ≡ b → 0 < left
    by true none =
        let no' : 1 ≡ 0 = sym (ap (λ c. if c then 1 else stop) none) ∙ is in
        absurd (omega (arith, no'))
    by false some = grind (arith, some)
