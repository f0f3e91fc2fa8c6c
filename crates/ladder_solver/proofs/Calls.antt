-- What a call makes of a state: nothing, or what the run of its subroutine makes.
use Rattle.std.proofs.Common.{◌≡◌, ℕ, ◌+◌, ◌-◌, zero, suc, List, Option, Some, None, refl, ◌∙◌, sym}
use Rattle.std.proofs.Common.{ap, length, arith}
use Rattle.std.specs.List.{slice_range}
use Rattle.std.specs.Option.{option_map}
use Rattle.plant_types.specs.declared.network.Segment.{Segment}
use Rattle.plant_types.specs.Power.{top_output, middle_output}
use Rattle.ladder_solver.specs.declared.flow.Solved.{Solved}
use Rattle.ladder_solver.specs.declared.program.Span.{Span}
use Rattle.ladder_solver.specs.State.{SolveState}
use Rattle.ladder_solver.specs.Flow.{Flow, GoesOn, flow_behind, called}
use Rattle.ladder_solver.specs.Numbers.{networks_of}
use Rattle.ladder_solver.specs.Segment.{networks_after, calls_within, setting_within}
use Rattle.ladder_solver.specs.Subroutine.{subroutine_of}
use Rattle.ladder_solver.specs.Program.{subroutine_in}

-- a call that finds nothing
nothing_called : (behind : Option SolveState) (s : SolveState) (solved : Solved) → behind ≡ None
    → solved ≡ record { outputs = middle_output; flow = GoesOn }
    → called behind s ≡ ((solved.outputs, s), solved.flow)
nothing_called behind s solved none is =
    ap (λ b. called b s) none ∙ (λ i. (((sym is i).outputs, s), (sym is i).flow))

-- calls are as deep as they can be
pub call-deep : (segments : List Segment) (depth number : ℕ) (s : SolveState) (solved : Solved)
    → depth ≡ 0
    → solved ≡ record { outputs = middle_output; flow = GoesOn }
    → called (calls_within depth segments number s) s ≡ ((solved.outputs, s), solved.flow)
unfolding calls_within
call-deep segments depth number s solved deep is = nothing_called _ s solved (rw deep refl) is

none_within : (segments : List Segment) (depth number : ℕ) (s : SolveState) (span : Option Span)
    → option_map (subroutine_in (networks_of segments (length segments))) span
    ≡ subroutine_of (networks_of segments (length segments)) number
    → span ≡ None → calls_within depth segments number s ≡ None
unfolding calls_within
none_within segments zero number s span found none = refl
none_within segments (suc depth) number s span found none = rw (sym found, none) refl

-- there is no subroutine
pub call-missing : (segments : List Segment) (depth number : ℕ) (s : SolveState)
    (span : Option Span) (solved : Solved)
    → option_map (subroutine_in (networks_of segments (length segments))) span
    ≡ subroutine_of (networks_of segments (length segments)) number
    → span ≡ None → solved ≡ record { outputs = middle_output; flow = GoesOn }
    → called (calls_within depth segments number s) s ≡ ((solved.outputs, s), solved.flow)
call-missing segments depth number s span solved found none is =
    nothing_called _ s solved (none_within segments depth number s span found none) is

-- the subroutine is run
pub call-found : (segments : List Segment) (depth number last : ℕ) (s after : SolveState)
    (span : Option Span) (some : Span)
    → (depth ≡ 0 → ⊥)
    → option_map (subroutine_in (networks_of segments (length segments))) span
    ≡ subroutine_of (networks_of segments (length segments)) number
    → span ≡ Some some → last ≡ length segments
    → networks_after (setting_within (depth - 1) segments) last (some.first + 1)
    (slice_range (networks_of segments last) some.first some.end) 0 s ≡ after
    → calls_within depth segments number s ≡ Some after
unfolding calls_within
call-found segments zero number last s after span some deep found is there ran = absurd (deep refl)
call-found segments (suc depth) number last s after span some deep found is there ran =
    let back : suc depth - 1 ≡ depth = omega arith in
    rw (sym found, is) (ap Some (rw (back, there) at ran))

-- the caller goes on, or is stopped with it
pub called-some : (behind : Option SolveState) (s after : SolveState) (flow : Flow)
    → behind ≡ Some after → flow ≡ flow_behind after
    → called behind s ≡ ((top_output, after), flow)
called-some behind s after flow is goes =
    ap (λ b. called b s) is ∙ (λ i. ((top_output, after), sym goes i))
