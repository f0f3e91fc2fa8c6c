-- Solves some whole seconds later, element by element.
use Rattle.std.proofs.Common.{◌≡◌, ℕ, zero, suc, ◌+◌, ◌-◌, Bool, true, false, ◌==◌, List}
use Rattle.std.proofs.Common.{[], ◌∷◌, Option, Some, None, refl, ap, ◌∙◌, length, arith}
use Rattle.std.specs.Prelude.{if◌then◌else◌}
use Rattle.std.specs.Option.{option_map}
use Rattle.plant_types.specs.declared.element.Element.{Element}
use Rattle.plant_types.specs.declared.element.Element.TheVariants.{Open, Closed, Rise, Fall, Coil}
use Rattle.plant_types.specs.declared.element.Element.TheVariants.{Latch, Wire, Timer, Counter}
use Rattle.plant_types.specs.declared.element.Element.TheVariants.{Math, Move, Matrix, Skip, Label}
use Rattle.plant_types.specs.declared.element.Element.TheVariants.{Call, Return, Mstr}
use Rattle.plant_types.specs.declared.element.Unit.{Unit as TimeBase}
use Rattle.plant_types.specs.declared.element.Unit.TheVariants.{Second, Tenth, Hundredth}
use Rattle.plant_types.specs.declared.network.Cell.{Cell}
use Rattle.plant_types.specs.declared.network.Network.{Network}
use Rattle.plant_types.specs.declared.network.Segment.{Segment}
use Rattle.plant_types.specs.declared.network.Short.{Short}
use Rattle.plant_types.specs.declared.power.NodePower.{NodePower}
use Rattle.plant_types.specs.declared.reference.Ref.{Ref}
use Rattle.plant_types.specs.Effect.{Effect}
use Rattle.plant_types.specs.Power.{no_output}
use Rattle.plant_types.specs.Store.{Contents}
use Rattle.plant_types.specs.Operands.{operand_number}
use Rattle.grid_compile.specs.Cells.{cell_at}
use Rattle.timer_ops.specs.declared.Clock.{Clock}
use Rattle.timer_ops.specs.Timer.{timer_effect, units_passed}
use Rattle.ladder_solver.specs.Element.{block_after}
use Rattle.ladder_solver.specs.declared.places.BlockPlace.{BlockPlace}
use Rattle.ladder_solver.specs.State.{SolveState}
use Rattle.ladder_solver.specs.Flow.{Setting, Left, called, call_left, goes_on, solved_element}
use Rattle.ladder_solver.specs.Network.{Power, element_at, while_going, solved_at, rows_after}
use Rattle.ladder_solver.specs.Network.{columns_after, place_in, inputs_at}
use Rattle.ladder_solver.specs.Network.{with_outputs}
use Rattle.ladder_solver.specs.Segment.{rest_behind, network_turn, networks_after, setting_of}
use Rattle.ladder_solver.specs.Segment.{calls_within, setting_within, call_depth, last_networks}
use Rattle.ladder_solver.specs.Segment.{segment_after}
use Rattle.ladder_solver.specs.Numbers.{networks_of}
use Rattle.ladder_solver.specs.Subroutine.{Subroutine, subroutine_of}
use Rattle.alike_states.specs.Later.{later, clock_later}

-- as many units end between two times some whole seconds later
pub units-later : (unit : TimeBase) (seconds : ℕ) (clock : Clock)
    → units_passed unit (clock_later seconds clock) ≡ units_passed unit clock
units-later Second seconds clock = omega arith
units-later Tenth seconds clock = omega arith
units-later Hundredth seconds clock = omega arith

timer-later : (unit : TimeBase) (preset : ℕ) (acc : Ref) (seconds : ℕ) (clock : Clock)
    (inputs : NodePower) (m : Contents)
    → timer_effect unit preset acc (clock_later seconds clock) inputs m
    ≡ timer_effect unit preset acc clock inputs m
unfolding timer_effect
timer-later unit preset acc seconds clock inputs m = simp (units-later unit seconds clock)

-- a network begins
abbrev pub start_of : SolveState → Power
start_of s = record { state = s; on = []; flow = (goes_on (no_output, s)).1 }

-- what an element left, some seconds later
abbrev left_later : ℕ → Left → Left
left_later seconds left = ((left.0.0, later seconds left.0.1), left.1)

module _ (seconds : ℕ) where
  module _ (setting : Setting) (calls : (number : ℕ) (s : SolveState)
      → setting.calls number (later seconds s) ≡ option_map (later seconds) (setting.calls number s)) where
    called-later : (s : SolveState) (behind : Option SolveState)
        → called (option_map (later seconds) behind) (later seconds s)
        ≡ left_later seconds (called behind s)
    called-later s None = refl
    called-later s (Some after) = refl

    call-later : (power : Bool) (number : ℕ) (s : SolveState)
        → call_left power (setting.calls number (later seconds s)) (later seconds s)
        ≡ left_later seconds (call_left power (setting.calls number s) s)
    call-later true number s =
        ap (λ (b : Option SolveState). called b (later seconds s)) (calls number s)
        ∙ called-later s (setting.calls number s)
    call-later false number s = refl

    element-later : (element : Element) (place : BlockPlace) (inputs : NodePower) (s : SolveState)
        → solved_element setting element place inputs (later seconds s)
        ≡ left_later seconds (solved_element setting element place inputs s)
    element-later (Open at) place inputs s = refl
    element-later (Closed at) place inputs s = refl
    element-later (Rise at) place inputs s = refl
    element-later (Fall at) place inputs s = refl
    element-later (Coil at) place inputs s = refl
    element-later (Latch at) place inputs s = refl
    element-later Wire place inputs s = refl
    element-later (Timer unit preset acc) place inputs s =
        ap (λ (done : Effect). goes_on (block_after done (later seconds s)))
        (timer-later unit (operand_number s.map preset) acc seconds s.clock inputs s.map)
    element-later (Counter up preset acc) place inputs s = refl
    element-later (Math op top mid low) place inputs s = refl
    element-later (Move op top mid length) place inputs s = refl
    element-later (Matrix op top mid length) place inputs s = refl
    element-later (Skip count) place inputs s = grind (arith)
    element-later (Label number) place inputs s = refl
    element-later (Call number) place inputs s =
        call-later inputs.top (operand_number s.map number) s
    element-later Return place inputs s = grind (arith)
    element-later (Mstr control area length) place inputs s = refl

    abbrev power_later : Power → Power
    power_later p = record p { state = later seconds p.state }

    at-later : (shorts : List Short) (segment number : ℕ) (column row : ℕ) (element : Element) (p : Power)
        → element_at setting shorts (record { segment = segment; network = number }) column row element (power_later p)
        ≡ power_later (element_at setting shorts (record { segment = segment; network = number }) column row element p)
    at-later shorts segment number column row element p =
        ap (λ (done : Left).
        let q : Power = record {
          state = done.0.1;
          on = with_outputs done.0.0 column row p.on;
          flow = done.1;
        } in q)
        (element-later element (place_in (record { segment = segment; network = number }) column row) (inputs_at shorts p.on column row) p.state)

    going-later : (p next behind : Power) → behind ≡ power_later next
        → while_going p.flow behind (power_later p) ≡ power_later (while_going p.flow next p)
    going-later p next behind h = grind (arith, h)

    cell-later : (shorts : List Short) (segment number : ℕ) (column row : ℕ) (found : Option Cell)
        (p : Power)
        → solved_at setting shorts (record { segment = segment; network = number }) column row found (power_later p)
        ≡ power_later (solved_at setting shorts (record { segment = segment; network = number }) column row found p)
    cell-later shorts segment number column row None p = refl
    cell-later shorts segment number column row (Some cell) p =
        going-later p (element_at setting shorts (record { segment = segment; network = number }) column row cell.element p)
        (element_at setting shorts (record { segment = segment; network = number }) column row cell.element (power_later p))
        (at-later shorts segment number column row cell.element p)

    rows-later : (network : Network) (segment number : ℕ) (column row count : ℕ) (p : Power)
        → rows_after setting network (record { segment = segment; network = number }) column row count (power_later p)
        ≡ power_later (rows_after setting network (record { segment = segment; network = number }) column row count p)
    unfolding rows_after
    rows-later network segment number column row zero p = refl
    rows-later network segment number column row (suc count) p =
        let q = solved_at setting network.shorts (record { segment = segment; network = number }) column row
        (cell_at network.cells column row) p in
        ap (rows_after setting network (record { segment = segment; network = number }) column (row + 1) count)
        (cell-later network.shorts segment number column row (cell_at network.cells column row) p)
        ∙ rows-later network segment number column (row + 1) count q

    columns-later : (network : Network) (segment number : ℕ) (column count : ℕ) (p : Power)
        → columns_after setting network (record { segment = segment; network = number }) column count (power_later p)
        ≡ power_later (columns_after setting network (record { segment = segment; network = number }) column count p)
    unfolding columns_after
    columns-later network segment number column zero p = refl
    columns-later network segment number column (suc count) p =
        let q = rows_after setting network (record { segment = segment; network = number }) column 1 7 p in
        ap (columns_after setting network (record { segment = segment; network = number }) (column + 1) count)
        (rows-later network segment number column 1 7 p)
        ∙ columns-later network segment number (column + 1) count q

    rest-later : (p : Power) (rest : ℕ → SolveState → SolveState) (s : SolveState)
        → ((skipped : ℕ) (s : SolveState)
        → rest skipped (later seconds s) ≡ later seconds (rest skipped s))
        → rest_behind p.flow rest (later seconds s) ≡ later seconds (rest_behind p.flow rest s)
    rest-later p rest s same = grind (arith, same)

    begun-later : (b : Bool) (begun after behind : SolveState) → behind ≡ later seconds after
        → (if b then later seconds begun else behind)
        ≡ later seconds (if b then begun else after)
    begun-later true begun after behind h = refl
    begun-later false begun after behind h = h

    turn-later : (network : Network) (segment number : ℕ) (rest : ℕ → SolveState → SolveState)
        (s : SolveState)
        → ((skipped : ℕ) (s : SolveState)
        → rest skipped (later seconds s) ≡ later seconds (rest skipped s))
        → network_turn setting network (record { segment = segment; network = number }) rest (later seconds s)
        ≡ later seconds (network_turn setting network (record { segment = segment; network = number }) rest s)
    turn-later network segment number rest s same =
        let begun = record s { left = s.left - 1 } in
        let start : Power = start_of begun in
        let p : Power = columns_after setting network
        (record { segment = segment; network = number }) 1 11 start in
        begun-later (begun.left == 0) begun (rest_behind p.flow rest p.state) _
        (ap (λ (q : Power). rest_behind q.flow rest q.state)
        (columns-later network segment number 1 11 start)
        ∙ rest-later p rest p.state same)

    networks-later : (segment number : ℕ) (networks : List Network) (skipped : ℕ) (s : SolveState)
        → networks_after setting segment number networks skipped (later seconds s)
        ≡ later seconds (networks_after setting segment number networks skipped s)
    unfolding networks_after
    networks-later segment number [] skipped s = refl
    networks-later segment number (network ∷ networks) (suc skipped) s =
        networks-later segment (number + 1) networks skipped s
    networks-later segment number (network ∷ networks) zero s =
        turn-later network segment number
        (networks_after setting segment (number + 1) networks) s
        (λ skipped s. networks-later segment (number + 1) networks skipped s)

  some-later : (setting : Setting) (segment : ℕ) (found : Option Subroutine) (s : SolveState)
      → ((number : ℕ) (s : SolveState)
      → setting.calls number (later seconds s) ≡ option_map (later seconds) (setting.calls number s))
      → option_map (λ (called : Subroutine). networks_after setting segment called.first
      called.networks 0 (later seconds s)) found
      ≡ option_map (later seconds) (option_map (λ (called : Subroutine). networks_after setting
      segment called.first called.networks 0 s) found)
  some-later setting segment None s calls = refl
  some-later setting segment (Some called) s calls =
      ap Some (networks-later setting calls segment called.first called.networks 0 s)

  calls-later : (depth : ℕ) (segments : List Segment) (number : ℕ) (s : SolveState)
      → calls_within depth segments number (later seconds s)
      ≡ option_map (later seconds) (calls_within depth segments number s)
  unfolding calls_within
  calls-later zero segments number s = refl
  calls-later (suc depth) segments number s =
      some-later (setting_of segments (calls_within depth segments)) (length segments)
      (subroutine_of (last_networks segments) number) s (calls-later depth segments)

  pub segment-later : (segments : List Segment) (number : ℕ) (s : SolveState)
      → segment_after segments number (later seconds s)
      ≡ later seconds (segment_after segments number s)
  segment-later segments number s =
      networks-later (setting_within call_depth segments) (calls-later call_depth segments) number 1
      (networks_of segments number) 0 s
