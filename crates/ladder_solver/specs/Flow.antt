-- Where a solve goes on behind an element: skips, returns, calls of subroutines, and the watchdog.
-- A solve goes on with the next place and the next network; or it skips, as a number says; or it
-- returns from its subroutine; or the watchdog has stopped it. Modicon Ladder Logic Block Library
-- User Guide; the watchdog is this project's own.
pub use Rattle.ladder_solver.specs.declared.flow.Flow.{Flow}
pub use Rattle.ladder_solver.specs.declared.flow.Flow.TheVariants.{GoesOn, Skips, Returns, Stopped}
use Rattle.std.specs.Prelude.{ℕ, Bool, true, false, ◌==◌, if◌then◌else◌, Option, Some, None}
use Rattle.plant_types.specs.declared.element.Element.{Element}
use Rattle.plant_types.specs.declared.element.Element.TheVariants.{Open, Closed, Rise, Fall, Coil}
use Rattle.plant_types.specs.declared.element.Element.TheVariants.{Latch, Wire, Timer, Counter}
use Rattle.plant_types.specs.declared.element.Element.TheVariants.{Math, Move, Matrix, Skip, Label}
use Rattle.plant_types.specs.declared.element.Element.TheVariants.{Call, Return, Mstr}
use Rattle.plant_types.specs.declared.power.NodePower.{NodePower}
use Rattle.plant_types.specs.Operands.{operand_number}
use Rattle.std.specs.FinSet.{contains}
use Rattle.relay_ops.specs.declared.ContactKind.TheVariants as contacts
use Rattle.mstr_block.specs.Solve.{block_solved}
use Rattle.plant_types.specs.Power.{no_output, top_output, middle_output}
use Rattle.ladder_solver.specs.State.{BlockPlace, SolveState}
use Rattle.ladder_solver.specs.Element.{one_node, contact_after, coil_after, block_after}
use Rattle.ladder_solver.specs.Element.{counter_after, mstr_after, timing_effect, counting_effect}
use Rattle.ladder_solver.specs.Element.{math_effect, move_effect, matrix_effect}

-- Whether it goes on. This project's own.
abbrev pub is_going : Flow → Bool
is_going GoesOn = true
is_going flow = false

-- What a call of a number makes of a state: the state behind the subroutine, or nothing where
-- there is no such subroutine, or calls are as deep as they can be. This project's own.
abbrev pub Calls : Type 0
Calls = ℕ → SolveState → Option SolveState

-- What the networks of a controller share while they are solved: what calls make of a state, and
-- the numbers of the MSTR blocks by their places. This project's own.
pub record Setting : Type 0 where
  pub calls : Calls
  pub numbers : BlockPlace → ℕ

-- What an element leaves: the power at its output nodes, the state, and where the solve goes on.
-- This project's own.
abbrev pub Left : Type 0
Left = (NodePower × SolveState) × Flow

-- SKP and RET act where they have power; they give none. Modicon Ladder Logic Block Library User
-- Guide.
abbrev pub directed : Bool → Flow → SolveState → Left
directed power flow s = ((no_output, s), (if power then flow else GoesOn))

-- Behind a subroutine its caller goes on, unless no network is left: a skip or a return in the
-- subroutine ends with it. Modicon Ladder Logic Block Library User Guide; the watchdog is this
-- project's own.
abbrev pub flow_behind : SolveState → Flow
flow_behind s = if s.left == 0 then Stopped else GoesOn

-- A call that found its subroutine gives its upper output, one that did not its lower one.
-- Modicon Ladder Logic Block Library User Guide; the lower output is this project's own.
abbrev pub called : Option SolveState → SolveState → Left
called None s = ((middle_output, s), GoesOn)
called (Some behind) s = ((top_output, behind), flow_behind behind)

-- JSR calls where it has power. Modicon Ladder Logic Block Library User Guide.
abbrev pub call_left : Bool → Option SolveState → SolveState → Left
call_left power behind s = if power then called behind s else ((no_output, s), GoesOn)

-- The solve goes on behind each element that doesn't direct it. This project's own.
abbrev pub goes_on : NodePower × SolveState → Left
goes_on done = (done, GoesOn)

-- What an element leaves, from its place and its inputs; all that it reads it reads before it
-- stores. SKP, RET and JSR direct the solve, LAB only names its network, and an MSTR block goes by
-- the number of its place. Modicon Ladder Logic Block Library User Guide; the exact inputs and
-- outputs are this project's own.
abbrev pub solved_element : Setting → Element → BlockPlace → NodePower → SolveState → Left
solved_element setting (Open at) place inputs s =
    goes_on (contact_after contacts.Open at inputs s)
solved_element setting (Closed at) place inputs s =
    goes_on (contact_after contacts.Closed at inputs s)
solved_element setting (Rise at) place inputs s =
    goes_on (contact_after contacts.Rise at inputs s)
solved_element setting (Fall at) place inputs s =
    goes_on (contact_after contacts.Fall at inputs s)
solved_element setting (Coil at) place inputs s = goes_on (coil_after at inputs s)
solved_element setting (Latch at) place inputs s = goes_on (coil_after at inputs s)
solved_element setting Wire place inputs s = goes_on (one_node inputs.top, s)
solved_element setting (Timer unit preset acc) place inputs s =
    goes_on (block_after (timing_effect unit preset acc s.clock inputs s.map) s)
solved_element setting (Counter up preset acc) place inputs s =
    goes_on (counter_after
    (counting_effect up preset acc (contains s.edges place) inputs s.map) place inputs.top s)
solved_element setting (Math op top mid low) place inputs s =
    goes_on (block_after (math_effect op top mid low inputs s.map) s)
solved_element setting (Move op top mid length) place inputs s =
    goes_on (block_after (move_effect op top mid length inputs s.map) s)
solved_element setting (Matrix op top mid length) place inputs s =
    goes_on (block_after (matrix_effect op top mid length inputs s.map) s)
solved_element setting (Skip count) place inputs s =
    directed inputs.top (Skips (operand_number s.map count)) s
solved_element setting (Label number) place inputs s = goes_on (no_output, s)
solved_element setting (Call number) place inputs s =
    call_left inputs.top (setting.calls (operand_number s.map number) s) s
solved_element setting Return place inputs s = directed inputs.top Returns s
solved_element setting (Mstr control area length) place inputs s =
    goes_on (mstr_after (block_solved s.table (setting.numbers place)
    (record { control = control; area = area; room = length }) inputs s.map) s)
