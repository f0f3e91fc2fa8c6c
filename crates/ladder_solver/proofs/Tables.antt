-- What each solve of an MSTR block keeps of the table of blocks, a solve of a segment keeps.
use Rattle.std.proofs.Common.{◌≡◌, ℕ, zero, suc, ◌+◌, ◌-◌, ◌≤◌, ◌<◌, Bool, true, false, ◌==◌, List}
use Rattle.std.proofs.Common.{[], ◌∷◌, Option, Some, None, inl, inr, refl, subst, ◌∙◌, length}
use Rattle.std.proofs.Common.{get_or, is_some, arith}
use Rattle.std.specs.Prelude.{if◌then◌else◌}
use Rattle.std.specs.Option.{option_map}
use Rattle.plant_types.specs.declared.element.Element.{Element}
use Rattle.plant_types.specs.declared.element.Element.TheVariants.{Open, Closed, Rise, Fall, Coil}
use Rattle.plant_types.specs.declared.element.Element.TheVariants.{Latch, Wire, Timer, Counter}
use Rattle.plant_types.specs.declared.element.Element.TheVariants.{Math, Move, Matrix, Skip, Label}
use Rattle.plant_types.specs.declared.element.Element.TheVariants.{Call, Return, Mstr}
use Rattle.plant_types.specs.declared.network.Cell.{Cell}
use Rattle.plant_types.specs.declared.network.Network.{Network}
use Rattle.plant_types.specs.declared.network.Segment.{Segment}
use Rattle.plant_types.specs.declared.network.Short.{Short}
use Rattle.plant_types.specs.declared.power.NodePower.{NodePower}
use Rattle.plant_types.specs.declared.reference.Ref.{Ref}
use Rattle.plant_types.specs.Store.{Contents}
use Rattle.plant_types.specs.Operands.{operand_number}
use Rattle.grid_compile.specs.Cells.{cell_at}
use Rattle.mstr_block.specs.declared.state.Running.{Running}
use Rattle.mstr_block.specs.Table.{BlockTable}
use Rattle.mstr_block.specs.Solve.{block_solved}
use Rattle.mstr_block.specs.Laws.{KeepsCalls, GivesNewNumbers}
use Rattle.ladder_solver.specs.State.{BlockPlace, SolveState}
use Rattle.ladder_solver.specs.Flow.{Flow, GoesOn, Skips, Returns, Stopped, Setting, called}
use Rattle.ladder_solver.specs.Flow.{call_left, solved_element}
use Rattle.ladder_solver.specs.Network.{Power, Site, element_at, while_going, solved_at, rows_after}
use Rattle.ladder_solver.specs.Network.{columns_after, network_after}
use Rattle.ladder_solver.specs.Segment.{rest_behind, network_turn, networks_after, setting_of}
use Rattle.ladder_solver.specs.Segment.{calls_within, setting_within, call_depth, last_networks}
use Rattle.ladder_solver.specs.Segment.{segment_after}
use Rattle.ladder_solver.specs.Numbers.{networks_of}
use Rattle.ladder_solver.specs.Subroutine.{Subroutine, subroutine_of}

-- a relation of the tables before and behind a solve that is kept by each block's solve
module _ (Such : BlockTable → BlockTable → Type 0) (same : (t : BlockTable) → Such t t)
    (onward : (a b c : BlockTable) → Such a b → Such b c → Such a c)
    (block : (table : BlockTable) (number : ℕ) (control area : Ref) (room : ℕ) (inputs : NodePower)
    (m : Contents)
    → Such table (block_solved table number (record { control = control; area = area; room = room })
    inputs m).table) where
  module _ (setting : Setting) (calls : (number : ℕ) (s after : SolveState)
      → setting.calls number s ≡ Some after → Such s.table after.table) where
    called-keeps : (number : ℕ) (s : SolveState) (behind : Option SolveState)
        → setting.calls number s ≡ behind → Such s.table (called behind s).0.1.table
    called-keeps number s None is = same s.table
    called-keeps number s (Some after) is = calls number s after is

    call-keeps : (power : Bool) (number : ℕ) (s : SolveState)
        → Such s.table (call_left power (setting.calls number s) s).0.1.table
    call-keeps true number s = called-keeps number s (setting.calls number s) refl
    call-keeps false number s = same s.table

    element-keeps : (element : Element) (place : BlockPlace) (inputs : NodePower) (s : SolveState)
        → Such s.table (solved_element setting element place inputs s).0.1.table
    element-keeps (Open at) place inputs s = same s.table
    element-keeps (Closed at) place inputs s = same s.table
    element-keeps (Rise at) place inputs s = same s.table
    element-keeps (Fall at) place inputs s = same s.table
    element-keeps (Coil at) place inputs s = same s.table
    element-keeps (Latch at) place inputs s = same s.table
    element-keeps Wire place inputs s = same s.table
    element-keeps (Timer unit preset acc) place inputs s = same s.table
    element-keeps (Counter up preset acc) place inputs s = same s.table
    element-keeps (Math op top mid low) place inputs s = same s.table
    element-keeps (Move op top mid length) place inputs s = same s.table
    element-keeps (Matrix op top mid length) place inputs s = same s.table
    element-keeps (Skip count) place inputs s = same s.table
    element-keeps (Label number) place inputs s = same s.table
    element-keeps (Call number) place inputs s = call-keeps inputs.top
        (operand_number s.map number) s
    element-keeps Return place inputs s = same s.table
    element-keeps (Mstr control area length) place inputs s = block s.table
        (setting.numbers place) control area length inputs s.map

    going-keeps : (flow : Flow) (next p : Power) → Such p.state.table next.state.table
        → Such p.state.table (while_going flow next p).state.table
    going-keeps GoesOn next p h = h
    going-keeps (Skips count) next p h = same p.state.table
    going-keeps Returns next p h = same p.state.table
    going-keeps Stopped next p h = same p.state.table

    cell-keeps : (shorts : List Short) (site : Site) (column row : ℕ)
        (found : Option Cell) (p : Power)
        → Such p.state.table (solved_at setting shorts site column row found p).state.table
    cell-keeps shorts site column row None p = same p.state.table
    cell-keeps shorts site column row (Some cell) p =
        going-keeps p.flow (element_at setting shorts site column row cell.element p) p
        (element-keeps cell.element _ _ p.state)

    rows-keep : (network : Network) (site : Site) (column row count : ℕ) (p : Power)
        → Such p.state.table (rows_after setting network site column row count p).state.table
    unfolding rows_after
    rows-keep network site column row zero p = same p.state.table
    rows-keep network site column row (suc count) p =
        let q = solved_at setting network.shorts site column row
        (cell_at network.cells column row) p in
        onward p.state.table q.state.table _
        (cell-keeps network.shorts site column row (cell_at network.cells column row) p)
        (rows-keep network site column (row + 1) count q)

    columns-keep : (network : Network) (site : Site) (column count : ℕ) (p : Power)
        → Such p.state.table (columns_after setting network site column count p).state.table
    unfolding columns_after
    columns-keep network site column zero p = same p.state.table
    columns-keep network site column (suc count) p =
        let q = rows_after setting network site column 1 7 p in
        onward p.state.table q.state.table _ (rows-keep network site column 1 7 p)
        (columns-keep network site (column + 1) count q)

    rest-keeps : (flow : Flow) (rest : ℕ → SolveState → SolveState) (s : SolveState)
        → ((skipped : ℕ) (s : SolveState) → Such s.table (rest skipped s).table)
        → Such s.table (rest_behind flow rest s).table
    rest-keeps GoesOn rest s keeps = keeps 0 s
    rest-keeps (Skips zero) rest s keeps = same s.table
    rest-keeps (Skips (suc more)) rest s keeps = keeps more s
    rest-keeps Returns rest s keeps = same s.table
    rest-keeps Stopped rest s keeps = same s.table

    begun-keeps : (b : Bool) (t : BlockTable) (begun after : SolveState) → Such t begun.table
        → Such t after.table → Such t (if b then begun else after).table
    begun-keeps true t begun after one other = one
    begun-keeps false t begun after one other = other

    turn-keeps : (network : Network) (site : Site) (rest : ℕ → SolveState
        → SolveState) (s : SolveState)
        → ((skipped : ℕ) (s : SolveState) → Such s.table (rest skipped s).table)
        → Such s.table (network_turn setting network site rest s).table
    turn-keeps network site rest s keeps =
        let begun = record s { left = s.left - 1 } in
        let done = network_after setting network site begun in
        begun-keeps (begun.left == 0) s.table begun (rest_behind done.1 rest done.0) (same s.table)
        (onward s.table done.0.table _
        (columns-keep network site 1 11 (record { state = begun; on = []; flow = GoesOn }))
        (rest-keeps done.1 rest done.0 keeps))

    networks-keep : (segment number : ℕ) (networks : List Network) (skipped : ℕ) (s : SolveState)
        → Such s.table (networks_after setting segment number networks skipped s).table
    unfolding networks_after
    networks-keep segment number [] skipped s = same s.table
    networks-keep segment number (network ∷ networks) (suc skipped) s = networks-keep segment
        (number + 1) networks skipped s
    networks-keep segment number (network ∷ networks) zero s =
        turn-keeps network (record { segment = segment; network = number })
        (networks_after setting segment (number + 1) networks) s
        (λ skipped s. networks-keep segment (number + 1) networks skipped s)

  some-keeps : (setting : Setting) (segment : ℕ) (found : Option Subroutine) (s after : SolveState)
      → ((number : ℕ) (s after : SolveState) → setting.calls number s ≡ Some after
      → Such s.table after.table)
      → option_map (λ (called : Subroutine). networks_after setting segment called.first
      called.networks 0 s) found ≡ Some after → Such s.table after.table
  some-keeps setting segment None s after calls is = absurd (cc)
  some-keeps setting segment (Some called) s after calls is =
      let e : networks_after setting segment called.first called.networks 0 s ≡ after = cc in
      subst (λ (q : SolveState). Such s.table q.table) e
      (networks-keep setting calls segment called.first called.networks 0 s)

  calls-keep : (depth : ℕ) (segments : List Segment) (number : ℕ) (s after : SolveState)
      → calls_within depth segments number s ≡ Some after
      → Such s.table after.table
  unfolding calls_within
  calls-keep zero segments number s after is = absurd (cc)
  calls-keep (suc depth) segments number s after is =
      some-keeps (setting_of segments (calls_within depth segments)) (length segments)
      (subroutine_of (last_networks segments) number) s after
      (calls-keep depth segments) is

  pub segment-keeps : (segments : List Segment) (number : ℕ) (s : SolveState)
      → Such s.table (segment_after segments number s).table
  segment-keeps segments number s =
      networks-keep (setting_within call_depth segments) (calls-keep call_depth segments) number 1
      (networks_of segments number) 0 s

pub calls-same : (t : BlockTable) → KeepsCalls t t
calls-same t = record {
  node = refl;
  routed = refl;
  count = refl;
  started = λ h. h;
  out = λ id h. h;
}

pub calls-then : (a b c : BlockTable) → KeepsCalls a b → KeepsCalls b c → KeepsCalls a c
calls-then a b c one other = record {
  node = other.node ∙ one.node;
  routed = other.routed ∙ one.routed;
  count = other.count ∙ one.count;
  started = λ h. other.started (one.started h);
  out = λ id h. other.out id (one.out id h);
}

pub numbers-same : (t : BlockTable) → GivesNewNumbers t t
numbers-same t = record { rises = λ path. omega arith; new = λ place running h. inl h }

-- a number above all of the table between is above all of the first
number_above : (a b : BlockTable) (running : Running)
    → get_or a.numbers running.id.path 0 ≤ get_or b.numbers running.id.path 0
    → (get_or b.numbers running.id.path 0 < running.id.seq) × (is_some running.ask ≡ true)
    → (get_or a.numbers running.id.path 0 < running.id.seq) × (is_some running.ask ≡ true)
number_above a b running rises h = (omega (arith, rises, h.0), h.1)

pub numbers-then : (a b c : BlockTable) → GivesNewNumbers a b → GivesNewNumbers b c
    → GivesNewNumbers a c
numbers-then a b c one other = record {
  rises = λ path. omega (arith, one.rises path, other.rises path);
  new = λ place running h. elim (other.new place running h) [
    | inl was ↦ one.new place running was
    | inr new ↦ inr (number_above a b running (one.rises running.id.path) new)
  ];
}
