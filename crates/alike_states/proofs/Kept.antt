-- What each element keeps that fits its place, the solve of a segment keeps.
use Rattle.std.proofs.Common.{◌≡◌, ℕ, zero, suc, ◌+◌, ◌-◌, ◌≤◌, Bool, true, false, ◌==◌, List, []}
use Rattle.std.proofs.Common.{◌∷◌, Option, Some, None, refl, subst, length, arith, take}
use Rattle.std.specs.Prelude.{if◌then◌else◌, slice_get}
use Rattle.std.specs.List.{before_first, position_or_len}
use Rattle.std.specs.Option.{option_map}
use Rattle.plant_types.specs.declared.element.Element.{Element}
use Rattle.plant_types.specs.declared.element.Element.TheVariants.{Call}
use Rattle.plant_types.specs.declared.network.Cell.{Cell}
use Rattle.plant_types.specs.declared.network.Network.{Network}
use Rattle.plant_types.specs.declared.network.Segment.{Segment}
use Rattle.plant_types.specs.declared.network.Short.{Short}
use Rattle.plant_types.specs.declared.power.NodePower.{NodePower}
use Rattle.plant_types.specs.Operands.{operand_number}
use Rattle.grid_compile.specs.Cells.{cell_at}
use Rattle.ladder_solver.specs.declared.places.BlockPlace.{BlockPlace}
use Rattle.ladder_solver.specs.State.{SolveState}
use Rattle.ladder_solver.specs.Flow.{Setting, called, call_left, solved_element}
use Rattle.ladder_solver.specs.Network.{Power, element_at, while_going, solved_at, rows_after}
use Rattle.ladder_solver.specs.Network.{columns_after, place_in}
use Rattle.ladder_solver.specs.Segment.{rest_behind, network_turn, networks_after, setting_of}
use Rattle.ladder_solver.specs.Segment.{calls_within, setting_within, call_depth, last_networks}
use Rattle.ladder_solver.specs.Segment.{segment_after}
use Rattle.ladder_solver.specs.Numbers.{networks_of}
use Rattle.ladder_solver.specs.Subroutine.{Subroutine, subroutine_of, subroutine_from, is_labelled}
use Rattle.ladder_solver.specs.Subroutine.{has_label_number}
use Rattle.alike_states.proofs.Hours.{start_of}

-- an element calls a subroutine
abbrev pub is_call : Element → Bool
is_call (Call number) = true
is_call element = false

-- what is taken of a list stands where it stood
taken-get : {X : Type 0} (n : ℕ) (xs : List X) (i : ℕ) (x : X) → slice_get (take n xs) i ≡ Some x
    → slice_get xs i ≡ Some x
taken-get zero xs i x is = absurd (let no' : None ≡ Some x = is in cc)
taken-get (suc n) [] i x is = is
taken-get (suc n) (y ∷ xs) zero x is = is
taken-get (suc n) (y ∷ xs) (suc i) x is = taken-get n xs i x is

module _ (Fits : BlockPlace → Element → Type 0) where
  -- each cell of a network fits its place
  abbrev pub StandsAt : ℕ → ℕ → Network → Type 0
  StandsAt segment number network =
      (column row : ℕ) (cell : Cell) → 1 ≤ column → column ≤ 11 → 1 ≤ row → row ≤ 7
      → cell_at network.cells column row ≡ Some cell
      → Fits (place_in (record { segment = segment; network = number }) column row) cell.element

  -- so does each of networks from a number on of a segment
  abbrev pub Stand : ℕ → ℕ → List Network → Type 0
  Stand segment number networks =
      (i : ℕ) (network : Network) → slice_get networks i ≡ Some network
      → StandsAt segment (number + i) network

  stand-rest : (segment number : ℕ) (network : Network) (networks : List Network)
      → Stand segment number (network ∷ networks) → Stand segment (number + 1) networks
  stand-rest segment number network networks stand i other is =
      let e : number + suc i ≡ number + 1 + i = omega arith in
      subst (λ n. StandsAt segment n other) e (stand (suc i) other is)

  stand-first : (segment number : ℕ) (network : Network) (networks : List Network)
      → Stand segment number (network ∷ networks) → StandsAt segment number network
  stand-first segment number network networks stand =
      let e : number + 0 ≡ number = omega arith in
      subst (λ n. StandsAt segment n network) e (stand 0 network refl)

  -- a subroutine stands where its networks stand
  found-stands : (segment number : ℕ) (network : Network) (networks : List Network)
      → Stand segment number (network ∷ networks)
      → Stand segment number (network ∷ before_first is_labelled networks)
  found-stands segment number network networks stand zero other is = stand zero other is
  found-stands segment number network networks stand (suc i) other is =
      stand (suc i) other (taken-get (position_or_len is_labelled networks) networks i other is)

  subroutine-by : (segment label number : ℕ) (network : Network) (networks : List Network)
      (found : Subroutine) (b : Bool) → Stand segment number (network ∷ networks)
      → (subroutine_from label (number + 1) networks ≡ Some found
      → Stand segment found.first found.networks)
      → (if b then Some (record {
        first = number;
        networks = network ∷ before_first is_labelled networks;
      }) else subroutine_from label (number + 1) networks) ≡ Some found
      → Stand segment found.first found.networks
  subroutine-by segment label number network networks found true stand rest is =
      let e : record { first = number; networks = network ∷ before_first is_labelled networks }
      ≡ found = cc in
      subst (λ (f : Subroutine). Stand segment f.first f.networks) e
      (found-stands segment number network networks stand)
  subroutine-by segment label number network networks found false stand rest is = rest is

  subroutine-stands : (segment label number : ℕ) (networks : List Network) (found : Subroutine)
      → Stand segment number networks → subroutine_from label number networks ≡ Some found
      → Stand segment found.first found.networks
  unfolding subroutine_from
  subroutine-stands segment label number [] found stand is =
      absurd (let no' : None ≡ Some found = is in cc)
  subroutine-stands segment label number (network ∷ networks) found stand is =
      subroutine-by segment label number network networks found (has_label_number label network)
      stand (subroutine-stands segment label (number + 1) networks found
      (stand-rest segment number network networks stand)) is

  -- a relation of the states before and behind a solve that each element keeps that fits its place
  module _ (Such : SolveState → SolveState → Type 0) (same : (s : SolveState) → Such s s)
      (onward : (a b c : SolveState) → Such a b → Such b c → Such a c)
      (begins : (s : SolveState) → Such s (record s { left = s.left - 1 }))
      (plain : (setting : Setting) (element : Element) (place : BlockPlace) (inputs : NodePower)
      (s : SolveState) → Fits place element → is_call element ≡ false
      → Such s (solved_element setting element place inputs s).0.1) where
    module _ (setting : Setting) (calls : (number : ℕ) (s after : SolveState)
        → setting.calls number s ≡ Some after → Such s after) where
      called-keeps : (number : ℕ) (s : SolveState) (behind : Option SolveState)
          → setting.calls number s ≡ behind → Such s (called behind s).0.1
      called-keeps number s None is = same s
      called-keeps number s (Some after) is = calls number s after is

      call-keeps : (power : Bool) (number : ℕ) (s : SolveState)
          → Such s (call_left power (setting.calls number s) s).0.1
      call-keeps true number s = called-keeps number s (setting.calls number s) refl
      call-keeps false number s = same s

      element-by : (element : Element) (b : Bool) → is_call element ≡ b → (place : BlockPlace)
          (inputs : NodePower) (s : SolveState) → Fits place element
          → Such s (solved_element setting element place inputs s).0.1
      element-by (Call number) b is place inputs s fits =
          call-keeps inputs.top (operand_number s.map number) s
      element-by element false is place inputs s fits =
          plain setting element place inputs s fits is
      element-by element true is place inputs s fits =
          absurd (let no' : false ≡ true = is in cc)

      going-keeps : (p next : Power) → Such p.state next.state
          → Such p.state (while_going p.flow next p).state
      going-keeps p next h = grind (arith, h, same)

      rest-keeps : (p : Power) (rest : ℕ → SolveState → SolveState)
          → ((skipped : ℕ) (s : SolveState) → Such s (rest skipped s))
          → Such p.state (rest_behind p.flow rest p.state)
      rest-keeps p rest keeps = grind (arith, keeps, same)

      cell-keeps : (shorts : List Short) (segment number column row : ℕ) (found : Option Cell)
          (p : Power)
          → ((cell : Cell) → found ≡ Some cell
          → Fits (place_in (record { segment = segment; network = number }) column row)
          cell.element)
          → Such p.state (solved_at setting shorts (record { segment = segment; network = number })
          column row found p).state
      cell-keeps shorts segment number column row None p stands = same p.state
      cell-keeps shorts segment number column row (Some cell) p stands =
          going-keeps p (element_at setting shorts
          (record { segment = segment; network = number }) column row cell.element p)
          (element-by cell.element (is_call cell.element) refl _ _ p.state (stands cell refl))

      rows-keep : (network : Network) (segment number : ℕ) → StandsAt segment number network
          → (column row count : ℕ) (p : Power) → 1 ≤ column → column ≤ 11 → 1 ≤ row
          → row + count ≤ 8
          → Such p.state (rows_after setting network
          (record { segment = segment; network = number }) column row count p).state
      unfolding rows_after
      rows-keep network segment number stands column row zero p left right top bottom = same p.state
      rows-keep network segment number stands column row (suc count) p left right top bottom =
          let q = solved_at setting network.shorts (record { segment = segment; network = number })
          column row (cell_at network.cells column row) p in
          onward p.state q.state _
          (cell-keeps network.shorts segment number column row (cell_at network.cells column row) p
          (λ cell is. stands column row cell left right top (omega (arith, bottom)) is))
          (rows-keep network segment number stands column (row + 1) count q left right
          (omega (arith, top)) (omega (arith, bottom)))

      columns-keep : (network : Network) (segment number : ℕ) → StandsAt segment number network
          → (column count : ℕ) (p : Power) → 1 ≤ column → column + count ≤ 12
          → Such p.state (columns_after setting network
          (record { segment = segment; network = number }) column count p).state
      unfolding columns_after
      columns-keep network segment number stands column zero p left right = same p.state
      columns-keep network segment number stands column (suc count) p left right =
          let q = rows_after setting network (record { segment = segment; network = number })
          column 1 7 p in
          onward p.state q.state _
          (rows-keep network segment number stands column 1 7 p left (omega (arith, right))
          (omega arith) (omega arith))
          (columns-keep network segment number stands (column + 1) count q (omega (arith, left))
          (omega (arith, right)))

      begun-keeps : (b : Bool) (s begun after : SolveState) → Such s begun → Such s after
          → Such s (if b then begun else after)
      begun-keeps true s begun after one other = one
      begun-keeps false s begun after one other = other

      turn-keeps : (network : Network) (segment number : ℕ) → StandsAt segment number network
          → (rest : ℕ → SolveState → SolveState) (s : SolveState)
          → ((skipped : ℕ) (s : SolveState) → Such s (rest skipped s))
          → Such s (network_turn setting network (record { segment = segment; network = number })
          rest s)
      turn-keeps network segment number stands rest s keeps =
          let begun = record s { left = s.left - 1 } in
          let p : Power = columns_after setting network
          (record { segment = segment; network = number }) 1 11 (start_of begun) in
          begun-keeps (begun.left == 0) s begun (rest_behind p.flow rest p.state) (begins s)
          (onward s begun _ (begins s) (onward begun p.state _
          (columns-keep network segment number stands 1 11 (start_of begun) (omega arith)
          (omega arith))
          (rest-keeps p rest keeps)))

      networks-keep : (segment number : ℕ) (networks : List Network)
          → Stand segment number networks → (skipped : ℕ) (s : SolveState)
          → Such s (networks_after setting segment number networks skipped s)
      unfolding networks_after
      networks-keep segment number [] stand skipped s = same s
      networks-keep segment number (network ∷ networks) stand (suc skipped) s =
          networks-keep segment (number + 1) networks
          (stand-rest segment number network networks stand) skipped s
      networks-keep segment number (network ∷ networks) stand zero s =
          turn-keeps network segment number (stand-first segment number network networks stand)
          (networks_after setting segment (number + 1) networks) s
          (λ skipped s. networks-keep segment (number + 1) networks
          (stand-rest segment number network networks stand) skipped s)

    some-keeps : (setting : Setting) (segment : ℕ) (found : Option Subroutine)
        (s after : SolveState)
        → ((number : ℕ) (s after : SolveState) → setting.calls number s ≡ Some after
        → Such s after)
        → ((called : Subroutine) → found ≡ Some called
        → Stand segment called.first called.networks)
        → option_map (λ (called : Subroutine). networks_after setting segment called.first
        called.networks 0 s) found ≡ Some after → Such s after
    some-keeps setting segment None s after calls stand is = absurd (cc)
    some-keeps setting segment (Some called) s after calls stand is =
        let e : networks_after setting segment called.first called.networks 0 s ≡ after = cc in
        subst (Such s) e
        (networks-keep setting calls segment called.first called.networks (stand called refl) 0 s)

    module _ (segments : List Segment)
        (stand : (number : ℕ) → 1 ≤ number → Stand number 1 (networks_of segments number)) where
      -- a plan with a subroutine has a last segment
      some-segment : (segments' : List Segment) (label : ℕ) (found : Subroutine)
          → subroutine_of (last_networks segments') label ≡ Some found → 1 ≤ length segments'
      unfolding subroutine_from
      some-segment [] label found is = absurd (let no' : None ≡ Some found = is in cc)
      some-segment (segment ∷ segments') label found is = omega arith

      calls-keep : (depth number : ℕ) (s after : SolveState)
          → calls_within depth segments number s ≡ Some after → Such s after
      unfolding calls_within
      calls-keep zero number s after is = absurd (cc)
      calls-keep (suc depth) number s after is =
          some-keeps (setting_of segments (calls_within depth segments)) (length segments)
          (subroutine_of (last_networks segments) number) s after (calls-keep depth)
          (λ called found. subroutine-stands (length segments) number 1
          (last_networks segments) called
          (stand (length segments) (some-segment segments number called found)) found)
          is

      pub segment-keeps : (number : ℕ) (s : SolveState) → 1 ≤ number
          → Such s (segment_after segments number s)
      segment-keeps number s from =
          networks-keep (setting_within call_depth segments) (calls-keep call_depth) number 1
          (networks_of segments number) (stand number from) 0 s
