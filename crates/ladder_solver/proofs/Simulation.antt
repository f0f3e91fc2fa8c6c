-- What each step leaves of the agreement between flags and definitions.
use Rattle.std.proofs.Common.{◌≡◌, ◌≢◌, ℕ, ◌+◌, ◌-◌, ◌<◌, ◌≤◌, zero, suc, get_or, set, Bool, true}
use Rattle.std.proofs.Common.{false, ◌&&◌, ◌||◌, ◌==◌, List, ◌∷◌, refl, ◌∙◌, sym, ap, subst, length}
use Rattle.std.proofs.Common.{◌⊎◌, inl, inr, arith, get_or-set_same, get_or-set_other}
use Rattle.std.proofs.Common.{Option, Some}
use Rattle.std.specs.Prelude.{if◌then◌else◌, bit_or, IfSome}
use Rattle.std.proofs.lemmas.Bool.Decides.{nat_tests}
use Rattle.ladder_solver.specs.declared.layout.Spot.{Spot}
use Rattle.grid_compile.proofs.MaskLemmas.{row_on-past}
use Rattle.plant_types.specs.declared.network.Short.{Short}
use Rattle.plant_types.specs.declared.power.NodePower.{NodePower}
use Rattle.plant_types.specs.Network.{is_row}
use Rattle.ladder_solver.specs.State.{SolveState}
use Rattle.ladder_solver.specs.declared.flow.Solved.{Solved}
use Rattle.ladder_solver.specs.declared.scan.Scan.{Scan}
use Rattle.plant_types.specs.Store.{Contents}
use Rattle.ladder_solver.specs.Element.{one_node}
use Rattle.ladder_solver.specs.Flow.{Flow, GoesOn, Setting, Left, solved_element}
use Rattle.ladder_solver.specs.Network.{Power, Place, Site, is_live, is_fed, inputs_at, place_in}
use Rattle.ladder_solver.specs.Network.{with_output, with_outputs, element_at}
use Rattle.grid_compile.specs.Cells.{marks_of}
use Rattle.ladder_solver.specs.Rows.{flag_of, flags_at, reaches_of, three_from, fed_rows}
use Rattle.ladder_solver.specs.Rows.{rows_fed, output_reaches, FeedsAll}
use Rattle.grid_compile.specs.Masks.{are_linked}
use Rattle.ladder_solver.specs.Agreement.{AgreesPower, AgreesSolved, RelayLeaves, solving}
use Rattle.ladder_solver.proofs.Spread.{are_linked-joined, fed_rows-feeds, fed_rows-small}

-- a column is itself
same_column : (a : ℕ) → (a == a) ≡ true
same_column a = grind (arith, nat_tests)

-- an output that counts stands in the seven rows
last_row : (row : ℕ) (output : Bool) → output && is_row row ≡ true → row ≤ 7
last_row row true h = grind (arith, nat_tests)
last_row row false h = absurd (Rattle.std.proofs.Common.true≢false (sym h))

-- an output is live at the right border of its own column, in the rows that it reaches
live_place : (shorts : List Short) (on : List Place) (column row r : ℕ) (b : Bool) → 1 ≤ row
    → (b ≡ true → row ≤ 7) → 1 ≤ r → r ≤ 7
    → is_live shorts (if b then record { column = column; row = row } ∷ on else on) column r
    ≡ (b && are_linked (marks_of shorts column) row r)
    || is_live shorts on column r
live_place shorts on column row r false low high from to = refl
live_place shorts on column row r true low high from to =
    rw (same_column column, are_linked-joined shorts column row r low (high refl) from to) refl

-- the same of an output that counts in the seven rows alone
live_output : (shorts : List Short) (on : List Place) (column row r : ℕ) (output : Bool) → 1 ≤ row
    → 1 ≤ r → r ≤ 7
    → is_live shorts (with_output output column row on) column r
    ≡ output_reaches output (marks_of shorts column) row r || is_live shorts on column r
live_output shorts on column row r output low from to =
    live_place shorts on column row r (output && is_row row) low (last_row row output) from to

-- the same of three outputs
live_outputs : (shorts : List Short) (on : List Place) (column row r : ℕ) (outputs : NodePower)
    → 1 ≤ row
    → 1 ≤ r → r ≤ 7
    → is_live shorts (with_outputs outputs column row on) column r
    ≡ output_reaches outputs.bottom (marks_of shorts column) (row + 2) r
    || (output_reaches outputs.middle (marks_of shorts column) (row + 1) r
    || (output_reaches outputs.top (marks_of shorts column)
    row r || is_live shorts on column r))
live_outputs shorts on column row r outputs low from to =
    let top = with_output outputs.top column row on in
    let middle = with_output outputs.middle column (row + 1) top in
    live_output shorts middle column (row + 2) r outputs.bottom (omega arith) from to
    ∙ ap (λ b. output_reaches outputs.bottom (marks_of shorts column) (row + 2) r || b)
    (live_output shorts top column (row + 1) r outputs.middle (omega arith) from to
    ∙ ap (λ b. output_reaches outputs.middle (marks_of shorts column) (row + 1) r || b)
    (live_output shorts on column row r outputs.top low from to))

-- and nowhere else
elsewhere_place : (shorts : List Short) (on : List Place) (c column row r : ℕ) (b : Bool)
    → (column == c) ≡ false
    → is_live shorts (if b then record { column = column; row = row } ∷ on else on) c r
    ≡ is_live shorts on c r
elsewhere_place shorts on c column row r false apart = refl
elsewhere_place shorts on c column row r true apart = rw apart refl

-- three outputs leave the other columns
elsewhere : (shorts : List Short) (on : List Place) (c column row r : ℕ) (outputs : NodePower)
    → (column == c) ≡ false
    → is_live shorts (with_outputs outputs column row on) c r ≡ is_live shorts on c r
elsewhere shorts on c column row r outputs apart =
    let top = with_output outputs.top column row on in
    let middle = with_output outputs.middle column (row + 1) top in
    elsewhere_place shorts middle c column (row + 2) r (outputs.bottom && is_row (row + 2)) apart
    ∙ elsewhere_place shorts top c column (row + 1) r (outputs.middle && is_row (row + 1)) apart
    ∙ elsewhere_place shorts on c column row r (outputs.top && is_row row) apart

-- a row of the seven, or below them
rows_or : (r : ℕ) → (r ≤ 7) ⊎ (7 < r)
rows_or r = grind arith

-- by the test of a row
in_rows : (r : ℕ) → 1 ≤ r → ((r ≤ 7) × (is_row r ≡ true)) ⊎ ((7 < r) × (is_row r ≡ false))
in_rows r h = elim (rows_or r) [
  | inl low ↦ inl (low, grind (arith, nat_tests))
  | inr past ↦ inr (past, grind (arith, nat_tests))
]

-- a row is fed as its flag says, none below the seventh
fed_row : (r : ℕ) (x : Bool) (mask : ℕ) → mask < 128 → 1 ≤ r → (r ≤ 7 → x ≡ flag_of mask r)
    → is_row r && x ≡ flag_of mask r
fed_row r x mask small low within =
    elim (in_rows r low) [
      | inl (high, here) ↦ rw here (within high)
      | inr (past, gone) ↦ rw gone (sym (row_on-past mask r small past))
    ]

-- each row of seven
all_on : (r : ℕ) → 1 ≤ r → r ≤ 7 → true ≡ flag_of 127 r
all_on zero low high = absurd (omega arith)
all_on (suc zero) low high = refl
all_on (suc (suc zero)) low high = refl
all_on (suc (suc (suc zero))) low high = refl
all_on (suc (suc (suc (suc zero)))) low high = refl
all_on (suc (suc (suc (suc (suc zero))))) low high = refl
all_on (suc (suc (suc (suc (suc (suc zero)))))) low high = refl
all_on (suc (suc (suc (suc (suc (suc (suc zero))))))) low high = refl
all_on (suc (suc (suc (suc (suc (suc (suc (suc r)))))))) low high = absurd (omega arith)

-- two numbers are one, or differ
same_or_other : (a b : ℕ) → (a ≡ b) ⊎ ((a ≢ b) × ((b == a) ≡ false))
same_or_other a b = elim (three_ways a b) [
  | inl e ↦ inl e
  | inr (inl more) ↦ inr (λ e. omega arith, grind (arith, nat_tests))
  | inr (inr less) ↦ inr (λ e. omega arith, grind (arith, nat_tests))
]
  where
    three_ways : (k n : ℕ) → (k ≡ n) ⊎ ((n < k) ⊎ (k < n))
    three_ways k n = grind arith

-- the outputs of a block
AgreesPower-outputs : (shorts : List Short) (column row : ℕ) (live : List ℕ) (next : ℕ) (p : Power)
    (outputs : NodePower) (s : SolveState) (flow : Flow)
    → 1 ≤ column → column < length live → 1 ≤ row → next < 128
    → AgreesPower shorts live p
    → FeedsAll outputs (marks_of shorts column) row (get_or live column 0) next
    → AgreesPower shorts (set live column next)
    (record { state = s; on = with_outputs outputs column row p.on; flow = flow })
AgreesPower-outputs shorts column row live next p outputs s flow first within low small h feeds =
    record {
      start = get_or-set_other live column 0 next 0 (λ e. omega arith) ∙ h.start;
      small = λ c. elim (same_or_other c column) [
        | inl e ↦ subst (λ n. n < 128) (sym (ap (λ k. get_or (set live column next) k 0) e
            ∙ get_or-set_same live column next 0 within)) small
        | inr other ↦
            subst (λ n. n < 128) (sym (get_or-set_other live column c next 0 other.0)) (h.small c)
      ];
      live = λ c r one from to. elim (same_or_other c column) [
        | inl e ↦
            ap (λ k. is_live shorts (with_outputs outputs column row p.on) k r) e
            ∙ live_outputs shorts p.on column row r outputs low from to
            ∙ ap (λ x. output_reaches outputs.bottom (marks_of shorts column) (row + 2) r
            || (output_reaches outputs.middle (marks_of shorts column) (row + 1) r
            || (output_reaches outputs.top (marks_of shorts column) row r || x)))
            (h.live column r first from to)
            ∙ sym (feeds r from to)
            ∙ ap (λ n. flag_of n r) (sym (ap (λ k. get_or (set live column next) k 0) e
            ∙ get_or-set_same live column next 0 within))
        | inr other ↦
            elsewhere shorts p.on c column row r outputs other.1 ∙ h.live c r one from to
            ∙ ap (λ n. flag_of n r) (sym (get_or-set_other live column c next 0 other.0))
      ];
    }

-- at the left border of column 1 each row is live, at any other border as the mask says
fed_at : (shorts : List Short) (column r : ℕ) (live : List ℕ) (p : Power) → 1 ≤ column → 1 ≤ r
    → r ≤ 7 → AgreesPower shorts live p
    → (column == 1) || is_live shorts p.on (column - 1) r ≡ flag_of (get_or live (column - 1) 0) r
fed_at shorts column r live p first low high h = elim (same_or_other column 1) [
  | inl e ↦
      let yes : (column == 1) ≡ true = grind (arith, nat_tests) in
      let back : column - 1 ≡ 0 = omega arith in
      rw yes (all_on r low high
      ∙ ap (λ n. flag_of n r) (sym (ap (λ k. get_or live k 0) back ∙ h.start)))
  | inr other ↦
      let no : (column == 1) ≡ false = grind (arith, nat_tests, other.0) in
      let more : 1 ≤ column - 1 = one_less column first other.0 in
      rw no (h.live (column - 1) r more low high)
]
  where
    one_less : (n : ℕ) → 1 ≤ n → n ≢ 1 → 1 ≤ n - 1
    one_less zero low other = absurd (omega arith)
    one_less (suc zero) low other = absurd (other refl)
    one_less (suc (suc n)) low other = omega arith

-- the inputs of a block are the flags of its rows
pub inputs_at-flags : (shorts : List Short) (column row : ℕ) (live : List ℕ) (p : Power)
    → 1 ≤ column → 1 ≤ row
    → AgreesPower shorts live p
    → inputs_at shorts p.on column row ≡ flags_at (get_or live (column - 1) 0) row
inputs_at-flags shorts column row live p first low h =
    let fed : (r : ℕ) → 1 ≤ r
    → is_fed shorts p.on column r ≡ flag_of (get_or live (column - 1) 0) r =
    λ r a. fed_row r _ (get_or live (column - 1) 0) (h.small (column - 1)) a
    (λ b. fed_at shorts column r live p first a b h) in
    λ i. record {
      top = fed row low i;
      middle = fed (row + 1) (omega arith) i;
      bottom = fed (row + 2) (omega arith) i;
    }

-- a whole cell
pub spot-done : (setting : Setting) (spot : Spot) (site : Site) (live : List ℕ) (next : ℕ)
    (s after : SolveState) (solved : Solved)
    → 1 ≤ spot.column → spot.column < length live → 1 ≤ spot.row → spot.row ≤ 7
    → solved_element setting spot.element (place_in site spot.column spot.row)
    (flags_at (get_or live (spot.column - 1) 0) spot.row) s
    ≡ ((solved.outputs, after), solved.flow)
    → next ≡ bit_or (get_or live spot.column 0) (fed_rows solved.outputs spot.reaches)
    → (shorts : List Short) (p : Power)
    → spot.reaches ≡ three_from (reaches_of (marks_of shorts spot.column)) spot.row
    → AgreesPower shorts live p → p.state ≡ s
    → AgreesSolved shorts (set live spot.column next) after solved.flow
    (element_at setting shorts site spot.column spot.row spot.element p)
spot-done setting spot site live next s after solved first within low high does fed shorts p
    same power state =
    let column = spot.column in
    let row = spot.row in
    let outputs = solved.outputs in
    let marks = marks_of shorts column in
    let was = get_or live column 0 in
    let place = place_in site column row in
    let is : next ≡ bit_or was (fed_rows outputs (three_from (reaches_of marks) row)) = fed
    ∙ ap (λ xs. bit_or was (fed_rows outputs xs)) same in
    let small : next < 128 = subst (λ n. n < 128) (sym is)
    (fed_rows-small outputs marks row was low high (power.small column)) in
    let feeds : FeedsAll outputs marks row was next =
    subst (λ n. FeedsAll outputs marks row was n) (sym is)
    (fed_rows-feeds outputs marks row was low high) in
    let done : solved_element setting spot.element place (inputs_at shorts p.on column row) p.state
    ≡ ((outputs, after), solved.flow) =
    (λ i. solved_element setting spot.element place
    (inputs_at-flags shorts column row live p first low power i) (state i)) ∙ does in
    let e : element_at setting shorts site column row spot.element p
    ≡ record { state = after; on = with_outputs outputs column row p.on; flow = solved.flow } =
    ap (λ (d : Left). record { state = d.0.1; on = with_outputs d.0.0 column row p.on; flow = d.1 })
    done in
    record {
      power = subst (λ q. AgreesPower shorts (set live column next) q) (sym e)
          (AgreesPower-outputs shorts column row live next p outputs after solved.flow first within
          low small power feeds);
      state = ap (λ (q : Power). q.state) e;
      flow = ap (λ (q : Power). q.flow) e;
    }

-- a cell whose relay gives an output
pub relay-done : (setting : Setting) (spot : Spot) (site : Site) (live live_after : List ℕ)
    (past old new : Contents) (scan : Scan) (found : Option Bool) (power output : Bool)
    → 1 ≤ spot.column → spot.column < length live → 1 ≤ spot.row → spot.row ≤ 7
    → IfSome found (RelayLeaves spot.element power past old new) → found ≡ Some output
    → power ≡ flag_of (get_or live (spot.column - 1) 0) spot.row
    → live_after ≡ rows_fed live spot.column (fed_rows (one_node output) spot.reaches)
    → (shorts : List Short) (p : Power)
    → spot.reaches ≡ three_from (reaches_of (marks_of shorts spot.column)) spot.row
    → AgreesPower shorts live p → p.state ≡ solving old past scan
    → AgreesSolved shorts live_after (solving new past scan) GoesOn
    (element_at setting shorts site spot.column spot.row spot.element p)
relay-done setting spot site live live_after past old new scan found power output first within low
    high leaves is on fed shorts p reaches agrees state =
    let left = get_or live (spot.column - 1) 0 in
    let next = bit_or (get_or live spot.column 0) (fed_rows (one_node output) spot.reaches) in
    let leaves_it : RelayLeaves spot.element power past old new output =
    subst (λ (o : Option Bool). IfSome o (RelayLeaves spot.element power past old new)) is leaves in
    subst (λ (after : List ℕ). AgreesSolved shorts after (solving new past scan) GoesOn
    (element_at setting shorts site spot.column spot.row spot.element p)) (sym fed)
    (spot-done setting spot site live next (solving old past scan) (solving new past scan)
    (record { outputs = one_node output; flow = GoesOn }) first within low high
    (leaves_it setting (place_in site spot.column spot.row) (flags_at left spot.row) scan (sym on))
    refl shorts p reaches agrees state)
