-- What the cells of a network note, one after another, is what its rows and columns note; and how
-- many columns were solved to their end.
use Rattle.std.proofs.Common.{◌≡◌, ℕ, ◌+◌, ◌-◌, ◌<◌, ◌≤◌, zero, suc, get_or, Bool, true, false, cond}
use Rattle.std.proofs.Common.{List, [], ◌∷◌, ◌++◌, Option, Some, None, length, take, drop}
use Rattle.std.proofs.Common.{◌⊎◌, inl, inr, refl, sym, ap, ◌∙◌, subst, append_assoc, arith}
use Rattle.std.specs.Prelude.{map, nat_le}
use Rattle.std.specs.List.{AllByRecursion}
use Rattle.std.proofs.lemmas.Bool.{true≢false}
use Rattle.std.proofs.lemmas.Bool.Decides.{nat_tests}
use Rattle.std.proofs.lemmas.List.{append-nil, take_more, take-append-drop, take-append-le}
use Rattle.std.proofs.lemmas.List.{get_or-append-add, length-append}
use Rattle.std.proofs.Math.ListN.{get_or-append}
use Rattle.std.proofs.Math.Seq.{take-append-add}
use Rattle.plant_types.specs.declared.network.Cell.{Cell}
use Rattle.plant_types.specs.declared.network.Network.{Network}
use Rattle.plant_types.specs.declared.network.Short.{Short}
use Rattle.grid_compile.specs.Cells.{cell_at, before, cells_from, marks_of}
use Rattle.grid_compile.proofs.Listing.{cell_at-row}
use Rattle.ladder_solver.specs.declared.layout.Spot.{Spot}
use Rattle.ladder_solver.specs.State.{BlockPlace, SolveState}
use Rattle.ladder_solver.specs.Flow.{Flow, GoesOn, Setting, is_going}
use Rattle.ladder_solver.specs.Network.{Power, Site, inputs_at, solved_at, element_at, while_going}
use Rattle.ladder_solver.specs.Network.{columns_after, is_live}
use Rattle.ladder_solver.specs.Layout.{cell_spot, cell_spots, spots_by, network_spots}
use Rattle.ladder_solver.specs.Rows.{mask_of, reaches_of}
use Rattle.ladder_solver.specs.Agreement.{AgreesPower, AgreesSolved, spots_after}
use Rattle.ladder_solver.specs.Noted.{NetworkFlow, CallNotes, element_notes, place_notes, rows_notes}
use Rattle.ladder_solver.specs.Noted.{border_of, columns_notes, network_start, power_behind}
use Rattle.ladder_solver.specs.Noting.{border_at}
use Rattle.ladder_solver.proofs.Networks.{begun, none_going}
use Rattle.ladder_solver.proofs.RowMasks.{mask_of-is}
use Rattle.ladder_solver.proofs.Steps.{rows_after-spots, columns_after-spots, spots_after-append}
use Rattle.ladder_solver.proofs.Steps.{all_append}
use Rattle.ladder_solver.proofs.Stored.{all_at}

-- what a cell notes, while the solve goes on
abbrev pub spot_notes : CallNotes → List Short → Spot → Power → List NetworkFlow
spot_notes noting shorts spot p =
    cond (is_going p.flow)
    (element_notes noting spot.element (inputs_at shorts p.on spot.column spot.row) p.state) []

-- what cells note, one after another
abbrev pub spots_notes : CallNotes → Setting → List Short → Site → List Spot → Power
    → List NetworkFlow
spots_notes noting setting shorts site [] p = []
spots_notes noting setting shorts site (spot ∷ spots) p =
    spot_notes noting shorts spot p
    ++ spots_notes noting setting shorts site spots
    (while_going p.flow (element_at setting shorts site spot.column spot.row spot.element p) p)

-- one row of a column
place_of : (noting : CallNotes) (setting : Setting) (numbers : BlockPlace → ℕ) (reaches : List ℕ)
    (network : Network) (site : Site) (column row count : ℕ) (o : Option Cell) (p : Power)
    → ((cell : Cell) → o ≡ Some cell → cell.row ≡ row)
    → ((q : Power) → rows_notes noting setting network site column (row + 1) count q
    ≡ spots_notes noting setting network.shorts site (map (cell_spot numbers site reaches column)
    (cells_from network.cells column (row + 1) count)) q)
    → place_notes noting network.shorts column row o p
    ++ rows_notes noting setting network site column (row + 1) count
    (solved_at setting network.shorts site column row o p)
    ≡ spots_notes noting setting network.shorts site (map (cell_spot numbers site reaches column)
    (before o (cells_from network.cells column (row + 1) count))) p
place_of noting setting numbers reaches network site column row count None p stands rest = rest p
place_of noting setting numbers reaches network site column row count (Some cell) p stands rest =
    rw (stands cell refl)
    (ap (λ xs. cond (is_going p.flow)
    (element_notes noting cell.element (inputs_at network.shorts p.on column row) p.state) [] ++ xs)
    (rest (while_going p.flow (element_at setting network.shorts site column row cell.element p) p)))

-- the rows of a column
rows_notes-spots : (noting : CallNotes) (setting : Setting) (numbers : BlockPlace → ℕ)
    (reaches : List ℕ) (network : Network) (site : Site) (column row count : ℕ) (p : Power)
    → rows_notes noting setting network site column row count p
    ≡ spots_notes noting setting network.shorts site
    (map (cell_spot numbers site reaches column) (cells_from network.cells column row count)) p
unfolding rows_notes cells_from
rows_notes-spots noting setting numbers reaches network site column row zero p = refl
rows_notes-spots noting setting numbers reaches network site column row (suc count) p =
    place_of noting setting numbers reaches network site column row count
    (cell_at network.cells column row) p (cell_at-row network.cells column row)
    (rows_notes-spots noting setting numbers reaches network site column (row + 1) count)

-- cells behind others
spots_notes-append : (noting : CallNotes) (setting : Setting) (shorts : List Short) (site : Site)
    (xs ys : List Spot) (p : Power)
    → spots_notes noting setting shorts site (xs ++ ys) p
    ≡ spots_notes noting setting shorts site xs p
    ++ spots_notes noting setting shorts site ys (spots_after setting shorts site xs p)
spots_notes-append noting setting shorts site [] ys p = refl
spots_notes-append noting setting shorts site (x ∷ xs) ys p =
    let next = while_going p.flow
    (element_at setting shorts site x.column x.row x.element p) p in
    let here = spot_notes noting shorts x p in
    ap (λ zs. here ++ zs) (spots_notes-append noting setting shorts site xs ys next)
    ∙ sym (append_assoc here (spots_notes noting setting shorts site xs next)
    (spots_notes noting setting shorts site ys (spots_after setting shorts site xs next)))

-- the columns of a network
columns_notes-spots : (noting : CallNotes) (setting : Setting) (numbers : BlockPlace → ℕ)
    (network : Network) (site : Site) (column count : ℕ) (p : Power)
    → columns_notes noting setting network site column count p
    ≡ spots_notes noting setting network.shorts site (spots_by numbers site network column count) p
unfolding columns_notes spots_by
columns_notes-spots noting setting numbers network site column zero p = refl
columns_notes-spots noting setting numbers network site column (suc count) p =
    let spots = cell_spots numbers site network column in
    let q = spots_after setting network.shorts site spots p in
    let reaches = reaches_of (marks_of network.shorts column) in
    (λ i. rows_notes-spots noting setting numbers reaches network site column 1 7 p i
    ++ columns_notes noting setting network site (column + 1) count
    (rows_after-spots setting numbers reaches network site column 1 7 p i))
    ∙ ap (λ zs. spots_notes noting setting network.shorts site spots p ++ zs)
    (columns_notes-spots noting setting numbers network site (column + 1) count q)
    ∙ sym (spots_notes-append noting setting network.shorts site spots
    (spots_by numbers site network (column + 1) count) p)

-- one cell more, before which the solve goes on
spots_notes-more : (noting : CallNotes) (setting : Setting) (shorts : List Short) (site : Site)
    (spots : List Spot) (i : ℕ) (d : Spot) (p : Power) → i < length spots
    → (spots_after setting shorts site (take i spots) p).flow ≡ GoesOn
    → spots_notes noting setting shorts site (take (i + 1) spots) p
    ≡ spots_notes noting setting shorts site (take i spots) p
    ++ element_notes noting (get_or spots i d).element
    (inputs_at shorts (spots_after setting shorts site (take i spots) p).on
    (get_or spots i d).column (get_or spots i d).row)
    (spots_after setting shorts site (take i spots) p).state
spots_notes-more noting setting shorts site spots i d p within goes =
    let q = spots_after setting shorts site (take i spots) p in
    let spot = get_or spots i d in
    let notes = element_notes noting spot.element (inputs_at shorts q.on spot.column spot.row)
    q.state in
    let before = spots_notes noting setting shorts site (take i spots) p in
    ap (λ xs. spots_notes noting setting shorts site xs p) (take_more spots i d within)
    ∙ spots_notes-append noting setting shorts site (take i spots) (spot ∷ []) p
    ∙ ap (λ xs. before ++ xs) (append-nil (spot_notes noting shorts spot q)
    ∙ ap (λ f. cond (is_going f) notes []) goes)

-- the notes so far grow by those of one cell more
notes_more : (noting : CallNotes) (setting : Setting) (shorts : List Short) (site : Site)
    (spots : List Spot) (i : ℕ) (d : Spot) (p : Power) (old so_far notes : List NetworkFlow)
    → i < length spots
    → (spots_after setting shorts site (take i spots) p).flow ≡ GoesOn
    → so_far ≡ old ++ spots_notes noting setting shorts site (take i spots) p
    → notes ≡ so_far ++ element_notes noting (get_or spots i d).element
    (inputs_at shorts (spots_after setting shorts site (take i spots) p).on
    (get_or spots i d).column (get_or spots i d).row)
    (spots_after setting shorts site (take i spots) p).state
    → notes ≡ old ++ spots_notes noting setting shorts site (take (i + 1) spots) p
notes_more noting setting shorts site spots i d p old so_far notes within goes noted more =
    let q = spots_after setting shorts site (take i spots) p in
    let spot = get_or spots i d in
    let here = element_notes noting spot.element (inputs_at shorts q.on spot.column spot.row)
    q.state in
    let before = spots_notes noting setting shorts site (take i spots) p in
    more ∙ ap (λ xs. xs ++ here) noted ∙ append_assoc old before here
    ∙ ap (λ xs. old ++ xs)
    (sym (spots_notes-more noting setting shorts site spots i d p within goes))

-- the same, where the cells are read as a slice
pub items_more : (noting : CallNotes) (setting : Setting) (network : Network) (site : Site)
    (s now : SolveState) (items spots : List Spot) (i : ℕ) (d : Spot) (before : List ℕ)
    (old so_far notes : List NetworkFlow) → items ≡ spots → i < length items
    → AgreesSolved network.shorts before now GoesOn
    (spots_after setting network.shorts site (take i spots) (begun s))
    → so_far ≡ old ++ spots_notes noting setting network.shorts site (take i spots) (begun s)
    → ((p : Power) → AgreesPower network.shorts before p → p.state ≡ now
    → notes ≡ so_far ++ element_notes noting (get_or items i d).element
    (inputs_at network.shorts p.on (get_or items i d).column (get_or items i d).row) p.state)
    → notes ≡ old ++ spots_notes noting setting network.shorts site (take (i + 1) spots) (begun s)
items_more noting setting network site s now items spots i d before old so_far notes e within goes
    noted more =
    let q : List Spot → Power =
    λ xs. spots_after setting network.shorts site (take i xs) (begun s) in
    let first : AgreesSolved network.shorts before now GoesOn (q items) =
    subst (λ xs. AgreesSolved network.shorts before now GoesOn (q xs)) (sym e) goes in
    notes_more noting setting network.shorts site items i d (begun s) old so_far notes within
    first.flow
    (noted ∙ ap (λ xs. old ++ spots_notes noting setting network.shorts site (take i xs) (begun s))
    (sym e))
    (more (q items) first.power first.state)
    ∙ ap (λ xs. old ++ spots_notes noting setting network.shorts site (take (i + 1) xs) (begun s)) e

-- cells note nothing where the solve no longer goes on
none_noted : (noting : CallNotes) (setting : Setting) (shorts : List Short) (site : Site)
    (spots : List Spot) (p : Power) → is_going p.flow ≡ false
    → spots_notes noting setting shorts site spots p ≡ []
none_noted noting setting shorts site [] p over = refl
none_noted noting setting shorts site (spot ∷ spots) p over =
    let same : while_going p.flow
    (element_at setting shorts site spot.column spot.row spot.element p) p ≡ p =
    none_going setting shorts site (spot ∷ []) p over in
    (λ i. cond (over i)
    (element_notes noting spot.element (inputs_at shorts p.on spot.column spot.row) p.state) []
    ++ spots_notes noting setting shorts site spots (same i))
    ∙ none_noted noting setting shorts site spots p over

-- so the first cells note all, where the solve no longer goes on behind them
spots_notes-over : (noting : CallNotes) (setting : Setting) (shorts : List Short) (site : Site)
    (spots : List Spot) (i : ℕ) (p : Power)
    → is_going (spots_after setting shorts site (take i spots) p).flow ≡ false
    → spots_notes noting setting shorts site spots p
    ≡ spots_notes noting setting shorts site (take i spots) p
spots_notes-over noting setting shorts site spots i p over =
    let q = spots_after setting shorts site (take i spots) p in
    ap (λ xs. spots_notes noting setting shorts site xs p) (sym (take-append-drop i spots))
    ∙ spots_notes-append noting setting shorts site (take i spots) (drop i spots) p
    ∙ ap (λ xs. spots_notes noting setting shorts site (take i spots) p ++ xs)
    (none_noted noting setting shorts site (drop i spots) q over)
    ∙ append-nil (spots_notes noting setting shorts site (take i spots) p)

-- where the solve goes on behind cells, it went on behind those before them
went_on : (setting : Setting) (shorts : List Short) (site : Site) (xs ys : List Spot) (p : Power)
    → is_going (spots_after setting shorts site (xs ++ ys) p).flow ≡ true
    → is_going (spots_after setting shorts site xs p).flow ≡ true
went_on setting shorts site xs ys p goes = by (is_going q.flow) refl
  where
    q : Power
    q = spots_after setting shorts site xs p

    by : (b : Bool) → is_going q.flow ≡ b → is_going q.flow ≡ true
    by true e = e
    by false e = absurd (true≢false (sym goes
        ∙ ap (λ (r : Power). is_going r.flow) (spots_after-append setting shorts site xs ys p
        ∙ none_going setting shorts site ys q e) ∙ e))

-- where it no longer goes on, it does not behind those that come then
stays_over : (setting : Setting) (shorts : List Short) (site : Site) (xs ys : List Spot) (p : Power)
    → is_going (spots_after setting shorts site xs p).flow ≡ false
    → is_going (spots_after setting shorts site (xs ++ ys) p).flow ≡ false
stays_over setting shorts site xs ys p over =
    ap (λ (r : Power). is_going r.flow) (spots_after-append setting shorts site xs ys p
    ∙ none_going setting shorts site ys (spots_after setting shorts site xs p) over) ∙ over

-- columns from one on, in two parts
spots_by-split : (numbers : BlockPlace → ℕ) (site : Site) (network : Network) (column a b : ℕ)
    → spots_by numbers site network column (a + b)
    ≡ spots_by numbers site network column a ++ spots_by numbers site network (column + a) b
unfolding spots_by
spots_by-split numbers site network column zero b =
    let e : 0 + b ≡ b = omega arith in
    let f : column + 0 ≡ column = omega arith in
    rw (e, f) refl
spots_by-split numbers site network column (suc a) b =
    let e : suc a + b ≡ suc (a + b) = omega arith in
    let f : column + suc a ≡ column + 1 + a = omega arith in
    rw (e, f) (ap (λ xs. cell_spots numbers site network column ++ xs)
    (spots_by-split numbers site network (column + 1) a b)
    ∙ sym (append_assoc (cell_spots numbers site network column)
    (spots_by numbers site network (column + 1) a)
    (spots_by numbers site network (column + 1 + a) b)))

-- a cell stands in one of these columns
abbrev IsIn : ℕ → ℕ → Spot → Type 0
IsIn column count spot = (column ≤ spot.column) × (spot.column < column + count)

cells_in : (numbers : BlockPlace → ℕ) (site : Site) (reaches : List ℕ) (column more : ℕ)
    (cells : List Cell) → 0 < more
    → AllByRecursion (IsIn column more) (map (cell_spot numbers site reaches column) cells)
cells_in numbers site reaches column more [] some = tt
cells_in numbers site reaches column more (cell ∷ cells) some =
    ((omega arith, omega (arith, some)), cells_in numbers site reaches column more cells some)

all_wider : (column count : ℕ) (spots : List Spot)
    → AllByRecursion (IsIn (column + 1) count) spots
    → AllByRecursion (IsIn column (suc count)) spots
all_wider column count [] h = tt
all_wider column count (spot ∷ spots) h =
    ((omega (arith, h.0.0), omega (arith, h.0.1)), all_wider column count spots h.1)

columns_in : (numbers : BlockPlace → ℕ) (site : Site) (network : Network) (column count : ℕ)
    → AllByRecursion (IsIn column count) (spots_by numbers site network column count)
unfolding spots_by
columns_in numbers site network column zero = tt
columns_in numbers site network column (suc count) =
    all_append (IsIn column (suc count)) (cell_spots numbers site network column)
    (spots_by numbers site network (column + 1) count)
    (cells_in numbers site (reaches_of (marks_of network.shorts column)) column (suc count)
    (cells_from network.cells column 1 7) (omega arith))
    (all_wider column count (spots_by numbers site network (column + 1) count)
    (columns_in numbers site network (column + 1) count))

module _ (setting : Setting) (network : Network) (site : Site) (s : SolveState)
    (spots : List Spot) (laid : spots ≡ network_spots setting.numbers site network)
    (column : ℕ) (high : column ≤ 11) where
  -- the cells of the columns up to one, and those of the columns behind it
  abbrev first_ones : List Spot
  first_ones = spots_by setting.numbers site network 1 column

  abbrev others : List Spot
  others = spots_by setting.numbers site network (1 + column) (11 - column)

  in_two : spots ≡ first_ones ++ others
  in_two =
      let e : 11 ≡ column + (11 - column) = omega (arith, high) in
      laid ∙ ap (spots_by setting.numbers site network 1) e
      ∙ spots_by-split setting.numbers site network 1 column (11 - column)

  behind_column : power_behind setting network site s column
      ≡ spots_after setting network.shorts site first_ones (begun s)
  behind_column = columns_after-spots setting setting.numbers network site 1 column (begun s)

  -- all columns are done where the solve goes on behind the last cell
  pub goes_behind : is_going (spots_after setting network.shorts site spots (begun s)).flow ≡ true
      → is_going (power_behind setting network site s column).flow ≡ true
  goes_behind goes =
      ap (λ (q : Power). is_going q.flow) behind_column
      ∙ went_on setting network.shorts site first_ones others (begun s)
      (subst (λ xs. is_going (spots_after setting network.shorts site xs (begun s)).flow ≡ true)
      in_two goes)

  module _ (i : ℕ) (d : Spot) (within : i < length spots)
      (goes : is_going (spots_after setting network.shorts site (take i spots)
      (begun s)).flow ≡ true)
      (over : is_going (spots_after setting network.shorts site (take (i + 1) spots)
      (begun s)).flow ≡ false) where
    abbrev place : ℕ
    place = (get_or spots i d).column

    -- a cell of the first columns ends the network there
    among_first : i < length first_ones
        → is_going (power_behind setting network site s column).flow ≡ nat_le column (place - 1)
    among_first less =
        let here = all_at (IsIn 1 column) first_ones i d less
        (columns_in setting.numbers site network 1 column) in
        let at = ap (λ xs. (get_or xs i d).column) in_two
        ∙ ap (λ (spot : Spot). spot.column) (get_or-append first_ones others d i less) in
        let right : place - 1 < column = omega (arith, here.0, here.1, at) in
        let no : nat_le column (place - 1) ≡ false = grind (arith, nat_tests) in
        let taken : take (i + 1) spots ≡ take (i + 1) first_ones = ap (take (i + 1)) in_two
        ∙ take-append-le (i + 1) first_ones others (omega (arith, less)) in
        let ended = subst
        (λ xs. is_going (spots_after setting network.shorts site xs (begun s)).flow ≡ false)
        taken over in
        ap (λ (q : Power). is_going q.flow)
        (behind_column ∙ ap (λ xs. spots_after setting network.shorts site xs (begun s))
        (sym (take-append-drop (i + 1) first_ones)))
        ∙ stays_over setting network.shorts site (take (i + 1) first_ones)
        (drop (i + 1) first_ones) (begun s) ended
        ∙ sym no

    -- a cell behind them leaves them done
    among_others : length first_ones ≤ i
        → is_going (power_behind setting network site s column).flow ≡ nat_le column (place - 1)
    among_others more =
        let k : ℕ = i - length first_ones in
        let e : i ≡ length first_ones + k = omega (arith, more) in
        let many = ap length in_two ∙ length-append first_ones others in
        let less : k < length others = omega (arith, within, many, e) in
        let here = all_at (IsIn (1 + column) (11 - column)) others k d less
        (columns_in setting.numbers site network (1 + column) (11 - column)) in
        let at : place ≡ (get_or others k d).column = ap (λ xs. (get_or xs i d).column) in_two
        ∙ ap (λ n. (get_or (first_ones ++ others) n d).column) e
        ∙ ap (λ (spot : Spot). spot.column) (get_or-append-add first_ones others k d) in
        let left : column ≤ place - 1 = omega (arith, here.0, at) in
        let yes : nat_le column (place - 1) ≡ true = grind (arith, nat_tests) in
        let taken : take i spots ≡ first_ones ++ take k others =
        (λ j. take (e j) (in_two j)) ∙ take-append-add first_ones others k in
        ap (λ (q : Power). is_going q.flow) behind_column
        ∙ went_on setting network.shorts site first_ones (take k others) (begun s)
        (subst (λ xs. is_going (spots_after setting network.shorts site xs (begun s)).flow ≡ true)
        taken goes)
        ∙ sym yes

    -- the columns before the one in which the network ended, and no others, are done
    pub ends_behind :
        is_going (power_behind setting network site s column).flow ≡ nat_le column (place - 1)
    ends_behind = elim (either i (length first_ones)) [
      | inl less ↦ among_first less
      | inr more ↦ among_others more
    ]
      where
        either : (a b : ℕ) → (a < b) ⊎ (b ≤ a)
        either a b = grind arith

-- the mask of a border that is done
border_told : (shorts : List Short) (live : List ℕ) (p : Power) (column : ℕ) → 1 ≤ column
    → AgreesPower shorts live p → get_or live column 0 ≡ mask_of (is_live shorts p.on column)
border_told shorts live p column low agrees =
    mask_of-is (get_or live column 0) (is_live shorts p.on column) (agrees.small column)
    (λ row from to. sym (agrees.live column row low from to))

-- a border as it is noted
noted_border : (shorts : List Short) (live : List ℕ) (p last : Power) (solved column : ℕ)
    (goes : Bool) → 1 ≤ column → AgreesPower shorts live p → last ≡ p
    → goes ≡ nat_le column solved
    → border_at live solved column
    ≡ cond goes (Some (mask_of (is_live shorts last.on column))) None
noted_border shorts live p last solved column goes low agrees same is =
    (λ i. cond (sym is i) (Some (border_told shorts live p column low agrees i)) None)
    ∙ (λ i. cond goes (Some (mask_of (is_live shorts (sym same i).on column))) None)

-- a network of which all cells are solved
pub spots-done : (noting : CallNotes) (setting : Setting) (network : Network) (site : Site)
    (s new : SolveState) (spots : List Spot) (live : List ℕ) (old notes : List NetworkFlow)
    → spots ≡ network_spots setting.numbers site network
    → AgreesSolved network.shorts live new GoesOn
    (spots_after setting network.shorts site spots (begun s))
    → notes ≡ old ++ spots_notes noting setting network.shorts site spots (begun s)
    → (notes ≡ old ++ columns_notes noting setting network site 1 11 (network_start s))
    × ((column : ℕ) → 1 ≤ column → column ≤ 11
    → border_at live 11 column ≡ border_of setting network site s column)
spots-done noting setting network site s new spots live old notes laid done noted =
    let p = spots_after setting network.shorts site spots (begun s) in
    let all : power_behind setting network site s 11 ≡ p =
    columns_after-spots setting setting.numbers network site 1 11 (begun s)
    ∙ ap (λ xs. spots_after setting network.shorts site xs (begun s)) (sym laid) in (
      noted ∙ ap (λ xs. old ++ xs)
          (ap (λ xs. spots_notes noting setting network.shorts site xs (begun s)) laid
          ∙ sym (columns_notes-spots noting setting setting.numbers network site 1 11 (begun s))),
      λ column low high.
          let yes : nat_le column 11 ≡ true = grind (arith, nat_tests) in
          noted_border network.shorts live p (power_behind setting network site s 11) 11 column
          (is_going (power_behind setting network site s column).flow) low done.power all
          (goes_behind setting network site s spots laid column high (ap is_going done.flow)
          ∙ sym yes),
    )

-- a network that a cell ended
pub spots-ended : (noting : CallNotes) (setting : Setting) (network : Network) (site : Site)
    (s now new : SolveState) (spots : List Spot) (i : ℕ) (d : Spot) (before live : List ℕ)
    (flow : Flow) (old notes : List NetworkFlow)
    → spots ≡ network_spots setting.numbers site network → i < length spots
    → AgreesSolved network.shorts before now GoesOn
    (spots_after setting network.shorts site (take i spots) (begun s))
    → AgreesSolved network.shorts live new flow
    (spots_after setting network.shorts site (take (i + 1) spots) (begun s))
    → is_going flow ≡ false
    → notes ≡ old ++ spots_notes noting setting network.shorts site (take (i + 1) spots) (begun s)
    → (notes ≡ old ++ columns_notes noting setting network site 1 11 (network_start s))
    × ((column : ℕ) → 1 ≤ column → column ≤ 11
    → border_at live ((get_or spots i d).column - 1) column
    ≡ border_of setting network site s column)
spots-ended noting setting network site s now new spots i d before live flow old notes laid within
    goes ends over noted =
    let p = spots_after setting network.shorts site (take (i + 1) spots) (begun s) in
    let ended : is_going p.flow ≡ false = ap is_going ends.flow ∙ over in
    let all : power_behind setting network site s 11 ≡ p =
    columns_after-spots setting setting.numbers network site 1 11 (begun s)
    ∙ ap (λ xs. spots_after setting network.shorts site xs (begun s))
    (sym laid ∙ sym (take-append-drop (i + 1) spots))
    ∙ spots_after-append setting network.shorts site (take (i + 1) spots) (drop (i + 1) spots)
    (begun s)
    ∙ none_going setting network.shorts site (drop (i + 1) spots) p ended in (
      noted
          ∙ ap (λ xs. old ++ xs)
          (sym (spots_notes-over noting setting network.shorts site spots (i + 1) (begun s) ended)
          ∙ ap (λ xs. spots_notes noting setting network.shorts site xs (begun s)) laid
          ∙ sym (columns_notes-spots noting setting setting.numbers network site 1 11 (begun s))),
      λ column low high.
          noted_border network.shorts live p (power_behind setting network site s 11)
          ((get_or spots i d).column - 1) column
          (is_going (power_behind setting network site s column).flow) low ends.power all
          (ends_behind setting network site s spots laid column high i d within
          (ap is_going goes.flow) ended),
    )
