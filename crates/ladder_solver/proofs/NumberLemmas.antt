-- The numbers that MSTR blocks have in lists, and in the networks of a plan.
use Rattle.std.proofs.Common.{◌≡◌, ℕ, ◌+◌, ◌-◌, ◌<◌, ◌≤◌, zero, suc, Bool, true, false, cond, ◌&&◌}
use Rattle.std.proofs.Common.{◌==◌, List, [], ◌∷◌, ◌++◌, Option, Some, None, length, take, get_or}
use Rattle.std.proofs.Common.{refl, sym, ap, ◌∙◌, subst, add-zero, append_assoc, arith}
use Rattle.std.specs.Prelude.{map, filter, flat_map, slice_get}
use Rattle.std.proofs.lemmas.Bool.Decides.{nat_tests}
use Rattle.std.proofs.lemmas.List.{append-nil, length-take-le, take_more}
use Rattle.plant_types.specs.declared.element.Element.{Element}
use Rattle.plant_types.specs.declared.network.Cell.{Cell}
use Rattle.plant_types.specs.declared.network.Network.{Network}
use Rattle.plant_types.specs.declared.network.Segment.{Segment}
use Rattle.plant_types.specs.Standing.{is_message, message_count, cells_of_networks}
use Rattle.plant_types.specs.Standing.{cells_of_segments}
use Rattle.grid_compile.specs.declared.grid.Op.{Op}
use Rattle.grid_compile.specs.declared.grid.Column.{Column}
use Rattle.grid_compile.specs.declared.grid.Grid.{Grid}
use Rattle.grid_compile.specs.Cells.{cell_at, before, cells_from, marks_of}
use Rattle.grid_compile.specs.Layout.{op_of, columns_from, grid_of, grids_of}
use Rattle.grid_compile.proofs.Listing.{cell_at-row}
use Rattle.ladder_solver.specs.declared.layout.Spot.{Spot}
use Rattle.ladder_solver.specs.State.{BlockPlace}
use Rattle.ladder_solver.specs.Network.{Site, place_in}
use Rattle.ladder_solver.specs.Numbers.{mstrs_in, rows_elements, columns_elements, network_elements}
use Rattle.ladder_solver.specs.Numbers.{networks_elements, segments_elements, mstr_blocks}
use Rattle.ladder_solver.specs.Numbers.{elements_within, networks_if, networks_of, elements_before}
use Rattle.ladder_solver.specs.Numbers.{block_number, ops_elements, column_elements, grid_elements}
use Rattle.ladder_solver.specs.Numbers.{grids_elements, program_elements, mstr_count}
use Rattle.ladder_solver.specs.Rows.{reaches_of}
use Rattle.ladder_solver.specs.Layout.{spot_of, with_numbers, ops_spots, column_spots, spots_from}
use Rattle.ladder_solver.specs.Layout.{spots_in, segment_spots, cell_spot, spots_by, network_spots}
use Rattle.ladder_solver.specs.Program.{spots_at}

-- the blocks of one list behind another
choice_more : (b : Bool) (x : Element) (xs ys : List Element)
    → length (filter is_message (xs ++ ys)) ≡ mstrs_in xs + mstrs_in ys
    → length (cond b (x ∷ filter is_message (xs ++ ys)) (filter is_message (xs ++ ys)))
    ≡ length (cond b (x ∷ filter is_message
    xs) (filter is_message xs)) + mstrs_in ys
choice_more true x xs ys h = omega (arith, h)
choice_more false x xs ys h = h

pub mstrs-append : (xs ys : List Element) → mstrs_in (xs ++ ys) ≡ mstrs_in xs + mstrs_in ys
mstrs-append [] ys = omega arith
mstrs-append (x ∷ xs) ys = choice_more (is_message x) x xs ys (mstrs-append xs ys)

-- one item more is made with the number behind the others
pub numbered-more : {X Y : Type 0} (elements : X → List Element) (make : ℕ → X → Y) (block : ℕ)
    (xs : List X) (x : X)
    → with_numbers elements make block (xs ++ x ∷ [])
    ≡ with_numbers elements make block xs ++ make (block + mstrs_in (flat_map elements xs)) x ∷ []
unfolding with_numbers
numbered-more elements make block [] x = let e : block + 0 ≡ block = omega arith in rw e refl
numbered-more elements make block (y ∷ xs) x =
    let e : block + mstrs_in (elements y ++ flat_map elements xs)
    ≡ block + mstrs_in (elements y) + mstrs_in (flat_map elements xs) =
    omega (arith, mstrs-append (elements y) (flat_map elements xs)) in
    rw e (ap (λ ys. make block y ∷ ys)
    (numbered-more elements make (block + mstrs_in (elements y)) xs x))

-- the same, where items are read one by one
pub numbered-take : {X Y : Type 0} (elements : X → List Element) (make : ℕ → X → Y) (block : ℕ)
    (xs : List X) (i : ℕ) (d : X) → i < length xs
    → with_numbers elements make block (take (i + 1) xs)
    ≡ with_numbers elements make block (take i xs)
    ++ make (block + mstrs_in (flat_map elements (take i xs))) (get_or xs i d) ∷ []
numbered-take elements make block xs i d within =
    ap (with_numbers elements make block) (take_more xs i d within)
    ∙ numbered-more elements make block (take i xs) (get_or xs i d)

-- and its blocks
pub mstrs-take : {X : Type 0} (elements : X → List Element) (xs : List X) (i : ℕ) (d : X)
    → i < length xs
    → mstrs_in (flat_map elements (take (i + 1) xs))
    ≡ mstrs_in (flat_map elements (take i xs)) + mstrs_in (elements (get_or xs i d))
mstrs-take elements [] i d within = absurd (omega arith)
mstrs-take elements (x ∷ xs) zero d within = mstrs-append (elements x) [] ∙ omega arith
mstrs-take elements (x ∷ xs) (suc i) d within =
    let e : suc i + 1 ≡ suc (i + 1) = omega arith in
    let one = mstrs-append (elements x) (flat_map elements (take (i + 1) xs)) in
    let other = mstrs-append (elements x) (flat_map elements (take i xs)) in
    rw e (omega (arith, one, other, mstrs-take elements xs i d (omega arith)))

-- the first items have no more than all
pub mstrs-within : {X : Type 0} (elements : X → List Element) (xs : List X) (i : ℕ)
    → mstrs_in (flat_map elements (take i xs)) ≤ mstrs_in (flat_map elements xs)
mstrs-within elements [] zero = omega arith
mstrs-within elements [] (suc i) = omega arith
mstrs-within elements (x ∷ xs) zero = omega arith
mstrs-within elements (x ∷ xs) (suc i) =
    let one = mstrs-append (elements x) (flat_map elements (take i xs)) in
    let other = mstrs-append (elements x) (flat_map elements xs) in
    omega (arith, one, other, mstrs-within elements xs i)

-- an item and those before it have no more than all
pub mstrs-fit : {X : Type 0} (elements : X → List Element) (xs : List X) (i : ℕ) (d : X)
    → i < length xs
    → mstrs_in (flat_map elements (take i xs)) + mstrs_in (elements (get_or xs i d))
    ≤ mstrs_in (flat_map elements xs)
mstrs-fit elements xs i d within =
    omega (arith, mstrs-take elements xs i d within, mstrs-within elements xs (i + 1))

-- elements one by one are the elements
pub ops-singly : (ops : List Op) → flat_map (λ op. op.element ∷ []) ops ≡ ops_elements ops
ops-singly [] = refl
ops-singly (op ∷ ops) = ap (λ xs. op.element ∷ xs) (ops-singly ops)

-- the items that are made are as many
pub length-numbered : {X Y : Type 0} (elements : X → List Element) (make : ℕ → X → Y)
    (block : ℕ) (xs : List X)
    → length (with_numbers elements make block xs) ≡ length xs
unfolding with_numbers
length-numbered elements make block [] = refl
length-numbered elements make block (x ∷ xs) =
    let e = length-numbered elements make (block + mstrs_in (elements x)) xs in omega (arith, e)

-- the numbers of blocks count on from a place to those beside, below and behind it
abbrev pub CountsRows : (BlockPlace → ℕ) → Site → List Cell → ℕ → ℕ → ℕ → Type 0
CountsRows numbers site cells column row block =
    (k : ℕ) → numbers (place_in site column (row + k))
    ≡ block + mstrs_in (map (λ cell. cell.element) (cells_from cells column row k))

-- a cell of a column, and those below it
column_cell : (numbers : BlockPlace → ℕ) (site : Site) (reaches : List ℕ) (column row block : ℕ)
    (found : Option Cell) (cells : List Cell)
    → ((cell : Cell) → found ≡ Some cell → cell.row ≡ row)
    → numbers (place_in site column row) ≡ block
    → ((next : ℕ) → next ≡ block + mstrs_in (map (λ cell. cell.element) (before found []))
    → ops_spots reaches column next (map op_of cells)
    ≡ map (cell_spot numbers site reaches column) cells)
    → ops_spots reaches column block (map op_of (before found cells))
    ≡ map (cell_spot numbers site reaches column) (before found cells)
unfolding with_numbers
column_cell numbers site reaches column row block None cells stands here rest =
    rest block (omega arith)
column_cell numbers site reaches column row block (Some cell) cells stands here rest =
    let is : block ≡ numbers (place_in site column cell.row) = sym here
    ∙ ap (λ r. numbers (place_in site column r)) (sym (stands cell refl)) in
    (λ i. spot_of reaches column (is i) (op_of cell) ∷ ops_spots reaches column
    (block + mstrs_in (cell.element ∷ [])) (map op_of cells))
    ∙ ap (λ spots. cell_spot numbers site reaches column cell ∷ spots)
    (rest (block + mstrs_in (cell.element ∷ [])) refl)

-- before a cell that is found, there are those that are found
before-append : (found : Option Cell) (cells : List Cell)
    → mstrs_in (map (λ cell. cell.element) (before found cells))
    ≡ mstrs_in (map (λ cell. cell.element) (before found []))
    + mstrs_in (map (λ cell. cell.element) cells)
before-append None cells = omega arith
before-append (Some cell) cells =
    mstrs-append (cell.element ∷ []) (map (λ cell. cell.element) cells)

-- the cells of a column have the numbers of their places
column-numbers : (numbers : BlockPlace → ℕ) (site : Site) (reaches : List ℕ) (cells : List Cell)
    (column row count block : ℕ)
    → CountsRows numbers site cells column row block
    → ops_spots reaches column block (map op_of (cells_from cells column row count))
    ≡ map (cell_spot numbers site reaches column) (cells_from cells column row count)
unfolding cells_from with_numbers
column-numbers numbers site reaches cells column row zero block counts = refl
column-numbers numbers site reaches cells column row (suc count) block counts =
    let here : row + 0 ≡ row = omega arith in
    let first : numbers (place_in site column row) ≡ block =
    ap (λ r. numbers (place_in site column r)) (sym here) ∙ counts 0 ∙ omega arith in
    column_cell numbers site reaches column row block (cell_at cells column row)
    (cells_from cells column (row + 1) count)
    (cell_at-row cells column row) first
    (λ next is. column-numbers numbers site reaches cells column (row + 1) count next
    (λ k.
    let one : row + suc k ≡ row + 1 + k = omega arith in
    ap (λ r. numbers (place_in site column r)) (sym one) ∙ counts (suc k)
    ∙ omega
    (arith, before-append (cell_at cells column row) (cells_from cells column (row + 1) k), is)))

-- the numbers of blocks count on by columns
abbrev pub CountsColumns : (BlockPlace → ℕ) → Site → List Cell → ℕ → ℕ → Type 0
CountsColumns numbers site cells column block =
    (k row : ℕ) → numbers (place_in site (column + k) (1 + row))
    ≡ block + (mstrs_in (columns_elements cells column k)
    + mstrs_in (rows_elements cells (column + k) row))

-- the elements of a column of a grid
column-elements : (cells : List Cell)
    → ops_elements (map op_of cells) ≡ map (λ cell. cell.element) cells
column-elements [] = refl
column-elements (cell ∷ cells) = ap (λ xs. cell.element ∷ xs) (column-elements cells)

-- the cells of the columns have the numbers of their places
columns-numbers : (numbers : BlockPlace → ℕ) (site : Site) (network : Network)
    (column count block : ℕ)
    → CountsColumns numbers site network.cells column block
    → spots_from block column (columns_from network column count)
    ≡ spots_by numbers site network column count
unfolding spots_from columns_from spots_by columns_elements
columns-numbers numbers site network column zero block counts = refl
columns-numbers numbers site network column (suc count) block counts =
    let here : column + 0 ≡ column = omega arith in
    let cells = cells_from network.cells column 1 7 in
    let rows : CountsRows numbers site network.cells column 1 block =
    (λ row. ap (λ c. numbers (place_in site c (1 + row))) (sym here) ∙ counts 0 row
    ∙ ap (λ c. block + (0 + mstrs_in (rows_elements network.cells c row))) here ∙ omega arith) in
    let many = ap mstrs_in (column-elements cells) in
    let next = columns-numbers numbers site network (column + 1) count
    (block + mstrs_in (ops_elements (map op_of cells)))
    (λ k row.
    let one : column + suc k ≡ column + 1 + k = omega arith in
    let split = mstrs-append (rows_elements network.cells column 7)
    (columns_elements network.cells (column + 1) k) in
    ap (λ c. numbers (place_in site c (1 + row))) (sym one) ∙ counts (suc k) row
    ∙ ap (λ c. block + (mstrs_in (rows_elements network.cells column 7
    ++ columns_elements network.cells (column + 1) k)
    + mstrs_in (rows_elements network.cells c row))) one
    ∙ omega (arith, split, many)) in
    (λ i. column-numbers numbers site (reaches_of (marks_of network.shorts column)) network.cells
    column 1 7 block rows i ++ next i)

-- those of a network have them too
pub network-numbers : (numbers : BlockPlace → ℕ) (site : Site) (network : Network) (block : ℕ)
    → CountsColumns numbers site network.cells 1 block
    → spots_in block (grid_of network) ≡ network_spots numbers site network
network-numbers numbers site network block counts =
    columns-numbers numbers site network 1 11 block counts

-- one column more
spots_from-more : (block column : ℕ) (columns : List Column) (laid : Column)
    → spots_from block column (columns ++ laid ∷ [])
    ≡ spots_from block column columns ++ column_spots
    (block + mstrs_in (flat_map column_elements columns)) (column + length columns) laid
unfolding spots_from
spots_from-more block column [] laid =
    let e : block + 0 ≡ block = omega arith in
    rw (e, add-zero) (append-nil (column_spots block column laid))
spots_from-more block column (x ∷ columns) laid =
    let e : column + suc (length columns) ≡ column + 1 + length columns = omega arith in
    let first : block + mstrs_in (column_elements x ++ flat_map column_elements columns)
    ≡ block + mstrs_in (column_elements x) + mstrs_in (flat_map column_elements columns) =
    omega (arith, mstrs-append (column_elements x) (flat_map column_elements columns)) in
    rw (e, first, append_assoc)
    (ap (λ spots. column_spots block column x ++ spots)
    (spots_from-more (block + mstrs_in (column_elements x)) (column + 1) columns laid))

-- the same, where they are read one by one
pub spots_from-take : (block : ℕ) (columns : List Column) (i : ℕ) (laid : Column)
    → i < length columns → laid ≡ get_or columns i laid
    → spots_from block 1 (take (i + 1) columns)
    ≡ spots_from block 1 (take i columns)
    ++ column_spots (block + mstrs_in (flat_map column_elements (take i columns))) (i + 1) laid
spots_from-take block columns i laid within is =
    let many = length-take-le i columns (omega arith) in
    let number : 1 + length (take i columns) ≡ i + 1 = omega (arith, many) in
    ap (spots_from block 1) (take_more columns i laid within)
    ∙ spots_from-more block 1 (take i columns) (get_or columns i laid)
    ∙ (λ j. spots_from block 1 (take i columns) ++ column_spots
    (block + mstrs_in (flat_map column_elements (take i columns))) (number j) (sym is j))

-- one item more among those that are with_numbers, where it is read
module _ {X Y : Type 0} (elements : X → List Element) (make : ℕ → X → Y) (first : ℕ) (xs : List X)
    (i : ℕ) (block : ℕ)
    (counts : block ≡ first + mstrs_in (flat_map elements (take i xs)))
    (within : i < length xs) where
  pub numbered-item : (d : X) (y : Y) → y ≡ make block (get_or xs i d)
      → with_numbers elements make first (take (i + 1) xs)
      ≡ with_numbers elements make first (take i xs) ++ y ∷ []
  numbered-item d y is =
      numbered-take elements make first xs i d within
      ∙ ap (λ y. with_numbers elements make first (take i xs) ++ y ∷ [])
      (sym (is ∙ ap (λ n. make n (get_or xs i d)) counts))

  -- the number behind it
  pub behind-item : (d : X) (next : ℕ) → next ≡ block + mstrs_in (elements (get_or xs i d))
      → next ≡ first + mstrs_in (flat_map elements (take (i + 1) xs))
  behind-item d next is = omega (arith, is, counts, mstrs-take elements xs i d within)

  -- and its room
  pub room-item : (most : ℕ) (x : X) → x ≡ get_or xs i x
      → first + mstrs_in (flat_map elements xs) ≤ most → block + mstrs_in (elements x) ≤ most
  room-item most x is few =
      let e = ap (λ y. mstrs_in (elements y)) is in
      omega (arith, counts, few, e, mstrs-fit elements xs i x within)

-- the cells of networks, which count from a number on
unfoldable pub laid_networks : (BlockPlace → ℕ) → ℕ → ℕ → List Network → List (List Spot)
laid_networks numbers segment first [] = []
laid_networks numbers segment first (network ∷ networks) =
    network_spots numbers (record { segment = segment; network = first }) network
    ∷ laid_networks numbers segment (first + 1) networks

pub length-laid : (numbers : BlockPlace → ℕ) (segment first : ℕ) (networks : List Network)
    → length (laid_networks numbers segment first networks) ≡ length networks
unfolding laid_networks
length-laid numbers segment first [] = refl
length-laid numbers segment first (network ∷ networks) =
    let e = length-laid numbers segment (first + 1) networks in omega (arith, e)

-- the elements of the columns of a grid
columns-elements : (network : Network) (column count : ℕ)
    → flat_map column_elements (columns_from network column count)
    ≡ columns_elements network.cells column count
unfolding columns_from columns_elements
columns-elements network column zero = refl
columns-elements network column (suc count) =
    λ i. column-elements (cells_from network.cells column 1 7) i
    ++ columns-elements network (column + 1) count i

networks-elements : (networks : List Network)
    → grids_elements (map grid_of networks) ≡ networks_elements networks
networks-elements [] = refl
networks-elements (network ∷ networks) =
    λ i. columns-elements network 1 11 i ++ networks-elements networks i

-- the elements of a plan are those that its grids list
segments-elements : (segments : List Segment)
    → program_elements (grids_of segments) ≡ segments_elements segments
segments-elements [] = refl
segments-elements (segment ∷ segments) =
    λ i. networks-elements segment.networks i ++ segments-elements segments i

pub mstr_count-of : (segments : List Segment)
    → mstr_count (grids_of segments) ≡ mstr_blocks segments
mstr_count-of segments = ap mstrs_in (segments-elements segments)

-- the numbers of blocks count on by networks
abbrev pub CountsNetworks : (BlockPlace → ℕ) → ℕ → ℕ → List Network → ℕ → Type 0
CountsNetworks numbers segment first networks block =
    (j : ℕ) (column row : ℕ)
    → numbers (record { segment = segment; network = first + j; column = column; row = row })
    ≡ block + (mstrs_in (networks_elements (take j networks))
    + mstrs_in (elements_within (slice_get networks j) column row))

-- the cells of the networks of a segment have the numbers of their places
networks-numbers : (numbers : BlockPlace → ℕ) (segment first : ℕ)
    (networks : List Network) (block : ℕ)
    → CountsNetworks numbers segment first networks block
    → segment_spots block (map grid_of networks) ≡ laid_networks numbers segment first networks
unfolding with_numbers laid_networks
networks-numbers numbers segment first [] block counts = refl
networks-numbers numbers segment first (network ∷ networks) block counts =
    let site : Site = record { segment = segment; network = first } in
    let here : first + 0 ≡ first = omega arith in
    let columns : CountsColumns numbers site network.cells 1 block =
    (λ k row.
    let left : 1 + k - 1 ≡ k = omega arith in
    let above : 1 + row - 1 ≡ row = omega arith in
    ap (λ n. numbers (record { segment = segment; network = n; column = 1 + k; row = 1 + row }))
    (sym here)
    ∙ counts 0 (1 + k) (1 + row)
    ∙ (λ i. block + (0 + mstrs_in (columns_elements network.cells 1 (left i)
    ++ rows_elements network.cells (1 + k) (above i))))
    ∙ omega (
      arith,
      mstrs-append (columns_elements network.cells 1 k) (rows_elements network.cells (1 + k) row),
    )) in
    let many = ap mstrs_in (columns-elements network 1 11) in
    let next = networks-numbers numbers segment (first + 1) networks
    (block + mstrs_in (grid_elements (grid_of network)))
    (λ j column row.
    let one : first + suc j ≡ first + 1 + j = omega arith in
    ap (λ n. numbers (record { segment = segment; network = n; column = column; row = row }))
    (sym one)
    ∙ counts (suc j) column row
    ∙ omega
    (arith, many, mstrs-append (network_elements network) (networks_elements (take j networks)))) in
    (λ i. network-numbers numbers site network block columns i ∷ next i)

-- the numbers of blocks count on by segments
abbrev pub CountsSegments : (BlockPlace → ℕ) → ℕ → List Segment → ℕ → Type 0
CountsSegments numbers first segments block =
    (j : ℕ) → CountsNetworks numbers (first + j) 1 (networks_of segments (1 + j))
    (block + mstrs_in (segments_elements (take j segments)))

-- the cells of a segment have the numbers of their places
segments-numbers : (numbers : BlockPlace → ℕ) (first : ℕ) (segments : List Segment) (block j : ℕ)
    → CountsSegments numbers first segments block
    → get_or (with_numbers grids_elements segment_spots block (grids_of segments)) j []
    ≡ laid_networks numbers (first + j) 1 (networks_of segments (1 + j))
unfolding with_numbers laid_networks
segments-numbers numbers first [] block zero counts = refl
segments-numbers numbers first [] block (suc j) counts = refl
segments-numbers numbers first (segment ∷ segments) block zero counts =
    let here : block + 0 ≡ block = omega arith in
    networks-numbers numbers (first + 0) 1 segment.networks block
    (subst (CountsNetworks numbers (first + 0) 1 segment.networks) here (counts 0))
segments-numbers numbers first (segment ∷ segments) block (suc j) counts =
    let one : first + suc j ≡ first + 1 + j = omega arith in
    let many = ap mstrs_in (networks-elements segment.networks) in
    let later : (k : ℕ)
    → networks_of (segment ∷ segments) (1 + suc k) ≡ networks_of segments (1 + k) =
    (λ k.
    let place : 1 + suc k - 1 ≡ suc k = omega arith in
    let back : 1 + k - 1 ≡ k = omega arith in
    ap (λ n. networks_if (slice_get (segment ∷ segments) n)) place
    ∙ ap (λ n. networks_if (slice_get segments n)) (sym back)) in
    rw (one, later j)
    (segments-numbers numbers (first + 1) segments
    (block + mstrs_in (grids_elements (map grid_of segment.networks))) j
    (λ k.
    let next : first + suc k ≡ first + 1 + k = omega arith in
    let sum : block
    + mstrs_in (networks_elements segment.networks ++ segments_elements (take k segments))
    ≡ block + mstrs_in (grids_elements (map grid_of segment.networks))
    + mstrs_in (segments_elements (take k segments)) =
    omega (
      arith,
      many,
      mstrs-append (networks_elements segment.networks) (segments_elements (take k segments)),
    ) in
    let before = block
    + mstrs_in (networks_elements segment.networks ++ segments_elements (take k segments)) in
    let after = block + mstrs_in (grids_elements (map grid_of segment.networks))
    + mstrs_in (segments_elements (take k segments)) in
    subst (λ n. CountsNetworks numbers n 1 (networks_of segments (1 + k)) after) next
    (subst (CountsNetworks numbers (first + suc k) 1 (networks_of segments (1 + k))) sum
    (subst (λ networks. CountsNetworks numbers (first + suc k) 1 networks before) (later k)
    (counts (suc k))))))

-- the numbers of the blocks of a plan count on by its segments
plan-counts : (segments : List Segment) → CountsSegments (block_number segments) 1 segments 1
plan-counts segments j k column row =
    let left : 1 + j - 1 ≡ j = omega arith in
    let above : 1 + k - 1 ≡ k = omega arith in
    let networks = networks_of segments (1 + j) in
    let elements = segments_elements (take j segments) in
    let within = elements_within (slice_get networks k) column row in
    let e : elements_before segments
    (record { segment = 1 + j; network = 1 + k; column = column; row = row })
    ≡ elements ++ (networks_elements (take k networks) ++ within) =
    (λ i. segments_elements (take (left i) segments)
    ++ (networks_elements (take (above i) networks)
    ++ elements_within (slice_get networks (above i)) column row)) in
    ap (λ xs. suc (mstrs_in xs)) e
    ∙ omega (
      arith,
      mstrs-append elements (networks_elements (take k networks) ++ within),
      mstrs-append (networks_elements (take k networks)) within,
    )

-- the cells of a segment of a plan, as the program of its grids has them
pub spots_at-of : (segments : List Segment) (program : List (List Grid)) (segment : ℕ) → 1 ≤ segment
    → grids_of segments ≡ program
    → spots_at program segment
    ≡ laid_networks (block_number segments) segment 1 (networks_of segments segment)
spots_at-of segments program segment low same =
    let back : 1 + (segment - 1) ≡ segment = omega (arith, low) in
    ap (λ p. spots_at p segment) (sym same)
    ∙ segments-numbers (block_number segments) 1 segments 1 (segment - 1) (plan-counts segments)
    ∙ (λ i. laid_networks (block_number segments) (back i) 1 (networks_of segments (back i)))

-- a cell of one row stands in no other, nor in another column
other_row : (x : Cell) (column row r : ℕ)
    → ((x.column == column) && (x.row == row)) ≡ true → row + 1 ≤ r
    → ((x.column == column) && (x.row == r)) ≡ false
other_row x column row r here low = grind (arith, nat_tests)

other_column : (x : Cell) (column r : ℕ) → x.column < column
    → ((x.column == column) && (x.row == r)) ≡ false
other_column x column r left = grind (arith, nat_tests)

apart_column : (x : Cell) (column r : ℕ) → (x.column == column) ≡ false
    → ((x.column == column) && (x.row == r)) ≡ false
apart_column x column r gone = rw gone refl

-- a cell that stands at no place of these rows is not found there
rows_apart : (x : Cell) (cells : List Cell) (column row count : ℕ)
    → ((r : ℕ) → row ≤ r → ((x.column == column) && (x.row == r)) ≡ false)
    → cells_from (x ∷ cells) column row count ≡ cells_from cells column row count
unfolding cells_from
rows_apart x cells column row zero apart = refl
rows_apart x cells column row (suc count) apart =
    let no = apart row (omega arith) in
    rw no
    (ap (before (cell_at cells column row))
    (rows_apart x cells column (row + 1) count (λ r low. apart r (omega (arith, low)))))

-- one cell more adds its message to a column, or nothing
rows_more : (x : Cell) (cells : List Cell) (column row count : ℕ)
    → mstrs_in (map (λ cell. cell.element) (cells_from (x ∷ cells) column row count))
    ≤ mstrs_in (x.element ∷ [])
    + mstrs_in (map (λ cell. cell.element) (cells_from cells column row count))
unfolding cells_from
rows_more x cells column row zero = omega arith
rows_more x cells column row (suc count) =
    row_more ((x.column == column) && (x.row == row)) refl
    (rows_more x cells column (row + 1) count)
  where
    row_more : (b : Bool) → ((x.column == column) && (x.row == row)) ≡ b
        → mstrs_in (map (λ cell. cell.element) (cells_from (x ∷ cells) column (row + 1) count))
        ≤ mstrs_in (x.element ∷ [])
        + mstrs_in (map (λ cell. cell.element) (cells_from cells column (row + 1) count))
        → mstrs_in (map (λ cell. cell.element) (before (cond b (Some x) (cell_at cells column row))
        (cells_from (x ∷ cells) column (row + 1) count)))
        ≤ mstrs_in (x.element ∷ [])
        + mstrs_in (map (λ cell. cell.element)
        (before (cell_at cells column row) (cells_from cells column (row + 1) count)))
    row_more true here below =
        let rest = rows_apart x cells column (row + 1) count
        (λ r low. other_row x column row r here low) in
        let one = before-append (Some x) (cells_from (x ∷ cells) column (row + 1) count) in
        let other = before-append (cell_at cells column row)
        (cells_from cells column (row + 1) count) in
        let e = ap (λ cs. mstrs_in (map (λ cell. cell.element) cs)) rest in
        omega (arith, one, other, e)
    row_more false gone below =
        let one = before-append (cell_at cells column row)
        (cells_from (x ∷ cells) column (row + 1) count) in
        let other = before-append (cell_at cells column row)
        (cells_from cells column (row + 1) count) in
        omega (arith, one, other, below)

-- nor in columns to the right of its own
columns_apart : (x : Cell) (cells : List Cell) (column count : ℕ) → x.column < column
    → columns_elements (x ∷ cells) column count ≡ columns_elements cells column count
unfolding columns_elements
columns_apart x cells column zero left = refl
columns_apart x cells column (suc count) left =
    (λ i. map (λ cell. cell.element)
    (rows_apart x cells column 1 7 (λ r low. other_column x column r left) i)
    ++ columns_apart x cells (column + 1) count (omega (arith, left)) i)

-- one cell more adds its message to a network, or nothing
columns_more : (x : Cell) (cells : List Cell) (column count : ℕ)
    → mstrs_in (columns_elements (x ∷ cells) column count)
    ≤ mstrs_in (x.element ∷ []) + mstrs_in (columns_elements cells column count)
unfolding columns_elements
columns_more x cells column zero = omega arith
columns_more x cells column (suc count) =
    column_more (x.column == column) refl (columns_more x cells (column + 1) count)
  where
    column_more : (b : Bool) → (x.column == column) ≡ b
        → mstrs_in (columns_elements (x ∷ cells) (column + 1) count)
        ≤ mstrs_in (x.element ∷ []) + mstrs_in (columns_elements cells (column + 1) count)
        → mstrs_in (rows_elements (x ∷ cells) column 7
        ++ columns_elements (x ∷ cells) (column + 1) count)
        ≤ mstrs_in (x.element ∷ [])
        + mstrs_in (rows_elements cells column 7 ++ columns_elements cells (column + 1) count)
    column_more true here right =
        let one = mstrs-append (rows_elements (x ∷ cells) column 7)
        (columns_elements (x ∷ cells) (column + 1) count) in
        let other = mstrs-append (rows_elements cells column 7)
        (columns_elements cells (column + 1) count) in
        let left : x.column < column + 1 = grind (arith, nat_tests, here) in
        let rest = ap mstrs_in (columns_apart x cells (column + 1) count left) in
        omega (arith, one, other, rest, rows_more x cells column 1 7)
    column_more false gone right =
        let one = mstrs-append (rows_elements (x ∷ cells) column 7)
        (columns_elements (x ∷ cells) (column + 1) count) in
        let other = mstrs-append (rows_elements cells column 7)
        (columns_elements cells (column + 1) count) in
        let same = ap (λ cs. mstrs_in (map (λ cell. cell.element) cs))
        (rows_apart x cells column 1 7 (λ r low. apart_column x column r gone)) in
        omega (arith, one, other, same, right)

no_rows : (column row count : ℕ) → cells_from [] column row count ≡ []
unfolding cells_from
no_rows column row zero = refl
no_rows column row (suc count) = no_rows column (row + 1) count

no_columns : (column count : ℕ) → columns_elements [] column count ≡ []
unfolding columns_elements
no_columns column zero = refl
no_columns column (suc count) =
    λ i. map (λ cell. cell.element) (no_rows column 1 7 i) ++ no_columns (column + 1) count i

-- the messages of cells are those of their elements
count_more : (b : Bool) (x : Cell) (cells : List Cell) (element : Element)
    → length (cond b (x ∷ filter (λ cell. is_message cell.element) cells)
    (filter (λ cell. is_message cell.element) cells))
    ≡ length (cond b (element ∷ []) []) + message_count cells
count_more true x cells element = omega arith
count_more false x cells element = omega arith

-- places have no more messages than cells
network_few : (cells : List Cell) → mstrs_in (columns_elements cells 1 11) ≤ message_count cells
network_few [] = let e = ap mstrs_in (no_columns 1 11) in omega (arith, e)
network_few (x ∷ cells) =
    omega (
      arith,
      columns_more x cells 1 11,
      network_few cells,
      count_more (is_message x.element) x cells x.element,
    )

count-append : (xs ys : List Cell) → message_count (xs ++ ys) ≡ message_count xs + message_count ys
count-append [] ys = omega arith
count-append (x ∷ xs) ys =
    let one = count_more (is_message x.element) x (xs ++ ys) x.element in
    let other = count_more (is_message x.element) x xs x.element in
    omega (arith, one, other, count-append xs ys)

networks_few : (networks : List Network)
    → mstrs_in (networks_elements networks) ≤ message_count (cells_of_networks networks)
networks_few [] = omega arith
networks_few (network ∷ networks) =
    omega (
      arith,
      mstrs-append (network_elements network) (networks_elements networks),
      count-append network.cells (cells_of_networks networks),
      network_few network.cells,
      networks_few networks,
    )

pub mstr_blocks-few : (segments : List Segment)
    → mstr_blocks segments ≤ message_count (cells_of_segments segments)
mstr_blocks-few [] = omega arith
mstr_blocks-few (segment ∷ segments) =
    omega (
      arith,
      mstrs-append (networks_elements segment.networks) (segments_elements segments),
      count-append (cells_of_networks segment.networks) (cells_of_segments segments),
      networks_few segment.networks,
      mstr_blocks-few segments,
    )
