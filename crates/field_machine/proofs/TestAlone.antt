-- Controllers without message blocks.
use Rattle.std.proofs.Common.{◌≡◌, ℕ, zero, suc, ◌-◌, Bool, true, false, cond, ◌&&◌, ◌||◌, ◌==◌, not}
use Rattle.std.proofs.Common.{List, [], ◌∷◌, ◌++◌, Option, Some, None, refl, sym, ap, ◌∙◌, length}
use Rattle.std.specs.Prelude.{slice_get}
use Rattle.std.specs.List.{list_any}
use Rattle.std.proofs.lemmas.Bool.{eqb-true}
use Rattle.plant_types.specs.declared.network.Cell.{Cell}
use Rattle.plant_types.specs.declared.network.Network.{Network}
use Rattle.plant_types.specs.declared.network.Segment.{Segment}
use Rattle.plant_types.specs.declared.plan.ControllerPlan.{ControllerPlan}
use Rattle.plant_types.specs.declared.plan.PowerRow.{PowerRow}
use Rattle.plant_types.specs.Standing.{cells_of_networks, cells_of_segments}
use Rattle.grid_compile.specs.Cells.{cell_at}
use Rattle.ladder_solver.specs.Numbers.{networks_if}
use Rattle.traffic_cop.specs.Rows.{IsRunnablePlan}
use Rattle.alike_states.specs.Alone.{HasNoMessages}
use Rattle.field_search.specs.Covered.{IsAlone}
use Rattle.field_machine.specs.Alone.{calls, is_alone}

pub or-false : (a b : Bool) → a || b ≡ false → (a ≡ false) × (b ≡ false)
or-false true b is = absurd (let no' : true ≡ false = is in cc)
or-false false b is = (refl, is)

pub any-both : (xs ys : List Cell) → list_any calls (xs ++ ys)
    ≡ list_any calls xs || list_any calls ys
any-both [] ys = refl
any-both (x ∷ xs) ys = by (calls x) (any-both xs ys)
  where
    by : (b : Bool) → list_any calls (xs ++ ys) ≡ list_any calls xs || list_any calls ys
        → b || list_any calls (xs ++ ys) ≡ (b || list_any calls xs) || list_any calls ys
    by true is = refl
    by false is = is

found-by : (x cell : Cell) (rest : Option Cell) (b : Bool) → calls x ≡ false
    → (rest ≡ Some cell → calls cell ≡ false) → cond b (Some x) rest ≡ Some cell
    → calls cell ≡ false
found-by x cell rest true here more found =
    let e : x ≡ cell = cc in
    ap calls (sym e) ∙ here
found-by x cell rest false here more found = more found

none-found : (cells : List Cell) (column row : ℕ) (cell : Cell) → list_any calls cells ≡ false
    → cell_at cells column row ≡ Some cell → calls cell ≡ false
none-found [] column row cell none is = absurd (let no' : None ≡ Some cell = is in cc)
none-found (x ∷ cells) column row cell none is =
    let parts = or-false (calls x) (list_any calls cells) none in
    found-by x cell (cell_at cells column row) ((x.column == column) && (x.row == row)) parts.0
    (none-found cells column row cell parts.1) is

none-in-network : (networks : List Network) (i : ℕ) (network : Network)
    → list_any calls (cells_of_networks networks) ≡ false → slice_get networks i ≡ Some network
    → list_any calls network.cells ≡ false
none-in-network [] i network none is = absurd (let no' : None ≡ Some network = is in cc)
none-in-network (x ∷ networks) zero network none is =
    let first : Some x ≡ Some network = is in
    let e : x ≡ network = cc in
    let parts = or-false _ _ (sym (any-both x.cells (cells_of_networks networks)) ∙ none) in
    ap (λ (n : Network). list_any calls n.cells) (sym e) ∙ parts.0
none-in-network (x ∷ networks) (suc i) network none is =
    let parts = or-false _ _ (sym (any-both x.cells (cells_of_networks networks)) ∙ none) in
    none-in-network networks i network parts.1 is

none-in-segment : (segments : List Segment) (i j : ℕ) (o : Option Segment) (network : Network)
    → list_any calls (cells_of_segments segments) ≡ false → slice_get segments i ≡ o
    → slice_get (networks_if o) j ≡ Some network → list_any calls network.cells ≡ false
none-in-segment segments i j None network none at is =
    absurd (let no' : None ≡ Some network = is in cc)
none-in-segment [] i j (Some segment) network none at is =
    absurd (let no' : None ≡ Some segment = at in cc)
none-in-segment (x ∷ segments) zero j (Some segment) network none at is =
    let first : Some x ≡ Some segment = at in
    let e : x ≡ segment = cc in
    let parts =
    or-false _ _ (sym (any-both (cells_of_networks x.networks) (cells_of_segments segments)) ∙ none)
    in
    none-in-network segment.networks j network
    (ap (λ (s : Segment). list_any calls (cells_of_networks s.networks)) (sym e) ∙ parts.0) is
none-in-segment (x ∷ segments) (suc i) j (Some segment) network none at is =
    let parts =
    or-false _ _ (sym (any-both (cells_of_networks x.networks) (cells_of_segments segments)) ∙ none)
    in
    none-in-segment segments i j (Some segment) network parts.1 at is

no-messages : (segments : List Segment) → list_any calls (cells_of_segments segments) ≡ false
    → HasNoMessages segments
no-messages segments none number network cell i column row is found =
    none-found network.cells column row cell
    (none-in-segment segments (number - 1) i (slice_get segments (number - 1)) network none refl is)
    found

no-rows : (rows : List PowerRow) → (length rows == 0) ≡ true → rows ≡ []
no-rows [] is = refl
no-rows (row ∷ rows) is =
    absurd (let no' : suc (length rows) ≡ 0 = eqb-true (suc (length rows)) 0 is in cc)

both-true : (a b : Bool) → a && b ≡ true → (a ≡ true) × (b ≡ true)
both-true true true e = (refl, refl)
both-true true false e = absurd (let no' : false ≡ true = e in cc)
both-true false b e = absurd (let no' : false ≡ true = e in cc)

not-true : (a : Bool) → not a ≡ true → a ≡ false
not-true true e = absurd (let no' : false ≡ true = e in cc)
not-true false e = refl

-- a controller that passes the test is alone
pub test-alone : (plan : ControllerPlan) → is_alone plan ≡ true → IsRunnablePlan plan → IsAlone plan
test-alone plan is runs =
    let parts = both-true (length plan.power == 0) _ is in
    record {
      runs = runs;
      power = no-rows plan.power parts.0;
      messages = no-messages plan.segments (not-true _ parts.1);
    }
