use Rattle.std.proofs.Common.{◌≡◌, ◌<◌, ℕ, ◌+◌, List, [], ◌∷◌, length, get_or, drop, ◌∙◌}
use Rattle.std.proofs.lemmas.List.{at_drop_more}
use Rattle.plant_types.specs.declared.element.Element.TheVariants.{Open}
use Rattle.plant_types.specs.declared.network.Cell.{Cell}
use Rattle.plant_types.specs.declared.reference.RefKind.TheVariants.{Coil}
use Rattle.controller_core.proofs.CoilsOff.{off_next, there_first}
use Rattle.controller_core.proofs.failing.switch_cells_off.Goals as goal

-- what stands for a cell behind the last one
abbrev no_cell : Cell
no_cell =
    record { row = 0; column = 0; element = Open (record { kind = Coil; number = 0 }) }

split_at : (xs : List Cell) (i : ℕ) → i < length xs
    → drop i xs ≡ get_or xs i no_cell ∷ drop (i + 1) xs
split_at xs i low = at_drop_more (λ (l : List Cell). l) xs i no_cell low

pub switch_cell_off-requires : goal.switch_cell_off-requires
switch_cell_off-requires c =
    let xs = c.args.cells.now in
    let i = c.loop-cell.cell-index in
    there_first c.loop-cell.ram (drop i xs) (get_or xs i no_cell ∷ []) (drop (i + 1) xs)
    (split_at xs i c.loop-cell-test.true) c.loop-cell.invariant.there

pub loop-cell-preserved : goal.loop-cell-preserved
loop-cell-preserved c =
    let xs = c.args.cells.now in
    let i = c.loop-cell.cell-index in
    let made = c.switch_cell_off.ensures in
    let next = off_next c.loop-cell.ram c.switch_cell_off.new.ram (drop i xs)
    (get_or xs i no_cell ∷ []) (drop (i + 1) xs) (split_at xs i c.loop-cell-test.true)
    made.off made.keeps c.loop-cell.invariant.there in
    record {
      off = next.off ∙ c.loop-cell.invariant.off;
      there = next.there;
      keeps = λ at h. made.keeps at (c.loop-cell.invariant.keeps at h);
    }
