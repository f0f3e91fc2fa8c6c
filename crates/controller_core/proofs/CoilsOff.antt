-- The coils that go off as power fails.
use Rattle.std.proofs.Common.{◌≡◌, ◌<◌, ℕ, ◌+◌, List, [], ◌∷◌, ◌++◌, length, drop, get_or, Option}
use Rattle.std.proofs.Common.{Some, None, sym, ap, subst, ◌∙◌}
use Rattle.std.proofs.lemmas.List.{at_drop_more}
use Rattle.std.proofs.lemmas.List.Elements.{filter_map-append}
use Rattle.std.proofs.lemmas.List.Sums.{fold-append}
use Rattle.std.specs.List.{cons_option}
use Rattle.plant_types.specs.declared.element.Element.{Element}
use Rattle.plant_types.specs.declared.element.Element.TheVariants.{Coil}
use Rattle.plant_types.specs.declared.network.Cell.{Cell}
use Rattle.plant_types.specs.declared.network.Network.{Network}
use Rattle.plant_types.specs.declared.network.Segment.{Segment}
use Rattle.plant_types.specs.declared.reference.Ref.{Ref}
use Rattle.plant_types.specs.Checks.{EachOfCells, EachOfNetworks, EachOfSegments}
use Rattle.plant_types.specs.Operands.{HasOperands}
use Rattle.plant_types.specs.Standing.{cells_of_networks, cells_of_segments}
use Rattle.plant_types.specs.Store.{Contents, Keeps}
use Rattle.controller_core.specs.Machine.{HasCoils}
use Rattle.controller_core.specs.Replay.{coils_off, unlatched_coil, unlatched_coils}

-- ---- coils

-- the coils of more cells go off behind those of the first
pub off-append : (m : Contents) (cells more : List Cell)
    → coils_off (unlatched_coils (cells ++ more)) m
    ≡ coils_off (unlatched_coils more) (coils_off (unlatched_coils cells) m)
off-append m cells more =
    ap (λ (coils : List Ref). coils_off coils m)
    (filter_map-append (λ (cell : Cell). unlatched_coil cell.element) cells more)
    ∙ fold-append _ m (unlatched_coils cells) (unlatched_coils more)

-- what is there of two lists is there of each
apart : (m : Contents) (first rest : List Ref) → HasCoils m (first ++ rest)
    → HasCoils m first × HasCoils m rest
apart m [] rest all = (tt, all)
apart m (at ∷ first) rest all = let two = apart m first rest all.1 in ((all.0, two.0), two.1)

together : (m : Contents) (first rest : List Ref) → HasCoils m first → HasCoils m rest
    → HasCoils m (first ++ rest)
together m [] rest one other = other
together m (at ∷ first) rest one other = (one.0, together m first rest one.1 other)

pub there-append : (m : Contents) (cells more : List Cell)
    → HasCoils m (unlatched_coils (cells ++ more))
    → HasCoils m (unlatched_coils cells) × HasCoils m (unlatched_coils more)
there-append m cells more all =
    apart m (unlatched_coils cells) (unlatched_coils more)
    (subst (HasCoils m)
    (filter_map-append (λ (cell : Cell). unlatched_coil cell.element) cells more) all)

pub there-kept : (m n : Contents) (coils : List Ref) → Keeps m n → HasCoils m coils
    → HasCoils n coils
there-kept m n [] keeps all = tt
there-kept m n (at ∷ coils) keeps all =
    ((keeps at all.0.0, all.0.1), there-kept m n coils keeps all.1)

-- the coil of a cell is one of its operands
coil-there : (m : Contents) (element : Element) → HasOperands m element
    → HasCoils m (cons_option (unlatched_coil element) [])
coil-there m (Coil at) has = (has.references.0, tt)
coil-there m _ has = tt

cells-there : (m : Contents) (cells : List Cell) → EachOfCells (HasOperands m) cells
    → HasCoils m (unlatched_coils cells)
cells-there m [] each = tt
cells-there m (cell ∷ cells) each =
    by (unlatched_coil cell.element) (coil-there m cell.element each.0)
    (cells-there m cells each.1)
  where
    by : (coil : Option Ref) → HasCoils m (cons_option coil []) → HasCoils m (unlatched_coils cells)
        → HasCoils m (cons_option coil (unlatched_coils cells))
    by None has later = later
    by (Some at) has later = (has.0, later)

joined-there : (m : Contents) (cells more : List Cell) → HasCoils m (unlatched_coils cells)
    → HasCoils m (unlatched_coils more) → HasCoils m (unlatched_coils (cells ++ more))
joined-there m cells more one other =
    subst (HasCoils m)
    (sym (filter_map-append (λ (cell : Cell). unlatched_coil cell.element) cells more))
    (together m (unlatched_coils cells) (unlatched_coils more) one other)

networks-there : (m : Contents) (networks : List Network) → EachOfNetworks (HasOperands m) networks
    → HasCoils m (unlatched_coils (cells_of_networks networks))
networks-there m [] each = tt
networks-there m (network ∷ networks) each =
    joined-there m network.cells (cells_of_networks networks)
    (cells-there m network.cells each.0) (networks-there m networks each.1)

pub segments-there : (m : Contents) (segments : List Segment)
    → EachOfSegments (HasOperands m) segments
    → HasCoils m (unlatched_coils (cells_of_segments segments))
segments-there m [] each = tt
segments-there m (segment ∷ segments) each =
    joined-there m (cells_of_networks segment.networks) (cells_of_segments segments)
    (networks-there m segment.networks each.0) (segments-there m segments each.1)

-- ---- one item more

-- the first of the cells that are left, and those behind it
pub record OffNext (m n : Contents) (all rest : List Cell) : Type 0 where
  pub off : coils_off (unlatched_coils rest) n ≡ coils_off (unlatched_coils all) m
  pub there : HasCoils n (unlatched_coils rest)

pub off_next : (m n : Contents) (all first rest : List Cell) → all ≡ first ++ rest
    → n ≡ coils_off (unlatched_coils first) m → Keeps m n → HasCoils m (unlatched_coils all)
    → OffNext m n all rest
off_next m n all first rest split is keeps has = record {
  off = ap (coils_off (unlatched_coils rest)) is ∙ sym (off-append m first rest)
      ∙ ap (λ (l : List Cell). coils_off (unlatched_coils l) m) (sym split);
  there = there-kept m n (unlatched_coils rest) keeps (there-append m first rest
      (subst (λ (l : List Cell). HasCoils m (unlatched_coils l)) split has)).1;
}

pub there_first : (m : Contents) (all first rest : List Cell) → all ≡ first ++ rest
    → HasCoils m (unlatched_coils all) → HasCoils m (unlatched_coils first)
there_first m all first rest split has =
    (there-append m first rest
    (subst (λ (l : List Cell). HasCoils m (unlatched_coils l)) split has)).0

-- what is left of a list from an item on is the item, and what is left behind it
pub drop_item : {X : Type 0} (xs : List X) (i : ℕ) (x : X) → i < length xs → x ≡ get_or xs i x
    → drop i xs ≡ x ∷ drop (i + 1) xs
drop_item {X} xs i x low is =
    at_drop_more (λ (l : List X). l) xs i x low
    ∙ ap (λ (y : X). y ∷ drop (i + 1) xs) (sym is)
