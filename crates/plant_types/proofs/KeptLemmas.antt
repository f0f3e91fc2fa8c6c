-- What a store has, a store that keeps its references has.
use Rattle.std.proofs.Common.{◌≡◌, ℕ, true, List, [], ◌∷◌}
use Rattle.std.specs.FinMap.{contains_key}
use Rattle.std.specs.List.{AllByRecursion}
use Rattle.plant_types.specs.declared.reference.Ref.{Ref}
use Rattle.plant_types.specs.declared.element.Element.{Element}
use Rattle.plant_types.specs.declared.network.Cell.{Cell}
use Rattle.plant_types.specs.declared.network.Network.{Network}
use Rattle.plant_types.specs.declared.network.Segment.{Segment}
use Rattle.plant_types.specs.Store.{Contents, HasDiscrete, Keeps}
use Rattle.plant_types.specs.Operands.{OperandKind, OnlyCoil, AnyDiscrete, AnyRegister, OnlyHolding}
use Rattle.plant_types.specs.Operands.{Named}
use Rattle.plant_types.specs.Operands.{names_of, HasKind, HasNamed, HasOperands, HasDiscreteKind}
use Rattle.plant_types.specs.Operands.{HasPast}
use Rattle.plant_types.specs.Checks.{EachOfCells, EachOfNetworks, EachOfSegments, HasPanel}
use Rattle.plant_types.specs.Checks.{KeptStoresFindAll}
use Rattle.plant_types.proofs.RunLemmas.{HasRegisters-kept}

-- what follows for each element of a list follows for all
pub all_follow : {X : Type 0} (P Q : X → Type 0) → ((x : X) → P x → Q x) → (xs : List X)
    → AllByRecursion P xs → AllByRecursion Q xs
all_follow P Q each [] all = tt
all_follow P Q each (x ∷ xs) all = (each x all.0, all_follow P Q each xs all.1)

-- the same of the elements of cells
pub EachOfCells-follow : (P Q : Element → Type 0) → ((element : Element) → P element → Q element)
    → (cells : List Cell)
    → EachOfCells P cells → EachOfCells Q cells
EachOfCells-follow P Q each cells = all_follow (λ (cell : Cell). P cell.element)
    (λ cell. Q cell.element) (λ cell. each cell.element) cells

-- the same of networks
pub EachOfNetworks-follow : (P Q : Element → Type 0) → ((element : Element) → P element → Q element)
    → (networks : List Network)
    → EachOfNetworks P networks → EachOfNetworks Q networks
EachOfNetworks-follow P Q each networks =
    all_follow (λ (network : Network). EachOfCells P network.cells)
    (λ network. EachOfCells Q network.cells)
    (λ network. EachOfCells-follow P Q each network.cells) networks

-- the same of segments: whatever follows for each element follows for all
pub EachOfSegments-follow : (P Q : Element → Type 0) → ((element : Element) → P element → Q element)
    → (segments : List Segment)
    → EachOfSegments P segments → EachOfSegments Q segments
EachOfSegments-follow P Q each segments =
    all_follow (λ (segment : Segment). EachOfNetworks P segment.networks)
    (λ segment. EachOfNetworks Q segment.networks)
    (λ segment. EachOfNetworks-follow P Q each segment.networks) segments

-- a discrete that stood still stands
pub HasDiscrete-kept : (m n : Contents) (at : Ref) → Keeps m n → HasDiscrete m at → HasDiscrete n at
HasDiscrete-kept m n at keeps has = (keeps at has.0, has.1)

-- so does each reference of an element
HasKind-kept : (m n : Contents) (at : Ref) (count : ℕ) (kind : OperandKind) → Keeps m n
    → HasKind m at count kind → HasKind n at count kind
HasKind-kept m n at count OnlyCoil keeps has = HasDiscrete-kept m n at keeps has
HasKind-kept m n at count AnyDiscrete keeps has = HasDiscrete-kept m n at keeps has
HasKind-kept m n at count AnyRegister keeps has = HasRegisters-kept m n at count keeps has
HasKind-kept m n at count OnlyHolding keeps has = HasRegisters-kept m n at count keeps has

-- and each discrete of an element
HasDiscreteKind-kept : (m n : Contents) (at : Ref) (kind : OperandKind) → Keeps m n
    → HasDiscreteKind m at kind → HasDiscreteKind n at kind
HasDiscreteKind-kept m n at OnlyCoil keeps has = HasDiscrete-kept m n at keeps has
HasDiscreteKind-kept m n at AnyDiscrete keeps has = HasDiscrete-kept m n at keeps has
HasDiscreteKind-kept m n at AnyRegister keeps has = tt
HasDiscreteKind-kept m n at OnlyHolding keeps has = tt

-- what an element asks of a store
pub HasOperands-kept : (m n : Contents) (element : Element) → Keeps m n → HasOperands m element
    → HasOperands n element
HasOperands-kept m n element keeps has = record {
  form = has.form;
  values = has.values;
  references = all_follow (HasNamed m) (HasNamed n) (λ named.
      HasKind-kept m n named.at named.count named.kind keeps) (names_of element) has.references;
}

-- what an element asks of the discretes as the scan before ended
pub HasPast-kept : (m n : Contents) (element : Element) → Keeps m n → HasPast m element
    → HasPast n element
HasPast-kept m n element keeps has =
    all_follow (λ (named : Named). HasDiscreteKind m named.at named.kind)
    (λ named. HasDiscreteKind n named.at named.kind)
    (λ named. HasDiscreteKind-kept m n named.at named.kind keeps) (names_of element) has

-- what a panel asks of a store
pub HasPanel-kept : (m n : Contents) (panel : List Ref) → Keeps m n → HasPanel m panel
    → HasPanel n panel
HasPanel-kept m n panel keeps =
    all_follow (λ at. contains_key m at ≡ true) (λ at. contains_key n at ≡ true) keeps panel

-- what a store has for elements and panels
pub kept-find_all : KeptStoresFindAll
kept-find_all = record {
  operands = λ m n segments keeps. EachOfSegments-follow (HasOperands m) (HasOperands n)
      (λ element. HasOperands-kept m n element keeps) segments;
  past = λ m n segments keeps. EachOfSegments-follow (HasPast m) (HasPast n)
      (λ element. HasPast-kept m n element keeps) segments;
  panel = HasPanel-kept;
}
