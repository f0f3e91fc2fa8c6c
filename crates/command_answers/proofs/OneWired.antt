-- The lines behind a plant file are the wires of one list, and one of them is the first bad one.
use Rattle.std.proofs.Common.{◌≡◌, ◌≢◌, ◌∙◌, ℕ, ◌-◌, ◌<◌, ◌≤◌, List, [], ◌∷◌, length, take, get_or}
use Rattle.std.proofs.Common.{refl, sym, ap, subst, arith, ⊎_elim}
use Rattle.std.specs.Prelude.{All, AllPairs, map}
use Rattle.std.proofs.lemmas.Bool.{cases_eq, cases_lt}
use Rattle.std.proofs.lemmas.List.{get_or-take, length-take, take-map, take-take}
use Rattle.std.proofs.lemmas.List.Elements.{All-head, All-tail, All-take, All-weaker}
use Rattle.plant_types.specs.declared.plan.Plant.{Plant}
use Rattle.peer_cop.specs.declared.wire.Wire.{Wire}
use Rattle.peer_cop.specs.Lines.{HasSmallNumbers, wire_line}
use Rattle.peer_cop.specs.Plants.{CanBeWired, FitsPlant}
use Rattle.peer_cop.specs.Words.{AreApart}
use Rattle.peer_cop.specs.Wires.{AreWires, IsFirstBad}
use Rattle.peer_cop.proofs.LineLemmas.{same_line}
use Rattle.peer_cop.proofs.PlantLemmas.{wire_small}

-- the first of some wires feed no word twice either
front-apart : (k : ℕ) (wires : List Wire) → AllPairs AreApart wires
    → AllPairs AreApart (take k wires)
front-apart k wires apart i j d before within =
    let size = length-take k wires in
    let below : j < k = omega (arith, within, size) in
    let inside : j < length wires = omega (arith, within, size) in
    subst (λ (one : Wire). AreApart one (get_or (take k wires) j d))
    (sym (get_or-take k wires i d (omega (arith, before, below))))
    (subst (λ (other : Wire). AreApart (get_or wires i d) other)
    (sym (get_or-take k wires j d below)) (apart i j d before inside))

-- so the first of the lines of wires are wires
wires-front : (plant : Plant) (lines : List (List ℕ)) (wires : List Wire) (k : ℕ)
    → AreWires plant lines wires → AreWires plant (take k lines) (take k wires)
wires-front plant lines wires k are = record {
  read = ap (take k) are.read ∙ take-map wire_line k wires;
  fit = All-take (FitsPlant plant) k wires are.fit;
  apart = front-apart k wires are.apart;
}

-- lines of wires are all wires, or one of them is the first that is none
pub wires-or_bad : (plant : Plant) (lines : List (List ℕ)) (wires : List Wire) (line : ℕ)
    → AreWires plant lines wires → IsFirstBad plant lines line → ⊥
wires-or_bad plant lines wires line are first =
    first.bad (take line wires) (wires-front plant lines wires line are)

-- no line before the first bad one is bad
bad-not_before : (plant : Plant) (lines : List (List ℕ)) (line later : ℕ)
    → IsFirstBad plant lines line → IsFirstBad plant lines later → line < later → ⊥
bad-not_before plant lines line later first other less =
    let front = other.before.0 in
    let few : line ≤ later - 1 = omega (arith, less) in
    first.bad (take line front)
    (subst (λ (some : List (List ℕ)). AreWires plant some (take line front))
    (take-take line (later - 1) lines few)
    (wires-front plant (take (later - 1) lines) front line other.before.1))

-- so there is one
pub bad-one : (plant : Plant) (lines : List (List ℕ)) (line other : ℕ)
    → IsFirstBad plant lines line → IsFirstBad plant lines other → line ≡ other
bad-one plant lines line other first also =
    ⊎_elim (λ (same : line ≡ other). same)
    (λ (apart : line ≢ other). absurd (⊎_elim
    (λ (less : line < other). bad-not_before plant lines line other first also less)
    (λ (more : other ≤ line).
    bad-not_before plant lines other line also first (omega (arith, apart, more)))
    (cases_lt line other)))
    (cases_eq line other)

-- wires with small numbers have one line each
small-one : (ones others : List Wire) → All HasSmallNumbers ones → All HasSmallNumbers others
    → map wire_line ones ≡ map wire_line others → ones ≡ others
small-one [] [] small few e = refl
small-one [] (other ∷ others) small few e = absurd cc
small-one (one ∷ ones) [] small few e = absurd cc
small-one (one ∷ ones) (other ∷ others) small few e =
    let first : wire_line one ≡ wire_line other = cc in
    let later : map wire_line ones ≡ map wire_line others = cc in
    let same = same_line one other (All-head HasSmallNumbers one ones small)
    (All-head HasSmallNumbers other others few) first in
    let rest = small-one ones others (All-tail HasSmallNumbers one ones small)
    (All-tail HasSmallNumbers other others few) later in
    cc

fitting-small : (plant : Plant) (wires : List Wire) → CanBeWired plant → All (FitsPlant plant) wires
    → All HasSmallNumbers wires
fitting-small plant wires can fit =
    All-weaker (FitsPlant plant) HasSmallNumbers (λ wire fits. wire_small plant wire can fits)
    wires fit

-- so lines are the wires of one list
pub wires-one : (plant : Plant) (lines : List (List ℕ)) (ones others : List Wire)
    → CanBeWired plant → AreWires plant lines ones → AreWires plant lines others
    → ones ≡ others
wires-one plant lines ones others can are also =
    small-one ones others (fitting-small plant ones can are.fit)
    (fitting-small plant others can also.fit) (sym are.read ∙ also.read)
