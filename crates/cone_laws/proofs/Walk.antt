-- The solve of a segment in two states that agree on a closed set.
use Rattle.std.proofs.Common.{◌≡◌, ℕ, zero, suc, ◌+◌, ◌-◌, ◌==◌, Bool, true, false, cond, List, []}
use Rattle.std.proofs.Common.{◌∷◌, Option, Some, None, refl, sym, ap, subst, ◌∙◌, length, arith, take}
use Rattle.std.specs.Prelude.{if◌then◌else◌, slice_get, find}
use Rattle.std.specs.List.{before_first, position_or_len, list_any, list_all, AllByRecursion}
use Rattle.std.specs.Option.{option_map}
use Rattle.std.proofs.lemmas.Bool.{and_parts}
use Rattle.plant_types.specs.declared.network.Cell.{Cell}
use Rattle.plant_types.specs.declared.network.Network.{Network}
use Rattle.plant_types.specs.declared.network.Segment.{Segment}
use Rattle.plant_types.specs.declared.network.Short.{Short}
use Rattle.plant_types.specs.declared.power.NodePower.{NodePower}
use Rattle.plant_types.specs.Discretes.{Refs}
use Rattle.plant_types.specs.Standing.{is_message}
use Rattle.grid_compile.specs.Cells.{cell_at}
use Rattle.ladder_solver.specs.State.{SolveState}
use Rattle.ladder_solver.specs.Flow.{Setting}
use Rattle.ladder_solver.specs.Network.{Power, Place, element_at, while_going, solved_at, rows_after}
use Rattle.ladder_solver.specs.Network.{columns_after, place_in, inputs_at, with_outputs}
use Rattle.ladder_solver.specs.Segment.{rest_behind, network_turn, networks_after, setting_of}
use Rattle.ladder_solver.specs.Segment.{calls_within, setting_within, call_depth, last_networks}
use Rattle.ladder_solver.specs.Segment.{segment_after}
use Rattle.ladder_solver.specs.Numbers.{networks_of, networks_if}
use Rattle.ladder_solver.specs.Subroutine.{Subroutine, subroutine_of, subroutine_from, is_labelled}
use Rattle.ladder_solver.specs.Subroutine.{has_label_number}
use Rattle.alike_states.specs.Alone.{HasNoMessages}
use Rattle.alike_states.proofs.Hours.{start_of}
use Rattle.cone_of.specs.Uses.{matters_to, has_read, network_matters}
use Rattle.cone_of.specs.Cone.{HasNetwork, HasSegments}
use Rattle.cone_laws.specs.Agree.{found_matters, Agree}
use Rattle.cone_laws.proofs.Named.{or_parts}
use Rattle.cone_laws.proofs.Elements.{BothFound, CallsAgree, agrees-itself}
use Rattle.cone_laws.proofs.Elements.{agrees-back, agrees-on, element-both, element-passes}

-- ---- lists

taken-get : {X : Type 0} (n : ℕ) (xs : List X) (i : ℕ) (x : X) → slice_get (take n xs) i ≡ Some x
    → slice_get xs i ≡ Some x
taken-get zero xs i x is = absurd (let no' : None ≡ Some x = is in cc)
taken-get (suc n) [] i x is = is
taken-get (suc n) (y ∷ xs) zero x is = is
taken-get (suc n) (y ∷ xs) (suc i) x is = taken-get n xs i x is

all-at : {X : Type 0} (P : X → Type 0) (xs : List X) (i : ℕ) (x : X) → AllByRecursion P xs
    → slice_get xs i ≡ Some x → P x
all-at P [] i x all is = absurd (let no' : None ≡ Some x = is in cc)
all-at P (y ∷ xs) zero x all is = let e : y ≡ x = cc in subst P e all.0
all-at P (y ∷ xs) (suc i) x all is = all-at P xs i x all.1 is

-- a cell that is found passes a test that all pass, and fails one that none passes
found-by : {X : Type 0} (P : X → Type 0) (test : Bool) (y : X) (rest : Option X) (x : X)
    → cond test (Some y) rest ≡ Some x → P y → (rest ≡ Some x → P x) → P x
found-by P true y rest x is here there = let e : y ≡ x = cc in subst P e here
found-by P false y rest x is here there = there is

found-passes : {X : Type 0} (place test : X → Bool) (xs : List X) (x : X) → find place xs ≡ Some x
    → list_all test xs ≡ true → test x ≡ true
found-passes place test [] x is all = absurd (let no' : None ≡ Some x = is in cc)
found-passes place test (y ∷ xs) x is all =
    let parts = and_parts (test y) (list_all test xs) all in
    found-by (λ z. test z ≡ true) (place y) y (find place xs) x is parts.0
    (λ there. found-passes place test xs x there parts.1)

found-fails : {X : Type 0} (place test : X → Bool) (xs : List X) (x : X) → find place xs ≡ Some x
    → list_any test xs ≡ false → test x ≡ false
found-fails place test [] x is none = absurd (let no' : None ≡ Some x = is in cc)
found-fails place test (y ∷ xs) x is none =
    let parts = or_parts (test y) (list_any test xs) none in
    found-by (λ z. test z ≡ false) (place y) y (find place xs) x is parts.0
    (λ there. found-fails place test xs x there parts.1)

-- ---- where networks stand

-- something holds of each of networks from a number on
abbrev Stand : (ℕ → Network → Type 0) → ℕ → List Network → Type 0
Stand Such number networks =
    (i : ℕ) (network : Network) → slice_get networks i ≡ Some network → Such (number + i) network

module _ (Such : ℕ → Network → Type 0) where
  stand-rest : (number : ℕ) (network : Network) (networks : List Network)
      → Stand Such number (network ∷ networks) → Stand Such (number + 1) networks
  stand-rest number network networks stand i other is =
      let e : number + suc i ≡ number + 1 + i = omega arith in
      subst (λ n. Such n other) e (stand (suc i) other is)

  stand-first : (number : ℕ) (network : Network) (networks : List Network)
      → Stand Such number (network ∷ networks) → Such number network
  stand-first number network networks stand =
      let e : number + 0 ≡ number = omega arith in
      subst (λ n. Such n network) e (stand 0 network refl)

  found-stands : (number : ℕ) (network : Network) (networks : List Network)
      → Stand Such number (network ∷ networks)
      → Stand Such number (network ∷ before_first is_labelled networks)
  found-stands number network networks stand zero other is = stand zero other is
  found-stands number network networks stand (suc i) other is =
      stand (suc i) other (taken-get (position_or_len is_labelled networks) networks i other is)

  subroutine-by : (label number : ℕ) (network : Network) (networks : List Network)
      (found : Subroutine) (b : Bool) → Stand Such number (network ∷ networks)
      → (subroutine_from label (number + 1) networks ≡ Some found
      → Stand Such found.first found.networks)
      → (if b then Some (record {
        first = number;
        networks = network ∷ before_first is_labelled networks;
      }) else subroutine_from label (number + 1) networks) ≡ Some found
      → Stand Such found.first found.networks
  subroutine-by label number network networks found true stand rest is =
      let e : record { first = number; networks = network ∷ before_first is_labelled networks }
      ≡ found = cc in
      subst (λ (f : Subroutine). Stand Such f.first f.networks) e
      (found-stands number network networks stand)
  subroutine-by label number network networks found false stand rest is = rest is

  subroutine-stands : (label number : ℕ) (networks : List Network) (found : Subroutine)
      → Stand Such number networks → subroutine_from label number networks ≡ Some found
      → Stand Such found.first found.networks
  unfolding subroutine_from
  subroutine-stands label number [] found stand is =
      absurd (let no' : None ≡ Some found = is in cc)
  subroutine-stands label number (network ∷ networks) found stand is =
      subroutine-by label number network networks found (has_label_number label network) stand
      (subroutine-stands label (number + 1) networks found
      (stand-rest number network networks stand)) is

-- two solves of a network stand alike: their states agree, the same places are on, and both go on
-- alike
record SamePower (segments : List Segment) (set : Refs) (p q : Power) : Type 0 where
  states : Agree segments set p.state q.state
  on : p.on ≡ q.on
  flow : p.flow ≡ q.flow

-- two solves of a network end alike
record SameEnd (segments : List Segment) (set : Refs) (p q : Power) : Type 0 where
  states : Agree segments set p.state q.state
  flow : p.flow ≡ q.flow

-- a solve of a network left the agreement as it was, and goes on
record Onward (segments : List Segment) (set : Refs) (s : SolveState) (p : Power) : Type 0 where
  states : Agree segments set s p.state
  flow : p.flow ≡ (start_of s).flow

module _ (segments : List Segment) (set : Refs) (none : HasNoMessages segments)
    (closed : HasSegments set segments) where
  -- a network stands in its segment
  abbrev StandsAt : ℕ → ℕ → Network → Type 0
  StandsAt segment number network =
      slice_get (networks_of segments segment) (number - 1) ≡ Some network

  closed-by : (found : Option Segment) (k i : ℕ) (network : Network) → slice_get segments k ≡ found
      → slice_get (networks_if found) i ≡ Some network → HasNetwork set network
  closed-by None k i network is at = absurd (let no' : None ≡ Some network = at in cc)
  closed-by (Some segment) k i network is at =
      all-at (HasNetwork set) segment.networks i network
      (all-at (λ (other : Segment). AllByRecursion (HasNetwork set) other.networks) segments k
      segment closed is) at

  closed-at : (segment number : ℕ) (network : Network) → StandsAt segment number network
      → HasNetwork set network
  closed-at segment number network at =
      closed-by (slice_get segments (segment - 1)) (segment - 1) (number - 1) network refl at

  module _ (setting : Setting) (calls : CallsAgree segments set setting) (network : Network)
      (segment number : ℕ) (at : StandsAt segment number network) where
    plain : (column row : ℕ) (cell : Cell) → cell_at network.cells column row ≡ Some cell
        → is_message cell.element ≡ false
    plain column row cell found = none segment network cell (number - 1) column row at found

    -- ---- a network that matters

    module _ (matters : network_matters set network ≡ true) where
      at-both : (shorts : List Short) (column row : ℕ) (cell : Cell) (p q : Power)
          → cell_at network.cells column row ≡ Some cell → SamePower segments set p q
          → SamePower segments set
          (element_at setting shorts (record { segment = segment; network = number }) column row
          cell.element p)
          (element_at setting shorts (record { segment = segment; network = number }) column row
          cell.element q)
      at-both shorts column row cell p q found same =
          let place = place_in (record { segment = segment; network = number }) column row in
          let both = element-both segments set setting cell.element place
          (inputs_at shorts p.on column row) p.state q.state calls same.states
          (plain column row cell found) (ap (found_matters set) at ∙ matters)
          (found-passes _ (λ (c : Cell). has_read set c.element) network.cells cell found
          (closed-at segment number network at matters)) in
          let next : SamePower segments set
          (element_at setting shorts (record { segment = segment; network = number }) column row
          cell.element p)
          (element_at setting shorts (record { segment = segment; network = number }) column row
          cell.element (record q { on = p.on })) =
          record {
            states = both.states;
            on = ap (λ (o : NodePower). with_outputs o column row p.on) both.outputs;
            flow = both.flow;
          } in
          subst (λ (on : List Place). SamePower segments set
          (element_at setting shorts (record { segment = segment; network = number }) column row
          cell.element p)
          (element_at setting shorts (record { segment = segment; network = number }) column row
          cell.element (record q { on = on }))) same.on next

      going-by : (r p q next other : Power) → SamePower segments set p q
          → SamePower segments set next other
          → SamePower segments set (while_going r.flow next p) (while_going r.flow other q)
      going-by r p q next other same both = grind (arith, same, both)

      going-both : (p q next other : Power) → SamePower segments set p q
          → SamePower segments set next other
          → SamePower segments set (while_going p.flow next p) (while_going q.flow other q)
      going-both p q next other same both =
          subst (λ f. SamePower segments set (while_going p.flow next p) (while_going f other q))
          same.flow (going-by p p q next other same both)

      cell-both : (shorts : List Short) (column row : ℕ) (found : Option Cell) (p q : Power)
          → cell_at network.cells column row ≡ found → SamePower segments set p q
          → SamePower segments set
          (solved_at setting shorts (record { segment = segment; network = number }) column row
          found p)
          (solved_at setting shorts (record { segment = segment; network = number }) column row
          found q)
      cell-both shorts column row None p q is same = same
      cell-both shorts column row (Some cell) p q is same =
          going-both p q _ _ same (at-both shorts column row cell p q is same)

      rows-both : (column row count : ℕ) (p q : Power) → SamePower segments set p q
          → SamePower segments set
          (rows_after setting network (record { segment = segment; network = number }) column row
          count p)
          (rows_after setting network (record { segment = segment; network = number }) column row
          count q)
      unfolding rows_after
      rows-both column row zero p q same = same
      rows-both column row (suc count) p q same =
          rows-both column (row + 1) count _ _
          (cell-both network.shorts column row (cell_at network.cells column row) p q refl same)

      columns-both : (column count : ℕ) (p q : Power) → SamePower segments set p q
          → SamePower segments set
          (columns_after setting network (record { segment = segment; network = number }) column
          count p)
          (columns_after setting network (record { segment = segment; network = number }) column
          count q)
      unfolding columns_after
      columns-both column zero p q same = same
      columns-both column (suc count) p q same =
          columns-both (column + 1) count _ _ (rows-both column 1 7 p q same)

    -- ---- a network that doesn't

    module _ (apart : network_matters set network ≡ false) (s : SolveState) where
      cell-onward : (shorts : List Short) (column row : ℕ) (found : Option Cell) (p : Power)
          → cell_at network.cells column row ≡ found → Onward segments set s p
          → Onward segments set s
          (solved_at setting shorts (record { segment = segment; network = number }) column row
          found p)
      cell-onward shorts column row None p is so = so
      cell-onward shorts column row (Some cell) p is so =
          let place = place_in (record { segment = segment; network = number }) column row in
          let next = element_at setting shorts (record { segment = segment; network = number })
          column row cell.element p in
          let passes = element-passes segments set setting cell.element place
          (inputs_at shorts p.on column row) p.state (plain column row cell is)
          (ap (found_matters set) at ∙ apart)
          (found-fails _ (λ (c : Cell). matters_to set c.element) network.cells cell is apart) in
          let after : Onward segments set s next = record {
            states = agrees-on segments set s p.state next.state so.states passes.states;
            flow = passes.flow;
          } in
          subst (λ f. Onward segments set s (while_going f next p)) (sym so.flow) after

      rows-onward : (column row count : ℕ) (p : Power) → Onward segments set s p
          → Onward segments set s
          (rows_after setting network (record { segment = segment; network = number }) column row
          count p)
      unfolding rows_after
      rows-onward column row zero p so = so
      rows-onward column row (suc count) p so =
          rows-onward column (row + 1) count _
          (cell-onward network.shorts column row (cell_at network.cells column row) p refl so)

      columns-onward : (column count : ℕ) (p : Power) → Onward segments set s p
          → Onward segments set s
          (columns_after setting network (record { segment = segment; network = number }) column
          count p)
      unfolding columns_after
      columns-onward column zero p so = so
      columns-onward column (suc count) p so =
          columns-onward (column + 1) count _ (rows-onward column 1 7 p so)

    -- ---- either

    network-both : (b : Bool) (s t : SolveState) → network_matters set network ≡ b
        → Agree segments set s t
        → SameEnd segments set
        (columns_after setting network (record { segment = segment; network = number }) 1 11
        (start_of s))
        (columns_after setting network (record { segment = segment; network = number }) 1 11
        (start_of t))
    network-both true s t matters a =
        let both = columns-both matters 1 11 (start_of s) (start_of t)
        (record { states = a; on = refl; flow = refl }) in
        record { states = both.states; flow = both.flow }
    network-both false s t apart a =
        let one = columns-onward apart s 1 11 (start_of s)
        (record { states = agrees-itself segments set s; flow = refl }) in
        let other = columns-onward apart t 1 11 (start_of t)
        (record { states = agrees-itself segments set t; flow = refl }) in
        record {
          states = agrees-on segments set _ s _ (agrees-back segments set s _ one.states)
              (agrees-on segments set s t _ a other.states);
          flow = one.flow ∙ sym other.flow;
        }

    rest-by : (r : Power) (rest : ℕ → SolveState → SolveState) (s t : SolveState)
        → Agree segments set s t
        → ((skipped : ℕ) (s t : SolveState) → Agree segments set s t
        → Agree segments set (rest skipped s) (rest skipped t))
        → Agree segments set (rest_behind r.flow rest s) (rest_behind r.flow rest t)
    rest-by r rest s t a keeps = grind (arith, a, keeps)

    begun-both : (b c : Bool) (s t s' t' : SolveState) → b ≡ c → Agree segments set s t
        → Agree segments set s' t'
        → Agree segments set (if b then s else s') (if c then t else t')
    begun-both true true s t s' t' same one other = one
    begun-both false false s t s' t' same one other = other
    begun-both true false s t s' t' same one other = absurd (let no' : true ≡ false = same in cc)
    begun-both false true s t s' t' same one other = absurd (let no' : false ≡ true = same in cc)

    turn-both : (rest : ℕ → SolveState → SolveState) (s t : SolveState) → Agree segments set s t
        → ((skipped : ℕ) (s t : SolveState) → Agree segments set s t
        → Agree segments set (rest skipped s) (rest skipped t))
        → Agree segments set
        (network_turn setting network (record { segment = segment; network = number }) rest s)
        (network_turn setting network (record { segment = segment; network = number }) rest t)
    turn-both rest s t a keeps =
        let one = record s { left = s.left - 1 } in
        let other = record t { left = t.left - 1 } in
        let begun : Agree segments set one other = record {
          references = a.references;
          past = a.past;
          edges = a.edges;
          clock = a.clock;
          left = ap (λ n. n - 1) a.left;
        } in
        let p : Power = columns_after setting network
        (record { segment = segment; network = number }) 1 11 (start_of one) in
        let q : Power = columns_after setting network
        (record { segment = segment; network = number }) 1 11 (start_of other) in
        let end : SameEnd segments set p q =
        network-both (network_matters set network) one other refl begun in
        begun-both (one.left == 0) (other.left == 0) one other (rest_behind p.flow rest p.state)
        (rest_behind q.flow rest q.state) (ap (λ n. n == 0) begun.left) begun
        (subst (λ f. Agree segments set (rest_behind p.flow rest p.state)
        (rest_behind f rest q.state)) end.flow (rest-by p rest p.state q.state end.states keeps))

  networks-both : (setting : Setting) → CallsAgree segments set setting → (segment number : ℕ)
      (networks : List Network) → Stand (StandsAt segment) number networks → (skipped : ℕ)
      (s t : SolveState) → Agree segments set s t
      → Agree segments set (networks_after setting segment number networks skipped s)
      (networks_after setting segment number networks skipped t)
  unfolding networks_after
  networks-both setting calls segment number [] stand skipped s t a = a
  networks-both setting calls segment number (network ∷ networks) stand (suc skipped) s t a =
      networks-both setting calls segment (number + 1) networks
      (stand-rest (StandsAt segment) number network networks stand) skipped s t a
  networks-both setting calls segment number (network ∷ networks) stand zero s t a =
      turn-both setting calls network segment number
      (stand-first (StandsAt segment) number network networks stand)
      (networks_after setting segment (number + 1) networks) s t a
      (networks-both setting calls segment (number + 1) networks
      (stand-rest (StandsAt segment) number network networks stand))

  segment-stands : (segment : ℕ) → Stand (StandsAt segment) 1 (networks_of segments segment)
  segment-stands segment i network is =
      let e : 1 + i - 1 ≡ i = omega arith in
      ap (slice_get (networks_of segments segment)) e ∙ is

  some-both : (setting : Setting) → CallsAgree segments set setting → (segment : ℕ)
      (found : Option Subroutine) (s t : SolveState)
      → ((called : Subroutine) → found ≡ Some called
      → Stand (StandsAt segment) called.first called.networks)
      → Agree segments set s t
      → BothFound segments set
      (option_map (λ (called : Subroutine). networks_after setting segment called.first
      called.networks 0 s) found)
      (option_map (λ (called : Subroutine). networks_after setting segment called.first
      called.networks 0 t) found)
  some-both setting calls segment None s t stand a = tt
  some-both setting calls segment (Some called) s t stand a =
      networks-both setting calls segment called.first called.networks (stand called refl) 0 s t a

  calls-both : (depth number : ℕ) (s t : SolveState) → Agree segments set s t
      → BothFound segments set (calls_within depth segments number s)
      (calls_within depth segments number t)
  unfolding calls_within
  calls-both zero number s t a = tt
  calls-both (suc depth) number s t a =
      some-both (setting_of segments (calls_within depth segments)) (calls-both depth)
      (length segments) (subroutine_of (last_networks segments) number) s t
      (λ called found. subroutine-stands (StandsAt (length segments)) number 1
      (last_networks segments) called (segment-stands (length segments)) found) a

  pub segment-both : (number : ℕ) (s t : SolveState) → Agree segments set s t
      → Agree segments set (segment_after segments number s) (segment_after segments number t)
  segment-both number s t a =
      networks-both (setting_within call_depth segments) (calls-both call_depth) number 1
      (networks_of segments number) (segment-stands number) 0 s t a
