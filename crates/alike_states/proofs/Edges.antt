-- What the solve of a segment leaves of an edge bit where no counter stands.
use Rattle.std.proofs.Common.{◌≡◌, ℕ, ◌+◌, ◌-◌, ◌≤◌, Bool, true, false, cond, List, refl, sym, subst}
use Rattle.std.proofs.Common.{◌∙◌, ap, arith}
use Rattle.std.specs.Prelude.{slice_get}
use Rattle.std.specs.Cmp.{Equal-is}
use Rattle.std.specs.FinSet.{contains}
use Rattle.plant_types.specs.declared.element.Element.{Element}
use Rattle.plant_types.specs.declared.element.Element.TheVariants.{Open, Closed, Rise, Fall, Coil}
use Rattle.plant_types.specs.declared.element.Element.TheVariants.{Latch, Wire, Timer, Counter}
use Rattle.plant_types.specs.declared.element.Element.TheVariants.{Math, Move, Matrix, Skip, Label}
use Rattle.plant_types.specs.declared.element.Element.TheVariants.{Call, Return, Mstr}
use Rattle.plant_types.specs.declared.network.Segment.{Segment}
use Rattle.plant_types.specs.declared.power.NodePower.{NodePower}
use Rattle.ladder_solver.specs.declared.places.BlockPlace.{BlockPlace}
use Rattle.ladder_solver.specs.State.{SolveState, Places, place_cmp, with_place}
use Rattle.ladder_solver.specs.Flow.{Setting, solved_element}
use Rattle.ladder_solver.specs.Segment.{segment_after}
use Rattle.ladder_solver.specs.Numbers.{networks_of}
use Rattle.ladder_solver.proofs.PlaceSets.{contains-with_place, is_place, eq_by_cmp-place, exact_places}
use Rattle.alike_states.specs.Counters.{is_counter, IsCounterPlace}
use Rattle.alike_states.proofs.Kept.{is_call, Stand, segment-keeps}

-- a place that passes the test of another is that
same-place : (q place : BlockPlace) → is_place place q ≡ true → q ≡ place
same-place q place t =
    exact_places q place ((Equal-is (place_cmp q place)).0 (eq_by_cmp-place q place ∙ t))

module _ (segments : List Segment) (q : BlockPlace)
    (elsewhere : IsCounterPlace segments q → ⊥) where
  -- a counter stands at its place
  abbrev Fits : BlockPlace → Element → Type 0
  Fits place element = is_counter element ≡ true → IsCounterPlace segments place

  -- the bit of the place is the same in two states
  abbrev Same : SolveState → SolveState → Type 0
  Same before after = contains after.edges q ≡ contains before.edges q

  segment-stands : (number : ℕ) → 1 ≤ number → Stand Fits number 1 (networks_of segments number)
  segment-stands number from i network is column row cell left right top bottom found counts =
      record {
        network = network;
        cell = cell;
        segment_from = from;
        network_from = omega arith;
        in_segment = let e : 1 + i - 1 ≡ i = omega arith in
            ap (slice_get (networks_of segments number)) e ∙ is;
        left = left;
        right = right;
        top = top;
        bottom = bottom;
        in_network = found;
        counts = counts;
      }

  set-same : (places : Places) (place : BlockPlace) (on : Bool) (b : Bool) → is_place place q ≡ b
      → (b ≡ true → ⊥) → contains (with_place places place on) q ≡ contains places q
  set-same places place on true is differs = absurd (differs refl)
  set-same places place on false is differs =
      contains-with_place places place on q ∙ ap (λ b. cond b on (contains places q)) is

  element-same : (setting : Setting) (element : Element) (place : BlockPlace) (inputs : NodePower)
      (s : SolveState) → Fits place element → is_call element ≡ false
      → Same s (solved_element setting element place inputs s).0.1
  element-same setting (Open at) place inputs s fits plain = refl
  element-same setting (Closed at) place inputs s fits plain = refl
  element-same setting (Rise at) place inputs s fits plain = refl
  element-same setting (Fall at) place inputs s fits plain = refl
  element-same setting (Coil at) place inputs s fits plain = refl
  element-same setting (Latch at) place inputs s fits plain = refl
  element-same setting Wire place inputs s fits plain = refl
  element-same setting (Timer unit preset acc) place inputs s fits plain = refl
  element-same setting (Counter up preset acc) place inputs s fits plain =
      set-same s.edges place inputs.top (is_place place q) refl
      (λ is. elsewhere (subst (IsCounterPlace segments) (sym (same-place q place is)) (fits refl)))
  element-same setting (Math op top mid low) place inputs s fits plain = refl
  element-same setting (Move op top mid length) place inputs s fits plain = refl
  element-same setting (Matrix op top mid length) place inputs s fits plain = refl
  element-same setting (Skip count) place inputs s fits plain = refl
  element-same setting (Label number) place inputs s fits plain = refl
  element-same setting (Call number) place inputs s fits plain =
      absurd (let no' : true ≡ false = plain in cc)
  element-same setting Return place inputs s fits plain = refl
  element-same setting (Mstr control area length) place inputs s fits plain = refl

  pub segment-same : (number : ℕ) (s : SolveState) → 1 ≤ number
      → Same s (segment_after segments number s)
  segment-same number s from =
      segment-keeps Fits Same (λ s. refl) (λ a b c one other. other ∙ one) (λ s. refl) element-same
      segments segment-stands number s from
