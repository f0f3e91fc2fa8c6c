-- What the solve of a segment leaves of the table of message blocks where there are none.
use Rattle.std.proofs.Common.{◌≡◌, ℕ, ◌≤◌, true, false, List, refl, ◌∙◌}
use Rattle.plant_types.specs.declared.element.Element.{Element}
use Rattle.plant_types.specs.declared.element.Element.TheVariants.{Open, Closed, Rise, Fall, Coil}
use Rattle.plant_types.specs.declared.element.Element.TheVariants.{Latch, Wire, Timer, Counter}
use Rattle.plant_types.specs.declared.element.Element.TheVariants.{Math, Move, Matrix, Skip, Label}
use Rattle.plant_types.specs.declared.element.Element.TheVariants.{Call, Return, Mstr}
use Rattle.plant_types.specs.declared.network.Segment.{Segment}
use Rattle.plant_types.specs.declared.power.NodePower.{NodePower}
use Rattle.plant_types.specs.Standing.{is_message}
use Rattle.ladder_solver.specs.declared.places.BlockPlace.{BlockPlace}
use Rattle.ladder_solver.specs.State.{SolveState}
use Rattle.ladder_solver.specs.Flow.{Setting, solved_element}
use Rattle.ladder_solver.specs.Segment.{segment_after}
use Rattle.alike_states.specs.Alone.{HasNoMessages}
use Rattle.alike_states.proofs.Kept.{is_call, segment-keeps}

-- the table is the same in two states
abbrev Same : SolveState → SolveState → Type 0
Same before after = after.table ≡ before.table

-- an element is no message block
abbrev Fits : BlockPlace → Element → Type 0
Fits place element = is_message element ≡ false

element-same : (setting : Setting) (element : Element) (place : BlockPlace) (inputs : NodePower)
    (s : SolveState) → Fits place element → is_call element ≡ false
    → Same s (solved_element setting element place inputs s).0.1
element-same setting (Open at) place inputs s fits plain = refl
element-same setting (Closed at) place inputs s fits plain = refl
element-same setting (Rise at) place inputs s fits plain = refl
element-same setting (Fall at) place inputs s fits plain = refl
element-same setting (Coil at) place inputs s fits plain = refl
element-same setting (Latch at) place inputs s fits plain = refl
element-same setting Wire place inputs s fits plain = refl
element-same setting (Timer unit preset acc) place inputs s fits plain = refl
element-same setting (Counter up preset acc) place inputs s fits plain = refl
element-same setting (Math op top mid low) place inputs s fits plain = refl
element-same setting (Move op top mid length) place inputs s fits plain = refl
element-same setting (Matrix op top mid length) place inputs s fits plain = refl
element-same setting (Skip count) place inputs s fits plain = refl
element-same setting (Label number) place inputs s fits plain = refl
element-same setting (Call number) place inputs s fits plain =
    absurd (let no' : true ≡ false = plain in cc)
element-same setting Return place inputs s fits plain = refl
element-same setting (Mstr control area length) place inputs s fits plain =
    absurd (let no' : true ≡ false = fits in cc)

pub segment-same : (segments : List Segment) → HasNoMessages segments → (number : ℕ)
    (s : SolveState) → 1 ≤ number → Same s (segment_after segments number s)
segment-same segments none number s from =
    segment-keeps Fits Same (λ s. refl) (λ a b c one other. other ∙ one) (λ s. refl) element-same
    segments
    (λ number from i network is column row cell left right top bottom found.
    none number network cell i column row is found)
    number s from
