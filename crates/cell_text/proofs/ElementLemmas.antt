-- An element has the name and the operands that it was made of.
use Rattle.std.proofs.Common.{◌≡◌, ℕ, List, [], ◌∷◌, Some, refl, sym, ap, ◌∙◌}
use Rattle.std.specs.Prelude.{option_map, option_and_then}
use Rattle.plant_types.specs.declared.reference.Ref.{Ref}
use Rattle.plant_types.specs.declared.element.Operand.{Operand}
use Rattle.plant_types.specs.declared.element.Operand.TheVariants.{Const, At}
use Rattle.plant_types.specs.declared.element.Element.{Element}
use Rattle.plant_types.specs.declared.element.Element.TheVariants.{Open, Closed, Rise, Fall, Coil}
use Rattle.plant_types.specs.declared.element.Element.TheVariants.{Latch, Wire, Timer, Counter}
use Rattle.plant_types.specs.declared.element.Element.TheVariants.{Math, Move, Matrix, Skip, Label}
use Rattle.plant_types.specs.declared.element.Element.TheVariants.{Call, Return, Mstr}
use Rattle.plant_types.specs.declared.name.ElementName.{ElementName}
use Rattle.plant_types.specs.declared.name.ElementName.TheVariants as names
use Rattle.plant_types.specs.Elements.{name_of, operands_of, reference_in, constant_in}
use Rattle.plant_types.specs.Elements.{one_reference, one_operand, without_operands, preset_and_acc}
use Rattle.plant_types.specs.Elements.{numbers_and_low, table_operands, element_of}
use Rattle.cell_text.proofs.StepLemmas.{some-step, some-map}

-- an element was made of a name and operands
pub record MadeOf (element : Element) (name : ElementName) (operands : List Operand) : Type 0 where
  pub names : name_of element ≡ name
  pub takes : operands_of element ≡ operands

-- an operand that is a reference
reference_in-some : (operand : Operand) (at : Ref) → reference_in operand ≡ Some at
    → operand ≡ At at
reference_in-some (At found) at h = cc
reference_in-some (Const n) at h = cc

-- an operand that is a constant
constant_in-some : (operand : Operand) (n : ℕ) → constant_in operand ≡ Some n → operand ≡ Const n
constant_in-some (Const found) n h = cc
constant_in-some (At at) n h = cc

-- operands that are one reference
one_reference-some : (operands : List Operand) (at : Ref) → one_reference operands ≡ Some at
    → operands ≡ At at ∷ []
one_reference-some (operand ∷ []) at h = ap (λ o. o ∷ []) (reference_in-some operand at h)
one_reference-some [] at h = cc
one_reference-some (operand ∷ other ∷ operands) at h = cc

-- operands that are a preset and an accumulator
preset_and_acc-some : (operands : List Operand) (o : Operand × Ref)
    → preset_and_acc operands ≡ Some o → operands ≡ o.0 ∷ At o.1 ∷ []
preset_and_acc-some (preset ∷ acc ∷ []) o h =
    let found = some-map (λ (at : Ref). (preset, at)) (reference_in acc) o h in
    let same : (preset, found.0) ≡ o = found.1.1 in
    rw (← same) (ap (λ operand. preset ∷ operand ∷ []) (reference_in-some acc found.0 found.1.0))
preset_and_acc-some [] o h = cc
preset_and_acc-some (preset ∷ []) o h = cc
preset_and_acc-some (preset ∷ acc ∷ other ∷ operands) o h = cc

-- operands that are two numbers and a reference
numbers_and_low-some : (operands : List Operand) (o : Operand × Operand × Ref)
    → numbers_and_low operands ≡ Some o → operands ≡ o.0 ∷ o.1 ∷ At o.2 ∷ []
numbers_and_low-some (top ∷ mid ∷ low ∷ []) o h =
    let found = some-map (λ (at : Ref). (top, mid, at)) (reference_in low) o h in
    let same : (top, mid, found.0) ≡ o = found.1.1 in
    rw (← same) (ap (λ operand. top ∷ mid ∷ operand ∷ []) (reference_in-some low found.0 found.1.0))
numbers_and_low-some [] o h = cc
numbers_and_low-some (top ∷ []) o h = cc
numbers_and_low-some (top ∷ mid ∷ []) o h = cc
numbers_and_low-some (top ∷ mid ∷ low ∷ other ∷ operands) o h = cc

-- operands that are a top, a reference and a length
table_operands-some : (operands : List Operand) (o : Operand × Ref × ℕ)
    → table_operands operands ≡ Some o → operands ≡ o.0 ∷ At o.1 ∷ Const o.2 ∷ []
table_operands-some (top ∷ mid ∷ length ∷ []) o h =
    let at = some-step (λ (at : Ref). option_map (λ (n : ℕ). (top, at, n)) (constant_in length))
    (reference_in mid) o h in
    let n = some-map (λ (n : ℕ). (top, at.0, n)) (constant_in length) o at.1.1 in
    let same : (top, at.0, n.0) ≡ o = n.1.1 in
    let parts : top ∷ mid ∷ length ∷ [] ≡ top ∷ At at.0 ∷ Const n.0 ∷ [] =
    ap (λ operand. top ∷ operand ∷ length ∷ []) (reference_in-some mid at.0 at.1.0)
    ∙ ap (λ operand. top ∷ At at.0 ∷ operand ∷ []) (constant_in-some length n.0 n.1.0) in
    rw (← same) parts
table_operands-some [] o h = cc
table_operands-some (top ∷ []) o h = cc
table_operands-some (top ∷ mid ∷ []) o h = cc
table_operands-some (top ∷ mid ∷ length ∷ other ∷ operands) o h = cc

-- what one element was made of, another that is the same was
same_made : (made element : Element) (name : ElementName) (parts operands : List Operand)
    → made ≡ element → operands ≡ parts
    → name_of made ≡ name → operands_of made ≡ parts → MadeOf element name operands
same_made made element name parts operands e p n o = record {
  names = ap name_of (sym e) ∙ n;
  takes = ap operands_of (sym e) ∙ o ∙ sym p;
}

-- an element of one reference
one_made : (make : Ref → Element) (name : ElementName) → ((at : Ref) → name_of (make at) ≡ name)
    → ((at : Ref) → operands_of (make at) ≡ At at ∷ [])
    → (operands : List Operand) (element : Element)
    → option_map make (one_reference operands) ≡ Some element → MadeOf element name operands
one_made make name n o operands element h =
    let found = some-map make (one_reference operands) element h in
    same_made (make found.0) element name (At found.0 ∷ []) operands found.1.1
    (one_reference-some operands found.0 found.1.0) (n found.0) (o found.0)

-- operands that are one operand
one_operand-some : (operands : List Operand) (operand : Operand)
    → one_operand operands ≡ Some operand → operands ≡ operand ∷ []
one_operand-some (only ∷ []) operand h = cc
one_operand-some [] operand h = cc
one_operand-some (only ∷ other ∷ operands) operand h = cc

-- an element of one operand
operand_made : (make : Operand → Element) (name : ElementName)
    → ((o : Operand) → name_of (make o) ≡ name)
    → ((o : Operand) → operands_of (make o) ≡ o ∷ [])
    → (operands : List Operand) (element : Element)
    → option_map make (one_operand operands) ≡ Some element → MadeOf element name operands
operand_made make name n o operands element h =
    let found = some-map make (one_operand operands) element h in
    same_made (make found.0) element name (found.0 ∷ []) operands found.1.1
    (one_operand-some operands found.0 found.1.0) (n found.0) (o found.0)

-- an element without operands
bare_made : (bare : Element) (name : ElementName) → name_of bare ≡ name → operands_of bare ≡ []
    → (operands : List Operand) (element : Element) → without_operands bare operands ≡ Some element
    → MadeOf element name operands
bare_made bare name n o [] element h =
    let same : bare ≡ element = (cc) in same_made bare element name [] [] same refl n o
bare_made bare name n o (operand ∷ operands) element h = cc

-- the element of a name and operands was made of them
pub element_of-made : (name : ElementName) (operands : List Operand) (element : Element)
    → element_of name operands ≡ Some element
    → MadeOf element name operands
element_of-made names.Open operands element h =
    one_made Open names.Open (λ at. refl) (λ at. refl) operands element h
element_of-made names.Closed operands element h =
    one_made Closed names.Closed (λ at. refl) (λ at. refl) operands element h
element_of-made names.Rise operands element h =
    one_made Rise names.Rise (λ at. refl) (λ at. refl) operands element h
element_of-made names.Fall operands element h =
    one_made Fall names.Fall (λ at. refl) (λ at. refl) operands element h
element_of-made names.Coil operands element h =
    one_made Coil names.Coil (λ at. refl) (λ at. refl) operands element h
element_of-made names.Latch operands element h =
    one_made Latch names.Latch (λ at. refl) (λ at. refl) operands element h
element_of-made names.Wire operands element h =
    bare_made Wire names.Wire refl refl operands element h
element_of-made names.Return operands element h =
    bare_made Return names.Return refl refl operands element h
element_of-made names.Skip operands element h =
    operand_made Skip names.Skip (λ o. refl) (λ o. refl) operands element h
element_of-made names.Call operands element h =
    operand_made Call names.Call (λ o. refl) (λ o. refl) operands element h
element_of-made names.Label operands element h =
    let number = some-map Label (option_and_then constant_in (one_operand operands)) element h in
    let only = some-step constant_in (one_operand operands) number.0 number.1.0 in
    let parts = one_operand-some operands only.0 only.1.0
    ∙ ap (λ o. o ∷ []) (constant_in-some only.0 number.0 only.1.1) in
    same_made (Label number.0) element names.Label (Const number.0 ∷ []) operands number.1.1
    parts refl refl
element_of-made names.Mstr operands element h =
    let found = some-step (λ (o : Operand × Ref × ℕ).
    option_map (λ (control : Ref). Mstr control o.1 o.2) (reference_in o.0))
    (table_operands operands) element h in
    let top = some-map (λ (control : Ref). Mstr control found.0.1 found.0.2)
    (reference_in found.0.0) element found.1.1 in
    let parts = table_operands-some operands found.0 found.1.0
    ∙ ap (λ operand. operand ∷ At found.0.1 ∷ Const found.0.2 ∷ [])
    (reference_in-some found.0.0 top.0 top.1.0) in
    same_made (Mstr top.0 found.0.1 found.0.2) element names.Mstr
    (At top.0 ∷ At found.0.1 ∷ Const found.0.2 ∷ []) operands top.1.1 parts refl refl
element_of-made (names.Timer unit) operands element h =
    let found = some-map (λ (o : Operand × Ref). Timer unit o.0 o.1)
    (preset_and_acc operands) element h in
    same_made (Timer unit found.0.0 found.0.1) element (names.Timer unit)
    (found.0.0 ∷ At found.0.1 ∷ []) operands found.1.1
    (preset_and_acc-some operands found.0 found.1.0) refl refl
element_of-made (names.Counter up) operands element h =
    let found = some-map (λ (o : Operand × Ref). Counter up o.0 o.1)
    (preset_and_acc operands) element h in
    same_made (Counter up found.0.0 found.0.1) element (names.Counter up)
    (found.0.0 ∷ At found.0.1 ∷ []) operands found.1.1
    (preset_and_acc-some operands found.0 found.1.0) refl refl
element_of-made (names.Math op) operands element h =
    let found = some-map (λ (o : Operand × Operand × Ref). Math op o.0 o.1 o.2)
    (numbers_and_low operands) element h in
    same_made (Math op found.0.0 found.0.1 found.0.2) element (names.Math op)
    (found.0.0 ∷ found.0.1 ∷ At found.0.2 ∷ []) operands found.1.1
    (numbers_and_low-some operands found.0 found.1.0) refl refl
element_of-made (names.Move op) operands element h =
    let found = some-step (λ (o : Operand × Ref × ℕ). option_map
    (λ (top : Ref). Move op top o.1 o.2) (reference_in o.0)) (table_operands operands) element h in
    let top = some-map (λ (top : Ref). Move op top found.0.1 found.0.2)
    (reference_in found.0.0) element found.1.1 in
    let parts = table_operands-some operands found.0 found.1.0
    ∙ ap (λ operand. operand ∷ At found.0.1 ∷ Const found.0.2 ∷ [])
    (reference_in-some found.0.0 top.0 top.1.0) in
    same_made (Move op top.0 found.0.1 found.0.2) element (names.Move op)
    (At top.0 ∷ At found.0.1 ∷ Const found.0.2 ∷ []) operands top.1.1 parts refl refl
element_of-made (names.Matrix op) operands element h =
    let found = some-map (λ (o : Operand × Ref × ℕ). Matrix op o.0 o.1 o.2)
    (table_operands operands) element h in
    same_made (Matrix op found.0.0 found.0.1 found.0.2) element (names.Matrix op)
    (found.0.0 ∷ At found.0.1 ∷ Const found.0.2 ∷ []) operands found.1.1
    (table_operands-some operands found.0 found.1.0) refl refl
