-- Relays by the numbers of their references, and what their elements ask of a store.
use Rattle.std.proofs.Common.{◌≡◌, ◌⊎◌, inl, inr, ℕ, refl, sym, subst, ap, ◌∙◌}
use Rattle.plant_types.specs.declared.reference.Ref.{Ref}
use Rattle.plant_types.specs.declared.reference.RefKind.{RefKind}
use Rattle.plant_types.specs.declared.reference.RefKind.TheVariants as kinds
use Rattle.plant_types.specs.declared.element.Element.{Element}
use Rattle.plant_types.specs.declared.element.Element.TheVariants.{Open, Closed, Rise, Fall, Coil}
use Rattle.plant_types.specs.declared.element.Element.TheVariants.{Latch, Wire, Timer, Counter}
use Rattle.plant_types.specs.declared.element.Element.TheVariants.{Math, Move, Matrix, Skip, Label}
use Rattle.plant_types.specs.declared.element.Element.TheVariants.{Call, Return, Mstr}
use Rattle.plant_types.specs.Operands.{HasOperands, HasPast}
use Rattle.plant_types.specs.Store.{Contents, HasDiscrete}
use Rattle.relay_ops.specs.declared.ContactKind.{ContactKind}
use Rattle.relay_ops.specs.declared.ContactKind.TheVariants as contacts
use Rattle.plant_types.specs.Reference.{coil_at}
use Rattle.ladder_solver.specs.Relays.{Relay, relay_element, relay_of}
use Rattle.ladder_solver.specs.declared.relays.Relay.TheVariants as relays
use Rattle.ladder_solver.proofs.ElementLemmas.{contact_of}

-- a reference of each kind
open_told : (kind : RefKind) (number : ℕ)
    → relay_element (relay_of (Open (record { kind = kind; number = number })))
    (Open (record { kind = kind; number = number }))
    ≡ Open (record { kind = kind; number = number })
open_told kinds.Coil number = refl
open_told kinds.Input number = refl
open_told kinds.InputRegister number = refl
open_told kinds.Register number = refl

closed_told : (kind : RefKind) (number : ℕ)
    → relay_element (relay_of (Closed (record { kind = kind; number = number })))
    (Closed (record { kind = kind; number = number }))
    ≡ Closed (record { kind = kind; number = number })
closed_told kinds.Coil number = refl
closed_told kinds.Input number = refl
closed_told kinds.InputRegister number = refl
closed_told kinds.Register number = refl

coil_told : (kind : RefKind) (number : ℕ)
    → relay_element (relay_of (Coil (record { kind = kind; number = number })))
    (Coil (record { kind = kind; number = number }))
    ≡ Coil (record { kind = kind; number = number })
coil_told kinds.Coil number = refl
coil_told kinds.Input number = refl
coil_told kinds.InputRegister number = refl
coil_told kinds.Register number = refl

latch_told : (kind : RefKind) (number : ℕ)
    → relay_element (relay_of (Latch (record { kind = kind; number = number })))
    (Latch (record { kind = kind; number = number }))
    ≡ Latch (record { kind = kind; number = number })
latch_told kinds.Coil number = refl
latch_told kinds.Input number = refl
latch_told kinds.InputRegister number = refl
latch_told kinds.Register number = refl

-- the relay of an element is that element
pub relay_told : (element : Element) → relay_element (relay_of element) element ≡ element
relay_told (Open at) = open_told at.kind at.number
relay_told (Closed at) = closed_told at.kind at.number
relay_told (Coil at) = coil_told at.kind at.number
relay_told (Latch at) = latch_told at.kind at.number
relay_told (Rise at) = refl
relay_told (Fall at) = refl
relay_told Wire = refl
relay_told (Timer unit preset acc) = refl
relay_told (Counter up preset acc) = refl
relay_told (Math op top mid low) = refl
relay_told (Move op top mid length) = refl
relay_told (Matrix op top mid length) = refl
relay_told (Skip count) = refl
relay_told (Label number) = refl
relay_told (Call number) = refl
relay_told Return = refl
relay_told (Mstr control area length) = refl

-- a store has the discrete of a contact
contact_stands : (m : Contents) (kind : ContactKind) (at : Ref) → HasOperands m (contact_of kind at)
    → HasDiscrete m at
contact_stands m contacts.Open at h = h.references.0
contact_stands m contacts.Closed at h = h.references.0
contact_stands m contacts.Rise at h = h.references.0
contact_stands m contacts.Fall at h = h.references.0

pub has_contact : (m : Contents) (kind : ContactKind) (at found : Ref) (element : Element)
    → element ≡ contact_of kind at → found ≡ at → HasOperands m element → HasDiscrete m found
has_contact m kind at found element is e h =
    subst (λ at. HasDiscrete m at) (sym e)
    (contact_stands m kind at (subst (λ (e : Element). HasOperands m e) is h))

-- so do the discretes as the last scan ended
contact_stood : (m : Contents) (kind : ContactKind) (at : Ref) → HasPast m (contact_of kind at)
    → HasDiscrete m at
contact_stood m contacts.Open at h = h.0
contact_stood m contacts.Closed at h = h.0
contact_stood m contacts.Rise at h = h.0
contact_stood m contacts.Fall at h = h.0

pub had_contact : (m : Contents) (kind : ContactKind) (at found : Ref) (element : Element)
    → element ≡ contact_of kind at → found ≡ at → HasPast m element → HasDiscrete m found
had_contact m kind at found element is e h =
    subst (λ at. HasDiscrete m at) (sym e)
    (contact_stood m kind at (subst (λ (e : Element). HasPast m e) is h))

-- a store has the discrete of a coil or a latch
pub has_coil : (m : Contents) (at found : Ref) (element : Element)
    → (element ≡ Coil at) ⊎ (element ≡ Latch at) → found ≡ at → HasOperands m element
    → HasDiscrete m found
has_coil m at found element (inl is) e h =
    subst (λ at. HasDiscrete m at) (sym e)
    (subst (λ (e : Element). HasOperands m e) is h).references.0
has_coil m at found element (inr is) e h =
    subst (λ at. HasDiscrete m at) (sym e)
    (subst (λ (e : Element). HasOperands m e) is h).references.0

-- an element is the one of its relay
pub named_by : (relay named : Relay) (element : Element) → relay_element relay element ≡ element
    → relay ≡ named → element ≡ relay_element named element
named_by relay named element told is = sym told ∙ ap (λ r. relay_element r element) is

-- of two relays, a coil and a latch
pub coil_by : (relay : Relay) (number : ℕ) (element : Element)
    → relay_element relay element ≡ element
    → (relay ≡ relays.Coil number) ⊎ (relay ≡ relays.Latch number)
    → (element ≡ Coil (coil_at number)) ⊎ (element ≡ Latch (coil_at number))
coil_by relay number element told (inl is) = inl (named_by relay _ element told is)
coil_by relay number element told (inr is) = inr (named_by relay _ element told is)
