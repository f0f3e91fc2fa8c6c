-- Contacts, coils and shorts by the numbers of their references.
-- A contact, a coil or a short by the number of its reference alone, or another element. This
-- project's own.
pub use Rattle.ladder_solver.specs.declared.relays.Relay.{Relay}
use Rattle.std.specs.Prelude.{ℕ}
use Rattle.plant_types.specs.declared.reference.Ref.{Ref}
use Rattle.plant_types.specs.declared.reference.RefKind.{RefKind}
use Rattle.plant_types.specs.declared.reference.RefKind.TheVariants as kinds
use Rattle.plant_types.specs.declared.element.Element.{Element}
use Rattle.plant_types.specs.declared.element.Element.TheVariants.{Open, Closed, Coil, Latch, Wire}
use Rattle.plant_types.specs.Reference.{coil_at}
use Rattle.ladder_solver.specs.declared.relays.Relay.TheVariants as relays

-- The input of a number. Modicon Ladder Logic Block Library User Guide.
abbrev pub input_ref : ℕ → Ref
input_ref number = record { kind = kinds.Input; number = number }

-- The element that a relay is; what is no relay is this other one. This project's own.
abbrev pub relay_element : Relay → Element → Element
relay_element (relays.OpenCoil number) other = Open (coil_at number)
relay_element (relays.ClosedCoil number) other = Closed (coil_at number)
relay_element (relays.OpenInput number) other = Open (input_ref number)
relay_element (relays.ClosedInput number) other = Closed (input_ref number)
relay_element (relays.Coil number) other = Coil (coil_at number)
relay_element (relays.Latch number) other = Latch (coil_at number)
relay_element relays.Wire other = Wire
relay_element relays.Other other = other

-- One of two relays by the kind of a reference: of a coil or of an input. This project's own.
abbrev pub of_kind : RefKind → Relay → Relay → Relay
of_kind kinds.Coil coil input = coil
of_kind kinds.Input coil input = input
of_kind _ coil input = relays.Other

-- The relay that an element is, if it is one that a solve does at once. This project's own.
abbrev pub relay_of : Element → Relay
relay_of (Open at) = of_kind at.kind (relays.OpenCoil at.number) (relays.OpenInput at.number)
relay_of (Closed at) = of_kind at.kind (relays.ClosedCoil at.number) (relays.ClosedInput at.number)
relay_of (Coil at) = of_kind at.kind (relays.Coil at.number) relays.Other
relay_of (Latch at) = of_kind at.kind (relays.Latch at.number) relays.Other
relay_of Wire = relays.Wire
relay_of _ = relays.Other
