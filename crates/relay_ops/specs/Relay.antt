-- Contacts of ladder logic. What a coil does is the store's own word `with_bit`.
use Rattle.std.specs.Prelude.{Bool, ◌&&◌, not}
use Rattle.std.specs.FinSet.{contains}
use Rattle.plant_types.specs.declared.reference.Ref.{Ref}
use Rattle.plant_types.specs.Store.{Contents, is_on}
use Rattle.plant_types.specs.Discretes.{Refs}
use Rattle.relay_ops.specs.declared.ContactKind.{ContactKind}
use Rattle.relay_ops.specs.declared.ContactKind.TheVariants.{Open, Closed, Rise, Fall}

-- Whether a contact passes power, by the store and by the discretes that were on when the last
-- scan ended. Modicon Ladder Logic Block Library User Guide; with what a transitional contact
-- compares is this project's own.
abbrev pub passes_power : ContactKind → Ref → Contents → Refs → Bool
passes_power Open at m past = is_on m at
passes_power Closed at m past = not (is_on m at)
passes_power Rise at m past = is_on m at && not (contains past at)
passes_power Fall at m past = not (is_on m at) && contains past at
