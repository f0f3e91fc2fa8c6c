-- A set that grows until it is closed. All of it is this project's own.
use Rattle.std.specs.Prelude.{◌≡◌, Bool, true, false, List, Option}
use Rattle.std.specs.List.{cons_option, filter_map, flat_map, list_all, AllByRecursion}
use Rattle.std.specs.FinSet.{contains}
use Rattle.plant_types.specs.declared.reference.Ref.{Ref}
use Rattle.plant_types.specs.declared.network.Network.{Network}
use Rattle.plant_types.specs.declared.plan.OrderRow.{OrderRow}
use Rattle.plant_types.specs.Discretes.{Refs}
use Rattle.cone_of.specs.Cone.{HasAllOf, HasNetwork}
use Rattle.cone_of.specs.Uses.{read_by}

-- A set has all that it had, and these references; whatever set has those has all of it.
pub record AddsAll (refs : List Ref) (old new : Refs) : Type 0 where
  pub keeps : HasAllOf new old
  pub has : list_all (contains new) refs ≡ true
  pub least : (set : Refs) → HasAllOf set old → list_all (contains set) refs ≡ true
      → HasAllOf set new

-- A set grows by what is forced: it has all that it had, and each set that has that and is such has
-- all of it; where it did not grow, it is as it was and such itself.
pub record GrowsBy (Such : Refs → Type 0) (grew : Bool) (old new : Refs) : Type 0 where
  pub keeps : HasAllOf new old
  pub least : (set : Refs) → HasAllOf set old → Such set → HasAllOf set new
  pub stays : grew ≡ false → new ≡ old
  pub such : grew ≡ false → Such new

-- A set has what each of these networks forces.
abbrev pub HasNetworks : List Network → Refs → Type 0
HasNetworks networks set = AllByRecursion (HasNetwork set) networks

-- All that a network reads.
abbrev pub network_reads : Network → List Ref
network_reads network = flat_map (λ cell. read_by cell.element) network.cells

-- What each closed set has that has a reference, if there is one: it, and the controls of rows.
abbrev pub forced_by : Option Ref → List OrderRow → List Ref
forced_by of orders = cons_option of (filter_map (λ row. row.control) orders)
