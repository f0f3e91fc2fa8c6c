-- The cells of a controller before a cell, list by list.
use Rattle.std.proofs.Common.{◌≡◌, ℕ, ◌+◌, ◌-◌, Bool, true, false, ◌||◌, List, [], ◌∷◌, ◌++◌}
use Rattle.std.proofs.Common.{length, length-append, Option, Some, None, refl, sym, ap, ◌∙◌, arith}
use Rattle.std.specs.List.{list_any, cons_option}
use Rattle.std.specs.Prelude.{filter, if◌then◌else◌}
use Rattle.std.proofs.lemmas.List.{append-nil}
use Rattle.std.proofs.lemmas.List.Elements.{filter-append}
use Rattle.std.proofs.lemmas.List.Folds.{list_any-append}
use Rattle.std.proofs.lemmas.Grind.{flat_map-append}
use Rattle.plant_types.specs.declared.reference.Ref.{Ref}
use Rattle.plant_types.specs.declared.network.Cell.{Cell}
use Rattle.plant_types.specs.declared.network.Network.{Network}
use Rattle.plant_types.specs.declared.network.Segment.{Segment}
use Rattle.plant_types.specs.declared.standing.Claim.{Claim}
use Rattle.plant_types.specs.Network.{driven_by}
use Rattle.plant_types.specs.Checks.{is_same}
use Rattle.plant_types.specs.Standing.{cells_of_networks, cells_of_segments, coils_in, drives}
use Rattle.plant_types.specs.Standing.{claims, is_claimed, is_message, message_count}

-- what one of the cells of networks has, one of the cells of some network has
pub claimed_in_networks : (claim : Claim) (networks : List Network)
    → list_any (λ (network : Network). is_claimed network.cells claim) networks
    ≡ is_claimed (cells_of_networks networks) claim
claimed_in_networks claim [] = refl
claimed_in_networks claim (network ∷ networks) =
    ap (λ b. is_claimed network.cells claim || b) (claimed_in_networks claim networks)
    ∙ sym (list_any-append (λ (cell : Cell). claims claim cell.element) network.cells
    (cells_of_networks networks))

-- so with segments
pub claimed_in_segments : (claim : Claim) (segments : List Segment)
    → list_any (λ (segment : Segment).
    list_any (λ (network : Network). is_claimed network.cells claim) segment.networks) segments
    ≡ is_claimed (cells_of_segments segments) claim
claimed_in_segments claim [] = refl
claimed_in_segments claim (segment ∷ segments) =
    rw (claimed_in_networks claim segment.networks, claimed_in_segments claim segments)
    (sym (list_any-append (λ (cell : Cell). claims claim cell.element)
    (cells_of_networks segment.networks) (cells_of_segments segments)))

-- what stands among cells or among those behind them
pub claimed-append : (claim : Claim) (xs ys : List Cell)
    → is_claimed (xs ++ ys) claim ≡ is_claimed xs claim || is_claimed ys claim
claimed-append claim xs ys = list_any-append (λ (cell : Cell). claims claim cell.element) xs ys

-- one of two tests
pub or_true : (a b : Bool) → a ≡ true → true ≡ a || b
or_true a b h = rw h refl

pub or_false : (a b : Bool) → a ≡ false → b ≡ a || b
or_false a b h = rw h refl

-- a test beside none
or_last : (a b : Bool) → (a || false) || b ≡ a || b
or_last true b = refl
or_last false b = refl

-- what is one of some, with one more before them or none
more_or_none : {A : Type 0} (p : A → Bool) (one : Option A) (xs : List A)
    → list_any p (cons_option one []) || list_any p xs ≡ list_any p (cons_option one xs)
more_or_none p None xs = refl
more_or_none p (Some x) xs = or_last (p x) (list_any p xs)

-- a coil is one of those that cells drive where one of the cells drives it
pub driven_in : (coil : Ref) (cells : List Cell) → list_any
    (λ (cell : Cell). drives coil cell.element) cells ≡ list_any (is_same coil) (coils_in cells)
driven_in coil [] = refl
driven_in coil (cell ∷ cells) = ap (λ b. drives coil cell.element || b) (driven_in coil cells)
    ∙ more_or_none (is_same coil) (driven_by cell.element) (coils_in cells)

-- messages of cells one after another
pub message_count-append : (xs ys : List Cell)
    → message_count (xs ++ ys) ≡ message_count xs + message_count ys
message_count-append xs ys =
    ap length (filter-append (λ (cell : Cell). is_message cell.element) xs ys)
    ∙ length-append (filter (λ (cell : Cell). is_message cell.element) xs)
    (filter (λ (cell : Cell). is_message cell.element) ys)

-- the cells of one more network
pub cells_of_networks-push : (networks : List Network) (network : Network)
    → cells_of_networks (networks ++ network ∷ []) ≡ cells_of_networks networks ++ network.cells
cells_of_networks-push networks network =
    flat_map-append (λ (n : Network). n.cells) networks (network ∷ [])
    ∙ ap (λ cells. cells_of_networks networks ++ cells) (append-nil network.cells)

-- the cells of one more segment
pub cells_of_segments-push : (segments : List Segment) (segment : Segment)
    → cells_of_segments (segments ++ segment ∷ [])
    ≡ cells_of_segments segments ++ cells_of_networks segment.networks
cells_of_segments-push segments segment =
    flat_map-append (λ (s : Segment). cells_of_networks s.networks) segments (segment ∷ [])
    ∙ ap (λ cells. cells_of_segments segments ++ cells)
    (append-nil (cells_of_networks segment.networks))

-- one cell more, and how many messages there are with it
pub message_count-push : (cells : List Cell) (cell : Cell) (message : Bool)
    → is_message cell.element ≡ message
    → message_count (cells ++ cell ∷ []) ≡ message_count cells + (if message then 1 else 0)
message_count-push cells cell true h = message_count-append cells (cell ∷ [])
    ∙ ap (λ (n : ℕ). message_count cells + n) (rw h refl)
message_count-push cells cell false h = message_count-append cells (cell ∷ [])
    ∙ ap (λ (n : ℕ). message_count cells + n) (rw h refl)
