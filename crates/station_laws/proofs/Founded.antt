-- Downs that power failures found, and how often power failed.
use Rattle.std.proofs.Common.{◌≡◌, ℕ, ◌+◌, ◌<◌, ◌≤◌, List, [], ◌∷◌, ◌++◌, Option, Some, None, refl}
use Rattle.std.proofs.Common.{sym, ap, subst, ◌∙◌, arith, count_by, ◌-◌, length, get_or, take}
use Rattle.std.proofs.lemmas.List.{take_more}
use Rattle.std.specs.List.{AllByRecursion}
use Rattle.ring_core.specs.declared.entry.RingEntry.{RingEntry}
use Rattle.controller_core.specs.declared.entry.Entry.{Entry}
use Rattle.controller_core.specs.declared.entry.Entry.TheVariants as entries
use Rattle.host_port.specs.declared.entry.HostEntry.{HostEntry}
use Rattle.host_port.specs.declared.entry.HostEntry.TheVariants as host_entries
use Rattle.bridge_relay.specs.declared.entry.BridgeEntry.{BridgeEntry}
use Rattle.bridge_relay.specs.declared.entry.BridgeEntry.TheVariants as bridge_entries
use Rattle.tied_lists.specs.Items.{Item, Items, Station, downs_by, last_from, no_items}
use Rattle.tied_lists.specs.Tied.{RiseAbove}
use Rattle.tied_lists.proofs.Boxes.{count-cons}
use Rattle.joint_history.specs.Bridges.{made_at_end, side_item_next, side_items}
use Rattle.joint_history.specs.Bridges.{side_items_after}
use Rattle.joint_history.specs.Reading.{host_item_next, host_items_after, item_next, items_after}
use Rattle.joint_history.specs.Reading.{items_of}
use Rattle.station_laws.specs.Comparing.{IsLawEnd}
use Rattle.station_laws.specs.Differing.{BreaksAt}
use Rattle.station_laws.specs.Failing.{AreFounded, GoUpTo, is_fail}
use Rattle.station_laws.specs.declared.law.Law.{Law}
use Rattle.station_laws.specs.declared.law.Law.TheVariants.{Downs}

-- ---- power failures of a station

next-fails : (a : Items) (e : Entry) (es : List Entry)
    → (item_next a e).fails + count_by is_fail es ≡ a.fails + count_by is_fail (e ∷ es)
next-fails a entries.Begin es = refl
next-fails a (entries.Input row) es = refl
next-fails a (entries.Solve row) es = refl
next-fails a (entries.Output row words) es = refl
next-fails a entries.End es = refl
next-fails a entries.Fail es =
    let one = count-cons is_fail entries.Fail es in omega (arith, one)
next-fails a entries.Dark es = refl
next-fails a (entries.Collect calls) es = refl
next-fails a (entries.Peer id request reply) es = refl
next-fails a (entries.Off id request) es = refl
next-fails a (entries.Finish id result) es = refl

-- the items of a list count its power failures
fails-counted : (a : Items) (es : List Entry)
    → (items_after a es).fails ≡ a.fails + count_by is_fail es
fails-counted a [] = omega arith
fails-counted a (e ∷ es) = fails-counted (item_next a e) es ∙ next-fails a e es

-- so it is from nothing on
pub fails-of : (es : List Entry) → (items_of es).fails ≡ count_by is_fail es
fails-of es = omega (arith, fails-counted no_items es)

host-next-fails : (a : Items) (e : HostEntry) → (host_item_next a e).fails ≡ a.fails
host-next-fails a (host_entries.Ask id route pdu) = refl
host-next-fails a (host_entries.Answer id result) = refl
host-next-fails a (host_entries.Served id request reply) = refl

-- a host's power never fails
pub host-fails : (a : Items) (es : List HostEntry) → (host_items_after a es).fails ≡ a.fails
host-fails a [] = refl
host-fails a (e ∷ es) = host-fails (host_item_next a e) es ∙ host-next-fails a e

side-next-fails : (a : Items) (e : BridgeEntry) → (side_item_next a e).fails ≡ a.fails
side-next-fails a (bridge_entries.Accept side id route request) = refl
side-next-fails a (bridge_entries.Forward side old id route request) = refl
side-next-fails a (bridge_entries.Finish side id result) = refl
side-next-fails a (bridge_entries.Back side id reply) = refl
side-next-fails a (bridge_entries.Gone side) = refl

side-after-fails : (a : Items) (es : List BridgeEntry) → (side_items_after a es).fails ≡ a.fails
side-after-fails a [] = refl
side-after-fails a (e ∷ es) = side-after-fails (side_item_next a e) es ∙ side-next-fails a e

-- nor does a bridge's
pub side-fails : (side : ℕ) (es : List BridgeEntry) → (side_items side es).fails ≡ 0
side-fails side es = side-after-fails no_items (made_at_end side es)

-- ---- numbers that rise

last-push : (n : ℕ) (xs : List ℕ) (k : ℕ) → last_from n (xs ++ k ∷ []) ≡ k
last-push n [] k = refl
last-push n (x ∷ xs) k = last-push x xs k

rise-push : (n : ℕ) (xs : List ℕ) (k : ℕ) → RiseAbove n xs → last_from n xs < k
    → RiseAbove n (xs ++ k ∷ [])
rise-push n [] k rise above = (above, tt)
rise-push n (x ∷ xs) k rise above = (rise.0, rise-push x xs k rise.1 above)

rise-last : (n : ℕ) (xs : List ℕ) (k : ℕ) → RiseAbove n (xs ++ k ∷ []) → last_from n xs < k
rise-last n [] k rise = rise.0
rise-last n (x ∷ xs) k rise = rise-last x xs k rise.1

rise-front : (n : ℕ) (xs ys : List ℕ) → RiseAbove n (xs ++ ys) → RiseAbove n xs
rise-front n [] ys rise = tt
rise-front n (x ∷ xs) ys rise = (rise.0, rise-front x xs ys rise.1)

all-push : (fails : ℕ) (xs : List ℕ) (k : ℕ) → AllByRecursion (λ (j : ℕ). j ≤ fails) xs
    → k ≤ fails → AllByRecursion (λ (j : ℕ). j ≤ fails) (xs ++ k ∷ [])
all-push fails [] k all low = (low, tt)
all-push fails (x ∷ xs) k all low = (all.0, all-push fails xs k all.1 low)

all-last : (fails : ℕ) (xs : List ℕ) (k : ℕ)
    → AllByRecursion (λ (j : ℕ). j ≤ fails) (xs ++ k ∷ []) → k ≤ fails
all-last fails [] k all = all.0
all-last fails (x ∷ xs) k all = all-last fails xs k all.1

all-front : (fails : ℕ) (xs ys : List ℕ) → AllByRecursion (λ (j : ℕ). j ≤ fails) (xs ++ ys)
    → AllByRecursion (λ (j : ℕ). j ≤ fails) xs
all-front fails [] ys all = tt
all-front fails (x ∷ xs) ys all = (all.0, all-front fails xs ys all.1)

-- one Down more is founded where its number is above the last and no power failure lacks
founded-push : (fails : ℕ) (xs : List ℕ) (k : ℕ) → AreFounded fails xs → last_from 0 xs < k
    → k ≤ fails → AreFounded fails (xs ++ k ∷ [])
founded-push fails xs k are above low =
    (rise-push 0 xs k are.0 above, all-push fails xs k are.1 low)

founded-last : (fails : ℕ) (xs : List ℕ) (k : ℕ) → AreFounded fails (xs ++ k ∷ [])
    → (last_from 0 xs < k) × (k ≤ fails)
founded-last fails xs k are = (rise-last 0 xs k are.0, all-last fails xs k are.1)

-- what is founded is so from the first on
pub founded-front : (fails : ℕ) (xs ys : List ℕ) → AreFounded fails (xs ++ ys)
    → AreFounded fails xs
founded-front fails xs ys are = (rise-front 0 xs ys are.0, all-front fails xs ys are.1)

-- the first Down that is not founded
pub breaks-here : (fails : ℕ) (downs : List ℕ) (place : ℕ) → place < length downs
    → AreFounded fails (take place downs)
    → (last_from 0 (take place downs) < get_or downs place 0 → get_or downs place 0 ≤ fails → ⊥)
    → BreaksAt (AreFounded fails) downs (place + 1)
breaks-here fails downs place low are no' = record {
  before =
      let n : place + 1 - 1 ≡ place = omega arith in
      subst (λ (k : ℕ). AreFounded fails (take k downs)) (sym n) are;
  here = λ more.
      let last = founded-last fails (take place downs) (get_or downs place 0)
      (subst (AreFounded fails) (take_more downs place 0 low) more) in
      no' last.0 last.1;
}

pub founded-next : (fails : ℕ) (downs : List ℕ) (place : ℕ) → place < length downs
    → AreFounded fails (take place downs)
    → last_from 0 (take place downs) < get_or downs place 0 → get_or downs place 0 ≤ fails
    → AreFounded fails (take (place + 1) downs)
founded-next fails downs place low are above within =
    subst (AreFounded fails) (sym (take_more downs place 0 low))
    (founded-push fails (take place downs) (get_or downs place 0) are above within)

pub last-next : (downs : List ℕ) (place : ℕ) → place < length downs
    → get_or downs place 0 ≡ last_from 0 (take (place + 1) downs)
last-next downs place low =
    sym (ap (last_from 0) (take_more downs place 0 low)
    ∙ last-push 0 (take place downs) (get_or downs place 0))

-- where power never fails there is no Down, and the other way
pub founded-none : (downs : List ℕ) → AreFounded 0 downs → downs ≡ []
founded-none [] are = refl
founded-none (k ∷ ks) are =
    absurd (let above = are.0.0 in let low = are.1.0 in omega (arith, above, low))

pub none-founded : (downs : List ℕ) (fails : ℕ) → downs ≡ [] → AreFounded fails downs
none-founded downs fails none = subst (AreFounded fails) (sym none) (tt, tt)

-- ---- the fifth law

at-downs : (station : Station) (items : Items) (backs : List Item) (ring : List RingEntry)
    (end : Option ℕ) → GoUpTo items.fails (downs_by ring) end
    → IsLawEnd Downs station items backs ring end
at-downs station items backs ring None h = h
at-downs station items backs ring (Some place) h = h

pub downs-end : (law : Law) (station : Station) (items : Items) (backs : List Item)
    (ring : List RingEntry) (fails : ℕ) (end : Option ℕ) → law ≡ Downs → items.fails ≡ fails
    → GoUpTo fails (downs_by ring) end → IsLawEnd law station items backs ring end
downs-end law station items backs ring fails end is count h =
    subst (λ (l : Law). IsLawEnd l station items backs ring end) (sym is)
    (at-downs station items backs ring end
    (subst (λ (n : ℕ). GoUpTo n (downs_by ring) end) (sym count) h))
