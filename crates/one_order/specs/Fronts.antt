-- How far a station's list and the ring's are in time with one another. This project's own.
use Rattle.std.specs.Prelude.{◌≡◌, ℕ, ◌≤◌, ◌==◌, if◌then◌else◌, List, [], ◌∷◌, ◌++◌, length, suc}
use Rattle.std.specs.Prelude.{get_or, map, take}
use Rattle.one_order.specs.Merges.{InTimeFrom}
use Rattle.one_order.specs.Orders.{own_of}

-- The places at which a list names a node, where its first entry has this number.
abbrev pub places_from : {R : Type 0} → (R → ℕ) → ℕ → ℕ → List R → List ℕ
places_from maker n place [] = []
places_from maker n place (r ∷ ring) =
    if maker r == n then place ∷ places_from maker n (suc place) ring
    else places_from maker n (suc place) ring

-- All places of a node's entries.
abbrev pub places_of : {R : Type 0} → (R → ℕ) → ℕ → List R → List ℕ
places_of maker n ring = places_from maker n 0 ring

-- The entries at some places; this other one where a place is none of the list.
abbrev pub entries_at : {R : Type 0} → R → List R → List ℕ → List R
entries_at other ring places = map (λ (p : ℕ). get_or ring p other) places

-- The first of these places; the end where there is none.
abbrev pub next_of : ℕ → List ℕ → ℕ
next_of end [] = end
next_of end (place ∷ places) = place

-- The next entry of a list may come after these counts; none may where none is left.
module _ {E R S D : Type 0} (note : S → E → S) (deed : D → R → D) (Caused : S → D → Type 0) where
  abbrev pub CanNote : S → D → List E → Type 0
  CanNote s d [] = ⊥
  CanNote s d (e ∷ es) = Caused (note s e) d

  abbrev pub CanDo : S → D → List R → Type 0
  CanDo s d [] = ⊥
  CanDo s d (r ∷ rs) = Caused s (deed d r)

module _ {E R S D : Type 0} (maker : R → ℕ) (note : S → E → S) (deed : D → R → D)
    (Caused : S → D → Type 0) (s : S) (d : D) where
  -- The first entries of a station's list and of the ring's, so many of each, are in time; and
  -- fronts of both that are in time are no longer than these.
  pub record AreInTimeUpTo (n : ℕ) (noted_list : List E) (ring : List R) (entries place : ℕ)
      : Type 0 where
    pub entries_within : entries ≤ length noted_list
    pub place_within : place ≤ length ring
    pub in_time : InTimeFrom note deed Caused s d (take entries noted_list)
        (own_of maker n (take place ring))
    pub longest : (front rest : List E) (seen unseen : List R)
        → noted_list ≡ front ++ rest → ring ≡ seen ++ unseen
        → InTimeFrom note deed Caused s d front (own_of maker n seen)
        → (length front ≤ entries) × (length seen ≤ place)
