-- One order in time of the lists of all stations and of the ring. This project's own.
use Rattle.std.specs.Prelude.{◌≡◌, ◌≢◌, ℕ, ◌==◌, if◌then◌else◌, List, [], ◌∷◌, ◌++◌}
use Rattle.std.specs.Prelude.{Option, Some, None, filter, filter_map}
use Rattle.std.specs.List.{AllByRecursion as Each}
use Rattle.one_order.specs.Merges.{tally, InTimeFrom}

-- An entry of a station's list or of the ring's.
pub data Event (E R : Type 0) : Type 0 where
  AtStation : (n : ℕ) (e : E) → Event E R
  AtRing : (r : R) → Event E R

abbrev pub if_on_ring : {E R : Type 0} → Event E R → Option R
if_on_ring (AtStation n e) = None
if_on_ring (AtRing r) = Some r

abbrev pub if_at_station : {E R : Type 0} → ℕ → Event E R → Option E
if_at_station n (AtStation m e) = if m == n then Some e else None
if_at_station n (AtRing r) = None

-- The lists that an order is of.
abbrev pub on_ring : {E R : Type 0} → List (Event E R) → List R
on_ring order = filter_map if_on_ring order

abbrev pub at_station : {E R : Type 0} → ℕ → List (Event E R) → List E
at_station n order = filter_map (if_at_station n) order

-- The entries of the ring that name a node.
abbrev pub own_of : {R : Type 0} → (R → ℕ) → ℕ → List R → List R
own_of {R} maker n ring = filter (λ (r : R). maker r == n) ring

-- A station's node and list.
pub record Log (E : Type 0) : Type 0 where
  pub node : ℕ
  pub entries : List E

-- No two of these stations have one node.
abbrev pub NotAmong : {E : Type 0} → ℕ → List (Log E) → Type 0
NotAmong {E} n logs = Each (λ (log : Log E). log.node ≢ n) logs

abbrev pub HaveNodesApart : {E : Type 0} → List (Log E) → Type 0
HaveNodesApart [] = Unit {0}
HaveNodesApart (log ∷ logs) = NotAmong log.node logs × HaveNodesApart logs

module _ {E R S D : Type 0} (maker : R → ℕ) (note : S → E → S) (deed : D → R → D)
    (Caused : S → D → Type 0) (s : S) (d : D) where
  -- Each station by itself is in time with its node.
  abbrev pub EachInTime : List R → List (Log E) → Type 0
  EachInTime ring logs = Each (λ (log : Log E).
      InTimeFrom note deed Caused s d log.entries (own_of maker log.node ring)) logs

  -- At each time of an order what a node has done and what its station has noted are caused.
  abbrev pub IsCausedThroughout : ℕ → List (Event E R) → Type 0
  IsCausedThroughout n order = (before after : List (Event E R)) → order ≡ before ++ after
      → Caused (tally note s (at_station n before))
      (tally deed d (own_of maker n (on_ring before)))

  -- There is one order of the ring's entries and of all stations', in which each entry stands
  -- behind what caused it.
  pub record HasOneOrder (ring : List R) (logs : List (Log E)) : Type 0 where
    pub order : List (Event E R)
    pub ring_is : on_ring order ≡ ring
    pub stations : Each (λ (log : Log E). at_station log.node order ≡ log.entries) logs
    pub nobody_else : (n : ℕ) → NotAmong n logs → at_station n order ≡ []
    pub caused : Each (λ (log : Log E). IsCausedThroughout log.node order) logs
