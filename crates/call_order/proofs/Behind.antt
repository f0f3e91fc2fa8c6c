-- Where counts are bounded, and two lists read alike, names stand in order.
use Rattle.std.proofs.Common.{◌≡◌, ℕ, ◌≤◌, ◌==◌, Bool, true, false, cond, List, [], ◌∷◌, ◌++◌}
use Rattle.std.proofs.Common.{length, Some, None, refl, sym, ap, subst, ◌∙◌, append_assoc, arith}
use Rattle.std.specs.List.{flat_map, cons_option, Contains}
use Rattle.std.proofs.lemmas.Grind.{flat_map-append}
use Rattle.std.proofs.lemmas.List.{append-nil}
use Rattle.std.proofs.lemmas.List.Elements.{filter_map-append, Contains-push, Contains-append_left}
use Rattle.one_order.specs.Orders.{Event, AtStation, AtRing, on_ring, if_on_ring, at_station}
use Rattle.one_order.specs.Orders.{if_at_station, own_of}
use Rattle.one_order.proofs.Walks.{front-of}
use Rattle.one_order.proofs.Fronts.{own-append}

-- a name of the longer front stands in it
pub stands-in : {T : Type 0} (p a p_rest a_rest before : List T) (t : T)
    → p ++ p_rest ≡ a ++ a_rest → length p ≤ length a → p ≡ before ++ t ∷ [] → Contains a t
stands-in p a p_rest a_rest before t q h e =
    let f = front-of p a p_rest a_rest q h in
    subst (λ (l : List _). Contains l t) (sym (f.1 ∙ ap (λ (l : List _). l ++ f.0) e))
    (Contains-append_left (before ++ t ∷ []) f.0 t (Contains-push before t))

station-one : {E : Type 0} (R : Type 0) (n : ℕ) (e : E)
    → at_station {E = E} {R = R} n (AtStation n e ∷ []) ≡ e ∷ []
station-one R n e = at (n == n) (here n)
  where
    here : (k : ℕ) → (k == k) ≡ true
    here k = grind arith

    at : (is : Bool) → is ≡ true → cons_option (cond is (Some e) None) [] ≡ e ∷ []
    at true q = refl
    at false q = absurd (cc)

module _ {E R : Type 0} where
  pub ring-station : (n : ℕ) (before : List (Event E R)) (r : R)
      → at_station n (before ++ AtRing r ∷ []) ≡ at_station n before
  ring-station n before r =
      filter_map-append (if_at_station n) before (AtRing r ∷ []) ∙ append-nil (at_station n before)

  -- and one at the station
  station-ring : (n m : ℕ) (before : List (Event E R)) (e : E)
      → on_ring (before ++ AtStation m e ∷ []) ≡ on_ring before
  station-ring n m before e =
      filter_map-append if_on_ring before (AtStation m e ∷ []) ∙ append-nil (on_ring before)

  station-station : (n : ℕ) (before : List (Event E R)) (e : E)
      → at_station n (before ++ AtStation n e ∷ []) ≡ at_station n before ++ e ∷ []
  station-station n before e =
      filter_map-append (if_at_station n) before (AtStation n e ∷ [])
      ∙ ap (λ (l : List E). at_station n before ++ l) (station-one R n e)

read-as : {R T : Type 0} (f : R → List T) (r : R) (ts : List T) → f r ≡ ts
    → flat_map f (r ∷ []) ≡ ts
read-as f r ts q = append-nil (f r) ∙ q

module _ {R : Type 0} (maker : R → ℕ) where
  own-one : (n : ℕ) (r : R) → maker r ≡ n → own_of maker n (r ∷ []) ≡ r ∷ []
  own-one n r m = at (maker r == n) (let e = eq-here (maker r) n m in e)
    where
      eq-here : (a b : ℕ) → a ≡ b → (a == b) ≡ true
      eq-here a b q = grind arith

      at : (is : Bool) → is ≡ true → cond is (r ∷ []) [] ≡ r ∷ []
      at true q = refl
      at false q = absurd (cc)

module _ {E R : Type 0} (maker : R → ℕ) where
  -- one entry more at the ring
  pub ring-own : (n : ℕ) (before : List (Event E R)) (r : R) → maker r ≡ n
      → own_of maker n (on_ring (before ++ AtRing r ∷ [])) ≡ own_of maker n (on_ring before)
      ++ r ∷ []
  ring-own n before r m =
      ap (own_of maker n) (filter_map-append if_on_ring before (AtRing r ∷ []))
      ∙ (own-append maker n (on_ring before) (r ∷ [])
      ∙ ap (λ (l : List R). own_of maker n (on_ring before) ++ l) (own-one maker n r m))

  module _ {T : Type 0} (noted : E → List T) (done : R → List T) where
    -- what both lists of a node read in an order
    pub station-split : (n : ℕ) (v after : List (Event E R))
        → flat_map noted (at_station n (v ++ after)) ≡ flat_map noted (at_station n v)
        ++ flat_map noted (at_station n after)
    station-split n v after =
        ap (flat_map noted) (filter_map-append (if_at_station n) v after)
        ∙ flat_map-append noted (at_station n v) (at_station n after)

    pub own-split : (n : ℕ) (v after : List (Event E R))
        → flat_map done (own_of maker n (on_ring (v ++ after)))
        ≡ flat_map done (own_of maker n (on_ring v))
        ++ flat_map done (own_of maker n (on_ring after))
    own-split n v after =
        ap (λ (l : List R). flat_map done (own_of maker n l))
        (filter_map-append if_on_ring v after)
        ∙ (ap (flat_map done) (own-append maker n (on_ring v) (on_ring after))
        ∙ flat_map-append done (own_of maker n (on_ring v)) (own_of maker n (on_ring after)))

    one-read : {X : Type 0} (f : X → List T) (x : X) (t : T) → f x ≡ t ∷ []
        → flat_map f (x ∷ []) ≡ t ∷ []
    one-read f x t q = append-nil (f x) ∙ q

    -- what the node does waits for what its station noted
    pub ring-behind : (n : ℕ) (order before after : List (Event E R)) (r : R) (t : T)
        → order ≡ before ++ AtRing r ∷ after → maker r ≡ n → done r ≡ t ∷ []
        → flat_map done (own_of maker n (on_ring order)) ≡ flat_map noted (at_station n order)
        → ((v rest : List (Event E R)) → order ≡ v ++ rest
        → length (flat_map done (own_of maker n (on_ring v))) ≤ length
        (flat_map noted (at_station n v)))
        → Contains (flat_map noted (at_station n before)) t
    ring-behind n order before after r t is m one same bound =
        let v : List (Event E R) = before ++ AtRing r ∷ [] in
        let whole : order ≡ v ++ after = is ∙ sym (append_assoc before (AtRing r ∷ []) after) in
        let last : flat_map done (own_of maker n (on_ring v))
        ≡ flat_map done (own_of maker n (on_ring before)) ++ t ∷ []
        = ap (flat_map done) (ring-own n before r m)
        ∙ (flat_map-append done (own_of maker n (on_ring before)) (r ∷ [])
        ∙ ap (λ (l : List T). flat_map done (own_of maker n (on_ring before)) ++ l)
        (one-read done r t one)) in
        let both : flat_map done (own_of maker n (on_ring v))
        ++ flat_map done (own_of maker n (on_ring after)) ≡ flat_map noted (at_station n v)
        ++ flat_map noted (at_station n after)
        = sym (own-split n v after) ∙ (ap
        (λ (w : List (Event E R)). flat_map done (own_of maker n (on_ring w))) (sym whole)
        ∙ (same
        ∙ (ap (λ (w : List (Event E R)). flat_map noted (at_station n w)) whole
        ∙ station-split n v after))) in
        subst (λ (l : List E). Contains (flat_map noted l) t) (ring-station n before r)
        (stands-in (flat_map done (own_of maker n (on_ring v))) (flat_map noted (at_station n v))
        (flat_map done (own_of maker n (on_ring after))) (flat_map noted (at_station n after))
        (flat_map done (own_of maker n (on_ring before))) t both (bound v after whole) last)

    -- what the station notes waits for what its node did
    pub station-behind : (n : ℕ) (order before after : List (Event E R)) (e : E) (t : T)
        → order ≡ before ++ AtStation n e ∷ after → noted e ≡ t ∷ []
        → flat_map noted (at_station n order) ≡ flat_map done (own_of maker n (on_ring order))
        → ((v rest : List (Event E R)) → order ≡ v ++ rest
        → length (flat_map noted (at_station n v)) ≤ length
        (flat_map done (own_of maker n (on_ring v))))
        → Contains (flat_map done (own_of maker n (on_ring before))) t
    station-behind n order before after e t is one same bound =
        let v : List (Event E R) = before ++ AtStation n e ∷ [] in
        let whole : order ≡ v ++ after = is
        ∙ sym (append_assoc before (AtStation n e ∷ []) after) in
        let last : flat_map noted (at_station n v) ≡ flat_map noted (at_station n before) ++ t ∷ []
        = ap (flat_map noted) (station-station n before e)
        ∙ (flat_map-append noted (at_station n before) (e ∷ [])
        ∙ ap (λ (l : List T). flat_map noted (at_station n before) ++ l)
        (one-read noted e t one)) in
        let both : flat_map noted (at_station n v) ++ flat_map noted (at_station n after)
        ≡ flat_map done (own_of maker n (on_ring v))
        ++ flat_map done (own_of maker n (on_ring after))
        = sym (station-split n v after)
        ∙ (ap (λ (w : List (Event E R)). flat_map noted (at_station n w)) (sym whole) ∙ (same
        ∙ (ap (λ (w : List (Event E R)). flat_map done (own_of maker n (on_ring w))) whole
        ∙ own-split n v after))) in
        subst (λ (l : List R). Contains (flat_map done (own_of maker n l)) t)
        (station-ring n n before e)
        (stands-in (flat_map noted (at_station n v)) (flat_map done (own_of maker n (on_ring v)))
        (flat_map noted (at_station n after)) (flat_map done (own_of maker n (on_ring after)))
        (flat_map noted (at_station n before)) t both (bound v after whole) last)

  -- what the node does later waits for what it did before
  module _ {T : Type 0} (first done : R → List T) where
    none-split : {S : Type 0} (read : R → List S) (n : ℕ) (v after : List (Event E R))
        → flat_map read (own_of maker n (on_ring (v ++ after)))
        ≡ flat_map read (own_of maker n (on_ring v))
        ++ flat_map read (own_of maker n (on_ring after))
    none-split {S} read n v after =
        let none : E → List S = λ e. [] in own-split none read n v after

    -- what is read of the node's list and one entry more
    read-more : (f : R → List T) (n : ℕ) (before : List (Event E R)) (r : R) → maker r ≡ n
        → flat_map f (own_of maker n (on_ring (before ++ AtRing r ∷ [])))
        ≡ flat_map f (own_of maker n (on_ring before)) ++ flat_map f (r ∷ [])
    read-more f n before r m =
        ap (flat_map f) (ring-own n before r m)
        ∙ flat_map-append f (own_of maker n (on_ring before)) (r ∷ [])

    pub own-behind : (n : ℕ) (order before after : List (Event E R)) (r : R) (t : T)
        → order ≡ before ++ AtRing r ∷ after → maker r ≡ n → done r ≡ t ∷ [] → first r ≡ []
        → flat_map done (own_of maker n (on_ring order))
        ≡ flat_map first (own_of maker n (on_ring order))
        → ((v rest : List (Event E R)) → order ≡ v ++ rest
        → length (flat_map done (own_of maker n (on_ring v))) ≤ length
        (flat_map first (own_of maker n (on_ring v))))
        → Contains (flat_map first (own_of maker n (on_ring before))) t
    own-behind n order before after r t is m one none same bound =
        let v : List (Event E R) = before ++ AtRing r ∷ [] in
        let whole : order ≡ v ++ after = is ∙ sym (append_assoc before (AtRing r ∷ []) after) in
        let last : flat_map done (own_of maker n (on_ring v))
        ≡ flat_map done (own_of maker n (on_ring before)) ++ t ∷ []
        = read-more done n before r m
        ∙ ap (λ (l : List T). flat_map done (own_of maker n (on_ring before)) ++ l)
        (read-as done r (t ∷ []) one) in
        let still : flat_map first (own_of maker n (on_ring v))
        ≡ flat_map first (own_of maker n (on_ring before))
        = read-more first n before r m
        ∙ (ap (λ (l : List T). flat_map first (own_of maker n (on_ring before)) ++ l)
        (read-as first r [] none)
        ∙ append-nil (flat_map first (own_of maker n (on_ring before)))) in
        let both : flat_map done (own_of maker n (on_ring v))
        ++ flat_map done (own_of maker n (on_ring after))
        ≡ flat_map first (own_of maker n (on_ring v))
        ++ flat_map first (own_of maker n (on_ring after))
        = sym (none-split done n v after)
        ∙ (ap (λ (w : List (Event E R)). flat_map done (own_of maker n (on_ring w)))
        (sym whole) ∙ (same
        ∙ (ap (λ (w : List (Event E R)). flat_map first (own_of maker n (on_ring w))) whole
        ∙ none-split first n v after))) in
        subst (λ (l : List T). Contains l t) still
        (stands-in (flat_map done (own_of maker n (on_ring v)))
        (flat_map first (own_of maker n (on_ring v)))
        (flat_map done (own_of maker n (on_ring after)))
        (flat_map first (own_of maker n (on_ring after)))
        (flat_map done (own_of maker n (on_ring before))) t both (bound v after whole) last)
