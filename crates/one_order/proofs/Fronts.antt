-- The places of a node's entries, and how far its lists are in time.
use Rattle.std.proofs.Common.{◌≡◌, ℕ, ◌+◌, ◌<◌, ◌≤◌, ◌==◌, Bool, true, false, cond, suc, List, []}
use Rattle.std.proofs.Common.{◌∷◌, ◌++◌, length, take, drop, get_or, refl, sym, ap, subst, ◌∙◌}
use Rattle.std.proofs.Common.{append_assoc, arith, inl, inr, ◌⊎◌, ⊎_elim, add-zero}
use Rattle.std.specs.List.{AllByRecursion as Each}
use Rattle.std.proofs.lemmas.List.{append-nil, length-append, length-take, take-append-drop}
use Rattle.one_order.specs.Merges.{InTimeFrom}
use Rattle.one_order.specs.Orders.{own_of}
use Rattle.one_order.specs.Fronts.{places_from, places_of, entries_at, next_of, CanNote, CanDo}
use Rattle.one_order.specs.Fronts.{AreInTimeUpTo}
use Rattle.one_order.proofs.Walks.{front-of}
use Rattle.one_order.proofs.Walks as walks

take-front : {X : Type 0} (a b : List X) → take (length a) (a ++ b) ≡ a
take-front [] b = refl
take-front (x ∷ a) b = ap (λ (t : _). x ∷ t) (take-front a b)

module _ {R : Type 0} (maker : R → ℕ) where
  pub own-append : (n : ℕ) (a b : List R)
      → own_of maker n (a ++ b) ≡ own_of maker n a ++ own_of maker n b
  own-append n [] b = refl
  own-append n (r ∷ a) b = at (maker r == n) (own-append n a b)
    where
      at : (is : Bool) → own_of maker n (a ++ b) ≡ own_of maker n a ++ own_of maker n b
          → cond is (r ∷ own_of maker n (a ++ b)) (own_of maker n (a ++ b))
          ≡ cond is (r ∷ own_of maker n a) (own_of maker n a) ++ own_of maker n b
      at true q = ap (λ (t : List R). r ∷ t) q
      at false q = q

  -- where the next place is
  pub record NextPlace (n start p : ℕ) (rest : List ℕ) (ring : List R) : Type 0 where
    pub others : List R
    pub here : R
    pub later : List R
    pub is : ring ≡ others ++ here ∷ later
    pub none : own_of maker n others ≡ []
    pub mine : (maker here == n) ≡ true
    pub place : p ≡ start + length others
    pub rest_is : rest ≡ places_from maker n (suc p) later

  next-here : (n start p : ℕ) (rest : List ℕ) (r : R) (ring : List R) → (maker r == n) ≡ true
      → start ∷ places_from maker n (suc start) ring ≡ p ∷ rest
      → NextPlace n start p rest (r ∷ ring)
  next-here n start p rest r ring m q =
      let same : start ≡ p = cc in record {
        others = [];
        here = r;
        later = ring;
        is = refl;
        none = refl;
        mine = m;
        place = omega arith;
        rest_is =
            let e : places_from maker n (suc start) ring ≡ rest = cc in sym e
            ∙ ap (λ (k : ℕ). places_from maker n (suc k) ring) same;
      }

  own-none : (is : Bool) (r : R) (t : List R) → is ≡ false → t ≡ [] → cond is (r ∷ t) t ≡ []
  own-none true r t m q = absurd (cc)
  own-none false r t m q = q

  next-later : (n start p : ℕ) (rest : List ℕ) (r : R) (ring : List R) → (maker r == n) ≡ false
      → NextPlace n (suc start) p rest ring → NextPlace n start p rest (r ∷ ring)
  next-later n start p rest r ring m x = record {
    others = r ∷ x.others;
    here = x.here;
    later = x.later;
    is = ap (λ (t : List R). r ∷ t) x.is;
    none = own-none (maker r == n) r (own_of maker n x.others) m x.none;
    mine = x.mine;
    place = let e = x.place in omega (arith, e);
    rest_is = x.rest_is;
  }

  pub next-place : (n start p : ℕ) (rest : List ℕ) (ring : List R)
      → places_from maker n start ring ≡ p ∷ rest → NextPlace n start p rest ring
  next-place n start p rest [] q = absurd (cc)
  next-place n start p rest (r ∷ ring) q =
      at (maker r == n) refl q (λ e. next-place n (suc start) p rest ring e)
    where
      at : (is : Bool) → (maker r == n) ≡ is
          → cond is (start ∷ places_from maker n (suc start) ring)
          (places_from maker n (suc start) ring) ≡ p ∷ rest
          → (places_from maker n (suc start) ring ≡ p ∷ rest → NextPlace n (suc start) p rest ring)
          → NextPlace n start p rest (r ∷ ring)
      at true m e go = next-here n start p rest r ring m e
      at false m e go = next-later n start p rest r ring m (go e)

  -- where none is left
  pub no-place : (n start : ℕ) (ring : List R) → places_from maker n start ring ≡ []
      → own_of maker n ring ≡ []
  no-place n start [] q = refl
  no-place n start (r ∷ ring) q = at (maker r == n) q (λ e. no-place n (suc start) ring e)
    where
      at : (is : Bool) → cond is (start ∷ places_from maker n (suc start) ring)
          (places_from maker n (suc start) ring) ≡ []
          → (places_from maker n (suc start) ring ≡ [] → own_of maker n ring ≡ [])
          → cond is (r ∷ own_of maker n ring) (own_of maker n ring) ≡ []
      at true e go = absurd (cc)
      at false e go = go e

  -- one entry more
  place-mine : (n start : ℕ) (ring : List R) (r : R) → (maker r == n) ≡ true
      → places_from maker n start (ring ++ r ∷ []) ≡ places_from maker n start ring
      ++ (start + length ring) ∷ []
  place-mine n start [] r m = at (maker r == n) m
    where
      at : (is : Bool) → is ≡ true → cond is (start ∷ []) [] ≡ (start + 0) ∷ []
      at true q = ap (λ (k : ℕ). k ∷ []) (sym (add-zero start))
      at false q = absurd (cc)
  place-mine n start (x ∷ ring) r m = at (maker x == n) (place-mine n (suc start) ring r m)
    where
      at : (is : Bool) → places_from maker n (suc start) (ring ++ r ∷ [])
          ≡ places_from maker n (suc start) ring ++ (suc start + length ring) ∷ []
          → cond is (start ∷ places_from maker n (suc start) (ring ++ r ∷ []))
          (places_from maker n (suc start) (ring ++ r ∷ []))
          ≡ cond is (start ∷ places_from maker n (suc start) ring)
          (places_from maker n (suc start) ring) ++ (start + length (x ∷ ring)) ∷ []
      at true q =
          ap (λ (t : List ℕ). start ∷ t) q
          ∙ (let e : suc start + length ring ≡ start + length (x ∷ ring) = omega arith in
          ap (λ (k : ℕ). start ∷ (places_from maker n (suc start) ring ++ k ∷ [])) e)
      at false q =
          q ∙ (let e : suc start + length ring ≡ start + length (x ∷ ring) = omega arith in
          ap (λ (k : ℕ). places_from maker n (suc start) ring ++ k ∷ []) e)

  place-other : (n start : ℕ) (ring : List R) (r : R) → (maker r == n) ≡ false
      → places_from maker n start (ring ++ r ∷ []) ≡ places_from maker n start ring
  place-other n start [] r m = at (maker r == n) m
    where
      at : (is : Bool) → is ≡ false → cond is (start ∷ []) [] ≡ []
      at true q = absurd (cc)
      at false q = refl
  place-other n start (x ∷ ring) r m = at (maker x == n) (place-other n (suc start) ring r m)
    where
      at : (is : Bool) → places_from maker n (suc start) (ring ++ r ∷ [])
          ≡ places_from maker n (suc start) ring
          → cond is (start ∷ places_from maker n (suc start) (ring ++ r ∷ []))
          (places_from maker n (suc start) (ring ++ r ∷ []))
          ≡ cond is (start ∷ places_from maker n (suc start) ring)
          (places_from maker n (suc start) ring)
      at true q = ap (λ (t : List ℕ). start ∷ t) q
      at false q = q

  pub places-mine : (n : ℕ) (ring : List R) (r : R) → (maker r == n) ≡ true
      → places_of maker n (ring ++ r ∷ []) ≡ places_of maker n ring ++ length ring ∷ []
  places-mine n ring r m =
      place-mine n 0 ring r m ∙ (let e : 0 + length ring ≡ length ring = omega arith in
      ap (λ (k : ℕ). places_from maker n 0 ring ++ k ∷ []) e)

  pub places-other : (n : ℕ) (ring : List R) (r : R) → (maker r == n) ≡ false
      → places_of maker n (ring ++ r ∷ []) ≡ places_of maker n ring
  places-other n ring r m = place-other n 0 ring r m

  -- what is seen up to there
  pub record UpToNext (n : ℕ) (ring seen : List R) (place : ℕ) : Type 0 where
    pub between : List R
    pub after : List R
    pub is : ring ≡ (seen ++ between) ++ after
    pub none : own_of maker n between ≡ []
    pub place_is : place ≡ length (seen ++ between)
    pub then : (after ≡ []) ⊎ ((r : R) × (more : List R) × (after ≡ r ∷ more)
        × ((maker r == n) ≡ true))

  up-to-next : (n : ℕ) (ring seen unseen : List R) (due : List ℕ) → ring ≡ seen ++ unseen
      → due ≡ places_from maker n (length seen) unseen
      → UpToNext n ring seen (next_of (length ring) due)
  up-to-next n ring seen unseen [] q e = record {
    between = unseen;
    after = [];
    is = q ∙ sym (append-nil (seen ++ unseen));
    none = no-place n (length seen) unseen (sym e);
    place_is = ap length q;
    then = inl refl;
  }
  up-to-next n ring seen unseen (p ∷ due) q e =
      let x = next-place n (length seen) p due unseen (sym e) in record {
        between = x.others;
        after = x.here ∷ x.later;
        is = q ∙ (ap (λ (t : List R). seen ++ t) x.is
            ∙ sym (append_assoc seen x.others (x.here ∷ x.later)));
        none = x.none;
        place_is = x.place ∙ sym (length-append seen x.others);
        then = inr (x.here, x.later, refl, x.mine);
      }

  own-seen : (n : ℕ) (seen between : List R) → own_of maker n between ≡ []
      → own_of maker n (seen ++ between) ≡ own_of maker n seen
  own-seen n seen between none =
      own-append n seen between ∙ (ap (λ (t : List R). own_of maker n seen ++ t) none
      ∙ append-nil (own_of maker n seen))

  own-one : (n : ℕ) (r : R) → (maker r == n) ≡ true → own_of maker n (r ∷ []) ≡ r ∷ []
  own-one n r m = at (maker r == n) m
    where
      at : (is : Bool) → is ≡ true → cond is (r ∷ []) [] ≡ r ∷ []
      at true q = refl
      at false q = absurd (cc)

  -- a front with no more own entries ends there at the latest
  no-longer : (n : ℕ) (ring seen : List R) (place : ℕ) → UpToNext n ring seen place
      → (front rest : List R) → ring ≡ front ++ rest
      → length (own_of maker n front) ≤ length (own_of maker n seen) → length front ≤ place
  no-longer n ring seen place x front rest q h = ⊎_elim
      (λ (e : x.after ≡ []). at-end e)
      (λ (e : (r : R) × (more : List R) × (x.after ≡ r ∷ more) × ((maker r == n) ≡ true)). before
      e.0 e.1 e.2 e.3)
      x.then
    where
      at-end : x.after ≡ [] → length front ≤ place
      at-end e =
          let a : ring ≡ seen ++ x.between = x.is
          ∙ (ap (λ (t : List R). (seen ++ x.between) ++ t) e
          ∙ append-nil (seen ++ x.between)) in
          let b : length front + length rest
          ≡ length (seen ++ x.between) = sym (length-append front rest)
          ∙ (ap length (sym q) ∙ ap length a) in
          let c = x.place_is in omega (arith, b, c)

      beyond : (r : R) (more : List R) → x.after ≡ r ∷ more → (maker r == n) ≡ true
          → place < length front → ⊥
      beyond r more e m l =
          let here : ring ≡ ((seen ++ x.between) ++ r ∷ []) ++ more = x.is
          ∙ (ap (λ (t : List R). (seen ++ x.between) ++ t) e
          ∙ sym (append_assoc (seen ++ x.between) (r ∷ []) more)) in
          let c = x.place_is in
          let k : length ((seen ++ x.between) ++ r ∷ [])
          ≡ length (seen ++ x.between) + 1 = length-append (seen ++ x.between) (r ∷ []) in
          let f = front-of ((seen ++ x.between) ++ r ∷ []) front more rest (sym here ∙ q)
          (omega (arith, c, k, l)) in
          let o : own_of maker n front ≡ (own_of maker n seen ++ r ∷ []) ++ own_of maker n f.0
          = ap (own_of maker n) f.1 ∙ (own-append n ((seen ++ x.between) ++ r ∷ []) f.0
          ∙ ap (λ (t : List R). t ++ own_of maker n f.0) (own-append n (seen ++ x.between) (r ∷ [])
          ∙ (ap (λ (t : List R). t ++ own_of maker n (r ∷ [])) (own-seen n seen x.between x.none)
          ∙ ap (λ (t : List R). own_of maker n seen ++ t) (own-one n r m)))) in
          let u : length (own_of maker n front)
          ≡ length (own_of maker n seen ++ r ∷ []) + length (own_of maker n f.0) = ap length o
          ∙ length-append (own_of maker n seen ++ r ∷ []) (own_of maker n f.0) in
          let v : length (own_of maker n seen ++ r ∷ [])
          ≡ length (own_of maker n seen) + 1 = length-append (own_of maker n seen) (r ∷ []) in
          omega (arith, u, v, h)

      before : (r : R) (more : List R) → x.after ≡ r ∷ more → (maker r == n) ≡ true
          → length front ≤ place
      before r more e m =
          let no : place < length front → ⊥ = beyond r more e m in omega (arith, no)

  at-front : (a : List R) (h : R) (b : List R) (other : R)
      → get_or (a ++ h ∷ b) (length a) other ≡ h
  at-front [] h b other = refl
  at-front (x ∷ a) h b other = at-front a h b other

  here-at : (n start p : ℕ) (rest : List ℕ) (ring seen unseen : List R) (other : R)
      → ring ≡ seen ++ unseen → start ≡ length seen → (x : NextPlace n start p rest unseen)
      → (get_or ring p other ≡ x.here) × (p < length ring)
  here-at n start p rest ring seen unseen other q at x =
      let whole : ring ≡ (seen ++ x.others) ++ x.here ∷ x.later = q
      ∙ (ap (λ (t : List R). seen ++ t) x.is
      ∙ sym (append_assoc seen x.others (x.here ∷ x.later))) in
      let place : p ≡ length (seen ++ x.others) = x.place
      ∙ (ap (λ (k : ℕ). k + length x.others) at ∙ sym (length-append seen x.others)) in
      let long : length ring ≡ length (seen ++ x.others) + length (x.here ∷ x.later) = ap length
      whole ∙ length-append (seen ++ x.others) (x.here ∷ x.later) in (
        ap (λ (t : List R). get_or t p other) whole
            ∙ (ap (λ (k : ℕ). get_or ((seen ++ x.others) ++ x.here ∷ x.later) k other) place
            ∙ at-front (seen ++ x.others) x.here x.later other),
        omega (arith, place, long),
      )

  seen-on : (n start p : ℕ) (rest : List ℕ) (ring seen unseen : List R) → ring ≡ seen ++ unseen
      → start ≡ length seen → (x : NextPlace n start p rest unseen)
      → (ring ≡ ((seen ++ x.others) ++ x.here ∷ []) ++ x.later)
      × (suc p ≡ length ((seen ++ x.others) ++ x.here ∷ []))
  seen-on n start p rest ring seen unseen q at x =
      let whole : ring ≡ (seen ++ x.others) ++ x.here ∷ x.later = q
      ∙ (ap (λ (t : List R). seen ++ t) x.is
      ∙ sym (append_assoc seen x.others (x.here ∷ x.later))) in
      let place : p ≡ length (seen ++ x.others) = x.place
      ∙ (ap (λ (k : ℕ). k + length x.others) at ∙ sym (length-append seen x.others)) in
      let long : length ((seen ++ x.others) ++ x.here ∷ [])
      ≡ length (seen ++ x.others) + 1 = length-append (seen ++ x.others) (x.here ∷ []) in (
        whole ∙ sym (append_assoc (seen ++ x.others) (x.here ∷ []) x.later),
        omega (arith, place, long),
      )

  own-next : (n start p : ℕ) (rest : List ℕ) (ring : List R) → (x : NextPlace n start p rest ring)
      → own_of maker n ring ≡ x.here ∷ own_of maker n x.later
  own-next n start p rest ring x =
      ap (own_of maker n) x.is ∙ (own-append n x.others (x.here ∷ x.later)
      ∙ (ap (λ (t : List R). t ++ own_of maker n (x.here ∷ x.later)) x.none
      ∙ mine (maker x.here == n) x.mine))
    where
      mine : (is : Bool) → is ≡ true
          → cond is (x.here ∷ own_of maker n x.later) (own_of maker n x.later)
          ≡ x.here ∷ own_of maker n x.later
      mine true q = refl
      mine false q = absurd (cc)

  own-on : (n start p : ℕ) (rest : List ℕ) (seen unseen : List R)
      → (x : NextPlace n start p rest unseen)
      → own_of maker n ((seen ++ x.others) ++ x.here ∷ []) ≡ own_of maker n seen ++ x.here ∷ []
  own-on n start p rest seen unseen x =
      own-append n (seen ++ x.others) (x.here ∷ [])
      ∙ (ap (λ (t : List R). t ++ own_of maker n (x.here ∷ []))
      (own-seen n seen x.others x.none)
      ∙ ap (λ (t : List R). own_of maker n seen ++ t) (own-one n x.here x.mine))

  -- the entries at these places are the node's
  picked-own : (n : ℕ) (ring : List R) (other : R) (due : List ℕ) (seen unseen : List R)
      → ring ≡ seen ++ unseen → due ≡ places_from maker n (length seen) unseen
      → (entries_at other ring due ≡ own_of maker n unseen) × Each (λ (p : ℕ). p < length ring) due
  picked-own n ring other [] seen unseen q e = (sym (no-place n (length seen) unseen (sym e)), tt)
  picked-own n ring other (p ∷ due) seen unseen q e =
      let x = next-place n (length seen) p due unseen (sym e) in
      let here = here-at n (length seen) p due ring seen unseen other q refl x in
      let on = seen-on n (length seen) p due ring seen unseen q refl x in
      let more = picked-own n ring other due ((seen ++ x.others) ++ x.here ∷ []) x.later on.0
      (x.rest_is ∙ ap (λ (k : ℕ). places_from maker n k x.later) on.1) in (
        (λ i. here.0 i ∷ more.0 i) ∙ sym (own-next n (length seen) p due unseen x),
        (here.1, more.1),
      )

  pub places-own : (n : ℕ) (ring : List R) (other : R)
      → entries_at other ring (places_of maker n ring) ≡ own_of maker n ring
  places-own n ring other = (picked-own n ring other (places_of maker n ring) [] ring refl refl).0

  pub places-within : (n : ℕ) (ring : List R) (other : R)
      → Each (λ (p : ℕ). p < length ring) (places_of maker n ring)
  places-within n ring other =
      (picked-own n ring other (places_of maker n ring) [] ring refl refl).1

  module _ {E S D : Type 0} (note : S → E → S) (deed : D → R → D) (Caused : S → D → Type 0)
      (both : (s : S) (d : D) (e : E) (r : R) → Caused (note s e) d → Caused s (deed d r)
      → Caused (note s e) (deed d r)) (s0 : S) (d0 : D) where
    -- a station's list and the ring's have come so far
    pub record Stands (n : ℕ) (known : List E) (ring : List R) (left : List E) (due : List ℕ)
        (s : S) (d : D) : Type 0 where
      pub before : List E
      pub seen : List R
      pub unseen : List R
      pub ring_is : ring ≡ seen ++ unseen
      pub due_is : due ≡ places_from maker n (length seen) unseen
      pub walk : walks.Walk note deed Caused both s0 d0 known (own_of maker n ring) left
          (own_of maker n unseen) before (own_of maker n seen) s d

    pub stands-first : (n : ℕ) (known : List E) (ring : List R)
        → Stands n known ring known (places_of maker n ring) s0 d0
    stands-first n known ring = record {
      before = [];
      seen = [];
      unseen = ring;
      ring_is = refl;
      due_is = refl;
      walk = walks.walk-start note deed Caused both s0 d0 known (own_of maker n ring);
    }

    pub stands-noted : (n : ℕ) (known : List E) (ring : List R) (left : List E) (due : List ℕ)
        (s : S) (d : D) (e : E) → Caused (note s e) d
        → Stands n known ring (e ∷ left) due s d → Stands n known ring left due (note s e) d
    stands-noted n known ring left due s d e f x = record {
      before = x.before ++ e ∷ [];
      seen = x.seen;
      unseen = x.unseen;
      ring_is = x.ring_is;
      due_is = x.due_is;
      walk =
          walks.note-on note deed Caused both s0 d0 known (own_of maker n ring) left
          (own_of maker n x.unseen) x.before (own_of maker n x.seen) s d e f x.walk;
    }

    pub stands-done : (n : ℕ) (known : List E) (ring : List R) (other : R) (left : List E) (p : ℕ)
        (due : List ℕ) (s : S) (d : D) → Caused s (deed d (get_or ring p other))
        → Stands n known ring left (p ∷ due) s d
        → Stands n known ring left due s (deed d (get_or ring p other))
    stands-done n known ring other left p due s d f x =
        let y = next-place n (length x.seen) p due x.unseen (sym x.due_is) in
        let here = here-at n (length x.seen) p due ring x.seen x.unseen other x.ring_is refl y in
        let on = seen-on n (length x.seen) p due ring x.seen x.unseen x.ring_is refl y in
        let f_here : Caused s (deed d y.here) = subst (λ (r : R). Caused s (deed d r)) here.0 f in
        let now = walks.done-on note deed Caused both s0 d0 known (own_of maker n ring) left
        (own_of maker n y.later) x.before (own_of maker n x.seen) s d y.here f_here
        (subst (λ (o : List R). walks.Walk note deed Caused both s0 d0 known (own_of maker n ring)
        left o x.before (own_of maker n x.seen) s d)
        (own-next n (length x.seen) p due x.unseen y) x.walk) in
        record {
          before = x.before;
          seen = (x.seen ++ y.others) ++ y.here ∷ [];
          unseen = y.later;
          ring_is = on.0;
          due_is = y.rest_is ∙ ap (λ (k : ℕ). places_from maker n k y.later) on.1;
          walk =
              subst (λ (r : R). walks.Walk note deed Caused both s0 d0 known (own_of maker n ring)
              left (own_of maker n y.later) x.before
              (own_of maker n ((x.seen ++ y.others) ++ y.here ∷ [])) s (deed d r)) (sym here.0)
              (subst (λ (o : List R). walks.Walk note deed Caused both s0 d0 known
              (own_of maker n ring) left (own_of maker n y.later) x.before o s (deed d y.here))
              (sym (own-on n (length x.seen) p due x.seen x.unseen y)) now);
        }

    pub stands-within : (n : ℕ) (known : List E) (ring : List R) (other : R) (left : List E)
        (due : List ℕ) (s : S) (d : D) → Stands n known ring left due s d
        → Each (λ (p : ℕ). p < length ring) due
    stands-within n known ring other left due s d x =
        (picked-own n ring other due x.seen x.unseen x.ring_is x.due_is).1

    -- where neither list can go on, both have come as far as they go in time
    pub stands-still : (n : ℕ) (known : List E) (ring : List R) (other : R) (left : List E)
        (due : List ℕ) (s : S) (d : D) (entries : ℕ) → entries + length left ≡ length known
        → (CanNote note deed Caused s d left → ⊥)
        → (CanDo note deed Caused s d (entries_at other ring due) → ⊥)
        → Stands n known ring left due s d
        → AreInTimeUpTo maker note deed Caused s0 d0 n known ring entries
        (next_of (length ring) due)
    stands-still n known ring other left due s d entries sum a b x =
        let same = (picked-own n ring other due x.seen x.unseen x.ring_is x.due_is).0 in
        let next = up-to-next n ring x.seen x.unseen due x.ring_is x.due_is in
        let long : length known ≡ length x.before + length left = ap length x.walk.known_is
        ∙ length-append x.before left in
        let count : entries ≡ length x.before = omega (arith, long, sum) in
        let far : length ring ≡ length (x.seen ++ next.between) + length next.after = ap length
        next.is ∙ length-append (x.seen ++ next.between) next.after in
        record {
          entries_within = omega (arith, long, sum);
          place_within = let e = next.place_is in omega (arith, far, e);
          in_time =
              subst (λ (k : List E). InTimeFrom note deed Caused s0 d0 k
              (own_of maker n (take (next_of (length ring) due) ring)))
              (sym (ap (λ (k : ℕ). take k known) count
              ∙ (ap (λ (t : List E). take (length x.before) t) x.walk.known_is
              ∙ take-front x.before left)))
              (subst (λ (o : List R). InTimeFrom note deed Caused s0 d0 x.before o)
              (sym (ap (own_of maker n) (ap (λ (k : ℕ). take k ring) next.place_is
              ∙ (ap (λ (t : List R). take (length (x.seen ++ next.between)) t) next.is
              ∙ take-front (x.seen ++ next.between) next.after))
              ∙ own-seen n x.seen next.between next.none))
              x.walk.came);
          longest = λ front rest seen unseen p q y.
              let ends = walks.walk-ends note deed Caused both s0 d0 known (own_of maker n ring)
              left (own_of maker n x.unseen) x.before (own_of maker n x.seen) s d x.walk a
              (λ c. b (subst (λ (o : List R). CanDo note deed Caused s d o) (sym same) c))
              front rest (own_of maker n seen) (own_of maker n unseen) p
              (ap (own_of maker n) q ∙ own-append n seen unseen) y in (
                omega (arith, count, ends.0),
                no-longer n ring x.seen (next_of (length ring) due)
                    next seen unseen q ends.1,
              );
        }

    take-all : {X : Type 0} (xs : List X) → take (length xs) xs ≡ xs
    take-all [] = refl
    take-all (x ∷ xs) = ap (λ (t : _). x ∷ t) (take-all xs)

    -- both lists are in time where these are whole
    pub whole-in-time : (n : ℕ) (known : List E) (ring : List R)
        → AreInTimeUpTo maker note deed Caused s0 d0 n known ring (length known) (length ring)
        → InTimeFrom note deed Caused s0 d0 known (own_of maker n ring)
    whole-in-time n known ring x =
        subst (λ (k : List E). InTimeFrom note deed Caused s0 d0 k (own_of maker n ring))
        (take-all known)
        (subst (λ (t : List R). InTimeFrom note deed Caused s0 d0 (take (length known) known)
        (own_of maker n t)) (take-all ring) x.in_time)

    pub in-time-whole : (n : ℕ) (known : List E) (ring : List R) (entries place : ℕ)
        → AreInTimeUpTo maker note deed Caused s0 d0 n known ring entries place
        → InTimeFrom note deed Caused s0 d0 known (own_of maker n ring)
        → (entries ≡ length known) × (place ≡ length ring)
    in-time-whole n known ring entries place x y =
        let h = x.longest known [] ring [] (sym (append-nil known)) (sym (append-nil ring)) y in
        let a = x.entries_within in
        let b = x.place_within in
        (omega (arith, a, h.0), omega (arith, b, h.1))

    cut-at : {X : Type 0} (k : ℕ) (xs : List X) → xs ≡ take k xs ++ drop k xs
    cut-at k xs = sym (take-append-drop k xs)

    -- there is one such pair
    pub up-to-is-one : (n : ℕ) (known : List E) (ring : List R) (a b p q : ℕ)
        → AreInTimeUpTo maker note deed Caused s0 d0 n known ring a p
        → AreInTimeUpTo maker note deed Caused s0 d0 n known ring b q → (a ≤ b) × (p ≤ q)
    up-to-is-one n known ring a b p q x y =
        let h = y.longest (take a known) (drop a known) (take p ring) (drop p ring)
        (cut-at a known) (cut-at p ring) x.in_time in
        let u = length-take a known in
        let v = length-take p ring in
        let f = x.entries_within in
        let g = x.place_within in
        (omega (arith, h.0, u, f), omega (arith, h.1, v, g))
