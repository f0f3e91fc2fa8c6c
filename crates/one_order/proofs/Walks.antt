-- How far both lists go in time.
use Rattle.std.proofs.Common.{◌≡◌, ◌≤◌, List, [], ◌∷◌, ◌++◌, length, refl, sym, ap, subst, ◌∙◌}
use Rattle.std.proofs.Common.{append_assoc, arith, inl, inr, ◌⊎◌, ⊎_elim}
use Rattle.std.proofs.lemmas.List.{append-nil}
use Rattle.one_order.specs.Merges.{Merged, AsNoted, AsDone, noted_of, deeds_of, tally, Runs}
use Rattle.one_order.specs.Merges.{InTimeFrom}
use Rattle.one_order.specs.Fronts as fronts
use Rattle.one_order.proofs.Merges.{tally-append, nothing-due, noted-first, done-first, join}
use Rattle.one_order.proofs.Greedy.{noted-step, done-step}

-- of two fronts of one list the shorter is a front of the longer
pub front-of : {X : Type 0} (p a p_rest a_rest : List X) → p ++ p_rest ≡ a ++ a_rest
    → length p ≤ length a → (rest : List X) × (a ≡ p ++ rest)
front-of [] a p_rest a_rest q h = (a, refl)
front-of (x ∷ p) [] p_rest a_rest q h = absurd (omega (arith, h))
front-of (x ∷ p) (y ∷ a) p_rest a_rest q h =
    let same : x ≡ y = cc in
    let more = front-of p a p_rest a_rest (cc) (omega (arith, h)) in
    (more.0, let e = more.1 in cc)

-- what a list has behind so many entries as another one has
abbrev pub past : {X : Type 0} → List X → List X → List X
past [] ys = ys
past (x ∷ xs) [] = []
past (x ∷ xs) (y ∷ ys) = past xs ys

-- one entry more is passed
pub past-on : {X : Type 0} (before left front rest : List X) (e : X)
    → front ++ rest ≡ before ++ e ∷ left
    → ((past before front ≡ []) × (past (before ++ e ∷ []) front ≡ []))
    ⊎ ((more : List X) × (past before front ≡ e ∷ more)
    × (past (before ++ e ∷ []) front ≡ more))
past-on [] left [] rest e q = inl (refl, refl)
past-on [] left (x ∷ front) rest e q =
    let same : x ≡ e = cc in inr (front, ap (λ (y : _). y ∷ front) same, refl)
past-on (b ∷ before) left [] rest e q = inl (refl, refl)
past-on (b ∷ before) left (x ∷ front) rest e q = past-on before left front rest e (cc)

pub past-none : {X : Type 0} (before front : List X) → past before front ≡ []
    → length front ≤ length before
past-none [] [] q = omega arith
past-none [] (y ∷ front) q = absurd (cc)
past-none (b ∷ before) [] q = omega arith
past-none (b ∷ before) (y ∷ front) q = let h = past-none before front q in omega (arith, h)

module _ {E R S D : Type 0} (note : S → E → S) (deed : D → R → D) (Caused : S → D → Type 0)
    (both : (s : S) (d : D) (e : E) (r : R) → Caused (note s e) d → Caused s (deed d r)
    → Caused (note s e) (deed d r)) where
  abbrev Run : S → D → List (Merged E R) → Type 0
  Run s d w = Runs note deed Caused s d w

  abbrev Timely : S → D → List E → List R → Type 0
  Timely s d known first = InTimeFrom note deed Caused s d known first

  abbrev NextNoted : S → D → List E → Type 0
  NextNoted s d known = fronts.CanNote note deed Caused s d known

  abbrev NextDone : S → D → List R → Type 0
  NextDone s d first = fronts.CanDo note deed Caused s d first

  -- what one list alone may bring, it may behind an entry of the other
  note-run : (s : S) (d : D) (e : E) (w : List (Merged E R)) → noted_of w ≡ [] → Run s d w
      → Caused (note s e) d → Run (note s e) d w
  note-run s d e [] q x f = tt
  note-run s d e (AsNoted c ∷ w) q x f = absurd (cc)
  note-run s d e (AsDone r ∷ w) q x f =
      let k = both s d e r f x.0 in (k, note-run s (deed d r) e w q x.1 k)

  note-alone : (s : S) (d : D) (e : E) (first : List R) → Timely s d [] first → Caused (note s e) d
      → Timely (note s e) d [] first
  note-alone s d e first x f =
      record {
        merge = x.merge;
        noted = x.noted;
        done = x.done;
        runs = note-run s d e x.merge x.noted x.runs f;
      }

  done-run : (s : S) (d : D) (r : R) (w : List (Merged E R)) → deeds_of w ≡ [] → Run s d w
      → Caused s (deed d r) → Run s (deed d r) w
  done-run s d r [] q x f = tt
  done-run s d r (AsDone c ∷ w) q x f = absurd (cc)
  done-run s d r (AsNoted e ∷ w) q x f =
      let k = both s d e r x.0 f in (k, done-run (note s e) d r w q x.1 k)

  done-alone : (s : S) (d : D) (r : R) (known : List E) → Timely s d known [] → Caused s (deed d r)
      → Timely s (deed d r) known []
  done-alone s d r known x f =
      record {
        merge = x.merge;
        noted = x.noted;
        done = x.done;
        runs = done-run s d r x.merge x.done x.runs f;
      }

  -- where none may come next, none is left
  stuck-by : (s : S) (d : D) (w : List (Merged E R)) → Run s d w → (NextNoted s d (noted_of w) → ⊥)
      → (NextDone s d (deeds_of w) → ⊥) → (noted_of w ≡ []) × (deeds_of w ≡ [])
  stuck-by s d [] x a b = (refl, refl)
  stuck-by s d (AsNoted e ∷ w) x a b = absurd (a x.0)
  stuck-by s d (AsDone r ∷ w) x a b = absurd (b x.0)

  pub stuck : (s : S) (d : D) (left : List E) (due : List R) → (NextNoted s d left → ⊥)
      → (NextDone s d due → ⊥) → Timely s d left due → (left ≡ []) × (due ≡ [])
  stuck s d left due a b x =
      let none = stuck-by s d x.merge x.runs
      (λ c. a (subst (λ (k : List E). NextNoted s d k) x.noted c))
      (λ c. b (subst (λ (o : List R). NextDone s d o) x.done c)) in
      (sym x.noted ∙ none.0, sym x.done ∙ none.1)

  -- the next entry of a front is the next of the list
  note-past : (s : S) (d : D) (before left front rest : List E) → front ++ rest ≡ before ++ left
      → NextNoted s d (past before front) → NextNoted s d left
  note-past s d [] left [] rest q c = absurd c
  note-past s d [] [] (x ∷ front) rest q c = absurd (cc)
  note-past s d [] (y ∷ left) (x ∷ front) rest q c =
      let same : x ≡ y = cc in subst (λ (e : E). Caused (note s e) d) same c
  note-past s d (b ∷ before) left [] rest q c = absurd c
  note-past s d (b ∷ before) left (x ∷ front) rest q c =
      note-past s d before left front rest (cc) c

  done-past : (s : S) (d : D) (before left front rest : List R) → front ++ rest ≡ before ++ left
      → NextDone s d (past before front) → NextDone s d left
  done-past s d [] left [] rest q c = absurd c
  done-past s d [] [] (x ∷ front) rest q c = absurd (cc)
  done-past s d [] (y ∷ left) (x ∷ front) rest q c =
      let same : x ≡ y = cc in subst (λ (r : R). Caused s (deed d r)) same c
  done-past s d (b ∷ before) left [] rest q c = absurd c
  done-past s d (b ∷ before) left (x ∷ front) rest q c =
      done-past s d before left front rest (cc) c

  module _ (s0 : S) (d0 : D) (known : List E) (own : List R) where
    -- both lists have come so far, with these counts: in time, and every front that is in time can
    -- go on from here
    pub record Walk (left : List E) (due : List R) (before : List E) (first : List R) (s : S)
        (d : D) : Type 0 where
      pub known_is : known ≡ before ++ left
      pub own_is : own ≡ first ++ due
      pub noted_is : s ≡ tally note s0 before
      pub done_is : d ≡ tally deed d0 first
      pub came : Timely s0 d0 before first
      pub further : (front rest : List E) (seen unseen : List R) → known ≡ front ++ rest
          → own ≡ seen ++ unseen → Timely s0 d0 front seen
          → Timely s d (past before front) (past first seen)

    pub walk-start : Walk known own [] [] s0 d0
    walk-start = record {
      known_is = refl;
      own_is = refl;
      noted_is = refl;
      done_is = refl;
      came = nothing-due note deed Caused s0 d0;
      further = λ front rest seen unseen p q x. x;
    }

    note-further : (s : S) (d : D) (e : E) (now next : List E) (first : List R)
        → Caused (note s e) d
        → ((now ≡ []) × (next ≡ [])) ⊎ ((more : List E) × (now ≡ e ∷ more) × (next ≡ more))
        → Timely s d now first → Timely (note s e) d next first
    note-further s d e now next first f way x = ⊎_elim
        (λ (h : (now ≡ []) × (next ≡ [])). subst (λ (k : List E). Timely (note s e) d k first)
        (sym h.1) (note-alone s d e first (subst (λ (k : List E). Timely s d k first) h.0 x)
        f))
        (λ (h : (more : List E) × (now ≡ e ∷ more) × (next ≡ more)). subst
        (λ (k : List E). Timely (note s e) d k first) (sym h.2)
        ((noted-step note deed Caused both s d e h.0 first f).0
        (subst (λ (k : List E). Timely s d k first) h.1 x)))
        way

    done-further : (s : S) (d : D) (r : R) (known_part : List E) (now next : List R)
        → Caused s (deed d r)
        → ((now ≡ []) × (next ≡ [])) ⊎ ((more : List R) × (now ≡ r ∷ more) × (next ≡ more))
        → Timely s d known_part now → Timely s (deed d r) known_part next
    done-further s d r known_part now next f way x = ⊎_elim
        (λ (h : (now ≡ []) × (next ≡ [])). subst (λ (o : List R). Timely s (deed d r) known_part o)
        (sym h.1) (done-alone s d r known_part
        (subst (λ (o : List R). Timely s d known_part o) h.0 x) f))
        (λ (h : (more : List R) × (now ≡ r ∷ more) × (next ≡ more)). subst
        (λ (o : List R). Timely s (deed d r) known_part o) (sym h.2)
        ((done-step note deed Caused both s d r known_part h.0 f).0
        (subst (λ (o : List R). Timely s d known_part o) h.1 x)))
        way

    pub note-on : (left : List E) (due : List R) (before : List E) (first : List R) (s : S) (d : D)
        (e : E) → Caused (note s e) d
        → Walk (e ∷ left) due before first s d
        → Walk left due (before ++ e ∷ []) first (note s e) d
    note-on left due before first s d e f x = record {
      known_is = x.known_is ∙ sym (append_assoc before (e ∷ []) left);
      own_is = x.own_is;
      noted_is = ap (λ (t : S). note t e) x.noted_is ∙ sym (tally-append note s0 before (e ∷ []));
      done_is = x.done_is;
      came = subst (λ (o : List R). Timely s0 d0 (before ++ e ∷ []) o) (append-nil first)
          (join note deed Caused s0 d0 before (e ∷ []) first [] x.came
          (subst (λ (t : D). Timely (tally note s0 before) t (e ∷ []) []) x.done_is
          (subst (λ (t : S). Timely t d (e ∷ []) []) x.noted_is
          (noted-first note deed Caused s d e [] [] f
          (nothing-due note deed Caused (note s e) d)))));
      further =
          λ front rest seen unseen p q y. note-further s d e (past before front)
          (past (before ++ e ∷ []) front) (past first seen) f
          (past-on before left front rest e (sym p ∙ x.known_is))
          (x.further front rest seen unseen p q y);
    }

    pub done-on : (left : List E) (due : List R) (before : List E) (first : List R) (s : S) (d : D)
        (r : R) → Caused s (deed d r)
        → Walk left (r ∷ due) before first s d
        → Walk left due before (first ++ r ∷ []) s (deed d r)
    done-on left due before first s d r f x = record {
      known_is = x.known_is;
      own_is = x.own_is ∙ sym (append_assoc first (r ∷ []) due);
      noted_is = x.noted_is;
      done_is = ap (λ (t : D). deed t r) x.done_is ∙ sym (tally-append deed d0 first (r ∷ []));
      came = subst (λ (k : List E). Timely s0 d0 k (first ++ r ∷ [])) (append-nil before)
          (join note deed Caused s0 d0 before [] first (r ∷ []) x.came
          (subst (λ (t : D). Timely (tally note s0 before) t [] (r ∷ [])) x.done_is
          (subst (λ (t : S). Timely t d [] (r ∷ [])) x.noted_is
          (done-first note deed Caused s d r [] [] f
          (nothing-due note deed Caused s (deed d r))))));
      further =
          λ front rest seen unseen p q y. done-further s d r (past before front) (past first seen)
          (past (first ++ r ∷ []) seen) f
          (past-on first due seen unseen r (sym q ∙ x.own_is))
          (x.further front rest seen unseen p q y);
    }

    -- where neither list can go on, no fronts are in time that are longer
    pub walk-ends : (left : List E) (due : List R) (before : List E) (first : List R) (s : S)
        (d : D) → Walk left due before first s d
        → (NextNoted s d left → ⊥) → (NextDone s d due → ⊥)
        → (front rest : List E) (seen unseen : List R) → known ≡ front ++ rest
        → own ≡ seen ++ unseen → Timely s0 d0 front seen
        → (length front ≤ length before) × (length seen ≤ length first)
    walk-ends left due before first s d x a b front rest seen unseen p q y =
        let none = stuck s d (past before front) (past first seen)
        (λ c. a (note-past s d before left front rest (sym p ∙ x.known_is) c))
        (λ c. b (done-past s d first due seen unseen (sym q ∙ x.own_is) c))
        (x.further front rest seen unseen p q y) in
        (past-none before front none.0, past-none first seen none.1)
