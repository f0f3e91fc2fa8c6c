-- Whatever may come next may come first.
use Rattle.std.proofs.Common.{◌≡◌, ◌↔◌, List, [], ◌∷◌, refl, subst}
use Rattle.one_order.specs.Merges.{Merged, AsNoted, AsDone, noted_of, deeds_of, Runs, InTimeFrom}
use Rattle.one_order.proofs.Merges.{noted-first, done-first}

module _ {E R S D : Type 0} (note : S → E → S) (deed : D → R → D) (Caused : S → D → Type 0)
    (both : (s : S) (d : D) (e : E) (r : R) → Caused (note s e) d → Caused s (deed d r)
    → Caused (note s e) (deed d r)) where
  abbrev Run : S → D → List (Merged E R) → Type 0
  Run s d w = Runs note deed Caused s d w

  abbrev Timely : S → D → List E → List R → Type 0
  Timely s d known first = InTimeFrom note deed Caused s d known first

  -- the station's next entry may come first
  note-first : (s : S) (d : D) (e : E) (known : List E) (w : List (Merged E R))
      → noted_of w ≡ e ∷ known → Run s d w → Caused (note s e) d
      → Timely (note s e) d known (deeds_of w)
  note-first s d e known [] q x f = absurd (cc)
  note-first s d e known (AsNoted c ∷ w) q x f =
      let same : c ≡ e = cc in
      record {
        merge = w;
        noted = cc;
        done = refl;
        runs = subst (λ (y : E). Run (note s y) d w) same x.1;
      }
  note-first s d e known (AsDone r ∷ w) q x f =
      let k = both s d e r f x.0 in
      done-first note deed Caused (note s e) d r known (deeds_of w) k
      (note-first s (deed d r) e known w q x.1 k)

  -- so may the ring's
  deed-first : (s : S) (d : D) (r : R) (first : List R) (w : List (Merged E R))
      → deeds_of w ≡ r ∷ first → Run s d w → Caused s (deed d r)
      → Timely s (deed d r) (noted_of w) first
  deed-first s d r first [] q x f = absurd (cc)
  deed-first s d r first (AsDone c ∷ w) q x f =
      let same : c ≡ r = cc in
      record {
        merge = w;
        noted = refl;
        done = cc;
        runs = subst (λ (y : R). Run s (deed d y) w) same x.1;
      }
  deed-first s d r first (AsNoted e ∷ w) q x f =
      let k = both s d e r x.0 f in
      noted-first note deed Caused s (deed d r) e (noted_of w) first k
      (deed-first (note s e) d r first w q x.1 k)

  pub noted-step : (s : S) (d : D) (e : E) (known : List E) (first : List R) → Caused (note s e) d
      → Timely s d (e ∷ known) first ↔ Timely (note s e) d known first
  noted-step s d e known first f = (
    λ x. subst (λ (o : List R). Timely (note s e) d known o) x.done
        (note-first s d e known x.merge x.noted x.runs f),
    λ x. noted-first note deed Caused s d e known first f x,
  )

  pub done-step : (s : S) (d : D) (r : R) (known : List E) (first : List R) → Caused s (deed d r)
      → Timely s d known (r ∷ first) ↔ Timely s (deed d r) known first
  done-step s d r known first f = (
    λ x. subst (λ (k : List E). Timely s (deed d r) k first) x.noted
        (deed-first s d r first x.merge x.done x.runs f),
    λ x. done-first note deed Caused s d r known first f x,
  )

  -- where neither may come next there is no merge
  pub neither-fits : (s : S) (d : D) (e : E) (r : R) (known : List E) (first : List R)
      → (Caused (note s e) d → ⊥)
      → (Caused s (deed d r) → ⊥)
      → Timely s d (e ∷ known) (r ∷ first) → ⊥
  neither-fits s d e r known first not-e not-r x = at x.merge x.noted x.done x.runs
    where
      at : (w : List (Merged E R)) → noted_of w ≡ e ∷ known → deeds_of w ≡ r ∷ first → Run s d w
          → ⊥
      at [] p q y = absurd (cc)
      at (AsNoted c ∷ w) p q y =
          let same : c ≡ e = cc in not-e (subst (λ (z : E). Caused (note s z) d) same y.0)
      at (AsDone c ∷ w) p q y =
          let same : c ≡ r = cc in not-r (subst (λ (z : R). Caused s (deed d z)) same y.0)
