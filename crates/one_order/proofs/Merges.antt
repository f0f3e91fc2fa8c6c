-- Merges that run, and how they go on.
use Rattle.std.proofs.Common.{◌≡◌, ◌↔◌, Bool, true, false, cond, List, [], ◌∷◌, ◌++◌, filter, refl}
use Rattle.std.proofs.Common.{sym, ap, ◌∙◌, subst}
use Rattle.std.proofs.lemmas.List.Elements.{filter_map-append}
use Rattle.one_order.specs.Merges.{Merged, AsNoted, AsDone, noted_in, done_in, noted_of, deeds_of}
use Rattle.one_order.specs.Merges.{tally, Runs, EachFrontIsCaused, InTimeFrom, IsDueWhere}

pub tally-append : {X T : Type 0} (next : T → X → T) (t : T) (xs ys : List X)
    → tally next t (xs ++ ys) ≡ tally next (tally next t xs) ys
tally-append next t [] ys = refl
tally-append next t (x ∷ xs) ys = tally-append next (next t x) xs ys

module _ {E R S D : Type 0} (note : S → E → S) (deed : D → R → D) (Caused : S → D → Type 0) where
  abbrev Run : S → D → List (Merged E R) → Type 0
  Run s d w = Runs note deed Caused s d w

  abbrev Timely : S → D → List E → List R → Type 0
  Timely s d known first = InTimeFrom note deed Caused s d known first

  pub runs-append : (s : S) (d : D) (a b : List (Merged E R)) → Run s d a
      → Run (tally note s (noted_of a)) (tally deed d (deeds_of a)) b
      → Run s d (a ++ b)
  runs-append s d [] b x y = y
  runs-append s d (AsNoted e ∷ a) b x y = (x.0, runs-append (note s e) d a b x.1 y)
  runs-append s d (AsDone r ∷ a) b x y = (x.0, runs-append s (deed d r) a b x.1 y)

  -- a front of a merge that runs fits
  pub runs-front : (s : S) (d : D) (v rest : List (Merged E R)) → Caused s d → Run s d (v ++ rest)
      → Caused (tally note s (noted_of v)) (tally deed d (deeds_of v))
  runs-front s d [] rest f x = f
  runs-front s d (AsNoted e ∷ v) rest f x = runs-front (note s e) d v rest x.0 x.1
  runs-front s d (AsDone r ∷ v) rest f x = runs-front s (deed d r) v rest x.0 x.1

  pub runs-end : (s : S) (d : D) (v : List (Merged E R)) → Caused s d → Run s d v
      → Caused (tally note s (noted_of v)) (tally deed d (deeds_of v))
  runs-end s d [] f x = f
  runs-end s d (AsNoted e ∷ v) f x = runs-end (note s e) d v x.0 x.1
  runs-end s d (AsDone r ∷ v) f x = runs-end s (deed d r) v x.0 x.1

  pub each-runs : (s : S) (d : D) (w : List (Merged E R))
      → EachFrontIsCaused note deed Caused s d w → Run s d w
  each-runs s d [] all = tt
  each-runs s d (AsNoted e ∷ w) all = (
    all (AsNoted e ∷ []) w refl,
    each-runs (note s e) d w
        (λ v rest is. all (AsNoted e ∷ v) rest
        (ap (λ (t : List (Merged E R)). AsNoted e ∷ t) is)),
  )
  each-runs s d (AsDone r ∷ w) all = (
    all (AsDone r ∷ []) w refl,
    each-runs s (deed d r) w
        (λ v rest is. all (AsDone r ∷ v) rest (ap (λ (t : List (Merged E R)). AsDone r ∷ t) is)),
  )

  pub prefixes : (s : S) (d : D) (w : List (Merged E R)) → Caused s d
      → EachFrontIsCaused note deed Caused s d w ↔ Run s d w
  prefixes s d w f = (
    λ all. each-runs s d w all,
    λ x v rest is. runs-front s d v rest f (subst (λ (t : List (Merged E R)). Run s d t) is x),
  )

  pub nothing-due : (s : S) (d : D) → Timely s d [] []
  nothing-due s d = record { merge = []; noted = refl; done = refl; runs = tt }

  pub noted-first : (s : S) (d : D) (e : E) (known : List E) (first : List R) → Caused (note s e) d
      → Timely (note s e) d known first
      → Timely s d (e ∷ known) first
  noted-first s d e known first f x = record {
    merge = AsNoted e ∷ x.merge;
    noted = ap (λ (t : List E). e ∷ t) x.noted;
    done = x.done;
    runs = (f, x.runs);
  }

  pub done-first : (s : S) (d : D) (r : R) (known : List E) (first : List R) → Caused s (deed d r)
      → Timely s (deed d r) known first
      → Timely s d known (r ∷ first)
  done-first s d r known first f x = record {
    merge = AsDone r ∷ x.merge;
    noted = x.noted;
    done = ap (λ (t : List R). r ∷ t) x.done;
    runs = (f, x.runs);
  }

  -- one after the other
  pub join : (s : S) (d : D) (known more : List E) (first done : List R) → Timely s d known first
      → Timely (tally note s known) (tally deed d first) more done
      → Timely s d (known ++ more) (first ++ done)
  join s d known more first done x y = record {
    merge = x.merge ++ y.merge;
    noted = let e = filter_map-append noted_in x.merge y.merge in cc;
    done = let e = filter_map-append done_in x.merge y.merge in cc;
    runs = runs-append s d x.merge y.merge x.runs
        (subst (λ (k : List E). Run (tally note s k) (tally deed d (deeds_of x.merge)) y.merge)
        (sym x.noted)
        (subst (λ (o : List R). Run (tally note s known) (tally deed d o) y.merge) (sym x.done)
        y.runs));
  }

  -- the counts at the end fit
  pub end-fits : (s : S) (d : D) (known : List E) (first : List R) → Caused s d
      → Timely s d known first
      → Caused (tally note s known) (tally deed d first)
  end-fits s d known first f x =
      subst (λ (k : List E). Caused (tally note s k) (tally deed d first)) x.noted
      (subst (λ (o : List R). Caused (tally note s (noted_of x.merge)) (tally deed d o)) x.done
      (runs-end s d x.merge f x.runs))

  -- what is due one after the other is due
  pub due-join : (Good : S → D → Type 0) (known more : List E) (first done : List R)
      → IsDueWhere note deed Caused Good known first
      → IsDueWhere note deed Caused Good more done
      → IsDueWhere note deed Caused Good (known ++ more) (first ++ done)
  due-join Good known more first done a b s d f g =
      let x = a s d f g in
      let y = b (tally note s known) (tally deed d first) (end-fits s d known first f x.0) x.1 in (
        join s d known more first done x.0 y.0,
        subst (λ (t : S). Good t (tally deed d (first ++ done)))
            (sym (tally-append note s known more))
            (subst (λ (t : D). Good (tally note (tally note s known) more) t)
            (sym (tally-append deed d first done)) y.1),
      )

  -- ---- what others note forbids nothing
  pub record Allows (ours : E → Bool) (More : S → S → Type 0) : Type 0 where
    pub caused : (s t : S) (d : D) → More s t → Caused s d → Caused t d
    pub by_ours : (s t : S) (e : E) → ours e ≡ true → More s t → More (note s e) (note t e)
    pub by_others : (s t : S) (e : E) → ours e ≡ false → More s t → More s (note t e)

  module _ (ours : E → Bool) (More : S → S → Type 0) (allows : Allows ours More) where
    other-first : (s t : S) (d : D) (e : E) (more : List E) (done : List R) → ours e ≡ false
        → More s t → Caused s d → Timely (note t e) d more done
        → Timely t d (e ∷ more) done
    other-first s t d e more done o m f x =
        noted-first t d e more done
        (allows.caused s (note t e) d (allows.by_others s t e o m) f) x

    pad-none : (s t : S) (d : D) (more : List E) → More s t → Caused s d → [] ≡ filter ours more
        → Timely t d more []
    pad-none s t d [] m f q = nothing-due t d
    pad-none s t d (e ∷ more) m f q =
        at (ours e) refl q (λ o r. pad-none s (note t e) d more (allows.by_others s t e o m) f r)
      where
        at : (b : Bool) → ours e ≡ b → [] ≡ cond b (e ∷ filter ours more) (filter ours more)
            → (ours e ≡ false → [] ≡ filter ours more → Timely (note t e) d more [])
            → Timely t d (e ∷ more) []
        at true is r go = absurd (cc)
        at false is r go = other-first s t d e more [] is m f (go is r)

    pad-noted : (s t : S) (d : D) (e : E) (known : List E) (done : List R) → More s t → Caused s d
        → Caused (note s e) d
        → ((u : S) (more : List E) → More (note s e) u → known ≡ filter ours more
        → Timely u d more done)
        → (more : List E) → e ∷ known ≡ filter ours more → Timely t d more done
    pad-noted s t d e known done m f g go [] q = absurd (cc)
    pad-noted s t d e known done m f g go (c ∷ more) q =
        at (ours c) refl q
        (λ o r. pad-noted s (note t c) d e known done (allows.by_others s t c o m) f g go more r)
      where
        at : (b : Bool) → ours c ≡ b → e ∷ known ≡ cond b (c ∷ filter ours more) (filter ours more)
            → (ours c ≡ false → e ∷ known ≡ filter ours more → Timely (note t c) d more done)
            → Timely t d (c ∷ more) done
        at true is r on =
            let same : c ≡ e = cc in
            let next : More (note s e) (note t e) =
            allows.by_ours s t e (ap ours (sym same) ∙ is) m in
            subst (λ (x : E). Timely t d (x ∷ more) done) (sym same)
            (noted-first t d e more done (allows.caused (note s e) (note t e) d next g)
            (go (note t e) more next (cc)))
        at false is r on = other-first s t d c more done is m f (on is r)

    pad : (s t : S) (d : D) (v : List (Merged E R)) → More s t → Caused s d → Run s d v
        → (more : List E) → noted_of v ≡ filter ours more
        → Timely t d more (deeds_of v)
    pad s t d [] m f x more q = pad-none s t d more m f q
    pad s t d (AsNoted e ∷ v) m f x more q =
        pad-noted s t d e (noted_of v) (deeds_of v) m f x.0
        (λ u more' n p. pad (note s e) u d v n x.0 x.1 more' p) more q
    pad s t d (AsDone r ∷ v) m f x more q =
        done-first t d r more (deeds_of v) (allows.caused s t (deed d r) m x.0)
        (pad s t (deed d r) v m x.0 x.1 more q)

    -- lists in time stay so where a worker adds what is due, whatever others write in between
    pub goes-on : (s : S) (d : D) (known more : List E) (first done : List R)
        → ((t : S) → More t t) → Caused s d → Timely s d known first
        → Timely (tally note s known) (tally deed d first) (filter ours more) done
        → Timely s d (known ++ more) (first ++ done)
    goes-on s d known more first done same f x y = join s d known more first done x
        (subst (λ (o : List R). Timely (tally note s known) (tally deed d first) more o) y.done
        (pad (tally note s known) (tally note s known) (tally deed d first) y.merge
        (same (tally note s known)) (end-fits s d known first f x)
        y.runs more y.noted))

    -- the counts at the end
    pub more-at-end : (s t : S) (more : List E) → More s t
        → More (tally note s (filter ours more)) (tally note t more)
    more-at-end s t [] m = m
    more-at-end s t (e ∷ more) m = at (ours e) refl
        (λ is. more-at-end (note s e) (note t e) more (allows.by_ours s t e is m))
        (λ is. more-at-end s (note t e) more (allows.by_others s t e is m))
      where
        at : (b : Bool) → ours e ≡ b
            → (ours e ≡ true
            → More (tally note (note s e) (filter ours more)) (tally note (note t e) more))
            → (ours e ≡ false → More (tally note s (filter ours more)) (tally note (note t e) more))
            → More (tally note s (cond b (e ∷ filter ours more) (filter ours more)))
            (tally note (note t e) more)
        at true is mine theirs = mine is
        at false is mine theirs = theirs is
