-- The items of a list change one after another.
use Rattle.std.proofs.Common.{◌≡◌, ◌<◌, ℕ, zero, suc, List, [], ◌∷◌, length, drop, get_or, set}
use Rattle.std.proofs.Common.{take, refl, sym, ap, subst, ◌∙◌, arith}
use Rattle.std.specs.List.{All, AllZip}
use Rattle.std.proofs.Math.Seq.{take-length}

module _ {A : Type 0} (R : A → A → Type 0) where
  -- the items before a place have changed, and the others are as they were
  pub record ChangedSoFar (first now : List A) (at : ℕ) : Type 0 where
    pub front : AllZip R (take at first) (take at now)
    pub rest : drop at now ≡ drop at first
    pub long : length now ≡ length first

  pub none-changed : (first : List A) → ChangedSoFar first first 0
  none-changed first = record { front = tt; rest = refl; long = refl }

  same-item : (first now : List A) (at : ℕ) (d : A) → at < length first
      → length now ≡ length first → drop at now ≡ drop at first
      → get_or now at d ≡ get_or first at d
  same-item [] now at d within long rest = absurd (omega (arith, within))
  same-item (x ∷ first) [] at d within long rest = absurd (omega (arith, long))
  same-item (x ∷ first) (y ∷ now) zero d within long rest = let same : y ≡ x = cc in same
  same-item (x ∷ first) (y ∷ now) (suc at) d within long rest =
      same-item first now at d (omega (arith, within)) (omega (arith, long)) rest

  pub item-as : (P : A → Type 0) (first now : List A) (at : ℕ) (d : A) → at < length first
      → All P first → ChangedSoFar first now at → P (get_or now at d)
  item-as P first now at d within all so_far =
      subst P (sym (same-item first now at d within so_far.long so_far.rest)) (all at d within)

  one-step : (first now : List A) (at : ℕ) (d new : A) → at < length first
      → AllZip R (take at first) (take at now) → drop at now ≡ drop at first
      → length now ≡ length first → R (get_or now at d) new
      → ChangedSoFar first (set now at new) (suc at)
  one-step [] now at d new within front rest long here = absurd (omega (arith, within))
  one-step (x ∷ first) [] at d new within front rest long here = absurd (omega (arith, long))
  one-step (x ∷ first) (y ∷ now) zero d new within front rest long here =
      let same : y ≡ x = cc in
      let later : now ≡ first = cc in
      record { front = (subst (λ z. R z new) same here, tt); rest = later; long = long }
  one-step (x ∷ first) (y ∷ now) (suc at) d new within front rest long here =
      let it = one-step first now at d new (omega (arith, within)) front.1 rest
      (omega (arith, long)) here in
      record { front = (front.0, it.front); rest = it.rest; long = ap suc it.long }

  pub one-changed : (first now : List A) (at next : ℕ) (d new : A) → at < length first
      → next ≡ suc at → ChangedSoFar first now at → R (get_or now at d) new
      → ChangedSoFar first (set now at new) next
  one-changed first now at next d new within is so_far here =
      subst (ChangedSoFar first (set now at new)) (sym is)
      (one-step first now at d new within so_far.front so_far.rest so_far.long here)

  pub all-changed : (first now : List A) (at : ℕ) → at ≡ length first
      → ChangedSoFar first now at → AllZip R first now
  all-changed first now at is so_far =
      let one : take at first ≡ first = ap (λ n. take n first) is ∙ take-length first in
      let two : take at now ≡ now =
      ap (λ n. take n now) (is ∙ sym so_far.long) ∙ take-length now in
      subst (λ l. AllZip R l now) one (subst (λ l. AllZip R (take at first) l) two so_far.front)
