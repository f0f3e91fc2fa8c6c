-- The least number of a drop in which two controllers differ.
use Rattle.std.proofs.Common.{◌≡◌, ℕ, suc, ◌+◌, ◌<◌, ◌≤◌, Bool, true, false, ◌==◌, List, []}
use Rattle.std.proofs.Common.{◌∷◌}
use Rattle.std.proofs.Common.{Option, Some, None, refl, sym, ap, ◌∙◌, subst, arith, take}
use Rattle.std.proofs.Common.{inl, inr, min, ◌⊎◌}
use Rattle.std.specs.Prelude.{if◌then◌else◌, slice_get}
use Rattle.std.proofs.lemmas.Bool.{cases_lt, eqb-true}
use Rattle.plant_types.specs.declared.drops.IoDrop.{IoDrop}
use Rattle.traffic_cop.specs.Drops.{drop_named}
use Rattle.state_space.specs.Reaching.{IsBelow}
use Rattle.side_runs.specs.Beside.{AreAlikeDrops}
use Rattle.field_pair.proofs.Sets.{taken-get}
use Rattle.field_pair.specs.Least.{AreAlikeAt, DifferAt, IsFirstUnlike, IsLeastUnlike, lesser}

-- a drop that is named stands in the list
record StandsIn (drops : List IoDrop) (number : ℕ) (drop : IoDrop) : Type 0 where
  place : ℕ
  is_there : slice_get drops place ≡ Some drop
  named : drop.number ≡ number

stands-by : (x : IoDrop) (drops : List IoDrop) (number : ℕ) (drop : IoDrop) (b : Bool)
    → (x.number == number) ≡ b
    → (if b then Some x else drop_named drops number) ≡ Some drop
    → (drop_named drops number ≡ Some drop → StandsIn drops number drop)
    → StandsIn (x ∷ drops) number drop
stands-by x drops number drop true is found more =
    let same : Some x ≡ Some drop = found in
    let e : x ≡ drop = cc in
    record {
      place = 0;
      is_there = same;
      named = ap (λ (d : IoDrop). d.number) (sym e) ∙ eqb-true x.number number is;
    }
stands-by x drops number drop false is found more =
    let rest = more found in
    record { place = suc rest.place; is_there = rest.is_there; named = rest.named }

stands-in : (drops : List IoDrop) (number : ℕ) (drop : IoDrop)
    → drop_named drops number ≡ Some drop → StandsIn drops number drop
unfolding drop_named
stands-in [] number drop found = absurd (let no' : None ≡ Some drop = found in cc)
stands-in (x ∷ drops) number drop found =
    stands-by x drops number drop (x.number == number) refl found (stands-in drops number drop)

-- ---- one list after another

below-lesser : (one other : Option ℕ) (n : ℕ) → IsBelow (lesser one other) n
    → IsBelow one n × IsBelow other n
below-lesser None other n below = (tt, below)
below-lesser (Some one) None n below = (below, tt)
below-lesser (Some one) (Some other) n below = (omega (arith, below), omega (arith, below))

differ-lesser : (old new : List IoDrop) (one other : Option ℕ) → DifferAt old new one
    → DifferAt old new other → DifferAt old new (lesser one other)
differ-lesser old new None other first second = second
differ-lesser old new (Some one) None first second = first
differ-lesser old new (Some one) (Some other) first second = by (cases_lt one other)
  where
    by : (one < other) ⊎ (other ≤ one) → DifferAt old new (Some (min one other))
    by (inl less) =
        let is : min one other ≡ one = omega (arith, less) in
        λ alike. first (subst (AreAlikeAt old new) is alike)
    by (inr most) =
        let is : min one other ≡ other = omega (arith, most) in
        λ alike. second (subst (AreAlikeAt old new) is alike)

module _ (old new : List IoDrop) (one other : Option ℕ) (in-old : IsLeastUnlike old new old one)
    (in-new : IsLeastUnlike old new new other) where
  alike-by : (number : ℕ) → IsBelow one number → IsBelow other number → (a b : Option IoDrop)
      → drop_named old number ≡ a → drop_named new number ≡ b → AreAlikeDrops a b
  alike-by number less less' None None at at' = tt
  alike-by number less less' (Some a) b at at' =
      let here = stands-in old number a at in
      let alike = in-old.below here.place a here.is_there
      (subst (IsBelow one) (sym here.named) less) in
      subst (λ (x : Option IoDrop). AreAlikeDrops x b) at
      (subst (λ (y : Option IoDrop). AreAlikeDrops (drop_named old number) y) at'
      (subst (AreAlikeAt old new) here.named alike))
  alike-by number less less' None (Some b) at at' =
      let here = stands-in new number b at' in
      let alike = in-new.below here.place b here.is_there
      (subst (IsBelow other) (sym here.named) less') in
      subst (λ (x : Option IoDrop). AreAlikeDrops x (Some b)) at
      (subst (λ (y : Option IoDrop). AreAlikeDrops (drop_named old number) y) at'
      (subst (AreAlikeAt old new) here.named alike))

  pub first-unlike : IsFirstUnlike old new (lesser one other)
  first-unlike = record {
    differ = differ-lesser old new one other in-old.differ in-new.differ;
    below = λ number below.
        let both = below-lesser one other number below in
        alike-by number both.0 both.1 (drop_named old number) (drop_named new number) refl refl;
  }

-- ---- drop by drop

pub none-looked : (old new : List IoDrop) → IsLeastUnlike old new [] None
none-looked old new = record {
  differ = tt;
  below = λ i drop at below. absurd (let no' : None ≡ Some drop = at in cc);
}

less-below : (least : Option ℕ) (n m : ℕ) → IsBelow least n → m < n → IsBelow least m
less-below None n m below less = tt
less-below (Some least) n m below less = omega (arith, below, less)

-- the drop is not less, or it is alike
pub looked-on : (old new looked : List IoDrop) (i : ℕ) (least : Option ℕ) (drop : IoDrop)
    → slice_get looked i ≡ Some drop → IsLeastUnlike old new (take i looked) least
    → (IsBelow least drop.number → AreAlikeAt old new drop.number)
    → IsLeastUnlike old new (take (i + 1) looked) least
looked-on old new looked i least drop at before alike = record {
  differ = before.differ;
  below = λ j d is below. by j d below (taken-get looked i j d is);
}
  where
    by : (j : ℕ) (d : IoDrop) → IsBelow least d.number
        → (slice_get (take i looked) j ≡ Some d) ⊎ (slice_get looked i ≡ Some d)
        → AreAlikeAt old new d.number
    by j d below (inl is) = before.below j d is below
    by j d below (inr is) =
        let same : Some drop ≡ Some d = sym at ∙ is in
        let e : drop ≡ d = cc in
        subst (λ (x : IoDrop). IsBelow least x.number → AreAlikeAt old new x.number) e alike below

-- a lesser one is found
pub looked-less : (old new looked : List IoDrop) (i : ℕ) (least : Option ℕ) (drop : IoDrop)
    → slice_get looked i ≡ Some drop → IsLeastUnlike old new (take i looked) least
    → IsBelow least drop.number → (AreAlikeAt old new drop.number → ⊥)
    → IsLeastUnlike old new (take (i + 1) looked) (Some drop.number)
looked-less old new looked i least drop at before less unlike = record {
  differ = unlike;
  below = λ j d is below. by j d below (taken-get looked i j d is);
}
  where
    by : (j : ℕ) (d : IoDrop) → d.number < drop.number
        → (slice_get (take i looked) j ≡ Some d) ⊎ (slice_get looked i ≡ Some d)
        → AreAlikeAt old new d.number
    by j d below (inl is) =
        before.below j d is (less-below least drop.number d.number less below)
    by j d below (inr is) =
        let same : Some drop ≡ Some d = sym at ∙ is in
        let e : drop ≡ d = cc in
        let number = ap (λ (x : IoDrop). x.number) e in
        absurd (omega (arith, below, number))
