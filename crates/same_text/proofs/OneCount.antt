-- The number of pairs to which runs side by side come is one.
use Rattle.std.proofs.Common.{◌≡◌, ◌∙◌, ℕ, ◌≤◌, Option, sym, arith}
use Rattle.controller_core.specs.declared.fixed.Fixed.{Fixed}
use Rattle.field_pair.proofs.SideRuns.{alike-then}
use Rattle.field_pair.specs.SideRuns.{pair_after, AreAlikePairs, StatePair}
use Rattle.field_pair.specs.Same.{IsSameFor}
use Rattle.field_pair.proofs.AsMany.{Each, no-longer}
use Rattle.field_pair.proofs.PairKeys.{alike-back}

pairs-back : (s t : StatePair) → AreAlikePairs s t → AreAlikePairs t s
pairs-back s t alike = record {
  old = alike-back s.old t.old alike.old;
  new = alike-back s.new t.new alike.new;
}

pairs-on : (s t u : StatePair) → AreAlikePairs s t → AreAlikePairs t u → AreAlikePairs s u
pairs-on s t u one other = record {
  old = alike-then s.old t.old u.old one.old other.old;
  new = alike-then s.new t.new u.new one.new other.new;
}

module _ (old new : Fixed) (limit : Option ℕ) where
  -- each pair of one list is alike one of the other
  each-of : (k n : ℕ) (one : IsSameFor old new limit k) (other : IsSameFor old new limit n)
      → Each AreAlikePairs pairs-back pairs-on one.pairs other.pairs
  each-of k n one other i s is =
      let run = one.reached i s is in
      let there = other.all run.one run.other run.scans run.beside run.within in
      let state = pair_after old new run.one run.other run.scans in
      record {
        place = there.place;
        one = there.pair;
        is_there = there.is_there;
        like = pairs-on s state there.pair (pairs-back state s run.alike) there.alike;
      }

  no-more : (k n : ℕ) → IsSameFor old new limit k → IsSameFor old new limit n → k ≤ n
  no-more k n one other =
      let few = no-longer AreAlikePairs pairs-back pairs-on one.pairs other.pairs one.apart
      (each-of k n one other) in
      omega (arith, few, one.as_many, other.as_many)

  pub count-one : (k n : ℕ) → IsSameFor old new limit k → IsSameFor old new limit n → k ≡ n
  count-one k n one other =
      let up = no-more k n one other in
      let down = no-more n k other one in
      omega (arith, up, down)
