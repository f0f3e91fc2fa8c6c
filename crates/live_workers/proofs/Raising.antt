-- Each step on the word of a flag keeps it from falling.
use Rattle.std.proofs.Common.{◌≡◌, ℕ, [], set, slice_index, refl, ap, ⊎_elim, arith}
use mathlib.Core.Option.{none}
use Rattle.atomic_table.specs.Table.{State, Me, keeps, step, Allows, Enters}
use Rattle.atomic_table.proofs.Lists.{at_set, at_snoc}
use Rattle.live_workers.specs.Flags.{NeverLowered, WatchLooked, Raised}

module _ (s : State ℕ ℕ) (r : NeverLowered s) where
  -- what is read is the word
  found : slice_index s.words 0 ≡ r.word
  found = ap (λ ws. slice_index ws 0) r.words_are

-- a look leaves the word and sees it
pub looks : (slots id : ℕ) (m : Me ℕ ℕ)
    → Allows NeverLowered slots id m 0 (λ n. n) (WatchLooked (step slots 0 0 0 none) m)
looks slots id m s r homes at small =
    let n : ℕ = slice_index s.words 0 in
    let is : n ≡ r.word = found s r in (
      n,
      keeps,
      tt,
      record {
        word = n;
        words_are = ap (λ ws. set ws 0 n) r.words_are;
        low = omega (arith, r.low, is);
        seen = λ j v there. ⊎_elim
            (λ here. omega (arith, here.1))
            (λ other. omega (arith, r.seen j v other.1, is))
            (at_set s.views id j n v there);
      },
      (omega (arith, r.seen id m.0 at, is), refl),
    )

-- a new watch sees the word
pub enters : (slots : ℕ)
    → Enters NeverLowered slots 0 (λ n w. WatchLooked (step slots 0 0 0 none) (0, []) n (w, []))
enters slots s r homes small =
    let n : ℕ = slice_index s.words 0 in
    let is : n ≡ r.word = found s r in (
      n,
      record {
        word = r.word;
        words_are = r.words_are;
        low = r.low;
        seen = λ j v there. ⊎_elim
            (λ old. r.seen j v old)
            (λ here. omega (arith, here, is))
            (at_snoc s.views n v j there);
      },
      (omega arith, refl),
    )

-- a flag that is raised is not below what anybody saw
pub raises : (slots id : ℕ) (m : Me ℕ ℕ)
    → Allows NeverLowered slots id m 0 (λ _. 1) (λ _. Raised (step slots 0 1 0 none) m 1)
raises slots id m s r homes at small = (
  1,
  keeps,
  tt,
  record {
    word = 1;
    words_are = ap (λ ws. set ws 0 1) r.words_are;
    low = omega arith;
    seen = λ j v there. ⊎_elim
        (λ here. omega (arith, here.1))
        (λ other. omega (arith, r.seen j v other.1, r.low))
        (at_set s.views id j 1 v there);
  },
  refl,
)
