-- Counts over lists, and over the entries of each node.
use Rattle.std.proofs.Common.{◌≡◌, ℕ, suc, ◌+◌, ◌≤◌, Bool, true, false, cond, List, [], ◌∷◌}
use Rattle.std.proofs.Common.{refl, ap, ◌∙◌, arith}
use Rattle.std.specs.Prelude.{◌==◌}
use Rattle.std.specs.List.{All, count_by, sum_by}
use Rattle.std.proofs.lemmas.Bool.{true≢false}
use Rattle.std.proofs.lemmas.List.Sums.{sum_by-append}
use Rattle.ring_core.specs.declared.entry.RingEntry.{RingEntry}
use Rattle.ring_core.specs.Words.{maker}
use Rattle.tied_lists.specs.Own.{own}

pub sum_cons : {X : Type 0} (f : X → ℕ) (x : X) (xs : List X)
    → sum_by f (x ∷ xs) ≡ f x + sum_by f xs
sum_cons f x xs =
    let first : sum_by f (x ∷ []) ≡ f x = omega arith in
    sum_by-append f (x ∷ []) xs ∙ ap (λ n. n + sum_by f xs) first

pub count_cons : {X : Type 0} (p : X → Bool) (x : X) (xs : List X)
    → count_by p (x ∷ xs) ≡ cond (p x) 1 0 + count_by p xs
count_cons p x xs = sum_cons (λ y. cond (p y) 1 0) x xs

pub skip : {X : Type 0} (p : X → Bool) (x : X) (xs : List X) → p x ≡ false
    → count_by p (x ∷ xs) ≡ count_by p xs
skip p x xs off = count_cons p x xs ∙ nothing (p x) (count_by p xs) off where
  nothing : (b : Bool) (k : ℕ) → b ≡ false → cond b 1 0 + k ≡ k
  nothing true k e = absurd (true≢false e)
  nothing false k e = omega arith

module _ (p : RingEntry → Bool) where
  -- the count of a node's own entries, with one entry more
  own_more : (n : ℕ) (e : RingEntry) (es : List RingEntry) (b : Bool)
      → count_by p (cond b (e ∷ own n es) (own n es))
      ≡ count_by p (own n es) + cond b (cond (p e) 1 0) 0
  own_more n e es true = let step = count_cons p e (own n es) in omega arith
  own_more n e es false = omega arith

  share : (b here : Bool) (rest : ℕ)
      → cond b (cond here 1 0 + rest) 0 ≡ cond b rest 0 + cond here (cond b 1 0) 0
  share true true rest = omega arith
  share true false rest = omega arith
  share false true rest = refl
  share false false rest = refl

  -- the sum of the counts of some nodes, with one entry more
  sum_more : (e : RingEntry) (es : List RingEntry) (ns : List ℕ)
      → sum_by (λ n. count_by p (own n (e ∷ es))) ns
      ≡ sum_by (λ n. count_by p (own n es)) ns + cond (p e) (count_by (λ n. maker e == n) ns) 0
  sum_more e es [] = share_none (p e) 0 where
    share_none : (b : Bool) (s : ℕ) → s ≡ s + cond {A = ℕ} b 0 0
    share_none true s = omega arith
    share_none false s = omega arith
  sum_more e es (n ∷ ns) =
      let here = own_more n e es (maker e == n) in
      let rest = sum_more e es ns in
      let parts = share (p e) (maker e == n) (count_by (λ k. maker e == k) ns) in
      let turn = turned (p e) (maker e == n) in
      let step_all = sum_cons (λ k. count_by p (own k (e ∷ es))) n ns in
      let step_rest = sum_cons (λ k. count_by p (own k es)) n ns in
      let step_one = ap (λ c. cond (p e) c 0) (count_cons (λ k. maker e == k) n ns) in
      omega arith where
        turned : (b here : Bool) → cond {A = ℕ} here (cond {A = ℕ} b 1 0) 0
            ≡ cond {A = ℕ} b (cond {A = ℕ} here 1 0) 0
        turned true true = refl
        turned true false = refl
        turned false true = refl
        turned false false = refl

  -- nodes that differ count no entry twice
  pub at_most_all : (ns : List ℕ) → ((m : ℕ) → count_by (λ n. m == n) ns ≤ 1)
      → (es : List RingEntry)
      → sum_by (λ n. count_by p (own n es)) ns ≤ count_by p es
  at_most_all ns once [] = zero_sum ns where
    zero_sum : (ks : List ℕ) → sum_by (λ n. count_by p (own n [])) ks ≤ 0
    zero_sum [] = omega arith
    zero_sum (k ∷ ks) =
        let rest = zero_sum ks in let step = sum_cons (λ n. count_by p (own n [])) k ks in
        omega arith
  at_most_all ns once (e ∷ es) =
      let more = sum_more e es ns in
      let rest = at_most_all ns once es in
      let step = count_cons p e es in
      let here = bounded (p e) (count_by (λ n. maker e == n) ns) (once (maker e)) in
      omega arith where
        bounded : (b : Bool) (k : ℕ) → k ≤ 1 → cond b k 0 ≤ cond b 1 0
        bounded true k h = h
        bounded false k h = omega arith

  -- nodes of which each entry has one count each entry
  pub all_at_most : (ns : List ℕ) (es : List RingEntry)
      → All (λ e. 1 ≤ count_by (λ n. maker e == n) ns) es
      → count_by p es ≤ sum_by (λ n. count_by p (own n es)) ns
  all_at_most ns [] there = omega arith
  all_at_most ns (e ∷ es) there =
      let more = sum_more e es ns in
      let rest = all_at_most ns es (λ k d within. there (suc k) d (omega arith)) in
      let step = count_cons p e es in
      let here = covered (p e) (count_by (λ n. maker e == n) ns) (there 0 e (omega arith)) in
      omega arith where
        covered : (b : Bool) (k : ℕ) → 1 ≤ k → cond b 1 0 ≤ cond b k 0
        covered true k h = h
        covered false k h = omega arith
