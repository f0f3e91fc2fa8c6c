-- Stations in their order.
use Rattle.std.proofs.Common.{◌≡◌, ◌≢◌, ℕ, zero, suc, ◌<◌, ◌≤◌, List, [], ◌∷◌, length, get_or, map}
use Rattle.std.proofs.Common.{refl, sym, ap, subst, ◌∙◌, ⊎_elim, arith}
use Rattle.std.specs.List.{All, AllZip, Any, zip}
use Rattle.std.specs.List.Sorted.{IsStrictlyIncreasing}
use Rattle.std.proofs.Math.ListN.{get_or-map}
use Rattle.std.proofs.lemmas.Bool.{cases_eq, cases_lt}
use Rattle.std.proofs.lemmas.List.{get_or_default, length-map}
use Rattle.std.proofs.lemmas.List.Kept.{AllPairs-from_increasing}
use Rattle.std.proofs.lemmas.Slice.Zip.{get_or-zip, length-zip}

-- addresses of lists and of plans, in one order
pub same-size : {P L : Type 0} (of-plan : P → ℕ) (node : L → ℕ) (plans : List P) (logs : List L)
    → map node logs ≡ map of-plan plans → length logs ≡ length plans
same-size of-plan node plans logs e =
    sym (length-map logs node) ∙ (ap length e ∙ length-map plans of-plan)

pub same-node : {P L : Type 0} (of-plan : P → ℕ) (node : L → ℕ) (plans : List P) (logs : List L)
    → map node logs ≡ map of-plan plans
    → (k : ℕ) (p : P) (g : L) → k < length plans
    → node (get_or logs k g) ≡ of-plan (get_or plans k p)
same-node of-plan node plans logs e k p g low =
    let size = same-size of-plan node plans logs e in
    sym (get_or-map node logs k g)
    ∙ (ap (λ l. get_or l k (node g)) e
    ∙ (get_or_default (map of-plan plans) k (node g) (of-plan p)
    (let n = length-map plans of-plan in omega (arith, n)) ∙ get_or-map of-plan plans k p))

rises : {P L : Type 0} (of-plan : P → ℕ) (node : L → ℕ) (plans : List P) (logs : List L)
    → map node logs ≡ map of-plan plans → IsStrictlyIncreasing (map of-plan plans)
    → (j k : ℕ) (g : L) → j < k → k < length plans
    → node (get_or logs j g) < node (get_or logs k g)
rises of-plan node plans logs e rising j k g less low =
    let pairs = AllPairs-from_increasing (map of-plan plans) rising j k (node g) less
    (let n = length-map plans of-plan in omega (arith, n)) in
    let a = get_or-map node logs j g in
    let b = get_or-map node logs k g in
    let c = ap (λ l. get_or l j (node g)) e in
    let d = ap (λ l. get_or l k (node g)) e in
    omega (arith, pairs, a, b, c, d)

-- what holds of the stations up to one holds of all with a lower address
pub earlier-all : {P L : Type 0} (of-plan : P → ℕ) (node : L → ℕ) (Good : P → L → Type 0)
    (plans : List P) (logs : List L) → map node logs ≡ map of-plan plans
    → IsStrictlyIncreasing (map of-plan plans)
    → (k : ℕ) (g : L) → k < length plans → g ≡ get_or logs k g
    → ((j : ℕ) (p : P) (h : L) → j < k → Good (get_or plans j p) (get_or logs j h))
    → All (λ of. node of.1 < node g → Good of.0 of.1) (zip plans logs)
earlier-all {P} {L} of-plan node Good plans logs e rising k g low is before j d below =
    let size = same-size of-plan node plans logs e in
    let n = length-zip plans logs in
    let at : get_or (zip plans logs) j d
    ≡ (get_or plans j d.0, get_or logs j d.1) = get_or-zip plans logs j d
    (omega (arith, n, size)) (omega (arith, n, size)) in
    subst (λ (of : P × L). node of.1 < node g → Good of.0 of.1) (sym at)
    (λ less. ⊎_elim (λ (l : j < k). before j d.0 d.1 l)
    (λ (l : k ≤ j). absurd (past j d less l (omega (arith, n, size))))
    (cases_lt j k))
  where
    past : (j : ℕ) (d : P × L) → node (get_or logs j d.1) < node g → k ≤ j → j < length plans → ⊥
    past j d less l below' =
        let size = same-size of-plan node plans logs e in
        let here : node (get_or logs k d.1)
        ≡ node g = ap node (get_or_default logs k d.1 g (omega (arith, size)) ∙ sym is) in
        ⊎_elim (λ (same : k ≡ j). let s = ap (λ (n : ℕ). node (get_or logs n d.1)) same in
        omega (arith, s, here))
        (λ (apart : k ≢ j). let r = rises of-plan node plans logs e rising k j d.1 (omega arith)
        below' in omega (arith, r, here))
        (cases_eq k j)

pub here-any : {P L : Type 0} (X : P × L → Type 0) (plans : List P) (logs : List L) (k : ℕ) (p : P)
    (g : L) → length logs ≡ length plans → k < length plans
    → p ≡ get_or plans k p → g ≡ get_or logs k g → X (p, g) → Any X (zip plans logs)
here-any X plans logs k p g size low is-p is-g here =
    let n = length-zip plans logs in (
      k,
      (p, g),
      omega (arith, n, size),
      get_or-zip plans logs k (p, g) low (omega (arith, size))
          ∙ (λ i. (sym is-p i, sym is-g i)),
      here,
    )

-- what holds of each station holds of all
pub zip-all : {P L : Type 0} (R : P → L → Type 0) (plans : List P) (logs : List L)
    → length logs ≡ length plans
    → ((j : ℕ) (p : P) (g : L) → j < length plans → R (get_or plans j p) (get_or logs j g))
    → AllZip R plans logs
zip-all R [] [] size each = tt
zip-all R [] (g ∷ gs) size each = absurd (omega (arith, size))
zip-all R (p ∷ ps) [] size each = absurd (omega (arith, size))
zip-all R (p ∷ ps) (g ∷ gs) size each = (
  each 0 p g (omega arith),
  zip-all R ps gs (omega (arith, size))
      (λ j q h low. each (suc j) q h (omega arith)),
)

-- and back
pub zip-at : {P L : Type 0} (R : P → L → Type 0) (plans : List P) (logs : List L)
    → AllZip R plans logs → (j : ℕ) (p : P) (g : L) → j < length plans
    → R (get_or plans j p) (get_or logs j g)
zip-at R [] [] all j p g low = absurd (omega arith)
zip-at R [] (h ∷ hs) all j p g low = absurd (omega arith)
zip-at R (q ∷ ps) [] all j p g low = absurd all
zip-at R (q ∷ ps) (h ∷ hs) all zero p g low = all.0
zip-at R (q ∷ ps) (h ∷ hs) all (suc j) p g low = zip-at R ps hs all.1 j p g (omega arith)

pub zip-map : {P L : Type 0} (R : P → L → Type 0) (of-plan : P → ℕ) (node : L → ℕ)
    → ((p : P) (g : L) → R p g → node g ≡ of-plan p) → (plans : List P) (logs : List L)
    → AllZip R plans logs
    → map node logs ≡ map of-plan plans
zip-map R of-plan node same [] [] all = refl
zip-map R of-plan node same [] (h ∷ hs) all = absurd all
zip-map R of-plan node same (q ∷ ps) [] all = absurd all
zip-map R of-plan node same (q ∷ ps) (h ∷ hs) all =
    λ i. same q h all.0 i ∷ zip-map R of-plan node same ps hs all.1 i
