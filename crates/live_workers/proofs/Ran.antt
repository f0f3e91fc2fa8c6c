-- Runs of stations, put together.
use Rattle.std.proofs.Common.{◌≡◌, ℕ, zero, suc, List, [], ◌∷◌, ◌++◌, length, map, set, drop, take}
use Rattle.std.proofs.Common.{slice_index_or, refl, sym, ap, subst, ◌∙◌, arith}
use Rattle.std.proofs.lemmas.List.{append-nil, drop_all, length-map, map-append, take_all}
use Rattle.std.specs.List.{All, AllZip}
use Rattle.live_workers.specs.declared.stations.Station.{Station}
use Rattle.live_workers.specs.Stations.{RanEach}

pub zip-long : {A B : Type 0} (R : A → B → Type 0) (xs : List A) (ys : List B) → AllZip R xs ys
    → length xs ≡ length ys
zip-long R [] [] all = refl
zip-long R [] (y ∷ ys) all = absurd all
zip-long R (x ∷ xs) [] all = absurd all
zip-long R (x ∷ xs) (y ∷ ys) all = ap suc (zip-long R xs ys all.1)

pub zip-only : {A B : Type 0} (R : A → B → Type 0) (xs : List A) (ys : List B) (d : A) (e : B)
    → AllZip R xs ys → length ys ≡ 1
    → R (slice_index_or xs 0 d) (slice_index_or ys 0 e)
zip-only R [] [] d e all one = absurd (omega (arith, one))
zip-only R [] (y ∷ ys) d e all one = absurd all
zip-only R (x ∷ xs) [] d e all one = absurd all
zip-only R (x ∷ xs) (y ∷ ys) d e all one = all.0

pub zip-both : {A B : Type 0} (R : A → B → Type 0) (xs us : List A) (ys vs : List B)
    → AllZip R xs ys → AllZip R us vs → AllZip R (xs ++ us) (ys ++ vs)
zip-both R [] us [] vs all more = more
zip-both R [] us (y ∷ ys) vs all more = absurd all
zip-both R (x ∷ xs) us [] vs all more = absurd all
zip-both R (x ∷ xs) us (y ∷ ys) vs all more = (all.0, zip-both R xs us ys vs all.1 more)

pub zip-parts : {A B : Type 0} (R : A → B → Type 0) (xs us : List A) (ys vs : List B)
    → length xs ≡ length ys → AllZip R (xs ++ us) (ys ++ vs)
    → AllZip R xs ys × AllZip R us vs
zip-parts R [] us [] vs long all = (tt, all)
zip-parts R [] us (y ∷ ys) vs long all = absurd (omega (arith, long))
zip-parts R (x ∷ xs) us [] vs long all = absurd (omega (arith, long))
zip-parts R (x ∷ xs) us (y ∷ ys) vs long all =
    let rest = zip-parts R xs us ys vs (omega (arith, long)) all.1 in
    ((all.0, rest.0), rest.1)

-- both halves of two lists beside each other
pub halves : {A B : Type 0} (R : A → B → Type 0) (xs first second : List A) (ys front back : List B)
    → xs ≡ first ++ second → ys ≡ front ++ back
    → length first ≡ length front → AllZip R xs ys → AllZip R first front × AllZip R second back
halves R xs first second ys front back one two long all =
    zip-parts R first second front back long
    (subst (λ l. AllZip R l (front ++ back)) one (subst (AllZip R xs) two all))

pub all-cons : {A : Type 0} (P : A → Type 0) (x : A) (xs : List A) → P x → All P xs → All P (x ∷ xs)
all-cons P x xs one rest zero d low = one
all-cons P x xs one rest (suc k) d low = rest k d (omega (arith, low))

pub all-left : {A : Type 0} (P : A → Type 0) (xs ys : List A) → All P (xs ++ ys) → All P xs
all-left P [] ys all = λ k d low. absurd (omega (arith, low))
all-left P (x ∷ xs) ys all =
    all-cons P x xs (all 0 x (omega arith))
    (all-left P xs ys (λ k d low. all (suc k) d (omega (arith, low))))

pub all-right : {A : Type 0} (P : A → Type 0) (xs ys : List A) → All P (xs ++ ys) → All P ys
all-right P [] ys all = all
all-right P (x ∷ xs) ys all = all-right P xs ys (λ k d low. all (suc k) d (omega (arith, low)))

pub all-halves : {A : Type 0} (P : A → Type 0) (xs first second : List A) → xs ≡ first ++ second
    → All P xs → All P first × All P second
all-halves P xs first second is all =
    let whole = subst (All P) is all in
    (all-left P first second whole, all-right P first second whole)

module _ {S K L P : Type 0} (side : S → K) (F Ran : P → Station S L → Type 0) where
  pub ran-none : (plans : List P) (l : List (Station S L)) → AllZip F plans l → length l ≡ 0
      → RanEach side Ran plans l l
  ran-none [] [] all none = record { ran = tt; sides = refl }
  ran-none [] (s ∷ l) all none = absurd all
  ran-none (p ∷ plans) [] all none = absurd all
  ran-none (p ∷ plans) (s ∷ l) all none = absurd (omega (arith, none))

  pub ran-one : (plans : List P) (l : List (Station S L)) (d : P) (e s : Station S L)
      → AllZip F plans l → length l ≡ 1
      → Ran (slice_index_or plans 0 d) s → side s.ring ≡ side (slice_index_or l 0 e).ring
      → RanEach side Ran plans l (set l 0 s)
  ran-one [] [] d e s all one ran same = absurd (omega (arith, one))
  ran-one [] (v ∷ l) d e s all one ran same = absurd all
  ran-one (p ∷ plans) [] d e s all one ran same = absurd all
  ran-one (p ∷ []) (v ∷ []) d e s all one ran same =
      record { ran = (ran, tt); sides = ap (λ x. x ∷ []) same }
  ran-one (p ∷ q ∷ plans) (v ∷ []) d e s all one ran same = absurd all.1
  ran-one (p ∷ plans) (v ∷ u ∷ l) d e s all one ran same = absurd (omega (arith, one))

  pub ran-halves : (plans first second : List P) (l a b a' b' : List (Station S L))
      → plans ≡ first ++ second → l ≡ a ++ b
      → RanEach side Ran first a a' → RanEach side Ran second b b'
      → RanEach side Ran plans l (a' ++ b')
  ran-halves plans first second l a b a' b' plans-are l-is p q = record {
    ran = subst (λ x. AllZip Ran x (a' ++ b')) (sym plans-are)
        (zip-both Ran first second a' b' p.ran q.ran);
    sides = map-append (λ (s : Station S L). side s.ring) a' b' ∙ ((λ i. p.sides i ++ q.sides i)
        ∙ (sym (map-append (λ (s : Station S L). side s.ring) a b)
        ∙ ap (map (λ (s : Station S L). side s.ring)) (sym l-is)));
  }

-- as many stations as before
pub ran-long : {S K L P : Type 0} (side : S → K) (Ran : P → Station S L → Type 0)
    (plans : List P) (old new : List (Station S L))
    → RanEach side Ran plans old new → length new ≡ length old
ran-long {S} {K} {L} side Ran plans old new r =
    sym (length-map new (λ (s : Station S L). side s.ring))
    ∙ (ap length r.sides ∙ length-map old (λ (s : Station S L). side s.ring))

-- a list that was changed in place as a whole
pub kept-whole : {A : Type 0} (items slice new : List A) (n : ℕ) → slice ≡ items
    → length new ≡ length slice → length slice ≡ n
    → take n (new ++ drop (length new) items) ≡ new
kept-whole items slice new n value same long =
    let short : length items ≡ length slice = ap length (sym value) in
    ap (take n) (ap (λ l. new ++ l) (drop_all (length new) items (omega (arith, same, short)))
    ∙ append-nil new)
    ∙ take_all n new (omega (arith, same, long))
