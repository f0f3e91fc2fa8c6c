-- The passes of the rings gathered from stations.
use Rattle.std.proofs.Common.{◌≡◌, ℕ, zero, suc, ◌+◌, ◌<◌, ◌≤◌, ◌++◌, ◌⊎◌, ◌==◌, ◌&&◌, Bool, true}
use Rattle.std.proofs.Common.{false, List, [], ◌∷◌, Some, Contains, slice_get, Result, Ok, Err}
use Rattle.std.proofs.Common.{OnOk, is_ok, get_or, length, map, reverse, take, drop}
use Rattle.std.proofs.Common.{refl, sym, ap, subst, ◌∙◌, arith, inl, inr, ⊎_elim, eq-eqb}
use Rattle.std.proofs.lemmas.Bool.{and_parts, both_ways, cases_lt, or_cases, or_left, or_right}
use Rattle.std.proofs.lemmas.List.{append_assoc, append-nil, drop_all, drop_more, length-reverse}
use Rattle.std.proofs.lemmas.List.{map-append, reverse-append, reverse-reverse, take_all}
use Rattle.std.proofs.lemmas.List.Elements.{Contains-append_left, Contains-append_right}
use Rattle.std.proofs.lemmas.List.Elements.{Contains-push_cases}
use Rattle.std.specs.List.{All, AllZip}
use Rattle.turn_gate.specs.Known.{IsPassReady, PassFacts, is_among, made_by, numbers, own_lists}
use Rattle.turn_gate.specs.Known.{with_pass}
use Rattle.ring_core.specs.declared.entry.RingEntry.{RingEntry}
use Rattle.ring_core.specs.Words.{maker}
use Rattle.gated_sides.specs.Sides.{GatedRingIs}
use Rattle.live_workers.specs.declared.stations.Station.{Station}
use Rattle.live_workers.proofs.Ran.{zip-both}
use Rattle.live_run.specs.Homes.{AreRingsApart, IsAtHome, IsUnseated, IsZero, KeepsZero, Purse}
use Rattle.live_run.specs.Homes.{RingGate, is_ring_of, place_of_ring}
use Rattle.live_run.specs.Dealing.{GathersAt, HasBrought, HasLog, AreGathered, IsLogged, Key, key_of}
use Rattle.live_run.proofs.Places.{find-there, got, zip-at, zip-put, zip-put-apart, zero-kept}

-- one of a list's first, or of its rest
first-cases : {A : Type 0} (x y : A) (xs : List A) → Contains (x ∷ xs) y → (x ≡ y) ⊎ Contains xs y
first-cases x y xs (zero, low, is) = inl is
first-cases x y xs (suc k, low, is) = inr (k, omega (arith, low), is)

among-append : (n : ℕ) (ms ns : List ℕ) → is_among n ms ≡ true → is_among n (ms ++ ns) ≡ true
among-append n [] ns is = absurd (let no' : false ≡ true = is in cc)
among-append n (m ∷ ms) ns is = ⊎_elim
    (λ (here : (n == m) ≡ true). or_left (n == m) (is_among n (ms ++ ns)) here)
    (λ (later : is_among n ms ≡ true).
    or_right (n == m) (is_among n (ms ++ ns)) (among-append n ms ns later))
    (or_cases (n == m) (is_among n ms) is)

among-behind : (n : ℕ) (ms ns : List ℕ) → is_among n ns ≡ true → is_among n (ms ++ ns) ≡ true
among-behind n [] ns is = is
among-behind n (m ∷ ms) ns is =
    or_right (n == m) (is_among n (ms ++ ns)) (among-behind n ms ns is)

-- the numbers of both passes
numbers-both : (p q : PassFacts RingEntry) → numbers (with_pass p q) ≡ numbers p ++ numbers q
numbers-both p q =
    ap (λ l. p.number ∷ l) (map-append (λ (x : ℕ × List RingEntry). x.0) p.joined (own_lists q))

brought-more : (p q : PassFacts RingEntry) (side : GatedRingIs) → HasBrought p side
    → HasBrought (with_pass p q) side
brought-more p q side b = record {
  own_is = Contains-append_left p.joined (own_lists q)
      (side.number, made_by maker side.number side.seen) b.own_is;
  heard_is = Contains-append_left p.heard (q.seen ∷ q.heard) side.seen b.heard_is;
}

-- what the pass of a side brings to pass 0
brought-here : (p q : PassFacts RingEntry) (side : GatedRingIs) → side.gate.name.opening ≡ []
    → IsPassReady maker side.number side.gate.name q → q.seen ≡ side.seen
    → HasBrought (with_pass p q) side
brought-here p q side unused ready seen = record {
  own_is = Contains-append_right p.joined (own_lists q)
      (side.number, made_by maker side.number side.seen)
      (0, omega arith, λ i. (ready.number_is i, mine i));
  heard_is = Contains-append_right p.heard (q.seen ∷ q.heard) side.seen (0, omega arith, seen);
}
  where
    made : ready.own_is.made ≡ side.seen
    made = sym (sym seen ∙ ready.own_is.all_is ∙ ap (λ l. l ++ ready.own_is.made)
        (ap (λ n. n.opening) ready.gate_is ∙ unused))

    mine : q.mine ≡ made_by maker side.number side.seen
    mine = ready.own_is.mine_is ∙ (λ i. made_by maker (ready.number_is i) (made i))

module _ (key : Key) (side : GatedRingIs) (out : List Key) (back : List GatedRingIs) where
  -- at another gate nothing changes
  gathers-other : key ≡ key_of side → (gate : RingGate) (purse : Purse)
      → (side.gate ≡ gate → ⊥) → GathersAt (key ∷ out) back gate purse
      → GathersAt out (back ++ side ∷ []) gate purse
  gathers-other is gate purse other d = record {
    pass = d.pass;
    kept = d.kept;
    zero = d.zero;
    owed = λ n given. ⊎_elim
        (λ (in' : is_among n (numbers d.pass) ≡ true). inl in')
        (λ (left : Contains (key ∷ out) (gate, n)). ⊎_elim
        (λ (here : key ≡ (gate, n)).
        absurd (other (ap (λ (k : Key). k.0) (sym is ∙ here))))
        (λ (later : Contains out (gate, n)). inr later)
        (first-cases key (gate, n) out left))
        (d.owed n given);
    brought = λ s in' at. ⊎_elim
        (λ (before : Contains back s). d.brought s before at)
        (λ (here : side ≡ s). absurd (other (ap (λ (x : GatedRingIs). x.gate) here ∙ at)))
        (Contains-push_cases back side s in');
  }

  -- where its pass came back
  gathers-here : key ≡ key_of side → (pass q : PassFacts RingEntry) → side.gate.name.opening ≡ []
      → IsPassReady maker side.number side.gate.name q → q.seen ≡ side.seen
      → GathersAt (key ∷ out) back side.gate (Some pass)
      → GathersAt out (back ++ side ∷ []) side.gate (Some (with_pass pass q))
  gathers-here is pass q unused ready seen d = record {
    pass = with_pass pass q;
    kept = refl;
    zero = record { gate_is = zero.gate_is; outside = zero.outside; number = zero.number };
    owed = λ n given. ⊎_elim
        (λ (in' : is_among n (numbers d.pass) ≡ true). inl (joined n
        (ap (λ (p : PassFacts RingEntry). is_among n (numbers p)) (sym same) ∙ in')))
        (λ (left : Contains (key ∷ out) (side.gate, n)). ⊎_elim
        (λ (here : key ≡ (side.gate, n)).
        inl (own n (ap (λ (k : Key). k.1) (sym is ∙ here))))
        (λ (later : Contains out (side.gate, n)). inr later)
        (first-cases key (side.gate, n) out left))
        (d.owed n (ap (λ (p : PassFacts RingEntry). is_among n p.given) same ∙ given));
    brought = λ s in' at. ⊎_elim
        (λ (before : Contains back s). brought-more pass q s
        (subst (λ p. HasBrought p s) same (d.brought s before at)))
        (λ (here : side ≡ s). subst (HasBrought (with_pass pass q)) here
        (brought-here pass q side unused ready seen))
        (Contains-push_cases back side s in');
  }
    where
      same : d.pass ≡ pass
      same = let e = sym d.kept in cc

      zero : IsZero side.gate pass
      zero = subst (IsZero side.gate) same d.zero

      joined : (n : ℕ) → is_among n (numbers pass) ≡ true
          → is_among n (numbers (with_pass pass q)) ≡ true
      joined n in' = ap (is_among n) (numbers-both pass q)
          ∙ among-append n (numbers pass) (numbers q) in'

      own : (n : ℕ) → side.number ≡ n → is_among n (numbers (with_pass pass q)) ≡ true
      own n named = ap (is_among n) (numbers-both pass q)
          ∙ among-behind n (numbers pass) (numbers q)
          (or_left (n == q.number) (is_among n (map (λ x. x.0) q.joined))
          (eq-eqb n q.number (sym (ready.number_is ∙ named))))

module _ (gates : List RingGate) (apart : AreRingsApart gates) where
  -- the pass of one side is joined
  pub gathered-one : (old new : List Purse) (network : ℕ) (side : GatedRingIs)
      → All (λ gate. gate.name.opening ≡ []) gates → IsAtHome gates network side
      → IsUnseated gates old new network side → AreGathered gates old new (side ∷ [])
  gathered-one old new network side unused at u out back all =
      subst (AllZip (GathersAt out (back ++ side ∷ [])) gates) (sym u.now)
      (zip-put-apart (is_ring_of network) (GathersAt (key_of side ∷ out) back)
      (GathersAt out (back ++ side ∷ [])) gates old side.gate (Some (with_pass u.pass u.joins))
      (λ gate purse off. gathers-other (key_of side) side out back refl gate purse
      (λ same. both_ways (is_ring_of network gate) off
      (ap (is_ring_of network) (sym same) ∙ there.1)))
      (apart network) all at.home
      (gathers-here (key_of side) side out back refl u.pass u.joins opening u.ready u.seen
      (zip-at (is_ring_of network) (GathersAt (key_of side ∷ out) back) gates old side.gate
      (Some u.pass) all at.home u.was)))
    where
      there : (slice_get gates (place_of_ring gates network) ≡ Some side.gate)
          × (is_ring_of network side.gate ≡ true)
      there = find-there (is_ring_of network) gates side.gate at.home

      opening : side.gate.name.opening ≡ []
      opening =
          let g = got gates (place_of_ring gates network) side.gate side.gate there.0 in
          ap (λ (gate : RingGate). gate.name.opening) (sym g.0)
          ∙ unused (place_of_ring gates network) side.gate g.1

-- pass 0 of each gate is still kept
pub still-kept : (gates : List RingGate) (old new : List Purse) (network : ℕ) (side : GatedRingIs)
    → AllZip KeepsZero gates old → IsAtHome gates network side
    → IsUnseated gates old new network side → AllZip KeepsZero gates new
still-kept gates old new network side all at u =
    subst (AllZip KeepsZero gates) (sym u.now)
    (zip-put (is_ring_of network) KeepsZero KeepsZero gates old side.gate
    (Some (with_pass u.pass u.joins)) (λ gate purse k. k) all at.home
    (record {
      pass = with_pass u.pass u.joins;
      kept = refl;
      zero = record { gate_is = zero.gate_is; outside = zero.outside; number = zero.number };
    }))
  where
    zero : IsZero side.gate u.pass
    zero = zero-kept side.gate u.pass (zip-at (is_ring_of network) KeepsZero gates old side.gate
        (Some u.pass) all at.home u.was)

pub gathered-none : (gates : List RingGate) (purses : List Purse)
    → AreGathered gates purses purses []
gathered-none gates purses out back all =
    subst (λ b. AllZip (GathersAt out b) gates purses) (sym (append-nil back)) all

-- the passes of some sides are joined, and then those of others
pub gathered-both : (gates : List RingGate) (a b c : List Purse) (ss ts : List GatedRingIs)
    → AreGathered gates a b ss → AreGathered gates b c ts → AreGathered gates a c (ss ++ ts)
gathered-both gates a b c ss ts one two out back all =
    subst (λ l. AllZip (GathersAt out l) gates c) (append_assoc back ss ts)
    (two out (back ++ ss) (one (map key_of ts ++ out) back
    (subst (λ l. AllZip (GathersAt l back) gates a)
    (ap (λ l. l ++ out) (map-append key_of ss ts)
    ∙ append_assoc (map key_of ss) (map key_of ts) out) all)))

-- Some of the stations were taken in, and the rest are left in a stack. `sides_of` are the sides of
-- stations.
pub record Gathering {P S L : Type 0} (gates : List RingGate)
    (sides_of : List (Station S L) → List GatedRingIs) (IsAt : P → Station S L → Type 0)
    (plans : List P) (all : List (Station S L)) (old new : List Purse) (left : List (Station S L))
    (logs : List L) (done : Bool) (place : ℕ) : Type 0 where
  pub taken : List (Station S L)
  pub all_is : all ≡ taken ++ reverse left
  pub at : AllZip IsAt (drop place plans) (reverse left)
  pub keeps : AllZip KeepsZero gates new
  pub back : AreGathered gates old new (sides_of taken)
  pub logged : done ≡ true → AllZip HasLog taken logs

module _ {P S L : Type 0} (gates : List RingGate)
    (sides_of : List (Station S L) → List GatedRingIs) (IsAt : P → Station S L → Type 0)
    (plans : List P) (all : List (Station S L)) where
  pub gathering-init : (old : List Purse) (left : List (Station S L)) (logs : List L)
      → sides_of [] ≡ [] → left ≡ reverse all → logs ≡ [] → AllZip KeepsZero gates old
      → AllZip IsAt plans all → Gathering gates sides_of IsAt plans all old old left logs true 0
  gathering-init old left logs no_sides is none keeps at = record {
    taken = [];
    all_is = sym back;
    at = subst (AllZip IsAt plans) (sym back) at;
    keeps = keeps;
    back = subst (AreGathered gates old old) (sym no_sides) (gathered-none gates old);
    logged = λ yes'. subst (AllZip (HasLog {S = S} {L = L}) []) (sym none) tt;
  }
    where
      back : reverse left ≡ all
      back = ap reverse is ∙ reverse-reverse all

  -- the plan of the station that comes next, with which it is at home
  pub next-at : (left rest : List (Station S L)) (w : Station S L) (place : ℕ) (d : P)
      → left ≡ rest ++ w ∷ [] → AllZip IsAt (drop place plans) (reverse left)
      → (place < length plans) × IsAt (get_or plans place d) w
      × AllZip IsAt (drop (place + 1) plans) (reverse rest)
  next-at left rest w place d is at = ⊎_elim
      (λ (low : place < length plans).
      let both = subst (λ l. AllZip IsAt l (w ∷ reverse rest)) (drop_more plans place d low) here in
      (low, both.0, both.1))
      (λ (past : length plans ≤ place).
      absurd (subst (λ l. AllZip IsAt l (w ∷ reverse rest)) (drop_all place plans past) here))
      (cases_lt place (length plans))
    where
      here : AllZip IsAt (drop place plans) (w ∷ reverse rest)
      here = subst (AllZip IsAt (drop place plans)) (ap reverse is ∙ reverse-append rest (w ∷ []))
          at

  pub gathering-next : (old mid new : List Purse) (left rest : List (Station S L))
      (w : Station S L) (logs more : List L) (done kept : Bool) (place : ℕ)
      (sides : List GatedRingIs) (d : P)
      → left ≡ rest ++ w ∷ [] → ((ws : List (Station S L))
      → sides_of (ws ++ w ∷ []) ≡ sides_of ws ++ sides)
      → (kept ≡ true → IsLogged w.log logs more)
      → AllZip KeepsZero gates new → AreGathered gates mid new sides
      → Gathering gates sides_of IsAt plans all old mid left logs done place
      → Gathering gates sides_of IsAt plans all old new rest more (done && kept) (place + 1)
  gathering-next old mid new left rest w logs more done kept place sides d is step keeps zeros
      joined g = record {
        taken = g.taken ++ w ∷ [];
        all_is = g.all_is ∙ (ap (λ l. g.taken ++ l) (ap reverse is ∙ reverse-append rest (w ∷ []))
            ∙ sym (append_assoc g.taken (w ∷ []) (reverse rest)));
        at = (next-at left rest w place d is g.at).2;
        keeps = zeros;
        back = subst (AreGathered gates old new) (sym (step g.taken))
            (gathered-both gates old mid new (sides_of g.taken) sides g.back joined);
        logged = λ yes'.
            let both = and_parts done kept yes' in
            let k = keeps both.1 in
            subst (AllZip HasLog (g.taken ++ w ∷ [])) (sym k.grown)
            (zip-both HasLog g.taken (w ∷ []) logs (k.item ∷ []) (g.logged both.0) (k.log_is, tt));
      }

  pub gathering-end : (old new : List Purse) (left : List (Station S L)) (logs : List L)
      (done : Bool) (place : ℕ) → left ≡ []
      → Gathering gates sides_of IsAt plans all old new left logs done place
      → AreGathered gates old new (sides_of all) × (done ≡ true → AllZip HasLog all logs)
  gathering-end old new left logs done place none g = (
    subst (λ l. AreGathered gates old new (sides_of l)) (sym whole) g.back,
    λ yes'. subst (λ l. AllZip HasLog l logs) (sym whole) (g.logged yes'),
  )
    where
      whole : all ≡ g.taken
      whole = g.all_is ∙ (ap (λ l. g.taken ++ reverse l) none ∙ append-nil g.taken)

pub on-ok : {T X : Type 0} (r : Result T X) (P : Type 0) (b : Bool) → b ≡ is_ok r → OnOk r P
    → b ≡ true → P
on-ok (Ok x) P b is p yes' = p
on-ok (Err x) P b is p yes' = absurd (let no' : true ≡ false = sym yes' ∙ is in cc)

-- a list that was reversed where it stands
pub reversed-is : {A : Type 0} (items slice new : List A) (n : ℕ) → slice ≡ items
    → new ≡ reverse slice → length slice ≡ n
    → take n (new ++ drop (length new) items) ≡ reverse items
reversed-is items slice new n value after long =
    let is : new ≡ reverse items = after ∙ ap reverse value in
    let same : length new ≡ length items = ap length is ∙ length-reverse items in
    let short : length items ≡ n = ap length (sym value) ∙ long in
    ap (take n) (ap (λ l. new ++ l) (drop_all (length new) items (omega (arith, same)))
    ∙ append-nil new)
    ∙ (take_all n new (omega (arith, same, short)) ∙ is)
