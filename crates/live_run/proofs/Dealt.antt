-- The passes of the rings dealt to the nodes of plans.
use Rattle.std.proofs.Common.{◌≡◌, ◌≢◌, ℕ, ◌+◌, ◌<◌, ◌++◌, ◌⊎◌, true, false, List, [], ◌∷◌}
use Rattle.std.proofs.Common.{Contains}
use Rattle.std.proofs.Common.{Some, get_or, length, map, flat_map, reverse, take, drop}
use Rattle.std.proofs.Common.{◌==◌, refl, sym, ap, subst, subst₂, ◌∙◌, inl, inr, ⊎_elim}
use Rattle.std.proofs.Common.{eqb-true, eq-eqb}
use Rattle.std.proofs.lemmas.Bool.{both_ways, false_from_ne_true, or_cases, or_left}
use Rattle.std.proofs.lemmas.Bool.{or_right}
use Rattle.std.proofs.lemmas.List.{append_assoc, drop_more, get_or_default, map-append}
use Rattle.std.proofs.lemmas.List.{reverse-append, take_more}
use Rattle.std.proofs.lemmas.List.Elements.{Contains-append_left, Contains-push}
use Rattle.std.specs.List.{AllZip}
use Rattle.turn_gate.specs.Known.{PassFacts, first_pass, is_among}
use Rattle.plant_types.specs.declared.net.BridgePlan.{BridgePlan}
use Rattle.ring_core.specs.declared.entry.RingEntry.{RingEntry}
use Rattle.gated_sides.specs.Sides.{GatedRingIs}
use Rattle.live_workers.proofs.Ran.{zip-both}
use Rattle.live_run.specs.Homes.{IsSeated, KeepsFor, Purse, RingGate, is_ring_of}
use Rattle.live_run.specs.Dealing.{CanDeal, DealsAt, IsDealt, IsFreshSide, Key}
use Rattle.live_run.specs.Dealing.{key_of}
use Rattle.live_run.specs.Ends.{ends_of_plan}
use Rattle.live_run.proofs.Places.{zip-at, zip-put, zip-weaker}

among-cases : (n m : ℕ) (ms : List ℕ) → is_among n (m ∷ ms) ≡ true
    → (n ≡ m) ⊎ (is_among n ms ≡ true)
among-cases n m ms is = ⊎_elim
    (λ (here : (n == m) ≡ true). inl (eqb-true n m here))
    (λ (later : is_among n ms ≡ true). inr later) (or_cases (n == m) (is_among n ms) is)

among-later : (n m : ℕ) (ms : List ℕ) → is_among n ms ≡ true → is_among n (m ∷ ms) ≡ true
among-later n m ms is = or_right (n == m) (is_among n ms) is

among-here : (n m : ℕ) (ms : List ℕ) → n ≡ m → is_among n (m ∷ ms) ≡ true
among-here n m ms is = or_left (n == m) (is_among n ms) (eq-eqb n m is)

-- pass 0 of a gate can give a number that is new
deals-for : (node : ℕ) (dealt : List ℕ) (out : List Key) → node ≢ 0 → is_among node dealt ≡ false
    → (gate : RingGate) (purse : Purse) → DealsAt dealt out gate purse
    → KeepsFor node gate purse
deals-for node dealt out some new gate purse d = record {
  keeps = record {
    pass = d.pass;
    kept = d.kept;
    zero = record {
      gate_is = ap (λ (p : PassFacts RingEntry). p.gate) d.first;
      outside = ap (λ (p : PassFacts RingEntry). p.stay) d.first;
      number = ap (λ (p : PassFacts RingEntry). p.number) d.first;
    };
  };
  fresh = (
    some,
    false_from_ne_true (is_among node d.pass.given)
        (λ is. both_ways (is_among node dealt) new (d.among node is)),
  );
}

-- where another gate's pass 0 gave a number, nothing changes
deals-more : (node : ℕ) (key : Key) (dealt : List ℕ) (out : List Key) (gate : RingGate)
    (purse : Purse) → DealsAt dealt out gate purse
    → DealsAt (node ∷ dealt) (out ++ key ∷ []) gate purse
deals-more node key dealt out gate purse d = record {
  pass = d.pass;
  kept = d.kept;
  first = d.first;
  among = λ n is. among-later n node dealt (d.among n is);
  sides = λ n is. Contains-append_left out (key ∷ []) (gate, n) (d.sides n is);
}

-- where its own did
deals-here : (node : ℕ) (key : Key) (dealt : List ℕ) (out : List Key) (gate : RingGate)
    (pass : PassFacts RingEntry) → key ≡ (gate, node) → DealsAt dealt out gate (Some pass)
    → DealsAt (node ∷ dealt) (out ++ key ∷ []) gate
    (Some (record pass { given = node ∷ pass.given }))
deals-here node key dealt out gate pass is d = record {
  pass = record pass { given = node ∷ pass.given };
  kept = refl;
  first = ap (λ (p : PassFacts RingEntry). record p { given = node ∷ p.given }) first;
  among = λ n in'. ⊎_elim
      (λ (here : n ≡ node). among-here n node dealt here)
      (λ (later : is_among n pass.given ≡ true).
      among-later n node dealt (d.among n (given n later)))
      (among-cases n node pass.given in');
  sides = λ n in'. ⊎_elim
      (λ (here : n ≡ node). subst (Contains (out ++ key ∷ []))
      (is ∙ (λ i. (gate, sym here i))) (Contains-push out key))
      (λ (later : is_among n pass.given ≡ true).
      Contains-append_left out (key ∷ []) (gate, n) (d.sides n (given n later)))
      (among-cases n node pass.given in');
}
  where
    same : d.pass ≡ pass
    same = let e = sym d.kept in cc

    first : pass ≡ record (first_pass gate.name) { given = pass.given }
    first = subst (λ (p : PassFacts RingEntry). p ≡ record (first_pass gate.name) {
      given = p.given;
    }) same d.first

    given : (n : ℕ) → is_among n pass.given ≡ true → is_among n d.pass.given ≡ true
    given n is = ap (λ (p : PassFacts RingEntry). is_among n p.given) same ∙ is

module _ (gates : List RingGate) where
  -- one pass was dealt
  pub dealt-one : (old new : List Purse) (network node : ℕ) (side : GatedRingIs)
      → IsSeated gates old new network node side
      → IsDealt gates old new (node ∷ []) (key_of side ∷ [])
  dealt-one old new network node side s dealt out all =
      subst (AllZip (DealsAt (node ∷ dealt) (out ++ key_of side ∷ [])) gates) (sym s.now)
      (zip-put (is_ring_of network) (DealsAt dealt out)
      (DealsAt (node ∷ dealt) (out ++ key_of side ∷ [])) gates old s.gate
      (Some (record s.pass { given = node ∷ s.pass.given }))
      (deals-more node (key_of side) dealt out) all s.home
      (deals-here node (key_of side) dealt out s.gate s.pass (ap key_of s.side_is)
      (zip-at (is_ring_of network) (DealsAt dealt out) gates old s.gate (Some s.pass) all s.home
      s.was)))

  -- some were dealt, and then others
  pub dealt-both : (a b c : List Purse) (ns ms : List ℕ) (ks js : List Key)
      → IsDealt gates a b ns ks → IsDealt gates b c ms js
      → IsDealt gates a c (ns ++ ms) (ks ++ js)
  dealt-both a b c ns ms ks js one two dealt out all =
      subst₂ (λ d o. AllZip (DealsAt d o) gates c)
      (sym (ap (λ l. l ++ dealt) (reverse-append ns ms)
      ∙ append_assoc (reverse ms) (reverse ns) dealt))
      (append_assoc out ks js) (two (reverse ns ++ dealt) (out ++ ks) (one dealt out all))

  -- the next of the passes can be given
  pub can-seat : (purses : List Purse) (node : ℕ) (nodes : List ℕ)
      → CanDeal gates purses (node ∷ nodes) → AllZip (KeepsFor node) gates purses
  can-seat purses node nodes c =
      zip-weaker (DealsAt c.dealt c.out) (KeepsFor node) gates purses
      (deals-for node c.dealt c.out c.new.0 c.new.1) c.deals

  -- and once it was, those behind it can
  pub can-next : (old new : List Purse) (node : ℕ) (nodes : List ℕ) (key : Key)
      → IsDealt gates old new (node ∷ []) (key ∷ []) → CanDeal gates old (node ∷ nodes)
      → CanDeal gates new nodes
  can-next old new node nodes key dealt c = record {
    dealt = node ∷ c.dealt;
    out = c.out ++ key ∷ [];
    deals = dealt c.dealt c.out c.deals;
    new = c.new.2;
  }

  -- the side that it made
  pub fresh-side : (old new : List Purse) (network node : ℕ) (nodes : List ℕ) (side : GatedRingIs)
      → IsSeated gates old new network node side → CanDeal gates old (node ∷ nodes)
      → IsFreshSide gates network node side
  fresh-side old new network node nodes side s c = record {
    gate = s.gate;
    home = s.home;
    some = c.new.0;
    is = s.side_is ∙ (λ i. record { gate = s.gate; number = node; seen = seen i });
  }
    where
      d : DealsAt c.dealt c.out s.gate (Some s.pass)
      d = zip-at (is_ring_of network) (DealsAt c.dealt c.out) gates old s.gate (Some s.pass)
          c.deals s.home s.was

      same : d.pass ≡ s.pass
      same = let e = sym d.kept in cc

      seen : s.pass.seen ≡ s.gate.name.opening
      seen = ap (λ (p : PassFacts RingEntry). p.seen) (sym same ∙ d.first)

-- The passes of the first of some plans were dealt. `nodes_of` are the nodes of plans, and
-- `sides_of` the sides of stations.
pub record Dealing {P W : Type 0} (gates : List RingGate) (nodes_of : List P → List ℕ)
    (sides_of : List W → List GatedRingIs) (IsNew : P → W → Type 0) (plans : List P)
    (old new : List Purse) (index : ℕ) (made : List W) : Type 0 where
  pub ready : CanDeal gates new (nodes_of (drop index plans))
  pub dealt : IsDealt gates old new (nodes_of (take index plans)) (map key_of (sides_of made))
  pub each : AllZip IsNew (take index plans) made

module _ {P W : Type 0} (gates : List RingGate) (nodes_of : List P → List ℕ)
    (sides_of : List W → List GatedRingIs) (IsNew : P → W → Type 0) (plans : List P) where
  pub dealing-next : (old mid new : List Purse) (index : ℕ) (made items : List W) (plan : P) (w : W)
      (nodes : List ℕ) (sides : List GatedRingIs) → index < length plans
      → plan ≡ get_or plans index plan → items ≡ made ++ w ∷ []
      → nodes_of (take index plans ++ plan ∷ []) ≡ nodes_of (take index plans) ++ nodes
      → sides_of (made ++ w ∷ []) ≡ sides_of made ++ sides
      → CanDeal gates new (nodes_of (drop (index + 1) plans))
      → IsDealt gates mid new nodes (map key_of sides) → IsNew plan w
      → Dealing gates nodes_of sides_of IsNew plans old mid index made
      → Dealing gates nodes_of sides_of IsNew plans old new (index + 1) items
  dealing-next old mid new index made items plan w nodes sides within at pushed more more_sides
      ready dealt fresh d = record {
        ready = ready;
        dealt = subst₂ (λ ns ks. IsDealt gates old new ns ks)
            (sym (ap nodes_of taken ∙ more))
            (sym (ap (map key_of) (ap sides_of pushed ∙ more_sides)
            ∙ map-append key_of (sides_of made) sides))
            (dealt-both gates old mid new (nodes_of (take index plans)) nodes
            (map key_of (sides_of made)) (map key_of sides) d.dealt dealt);
        each = subst₂ (λ l m. AllZip IsNew l m) (sym taken) (sym pushed)
            (zip-both IsNew (take index plans) (plan ∷ []) made (w ∷ []) d.each (fresh, tt));
      }
    where
      taken : take (index + 1) plans ≡ take index plans ++ plan ∷ []
      taken = take_more plans index plan within
          ∙ ap (λ x. take index plans ++ x ∷ []) (sym at)

-- what is left of the plans begins with the next
pub rest-is : {P : Type 0} (plans : List P) (index : ℕ) (plan : P) → index < length plans
    → plan ≡ get_or plans index plan → drop index plans ≡ plan ∷ drop (index + 1) plans
rest-is plans index plan within at =
    drop_more plans index plan within ∙ ap (λ x. x ∷ drop (index + 1) plans) (sym at)

-- the plan of a bridge at a place
abbrev pub bridge-at : List BridgePlan → ℕ → BridgePlan
bridge-at plans index =
    get_or plans index (record { left_net = 0; left = 0; right_net = 0; right = 0 })

pub bridge-same : (plans : List BridgePlan) (index : ℕ) → index < length plans
    → bridge-at plans index ≡ get_or plans index (bridge-at plans index)
bridge-same plans index within =
    get_or_default plans index (record { left_net = 0; left = 0; right_net = 0; right = 0 })
    (bridge-at plans index) within

-- both ends of the next bridge, and then those of the rest, can be dealt
pub ends-ready : (gates : List RingGate) (purses : List Purse) (plans : List BridgePlan)
    (index : ℕ) → index < length plans
    → CanDeal gates purses (flat_map ends_of_plan (drop index plans))
    → CanDeal gates purses ((bridge-at plans index).left ∷ (bridge-at plans index).right
    ∷ flat_map ends_of_plan (drop (index + 1) plans))
ends-ready gates purses plans index within ready =
    subst (λ l. CanDeal gates purses (flat_map ends_of_plan l))
    (rest-is plans index (bridge-at plans index) within (bridge-same plans index within)) ready
