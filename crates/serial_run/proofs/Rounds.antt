-- Rounds, visits and repetitions, turn by turn.
use Rattle.std.proofs.Common.{◌≡◌, ◌≢◌, ℕ, zero, suc, ◌+◌, ◌<◌, ◌≤◌, ◌++◌, Bool, List, [], ◌∷◌}
use Rattle.std.proofs.Common.{length, map, replicate, take, Some, ⊎_elim, refl, sym, ap, subst, ◌∙◌}
use Rattle.std.proofs.Common.{arith, get_or, count_by}
use Rattle.std.specs.Prelude.{◌&&◌}
use Rattle.std.specs.List.{AllZip, Contains, list_all, slice_get, zip}
use Rattle.std.proofs.lemmas.Bool.{cases_lt}
use Rattle.std.proofs.lemmas.List.{take_more}
use Rattle.std.proofs.lemmas.Option.{get_or_from_slice_get, slice_get_read, slice_get_within}
use Rattle.plant_types.specs.declared.net.NetPlan.{NetPlan}
use Rattle.plant_types.specs.declared.plan.ControllerPlan.{ControllerPlan}
use Rattle.plant_types.specs.declared.plan.Plant.{Plant}
use Rattle.ring_core.specs.Kept.{KeptRing}
use Rattle.ring_core.specs.Machine.{is_in}
use Rattle.controller_core.specs.declared.fixed.Fixed.{Fixed}
use Rattle.controller_core.specs.Controller.{ControllerIs, has_ended}
use Rattle.joint_history.specs.declared.joint.Joint.{Joint}
use Rattle.joint_history.specs.Nets.{noted_on}
use Rattle.joint_history.specs.Reading.{has_ended_at}
use Rattle.tied_lists.specs.Waits.{status_at}
use Rattle.bridge_station.specs.TurnLaws.{SomebodyHolds}
use Rattle.whole_scan.specs.Scans.{KeepsStepsLeft}
use Rattle.serial_run.specs.declared.order.Turn.{Turn}
use Rattle.serial_run.specs.declared.order.Turn.TheVariants.{Hold}
use Rattle.serial_run.specs.declared.stations.ControllerStation.{ControllerStation}
use Rattle.serial_run.specs.declared.stations.RingStation.{RingStation}
use Rattle.serial_run.specs.declared.stations.Stations.{Stations}
use Rattle.serial_run.specs.Turns.{MakesTurn, MakesTurns}
use Rattle.serial_run.specs.Serial.{all_have_ended, log_has_ended, members_on, IsChain, MakesRound}
use Rattle.serial_run.specs.Serial.{MakesRoundOfEach, MakesRoundOn, MakesRounds}
use Rattle.serial_run.specs.Stations.{Did, StandAll, StandsOn, StandsRing, joint_of, log_of}
use Rattle.serial_run.specs.Held.{members_if, members_in, turns_left, GainFor, HeldOn, IsHeld}
use Rattle.serial_run.specs.Held.{IsOffAway, Lessens, RoundOn, Stay}
use Rattle.serial_run.specs.Scans.{have_ended, KeepScans}
use Rattle.serial_run.proofs.Gained.{SomeHave, one-more-has, stays-both, stays-same}
use Rattle.serial_run.proofs.Laws.{one-more-turn}
use Rattle.serial_run.proofs.Lists.{zip-at, zip-both}
use Rattle.serial_run.proofs.Measures.{members-hold, members-there, scans-same, some-there}
use Rattle.serial_run.proofs.Networks.{contains-at, noted-is, place-of, ring-of, same-net}

-- ---- what was done, one after another

pub did-none : (run : Stations) → Did (λ plant scans old new. new ≡ old) run run
did-none run = record { stand = λ plant scans all. all; made = λ plant scans all. refl }

-- ---- members

pub in-members : (plant : Plant) (scans : ℕ) (run : Stations) → StandAll plant scans run
    → (net : NetPlan) → Contains plant.nets net
    → members_in run net.number ≡ members_on net (noted_on net.number (joint_of run))
in-members plant scans run all net there =
    let of = ring-of plant run.rings.items all.sound all.rings net there in
    let st = of.stands in
    let history = of.station.ring.history in
    let noted : noted_on net.number (joint_of run) ≡ history =
    noted-is run.rings.items net.number ∙ ap (λ (r : KeptRing). r.history) of.ring_is in
    ap members_if of.found
    ∙ ((λ i. count_by (λ (n : ℕ). is_in (status_at (st.net_is i) history n)) (st.members i))
    ∙ ap (members_on net) (sym noted))

pub zip-length : {A B : Type 0} (R : A → B → Type 0) (xs : List A) (ys : List B) → AllZip R xs ys
    → length ys ≡ length xs
zip-length R [] [] all = refl
zip-length R [] (y ∷ ys) all = absurd all
zip-length R (x ∷ xs) [] all = absurd all
zip-length R (x ∷ xs) (y ∷ ys) all = ap suc (zip-length R xs ys all.1)

-- ---- who has ended

zip-list-all : {A B C : Type 0} (R : A → B → Type 0) (p : A × C → Bool) (q : B → Bool) (g : B → C)
    (xs : List A) (ys : List B) → AllZip R xs ys
    → ((x : A) (y : B) → R x y → q y ≡ p (x, g y)) → list_all q ys ≡ list_all p (zip xs (map g ys))
zip-list-all R p q g [] [] all same = refl
zip-list-all R p q g [] (y ∷ ys) all same = absurd all
zip-list-all R p q g (x ∷ xs) [] all same = absurd all
zip-list-all R p q g (x ∷ xs) (y ∷ ys) all same = λ i. same x y all.0 i && zip-list-all R p q g xs
    ys all.1 same i

pub ended-as : (plant : Plant) (scans : ℕ) (run : Stations) → StandAll plant scans run
    → have_ended run ≡ all_have_ended plant scans (joint_of run)
ended-as plant scans run all =
    zip-list-all (StandsOn plant scans run.rings.items) (log_has_ended plant scans)
    (λ (s : ControllerStation). has_ended s.controller) log_of
    plant.controllers run.controllers.items all.controllers
    (λ x y st. ap (λ (f : Fixed). has_ended_at f y.controller.history) st.fixed)

-- ---- a round

replicate-last : (n : ℕ) (turn : Turn) → replicate n turn ++ turn ∷ [] ≡ replicate (suc n) turn
replicate-last zero turn = refl
replicate-last (suc n) turn = λ i. turn ∷ replicate-last n turn i

replicate-more : (n : ℕ) (turn : Turn) → replicate n turn ++ turn ∷ [] ≡ replicate (n + 1) turn
replicate-more n turn = let same : suc n ≡ n + 1 = omega arith in replicate-last n turn ∙ ap
    (λ k. replicate k turn) same

-- some hold turns of a round of a network
pub record SomeHolds (network count : ℕ) (old new : Stations) : Type 0 where
  pub none : count ≡ 0 → new ≡ old
  pub did : Did (λ plant scans. MakesTurns plant scans (replicate count (Hold network))) old new
  pub scans : KeepScans old new
  pub no_more : turns_left new ≤ turns_left old
  pub less : IsHeld old network → 0 < count → turns_left new < turns_left old
  pub off : Stay IsOffAway old new
  pub others : (other : ℕ) → other ≢ network → members_in new other ≡ members_in old other

pub no-holds : (network : ℕ) (run : Stations) → SomeHolds network 0 run run
no-holds network run = record {
  none = λ is. refl;
  did = did-none run;
  scans = scans-same run run refl;
  no_more = omega arith;
  less = λ some low. absurd (omega (arith, low));
  off = stays-same IsOffAway run.rings.items run.controllers.items;
  others = λ other apart. refl;
}

keep-both : (u v w : ControllerIs) → KeepsStepsLeft u v → KeepsStepsLeft v w → KeepsStepsLeft u w
keep-both u v w a b = record {
  fixed = b.fixed ∙ a.fixed;
  left = b.left ∙ a.left;
  gone = b.gone ∙ a.gone;
  stop = b.stop ∙ a.stop;
  powered = b.powered ∙ a.powered;
  failures = b.failures ∙ a.failures;
}

pub scans-both : (a b c : Stations) → KeepScans a b → KeepScans b c → KeepScans a c
scans-both a b c x y =
    zip-both (λ (s t : ControllerStation). KeepsStepsLeft s.controller t.controller)
    (λ (s t : ControllerStation). KeepsStepsLeft s.controller t.controller)
    (λ (s t : ControllerStation). KeepsStepsLeft s.controller t.controller) a.controllers.items
    b.controllers.items c.controllers.items x y
    (λ s t u. keep-both s.controller t.controller u.controller)

first-less : (There : Type 0) (a b c : ℕ) (count : ℕ) → (There → 0 < count → b < a) → b ≤ a
    → c ≤ b → (count ≡ 0 → There → c < a) → There → c < a
first-less There a b c zero less no_more next first is = first refl is
first-less There a b c (suc count) less no_more next first is = let l = less is (omega arith) in
    omega (arith, l, next)

pub one-more-hold : (network count : ℕ) (first old new : Stations)
    → SomeHolds network count first old → HeldOn network old new
    → SomeHolds network (count + 1) first new
one-more-hold network count first old new some held = record {
  off = stays-both IsOffAway first old new some.off held.off;
  none = λ is. absurd (let a : count + 1 ≡ 0 = is in omega (arith, a));
  did = record {
    stand = λ plant n all. held.did.stand plant n (some.did.stand plant n all);
    made = λ plant n all. subst (λ (turns : List Turn). MakesTurns plant n turns (joint_of first)
        (joint_of new)) (replicate-more count (Hold network))
        (one-more-turn plant n (replicate count (Hold network)) (Hold network)
        (joint_of first) (joint_of old) (joint_of new) (some.did.made plant n all)
        (held.did.made plant n (some.did.stand plant n all)));
  };
  scans = scans-both first old new some.scans held.scans;
  no_more = let a = some.no_more in let b = held.no_more in omega (arith, a, b);
  less = λ is low. first-less (IsHeld first network) (turns_left first) (turns_left old)
      (turns_left new) count some.less some.no_more held.no_more
      (λ none is. let at-first = some.none none in
      subst (λ (run : Stations). turns_left new < turns_left run) at-first
      (held.less (subst (λ (run : Stations). IsHeld run network) (sym at-first) is))) is;
  others = λ other apart. held.others other apart ∙ some.others other apart;
}

-- all of them
pub holds-round : (law : SomebodyHolds) (plant : Plant) (scans network : ℕ) (first new : Stations)
    (count : ℕ) → StandAll plant scans first → count ≡ members_in first network
    → SomeHolds network count first new → RoundOn network first new
holds-round law plant scans network first new count all is some = record {
  did = subst (λ (n : ℕ). Did (λ plant scans. MakesTurns plant scans
      (replicate n (Hold network))) first new) is some.did;
  scans = some.scans;
  no_more = some.no_more;
  less = λ there. some.less (members-hold law plant scans first all network there)
      (positive count (λ none. there (sym is ∙ none)));
  off = some.off;
  others = some.others;
} where
  positive : (n : ℕ) → n ≢ 0 → 0 < n
  positive zero some = absurd (some refl)
  positive (suc n) some = omega arith

-- ---- rounds of networks, one after another

one-more-net : (plant : Plant) (scans : ℕ) (nets : List NetPlan) (net : NetPlan)
    (first next last : Joint) → MakesRoundOfEach plant scans nets first next
    → MakesRoundOn plant scans net next last
    → MakesRoundOfEach plant scans (nets ++ net ∷ []) first last
one-more-net plant scans [] net first next last made it =
    (last, subst (λ (j : Joint). MakesRoundOn plant scans net j last) made it, refl)
one-more-net plant scans (n ∷ nets) net first next last made it =
    (made.0, made.1, one-more-net plant scans nets net made.0 next last made.2 it)

-- some rounds of a plant's networks: those of the networks before a place
pub record SomeNets (at : ℕ) (first now : Stations) : Type 0 where
  pub did : Did (λ plant scans. MakesRoundOfEach plant scans (take at plant.nets)) first now
  pub scans : KeepScans first now
  pub no_more : turns_left now ≤ turns_left first
  pub less : (plant : Plant) (scans : ℕ) → StandAll plant scans first → (k : ℕ) (net : NetPlan)
      → k < at → slice_get plant.nets k ≡ Some net → members_in first net.number ≢ 0
      → turns_left now < turns_left first
  pub rest : (plant : Plant) (scans : ℕ) → StandAll plant scans first → (k : ℕ) (net : NetPlan)
      → at ≤ k → slice_get plant.nets k ≡ Some net
      → members_in now net.number ≡ members_in first net.number
  pub off : Stay IsOffAway first now

pub no-nets : (run : Stations) → SomeNets 0 run run
no-nets run = record {
  did = record { stand = λ plant scans all. all; made = λ plant scans all. refl };
  scans = scans-same run run refl;
  no_more = omega arith;
  less = λ plant scans all k net low. absurd (omega (arith, low));
  rest = λ plant scans all k net low is. refl;
  off = stays-same IsOffAway run.rings.items run.controllers.items;
}

-- the network of the ring at a place
net-there : (plant : Plant) (scans : ℕ) (run : Stations) (at : ℕ) (r : RingStation)
    → StandAll plant scans run → at < length run.rings.items → r ≡ get_or run.rings.items at r
    → (net : NetPlan) × (slice_get plant.nets at ≡ Some net) × (net.number ≡ r.network)
net-there plant scans run at r all low is =
    let its = zip-at StandsRing plant.nets run.rings.items at r all.rings
    (slice_get_read run.rings.items (length run.rings.items) at r refl low is) in
    (its.0, its.1, sym its.2.network)

pub one-more-net-round : (at : ℕ) (first now new : Stations) (r : RingStation)
    → SomeNets at first now → at < length now.rings.items → r ≡ get_or now.rings.items at r
    → RoundOn r.network now new → SomeNets (at + 1) first new
one-more-net-round at first now new r some low is round = record {
  did = record {
    stand = λ plant n all. round.did.stand plant n (some.did.stand plant n all);
    made = λ plant n all.
        let stands = some.did.stand plant n all in
        let it = net-there plant n now at r stands low is in
        let net = it.0 in
        let there = contains-at plant.nets at net it.1 in
        let count : members_in now r.network
        ≡ members_on net (noted_on net.number (joint_of now)) =
        ap (members_in now) (sym it.2) ∙ in-members plant n now stands net there in
        let made : MakesRoundOn plant n net (joint_of now) (joint_of new) =
        subst (λ (c : ℕ). MakesTurns plant n (replicate c (Hold net.number)) (joint_of now)
        (joint_of new)) count
        (subst (λ (k : ℕ). MakesTurns plant n (replicate (members_in now r.network) (Hold k))
        (joint_of now) (joint_of new)) (sym it.2) (round.did.made plant n stands)) in
        subst (λ (nets : List NetPlan). MakesRoundOfEach plant n nets (joint_of first)
        (joint_of new)) (sym (take-one plant.nets at net it.1))
        (one-more-net plant n (take at plant.nets) net (joint_of first) (joint_of now)
        (joint_of new) (some.did.made plant n all) made);
  };
  scans = scans-both first now new some.scans round.scans;
  no_more = let a = some.no_more in let b = round.no_more in omega (arith, a, b);
  less = λ plant n all k net low' at-net there. ⊎_elim
      (λ (before : k < at).
      let a = some.less plant n all k net before at-net there in
      let b = round.no_more in omega (arith, a, b))
      (λ (here : at ≤ k).
      let same-at : k ≡ at = omega (arith, low', here) in
      let it = net-there plant n now at r (some.did.stand plant n all) low is in
      let both : Some net ≡ Some it.0 =
      sym at-net ∙ (ap (slice_get plant.nets) same-at ∙ it.1) in
      let same : net ≡ it.0 = cc in
      let count : members_in now r.network ≡ members_in first net.number =
      ap (members_in now) (sym (ap (λ (m : NetPlan). m.number) same ∙ it.2))
      ∙ some.rest plant n all k net here at-net in
      let a = some.no_more in
      let b = round.less (λ none. there (sym count ∙ none)) in
      omega (arith, a, b))
      (cases_lt k at);
  rest = λ plant n all k net low' at-net.
      let it = net-there plant n now at r (some.did.stand plant n all) low is in
      round.others net.number (λ same.
      let place : k ≡ at = same-net plant all.sound k at net it.0 at-net it.1 (same ∙ sym it.2) in
      omega (arith, place, low'))
      ∙ some.rest plant n all k net (omega (arith, low')) at-net;
  off = stays-both IsOffAway first now new some.off round.off;
} where
  take-one : (nets : List NetPlan) (k : ℕ) (net : NetPlan) → slice_get nets k ≡ Some net
      → take (k + 1) nets ≡ take k nets ++ net ∷ []
  take-one nets k net is' =
      take_more nets k net (slice_get_within nets k net is')
      ∙ ap (λ (m : NetPlan). take k nets ++ m ∷ []) (get_or_from_slice_get nets k net net is')

pub nets-round : (first now : Stations) (at : ℕ) → at ≡ length now.rings.items
    → SomeNets at first now → Did MakesRound first now
nets-round first now at is some = record {
  stand = some.did.stand;
  made = λ plant n all.
      let long = zip-length StandsRing plant.nets now.rings.items
      (some.did.stand plant n all).rings in
      subst (λ (nets : List NetPlan). MakesRoundOfEach plant n nets (joint_of first)
      (joint_of now)) (take-nets plant.nets at (is ∙ long)) (some.did.made plant n all);
} where
  take-nets : (nets : List NetPlan) (k : ℕ) → k ≡ length nets → take k nets ≡ nets
  take-nets [] zero is' = refl
  take-nets [] (suc k) is' = absurd (omega (arith, is'))
  take-nets (n ∷ nets) zero is' = absurd (omega (arith, is'))
  take-nets (n ∷ nets) (suc k) is' = λ i. n ∷ take-nets nets k (omega (arith, is')) i

-- where a node has not left, some network had members at the beginning
pub nets-lessen : (law : SomebodyHolds) (plant : Plant) (scans : ℕ) (first now : Stations)
    (at : ℕ) → StandAll plant scans first → at ≡ length now.rings.items
    → SomeNets at first now → Lessens first now
nets-lessen law plant scans first now at all is some = record {
  no_more = some.no_more;
  less = λ here.
      let somebody = some-there plant scans first all here in
      let spot = place-of plant.nets somebody.net somebody.there in
      let long = zip-length StandsRing plant.nets now.rings.items
      (some.did.stand plant scans all).rings in
      let low = slice_get_within plant.nets spot.0 somebody.net spot.1 in
      some.less plant scans all spot.0 somebody.net (omega (arith, is, long, low)) spot.1
      (members-there law plant scans first all somebody);
}

-- ---- chains

pub chain-more : (came : Joint → Joint → Type 0) (first next last : Joint) (between : List Joint)
    → IsChain came first between next → came next last
    → IsChain came first (between ++ last ∷ []) last
chain-more came first next last [] chain it = (subst (λ (j : Joint). came j last) chain it, refl)
chain-more came first next last (j ∷ between) chain
    it = (chain.0, chain-more came j next last between chain.1 it)

length-more : (xs : List Joint) (x : Joint) → length (xs ++ x ∷ []) ≡ length xs + 1
length-more [] x = refl
length-more (y ∷ xs) x = let rest = length-more xs x in omega (arith, rest)

-- some rounds
pub no-rounds : (run : Stations) → Did (λ plant scans. MakesRounds plant scans 0) run run
no-rounds run = record {
  stand = λ plant scans all. all;
  made = λ plant scans all. record { behind_each = []; many = refl; rounds = refl };
}

pub one-more-round : (count : ℕ) (first old new : Stations)
    → Did (λ plant scans. MakesRounds plant scans count) first old → Did MakesRound old new
    → Did (λ plant scans. MakesRounds plant scans (count + 1)) first new
one-more-round count first old new some did = record {
  stand = λ plant n all. did.stand plant n (some.stand plant n all);
  made = λ plant n all.
      let before = some.made plant n all in
      record {
        behind_each = before.behind_each ++ joint_of new ∷ [];
        many = length-more before.behind_each (joint_of new) ∙ ap (λ k. k + 1) before.many;
        rounds = chain-more (MakesRound plant n) (joint_of first) (joint_of old) (joint_of new)
            before.behind_each before.rounds
            (did.made plant n (some.stand plant n all));
      };
}

-- ---- turns of all controllers, one after another

take-past : (turns : List Turn) (k : ℕ) → k ≡ length turns → take k turns ≡ turns
take-past [] zero is = refl
take-past [] (suc k) is = absurd (omega (arith, is))
take-past (t ∷ turns) zero is = absurd (omega (arith, is))
take-past (t ∷ turns) (suc k) is = λ i. t ∷ take-past turns k (omega (arith, is)) i

module _ (turn_of : ℕ → Turn) (Has : KeptRing → ControllerStation → Type 0) where
  abbrev turns_of_all : Plant → List Turn
  turns_of_all plant = map (λ plan. turn_of plan.node) plant.controllers

  pub record SomeTurns (at : ℕ) (old new : Stations) : Type 0 where
    pub did : Did (λ plant scans. MakesTurns plant scans (take at (turns_of_all plant))) old new
    pub scans : KeepScans old new
    pub have : SomeHave Has at new.rings.items new.controllers.items

  pub no-turns : (run : Stations) → SomeTurns 0 run run
  no-turns run = record {
    did = did-none run;
    scans = scans-same run run refl;
    have = λ k d low. absurd (omega (arith, low));
  }

  -- the turn of a place
  turn-at : (plans : List ControllerPlan) (stations : List ControllerStation) (at : ℕ)
      (s : ControllerStation) (R : ControllerPlan → ControllerStation → Type 0)
      → AllZip R plans stations → ((p : ControllerPlan) (t : ControllerStation) → R p t
      → t.node ≡ p.node) → at < length stations → s ≡ get_or stations at s
      → take (suc at) (map (λ plan. turn_of plan.node) plans) ≡ take at
      (map (λ plan. turn_of plan.node) plans) ++ turn_of s.node ∷ []
  turn-at [] [] at s R all node low is = absurd (omega (arith, low))
  turn-at [] (y ∷ ys) at s R all node low is = absurd all
  turn-at (x ∷ xs) [] at s R all node low is = absurd all
  turn-at (x ∷ xs) (y ∷ ys) zero s R all node low is = λ i. turn_of
      ((sym (node x y all.0) ∙ ap (λ (t : ControllerStation). t.node) (sym is)) i) ∷ []
  turn-at (x ∷ xs) (y ∷ ys) (suc at) s R all node low is = λ i. turn_of x.node
      ∷ turn-at xs ys at s R all.1 node (omega (arith, low)) is i

  pub turns-long : (at : ℕ) (first old : Stations) → SomeTurns at first old
      → length old.controllers.items ≡ length first.controllers.items
  turns-long at first old some =
      zip-length (λ (s t : ControllerStation). KeepsStepsLeft s.controller t.controller)
      first.controllers.items old.controllers.items some.scans

  length-turns : (plans : List ControllerPlan)
      → length (map (λ plan. turn_of plan.node) plans) ≡ length plans
  length-turns [] = refl
  length-turns (p ∷ plans) = ap suc (length-turns plans)

  pub all-turns : (at : ℕ) (first new : Stations) → at ≡ length first.controllers.items
      → SomeTurns at first new
      → Did (λ plant scans. MakesTurns plant scans (turns_of_all plant)) first new
  all-turns at first new is some = record {
    stand = some.did.stand;
    made = λ plant n all.
        let long = zip-length (StandsOn plant n first.rings.items) plant.controllers
        first.controllers.items all.controllers in
        subst (λ (turns : List Turn). MakesTurns plant n turns (joint_of first) (joint_of new))
        (take-past (turns_of_all plant) at (is ∙ (long ∙ sym (length-turns plant.controllers))))
        (some.did.made plant n all);
  }

  pub one-more-of-all : (at : ℕ) (first old new : Stations) (s : ControllerStation)
      → SomeTurns at first old → at < length old.controllers.items
      → s ≡ get_or old.controllers.items at s
      → Did (λ plant scans. MakesTurn plant scans (turn_of s.node)) old new → KeepScans old new
      → GainFor Has s.node old new → SomeTurns (at + 1) first new
  one-more-of-all at first old new s some low is did scans gain = record {
    have = one-more-has Has at old new s some.have low is gain;
    did = record {
      stand = λ plant n all. did.stand plant n (some.did.stand plant n all);
      made = λ plant n all.
          let now = some.did.stand plant n all in
          let next : suc at ≡ at + 1 = omega arith in
          subst (λ (turns : List Turn). MakesTurns plant n turns (joint_of first) (joint_of new))
          (sym (sym (ap (λ k. take k (turns_of_all plant)) next) ∙ turn-at plant.controllers
          old.controllers.items at s (StandsOn plant n old.rings.items) now.controllers
          (λ p t st. st.node) low is))
          (one-more-turn plant n (take at (turns_of_all plant)) (turn_of s.node) (joint_of first)
          (joint_of old) (joint_of new) (some.did.made plant n all)
          (did.made plant n now));
    };
    scans = scans-both first old new some.scans scans;
  }
