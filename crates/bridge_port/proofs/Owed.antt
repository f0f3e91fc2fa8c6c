-- An end gives back only what it accepted, and no more often.
use Rattle.std.proofs.Common.{◌≡◌, ◌≢◌, ℕ, zero, suc, ◌+◌, ◌-◌, ◌≤◌, ◌==◌, Bool, true, false}
use Rattle.std.proofs.Common.{cond, List, [], ◌∷◌, ◌++◌, Option, Some, None, length, map, drop, set}
use Rattle.std.proofs.Common.{get_or, filter_map, count_by, is_some, option_map, refl}
use Rattle.std.proofs.Common.{sym, ap, ◌∙◌, subst, inl, inr, arith, append_assoc, append-nil}
use Rattle.std.proofs.Common.{eq-eqb, ne_eqb, length-append}
use Rattle.std.proofs.lemmas.List.{length-map}
use Rattle.std.specs.List.{AllByRecursion as Each, cons_option, slice_get}
use Rattle.std.proofs.lemmas.Bool.{cases_eq}
use Rattle.std.proofs.lemmas.List.Elements.{filter-append}
use Rattle.plant_types.specs.declared.net.BridgePlan.{BridgePlan}
use Rattle.mstr_block.specs.declared.call.CallId.{CallId}
use Rattle.ring_core.specs.Words.{is_same_call}
use Rattle.bridge_relay.specs.declared.entry.BridgeEntry.{BridgeEntry}
use Rattle.bridge_relay.specs.declared.entry.BridgeEntry.TheVariants.{Accept, Forward, Finish}
use Rattle.bridge_relay.specs.declared.entry.BridgeEntry.TheVariants.{Back, Gone}
use Rattle.bridge_relay.specs.declared.entry.RelayResult.{RelayResult}
use Rattle.bridge_relay.specs.Machine.{EndIs, OutCall, RelayIs, RelayPath, Returned, Waiting}
use Rattle.bridge_relay.specs.Machine.{exception_to, far_end, far_side, near_end, new_relay}
use Rattle.bridge_relay.specs.Machine.{relay_after, relay_path, relay_step, returned, side_of}
use Rattle.bridge_relay.specs.Machine.{out_call, unsent, unused_path}
use Rattle.bridge_relay.specs.Kept.{code_between, far_accepted, far_after, near_accepted}
use Rattle.bridge_relay.specs.Kept.{near_after, returned_by}
use Rattle.bridge_relay.specs.Laws.{end_after, is_by}
use Rattle.bridge_relay.specs.Legal.{FitsBridge, IsBridgeHistory, IsEnd, due_back}
use Rattle.bridge_relay.proofs.Legal.{forward_made}
use Rattle.bridge_relay.proofs.Steps.{after_more, step_left, step_right}
use Rattle.ring_laws.proofs.Lists.{count-cons, count-push, one-if, none-if, same-refl}
use Rattle.tied_lists.specs.Items.{Answered, Item, Items, no_items}
use Rattle.tied_lists.proofs.Boxes.{each-drop, each-push}
use Rattle.bridge_port.specs.EndParts.{is_accept, is_back}
use Rattle.comm_port.specs.JointHistory.{back_of, backs_of, made_at_end, side_item_next, side_items}
use Rattle.comm_port.specs.JointHistory.{side_items_after}
use Rattle.bridge_port.proofs.Across.{legal-front}
use Rattle.bridge_port.proofs.Lists.{items-joined}
use Rattle.bridge_port.proofs.Names.{AreAccepted, answers_named}

-- ---- lists

each-set : {X : Type 0} (P : X → Type 0) (xs : List X) (i : ℕ) (v : X) → Each P xs → P v
    → Each P (set xs i v)
each-set P [] i v all new = tt
each-set P (x ∷ xs) zero v all new = (new, all.1)
each-set P (x ∷ xs) (suc i) v all new = (all.0, each-set P xs i v all.1 new)

each-get : {X : Type 0} (P : X → Type 0) (xs : List X) (i : ℕ) (d : X) → Each P xs → P d
    → P (get_or xs i d)
each-get P [] i d all least = least
each-get P (x ∷ xs) zero d all least = all.0
each-get P (x ∷ xs) (suc i) d all least = each-get P xs i d all.1 least

each-joined : {X : Type 0} (P : X → Type 0) (xs ys : List X) → Each P xs → Each P ys
    → Each P (xs ++ ys)
each-joined P [] ys one two = two
each-joined P (x ∷ xs) ys one two = (one.0, each-joined P xs ys one.1 two)

each-first : {X : Type 0} (P : X → Type 0) (xs : List X) (x : X) → slice_get xs 0 ≡ Some x
    → Each P xs → P x
each-first P [] x is all = absurd (cc)
each-first P (y ∷ xs) x is all = let same : y ≡ x = cc in subst P same all.0

first-less : {X : Type 0} (xs : List X) (x : X) → slice_get xs 0 ≡ Some x
    → length (drop 1 xs) + 1 ≡ length xs
first-less [] x is = absurd (cc)
first-less (y ∷ xs) x is = omega arith

-- ---- how many calls are out

abbrev outs : List RelayPath → ℕ
outs paths = count_by (λ (path : RelayPath). is_some path.out) paths

outs-more : (paths : List RelayPath) (i : ℕ) (v : RelayPath) → outs (set paths i v) ≤ outs paths + 1
outs-more [] i v = omega arith
outs-more (x ∷ paths) zero v =
    let one = count-cons (λ (path : RelayPath). is_some path.out) v paths in
    let two = count-cons (λ (path : RelayPath). is_some path.out) x paths in
    let low = at-most (is_some v.out) in
    omega (arith, one, two, low)
  where
    at-most : (b : Bool) → cond {A = ℕ} b 1 0 ≤ 1
    at-most true = omega arith
    at-most false = omega arith
outs-more (x ∷ paths) (suc i) v =
    let one = count-cons (λ (path : RelayPath). is_some path.out) x (set paths i v) in
    let two = count-cons (λ (path : RelayPath). is_some path.out) x paths in
    let more = outs-more paths i v in
    omega (arith, one, two, more)

outs-less : (paths : List RelayPath) (i : ℕ) (v : RelayPath) → is_some v.out ≡ false
    → outs (set paths i v) + cond (is_some (get_or paths i unused_path).out) 1 0 ≤ outs paths
outs-less [] i v none = omega arith
outs-less (x ∷ paths) zero v none =
    let one = count-cons (λ (path : RelayPath). is_some path.out) v paths in
    let two = count-cons (λ (path : RelayPath). is_some path.out) x paths in
    let low = none-if (is_some v.out) none in
    omega (arith, one, two, low)
outs-less (x ∷ paths) (suc i) v none =
    let one = count-cons (λ (path : RelayPath). is_some path.out) x (set paths i v) in
    let two = count-cons (λ (path : RelayPath). is_some path.out) x paths in
    let more = outs-less paths i v none in
    omega (arith, one, two, more)

-- ---- what an end owes

-- each request that an end accepted is to be given back there, waits across, or is out across
record Owed (Known : CallId → Type 0) (near far : EndIs) (backs accepts : ℕ) : Type 0 where
  pub give : Each (λ (item : Returned). Known item.id) near.to_give
  pub send : Each (λ (item : Waiting). Known item.id) far.to_send
  pub out : Each (λ (path : RelayPath). (call : OutCall) → path.out ≡ Some call → Known call.old)
      far.paths
  pub count : backs + (length near.to_give + (length far.to_send + outs far.paths)) ≤ accepts

-- what an entry of the end itself owes
abbrev OwesOwn : (CallId → Type 0) → EndIs → BridgeEntry → Type 0
OwesOwn Known near (Accept side id route request) = Known id
OwesOwn Known near (Forward side old id route request) = Unit {0}
OwesOwn Known near (Finish side id result) = Unit {0}
OwesOwn Known near (Back side id reply) =
    (item : Returned) × (slice_get near.to_give 0 ≡ Some item)
OwesOwn Known near (Gone side) = Unit {0}

owed-accept : (Known : CallId → Type 0) (near far : EndIs) (backs accepts : ℕ) (id : CallId)
    (route request : List ℕ) (code : Option ℕ) → Known id → Owed Known near far backs accepts
    → Owed Known
    (near_accepted near (record { id = id; route = route; request = request }) code)
    (far_accepted far (record { id = id; route = route; request = request }) code)
    (backs + 0) (accepts + 1)
owed-accept Known near far backs accepts id route request None known o =
    let item : Waiting = record { id = id; route = route; request = request } in
    let long = length-append far.to_send (item ∷ []) in
    let count = o.count in
    record {
      give = o.give;
      send = each-push (λ (i : Waiting). Known i.id) far.to_send item o.send known;
      out = o.out;
      count = omega (arith, count, long);
    }
owed-accept Known near far backs accepts id route request (Some code) known o =
    let item : Returned = record { id = id; reply = exception_to request code } in
    let long = length-append near.to_give (item ∷ []) in
    let count = o.count in
    record {
      give = each-push (λ (i : Returned). Known i.id) near.to_give item o.give known;
      send = o.send;
      out = o.out;
      count = omega (arith, count, long);
    }

owed-plain : (Known : CallId → Type 0) (near far near' far' : EndIs) (backs accepts : ℕ)
    → near'.to_give ≡ near.to_give → far'.to_send ≡ far.to_send → far'.paths ≡ far.paths
    → Owed Known near far backs accepts → Owed Known near' far' backs accepts
owed-plain Known near far near' far' backs accepts give send paths o = record {
  give = subst (Each (λ (item : Returned). Known item.id)) (sym give) o.give;
  send = subst (Each (λ (item : Waiting). Known item.id)) (sym send) o.send;
  out = subst (Each (λ (path : RelayPath). (call : OutCall) → path.out ≡ Some call
      → Known call.old)) (sym paths) o.out;
  count =
      let a = ap length give in
      let b = ap length send in
      let c = ap outs paths in
      let count = o.count in
      omega (arith, a, b, c, count);
}

owed-counts : (Known : CallId → Type 0) (near far : EndIs) (backs accepts backs' accepts' : ℕ)
    → backs' ≡ backs → accepts' ≡ accepts → Owed Known near far backs accepts
    → Owed Known near far backs' accepts'
owed-counts Known near far backs accepts backs' accepts' a b o = record {
  give = o.give;
  send = o.send;
  out = o.out;
  count = let count = o.count in omega (arith, a, b, count);
}

owed-own : (Known : CallId → Type 0) (across : ℕ) (near far : EndIs) (backs accepts : ℕ)
    (e : BridgeEntry) → OwesOwn Known near e → Owed Known near far backs accepts
    → Owed Known (near_after across near far e) (far_after across near far e)
    (backs + cond (is_back e) 1 0) (accepts + cond (is_accept e) 1 0)
owed-own Known across near far backs accepts (Accept side id route request) owes o =
    owed-accept Known near far backs accepts id route request (code_between across far route) owes
    o
owed-own Known across near far backs accepts (Forward side old id route request) owes o =
    owed-counts Known _ _ backs accepts (backs + 0) (accepts + 0) (omega arith) (omega arith)
    (owed-plain Known near far _ _ backs accepts refl refl refl o)
owed-own Known across near far backs accepts (Finish side id result) owes o =
    owed-counts Known _ _ backs accepts (backs + 0) (accepts + 0) (omega arith) (omega arith)
    (owed-plain Known near far _ _ backs accepts refl refl refl o)
owed-own Known across near far backs accepts (Back side id reply) owes o = record {
  give = each-drop (λ (item : Returned). Known item.id) near.to_give o.give;
  send = o.send;
  out = o.out;
  count =
      let less = first-less near.to_give owes.0 owes.1 in
      let count = o.count in
      omega (arith, less, count);
}
owed-own Known across near far backs accepts (Gone side) owes o =
    owed-counts Known _ _ backs accepts (backs + 0) (accepts + 0) (omega arith) (omega arith)
    (owed-plain Known near far _ _ backs accepts refl refl refl o)

-- what an entry of the other end owes
abbrev OwesOther : EndIs → BridgeEntry → Type 0
OwesOther far (Accept side id route request) = Unit {0}
OwesOther far (Forward side old id route request) =
    (item : Waiting) × (slice_get far.to_send 0 ≡ Some item) × (old ≡ item.id)
OwesOther far (Finish side id result) = Unit {0}
OwesOther far (Back side id reply) = Unit {0}
OwesOther far (Gone side) = Unit {0}

other-accept : (Known : CallId → Type 0) (near far : EndIs) (backs accepts : ℕ) (id : CallId)
    (route request : List ℕ) (code : Option ℕ) → Owed Known near far backs accepts
    → Owed Known
    (far_accepted near (record { id = id; route = route; request = request }) code)
    (near_accepted far (record { id = id; route = route; request = request }) code)
    backs accepts
other-accept Known near far backs accepts id route request None o =
    owed-plain Known near far _ _ backs accepts refl refl refl o
other-accept Known near far backs accepts id route request (Some code) o =
    owed-plain Known near far _ _ backs accepts refl refl refl o

-- a call that came back
given-known : (Known : CallId → Type 0) (path : RelayPath) (result : RelayResult)
    → ((call : OutCall) → path.out ≡ Some call → Known call.old)
    → Each (λ (item : Returned). Known item.id) (returned path.out result)
given-known Known path result known = by path.out refl
  where
    by : (o : Option OutCall) → path.out ≡ o
        → Each (λ (item : Returned). Known item.id) (returned o result)
    by None is = tt
    by (Some call) is = (known call is, tt)

given-long : (path : RelayPath) (result : RelayResult)
    → (◌≡◌) {A = ℕ} (length (returned path.out result)) (cond (is_some path.out) 1 0)
given-long path result = by path.out
  where
    by : (o : Option OutCall)
        → (◌≡◌) {A = ℕ} (length (returned o result)) (cond (is_some o) 1 0)
    by None = refl
    by (Some call) = refl

owed-other : (Known : CallId → Type 0) (across : ℕ) (near far : EndIs) (backs accepts : ℕ)
    (e : BridgeEntry) → OwesOther far e → Owed Known near far backs accepts
    → Owed Known (far_after across far near e) (near_after across far near e) backs accepts
owed-other Known across near far backs accepts (Accept side id route request) owes o =
    other-accept Known near far backs accepts id route request (code_between across near route) o
owed-other Known across near far backs accepts (Forward side old id route request) owes o =
    let v : RelayPath = record { last = id.seq; out = Some (out_call old request) } in
    record {
      give = o.give;
      send = each-drop (λ (item : Waiting). Known item.id) far.to_send o.send;
      out = each-set (λ (path : RelayPath). (call : OutCall) → path.out ≡ Some call
          → Known call.old) far.paths (id.path - 1) v o.out
          (λ call is. subst Known (let same : old ≡ call.old = cc in same)
          (subst Known (sym owes.2)
          (each-first (λ (item : Waiting). Known item.id) far.to_send owes.0 owes.1 o.send)));
      count =
          let less = first-less far.to_send owes.0 owes.1 in
          let more = outs-more far.paths (id.path - 1) v in
          let count = o.count in
          omega (arith, less, more, count);
    }
owed-other Known across near far backs accepts (Finish side id result) owes o =
    let path = relay_path far id.path in
    let v : RelayPath = record path { out = None } in
    let none : (call : OutCall) → unused_path.out ≡ Some call → Known call.old =
    λ call is. absurd (cc) in
    let known = each-get (λ (p : RelayPath). (call : OutCall) → p.out ≡ Some call
    → Known call.old) far.paths (id.path - 1) unused_path o.out none in
    record {
      give = each-joined (λ (item : Returned). Known item.id) near.to_give
          (returned path.out result) o.give (given-known Known path result known);
      send = o.send;
      out = each-set (λ (p : RelayPath). (call : OutCall) → p.out ≡ Some call → Known call.old)
          far.paths (id.path - 1) v o.out (λ call is. absurd (cc));
      count =
          let long = length-append near.to_give (returned path.out result) in
          let here = given-long path result in
          let less = outs-less far.paths (id.path - 1) v refl in
          let count = o.count in
          omega (arith, long, here, less, count);
    }
owed-other Known across near far backs accepts (Back side id reply) owes o =
    owed-plain Known near far _ _ backs accepts refl refl refl o
owed-other Known across near far backs accepts (Gone side) owes o = record {
  give = each-joined (λ (item : Returned). Known item.id) near.to_give (map unsent far.to_send)
      o.give (mapped far.to_send o.send);
  send = tt;
  out = o.out;
  count =
      let long = length-append near.to_give (map unsent far.to_send) in
      let here = length-map far.to_send unsent in
      let count = o.count in
      omega (arith, long, here, count);
}
  where
    mapped : (items : List Waiting) → Each (λ (item : Waiting). Known item.id) items
        → Each (λ (item : Returned). Known item.id) (map unsent items)
    mapped [] all = tt
    mapped (item ∷ items) all = (all.0, mapped items all.1)

-- ---- both ends behind an entry

record OwnPair (plan : BridgePlan) (relay : RelayIs) (n : ℕ) (e : BridgeEntry) : Type 0 where
  pub near : near_end plan (relay_step plan relay e) n
      ≡ near_after (far_side plan n) (near_end plan relay n) (far_end plan relay n) e
  pub far : far_end plan (relay_step plan relay e) n
      ≡ far_after (far_side plan n) (near_end plan relay n) (far_end plan relay n) e

own-pair : (plan : BridgePlan) (relay : RelayIs) (n : ℕ) (e : BridgeEntry) → side_of e ≡ n
    → OwnPair plan relay n e
own-pair plan relay n e made = elim (cases_eq n plan.left) [
  | inl is ↦
      let s = step_left plan relay.left relay.right e (made ∙ is) in
      let b = eq-eqb n plan.left is in
      record {
        near = ap (λ (r : RelayIs). near_end plan r n) s ∙ ap near-by b ∙ sym (ap near-of b);
        far = ap (λ (r : RelayIs). far_end plan r n) s ∙ ap far-by b ∙ sym (ap far-of b);
      }
  | inr apart ↦
      let s = step_right plan relay.left relay.right e (λ m. apart (sym made ∙ m)) in
      let b = ne_eqb n plan.left apart in
      record {
        near = ap (λ (r : RelayIs). near_end plan r n) s ∙ ap near-by' b ∙ sym (ap near-of b);
        far = ap (λ (r : RelayIs). far_end plan r n) s ∙ ap far-by' b ∙ sym (ap far-of b);
      }
]
  where
    left : EndIs
    left = relay.left

    right : EndIs
    right = relay.right

    near-of : Bool → EndIs
    near-of b = near_after (cond b plan.right plan.left) (cond b left right) (cond b right left) e

    far-of : Bool → EndIs
    far-of b = far_after (cond b plan.right plan.left) (cond b left right) (cond b right left) e

    near-by : Bool → EndIs
    near-by b = cond b (near_after plan.right left right e) (far_after plan.right left right e)

    far-by : Bool → EndIs
    far-by b = cond b (far_after plan.right left right e) (near_after plan.right left right e)

    near-by' : Bool → EndIs
    near-by' b = cond b (far_after plan.left right left e) (near_after plan.left right left e)

    far-by' : Bool → EndIs
    far-by' b = cond b (near_after plan.left right left e) (far_after plan.left right left e)

record OtherPair (plan : BridgePlan) (relay : RelayIs) (n : ℕ) (e : BridgeEntry) : Type 0 where
  pub across : ℕ
  pub near : near_end plan (relay_step plan relay e) n
      ≡ far_after across (far_end plan relay n) (near_end plan relay n) e
  pub far : far_end plan (relay_step plan relay e) n
      ≡ near_after across (far_end plan relay n) (near_end plan relay n) e
  pub made : far_end plan relay n ≡ near_end plan relay (side_of e)

other-pair : (plan : BridgePlan) (relay : RelayIs) (n : ℕ) (e : BridgeEntry) → IsEnd plan n
    → IsEnd plan (side_of e) → side_of e ≢ n → OtherPair plan relay n e
other-pair plan relay n e end made other = elim (cases_eq n plan.left) [
  | inl is ↦
      let apart : side_of e ≢ plan.left = λ m. other (m ∙ sym is) in
      let s = step_right plan relay.left relay.right e apart in
      let b = eq-eqb n plan.left is in
      record {
        across = plan.left;
        near = ap (λ (r : RelayIs). near_end plan r n) s ∙ ap near-by' b
            ∙ sym (ap (near-of plan.left) b);
        far = ap (λ (r : RelayIs). far_end plan r n) s ∙ ap far-by' b
            ∙ sym (ap (far-of plan.left) b);
        made = ap (λ (x : Bool). cond x right left) b
            ∙ sym (ap (λ (x : Bool). cond x left right) (ne_eqb (side_of e) plan.left apart));
      }
  | inr apart ↦
      let there : side_of e ≡ plan.left = maker-left apart made in
      let s = step_left plan relay.left relay.right e there in
      let b = ne_eqb n plan.left apart in
      record {
        across = plan.right;
        near = ap (λ (r : RelayIs). near_end plan r n) s ∙ ap near-by b
            ∙ sym (ap (near-of plan.right) b);
        far = ap (λ (r : RelayIs). far_end plan r n) s ∙ ap far-by b
            ∙ sym (ap (far-of plan.right) b);
        made = ap (λ (x : Bool). cond x right left) b
            ∙ sym (ap (λ (x : Bool). cond x left right) (eq-eqb (side_of e) plan.left there));
      }
]
  where
    left : EndIs
    left = relay.left

    right : EndIs
    right = relay.right

    near-of : ℕ → Bool → EndIs
    near-of across b = far_after across (cond b right left) (cond b left right) e

    far-of : ℕ → Bool → EndIs
    far-of across b = near_after across (cond b right left) (cond b left right) e

    near-by : Bool → EndIs
    near-by b = cond b (near_after plan.right left right e) (far_after plan.right left right e)

    far-by : Bool → EndIs
    far-by b = cond b (far_after plan.right left right e) (near_after plan.right left right e)

    near-by' : Bool → EndIs
    near-by' b = cond b (far_after plan.left right left e) (near_after plan.left right left e)

    far-by' : Bool → EndIs
    far-by' b = cond b (near_after plan.left right left e) (far_after plan.left right left e)

    n-right : n ≢ plan.left → IsEnd plan n → n ≡ plan.right
    n-right apart (inl is) = absurd (apart is)
    n-right apart (inr is) = is

    maker-left : n ≢ plan.left → IsEnd plan (side_of e) → side_of e ≡ plan.left
    maker-left apart (inl is) = is
    maker-left apart (inr is) = absurd (other (is ∙ sym (n-right apart end)))

-- ---- along a history

-- what is accepted by the end is known
abbrev IsKnown : ℕ → (CallId → Type 0) → BridgeEntry → Type 0
IsKnown n Known (Accept side id route request) = side ≡ n → Known id
IsKnown n Known _ = Unit {0}

some-first : (side : ℕ) (waits : Option Returned) (e : BridgeEntry)
    → option_map (returned_by side) waits ≡ Some e → (item : Returned) × (waits ≡ Some item)
some-first side None e is = absurd (let bad : None ≡ Some e = is in cc)
some-first side (Some item) e is = (item, refl)

owes-own : (Known : CallId → Type 0) (plan : BridgePlan) (past : List BridgeEntry) (n : ℕ)
    (e : BridgeEntry) → side_of e ≡ n → IsKnown n Known e
    → FitsBridge plan past e
    → OwesOwn Known (end_after plan past n) e
owes-own Known plan past n (Accept side id route request) made known fits = known made
owes-own Known plan past n (Forward side old id route request) made known fits = tt
owes-own Known plan past n (Finish side id result) made known fits = tt
owes-own Known plan past n (Back side id reply) made known fits =
    subst (λ (m : ℕ). (item : Returned) × (slice_get (end_after plan past m).to_give 0 ≡ Some item))
    made
    (some-first side (slice_get (end_after plan past side).to_give 0) (Back side id reply) fits)
owes-own Known plan past n (Gone side) made known fits = tt

owes-other : (plan : BridgePlan) (past : List BridgeEntry) (e : BridgeEntry)
    → FitsBridge plan past e
    → OwesOther (end_after plan past (side_of e)) e
owes-other plan past (Accept side id route request) fits = tt
owes-other plan past (Forward side old id route request) fits =
    let m = forward_made plan past side old id route request fits in
    (m.item, m.first, m.old_is)
owes-other plan past (Finish side id result) fits = tt
owes-other plan past (Back side id reply) fits = tt
owes-other plan past (Gone side) fits = tt

-- how many of its entries are such
abbrev made-count : (BridgeEntry → Bool) → ℕ → List BridgeEntry → ℕ
made-count test n list = count_by test (made_at_end n list)

made-joined : (n : ℕ) (list : List BridgeEntry) (e : BridgeEntry)
    → made_at_end n (list ++ e ∷ []) ≡ made_at_end n list ++ cond (is_by n e) (e ∷ []) []
made-joined n [] e = refl
made-joined n (x ∷ list) e = by (is_by n x) (made-joined n list e)
  where
    by : (b : Bool)
        → made_at_end n (list ++ e ∷ []) ≡ made_at_end n list ++ cond (is_by n e) (e ∷ []) []
        → cond b (x ∷ made_at_end n (list ++ e ∷ [])) (made_at_end n (list ++ e ∷ []))
        ≡ cond b (x ∷ made_at_end n list) (made_at_end n list) ++ cond (is_by n e) (e ∷ []) []
    by true more = ap (λ l. x ∷ l) more
    by false more = more

count-mine : (test : BridgeEntry → Bool) (n : ℕ) (list : List BridgeEntry) (e : BridgeEntry)
    → side_of e ≡ n
    → made-count test n (list ++ e ∷ []) ≡ made-count test n list + cond (test e) 1 0
count-mine test n list e made =
    ap (count_by test) (made-joined n list e
    ∙ ap (λ (b : Bool). made_at_end n list ++ cond b (e ∷ []) []) (eq-eqb (side_of e) n made))
    ∙ count-push test (made_at_end n list) e

count-other : (test : BridgeEntry → Bool) (n : ℕ) (list : List BridgeEntry) (e : BridgeEntry)
    → side_of e ≢ n → made-count test n (list ++ e ∷ []) ≡ made-count test n list
count-other test n list e other =
    ap (count_by test) (made-joined n list e
    ∙ ap (λ (b : Bool). made_at_end n list ++ cond b (e ∷ []) []) (ne_eqb (side_of e) n other)
    ∙ append-nil (made_at_end n list))

abbrev OwedAt : (CallId → Type 0) → BridgePlan → ℕ → List BridgeEntry → Type 0
OwedAt Known plan n list = Owed Known (end_after plan list n)
    (far_end plan (relay_after plan list) n) (made-count is_back n list)
    (made-count is_accept n list)

owed-as : (Known : CallId → Type 0) (near near' far far' : EndIs) (backs accepts : ℕ)
    → near' ≡ near → far' ≡ far → Owed Known near far backs accepts
    → Owed Known near' far' backs accepts
owed-as Known near near' far far' backs accepts a b o =
    subst (λ (x : EndIs). Owed Known x far' backs accepts) (sym a)
    (subst (λ (x : EndIs). Owed Known near x backs accepts) (sym b) o)

owed-next : (Known : CallId → Type 0) (plan : BridgePlan) (n : ℕ) (past : List BridgeEntry)
    (e : BridgeEntry) → IsEnd plan n → IsEnd plan (side_of e) → IsKnown n Known e
    → FitsBridge plan past e
    → OwedAt Known plan n past → OwedAt Known plan n (past ++ e ∷ [])
owed-next Known plan n past e end made known fits o =
    let relay = relay_after plan past in
    let next = after_more plan past e in
    elim (cases_eq (side_of e) n) [
      | inl mine ↦
          let pair = own-pair plan relay n e mine in
          let one = owed-own Known (far_side plan n) (near_end plan relay n)
          (far_end plan relay n) (made-count is_back n past) (made-count is_accept n past) e
          (owes-own Known plan past n e mine known fits) o in
          owed-counts Known _ _ _ _ _ _ (count-mine is_back n past e mine)
          (count-mine is_accept n past e mine)
          (owed-as Known _ _ _ _ _ _ (ap (λ (r : RelayIs). near_end plan r n) next ∙ pair.near)
          (ap (λ (r : RelayIs). far_end plan r n) next ∙ pair.far) one)
      | inr other ↦
          let pair = other-pair plan relay n e end made other in
          let owes : OwesOther (far_end plan relay n) e =
          subst (λ (x : EndIs). OwesOther x e) (sym pair.made) (owes-other plan past e fits) in
          let one = owed-other Known pair.across (near_end plan relay n) (far_end plan relay n)
          (made-count is_back n past) (made-count is_accept n past) e owes o in
          owed-counts Known _ _ _ _ _ _ (count-other is_back n past e other)
          (count-other is_accept n past e other)
          (owed-as Known _ _ _ _ _ _ (ap (λ (r : RelayIs). near_end plan r n) next ∙ pair.near)
          (ap (λ (r : RelayIs). far_end plan r n) next ∙ pair.far) one)
    ]

owed-run : (Known : CallId → Type 0) (plan : BridgePlan) (n : ℕ) (past more : List BridgeEntry)
    → IsEnd plan n → IsBridgeHistory plan (past ++ more) → Each (IsKnown n Known) more
    → OwedAt Known plan n past → OwedAt Known plan n (past ++ more)
owed-run Known plan n past [] end legal known o =
    subst (OwedAt Known plan n) (sym (append-nil past)) o
owed-run Known plan n past (e ∷ more) end legal known o =
    let join = append_assoc past (e ∷ []) more in
    let here = legal past more e refl in
    subst (OwedAt Known plan n) join
    (owed-run Known plan n (past ++ e ∷ []) more end
    (subst (IsBridgeHistory plan) (sym join) legal) known.1
    (owed-next Known plan n past e end here.side.end known.0 here.fits o))

-- ---- what an end accepted is known from its items

abbrev Accepted : ℕ → List BridgeEntry → CallId → Type 0
Accepted n list id = 1 ≤ answers_named id (side_items n list).answers

grows-next : (a : Items) (e : BridgeEntry) (id : CallId) → 1 ≤ answers_named id a.answers
    → 1 ≤ answers_named id (side_item_next a e).answers
grows-next a (Accept side x route request) id some =
    let answer : Answered =
    record { id = x; rest = route; request = Some request; reply = None } in
    let more = count-push (λ (y : Answered). is_same_call y.id id) a.answers answer in
    omega (arith, some, more)
grows-next a (Forward side old x route request) id some = some
grows-next a (Finish side x result) id some = some
grows-next a (Back side x reply) id some = some
grows-next a (Gone side) id some = some

grows-after : (a : Items) (es : List BridgeEntry) (id : CallId) → 1 ≤ answers_named id a.answers
    → 1 ≤ answers_named id (side_items_after a es).answers
grows-after a [] id some = some
grows-after a (e ∷ es) id some =
    grows-after (side_item_next a e) es id (grows-next a e id some)

accepted-next : (a : Items) (e : BridgeEntry) (n : ℕ) (es : List BridgeEntry)
    → IsKnown n (λ id. 1 ≤ answers_named id (side_items_after (side_item_next a e) es).answers) e
accepted-next a (Accept side x route request) n es = λ _.
    grows-after (side_item_next a (Accept side x route request)) es x
    (let answer : Answered =
    record { id = x; rest = route; request = Some request; reply = None } in
    let more = count-push (λ (y : Answered). is_same_call y.id x) a.answers answer in
    let one = one-if (is_same_call x x) (same-refl x) in
    omega (arith, more, one))
accepted-next a (Forward side old x route request) n es = tt
accepted-next a (Finish side x result) n es = tt
accepted-next a (Back side x reply) n es = tt
accepted-next a (Gone side) n es = tt

not-known : (n : ℕ) (Known : CallId → Type 0) (e : BridgeEntry) → side_of e ≢ n → IsKnown n Known e
not-known n Known (Accept side x route request) other = λ is. absurd (other is)
not-known n Known (Forward side old x route request) other = tt
not-known n Known (Finish side x result) other = tt
not-known n Known (Back side x reply) other = tt
not-known n Known (Gone side) other = tt

all-known : (a : Items) (n : ℕ) (es : List BridgeEntry)
    → Each (IsKnown n
    (λ id. 1 ≤ answers_named id (side_items_after a (made_at_end n es)).answers)) es
all-known a n [] = tt
all-known a n (e ∷ es) = elim (cases_eq (side_of e) n) [
  | inl mine ↦
      let here : made_at_end n (e ∷ es) ≡ e ∷ made_at_end n es =
      ap (λ (b : Bool). cond b (e ∷ made_at_end n es) (made_at_end n es))
      (eq-eqb (side_of e) n mine) in
      subst (λ (l : List BridgeEntry).
      Each (IsKnown n (λ id. 1 ≤ answers_named id (side_items_after a l).answers)) (e ∷ es))
      (sym here) (accepted-next a e n (made_at_end n es), all-known (side_item_next a e) n es)
  | inr other ↦
      let here : made_at_end n (e ∷ es) ≡ made_at_end n es =
      ap (λ (b : Bool). cond b (e ∷ made_at_end n es) (made_at_end n es))
      (ne_eqb (side_of e) n other) in
      subst (λ (l : List BridgeEntry).
      Each (IsKnown n (λ id. 1 ≤ answers_named id (side_items_after a l).answers)) (e ∷ es))
      (sym here) (not-known n _ e other, all-known a n es)
]

owed-all : (plan : BridgePlan) (n : ℕ) (list : List BridgeEntry) → IsEnd plan n
    → IsBridgeHistory plan list → OwedAt (Accepted n list) plan n list
owed-all plan n list end legal =
    owed-run (Accepted n list) plan n [] list end legal (all-known no_items n list)
    (first (n == plan.left))
  where
    none : (call : OutCall) → unused_path.out ≡ Some call → Accepted n list call.old
    none call is = absurd (cc)

    first : (b : Bool) → Owed (Accepted n list) (cond b new_relay.left new_relay.right)
        (cond b new_relay.right new_relay.left) 0 0
    first true = record {
      give = tt;
      send = tt;
      out = (none, (none, (none, (none, tt))));
      count = omega arith;
    }
    first false = record {
      give = tt;
      send = tt;
      out = (none, (none, (none, (none, tt))));
      count = omega arith;
    }

-- ---- what follows

-- a reply that is due to be given back is to what the end accepted
pub due-accepted : (plan : BridgePlan) (n : ℕ) (list : List BridgeEntry) (id : CallId)
    (reply : List ℕ) → IsEnd plan n → IsBridgeHistory plan list
    → due_back plan list n ≡ Some (Back n id reply)
    → 1 ≤ answers_named id (side_items n list).answers
due-accepted plan n list id reply end legal due =
    let o = owed-all plan n list end legal in
    by (slice_get (end_after plan list n).to_give 0) refl due o.give
  where
    by : (waits : Option Returned) → slice_get (end_after plan list n).to_give 0 ≡ waits
        → option_map (returned_by n) waits ≡ Some (Back n id reply)
        → Each (λ (item : Returned). Accepted n list item.id) (end_after plan list n).to_give
        → Accepted n list id
    by None first is all = absurd (let bad : None ≡ Some (Back n id reply) = is in cc)
    by (Some item) first is all =
        let same : item.id ≡ id = cc in
        subst (Accepted n list) same
        (each-first (λ (i : Returned). Accepted n list i.id) (end_after plan list n).to_give item
        first all)

-- and was not given back so often
pub backs-few : (plan : BridgePlan) (n : ℕ) (list : List BridgeEntry) → IsEnd plan n
    → IsBridgeHistory plan list
    → count_by is_back (made_at_end n list) ≤ count_by is_accept (made_at_end n list)
backs-few plan n list end legal =
    let o = owed-all plan n list end legal in
    let count = o.count in
    omega (arith, count)

-- each that was given back was accepted
items-later : (n : ℕ) (xs ys : List BridgeEntry) (id : CallId) → Accepted n xs id
    → Accepted n (xs ++ ys) id
items-later n xs ys id some =
    subst (λ (l : List BridgeEntry). 1 ≤ answers_named id (side_items_after no_items l).answers)
    (sym (filter-append (is_by n) xs ys))
    (subst (λ (a : Items). 1 ≤ answers_named id a.answers)
    (sym (items-joined no_items (made_at_end n xs) (made_at_end n ys)))
    (grows-after (side_items n xs) (made_at_end n ys) id some))

back-accepted : (plan : BridgePlan) (n : ℕ) (past more : List BridgeEntry) (e : BridgeEntry)
    → IsEnd plan n → IsBridgeHistory plan (past ++ e ∷ more) → side_of e ≡ n
    → Each (λ (item : Item). Accepted n (past ++ e ∷ more) item.0) (cons_option (back_of e) [])
back-accepted plan n past more (Accept side x route request) end legal made = tt
back-accepted plan n past more (Forward side old x route request) end legal made = tt
back-accepted plan n past more (Finish side x result) end legal made = tt
back-accepted plan n past more (Back side x reply) end legal made =
    let here = legal past more (Back side x reply) refl in
    let due = subst (λ (m : ℕ). due_back plan past m ≡ Some (Back m x reply)) made here.fits in
    let front = legal-front plan past (Back side x reply ∷ more) legal in
    let known = due-accepted plan n past x reply end front due in
    (items-later n past (Back side x reply ∷ more) x known, tt)
back-accepted plan n past more (Gone side) end legal made = tt

backs-run : (plan : BridgePlan) (n : ℕ) (past more : List BridgeEntry) → IsEnd plan n
    → IsBridgeHistory plan (past ++ more)
    → Each (λ (item : Item). Accepted n (past ++ more) item.0)
    (filter_map back_of (made_at_end n more))
backs-run plan n past [] end legal = tt
backs-run plan n past (e ∷ more) end legal =
    let join = append_assoc past (e ∷ []) more in
    let rest = subst (λ (l : List BridgeEntry). Each (λ (item : Item). Accepted n l item.0)
    (filter_map back_of (made_at_end n more))) join
    (backs-run plan n (past ++ e ∷ []) more end (subst (IsBridgeHistory plan) (sym join) legal)) in
    elim (cases_eq (side_of e) n) [
      | inl mine ↦
          let here : made_at_end n (e ∷ more) ≡ e ∷ made_at_end n more =
          ap (λ (b : Bool). cond b (e ∷ made_at_end n more) (made_at_end n more))
          (eq-eqb (side_of e) n mine) in
          subst (λ (l : List BridgeEntry). Each
          (λ (item : Item). Accepted n (past ++ e ∷ more) item.0) (filter_map back_of l)) (sym here)
          (cons-each (back_of e) (back-accepted plan n past more e end legal mine) rest)
      | inr other ↦
          let here : made_at_end n (e ∷ more) ≡ made_at_end n more =
          ap (λ (b : Bool). cond b (e ∷ made_at_end n more) (made_at_end n more))
          (ne_eqb (side_of e) n other) in
          subst (λ (l : List BridgeEntry). Each
          (λ (item : Item). Accepted n (past ++ e ∷ more) item.0) (filter_map back_of l)) (sym here)
          rest
    ]
  where
    cons-each : (o : Option Item)
        → Each (λ (item : Item). Accepted n (past ++ e ∷ more) item.0) (cons_option o [])
        → Each (λ (item : Item). Accepted n (past ++ e ∷ more) item.0)
        (filter_map back_of (made_at_end n more))
        → Each (λ (item : Item). Accepted n (past ++ e ∷ more) item.0)
        (cons_option o (filter_map back_of (made_at_end n more)))
    cons-each None one rest = rest
    cons-each (Some item) one rest = (one.0, rest)

pub backs-accepted : (plan : BridgePlan) (n : ℕ) (list : List BridgeEntry) → IsEnd plan n
    → IsBridgeHistory plan list → AreAccepted (side_items n list) (backs_of n list)
backs-accepted plan n list end legal = backs-run plan n [] list end legal
