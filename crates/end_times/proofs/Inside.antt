-- A legal list of a bridge keeps its own order.
use Rattle.std.proofs.Common.{◌≡◌, ◌≢◌, ℕ, zero, suc, ◌+◌, ◌-◌, ◌≤◌, Bool, true, false, cond}
use Rattle.std.proofs.Common.{List, [], ◌∷◌, ◌++◌, Option, Some, None, length, map, drop, set}
use Rattle.std.proofs.Common.{get_or, is_some, option_map, refl, sym, ap, ◌∙◌, subst, inl, inr}
use Rattle.std.proofs.Common.{arith, append_assoc, append-nil, length-append}
use Rattle.std.proofs.lemmas.List.{length-map}
use Rattle.std.proofs.lemmas.List.Elements.{filter-append}
use Rattle.std.proofs.lemmas.Bool.{and_parts, cases_eq, eq-eqb, ne_eqb}
use Rattle.std.specs.List.{slice_get}
use Rattle.plant_types.specs.declared.net.BridgePlan.{BridgePlan}
use Rattle.plant_types.specs.Plans.{IsBridgePlan}
use Rattle.bridge_relay.specs.declared.entry.BridgeEntry.{BridgeEntry}
use Rattle.bridge_relay.specs.declared.entry.BridgeEntry.TheVariants.{Accept, Forward, Finish}
use Rattle.bridge_relay.specs.declared.entry.BridgeEntry.TheVariants.{Back, Gone}
use Rattle.bridge_relay.specs.declared.entry.RelayResult.{RelayResult}
use Rattle.bridge_relay.specs.Machine.{EndIs, OutCall, RelayIs, RelayPath, Returned, Waiting}
use Rattle.bridge_relay.specs.Machine.{exception_to, far_side, near_end, new_end}
use Rattle.bridge_relay.specs.Machine.{relay_after, relay_path, returned, side_of, unsent}
use Rattle.bridge_relay.specs.Machine.{out_call, unused_path}
use Rattle.bridge_relay.specs.Kept.{code_between, far_accepted, far_after, near_accepted}
use Rattle.bridge_relay.specs.Kept.{near_after, returned_by}
use Rattle.bridge_relay.specs.Laws.{is_by}
use Rattle.bridge_relay.specs.Legal.{IsBridgeHistory, IsBridgeStep}
use Rattle.bridge_relay.proofs.Legal.{forward_made}
use Rattle.bridge_relay.proofs.Steps.{after_more, step_left, step_right}
use Rattle.bridge_port.specs.CommPort.{made_at_end}
use Rattle.one_order.specs.Merges.{tally}
use Rattle.one_order.proofs.Merges.{tally-append}
use Rattle.end_times.specs.EndCauses.{EndNoted, no_end_notes, end_note}
use Rattle.end_times.specs.Inside.{noted_at_end, IsOrderedInside, BridgesKeepOrder}

-- ---- lists

first-less : {X : Type 0} (xs : List X) → 1 ≤ length xs → length (drop 1 xs) + 1 ≡ length xs
first-less [] some = absurd (omega (arith, some))
first-less (y ∷ xs) some = omega arith

some-there : {X : Type 0} (xs : List X) (x : X) → slice_get xs 0 ≡ Some x → 1 ≤ length xs
some-there [] x is = absurd (cc)
some-there (y ∷ xs) x is = omega arith

-- ---- how many calls are out

abbrev outs : List RelayPath → ℕ
outs [] = 0
outs (path ∷ paths) = cond (is_some path.out) 1 0 + outs paths

at-most : (b : Bool) → cond {A = ℕ} b 1 0 ≤ 1
at-most true = omega arith
at-most false = omega arith

outs-more : (paths : List RelayPath) (i : ℕ) (v : RelayPath) → outs (set paths i v) ≤ outs paths + 1
outs-more [] i v = omega arith
outs-more (x ∷ paths) zero v = let low = at-most (is_some v.out) in omega (arith, low)
outs-more (x ∷ paths) (suc i) v = let more = outs-more paths i v in omega (arith, more)

outs-less : (paths : List RelayPath) (i : ℕ) (v : RelayPath) → is_some v.out ≡ false
    → is_some (get_or paths i unused_path).out ≡ true → outs (set paths i v) + 1 ≤ outs paths
outs-less [] i v none some = absurd (cc)
outs-less (x ∷ paths) zero v none some =
    let one : cond {A = ℕ} (is_some v.out) 1 0 ≡ 0 = ap (λ (b : Bool). cond b 1 0) none in
    let two : cond {A = ℕ} (is_some x.out) 1 0 ≡ 1 = ap (λ (b : Bool). cond b 1 0) some in
    omega (arith, one, two)
outs-less (x ∷ paths) (suc i) v none some =
    let more = outs-less paths i v none some in omega (arith, more)

-- ---- both ends and what was noted there

-- what is still to be sent across, to be given back here, and out here
record Balance (near far : EndIs) (a b : EndNoted) : Type 0 where
  sends : length far.to_send + b.sent_on ≤ a.accepted
  ends : a.ended + outs near.paths ≤ a.sent_on
  gives : (length far.to_send + b.sent_on) + (length near.to_give + a.given_back)
      ≤ a.accepted + b.ended

-- what an entry says of the end that makes it
abbrev HasCause : EndIs → BridgeEntry → Type 0
HasCause near (Forward side old id route request) = 1 ≤ length near.to_send
HasCause near (Back side id reply) = 1 ≤ length near.to_give
HasCause near (Finish side id result) = is_some (relay_path near id.path).out ≡ true
HasCause near _ = Unit {0}

own-accept : (near far : EndIs) (a b : EndNoted) (item : Waiting) (code : Option ℕ)
    → Balance near far a b
    → Balance (near_accepted near item code) (far_accepted far item code)
    (record a { accepted = a.accepted + 1 }) b
own-accept near far a b item None k =
    let long = length-append far.to_send (item ∷ []) in
    let sends = k.sends in
    let gives = k.gives in
    record {
      sends = omega (arith, long, sends);
      ends = k.ends;
      gives = omega (arith, long, gives);
    }
own-accept near far a b item (Some code) k =
    let refused : Returned = record { id = item.id; reply = exception_to item.request code } in
    let long = length-append near.to_give (refused ∷ []) in
    let sends = k.sends in
    let gives = k.gives in
    record {
      sends = omega (arith, sends);
      ends = k.ends;
      gives = omega (arith, long, gives);
    }

-- an entry of the end itself
own-entry : (across : ℕ) (near far : EndIs) (a b : EndNoted) (e : BridgeEntry) → HasCause near e
    → Balance near far a b
    → Balance (near_after across near far e) (far_after across near far e) (end_note a e) b
own-entry across near far a b (Accept side id route request) has k =
    own-accept near far a b (record { id = id; route = route; request = request })
    (code_between across far route) k
own-entry across near far a b (Forward side old id route request) has k =
    let v : RelayPath =
    record { last = id.seq; out = Some (out_call old request) } in
    record {
      sends = k.sends;
      ends =
          let more = outs-more near.paths (id.path - 1) v in
          let ends = k.ends in
          omega (arith, more, ends);
      gives = k.gives;
    }
own-entry across near far a b (Finish side id result) has k =
    let v : RelayPath = record (relay_path near id.path) { out = None } in
    record {
      sends = k.sends;
      ends =
          let less = outs-less near.paths (id.path - 1) v refl has in
          let ends = k.ends in
          omega (arith, less, ends);
      gives = k.gives;
    }
own-entry across near far a b (Back side id reply) has k = record {
  sends = k.sends;
  ends = k.ends;
  gives =
      let less = first-less near.to_give has in
      let gives = k.gives in
      omega (arith, less, gives);
}
own-entry across near far a b (Gone side) has k =
    record { sends = k.sends; ends = k.ends; gives = k.gives }

-- a call that came back gives one reply back at most
given-short : (out : Option OutCall) (result : RelayResult) → length (returned out result) ≤ 1
given-short None result = omega arith
given-short (Some call) result = omega arith

other-accept : (near far : EndIs) (a b : EndNoted) (item : Waiting) (code : Option ℕ)
    → Balance far near b a
    → Balance (far_accepted far item code) (near_accepted near item code) b
    (record a { accepted = a.accepted + 1 })
other-accept near far a b item None k =
    record { sends = k.sends; ends = k.ends; gives = k.gives }
other-accept near far a b item (Some code) k =
    record { sends = k.sends; ends = k.ends; gives = k.gives }

-- an entry of the end across
other-entry : (across : ℕ) (near far : EndIs) (a b : EndNoted) (e : BridgeEntry)
    → HasCause near e → Balance far near b a
    → Balance (far_after across near far e) (near_after across near far e) b (end_note a e)
other-entry across near far a b (Accept side id route request) has k =
    other-accept near far a b (record { id = id; route = route; request = request })
    (code_between across far route) k
other-entry across near far a b (Forward side old id route request) has k =
    let less = first-less near.to_send has in
    let sends = k.sends in
    let gives = k.gives in
    record {
      sends = omega (arith, less, sends);
      ends = k.ends;
      gives = omega (arith, less, gives);
    }
other-entry across near far a b (Finish side id result) has k =
    let given = returned (relay_path near id.path).out result in
    let long = length-append far.to_give given in
    let short = given-short (relay_path near id.path).out result in
    let gives = k.gives in
    record { sends = k.sends; ends = k.ends; gives = omega (arith, long, short, gives) }
other-entry across near far a b (Back side id reply) has k =
    record { sends = k.sends; ends = k.ends; gives = k.gives }
other-entry across near far a b (Gone side) has k =
    let long = length-append far.to_give (map unsent near.to_send) in
    let same = length-map near.to_send unsent in
    let sends = k.sends in
    let gives = k.gives in
    record {
      sends = omega (arith, sends);
      ends = k.ends;
      gives = omega (arith, long, same, gives);
    }

-- ---- along a list

made-push : (n : ℕ) (past : List BridgeEntry) (e : BridgeEntry) (b : Bool) → is_by n e ≡ b
    → noted_at_end n (past ++ e ∷ []) ≡ tally end_note (noted_at_end n past) (cond b (e ∷ []) [])
made-push n past e b is =
    ap (tally end_note no_end_notes) (filter-append (is_by n) past (e ∷ [])
    ∙ ap (λ (mine : Bool). made_at_end n past ++ cond mine (e ∷ []) []) is)
    ∙ tally-append end_note no_end_notes (made_at_end n past) (cond b (e ∷ []) [])

noted-mine : (n : ℕ) (past : List BridgeEntry) (e : BridgeEntry) → side_of e ≡ n
    → noted_at_end n (past ++ e ∷ []) ≡ end_note (noted_at_end n past) e
noted-mine n past e is = made-push n past e true (eq-eqb (side_of e) n is)

noted-other : (n : ℕ) (past : List BridgeEntry) (e : BridgeEntry) → side_of e ≢ n
    → noted_at_end n (past ++ e ∷ []) ≡ noted_at_end n past
noted-other n past e other = made-push n past e false (ne_eqb (side_of e) n other)

-- a step has what it says
step-has : (plan : BridgePlan) (past : List BridgeEntry) (e : BridgeEntry)
    → IsBridgeStep plan past e → HasCause (near_end plan (relay_after plan past) (side_of e)) e
step-has plan past (Accept side id route request) step = tt
step-has plan past (Forward side old id route request) step =
    let made = forward_made plan past side old id route request step.fits in
    some-there (near_end plan (relay_after plan past) side).to_send made.item made.first
step-has plan past (Finish side id result) step =
    (and_parts _ _ (and_parts _ _ step.fits).1).0
step-has plan past (Back side id reply) step =
    by (near_end plan (relay_after plan past) side).to_give step.fits
  where
    by : (items : List Returned)
        → option_map (returned_by side) (slice_get items 0) ≡ Some (Back side id reply)
        → 1 ≤ length items
    by [] is = absurd (cc)
    by (item ∷ items) is = omega arith
step-has plan past (Gone side) step = tt

-- both ends of a bridge
record Balances (relay : RelayIs) (left right : EndNoted) : Type 0 where
  at_left : Balance relay.left relay.right left right
  at_right : Balance relay.right relay.left right left

balances-as : (relay relay' : RelayIs) (l l' r r' : EndNoted) → relay' ≡ relay → l' ≡ l → r' ≡ r
    → Balances relay l r → Balances relay' l' r'
balances-as relay relay' l l' r r' p q s k =
    subst (λ (x : RelayIs). Balances x l' r') (sym p)
    (subst (λ (x : EndNoted). Balances relay x r') (sym q)
    (subst (Balances relay l) (sym s) k))

abbrev BalancesAfter : BridgePlan → List BridgeEntry → Type 0
BalancesAfter plan past =
    Balances (relay_after plan past) (noted_at_end plan.left past) (noted_at_end plan.right past)

next-balances : (plan : BridgePlan) (past : List BridgeEntry) (e : BridgeEntry)
    → IsBridgePlan plan → IsBridgeStep plan past e → BalancesAfter plan past
    → BalancesAfter plan (past ++ e ∷ [])
next-balances plan past e sound step k =
    let relay = relay_after plan past in
    let left = relay.left in
    let right = relay.right in
    let l = noted_at_end plan.left past in
    let r = noted_at_end plan.right past in
    let has = step-has plan past e step in
    elim (cases_eq (side_of e) plan.left) [
      | inl is ↦
          let here = subst (λ (x : EndIs). HasCause x e)
          (ap (λ (b : Bool). cond b left right) (eq-eqb (side_of e) plan.left is)) has in
          balances-as _ _ (end_note l e) _ r _
          (after_more plan past e ∙ step_left plan left right e is)
          (noted-mine plan.left past e is)
          (noted-other plan.right past e (λ m. sound.two_ends (sym is ∙ m)))
          (record {
            at_left = own-entry plan.right left right l r e here k.at_left;
            at_right = other-entry plan.right left right l r e here k.at_right;
          })
      | inr other ↦
          let mine : side_of e ≡ plan.right =
          elim step.side.end [ inl m ↦ absurd (other m) | inr m ↦ m ] in
          let here = subst (λ (x : EndIs). HasCause x e)
          (ap (λ (b : Bool). cond b left right) (ne_eqb (side_of e) plan.left other)) has in
          balances-as _ _ l _ (end_note r e) _
          (after_more plan past e ∙ step_right plan left right e other)
          (noted-other plan.left past e other)
          (noted-mine plan.right past e mine)
          (record {
            at_left = other-entry plan.left right left r l e here k.at_left;
            at_right = own-entry plan.left right left r l e here k.at_right;
          })
    ]

all-balance : (plan : BridgePlan) (past more rest : List BridgeEntry) → IsBridgePlan plan
    → IsBridgeHistory plan (past ++ (more ++ rest)) → BalancesAfter plan past
    → BalancesAfter plan (past ++ more)
all-balance plan past [] rest sound legal k =
    subst (BalancesAfter plan) (sym (append-nil past)) k
all-balance plan past (e ∷ more) rest sound legal k =
    subst (BalancesAfter plan) (append_assoc past (e ∷ []) more)
    (all-balance plan (past ++ e ∷ []) more rest sound
    (subst (IsBridgeHistory plan) (sym (append_assoc past (e ∷ []) (more ++ rest))) legal)
    (next-balances plan past e sound (legal past (more ++ rest) e refl) k))

first-balance : Balance new_end new_end no_end_notes no_end_notes
first-balance = record { sends = omega arith; ends = omega arith; gives = omega arith }

in-order : (near far : EndIs) (a b : EndNoted) → Balance near far a b → IsOrderedInside a b
in-order near far a b k =
    let sends = k.sends in
    let ends = k.ends in
    let gives = k.gives in
    record {
      sends = omega (arith, sends);
      ends = omega (arith, ends);
      gives = omega (arith, gives);
    }

pub keeps-order : BridgesKeepOrder
keeps-order plan list before after side sound legal end is =
    let k = all-balance plan [] before after sound (subst (IsBridgeHistory plan) is legal)
    (record { at_left = first-balance; at_right = first-balance }) in
    let l = noted_at_end plan.left before in
    let r = noted_at_end plan.right before in
    let relay = relay_after plan before in
    elim (cases_eq side plan.left) [
      | inl at ↦
          let across : far_side plan side ≡ plan.right =
          ap (λ (b : Bool). cond b plan.right plan.left) (eq-eqb side plan.left at) in
          subst (λ (n : ℕ). IsOrderedInside (noted_at_end n before)
          (noted_at_end (far_side plan side) before)) (sym at)
          (subst (λ (n : ℕ). IsOrderedInside l (noted_at_end n before)) (sym across)
          (in-order relay.left relay.right l r k.at_left))
      | inr other ↦
          let at : side ≡ plan.right = elim end [ inl m ↦ absurd (other m) | inr m ↦ m ] in
          let across : far_side plan side ≡ plan.left =
          ap (λ (b : Bool). cond b plan.right plan.left) (ne_eqb side plan.left other) in
          subst (λ (n : ℕ). IsOrderedInside (noted_at_end n before)
          (noted_at_end (far_side plan side) before)) (sym at)
          (subst (λ (n : ℕ). IsOrderedInside r (noted_at_end n before)) (sym across)
          (in-order relay.right relay.left r l k.at_right))
    ]
