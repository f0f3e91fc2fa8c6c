-- The ends of bridges accept what their nodes took.
use Rattle.std.proofs.Common.{◌≡◌, ℕ, ◌+◌, ◌≤◌, true, cond, List, [], ◌∷◌, Some, None, ap, ◌∙◌}
use Rattle.std.proofs.Common.{subst, inl, inr, ◌⊎◌, arith, false, Bool}
use Rattle.std.specs.Prelude.{flat_map, filter}
use Rattle.std.specs.List.{All, AllZip, count_by, sum_by, AllByRecursion as Each}
use Rattle.std.proofs.lemmas.Bool.{eq-eqb, false≢true}
use Rattle.std.proofs.lemmas.List.Elements.{All-head, All-tail}
use Rattle.std.proofs.lemmas.List.Sums.{sum_by-append, sum_by-cons}
use Rattle.plant_types.specs.declared.net.BridgePlan.{BridgePlan}
use Rattle.mstr_block.specs.declared.call.CallId.{CallId}
use Rattle.ring_core.specs.declared.entry.RingEntry.{RingEntry}
use Rattle.ring_laws.specs.Once.{takes}
use Rattle.ring_laws.proofs.Lists.{count-cons, count-push}
use Rattle.bridge_relay.specs.declared.entry.BridgeEntry.{BridgeEntry}
use Rattle.bridge_relay.specs.declared.entry.BridgeEntry.TheVariants.{Accept, Forward, Finish}
use Rattle.bridge_relay.specs.declared.entry.BridgeEntry.TheVariants.{Back, Gone}
use Rattle.bridge_relay.specs.Laws.{is_by}
use Rattle.bridge_relay.specs.Machine.{side_of}
use Rattle.bridge_relay.specs.Legal.{IsEnd, IsBridgeHistory}
use Rattle.bridge_relay.proofs.Parts.{all_steps}
use Rattle.tied_lists.specs.Own.{own}
use Rattle.tied_lists.specs.Items.{Items, no_items, port_answers}
use Rattle.joint_history.specs.declared.joint.BridgeLog.{BridgeLog}
use Rattle.joint_history.specs.JointLaws.{IsLegalBridgeLog, IsTiedBridge, IsTiedSide}
use Rattle.joint_history.specs.Bridges.{made_at_end, side_item_next, side_items, side_items_after}
use Rattle.effect_laws.specs.Served.{serves_another}
use Rattle.effect_laws.proofs.Served.{by_items, for_others, is_answer, is_item, of_ring}
use Rattle.route_laws.specs.Effects.{accepts_call}

-- ---- what an end accepted

accepted-item : (id : CallId) (a : Items) (entry : BridgeEntry)
    → count_by (is_answer id) (side_item_next a entry).answers
    ≡ count_by (is_answer id) a.answers + cond (accepts_call id entry) 1 0
accepted-item id a (Accept side name route request) =
    count-push (is_answer id) a.answers
    (record { id = name; rest = route; request = Some request; reply = None })
accepted-item id a (Forward side old name route request) = omega arith
accepted-item id a (Finish side name result) = omega arith
accepted-item id a (Back side name reply) = omega arith
accepted-item id a (Gone side) = omega arith

accepted-items : (id : CallId) (a : Items) (entries : List BridgeEntry)
    → count_by (is_answer id) (side_items_after a entries).answers
    ≡ count_by (is_answer id) a.answers + count_by (accepts_call id) entries
accepted-items id a [] = omega arith
accepted-items id a (entry ∷ entries) =
    let rest = accepted-items id (side_item_next a entry) entries in
    let here = accepted-item id a entry in
    let step = count-cons (accepts_call id) entry entries in
    omega arith

-- an end accepted, and its port answered, as often as its node took the Request
end-takes : (id : CallId) (ring : List RingEntry) (log : BridgeLog) (side : ℕ)
    → IsTiedSide ring log side
    → count_by (accepts_call id) (made_at_end side log.entries)
    + count_by (serves_another id) (own side ring)
    ≡ count_by (takes id) (own side ring)
end-takes id ring log side tied =
    let b = own side ring in
    let a = side_items side log.entries in
    let got = accepted-items id no_items (made_at_end side log.entries) in
    let peers = by_items id a.answers ∙ ap (count_by (is_item id)) tied.peers in
    let port = for_others id b ∙ by_items id (port_answers b)
    ∙ ap (count_by (is_item id)) tied.port in
    let all = of_ring id b in
    omega arith

-- ---- a bridge

by-end : (plan : BridgePlan) (entry : BridgeEntry) → IsEnd plan (side_of entry)
    → (is_by plan.left entry ≡ true) ⊎ (is_by plan.right entry ≡ true)
by-end plan entry (inl is) = inl (eq-eqb (side_of entry) plan.left is)
by-end plan entry (inr is) = inr (eq-eqb (side_of entry) plan.right is)

-- counts of what two tests let through
split-by : {X : Type 0} (p f g : X → Bool) (xs : List X)
    → Each (λ x. (f x ≡ true) ⊎ (g x ≡ true)) xs
    → count_by p xs ≤ count_by p (filter f xs) + count_by p (filter g xs)
split-by p f g [] all = omega arith
split-by p f g (x ∷ xs) all =
    at (f x) (g x) all.0 (split-by p f g xs all.1)
  where
    at : (a b : Bool) → (a ≡ true) ⊎ (b ≡ true)
        → count_by p xs ≤ count_by p (filter f xs) + count_by p (filter g xs)
        → count_by p (x ∷ xs)
        ≤ count_by p (cond a (x ∷ filter f xs) (filter f xs))
        + count_by p (cond b (x ∷ filter g xs) (filter g xs))
    at true true is rest =
        let all = count-cons p x xs in
        let one = count-cons p x (filter f xs) in
        let two = count-cons p x (filter g xs) in
        omega arith
    at true false is rest =
        let all = count-cons p x xs in
        let one = count-cons p x (filter f xs) in
        omega arith
    at false true is rest =
        let all = count-cons p x xs in
        let two = count-cons p x (filter g xs) in
        omega arith
    at false false (inl is) rest = absurd (false≢true is)
    at false false (inr is) rest = absurd (false≢true is)

-- a bridge's entries are those of its two ends
of-ends : (plan : BridgePlan) (id : CallId) (history : List BridgeEntry)
    → IsBridgeHistory plan history
    → count_by (accepts_call id) history
    ≤ count_by (accepts_call id) (made_at_end plan.left history)
    + count_by (accepts_call id) (made_at_end plan.right history)
of-ends plan id history legal =
    split-by (accepts_call id) (is_by plan.left) (is_by plan.right) history
    (all_steps plan (λ e. (is_by plan.left e ≡ true) ⊎ (is_by plan.right e ≡ true))
    (λ past entry step. by-end plan entry step.side.end) [] history legal)

-- the nodes of a bridge
abbrev two_nodes : BridgePlan → List ℕ
two_nodes bridge = bridge.left ∷ bridge.right ∷ []

bridge-takes : (id : CallId) (ring : List RingEntry) (plan : BridgePlan) (log : BridgeLog)
    → IsLegalBridgeLog plan log → IsTiedBridge ring log
    → count_by (accepts_call id) log.entries
    + sum_by (λ n. count_by (serves_another id) (own n ring)) (two_nodes plan)
    ≤ sum_by (λ n. count_by (takes id) (own n ring)) (two_nodes plan)
bridge-takes id ring plan log legal tied =
    let q = λ (n : ℕ). count_by (serves_another id) (own n ring) in
    let p = λ (n : ℕ). count_by (takes id) (own n ring) in
    let ends = of-ends plan id log.entries legal.2 in
    let left = end-takes id ring log plan.left
    (subst (IsTiedSide ring log) legal.0 tied.left) in
    let right = end-takes id ring log plan.right
    (subst (IsTiedSide ring log) legal.1 tied.right) in
    let all_q = sum_by-cons q plan.left (plan.right ∷ []) in
    let all_p = sum_by-cons p plan.left (plan.right ∷ []) in
    omega arith

-- all bridges accepted, and the ports of their ends answered, no more often than their nodes took
-- the Request
pub bridges-take : (id : CallId) (ring : List RingEntry) (plans : List BridgePlan)
    (logs : List BridgeLog)
    → AllZip IsLegalBridgeLog plans logs → All (IsTiedBridge ring) logs
    → sum_by (λ (log : BridgeLog). count_by (accepts_call id) log.entries) logs
    + sum_by (λ n. count_by (serves_another id) (own n ring))
    (flat_map (λ (b : BridgePlan). b.left ∷ b.right ∷ []) plans)
    ≤ sum_by (λ n. count_by (takes id) (own n ring))
    (flat_map (λ (b : BridgePlan). b.left ∷ b.right ∷ []) plans)
bridges-take id ring [] [] zip all = omega arith
bridges-take id ring [] (log ∷ logs) zip all = absurd zip
bridges-take id ring (plan ∷ plans) [] zip all = absurd zip
bridges-take id ring (plan ∷ plans) (log ∷ logs) zip all =
    let q = λ (n : ℕ). count_by (serves_another id) (own n ring) in
    let p = λ (n : ℕ). count_by (takes id) (own n ring) in
    let more = flat_map two_nodes plans in
    let rest = bridges-take id ring plans logs zip.1 (All-tail (IsTiedBridge ring) log logs all) in
    let here = bridge-takes id ring plan log zip.0 (All-head (IsTiedBridge ring) log logs all) in
    let one = sum_by-cons (λ (l : BridgeLog). count_by (accepts_call id) l.entries) log logs in
    let all_q = sum_by-append q (two_nodes plan) more in
    let all_p = sum_by-append p (two_nodes plan) more in
    omega arith
