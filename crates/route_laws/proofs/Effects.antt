-- A call takes effect at most once under one name, and not at all where a bridge accepted it.
use Rattle.std.proofs.Common.{◌≡◌, ℕ, ◌+◌, ◌<◌, ◌≤◌, ◌++◌, Bool, true, false, not, cond, List, []}
use Rattle.std.proofs.Common.{◌∷◌, refl, ap, ◌∙◌, subst, ⊎_elim, arith}
use Rattle.std.specs.Prelude.{◌&&◌}
use Rattle.std.specs.List.{count_by, sum_by}
use Rattle.std.proofs.lemmas.Bool.{cases_lt, eqb-true}
use Rattle.std.proofs.lemmas.List.Elements.{All-from_recursion}
use Rattle.std.proofs.lemmas.List.Sums.{sum_by-append, sum_by-cons}
use Rattle.plant_types.specs.declared.plan.Plant.{Plant}
use Rattle.plant_types.specs.Plans.{controller_nodes, end_nodes, host_nodes, IsPlant}
use Rattle.mstr_block.specs.Call.{is_same_call}
use Rattle.mstr_block.specs.declared.call.CallId.{CallId}
use Rattle.ring_core.specs.declared.entry.RingEntry.{RingEntry}
use Rattle.ring_core.specs.Words.{maker}
use Rattle.ring_laws.specs.Once.{posts, takes}
use Rattle.ring_laws.proofs.Lists.{count-contains, each-contains}
use Rattle.tied_lists.specs.Own.{own}
use Rattle.tied_lists.specs.Items.{AController, AHost, Answered, Items, Station, port_answers}
use Rattle.tied_lists.specs.Tied.{Tied}
use Rattle.joint_history.specs.declared.joint.ControllerLog.{ControllerLog}
use Rattle.joint_history.specs.declared.joint.HostLog.{HostLog}
use Rattle.joint_history.specs.declared.joint.Joint.{Joint}
use Rattle.joint_history.specs.Effects.{answers, answers_to, effects, has_reply}
use Rattle.joint_history.specs.JointLaws.{IsJoint, IsLegalJoint}
use Rattle.joint_history.specs.Nets.{noted_on_rings}
use Rattle.joint_history.specs.Reading.{host_items_of, items_of}
use Rattle.joint_history.proofs.Collected.{CallLaws}
use Rattle.effect_laws.specs.Served.{serves_another, services}
use Rattle.effect_laws.proofs.Counts.{all_at_most, at_most_all, count_cons}
use Rattle.effect_laws.proofs.Homes.{acts_at_home, at-home-own, counted-own, effects-are}
use Rattle.effect_laws.proofs.Homes.{homes-own}
use Rattle.effect_laws.proofs.Served.{answers_are_taken, by_items, controller-nodes, for_others}
use Rattle.effect_laws.proofs.Served.{host-nodes, is_answer, is_item, of_ring, sums}
use Rattle.route_laws.specs.Effects.{accepts_of}
use Rattle.net_laws.proofs.Members.{all_nodes, nodes-once, times}
use Rattle.route_laws.proofs.Posts.{makers-stand, posts-own, taken-on-rings, taken-posted}
use Rattle.route_laws.proofs.Ends.{bridges-take}
use Rattle.route_laws.proofs.Homes.{node-alone}

-- ---- requests that came without power

-- a request of a call was answered with no reply
abbrev pub misses : CallId → Answered → Bool
misses id answer = is_same_call answer.id id && not (has_reply answer.reply)

abbrev pub misses_of : CallId → Items → ℕ
misses_of id a = count_by (misses id) a.answers

-- how often controllers did so
abbrev pub misses_in : Joint → CallId → ℕ
misses_in joint id =
    sum_by (λ (log : ControllerLog). misses_of id (items_of log.entries)) joint.controllers

with-or-without : (x y : Bool)
    → cond {A = ℕ} (x && y) 1 0 + cond {A = ℕ} (x && not y) 1 0 ≡ cond {A = ℕ} x 1 0
with-or-without true true = refl
with-or-without true false = refl
with-or-without false true = refl
with-or-without false false = refl

-- an answer has a reply, or none
both-sorts : (id : CallId) (as' : List Answered)
    → count_by (answers id) as' + count_by (misses id) as' ≡ count_by (is_answer id) as'
both-sorts id [] = refl
both-sorts id (a ∷ as') =
    let rest = both-sorts id as' in
    let one = count_cons (answers id) a as' in
    let two = count_cons (misses id) a as' in
    let all = count_cons (is_answer id) a as' in
    let here = with-or-without (is_same_call a.id id) (has_reply a.reply) in
    omega (arith, rest, one, two, all, here)

-- a station answered, with or without a reply, and with its port, as often as its node took it
all-are-taken : (id : CallId) (station : Station) (a : Items) (b : List RingEntry)
    → Tied station a b
    → (answers_to id a + misses_of id a) + count_by (serves_another id) b ≤ count_by (takes id) b
all-are-taken id station a b t =
    let both = both-sorts id a.answers in
    let peers = by_items id a.answers ∙ ap (count_by (is_item id)) t.peers in
    let port = for_others id b ∙ by_items id (port_answers b)
    ∙ ap (count_by (is_item id)) t.port in
    let ring = of_ring id b in
    omega (arith, both, peers, port, ring)

sum-both : {X : Type 0} (f g : X → ℕ) (xs : List X)
    → sum_by (λ x. f x + g x) xs ≡ sum_by f xs + sum_by g xs
sum-both f g [] = refl
sum-both f g (x ∷ xs) =
    let rest = sum-both f g xs in
    let one = sum_by-cons f x xs in
    let two = sum_by-cons g x xs in
    let all = sum_by-cons (λ y. f y + g y) x xs in
    omega (arith, rest, one, two, all)

controllers-take : (plant : Plant) (scans : ℕ) (joint : Joint) (id : CallId)
    → IsLegalJoint plant scans joint → IsJoint joint
    → (sum_by (λ (log : ControllerLog). answers_to id (items_of log.entries)) joint.controllers
    + misses_in joint id)
    + sum_by (λ n. count_by (serves_another id) (own n (noted_on_rings joint)))
    (controller_nodes plant)
    ≤ sum_by (λ n. count_by (takes id) (own n (noted_on_rings joint))) (controller_nodes plant)
controllers-take plant scans joint id legal tied =
    let ring = noted_on_rings joint in
    let answered = λ (log : ControllerLog). answers_to id (items_of log.entries) in
    let missed = λ (log : ControllerLog). misses_of id (items_of log.entries) in
    let both = sum-both answered missed joint.controllers in
    let both_are = λ (log : ControllerLog). answered log + missed log in
    let all = subst (λ (nodes : List ℕ). sum_by both_are joint.controllers
    + sum_by (λ n. count_by (serves_another id) (own n ring)) nodes
    ≤ sum_by (λ n. count_by (takes id) (own n ring)) nodes)
    (controller-nodes plant scans joint legal)
    (sums (takes id) (serves_another id) ring (λ (log : ControllerLog). log.node)
    both_are joint.controllers
    (λ k d within. all-are-taken id AController _ _ (tied.controllers k d within))) in
    omega (arith, both, all)

hosts-take : (plant : Plant) (scans : ℕ) (joint : Joint) (id : CallId)
    → IsLegalJoint plant scans joint → IsJoint joint
    → sum_by (λ (log : HostLog). answers_to id (host_items_of log.entries)) joint.hosts
    + sum_by (λ n. count_by (serves_another id) (own n (noted_on_rings joint))) (host_nodes plant)
    ≤ sum_by (λ n. count_by (takes id) (own n (noted_on_rings joint))) (host_nodes plant)
hosts-take plant scans joint id legal tied =
    let ring = noted_on_rings joint in
    let answered = λ (log : HostLog). answers_to id (host_items_of log.entries) in
    subst (λ (nodes : List ℕ). sum_by answered joint.hosts
    + sum_by (λ n. count_by (serves_another id) (own n ring)) nodes
    ≤ sum_by (λ n. count_by (takes id) (own n ring)) nodes)
    (host-nodes plant scans joint legal)
    (sums (takes id) (serves_another id) ring (λ (log : HostLog). log.node) answered joint.hosts
    (λ k d within. answers_are_taken id AHost _ _ (tied.hosts k d within)))

-- a sum over all addresses, by their three sorts
by-sorts : (f : ℕ → ℕ) (plant : Plant)
    → sum_by f (all_nodes plant)
    ≡ sum_by f (controller_nodes plant) + sum_by f (host_nodes plant) + sum_by f (end_nodes plant)
by-sorts f plant =
    let all = sum_by-append f (controller_nodes plant ++ host_nodes plant) (end_nodes plant) in
    let two = sum_by-append f (controller_nodes plant) (host_nodes plant) in
    omega arith

pub served-accepted : (plant : Plant) (scans : ℕ) (joint : Joint) (id : CallId)
    → IsPlant plant → IsLegalJoint plant scans joint → IsJoint joint
    → (services joint id + misses_in joint id) + accepts_of joint id
    ≤ count_by (takes id) (noted_on_rings joint)
served-accepted plant scans joint id is legal tied =
    let ring = noted_on_rings joint in
    let p = λ (n : ℕ). count_by (takes id) (own n ring) in
    let q = λ (n : ℕ). count_by (serves_another id) (own n ring) in
    let c = controllers-take plant scans joint id legal tied in
    let h = hosts-take plant scans joint id legal tied in
    let b = bridges-take id ring plant.bridges joint.bridges legal.bridges tied.bridges in
    let sorts_p = by-sorts p plant in
    let sorts_q = by-sorts q plant in
    let most = at_most_all (takes id) (all_nodes plant) (λ m. nodes-once plant m is) ring in
    let least = all_at_most (serves_another id) (all_nodes plant) ring
    (All-from_recursion (λ e. 1 ≤ times (maker e) (all_nodes plant)) ring
    (makers-stand plant scans joint is legal)) in
    omega arith

-- ---- at home

-- where a call was done at home it came nowhere, and no bridge accepted it
done-at-home : CallLaws → (plant : Plant) (scans : ℕ) (joint : Joint) (id : CallId)
    → IsPlant plant → IsLegalJoint plant scans joint → IsJoint joint
    → 1 ≤ count_by (acts_at_home id) (noted_on_rings joint)
    → (effects joint id + misses_in joint id) + accepts_of joint id ≤ 1
done-at-home laws plant scans joint id is legal tied some =
    let ring = noted_on_rings joint in
    let found = count-contains (acts_at_home id) ring some in
    let node : maker found.0 ≡ id.node =
    eqb-true (maker found.0) id.node (at-home-own id found.0 found.2) in
    let there : 1 ≤ times id.node (all_nodes plant) =
    subst (λ (n : ℕ). 1 ≤ times n (all_nodes plant)) node
    (each-contains (λ e. 1 ≤ times (maker e) (all_nodes plant)) ring found.0
    (makers-stand plant scans joint is legal) found.1) in
    let homes = homes-own id ring in
    let alone = node-alone laws plant scans joint id id.node legal tied there
    (omega (arith, some, homes)) in
    let once = alone.once in
    let unposted = counted-own (posts id) id.node ring (posts-own plant scans joint id legal)
    ∙ alone.none in
    let untaken = taken-posted plant scans joint id is legal in
    let served = served-accepted plant scans joint id is legal tied in
    let all = effects-are joint id in
    omega (arith, homes, once, unposted, untaken, served, all)

-- a call that took effect was accepted by no bridge, came nowhere without power, and took effect
-- once
pub one-effect : CallLaws → (plant : Plant) (scans : ℕ) (joint : Joint) (id : CallId)
    → IsPlant plant → IsLegalJoint plant scans joint → IsJoint joint
    → (effects joint id + misses_in joint id) + accepts_of joint id ≤ 1
one-effect laws plant scans joint id is legal tied =
    let served = served-accepted plant scans joint id is legal tied in
    let taken = taken-on-rings plant scans joint id is legal in
    let all = effects-are joint id in
    ⊎_elim
    (λ (none : count_by (acts_at_home id) (noted_on_rings joint) < 1).
    omega (arith, none, served, taken, all))
    (λ (some : 1 ≤ count_by (acts_at_home id) (noted_on_rings joint)).
    done-at-home laws plant scans joint id is legal tied some)
    (cases_lt (count_by (acts_at_home id) (noted_on_rings joint)) 1)
