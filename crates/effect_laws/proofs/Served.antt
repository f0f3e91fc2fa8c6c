-- What stations and their ports answer, their nodes took.
use Rattle.std.proofs.Common.{◌≡◌, ℕ, suc, ◌+◌, ◌≤◌, Bool, true, false, cond, not, Some, None}
use Rattle.std.proofs.Common.{List, [], ◌∷◌, map, refl, sym, ap, ◌∙◌, subst, arith}
use Rattle.std.specs.Prelude.{◌==◌, ◌&&◌, if◌then◌else◌, Contains}
use Rattle.std.specs.List.{All, AllZip, count_by, sum_by, cons_option}
use Rattle.std.proofs.lemmas.Bool.{eqb-true}
use Rattle.plant_types.specs.declared.plan.Plant.{Plant}
use Rattle.plant_types.specs.Plans.{controller_nodes, host_nodes}
use Rattle.mstr_block.specs.Call.{is_same_call}
use Rattle.mstr_block.specs.declared.call.CallId.{CallId}
use Rattle.ring_core.specs.declared.frame.Frame.{Frame}
use Rattle.ring_core.specs.declared.frame.FrameKind.{FrameKind}
use Rattle.ring_core.specs.declared.frame.FrameKind.TheVariants.{Request, Reply}
use Rattle.ring_core.specs.declared.entry.RingEntry.{RingEntry}
use Rattle.ring_core.specs.declared.entry.RingEntry.TheVariants.{Post, Send, Take, Local, GiveUp}
use Rattle.ring_core.specs.declared.entry.RingEntry.TheVariants.{Pass, Leave, Join}
use Rattle.ring_core.specs.Statistics.{is_for_stats}
use Rattle.ring_laws.specs.Once.{takes}
use Rattle.ring_laws.proofs.Lists.{count-contains}
use Rattle.tied_lists.specs.Own.{own}
use Rattle.tied_lists.specs.Items.{Answered, Items, RequestItem, Station, Taken, Plain, ForStats}
use Rattle.tied_lists.specs.Items.{item_of, plain_items, stats_items, taken_by, port_answers}
use Rattle.tied_lists.specs.Items.{request_of, reply_of}
use Rattle.tied_lists.specs.Tied.{Tied}
use Rattle.plant_types.specs.declared.net.HostPlan.{HostPlan}
use Rattle.plant_types.specs.declared.plan.ControllerPlan.{ControllerPlan}
use Rattle.joint_history.specs.declared.joint.ControllerLog.{ControllerLog}
use Rattle.joint_history.specs.declared.joint.HostLog.{HostLog}
use Rattle.joint_history.specs.declared.joint.Joint.{Joint}
use Rattle.joint_history.specs.JointLaws.{IsLegalJoint, IsLegalLog, IsLegalHostLog}
use Rattle.joint_history.specs.Effects.{answers, answers_to, has_reply}
use Rattle.effect_laws.specs.Served.{serves_another}
use Rattle.effect_laws.proofs.Counts.{sum_cons, count_cons, skip}

-- an item is of this call
abbrev pub is_item : CallId → RequestItem → Bool
is_item id item = is_same_call item.id id

-- an answer is to this call
abbrev pub is_answer : CallId → Answered → Bool
is_answer id answer = is_same_call answer.id id

-- answers are counted by their items
pub by_items : (id : CallId) (answers : List Answered)
    → count_by (is_answer id) answers ≡ count_by (is_item id) (map item_of answers)
by_items id [] = refl
by_items id (a ∷ as') =
    count_cons (is_answer id) a as'
    ∙ ap (λ n. cond (is_same_call a.id id) 1 0 + n) (by_items id as')
    ∙ sym (count_cons (is_item id) (item_of a) (map item_of as'))

-- a Request that was taken is one of the two sorts
abbrev is_taken : CallId → Taken → Bool
is_taken id (Plain name rest pdu) = is_same_call name id
is_taken id (ForStats name pdu) = is_same_call name id

of_sorts : (id : CallId) (ts : List Taken)
    → count_by (is_item id) (plain_items ts) + count_by (is_item id) (stats_items ts)
    ≡ count_by (is_taken id) ts
of_sorts id [] = refl
of_sorts id (Plain name rest pdu ∷ ts) =
    let more = of_sorts id ts in
    let item : RequestItem = record { id = name; rest = rest; request = Some pdu } in
    let one = count_cons (is_item id) item (plain_items ts) in
    let all = count_cons (is_taken id) (Plain name rest pdu) ts in
    omega arith
of_sorts id (ForStats name pdu ∷ ts) =
    let more = of_sorts id ts in
    let item : RequestItem = record { id = name; rest = []; request = Some pdu } in
    let one = count_cons (is_item id) item (stats_items ts) in
    let all = count_cons (is_taken id) (ForStats name pdu) ts in
    omega arith

-- and they are counted in the list of the ring
taken_at : (id name : CallId) (rest pdu : List ℕ) (stats : Bool) (ts : List Taken)
    → count_by (is_taken id) ((if stats then ForStats name pdu else Plain name rest pdu) ∷ ts)
    ≡ cond (is_same_call name id) 1 0 + count_by (is_taken id) ts
taken_at id name rest pdu true ts = count_cons (is_taken id) (ForStats name pdu) ts
taken_at id name rest pdu false ts = count_cons (is_taken id) (Plain name rest pdu) ts

take_case : (id : CallId) (n : ℕ) (f : Frame) (kind : FrameKind) (b : List RingEntry)
    → count_by (is_taken id) (taken_by b) ≡ count_by (takes id) b
    → count_by (is_taken id) (taken_by (Take n (record f { kind = kind }) ∷ b))
    ≡ count_by (takes id) (Take n (record f { kind = kind }) ∷ b)
take_case id n f Request b rest =
    taken_at id f.id f.rest f.pdu (is_for_stats f) (taken_by b)
    ∙ ap (λ k. cond (is_same_call f.id id) 1 0 + k) rest
    ∙ sym (count_cons (takes id) (Take n (record f { kind = Request })) b)
take_case id n f Reply b rest =
    rest ∙ sym (skip (takes id) (Take n (record f { kind = Reply })) b refl)

in_ring : (id : CallId) (b : List RingEntry)
    → count_by (is_taken id) (taken_by b) ≡ count_by (takes id) b
in_ring id [] = refl
in_ring id (Post n f ∷ b) = in_ring id b ∙ sym (skip (takes id) (Post n f) b refl)
in_ring id (Send n heard ∷ b) = in_ring id b ∙ sym (skip (takes id) (Send n heard) b refl)
in_ring id (Take n f ∷ b) = take_case id n f f.kind b (in_ring id b)
in_ring id (Local n name op result ∷ b) =
    in_ring id b ∙ sym (skip (takes id) (Local n name op result) b refl)
in_ring id (GiveUp name word ∷ b) = in_ring id b ∙ sym (skip (takes id) (GiveUp name word) b refl)
in_ring id (Pass n done words ∷ b) =
    in_ring id b ∙ sym (skip (takes id) (Pass n done words) b refl)
in_ring id (Leave n cause ∷ b) = in_ring id b ∙ sym (skip (takes id) (Leave n cause) b refl)
in_ring id (Join n ∷ b) = in_ring id b ∙ sym (skip (takes id) (Join n) b refl)

-- the Requests that a node took, by their two sorts
pub of_ring : (id : CallId) (b : List RingEntry)
    → count_by (is_item id) (plain_items (taken_by b))
    + count_by (is_item id) (stats_items (taken_by b))
    ≡ count_by (takes id) b
of_ring id b = of_sorts id (taken_by b) ∙ in_ring id b

-- what a port answered for others is counted in the list of the ring
own_off : (x : Bool) (k : ℕ) → cond (x && false) 1 0 + k ≡ k
own_off true k = omega arith
own_off false k = omega arith

other_on : (x : Bool) (k : ℕ) → cond (x && true) 1 0 + k ≡ cond x 1 0 + k
other_on true k = refl
other_on false k = refl

local_at : (id : CallId) (answer : Answered) (here : Bool) (rest : List Answered)
    → cond (is_same_call answer.id id && not here) 1 0 + count_by (is_answer id) rest
    ≡ count_by (is_answer id) (cons_option (if here then None else Some answer) rest)
local_at id answer true rest = own_off (is_same_call answer.id id) (count_by (is_answer id) rest)
local_at id answer false rest =
    other_on (is_same_call answer.id id) (count_by (is_answer id) rest)
    ∙ sym (count_cons (is_answer id) answer rest)

pub for_others : (id : CallId) (b : List RingEntry)
    → count_by (serves_another id) b ≡ count_by (is_answer id) (port_answers b)
for_others id [] = refl
for_others id (Post n f ∷ b) = skip (serves_another id) (Post n f) b refl ∙ for_others id b
for_others id (Send n heard ∷ b) = skip (serves_another id) (Send n heard) b refl ∙ for_others id b
for_others id (Take n f ∷ b) = skip (serves_another id) (Take n f) b refl ∙ for_others id b
for_others id (Local n name op result ∷ b) =
    count_cons (serves_another id) (Local n name op result) b
    ∙ ap (λ k. cond (is_same_call name id && not (name.node == n)) 1 0 + k) (for_others id b)
    ∙ local_at id (record {
      id = name;
      rest = [];
      request = request_of op;
      reply = Some (reply_of result);
    })
    (name.node == n) (port_answers b)
for_others id (GiveUp name word ∷ b) =
    skip (serves_another id) (GiveUp name word) b refl ∙ for_others id b
for_others id (Pass n done words ∷ b) =
    skip (serves_another id) (Pass n done words) b refl ∙ for_others id b
for_others id (Leave n cause ∷ b) =
    skip (serves_another id) (Leave n cause) b refl ∙ for_others id b
for_others id (Join n ∷ b) = skip (serves_another id) (Join n) b refl ∙ for_others id b

-- a station answered with a reply no more often than it answered
with-reply : (x y : Bool) → cond {A = ℕ} (x && y) 1 0 ≤ cond x 1 0
with-reply true true = omega arith
with-reply true false = omega arith
with-reply false y = omega arith

fewer : (id : CallId) (as' : List Answered)
    → count_by (answers id) as' ≤ count_by (is_answer id) as'
fewer id [] = omega arith
fewer id (a ∷ as') =
    let rest = fewer id as' in
    let one = count_cons (answers id) a as' in
    let two = count_cons (is_answer id) a as' in
    let here = with-reply (is_same_call a.id id) (has_reply a.reply) in
    omega (arith, rest, one, two, here)

-- a station answered, with its port, at most as often as its node took the Request
pub answers_are_taken : (id : CallId) (station : Station) (a : Items) (b : List RingEntry)
    → Tied station a b
    → answers_to id a + count_by (serves_another id) b ≤ count_by (takes id) b
answers_are_taken id station a b t =
    let replied = fewer id a.answers in
    let peers = by_items id a.answers ∙ ap (count_by (is_item id)) t.peers in
    let port = for_others id b ∙ by_items id (port_answers b)
    ∙ ap (count_by (is_item id)) t.port in
    let ring = of_ring id b in
    omega arith

-- over some stations
pub sums : {L : Type 0} (p q : RingEntry → Bool) (ring : List RingEntry) (node answers : L → ℕ)
    (ls : List L)
    → All (λ l. answers l + count_by q (own (node l) ring) ≤ count_by p (own (node l) ring)) ls
    → sum_by answers ls + sum_by (λ n. count_by q (own n ring)) (map node ls)
    ≤ sum_by (λ n. count_by p (own n ring)) (map node ls)
sums p q ring node answers [] all = omega arith
sums p q ring node answers (l ∷ ls) all =
    let here = all 0 l (omega arith) in
    let rest = sums p q ring node answers ls (λ k d within. all (suc k) d (omega arith)) in
    let one = sum_cons answers l ls in
    let two = sum_cons (λ n. count_by q (own n ring)) (node l) (map node ls) in
    let three = sum_cons (λ n. count_by p (own n ring)) (node l) (map node ls) in
    omega arith

-- the nodes of the lists are those of the plant
nodes_of_logs : {P L : Type 0} (R : P → L → Type 0) (plan_node : P → ℕ) (log_node : L → ℕ)
    → ((p : P) (l : L) → R p l → log_node l ≡ plan_node p)
    → (ps : List P) (ls : List L) → AllZip R ps ls → map log_node ls ≡ map plan_node ps
nodes_of_logs R plan_node log_node same [] [] all = refl
nodes_of_logs R plan_node log_node same [] (l ∷ ls) all = absurd all
nodes_of_logs R plan_node log_node same (p ∷ ps) [] all = absurd all
nodes_of_logs R plan_node log_node same (p ∷ ps) (l ∷ ls) all =
    λ i. same p l all.0 i ∷ nodes_of_logs R plan_node log_node same ps ls all.1 i

-- so it is of controllers, and of hosts
pub controller-nodes : (plant : Plant) (scans : ℕ) (joint : Joint) → IsLegalJoint plant scans joint
    → map (λ (log : ControllerLog). log.node) joint.controllers ≡ controller_nodes plant
controller-nodes plant scans joint legal =
    nodes_of_logs (IsLegalLog plant scans) (λ (plan : ControllerPlan). plan.node)
    (λ (log : ControllerLog). log.node) (λ plan log r. r.0)
    plant.controllers joint.controllers legal.controllers

pub host-nodes : (plant : Plant) (scans : ℕ) (joint : Joint) → IsLegalJoint plant scans joint
    → map (λ (log : HostLog). log.node) joint.hosts ≡ host_nodes plant
host-nodes plant scans joint legal =
    nodes_of_logs IsLegalHostLog (λ (plan : HostPlan). plan.node) (λ (log : HostLog). log.node)
    (λ plan log r. r.0)
    plant.hosts joint.hosts legal.hosts

-- ---- logs by their nodes

-- a map of a list has as many of a number as the list has things of it
counted-map : {L : Type 0} (node : L → ℕ) (n : ℕ) (ls : List L)
    → count_by (λ k. n == k) (map node ls) ≡ count_by (λ l. n == node l) ls
counted-map node n [] = refl
counted-map node n (l ∷ ls) =
    let one = count_cons (λ k. n == k) (node l) (map node ls) in
    let two = count_cons (λ x. n == node x) l ls in
    one ∙ ap (λ k. cond (n == node l) 1 0 + k) (counted-map node n ls) ∙ sym two

-- a list of this node
pub log-of : {L : Type 0} (node : L → ℕ) (n : ℕ) (ls : List L)
    → 1 ≤ count_by (λ k. n == k) (map node ls) → (l : L) × Contains ls l × (node l ≡ n)
log-of node n ls some =
    let found = count-contains (λ l. n == node l) ls
    (subst (λ (k : ℕ). 1 ≤ k) (counted-map node n ls) some) in
    (found.0, found.1, sym (eqb-true n (node found.0) found.2))
