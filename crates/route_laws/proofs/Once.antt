-- Bridges accept each request at most once, and send it on at most once.
use Rattle.std.proofs.Common.{◌≡◌, ℕ, ◌≤◌, ◌++◌, Bool, cond, List, [], ◌∷◌, refl, arith}
use Rattle.std.specs.Prelude.{filter_map, flat_map, ◌==◌}
use Rattle.std.specs.List.{AllZip, count_by, sum_by}
use Rattle.std.proofs.lemmas.List.Sums.{sum_by-append, sum_by-cons}
use Rattle.plant_types.specs.declared.net.BridgePlan.{BridgePlan}
use Rattle.plant_types.specs.declared.plan.Plant.{Plant}
use Rattle.plant_types.specs.Plans.{controller_nodes, end_nodes, host_nodes, IsPlant}
use Rattle.mstr_block.specs.declared.call.CallId.{CallId}
use Rattle.mstr_block.specs.Call.{is_same_call}
use Rattle.ring_laws.specs.Once.{takes}
use Rattle.ring_laws.proofs.Lists.{count-cons}
use Rattle.bridge_relay.specs.declared.entry.BridgeEntry.{BridgeEntry}
use Rattle.bridge_relay.specs.declared.entry.BridgeEntry.TheVariants.{Accept, Forward, Finish}
use Rattle.bridge_relay.specs.declared.entry.BridgeEntry.TheVariants.{Back, Gone}
use Rattle.joint_history.specs.declared.joint.BridgeLog.{BridgeLog}
use Rattle.joint_history.specs.declared.joint.Joint.{Joint}
use Rattle.joint_history.specs.JointLaws.{IsJoint, IsLegalBridgeLog, IsLegalJoint}
use Rattle.joint_history.specs.Nets.{noted_on_rings}
use Rattle.effect_laws.proofs.Counts.{at_most_all}
use Rattle.route_laws.specs.Ways.{SentOn, sent_of}
use Rattle.route_laws.specs.Effects.{accepts_call, accepts_of, forwards_of}
use Rattle.route_laws.specs.Laws.{RequestsAreTakenOnOnce}
use Rattle.net_laws.proofs.Members.{nodes-once, times}
use Rattle.route_laws.proofs.Sent.{forwards_call, sent-accepted}
use Rattle.route_laws.proofs.Posts.{taken-on-rings}
use Rattle.route_laws.proofs.Ends.{bridges-take}

-- ---- what was sent on was accepted

abbrev pub is_old : CallId → SentOn → Bool
is_old id s = is_same_call s.old id

sent-one : (id : CallId) (entries : List BridgeEntry)
    → count_by (is_old id) (filter_map sent_of entries) ≡ count_by (forwards_call id) entries
sent-one id [] = refl
sent-one id (Accept side name route request ∷ es) =
    let rest = sent-one id es in
    let step = count-cons (forwards_call id) (Accept side name route request) es in
    omega arith
sent-one id (Forward side old name route request ∷ es) =
    let rest = sent-one id es in
    let step = count-cons (forwards_call id) (Forward side old name route request) es in
    let this : SentOn = record { old = old; id = name } in
    let here = count-cons (is_old id) this (filter_map sent_of es) in
    omega arith
sent-one id (Finish side name result ∷ es) =
    let rest = sent-one id es in
    let step = count-cons (forwards_call id) (Finish side name result) es in
    omega arith
sent-one id (Back side name reply ∷ es) =
    let rest = sent-one id es in
    let step = count-cons (forwards_call id) (Back side name reply) es in
    omega arith
sent-one id (Gone side ∷ es) =
    let rest = sent-one id es in
    let step = count-cons (forwards_call id) (Gone side) es in
    omega arith

all-sent : (id : CallId) (plans : List BridgePlan) (logs : List BridgeLog)
    → AllZip IsLegalBridgeLog plans logs
    → count_by (is_old id) (flat_map (λ (log : BridgeLog). filter_map sent_of log.entries) logs)
    ≤ sum_by (λ (log : BridgeLog). count_by (accepts_call id) log.entries) logs
all-sent id [] [] zip = omega arith
all-sent id [] (log ∷ logs) zip = absurd zip
all-sent id (plan ∷ plans) [] zip = absurd zip
all-sent id (plan ∷ plans) (log ∷ logs) zip =
    let rest = all-sent id plans logs zip.1 in
    let here = sent-accepted plan id log.entries zip.0.2 in
    let same = sent-one id log.entries in
    let one = sum_by-append (λ (s : SentOn). cond {A = ℕ} (is_old id s) 1 0)
    (filter_map sent_of log.entries)
    (flat_map (λ (l : BridgeLog). filter_map sent_of l.entries) logs) in
    let two = sum_by-cons (λ (l : BridgeLog). count_by (accepts_call id) l.entries) log logs in
    omega arith

-- bridges send a request on no more often than they accept it
pub forwards-accepts : (plant : Plant) (scans : ℕ) (joint : Joint) (id : CallId)
    → IsLegalJoint plant scans joint → forwards_of joint id ≤ accepts_of joint id
forwards-accepts plant scans joint id legal =
    all-sent id plant.bridges joint.bridges legal.bridges

-- ---- what was accepted was taken

-- the ends of bridges differ
ends-once : (plant : Plant) (m : ℕ) → IsPlant plant → times m (end_nodes plant) ≤ 1
ends-once plant m is =
    let all = nodes-once plant m is in
    let parts = sum_by-append (λ n. cond {A = ℕ} (m == n) 1 0)
    (controller_nodes plant ++ host_nodes plant) (end_nodes plant) in
    omega arith

accepts-takes : (plant : Plant) (scans : ℕ) (joint : Joint) (id : CallId) → IsPlant plant
    → IsLegalJoint plant scans joint → IsJoint joint
    → accepts_of joint id ≤ count_by (takes id) (noted_on_rings joint)
accepts-takes plant scans joint id is legal tied =
    let ring = noted_on_rings joint in
    let got = bridges-take id ring plant.bridges joint.bridges legal.bridges tied.bridges in
    let most = at_most_all (takes id) (end_nodes plant) (λ m. ends-once plant m is) ring in
    omega arith

pub taken-on-once : RequestsAreTakenOnOnce
taken-on-once plant scans joint is legal tied id =
    let got = accepts-takes plant scans joint id is legal tied in
    let once = taken-on-rings plant scans joint id is legal in
    let sent = forwards-accepts plant scans joint id legal in
    record { accepted = omega (arith, got, once); forwarded = omega (arith, got, once, sent) }
