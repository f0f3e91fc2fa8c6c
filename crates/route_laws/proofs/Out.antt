-- A call that ended was one that its station made: a host asked it, and an end of a bridge sent it
-- on.
use Rattle.std.proofs.Common.{◌≡◌, ℕ, true, not, List, Some, sym, ap, ◌∙◌, subst, arith}
use Rattle.std.specs.Prelude.{Contains}
use Rattle.plant_types.specs.declared.net.BridgePlan.{BridgePlan}
use Rattle.plant_types.specs.declared.net.HostPlan.{HostPlan}
use Rattle.plant_types.specs.Plans.{IsBridgePlan}
use Rattle.mstr_block.specs.declared.call.CallId.{CallId}
use Rattle.ring_core.specs.declared.frame.Frame.{Frame}
use Rattle.ring_core.specs.Words.{request_along}
use Rattle.ring_laws.proofs.Lists.{count-contains, same-eq}
use Rattle.host_port.specs.Calls.{has_answer, is_request_of, request_by, requests_in, unanswered_in}
use Rattle.host_port.specs.Legal.{IsHostHistory}
use Rattle.host_port.specs.declared.entry.HostEntry.{HostEntry}
use Rattle.host_port.specs.declared.entry.HostEntry.TheVariants.{Answer, Ask, Served}
use Rattle.host_port.specs.declared.entry.HostResult.{HostResult}
use Rattle.bridge_relay.specs.Laws.{sends_call}
use Rattle.bridge_relay.specs.Legal.{IsBridgeHistory}
use Rattle.bridge_relay.specs.declared.entry.BridgeEntry.{BridgeEntry}
use Rattle.bridge_relay.specs.declared.entry.BridgeEntry.TheVariants.{Accept, Forward, Finish}
use Rattle.bridge_relay.specs.declared.entry.BridgeEntry.TheVariants.{Back, Gone}
use Rattle.bridge_relay.specs.declared.entry.RelayResult.{RelayResult}
use Rattle.bridge_relay.proofs.Calls.{finishes_end, new_calls}
use Rattle.effect_laws.proofs.Sources.{of-map}
use Rattle.route_laws.proofs.Causes.{of-front, placed-in}
use Rattle.route_laws.proofs.Sides.{any-counts, of-filter}

-- ---- hosts

-- a host asked this call
pub record AskedIn (h : List HostEntry) (id : CallId) : Type 0 where
  pub route : List ℕ
  pub request : List ℕ
  pub there : Contains h (Ask id route request)

ask-here : (h : List HostEntry) (e : HostEntry) (f : Frame) (id : CallId) → request_by e ≡ Some f
    → f.id ≡ id → Contains h e → AskedIn h id
ask-here h (Ask name route pdu) f id made named there =
    let one : request_along name route pdu ≡ f = cc in
    let same : name ≡ id = ap (λ (g : Frame). g.id) one ∙ named in
    record {
      route = route;
      request = pdu;
      there = subst (λ (i : CallId). Contains h (Ask i route pdu)) same there;
    }
ask-here h (Answer name result) f id made named there = absurd cc
ask-here h (Served name request reply) f id made named there = absurd cc

pub host-asked : (plan : HostPlan) (h : List HostEntry) (id : CallId) (result : HostResult)
    → IsHostHistory plan h → Contains h (Answer id result) → AskedIn h id
host-asked plan h id result legal there =
    let at = placed-in h (Answer id result) there in
    let unanswered = legal.each at.before at.after (Answer id result) at.is in
    let found = count-contains (is_request_of id) (unanswered_in at.before)
    (any-counts (is_request_of id) (unanswered_in at.before) unanswered) in
    let made = of-map request_by at.before found.0
    (of-filter (λ (request : Frame). not (has_answer at.before request.id))
    (requests_in at.before) found.0 found.1) in
    ask-here h made.0 found.0 id made.2 (same-eq found.0.id id found.2)
    (of-front h at.before _ at.after made.0 at.is made.1)

-- ---- bridges

-- an end sent this call on
pub record SentBy (list : List BridgeEntry) (side : ℕ) (id : CallId) : Type 0 where
  pub old : CallId
  pub route : List ℕ
  pub request : List ℕ
  pub there : Contains list (Forward side old id route request)

sent-here : (plan : BridgePlan) (list : List BridgeEntry) (side : ℕ) (id : CallId)
    (e : BridgeEntry) → IsBridgePlan plan → IsBridgeHistory plan list → id.node ≡ side
    → sends_call id e ≡ true → Contains list e → SentBy list side id
sent-here plan list side id (Accept by name route request) sound legal node is there = absurd cc
sent-here plan list side id (Forward by old name route request) sound legal node is there =
    let at = placed-in list (Forward by old name route request) there in
    let new = new_calls plan list at.before at.after by old name route request sound legal at.is in
    let named = same-eq name id is in
    let same : by ≡ side = sym new.node ∙ ap (λ (i : CallId). i.node) named ∙ node in
    record {
      old = old;
      route = route;
      request = request;
      there = subst (λ (e : BridgeEntry). Contains list e)
          (λ i. Forward (same i) old (named i) route request) there;
    }
sent-here plan list side id (Finish by name result) sound legal node is there = absurd cc
sent-here plan list side id (Back by name reply) sound legal node is there = absurd cc
sent-here plan list side id (Gone by) sound legal node is there = absurd cc

pub relay-sent : (plan : BridgePlan) (list : List BridgeEntry) (side : ℕ) (id : CallId)
    (result : RelayResult) → IsBridgePlan plan → IsBridgeHistory plan list
    → Contains list (Finish side id result) → SentBy list side id
relay-sent plan list side id result sound legal there =
    let at = placed-in list (Finish side id result) there in
    let out = finishes_end plan list at.before at.after side id result sound legal at.is in
    let once = out.sent in
    let found = count-contains (sends_call id) at.before (omega (arith, once)) in
    sent-here plan list side id found.0 sound legal out.node found.2
    (of-front list at.before _ at.after found.0 at.is found.1)
