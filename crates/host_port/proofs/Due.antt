-- The Request that is due.
use Rattle.std.proofs.Common.{◌≡◌, ◌≢◌, ◌≤◌, ℕ, Bool, true, false, List, [], ◌∷◌, length, Option}
use Rattle.std.proofs.Common.{Some, None, refl, sym, ap, ◌∙◌, length-append, arith}
use Rattle.std.specs.Prelude.{if◌then◌else◌, nat_le, option_map, slice_index, drop}
use Rattle.std.specs.List.{slice_get}
use Rattle.std.specs.Option.{option_map_or}
use Rattle.std.proofs.lemmas.List.{length-map}
use Rattle.std.proofs.lemmas.List.Sums.{count_by-le-length}
use Rattle.plant_types.specs.declared.net.HostAsk.{HostAsk}
use Rattle.plant_types.specs.declared.net.HostPlan.{HostPlan}
use Rattle.plant_types.specs.Limits.{request_limit}
use Rattle.plant_types.specs.Plans.{IsAskOf, IsHostPlan}
use Rattle.ring_core.specs.MstrBlock.{CallId}
use Rattle.ring_core.specs.Words.{request_along}
use Rattle.host_port.specs.declared.entry.HostEntry.{HostEntry}
use Rattle.host_port.specs.Calls.{asked_on, goes_on_path, requests_in, next_host_call}
use Rattle.host_port.specs.Legal.{IsHostHistory, question_due, questions_in}
use Rattle.host_port.specs.Host.{HostIs, due_ask, if_due, next_ask}
use Rattle.host_port.specs.Kept.{IsDueRequest}
use Rattle.host_port.proofs.Lists.{all_at}
use Rattle.host_port.proofs.Next.{next_is, questions_count}

-- a path had no more Requests than the plan has
pub asked_few : (plan : HostPlan) (h : List HostEntry) (path : ℕ) → IsHostHistory plan h
    → IsHostPlan plan → asked_on h path ≤ request_limit
asked_few plan h path legal sound =
    let rest = legal.order.0 in
    let some = count_by-le-length (goes_on_path path) (requests_in h) in
    let questions = questions_count h in
    let all = length-append (questions_in h) rest in
    let same = ap length legal.order.1 in
    let due = length-map plan.requests question_due in
    let few = sound.few in
    omega arith

-- the route of a Request along a route of some addresses
along : (route : List ℕ) → 1 ≤ length route → slice_index route 0 ∷ drop 1 route ≡ route
along [] some = absurd (omega (arith, some))
along (x ∷ xs) some = refl

-- it goes to another node
to-other : (own : ℕ) (route : List ℕ) → 1 ≤ length route → slice_get route 0 ≢ Some own
    → slice_index route 0 ≢ own
to-other own [] some other = absurd (omega (arith, some))
to-other own (x ∷ xs) some other = λ same. other (ap (λ n. Some n) same)

-- a request that is due is the next one
next-at : (hold : ℕ) (o : Option HostAsk) (ask : HostAsk) → if_due hold o ≡ Some ask → o ≡ Some ask
next-at hold None ask due = absurd (cc)
next-at hold (Some next) ask due = at (nat_le next.hold hold) due where
  at : (b : Bool) → (if b then Some next else None) ≡ Some ask → Some next ≡ Some ask
  at true due = due
  at false due = absurd (cc)

pub due-request : (v : HostIs) (hold : ℕ) (id : CallId) (ask : HostAsk) → IsHostPlan v.plan
    → next_host_call v.plan v.history ≡ Some id → due_ask v hold ≡ Some ask
    → IsDueRequest v (request_along id ask.route ask.pdu)
due-request v hold id ask sound call due =
    let next = next-at hold (next_ask v) ask due in
    let is = all_at (IsAskOf v.plan) v.plan.requests (length (requests_in v.history)) ask
    sound.requests next in
    let route = along ask.route is.route.some in
    let named = next_is v.plan v.history id call in
    record {
      ahead = ap (λ o. option_map_or (λ (a : HostAsk). a.route) o []) next ∙ sym route;
      next = (
        call,
        ap (option_map question_due) next
            ∙ ap (λ r. Some (record { route = r; pdu = ask.pdu })) (sym route),
      );
      from = (
        ap (λ (i : CallId). i.node) named.name,
        to-other v.plan.node ask.route is.route.some is.route.other,
        named.path,
      );
    }
