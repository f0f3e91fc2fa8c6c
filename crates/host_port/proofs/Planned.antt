-- What a host asks goes by a route that its plan has.
use Rattle.std.proofs.Common.{◌≡◌, ℕ, zero, suc, List, [], ◌∷◌, ◌++◌, All, map, sym, subst, arith}
use Rattle.std.specs.Prelude.{Contains}
use Rattle.std.proofs.lemmas.List.Elements.{All-nil, All-cons, All-head, All-tail}
use Rattle.plant_types.specs.declared.net.HostAsk.{HostAsk}
use Rattle.plant_types.specs.declared.net.HostPlan.{HostPlan}
use Rattle.plant_types.specs.Plans.{IsAskOf, IsHostPlan, IsRouteFrom, is_routed}
use Rattle.ring_core.specs.MstrBlock.{CallId}
use Rattle.host_port.specs.declared.entry.HostEntry.{HostEntry}
use Rattle.host_port.specs.declared.entry.HostEntry.TheVariants.{Ask, Answer, Served}
use Rattle.host_port.specs.Legal.{IsHostHistory, Question, question_due, questions_in}

front : {X : Type 0} (P : X → Type 0) (xs ys : List X) → All P (xs ++ ys) → All P xs
front P [] ys all = All-nil P
front P (x ∷ xs) ys all = All-cons P x xs (All-head P x (xs ++ ys) all)
    (front P xs ys (All-tail P x (xs ++ ys) all))

-- what each question has, an Ask among the entries has
asked-has : (P : Question → Type 0) (h : List HostEntry) (id : CallId) (route pdu : List ℕ)
    → All P (questions_in h) → Contains h (Ask id route pdu)
    → P (record { route = route; pdu = pdu })
asked-has P [] id route pdu all (k, low, is) = absurd (omega (arith, low))
asked-has P (Ask name way bytes ∷ h) id route pdu all (zero, low, is) =
    let first : record { route = way; pdu = bytes } ≡ record { route = route; pdu = pdu } = cc in
    subst P first (All-head P _ (questions_in h) all)
asked-has P (Answer name result ∷ h) id route pdu all (zero, low, is) = absurd cc
asked-has P (Served name request reply ∷ h) id route pdu all (zero, low, is) = absurd cc
asked-has P (Ask name way bytes ∷ h) id route pdu all (suc k, low, is) =
    asked-has P h id route pdu (All-tail P _ (questions_in h) all) (k, omega (arith, low), is)
asked-has P (Answer name result ∷ h) id route pdu all (suc k, low, is) =
    asked-has P h id route pdu all (k, omega (arith, low), is)
asked-has P (Served name request reply ∷ h) id route pdu all (suc k, low, is) =
    asked-has P h id route pdu all (k, omega (arith, low), is)

-- each question of a plan goes by a route from its host
abbrev IsPlanned : HostPlan → Question → Type 0
IsPlanned plan question = IsRouteFrom (is_routed plan.network) plan.node question.route

planned : (plan : HostPlan) (asks : List HostAsk) → All (IsAskOf plan) asks
    → All (IsPlanned plan) (map question_due asks)
planned plan [] all = All-nil (IsPlanned plan)
planned plan (ask ∷ asks) all =
    All-cons (IsPlanned plan) (question_due ask) (map question_due asks)
    (All-head (IsAskOf plan) ask asks all).route
    (planned plan asks (All-tail (IsAskOf plan) ask asks all))

pub ask-planned : (plan : HostPlan) (history : List HostEntry) (id : CallId) (route pdu : List ℕ)
    → IsHostPlan plan → IsHostHistory plan history → Contains history (Ask id route pdu)
    → IsRouteFrom (is_routed plan.network) plan.node route
ask-planned plan history id route pdu is legal there =
    let all = subst (All (IsPlanned plan)) (sym legal.order.1)
    (planned plan plan.requests is.requests) in
    asked-has (IsPlanned plan) history id route pdu
    (front (IsPlanned plan) (questions_in history) legal.order.0 all) there
