-- The Requests without an answer, behind each kind of entry.
use Rattle.std.proofs.Common.{◌≡◌, ◌==◌, ℕ, Bool, true, false, not, ◌||◌, ◌&&◌, cond, List, [], ◌∷◌}
use Rattle.std.proofs.Common.{◌++◌, refl, sym, ap, subst, ◌∙◌, inl}
use Rattle.std.proofs.Common.{inr, append-nil}
use Rattle.std.specs.List.{filter, list_any, AllByRecursion}
use Rattle.std.proofs.lemmas.Bool.{cases_Bool, and_parts, eqb-true, eq-eqb}
use Rattle.std.proofs.lemmas.List.Elements.{filter_map-append, filter-append}
use Rattle.std.proofs.lemmas.List.Folds.{list_any-append}
use Rattle.plant_types.specs.declared.net.HostPlan.{HostPlan}
use Rattle.ring_core.specs.MstrBlock.{is_same_call, CallId}
use Rattle.ring_core.specs.declared.frame.Frame.{Frame}
use Rattle.ring_core.specs.Words.{request_along}
use Rattle.ring_core.specs.Legal.{IsPath}
use Rattle.host_port.specs.declared.entry.HostEntry.{HostEntry}
use Rattle.host_port.specs.declared.entry.HostEntry.TheVariants.{Ask, Answer, Served}
use Rattle.host_port.specs.declared.entry.HostResult.{HostResult}
use Rattle.host_port.specs.Calls.{request_by, call_answered_by, requests_in, answered_calls}
use Rattle.host_port.specs.Calls.{has_answer, unanswered_in, is_request_of}
use Rattle.host_port.specs.Calls.{goes_on_path, asked_on}
use Rattle.host_port.specs.Kept.{IsLast, last_on}
use Rattle.host_port.specs.Laws.{AsksKeepCalls, AnswersEndOneCall, ServingKeepsCalls}
use Rattle.host_port.proofs.Lists.{and_true, and_false, any_agree, any_and, any_filter, any_has}
use Rattle.host_port.proofs.Lists.{any_same, or_false}

-- ---- names

pub same_name : (one other : CallId) → is_same_call one other ≡ true → one ≡ other
same_name one other is =
    let first = and_parts _ _ is in
    let second = and_parts _ _ first.1 in
    let node : one.node ≡ other.node = eqb-true _ _ first.0 in
    let path : one.path ≡ other.path = eqb-true _ _ second.0 in
    let seq : one.seq ≡ other.seq = eqb-true _ _ second.1 in
    λ i. record { node = node i; path = path i; seq = seq i }

pub is_itself : (id : CallId) → is_same_call id id ≡ true
is_itself id =
    let node = eq-eqb id.node id.node refl in
    let path = eq-eqb id.path id.path refl in
    let seq = eq-eqb id.seq id.seq refl in
    ap (λ b. b && ((id.path == id.path) && (id.seq == id.seq))) node
    ∙ ap (λ b. b && (id.seq == id.seq)) path ∙ seq

-- ---- what an entry adds

abbrev unanswered_of : List CallId → List Frame → List Frame
unanswered_of ended requests =
    filter (λ request. not (list_any (is_same_call request.id) ended)) requests

pub requests_ask : (h : List HostEntry) (id : CallId) (route pdu : List ℕ)
    → requests_in (h ++ Ask id route pdu ∷ []) ≡ requests_in h ++ request_along id route pdu ∷ []
requests_ask h id route pdu = filter_map-append request_by h (Ask id route pdu ∷ [])

pub requests_answer : (h : List HostEntry) (id : CallId) (result : HostResult)
    → requests_in (h ++ Answer id result ∷ []) ≡ requests_in h
requests_answer h id result = filter_map-append request_by h (Answer id result ∷ [])
    ∙ append-nil (requests_in h)

pub requests_served : (h : List HostEntry) (id : CallId) (request reply : List ℕ)
    → requests_in (h ++ Served id request reply ∷ []) ≡ requests_in h
requests_served h id request reply = filter_map-append request_by h (Served id request reply ∷ [])
    ∙ append-nil (requests_in h)

pub ended_ask : (h : List HostEntry) (id : CallId) (route pdu : List ℕ)
    → answered_calls (h ++ Ask id route pdu ∷ []) ≡ answered_calls h
ended_ask h id route pdu = filter_map-append call_answered_by h (Ask id route pdu ∷ [])
    ∙ append-nil (answered_calls h)

pub ended_answer : (h : List HostEntry) (id : CallId) (result : HostResult)
    → answered_calls (h ++ Answer id result ∷ []) ≡ answered_calls h ++ id ∷ []
ended_answer h id result = filter_map-append call_answered_by h (Answer id result ∷ [])

pub ended_served : (h : List HostEntry) (id : CallId) (request reply : List ℕ)
    → answered_calls (h ++ Served id request reply ∷ []) ≡ answered_calls h
ended_served h id request reply = filter_map-append call_answered_by h
    (Served id request reply ∷ []) ∙ append-nil (answered_calls h)

-- behind an Ask there is one more, unless its call has ended
pub unanswered_ask : (h : List HostEntry) (id : CallId) (route pdu : List ℕ)
    → unanswered_in (h ++ Ask id route pdu ∷ [])
    ≡ unanswered_in h ++ cond (not (has_answer h id)) (request_along id route pdu ∷ []) []
unanswered_ask h id route pdu =
    let f = request_along id route pdu in
    ap (unanswered_of (answered_calls (h ++ Ask id route pdu ∷ []))) (requests_ask h id route pdu)
    ∙ ap (λ ended. unanswered_of ended (requests_in h ++ f ∷ [])) (ended_ask h id route pdu)
    ∙ filter-append (λ request. not (list_any (is_same_call request.id) (answered_calls h)))
    (requests_in h) (f ∷ [])

pub unanswered_served : (h : List HostEntry) (id : CallId) (request reply : List ℕ)
    → unanswered_in (h ++ Served id request reply ∷ []) ≡ unanswered_in h
unanswered_served h id request reply =
    ap (unanswered_of (answered_calls (h ++ Served id request reply ∷ [])))
    (requests_served h id request reply)
    ∙ ap (λ ended. unanswered_of ended (requests_in h)) (ended_served h id request reply)

-- behind an Answer there are no more those of its call
abbrev pub keeps : CallId → Frame → Bool
keeps id request = not (is_same_call request.id id)

one_less : (ended : List CallId) (id : CallId) (a : Bool) (r : Frame) (rest : List Frame)
    → cond (not (a || is_same_call r.id id)) (r ∷ filter (keeps id) rest) (filter (keeps id) rest)
    ≡ filter (keeps id)
    (cond (not a) (r ∷ rest) rest)
one_less ended id true r rest = refl
one_less ended id false r rest = refl

less : (ended : List CallId) (id : CallId) (rs : List Frame)
    → unanswered_of (ended ++ id ∷ []) rs ≡ filter (keeps id) (unanswered_of ended rs)
less ended id [] = refl
less ended id (r ∷ rs) =
    let rest = unanswered_of (ended ++ id ∷ []) rs in
    let has : list_any (is_same_call r.id) (ended ++ id ∷ [])
    ≡ (list_any (is_same_call r.id) ended || is_same_call r.id id) =
    list_any-append (is_same_call r.id) ended (id ∷ [])
    ∙ ap (λ b. list_any (is_same_call r.id) ended || b) (or_false (is_same_call r.id id)) in
    ap (λ b. cond (not b) (r ∷ rest) rest) has
    ∙ ap (λ l. cond (not (list_any (is_same_call r.id) ended || is_same_call r.id id)) (r ∷ l) l)
    (less ended id rs)
    ∙ one_less ended id (list_any (is_same_call r.id) ended) r (unanswered_of ended rs)

pub unanswered_answer : (h : List HostEntry) (id : CallId) (result : HostResult)
    → unanswered_in (h ++ Answer id result ∷ []) ≡ filter (keeps id) (unanswered_in h)
unanswered_answer h id result =
    ap (unanswered_of (answered_calls (h ++ Answer id result ∷ []))) (requests_answer h id result)
    ∙ ap (λ ended. unanswered_of ended (requests_in h)) (ended_answer h id result)
    ∙ less (answered_calls h) id (requests_in h)

-- ---- the laws

pub asks_keep : AsksKeepCalls
asks_keep h id other route pdu out =
    let added = cond (not (has_answer h other)) (request_along other route pdu ∷ []) [] in
    ap (list_any (is_request_of id)) (unanswered_ask h other route pdu)
    ∙ list_any-append (is_request_of id) (unanswered_in h) added
    ∙ ap (λ b. b || list_any (is_request_of id) added) out

pub serving_keeps : ServingKeepsCalls
serving_keeps h id other request reply =
    ap (list_any (is_request_of id)) (unanswered_served h other request reply)

-- a Request of one call is that of another where they are one
kept_one : (id other : CallId) (r : Frame)
    → (keeps other r && is_request_of id r) ≡ (is_request_of id r && not (is_same_call id other))
kept_one id other r = elim (cases_Bool (is_same_call r.id id)) [
  | inl passes ↦
      let same : r.id ≡ id = same_name r.id id passes in
      ap (λ b. keeps other r && b) passes ∙ and_true (keeps other r)
      ∙ ap (λ (i : CallId). not (is_same_call i other)) same
      ∙ ap (λ b. b && not (is_same_call id other)) (sym passes)
  | inr fails ↦ ap (λ b. keeps other r && b) fails ∙ and_false (keeps other r)
      ∙ ap (λ b. b && not (is_same_call id other)) (sym fails)
]

pub one_ends : AnswersEndOneCall
one_ends h id other result =
    ap (list_any (is_request_of id)) (unanswered_answer h other result)
    ∙ any_filter (is_request_of id) (keeps other) (unanswered_in h)
    ∙ any_agree (λ r. keeps other r && is_request_of id r)
    (λ r. is_request_of id r && not (is_same_call id other)) (kept_one id other)
    (unanswered_in h)
    ∙ any_and (is_request_of id) (not (is_same_call id other)) (unanswered_in h)

-- ---- calls that are out are the last of their paths

pub record IsLastCall (plan : HostPlan) (h : List HostEntry) (id : CallId) : Type 0 where
  pub name : id ≡ last_on plan h id.path
  pub path : IsPath id.path

pub out_last : (plan : HostPlan) (h : List HostEntry) (xs : List Frame) (id : CallId)
    → AllByRecursion (IsLast plan h) xs
    → list_any (is_request_of id) xs ≡ true
    → IsLastCall plan h id
out_last plan h xs id all out =
    any_has (IsLast plan h) (IsLastCall plan h id) (is_request_of id) (λ r last is.
    subst (IsLastCall plan h) (same_name r.id id is)
    (record { name = last.name; path = last.path })) xs all out

on_path : (plan : HostPlan) (h : List HostEntry) (id : CallId) → id.node ≡ plan.node → (r : Frame)
    → IsLast plan h r
    → is_request_of id r ≡ (goes_on_path id.path r && (asked_on h id.path == id.seq))
on_path plan h id node r last =
    let mine : r.id.node ≡ id.node = ap (λ (i : CallId). i.node) last.name ∙ sym node in
    let first : is_request_of id r ≡ ((r.id.path == id.path) && (r.id.seq == id.seq)) =
    ap (λ b. b && ((r.id.path == id.path) && (r.id.seq == id.seq))) (eq-eqb _ _ mine) in
    elim (cases_Bool (r.id.path == id.path)) [
      | inl passes ↦
          let seq : r.id.seq ≡ asked_on h id.path = ap (λ (i : CallId). i.seq) last.name
          ∙ ap (asked_on h) (eqb-true _ _ passes) in
          first ∙ ap (λ n. (r.id.path == id.path) && (n == id.seq)) seq
      | inr fails ↦ first ∙ ap (λ b. b && (r.id.seq == id.seq)) fails
          ∙ ap (λ b. b && (asked_on h id.path == id.seq)) (sym fails)
    ]

pub out_on : (plan : HostPlan) (h : List HostEntry) (xs : List Frame) (id : CallId)
    → AllByRecursion (IsLast plan h) xs
    → id.node ≡ plan.node
    → list_any (is_request_of id) xs
    ≡ (list_any (goes_on_path id.path) xs && (asked_on h id.path == id.seq))
out_on plan h xs id all node =
    any_same (IsLast plan h) (is_request_of id)
    (λ r. goes_on_path id.path r && (asked_on h id.path == id.seq)) (on_path plan h id node) xs all
    ∙ any_and (goes_on_path id.path) (asked_on h id.path == id.seq) xs
