-- Which entries may come next.
use Rattle.std.proofs.Common.{◌≡◌, ℕ, true, List, [], ◌∷◌, ◌++◌, Option, Some, None, length}
use Rattle.std.proofs.Common.{suc, refl, sym, ap, subst, ◌∙◌, inl, inr}
use Rattle.std.proofs.Common.{append_assoc, append-nil}
use Rattle.std.proofs.lemmas.List.Elements.{filter_map-append}
use Rattle.std.specs.Prelude.{option_map}
use Rattle.std.specs.List.{slice_get}
use Rattle.std.proofs.lemmas.Option.{slice_get-map}
use Rattle.plant_types.specs.declared.net.HostPlan.{HostPlan}
use Rattle.ring_core.specs.MstrBlock.{network_paths, CallId}
use Rattle.ring_core.specs.Legal.{IsPath}
use Rattle.host_port.specs.declared.entry.HostEntry.{HostEntry}
use Rattle.host_port.specs.declared.entry.HostEntry.TheVariants.{Ask, Answer, Served}
use Rattle.host_port.specs.declared.entry.HostResult.{HostResult}
use Rattle.host_port.specs.Calls.{requests_in, path_is_free, is_unanswered, call_on, free_path}
use Rattle.host_port.specs.Calls.{next_host_call}
use Rattle.host_port.specs.Legal.{Question, FitsHost, IsHostHistory, question_due, question_by}
use Rattle.host_port.specs.Legal.{questions_in, questions_of, refusal_to}
use Rattle.host_port.specs.Host.{HostIs}
use Rattle.host_port.specs.Following.{MayComeNext, HostMayFollow}
use Rattle.host_port.proofs.Lists.{behind, found, get_behind, split_last}
use Rattle.host_port.proofs.Paths.{paths_are}

-- ---- each entry fits those before it

pub last_fits : (plan : HostPlan) (h : List HostEntry) (e : HostEntry)
    → IsHostHistory plan (h ++ e ∷ []) → FitsHost plan h e
last_fits plan h e legal = legal.each h [] e refl

each_more : (plan : HostPlan) (h : List HostEntry) (e : HostEntry) → IsHostHistory plan h
    → FitsHost plan h e
    → (before after : List HostEntry) (entry : HostEntry) → h ++ e ∷ [] ≡ before ++ entry ∷ after
    → FitsHost plan before entry
each_more plan h e legal fits before after entry is = elim (split_last h e before after entry is) [
  | inl p ↦
      subst (λ b. FitsHost plan b entry) (sym p.0) (subst (λ x. FitsHost plan h x) (sym p.1) fits)
  | inr q ↦ legal.each before q.0 entry q.1
]

-- ---- an Answer, and what is served

may_answer : (plan : HostPlan) (h : List HostEntry) (id : CallId) (result : HostResult)
    → IsHostHistory plan h → is_unanswered h id ≡ true
    → IsHostHistory plan (h ++ Answer id result ∷ [])
may_answer plan h id result legal out = record {
  order = (
    legal.order.0,
    ap (λ l. l ++ legal.order.0) (filter_map-append question_by h (Answer id result ∷ [])
        ∙ append-nil (questions_in h)) ∙ legal.order.1,
  );
  each = each_more plan h (Answer id result) legal out;
}

may_serve : (plan : HostPlan) (h : List HostEntry) (id : CallId) (request reply : List ℕ)
    → IsHostHistory plan h
    → reply ≡ refusal_to request
    → IsHostHistory plan (h ++ Served id request reply ∷ [])
may_serve plan h id request reply legal is = record {
  order = (
    legal.order.0,
    ap (λ l. l ++ legal.order.0) (filter_map-append question_by h (Served id request reply ∷ [])
        ∙ append-nil (questions_in h)) ∙ legal.order.1,
  );
  each = each_more plan h (Served id request reply) legal is;
}

-- ---- an Ask

pub record NextCall (plan : HostPlan) (h : List HostEntry) (id : CallId) : Type 0 where
  pub name : id ≡ call_on plan h id.path
  pub free : path_is_free h id.path ≡ true
  pub path : IsPath id.path

named : (plan : HostPlan) (h : List HostEntry) (id : CallId) (at : Option ℕ)
    → option_map (call_on plan h) at ≡ Some id
    → (p : ℕ) × (at ≡ Some p) × (call_on plan h p ≡ id)
named plan h id None is = absurd cc
named plan h id (Some p) is = (p, refl, cc)

pub next_is : (plan : HostPlan) (h : List HostEntry) (id : CallId) → next_host_call plan h ≡ Some id
    → NextCall plan h id
next_is plan h id is =
    let at = named plan h id (free_path h) is in
    let path : at.0 ≡ id.path = ap (λ (i : CallId). i.path) at.2 in
    let has = found IsPath (path_is_free h) network_paths at.0 paths_are at.1 in
    record {
      name = sym at.2 ∙ ap (call_on plan h) path;
      free = ap (path_is_free h) (sym path) ∙ has.0;
      path = subst IsPath path has.1;
    }

pub questions_count : (h : List HostEntry) → length (questions_in h) ≡ length (requests_in h)
questions_count [] = refl
questions_count (Ask id route pdu ∷ h) = ap suc (questions_count h)
questions_count (Answer id result ∷ h) = questions_count h
questions_count (Served id request reply ∷ h) = questions_count h

asked_place : (plan : HostPlan) (h : List HostEntry)
    → slice_get (questions_of plan) (length (questions_in h))
    ≡ option_map question_due (slice_get plan.requests (length (requests_in h)))
asked_place plan h =
    ap (slice_get (questions_of plan)) (questions_count h)
    ∙ slice_get-map question_due plan.requests (length (requests_in h))

questions_ask : (h : List HostEntry) (id : CallId) (route pdu : List ℕ)
    → questions_in (h ++ Ask id route pdu ∷ [])
    ≡ questions_in h ++ record { route = route; pdu = pdu } ∷ []
questions_ask h id route pdu = filter_map-append question_by h (Ask id route pdu ∷ [])

may_ask : (plan : HostPlan) (h : List HostEntry) (id : CallId) (route pdu : List ℕ)
    → IsHostHistory plan h
    → next_host_call plan h ≡ Some id
    → option_map question_due (slice_get plan.requests (length (requests_in h)))
    ≡ Some (record { route = route; pdu = pdu })
    → IsHostHistory plan (h ++ Ask id route pdu ∷ [])
may_ask plan h id route pdu legal next is =
    let rest = legal.order.0 in
    let q : Question = record { route = route; pdu = pdu } in
    let here : slice_get (questions_in h ++ rest) (length (questions_in h)) ≡ Some q =
    ap (λ l. slice_get l (length (questions_in h))) legal.order.1 ∙ asked_place plan h ∙ is in
    let more = behind (questions_in h) rest q here in
    record {
      order = (
        more.0,
        ap (λ l. l ++ more.0) (questions_ask h id route pdu)
            ∙ append_assoc (questions_in h) (q ∷ []) more.0
            ∙ ap (λ l. questions_in h ++ l) (sym more.1) ∙ legal.order.1,
      );
      each = each_more plan h (Ask id route pdu) legal next;
    }

ask_is : (plan : HostPlan) (h : List HostEntry) (id : CallId) (route pdu : List ℕ)
    → IsHostHistory plan (h ++ Ask id route pdu ∷ [])
    → option_map question_due (slice_get plan.requests (length (requests_in h)))
    ≡ Some (record { route = route; pdu = pdu })
ask_is plan h id route pdu legal =
    let q : Question = record { route = route; pdu = pdu } in
    let rest = legal.order.0 in
    let all : questions_in h ++ q ∷ rest ≡ questions_of plan =
    sym (append_assoc (questions_in h) (q ∷ []) rest)
    ∙ ap (λ l. l ++ rest) (sym (questions_ask h id route pdu)) ∙ legal.order.1 in
    sym (asked_place plan h) ∙ ap (λ l. slice_get l (length (questions_in h))) (sym all)
    ∙ get_behind (questions_in h) q rest

-- ---- any entry

pub may_of : (v : HostIs) (e : HostEntry) → IsHostHistory v.plan v.history → MayComeNext v e
    → HostMayFollow v e
may_of v (Ask id route pdu) legal next = may_ask v.plan v.history id route pdu legal next.0 next.1
may_of v (Answer id result) legal next = may_answer v.plan v.history id result legal next
may_of v (Served id request reply) legal next =
    may_serve v.plan v.history id request reply legal next

pub next_of : (v : HostIs) (e : HostEntry) → HostMayFollow v e → MayComeNext v e
next_of v (Ask id route pdu) may =
    (last_fits v.plan v.history (Ask id route pdu) may, ask_is v.plan v.history id route pdu may)
next_of v (Answer id result) may = last_fits v.plan v.history (Answer id result) may
next_of v (Served id request reply) may = last_fits v.plan v.history (Served id request reply) may
