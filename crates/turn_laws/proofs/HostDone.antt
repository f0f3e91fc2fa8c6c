-- A host that is done goes on by refusals alone, and each of its requests has one answer.
use Rattle.std.proofs.Common.{◌≡◌, ℕ, zero, suc, ◌+◌, ◌≤◌, ◌<◌, ◌==◌, Bool, true, false, cond}
use Rattle.std.proofs.Common.{List, [], ◌∷◌, ◌++◌, length, filter, filter_map}
use Rattle.std.proofs.Common.{refl, sym, ap, subst, ◌∙◌, arith, append_assoc, append-nil}
use Rattle.std.proofs.Common.{length-append}
use Rattle.std.specs.Prelude.{not, ◌&&◌, ◌||◌}
use Rattle.std.specs.List.{AllByRecursion as Each, list_any, slice_index_or}
use Rattle.std.proofs.lemmas.Bool.{and_parts, eqb-true, eq-eqb}
use Rattle.std.proofs.lemmas.List.{length-map}
use Rattle.std.proofs.lemmas.List.Elements.{filter_map-append}
use Rattle.std.proofs.lemmas.List.Folds.{list_any-append}
use Rattle.mstr_block.specs.Call.{is_same_call}
use Rattle.mstr_block.specs.declared.call.CallId.{CallId}
use Rattle.plant_types.specs.declared.net.HostPlan.{HostPlan}
use Rattle.ring_core.specs.declared.frame.Frame.{Frame}
use Rattle.host_port.specs.declared.entry.HostEntry.{HostEntry}
use Rattle.host_port.specs.declared.entry.HostEntry.TheVariants.{Ask, Answer, Served}
use Rattle.host_port.specs.Calls.{answered_calls, has_answer, requests_in}
use Rattle.host_port.specs.Calls.{unanswered_in}
use Rattle.host_port.specs.Host.{host_is_done}
use Rattle.host_port.specs.Legal.{IsHostHistory, Question, question_by, question_due, questions_in}
use Rattle.host_port.specs.Legal.{questions_of}
use Rattle.host_port.proofs.Next.{questions_count}
use Rattle.host_port.proofs.Unanswered.{ended_answer, ended_ask, ended_served, requests_answer}
use Rattle.host_port.proofs.Unanswered.{requests_ask, requests_served, unanswered_served}
use Rattle.tied_lists.specs.Items.{Called, Ended, Items, kind_in, net_ask}
use Rattle.tied_lists.proofs.Boxes.{count-push}
use Rattle.joint_history.specs.Complete.{EndsEachCall}
use Rattle.joint_history.specs.Reading.{host_item_next, host_items_after, host_items_of, outcome_of}
use Rattle.comm_port.proofs.HostLists.{items_with}
use Rattle.turn_laws.proofs.Passes.{nil-cons}
use Rattle.turn_laws.proofs.Rests.{ends_of, none-counted, over, same-equal, same-refl, some-counted}

clash : {C : Type 0} {b : Bool} → b ≡ true → b ≡ false → C
clash is no' = let e : true ≡ false = sym is ∙ no' in absurd cc

-- ---- fronts of a legal history

pub front_of : (plan : HostPlan) (h rest : List HostEntry) → IsHostHistory plan (h ++ rest)
    → IsHostHistory plan h
front_of plan h rest legal = record {
  order = (
    questions_in rest ++ legal.order.0,
    sym (append_assoc (questions_in h) (questions_in rest) legal.order.0)
        ∙ ap (λ (l : List Question). l ++ legal.order.0) (sym joined) ∙ legal.order.1,
  );
  each = λ before after entry is. legal.each before (after ++ rest) entry
      (ap (λ l. l ++ rest) is ∙ append_assoc before (entry ∷ after) rest);
}
  where
    joined : questions_in (h ++ rest) ≡ questions_in h ++ questions_in rest
    joined = filter_map-append question_by h rest

-- no more is asked than the plan has
pub asked-few : (plan : HostPlan) (h : List HostEntry) → IsHostHistory plan h
    → length (requests_in h) ≤ length plan.requests
asked-few plan h legal =
    let all = ap length legal.order.1 in
    let two = length-append (questions_in h) legal.order.0 in
    let asked = questions_count h in
    let due : length (questions_of plan) ≡ length plan.requests =
    length-map plan.requests question_due in
    omega (arith, all, two, asked, due)

-- ---- a host that is done

-- all requests were made, and none is without an answer
pub record DidAll (plan : HostPlan) (h : List HostEntry) : Type 0 where
  pub asked : length (requests_in h) ≡ length plan.requests
  pub answered : unanswered_in h ≡ []

no-length : {X : Type 0} (xs : List X) → (length xs == 0) ≡ true → xs ≡ []
no-length [] is = refl
no-length (x ∷ xs) is = absurd (let none = eqb-true (length (x ∷ xs)) 0 is in omega (arith, none))

pub did-all : (plan : HostPlan) (h : List HostEntry)
    → host_is_done (record { plan = plan; history = h }) ≡ true → DidAll plan h
did-all plan h done =
    let two = and_parts (length (requests_in h) == length plan.requests)
    (length (unanswered_in h) == 0) done in
    record {
      asked = eqb-true (length (requests_in h)) (length plan.requests) two.0;
      answered = no-length (unanswered_in h) two.1;
    }

pub all-done : (plan : HostPlan) (h : List HostEntry) → DidAll plan h
    → host_is_done (record { plan = plan; history = h }) ≡ true
all-done plan h d =
    let one = eq-eqb (length (requests_in h)) (length plan.requests) d.asked in
    let two : (length (unanswered_in h) == 0) ≡ true = ap (λ l. length l == 0) d.answered in
    λ i. one i && two i

-- it goes on so
pub record GoesDone (plan : HostPlan) (h new : List HostEntry) : Type 0 where
  pub done : DidAll plan new
  pub calls : (host_items_of new).calls ≡ (host_items_of h).calls
  pub ends : (host_items_of new).ends ≡ (host_items_of h).ends

done-push : (plan : HostPlan) (h : List HostEntry) (e : HostEntry)
    → IsHostHistory plan (h ++ e ∷ []) → DidAll plan h → GoesDone plan h (h ++ e ∷ [])
done-push plan h (Ask id route pdu) legal d =
    let few = asked-few plan (h ++ Ask id route pdu ∷ []) legal in
    let one = ap length (requests_ask h id route pdu) in
    let two = length-append (requests_in h)
    (Rattle.host_port.specs.Calls.requests_in (Ask id route pdu ∷ [])) in
    let all = d.asked in
    absurd (omega (arith, few, one, two, all))
done-push plan h (Answer id result) legal d =
    let fits = legal.each h [] (Answer id result) refl in
    clash fits (ap (list_any (Rattle.host_port.specs.Calls.is_request_of id)) d.answered)
done-push plan h (Served id request reply) legal d = record {
  done = record {
    asked = ap length (requests_served h id request reply) ∙ d.asked;
    answered = unanswered_served h id request reply ∙ d.answered;
  };
  calls = ap (λ (a : Items). a.calls) (items_with h (Served id request reply));
  ends = ap (λ (a : Items). a.ends) (items_with h (Served id request reply));
}

pub done-more : (plan : HostPlan) (h more : List HostEntry) → IsHostHistory plan (h ++ more)
    → DidAll plan h → GoesDone plan h (h ++ more)
done-more plan h [] legal d =
    subst (GoesDone plan h) (sym (append-nil h)) (record { done = d; calls = refl; ends = refl })
done-more plan h (e ∷ more) legal d =
    let joined = subst (IsHostHistory plan) (sym (append_assoc h (e ∷ []) more)) legal in
    let one = done-push plan h e (front_of plan (h ++ e ∷ []) more joined) d in
    let all = done-more plan (h ++ e ∷ []) more joined one.done in
    subst (GoesDone plan h) (append_assoc h (e ∷ []) more) (record {
      done = all.done;
      calls = all.calls ∙ one.calls;
      ends = all.ends ∙ one.ends;
    })

-- ---- as many calls as requests

asks-after : (a : Items) (h : List HostEntry)
    → length (filter_map net_ask (host_items_after a h).calls)
    ≡ length (filter_map net_ask a.calls) + length (requests_in h)
asks-after a [] = omega arith
asks-after a (Ask id route pdu ∷ h) =
    let e = Ask id route pdu in
    let more = asks-after (host_item_next a e) h in
    let one = ap length (filter_map-append net_ask a.calls
    (record { id = id; sort = Rattle.tied_lists.specs.Items.OverNet route pdu } ∷ [])) in
    let two = length-append (filter_map net_ask a.calls)
    (record { id = id; route = route; pdu = pdu } ∷ []) in
    omega (arith, more, one, two)
asks-after a (Answer id result ∷ h) = asks-after (host_item_next a (Answer id result)) h
asks-after a (Served id request reply ∷ h) =
    asks-after (host_item_next a (Served id request reply)) h

pub asks-many : (h : List HostEntry)
    → length (filter_map net_ask (host_items_of h).calls) ≡ length (requests_in h)
asks-many h = let all = asks-after Rattle.tied_lists.specs.Items.no_items h in omega (arith, all)

-- ---- each call ends once

-- whether a call ended is told by both lists
or-last : (x y : Bool) → (x || (y || false)) ≡ (x || y)
or-last true y = refl
or-last false true = refl
or-last false false = refl

same-turned : (a b : CallId) → is_same_call a b ≡ is_same_call b a
same-turned a b = at (is_same_call a b) (is_same_call b a) refl refl
  where
    at : (x y : Bool) → is_same_call a b ≡ x → is_same_call b a ≡ y
        → is_same_call a b ≡ is_same_call b a
    at true true p q = p ∙ sym q
    at false false p q = p ∙ sym q
    at true false p q =
        clash (ap (λ (z : CallId). is_same_call z a) (sym (same-equal a b p)) ∙ same-refl a) q
    at false true p q =
        clash (ap (λ (z : CallId). is_same_call z b) (sym (same-equal b a q)) ∙ same-refl b) p

over-push : (id : CallId) (ends : List Ended) (e : Ended)
    → over id (ends ++ e ∷ []) ≡ (over id ends || is_same_call e.id id)
over-push id ends e = list_any-append (λ (x : Ended). is_same_call x.id id) ends (e ∷ [])
    ∙ or-last (over id ends) (is_same_call e.id id)

answer-push : (id name : CallId) (ends : List CallId) → list_any (is_same_call id)
    (ends ++ name ∷ []) ≡ (list_any (is_same_call id) ends || is_same_call id name)
answer-push id name ends = list_any-append (is_same_call id) ends (name ∷ [])
    ∙ or-last (list_any (is_same_call id) ends) (is_same_call id name)

-- by one entry more
over-next : (h : List HostEntry) (e : HostEntry) (id : CallId)
    → over id (host_items_of h).ends ≡ has_answer h id
    → over id (host_items_of (h ++ e ∷ [])).ends ≡ has_answer (h ++ e ∷ []) id
over-next h (Ask name to pdu) id old =
    ap (λ (a : Items). over id a.ends) (items_with h (Ask name to pdu)) ∙ old
    ∙ sym (ap (list_any (is_same_call id)) (ended_ask h name to pdu))
over-next h (Answer name result) id old =
    ap (λ (a : Items). over id a.ends) (items_with h (Answer name result))
    ∙ over-push id (host_items_of h).ends _ ∙ (λ i. old i || same-turned name id i)
    ∙ sym (ap (list_any (is_same_call id)) (ended_answer h name result)
    ∙ answer-push id name (answered_calls h))
over-next h (Served name request reply) id old =
    ap (λ (a : Items). over id a.ends) (items_with h (Served name request reply)) ∙ old
    ∙ sym (ap (list_any (is_same_call id)) (ended_served h name request reply))

over-more : (h more : List HostEntry) (id : CallId)
    → over id (host_items_of h).ends ≡ has_answer h id
    → over id (host_items_of (h ++ more)).ends ≡ has_answer (h ++ more) id
over-more h [] id old =
    subst (λ l. over id (host_items_of l).ends ≡ has_answer l id) (sym (append-nil h)) old
over-more h (e ∷ more) id old =
    subst (λ l. over id (host_items_of l).ends ≡ has_answer l id) (append_assoc h (e ∷ []) more)
    (over-more (h ++ e ∷ []) more id (over-next h e id old))

over-answer : (h : List HostEntry) (id : CallId) → over id (host_items_of h).ends ≡ has_answer h id
over-answer h id = over-more [] h id refl

-- a call without an answer has none
open-none : (h : List HostEntry) (requests : List Frame) (id : CallId)
    → list_any (Rattle.host_port.specs.Calls.is_request_of id)
    (filter (λ request. not (has_answer h request.id)) requests) ≡ true → has_answer h id ≡ false
open-none h [] id some = absurd (let no' : false ≡ true = some in cc)
open-none h (r ∷ rs) id some = at (has_answer h r.id) refl some (open-none h rs id)
  where
    first : (b : Bool) → is_same_call r.id id ≡ b → has_answer h r.id ≡ false
        → (b || list_any (Rattle.host_port.specs.Calls.is_request_of id)
        (filter (λ request. not (has_answer h request.id)) rs)) ≡ true
        → (list_any (Rattle.host_port.specs.Calls.is_request_of id)
        (filter (λ request. not (has_answer h request.id)) rs) ≡ true → has_answer h id ≡ false)
        → has_answer h id ≡ false
    first true same none some' rest = ap (has_answer h) (sym (same-equal r.id id same)) ∙ none
    first false same none some' rest = rest some'

    at : (b : Bool) → has_answer h r.id ≡ b
        → list_any (Rattle.host_port.specs.Calls.is_request_of id)
        (cond (not b) (r ∷ filter (λ request. not (has_answer h request.id)) rs)
        (filter (λ request. not (has_answer h request.id)) rs)) ≡ true
        → (list_any (Rattle.host_port.specs.Calls.is_request_of id)
        (filter (λ request. not (has_answer h request.id)) rs) ≡ true → has_answer h id ≡ false)
        → has_answer h id ≡ false
    at true is some' rest = rest some'
    at false is some' rest = first (is_same_call r.id id) refl is some' rest

-- a call ends once at most
few-push : (plan : HostPlan) (h : List HostEntry) (e : HostEntry) (id : CallId)
    → IsHostHistory plan (h ++ e ∷ []) → ends_of id (host_items_of h).ends ≤ 1
    → ends_of id (host_items_of (h ++ e ∷ [])).ends ≤ 1
few-push plan h (Ask name to pdu) id legal few =
    subst (λ (a : Items). ends_of id a.ends ≤ 1) (sym (items_with h (Ask name to pdu))) few
few-push plan h (Served name request reply) id legal few =
    subst (λ (a : Items). ends_of id a.ends ≤ 1)
    (sym (items_with h (Served name request reply))) few
few-push plan h (Answer name result) id legal few =
    subst (λ (a : Items). ends_of id a.ends ≤ 1) (sym (items_with h (Answer name result)))
    (at (is_same_call name id) refl)
  where
    ends : List Ended
    ends = (host_items_of h).ends

    end : Ended
    end = record {
      id = name;
      kind = kind_in (host_items_of h).calls name;
      outcome = outcome_of result;
    }

    at : (b : Bool) → is_same_call name id ≡ b
        → ends_of id (host_item_next (host_items_of h) (Answer name result)).ends ≤ 1
    at true same =
        let c = count-push (λ (x : Ended). is_same_call x.id id) ends end in
        let fits = legal.each h [] (Answer name result) refl in
        let none = none-counted name ends
        (over-answer h name ∙ open-none h (requests_in h) name fits) in
        let here : ends_of id ends ≡ 0 =
        ap (λ (x : CallId). ends_of x ends) (sym (same-equal name id same)) ∙ none in
        let o : cond {A = ℕ} (is_same_call name id) 1 0 ≡ 1 = ap (λ b. cond {A = ℕ} b 1 0) same in
        omega (arith, c, here, o)
    at false same =
        let c = count-push (λ (x : Ended). is_same_call x.id id) ends end in
        let o : cond {A = ℕ} (is_same_call name id) 1 0 ≡ 0 = ap (λ b. cond {A = ℕ} b 1 0) same in
        omega (arith, c, few, o)

few-more : (plan : HostPlan) (h more : List HostEntry) (id : CallId)
    → IsHostHistory plan (h ++ more) → ends_of id (host_items_of h).ends ≤ 1
    → ends_of id (host_items_of (h ++ more)).ends ≤ 1
few-more plan h [] id legal few =
    subst (λ l. ends_of id (host_items_of l).ends ≤ 1) (sym (append-nil h)) few
few-more plan h (e ∷ more) id legal few =
    let joined = subst (IsHostHistory plan) (sym (append_assoc h (e ∷ []) more)) legal in
    subst (λ l. ends_of id (host_items_of l).ends ≤ 1) (append_assoc h (e ∷ []) more)
    (few-more plan (h ++ e ∷ []) more id joined
    (few-push plan h e id (front_of plan (h ++ e ∷ []) more joined) few))

-- each call was asked for
abbrev WasAsked : List Frame → Called → Type 0
WasAsked requests c = list_any (λ (request : Frame). is_same_call request.id c.id) requests ≡ true

each-more : (requests more : List Frame) (cs : List Called) → Each (WasAsked requests) cs
    → Each (WasAsked (requests ++ more)) cs
each-more requests more [] all = tt
each-more requests more (c ∷ cs) all = (
  list_any-append (λ (request : Frame). is_same_call request.id c.id) requests more
      ∙ or-left _ _ all.0,
  each-more requests more cs all.1,
)
  where
    or-left : (x y : Bool) → x ≡ true → (x || y) ≡ true
    or-left x y is = ap (λ b. b || y) is

each-add : (requests : List Frame) (cs more : List Called) → Each (WasAsked requests) cs
    → Each (WasAsked requests) more → Each (WasAsked requests) (cs ++ more)
each-add requests [] more a b = b
each-add requests (c ∷ cs) more a b = (a.0, each-add requests cs more a.1 b)

asked-next : (h : List HostEntry) (e : HostEntry)
    → Each (WasAsked (requests_in h)) (host_items_of h).calls
    → Each (WasAsked (requests_in (h ++ e ∷ []))) (host_items_of (h ++ e ∷ [])).calls
asked-next h (Ask id route pdu) all =
    let new = Rattle.host_port.specs.Calls.requests_in (Ask id route pdu ∷ []) in
    subst (λ (a : Items). Each (WasAsked (requests_in (h ++ Ask id route pdu ∷ []))) a.calls)
    (sym (items_with h (Ask id route pdu)))
    (subst (λ (l : List Frame). Each (WasAsked l) ((host_items_of h).calls
    ++ record { id = id; sort = Rattle.tied_lists.specs.Items.OverNet route pdu } ∷ []))
    (sym (requests_ask h id route pdu))
    (each-add (requests_in h ++ new) (host_items_of h).calls _
    (each-more (requests_in h) new (host_items_of h).calls all) (
      list_any-append (λ (request : Frame). is_same_call request.id id) (requests_in h) new
          ∙ or-right (list_any (λ (request : Frame). is_same_call request.id id) (requests_in h)) _
          (ap (λ b. b || false) (same-refl id)),
      tt,
    )))
  where
    or-right : (x y : Bool) → y ≡ true → (x || y) ≡ true
    or-right true y is = refl
    or-right false y is = is
asked-next h (Answer id result) all =
    subst (λ (a : Items). Each (WasAsked (requests_in (h ++ Answer id result ∷ []))) a.calls)
    (sym (items_with h (Answer id result)))
    (subst (λ (l : List Frame). Each (WasAsked l) (host_items_of h).calls)
    (sym (requests_answer h id result)) all)
asked-next h (Served id request reply) all =
    subst (λ (a : Items). Each (WasAsked (requests_in (h ++ Served id request reply ∷ []))) a.calls)
    (sym (items_with h (Served id request reply)))
    (subst (λ (l : List Frame). Each (WasAsked l) (host_items_of h).calls)
    (sym (requests_served h id request reply)) all)

asked-more : (h more : List HostEntry) → Each (WasAsked (requests_in h)) (host_items_of h).calls
    → Each (WasAsked (requests_in (h ++ more))) (host_items_of (h ++ more)).calls
asked-more h [] all = subst (λ l. Each (WasAsked (requests_in l)) (host_items_of l).calls)
    (sym (append-nil h)) all
asked-more h (e ∷ more) all =
    subst (λ l. Each (WasAsked (requests_in l)) (host_items_of l).calls)
    (append_assoc h (e ∷ []) more)
    (asked-more (h ++ e ∷ []) more (asked-next h e all))

-- so each has an answer, where none is without
none-open : (h : List HostEntry) (requests : List Frame) (id : CallId)
    → filter (λ (request : Frame). not (has_answer h request.id)) requests ≡ []
    → list_any (λ (request : Frame). is_same_call request.id id) requests ≡ true
    → has_answer h id ≡ true
none-open h [] id none some = absurd (let no' : false ≡ true = some in cc)
none-open h (r ∷ rs) id none some = at (has_answer h r.id) refl none (none-open h rs id)
  where
    named : (b : Bool) → is_same_call r.id id ≡ b → has_answer h r.id ≡ true
        → filter (λ (request : Frame). not (has_answer h request.id)) rs ≡ []
        → (b || list_any (λ (request : Frame). is_same_call request.id id) rs) ≡ true
        → (filter (λ (request : Frame). not (has_answer h request.id)) rs ≡ []
        → list_any (λ (request : Frame). is_same_call request.id id) rs ≡ true
        → has_answer h id ≡ true) → has_answer h id ≡ true
    named true same is left some' rest = ap (has_answer h) (sym (same-equal r.id id same)) ∙ is
    named false same is left some' rest = rest left some'

    at : (b : Bool) → has_answer h r.id ≡ b
        → cond (not b) (r ∷ filter (λ (request : Frame). not (has_answer h request.id)) rs)
        (filter (λ (request : Frame). not (has_answer h request.id)) rs) ≡ []
        → (filter (λ (request : Frame). not (has_answer h request.id)) rs ≡ []
        → list_any (λ (request : Frame). is_same_call request.id id) rs ≡ true
        → has_answer h id ≡ true) → has_answer h id ≡ true
    at true is left rest = named (is_same_call r.id id) refl is left some rest
    at false is left rest = nil-cons (sym left)

each-at : (P : Called → Type 0) (cs : List Called) (k : ℕ) (d : Called) → Each P cs → k < length cs
    → P (slice_index_or cs k d)
each-at P [] k d all within = absurd (omega (arith, within))
each-at P (c ∷ cs) zero d all within = all.0
each-at P (c ∷ cs) (suc k) d all within = each-at P cs k d all.1 (omega (arith, within))

pub host-ended : (plan : HostPlan) (h : List HostEntry) → IsHostHistory plan h
    → unanswered_in h ≡ [] → EndsEachCall (host_items_of h)
host-ended plan h legal none k d within =
    let a = host_items_of h in
    let c = slice_index_or a.calls k d in
    let asked = each-at (WasAsked (requests_in h)) a.calls k d (asked-more [] h tt) within in
    let least = some-counted c.id a.ends
    (over-answer h c.id ∙ none-open h (requests_in h) c.id none asked) in
    let most = few-more plan [] h c.id legal (omega arith) in
    omega (arith, least, most)
