-- The Requests that the paths of a host have without an answer.
use Rattle.std.proofs.Common.{◌≡◌, ◌+◌, ◌==◌, ◌&&◌, ℕ, false, cond, List, []}
use Rattle.std.proofs.Common.{◌∷◌, ◌++◌, Some, None, map}
use Rattle.std.proofs.Common.{reverse, sym, ap, subst, ◌∙◌, inl, inr, append_assoc}
use Rattle.std.specs.Prelude.{if◌then◌else◌}
use Rattle.std.specs.Option.{option_or}
use Rattle.std.specs.List.{filter, find, list_any, count_by}
use Rattle.std.proofs.lemmas.Bool.{cases_Bool, eqb-true, eq-eqb, not-true, true≢false}
use Rattle.std.proofs.lemmas.List.{reverse-append, reverse-reverse}
use Rattle.std.proofs.lemmas.List.Elements.{filter_map-append}
use Rattle.std.proofs.lemmas.List.Folds.{find-append}
use Rattle.plant_types.specs.declared.net.HostPlan.{HostPlan}
use Rattle.ring_core.specs.MstrBlock.{network_paths}
use Rattle.ring_core.specs.declared.frame.Frame.{Frame}
use Rattle.ring_core.specs.Words.{request_along}
use Rattle.ring_core.specs.Legal.{IsPath}
use Rattle.host_port.specs.declared.entry.HostEntry.{HostEntry}
use Rattle.host_port.specs.declared.entry.HostEntry.TheVariants.{Ask, Answer}
use Rattle.host_port.specs.declared.host.Path.{Path}
use Rattle.host_port.specs.Calls.{unanswered_in, is_ask, is_request_of}
use Rattle.host_port.specs.Calls.{goes_on_path, open_on}
use Rattle.host_port.specs.Legal.{IsHostHistory, Question, question_by, questions_in, questions_of}
use Rattle.host_port.specs.Kept.{IsHostKept, IsLast, last_on, path_in, paths_after}
use Rattle.host_port.specs.Laws.{AsksOpenTheirPath, AnswersFreeTheirPath, ServingKeepsPaths}
use Rattle.host_port.specs.Laws.{OpenRequestsAreLast, OpenRequestsFollow}
use Rattle.host_port.specs.Laws.{AsksHaveNewNames}
use Rattle.host_port.specs.Laws.{AsksMakeNewCalls, CountsFollow}
use Rattle.host_port.proofs.Lists.{and_true, any_filter, any_none, find_filter, find_none, found}
use Rattle.host_port.proofs.Lists.{found_any, or_none}
use Rattle.host_port.proofs.Next.{last_fits, next_is}
use Rattle.host_port.proofs.Unanswered.{is_itself, keeps, out_last, requests_answer}
use Rattle.host_port.proofs.Unanswered.{requests_served, unanswered_answer, unanswered_served}
use Rattle.host_port.proofs.Keeping.{asked_ask, kept_more, kept_new, none_left, not_ended}
use Rattle.host_port.proofs.Keeping.{others_stay, unanswered_more}

-- ---- what each legal history keeps

front_order : (plan : HostPlan) (h more : List HostEntry) → IsHostHistory plan (h ++ more)
    → (rest : List Question) × (questions_in h ++ rest ≡ questions_of plan)
front_order plan h more legal =
    let last = questions_in more in
    let all : questions_in (h ++ more) ≡ questions_in h ++ last =
    filter_map-append question_by h more in (
      last ++ legal.order.0,
      sym (append_assoc (questions_in h) last legal.order.0)
          ∙ ap (λ l. l ++ legal.order.0) (sym all) ∙ legal.order.1,
    )

front : (plan : HostPlan) (h more : List HostEntry) → IsHostHistory plan (h ++ more)
    → IsHostHistory plan h
front plan h more legal = record {
  order = front_order plan h more legal;
  each = λ before after entry is.
      legal.each before (after ++ more) entry
      (ap (λ l. l ++ more) is ∙ append_assoc before (entry ∷ after) more);
}

record Keeps (plan : HostPlan) (h : List HostEntry) : Type 0 where
  pub made : ℕ
  pub paths : List Path
  pub kept : IsHostKept plan made paths h

keeps_back : (plan : HostPlan) (es : List HostEntry) → IsHostHistory plan (reverse es)
    → Keeps plan (reverse es)
keeps_back plan [] legal =
    record { made = 0; paths = map (path_in []) network_paths; kept = kept_new plan }
keeps_back plan (e ∷ es) legal =
    let last : reverse (e ∷ es) ≡ reverse es ++ e ∷ [] = reverse-append (e ∷ []) es in
    let now = subst (IsHostHistory plan) last legal in
    let k = keeps_back plan es (front plan (reverse es) (e ∷ []) now) in
    let more : Keeps plan (reverse es ++ e ∷ []) = record {
      made = k.made + cond (is_ask e) 1 0;
      paths = paths_after k.paths e;
      kept = kept_more plan k.made k.paths (reverse es) e k.kept now;
    } in
    subst (Keeps plan) (sym last) more

legal_keeps : (plan : HostPlan) (h : List HostEntry) → IsHostHistory plan h → Keeps plan h
legal_keeps plan h legal =
    let back = reverse-reverse h in
    subst (Keeps plan) back
    (keeps_back plan (reverse h) (subst (IsHostHistory plan) (sym back) legal))

-- ---- the open Request of a path

open_ask : AsksOpenTheirPath
open_ask plan h id route pdu path legal =
    let u = unanswered_in h in
    let f : Frame = request_along id route pdu in
    let before = front plan h (Ask id route pdu ∷ []) legal in
    let kept = (legal_keeps plan h before).kept in
    let next = next_is plan h id (last_fits plan h (Ask id route pdu) legal) in
    let more = unanswered_more plan h id route pdu (not_ended plan h id next kept.ended) in
    let joined : open_on (h ++ Ask id route pdu ∷ []) path
    ≡ option_or (find (goes_on_path path) u) (find (goes_on_path path) (f ∷ [])) =
    ap (find (goes_on_path path)) more ∙ find-append (goes_on_path path) u (f ∷ []) in
    elim (cases_Bool (id.path == path)) [
      | inl here ↦
          let free : list_any (goes_on_path id.path) u ≡ false =
          not-true (list_any (goes_on_path id.path) u) next.free in
          let none : find (goes_on_path path) u ≡ None = find_none (goes_on_path path) u
          (subst (λ q. list_any (goes_on_path q) u ≡ false) (eqb-true id.path path here) free) in
          joined ∙ ap (λ o. option_or o (find (goes_on_path path) (f ∷ []))) none
          ∙ ap (λ b. cond b (Some f) None) here
          ∙ ap (λ b. if b then Some f else open_on h path) (sym here)
      | inr other ↦
          joined ∙ ap (λ b. option_or (find (goes_on_path path) u) (cond b (Some f) None)) other
          ∙ or_none (find (goes_on_path path) u)
          ∙ ap (λ b. if b then Some f else open_on h path) (sym other)
    ]

open_answer : AnswersFreeTheirPath
open_answer plan h id result path legal =
    let u = unanswered_in h in
    let before = front plan h (Answer id result ∷ []) legal in
    let kept = (legal_keeps plan h before).kept in
    let last = out_last plan h u id kept.unanswered (last_fits plan h (Answer id result) legal) in
    let fewer = ap (find (goes_on_path path)) (unanswered_answer h id result) in
    elim (cases_Bool (id.path == path)) [
      | inl here ↦
          let none : list_any (goes_on_path id.path) (filter (keeps id) u) ≡ false =
          any_filter (goes_on_path id.path) (keeps id) u
          ∙ any_none (IsLast plan h) (λ r. keeps id r && goes_on_path id.path r)
          (none_left plan h id last) u kept.unanswered in
          fewer ∙ find_none (goes_on_path path) (filter (keeps id) u)
          (subst (λ q. list_any (goes_on_path q) (filter (keeps id) u) ≡ false)
          (eqb-true id.path path here) none)
          ∙ ap (λ b. if b then None else open_on h path) (sym here)
      | inr other ↦
          let apart : path ≡ id.path → ⊥ =
          λ e. true≢false (sym (eq-eqb id.path path (sym e)) ∙ other) in
          fewer ∙ find_filter (goes_on_path path) (keeps id)
          (λ r on. sym (and_true (keeps id r)) ∙ ap (λ b. keeps id r && b) (sym on)
          ∙ others_stay id path apart r ∙ on) u
          ∙ ap (λ b. if b then None else open_on h path) (sym other)
    ]

open_served : ServingKeepsPaths
open_served h id request reply path =
    ap (find (goes_on_path path)) (unanswered_served h id request reply)

open_last : OpenRequestsAreLast
open_last plan h path f legal is =
    let kept = (legal_keeps plan h legal).kept in
    let has = found (IsLast plan h) (goes_on_path path) (unanswered_in h) f kept.unanswered is in
    let here = eqb-true f.id.path path has.0 in
    record {
      out = found_any (is_request_of f.id) (goes_on_path path) (unanswered_in h) f is
          (is_itself f.id);
      name = has.1.name ∙ ap (last_on plan h) here;
      is_path = subst IsPath here has.1.path;
    }

new_calls : AsksMakeNewCalls
new_calls plan h id route pdu legal =
    let next = next_is plan h id (last_fits plan h (Ask id route pdu) legal) in
    record {
      name = next.name;
      free = find_none (goes_on_path id.path) (unanswered_in h)
          (not-true (list_any (goes_on_path id.path) (unanswered_in h)) next.free);
      is_path = next.path;
    }

counts : CountsFollow
counts = record {
  asks = asked_ask;
  answers = λ h id result path. ap (count_by (goes_on_path path)) (requests_answer h id result);
  serving = λ h id request reply path. ap (count_by (goes_on_path path))
      (requests_served h id request reply);
}

pub open_requests : OpenRequestsFollow
open_requests = record {
  asks = open_ask;
  answers = open_answer;
  serving = open_served;
  last = open_last;
  new = new_calls;
  counts = counts;
}

-- ---- names

pub new_names : AsksHaveNewNames
new_names plan history before after id route pdu legal is =
    let joined : history ≡ (before ++ Ask id route pdu ∷ []) ++ after = is
    ∙ sym (append_assoc before (Ask id route pdu ∷ []) after) in
    let there = front plan (before ++ Ask id route pdu ∷ []) after
    (subst (IsHostHistory plan) joined legal) in
    let kept = (legal_keeps plan before (front plan before (Ask id route pdu ∷ []) there)).kept in
    not_ended plan before id
    (next_is plan before id (last_fits plan before (Ask id route pdu) there)) kept.ended
