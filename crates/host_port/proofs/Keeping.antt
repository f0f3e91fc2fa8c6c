-- What the fields keep behind each entry.
use Rattle.std.proofs.Common.{◌≡◌, ◌≤◌, ◌+◌, ◌-◌, ◌==◌, ◌||◌, ◌&&◌, ℕ, Bool, true, false, not, cond}
use Rattle.std.proofs.Common.{List, [], ◌∷◌, ◌++◌, length, map, set}
use Rattle.std.proofs.Common.{refl, sym, ap, subst, ◌∙◌, inl, inr, arith, length-append}
use Rattle.std.specs.List.{filter, list_any, count_by, AllByRecursion}
use Rattle.std.proofs.lemmas.Bool.{cases_Bool, eqb-true, eq-eqb, ne_eqb, not-true, true≢false}
use Rattle.std.proofs.lemmas.List.Sums.{sum_by_push}
use Rattle.std.proofs.lemmas.List.Folds.{list_any-append}
use Rattle.plant_types.specs.declared.net.HostPlan.{HostPlan}
use Rattle.ring_core.specs.MstrBlock.{is_same_call, network_paths, CallId}
use Rattle.ring_core.specs.declared.frame.Frame.{Frame}
use Rattle.ring_core.specs.Words.{request_along}
use Rattle.host_port.specs.declared.entry.HostEntry.{HostEntry}
use Rattle.host_port.specs.declared.entry.HostEntry.TheVariants.{Ask, Answer, Served}
use Rattle.host_port.specs.declared.entry.HostResult.{HostResult}
use Rattle.host_port.specs.declared.host.Path.{Path}
use Rattle.host_port.specs.Calls.{requests_in, answered_calls, has_answer, unanswered_in, is_ask}
use Rattle.host_port.specs.Calls.{goes_on_path, asked_on}
use Rattle.host_port.specs.Legal.{IsHostHistory, questions_of}
use Rattle.host_port.specs.Host.{HostIs, HostWentOn}
use Rattle.host_port.specs.Kept.{HasPath, IsHostKept, IsLast, last_on, path_in, paths_after}
use Rattle.host_port.proofs.Lists.{all_append, all_both, all_filter, all_weaker, and_false}
use Rattle.host_port.proofs.Lists.{any_agree, any_filter, any_none, none_passes}
use Rattle.host_port.proofs.Lists.{or_false, or_true}
use Rattle.host_port.proofs.Next.{NextCall, last_fits, next_is}
use Rattle.host_port.proofs.Paths.{map_four, set_four}
use Rattle.host_port.proofs.Unanswered.{IsLastCall, ended_answer, ended_ask, ended_served, keeps}
use Rattle.host_port.proofs.Unanswered.{out_last, requests_answer, requests_ask}
use Rattle.host_port.proofs.Unanswered.{requests_served, same_name, is_itself, unanswered_answer}
use Rattle.host_port.proofs.Unanswered.{unanswered_ask, unanswered_served}

-- ---- at first

nothing_before : (before after : List HostEntry) (entry : HostEntry)
    → [] ≡ before ++ entry ∷ after → ⊥
nothing_before [] after entry is = cc
nothing_before (x ∷ before) after entry is = cc

pub kept_new : (plan : HostPlan) → IsHostKept plan 0 (map (path_in []) network_paths) []
kept_new plan = record {
  legal = record {
    order = (questions_of plan, refl);
    each = λ before after entry is. absurd (nothing_before before after entry is);
  };
  unanswered = tt;
  ended = tt;
  count = refl;
  state = refl;
}

-- ---- behind an Ask

pub asked_ask : (h : List HostEntry) (id : CallId) (route pdu : List ℕ) (q : ℕ)
    → asked_on (h ++ Ask id route pdu ∷ []) q ≡ asked_on h q + cond (id.path == q) 1 0
asked_ask h id route pdu q =
    ap (count_by (goes_on_path q)) (requests_ask h id route pdu)
    ∙ sum_by_push (λ f. cond (goes_on_path q f) 1 0) (requests_in h)
    (request_along id route pdu)

asked_more : (h : List HostEntry) (id : CallId) (route pdu : List ℕ)
    → asked_on (h ++ Ask id route pdu ∷ []) id.path ≡ asked_on h id.path + 1
asked_more h id route pdu = asked_ask h id route pdu id.path
    ∙ ap (λ b. asked_on h id.path + cond b 1 0) (eq-eqb id.path id.path refl)

asked_other : (h : List HostEntry) (id : CallId) (route pdu : List ℕ) (q : ℕ)
    → (id.path == q) ≡ false
    → asked_on (h ++ Ask id route pdu ∷ []) q ≡ asked_on h q
asked_other h id route pdu q is =
    let none : asked_on h q + 0 ≡ asked_on h q = omega arith in
    asked_ask h id route pdu q ∙ ap (λ b. asked_on h q + cond b 1 0) is ∙ none

asked_rises : (h : List HostEntry) (id : CallId) (route pdu : List ℕ) (q : ℕ)
    → asked_on h q ≤ asked_on (h ++ Ask id route pdu ∷ []) q
asked_rises h id route pdu q =
    let is = asked_ask h id route pdu q in
    omega arith

-- the next call of a path has not ended
pub not_ended : (plan : HostPlan) (h : List HostEntry) (id : CallId) → NextCall plan h id
    → AllByRecursion (λ i. i.seq ≤ asked_on h i.path) (answered_calls h)
    → has_answer h id ≡ false
not_ended plan h id next ended =
    any_none (λ (i : CallId). i.seq ≤ asked_on h i.path) (is_same_call id) (λ i bound.
    elim (cases_Bool (is_same_call id i)) [
      | inl same ↦
          let is : i ≡ id = sym (same_name id i same) in
          let low : id.seq ≤ asked_on h id.path =
          subst (λ (j : CallId). j.seq ≤ asked_on h j.path) is bound in
          let high : id.seq ≡ asked_on h id.path + 1 = ap (λ (j : CallId). j.seq) next.name in
          absurd (omega arith)
      | inr other ↦ other
    ]) (answered_calls h) ended

pub unanswered_more : (plan : HostPlan) (h : List HostEntry) (id : CallId) (route pdu : List ℕ)
    → has_answer h id ≡ false
    → unanswered_in (h ++ Ask id route pdu ∷ [])
    ≡ unanswered_in h ++ request_along id route pdu ∷ []
unanswered_more plan h id route pdu open_call =
    unanswered_ask h id route pdu
    ∙ ap (λ b. unanswered_in h
    ++ cond (not b) (request_along id route pdu ∷ []) []) open_call

last_ask : (plan : HostPlan) (h : List HostEntry) (id : CallId) (route pdu : List ℕ) (r : Frame)
    → IsLast plan h r × (goes_on_path id.path r ≡ false)
    → IsLast plan (h ++ Ask id route pdu ∷ []) r
last_ask plan h id route pdu r is =
    let apart : (id.path == r.id.path) ≡ false = ne_eqb id.path r.id.path
    (λ e. true≢false (sym (eq-eqb r.id.path id.path (sym e)) ∙ is.1)) in
    record {
      name = is.0.name ∙ ap (λ n. record { node = plan.node; path = r.id.path; seq = n })
          (sym (asked_other h id route pdu r.id.path apart));
      path = is.0.path;
    }

-- how a path stands, by its Requests and by those that have no answer
path_as : (k : List HostEntry) (q n : ℕ) (b : Bool) → n ≡ asked_on k q
    → b ≡ list_any (goes_on_path q) (unanswered_in k)
    → record { asked = n; is_open = not (not b) } ≡ path_in k q
path_as k q n b count some = λ i. record { asked = count i; is_open = not (not (some i)) }

pub kept_ask : (plan : HostPlan) (made : ℕ) (paths : List Path) (h : List HostEntry) (id : CallId)
    (route pdu : List ℕ)
    → IsHostKept plan made paths h
    → IsHostHistory plan (h ++ Ask id route pdu ∷ [])
    → IsHostKept plan (made + 1) (paths_after paths (Ask id route pdu)) (h ++ Ask id route pdu ∷ [])
kept_ask plan made paths h id route pdu kept legal =
    let k = h ++ Ask id route pdu ∷ [] in
    let f : Frame = request_along id route pdu in
    let p = id.path in
    let next = next_is plan h id (last_fits plan h (Ask id route pdu) legal) in
    let more = unanswered_more plan h id route pdu (not_ended plan h id next kept.ended) in
    let free : list_any (goes_on_path p) (unanswered_in h) ≡ false =
    not-true (list_any (goes_on_path p) (unanswered_in h)) next.free in
    let others = all_both (IsLast plan h) (λ r. goes_on_path p r ≡ false)
    (unanswered_in h) kept.unanswered
    (none_passes (goes_on_path p) (unanswered_in h) free) in
    let old : AllByRecursion (IsLast plan k) (unanswered_in h) =
    all_weaker (λ r. IsLast plan h r × (goes_on_path p r ≡ false)) (IsLast plan k)
    (last_ask plan h id route pdu) (unanswered_in h) others in
    let name : id ≡ last_on plan k p =
    next.name
    ∙ ap (λ n. record { node = plan.node; path = p; seq = n }) (sym (asked_more h id route pdu)) in
    let on : (q : ℕ) (b : Bool) → (p == q) ≡ b
    → list_any (goes_on_path q) (unanswered_in k)
    ≡ (list_any (goes_on_path q) (unanswered_in h) || (b || false)) =
    λ q b is. ap (list_any (goes_on_path q)) more
    ∙ list_any-append (goes_on_path q) (unanswered_in h) (f ∷ [])
    ∙ ap (λ c. list_any (goes_on_path q) (unanswered_in h) || (c || false)) is in
    record {
      legal = legal;
      unanswered = subst (AllByRecursion (IsLast plan k)) (sym more)
          (all_append (IsLast plan k) (unanswered_in h) (f ∷ []) old
          (record { name = name; path = next.path }, tt));
      ended = subst (AllByRecursion (λ (i : CallId). i.seq ≤ asked_on k i.path))
          (sym (ended_ask h id route pdu))
          (all_weaker (λ (i : CallId). i.seq ≤ asked_on h i.path)
          (λ (i : CallId). i.seq ≤ asked_on k i.path)
          (λ i low. let rises = asked_rises h id route pdu i.path in omega arith)
          (answered_calls h) kept.ended);
      count = ap (λ n. n + 1) kept.count ∙ sym (length-append (requests_in h) (f ∷ []))
          ∙ ap length (sym (requests_ask h id route pdu));
      state = ap (λ l. set l (p - 1) (record { asked = id.seq; is_open = true })) kept.state
          ∙ set_four (path_in h) (path_in k) p (record { asked = id.seq; is_open = true }) next.path
          (path_as k p id.seq true (ap (λ (i : CallId). i.seq) name)
          (sym (on p true (eq-eqb p p refl)
          ∙ or_true (list_any (goes_on_path p) (unanswered_in h)))))
          (λ q apart.
          let other = ne_eqb p q (λ e. apart (sym e)) in
          path_as k q (asked_on h q) (list_any (goes_on_path q) (unanswered_in h))
          (sym (asked_other h id route pdu q other))
          (sym (on q false other ∙ or_false (list_any (goes_on_path q) (unanswered_in h)))));
    }

-- ---- behind an Answer

last_as : (plan : HostPlan) (h k : List HostEntry) → requests_in k ≡ requests_in h → (r : Frame)
    → IsLast plan h r → IsLast plan k r
last_as plan h k same r is = record {
  name = is.name ∙ ap (λ l.
      record { node = plan.node; path = r.id.path; seq = count_by (goes_on_path r.id.path) l })
      (sym same);
  path = is.path;
}

bound_as : (h k : List HostEntry) → requests_in k ≡ requests_in h → (i : CallId)
    → i.seq ≤ asked_on h i.path → i.seq ≤ asked_on k i.path
bound_as h k same i low = subst (λ l. i.seq ≤ count_by (goes_on_path i.path) l) (sym same) low

-- a Request on the path of a call that is out is that of the call
pub none_left : (plan : HostPlan) (h : List HostEntry) (id : CallId) → IsLastCall plan h id
    → (r : Frame) → IsLast plan h r
    → (keeps id r && goes_on_path id.path r) ≡ false
none_left plan h id last r is = elim (cases_Bool (goes_on_path id.path r)) [
  | inl here ↦
      let same : r.id ≡ id = is.name ∙ ap (last_on plan h) (eqb-true r.id.path id.path here)
      ∙ sym last.name in
      let itself : is_same_call r.id id ≡ true = ap (λ (i : CallId). is_same_call i id) same
      ∙ is_itself id in
      ap (λ b. not b && goes_on_path id.path r) itself
  | inr elsewhere ↦ ap (λ b. keeps id r && b) elsewhere ∙ and_false (keeps id r)
]

pub others_stay : (id : CallId) (q : ℕ) → (q ≡ id.path → ⊥) → (r : Frame)
    → (keeps id r && goes_on_path q r) ≡ goes_on_path q r
others_stay id q apart r = elim (cases_Bool (goes_on_path q r)) [
  | inl here ↦ elim (cases_Bool (is_same_call r.id id)) [
    | inl same ↦ absurd (apart (sym (eqb-true r.id.path q here)
        ∙ ap (λ (i : CallId). i.path) (same_name r.id id same)))
    | inr other ↦ ap (λ b. not b && goes_on_path q r) other
  ]
  | inr elsewhere ↦ ap (λ b. keeps id r && b) elsewhere ∙ and_false (keeps id r) ∙ sym elsewhere
]

pub kept_answer : (plan : HostPlan) (made : ℕ) (paths : List Path) (h : List HostEntry)
    (id : CallId) (result : HostResult)
    → IsHostKept plan made paths h
    → IsHostHistory plan (h ++ Answer id result ∷ [])
    → IsHostKept plan made (paths_after paths (Answer id result)) (h ++ Answer id result ∷ [])
kept_answer plan made paths h id result kept legal =
    let k = h ++ Answer id result ∷ [] in
    let p = id.path in
    let u = unanswered_in h in
    let same = requests_answer h id result in
    let fewer = unanswered_answer h id result in
    let last = out_last plan h u id kept.unanswered (last_fits plan h (Answer id result) legal) in
    let seq : id.seq ≡ asked_on h p = ap (λ (i : CallId). i.seq) last.name in
    let on : (q : ℕ) → list_any (goes_on_path q) (unanswered_in k)
    ≡ list_any (λ r. keeps id r && goes_on_path q r) u =
    λ q. ap (list_any (goes_on_path q)) fewer ∙ any_filter (goes_on_path q) (keeps id) u in
    let bound : id.seq ≤ asked_on h p = omega arith in
    record {
      legal = legal;
      unanswered = subst (AllByRecursion (IsLast plan k)) (sym fewer)
          (all_weaker (IsLast plan h) (IsLast plan k) (last_as plan h k same) (filter (keeps id) u)
          (all_filter (IsLast plan h) (keeps id) u kept.unanswered));
      ended = subst (AllByRecursion (λ (i : CallId). i.seq ≤ asked_on k i.path))
          (sym (ended_answer h id result))
          (all_weaker (λ (i : CallId). i.seq ≤ asked_on h i.path)
          (λ (i : CallId). i.seq ≤ asked_on k i.path) (bound_as h k same)
          (answered_calls h ++ id ∷ [])
          (all_append (λ (i : CallId). i.seq ≤ asked_on h i.path) (answered_calls h)
          (id ∷ []) kept.ended (bound, tt)));
      count = kept.count ∙ ap length (sym same);
      state = ap (λ l. set l (p - 1) (record { asked = id.seq; is_open = false })) kept.state
          ∙ set_four (path_in h) (path_in k) p
          (record { asked = id.seq; is_open = false }) last.path
          (path_as k p id.seq false (seq ∙ ap (count_by (goes_on_path p)) (sym same))
          (sym (on p ∙ any_none (IsLast plan h) (λ r. keeps id r && goes_on_path p r)
          (none_left plan h id last) u kept.unanswered)))
          (λ q apart. path_as k q (asked_on h q) (list_any (goes_on_path q) u)
          (ap (count_by (goes_on_path q)) (sym same))
          (sym (on q ∙ any_agree (λ r. keeps id r && goes_on_path q r) (goes_on_path q)
          (others_stay id q apart) u)));
    }

-- ---- behind what is served

pub kept_served : (plan : HostPlan) (made : ℕ) (paths : List Path) (h : List HostEntry)
    (id : CallId) (request reply : List ℕ)
    → IsHostKept plan made paths h
    → IsHostHistory plan (h ++ Served id request reply ∷ [])
    → IsHostKept plan made paths (h ++ Served id request reply ∷ [])
kept_served plan made paths h id request reply kept legal =
    let k = h ++ Served id request reply ∷ [] in
    let same = requests_served h id request reply in
    let ended = ended_served h id request reply in
    let still = unanswered_served h id request reply in
    record {
      legal = legal;
      unanswered = subst (AllByRecursion (IsLast plan k)) (sym still)
          (all_weaker (IsLast plan h) (IsLast plan k) (last_as plan h k same)
          (unanswered_in h) kept.unanswered);
      ended = subst (AllByRecursion (λ (i : CallId). i.seq ≤ asked_on k i.path)) (sym ended)
          (all_weaker (λ (i : CallId). i.seq ≤ asked_on h i.path)
          (λ (i : CallId). i.seq ≤ asked_on k i.path) (bound_as h k same)
          (answered_calls h) kept.ended);
      count = kept.count ∙ ap length (sym same);
      state = kept.state ∙ map_four (path_in h) (path_in k)
          (λ q. path_as k q (asked_on h q) (list_any (goes_on_path q) (unanswered_in h))
          (ap (count_by (goes_on_path q)) (sym same)) (ap (list_any (goes_on_path q)) (sym still)));
    }

-- ---- behind any entry that may come next

pub kept_more : (plan : HostPlan) (made : ℕ) (paths : List Path) (h : List HostEntry)
    (e : HostEntry) → IsHostKept plan made paths h
    → IsHostHistory plan (h ++ e ∷ [])
    → IsHostKept plan (made + cond (is_ask e) 1 0) (paths_after paths e) (h ++ e ∷ [])
kept_more plan made paths h (Ask id route pdu) kept legal =
    kept_ask plan made paths h id route pdu kept legal
kept_more plan made paths h (Answer id result) kept legal =
    subst (λ n. IsHostKept plan n (paths_after paths (Answer id result))
    (h ++ Answer id result ∷ [])) (omega arith)
    (kept_answer plan made paths h id result kept legal)
kept_more plan made paths h (Served id request reply) kept legal =
    subst (λ n. IsHostKept plan n paths (h ++ Served id request reply ∷ [])) (omega arith)
    (kept_served plan made paths h id request reply kept legal)

pub has_path : (plan : HostPlan) (made : ℕ) (paths : List Path) (h : List HostEntry) (e : HostEntry)
    → IsHostKept plan made paths h
    → IsHostHistory plan (h ++ e ∷ []) → HasPath e
has_path plan made paths h (Ask id route pdu) kept legal =
    (next_is plan h id (last_fits plan h (Ask id route pdu) legal)).path
has_path plan made paths h (Answer id result) kept legal =
    (out_last plan h (unanswered_in h) id kept.unanswered
    (last_fits plan h (Answer id result) legal)).path
has_path plan made paths h (Served id request reply) kept legal = tt

pub went_more : (v : HostIs) (plan : HostPlan) (h k : List HostEntry) (e : HostEntry)
    → record { plan = plan; history = h } ≡ v
    → k ≡ h ++ e ∷ []
    → IsHostHistory plan (h ++ e ∷ []) → HostWentOn (e ∷ []) v (record { plan = plan; history = k })
went_more v plan h k e is more legal = record {
  plan = ap (λ (w : HostIs). w.plan) is;
  history = more ∙ ap (λ (w : HostIs). w.history ++ e ∷ []) is;
  legal = subst (IsHostHistory plan) (sym more) legal;
}
