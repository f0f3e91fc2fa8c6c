-- Calls that end one after another.
use Rattle.std.proofs.Common.{◌≡◌, ℕ, ◌+◌, ◌<◌, Bool, true, false, ◌||◌, List, [], ◌∷◌, ◌++◌}
use Rattle.std.proofs.Common.{length, drop, get_or, map, take, sym, ap, subst, ◌∙◌, append_assoc}
use Rattle.std.proofs.Common.{arith}
use Rattle.std.specs.Prelude.{if◌then◌else◌, OnErr, Result, Ok, Err}
use Rattle.std.specs.List.{AllByRecursion}
use Rattle.std.proofs.lemmas.Bool.{or_left, or_right}
use Rattle.std.proofs.lemmas.List.{drop_more, map-append, take-append-drop, take_more}
use Rattle.mstr_block.specs.Call.{is_same_call}
use Rattle.mstr_block.specs.declared.call.CallId.{CallId}
use Rattle.mstr_block.specs.declared.call.MstrResult.TheVariants.{Bad}
use Rattle.controller_core.specs.declared.call.Call.{Call}
use Rattle.controller_core.specs.declared.entry.Entry.{Entry}
use Rattle.controller_core.specs.declared.entry.Entry.TheVariants.{Collect}
use Rattle.controller_core.specs.Controller.{ControllerIs, IsLegal, collecting, finishing, grown}
use Rattle.controller_core.specs.Controller.{has_started, is_out, state_of, uncollected}
use Rattle.controller_core.specs.Laws.{CallsFollow, is_call_among}
use Rattle.panel_session.specs.Scanning.{calls_ended, nobody_there, HasBegunGivingUp}
use Rattle.panel_session.proofs.Tables.{HaveNames, HaveOtherNames}

abbrev AreOut : ControllerIs → List Call → Type 0
AreOut v calls = AllByRecursion (λ (call : Call). is_out v call.id ≡ true) calls

-- The calls of a controller were collected, and the first of them have ended.
abbrev pub ended : ControllerIs → List Call → ℕ → ControllerIs
ended first calls count =
    grown first (Collect calls ∷ map nobody_there (take count calls)) first.reserved

pub record IsGivingUp (first v : ControllerIs) (calls : List Call) (count : ℕ) : Type 0 where
  pub started : has_started first ≡ true
  pub calls_are : calls ≡ uncollected first
  pub is : v ≡ ended first calls count
  pub out : AreOut v (drop count calls)
  pub names : HaveNames (drop count calls)

same-call : (id : CallId) → is_same_call id id ≡ true
same-call id = grind arith

-- What was collected is out.
out-among : (v : ControllerIs) (taken : CallId → Bool) (front calls : List Call)
    → ((id : CallId) → is_out v id ≡ (taken id || is_call_among id (front ++ calls)))
    → AreOut v calls
out-among v taken front [] out = tt
out-among v taken front (call ∷ calls) out = (
  out call.id ∙ or_right (taken call.id) (is_call_among call.id (front ++ call ∷ calls))
      (among front),
  out-among v taken (front ++ call ∷ []) calls (λ id.
      out id ∙ ap (λ all. taken id || is_call_among id all)
      (sym (append_assoc front (call ∷ []) calls))),
) where
  among : (front : List Call) → is_call_among call.id (front ++ call ∷ calls) ≡ true
  among [] =
      or_left (is_same_call call.id call.id) (is_call_among call.id calls) (same-call call.id)
  among (other ∷ front) = or_right (is_same_call other.id call.id) _ (among front)

pub giving-begins : (first v : ControllerIs) (calls : List Call) → CallsFollow
    → has_started first ≡ true → HaveNames (uncollected first) → v ≡ collecting first
    → calls ≡ uncollected first → IsGivingUp first v calls 0
giving-begins first v calls follow started names is are = record {
  started = started;
  calls_are = are;
  is = is ∙ ap (λ (calls : List Call). grown first (Collect calls ∷ []) first.reserved) (sym are);
  out = subst (λ (w : ControllerIs). AreOut w calls) (sym is)
      (subst (AreOut (collecting first)) (sym are)
      (out-among (collecting first) (is_out first) [] (uncollected first)
      (follow.collects first).out));
  names = subst HaveNames (sym are) names;
}

-- Other calls are still out where one has ended.
still-out : (v w : ControllerIs) (id : CallId) (calls : List Call)
    → ((other : CallId) → is_same_call other id ≡ false → is_out w other ≡ is_out v other)
    → HaveOtherNames id calls → AreOut v calls → AreOut w calls
still-out v w id [] same others out = tt
still-out v w id (call ∷ calls) same others out = (
  same call.id others.0 ∙ out.0,
  still-out v w id calls same others.1 out.1,
)

-- The call at a place is the next.
pub next-is : (calls : List Call) (count : ℕ) (call : Call) → count < length calls
    → call ≡ get_or calls count call → drop count calls ≡ call ∷ drop (count + 1) calls
next-is calls count call within is =
    drop_more calls count call within ∙ ap (λ (next : Call). next ∷ drop (count + 1) calls) (sym is)

pub next-out : (first v : ControllerIs) (calls : List Call) (count : ℕ) (call : Call)
    → IsGivingUp first v calls count → count < length calls → call ≡ get_or calls count call
    → is_out v call.id ≡ true
next-out first v calls count call giving within is =
    (subst (AreOut v) (next-is calls count call within is) giving.out).0

one-more : (history : List Entry) (calls : List Call) (count : ℕ) (call : Call)
    → count < length calls → call ≡ get_or calls count call
    → (history ++ (Collect calls ∷ map nobody_there (take count calls))) ++ nobody_there call ∷ []
    ≡ history ++ (Collect calls ∷ map nobody_there (take (count + 1) calls))
one-more history calls count call within is =
    let more : take count calls ++ call ∷ [] ≡ take (count + 1) calls =
    ap (λ (next : Call). take count calls ++ next ∷ []) is
    ∙ sym (take_more calls count call within) in
    append_assoc history (Collect calls ∷ map nobody_there (take count calls))
    (nobody_there call ∷ [])
    ∙ ap (λ (ends : List Entry). history ++ (Collect calls ∷ ends))
    (sym (map-append nobody_there (take count calls) (call ∷ []))
    ∙ ap (map nobody_there) more)

pub giving-goes-on : (first v w : ControllerIs) (calls : List Call) (count : ℕ) (call : Call)
    → CallsFollow → IsGivingUp first v calls count → count < length calls
    → call ≡ get_or calls count call → w ≡ finishing v call.id (Bad 0x6103)
    → IsGivingUp first w calls (count + 1)
giving-goes-on first v w calls count call follow giving within is made =
    let next = next-is calls count call within is in
    let names = subst HaveNames next giving.names in
    let out = subst (AreOut v) next giving.out in
    record {
      started = giving.started;
      calls_are = giving.calls_are;
      is = made ∙ ap (λ (v : ControllerIs). finishing v call.id (Bad 0x6103)) giving.is
          ∙ ap (λ (history : List Entry). record
          { fixed = first.fixed; history = history; reserved = first.reserved })
          (one-more first.history calls count call within is);
      out = subst (λ (w : ControllerIs). AreOut w (drop (count + 1) calls)) (sym made)
          (still-out v (finishing v call.id (Bad 0x6103)) call.id (drop (count + 1) calls)
          (follow.finishes v call.id (Bad 0x6103)).out names.0 out.1);
      names = names.1;
    }

-- What is given up where calls are there to collect.
ended-started : (first : ControllerIs) → has_started first ≡ true
    → calls_ended (state_of first)
    ≡ Collect (uncollected first) ∷ map nobody_there (uncollected first)
ended-started first started =
    ap (λ (there : Bool). if there
    then Collect (uncollected first) ∷ map nobody_there (uncollected first) else []) started

-- Where memory runs out, the calls that have ended stand.
pub giving-stops : (first v w : ControllerIs) (calls : List Call) (count : ℕ)
    → IsGivingUp first v calls count → w ≡ v → IsLegal w.fixed w.history
    → HasBegunGivingUp first w
giving-stops first v w calls count giving same legal =
    record {
      front = Collect calls ∷ map nobody_there (take count calls);
      rest = map nobody_there (drop count calls);
      is = same ∙ giving.is;
      made = ap (λ (ends : List Entry). Collect calls ∷ ends)
          (sym (map-append nobody_there (take count calls) (drop count calls))
          ∙ ap (map nobody_there) (take-append-drop count calls))
          ∙ ap (λ (calls : List Call). Collect calls ∷ map nobody_there calls) giving.calls_are
          ∙ sym (ended-started first giving.started);
      legal = legal;
    }

-- A fact holds on an error too.
pub on_err : {T E : Type 0} (end : Result T E) (P : Type 0) → P → OnErr end P
on_err (Ok value) P is = tt
on_err (Err error) P is = is
