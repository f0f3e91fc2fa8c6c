-- What a legal history of a controller called and ended: each call once.
use Rattle.std.proofs.Common.{◌≡◌, ℕ, ◌≤◌, ◌++◌, Bool, true, false, cond, not, Some}
use Rattle.std.proofs.Common.{None}
use Rattle.std.proofs.Common.{List, [], ◌∷◌, map, refl, sym, ap, ◌∙◌, subst, ⊎_elim, arith}
use Rattle.std.proofs.Common.{append_assoc, append-nil}
use Rattle.std.specs.Prelude.{if◌then◌else◌, ◌||◌}
use Rattle.std.specs.List.{AllByRecursion as Each, count_by, list_any}
use Rattle.std.proofs.lemmas.Bool.{and_parts, cases_Bool, true≢false}
use Rattle.mstr_block.specs.Call.{is_same_call}
use Rattle.mstr_block.specs.declared.call.CallId.{CallId}
use Rattle.controller_core.specs.declared.call.Call.{Call}
use Rattle.controller_core.specs.declared.entry.Entry.{Entry}
use Rattle.controller_core.specs.declared.entry.Entry.TheVariants as entries
use Rattle.controller_core.specs.declared.fixed.Fixed.{Fixed}
use Rattle.controller_core.specs.Controller.{Fits, IsLegal, uncollected}
use Rattle.controller_core.specs.Replay.{replay}
use Rattle.controller_core.proofs.NextEntry.{front_legal, fits_last}
use Rattle.host_port.proofs.Lists.{none_passes, all_append, all_weaker}
use Rattle.ring_laws.proofs.Lists.{count-push, none-if, same-eq}
use Rattle.tied_lists.specs.Calls.{AreNewCalls}
use Rattle.tied_lists.specs.Items.{Called, Ended, Items, Kind, kind_in, kind_of_sort, no_items}
use Rattle.tied_lists.proofs.Asked.{kind-more}
use Rattle.tied_lists.proofs.Boxes.{count-each}
use Rattle.joint_history.specs.Reading.{called_of, controller_at, item_next, items_after, items_of}
use Rattle.joint_history.proofs.Collected.{CallLaws, collected-new, history-follows}

-- ---- histories, entry by entry

items_push : (a : Items) (h : List Entry) (e : Entry)
    → items_after a (h ++ e ∷ []) ≡ item_next (items_after a h) e
items_push a [] e = refl
items_push a (x ∷ h) e = items_push (item_next a x) h e

from : (fixed : Fixed) (P : List Entry → Type 0)
    → ((h : List Entry) (e : Entry) → IsLegal fixed (h ++ e ∷ []) → P h → P (h ++ e ∷ []))
    → (h rest : List Entry) → P h → IsLegal fixed (h ++ rest) → P (h ++ rest)
from fixed P step h [] p legal = subst P (sym (append-nil h)) p
from fixed P step h (e ∷ rest) p legal =
    let same = append_assoc h (e ∷ []) rest in
    let whole = subst (IsLegal fixed) (sym same) legal in
    subst P same (from fixed P step (h ++ e ∷ []) rest
    (step h e (front_legal fixed (h ++ e ∷ []) rest whole) p) whole)

-- what each entry keeps of the items holds of those of a legal history
pub by-entries : (fixed : Fixed) (P : Items → Type 0) → P no_items
    → ((h : List Entry) (e : Entry) → IsLegal fixed h → Fits fixed (replay fixed h) e
    → P (items_of h) → P (item_next (items_of h) e))
    → (h : List Entry) → IsLegal fixed h → P (items_of h)
by-entries fixed P none step h legal =
    from fixed (λ l. P (items_of l))
    (λ l e may p. subst P (sym (items_push no_items l e))
    (step l e (front_legal fixed l (e ∷ []) may) (fits_last (controller_at fixed l) e may) p))
    [] h none legal

-- ---- calls and ends

abbrev pub is_called : CallId → Called → Bool
is_called id call = is_same_call call.id id

abbrev pub is_ended : CallId → Ended → Bool
is_ended id end' = is_same_call end'.id id

-- an end is of a call that was made, of its kind
abbrev pub OfCall : List Called → Ended → Type 0
OfCall calls end' = (kind : Kind) × (end'.kind ≡ Some kind) × (kind_in calls end'.id ≡ Some kind)

pub record CallFacts (a : Items) : Type 0 where
  pub calls : (id : CallId) → count_by (is_called id) a.calls ≤ 1
  pub ends : (id : CallId) → count_by (is_ended id) a.ends ≤ 1
  pub kinds : Each (OfCall a.calls) a.ends

no-kind : (id : CallId) (calls : List Called) → kind_in calls id ≡ None
    → Each (λ (c : Called). is_called id c ≡ false) calls
no-kind id [] none = tt
no-kind id (c ∷ cs) none = at (is_same_call c.id id) refl none (no-kind id cs)
  where
    at : (b : Bool) → is_same_call c.id id ≡ b
        → (if b then Some (kind_of_sort c.sort) else kind_in cs id) ≡ None
        → (kind_in cs id ≡ None → Each (λ (x : Called). is_called id x ≡ false) cs)
        → Each (λ (x : Called). is_called id x ≡ false) (c ∷ cs)
    at true same some more = absurd cc
    at false same rest more = (same, more rest)

some-kind : (id : CallId) (calls : List Called) → list_any (is_called id) calls ≡ true
    → (kind : Kind) × (kind_in calls id ≡ Some kind)
some-kind id [] any = absurd cc
some-kind id (c ∷ cs) any = at (is_same_call c.id id) any (some-kind id cs)
  where
    at : (b : Bool) → (b || list_any (is_called id) cs) ≡ true
        → (list_any (is_called id) cs ≡ true → (kind : Kind) × (kind_in cs id ≡ Some kind))
        → (kind : Kind) × ((if b then Some (kind_of_sort c.sort) else kind_in cs id) ≡ Some kind)
    at true here more = (kind_of_sort c.sort, refl)
    at false rest more = more rest

-- one more, where none has its name
one-more : {X : Type 0} (name : X → CallId) (x : X) (xs : List X)
    → ((id : CallId) → count_by (λ y. is_same_call (name y) id) xs ≤ 1)
    → count_by (λ y. is_same_call (name y) (name x)) xs ≡ 0
    → (id : CallId) → count_by (λ y. is_same_call (name y) id) (xs ++ x ∷ []) ≤ 1
one-more name x xs once none id =
    let push = count-push (λ y. is_same_call (name y) id) xs x in
    let most = once id in
    ⊎_elim
    (λ (here : is_same_call (name x) id ≡ true).
    let zero_more = subst (λ (i : CallId). count_by (λ y. is_same_call (name y) i) xs ≡ 0)
    (same-eq (name x) id here) none in
    let one = ap (λ b. cond {A = ℕ} b 1 0) here in omega (arith, push, zero_more, one))
    (λ (there : is_same_call (name x) id ≡ false).
    let none_more = none-if (is_same_call (name x) id) there in
    omega (arith, push, most, none_more))
    (cases_Bool (is_same_call (name x) id))

calls-more : (n : ℕ) (ends : List Ended) (calls new : List Called) → AreNewCalls n calls ends new
    → ((id : CallId) → count_by (is_called id) calls ≤ 1)
    → (id : CallId) → count_by (is_called id) (calls ++ new) ≤ 1
calls-more n ends calls [] are once =
    subst (λ (l : List Called). (id : CallId) → count_by (is_called id) l ≤ 1)
    (sym (append-nil calls)) once
calls-more n ends calls (c ∷ new) are once =
    subst (λ (l : List Called). (id : CallId) → count_by (is_called id) l ≤ 1)
    (append_assoc calls (c ∷ []) new)
    (calls-more n ends (calls ++ c ∷ []) new are.1
    (one-more (λ (x : Called). x.id) c calls once
    (count-each (is_called c.id) calls (no-kind c.id calls are.0.first))))

collect-facts : (n : ℕ) (a : Items) (new : List Called) → AreNewCalls n a.calls a.ends new
    → CallFacts a
    → CallFacts (record a { calls = a.calls ++ new })
collect-facts n a new are f = record {
  calls = calls-more n a.ends a.calls new are f.calls;
  ends = f.ends;
  kinds =
      all_weaker (OfCall a.calls) (OfCall (a.calls ++ new))
      (λ e of. (of.0, of.1, kind-more a.calls new e.id of.0 of.2)) a.ends f.kinds;
}

finish-facts : (a : Items) (e : Ended) → list_any (is_called e.id) a.calls ≡ true
    → list_any (is_ended e.id) a.ends ≡ false
    → e.kind ≡ kind_in a.calls e.id → CallFacts a
    → CallFacts (record a { ends = a.ends ++ e ∷ [] })
finish-facts a e made unended kind f =
    let found = some-kind e.id a.calls made in
    record {
      calls = f.calls;
      ends = one-more (λ (x : Ended). x.id) e a.ends f.ends
          (count-each (is_ended e.id) a.ends (none_passes (is_ended e.id) a.ends unended));
      kinds =
          all_append (OfCall a.calls) a.ends (e ∷ []) f.kinds
          ((found.0, kind ∙ found.1, found.1), tt);
    }

not-true : (b : Bool) → not b ≡ true → b ≡ false
not-true true is = absurd (true≢false (sym is))
not-true false is = refl

facts-next : CallLaws → (fixed : Fixed) (h : List Entry) (e : Entry) → IsLegal fixed h
    → Fits fixed (replay fixed h) e → CallFacts (items_of h)
    → CallFacts (item_next (items_of h) e)
facts-next laws fixed h entries.Begin legal fits f = f
facts-next laws fixed h (entries.Input row) legal fits f = f
facts-next laws fixed h (entries.Solve row) legal fits f = f
facts-next laws fixed h (entries.Output row words) legal fits f = f
facts-next laws fixed h entries.End legal fits f = f
facts-next laws fixed h entries.Fail legal fits f =
    record { calls = f.calls; ends = f.ends; kinds = f.kinds }
facts-next laws fixed h entries.Dark legal fits f = f
facts-next laws fixed h (entries.Collect calls) legal fits f =
    subst (λ (l : List Call). CallFacts (item_next (items_of h) (entries.Collect l))) (sym fits.1)
    (collect-facts fixed.plan.node (items_of h)
    (map called_of (uncollected (controller_at fixed h))) (collected-new laws fixed h legal) f)
facts-next laws fixed h (entries.Peer id request reply) legal fits f =
    record { calls = f.calls; ends = f.ends; kinds = f.kinds }
facts-next laws fixed h (entries.Off id request) legal fits f =
    record { calls = f.calls; ends = f.ends; kinds = f.kinds }
facts-next laws fixed h (entries.Finish id result) legal fits f =
    let follows = history-follows laws fixed h legal in
    let two = and_parts (list_any (is_called id) (items_of h).calls)
    (not (list_any (is_ended id) (items_of h).ends)) (sym (follows.out id) ∙ fits) in
    finish-facts (items_of h) _ two.0 (not-true _ two.1) refl f

pub call-facts : CallLaws → (fixed : Fixed) (h : List Entry) → IsLegal fixed h
    → CallFacts (items_of h)
call-facts laws fixed h legal =
    by-entries fixed CallFacts (record
    { calls = λ id. omega arith; ends = λ id. omega arith; kinds = tt })
    (facts-next laws fixed) h legal
