-- A bridge with one entry more, and the frames of what is due.
use Rattle.std.proofs.Common.{◌≡◌, ◌≢◌, ℕ, cond, List, [], ◌∷◌, ◌++◌, refl}
use Rattle.std.proofs.Common.{Option, Some, None, sym, ap, ◌∙◌, subst, inl, inr, IfSome}
use Rattle.std.proofs.Common.{MatchOption}
use Rattle.std.proofs.Common.{Result, Ok, Err, IfOk}
use Rattle.std.proofs.lemmas.Bool.{cases_eq, eq-eqb, ne_eqb}
use Rattle.std.specs.List.{slice_get, AllByRecursion}
use Rattle.std.specs.Option.{option_and_then}
use Rattle.plant_types.specs.declared.net.BridgePlan.{BridgePlan}
use Rattle.ring_core.specs.MstrBlock.{CallId}
use Rattle.ring_core.specs.declared.frame.Frame.{Frame}
use Rattle.ring_core.specs.Words.{request_along}
use Rattle.ring_core.specs.Legal.{IsPath}
use Rattle.bridge_relay.specs.declared.entry.BridgeEntry.{BridgeEntry}
use Rattle.bridge_relay.specs.declared.entry.BridgeEntry.TheVariants.{Forward}
use Rattle.bridge_relay.specs.Machine.{EndIs, RelayIs, Waiting, near_end, relay_after, relay_step}
use Rattle.bridge_relay.specs.Machine.{free_relay_path}
use Rattle.bridge_relay.specs.Legal.{IsEnd, IsBridgeHistory, IsBridgeStep, IsOpenEnd, due_forward}
use Rattle.bridge_relay.specs.Legal.{forward_by}
use Rattle.bridge_relay.specs.Bridge.{BridgeIs, BridgeWentOn, IsForwarded, frame_made}
use Rattle.bridge_relay.specs.Kept.{IsBridge}
use Rattle.bridge_relay.proofs.Legal.{legal_more, forward_made, forward_step}
use Rattle.bridge_relay.proofs.Onward.{IsOnward, sends_on}
use Rattle.bridge_relay.proofs.Steps.{after_more}

pub kept_more : (plan : BridgePlan) (old new : RelayIs) (history more : List BridgeEntry)
    (entry : BridgeEntry)
    → IsBridge plan old history → IsBridgeStep plan history entry → new ≡ relay_step plan old entry
    → more ≡ history ++ entry ∷ []
    → IsBridge plan new more
kept_more plan old new history more entry kept fits stepped grown = record {
  sound = kept.sound;
  legal = subst (IsBridgeHistory plan) (sym grown)
      (legal_more plan history entry kept.legal fits);
  state = stepped ∙ ap (λ r. relay_step plan r entry) kept.state
      ∙ sym (after_more plan history entry)
      ∙ ap (relay_after plan) (sym grown);
}

pub went_more : (v : BridgeIs) (plan : BridgePlan) (history more : List BridgeEntry)
    (entry : BridgeEntry)
    → record { plan = plan; history = history } ≡ v → more ≡ history ++ entry ∷ []
    → IsBridgeHistory plan more
    → BridgeWentOn (entry ∷ []) v (record { plan = plan; history = more })
went_more v plan history more entry view grown legal = record {
  plan = ap (λ (w : BridgeIs). w.plan) view;
  history = grown ∙ ap (λ (w : BridgeIs). w.history ++ entry ∷ []) view;
  legal = legal;
}

-- what is due by the fields is what is due by the history
pub forward_due : (v : BridgeIs) (plan : BridgePlan) (relay : RelayIs) (history : List BridgeEntry)
    (side : ℕ) (end : EndIs)
    → record { plan = plan; history = history } ≡ v → relay ≡ relay_after plan history
    → end ≡ near_end plan relay side
    → forward_by side end (slice_get end.to_send 0) (free_relay_path end)
    ≡ due_forward v.plan v.history side
forward_due v plan relay history side end view state near =
    let here : end ≡ near_end plan (relay_after plan history) side =
    near ∙ ap (λ r. near_end plan r side) state in
    ap (λ (e : EndIs). forward_by side e (slice_get e.to_send 0) (free_relay_path e)) here
    ∙ ap (λ (w : BridgeIs). due_forward w.plan w.history side) view

-- what is due is a step
pub forward_fits : (plan : BridgePlan) (history : List BridgeEntry) (side : ℕ) (entry : BridgeEntry)
    → IsOpenEnd plan history side → due_forward plan history side ≡ Some entry
    → IsBridgeStep plan history entry
forward_fits plan history side entry is due =
    subst (λ o. IfSome o (IsBridgeStep plan history)) due (forward_step plan history side is)

-- the requests that wait at an end go on from it
near_onward : (plan : BridgePlan) (history : List BridgeEntry) (side : ℕ) → IsEnd plan side
    → AllByRecursion (IsOnward side) (near_end plan (relay_after plan history) side).to_send
near_onward plan history side is =
    let relay = relay_after plan history in
    let sends = sends_on plan history in
    elim (cases_eq side plan.left) [
      | inl e ↦
          let near : near_end plan relay side ≡ relay.left =
          ap (λ b. cond b relay.left relay.right) (eq-eqb side plan.left e) in
          subst (λ (end : EndIs). AllByRecursion (IsOnward side) end.to_send) (sym near)
          (subst (λ n. AllByRecursion (IsOnward n) relay.left.to_send) (sym e) sends.left)
      | inr other ↦
          let near : near_end plan relay side ≡ relay.right =
          ap (λ b. cond b relay.left relay.right) (ne_eqb side plan.left other) in
          let here : side ≡ plan.right = elim is [ inl e ↦ absurd (other e) | inr e ↦ e ] in
          subst (λ (end : EndIs). AllByRecursion (IsOnward side) end.to_send) (sym near)
          (subst (λ n. AllByRecursion (IsOnward n) relay.right.to_send) (sym here) sends.right)
    ]

first_has : {A : Type 0} (P : A → Type 0) (xs : List A) (x : A) → AllByRecursion P xs
    → slice_get xs 0 ≡ Some x → P x
first_has P [] x all is = absurd cc
first_has P (y ∷ xs) x all is = let same : y ≡ x = cc in subst P same all.0

-- the Request of the Forward that is due
forwarded_along : (plan : BridgePlan) (history : List BridgeEntry) (side next : ℕ) (old id : CallId)
    (rest route request : List ℕ)
    → route ≡ next ∷ rest → next ≢ side → id.node ≡ side → IsPath id.path
    → due_forward plan history side ≡ Some (Forward side old id route request)
    → IsForwarded plan history side (request_along id route request)
forwarded_along plan history side next old id rest route request is other node path =
    subst (λ r. due_forward plan history side ≡ Some (Forward side old id r request)
    → IsForwarded plan history side (request_along id r request)) (sym is)
    (λ due. record { old = old; due = due; kind = refl; from = (node, other, path) })

forwarded : (plan : BridgePlan) (history : List BridgeEntry) (side : ℕ) (old id : CallId)
    (route request : List ℕ)
    → IsEnd plan side
    → due_forward plan history side ≡ Some (Forward side old id route request)
    → IsForwarded plan history side (request_along id route request)
forwarded plan history side old id route request is due =
    let end = near_end plan (relay_after plan history) side in
    let made = forward_made plan history side old id route request due in
    let goes = first_has (IsOnward side) end.to_send made.item (near_onward plan history side is)
    made.first in
    forwarded_along plan history side goes.next old id goes.rest route request
    (made.route_is ∙ goes.route) goes.other (ap (λ (i : CallId). i.node) made.id_is)
    made.path.is_path due

match_forward : (side : ℕ) (end : EndIs) (waits : Option Waiting) (path : Option ℕ)
    (P : Type 0) (Q : Frame → Type 0)
    → (forward_by side end waits path ≡ None → P)
    → ((old id : CallId) (route request : List ℕ)
    → forward_by side end waits path ≡ Some (Forward side old id route request)
    → Q (request_along id route request))
    → MatchOption (option_and_then frame_made (forward_by side end waits path)) P Q
match_forward side end None path P Q none some = none refl
match_forward side end (Some item) None P Q none some = none refl
match_forward side end (Some item) (Some path) P Q none some = some _ _ _ _ refl

forward_frame : (plan : BridgePlan) (history : List BridgeEntry) (side : ℕ)
    (frame : Option Frame)
    → IsEnd plan side
    → frame ≡ option_and_then frame_made (due_forward plan history side)
    → MatchOption frame (due_forward plan history side ≡ None) (IsForwarded plan history side)
forward_frame plan history side frame is made =
    let end = near_end plan (relay_after plan history) side in
    let none = due_forward plan history side ≡ None in
    let some = IsForwarded plan history side in
    subst (λ f. MatchOption f none some) (sym made)
    (match_forward side end (slice_get end.to_send 0) (free_relay_path end) none some (λ e. e)
    (λ old id route request due. forwarded plan history side old id route request is due))

pub forward_answer : {E : Type 0} (plan : BridgePlan) (history : List BridgeEntry) (side : ℕ)
    (entry : BridgeEntry) (answer : Result (Option Frame) E)
    → IsEnd plan side → due_forward plan history side ≡ Some entry
    → IfOk answer (λ frame. frame ≡ frame_made entry)
    → IfOk answer (λ frame. MatchOption frame (due_forward plan history side ≡ None)
    (IsForwarded plan history side))
forward_answer plan history side entry (Ok frame) is due made =
    forward_frame plan history side frame is (made ∙ ap (option_and_then frame_made) (sym due))
forward_answer plan history side entry (Err end) is due made = tt
