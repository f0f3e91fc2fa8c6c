-- Legal histories with one entry more, and what a step says.
use Rattle.std.proofs.Common.{◌≡◌, ℕ, List, [], ◌∷◌, ◌++◌, refl, sym, ap}
use Rattle.std.proofs.Common.{Option, Some, None, ◌∙◌, subst, inl, inr, IfSome}
use Rattle.std.proofs.lemmas.Bool.{and_parts}
use Rattle.std.specs.List.{slice_get}
use Rattle.plant_types.specs.declared.net.BridgePlan.{BridgePlan}
use Rattle.ring_core.specs.MstrBlock.{CallId}
use Rattle.bridge_relay.specs.declared.entry.BridgeEntry.{BridgeEntry}
use Rattle.bridge_relay.specs.declared.entry.BridgeEntry.TheVariants.{Accept, Forward, Finish}
use Rattle.bridge_relay.specs.declared.entry.BridgeEntry.TheVariants.{Back, Gone}
use Rattle.bridge_relay.specs.Machine.{EndIs, Waiting, near_end, relay_after, free_relay_path}
use Rattle.bridge_relay.specs.Legal.{IsBridgeHistory, IsBridgeStep, IsOpenEnd, forward_id}
use Rattle.bridge_relay.specs.Legal.{forward_by}
use Rattle.bridge_relay.specs.Legal.{due_forward}
use Rattle.bridge_relay.specs.Kept.{HasRelayPath, IsFreePath}
use Rattle.bridge_relay.proofs.Lists.{split_last, nothing_in}
use Rattle.bridge_relay.proofs.Paths.{known_path, least_free}

pub legal_new : (plan : BridgePlan) → IsBridgeHistory plan []
legal_new plan before after entry is = absurd (nothing_in before after entry is)

pub legal_more : (plan : BridgePlan) (history : List BridgeEntry) (entry : BridgeEntry)
    → IsBridgeHistory plan history → IsBridgeStep plan history entry
    → IsBridgeHistory plan (history ++ entry ∷ [])
legal_more plan history entry legal fits before after other is =
    elim (split_last history entry before after other is) [
      | inl p ↦ subst (λ past. IsBridgeStep plan past other) (sym p.0)
          (subst (IsBridgeStep plan history) (sym p.1) fits)
      | inr q ↦ legal before q.0 other q.1
    ]

-- what a Forward that is due is made of
pub record IsMadeOf (side : ℕ) (end : EndIs) (waits : Option Waiting) (old id : CallId)
    (route request : List ℕ) : Type 0 where
  pub item : Waiting
  pub first : waits ≡ Some item
  pub path : IsFreePath end id.path
  pub old_is : old ≡ item.id
  pub id_is : id ≡ forward_id side end id.path
  pub route_is : route ≡ item.route
  pub request_is : request ≡ item.request

made_of : (side : ℕ) (end : EndIs) (waits : Option Waiting) (path : Option ℕ)
    (old id : CallId) (route request : List ℕ)
    → free_relay_path end ≡ path
    → forward_by side end waits path ≡ Some (Forward side old id route request)
    → IsMadeOf side end waits old id route request
made_of side end None path old id route request free is = absurd cc
made_of side end (Some item) None old id route request free is = absurd cc
made_of side end (Some item) (Some path) old id route request free is =
    let named : forward_id side end path ≡ id = cc in
    let there : path ≡ id.path = ap (λ (i : CallId). i.path) named in
    record {
      item = item;
      first = refl;
      path = subst (IsFreePath end) there (least_free end path free);
      old_is = cc;
      id_is = sym named ∙ ap (forward_id side end) there;
      route_is = cc;
      request_is = cc;
    }

pub forward_made : (plan : BridgePlan) (history : List BridgeEntry) (side : ℕ) (old id : CallId)
    (route request : List ℕ)
    → due_forward plan history side ≡ Some (Forward side old id route request)
    → IsMadeOf side (near_end plan (relay_after plan history) side)
    (slice_get (near_end plan (relay_after plan history) side).to_send 0) old id route request
forward_made plan history side old id route request is =
    let end = near_end plan (relay_after plan history) side in
    made_of side end (slice_get end.to_send 0) (free_relay_path end) old id route request refl is

-- what is due is a step
if_forward : (P : BridgeEntry → Type 0) (side : ℕ) (end : EndIs) (waits : Option Waiting)
    (path : Option ℕ)
    → ((old id : CallId) (route request : List ℕ)
    → forward_by side end waits path ≡ Some (Forward side old id route request)
    → P (Forward side old id route request))
    → IfSome (forward_by side end waits path) P
if_forward P side end None path each = tt
if_forward P side end (Some item) None each = tt
if_forward P side end (Some item) (Some path) each = each _ _ _ _ refl

pub forward_step : (plan : BridgePlan) (history : List BridgeEntry) (side : ℕ)
    → IsOpenEnd plan history side
    → IfSome (due_forward plan history side) (IsBridgeStep plan history)
forward_step plan history side is =
    let end = near_end plan (relay_after plan history) side in
    if_forward (IsBridgeStep plan history) side end (slice_get end.to_send 0) (free_relay_path end)
    (λ old id route request due. record { side = is; fits = due })
