-- What a bridge sends on has a route.
use Rattle.std.proofs.Common.{◌≡◌, ◌≢◌, ℕ, ◌==◌, Bool, true, false, cond, List, [], ◌∷◌, Some}
use Rattle.std.proofs.Common.{sym, subst}
use Rattle.std.specs.List.{All, AllByRecursion, slice_get}
use Rattle.std.proofs.lemmas.List.Elements.{All-from_recursion}
use Rattle.plant_types.specs.declared.net.BridgePlan.{BridgePlan}
use Rattle.mstr_block.specs.declared.call.CallId.{CallId}
use Rattle.bridge_relay.specs.declared.entry.BridgeEntry.{BridgeEntry}
use Rattle.bridge_relay.specs.declared.entry.BridgeEntry.TheVariants.{Accept, Forward, Finish}
use Rattle.bridge_relay.specs.declared.entry.BridgeEntry.TheVariants.{Back, Gone}
use Rattle.bridge_relay.specs.Machine.{RelayIs, Waiting, relay_after}
use Rattle.bridge_relay.specs.Legal.{IsBridgeHistory, IsBridgeStep, due_forward}
use Rattle.bridge_relay.proofs.Legal.{forward_made}
use Rattle.bridge_relay.proofs.Onward.{IsOnward, SendsOn, sends_on}
use Rattle.bridge_relay.proofs.Parts.{all_steps}
use Rattle.journal_lines.specs.Plain.{IsPlainBridgeEntry}

-- the first of the requests that wait to go on has a route
first_goes : (own : ℕ) (waiting : List Waiting) (item : Waiting)
    → AllByRecursion (IsOnward own) waiting → slice_get waiting 0 ≡ Some item → item.route ≢ []
first_goes own [] item all is = absurd cc
first_goes own (first ∷ waiting) item all is =
    let same : first ≡ item = cc in
    let route = all.0.route in
    subst (λ (w : Waiting). w.route ≢ []) same (λ none. cc)

-- so it has at either end
first_at : (plan : BridgePlan) (relay : RelayIs) (item : Waiting) (by_left : Bool)
    → SendsOn plan relay → slice_get (cond by_left relay.left relay.right).to_send 0 ≡ Some item
    → item.route ≢ []
first_at plan relay item true sends is =
    first_goes plan.left relay.left.to_send item sends.left is
first_at plan relay item false sends is =
    first_goes plan.right relay.right.to_send item sends.right is

-- and so has the request of the Forward that is due
forward_goes : (plan : BridgePlan) (past : List BridgeEntry) (side : ℕ) (old id : CallId)
    (route request : List ℕ)
    → due_forward plan past side ≡ Some (Forward side old id route request) → route ≢ []
forward_goes plan past side old id route request due =
    let made = forward_made plan past side old id route request due in
    subst (λ (r : List ℕ). r ≢ []) (sym made.route_is)
    (first_at plan (relay_after plan past) made.item (side == plan.left) (sends_on plan past)
    made.first)

-- each entry of a legal history of a bridge is plain
plain_step : (plan : BridgePlan) (past : List BridgeEntry) (entry : BridgeEntry)
    → IsBridgeStep plan past entry → IsPlainBridgeEntry entry
plain_step plan past (Accept side id route request) step = tt
plain_step plan past (Forward side old id route request) step =
    forward_goes plan past side old id route request step.fits
plain_step plan past (Finish side id result) step = tt
plain_step plan past (Back side id reply) step = tt
plain_step plan past (Gone side) step = tt

pub plain_bridge : (plan : BridgePlan) (list : List BridgeEntry) → IsBridgeHistory plan list
    → All IsPlainBridgeEntry list
plain_bridge plan list legal =
    All-from_recursion IsPlainBridgeEntry list
    (all_steps plan IsPlainBridgeEntry (plain_step plan) [] list legal)
