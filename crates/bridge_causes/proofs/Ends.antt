-- The two ends of a bridge, by their addresses.
use Rattle.std.proofs.Common.{◌≡◌, ◌≢◌, ℕ, ◌==◌, eq-eqb}
use Rattle.std.proofs.lemmas.Bool.{cond-true, cond-false, ne_eqb}
use Rattle.plant_types.specs.declared.net.BridgePlan.{BridgePlan}
use Rattle.bridge_relay.specs.Machine.{RelayIs, near_end}

pub near-left : (plan : BridgePlan) (relay : RelayIs) (n : ℕ) → n ≡ plan.left
    → near_end plan relay n ≡ relay.left
near-left plan relay n is = cond-true (n == plan.left) relay.left relay.right
    (eq-eqb n plan.left is)

pub near-right : (plan : BridgePlan) (relay : RelayIs) (n : ℕ) → n ≢ plan.left
    → near_end plan relay n ≡ relay.right
near-right plan relay n is = cond-false (n == plan.left) relay.left relay.right
    (ne_eqb n plan.left is)
