-- In a plant of one network there is no bridge, and a call has its own name alone.
use Rattle.std.proofs.Common.{◌≡◌, ℕ, zero, suc, List, [], ◌∷◌, length, refl, sym, ap, ◌∙◌, subst}
use Rattle.std.proofs.Common.{arith}
use Rattle.std.specs.Prelude.{Contains, filter_map, flat_map}
use Rattle.std.specs.List.{All, AllZip, sum_by}
use Rattle.std.proofs.lemmas.List.{length-map}
use Rattle.std.proofs.lemmas.List.Elements.{All-head}
use Rattle.plant_types.specs.declared.net.BridgePlan.{BridgePlan}
use Rattle.plant_types.specs.declared.net.NetPlan.{NetPlan}
use Rattle.plant_types.specs.declared.plan.Plant.{Plant}
use Rattle.plant_types.specs.Plans.{IsBridgeOf, net_numbers}
use Rattle.mstr_block.specs.declared.call.CallId.{CallId}
use Rattle.joint_history.specs.declared.joint.BridgeLog.{BridgeLog}
use Rattle.joint_history.specs.Effects.{effects}
use Rattle.joint_history.specs.JointLaws.{IsLegalBridgeLog}
use Rattle.route_laws.specs.Laws.{WaysOfOneNetwork}
use Rattle.route_laws.specs.Ways.{SentOn, effects_on_way, names_from, names_on_way, sent_of}
use Rattle.route_laws.specs.Ways.{sent_on_in}

-- what stands in a list of one is the same
one-there : (xs : List ℕ) (x y : ℕ) → length xs ≡ 1 → Contains xs x → Contains xs y → x ≡ y
one-there [] x y one there other = absurd (omega (arith, one))
one-there (n ∷ []) x y one (zero, low, is) (zero, low', is') = sym is ∙ is'
one-there (n ∷ []) x y one (suc k, low, is) there = absurd (omega (arith, low))
one-there (n ∷ []) x y one (zero, low, is) (suc k, low', is') = absurd (omega (arith, low'))
one-there (n ∷ m ∷ xs) x y one there other = absurd (omega (arith, one))

-- a bridge joins two networks, so where there is one alone, there is none
no-plans : (plant : Plant) (bridges : List BridgePlan) → length plant.nets ≡ 1
    → All (IsBridgeOf plant) bridges → bridges ≡ []
no-plans plant [] one all = refl
no-plans plant (bridge ∷ bridges) one all =
    let of = All-head (IsBridgeOf plant) bridge bridges all in
    absurd (of.plan.two_nets (one-there (net_numbers plant) bridge.left_net bridge.right_net
    (length-map plant.nets (λ (net : NetPlan). net.number) ∙ one) of.left_there of.right_there))

-- beside no bridge there is no list of one
no-logs : (logs : List BridgeLog) → AllZip IsLegalBridgeLog [] logs → logs ≡ []
no-logs [] zip = refl
no-logs (log ∷ logs) zip = absurd zip

pub own-names-alone : WaysOfOneNetwork
own-names-alone plant scans joint is one legal =
    let none = no-logs joint.bridges (subst
    (λ (plans : List BridgePlan). AllZip IsLegalBridgeLog plans joint.bridges)
    (no-plans plant plant.bridges one is.bridges) legal.bridges) in
    let sent : sent_on_in joint ≡ [] =
    ap (λ (logs : List BridgeLog). flat_map (λ (log : BridgeLog). filter_map sent_of log.entries)
    logs) none in
    let name = λ (id : CallId). ap (λ (s : List SentOn). names_from (length s) s id) sent in
    record { no_bridge = none; one_name = name; same_effects = λ id. under id (name id) }
  where
    under : (id : CallId) → names_on_way joint id ≡ id ∷ []
        → effects_on_way joint id ≡ effects joint id
    under id name =
        let alone : sum_by (effects joint) (id ∷ []) ≡ effects joint id = omega arith in
        ap (sum_by (effects joint)) name ∙ alone
