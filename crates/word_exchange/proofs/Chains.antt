-- The joint histories before each repetition, and those of a plant with other scripts.
use Rattle.std.proofs.Common.{◌≡◌, suc, List, [], ◌∷◌, ◌++◌, length, map, take, refl}
use Rattle.std.proofs.Common.{ap, ◌∙◌, arith, length-append}
use Rattle.std.proofs.lemmas.List.{take-append-le}
use Rattle.std.proofs.Math.Seq.{take-length}
use Rattle.plant_types.specs.declared.plan.ControllerPlan.{ControllerPlan}
use Rattle.plant_types.specs.declared.plan.Plant.{Plant}
use Rattle.joint_history.specs.declared.joint.ControllerLog.{ControllerLog}
use Rattle.joint_history.specs.declared.joint.Joint.{Joint}
use Rattle.serial_feed.specs.SerialRuns.{IsChain}
use Rattle.serial_feed.specs.SerialRuns.{empty_log, nothing_made}
use Rattle.peer_cop.specs.declared.wire.Wire.{Wire}
use Rattle.word_exchange.specs.Exchange.{before_each, plan_exchanged, plant_exchanged}

-- the ones before each, and the last, are the start and those after each
pub before-last : (came : Joint → Joint → Type 0) (start : Joint) (after_each : List Joint)
    (last : Joint) → IsChain came start after_each last
    → before_each start after_each ++ last ∷ [] ≡ start ∷ after_each
before-last came start [] last chain = ap (λ (j : Joint). j ∷ []) chain
before-last came start (next ∷ rest) last chain =
    ap (λ (l : List Joint). start ∷ l) (before-last came next rest last chain.1)

pub before-next : (start : Joint) (after_each : List Joint) (last : Joint)
    → before_each start (after_each ++ last ∷ []) ≡ start ∷ after_each
before-next start after_each last =
    let long : length (after_each ++ last ∷ []) ≡ suc (length after_each) =
    length-append after_each (last ∷ []) ∙ omega arith in
    ap (λ n. take n (start ∷ (after_each ++ last ∷ []))) long
    ∙ ap (λ (l : List Joint). start ∷ l)
    (take-append-le (length after_each) after_each (last ∷ []) (omega arith)
    ∙ take-length after_each)

-- nothing is made of a plant, whatever its scripts
module _ (plant : Plant) (wires : List Wire) (moments : List Joint) where
  logs-same : (plans : List ControllerPlan)
      → map empty_log (map (plan_exchanged plant wires moments) plans) ≡ map empty_log plans
  logs-same [] = refl
  logs-same (plan ∷ plans) =
      ap (λ (l : List ControllerLog). empty_log plan ∷ l) (logs-same plans)

  pub nothing-same : nothing_made (plant_exchanged plant wires moments) ≡ nothing_made plant
  nothing-same =
      ap (λ (l : List ControllerLog). record (nothing_made plant) { controllers = l })
      (logs-same plant.controllers)
