-- What a turn of a serial run brings to the readers of its wires.
use Rattle.std.proofs.Common.{◌≡◌, ℕ, Bool, true, false, List, [], ◌∷◌, get_or, map, refl, sym}
use Rattle.std.proofs.Common.{ap, ◌∙◌}
use Rattle.std.proofs.lemmas.List.{append-nil}
use Rattle.std.specs.List.{All, AllZip}
use Rattle.plant_types.specs.declared.plan.ControllerPlan.{ControllerPlan}
use Rattle.plant_types.specs.declared.plan.Plant.{Plant}
use Rattle.plant_types.specs.Plans.{controller_nodes}
use Rattle.joint_history.specs.declared.joint.Joint.{Joint}
use Rattle.joint_history.specs.Nets.{noted_on}
use Rattle.serial_feed.specs.SerialRuns.{ControllerStation}
use Rattle.serial_feed.specs.SerialRuns.{RingStation}
use Rattle.serial_feed.specs.SerialRuns.{log_of, StandsOn}
use Rattle.serial_feed.specs.Standing.{are_gone, made_by, RepeatedIf, SerialIs, StandsForSome}
use Rattle.serial_feed.specs.Standing.{Turned}
use Rattle.word_exchange.specs.declared.running.WireReader.{WireReader}
use Rattle.word_exchange.specs.Moments.{node_of_log, JointGoesOn, RepetitionsGoOn}
use Rattle.word_exchange.specs.Running.{HasReadWithin, HasReadAll, ReadersFollow, ReadsWhatCame}
use Rattle.word_exchange.specs.Words.{entries_of}

pub same-nodes : (plant : Plant) (scans : ℕ) (rings : List RingStation) (plans : List ControllerPlan)
    (stations : List ControllerStation) → AllZip (StandsOn plant scans rings) plans stations
    → map node_of_log (map log_of stations) ≡ map (λ (p : ControllerPlan). p.node) plans
same-nodes plant scans rings [] [] all = refl
same-nodes plant scans rings [] (s ∷ stations) all = absurd all
same-nodes plant scans rings (p ∷ plans) [] all = absurd all
same-nodes plant scans rings (p ∷ plans) (s ∷ stations) all =
    let here = all.0.node in
    let rest = same-nodes plant scans rings plans stations all.1 in
    λ i. here i ∷ rest i

stays-on : (old new : Joint) → new ≡ old → JointGoesOn old new
stays-on old new same = record {
  nodes = ap (λ (j : Joint). map node_of_log j.controllers) same;
  entries = λ node. ([], ap (entries_of node) same ∙ sym (append-nil (entries_of node old)));
  rings = λ network.
      ([], ap (noted_on network) same ∙ sym (append-nil (noted_on network old)));
}

goes-by : RepetitionsGoOn → (plant : Plant) (scans : ℕ) (old new : Joint) (gone : Bool)
    → map node_of_log old.controllers ≡ controller_nodes plant
    → RepeatedIf gone plant scans old new → JointGoesOn old new
goes-by go-on plant scans old new true nodes same = stays-on old new same
goes-by go-on plant scans old new false nodes made = go-on plant scans old new nodes made

turn-goes : RepetitionsGoOn → (old new : SerialIs) (left : Bool) → StandsForSome old
    → Turned old new left → JointGoesOn (made_by old) (made_by new)
turn-goes go-on old new left some turned =
    goes-by go-on some.plant some.scans (made_by old) (made_by new) (are_gone old)
    (same-nodes some.plant some.scans old.run.rings.items some.plant.controllers
    old.run.controllers.items some.stands.stations.controllers)
    (turned.made some.plant some.scans some.stands)

pub all-came : RepetitionsGoOn → ReadersFollow → (old new : SerialIs) (left : Bool)
    (readers : List WireReader) → StandsForSome old → Turned old new left
    → All (HasReadAll old) readers → All (ReadsWhatCame old new) readers
all-came go-on follow old new left readers some turned read k d within =
    follow old new (get_or readers k d) (read k d within)
    (turn-goes go-on old new left some turned)

pub all-have : (old new : SerialIs) (readers : List WireReader)
    → All (ReadsWhatCame old new) readers → All (HasReadWithin new) readers
all-have old new readers came k d within = (came k d within).has
