-- The laws between the lists, read entry by entry.
use Rattle.std.proofs.Common.{◌≡◌, ℕ, List, [], ◌∷◌, ◌++◌, map, sym, ap, ◌∙◌}
use Rattle.std.specs.List.{flat_map, AllByRecursion as Each}
use Rattle.std.proofs.lemmas.List.Elements.{recursion_from_All}
use Rattle.plant_types.specs.declared.net.HostPlan.{HostPlan}
use Rattle.plant_types.specs.declared.plan.ControllerPlan.{ControllerPlan}
use Rattle.plant_types.specs.declared.plan.Plant.{Plant}
use Rattle.ring_core.specs.Words.{maker}
use Rattle.ring_core.specs.declared.entry.RingEntry.{RingEntry}
use Rattle.tied_lists.specs.Own.{own}
use Rattle.tied_lists.specs.Items.{Answered, AController, AHost, item_of, plain_items, stats_items}
use Rattle.tied_lists.specs.Tied.{Tied}
use Rattle.tied_lists.specs.Items.{taken_by, port_answers, replied_by, due_replies, replies_in}
use Rattle.joint_history.specs.declared.joint.ControllerLog.{ControllerLog}
use Rattle.joint_history.specs.declared.joint.HostLog.{HostLog}
use Rattle.joint_history.specs.declared.joint.RingLog.{RingLog}
use Rattle.joint_history.specs.declared.joint.Joint.{Joint}
use Rattle.joint_history.specs.JointLaws.{IsTiedController, IsTiedHost}
use Rattle.joint_history.specs.Nets.{noted_on_rings}
use Rattle.joint_history.specs.Reading.{items_of, host_items_of}
use Rattle.one_order.specs.Orders.{Log, own_of}
use Rattle.entry_causes.specs.Causes.{StationEntry}
use Rattle.entry_causes.specs.Joint.{controller_log, host_log, logs_on, stations_on}
use Rattle.entry_causes.proofs.On.{controllers-here, hosts-here}
use Rattle.net_laws.proofs.Rings.{of-ring}
use Rattle.call_order.specs.Named.{IsRingOf, asks_in, answers_in, ends_in, overs_in, end_id}
use Rattle.call_order.proofs.Counts.{posts_in}
use Rattle.call_order.proofs.Readings.{posts-read, overs-read, asks-read, answers-read, ends-read}
use Rattle.call_order.proofs.Readings.{host-asks-read, host-answers-read, host-ends-read}

pub record Ties (ring : List RingEntry) (log : Log StationEntry) : Type 0 where
  pub asks : flat_map posts_in (own_of maker log.node ring) ≡ flat_map asks_in log.entries
  pub answers : map item_of (flat_map answers_in log.entries)
      ≡ plain_items (taken_by (own_of maker log.node ring))
  pub port : map item_of (port_answers (own_of maker log.node ring))
      ≡ stats_items (taken_by (own_of maker log.node ring))
  pub replies : replied_by (own_of maker log.node ring)
      ≡ due_replies (taken_by (own_of maker log.node ring))
      (replies_in (flat_map answers_in log.entries))
      (replies_in (port_answers (own_of maker log.node ring)))
  pub ends : flat_map ends_in log.entries ≡ flat_map overs_in (own_of maker log.node ring)

controller-ties : (ring : List RingEntry) (log : ControllerLog) → IsTiedController ring log
    → Ties ring (controller_log log)
controller-ties ring log t = record {
  asks = sym (posts-read (own log.node ring)) ∙ (t.asks ∙ asks-read log.entries);
  answers = ap (map item_of) (sym (answers-read log.entries)) ∙ t.peers;
  port = t.port;
  replies =
      t.replies ∙ ap (λ (l : List Answered). due_replies (taken_by (own log.node ring))
      (replies_in l) (replies_in (port_answers (own log.node ring)))) (answers-read log.entries);
  ends =
      sym (ends-read log.entries) ∙ (ap (map end_id) t.ends
      ∙ overs-read AController [] (own log.node ring));
}

host-ties : (ring : List RingEntry) (log : HostLog) → IsTiedHost ring log
    → Ties ring (host_log log)
host-ties ring log t = record {
  asks = sym (posts-read (own log.node ring)) ∙ (t.asks ∙ host-asks-read log.entries);
  answers = ap (map item_of) (sym (host-answers-read log.entries)) ∙ t.peers;
  port = t.port;
  replies =
      t.replies ∙ ap (λ (l : List Answered). due_replies (taken_by (own log.node ring))
      (replies_in l) (replies_in (port_answers (own log.node ring))))
      (host-answers-read log.entries);
  ends =
      sym (host-ends-read log.entries)
      ∙ (ap (map end_id) t.ends ∙ overs-read AHost [] (own log.node ring));
}

controllers-tie : (ring : List RingEntry) (logs : List ControllerLog)
    → Each (IsTiedController ring) logs → Each (Ties ring) (map controller_log logs)
controllers-tie ring [] x = tt
controllers-tie ring (log ∷ logs) x = (controller-ties ring log x.0, controllers-tie ring logs x.1)

hosts-tie : (ring : List RingEntry) (logs : List HostLog) → Each (IsTiedHost ring) logs
    → Each (Ties ring) (map host_log logs)
hosts-tie ring [] x = tt
hosts-tie ring (log ∷ logs) x = (host-ties ring log x.0, hosts-tie ring logs x.1)

each-append : {X : Type 0} (P : X → Type 0) (a b : List X) → Each P a → Each P b → Each P (a ++ b)
each-append P [] b x y = y
each-append P (c ∷ a) b x y = (x.0, each-append P a b x.1 y)

-- the stations on a network keep the laws with the entries of its ring
pub all-tie : (plant : Plant) (scans : ℕ) (joint : Joint) (ring : RingLog)
    → IsRingOf plant scans joint ring
    → Each (Ties ring.entries) (stations_on plant ring.network joint)
all-tie plant scans joint ring is =
    let of = of-ring plant joint.rings is.sound is.legal.rings ring is.there in
    let controllers = logs_on (λ (p : ControllerPlan). p.network) ring.network plant.controllers
    joint.controllers in
    let hosts = logs_on (λ (p : HostPlan). p.network) ring.network plant.hosts joint.hosts in
    each-append (Ties ring.entries) (map controller_log controllers) (map host_log hosts)
    (controllers-tie ring.entries controllers
    (controllers-here plant scans joint ring is.sound is.legal of
    (λ log own_is. Tied AController (items_of log.entries) own_is)
    (recursion_from_All (IsTiedController (noted_on_rings joint)) joint.controllers
    is.tied.controllers)))
    (hosts-tie ring.entries hosts
    (hosts-here plant scans joint ring is.sound is.legal of
    (λ log own_is. Tied AHost (host_items_of log.entries) own_is)
    (recursion_from_All (IsTiedHost (noted_on_rings joint)) joint.hosts is.tied.hosts)))
