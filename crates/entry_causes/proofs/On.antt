-- The stations on a network, and what they noted on its ring.
use Rattle.std.proofs.Common.{◌≡◌, ℕ, suc, ◌==◌, ◌++◌, Bool, true, false, cond, List, []}
use Rattle.std.proofs.Common.{◌∷◌, map, refl, sym, ap, subst, ◌∙◌, arith}
use Rattle.std.specs.Prelude.{Contains, filter}
use Rattle.std.specs.List.{AllByRecursion as Each, AllZip, zip}
use Rattle.std.proofs.lemmas.Bool.{cond_both, eqb-true}
use Rattle.plant_types.specs.declared.net.NetPlan.{NetPlan}
use Rattle.plant_types.specs.declared.net.HostPlan.{HostPlan}
use Rattle.plant_types.specs.declared.plan.ControllerPlan.{ControllerPlan}
use Rattle.plant_types.specs.declared.plan.Plant.{Plant}
use Rattle.plant_types.specs.Plans.{IsPlant, controllers_on, hosts_on}
use Rattle.ring_core.specs.declared.entry.RingEntry.{RingEntry}
use Rattle.net_laws.specs.TiedLists.{own}
use Rattle.net_laws.specs.JointHistory.{noted_on_rings, ControllerLog, HostLog, IsLegalHostLog}
use Rattle.net_laws.specs.JointHistory.{IsLegalJoint, IsLegalLog, Joint, RingLog}
use Rattle.one_order.specs.Orders.{Log}
use Rattle.entry_causes.specs.Causes.{StationEntry}
use Rattle.entry_causes.specs.Joint.{controller_log, host_log, logs_on, stations_on}
use Rattle.net_laws.proofs.On.{IsOn, controller-on, host-on, net-same}
use Rattle.net_laws.proofs.Rings.{RingOf, own-on}

module _ {P L : Type 0} (R : P → L → Type 0) (network_of node_of : P → ℕ) (node : L → ℕ)
    (named : (p : P) (l : L) → R p l → node l ≡ node_of p) (network : ℕ) where
  -- the nodes of the lists beside plans that are on a network are those of the plans
  pub nodes-on : (plans : List P) (logs : List L) → AllZip R plans logs
      → map node (logs_on network_of network plans logs)
      ≡ map node_of (filter (λ p. network_of p == network) plans)
  nodes-on [] [] all = refl
  nodes-on [] (l ∷ logs) all = absurd all
  nodes-on (p ∷ plans) [] all = absurd all
  nodes-on (p ∷ plans) (l ∷ logs) all =
      at (network_of p == network) (named p l all.0) (nodes-on plans logs all.1)
    where
      at : (b : Bool) → node l ≡ node_of p
          → map node (logs_on network_of network plans logs)
          ≡ map node_of (filter (λ q. network_of q == network) plans)
          → map node (map (λ (of : P × L). of.1) (cond b ((p, l) ∷
          filter (λ (of : P × L). network_of of.0 == network) (zip plans logs))
          (filter (λ (of : P × L). network_of of.0 == network) (zip plans logs))))
          ≡ map node_of (cond b (p ∷ filter (λ q. network_of q == network) plans)
          (filter (λ q. network_of q == network) plans))
      at true same rest = λ i. same i ∷ rest i
      at false same rest = rest

  -- what follows for each list beside a plan on a network, where it is known of each list
  pub each-on : (Q S : L → Type 0) (plans : List P) (logs : List L) → AllZip R plans logs
      → ((p : P) (l : L) → Contains plans p → network_of p ≡ network → node l ≡ node_of p
      → Q l → S l)
      → Each Q logs → Each S (logs_on network_of network plans logs)
  each-on Q S [] [] all step known = tt
  each-on Q S [] (l ∷ logs) all step known = absurd all
  each-on Q S (p ∷ plans) [] all step known = absurd all
  each-on Q S (p ∷ plans) (l ∷ logs) all step known =
      let rest = each-on Q S plans logs all.1
      (λ q m there. step q m (suc there.0, let low = there.1 in omega (arith, low), there.2))
      known.1 in
      cond_both (network_of p == network) _ _
      (λ (w : List (P × L)). Each S (map (λ (of : P × L). of.1) w))
      (λ (on : (network_of p == network) ≡ true). (
        step p l (0, omega arith, refl) (eqb-true (network_of p) network on) (named p l all.0)
            known.0,
        rest,
      ))
      (λ _. rest)

-- what a node noted on a ring is all that it noted, where it is on that network
own-here : (plant : Plant) (scans : ℕ) (joint : Joint) (ring : RingLog) (network node n : ℕ)
    → IsPlant plant → IsLegalJoint plant scans joint → RingOf plant.nets joint.rings ring
    → IsOn plant network node → network ≡ ring.network → n ≡ node
    → own n (noted_on_rings joint) ≡ own n ring.entries
own-here plant scans joint ring network node n sound legal of on same is =
    let net = net-same plant on.net of.net sound on.there of.there
    (on.number ∙ same ∙ of.legal.0) in
    let mine = own-on plant joint.rings sound legal.rings of.net node of.there
    (subst (λ (m : NetPlan). Contains m.members node) net on.member) in
    ap (λ (k : ℕ). own k (noted_on_rings joint)) is
    ∙ (mine ∙ ap (own node) of.entries)
    ∙ ap (λ (k : ℕ). own k ring.entries) (sym is)

module _ (plant : Plant) (scans : ℕ) (joint : Joint) (ring : RingLog) (sound : IsPlant plant)
    (legal : IsLegalJoint plant scans joint) (of : RingOf plant.nets joint.rings ring) where
  -- what is so of each controller and its entries on all rings is so of those on a network and
  -- their entries on its ring
  pub controllers-here : (T : ControllerLog → List RingEntry → Type 0)
      → Each (λ log. T log (own log.node (noted_on_rings joint))) joint.controllers
      → Each (λ log. T log (own log.node ring.entries))
      (logs_on (λ (plan : ControllerPlan). plan.network) ring.network plant.controllers
      joint.controllers)
  controllers-here T known =
      each-on (IsLegalLog plant scans) (λ (p : ControllerPlan). p.network)
      (λ (p : ControllerPlan). p.node) (λ (log : ControllerLog). log.node) (λ p log r. r.0)
      ring.network (λ log. T log (own log.node (noted_on_rings joint)))
      (λ log. T log (own log.node ring.entries)) plant.controllers joint.controllers
      legal.controllers
      (λ p log there same is. subst (T log) (own-here plant scans joint ring p.network p.node
      log.node sound legal of (controller-on plant p sound there) same is))
      known

  -- and so of hosts
  pub hosts-here : (T : HostLog → List RingEntry → Type 0)
      → Each (λ log. T log (own log.node (noted_on_rings joint))) joint.hosts
      → Each (λ log. T log (own log.node ring.entries))
      (logs_on (λ (plan : HostPlan). plan.network) ring.network plant.hosts joint.hosts)
  hosts-here T known =
      each-on IsLegalHostLog (λ (p : HostPlan). p.network) (λ (p : HostPlan). p.node)
      (λ (log : HostLog). log.node) (λ p log r. r.0) ring.network
      (λ log. T log (own log.node (noted_on_rings joint)))
      (λ log. T log (own log.node ring.entries)) plant.hosts joint.hosts legal.hosts
      (λ p log there same is. subst (T log) (own-here plant scans joint ring p.network p.node
      log.node sound legal of (host-on plant p sound there) same is))
      known

log-nodes : {L : Type 0} (log_of : L → Log StationEntry) (node : L → ℕ)
    → ((l : L) → (log_of l).node ≡ node l) → (logs : List L)
    → map (λ (log : Log StationEntry). log.node) (map log_of logs) ≡ map node logs
log-nodes log_of node same [] = refl
log-nodes log_of node same (l ∷ logs) = λ i. same l i ∷ log-nodes log_of node same logs i

map-both : {X Y : Type 0} (f : X → Y) (xs ys : List X) → map f (xs ++ ys) ≡ map f xs ++ map f ys
map-both f [] ys = refl
map-both f (x ∷ xs) ys = ap (λ l. f x ∷ l) (map-both f xs ys)

-- the nodes of the stations on a network are the addresses of its controllers and its hosts
pub station-nodes : (plant : Plant) (scans : ℕ) (joint : Joint) (network : ℕ)
    → IsLegalJoint plant scans joint
    → map (λ (log : Log StationEntry). log.node) (stations_on plant network joint)
    ≡ controllers_on plant network ++ hosts_on plant network
station-nodes plant scans joint network legal =
    let controllers = logs_on (λ (p : ControllerPlan). p.network) network plant.controllers
    joint.controllers in
    let hosts = logs_on (λ (p : HostPlan). p.network) network plant.hosts joint.hosts in
    let one = log-nodes controller_log (λ (log : ControllerLog). log.node) (λ l. refl) controllers
    ∙ nodes-on (IsLegalLog plant scans) (λ (p : ControllerPlan). p.network)
    (λ (p : ControllerPlan). p.node) (λ (log : ControllerLog). log.node) (λ p log r. r.0) network
    plant.controllers joint.controllers legal.controllers in
    let two = log-nodes host_log (λ (log : HostLog). log.node) (λ l. refl) hosts
    ∙ nodes-on IsLegalHostLog (λ (p : HostPlan). p.network) (λ (p : HostPlan). p.node)
    (λ (log : HostLog). log.node) (λ p log r. r.0) network plant.hosts joint.hosts legal.hosts in
    map-both (λ (log : Log StationEntry). log.node) (map controller_log controllers)
    (map host_log hosts)
    ∙ (λ i. one i ++ two i)
