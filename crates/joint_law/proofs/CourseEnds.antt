-- How the lists of stations, of bridges and of rings go, one after another.
use Rattle.std.proofs.Common.{◌≡◌, ℕ, ◌+◌, ◌<◌, ◌≤◌, Bool, false, List, [], ◌∷◌, ◌++◌, length}
use Rattle.std.proofs.Common.{get_or, map, take}
use Rattle.std.proofs.Common.{refl, sym, ap, subst, ◌∙◌, ⊎_elim, arith}
use Rattle.std.specs.Prelude.{◌↔◌, IsTrue}
use Rattle.std.specs.List.{zip}
use Rattle.std.proofs.lemmas.Bool.{cases_lt}
use Rattle.std.proofs.lemmas.List.{get_or_append_left, get_or_default, get_or_push, length_push}
use Rattle.std.proofs.lemmas.List.{map-append, take_all}
use Rattle.std.proofs.lemmas.Slice.Zip.{get_or-zip, length-zip}
use Rattle.plant_types.specs.declared.net.BridgePlan.{BridgePlan}
use Rattle.plant_types.specs.declared.net.HostPlan.{HostPlan}
use Rattle.plant_types.specs.declared.net.NetPlan.{NetPlan}
use Rattle.plant_types.specs.declared.plan.ControllerPlan.{ControllerPlan}
use Rattle.plant_types.specs.declared.plan.Plant.{Plant}
use Rattle.plant_types.specs.Plans.{IsPlant}
use Rattle.ring_core.specs.Legal.{IsLegalRing}
use Rattle.controller_core.specs.declared.notes.Notes.{Notes}
use Rattle.controller_core.specs.Controller.{IsLegal}
use Rattle.host_port.specs.Legal.{IsHostHistory}
use Rattle.bridge_relay.specs.Legal.{IsBridgeHistory}
use Rattle.joint_history.specs.declared.joint.BridgeLog.{BridgeLog}
use Rattle.joint_history.specs.declared.joint.ControllerLog.{ControllerLog}
use Rattle.joint_history.specs.declared.joint.HostLog.{HostLog}
use Rattle.joint_history.specs.declared.joint.RingLog.{RingLog}
use Rattle.joint_history.specs.declared.joint.Joint.{Joint}
use Rattle.joint_history.specs.Complete.{ControllerIsComplete, EndsEachCall}
use Rattle.joint_history.specs.JointLaws.{IsLegalBridgeLog, IsLegalHostLog, IsLegalLog}
use Rattle.joint_history.specs.JointLaws.{IsLegalRingLog, fixed_of}
use Rattle.joint_history.specs.Noted.{notes_by_log, notes_in}
use Rattle.joint_history.specs.Reading.{host_items_of}
use Rattle.joint_law.specs.AllCourses.{AreHostsDone, AreWholeCourses}
use Rattle.station_laws.specs.Differing.{BreaksAt}
use Rattle.joint_law.specs.Spots.{AreLegalBridgeLogs, AreLegalHostLogs, AreLegalLogs}
use Rattle.joint_law.specs.Spots.{AreLegalRingLogs, BridgeSpot, ControllerSpot, HasSections}
use Rattle.joint_law.specs.Spots.{HostSpot, RingSpot}
use Rattle.joint_law.proofs.AtNodes.{item-of}
use Rattle.joint_law.proofs.CourseSteps.{earlier-all, here-any, same-node, same-size, zip-all}
use Rattle.station_laws.proofs.Lists.{take-push}

-- ---- what holds of each so far, and of one more

pub each-next : {P L : Type 0} (Good : P → L → Type 0) (plans : List P) (logs : List L) (k : ℕ)
    (p : P) (g : L)
    → ((j : ℕ) (q : P) (h : L) → j < k → Good (get_or plans j q) (get_or logs j h))
    → k < length plans → k < length logs → p ≡ get_or plans k p → g ≡ get_or logs k g
    → Good p g
    → (j : ℕ) (q : P) (h : L) → j < k + 1 → Good (get_or plans j q) (get_or logs j h)
each-next {P} {L} Good plans logs k p g before low-p low-g is-p is-g here j q h below =
    ⊎_elim (λ (l : j < k). before j q h l)
    (λ (l : k ≤ j).
    let e : k ≡ j = omega arith in
    subst (λ (n : ℕ). Good (get_or plans n q) (get_or logs n h)) e
    (subst (λ (x : P). Good x (get_or logs k h)) (is-p ∙ get_or_default plans k p q low-p)
    (subst (λ (x : L). Good p x) (is-g ∙ get_or_default logs k g h low-g) here)))
    (cases_lt j k)

pub done-next : {P L : Type 0} (Done : P → L → Type 0) (plans : List P) (logs : List L)
    (done : List Bool) (b : Bool) (k : ℕ) (p : P) (g : L) → length done ≡ k
    → ((j : ℕ) (q : P) (h : L) → j < k
    → IsTrue (get_or done j false) ↔ Done (get_or plans j q) (get_or logs j h))
    → k < length plans → k < length logs → p ≡ get_or plans k p → g ≡ get_or logs k g
    → (IsTrue b ↔ Done p g) → (j : ℕ) (q : P) (h : L) → j < k + 1
    → IsTrue (get_or (done ++ b ∷ []) j false) ↔ Done (get_or plans j q) (get_or logs j h)
done-next {P} {L} Done plans logs done b k p g size before low-p low-g is-p is-g here j q h below =
    ⊎_elim (λ (l : j < k). subst (λ (x : Bool). IsTrue x
    ↔ Done (get_or plans j q) (get_or logs j h))
    (sym (get_or_append_left done (b ∷ []) false j (omega (arith, size)))) (before j q h l))
    (λ (l : k ≤ j).
    let e : k ≡ j = omega arith in
    subst (λ (x : Bool). IsTrue x ↔ Done (get_or plans j q) (get_or logs j h))
    (sym (get_or_push done b false j (size ∙ e)))
    (subst (λ (n : ℕ). IsTrue b ↔ Done (get_or plans n q) (get_or logs n h)) e
    (subst (λ (x : P). IsTrue b ↔ Done x (get_or logs k h))
    (is-p ∙ get_or_default plans k p q low-p)
    (subst (λ (x : L). IsTrue b ↔ Done p x) (is-g ∙ get_or_default logs k g h low-g) here))))
    (cases_lt j k)

pub size-next : (done : List Bool) (b : Bool) (k : ℕ) → length done ≡ k
    → length (done ++ b ∷ []) ≡ k + 1
size-next done b k size = let n = length_push done b in omega (arith, n, size)

-- ---- controllers

abbrev LegalSoFar : Plant → ℕ → List ControllerPlan → List ControllerLog → ℕ → Type 0
LegalSoFar plant scans plans logs k =
    (j : ℕ) (p : ControllerPlan) (g : ControllerLog) → j < k
    → IsLegal (fixed_of plant scans (get_or plans j p)) (get_or logs j g).entries

spot-of : (plant : Plant) (scans : ℕ) (joint : Joint) (k place : ℕ) (plan : ControllerPlan)
    (log : ControllerLog) → IsPlant plant → HasSections plant joint → k < length plant.controllers
    → plan ≡ get_or plant.controllers k plan → log ≡ get_or joint.controllers k log
    → LegalSoFar plant scans plant.controllers joint.controllers k
    → BreaksAt (IsLegal (fixed_of plant scans plan)) log.entries place
    → ControllerSpot plant scans joint log.node place
spot-of plant scans joint k place plan log sound sections low is-p is-g before breaks =
    let size = same-size (λ (p : ControllerPlan). p.node) (λ (g : ControllerLog). g.node)
    plant.controllers joint.controllers sections.controllers in
    record {
      sections = sections;
      earlier =
          earlier-all (λ (p : ControllerPlan). p.node) (λ (g : ControllerLog). g.node)
          (λ p g. IsLegal (fixed_of plant scans p) g.entries) plant.controllers joint.controllers
          sections.controllers
          sound.controllers_rise k log low is-g before;
      here =
          here-any (λ of. (of.1.node ≡ log.node)
          × BreaksAt (IsLegal (fixed_of plant scans of.0)) of.1.entries place) plant.controllers
          joint.controllers k plan log size low is-p is-g (refl, breaks);
    }

pub controller-spot : (plant : Plant) (scans : ℕ) (joint : Joint) (plans : List ControllerPlan)
    (logs : List ControllerLog) (k place node : ℕ) (plan : ControllerPlan) (log : ControllerLog)
    → plans ≡ plant.controllers → logs ≡ joint.controllers → IsPlant plant
    → HasSections plant joint → k < length plans
    → plan ≡ get_or plans k plan → log ≡ get_or logs k log → node ≡ log.node
    → LegalSoFar plant scans plans logs k
    → BreaksAt (IsLegal (fixed_of plant scans plan)) log.entries place
    → ControllerSpot plant scans joint node place
controller-spot plant scans joint plans logs k place node plan log plans-are logs-are sound
    sections low is-p is-g is before breaks =
    subst (λ (n : ℕ). ControllerSpot plant scans joint n place) (sym is)
    (spot-of plant scans joint k place plan log sound sections
    (subst (λ (l : List ControllerPlan). k < length l) plans-are low)
    (subst (λ (l : List ControllerPlan). plan ≡ get_or l k plan) plans-are is-p)
    (subst (λ (l : List ControllerLog). log ≡ get_or l k log) logs-are is-g)
    (subst (λ (l : List ControllerPlan). LegalSoFar plant scans l joint.controllers k) plans-are
    (subst (λ (l : List ControllerLog). LegalSoFar plant scans plans l k) logs-are before))
    breaks)

abbrev DoneSoFar : Plant → ℕ → List ControllerPlan → List ControllerLog → List Bool → ℕ → Type 0
DoneSoFar plant scans plans logs done k = (j : ℕ) (p : ControllerPlan) (g : ControllerLog) → j < k
    → IsTrue (get_or done j false)
    ↔ ControllerIsComplete (fixed_of plant scans (get_or plans j p)) (get_or logs j g).entries

-- what the first controllers noted
abbrev pub NotedSoFar : Plant → List ControllerPlan → List ControllerLog → List Notes → ℕ → Type 0
NotedSoFar plant plans logs notes k = notes ≡ map (notes_by_log plant) (take k (zip plans logs))

-- and one more
pub notes-next : (plant : Plant) (plans : List ControllerPlan) (logs : List ControllerLog)
    (notes more : List Notes) (noted : Notes) (k : ℕ) (p : ControllerPlan) (g : ControllerLog)
    → NotedSoFar plant plans logs notes k → k < length plans → k < length logs
    → p ≡ get_or plans k p → g ≡ get_or logs k g → noted ≡ notes_by_log plant (p, g)
    → more ≡ notes ++ noted ∷ [] → NotedSoFar plant plans logs more (k + 1)
notes-next plant plans logs notes more noted k p g before low-p low-g is-p is-g is push =
    let n = length-zip plans logs in
    let low : k < length (zip plans logs) = omega (arith, n, low-p, low-g) in
    let pair : get_or (zip plans logs) k (p, g) ≡ (p, g) =
    get_or-zip plans logs k (p, g) low-p low-g ∙ (λ i. (sym is-p i, sym is-g i)) in
    let first : List (ControllerPlan × ControllerLog) = take k (zip plans logs) in
    push ∙ ((λ i. before i ++ is i ∷ [])
    ∙ (sym (map-append (notes_by_log plant) first ((p, g) ∷ []))
    ∙ ap (map (notes_by_log plant)) (sym (take-push (zip plans logs) k (p, g) low (sym pair)))))

-- what all of them noted
notes-all : (plant : Plant) (joint : Joint) (notes : List Notes) (k : ℕ)
    → length plant.controllers ≤ k → NotedSoFar plant plant.controllers joint.controllers notes k
    → notes ≡ notes_in plant joint
notes-all plant joint notes k all noted =
    let pairs = zip plant.controllers joint.controllers in
    let n = length-zip plant.controllers joint.controllers in
    noted ∙ ap (map (notes_by_log plant)) (take_all k pairs (omega (arith, n)))

pub controllers-end : (plant : Plant) (scans : ℕ) (joint : Joint) (plans : List ControllerPlan)
    (logs : List ControllerLog) (done : List Bool) (notes : List Notes) (k : ℕ)
    → plans ≡ plant.controllers → logs ≡ joint.controllers
    → HasSections plant joint → k ≡ length plans → length done ≡ k
    → LegalSoFar plant scans plans logs k → DoneSoFar plant scans plans logs done k
    → NotedSoFar plant plans logs notes k → AreWholeCourses plant scans joint done notes
controllers-end plant scans joint plans logs done notes k plans-are logs-are sections all size
    legal each noted =
    let sizes = same-size (λ (p : ControllerPlan). p.node) (λ (g : ControllerLog). g.node)
    plant.controllers joint.controllers sections.controllers in
    let n = ap (λ (l : List ControllerPlan). length l) plans-are in
    let legal' = subst (λ (l : List ControllerPlan). LegalSoFar plant scans l joint.controllers k)
    plans-are (subst (λ (l : List ControllerLog). LegalSoFar plant scans plans l k) logs-are
    legal) in
    let each' = subst (λ (l : List ControllerPlan). DoneSoFar plant scans l joint.controllers done
    k) plans-are (subst (λ (l : List ControllerLog). DoneSoFar plant scans plans l done k)
    logs-are each) in
    let noted' = subst (λ (l : List ControllerPlan). NotedSoFar plant l joint.controllers notes k)
    plans-are (subst (λ (l : List ControllerLog). NotedSoFar plant plans l notes k) logs-are
    noted) in
    record {
      legal = zip-all (IsLegalLog plant scans) plant.controllers joint.controllers sizes
          (λ j p g low. (
            same-node (λ (p : ControllerPlan). p.node) (λ (g : ControllerLog). g.node)
                plant.controllers joint.controllers sections.controllers j p g low,
            legal' j p g
                (omega (arith, all, n)),
          ));
      are_done =
          record {
            size = omega (arith, size, all, n);
            each = λ j p g low. each' j p g (omega (arith, all, n));
          };
      notes_are = notes-all plant joint notes k (omega (arith, all, n)) noted';
    }

-- ---- hosts

abbrev HostsLegal : List HostPlan → List HostLog → ℕ → Type 0
HostsLegal plans logs k =
    (j : ℕ) (p : HostPlan) (g : HostLog) → j < k
    → IsHostHistory (get_or plans j p) (get_or logs j g).entries

host-spot-of : (plant : Plant) (scans : ℕ) (joint : Joint) (k place : ℕ) (plan : HostPlan)
    (log : HostLog) → IsPlant plant → HasSections plant joint → AreLegalLogs plant scans joint
    → k < length plant.hosts
    → plan ≡ get_or plant.hosts k plan → log ≡ get_or joint.hosts k log
    → HostsLegal plant.hosts joint.hosts k
    → BreaksAt (IsHostHistory plan) log.entries place → HostSpot plant scans joint log.node place
host-spot-of plant scans joint k place plan log sound sections controllers low is-p is-g before
    breaks =
    let size = same-size (λ (p : HostPlan). p.node) (λ (g : HostLog). g.node) plant.hosts
    joint.hosts sections.hosts in
    record {
      sections = sections;
      controllers = controllers;
      earlier =
          earlier-all (λ (p : HostPlan). p.node) (λ (g : HostLog). g.node)
          (λ p g. IsHostHistory p g.entries) plant.hosts joint.hosts sections.hosts
          sound.hosts_rise k log low is-g before;
      here =
          here-any (λ of. (of.1.node ≡ log.node)
          × BreaksAt (IsHostHistory of.0) of.1.entries place) plant.hosts joint.hosts k plan log
          size low is-p is-g (refl, breaks);
    }

pub host-spot : (plant : Plant) (scans : ℕ) (joint : Joint) (plans : List HostPlan)
    (logs : List HostLog) (k place node : ℕ) (plan : HostPlan) (log : HostLog)
    → plans ≡ plant.hosts → logs ≡ joint.hosts → IsPlant plant → HasSections plant joint
    → AreLegalLogs plant scans joint → k < length plans
    → plan ≡ get_or plans k plan → log ≡ get_or logs k log → node ≡ log.node
    → HostsLegal plans logs k
    → BreaksAt (IsHostHistory plan) log.entries place → HostSpot plant scans joint node place
host-spot plant scans joint plans logs k place node plan log plans-are logs-are sound sections
    controllers low is-p is-g is before breaks =
    subst (λ (n : ℕ). HostSpot plant scans joint n place) (sym is)
    (host-spot-of plant scans joint k place plan log sound sections controllers
    (subst (λ (l : List HostPlan). k < length l) plans-are low)
    (subst (λ (l : List HostPlan). plan ≡ get_or l k plan) plans-are is-p)
    (subst (λ (l : List HostLog). log ≡ get_or l k log) logs-are is-g)
    (subst (λ (l : List HostPlan). HostsLegal l joint.hosts k) plans-are
    (subst (λ (l : List HostLog). HostsLegal plans l k) logs-are before)) breaks)

abbrev HostsDone : List HostPlan → List HostLog → List Bool → ℕ → Type 0
HostsDone plans logs done k =
    (j : ℕ) (p : HostPlan) (g : HostLog) → j < k
    → IsTrue (get_or done j false) ↔ EndsEachCall (host_items_of (get_or logs j g).entries)

pub hosts-end : (plant : Plant) (joint : Joint) (plans : List HostPlan) (logs : List HostLog)
    (done : List Bool) (k : ℕ) → plans ≡ plant.hosts → logs ≡ joint.hosts
    → HasSections plant joint → k ≡ length plans → length done ≡ k → HostsLegal plans logs k
    → HostsDone plans logs done k
    → AreLegalHostLogs plant joint × AreHostsDone plant joint done
hosts-end plant joint plans logs done k plans-are logs-are sections all size legal each =
    let sizes = same-size (λ (p : HostPlan). p.node) (λ (g : HostLog). g.node) plant.hosts
    joint.hosts sections.hosts in
    let n = ap (λ (l : List HostPlan). length l) plans-are in
    let legal' = subst (λ (l : List HostPlan). HostsLegal l joint.hosts k) plans-are
    (subst (λ (l : List HostLog). HostsLegal plans l k) logs-are legal) in
    let each' = subst (λ (l : List HostPlan). HostsDone l joint.hosts done k) plans-are
    (subst (λ (l : List HostLog). HostsDone plans l done k) logs-are each) in (
      zip-all IsLegalHostLog plant.hosts joint.hosts sizes
          (λ j p g low. (
            same-node (λ (p : HostPlan). p.node) (λ (g : HostLog). g.node) plant.hosts
                joint.hosts sections.hosts j p g low,
            legal' j p g (omega (arith, all, n)),
          )),
      record {
        size = omega (arith, size, all, n);
        each = λ j g low. each' j (item-of plant.hosts j low) g (omega (arith, all, n));
      },
    )

-- ---- bridges

-- what stands at a place that is none
abbrev pub any_bridge : BridgePlan
any_bridge = record { left_net = 0; left = 0; right_net = 0; right = 0 }

abbrev pub BridgesLegal : List BridgePlan → List BridgeLog → ℕ → Type 0
BridgesLegal plans logs k =
    (j : ℕ) (p : BridgePlan) (g : BridgeLog) → j < k
    → IsBridgeHistory (get_or plans j p) (get_or logs j g).entries

bridge-spot-of : (plant : Plant) (scans : ℕ) (joint : Joint) (k place : ℕ) (plan : BridgePlan)
    (log : BridgeLog) → IsPlant plant → HasSections plant joint → AreLegalLogs plant scans joint
    → AreLegalHostLogs plant joint → k < length plant.bridges
    → plan ≡ get_or plant.bridges k plan → log ≡ get_or joint.bridges k log
    → BridgesLegal plant.bridges joint.bridges k
    → BreaksAt (IsBridgeHistory plan) log.entries place
    → BridgeSpot plant scans joint log.left place
bridge-spot-of plant scans joint k place plan log sound sections controllers hosts low is-p is-g
    before breaks =
    let size = same-size (λ (p : BridgePlan). p.left) (λ (g : BridgeLog). g.left) plant.bridges
    joint.bridges sections.lefts in
    record {
      sections = sections;
      controllers = controllers;
      hosts = hosts;
      earlier =
          earlier-all (λ (p : BridgePlan). p.left) (λ (g : BridgeLog). g.left)
          (λ p g. IsBridgeHistory p g.entries) plant.bridges joint.bridges sections.lefts
          sound.bridges_rise k log low is-g before;
      here =
          here-any (λ of. (of.1.left ≡ log.left)
          × BreaksAt (IsBridgeHistory of.0) of.1.entries place) plant.bridges joint.bridges k plan
          log size low is-p is-g (refl, breaks);
    }

pub bridge-spot : (plant : Plant) (scans : ℕ) (joint : Joint) (plans : List BridgePlan)
    (logs : List BridgeLog) (k place left : ℕ) (plan : BridgePlan) (log : BridgeLog)
    → plans ≡ plant.bridges → logs ≡ joint.bridges → IsPlant plant → HasSections plant joint
    → AreLegalLogs plant scans joint → AreLegalHostLogs plant joint → k < length plans
    → plan ≡ get_or plans k plan → log ≡ get_or logs k log → left ≡ log.left
    → BridgesLegal plans logs k → BreaksAt (IsBridgeHistory plan) log.entries place
    → BridgeSpot plant scans joint left place
bridge-spot plant scans joint plans logs k place left plan log plans-are logs-are sound sections
    controllers hosts low is-p is-g is before breaks =
    subst (λ (n : ℕ). BridgeSpot plant scans joint n place) (sym is)
    (bridge-spot-of plant scans joint k place plan log sound sections controllers hosts
    (subst (λ (l : List BridgePlan). k < length l) plans-are low)
    (subst (λ (l : List BridgePlan). plan ≡ get_or l k plan) plans-are is-p)
    (subst (λ (l : List BridgeLog). log ≡ get_or l k log) logs-are is-g)
    (subst (λ (l : List BridgePlan). BridgesLegal l joint.bridges k) plans-are
    (subst (λ (l : List BridgeLog). BridgesLegal plans l k) logs-are before)) breaks)

pub bridges-end : (plant : Plant) (joint : Joint) (plans : List BridgePlan) (logs : List BridgeLog)
    (k : ℕ) → plans ≡ plant.bridges → logs ≡ joint.bridges → HasSections plant joint
    → k ≡ length plans → BridgesLegal plans logs k → AreLegalBridgeLogs plant joint
bridges-end plant joint plans logs k plans-are logs-are sections all legal =
    let sizes = same-size (λ (p : BridgePlan). p.left) (λ (g : BridgeLog). g.left) plant.bridges
    joint.bridges sections.lefts in
    let n = ap (λ (l : List BridgePlan). length l) plans-are in
    let legal' = subst (λ (l : List BridgePlan). BridgesLegal l joint.bridges k) plans-are
    (subst (λ (l : List BridgeLog). BridgesLegal plans l k) logs-are legal) in
    zip-all IsLegalBridgeLog plant.bridges joint.bridges sizes (λ j p g low. (
      same-node (λ (p : BridgePlan). p.left) (λ (g : BridgeLog). g.left) plant.bridges
          joint.bridges sections.lefts j p g low,
      same-node (λ (p : BridgePlan). p.right) (λ (g : BridgeLog). g.right) plant.bridges
          joint.bridges sections.rights j p g low,
      legal' j p g (omega (arith, all, n)),
    ))

-- ---- rings

abbrev pub RingsLegal : List NetPlan → List RingLog → ℕ → Type 0
RingsLegal nets logs k =
    (j : ℕ) (p : NetPlan) (g : RingLog) → j < k
    → IsLegalRing (get_or nets j p) (get_or logs j g).entries

ring-spot-of : (plant : Plant) (scans : ℕ) (joint : Joint) (k place : ℕ) (net : NetPlan)
    (log : RingLog) → IsPlant plant → HasSections plant joint → AreLegalLogs plant scans joint
    → AreLegalHostLogs plant joint → AreLegalBridgeLogs plant joint → k < length plant.nets
    → net ≡ get_or plant.nets k net → log ≡ get_or joint.rings k log
    → RingsLegal plant.nets joint.rings k
    → BreaksAt (IsLegalRing net) log.entries place → RingSpot plant scans joint log.network place
ring-spot-of plant scans joint k place net log sound sections controllers hosts bridges low is-p
    is-g before breaks =
    let size = same-size (λ (p : NetPlan). p.number) (λ (g : RingLog). g.network) plant.nets
    joint.rings sections.rings in
    record {
      sections = sections;
      controllers = controllers;
      hosts = hosts;
      bridges = bridges;
      earlier =
          earlier-all (λ (p : NetPlan). p.number) (λ (g : RingLog). g.network)
          (λ p g. IsLegalRing p g.entries) plant.nets joint.rings sections.rings
          sound.nets_rise k log low is-g before;
      here =
          here-any (λ of. (of.1.network ≡ log.network)
          × BreaksAt (IsLegalRing of.0) of.1.entries place) plant.nets joint.rings k net log
          size low is-p is-g (refl, breaks);
    }

pub ring-spot : (plant : Plant) (scans : ℕ) (joint : Joint) (nets : List NetPlan)
    (logs : List RingLog) (k place network : ℕ) (net : NetPlan) (log : RingLog)
    → nets ≡ plant.nets → logs ≡ joint.rings → IsPlant plant → HasSections plant joint
    → AreLegalLogs plant scans joint → AreLegalHostLogs plant joint
    → AreLegalBridgeLogs plant joint → k < length nets
    → net ≡ get_or nets k net → log ≡ get_or logs k log → network ≡ log.network
    → RingsLegal nets logs k → BreaksAt (IsLegalRing net) log.entries place
    → RingSpot plant scans joint network place
ring-spot plant scans joint nets logs k place network net log nets-are logs-are sound sections
    controllers hosts bridges low is-p is-g is before breaks =
    subst (λ (n : ℕ). RingSpot plant scans joint n place) (sym is)
    (ring-spot-of plant scans joint k place net log sound sections controllers hosts bridges
    (subst (λ (l : List NetPlan). k < length l) nets-are low)
    (subst (λ (l : List NetPlan). net ≡ get_or l k net) nets-are is-p)
    (subst (λ (l : List RingLog). log ≡ get_or l k log) logs-are is-g)
    (subst (λ (l : List NetPlan). RingsLegal l joint.rings k) nets-are
    (subst (λ (l : List RingLog). RingsLegal nets l k) logs-are before)) breaks)

pub rings-end : (plant : Plant) (joint : Joint) (nets : List NetPlan) (logs : List RingLog)
    (k : ℕ) → nets ≡ plant.nets → logs ≡ joint.rings → HasSections plant joint
    → k ≡ length nets → RingsLegal nets logs k → AreLegalRingLogs plant joint
rings-end plant joint nets logs k nets-are logs-are sections all legal =
    let sizes = same-size (λ (p : NetPlan). p.number) (λ (g : RingLog). g.network) plant.nets
    joint.rings sections.rings in
    let n = ap (λ (l : List NetPlan). length l) nets-are in
    let legal' = subst (λ (l : List NetPlan). RingsLegal l joint.rings k) nets-are
    (subst (λ (l : List RingLog). RingsLegal nets l k) logs-are legal) in
    zip-all IsLegalRingLog plant.nets joint.rings sizes (λ j p g low. (
      same-node (λ (p : NetPlan). p.number) (λ (g : RingLog). g.network) plant.nets joint.rings
          sections.rings j p g low,
      legal' j p g (omega (arith, all, n)),
    ))
