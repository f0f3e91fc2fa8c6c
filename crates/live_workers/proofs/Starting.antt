-- Workers before their first turn.
use Rattle.std.proofs.Common.{◌≡◌, ℕ, ◌<◌, false, List, [], ◌∷◌, ◌++◌, Option, Some, refl, sym}
use Rattle.std.proofs.Common.{ap, subst, arith}
use Rattle.std.specs.List.{All}
use Rattle.plant_types.specs.declared.net.HostPlan.{HostPlan}
use Rattle.plant_types.specs.declared.net.NetPlan.{NetPlan}
use Rattle.plant_types.specs.declared.plan.Plant.{Plant}
use Rattle.plant_types.specs.Plans.{IsNetPlan, net_of}
use Rattle.ring_core.specs.declared.entry.RingEntry.{RingEntry}
use Rattle.ring_core.specs.Legal.{IsMember}
use Rattle.ring_core.specs.Machine.{addresses, is_in}
use Rattle.std.proofs.lemmas.List.Elements.{All-contains}
use Rattle.controller_core.specs.declared.entry.Entry.{Entry}
use Rattle.host_port.specs.Host.{HostIs}
use Rattle.host_port.specs.Legal.{questions_of}
use Rattle.tied_lists.specs.Waits.{IsOnRing, has_left, status_at}
use Rattle.comm_port.specs.HostTurns.{HostWorkerIs}
use Rattle.comm_port.specs.Sides.{RamSideIs, RingSideIs, MayWrite}
use Rattle.comm_port.specs.Turns.{IsNoBridge}
use Rattle.comm_port.specs.Worker.{IsMemberWorker, WorkerIs, new_worker}
use Rattle.comm_port.proofs.HostTurnLaws.{host-ties-new}
use Rattle.comm_port.proofs.Standings.{standing-new}
use Rattle.turn_laws.proofs.HostOthers.{host-starts}
use Rattle.turn_laws.proofs.Others.{starts}
use Rattle.turn_laws.proofs.Passes.{nil-cons}
use Rattle.turn_laws.proofs.Stands.{stands-start}
use Rattle.live_workers.specs.Stations.{IsUnused}
use Rattle.live_workers.specs.Talking.{AttendsOn, TalksOn}
use Rattle.live_workers.specs.declared.talking.Stage.TheVariants.{There, Over}
use Rattle.turn_laws.proofs.Holders.{member-there}

pub low-members : (net : NetPlan) → IsNetPlan net → All (λ m. m < addresses) net.members
low-members net s k d within = let high = (s.members.each k d within).to in omega (arith, high)

pub low-member : (net : NetPlan) (n : ℕ) → IsNetPlan net → IsMember net n → n < addresses
low-member net n s member =
    All-contains (λ m. m < addresses) net.members n (low-members net s) member

on-start : (net : NetPlan) (n : ℕ) → IsNetPlan net → IsMember net n → IsOnRing net [] n
on-start net n s member = record {
  members = low-members net s;
  legal = tt;
  member = member;
  patient = tt;
}

pub serves-as : (writer : Option ℕ) (n : ℕ) → writer ≡ Some n → MayWrite writer n
serves-as writer n is = subst (λ w. MayWrite w n) (sym is) refl

host-talks : {Q : Type 0} (plan : HostPlan) (net : NetPlan) (side : RingSideIs Q) → IsNetPlan net
    → IsMember net plan.node → IsNoBridge net plan.node → side.net ≡ net
    → side.writer ≡ Some plan.node
    → AttendsOn (record { node = plan.node; budget = false; passes = 0 })
    (record { plan = plan; history = [] }) side [] false
host-talks plan net side sound member station same writer =
    let n = plan.node in
    record {
      node = refl;
      no_bridge = subst (λ (m : NetPlan). IsNoBridge m n) (sym same) station;
      budget = refl;
      ties = host-ties-new plan side
          (record {
            order = (questions_of plan, refl);
            each = λ before after entry is. none before after entry is;
          })
          (serves-as side.writer n writer)
          (subst (λ m. IsOnRing m [] n) (sym same) (on-start net n sound member))
          (subst (λ (m : NetPlan). 0 < m.answer) (sym same)
          (let from = sound.numbers.answer.from in omega (arith, from)));
      counts = refl;
      here = λ is. subst (λ m. Rattle.comm_port.specs.Leaving.IsHere m [] n) (sym same)
          (ap is_in (member-there net n (low-member net n sound member) member));
      unspent = λ k d within. absurd (omega (arith, within));
      keeps = host-starts plan side.net [] refl;
    }
  where
    none : (before after : List Rattle.host_port.specs.declared.entry.HostEntry.HostEntry)
        (entry : Rattle.host_port.specs.declared.entry.HostEntry.HostEntry)
        → [] ≡ before ++ entry ∷ after → Rattle.host_port.specs.Legal.FitsHost plan before entry
    none [] after entry is = nil-cons is
    none (x ∷ before) after entry is = nil-cons is

pub attends-start : {Q : Type 0} (plant : Plant) (plan : HostPlan) (w : HostWorkerIs)
    (host : HostIs) (side : RingSideIs Q) (ring : List RingEntry)
    → IsUnused plant plan.node side ring → host ≡ record { plan = plan; history = [] }
    → w ≡ record { node = plan.node; budget = false; passes = 0 }
    → AttendsOn w host side ring false
attends-start plant plan w host side ring u host_is worker_is =
    let e = u.unused in
    subst (λ l. AttendsOn w host side l false) (sym e.nothing)
    (subst (λ h. AttendsOn w h side [] false) (sym host_is)
    (subst (λ v. AttendsOn v (record { plan = plan; history = [] }) side [] false) (sym worker_is)
    (host-talks plan (net_of plant plan.node) side e.sound e.member u.no_bridge e.net e.writer)))

controller-talks : {P Q : Type 0} (n : ℕ) (net : NetPlan) (ram : RamSideIs P) (side : RingSideIs Q)
    → ram.fixed.plan.node ≡ n → IsNetPlan net → IsMember net n → IsNoBridge net n
    → side.net ≡ net → side.writer ≡ Some n
    → TalksOn (new_worker n false) ram [] side [] There
controller-talks n net ram side node sound member station same writer =
    let on : IsOnRing side.net [] n = subst (λ m. IsOnRing m [] n) (sym same)
    (on-start net n sound member) in
    let there : IsMemberWorker side.net n = record {
      members = on.members;
      member = on.member;
      answer = subst (λ m. 0 < m.answer) (sym same)
          (let low = sound.numbers.answer.from in omega (arith, low));
    } in
    record {
      member = there;
      no_bridge = subst (λ (m : NetPlan). IsNoBridge m n) (sym same) station;
      budget = refl;
      standing = standing-new n false ram [] side node there (serves-as side.writer n writer) refl;
      stands_at = subst (λ m. has_left (status_at m [] n) ≡ false) (sym same)
          (ap has_left (member-there net n (low-member net n sound member) member));
      unspent = λ k d within. absurd (omega (arith, within));
      so_far = λ legal. record {
        stands = stands-start ram.fixed side.net n [] node on refl;
        keeps = starts ram.fixed side.net n [] refl;
        over = λ is. absurd (let no' : There ≡ Over = is in cc);
      };
    }

pub talks-start : {P Q : Type 0} (plant : Plant) (n : ℕ) (w : WorkerIs) (ram : RamSideIs P)
    (known : List Entry) (side : RingSideIs Q) (ring : List RingEntry)
    → ram.fixed.plan.node ≡ n → known ≡ [] → IsUnused plant n side ring
    → w ≡ new_worker n false → TalksOn w ram known side ring There
talks-start plant n w ram known side ring node none u worker_is =
    let net = net_of plant n in
    let e = u.unused in
    subst (λ l. TalksOn w ram known side l There) (sym e.nothing)
    (subst (λ l. TalksOn w ram l side [] There) (sym none)
    (subst (λ v. TalksOn v ram [] side [] There) (sym worker_is)
    (controller-talks n net ram side node e.sound e.member u.no_bridge e.net e.writer)))
