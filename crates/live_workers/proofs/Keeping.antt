-- What workers in threads keep, while others go on and from turn to turn.
use Rattle.std.proofs.Common.{◌≡◌, ⊎_elim, ℕ, Bool, true, false, List, [], ◌++◌, refl}
use Rattle.std.proofs.Common.{sym, ap, subst, ◌∙◌, append-nil}
use Rattle.plant_types.specs.declared.net.NetPlan.{NetPlan}
use Rattle.ring_core.specs.declared.entry.RingEntry.{RingEntry}
use Rattle.ring_core.specs.declared.status.NodeStatus.TheVariants.{In, Gone}
use Rattle.ring_core.specs.Legal.{IsLegalRing}
use Rattle.ring_core.specs.Machine.{is_in, ring_after}
use Rattle.controller_core.specs.declared.entry.Entry.{Entry}
use Rattle.controller_core.specs.declared.fixed.Fixed.{Fixed}
use Rattle.controller_core.specs.Controller.{IsLegal}
use Rattle.controller_core.proofs.NextEntry.{front_legal}
use Rattle.host_port.specs.Host.{HostIs}
use Rattle.joint_history.specs.Reading.{is_off_at, is_ours}
use Rattle.tied_lists.specs.Own.{is_of, own, WentOn}
use Rattle.tied_lists.specs.Waits.{Holds, IsOnRing, has_left, status_at}
use Rattle.tied_lists.proofs.Turns.{membership-kept, on-others, own-found}
use Rattle.comm_port.specs.declared.turn_end.TurnEnd.{TurnEnd}
use Rattle.comm_port.specs.declared.turn_end.TurnEnd.TheVariants as ends
use Rattle.comm_port.specs.Sides.{RamSideIs, RingSideIs}
use Rattle.comm_port.specs.Stands.{RamStands}
use Rattle.comm_port.specs.Turns.{IsNoBridge}
use Rattle.comm_port.specs.WholeTurn.{HoldsTurn}
use Rattle.comm_port.specs.HostTurns.{CountsPasses, HoldsHostTurn, HostTies, HostWorkerIs}
use Rattle.comm_port.specs.HostTurns.{after_turn}
use Rattle.comm_port.specs.Leaving.{IsHere}
use Rattle.comm_port.specs.Worker.{IsMemberWorker, IsSameWorker, Standing, WorkerIs}
use Rattle.comm_port.proofs.HostTurnLaws.{counts-others, host-ties-others}
use Rattle.comm_port.proofs.Standings.{standing-others, standing-scans}
use Rattle.turn_laws.specs.KeepsOn.{HostKeepsOn, KeepsOn, NoneSpent, StandsTied, leaves_out}
use Rattle.turn_laws.specs.KeepsOn.{is_out_of_ring}
use Rattle.turn_laws.specs.Laws.{EndsWhere, HostTurnsKeepOn, HostTurnsSpendNothing}
use Rattle.turn_laws.specs.Laws.{LeavesWhenEnded, ScansKeepOn, SomebodyHolds, StandsAs}
use Rattle.turn_laws.specs.Laws.{TurnsEndWhere, TurnsKeepOn, TurnsSpendNothing}
use Rattle.turn_laws.proofs.Holders.{left-others}
use Rattle.turn_laws.proofs.HostOthers.{host-others}
use Rattle.turn_laws.proofs.Others.{others}
use Rattle.turn_laws.proofs.Stands.{host-stands-of, stands-of, stands-others}
use Rattle.live_workers.specs.Talking.{AttendsOn, StandsAt, TalksOn, is_out_at, stage_of}
use Rattle.live_workers.specs.declared.talking.Stage.TheVariants.{There, Away, Over}

-- a list that others went on with
pub others-only : (alone : Bool) (n : ℕ) (ring ring' : List RingEntry)
    → WentOn alone (is_of n) ring [] ring'
    → (more : List RingEntry) × (ring' ≡ ring ++ more) × (own n more ≡ [])
others-only alone n ring ring' w =
    (w.between, w.after_is ∙ append-nil (ring ++ w.between), w.others)

-- a controller's list that went on in a turn was legal if it is
pub was-legal : (alone : Bool) (fixed : Fixed) (known known' : List Entry)
    → RamStands alone fixed known known' → IsLegal fixed known' → IsLegal fixed known
was-legal alone fixed known known' s legal =
    let grew = s.grown.grew in
    front_legal fixed known grew.more (subst (IsLegal fixed) grew.after_is legal)

-- a worker between two turns is on the ring
pub on-ring : {P Q : Type 0} (w : WorkerIs) (ram : RamSideIs P) (known : List Entry)
    (side : RingSideIs Q) (ring : List RingEntry) → IsMemberWorker side.net w.node
    → Standing w ram known side ring → IsOnRing side.net ring w.node
on-ring w ram known side ring member s = record {
  members = member.members;
  legal = s.legal;
  member = member.member;
  patient = s.patient;
}

-- ---- others go on

talks-on : {P Q : Type 0} (w : WorkerIs) (ram : RamSideIs P) (known : List Entry)
    (side : RingSideIs Q) (ring more : List RingEntry)
    → IsLegalRing side.net (ring ++ more) → own w.node more ≡ []
    → TalksOn w ram known side ring There → TalksOn w ram known side (ring ++ more) There
talks-on w ram known side ring more legal none t =
    let n = w.node in
    record {
      member = t.member;
      no_bridge = t.no_bridge;
      budget = t.budget;
      standing = standing-others w ram known side ring more
          (on-others side.net n ring more (on-ring w ram known side ring t.member t.standing) legal
          none) none t.standing;
      stands_at = left-others side.net n ring more none ∙ t.stands_at;
      unspent = subst NoneSpent (sym (own-found n ring more none)) t.unspent;
      so_far = λ good.
          let s = t.so_far good in
          record {
            stands = stands-others ram.fixed side.net n known ring more legal none s.stands;
            keeps = others ram.fixed side.net n known ring more false none s.keeps;
            over = λ is. absurd (let no' : There ≡ Over = is in cc);
          };
    }

pub talks-others : {P Q : Type 0} (alone : Bool) (w : WorkerIs) (ram : RamSideIs P)
    (known : List Entry) (side side' : RingSideIs Q) (ring ring' : List RingEntry) → side' ≡ side
    → WentOn alone (is_of w.node) ring [] ring' → IsLegalRing side.net ring'
    → TalksOn w ram known side ring There → TalksOn w ram known side' ring' There
talks-others {P} {Q} alone w ram known side side' ring ring' same went legal t =
    let o = others-only alone w.node ring ring' went in
    subst (λ (s : RingSideIs Q). TalksOn w ram known s ring' There) (sym same)
    (subst (λ l. TalksOn w ram known side l There) (sym o.1)
    (talks-on w ram known side ring o.0 (subst (IsLegalRing side.net) o.1 legal) o.2 t))

-- so does the scan, while the node is away
pub talks-scans : {P Q : Type 0} (law : ScansKeepOn) (alone : Bool) (w : WorkerIs)
    (ram ram' : RamSideIs P) (known known' : List Entry) (side : RingSideIs Q)
    (ring : List RingEntry) → ram' ≡ ram → WentOn alone is_ours known [] known'
    → TalksOn w ram known side ring Away → TalksOn w ram' known' side ring Away
talks-scans {P} law alone w ram ram' known known' side ring same went t =
    let more = went.between in
    let is : known' ≡ known ++ more = went.after_is ∙ append-nil (known ++ more) in
    subst (λ (m : RamSideIs P). TalksOn w m known' side ring Away) (sym same)
    (subst (λ l. TalksOn w ram l side ring Away) (sym is) (record {
      member = t.member;
      no_bridge = t.no_bridge;
      budget = t.budget;
      standing = standing-scans w ram known more side ring went.others t.standing;
      stands_at = t.stands_at;
      unspent = t.unspent;
      so_far = λ good.
          let s = t.so_far (front_legal ram.fixed known more good) in
          record {
            stands = stands-of w ram (known ++ more) side ring t.member good
                (standing-scans w ram known more side ring went.others t.standing);
            keeps = law ram.fixed side.net w.node known more ring true good went.others s.keeps;
            over = λ no. absurd (let no' : Away ≡ Over = no in cc);
          };
    }))

-- ---- turns

-- who holds the token is in
holds-in : (law : SomebodyHolds) (net : NetPlan) (ring : List RingEntry) (n : ℕ)
    → IsOnRing net ring n → has_left (status_at net ring n) ≡ false
    → (ring_after net ring).holder ≡ n → Holds net ring n
holds-in law net ring n on there is = record {
  holder = is;
  here = ⊎_elim
      (λ (held : status_at net ring (ring_after net ring).holder ≡ In).
      ap is_in (ap (status_at net ring) (sym is) ∙ held))
      (λ (none : ((ring_after net ring).holder ≡ 0)
      × ((m : ℕ) → has_left (status_at net ring m) ≡ true)).
      absurd (let no' : false ≡ true = sym there ∙ none.1 n in cc))
      (law net ring on.members on.legal);
}

pub holds-now : {P Q : Type 0} (law : SomebodyHolds) (w : WorkerIs) (ram : RamSideIs P)
    (known : List Entry) (side : RingSideIs Q) (ring : List RingEntry) (node : ℕ) → w.node ≡ node
    → TalksOn w ram known side ring There → (ring_after side.net ring).holder ≡ node
    → Holds side.net ring w.node
holds-now law w ram known side ring node same t is =
    holds-in law side.net ring w.node (on-ring w ram known side ring t.member t.standing)
    t.stands_at (is ∙ sym same)

-- where a turn leaves its node
stands-where : (fixed : Fixed) (net : NetPlan) (n : ℕ) (end : TurnEnd) (known : List Entry)
    (ring : List RingEntry) → EndsWhere fixed net n end known ring
    → StandsAt (stage_of end) net ring n
stands-where fixed net n ends.Passed known ring e = ap has_left e.stands
stands-where fixed net n ends.Left known ring e = ap has_left e.stands
stands-where fixed net n ends.Away known ring e = record { away = e.stands; idle = e.idle refl }
stands-where fixed net n ends.Asking known ring e = e.stands

out-after : (end : TurnEnd) → leaves_out end ≡ is_out_at (stage_of end)
out-after ends.Passed = refl
out-after ends.Left = refl
out-after ends.Away = refl
out-after ends.Asking = refl

left-over : (end : TurnEnd) → stage_of end ≡ Over → end ≡ ends.Left
left-over ends.Passed is = absurd (let no' : There ≡ Over = is in cc)
left-over ends.Left is = refl
left-over ends.Away is = absurd (let no' : Away ≡ Over = is in cc)
left-over ends.Asking is = absurd (let no' : There ≡ Over = is in cc)

-- the laws of a hold of the token
pub record HoldLaws : Type 0 where
  pub keeps : TurnsKeepOn
  pub where_to : TurnsEndWhere
  pub leaves : LeavesWhenEnded
  pub unspent : TurnsSpendNothing

talks-turn : {P Q : Type 0} (laws : HoldLaws) (alone_ram alone_ring : Bool) (w w' : WorkerIs)
    (ram : RamSideIs P) (known known' : List Entry) (side : RingSideIs Q)
    (ring ring' : List RingEntry) (end : TurnEnd) → w'.node ≡ w.node → w'.budget ≡ w.budget
    → HoldsTurn alone_ram alone_ring ram.fixed side.net w.node w.budget known known' ring ring' end
    → RamStands alone_ram ram.fixed known known' → Standing w' ram known' side ring'
    → TalksOn w ram known side ring There → TalksOn w' ram known' side ring' (stage_of end)
talks-turn laws alone_ram alone_ring w w' ram known known' side ring ring' end node budget t went
    standing k =
    let f = ram.fixed in
    let turn : HoldsTurn alone_ram alone_ring f side.net w.node false known known' ring ring' end =
    subst (λ b. HoldsTurn alone_ram alone_ring f side.net w.node b known known' ring ring' end)
    k.budget t in
    let ended : EndsWhere f side.net w.node end known' ring' =
    laws.where_to alone_ram alone_ring f side.net w.node false end known known' ring ring' turn
    (on-ring w ram known side ring k.member k.standing) standing.legal in
    let member : IsMemberWorker side.net w'.node =
    subst (IsMemberWorker side.net) (sym node) k.member in
    record {
      member = member;
      no_bridge = subst (IsNoBridge side.net) (sym node) k.no_bridge;
      budget = budget ∙ k.budget;
      standing = standing;
      stands_at = subst (StandsAt (stage_of end) side.net ring') (sym node)
          (stands-where f side.net w.node end known' ring' ended);
      unspent = subst (λ n. NoneSpent (own n ring')) (sym node) (laws.unspent alone_ram alone_ring f
          side.net w.node end known known' ring ring' turn k.unspent);
      so_far = λ legal.
          let s = k.so_far (was-legal alone_ram f known known' went legal) in
          let now = stands-of w' ram known' side ring' member legal standing in
          record {
            stands = now;
            keeps = subst (λ n. KeepsOn f side.net n known' ring' (is_out_at (stage_of end)))
                (sym node) (subst (KeepsOn f side.net w.node known' ring') (out-after end)
                (laws.keeps alone_ram alone_ring f side.net w.node false end known known' ring ring'
                turn s.stands (subst (λ n. StandsTied f side.net n known' ring') node now)
                s.keeps));
            over = λ is.
                let left = left-over end is in
                let both = laws.leaves alone_ram alone_ring f side.net w.node known known' ring
                ring' (subst (HoldsTurn alone_ram alone_ring f side.net w.node false known known'
                ring ring') left turn) legal in
                let gone : status_at side.net ring' w.node ≡ Gone =
                subst (λ e. StandsAs e (status_at side.net ring' w.node)) left ended.stands in
                record {
                  ended = both.0;
                  collected = both.1;
                  out = ap (λ n. is_out_of_ring (is_off_at f known') (status_at side.net ring' n))
                      node ∙ ap (is_out_of_ring (is_off_at f known')) gone;
                };
          };
    }

pub talks-next : {P Q : Type 0} (laws : HoldLaws) (alone_ram alone_ring : Bool) (w w' : WorkerIs)
    (ram ram' : RamSideIs P) (known known' : List Entry) (side side' : RingSideIs Q)
    (ring ring' : List RingEntry) (end : TurnEnd) → ram' ≡ ram → side' ≡ side → IsSameWorker w w'
    → HoldsTurn alone_ram alone_ring ram.fixed side.net w.node w.budget known known' ring ring' end
    → RamStands alone_ram ram.fixed known known' → Standing w' ram' known' side' ring'
    → TalksOn w ram known side ring There → TalksOn w' ram' known' side' ring' (stage_of end)
talks-next {P} {Q} laws alone_ram alone_ring w w' ram ram' known known' side side' ring ring' end
    same same' worker t went standing k =
    subst (λ (m : RamSideIs P). TalksOn w' m known' side' ring' (stage_of end)) (sym same)
    (subst (λ (s : RingSideIs Q). TalksOn w' ram known' s ring' (stage_of end)) (sym same')
    (talks-turn laws alone_ram alone_ring w w' ram known known' side ring ring' end
    (ap (λ (v : WorkerIs). v.node) worker) (ap (λ (v : WorkerIs). v.budget) worker) t went
    (subst (λ (m : RamSideIs P). Standing w' m known' side ring') same
    (subst (λ (s : RingSideIs Q). Standing w' ram' known' s ring') same' standing)) k))

-- ---- hosts

-- who is in stays in while others write
pub here-kept : (net : NetPlan) (n : ℕ) (ring more : List RingEntry) → own n more ≡ []
    → IsHere net ring n → IsHere net (ring ++ more) n
here-kept net n ring more none here =
    ap is_in (membership-kept net n ring more none
    (λ asks. let no' : false ≡ true = sym (ap is_in asks) ∙ here in absurd (cc))) ∙ here

pub attends-others : {Q : Type 0} (alone : Bool) (w : HostWorkerIs) (host : HostIs)
    (side side' : RingSideIs Q) (ring ring' : List RingEntry) (left : Bool)
    → side' ≡ side → WentOn alone (is_of w.node) ring [] ring' → IsLegalRing side.net ring'
    → AttendsOn w host side ring left → AttendsOn w host side' ring' left
attends-others {Q} alone w host side side' ring ring' left same went legal a =
    let o = others-only alone w.node ring ring' went in
    subst (λ (s : RingSideIs Q). AttendsOn w host s ring' left) (sym same)
    (subst (λ l. AttendsOn w host side l left) (sym o.1) (record {
      node = a.node;
      no_bridge = a.no_bridge;
      budget = a.budget;
      ties = host-ties-others w.node host side ring o.0 o.2
          (subst (IsLegalRing side.net) o.1 legal) a.ties;
      counts = counts-others w ring o.0 o.2 a.counts;
      here = λ is. here-kept side.net w.node ring o.0 o.2 (a.here is);
      unspent = subst NoneSpent (sym (own-found w.node ring o.0 o.2)) a.unspent;
      keeps = host-others host.plan side.net host.history ring o.0 left
          (ap (λ n. own n o.0) a.node ∙ o.2) a.keeps;
    }))

pub host-holds-now : {Q : Type 0} (w : HostWorkerIs) (host : HostIs) (side : RingSideIs Q)
    (ring : List RingEntry) (node : ℕ)
    → w.node ≡ node → AttendsOn w host side ring false → (ring_after side.net ring).holder ≡ node
    → Holds side.net ring w.node
host-holds-now w host side ring node same a is =
    record { holder = is ∙ sym same; here = a.here refl }

after-node : (w : HostWorkerIs) (left : Bool)
    → ((after_turn w left).node ≡ w.node) × ((after_turn w left).budget ≡ w.budget)
after-node w true = (refl, refl)
after-node w false = (refl, refl)

-- the laws of a host's hold of the token
pub record HostLaws : Type 0 where
  pub keeps : HostTurnsKeepOn
  pub unspent : HostTurnsSpendNothing

pub attends-next : {Q : Type 0} (laws : HostLaws) (alone : Bool) (w w' : HostWorkerIs)
    (host host' : HostIs)
    (side side' : RingSideIs Q) (ring ring' : List RingEntry) (left : Bool)
    → host'.plan ≡ host.plan → side' ≡ side → w' ≡ after_turn w left
    → HoldsHostTurn alone side.net w.node host.plan w.budget host.history host'.history
    ring ring' left
    → HostTies w'.node host' side' ring' → CountsPasses w' ring'
    → (left ≡ false → IsHere side'.net ring' w.node)
    → AttendsOn w host side ring false → AttendsOn w' host' side' ring' left
attends-next {Q} laws alone w w' host host' side side' ring ring' left plan same worker t ties
    counts here a =
    let after = after-node w left in
    let node : w'.node ≡ w.node = ap (λ (v : HostWorkerIs). v.node) worker ∙ after.0 in
    let ties_here : HostTies w'.node host' side ring' =
    subst (λ (s : RingSideIs Q). HostTies w'.node host' s ring') same ties in
    let old = host-stands-of w.node host side ring a.ties in
    let new' = host-stands-of w'.node host' side ring' ties_here in
    let new = subst
    (λ p. Rattle.turn_laws.specs.KeepsOn.HostStandsTied p side.net host'.history ring') plan new' in
    let turn = subst (λ n. HoldsHostTurn alone side.net n host.plan w.budget host.history
    host'.history ring ring' left) (sym a.node) t in
    let free = subst (λ b. HoldsHostTurn alone side.net w.node host.plan b host.history
    host'.history ring ring' left) a.budget t in
    record {
      node = ap (λ p. p.node) plan ∙ a.node ∙ sym node;
      no_bridge = subst (λ (s : RingSideIs Q). IsNoBridge s.net w'.node) (sym same)
          (subst (IsNoBridge side.net) (sym node) a.no_bridge);
      budget = ap (λ (v : HostWorkerIs). v.budget) worker ∙ after.1 ∙ a.budget;
      ties = ties;
      counts = counts;
      here = λ is. subst (IsHere side'.net ring') (sym node) (here is);
      unspent = subst (λ n. NoneSpent (own n ring')) (sym node) (laws.unspent alone side.net w.node
          host.plan left host.history host'.history ring ring' free a.unspent);
      keeps = subst (λ (s : RingSideIs Q). HostKeepsOn host'.plan s.net host'.history ring' left)
          (sym same)
          (subst (λ p. HostKeepsOn p side.net host'.history ring' left) (sym plan)
          (laws.keeps alone side.net host.plan w.budget left host.history host'.history ring
          ring' turn old new a.keeps));
    }
