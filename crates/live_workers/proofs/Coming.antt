-- A node that is away comes back, or stays away for good.
use Rattle.std.proofs.Common.{◌≡◌, ℕ, Bool, true, false, not, List, refl, sym, ap, subst, ◌∙◌}
use Rattle.plant_types.specs.declared.net.NetPlan.{NetPlan}
use Rattle.ring_core.specs.declared.entry.RingEntry.{RingEntry}
use Rattle.ring_core.specs.declared.status.NodeStatus.TheVariants as statuses
use Rattle.controller_core.specs.declared.entry.Entry.{Entry}
use Rattle.controller_core.specs.declared.fixed.Fixed.{Fixed}
use Rattle.controller_core.specs.Controller.{IsLegal}
use Rattle.joint_history.specs.Reading.{has_ended_at, is_off_at}
use Rattle.tied_lists.specs.Own.{own}
use Rattle.tied_lists.specs.Waits.{has_left, status_at}
use Rattle.comm_port.specs.Failing.{ComesBack, IsAway}
use Rattle.comm_port.specs.HoldTurn.{VisitsEnd}
use Rattle.comm_port.specs.Sides.{RamSideIs, RingSideIs}
use Rattle.comm_port.specs.Stands.{RamStands}
use Rattle.comm_port.specs.Turns.{IsNoBridge}
use Rattle.comm_port.specs.Worker.{IsMemberWorker, Standing, WorkerIs}
use Rattle.turn_laws.specs.KeepsOn.{KeepsOn, NoneSpent, StandsTied, is_out_of_ring}
use Rattle.turn_laws.specs.Laws.{AwayTurnsEndWhere, AwayTurnsKeepOn, AwayTurnsSpendNothing}
use Rattle.turn_laws.specs.Laws.{EndedStays, VisitsCollect, VisitsKeepOn, VisitsSpendNothing}
use Rattle.turn_laws.proofs.Stands.{stands-of}
use Rattle.live_workers.specs.Talking.{StandsAt, TalksOn, is_out_at}
use Rattle.live_workers.specs.declared.talking.Stage.{Stage}
use Rattle.live_workers.specs.declared.talking.Stage.TheVariants.{There, Away, Over}
use Rattle.live_workers.proofs.Keeping.{on-ring, was-legal}

-- ---- a turn of a node that is away

abbrev pub came_to : Bool → Stage
came_to true = There
came_to false = Away

-- the laws of such a turn
pub record AwayLaws : Type 0 where
  pub keeps : AwayTurnsKeepOn
  pub where_to : AwayTurnsEndWhere
  pub unspent : AwayTurnsSpendNothing

out-came : (joined : Bool) → not joined ≡ is_out_at (came_to joined)
out-came true = refl
out-came false = refl

not-over : (joined : Bool) → came_to joined ≡ Over → ⊥
not-over true is = let no' : There ≡ Over = is in absurd (cc)
not-over false is = let no' : Away ≡ Over = is in absurd (cc)

-- where it leaves the node
stands-came : (net : NetPlan) (n : ℕ) (joined : Bool) (ring ring' : List RingEntry)
    → has_left (status_at net ring' n) ≡ not joined → (joined ≡ false → ring' ≡ ring)
    → IsAway net ring n → StandsAt (came_to joined) net ring' n
stands-came net n true ring ring' left stays away = left
stands-came net n false ring ring' left stays away =
    subst (λ l. IsAway net l n) (sym (stays refl)) away

came : {P Q : Type 0} (laws : AwayLaws) (alone_ram alone_ring : Bool) (w : WorkerIs)
    (ram : RamSideIs P) (known known' : List Entry) (side : RingSideIs Q)
    (ring ring' : List RingEntry) (joined : Bool)
    → ComesBack alone_ram alone_ring ram.fixed w.node known known' ring ring' joined
    → RamStands alone_ram ram.fixed known known' → Standing w ram known' side ring'
    → TalksOn w ram known side ring Away → TalksOn w ram known' side ring' (came_to joined)
came laws alone_ram alone_ring w ram known known' side ring ring' joined t went standing k =
    let f = ram.fixed in
    let n = w.node in
    record {
      member = k.member;
      no_bridge = k.no_bridge;
      budget = k.budget;
      standing = standing;
      stands_at = stands-came side.net n joined ring ring' (laws.where_to alone_ram alone_ring f
          side.net n joined known known' ring ring' t
          (on-ring w ram known side ring k.member k.standing) k.stands_at standing.legal)
          t.stays k.stands_at;
      unspent = laws.unspent alone_ram alone_ring f n joined known known' ring ring' t k.unspent;
      so_far = λ legal.
          let s = k.so_far (was-legal alone_ram f known known' went legal) in
          let now = stands-of w ram known' side ring' k.member legal standing in
          record {
            stands = now;
            keeps = subst (KeepsOn f side.net n known' ring') (out-came joined)
                (laws.keeps alone_ram alone_ring f side.net n joined known known' ring ring' t
                k.stands_at s.stands now s.keeps);
            over = λ is. absurd (not-over joined is);
          };
    }

pub talks-came : {P Q : Type 0} (laws : AwayLaws) (alone_ram alone_ring : Bool) (w w' : WorkerIs)
    (ram ram' : RamSideIs P) (known known' : List Entry) (side side' : RingSideIs Q)
    (ring ring' : List RingEntry) (joined : Bool) → ram' ≡ ram → side' ≡ side → w' ≡ w
    → ComesBack alone_ram alone_ring ram.fixed w.node known known' ring ring' joined
    → RamStands alone_ram ram.fixed known known' → Standing w' ram' known' side' ring'
    → TalksOn w ram known side ring Away → TalksOn w' ram' known' side' ring' (came_to joined)
talks-came {P} {Q} laws alone_ram alone_ring w w' ram ram' known known' side side' ring ring'
    joined same same' worker t went standing k =
    subst (λ (v : WorkerIs). TalksOn v ram' known' side' ring' (came_to joined)) (sym worker)
    (subst (λ (m : RamSideIs P). TalksOn w m known' side' ring' (came_to joined)) (sym same)
    (subst (λ (s : RingSideIs Q). TalksOn w ram known' s ring' (came_to joined)) (sym same')
    (came laws alone_ram alone_ring w ram known known' side ring ring' joined t went
    (subst (λ (v : WorkerIs). Standing v ram known' side ring') worker
    (subst (λ (m : RamSideIs P). Standing w' m known' side ring') same
    (subst (λ (s : RingSideIs Q). Standing w' ram' known' s ring') same' standing))) k)))

-- ---- the visit of a node that stays away

-- no scan is left, and there is no power
pub record IsOutForGood (fixed : Fixed) (known : List Entry) : Type 0 where
  pub legal : IsLegal fixed known
  pub ended : has_ended_at fixed known ≡ true
  pub off : is_off_at fixed known ≡ true

was-off : (off : Bool) → false ≡ not off → off ≡ true
was-off true is = refl
was-off false is = absurd (let no' : false ≡ true = is in cc)

-- whose scans had ended as its node did not come back is out
pub is-out : (law : EndedStays) (alone_ram alone_ring : Bool) (fixed : Fixed) (n : ℕ)
    (known known' : List Entry) (ring ring' : List RingEntry)
    → ComesBack alone_ram alone_ring fixed n known known' ring ring' false
    → RamStands alone_ram fixed known known' → IsLegal fixed known
    → has_ended_at fixed known ≡ true → IsOutForGood fixed known'
is-out law alone_ram alone_ring fixed n known known' ring ring' t went legal ended = record {
  legal = went.legal legal;
  ended = (law fixed known known' alone_ram _ t.asks (went.legal legal) ended).0;
  off = was-off (is_off_at fixed known') t.joined_is;
}

-- the laws of a visit
pub record VisitLaws : Type 0 where
  pub keeps : VisitsKeepOn
  pub collects : VisitsCollect
  pub unspent : VisitsSpendNothing

visited : {P Q : Type 0} (laws : VisitLaws) (alone_ram alone_ring : Bool) (w w' : WorkerIs)
    (ram : RamSideIs P) (known known' : List Entry) (side : RingSideIs Q)
    (ring ring' : List RingEntry) → w'.node ≡ w.node → w'.budget ≡ w.budget
    → VisitsEnd alone_ram alone_ring ram.fixed side.net w.node known known' ring ring'
    → RamStands alone_ram ram.fixed known known' → IsOutForGood ram.fixed known
    → Standing w' ram known' side ring' → TalksOn w ram known side ring Away
    → TalksOn w' ram known' side ring' Over
visited laws alone_ram alone_ring w w' ram known known' side ring ring' node budget v went out
    standing k =
    let f = ram.fixed in
    let all = laws.collects alone_ram alone_ring f side.net w.node known known' ring ring' v
    (ap has_left k.stands_at.away) (went.legal out.legal) out.ended in
    let off : is_off_at f known' ≡ true = all.2 ∙ out.off in
    let away : status_at side.net ring' w.node ≡ statuses.Away = all.3 ∙ k.stands_at.away in
    let member : IsMemberWorker side.net w'.node =
    subst (IsMemberWorker side.net) (sym node) k.member in
    record {
      member = member;
      no_bridge = subst (IsNoBridge side.net) (sym node) k.no_bridge;
      budget = budget ∙ k.budget;
      standing = standing;
      stands_at = ap (λ n. has_left (status_at side.net ring' n)) node ∙ ap has_left away;
      unspent = subst (λ n. NoneSpent (own n ring')) (sym node) (laws.unspent alone_ram alone_ring f
          side.net w.node known known' ring ring' v k.unspent);
      so_far = λ legal.
          let s = k.so_far out.legal in
          let now = stands-of w' ram known' side ring' member legal standing in
          record {
            stands = now;
            keeps = subst (λ n. KeepsOn f side.net n known' ring' true) (sym node)
                (laws.keeps alone_ram alone_ring f side.net w.node known known' ring ring' v
                s.stands (subst (λ n. StandsTied f side.net n known' ring') node now) s.keeps);
            over = λ _. record {
              ended = all.0;
              collected = all.1;
              out = ap (λ n. is_out_of_ring (is_off_at f known') (status_at side.net ring' n)) node
                  ∙ (λ i. is_out_of_ring (off i) (away i));
            };
          };
    }

pub talks-visited : {P Q : Type 0} (laws : VisitLaws) (alone_ram alone_ring : Bool)
    (w w' : WorkerIs) (ram ram' : RamSideIs P) (known known' : List Entry)
    (side side' : RingSideIs Q) (ring ring' : List RingEntry) → ram' ≡ ram → side' ≡ side
    → w' ≡ record w { waiting = w'.waiting }
    → VisitsEnd alone_ram alone_ring ram.fixed side.net w.node known known' ring ring'
    → RamStands alone_ram ram.fixed known known' → IsOutForGood ram.fixed known
    → Standing w' ram' known' side' ring' → TalksOn w ram known side ring Away
    → TalksOn w' ram' known' side' ring' Over
talks-visited {P} {Q} laws alone_ram alone_ring w w' ram ram' known known' side side' ring ring'
    same same' worker v went out standing k =
    subst (λ (m : RamSideIs P). TalksOn w' m known' side' ring' Over) (sym same)
    (subst (λ (s : RingSideIs Q). TalksOn w' ram known' s ring' Over) (sym same')
    (visited laws alone_ram alone_ring w w' ram known known' side ring ring'
    (ap (λ (v' : WorkerIs). v'.node) worker) (ap (λ (v' : WorkerIs). v'.budget) worker) v went out
    (subst (λ (m : RamSideIs P). Standing w' m known' side ring') same
    (subst (λ (s : RingSideIs Q). Standing w' ram' known' s ring') same' standing)) k))
