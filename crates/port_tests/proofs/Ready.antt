-- Controllers that stand on one ring, while each has its steps and turns.
use Rattle.std.proofs.Common.{◌≡◌, ◌≢◌, ℕ, ◌<◌, ◌==◌, Bool, true}
use Rattle.std.proofs.Common.{false, cond, List, [], ◌∷◌, ◌++◌, All}
use Rattle.std.proofs.Common.{Contains, zero, suc, arith, filter}
use Rattle.std.proofs.Common.{not, refl, sym, ap, ◌∙◌, subst, ⊎_elim}
use Rattle.std.specs.List.{filter_map}
use Rattle.std.proofs.lemmas.Bool.{cases_Bool, eqb-true, ne_eqb}
use Rattle.plant_types.specs.declared.net.NetPlan.{NetPlan}
use Rattle.mstr_block.specs.Table.{network_paths}
use Rattle.controller_core.specs.declared.fixed.Fixed.{Fixed}
use Rattle.controller_core.specs.declared.entry.Entry.{Entry}
use Rattle.controller_core.specs.declared.entry.Entry.TheVariants as entries
use Rattle.controller_core.specs.declared.entry.Maker.TheVariants.{Scan}
use Rattle.controller_core.specs.Controller.{AreOf, ControllerIs, ControllerWentOn}
use Rattle.ring_core.specs.Words.{maker}
use Rattle.ring_core.specs.Machine.{addresses}
use Rattle.ring_core.specs.Legal.{IsLegalRing, IsMember}
use Rattle.ring_core.specs.declared.status.NodeStatus.TheVariants as statuses
use Rattle.ring_core.specs.declared.entry.RingEntry.{RingEntry}
use Rattle.tied_lists.specs.Own.{own, is_of, Grew}
use Rattle.tied_lists.specs.Waits.{waiting as waits_on, ArePatient, IsOnRing}
use Rattle.tied_lists.proofs.Turns.{membership-kept, on-others, own-found}
use Rattle.joint_history.specs.Reading.{is_ours}
use Rattle.comm_port.specs.declared.turn_end.TurnEnd.{TurnEnd}
use Rattle.comm_port.specs.declared.turn_end.TurnEnd.TheVariants as ends
use Rattle.comm_port.specs.Failing.{IsAway}
use Rattle.comm_port.specs.HostStands.{own_side}
use Rattle.comm_port.specs.Parts.{calls_waiting}
use Rattle.comm_port.specs.Turns.{IsNoBridge}
use Rattle.comm_port.specs.Waiting.{id_of}
use Rattle.comm_port.specs.WholeTurn.{failing_end, working_end, is_unnoticed, HoldsTurn, TurnsBy}
use Rattle.comm_port.specs.Worker.{IsMemberWorker, Standing, WorkerIs, new_worker}
use Rattle.comm_port.proofs.Onward.{none-bridges}
use Rattle.comm_port.proofs.Standings.{standing-new, standing-others, standing-scans}
use Rattle.port_tests.specs.PowerTests.{CanTurn}

-- ---- the other one, while one has its turn

none-of : (n m : ℕ) (es : List RingEntry) → m ≢ n → own m (own n es) ≡ []
none-of n m [] apart = refl
none-of n m (e ∷ es) apart = ⊎_elim
    (λ (is : (maker e == n) ≡ true).
    ap (λ (b : Bool). own m (cond b (e ∷ own n es) (own n es))) is
    ∙ (ap (λ (b : Bool). cond b (e ∷ own m (own n es)) (own m (own n es)))
    (ne_eqb (maker e) m (λ h. apart (sym h ∙ eqb-true (maker e) n is))) ∙ none-of n m es apart))
    (λ (is : (maker e == n) ≡ false).
    ap (λ (b : Bool). own m (cond b (e ∷ own n es) (own n es))) is ∙ none-of n m es apart)
    (cases_Bool (maker e == n))

calls-found : (n : ℕ) (ring more : List RingEntry) → own n more ≡ []
    → calls_waiting n (ring ++ more) ≡ calls_waiting n ring
calls-found n ring more none =
    ap (λ (l : List RingEntry). filter_map (λ (p : ℕ). id_of (waits_on p l)) network_paths)
    (own-found n ring more none)

pub ready-others : (m n : ℕ) (c : ControllerIs) (w : WorkerIs) (away : Bool) (net : NetPlan)
    (a added b : List RingEntry) → m ≢ n → IsLegalRing net b → Grew true (is_of n) a added b
    → CanTurn m c w away net a → CanTurn m c w away net b
ready-others m n c w away net a added b apart legal g t =
    let none : own m g.more ≡ [] = ap (own m) (g.all_alone refl ∙ sym g.ours_are)
    ∙ none-of n m g.more apart in
    let on = on-others net m a g.more t.on (subst (IsLegalRing net) g.after_is legal) none in
    subst (λ (r : List RingEntry). CanTurn m c w away net r) (sym g.after_is) (record {
      worker_node = t.worker_node;
      standing = standing-others w (record { fixed = c.fixed; place = tt }) c.history
          (own_side net) a
          g.more
          (subst (λ (k : ℕ). IsOnRing net (a ++ g.more) k) (sym t.worker_node) on)
          (ap (λ (k : ℕ). own k g.more) t.worker_node ∙ none)
          t.standing;
      on = on;
      no_bridge = t.no_bridge;
      is_away = λ is. let k = t.is_away is in record {
        away = membership-kept net m a g.more none
            (λ asks. let no' : statuses.Away ≡ statuses.Asking = sym k.away ∙ asks in absurd (cc))
            ∙ k.away;
        idle = calls-found m a g.more none ∙ k.idle;
      };
    })

-- ---- the one that has its turn

-- a worker stands behind its turn
pub ready-after : (n : ℕ) (c : ControllerIs) (w w' : WorkerIs) (away : Bool) (net net' : NetPlan)
    (a b : List RingEntry) → IsOnRing net a n → IsNoBridge net n → w.node ≡ n
    → w'.node ≡ w.node → net' ≡ net
    → Standing w' (record { fixed = c.fixed; place = tt {0} }) c.history (own_side net') b
    → (away ≡ true → IsAway net b n) → CanTurn n c w' away net' b
ready-after n c w w' away net net' a b on none is same net_is s gone = record {
  worker_node = same ∙ is;
  standing = s;
  on = record {
    members = subst (λ (p : NetPlan). All (λ m. m < addresses) p.members) (sym net_is) on.members;
    legal = s.legal;
    member = subst (λ (p : NetPlan). IsMember p n) (sym net_is) on.member;
    patient = subst (λ (k : ℕ). ArePatient net' k [] b) (same ∙ is) s.patient;
  };
  no_bridge = subst (λ (p : NetPlan). IsNoBridge p n) (sym net_is) none;
  is_away = λ told. subst (λ (p : NetPlan). IsAway p b n) (sym net_is) (gone told);
}

not-joined : (joined : Bool) → failing_end joined ≡ ends.Away → joined ≡ false
not-joined true is = absurd (let no' : ends.Asking ≡ ends.Away = is in cc)
not-joined false is = refl

not-left : (left : Bool) → working_end left ≡ ends.Away → ⊥
not-left true is = let no' : ends.Left ≡ ends.Away = is in cc
not-left false is = let no' : ends.Passed ≡ ends.Away = is in cc

away-by : (unnoticed : Bool) (fixed : Fixed) (net : NetPlan) (n : ℕ) (budget : Bool)
    (known known' : List Entry) (ring ring' : List RingEntry) (end : TurnEnd)
    → TurnsBy unnoticed true true fixed net n budget known known' ring ring' end
    → end ≡ ends.Away → IsAway net ring' n
away-by true fixed net n budget known known' ring ring' end by is =
    let down = by.2 in
    subst (λ (r : List RingEntry). IsAway net r n)
    (sym (down.comes.stays (not-joined by.0 (sym by.1 ∙ is)))) down.away
away-by false fixed net n budget known known' ring ring' end by is =
    absurd (not-left by.0 (sym by.1 ∙ is))

-- a hold that ended away left its node so
pub away-held : (fixed : Fixed) (net : NetPlan) (n : ℕ) (budget : Bool) (known known' : List Entry)
    (ring ring' : List RingEntry) (end : TurnEnd)
    → HoldsTurn true true fixed net n budget known known' ring ring' end → end ≡ ends.Away
    → IsAway net ring' n
away-held fixed net n budget known known' ring ring' end h is =
    away-by (is_unnoticed fixed n h.asked ring) fixed net n budget h.asked known' ring ring' end
    h.goes is

pub not-true : (b : Bool) → not b ≡ true → b ≡ false
not-true true is = absurd (let no' : false ≡ true = is in cc)
not-true false is = refl

-- ---- a step

no-calls : (added : List Entry) → AreOf Scan added → filter is_ours added ≡ []
no-calls [] of = refl
no-calls (entries.Begin ∷ added) of = no-calls added of.1
no-calls (entries.Input row ∷ added) of = no-calls added of.1
no-calls (entries.Solve row ∷ added) of = no-calls added of.1
no-calls (entries.Output row words ∷ added) of = no-calls added of.1
no-calls (entries.End ∷ added) of = no-calls added of.1
no-calls (entries.Fail ∷ added) of = no-calls added of.1
no-calls (entries.Dark ∷ added) of = no-calls added of.1
no-calls (entries.Collect calls ∷ added) of = absurd (let is = of.0 in cc)
no-calls (entries.Peer id request reply ∷ added) of = absurd (let is = of.0 in cc)
no-calls (entries.Off id request ∷ added) of = absurd (let is = of.0 in cc)
no-calls (entries.Finish id result ∷ added) of = absurd (let is = of.0 in cc)

pub ready-scans : (n : ℕ) (c c' : ControllerIs) (w : WorkerIs) (away : Bool) (net : NetPlan)
    (ring : List RingEntry) (added : List Entry) → ControllerWentOn Scan added c c'
    → CanTurn n c w away net ring → CanTurn n c' w away net ring
ready-scans n c c' w away net ring added went t = record {
  worker_node = t.worker_node;
  standing =
      subst (λ (f : Fixed). Standing w (record { fixed = f; place = tt }) c'.history (own_side net)
      ring) (sym went.fixed)
      (subst (λ (h : List Entry). Standing w (record { fixed = c.fixed; place = tt }) h
      (own_side net) ring) (sym went.history)
      (standing-scans w (record { fixed = c.fixed; place = tt }) c.history added (own_side net) ring
      (no-calls added went.made) t.standing));
  on = t.on;
  no_bridge = t.no_bridge;
  is_away = t.is_away;
}

-- ---- at the start, on a ring of nodes 2 and 5

low-five : All (λ m. m < addresses) (2 ∷ 5 ∷ [])
low-five zero d range = omega arith
low-five (suc zero) d range = omega arith
low-five (suc (suc k)) d range = absurd (omega (arith, range))

-- the addresses of the net's members are those of a ring
pub low-members : (net : NetPlan) → net.members ≡ 2 ∷ 5 ∷ [] → All (λ m. m < addresses) net.members
low-members net members = subst (All (λ m. m < addresses)) (sym members) low-five

-- both are members of the net
pub has-two : (net : NetPlan) → net.members ≡ 2 ∷ 5 ∷ [] → IsMember net 2
has-two net members = subst (λ (l : List ℕ). Contains l 2) (sym members) (0, omega arith, refl)

pub has-five : (net : NetPlan) → net.members ≡ 2 ∷ 5 ∷ [] → IsMember net 5
has-five net members = subst (λ (l : List ℕ). Contains l 5) (sym members) (1, omega arith, refl)

standing-first : (n : ℕ) (c : ControllerIs) (net : NetPlan) → IsMemberWorker net n
    → c.fixed.plan.node ≡ n → c.history ≡ []
    → Standing (new_worker n true) (record { fixed = c.fixed; place = tt {0} }) c.history
    (own_side net) []
standing-first n c net member node empty = standing-new n true
    (record { fixed = c.fixed; place = tt {0} }) c.history (own_side net) node member tt
    (ap (filter is_ours) empty)

-- a controller that has not begun stands where nothing has happened
pub ready-new : (n : ℕ) (c : ControllerIs) (w : WorkerIs) (away : Bool) (net : NetPlan)
    → net.members ≡ 2 ∷ 5 ∷ [] → net.bridges ≡ [] → IsMember net n → 0 < net.answer
    → c.fixed.plan.node ≡ n → c.history ≡ [] → w ≡ new_worker n true → away ≡ false
    → CanTurn n c w away net []
ready-new n c w away net members none member answer node empty is there = record {
  worker_node = ap (λ (x : WorkerIs). x.node) is;
  standing = subst (λ (x : WorkerIs). Standing x (record { fixed = c.fixed; place = tt {0} })
      c.history (own_side net) []) (sym is) (standing-first n c net (record {
        members = low-members net members;
        member = member;
        answer = answer;
      }) node empty);
  on = record {
    members = low-members net members;
    legal = tt;
    member = member;
    patient = tt;
  };
  no_bridge = none-bridges net n none;
  is_away = λ told. absurd (let no' : false ≡ true = sym there ∙ told in cc);
}
