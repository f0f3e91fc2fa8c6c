-- What holds of a joint history between turns, and what a turn of a controller makes of it.
use Rattle.std.proofs.Common.{◌≡◌, ◌≢◌, ◌⊎◌, ℕ, ◌≤◌, Bool, true, false, List, [], ◌∷◌, ◌++◌, Option}
use Rattle.std.proofs.Common.{Some, None, inl, inr, refl, sym, ap, subst, ◌∙◌, arith, append_assoc}
use Rattle.std.proofs.Common.{append-nil, map, set}
use Rattle.std.specs.List.{AllByRecursion as Each, Contains, slice_get}
use Rattle.std.proofs.lemmas.Bool.{cases_eq}
use Rattle.plant_types.specs.declared.net.BridgePlan.{BridgePlan}
use Rattle.plant_types.specs.declared.net.NetPlan.{NetPlan}
use Rattle.plant_types.specs.declared.plan.ControllerPlan.{ControllerPlan}
use Rattle.plant_types.specs.declared.plan.Plant.{Plant}
use Rattle.plant_types.specs.Plans.{IsPlant, net_of}
use Rattle.bridge_relay.specs.declared.entry.BridgeEntry.{BridgeEntry}
use Rattle.bridge_relay.specs.Legal.{IsBridgeHistory}
use Rattle.bridge_port.proofs.Across.{legal-front}
use Rattle.ring_core.specs.declared.entry.RingEntry.{RingEntry}
use Rattle.ring_core.specs.Legal.{IsLegalRing}
use Rattle.scan_order.specs.declared.due.ScanStep.{ScanStep}
use Rattle.scan_order.specs.declared.due.ScanStep.TheVariants as steps
use Rattle.controller_core.specs.declared.entry.Entry.{Entry}
use Rattle.controller_core.specs.declared.fixed.Fixed.{Fixed}
use Rattle.controller_core.specs.Controller.{IsLegal, due_step, made}
use Rattle.controller_core.specs.Event.{entry_of}
use Rattle.controller_core.specs.Replay.{ControllerState, replay}
use Rattle.controller_core.proofs.NextEntry.{front_legal}
use Rattle.tied_lists.specs.Own.{own}
use Rattle.tied_lists.proofs.Turns.{legal-parts}
use Rattle.joint_history.specs.declared.joint.BridgeLog.{BridgeLog}
use Rattle.joint_history.specs.declared.joint.ControllerLog.{ControllerLog}
use Rattle.joint_history.specs.declared.joint.Joint.{Joint}
use Rattle.comm_port.specs.declared.turn_end.TurnEnd.{TurnEnd}
use Rattle.comm_port.specs.WholeTurn.{HoldsTurn}
use Rattle.joint_history.specs.JointLaws.{fixed_of}
use Rattle.joint_history.specs.Reading.{controller_at}
use Rattle.joint_history.specs.Nets.{entries_on, noted_on}
use Rattle.joint_history.proofs.Collected.{CallLaws}
use Rattle.net_laws.proofs.On.{IsOn, controller-at-on, net-same}
use Rattle.serial_run.specs.Turns.{IsBridgeAt, IsControllerAt, MakesHoldTurnAt, StepsAt, VisitsAt}
use Rattle.serial_run.specs.Turns.{VisitsIfDue, VisitsWhere, is_end_of, stepped_list, visit_is_due}
use Rattle.serial_run.specs.Turns.{with_entries, with_list, with_noted_on}
use Rattle.one_run.proofs.Fails.{IsNoSend}
use Rattle.one_run.proofs.Meets.{Behind, IsMine, May, Meets, behind-more, closings, endings}
use Rattle.one_run.proofs.Meets.{endings-join, meets-front}
use Rattle.one_run.proofs.Parts.{Goes, Same}
use Rattle.one_run.proofs.Places.{get-set, set-get, set-other, some-same}
use Rattle.one_run.proofs.Turn.{NoneFails, none-behind, quiet-others, turn-goes, turn-none}
use Rattle.one_run.proofs.Turn.{turn-same, visit-goes, visit-none, visit-same}
use Rattle.one_run.proofs.Written.{HasRing, WentOnBy, written-goes, written-has, written-here}
use Rattle.one_run.proofs.Written.{written-other}

-- ---- what holds between turns, and what the last joint history says of each before it

module _ (plant : Plant) (scans : ℕ) where
  -- the node of a controller, and an end of a bridge
  pub record IsControllerNode (n : ℕ) : Type 0 where
    pub at : ℕ
    pub plan : ControllerPlan
    pub plan_is : slice_get plant.controllers at ≡ Some plan
    pub node : plan.node ≡ n

  pub record IsEndNode (n : ℕ) : Type 0 where
    pub at : ℕ
    pub plan : BridgePlan
    pub plan_is : slice_get plant.bridges at ≡ Some plan
    pub is_end : is_end_of n plan ≡ true

  -- a node whose calls are given up at once as they fail
  abbrev pub IsCaller : ℕ → Type 0
  IsCaller n = IsControllerNode n ⊎ IsEndNode n

  -- each network has its ring; of each such node no call has failed; and no more calls of a
  -- controller have ended than of its node
  pub record Kept (joint : Joint) : Type 0 where
    pub there : (net : NetPlan) → Contains plant.nets net → HasRing net.number joint.rings
    pub none : (net : NetPlan) → Contains plant.nets net → (n : ℕ) → IsCaller n
        → NoneFails net n (noted_on net.number joint)
    pub behind : (at : ℕ) (plan : ControllerPlan) (log : ControllerLog)
        → IsControllerAt plant joint at plan log
        → Behind plan.node log.entries (noted_on plan.network joint)

  pub record FineAt (joint : Joint) (plan : ControllerPlan) (log : ControllerLog) : Type 0 where
    pub legal : IsLegal (fixed_of plant scans plan) log.entries
    pub meets : Meets plan.node log.entries (noted_on plan.network joint)

  -- each list of a ring, of a controller and of a bridge is legal, and that of a controller tells
  -- what the list of its node does, as far as both go
  pub record Fine (joint : Joint) : Type 0 where
    pub rings : (net : NetPlan) → Contains plant.nets net
        → IsLegalRing net (noted_on net.number joint)
    pub lists : (at : ℕ) (plan : ControllerPlan) (log : ControllerLog)
        → IsControllerAt plant joint at plan log → FineAt joint plan log
    pub bridges : (at : ℕ) (plan : BridgePlan) (log : BridgeLog)
        → IsBridgeAt plant joint at plan log → IsBridgeHistory plan log.entries

  -- a joint history went on
  pub record WentOnAt (joint : Joint) (at : ℕ) (plan : ControllerPlan)
      (log : ControllerLog) : Type 0 where
    pub new_log : ControllerLog
    pub is : IsControllerAt plant joint at plan new_log
    pub noted : List Entry
    pub entries_are : new_log.entries ≡ log.entries ++ noted

  pub record BridgeWentAt (joint : Joint) (at : ℕ) (plan : BridgePlan)
      (log : BridgeLog) : Type 0 where
    pub new_log : BridgeLog
    pub is : IsBridgeAt plant joint at plan new_log
    pub noted : List BridgeEntry
    pub entries_are : new_log.entries ≡ log.entries ++ noted

  abbrev pub RingsGrow : Joint → Joint → Type 0
  RingsGrow old new =
      (k : ℕ) → (done : List RingEntry) × (noted_on k new ≡ noted_on k old ++ done)

  pub record Grows (old new : Joint) : Type 0 where
    pub rings : RingsGrow old new
    pub lists : (at : ℕ) (plan : ControllerPlan) (log : ControllerLog)
        → IsControllerAt plant old at plan log → WentOnAt new at plan log
    pub bridges : (at : ℕ) (plan : BridgePlan) (log : BridgeLog)
        → IsBridgeAt plant old at plan log → BridgeWentAt new at plan log

  -- where these lists stayed they went on
  pub same-lists : (old new : Joint) → new.controllers ≡ old.controllers → (at : ℕ)
      (plan : ControllerPlan) (log : ControllerLog)
      → IsControllerAt plant old at plan log → WentOnAt new at plan log
  same-lists old new stays at plan log is = record {
    new_log = log;
    is = record {
      plan_is = is.plan_is;
      log_is = ap (λ xs. slice_get xs at) stays ∙ is.log_is;
    };
    noted = [];
    entries_are = sym (append-nil log.entries);
  }

  pub same-bridges : (old new : Joint) → new.bridges ≡ old.bridges → (at : ℕ)
      (plan : BridgePlan) (log : BridgeLog)
      → IsBridgeAt plant old at plan log → BridgeWentAt new at plan log
  same-bridges old new stays at plan log is = record {
    new_log = log;
    is = record {
      plan_is = is.plan_is;
      log_is = ap (λ xs. slice_get xs at) stays ∙ is.log_is;
    };
    noted = [];
    entries_are = sym (append-nil log.entries);
  }

  -- nothing more
  pub grows-none : (joint : Joint) → Grows joint joint
  grows-none joint = record {
    rings = λ k. ([], sym (append-nil (noted_on k joint)));
    lists = same-lists joint joint refl;
    bridges = same-bridges joint joint refl;
  }

  -- one after another
  pub grows-then : (a b c : Joint) → Grows a b → Grows b c → Grows a c
  grows-then a b c one two = record {
    rings = λ k. (
      (one.rings k).0 ++ (two.rings k).0,
      (two.rings k).1 ∙ ap (λ l. l ++ (two.rings k).0) (one.rings k).1
          ∙ append_assoc (noted_on k a) (one.rings k).0 (two.rings k).0,
    );
    lists = λ at plan log is.
        let x = one.lists at plan log is in
        let y = two.lists at plan x.new_log x.is in
        record {
          new_log = y.new_log;
          is = y.is;
          noted = x.noted ++ y.noted;
          entries_are = y.entries_are ∙ ap (λ l. l ++ y.noted) x.entries_are
              ∙ append_assoc log.entries x.noted y.noted;
        };
    bridges = λ at plan log is.
        let x = one.bridges at plan log is in
        let y = two.bridges at plan x.new_log x.is in
        record {
          new_log = y.new_log;
          is = y.is;
          noted = x.noted ++ y.noted;
          entries_are = y.entries_are ∙ ap (λ l. l ++ y.noted) x.entries_are
              ∙ append_assoc log.entries x.noted y.noted;
        };
  }

  -- what holds of the last joint history holds of each before
  pub fine-front : (old new : Joint) → Grows old new → Fine new → Fine old
  fine-front old new g f = record {
    rings = λ net there.
        let went = g.rings net.number in
        (legal-parts net (noted_on net.number old) went.0
        (subst (IsLegalRing net) went.1 (f.rings net there))).0;
    lists = λ at plan log is.
        let w = g.lists at plan log is in
        let k = f.lists at plan w.new_log w.is in
        let went = g.rings plan.network in
        record {
          legal = front_legal (fixed_of plant scans plan) log.entries w.noted
              (subst (IsLegal (fixed_of plant scans plan)) w.entries_are k.legal);
          meets = meets-front plan.node log.entries w.noted (noted_on plan.network old) went.0
              (subst (λ l. Meets plan.node l (noted_on plan.network old ++ went.0)) w.entries_are
              (subst (Meets plan.node w.new_log.entries) went.1 k.meets));
        };
    bridges = λ at plan log is.
        let w = g.bridges at plan log is in
        legal-front plan log.entries w.noted
        (subst (IsBridgeHistory plan) w.entries_are (f.bridges at plan w.new_log w.is));
  }

  -- ---- the node of a station on the ring of its network

  -- its list is legal
  pub ring-fine : (joint : Joint) (network n : ℕ) → Fine joint → IsOn plant network n
      → IsLegalRing (net_of plant n) (noted_on network joint)
  ring-fine joint network n fine on =
      subst (λ m. IsLegalRing m (noted_on network joint)) (sym on.is)
      (subst (λ k. IsLegalRing on.net (noted_on k joint)) on.number (fine.rings on.net on.there))

  -- none of its calls has failed
  none-kept : (joint : Joint) (network n : ℕ) → Kept joint → IsOn plant network n → IsCaller n
      → NoneFails (net_of plant n) n (noted_on network joint)
  none-kept joint network n kept on caller =
      subst (λ m. NoneFails m n (noted_on network joint)) (sym on.is)
      (subst (λ k. NoneFails on.net n (noted_on k joint)) on.number
      (kept.none on.net on.there n caller))

  -- no other network has the number of its own
  none-own : (sound : IsPlant plant) (network n : ℕ) (list : List RingEntry)
      → IsOn plant network n → NoneFails (net_of plant n) n list → (net : NetPlan)
      → Contains plant.nets net → net.number ≡ network → NoneFails net n list
  none-own sound network n list on none net there is =
      subst (λ m. NoneFails m n list)
      (on.is ∙ sym (net-same plant net on.net sound there on.there (is ∙ sym on.number))) none

  -- ---- a node wrote the ring of a network

  pub record Writes (old new : Joint) (network n : ℕ) (list : List RingEntry) : Type 0 where
    pub rings_are : new.rings ≡ map (with_entries network list) old.rings
    pub done : List RingEntry
    pub list_is : list ≡ noted_on network old ++ done
    pub mine : Each (IsMine n) done

  module _ (old new : Joint) (network n : ℕ) (list : List RingEntry)
      (w : Writes old new network n list) where
    went : (k : ℕ) → WentOnBy w.done (noted_on k old) (noted_on k new)
    went k = subst (λ rings. WentOnBy w.done (noted_on k old) (entries_on k rings))
        (sym w.rings_are) (written-goes network list w.done old.rings w.list_is k)

    -- each ring went on
    pub rings-grow : RingsGrow old new
    rings-grow k = ((went k).more, (went k).is)

    -- the list is the network's
    pub now-is : Kept old → (net : NetPlan) → Contains plant.nets net → net.number ≡ network
        → noted_on network new ≡ list
    now-is kept net there is = ap (entries_on network) w.rings_are
        ∙ written-here network list old.rings
        (subst (λ k. HasRing k old.rings) is (kept.there net there))

    -- another node sent nothing by it
    quiet-more : (m : ℕ) → m ≢ n → (k : ℕ) → Each (IsNoSend m) (went k).more
    quiet-more m other k = elim (went k).either [
      | inl is ↦ subst (Each (IsNoSend m)) (sym is) (quiet-others m n other w.done w.mine)
      | inr is ↦ subst (Each (IsNoSend m)) (sym is) tt
    ]

    -- each network keeps its ring
    there-kept : Kept old → (net : NetPlan) → Contains plant.nets net
        → HasRing net.number new.rings
    there-kept kept net there = subst (HasRing net.number) (sym w.rings_are)
        (written-has network list net.number old.rings (kept.there net there))

    -- no call of another node fails by it
    none-others : Kept old → ((net : NetPlan) → Contains plant.nets net → net.number ≡ network
        → IsCaller n → NoneFails net n list) → (net : NetPlan) → Contains plant.nets net
        → (m : ℕ) → IsCaller m → NoneFails net m (noted_on net.number new)
    none-others kept ours net there m caller = elim (cases_eq m n) [
      | inr other ↦ none-behind net m (noted_on net.number old) (went net.number).more
          (noted_on net.number new) (went net.number).is (quiet-more m other net.number)
          (kept.none net there m caller)
      | inl same ↦ elim (cases_eq net.number network) [
        | inl is ↦ subst (λ k. NoneFails net k (noted_on net.number new)) (sym same)
            (subst (λ k. NoneFails net n (noted_on k new)) (sym is)
            (subst (NoneFails net n) (sym (now-is kept net there is))
            (ours net there is (subst IsCaller same caller))))
        | inr apart ↦ subst (NoneFails net m)
            (sym (ap (entries_on net.number) w.rings_are
            ∙ written-other network list net.number old.rings apart))
            (kept.none net there m caller)
      ]
    ]

    -- no more calls have ended behind it than of a node
    still-behind : (m : ℕ) (es : List Entry) (k : ℕ) → Behind m es (noted_on k old)
        → Behind m es (noted_on k new)
    still-behind m es k before =
        subst (λ x. Behind m x (noted_on k new)) (append-nil es)
        (subst (Behind m (es ++ [])) (sym (went k).is)
        (behind-more m es [] (noted_on k old) (went k).more before
        (let z : endings [] ≤ closings (own m (went k).more) = omega arith in z)))

    -- where no list of a controller was written, it keeps what holds between turns
    pub write-kept : Kept old → new.controllers ≡ old.controllers
        → ((net : NetPlan) → Contains plant.nets net → net.number ≡ network
        → IsCaller n → NoneFails net n list) → Kept new
    write-kept kept stays ours = record {
      there = there-kept kept;
      none = none-others kept ours;
      behind = λ at plan log is.
          still-behind plan.node log.entries plan.network (kept.behind at plan log (record {
            plan_is = is.plan_is;
            log_is = ap (λ xs. slice_get xs at) (sym stays) ∙ is.log_is;
          }));
    }

  -- ---- one list of a controller went on

  pub plan-same : (joint : Joint) (at : ℕ) (p p' : ControllerPlan) (l l' : ControllerLog)
      → IsControllerAt plant joint at p l → IsControllerAt plant joint at p' l' → p ≡ p'
  plan-same joint at p p' l l' a b = some-same (sym a.plan_is ∙ b.plan_is)

  pub log-same : (joint : Joint) (at : ℕ) (p p' : ControllerPlan) (l l' : ControllerLog)
      → IsControllerAt plant joint at p l → IsControllerAt plant joint at p' l' → l ≡ l'
  log-same joint at p p' l l' a b = some-same (sym a.log_is ∙ b.log_is)

  abbrev made_by : ℕ → ControllerPlan → ControllerLog → List Entry → List RingEntry → Joint
      → Joint
  made_by at plan log entries ring old =
      with_noted_on plan.network ring (with_list at log entries old)

  module _ (old grown : Joint) (at : ℕ) (plan : ControllerPlan) (log : ControllerLog)
      (is : IsControllerAt plant old at plan log) (entries : List Entry)
      (logs : grown.controllers
      ≡ set old.controllers at (record { node = log.node; entries = entries })) where
    abbrev new_log : ControllerLog
    new_log = record { node = log.node; entries = entries }

    -- the controller is at its place
    there : IsControllerAt plant grown at plan new_log
    there = record {
      plan_is = is.plan_is;
      log_is = ap (λ l. slice_get l at) logs ∙ set-get old.controllers at new_log log is.log_is;
    }

    -- the joint history went on
    list-grows : RingsGrow old grown → grown.bridges ≡ old.bridges → (noted : List Entry)
        → entries ≡ log.entries ++ noted → Grows old grown
    list-grows rings stays noted known_is = record {
      rings = rings;
      lists = λ k p l is'. elim (cases_eq k at) [
        | inl here ↦
            let is-at = subst (λ j. IsControllerAt plant old j p l) here is' in
            let plans = plan-same old at plan p log l is is-at in
            record {
              new_log = new_log;
              is = subst (λ j. IsControllerAt plant grown j p new_log) (sym here)
                  (subst (λ q. IsControllerAt plant grown at q new_log) plans there);
              noted = noted;
              entries_are = known_is ∙ ap (λ (x : ControllerLog). x.entries ++ noted)
                  (log-same old at plan p log l is is-at);
            }
        | inr other ↦ record {
          new_log = l;
          is = record {
            plan_is = is'.plan_is;
            log_is = ap (λ xs. slice_get xs k) logs
                ∙ set-other old.controllers at k new_log other ∙ is'.log_is;
          };
          noted = [];
          entries_are = sym (append-nil l.entries);
        }
      ];
      bridges = same-bridges old grown stays;
    }

    -- and no more calls of a controller have ended than of its node
    list-behind : Kept old → Behind plan.node entries (noted_on plan.network grown)
        → ((m : ℕ) (es : List Entry) (k : ℕ) → Behind m es (noted_on k old)
        → Behind m es (noted_on k grown)) → (k : ℕ) (p : ControllerPlan) (l : ControllerLog)
        → IsControllerAt plant grown k p l → Behind p.node l.entries (noted_on p.network grown)
    list-behind kept behind stays k p l is' =
        elim (get-set old.controllers at k new_log l
        (ap (λ xs. slice_get xs k) (sym logs) ∙ is'.log_is)) [
          | inl here ↦
              let plans : plan ≡ p = some-same (sym is.plan_is
              ∙ ap (λ j. slice_get plant.controllers j) (sym here.0) ∙ is'.plan_is) in
              subst (λ (q : ControllerPlan). Behind q.node l.entries (noted_on q.network grown))
              plans
              (subst (λ (x : ControllerLog). Behind plan.node x.entries
              (noted_on plan.network grown)) (sym here.1) behind)
          | inr was ↦ stays p.node l.entries p.network
              (kept.behind k p l (record { plan_is = is'.plan_is; log_is = was }))
        ]

  -- ---- a step

  step-silent : (fixed : Fixed) (s : ControllerState) (step : ScanStep)
      → endings (entry_of fixed s step ∷ []) ≡ 0
  step-silent fixed s steps.Begin = omega arith
  step-silent fixed s (steps.In row) = omega arith
  step-silent fixed s (steps.Solve row) = omega arith
  step-silent fixed s (steps.Out row) = omega arith
  step-silent fixed s steps.End = omega arith
  step-silent fixed s steps.Fail = omega arith
  step-silent fixed s steps.Dark = omega arith

  record Stepped (entries new : List Entry) : Type 0 where
    noted : List Entry
    is : new ≡ entries ++ noted
    silent : endings noted ≡ 0

  -- a step adds an event of the scan, or nothing
  stepped-so : (fixed : Fixed) (entries : List Entry) → Stepped entries (stepped_list fixed entries)
  stepped-so fixed entries = at (due_step (controller_at fixed entries))
    where
      at : (due : Option ScanStep)
          → Stepped entries (made (controller_at fixed entries) due).history
      at None = record { noted = []; is = sym (append-nil entries); silent = refl }
      at (Some step) = record {
        noted = entry_of fixed (replay fixed entries) step ∷ [];
        is = refl;
        silent = step-silent fixed (replay fixed entries) step;
      }

  -- events of the scan alone end no call
  pub events-behind : (n : ℕ) (entries noted new : List Entry) (ring : List RingEntry)
      → new ≡ entries ++ noted → endings noted ≡ 0 → Behind n entries ring
      → Behind n new ring
  events-behind n entries noted new ring is silent behind =
      subst (λ l. Behind n l ring) (sym is)
      (let join = endings-join entries noted in omega (arith, join, silent, behind))

  -- ---- what a turn makes

  record HeldAs (at : ℕ) (plan : ControllerPlan) (log : ControllerLog)
      (old new : Joint) : Type 0 where
    entries : List Entry
    ring : List RingEntry
    end : TurnEnd
    turn : HoldsTurn true true
        (fixed_of plant scans plan) (net_of plant plan.node) plan.node true log.entries entries
        (noted_on plan.network old) ring end
    is : new ≡ made_by at plan log entries ring old

  -- one joint history, which keeps what holds between turns
  pub record OneJoint (new new' : Joint) : Type 0 where
    pub is : new ≡ new'
    pub kept : Kept new

  module _ (sound : IsPlant plant) (laws : CallLaws) where
    -- the network of a controller, whose node is a caller
    on-of : (joint : Joint) (at : ℕ) (plan : ControllerPlan) (log : ControllerLog)
        → IsControllerAt plant joint at plan log → IsOn plant plan.network plan.node
    on-of joint at plan log is = controller-at-on plant at plan sound is.plan_is

    caller-of : (joint : Joint) (at : ℕ) (plan : ControllerPlan) (log : ControllerLog)
        → IsControllerAt plant joint at plan log → IsCaller plan.node
    caller-of joint at plan log is =
        inl (record { at = at; plan = plan; plan_is = is.plan_is; node = refl })

    -- a controller's list and its ring went on
    write-of : (old : Joint) (at : ℕ) (plan : ControllerPlan) (log : ControllerLog)
        (entries : List Entry) (ring : List RingEntry)
        → Goes plan.node log.entries entries (noted_on plan.network old) ring
        → Writes old (made_by at plan log entries ring old) plan.network plan.node ring
    write-of old at plan log entries ring g =
        record { rings_are = refl; done = g.done; list_is = g.ring_is; mine = g.mine }

    both-grow : (old : Joint) (at : ℕ) (plan : ControllerPlan) (log : ControllerLog)
        (entries : List Entry) (ring : List RingEntry) → IsControllerAt plant old at plan log
        → Goes plan.node log.entries entries (noted_on plan.network old) ring
        → Grows old (made_by at plan log entries ring old)
    both-grow old at plan log entries ring is g =
        list-grows old (made_by at plan log entries ring old) at plan log is entries refl
        (rings-grow old (made_by at plan log entries ring old) plan.network plan.node ring
        (write-of old at plan log entries ring g)) refl g.noted g.known_is

    -- the ring of its network is that list
    ring-now : (old : Joint) (at : ℕ) (plan : ControllerPlan) (log : ControllerLog)
        (entries : List Entry) (ring : List RingEntry) → Kept old
        → IsControllerAt plant old at plan log
        → Goes plan.node log.entries entries (noted_on plan.network old) ring
        → noted_on plan.network (made_by at plan log entries ring old) ≡ ring
    ring-now old at plan log entries ring kept is g =
        let on = on-of old at plan log is in
        now-is old (made_by at plan log entries ring old) plan.network plan.node ring
        (write-of old at plan log entries ring g) kept on.net on.there on.number

    -- and they keep what holds between turns
    both-kept : (old : Joint) (at : ℕ) (plan : ControllerPlan) (log : ControllerLog)
        (entries : List Entry) (ring : List RingEntry) → Kept old
        → IsControllerAt plant old at plan log
        → Goes plan.node log.entries entries (noted_on plan.network old) ring
        → NoneFails (net_of plant plan.node) plan.node ring → Behind plan.node entries ring
        → Kept (made_by at plan log entries ring old)
    both-kept old at plan log entries ring kept is g none behind =
        let new = made_by at plan log entries ring old in
        let w = write-of old at plan log entries ring g in
        let on = on-of old at plan log is in
        record {
          there = there-kept old new plan.network plan.node ring w kept;
          none = none-others old new plan.network plan.node ring w kept
              (λ net there' same caller.
              none-own sound plan.network plan.node ring on none net there' same);
          behind = list-behind old new at plan log is entries refl kept
              (subst (Behind plan.node entries)
              (sym (ring-now old at plan log entries ring kept is g)) behind)
              (still-behind old new plan.network plan.node ring w);
        }

    -- what the last joint history says of the lists that a turn leaves
    may-made : (old new : Joint) (at : ℕ) (plan : ControllerPlan) (log : ControllerLog)
        (is : IsControllerAt plant old at plan log) (entries : List Entry)
        (ring : List RingEntry) → Kept old
        → Goes plan.node log.entries entries (noted_on plan.network old) ring
        → new ≡ made_by at plan log entries ring old → Fine new
        → May (fixed_of plant scans plan) (net_of plant plan.node) plan.node entries ring
    may-made old new at plan log is entries ring kept g made' fine =
        let grown = made_by at plan log entries ring old in
        let now = ring-now old at plan log entries ring kept is g in
        let told = subst Fine made' fine in
        let k = told.lists at plan (record { node = log.node; entries = entries })
        (there old grown at plan log is entries refl) in
        record {
          legal = k.legal;
          ring_legal = subst (IsLegalRing (net_of plant plan.node)) now
              (ring-fine grown plan.network plan.node told (on-of old at plan log is));
          meets = subst (Meets plan.node entries) now k.meets;
        }

    -- a step makes one thing
    pub step-one : (at : ℕ) (old new new' : Joint) → Kept old → StepsAt plant scans at old new
        → StepsAt plant scans at old new' → OneJoint new new'
    step-one at old new new' kept s s' =
        let plans = plan-same old at s.plan s'.plan s.log s'.log s.is s'.is in
        let logs = log-same old at s.plan s'.plan s.log s'.log s.is s'.is in
        let entries = stepped_list (fixed_of plant scans s.plan) s.log.entries in
        let f = stepped-so (fixed_of plant scans s.plan) s.log.entries in
        record {
          is = s.made ∙ (λ i. with_list at (logs i)
              (stepped_list (fixed_of plant scans (plans i)) (logs i).entries) old) ∙ sym s'.made;
          kept = subst Kept (sym s.made) (record {
            there = kept.there;
            none = kept.none;
            behind = list-behind old (with_list at s.log entries old) at s.plan s.log s.is entries
                refl kept
                (events-behind s.plan.node s.log.entries f.noted entries
                (noted_on s.plan.network old) f.is f.silent
                (kept.behind at s.plan s.log s.is)) (λ m es k before. before);
          });
        }

    pub step-grows : (at : ℕ) (old new : Joint) → StepsAt plant scans at old new → Grows old new
    step-grows at old new s =
        let entries = stepped_list (fixed_of plant scans s.plan) s.log.entries in
        let f = stepped-so (fixed_of plant scans s.plan) s.log.entries in
        subst (Grows old) (sym s.made) (list-grows old (with_list at s.log entries old) at s.plan
        s.log s.is entries refl (λ k. ([], sym (append-nil (noted_on k old)))) refl f.noted f.is)

    -- a controller's hold
    held-as : (at : ℕ) (old new : Joint) (h : MakesHoldTurnAt plant scans at old new)
        → HeldAs at h.plan h.log old new
    held-as at old new h =
        record { entries = h.entries; ring = h.ring; end = h.end; turn = h.turn; is = h.made }

    held-goes : (at : ℕ) (old new : Joint) (h : MakesHoldTurnAt plant scans at old new)
        → Goes h.plan.node h.log.entries h.entries (noted_on h.plan.network old) h.ring
    held-goes at old new h =
        turn-goes laws (fixed_of plant scans h.plan) (net_of plant h.plan.node) h.plan.node refl
        true h.end h.log.entries h.entries (noted_on h.plan.network old) h.ring h.turn

    pub held-grows : (at : ℕ) (old new : Joint) → MakesHoldTurnAt plant scans at old new
        → Grows old new
    held-grows at old new h =
        subst (Grows old) (sym h.made)
        (both-grow old at h.plan h.log h.entries h.ring h.is (held-goes at old new h))

    -- a hold of a controller makes one thing
    pub held-one : (at : ℕ) (old new new' : Joint) → Kept old → Fine new → Fine new'
        → MakesHoldTurnAt plant scans at old new → MakesHoldTurnAt plant scans at old new'
        → OneJoint new new'
    held-one at old new new' kept fine fine' h h' = record {
      is = h.made ∙ (λ i. made_by at h.plan h.log (same.0.known_is i) (same.0.ring_is i) old)
          ∙ sym other.is;
      kept = subst Kept (sym h.made)
          (both-kept old at h.plan h.log h.entries h.ring kept h.is (held-goes at old new h)
          (turn-none laws (fixed_of plant scans h.plan) (net_of plant h.plan.node) h.plan.node refl
          true h.end h.log.entries h.entries (noted_on h.plan.network old) h.ring h.turn none)
          same.0.behind);
    }
      where
        other : HeldAs at h.plan h.log old new'
        other = subst (λ p. HeldAs at p h.log old new')
            (sym (plan-same old at h.plan h'.plan h.log h'.log h.is h'.is))
            (subst (λ l. HeldAs at h'.plan l old new')
            (sym (log-same old at h.plan h'.plan h.log h'.log h.is h'.is)) (held-as at old new' h'))

        other-goes : Goes h.plan.node h.log.entries other.entries (noted_on h.plan.network old)
            other.ring
        other-goes = turn-goes laws (fixed_of plant scans h.plan)
            (net_of plant h.plan.node) h.plan.node refl true other.end h.log.entries other.entries
            (noted_on h.plan.network old) other.ring other.turn

        none : NoneFails (net_of plant h.plan.node) h.plan.node (noted_on h.plan.network old)
        none = none-kept old h.plan.network h.plan.node kept (on-of old at h.plan h.log h.is)
            (caller-of old at h.plan h.log h.is)

        same : Same h.plan.node h.entries other.entries h.ring other.ring × (h.end ≡ other.end)
        same = turn-same laws (fixed_of plant scans h.plan) (net_of plant h.plan.node) h.plan.node
            refl true h.end other.end h.log.entries h.entries other.entries
            (noted_on h.plan.network old) h.ring other.ring (kept.behind at h.plan h.log h.is) none
            h.turn
            (may-made old new at h.plan h.log h.is h.entries h.ring kept
            (held-goes at old new h) h.made fine)
            other.turn (may-made old new' at h.plan h.log h.is other.entries other.ring kept
            other-goes other.is fine')

    -- a visit
    visited-goes : (at : ℕ) (plan : ControllerPlan) (log : ControllerLog) (old new : Joint)
        (v : VisitsAt plant scans at plan log old new)
        → Goes plan.node log.entries v.entries (noted_on plan.network old) v.ring
    visited-goes at plan log old new v =
        visit-goes laws (fixed_of plant scans plan) (net_of plant plan.node) plan.node refl true
        log.entries v.entries (noted_on plan.network old) v.ring v.visit

    pub where-grows : (b : Bool) (at : ℕ) (plan : ControllerPlan) (log : ControllerLog)
        (old new : Joint) → IsControllerAt plant old at plan log
        → VisitsWhere b plant scans at plan log old new → Grows old new
    where-grows true at plan log old new is v =
        subst (Grows old) (sym v.made)
        (both-grow old at plan log v.entries v.ring is (visited-goes at plan log old new v))
    where-grows false at plan log old new is v = subst (Grows old) (sym v) (grows-none old)

    where-one : (b : Bool) (at : ℕ) (plan : ControllerPlan) (log : ControllerLog)
        (old new new' : Joint) → IsControllerAt plant old at plan log → Kept old
        → Fine new → Fine new' → VisitsWhere b plant scans at plan log old new
        → VisitsWhere b plant scans at plan log old new' → OneJoint new new'
    where-one false at plan log old new new' is kept fine fine' v v' =
        record { is = v ∙ sym v'; kept = subst Kept (sym v) kept }
    where-one true at plan log old new new' is kept fine fine' v v' = record {
      is = v.made ∙ (λ i. made_by at plan log (same.known_is i) (same.ring_is i) old)
          ∙ sym v'.made;
      kept = subst Kept (sym v.made)
          (both-kept old at plan log v.entries v.ring kept is (visited-goes at plan log old new v)
          (visit-none laws (fixed_of plant scans plan) (net_of plant plan.node) plan.node refl true
          log.entries v.entries (noted_on plan.network old) v.ring v.visit
          (none-kept old plan.network plan.node kept (on-of old at plan log is)
          (caller-of old at plan log is))) same.behind);
    }
      where
        same : Same plan.node v.entries v'.entries v.ring v'.ring
        same = visit-same laws (fixed_of plant scans plan) (net_of plant plan.node) plan.node refl
            true log.entries v.entries v'.entries (noted_on plan.network old) v.ring v'.ring
            (kept.behind at plan log is)
            v.visit (may-made old new at plan log is v.entries v.ring kept
            (visited-goes at plan log old new v) v.made fine)
            v'.visit (may-made old new' at plan log is v'.entries v'.ring kept
            (visited-goes at plan log old new' v') v'.made fine')

    -- a visit makes one thing
    pub visit-one : (at : ℕ) (old new new' : Joint) → Kept old → Fine new → Fine new'
        → VisitsIfDue plant scans at old new → VisitsIfDue plant scans at old new'
        → OneJoint new new'
    visit-one at old new new' kept fine fine' v v' =
        where-one (visit_is_due plant scans v.plan v.log.entries (noted_on v.plan.network old)) at
        v.plan v.log old new new' v.is kept fine fine' v.visits
        (subst (λ p. VisitsWhere (visit_is_due plant scans p v.log.entries
        (noted_on p.network old)) plant scans at p v.log old new')
        (sym (plan-same old at v.plan v'.plan v.log v'.log v.is v'.is))
        (subst (λ (l : ControllerLog). VisitsWhere (visit_is_due plant scans v'.plan l.entries
        (noted_on v'.plan.network old)) plant scans at v'.plan l old new')
        (sym (log-same old at v.plan v'.plan v.log v'.log v.is v'.is)) v'.visits))
