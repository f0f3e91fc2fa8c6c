-- Turns one after another make one joint history.
use Rattle.std.proofs.Common.{◌≡◌, ◌≢◌, ℕ, ◌≤◌, ◌==◌, Bool, true, false, not, List, [], ◌∷◌, ◌++◌}
use Rattle.std.proofs.Common.{Option, Some, None, inl, inr, refl, sym, ap, subst, ◌∙◌, arith}
use Rattle.std.proofs.Common.{append-nil}
use Rattle.std.specs.List.{AllByRecursion as Each, Contains, slice_get}
use Rattle.std.proofs.lemmas.Bool.{cases_eq, eq-eqb, eqb-true}
use Rattle.std.specs.Prelude.{◌||◌}
use Rattle.plant_types.specs.declared.net.BridgePlan.{BridgePlan}
use Rattle.plant_types.specs.declared.net.HostPlan.{HostPlan}
use Rattle.plant_types.specs.declared.net.NetPlan.{NetPlan}
use Rattle.plant_types.specs.declared.plan.ControllerPlan.{ControllerPlan}
use Rattle.plant_types.specs.declared.plan.Plant.{Plant}
use Rattle.plant_types.specs.Plans.{IsPlant, net_of}
use Rattle.bridge_relay.specs.declared.entry.BridgeEntry.{BridgeEntry}
use Rattle.bridge_port.specs.EndParts.{HoldsEndTurn}
use Rattle.ring_core.specs.declared.entry.RingEntry.{RingEntry}
use Rattle.ring_core.specs.Legal.{IsLegalRing}
use Rattle.ring_core.specs.declared.status.NodeStatus.{NodeStatus}
use Rattle.ring_core.specs.declared.status.NodeStatus.TheVariants as statuses
use Rattle.tied_lists.specs.Items.{AController}
use Rattle.tied_lists.specs.Own.{own}
use Rattle.tied_lists.specs.Tied.{Tied}
use Rattle.tied_lists.specs.Waits.{status_at}
use Rattle.host_port.specs.declared.entry.HostEntry.{HostEntry}
use Rattle.joint_history.specs.declared.joint.BridgeLog.{BridgeLog}
use Rattle.joint_history.specs.declared.joint.ControllerLog.{ControllerLog}
use Rattle.joint_history.specs.declared.joint.HostLog.{HostLog}
use Rattle.joint_history.specs.declared.joint.Joint.{Joint}
use Rattle.comm_port.specs.Failing.{join_entries}
use Rattle.comm_port.specs.HostTurns.{HoldsHostTurn}
use Rattle.joint_history.specs.JointLaws.{IsJoint, IsLegalBridgeLog, IsLegalJoint, IsLegalLog}
use Rattle.joint_history.specs.JointLaws.{IsTiedController, fixed_of}
use Rattle.joint_history.specs.Reading.{is_off_at, items_of}
use Rattle.joint_history.specs.Nets.{noted_on, noted_on_rings}
use Rattle.joint_history.proofs.Collected.{CallLaws}
use Rattle.net_laws.proofs.Apart.{controller-no-host, host-no-end}
use Rattle.net_laws.proofs.On.{IsOn, controller-at-on, host-at-on, net-same}
use Rattle.net_laws.proofs.Rings.{own-on, ring-there}
use Rattle.serial_run.specs.declared.order.Turn.{Turn}
use Rattle.serial_run.specs.declared.order.Turn.TheVariants.{Step, Hold, Visit, Away}
use Rattle.serial_run.specs.Turns.{ComesBackAt, EndHoldsAt, HostHoldsAt, IsBridgeAt, MakesAwayTurn}
use Rattle.serial_run.specs.Turns.{MakesHold, MakesHoldOn, MakesStep, MakesTurn, MakesTurns}
use Rattle.serial_run.specs.Turns.{MakesVisit, coming_back, empty_log, holder_on, is_end_of}
use Rattle.serial_run.specs.Turns.{net_numbered, nothing_made, place_of_bridge, place_of_controller}
use Rattle.serial_run.specs.Turns.{place_of_host, with_bridge_list, with_host_list, with_noted_on}
use Rattle.serial_run.proofs.Lists.{found-place, zip-at-first}
use Rattle.serial_run.proofs.Networks.{contains-at, place-of}
use Rattle.one_run.proofs.EndTurn.{BothLegal, end-turn-adds, end-turn-none, end-turn-once}
use Rattle.one_run.proofs.Fails.{IsNoSend, none-at-first}
use Rattle.one_run.proofs.HostTurn.{host-goes, host-same}
use Rattle.one_run.proofs.Meets.{Behind, IsMine, closings, endings, meets-tied}
use Rattle.one_run.proofs.Parts.{Goes}
use Rattle.one_run.proofs.Places.{all-at, map-at, position-passes, set-get, set-other, some-same}
use Rattle.one_run.proofs.Turn.{NoneFails, none-behind, quiet-join}
use Rattle.one_run.proofs.Written.{none-at, ring-at-first}
use Rattle.one_run.proofs.Between.{Fine, Grows, IsCaller, Kept, OneJoint, Writes, fine-front}
use Rattle.one_run.proofs.Between.{grows-none, grows-then, held-grows, held-one, log-same, now-is}
use Rattle.one_run.proofs.Between.{plan-same, ring-fine, rings-grow, same-bridges, same-lists}
use Rattle.one_run.proofs.Between.{step-grows, step-one, visit-one, where-grows, write-kept}

-- ---- what a turn makes, where it is no controller's

module _ (plant : Plant) (scans : ℕ) where
  record HostHeldAs (at : ℕ) (plan : HostPlan) (log : HostLog) (old new : Joint) : Type 0 where
    entries : List HostEntry
    ring : List RingEntry
    left : Bool
    turn : HoldsHostTurn true (net_of plant plan.node) plan.node plan true log.entries entries
        (noted_on plan.network old) ring left
    is : new ≡ with_noted_on plan.network ring (with_host_list at log entries old)

  record EndHeldAs (net : NetPlan) (side at : ℕ) (plan : BridgePlan) (log : BridgeLog)
      (old new : Joint) : Type 0 where
    entries : List BridgeEntry
    ring : List RingEntry
    left : Bool
    turn : HoldsEndTurn true true plan net side true log.entries entries
        (noted_on net.number old) ring left
    is : new ≡ with_noted_on net.number ring (with_bridge_list at log entries old)

  module _ (sound : IsPlant plant) (laws : CallLaws) where
    -- a host's hold
    host-held-as : (at : ℕ) (old new : Joint) (h : HostHoldsAt plant at old new)
        → HostHeldAs at h.plan h.log old new
    host-held-as at old new h =
        record { entries = h.entries; ring = h.ring; left = h.left; turn = h.turn; is = h.made }

    host-write : (at : ℕ) (old : Joint) (plan : HostPlan) (log : HostLog)
        (entries : List HostEntry) (ring : List RingEntry) (left : Bool)
        → HoldsHostTurn true (net_of plant plan.node) plan.node plan true log.entries entries
        (noted_on plan.network old) ring left
        → Writes plant scans old
        (with_noted_on plan.network ring (with_host_list at log entries old))
        plan.network plan.node ring
    host-write at old plan log entries ring left turn =
        let g = host-goes (net_of plant plan.node) plan.node plan true left log.entries entries
        (noted_on plan.network old) ring turn in
        record { rings_are = refl; done = g.done; list_is = g.ring_is; mine = g.mine }

    host-held-grows : (at : ℕ) (old new : Joint) → HostHoldsAt plant at old new
        → Grows plant scans old new
    host-held-grows at old new h =
        let made' = with_noted_on h.plan.network h.ring (with_host_list at h.log h.entries old) in
        subst (Grows plant scans old) (sym h.made) (record {
          rings = rings-grow plant scans old made' h.plan.network h.plan.node h.ring
              (host-write at old h.plan h.log h.entries h.ring h.left h.turn);
          lists = same-lists plant scans old made' refl;
          bridges = same-bridges plant scans old made' refl;
        })

    -- no host is a caller
    host-apart : (at : ℕ) (plan : HostPlan) → slice_get plant.hosts at ≡ Some plan
        → IsCaller plant scans plan.node → ⊥
    host-apart at plan is (inl c) =
        controller-no-host plant sound c.at at c.plan plan c.plan_is is c.node
    host-apart at plan is (inr e) =
        let apart = host-no-end plant sound at e.at plan e.plan is e.plan_is in
        by (e.plan.left == plan.node) refl e.is_end apart
      where
        by : (b : Bool) → (e.plan.left == plan.node) ≡ b
            → (b || (e.plan.right == plan.node)) ≡ true
            → (plan.node ≢ e.plan.left) × (plan.node ≢ e.plan.right) → ⊥
        by true left is-end apart = apart.0 (sym (eqb-true e.plan.left plan.node left))
        by false left is-end apart = apart.1 (sym (eqb-true e.plan.right plan.node is-end))

    -- a hold of a host makes one thing
    host-held-one : (at : ℕ) (old new new' : Joint) → Kept plant scans old → Fine plant scans new
        → Fine plant scans new'
        → HostHoldsAt plant at old new → HostHoldsAt plant at old new'
        → OneJoint plant scans new new'
    host-held-one at old new new' kept fine fine' h h' = record {
      is = h.made ∙ (λ i. with_noted_on h.plan.network (same.1 i)
          (with_host_list at h.log (same.0 i) old)) ∙ sym other.is;
      kept = subst (Kept plant scans) (sym h.made)
          (write-kept plant scans old
          (with_noted_on h.plan.network h.ring (with_host_list at h.log h.entries old))
          h.plan.network h.plan.node h.ring
          (host-write at old h.plan h.log h.entries h.ring h.left h.turn) kept refl
          (λ net there' same' caller. absurd (host-apart at h.plan h.is.plan_is caller)));
    }
      where
        plans : h.plan ≡ h'.plan
        plans = some-same (sym h.is.plan_is ∙ h'.is.plan_is)

        logs : h.log ≡ h'.log
        logs = some-same (sym h.is.log_is ∙ h'.is.log_is)

        other : HostHeldAs at h.plan h.log old new'
        other = subst (λ p. HostHeldAs at p h.log old new') (sym plans)
            (subst (λ l. HostHeldAs at h'.plan l old new') (sym logs) (host-held-as at old new' h'))

        on : IsOn plant h.plan.network h.plan.node
        on = host-at-on plant at h.plan sound h.is.plan_is

        legal-of : (joint : Joint) (entries : List HostEntry) (ring : List RingEntry) (left : Bool)
            → HoldsHostTurn true (net_of plant h.plan.node) h.plan.node h.plan true h.log.entries
            entries (noted_on h.plan.network old) ring left
            → joint ≡ with_noted_on h.plan.network ring (with_host_list at h.log entries old)
            → Fine plant scans joint → IsLegalRing (net_of plant h.plan.node) ring
        legal-of joint entries ring left turn made' fine'' =
            let new'' = with_noted_on h.plan.network ring (with_host_list at h.log entries old) in
            subst (IsLegalRing (net_of plant h.plan.node))
            (now-is plant scans old new'' h.plan.network h.plan.node ring
            (host-write at old h.plan h.log entries ring left turn) kept on.net on.there on.number)
            (ring-fine plant scans new'' h.plan.network h.plan.node
            (subst (Fine plant scans) made' fine'') on)

        same : (h.entries ≡ other.entries) × (h.ring ≡ other.ring) × (h.left ≡ other.left)
        same = host-same (net_of plant h.plan.node) h.plan.node h.plan true h.left other.left
            h.log.entries h.entries other.entries (noted_on h.plan.network old) h.ring other.ring
            h.turn (legal-of new h.entries h.ring h.left h.turn h.made fine)
            other.turn (legal-of new' other.entries other.ring other.left other.turn other.is fine')

    -- an end's hold
    end-held-as : (net : NetPlan) (side at : ℕ) (old new : Joint)
        (h : EndHoldsAt plant net side at old new) → EndHeldAs net side at h.plan h.log old new
    end-held-as net side at old new h =
        record { entries = h.entries; ring = h.ring; left = h.left; turn = h.turn; is = h.made }

    end-goes : (net : NetPlan) (side at : ℕ) (old new : Joint)
        (h : EndHoldsAt plant net side at old new)
        → Goes side h.log.entries h.entries (noted_on net.number old) h.ring
    end-goes net side at old new h = end-turn-adds h.plan net side true h.left h.log.entries
        h.entries (noted_on net.number old) h.ring h.turn

    end-write : (net : NetPlan) (side at : ℕ) (old : Joint) (plan : BridgePlan) (log : BridgeLog)
        (entries : List BridgeEntry) (ring : List RingEntry) (left : Bool)
        → HoldsEndTurn true true plan net side true log.entries entries
        (noted_on net.number old) ring left
        → Writes plant scans old
        (with_noted_on net.number ring (with_bridge_list at log entries old))
        net.number side ring
    end-write net side at old plan log entries ring left turn =
        let g = end-turn-adds plan net side true left log.entries entries
        (noted_on net.number old) ring turn in
        record { rings_are = refl; done = g.done; list_is = g.ring_is; mine = g.mine }

    -- the bridge is at its place
    bridge-there : (old : Joint) (at : ℕ) (plan : BridgePlan) (log : BridgeLog)
        (entries : List BridgeEntry) (network : ℕ) (ring : List RingEntry)
        → IsBridgeAt plant old at plan log
        → IsBridgeAt plant (with_noted_on network ring (with_bridge_list at log entries old))
        at plan
        (record { left = log.left; right = log.right; entries = entries })
    bridge-there old at plan log entries network ring is = record {
      plan_is = is.plan_is;
      log_is = set-get old.bridges at
          (record { left = log.left; right = log.right; entries = entries }) log is.log_is;
    }

    end-held-grows : (net : NetPlan) (side at : ℕ) (old new : Joint)
        → EndHoldsAt plant net side at old new → Grows plant scans old new
    end-held-grows net side at old new h =
        let made' = with_noted_on net.number h.ring (with_bridge_list at h.log h.entries old) in
        let g = end-goes net side at old new h in
        let log : BridgeLog =
        record { left = h.log.left; right = h.log.right; entries = h.entries } in
        subst (Grows plant scans old) (sym h.made) (record {
          rings = rings-grow plant scans old made' net.number side h.ring
              (end-write net side at old h.plan h.log h.entries h.ring h.left h.turn);
          lists = same-lists plant scans old made' refl;
          bridges = λ k p l is. elim (cases_eq k at) [
            | inl here ↦
                let plans : h.plan ≡ p = some-same (sym h.is.plan_is
                ∙ ap (λ j. slice_get plant.bridges j) (sym here) ∙ is.plan_is) in
                let logs : h.log ≡ l = some-same (sym h.is.log_is
                ∙ ap (λ j. slice_get old.bridges j) (sym here) ∙ is.log_is) in
                record {
                  new_log = log;
                  is = subst (λ j. IsBridgeAt plant made' j p log) (sym here)
                      (subst (λ q. IsBridgeAt plant made' at q log) plans
                      (bridge-there old at h.plan h.log h.entries net.number h.ring h.is));
                  noted = g.noted;
                  entries_are = g.known_is
                      ∙ ap (λ (x : BridgeLog). x.entries ++ g.noted) logs;
                }
            | inr other ↦ record {
              new_log = l;
              is = record {
                plan_is = is.plan_is;
                log_is = set-other old.bridges at k log other ∙ is.log_is;
              };
              noted = [];
              entries_are = sym (append-nil l.entries);
            }
          ];
        })

    -- a hold of an end makes one thing
    end-held-one : (net : NetPlan) (side at : ℕ) (old new new' : Joint)
        → Contains plant.nets net → place_of_bridge plant side ≡ Some at → Kept plant scans old
        → Fine plant scans new → Fine plant scans new' → EndHoldsAt plant net side at old new
        → EndHoldsAt plant net side at old new' → OneJoint plant scans new new'
    end-held-one net side at old new new' stands placed kept fine fine' h h' = record {
      is = h.made ∙ (λ i. with_noted_on net.number (same.1 i)
          (with_bridge_list at h.log (same.0 i) old)) ∙ sym other.is;
      kept = subst (Kept plant scans) (sym h.made)
          (write-kept plant scans old
          (with_noted_on net.number h.ring (with_bridge_list at h.log h.entries old))
          net.number side h.ring
          (end-write net side at old h.plan h.log h.entries h.ring h.left h.turn) kept refl
          (λ m there' is caller.
          subst (λ x. NoneFails x side h.ring) (sym (net-same plant m net sound there' stands is))
          (end-turn-none h.plan net side true h.left h.log.entries h.entries
          (noted_on net.number old) h.ring h.turn)));
    }
      where
        plans : h.plan ≡ h'.plan
        plans = some-same (sym h.is.plan_is ∙ h'.is.plan_is)

        logs : h.log ≡ h'.log
        logs = some-same (sym h.is.log_is ∙ h'.is.log_is)

        other : EndHeldAs net side at h.plan h.log old new'
        other = subst (λ p. EndHeldAs net side at p h.log old new') (sym plans)
            (subst (λ l. EndHeldAs net side at h'.plan l old new') (sym logs)
            (end-held-as net side at old new' h'))

        caller : IsCaller plant scans side
        caller = inr (record {
          at = at;
          plan = h.plan;
          plan_is = h.is.plan_is;
          is_end = position-passes (is_end_of side) plant.bridges at h.plan placed h.is.plan_is;
        })

        legal-of : (joint : Joint) (entries : List BridgeEntry) (ring : List RingEntry)
            (left : Bool) → HoldsEndTurn true true h.plan net side true h.log.entries entries
            (noted_on net.number old) ring left
            → joint ≡ with_noted_on net.number ring (with_bridge_list at h.log entries old)
            → Fine plant scans joint → BothLegal h.plan net entries ring
        legal-of joint entries ring left turn made' fine'' =
            let new'' = with_noted_on net.number ring (with_bridge_list at h.log entries old) in
            let told = subst (Fine plant scans) made' fine'' in
            record {
              bridge = told.bridges at h.plan
                  (record { left = h.log.left; right = h.log.right; entries = entries })
                  (bridge-there old at h.plan h.log entries net.number ring h.is);
              on_ring = subst (IsLegalRing net)
                  (now-is plant scans old new'' net.number side ring
                  (end-write net side at old h.plan h.log entries ring left turn) kept net stands
                  refl) (told.rings net stands);
            }

        same : (h.entries ≡ other.entries) × (h.ring ≡ other.ring) × (h.left ≡ other.left)
        same = end-turn-once h.plan net side true h.left other.left h.log.entries h.entries
            other.entries (noted_on net.number old) h.ring other.ring
            (kept.none net stands side caller) h.turn
            (legal-of new h.entries h.ring h.left h.turn h.made fine) other.turn
            (legal-of new' other.entries other.ring other.left other.turn other.is fine')

    -- a hold of whoever has the token
    hold-grows : (net : NetPlan) (c h b : Option ℕ) (old new : Joint)
        → MakesHold plant scans net c h b old new → Grows plant scans old new
    hold-grows net (Some at) h b old new m = held-grows plant scans sound laws at old new m
    hold-grows net None (Some at) b old new m = host-held-grows at old new m
    hold-grows net None None (Some at) old new m =
        end-held-grows net (holder_on net old) at old new m
    hold-grows net None None None old new m = subst (Grows plant scans old) (sym m)
        (grows-none plant scans old)

    -- a hold makes one thing
    hold-one : (net : NetPlan) → Contains plant.nets net → (c h b : Option ℕ)
        → (old new new' : Joint) → place_of_bridge plant (holder_on net old) ≡ b
        → Kept plant scans old
        → Fine plant scans new → Fine plant scans new' → MakesHold plant scans net c h b old new
        → MakesHold plant scans net c h b old new' → OneJoint plant scans new new'
    hold-one net stands (Some at) h b old new new' placed kept fine fine' m m' =
        held-one plant scans sound laws at old new new' kept fine fine' m m'
    hold-one net stands None (Some at) b old new new' placed kept fine fine' m m' =
        host-held-one at old new new' kept fine fine' m m'
    hold-one net stands None None (Some at) old new new' placed kept fine fine' m m' =
        end-held-one net (holder_on net old) at old new new' stands placed kept fine fine' m m'
    hold-one net stands None None None old new new' placed kept fine fine' m m' =
        record { is = m ∙ sym m'; kept = subst (Kept plant scans) (sym m) kept }

    -- ---- an away turn

    -- a node that comes back sends nothing by it
    coming-quiet : (status : NodeStatus) (off : Bool) (m n : ℕ)
        → Each (IsNoSend m) (coming_back status off n)
    coming-quiet statuses.In off m n = tt
    coming-quiet statuses.Asking off m n = tt
    coming-quiet statuses.Gone off m n = tt
    coming-quiet statuses.Away off m n = quiet-join m n (not off)

    -- what it adds is its own
    join-mine : (n : ℕ) (joined : Bool) → Each (IsMine n) (join_entries n joined)
    join-mine n true = (eq-eqb n n refl, tt)
    join-mine n false = tt

    coming-mine : (status : NodeStatus) (off : Bool) (n : ℕ)
        → Each (IsMine n) (coming_back status off n)
    coming-mine statuses.In off n = tt
    coming-mine statuses.Asking off n = tt
    coming-mine statuses.Gone off n = tt
    coming-mine statuses.Away off n = join-mine n (not off)

    -- what the controller's node adds
    abbrev back_of : ControllerPlan → ControllerLog → Joint → List RingEntry
    back_of plan log old =
        coming_back (status_at (net_of plant plan.node) (noted_on plan.network old) plan.node)
        (is_off_at (fixed_of plant scans plan) log.entries) plan.node

    abbrev came_back : ControllerPlan → ControllerLog → Joint → Joint
    came_back plan log old =
        with_noted_on plan.network (noted_on plan.network old ++ back_of plan log old) old

    away-write : (plan : ControllerPlan) (log : ControllerLog) (old : Joint)
        → Writes plant scans old (came_back plan log old) plan.network plan.node
        (noted_on plan.network old ++ back_of plan log old)
    away-write plan log old = record {
      rings_are = refl;
      done = back_of plan log old;
      list_is = refl;
      mine = coming-mine (status_at (net_of plant plan.node) (noted_on plan.network old) plan.node)
          (is_off_at (fixed_of plant scans plan) log.entries) plan.node;
    }

    away-grows : (at : ℕ) (old new : Joint) → ComesBackAt plant scans at old new
        → Grows plant scans old new
    away-grows at old new c = subst (Grows plant scans old) (sym c.made) (record {
      rings = rings-grow plant scans old (came_back c.plan c.log old) c.plan.network c.plan.node
          (noted_on c.plan.network old ++ back_of c.plan c.log old) (away-write c.plan c.log old);
      lists = same-lists plant scans old (came_back c.plan c.log old) refl;
      bridges = same-bridges plant scans old (came_back c.plan c.log old) refl;
    })

    -- an away turn makes one thing
    away-one : (at : ℕ) (old new new' : Joint) → Kept plant scans old
        → ComesBackAt plant scans at old new
        → ComesBackAt plant scans at old new' → OneJoint plant scans new new'
    away-one at old new new' kept c c' =
        let plans = plan-same plant scans old at c.plan c'.plan c.log c'.log c.is c'.is in
        let logs = log-same plant scans old at c.plan c'.plan c.log c'.log c.is c'.is in
        let back = back_of c.plan c.log old in
        let past = noted_on c.plan.network old in
        record {
          is = c.made ∙ (λ i. came_back (plans i) (logs i) old) ∙ sym c'.made;
          kept = subst (Kept plant scans) (sym c.made)
              (write-kept plant scans old (came_back c.plan c.log old) c.plan.network c.plan.node
              (past ++ back)
              (away-write c.plan c.log old) kept refl
              (λ net there' is caller.
              none-behind net c.plan.node past back (past ++ back) refl
              (coming-quiet (status_at (net_of plant c.plan.node) past c.plan.node)
              (is_off_at (fixed_of plant scans c.plan) c.log.entries) c.plan.node c.plan.node)
              (subst (λ k. NoneFails net c.plan.node (noted_on k old)) is
              (kept.none net there' c.plan.node caller))));
        }

    -- ---- a turn, and turns one after another

    -- a network that has a number is one of the plant's
    net-stands : (network : ℕ) (net : NetPlan) → net_numbered plant network ≡ Some net
        → Contains plant.nets net
    net-stands network net is =
        let place = found-place (λ (m : NetPlan). m.number == network)
        plant.nets net is in
        contains-at plant.nets place.0 net place.1

    pub turn-grows : (turn : Turn) (old new : Joint) → MakesTurn plant scans turn old new
        → Grows plant scans old new
    turn-grows (Step node) old new m = at (place_of_controller plant node) m
      where
        at : (c : Option ℕ) → MakesStep plant scans c old new → Grows plant scans old new
        at None m' = subst (Grows plant scans old) (sym m') (grows-none plant scans old)
        at (Some k) m' = step-grows plant scans sound laws k old new m'
    turn-grows (Hold network) old new m = at (net_numbered plant network) m
      where
        at : (net : Option NetPlan) → MakesHoldOn plant scans net old new
            → Grows plant scans old new
        at None m' = subst (Grows plant scans old) (sym m') (grows-none plant scans old)
        at (Some net) m' = hold-grows net _ _ _ old new m'
    turn-grows (Visit node) old new m = at (place_of_controller plant node) m
      where
        at : (c : Option ℕ) → MakesVisit plant scans c old new → Grows plant scans old new
        at None m' = subst (Grows plant scans old) (sym m') (grows-none plant scans old)
        at (Some k) m' =
            where-grows plant scans sound laws _ k m'.plan m'.log old new m'.is m'.visits
    turn-grows (Away node) old new m = at (place_of_controller plant node) m
      where
        at : (c : Option ℕ) → MakesAwayTurn plant scans c old new → Grows plant scans old new
        at None m' = subst (Grows plant scans old) (sym m') (grows-none plant scans old)
        at (Some k) m' = away-grows k old new m'

    -- a turn makes one thing
    turn-one : (turn : Turn) (old new new' : Joint) → Kept plant scans old → Fine plant scans new
        → Fine plant scans new'
        → MakesTurn plant scans turn old new → MakesTurn plant scans turn old new'
        → OneJoint plant scans new new'
    turn-one (Step node) old new new' kept fine fine' m m' =
        at (place_of_controller plant node) m m'
      where
        at : (c : Option ℕ) → MakesStep plant scans c old new → MakesStep plant scans c old new'
            → OneJoint plant scans new new'
        at None s s' = record { is = s ∙ sym s'; kept = subst (Kept plant scans) (sym s) kept }
        at (Some k) s s' = step-one plant scans sound laws k old new new' kept s s'
    turn-one (Hold network) old new new' kept fine fine' m m' =
        at (net_numbered plant network) refl m m'
      where
        at : (net : Option NetPlan) → net_numbered plant network ≡ net
            → MakesHoldOn plant scans net old new
            → MakesHoldOn plant scans net old new' → OneJoint plant scans new new'
        at None is s s' = record { is = s ∙ sym s'; kept = subst (Kept plant scans) (sym s) kept }
        at (Some net) is s s' =
            let holder = holder_on net old in
            hold-one net (net-stands network net is) (place_of_controller plant holder)
            (place_of_host plant holder) (place_of_bridge plant holder)
            old new new' refl kept fine fine' s s'
    turn-one (Visit node) old new new' kept fine fine' m m' =
        at (place_of_controller plant node) m m'
      where
        at : (c : Option ℕ) → MakesVisit plant scans c old new → MakesVisit plant scans c old new'
            → OneJoint plant scans new new'
        at None s s' = record { is = s ∙ sym s'; kept = subst (Kept plant scans) (sym s) kept }
        at (Some k) s s' = visit-one plant scans sound laws k old new new' kept fine fine' s s'
    turn-one (Away node) old new new' kept fine fine' m m' =
        at (place_of_controller plant node) m m'
      where
        at : (c : Option ℕ) → MakesAwayTurn plant scans c old new
            → MakesAwayTurn plant scans c old new' → OneJoint plant scans new new'
        at None s s' = record { is = s ∙ sym s'; kept = subst (Kept plant scans) (sym s) kept }
        at (Some k) s s' = away-one k old new new' kept s s'

    -- turns only add
    pub turns-grow : (turns : List Turn) (old new : Joint) → MakesTurns plant scans turns old new
        → Grows plant scans old new
    turns-grow [] old new m = subst (Grows plant scans old) (sym m) (grows-none plant scans old)
    turns-grow (turn ∷ turns) old new m = grows-then plant scans old m.0 new
        (turn-grows turn old m.0 m.1)
        (turns-grow turns m.0 new m.2)

    -- turns make one thing
    pub turns-one : (turns : List Turn) (old new new' : Joint) → Kept plant scans old
        → Fine plant scans new → Fine plant scans new'
        → MakesTurns plant scans turns old new
        → MakesTurns plant scans turns old new' → OneJoint plant scans new new'
    turns-one [] old new new' kept fine fine' m m' =
        record { is = m ∙ sym m'; kept = subst (Kept plant scans) (sym m) kept }
    turns-one (turn ∷ turns) old new new' kept fine fine' m m' =
        let one = turn-one turn old m.0 m'.0 kept
        (fine-front plant scans m.0 new (turns-grow turns m.0 new m.2) fine)
        (fine-front plant scans m'.0 new' (turns-grow turns m'.0 new' m'.2) fine') m.1 m'.1 in
        turns-one turns m.0 new new' one.kept fine fine' m.2
        (subst (λ j. MakesTurns plant scans turns j new') (sym one.is) m'.2)

  -- ---- the first joint history, and the last

  pub kept-at-first : Kept plant scans (nothing_made plant)
  kept-at-first = record {
    there = λ net there'.
        let place = place-of plant.nets net there' in
        ring-at-first plant.nets place.0 net place.1;
    none = λ net there' n caller.
        subst (NoneFails net n) (sym (none-at plant.nets net.number))
        (λ p f. none-at-first net n p f);
    behind = λ at plan log is.
        let from = map-at empty_log plant.controllers at log is.log_is in
        subst (Behind plan.node log.entries) (sym (none-at plant.nets plan.network))
        (subst (λ (l : ControllerLog). Behind plan.node l.entries []) (sym from.2)
        (let z : endings [] ≤ closings (own plan.node []) = omega arith in z));
  }

  pub fine-at-last : (joint : Joint) → IsPlant plant → IsLegalJoint plant scans joint
      → IsJoint joint → Fine plant scans joint
  fine-at-last joint sound legal tied = record {
    rings = λ net there'. (ring-there plant joint.rings sound legal.rings net there').legal;
    lists = λ at plan log is.
        let found = zip-at-first (IsLegalLog plant scans) plant.controllers joint.controllers at
        plan legal.controllers is.plan_is in
        let same : found.0 ≡ log = some-same (sym found.1 ∙ is.log_is) in
        let ok = subst (IsLegalLog plant scans plan) same found.2 in
        let both = all-at (IsTiedController (noted_on_rings joint)) joint.controllers at log
        tied.controllers is.log_is in
        let on = controller-at-on plant at plan sound is.plan_is in
        let own-is : own plan.node (noted_on_rings joint) ≡ own plan.node
        (noted_on plan.network joint) =
        own-on plant joint.rings sound legal.rings on.net plan.node on.there on.member
        ∙ ap (λ k. own plan.node (noted_on k joint)) on.number in
        record {
          legal = ok.1;
          meets = meets-tied plan.node log.entries (noted_on plan.network joint)
              (subst (Tied AController (items_of log.entries)) own-is
              (subst (λ n. Tied AController (items_of log.entries) (own n (noted_on_rings joint)))
              ok.0 both));
        };
    bridges = λ at plan log is.
        let found = zip-at-first IsLegalBridgeLog plant.bridges joint.bridges at plan
        legal.bridges is.plan_is in
        let same : found.0 ≡ log = some-same (sym found.1 ∙ is.log_is) in
        (subst (IsLegalBridgeLog plan) same found.2).2;
  }
