-- Turns, rounds and repetitions keep all lists of a joint history, and add to them.
use Rattle.std.proofs.Common.{◌≡◌, ℕ, zero, suc, ◌==◌, Bool, true, false, List, [], ◌∷◌, ◌++◌}
use Rattle.std.proofs.Common.{map, set, Option, Some, None, refl, sym, ap, subst, ◌∙◌, inl, inr}
use Rattle.std.proofs.Common.{⊎_elim}
use Rattle.std.proofs.Common.{append_assoc, append-nil}
use Rattle.std.specs.Prelude.{cond, if◌then◌else◌, replicate, ◌⊎◌}
use Rattle.std.specs.List.{find, slice_get, zip}
use Rattle.std.proofs.lemmas.Bool.{eqb-true}
use Rattle.plant_types.specs.declared.net.NetPlan.{NetPlan}
use Rattle.plant_types.specs.declared.plan.ControllerPlan.{ControllerPlan}
use Rattle.plant_types.specs.declared.plan.Plant.{Plant}
use Rattle.plant_types.specs.Plans.{net_of}
use Rattle.ring_core.specs.declared.entry.RingEntry.{RingEntry}
use Rattle.controller_core.specs.declared.entry.Entry.{Entry}
use Rattle.whole_scan.specs.Scans.{scan_events}
use Rattle.joint_history.specs.declared.joint.ControllerLog.{ControllerLog}
use Rattle.joint_history.specs.declared.joint.Joint.{Joint}
use Rattle.joint_history.specs.declared.joint.RingLog.{RingLog}
use Rattle.joint_history.specs.JointLaws.{fixed_of}
use Rattle.joint_history.specs.Nets.{entries_on, noted_on}
use Rattle.joint_history.specs.Reading.{controller_at, has_ended_at, is_ours}
use Rattle.serial_feed.specs.CommPort.{IsGivingUp}
use Rattle.serial_feed.specs.SerialRuns.{Hold, Visit, Away}
use Rattle.serial_feed.specs.SerialRuns.{log_with_scan, members_on, scanned}
use Rattle.serial_feed.specs.SerialRuns.{IsChain, IsRepetition, MakesRound, MakesRoundOfEach}
use Rattle.serial_feed.specs.SerialRuns.{holder_on, net_numbered, place_of_bridge}
use Rattle.serial_feed.specs.SerialRuns.{place_of_controller, place_of_host, visit_is_due}
use Rattle.serial_feed.specs.SerialRuns.{with_entries, with_list, with_noted_on}
use Rattle.serial_feed.specs.SerialRuns.{MakesAwayTurn, MakesHold, MakesHoldOn}
use Rattle.serial_feed.specs.SerialRuns.{MakesTurns, MakesVisit}
use Rattle.serial_feed.specs.SerialRuns.{VisitsWhere}
use Rattle.tied_lists.specs.Own.{is_of}
use Rattle.serial_feed.proofs.SerialLemmas.{further-adds, further-both, further-grew, Further}
use Rattle.serial_feed.proofs.SerialLemmas.{end-turn-ended, host-turn-ring, turn-known, turn-ring}
use Rattle.serial_feed.proofs.SerialLemmas.{visit-known, visit-ring, TurnEnded}
use Rattle.word_exchange.specs.Moments.{node_of_log, RepetitionsGoOn}
use Rattle.word_exchange.specs.Words.{entries_if, entries_of}

-- ---- lists that go on

abbrev More : {X : Type 0} → List X → List X → Type 0
More {X} old new = (more : List X) × (new ≡ old ++ more)

none-more : {X : Type 0} (list : List X) → More list list
none-more list = ([], sym (append-nil list))

both-more : {X : Type 0} (a b c : List X) → More a b → More b c → More a c
both-more a b c x y = (
  x.0 ++ y.0,
  y.1 ∙ ap (λ l. l ++ y.0) x.1 ∙ append_assoc a x.0 y.0,
)

-- entries of a station's communication came to a list
none-ours : (list : List Entry) → Further is_ours list list
none-ours list = record { more = []; is = sym (append-nil list); mine = refl }

-- ---- the list of a node's controller

abbrev is_node : ℕ → ControllerLog → Bool
is_node node log = log.node == node

abbrev node_of_plan : ControllerPlan → ℕ
node_of_plan plan = plan.node

abbrev list_of : ℕ → List ControllerLog → List Entry
list_of node logs = entries_if (find (is_node node) logs)

pick-ours : (b : Bool) (x : ControllerLog) (entries : List Entry) (old new : Option ControllerLog)
    → Further is_ours x.entries entries → Further is_ours (entries_if old) (entries_if new)
    → Further is_ours (entries_if (cond b (Some x) old))
    (entries_if (cond b (Some (record { node = x.node; entries = entries })) new))
pick-ours true x entries old new here later = here
pick-ours false x entries old new here later = later

set-ours : (node : ℕ) (logs : List ControllerLog) (at : ℕ) (log : ControllerLog)
    (entries : List Entry) → slice_get logs at ≡ Some log → Further is_ours log.entries entries
    → Further is_ours (list_of node logs)
    (list_of node (set logs at (record { node = log.node; entries = entries })))
set-ours node [] at log entries there here = absurd cc
set-ours node (x ∷ logs) zero log entries there here =
    let same : log ≡ x = cc in
    subst (λ (y : ControllerLog). Further is_ours (list_of node (x ∷ logs))
    (list_of node ((record { node = y.node; entries = entries }) ∷ logs))) (sym same)
    (pick-ours (x.node == node) x entries (find (is_node node) logs) (find (is_node node) logs)
    (subst (λ (y : ControllerLog). Further is_ours y.entries entries) same here)
    (none-ours (list_of node logs)))
set-ours node (x ∷ logs) (suc at) log entries there here =
    pick-ours (x.node == node) x x.entries (find (is_node node) logs)
    (find (is_node node) (set logs at (record { node = log.node; entries = entries })))
    (none-ours x.entries) (set-ours node logs at log entries there here)

set-nodes : (logs : List ControllerLog) (at : ℕ) (log : ControllerLog) (entries : List Entry)
    → slice_get logs at ≡ Some log
    → map node_of_log (set logs at (record { node = log.node; entries = entries }))
    ≡ map node_of_log logs
set-nodes [] at log entries there = absurd cc
set-nodes (x ∷ logs) zero log entries there =
    let same : log ≡ x = cc in ap (λ (y : ControllerLog). y.node ∷ map node_of_log logs) same
set-nodes (x ∷ logs) (suc at) log entries there =
    ap (λ (l : List ℕ). x.node ∷ l) (set-nodes logs at log entries there)

-- ---- the list of a ring

abbrev Either : ℕ → ℕ → List RingEntry → List RingEntry → List RingEntry → Type 0
Either network k ring old new = (new ≡ old) ⊎ ((k ≡ network) × (new ≡ ring))

here-by : (c : Bool) (network k : ℕ) (ring old : List RingEntry) → (c ≡ true → k ≡ network)
    → Either network k ring old (if c then ring else old)
here-by true network k ring old same = inr (same refl, refl)
here-by false network k ring old same = inl refl

ring-by : (b : Bool) (network k : ℕ) (ring : List RingEntry) (log : RingLog)
    (rings : List RingLog) → (log.network == k) ≡ b
    → Either network k ring (entries_on k rings)
    (entries_on k (map (with_entries network ring) rings))
    → Either network k ring (entries_on k (log ∷ rings))
    (entries_on k (map (with_entries network ring) (log ∷ rings)))
ring-by true network k ring log rings is more =
    rw is (here-by (log.network == network) network k ring log.entries
    (λ yes. sym (eqb-true log.network k is) ∙ eqb-true log.network network yes))
ring-by false network k ring log rings is more = rw is more

ring-either : (network k : ℕ) (ring : List RingEntry) (rings : List RingLog)
    → Either network k ring (entries_on k rings)
    (entries_on k (map (with_entries network ring) rings))
ring-either network k ring [] = inl refl
ring-either network k ring (log ∷ rings) =
    ring-by (log.network == k) network k ring log rings refl (ring-either network k ring rings)

ring-more : (network k : ℕ) (ring : List RingEntry) (joint : Joint)
    → More (noted_on network joint) ring
    → More (noted_on k joint) (noted_on k (with_noted_on network ring joint))
ring-more network k ring joint more = ⊎_elim
    (λ (same : noted_on k (with_noted_on network ring joint) ≡ noted_on k joint).
    subst (More (noted_on k joint)) (sym same) (none-more (noted_on k joint)))
    (λ (it : (k ≡ network) × (noted_on k (with_noted_on network ring joint) ≡ ring)).
    subst (More (noted_on k joint)) (sym it.1)
    (subst (λ (n : ℕ). More (noted_on n joint) ring) (sym it.0) more))
    (ring-either network k ring joint.rings)

-- ---- joint histories

-- the stations of a joint history communicated, and made no steps of a scan
pub record Talks (old new : Joint) : Type 0 where
  pub nodes : map node_of_log new.controllers ≡ map node_of_log old.controllers
  pub entries : (node : ℕ) → Further is_ours (entries_of node old) (entries_of node new)
  pub rings : (network : ℕ) → More (noted_on network old) (noted_on network new)

same-talks : (old new : Joint) → new ≡ old → Talks old new
same-talks old new same = subst (Talks old) (sym same) (record {
  nodes = refl;
  entries = λ node. none-ours (entries_of node old);
  rings = λ network. none-more (noted_on network old);
})

then-talks : (old mid new : Joint) → Talks old mid → Talks mid new → Talks old new
then-talks old mid new x y = record {
  nodes = y.nodes ∙ x.nodes;
  entries = λ node. further-both is_ours (entries_of node old) (entries_of node mid)
      (entries_of node new) (x.entries node) (y.entries node);
  rings = λ network. both-more (noted_on network old) (noted_on network mid)
      (noted_on network new) (x.rings network) (y.rings network);
}

-- a ring went on, and the controllers are as before
ring-talks : (old new : Joint) (network : ℕ) (ring : List RingEntry)
    → new.controllers ≡ old.controllers
    → new.rings ≡ map (with_entries network ring) old.rings
    → More (noted_on network old) ring → Talks old new
ring-talks old new network ring same is more = record {
  nodes = ap (map node_of_log) same;
  entries = λ node. subst (λ (l : List ControllerLog). Further is_ours (entries_of node old)
      (list_of node l)) (sym same) (none-ours (entries_of node old));
  rings = λ k. subst (λ (l : List RingLog). More (noted_on k old) (entries_on k l)) (sym is)
      (ring-more network k ring old more);
}

-- the list of a controller went on, and the rings are as before
list-talks : (old : Joint) (at : ℕ) (log : ControllerLog) (entries : List Entry)
    → slice_get old.controllers at ≡ Some log → Further is_ours log.entries entries
    → Talks old (with_list at log entries old)
list-talks old at log entries there more = record {
  nodes = set-nodes old.controllers at log entries there;
  entries = λ node. set-ours node old.controllers at log entries there more;
  rings = λ network. none-more (noted_on network old);
}

both-talk : (old new : Joint) (at : ℕ) (log : ControllerLog) (entries : List Entry) (network : ℕ)
    (ring : List RingEntry) → slice_get old.controllers at ≡ Some log
    → Further is_ours log.entries entries → More (noted_on network old) ring
    → new ≡ with_noted_on network ring (with_list at log entries old) → Talks old new
both-talk old new at log entries network ring there more ring_more is =
    let mid = with_list at log entries old in
    subst (Talks old) (sym is)
    (then-talks old mid (with_noted_on network ring mid)
    (list-talks old at log entries there more)
    (ring-talks mid (with_noted_on network ring mid) network ring refl refl ring_more))

-- ---- turns

ended-more : (net : NetPlan) (n : ℕ) (ring new_ring : List RingEntry) (left : Bool)
    → TurnEnded net n ring new_ring left → More ring new_ring
ended-more net n ring new_ring left t =
    let all = further-both (is_of n) _ _ _ t.to_given
    (further-both (is_of n) _ _ _ (further-grew (is_of n) _ _ _ t.grew)
    (further-adds (is_of n) IsGivingUp _ _ t.rest)) in
    (all.more, all.is)

module _ (plant : Plant) (scans : ℕ) where
  hold-talks : (net : NetPlan) (c h b : Option ℕ) (old new : Joint)
      → MakesHold plant scans net c h b old new → Talks old new
  hold-talks net (Some at) h b old new m =
      let fixed = fixed_of plant scans m.plan in
      let ring = noted_on m.plan.network old in
      let noted = turn-ring fixed (net_of plant m.plan.node) m.plan.node m.log.entries m.entries
      ring m.ring m.end m.turn in
      both-talk old new at m.log m.entries m.plan.network m.ring m.is.log_is
      (turn-known fixed (net_of plant m.plan.node) m.plan.node m.log.entries m.entries
      ring m.ring m.end m.turn)
      (noted.more, noted.is) m.made
  hold-talks net None (Some at) b old new m =
      let noted = host-turn-ring (net_of plant m.plan.node) m.plan.node m.plan m.log.entries
      m.entries (noted_on m.plan.network old) m.ring m.left m.turn in
      ring-talks old new m.plan.network m.ring (ap (λ (j : Joint). j.controllers) m.made)
      (ap (λ (j : Joint). j.rings) m.made) (noted.more, noted.is)
  hold-talks net None None (Some at) old new m =
      let ring = noted_on net.number old in
      let side = holder_on net old in
      ring-talks old new net.number m.ring (ap (λ (j : Joint). j.controllers) m.made)
      (ap (λ (j : Joint). j.rings) m.made)
      (ended-more net side ring m.ring m.left
      (end-turn-ended m.plan net side m.log.entries m.entries ring m.ring m.left m.turn))
  hold-talks net None None None old new m = same-talks old new m

  on-talks : (net : Option NetPlan) (old new : Joint) → MakesHoldOn plant scans net old new
      → Talks old new
  on-talks None old new m = same-talks old new m
  on-talks (Some net) old new m = hold-talks net (place_of_controller plant (holder_on net old))
      (place_of_host plant (holder_on net old)) (place_of_bridge plant (holder_on net old)) old new
      m

  where-talks : (b : Bool) (at : ℕ) (plan : ControllerPlan) (log : ControllerLog) (old new : Joint)
      → slice_get old.controllers at ≡ Some log → VisitsWhere b plant scans at plan log old new
      → Talks old new
  where-talks true at plan log old new there v =
      let fixed = fixed_of plant scans plan in
      let net = net_of plant plan.node in
      let ring = noted_on plan.network old in
      let noted = visit-ring fixed net plan.node log.entries v.entries ring v.ring v.visit in
      both-talk old new at log v.entries plan.network v.ring there
      (visit-known fixed net plan.node log.entries v.entries ring v.ring v.visit)
      (noted.more, noted.is) v.made
  where-talks false at plan log old new there v = same-talks old new v

  visit-talks : (place : Option ℕ) (old new : Joint) → MakesVisit plant scans place old new
      → Talks old new
  visit-talks None old new m = same-talks old new m
  visit-talks (Some at) old new m =
      where-talks (visit_is_due plant scans m.plan m.log.entries (noted_on m.plan.network old)) at
      m.plan m.log old new m.is.log_is m.visits

  away-talks : (place : Option ℕ) (old new : Joint) → MakesAwayTurn plant scans place old new
      → Talks old new
  away-talks None old new m = same-talks old new m
  away-talks (Some at) old new m =
      ring-talks old new m.plan.network _ (ap (λ (j : Joint). j.controllers) m.made)
      (ap (λ (j : Joint). j.rings) m.made) (_, refl)

  aways-talk : (plans : List ControllerPlan) (old new : Joint)
      → MakesTurns plant scans (map (λ (plan : ControllerPlan). Away plan.node) plans) old new
      → Talks old new
  aways-talk [] old new m = same-talks old new m
  aways-talk (plan ∷ plans) old new m =
      then-talks old m.0 new (away-talks (place_of_controller plant plan.node) old m.0 m.1)
      (aways-talk plans m.0 new m.2)

  visits-talk : (plans : List ControllerPlan) (old new : Joint)
      → MakesTurns plant scans (map (λ (plan : ControllerPlan). Visit plan.node) plans) old new
      → Talks old new
  visits-talk [] old new m = same-talks old new m
  visits-talk (plan ∷ plans) old new m =
      then-talks old m.0 new (visit-talks (place_of_controller plant plan.node) old m.0 m.1)
      (visits-talk plans m.0 new m.2)

  holds-talk : (count network : ℕ) (old new : Joint)
      → MakesTurns plant scans (replicate count (Hold network)) old new → Talks old new
  holds-talk zero network old new m = same-talks old new m
  holds-talk (suc count) network old new m =
      then-talks old m.0 new (on-talks (net_numbered plant network) old m.0 m.1)
      (holds-talk count network m.0 new m.2)

  -- ---- rounds

  each-talks : (nets : List NetPlan) (old new : Joint) → MakesRoundOfEach plant scans nets old new
      → Talks old new
  each-talks [] old new m = same-talks old new m
  each-talks (net ∷ nets) old new m =
      then-talks old m.0 new
      (holds-talk (members_on net (noted_on net.number old)) net.number old m.0 m.1)
      (each-talks nets m.0 new m.2)

  rounds-talk : (after_each : List Joint) (old new : Joint)
      → IsChain (MakesRound plant scans) old after_each new → Talks old new
  rounds-talk [] old new m = same-talks old new m
  rounds-talk (next ∷ after_each) old new m =
      then-talks old next new (each-talks plant.nets old next m.0)
      (rounds-talk after_each next new m.1)

  pub repetition-talks : (old new : Joint) → IsRepetition plant scans old new
      → Talks (scanned plant scans old) new
  repetition-talks old new r =
      then-talks (scanned plant scans old) r.came_back new
      (aways-talk plant.controllers (scanned plant scans old) r.came_back r.away_turns)
      (then-talks r.came_back r.visited new
      (visits-talk plant.controllers r.came_back r.visited r.visits)
      (rounds-talk r.rounds.behind_each r.visited new r.rounds.rounds))

  -- ---- scans

  pick-more : (b : Bool) (x y : ControllerLog) (old new : Option ControllerLog)
      → More x.entries y.entries → More (entries_if old) (entries_if new)
      → More (entries_if (cond b (Some x) old)) (entries_if (cond b (Some y) new))
  pick-more true x y old new here later = here
  pick-more false x y old new here later = later

  scan-by : (b : Bool) (h events : List Entry) → More h (if b then h else h ++ events)
  scan-by true h events = none-more h
  scan-by false h events = (events, refl)

  scans-more : (node : ℕ) (plans : List ControllerPlan) (logs : List ControllerLog)
      → map node_of_log logs ≡ map node_of_plan plans
      → More (list_of node logs) (list_of node (map (log_with_scan plant scans) (zip plans logs)))
  scans-more node [] [] same = none-more []
  scans-more node [] (log ∷ logs) same = absurd cc
  scans-more node (plan ∷ plans) [] same = absurd cc
  scans-more node (plan ∷ plans) (log ∷ logs) same =
      pick-more (log.node == node) log (log_with_scan plant scans (plan, log))
      (find (is_node node) logs)
      (find (is_node node) (map (log_with_scan plant scans) (zip plans logs)))
      (scan-by (has_ended_at (fixed_of plant scans plan) log.entries) log.entries
      (scan_events (controller_at (fixed_of plant scans plan) log.entries)))
      (scans-more node plans logs cc)

  scans-nodes : (plans : List ControllerPlan) (logs : List ControllerLog)
      → map node_of_log logs ≡ map node_of_plan plans
      → map node_of_log (map (log_with_scan plant scans) (zip plans logs)) ≡ map node_of_log logs
  scans-nodes [] [] same = refl
  scans-nodes [] (log ∷ logs) same = absurd cc
  scans-nodes (plan ∷ plans) [] same = absurd cc
  scans-nodes (plan ∷ plans) (log ∷ logs) same =
      ap (λ (l : List ℕ). log.node ∷ l) (scans-nodes plans logs cc)

pub go-on : RepetitionsGoOn
go-on plant scans old new same r =
    let t = repetition-talks plant scans old new r in
    let mid = scanned plant scans old in
    record {
      nodes = t.nodes ∙ scans-nodes plant scans plant.controllers old.controllers same;
      entries = λ node.
          let scan = scans-more plant scans node plant.controllers old.controllers same in
          let more = t.entries node in
          both-more (entries_of node old) (entries_of node mid) (entries_of node new) scan
          (more.more, more.is);
      rings = t.rings;
    }
