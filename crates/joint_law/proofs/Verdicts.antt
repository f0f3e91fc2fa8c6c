-- What a judge finds, as a verdict; and a whole run has no spot.
use Rattle.std.proofs.Common.{◌≡◌, ℕ, ◌+◌, ◌<◌, List, [], ◌∷◌, ◌++◌, length, get_or, map}
use Rattle.std.proofs.Common.{take, drop, Some, None}
use Rattle.std.proofs.Common.{refl, sym, ap, subst, ◌∙◌, append_assoc, arith}
use Rattle.std.specs.List.{All, AllZip, Any, flat_map, zip}
use Rattle.std.proofs.Math.ListN.{get_or-map}
use Rattle.std.proofs.lemmas.List.{length-map}
use Rattle.std.proofs.lemmas.List.{take-append-drop}
use Rattle.std.proofs.lemmas.List.Elements.{All-append, All-map, filter_map-append}
use Rattle.std.proofs.lemmas.Slice.Zip.{get_or-zip, length-zip}
use Rattle.plant_types.specs.declared.net.BridgePlan.{BridgePlan}
use Rattle.plant_types.specs.declared.net.HostPlan.{HostPlan}
use Rattle.plant_types.specs.declared.net.NetPlan.{NetPlan}
use Rattle.plant_types.specs.declared.plan.ControllerPlan.{ControllerPlan}
use Rattle.plant_types.specs.declared.plan.Plant.{Plant}
use Rattle.plant_types.specs.Plans.{IsPlant}
use Rattle.ring_core.specs.Machine.{addresses}
use Rattle.ring_core.specs.declared.entry.RingEntry.{RingEntry}
use Rattle.ring_core.specs.Legal.{IsLegalRing, IsRun}
use Rattle.controller_core.specs.Controller.{IsLegal}
use Rattle.controller_core.specs.Laws.{FrontsAreLegal}
use Rattle.host_port.specs.declared.entry.HostEntry.{HostEntry}
use Rattle.host_port.specs.Legal.{IsHostHistory, Question, question_by, questions_in}
use Rattle.bridge_relay.specs.declared.entry.BridgeEntry.{BridgeEntry}
use Rattle.bridge_relay.specs.Legal.{IsBridgeHistory}
use Rattle.joint_history.specs.declared.joint.BridgeLog.{BridgeLog}
use Rattle.joint_history.specs.declared.joint.ControllerLog.{ControllerLog}
use Rattle.joint_history.specs.declared.joint.HostLog.{HostLog}
use Rattle.joint_history.specs.declared.joint.RingLog.{RingLog}
use Rattle.joint_history.specs.declared.joint.Joint.{Joint}
use Rattle.joint_history.specs.Complete.{IsComplete, IsCompleteBridgeLog, IsCompleteHostLog}
use Rattle.joint_history.specs.Complete.{IsCompleteLog}
use Rattle.joint_history.specs.JointLaws.{IsJoint, IsLegalBridgeLog, IsLegalHostLog, IsLegalJoint}
use Rattle.joint_history.specs.JointLaws.{IsLegalLog, IsLegalRingLog, IsTiedSide}
use Rattle.joint_history.specs.JointLaws.{IsTiedController, IsTiedHost, fixed_of}
use Rattle.joint_history.specs.Nets.{noted_on_rings}
use Rattle.joint_history.proofs.Lists.{all-behind, all-front}
use Rattle.joint_law.specs.AllComplete.{IsFirstIncomplete}
use Rattle.station_laws.specs.Bound.{Bound, BreaksLaw, BreaksReplies, KeepsLaw, KeepsReplies}
use Rattle.station_laws.specs.Bound.{bounds_of, controller_bound, host_bound, side_bound}
use Rattle.station_laws.specs.Bound.{side_bounds}
use Rattle.station_laws.specs.Differing.{BreaksAt, DifferAt}
use Rattle.station_laws.specs.Failing.{AreFounded}
use Rattle.tied_lists.specs.Items.{ABridge, AController, AHost, Item, Items, Station, downs_by}
use Rattle.tied_lists.specs.Own.{own}
use Rattle.joint_history.specs.Bridges.{side_items}
use Rattle.joint_law.specs.LawEnds.{AllKeep, IsFirstBreak, IsLawsEnd}
use Rattle.joint_law.specs.Spots.{AreCompleteEndsAt, BridgeSpot, HasSections, IsCompleteAt}
use Rattle.joint_law.specs.Spots.{IsFirstSpot, IsSpot, IsVerdict, IsWholeRun, RingSpot}
use Rattle.station_laws.specs.declared.law.Law.{Law}
use Rattle.station_laws.specs.declared.law.Law.TheVariants.{Asks, Answers, Replies, Ends, Downs}
use Rattle.joint_law.specs.declared.verdict.Spot.{Spot}
use Rattle.joint_law.specs.declared.verdict.Spot.TheVariants as spots
use Rattle.joint_law.specs.declared.verdict.Verdict.{Verdict}
use Rattle.joint_law.specs.declared.verdict.Verdict.TheVariants.{Legal, Illegal}
use Rattle.joint_law.proofs.AtNodes.{all-complete, bounds-low}
use Rattle.joint_law.proofs.CourseSteps.{same-size, zip-at, zip-map}
use Rattle.station_laws.proofs.LawSteps.{keeps-joined, same-backs}
use Rattle.station_laws.proofs.Founded.{founded-front, founded-none, none-founded, side-fails}
use Rattle.joint_law.proofs.SideBounds.{sides-all, sides-each}

-- ---- sections

pub legal-sections : (plant : Plant) (scans : ℕ) (joint : Joint) → IsLegalJoint plant scans joint
    → HasSections plant joint
legal-sections plant scans joint legal = record {
  controllers =
      zip-map (IsLegalLog plant scans) (λ (p : ControllerPlan). p.node)
      (λ (g : ControllerLog). g.node) (λ p g is. is.0) plant.controllers joint.controllers
      legal.controllers;
  hosts =
      zip-map IsLegalHostLog (λ (p : HostPlan). p.node) (λ (g : HostLog). g.node)
      (λ p g is. is.0) plant.hosts joint.hosts legal.hosts;
  lefts =
      zip-map IsLegalBridgeLog (λ (p : BridgePlan). p.left) (λ (g : BridgeLog). g.left)
      (λ p g is. is.0) plant.bridges joint.bridges legal.bridges;
  rights =
      zip-map IsLegalBridgeLog (λ (p : BridgePlan). p.right) (λ (g : BridgeLog). g.right)
      (λ p g is. is.1) plant.bridges joint.bridges legal.bridges;
  rings =
      zip-map IsLegalRingLog (λ (p : NetPlan). p.number) (λ (g : RingLog). g.network)
      (λ p g is. is.0) plant.nets joint.rings legal.rings;
}

-- ---- the laws

-- each station and each end of a bridge keeps it
record EachKeeps (law : Law) (joint : Joint) : Type 0 where
  controllers : (k : ℕ) (d : ControllerLog) → k < length joint.controllers
      → KeepsLaw law (controller_bound (noted_on_rings joint) (get_or joint.controllers k d))
  hosts : (k : ℕ) (d : HostLog) → k < length joint.hosts
      → KeepsLaw law (host_bound (noted_on_rings joint) (get_or joint.hosts k d))
  bridges : (k : ℕ) (d : BridgeLog) → k < length joint.bridges
      → KeepsLaw law (side_bound (noted_on_rings joint) (get_or joint.bridges k d)
      (get_or joint.bridges k d).left)
      × KeepsLaw law (side_bound (noted_on_rings joint) (get_or joint.bridges k d)
      (get_or joint.bridges k d).right)

each-of : (law : Law) (joint : Joint) → All (KeepsLaw law) (bounds_of joint)
    → EachKeeps law joint
each-of law joint all =
    let xs = map (controller_bound (noted_on_rings joint)) joint.controllers in
    let ys = map (host_bound (noted_on_rings joint)) joint.hosts in
    let zs = flat_map (side_bounds (noted_on_rings joint)) joint.bridges in
    let stations = all-front (KeepsLaw law) (xs ++ ys) zs all in
    let controllers = all-front (KeepsLaw law) xs ys stations in
    let hosts = all-behind (KeepsLaw law) xs ys stations in
    let a = length-map joint.controllers (controller_bound (noted_on_rings joint)) in
    let b = length-map joint.hosts (host_bound (noted_on_rings joint)) in
    record {
      controllers = λ k d low. subst (KeepsLaw law)
          (get_or-map (controller_bound (noted_on_rings joint)) joint.controllers k d)
          (controllers k (controller_bound (noted_on_rings joint) d) (omega (arith, a)));
      hosts = λ k d low. subst (KeepsLaw law)
          (get_or-map (host_bound (noted_on_rings joint)) joint.hosts k d)
          (hosts k (host_bound (noted_on_rings joint) d) (omega (arith, b)));
      bridges = sides-each (KeepsLaw law) (noted_on_rings joint) joint.bridges
          (all-behind (KeepsLaw law) (xs ++ ys) zs all);
    }

-- an end of a bridge keeps all laws
tied-end : (ring : List RingEntry) (log : BridgeLog) (side : ℕ)
    → ((law : Law) → KeepsLaw law (side_bound ring log side)) → IsTiedSide ring log side
tied-end ring log side keeps = record {
  asks = keeps Asks;
  peers = (keeps Answers).0;
  port = (keeps Answers).1;
  replies = keeps Replies;
  ends = keeps Ends;
  downs =
      founded-none (downs_by (own side ring))
      (subst (λ (fails : ℕ). AreFounded fails (downs_by (own side ring)))
      (side-fails side log.entries) (keeps Downs));
}

pub keeps-joint : (joint : Joint) → ((law : Law) → All (KeepsLaw law) (bounds_of joint))
    → IsJoint joint
keeps-joint joint all =
    let each : (law : Law) → EachKeeps law joint = λ law. each-of law joint (all law) in
    record {
      controllers = λ k d low. record {
        asks = (each Asks).controllers k d low;
        peers = ((each Answers).controllers k d low).0;
        port = ((each Answers).controllers k d low).1;
        replies = (each Replies).controllers k d low;
        ends = (each Ends).controllers k d low;
        downs = (each Downs).controllers k d low;
      };
      hosts = λ k d low. record {
        asks = (each Asks).hosts k d low;
        peers = ((each Answers).hosts k d low).0;
        port = ((each Answers).hosts k d low).1;
        replies = (each Replies).hosts k d low;
        ends = (each Ends).hosts k d low;
        downs = (each Downs).hosts k d low;
      };
      bridges = λ k d low. record {
        left = tied-end (noted_on_rings joint) (get_or joint.bridges k d)
            (get_or joint.bridges k d).left (λ law. ((each law).bridges k d low).0);
        right = tied-end (noted_on_rings joint) (get_or joint.bridges k d)
            (get_or joint.bridges k d).right (λ law. ((each law).bridges k d low).1);
      };
    }

controller-keeps : (law : Law) (ring : List RingEntry) (log : ControllerLog)
    → IsTiedController ring log → KeepsLaw law (controller_bound ring log)
controller-keeps Asks ring log t = t.asks
controller-keeps Answers ring log t = (t.peers, t.port)
controller-keeps Replies ring log t = t.replies
controller-keeps Ends ring log t = t.ends
controller-keeps Downs ring log t = t.downs

host-keeps : (law : Law) (ring : List RingEntry) (log : HostLog) → IsTiedHost ring log
    → KeepsLaw law (host_bound ring log)
host-keeps Asks ring log t = t.asks
host-keeps Answers ring log t = (t.peers, t.port)
host-keeps Replies ring log t = t.replies
host-keeps Ends ring log t = t.ends
host-keeps Downs ring log t = t.downs

side-keeps : (law : Law) (ring : List RingEntry) (log : BridgeLog) (side : ℕ)
    → IsTiedSide ring log side → KeepsLaw law (side_bound ring log side)
side-keeps Asks ring log side t = t.asks
side-keeps Answers ring log side t = (t.peers, t.port)
side-keeps Replies ring log side t = t.replies
side-keeps Ends ring log side t = t.ends
side-keeps Downs ring log side t =
    none-founded (downs_by (own side ring)) (side_items side log.entries).fails t.downs

pub joint-keeps : (joint : Joint) (law : Law) → IsJoint joint
    → All (KeepsLaw law) (bounds_of joint)
joint-keeps joint law j =
    let controllers = map (controller_bound (noted_on_rings joint)) joint.controllers in
    let hosts = map (host_bound (noted_on_rings joint)) joint.hosts in
    All-append (KeepsLaw law) (controllers ++ hosts)
    (flat_map (side_bounds (noted_on_rings joint)) joint.bridges)
    (All-append (KeepsLaw law) controllers hosts
    (All-map (KeepsLaw law) (controller_bound (noted_on_rings joint)) joint.controllers
    (λ k d low. controller-keeps law (noted_on_rings joint) (get_or joint.controllers k d)
    (j.controllers k d low)))
    (All-map (KeepsLaw law) (host_bound (noted_on_rings joint)) joint.hosts
    (λ k d low. host-keeps law (noted_on_rings joint) (get_or joint.hosts k d) (j.hosts k d low))))
    (sides-all (KeepsLaw law) (noted_on_rings joint) joint.bridges (λ k d low.
    let log = get_or joint.bridges k d in (
      side-keeps law (noted_on_rings joint) log log.left (j.bridges k d low).left,
      side-keeps law (noted_on_rings joint) log log.right (j.bridges k d low).right,
    )))

-- all addresses are low, so a law kept below is kept by all
pub low-keep : (law : Law) (stations : List Bound)
    → All (λ (s : Bound). s.node < addresses) stations → AllKeep law stations
    → All (KeepsLaw law) stations
low-keep law stations low keep k d within = keep k d within (low k d within)

pub law-spot : (plant : Plant) (scans : ℕ) (joint : Joint) (spot : Spot) → IsPlant plant
    → IsLegalJoint plant scans joint → IsFirstBreak (bounds_of joint) spot
    → IsSpot plant scans joint spot
law-spot plant scans joint spot sound legal first =
    let low = bounds-low plant joint sound (legal-sections plant scans joint legal) in
    let b = first.breaks in
    subst (IsSpot plant scans joint) (sym b.spot_is) (
      first.law,
      refl,
      record {
        legal = legal;
        laws = λ other less. low-keep other (bounds_of joint) low (first.laws other less);
        earlier = b.earlier;
        here = b.here;
      },
    )

pub laws-joint : (plant : Plant) (scans : ℕ) (joint : Joint) → IsPlant plant
    → IsLegalJoint plant scans joint → IsLawsEnd (bounds_of joint) None → IsJoint joint
laws-joint plant scans joint sound legal all =
    let low = bounds-low plant joint sound (legal-sections plant scans joint legal) in
    keeps-joint joint (λ law. low-keep law (bounds_of joint) low (all law))

-- ---- the stations that were done

pub end-spot : (plant : Plant) (scans : ℕ) (joint : Joint) → IsPlant plant
    → IsLegalJoint plant scans joint → IsJoint joint → IsFirstIncomplete plant scans joint None
    → IsFirstSpot plant scans joint None
end-spot plant scans joint sound legal tied each = record {
  legal = legal;
  tied = tied;
  complete =
      all-complete plant scans joint sound (legal-sections plant scans joint legal) each;
}

pub incomplete-spot : (plant : Plant) (scans : ℕ) (joint : Joint) (node : ℕ)
    → IsLegalJoint plant scans joint → IsJoint joint
    → IsFirstIncomplete plant scans joint (Some node)
    → IsFirstSpot plant scans joint (Some (spots.Incomplete node))
incomplete-spot plant scans joint node legal tied first =
    record { legal = legal; tied = tied; earlier = first.0; here = first.1 }

-- ---- lists that break off

pub bridge-found : (plant : Plant) (scans : ℕ) (joint : Joint) (left place : ℕ) (spot : Spot)
    → BridgeSpot plant scans joint left (place + 1) → spot ≡ spots.Bridge left (place + 1)
    → IsFirstSpot plant scans joint (Some spot)
bridge-found plant scans joint left place spot here is =
    subst (IsSpot plant scans joint) (sym is) here

pub ring-found : (plant : Plant) (scans : ℕ) (joint : Joint) (network place : ℕ) (spot : Spot)
    → RingSpot plant scans joint network (place + 1) → spot ≡ spots.Ring network (place + 1)
    → IsFirstSpot plant scans joint (Some spot)
ring-found plant scans joint network place spot here is =
    subst (IsSpot plant scans joint) (sym is) here

-- ---- a whole run has no spot

cut : {E : Type 0} (place : ℕ) (entries : List E)
    → entries ≡ take place entries ++ drop place entries
cut place entries = sym (take-append-drop place entries)

pub ring-front : (net : NetPlan) (past front rest : List RingEntry)
    → IsRun net past (front ++ rest) → IsRun net past front
ring-front net past [] rest run = tt
ring-front net past (e ∷ es) rest run = (run.0, ring-front net (past ++ e ∷ []) es rest run.1)

pub host-front : (plan : HostPlan) (front rest : List HostEntry)
    → IsHostHistory plan (front ++ rest) → IsHostHistory plan front
host-front plan front rest h = record {
  order =
      let split : questions_in (front ++ rest) ≡ questions_in front ++ questions_in rest =
      filter_map-append question_by front rest in (
        questions_in rest ++ h.order.0,
        sym
            (append_assoc (questions_in front) (questions_in rest) h.order.0)
            ∙ (ap (λ (l : List Question). l ++ h.order.0) (sym split) ∙ h.order.1),
      );
  each =
      λ before after entry is. h.each before (after ++ rest) entry
      (ap (λ (l : List HostEntry). l ++ rest) is ∙ append_assoc before (entry ∷ after) rest);
}

pub bridge-front : (plan : BridgePlan) (front rest : List BridgeEntry)
    → IsBridgeHistory plan (front ++ rest) → IsBridgeHistory plan front
bridge-front plan front rest h before after entry is =
    h before (after ++ rest) entry
    (ap (λ (l : List BridgeEntry). l ++ rest) is ∙ append_assoc before (entry ∷ after) rest)

pub no-break : {E : Type 0} (Good : List E → Type 0)
    → ((front rest : List E) → Good (front ++ rest) → Good front) → (entries : List E) (place : ℕ)
    → Good entries → BreaksAt Good entries place → ⊥
no-break Good fronts entries place good breaks =
    breaks.here (fronts (take place entries) (drop place entries)
    (subst Good (cut place entries) good))

no-difference : {A : Type 0} (xs ys : List A) (place : ℕ) → xs ≡ ys → DifferAt xs ys place → ⊥
no-difference xs ys place same differ = differ.here (ap (take place) same)

replies-unbroken : (station : Station) (items : Items) (backs : List Item) (ring : List RingEntry)
    (place : ℕ) → KeepsReplies station items backs ring
    → BreaksReplies station items backs ring place → ⊥
replies-unbroken AController items backs ring place keeps breaks =
    no-difference _ _ place keeps breaks
replies-unbroken AHost items backs ring place keeps breaks = no-difference _ _ place keeps breaks
replies-unbroken ABridge items backs ring place keeps breaks =
    no-difference _ _ place (same-backs backs ring keeps) breaks

pub kept-unbroken : (law : Law) (s : Bound) (place : ℕ) → KeepsLaw law s → BreaksLaw law s place
    → ⊥
kept-unbroken Asks s place keeps breaks = no-difference _ _ place keeps breaks
kept-unbroken Answers s place keeps breaks =
    no-difference _ _ place (keeps-joined s.items.answers s.ring keeps.0 keeps.1) breaks
kept-unbroken Replies s place keeps breaks =
    replies-unbroken s.station s.items s.backs s.ring place keeps breaks
kept-unbroken Ends s place keeps breaks = no-difference _ _ place keeps breaks
kept-unbroken Downs s place keeps breaks =
    no-break (AreFounded s.items.fails) (founded-front s.items.fails) (downs_by s.ring) place keeps
    breaks

-- some pair that stands together
pub some-pair : {P L : Type 0} (R : P → L → Type 0) (X : P × L → Type 0) (plans : List P)
    (logs : List L) → length logs ≡ length plans → AllZip R plans logs → Any X (zip plans logs)
    → (of : P × L) × R of.0 of.1 × X of
some-pair {P} {L} R X plans logs size all any =
    let k = any.0 in
    let of = any.1 in
    let n = length-zip plans logs in
    let low = any.2 in
    let at : get_or (zip plans logs) k of
    ≡ (get_or plans k of.0, get_or logs k of.1) = get_or-zip plans logs k of
    (omega (arith, size, n, low)) (omega (arith, size, n, low)) in (
      of,
      subst (λ (x : P × L). R x.0 x.1) (sym at ∙ any.3)
          (zip-at R plans logs all k of.0 of.1 (omega (arith, size, n, low))),
      any.4,
    )

pub complete-at : (plant : Plant) (scans : ℕ) (joint : Joint) (node : ℕ) → HasSections plant joint
    → IsComplete plant scans joint → IsCompleteAt plant scans joint node
complete-at plant scans joint node sections complete = record {
  controllers = λ k d low.
      let size = same-size (λ (p : ControllerPlan). p.node) (λ (g : ControllerLog). g.node)
      plant.controllers joint.controllers sections.controllers in
      let n = length-zip plant.controllers joint.controllers in
      subst (λ (of : ControllerPlan × ControllerLog). of.1.node ≡ node
      → IsCompleteLog plant scans joint.rings of.0 of.1)
      (sym (get_or-zip plant.controllers joint.controllers k d (omega (arith, size, n))
      (omega (arith, size, n))))
      (λ _. zip-at (IsCompleteLog plant scans joint.rings) plant.controllers joint.controllers
      complete.controllers k d.0 d.1 (omega (arith, size, n)));
  hosts = λ k d low.
      let size = same-size (λ (p : HostPlan). p.node) (λ (g : HostLog). g.node) plant.hosts
      joint.hosts sections.hosts in
      let n = length-zip plant.hosts joint.hosts in
      subst (λ (of : HostPlan × HostLog). of.1.node ≡ node
      → IsCompleteHostLog plant joint.rings of.0 of.1)
      (sym (get_or-zip plant.hosts joint.hosts k d (omega (arith, size, n))
      (omega (arith, size, n))))
      (λ _. zip-at (IsCompleteHostLog plant joint.rings) plant.hosts joint.hosts complete.hosts k
      d.0 d.1 (omega (arith, size, n)));
  bridges = λ k d low.
      let size = same-size (λ (p : BridgePlan). p.left) (λ (g : BridgeLog). g.left) plant.bridges
      joint.bridges sections.lefts in
      let n = length-zip plant.bridges joint.bridges in
      let both = zip-at (IsCompleteBridgeLog plant joint.rings) plant.bridges joint.bridges
      complete.bridges k d.0 d.1 (omega (arith, size, n)) in
      subst (λ (of : BridgePlan × BridgeLog).
      AreCompleteEndsAt plant joint.rings node of.1)
      (sym (get_or-zip plant.bridges joint.bridges k d (omega (arith, size, n))
      (omega (arith, size, n))))
      (λ _. both.0, λ _. both.1);
}

no-spot : FrontsAreLegal → (plant : Plant) (scans : ℕ) (joint : Joint)
    → IsWholeRun plant scans joint → (spot : Spot) → IsSpot plant scans joint spot → ⊥
no-spot fronts plant scans joint whole spots.Sections none =
    none (legal-sections plant scans joint whole.legal)
no-spot fronts plant scans joint whole (spots.Controller node entry) spot =
    let sections = legal-sections plant scans joint whole.legal in
    let size = same-size (λ (p : ControllerPlan). p.node) (λ (g : ControllerLog). g.node)
    plant.controllers joint.controllers sections.controllers in
    let pair = some-pair (IsLegalLog plant scans) _ plant.controllers joint.controllers size
    whole.legal.controllers spot.here in
    no-break (IsLegal (fixed_of plant scans pair.0.0)) (fronts (fixed_of plant scans pair.0.0))
    pair.0.1.entries entry pair.1.1 pair.2.1
no-spot fronts plant scans joint whole (spots.Host node entry) spot =
    let sections = legal-sections plant scans joint whole.legal in
    let size = same-size (λ (p : HostPlan). p.node) (λ (g : HostLog). g.node) plant.hosts
    joint.hosts sections.hosts in
    let pair = some-pair IsLegalHostLog _ plant.hosts joint.hosts size whole.legal.hosts
    spot.here in
    no-break (IsHostHistory pair.0.0) (host-front pair.0.0) pair.0.1.entries entry pair.1.1
    pair.2.1
no-spot fronts plant scans joint whole (spots.Bridge left entry) spot =
    let sections = legal-sections plant scans joint whole.legal in
    let size = same-size (λ (p : BridgePlan). p.left) (λ (g : BridgeLog). g.left) plant.bridges
    joint.bridges sections.lefts in
    let pair = some-pair IsLegalBridgeLog _ plant.bridges joint.bridges size whole.legal.bridges
    spot.here in
    no-break (IsBridgeHistory pair.0.0) (bridge-front pair.0.0) pair.0.1.entries entry pair.1.2
    pair.2.1
no-spot fronts plant scans joint whole (spots.Ring network entry) spot =
    let sections = legal-sections plant scans joint whole.legal in
    let size = same-size (λ (p : NetPlan). p.number) (λ (g : RingLog). g.network) plant.nets
    joint.rings sections.rings in
    let pair = some-pair IsLegalRingLog _ plant.nets joint.rings size whole.legal.rings
    spot.here in
    no-break (IsLegalRing pair.0.0) (ring-front pair.0.0 []) pair.0.1.entries entry pair.1.1
    pair.2.1
no-spot fronts plant scans joint whole (spots.Law number node place) spot =
    let any = spot.2.here in
    let s = any.1 in
    kept-unbroken spot.0 s place (subst (KeepsLaw spot.0) any.3
    (joint-keeps joint spot.0 whole.tied any.0 s any.2)) any.4.1
no-spot fronts plant scans joint whole (spots.Incomplete node) spot =
    spot.here (complete-at plant scans joint node (legal-sections plant scans joint whole.legal)
    whole.complete)

-- a verdict is Legal exactly where the run is whole
pub legal-exactly : FrontsAreLegal
    → (plant : Plant) (scans : ℕ) (joint : Joint) (verdict : Verdict)
    → IsVerdict plant scans joint verdict
    → (verdict ≡ Legal → IsWholeRun plant scans joint)
    × (IsWholeRun plant scans joint → verdict ≡ Legal)
legal-exactly fronts plant scans joint Legal whole = (λ _. whole, λ _. refl)
legal-exactly fronts plant scans joint (Illegal spot) is =
    (λ e. absurd cc, λ whole. absurd (no-spot fronts plant scans joint whole spot is))
