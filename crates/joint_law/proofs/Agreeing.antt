-- A joint history has one verdict.
use Rattle.std.proofs.Common.{◌≡◌, ◌≢◌, ℕ, ◌-◌, ◌<◌, ◌≤◌, Bool, true, false, List, [], ◌∷◌, ◌++◌}
use Rattle.std.proofs.Common.{length, get_or, map, take, drop, eqb}
use Rattle.std.proofs.Common.{refl, sym, ap, subst, ◌∙◌, ⊎_elim, arith}
use Rattle.std.specs.Prelude.{◌==◌, if◌then◌else◌}
use Rattle.std.specs.List.{All, Any, IsDistinct, flat_map, zip}
use Rattle.std.proofs.Math.ListN.{get_or-map}
use Rattle.std.proofs.lemmas.Bool.{cases_eq, cases_lt, eq-eqb}
use Rattle.std.proofs.lemmas.List.{get_or_default, length-map, map-append, take-append-drop}
use Rattle.std.proofs.lemmas.List.{take-take}
use Rattle.std.proofs.lemmas.Map.Keys.{apart_from_distinct}
use Rattle.plant_types.specs.declared.net.BridgePlan.{BridgePlan}
use Rattle.plant_types.specs.declared.net.HostPlan.{HostPlan}
use Rattle.plant_types.specs.declared.net.NetPlan.{NetPlan}
use Rattle.plant_types.specs.declared.plan.ControllerPlan.{ControllerPlan}
use Rattle.plant_types.specs.declared.plan.Plant.{Plant}
use Rattle.plant_types.specs.Plans.{IsPlant, controller_nodes, end_nodes, host_nodes, net_numbers}
use Rattle.plant_types.proofs.Rising.{rising-distinct}
use Rattle.ring_core.specs.declared.entry.RingEntry.{RingEntry}
use Rattle.ring_core.specs.Legal.{IsLegalRing}
use Rattle.tied_lists.specs.Items.{ABridge, AController, AHost, Item, Items, Station, downs_by}
use Rattle.controller_core.specs.Controller.{IsLegal}
use Rattle.controller_core.specs.Laws.{FrontsAreLegal}
use Rattle.host_port.specs.Legal.{IsHostHistory}
use Rattle.bridge_relay.specs.Legal.{IsBridgeHistory}
use Rattle.joint_history.specs.declared.joint.BridgeLog.{BridgeLog}
use Rattle.joint_history.specs.declared.joint.ControllerLog.{ControllerLog}
use Rattle.joint_history.specs.declared.joint.HostLog.{HostLog}
use Rattle.joint_history.specs.declared.joint.RingLog.{RingLog}
use Rattle.joint_history.specs.declared.joint.Joint.{Joint}
use Rattle.joint_history.specs.Complete.{IsComplete}
use Rattle.joint_history.specs.JointLaws.{IsJoint, IsLegalBridgeLog, IsLegalHostLog, IsLegalLog}
use Rattle.joint_history.specs.JointLaws.{IsLegalRingLog, fixed_of}
use Rattle.joint_history.specs.Nets.{noted_on_rings}
use Rattle.station_laws.specs.Bound.{Bound, BreaksLaw, BreaksReplies, KeepsLaw, bounds_of}
use Rattle.station_laws.specs.Bound.{controller_bound, host_bound, number_of, side_bounds}
use Rattle.station_laws.specs.Differing.{BreaksAt, DifferAt}
use Rattle.station_laws.specs.Failing.{AreFounded}
use Rattle.joint_law.specs.Spots.{AreLegalBridgeLogs, AreLegalHostLogs, AreLegalLogs}
use Rattle.joint_law.specs.Spots.{AreLegalRingLogs, BridgeSpot, ControllerSpot, HasSections}
use Rattle.joint_law.specs.Spots.{HostSpot, IncompleteSpot, IsSpot, IsVerdict, LawSpot, RingSpot}
use Rattle.station_laws.specs.declared.law.Law.{Law}
use Rattle.station_laws.specs.declared.law.Law.TheVariants.{Asks, Answers, Replies, Ends, Downs}
use Rattle.joint_law.specs.declared.verdict.Spot.{Spot}
use Rattle.joint_law.specs.declared.verdict.Spot.TheVariants as spots
use Rattle.joint_law.specs.declared.verdict.Verdict.{Verdict}
use Rattle.joint_law.specs.declared.verdict.Verdict.TheVariants.{Legal, Illegal}
use Rattle.joint_law.proofs.CourseSteps.{same-size}
use Rattle.station_laws.proofs.Founded.{founded-front}
use Rattle.joint_law.proofs.SideBounds.{side-nodes}
use Rattle.joint_law.proofs.Verdicts.{bridge-front, complete-at, host-front, joint-keeps}
use Rattle.joint_law.proofs.Verdicts.{kept-unbroken, legal-sections, no-break, ring-front}
use Rattle.joint_law.proofs.Verdicts.{some-pair}

-- ---- places

differ-less : {A : Type 0} (xs ys : List A) (p q : ℕ) → p < q → DifferAt xs ys p → DifferAt xs ys q
    → ⊥
differ-less xs ys p q less d e =
    d.here (sym (take-take p (q - 1) xs (omega arith))
    ∙ (ap (take p) e.before ∙ take-take p (q - 1) ys (omega arith)))

pub differ-once : {A : Type 0} (xs ys : List A) (p q : ℕ) → DifferAt xs ys p → DifferAt xs ys q
    → p ≡ q
differ-once xs ys p q d e =
    ⊎_elim (λ (same : p ≡ q). same)
    (λ (apart : p ≢ q). absurd (⊎_elim (λ (l : p < q). differ-less xs ys p q l d e)
    (λ (l : q ≤ p). differ-less xs ys q p (omega arith) e d) (cases_lt p q)))
    (cases_eq p q)

break-less : {E : Type 0} (Good : List E → Type 0)
    → ((front rest : List E) → Good (front ++ rest) → Good front) → (entries : List E) (p q : ℕ)
    → p < q → BreaksAt Good entries p → BreaksAt Good entries q → ⊥
break-less Good fronts entries p q less d e =
    d.here (subst Good (take-take p (q - 1) entries (omega arith))
    (fronts (take p (take (q - 1) entries)) (drop p (take (q - 1) entries))
    (subst Good (sym (take-append-drop p (take (q - 1) entries))) e.before)))

break-once : {E : Type 0} (Good : List E → Type 0)
    → ((front rest : List E) → Good (front ++ rest) → Good front) → (entries : List E) (p q : ℕ)
    → BreaksAt Good entries p → BreaksAt Good entries q → p ≡ q
break-once Good fronts entries p q d e =
    ⊎_elim (λ (same : p ≡ q). same)
    (λ (apart : p ≢ q). absurd (⊎_elim (λ (l : p < q). break-less Good fronts entries p q l d e)
    (λ (l : q ≤ p). break-less Good fronts entries q p (omega arith) e d) (cases_lt p q)))
    (cases_eq p q)

replies-once : (station : Station) (items : Items) (backs : List Item) (ring : List RingEntry)
    (p q : ℕ) → BreaksReplies station items backs ring p → BreaksReplies station items backs ring q
    → p ≡ q
replies-once AController items backs ring p q d e = differ-once _ _ p q d e
replies-once AHost items backs ring p q d e = differ-once _ _ p q d e
replies-once ABridge items backs ring p q d e = differ-once _ _ p q d e

law-once : (law : Law) (s : Bound) (p q : ℕ) → BreaksLaw law s p → BreaksLaw law s q → p ≡ q
law-once Asks s p q d e = differ-once _ _ p q d e
law-once Answers s p q d e = differ-once _ _ p q d e
law-once Replies s p q d e = replies-once s.station s.items s.backs s.ring p q d e
law-once Ends s p q d e = differ-once _ _ p q d e
law-once Downs s p q d e =
    break-once (AreFounded s.items.fails) (founded-front s.items.fails) (downs_by s.ring) p q d e

-- ---- addresses

same-place : (xs : List ℕ) → IsDistinct eqb xs → (i j d : ℕ) → i < length xs → j < length xs
    → get_or xs i d ≡ get_or xs j d → i ≡ j
same-place xs distinct i j d low-i low-j same =
    ⊎_elim (λ (e : i ≡ j). e)
    (λ (apart : i ≢ j). absurd (⊎_elim
    (λ (l : i < j). clash (eq-eqb (get_or xs i d) (get_or xs j d) same)
    (apart_from_distinct eqb xs i j d distinct l low-j))
    (λ (l : j ≤ i). clash (eq-eqb (get_or xs j d) (get_or xs i d) (sym same))
    (apart_from_distinct eqb xs j i d distinct (omega arith) low-i))
    (cases_lt i j)))
    (cases_eq i j)
  where
    clash : {b : Bool} → b ≡ true → b ≡ false → ⊥
    clash is no' = let e : true ≡ false = sym is ∙ no' in absurd cc

-- the first of some stations that fails is one, and it fails at one place
unique : {Z : Type 0} (node : Z → ℕ) (zs : List Z) → IsDistinct eqb (map node zs)
    → (Good : Z → Type 0) (Fails : Z → ℕ → Type 0) → ((z : Z) (e : ℕ) → Good z → Fails z e → ⊥)
    → ((z : Z) (e f : ℕ) → Fails z e → Fails z f → e ≡ f) → (n e m f : ℕ)
    → All (λ z. node z < n → Good z) zs → Any (λ z. (node z ≡ n) × Fails z e) zs
    → All (λ z. node z < m → Good z) zs → Any (λ z. (node z ≡ m) × Fails z f) zs
    → (n ≡ m) × (e ≡ f)
unique {Z} node zs distinct Good Fails never once n e m f before a before' b =
    ⊎_elim (λ (same : n ≡ m). (same, at same))
    (λ (apart : n ≢ m). absurd (⊎_elim
    (λ (l : n < m). never a.1 e (good before' a (omega (arith, a.4.0))) a.4.1)
    (λ (l : m ≤ n). never b.1 f (good before b (omega (arith, b.4.0))) b.4.1)
    (cases_lt n m)))
    (cases_eq n m)
  where
    good : {k : ℕ} {X : Z → Type 0} → All (λ z. node z < k → Good z) zs → (x : Any X zs)
        → node x.1 < k → Good x.1
    good {k} before x less = subst (λ (z : Z). node z < k → Good z) x.3 (before x.0 x.1 x.2) less

    at : n ≡ m → e ≡ f
    at same =
        let size = length-map zs node in
        let low-a = a.2 in
        let low-b = b.2 in
        let at-a = get_or-map node zs a.0 a.1 ∙ ap node a.3 in
        let at-b = get_or_default (map node zs) b.0 (node a.1) (node b.1)
        (omega (arith, size, low-b)) ∙ (get_or-map node zs b.0 b.1 ∙ ap node b.3) in
        let place = same-place (map node zs) distinct a.0 b.0 (node a.1)
        (omega (arith, size, low-a)) (omega (arith, size, low-b))
        (at-a ∙ (a.4.0 ∙ (same ∙ (sym b.4.0 ∙ sym at-b)))) in
        let item : a.1 ≡ b.1 = sym a.3
        ∙ (ap (λ (k : ℕ). get_or zs k a.1) place
        ∙ (get_or_default zs b.0 a.1 b.1 low-b ∙ b.3)) in
        once b.1 e f (subst (λ (z : Z). Fails z e) item a.4.1) b.4.1

zip-nodes : {P L : Type 0} (node : L → ℕ) (plans : List P) (logs : List L)
    → length logs ≡ length plans → map (λ (of : P × L). node of.1) (zip plans logs) ≡ map node logs
zip-nodes node [] [] size = refl
zip-nodes node [] (g ∷ gs) size = absurd (omega (arith, size))
zip-nodes node (p ∷ ps) [] size = absurd (omega (arith, size))
zip-nodes node (p ∷ ps) (g ∷ gs) size =
    ap (λ (l : List ℕ). node g ∷ l) (zip-nodes node ps gs (omega (arith, size)))

bound-nodes : (ring : List RingEntry) (logs : List ControllerLog)
    → map (λ (s : Bound). s.node) (map (controller_bound ring) logs)
    ≡ map (λ (g : ControllerLog). g.node) logs
bound-nodes ring [] = refl
bound-nodes ring (g ∷ gs) = ap (λ (l : List ℕ). g.node ∷ l) (bound-nodes ring gs)

host-bound-nodes : (ring : List RingEntry) (logs : List HostLog)
    → map (λ (s : Bound). s.node) (map (host_bound ring) logs) ≡ map (λ (g : HostLog). g.node) logs
host-bound-nodes ring [] = refl
host-bound-nodes ring (g ∷ gs) = ap (λ (l : List ℕ). g.node ∷ l) (host-bound-nodes ring gs)

bounds-distinct : (plant : Plant) (joint : Joint) → IsPlant plant → HasSections plant joint
    → IsDistinct eqb (map (λ (s : Bound). s.node) (bounds_of joint))
bounds-distinct plant joint sound sections =
    let node : Bound → ℕ = λ (s : Bound). s.node in
    let controllers = map (controller_bound (noted_on_rings joint)) joint.controllers in
    let hosts = map (host_bound (noted_on_rings joint)) joint.hosts in
    let nodes : map node (bounds_of joint) ≡ controller_nodes plant ++ host_nodes plant
    ++ end_nodes plant =
    map-append node (controllers ++ hosts)
    (flat_map (side_bounds (noted_on_rings joint)) joint.bridges)
    ∙ (λ i. (map-append node controllers hosts
    ∙ (λ j. (bound-nodes (noted_on_rings joint) joint.controllers ∙ sections.controllers) j
    ++ (host-bound-nodes (noted_on_rings joint) joint.hosts ∙ sections.hosts) j)) i
    ++ side-nodes (noted_on_rings joint) plant.bridges joint.bridges sections.lefts
    sections.rights i) in
    subst (IsDistinct eqb) (sym nodes) sound.once

-- ---- how far a joint history is in order

abbrev level_of : Spot → ℕ
level_of spots.Sections = 1
level_of (spots.Controller node entry) = 2
level_of (spots.Host node entry) = 3
level_of (spots.Bridge left entry) = 4
level_of (spots.Ring network entry) = 5
level_of (spots.Law law node place) = 6
level_of (spots.Incomplete node) = 7

abbrev level : Verdict → ℕ
level Legal = 8
level (Illegal spot) = level_of spot

sections-from : (plant : Plant) (scans : ℕ) (joint : Joint) (v : Verdict)
    → IsVerdict plant scans joint v → 1 < level v → HasSections plant joint
sections-from plant scans joint Legal v more =
    legal-sections plant scans joint v.legal
sections-from plant scans joint (Illegal spots.Sections) v more = absurd (omega arith)
sections-from plant scans joint (Illegal (spots.Controller node entry)) v more = v.sections
sections-from plant scans joint (Illegal (spots.Host node entry)) v more = v.sections
sections-from plant scans joint (Illegal (spots.Bridge left entry)) v more = v.sections
sections-from plant scans joint (Illegal (spots.Ring network entry)) v more = v.sections
sections-from plant scans joint (Illegal (spots.Law law node place)) v more =
    legal-sections plant scans joint v.2.legal
sections-from plant scans joint (Illegal (spots.Incomplete node)) v more =
    legal-sections plant scans joint v.legal

logs-from : (plant : Plant) (scans : ℕ) (joint : Joint) (v : Verdict)
    → IsVerdict plant scans joint v → 2 < level v → AreLegalLogs plant scans joint
logs-from plant scans joint Legal v more = v.legal.controllers
logs-from plant scans joint (Illegal spots.Sections) v more = absurd (omega arith)
logs-from plant scans joint (Illegal (spots.Controller node entry)) v more = absurd (omega arith)
logs-from plant scans joint (Illegal (spots.Host node entry)) v more = v.controllers
logs-from plant scans joint (Illegal (spots.Bridge left entry)) v more = v.controllers
logs-from plant scans joint (Illegal (spots.Ring network entry)) v more = v.controllers
logs-from plant scans joint (Illegal (spots.Law law node place)) v more = v.2.legal.controllers
logs-from plant scans joint (Illegal (spots.Incomplete node)) v more = v.legal.controllers

hosts-from : (plant : Plant) (scans : ℕ) (joint : Joint) (v : Verdict)
    → IsVerdict plant scans joint v → 3 < level v → AreLegalHostLogs plant joint
hosts-from plant scans joint Legal v more = v.legal.hosts
hosts-from plant scans joint (Illegal spots.Sections) v more = absurd (omega arith)
hosts-from plant scans joint (Illegal (spots.Controller node entry)) v more = absurd (omega arith)
hosts-from plant scans joint (Illegal (spots.Host node entry)) v more = absurd (omega arith)
hosts-from plant scans joint (Illegal (spots.Bridge left entry)) v more = v.hosts
hosts-from plant scans joint (Illegal (spots.Ring network entry)) v more = v.hosts
hosts-from plant scans joint (Illegal (spots.Law law node place)) v more = v.2.legal.hosts
hosts-from plant scans joint (Illegal (spots.Incomplete node)) v more = v.legal.hosts

bridges-from : (plant : Plant) (scans : ℕ) (joint : Joint) (v : Verdict)
    → IsVerdict plant scans joint v → 4 < level v → AreLegalBridgeLogs plant joint
bridges-from plant scans joint Legal v more = v.legal.bridges
bridges-from plant scans joint (Illegal spots.Sections) v more = absurd (omega arith)
bridges-from plant scans joint (Illegal (spots.Controller node entry)) v more =
    absurd (omega arith)
bridges-from plant scans joint (Illegal (spots.Host node entry)) v more = absurd (omega arith)
bridges-from plant scans joint (Illegal (spots.Bridge left entry)) v more = absurd (omega arith)
bridges-from plant scans joint (Illegal (spots.Ring network entry)) v more = v.bridges
bridges-from plant scans joint (Illegal (spots.Law law node place)) v more = v.2.legal.bridges
bridges-from plant scans joint (Illegal (spots.Incomplete node)) v more = v.legal.bridges

rings-from : (plant : Plant) (scans : ℕ) (joint : Joint) (v : Verdict)
    → IsVerdict plant scans joint v → 5 < level v → AreLegalRingLogs plant joint
rings-from plant scans joint Legal v more = v.legal.rings
rings-from plant scans joint (Illegal spots.Sections) v more = absurd (omega arith)
rings-from plant scans joint (Illegal (spots.Controller node entry)) v more = absurd (omega arith)
rings-from plant scans joint (Illegal (spots.Host node entry)) v more = absurd (omega arith)
rings-from plant scans joint (Illegal (spots.Bridge left entry)) v more = absurd (omega arith)
rings-from plant scans joint (Illegal (spots.Ring network entry)) v more = absurd (omega arith)
rings-from plant scans joint (Illegal (spots.Law law node place)) v more = v.2.legal.rings
rings-from plant scans joint (Illegal (spots.Incomplete node)) v more = v.legal.rings

joint-from : (plant : Plant) (scans : ℕ) (joint : Joint) (v : Verdict)
    → IsVerdict plant scans joint v → 6 < level v → IsJoint joint
joint-from plant scans joint Legal v more = v.tied
joint-from plant scans joint (Illegal spots.Sections) v more = absurd (omega arith)
joint-from plant scans joint (Illegal (spots.Controller node entry)) v more = absurd (omega arith)
joint-from plant scans joint (Illegal (spots.Host node entry)) v more = absurd (omega arith)
joint-from plant scans joint (Illegal (spots.Bridge left entry)) v more = absurd (omega arith)
joint-from plant scans joint (Illegal (spots.Ring network entry)) v more = absurd (omega arith)
joint-from plant scans joint (Illegal (spots.Law law node place)) v more = absurd (omega arith)
joint-from plant scans joint (Illegal (spots.Incomplete node)) v more = v.tied

complete-from : (plant : Plant) (scans : ℕ) (joint : Joint) (v : Verdict)
    → IsVerdict plant scans joint v → 7 < level v → IsComplete plant scans joint
complete-from plant scans joint Legal v more = v.complete
complete-from plant scans joint (Illegal spots.Sections) v more = absurd (omega arith)
complete-from plant scans joint (Illegal (spots.Controller node entry)) v more =
    absurd (omega arith)
complete-from plant scans joint (Illegal (spots.Host node entry)) v more = absurd (omega arith)
complete-from plant scans joint (Illegal (spots.Bridge left entry)) v more = absurd (omega arith)
complete-from plant scans joint (Illegal (spots.Ring network entry)) v more = absurd (omega arith)
complete-from plant scans joint (Illegal (spots.Law law node place)) v more = absurd (omega arith)
complete-from plant scans joint (Illegal (spots.Incomplete node)) v more = absurd (omega arith)

-- a spot fails what all later verdicts have
later : FrontsAreLegal → (plant : Plant) (scans : ℕ) (joint : Joint) (spot : Spot) (w : Verdict)
    → IsSpot plant scans joint spot → IsVerdict plant scans joint w → level_of spot < level w → ⊥
later fronts plant scans joint spots.Sections w v is less =
    v (sections-from plant scans joint w is less)
later fronts plant scans joint (spots.Controller node entry) w v is less =
    let size = same-size (λ (p : ControllerPlan). p.node) (λ (g : ControllerLog). g.node)
    plant.controllers joint.controllers v.sections.controllers in
    let pair = some-pair (IsLegalLog plant scans) _ plant.controllers joint.controllers size
    (logs-from plant scans joint w is less) v.here in
    no-break (IsLegal (fixed_of plant scans pair.0.0)) (fronts (fixed_of plant scans pair.0.0))
    pair.0.1.entries entry pair.1.1 pair.2.1
later fronts plant scans joint (spots.Host node entry) w v is less =
    let size = same-size (λ (p : HostPlan). p.node) (λ (g : HostLog). g.node) plant.hosts
    joint.hosts v.sections.hosts in
    let pair = some-pair IsLegalHostLog _ plant.hosts joint.hosts size
    (hosts-from plant scans joint w is less) v.here in
    no-break (IsHostHistory pair.0.0) (host-front pair.0.0) pair.0.1.entries entry pair.1.1
    pair.2.1
later fronts plant scans joint (spots.Bridge left entry) w v is less =
    let size = same-size (λ (p : BridgePlan). p.left) (λ (g : BridgeLog). g.left) plant.bridges
    joint.bridges v.sections.lefts in
    let pair = some-pair IsLegalBridgeLog _ plant.bridges joint.bridges size
    (bridges-from plant scans joint w is less) v.here in
    no-break (IsBridgeHistory pair.0.0) (bridge-front pair.0.0) pair.0.1.entries entry pair.1.2
    pair.2.1
later fronts plant scans joint (spots.Ring network entry) w v is less =
    let size = same-size (λ (p : NetPlan). p.number) (λ (g : RingLog). g.network) plant.nets
    joint.rings v.sections.rings in
    let pair = some-pair IsLegalRingLog _ plant.nets joint.rings size
    (rings-from plant scans joint w is less) v.here in
    no-break (IsLegalRing pair.0.0) (ring-front pair.0.0 []) pair.0.1.entries entry pair.1.1
    pair.2.1
later fronts plant scans joint (spots.Law number node place) w v is less =
    let any = v.2.here in
    kept-unbroken v.0 any.1 place
    (subst (KeepsLaw v.0) any.3 (joint-keeps joint v.0 (joint-from plant scans joint w is less)
    any.0 any.1 any.2)) any.4.1
later fronts plant scans joint (spots.Incomplete node) w v is less =
    v.here (complete-at plant scans joint node (legal-sections plant scans joint v.legal)
    (complete-from plant scans joint w is less))

-- ---- spots of one sort

-- the law of a number
abbrev law_of : ℕ → Law
law_of number =
    if number == 1 then Asks
    else if number == 2 then Answers
    else if number == 3 then Replies
    else if number == 4 then Ends
    else Downs

law-again : (law : Law) → law_of (number_of law) ≡ law
law-again Asks = refl
law-again Answers = refl
law-again Replies = refl
law-again Ends = refl
law-again Downs = refl

same-law : (law other : Law) → number_of law ≡ number_of other → law ≡ other
same-law law other e = sym (law-again law) ∙ (ap law_of e ∙ law-again other)

broken-law : (plant : Plant) (scans : ℕ) (joint : Joint) (law other : Law) (n e m f : ℕ)
    → LawSpot plant scans joint law n e → LawSpot plant scans joint other m f
    → number_of law < number_of other → ⊥
broken-law plant scans joint law other n e m f a b less =
    let any = a.here in
    kept-unbroken law any.1 e (subst (KeepsLaw law) any.3 (b.laws law less any.0 any.1 any.2))
    any.4.1

one-law : (plant : Plant) (scans : ℕ) (joint : Joint) (law other : Law) (n e m f : ℕ)
    → LawSpot plant scans joint law n e → LawSpot plant scans joint other m f
    → number_of law ≡ number_of other
one-law plant scans joint law other n e m f a b =
    ⊎_elim (λ (same : number_of law ≡ number_of other). same)
    (λ (apart : number_of law ≢ number_of other). absurd (⊎_elim
    (λ (l : number_of law < number_of other). broken-law plant scans joint law other n e m f a b l)
    (λ (l : number_of other ≤ number_of law). broken-law plant scans joint other law m f n e b a
    (omega arith))
    (cases_lt (number_of law) (number_of other))))
    (cases_eq (number_of law) (number_of other))

law-spots : (plant : Plant) (scans : ℕ) (joint : Joint) (law : Law) (n e m f : ℕ) → IsPlant plant
    → LawSpot plant scans joint law n e → LawSpot plant scans joint law m f → (n ≡ m) × (e ≡ f)
law-spots plant scans joint law n e m f sound a b =
    unique (λ (s : Bound). s.node) (bounds_of joint)
    (bounds-distinct plant joint sound (legal-sections plant scans joint a.legal)) (KeepsLaw law)
    (BreaksLaw law)
    (λ s p. kept-unbroken law s p) (λ s p q. law-once law s p q) n e m f a.earlier a.here b.earlier
    b.here

controller-spots : FrontsAreLegal → (plant : Plant) (scans : ℕ) (joint : Joint) (n e m f : ℕ)
    → IsPlant plant → ControllerSpot plant scans joint n e → ControllerSpot plant scans joint m f
    → (n ≡ m) × (e ≡ f)
controller-spots fronts plant scans joint n e m f sound a b =
    let size = same-size (λ (p : ControllerPlan). p.node) (λ (g : ControllerLog). g.node)
    plant.controllers joint.controllers a.sections.controllers in
    let nodes = zip-nodes (λ (g : ControllerLog). g.node) plant.controllers joint.controllers size
    ∙ a.sections.controllers in
    unique (λ (of : ControllerPlan × ControllerLog). of.1.node)
    (zip plant.controllers joint.controllers)
    (subst (IsDistinct eqb) (sym nodes)
    (rising-distinct (controller_nodes plant) sound.controllers_rise))
    (λ of. IsLegal (fixed_of plant scans of.0) of.1.entries)
    (λ of p. BreaksAt (IsLegal (fixed_of plant scans of.0)) of.1.entries p)
    (λ of p. no-break (IsLegal (fixed_of plant scans of.0)) (fronts (fixed_of plant scans of.0))
    of.1.entries p)
    (λ of p q. break-once (IsLegal (fixed_of plant scans of.0))
    (fronts (fixed_of plant scans of.0)) of.1.entries p q) n e m f a.earlier a.here b.earlier
    b.here

host-spots : (plant : Plant) (scans : ℕ) (joint : Joint) (n e m f : ℕ) → IsPlant plant
    → HostSpot plant scans joint n e → HostSpot plant scans joint m f → (n ≡ m) × (e ≡ f)
host-spots plant scans joint n e m f sound a b =
    let size = same-size (λ (p : HostPlan). p.node) (λ (g : HostLog). g.node) plant.hosts
    joint.hosts a.sections.hosts in
    let nodes = zip-nodes (λ (g : HostLog). g.node) plant.hosts joint.hosts size
    ∙ a.sections.hosts in
    unique (λ (of : HostPlan × HostLog). of.1.node) (zip plant.hosts joint.hosts)
    (subst (IsDistinct eqb) (sym nodes) (rising-distinct (host_nodes plant) sound.hosts_rise))
    (λ of. IsHostHistory of.0 of.1.entries) (λ of p. BreaksAt (IsHostHistory of.0) of.1.entries p)
    (λ of p. no-break (IsHostHistory of.0) (host-front of.0) of.1.entries p)
    (λ of p q. break-once (IsHostHistory of.0) (host-front of.0) of.1.entries p q) n e m f
    a.earlier a.here b.earlier b.here

bridge-spots : (plant : Plant) (scans : ℕ) (joint : Joint) (n e m f : ℕ) → IsPlant plant
    → BridgeSpot plant scans joint n e → BridgeSpot plant scans joint m f → (n ≡ m) × (e ≡ f)
bridge-spots plant scans joint n e m f sound a b =
    let size = same-size (λ (p : BridgePlan). p.left) (λ (g : BridgeLog). g.left) plant.bridges
    joint.bridges a.sections.lefts in
    let nodes = zip-nodes (λ (g : BridgeLog). g.left) plant.bridges joint.bridges size
    ∙ a.sections.lefts in
    unique (λ (of : BridgePlan × BridgeLog). of.1.left) (zip plant.bridges joint.bridges)
    (subst (IsDistinct eqb) (sym nodes)
    (rising-distinct (map (λ (p : BridgePlan). p.left) plant.bridges) sound.bridges_rise))
    (λ of. IsBridgeHistory of.0 of.1.entries)
    (λ of p. BreaksAt (IsBridgeHistory of.0) of.1.entries p)
    (λ of p. no-break (IsBridgeHistory of.0) (bridge-front of.0) of.1.entries p)
    (λ of p q. break-once (IsBridgeHistory of.0) (bridge-front of.0) of.1.entries p q) n e m f
    a.earlier a.here b.earlier b.here

ring-spots : (plant : Plant) (scans : ℕ) (joint : Joint) (n e m f : ℕ) → IsPlant plant
    → RingSpot plant scans joint n e → RingSpot plant scans joint m f → (n ≡ m) × (e ≡ f)
ring-spots plant scans joint n e m f sound a b =
    let size = same-size (λ (p : NetPlan). p.number) (λ (g : RingLog). g.network) plant.nets
    joint.rings a.sections.rings in
    let nodes = zip-nodes (λ (g : RingLog). g.network) plant.nets joint.rings size
    ∙ a.sections.rings in
    unique (λ (of : NetPlan × RingLog). of.1.network) (zip plant.nets joint.rings)
    (subst (IsDistinct eqb) (sym nodes) (rising-distinct (net_numbers plant) sound.nets_rise))
    (λ of. IsLegalRing of.0 of.1.entries) (λ of p. BreaksAt (IsLegalRing of.0) of.1.entries p)
    (λ of p. no-break (IsLegalRing of.0) (ring-front of.0 []) of.1.entries p)
    (λ of p q. break-once (IsLegalRing of.0) (ring-front of.0 []) of.1.entries p q) n e m f
    a.earlier a.here b.earlier b.here

incomplete-spots : (plant : Plant) (scans : ℕ) (joint : Joint) (n m : ℕ)
    → IncompleteSpot plant scans joint n → IncompleteSpot plant scans joint m → n ≡ m
incomplete-spots plant scans joint n m a b =
    ⊎_elim (λ (same : n ≡ m). same)
    (λ (apart : n ≢ m). absurd (⊎_elim (λ (l : n < m). a.here (b.earlier n l))
    (λ (l : m ≤ n). b.here (a.earlier m (omega arith))) (cases_lt n m)))
    (cases_eq n m)

same-level : FrontsAreLegal → (plant : Plant) (scans : ℕ) (joint : Joint) (one other : Spot)
    → IsPlant plant → IsSpot plant scans joint one → IsSpot plant scans joint other
    → level_of one ≡ level_of other → one ≡ other
same-level fronts plant scans joint spots.Sections spots.Sections sound a b e = refl
same-level fronts plant scans joint (spots.Controller n p) (spots.Controller m q) sound a b e =
    let s = controller-spots fronts plant scans joint n p m q sound a b in
    λ i. spots.Controller (s.0 i) (s.1 i)
same-level fronts plant scans joint (spots.Host n p) (spots.Host m q) sound a b e =
    let s = host-spots plant scans joint n p m q sound a b in λ i. spots.Host (s.0 i) (s.1 i)
same-level fronts plant scans joint (spots.Bridge n p) (spots.Bridge m q) sound a b e =
    let s = bridge-spots plant scans joint n p m q sound a b in λ i. spots.Bridge (s.0 i) (s.1 i)
same-level fronts plant scans joint (spots.Ring n p) (spots.Ring m q) sound a b e =
    let s = ring-spots plant scans joint n p m q sound a b in λ i. spots.Ring (s.0 i) (s.1 i)
same-level fronts plant scans joint (spots.Law x n p) (spots.Law y m q) sound a b e =
    let number = one-law plant scans joint a.0 b.0 n p m q a.2 b.2 in
    let s = law-spots plant scans joint a.0 n p m q sound a.2
    (subst (λ (l : Law). LawSpot plant scans joint l m q) (sym (same-law a.0 b.0 number))
    b.2) in
    λ i. spots.Law ((sym a.1 ∙ (number ∙ b.1)) i) (s.0 i) (s.1 i)
same-level fronts plant scans joint (spots.Incomplete n) (spots.Incomplete m) sound a b e =
    ap spots.Incomplete (incomplete-spots plant scans joint n m a b)
same-level fronts plant scans joint one other sound a b e = absurd (omega arith)

low-level : (s : Spot) → level_of s < 8
low-level spots.Sections = omega arith
low-level (spots.Controller node entry) = omega arith
low-level (spots.Host node entry) = omega arith
low-level (spots.Bridge left entry) = omega arith
low-level (spots.Ring network entry) = omega arith
low-level (spots.Law law node place) = omega arith
low-level (spots.Incomplete node) = omega arith

pub agree : FrontsAreLegal → (plant : Plant) (scans : ℕ) (joint : Joint) (one other : Verdict)
    → IsPlant plant → IsVerdict plant scans joint one → IsVerdict plant scans joint other
    → one ≡ other
agree fronts plant scans joint Legal Legal sound a b = refl
agree fronts plant scans joint Legal (Illegal spot) sound a b =
    absurd (later fronts plant scans joint spot Legal b a (low-level spot))
agree fronts plant scans joint (Illegal spot) Legal sound a b =
    absurd (later fronts plant scans joint spot Legal a b (low-level spot))
agree fronts plant scans joint (Illegal one) (Illegal other) sound a b =
    ⊎_elim (λ (same : level_of one ≡ level_of other). ap Illegal
    (same-level fronts plant scans joint one other sound a b same))
    (λ (apart : level_of one ≢ level_of other). absurd (⊎_elim
    (λ (l : level_of one < level_of other). later fronts plant scans joint one (Illegal other) a b
    l)
    (λ (l : level_of other ≤ level_of one). later fronts plant scans joint other (Illegal one) b a
    (omega arith))
    (cases_lt (level_of one) (level_of other))))
    (cases_eq (level_of one) (level_of other))
