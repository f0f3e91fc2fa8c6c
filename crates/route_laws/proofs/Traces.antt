-- Where a reply comes from: an effect of its call, or a call under which a bridge sent it on.
use Rattle.std.proofs.Common.{◌≡◌, ◌⊎◌, ℕ, suc, ◌<◌, ◌≤◌, true, cond, not, List, [], ◌∷◌, ◌++◌}
use Rattle.std.proofs.Common.{length, Option, Some, refl, sym, ap, ◌∙◌, subst, inl, inr, ⊎_elim}
use Rattle.std.proofs.Common.{arith}
use Rattle.std.specs.Prelude.{Contains, filter_map, flat_map, ◌==◌}
use Rattle.std.proofs.lemmas.Bool.{cases_Bool, cases_lt, eq-eqb}
use Rattle.std.proofs.lemmas.List.Elements.{All-contains, Contains-append_left}
use Rattle.std.proofs.lemmas.List.Elements.{Contains-append_right}
use Rattle.std.proofs.lemmas.List.Sums.{sum_by-append}
use Rattle.plant_types.specs.declared.net.BridgePlan.{BridgePlan}
use Rattle.plant_types.specs.declared.plan.Plant.{Plant}
use Rattle.plant_types.specs.Plans.{controller_nodes, end_nodes, host_nodes, IsPlant}
use Rattle.mstr_block.specs.declared.call.CallId.{CallId}
use Rattle.mstr_block.specs.Call.{is_same_call}
use Rattle.ring_core.specs.declared.entry.RingEntry.{RingEntry}
use Rattle.ring_core.specs.declared.entry.RingEntry.TheVariants.{Post, Take}
use Rattle.ring_core.specs.declared.frame.Frame.{Frame}
use Rattle.ring_core.specs.declared.frame.FrameKind.{FrameKind}
use Rattle.ring_core.specs.declared.frame.FrameKind.TheVariants as kinds
use Rattle.ring_core.specs.Words.{maker}
use Rattle.ring_laws.proofs.Lists.{each-contains}
use Rattle.bridge_relay.specs.declared.entry.BridgeEntry.{BridgeEntry}
use Rattle.bridge_relay.specs.declared.entry.BridgeEntry.TheVariants.{Accept, Forward}
use Rattle.bridge_relay.specs.declared.entry.RelayResult.TheVariants.{Reply}
use Rattle.bridge_causes.specs.Causes.{BackCause, IsFromCall, OfCall, OfRefusal}
use Rattle.bridge_relay.specs.Machine.{far_side, side_of}
use Rattle.bridge_relay.specs.Legal.{IsBridgeHistory, IsEnd}
use Rattle.bridge_relay.proofs.Parts.{all_steps}
use Rattle.tied_lists.specs.Own.{own}
use Rattle.tied_lists.specs.Items.{ABridge, AController, AHost, Answered, Asked, Called, Came}
use Rattle.tied_lists.specs.Items.{Ended, Item, Lacked, OverNet, Plain, Replied, RequestItem}
use Rattle.tied_lists.specs.Items.{Station, asked_by, asked_of, ended_by, item_of, net_ask}
use Rattle.tied_lists.specs.Items.{outcome_of_reply, outcome_of_word, port_answers, replied_by}
use Rattle.tied_lists.specs.Items.{replied_in, replied_of, taken_by, taken_of}
use Rattle.tied_lists.specs.Tied.{is_port_reply}
use Rattle.joint_history.specs.declared.joint.BridgeLog.{BridgeLog}
use Rattle.joint_history.specs.declared.joint.ControllerLog.{ControllerLog}
use Rattle.joint_history.specs.declared.joint.HostLog.{HostLog}
use Rattle.joint_history.specs.declared.joint.Joint.{Joint}
use Rattle.joint_history.specs.Bridges.{side_items}
use Rattle.joint_history.specs.Effects.{answers_to, effects}
use Rattle.joint_history.specs.JointLaws.{IsJoint, IsLegalBridgeLog, IsLegalJoint, IsTiedBridge}
use Rattle.joint_history.specs.JointLaws.{IsTiedController, IsTiedHost, IsTiedSide}
use Rattle.joint_history.specs.Nets.{noted_on_rings}
use Rattle.joint_history.specs.Reading.{host_items_of, items_of}
use Rattle.effect_laws.specs.Success.{is_exception_reply}
use Rattle.effect_laws.proofs.Entries.{asks-this}
use Rattle.effect_laws.proofs.Found.{part-most}
use Rattle.effect_laws.proofs.Reports.{origin-in, port-effect, port-served, station-served}
use Rattle.effect_laws.proofs.Words.{post-of}
use Rattle.effect_laws.proofs.Served.{controller-nodes, host-nodes, log-of}
use Rattle.effect_laws.proofs.Sources.{EndedBy, by_port, by_reply, by_word, end-at, ended-by}
use Rattle.effect_laws.proofs.Sources.{first-or-behind, in-map, in-none, in-own, of-map, of-own}
use Rattle.effect_laws.proofs.Sources.{in-mapped}
use Rattle.route_laws.specs.Ways.{SentOn, sent_of, sent_on_in}
use Rattle.route_laws.proofs.Causes.{Caused, back-caused, exceptions-are, of-front, plan-of}
use Rattle.net_laws.proofs.Members.{all_nodes, times}
use Rattle.route_laws.proofs.Places.{posted-on-rings, reply-posted, request-posted, size-is}
use Rattle.route_laws.proofs.Places.{size_of}
use Rattle.route_laws.proofs.Posts.{makers-stand}
use Rattle.route_laws.proofs.Sides.{accept-answered, any-counts, back-there, bridge-of}
use Rattle.route_laws.proofs.Sides.{finish-told, forward-called, in-filter, plain-there}
use Rattle.route_laws.proofs.Sides.{take-plain}

-- a node took a Reply to a call, which is no exception
pub record TookPlain (joint : Joint) (id : CallId) : Type 0 where
  pub node : ℕ
  pub frame : Frame
  pub there : Contains (noted_on_rings joint) (Take node frame)
  pub kind : frame.kind ≡ kinds.Reply
  pub same : frame.id ≡ id
  pub plain : is_exception_reply frame.pdu ≡ true → ⊥

-- a call was sent on, on a shorter way, and there such a Reply was taken
pub record Onward (joint : Joint) (id : CallId) : Type 0 where
  pub new : CallId
  pub sent : Contains (sent_on_in joint) (record { old = id; id = new })
  pub shorter : size_of (noted_on_rings joint) new < size_of (noted_on_rings joint) id
  pub took : TookPlain joint new

abbrev pub Traced : Joint → CallId → Type 0
Traced joint id = (1 ≤ effects joint id) ⊎ Onward joint id

pub in-flat : {X Y : Type 0} (parts : X → List Y) (xs : List X) (x : X) (y : Y) → Contains xs x
    → Contains (parts x) y → Contains (flat_map parts xs) y
in-flat parts [] x y there within = absurd (in-none x there)
in-flat parts (z ∷ xs) x y there within =
    ⊎_elim
    (λ (same : z ≡ x). Contains-append_left (parts z) (flat_map parts xs) y
    (subst (λ w. Contains (parts w) y) (sym same) within))
    (λ (more : Contains xs x). Contains-append_right (parts z) (flat_map parts xs) y
    (in-flat parts xs x y more within))
    (first-or-behind z xs x there)

middle : (xs : List RingEntry) (x : RingEntry) (ys : List RingEntry) → Contains (xs ++ x ∷ ys) x
middle xs x ys = Contains-append_right xs (x ∷ ys) x (0, omega arith, refl)

-- ---- ends

-- what ended a call of a node
pub record EndedAt (whole : List RingEntry) (station : Station) (end' : Ended) : Type 0 where
  pub asked : List Asked
  pub entry : RingEntry
  pub there : Contains whole entry
  pub by : EndedBy station asked entry end'

pub ended-at : (whole : List RingEntry) (station : Station) (n : ℕ) (ends : List Ended)
    (end' : Ended)
    → ends ≡ ended_by station [] (own n whole) → Contains ends end'
    → EndedAt whole station end'
ended-at whole station n ends end' tied there =
    let b = own n whole in
    let w = end-at station [] b end' (subst (λ (l : List Ended). Contains l end') tied there) in
    record {
      asked = [] ++ asked_by w.before;
      entry = w.entry;
      there = (of-own n whole w.entry (subst (λ (l : List RingEntry). Contains l w.entry)
          (sym w.is) (middle w.before w.entry w.after))).0;
      by = ended-by station ([] ++ asked_by w.before) w.entry end' w.ended;
    }

-- a host's or a bridge's call that came to a reply
pub took-replied : (joint : Joint) (station : Station) (end' : Ended) (id : CallId) (pdu : List ℕ)
    → ((request : Option (List ℕ)) (reply : List ℕ)
    → outcome_of_reply station request reply ≡ Replied reply)
    → ((word : ℕ) → outcome_of_word station word ≡ Lacked word)
    → EndedAt (noted_on_rings joint) station end' → end'.id ≡ id
    → end'.outcome ≡ Replied pdu → (is_exception_reply pdu ≡ true → ⊥)
    → TookPlain joint id
took-replied joint station end' id pdu replies words at same is plain =
    by at.entry at.there at.by
  where
    pdu-same : (x y : List ℕ) → Replied x ≡ Replied y → x ≡ y
    pdu-same x y e = cc

    by : (e : RingEntry) → Contains (noted_on_rings joint) e → EndedBy station at.asked e end'
        → TookPlain joint id
    by e there (by_reply n f e_is kind named outcome) =
        let bytes = pdu-same f.pdu pdu (sym (replies _ f.pdu) ∙ outcome ∙ is) in
        record {
          node = n;
          frame = f;
          there = subst (λ (x : RingEntry). Contains (noted_on_rings joint) x) e_is there;
          kind = kind;
          same = named ∙ same;
          plain = λ high. plain (subst (λ (l : List ℕ). is_exception_reply l ≡ true) bytes high);
        }
    by e there (by_word word e_is outcome) =
        absurd (let no' : Lacked word ≡ Replied pdu = sym (words word) ∙ outcome ∙ is in cc)
    by e there (by_port n op result e_is mine outcome) =
        absurd (let no' : Came result ≡ Replied pdu = outcome ∙ is in cc)

module _ (plant : Plant) (scans : ℕ) (joint : Joint) (is : IsPlant plant)
    (legal : IsLegalJoint plant scans joint) (tied : IsJoint joint) where
  -- ---- effects

  pub controller-effect : (log : ControllerLog) (f : Frame) → Contains joint.controllers log
      → Contains (noted_on_rings joint) (Post log.node f) → f.kind ≡ kinds.Reply
      → 1 ≤ effects joint f.id
  controller-effect log f log_there posted kind =
      let served = λ (l : ControllerLog). answers_to f.id (items_of l.entries) in
      let o = origin-in (noted_on_rings joint) log.node f AController (items_of log.entries)
      (All-contains (IsTiedController (noted_on_rings joint)) joint.controllers log
      tied.controllers log_there) posted kind in
      ⊎_elim
      (λ (peer : Contains (items_of log.entries).answers o.answer).
      let some = station-served (items_of log.entries) o.answer f.id f.pdu peer o.named o.told in
      let most = part-most served joint.controllers log log_there in
      omega (arith, some, most))
      (λ (port : Contains (port_answers (own log.node (noted_on_rings joint))) o.answer).
      port-served joint log.node o.answer f.id port o.named)
      o.among

  pub host-effect : (log : HostLog) (f : Frame) → Contains joint.hosts log
      → Contains (noted_on_rings joint) (Post log.node f) → f.kind ≡ kinds.Reply
      → 1 ≤ effects joint f.id
  host-effect log f log_there posted kind =
      let served = λ (l : HostLog). answers_to f.id (host_items_of l.entries) in
      let o = origin-in (noted_on_rings joint) log.node f AHost (host_items_of log.entries)
      (All-contains (IsTiedHost (noted_on_rings joint)) joint.hosts log tied.hosts log_there)
      posted kind in
      ⊎_elim
      (λ (peer : Contains (host_items_of log.entries).answers o.answer).
      let some = station-served (host_items_of log.entries) o.answer f.id f.pdu peer o.named o.told
      in
      let most = part-most served joint.hosts log log_there in
      omega (arith, some, most))
      (λ (port : Contains (port_answers (own log.node (noted_on_rings joint))) o.answer).
      port-served joint log.node o.answer f.id port o.named)
      o.among

  -- ---- bridges

  -- either end of a bridge keeps the laws
  pub side-tied : (plan : BridgePlan) (log : BridgeLog) (side : ℕ) → IsLegalBridgeLog plan log
      → Contains joint.bridges log → IsEnd plan side
      → IsTiedSide (noted_on_rings joint) log side
  side-tied plan log side lawful there (inl at) =
      let both = All-contains (IsTiedBridge (noted_on_rings joint)) joint.bridges log tied.bridges
      there in
      subst (IsTiedSide (noted_on_rings joint) log) (lawful.0 ∙ sym at) both.left
  side-tied plan log side lawful there (inr at) =
      let both = All-contains (IsTiedBridge (noted_on_rings joint)) joint.bridges log tied.bridges
      there in
      subst (IsTiedSide (noted_on_rings joint) log) (lawful.1 ∙ sym at) both.right

  pub entry-end : (plan : BridgePlan) (list : List BridgeEntry) (e : BridgeEntry)
      → IsBridgeHistory plan list → Contains list e → IsEnd plan (side_of e)
  entry-end plan list e lawful there =
      each-contains (λ x. IsEnd plan (side_of x)) list e
      (all_steps plan (λ x. IsEnd plan (side_of x)) (λ past x step. step.side.end) [] list lawful)
      there

  -- the Request of a call that was sent on goes by the route that is left
  pub size-sent : (plan : BridgePlan) (log : BridgeLog) (side : ℕ) (old new : CallId)
      (route request : List ℕ)
      → IsLegalBridgeLog plan log → Contains joint.bridges log
      → Contains log.entries (Forward side old new route request)
      → length route ≡ suc (size_of (noted_on_rings joint) new)
  size-sent plan log side old new route request lawful there sent =
      let ring = noted_on_rings joint in
      let b = own side ring in
      let t = side-tied plan log side lawful there (entry-end plan log.entries _ lawful.2 sent) in
      let c : Called = record { id = new; sort = OverNet route request } in
      let a : Asked = record { id = new; route = route; pdu = request } in
      let called = forward-called log.entries side old new route request sent in
      let asked = in-map net_ask (side_items side log.entries).calls c a refl called in
      let found = of-map asked_of b a (subst (λ (l : List Asked). Contains l a) (sym t.asks) asked)
      in
      let p = post-of found.0 a found.2 in
      let posted = subst (λ (e : RingEntry). Contains ring e) p.is
      (of-own side ring found.0 found.1).0 in
      let size = size-is new ring p.node p.frame (posted-on-rings plant scans joint is legal new)
      posted (asks-this new p.frame p.kind p.id) in
      sym (ap length p.route) ∙ ap suc (sym size)

  -- that of one that was accepted goes on by the route that was read
  pub size-accepted : (plan : BridgePlan) (log : BridgeLog) (side : ℕ) (id : CallId)
      (route request : List ℕ)
      → IsLegalBridgeLog plan log → Contains joint.bridges log
      → Contains log.entries (Accept side id route request)
      → size_of (noted_on_rings joint) id ≡ length route
  size-accepted plan log side id route request lawful there got =
      let ring = noted_on_rings joint in
      let b = own side ring in
      let t = side-tied plan log side lawful there (entry-end plan log.entries _ lawful.2 got) in
      let item : RequestItem = record { id = id; rest = route; request = Some request } in
      let among = in-mapped item_of (side_items side log.entries).answers _
      (accept-answered log.entries side id route request got) in
      let plain = plain-there (taken_by b) id route request
      (subst (λ (l : List RequestItem). Contains l item) t.peers among) in
      let found = of-map taken_of b (Plain id route request) plain in
      let g = take-plain found.0 id route request found.2 in
      let taken = subst (λ (e : RingEntry). Contains ring e) g.is
      (of-own side ring found.0 found.1).0 in
      let posted = request-posted plant scans joint is legal g.node g.frame taken g.kind in
      size-is id ring g.frame.id.node g.frame (posted-on-rings plant scans joint is legal id) posted
      (asks-this id g.frame g.kind g.name) ∙ ap length g.rest_is

  -- a reply of the call that was sent on
  gone-on : (plan : BridgePlan) (log : BridgeLog) (side : ℕ) (id : CallId) (pdu : List ℕ)
      → IsLegalBridgeLog plan log → Contains joint.bridges log
      → (is_exception_reply pdu ≡ true → ⊥) → (c : Caused plan log.entries side id pdu)
      → IsFromCall c.before side (far_side plan side) id pdu → Onward joint id
  gone-on plan log side id pdu lawful there plain c on =
      let list = log.entries in
      let across = far_side plan side in
      let got = of-front list c.before _ c.after _ c.is on.accepted in
      let sent = of-front list c.before _ c.after _ c.is on.sent in
      let ended = of-front list c.before _ c.after _ c.is on.ended in
      let before = size-accepted plan log side id on.route on.request lawful there got in
      let after = size-sent plan log across id on.onward on.route on.request lawful there sent in
      let this : SentOn = record { old = id; id = on.onward } in
      let t = side-tied plan log across lawful there (entry-end plan list _ lawful.2 ended) in
      let told = finish-told list across on.onward (Reply pdu) ended in
      record {
        new = on.onward;
        sent = in-flat (λ (l : BridgeLog). filter_map sent_of l.entries) joint.bridges log this
            there (in-map sent_of list _ this refl sent);
        shorter = omega (arith, before, after);
        took = took-replied joint ABridge told.end' on.onward pdu (λ request reply. refl)
            (λ word. refl)
            (ended-at (noted_on_rings joint) ABridge across _ told.end' t.ends told.there)
            told.id_is told.outcome_is plain;
      }

  -- no reply that is no exception is a bridge's own
  back-traced : (plan : BridgePlan) (log : BridgeLog) (side : ℕ) (id : CallId) (pdu : List ℕ)
      → IsLegalBridgeLog plan log → Contains joint.bridges log
      → (is_exception_reply pdu ≡ true → ⊥) → Caused plan log.entries side id pdu
      → Traced joint id
  back-traced plan log side id pdu lawful there plain c = by c.cause
    where
      by : BackCause plan c.before side (far_side plan side) id pdu → Traced joint id
      by (OfCall on) = inr (gone-on plan log side id pdu lawful there plain c on)
      by (OfRefusal no') = absurd (plain
          (ap is_exception_reply no'.reply_is ∙ exceptions-are no'.request no'.code))

  bridge-traced : (plan : BridgePlan) (log : BridgeLog) (side : ℕ) (f : Frame)
      → IsLegalBridgeLog plan log → Contains joint.bridges log → IsEnd plan side
      → Contains (noted_on_rings joint) (Post side f) → f.kind ≡ kinds.Reply
      → (is_exception_reply f.pdu ≡ true → ⊥) → Traced joint f.id
  bridge-traced plan log side f lawful there at posted kind plain =
      let ring = noted_on_rings joint in
      let b = own side ring in
      let t = side-tied plan log side lawful there at in
      let item : Item = (f.id, Some f.pdu) in
      let mine = in-own side ring (Post side f) (eq-eqb side side refl) posted in
      let replied = in-map replied_of b (Post side f) item
      (ap (λ (k : FrameKind). replied_in k f) kind) mine in
      elim (cases_Bool (is_port_reply (port_answers b) item)) [
        | inl port ↦ inl (port-effect joint side f.id
            (any-counts (λ (a : Answered). is_same_call a.id f.id) (port_answers b) port))
        | inr back ↦
            let given = in-filter (λ (i : Item). not (is_port_reply (port_answers b) i))
            (replied_by b) item (ap not back) replied in
            let among = back-there log.entries side f.id f.pdu
            (subst (λ (l : List Item). Contains l item) t.replies.given given) in
            let p = plan-of plant scans joint log is legal there in
            back-traced p.plan log side f.id f.pdu p.legal there plain
            (back-caused p.plan log.entries side f.id f.pdu p.sound p.legal.2 among)
      ]

  -- ---- all nodes

  posted-traced : (k : ℕ) (f : Frame) → 1 ≤ times k (all_nodes plant)
      → Contains (noted_on_rings joint) (Post k f) → f.kind ≡ kinds.Reply
      → (is_exception_reply f.pdu ≡ true → ⊥) → Traced joint f.id
  posted-traced k f some posted kind plain =
      let one = λ (n : ℕ). cond {A = ℕ} (k == n) 1 0 in
      let all = sum_by-append one (controller_nodes plant ++ host_nodes plant) (end_nodes plant) in
      let two = sum_by-append one (controller_nodes plant) (host_nodes plant) in
      let at = λ (n : ℕ) (same : n ≡ k).
      subst (λ (m : ℕ). Contains (noted_on_rings joint) (Post m f)) (sym same) posted in
      ⊎_elim
      (λ (no_controller : times k (controller_nodes plant) < 1).
      ⊎_elim
      (λ (no_host : times k (host_nodes plant) < 1).
      let found = bridge-of k plant.bridges joint.bridges legal.bridges
      (omega (arith, some, all, two, no_controller, no_host)) in
      bridge-traced found.plan found.log k f found.legal found.there
      (⊎_elim (λ (left : found.log.left ≡ k). inl (sym left ∙ found.legal.0))
      (λ (right : found.log.right ≡ k). inr (sym right ∙ found.legal.1)) found.side)
      posted kind plain)
      (λ (host : 1 ≤ times k (host_nodes plant)).
      let found = log-of (λ (l : HostLog). l.node) k joint.hosts
      (subst (λ (nodes : List ℕ). 1 ≤ times k nodes) (sym (host-nodes plant scans joint legal))
      host) in
      inl (host-effect found.0 f found.1 (at found.0.node found.2) kind))
      (cases_lt (times k (host_nodes plant)) 1))
      (λ (controller : 1 ≤ times k (controller_nodes plant)).
      let found = log-of (λ (l : ControllerLog). l.node) k joint.controllers
      (subst (λ (nodes : List ℕ). 1 ≤ times k nodes)
      (sym (controller-nodes plant scans joint legal)) controller) in
      inl (controller-effect found.0 f found.1 (at found.0.node found.2) kind))
      (cases_lt (times k (controller_nodes plant)) 1)

  pub traced : (id : CallId) → TookPlain joint id → Traced joint id
  traced id took =
      let by = reply-posted plant scans joint is legal took.node took.frame took.there took.kind in
      let some = each-contains (λ e. 1 ≤ times (maker e) (all_nodes plant)) (noted_on_rings joint)
      (Post by.0 took.frame) (makers-stand plant scans joint is legal) by.1 in
      subst (Traced joint) took.same
      (posted-traced by.0 took.frame some by.1 took.kind took.plain)
