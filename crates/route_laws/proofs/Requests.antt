-- The Requests of calls: who took one, and by what route and with what bytes it was posted.
use Rattle.std.proofs.Common.{◌≡◌, ℕ, ◌<◌, ◌≤◌, Bool, true, false, not, cond, List, [], ◌∷◌}
use Rattle.std.proofs.Common.{length, Some, refl, sym, ap, ◌∙◌, subst, inl, inr, ⊎_elim, arith}
use Rattle.std.specs.Prelude.{Contains, if◌then◌else◌, ◌==◌, ◌++◌}
use Rattle.std.specs.List.{AllByRecursion as Each}
use Rattle.std.proofs.lemmas.Bool.{and_parts, cases_lt, eq-eqb, ne_eqb, true≢false}
use Rattle.std.proofs.lemmas.List.Elements.{All-contains}
use Rattle.std.proofs.lemmas.List.Sums.{sum_by-append}
use Rattle.host_port.proofs.Lists.{all_append}
use Rattle.plant_types.specs.declared.net.BridgePlan.{BridgePlan}
use Rattle.plant_types.specs.declared.plan.Plant.{Plant}
use Rattle.plant_types.specs.Plans.{controller_nodes, end_nodes, host_nodes, IsPlant}
use Rattle.mstr_block.specs.declared.call.CallId.{CallId}
use Rattle.ring_core.specs.declared.entry.RingEntry.{RingEntry}
use Rattle.ring_core.specs.declared.entry.RingEntry.TheVariants.{Post, Send, Take, Local, GiveUp}
use Rattle.ring_core.specs.declared.entry.RingEntry.TheVariants.{Pass, Leave, Join}
use Rattle.ring_core.specs.declared.frame.Frame.{Frame}
use Rattle.ring_core.specs.declared.frame.FrameKind.{FrameKind}
use Rattle.ring_core.specs.declared.frame.FrameKind.TheVariants as kinds
use Rattle.ring_core.specs.Statistics.{is_for_stats, is_stats}
use Rattle.ring_core.specs.Words.{frame_route, is_onward, maker}
use Rattle.ring_laws.specs.Once.{posts}
use Rattle.ring_laws.proofs.Law.{only-its-target}
use Rattle.ring_laws.proofs.Lists.{each-contains, only-one}
use Rattle.controller_core.specs.declared.entry.Entry.{Entry}
use Rattle.controller_core.specs.declared.entry.Entry.TheVariants as entries
use Rattle.host_port.specs.declared.entry.HostEntry.{HostEntry}
use Rattle.host_port.specs.declared.entry.HostEntry.TheVariants as host_entries
use Rattle.bridge_relay.specs.Legal.{IsEnd}
use Rattle.tied_lists.specs.Own.{own}
use Rattle.tied_lists.specs.Items.{Answered, ForStats, Items, Plain, RequestItem, Taken, item_of}
use Rattle.tied_lists.specs.Items.{no_items, plain_items, port_answers, stats_items, taken_by}
use Rattle.tied_lists.specs.Items.{taken_in, taken_of}
use Rattle.tied_lists.specs.Tied.{PeersAreTaken, PortIsTaken}
use Rattle.joint_history.specs.declared.joint.BridgeLog.{BridgeLog}
use Rattle.joint_history.specs.declared.joint.ControllerLog.{ControllerLog}
use Rattle.joint_history.specs.declared.joint.HostLog.{HostLog}
use Rattle.joint_history.specs.declared.joint.Joint.{Joint}
use Rattle.joint_history.specs.JointLaws.{IsJoint, IsLegalBridgeLog, IsLegalJoint}
use Rattle.joint_history.specs.JointLaws.{IsTiedController, IsTiedHost}
use Rattle.joint_history.specs.Nets.{noted_on_rings}
use Rattle.joint_history.specs.Reading.{host_item_next, host_items_after, host_items_of, item_next}
use Rattle.joint_history.specs.Reading.{items_after, items_of}
use Rattle.effect_laws.proofs.Entries.{asks-this}
use Rattle.effect_laws.proofs.Served.{controller-nodes, host-nodes, log-of}
use Rattle.effect_laws.proofs.Sources.{behind, first-or-behind, here, in-map, in-none, in-own}
use Rattle.effect_laws.proofs.Sources.{of-map, of-own, in-mapped, of-mapped}
use Rattle.net_laws.proofs.Members.{all_nodes, times}
use Rattle.route_laws.proofs.Places.{on-its-ring, posted-on-rings, ring-of-node}
use Rattle.route_laws.proofs.Posts.{makers-stand}
use Rattle.route_laws.proofs.Sides.{bridge-of}
use Rattle.route_laws.proofs.Traces.{side-tied}

-- ---- a call was asked for

-- the Request of a call was posted, by this route and with these bytes
pub record Requested (ring : List RingEntry) (id : CallId) (route request : List ℕ) : Type 0 where
  pub node : ℕ
  pub frame : Frame
  pub there : Contains ring (Post node frame)
  pub kind : frame.kind ≡ kinds.Request
  pub name : frame.id ≡ id
  pub route_is : frame_route frame ≡ route
  pub request_is : frame.pdu ≡ request

-- the same, by equal names, routes and bytes
pub requested-as : {ring : List RingEntry} {id name : CallId} {route way request bytes : List ℕ}
    → Requested ring id route request → id ≡ name → route ≡ way → request ≡ bytes
    → Requested ring name way bytes
requested-as r named goes asks = record {
  node = r.node;
  frame = r.frame;
  there = r.there;
  kind = r.kind;
  name = r.name ∙ named;
  route_is = r.route_is ∙ goes;
  request_is = r.request_is ∙ asks;
}

-- ---- stations answer what goes no further

abbrev pub IsLast : Answered → Type 0
IsLast a = a.rest ≡ []

last-next : (a : Items) (e : Entry) → Each IsLast a.answers → Each IsLast (item_next a e).answers
last-next a entries.Begin all = all
last-next a (entries.Input row) all = all
last-next a (entries.Solve row) all = all
last-next a (entries.Output row words) all = all
last-next a entries.End all = all
last-next a entries.Fail all = all
last-next a entries.Dark all = all
last-next a (entries.Collect calls) all = all
last-next a (entries.Finish id result) all = all
last-next a (entries.Peer id request reply) all = all_append IsLast a.answers _ all (refl, tt)
last-next a (entries.Off id request) all = all_append IsLast a.answers _ all (refl, tt)

last-from : (a : Items) (h : List Entry) → Each IsLast a.answers
    → Each IsLast (items_after a h).answers
last-from a [] all = all
last-from a (e ∷ h) all = last-from (item_next a e) h (last-next a e all)

pub controller-last : (h : List Entry) → Each IsLast (items_of h).answers
controller-last h = last-from no_items h tt

host-next : (a : Items) (e : HostEntry) → Each IsLast a.answers
    → Each IsLast (host_item_next a e).answers
host-next a (host_entries.Ask id route pdu) all = all
host-next a (host_entries.Answer id result) all = all
host-next a (host_entries.Served id request reply) all =
    all_append IsLast a.answers _ all (refl, tt)

host-from : (a : Items) (h : List HostEntry) → Each IsLast a.answers
    → Each IsLast (host_items_after a h).answers
host-from a [] all = all
host-from a (e ∷ h) all = host-from (host_item_next a e) h (host-next a e all)

pub host-last : (h : List HostEntry) → Each IsLast (host_items_of h).answers
host-last h = host-from no_items h tt

in-plain : (ts : List Taken) (id : CallId) (rest pdu : List ℕ) → Contains ts (Plain id rest pdu)
    → Contains (plain_items ts) (record { id = id; rest = rest; request = Some pdu })
in-plain [] id rest pdu there = absurd (in-none _ there)
in-plain (t ∷ ts) id rest pdu there =
    ⊎_elim
    (λ (same : t ≡ Plain id rest pdu).
    subst (λ (x : Taken). Contains (plain_items (x ∷ ts))
    (record { id = id; rest = rest; request = Some pdu })) (sym same) (here _ (plain_items ts)))
    (λ (more : Contains ts (Plain id rest pdu)). later t (in-plain ts id rest pdu more))
    (first-or-behind t ts (Plain id rest pdu) there)
  where
    later : (x : Taken)
        → Contains (plain_items ts) (record { id = id; rest = rest; request = Some pdu })
        → Contains (plain_items (x ∷ ts)) (record { id = id; rest = rest; request = Some pdu })
    later (Plain name way bytes) more = behind _ (plain_items ts) _ more
    later (ForStats name bytes) more = more

none-rest : (rest : List ℕ) → not (not (length rest == 0)) ≡ true → rest ≡ []
none-rest [] is = refl
none-rest (x ∷ rest) is =
    absurd (true≢false (sym is ∙ ap (λ b. not (not b))
    (ne_eqb (length (x ∷ rest)) 0 (λ e. omega (arith, e)))))

-- a Request for statistics goes no further
stats-last : (f : Frame) → is_for_stats f ≡ true → f.rest ≡ []
stats-last f is = none-rest f.rest (and_parts (not (is_onward f)) (is_stats f.pdu) is).0

-- what a station took goes no further
pub taken-last : (ring : List RingEntry) (n : ℕ) (a : Items) (f : Frame)
    → PeersAreTaken a (own n ring) → Each IsLast a.answers → Contains ring (Take n f)
    → f.kind ≡ kinds.Request → f.rest ≡ []
taken-last ring n a f peers last there kind = at (is_for_stats f) refl
  where
    mine : Contains (own n ring) (Take n f)
    mine = in-own n ring (Take n f) (eq-eqb n n refl) there

    at : (b : Bool) → is_for_stats f ≡ b → f.rest ≡ []
    at true is = stats-last f is
    at false is =
        let t : Taken = Plain f.id f.rest f.pdu in
        let taken : taken_of (Take n f) ≡ Some t =
        ap (λ (k : FrameKind). taken_in k f) kind
        ∙ ap (λ b. Some (if b then ForStats f.id f.pdu else Plain f.id f.rest f.pdu)) is in
        let item : RequestItem = record { id = f.id; rest = f.rest; request = Some f.pdu } in
        let among = in-plain (taken_by (own n ring)) f.id f.rest f.pdu
        (in-map taken_of (own n ring) (Take n f) t taken mine) in
        let found = of-mapped item_of a.answers item
        (subst (λ (l : List RequestItem). Contains l item) (sym peers) among) in
        sym (ap (λ (i : RequestItem). i.rest) found.2)
        ∙ each-contains IsLast a.answers found.0 last found.1

-- ---- what a port answered was asked of it

stats-there : (ts : List Taken) (item : RequestItem) → Contains (stats_items ts) item
    → (pdu : List ℕ) × (item.request ≡ Some pdu) × Contains ts (ForStats item.id pdu)
stats-there [] item there = absurd (in-none _ there)
stats-there (Plain id rest bytes ∷ ts) item there =
    let more = stats-there ts item there in
    (more.0, more.1, behind (Plain id rest bytes) ts _ more.2)
stats-there (ForStats id bytes ∷ ts) item there =
    let this : RequestItem = record { id = id; rest = []; request = Some bytes } in
    ⊎_elim
    (λ (same : this ≡ item). (
      bytes,
      sym (ap (λ (i : RequestItem). i.request) same),
      subst (λ (i : RequestItem). Contains (ForStats id bytes ∷ ts) (ForStats i.id bytes)) same
          (here (ForStats id bytes) ts),
    ))
    (λ (more : Contains (stats_items ts) item).
    let rest = stats-there ts item more in
    (rest.0, rest.1, behind (ForStats id bytes) ts _ rest.2))
    (first-or-behind this (stats_items ts) item there)

-- a Request that was taken, and goes no further
pub record TookLast (x : RingEntry) (id : CallId) (request : List ℕ) : Type 0 where
  pub node : ℕ
  pub frame : Frame
  pub is : x ≡ Take node frame
  pub kind : frame.kind ≡ kinds.Request
  pub name : frame.id ≡ id
  pub rest_is : frame.rest ≡ []
  pub request_is : frame.pdu ≡ request

stats-kind : (n : ℕ) (f : Frame) (kind : FrameKind) → f.kind ≡ kind → (id : CallId)
    (pdu : List ℕ) → taken_in kind f ≡ Some (ForStats id pdu) → TookLast (Take n f) id pdu
stats-kind n f kinds.Reply k id pdu is = absurd cc
stats-kind n f kinds.Request k id pdu is = at (is_for_stats f) refl is
  where
    at : (b : Bool) → is_for_stats f ≡ b
        → Some (if b then ForStats f.id f.pdu else Plain f.id f.rest f.pdu)
        ≡ Some (ForStats id pdu)
        → TookLast (Take n f) id pdu
    at false stats is' = absurd cc
    at true stats is' =
        let name_is : f.id ≡ id = cc in
        let bytes_is : f.pdu ≡ pdu = cc in
        record {
          node = n;
          frame = f;
          is = refl;
          kind = k;
          name = name_is;
          rest_is = stats-last f stats;
          request_is = bytes_is;
        }

took-last : (x : RingEntry) (id : CallId) (pdu : List ℕ) → taken_of x ≡ Some (ForStats id pdu)
    → TookLast x id pdu
took-last (Post n f) id pdu is = absurd cc
took-last (Send n heard) id pdu is = absurd cc
took-last (Take n f) id pdu is = stats-kind n f f.kind refl id pdu is
took-last (Local n name op result) id pdu is = absurd cc
took-last (GiveUp name word) id pdu is = absurd cc
took-last (Pass n done words) id pdu is = absurd cc
took-last (Leave n cause) id pdu is = absurd cc
took-last (Join n) id pdu is = absurd cc

-- what a node's port answered
pub record PortTook (ring : List RingEntry) (n : ℕ) (answer : Answered) : Type 0 where
  pub request : List ℕ
  pub asked : answer.request ≡ Some request
  pub frame : Frame
  pub there : Contains ring (Take n frame)
  pub kind : frame.kind ≡ kinds.Request
  pub name : frame.id ≡ answer.id
  pub rest_is : frame.rest ≡ []
  pub request_is : frame.pdu ≡ request

pub port-took : (ring : List RingEntry) (n : ℕ) (answer : Answered) → PortIsTaken (own n ring)
    → Contains (port_answers (own n ring)) answer → PortTook ring n answer
port-took ring n answer port there =
    let b = own n ring in
    let among = in-mapped item_of (port_answers b) answer there in
    let stats = stats-there (taken_by b) (item_of answer)
    (subst (λ (l : List RequestItem). Contains l (item_of answer)) port among) in
    let found = of-map taken_of b (ForStats answer.id stats.0) stats.2 in
    let t = took-last found.0 answer.id stats.0 found.2 in
    let at = of-own n ring (Take t.node t.frame)
    (subst (λ (e : RingEntry). Contains b e) t.is found.1) in
    record {
      request = stats.0;
      asked = stats.1;
      frame = t.frame;
      there = subst (λ (k : ℕ). Contains ring (Take k t.frame)) at.1 at.0;
      kind = t.kind;
      name = t.name;
      rest_is = t.rest_is;
      request_is = t.request_is;
    }

-- ---- who stands at an address

-- the list of a controller, of a host, or of a bridge, one of whose ends it is
pub data StandsAt (joint : Joint) (n : ℕ) : Type 0 where
  a_controller : (log : ControllerLog) → Contains joint.controllers log → log.node ≡ n
      → StandsAt joint n
  a_host : (log : HostLog) → Contains joint.hosts log → log.node ≡ n → StandsAt joint n
  an_end : (plan : BridgePlan) (log : BridgeLog) → Contains joint.bridges log
      → IsLegalBridgeLog plan log → IsEnd plan n → StandsAt joint n

module _ (plant : Plant) (scans : ℕ) (joint : Joint) (is : IsPlant plant)
    (legal : IsLegalJoint plant scans joint) (tied : IsJoint joint) where
  at-node : (k : ℕ) → 1 ≤ times k (all_nodes plant) → StandsAt joint k
  at-node k some =
      let one = λ (n : ℕ). cond {A = ℕ} (k == n) 1 0 in
      let all = sum_by-append one (controller_nodes plant ++ host_nodes plant) (end_nodes plant) in
      let two = sum_by-append one (controller_nodes plant) (host_nodes plant) in
      ⊎_elim
      (λ (no_controller : times k (controller_nodes plant) < 1).
      ⊎_elim
      (λ (no_host : times k (host_nodes plant) < 1).
      let found = bridge-of k plant.bridges joint.bridges legal.bridges
      (omega (arith, some, all, two, no_controller, no_host)) in
      an_end found.plan found.log found.there found.legal
      (⊎_elim (λ (left : found.log.left ≡ k). inl (sym left ∙ found.legal.0))
      (λ (right : found.log.right ≡ k). inr (sym right ∙ found.legal.1)) found.side))
      (λ (host : 1 ≤ times k (host_nodes plant)).
      let found = log-of (λ (l : HostLog). l.node) k joint.hosts
      (subst (λ (nodes : List ℕ). 1 ≤ times k nodes) (sym (host-nodes plant scans joint legal))
      host) in
      a_host found.0 found.1 found.2)
      (cases_lt (times k (host_nodes plant)) 1))
      (λ (controller : 1 ≤ times k (controller_nodes plant)).
      let found = log-of (λ (l : ControllerLog). l.node) k joint.controllers
      (subst (λ (nodes : List ℕ). 1 ≤ times k nodes)
      (sym (controller-nodes plant scans joint legal)) controller) in
      a_controller found.0 found.1 found.2)
      (cases_lt (times k (controller_nodes plant)) 1)

  -- whoever noted something stands there
  pub noted-by : (n : ℕ) (e : RingEntry) → Contains (noted_on_rings joint) e → maker e ≡ n
      → StandsAt joint n
  noted-by n e there made =
      at-node n (subst (λ (k : ℕ). 1 ≤ times k (all_nodes plant)) made
      (each-contains (λ x. 1 ≤ times (maker x) (all_nodes plant)) (noted_on_rings joint) e
      (makers-stand plant scans joint is legal) there))

  -- its port answered what it took
  pub port-taken : (n : ℕ) → StandsAt joint n → PortIsTaken (own n (noted_on_rings joint))
  port-taken n (a_controller log there node) =
      subst (λ (k : ℕ). PortIsTaken (own k (noted_on_rings joint))) node
      (All-contains (IsTiedController (noted_on_rings joint)) joint.controllers log
      tied.controllers there).port
  port-taken n (a_host log there node) =
      subst (λ (k : ℕ). PortIsTaken (own k (noted_on_rings joint))) node
      (All-contains (IsTiedHost (noted_on_rings joint)) joint.hosts log tied.hosts there).port
  port-taken n (an_end plan log there lawful at) =
      (side-tied plant scans joint is legal tied plan log n lawful there at).port

  -- ---- what was taken was posted

  pub take-requested : (n : ℕ) (f : Frame) → Contains (noted_on_rings joint) (Take n f)
      → f.kind ≡ kinds.Request → Requested (noted_on_rings joint) f.id (n ∷ f.rest) f.pdu
  take-requested n f there kind =
      let r = ring-of-node plant scans joint n (Take n f) is legal there refl in
      let mine = on-its-ring plant (noted_on_rings joint) n (Take n f) r there refl in
      let from = only-its-target r.net r.ring.entries n f r.history (inr mine) kind in
      record {
        node = f.id.node;
        frame = f;
        there = r.among _ from.2;
        kind = kind;
        name = refl;
        route_is = ap (λ (k : ℕ). k ∷ f.rest) from.0;
        request_is = refl;
      }

  -- one Request was posted
  pub same-request : (id : CallId) (route way request bytes : List ℕ)
      → Requested (noted_on_rings joint) id route request
      → Requested (noted_on_rings joint) id way bytes → (route ≡ way) × (request ≡ bytes)
  same-request id route way request bytes one two =
      let frames = post-frame one.node two.node one.frame two.frame
      (only-one (posts id) (noted_on_rings joint) (Post one.node one.frame)
      (Post two.node two.frame) (posted-on-rings plant scans joint is legal id)
      (asks-this id one.frame one.kind one.name) (asks-this id two.frame two.kind two.name)
      one.there two.there) in (
        sym one.route_is ∙ ap frame_route frames ∙ two.route_is,
        sym one.request_is ∙ ap (λ (f : Frame). f.pdu) frames ∙ two.request_is,
      )
    where
      post-frame : (n m : ℕ) (f g : Frame) → Post n f ≡ Post m g → f ≡ g
      post-frame n m f g e = cc
