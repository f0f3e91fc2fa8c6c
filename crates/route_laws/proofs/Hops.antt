-- A call that a bridge sent on: what it asks under either name, and by which route.
use Rattle.std.proofs.Common.{◌≡◌, ℕ, zero, suc, ◌++◌, true, List, [], ◌∷◌, Option, Some, None}
use Rattle.std.proofs.Common.{refl, sym, ap, ◌∙◌, subst, ⊎_elim}
use Rattle.std.specs.Prelude.{Contains, filter, filter_map, flat_map, map, option_map, slice_get}
use Rattle.std.specs.Prelude.{unwrap_or}
use Rattle.std.specs.List.{AllZip}
use Rattle.std.proofs.lemmas.List.Elements.{All-contains, Contains-append_cases, filter_passes}
use Rattle.plant_types.specs.declared.net.BridgePlan.{BridgePlan}
use Rattle.plant_types.specs.declared.plan.Plant.{Plant}
use Rattle.mstr_block.specs.declared.call.CallId.{CallId}
use Rattle.ring_core.specs.declared.entry.RingEntry.{RingEntry}
use Rattle.ring_core.specs.declared.entry.RingEntry.TheVariants.{Take}
use Rattle.ring_laws.proofs.Lists.{same-eq}
use Rattle.bridge_relay.specs.declared.entry.BridgeEntry.{BridgeEntry}
use Rattle.bridge_relay.specs.declared.entry.BridgeEntry.TheVariants.{Accept, Forward, Finish}
use Rattle.bridge_relay.specs.declared.entry.BridgeEntry.TheVariants.{Back, Gone}
use Rattle.bridge_relay.specs.Machine.{far_side}
use Rattle.tied_lists.specs.Own.{own}
use Rattle.tied_lists.specs.Items.{Answered, Asked, Called, Items, OverNet, Plain, RequestItem}
use Rattle.tied_lists.specs.Items.{asked_of, item_of, net_ask, taken_by, taken_of}
use Rattle.tied_lists.specs.Tied.{PeersAreTaken}
use Rattle.joint_history.specs.declared.joint.BridgeLog.{BridgeLog}
use Rattle.joint_history.specs.declared.joint.Joint.{Joint}
use Rattle.joint_history.specs.Bridges.{side_items}
use Rattle.joint_history.specs.JointLaws.{IsJoint, IsLegalBridgeLog, IsLegalJoint}
use Rattle.joint_history.specs.Nets.{noted_on_rings}
use Rattle.effect_laws.proofs.Sources.{behind, first-or-behind, here, in-map, in-none, of-map}
use Rattle.effect_laws.proofs.Sources.{of-own, in-mapped}
use Rattle.plant_types.specs.Plans.{IsPlant}
use Rattle.route_laws.specs.Ways.{SentOn, names_from, sent_of, sent_on_in}
use Rattle.route_laws.proofs.Causes.{plan-of, sent-accepts}
use Rattle.route_laws.proofs.Once.{is_old}
use Rattle.route_laws.proofs.Requests.{Requested, requested-as, same-request, take-requested}
use Rattle.route_laws.proofs.Sides.{accept-answered, accepted_as, forward-called, of-filter}
use Rattle.route_laws.proofs.Sides.{plain-there, take-plain}
use Rattle.effect_laws.proofs.Words.{post-of}
use Rattle.route_laws.proofs.Traces.{entry-end, side-tied}

-- ---- lists

pub partner : {P L : Type 0} (R : P → L → Type 0) (ps : List P) (ls : List L) (l : L)
    → AllZip R ps ls → Contains ls l → (p : P) × R p l
partner R [] [] l zip there = absurd (in-none l there)
partner R [] (x ∷ ls) l zip there = absurd zip
partner R (p ∷ ps) [] l zip there = absurd zip
partner R (p ∷ ps) (x ∷ ls) l zip there =
    ⊎_elim
    (λ (same : x ≡ l). (p, subst (R p) same zip.0))
    (λ (more : Contains ls l). partner R ps ls l zip.1 more)
    (first-or-behind x ls l there)

of-flat : {X Y : Type 0} (parts : X → List Y) (xs : List X) (y : Y)
    → Contains (flat_map parts xs) y → (x : X) × Contains xs x × Contains (parts x) y
of-flat parts [] y there = absurd (in-none y there)
of-flat parts (x ∷ xs) y there =
    ⊎_elim
    (λ (first : Contains (parts x) y). (x, here x xs, first))
    (λ (more : Contains (flat_map parts xs) y).
    let found = of-flat parts xs y more in (found.0, behind x xs found.0 found.1, found.2))
    (Contains-append_cases (parts x) (flat_map parts xs) y there)

-- a call that a bridge sent on stands in its list
record SentBy (x : BridgeEntry) (s : SentOn) : Type 0 where
  side : ℕ
  route : List ℕ
  request : List ℕ
  is : x ≡ Forward side s.old s.id route request

sent-by : (x : BridgeEntry) (s : SentOn) → sent_of x ≡ Some s → SentBy x s
sent-by (Accept side id route request) s is = absurd cc
sent-by (Forward side old id route request) s is =
    let this : SentOn = record { old = old; id = id } in
    let same : this ≡ s = cc in
    record {
      side = side;
      route = route;
      request = request;
      is = ap (λ (x : SentOn). Forward side x.old x.id route request) same;
    }
sent-by (Finish side id result) s is = absurd cc
sent-by (Back side id reply) s is = absurd cc
sent-by (Gone side) s is = absurd cc

-- what is found first is there, and passes
pub first-is : {X : Type 0} (xs : List X) (x : X) → slice_get xs 0 ≡ Some x → Contains xs x
first-is [] x is = absurd cc
first-is (y ∷ ys) x is =
    let same : y ≡ x = cc in subst (λ z. Contains (y ∷ ys) z) same (here y ys)

-- a call, and the name under which it was sent on
pub record Hop (ring : List RingEntry) (old new : CallId) : Type 0 where
  pub to : ℕ
  pub route : List ℕ
  pub request : List ℕ
  pub before : Requested ring old (to ∷ route) request
  pub after : Requested ring new route request

-- what is asked under another name of the call goes by what is left of its route
pub record Reached (ring : List RingEntry) (route request : List ℕ) (name : CallId) : Type 0 where
  pub way : List ℕ
  pub rest : List ℕ
  pub route_is : route ≡ way ++ rest
  pub requested : Requested ring name rest request

module _ (plant : Plant) (scans : ℕ) (joint : Joint) (is : IsPlant plant)
    (legal : IsLegalJoint plant scans joint) (tied : IsJoint joint) where
  -- what a station or an end answered was asked of its node
  pub answered-requested : (n : ℕ) (a : Items) (x : Answered) (request : List ℕ)
      → PeersAreTaken a (own n (noted_on_rings joint)) → Contains a.answers x
      → x.request ≡ Some request
      → Requested (noted_on_rings joint) x.id (n ∷ x.rest) request
  answered-requested n a x request peers there asks =
      let ring = noted_on_rings joint in
      let b = own n ring in
      let item : RequestItem = record { id = x.id; rest = x.rest; request = Some request } in
      let same : item_of x ≡ item =
      λ i. record { id = x.id; rest = x.rest; request = asks i } in
      let among = subst (λ (y : RequestItem). Contains (map item_of a.answers) y) same
      (in-mapped item_of a.answers x there) in
      let plain = plain-there (taken_by b) x.id x.rest request
      (subst (λ (l : List RequestItem). Contains l item) peers among) in
      let found = of-map taken_of b (Plain x.id x.rest request) plain in
      let g = take-plain found.0 x.id x.rest request found.2 in
      let at = of-own n ring (Take g.node g.frame)
      (subst (λ (e : RingEntry). Contains b e) g.is found.1) in
      let r = take-requested plant scans joint is legal tied g.node g.frame at.0 g.kind in
      requested-as r g.name (λ i. at.1 i ∷ g.rest_is i) g.pdu_is

  -- what an end accepted was asked of it
  pub accepted-requested : (plan : BridgePlan) (log : BridgeLog) (side : ℕ) (id : CallId)
      (route request : List ℕ)
      → IsLegalBridgeLog plan log → Contains joint.bridges log
      → Contains log.entries (Accept side id route request)
      → Requested (noted_on_rings joint) id (side ∷ route) request
  accepted-requested plan log side id route request lawful there got =
      let t = side-tied plant scans joint is legal tied plan log side lawful there
      (entry-end plant scans joint is legal tied plan log.entries _ lawful.2 got) in
      answered-requested side (side_items side log.entries) (accepted_as id route request) request
      t.peers (accept-answered log.entries side id route request got) refl

  -- what an end sent on it asked
  pub sent-requested : (plan : BridgePlan) (log : BridgeLog) (side : ℕ) (old new : CallId)
      (route request : List ℕ)
      → IsLegalBridgeLog plan log → Contains joint.bridges log
      → Contains log.entries (Forward side old new route request)
      → Requested (noted_on_rings joint) new route request
  sent-requested plan log side old new route request lawful there sent =
      let ring = noted_on_rings joint in
      let b = own side ring in
      let t = side-tied plant scans joint is legal tied plan log side lawful there
      (entry-end plant scans joint is legal tied plan log.entries _ lawful.2 sent) in
      let c : Called = record { id = new; sort = OverNet route request } in
      let a : Asked = record { id = new; route = route; pdu = request } in
      let called = forward-called log.entries side old new route request sent in
      let asked = in-map net_ask (side_items side log.entries).calls c a refl called in
      let found = of-map asked_of b a (subst (λ (l : List Asked). Contains l a) (sym t.asks) asked)
      in
      let p = post-of found.0 a found.2 in
      record {
        node = p.node;
        frame = p.frame;
        there = subst (λ (e : RingEntry). Contains ring e) p.is
            (of-own side ring found.0 found.1).0;
        kind = p.kind;
        name = p.id;
        route_is = p.route;
        request_is = p.pdu;
      }

  pub hop : (s : SentOn) → Contains (sent_on_in joint) s → Hop (noted_on_rings joint) s.old s.id
  hop s there =
      let found = of-flat (λ (log : BridgeLog). filter_map sent_of log.entries) joint.bridges s
      there in
      let log = found.0 in
      let p = plan-of plant scans joint log is legal found.1 in
      let entry = of-map sent_of log.entries s found.2 in
      let by = sent-by entry.0 s entry.2 in
      let sent = subst (λ (e : BridgeEntry). Contains log.entries e) by.is entry.1 in
      let to = far_side p.plan by.side in
      let got = sent-accepts p.plan log.entries by.side s.old s.id by.route by.request p.sound
      p.legal.2 sent in
      record {
        to = to;
        route = by.route;
        request = by.request;
        before = accepted-requested p.plan log to s.old by.route by.request p.legal found.1 got;
        after = sent-requested p.plan log by.side s.old s.id by.route by.request p.legal found.1
            sent;
      }

  abbrev Reaches : ℕ → CallId → Type 0
  Reaches more id = (route request : List ℕ)
      → Requested (noted_on_rings joint) id route request
      → (name : CallId) → Contains (names_from more (sent_on_in joint) id) name
      → Reached (noted_on_rings joint) route request name

  next-reached : (more : ℕ) → ((id : CallId) → Reaches more id)
      → (id : CallId) (route request : List ℕ)
      → Requested (noted_on_rings joint) id route request
      → (name : CallId) (found : Option SentOn)
      → slice_get (filter (is_old id) (sent_on_in joint)) 0 ≡ found
      → Contains (unwrap_or (option_map (names_from more (sent_on_in joint))
      (option_map (λ (s : SentOn). s.id) found)) []) name
      → Reached (noted_on_rings joint) route request name
  next-reached more later id route request asked name None at there = absurd (in-none name there)
  next-reached more later id route request asked name (Some s) at there =
      let ring = noted_on_rings joint in
      let sent = sent_on_in joint in
      let among = first-is (filter (is_old id) sent) s at in
      let passes = All-contains (λ x. is_old id x ≡ true) (filter (is_old id) sent) s
      (filter_passes (is_old id) sent) among in
      let h = hop s (of-filter (is_old id) sent s among) in
      let before = subst (λ (i : CallId). Requested ring i (h.to ∷ h.route) h.request)
      (same-eq s.old id passes) h.before in
      let same = same-request plant scans joint is legal tied id route (h.to ∷ h.route) request
      h.request asked before in
      let rest = later s.id h.route h.request h.after name there in
      record {
        way = h.to ∷ rest.way;
        rest = rest.rest;
        route_is = same.0 ∙ ap (λ (l : List ℕ). h.to ∷ l) rest.route_is;
        requested = subst (Requested ring name rest.rest) (sym same.1) rest.requested;
      }

  first-reached : (id : CallId) (route request : List ℕ)
      → Requested (noted_on_rings joint) id route request
      → (name : CallId) → id ≡ name → Reached (noted_on_rings joint) route request name
  first-reached id route request asked name same = record {
    way = [];
    rest = route;
    route_is = refl;
    requested = subst (λ (i : CallId). Requested (noted_on_rings joint) i route request) same
        asked;
  }

  -- under each of its names
  pub reached : (more : ℕ) (id : CallId) → Reaches more id
  reached zero id route request asked name there =
      ⊎_elim
      (λ (same : id ≡ name). first-reached id route request asked name same)
      (λ (more : Contains {X = CallId} [] name). absurd (in-none name more))
      (first-or-behind id [] name there)
  reached (suc more) id route request asked name there =
      ⊎_elim
      (λ (same : id ≡ name). first-reached id route request asked name same)
      (next-reached more (reached more) id route request asked name _ refl)
      (first-or-behind id _ name there)
