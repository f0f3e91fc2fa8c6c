-- Effects stand at the end of the route of their call.
use Rattle.std.proofs.Common.{◌≡◌, ◌≢◌, ℕ, zero, suc, ◌≤◌, ◌++◌, Bool, true, List, [], ◌∷◌, length}
use Rattle.std.proofs.Common.{Option, Some, None, map, refl, sym, ap, get_or, ◌∙◌, subst, inl, inr}
use Rattle.std.proofs.Common.{⊎_elim, arith}
use Rattle.std.specs.Prelude.{Contains, filter, if◌then◌else◌, option_map, slice_get, unwrap_or}
use Rattle.std.specs.Prelude.{◌==◌}
use Rattle.std.specs.Option.{option_map as map_option}
use Rattle.std.specs.List.{AllByRecursion as Each, cons_option, count_by, filter_map}
use Rattle.std.proofs.lemmas.Bool.{and_from, cases_eq, eq-eqb, eqb-true, ne_eqb}
use Rattle.std.proofs.lemmas.List.Elements.{All-contains, Contains-append_left}
use Rattle.std.proofs.lemmas.List.Elements.{Contains-append_right, Contains-push, filter_passes}
use Rattle.host_port.proofs.Lists.{all_append}
use Rattle.plant_types.specs.declared.plan.Plant.{Plant}
use Rattle.mstr_block.specs.Call.{is_same_call}
use Rattle.mstr_block.specs.Running.{IsRunning, IsStateOf}
use Rattle.mstr_block.specs.Table.{untaken}
use Rattle.mstr_block.specs.declared.call.CallId.{CallId}
use Rattle.mstr_block.specs.declared.call.MstrAsk.{MstrAsk}
use Rattle.mstr_block.specs.declared.call.MstrCall.{MstrCall}
use Rattle.mstr_block.specs.declared.call.MstrResult.{MstrResult}
use Rattle.mstr_block.specs.declared.state.BlockState.{BlockState}
use Rattle.mstr_block.specs.declared.state.BlockState.TheVariants.{Idle, Waiting, Active, Aborted}
use Rattle.mstr_block.specs.declared.state.BlockState.TheVariants.{Ready}
use Rattle.mstr_block.specs.declared.state.Running.{Running}
use Rattle.ring_core.specs.declared.entry.LocalOp.{LocalOp}
use Rattle.ring_core.specs.declared.entry.RingEntry.{RingEntry}
use Rattle.ring_core.specs.declared.entry.RingEntry.TheVariants.{Post, Take, Local}
use Rattle.ring_core.specs.Words.{frame_route, maker}
use Rattle.ring_laws.specs.Once.{posts, takes}
use Rattle.ring_laws.proofs.Lists.{contains-count, count-contains, each-contains, only-one}
use Rattle.ring_laws.proofs.Lists.{same-eq, same-refl}
use Rattle.controller_core.specs.declared.call.Call.{Call}
use Rattle.controller_core.specs.declared.entry.Entry.{Entry}
use Rattle.controller_core.specs.declared.entry.Entry.TheVariants as entries
use Rattle.controller_core.specs.declared.fixed.Fixed.{Fixed}
use Rattle.controller_core.specs.Calls.{call_of}
use Rattle.controller_core.specs.Controller.{Fits, IsLegal}
use Rattle.controller_core.specs.Replay.{replay, table_of}
use Rattle.host_port.specs.declared.entry.HostEntry.{HostEntry}
use Rattle.host_port.specs.declared.entry.HostEntry.TheVariants as host_entries
use Rattle.tied_lists.specs.Own.{own}
use Rattle.tied_lists.specs.Items.{AController, AHost, Answered, Asked, AtHome, CallSort, Called}
use Rattle.tied_lists.specs.Items.{Items, OverNet, Station, answered_of, asked_in, asked_of}
use Rattle.tied_lists.specs.Items.{net_ask, no_items, reply_of, request_of}
use Rattle.tied_lists.specs.Tied.{AsksAreCalls, Tied}
use Rattle.joint_history.specs.declared.joint.Joint.{Joint}
use Rattle.joint_history.specs.Effects.{answers_to, effects}
use Rattle.joint_history.specs.JointLaws.{IsJoint, IsLegalJoint, IsLegalLog, IsTiedController}
use Rattle.joint_history.specs.JointLaws.{IsTiedHost, fixed_of}
use Rattle.joint_history.specs.Nets.{noted_on_rings}
use Rattle.joint_history.specs.Reading.{called_of, host_item_next, host_items_after, host_items_of}
use Rattle.joint_history.specs.Reading.{item_next, items_after, items_of, sort_of}
use Rattle.joint_history.proofs.Collected.{CallLaws, history-follows}
use Rattle.effect_laws.specs.Places.{TakesEffectAt}
use Rattle.effect_laws.proofs.Calls.{by-entries, call-facts, is_called}
use Rattle.effect_laws.proofs.Homes.{acts_at_home}
use Rattle.effect_laws.proofs.Entries.{asks-this, taken-as}
use Rattle.effect_laws.proofs.Served.{answers_are_taken}
use Rattle.effect_laws.proofs.Sources.{first-or-behind, in-map, in-none, in-own, of-map, of-own}
use Rattle.effect_laws.proofs.Sources.{in-mapped}
use Rattle.route_laws.specs.Ends.{AsksBy, AsksOwnPort, EndsAt}
use Rattle.route_laws.specs.Laws.{AllEffectsAreAtTheirEnd, SuccessIsOneEffectOnWay}
use Rattle.plant_types.specs.Plans.{IsPlant}
use Rattle.route_laws.specs.Ways.{SentOn, names_from, names_on_way, sent_on_in}
use Rattle.effect_laws.proofs.Found.{found-effect, part-of}
use Rattle.route_laws.proofs.Homes.{node-alone}
use Rattle.route_laws.proofs.Hops.{first-is, hop, partner, reached}
use Rattle.net_laws.proofs.Members.{all_nodes, times}
use Rattle.route_laws.proofs.Made.{IsMadeAs, home-was-made, requested-made}
use Rattle.route_laws.proofs.Once.{is_old}
use Rattle.route_laws.proofs.Requests.{IsLast, Requested, controller-last, host-last, noted-by}
use Rattle.route_laws.proofs.Requests.{port-taken, port-took, same-request, take-requested}
use Rattle.route_laws.proofs.Requests.{requested-as, taken-last}
use Rattle.route_laws.proofs.Posts.{makers-stand, posts-own}
use Rattle.effect_laws.proofs.Words.{post-of}
use Rattle.route_laws.proofs.Sides.{of-filter}

-- ---- calls of a list

calls-grow : (a : Items) (e : Entry) (c : Called) → Contains a.calls c
    → Contains (item_next a e).calls c
calls-grow a entries.Begin c there = there
calls-grow a (entries.Input row) c there = there
calls-grow a (entries.Solve row) c there = there
calls-grow a (entries.Output row words) c there = there
calls-grow a entries.End c there = there
calls-grow a entries.Fail c there = there
calls-grow a entries.Dark c there = there
calls-grow a (entries.Collect calls) c there = Contains-append_left a.calls _ c there
calls-grow a (entries.Peer id request reply) c there = there
calls-grow a (entries.Off id request) c there = there
calls-grow a (entries.Finish id result) c there = there

calls-stay : (a : Items) (h : List Entry) (c : Called) → Contains a.calls c
    → Contains (items_after a h).calls c
calls-stay a [] c there = there
calls-stay a (e ∷ h) c there = calls-stay (item_next a e) h c (calls-grow a e c there)

pub collect-told : (a : Items) (h : List Entry) (calls : List Call) (call : Call)
    → Contains h (entries.Collect calls) → Contains calls call
    → Contains (items_after a h).calls (called_of call)
collect-told a [] calls call there among = absurd (in-none _ there)
collect-told a (e ∷ h) calls call there among =
    ⊎_elim
    (λ (is : e ≡ entries.Collect calls).
    subst (λ (x : Entry). Contains (items_after (item_next a x) h).calls (called_of call)) (sym is)
    (calls-stay (item_next a (entries.Collect calls)) h (called_of call)
    (Contains-append_right a.calls (map called_of calls) (called_of call)
    (in-mapped called_of calls call among))))
    (λ (more : Contains h (entries.Collect calls)).
    collect-told (item_next a e) h calls call more among)
    (first-or-behind e h _ there)

host-calls-grow : (a : Items) (e : HostEntry) (c : Called) → Contains a.calls c
    → Contains (host_item_next a e).calls c
host-calls-grow a (host_entries.Ask id route pdu) c there = Contains-append_left a.calls _ c there
host-calls-grow a (host_entries.Answer id result) c there = there
host-calls-grow a (host_entries.Served id request reply) c there = there

host-calls-stay : (a : Items) (h : List HostEntry) (c : Called) → Contains a.calls c
    → Contains (host_items_after a h).calls c
host-calls-stay a [] c there = there
host-calls-stay a (e ∷ h) c there =
    host-calls-stay (host_item_next a e) h c (host-calls-grow a e c there)

ask-told : (a : Items) (h : List HostEntry) (id : CallId) (route request : List ℕ)
    → Contains h (host_entries.Ask id route request)
    → Contains (host_items_after a h).calls (record { id = id; sort = OverNet route request })
ask-told a [] id route request there = absurd (in-none _ there)
ask-told a (e ∷ h) id route request there =
    let c : Called = record { id = id; sort = OverNet route request } in
    ⊎_elim
    (λ (is : e ≡ host_entries.Ask id route request).
    subst (λ (x : HostEntry). Contains (host_items_after (host_item_next a x) h).calls c) (sym is)
    (host-calls-stay (host_item_next a (host_entries.Ask id route request)) h c
    (Contains-push a.calls c)))
    (λ (more : Contains h (host_entries.Ask id route request)).
    ask-told (host_item_next a e) h id route request more)
    (first-or-behind e h _ there)

-- ---- calls are named by their controller's own address

abbrev pub IsOwn : ℕ → Called → Type 0
IsOwn n c = c.id.node ≡ n

running-own : (routed : Bool) (n : ℕ) (numbers : List ℕ) (r : Running) (call : MstrCall)
    (o : Option MstrAsk) → IsRunning routed n numbers r
    → map_option (λ ask. record { id = r.id; ask = ask }) o ≡ Some call → call.id.node ≡ n
running-own routed n numbers r call None is e = absurd cc
running-own routed n numbers r call (Some ask) is e =
    let this : MstrCall = record { id = r.id; ask = ask } in
    let same : this ≡ call = cc in
    sym (ap (λ (c : MstrCall). c.id.node) same) ∙ is.named.node

untaken-own : (routed : Bool) (n : ℕ) (numbers : List ℕ) (b : BlockState) (call : MstrCall)
    → IsStateOf routed n numbers b → untaken b ≡ Some call → call.id.node ≡ n
untaken-own routed n numbers Idle call is e = absurd cc
untaken-own routed n numbers Waiting call is e = absurd cc
untaken-own routed n numbers (Active r) call is e =
    running-own routed n numbers r call r.ask is e
untaken-own routed n numbers (Aborted r) call is e =
    running-own routed n numbers r call r.ask is e
untaken-own routed n numbers (Ready kept result) call is e = absurd cc

blocks-own : (routed : Bool) (n : ℕ) (numbers : List ℕ) (bs : List BlockState)
    → ((place : ℕ) → IsStateOf routed n numbers (get_or bs place Idle))
    → Each (IsOwn n) (map called_of (map call_of (filter_map untaken bs)))
blocks-own routed n numbers [] states = tt
blocks-own routed n numbers (b ∷ bs) states =
    at (untaken b) refl (blocks-own routed n numbers bs (λ place. states (suc place)))
  where
    at : (o : Option MstrCall) → untaken b ≡ o
        → Each (IsOwn n) (map called_of (map call_of (filter_map untaken bs)))
        → Each (IsOwn n) (map called_of (map call_of (cons_option o (filter_map untaken bs))))
    at None is rest = rest
    at (Some call) is rest = (untaken-own routed n numbers b call (states 0) is, rest)

own-next : CallLaws → (fixed : Fixed) (h : List Entry) (e : Entry) → IsLegal fixed h
    → Fits fixed (replay fixed h) e → Each (IsOwn fixed.plan.node) (items_of h).calls
    → Each (IsOwn fixed.plan.node) (item_next (items_of h) e).calls
own-next laws fixed h entries.Begin legal fits all = all
own-next laws fixed h (entries.Input row) legal fits all = all
own-next laws fixed h (entries.Solve row) legal fits all = all
own-next laws fixed h (entries.Output row words) legal fits all = all
own-next laws fixed h entries.End legal fits all = all
own-next laws fixed h entries.Fail legal fits all = all
own-next laws fixed h entries.Dark legal fits all = all
own-next laws fixed h (entries.Peer id request reply) legal fits all = all
own-next laws fixed h (entries.Off id request) legal fits all = all
own-next laws fixed h (entries.Finish id result) legal fits all = all
own-next laws fixed h (entries.Collect calls) legal fits all =
    let T = table_of (replay fixed h) in
    let follows = history-follows laws fixed h legal in
    all_append (IsOwn fixed.plan.node) (items_of h).calls (map called_of calls) all
    (subst (λ (l : List Call). Each (IsOwn fixed.plan.node) (map called_of l)) (sym fits.1)
    (subst (λ (n : ℕ). Each (IsOwn n) (map called_of (map call_of (filter_map untaken T.blocks))))
    follows.node
    (blocks-own T.routed T.node T.numbers T.blocks follows.table.states)))

pub calls-own : CallLaws → (fixed : Fixed) (h : List Entry) → IsLegal fixed h
    → Each (IsOwn fixed.plan.node) (items_of h).calls
calls-own laws fixed h legal =
    by-entries fixed (λ a. Each (IsOwn fixed.plan.node) a.calls) tt (own-next laws fixed) h legal

-- ---- what a call asks

module _ (laws : CallLaws) (plant : Plant) (scans : ℕ) (joint : Joint) (is : IsPlant plant)
    (legal : IsLegalJoint plant scans joint) (tied : IsJoint joint) where
  pub called-requested : (n : ℕ) (a : Items) (id : CallId) (route request : List ℕ)
      → AsksAreCalls a (own n (noted_on_rings joint))
      → Contains a.calls (record { id = id; sort = OverNet route request })
      → Requested (noted_on_rings joint) id route request
  called-requested n a id route request asks there =
      let ring = noted_on_rings joint in
      let c : Called = record { id = id; sort = OverNet route request } in
      let this : Asked = record { id = id; route = route; pdu = request } in
      let asked = in-map net_ask a.calls c this refl there in
      let found = of-map asked_of (own n ring) this
      (subst (λ (l : List Asked). Contains l this) (sym asks) asked) in
      let p = post-of found.0 this found.2 in
      record {
        node = p.node;
        frame = p.frame;
        there = subst (λ (e : RingEntry). Contains ring e) p.is (of-own n ring found.0 found.1).0;
        kind = p.kind;
        name = p.id;
        route_is = p.route;
        request_is = p.pdu;
      }

  -- the Request of a call that asks another node was posted
  pub asks-requested : (id : CallId) (route request : List ℕ) → AsksBy joint id route request
      → Requested (noted_on_rings joint) id route request
  asks-requested id route request (inl (log, there, calls, listed, call, among, named, net)) =
      let t = All-contains (IsTiedController (noted_on_rings joint)) joint.controllers log
      tied.controllers there in
      let made = collect-told no_items log.entries calls call listed among in
      let c : Called = record { id = id; sort = OverNet route request } in
      let same : called_of call ≡ c =
      λ i. record { id = named i; sort = ap sort_of net i } in
      called-requested log.node (items_of log.entries) id route request t.asks
      (subst (λ (x : Called). Contains (items_of log.entries).calls x) same made)
  asks-requested id route request (inr (log, there, listed)) =
      let t = All-contains (IsTiedHost (noted_on_rings joint)) joint.hosts log tied.hosts there in
      called-requested log.node (host_items_of log.entries) id route request t.asks
      (ask-told no_items log.entries id route request listed)

  -- a call to the own port asks nobody
  port-unasked : (id : CallId) (op : LocalOp) (route request : List ℕ) → AsksOwnPort joint id op
      → Requested (noted_on_rings joint) id route request → ⊥
  port-unasked id op route request (log, there, calls, listed, call, among, named, local) r =
      let ring = noted_on_rings joint in
      let a = items_of log.entries in
      let t = All-contains (IsTiedController ring) joint.controllers log tied.controllers there in
      let plan = partner (IsLegalLog plant scans) plant.controllers joint.controllers log
      legal.controllers there in
      let c : Called = record { id = id; sort = AtHome op } in
      let same : called_of call ≡ c =
      λ i. record { id = named i; sort = ap sort_of local i } in
      let made = subst (λ (x : Called). Contains a.calls x) same
      (collect-told no_items log.entries calls call listed among) in
      let home = each-contains (IsOwn plan.0.node) a.calls c
      (calls-own laws (fixed_of plant scans plan.0) log.entries plan.1.1) made in
      let mine = eqb-true r.node id.node
      (each-contains (λ e. posts id e ≡ true → (maker e == id.node) ≡ true) ring
      (Post r.node r.frame) (posts-own plant scans joint id legal) r.there
      (asks-this id r.frame r.kind r.name)) in
      let node = mine ∙ home ∙ sym plan.1.0 in
      let posted = in-own log.node ring (Post r.node r.frame) (eq-eqb r.node log.node node) r.there
      in
      let this : Asked = record { id = r.frame.id; route = route_of r; pdu = r.frame.pdu } in
      let asked = in-map asked_of (own log.node ring) (Post r.node r.frame) this
      (ap (λ k. asked_in k r.frame) r.kind) posted in
      let found = of-map net_ask a.calls this
      (subst (λ (l : List Asked). Contains l this) t.asks asked) in
      let facts = call-facts laws (fixed_of plant scans plan.0) log.entries plan.1.1 in
      let one = only-one (is_called id) a.calls found.0 c (facts.calls id)
      (asked-name found.0 this found.2 r.name) (same-refl id) found.1 made in
      let none : None ≡ Some this = sym (ap net_ask one) ∙ found.2 in
      cc
    where
      route_of : Requested (noted_on_rings joint) id route request → List ℕ
      route_of q = frame_route q.frame

      asked-name : (x : Called) (asked : Asked) → net_ask x ≡ Some asked → asked.id ≡ id
          → is_called id x ≡ true
      asked-name x asked net name = at x.sort refl net
        where
          at : (sort : CallSort) → x.sort ≡ sort
              → net_ask (record { id = x.id; sort = sort }) ≡ Some asked → is_called id x ≡ true
          at (OverNet way bytes) s net' =
              let this : Asked = record { id = x.id; route = way; pdu = bytes } in
              let same : this ≡ asked = cc in
              ap (λ (i : CallId). is_same_call i id) (ap (λ (y : Asked). y.id) same ∙ name)
              ∙ same-refl id
          at (AtHome other) s net' = absurd cc

  -- ---- effects

  -- an effect is at the node to which the Request of the name went, or its caller's own port did it
  data EffectAt (name : CallId) (n : ℕ) : Type 0 where
    was_asked : (request : List ℕ) → Requested (noted_on_rings joint) name (n ∷ []) request
        → EffectAt name n
    at_home : n ≡ name.node
        → 1 ≤ count_by (acts_at_home name) (own name.node (noted_on_rings joint))
        → EffectAt name n

  served-at : (name : CallId) (n : ℕ) (station : Station) (a : Items)
      → Tied station a (own n (noted_on_rings joint)) → Each IsLast a.answers
      → 1 ≤ answers_to name a → EffectAt name n
  served-at name n station a t last some =
      let ring = noted_on_rings joint in
      let all = answers_are_taken name station a (own n ring) t in
      let found = count-contains (takes name) (own n ring) (omega (arith, all, some)) in
      let taken = taken-as name found.0 found.2 in
      let at = of-own n ring (Take taken.node taken.frame)
      (subst (λ (e : RingEntry). Contains (own n ring) e) taken.is found.1) in
      let there = subst (λ (k : ℕ). Contains ring (Take k taken.frame)) at.1 at.0 in
      let r = take-requested plant scans joint is legal tied n taken.frame there taken.kind in
      was_asked taken.frame.pdu (requested-as r taken.same (ap (λ (l : List ℕ). n ∷ l)
      (taken-last ring n a taken.frame t.peers last there taken.kind)) refl)

  -- what a port did for another node was asked of it
  pub port-request : (name : CallId) (n : ℕ) (op : LocalOp) (result : MstrResult)
      → name.node ≢ n → Contains (noted_on_rings joint) (Local n name op result)
      → (request : List ℕ) × (request_of op ≡ Some request)
      × Requested (noted_on_rings joint) name (n ∷ []) request
  port-request name n op result other there =
      let ring = noted_on_rings joint in
      let e = Local n name op result in
      let answer : Answered = record {
        id = name;
        rest = [];
        request = request_of op;
        reply = Some (reply_of result);
      } in
      let answered = in-map answered_of (own n ring) e answer
      (ap (λ b. if b then None else Some answer) (ne_eqb name.node n other))
      (in-own n ring e (eq-eqb n n refl) there) in
      let t = port-took ring n answer (port-taken plant scans joint is legal tied n
      (noted-by plant scans joint is legal tied n e there refl)) answered in
      let r = take-requested plant scans joint is legal tied n t.frame t.there t.kind in (
        t.request,
        t.asked,
        requested-as r t.name (ap (λ (l : List ℕ). n ∷ l) t.rest_is) t.request_is,
      )

  port-at : (name : CallId) (n : ℕ) (op : LocalOp) (result : MstrResult)
      → Contains (noted_on_rings joint) (Local n name op result) → EffectAt name n
  port-at name n op result there =
      let ring = noted_on_rings joint in
      let e = Local n name op result in
      ⊎_elim
      (λ (home : name.node ≡ n).
      let acts = and_from _ _ (same-refl name) (eq-eqb name.node n home) in
      at_home (sym home)
      (contains-count (acts_at_home name) (own name.node ring) e acts
      (in-own name.node ring e (eq-eqb n name.node (sym home)) there)))
      (λ (other : name.node ≢ n).
      let asked = port-request name n op result other there in was_asked asked.0 asked.2)
      (cases_eq name.node n)

  effect-at : (name : CallId) (n : ℕ) → TakesEffectAt joint name n → EffectAt name n
  effect-at name n (inl (log, there, node, some)) =
      subst (EffectAt name) node
      (served-at name log.node AController (items_of log.entries)
      (All-contains (IsTiedController (noted_on_rings joint)) joint.controllers log
      tied.controllers there) (controller-last log.entries) some)
  effect-at name n (inr (inl (log, there, node, some))) =
      subst (EffectAt name) node
      (served-at name log.node AHost (host_items_of log.entries)
      (All-contains (IsTiedHost (noted_on_rings joint)) joint.hosts log tied.hosts there)
      (host-last log.entries) some)
  effect-at name n (inr (inr (op, result, there))) = port-at name n op result there

  -- what was done at home was asked of nobody
  pub home-unasked : (name : CallId) (route request : List ℕ)
      → 1 ≤ count_by (acts_at_home name) (own name.node (noted_on_rings joint))
      → Requested (noted_on_rings joint) name route request → ⊥
  home-unasked name route request some r =
      let ring = noted_on_rings joint in
      let owns = posts-own plant scans joint name legal in
      let mine = eqb-true r.node name.node
      (each-contains (λ e. posts name e ≡ true → (maker e == name.node) ≡ true) ring
      (Post r.node r.frame) owns r.there (asks-this name r.frame r.kind r.name)) in
      let stands : 1 ≤ times name.node (all_nodes plant) =
      subst (λ (k : ℕ). 1 ≤ times k (all_nodes plant)) mine
      (each-contains (λ x. 1 ≤ times (maker x) (all_nodes plant)) ring (Post r.node r.frame)
      (makers-stand plant scans joint is legal) r.there) in
      let alone = node-alone laws plant scans joint name name.node legal tied stands some in
      let none = alone.none in
      let count = contains-count (posts name) (own name.node ring) (Post r.node r.frame)
      (asks-this name r.frame r.kind r.name)
      (in-own name.node ring (Post r.node r.frame) (eq-eqb r.node name.node mine) r.there) in
      absurd (omega (arith, none, count))

  -- ---- at the end

  effect-ends : (id : CallId) (route request : List ℕ) → AsksBy joint id route request
      → (name : CallId) → Contains (names_from (length (sent_on_in joint)) (sent_on_in joint) id)
      name
      → (n : ℕ) → TakesEffectAt joint name n → EndsAt route n
  effect-ends id route request asks name among n effect =
      let to = reached plant scans joint is legal tied (length (sent_on_in joint)) id route request
      (asks-requested id route request asks) name among in
      at to.way to.rest to.route_is to.requested (effect-at name n effect)
    where
      at : (way rest : List ℕ) → route ≡ way ++ rest
          → Requested (noted_on_rings joint) name rest request → EffectAt name n → EndsAt route n
      at way rest whole r (was_asked bytes q) =
          let same = same-request plant scans joint is legal tied name rest (n ∷ []) request bytes
          r q in
          (way, whole ∙ ap (λ (l : List ℕ). way ++ l) same.0)
      at way rest whole r (at_home node some) =
          absurd (home-unasked name rest request some r)

  -- a call to the own port has one name
  one-name : (more : ℕ) (id : CallId) (op : LocalOp) → AsksOwnPort joint id op → (name : CallId)
      → Contains (names_from more (sent_on_in joint) id) name → id ≡ name
  one-name zero id op asks name among =
      ⊎_elim (λ (same : id ≡ name). same)
      (λ (more : Contains {X = CallId} [] name). absurd (in-none name more))
      (first-or-behind id [] name among)
  one-name (suc more) id op asks name among =
      ⊎_elim (λ (same : id ≡ name). same) (at _ refl) (first-or-behind id _ name among)
    where
      at : (found : Option SentOn) → slice_get (filter (is_old id) (sent_on_in joint)) 0 ≡ found
          → Contains (unwrap_or (option_map (names_from more (sent_on_in joint))
          (option_map (λ (s : SentOn). s.id) found)) []) name
          → id ≡ name
      at None found there = absurd (in-none name there)
      at (Some s) found there =
          let sent = sent_on_in joint in
          let listed = first-is (filter (is_old id) sent) s found in
          let passes = All-contains (λ x. is_old id x ≡ true) (filter (is_old id) sent) s
          (filter_passes (is_old id) sent) listed in
          let h = hop plant scans joint is legal tied s (of-filter (is_old id) sent s listed) in
          absurd (port-unasked id op (h.to ∷ h.route) h.request asks
          (subst (λ (i : CallId). Requested (noted_on_rings joint) i (h.to ∷ h.route) h.request)
          (same-eq s.old id passes) h.before))

  pub effect-home : (id : CallId) (op : LocalOp) → AsksOwnPort joint id op
      → (name : CallId) → Contains (names_from (length (sent_on_in joint)) (sent_on_in joint) id)
      name
      → (n : ℕ) → TakesEffectAt joint name n → n ≡ id.node
  effect-home id op asks name among n effect =
      let same = one-name (length (sent_on_in joint)) id op asks name among in
      at (effect-at id n (subst (λ (i : CallId). TakesEffectAt joint i n) (sym same) effect))
    where
      at : EffectAt id n → n ≡ id.node
      at (was_asked request r) = absurd (port-unasked id op (n ∷ []) request asks r)
      at (at_home node some) = node

  -- each effect is that of a call that was made
  effect-made : (name : CallId) (n : ℕ) → TakesEffectAt joint name n → IsMadeAs joint name
  effect-made name n effect = at (effect-at name n effect)
    where
      at : EffectAt name n → IsMadeAs joint name
      at (was_asked request r) =
          requested-made laws plant scans joint is legal tied (length (sent_on_in joint)) name
          (n ∷ []) request (omega arith) r
      at (at_home node some) = home-was-made laws plant scans joint is legal tied name some

pub effects-at-end : CallLaws → SuccessIsOneEffectOnWay → AllEffectsAreAtTheirEnd
effects-at-end laws success plant scans joint is legal tied = record {
  ends = effect-ends laws plant scans joint is legal tied;
  home = effect-home laws plant scans joint is legal tied;
  success = λ id told.
      (let one = success plant scans joint is legal tied id told in
      let found = part-of (effects joint) (names_on_way joint id) (omega (arith, one)) in
      let at = found-effect joint found.0 found.2 in
      (found.0, found.1, at.0, at.1));
  made = effect-made laws plant scans joint is legal tied;
}
