-- Each effect is that of a call which a controller or a host made.
use Rattle.std.proofs.Common.{◌≡◌, ◌⊎◌, ℕ, zero, suc, ◌+◌, ◌<◌, ◌≤◌, Bool, true, false, List, []}
use Rattle.std.proofs.Common.{◌∷◌, length, Option, Some, None, refl, sym, ap, ◌∙◌, subst, inl, inr}
use Rattle.std.proofs.Common.{⊎_elim, arith}
use Rattle.std.specs.Prelude.{Contains, filter, filter_map, if◌then◌else◌, nat_le, option_map}
use Rattle.std.specs.Prelude.{slice_get, unwrap_or}
use Rattle.std.specs.List.{count_by}
use Rattle.std.proofs.lemmas.Bool.{eq-eqb}
use Rattle.std.proofs.lemmas.List.Elements.{All-contains, Contains-push_cases, filter_passes}
use Rattle.std.proofs.lemmas.List.Sums.{count_by-le-length}
use Rattle.plant_types.specs.declared.plan.Plant.{Plant}
use Rattle.plant_types.specs.Plans.{IsPlant}
use Rattle.mstr_block.specs.Call.{is_same_call}
use Rattle.mstr_block.specs.declared.call.CallId.{CallId}
use Rattle.ring_core.specs.declared.entry.LocalOp.{LocalOp}
use Rattle.ring_core.specs.declared.entry.RingEntry.TheVariants.{Post}
use Rattle.ring_core.specs.declared.frame.FrameKind.{FrameKind}
use Rattle.ring_laws.proofs.Lists.{count-contains, same-eq, same-refl}
use Rattle.controller_core.specs.declared.call.CallKind.{CallKind}
use Rattle.controller_core.specs.declared.call.CallKind.TheVariants.{Local, Net}
use Rattle.bridge_relay.specs.declared.entry.BridgeEntry.{BridgeEntry}
use Rattle.bridge_relay.specs.declared.entry.BridgeEntry.TheVariants.{Accept, Forward, Finish}
use Rattle.bridge_relay.specs.declared.entry.BridgeEntry.TheVariants.{Back, Gone}
use Rattle.bridge_relay.specs.Laws.{is_by}
use Rattle.tied_lists.specs.Own.{own}
use Rattle.tied_lists.specs.Items.{ABridge, AController, AHost, Asked, AtHome, CallSort, Called}
use Rattle.tied_lists.specs.Items.{Items, Kind, LocalCall, NetCall, OverNet, asked_in, asked_of}
use Rattle.tied_lists.specs.Items.{kind_in, kind_of_sort, net_ask, no_items}
use Rattle.tied_lists.specs.Tied.{AsksAreCalls}
use Rattle.joint_history.specs.declared.joint.BridgeLog.{BridgeLog}
use Rattle.joint_history.specs.declared.joint.ControllerLog.{ControllerLog}
use Rattle.joint_history.specs.declared.joint.HostLog.{HostLog}
use Rattle.joint_history.specs.declared.joint.Joint.{Joint}
use Rattle.joint_history.specs.Bridges.{made_at_end, side_item_next, side_items, side_items_after}
use Rattle.joint_history.specs.JointLaws.{IsJoint, IsLegalJoint, IsLegalLog, IsTiedController}
use Rattle.joint_history.specs.JointLaws.{IsTiedHost, fixed_of}
use Rattle.joint_history.specs.Nets.{noted_on_rings}
use Rattle.joint_history.specs.Reading.{host_items_of, items_of, sort_of}
use Rattle.joint_history.proofs.Collected.{CallLaws}
use Rattle.effect_laws.proofs.Calls.{call-facts}
use Rattle.effect_laws.proofs.Entries.{asks-this}
use Rattle.effect_laws.proofs.Gave.{AskIn, CollectIn, ask-in, call-in}
use Rattle.effect_laws.proofs.Homes.{acts_at_home, home-ended, home-made, host-away, none-away}
use Rattle.effect_laws.proofs.Sources.{behind, first-or-behind, here, in-map, in-none, in-own}
use Rattle.effect_laws.proofs.Sources.{of-map, of-own}
use Rattle.effect_laws.proofs.Words.{asked_as}
use Rattle.route_laws.specs.Ends.{AsksOwnPort, WasMade}
use Rattle.route_laws.specs.Ways.{SentOn, names_from, names_on_way, next_name, sent_of, sent_on_in}
use Rattle.route_laws.proofs.Homes.{end-away}
use Rattle.route_laws.proofs.Hops.{first-is, hop, partner}
use Rattle.route_laws.proofs.Once.{is_old, taken-on-once}
use Rattle.route_laws.proofs.Places.{posted-on-rings, size-is, size_of}
use Rattle.route_laws.proofs.Requests.{Requested, StandsAt, a_controller, a_host, an_end, noted-by}
use Rattle.route_laws.proofs.Sides.{of-filter}
use Rattle.route_laws.proofs.Success.{next-is, rank, rank-falls}
use Rattle.route_laws.proofs.Traces.{in-flat, side-tied}

-- ---- items and calls

-- a call that asks another node is one over the net
net-called : (c : Called) (a : Asked) → net_ask c ≡ Some a
    → c ≡ record { id = a.id; sort = OverNet a.route a.pdu }
net-called c a is = at c.sort refl is
  where
    at : (sort : CallSort) → c.sort ≡ sort → net_ask (record { id = c.id; sort = sort }) ≡ Some a
        → c ≡ record { id = a.id; sort = OverNet a.route a.pdu }
    at (OverNet route pdu) same is' =
        let this : Asked = record { id = c.id; route = route; pdu = pdu } in
        let one : this ≡ a = cc in
        let over : Called = record { id = c.id; sort = OverNet route pdu } in
        let first : c ≡ over = λ i. record { id = c.id; sort = same i } in
        first ∙ ap (λ (x : Asked). record { id = x.id; sort = OverNet x.route x.pdu }) one
    at (AtHome op) same is' = absurd cc

-- a call of this name and kind
pub record CalledAs (calls : List Called) (id : CallId) (kind : Kind) : Type 0 where
  pub call : Called
  pub there : Contains calls call
  pub name : call.id ≡ id
  pub kind_is : kind_of_sort call.sort ≡ kind

-- a name that has a kind has a call
pub kind-called : (cs : List Called) (id : CallId) (kind : Kind) → kind_in cs id ≡ Some kind
    → CalledAs cs id kind
kind-called [] id kind is = absurd cc
kind-called (c ∷ cs) id kind is =
    at (is_same_call c.id id) refl is (kind-called cs id kind)
  where
    at : (b : Bool) → is_same_call c.id id ≡ b
        → (if b then Some (kind_of_sort c.sort) else kind_in cs id) ≡ Some kind
        → (kind_in cs id ≡ Some kind → CalledAs cs id kind) → CalledAs (c ∷ cs) id kind
    at true same is' rest =
        let kinds : kind_of_sort c.sort ≡ kind = cc in
        record { call = c; there = here c cs; name = same-eq c.id id same; kind_is = kinds }
    at false same is' rest =
        let found = rest is' in
        record {
          call = found.call;
          there = behind c cs found.call found.there;
          name = found.name;
          kind_is = found.kind_is;
        }

-- what is at home is an operation
home-sort : (sort : CallSort) (op : LocalOp) → kind_of_sort sort ≡ LocalCall op
    → sort ≡ AtHome op
home-sort (OverNet route pdu) op is = absurd (let no' : NetCall ≡ LocalCall op = is in cc)
home-sort (AtHome other) op is = let same : other ≡ op = cc in ap AtHome same

-- a name of which the call is at home has one
pub home-called : (cs : List Called) (id : CallId) (op : LocalOp)
    → kind_in cs id ≡ Some (LocalCall op) → Contains cs (record { id = id; sort = AtHome op })
home-called cs id op is =
    let c = kind-called cs id (LocalCall op) is in
    let sorts = home-sort c.call.sort op c.kind_is in
    let same : c.call ≡ record { id = id; sort = AtHome op } =
    λ i. record { id = c.name i; sort = sorts i } in
    subst (λ (x : Called). Contains cs x) same c.there

-- a controller's call at home is one of this operation, and one over the net one by this route
home-kind-of : (kind : CallKind) (op : LocalOp) → sort_of kind ≡ AtHome op → kind ≡ Local op
home-kind-of (Net route pdu) op is = absurd cc
home-kind-of (Local other) op is = let same : other ≡ op = cc in ap Local same

net-kind-of : (kind : CallKind) (route pdu : List ℕ) → sort_of kind ≡ OverNet route pdu
    → kind ≡ Net route pdu
net-kind-of (Net way bytes) route pdu is =
    let one : way ≡ route = cc in let two : bytes ≡ pdu = cc in λ i. Net (one i) (two i)
net-kind-of (Local op) route pdu is = absurd cc

-- a bridge's list has an entry by which it sent this call on
record SentIn (h : List BridgeEntry) (id : CallId) (route request : List ℕ) : Type 0 where
  side : ℕ
  old : CallId
  there : Contains h (Forward side old id route request)

later-sent : (e : BridgeEntry) (h : List BridgeEntry) (id : CallId) (route request : List ℕ)
    → SentIn h id route request → SentIn (e ∷ h) id route request
later-sent e h id route request s =
    record { side = s.side; old = s.old; there = behind e h _ s.there }

-- each call of an end is one that it sent on
sent-in : (a : Items) (h : List BridgeEntry) (id : CallId) (route request : List ℕ)
    → Contains (side_items_after a h).calls (record { id = id; sort = OverNet route request })
    → Contains a.calls (record { id = id; sort = OverNet route request })
    ⊎ SentIn h id route request
sent-in a [] id route request there = inl there
sent-in a (e ∷ h) id route request there =
    ⊎_elim
    (λ (old : Contains (side_item_next a e).calls c). last e old)
    (λ (new : SentIn h id route request). inr (later-sent e h id route request new))
    (sent-in (side_item_next a e) h id route request there)
  where
    c : Called
    c = record { id = id; sort = OverNet route request }

    last : (x : BridgeEntry) → Contains (side_item_next a x).calls c
        → Contains a.calls c ⊎ SentIn (x ∷ h) id route request
    last (Accept side name way bytes) old = inl old
    last (Finish side name result) old = inl old
    last (Back side name reply) old = inl old
    last (Gone side) old = inl old
    last (Forward side before name way bytes) old =
        let x = Forward side before name way bytes in
        ⊎_elim
        (λ (earlier : Contains a.calls c). inl earlier)
        (λ (same : record { id = name; sort = OverNet way bytes } ≡ c).
        let first : name ≡ id = ap (λ (y : Called). y.id) same in
        let sorts : OverNet way bytes ≡ OverNet route request =
        ap (λ (y : Called). y.sort) same in
        let ways : way ≡ route = cc in
        let pdus : bytes ≡ request = cc in
        inr (record {
          side = side;
          old = before;
          there = subst (λ (e : BridgeEntry). Contains (x ∷ h) e)
              (λ i. Forward side before (first i) (ways i) (pdus i)) (here x h);
        }))
        (Contains-push_cases a.calls (record { id = name; sort = OverNet way bytes }) c old)

-- a name is the first of its names
pub own-there : (sent : List SentOn) (more : ℕ) (id : CallId)
    → Contains (names_from more sent id) id
own-there sent zero id = here id []
own-there sent (suc more) id =
    here id (unwrap_or (option_map (names_from more sent) (next_name sent id)) [])

-- a call that was made, of which this is a name
abbrev pub IsMadeAs : Joint → CallId → Type 0
IsMadeAs joint name =
    (id : CallId) × WasMade joint id × Contains (names_on_way joint id) name

module _ (laws : CallLaws) (plant : Plant) (scans : ℕ) (joint : Joint) (is : IsPlant plant)
    (legal : IsLegalJoint plant scans joint) (tied : IsJoint joint) where
  -- a call that was made is so under its own name
  own-made : (id : CallId) → WasMade joint id → IsMadeAs joint id
  own-made id made =
      (id, made, own-there (sent_on_in joint) (length (sent_on_in joint)) id)

  -- ---- the names of a call

  -- a call that is sent on has a shorter way
  requested-size : (id : CallId) (route request : List ℕ)
      → Requested (noted_on_rings joint) id route request
      → length route ≡ suc (size_of (noted_on_rings joint) id)
  requested-size id route request r =
      let size = size-is id (noted_on_rings joint) r.node r.frame
      (posted-on-rings plant scans joint is legal id) r.there (asks-this id r.frame r.kind r.name)
      in
      sym (ap length r.route_is) ∙ ap suc (sym size)

  shorter : (s : SentOn) → Contains (sent_on_in joint) s
      → size_of (noted_on_rings joint) s.id < size_of (noted_on_rings joint) s.old
  shorter s there =
      let h = hop plant scans joint is legal tied s there in
      let before = requested-size s.old (h.to ∷ h.route) h.request h.before in
      let after = requested-size s.id h.route h.request h.after in
      omega (arith, before, after)

  -- how many calls are no further from their end, which falls as a call goes on
  abbrev rank_of : CallId → ℕ
  rank_of id = rank (size_of (noted_on_rings joint)) (sent_on_in joint)
      (size_of (noted_on_rings joint) id)

  falls : (s : SentOn) → Contains (sent_on_in joint) s → rank_of s.id + 1 ≤ rank_of s.old
  falls s there =
      let size = size_of (noted_on_rings joint) in
      rank-falls size (sent_on_in joint) s (size s.id) (size s.old) there refl (shorter s there)

  -- they are no more than all
  highest : (id : CallId) → rank_of id ≤ length (sent_on_in joint)
  highest id =
      let size = size_of (noted_on_rings joint) in
      count_by-le-length (λ (s : SentOn). nat_le (size s.old) (size id)) (sent_on_in joint)

  -- what follows a name of a call is one too
  closed : (more : ℕ) (id : CallId) → rank_of id ≤ more
      → (s : SentOn) → Contains (sent_on_in joint) s
      → Contains (names_from more (sent_on_in joint) id) s.old
      → Contains (names_from more (sent_on_in joint) id) s.id
  closed zero id low s there among =
      let less = falls s there in
      ⊎_elim
      (λ (same : id ≡ s.old).
      let equal = ap rank_of same in
      absurd (omega (arith, less, equal, low)))
      (λ (none : Contains {X = CallId} [] s.old). absurd (in-none s.old none))
      (first-or-behind id [] s.old among)
  closed (suc more) id low s there among =
      ⊎_elim first
      (λ (rest : Contains (names (slice_get (filter (is_old id) (sent_on_in joint)) 0)) s.old).
      behind id (names (slice_get (filter (is_old id) (sent_on_in joint)) 0)) s.id
      (at _ refl rest (closed more)))
      (first-or-behind id (names (slice_get (filter (is_old id) (sent_on_in joint)) 0)) s.old
      among)
    where
      names : Option SentOn → List CallId
      names found = unwrap_or (option_map (names_from more (sent_on_in joint))
          (option_map (λ (x : SentOn). x.id) found)) []

      first : id ≡ s.old → Contains (names_from (suc more) (sent_on_in joint) id) s.id
      first same =
          let sent = sent_on_in joint in
          let few = (taken-on-once plant scans joint is legal tied id).forwarded in
          let old = ap (λ (x : CallId). is_same_call x id) (sym same) ∙ same-refl id in
          let next = next-is sent id s few there old in
          behind id (names (slice_get (filter (is_old id) sent) 0)) s.id
          (subst (λ (o : Option SentOn). Contains (names o) s.id) (sym next)
          (own-there sent more s.id))

      at : (found : Option SentOn)
          → slice_get (filter (is_old id) (sent_on_in joint)) 0 ≡ found
          → Contains (names found) s.old
          → ((x : CallId) → rank_of x ≤ more
          → (t : SentOn) → Contains (sent_on_in joint) t
          → Contains (names_from more (sent_on_in joint) x) t.old
          → Contains (names_from more (sent_on_in joint) x) t.id)
          → Contains (names (slice_get (filter (is_old id) (sent_on_in joint)) 0)) s.id
      at None found none later = absurd (in-none s.old none)
      at (Some x) found rest later =
          let sent = sent_on_in joint in
          let listed = first-is (filter (is_old id) sent) x found in
          let passes = All-contains (λ y. is_old id y ≡ true) (filter (is_old id) sent) x
          (filter_passes (is_old id) sent) listed in
          let less = falls x (of-filter (is_old id) sent x listed) in
          let equal = ap rank_of (same-eq x.old id passes) in
          subst (λ (o : Option SentOn). Contains (names o) s.id) (sym found)
          (later x.id (omega (arith, less, equal, low)) s there rest)

  -- ---- who asked

  -- a Request that a node posted is that of a call of its station
  posted-called : (name : CallId) (route request : List ℕ) (n : ℕ) (a : Items)
      → (r : Requested (noted_on_rings joint) name route request) → r.node ≡ n
      → AsksAreCalls a (own n (noted_on_rings joint))
      → Contains a.calls (record { id = name; sort = OverNet route request })
  posted-called name route request n a r node asks =
      let ring = noted_on_rings joint in
      let asked = asked_as r.frame in
      let mine = in-own n ring (Post r.node r.frame) (eq-eqb r.node n node) r.there in
      let among = in-map asked_of (own n ring) (Post r.node r.frame) asked
      (ap (λ (k : FrameKind). asked_in k r.frame) r.kind) mine in
      let called = of-map net_ask a.calls asked
      (subst (λ (l : List Asked). Contains l asked) asks among) in
      let over : Called = record { id = asked.id; sort = OverNet asked.route asked.pdu } in
      let that : Called = record { id = name; sort = OverNet route request } in
      let first : called.0 ≡ over = net-called called.0 asked called.2 in
      let second : over ≡ that =
      λ i. record { id = r.name i; sort = OverNet (r.route_is i) (r.request_is i) } in
      subst (λ (c : Called). Contains a.calls c) (first ∙ second) called.1

  -- a call over the net in a controller's list, or in a host's, was made
  controller-made : (name : CallId) (route request : List ℕ) (log : ControllerLog)
      → Contains joint.controllers log
      → Contains (items_of log.entries).calls (record { id = name; sort = OverNet route request })
      → WasMade joint name
  controller-made name route request log there called =
      let over : Called = record { id = name; sort = OverNet route request } in
      ⊎_elim
      (λ (none : Contains {X = Called} [] over). absurd (in-none over none))
      (λ (c : CollectIn log.entries over).
      inl (
        route,
        request,
        inl (
          log,
          there,
          c.calls,
          c.there,
          c.call,
          c.among,
          ap (λ (x : Called). x.id) c.is,
          net-kind-of c.call.kind route request (ap (λ (x : Called). x.sort) c.is),
        ),
      ))
      (call-in no_items log.entries over called)

  host-made : (name : CallId) (route request : List ℕ) (log : HostLog)
      → Contains joint.hosts log
      → Contains (host_items_of log.entries).calls
      (record { id = name; sort = OverNet route request })
      → WasMade joint name
  host-made name route request log there called =
      let over : Called = record { id = name; sort = OverNet route request } in
      let asked : Asked = record { id = name; route = route; pdu = request } in
      ⊎_elim
      (λ (none : Contains {X = Called} [] over). absurd (in-none over none))
      (λ (a : AskIn log.entries asked). inl (route, request, inr (log, there, a.there)))
      (ask-in no_items log.entries over asked refl called)

  -- what an end of a bridge asks under a name it sent on
  end-sent : (name : CallId) (route request : List ℕ) (log : BridgeLog) (side : ℕ)
      → Contains joint.bridges log
      → Contains (side_items side log.entries).calls
      (record { id = name; sort = OverNet route request })
      → (s : SentOn) × Contains (sent_on_in joint) s × (s.id ≡ name)
  end-sent name route request log side there called =
      let over : Called = record { id = name; sort = OverNet route request } in
      ⊎_elim
      (λ (none : Contains {X = Called} [] over). absurd (in-none over none))
      (λ (e : SentIn (made_at_end side log.entries) name route request).
      let s : SentOn = record { old = e.old; id = name } in
      let entry = Forward e.side e.old name route request in
      let listed = of-filter (is_by side) log.entries entry e.there in (
        s,
        in-flat (λ (l : BridgeLog). filter_map sent_of l.entries) joint.bridges log s there
            (in-map sent_of log.entries entry s refl listed),
        refl,
      ))
      (sent-in no_items (made_at_end side log.entries) name route request called)

  -- a Request was posted by who made its call, or by a bridge that sent the call on
  from-station : (name : CallId) (route request : List ℕ)
      → Requested (noted_on_rings joint) name route request
      → ((s : SentOn) → Contains (sent_on_in joint) s → s.id ≡ name → IsMadeAs joint name)
      → IsMadeAs joint name
  from-station name route request r onward =
      by (noted-by plant scans joint is legal tied r.node (Post r.node r.frame) r.there refl)
    where
      by : StandsAt joint r.node → IsMadeAs joint name
      by (a_controller log there node) =
          let t = All-contains (IsTiedController (noted_on_rings joint)) joint.controllers log
          tied.controllers there in
          own-made name (controller-made name route request log there
          (posted-called name route request log.node (items_of log.entries) r (sym node) t.asks))
      by (a_host log there node) =
          let t = All-contains (IsTiedHost (noted_on_rings joint)) joint.hosts log tied.hosts there
          in
          own-made name (host-made name route request log there
          (posted-called name route request log.node (host_items_of log.entries) r (sym node)
          t.asks))
      by (an_end plan log there lawful end') =
          let t = side-tied plant scans joint is legal tied plan log r.node lawful there end' in
          let s = end-sent name route request log r.node there
          (posted-called name route request r.node (side_items r.node log.entries) r refl t.asks)
          in
          onward s.0 s.1 s.2

  -- what is asked under a name is asked by a call that was made, where no more calls than so many
  -- are further from their end
  abbrev IsMadeFrom : ℕ → Type 0
  IsMadeFrom more = (name : CallId) (route request : List ℕ)
      → length (sent_on_in joint) ≤ rank_of name + more
      → Requested (noted_on_rings joint) name route request → IsMadeAs joint name

  -- a call that a bridge sent on was made where the one that came was
  next-made : (more : ℕ) → IsMadeFrom more → (name : CallId) (s : SentOn)
      → Contains (sent_on_in joint) s → s.id ≡ name
      → length (sent_on_in joint) ≤ rank_of name + suc more
      → IsMadeAs joint name
  next-made more earlier name s there same low =
      let less = falls s there in
      let equal = ap rank_of same in
      let h = hop plant scans joint is legal tied s there in
      let before = earlier s.old (h.to ∷ h.route) h.request (omega (arith, less, equal, low))
      h.before in (
        before.0,
        before.1,
        subst (Contains (names_on_way joint before.0)) same
            (closed (length (sent_on_in joint)) before.0 (highest before.0) s there before.2),
      )

  -- so it is of each Request that was posted
  pub requested-made : (more : ℕ) → IsMadeFrom more
  requested-made zero name route request low r =
      from-station name route request r (λ s there same.
      let less = falls s there in
      let equal = ap rank_of same in
      let top = highest s.old in
      absurd (omega (arith, less, equal, top, low)))
  requested-made (suc more) name route request low r =
      from-station name route request r
      (λ s there same. next-made more (requested-made more) name s there same low)

  -- ---- what ports did at home

  -- a call that its own node's port did was made by a controller there
  pub home-was-made : (name : CallId)
      → 1 ≤ count_by (acts_at_home name) (own name.node (noted_on_rings joint))
      → IsMadeAs joint name
  home-was-made name some =
      let ring = noted_on_rings joint in
      let found = count-contains (acts_at_home name) (own name.node ring) some in
      let at = of-own name.node ring found.0 found.1 in
      own-made name (inr (by
      (noted-by plant scans joint is legal tied name.node found.0 at.0 at.1)))
    where
      by : StandsAt joint name.node → (op : LocalOp) × AsksOwnPort joint name op
      by (a_controller log there node) =
          let ring = noted_on_rings joint in
          let a = items_of log.entries in
          let t = All-contains (IsTiedController ring) joint.controllers log tied.controllers there
          in
          let plan = partner (IsLegalLog plant scans) plant.controllers joint.controllers log
          legal.controllers there in
          let facts = call-facts laws (fixed_of plant scans plan.0) log.entries plan.1.1 in
          let mine = subst (λ (n : ℕ). 1 ≤ count_by (acts_at_home name) (own n ring)) (sym node)
          some in
          let ended = home-ended AController a name (own log.node ring) t.ends in
          let made = home-made a facts name (omega (arith, mine, ended)) in
          let local : Called = record { id = name; sort = AtHome made.0 } in
          ⊎_elim
          (λ (none : Contains {X = Called} [] local). absurd (in-none local none))
          (λ (c : CollectIn log.entries local). (
            made.0,
            (
              log,
              there,
              c.calls,
              c.there,
              c.call,
              c.among,
              ap (λ (x : Called). x.id) c.is,
              home-kind-of c.call.kind made.0 (ap (λ (x : Called). x.sort) c.is),
            ),
          ))
          (call-in no_items log.entries local (home-called a.calls name made.0 made.1))
      by (a_host log there node) =
          let ring = noted_on_rings joint in
          let a = host_items_of log.entries in
          let t = All-contains (IsTiedHost ring) joint.hosts log tied.hosts there in
          let mine = subst (λ (n : ℕ). 1 ≤ count_by (acts_at_home name) (own n ring)) (sym node)
          some in
          let ended = home-ended AHost a name (own log.node ring) t.ends in
          absurd (none-away name a.ends (host-away log.entries) (omega (arith, mine, ended)))
      by (an_end plan log there lawful end') =
          let a = side_items name.node log.entries in
          let t = side-tied plant scans joint is legal tied plan log name.node lawful there end' in
          let ended = home-ended ABridge a name (own name.node (noted_on_rings joint)) t.ends in
          absurd (none-away name a.ends (end-away name.node log.entries)
          (omega (arith, some, ended)))
