-- What a bridge sends on and gives back stands behind what it came from.
use Rattle.std.proofs.Common.{◌≡◌, ◌≢◌, ℕ, zero, suc, ◌-◌, Bool, cond, List, [], ◌∷◌, ◌++◌}
use Rattle.std.proofs.Common.{Option, Some, None, map, refl, sym, ap, ◌∙◌, subst, inl, inr, arith}
use Rattle.std.proofs.Common.{append_assoc, append-nil, get_or, option_map}
use Rattle.std.specs.Prelude.{Contains, slice_index}
use Rattle.std.specs.List.{AllByRecursion as Each, slice_get}
use Rattle.std.proofs.lemmas.Bool.{and_parts, cases_eq, eq-eqb, eqb-true, ne_eqb}
use Rattle.std.proofs.lemmas.List.Elements.{All-contains_itself, recursion_from_All}
use Rattle.std.proofs.lemmas.List.Elements.{Contains-append_left, Contains-push}
use Rattle.plant_types.specs.declared.net.BridgePlan.{BridgePlan}
use Rattle.plant_types.specs.Plans.{IsBridgePlan}
use Rattle.mstr_block.specs.declared.call.CallId.{CallId}
use Rattle.ring_core.specs.Legal.{IsPath}
use Rattle.ring_laws.proofs.Lists.{each-drop, each-map, each-put}
use Rattle.bridge_relay.specs.declared.entry.BridgeEntry.{BridgeEntry}
use Rattle.bridge_relay.specs.declared.entry.BridgeEntry.TheVariants.{Accept, Forward, Finish}
use Rattle.bridge_relay.specs.declared.entry.BridgeEntry.TheVariants.{Back, Gone}
use Rattle.bridge_relay.specs.declared.entry.RelayResult.{RelayResult}
use Rattle.bridge_relay.specs.declared.entry.RelayResult.TheVariants.{Reply, Bad}
use Rattle.bridge_relay.specs.Machine.{EndIs, OutCall, RelayPath, Returned, Waiting}
use Rattle.bridge_relay.specs.Machine.{code_of_word, exception_of, exception_to, far_side}
use Rattle.bridge_relay.specs.Machine.{near_end, new_end, no_path_code}
use Rattle.bridge_relay.specs.Machine.{relay_after, relay_path, returned, side_of}
use Rattle.bridge_relay.specs.Machine.{RelayIs, out_call, reply_of, unsent, unused_path}
use Rattle.bridge_relay.specs.Kept.{code_between, far_accepted, far_after, near_accepted}
use Rattle.bridge_relay.specs.Kept.{near_after, returned_by}
use Rattle.bridge_relay.specs.Laws.{end_after}
use Rattle.bridge_relay.specs.Legal.{IsBridgeHistory, IsBridgeStep, IsEnd}
use Rattle.bridge_relay.proofs.Legal.{forward_made}
use Rattle.bridge_relay.proofs.Paths.{known_path}
use Rattle.bridge_relay.proofs.Steps.{after_more, step_left, step_right}
use Rattle.bridge_causes.specs.Causes.{AtOnce, BackCause, BacksFollowCauses, ForwardsFollowAccepts}
use Rattle.bridge_causes.specs.Causes.{OfCall, OfRefusal, RefusalCause, Unsent, WithoutReply}
use Rattle.bridge_causes.proofs.Ends.{near-left, near-right}

-- ---- what the two ends have comes from the list

-- a Request that waits was accepted across
abbrev Waits : List BridgeEntry → ℕ → Waiting → Type 0
Waits h across item = Contains h (Accept across item.id item.route item.request)

-- the call that is out on a path was accepted across, and sent on there
record OutBy (h : List BridgeEntry) (side across at last : ℕ) (call : OutCall) : Type 0 where
  id : CallId
  route : List ℕ
  request : List ℕ
  function : call.function ≡ slice_index request 0
  got : Contains h (Accept across call.old route request)
  sent : Contains h (Forward side call.old id route request)
  node : id.node ≡ side
  is_path : IsPath id.path
  path : id.path - 1 ≡ at
  seq : id.seq ≡ last

abbrev IsOutBy : List BridgeEntry → ℕ → ℕ → ℕ → RelayPath → Type 0
IsOutBy h side across at path =
    (call : OutCall) → path.out ≡ Some call → OutBy h side across at path.last call

module _ (plan : BridgePlan) where
  abbrev Given : List BridgeEntry → ℕ → ℕ → Returned → Type 0
  Given h side across item = BackCause plan h side across item.id item.reply

  -- what an end has
  record Comes (h : List BridgeEntry) (side across : ℕ) (end : EndIs) : Type 0 where
    sends : Each (Waits h across) end.to_send
    gives : Each (Given h side across) end.to_give
    paths : (at : ℕ) → IsOutBy h side across at (get_or end.paths at unused_path)

  -- ---- lists that go on

  more-cause : (h : List BridgeEntry) (e : BridgeEntry) (side across : ℕ) (id : CallId)
      (route request : List ℕ) (code : ℕ)
      → RefusalCause plan h side across id route request code
      → RefusalCause plan (h ++ e ∷ []) side across id route request code
  more-cause h e side across id route request code (AtOnce from) = AtOnce (record {
    past = from.past;
    rest = from.rest ++ e ∷ [];
    accepted = ap (λ (l : List BridgeEntry). l ++ e ∷ []) from.accepted
        ∙ append_assoc from.past (Accept side id route request ∷ from.rest) (e ∷ []);
    code_is = from.code_is;
  })
  more-cause h e side across id route request code (Unsent from) = Unsent (record {
    past = from.past;
    rest = from.rest ++ e ∷ [];
    accepted = from.accepted;
    waits = from.waits;
    gone = ap (λ (l : List BridgeEntry). l ++ e ∷ []) from.gone
        ∙ append_assoc from.past (Gone across ∷ from.rest) (e ∷ []);
    code_is = from.code_is;
  })
  more-cause h e side across id route request code (WithoutReply from) = WithoutReply (record {
    onward = from.onward;
    word = from.word;
    accepted = Contains-append_left h (e ∷ []) _ from.accepted;
    sent = Contains-append_left h (e ∷ []) _ from.sent;
    ended = Contains-append_left h (e ∷ []) _ from.ended;
    code_is = from.code_is;
  })

  more-given : (h : List BridgeEntry) (e : BridgeEntry) (side across : ℕ) (id : CallId)
      (reply : List ℕ) → BackCause plan h side across id reply
      → BackCause plan (h ++ e ∷ []) side across id reply
  more-given h e side across id reply (OfCall from) = OfCall (record {
    onward = from.onward;
    route = from.route;
    request = from.request;
    accepted = Contains-append_left h (e ∷ []) _ from.accepted;
    sent = Contains-append_left h (e ∷ []) _ from.sent;
    ended = Contains-append_left h (e ∷ []) _ from.ended;
  })
  more-given h e side across id reply (OfRefusal from) = OfRefusal (record {
    route = from.route;
    request = from.request;
    code = from.code;
    cause = more-cause h e side across id from.route from.request from.code from.cause;
    reply_is = from.reply_is;
  })

  more-out : (h : List BridgeEntry) (e : BridgeEntry) (side across at : ℕ) (path : RelayPath)
      → IsOutBy h side across at path → IsOutBy (h ++ e ∷ []) side across at path
  more-out h e side across at path out call is =
      let by = out call is in
      record {
        id = by.id;
        route = by.route;
        request = by.request;
        function = by.function;
        got = Contains-append_left h (e ∷ []) _ by.got;
        sent = Contains-append_left h (e ∷ []) _ by.sent;
        node = by.node;
        is_path = by.is_path;
        path = by.path;
        seq = by.seq;
      }

  more-comes : (h : List BridgeEntry) (e : BridgeEntry) (side across : ℕ) (end : EndIs)
      → Comes h side across end → Comes (h ++ e ∷ []) side across end
  more-comes h e side across end c = record {
    sends = each-map (Waits h across) (Waits (h ++ e ∷ []) across) end.to_send
        (λ item. Contains-append_left h (e ∷ []) _) c.sends;
    gives = each-map (Given h side across) (Given (h ++ e ∷ []) side across) end.to_give
        (λ item. more-given h e side across item.id item.reply) c.gives;
    paths = λ at. more-out h e side across at (get_or end.paths at unused_path) (c.paths at);
  }

  each-joined : {X : Type 0} (P : X → Type 0) (xs ys : List X) → Each P xs → Each P ys
      → Each P (xs ++ ys)
  each-joined P [] ys one two = two
  each-joined P (x ∷ xs) ys one two = (one.0, each-joined P xs ys one.1 two)

  -- ---- one entry more

  near-accepts : (past : List BridgeEntry) (side across : ℕ) (near far : EndIs) (id : CallId)
      (route request : List ℕ) (code : Option ℕ)
      → code_between across far route ≡ code → end_after plan past across ≡ far
      → Comes (past ++ Accept side id route request ∷ []) side across near
      → Comes (past ++ Accept side id route request ∷ []) side across
      (near_accepted near (record { id = id; route = route; request = request }) code)
  near-accepts past side across near far id route request None is there c = c
  near-accepts past side across near far id route request (Some code) is there c =
      let h = past ++ Accept side id route request ∷ [] in
      let refused : Returned = record { id = id; reply = exception_to request code } in
      record {
        sends = c.sends;
        gives = each-joined (Given h side across) near.to_give (refused ∷ []) c.gives (
          OfRefusal (record {
            route = route;
            request = request;
            code = code;
            cause = AtOnce (record {
              past = past;
              rest = [];
              accepted = refl;
              code_is = ap (λ (x : EndIs). code_between across x route) there ∙ is;
            });
            reply_is = refl;
          }),
          tt,
        );
        paths = c.paths;
      }

  far-accepts : (h : List BridgeEntry) (side across : ℕ) (far : EndIs) (item : Waiting)
      (code : Option ℕ) → Waits h across item → Comes h side across far
      → Comes h side across (far_accepted far item code)
  far-accepts h side across far item None got c = record {
    sends = each-joined (Waits h across) far.to_send (item ∷ []) c.sends (got, tt);
    gives = c.gives;
    paths = c.paths;
  }
  far-accepts h side across far item (Some code) got c = c

  -- what the step of a Forward or of a Finish tells of it
  abbrev IsMade : List BridgeEntry → ℕ → EndIs → BridgeEntry → Type 0
  IsMade h across near (Forward side old id route request) =
      (id.node ≡ side) × IsPath id.path × Contains h (Accept across old route request)
  IsMade h across near (Finish side id result) =
      (id.node ≡ side) × IsPath id.path × ((relay_path near id.path).last ≡ id.seq)
  IsMade h across near _ = Unit {0}

  near-comes : (past : List BridgeEntry) (across : ℕ) (near far : EndIs) (e : BridgeEntry)
      → end_after plan past across ≡ far → IsMade past across near e
      → Comes (past ++ e ∷ []) (side_of e) across near
      → Comes (past ++ e ∷ []) (side_of e) across (near_after across near far e)
  near-comes past across near far (Accept side id route request) there made c =
      near-accepts past side across near far id route request (code_between across far route) refl
      there c
  near-comes past across near far (Forward side old id route request) there made c =
      let e = Forward side old id route request in
      let h = past ++ e ∷ [] in
      let call = out_call old request in
      let now : RelayPath = record { last = id.seq; out = Some call } in
      let here : IsOutBy h side across (id.path - 1) now = λ other is.
      let same : call ≡ other = cc in
      record {
        id = id;
        route = route;
        request = request;
        function = ap (λ (o : OutCall). o.function) (sym same);
        got = subst (λ (o : OutCall). Contains h (Accept across o.old route request)) same
            (Contains-append_left past (e ∷ []) _ made.2);
        sent = subst (λ (o : OutCall). Contains h (Forward side o.old id route request)) same
            (Contains-push past e);
        node = made.0;
        is_path = made.1;
        path = refl;
        seq = refl;
      } in
      record {
        sends = each-drop (Waits h across) near.to_send c.sends;
        gives = c.gives;
        paths = each-put (IsOutBy h side across) near.paths unused_path (id.path - 1) now c.paths
            here;
      }
  near-comes past across near far (Finish side id result) there made c =
      let h = past ++ Finish side id result ∷ [] in
      let now : RelayPath = record (relay_path near id.path) { out = None } in
      record {
        sends = c.sends;
        gives = c.gives;
        paths = each-put (IsOutBy h side across) near.paths unused_path (id.path - 1) now c.paths
            (λ call is. absurd (let no' : None ≡ Some call = is in cc));
      }
  near-comes past across near far (Back side id reply) there made c =
      let h = past ++ Back side id reply ∷ [] in
      record {
        sends = c.sends;
        gives = each-drop (Given h side across) near.to_give c.gives;
        paths = c.paths;
      }
  near-comes past across near far (Gone side) there made c =
      record { sends = tt; gives = c.gives; paths = c.paths }

  same-name : (one other : CallId) → one.node ≡ other.node → one.path ≡ other.path
      → one.seq ≡ other.seq → one ≡ other
  same-name one other node path seq =
      λ i. record { node = node i; path = path i; seq = seq i }

  -- what a call that ended gives back across
  came-back : (h : List BridgeEntry) (side across : ℕ) (id : CallId) (result : RelayResult)
      (out : Option OutCall) (last : ℕ)
      → Contains h (Finish side id result) → id.node ≡ side → IsPath id.path → last ≡ id.seq
      → ((call : OutCall) → out ≡ Some call → OutBy h side across (id.path - 1) last call)
      → Each (Given h across side) (returned out result)
  came-back h side across id result None last there node path seq by = tt
  came-back h side across id result (Some call) last there node path seq by =
      let out = by call refl in
      let low = path.0 in
      let from = out.is_path.0 in
      let at = out.path in
      let same = same-name out.id id (out.node ∙ sym node) (omega (arith, low, from, at))
      (out.seq ∙ seq) in
      (given out (subst (λ (i : CallId). Contains h (Finish side i result)) (sym same) there), tt)
    where
      given : (o : OutBy h side across (id.path - 1) last call)
          → Contains h (Finish side o.id result)
          → Given h across side (record { id = call.old; reply = reply_of call.function result })
      given o ended = at result ended
        where
          at : (r : RelayResult) → Contains h (Finish side o.id r)
              → Given h across side (record { id = call.old; reply = reply_of call.function r })
          at (Reply reply) ended' = OfCall (record {
            onward = o.id;
            route = o.route;
            request = o.request;
            accepted = o.got;
            sent = o.sent;
            ended = ended';
          })
          at (Bad word) ended' = OfRefusal (record {
            route = o.route;
            request = o.request;
            code = code_of_word word;
            cause = WithoutReply (record {
              onward = o.id;
              word = word;
              accepted = o.got;
              sent = o.sent;
              ended = ended';
              code_is = refl;
            });
            reply_is = ap (λ f. exception_of f (code_of_word word)) o.function;
          })

  -- what waits as an end leaves is given back across
  all-unsent : (past : List BridgeEntry) (side across : ℕ) (items : List Waiting)
      → Each (Waits past across) items
      → Each (λ (w : Waiting). Contains (end_after plan past side).to_send w) items
      → Each (Given (past ++ Gone side ∷ []) across side) (map unsent items)
  all-unsent past side across [] all there = tt
  all-unsent past side across (item ∷ items) all there = (
    OfRefusal (record {
      route = item.route;
      request = item.request;
      code = no_path_code;
      cause = Unsent (record {
        past = past;
        rest = [];
        accepted = all.0;
        waits = there.0;
        gone = refl;
        code_is = refl;
      });
      reply_is = refl;
    }),
    all-unsent past side across items all.1 there.1,
  )

  far-comes : (past : List BridgeEntry) (across other : ℕ) (near far : EndIs) (e : BridgeEntry)
      → end_after plan past (side_of e) ≡ near → IsMade past other near e
      → Comes past (side_of e) other near → Comes (past ++ e ∷ []) other (side_of e) far
      → Comes (past ++ e ∷ []) other (side_of e) (far_after across near far e)
  far-comes past across other near far (Accept side id route request) now made c d =
      far-accepts (past ++ Accept side id route request ∷ []) other side far
      (record { id = id; route = route; request = request }) (code_between across far route)
      (Contains-push past (Accept side id route request)) d
  far-comes past across other near far (Forward side old id route request) now made c d = d
  far-comes past across other near far (Finish side id result) now made c d =
      let e = Finish side id result in
      let h = past ++ e ∷ [] in
      let k = more-comes past e side other near c in
      record {
        sends = d.sends;
        gives = each-joined (Given h other side) far.to_give _ d.gives
            (came-back h side other id result (relay_path near id.path).out
            (relay_path near id.path).last (Contains-push past e) made.0 made.1 made.2
            (k.paths (id.path - 1)));
        paths = d.paths;
      }
  far-comes past across other near far (Back side id reply) now made c d = d
  far-comes past across other near far (Gone side) now made c d =
      let h = past ++ Gone side ∷ [] in
      let waiting = subst (λ (x : EndIs). Each (λ (w : Waiting). Contains x.to_send w) near.to_send)
      (sym now)
      (recursion_from_All (Contains near.to_send) near.to_send
      (All-contains_itself near.to_send)) in
      record {
        sends = d.sends;
        gives = each-joined (Given h other side) far.to_give _ d.gives
            (all-unsent past side other near.to_send c.sends waiting);
        paths = d.paths;
      }

  -- ---- along a list

  record BothCome (h : List BridgeEntry) (relay : RelayIs) : Type 0 where
    left : Comes h plan.left plan.right relay.left
    right : Comes h plan.right plan.left relay.right

  first-has : {X : Type 0} (P : X → Type 0) (xs : List X) (x : X) → Each P xs
      → slice_get xs 0 ≡ Some x → P x
  first-has P [] x all is = absurd (cc)
  first-has P (y ∷ xs) x all is = let same : y ≡ x = cc in subst P same all.0

  -- a Request that is sent on was accepted across
  forward-got : (h : List BridgeEntry) (side across : ℕ) (old id : CallId)
      (route request : List ℕ)
      → IsBridgeStep plan h (Forward side old id route request)
      → Comes h side across (near_end plan (relay_after plan h) side)
      → Contains h (Accept across old route request)
  forward-got h side across old id route request step c =
      let made = forward_made plan h side old id route request step.fits in
      let end = near_end plan (relay_after plan h) side in
      let got = first-has (Waits h across) end.to_send made.item c.sends made.first in
      subst (λ (q : List ℕ). Contains h (Accept across old route q)) (sym made.request_is)
      (subst (λ (i : CallId). Contains h (Accept across i route made.item.request))
      (sym made.old_is)
      (subst (λ (w : List ℕ). Contains h (Accept across made.item.id w made.item.request))
      (sym made.route_is) got))

  -- a reply that is given back came from something
  back-got : (h : List BridgeEntry) (side across : ℕ) (id : CallId) (reply : List ℕ)
      → IsBridgeStep plan h (Back side id reply)
      → Comes h side across (near_end plan (relay_after plan h) side)
      → BackCause plan h side across id reply
  back-got h side across id reply step c =
      at (near_end plan (relay_after plan h) side).to_give c.gives step.fits
    where
      at : (items : List Returned) → Each (Given h side across) items
          → option_map (returned_by side) (slice_get items 0) ≡ Some (Back side id reply)
          → BackCause plan h side across id reply
      at [] all is = absurd (cc)
      at (item ∷ items) all is =
          let one : item.id ≡ id = cc in
          let two : item.reply ≡ reply = cc in
          subst (λ (x : CallId). BackCause plan h side across x reply) one
          (subst (BackCause plan h side across item.id) two all.0)

  step-made : (past : List BridgeEntry) (across : ℕ) (e : BridgeEntry) → IsBridgeStep plan past e
      → Comes past (side_of e) across (near_end plan (relay_after plan past) (side_of e))
      → IsMade past across (near_end plan (relay_after plan past) (side_of e)) e
  step-made past across (Accept side id route request) step c = tt
  step-made past across (Forward side old id route request) step c =
      let made = forward_made plan past side old id route request step.fits in (
        ap (λ (i : CallId). i.node) made.id_is,
        made.path.is_path,
        forward-got past side across old id route request step c,
      )
  step-made past across (Finish side id result) step c =
      let parts = and_parts _ _ step.fits in
      let named = and_parts _ _ parts.0 in (
        eqb-true id.node side named.0,
        known_path id.path named.1,
        eqb-true _ _ (and_parts _ _ parts.1).1,
      )
  step-made past across (Back side id reply) step c = tt
  step-made past across (Gone side) step c = tt

  -- both ends behind an entry of the one on the left, and of the one on the right
  by-left : (past : List BridgeEntry) (relay : RelayIs) (e : BridgeEntry)
      → IsBridgePlan plan → relay_after plan past ≡ relay → IsBridgeStep plan past e
      → side_of e ≡ plan.left → BothCome past relay
      → Comes (past ++ e ∷ []) plan.left plan.right
      (near_after plan.right relay.left relay.right e)
      × Comes (past ++ e ∷ []) plan.right plan.left
      (far_after plan.right relay.left relay.right e)
  by-left past relay e sound now step is k =
      let h = past ++ e ∷ [] in
      let near-is : near_end plan (relay_after plan past) (side_of e) ≡ relay.left =
      near-left plan (relay_after plan past) (side_of e) is ∙ ap (λ (r : RelayIs). r.left) now in
      let far-is : end_after plan past plan.right ≡ relay.right =
      near-right plan (relay_after plan past) plan.right (λ m. sound.two_ends (sym m))
      ∙ ap (λ (r : RelayIs). r.right) now in
      let here = subst (λ (n : ℕ). Comes past n plan.right relay.left) (sym is) k.left in
      let made = subst (λ (x : EndIs). IsMade past plan.right x e) near-is
      (step-made past plan.right e step
      (subst (Comes past (side_of e) plan.right) (sym near-is) here)) in
      let near = more-comes past e (side_of e) plan.right relay.left here in
      let far = subst (λ (n : ℕ). Comes h plan.right n relay.right) (sym is)
      (more-comes past e plan.right plan.left relay.right k.right) in (
        subst (λ (n : ℕ). Comes h n plan.right (near_after plan.right relay.left relay.right e)) is
            (near-comes past plan.right relay.left relay.right e far-is made near),
        subst (λ (n : ℕ). Comes h plan.right n (far_after plan.right relay.left relay.right e)) is
            (far-comes past plan.right plan.right relay.left relay.right e near-is made here far),
      )

  by-right : (past : List BridgeEntry) (relay : RelayIs) (e : BridgeEntry)
      → relay_after plan past ≡ relay → IsBridgeStep plan past e
      → side_of e ≢ plan.left → side_of e ≡ plan.right → BothCome past relay
      → Comes (past ++ e ∷ []) plan.right plan.left
      (near_after plan.left relay.right relay.left e)
      × Comes (past ++ e ∷ []) plan.left plan.right
      (far_after plan.left relay.right relay.left e)
  by-right past relay e now step other is k =
      let h = past ++ e ∷ [] in
      let near-is : near_end plan (relay_after plan past) (side_of e) ≡ relay.right =
      near-right plan (relay_after plan past) (side_of e) other
      ∙ ap (λ (r : RelayIs). r.right) now in
      let far-is : end_after plan past plan.left ≡ relay.left =
      near-left plan (relay_after plan past) plan.left refl ∙ ap (λ (r : RelayIs). r.left) now in
      let here = subst (λ (n : ℕ). Comes past n plan.left relay.right) (sym is) k.right in
      let made = subst (λ (x : EndIs). IsMade past plan.left x e) near-is
      (step-made past plan.left e step
      (subst (Comes past (side_of e) plan.left) (sym near-is) here)) in
      let near = more-comes past e (side_of e) plan.left relay.right here in
      let far = subst (λ (n : ℕ). Comes h plan.left n relay.left) (sym is)
      (more-comes past e plan.left plan.right relay.left k.left) in (
        subst (λ (n : ℕ). Comes h n plan.left (near_after plan.left relay.right relay.left e)) is
            (near-comes past plan.left relay.right relay.left e far-is made near),
        subst (λ (n : ℕ). Comes h plan.left n (far_after plan.left relay.right relay.left e)) is
            (far-comes past plan.left plan.left relay.right relay.left e near-is made here far),
      )

  one-more : (past : List BridgeEntry) (e : BridgeEntry) → IsBridgePlan plan
      → IsBridgeStep plan past e → BothCome past (relay_after plan past)
      → BothCome (past ++ e ∷ []) (relay_after plan (past ++ e ∷ []))
  one-more past e sound step k =
      let relay = relay_after plan past in
      let h = past ++ e ∷ [] in
      elim (cases_eq (side_of e) plan.left) [
        | inl is ↦
            let two = by-left past relay e sound refl step is k in
            subst (BothCome h)
            (sym (after_more plan past e ∙ step_left plan relay.left relay.right e is))
            (record { left = two.0; right = two.1 })
        | inr other ↦
            let is : side_of e ≡ plan.right =
            elim step.side.end [ inl m ↦ absurd (other m) | inr m ↦ m ] in
            let two = by-right past relay e refl step other is k in
            subst (BothCome h)
            (sym (after_more plan past e ∙ step_right plan relay.left relay.right e other))
            (record { left = two.1; right = two.0 })
      ]

  all-come : (past more rest : List BridgeEntry) → IsBridgePlan plan
      → IsBridgeHistory plan (past ++ (more ++ rest)) → BothCome past (relay_after plan past)
      → BothCome (past ++ more) (relay_after plan (past ++ more))
  all-come past [] rest sound legal k =
      subst (λ (l : List BridgeEntry). BothCome l (relay_after plan l)) (sym (append-nil past)) k
  all-come past (e ∷ more) rest sound legal k =
      subst (λ (l : List BridgeEntry). BothCome l (relay_after plan l))
      (append_assoc past (e ∷ []) more)
      (all-come (past ++ e ∷ []) more rest sound
      (subst (IsBridgeHistory plan) (sym (append_assoc past (e ∷ []) (more ++ rest))) legal)
      (one-more past e sound (legal past (more ++ rest) e refl) k))

  new-path : (at : ℕ) → (get_or new_end.paths at unused_path).out ≡ None
  new-path zero = refl
  new-path (suc zero) = refl
  new-path (suc (suc zero)) = refl
  new-path (suc (suc (suc zero))) = refl
  new-path (suc (suc (suc (suc at)))) = refl

  new-comes : (side across : ℕ) → Comes [] side across new_end
  new-comes side across = record {
    sends = tt;
    gives = tt;
    paths = λ at call is.
        absurd (let no' : None ≡ Some call = sym (new-path at) ∙ is in cc);
  }

  -- what an end has comes from a front of a legal list
  comes-at : (list before rest : List BridgeEntry) (side : ℕ) → IsBridgePlan plan
      → IsBridgeHistory plan list → list ≡ before ++ rest → IsEnd plan side
      → Comes before side (far_side plan side) (near_end plan (relay_after plan before) side)
  comes-at list before rest side sound legal is end =
      let k = all-come [] before rest sound (subst (IsBridgeHistory plan) is legal)
      (record {
        left = new-comes plan.left plan.right;
        right = new-comes plan.right plan.left;
      }) in
      let relay = relay_after plan before in
      elim (cases_eq side plan.left) [
        | inl at ↦
            let across : far_side plan side ≡ plan.right =
            ap (λ (b : Bool). cond b plan.right plan.left) (eq-eqb side plan.left at) in
            subst (Comes before side (far_side plan side)) (sym (near-left plan relay side at))
            (subst (λ (n : ℕ). Comes before side n relay.left) (sym across)
            (subst (λ (n : ℕ). Comes before n plan.right relay.left) (sym at) k.left))
        | inr other ↦
            let at : side ≡ plan.right = elim end [ inl m ↦ absurd (other m) | inr m ↦ m ] in
            let across : far_side plan side ≡ plan.left =
            ap (λ (b : Bool). cond b plan.right plan.left) (ne_eqb side plan.left other) in
            subst (Comes before side (far_side plan side)) (sym (near-right plan relay side other))
            (subst (λ (n : ℕ). Comes before side n relay.right) (sym across)
            (subst (λ (n : ℕ). Comes before n plan.left relay.right) (sym at) k.right))
      ]

pub forwards-follow : ForwardsFollowAccepts
forwards-follow plan list before after side old id route request sound legal is =
    let step = legal before after (Forward side old id route request) is in
    forward-got plan before side (far_side plan side) old id route request step
    (comes-at plan list before (Forward side old id route request ∷ after) side sound legal is
    step.side.end)

pub backs-follow : BacksFollowCauses
backs-follow plan list before after side id reply sound legal is =
    let step = legal before after (Back side id reply) is in
    back-got plan before side (far_side plan side) id reply step
    (comes-at plan list before (Back side id reply ∷ after) side sound legal is step.side.end)
