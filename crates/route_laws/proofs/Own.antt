-- An effect is the call's own: its request, and what ends it.
use Rattle.std.proofs.Common.{◌≡◌, ◌≢◌, ℕ, ◌==◌, ◌≤◌, ◌++◌, Bool, true, false, List, [], ◌∷◌}
use Rattle.std.proofs.Common.{length, Option, Some, None, refl, sym, ap, ◌∙◌, subst, inl, inr}
use Rattle.std.proofs.Common.{⊎_elim}
use Rattle.std.specs.Prelude.{Contains, count_by, if◌then◌else◌, nat_le}
use Rattle.std.specs.List.{cons_option}
use Rattle.std.proofs.lemmas.Bool.{and_from, cases_eq, eq-eqb, eqb-true}
use Rattle.std.proofs.lemmas.List.Elements.{All-contains, Contains-append_right}
use Rattle.std.proofs.lemmas.List.Sums.{count_by-le-length}
use Rattle.plant_types.specs.declared.plan.Plant.{Plant}
use Rattle.plant_types.specs.Plans.{IsPlant}
use Rattle.mstr_block.specs.declared.call.CallId.{CallId}
use Rattle.mstr_block.specs.declared.call.MstrResult.{MstrResult}
use Rattle.ring_core.specs.declared.entry.LocalOp.{LocalOp}
use Rattle.ring_core.specs.declared.entry.RingEntry.{RingEntry}
use Rattle.ring_core.specs.declared.entry.RingEntry.TheVariants.{Post, Send, Take, Local, GiveUp}
use Rattle.ring_core.specs.declared.entry.RingEntry.TheVariants.{Pass, Leave, Join}
use Rattle.ring_core.specs.declared.frame.Frame.{Frame}
use Rattle.ring_core.specs.declared.frame.FrameKind.{FrameKind}
use Rattle.ring_core.specs.declared.frame.FrameKind.TheVariants as kinds
use Rattle.ring_laws.proofs.Lists.{contains-count, each-contains, only-one, same-refl}
use Rattle.controller_core.specs.declared.call.CallKind.{CallKind}
use Rattle.controller_core.specs.declared.call.CallKind.TheVariants as calls
use Rattle.reply_laws.specs.Result.{result_of}
use Rattle.tied_lists.specs.Own.{own}
use Rattle.tied_lists.specs.Items.{ABridge, AController, AHost, Asked, AtHome, CallSort, Called}
use Rattle.tied_lists.specs.Items.{Came, Ended, Kind, Lacked, LocalCall, NetCall, OverNet, Replied}
use Rattle.tied_lists.specs.Items.{Station, asked_by, asked_of, ended_by, ended_in, ended_of}
use Rattle.tied_lists.specs.Items.{kind_of_sort, last_asked, no_items, outcome_of_reply}
use Rattle.tied_lists.specs.Items.{outcome_of_word, result_for}
use Rattle.joint_history.specs.declared.joint.ControllerLog.{ControllerLog}
use Rattle.joint_history.specs.declared.joint.Joint.{Joint}
use Rattle.joint_history.specs.JointLaws.{IsJoint, IsLegalHostLog, IsLegalJoint, IsLegalLog}
use Rattle.joint_history.specs.JointLaws.{IsTiedController, IsTiedHost, fixed_of}
use Rattle.joint_history.specs.Nets.{noted_on_rings}
use Rattle.joint_history.specs.Reading.{answered_here, called_of, host_items_of, items_of, sort_of}
use Rattle.joint_history.proofs.Collected.{CallLaws}
use Rattle.effect_laws.specs.Answers.{NodeAnswers}
use Rattle.effect_laws.proofs.Calls.{OfCall, call-facts, is_called}
use Rattle.effect_laws.proofs.Gave.{CollectIn, call-in}
use Rattle.effect_laws.proofs.Homes.{acts_at_home}
use Rattle.effect_laws.proofs.Reports.{answer-ends, finish-ends}
use Rattle.effect_laws.proofs.Sources.{EndAt, EndedBy, by_port, by_reply, by_word, end-at, ended-by}
use Rattle.effect_laws.proofs.Sources.{behind, first-or-behind, here, in-none, in-own, of-own}
use Rattle.effect_laws.proofs.Words.{came-same}
use Rattle.route_laws.specs.Ends.{AsksOwnPort}
use Rattle.route_laws.specs.Laws.{AllEffectsAreOwn}
use Rattle.route_laws.specs.Own.{AnswersAreOwn, AsAccepted, AsAnswered, AsAsked, AsMissed, Asks}
use Rattle.route_laws.specs.Own.{CameBy, CameTo, FinishesAreOwn, IsNoted, IsReplyTo, IsResultOf}
use Rattle.route_laws.specs.Own.{OfException, OfReply, OfWord, PortsDoTheirCalls, RelaysAreOwn}
use Rattle.route_laws.specs.Own.{RequestsAreOwn}
use Rattle.route_laws.specs.Ways.{SentOn, names_on_way, sent_on_in}
use Rattle.route_laws.proofs.AtEnd.{IsOwn, asks-requested, calls-own, called-requested}
use Rattle.route_laws.proofs.AtEnd.{collect-told, effect-home, home-unasked, port-request}
use Rattle.route_laws.proofs.Causes.{exception-result, plan-of}
use Rattle.route_laws.proofs.Comes.{EndReply, TookReply, reply-end}
use Rattle.route_laws.proofs.Hops.{accepted-requested, answered-requested, partner, reached}
use Rattle.route_laws.proofs.Hops.{sent-requested}
use Rattle.route_laws.proofs.Made.{home-called, kind-called, own-there}
use Rattle.route_laws.proofs.Noted.{off-told, peer-told, served-told}
use Rattle.route_laws.proofs.Out.{host-asked, relay-sent}
use Rattle.route_laws.proofs.Places.{size_of}
use Rattle.route_laws.proofs.Requests.{Requested, requested-as, same-request}
use Rattle.route_laws.proofs.Results.{asked-last}
use Rattle.route_laws.proofs.Sides.{finish-told}
use Rattle.route_laws.proofs.Traces.{EndedAt, ended-at, entry-end, side-tied}

-- ---- kinds of ends

-- the kind of call that an entry of a node ends
abbrev kind_by : RingEntry → Option Kind
kind_by (Take n f) = Some NetCall
kind_by (GiveUp id word) = Some NetCall
kind_by (Local n id op result) = Some (LocalCall op)
kind_by _ = None

take-kind : (station : Station) (asked : List Asked) (f : Frame) (kind : FrameKind) (end' : Ended)
    → ended_in station asked kind f ≡ Some end' → end'.kind ≡ Some NetCall
take-kind station asked f kinds.Request end' is = absurd cc
take-kind station asked f kinds.Reply end' is =
    let this : Ended = record {
      id = f.id;
      kind = Some NetCall;
      outcome = outcome_of_reply station (last_asked f.id asked) f.pdu;
    } in
    let same : this ≡ end' = cc in
    ap (λ (x : Ended). x.kind) (sym same)

home-kind : (station : Station) (asked : List Asked) (n : ℕ) (id : CallId) (op : LocalOp)
    (result : MstrResult) (end' : Ended)
    → ended_of station asked (Local n id op result) ≡ Some end'
    → end'.kind ≡ Some (LocalCall op)
home-kind station asked n id op result end' is = at (id.node == n) is
  where
    this : Ended
    this = record { id = id; kind = Some (LocalCall op); outcome = Came result }

    at : (b : Bool) → (if b then Some this else None) ≡ Some end'
        → end'.kind ≡ Some (LocalCall op)
    at true is' = let same : this ≡ end' = cc in ap (λ (x : Ended). x.kind) (sym same)
    at false is' = absurd cc

ended-kind : (station : Station) (asked : List Asked) (x : RingEntry) (end' : Ended)
    → ended_of station asked x ≡ Some end' → end'.kind ≡ kind_by x
ended-kind station asked (Post n f) end' is = absurd cc
ended-kind station asked (Send n heard) end' is = absurd cc
ended-kind station asked (Take n f) end' is = take-kind station asked f f.kind end' is
ended-kind station asked (Local n id op result) end' is =
    home-kind station asked n id op result end' is
ended-kind station asked (GiveUp id word) end' is =
    let this : Ended = record {
      id = id;
      kind = Some NetCall;
      outcome = outcome_of_word station word;
    } in
    let same : this ≡ end' = cc in
    ap (λ (x : Ended). x.kind) (sym same)
ended-kind station asked (Pass n done words) end' is = absurd cc
ended-kind station asked (Leave n cause) end' is = absurd cc
ended-kind station asked (Join n) end' is = absurd cc

-- what a port did for its own node ended a call
cons-first : {X : Type 0} (o : Option X) (xs : List X) (x : X) → o ≡ Some x
    → Contains (cons_option o xs) x
cons-first o xs x is = subst (λ (p : Option _). Contains (cons_option p xs) x) (sym is) (here x xs)

cons-behind : {X : Type 0} (o : Option X) (xs : List X) (x : X) → Contains xs x
    → Contains (cons_option o xs) x
cons-behind None xs x there = there
cons-behind (Some y) xs x there = behind y xs x there

home-ends : (station : Station) (asked : List Asked) (b : List RingEntry) (n : ℕ) (id : CallId)
    (op : LocalOp) (result : MstrResult) → (id.node == n) ≡ true
    → Contains b (Local n id op result)
    → Contains (ended_by station asked b)
    (record { id = id; kind = Some (LocalCall op); outcome = Came result })
home-ends station asked [] n id op result mine there = absurd (in-none _ there)
home-ends station asked (x ∷ b) n id op result mine there =
    let this : Ended = record { id = id; kind = Some (LocalCall op); outcome = Came result } in
    let rest = ended_by station (asked ++ cons_option (asked_of x) []) b in
    ⊎_elim
    (λ (same : x ≡ Local n id op result).
    cons-first (ended_of station asked x) rest this
    (ap (ended_of station asked) same ∙ ap (λ c. if c then Some this else None) mine))
    (λ (more : Contains b (Local n id op result)).
    cons-behind (ended_of station asked x) rest this
    (home-ends station (asked ++ cons_option (asked_of x) []) b n id op result mine more))
    (first-or-behind x b (Local n id op result) there)

some-kind : (one other : Kind) → Some one ≡ Some other → one ≡ other
some-kind one other is = cc

local-same : (one other : LocalOp) → LocalCall one ≡ LocalCall other → one ≡ other
local-same one other is = cc

module _ (laws : CallLaws) (plant : Plant) (scans : ℕ) (joint : Joint) (is : IsPlant plant)
    (legal : IsLegalJoint plant scans joint) (tied : IsJoint joint) where
  -- ---- the request

  -- what was asked was posted
  all-requested : (id : CallId) (route request : List ℕ) → Asks joint id route request
      → Requested (noted_on_rings joint) id route request
  all-requested id route request (inl by) =
      asks-requested laws plant scans joint is legal tied id route request by
  all-requested id route request (inr (log, there, side, old, sent)) =
      let p = plan-of plant scans joint log is legal there in
      sent-requested plant scans joint is legal tied p.plan log side old id route request p.legal
      there sent

  at-home-counts : (name : CallId) (n : ℕ) (op : LocalOp) (result : MstrResult) → name.node ≡ n
      → Contains (noted_on_rings joint) (Local n name op result)
      → 1 ≤ count_by (acts_at_home name) (own name.node (noted_on_rings joint))
  at-home-counts name n op result home there =
      let ring = noted_on_rings joint in
      let e = Local n name op result in
      contains-count (acts_at_home name) (own name.node ring) e
      (and_from _ _ (same-refl name) (eq-eqb name.node n home))
      (in-own name.node ring e (eq-eqb n name.node (sym home)) there)

  -- what a node answered was asked of it
  answer-asked : (name : CallId) (n : ℕ) (noted reply : List ℕ)
      → NodeAnswers joint n name noted reply → (way bytes : List ℕ)
      → Requested (noted_on_rings joint) name way bytes
      → Requested (noted_on_rings joint) name (n ∷ []) noted
  answer-asked name n noted reply (inl (log, there, node, peer)) way bytes r =
      let t = All-contains (IsTiedController (noted_on_rings joint)) joint.controllers log
      tied.controllers there in
      requested-as (answered-requested plant scans joint is legal tied log.node
      (items_of log.entries) (answered_here name noted (Some reply)) noted t.peers
      (peer-told log.entries name noted reply peer) refl) refl (λ i. node i ∷ []) refl
  answer-asked name n noted reply (inr (inl (log, there, node, served))) way bytes r =
      let t = All-contains (IsTiedHost (noted_on_rings joint)) joint.hosts log tied.hosts there in
      requested-as (answered-requested plant scans joint is legal tied log.node
      (host_items_of log.entries) (answered_here name noted (Some reply)) noted t.peers
      (served-told log.entries name noted reply served) refl) refl (λ i. node i ∷ []) refl
  answer-asked name n noted reply (inr (inr (op, result, there, asked, told))) way bytes r =
      ⊎_elim
      (λ (home : name.node ≡ n).
      absurd (home-unasked laws plant scans joint is legal tied name way bytes
      (at-home-counts name n op result home there) r))
      (λ (other : name.node ≢ n).
      let port = port-request laws plant scans joint is legal tied name n op result other there in
      requested-as port.2 refl refl (some-same port.0 noted (sym port.1 ∙ asked)))
      (cases_eq name.node n)
    where
      some-same : (one two : List ℕ) → Some one ≡ Some two → one ≡ two
      some-same one two e = cc

  noted-asked : (name : CallId) (left noted : List ℕ) → IsNoted joint name left noted
      → (way bytes : List ℕ) → Requested (noted_on_rings joint) name way bytes
      → Requested (noted_on_rings joint) name left noted
  noted-asked name left noted (AsAsked asks) way bytes r = all-requested name left noted asks
  noted-asked name left noted (AsAccepted side rest (log, there, got) left_is) way bytes r =
      let p = plan-of plant scans joint log is legal there in
      requested-as (accepted-requested plant scans joint is legal tied p.plan log side name rest
      noted p.legal there got) refl (sym left_is) refl
  noted-asked name left noted (AsAnswered n reply answers left_is) way bytes r =
      requested-as (answer-asked name n noted reply answers way bytes r) refl (sym left_is) refl
  noted-asked name left noted (AsMissed n (log, there, node, off) left_is) way bytes r =
      let t = All-contains (IsTiedController (noted_on_rings joint)) joint.controllers log
      tied.controllers there in
      requested-as (answered-requested plant scans joint is legal tied log.node
      (items_of log.entries) (answered_here name noted None) noted t.peers
      (off-told log.entries name noted off) refl) refl ((λ i. node i ∷ []) ∙ sym left_is) refl

  own-requests : RequestsAreOwn joint
  own-requests id route request asks name among left noted is_noted =
      let to = reached plant scans joint is legal tied (length (sent_on_in joint)) id route request
      (all-requested id route request asks) name among in
      let r = noted-asked name left noted is_noted to.rest request to.requested in
      let same = same-request plant scans joint is legal tied name to.rest left request noted
      to.requested r in
      record {
        way = to.way;
        route_is = to.route_is ∙ ap (λ (l : List ℕ). to.way ++ l) same.0;
        request_is = sym same.1;
      }

  -- ---- ports

  own-ports : PortsDoTheirCalls joint
  own-ports id op asks n done result there =
      (node, same asks)
    where
      node : n ≡ id.node
      node = effect-home laws plant scans joint is legal tied id op asks id
          (own-there (sent_on_in joint) (length (sent_on_in joint)) id) n
          (inr (inr (done, result, there)))

      same : AsksOwnPort joint id op → done ≡ op
      same (log, log_there, calls, listed, call, among, named, local) =
          let ring = noted_on_rings joint in
          let a = items_of log.entries in
          let t = All-contains (IsTiedController ring) joint.controllers log tied.controllers
          log_there in
          let plan = partner (IsLegalLog plant scans) plant.controllers joint.controllers log
          legal.controllers log_there in
          let facts = call-facts laws (fixed_of plant scans plan.0) log.entries plan.1.1 in
          let c : Called = record { id = id; sort = AtHome op } in
          let is_c : called_of call ≡ c =
          λ i. record { id = named i; sort = ap sort_of local i } in
          let made = subst (λ (x : Called). Contains a.calls x) is_c
          (collect-told no_items log.entries calls call listed among) in
          let home = each-contains (IsOwn plan.0.node) a.calls c
          (calls-own laws (fixed_of plant scans plan.0) log.entries plan.1.1) made in
          let at : n ≡ log.node = node ∙ home ∙ sym plan.1.0 in
          let mine = in-own log.node ring (Local n id done result) (eq-eqb n log.node at) there in
          let end' : Ended =
          record { id = id; kind = Some (LocalCall done); outcome = Came result } in
          let ended = subst (λ (l : List Ended). Contains l end') (sym t.ends)
          (home-ends AController [] (own log.node ring) n id done result
          (eq-eqb id.node n (sym node)) mine) in
          let of = each-contains (OfCall a.calls) a.ends end' facts.kinds ended in
          let called = home-called a.calls id done (of.2 ∙ sym of.1) in
          let one = only-one (is_called id) a.calls
          (record { id = id; sort = AtHome done }) c (facts.calls id)
          (same-refl id) (same-refl id) called made in
          local-same done op (ap (λ (x : Called). kind_of_sort x.sort) one)

  -- ---- what ends a call

  -- a Reply that was taken
  reply-own : (id : CallId) (route request : List ℕ) (m : ℕ) (f : Frame)
      → Contains (noted_on_rings joint) (Take m f) → f.kind ≡ kinds.Reply → f.id ≡ id
      → Requested (noted_on_rings joint) id route request
      → EndReply joint (names_on_way joint id) route request f.pdu
  reply-own id route request m f there kind named r =
      let sent = sent_on_in joint in
      let size = size_of (noted_on_rings joint) in
      let took : TookReply joint id f.pdu = record {
        node = m;
        frame = f;
        there = there;
        kind = kind;
        same = named;
        reply_is = refl;
      } in
      reply-end laws plant scans joint is legal tied (length sent) id f.pdu
      (count_by-le-length (λ (s : SentOn). nat_le (size s.old) (size id)) sent) took route request
      r

  -- what ended a call of a host or of a bridge
  plain-came : (station : Station) (end' : Ended) (route request : List ℕ)
      → ((asked : Option (List ℕ)) (reply : List ℕ)
      → outcome_of_reply station asked reply ≡ Replied reply)
      → ((word : ℕ) → outcome_of_word station word ≡ Lacked word)
      → EndedAt (noted_on_rings joint) station end'
      → Requested (noted_on_rings joint) end'.id route request
      → CameTo joint end'.id route request end'.outcome
  plain-came station end' route request replies words at r = by at.entry at.there at.by
    where
      by : (e : RingEntry) → Contains (noted_on_rings joint) e → EndedBy station at.asked e end'
          → CameTo joint end'.id route request end'.outcome
      by e there (by_reply m f e_is kind named outcome) =
          let taken = subst (λ (x : RingEntry). Contains (noted_on_rings joint) x) e_is there in
          let reply : IsReplyTo joint end'.id route request f.pdu =
          (reply-own end'.id route request m f taken kind named r).by in
          subst (CameTo joint end'.id route request) (sym (replies _ f.pdu) ∙ outcome) reply
      by e there (by_word word e_is outcome) =
          let given = subst (λ (x : RingEntry). Contains (noted_on_rings joint) x) e_is there in
          subst (CameTo joint end'.id route request) (sym (words word) ∙ outcome) given
      by e there (by_port m op result e_is mine outcome) =
          let noted = subst (λ (x : RingEntry). Contains (noted_on_rings joint) x) e_is there in
          absurd (home-unasked laws plant scans joint is legal tied end'.id route request
          (at-home-counts end'.id m op result (eqb-true end'.id.node m mine) noted) r)

  own-answers : AnswersAreOwn joint
  own-answers log id result there answered =
      let ring = noted_on_rings joint in
      let t = All-contains (IsTiedHost ring) joint.hosts log tied.hosts there in
      let plan = partner IsLegalHostLog plant.hosts joint.hosts log legal.hosts there in
      let asked = host-asked plan.0 log.entries id result plan.1.1 answered in
      let r = asks-requested laws plant scans joint is legal tied id asked.route asked.request
      (inr (log, there, asked.there)) in
      let told = answer-ends log.entries id result answered in
      let at = ended-at ring AHost log.node _ told.end' t.ends told.there in
      record {
        route = asked.route;
        request = asked.request;
        asked = asked.there;
        came = subst (CameTo joint id asked.route asked.request) told.outcome_is
            (subst (λ (i : CallId). CameTo joint i asked.route asked.request told.end'.outcome)
            told.id_is (plain-came AHost told.end' asked.route asked.request
            (λ q reply. refl) (λ word. refl) at (requested-as r (sym told.id_is) refl refl)));
      }

  own-relays : RelaysAreOwn joint
  own-relays log side id result there finished =
      let ring = noted_on_rings joint in
      let p = plan-of plant scans joint log is legal there in
      let sent = relay-sent p.plan log.entries side id result p.sound p.legal.2 finished in
      let r = sent-requested plant scans joint is legal tied p.plan log side sent.old id sent.route
      sent.request p.legal there sent.there in
      let t = side-tied plant scans joint is legal tied p.plan log side p.legal there
      (entry-end plant scans joint is legal tied p.plan log.entries _ p.legal.2 finished) in
      let told = finish-told log.entries side id result finished in
      let at = ended-at ring ABridge side _ told.end' t.ends told.there in
      record {
        old = sent.old;
        route = sent.route;
        request = sent.request;
        sent = sent.there;
        came = subst (CameTo joint id sent.route sent.request) told.outcome_is
            (subst (λ (i : CallId). CameTo joint i sent.route sent.request told.end'.outcome)
            told.id_is (plain-came ABridge told.end' sent.route sent.request
            (λ q reply. refl) (λ word. refl) at (requested-as r (sym told.id_is) refl refl)));
      }

  -- ---- what ended a controller's call

  -- a Reply came to its result, and a bridge's exception to that of its code
  reply-result : (id : CallId) (route request reply : List ℕ)
      → IsReplyTo joint id route request reply
      → IsResultOf joint id route request (result_of request reply)
  reply-result id route request reply (inl answered) = OfReply reply answered refl
  reply-result id route request reply (inr refused) = OfException reply refused
      (ap (result_of request) refused.is ∙ exception-result request refused.code)

  net-came : (log : ControllerLog) (end' : Ended) (route request : List ℕ)
      (before : List RingEntry) (e : RingEntry) (after : List RingEntry)
      → own log.node (noted_on_rings joint) ≡ before ++ e ∷ after
      → EndedBy AController (asked_by before) e end'
      → Requested (noted_on_rings joint) end'.id route request
      → CameTo joint end'.id route request end'.outcome
  net-came log end' route request before e after own_is by r = at by
    where
      there : Contains (noted_on_rings joint) e
      there = (of-own log.node (noted_on_rings joint) e
          (subst (λ (l : List RingEntry). Contains l e) (sym own_is)
          (Contains-append_right before (e ∷ after) e (here e after)))).0

      at : EndedBy AController (asked_by before) e end'
          → CameTo joint end'.id route request end'.outcome
      at (by_reply m f e_is kind named outcome) =
          let taken = subst (λ (x : RingEntry). Contains (noted_on_rings joint) x) e_is there in
          let placed = subst
          (λ (x : RingEntry). own log.node (noted_on_rings joint) ≡ before ++ x ∷ after) e_is
          own_is in
          let last = asked-last laws plant scans joint is legal tied log.node before after m f
          placed kind in
          let same = same-request plant scans joint is legal tied end'.id last.ask.route route
          last.ask.pdu request (requested-as last.requested named refl refl) r in
          let result = ap (λ (o : Option (List ℕ)). Came (result_for o f.pdu))
          (last.last ∙ ap (λ (l : List ℕ). Some l) same.1) in
          subst (CameTo joint end'.id route request) (sym result ∙ outcome)
          (reply-result end'.id route request f.pdu
          (reply-own end'.id route request m f taken kind named r).by)
      at (by_word word e_is outcome) =
          subst (CameTo joint end'.id route request) outcome (OfWord word
          (subst (λ (x : RingEntry). Contains (noted_on_rings joint) x) e_is there) refl)
      at (by_port m op result e_is mine outcome) =
          let noted = subst (λ (x : RingEntry). Contains (noted_on_rings joint) x) e_is there in
          absurd (home-unasked laws plant scans joint is legal tied end'.id route request
          (at-home-counts end'.id m op result (eqb-true end'.id.node m mine) noted) r)

  home-came : (end' : Ended) (op : LocalOp) (result : MstrResult) (asked : List Asked)
      (e : RingEntry) → Contains (noted_on_rings joint) e → EndedBy AController asked e end'
      → kind_by e ≡ Some (LocalCall op) → end'.outcome ≡ Came result
      → Contains (noted_on_rings joint) (Local end'.id.node end'.id op result)
  home-came end' op result asked e there (by_reply m f e_is kind named outcome) home out =
      absurd (let no' : Some NetCall ≡ Some (LocalCall op) = ap kind_by (sym e_is) ∙ home in cc)
  home-came end' op result asked e there (by_word word e_is outcome) home out =
      absurd (let no' : Some NetCall ≡ Some (LocalCall op) = ap kind_by (sym e_is) ∙ home in cc)
  home-came end' op result asked e there (by_port m done told e_is mine outcome) home out =
      let ops = local-same done op (some-kind (LocalCall done) (LocalCall op)
      (ap kind_by (sym e_is) ∙ home)) in
      let results = came-same told result (outcome ∙ out) in
      let nodes = eqb-true end'.id.node m mine in
      subst (λ (x : RingEntry). Contains (noted_on_rings joint) x)
      (e_is ∙ (λ i. Local (sym nodes i) end'.id (ops i) (results i))) there

  finish-came : (log : ControllerLog) (end' : Ended) (result : MstrResult) (c : Called)
      (kind : CallKind) → Contains joint.controllers log
      → Contains (items_of log.entries).calls c → c.id ≡ end'.id → c.sort ≡ sort_of kind
      → end'.kind ≡ Some (kind_of_sort c.sort) → end'.outcome ≡ Came result
      → EndAt AController [] (own log.node (noted_on_rings joint)) end'
      → CameBy joint end'.id kind result
  finish-came log end' result c (calls.Net route request) there among name sort kind out w =
      let ring = noted_on_rings joint in
      let t = All-contains (IsTiedController ring) joint.controllers log tied.controllers there in
      let that : Called = record { id = end'.id; sort = OverNet route request } in
      let same : c ≡ that = λ i. record { id = name i; sort = sort i } in
      let r = called-requested laws plant scans joint is legal tied log.node
      (items_of log.entries) end'.id route request t.asks
      (subst (λ (x : Called). Contains (items_of log.entries).calls x) same among) in
      subst (CameTo joint end'.id route request) out
      (net-came log end' route request w.before w.entry w.after w.is
      (ended-by AController (asked_by w.before) w.entry end' w.ended) r)
  finish-came log end' result c (calls.Local op) there among name sort kind out w =
      let ring = noted_on_rings joint in
      let noted = (of-own log.node ring w.entry
      (subst (λ (l : List RingEntry). Contains l w.entry) (sym w.is)
      (Contains-append_right w.before (w.entry ∷ w.after) w.entry (here w.entry w.after)))).0 in
      let home = sym (ended-kind AController (asked_by w.before) w.entry end' w.ended) ∙ kind
      ∙ ap (λ (s : CallSort). Some (kind_of_sort s)) sort in
      home-came end' op result (asked_by w.before) w.entry noted
      (ended-by AController (asked_by w.before) w.entry end' w.ended) home out

  own-finishes : FinishesAreOwn joint
  own-finishes log id result there finished =
      let ring = noted_on_rings joint in
      let a = items_of log.entries in
      let t = All-contains (IsTiedController ring) joint.controllers log tied.controllers there in
      let plan = partner (IsLegalLog plant scans) plant.controllers joint.controllers log
      legal.controllers there in
      let facts = call-facts laws (fixed_of plant scans plan.0) log.entries plan.1.1 in
      let told = finish-ends log.entries id result finished in
      let end' = told.end' in
      let of = each-contains (OfCall a.calls) a.ends end' facts.kinds told.there in
      let c = kind-called a.calls end'.id of.0 of.2 in
      let w = end-at AController [] (own log.node ring) end'
      (subst (λ (l : List Ended). Contains l end') t.ends told.there) in
      ⊎_elim
      (λ (none : Contains {X = Called} [] c.call). absurd (in-none c.call none))
      (λ (made : CollectIn log.entries c.call). record {
        calls = made.calls;
        collected = made.there;
        call = made.call;
        among = made.among;
        named = ap (λ (x : Called). x.id) made.is ∙ c.name ∙ told.id_is;
        came = subst (λ (i : CallId). CameBy joint i made.call.kind result) told.id_is
            (finish-came log end' result c.call made.call.kind there c.there c.name
            (sym (ap (λ (x : Called). x.sort) made.is))
            (of.1 ∙ ap (λ (k : Kind). Some k) (sym c.kind_is)) told.outcome_is w);
      })
      (call-in no_items log.entries c.call c.there)

pub effects-own : CallLaws → AllEffectsAreOwn
effects-own laws plant scans joint is legal tied = record {
  requests = own-requests laws plant scans joint is legal tied;
  ports = own-ports laws plant scans joint is legal tied;
  finishes = own-finishes laws plant scans joint is legal tied;
  answers = own-answers laws plant scans joint is legal tied;
  relays = own-relays laws plant scans joint is legal tied;
}
