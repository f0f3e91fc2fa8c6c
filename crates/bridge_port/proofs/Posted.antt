-- Entries of an end that are made as they are due, and their frames.
use Rattle.std.proofs.Common.{◌≡◌, ℕ, zero, suc, ◌+◌, ◌-◌, ◌<◌, ◌==◌, ◌&&◌, ◌||◌, Bool, true, false}
use Rattle.std.proofs.Common.{cond, not, List, [], ◌∷◌, ◌++◌, Option, Some, None, count_by}
use Rattle.std.proofs.Common.{option_map, is_some, length, set, get_or, refl, sym, ap, ◌∙◌, subst}
use Rattle.std.proofs.Common.{inl, inr, arith, append-nil, eq-eqb, ne_eqb, get_or-set_same}
use Rattle.std.proofs.Common.{get_or-set_other}
use Rattle.std.specs.Prelude.{MatchOption, option_to_list}
use Rattle.std.specs.List.{AllByRecursion as Each, cons_option}
use Rattle.std.proofs.lemmas.Bool.{cases_eq}
use Rattle.std.proofs.lemmas.List.Elements.{filter_map-append}
use Rattle.plant_types.specs.declared.net.BridgePlan.{BridgePlan}
use Rattle.plant_types.specs.declared.net.NetPlan.{NetPlan}
use Rattle.mstr_block.specs.Table.{network_paths}
use Rattle.mstr_block.specs.declared.call.CallId.{CallId}
use Rattle.bridge_relay.specs.declared.entry.BridgeEntry.{BridgeEntry}
use Rattle.bridge_relay.specs.declared.entry.BridgeEntry.TheVariants.{Forward, Back}
use Rattle.bridge_relay.specs.Bridge.{IsForwarded, frame_made}
use Rattle.bridge_relay.specs.Laws.{end_after, is_by}
use Rattle.bridge_relay.specs.Legal.{IsBridgeHistory, IsEnd, due_forward}
use Rattle.bridge_relay.specs.Machine.{EndIs, RelayPath, side_of, relay_path, unused_path}
use Rattle.bridge_relay.specs.Kept.{near_after}
use Rattle.bridge_relay.proofs.Legal.{forward_made}
use Rattle.bridge_relay.proofs.Paths.{at_path}
use Rattle.ring_core.specs.Legal.{IsNextNumber, IsPath}
use Rattle.ring_core.specs.Machine.{NodeIs, asked, no_path, passes_of, path_of, path_places, posted}
use Rattle.ring_core.specs.Words.{frame_route, is_onward}
use Rattle.ring_core.specs.Refusals.{path_no, taken_no}
use Rattle.ring_core.specs.declared.frame.FrameKind.{FrameKind}
use Rattle.ring_core.specs.declared.frame.FrameKind.TheVariants.{Request}
use Rattle.ring_core.specs.declared.frame.Frame.{Frame}
use Rattle.ring_core.specs.declared.path.Await.TheVariants.{Nothing, Out}
use Rattle.ring_core.specs.declared.path.Path.{Path}
use Rattle.ring_core.specs.declared.entry.RingEntry.{RingEntry}
use Rattle.ring_core.specs.declared.entry.RingEntry.TheVariants.{Post}
use Rattle.ring_laws.proofs.Lists.{count-cons, count-push}
use Rattle.tied_lists.specs.Own.{is_of, own, Grew, WentOn}
use Rattle.tied_lists.specs.Waits.{AwaitsThis, waiting}
use Rattle.tied_lists.proofs.Boxes.{each-map, each-push}
use Rattle.tied_lists.proofs.Growth.{grew-one}
use Rattle.tied_lists.proofs.Histories.{legal-follows}
use Rattle.tied_lists.proofs.Turns.{part}
use Rattle.comm_port.specs.Giving.{HasFailed, MaySend, is_chosen}
use Rattle.comm_port.specs.Parts.{PartOf}
use Rattle.comm_port.specs.Sides.{RingSideIs}
use Rattle.comm_port.proofs.Dues.{nothing-waits}
use Rattle.comm_port.proofs.Parts.{grew-none}
use Rattle.comm_port.proofs.Through.{not-failed-put, out-not-failed}
use Rattle.bridge_port.specs.EndParts.{ArePosted, AreForwarded, IsForwardEntry, are_some}
use Rattle.bridge_port.specs.EndParts.{backs_left, is_accept, is_any_chosen, is_back, paths_left}
use Rattle.bridge_port.specs.EndParts.{post_of}
use Rattle.bridge_port.specs.EndTurns.{EndTurning, number_out, number_waited}
use Rattle.comm_port.specs.JointHistory.{made_at_end}
use Rattle.bridge_port.specs.Sides.{BridgeSideIs, MakesDue}
use Rattle.bridge_port.proofs.Across.{own-step, still-stays}
use Rattle.bridge_port.proofs.Agree.{WentOut, have-four, went-out}
use Rattle.bridge_port.proofs.Lists.{made-one, mine-one}
use Rattle.bridge_port.proofs.Owed.{backs-few}

-- ---- what was due

module _ (alone : Bool) (n : ℕ) (due : List BridgeEntry → Option BridgeEntry)
    (IsItsFrame : List BridgeEntry → Frame → Type 0) (old new : List BridgeEntry) where
  -- its frame
  pub frame-of : (o : Option Frame) (f : Frame) → o ≡ Some f
      → (m : MakesDue alone n due IsItsFrame old new o) → IsItsFrame m.past f
  frame-of o f is m = subst
      (λ (x : Option Frame). MatchOption x (due m.past ≡ None) (IsItsFrame m.past)) is m.frame_is

  -- nothing was due where there is none
  pub none-of : (o : Option Frame) → o ≡ None
      → (m : MakesDue alone n due IsItsFrame old new o) → due m.past ≡ None
  none-of o is m = subst
      (λ (x : Option Frame). MatchOption x (due m.past ≡ None) (IsItsFrame m.past)) is m.frame_is

  -- the entry that was made
  pub went-due : (o : Option Frame) (e : BridgeEntry)
      → (m : MakesDue alone n due IsItsFrame old new o) → due m.past ≡ Some e
      → WentOn alone (is_by n) old (e ∷ []) new
  went-due o e m is = record {
    between = m.went.between;
    others = m.went.others;
    none_alone = m.went.none_alone;
    after_is = m.after_is ∙ (ap (λ (x : Option BridgeEntry). m.past ++ option_to_list x) is
        ∙ ap (λ l. l ++ e ∷ []) (m.went.after_is ∙ append-nil (old ++ m.went.between)));
  }

  pub due-front : (o : Option Frame) (e : BridgeEntry)
      → (m : MakesDue alone n due IsItsFrame old new o) → due m.past ≡ Some e
      → new ≡ m.past ++ e ∷ []
  due-front o e m is =
      m.after_is ∙ ap (λ (x : Option BridgeEntry). m.past ++ option_to_list x) is

  -- no entry
  pub still-due : (o : Option Frame) → (m : MakesDue alone n due IsItsFrame old new o)
      → due m.past ≡ None → new ≡ m.past
  still-due o m is = m.after_is
      ∙ (ap (λ (x : Option BridgeEntry). m.past ++ option_to_list x) is ∙ append-nil m.past)

  pub went-none : (o : Option Frame) → (m : MakesDue alone n due IsItsFrame old new o)
      → due m.past ≡ None → WentOn alone (is_by n) old [] new
  went-none o m is = subst (WentOn alone (is_by n) old []) (sym (still-due o m is)) m.went

  pub none-left : (o : Option Frame) → (m : MakesDue alone n due IsItsFrame old new o)
      → due m.past ≡ None → due new ≡ None
  none-left o m is = ap due (still-due o m is) ∙ is

-- ---- an entry that was made, and its frame posted

pub posted-one : (alone alone' : Bool) (n : ℕ) (Sort : BridgeEntry → Type 0) (e : BridgeEntry)
    (g : Frame) (list list' : List BridgeEntry) (ring ring' : List RingEntry) → Sort e
    → frame_made e ≡ Some g → side_of e ≡ n → WentOn alone (is_by n) list (e ∷ []) list'
    → Grew alone' (is_of n) ring (Post n g ∷ []) ring'
    → PartOf alone alone' (is_by n) n (ArePosted Sort n) list list' ring ring'
posted-one alone alone' n Sort e g list list' ring ring' sort frame made went grew = record {
  noted = e ∷ [];
  done = Post n g ∷ [];
  due = (
    (sort, tt),
    ap (λ (o : Option Frame). cons_option (option_map (Post n) o) []) (sym frame),
  );
  station = grew-one alone (is_by n) list (e ∷ []) list' (mine-one n e made) went;
  node = grew;
}

pub posted-none : (alone alone' : Bool) (n : ℕ) (Sort : BridgeEntry → Type 0)
    (list list' : List BridgeEntry) (ring : List RingEntry)
    → WentOn alone (is_by n) list [] list'
    → PartOf alone alone' (is_by n) n (ArePosted Sort n) list list' ring ring
posted-none alone alone' n Sort list list' ring went = record {
  noted = [];
  done = [];
  due = (tt, refl);
  station = grew-one alone (is_by n) list [] list' refl went;
  node = grew-none alone' (is_of n) ring;
}

each-joined : {X : Type 0} (P : X → Type 0) (xs ys : List X) → Each P xs → Each P ys
    → Each P (xs ++ ys)
each-joined P [] ys one two = two
each-joined P (x ∷ xs) ys one two = (one.0, each-joined P xs ys one.1 two)

pub posted-both : (n : ℕ) (Sort : BridgeEntry → Type 0) (noted noted' : List BridgeEntry)
    (done done' : List RingEntry) → ArePosted Sort n noted done → ArePosted Sort n noted' done'
    → ArePosted Sort n (noted ++ noted') (done ++ done')
posted-both n Sort noted noted' done done' a b = (
  each-joined Sort noted noted' a.0 b.0,
  (λ i. a.1 i ++ b.1 i) ∙ sym (filter_map-append (post_of n) noted noted'),
)

some-joined : {E : Type 0} (xs ys : List E) → are_some (xs ++ ys) ≡ (are_some xs || are_some ys)
some-joined [] ys = refl
some-joined (x ∷ xs) ys = refl

pub forwarded-both : (n : ℕ) (some some' : Bool) (noted noted' : List BridgeEntry)
    (done done' : List RingEntry) → AreForwarded some n noted done
    → AreForwarded some' n noted' done'
    → AreForwarded (some || some') n (noted ++ noted') (done ++ done')
forwarded-both n some some' noted noted' done done' a b = (
  posted-both n IsForwardEntry noted noted' done done' a.0 b.0,
  some-joined noted noted' ∙ (λ i. a.1 i || b.1 i),
)

-- ---- how often it goes on

-- a reply that was given back leaves fewer
pub fewer-backs : (alone : Bool) (plan : BridgePlan) (n : ℕ) (list : List BridgeEntry) (id : CallId)
    (reply : List ℕ) (list' : List BridgeEntry)
    → IsEnd plan n → IsBridgeHistory plan list'
    → WentOn alone (is_by n) list (Back n id reply ∷ []) list'
    → backs_left n list' < backs_left n list
fewer-backs alone plan n list id reply list' end legal went =
    let e : BridgeEntry = Back n id reply in
    let made = made-one alone n list e list' refl went in
    let accepts = ap (count_by is_accept) made ∙ count-push is_accept (made_at_end n list) e in
    let backs = ap (count_by is_back) made ∙ count-push is_back (made_at_end n list) e in
    let few = backs-few plan n list' end legal in
    omega (arith, accepts, backs, few)

-- ---- a request that is sent on

-- what a Request stands on that is to be posted
pub record MayCall (n : ℕ) (list past : List BridgeEntry) (plan : BridgePlan) (c : NodeIs)
    (f : Frame) : Type 0 where
  pub old : CallId
  pub due : due_forward plan past n ≡ Some (Forward n old f.id (frame_route f) f.pdu)
  pub kind : f.kind ≡ Request
  pub path : IsPath f.id.path
  pub none : number_out (relay_path (end_after plan list n) f.id.path) ≡ None
  pub next : IsNextNumber c f.kind f.id
  pub free : path_no c f.kind f.id.path ≡ None

free-none : (out : Bool) (last : ℕ) (low : Bool) → (not out && low) ≡ true
    → cond out (Some last) None ≡ None
free-none true last low is = absurd (let bad : false ≡ true = is in cc)
free-none false last low is = refl

none-waited : (w : Option Frame) → number_waited w ≡ None → w ≡ None
none-waited None is = refl
none-waited (Some f) is = absurd (let bad : Some f.id.seq ≡ None = is in cc)

pub may-call : {P Q : Type 0} (alone : Bool) (n : ℕ) (bridge : BridgeSideIs P)
    (list past : List BridgeEntry) (side : RingSideIs Q) (ring : List RingEntry) (f : Frame)
    → WentOn alone (is_by n) list [] past → IsBridgeHistory bridge.plan past
    → IsForwarded bridge.plan past n f → EndTurning n bridge list side ring
    → MayCall n list past bridge.plan (part side.net ring n) f
may-call alone n bridge list past side ring f went legal is t =
    let plan = bridge.plan in
    let p = f.id.path in
    let route = frame_route f in
    let m = forward_made plan past n is.old f.id route f.pdu is.due in
    let path = m.path.is_path in
    let high = path.1 in
    let stays = still-stays alone plan n list past t.is_open.end legal went in
    let same : relay_path (end_after plan past n) p ≡ relay_path (end_after plan list n) p =
    ap (λ (ps : List RelayPath). get_or ps (p - 1) unused_path)
    stays.paths in
    let there = relay_path (end_after plan past n) p in
    let none : number_out there ≡ None =
    free-none (is_some there.out) there.last _ m.path.free in
    let waits : waiting p (own n ring) ≡ None =
    none-waited (waiting p (own n ring)) (t.paths.waits p path
    ∙ (sym (ap number_out same) ∙ none)) in
    let follows = (legal-follows side.net ring n t.own_turn.on).node.part in
    let c = part side.net ring n in
    let awaits : (path_of c p).awaits ≡ Nothing = nothing-waits (path_of c p).awaits
    (subst (AwaitsThis (path_of c p).awaits) waits
    (follows.paths p)) in
    let posted = follows.numbers p (omega (arith, high)) ∙ (t.paths.numbers p path
    ∙ sym (ap (λ (x : RelayPath). x.last) same)) in
    let seq : f.id.seq ≡ there.last + 1 = ap (λ (i : CallId). i.seq) m.id_is in
    record {
      old = is.old;
      due = is.due;
      kind = is.kind;
      path = path;
      none = sym (ap number_out same) ∙ none;
      next = subst (λ (k : FrameKind). IsNextNumber c k f.id) (sym is.kind)
          (omega (arith, posted, seq));
      free = subst (λ (k : FrameKind). path_no c k p ≡ None) (sym is.kind)
          (ap taken_no awaits);
    }

-- a path of the end is taken, so fewer are left
abbrev bit : Bool → ℕ
bit b = cond b 1 0

four-paths : (test : ℕ → Bool) → count_by test network_paths
    ≡ bit (test 1) + (bit (test 2) + (bit (test 3) + (bit (test 4) + 0)))
four-paths test =
    let one = count-cons test 1 (2 ∷ 3 ∷ 4 ∷ []) in
    let two = count-cons test 2 (3 ∷ 4 ∷ []) in
    let three = count-cons test 3 (4 ∷ []) in
    let four = count-cons test 4 [] in
    omega (arith, one, two, three, four)

one-path : (p : ℕ) → IsPath p → bit (1 == p) + (bit (2 == p) + (bit (3 == p) + bit (4 == p))) ≡ 1
one-path p is = at_path
    (λ q. bit (1 == q) + (bit (2 == q) + (bit (3 == q) + bit (4 == q))) ≡ 1) p is refl refl refl
    refl

free-bit : (near near' : EndIs) (id : CallId) (q : ℕ) → IsPath q → WentOut near near' id
    → number_out (relay_path near id.path) ≡ None
    → bit (not (is_some (relay_path near' q).out)) + bit (q == id.path)
    ≡ bit (not (is_some (relay_path near q).out))
free-bit near near' id q is w none = elim (cases_eq q id.path) [
  | inl same ↦
      let before = none-out (is_some (relay_path near id.path).out)
      (relay_path near id.path).last none in
      let now = some-out (is_some (relay_path near' id.path).out)
      (relay_path near' id.path).last id.seq w.out in
      let a = ap (λ (p : ℕ). bit (not (is_some (relay_path near' p).out))) same
      ∙ ap (λ (b : Bool). bit (not b)) now in
      let b = ap bit (eq-eqb q id.path same) in
      let c = ap (λ (p : ℕ). bit (not (is_some (relay_path near p).out))) same
      ∙ ap (λ (b : Bool). bit (not b)) before in
      omega (arith, a, b, c)
  | inr other ↦
      let a = ap (λ (x : RelayPath). bit (not (is_some x.out))) (w.others q is other) in
      let b = ap bit (ne_eqb q id.path other) in
      omega (arith, a, b)
]
  where
    none-out : (b : Bool) (last : ℕ) → cond b (Some last) None ≡ None → b ≡ false
    none-out true last is' = absurd (let bad : Some last ≡ None = is' in cc)
    none-out false last is' = refl

    some-out : (b : Bool) (last seq : ℕ) → cond b (Some last) None ≡ Some seq → b ≡ true
    some-out true last seq is' = refl
    some-out false last seq is' = absurd (let bad : None ≡ Some seq = is' in cc)

count-out : (near near' : EndIs) (id : CallId) → IsPath id.path → WentOut near near' id
    → number_out (relay_path near id.path) ≡ None
    → count_by (λ path. not (is_some (relay_path near' path).out)) network_paths
    < count_by (λ path. not (is_some (relay_path near path).out)) network_paths
count-out near near' id is w none =
    let new = four-paths (λ path. not (is_some (relay_path near' path).out)) in
    let old = four-paths (λ path. not (is_some (relay_path near path).out)) in
    let one = free-bit near near' id 1 (omega arith, omega arith) w none in
    let two = free-bit near near' id 2 (omega arith, omega arith) w none in
    let three = free-bit near near' id 3 (omega arith, omega arith) w none in
    let four = free-bit near near' id 4 (omega arith, omega arith) w none in
    let once = one-path id.path is in
    omega (arith, new, old, one, two, three, four, once)

pub fewer-paths : (alone : Bool) (plan : BridgePlan) (n : ℕ) (list : List BridgeEntry)
    (old id : CallId) (route request : List ℕ) (list' : List BridgeEntry) → IsEnd plan n
    → IsBridgeHistory plan list' → IsPath id.path
    → number_out (relay_path (end_after plan list n) id.path) ≡ None
    → WentOn alone (is_by n) list (Forward n old id route request ∷ []) list'
    → paths_left plan n list' < paths_left plan n list
fewer-paths alone plan n list old id route request list' end legal path none went =
    let e : BridgeEntry = Forward n old id route request in
    let s = own-step alone plan n list e list' refl end legal went in
    let out = went-out s.across s.past s.far n old id route request path
    (ap length s.stays.paths ∙ have-four plan list n) in
    let same : relay_path s.past id.path ≡ relay_path (end_after plan list n) id.path =
    ap (λ (ps : List RelayPath). get_or ps (id.path - 1) unused_path) s.stays.paths in
    let less = count-out s.past (near_after s.across s.past s.far e) id path out
    (ap number_out same ∙ none) in
    let before : count_by (λ path. not (is_some (relay_path s.past path).out)) network_paths
    ≡ paths_left plan n list = ap (λ (ps : List RelayPath).
    count_by (λ path. not (is_some (get_or ps (path - 1) unused_path).out)) network_paths)
    s.stays.paths in
    let after' : count_by (λ path. not (is_some (relay_path
    (near_after s.across s.past s.far e) path).out)) network_paths ≡ paths_left plan n list' =
    ap (λ (x : EndIs). count_by (λ path. not (is_some (relay_path x path).out)) network_paths)
    (sym s.after_is) in
    omega (arith, less, before, after')

-- ---- what a node may send that calls

-- one more call, on a path that is noted
pub may-more : (net : NetPlan) (n : ℕ) (fresh : List Bool) (c : NodeIs) (f : Frame)
    → 0 < net.answer → f.kind ≡ Request → IsPath f.id.path → length fresh ≡ path_places
    → MaySend net n fresh c → MaySend net n (set fresh f.id.path true) (posted c f)
may-more net n fresh c f wait kind path size m =
    let q = f.id.path in
    let v : Path = record { awaits = Out f.id.seq f.to (is_onward f) 0; posted = f.id.seq } in
    let paths : asked c f.kind f ≡ set c.paths q v = ap (λ (k : FrameKind). asked c k f) kind in
    let high = path.1 in
    let here : is_chosen (set fresh q true) q ≡ true =
    get_or-set_same fresh q true false (omega (arith, size, high)) in
    record {
      none_failed = λ p on. subst
          (λ (ps : List Path). HasFailed (get_or ps p no_path).awaits
          → ⊥) (sym paths)
          (not-failed-put c.paths q p v (out-not-failed f.id.seq f.to (is_onward f) 0)
          (m.none_failed p on));
      young = λ p is. subst
          (λ (ps : List Path). passes_of (get_or ps p no_path).awaits < net.answer) (sym paths)
          (elim (cases_eq p q) [
            | inl same ↦ subst
                (λ (k : ℕ). passes_of (get_or (set c.paths q v) k no_path).awaits < net.answer)
                (sym same) (young-here c.paths q v wait)
            | inr other ↦ subst (λ (x : Path). passes_of x.awaits < net.answer)
                (sym (get_or-set_other c.paths q p v no_path other))
                (m.young p (sym (get_or-set_other fresh q p true false other) ∙ is))
          ]);
      asks = each-push
          (λ (g : Frame). g.kind ≡ Request → is_chosen (set fresh q true) g.id.path ≡ true)
          c.outbox f
          (each-map (λ (g : Frame). g.kind ≡ Request → is_chosen fresh g.id.path ≡ true)
          (λ (g : Frame). g.kind ≡ Request → is_chosen (set fresh q true) g.id.path ≡ true)
          c.outbox (λ g on k. kept g.id.path (on k)) m.asks)
          (λ k. here);
    }
  where
    young-here : (ps : List Path) (i : ℕ) (v : Path) → passes_of v.awaits < net.answer
        → passes_of (get_or (set ps i v) i no_path).awaits < net.answer
    young-here [] i v new = wait
    young-here (x ∷ ps) zero v new = new
    young-here (x ∷ ps) (suc i) v new = young-here ps i v new

    kept : (p : ℕ) → is_chosen fresh p ≡ true → is_chosen (set fresh f.id.path true) p ≡ true
    kept p on = elim (cases_eq p f.id.path) [
      | inl same ↦ ap (is_chosen (set fresh f.id.path true)) same
          ∙ get_or-set_same fresh f.id.path true false
          (let high = path.1 in omega (arith, size, high))
      | inr other ↦ get_or-set_other fresh f.id.path p true false other ∙ on
    ]

pub any-set : (fresh : List Bool) (i : ℕ) → i < length fresh
    → is_any_chosen (set fresh i true) ≡ true
any-set [] i low = absurd (omega (arith, low))
any-set (x ∷ fresh) zero low = refl
any-set (x ∷ fresh) (suc i) low =
    ap (λ (b : Bool). x || b) (any-set fresh i (omega (arith, low))) ∙ or-true x
  where
    or-true : (x : Bool) → (x || true) ≡ true
    or-true true = refl
    or-true false = refl
