-- What calls that are made leave.
use Rattle.std.proofs.Common.{◌≡◌, ℕ, ◌+◌, ◌<◌, ◌==◌, Bool, true, false, cond}
use Rattle.std.proofs.Common.{List, [], ◌∷◌, ◌++◌, filter_map, map, drop, get_or, set, length}
use Rattle.std.proofs.Common.{Option, Some, None, refl, sym, ap, ◌∙◌, subst, ⊎_elim, arith}
use Rattle.std.proofs.Common.{append_assoc, get_or-set_same, get_or-set_other, eq-eqb}
use Rattle.std.proofs.Common.{ne_eqb, length-append, drop-cons, add-one}
use Rattle.std.specs.List.{cons_option, AllByRecursion as Each}
use Rattle.std.proofs.lemmas.Bool.{cases_eq, cases_Bool, cond-true, cond-false}
use Rattle.std.proofs.lemmas.List.{length-set}
use Rattle.std.proofs.lemmas.List.Elements.{filter_map-append}
use Rattle.plant_types.specs.declared.net.NetPlan.{NetPlan}
use Rattle.mstr_block.specs.declared.call.CallId.{CallId}
use Rattle.mstr_block.specs.declared.call.MstrResult.{MstrResult}
use Rattle.controller_core.specs.declared.call.Call.{Call}
use Rattle.controller_core.specs.declared.entry.Entry.{Entry}
use Rattle.controller_core.specs.declared.entry.Entry.TheVariants.{Collect, Finish}
use Rattle.ring_core.specs.declared.frame.FrameKind.{FrameKind}
use Rattle.ring_core.specs.declared.frame.FrameKind.TheVariants.{Request, Reply}
use Rattle.ring_core.specs.declared.frame.Frame.{Frame}
use Rattle.ring_core.specs.declared.entry.LocalOp.{LocalOp}
use Rattle.ring_core.specs.declared.entry.RingEntry.{RingEntry}
use Rattle.ring_core.specs.declared.entry.RingEntry.TheVariants.{Post, Send, Take, Local, GiveUp}
use Rattle.ring_core.specs.declared.entry.RingEntry.TheVariants.{Pass, Leave, Join}
use Rattle.ring_core.specs.Words.{is_same_call, frame_route, request_along}
use Rattle.ring_core.specs.Machine.{path_places, path_of}
use Rattle.ring_core.specs.Legal.{IsLegalRing, IsPath, HasRoom}
use Rattle.tied_lists.specs.Own.{is_of, own, WentOn, Grew}
use Rattle.tied_lists.specs.Items.{AController, Items, Called, CallSort, OverNet, AtHome, Kind}
use Rattle.tied_lists.specs.Items.{NetCall, LocalCall, Ended, Asked, Came, net_ask, kind_in}
use Rattle.tied_lists.specs.Items.{kind_of_sort, asked_in, asked_by, with_calls, with_end}
use Rattle.tied_lists.specs.Items.{last_asked}
use Rattle.tied_lists.specs.Items.{or_some}
use Rattle.tied_lists.specs.Tied.{TiedBut}
use Rattle.tied_lists.specs.Calls.{IsOutAs, IsOutOn, IsAbove, FitsSort, AreNewCalls, NoEnd}
use Rattle.tied_lists.specs.Calls.{LeadsAway}
use Rattle.tied_lists.specs.Waits.{waiting as waits_on, waits_posted, number_posted}
use Rattle.tied_lists.specs.Waits.{number_after, IsAsk}
use Rattle.tied_lists.proofs.Paths.{waiting-push}
use Rattle.tied_lists.proofs.Histories.{legal-follows}
use Rattle.tied_lists.proofs.Asked.{other-path, no-end-push, kind-more, kind-new, waiting-last}
use Rattle.tied_lists.proofs.Routes.{along-route, goes-away}
use Rattle.tied_lists.proofs.Growth.{grew-ours}
use Rattle.tied_lists.proofs.Steps.{tied-all, tied-called, tied-posted, tied-done}
use Rattle.tied_lists.proofs.Turns.{part}
use Rattle.comm_port.specs.Sides.{RingSideIs, RamSideIs}
use Rattle.joint_history.specs.Reading.{is_ours, called_of, items_of}
use Rattle.comm_port.specs.Turns.{IsOwnTurn, KeepsInbox, AreWaiting, Turning}
use Rattle.comm_port.specs.Making.{DoesAtHome, Owing, calls_from}
use Rattle.comm_port.proofs.RingTurns.{turn-on}
use Rattle.comm_port.proofs.Later.{later-one, later-same, tied-later, waits-later}
use Rattle.comm_port.proofs.Served.{waiting-as}

-- the last number of a path is below what is above all that was asked there
below-kind : (p s now n : ℕ) (f : Frame) (es : List RingEntry) (k : FrameKind) → f.kind ≡ k
    → now < s → Each (λ (a : Asked).
    a.id.path ≡ p → a.id.seq < s) (asked_by (Post n f ∷ es))
    → (number_posted p now k f < s) × Each (λ (a : Asked). a.id.path ≡ p
    → a.id.seq < s) (asked_by es)
below-kind p s now n f es Reply is lt all = (
  lt,
  subst (λ (k : FrameKind). Each (λ (a : Asked). a.id.path ≡ p → a.id.seq < s)
      (cons_option (asked_in k f) (asked_by es))) is all,
)
below-kind p s now n f es Request is lt all =
    let e = subst (λ (k : FrameKind). Each (λ (a : Asked). a.id.path ≡ p → a.id.seq < s)
    (cons_option (asked_in k f) (asked_by es))) is all in (
      ⊎_elim (λ (x : f.id.path ≡ p). subst (λ (m : ℕ). m < s)
          (sym (cond-true (f.id.path == p) f.id.seq now (eq-eqb f.id.path p x))) (e.0 x))
          (λ (o : f.id.path ≡ p → ⊥). subst (λ (m : ℕ). m < s)
          (sym (cond-false (f.id.path == p) f.id.seq now (ne_eqb f.id.path p o))) lt)
          (cases_eq f.id.path p),
      e.1,
    )

number-below : (p s now : ℕ) (b : List RingEntry) → now < s
    → Each (λ (a : Asked). a.id.path ≡ p → a.id.seq < s) (asked_by b) → number_after p now b < s
number-below p s now [] lt all = lt
number-below p s now (Post n f ∷ es) lt all = let k = below-kind p s now n f es f.kind refl lt all
    in number-below p s (number_posted p now f.kind f) es k.0 k.1
number-below p s now (Send n heard ∷ es) lt all = number-below p s now es lt all
number-below p s now (Take n f ∷ es) lt all = number-below p s now es lt all
number-below p s now (Local n id op result ∷ es) lt all = number-below p s now es lt all
number-below p s now (GiveUp id word ∷ es) lt all = number-below p s now es lt all
number-below p s now (Pass n done words ∷ es) lt all = number-below p s now es lt all
number-below p s now (Leave n cause ∷ es) lt all = number-below p s now es lt all
number-below p s now (Join n ∷ es) lt all = number-below p s now es lt all

nets-above : (id : CallId) (calls : List Called) → IsAbove id calls
    → Each (λ (a : Asked). a.id.path ≡ id.path → a.id.seq < id.seq) (filter_map net_ask calls)
nets-above id [] all = tt
nets-above id (c ∷ calls) all = by-sort c.sort refl (nets-above id calls all.1)
  where
    by-sort : (k : CallSort) → c.sort ≡ k
        → Each (λ (a : Asked). a.id.path ≡ id.path → a.id.seq < id.seq) (filter_map net_ask
        calls) → Each (λ (a : Asked). a.id.path ≡ id.path → a.id.seq < id.seq)
        (filter_map net_ask (c ∷ calls))
    by-sort (OverNet route pdu) is more = subst
        (λ (k : CallSort). Each (λ (a : Asked). a.id.path ≡ id.path → a.id.seq < id.seq)
        (filter_map net_ask (record { id = c.id; sort = k } ∷ calls))) (sym is) (all.0, more)
    by-sort (AtHome op) is more = subst
        (λ (k : CallSort). Each (λ (a : Asked). a.id.path ≡ id.path → a.id.seq < id.seq)
        (filter_map net_ask (record { id = c.id; sort = k } ∷ calls))) (sym is) more

tail : {X : Type 0} (a b : X) (as' bs : List X) → a ∷ as' ≡ b ∷ bs → as' ≡ bs
tail a b as' bs k = cc

-- what is in front of a common end
front : {X : Type 0} (xs ys zs : List X) → xs ++ zs ≡ ys ++ zs → xs ≡ ys
front [] [] zs e = refl
front [] (y ∷ ys) zs e = absurd
    (let l = ap length e in let k = length-append (y ∷ ys) zs in omega (arith, l, k))
front (x ∷ xs) [] zs e = absurd
    (let l = ap length e in let k = length-append (x ∷ xs) zs in omega (arith, l, k))
front (x ∷ xs) (y ∷ ys) zs e = let h : x ≡ y = cc in let t = front xs ys zs
    (tail x y (xs ++ zs) (ys ++ zs) e) in cc

pub asked-before : {P Q : Type 0} (n : ℕ) (rest : List Called) (ram : RamSideIs P)
    (known : List Entry) (side : RingSideIs Q) (ring : List RingEntry)
    (w : List (Option Frame)) → (o : Owing n rest ram known side ring w)
    → asked_by (own n ring) ≡ filter_map net_ask o.earlier
asked-before n rest ram known side ring w o =
    front (asked_by (own n ring)) (filter_map net_ask o.earlier) (filter_map net_ask rest)
    (o.turning.tied.asks ∙ (ap (filter_map net_ask) o.calls_are ∙ filter_map-append net_ask
    o.earlier rest))

later-or : (o : Option (List ℕ)) (b : Bool) (pdu x : List ℕ) → b ≡ false
    → or_some o (cond b (Some pdu) None) ≡ Some x → o ≡ Some x
later-or (Some y) b pdu x no' e = e
later-or None true pdu x no' e = absurd (cc)
later-or None false pdu x no' e = absurd (let bad : None ≡ Some x = e in cc)

later-sort : (c : Called) (cs : List Called) (id : CallId) (x : List ℕ) (k : CallSort) → c.sort ≡ k
    → is_same_call c.id id ≡ false
    → last_asked id (filter_map net_ask (c ∷ cs)) ≡ Some x
    → last_asked id (filter_map net_ask cs) ≡ Some x
later-sort c cs id x (OverNet route pdu) is no' e =
    later-or (last_asked id (filter_map net_ask cs)) (is_same_call c.id id) pdu x no'
    (subst (λ (k : CallSort). last_asked id
    (filter_map net_ask (record { id = c.id; sort = k } ∷ cs)) ≡ Some x) is e)
later-sort c cs id x (AtHome op) is no' e = subst
    (λ (k : CallSort). last_asked id (filter_map net_ask (record { id = c.id; sort = k } ∷ cs)) ≡
    Some x) is e

later : (c : Called) (cs : List Called) (id : CallId) (x : List ℕ) → is_same_call c.id id ≡ false
    → last_asked id (filter_map
    net_ask (c ∷ cs)) ≡ Some x → last_asked id (filter_map net_ask cs) ≡ Some x
later c cs id x no' e = later-sort c cs id x c.sort refl no' e

-- what was asked is a call that was made
pub known-net : (calls : List Called) (id : CallId) (x : List ℕ)
    → last_asked id (filter_map net_ask calls) ≡ Some x → (k : Kind) × (kind_in calls id ≡ Some k)
known-net [] id x e = absurd (let no' : None ≡ Some x = e in cc)
known-net (c ∷ cs) id x e = ⊎_elim
    (λ (y : is_same_call c.id id ≡ true).
    (kind_of_sort c.sort, cond-true (is_same_call c.id id) _ _ y))
    (λ (no' : is_same_call c.id id ≡ false).
    let rest = known-net cs id x (later c cs id x no' e) in
    (rest.0, cond-false (is_same_call c.id id) _ _ no' ∙ rest.1))
    (cases_Bool (is_same_call c.id id))

-- a path by the network waits for nothing where a new call takes it
free-path : {P Q : Type 0} (n : ℕ) (c : Called) (rest : List Called) (ram : RamSideIs P)
    (known : List Entry) (side : RingSideIs Q) (ring : List RingEntry) (w : List
    (Option Frame)) → IsPath c.id.path → Owing n (c ∷ rest) ram known side ring w
    → (o : Option Frame) → waits_on c.id.path (own n ring) ≡ o → waits_on c.id.path (own n
    ring) ≡ None
free-path n c rest ram known side ring w net o None is = is
free-path n c rest ram known side ring w net o (Some f) is =
    let t = o.turning in
    let p = c.id.path in
    let slot : get_or w p None ≡ Some f = t.waits.waits p ∙ is in
    let ask = t.waits.asks p f slot in
    let out = t.waits.outs p f slot in
    let last : last_asked f.id (asked_by (own n ring)) ≡ Some f.pdu = waiting-last p f (own n ring)
    ask.path is in
    let made = known-net o.earlier f.id f.pdu
    (ap (last_asked f.id) (sym (asked-before n (c ∷ rest) ram known side ring w o)) ∙ last) in
    absurd (o.fresh.0.alone net f.id
    (record { path_is = ask.path; kind = made.0; made = made.1; unended = out.unended }))

-- a network call may be posted
pub record MayPost (net : NetPlan) (n : ℕ) (ring : List RingEntry) (id : CallId)
    (route : List ℕ) : Type 0
  where
    pub own_is : id.node ≡ n
    pub away : LeadsAway n route
    pub path : IsPath id.path
    pub next : (path_of (part net ring n) id.path).posted < id.seq
    pub free : waits_on id.path (own n ring) ≡ None

fits-net : (n : ℕ) (earlier : List Called) (id : CallId) (k : CallSort) (route pdu : List ℕ)
    → k ≡ OverNet route pdu → FitsSort n
    earlier id k → FitsSort n earlier id (OverNet route pdu)
fits-net n earlier id k route pdu is f = subst (FitsSort n earlier id) is f

pub may-post : {P Q : Type 0} (n : ℕ) (c : Called) (rest : List Called) (route pdu : List ℕ)
    (ram : RamSideIs P) (known : List
    Entry) (side : RingSideIs Q) (ring : List RingEntry) (w : List (Option Frame))
    → c.sort ≡ OverNet route pdu → Owing n (c ∷ rest)
    ram known side ring w
    → MayPost side.net n ring c.id route
may-post n c rest route pdu ram known side ring w is o =
    let f = fits-net n o.earlier c.id c.sort route pdu is o.fresh.0.fits in
    let follows = (legal-follows side.net ring n o.turning.own_turn.on).node.part in
    let low : c.id.path < path_places = let p = f.1.1 in omega (arith, p) in
    let all = subst (Each (λ (a : Asked). a.id.path ≡ c.id.path → a.id.seq < c.id.seq))
    (sym (asked-before n (c ∷ rest) ram known side
    ring w o)) (nets-above c.id o.earlier f.3) in
    record {
      own_is = o.fresh.0.own;
      away = f.0;
      path = f.1;
      next = subst (λ (m : ℕ). m < c.id.seq) (sym (follows.numbers c.id.path low))
          (number-below c.id.path c.id.seq 0 (own n ring) f.2 all);
      free = free-path n c rest ram known side ring w f.1 o (waits_on c.id.path (own n ring)) refl;
    }

-- the call was posted
waits-for : (n : ℕ) (b : List RingEntry) (f : Frame) → f.kind ≡ Request → (p : ℕ)
    → waits_on p (b ++ Post n f ∷ []) ≡ cond
    (f.id.path == p) (Some f) (waits_on p b)
waits-for n b f kind p = waiting-push p b (Post n f) ∙ ap
    (λ (k : FrameKind). waits_posted p (waits_on p b) k f) kind

waiting-more : (n : ℕ) (a : Items) (b : List RingEntry) (w : List (Option Frame)) (f : Frame)
    → f.kind ≡ Request → IsAsk n
    f.id.path f → f.id.path < path_places → IsOutAs a f.id NetCall → AreWaiting n a b w
    → AreWaiting n a (b ++ Post n f ∷ []) (set
    w f.id.path (Some f))
waiting-more n a b w f kind ask low out k =
    let q = f.id.path in
    let range : q < length w = let s = k.size in omega (arith, s, low) in
    let now : get_or (set w q (Some f)) q None ≡ Some f = get_or-set_same w q (Some f) None range in
    record {
      size = length-set _ _ _ ∙ k.size;
      waits = λ p. ⊎_elim
          (λ (e : p ≡ q). subst (λ (x : ℕ). get_or (set w q (Some f)) x None ≡ waits_on x
          (b ++ Post n f ∷ [])) (sym e) (now ∙ sym
          (waits-for n b f kind q ∙ cond-true (q == q) _ _ (eq-eqb q q refl))))
          (λ (o : p ≡ q → ⊥). get_or-set_other w q p (Some f) None o
          ∙ (k.waits p ∙ sym (waits-for n b f kind p ∙ cond-false
          (q == p) _ _ (ne_eqb q p (λ e. o (sym e)))))) (cases_eq p q);
      asks = λ p g is. ⊎_elim
          (λ (e : p ≡ q). let same : f ≡ g = some
          (sym now ∙ (ap (λ (x : ℕ). get_or (set w q (Some f)) x None) (sym e) ∙ is)) in
          subst (λ (x : Frame). IsAsk n p x) same (subst (λ (x : ℕ). IsAsk n x f) (sym e) ask))
          (λ (o : p ≡ q → ⊥). k.asks p g (sym (get_or-set_other w q p (Some f) None o) ∙ is))
          (cases_eq p q);
      outs = λ p g is. ⊎_elim
          (λ (e : p ≡ q). let same : f ≡ g = some
          (sym now ∙ (ap (λ (x : ℕ). get_or (set w q (Some f)) x None) (sym e) ∙ is)) in
          subst (λ (x : Frame). IsOutAs a x.id NetCall) same out)
          (λ (o : p ≡ q → ⊥). k.outs p g (sym (get_or-set_other w q p (Some f) None o) ∙ is))
          (cases_eq p q);
    }
  where
    some : {x y : Frame} → Some x ≡ Some y → x ≡ y
    some e = cc

pub posted-lead : {P Q : Type 0} (alone : Bool) (n : ℕ) (c : Called) (rest : List Called)
    (route pdu : List ℕ) (ram : RamSideIs P) (known : List Entry) (side side' : RingSideIs Q)
    (ring ring' : List RingEntry) (w : List (Option Frame)) → side' ≡ side →
    c.sort ≡ OverNet route pdu
    → IsLegalRing side.net ring' → KeepsInbox side.net n ring ring'
    → Grew alone (is_of n) ring (Post n (request_along c.id route pdu) ∷
    []) ring' → Owing n (c ∷ rest) ram known side ring w
    → Owing n rest ram known side' ring' (set w c.id.path (Some
    (request_along c.id route pdu)))
posted-lead {P} {Q} alone n c rest route pdu ram known side side' ring ring' w same is legal kept
    grew o =
    let f = request_along c.id route pdu in
    let fits = fits-net n o.earlier c.id c.sort route pdu is o.fresh.0.fits in
    let own_is = grew-ours alone (is_of n) ring (Post n f ∷ []) ring' grew in
    let net : net_ask c ≡ Some (record { id = f.id; route = frame_route f; pdu = f.pdu }) =
    ap (λ (k : CallSort). net_ask (record { id = c.id; sort = k })) is
    ∙ ap (λ (r : List ℕ). Some (record { id = c.id; route = r; pdu = pdu }))
    (sym (along-route n c.id route pdu fits.0)) in
    let made : kind_in (items_of known).calls c.id ≡ Some NetCall = ap (λ l. kind_in l c.id)
    o.calls_are ∙ (kind-new o.earlier c
    rest o.fresh.0.first ∙ ap (λ (k : CallSort). Some (kind_of_sort k)) is) in
    let low : c.id.path < path_places = let p = fits.1.1 in omega (arith, p) in
    record {
      turning = record {
        node = o.turning.node;
        own_turn = turn-on side side' ring ring' n same o.turning.own_turn legal kept;
        tied = subst (TiedBut AController rest (items_of known)) (sym own_is)
            (tied-posted AController rest c (items_of known)
            (own n ring) n f refl net o.turning.tied);
        waits = subst (λ (l : List RingEntry). AreWaiting n (items_of known) l
            (set w c.id.path (Some f))) (sym own_is)
            (waiting-more n (items_of known) (own n ring) w f refl (record {
              kind = refl;
              node = o.fresh.0.own;
              path = refl;
              is_path = fits.1;
              number = fits.2;
              to = goes-away n c.id route pdu fits.0;
            }) low
            (record { made = made; unended = o.fresh.0.unended }) o.turning.waits);
      };
      earlier = o.earlier ++ c ∷ [];
      calls_are = o.calls_are ∙ sym (append_assoc o.earlier (c ∷ []) rest);
      fresh = o.fresh.1;
    }

-- a later call has another name
kind-hit : (xs ys : List Called) (c : Called) (id : CallId) → kind_in (xs ++ c ∷ ys) id ≡ None
    → is_same_call c.id id ≡ false
kind-hit [] ys c id none = not-same (is_same_call c.id id) (Some (kind_of_sort c.sort))
    (kind_in ys id) none (λ x. let no' : Some
    (kind_of_sort c.sort) ≡ None = x in cc)
  where
    not-same : (b : Bool) (x y : Option Kind) → cond b x y ≡ None → (x ≡ None → ⊥) → b ≡ false
    not-same true x y e no' = absurd (no' e)
    not-same false x y e no' = refl
kind-hit (x ∷ xs) ys c id none = kind-hit xs ys c id
    (second (is_same_call x.id id) (kind_of_sort x.sort) (kind_in (xs ++ c ∷ ys) id) none)
  where
    second : (b : Bool) (x : Kind) (y : Option Kind) → cond b (Some x) y ≡ None → y ≡ None
    second true x y e = absurd (let no' : Some x ≡ None = e in cc)
    second false x y e = e

-- what is out after an end was out before it
no-end-front : (id : CallId) (ends : List Ended) (e : Ended) → NoEnd id (ends ++ e ∷ [])
    → NoEnd id ends
no-end-front id [] e none = tt
no-end-front id (x ∷ ends) e none = (none.0, no-end-front id ends e none.1)

pub out-before : (path : ℕ) (calls : List Called) (ends : List Ended) (e : Ended) (id : CallId)
    → IsOutOn path calls (ends ++ e ∷ []) id → IsOutOn path calls ends id
out-before path calls ends e id o = record {
  path_is = o.path_is;
  kind = o.kind;
  made = o.made;
  unended = no-end-front id ends e
      o.unended;
}

new-ends : (n : ℕ) (pre post : List Called) (c : Called) (ends : List Ended) (rest : List Called)
    (e : Ended) → e.id ≡ c.id →
    AreNewCalls n (pre ++ c ∷ post) ends rest
    → AreNewCalls n (pre ++ c ∷ post) (ends ++ e ∷ []) rest
new-ends n pre post c ends [] e is all = tt
new-ends n pre post c ends (r ∷ rest) e is all =
    let one = all.0 in
    let other : is_same_call e.id r.id ≡ false = ap (λ (i : CallId). is_same_call i r.id) is
    ∙ kind-hit pre post c r.id one.first in (
      record {
        own = one.own;
        first = one.first;
        unended = no-end-push r.id ends e other one.unended;
        fits = one.fits;
        alone = λ net id o. one.alone net id (out-before r.id.path (pre ++ c ∷ post) ends e id o);
      },
      subst (λ (l : List Called). AreNewCalls n l (ends ++ e ∷ []) rest)
          (sym (append_assoc pre (c ∷ post) (r ∷ [])))
          (new-ends n pre (post ++ r ∷ []) c ends rest e is
          (subst (λ (l : List Called). AreNewCalls n l ends rest) (append_assoc
          pre (c ∷ post) (r ∷ [])) all.1)),
    )

-- a call at home may be done
pub may-do : {P Q : Type 0} (n : ℕ) (c : Called) (rest : List Called) (op : LocalOp)
    (ram : RamSideIs P) (known : List Entry)
    (side : RingSideIs Q) (ring : List RingEntry) (w : List (Option Frame)) → c.sort ≡ AtHome op
    → Owing n (c ∷ rest) ram known
    side ring w
    → HasRoom op × IsOutAs (items_of known) c.id (LocalCall op)
may-do n c rest op ram known side ring w is o =
    let fits = subst (FitsSort n o.earlier c.id) is o.fresh.0.fits in (
      fits.0,
      record {
        made = ap (λ l. kind_in l c.id) o.calls_are
            ∙ (kind-new o.earlier c rest o.fresh.0.first ∙ ap
            (λ (k : CallSort). Some (kind_of_sort k)) is);
        unended = o.fresh.0.unended;
      },
    )

pub done-lead : {P Q : Type 0} (alone alone' : Bool) (n : ℕ) (c : Called) (rest : List Called)
    (op : LocalOp) (ram ram' :
    RamSideIs P) (known known' : List Entry) (side side' : RingSideIs Q)
    (ring ring' : List RingEntry) (w : List (Option Frame)) →
    ram' ≡ ram → side' ≡ side → c.sort ≡ AtHome op
    → IsLegalRing side.net ring' → KeepsInbox side.net n ring ring'
    → DoesAtHome alone alone' n c.id op known known' ring ring' → Owing n (c
    ∷ rest) ram known side ring w → Owing n rest ram' known' side' ring' w
done-lead {P} {Q} alone alone' n c rest op ram ram' known known' side side' ring ring' w same same'
    is legal kept did o =
    let fits = subst (FitsSort n o.earlier c.id) is o.fresh.0.fits in
    let out = (may-do n c rest op ram known side ring w is o).1 in
    let e = Local n c.id op did.outcome in
    let own_is = grew-ours alone' (is_of n) ring (e ∷ []) ring' did.grew in
    let later = later-one alone known (Finish c.id did.outcome) known' did.went refl in
    let a' = with_end (items_of known) c.id (Came did.outcome) in
    let none : net_ask c ≡ None = ap (λ (k : CallSort). net_ask (record { id = c.id; sort = k })) is
    in
    let ended : Ended = record {
      id = c.id;
      kind = kind_in (items_of known).calls c.id;
      outcome = Came did.outcome;
    } in
    let calls_now : a'.calls ≡ (o.earlier ++ c ∷ []) ++ rest = o.calls_are ∙ sym
    (append_assoc o.earlier (c ∷ []) rest) in
    let fresh_now : AreNewCalls n (o.earlier ++ c ∷ []) a'.ends rest = new-ends n o.earlier [] c
    (items_of known).ends rest ended refl o.fresh.1 in
    record {
      turning = subst (λ (s : RamSideIs P). Turning n rest s known' side' ring' w) (sym same)
          (record {
            node = o.turning.node;
            own_turn = turn-on side side' ring ring' n same' o.turning.own_turn legal kept;
            tied = tied-later AController rest (own n ring') later
                (subst (TiedBut AController rest a') (sym own_is)
                (tied-done AController rest c (items_of known) (own n ring) n op did.outcome none
                o.fresh.0.own out.made o.turning.tied));
            waits = waits-later n (own n ring') w later
                (subst (λ (l : List RingEntry). AreWaiting n a' l w) (sym own_is)
                (waiting-done n (items_of known) (own n ring) w c.id did.outcome e
                (λ p. waiting-push p (own n ring) e) fits.1 o.turning.waits));
          });
      earlier = o.earlier ++ c ∷ [];
      calls_are = ap (λ (a : Items). a.calls) later.is ∙ calls_now;
      fresh = subst (λ (a : Items). AreNewCalls n (o.earlier ++ c ∷ []) a.ends rest) (sym later.is)
          fresh_now;
    }
  where
    waiting-done : (n' : ℕ) (a : Items) (b : List RingEntry) (w' : List (Option Frame))
        (id : CallId) (r : MstrResult) (e :
        RingEntry) → ((p : ℕ) → waits_on p (b ++ e ∷ []) ≡ waits_on p b) → id.path ≡ 0
        → AreWaiting n' a b w' → AreWaiting n'
        (with_end a id (Came r)) (b ++ e ∷ []) w'
    waiting-done n' a b w' id r e same'' home k = record {
      size = k.size;
      waits = λ p. k.waits p ∙ sym (same'' p);
      asks = k.asks;
      outs = λ p f is'. let out = k.outs p f is' in let ask = k.asks p f is' in record {
        made = out.made;
        unended = no-end-push f.id a.ends _
            (other-path id f.id (λ x. let path = ask.is_path.0 in let here = ask.path in absurd
            (omega (arith, x, home, path, here)))) out.unended;
      };
    }

-- the calls were collected
pub collected-lead : {P Q : Type 0} (alone : Bool) (n : ℕ) (calls : List Call)
    (ram ram' : RamSideIs P) (known known' : List
    Entry) (side : RingSideIs Q) (ring : List RingEntry) (w : List (Option Frame)) → ram' ≡ ram
    → WentOn alone is_ours known (Collect calls ∷ []) known'
    → AreNewCalls ram.fixed.plan.node (items_of known).calls (items_of
    known).ends (map called_of calls) → Turning n [] ram known side ring w
    → Owing n (map called_of calls) ram' known' side
    ring w
collected-lead {P} {Q} alone n calls ram ram' known known' side ring w same went fresh t =
    let cs = map called_of calls in
    let later = later-one alone known (Collect calls) known' went refl in
    let a' = with_calls (items_of known) cs in
    record {
      turning = subst (λ (s : RamSideIs P). Turning n cs s known' side ring w) (sym same) (record {
        node = t.node;
        own_turn = t.own_turn;
        tied = tied-later AController cs (own n ring) later
            (tied-called AController cs (items_of
            known) (own n ring) (tied-all AController (items_of known) (own n ring) t.tied));
        waits = waits-later n (own n ring) w later
            (waiting-as n (items_of known) a' (own n ring) (own n ring) w (λ p. refl)
            (λ id out. record {
              made = kind-more
                  (items_of known).calls cs id NetCall out.made;
              unended = out.unended;
            }) t.waits);
      });
      earlier = (items_of known).calls;
      calls_are = ap (λ (a : Items). a.calls) later.is;
      fresh = subst (λ (a : Items). AreNewCalls n (items_of known).calls a.ends cs) (sym later.is)
          (subst (λ (m : ℕ). AreNewCalls
          m (items_of known).calls (items_of known).ends cs) t.node fresh);
    }

-- a question to the controller
pub ram-still : {P Q : Type 0} (alone : Bool) (n : ℕ) (rest : List Called) (ram ram' : RamSideIs P)
    (known known' : List Entry)
    (side : RingSideIs Q) (ring : List RingEntry) (w : List (Option Frame)) → ram' ≡ ram
    → WentOn alone is_ours known [] known' →
    Turning n rest ram known side ring w → Turning n rest ram' known' side ring w
ram-still {P} {Q} alone n rest ram ram' known known' side ring w same went t =
    let later = later-same alone known known' went in
    subst (λ (s : RamSideIs P). Turning n rest s known' side ring w) (sym same) (record {
      node = t.node;
      own_turn = t.own_turn;
      tied = tied-later AController rest (own n ring) later t.tied;
      waits = waits-later n (own n ring) w later t.waits;
    })

-- the call at a place
pub calls-next : (calls : List Call) (at : ℕ) (c : Call) → at < length calls → c ≡ get_or calls at c
    → calls_from calls at ≡
    called_of c ∷ calls_from calls (at + 1)
calls-next calls at c low is = ap (map called_of)
    (drop-cons calls at c low ∙ (λ i. sym is i ∷ drop (sym (add-one at) i) calls))

pub owing-next : {P Q : Type 0} (n : ℕ) (calls : List Call) (at : ℕ) (c : Call) (ram : RamSideIs P)
    (known : List Entry) (side :
    RingSideIs Q) (ring : List RingEntry) (w : List (Option Frame)) → at < length calls
    → c ≡ get_or calls at c → Owing n
    (calls_from calls at) ram known side ring w
    → Owing n (called_of c ∷ calls_from calls (at + 1)) ram known side ring w
owing-next n calls at c ram known side ring w low is o = subst
    (λ (l : List Called). Owing n l ram known side ring w) (calls-next calls at c low is) o

pub kept-none : {Q : Type 0} (side : RingSideIs Q) (ring : List RingEntry) (n : ℕ)
    → IsOwnTurn side ring n → KeepsInbox side.net n ring ring
kept-none side ring n t = record { on = λ k. k; free = t.free; holds = λ h. h; inbox = refl }
