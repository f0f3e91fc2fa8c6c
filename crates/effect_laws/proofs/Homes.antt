-- What a node's port did for its own calls, and the ends of these calls.
use Rattle.std.proofs.Common.{◌≡◌, ℕ, ◌+◌, ◌≤◌, Bool, true, false, cond, not, Option, Some, None}
use Rattle.std.proofs.Common.{List, [], ◌∷◌, ◌++◌, refl, sym, ap, ◌∙◌, subst, arith}
use Rattle.std.specs.Prelude.{◌==◌, ◌&&◌, if◌then◌else◌, Contains}
use Rattle.std.specs.List.{AllByRecursion as Each, cons_option, count_by, filter_map}
use Rattle.std.proofs.lemmas.Bool.{and_parts, eqb-true, true≢false}
use Rattle.mstr_block.specs.Call.{is_same_call}
use Rattle.mstr_block.specs.declared.call.CallId.{CallId}
use Rattle.ring_core.specs.declared.entry.LocalOp.{LocalOp}
use Rattle.ring_core.specs.declared.entry.RingEntry.{RingEntry}
use Rattle.ring_core.specs.declared.entry.RingEntry.TheVariants.{Post, Send, Take, Local, GiveUp}
use Rattle.ring_core.specs.declared.entry.RingEntry.TheVariants.{Pass, Leave, Join}
use Rattle.ring_core.specs.declared.frame.Frame.{Frame}
use Rattle.ring_core.specs.declared.frame.FrameKind.{FrameKind}
use Rattle.ring_core.specs.declared.frame.FrameKind.TheVariants.{Request, Reply}
use Rattle.ring_core.specs.Words.{frame_route, maker}
use Rattle.host_port.proofs.Lists.{all_append, all_same, and_false}
use Rattle.host_port.specs.declared.entry.HostEntry.{HostEntry}
use Rattle.host_port.specs.declared.entry.HostEntry.TheVariants.{Ask, Answer, Served}
use Rattle.host_port.specs.declared.entry.HostResult.TheVariants as results
use Rattle.ring_laws.specs.Once.{posts}
use Rattle.ring_laws.proofs.Lists.{count-contains, count-weaker, each-contains, same-eq}
use Rattle.ring_laws.proofs.Lists.{contains-count}
use Rattle.tied_lists.specs.Own.{own}
use Rattle.tied_lists.specs.Items.{Asked, Called, CallSort, OverNet, AtHome, Ended, Items, Kind}
use Rattle.tied_lists.specs.Items.{LocalCall, NetCall, Outcome, Came, Replied, Lacked, Station}
use Rattle.tied_lists.specs.Items.{asked_by, asked_of, ended_by, ended_of, kind_in, kind_of_sort}
use Rattle.tied_lists.specs.Items.{net_ask, no_items}
use Rattle.joint_history.specs.declared.joint.Joint.{Joint}
use Rattle.joint_history.specs.Effects.{does_locally, effects}
use Rattle.joint_history.specs.Nets.{noted_on_rings}
use Rattle.joint_history.specs.Reading.{host_item_next, host_items_after, host_items_of}
use Rattle.effect_laws.specs.Served.{serves_another, services}
use Rattle.effect_laws.proofs.Counts.{count_cons, skip}
use Rattle.effect_laws.proofs.Calls.{CallFacts, OfCall, is_called, is_ended}

-- ---- the two sorts of what a port does

-- a port did what a call of its own node asks
abbrev pub acts_at_home : CallId → RingEntry → Bool
acts_at_home id (Local n name op result) = is_same_call name id && (name.node == n)
acts_at_home id _ = false

one-of-both : (x y : Bool) → cond {A = ℕ} x 1 0 ≡ cond (x && not y) 1 0 + cond (x && y) 1 0
one-of-both true true = refl
one-of-both true false = refl
one-of-both false true = refl
one-of-both false false = refl

three : (id : CallId) (e : RingEntry) (es : List RingEntry)
    → cond {A = ℕ} (does_locally id e) 1 0
    ≡ cond (serves_another id e) 1 0 + cond (acts_at_home id e) 1 0
    → count_by (does_locally id) es
    ≡ count_by (serves_another id) es + count_by (acts_at_home id) es
    → count_by (does_locally id) (e ∷ es)
    ≡ count_by (serves_another id) (e ∷ es) + count_by (acts_at_home id) (e ∷ es)
three id e es here rest =
    let all = count_cons (does_locally id) e es in
    let one = count_cons (serves_another id) e es in
    let two = count_cons (acts_at_home id) e es in
    omega arith

-- what ports do is one of the two
both-sorts : (id : CallId) (es : List RingEntry)
    → count_by (does_locally id) es
    ≡ count_by (serves_another id) es + count_by (acts_at_home id) es
both-sorts id [] = refl
both-sorts id (Post n f ∷ es) = three id (Post n f) es refl (both-sorts id es)
both-sorts id (Send n heard ∷ es) = three id (Send n heard) es refl (both-sorts id es)
both-sorts id (Take n f ∷ es) = three id (Take n f) es refl (both-sorts id es)
both-sorts id (Local n name op result ∷ es) =
    three id (Local n name op result) es (one-of-both (is_same_call name id) (name.node == n))
    (both-sorts id es)
both-sorts id (GiveUp name word ∷ es) = three id (GiveUp name word) es refl (both-sorts id es)
both-sorts id (Pass n done words ∷ es) = three id (Pass n done words) es refl (both-sorts id es)
both-sorts id (Leave n cause ∷ es) = three id (Leave n cause) es refl (both-sorts id es)
both-sorts id (Join n ∷ es) = three id (Join n) es refl (both-sorts id es)

-- a call took effect as often as it was served, and as ports did it at home
pub effects-are : (joint : Joint) (id : CallId)
    → effects joint id ≡ services joint id + count_by (acts_at_home id) (noted_on_rings joint)
effects-are joint id = let both = both-sorts id (noted_on_rings joint) in omega arith

-- what a port did at home took effect
pub home-effect : (joint : Joint) (id : CallId) (e : RingEntry)
    → Contains (noted_on_rings joint) e → acts_at_home id e ≡ true → 1 ≤ effects joint id
home-effect joint id e there is =
    let some = contains-count (acts_at_home id) (noted_on_rings joint) e is there in
    let all = effects-are joint id in
    omega (arith, some, all)

-- ---- entries of one node

-- entries that pass a test name this node: they are among its own
pub counted-own : (p : RingEntry → Bool) (n : ℕ) (es : List RingEntry)
    → Each (λ e. p e ≡ true → (maker e == n) ≡ true) es
    → count_by p es ≡ count_by p (own n es)
counted-own p n [] all = refl
counted-own p n (e ∷ es) all = at (p e) (maker e == n) refl all.0 (counted-own p n es all.1)
  where
    at : (x y : Bool) → p e ≡ x → (x ≡ true → y ≡ true) → count_by p es ≡ count_by p (own n es)
        → count_by p (e ∷ es) ≡ count_by p (cond y (e ∷ own n es) (own n es))
    at x true is mine rest =
        count_cons p e es ∙ ap (λ k. cond (p e) 1 0 + k) rest ∙ sym (count_cons p e (own n es))
    at true false is mine rest = absurd (true≢false (sym (mine refl)))
    at false false is mine rest = skip p e es is ∙ rest

pub at-home-own : (id : CallId) (e : RingEntry) → acts_at_home id e ≡ true
    → (maker e == id.node) ≡ true
at-home-own id (Post n f) is = absurd cc
at-home-own id (Send n heard) is = absurd cc
at-home-own id (Take n f) is = absurd cc
at-home-own id (Local n name op result) is =
    let two = and_parts (is_same_call name id) (name.node == n) is in
    let node = eqb-true name.node n two.1 in
    ap (λ (k : ℕ). k == id.node) (sym node) ∙ (and_parts (name.node == id.node) _ two.0).0
at-home-own id (GiveUp name word) is = absurd cc
at-home-own id (Pass n done words) is = absurd cc
at-home-own id (Leave n cause) is = absurd cc
at-home-own id (Join n) is = absurd cc

pub homes-own : (id : CallId) (es : List RingEntry)
    → count_by (acts_at_home id) es ≡ count_by (acts_at_home id) (own id.node es)
homes-own id es =
    counted-own (acts_at_home id) id.node es
    (all_same (λ (e : RingEntry). acts_at_home id e ≡ true → (maker e == id.node) ≡ true)
    (at-home-own id) es)

-- ---- their ends

-- a call that came to its result at home
abbrev pub came_home : Outcome → Option Kind → Bool
came_home (Came result) (Some (LocalCall op)) = true
came_home _ _ = false

abbrev pub is_home_end : CallId → Ended → Bool
is_home_end id end' = is_same_call end'.id id && came_home end'.outcome end'.kind

no-less : {X : Type 0} (p : X → Bool) (o : Option X) (xs : List X)
    → count_by p xs ≤ count_by p (cons_option o xs)
no-less p None xs = omega arith
no-less p (Some x) xs = let step = count_cons p x xs in omega arith

none-home : (x : Bool) → cond {A = ℕ} (x && false) 1 0 ≡ 0
none-home true = refl
none-home false = refl

-- each Local of an own call is an end of it
homes-end : (station : Station) (id : CallId) (asked : List Asked) (b : List RingEntry)
    → count_by (acts_at_home id) b ≤ count_by (is_home_end id) (ended_by station asked b)
homes-end station id asked [] = omega arith
homes-end station id asked (Post n f ∷ b) =
    let rest = homes-end station id (asked ++ cons_option (asked_of (Post n f)) []) b in
    let step = skip (acts_at_home id) (Post n f) b refl in omega arith
homes-end station id asked (Send n heard ∷ b) =
    let rest = homes-end station id (asked ++ []) b in
    let step = skip (acts_at_home id) (Send n heard) b refl in omega arith
homes-end station id asked (Take n f ∷ b) =
    let rest = homes-end station id (asked ++ []) b in
    let step = skip (acts_at_home id) (Take n f) b refl in
    let more = no-less (is_home_end id) (ended_of station asked (Take n f))
    (ended_by station (asked ++ []) b) in omega arith
homes-end station id asked (Local n name op result ∷ b) =
    let rest = homes-end station id (asked ++ []) b in
    let step = count_cons (acts_at_home id) (Local n name op result) b in
    at (name.node == n) rest step
  where
    this : Ended
    this = record { id = name; kind = Some (LocalCall op); outcome = Came result }

    at : (here : Bool) → count_by (acts_at_home id) b ≤ count_by (is_home_end id)
        (ended_by station (asked ++ []) b)
        → count_by (acts_at_home id) (Local n name op result ∷ b)
        ≡ cond (is_same_call name id && here) 1 0 + count_by (acts_at_home id) b
        → count_by (acts_at_home id) (Local n name op result ∷ b)
        ≤ count_by (is_home_end id) (cons_option (if here then Some this else None)
        (ended_by station (asked ++ []) b))
    at true rest step =
        let more = count_cons (is_home_end id) this (ended_by station (asked ++ []) b) in
        omega arith
    at false rest step = let none = none-home (is_same_call name id) in omega arith
homes-end station id asked (GiveUp name word ∷ b) =
    let rest = homes-end station id (asked ++ []) b in
    let step = skip (acts_at_home id) (GiveUp name word) b refl in
    let more = no-less (is_home_end id) (ended_of station asked (GiveUp name word))
    (ended_by station (asked ++ []) b) in omega arith
homes-end station id asked (Pass n done words ∷ b) =
    let rest = homes-end station id (asked ++ []) b in
    let step = skip (acts_at_home id) (Pass n done words) b refl in omega arith
homes-end station id asked (Leave n cause ∷ b) =
    let rest = homes-end station id (asked ++ []) b in
    let step = skip (acts_at_home id) (Leave n cause) b refl in omega arith
homes-end station id asked (Join n ∷ b) =
    let rest = homes-end station id (asked ++ []) b in
    let step = skip (acts_at_home id) (Join n) b refl in omega arith

-- so what a port did at home its station's list tells as ended
pub home-ended : (station : Station) (a : Items) (id : CallId) (b : List RingEntry)
    → a.ends ≡ ended_by station [] b
    → count_by (acts_at_home id) b ≤ count_by (is_home_end id) a.ends
home-ended station a id b ends =
    let ended = homes-end station id [] b in
    let ends_are = ap (count_by (is_home_end id)) ends in
    omega (arith, ended, ends_are)

-- ---- a call at home is asked of no other node

abbrev pub is_asked : CallId → Asked → Bool
is_asked id a = is_same_call a.id id

asked-called : (id : CallId) (c : Called) (cs : List Called)
    → count_by (is_asked id) (filter_map net_ask cs) ≤ count_by (is_called id) cs
    → count_by (is_asked id) (filter_map net_ask (c ∷ cs)) ≤ count_by (is_called id) (c ∷ cs)
asked-called id c cs rest = at c.sort refl (count_cons (is_called id) c cs)
  where
    at : (sort : CallSort) → c.sort ≡ sort
        → count_by (is_called id) (c ∷ cs)
        ≡ cond (is_same_call c.id id) 1 0 + count_by (is_called id) cs
        → count_by (is_asked id) (filter_map net_ask (record { id = c.id; sort = sort } ∷ cs)) ≤
        count_by (is_called id) (c ∷ cs)
    at (OverNet route pdu) is step =
        let this : Asked = record { id = c.id; route = route; pdu = pdu } in
        let more = count_cons (is_asked id) this (filter_map net_ask cs) in omega arith
    at (AtHome op) is step = omega arith

fewer-asked : (id : CallId) (cs : List Called)
    → count_by (is_asked id) (filter_map net_ask cs) ≤ count_by (is_called id) cs
fewer-asked id [] = omega arith
fewer-asked id (c ∷ cs) = asked-called id c cs (fewer-asked id cs)

abbrev home_asks_none : CallId → LocalOp → List Called → Type 0
home_asks_none id op cs =
    kind_in cs id ≡ Some (LocalCall op) → count_by (is_called id) cs ≤ 1
    → count_by (is_asked id) (filter_map net_ask cs) ≡ 0

home-first : (id : CallId) (op : LocalOp) (name : CallId) (sort : CallSort) (cs : List Called)
    → home_asks_none id op cs
    → home_asks_none id op (record { id = name; sort = sort } ∷ cs)
home-first id op name sort cs rest found once =
    at sort (is_same_call name id) refl found
    (count_cons (is_called id) (record { id = name; sort = sort }) cs)
  where
    at : (s : CallSort) (same : Bool) → is_same_call name id ≡ same
        → (if same then Some (kind_of_sort s) else kind_in cs id) ≡ Some (LocalCall op)
        → count_by (is_called id) (record { id = name; sort = sort } ∷ cs)
        ≡ cond same 1 0 + count_by (is_called id) cs
        → count_by (is_asked id) (filter_map net_ask (record { id = name; sort = s } ∷ cs)) ≡ 0
    at (OverNet route pdu) true is found' step =
        let no' : Some NetCall ≡ Some (LocalCall op) = found' in absurd cc
    at (AtHome other) true is found' step = let fewer = fewer-asked id cs in omega arith
    at (OverNet route pdu) false is found' step =
        let this : Asked = record { id = name; route = route; pdu = pdu } in
        skip (is_asked id) this (filter_map net_ask cs) is ∙ rest found' (omega arith)
    at (AtHome other) false is found' step = rest found' (omega arith)

home-asks-none : (id : CallId) (op : LocalOp) (cs : List Called) → home_asks_none id op cs
home-asks-none id op [] found once = absurd (let no' : None ≡ Some (LocalCall op) = found in cc)
home-asks-none id op (c ∷ cs) found once =
    home-first id op c.id c.sort cs (home-asks-none id op cs) found once

-- ---- what stations keep of it

-- a call that ended at home ended once, and was asked of no other node
pub record HomeFacts (a : Items) (id : CallId) : Type 0 where
  pub once : count_by (is_home_end id) a.ends ≤ 1
  pub none : count_by (is_asked id) (filter_map net_ask a.calls) ≡ 0

abbrev pub HomesOnce : Items → Type 0
HomesOnce a = (id : CallId) → 1 ≤ count_by (is_home_end id) a.ends → HomeFacts a id

home-kind : (outcome : Outcome) (kind : Kind) → came_home outcome (Some kind) ≡ true
    → (op : LocalOp) × (kind ≡ LocalCall op)
home-kind (Came result) (LocalCall op) is = (op, refl)
home-kind (Came result) NetCall is = absurd cc
home-kind (Replied pdu) kind is = absurd cc
home-kind (Lacked word) kind is = absurd cc

-- the call of such an end is one of an operation
pub home-made : (a : Items) → CallFacts a → (id : CallId) → 1 ≤ count_by (is_home_end id) a.ends
    → (op : LocalOp) × (kind_in a.calls id ≡ Some (LocalCall op))
home-made a f id some =
    let found = count-contains (is_home_end id) a.ends some in
    let end' = found.0 in
    let of = each-contains (OfCall a.calls) a.ends end' f.kinds found.1 in
    let two = and_parts (is_same_call end'.id id) (came_home end'.outcome end'.kind) found.2 in
    let home = home-kind end'.outcome of.0 (sym (ap (came_home end'.outcome) of.1) ∙ two.1) in (
      home.0,
      subst (λ (i : CallId). kind_in a.calls i ≡ Some (LocalCall home.0))
          (same-eq end'.id id two.0) (of.2 ∙ ap Some home.1),
    )

pub controller-homes : (a : Items) → CallFacts a → HomesOnce a
controller-homes a f id some =
    let made = home-made a f id some in
    let weaker = count-weaker (is_home_end id) (is_ended id) a.ends
    (all_same (λ (e : Ended). is_home_end id e ≡ true → is_ended id e ≡ true)
    (λ e is. (and_parts (is_same_call e.id id) (came_home e.outcome e.kind) is).0) a.ends) in
    let most = f.ends id in
    record { once = omega arith; none = home-asks-none id made.0 a.calls made.1 (f.calls id) }

-- an end of no call that a port did at home
abbrev pub is_away : Ended → Type 0
is_away end' = (id : CallId) → is_home_end id end' ≡ false

away-next : (a : Items) (e : HostEntry) → Each is_away a.ends
    → Each is_away (host_item_next a e).ends
away-next a (Ask id route pdu) all = all
away-next a (Answer id (results.Reply pdu)) all =
    all_append is_away a.ends _ all ((λ other. and_false (is_same_call id other)), tt)
away-next a (Answer id (results.Bad word)) all =
    all_append is_away a.ends _ all ((λ other. and_false (is_same_call id other)), tt)
away-next a (Served id request reply) all = all

aways : (a : Items) (h : List HostEntry) → Each is_away a.ends
    → Each is_away (host_items_after a h).ends
aways a [] all = all
aways a (e ∷ h) all = aways (host_item_next a e) h (away-next a e all)

-- a host has no call that a port did at home
pub host-away : (h : List HostEntry) → Each is_away (host_items_of h).ends
host-away h = aways no_items h tt

-- where no end is one of them, none is counted
pub none-away : (id : CallId) (ends : List Ended) → Each is_away ends
    → 1 ≤ count_by (is_home_end id) ends → ⊥
none-away id ends all some =
    let found = count-contains (is_home_end id) ends some in
    true≢false (sym found.2 ∙ each-contains is_away ends found.0 all found.1 id)

pub host-homes : (h : List HostEntry) → HomesOnce (host_items_of h)
host-homes h id some = absurd (none-away id (host_items_of h).ends (host-away h) some)

-- ---- what was posted was asked

posted-kind : (id : CallId) (n : ℕ) (f : Frame) (kind : FrameKind) (b : List RingEntry)
    → count_by (posts id) b ≡ count_by (is_asked id) (asked_by b)
    → count_by (posts id) (Post n (record f { kind = kind }) ∷ b)
    ≡ count_by (is_asked id) (asked_by (Post n (record f { kind = kind }) ∷ b))
posted-kind id n f Request b rest =
    count_cons (posts id) (Post n (record f { kind = Request })) b
    ∙ ap (λ k. cond (is_same_call f.id id) 1 0 + k) rest
    ∙ sym (count_cons (is_asked id) (record { id = f.id; route = frame_route f; pdu = f.pdu })
    (asked_by b))
posted-kind id n f Reply b rest =
    skip (posts id) (Post n (record f { kind = Reply })) b refl ∙ rest

pub posted-asked : (id : CallId) (b : List RingEntry)
    → count_by (posts id) b ≡ count_by (is_asked id) (asked_by b)
posted-asked id [] = refl
posted-asked id (Post n f ∷ b) = posted-kind id n f f.kind b (posted-asked id b)
posted-asked id (Send n heard ∷ b) = skip (posts id) (Send n heard) b refl ∙ posted-asked id b
posted-asked id (Take n f ∷ b) = skip (posts id) (Take n f) b refl ∙ posted-asked id b
posted-asked id (Local n name op result ∷ b) =
    skip (posts id) (Local n name op result) b refl ∙ posted-asked id b
posted-asked id (GiveUp name word ∷ b) =
    skip (posts id) (GiveUp name word) b refl ∙ posted-asked id b
posted-asked id (Pass n done words ∷ b) =
    skip (posts id) (Pass n done words) b refl ∙ posted-asked id b
posted-asked id (Leave n cause ∷ b) = skip (posts id) (Leave n cause) b refl ∙ posted-asked id b
posted-asked id (Join n ∷ b) = skip (posts id) (Join n) b refl ∙ posted-asked id b
