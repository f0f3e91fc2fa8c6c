-- Which calls of a node wait, and what is due of them.
use Rattle.std.proofs.Common.{◌≡◌, ◌⊎◌, ℕ, zero, suc, ◌<◌, ◌≤◌, Bool}
use Rattle.std.proofs.Common.{true, false, nat_le, ◌&&◌, List, []}
use Rattle.std.proofs.Common.{◌∷◌, ◌++◌, get_or, filter_map}
use Rattle.std.proofs.Common.{Option, Some, None, refl, sym, ap, ◌∙◌, subst, inl, inr, ⊎_elim}
use Rattle.std.proofs.Common.{arith}
use Rattle.std.specs.List.{cons_option}
use Rattle.std.specs.Prelude.{is_none}
use Rattle.std.proofs.lemmas.Bool.{cases_Bool, leb-true, leb-false}
use Rattle.tied_lists.proofs.Boxes.{each-map}
use Rattle.std.proofs.lemmas.List.Elements.{All-get_or, All-from_get_or}
use Rattle.plant_types.specs.declared.net.NetPlan.{NetPlan}
use Rattle.mstr_block.specs.declared.call.CallId.{CallId}
use Rattle.controller_core.specs.declared.entry.Entry.{Entry}
use Rattle.controller_core.specs.declared.fixed.Fixed.{Fixed}
use Rattle.ring_core.specs.declared.frame.FrameKind.TheVariants.{Request, Reply}
use Rattle.ring_core.specs.declared.frame.Frame.{Frame}
use Rattle.ring_core.specs.declared.path.Await.{Await}
use Rattle.ring_core.specs.declared.path.Await.TheVariants.{Nothing, Out, Arrived, Failed}
use Rattle.ring_core.specs.declared.path.Path.{Path}
use Rattle.ring_core.specs.declared.entry.RingEntry.{RingEntry}
use Rattle.ring_core.specs.declared.entry.RingEntry.TheVariants.{Post, Send, Take, Local, GiveUp}
use Rattle.ring_core.specs.declared.entry.RingEntry.TheVariants.{Pass, Leave, Join}
use Rattle.ring_core.specs.Machine.{is_here, NodeIs, RingIs, path_of, passes_of}
use Rattle.tied_lists.specs.Own.{is_of, own, Adds}
use Rattle.tied_lists.specs.Items.{Called, Items, down_in}
use Rattle.tied_lists.specs.Waits.{waiting as waits_on, AwaitsThis, IsAsk, HasLeft, IsOnRing}
use Rattle.ring_core.specs.Legal.{IsLegalRing}
use Rattle.tied_lists.proofs.Growth.{adds-grew, grew-ours}
use Rattle.tied_lists.proofs.Paths.{waiting-push}
use Rattle.ring_core.specs.declared.entry.LeaveCause.{LeaveCause}
use Rattle.ring_core.specs.declared.entry.LeaveCause.TheVariants.{Ended, Spent}
use Rattle.std.specs.Prelude.{if◌then◌else◌}
use Rattle.comm_port.proofs.RingTurns.{not-in, NotPost, on-grew}
use Rattle.comm_port.specs.Leaving.{cause_due, is_due, last_entry, HandedOn}
use Rattle.tied_lists.proofs.Histories.{legal-follows}
use Rattle.comm_port.specs.Ending.{AsksIfDone}
use Rattle.comm_port.specs.Giving.{part_at, due_by, due_on, due_calls, is_chosen}
use Rattle.comm_port.specs.Giving.{MaySend, GivesWhere, HasFailed, NoneFailed, each_path}
use Rattle.comm_port.specs.HoldTurn.{overdue_by, overdue_on, overdue}
use Rattle.comm_port.specs.Order.{IsGivingUp}
use Rattle.comm_port.specs.Parts.{calls_waiting}
use Rattle.mstr_block.specs.Table.{network_paths}
use Rattle.comm_port.specs.Sides.{RingSideIs, RamSideIs}
use Rattle.comm_port.specs.Turns.{AreWaiting, Turning}
use Rattle.comm_port.specs.Waiting.{id_of, free_paths, IsIdle}
use Rattle.comm_port.proofs.Dues.{nothing-waits}
use Rattle.comm_port.proofs.Through.{Asks, NoAsks, IsEnding}

-- ---- four paths

pub four-none : (f : ℕ → Option CallId) → f 1 ≡ None → f 2 ≡ None → f 3 ≡ None → f 4 ≡ None
    → filter_map f network_paths ≡ []
four-none f a b c d = λ i. cons_option (a i)
    (cons_option (b i) (cons_option (c i) (cons_option (d i) [])))

pub four-same : (f g : ℕ → Option CallId) → f 1 ≡ g 1 → f 2 ≡ g 2 → f 3 ≡ g 3 → f 4 ≡ g 4
    → filter_map f network_paths ≡ filter_map g network_paths
four-same f g a b c d = λ i. cons_option (a i)
    (cons_option (b i) (cons_option (c i) (cons_option (d i) [])))

no-item : (o : Option CallId) (xs : List CallId) → cons_option o xs ≡ [] → (o ≡ None) × (xs ≡ [])
no-item None xs e = (refl, e)
no-item (Some x) xs e = absurd (let bad : x ∷ xs ≡ [] = e in cc)

pub none-four : (f : ℕ → Option CallId) → filter_map f network_paths ≡ []
    → (f 1 ≡ None) × (f 2 ≡ None) × (f 3 ≡ None) × (f 4 ≡ None)
none-four f e =
    let one = no-item (f 1) _ e in
    let two = no-item (f 2) _ one.1 in
    let three = no-item (f 3) _ two.1 in
    let four = no-item (f 4) _ three.1 in
    (one.0, two.0, three.0, four.0)

-- ---- a worker's Requests, and the calls that wait

pub unnamed : (o : Option Frame) → id_of o ≡ None → o ≡ None
unnamed None e = refl
unnamed (Some f) e = absurd (let bad : Some f.id ≡ None = e in cc)

no-zero : (n : ℕ) (a : Items) (b : List RingEntry) (w : List (Option Frame)) → AreWaiting n a b w
    → (o : Option Frame) → get_or w 0 None ≡ o → get_or w 0 None ≡ None
no-zero n a b w k None is = is
no-zero n a b w k (Some f) is = absurd (let p = (k.asks 0 f is).is_path.0 in omega (arith, p))

pub idle-none : (n : ℕ) (a : Items) (ring : List RingEntry) (w : List (Option Frame))
    → AreWaiting n a (own n ring) w → IsIdle w → calls_waiting n ring ≡ []
idle-none n a ring w k idle = four-none (λ p. id_of (waits_on p (own n ring))) (at 1 (omega arith))
    (at 2 (omega arith)) (at 3 (omega arith)) (at 4 (omega arith))
  where
    at : (p : ℕ) → p < 5 → id_of (waits_on p (own n ring)) ≡ None
    at p low = ap id_of (sym (k.waits p) ∙ All-get_or (λ (slot : Option Frame). slot ≡ None) w p
        None (let s = k.size in omega (arith, s, low)) idle)

pub none-idle : (n : ℕ) (a : Items) (ring : List RingEntry) (w : List (Option Frame))
    → AreWaiting n a (own n ring) w → calls_waiting n ring ≡ [] → IsIdle w
none-idle n a ring w k none =
    let all = none-four (λ p. id_of (waits_on p (own n ring))) none in
    All-from_get_or (λ (slot : Option Frame). slot ≡ None) w None
    (λ i low. at i (let s = k.size in omega (arith, s, low)) all.0 all.1 all.2 all.3)
  where
    slot : (p : ℕ) → id_of (waits_on p (own n ring)) ≡ None → get_or w p None ≡ None
    slot p e = k.waits p ∙ unnamed (waits_on p (own n ring)) e

    at : (i : ℕ) → i < 5 → id_of (waits_on 1 (own n ring)) ≡ None
        → id_of (waits_on 2 (own n ring)) ≡ None → id_of (waits_on 3 (own n ring)) ≡ None →
        id_of (waits_on 4 (own n ring)) ≡ None → get_or w i None ≡ None
    at zero low e1 e2 e3 e4 = no-zero n a (own n ring) w k (get_or w 0 None) refl
    at (suc zero) low e1 e2 e3 e4 = slot 1 e1
    at (suc (suc zero)) low e1 e2 e3 e4 = slot 2 e2
    at (suc (suc (suc zero))) low e1 e2 e3 e4 = slot 3 e3
    at (suc (suc (suc (suc zero)))) low e1 e2 e3 e4 = slot 4 e4
    at (suc (suc (suc (suc (suc i))))) low e1 e2 e3 e4 = absurd (omega (arith, low))

pub asks-so : (alone : Bool) (fixed : Fixed) (noticed n : ℕ) (a : Items) (ring : List RingEntry)
    (w : List (Option Frame)) (known known' : List Entry)
    (done : Bool) → AreWaiting n a (own n ring) w
    → AsksIfDone alone fixed noticed (IsIdle w) known known' done
    → AsksIfDone alone fixed noticed (calls_waiting n ring ≡ []) known known' done
asks-so alone fixed noticed n a ring w known known' done k q = record {
  all_yes = q.all_yes;
  asked = q.asked;
  done_is = (
    λ is. ((q.done_is.0 is).0, idle-none n a ring w k (q.done_is.0 is).1),
    λ both. q.done_is.1 (both.0, none-idle n a ring w k both.1),
  );
}

-- ---- what is due of a node that has left is what waits

gone-due : (answer n p : ℕ) (a : Await) (o : Option Frame) → AwaitsThis a o
    → ((f : Frame) → o ≡ Some f → IsAsk n p f) → due_by answer false n p a ≡ id_of o
gone-due answer n p Nothing None awaits ask = refl
gone-due answer n p Nothing (Some f) awaits ask = absurd awaits
gone-due answer n p (Out seq to onward passes) None awaits ask = absurd awaits
gone-due answer n p (Out seq to onward passes) (Some f) awaits ask = let k = ask f refl in
    (λ i. Some (record { node = sym k.node i; path = sym k.path i; seq = awaits i }))
gone-due answer n p (Arrived seq) None awaits ask = absurd awaits
gone-due answer n p (Arrived seq) (Some f) awaits ask = let k = ask f refl in
    (λ i. Some (record { node = sym k.node i; path = sym k.path i; seq = awaits i }))
gone-due answer n p (Failed seq word) None awaits ask = absurd awaits
gone-due answer n p (Failed seq word) (Some f) awaits ask = let k = ask f refl in
    (λ i. Some (record { node = sym k.node i; path = sym k.path i; seq = awaits i }))

pub due-waits : {P Q : Type 0} (n : ℕ) (rest : List Called) (ram : RamSideIs P) (known : List Entry)
    (side : RingSideIs Q) (ring : List RingEntry) (w : List
    (Option Frame)) → HasLeft side.net ring n → Turning n rest ram known side ring w
    → due_calls side.net n ring network_paths ≡ calls_waiting n ring
due-waits n rest ram known side ring w gone t = four-same (due_on side.net n c)
    (λ p. id_of (waits_on p (own n ring))) (at 1) (at 2) (at 3) (at 4)
  where
    c : NodeIs
    c = part_at side.net n ring

    at : (p : ℕ) → due_on side.net n c p ≡ id_of (waits_on p (own n ring))
    at p =
        let follows = (legal-follows side.net ring n t.own_turn.on).node.part in
        ap (λ (b : Bool). due_by side.net.answer b n p (path_of c p).awaits)
        (not-in side.net n ring gone)
        ∙ gone-due side.net.answer n p (path_of c p).awaits (waits_on p (own n ring))
        (follows.paths p) (follows.asks p)

-- after all of it was given up none waits
none-gone : (answer n p : ℕ) (a : Await) → due_by answer false n p a ≡ None → a ≡ Nothing
none-gone answer n p Nothing e = refl
none-gone answer n p (Out seq to onward passes) e = absurd
    (let bad : Some (record { node = n; path = p; seq = seq }) ≡ None = e in cc)
none-gone answer n p (Arrived seq) e = absurd
    (let bad : Some (record { node = n; path = p; seq = seq }) ≡ None = e in cc)
none-gone answer n p (Failed seq word) e = absurd
    (let bad : Some (record { node = n; path = p; seq = seq }) ≡ None = e in cc)

waits-none : (a : Await) (o : Option Frame) → a ≡ Nothing → AwaitsThis a o → o ≡ None
waits-none a None is w = refl
waits-none a (Some f) is w = absurd (subst (λ (x : Await). AwaitsThis x (Some f)) is w)

pub none-left : {P Q : Type 0} (n : ℕ) (rest : List Called) (chosen : List Bool) (ram : RamSideIs P)
    (known : List Entry) (side : RingSideIs Q) (ring ring' : List
    RingEntry) (w : List (Option Frame)) → ((p : ℕ) → 1 ≤ p → p < 5 → is_chosen chosen p ≡ true)
    → HasLeft side.net ring n → GivesWhere side.net n chosen 5 ring ring'
    → Turning n rest ram known side ring' w → calls_waiting n ring' ≡ []
none-left n rest chosen ram known side ring ring' w all gone g t =
    four-none (λ p. id_of (waits_on p (own n ring'))) (at 1 (omega arith) (omega arith))
    (at 2 (omega arith) (omega arith)) (at 3 (omega arith) (omega arith))
    (at 4 (omega arith) (omega arith))
  where
    old : NodeIs
    old = part_at side.net n ring

    new : NodeIs
    new = part_at side.net n ring'

    empty : (p : ℕ) → 1 ≤ p → p < 5 → (path_of new p).awaits ≡ Nothing
    empty p from to = ⊎_elim (λ (x : (path_of new p).awaits ≡ Nothing). x)
        (λ (y : (path_of new p ≡ path_of old p) × (due_on side.net n old p ≡ None)). ap
        (λ (q : Path). q.awaits) y.0
        ∙ none-gone side.net.answer n p (path_of old p).awaits
        (ap (λ (b : Bool). due_by side.net.answer b n p (path_of old p).awaits)
        (sym (not-in side.net n ring gone))
        ∙ y.1))
        (g.part.settled p from to (all p from to))

    at : (p : ℕ) → 1 ≤ p → p < 5 → id_of (waits_on p (own n ring')) ≡ None
    at p from to = ap id_of (waits-none (path_of new p).awaits (waits_on p (own n ring'))
        (empty p from to)
        ((legal-follows side.net ring' n t.own_turn.on).node.part.paths p))

-- ---- what is due of a member is overdue, where nothing has failed

due-over : (answer n p : ℕ) (a : Await) → (HasFailed a → ⊥)
    → due_by answer true n p a ≡ overdue_by answer n p a
due-over answer n p Nothing none = refl
due-over answer n p (Out seq to onward passes) none = refl
due-over answer n p (Arrived seq) none = refl
due-over answer n p (Failed seq word) none = absurd (none tt)

pub overdue-is : (net : NetPlan) (n : ℕ) (ring : List RingEntry)
    → (is_here (part_at net n ring)) ≡ true
    → NoneFailed each_path (part_at net n ring) → due_calls net n ring
    network_paths ≡ overdue net n ring
overdue-is net n ring here none = four-same (due_on net n c) (overdue_on net n c) (at 1) (at 2)
    (at 3) (at 4)
  where
    c : NodeIs
    c = part_at net n ring

    at : (p : ℕ) → due_on net n c p ≡ overdue_on net n c p
    at p = ap (λ (b : Bool). due_by net.answer b n p (path_of c p).awaits) here ∙ due-over
        net.answer n p (path_of c p).awaits (none p refl)

-- ---- the paths that are free before the calls are made

pub asks-start : {P Q : Type 0} (n : ℕ) (ram : RamSideIs P) (known : List Entry)
    (side : RingSideIs Q) (ring : List RingEntry) (w : List
    (Option Frame)) → 0 < side.net.answer → Turning n [] ram known side ring w
    → NoAsks (part_at side.net n ring)
    → Asks (free_paths w) side.net.answer (part_at side.net n ring)
asks-start n ram known side ring w wait t q = record {
  none_failed = q.0;
  young = λ p on. ⊎_elim (λ (low : p < 5). free-young p low on)
      (λ (high : 5 ≤ p). absurd (let bad : false ≡ true = sym (beyond p high) ∙ on in cc))
      (side-of p);
  asks = each-map (λ (f : Frame). f.kind ≡ Reply)
      (λ (f : Frame). f.kind ≡ Request → is_chosen (free_paths w) f.id.path ≡ true)
      c.outbox (λ f reply ask. let bad : Reply ≡ Request = sym reply ∙ ask in absurd cc) q.1;
  taken = λ p low off is. taken-at p low off is;
}
  where
    c : NodeIs
    c = part_at side.net n ring

    side-of : (p : ℕ) → (p < 5) ⊎ (5 ≤ p)
    side-of p = ⊎_elim (λ (y : nat_le 5 p ≡ true). inr (leb-true 5 p y))
        (λ (y : nat_le 5 p ≡ false). inl (leb-false 5 p y))
        (cases_Bool (nat_le 5 p))

    free-at : (p : ℕ) → p < 5 → is_chosen (free_paths w) p ≡ is_none (get_or w p None)
    free-at zero low = refl
    free-at (suc zero) low = refl
    free-at (suc (suc zero)) low = refl
    free-at (suc (suc (suc zero))) low = refl
    free-at (suc (suc (suc (suc zero)))) low = refl
    free-at (suc (suc (suc (suc (suc p))))) low = absurd (omega (arith, low))

    beyond : (p : ℕ) → 5 ≤ p → is_chosen (free_paths w) p ≡ false
    beyond zero high = absurd (omega (arith, high))
    beyond (suc zero) high = absurd (omega (arith, high))
    beyond (suc (suc zero)) high = absurd (omega (arith, high))
    beyond (suc (suc (suc zero))) high = absurd (omega (arith, high))
    beyond (suc (suc (suc (suc zero)))) high = absurd (omega (arith, high))
    beyond (suc (suc (suc (suc (suc p))))) high = refl

    awaits-at : (p : ℕ) → AwaitsThis (path_of c p).awaits (get_or w p None)
    awaits-at p = subst (AwaitsThis (path_of c p).awaits) (sym (t.waits.waits p))
        ((legal-follows side.net ring n t.own_turn.on).node.part.paths p)

    free-none : (o : Option Frame) → is_none o ≡ true → o ≡ None
    free-none None e = refl
    free-none (Some f) e = absurd (let bad : false ≡ true = e in cc)

    taken-some : (o : Option Frame) (a : Await) → is_none o ≡ false → AwaitsThis a o → a ≡ Nothing
        → ⊥
    taken-some None a e k is = let bad : true ≡ false = e in cc
    taken-some (Some f) a e k is = subst (λ (x : Await). AwaitsThis x (Some f)) is k

    free-young : (p : ℕ) → p < 5 → is_chosen (free_paths w) p ≡ true
        → passes_of (path_of c p).awaits < side.net.answer
    free-young p low on =
        let none = free-none (get_or w p None) (sym (free-at p low) ∙ on) in
        let nothing = nothing-waits (path_of c p).awaits
        (subst (AwaitsThis (path_of c p).awaits) none (awaits-at p)) in
        subst (λ (a : Await). passes_of a < side.net.answer) (sym nothing) wait

    taken-at : (p : ℕ) → p < 5 → is_chosen (free_paths w) p ≡ false → (path_of c p).awaits ≡ Nothing
        → ⊥
    taken-at p low off is = taken-some (get_or w p None) (path_of c p).awaits
        (sym (free-at p low) ∙ off) (awaits-at p) is

pub may-send : (net : NetPlan) (n : ℕ) (chosen : List Bool) (c : NodeIs) → Asks chosen net.answer c
    → MaySend net n chosen c
may-send net n chosen c q = record { none_failed = q.none_failed; young = q.young; asks = q.asks }

-- ---- entries that end a turn

pub ending-too : (e : RingEntry) → IsGivingUp e → IsEnding e
ending-too (GiveUp id word) k = tt
ending-too (Post m f) k = absurd k
ending-too (Send m heard) k = absurd k
ending-too (Take m f) k = absurd k
ending-too (Local m id op result) k = absurd k
ending-too (Pass m done words) k = absurd k
ending-too (Leave m cause) k = absurd k
ending-too (Join m) k = absurd k

last-ends : (n : ℕ) (done : Bool) (words : List ℕ) (cause : Option LeaveCause)
    → IsEnding (last_entry n done words cause)
last-ends n done words None = tt
last-ends n done words (Some cause) = tt

pub handed-ends : (alone : Bool) (net : NetPlan) (n : ℕ) (done : Bool) (words : List ℕ)
    (cause : Option LeaveCause) (ring ring' : List RingEntry) → HandedOn
    alone net n done words cause ring ring' → Adds alone (is_of n) IsEnding ring ring'
handed-ends alone net n done words cause ring ring' h =
    adds-grew alone (is_of n) IsEnding ring (last_entry n done words cause ∷ []) ring'
    (last-ends n done words cause, tt) h.grew

-- what a turn leaves for is no failure
abbrev pub IsQuietCause : Option LeaveCause → Type 0
IsQuietCause cause = (why : LeaveCause) → cause ≡ Some why → down_in why ≡ None

pub quiet-due : (net : NetPlan) (r : RingIs) (n : ℕ) (done budget : Bool)
    → IsQuietCause (cause_due net r n done budget)
quiet-due net r n done budget why is =
    by (budget && is_due net r n Spent) (done && is_due net r n Ended) is
  where
    the-cause : (x y : LeaveCause) → Some x ≡ Some y → x ≡ y
    the-cause x y e = cc

    by : (spent ended : Bool)
        → (if spent then Some Spent else (if ended then Some Ended else None)) ≡ Some why
        → down_in why ≡ None
    by true ended e = ap down_in (sym (the-cause Spent why e))
    by false true e = ap down_in (sym (the-cause Ended why e))
    by false false e = absurd (let bad : None ≡ Some why = e in cc)

-- the node is on the ring as before
last-calm : (n : ℕ) (done : Bool) (words : List ℕ) (cause : Option LeaveCause)
    → NotPost (last_entry n done words cause)
last-calm n done words None = tt
last-calm n done words (Some cause) = tt

pub handed-on : (alone : Bool) (net : NetPlan) (n : ℕ) (done : Bool) (words : List ℕ)
    (cause : Option LeaveCause) (ring ring' : List RingEntry) → IsOnRing net ring n
    → IsLegalRing net ring' → HandedOn alone net n done words cause ring ring'
    → IsOnRing net ring' n
handed-on alone net n done words cause ring ring' on legal h =
    on-grew alone net n ring (last_entry n done words cause ∷ []) ring' on legal
    (last-calm n done words cause, tt) h.grew

-- the last entry leaves what waits
waits-handed : (n : ℕ) (done : Bool) (words : List ℕ) (cause : Option LeaveCause)
    (b : List RingEntry) (p : ℕ) → waits_on p (b ++ last_entry n done words
    cause ∷ []) ≡ waits_on p b
waits-handed n done words None b p = waiting-push p b (Pass n done words)
waits-handed n done words (Some cause) b p = waiting-push p b (Leave n cause)

pub waiting-handed : (alone : Bool) (net : NetPlan) (n : ℕ) (done : Bool) (words : List ℕ)
    (cause : Option LeaveCause) (ring ring' : List RingEntry) → HandedOn
    alone net n done words cause ring ring' → calls_waiting n ring' ≡ calls_waiting n ring
waiting-handed alone net n done words cause ring ring' h =
    four-same (λ p. id_of (waits_on p (own n ring'))) (λ p. id_of (waits_on p (own n ring))) (at 1)
    (at 2) (at 3) (at 4)
  where
    at : (p : ℕ) → id_of (waits_on p (own n ring')) ≡ id_of (waits_on p (own n ring))
    at p = ap id_of (ap (waits_on p)
        (grew-ours alone (is_of n) ring (last_entry n done words cause ∷ []) ring' h.grew)
        ∙ waits-handed n done words cause (own n ring) p)

-- all paths
abbrev pub all-paths : List Bool
all-paths = true ∷ true ∷ true ∷ true ∷ true ∷ []

pub all-on : (p : ℕ) → 1 ≤ p → p < 5 → is_chosen all-paths p ≡ true
all-on zero from to = absurd (omega (arith, from))
all-on (suc zero) from to = refl
all-on (suc (suc zero)) from to = refl
all-on (suc (suc (suc zero))) from to = refl
all-on (suc (suc (suc (suc zero)))) from to = refl
all-on (suc (suc (suc (suc (suc p))))) from to = absurd (omega (arith, to))

pub turn-side : {P Q : Type 0} (n : ℕ) (ram : RamSideIs P) (known : List Entry)
    (side side' : RingSideIs Q) (ring : List RingEntry) (w : List (Option Frame)) → side'
    ≡ side → Turning n [] ram known side' ring w → Turning n [] ram known side ring w
turn-side {P} {Q} n ram known side side' ring w same t = subst
    (λ (s : RingSideIs Q). Turning n [] ram known s ring w) same t
