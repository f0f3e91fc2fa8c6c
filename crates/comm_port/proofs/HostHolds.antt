-- A host's turn, from its parts.
use Rattle.std.proofs.Common.{◌≡◌, ℕ, ◌+◌, ◌≤◌, min, nat_le, Bool, true, false, cond, List}
use Rattle.std.proofs.Common.{[], ◌∷◌, ◌++◌, length, map, Option, Some, None, refl, sym, ap, ◌∙◌}
use Rattle.std.proofs.Common.{subst}
use Rattle.std.proofs.Common.{inl, inr, arith, All, eq-eqb}
use Rattle.std.specs.Prelude.{if◌then◌else◌, is_some, is_none, flat_map, count_by}
use Rattle.std.specs.Prelude.{IfOk, Result, Ok, Err}
use Rattle.std.specs.List.{AllByRecursion as Each, AllZip, find}
use Rattle.std.proofs.Math.Nat.{min-le_left, le-min}
use Rattle.std.proofs.lemmas.Bool.{cases_Bool, leb-true, le-leb}
use Rattle.std.proofs.lemmas.List.Sums.{sum_by-append}
use Rattle.plant_types.specs.Plans.{IsAskOf, IsHostPlan}
use Rattle.plant_types.specs.declared.net.NetPlan.{NetPlan}
use Rattle.plant_types.specs.declared.net.HostAsk.{HostAsk}
use Rattle.plant_types.specs.declared.net.HostPlan.{HostPlan}
use Rattle.mstr_block.specs.Table.{network_paths}
use Rattle.mstr_block.specs.declared.call.CallId.{CallId}
use Rattle.ring_core.specs.Legal.{IsPath}
use Rattle.ring_core.specs.Machine.{awaited_number, path_of, ring_after}
use Rattle.ring_core.specs.Refusals.{or_no, other_no}
use Rattle.ring_core.specs.Scratch.{words_put}
use Rattle.ring_core.specs.Statistics.{is_for_stats}
use Rattle.ring_core.specs.declared.refusal.RingNo.{RingNo}
use Rattle.ring_core.specs.declared.refusal.RingNo.TheVariants.{NotAwaited}
use Rattle.ring_core.specs.declared.frame.FrameKind.{FrameKind}
use Rattle.ring_core.specs.declared.frame.FrameKind.TheVariants.{Request, Reply}
use Rattle.ring_core.specs.declared.frame.Frame.{Frame}
use Rattle.ring_core.specs.declared.path.Await.{Await}
use Rattle.ring_core.specs.declared.path.Await.TheVariants.{Nothing, Out, Arrived, Failed}
use Rattle.ring_core.specs.declared.entry.LeaveCause.{LeaveCause}
use Rattle.ring_core.specs.declared.entry.RingEntry.{RingEntry}
use Rattle.ring_core.specs.declared.entry.RingEntry.TheVariants.{Post, Send, Take, Local, GiveUp}
use Rattle.ring_core.specs.declared.entry.RingEntry.TheVariants.{Pass, Leave, Join}
use Rattle.host_port.specs.declared.entry.HostEntry.{HostEntry}
use Rattle.host_port.specs.Calls.{goes_on_path, next_host_call, open_on, requests_in, unanswered_in}
use Rattle.host_port.specs.Host.{due_request, host_is_done, HostIs, if_due, next_ask}
use Rattle.host_port.specs.Host.{request_for}
use Rattle.host_port.specs.Legal.{IsHostHistory}
use Rattle.host_port.proofs.Lists.{all_at}
use Rattle.host_port.proofs.OpenRequests.{open_requests}
use Rattle.host_port.proofs.Paths.{at_path}
use Rattle.tied_lists.specs.Own.{is_of, own, Grew}
use Rattle.tied_lists.specs.Waits.{AwaitsThis, HasLeft, waiting}
use Rattle.tied_lists.proofs.Growth.{grew-ours}
use Rattle.tied_lists.proofs.Histories.{legal-follows}
use Rattle.tied_lists.proofs.Turns.{part}
use Rattle.joint_history.specs.Complete.{is_pass}
use Rattle.comm_port.proofs.RingTurns.{not-in}
use Rattle.comm_port.specs.Sides.{RingSideIs}
use Rattle.comm_port.specs.Leaving.{cause_due, HandedOn, last_entry}
use Rattle.comm_port.specs.Giving.{due_calls, is_chosen}
use Rattle.comm_port.specs.HostTurns.{ask_entry_of}
use Rattle.comm_port.specs.HostTurns.{AskedAll, AsksAllDue}
use Rattle.comm_port.specs.HostTurns.{EndsHostTurn, GivenUp, GivesUpDue}
use Rattle.comm_port.specs.HostTurns.{give_up_of, hold_of, HoldsHostTurn, host_at, HostTurning}
use Rattle.comm_port.specs.HostTurns.{SendsOut, ServesFrame}
use Rattle.comm_port.specs.HostTurns.{ServesKind, ServesRequest, went_on}
use Rattle.comm_port.specs.SendsAll.{IsNextSending}
use Rattle.comm_port.proofs.HostRuns.{due-one, goes_by, kept_for, none-due}
use Rattle.comm_port.proofs.Parts.{each-added}

-- ---- after a Leave no call of the host is without an answer

other-none : (seq : ℕ) → other_no seq seq ≡ None
other-none seq = ap (λ (b : Bool). if b then None else Some (NotAwaited seq)) (eq-eqb seq seq refl)

goes-left : (answer n p seq : ℕ) (a : Await) → awaited_number a ≡ seq
    → kept_for answer false a seq ≡ or_no (other_no seq seq) None
    → goes_by answer false n p a ≡ [] → ⊥
goes-left answer n p seq a number why none =
    let lets : kept_for answer false a (awaited_number a) ≡ None = ap (kept_for answer false a)
    number ∙ why ∙ ap (λ (o : Option RingNo). or_no o None) (other-none seq) in
    let id : CallId = record { node = n; path = p; seq = awaited_number a } in
    let wrong : id ∷ [] ≡ [] = sym (ap (λ (o : Option RingNo). cond (is_none o) (id ∷ []) []) lets)
    ∙ none in
    cc

nothing-left : (answer n p : ℕ) (a : Await) → goes_by answer false n p a ≡ [] → a ≡ Nothing
nothing-left answer n p Nothing none = refl
nothing-left answer n p (Out s to onward passes) none = absurd
    (goes-left answer n p s (Out s to onward passes) refl refl none)
nothing-left answer n p (Arrived s) none = absurd
    (goes-left answer n p s (Arrived s) refl refl none)
nothing-left answer n p (Failed s word) none = absurd
    (goes-left answer n p s (Failed s word) refl refl none)

nothing-waits : (a : Await) (w : Option Frame) → a ≡ Nothing → AwaitsThis a w → w ≡ None
nothing-waits Nothing None is this = refl
nothing-waits Nothing (Some f) is this = absurd this
nothing-waits (Out s to onward passes) w is this = absurd (cc)
nothing-waits (Arrived s) w is this = absurd (cc)
nothing-waits (Failed s word) w is this = absurd (cc)

none-open : (plan : HostPlan) (h : List HostEntry) (u : List Frame) → IsHostHistory plan h
    → unanswered_in h ≡ u
    → ((p : ℕ) → IsPath p → open_on h p ≡ None) → u ≡ []
none-open plan h [] legal is none = refl
none-open plan h (f ∷ fs) legal is none =
    let p = f.id.path in
    let here : open_on h p ≡ Some f = ap (find (goes_on_path p)) is ∙ ap
    (λ (b : Bool). cond b (Some f) (find (goes_on_path p) fs)) (eq-eqb p p refl) in
    let last = open_requests.last plan h p f legal here in
    absurd (let wrong : Some f ≡ None = sym here ∙ none p last.is_path in cc)

pub none-unanswered : {Q : Type 0} (n : ℕ) (host : HostIs) (side : RingSideIs Q)
    (ring : List RingEntry) → HostTurning n host side ring
    → HasLeft side.net ring n → due_calls side.net n ring network_paths ≡ []
    → unanswered_in host.history ≡ []
none-unanswered n host side ring t gone' none =
    let net = side.net in
    let each = none-due net ring n network_paths none in
    let follows = (legal-follows net ring n t.own_turn.on).node.part in
    let at : (p : ℕ) → IsPath p → due_calls net n ring (p ∷ []) ≡ [] =
    λ p is_path. at_path (λ (q : ℕ). due_calls net n ring (q ∷ []) ≡ []) p is_path each.0 each.1.0
    each.1.1.0 each.1.1.1.0 in
    none-open host.plan host.history (unanswered_in host.history) t.legal refl (λ p is_path.
    let a = (path_of (part net ring n) p).awaits in
    let left : goes_by net.answer false n p a ≡ [] = ap (λ (b : Bool). goes_by net.answer b n p a)
    (sym (not-in net n ring gone')) ∙ sym (due-one net ring n p) ∙ at p is_path in
    sym (t.paths.waits p) ∙ nothing-waits a (waiting p (own n ring))
    (nothing-left net.answer n p a left) (follows.paths p))

-- ---- the end

pub ends-host : (alone : Bool) (net : NetPlan) (n : ℕ) (plan : HostPlan) (budget done : Bool)
    (list : List HostEntry) (ring handed : List RingEntry)
    → done ≡ host_is_done (host_at plan list)
    → false ≡ is_some (cause_due net (ring_after net ring) n done budget)
    → HandedOn alone net n done (words_put n ring)
    (cause_due net (ring_after net ring) n done budget) ring handed
    → EndsHostTurn alone net n plan budget list list ring handed false
ends-host alone net n plan budget done list ring handed is left handed_on = record {
  handed_ring = handed;
  left_is = left ∙ ap (λ (d : Bool). is_some (cause_due net (ring_after net ring) n d budget)) is;
  handed = subst (λ (d : Bool). HandedOn alone net n d (words_put n ring)
      (cause_due net (ring_after net ring) n d budget) ring handed) is handed_on;
  ends_there = λ e. (refl, refl);
  gives_up = λ e. absurd (cc);
  answered = λ e. absurd (cc);
}

pub leaves-host : (alone : Bool) (net : NetPlan) (n : ℕ) (plan : HostPlan) (budget done : Bool)
    (list new : List HostEntry)
    (ring handed ring' : List RingEntry) → done ≡ host_is_done (host_at plan list)
    → true ≡ is_some (cause_due net (ring_after net ring) n done budget)
    → HandedOn alone net n done (words_put n ring)
    (cause_due net (ring_after net ring) n done budget) ring handed
    → GivesUpDue alone net n network_paths list new handed ring' → unanswered_in new ≡ []
    → EndsHostTurn alone net n plan budget list new ring ring' true
leaves-host alone net n plan budget done list new ring handed ring' is left handed_on gives
    none = record {
      handed_ring = handed;
      left_is = left
          ∙ ap (λ (d : Bool). is_some (cause_due net (ring_after net ring) n d budget)) is;
      handed = subst (λ (d : Bool). HandedOn alone net n d (words_put n ring)
          (cause_due net (ring_after net ring) n d budget) ring handed) is handed_on;
      ends_there = λ e. absurd (cc);
      gives_up = λ e. gives;
      answered = λ e. none;
    }

-- ---- the number of a hold

abbrev most : ℕ
most = 4294967295

low-min : (h : ℕ) (ask : HostAsk) → ask.hold ≤ 10000
    → nat_le ask.hold (min h most) ≡ nat_le ask.hold h
low-min h ask low = elim (cases_Bool (nat_le ask.hold h)) [
  | inl hit ↦
      let less = leb-true ask.hold h hit in
      let few : ask.hold ≤ most = omega (arith, low) in
      le-leb ask.hold (min h most) (le-min less few) ∙ sym hit
  | inr miss ↦ elim (cases_Bool (nat_le ask.hold (min h most))) [
    | inl wrong ↦
        let one = leb-true ask.hold (min h most) wrong in
        let two = min-le_left h most in
        let both : ask.hold ≤ h = omega (arith, one, two) in
        let same = le-leb ask.hold h both in
        absurd (let bad : true ≡ false = sym same ∙ miss in cc)
    | inr also ↦ also ∙ sym miss
  ]
]

low-due : (plan : HostPlan) (v : HostIs) (h : ℕ) (o : Option HostAsk) → IsHostPlan plan
    → v.plan ≡ plan → next_ask v ≡ o → if_due (min h most) o ≡ if_due h o
low-due plan v h None sound is next = refl
low-due plan v h (Some ask) sound is next =
    let all : All (IsAskOf plan) v.plan.requests = subst
    (λ (p : HostPlan). All (IsAskOf plan) p.requests) (sym is) sound.requests in
    let ok = all_at (IsAskOf plan) v.plan.requests (length (requests_in v.history)) ask all
    next in
    ap (λ (b : Bool). if b then Some ask else None) (low-min h ask ok.hold.to)

pub due-min : (plan : HostPlan) (v : HostIs) (h : ℕ) → IsHostPlan plan → v.plan ≡ plan
    → due_request v (min h most) ≡ due_request v h
due-min plan v h sound is = ap (request_for (next_host_call v.plan v.history))
    (low-due plan v h (next_ask v) sound is refl)

pub asks-at-hold : (alone : Bool) (n : ℕ) (plan : HostPlan) (hold h : ℕ) (asks : List Frame)
    (list new : List HostEntry) (ring ring' : List RingEntry)
    → IsHostPlan plan → hold ≡ min h most → AsksAllDue alone n plan hold asks list new ring ring'
    → AsksAllDue alone n plan h asks list new ring ring'
asks-at-hold alone n plan hold h asks list new ring ring' sound is a =
    let at : (v : HostIs) → v.plan ≡ plan
    → due_request v h ≡ due_request v hold = λ v same. sym
    (ap (due_request v) is ∙ due-min plan v h sound same) in
    record {
      in_order = record {
        each = λ before after' f here. at (host_at plan (list ++ map ask_entry_of before)) refl
            ∙ a.in_order.each before after' f here;
        asked = a.in_order.asked;
        grew = a.in_order.grew;
      };
      no_more = at (host_at plan new) refl ∙ a.no_more;
    }

-- the next number of holds, as far as 32 bits tell
pub hold-is : (p : ℕ) → min (min p most + 1) most ≡ min (1 + p) most
hold-is p = search arith

-- ---- how many Passes a turn makes

abbrev passes_in : List RingEntry → ℕ
passes_in es = count_by is_pass es

passes-both : (xs ys : List RingEntry) → passes_in (xs ++ ys) ≡ passes_in xs + passes_in ys
passes-both xs ys = sum_by-append (λ (e : RingEntry). cond (is_pass e) 1 0) xs ys

served-none : (n : ℕ) (f : Frame) (entries : List RingEntry) (k : FrameKind) (stats : Bool)
    → is_for_stats f ≡ stats → ServesKind k n f entries → passes_in entries ≡ 0
served-none n f entries Reply stats is s = ap passes_in s
served-none n f entries Request true is s =
    let t : ServesRequest true n f entries = subst (λ (b : Bool). ServesRequest b n f entries) is s
    in ap passes_in t.entries_are
served-none n f entries Request false is s =
    let t : ServesRequest false n f entries = subst (λ (b : Bool). ServesRequest b n f entries) is s
    in ap passes_in t

served-passes : (n : ℕ) (fs : List Frame) (parts : List (List RingEntry))
    → AllZip (ServesFrame n) fs parts → passes_in (flat_map (λ p. p) parts) ≡ 0
served-passes n [] [] all = refl
served-passes n [] (p ∷ parts) all = absurd all
served-passes n (f ∷ fs) [] all = absurd all
served-passes n (f ∷ fs) (p ∷ parts) all =
    let one = served-none n f p f.kind (is_for_stats f) refl all.0 in
    let rest = served-passes n fs parts all.1 in
    passes-both p (flat_map (λ q. q) parts) ∙ (λ i. one i + rest i)

asked-passes : (n : ℕ) (asks : List Frame) → passes_in (map (Post n) asks) ≡ 0
asked-passes n [] = refl
asked-passes n (f ∷ asks) = asked-passes n asks

gave-passes : (ends : List GivenUp) → passes_in (map give_up_of ends) ≡ 0
gave-passes [] = refl
gave-passes (g ∷ ends) = gave-passes ends

step-none : (net : NetPlan) (n : ℕ) (on : ℕ → Bool) (past : List RingEntry) (e : RingEntry)
    → IsNextSending net n on past e → is_pass e ≡ false
step-none net n on past (Post m f) s = refl
step-none net n on past (Send m heard) s = refl
step-none net n on past (Take m f) s = refl
step-none net n on past (Local m id op result) s = refl
step-none net n on past (GiveUp id word) s = refl
step-none net n on past (Pass m done words) s = absurd s
step-none net n on past (Leave m cause) s = refl
step-none net n on past (Join m) s = refl

none-pass : (es : List RingEntry) → Each (λ (e : RingEntry). is_pass e ≡ false) es
    → passes_in es ≡ 0
none-pass [] all = refl
none-pass (e ∷ es) all =
    let one = ap (λ (b : Bool). 0 + cond b 1 0) all.0 in
    let rest = none-pass es all.1 in
    passes-both (e ∷ []) es ∙ (λ i. one i + rest i)

grew-passes : (alone : Bool) (n : ℕ) (a added b : List RingEntry) → Grew alone (is_of n) a added b
    → passes_in (own n b) ≡ passes_in (own n a) + passes_in added
grew-passes alone n a added b g = ap passes_in (grew-ours alone (is_of n) a added b g) ∙ passes-both
    (own n a) added

none-more : (a b k : ℕ) → b ≡ a + k → k ≡ 0 → b ≡ a
none-more a b k is zero' = omega arith

last-passes : (n : ℕ) (done left : Bool) (words : List ℕ) (cause : Option LeaveCause)
    → left ≡ is_some cause
    → passes_in (last_entry n done words cause ∷ []) ≡ (if left then 0 else 1)
last-passes n done left words None is = ap (λ (b : Bool). if b then 0 else 1) (sym is)
last-passes n done left words (Some cause) is = ap (λ (b : Bool). if b then 0 else 1) (sym is)

ended-passes : (alone : Bool) (net : NetPlan) (n : ℕ) (plan : HostPlan) (budget : Bool)
    (l l' : List HostEntry) (a b : List RingEntry) (left : Bool)
    → EndsHostTurn alone net n plan budget l l' a b left
    → passes_in (own n b) ≡ passes_in (own n a) + (if left then 0 else 1)
ended-passes alone net n plan budget l l' a b left e =
    let handed = grew-passes alone n a _ e.handed_ring e.handed.grew ∙ ap
    (λ (k : ℕ). passes_in (own n a) + k) (last-passes n _ left _ _ e.left_is) in
    by left refl handed
  where
    by : (left' : Bool) → left' ≡ left
        → passes_in (own n e.handed_ring) ≡ passes_in (own n a) + (if left then 0 else 1)
        → passes_in (own n b) ≡ passes_in (own n a) + (if left then 0 else 1)
    by true is handed =
        let g = e.gives_up (sym is) in
        none-more (passes_in (own n e.handed_ring)) (passes_in (own n b))
        (passes_in (map give_up_of g.ends))
        (grew-passes alone n e.handed_ring (map give_up_of g.ends) b g.grew)
        (gave-passes g.ends)
        ∙ handed
    by false is handed = ap (λ (r : List RingEntry). passes_in (own n r)) (e.ends_there (sym is)).0
        ∙ handed

pub passes-turn : (alone : Bool) (net : NetPlan) (n : ℕ) (plan : HostPlan) (budget : Bool)
    (l l' : List HostEntry) (a b : List RingEntry) (left : Bool)
    → HoldsHostTurn alone net n plan budget l l' a b left
    → passes_in (own n b) ≡ passes_in (own n a) + (if left then 0 else 1)
passes-turn alone net n plan budget l l' a b left t =
    let one = none-more (passes_in (own n a)) (passes_in (own n t.served_ring)) _
    (grew-passes alone n a _ t.served_ring t.serves.all.grew)
    (served-passes n _ t.serves.all.parts t.serves.all.serves) in
    let two = none-more (passes_in (own n t.served_ring)) (passes_in (own n t.asked_ring)) _
    (grew-passes alone n t.served_ring _ t.asked_ring t.makes.in_order.grew)
    (asked-passes n t.asks) in
    let frames = t.sends.frames in
    let sent : passes_in frames.done ≡ 0 = none-pass frames.done
    (each-added alone n (IsNextSending net n (went_on t.asks))
    (λ (e : RingEntry). is_pass e ≡ false)
    (step-none net n (went_on t.asks)) t.asked_ring frames.done t.sent_ring frames.grew frames.each)
    in
    let three = none-more (passes_in (own n t.asked_ring)) (passes_in (own n t.sent_ring)) _
    (grew-passes alone n t.asked_ring frames.done t.sent_ring frames.grew) sent in
    let four = none-more (passes_in (own n t.sent_ring)) (passes_in (own n t.given_ring)) _
    (grew-passes alone n t.sent_ring _ t.given_ring t.gives_up.grew)
    (gave-passes t.gives_up.ends) in
    ended-passes alone net n plan budget t.given_list l' t.given_ring b left t.ends
    ∙ ap (λ (k : ℕ). k + (if left then 0 else 1)) (four ∙ three ∙ two ∙ one)

-- ---- the whole

pub ok-then : {T E : Type 0} (P Q : T → Type 0) (r : Result T E) → ((x : T) → P x → Q x) → IfOk r P
    → IfOk r Q
ok-then P Q (Ok x) f p = f x p
ok-then P Q (Err e) f p = tt

-- the asks of a turn, by the number of its hold
pub record TurnAsks (alone : Bool) (net : NetPlan) (n : ℕ) (plan : HostPlan)
    (list0 list new : List HostEntry) (ring0 ring ring' : List RingEntry)
    (fresh : List Bool) : Type 0 where
  pub asks : List Frame
  pub makes : AsksAllDue alone n plan (hold_of n ring0) asks list new ring ring'
  pub same : is_chosen fresh ≡ went_on asks

pub asks-of : (alone : Bool) (net : NetPlan) (n : ℕ) (plan : HostPlan) (hold : ℕ)
    (list0 list new : List HostEntry) (ring0 ring ring' : List RingEntry)
    (fresh : List Bool) (plan' : HostPlan) → plan' ≡ plan → IsHostPlan plan
    → hold ≡ min (hold_of n ring0) most
    → AskedAll alone net n plan' hold list new ring ring' fresh
    → TurnAsks alone net n plan list0 list new ring0 ring ring' fresh
asks-of alone net n plan hold list0 list new ring0 ring ring' fresh plan' same sound is a = record {
  asks = a.asks;
  makes = asks-at-hold alone n plan hold (hold_of n ring0) a.asks list new ring ring' sound is
      (subst (λ (p : HostPlan). AsksAllDue alone n p hold a.asks list new ring ring') same a.all);
  same = λ i p. a.paths p i;
}

pub sends-of : (alone : Bool) (net : NetPlan) (n : ℕ) (on on' : ℕ → Bool) (l l' : List HostEntry)
    (a b : List RingEntry) → on ≡ on'
    → SendsOut alone net n on l l' a b → SendsOut alone net n on' l l' a b
sends-of alone net n on on' l l' a b same x = subst
    (λ (o : ℕ → Bool). SendsOut alone net n o l l' a b) same x

pub ends-at : {Q : Type 0} (alone : Bool) (n : ℕ) (plan plan' : HostPlan) (budget : Bool)
    (l l' : List HostEntry) (a b : List RingEntry) (left : Bool)
    (side side' : RingSideIs Q) → side' ≡ side → plan' ≡ plan
    → EndsHostTurn alone side'.net n plan' budget l l' a b left
    → EndsHostTurn alone side.net n plan budget l l' a b left
ends-at {Q} alone n plan plan' budget l l' a b left side side' same same_plan e =
    subst (λ (p : HostPlan). EndsHostTurn alone side.net n p budget l l' a b left) same_plan
    (subst (λ (s : RingSideIs Q). EndsHostTurn alone s.net n plan' budget l l' a b left) same e)

-- ---- a worker's count

pub counts-more : (alone : Bool) (net : NetPlan) (n : ℕ) (plan : HostPlan) (budget : Bool)
    (l l' : List HostEntry) (a b : List RingEntry) (left : Bool)
    (passes hold : ℕ) → left ≡ false → passes ≡ min (passes_in (own n a)) most
    → hold ≡ min (passes + 1) most
    → HoldsHostTurn alone net n plan budget l l' a b left → hold ≡ min (passes_in (own n b)) most
counts-more alone net n plan budget l l' a b left passes hold stays counts is t =
    let more : passes_in (own n b) ≡ passes_in (own n a) + 1 =
    passes-turn alone net n plan budget l l' a b left t ∙ ap
    (λ (x : Bool). passes_in (own n a) + (if x then 0 else 1)) stays in
    is ∙ ap (λ (k : ℕ). min (k + 1) most) counts ∙ hold-is (passes_in (own n a)) ∙ ap
    (λ (k : ℕ). min k most) (swap (passes_in (own n a)) ∙ sym more)
  where
    swap : (k : ℕ) → 1 + k ≡ k + 1
    swap k = omega arith

pub counts-same : (alone : Bool) (net : NetPlan) (n : ℕ) (plan : HostPlan) (budget : Bool)
    (l l' : List HostEntry) (a b : List RingEntry) (left : Bool)
    (passes : ℕ) → left ≡ true → passes ≡ min (passes_in (own n a)) most
    → HoldsHostTurn alone net n plan budget l l' a b left
    → passes ≡ min (passes_in (own n b)) most
counts-same alone net n plan budget l l' a b left passes gone' counts t =
    let same : passes_in (own n b) ≡ passes_in (own n a) =
    none-more (passes_in (own n a)) (passes_in (own n b)) (if left then 0 else 1)
    (passes-turn alone net n plan budget l l' a b left t)
    (ap (λ (x : Bool). if x then 0 else 1) gone') in
    counts ∙ ap (λ (k : ℕ). min k most) (sym same)
