-- How a turn of a bridge's end ends.
use Rattle.std.proofs.Common.{◌≡◌, ◌⊎◌, ℕ, ◌<◌, Bool, true, false, not, cond, List, [], ◌∷◌}
use Rattle.std.proofs.Common.{◌++◌, Option, Some, None, refl, sym, ap, ◌∙◌, subst, inl, inr, ⊎_elim}
use Rattle.std.proofs.Common.{arith, append-nil}
use Rattle.std.specs.Prelude.{is_some}
use Rattle.std.specs.List.{AllByRecursion as Each}
use Rattle.plant_types.specs.declared.net.BridgePlan.{BridgePlan}
use Rattle.plant_types.specs.declared.net.NetPlan.{NetPlan}
use Rattle.mstr_block.specs.Table.{network_paths}
use Rattle.mstr_block.specs.declared.call.CallId.{CallId}
use Rattle.ring_core.specs.declared.frame.Frame.{Frame}
use Rattle.ring_core.specs.declared.path.Await.{Await}
use Rattle.ring_core.specs.declared.path.Await.TheVariants.{Nothing, Out, Arrived, Failed}
use Rattle.ring_core.specs.declared.path.Path.{Path}
use Rattle.ring_core.specs.declared.entry.LeaveCause.{LeaveCause}
use Rattle.ring_core.specs.declared.entry.RingEntry.{RingEntry}
use Rattle.ring_core.specs.declared.entry.RingEntry.TheVariants.{GiveUp, Leave, Pass}
use Rattle.ring_core.specs.Legal.{IsLegalRing, IsPath}
use Rattle.ring_core.specs.Machine.{NodeIs, only_bridges, path_of, ring_after}
use Rattle.bridge_relay.specs.declared.entry.BridgeEntry.{BridgeEntry}
use Rattle.bridge_relay.specs.declared.entry.BridgeEntry.TheVariants.{Gone}
use Rattle.bridge_relay.specs.Laws.{end_after, is_by}
use Rattle.bridge_relay.specs.Legal.{IsBridgeHistory}
use Rattle.bridge_relay.specs.Machine.{EndIs, is_idle_end, none_out, relay_path}
use Rattle.tied_lists.specs.Own.{Adds, WentOn, is_of, own}
use Rattle.tied_lists.specs.Items.{Item, Items}
use Rattle.tied_lists.specs.Tied.{TiedEnd}
use Rattle.tied_lists.specs.Waits.{AwaitsThis, HasLeft, Holds, IsAsk, IsFree, IsOnRing, waiting}
use Rattle.tied_lists.proofs.Growth.{adds-grew, adds-weaker, grew-ours}
use Rattle.tied_lists.proofs.Histories.{legal-follows}
use Rattle.tied_lists.proofs.Turns.{Found, unmoved}
use Rattle.comm_port.specs.Giving.{GivesWhere, IsAtRest, due_by, due_calls, due_on}
use Rattle.comm_port.specs.Giving.{NoneFailed, each_path, part_at}
use Rattle.comm_port.specs.Leaving.{HandedOn, last_entry}
use Rattle.comm_port.specs.Order.{IsGivingUp}
use Rattle.comm_port.specs.Parts.{InOrder, PartOf, calls_waiting}
use Rattle.comm_port.specs.Sides.{RingSideIs}
use Rattle.comm_port.specs.Waiting.{id_of}
use Rattle.comm_port.proofs.Dues.{nothing-waits}
use Rattle.comm_port.proofs.Leaves.{IsQuietCause, all-on, all-paths, ending-too, four-none}
use Rattle.comm_port.proofs.Leaves.{four-same, handed-ends, handed-on, unnamed}
use Rattle.comm_port.proofs.RingTurns.{not-in}
use Rattle.comm_port.proofs.Through.{IsEnding, rest-through}
use Rattle.bridge_port.specs.EndParts.{AsksBridge, EndAsksIfDone, AsksRing, EndGivesUp}
use Rattle.bridge_port.specs.EndTurns.{EndTies, EndTurning, EndPathsAgree, number_waited}
use Rattle.comm_port.specs.JointHistory.{backs_of, side_items}
use Rattle.bridge_port.specs.Sides.{BridgeSideIs}
use Rattle.bridge_port.proofs.Across.{own-step}
use Rattle.bridge_port.proofs.Ends.{end-quiet}
use Rattle.bridge_port.proofs.FourPaths.{none-out}
use Rattle.bridge_port.proofs.Lists.{backs-one, items-one}
use Rattle.bridge_port.proofs.Waited.{agree-as, agree-still}

-- ---- whether the end is done

pub asks-posted : (alone alone' : Bool) (plan : BridgePlan) (net : NetPlan) (n : ℕ) (posted : Bool)
    (list : List BridgeEntry) (ring : List RingEntry) → posted ≡ true
    → EndAsksIfDone alone alone' plan net n posted list list ring ring false
asks-posted alone alone' plan net n posted list ring is =
    subst (λ (b : Bool). AsksBridge (not b) alone alone' plan net n list list ring ring false)
    (sym is) (refl, refl, refl)

pub asks-busy : (alone alone' : Bool) (plan : BridgePlan) (net : NetPlan) (n : ℕ) (posted : Bool)
    (list list' : List BridgeEntry) (ring : List RingEntry) → posted ≡ false
    → WentOn alone (is_by n) list [] list' → is_idle_end (end_after plan list' n) ≡ false
    → EndAsksIfDone alone alone' plan net n posted list list' ring ring false
asks-busy alone alone' plan net n posted list list' ring is went busy =
    subst (λ (b : Bool). AsksBridge (not b) alone alone' plan net n list list' ring ring false)
    (sym is) (
      went,
      subst (λ (b : Bool). AsksRing b alone' net n ring ring false) (sym busy) (refl, refl),
    )

pub asks-all : (alone alone' : Bool) (plan : BridgePlan) (net : NetPlan) (n : ℕ) (posted : Bool)
    (list list' : List BridgeEntry) (ring ring' : List RingEntry) (answer : Bool) → posted ≡ false
    → WentOn alone (is_by n) list [] list' → is_idle_end (end_after plan list' n) ≡ true
    → WentOn alone' (is_of n) ring [] ring'
    → answer ≡ only_bridges net (ring_after net ring').nodes n
    → EndAsksIfDone alone alone' plan net n posted list list' ring ring' answer
asks-all alone alone' plan net n posted list list' ring ring' answer is went idle on only =
    subst (λ (b : Bool). AsksBridge (not b) alone alone' plan net n list list' ring ring' answer)
    (sym is) (
      went,
      subst (λ (b : Bool). AsksRing b alone' net n ring ring' answer) (sym idle) (on, only),
    )

-- a question changes nothing of the node
asked-ring : (posted : Bool) (alone alone' : Bool) (plan : BridgePlan) (net : NetPlan) (n : ℕ)
    (list list' : List BridgeEntry) (ring ring' : List RingEntry) (answer : Bool)
    → AsksBridge posted alone alone' plan net n list list' ring ring' answer
    → (ring' ≡ ring) ⊎ WentOn alone' (is_of n) ring [] ring'
asked-ring false alone alone' plan net n list list' ring ring' answer asked = inl asked.1
asked-ring true alone alone' plan net n list list' ring ring' answer asked =
    by (is_idle_end (end_after plan list' n)) asked.1
  where
    by : (b : Bool) → AsksRing b alone' net n ring ring' answer
        → (ring' ≡ ring) ⊎ WentOn alone' (is_of n) ring [] ring'
    by true a = inr a.0
    by false a = inl a.0

-- what a turn stands on behind the question
pub record Asked {Q : Type 0} (n : ℕ) (side : RingSideIs Q) (ring : List RingEntry) : Type 0 where
  pub holds : Holds side.net ring n
  pub wait : 0 < side.net.answer
  pub rest : IsAtRest side.net n ring
  pub inbox : (part_at side.net n ring).inbox ≡ []

asked-here : {Q : Type 0} (posted alone alone' : Bool) (plan : BridgePlan) (n : ℕ)
    (list list' : List BridgeEntry) (side : RingSideIs Q) (ring ring' : List RingEntry)
    (answer : Bool) → Asked n side ring → IsFree side.net ring n → IsOnRing side.net ring' n
    → EndAsksIfDone alone alone' plan side.net n posted list list' ring ring' answer
    → Asked n side ring'
asked-here posted alone alone' plan n list list' side ring ring' answer a free on asked =
    let net = side.net in
    let found : Found net n ring ring' = ⊎_elim
    (λ (same : ring' ≡ ring). subst (λ (l : List RingEntry). Found net n ring l) (sym same)
    (record { free = free; holds = λ h. h; part_is = refl; own_is = refl }))
    (λ (w : WentOn alone' (is_of n) ring [] ring'). unmoved net n alone' ring ring' on w free)
    (asked-ring (not posted) alone alone' plan net n list list' ring ring' answer asked) in
    record {
      holds = found.holds a.holds;
      wait = a.wait;
      rest = record {
        all_sent = ap (λ (c : NodeIs). c.outbox) found.part_is ∙ a.rest.all_sent;
        none_failed = subst (NoneFailed each_path) (sym found.part_is) a.rest.none_failed;
      };
      inbox = ap (λ (c : NodeIs). c.inbox) found.part_is ∙ a.inbox;
    }

pub asked-at : {Q : Type 0} (posted alone alone' : Bool) (plan : BridgePlan) (n : ℕ)
    (list list' : List BridgeEntry) (side side' : RingSideIs Q) (ring ring' : List RingEntry)
    (answer : Bool) → side' ≡ side → Asked n side ring → IsFree side.net ring n
    → IsOnRing side'.net ring' n
    → EndAsksIfDone alone alone' plan side.net n posted list list' ring ring' answer
    → Asked n side' ring'
asked-at {Q} posted alone alone' plan n list list' side side' ring ring' answer same a free on
    asked =
    subst (λ (s : RingSideIs Q). Asked n s ring') (sym same)
    (asked-here posted alone alone' plan n list list' side ring ring' answer a free
    (subst (λ (s : RingSideIs Q). IsOnRing s.net ring' n) same on) asked)

-- ---- the last entry

record Handed {P Q : Type 0} (n : ℕ) (bridge : BridgeSideIs P) (list : List BridgeEntry)
    (side : RingSideIs Q) (ring : List RingEntry) : Type 0 where
  pub on : IsOnRing side.net ring n
  pub tied : TiedEnd (side_items n list) (backs_of n list) (own n ring)
  pub paths : EndPathsAgree (end_after bridge.plan list n) (own n ring)

last-quiet : (n : ℕ) (done : Bool) (words : List ℕ) (cause : Option LeaveCause) (a : Items)
    (backs : List Item) (b : List RingEntry) → IsQuietCause cause → TiedEnd a backs b
    → TiedEnd a backs (b ++ last_entry n done words cause ∷ [])
last-quiet n done words None a backs b quiet t =
    end-quiet a backs b (Pass n done words) refl refl refl refl refl refl t
last-quiet n done words (Some cause) a backs b quiet t =
    end-quiet a backs b (Leave n cause) refl refl refl refl refl (quiet cause refl) t

last-still : (n : ℕ) (done : Bool) (words : List ℕ) (cause : Option LeaveCause) (end : EndIs)
    (b : List RingEntry) → EndPathsAgree end b
    → EndPathsAgree end (b ++ last_entry n done words cause ∷ [])
last-still n done words None end b k =
    agree-still end b (Pass n done words) (λ p now. refl) (λ p now. refl) k
last-still n done words (Some cause) end b k =
    agree-still end b (Leave n cause) (λ p now. refl) (λ p now. refl) k

handed-at : {P Q : Type 0} (alone : Bool) (n : ℕ) (done : Bool) (words : List ℕ)
    (cause : Option LeaveCause) (bridge : BridgeSideIs P) (list : List BridgeEntry)
    (side : RingSideIs Q) (ring ring' : List RingEntry) → IsQuietCause cause
    → IsLegalRing side.net ring' → HandedOn alone side.net n done words cause ring ring'
    → EndTurning n bridge list side ring → Handed n bridge list side ring'
handed-at alone n done words cause bridge list side ring ring' quiet legal handed t =
    let own_is = grew-ours alone (is_of n) ring (last_entry n done words cause ∷ []) ring'
    handed.grew in
    record {
      on = handed-on alone side.net n done words cause ring ring' t.own_turn.on legal handed;
      tied = subst (TiedEnd (side_items n list) (backs_of n list)) (sym own_is)
          (last-quiet n done words cause (side_items n list) (backs_of n list) (own n ring) quiet
          t.tied);
      paths = subst (EndPathsAgree (end_after bridge.plan list n)) (sym own_is)
          (last-still n done words cause (end_after bridge.plan list n) (own n ring) t.paths);
    }

-- the node left, and goes on by itself
turning-left : {P Q : Type 0} (n : ℕ) (bridge : BridgeSideIs P) (list : List BridgeEntry)
    (side : RingSideIs Q) (ring ring' : List RingEntry) → HasLeft side.net ring' n
    → Handed n bridge list side ring' → EndTurning n bridge list side ring
    → EndTurning n bridge list side ring'
turning-left n bridge list side ring ring' gone h t = record {
  serves = t.serves;
  is_open = t.is_open;
  legal = t.legal;
  own_turn = record { serves = t.own_turn.serves; on = h.on; free = inr gone };
  tied = h.tied;
  paths = h.paths;
}

-- the turn is over
ties-handed : {P Q : Type 0} (n : ℕ) (bridge : BridgeSideIs P) (list : List BridgeEntry)
    (side : RingSideIs Q) (ring ring' : List RingEntry) → 0 < side.net.answer
    → IsAtRest side.net n ring' → Handed n bridge list side ring'
    → EndTurning n bridge list side ring → EndTies n bridge list side ring'
ties-handed n bridge list side ring ring' wait rest h t = record {
  serves_bridge = t.serves;
  end = t.is_open.end;
  legal = t.legal;
  serves_ring = t.own_turn.serves;
  on = h.on;
  answer = wait;
  tied = h.tied;
  paths = h.paths;
  rest = rest;
}

pub ties-sides : {P Q : Type 0} (n : ℕ) (bridge bridge' : BridgeSideIs P) (list : List BridgeEntry)
    (side side' : RingSideIs Q) (ring : List RingEntry) → bridge' ≡ bridge → side' ≡ side
    → EndTies n bridge list side ring → EndTies n bridge' list side' ring
ties-sides {P} {Q} n bridge bridge' list side side' ring same same' t =
    subst (λ (s : RingSideIs Q). EndTies n bridge' list s ring) (sym same')
    (subst (λ (s : BridgeSideIs P). EndTies n s list side ring) (sym same) t)

rest-handed : (alone : Bool) (net : NetPlan) (n : ℕ) (done : Bool) (words : List ℕ)
    (cause : Option LeaveCause) (ring ring' : List RingEntry) → IsOnRing net ring n
    → IsLegalRing net ring' → HandedOn alone net n done words cause ring ring'
    → IsAtRest net n ring → IsAtRest net n ring'
rest-handed alone net n done words cause ring ring' on legal handed rest =
    rest-through alone net n ring ring' on legal
    (handed-ends alone net n done words cause ring ring' handed) rest

-- what it stands on behind the last entry, on the side behind it: a node that left goes on by
-- itself, and of any other the turn is over
pub record EndHanded {P Q : Type 0} (n : ℕ) (bridge : BridgeSideIs P) (list : List BridgeEntry)
    (side : RingSideIs Q) (ring : List RingEntry) : Type 0 where
  pub wait : 0 < side.net.answer
  pub rest : IsAtRest side.net n ring
  pub ties : EndTies n bridge list side ring
  pub turning : HasLeft side.net ring n → EndTurning n bridge list side ring

pub end-handed : {P Q : Type 0} (alone : Bool) (n : ℕ) (done : Bool) (words : List ℕ)
    (cause : Option LeaveCause) (bridge : BridgeSideIs P) (list : List BridgeEntry)
    (side side' : RingSideIs Q) (ring ring' : List RingEntry) → side' ≡ side
    → IsQuietCause cause → IsLegalRing side.net ring'
    → HandedOn alone side.net n done words cause ring ring' → Asked n side ring
    → EndTurning n bridge list side ring → EndHanded n bridge list side' ring'
end-handed {P} {Q} alone n done words cause bridge list side side' ring ring' same quiet legal
    handed a t =
    let h = handed-at alone n done words cause bridge list side ring ring' quiet legal handed t in
    let rest = rest-handed alone side.net n done words cause ring ring' t.own_turn.on legal handed
    a.rest in
    subst (λ (s : RingSideIs Q). EndHanded n bridge list s ring') (sym same) (record {
      wait = a.wait;
      rest = rest;
      ties = ties-handed n bridge list side ring ring' a.wait rest h t;
      turning = λ gone. turning-left n bridge list side ring ring' gone h t;
    })

-- ---- a node that has left gives up all calls that wait

asked-due : (answer n p : ℕ) (a : Await) (f : Frame) → AwaitsThis a (Some f) → IsAsk n p f
    → due_by answer false n p a ≡ Some f.id
asked-due answer n p Nothing f k ask = absurd k
asked-due answer n p (Out seq to onward passes) f k ask =
    (λ i. Some (record { node = sym ask.node i; path = sym ask.path i; seq = k i }))
asked-due answer n p (Arrived seq) f k ask =
    (λ i. Some (record { node = sym ask.node i; path = sym ask.path i; seq = k i }))
asked-due answer n p (Failed seq word) f k ask =
    (λ i. Some (record { node = sym ask.node i; path = sym ask.path i; seq = k i }))

due-is : (answer n p : ℕ) (a : Await) (w : Option Frame) → AwaitsThis a w
    → ((f : Frame) → w ≡ Some f → IsAsk n p f) → due_by answer false n p a ≡ id_of w
due-is answer n p a None k asks = ap (due_by answer false n p) (nothing-waits a k)
due-is answer n p a (Some f) k asks = asked-due answer n p a f k (asks f refl)

-- what is due of it on a path is what waits there
due-at : (net : NetPlan) (n p : ℕ) (ring : List RingEntry) → IsOnRing net ring n
    → HasLeft net ring n
    → due_on net n (part_at net n ring) p ≡ id_of (waiting p (own n ring))
due-at net n p ring on gone =
    let follows = (legal-follows net ring n on).node.part in
    ap (λ (b : Bool). due_by net.answer b n p (path_of (part_at net n ring) p).awaits)
    (not-in net n ring gone)
    ∙ due-is net.answer n p (path_of (part_at net n ring) p).awaits (waiting p (own n ring))
    (follows.paths p) (follows.asks p)

pub due-waits : (net : NetPlan) (n : ℕ) (ring : List RingEntry) → IsOnRing net ring n
    → HasLeft net ring n → due_calls net n ring network_paths ≡ calls_waiting n ring
due-waits net n ring on gone =
    four-same (due_on net n (part_at net n ring)) (λ p. id_of (waiting p (own n ring)))
    (due-at net n 1 ring on gone) (due-at net n 2 ring on gone) (due-at net n 3 ring on gone)
    (due-at net n 4 ring on gone)

waits-none : (a : Await) (w : Option Frame) → a ≡ Nothing → AwaitsThis a w → w ≡ None
waits-none a None is k = refl
waits-none a (Some f) is k = absurd (subst (λ (x : Await). AwaitsThis x (Some f)) is k)

-- and then none waits
pub none-waits : (net : NetPlan) (n p : ℕ) (ring ring' : List RingEntry) → IsPath p
    → IsOnRing net ring n → IsOnRing net ring' n → HasLeft net ring n
    → GivesWhere net n all-paths 5 ring ring' → waiting p (own n ring') ≡ None
none-waits net n p ring ring' path on on' gone g =
    let old = part_at net n ring in
    let new = part_at net n ring' in
    let from = path.0 in
    let to : p < 5 = let high = path.1 in omega (arith, high) in
    let nothing : (path_of new p).awaits ≡ Nothing = ⊎_elim
    (λ (x : (path_of new p).awaits ≡ Nothing). x)
    (λ (y : (path_of new p ≡ path_of old p) × (due_on net n old p ≡ None)).
    ap (λ (q : Path). q.awaits) y.0 ∙ before y.1)
    (g.part.settled p from to (all-on p from to)) in
    waits-none (path_of new p).awaits (waiting p (own n ring')) nothing
    ((legal-follows net ring' n on').node.part.paths p)
  where
    before : due_on net n (part_at net n ring) p ≡ None
        → (path_of (part_at net n ring) p).awaits ≡ Nothing
    before none =
        let w : waiting p (own n ring) ≡ None =
        unnamed (waiting p (own n ring)) (sym (due-at net n p ring on gone) ∙ none) in
        nothing-waits (path_of (part_at net n ring) p).awaits
        (subst (AwaitsThis (path_of (part_at net n ring) p).awaits) w
        ((legal-follows net ring n on).node.part.paths p))

pub none-waiting : (n : ℕ) (ring : List RingEntry)
    → ((p : ℕ) → IsPath p → waiting p (own n ring) ≡ None) → calls_waiting n ring ≡ []
none-waiting n ring none =
    four-none (λ p. id_of (waiting p (own n ring)))
    (ap id_of (none 1 (omega arith, omega arith))) (ap id_of (none 2 (omega arith, omega arith)))
    (ap id_of (none 3 (omega arith, omega arith))) (ap id_of (none 4 (omega arith, omega arith)))

-- so none is out at the end
not-out : {X : Type 0} (o : Option X) (last : ℕ) → cond (is_some o) (Some last) None ≡ None
    → o ≡ None
not-out None last is = refl
not-out (Some x) last is = absurd (let bad : Some last ≡ None = is in cc)

pub none-out-now : {P Q : Type 0} (n : ℕ) (bridge : BridgeSideIs P) (list : List BridgeEntry)
    (side : RingSideIs Q) (ring : List RingEntry)
    → ((p : ℕ) → IsPath p → waiting p (own n ring) ≡ None)
    → EndTurning n bridge list side ring
    → none_out (end_after bridge.plan list n) ≡ true
none-out-now n bridge list side ring none t =
    none-out bridge.plan list n (λ p is.
    not-out (relay_path (end_after bridge.plan list n) p).out
    (relay_path (end_after bridge.plan list n) p).last
    (sym (t.paths.waits p is) ∙ ap number_waited (none p is)))

-- ---- the calls given up are all that the node did

giving-sort : (n : ℕ) (ids : List CallId) (noted : List BridgeEntry) (done : List RingEntry)
    → InOrder (EndGivesUp n) ids noted done → Each IsGivingUp done
giving-sort n [] noted done a = subst (Each IsGivingUp) (sym a.1) tt
giving-sort n (id ∷ ids) noted done a =
    let done-is : done ≡ GiveUp id a.6.0 ∷ a.3 = a.5 ∙ ap (λ l. l ++ a.3) a.6.2 in
    subst (Each IsGivingUp) (sym done-is) (tt, giving-sort n ids a.1 a.3 a.7)

pub given-adds : (alone alone' : Bool) (n : ℕ) (ids : List CallId) (list list' : List BridgeEntry)
    (ring ring' : List RingEntry)
    → PartOf alone alone' (is_by n) n (InOrder (EndGivesUp n) ids) list list' ring ring'
    → Adds alone' (is_of n) IsEnding ring ring'
given-adds alone alone' n ids list list' ring ring' p =
    adds-weaker alone' (is_of n) IsGivingUp IsEnding ring ring' ending-too
    (adds-grew alone' (is_of n) IsGivingUp ring p.done ring'
    (giving-sort n ids p.noted p.done p.due) p.node)

pub rest-given : (alone alone' : Bool) (net : NetPlan) (n : ℕ) (ids : List CallId)
    (list list' : List BridgeEntry) (ring ring' : List RingEntry) → IsOnRing net ring n
    → IsLegalRing net ring'
    → PartOf alone alone' (is_by n) n (InOrder (EndGivesUp n) ids) list list' ring ring'
    → IsAtRest net n ring → IsAtRest net n ring'
rest-given alone alone' net n ids list list' ring ring' on legal p rest =
    rest-through alone' net n ring ring' on legal
    (given-adds alone alone' n ids list list' ring ring' p) rest

-- ---- the end leaves for good

pub record LeftForGood {P Q : Type 0} (n : ℕ) (bridge : BridgeSideIs P) (list : List BridgeEntry)
    (side : RingSideIs Q) (ring : List RingEntry) : Type 0 where
  pub ties : EndTies n bridge list side ring
  pub gone : (end_after bridge.plan list n).gone ≡ true

pub left-for-good : {P Q : Type 0} (alone : Bool) (n : ℕ) (bridge : BridgeSideIs P)
    (list list' : List BridgeEntry) (side : RingSideIs Q) (ring : List RingEntry)
    → 0 < side.net.answer → IsAtRest side.net n ring → IsBridgeHistory bridge.plan list'
    → WentOn alone (is_by n) list (Gone n ∷ []) list' → EndTurning n bridge list side ring
    → LeftForGood n bridge list' side ring
left-for-good alone n bridge list list' side ring wait rest legal went t =
    let e : BridgeEntry = Gone n in
    let s = own-step alone bridge.plan n list e list' refl t.is_open.end legal went in
    record {
      ties = record {
        serves_bridge = t.serves;
        end = t.is_open.end;
        legal = legal;
        serves_ring = t.own_turn.serves;
        on = t.own_turn.on;
        answer = wait;
        tied = subst (λ (l : List Item). TiedEnd (side_items n list') l (own n ring))
            (sym (backs-one alone n list e list' refl went ∙ append-nil (backs_of n list)))
            (subst (λ (a : Items). TiedEnd a (backs_of n list) (own n ring))
            (sym (items-one alone n list e list' refl went)) t.tied);
        paths = agree-as (end_after bridge.plan list n) (end_after bridge.plan list' n)
            (own n ring) (ap (λ (x : EndIs). x.paths) s.after_is ∙ s.stays.paths) t.paths;
        rest = rest;
      };
      gone = ap (λ (x : EndIs). x.gone) s.after_is;
    }
