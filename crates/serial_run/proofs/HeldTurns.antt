-- What hold turns and visits add, and how many hold turns they leave.
use Rattle.std.proofs.Common.{◌≡◌, ℕ, ◌+◌, ◌-◌, ◌*◌, ◌<◌, ◌≤◌, Bool, true, false}
use Rattle.std.proofs.Common.{List, [], ◌∷◌, ◌++◌, map, count_by, refl, sym, ap, subst, ◌∙◌, arith}
use Rattle.std.proofs.Common.{Option, Some, None, All, append-nil, nat_lt, ⊎_elim}
use Rattle.std.specs.Prelude.{if◌then◌else◌, ◌&&◌, is_some}
use Rattle.std.proofs.lemmas.Bool.{cases_Bool, le-ltb, leb-false}
use Rattle.plant_types.specs.declared.net.NetPlan.{NetPlan}
use Rattle.ring_core.specs.declared.entry.RingEntry.{RingEntry}
use Rattle.ring_core.specs.declared.entry.LeaveCause.{LeaveCause}
use Rattle.ring_core.specs.declared.entry.LeaveCause.TheVariants.{Ended, Spent}
use Rattle.ring_core.specs.declared.entry.RingEntry.TheVariants.{Pass, GiveUp}
use Rattle.ring_core.specs.Machine.{addresses, ring_after, ring_node}
use Rattle.ring_core.specs.Legal.{IsLegalRing}
use Rattle.std.specs.List.{AllByRecursion}
use Rattle.controller_core.specs.declared.fixed.Fixed.{Fixed}
use Rattle.controller_core.specs.declared.entry.Entry.{Entry}
use Rattle.tied_lists.specs.Own.{is_of, own, Adds, Grew}
use Rattle.tied_lists.specs.Items.{latest_down}
use Rattle.tied_lists.proofs.Growth.{adds_none, grew-ours}
use Rattle.tied_lists.proofs.Turns.{legal-parts, own-joined}
use Rattle.tied_lists.proofs.Boxes.{count-push}
use Rattle.joint_history.specs.Complete.{is_pass}
use Rattle.joint_history.specs.Reading.{failures_at, is_ours}
use Rattle.mstr_block.specs.declared.call.CallId.{CallId}
use Rattle.comm_port.specs.declared.turn_end.TurnEnd.{TurnEnd}
use Rattle.comm_port.specs.Ending.{AskedInOrder, questions}
use Rattle.comm_port.specs.Failing.{GoesDown}
use Rattle.comm_port.specs.HoldTurn.{IsGivenUp, VisitsEnd, WorksTurn}
use Rattle.comm_port.specs.WholeTurn.{HoldsTurn, TurnsBy, failing_end, is_unnoticed, working_end}
use Rattle.comm_port.specs.Parts.{InOrder}
use Rattle.comm_port.proofs.Downs.{giving-downs, latest-adds, latest-back, latest-left}
use Rattle.plant_types.specs.declared.net.HostPlan.{HostPlan}
use Rattle.plant_types.specs.declared.net.BridgePlan.{BridgePlan}
use Rattle.bridge_relay.specs.declared.entry.BridgeEntry.{BridgeEntry}
use Rattle.bridge_relay.specs.Laws.{end_after}
use Rattle.bridge_relay.specs.Machine.{is_idle_end}
use Rattle.bridge_station.specs.BridgePort.{AsksBridge, AsksRing, EndGivesUp, HoldsEndTurn}
use Rattle.bridge_station.specs.BridgePort.{LeavesIf}
use Rattle.host_port.specs.declared.entry.HostEntry.{HostEntry}
use Rattle.comm_port.specs.Leaving.{cause_due, is_due, last_entry}
use Rattle.comm_port.specs.Order.{IsGivingUp}
use Rattle.comm_port.specs.HostTurns.{GivenUp, give_up_of, HoldsHostTurn}
use Rattle.bridge_station.specs.TurnLaws.{leaves_out}
use Rattle.serial_run.specs.Held.{turns_of, unnoticed_of}
use Rattle.serial_run.proofs.Grown.{Further, further-both, further-grew, further-adds, further-none}
use Rattle.serial_run.proofs.Grown.{further-went}
use Rattle.serial_run.proofs.Rings.{passes-counted, count-more}

-- how a hold turn of a node with a budget ended
pub record TurnEnded (net : NetPlan) (n : ℕ) (ring new_ring : List RingEntry) (left : Bool) : Type 0
  where
    pub given : List RingEntry
    pub handed : List RingEntry
    pub done : Bool
    pub words : List ℕ
    pub to_given : Further (is_of n) ring given
    pub left_is : left ≡ is_some (cause_due net (ring_after net given) n done true)
    pub grew : Grew true (is_of n) given
        (last_entry n done words (cause_due net (ring_after net given) n done true) ∷ []) handed
    pub rest : Adds true (is_of n) IsGivingUp handed new_ring

ended-further : (net : NetPlan) (n : ℕ) (ring new_ring : List RingEntry) (left : Bool)
    → TurnEnded net n ring new_ring left → Further (is_of n) ring new_ring
ended-further net n ring new_ring left t =
    further-both (is_of n) _ _ _ t.to_given
    (further-both (is_of n) _ _ _ (further-grew (is_of n) _ _ _ t.grew)
    (further-adds (is_of n) IsGivingUp _ _ t.rest))

no-cause : (cause : Option LeaveCause) → is_some cause ≡ false → cause ≡ None
no-cause None is = refl
no-cause (Some why) is = absurd (cc)

-- calls that are given up, one after another
each-given : (ids : List CallId) (noted : List Entry) (done : List RingEntry)
    → InOrder IsGivenUp ids noted done → AllByRecursion IsGivingUp done
each-given [] noted done due = subst (AllByRecursion IsGivingUp) (sym due.1) tt
each-given (id ∷ ids) noted done due =
    let it = due.6 in
    let more = each-given ids due.1 due.3 due.7 in
    let all : done ≡ GiveUp id it.0 ∷ due.3 = due.5 ∙ ap (λ (l : List RingEntry). l ++ due.3) it.2
    in
    subst (AllByRecursion IsGivingUp) (sym all) (tt, more)

-- a controller that was asked only
asked-further : (questions : List (List Entry → Bool)) (known new_known : List Entry) (all : Bool)
    → AskedInOrder true questions known new_known all → Further is_ours known new_known
asked-further [] known new_known all asked =
    subst (Further is_ours known) (sym asked.0) (further-none is_ours known)
asked-further (question ∷ questions) known new_known all asked = ⊎_elim
    (λ (yes : question asked.at ≡ true).
    further-both is_ours _ _ _ (further-went is_ours known asked.at asked.went)
    (asked-further questions asked.at new_known all (asked.yes yes)))
    (λ (no' : question asked.at ≡ false).
    subst (Further is_ours known) (sym (asked.no no').0)
    (further-went is_ours known asked.at asked.went))
    (cases_Bool (question asked.at))

module _ (fixed : Fixed) (net : NetPlan) (n : ℕ) (known new_known : List Entry)
    (ring new_ring : List RingEntry) (left : Bool)
    (t : WorksTurn true true fixed net n true known new_known ring new_ring left) where
  work-ended : TurnEnded net n ring new_ring left
  work-ended = record {
    given = t.given_ring;
    handed = t.ends.handed_ring;
    done = t.ends.done;
    words = _;
    to_given = further-both (is_of n) _ _ _ (further-grew (is_of n) _ _ _ t.serves.node)
        (further-both (is_of n) _ _ _ (further-grew (is_of n) _ _ _ t.calls.goes.node)
        (further-both (is_of n) _ _ _ (further-grew (is_of n) _ _ _ t.sends.frames.grew)
        (further-grew (is_of n) _ _ _ t.gives_up.node)));
    left_is = t.ends.left_is;
    grew = t.ends.handed.grew;
    rest = record {
      added = t.ends.gives_up.done;
      sort = each-given _ t.ends.gives_up.noted t.ends.gives_up.done t.ends.gives_up.due;
      grew = t.ends.gives_up.node;
    };
  }

  work-ring : Further (is_of n) ring new_ring
  work-ring = ended-further net n ring new_ring left work-ended

  work-known : Further is_ours known new_known
  work-known =
      further-both is_ours _ _ _ (further-grew is_ours _ _ _ t.serves.station)
      (further-both is_ours _ _ _ (further-went is_ours _ _ t.calls.asks)
      (further-both is_ours _ _ _ (further-grew is_ours _ _ _ t.calls.goes.station)
      (further-both is_ours _ _ _ (further-grew is_ours _ _ _ t.sends.finishes)
      (further-both is_ours _ _ _ (further-grew is_ours _ _ _ t.gives_up.station)
      (further-both is_ours _ _ _ (asked-further
      (questions fixed (latest_down (own n t.given_ring))) t.given_known t.ends.asked_known
      t.ends.asked.all_yes t.ends.asked.asked)
      (further-grew is_ours _ _ _ t.ends.gives_up.station))))))

module _ (fixed : Fixed) (net : NetPlan) (n failures : ℕ) (known new_known : List Entry)
    (ring new_ring : List RingEntry) (joined : Bool)
    (t : GoesDown true true fixed net n failures known new_known ring new_ring joined) where
  down-ring : Further (is_of n) ring new_ring
  down-ring =
      further-both (is_of n) _ _ _ (further-grew (is_of n) _ _ _ t.leaves.grew)
      (further-both (is_of n) _ _ _ (further-grew (is_of n) _ _ _ t.gives_up.node)
      (further-grew (is_of n) _ _ _ t.comes.grew))

  down-known : Further is_ours known new_known
  down-known =
      further-both is_ours _ _ _ (further-grew is_ours _ _ _ t.gives_up.station)
      (further-went is_ours _ _ t.comes.asks)

  -- the failure is noticed then
  down-latest : latest_down (own n new_ring) ≡ failures
  down-latest =
      latest-back true n joined t.given_ring new_ring t.comes.grew
      ∙ (latest-adds true n IsGivingUp t.left_ring t.given_ring giving-downs (record {
        added = t.gives_up.done;
        sort = each-given _ t.gives_up.noted t.gives_up.done t.gives_up.due;
        grew = t.gives_up.node;
      })
      ∙ latest-left true net n failures ring t.left_ring t.leaves)

-- a turn as a whole
turn-ring-by : (b : Bool) (fixed : Fixed) (net : NetPlan) (n : ℕ) (known new_known : List Entry)
    (ring new_ring : List RingEntry) (end : TurnEnd)
    → TurnsBy b true true fixed net n true known new_known ring new_ring end
    → Further (is_of n) ring new_ring × Further is_ours known new_known
turn-ring-by true fixed net n known new_known ring new_ring end t = (
  down-ring fixed net n (failures_at fixed known) known new_known ring new_ring t.0 t.2,
  down-known fixed net n (failures_at fixed known) known new_known ring new_ring t.0 t.2,
)
turn-ring-by false fixed net n known new_known ring new_ring end t = (
  work-ring fixed net n known new_known ring new_ring t.0 t.2,
  work-known fixed net n known new_known ring new_ring t.0 t.2,
)

module _ (fixed : Fixed) (net : NetPlan) (n : ℕ) (known new_known : List Entry)
    (ring new_ring : List RingEntry) (end : TurnEnd)
    (t : HoldsTurn true true fixed net n true known new_known ring new_ring end) where
  pub turn-ring : Further (is_of n) ring new_ring
  turn-ring = (turn-ring-by _ fixed net n t.asked new_known ring new_ring end t.goes).0

  pub turn-known : Further is_ours known new_known
  turn-known = further-both is_ours _ _ _ (further-went is_ours known t.asked t.asks)
      (turn-ring-by _ fixed net n t.asked new_known ring new_ring end t.goes).1

each-give-up : (ends : List GivenUp) → AllByRecursion IsGivingUp (map give_up_of ends)
each-give-up [] = tt
each-give-up (end ∷ ends) = (tt, each-give-up ends)

module _ (net : NetPlan) (n : ℕ) (plan : HostPlan) (list new_list : List HostEntry)
    (ring new_ring : List RingEntry) (left : Bool)
    (t : HoldsHostTurn true net n plan true list new_list ring new_ring left) where
  host-rest : (b : Bool) → left ≡ b → Adds true (is_of n) IsGivingUp t.ends.handed_ring new_ring
  host-rest true is =
      let g = t.ends.gives_up is in record
      { added = map give_up_of g.ends; sort = each-give-up g.ends; grew = g.grew }
  host-rest false is =
      subst (Adds true (is_of n) IsGivingUp t.ends.handed_ring) (sym (t.ends.ends_there is).0)
      (adds_none true (is_of n) IsGivingUp t.ends.handed_ring)

  pub host-turn-ended : TurnEnded net n ring new_ring left
  host-turn-ended = record {
    given = t.given_ring;
    handed = t.ends.handed_ring;
    done = _;
    words = _;
    to_given = further-both (is_of n) _ _ _ (further-grew (is_of n) _ _ _ t.serves.all.grew)
        (further-both (is_of n) _ _ _ (further-grew (is_of n) _ _ _ t.makes.in_order.grew)
        (further-both (is_of n) _ _ _ (further-grew (is_of n) _ _ _ t.sends.frames.grew)
        (further-grew (is_of n) _ _ _ t.gives_up.grew)));
    left_is = t.ends.left_is;
    grew = t.ends.handed.grew;
    rest = host-rest left refl;
  }

pub host-turn-ring : (net : NetPlan) (n : ℕ) (plan : HostPlan) (list new_list : List HostEntry)
    (ring new_ring : List RingEntry) (left : Bool)
    → HoldsHostTurn true net n plan true list new_list ring new_ring left
    → Further (is_of n) ring new_ring
host-turn-ring net n plan list new_list ring new_ring left t =
    ended-further net n ring new_ring left
    (host-turn-ended net n plan list new_list ring new_ring left t)

-- ---- a turn of a bridge's end

each-end-given : (n : ℕ) (ids : List CallId) (noted : List BridgeEntry) (done : List RingEntry)
    → InOrder (EndGivesUp n) ids noted done → AllByRecursion IsGivingUp done
each-end-given n [] noted done due = subst (AllByRecursion IsGivingUp) (sym due.1) tt
each-end-given n (id ∷ ids) noted done due =
    let it = due.6 in
    let more = each-end-given n ids due.1 due.3 due.7 in
    let all : done ≡ GiveUp id it.0 ∷ due.3 = due.5 ∙ ap (λ (l : List RingEntry). l ++ due.3) it.2
    in
    subst (AllByRecursion IsGivingUp) (sym all) (tt, more)

asks-ring : (b : Bool) (net : NetPlan) (n : ℕ) (ring new_ring : List RingEntry) (answer : Bool)
    → AsksRing b true net n ring new_ring answer → Further (is_of n) ring new_ring
asks-ring true net n ring new_ring answer asks = further-went (is_of n) ring new_ring asks.0
asks-ring false net n ring new_ring answer asks =
    subst (Further (is_of n) ring) (sym asks.0) (further-none (is_of n) ring)

asks-bridge : (b : Bool) (plan : BridgePlan) (net : NetPlan) (n : ℕ)
    (list new_list : List BridgeEntry) (ring new_ring : List RingEntry) (answer : Bool)
    → AsksBridge b true true plan net n list new_list ring new_ring answer
    → Further (is_of n) ring new_ring
asks-bridge true plan net n list new_list ring new_ring answer asks =
    asks-ring (is_idle_end (end_after plan new_list n)) net n ring new_ring answer asks.1
asks-bridge false plan net n list new_list ring new_ring answer asks =
    subst (Further (is_of n) ring) (sym asks.1) (further-none (is_of n) ring)

leaves-rest : (left : Bool) (n : ℕ) (list new_list : List BridgeEntry)
    (ring new_ring : List RingEntry) → LeavesIf left true true n list new_list ring new_ring
    → Adds true (is_of n) IsGivingUp ring new_ring
leaves-rest true n list new_list ring new_ring t = record {
  added = t.gives_up.done;
  sort = each-end-given n _ t.gives_up.noted t.gives_up.done t.gives_up.due;
  grew = t.gives_up.node;
}
leaves-rest false n list new_list ring new_ring t =
    subst (Adds true (is_of n) IsGivingUp ring) (sym t.1) (adds_none true (is_of n) IsGivingUp ring)

module _ (plan : BridgePlan) (net : NetPlan) (n : ℕ) (list new_list : List BridgeEntry)
    (ring new_ring : List RingEntry) (left : Bool)
    (t : HoldsEndTurn true true plan net n true list new_list ring new_ring left) where
  pub end-turn-ended : TurnEnded net n ring new_ring left
  end-turn-ended = record {
    given = t.ends.asked_ring;
    handed = t.ends.handed_ring;
    done = t.ends.done;
    words = _;
    to_given = further-both (is_of n) _ _ _ (further-grew (is_of n) _ _ _ t.serves.node)
        (further-both (is_of n) _ _ _ (further-grew (is_of n) _ _ _ t.backs.part.node)
        (further-both (is_of n) _ _ _ (further-grew (is_of n) _ _ _ t.forwards.part.node)
        (further-both (is_of n) _ _ _ (further-grew (is_of n) _ _ _ t.sends.frames.grew)
        (further-both (is_of n) _ _ _ (further-grew (is_of n) _ _ _ t.gives_up.node)
        (asks-bridge _ plan net n t.given_list t.ends.asked_list t.given_ring t.ends.asked_ring
        t.ends.done t.ends.asked)))));
    left_is = t.ends.left_is;
    grew = t.ends.handed.grew;
    rest = leaves-rest left n t.ends.asked_list new_list t.ends.handed_ring new_ring
        t.ends.leaves;
  }

pub visit-ring : (fixed : Fixed) (net : NetPlan) (n : ℕ) (known new_known : List Entry)
    (ring new_ring : List RingEntry)
    → VisitsEnd true true fixed net n known new_known ring new_ring
    → Further (is_of n) ring new_ring
visit-ring fixed net n known new_known ring new_ring v =
    further-grew (is_of n) _ _ _ v.calls.goes.node

pub visit-known : (fixed : Fixed) (net : NetPlan) (n : ℕ) (known new_known : List Entry)
    (ring new_ring : List RingEntry)
    → VisitsEnd true true fixed net n known new_known ring new_ring
    → Further is_ours known new_known
visit-known fixed net n known new_known ring new_ring v =
    further-both is_ours _ _ _ (further-went is_ours known v.calls.asked v.calls.asks)
    (further-grew is_ours _ _ _ v.calls.goes.station)

-- ---- a node has fewer hold turns before it

abbrev passed : ℕ → List RingEntry → ℕ
passed n ring = count_by is_pass (own n ring)

further-passed : (n : ℕ) (old new : List RingEntry) → Further (is_of n) old new
    → passed n old ≤ passed n new
further-passed n old new f =
    let is : passed n new ≡ passed n old + passed n f.more =
    ap (λ l. passed n l) f.is ∙ (ap (count_by is_pass) (own-joined n old f.more) ∙ count-more
    is_pass (own n old) (own n f.more)) in
    omega arith

not-spent : (net : NetPlan) (spent : Bool) (done ended : Bool)
    → (if true && spent then Some Spent else (if done && ended then Some Ended else None)) ≡ None
    → spent ≡ false
not-spent net true done ended is = absurd (cc)
not-spent net false done ended is = refl

abbrev flag : Bool → ℕ
flag b = if b then 1 else 0

unnoticed-low : (failures : ℕ) (l : List RingEntry) → unnoticed_of failures l ≤ 1
unnoticed-low failures l = by (nat_lt (latest_down l) failures) where
  by : (b : Bool) → flag b ≤ 1
  by true = omega arith
  by false = omega arith

pub turn-less : (net : NetPlan) (n failures : ℕ) (ring new_ring : List RingEntry) (left : Bool)
    → All (λ m. m < addresses) net.members
    → IsLegalRing net new_ring → TurnEnded net n ring new_ring left
    → turns_of net new_ring n failures left < turns_of net ring n failures false
turn-less net n failures ring new_ring true low legal t = omega arith
turn-less net n failures ring new_ring false low legal t =
    let r = ring_after net t.given in
    let cause = cause_due net r n t.done true in
    let none : cause ≡ None = no-cause cause (sym t.left_is) in
    let spent : is_due net r n Spent ≡ false = not-spent net (is_due net r n Spent) t.done
    (is_due net r n Ended) none in
    let below : (ring_node r n).passes < net.holds = leb-false net.holds (ring_node r n).passes
    spent in
    let all-further : Further (is_of n) t.given new_ring = further-both (is_of n) _ _ _
    (further-grew (is_of n) _ _ _ t.grew) (further-adds (is_of n) IsGivingUp _ _ t.rest) in
    let legal-given : IsLegalRing net t.given = (legal-parts net t.given all-further.more
    (subst (IsLegalRing net) all-further.is legal)).0 in
    let counted = passes-counted net t.given n low legal-given in
    let own-handed : own n t.handed ≡ own n t.given ++ Pass n t.done t.words ∷ [] =
    grew-ours true (is_of n) _ _ _ t.grew ∙ ap
    (λ c. own n t.given ++ last_entry n t.done t.words c ∷ []) none in
    let one-more : passed n t.handed ≡ passed n t.given + 1 =
    ap (count_by is_pass) own-handed ∙ count-push is_pass (own n t.given) (Pass n t.done t.words) in
    let before = further-passed n ring t.given t.to_given in
    let behind = further-passed n t.handed new_ring (further-adds (is_of n) IsGivingUp _ _ t.rest)
    in
    let noticed = unnoticed-low failures (own n new_ring) in
    omega (arith, below, counted, one-more, before, behind, noticed)

-- a failure that is noticed is none behind the turn
noticed-less : (failures was now holds before behind : ℕ) (new : Bool)
    → nat_lt was failures ≡ true → now ≡ failures → before ≤ behind
    → (if new then 0 else (holds - behind) * 2 + flag (nat_lt now failures) + 1)
    < (holds - before) * 2 + flag (nat_lt was failures) + 1
noticed-less failures was now holds before behind true is noticed more = omega arith
noticed-less failures was now holds before behind false is noticed more =
    let one : flag (nat_lt was failures) ≡ flag true = ap flag is in
    let none : flag (nat_lt now failures) ≡ flag false =
    ap (λ (k : ℕ). flag (nat_lt k failures)) noticed
    ∙ ap flag (le-ltb failures failures (omega arith)) in
    omega (arith, one, none, more)

down-less : (fixed : Fixed) (net : NetPlan) (n : ℕ) (known new_known : List Entry)
    (ring new_ring : List RingEntry) (joined : Bool)
    → is_unnoticed fixed n known ring ≡ true
    → GoesDown true true fixed net n (failures_at fixed known) known new_known ring new_ring joined
    → turns_of net new_ring n (failures_at fixed known) (leaves_out (failing_end joined))
    < turns_of net ring n (failures_at fixed known) false
down-less fixed net n known new_known ring new_ring joined is t =
    let failures = failures_at fixed known in
    noticed-less failures (latest_down (own n ring)) (latest_down (own n new_ring)) net.holds
    (passed n ring) (passed n new_ring) (leaves_out (failing_end joined)) is
    (down-latest fixed net n failures known new_known ring new_ring joined t)
    (further-passed n ring new_ring
    (down-ring fixed net n failures known new_known ring new_ring joined t))

work-left : (left : Bool) → leaves_out (working_end left) ≡ left
work-left true = refl
work-left false = refl

less-by : (b : Bool) (fixed : Fixed) (net : NetPlan) (n : ℕ) (known new_known : List Entry)
    (ring new_ring : List RingEntry) (end : TurnEnd)
    → All (λ m. m < addresses) net.members → IsLegalRing net new_ring
    → is_unnoticed fixed n known ring ≡ b
    → TurnsBy b true true fixed net n true known new_known ring new_ring end
    → turns_of net new_ring n (failures_at fixed known) (leaves_out end)
    < turns_of net ring n (failures_at fixed known) false
less-by true fixed net n known new_known ring new_ring end low legal is t =
    subst (λ (e : TurnEnd). turns_of net new_ring n (failures_at fixed known) (leaves_out e)
    < turns_of net ring n (failures_at fixed known) false) (sym t.1)
    (down-less fixed net n known new_known ring new_ring t.0 is t.2)
less-by false fixed net n known new_known ring new_ring end low legal is t =
    subst (λ (left : Bool). turns_of net new_ring n (failures_at fixed known) left
    < turns_of net ring n (failures_at fixed known) false)
    (sym (ap leaves_out t.1 ∙ work-left t.0))
    (turn-less net n (failures_at fixed known) ring new_ring t.0 low legal
    (work-ended fixed net n known new_known ring new_ring t.0 t.2))

pub hold-less : (fixed : Fixed) (net : NetPlan) (n : ℕ) (known new_known : List Entry)
    (ring new_ring : List RingEntry) (end : TurnEnd)
    → All (λ m. m < addresses) net.members → IsLegalRing net new_ring
    → HoldsTurn true true fixed net n true known new_known ring new_ring end
    → turns_of net new_ring n (failures_at fixed known) (leaves_out end)
    < turns_of net ring n (failures_at fixed known) false
hold-less fixed net n known new_known ring new_ring end low legal t =
    let w = t.asks in
    let same : t.asked ≡ known = w.after_is ∙ (append-nil (known ++ w.between)
    ∙ (ap (λ (l : List Entry). known ++ l) (w.none_alone refl) ∙ append-nil known)) in
    subst (λ (l : List Entry). turns_of net new_ring n (failures_at fixed l) (leaves_out end)
    < turns_of net ring n (failures_at fixed l) false) same
    (less-by _ fixed net n t.asked new_known ring new_ring end low legal refl t.goes)
