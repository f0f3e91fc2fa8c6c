-- Workers without a budget leave only when they are done.
use Rattle.std.proofs.Common.{◌≡◌, ℕ, zero, suc, ◌==◌, Bool, true, false, cond, List, []}
use Rattle.std.proofs.Common.{◌∷◌, ◌++◌, Some, None, refl, sym, ap, subst, ◌∙◌, arith}
use Rattle.std.specs.Prelude.{◌&&◌, if◌then◌else◌, is_some}
use Rattle.std.specs.List.{All, AllByRecursion as Each}
use Rattle.std.proofs.lemmas.Bool.{eq-eqb}
use Rattle.plant_types.specs.declared.net.NetPlan.{NetPlan}
use Rattle.ring_core.specs.declared.entry.LeaveCause.TheVariants.{Ended, Down}
use Rattle.ring_core.specs.declared.entry.RingEntry.{RingEntry}
use Rattle.ring_core.specs.declared.entry.RingEntry.TheVariants.{Post, Send, Take, Local, GiveUp}
use Rattle.ring_core.specs.declared.entry.RingEntry.TheVariants.{Pass, Leave, Join}
use Rattle.ring_core.specs.Words.{maker}
use Rattle.ring_core.specs.Legal.{IsLawful, IsMember, IsRun}
use Rattle.ring_core.specs.Machine.{ring_after}
use Rattle.controller_core.specs.declared.entry.Entry.{Entry}
use Rattle.controller_core.specs.declared.fixed.Fixed.{Fixed}
use Rattle.controller_core.specs.Controller.{IsLegal}
use Rattle.tied_lists.specs.Own.{is_of, own}
use Rattle.tied_lists.proofs.Growth.{grew-ours}
use Rattle.comm_port.specs.Leaving.{is_due, last_entry}
use Rattle.joint_history.specs.Reading.{failures_at, has_ended_at, has_started_at}
use Rattle.comm_port.specs.Parts.{InOrder}
use Rattle.comm_port.specs.declared.turn_end.TurnEnd.{TurnEnd}
use Rattle.comm_port.specs.declared.turn_end.TurnEnd.TheVariants as ends
use Rattle.comm_port.specs.Failing.{GoesDown, join_entries}
use Rattle.comm_port.specs.HoldTurn.{IsGivenUp, WorksTurn}
use Rattle.comm_port.specs.WholeTurn.{TurnsBy, failing_end, is_unnoticed, working_end}
use Rattle.mstr_block.specs.Table.{network_paths}
use Rattle.host_port.specs.Host.{host_is_done}
use Rattle.comm_port.specs.HostTurns.{hold_of, host_at}
use Rattle.comm_port.proofs.Asked.{both-asked}
use Rattle.turn_laws.specs.KeepsOn.{NoneSpent, leaves_spent}
use Rattle.turn_laws.specs.Laws.{AwayTurnsSpendNothing, HostTurnsSpendNothing, LeavesWhenEnded}
use Rattle.turn_laws.specs.Laws.{NobodySpends, TurnsSpendNothing, VisitsSpendNothing}
use Rattle.turn_laws.proofs.Passes.{IsInner, each-join}
use Rattle.turn_laws.proofs.TurnParts as parts
use Rattle.turn_laws.proofs.HostWent.{HostWent, host-gives, host-handed, host-went}
use Rattle.turn_laws.proofs.Went.{went-gives, went-visit}

-- ---- why a node leaves without a budget

-- it is done, and all have been for long enough
ended-due : (done due : Bool)
    → is_some (if done && due then Some Ended else None) ≡ true → done ≡ true
ended-due true due is = refl
ended-due false due is = absurd (let no' : false ≡ true = is in cc)

pub not-spent : (n : ℕ) (done due : Bool) (words : List ℕ)
    → leaves_spent (last_entry n done words (if done && due then Some Ended else None)) ≡ false
not-spent n true true words = refl
not-spent n true false words = refl
not-spent n false due words = refl

-- a turn in which no failure is unnoticed
works-ended : (alone_ram alone_ring : Bool) (fixed : Fixed) (net : NetPlan) (n : ℕ)
    (known new_known : List Entry) (ring new_ring : List RingEntry)
    → WorksTurn alone_ram alone_ring fixed net n false known new_known ring new_ring true
    → IsLegal fixed new_known
    → (has_ended_at fixed new_known ≡ true) × (has_started_at fixed new_known ≡ false)
works-ended alone_ram alone_ring fixed net n known new_known ring new_ring t legal =
    let done = ended-due t.ends.done (is_due net (ring_after net t.given_ring) n Ended)
    (sym t.ends.left_is) in
    let both = both-asked t.ends.asked in
    let due = subst (λ ids. InOrder IsGivenUp ids t.ends.gives_up.noted t.ends.gives_up.done)
    (both.idle done) t.ends.gives_up.due in
    let ended = both.ended done in
    let still = parts.still fixed alone_ram alone_ring net n false true known new_known ring
    new_ring t ended due.0 legal in (
      ap (has_ended_at fixed) still.first ∙ ended,
      ap (has_started_at fixed) still.asked ∙ both.collected done,
    )

-- after a failure a node comes back, or is away
not-failing : (joined : Bool) → ends.Left ≡ failing_end joined → ⊥
not-failing true is = absurd (let no' : ends.Left ≡ ends.Asking = is in cc)
not-failing false is = absurd (let no' : ends.Left ≡ ends.Away = is in cc)

has-left : (left : Bool) → ends.Left ≡ working_end left → left ≡ true
has-left true is = refl
has-left false is = absurd (let no' : ends.Left ≡ ends.Passed = is in cc)

goes-ended : (alone_ram alone_ring : Bool) (fixed : Fixed) (net : NetPlan) (n : ℕ)
    (known new_known : List Entry) (ring new_ring : List RingEntry) (unnoticed : Bool)
    → TurnsBy unnoticed alone_ram alone_ring fixed net n false known new_known ring new_ring
    ends.Left → IsLegal fixed new_known
    → (has_ended_at fixed new_known ≡ true) × (has_started_at fixed new_known ≡ false)
goes-ended alone_ram alone_ring fixed net n known new_known ring new_ring true (joined, is, down)
    legal = absurd (not-failing joined is)
goes-ended alone_ram alone_ring fixed net n known new_known ring new_ring false (left, is, works)
    legal = works-ended alone_ram alone_ring fixed net n known new_known ring new_ring
    (subst (WorksTurn alone_ram alone_ring fixed net n false known new_known ring new_ring)
    (has-left left is) works) legal

pub leaves-ended : LeavesWhenEnded
leaves-ended alone_ram alone_ring fixed net n known new_known ring new_ring t legal =
    goes-ended alone_ram alone_ring fixed net n t.asked new_known ring new_ring
    (is_unnoticed fixed n t.asked ring) t.goes legal

-- ---- own lists

abbrev pub IsUnspent : RingEntry → Type 0
IsUnspent e = leaves_spent e ≡ false

inner-unspent : (e : RingEntry) → IsInner e → IsUnspent e
inner-unspent (Post n f) inner = refl
inner-unspent (Send n heard) inner = refl
inner-unspent (Take n f) inner = refl
inner-unspent (Local n id op result) inner = refl
inner-unspent (GiveUp id word) inner = refl
inner-unspent (Pass n done words) inner = refl
inner-unspent (Leave n cause) inner = absurd (let no' : true ≡ false = inner in cc)
inner-unspent (Join n) inner = refl

-- entries inside a turn are none of them
pub all-inner : (c : List RingEntry) → Each IsInner c → Each IsUnspent c
all-inner [] inner = tt
all-inner (e ∷ c) inner = (inner-unspent e inner.0, all-inner c inner.1)

each-of : (xs : List RingEntry) → All IsUnspent xs → Each IsUnspent xs
each-of [] all = tt
each-of (x ∷ xs) all =
    (all 0 x (omega arith), each-of xs (λ k d within. all (suc k) d (omega (arith, within))))

all-of : (xs : List RingEntry) → Each IsUnspent xs → All IsUnspent xs
all-of [] each k d within = absurd (omega (arith, within))
all-of (x ∷ xs) each zero d within = each.0
all-of (x ∷ xs) each (suc k) d within = all-of xs each.1 k d (omega (arith, within))

-- what none of them stands in may be joined
pub more : (b c : List RingEntry) → NoneSpent b → Each IsUnspent c → NoneSpent (b ++ c)
more b c old new = all-of (b ++ c) (each-join IsUnspent b c (each-of b old) new)

works-spend : (alone_ram alone_ring : Bool) (fixed : Fixed) (net : NetPlan) (n : ℕ) (left : Bool)
    (known new_known : List Entry) (ring new_ring : List RingEntry)
    → WorksTurn alone_ram alone_ring fixed net n false known new_known ring new_ring left
    → NoneSpent (own n ring) → NoneSpent (own n new_ring)
works-spend alone_ram alone_ring fixed net n left known new_known ring new_ring t old =
    let w = parts.went fixed alone_ram alone_ring net n false left known new_known
    ring new_ring t in
    let g = parts.gives fixed alone_ram alone_ring net n false left known new_known
    ring new_ring t in
    let e = parts.e fixed alone_ram alone_ring net n false left known new_known ring new_ring t in
    subst NoneSpent (sym (parts.own-new fixed alone_ram alone_ring net n false left known new_known
    ring new_ring t))
    (more (own n ring) (w.done ++ (e ∷ g.done)) old
    (each-join IsUnspent w.done (e ∷ g.done) (all-inner w.done w.quiet) (
      not-spent n t.ends.done (is_due net (ring_after net t.given_ring) n Ended) _,
      all-inner g.done g.quiet,
    )))

joins-unspent : (n : ℕ) (joined : Bool) → Each IsUnspent (join_entries n joined)
joins-unspent n true = (refl, tt)
joins-unspent n false = tt

pub away-spends : AwayTurnsSpendNothing
away-spends alone_ram alone_ring fixed n joined known new_known ring new_ring c old =
    subst NoneSpent (sym (grew-ours alone_ring (is_of n) ring (join_entries n joined) new_ring
    c.grew))
    (more (own n ring) (join_entries n joined) old (joins-unspent n joined))

down-spends : (alone_ram alone_ring : Bool) (fixed : Fixed) (net : NetPlan) (n failures : ℕ)
    (joined : Bool) (known new_known : List Entry) (ring new_ring : List RingEntry)
    → GoesDown alone_ram alone_ring fixed net n failures known new_known ring new_ring joined
    → NoneSpent (own n ring) → NoneSpent (own n new_ring)
down-spends alone_ram alone_ring fixed net n failures joined known new_known ring new_ring d old =
    let left : NoneSpent (own n d.left_ring) =
    subst NoneSpent (sym (grew-ours alone_ring (is_of n) ring (Leave n (Down failures) ∷ [])
    d.left_ring d.leaves.grew))
    (more (own n ring) (Leave n (Down failures) ∷ []) old (refl, tt)) in
    let g = went-gives n alone_ram alone_ring _ known d.given_known d.left_ring d.given_ring
    d.gives_up in
    away-spends alone_ram alone_ring fixed n joined d.given_known new_known d.given_ring new_ring
    d.comes
    (subst NoneSpent (sym g.own_is)
    (more (own n d.left_ring) g.done left (all-inner g.done g.quiet)))

goes-spend : (alone_ram alone_ring : Bool) (fixed : Fixed) (net : NetPlan) (n : ℕ) (end : TurnEnd)
    (known new_known : List Entry) (ring new_ring : List RingEntry) (unnoticed : Bool)
    → TurnsBy unnoticed alone_ram alone_ring fixed net n false known new_known ring new_ring end
    → NoneSpent (own n ring) → NoneSpent (own n new_ring)
goes-spend alone_ram alone_ring fixed net n end known new_known ring new_ring true
    (joined, is, down) old = down-spends alone_ram alone_ring fixed net n (failures_at fixed known)
    joined known new_known ring new_ring down old
goes-spend alone_ram alone_ring fixed net n end known new_known ring new_ring false
    (left, is, works) old = works-spend alone_ram alone_ring fixed net n left known new_known ring
    new_ring works old

pub turns-spend : TurnsSpendNothing
turns-spend alone_ram alone_ring fixed net n end known new_known ring new_ring t old =
    goes-spend alone_ram alone_ring fixed net n end t.asked new_known ring new_ring
    (is_unnoticed fixed n t.asked ring) t.goes old

pub visits-spend : VisitsSpendNothing
visits-spend alone_ram alone_ring fixed net n known new_known ring new_ring v old =
    let w = went-visit n alone_ram alone_ring fixed known new_known ring new_ring v.calls in
    subst NoneSpent (sym w.own_is) (more (own n ring) w.done old (all-inner w.done w.quiet))

pub hosts-spend : HostTurnsSpendNothing
hosts-spend alone net n plan left list new_list ring new_ring t old = at left refl
  where
    w : HostWent plan n (hold_of n ring) list t.given_list ring t.given_ring
    w = host-went plan alone net n false left list new_list ring new_ring t

    handed : NoneSpent (own n t.ends.handed_ring)
    handed =
        subst NoneSpent
        (sym (host-handed plan alone net n false left list new_list ring new_ring t))
        (more (own n t.given_ring) _
        (subst NoneSpent (sym w.own_is) (more (own n ring) w.done old (all-inner w.done w.quiet))) (
          not-spent n (host_is_done (host_at plan t.given_list))
              (is_due net (ring_after net t.given_ring) n Ended) _,
          tt,
        ))

    at : (b : Bool) → left ≡ b → NoneSpent (own n new_ring)
    at false is = subst (λ l. NoneSpent (own n l)) (sym (t.ends.ends_there is).0) handed
    at true is =
        let g = host-gives plan (hold_of n ring) alone net n network_paths t.given_list new_list
        t.ends.handed_ring new_ring (t.ends.gives_up is) in
        subst NoneSpent (sym g.own_is)
        (more (own n t.ends.handed_ring) g.done handed (all-inner g.done g.quiet))

-- ---- all nodes

member-of : (net : NetPlan) (e : RingEntry) → IsLawful net e → IsMember net (maker e)
member-of net (Post n f) law = law.0
member-of net (Send n heard) law = law
member-of net (Take n f) law = law
member-of net (Local n id op result) law = law.0
member-of net (GiveUp id word) law = law.0
member-of net (Pass n done words) law = law
member-of net (Leave n cause) law = law
member-of net (Join n) law = law

head-of : (b : Bool) (e : RingEntry) (rest : List RingEntry) → b ≡ true
    → Each IsUnspent (cond b (e ∷ rest) rest) → IsUnspent e
head-of true e rest is each = each.0
head-of false e rest is each = absurd (let no' : false ≡ true = is in cc)

tail-of : (b : Bool) (e : RingEntry) (rest : List RingEntry)
    → Each IsUnspent (cond b (e ∷ rest) rest) → Each IsUnspent rest
tail-of true e rest each = each.1
tail-of false e rest each = each

nobody : (net : NetPlan) (past es : List RingEntry) → IsRun net past es
    → ((n : ℕ) → IsMember net n → Each IsUnspent (own n es)) → Each IsUnspent es
nobody net past [] run all = tt
nobody net past (e ∷ es) run all = (
  head-of (maker e == maker e) e (own (maker e) es) (eq-eqb (maker e) (maker e) refl)
      (all (maker e) (member-of net e run.0.0)),
  nobody net (past ++ e ∷ []) es run.1
      (λ n member. tail-of (maker e == n) e (own n es) (all n member)),
)

pub nobody-spends : NobodySpends
nobody-spends net ring legal all =
    all-of ring (nobody net [] ring legal (λ n member. each-of (own n ring) (all n member)))
