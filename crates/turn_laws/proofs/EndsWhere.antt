-- Where a controller's turn leaves its node.
use Rattle.std.proofs.Common.{◌≡◌, ℕ, zero, suc, ◌==◌, Bool, true, false, cond, List, [], ◌∷◌, ◌++◌}
use Rattle.std.proofs.Common.{set, Option, Some, None, refl, sym, ap, subst, ◌∙◌, append_assoc}
use Rattle.std.specs.Prelude.{if◌then◌else◌, is_some, not}
use Rattle.std.proofs.lemmas.Bool.{cond_both}
use Rattle.plant_types.specs.declared.net.NetPlan.{NetPlan}
use Rattle.controller_core.specs.declared.entry.Entry.{Entry}
use Rattle.controller_core.specs.declared.fixed.Fixed.{Fixed}
use Rattle.ring_core.specs.declared.entry.LeaveCause.{LeaveCause}
use Rattle.ring_core.specs.declared.entry.RingEntry.{RingEntry}
use Rattle.ring_core.specs.declared.entry.RingEntry.TheVariants.{Join}
use Rattle.ring_core.specs.declared.status.NodeStatus.TheVariants as statuses
use Rattle.ring_core.specs.Words.{maker}
use Rattle.ring_core.specs.Machine.{NodeIs, RingIs, is_held, part_of, ring_after, ring_node}
use Rattle.ring_core.specs.Scratch.{words_put}
use Rattle.tied_lists.specs.Own.{own}
use Rattle.tied_lists.specs.Waits.{has_left, status_at}
use Rattle.tied_lists.proofs.Turns.{membership-kept, next-ring}
use Rattle.joint_history.specs.Reading.{failures_at, is_off_at}
use Rattle.comm_port.specs.declared.turn_end.TurnEnd.{TurnEnd}
use Rattle.comm_port.specs.declared.turn_end.TurnEnd.TheVariants as ends
use Rattle.comm_port.specs.Failing.{GoesDown}
use Rattle.comm_port.specs.HoldTurn.{IsGivenUp, WorksTurn}
use Rattle.comm_port.specs.Leaving.{cause_due, last_entry}
use Rattle.comm_port.specs.Parts.{InOrder, calls_waiting}
use Rattle.comm_port.specs.WholeTurn.{TurnsBy, failing_end, is_unnoticed, working_end}
use Rattle.comm_port.proofs.Leaves.{quiet-due}
use Rattle.turn_laws.specs.Laws.{AwayTurnsEndWhere, EndsWhere, TurnsEndWhere}
use Rattle.turn_laws.proofs.Gone.{inner-keeps}
use Rattle.turn_laws.proofs.Holders.{in-of, left-others}
use Rattle.turn_laws.proofs.Parted.{gone-for-good}
use Rattle.turn_laws.proofs.Passes.{cons-head, cons-tail, nil-cons}
use Rattle.turn_laws.proofs.TurnParts as parts
use Rattle.turn_laws.proofs.Went.{Went}

-- ---- a node that was away asks to come in

put-away : (nodes : List NodeIs) (n : ℕ) (c : NodeIs) → (part_of nodes n).status ≡ statuses.Away
    → part_of (set nodes n c) n ≡ c
put-away [] n c away = absurd (let no' : statuses.Gone ≡ statuses.Away = away in cc)
put-away (d ∷ ds) zero c away = refl
put-away (d ∷ ds) (suc n) c away = put-away ds n c away

join-now : (net : NetPlan) (n : ℕ) (past : List RingEntry) → status_at net past n ≡ statuses.Away
    → has_left (status_at net (past ++ Join n ∷ []) n) ≡ false
join-now net n past away =
    let r = ring_after net past in
    ap (λ (x : RingIs). has_left (ring_node x n).status) (next-ring net past (Join n))
    ∙ cond_both (is_held r) _ _ (λ (x : RingIs). has_left (ring_node x n).status ≡ false)
    (λ _. ap (λ (c : NodeIs). has_left c.status) (put-away r.nodes n _ away))
    (λ _. ap (λ (c : NodeIs). has_left c.status) (put-away r.nodes n _ away))

not-asking : (net : NetPlan) (n : ℕ) (past : List RingEntry) → status_at net past n ≡ statuses.Away
    → status_at net past n ≡ statuses.Asking → ⊥
not-asking net n past away asks =
    let no' : statuses.Away ≡ statuses.Asking = sym away ∙ asks in absurd cc

-- whatever other nodes add around its Join
comes-back : (net : NetPlan) (n : ℕ) (past more : List RingEntry)
    → status_at net past n ≡ statuses.Away → own n more ≡ Join n ∷ []
    → has_left (status_at net (past ++ more) n) ≡ false
comes-back net n past [] away is = nil-cons is
comes-back net n past (e ∷ es) away is =
    at (maker e == n) refl (comes-back net n (past ++ e ∷ []) es) is
  where
    joined : has_left (status_at net (past ++ e ∷ es) n)
        ≡ has_left (status_at net ((past ++ e ∷ []) ++ es) n)
    joined = ap (λ (l : List RingEntry). has_left (status_at net l n))
        (sym (append_assoc past (e ∷ []) es))

    at : (b : Bool) → (maker e == n) ≡ b
        → (status_at net (past ++ e ∷ []) n ≡ statuses.Away → own n es ≡ Join n ∷ []
        → has_left (status_at net ((past ++ e ∷ []) ++ es) n) ≡ false)
        → cond b (e ∷ own n es) (own n es) ≡ Join n ∷ []
        → has_left (status_at net (past ++ e ∷ es) n) ≡ false
    at true mine rest now =
        joined ∙ left-others net n (past ++ e ∷ []) es (cons-tail now)
        ∙ ap (λ (x : RingEntry). has_left (status_at net (past ++ x ∷ []) n)) (cons-head now)
        ∙ join-now net n past away
    at false other rest later =
        joined ∙ rest
        (membership-kept net n past (e ∷ []) (ap (λ b. cond b (e ∷ []) []) other)
        (not-asking net n past away) ∙ away) later

pub away-ends : AwayTurnsEndWhere
away-ends alone_ram alone_ring fixed net n true known new_known ring new_ring c on is legal =
    ap (λ (l : List RingEntry). has_left (status_at net l n)) c.grew.after_is
    ∙ comes-back net n ring c.grew.more is.away c.grew.ours_are
away-ends alone_ram alone_ring fixed net n false known new_known ring new_ring c on is legal =
    ap (λ (l : List RingEntry). has_left (status_at net l n)) (c.stays refl) ∙ ap has_left is.away

-- ---- turns in which power had failed

off-of : (off : Bool) → false ≡ not off → off ≡ true
off-of true is = refl
off-of false is = absurd (let no' : false ≡ true = is in cc)

down-ends : (alone_ram alone_ring : Bool) (fixed : Fixed) (net : NetPlan) (n failures : ℕ)
    (known new_known : List Entry) (ring new_ring : List RingEntry) (joined : Bool)
    → GoesDown alone_ram alone_ring fixed net n failures known new_known ring new_ring joined
    → EndsWhere fixed net n (failing_end joined) new_known new_ring
down-ends alone_ram alone_ring fixed net n failures known new_known ring new_ring true d = record {
  stands = ap (λ (l : List RingEntry). has_left (status_at net l n)) d.comes.grew.after_is
      ∙ comes-back net n d.given_ring d.comes.grew.more d.away.away d.comes.grew.ours_are;
  off = λ is. absurd (let no' : ends.Asking ≡ ends.Away = is in cc);
  idle = λ is. absurd (let no' : ends.Asking ≡ ends.Away = is in cc);
}
down-ends alone_ram alone_ring fixed net n failures known new_known ring new_ring false d = record {
  stands = ap (λ (l : List RingEntry). status_at net l n) (d.comes.stays refl) ∙ d.away.away;
  off = λ is. off-of (is_off_at fixed new_known) d.comes.joined_is;
  idle = λ is. ap (calls_waiting n) (d.comes.stays refl) ∙ d.away.idle;
}

-- ---- turns in which no failure is unnoticed

module _ (alone_ram alone_ring : Bool) (fixed : Fixed) (net : NetPlan) (n : ℕ) (budget left : Bool)
    (known new_known : List Entry) (ring new_ring : List RingEntry)
    (t : WorksTurn alone_ram alone_ring fixed net n budget known new_known ring new_ring left) where
  abbrev cause : Option LeaveCause
  cause = cause_due net (ring_after net t.given_ring) n t.ends.done budget

  -- a Pass
  passed-ends : cause ≡ None → EndsWhere fixed net n ends.Passed new_known new_ring
  passed-ends is = record {
    stands = ap (λ (l : List RingEntry). status_at net l n) t.ends.gives_up.node.after_is
        ∙ membership-kept net n t.ends.handed_ring t.ends.gives_up.node.more
        (t.ends.gives_up.node.ours_are ∙ due.1)
        (λ asks. let no' : statuses.In ≡ statuses.Asking = sym there ∙ asks in absurd cc) ∙ there;
    off = λ is'. absurd (let no' : ends.Passed ≡ ends.Away = is' in cc);
    idle = λ is'. absurd (let no' : ends.Passed ≡ ends.Away = is' in cc);
  }
    where
      there : status_at net t.ends.handed_ring n ≡ statuses.In
      there = in-of (status_at net t.ends.handed_ring n) (t.ends.handed.stays is)

      due : (t.ends.gives_up.noted ≡ []) × (t.ends.gives_up.done ≡ [])
      due = subst (λ ids. InOrder IsGivenUp ids t.ends.gives_up.noted t.ends.gives_up.done)
          (ap (λ b. if b then calls_waiting n t.given_ring else [])
          (t.ends.left_is ∙ ap is_some is)) t.ends.gives_up.due

  -- a Leave for good
  left-ends : (why : LeaveCause) → cause ≡ Some why
      → EndsWhere fixed net n ends.Left new_known new_ring
  left-ends why is = record {
    stands = inner-keeps net n t.ends.handed_ring t.ends.gives_up.node.more new_ring gives.done
        t.ends.gives_up.node.after_is gives.own_is gives.quiet
        (λ asks. let no' : statuses.Gone ≡ statuses.Asking = sym parted ∙ asks in absurd cc)
        ∙ parted;
    off = λ is'. absurd (let no' : ends.Left ≡ ends.Away = is' in cc);
    idle = λ is'. absurd (let no' : ends.Left ≡ ends.Away = is' in cc);
  }
    where
      gives : Went n t.ends.asked_known new_known t.ends.handed_ring new_ring
      gives = parts.gives fixed alone_ram alone_ring net n budget left known new_known ring
          new_ring t

      parted : status_at net t.ends.handed_ring n ≡ statuses.Gone
      parted = ap (λ (l : List RingEntry). status_at net l n) t.ends.handed.grew.after_is
          ∙ gone-for-good net n why t.given_ring t.ends.handed.grew.more
          (quiet-due net (ring_after net t.given_ring) n t.ends.done budget why is)
          (t.ends.handed.grew.ours_are
          ∙ ap (λ c. last_entry n t.ends.done (words_put n t.given_ring) c ∷ []) is)

  works-ends : EndsWhere fixed net n (working_end left) new_known new_ring
  works-ends = at cause refl
    where
      at : (c : Option LeaveCause) → cause ≡ c
          → EndsWhere fixed net n (working_end left) new_known new_ring
      at None is = subst (λ b. EndsWhere fixed net n (working_end b) new_known new_ring)
          (sym (t.ends.left_is ∙ ap is_some is)) (passed-ends is)
      at (Some why) is = subst (λ b. EndsWhere fixed net n (working_end b) new_known new_ring)
          (sym (t.ends.left_is ∙ ap is_some is)) (left-ends why is)

goes-end : (alone_ram alone_ring : Bool) (fixed : Fixed) (net : NetPlan) (n : ℕ) (budget : Bool)
    (known new_known : List Entry) (ring new_ring : List RingEntry) (end : TurnEnd)
    (unnoticed : Bool)
    → TurnsBy unnoticed alone_ram alone_ring fixed net n budget known new_known ring new_ring end
    → EndsWhere fixed net n end new_known new_ring
goes-end alone_ram alone_ring fixed net n budget known new_known ring new_ring end true
    (joined, is, down) = subst (λ x. EndsWhere fixed net n x new_known new_ring) (sym is)
    (down-ends alone_ram alone_ring fixed net n (failures_at fixed known) known new_known ring
    new_ring joined down)
goes-end alone_ram alone_ring fixed net n budget known new_known ring new_ring end false
    (left, is, works) = subst (λ x. EndsWhere fixed net n x new_known new_ring) (sym is)
    (works-ends alone_ram alone_ring fixed net n budget left known new_known ring new_ring works)

pub turns-end : TurnsEndWhere
turns-end alone_ram alone_ring fixed net n budget end known new_known ring new_ring t on legal =
    goes-end alone_ram alone_ring fixed net n budget t.asked new_known ring new_ring end
    (is_unnoticed fixed n t.asked ring) t.goes
