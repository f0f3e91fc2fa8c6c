-- The worker of a bridge's end without a budget leaves its ring only when it is done.
use Rattle.std.proofs.Common.{◌≡◌, ℕ, Bool, true, false, List, [], ◌∷◌, ◌++◌, sym, ap, ◌∙◌}
use Rattle.std.proofs.Common.{subst, append-nil}
use Rattle.plant_types.specs.declared.net.BridgePlan.{BridgePlan}
use Rattle.plant_types.specs.declared.net.NetPlan.{NetPlan}
use Rattle.bridge_relay.specs.declared.entry.BridgeEntry.{BridgeEntry}
use Rattle.bridge_relay.specs.Laws.{end_after}
use Rattle.bridge_relay.specs.Machine.{is_idle_end}
use Rattle.ring_core.specs.declared.entry.LeaveCause.TheVariants.{Ended}
use Rattle.ring_core.specs.declared.entry.RingEntry.{RingEntry}
use Rattle.ring_core.specs.Machine.{ring_after}
use Rattle.ring_core.specs.Scratch.{words_put}
use Rattle.tied_lists.specs.Own.{is_of, own}
use Rattle.tied_lists.specs.Waits.{IsOnRing}
use Rattle.tied_lists.proofs.Growth.{grew-ours}
use Rattle.tied_lists.proofs.Histories.{legal-follows}
use Rattle.turn_laws.specs.CommPort.{cause_due, is_due, last_entry, part_at}
use Rattle.end_times.specs.BridgePort.{are_some, AsksRing, EndAsksIfDone, HoldsEndTurn, LeavesIf}
use Rattle.turn_laws.specs.KeepsOn.{NoneSpent}
use Rattle.turn_laws.proofs.Passes.{all-push}
use Rattle.turn_laws.proofs.Spent.{IsUnspent, all-inner, more, not-spent}
use Rattle.end_laws.proofs.Parts.{EndWent, grew-still, went-backs, went-forwards, went-gives}
use Rattle.end_laws.proofs.Parts.{went-sends, went-serves, went-then}

-- the question whether the end is done adds nothing of its own
asked-own : (posted alone alone' : Bool) (plan : BridgePlan) (net : NetPlan) (n : ℕ)
    (a b : List BridgeEntry) (x y : List RingEntry) (done : Bool)
    → EndAsksIfDone alone alone' plan net n posted a b x y done → own n y ≡ own n x
asked-own true alone alone' plan net n a b x y done asked = ap (own n) asked.1
asked-own false alone alone' plan net n a b x y done asked =
    by (is_idle_end (end_after plan b n)) asked.1
  where
    by : (idle : Bool) → AsksRing idle alone' net n x y done → own n y ≡ own n x
    by true ring = grew-ours alone' (is_of n) x [] y (grew-still alone' (is_of n) x y ring.0)
        ∙ append-nil (own n x)
    by false ring = ap (own n) ring.0

-- ---- a turn without a budget

module _ (alone alone' : Bool) (plan : BridgePlan) (net : NetPlan) (n : ℕ) (left : Bool)
    (list new_list : List BridgeEntry) (ring new_ring : List RingEntry) (on : IsOnRing net ring n)
    (t : HoldsEndTurn alone alone' plan net n false list new_list ring new_ring left)
    (old : NoneSpent (own n ring)) where
  abbrev posted : Bool
  posted = are_some t.forwards.part.noted

  -- up to the question whether the end is done
  went : EndWent alone alone' posted n list t.given_list ring t.given_ring
  went =
      went-then alone alone' posted n list t.sent_list t.given_list ring t.sent_ring t.given_ring
      (went-then alone alone' posted n list t.called_list t.sent_list ring t.called_ring
      t.sent_ring
      (went-then alone alone' posted n list t.backed_list t.called_list ring t.backed_ring
      t.called_ring
      (went-then alone alone' posted n list t.served_list t.backed_list ring t.served_ring
      t.backed_ring
      (went-serves alone alone' posted n (part_at net n ring).paths _ list t.served_list ring
      t.served_ring (legal-follows net ring n on).node.part.comes t.serves)
      (went-backs alone alone' posted n t.served_list t.backed_list t.served_ring t.backed_ring
      t.backs.part))
      (went-forwards alone alone' n t.backed_list t.called_list t.backed_ring t.called_ring
      t.forwards.part))
      (went-sends alone alone' posted net n t.called_list t.sent_list t.called_ring t.sent_ring
      t.sends))
      (went-gives alone alone' posted n _ t.sent_list t.given_list t.sent_ring t.given_ring
      t.gives_up)

  given : NoneSpent (own n t.given_ring)
  given = subst NoneSpent
      (sym (grew-ours alone' (is_of n) ring went.done t.given_ring went.node))
      (more (own n ring) went.done old (all-inner went.done went.adds.inner))

  -- up to the last entry
  abbrev last : RingEntry
  last = last_entry n t.ends.done (words_put n t.ends.asked_ring)
      (cause_due net (ring_after net t.ends.asked_ring) n t.ends.done false)

  own-handed : own n t.ends.handed_ring ≡ own n t.given_ring ++ last ∷ []
  own-handed =
      grew-ours alone' (is_of n) t.ends.asked_ring (last ∷ []) t.ends.handed_ring
      t.ends.handed.grew
      ∙ ap (λ l. l ++ last ∷ []) (asked-own posted alone alone' plan net n t.given_list
      t.ends.asked_list t.given_ring t.ends.asked_ring t.ends.done t.ends.asked)

  handed : NoneSpent (own n t.ends.handed_ring)
  handed = subst NoneSpent (sym own-handed)
      (all-push IsUnspent (own n t.given_ring) last given (not-spent n t.ends.done
      (is_due net (ring_after net t.ends.asked_ring) n Ended) (words_put n t.ends.asked_ring)))

  -- and what is given up behind a Leave
  behind : (b : Bool) → LeavesIf b alone alone' n t.ends.asked_list new_list t.ends.handed_ring
      new_ring → NoneSpent (own n new_ring)
  behind false stood = subst (λ (l : List RingEntry). NoneSpent (own n l)) (sym stood.1) handed
  behind true leaves =
      let gives = went-gives alone alone' false n _ t.ends.asked_list leaves.given_list
      t.ends.handed_ring new_ring leaves.gives_up in
      subst NoneSpent
      (sym (grew-ours alone' (is_of n) t.ends.handed_ring gives.done new_ring gives.node))
      (more (own n t.ends.handed_ring) gives.done handed
      (all-inner gives.done gives.adds.inner))

  pub end-spends : NoneSpent (own n new_ring)
  end-spends = behind left t.ends.leaves
