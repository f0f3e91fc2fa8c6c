-- What a turn adds to a controller's lists, part by part.
use Rattle.std.proofs.Common.{◌≡◌, ℕ, Bool, true, List, [], ◌∷◌, ◌++◌, Option, ap, subst, ◌∙◌}
use Rattle.std.proofs.Common.{append_assoc, append-nil, sym}
use Rattle.plant_types.specs.declared.net.NetPlan.{NetPlan}
use Rattle.ring_core.specs.declared.entry.LeaveCause.{LeaveCause}
use Rattle.ring_core.specs.declared.entry.RingEntry.{RingEntry}
use Rattle.ring_core.specs.Machine.{ring_after}
use Rattle.ring_core.specs.Scratch.{words_put}
use Rattle.controller_core.specs.declared.entry.Entry.{Entry}
use Rattle.controller_core.specs.declared.fixed.Fixed.{Fixed}
use Rattle.controller_core.specs.Controller.{IsLegal}
use Rattle.controller_core.proofs.NextEntry.{front_legal}
use Rattle.tied_lists.specs.Items.{latest_down}
use Rattle.tied_lists.specs.Own.{is_of, own}
use Rattle.tied_lists.proofs.Growth.{grew-ours}
use Rattle.comm_port.specs.Leaving.{cause_due, last_entry}
use Rattle.joint_history.specs.Reading.{has_ended_at}
use Rattle.comm_port.specs.HoldTurn.{WorksTurn}
use Rattle.comm_port.specs.Parts.{calls_waiting}
use Rattle.comm_port.proofs.Asked.{BothAsked, both-asked}
use Rattle.turn_laws.proofs.Rests.{ended-alone}
use Rattle.turn_laws.proofs.Went.{Went, went-ask, went-calls, went-gives, went-sends}
use Rattle.turn_laws.proofs.Went.{went-serves, went-then}

module _ (fixed : Fixed) (alone_ram alone_ring : Bool) (net : NetPlan) (n : ℕ) (budget left : Bool)
    (known new_known : List Entry)
    (ring new_ring : List RingEntry)
    (t : WorksTurn alone_ram alone_ring fixed net n budget known new_known ring new_ring left) where
  -- up to the end
  pub went : Went n known t.given_known ring t.given_ring
  went =
      went-then n known t.sent_known t.given_known ring t.sent_ring t.given_ring
      (went-then n known t.called_known t.sent_known ring t.called_ring t.sent_ring
      (went-then n known t.served_known t.called_known ring t.served_ring t.called_ring
      (went-serves n alone_ram alone_ring _ known t.served_known ring t.served_ring t.serves)
      (went-calls n alone_ram alone_ring fixed t.served_known t.called_known t.served_ring
      t.called_ring t.calls))
      (went-sends n alone_ram alone_ring net t.called_known t.sent_known t.called_ring
      t.sent_ring t.sends))
      (went-gives n alone_ram alone_ring _ t.sent_known t.given_known t.sent_ring
      t.given_ring t.gives_up)

  -- and with the questions
  abbrev pub both : BothAsked alone_ram fixed (latest_down (own n t.given_ring))
      (calls_waiting n t.given_ring ≡ []) t.given_known t.ends.asked_known t.ends.done
  both = both-asked t.ends.asked

  pub asks-first : Went n known both.at_end ring t.given_ring
  asks-first = went-then n known t.given_known both.at_end ring t.given_ring t.given_ring went
      (went-ask n alone_ram t.given_known both.at_end t.given_ring both.first)

  pub asks-all : Went n known t.ends.asked_known ring t.given_ring
  asks-all = went-then n known both.at_end t.ends.asked_known ring t.given_ring
      t.given_ring asks-first
      (went-ask n alone_ram both.at_end t.ends.asked_known t.given_ring both.then_on)

  pub gives : Went n t.ends.asked_known new_known t.ends.handed_ring new_ring
  gives = went-gives n alone_ram alone_ring _ t.ends.asked_known new_known t.ends.handed_ring
      new_ring t.ends.gives_up

  abbrev pub cause : Option LeaveCause
  cause = cause_due net (ring_after net t.given_ring) n t.ends.done budget

  abbrev pub e : RingEntry
  e = last_entry n t.ends.done (words_put n t.given_ring) cause

  pub handed : own n t.ends.handed_ring ≡ own n t.given_ring ++ e ∷ []
  handed = grew-ours alone_ring (is_of n) t.given_ring
      (e ∷ []) t.ends.handed_ring t.ends.handed.grew

  pub own-new : own n new_ring ≡ own n ring ++ (went.done ++ (e ∷ gives.done))
  own-new =
      gives.own_is ∙ ap (λ l. l ++ gives.done) (handed ∙ ap (λ l. l ++ e ∷ []) went.own_is)
      ∙ append_assoc (own n ring ++ went.done) (e ∷ []) gives.done
      ∙ append_assoc (own n ring) went.done (e ∷ gives.done)

  -- nothing is noted behind the questions of a controller whose scans have ended
  pub record Stood : Type 0 where
    pub asked : new_known ≡ t.ends.asked_known
    pub fails : new_known ≡ both.at_fails
    pub first : new_known ≡ both.at_end

  pub still : has_ended_at fixed both.at_end ≡ true → t.ends.gives_up.noted ≡ []
      → IsLegal fixed new_known → Stood
  still ended none legal =
      let asked-is : t.ends.asked_known ≡ both.at_end ++ both.then_on.between =
      both.then_on.after_is ∙ append-nil (both.at_end ++ both.then_on.between) in
      let third-is : t.ends.asked_known ≡ both.at_fails ++ both.third.between =
      both.third.after_is ∙ append-nil (both.at_fails ++ both.third.between) in
      let second-is : both.at_fails ≡ both.at_end ++ both.second.between =
      both.second.after_is ∙ append-nil (both.at_end ++ both.second.between) in
      let legal-asked : IsLegal fixed t.ends.asked_known =
      front_legal fixed t.ends.asked_known t.ends.gives_up.station.more
      (subst (IsLegal fixed) t.ends.gives_up.station.after_is legal) in
      let legal-fails : IsLegal fixed both.at_fails =
      front_legal fixed both.at_fails both.third.between
      (subst (IsLegal fixed) third-is legal-asked) in
      let same-asked : t.ends.asked_known ≡ both.at_end =
      asked-is ∙ ap (λ l. both.at_end ++ l)
      (ended-alone fixed both.at_end both.then_on.between ended
      (subst (IsLegal fixed) asked-is legal-asked) both.then_on.others)
      ∙ append-nil both.at_end in
      let same-fails : both.at_fails ≡ both.at_end =
      second-is ∙ ap (λ l. both.at_end ++ l)
      (ended-alone fixed both.at_end both.second.between ended
      (subst (IsLegal fixed) second-is legal-fails) both.second.others)
      ∙ append-nil both.at_end in
      let same-new : new_known ≡ t.ends.asked_known =
      t.ends.gives_up.station.after_is ∙ ap (λ l. t.ends.asked_known ++ l)
      (ended-alone fixed t.ends.asked_known t.ends.gives_up.station.more
      (ap (has_ended_at fixed) same-asked ∙ ended)
      (subst (IsLegal fixed) t.ends.gives_up.station.after_is legal)
      (t.ends.gives_up.station.ours_are ∙ none))
      ∙ append-nil t.ends.asked_known in
      record {
        asked = same-new;
        fails = same-new ∙ same-asked ∙ sym same-fails;
        first = same-new ∙ same-asked;
      }
