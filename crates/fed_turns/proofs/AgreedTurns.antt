-- Turns of fixed parts that agree on the history that they leave.
use Rattle.std.proofs.Common.{◌≡◌, ℕ, Bool, true, false, not, List, [], ◌∷◌, ◌++◌, refl, sym, ap}
use Rattle.std.proofs.Common.{subst, ◌∙◌, append-nil, ⊎_elim}
use Rattle.std.specs.Prelude.{nat_le, nat_lt}
use Rattle.std.specs.List.{AllZip}
use Rattle.std.proofs.lemmas.Bool.{cases_Bool}
use Rattle.plant_types.specs.declared.net.NetPlan.{NetPlan}
use Rattle.ring_core.specs.declared.entry.RingEntry.{RingEntry}
use Rattle.controller_core.specs.declared.call.Call.{Call}
use Rattle.controller_core.specs.declared.entry.Entry.{Entry}
use Rattle.controller_core.specs.declared.fixed.Fixed.{Fixed}
use Rattle.tied_lists.specs.Items.{latest_down}
use Rattle.tied_lists.specs.Own.{own, Grew, WentOn}
use Rattle.joint_history.specs.Reading.{failures_at, is_ours}
use Rattle.comm_port.specs.declared.turn_end.TurnEnd.{TurnEnd}
use Rattle.comm_port.specs.Ending.{questions, AskedInOrder, AsksIfDone}
use Rattle.comm_port.specs.Failing.{GoesDown}
use Rattle.comm_port.specs.HoldTurn.{Collects, CollectsIf, EndsHoldTurn, VisitsEnd, WorksTurn}
use Rattle.comm_port.specs.Parts.{PartOf}
use Rattle.comm_port.specs.WholeTurn.{is_unnoticed, HoldsTurn, TurnsBy}
use Rattle.fed_turns.specs.Agreeing.{AgreeOn, IsFront}
use Rattle.fed_turns.specs.Laws.{HoldsAgree, VisitsAgree}
use Rattle.fed_turns.proofs.Agreements.{agree-front, ended-same, failures-same, front-same}
use Rattle.fed_turns.proofs.Agreements.{front-then, off-same, started-same}

-- ---- where nobody else writes

pub went-same : (ours : Entry → Bool) (h g : List Entry) → WentOn true ours h [] g → g ≡ h
went-same ours h g w =
    w.after_is ∙ append-nil (h ++ w.between) ∙ ap (λ l. h ++ l) (w.none_alone refl) ∙ append-nil h

grew-front : (ours : Entry → Bool) (h added g : List Entry) → Grew true ours h added g
    → IsFront h g
grew-front ours h added g x = (x.more, sym x.after_is)

-- ---- the questions

asked-stays : (asks : List (List Entry → Bool)) (old new : List Entry) (all : Bool)
    → AskedInOrder true asks old new all → new ≡ old
asked-stays [] old new all a = a.0
asked-stays (ask ∷ asks) old new all a = ⊎_elim
    (λ (yes : ask a.at ≡ true).
    asked-stays asks a.at new all (a.yes yes) ∙ went-same is_ours old a.at a.went)
    (λ (no' : ask a.at ≡ false). (a.no no').0 ∙ went-same is_ours old a.at a.went)
    (cases_Bool (ask a.at))

asked-other : (asks other_asks : List (List Entry → Bool)) (old new : List Entry) (all : Bool)
    → AllZip (λ (ask other : List Entry → Bool). other new ≡ ask new) asks other_asks
    → AskedInOrder true asks old new all → AskedInOrder true other_asks old new all
asked-other [] [] old new all same a = a
asked-other [] (other ∷ others) old new all same a = absurd same
asked-other (ask ∷ asks) [] old new all same a = absurd same
asked-other (ask ∷ asks) (other ∷ others) old new all same a =
    let there : a.at ≡ new = went-same is_ours old a.at a.went
    ∙ sym (asked-stays (ask ∷ asks) old new all a) in
    let answer : ask a.at ≡ other a.at = ap ask there ∙ sym same.0 ∙ ap other (sym there) in
    record {
      at = a.at;
      went = a.went;
      yes = λ yes. asked-other asks others a.at new all same.1 (a.yes (answer ∙ yes));
      no = λ no'. a.no (answer ∙ no');
    }

module _ (fixed other : Fixed) (alone : Bool) (n : ℕ) where
  asks-done : (noticed : ℕ) (Idle : Type 0) (old new : List Entry) (done : Bool)
      → AgreeOn fixed other new → AsksIfDone true fixed noticed Idle old new done
      → AsksIfDone true other noticed Idle old new done
  asks-done noticed Idle old new done a x = record {
    all_yes = x.all_yes;
    asked = asked-other (questions fixed noticed) (questions other noticed) old new x.all_yes (
      ended-same fixed other new a,
      (
        ap (λ k. nat_le k noticed) (failures-same fixed other new a),
        (ap not (started-same fixed other new a), tt),
      ),
    ) x.asked;
    done_is = x.done_is;
  }

  done-stays : (noticed : ℕ) (Idle : Type 0) (old new : List Entry) (done : Bool)
      → AsksIfDone true fixed noticed Idle old new done → new ≡ old
  done-stays noticed Idle old new done x =
      asked-stays (questions fixed noticed) old new x.all_yes x.asked

  -- ---- the calls that were started

  collects-front : (Due : Call → List Entry → List RingEntry → Type 0) (h g : List Entry)
      (ring new_ring : List RingEntry) → Collects true alone fixed n Due h g ring new_ring
      → IsFront h g
  collects-front Due h g ring new_ring c = front-then h c.asked g
      (front-same h c.asked (went-same is_ours h c.asked c.asks))
      (c.goes.station.more, sym c.goes.station.after_is)

  collects : (Due : Call → List Entry → List RingEntry → Type 0) (h g : List Entry)
      (ring new_ring : List RingEntry) → AgreeOn fixed other g
      → Collects true alone fixed n Due h g ring new_ring
      → Collects true alone other n Due h g ring new_ring
  collects Due h g ring new_ring a c = record {
    asked = c.asked;
    asks = c.asks;
    goes = subst (λ (b : Bool). PartOf true alone is_ours n (CollectsIf b Due) c.asked g ring
        new_ring)
        (sym (started-same fixed other c.asked (agree-front fixed other c.asked g
        (c.goes.station.more, sym c.goes.station.after_is) a))) c.goes;
  }

  -- ---- where power failed

  down-front : (net : NetPlan) (failures : ℕ) (h g : List Entry) (ring new_ring : List RingEntry)
      (joined : Bool) → GoesDown true alone fixed net n failures h g ring new_ring joined
      → IsFront h g
  down-front net failures h g ring new_ring joined d = front-then h d.given_known g
      (d.gives_up.station.more, sym d.gives_up.station.after_is)
      (front-same d.given_known g (went-same is_ours d.given_known g d.comes.asks))

  goes-down : (net : NetPlan) (failures : ℕ) (h g : List Entry) (ring new_ring : List RingEntry)
      (joined : Bool) → AgreeOn fixed other g
      → GoesDown true alone fixed net n failures h g ring new_ring joined
      → GoesDown true alone other net n failures h g ring new_ring joined
  goes-down net failures h g ring new_ring joined a d = record {
    left_ring = d.left_ring;
    leaves = d.leaves;
    given_known = d.given_known;
    given_ring = d.given_ring;
    gives_up = d.gives_up;
    away = d.away;
    comes = record {
      asks = d.comes.asks;
      joined_is = d.comes.joined_is ∙ ap not (sym (off-same fixed other g a));
      grew = d.comes.grew;
      stays = d.comes.stays;
    };
  }

  -- ---- a turn with no failure

  ends-front : (net : NetPlan) (budget : Bool) (h g : List Entry)
      (ring new_ring : List RingEntry) (left : Bool)
      → EndsHoldTurn true alone fixed net n budget h g ring new_ring left → IsFront h g
  ends-front net budget h g ring new_ring left e = front-then h e.asked_known g
      (front-same h e.asked_known (done-stays _ _ h e.asked_known e.done e.asked))
      (e.gives_up.station.more, sym e.gives_up.station.after_is)

  ends-turn : (net : NetPlan) (budget : Bool) (h g : List Entry)
      (ring new_ring : List RingEntry) (left : Bool) → AgreeOn fixed other g
      → EndsHoldTurn true alone fixed net n budget h g ring new_ring left
      → EndsHoldTurn true alone other net n budget h g ring new_ring left
  ends-turn net budget h g ring new_ring left a e = record {
    done = e.done;
    asked_known = e.asked_known;
    asked = asks-done _ _ h e.asked_known e.done (agree-front fixed other e.asked_known g
        (e.gives_up.station.more, sym e.gives_up.station.after_is) a) e.asked;
    left_is = e.left_is;
    handed_ring = e.handed_ring;
    handed = e.handed;
    gives_up = e.gives_up;
    none_waits = e.none_waits;
  }

  called-front : (net : NetPlan) (budget : Bool) (h g : List Entry)
      (ring new_ring : List RingEntry) (left : Bool)
      → (w : WorksTurn true alone fixed net n budget h g ring new_ring left)
      → IsFront w.called_known g
  called-front net budget h g ring new_ring left w =
      front-then w.called_known w.sent_known g
      (w.sends.finishes.more, sym w.sends.finishes.after_is)
      (front-then w.sent_known w.given_known g
      (w.gives_up.station.more, sym w.gives_up.station.after_is)
      (ends-front net budget w.given_known g w.given_ring new_ring left w.ends))

  works-front : (net : NetPlan) (budget : Bool) (h g : List Entry)
      (ring new_ring : List RingEntry) (left : Bool)
      → WorksTurn true alone fixed net n budget h g ring new_ring left → IsFront h g
  works-front net budget h g ring new_ring left w =
      front-then h w.served_known g
      (w.serves.station.more, sym w.serves.station.after_is)
      (front-then w.served_known w.called_known g
      (collects-front _ w.served_known w.called_known w.served_ring w.called_ring w.calls)
      (called-front net budget h g ring new_ring left w))

  works-turn : (net : NetPlan) (budget : Bool) (h g : List Entry)
      (ring new_ring : List RingEntry) (left : Bool) → AgreeOn fixed other g
      → WorksTurn true alone fixed net n budget h g ring new_ring left
      → WorksTurn true alone other net n budget h g ring new_ring left
  works-turn net budget h g ring new_ring left a w = record {
    served_known = w.served_known;
    served_ring = w.served_ring;
    serves = w.serves;
    all_served = w.all_served;
    called_known = w.called_known;
    called_ring = w.called_ring;
    calls = collects _ w.served_known w.called_known w.served_ring w.called_ring
        (agree-front fixed other w.called_known g
        (called-front net budget h g ring new_ring left w) a) w.calls;
    sent_known = w.sent_known;
    sent_ring = w.sent_ring;
    sends = w.sends;
    given_known = w.given_known;
    given_ring = w.given_ring;
    gives_up = w.gives_up;
    ends = ends-turn net budget w.given_known g w.given_ring new_ring left a w.ends;
  }

  -- ---- a turn as a whole

  by-front : (b : Bool) (net : NetPlan) (budget : Bool) (h g : List Entry)
      (ring new_ring : List RingEntry) (end : TurnEnd)
      → TurnsBy b true alone fixed net n budget h g ring new_ring end → IsFront h g
  by-front true net budget h g ring new_ring end t =
      down-front net (failures_at fixed h) h g ring new_ring t.0 t.2
  by-front false net budget h g ring new_ring end t =
      works-front net budget h g ring new_ring t.0 t.2

  turns-by : (b : Bool) (net : NetPlan) (budget : Bool) (h g : List Entry)
      (ring new_ring : List RingEntry) (end : TurnEnd) → AgreeOn fixed other g
      → TurnsBy b true alone fixed net n budget h g ring new_ring end
      → TurnsBy b true alone other net n budget h g ring new_ring end
  turns-by true net budget h g ring new_ring end a t =
      let low = agree-front fixed other h g
      (by-front true net budget h g ring new_ring end t) a in (
        t.0,
        t.1,
        subst (λ (k : ℕ). GoesDown true alone other net n k h g ring new_ring t.0)
            (sym (failures-same fixed other h low))
            (goes-down net (failures_at fixed h) h g ring new_ring t.0 a t.2),
      )
  turns-by false net budget h g ring new_ring end a t =
      (t.0, t.1, works-turn net budget h g ring new_ring t.0 a t.2)

  turn-front : (net : NetPlan) (budget : Bool) (h g : List Entry)
      (ring new_ring : List RingEntry) (end : TurnEnd)
      → (t : HoldsTurn true alone fixed net n budget h g ring new_ring end)
      → IsFront t.asked g
  turn-front net budget h g ring new_ring end t =
      by-front (is_unnoticed fixed n t.asked ring) net budget t.asked g ring new_ring end t.goes

  pub hold-front : (net : NetPlan) (budget : Bool) (h g : List Entry)
      (ring new_ring : List RingEntry) (end : TurnEnd)
      → HoldsTurn true alone fixed net n budget h g ring new_ring end → IsFront h g
  hold-front net budget h g ring new_ring end t = front-then h t.asked g
      (front-same h t.asked (went-same is_ours h t.asked t.asks))
      (turn-front net budget h g ring new_ring end t)

  hold-other : (net : NetPlan) (budget : Bool) (h g : List Entry)
      (ring new_ring : List RingEntry) (end : TurnEnd) → AgreeOn fixed other g
      → HoldsTurn true alone fixed net n budget h g ring new_ring end
      → HoldsTurn true alone other net n budget h g ring new_ring end
  hold-other net budget h g ring new_ring end a t =
      let low = agree-front fixed other t.asked g
      (turn-front net budget h g ring new_ring end t) a in
      record {
        asked = t.asked;
        asks = t.asks;
        goes = subst (λ (b : Bool). TurnsBy b true alone other net n budget t.asked g ring
            new_ring end)
            (ap (λ (k : ℕ). nat_lt (latest_down (own n ring)) k)
            (sym (failures-same fixed other t.asked low)))
            (turns-by (is_unnoticed fixed n t.asked ring) net budget t.asked g ring new_ring end a
            t.goes);
      }

  pub visit-front : (net : NetPlan) (h g : List Entry) (ring new_ring : List RingEntry)
      → VisitsEnd true alone fixed net n h g ring new_ring → IsFront h g
  visit-front net h g ring new_ring v = collects-front _ h g ring new_ring v.calls

pub holds : HoldsAgree
holds fixed other net n budget alone known new_known ring new_ring end a t =
    hold-other fixed other alone n net budget known new_known ring new_ring end a t

pub visits : VisitsAgree
visits fixed other net n alone known new_known ring new_ring a v = record {
  calls = collects fixed other alone n _ known new_known ring new_ring a v.calls;
  as_before = v.as_before;
}
