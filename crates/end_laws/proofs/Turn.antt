-- A turn keeps what a bridge's end keeps.
use Rattle.std.proofs.Common.{◌≡◌, ℕ, Bool, true, false, List, [], ◌∷◌, ◌++◌, Option, Some}
use Rattle.std.proofs.Common.{None, refl, sym, ap, subst, ◌∙◌, append_assoc}
use Rattle.std.specs.Prelude.{is_some, if◌then◌else◌, ◌&&◌}
use Rattle.std.specs.List.{All, AllByRecursion as Each}
use Rattle.std.proofs.lemmas.Bool.{and_parts}
use Rattle.std.proofs.lemmas.List.Elements.{All-from_recursion, All-push}
use Rattle.plant_types.specs.declared.net.BridgePlan.{BridgePlan}
use Rattle.plant_types.specs.declared.net.NetPlan.{NetPlan}
use Rattle.plant_types.specs.Plans.{IsBridgePlan}
use Rattle.bridge_relay.specs.declared.entry.BridgeEntry.{BridgeEntry}
use Rattle.bridge_relay.specs.declared.entry.BridgeEntry.TheVariants.{Gone as GoneEntry}
use Rattle.bridge_relay.specs.Laws.{end_after, is_by}
use Rattle.bridge_relay.specs.Legal.{IsBridgeHistory, IsOpenEnd}
use Rattle.bridge_relay.specs.Machine.{is_idle_end, none_out}
use Rattle.ring_core.specs.declared.entry.LeaveCause.{LeaveCause}
use Rattle.ring_core.specs.declared.entry.LeaveCause.TheVariants.{Ended, Spent}
use Rattle.ring_core.specs.declared.entry.RingEntry.{RingEntry}
use Rattle.ring_core.specs.declared.entry.RingEntry.TheVariants.{Leave, Pass}
use Rattle.ring_core.specs.declared.status.NodeStatus.TheVariants.{Asking, Gone}
use Rattle.ring_core.specs.Machine.{RingIs, ring_after}
use Rattle.ring_core.specs.Scratch.{words_put}
use Rattle.tied_lists.specs.Own.{Grew, is_of, own}
use Rattle.tied_lists.specs.Waits.{status_at}
use Rattle.tied_lists.proofs.Growth.{grew-ours}
use Rattle.tied_lists.proofs.Histories.{legal-follows}
use Rattle.turn_laws.specs.CommPort.{cause_due, is_due, last_entry, own_side, part_at}
use Rattle.turn_laws.proofs.CommPort.{quiet-due}
use Rattle.joint_history.specs.Complete.{IsQuiet, LeavesQuietly}
use Rattle.end_times.specs.BridgePort.{are_some, own_bridge, AsksRing, EndAsksIfDone, EndTies}
use Rattle.end_times.specs.BridgePort.{HoldsEndTurn, LeavesBridge, LeavesIf}
use Rattle.end_times.proofs.BridgePort.{legal-front}
use Rattle.end_times.specs.EndTimes.{IsEndInTime}
use Rattle.end_times.proofs.Turn.{end-in-time}
use Rattle.end_laws.specs.EndKeeps.{EndKeepsOn, IsNoDoneLeave, IsQuietSinceDone}
use Rattle.end_laws.specs.Laws.{EndTurnsKeepOn}
use Rattle.end_laws.proofs.Parts.{EndWent, grew-same, grew-still, went-backs, went-forwards}
use Rattle.end_laws.proofs.Parts.{went-gives, went-none, went-sends, went-serves, went-then}
use Rattle.end_laws.proofs.Rows.{DoneRow, here-more, inner-here, leaves-now, no-row-now}
use Rattle.end_laws.proofs.Rows.{quiet-more, quiet-push}
use Rattle.end_laws.proofs.Silent.{IsNoForward, IsOfNoCall, LeftAtLast, left-now, silent}
use Rattle.turn_laws.proofs.Gone.{inner-keeps}
use Rattle.turn_laws.proofs.Parted.{gone-for-good}
use Rattle.turn_laws.proofs.Passes.{no-pass}

-- ---- whether the end is done

went-asked : (posted alone alone' : Bool) (some : Bool) (plan : BridgePlan) (net : NetPlan) (n : ℕ)
    (a b : List BridgeEntry) (x y : List RingEntry) (done : Bool)
    → EndAsksIfDone alone alone' plan net n posted a b x y done
    → EndWent alone alone' some n a b x y
went-asked true alone alone' some plan net n a b x y done asked =
    went-none alone alone' some n a b x y (grew-same alone (is_by n) a b asked.0)
    (grew-same alone' (is_of n) x y asked.1)
went-asked false alone alone' some plan net n a b x y done asked =
    went-none alone alone' some n a b x y (grew-still alone (is_by n) a b asked.0)
    (by (is_idle_end (end_after plan b n)) asked.1)
  where
    by : (idle : Bool) → AsksRing idle alone' net n x y done → Grew alone' (is_of n) x [] y
    by true ring = grew-still alone' (is_of n) x y ring.0
    by false ring = grew-same alone' (is_of n) x y ring.0

-- it is only where the turn sent nothing on, and the end is idle
record IsDoneEnd (plan : BridgePlan) (n : ℕ) (posted : Bool) (list : List BridgeEntry)
    : Type 0 where
  sent : posted ≡ false
  idle : is_idle_end (end_after plan list n) ≡ true

done-end : (posted alone alone' : Bool) (plan : BridgePlan) (net : NetPlan) (n : ℕ)
    (a b : List BridgeEntry) (x y : List RingEntry) (done : Bool)
    → EndAsksIfDone alone alone' plan net n posted a b x y done → done ≡ true
    → IsDoneEnd plan n posted b
done-end true alone alone' plan net n a b x y done asked is =
    absurd (let bad : true ≡ false = sym is ∙ asked.2 in cc)
done-end false alone alone' plan net n a b x y done asked is =
    record { sent = refl; idle = by (is_idle_end (end_after plan b n)) asked.1 }
  where
    by : (idle : Bool) → AsksRing idle alone' net n x y done → idle ≡ true
    by true ring = refl
    by false ring = absurd (let bad : true ≡ false = sym is ∙ ring.1 in cc)

idle-none : (plan : BridgePlan) (n : ℕ) (list : List BridgeEntry)
    → is_idle_end (end_after plan list n) ≡ true → none_out (end_after plan list n) ≡ true
idle-none plan n list idle = (and_parts _ _ idle).1

-- a node leaves as all is done only where the end is done
ended-done : (net : NetPlan) (r : RingIs) (n : ℕ) (done budget : Bool)
    → cause_due net r n done budget ≡ Some Ended → done ≡ true
ended-done net r n done budget is =
    by (budget && is_due net r n Spent) (done && is_due net r n Ended) refl is
  where
    by : (spent ended : Bool) → (done && is_due net r n Ended) ≡ ended
        → (if spent then Some Spent else (if ended then Some Ended else None)) ≡ Some Ended
        → done ≡ true
    by true ended there e = absurd (let bad : Spent ≡ Ended = cc in cc)
    by false true there e = (and_parts done _ there).0
    by false false there e = absurd (let bad : None ≡ Some Ended = e in cc)

-- ---- a turn

module _ (alone alone' : Bool) (plan : BridgePlan) (net : NetPlan) (n : ℕ) (budget left : Bool)
    (list new_list : List BridgeEntry) (ring new_ring : List RingEntry) (sound : IsBridgePlan plan)
    (open_end : IsOpenEnd plan list n)
    (t : HoldsEndTurn alone alone' plan net n budget list new_list ring new_ring left)
    (old : EndTies n (own_bridge plan) list (own_side net) ring)
    (new : EndTies n (own_bridge plan) new_list (own_side net) new_ring)
    (k : EndKeepsOn plan net n list ring false) where
  abbrev posted : Bool
  posted = are_some t.forwards.part.noted

  timely : IsEndInTime n new_list new_ring
  timely = end-in-time alone alone' plan net n budget left list new_list ring new_ring t k.in_time

  -- up to the last entry
  went : EndWent alone alone' posted n list t.ends.asked_list ring t.ends.asked_ring
  went =
      went-then alone alone' posted n list t.given_list t.ends.asked_list ring t.given_ring
      t.ends.asked_ring
      (went-then alone alone' posted n list t.sent_list t.given_list ring t.sent_ring t.given_ring
      (went-then alone alone' posted n list t.called_list t.sent_list ring t.called_ring
      t.sent_ring
      (went-then alone alone' posted n list t.backed_list t.called_list ring t.backed_ring
      t.called_ring
      (went-then alone alone' posted n list t.served_list t.backed_list ring t.served_ring
      t.backed_ring
      (went-serves alone alone' posted n (part_at net n ring).paths _ list t.served_list ring
      t.served_ring (legal-follows net ring n old.on).node.part.comes t.serves)
      (went-backs alone alone' posted n t.served_list t.backed_list t.served_ring t.backed_ring
      t.backs.part))
      (went-forwards alone alone' n t.backed_list t.called_list t.backed_ring t.called_ring
      t.forwards.part))
      (went-sends alone alone' posted net n t.called_list t.sent_list t.called_ring t.sent_ring
      t.sends))
      (went-gives alone alone' posted n _ t.sent_list t.given_list t.sent_ring t.given_ring
      t.gives_up))
      (went-asked posted alone alone' posted plan net n t.given_list t.ends.asked_list t.given_ring
      t.ends.asked_ring t.ends.done t.ends.asked)

  own-asked : own n t.ends.asked_ring ≡ own n ring ++ went.done
  own-asked = grew-ours alone' (is_of n) ring went.done t.ends.asked_ring went.node

  abbrev cause : Option LeaveCause
  cause = cause_due net (ring_after net t.ends.asked_ring) n t.ends.done budget

  abbrev words : List ℕ
  words = words_put n t.ends.asked_ring

  -- behind a row of done Passes a turn that sends nothing on is quiet
  quiet-turn : IsBridgeHistory plan t.ends.asked_list → posted ≡ false → DoneRow (own n ring)
      → Each IsQuiet went.done
  quiet-turn legal none row =
      let out = k.none_out refl row.before row.between row.node row.words row.ends in
      let s = silent plan n list went.station.more sound open_end.end
      (subst (IsBridgeHistory plan) went.station.after_is legal) out
      (subst (Each IsNoForward) (sym went.station.ours_are) (went.adds.calm none)) in
      went.adds.quiet (subst (Each IsOfNoCall)
      went.station.ours_are s.calls)

  here-so : All IsNoDoneLeave (own n ring ++ went.done)
  here-so = here-more (own n ring) went.done went.adds.inner (k.here refl)

  quiet-so : IsBridgeHistory plan t.ends.asked_list → t.ends.done ≡ true
      → IsQuietSinceDone (own n ring ++ went.done)
  quiet-so legal is =
      quiet-more (own n ring) went.done (no-pass went.done went.adds.inner)
      (quiet-turn legal (done-end posted alone alone' plan net n t.given_list t.ends.asked_list
      t.given_ring t.ends.asked_ring t.ends.done t.ends.asked is).sent) (k.quiet refl)

  own-handed : own n t.ends.handed_ring
      ≡ (own n ring ++ went.done) ++ last_entry n t.ends.done words cause ∷ []
  own-handed =
      grew-ours alone' (is_of n) t.ends.asked_ring (last_entry n t.ends.done words cause ∷ [])
      t.ends.handed_ring t.ends.handed.grew
      ∙ ap (λ l. l ++ last_entry n t.ends.done words cause ∷ []) own-asked

  -- ---- the token went on

  passed : cause ≡ None → EndKeepsOn plan net n new_list new_ring false
  passed is = record {
    in_time = timely;
    here = λ stays. subst (All IsNoDoneLeave) (sym own-is)
        (All-push IsNoDoneLeave (own n ring ++ went.done) (Pass n t.ends.done words) here-so
        (λ m bad. absurd cc));
    quiet = λ stays. subst IsQuietSinceDone (sym own-is) (quiet-at t.ends.done refl);
    none_out = λ stays before between node said d.
        none-at t.ends.done refl (subst DoneRow own-is (record {
          before = before;
          between = between;
          node = node;
          words = said;
          ends = d;
        }));
    gone = λ bad. absurd (let no : false ≡ true = bad in cc);
  }
    where
      stood : (new_list ≡ t.ends.asked_list) × (new_ring ≡ t.ends.handed_ring)
      stood = subst (λ b. LeavesIf b alone alone' n t.ends.asked_list new_list t.ends.handed_ring
          new_ring) (t.ends.left_is ∙ ap is_some is) t.ends.leaves

      own-is : own n new_ring ≡ (own n ring ++ went.done) ++ Pass n t.ends.done words ∷ []
      own-is = ap (own n) stood.1 ∙ (own-handed
          ∙ ap (λ c. (own n ring ++ went.done) ++ last_entry n t.ends.done words c ∷ []) is)

      legal : IsBridgeHistory plan t.ends.asked_list
      legal = subst (IsBridgeHistory plan) stood.0 new.legal

      quiet-at : (done : Bool) → t.ends.done ≡ done
          → IsQuietSinceDone ((own n ring ++ went.done) ++ Pass n t.ends.done words ∷ [])
      quiet-at true says = quiet-push (own n ring ++ went.done) (Pass n t.ends.done words)
          (quiet-so legal says) (λ row. tt)
      quiet-at false says = λ before between node said d.
          absurd (no-row-now (own n ring ++ went.done) n words
          (subst (λ b. DoneRow ((own n ring ++ went.done) ++ Pass n b words ∷ [])) says
          (record {
            before = before;
            between = between;
            node = node;
            words = said;
            ends = d;
          })))

      none-at : (done : Bool) → t.ends.done ≡ done
          → DoneRow ((own n ring ++ went.done) ++ Pass n t.ends.done words ∷ [])
          → none_out (end_after plan new_list n) ≡ true
      none-at true says row = ap (λ l. none_out (end_after plan l n)) stood.0
          ∙ idle-none plan n t.ends.asked_list (done-end posted alone alone' plan net n t.given_list
          t.ends.asked_list t.given_ring t.ends.asked_ring t.ends.done t.ends.asked says).idle
      none-at false says row = absurd (no-row-now (own n ring ++ went.done) n words
          (subst (λ b. DoneRow ((own n ring ++ went.done) ++ Pass n b words ∷ [])) says row))

  -- ---- the node left

  parted : (why : LeaveCause) → cause ≡ Some why → EndKeepsOn plan net n new_list new_ring true
  parted why is = record {
    in_time = timely;
    here = λ bad. absurd (let no : true ≡ false = bad in cc);
    quiet = λ bad. absurd (let no : true ≡ false = bad in cc);
    none_out = λ bad. absurd (let no : true ≡ false = bad in cc);
    gone = λ here. record {
      bridge = ap (λ l. (end_after plan l n).gone) list-is ∙ off.gone;
      on_ring = inner-keeps net n t.ends.handed_ring gives.node.more new_ring gives.done
          gives.node.after_is
          (grew-ours alone' (is_of n) t.ends.handed_ring gives.done new_ring gives.node)
          gives.adds.inner
          (λ asks. let bad : Gone ≡ Asking = sym there ∙ asks in absurd cc) ∙ there;
      none = ap (λ l. none_out (end_after plan l n)) list-is ∙ off.none;
      quietly = subst LeavesQuietly (sym own-is)
          (leaves-now (own n ring ++ went.done) gives.done (Leave n why) here-so
          (inner-here gives.done gives.adds.inner)
          (λ m same. (quiet-so legal (said m same), quiet-behind (said m same))));
    };
  }
    where
      leaves : LeavesBridge alone alone' n t.ends.asked_list new_list t.ends.handed_ring new_ring
      leaves = subst (λ b. LeavesIf b alone alone' n t.ends.asked_list new_list t.ends.handed_ring
          new_ring) (t.ends.left_is ∙ ap is_some is) t.ends.leaves

      gives : EndWent alone alone' false n t.ends.asked_list leaves.given_list t.ends.handed_ring
          new_ring
      gives = went-gives alone alone' false n _ t.ends.asked_list leaves.given_list
          t.ends.handed_ring new_ring leaves.gives_up

      list-is : new_list ≡ (leaves.given_list ++ leaves.gone.between) ++ GoneEntry n ∷ []
      list-is = leaves.gone.after_is

      legal-given : IsBridgeHistory plan leaves.given_list
      legal-given =
          legal-front plan leaves.given_list leaves.gone.between
          (legal-front plan (leaves.given_list ++ leaves.gone.between) (GoneEntry n ∷ [])
          (subst (IsBridgeHistory plan) list-is new.legal))

      legal : IsBridgeHistory plan t.ends.asked_list
      legal = legal-front plan t.ends.asked_list gives.station.more
          (subst (IsBridgeHistory plan) gives.station.after_is legal-given)

      off : LeftAtLast plan n ((leaves.given_list ++ leaves.gone.between) ++ GoneEntry n ∷ [])
      off = left-now plan n (leaves.given_list ++ leaves.gone.between) sound open_end.end
          (subst (IsBridgeHistory plan) list-is new.legal)

      own-is : own n new_ring ≡ (own n ring ++ went.done) ++ Leave n why ∷ gives.done
      own-is = grew-ours alone' (is_of n) t.ends.handed_ring gives.done new_ring gives.node
          ∙ (ap (λ l. l ++ gives.done) (own-handed
          ∙ ap (λ c. (own n ring ++ went.done) ++ last_entry n t.ends.done words c ∷ []) is)
          ∙ append_assoc (own n ring ++ went.done) (Leave n why ∷ []) gives.done)

      -- where the end was done nothing is out, so that it gives up nothing behind its Leave
      quiet-behind : t.ends.done ≡ true → All IsQuiet gives.done
      quiet-behind is_done =
          let at_rest = done-end posted alone alone' plan net n t.given_list t.ends.asked_list
          t.given_ring t.ends.asked_ring t.ends.done t.ends.asked is_done in
          let s = silent plan n t.ends.asked_list gives.station.more sound open_end.end
          (subst (IsBridgeHistory plan) gives.station.after_is legal-given)
          (idle-none plan n t.ends.asked_list at_rest.idle)
          (subst (Each IsNoForward) (sym gives.station.ours_are) (gives.adds.calm refl)) in
          All-from_recursion IsQuiet gives.done
          (gives.adds.quiet (subst (Each IsOfNoCall) gives.station.ours_are s.calls))

      there : status_at net t.ends.handed_ring n ≡ Gone
      there = ap (λ (l : List RingEntry). status_at net l n) t.ends.handed.grew.after_is
          ∙ gone-for-good net n why t.ends.asked_ring t.ends.handed.grew.more
          (quiet-due net (ring_after net t.ends.asked_ring) n t.ends.done budget why is)
          (t.ends.handed.grew.ours_are ∙ ap (λ c. last_entry n t.ends.done words c ∷ []) is)

      said : (m : ℕ) → Leave n why ≡ Leave m Ended → t.ends.done ≡ true
      said m same =
          let all : why ≡ Ended = cc in
          ended-done net (ring_after net t.ends.asked_ring) n t.ends.done budget
          (is ∙ ap (λ c. Some c) all)

  turn-keeps : EndKeepsOn plan net n new_list new_ring left
  turn-keeps = at cause refl
    where
      at : (c : Option LeaveCause) → cause ≡ c → EndKeepsOn plan net n new_list new_ring left
      at None is = subst (EndKeepsOn plan net n new_list new_ring)
          (sym (t.ends.left_is ∙ ap is_some is)) (passed is)
      at (Some why) is = subst (EndKeepsOn plan net n new_list new_ring)
          (sym (t.ends.left_is ∙ ap is_some is)) (parted why is)

pub end-turns : EndTurnsKeepOn
end-turns alone alone' plan net n budget left list new_list ring new_ring sound open_end t old new
    k =
    turn-keeps alone alone' plan net n budget left list new_list ring new_ring sound open_end t old
    new k
