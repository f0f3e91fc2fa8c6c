-- A turn keeps what a host's lists keep.
use Rattle.std.proofs.Common.{◌≡◌, ℕ, Bool, true, false, List, [], ◌∷◌}
use Rattle.std.proofs.Common.{◌++◌, filter_map, length, Option, Some, None, inl, inr, refl, sym, ap}
use Rattle.std.proofs.Common.{subst, ◌∙◌, append_assoc, append-nil}
use Rattle.std.specs.Prelude.{is_some}
use Rattle.std.specs.List.{AllByRecursion as Each}
use Rattle.mstr_block.specs.Table.{network_paths}
use Rattle.plant_types.specs.declared.net.HostPlan.{HostPlan}
use Rattle.plant_types.specs.declared.net.NetPlan.{NetPlan}
use Rattle.ring_core.specs.declared.entry.LeaveCause.{LeaveCause}
use Rattle.ring_core.specs.declared.entry.RingEntry.{RingEntry}
use Rattle.ring_core.specs.declared.entry.RingEntry.TheVariants.{Pass}
use Rattle.ring_core.specs.declared.status.NodeStatus.TheVariants as statuses
use Rattle.ring_core.specs.Machine.{ring_after}
use Rattle.ring_core.specs.Scratch.{words_put}
use Rattle.host_port.specs.declared.entry.HostEntry.{HostEntry}
use Rattle.host_port.specs.declared.entry.HostEntry.TheVariants.{Ask, Answer, Served}
use Rattle.host_port.specs.Calls.{requests_in}
use Rattle.host_port.specs.Host.{host_is_done}
use Rattle.host_port.specs.Legal.{IsHostHistory}
use Rattle.tied_lists.specs.Items.{AHost, Answered, Items, asked_by, ended_by, net_ask, no_items}
use Rattle.tied_lists.specs.Own.{own}
use Rattle.tied_lists.specs.Tied.{Tied}
use Rattle.tied_lists.specs.Waits.{status_at}
use Rattle.joint_history.specs.Complete.{AsksAllBeforeDone, AsksInItsHolds, IsOfDone, is_pass}
use Rattle.joint_history.specs.Complete.{RepliesBeforePasses, StaysDone}
use Rattle.comm_port.specs.Leaving.{last_entry}
use Rattle.joint_history.specs.Reading.{answered_here, host_item_next, host_items_after}
use Rattle.joint_history.specs.Reading.{host_items_of}
use Rattle.comm_port.specs.HostTurns.{HoldsHostTurn, hold_of, host_at, host_cause}
use Rattle.comm_port.proofs.Leaves.{quiet-due}
use Rattle.time_laws.specs.InTime.{HostStaysInTime}
use Rattle.time_laws.proofs.Legal.{legal-host}
use Rattle.turn_laws.specs.KeepsOn.{HostKeepsOn, HostStandsTied, SaidDone}
use Rattle.turn_laws.specs.Laws.{HostTurnsKeepOn}
use Rattle.turn_laws.proofs.Passes.{AnswersMore, IsNoPass, asked-join, cancel-none, each-join}
use Rattle.turn_laws.proofs.Passes.{each-of-done, ended-join, replies-pass, replies-quiet}
use Rattle.turn_laws.proofs.Passes.{no-pass, said-more, said-push, stays-more, stays-push}
use Rattle.turn_laws.proofs.Gone.{inner-keeps}
use Rattle.turn_laws.proofs.Parted.{gone-for-good}
use Rattle.turn_laws.proofs.HostDone.{DidAll, GoesDone, all-done, asks-many, did-all, done-more}
use Rattle.turn_laws.proofs.HostWent.{Asking, HostWent, IsNoAsk, asked-more, asked-push, holds-more}
use Rattle.turn_laws.proofs.HostWent.{gave-holds, host-gives, host-handed, host-went}

clash : {C : Type 0} {b : Bool} → b ≡ true → b ≡ false → C
clash is no' = let e : true ≡ false = sym is ∙ no' in absurd cc

-- as many Requests were posted as made
posted-many : (h : List HostEntry) (b : List RingEntry) → Tied AHost (host_items_of h) b
    → length (asked_by b) ≡ length (requests_in h)
posted-many h b t = ap length t.asks ∙ asks-many h

-- a list that goes on answers more
host-answers : (a : Items) (more : List HostEntry) → AnswersMore a (host_items_after a more)
host-answers a [] = record { more = []; is = sym (append-nil a.answers) }
host-answers a (Ask id route pdu ∷ more) =
    let rest = host-answers (host_item_next a (Ask id route pdu)) more in
    record { more = rest.more; is = rest.is }
host-answers a (Answer id result ∷ more) =
    let rest = host-answers (host_item_next a (Answer id result)) more in
    record { more = rest.more; is = rest.is }
host-answers a (Served id request reply ∷ more) =
    let rest = host-answers (host_item_next a (Served id request reply)) more in
    let answer : Answered = answered_here id request (Some reply) in
    record {
      more = answer ∷ rest.more;
      is = rest.is ∙ append_assoc a.answers (answer ∷ []) rest.more;
    }

host-joined : (a : Items) (h more : List HostEntry)
    → host_items_after a (h ++ more) ≡ host_items_after (host_items_after a h) more
host-joined a [] more = refl
host-joined a (e ∷ h) more = host-joined (host_item_next a e) h more

answers-more : (h more : List HostEntry) → AnswersMore (host_items_of h) (host_items_of (h ++ more))
answers-more h more = subst (AnswersMore (host_items_of h)) (sym (host-joined no_items h more))
    (host-answers (host_items_of h) more)

-- entries behind a Pass that said done ask nothing and end nothing
record Rested (b c : List RingEntry) : Type 0 where
  asks : asked_by c ≡ []
  ends : ended_by AHost ([] ++ asked_by b) c ≡ []

rested : (plan : HostPlan) (h more : List HostEntry) (b c : List RingEntry)
    → GoesDone plan h (h ++ more) → Tied AHost (host_items_of h) b
    → Tied AHost (host_items_of (h ++ more)) (b ++ c) → Rested b c
rested plan h more b c r old new = record {
  asks = cancel-none (asked_by b) (asked_by c)
      (old.asks ∙ ap (λ cs. filter_map net_ask cs) (sym r.calls) ∙ sym new.asks ∙ asked-join b c);
  ends = cancel-none (ended_by AHost [] b) (ended_by AHost ([] ++ asked_by b) c)
      (sym old.ends ∙ sym r.ends ∙ new.ends ∙ ended-join AHost [] b c);
}

no-left : {X : Type 0} (xs ys : List X) → xs ++ ys ≡ [] → xs ≡ []
no-left [] ys is = refl
no-left (x ∷ xs) ys is = absurd cc

module _ (plan : HostPlan) where
  -- what keeps of the two lists
  record Kept (h : List HostEntry) (b : List RingEntry) : Type 0 where
    replied : RepliesBeforePasses (host_items_of h) b
    stays : StaysDone b
    said : SaidDone b → DidAll plan h
    asked : AsksAllBeforeDone plan b

  keeps-quiet : (h more : List HostEntry) (b c : List RingEntry) → IsHostHistory plan (h ++ more)
      → Tied AHost (host_items_of h) b
      → Tied AHost (host_items_of (h ++ more)) (b ++ c) → Each IsNoPass c → Kept h b
      → Kept (h ++ more) (b ++ c)
  keeps-quiet h more b c legal old new quiet k = record {
    replied = replies-quiet AHost (host_items_of h) (host_items_of (h ++ more)) b c old
        (answers-more h more) quiet k.replied;
    stays = stays-more b c quiet
        (λ s. let r = rested plan h more b c (done-more plan h more legal (k.said s)) old new in
        each-of-done AHost ([] ++ asked_by b) c quiet r.asks r.ends) k.stays;
    said = λ s. (done-more plan h more legal (k.said (said-more b c quiet s))).done;
    asked = asked-more plan b c quiet k.asked;
  }

  keeps-pass : (h more : List HostEntry) (b c : List RingEntry) (n : ℕ) (done : Bool)
      (words : List ℕ) → IsHostHistory plan (h ++ more)
      → Tied AHost (host_items_of h) b → Tied AHost (host_items_of (h ++ more))
      (b ++ (c ++ Pass n done words ∷ [])) → Each IsNoPass c
      → done ≡ host_is_done (host_at plan (h ++ more)) → Kept h b
      → Kept (h ++ more) (b ++ (c ++ Pass n done words ∷ []))
  keeps-pass h more b c n done words legal old new quiet says k =
      subst (Kept (h ++ more)) joins (record {
        replied = replies-pass AHost (host_items_of (h ++ more)) (b ++ c) n done words whole
            (replies-quiet AHost (host_items_of h) (host_items_of (h ++ more)) b c old
            (answers-more h more) quiet k.replied);
        stays = stays-push (b ++ c) e (stays-more b c quiet of-c k.stays)
            (λ s. says ∙ all-done plan (h ++ more)
            (done-more plan h more legal (k.said (said-more b c quiet s))).done);
        said = λ s. elim (said-push (b ++ c) e s) [
          | inl before ↦ (done-more plan h more legal (k.said (said-more b c quiet before))).done
          | inr now ↦ did-all plan (h ++ more) (sym says ∙ says-true now.2)
        ];
        asked = asked-push plan (b ++ c) e (asked-more plan b c quiet k.asked)
            (λ m ws same. posted ∙ (did-all plan (h ++ more) (sym says ∙ says-true same)).asked);
      })
    where
      e : RingEntry
      e = Pass n done words

      joins : (b ++ c) ++ e ∷ [] ≡ b ++ (c ++ e ∷ [])
      joins = append_assoc b c (e ∷ [])

      whole : Tied AHost (host_items_of (h ++ more)) ((b ++ c) ++ e ∷ [])
      whole = subst (Tied AHost (host_items_of (h ++ more))) (sym joins) new

      posted : length (asked_by (b ++ c)) ≡ length (requests_in (h ++ more))
      posted =
          sym (ap length (asked-join (b ++ c) (e ∷ []) ∙ append-nil (asked_by (b ++ c))))
          ∙ posted-many (h ++ more) ((b ++ c) ++ e ∷ []) whole

      says-true : {m : ℕ} {ws : List ℕ} → Pass n done words ≡ Pass m true ws → done ≡ true
      says-true same = cc

      of-c : SaidDone b → Each IsOfDone c
      of-c s =
          let r = rested plan h more b (c ++ e ∷ [])
          (done-more plan h more legal (k.said s)) old new in
          each-of-done AHost ([] ++ asked_by b) c quiet
          (no-left (asked_by c) _ (sym (asked-join c (e ∷ [])) ∙ r.asks))
          (no-left (ended_by AHost ([] ++ asked_by b) c) _
          (sym (ended-join AHost ([] ++ asked_by b) c (e ∷ [])) ∙ r.ends))

  kept-of : (net : NetPlan) (h : List HostEntry) (ring : List RingEntry) (left : Bool)
      → HostKeepsOn plan net h ring left → Kept h (own plan.node ring)
  kept-of net h ring left k =
      record {
        replied = k.replied;
        stays = k.stays;
        said = λ s. did-all plan h (k.said s);
        asked = k.asked;
      }

  module _ (alone : Bool) (net : NetPlan) (budget left : Bool) (list new_list : List HostEntry)
      (ring new_ring : List RingEntry)
      (t : HoldsHostTurn alone net plan.node plan budget list new_list ring new_ring left)
      (old : HostStandsTied plan net list ring)
      (new : HostStandsTied plan net new_list new_ring) (k : HostKeepsOn plan net list ring false)
      (timely : HostStaysInTime plan.node new_list new_ring) where
    abbrev n : ℕ
    n = plan.node

    abbrev hold : ℕ
    hold = hold_of n ring

    went : HostWent plan n hold list t.given_list ring t.given_ring
    went = host-went plan alone net n budget left list new_list ring new_ring t

    asking : Asking plan hold t.given_list (own n t.given_ring)
    asking = went.asking
        (record { agree = posted-many list (own n ring) old.tied; holds = k.holds; passes = refl })

    abbrev cause : Option LeaveCause
    cause = host_cause net n plan budget t.given_list t.given_ring

    abbrev done : Bool
    done = host_is_done (host_at plan t.given_list)

    abbrev words : List ℕ
    words = words_put n t.given_ring

    abbrev e : RingEntry
    e = last_entry n done words cause

    handed : own n t.ends.handed_ring ≡ own n t.given_ring ++ e ∷ []
    handed = host-handed plan alone net n budget left list new_list ring new_ring t

    no-asks : (c : Option LeaveCause) → IsNoAsk (last_entry n done words c)
    no-asks None = refl
    no-asks (Some why) = refl

    handed-holds : AsksInItsHolds plan (own n t.ends.handed_ring)
    handed-holds = subst (AsksInItsHolds plan) (sym handed)
        (holds-more plan (own n t.given_ring) (e ∷ []) (no-asks cause, tt) asking.holds)

    -- a Leave
    leaves : (why : LeaveCause) → cause ≡ Some why → HostKeepsOn plan net new_list new_ring left
    leaves why is = result
      where
        is_so : left ≡ true
        is_so = t.ends.left_is ∙ ap is_some is

        gives : HostWent plan n hold t.given_list new_list t.ends.handed_ring new_ring
        gives = host-gives plan hold alone net n network_paths t.given_list new_list
            t.ends.handed_ring new_ring (t.ends.gives_up is_so)

        c : List RingEntry
        c = went.done ++ (e ∷ gives.done)

        to-new : List HostEntry
        to-new = went.more ++ gives.more

        new-is : new_list ≡ list ++ to-new
        new-is = gives.list_is ∙ ap (λ l. l ++ gives.more) went.list_is
            ∙ append_assoc list went.more gives.more

        own-new : own n new_ring ≡ own n ring ++ c
        own-new =
            gives.own_is ∙ ap (λ l. l ++ gives.done) (handed ∙ ap (λ l. l ++ e ∷ []) went.own_is)
            ∙ append_assoc (own n ring ++ went.done) (e ∷ []) gives.done
            ∙ append_assoc (own n ring) went.done (e ∷ gives.done)

        quiet : Each IsNoPass c
        quiet = each-join IsNoPass went.done (e ∷ gives.done) (no-pass went.done went.quiet)
            (ap (λ o. is_pass (last_entry n done words o)) is, no-pass gives.done gives.quiet)

        kept : Kept new_list (own n new_ring)
        kept = subst (λ l. Kept l (own n new_ring)) (sym new-is)
            (subst (Kept (list ++ to-new)) (sym own-new)
            (keeps-quiet list to-new (own n ring) c
            (subst (IsHostHistory plan) new-is new.legal) old.tied
            (subst (λ l. Tied AHost (host_items_of l) (own n ring ++ c)) new-is
            (subst (Tied AHost (host_items_of new_list)) own-new new.tied))
            quiet (kept-of net list ring false k)))

        parted : status_at net t.ends.handed_ring n ≡ statuses.Gone
        parted = ap (λ l. status_at net l n) t.ends.handed.grew.after_is
            ∙ gone-for-good net n why t.given_ring t.ends.handed.grew.more
            (quiet-due net (ring_after net t.given_ring) n done budget why is)
            (t.ends.handed.grew.ours_are ∙ ap (λ o. last_entry n done words o ∷ []) is)

        result : HostKeepsOn plan net new_list new_ring left
        result = record {
          replied = kept.replied;
          stays = kept.stays;
          said = λ s. all-done plan new_list (kept.said s);
          holds = gave-holds plan alone net n network_paths t.given_list new_list t.ends.handed_ring
              new_ring (t.ends.gives_up is_so) handed-holds;
          asked = kept.asked;
          gone = λ is'. record {
            gone = inner-keeps net n t.ends.handed_ring (t.ends.gives_up is_so).grew.more new_ring
                gives.done (t.ends.gives_up is_so).grew.after_is gives.own_is gives.quiet
                (λ asks. let no' : statuses.Gone ≡ statuses.Asking = sym parted ∙ asks in absurd cc)
                ∙ parted;
            answered = t.ends.answered is';
          };
          timely = timely;
        }

    -- a Pass
    passes : cause ≡ None → HostKeepsOn plan net new_list new_ring left
    passes is = result
      where
        not-left : left ≡ false
        not-left = t.ends.left_is ∙ ap is_some is

        list-is : new_list ≡ list ++ went.more
        list-is = (t.ends.ends_there not-left).1 ∙ went.list_is

        given-is : list ++ went.more ≡ t.given_list
        given-is = sym went.list_is

        own-new : own n new_ring ≡ own n ring ++ (went.done ++ Pass n done words ∷ [])
        own-new =
            ap (own n) (t.ends.ends_there not-left).0 ∙ handed
            ∙ ap (λ o. own n t.given_ring ++ last_entry n done words o ∷ []) is
            ∙ ap (λ l. l ++ Pass n done words ∷ []) went.own_is
            ∙ append_assoc (own n ring) went.done (Pass n done words ∷ [])

        kept : Kept new_list (own n new_ring)
        kept = subst (λ l. Kept l (own n new_ring)) (sym list-is)
            (subst (Kept (list ++ went.more)) (sym own-new)
            (keeps-pass list went.more (own n ring) went.done n done words
            (subst (IsHostHistory plan) list-is new.legal) old.tied
            (subst (λ l. Tied AHost (host_items_of l)
            (own n ring ++ (went.done ++ Pass n done words ∷ []))) list-is
            (subst (Tied AHost (host_items_of new_list)) own-new new.tied))
            (no-pass went.done went.quiet) (ap (λ l. host_is_done (host_at plan l)) (sym given-is))
            (kept-of net list ring false k)))

        result : HostKeepsOn plan net new_list new_ring left
        result = record {
          replied = kept.replied;
          stays = kept.stays;
          said = λ s. all-done plan new_list (kept.said s);
          holds = subst (λ l. AsksInItsHolds plan (own n l))
              (sym (t.ends.ends_there not-left).0) handed-holds;
          asked = kept.asked;
          gone = λ is_so. clash is_so not-left;
          timely = timely;
        }

    host-turn-keeps : HostKeepsOn plan net new_list new_ring left
    host-turn-keeps = at cause refl
      where
        at : (c : Option LeaveCause) → cause ≡ c → HostKeepsOn plan net new_list new_ring left
        at None is = passes is
        at (Some why) is = leaves why is

pub host-turns-keep : HostTurnsKeepOn
host-turns-keep alone net plan budget left list new_list ring new_ring t old new k =
    host-turn-keeps plan alone net budget left list new_list ring new_ring t old new k
    (legal-host alone net plan.node plan budget left list new_list ring new_ring old.on t k.timely)
