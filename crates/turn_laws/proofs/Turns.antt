-- A turn and a visit keep what a controller's lists keep.
use Rattle.std.proofs.Common.{◌≡◌, ℕ, zero, suc, ◌≤◌, ◌<◌, nat_le, Bool, true, false}
use Rattle.std.proofs.Common.{List, [], ◌∷◌, ◌++◌, filter_map, Option, Some, None, inl, inr}
use Rattle.std.proofs.Common.{refl, sym, ap, subst, ◌∙◌, arith, append_assoc, append-nil}
use Rattle.std.specs.Prelude.{not, ◌&&◌, if◌then◌else◌, is_some}
use Rattle.std.specs.List.{Contains, AllByRecursion as Each}
use Rattle.std.proofs.lemmas.Bool.{leb-true, le-leb, ltb-false, ltb-true}
use Rattle.std.proofs.lemmas.List.Elements.{Contains-append_cases}
use Rattle.plant_types.specs.declared.net.NetPlan.{NetPlan}
use Rattle.ring_core.specs.declared.entry.LeaveCause.{LeaveCause}
use Rattle.ring_core.specs.declared.entry.LeaveCause.TheVariants.{Ended, Spent, Down}
use Rattle.ring_core.specs.declared.entry.RingEntry.{RingEntry}
use Rattle.ring_core.specs.declared.entry.RingEntry.TheVariants.{Pass, Leave}
use Rattle.ring_core.specs.Machine.{ring_after}
use Rattle.ring_core.specs.Scratch.{words_put}
use Rattle.controller_core.specs.declared.entry.Entry.{Entry}
use Rattle.controller_core.specs.declared.fixed.Fixed.{Fixed}
use Rattle.controller_core.specs.Controller.{IsLegal}
use Rattle.controller_core.proofs.NextEntry.{front_legal}
use Rattle.tied_lists.specs.Calls.{IsOut}
use Rattle.tied_lists.specs.Items.{AController, Items}
use Rattle.tied_lists.specs.Items.{asked_by, ended_by}
use Rattle.tied_lists.specs.Items.{net_ask, with_fails}
use Rattle.tied_lists.specs.Items.{downs_by, last_from, latest_down}
use Rattle.tied_lists.specs.Own.{is_of, own, WentOn}
use Rattle.tied_lists.specs.Tied.{Tied}
use Rattle.tied_lists.specs.Waits.{has_left, waiting}
use Rattle.tied_lists.proofs.Growth.{grew-ours}
use Rattle.tied_lists.proofs.Paths.{waiting-push}
use Rattle.joint_history.specs.Complete.{IsOfDone, RepliesBeforePasses, StaysDone}
use Rattle.joint_history.specs.Reading.{failures_at, has_ended_at, has_started_at, is_ours}
use Rattle.joint_history.specs.Reading.{items_of}
use Rattle.joint_history.proofs.Collected.{CallLaws}
use Rattle.joint_history.proofs.Fails.{failures-are}
use Rattle.joint_history.proofs.Items.{items-same}
use Rattle.comm_port.specs.declared.turn_end.TurnEnd.{TurnEnd}
use Rattle.comm_port.specs.Failing.{ComesBack, GoesDown, IsAway, join_entries}
use Rattle.comm_port.specs.HoldTurn.{IsGivenUp, VisitsEnd, WorksTurn}
use Rattle.comm_port.specs.Leaving.{cause_due, is_due, last_entry}
use Rattle.comm_port.specs.Parts.{InOrder, calls_waiting}
use Rattle.comm_port.specs.Waiting.{id_of}
use Rattle.comm_port.specs.WholeTurn.{HoldsTurn, TurnsBy, failing_end, is_unnoticed, working_end}
use Rattle.comm_port.proofs.Asked.{BothAsked, both-asked}
use Rattle.comm_port.proofs.Downs.{latest-more, no-downs}
use Rattle.mstr_block.specs.Table.{network_paths}
use Rattle.time_laws.specs.InTime.{StaysInTime}
use Rattle.turn_laws.specs.KeepsOn.{DidAtHome, EndedNoticed, IsDone, IsGone, KeepsOn, SaidDone}
use Rattle.turn_laws.specs.KeepsOn.{StandsTied, leaves_out}
use Rattle.turn_laws.proofs.Passes.{IsInner, IsNoPass, asked-join, cancel-none}
use Rattle.turn_laws.proofs.Passes.{each-join, each-map, each-of-done, ended-join, no-pass}
use Rattle.turn_laws.proofs.Passes.{replies-pass, replies-quiet, said-more, said-push, stays-more}
use Rattle.turn_laws.proofs.Passes.{stays-push}
use Rattle.turn_laws.proofs.Rests.{RestsOn, each-ended, ended-goes, ended-none}
use Rattle.turn_laws.proofs.Rests.{rests-more}
use Rattle.turn_laws.proofs.Gone.{inner-left}
use Rattle.turn_laws.proofs.Others.{scans}
use Rattle.turn_laws.proofs.TurnParts as parts
use Rattle.turn_laws.proofs.Went.{Went, went-ask, went-gives, went-visit}
use Rattle.turn_laws.proofs.Noticed.{answers-more, IsNoDown, inner-down, inner-apart, noticed-on}
use Rattle.turn_laws.proofs.Noticed.{latest-few}
use Rattle.turn_laws.proofs.OpenCalls.{none-listed, none-open, none-waits}

clash : {C : Type 0} {b : Bool} → b ≡ true → b ≡ false → C
clash is no' = let e : true ≡ false = sym is ∙ no' in absurd cc

module _ (laws : CallLaws) (fixed : Fixed) where
  -- what keeps of the two lists
  record Kept (entries : List Entry) (b : List RingEntry) : Type 0 where
    replied : RepliesBeforePasses (items_of entries) b
    stays : StaysDone b
    said : SaidDone b → IsDone fixed entries

  -- entries behind a Pass that said done ask nothing and end nothing
  record Rested (b c : List RingEntry) : Type 0 where
    asks : asked_by c ≡ []
    ends : ended_by AController ([] ++ asked_by b) c ≡ []

  rested : (h more : List Entry) (b c : List RingEntry) → RestsOn laws fixed h (h ++ more)
      → Tied AController (items_of h) b
      → Tied AController (items_of (h ++ more)) (b ++ c) → Rested b c
  rested h more b c r old new = record {
    asks = cancel-none (asked_by b) (asked_by c)
        (old.asks ∙ ap (λ cs. filter_map net_ask cs) (sym r.calls) ∙ sym new.asks ∙ asked-join b c);
    ends = cancel-none (ended_by AController [] b) (ended_by AController ([] ++ asked_by b) c)
        (sym old.ends ∙ sym r.ends ∙ new.ends ∙ ended-join AController [] b c);
  }

  -- without a Pass
  keeps-quiet : (h more : List Entry) (b c : List RingEntry) → IsLegal fixed (h ++ more)
      → Tied AController (items_of h) b
      → Tied AController (items_of (h ++ more)) (b ++ c) → Each IsNoPass c → Kept h b
      → Kept (h ++ more) (b ++ c)
  keeps-quiet h more b c legal old new quiet k = record {
    replied = replies-quiet AController (items_of h) (items_of (h ++ more)) b c old
        (answers-more h more) quiet k.replied;
    stays = stays-more b c quiet
        (λ s. let r = rested h more b c (rests-more laws fixed h more legal (k.said s)) old new in
        each-of-done AController ([] ++ asked_by b) c quiet r.asks r.ends) k.stays;
    said = λ s. (rests-more laws fixed h more legal (k.said (said-more b c quiet s))).rest;
  }

  no-left : {X : Type 0} (xs ys : List X) → xs ++ ys ≡ [] → xs ≡ []
  no-left [] ys is = refl
  no-left (x ∷ xs) ys is = absurd cc

  -- with a Pass at the end
  keeps-pass : (h more : List Entry) (b c : List RingEntry) (n : ℕ) (done : Bool) (words : List ℕ)
      → IsLegal fixed (h ++ more)
      → Tied AController (items_of h) b → Tied AController (items_of (h ++ more))
      (b ++ (c ++ Pass n done words ∷ [])) → Each IsNoPass c
      → (IsDone fixed h → done ≡ true) → (done ≡ true → IsDone fixed (h ++ more)) → Kept h b
      → Kept (h ++ more) (b ++ (c ++ Pass n done words ∷ []))
  keeps-pass h more b c n done words legal old new quiet says is k =
      subst (Kept (h ++ more)) joins (record {
        replied = replies-pass AController (items_of (h ++ more)) (b ++ c) n done words
            (subst (Tied AController (items_of (h ++ more))) (sym joins) new)
            (replies-quiet AController (items_of h) (items_of (h ++ more)) b c old
            (answers-more h more) quiet k.replied);
        stays = stays-push (b ++ c) e (stays-more b c quiet of-c k.stays)
            (λ s. says (k.said (said-more b c quiet s)));
        said = λ s. elim (said-push (b ++ c) e s) [
          | inl before ↦
              (rests-more laws fixed h more legal (k.said (said-more b c quiet before))).rest
          | inr now ↦ is (says-true now.2)
        ];
      })
    where
      e : RingEntry
      e = Pass n done words

      joins : (b ++ c) ++ e ∷ [] ≡ b ++ (c ++ e ∷ [])
      joins = append_assoc b c (e ∷ [])

      says-true : {m : ℕ} {ws : List ℕ} → Pass n done words ≡ Pass m true ws → done ≡ true
      says-true same = cc

      of-c : SaidDone b → Each IsOfDone c
      of-c s =
          let r = rested h more b (c ++ e ∷ [])
          (rests-more laws fixed h more legal (k.said s)) old new in
          each-of-done AController ([] ++ asked_by b) c quiet
          (no-left (asked_by c) _ (sym (asked-join c (e ∷ [])) ∙ r.asks))
          (no-left (ended_by AController ([] ++ asked_by b) c) _
          (sym (ended-join AController ([] ++ asked_by b) c (e ∷ [])) ∙ r.ends))

  kept-of : (net : NetPlan) (n : ℕ) (h : List Entry) (ring : List RingEntry) (left : Bool)
      → KeepsOn fixed net n h ring left → Kept h (own n ring)
  kept-of net n h ring left k = record { replied = k.replied; stays = k.stays; said = k.said }

  -- lists that went on by entries without a Pass, and without a Leave because all is done
  pub record WentQuiet (net : NetPlan) (n : ℕ) (known new_known : List Entry)
      (ring new_ring : List RingEntry) : Type 0 where
    pub more : List Entry
    pub known_is : new_known ≡ known ++ more
    pub done : List RingEntry
    pub own_is : own n new_ring ≡ own n ring ++ done
    pub quiet : Each IsNoPass done
    pub home : DidAtHome (items_of known) → DidAtHome (items_of new_known)
    pub noticed : (m : ℕ) → Contains (own n ring ++ done) (Leave m Ended)
        → EndedNoticed fixed (known ++ more) (own n ring ++ done)

  went-keeps : (net : NetPlan) (n : ℕ) (known new_known : List Entry)
      (ring new_ring : List RingEntry) (left left' : Bool)
      → WentQuiet net n known new_known ring new_ring
      → StandsTied fixed net n known ring → StandsTied fixed net n new_known new_ring
      → KeepsOn fixed net n known ring left → StaysInTime n new_known new_ring
      → (left' ≡ true → IsGone net n new_ring)
      → KeepsOn fixed net n new_known new_ring left'
  went-keeps net n known new_known ring new_ring left left' w old new k timely gone =
      let kept : Kept new_known (own n new_ring) =
      subst (λ l. Kept l (own n new_ring)) (sym w.known_is)
      (subst (Kept (known ++ w.more)) (sym w.own_is)
      (keeps-quiet known w.more (own n ring) w.done
      (subst (IsLegal fixed) w.known_is new.legal) old.tied
      (subst (λ l. Tied AController (items_of l) (own n ring ++ w.done)) w.known_is
      (subst (Tied AController (items_of new_known)) w.own_is new.tied))
      w.quiet (kept-of net n known ring left k))) in
      record {
        replied = kept.replied;
        stays = kept.stays;
        said = kept.said;
        noticed = λ m c. subst (λ l. EndedNoticed fixed l (own n new_ring)) (sym w.known_is)
            (subst (EndedNoticed fixed (known ++ w.more)) (sym w.own_is)
            (w.noticed m (subst (λ (l : List RingEntry). Contains l (Leave m Ended)) w.own_is c)));
        at_home = w.home k.at_home;
        gone = gone;
        timely = timely;
      }

  -- where a node goes on without a Leave
  noticed-inner : (h more : List Entry) (b c : List RingEntry) → IsLegal fixed (h ++ more)
      → Each IsInner c
      → ((m : ℕ) → Contains b (Leave m Ended) → EndedNoticed fixed h b)
      → (m : ℕ) → Contains (b ++ c) (Leave m Ended) → EndedNoticed fixed (h ++ more) (b ++ c)
  noticed-inner h more b c legal inner old m is =
      elim (Contains-append_cases b c (Leave m Ended) is) [
        | inl before ↦ noticed-on fixed h more b c legal
            (each-map IsInner IsNoDown c inner-down inner)
            (old m before)
        | inr now ↦ absurd (inner-apart m c inner now)
      ]

  -- ---- turns in which no failure is unnoticed

  module _ (alone_ram alone_ring : Bool) (net : NetPlan) (n : ℕ) (budget left : Bool)
      (known new_known : List Entry)
      (ring new_ring : List RingEntry)
      (t : WorksTurn alone_ram alone_ring fixed net n budget known new_known ring new_ring left)
      (seen : failures_at fixed known ≤ latest_down (own n ring))
      (old : StandsTied fixed net n known ring) (new : StandsTied fixed net n new_known new_ring)
      (k : KeepsOn fixed net n known ring false) (timely : StaysInTime n new_known new_ring) where
    abbrev went : Went n known t.given_known ring t.given_ring
    went = parts.went fixed alone_ram alone_ring net n budget left known new_known ring new_ring t

    abbrev both : BothAsked alone_ram fixed (latest_down (own n t.given_ring))
        (calls_waiting n t.given_ring ≡ []) t.given_known t.ends.asked_known t.ends.done
    both = both-asked t.ends.asked

    abbrev asks-first : Went n known both.at_end ring t.given_ring
    asks-first = parts.asks-first fixed alone_ram alone_ring net n budget left known new_known
        ring new_ring t

    abbrev asks-all : Went n known t.ends.asked_known ring t.given_ring
    asks-all = parts.asks-all fixed alone_ram alone_ring net n budget left known new_known
        ring new_ring t

    abbrev gives : Went n t.ends.asked_known new_known t.ends.handed_ring new_ring
    gives = parts.gives fixed alone_ram alone_ring net n budget left known new_known ring new_ring t

    legal-asked : IsLegal fixed t.ends.asked_known
    legal-asked = front_legal fixed t.ends.asked_known gives.more
        (subst (IsLegal fixed) gives.known_is new.legal)

    abbrev to-new : List Entry
    to-new = asks-all.more ++ gives.more

    new-is : new_known ≡ known ++ to-new
    new-is = gives.known_is ∙ ap (λ l. l ++ gives.more) asks-all.known_is
        ∙ append_assoc known asks-all.more gives.more

    legal-all : IsLegal fixed (known ++ to-new)
    legal-all = subst (IsLegal fixed) new-is new.legal

    abbrev cause : Option LeaveCause
    cause = cause_due net (ring_after net t.given_ring) n t.ends.done budget

    abbrev e : RingEntry
    e = last_entry n t.ends.done (words_put n t.given_ring) cause

    handed : own n t.ends.handed_ring ≡ own n t.given_ring ++ e ∷ []
    handed = parts.handed fixed alone_ram alone_ring net n budget left known new_known
        ring new_ring t

    own-new : own n new_ring ≡ own n ring ++ (went.done ++ (e ∷ gives.done))
    own-new = parts.own-new fixed alone_ram alone_ring net n budget left known new_known
        ring new_ring t

    home : DidAtHome (items_of known) → DidAtHome (items_of new_known)
    home did = gives.home (asks-all.home did)

    abbrev words : List ℕ
    words = words_put n t.given_ring

    -- nothing is noted behind the questions where it is done
    none-noted : t.ends.done ≡ true → t.ends.gives_up.noted ≡ []
    none-noted is =
        let p = t.ends.gives_up in
        (subst (λ ids. InOrder IsGivenUp ids p.noted p.done) (by-left left) p.due).0
      where
        by-left : (b : Bool) → (if b then calls_waiting n t.given_ring else []) ≡ []
        by-left true = both.idle is
        by-left false = refl

    stood : t.ends.done ≡ true
        → parts.Stood fixed alone_ram alone_ring net n budget left known new_known ring new_ring t
    stood is = parts.still fixed alone_ram alone_ring net n budget left known new_known ring
        new_ring t (both.ended is) (none-noted is) new.legal

    -- no Down among the entries of the turn
    cause-down : (b d : Bool)
        → IsNoDown (last_entry n t.ends.done words (if b then Some Spent else
        (if d then Some Ended else None)))
    cause-down true d = refl
    cause-down false true = refl
    cause-down false false = refl

    no-down : Each IsNoDown (went.done ++ (e ∷ gives.done))
    no-down = each-join IsNoDown went.done (e ∷ gives.done)
        (each-map IsInner IsNoDown went.done inner-down went.quiet) (
          cause-down (budget && is_due net (ring_after net t.given_ring) n Spent)
              (t.ends.done && is_due net (ring_after net t.given_ring) n Ended),
          each-map IsInner IsNoDown gives.done inner-down gives.quiet,
        )

    latest-given : latest_down (own n t.given_ring) ≡ latest_down (own n ring)
    latest-given =
        ap latest_down went.own_is ∙ latest-more (own n ring) went.done
        ∙ ap (last_from (latest_down (own n ring)))
        (no-downs went.done (each-map IsInner IsNoDown went.done inner-down went.quiet))

    latest-same : latest_down (own n new_ring) ≡ latest_down (own n t.given_ring)
    latest-same =
        ap latest_down own-new ∙ latest-more (own n ring) (went.done ++ (e ∷ gives.done))
        ∙ ap (last_from (latest_down (own n ring)))
        (no-downs (went.done ++ (e ∷ gives.done)) no-down)
        ∙ sym latest-given

    -- done: the scans have ended, and no failure is unnoticed
    done-noticed : t.ends.done ≡ true → EndedNoticed fixed new_known (own n new_ring)
    done-noticed is =
        let s = stood is in
        let few : failures_at fixed both.at_fails ≤ latest_down (own n t.given_ring) =
        leb-true (failures_at fixed both.at_fails) (latest_down (own n t.given_ring)) (both.few is)
        in
        let here : (items_of new_known).fails ≡ failures_at fixed both.at_fails =
        sym (failures-are fixed new_known) ∙ ap (failures_at fixed) s.fails in
        let most : latest_down (own n new_ring) ≤ (items_of new_known).fails =
        latest-few new_known (own n new_ring) new.tied in
        let same = latest-same in
        record {
          ended = ap (has_ended_at fixed) s.first ∙ both.ended is;
          noticed = omega (arith, few, here, most, same);
        }

    -- it leaves because all is done only where it is done
    left-done : (m : ℕ) (b d : Bool)
        → last_entry n t.ends.done words (if b then Some Spent else
        (if t.ends.done && d then Some Ended else None)) ≡ Leave m Ended → t.ends.done ≡ true
    left-done m b d same = at b t.ends.done refl same
      where
        at : (x done : Bool) → t.ends.done ≡ done
            → last_entry n t.ends.done words (if x then Some Spent else
            (if done && d then Some Ended else None)) ≡ Leave m Ended → t.ends.done ≡ true
        at true done is same' = absurd (let no' : Spent ≡ Ended = cc in cc)
        at false true is same' = is
        at false false is same' = absurd cc

    noticed : (m : ℕ) → Contains (own n ring ++ (went.done ++ (e ∷ gives.done))) (Leave m Ended)
        → EndedNoticed fixed (known ++ to-new) (own n ring ++ (went.done ++ (e ∷ gives.done)))
    noticed m is =
        elim (Contains-append_cases (own n ring) (went.done ++ (e ∷ gives.done))
        (Leave m Ended) is) [
          | inl before ↦ noticed-on fixed known to-new (own n ring)
              (went.done ++ (e ∷ gives.done)) legal-all no-down (k.noticed m before)
          | inr now ↦ elim (Contains-append_cases went.done (e ∷ gives.done) (Leave m Ended) now) [
            | inl first ↦ absurd (inner-apart m went.done went.quiet first)
            | inr last ↦ at-last last
          ]
        ]
      where
        by-e : e ≡ Leave m Ended
            → EndedNoticed fixed (known ++ to-new) (own n ring ++ (went.done ++ (e ∷ gives.done)))
        by-e same =
            subst (λ l. EndedNoticed fixed l (own n ring ++ (went.done ++ (e ∷ gives.done)))) new-is
            (subst (EndedNoticed fixed new_known) own-new (done-noticed (left-done m
            (budget && is_due net (ring_after net t.given_ring) n Spent)
            (is_due net (ring_after net t.given_ring) n Ended) same)))

        at-last : Contains (e ∷ gives.done) (Leave m Ended)
            → EndedNoticed fixed (known ++ to-new) (own n ring ++ (went.done ++ (e ∷ gives.done)))
        at-last (zero, _, same) = by-e same
        at-last (suc j, low, same) =
            absurd (inner-apart m gives.done gives.quiet (j, omega (arith, low), same))

    -- a Leave
    leave-quiet : (why : LeaveCause) → cause ≡ Some why → IsNoPass e
    leave-quiet why is = ap (λ c. Rattle.joint_history.specs.Complete.is_pass
        (last_entry n t.ends.done (words_put n t.given_ring) c)) is

    leaves : (why : LeaveCause) → cause ≡ Some why → KeepsOn fixed net n new_known new_ring left
    leaves why is =
        went-keeps net n known new_known ring new_ring false left (record {
          more = to-new;
          known_is = new-is;
          done = went.done ++ (e ∷ gives.done);
          own_is = own-new;
          quiet = each-join IsNoPass went.done (e ∷ gives.done) (no-pass went.done went.quiet)
              (leave-quiet why is, no-pass gives.done gives.quiet);
          home = home;
          noticed = noticed;
        }) old new k timely
        (λ is_so. record {
          left = inner-left net n t.ends.handed_ring t.ends.gives_up.node.more new_ring
              gives.done t.ends.gives_up.node.after_is gives.own_is gives.quiet
              (t.ends.handed.gone why is);
          idle = t.ends.none_waits is_so;
        })

    -- a Pass
    passes : cause ≡ None → KeepsOn fixed net n new_known new_ring left
    passes is =
        let kept : Kept new_known (own n new_ring) =
        subst (λ l. Kept l (own n new_ring)) (sym new-is)
        (subst (Kept (known ++ to-new)) (sym own-pass)
        (keeps-pass known to-new (own n ring) went.done n t.ends.done words legal-all old.tied
        (subst (λ l. Tied AController (items_of l)
        (own n ring ++ (went.done ++ Pass n t.ends.done words ∷ []))) new-is
        (subst (Tied AController (items_of new_known)) own-pass new.tied))
        (no-pass went.done went.quiet) says is-done (kept-of net n known ring false k))) in
        record {
          replied = kept.replied;
          stays = kept.stays;
          said = kept.said;
          noticed = λ m c. subst (λ l. EndedNoticed fixed l (own n new_ring)) (sym new-is)
              (subst (EndedNoticed fixed (known ++ to-new)) (sym own-new)
              (noticed m (subst (λ (l : List RingEntry). Contains l (Leave m Ended)) own-new c)));
          at_home = home k.at_home;
          gone = λ is_so. clash is_so not-left;
          timely = timely;
        }
      where
        not-left : left ≡ false
        not-left = t.ends.left_is ∙ ap is_some is

        -- nothing comes behind it
        none-done : t.ends.gives_up.done ≡ []
        none-done =
            let p = t.ends.gives_up in
            (subst (λ ids. InOrder IsGivenUp ids p.noted p.done)
            (ap (λ b. if b then calls_waiting n t.given_ring else []) not-left) p.due).1

        own-given : own n new_ring ≡ own n t.given_ring ++ Pass n t.ends.done words ∷ []
        own-given =
            grew-ours alone_ring (is_of n) t.ends.handed_ring t.ends.gives_up.done new_ring
            t.ends.gives_up.node
            ∙ ap (λ l. own n t.ends.handed_ring ++ l) none-done
            ∙ append-nil (own n t.ends.handed_ring)
            ∙ handed ∙ ap (λ c. own n t.given_ring ++ last_entry n t.ends.done words c ∷ []) is

        own-pass : own n new_ring ≡ own n ring ++ (went.done ++ Pass n t.ends.done words ∷ [])
        own-pass =
            own-given ∙ ap (λ l. l ++ Pass n t.ends.done words ∷ []) went.own_is
            ∙ append_assoc (own n ring) went.done (Pass n t.ends.done words ∷ [])

        waits-as : (path : ℕ) → waiting path (own n new_ring) ≡ waiting path (own n t.given_ring)
        waits-as path = ap (waiting path) own-given
            ∙ waiting-push path (own n t.given_ring) (Pass n t.ends.done words)

        legal-fails : IsLegal fixed both.at_fails
        legal-fails = front_legal fixed both.at_fails both.third.between
            (subst (IsLegal fixed)
            (both.third.after_is ∙ append-nil (both.at_fails ++ both.third.between)) legal-asked)

        legal-first : IsLegal fixed (known ++ asks-first.more)
        legal-first = subst (IsLegal fixed) asks-first.known_is
            (front_legal fixed both.at_end both.second.between
            (subst (IsLegal fixed)
            (both.second.after_is ∙ append-nil (both.at_end ++ both.second.between)) legal-fails))

        fails-is : both.at_fails ≡ known ++ (asks-first.more ++ both.second.between)
        fails-is =
            both.second.after_is ∙ append-nil (both.at_end ++ both.second.between)
            ∙ ap (λ l. l ++ both.second.between) asks-first.known_is
            ∙ append_assoc known asks-first.more both.second.between

        few : IsDone fixed known → nat_le (failures_at fixed both.at_fails)
            (latest_down (own n t.given_ring)) ≡ true
        few done =
            let goes = ended-goes fixed known (asks-first.more ++ both.second.between)
            (subst (IsLegal fixed) fails-is legal-fails) done.ended in
            let fails : failures_at fixed both.at_fails ≡ failures_at fixed known =
            ap (failures_at fixed) fails-is
            ∙ failures-are fixed (known ++ (asks-first.more ++ both.second.between))
            ∙ goes.fails ∙ sym (failures-are fixed known) in
            let given = latest-given in
            le-leb (failures_at fixed both.at_fails) (latest_down (own n t.given_ring))
            (omega (arith, fails, given, seen))

        says : IsDone fixed known → t.ends.done ≡ true
        says done =
            let first = rests-more laws fixed known asks-first.more legal-first done in
            let all = rests-more laws fixed known asks-all.more
            (subst (IsLegal fixed) asks-all.known_is legal-asked) done in
            let last = rests-more laws fixed known to-new legal-all done in
            both.all
            (subst (λ l. has_ended_at fixed l ≡ true) (sym asks-first.known_is) first.rest.ended)
            (few done)
            (subst (λ l. has_started_at fixed l ≡ false) (sym asks-all.known_is) all.rest.collected)
            (none-listed n t.given_ring (λ path. sym (waits-as path)
            ∙ none-waits fixed net n new_known new_ring new
            (ended-none (items_of new_known)
            (subst (λ l. Rattle.joint_history.specs.Complete.EndsEachCall (items_of l))
            (sym new-is) last.rest.finished)) path))

        is-done : t.ends.done ≡ true → IsDone fixed (known ++ to-new)
        is-done is_so = subst (IsDone fixed) new-is (record {
          ended = ap (has_ended_at fixed) still.first ∙ both.ended is_so;
          collected = ap (has_started_at fixed) still.asked ∙ both.collected is_so;
          finished = each-ended laws fixed new_known new.legal
              (none-open fixed net n new_known new_ring new (home k.at_home) idle);
        })
          where
            still : parts.Stood fixed alone_ram alone_ring net n budget left known new_known ring
                new_ring t
            still = stood is_so

            idle : calls_waiting n new_ring ≡ []
            idle = (λ i. filter_map (λ path. id_of (waits-as path i)) network_paths)
                ∙ both.idle is_so

    works : KeepsOn fixed net n new_known new_ring left
    works = at cause refl
      where
        at : (c : Option LeaveCause) → cause ≡ c → KeepsOn fixed net n new_known new_ring left
        at None is = passes is
        at (Some why) is = leaves why is

  -- ---- turns in which power had failed

  not-joined : (joined : Bool) → not joined ≡ true → joined ≡ false
  not-joined true is = absurd (let no' : false ≡ true = is in cc)
  not-joined false is = refl

  join-quiet : (n : ℕ) (joined : Bool) → Each IsNoPass (join_entries n joined)
  join-quiet n true = (refl, tt)
  join-quiet n false = tt

  join-down : (n : ℕ) (joined : Bool) → Each IsNoDown (join_entries n joined)
  join-down n true = (refl, tt)
  join-down n false = tt

  join-apart : (n m : ℕ) (joined : Bool) → Contains (join_entries n joined) (Leave m Ended) → ⊥
  join-apart n m true (zero, _, same) = absurd cc
  join-apart n m true (suc k, low, same) = omega (arith, low)
  join-apart n m false is = omega (arith, is.1)

  -- a node that is away stays so, or comes back
  away-gone : (alone_ram alone_ring : Bool) (net : NetPlan) (n : ℕ) (joined : Bool)
      (known new_known : List Entry) (ring new_ring : List RingEntry) → IsAway net ring n
      → ComesBack alone_ram alone_ring fixed n known new_known ring new_ring joined
      → not joined ≡ true → IsGone net n new_ring
  away-gone alone_ram alone_ring net n joined known new_known ring new_ring away c is =
      subst (IsGone net n) (sym (c.stays (not-joined joined is)))
      (record { left = ap has_left away.away; idle = away.idle })

  pub back-keeps : (alone_ram alone_ring : Bool) (net : NetPlan) (n : ℕ) (joined : Bool)
      (known new_known : List Entry) (ring new_ring : List RingEntry)
      → ComesBack alone_ram alone_ring fixed n known new_known ring new_ring joined
      → IsAway net ring n → StandsTied fixed net n known ring
      → StandsTied fixed net n new_known new_ring → KeepsOn fixed net n known ring true
      → StaysInTime n new_known new_ring → KeepsOn fixed net n new_known new_ring (not joined)
  back-keeps alone_ram alone_ring net n joined known new_known ring new_ring c away old new k timely
      =
      let w = went-ask n alone_ram known new_known ring c.asks in
      let legal = subst (IsLegal fixed) w.known_is new.legal in
      went-keeps net n known new_known ring new_ring true (not joined) (record {
        more = w.more;
        known_is = w.known_is;
        done = join_entries n joined;
        own_is = grew-ours alone_ring (is_of n) ring (join_entries n joined) new_ring c.grew;
        quiet = join-quiet n joined;
        home = w.home;
        noticed = λ m is.
            elim (Contains-append_cases (own n ring) (join_entries n joined) (Leave m Ended) is) [
              | inl before ↦ noticed-on fixed known w.more (own n ring) (join_entries n joined)
                  legal (join-down n joined) (k.noticed m before)
              | inr now ↦ absurd (join-apart n m joined now)
            ];
      }) old new k timely
      (away-gone alone_ram alone_ring net n joined known new_known ring new_ring away c)

  downs : (alone_ram alone_ring : Bool) (net : NetPlan) (n number : ℕ) (joined : Bool)
      (known new_known : List Entry) (ring new_ring : List RingEntry)
      → GoesDown alone_ram alone_ring fixed net n number known new_known ring new_ring joined
      → latest_down (own n ring) < failures_at fixed known
      → StandsTied fixed net n known ring → StandsTied fixed net n new_known new_ring
      → KeepsOn fixed net n known ring false → StaysInTime n new_known new_ring
      → KeepsOn fixed net n new_known new_ring (not joined)
  downs alone_ram alone_ring net n number joined known new_known ring new_ring g above old new k
      timely =
      went-keeps net n known new_known ring new_ring false (not joined) (record {
        more = gives.more ++ back.more;
        known_is = back.known_is ∙ ap (λ l. l ++ back.more) gives.known_is
            ∙ append_assoc known gives.more back.more;
        done = e ∷ (gives.done ++ join_entries n joined);
        own_is =
            grew-ours alone_ring (is_of n) g.given_ring (join_entries n joined) new_ring
            g.comes.grew
            ∙ ap (λ l. l ++ join_entries n joined) (gives.own_is ∙ ap (λ l. l ++ gives.done) left)
            ∙ append_assoc (own n ring ++ e ∷ []) gives.done (join_entries n joined)
            ∙ append_assoc (own n ring) (e ∷ []) (gives.done ++ join_entries n joined);
        quiet = (
          refl,
          each-join IsNoPass gives.done (join_entries n joined)
              (no-pass gives.done gives.quiet) (join-quiet n joined),
        );
        home = λ did. back.home (gives.home did);
        noticed = λ m is. absurd (none m is);
      }) old new k timely
      (away-gone alone_ram alone_ring net n joined g.given_known new_known g.given_ring new_ring
      g.away g.comes)
    where
      e : RingEntry
      e = Leave n (Down number)

      gives : Went n known g.given_known g.left_ring g.given_ring
      gives = went-gives n alone_ram alone_ring (calls_waiting n ring) known g.given_known
          g.left_ring g.given_ring g.gives_up

      back : Went n g.given_known new_known new_ring new_ring
      back = went-ask n alone_ram g.given_known new_known new_ring g.comes.asks

      left : own n g.left_ring ≡ own n ring ++ e ∷ []
      left = grew-ours alone_ring (is_of n) ring (e ∷ []) g.left_ring g.leaves.grew

      here : (m : ℕ) → Contains (e ∷ (gives.done ++ join_entries n joined)) (Leave m Ended) → ⊥
      here m (zero, _, same) = let no' : Down number ≡ Ended = cc in cc
      here m (suc j, low, same) =
          elim (Contains-append_cases gives.done (join_entries n joined) (Leave m Ended)
          (j, omega (arith, low), same)) [
            | inl given ↦ inner-apart m gives.done gives.quiet given
            | inr now ↦ join-apart n m joined now
          ]

      none : (m : ℕ)
          → Contains (own n ring ++ e ∷ (gives.done ++ join_entries n joined)) (Leave m Ended) → ⊥
      none m is =
          elim (Contains-append_cases (own n ring) (e ∷ (gives.done ++ join_entries n joined))
          (Leave m Ended) is) [
            | inl before ↦
                let all = (k.noticed m before).noticed in
                let fails = failures-are fixed known in
                omega (arith, all, fails, above)
            | inr now ↦ here m now
          ]

  -- ---- turns as a whole

  tied-raise : (a : Items) (fails : ℕ) (b : List RingEntry) → a.fails ≤ fails
      → Tied AController a b → Tied AController (with_fails a fails) b
  tied-raise a fails b more t = record {
    asks = t.asks;
    peers = t.peers;
    port = t.port;
    replies = t.replies;
    ends = t.ends;
    downs = (
      t.downs.0,
      each-map (λ (k : ℕ). k ≤ a.fails) (λ (k : ℕ). k ≤ fails) (downs_by b)
          (λ k low. omega (arith, low, more)) t.downs.1,
    );
  }

  -- after the first question
  stands-asked : (net : NetPlan) (n : ℕ) (alone : Bool) (known asked : List Entry)
      (ring : List RingEntry) → WentOn alone is_ours known [] asked → IsLegal fixed asked
      → StandsTied fixed net n known ring → StandsTied fixed net n asked ring
  stands-asked net n alone known asked ring w legal old =
      let later = items-same alone known asked w in
      let back : with_fails (items_of known) later.fails ≡ items_of asked = sym later.items_are in
      record {
        node = old.node;
        legal = legal;
        on = old.on;
        tied = subst (λ (a : Items). Tied AController a (own n ring)) back
            (tied-raise (items_of known) later.fails (own n ring) later.more old.tied);
        waits = λ path f is. subst (λ (a : Items). IsOut a f.id) back
            (let out = old.waits path f is in
            (out.0, record { made = out.1.made; unended = out.1.unended }));
      }

  keeps-asked : (net : NetPlan) (n : ℕ) (alone : Bool) (known asked : List Entry)
      (ring : List RingEntry) (left : Bool) → WentOn alone is_ours known [] asked
      → IsLegal fixed asked → KeepsOn fixed net n known ring left
      → KeepsOn fixed net n asked ring left
  keeps-asked net n alone known asked ring left w legal k =
      let is : asked ≡ known ++ w.between = w.after_is ∙ append-nil (known ++ w.between) in
      subst (λ (l : List Entry). KeepsOn fixed net n l ring left) (sym is)
      (scans fixed net n known w.between ring left (subst (IsLegal fixed) is legal) w.others k)

  pub turn-keeps : (alone_ram alone_ring : Bool) (net : NetPlan) (n : ℕ) (budget : Bool)
      (end : TurnEnd) (known new_known : List Entry) (ring new_ring : List RingEntry)
      → HoldsTurn alone_ram alone_ring fixed net n budget known new_known ring new_ring end
      → StandsTied fixed net n known ring → StandsTied fixed net n new_known new_ring
      → KeepsOn fixed net n known ring false → StaysInTime n new_known new_ring
      → KeepsOn fixed net n new_known new_ring (leaves_out end)
  turn-keeps alone_ram alone_ring net n budget end known new_known ring new_ring t old new k timely
      =
      at (is_unnoticed fixed n t.asked ring) refl t.goes
    where
      legal : (more : List Entry) → new_known ≡ t.asked ++ more → IsLegal fixed t.asked
      legal more is = front_legal fixed t.asked more (subst (IsLegal fixed) is new.legal)

      working : (left : Bool) → leaves_out (working_end left) ≡ left
      working true = refl
      working false = refl

      failing : (joined : Bool) → leaves_out (failing_end joined) ≡ not joined
      failing true = refl
      failing false = refl

      at : (b : Bool) → is_unnoticed fixed n t.asked ring ≡ b
          → TurnsBy b alone_ram alone_ring fixed net n budget t.asked new_known ring new_ring end
          → KeepsOn fixed net n new_known new_ring (leaves_out end)
      at false seen (left, is, works_turn) =
          let all = parts.went fixed alone_ram alone_ring net n budget left t.asked new_known ring
          new_ring works_turn in
          let asks = parts.asks-all fixed alone_ram alone_ring net n budget left t.asked new_known
          ring new_ring works_turn in
          let gives = parts.gives fixed alone_ram alone_ring net n budget left t.asked new_known
          ring new_ring works_turn in
          let fits = legal (asks.more ++ gives.more)
          (gives.known_is ∙ ap (λ l. l ++ gives.more) asks.known_is
          ∙ append_assoc t.asked asks.more gives.more) in
          subst (KeepsOn fixed net n new_known new_ring) (sym (ap leaves_out is ∙ working left))
          (works alone_ram alone_ring net n budget left t.asked new_known ring new_ring works_turn
          (ltb-false (latest_down (own n ring)) (failures_at fixed t.asked) seen)
          (stands-asked net n alone_ram known t.asked ring t.asks fits old) new
          (keeps-asked net n alone_ram known t.asked ring false t.asks fits k) timely)
      at true seen (joined, is, goes) =
          let gives = went-gives n alone_ram alone_ring (calls_waiting n ring) t.asked
          goes.given_known goes.left_ring goes.given_ring goes.gives_up in
          let back = went-ask n alone_ram goes.given_known new_known new_ring goes.comes.asks in
          let fits = legal (gives.more ++ back.more)
          (back.known_is ∙ ap (λ l. l ++ back.more) gives.known_is
          ∙ append_assoc t.asked gives.more back.more) in
          subst (KeepsOn fixed net n new_known new_ring) (sym (ap leaves_out is ∙ failing joined))
          (downs alone_ram alone_ring net n (failures_at fixed t.asked) joined t.asked new_known
          ring new_ring goes
          (ltb-true (latest_down (own n ring)) (failures_at fixed t.asked) seen)
          (stands-asked net n alone_ram known t.asked ring t.asks fits old) new
          (keeps-asked net n alone_ram known t.asked ring false t.asks fits k) timely)

  -- ---- visits

  pub visit-keeps : (alone_ram alone_ring : Bool) (net : NetPlan) (n : ℕ)
      (known new_known : List Entry) (ring new_ring : List RingEntry)
      → VisitsEnd alone_ram alone_ring fixed net n known new_known ring new_ring
      → StandsTied fixed net n known ring
      → StandsTied fixed net n new_known new_ring → KeepsOn fixed net n known ring true
      → StaysInTime n new_known new_ring
      → KeepsOn fixed net n new_known new_ring true
  visit-keeps alone_ram alone_ring net n known new_known ring new_ring v old new k timely =
      let w = went-visit n alone_ram alone_ring fixed known new_known ring new_ring v.calls in
      let p = v.calls.goes.node in
      went-keeps net n known new_known ring new_ring true true (record {
        more = w.more;
        known_is = w.known_is;
        done = w.done;
        own_is = w.own_is;
        quiet = no-pass w.done w.quiet;
        home = w.home;
        noticed = noticed-inner known w.more (own n ring) w.done
            (subst (IsLegal fixed) w.known_is new.legal) w.quiet k.noticed;
      }) old new k timely
      (λ is_so. record {
        left = inner-left net n ring p.more new_ring w.done p.after_is w.own_is w.quiet
            (k.gone refl).left;
        idle = v.as_before ∙ (k.gone refl).idle;
      })
