-- A hold of the token by a controller, and a visit, make one thing.
use Rattle.std.proofs.Common.{◌≡◌, ◌≢◌, ℕ, ◌≤◌, nat_le, not, Bool, true, false, List, []}
use Rattle.std.proofs.Common.{◌∷◌, ◌++◌, Option, Some, None, refl, sym, ap, subst, ◌∙◌}
use Rattle.std.proofs.Common.{arith, append-nil}
use Rattle.std.specs.Prelude.{if◌then◌else◌, is_some}
use Rattle.std.specs.List.{AllByRecursion as Each}
use Rattle.std.proofs.lemmas.Bool.{eqb-true}
use Rattle.plant_types.specs.declared.net.NetPlan.{NetPlan}
use Rattle.mstr_block.specs.declared.call.CallId.{CallId}
use Rattle.controller_core.specs.declared.call.Call.{Call}
use Rattle.controller_core.specs.declared.call.CallKind.{CallKind}
use Rattle.controller_core.specs.declared.call.CallKind.TheVariants as kinds
use Rattle.controller_core.specs.declared.entry.Entry.{Entry}
use Rattle.controller_core.specs.declared.fixed.Fixed.{Fixed}
use Rattle.ring_core.specs.declared.frame.FrameKind.{FrameKind}
use Rattle.ring_core.specs.declared.frame.FrameKind.TheVariants.{Request, Reply}
use Rattle.ring_core.specs.declared.frame.Frame.{Frame}
use Rattle.ring_core.specs.declared.entry.LeaveCause.{LeaveCause}
use Rattle.ring_core.specs.declared.entry.RingEntry.{RingEntry}
use Rattle.ring_core.specs.declared.entry.RingEntry.TheVariants.{Post, Send, Take, Local, GiveUp}
use Rattle.ring_core.specs.declared.entry.LeaveCause.TheVariants.{Down}
use Rattle.ring_core.specs.declared.entry.RingEntry.TheVariants.{Pass, Leave, Join}
use Rattle.ring_core.specs.Machine.{ring_after}
use Rattle.ring_core.specs.Scratch.{words_put}
use Rattle.ring_core.specs.Statistics.{is_for_stats}
use Rattle.tied_lists.specs.Items.{latest_down}
use Rattle.tied_lists.specs.Own.{is_of, own}
use Rattle.comm_port.specs.Giving.{part_at}
use Rattle.comm_port.specs.HoldTurn.{Collects, CollectsIf, EndedAs, EndsHoldTurn}
use Rattle.comm_port.specs.HoldTurn.{IsEnded, IsGivenUp, IsMade, IsServed, MadeAs}
use Rattle.comm_port.specs.Failing.{GoesDown, join_entries}
use Rattle.comm_port.specs.HoldTurn.{SendsAll, ServedAs, VisitsEnd, WorksTurn, inbox_of}
use Rattle.comm_port.specs.HoldTurn.{overdue, reply_entries}
use Rattle.comm_port.specs.Leaving.{cause_due, last_entry}
use Rattle.comm_port.specs.Parts.{InOrder, PartOf, calls_waiting}
use Rattle.comm_port.proofs.Asked.{both-asked}
use Rattle.comm_port.specs.WholeTurn.{HoldsTurn, TurnsBy, failing_end, is_unnoticed, working_end}
use Rattle.comm_port.specs.declared.turn_end.TurnEnd.{TurnEnd}
use Rattle.joint_history.specs.Reading.{failures_at, has_ended_at, has_started_at, is_off_at}
use Rattle.joint_history.specs.Reading.{is_ours}
use Rattle.joint_history.proofs.Collected.{CallLaws}
use Rattle.serial_run.proofs.TurnLaws.{each-join}
use Rattle.one_run.proofs.Dues.{one-ended, one-given, one-made, one-served}
use Rattle.one_run.proofs.Fails.{HasFailedOn, IsNoSend, no-more-fail}
use Rattle.one_run.proofs.Meets.{Behind, IsMine, May, behind-more, closings, endings}
use Rattle.one_run.proofs.Meets.{grew-is, grew-ours}
use Rattle.one_run.proofs.Parts.{Goes, Same, collects-goes, collects-same, goes-then}
use Rattle.one_run.proofs.Parts.{may-goes, order-same, part-goes, part-same}
use Rattle.one_run.proofs.Parts.{sends-goes, sent-same, went-is}

-- a fact of two lists, at equal ones
pub move : (P : List Entry → List RingEntry → Type 0) (k k' : List Entry) (r r' : List RingEntry)
    → k ≡ k' → r ≡ r' → P k r → P k' r'
move P k k' r r' p q it = subst (λ l. P l r') p (subst (λ l. P k l) q it)

-- what holds of everything holds of each item
each-all : {X : Type 0} (P : X → Type 0) → ((x : X) → P x) → (xs : List X) → Each P xs
each-all P all [] = tt
each-all P all (x ∷ xs) = (all x, each-all P all xs)

-- ---- no Send, so that no call fails

abbrev pub NoneFails : NetPlan → ℕ → List RingEntry → Type 0
NoneFails net n ring = (p : ℕ) → HasFailedOn (part_at net n ring) p → ⊥

-- where no call of a node has failed, none has behind entries that are no Sends of the node
pub none-behind : (net : NetPlan) (n : ℕ) (x more y : List RingEntry) → y ≡ x ++ more
    → Each (IsNoSend n) more → NoneFails net n x → NoneFails net n y
none-behind net n x more y is quiet none p f =
    none p (no-more-fail net x more n p quiet (subst (λ l. HasFailedOn (part_at net n l) p) is f))

-- entries of one node are no Sends of another
pub quiet-others : (m n : ℕ) → m ≢ n → (es : List RingEntry) → Each (IsMine n) es
    → Each (IsNoSend m) es
quiet-others m n other [] mine = tt
quiet-others m n other (e ∷ es) mine = (at e mine.0, quiet-others m n other es mine.1)
  where
    at : (x : RingEntry) → IsMine n x → IsNoSend m x
    at (Send k heard) mine' = λ same. other (sym same ∙ eqb-true k n mine')
    at (Post k f) mine' = tt
    at (Take k f) mine' = tt
    at (Local k id op result) mine' = tt
    at (GiveUp id word) mine' = tt
    at (Pass k done words) mine' = tt
    at (Leave k cause) mine' = tt
    at (Join k) mine' = tt

-- what is due has no Send of the node
abbrev IsQuiet : {X : Type 0} → ℕ → (X → List Entry → List RingEntry → Type 0) → Type 0
IsQuiet {X} n Due = (x : X) (noted : List Entry) (done : List RingEntry) → Due x noted done
    → Each (IsNoSend n) done

-- nor has what is due one after another
quiet-order : {X : Type 0} (n : ℕ) (Due : X → List Entry → List RingEntry → Type 0) → IsQuiet n Due
    → (xs : List X) (noted : List Entry) (done : List RingEntry)
    → InOrder Due xs noted done → Each (IsNoSend n) done
quiet-order n Due quiet [] noted done a = subst (Each (IsNoSend n)) (sym a.1) tt
quiet-order n Due quiet (x ∷ xs) noted done a =
    subst (Each (IsNoSend n)) (sym a.5)
    (each-join (IsNoSend n) a.2 a.3 (quiet x a.0 a.2 a.6) (quiet-order n Due quiet xs a.1 a.3 a.7))

-- a frame that is served is no Send
quiet-served : (n : ℕ) → IsQuiet n (IsServed n)
quiet-served n f noted done u = at f.kind (is_for_stats f) u
  where
    replied : (reply : Option (List ℕ)) → Each (IsNoSend n) (reply_entries n f.id reply)
    replied None = tt
    replied (Some reply) = (tt, tt)

    at : (kind : FrameKind) (stats : Bool) → ServedAs kind stats n f noted done
        → Each (IsNoSend n) done
    at Reply stats a = subst (Each (IsNoSend n)) (sym a.2) (tt, tt)
    at Request true a = subst (Each (IsNoSend n)) (sym a.4) (tt, (tt, (tt, tt)))
    at Request false a = subst (Each (IsNoSend n)) (sym a.2) (tt, replied a.0)

-- nor is a call that is made
quiet-made : (n : ℕ) → IsQuiet n (IsMade n)
quiet-made n call noted done u = at call.kind u
  where
    at : (kind : CallKind) → MadeAs kind n call.id noted done → Each (IsNoSend n) done
    at (kinds.Net route pdu) a = subst (Each (IsNoSend n)) (sym a.1) (tt, tt)
    at (kinds.Local op) a = subst (Each (IsNoSend n)) (sym a.2) (tt, tt)

-- nor one that is ended at once
quiet-ended : (n : ℕ) → IsQuiet n (IsEnded n)
quiet-ended n call noted done u = at call.kind u
  where
    at : (kind : CallKind) → EndedAs kind n call.id noted done → Each (IsNoSend n) done
    at (kinds.Net route pdu) a = subst (Each (IsNoSend n)) (sym a.2) (tt, (tt, tt))
    at (kinds.Local op) a = subst (Each (IsNoSend n)) (sym a.2) (tt, tt)

-- nor one that is given up
quiet-given : (n : ℕ) → IsQuiet n IsGivenUp
quiet-given n id noted done a = subst (Each (IsNoSend n)) (sym a.2) (tt, tt)

-- nor is what a node comes back by
pub quiet-join : (m n : ℕ) (joined : Bool) → Each (IsNoSend m) (join_entries n joined)
quiet-join m n true = (tt, tt)
quiet-join m n false = tt

-- nor are calls that are collected
quiet-collects : (n : ℕ) (Due : Call → List Entry → List RingEntry → Type 0) → IsQuiet n Due
    → (b : Bool) (noted : List Entry) (done : List RingEntry)
    → CollectsIf b Due noted done → Each (IsNoSend n) done
quiet-collects n Due quiet false noted done a = subst (Each (IsNoSend n)) (sym a.1) tt
quiet-collects n Due quiet true noted done a = quiet-order n Due quiet a.0 a.1 done a.3

-- nor is the last entry of a turn
quiet-last : (n : ℕ) (done : Bool) (words : List ℕ) (cause : Option LeaveCause)
    → IsNoSend n (last_entry n done words cause)
quiet-last n done words None = tt
quiet-last n done words (Some why) = tt

-- ---- the end of a turn

-- two answers are one where each is yes if the other is
same-if : (one two : Bool) → (one ≡ true → two ≡ true) → (two ≡ true → one ≡ true) → one ≡ two
same-if true two f g = sym (f refl)
same-if false true f g = g refl
same-if false false f g = refl

module _ (fixed : Fixed) (net : NetPlan) (n : ℕ) (budget : Bool) where
  abbrev End : List Entry → List Entry → List RingEntry → List RingEntry → Bool → Type 0
  End a b x y left = EndsHoldTurn true true fixed net n budget a b x y left

  -- a question adds nothing
  asked-is : (a b : List Entry) (x y : List RingEntry) (left : Bool) (e : End a b x y left)
      → (both-asked e.asked).at_end ≡ a
  asked-is a b x y left e = went-is is_ours a (both-asked e.asked).at_end (both-asked e.asked).first

  -- nor do two
  then-is : (a b : List Entry) (x y : List RingEntry) (left : Bool) (e : End a b x y left)
      → e.asked_known ≡ a
  then-is a b x y left e = went-is is_ours (both-asked e.asked).at_end e.asked_known
      (both-asked e.asked).then_on ∙ asked-is a b x y left e

  -- nor does the one between
  fails-is : (a b : List Entry) (x y : List RingEntry) (left : Bool) (e : End a b x y left)
      → (both-asked e.asked).at_fails ≡ a
  fails-is a b x y left e = went-is is_ours (both-asked e.asked).at_end
      (both-asked e.asked).at_fails (both-asked e.asked).second ∙ asked-is a b x y left e

  -- a controller is done in one turn if it is in the other
  done-if : (a b b' : List Entry) (x y y' : List RingEntry) (left left' : Bool)
      (e : End a b x y left) (e' : End a b' x y' left') → e.done ≡ true → e'.done ≡ true
  done-if a b b' x y y' left left' e e' is =
      (both-asked e'.asked).all
      (ap (has_ended_at fixed) (asked-is a b' x y' left' e' ∙ sym (asked-is a b x y left e))
      ∙ (both-asked e.asked).ended is)
      (ap (λ (l : List Entry). nat_le (failures_at fixed l) (latest_down (own n x)))
      (fails-is a b' x y' left' e' ∙ sym (fails-is a b x y left e))
      ∙ (both-asked e.asked).few is)
      (ap (has_started_at fixed) (then-is a b' x y' left' e' ∙ sym (then-is a b x y left e))
      ∙ (both-asked e.asked).collected is)
      ((both-asked e.asked).idle is)

  -- the last entry of a turn
  abbrev last : List RingEntry → Bool → RingEntry
  last x done = last_entry n done (words_put n x) (cause_due net (ring_after net x) n done budget)

  -- the ring goes on by it
  handed-is : (a b : List Entry) (x y : List RingEntry) (left : Bool) (e : End a b x y left)
      → e.handed_ring ≡ x ++ last x e.done ∷ []
  handed-is a b x y left e = grew-is (is_of n) x (last x e.done ∷ []) e.handed_ring e.handed.grew

  -- the end of a turn adds to both lists
  pub ends-goes : (a b : List Entry) (x y : List RingEntry) (left : Bool) → End a b x y left
      → Goes n a b x y
  ends-goes a b x y left e = goes-then n a e.asked_known b x e.handed_ring y
      (record {
        noted = [];
        known_is = then-is a b x y left e ∙ sym (append-nil a);
        done = last x e.done ∷ [];
        ring_is = handed-is a b x y left e;
        mine = grew-ours (is_of n) x (last x e.done ∷ []) e.handed_ring e.handed.grew;
      })
      (part-goes n _ e.asked_known b e.handed_ring y e.gives_up)

  -- no call of the node fails at it
  pub ends-none : (a b : List Entry) (x y : List RingEntry) (left : Bool) → End a b x y left
      → NoneFails net n x → NoneFails net n y
  ends-none a b x y left e none =
      none-behind net n e.handed_ring e.gives_up.done y
      (grew-is (is_of n) e.handed_ring e.gives_up.done y e.gives_up.node)
      (quiet-order n IsGivenUp (quiet-given n) _ e.gives_up.noted e.gives_up.done e.gives_up.due)
      (none-behind net n x (last x e.done ∷ []) e.handed_ring (handed-is a b x y left e)
      (quiet-last n e.done _ _, tt) none)

  -- it makes one thing
  pub ends-same : (a b b' : List Entry) (x y y' : List RingEntry) (left left' : Bool) → Behind n a x
      → End a b x y left → May fixed net n b y → End a b' x y' left'
      → May fixed net n b' y' → Same n b b' y y' × (left ≡ left')
  ends-same a b b' x y y' left left' behind e m e' m' = (
    part-same fixed net n (Given left)
        (order-same fixed net n (λ (id : CallId). Unit {0}) IsGivenUp (one-given fixed net n)
        (ids left) (each-all (λ (id : CallId). Unit {0}) (λ id. tt) (ids left)))
        a b b' (x ++ last x e.done ∷ []) y y' passed
        (move (λ k r. PartOf true true is_ours n (Given left) k b r y) _ _ _ _
        (then-is a b x y left e) (handed-is a b x y left e) e.gives_up) m
        (move (λ k r. PartOf true true is_ours n (Given left) k b' r y') _ _ _ _
        (then-is a b' x y' left' e')
        (handed-is a b' x y' left' e' ∙ ap (λ d. x ++ last x d ∷ []) (sym done))
        (subst (λ l. PartOf true true is_ours n (Given l) e'.asked_known b' e'.handed_ring y')
        (sym same-left) e'.gives_up)) m',
    same-left,
  )
    where
      ids : Bool → List CallId
      ids l = if l then calls_waiting n x else []

      Given : Bool → List Entry → List RingEntry → Type 0
      Given l = InOrder IsGivenUp (if l then calls_waiting n x else [])

      done : e.done ≡ e'.done
      done = same-if e.done e'.done (done-if a b b' x y y' left left' e e')
          (done-if a b' b x y' y left' left e' e)

      same-left : left ≡ left'
      same-left = e.left_is ∙ ap (λ d. is_some (cause_due net (ring_after net x) n d budget)) done
          ∙ sym e'.left_is

      passed : Behind n a (x ++ last x e.done ∷ [])
      passed = subst (λ k. Behind n k (x ++ last x e.done ∷ [])) (append-nil a)
          (behind-more n a [] x (last x e.done ∷ []) behind
          (let z : endings [] ≤ closings (own n (last x e.done ∷ [])) = omega arith in z))

-- ---- a turn in which no failure is unnoticed

module _ (laws : CallLaws) (fixed : Fixed) (net : NetPlan) (n : ℕ) (node : fixed.plan.node ≡ n)
    (budget : Bool) where
  module _ (left : Bool) (a b : List Entry) (x y : List RingEntry)
      (t : WorksTurn true true fixed net n budget a b x y left) where
    -- each part adds to both lists
    pub serves-goes : Goes n a t.served_known x t.served_ring
    serves-goes = part-goes n _ a t.served_known x t.served_ring t.serves

    pub calls-goes : Goes n t.served_known t.called_known t.served_ring t.called_ring
    calls-goes = collects-goes fixed n (IsMade n) t.served_known t.called_known t.served_ring
        t.called_ring t.calls

    pub sending-goes : Goes n t.called_known t.sent_known t.called_ring t.sent_ring
    sending-goes = sends-goes net n t.called_known t.sent_known t.called_ring t.sent_ring t.sends

    pub gives-goes : Goes n t.sent_known t.given_known t.sent_ring t.given_ring
    gives-goes = part-goes n _ t.sent_known t.given_known t.sent_ring t.given_ring t.gives_up

    pub ending-goes : Goes n t.given_known b t.given_ring y
    ending-goes = ends-goes fixed net n budget t.given_known b t.given_ring y left t.ends

    -- the turn adds to both lists
    works-goes : Goes n a b x y
    works-goes =
        goes-then n a t.served_known b x t.served_ring y serves-goes
        (goes-then n t.served_known t.called_known b t.served_ring t.called_ring y calls-goes
        (goes-then n t.called_known t.sent_known b t.called_ring t.sent_ring y sending-goes
        (goes-then n t.sent_known t.given_known b t.sent_ring t.given_ring y gives-goes
        ending-goes)))

    -- no call of the node has failed behind it
    works-none : NoneFails net n y
    works-none =
        ends-none fixed net n budget t.given_known b t.given_ring y left t.ends
        (none-behind net n t.sent_ring t.gives_up.done t.given_ring
        (grew-is (is_of n) t.sent_ring t.gives_up.done t.given_ring t.gives_up.node)
        (quiet-order n IsGivenUp (quiet-given n) _ t.gives_up.noted t.gives_up.done t.gives_up.due)
        (λ p f. t.sends.frames.none_failed p refl f))

    -- nor when the node begins to send
    calls-none : NoneFails net n x → NoneFails net n t.called_ring
    calls-none none =
        none-behind net n t.served_ring t.calls.goes.done t.called_ring
        (grew-is (is_of n) t.served_ring t.calls.goes.done t.called_ring t.calls.goes.node)
        (quiet-collects n (IsMade n) (quiet-made n) _ t.calls.goes.noted t.calls.goes.done
        t.calls.goes.due)
        (none-behind net n x t.serves.done t.served_ring
        (grew-is (is_of n) x t.serves.done t.served_ring t.serves.node)
        (quiet-order n (IsServed n) (quiet-served n) _ t.serves.noted t.serves.done
        t.serves.due) none)

    module _ (m : May fixed net n b y) where
      -- what holds of the last lists holds of those behind each part
      may-given : May fixed net n t.given_known t.given_ring
      may-given = may-goes fixed net n t.given_known b t.given_ring y ending-goes m

      may-sent : May fixed net n t.sent_known t.sent_ring
      may-sent = may-goes fixed net n t.sent_known t.given_known t.sent_ring t.given_ring
          gives-goes may-given

      may-called : May fixed net n t.called_known t.called_ring
      may-called = may-goes fixed net n t.called_known t.sent_known t.called_ring t.sent_ring
          sending-goes may-sent

      may-served : May fixed net n t.served_known t.served_ring
      may-served = may-goes fixed net n t.served_known t.called_known t.served_ring t.called_ring
          calls-goes may-called

  -- it makes one thing
  works-same : (left left' : Bool) (a b b' : List Entry) (x y y' : List RingEntry) → Behind n a x
      → NoneFails net n x
      → WorksTurn true true fixed net n budget a b x y left → May fixed net n b y
      → WorksTurn true true fixed net n budget a b' x y' left' → May fixed net n b' y'
      → Same n b b' y y' × (left ≡ left')
  works-same left left' a b b' x y y' behind none t m t' m' = ended
    where
      served : Same n t.served_known t'.served_known t.served_ring t'.served_ring
      served = part-same fixed net n _
          (order-same fixed net n (λ (f : Frame). Unit {0}) (IsServed n) (one-served fixed net n)
          (inbox_of net n x)
          (each-all (λ (f : Frame). Unit {0}) (λ f. tt) (inbox_of net n x)))
          a t.served_known t'.served_known x t.served_ring t'.served_ring behind t.serves
          (may-served left a b x y t m) t'.serves (may-served left' a b' x y' t' m')

      called : Same n t.called_known t'.called_known t.called_ring t'.called_ring
      called = collects-same fixed net n laws node (IsMade n) (one-made fixed net n) t.served_known
          t.called_known t'.called_known
          t.served_ring t.called_ring t'.called_ring served.behind t.calls
          (may-called left a b x y t m)
          (move (λ k r. Collects true true fixed n (IsMade n) k t'.called_known r t'.called_ring) _
          _ _ _ (sym served.known_is) (sym served.ring_is) t'.calls)
          (may-called left' a b' x y' t' m')

      sent : Same n t.sent_known t'.sent_known t.sent_ring t'.sent_ring
      sent = sent-same fixed net n t.called_known t.sent_known t'.sent_known t.called_ring
          t.sent_ring t'.sent_ring called.behind
          (λ p on f. calls-none left a b x y t none p f) t.sends (may-sent left a b x y t m)
          (move (λ k r. SendsAll true true net n k t'.sent_known r t'.sent_ring) _ _ _ _
          (sym called.known_is) (sym called.ring_is) t'.sends)
          (may-sent left' a b' x y' t' m')

      given : Same n t.given_known t'.given_known t.given_ring t'.given_ring
      given = part-same fixed net n _
          (order-same fixed net n (λ (id : CallId). Unit {0}) IsGivenUp (one-given fixed net n)
          (overdue net n t.sent_ring)
          (each-all (λ (id : CallId). Unit {0}) (λ id. tt) (overdue net n t.sent_ring)))
          t.sent_known t.given_known t'.given_known t.sent_ring t.given_ring t'.given_ring
          sent.behind t.gives_up (may-given left a b x y t m)
          (move (λ k r. PartOf true true is_ours n (InOrder IsGivenUp (overdue net n r)) k
          t'.given_known r t'.given_ring) _ _ _ _ (sym sent.known_is)
          (sym sent.ring_is) t'.gives_up)
          (may-given left' a b' x y' t' m')

      ended : Same n b b' y y' × (left ≡ left')
      ended = ends-same fixed net n budget t.given_known b b' t.given_ring y y' left left'
          given.behind t.ends m
          (move (λ k r. EndsHoldTurn true true fixed net n budget k b' r y' left') _ _ _ _
          (sym given.known_is) (sym given.ring_is) t'.ends) m'

  -- ---- a turn in which one is

  module _ (a b : List Entry) (x y : List RingEntry) (joined : Bool)
      (d : GoesDown true true fixed net n (failures_at fixed a) a b x y joined) where
    -- the node left for that
    left-is : d.left_ring ≡ x ++ Leave n (Down (failures_at fixed a)) ∷ []
    left-is = grew-is (is_of n) x (Leave n (Down (failures_at fixed a)) ∷ []) d.left_ring
        d.leaves.grew

    -- a question adds nothing
    back-is : b ≡ d.given_known
    back-is = went-is is_ours d.given_known b d.comes.asks

    -- and it asked to come in, or did not
    joins-is : y ≡ d.given_ring ++ join_entries n joined
    joins-is = grew-is (is_of n) d.given_ring (join_entries n joined) y d.comes.grew

    -- each part adds to both lists
    leaving-goes : Goes n a a x d.left_ring
    leaving-goes = record {
      noted = [];
      known_is = sym (append-nil a);
      done = Leave n (Down (failures_at fixed a)) ∷ [];
      ring_is = left-is;
      mine = grew-ours (is_of n) x (Leave n (Down (failures_at fixed a)) ∷ []) d.left_ring
          d.leaves.grew;
    }

    given-goes : Goes n a d.given_known d.left_ring d.given_ring
    given-goes = part-goes n _ a d.given_known d.left_ring d.given_ring d.gives_up

    back-goes : Goes n d.given_known b d.given_ring y
    back-goes = record {
      noted = [];
      known_is = back-is ∙ sym (append-nil d.given_known);
      done = join_entries n joined;
      ring_is = joins-is;
      mine = grew-ours (is_of n) d.given_ring (join_entries n joined) y d.comes.grew;
    }

    -- so does the turn
    down-goes : Goes n a b x y
    down-goes =
        goes-then n a a b x d.left_ring y leaving-goes
        (goes-then n a d.given_known b d.left_ring d.given_ring y given-goes back-goes)

    -- no call of the node fails in it
    down-none : NoneFails net n x → NoneFails net n y
    down-none none =
        none-behind net n d.given_ring (join_entries n joined) y joins-is (quiet-join n n joined)
        (none-behind net n d.left_ring d.gives_up.done d.given_ring
        (grew-is (is_of n) d.left_ring d.gives_up.done d.given_ring d.gives_up.node)
        (quiet-order n IsGivenUp (quiet-given n) _ d.gives_up.noted d.gives_up.done
        d.gives_up.due)
        (none-behind net n x (Leave n (Down (failures_at fixed a)) ∷ []) d.left_ring left-is
        (tt, tt) none))

  -- it makes one thing
  down-same : (joined joined' : Bool) (a b b' : List Entry) (x y y' : List RingEntry)
      → Behind n a x → GoesDown true true fixed net n (failures_at fixed a) a b x y joined
      → May fixed net n b y → GoesDown true true fixed net n (failures_at fixed a) a b' x y' joined'
      → May fixed net n b' y' → Same n b b' y y' × (joined ≡ joined')
  down-same joined joined' a b b' x y y' behind d m d' m' = (
    record {
      known_is = known;
      ring_is = joins-is a b x y joined d
          ∙ (λ i. given.ring_is i ++ join_entries n (same i))
          ∙ sym (joins-is a b' x y' joined' d');
      behind = subst (λ k. Behind n k y) (sym (back-is a b x y joined d))
          (subst (Behind n d.given_known) (sym (joins-is a b x y joined d))
          (subst (λ k. Behind n k (d.given_ring ++ join_entries n joined))
          (append-nil d.given_known)
          (behind-more n d.given_known [] d.given_ring (join_entries n joined) given.behind
          (let z : endings [] ≤ closings (own n (join_entries n joined)) = omega arith in z))));
    },
    same,
  )
    where
      Given : List Entry → List RingEntry → Type 0
      Given = InOrder IsGivenUp (calls_waiting n x)

      left : d.left_ring ≡ d'.left_ring
      left = left-is a b x y joined d ∙ sym (left-is a b' x y' joined' d')

      passed : Behind n a d.left_ring
      passed = subst (λ k. Behind n k d.left_ring) (append-nil a)
          (subst (Behind n (a ++ [])) (sym (left-is a b x y joined d))
          (behind-more n a [] x (Leave n (Down (failures_at fixed a)) ∷ []) behind
          (let z : endings [] ≤ closings (own n (Leave n (Down (failures_at fixed a)) ∷ [])) =
          omega arith in z)))

      given : Same n d.given_known d'.given_known d.given_ring d'.given_ring
      given = part-same fixed net n Given
          (order-same fixed net n (λ (id : CallId). Unit {0}) IsGivenUp (one-given fixed net n)
          (calls_waiting n x)
          (each-all (λ (id : CallId). Unit {0}) (λ id. tt) (calls_waiting n x)))
          a d.given_known d'.given_known d.left_ring d.given_ring d'.given_ring passed d.gives_up
          (may-goes fixed net n d.given_known b d.given_ring y (back-goes a b x y joined d) m)
          (subst (λ r. PartOf true true is_ours n Given a d'.given_known r d'.given_ring)
          (sym left) d'.gives_up)
          (may-goes fixed net n d'.given_known b' d'.given_ring y'
          (back-goes a b' x y' joined' d') m')

      known : b ≡ b'
      known = back-is a b x y joined d ∙ given.known_is ∙ sym (back-is a b' x y' joined' d')

      same : joined ≡ joined'
      same = d.comes.joined_is ∙ ap (λ (l : List Entry). not (is_off_at fixed l)) known
          ∙ sym d'.comes.joined_is

  -- ---- the whole turn

  abbrev By : Bool → List Entry → List Entry → List RingEntry → List RingEntry → TurnEnd → Type 0
  By down a b x y end = TurnsBy down true true fixed net n budget a b x y end

  -- either way the turn adds to both lists
  by-goes : (down : Bool) (a b : List Entry) (x y : List RingEntry) (end : TurnEnd)
      → By down a b x y end → Goes n a b x y
  by-goes true a b x y end t = down-goes a b x y t.0 t.2
  by-goes false a b x y end t = works-goes t.0 a b x y t.2

  -- no call of the node has failed behind it
  by-none : (down : Bool) (a b : List Entry) (x y : List RingEntry) (end : TurnEnd)
      → By down a b x y end → NoneFails net n x → NoneFails net n y
  by-none true a b x y end t none = down-none a b x y t.0 t.2 none
  by-none false a b x y end t none = works-none t.0 a b x y t.2

  -- and it makes one thing
  by-same : (down : Bool) (a b b' : List Entry) (x y y' : List RingEntry) (end end' : TurnEnd)
      → Behind n a x → NoneFails net n x → By down a b x y end → May fixed net n b y
      → By down a b' x y' end' → May fixed net n b' y' → Same n b b' y y' × (end ≡ end')
  by-same true a b b' x y y' end end' behind none t m t' m' =
      let same = down-same t.0 t'.0 a b b' x y y' behind t.2 m t'.2 m' in
      (same.0, t.1 ∙ ap failing_end same.1 ∙ sym t'.1)
  by-same false a b b' x y y' end end' behind none t m t' m' =
      let same = works-same t.0 t'.0 a b b' x y y' behind none t.2 m t'.2 m' in
      (same.0, t.1 ∙ ap working_end same.1 ∙ sym t'.1)

  -- the question that comes first adds nothing
  of-asked : (a b : List Entry) (x y : List RingEntry) (end : TurnEnd)
      → HoldsTurn true true fixed net n budget a b x y end
      → By (is_unnoticed fixed n a x) a b x y end
  of-asked a b x y end t =
      subst (λ (l : List Entry). By (is_unnoticed fixed n l x) l b x y end)
      (went-is is_ours a t.asked t.asks) t.goes

  -- a turn adds to both lists
  pub turn-goes : (end : TurnEnd) (a b : List Entry) (x y : List RingEntry)
      → HoldsTurn true true fixed net n budget a b x y end → Goes n a b x y
  turn-goes end a b x y t =
      by-goes (is_unnoticed fixed n a x) a b x y end (of-asked a b x y end t)

  -- no call of the node has failed behind it
  pub turn-none : (end : TurnEnd) (a b : List Entry) (x y : List RingEntry)
      → HoldsTurn true true fixed net n budget a b x y end
      → NoneFails net n x → NoneFails net n y
  turn-none end a b x y t none =
      by-none (is_unnoticed fixed n a x) a b x y end (of-asked a b x y end t) none

  -- a turn makes one thing
  pub turn-same : (end end' : TurnEnd) (a b b' : List Entry) (x y y' : List RingEntry)
      → Behind n a x → NoneFails net n x
      → HoldsTurn true true fixed net n budget a b x y end → May fixed net n b y
      → HoldsTurn true true fixed net n budget a b' x y' end' → May fixed net n b' y'
      → Same n b b' y y' × (end ≡ end')
  turn-same end end' a b b' x y y' behind none t m t' m' =
      by-same (is_unnoticed fixed n a x) a b b' x y y' end end' behind none
      (of-asked a b x y end t) m (of-asked a b' x y' end' t') m'

  -- ---- a visit

  pub visit-goes : (a b : List Entry) (x y : List RingEntry)
      → VisitsEnd true true fixed net n a b x y → Goes n a b x y
  visit-goes a b x y v = collects-goes fixed n (IsEnded n) a b x y v.calls

  pub visit-none : (a b : List Entry) (x y : List RingEntry)
      → VisitsEnd true true fixed net n a b x y → NoneFails net n x → NoneFails net n y
  visit-none a b x y v none =
      none-behind net n x v.calls.goes.done y
      (grew-is (is_of n) x v.calls.goes.done y v.calls.goes.node)
      (quiet-collects n (IsEnded n) (quiet-ended n) _ v.calls.goes.noted v.calls.goes.done
      v.calls.goes.due) none

  pub visit-same : (a b b' : List Entry) (x y y' : List RingEntry) → Behind n a x
      → VisitsEnd true true fixed net n a b x y → May fixed net n b y
      → VisitsEnd true true fixed net n a b' x y' → May fixed net n b' y' → Same n b b' y y'
  visit-same a b b' x y y' behind v m v' m' =
      collects-same fixed net n laws node (IsEnded n) (one-ended fixed net n) a b b' x y y' behind
      v.calls m v'.calls m'
