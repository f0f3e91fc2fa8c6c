-- A hold of the token by an end of a bridge makes one thing.
use Rattle.std.proofs.Common.{◌≡◌, ℕ, Bool, true, false, not, List, [], ◌∷◌, ◌++◌, Option, Some}
use Rattle.std.proofs.Common.{None, refl, sym, ap, subst, ◌∙◌, append-nil, eq-eqb}
use Rattle.std.specs.Prelude.{◌&&◌, is_some}
use Rattle.std.specs.List.{AllByRecursion as Each}
use Rattle.plant_types.specs.declared.net.BridgePlan.{BridgePlan}
use Rattle.plant_types.specs.declared.net.NetPlan.{NetPlan}
use Rattle.bridge_relay.specs.declared.entry.BridgeEntry.{BridgeEntry}
use Rattle.bridge_relay.specs.declared.entry.BridgeEntry.TheVariants.{Gone}
use Rattle.bridge_relay.specs.Laws.{end_after, is_by}
use Rattle.bridge_relay.specs.Legal.{IsBridgeHistory, due_back, due_forward}
use Rattle.bridge_relay.specs.Machine.{is_idle_end}
use Rattle.ring_core.specs.Legal.{IsLegalRing}
use Rattle.ring_core.specs.Machine.{only_bridges, ring_after}
use Rattle.ring_core.specs.Scratch.{words_put}
use Rattle.ring_core.specs.declared.entry.LeaveCause.{LeaveCause}
use Rattle.ring_core.specs.declared.entry.RingEntry.{RingEntry}
use Rattle.tied_lists.specs.Own.{WentOn, is_of}
use Rattle.comm_port.specs.Giving.{inbox_of}
use Rattle.comm_port.specs.HoldTurn.{overdue}
use Rattle.comm_port.specs.Leaving.{cause_due, last_entry}
use Rattle.comm_port.specs.Parts.{InOrder, PartOf, calls_waiting}
use Rattle.bridge_port.specs.EndParts.{AsksRing, EndAsksIfDone, EndGivesUp, EndSendsAll, EndServes}
use Rattle.bridge_port.specs.EndParts.{EndsEndTurn, HoldsEndTurn, IsBackEntry, IsForwardEntry}
use Rattle.bridge_port.specs.EndParts.{LeavesIf, are_some}
use Rattle.bridge_port.proofs.Across.{legal-front}
use Rattle.one_run.specs.OneTurn.{OneEndTurn}
use Rattle.one_run.proofs.EndParts.{back-due, call-once, forward-due, frame-once, part-adds}
use Rattle.one_run.proofs.EndParts.{part-once, posts-once, posts-quiet, sends-adds, sends-once}
use Rattle.one_run.proofs.EndParts.{given-quiet, served-quiet}
use Rattle.one_run.proofs.Fails.{IsNoSend}
use Rattle.one_run.proofs.HostTurn.{legal-goes}
use Rattle.one_run.proofs.Meets.{IsMine, grew-is}
use Rattle.one_run.proofs.Parts.{Goes, goes-then, went-is}
use Rattle.one_run.proofs.Turn.{NoneFails, none-behind}

-- ---- whether the end is done

-- the answer to the question whether the end is done
abbrev says_done : BridgePlan → NetPlan → ℕ → Bool → List BridgeEntry → List RingEntry → Bool
says_done plan net n posted a x = not posted
    && (is_idle_end (end_after plan a n) && only_bridges net (ring_after net x).nodes n)

-- the question adds nothing, and has one answer
record Answers (plan : BridgePlan) (net : NetPlan) (n : ℕ) (posted : Bool)
    (a b : List BridgeEntry) (x y : List RingEntry) (done : Bool) : Type 0 where
  list_is : b ≡ a
  ring_is : y ≡ x
  done_is : done ≡ says_done plan net n posted a x

answers : (plan : BridgePlan) (net : NetPlan) (n : ℕ) (posted : Bool) (a b : List BridgeEntry)
    (x y : List RingEntry) (done : Bool)
    → EndAsksIfDone true true plan net n posted a b x y done
    → Answers plan net n posted a b x y done
answers plan net n true a b x y done s = record { list_is = s.0; ring_is = s.1; done_is = s.2 }
answers plan net n false a b x y done s =
    let list = went-is (is_by n) a b s.0 in
    let ring = by (is_idle_end (end_after plan b n)) s.1 in
    record {
      list_is = list;
      ring_is = ring.0;
      done_is = ring.1 ∙ ap (λ l. is_idle_end (end_after plan l n)
          && only_bridges net (ring_after net x).nodes n) list;
    }
  where
    by : (idle : Bool) → AsksRing idle true net n x y done
        → (y ≡ x) × (done ≡ (idle && only_bridges net (ring_after net x).nodes n))
    by true asked =
        let is = went-is (is_of n) x y asked.0 in
        (is, asked.1 ∙ ap (λ l. only_bridges net (ring_after net l).nodes n) is)
    by false asked = asked

-- ---- what comes behind the last entry

-- a list that goes on where nobody else writes
went-on : {E : Type 0} (ours : E → Bool) (before added after : List E)
    → WentOn true ours before added after → after ≡ before ++ added
went-on ours before added after w =
    w.after_is ∙ ap (λ l. l ++ added) (ap (λ l. before ++ l) (w.none_alone refl)
    ∙ append-nil before)

module _ (net : NetPlan) (n : ℕ) where
  -- it adds to both lists
  leaves-adds : (left : Bool) (a b : List BridgeEntry) (x y : List RingEntry)
      → LeavesIf left true true n a b x y → Goes n a b x y
  leaves-adds true a b x y v =
      goes-then n a v.given_list b x y y
      (part-adds n (InOrder (EndGivesUp n) (calls_waiting n x)) a v.given_list x y v.gives_up)
      (record {
        noted = Gone n ∷ [];
        known_is = went-on (is_by n) v.given_list (Gone n ∷ []) b v.gone;
        done = [];
        ring_is = sym (append-nil y);
        mine = tt;
      })
  leaves-adds false a b x y v = record {
    noted = [];
    known_is = v.0 ∙ sym (append-nil a);
    done = [];
    ring_is = v.1 ∙ sym (append-nil x);
    mine = tt;
  }

  -- no call of the node fails by it
  leaves-none : (left : Bool) (a b : List BridgeEntry) (x y : List RingEntry)
      → LeavesIf left true true n a b x y → NoneFails net n x → NoneFails net n y
  leaves-none true a b x y v none =
      none-behind net n x v.gives_up.done y
      (grew-is (is_of n) x v.gives_up.done y v.gives_up.node)
      (given-quiet n (calls_waiting n x) v.gives_up.noted v.gives_up.done v.gives_up.due) none
  leaves-none false a b x y v none = subst (NoneFails net n) (sym v.1) none

  -- and is one thing
  leaves-once : (left : Bool) (a b b' : List BridgeEntry) (x y y' : List RingEntry)
      → LeavesIf left true true n a b x y → IsLegalRing net y
      → LeavesIf left true true n a b' x y' → IsLegalRing net y' → (b ≡ b') × (y ≡ y')
  leaves-once true a b b' x y y' v legal v' legal' =
      let given = part-once net n (EndGivesUp n) (call-once net n) (calls_waiting n x) a
      v.given_list v'.given_list x y y' v.gives_up legal v'.gives_up legal' in (
        went-on (is_by n) v.given_list (Gone n ∷ []) b v.gone
            ∙ ap (λ l. l ++ Gone n ∷ []) given.0
            ∙ sym (went-on (is_by n) v'.given_list (Gone n ∷ []) b' v'.gone),
        given.1,
      )
  leaves-once false a b b' x y y' v legal v' legal' = (v.0 ∙ sym v'.0, v.1 ∙ sym v'.1)

-- ---- the end of a turn

-- the last entry of a turn is one of the node
last-mine : (n : ℕ) (done : Bool) (words : List ℕ) (cause : Option LeaveCause)
    → IsMine n (last_entry n done words cause)
last-mine n done words None = eq-eqb n n refl
last-mine n done words (Some why) = eq-eqb n n refl

-- and no Send
last-quiet : (n : ℕ) (done : Bool) (words : List ℕ) (cause : Option LeaveCause)
    → IsNoSend n (last_entry n done words cause)
last-quiet n done words None = tt
last-quiet n done words (Some why) = tt

module _ (plan : BridgePlan) (net : NetPlan) (n : ℕ) (budget : Bool) where
  abbrev End : Bool → List BridgeEntry → List BridgeEntry → List RingEntry → List RingEntry → Bool
      → Type 0
  End posted a b x y left = EndsEndTurn true true plan net n budget posted a b x y left

  abbrev cause_at : Bool → List RingEntry → Option LeaveCause
  cause_at done x = cause_due net (ring_after net x) n done budget

  abbrev last_at : Bool → List RingEntry → RingEntry
  last_at done x = last_entry n done (words_put n x) (cause_at done x)

  module _ (posted left : Bool) (a b : List BridgeEntry) (x y : List RingEntry)
      (e : End posted a b x y left) where
    abbrev says : Bool
    says = says_done plan net n posted a x

    asked : Answers plan net n posted a e.asked_list x e.asked_ring e.done
    asked = answers plan net n posted a e.asked_list x e.asked_ring e.done e.asked

    -- whether the node left is one thing
    left-is : left ≡ is_some (cause_at says x)
    left-is = e.left_is
        ∙ (λ i. is_some (cause_at (asked.done_is i) (asked.ring_is i)))

    -- the ring goes on by the last entry
    handed-is : e.handed_ring ≡ x ++ last_at says x ∷ []
    handed-is = grew-is (is_of n) e.asked_ring _ e.handed_ring e.handed.grew
        ∙ (λ i. asked.ring_is i ++ last_at (asked.done_is i) (asked.ring_is i) ∷ [])

    -- and by what comes behind it
    leaves-so : LeavesIf left true true n a b (x ++ last_at says x ∷ []) y
    leaves-so =
        subst (λ l. LeavesIf left true true n l b (x ++ last_at says x ∷ []) y) asked.list_is
        (subst (λ r. LeavesIf left true true n e.asked_list b r y) handed-is e.leaves)

    -- the end of a turn adds to both lists
    end-adds : Goes n a b x y
    end-adds = goes-then n a a b x (x ++ last_at says x ∷ []) y
        (record {
          noted = [];
          known_is = sym (append-nil a);
          done = last_at says x ∷ [];
          ring_is = refl;
          mine = (last-mine n says (words_put n x) (cause_at says x), tt);
        })
        (leaves-adds net n left a b (x ++ last_at says x ∷ []) y leaves-so)

    -- no call of the node fails at it
    end-none : NoneFails net n x → NoneFails net n y
    end-none none =
        leaves-none net n left a b (x ++ last_at says x ∷ []) y leaves-so
        (none-behind net n x (last_at says x ∷ []) (x ++ last_at says x ∷ []) refl
        (last-quiet n says (words_put n x) (cause_at says x), tt) none)

  -- and is one thing
  end-once : (posted left left' : Bool) (a b b' : List BridgeEntry) (x y y' : List RingEntry)
      → End posted a b x y left → IsLegalRing net y → End posted a b' x y' left'
      → IsLegalRing net y' → (b ≡ b') × (y ≡ y') × (left ≡ left')
  end-once posted left left' a b b' x y y' e legal e' legal' =
      let last = x ++ last_at (says_done plan net n posted a x) x ∷ [] in
      let same = left-is posted left a b x y e ∙ sym (left-is posted left' a b' x y' e') in
      let both = leaves-once net n left a b b' last y y' (leaves-so posted left a b x y e) legal
      (subst (λ l. LeavesIf l true true n a b' last y') (sym same)
      (leaves-so posted left' a b' x y' e')) legal' in
      (both.0, both.1, same)

-- ---- the whole

-- the lists of a bridge and of a ring are legal
pub record BothLegal (plan : BridgePlan) (net : NetPlan) (list : List BridgeEntry)
    (ring : List RingEntry) : Type 0 where
  pub bridge : IsBridgeHistory plan list
  pub on_ring : IsLegalRing net ring

-- so are those before them
legal-before : (plan : BridgePlan) (net : NetPlan) (n : ℕ) (a b : List BridgeEntry)
    (x y : List RingEntry) → Goes n a b x y → BothLegal plan net b y → BothLegal plan net a x
legal-before plan net n a b x y g legal = record {
  bridge = legal-front plan a g.noted (subst (IsBridgeHistory plan) g.known_is legal.bridge);
  on_ring = legal-goes net n a b x y g legal.on_ring;
}

module _ (plan : BridgePlan) (net : NetPlan) (n : ℕ) (budget : Bool) where
  module _ (left : Bool) (a b : List BridgeEntry) (x y : List RingEntry)
      (t : HoldsEndTurn true true plan net n budget a b x y left) where
    -- a turn adds to both lists
    pub end-turn-adds : Goes n a b x y
    end-turn-adds =
        goes-then n a t.served_list b x t.served_ring y
        (part-adds n _ a t.served_list x t.served_ring t.serves)
        (goes-then n t.served_list t.backed_list b t.served_ring t.backed_ring y
        (part-adds n _ t.served_list t.backed_list t.served_ring t.backed_ring t.backs.part)
        (goes-then n t.backed_list t.called_list b t.backed_ring t.called_ring y
        (part-adds n _ t.backed_list t.called_list t.backed_ring t.called_ring t.forwards.part)
        (goes-then n t.called_list t.sent_list b t.called_ring t.sent_ring y
        (sends-adds net n t.called_list t.sent_list t.called_ring t.sent_ring t.sends)
        (goes-then n t.sent_list t.given_list b t.sent_ring t.given_ring y
        (part-adds n _ t.sent_list t.given_list t.sent_ring t.given_ring t.gives_up)
        (end-adds plan net n budget (are_some t.forwards.part.noted) left t.given_list b
        t.given_ring y t.ends)))))

    -- no call of the node has failed behind it
    pub end-turn-none : NoneFails net n y
    end-turn-none =
        end-none plan net n budget (are_some t.forwards.part.noted) left t.given_list b
        t.given_ring y t.ends
        (none-behind net n t.sent_ring t.gives_up.done t.given_ring
        (grew-is (is_of n) t.sent_ring t.gives_up.done t.given_ring t.gives_up.node)
        (given-quiet n (overdue net n t.sent_ring) t.gives_up.noted t.gives_up.done
        t.gives_up.due)
        (λ p f. t.sends.frames.none_failed p refl f))

    -- no call of the node has failed when it begins to send
    none-called : NoneFails net n x → NoneFails net n t.called_ring
    none-called none =
        none-behind net n t.backed_ring t.forwards.part.done t.called_ring
        (grew-is (is_of n) t.backed_ring t.forwards.part.done t.called_ring t.forwards.part.node)
        (subst (Each (IsNoSend n)) (sym t.forwards.part.due.1)
        (posts-quiet n t.forwards.part.noted))
        (none-behind net n t.served_ring t.backs.part.done t.backed_ring
        (grew-is (is_of n) t.served_ring t.backs.part.done t.backed_ring t.backs.part.node)
        (subst (Each (IsNoSend n)) (sym t.backs.part.due.1) (posts-quiet n t.backs.part.noted))
        (none-behind net n x t.serves.done t.served_ring
        (grew-is (is_of n) x t.serves.done t.served_ring t.serves.node)
        (served-quiet n (inbox_of net n x) t.serves.noted t.serves.done t.serves.due) none))

    module _ (legal : BothLegal plan net b y) where
      -- the lists behind each part are legal
      legal-given : BothLegal plan net t.given_list t.given_ring
      legal-given = legal-before plan net n t.given_list b t.given_ring y
          (end-adds plan net n budget (are_some t.forwards.part.noted) left t.given_list b
          t.given_ring y t.ends) legal

      legal-sent : BothLegal plan net t.sent_list t.sent_ring
      legal-sent = legal-before plan net n t.sent_list t.given_list t.sent_ring t.given_ring
          (part-adds n _ t.sent_list t.given_list t.sent_ring t.given_ring t.gives_up) legal-given

      legal-called : BothLegal plan net t.called_list t.called_ring
      legal-called = legal-before plan net n t.called_list t.sent_list t.called_ring t.sent_ring
          (sends-adds net n t.called_list t.sent_list t.called_ring t.sent_ring t.sends) legal-sent

      legal-backed : BothLegal plan net t.backed_list t.backed_ring
      legal-backed = legal-before plan net n t.backed_list t.called_list t.backed_ring
          t.called_ring
          (part-adds n _ t.backed_list t.called_list t.backed_ring t.called_ring t.forwards.part)
          legal-called

      legal-served : BothLegal plan net t.served_list t.served_ring
      legal-served = legal-before plan net n t.served_list t.backed_list t.served_ring
          t.backed_ring
          (part-adds n _ t.served_list t.backed_list t.served_ring t.backed_ring t.backs.part)
          legal-backed

  -- a turn makes one thing
  pub end-turn-once : (left left' : Bool) (a b b' : List BridgeEntry) (x y y' : List RingEntry)
      → NoneFails net n x
      → HoldsEndTurn true true plan net n budget a b x y left → BothLegal plan net b y
      → HoldsEndTurn true true plan net n budget a b' x y' left' → BothLegal plan net b' y'
      → (b ≡ b') × (y ≡ y') × (left ≡ left')
  end-turn-once left left' a b b' x y y' none t legal t' legal' = ended
    where
      served : (t.served_list ≡ t'.served_list) × (t.served_ring ≡ t'.served_ring)
      served = part-once net n (EndServes n) (frame-once net n) (inbox_of net n x) a t.served_list
          t'.served_list x t.served_ring t'.served_ring
          t.serves (legal-served left a b x y t legal).on_ring
          t'.serves (legal-served left' a b' x y' t' legal').on_ring

      backed : (t.backs.part.noted ≡ t'.backs.part.noted) × (t.backed_list ≡ t'.backed_list)
          × (t.backed_ring ≡ t'.backed_ring)
      backed = posts-once plan n IsBackEntry (λ past. due_back plan past n) (back-due plan n)
          t.served_list t'.served_list t.backed_list t'.backed_list
          t.served_ring t'.served_ring t.backed_ring t'.backed_ring served.0 served.1
          t.backs (legal-backed left a b x y t legal).bridge
          t'.backs (legal-backed left' a b' x y' t' legal').bridge

      called : (t.forwards.part.noted ≡ t'.forwards.part.noted)
          × (t.called_list ≡ t'.called_list) × (t.called_ring ≡ t'.called_ring)
      called = posts-once plan n IsForwardEntry (λ past. due_forward plan past n)
          (forward-due plan n)
          t.backed_list t'.backed_list t.called_list t'.called_list
          t.backed_ring t'.backed_ring t.called_ring t'.called_ring backed.1 backed.2
          t.forwards (legal-called left a b x y t legal).bridge
          t'.forwards (legal-called left' a b' x y' t' legal').bridge

      sent : (t.sent_list ≡ t'.sent_list) × (t.sent_ring ≡ t'.sent_ring)
      sent = sends-once net n t.called_list t.sent_list t'.sent_list t.called_ring t.sent_ring
          t'.sent_ring (λ p on. none-called left a b x y t none p)
          t.sends (legal-sent left a b x y t legal).on_ring
          (subst (λ l. EndSendsAll true true net n l t'.sent_list t.called_ring t'.sent_ring)
          (sym called.1)
          (subst (λ r. EndSendsAll true true net n t'.called_list t'.sent_list r t'.sent_ring)
          (sym called.2) t'.sends)) (legal-sent left' a b' x y' t' legal').on_ring

      Gives : List BridgeEntry → List RingEntry → Type 0
      Gives l r = PartOf true true (is_by n) n (InOrder (EndGivesUp n) (overdue net n r)) l
          t'.given_list r t'.given_ring

      given : (t.given_list ≡ t'.given_list) × (t.given_ring ≡ t'.given_ring)
      given = part-once net n (EndGivesUp n) (call-once net n) (overdue net n t.sent_ring)
          t.sent_list t.given_list t'.given_list t.sent_ring t.given_ring t'.given_ring
          t.gives_up (legal-given left a b x y t legal).on_ring
          (subst (λ l. Gives l t.sent_ring) (sym sent.0)
          (subst (λ r. Gives t'.sent_list r) (sym sent.1) t'.gives_up))
          (legal-given left' a b' x y' t' legal').on_ring

      Ends : Bool → List BridgeEntry → List RingEntry → Type 0
      Ends posted l r = EndsEndTurn true true plan net n budget posted l b' r y' left'

      ended : (b ≡ b') × (y ≡ y') × (left ≡ left')
      ended = end-once plan net n budget (are_some t.forwards.part.noted) left left'
          t.given_list b b' t.given_ring y y' t.ends legal.on_ring
          (subst (λ l. Ends (are_some t.forwards.part.noted) l t.given_ring) (sym given.0)
          (subst (λ r. Ends (are_some t.forwards.part.noted) t'.given_list r) (sym given.1)
          (subst (λ l. Ends (are_some l) t'.given_list t'.given_ring) (sym called.0) t'.ends)))
          legal'.on_ring

pub end-turns : OneEndTurn
end-turns plan net n budget left left' a b b' x y y' none t list ring t' list' ring' =
    end-turn-once plan net n budget left left' a b b' x y y' (λ p. none p refl)
    t (record { bridge = list; on_ring = ring }) t' (record { bridge = list'; on_ring = ring' })
