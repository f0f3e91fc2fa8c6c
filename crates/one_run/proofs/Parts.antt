-- Parts of a turn, each of which makes one thing.
use Rattle.std.proofs.Common.{◌≡◌, ℕ, ◌≤◌, Bool, true, false, List, []}
use Rattle.std.proofs.Common.{◌∷◌, ◌++◌, filter_map, map, refl, sym, ap}
use Rattle.std.proofs.Common.{subst, ◌∙◌, arith, append_assoc, append-nil}
use Rattle.std.specs.List.{AllByRecursion as Each}
use Rattle.plant_types.specs.declared.net.NetPlan.{NetPlan}
use Rattle.controller_core.specs.declared.call.Call.{Call}
use Rattle.controller_core.specs.declared.entry.Entry.{Entry}
use Rattle.controller_core.specs.declared.entry.Entry.TheVariants as entries
use Rattle.controller_core.specs.declared.fixed.Fixed.{Fixed}
use Rattle.controller_core.specs.Controller.{IsLegal, uncollected}
use Rattle.controller_core.proofs.NextEntry.{fits_last, front_legal}
use Rattle.ring_core.specs.declared.entry.RingEntry.{RingEntry}
use Rattle.ring_core.specs.declared.entry.RingEntry.TheVariants.{Post, Send, Take, Local, GiveUp}
use Rattle.ring_core.specs.declared.entry.RingEntry.TheVariants.{Pass, Leave, Join}
use Rattle.tied_lists.specs.Calls.{AreNewCalls}
use Rattle.tied_lists.specs.Items.{Called, Ended}
use Rattle.tied_lists.specs.Own.{is_of, WentOn}
use Rattle.comm_port.specs.Giving.{part_at, NoneFailed, each_path}
use Rattle.comm_port.specs.HoldTurn.{Collects, CollectsIf}
use Rattle.comm_port.specs.HoldTurn.{SendsAll, finish_of}
use Rattle.comm_port.specs.Parts.{InOrder, PartOf}
use Rattle.joint_history.specs.Reading.{called_of, controller_at, has_started_at, is_ours, items_of}
use Rattle.joint_history.proofs.Collected.{CallLaws, collected-new}
use Rattle.serial_run.proofs.TurnLaws.{each-join}
use Rattle.one_run.proofs.Dues.{One, OneDue, one-in-order}
use Rattle.one_run.proofs.Meets.{Behind, IsMine, May, behind-by, behind-more, closings}
use Rattle.one_run.proofs.Meets.{endings, grew-is, grew-ours, may-as, may-front}
use Rattle.one_run.proofs.Sending.{frames-same}

-- ---- lists that go on where nobody else writes

-- a list to which nothing was added
pub went-is : {E : Type 0} (ours : E → Bool) (before after : List E)
    → WentOn true ours before [] after → after ≡ before
went-is ours before after w = w.after_is ∙ append-nil (before ++ w.between)
    ∙ ap (λ l. before ++ l) (w.none_alone refl) ∙ append-nil before

-- both lists went on, the ring's by entries of a node
pub record Goes {E : Type 0} (n : ℕ) (known new_known : List E)
    (ring new_ring : List RingEntry) : Type 0 where
  pub noted : List E
  pub known_is : new_known ≡ known ++ noted
  pub done : List RingEntry
  pub ring_is : new_ring ≡ ring ++ done
  pub mine : Each (IsMine n) done

-- one after another
pub goes-then : {E : Type 0} (n : ℕ) (a b c : List E) (x y z : List RingEntry) → Goes n a b x y
    → Goes n b c y z → Goes n a c x z
goes-then n a b c x y z one two = record {
  noted = one.noted ++ two.noted;
  known_is = two.known_is ∙ ap (λ l. l ++ two.noted) one.known_is
      ∙ append_assoc a one.noted two.noted;
  done = one.done ++ two.done;
  ring_is = two.ring_is ∙ ap (λ l. l ++ two.done) one.ring_is ∙ append_assoc x one.done two.done;
  mine = each-join (IsMine n) one.done two.done one.mine two.mine;
}

-- what holds of the lists that went on holds of those before
pub may-goes : (fixed : Fixed) (net : NetPlan) (n : ℕ) (a b : List Entry) (x y : List RingEntry)
    → Goes n a b x y → May fixed net n b y → May fixed net n a x
may-goes fixed net n a b x y g m =
    may-front fixed net n a g.noted x g.done (may-as fixed net n b _ y _ g.known_is g.ring_is m)

-- what a part, a Collect and its calls, and Sends add
pub part-goes : (n : ℕ) (Due : List Entry → List RingEntry → Type 0) (a b : List Entry)
    (x y : List RingEntry) → PartOf true true is_ours n Due a b x y
    → Goes n a b x y
part-goes n Due a b x y p = record {
  noted = p.noted;
  known_is = grew-is is_ours a p.noted b p.station;
  done = p.done;
  ring_is = grew-is (is_of n) x p.done y p.node;
  mine = grew-ours (is_of n) x p.done y p.node;
}

pub collects-goes : (fixed : Fixed) (n : ℕ) (Due : Call → List Entry → List RingEntry → Type 0)
    (a b : List Entry) (x y : List RingEntry)
    → Collects true true fixed n Due a b x y → Goes n a b x y
collects-goes fixed n Due a b x y c =
    subst (λ l. Goes n l b x y) (went-is is_ours a c.asked c.asks)
    (part-goes n (CollectsIf (has_started_at fixed c.asked) Due) c.asked b x y c.goes)

pub sends-goes : (net : NetPlan) (n : ℕ) (a b : List Entry) (x y : List RingEntry)
    → SendsAll true true net n a b x y → Goes n a b x y
sends-goes net n a b x y s = record {
  noted = filter_map finish_of s.frames.done;
  known_is = grew-is is_ours a (filter_map finish_of s.frames.done) b s.finishes;
  done = s.frames.done;
  ring_is = grew-is (is_of n) x s.frames.done y s.frames.grew;
  mine = grew-ours (is_of n) x s.frames.done y s.frames.grew;
}

-- ---- each part makes one thing

pub record Same (n : ℕ) (known known' : List Entry) (ring ring' : List RingEntry) : Type 0 where
  pub known_is : known ≡ known'
  pub ring_is : ring ≡ ring'
  pub behind : Behind n known ring

module _ (fixed : Fixed) (net : NetPlan) (n : ℕ) where
  -- what is due in a part is one thing
  abbrev OneWhole : (List Entry → List RingEntry → Type 0) → Type 0
  OneWhole Due = (known noted noted' : List Entry) (ring done done' : List RingEntry)
      → Behind n known ring → Each (IsMine n) done
      → May fixed net n (known ++ noted) (ring ++ done)
      → May fixed net n (known ++ noted') (ring ++ done') → Due noted done → Due noted' done'
      → One n known ring noted noted' done done'

  -- so the part makes one thing
  pub part-same : (Due : List Entry → List RingEntry → Type 0) → OneWhole Due
      → (a b b' : List Entry) (x y y' : List RingEntry) → Behind n a x
      → PartOf true true is_ours n Due a b x y → May fixed net n b y
      → PartOf true true is_ours n Due a b' x y' → May fixed net n b' y' → Same n b b' y y'
  unfolding part-goes
  part-same Due one a b b' x y y' behind p m p' m' = record {
    known_is = g.known_is ∙ ap (λ l. a ++ l) o.notes ∙ sym g'.known_is;
    ring_is = g.ring_is ∙ ap (λ l. x ++ l) o.does ∙ sym g'.ring_is;
    behind = subst (λ k. Behind n k y) (sym g.known_is)
        (subst (Behind n (a ++ p.noted)) (sym g.ring_is) o.behind);
  }
    where
      g : Goes n a b x y
      g = part-goes n Due a b x y p

      g' : Goes n a b' x y'
      g' = part-goes n Due a b' x y' p'

      o : One n a x p.noted p'.noted p.done p'.done
      o = one a p.noted p'.noted x p.done p'.done behind (grew-ours (is_of n) x p.done y p.node)
          (may-as fixed net n b _ y _ (grew-is is_ours a p.noted b p.station)
          (grew-is (is_of n) x p.done y p.node) m)
          (may-as fixed net n b' _ y' _ (grew-is is_ours a p'.noted b' p'.station)
          (grew-is (is_of n) x p'.done y' p'.node) m') p.due p'.due

  pub order-same : {X : Type 0} (Fit : X → Type 0) (Due : X → List Entry → List RingEntry → Type 0)
      → OneDue fixed net n Fit Due → (xs : List X) → Each Fit xs
      → OneWhole (InOrder Due xs)
  order-same Fit Due one xs fit known noted noted' ring done done' behind mine m m' a b =
      one-in-order fixed net n Fit Due one xs known noted noted' ring done done' fit
      behind mine m m' a b

  -- ---- calls that were started

  -- calls that a controller collects are named by its node
  own-calls : (earlier : List Called) (ends : List Ended) (calls : List Call)
      → AreNewCalls fixed.plan.node earlier ends (map called_of calls)
      → fixed.plan.node ≡ n → Each (λ (call : Call). call.id.node ≡ n) calls
  own-calls earlier ends [] new node = tt
  own-calls earlier ends (call ∷ calls) new node =
      (new.0.own ∙ node, own-calls (earlier ++ called_of call ∷ []) ends calls new.1 node)

  -- a Collect and what is due to its calls is one thing
  collect-same : CallLaws → fixed.plan.node ≡ n
      → (Due : Call → List Entry → List RingEntry → Type 0)
      → OneDue fixed net n (λ (call : Call). call.id.node ≡ n) Due
      → (known noted noted' : List Entry) (ring done done' : List RingEntry)
      → Behind n known ring → Each (IsMine n) done → May fixed net n (known ++ noted) (ring ++ done)
      → May fixed net n (known ++ noted') (ring ++ done')
      → (b : Bool) → CollectsIf b Due noted done → CollectsIf b Due noted' done'
      → One n known ring noted noted' done done'
  collect-same laws node Due one known noted noted' ring done done' behind mine m m' false a b =
      record {
        notes = a.0 ∙ sym b.0;
        does = a.1 ∙ sym b.1;
        behind = behind-by n known noted ring done mine behind
            (subst (λ l. endings l ≤ closings done) (sym a.0)
            (let z : endings [] ≤ closings done = omega arith in z));
      }
  collect-same laws node Due one known noted noted' ring done done' behind mine m m' true a b =
      record {
        notes = a.2 ∙ (λ i. entries.Collect (calls i) ∷ o.notes i) ∙ sym b.2;
        does = o.does;
        behind = subst (λ k. Behind n k (ring ++ done)) (append_assoc known
            (entries.Collect a.0 ∷ []) a.1 ∙ ap (λ l. known ++ l) (sym a.2)) o.behind;
      }
    where
      split : May fixed net n ((known ++ entries.Collect a.0 ∷ []) ++ a.1) (ring ++ done)
      split = may-as fixed net n _ _ _ _ (ap (λ l. known ++ l) a.2
          ∙ sym (append_assoc known (entries.Collect a.0 ∷ []) a.1)) refl m

      split' : May fixed net n ((known ++ entries.Collect b.0 ∷ []) ++ b.1) (ring ++ done')
      split' = may-as fixed net n _ _ _ _ (ap (λ l. known ++ l) b.2
          ∙ sym (append_assoc known (entries.Collect b.0 ∷ []) b.1)) refl m'

      are : a.0 ≡ uncollected (controller_at fixed known)
      are = (fits_last (controller_at fixed known) (entries.Collect a.0)
          (front_legal fixed (known ++ entries.Collect a.0 ∷ []) a.1 split.legal)).1

      are' : b.0 ≡ uncollected (controller_at fixed known)
      are' = (fits_last (controller_at fixed known) (entries.Collect b.0)
          (front_legal fixed (known ++ entries.Collect b.0 ∷ []) b.1 split'.legal)).1

      calls : a.0 ≡ b.0
      calls = are ∙ sym are'

      legal : IsLegal fixed known
      legal = front_legal fixed known (entries.Collect a.0 ∷ [])
          (front_legal fixed (known ++ entries.Collect a.0 ∷ []) a.1 split.legal)

      named : Each (λ (call : Call). call.id.node ≡ n) a.0
      named = subst (Each (λ (call : Call). call.id.node ≡ n)) (sym are)
          (own-calls (items_of known).calls (items_of known).ends
          (uncollected (controller_at fixed known)) (collected-new laws fixed known legal) node)

      before : Behind n (known ++ entries.Collect a.0 ∷ []) ring
      before = subst (Behind n (known ++ entries.Collect a.0 ∷ [])) (append-nil ring)
          (behind-more n known (entries.Collect a.0 ∷ []) ring [] behind
          (let z : endings (entries.Collect a.0 ∷ [])
          ≤ closings (Rattle.tied_lists.specs.Own.own n []) = omega arith in z))

      o : One n (known ++ entries.Collect a.0 ∷ []) ring a.1 b.1 done done'
      o = one-in-order fixed net n (λ (call : Call). call.id.node ≡ n) Due one a.0
          (known ++ entries.Collect a.0 ∷ []) a.1 b.1 ring done done' named before mine split
          (may-as fixed net n _ _ _ _
          (λ i. (known ++ entries.Collect (sym calls i) ∷ []) ++ b.1) refl split')
          a.3 (subst (λ cs. InOrder Due cs b.1 done') (sym calls) b.3)

  pub collects-same : CallLaws → fixed.plan.node ≡ n
      → (Due : Call → List Entry → List RingEntry → Type 0)
      → OneDue fixed net n (λ (call : Call). call.id.node ≡ n) Due
      → (a b b' : List Entry) (x y y' : List RingEntry) → Behind n a x
      → Collects true true fixed n Due a b x y → May fixed net n b y
      → Collects true true fixed n Due a b' x y' → May fixed net n b' y' → Same n b b' y y'
  collects-same laws node Due one a b b' x y y' behind c m c' m' =
      part-same (CollectsIf (has_started_at fixed a) Due)
      (λ known noted noted' ring done done' old mine may may' u v.
      collect-same laws node Due one known noted noted' ring done done' old mine may may'
      (has_started_at fixed a) u v)
      a b b' x y y' behind (of-asked c) m (of-asked c') m'
    where
      of-asked : {z : List Entry} {w : List RingEntry} → Collects true true fixed n Due a z x w
          → PartOf true true is_ours n (CollectsIf (has_started_at fixed a) Due) a z x w
      of-asked {z} {w} k =
          subst (λ l. PartOf true true is_ours n (CollectsIf (has_started_at fixed l) Due) l z x w)
          (went-is is_ours a k.asked k.asks) k.goes

-- ---- what is sent

-- as many calls are finished as given up
finish-few : (n : ℕ) (es : List RingEntry) → endings (filter_map finish_of es) ≤ closings es
finish-few n [] = omega arith
finish-few n (Post m f ∷ es) = let more = finish-few n es in omega (arith, more)
finish-few n (Send m heard ∷ es) = let more = finish-few n es in omega (arith, more)
finish-few n (Take m f ∷ es) = let more = finish-few n es in omega (arith, more)
finish-few n (Local m id op result ∷ es) = let more = finish-few n es in omega (arith, more)
finish-few n (GiveUp id word ∷ es) = let more = finish-few n es in omega (arith, more)
finish-few n (Pass m done words ∷ es) = let more = finish-few n es in omega (arith, more)
finish-few n (Leave m cause ∷ es) = let more = finish-few n es in omega (arith, more)
finish-few n (Join m ∷ es) = let more = finish-few n es in omega (arith, more)

-- what a controller sends makes one thing
pub sent-same : (fixed : Fixed) (net : NetPlan) (n : ℕ) (a b b' : List Entry)
    (x y y' : List RingEntry) → Behind n a x
    → NoneFailed each_path (part_at net n x) → SendsAll true true net n a b x y
    → May fixed net n b y → SendsAll true true net n a b' x y'
    → May fixed net n b' y' → Same n b b' y y'
unfolding sends-goes
sent-same fixed net n a b b' x y y' behind none s m s' m' = record {
  known_is = g.known_is ∙ ap (λ l. a ++ filter_map finish_of l) same ∙ sym g'.known_is;
  ring_is = g.ring_is ∙ ap (λ l. x ++ l) same ∙ sym g'.ring_is;
  behind = subst (λ k. Behind n k y) (sym g.known_is)
      (subst (Behind n (a ++ g.noted)) (sym g.ring_is)
      (behind-by n a g.noted x s.frames.done g.mine behind (finish-few n s.frames.done)));
}
  where
    g : Goes n a b x y
    g = sends-goes net n a b x y s

    g' : Goes n a b' x y'
    g' = sends-goes net n a b' x y' s'

    same : s.frames.done ≡ s'.frames.done
    same = frames-same net n each_path x y y' none s.frames m.ring_legal s'.frames m'.ring_legal
