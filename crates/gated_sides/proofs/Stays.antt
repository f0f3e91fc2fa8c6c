-- What a stay behind a gate finds and adds.
use Rattle.std.proofs.Common.{◌≡◌, ℕ, zero, suc, ◌<◌, List, [], ◌∷◌, ◌++◌, All, Result, Ok, Err}
use Rattle.std.proofs.Common.{IfOk, map, Option, Some, None, Bool, true, false, filter, refl, sym}
use Rattle.std.proofs.Common.{ap, ◌∙◌}
use Rattle.std.proofs.Common.{subst, ◌==◌, arith, append-nil, cond}
use Rattle.plant_types.specs.declared.net.NetPlan.{NetPlan}
use Rattle.mstr_block.specs.declared.call.CallId.{CallId}
use Rattle.ring_core.specs.declared.entry.RingEntry.{RingEntry}
use Rattle.ring_core.specs.declared.entry.RingEntry.TheVariants.{Take}
use Rattle.ring_core.specs.declared.frame.FrameKind.{FrameKind}
use Rattle.ring_core.specs.declared.frame.FrameKind.TheVariants.{Request, Reply}
use Rattle.ring_core.specs.declared.frame.Frame.{Frame}
use Rattle.ring_core.specs.Scratch.{words_put}
use Rattle.bridge_port.specs.CommPort.{taken_entries}
use Rattle.bridge_port.proofs.CommPort.{words-as}
use Rattle.ring_core.specs.Machine.{ring_after, ring_node}
use Rattle.ring_core.specs.Legal.{IsNextNumber}
use Rattle.ring_core.specs.Words.{maker}
use Rattle.controller_core.specs.declared.entry.Entry.{Entry}
use Rattle.controller_core.specs.declared.entry.Entry.TheVariants.{Begin, Input, Solve, Output, End}
use Rattle.controller_core.specs.declared.entry.Entry.TheVariants.{Collect, Peer, Finish}
use Rattle.controller_core.specs.declared.entry.Entry.TheVariants.{Fail, Dark, Off}
use Rattle.turn_gate.specs.Known.{GateName, IsPassReady, PassAdds, PassFacts, PassFinds, made_by}
use Rattle.tied_lists.specs.Own.{is_of, own, added_if, WentOn}
use Rattle.tied_lists.proofs.Turns.{own-found}
use Rattle.joint_history.specs.Reading.{is_ours}
use Rattle.gated_sides.specs.Cells.{maker_number}
use Rattle.gated_sides.proofs.Numbers.{number-others}
use Rattle.controller_core.specs.declared.fixed.Fixed.{Fixed}
use Rattle.controller_core.specs.declared.call.Call.{Call}
use Rattle.controller_core.specs.declared.entry.Maker.TheVariants.{Scan}
use Rattle.controller_core.specs.Controller.{AreOf}
use Rattle.controller_core.specs.Laws.{ConditionsStay}
use Rattle.tied_lists.specs.Calls.{AreNewCalls, IsOut}
use Rattle.tied_lists.specs.Items.{Items}
use Rattle.joint_history.specs.Reading.{called_of, items_of, controller_at, has_started_at}
use Rattle.joint_history.proofs.Items.{items-same}

module _ {E : Type 0} (maker : E → ℕ) where
  -- nothing was added
  pub all_none : (n : ℕ) → All (λ e. maker e ≡ n) []
  all_none n k d low = absurd (omega arith)

  -- one entry by the maker
  pub all_one : (n : ℕ) (e : E) → maker e ≡ n → All (λ x. maker x ≡ n) (e ∷ [])
  all_one n e is zero d low = is
  all_one n e is (suc k) d low = absurd (omega arith)

  -- what one call added, each entry by the maker
  pub all_if : {T X : Type 0} (n : ℕ) (r : Result T X) (f : T → E) → ((x : T) → maker (f x) ≡ n)
      → All (λ e. maker e ≡ n) (added_if r (λ x. f x ∷ []))
  all_if n (Ok x) f is = all_one n (f x) (is x)
  all_if n (Err x) f is = all_none n

  -- what a pass inside leaves: the entries that it found, and then its own
  pub adds : (q : PassFacts E) (n : ℕ) (found added left : List E) → q.number ≡ n → q.seen ≡ found
      → left ≡ found ++ added → All (λ e. maker e ≡ n) added → PassAdds maker q left
  adds q n found added left number seen is all = record {
    added = added;
    grown = is ∙ ap (λ l. l ++ added) (sym seen);
    own_all = subst (λ m. All (λ e. maker e ≡ m) added) (sym number) all;
  }

-- where nobody else writes a call leaves what was there, and then what it added
pub alone-is : {E : Type 0} (ours : E → Bool) (found added left : List E)
    → WentOn true ours found added left → left ≡ found ++ added
alone-is ours found added left w =
    w.after_is
    ∙ ap (λ l. l ++ added) (ap (λ l. found ++ l) (w.none_alone refl) ∙ append-nil found)

-- a call went on from what was found behind the gate, and so from what was known before
pub went-through : {E : Type 0} (ours : E → Bool) (known found added left : List E)
    → WentOn false ours known [] found → WentOn true ours found added left
    → WentOn false ours known added left
went-through ours known found added left f w = record {
  between = f.between;
  others = f.others;
  none_alone = f.none_alone;
  after_is = alone-is ours found added left w
      ∙ ap (λ l. l ++ added) (f.after_is ∙ append-nil (known ++ f.between));
}

module _ {E : Type 0} (maker : E → ℕ) (ours : E → Bool) where
  -- a pass finds what it knew, and then entries of others
  pub found-went : (n : ℕ) → ((es : List E) → made_by maker n es ≡ [] → filter ours es ≡ [])
      → (p : PassFacts E) (known entered found : List E) → p.number ≡ n
      → PassFinds maker p entered → p.seen ≡ known → found ≡ entered
      → WentOn false ours known [] found
  found-went n others p known entered found number f was same = record {
    between = f.between;
    others = others f.between (subst (λ m. made_by maker m f.between ≡ []) number f.not_mine);
    none_alone = λ no. absurd (let no' : false ≡ true = no in cc);
    after_is = same
        ∙ (f.begins ∙ (ap (λ l. l ++ f.between) was ∙ sym (append-nil (known ++ f.between))));
  }

  -- a call behind the gate leaves what the pass found, and then its own
  pub stay-adds : (q : PassFacts E) (n : ℕ) (entered found added left : List E) → q.number ≡ n
      → q.seen ≡ entered → found ≡ entered
      → WentOn true ours found added left → All (λ e. maker e ≡ n) added → PassAdds maker q left
  stay-adds q n entered found added left number seen same w all =
      adds maker q n found added left number (seen ∙ sym same) (alone-is ours found added left w)
      all

  -- what the pass knew went on by it, and by entries of others before
  pub stay-went : (n : ℕ) → ((es : List E) → made_by maker n es ≡ [] → filter ours es ≡ [])
      → (p : PassFacts E) (known entered found added left seen : List E)
      → p.number ≡ n → PassFinds maker p entered → p.seen ≡ known → found ≡ entered
      → WentOn true ours found added left → seen ≡ left
      → WentOn false ours known added seen
  stay-went n others p known entered found added left seen number f was same w now =
      subst (WentOn false ours known added) (sym now)
      (went-through ours known found added left
      (found-went n others p known entered found number f was same) w)

-- where the gate's list was empty at first, a pass made what names its number in all that it saw
pub own-made : {E : Type 0} (maker : E → ℕ) (n : ℕ) (name : GateName E) (p : PassFacts E)
    (seen : List E) → name.opening ≡ [] → IsPassReady maker n name p → p.seen ≡ seen
    → p.mine ≡ made_by maker n seen
own-made maker n name p seen unopened ready same =
    let o = ready.own_is in
    o.mine_is ∙ ap (λ m. made_by maker m o.made) ready.number_is
    ∙ ap (made_by maker n) (sym (sym same ∙ o.all_is ∙ ap (λ l. l ++ o.made)
    (ap (λ x. x.opening) ready.gate_is ∙ unopened)))

-- ---- a controller

-- an own event of the communication is one under its number
ours-is : (e : Entry) → is_ours e ≡ (maker_number e == 2)
ours-is Begin = refl
ours-is (Input row) = refl
ours-is (Solve row) = refl
ours-is (Output row words) = refl
ours-is End = refl
ours-is Fail = refl
ours-is Dark = refl
ours-is (Collect calls) = refl
ours-is (Peer id request reply) = refl
ours-is (Off id request) = refl
ours-is (Finish id result) = refl

ours-filter : (es : List Entry) → filter is_ours es ≡ made_by maker_number 2 es
ours-filter [] = refl
ours-filter (e ∷ es) =
    ap (λ (b : Bool). cond b (e ∷ filter is_ours es) (filter is_ours es)) (ours-is e)
    ∙ ap (λ l. cond (maker_number e == 2) (e ∷ l) l) (ours-filter es)

-- none under the communication's number is none of its own
pub none-ours : (es : List Entry) → made_by maker_number 2 es ≡ [] → filter is_ours es ≡ []
none-ours es none = ours-filter es ∙ none

of-scan : (es : List Entry) → filter is_ours es ≡ [] → AreOf Scan es
of-scan [] none = tt
of-scan (Begin ∷ es) none = (refl, of-scan es none)
of-scan (Input row ∷ es) none = (refl, of-scan es none)
of-scan (Solve row ∷ es) none = (refl, of-scan es none)
of-scan (Output row words ∷ es) none = (refl, of-scan es none)
of-scan (End ∷ es) none = (refl, of-scan es none)
of-scan (Fail ∷ es) none = (refl, of-scan es none)
of-scan (Dark ∷ es) none = (refl, of-scan es none)
of-scan (Collect calls ∷ es) none = absurd (cc)
of-scan (Peer id request reply ∷ es) none = absurd (cc)
of-scan (Off id request ∷ es) none = absurd (cc)
of-scan (Finish id result ∷ es) none = absurd (cc)

-- a call that was started is still there
pub started-found : ConditionsStay → (fixed fixed' : Fixed) (known found : List Entry)
    → fixed' ≡ fixed → WentOn false is_ours known [] found
    → has_started_at fixed known ≡ true → has_started_at fixed' found ≡ true
started-found stay fixed fixed' known found same w started =
    subst (λ f. has_started_at f found ≡ true) (sym same)
    (subst (λ l. has_started_at fixed l ≡ true) (sym (w.after_is ∙ append-nil (known ++ w.between)))
    ((stay.scans (controller_at fixed known) w.between false (of-scan w.between w.others)).started
    started))

-- what is new and what is out is so for both lists
pub fresh-as : {X : Type 0} (r : Result (List Call) X) (f g : Fixed) (known found : List Entry)
    → f ≡ g → WentOn false is_ours known [] found
    → IfOk r (λ calls. AreNewCalls f.plan.node (items_of found).calls (items_of found).ends
    (map called_of calls))
    → IfOk r (λ calls. AreNewCalls g.plan.node (items_of known).calls (items_of known).ends
    (map called_of calls))
fresh-as (Ok calls) f g known found same w new =
    subst (λ (x : Fixed). AreNewCalls x.plan.node (items_of known).calls (items_of known).ends
    (map called_of calls)) same
    (subst (λ (a : Items). AreNewCalls f.plan.node a.calls a.ends (map called_of calls))
    (items-same false known found w).items_are new)
fresh-as (Err why) f g known found same w new = tt

pub out-as : (id : CallId) (known found : List Entry) → WentOn false is_ours known [] found
    → IsOut (items_of known) id → IsOut (items_of found) id
out-as id known found w out =
    subst (λ (a : Items). IsOut a id) (sym (items-same false known found w).items_are)
    (out.0, record { made = out.1.made; unended = out.1.unended })

-- ---- the ring

pub none-own : (n : ℕ) (es : List RingEntry) → made_by maker n es ≡ [] → filter (is_of n) es ≡ []
none-own n es none = none

-- a Take added at most one entry of its node
pub all_taken : {X : Type 0} (n : ℕ) (r : Result (Option Frame) X)
    → All (λ e. maker e ≡ n) (added_if r (taken_entries n))
all_taken n (Ok None) = all_none maker n
all_taken n (Ok (Some f)) = all_one maker n (Take n f) refl
all_taken n (Err why) = all_none maker n

next-as : (net : NetPlan) (n : ℕ) (kind : FrameKind) (id : CallId) (known between : List RingEntry)
    → own n between ≡ [] → IsNextNumber (ring_node (ring_after net known) n) kind id
    → IsNextNumber (ring_node (ring_after net (known ++ between)) n) kind id
next-as net n Request id known between none next =
    subst (λ k. k < id.seq) (sym (number-others net n id.path known between none)) next
next-as net n Reply id known between none next = tt

-- the next number of a path is so behind the gate too
pub next-in : (net net' : NetPlan) (n : ℕ) (f : Frame) (p : PassFacts RingEntry)
    (known entered found : List RingEntry) → net' ≡ net → p.number ≡ n → PassFinds maker p entered
    → p.seen ≡ known → found ≡ entered
    → IsNextNumber (ring_node (ring_after net known) n) f.kind f.id
    → IsNextNumber (ring_node (ring_after net' found) n) f.kind f.id
next-in net net' n f p known entered found same number finds was is next =
    let w = found-went maker (is_of n) n (none-own n) p known entered found number finds was is in
    subst (λ (x : NetPlan). IsNextNumber (ring_node (ring_after x found) n) f.kind f.id) (sym same)
    (subst (λ l. IsNextNumber (ring_node (ring_after net l) n) f.kind f.id)
    (sym (w.after_is ∙ append-nil (known ++ w.between)))
    (next-as net n f.kind f.id known w.between w.others next))

-- and so are the words that a node has put
pub words-in : (n : ℕ) (p : PassFacts RingEntry) (known entered found : List RingEntry)
    → p.number ≡ n → PassFinds maker p entered
    → p.seen ≡ known → found ≡ entered → words_put n found ≡ words_put n known
words-in n p known entered found number finds was is =
    let w = found-went maker (is_of n) n (none-own n) p known entered found number finds was is in
    words-as n found known (ap (own n) (w.after_is ∙ append-nil (known ++ w.between))
    ∙ own-found n known w.between w.others)
