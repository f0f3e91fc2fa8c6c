-- Once the scans have ended a visit leaves no call uncollected.
use Rattle.std.proofs.Common.{◌≡◌, ◌≢◌, ℕ, Bool, true, false, List, [], ◌∷◌, ◌++◌, refl, sym, ap}
use Rattle.std.proofs.Common.{subst, ◌∙◌, append_assoc, append-nil}
use Rattle.std.specs.List.{AllByRecursion as Each}
use Rattle.mstr_block.specs.Table.{has_untaken}
use Rattle.mstr_block.specs.declared.call.CallId.{CallId}
use Rattle.plant_types.specs.declared.net.NetPlan.{NetPlan}
use Rattle.ring_core.specs.declared.entry.RingEntry.{RingEntry}
use Rattle.ring_core.specs.declared.status.NodeStatus.TheVariants.{Asking}
use Rattle.controller_core.specs.declared.call.Call.{Call}
use Rattle.controller_core.specs.declared.call.CallKind.{CallKind}
use Rattle.controller_core.specs.declared.call.CallKind.TheVariants as kinds
use Rattle.controller_core.specs.declared.entry.Entry.{Entry}
use Rattle.controller_core.specs.declared.entry.Entry.TheVariants as entries
use Rattle.controller_core.specs.declared.fixed.Fixed.{Fixed}
use Rattle.controller_core.specs.Controller.{IsLegal, uncollected}
use Rattle.controller_core.specs.Laws.{CallsFollow}
use Rattle.controller_core.specs.Replay.{ControllerState, start, table_of}
use Rattle.controller_core.proofs.CallLaws.{calls as calls-follow}
use Rattle.controller_core.proofs.Keeping.{replay_more}
use Rattle.controller_core.proofs.NextEntry.{front_legal}
use Rattle.tied_lists.specs.Waits.{HasLeft, status_at}
use Rattle.joint_history.specs.Reading.{controller_at, has_ended_at, has_started_at, is_off_at}
use Rattle.joint_history.proofs.Collected.{CallLaws}
use Rattle.comm_port.specs.HoldTurn.{CollectsIf, EndedAs, IsEnded, VisitsEnd}
use Rattle.comm_port.specs.Order.{IsFinish}
use Rattle.comm_port.specs.Parts.{InOrder}
use Rattle.turn_laws.specs.Laws.{EndedStays, VisitsCollect}
use Rattle.turn_laws.proofs.Gone.{inner-keeps, left-calm}
use Rattle.turn_laws.proofs.Passes.{each-join}
use Rattle.turn_laws.proofs.Rests.{ended-goes, ended-ours}
use Rattle.turn_laws.proofs.Went.{went-visit}

-- ---- each call ends by a Finish

ended-notes : (n : ℕ) (kind : CallKind) (id : CallId) (noted : List Entry) (done : List RingEntry)
    → EndedAs kind n id noted done → Each IsFinish noted
ended-notes n (kinds.Net route pdu) id noted done is = subst (Each IsFinish) (sym is.1) (tt, tt)
ended-notes n (kinds.Local op) id noted done is = subst (Each IsFinish) (sym is.1) (tt, tt)

order-notes : (n : ℕ) (calls : List Call) (noted : List Entry) (done : List RingEntry)
    → InOrder (IsEnded n) calls noted done → Each IsFinish noted
order-notes n [] noted done due = subst (Each IsFinish) (sym due.0) tt
order-notes n (x ∷ xs) noted done due =
    subst (Each IsFinish) (sym due.4)
    (each-join IsFinish due.0 due.1 (ended-notes n x.kind x.id due.0 due.2 due.6)
    (order-notes n xs due.1 due.3 due.7))

-- ---- scans that have ended

pub ended-on : EndedStays
ended-on fixed known new_known alone added w legal ended =
    let is = w.after_is ∙ append_assoc known w.between added in
    let g = ended-goes fixed known (w.between ++ added) (subst (IsLegal fixed) is legal) ended in
    (ap (has_ended_at fixed) is ∙ g.ended, ap (is_off_at fixed) is ∙ g.off)

-- ---- a visit

pub visit-status : (alone_ram alone_ring : Bool) (fixed : Fixed) (net : NetPlan) (n : ℕ)
    (known new_known : List Entry) (ring new_ring : List RingEntry)
    → VisitsEnd alone_ram alone_ring fixed net n known new_known ring new_ring
    → status_at net ring n ≢ Asking → status_at net new_ring n ≡ status_at net ring n
visit-status alone_ram alone_ring fixed net n known new_known ring new_ring v calm =
    let c = v.calls in
    let w = went-visit n alone_ram alone_ring fixed known new_known ring new_ring c in
    inner-keeps net n ring c.goes.node.more new_ring w.done c.goes.node.after_is w.own_is w.quiet
    calm

module _ (laws : CallsFollow) (fixed : Fixed) where
  quiet-finishes : (h xs : List Entry) → Each IsFinish xs
      → has_started_at fixed (h ++ xs) ≡ has_started_at fixed h
  quiet-finishes h [] all = ap (has_started_at fixed) (append-nil h)
  quiet-finishes h (entries.Finish id result ∷ xs) all =
      ap (has_started_at fixed) (sym (append_assoc h (entries.Finish id result ∷ []) xs))
      ∙ quiet-finishes (h ++ entries.Finish id result ∷ []) xs all.1
      ∙ (laws.finishes (controller_at fixed h) id result).started
  quiet-finishes h (entries.Begin ∷ xs) all = absurd all.0
  quiet-finishes h (entries.Input row ∷ xs) all = absurd all.0
  quiet-finishes h (entries.Solve row ∷ xs) all = absurd all.0
  quiet-finishes h (entries.Output row words ∷ xs) all = absurd all.0
  quiet-finishes h (entries.End ∷ xs) all = absurd all.0
  quiet-finishes h (entries.Fail ∷ xs) all = absurd all.0
  quiet-finishes h (entries.Dark ∷ xs) all = absurd all.0
  quiet-finishes h (entries.Collect calls ∷ xs) all = absurd all.0
  quiet-finishes h (entries.Peer id request reply ∷ xs) all = absurd all.0
  quiet-finishes h (entries.Off id request ∷ xs) all = absurd all.0

  collects-all : (h : List Entry) (calls : List Call)
      → has_started_at fixed (h ++ entries.Collect calls ∷ []) ≡ false
  collects-all h calls =
      let v = controller_at fixed h in
      ap (λ (s : ControllerState). has_untaken (table_of s))
      (replay_more fixed (start fixed.plan) h (entries.Collect calls)
      ∙ sym (replay_more fixed (start fixed.plan) h (entries.Collect (uncollected v))))
      ∙ (laws.collects v).started

  collected-by : (started : Bool) (n : ℕ) (asked noted : List Entry) (done : List RingEntry)
      → has_started_at fixed asked ≡ started → CollectsIf started (IsEnded n) noted done
      → has_started_at fixed (asked ++ noted) ≡ false
  collected-by true n asked noted done is due =
      ap (λ l. has_started_at fixed (asked ++ l)) due.2
      ∙ ap (has_started_at fixed) (sym (append_assoc asked (entries.Collect due.0 ∷ []) due.1))
      ∙ quiet-finishes (asked ++ entries.Collect due.0 ∷ []) due.1
      (order-notes n due.0 due.1 done due.3)
      ∙ collects-all asked due.0
  collected-by false n asked noted done is due =
      ap (λ l. has_started_at fixed (asked ++ l)) due.0
      ∙ ap (has_started_at fixed) (append-nil asked) ∙ is

  -- where nobody else writes, only the visit adds to the list
  pub alone-collects : (alone_ring : Bool) (net : NetPlan) (n : ℕ) (known new_known : List Entry)
      (ring new_ring : List RingEntry)
      → VisitsEnd true alone_ring fixed net n known new_known ring new_ring
      → has_started_at fixed new_known ≡ false
  alone-collects alone_ring net n known new_known ring new_ring v =
      let c = v.calls in
      let g = c.goes.station in
      ap (has_started_at fixed) (g.after_is ∙ ap (λ l. c.asked ++ l) (g.all_alone refl))
      ∙ collected-by (has_started_at fixed c.asked) n c.asked c.goes.noted c.goes.done refl
      c.goes.due

module _ (laws : CallLaws) (fixed : Fixed) where
  visit-collects : (alone_ram alone_ring : Bool) (net : NetPlan) (n : ℕ)
      (known new_known : List Entry) (ring new_ring : List RingEntry)
      → VisitsEnd alone_ram alone_ring fixed net n known new_known ring new_ring
      → HasLeft net ring n → IsLegal fixed new_known → has_ended_at fixed known ≡ true
      → (has_ended_at fixed new_known ≡ true) × (has_started_at fixed new_known ≡ false)
      × (is_off_at fixed new_known ≡ is_off_at fixed known)
      × (status_at net new_ring n ≡ status_at net ring n)
  visit-collects alone_ram alone_ring net n known new_known ring new_ring v left legal ended =
      let c = v.calls in
      let g = c.goes.station in
      let joined = subst (IsLegal fixed) g.after_is legal in
      let first = ended-on fixed known c.asked alone_ram [] c.asks
      (front_legal fixed c.asked g.more joined) ended in
      let last = ended-goes fixed c.asked g.more joined first.0 in
      let noted : g.more ≡ c.goes.noted =
      sym (ended-ours fixed c.asked g.more joined first.0) ∙ g.ours_are in
      let follow : CallsFollow = calls-follow laws.taking laws.finishing in (
        ap (has_ended_at fixed) g.after_is ∙ last.ended,
        ap (has_started_at fixed) (g.after_is ∙ ap (λ l. c.asked ++ l) noted)
            ∙ collected-by follow fixed (has_started_at fixed c.asked) n c.asked c.goes.noted
            c.goes.done refl c.goes.due,
        ap (is_off_at fixed) g.after_is ∙ last.off ∙ first.1,
        visit-status alone_ram alone_ring fixed net n known new_known ring new_ring v
            (left-calm net n ring left),
      )

pub visits-collect : CallLaws → VisitsCollect
visits-collect laws alone_ram alone_ring fixed net n known new_known ring new_ring v left legal
    ended = visit-collects laws fixed alone_ram alone_ring net n known new_known ring new_ring v
    left legal ended
