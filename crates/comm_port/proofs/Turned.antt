-- The parts of a turn, put together.
use Rattle.std.proofs.Common.{◌≡◌, ℕ, ◌<◌, Bool, List, [], sym, ◌∙◌, subst}
use Rattle.plant_types.specs.declared.net.NetPlan.{NetPlan}
use Rattle.mstr_block.specs.declared.call.CallId.{CallId}
use Rattle.controller_core.specs.declared.entry.Entry.{Entry}
use Rattle.ring_core.specs.declared.frame.Frame.{Frame}
use Rattle.ring_core.specs.declared.entry.RingEntry.{RingEntry}
use Rattle.ring_core.specs.Machine.{NodeIs}
use Rattle.ring_core.specs.Legal.{IsLegalRing}
use Rattle.std.proofs.Common.{Option}
use Rattle.std.specs.List.{AllByRecursion as Each}
use Rattle.tied_lists.specs.Own.{is_of, Adds}
use Rattle.tied_lists.specs.Waits.{IsOnRing, IsFree, Holds}
use Rattle.tied_lists.proofs.Growth.{adds-weaker}
use Rattle.comm_port.specs.Giving.{part_at, due_calls, NoneFailed, each_path, IsAtRest, MaySend}
use Rattle.comm_port.specs.HoldTurn.{inbox_of, overdue, IsGivenUp, SendsAll}
use Rattle.comm_port.specs.Order.{IsServing, IsCalling, IsGivingUp}
use Rattle.comm_port.specs.Parts.{InOrder, PartOf}
use Rattle.mstr_block.specs.Table.{network_paths}
use Rattle.joint_history.specs.Reading.{is_ours}
use Rattle.comm_port.specs.Sides.{RingSideIs, RamSideIs}
use Rattle.comm_port.specs.Turns.{KeepsInbox, Turning}
use Rattle.comm_port.specs.Waiting.{free_paths}
use Rattle.comm_port.proofs.Leaves.{asks-start, may-send, overdue-is, ending-too}
use Rattle.comm_port.proofs.Through.{through, rest-through, NoAsks, Asks, IsEnding, serving-keeps}
use Rattle.comm_port.proofs.Through.{calling-keeps}

-- what is served asks nothing
no-asks : (c : NodeIs) → c.outbox ≡ [] → NoneFailed each_path c → NoAsks c
no-asks c sent none = (none, subst (Each _) (sym sent) tt)

-- after the first two parts the node may send
pub sends-next : {P Q : Type 0} (alone : Bool) (n : ℕ) (ram : RamSideIs P) (known : List Entry)
    (side : RingSideIs Q) (ring served called : List RingEntry) (w :
    List (Option Frame)) → 0 < side.net.answer → IsAtRest side.net n ring → IsOnRing side.net ring n
    → IsFree side.net ring n → Adds alone (is_of n) (IsServing n)
    ring served → Turning n [] ram known side served w
    → Adds alone (is_of n) (IsCalling n) served called → IsLegalRing side.net called
    → MaySend side.net n (free_paths w) (part_at side.net n called)
sends-next alone n ram known side ring served called w wait rest on free one t two legal =
    let net = side.net in
    let q = through alone net n (IsServing n) NoAsks ring served (serving-keeps net n) on
    t.own_turn.on.legal free one
    (no-asks (part_at net n ring) rest.all_sent rest.none_failed) in
    let start = asks-start n ram known side served w wait t q in
    may-send net n (free_paths w) (part_at net n called)
    (through alone net n (IsCalling n) (Asks (free_paths w) net.answer) served called
    (calling-keeps net n (free_paths w) wait) t.own_turn.on legal t.own_turn.free two start)

-- after the third the node is at rest
pub rest-sent : (alone alone' : Bool) (net : NetPlan) (n : ℕ) (known known' : List Entry)
    (ring ring' : List RingEntry) → SendsAll alone alone' net n known known' ring
    ring' → IsAtRest net n ring'
rest-sent alone alone' net n known known' ring ring' s = record {
  all_sent = s.frames.all_sent;
  none_failed = s.frames.none_failed;
}

-- and so after the fourth
pub rest-given : (alone : Bool) (net : NetPlan) (n : ℕ) (ring ring' : List RingEntry)
    → IsOnRing net ring n → IsLegalRing net ring' → Adds alone (is_of n) IsGivingUp
    ring ring' → IsAtRest net n ring → IsAtRest net n ring'
rest-given alone net n ring ring' on legal adds q =
    rest-through alone net n ring ring' on legal
    (adds-weaker alone (is_of n) IsGivingUp IsEnding ring ring' ending-too adds) q

pub given-over : (alone alone' : Bool) (net : NetPlan) (n : ℕ) (known known' : List Entry)
    (ring ring' : List RingEntry) → Holds net ring n → IsAtRest net n ring
    → PartOf alone alone' is_ours n (InOrder IsGivenUp (due_calls net n ring network_paths)) known
    known' ring ring'
    → PartOf alone alone' is_ours n (InOrder IsGivenUp (overdue net n ring)) known known' ring ring'
given-over alone alone' net n known known' ring ring' h q p =
    subst (λ (l : List CallId). PartOf alone alone' is_ours n (InOrder IsGivenUp l) known known'
    ring ring') (overdue-is net n ring h.here q.none_failed) p

pub inbox-kept : (net : NetPlan) (n : ℕ) (a b c d : List RingEntry) → inbox_of net n a ≡ []
    → KeepsInbox net n a b → KeepsInbox net n b c → KeepsInbox net n c d → inbox_of
    net n d ≡ []
inbox-kept net n a b c d empty x y z = z.inbox ∙ (y.inbox ∙ (x.inbox ∙ empty))
