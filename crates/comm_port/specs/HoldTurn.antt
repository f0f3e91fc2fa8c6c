-- A controller's turn, part by part. This project's own.
use Rattle.std.specs.Prelude.{◌≡◌, ℕ, Bool, true, false, if◌then◌else◌, List, [], ◌∷◌}
use Rattle.std.specs.Prelude.{filter_map, Option, Some, None, is_some}
use Rattle.plant_types.specs.declared.net.NetPlan.{NetPlan}
use Rattle.mstr_block.specs.Table.{network_paths}
use Rattle.mstr_block.specs.declared.call.CallId.{CallId}
use Rattle.mstr_block.specs.declared.call.MstrResult.{MstrResult}
use Rattle.mstr_block.specs.declared.call.MstrResult.TheVariants.{Bad}
use Rattle.controller_core.specs.declared.fixed.Fixed.{Fixed}
use Rattle.controller_core.specs.declared.call.Call.{Call}
use Rattle.controller_core.specs.declared.call.CallKind.{CallKind}
use Rattle.controller_core.specs.declared.call.CallKind.TheVariants as kinds
use Rattle.controller_core.specs.declared.entry.Entry.{Entry}
use Rattle.controller_core.specs.declared.entry.Entry.TheVariants.{Collect, Finish}
use Rattle.controller_core.specs.Event.{peer_entry}
use Rattle.ring_core.specs.Machine.{NodeIs, ring_node, ring_after, path_of}
use Rattle.ring_core.specs.Words.{request_along}
use Rattle.ring_core.specs.Scratch.{words_put}
use Rattle.ring_core.specs.Statistics.{is_for_stats}
use Rattle.ring_core.specs.declared.path.Await.{Await}
use Rattle.ring_core.specs.declared.path.Await.TheVariants.{Out}
use Rattle.ring_core.specs.declared.frame.FrameKind.{FrameKind}
use Rattle.ring_core.specs.declared.frame.FrameKind.TheVariants.{Request, Reply}
use Rattle.ring_core.specs.declared.frame.Frame.{Frame}
use Rattle.ring_core.specs.declared.entry.LocalOp.{LocalOp}
use Rattle.ring_core.specs.declared.entry.RingEntry.{RingEntry}
use Rattle.ring_core.specs.declared.entry.RingEntry.TheVariants.{Post, Take, Local, GiveUp}
use Rattle.tied_lists.specs.Own.{own, WentOn, Grew}
use Rattle.tied_lists.specs.Items.{latest_down, request_of, reply_of}
pub use Rattle.comm_port.specs.Giving.{inbox_of}
use Rattle.comm_port.specs.Giving.{due_by, each_path}
use Rattle.comm_port.specs.Ending.{AsksIfDone}
use Rattle.comm_port.specs.Leaving.{cause_due, HandedOn}
use Rattle.comm_port.specs.Parts.{InOrder, PartOf, calls_waiting}
use Rattle.joint_history.specs.Reading.{is_ours, has_started_at}
use Rattle.comm_port.specs.Replies.{reply_frame}
use Rattle.comm_port.specs.SendsAll.{SendsFrames}

-- ---- First: what lies in the inbox is served.

-- The Reply that is posted; none where there is no power.
abbrev pub reply_entries : ℕ → CallId → Option (List ℕ) → List RingEntry
reply_entries n id (Some reply) = Post n (reply_frame id reply) ∷ []
reply_entries n id None = []

-- A frame is served: it is taken, and a Reply finishes its call. A request for statistics has the
-- port do what is asked and post its Reply, with power or without; another is answered by the
-- controller, and posted, where there is power.
abbrev pub ServedAs : FrameKind → Bool → ℕ → Frame → List Entry → List RingEntry → Type 0
ServedAs Reply stats n f noted done = (result : MstrResult) × (noted ≡ Finish f.id result ∷ [])
    × (done ≡ Take n f ∷ [])
ServedAs Request true n f noted done = (op : LocalOp) × (result : MstrResult)
    × (request_of op ≡ Some f.pdu) × (noted ≡ [])
    × (done ≡ Take n f ∷ Local n f.id op result ∷ Post n (reply_frame f.id (reply_of result)) ∷ [])
ServedAs Request false n f noted done = (reply : Option (List ℕ))
    × (noted ≡ peer_entry f.id f.pdu reply ∷ []) × (done ≡ Take n f ∷ reply_entries n f.id reply)

abbrev pub IsServed : ℕ → Frame → List Entry → List RingEntry → Type 0
IsServed n f noted done = ServedAs f.kind (is_for_stats f) n f noted done

-- ---- Second: the calls that were started are made.

-- A call is made: its Request is posted; or the port does it at once, which finishes it.
abbrev pub MadeAs : CallKind → ℕ → CallId → List Entry → List RingEntry → Type 0
MadeAs (kinds.Net route pdu) n id noted done =
    (noted ≡ []) × (done ≡ Post n (request_along id route pdu) ∷ [])
MadeAs (kinds.Local op) n id noted done = (result : MstrResult)
    × (noted ≡ Finish id result ∷ []) × (done ≡ Local n id op result ∷ [])

abbrev pub IsMade : ℕ → Call → List Entry → List RingEntry → Type 0
IsMade n call noted done = MadeAs call.kind n call.id noted done

-- Where calls were started they are collected, and to each what is due is done; else nothing is.
abbrev pub CollectsIf : Bool → (Call → List Entry → List RingEntry → Type 0) → List Entry
    → List RingEntry → Type 0
CollectsIf true Due noted done = (calls : List Call) × (rest : List Entry)
    × (noted ≡ Collect calls ∷ rest) × InOrder Due calls rest done
CollectsIf false Due noted done = (noted ≡ []) × (done ≡ [])

-- A controller is asked whether calls were started, and what is due to them is done.
pub record Collects (alone_ram alone_ring : Bool) (fixed : Fixed) (n : ℕ)
    (Due : Call → List Entry → List RingEntry → Type 0) (known new_known : List Entry)
    (ring new_ring : List RingEntry) : Type 0 where
  pub asked : List Entry
  pub asks : WentOn alone_ram is_ours known [] asked
  pub goes : PartOf alone_ram alone_ring is_ours n (CollectsIf (has_started_at fixed asked) Due)
      asked new_known ring new_ring

-- ---- Third: the outbox is sent.

-- A call that is given up finishes with its word.
abbrev pub finish_of : RingEntry → Option Entry
finish_of (GiveUp id word) = Some (Finish id (Bad word))
finish_of _ = None

-- A node sends until its outbox is empty; each call that fails is given up at once and finished.
pub record SendsAll (alone_ram alone_ring : Bool) (net : NetPlan) (n : ℕ)
    (known new_known : List Entry) (ring new_ring : List RingEntry) : Type 0 where
  pub frames : SendsFrames alone_ring net n each_path ring new_ring
  pub finishes : Grew alone_ram is_ours known (filter_map finish_of frames.done) new_known

-- ---- Fourth: calls that waited for too long are given up.

-- The call of a path that has waited for an answer for as many Passes of its node.
abbrev pub overdue_by : ℕ → ℕ → ℕ → Await → Option CallId
overdue_by answer n path (Out seq to onward passes) =
    due_by answer true n path (Out seq to onward passes)
overdue_by answer n path _ = None

abbrev pub overdue_on : NetPlan → ℕ → NodeIs → ℕ → Option CallId
overdue_on net n c path = overdue_by net.answer n path (path_of c path).awaits

-- The calls that have waited for an answer for too long, by rising path.
abbrev pub overdue : NetPlan → ℕ → List RingEntry → List CallId
overdue net n ring =
    filter_map (overdue_on net n (ring_node (ring_after net ring) n)) network_paths

-- A call is given up, and finished with that word.
abbrev pub IsGivenUp : CallId → List Entry → List RingEntry → Type 0
IsGivenUp id noted done = (word : ℕ) × (noted ≡ Finish id (Bad word) ∷ [])
    × (done ≡ GiveUp id word ∷ [])

-- ---- Last: the token goes on.

-- The node leaves or passes the token on, as is due, and a Pass says exactly whether the
-- controller is done. After a Leave each call that waits is given up, and none is left.
pub record EndsHoldTurn (alone_ram alone_ring : Bool) (fixed : Fixed) (net : NetPlan) (n : ℕ)
    (budget : Bool) (known new_known : List Entry) (ring new_ring : List RingEntry)
    (left : Bool) : Type 0 where
  pub done : Bool
  pub asked_known : List Entry
  pub asked : AsksIfDone alone_ram fixed (latest_down (own n ring)) (calls_waiting n ring ≡ [])
      known asked_known done
  pub left_is : left ≡ is_some (cause_due net (ring_after net ring) n done budget)
  pub handed_ring : List RingEntry
  pub handed : HandedOn alone_ring net n done (words_put n ring)
      (cause_due net (ring_after net ring) n done budget) ring handed_ring
  pub gives_up : PartOf alone_ram alone_ring is_ours n
      (InOrder IsGivenUp (if left then calls_waiting n ring else [])) asked_known new_known
      handed_ring new_ring
  pub none_waits : left ≡ true → calls_waiting n new_ring ≡ []

-- A turn in which no failure is unnoticed at first: its five parts one after another.
pub record WorksTurn (alone_ram alone_ring : Bool) (fixed : Fixed) (net : NetPlan) (n : ℕ)
    (budget : Bool) (known new_known : List Entry) (ring new_ring : List RingEntry)
    (left : Bool) : Type 0 where
  pub served_known : List Entry
  pub served_ring : List RingEntry
  pub serves : PartOf alone_ram alone_ring is_ours n (InOrder (IsServed n) (inbox_of net n ring))
      known served_known ring served_ring
  pub all_served : inbox_of net n served_ring ≡ []
  pub called_known : List Entry
  pub called_ring : List RingEntry
  pub calls : Collects alone_ram alone_ring fixed n (IsMade n) served_known called_known
      served_ring called_ring
  pub sent_known : List Entry
  pub sent_ring : List RingEntry
  pub sends : SendsAll alone_ram alone_ring net n called_known sent_known called_ring sent_ring
  pub given_known : List Entry
  pub given_ring : List RingEntry
  pub gives_up : PartOf alone_ram alone_ring is_ours n (InOrder IsGivenUp (overdue net n sent_ring))
      sent_known given_known sent_ring given_ring
  pub ends : EndsHoldTurn alone_ram alone_ring fixed net n budget given_known new_known given_ring
      new_ring left

-- ---- A controller that has left.

-- A call is made and ended at once: a Request is posted, given up and finished with that word.
abbrev pub EndedAs : CallKind → ℕ → CallId → List Entry → List RingEntry → Type 0
EndedAs (kinds.Net route pdu) n id noted done = (word : ℕ) × (noted ≡ Finish id (Bad word) ∷ [])
    × (done ≡ Post n (request_along id route pdu) ∷ GiveUp id word ∷ [])
EndedAs (kinds.Local op) n id noted done = MadeAs (kinds.Local op) n id noted done

abbrev pub IsEnded : ℕ → Call → List Entry → List RingEntry → Type 0
IsEnded n call noted done = EndedAs call.kind n call.id noted done

-- A visit: the calls that were started are collected, and each is ended at once. None waits that
-- did not before.
pub record VisitsEnd (alone_ram alone_ring : Bool) (fixed : Fixed) (net : NetPlan) (n : ℕ)
    (known new_known : List Entry) (ring new_ring : List RingEntry) : Type 0 where
  pub calls : Collects alone_ram alone_ring fixed n (IsEnded n) known new_known ring new_ring
  pub as_before : calls_waiting n new_ring ≡ calls_waiting n ring
