-- The parts of a turn of a bridge's end, by what each adds to the bridge's list and to the ring's.
-- This project's own.
use Rattle.std.specs.Prelude.{◌≡◌, ℕ, ◌<◌, ◌-◌, Bool, true, false, not, List, [], ◌∷◌, filter_map}
use Rattle.std.specs.Prelude.{count_by, Option, Some, None, is_some, option_map}
use Rattle.std.specs.List.{AllByRecursion, list_any}
use Rattle.plant_types.specs.declared.net.BridgePlan.{BridgePlan}
use Rattle.plant_types.specs.declared.net.NetPlan.{NetPlan}
use Rattle.mstr_block.specs.Table.{network_paths}
use Rattle.mstr_block.specs.declared.call.CallId.{CallId}
use Rattle.mstr_block.specs.declared.call.MstrResult.{MstrResult}
use Rattle.bridge_relay.specs.declared.entry.BridgeEntry.{BridgeEntry}
use Rattle.bridge_relay.specs.declared.entry.BridgeEntry.TheVariants.{Accept, Forward, Finish}
use Rattle.bridge_relay.specs.declared.entry.BridgeEntry.TheVariants.{Back, Gone}
use Rattle.bridge_relay.specs.declared.entry.RelayResult.TheVariants as results
use Rattle.bridge_relay.specs.Bridge.{frame_made}
use Rattle.bridge_relay.specs.Laws.{end_after, is_by}
use Rattle.bridge_relay.specs.Legal.{due_back, due_forward}
use Rattle.bridge_relay.specs.Machine.{is_idle_end, relay_path}
use Rattle.ring_core.specs.Legal.{IsPath}
use Rattle.ring_core.specs.Machine.{only_bridges, posted, ring_after}
use Rattle.ring_core.specs.Scratch.{words_put}
use Rattle.ring_core.specs.Statistics.{is_for_stats}
use Rattle.ring_core.specs.declared.frame.FrameKind.{FrameKind}
use Rattle.ring_core.specs.declared.frame.FrameKind.TheVariants.{Request, Reply}
use Rattle.ring_core.specs.declared.frame.Frame.{Frame}
use Rattle.ring_core.specs.declared.entry.LocalOp.{LocalOp}
use Rattle.ring_core.specs.declared.entry.RingEntry.{RingEntry}
use Rattle.ring_core.specs.declared.entry.RingEntry.TheVariants.{Post, Take, Local, GiveUp}
use Rattle.tied_lists.specs.Own.{is_of, Grew, WentOn}
use Rattle.tied_lists.specs.Items.{reply_of, request_of}
use Rattle.comm_port.specs.Giving.{each_path, inbox_of, part_at, MaySend}
use Rattle.comm_port.specs.HoldTurn.{overdue}
use Rattle.comm_port.specs.Leaving.{cause_due, HandedOn}
use Rattle.comm_port.specs.Parts.{InOrder, PartOf, calls_waiting}
use Rattle.comm_port.specs.Replies.{reply_frame}
use Rattle.comm_port.specs.SendsAll.{SendsFrames}
use Rattle.comm_port.specs.JointHistory.{made_at_end}

-- ---- First: what lies in the inbox is served.

-- A frame is served: it is taken, and a Reply finishes its call. A request for statistics has the
-- port do what is asked and post its Reply; another is accepted.
abbrev pub EndServesAs : FrameKind → Bool → ℕ → Frame → List BridgeEntry → List RingEntry → Type 0
EndServesAs Reply stats n f noted done =
    (noted ≡ Finish n f.id (results.Reply f.pdu) ∷ []) × (done ≡ Take n f ∷ [])
EndServesAs Request true n f noted done = (op : LocalOp) × (result : MstrResult)
    × (request_of op ≡ Some f.pdu) × (noted ≡ [])
    × (done ≡ Take n f ∷ Local n f.id op result ∷ Post n (reply_frame f.id (reply_of result)) ∷ [])
EndServesAs Request false n f noted done =
    (noted ≡ Accept n f.id f.rest f.pdu ∷ []) × (done ≡ Take n f ∷ [])

abbrev pub EndServes : ℕ → Frame → List BridgeEntry → List RingEntry → Type 0
EndServes n f noted done = EndServesAs f.kind (is_for_stats f) n f noted done

-- A frame that was taken already is served.
abbrev pub EndAnswers : ℕ → Frame → List BridgeEntry → List RingEntry → Type 0
EndAnswers n f noted done = EndServes n f noted (Take n f ∷ done)

-- ---- Second: replies are given back, and requests sent on.

abbrev pub IsBackEntry : BridgeEntry → Type 0
IsBackEntry (Back side id reply) = Unit {0}
IsBackEntry _ = ⊥

abbrev pub IsForwardEntry : BridgeEntry → Type 0
IsForwardEntry (Forward side old id route request) = Unit {0}
IsForwardEntry _ = ⊥

-- What is posted of an entry: its frame, if it has one.
abbrev pub post_of : ℕ → BridgeEntry → Option RingEntry
post_of n e = option_map (Post n) (frame_made e)

-- Entries of one sort were made, and their frames posted in the same order.
abbrev pub ArePosted : (BridgeEntry → Type 0) → ℕ → List BridgeEntry → List RingEntry → Type 0
ArePosted Sort n noted done = AllByRecursion Sort noted × (done ≡ filter_map (post_of n) noted)

-- Each entry of one sort that was due was made, and its frame posted, until none is due.
pub record PostsAll (alone_bridge alone_ring : Bool) (Sort : BridgeEntry → Type 0)
    (due : List BridgeEntry → Option BridgeEntry) (n : ℕ) (list new_list : List BridgeEntry)
    (ring new_ring : List RingEntry) : Type 0 where
  pub part : PartOf alone_bridge alone_ring (is_by n) n (ArePosted Sort n) list new_list
      ring new_ring
  pub none_due : due new_list ≡ None

abbrev pub BacksAll : Bool → Bool → BridgePlan → ℕ → List BridgeEntry → List BridgeEntry
    → List RingEntry → List RingEntry → Type 0
BacksAll alone_bridge alone_ring plan n list new_list ring new_ring =
    PostsAll alone_bridge alone_ring IsBackEntry (λ past. due_back plan past n) n list new_list
    ring new_ring

abbrev pub ForwardsAll : Bool → Bool → BridgePlan → ℕ → List BridgeEntry → List BridgeEntry
    → List RingEntry → List RingEntry → Type 0
ForwardsAll alone_bridge alone_ring plan n list new_list ring new_ring =
    PostsAll alone_bridge alone_ring IsForwardEntry (λ past. due_forward plan past n) n
    list new_list ring new_ring

-- ---- Third: the outbox is sent.

-- A call that is given up finishes with its word.
abbrev pub finish_at_end : ℕ → RingEntry → Option BridgeEntry
finish_at_end n (GiveUp id word) = Some (Finish n id (results.Bad word))
finish_at_end n _ = None

-- A node sends until its outbox is empty; each call that fails is given up at once and finished.
pub record EndSendsAll (alone_bridge alone_ring : Bool) (net : NetPlan) (n : ℕ)
    (list new_list : List BridgeEntry) (ring new_ring : List RingEntry) : Type 0 where
  pub frames : SendsFrames alone_ring net n each_path ring new_ring
  pub finishes : Grew alone_bridge (is_by n) list
      (filter_map (finish_at_end n) frames.done) new_list

-- ---- Fourth: what waited for too long is given up.

-- A call is given up, and finished with that word.
abbrev pub EndGivesUp : ℕ → CallId → List BridgeEntry → List RingEntry → Type 0
EndGivesUp n id noted done = (word : ℕ) × (noted ≡ Finish n id (results.Bad word) ∷ [])
    × (done ≡ GiveUp id word ∷ [])

-- ---- Last: the token goes on.

-- The ring is asked whether all other nodes in it are ends of bridges, if it is asked at all.
abbrev pub AsksRing : Bool → Bool → NetPlan → ℕ → List RingEntry → List RingEntry → Bool → Type 0
AsksRing true alone net n ring new_ring answer =
    WentOn alone (is_of n) ring [] new_ring
    × (answer ≡ only_bridges net (ring_after net new_ring).nodes n)
AsksRing false alone net n ring new_ring answer = (new_ring ≡ ring) × (answer ≡ false)

-- The bridge is asked whether the end is idle, if it is asked at all; where it is, so is the ring.
abbrev pub AsksBridge : Bool → Bool → Bool → BridgePlan → NetPlan → ℕ → List BridgeEntry
    → List BridgeEntry → List RingEntry → List RingEntry → Bool → Type 0
AsksBridge true alone_bridge alone_ring plan net n list new_list ring new_ring answer =
    WentOn alone_bridge (is_by n) list [] new_list
    × AsksRing (is_idle_end (end_after plan new_list n)) alone_ring net n ring new_ring answer
AsksBridge false alone_bridge alone_ring plan net n list new_list ring new_ring answer =
    (new_list ≡ list) × (new_ring ≡ ring) × (answer ≡ false)

-- A turn asks whether the end is done: it is exactly where the turn posted no Request, and then the
-- end is idle and only ends of bridges are left, each as its list stood when it was asked.
abbrev pub EndAsksIfDone : Bool → Bool → BridgePlan → NetPlan → ℕ → Bool → List BridgeEntry
    → List BridgeEntry → List RingEntry → List RingEntry → Bool → Type 0
EndAsksIfDone alone_bridge alone_ring plan net n has_posted list new_list ring new_ring done =
    AsksBridge (not has_posted) alone_bridge alone_ring plan net n list new_list ring new_ring done

-- After a Leave each call that waits is given up and finished, by rising path; then the end is
-- gone.
pub record LeavesBridge (alone_bridge alone_ring : Bool) (n : ℕ) (list new_list : List BridgeEntry)
    (ring new_ring : List RingEntry) : Type 0 where
  pub given_list : List BridgeEntry
  pub gives_up : PartOf alone_bridge alone_ring (is_by n) n
      (InOrder (EndGivesUp n) (calls_waiting n ring)) list given_list ring new_ring
  pub none_waits : calls_waiting n new_ring ≡ []
  pub gone : WentOn alone_bridge (is_by n) given_list (Gone n ∷ []) new_list

-- What comes after the last entry of a turn: nothing after a Pass.
abbrev pub LeavesIf : Bool → Bool → Bool → ℕ → List BridgeEntry → List BridgeEntry
    → List RingEntry → List RingEntry → Type 0
LeavesIf true alone_bridge alone_ring n list new_list ring new_ring =
    LeavesBridge alone_bridge alone_ring n list new_list ring new_ring
LeavesIf false alone_bridge alone_ring n list new_list ring new_ring =
    (new_list ≡ list) × (new_ring ≡ ring)

-- The node leaves or passes the token on, as is due, and a Pass says exactly whether the end is
-- done.
pub record EndsEndTurn (alone_bridge alone_ring : Bool) (plan : BridgePlan) (net : NetPlan) (n : ℕ)
    (budget has_posted : Bool) (list new_list : List BridgeEntry) (ring new_ring : List RingEntry)
    (left : Bool) : Type 0 where
  pub done : Bool
  pub asked_list : List BridgeEntry
  pub asked_ring : List RingEntry
  pub asked : EndAsksIfDone alone_bridge alone_ring plan net n has_posted list asked_list
      ring asked_ring done
  pub left_is : left ≡ is_some (cause_due net (ring_after net asked_ring) n done budget)
  pub handed_ring : List RingEntry
  pub handed : HandedOn alone_ring net n done (words_put n asked_ring)
      (cause_due net (ring_after net asked_ring) n done budget) asked_ring handed_ring
  pub leaves : LeavesIf left alone_bridge alone_ring n asked_list new_list handed_ring new_ring

-- ---- The whole.

-- Whether a list has an item.
abbrev pub are_some : {E : Type 0} → List E → Bool
are_some [] = false
are_some (e ∷ es) = true

-- A turn of a bridge's end: its parts one after another.
pub record HoldsEndTurn (alone_bridge alone_ring : Bool) (plan : BridgePlan) (net : NetPlan)
    (n : ℕ) (budget : Bool) (list new_list : List BridgeEntry) (ring new_ring : List RingEntry)
    (left : Bool) : Type 0 where
  pub served_list : List BridgeEntry
  pub served_ring : List RingEntry
  pub serves : PartOf alone_bridge alone_ring (is_by n) n
      (InOrder (EndServes n) (inbox_of net n ring)) list served_list ring served_ring
  pub all_served : inbox_of net n served_ring ≡ []
  pub backed_list : List BridgeEntry
  pub backed_ring : List RingEntry
  pub backs : BacksAll alone_bridge alone_ring plan n served_list backed_list
      served_ring backed_ring
  pub called_list : List BridgeEntry
  pub called_ring : List RingEntry
  pub forwards : ForwardsAll alone_bridge alone_ring plan n backed_list called_list
      backed_ring called_ring
  pub sent_list : List BridgeEntry
  pub sent_ring : List RingEntry
  pub sends : EndSendsAll alone_bridge alone_ring net n called_list sent_list called_ring sent_ring
  pub given_list : List BridgeEntry
  pub given_ring : List RingEntry
  pub gives_up : PartOf alone_bridge alone_ring (is_by n) n
      (InOrder (EndGivesUp n) (overdue net n sent_ring)) sent_list given_list sent_ring given_ring
  pub ends : EndsEndTurn alone_bridge alone_ring plan net n budget (are_some forwards.part.noted)
      given_list new_list given_ring new_ring left

-- ---- What the parts say of one another.

abbrev pub is_accept : BridgeEntry → Bool
is_accept (Accept side id route request) = true
is_accept _ = false

abbrev pub is_back : BridgeEntry → Bool
is_back (Back side id reply) = true
is_back _ = false

-- How many replies an end can still give back to what it accepted.
abbrev pub backs_left : ℕ → List BridgeEntry → ℕ
backs_left n list = count_by is_accept (made_at_end n list) - count_by is_back (made_at_end n list)

-- How many paths of an end have no call out.
abbrev pub paths_left : BridgePlan → ℕ → List BridgeEntry → ℕ
paths_left plan n list =
    count_by (λ path. not (is_some (relay_path (end_after plan list n) path).out)) network_paths

-- A reply was given back and posted, if one was due.
pub record BacksNext (alone_bridge alone_ring : Bool) (plan : BridgePlan) (n : ℕ)
    (list new_list : List BridgeEntry) (ring new_ring : List RingEntry) (gave : Bool) : Type 0 where
  pub part : PartOf alone_bridge alone_ring (is_by n) n (ArePosted IsBackEntry n) list new_list
      ring new_ring
  pub less : gave ≡ true → backs_left n new_list < backs_left n list
  pub none_due : gave ≡ false → due_back plan new_list n ≡ None

-- Requests were sent on and posted, at least one exactly where this says so.
abbrev pub AreForwarded : Bool → ℕ → List BridgeEntry → List RingEntry → Type 0
AreForwarded some n noted done = ArePosted IsForwardEntry n noted done × (are_some noted ≡ some)

-- A request was sent on and posted on this path.
pub record ForwardsOne (alone_bridge alone_ring : Bool) (plan : BridgePlan) (net : NetPlan)
    (n path : ℕ) (list new_list : List BridgeEntry) (ring new_ring : List RingEntry)
    : Type 0 where
  pub is_path : IsPath path
  pub request : Frame
  pub kind : request.kind ≡ Request
  pub path_is : request.id.path ≡ path
  pub part : PartOf alone_bridge alone_ring (is_by n) n (AreForwarded true n) list new_list
      ring new_ring
  pub node_is : part_at net n new_ring ≡ posted (part_at net n ring) request
  pub fewer : paths_left plan n new_list < paths_left plan n list

-- No request was due to be sent on.
pub record ForwardsNone (alone_bridge : Bool) (plan : BridgePlan) (n : ℕ)
    (list new_list : List BridgeEntry) (ring new_ring : List RingEntry) : Type 0 where
  pub none_due : due_forward plan new_list n ≡ None
  pub noted : Grew alone_bridge (is_by n) list [] new_list
  pub same : new_ring ≡ ring

abbrev pub ForwardsNext : Bool → Bool → BridgePlan → NetPlan → ℕ → List BridgeEntry
    → List BridgeEntry → List RingEntry → List RingEntry → Option ℕ → Type 0
ForwardsNext alone_bridge alone_ring plan net n list new_list ring new_ring (Some path) =
    ForwardsOne alone_bridge alone_ring plan net n path list new_list ring new_ring
ForwardsNext alone_bridge alone_ring plan net n list new_list ring new_ring None =
    ForwardsNone alone_bridge plan n list new_list ring new_ring

-- Some path is chosen.
abbrev pub is_any_chosen : List Bool → Bool
is_any_chosen paths = list_any (λ chosen. chosen) paths

-- All requests that were due were sent on and posted, on the paths that an array notes; what the
-- node has to send now was posted on these.
pub record ForwardsOn (alone_bridge alone_ring : Bool) (plan : BridgePlan) (net : NetPlan) (n : ℕ)
    (list new_list : List BridgeEntry) (ring new_ring : List RingEntry) (fresh : List Bool)
    : Type 0 where
  pub all : ForwardsAll alone_bridge alone_ring plan n list new_list ring new_ring
  pub any : are_some all.part.noted ≡ is_any_chosen fresh
  pub may : MaySend net n fresh (part_at net n new_ring)
