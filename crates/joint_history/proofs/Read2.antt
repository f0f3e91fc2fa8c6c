-- A read of two registers, as its journal tells it, keeps the laws between a controller's list and
-- its node's.
use Rattle.std.proofs.Common.{◌≡◌, false, true, ℕ, List, [], ◌∷◌, refl}
use Rattle.mstr_block.specs.declared.call.CallId.{CallId}
use Rattle.mstr_block.specs.declared.call.MstrResult.TheVariants.{Good}
use Rattle.ring_core.specs.declared.frame.FrameKind.{FrameKind}
use Rattle.ring_core.specs.declared.frame.FrameKind.TheVariants.{Request, Reply}
use Rattle.ring_core.specs.declared.frame.Frame.{Frame}
use Rattle.ring_core.specs.declared.entry.Heard.TheVariants.{Acked}
use Rattle.ring_core.specs.declared.entry.LeaveCause.TheVariants.{Ended}
use Rattle.ring_core.specs.declared.entry.RingEntry.{RingEntry}
use Rattle.ring_core.specs.declared.entry.RingEntry.TheVariants.{Post, Send, Take, Pass, Leave}
use Rattle.controller_core.specs.declared.call.CallKind.TheVariants.{Net}
use Rattle.controller_core.specs.declared.entry.Entry.{Entry}
use Rattle.controller_core.specs.declared.entry.Entry.TheVariants.{Begin, Solve, End, Collect, Peer}
use Rattle.controller_core.specs.declared.entry.Entry.TheVariants.{Finish}
use Rattle.tied_lists.specs.Own.{own}
use Rattle.tied_lists.specs.Items.{AController}
use Rattle.tied_lists.specs.Tied.{Tied}
use Rattle.joint_history.specs.declared.joint.ControllerLog.{ControllerLog}
use Rattle.joint_history.specs.Effects.{effects}
use Rattle.joint_history.specs.Reading.{items_of}
use Rattle.joint_history.proofs.OneRing.{on_one_ring}

abbrev id : CallId
id = record { node = 2; path = 1; seq = 1 }

abbrev reads : List ℕ
reads = 3 ∷ 0 ∷ 0 ∷ 0 ∷ 2 ∷ []

abbrev tells : List ℕ
tells = 3 ∷ 4 ∷ 0 ∷ 42 ∷ 0 ∷ 43 ∷ []

abbrev frame : FrameKind → ℕ → List ℕ → Frame
frame kind to pdu = record { kind = kind; to = to; rest = []; id = id; pdu = pdu }

abbrev reader : List Entry
reader =
    Begin ∷ Solve 1 ∷ End ∷ Collect (record { id = id; kind = Net (5 ∷ []) reads } ∷ []) ∷ Finish id
    (Good (42 ∷ 43 ∷ []))
    ∷ Begin ∷ Solve 1 ∷ End ∷ []

abbrev target : List Entry
target = Begin ∷ Solve 1 ∷ End ∷ Peer id reads tells ∷ Begin ∷ Solve 1 ∷ End ∷ []

abbrev ring : List RingEntry
ring =
    Post 2 (frame Request 5 reads) ∷ Send 2 Acked ∷ Pass 2 false [] ∷ Take 5 (frame Request 5 reads)
    ∷ Post 5 (frame Reply 2 tells) ∷ Send 5 Acked ∷ Pass 5 false [] ∷ Take 2 (frame Reply 2 tells)
    ∷ Pass 2 false [] ∷ Pass 5 false [] ∷ Pass 2 true [] ∷ Pass 5 true [] ∷ Leave 2 Ended
    ∷ Leave 5 Ended ∷ []

reader-tied : Tied AController (items_of reader) (own 2 ring)
reader-tied = record {
  asks = refl;
  peers = refl;
  port = refl;
  replies = refl;
  ends = refl;
  downs = (tt, tt);
}

target-tied : Tied AController (items_of target) (own 5 ring)
target-tied = record {
  asks = refl;
  peers = refl;
  port = refl;
  replies = refl;
  ends = refl;
  downs = (tt, tt);
}

abbrev both : List ControllerLog
both = record { node = 2; entries = reader } ∷ record { node = 5; entries = target } ∷ []

once : effects (on_one_ring both ring) id ≡ 1
once = refl
