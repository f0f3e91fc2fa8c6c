-- Replies to the Requests of others. This project's own.
use Rattle.std.specs.Prelude.{◌≡◌, ℕ, Bool, List, [], ◌∷◌, Some}
use Rattle.mstr_block.specs.declared.call.CallId.{CallId}
use Rattle.mstr_block.specs.declared.call.MstrResult.{MstrResult}
use Rattle.ring_core.specs.declared.frame.FrameKind.TheVariants.{Reply}
use Rattle.ring_core.specs.declared.frame.Frame.{Frame}
use Rattle.ring_core.specs.declared.entry.LocalOp.{LocalOp}
use Rattle.ring_core.specs.declared.entry.RingEntry.{RingEntry}
use Rattle.ring_core.specs.declared.entry.RingEntry.TheVariants.{Post, Local}
use Rattle.tied_lists.specs.Own.{is_of, Grew}
use Rattle.tied_lists.specs.Items.{request_of, reply_of}

-- The frame of a Reply, which goes no further.
abbrev pub reply_frame : CallId → List ℕ → Frame
reply_frame id pdu = record { kind = Reply; to = id.node; rest = []; id = id; pdu = pdu }

-- The port answered a request for statistics: by an operation for it, and a Reply that tells what
-- that came to.
pub record TellsStatistics (alone : Bool) (n : ℕ) (id : CallId) (request : List ℕ)
    (old new : List RingEntry) : Type 0 where
  pub op : LocalOp
  pub result : MstrResult
  pub answers : request_of op ≡ Some request
  pub grew : Grew alone (is_of n) old
      (Local n id op result ∷ Post n (reply_frame id (reply_of result)) ∷ []) new
