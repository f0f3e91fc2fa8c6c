-- A read whose target loses power: its Request is lost as the node leaves, or it comes without
-- power and has no effect; the laws between the lists hold, and do not hold of a node that leaves
-- too soon.
use Rattle.std.proofs.Common.{◌≡◌, ℕ, ◌++◌, false, true, List, [], ◌∷◌, refl, arith}
use Rattle.mstr_block.specs.declared.call.CallId.{CallId}
use Rattle.mstr_block.specs.declared.call.MstrResult.TheVariants.{Bad}
use Rattle.ring_core.specs.declared.frame.FrameKind.{FrameKind}
use Rattle.ring_core.specs.declared.frame.FrameKind.TheVariants.{Request, Reply}
use Rattle.ring_core.specs.declared.frame.Frame.{Frame}
use Rattle.ring_core.specs.declared.entry.Heard.TheVariants.{Acked}
use Rattle.ring_core.specs.declared.entry.LeaveCause.TheVariants.{Ended, Down}
use Rattle.ring_core.specs.declared.entry.RingEntry.{RingEntry}
use Rattle.ring_core.specs.declared.entry.RingEntry.TheVariants.{Post, Send, Take, GiveUp, Pass}
use Rattle.ring_core.specs.declared.entry.RingEntry.TheVariants.{Leave, Join}
use Rattle.controller_core.specs.declared.call.CallKind.TheVariants.{Net}
use Rattle.controller_core.specs.declared.entry.Entry.{Entry}
use Rattle.controller_core.specs.declared.entry.Entry.TheVariants.{Begin, Solve, End, Fail, Off}
use Rattle.controller_core.specs.declared.entry.Entry.TheVariants.{Collect, Peer, Finish}
use Rattle.tied_lists.specs.Own.{own}
use Rattle.tied_lists.specs.Items.{AController}
use Rattle.tied_lists.specs.Tied.{Tied}
use Rattle.joint_history.specs.declared.joint.ControllerLog.{ControllerLog}
use Rattle.joint_history.specs.Complete.{NoticesFailures, replies_due}
use Rattle.joint_history.specs.Effects.{effects}
use Rattle.joint_history.specs.Reading.{items_of}
use Rattle.joint_history.proofs.OneRing.{on_one_ring}

abbrev id-of : ℕ → CallId
id-of seq = record { node = 2; path = 1; seq = seq }

abbrev reads : List ℕ
reads = 3 ∷ 0 ∷ 0 ∷ 0 ∷ 2 ∷ []

abbrev tells : List ℕ
tells = 3 ∷ 4 ∷ 0 ∷ 42 ∷ 0 ∷ 43 ∷ []

abbrev frame : FrameKind → ℕ → ℕ → List ℕ → Frame
frame kind to seq pdu = record { kind = kind; to = to; rest = []; id = id-of seq; pdu = pdu }

-- ---- power fails in the first scan of node 5, and the Request is lost as it leaves
abbrev reader : List Entry
reader =
    Begin ∷ Solve 1 ∷ End ∷ Collect (record { id = id-of 1; kind = Net (5 ∷ []) reads } ∷ [])
    ∷ Begin ∷ Solve 1 ∷ End ∷ Finish (id-of 1) (Bad 0x6101) ∷ []

abbrev failing : List Entry
failing = Begin ∷ Fail ∷ Begin ∷ Solve 1 ∷ End ∷ []

abbrev round : List RingEntry
round = Pass 5 true [] ∷ Pass 2 false [] ∷ []

abbrev six : List RingEntry
six = round ++ round ++ round ++ round ++ round ++ round

abbrev ring : List RingEntry
ring =
    Post 2 (frame Request 5 1 reads) ∷ Send 2 Acked ∷ Pass 2 false [] ∷ Leave 5 (Down 1) ∷ Join 5
    ∷ Pass 2 false [] ∷ (six ++ six ++ six
    ++ (Pass 5 true [] ∷ GiveUp (id-of 1) 0x6101 ∷ Pass 2 true [] ∷ Leave 5 Ended ∷ Leave 2 Ended
    ∷ []))

reader-tied : Tied AController (items_of reader) (own 2 ring)
reader-tied = record {
  asks = refl;
  peers = refl;
  port = refl;
  replies = refl;
  ends = refl;
  downs = (tt, tt);
}

failing-tied : Tied AController (items_of failing) (own 5 ring)
failing-tied = record {
  asks = refl;
  peers = refl;
  port = refl;
  replies = refl;
  ends = refl;
  downs = ((omega arith, tt), (omega arith, tt));
}

abbrev both : List ControllerLog
both = record { node = 2; entries = reader } ∷ record { node = 5; entries = failing } ∷ []

none : effects (on_one_ring both ring) (id-of 1) ≡ 0
none = refl

failing-noticed : NoticesFailures (items_of failing) (own 5 ring)
failing-noticed n left = refl

-- ---- a node may not leave before its power failed so often, nor end with a failure unnoticed
too-soon : Tied AController (items_of (Begin ∷ [])) (own 5 ring) → ⊥
too-soon tied = let le = tied.downs.1.0 in absurd (omega (arith, le))

unnoticed : NoticesFailures (items_of (failing ++ (Begin ∷ Fail ∷ []))) (own 5 ring) → ⊥
unnoticed noticed =
    let same : 2 ≡ 1 = noticed 5 (21, omega arith, refl) in absurd (omega (arith, same))

-- ---- a Request that comes without power has no Reply and no effect, the next one has both
abbrev serves : List Entry
serves =
    Begin ∷ Fail ∷ Off (id-of 1) reads ∷ Begin ∷ Peer (id-of 2) reads tells ∷ Solve 1 ∷ End ∷ []

abbrev served : List RingEntry
served =
    Take 5 (frame Request 5 1 reads) ∷ Take 5 (frame Request 5 2 reads)
    ∷ Post 5 (frame Reply 2 2 tells) ∷ Send 5 Acked ∷ Pass 5 true [] ∷ []

serves-tied : Tied AController (items_of serves) served
serves-tied = record {
  asks = refl;
  peers = refl;
  port = refl;
  replies = refl;
  ends = refl;
  downs = (tt, tt);
}

abbrev one : List ControllerLog
one = record { node = 5; entries = serves } ∷ []

no-effect : effects (on_one_ring one served) (id-of 1) ≡ 0
no-effect = refl

one-effect : effects (on_one_ring one served) (id-of 2) ≡ 1
one-effect = refl

one-due : replies_due (items_of serves) served served ≡ 1
one-due = refl

-- a Request that nobody answered is no such one
unanswered : Tied AController (items_of (Begin ∷ Fail ∷ [])) served → ⊥
unanswered tied = let peers = tied.peers in absurd cc
