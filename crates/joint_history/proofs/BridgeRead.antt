-- A read over a bridge, as its journal tells it: node 2 on one ring reads two registers of node 5
-- on another, and the ends 9 and 12 of a bridge pass the request on and its reply back.
use Rattle.std.proofs.Common.{◌≡◌, false, true, ℕ, zero, suc, List, [], ◌∷◌, refl, arith}
use Rattle.std.specs.List.{All}
use Rattle.std.proofs.lemmas.List.Elements.{All-nil, All-cons}
use Rattle.mstr_block.specs.declared.call.CallId.{CallId}
use Rattle.ring_core.specs.declared.frame.FrameKind.{FrameKind}
use Rattle.ring_core.specs.declared.frame.FrameKind.TheVariants.{Request, Reply}
use Rattle.ring_core.specs.declared.frame.Frame.{Frame}
use Rattle.ring_core.specs.declared.entry.Heard.TheVariants.{Acked}
use Rattle.ring_core.specs.declared.entry.LeaveCause.TheVariants.{Ended}
use Rattle.ring_core.specs.declared.entry.RingEntry.{RingEntry}
use Rattle.ring_core.specs.declared.entry.RingEntry.TheVariants.{Post, Send, Take, Pass, Leave}
use Rattle.bridge_relay.specs.declared.entry.BridgeEntry.TheVariants as entries
use Rattle.bridge_relay.specs.declared.entry.RelayResult.TheVariants as results
use Rattle.joint_history.specs.declared.joint.BridgeLog.{BridgeLog}
use Rattle.joint_history.specs.Nets.{entries_of_rings}
use Rattle.joint_history.specs.JointLaws.{IsTiedBridge}
use Rattle.joint_history.specs.Bridges.{side_items}
use Rattle.joint_history.specs.Complete.{EndsEachCall, LeavesQuietly, SaysDone}

-- the call of node 2, and the same as the bridge sends it on
abbrev own-name : CallId
own-name = record { node = 2; path = 1; seq = 1 }

abbrev onward-name : CallId
onward-name = record { node = 12; path = 1; seq = 1 }

abbrev reads : List ℕ
reads = 3 ∷ 0 ∷ 0 ∷ 0 ∷ 2 ∷ []

abbrev tells : List ℕ
tells = 3 ∷ 4 ∷ 0 ∷ 42 ∷ 0 ∷ 43 ∷ []

abbrev frame : FrameKind → ℕ → List ℕ → CallId → List ℕ → Frame
frame kind to rest name pdu = record { kind = kind; to = to; rest = rest; id = name; pdu = pdu }

abbrev bridge : BridgeLog
bridge = record {
  left = 9;
  right = 12;
  entries =
      entries.Accept 9 own-name (5 ∷ []) reads
      ∷ entries.Forward 12 own-name onward-name (5 ∷ []) reads
      ∷ entries.Finish 12 onward-name (results.Reply tells) ∷ entries.Back 9 own-name tells
      ∷ entries.Gone 12 ∷ entries.Gone 9 ∷ [];
}

-- what the ring on the left noted, and what the one on the right did
abbrev near-ring : List RingEntry
near-ring =
    Post 2 (frame Request 9 (5 ∷ []) own-name reads) ∷ Send 2 Acked ∷ Pass 2 false []
    ∷ Take 9 (frame Request 9 (5 ∷ []) own-name reads) ∷ Pass 9 false [] ∷ Pass 2 false []
    ∷ Post 9 (frame Reply 2 [] own-name tells) ∷ Send 9 Acked ∷ Pass 9 true []
    ∷ Take 2 (frame Reply 2 [] own-name tells) ∷ Pass 2 true [] ∷ Leave 9 Ended ∷ Leave 2 Ended ∷ []

abbrev far-ring : List RingEntry
far-ring =
    Post 12 (frame Request 5 [] onward-name reads) ∷ Send 12 Acked ∷ Pass 12 false []
    ∷ Take 5 (frame Request 5 [] onward-name reads)
    ∷ Post 5 (frame Reply 12 [] onward-name tells) ∷ Send 5 Acked ∷ Pass 5 true []
    ∷ Take 12 (frame Reply 12 [] onward-name tells) ∷ Pass 12 true [] ∷ Leave 5 Ended
    ∷ Leave 12 Ended ∷ []

abbrev both : List RingEntry
both = entries_of_rings (record { network = 1; entries = near-ring }
    ∷ record { network = 2; entries = far-ring } ∷ [])

-- the laws hold between the bridge's list and the entries of its ends, over both rings
bridge-tied : IsTiedBridge both bridge
bridge-tied = record {
  left = record {
    asks = refl;
    peers = refl;
    port = refl;
    replies = record { given = refl; told = refl };
    ends = refl;
    downs = refl;
  };
  right = record {
    asks = refl;
    peers = refl;
    port = refl;
    replies = record { given = refl; told = refl };
    ends = refl;
    downs = refl;
  };
}

-- they do not where the end on the right loses what was to go on from its target
short-tied : IsTiedBridge near-ring bridge → ⊥
short-tied tied = let asks = tied.right.asks in absurd cc

-- the call that the bridge sent on has ended, once
sent-on : EndsEachCall (side_items 12 bridge.entries)
sent-on zero d low = refl
sent-on (suc k) d low = absurd (omega arith)

-- an end that asks behind a done Pass, and says done again, does not leave quietly
abbrev asked : RingEntry
asked = Post 12 (frame Request 5 [] onward-name reads)

restless : LeavesQuietly (Pass 12 true [] ∷ asked ∷ Pass 12 true [] ∷ Leave 12 Ended ∷ []) → ⊥
restless quiet =
    let done : All SaysDone (asked ∷ Pass 12 true [] ∷ []) =
    All-cons SaysDone asked (Pass 12 true [] ∷ []) tt
    (All-cons SaysDone (Pass 12 true []) [] refl (All-nil SaysDone)) in
    let between = (quiet [] (asked ∷ Pass 12 true [] ∷ []) [] 12 12 [] refl done).0 in
    let first = between 0 asked (omega arith) in
    absurd (let kind : Request ≡ Reply = first in cc)

-- nor does one that asks behind its Leave
restless-behind : LeavesQuietly (Pass 12 true [] ∷ Leave 12 Ended ∷ asked ∷ []) → ⊥
restless-behind quiet =
    let after = (quiet [] [] (asked ∷ []) 12 12 [] refl (All-nil SaysDone)).1 in
    let first = after 0 asked (omega arith) in
    absurd (let kind : Request ≡ Reply = first in cc)
