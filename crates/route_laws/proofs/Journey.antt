-- A read over a bridge: node 2 on one ring reads two registers of node 5 on another. The call has
-- two names, and took effect once, at node 5, under the second.
use Rattle.std.proofs.Common.{◌≡◌, ℕ, false, true, List, [], ◌∷◌, refl, arith, inl}
use Rattle.std.proofs.lemmas.List.Elements.{All-from_recursion}
use Rattle.mstr_block.specs.declared.call.CallId.{CallId}
use Rattle.mstr_block.specs.declared.call.MstrResult.TheVariants.{Good}
use Rattle.ring_core.specs.declared.frame.FrameKind.{FrameKind}
use Rattle.ring_core.specs.declared.frame.FrameKind.TheVariants.{Request, Reply}
use Rattle.ring_core.specs.declared.frame.Frame.{Frame}
use Rattle.ring_core.specs.declared.entry.Heard.TheVariants.{Acked}
use Rattle.ring_core.specs.declared.entry.LeaveCause.TheVariants.{Ended}
use Rattle.ring_core.specs.declared.entry.RingEntry.{RingEntry}
use Rattle.ring_core.specs.declared.entry.RingEntry.TheVariants.{Post, Send, Take, Pass, Leave}
use Rattle.controller_core.specs.declared.call.Call.{Call}
use Rattle.controller_core.specs.declared.call.CallKind.TheVariants.{Net}
use Rattle.controller_core.specs.declared.entry.Entry.TheVariants.{Collect, Finish, Peer}
use Rattle.bridge_relay.specs.declared.entry.BridgeEntry.TheVariants as bridge_entries
use Rattle.bridge_relay.specs.declared.entry.RelayResult.TheVariants as relay_results
use Rattle.joint_history.specs.declared.joint.BridgeLog.{BridgeLog}
use Rattle.joint_history.specs.declared.joint.ControllerLog.{ControllerLog}
use Rattle.joint_history.specs.declared.joint.Joint.{Joint}
use Rattle.joint_history.specs.Effects.{effects}
use Rattle.joint_history.specs.JointLaws.{IsJoint, IsTiedBridge, IsTiedController, IsTiedHost}
use Rattle.joint_history.specs.Nets.{noted_on_rings}
use Rattle.effect_laws.specs.Success.{ReportsSuccess}
use Rattle.route_laws.specs.Ends.{AnsweredAtEnd, AsksBy}
use Rattle.route_laws.specs.Ways.{effects_on_way, names_on_way}

-- the call of node 2, and the same as the bridge sends it on
abbrev pub own-name : CallId
own-name = record { node = 2; path = 1; seq = 1 }

abbrev pub onward-name : CallId
onward-name = record { node = 12; path = 1; seq = 1 }

abbrev pub reads : List ℕ
reads = 3 ∷ 0 ∷ 0 ∷ 0 ∷ 2 ∷ []

abbrev pub tells : List ℕ
tells = 3 ∷ 4 ∷ 0 ∷ 42 ∷ 0 ∷ 43 ∷ []

abbrev frame : FrameKind → ℕ → List ℕ → CallId → List ℕ → Frame
frame kind to rest name pdu = record { kind = kind; to = to; rest = rest; id = name; pdu = pdu }

abbrev pub asks : Call
asks = record { id = own-name; kind = Net (9 ∷ 5 ∷ []) reads }

abbrev pub caller : ControllerLog
caller = record {
  node = 2;
  entries = Collect (asks ∷ []) ∷ Finish own-name (Good (42 ∷ 43 ∷ [])) ∷ [];
}

abbrev pub target : ControllerLog
target = record { node = 5; entries = Peer onward-name reads tells ∷ [] }

abbrev pub bridge : BridgeLog
bridge = record {
  left = 9;
  right = 12;
  entries =
      bridge_entries.Accept 9 own-name (5 ∷ []) reads
      ∷ bridge_entries.Forward 12 own-name onward-name (5 ∷ []) reads
      ∷ bridge_entries.Finish 12 onward-name (relay_results.Reply tells)
      ∷ bridge_entries.Back 9 own-name tells ∷ bridge_entries.Gone 12 ∷ bridge_entries.Gone 9 ∷ [];
}

-- what the ring on the left noted, and what the one on the right did
abbrev near-ring : List RingEntry
near-ring =
    Post 2 (frame Request 9 (5 ∷ []) own-name reads) ∷ Send 2 Acked ∷ Pass 2 false []
    ∷ Take 9 (frame Request 9 (5 ∷ []) own-name reads) ∷ Pass 9 false [] ∷ Pass 2 false []
    ∷ Post 9 (frame Reply 2 [] own-name tells) ∷ Send 9 Acked ∷ Pass 9 true []
    ∷ Take 2 (frame Reply 2 [] own-name tells) ∷ Pass 2 true [] ∷ Leave 9 Ended ∷ Leave 2 Ended ∷ []

abbrev far-ring : List RingEntry
far-ring =
    Post 12 (frame Request 5 [] onward-name reads) ∷ Send 12 Acked ∷ Pass 12 false []
    ∷ Take 5 (frame Request 5 [] onward-name reads)
    ∷ Post 5 (frame Reply 12 [] onward-name tells) ∷ Send 5 Acked ∷ Pass 5 true []
    ∷ Take 12 (frame Reply 12 [] onward-name tells) ∷ Pass 12 true [] ∷ Leave 5 Ended
    ∷ Leave 12 Ended ∷ []

abbrev pub joint : Joint
joint = record {
  controllers = caller ∷ target ∷ [];
  hosts = [];
  bridges = bridge ∷ [];
  rings = record { network = 1; entries = near-ring }
      ∷ record { network = 2; entries = far-ring } ∷ [];
}

-- all laws hold between these lists
caller-tied : IsTiedController (noted_on_rings joint) caller
caller-tied = record {
  asks = refl;
  peers = refl;
  port = refl;
  replies = refl;
  ends = refl;
  downs = (tt, tt);
}

target-tied : IsTiedController (noted_on_rings joint) target
target-tied = record {
  asks = refl;
  peers = refl;
  port = refl;
  replies = refl;
  ends = refl;
  downs = (tt, tt);
}

bridge-tied : IsTiedBridge (noted_on_rings joint) bridge
bridge-tied = record {
  left = record {
    asks = refl;
    peers = refl;
    port = refl;
    replies = record { given = refl; told = refl };
    ends = refl;
    downs = refl;
  };
  right = record {
    asks = refl;
    peers = refl;
    port = refl;
    replies = record { given = refl; told = refl };
    ends = refl;
    downs = refl;
  };
}

is-joint : IsJoint joint
is-joint = record {
  controllers = All-from_recursion (IsTiedController (noted_on_rings joint)) joint.controllers
      (caller-tied, (target-tied, tt));
  hosts = All-from_recursion (IsTiedHost (noted_on_rings joint)) [] tt;
  bridges = All-from_recursion (IsTiedBridge (noted_on_rings joint)) joint.bridges
      (bridge-tied, tt);
}

-- it has two names, the first of which had no effect, and all effects are one
names : names_on_way joint own-name ≡ own-name ∷ onward-name ∷ []
names = refl

none-first : effects joint own-name ≡ 0
none-first = refl

once : effects_on_way joint own-name ≡ 1
once = refl

-- it reports success, and asked by a route that ends at node 5, which answered
succeeds : ReportsSuccess joint own-name
succeeds = inl (caller, (0, omega arith, refl), (42 ∷ 43 ∷ [], (1, omega arith, refl)))

pub asked : AsksBy joint own-name (9 ∷ 5 ∷ []) reads
asked = inl (
  caller,
  (0, omega arith, refl),
  asks ∷ [],
  (0, omega arith, refl),
  asks,
  (0, omega arith, refl),
  refl,
  refl,
)

pub answered : AnsweredAtEnd joint (names_on_way joint own-name) (9 ∷ 5 ∷ []) reads tells
answered = record {
  name = onward-name;
  named = (1, omega arith, refl);
  last = refl;
  to = 5;
  end = (9 ∷ [], refl);
  given = inl (target, (1, omega arith, refl), refl, (0, omega arith, refl));
}
