-- What a part of a turn of a bridge's end stands on and does, by the two sides that it is lent:
-- that of the bridge and that of the ring. This project's own.
use Rattle.std.specs.Prelude.{◌≡◌, ℕ, Bool, true, List, Option}
use Rattle.bridge_relay.specs.declared.entry.BridgeEntry.{BridgeEntry}
use Rattle.bridge_relay.specs.Laws.{end_after, is_by}
use Rattle.bridge_relay.specs.Legal.{IsBridgeHistory, IsOpenEnd}
use Rattle.ring_core.specs.declared.frame.Frame.{Frame}
use Rattle.ring_core.specs.declared.entry.RingEntry.{RingEntry}
use Rattle.comm_port.specs.declared.ring_side.RingSide as ring_sides
use Rattle.comm_port.specs.Giving.{chosen_paths, due_calls, inbox_of}
use Rattle.comm_port.specs.Parts.{InOrder, PartOf}
use Rattle.comm_port.specs.RingSteps.{RingStep}
use Rattle.comm_port.specs.Stands.{HasGrown}
use Rattle.bridge_port.specs.declared.bridge_side.BridgeSide as bridge_sides
use Rattle.bridge_port.specs.EndTurns.{BridgeWorkerIs, EndTaking, EndTies, EndTurning}
use Rattle.bridge_port.specs.EndParts.{BacksAll, BacksNext, EndAnswers, EndAsksIfDone, EndGivesUp}
use Rattle.bridge_port.specs.EndParts.{EndSendsAll, EndServes, EndsEndTurn, ForwardsNext}
use Rattle.bridge_port.specs.EndParts.{ForwardsOn, HoldsEndTurn, LeavesBridge}

-- ---- The bridge alone.

module _ {B P : Type 0} (b : bridge_sides.Ghosts B P) where
  -- An end has not left for good.
  abbrev pub IsOpenAt : ℕ → B → Type 0
  IsOpenAt n bridge = IsOpenEnd (b.bridge bridge).plan (b.known bridge) n

  -- An end has left for good.
  abbrev pub IsGoneAt : ℕ → B → Type 0
  IsGoneAt n bridge = (end_after (b.bridge bridge).plan (b.known bridge) n).gone ≡ true

  -- A step at the bridge, whatever it answers: the side stays, and the list went on by entries of
  -- this end, and is legal.
  pub record BridgeStep (n : ℕ) (old new : B) : Type 0 where
    pub same : b.bridge new ≡ b.bridge old
    pub grown : HasGrown b.alone (is_by n) (b.known old) (b.known new)
    pub legal : IsBridgeHistory (b.bridge old).plan (b.known new)

-- ---- Both.

module _ {B P R Q : Type 0} (b : bridge_sides.Ghosts B P) (r : ring_sides.Ghosts R Q) where
  -- A worker stands between an end and the ring: their lists are tied, and their paths agree.
  abbrev pub TurningBetween : ℕ → B → R → Type 0
  TurningBetween n bridge ring =
      EndTurning n (b.bridge bridge) (b.known bridge) (r.side ring) (r.known ring)

  -- A worker of a bridge's end took a frame, to which nothing was done yet.
  abbrev pub TakingBetween : ℕ → Frame → B → R → Type 0
  TakingBetween n f bridge ring =
      EndTaking n f (b.bridge bridge) (b.known bridge) (r.side ring) (r.known ring)

  -- The end and the ring agree, whichever node holds the token.
  abbrev pub TiesBetween : ℕ → B → R → Type 0
  TiesBetween n bridge ring =
      EndTies n (b.bridge bridge) (b.known bridge) (r.side ring) (r.known ring)

  -- A step at both, whatever it answers.
  pub record EndStep (n : ℕ) (bridge bridge' : B) (ring ring' : R) : Type 0 where
    pub station : BridgeStep b n bridge bridge'
    pub node : RingStep r n ring ring'

  -- A part of a turn at both, the bridge and the ring: both lists went on by what is due.
  abbrev pub PartOver : ℕ → (List BridgeEntry → List RingEntry → Type 0) → B → B → R → R → Type 0
  PartOver n Due bridge bridge' ring ring' = PartOf b.alone r.alone (is_by n) n Due
      (b.known bridge) (b.known bridge') (r.known ring) (r.known ring')

  -- What is due to a frame that was taken was done.
  abbrev pub Meets : ℕ → Frame → B → B → R → R → Type 0
  Meets n f bridge bridge' ring ring' = PartOver n (EndAnswers n f) bridge bridge' ring ring'

  -- All that lay in the inbox was served, in its order.
  abbrev pub ServesAll : ℕ → B → B → R → R → Type 0
  ServesAll n bridge bridge' ring ring' =
      PartOver n (InOrder (EndServes n) (inbox_of (r.side ring).net n (r.known ring)))
      bridge bridge' ring ring'

  -- A reply was given back and posted, if one was due.
  abbrev pub BacksNextOver : ℕ → B → B → R → R → Bool → Type 0
  BacksNextOver n bridge bridge' ring ring' gave = BacksNext b.alone r.alone (b.bridge bridge).plan
      n (b.known bridge) (b.known bridge') (r.known ring) (r.known ring') gave

  -- All replies that were due were given back and posted.
  abbrev pub BacksAllOver : ℕ → B → B → R → R → Type 0
  BacksAllOver n bridge bridge' ring ring' = BacksAll b.alone r.alone (b.bridge bridge).plan
      n (b.known bridge) (b.known bridge') (r.known ring) (r.known ring')

  -- A request was sent on and posted on this path, or none was due.
  abbrev pub ForwardsNextOver : ℕ → B → B → R → R → Option ℕ → Type 0
  ForwardsNextOver n bridge bridge' ring ring' path = ForwardsNext b.alone r.alone
      (b.bridge bridge).plan (r.side ring).net n (b.known bridge) (b.known bridge')
      (r.known ring) (r.known ring') path

  -- All requests that were due were sent on and posted, on the paths that an array notes.
  abbrev pub ForwardsOver : ℕ → B → B → R → R → List Bool → Type 0
  ForwardsOver n bridge bridge' ring ring' fresh = ForwardsOn b.alone r.alone
      (b.bridge bridge).plan (r.side ring).net n (b.known bridge) (b.known bridge')
      (r.known ring) (r.known ring') fresh

  -- All was sent; each call that failed was given up at once and finished.
  abbrev pub SendsAllOver : ℕ → B → B → R → R → Type 0
  SendsAllOver n bridge bridge' ring ring' = EndSendsAll b.alone r.alone (r.side ring).net n
      (b.known bridge) (b.known bridge') (r.known ring) (r.known ring')

  -- The calls of these paths were given up and finished, in order, where that was due.
  abbrev pub GivesUpBy : ℕ → List ℕ → B → B → R → R → Type 0
  GivesUpBy n paths bridge bridge' ring ring' = PartOver n
      (InOrder (EndGivesUp n) (due_calls (r.side ring).net n (r.known ring) paths))
      bridge bridge' ring ring'

  -- The calls of the paths that an array chooses were given up and finished, in order, where that
  -- was due.
  abbrev pub GivesUp : ℕ → List Bool → B → B → R → R → Type 0
  GivesUp n chosen bridge bridge' ring ring' =
      GivesUpBy n (chosen_paths chosen) bridge bridge' ring ring'

  -- A turn asked whether the end is done.
  abbrev pub AsksDoneOver : ℕ → Bool → B → B → R → R → Bool → Type 0
  AsksDoneOver n has_posted bridge bridge' ring ring' done = EndAsksIfDone b.alone r.alone
      (b.bridge bridge).plan (r.side ring).net n has_posted (b.known bridge) (b.known bridge')
      (r.known ring) (r.known ring') done

  -- After a Leave all calls were given up and finished, and the end left for good.
  abbrev pub LeavesOver : ℕ → B → B → R → R → Type 0
  LeavesOver n bridge bridge' ring ring' = LeavesBridge b.alone r.alone n
      (b.known bridge) (b.known bridge') (r.known ring) (r.known ring')

  -- The turn ended: the node left, or passed the token on, as was due.
  abbrev pub EndsOver : ℕ → Bool → Bool → B → B → R → R → Bool → Type 0
  EndsOver n budget has_posted bridge bridge' ring ring' left = EndsEndTurn b.alone r.alone
      (b.bridge bridge).plan (r.side ring).net n budget has_posted (b.known bridge)
      (b.known bridge') (r.known ring) (r.known ring') left

  -- A turn of a bridge's end: its parts one after another.
  abbrev pub HoldsOver : ℕ → Bool → B → B → R → R → Bool → Type 0
  HoldsOver n budget bridge bridge' ring ring' left = HoldsEndTurn b.alone r.alone
      (b.bridge bridge).plan (r.side ring).net n budget (b.known bridge) (b.known bridge')
      (r.known ring) (r.known ring') left

  -- A turn of a worker.
  abbrev pub HoldsTurnBy : BridgeWorkerIs → B → B → R → R → Bool → Type 0
  HoldsTurnBy w bridge bridge' ring ring' left =
      HoldsOver w.side w.budget bridge bridge' ring ring' left
