-- What a part of a controller's turn stands on and does, by the two sides that it is lent: that of
-- the controller and that of the ring. This project's own.
use Rattle.std.specs.Prelude.{◌≡◌, ℕ, Bool, List, [], ◌∷◌, Option}
use Rattle.mstr_block.specs.declared.call.CallId.{CallId}
use Rattle.controller_core.specs.declared.call.Call.{Call}
use Rattle.controller_core.specs.declared.entry.Entry.{Entry}
use Rattle.ring_core.specs.declared.frame.Frame.{Frame}
use Rattle.ring_core.specs.declared.entry.LocalOp.{LocalOp}
use Rattle.ring_core.specs.declared.entry.RingEntry.{RingEntry}
use Rattle.joint_history.specs.Reading.{failures_at, is_ours}
use Rattle.comm_port.specs.declared.ram_side.RamSide as ram_sides
use Rattle.comm_port.specs.declared.ring_side.RingSide as ring_sides
use Rattle.comm_port.specs.Calling.{IsDueAt}
use Rattle.comm_port.specs.Ending.{AsksIfDone}
use Rattle.comm_port.specs.Giving.{due_calls, chosen_paths, inbox_of}
use Rattle.comm_port.specs.HoldTurn.{IsServed, IsMade, IsEnded, IsGivenUp, Collects}
use Rattle.comm_port.specs.Failing.{ComesBack, GoesDown}
use Rattle.comm_port.specs.HoldTurn.{SendsAll, EndsHoldTurn, WorksTurn, VisitsEnd}
use Rattle.comm_port.specs.WholeTurn.{HoldsTurn}
use Rattle.comm_port.specs.declared.turn_end.TurnEnd.{TurnEnd}
use Rattle.comm_port.specs.Making.{DoesAtHome, Owing, calls_from}
use Rattle.comm_port.specs.Parts.{InOrder, PartOf}
use Rattle.comm_port.specs.RingSteps.{RingStep}
use Rattle.comm_port.specs.Serving.{IsAnswered}
use Rattle.comm_port.specs.Sides.{AddsNothing, KeepsRoom, NotesNothing}
use Rattle.comm_port.specs.Stands.{RamStands}
use Rattle.comm_port.specs.Turns.{Turning, Taking, Rested}
use Rattle.comm_port.specs.Waiting.{IsIdle}
use Rattle.comm_port.specs.Worker.{WorkerIs, Standing}

-- ---- The controller alone.

module _ {M P : Type 0} (m : ram_sides.Ghosts M P) where
  -- The controller's list went on by calls of its worker, and is legal if it was.
  abbrev pub RamStandsOver : M → M → Type 0
  RamStandsOver old new = RamStands m.alone (m.side old).fixed (m.known old) (m.known new)

  -- A step at the controller, whatever it answers: the side and what is kept for a scan stay, and
  -- the list went on by calls of the worker, and is legal if it was.
  pub record RamStep (old new : M) : Type 0 where
    pub same : m.side new ≡ m.side old
    pub kept : KeepsRoom m.alone (m.reserved old) (m.reserved new)
    pub stands : RamStandsOver old new

  -- The controller's power has failed this number of times.
  abbrev pub HaveFailed : ℕ → M → Type 0
  HaveFailed failures ram = failures ≡ failures_at (m.side ram).fixed (m.known ram)

  -- A turn asked whether the controller is done, after this number of failures was noticed.
  abbrev pub AsksDoneOver : ℕ → List (Option Frame) → M → M → Bool → Type 0
  AsksDoneOver noticed waiting old new done =
      AsksIfDone m.alone (m.side old).fixed noticed (IsIdle waiting) (m.known old)
      (m.known new) done

-- ---- Both.

module _ {M P R Q : Type 0} (m : ram_sides.Ghosts M P) (r : ring_sides.Ghosts R Q) where
  -- A worker stands between its controller and the ring: their lists are tied.
  abbrev pub TurningBetween : ℕ → M → R → List (Option Frame) → Type 0
  TurningBetween n ram ring waiting =
      Turning n [] (m.side ram) (m.known ram) (r.side ring) (r.known ring) waiting

  -- A worker stands between its controller and the ring, and still has to make the calls from a
  -- place on.
  abbrev pub Owes : ℕ → List Call → ℕ → M → R → List (Option Frame) → Type 0
  Owes n calls at ram ring waiting =
      Owing n (calls_from calls at) (m.side ram) (m.known ram) (r.side ring) (r.known ring) waiting

  -- A worker took a frame, to which nothing was done yet.
  abbrev pub TakingBetween : ℕ → Frame → M → R → List (Option Frame) → Type 0
  TakingBetween n f ram ring waiting =
      Taking n f (m.side ram) (m.known ram) (r.side ring) (r.known ring) waiting

  -- The lists are tied, whichever node holds the token.
  abbrev pub RestedBetween : ℕ → M → R → List (Option Frame) → Type 0
  RestedBetween n ram ring waiting =
      Rested n (m.side ram) (m.known ram) (r.side ring) (r.known ring) waiting

  -- A worker stands between two turns.
  abbrev pub StandingBetween : WorkerIs → M → R → Type 0
  StandingBetween w ram ring =
      Standing w (m.side ram) (m.known ram) (r.side ring) (r.known ring)

  -- A step at both, whatever it answers.
  pub record BothStep (n : ℕ) (ram ram' : M) (ring ring' : R) : Type 0 where
    pub station : RamStep m ram ram'
    pub node : RingStep r n ring ring'

  -- Nothing was noted at the controller, and no entry of the node was added to the ring.
  pub record AddsNothingOver (n : ℕ) (ram ram' : M) (ring ring' : R) : Type 0 where
    pub station : NotesNothing m.alone m.known m.reserved ram ram'
    pub node : AddsNothing r.alone r.known r.room n ring ring'

  -- A part of a turn at both, the controller and the ring: both lists went on by what is due.
  abbrev pub PartOver : ℕ → (List Entry → List RingEntry → Type 0) → M → M → R → R → Type 0
  PartOver n Due ram ram' ring ring' = PartOf m.alone r.alone is_ours n Due
      (m.known ram) (m.known ram') (r.known ring) (r.known ring')

  -- What is due to a frame that was taken was done.
  abbrev pub Meets : ℕ → Frame → M → M → R → R → Type 0
  Meets n f ram ram' ring ring' = PartOver n (IsAnswered n f) ram ram' ring ring'

  -- All that lay in the inbox was served, in its order.
  abbrev pub ServesAll : ℕ → M → M → R → R → Type 0
  ServesAll n ram ram' ring ring' =
      PartOver n (InOrder (IsServed n) (inbox_of (r.side ring).net n (r.known ring)))
      ram ram' ring ring'

  -- The call at a place was made.
  abbrev pub Makes : ℕ → List Call → ℕ → M → M → R → R → Type 0
  Makes n calls at ram ram' ring ring' =
      PartOver n (IsDueAt (IsMade n) calls at) ram ram' ring ring'

  -- The call at a place was made, and ended at once.
  abbrev pub Voids : ℕ → List Call → ℕ → M → M → R → R → Type 0
  Voids n calls at ram ram' ring ring' =
      PartOver n (IsDueAt (IsEnded n) calls at) ram ram' ring ring'

  -- What was started was collected, and each call made, in order.
  abbrev pub MakesAll : ℕ → M → M → R → R → Type 0
  MakesAll n ram ram' ring ring' = Collects m.alone r.alone (m.side ram).fixed n (IsMade n)
      (m.known ram) (m.known ram') (r.known ring) (r.known ring')

  -- A call at home was done, and then ended with its result.
  abbrev pub DoesOver : ℕ → CallId → LocalOp → M → M → R → R → Type 0
  DoesOver n id op ram ram' ring ring' = DoesAtHome m.alone r.alone n id op
      (m.known ram) (m.known ram') (r.known ring) (r.known ring')

  -- All was sent; each call that failed was given up at once and finished.
  abbrev pub SendsAllOver : ℕ → M → M → R → R → Type 0
  SendsAllOver n ram ram' ring ring' = SendsAll m.alone r.alone (r.side ring).net n
      (m.known ram) (m.known ram') (r.known ring) (r.known ring')

  -- A call was given up and finished with its word.
  abbrev pub GivesUpCall : ℕ → CallId → M → M → R → R → Type 0
  GivesUpCall n id ram ram' ring ring' = PartOver n (IsGivenUp id) ram ram' ring ring'

  -- The call of a path was, where that was due.
  abbrev pub GivesUpOn : ℕ → ℕ → M → M → R → R → Type 0
  GivesUpOn n path ram ram' ring ring' = PartOver n
      (InOrder IsGivenUp (due_calls (r.side ring).net n (r.known ring) (path ∷ [])))
      ram ram' ring ring'

  -- The calls of the chosen paths were given up, in order, where that was due.
  abbrev pub GivesUp : ℕ → List Bool → M → M → R → R → Type 0
  GivesUp n chosen ram ram' ring ring' = PartOver n
      (InOrder IsGivenUp (due_calls (r.side ring).net n (r.known ring) (chosen_paths chosen)))
      ram ram' ring ring'

  -- The turn ended: the node left, or passed the token on, as was due.
  abbrev pub EndsOver : ℕ → Bool → M → M → R → R → Bool → Type 0
  EndsOver n budget ram ram' ring ring' left = EndsHoldTurn m.alone r.alone (m.side ram).fixed
      (r.side ring).net n budget (m.known ram) (m.known ram') (r.known ring) (r.known ring') left

  -- A turn in which no failure is unnoticed: its five parts one after another.
  abbrev pub WorksOver : ℕ → Bool → M → M → R → R → Bool → Type 0
  WorksOver n budget ram ram' ring ring' left = WorksTurn m.alone r.alone (m.side ram).fixed
      (r.side ring).net n budget (m.known ram) (m.known ram') (r.known ring) (r.known ring') left

  -- A node that is away asked to come in again, or not.
  abbrev pub Rejoins : ℕ → M → M → R → R → Bool → Type 0
  Rejoins n ram ram' ring ring' joined = ComesBack m.alone r.alone (m.side ram).fixed n
      (m.known ram) (m.known ram') (r.known ring) (r.known ring') joined

  -- A node left because power had failed this number of times, and came back or not.
  abbrev pub LeavesDown : ℕ → ℕ → M → M → R → R → Bool → Type 0
  LeavesDown n failures ram ram' ring ring' joined = GoesDown m.alone r.alone (m.side ram).fixed
      (r.side ring).net n failures (m.known ram) (m.known ram') (r.known ring) (r.known ring')
      joined

  -- A turn as a whole.
  abbrev pub HoldsOver : ℕ → Bool → M → M → R → R → TurnEnd → Type 0
  HoldsOver n budget ram ram' ring ring' end = HoldsTurn m.alone r.alone (m.side ram).fixed
      (r.side ring).net n budget (m.known ram) (m.known ram') (r.known ring) (r.known ring') end

  -- A turn of a worker.
  abbrev pub HoldsTurnBy : WorkerIs → M → M → R → R → TurnEnd → Type 0
  HoldsTurnBy w ram ram' ring ring' end = HoldsOver w.node w.budget ram ram' ring ring' end

  -- A visit: what was started was collected, and each call ended at once.
  abbrev pub Visits : ℕ → M → M → R → R → Type 0
  Visits n ram ram' ring ring' = VisitsEnd m.alone r.alone (m.side ram).fixed
      (r.side ring).net n (m.known ram) (m.known ram') (r.known ring) (r.known ring')
