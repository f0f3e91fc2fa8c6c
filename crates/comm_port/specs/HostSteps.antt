-- What a part of a host's turn stands on and does, by the host and the side of the ring that it is
-- lent. This project's own.
use Rattle.std.specs.Prelude.{◌≡◌, ℕ, Bool, List, ◌++◌, Option}
use Rattle.host_port.specs.declared.entry.HostEntry.{HostEntry}
use Rattle.host_port.specs.Host.{HostIs, host_is_done}
use Rattle.host_port.specs.Legal.{IsHostHistory}
use Rattle.ring_core.specs.declared.frame.Frame.{Frame}
use Rattle.tied_lists.specs.Own.{own}
use Rattle.comm_port.specs.declared.ring_side.RingSide as ring_sides
use Rattle.comm_port.specs.Giving.{chosen_paths, is_chosen}
use Rattle.comm_port.specs.HostTurns.{AskedAll, AskedNext, EndsHostTurn}
use Rattle.comm_port.specs.HostTurns.{EndsWithPass, GivesUpDue, HoldsHostTurn, HostTaking}
use Rattle.comm_port.specs.HostTurns.{HostTies, HostTurning, HostWorkerIs, Sends, SendsOut}
use Rattle.comm_port.specs.HostTurns.{ServesInbox, ServesTaken, wanted_path}
use Rattle.comm_port.specs.RingSteps.{RingStep}

module _ {R Q : Type 0} (r : ring_sides.Ghosts R Q) where
  -- ---- What a part stands on.

  -- A worker stands between its host and the ring: their lists are tied, and their paths agree.
  abbrev pub HostTurningAt : ℕ → HostIs → R → Type 0
  HostTurningAt n host ring = HostTurning n host (r.side ring) (r.known ring)

  -- A worker stands between its host and the ring after a step, on the side before it.
  abbrev pub HostTurningAfter : ℕ → HostIs → R → R → Type 0
  HostTurningAfter n host old new = HostTurning n host (r.side old) (r.known new)

  -- A host's worker took a frame, to which nothing was done yet.
  abbrev pub HostTakingAt : ℕ → Frame → HostIs → R → Type 0
  HostTakingAt n f host ring = HostTaking n f host (r.side ring) (r.known ring)

  -- The host and the ring agree, whichever node holds the token.
  abbrev pub HostTiesAt : ℕ → HostIs → R → Type 0
  HostTiesAt n host ring = HostTies n host (r.side ring) (r.known ring)

  -- The host and the ring agree after a step, on the side before it.
  abbrev pub HostTiesAfter : ℕ → HostIs → R → R → Type 0
  HostTiesAfter n host old new = HostTies n host (r.side old) (r.known new)

  -- The last entry of a node is a Pass that says exactly whether the host is done.
  abbrev pub PassedAt : ℕ → HostIs → R → Type 0
  PassedAt n host ring = EndsWithPass n (host_is_done host) (own n (r.known ring))

  -- ---- What a step does.

  -- A step of a host, whatever it answers: its plan stays, its list, which nobody else writes, went
  -- on and is legal, and a step was made at the ring.
  pub record HostStep (n : ℕ) (host host' : HostIs) (ring ring' : R) : Type 0 where
    pub plan : host'.plan ≡ host.plan
    pub legal_list : IsHostHistory host'.plan host'.history
    pub noted : List HostEntry
    pub list : host'.history ≡ host.history ++ noted
    pub node : RingStep r n ring ring'

  -- What is due to a frame that was taken was done.
  abbrev pub HostMeets : ℕ → Frame → HostIs → HostIs → R → R → Type 0
  HostMeets n f host host' ring ring' =
      ServesTaken r.alone n f host.history host'.history (r.known ring) (r.known ring')

  -- All that lay in the inbox was served, and nothing lies there any more.
  abbrev pub ServesInboxOver : ℕ → HostIs → HostIs → R → R → Type 0
  ServesInboxOver n host host' ring ring' = ServesInbox r.alone (r.side ring).net n
      host.history host'.history (r.known ring) (r.known ring')

  -- The request that was due was made and posted on this path; or none was due.
  abbrev pub AskedNextOver : ℕ → ℕ → HostIs → HostIs → R → R → Option ℕ → Type 0
  AskedNextOver n hold host host' ring ring' path = AskedNext r.alone (r.side ring).net n hold
      host host' (r.known ring) (r.known ring') path

  -- All requests that were due were made, on the paths that an array notes.
  abbrev pub AskedAllOver : ℕ → ℕ → HostIs → HostIs → R → R → List Bool → Type 0
  AskedAllOver n hold host host' ring ring' made = AskedAll r.alone (r.side ring).net n
      host.plan hold host.history host'.history (r.known ring) (r.known ring') made

  -- By these paths each call that may be given up was given up and answered with its word.
  abbrev pub GivesUpBy : ℕ → List ℕ → HostIs → HostIs → R → R → Type 0
  GivesUpBy n paths host host' ring ring' = GivesUpDue r.alone (r.side ring).net n paths
      host.history host'.history (r.known ring) (r.known ring')

  -- The call of a path was given up and answered with its word, if the path is to be looked at and
  -- the call may be given up.
  abbrev pub GivesUpIf : ℕ → Bool → ℕ → HostIs → HostIs → R → R → Type 0
  GivesUpIf n wanted path host host' ring ring' =
      GivesUpBy n (wanted_path wanted path) host host' ring ring'

  -- Of the calls on the paths that an array chooses each that may be given up was given up and
  -- answered.
  abbrev pub GivesUpWhich : ℕ → List Bool → HostIs → HostIs → R → R → Type 0
  GivesUpWhich n which host host' ring ring' =
      GivesUpBy n (chosen_paths which) host host' ring ring'

  -- Frames were sent, and what failed of the calls on these paths was given up at once.
  abbrev pub SendsOver : ℕ → List Bool → HostIs → HostIs → R → R → Type 0
  SendsOver n fresh host host' ring ring' = Sends r.alone (r.side ring).net n (is_chosen fresh)
      host.history host'.history (r.known ring) (r.known ring')

  -- Frames were sent until nothing was left to be sent, and none of these calls is a failed one.
  abbrev pub SendsOutOver : ℕ → List Bool → HostIs → HostIs → R → R → Type 0
  SendsOutOver n fresh host host' ring ring' = SendsOut r.alone (r.side ring).net n
      (is_chosen fresh) host.history host'.history (r.known ring) (r.known ring')

  -- The turn ended: the node left, or passed the token on, as was due.
  abbrev pub EndsHostOver : ℕ → Bool → HostIs → HostIs → R → R → Bool → Type 0
  EndsHostOver n budget host host' ring ring' left = EndsHostTurn r.alone (r.side ring).net n
      host.plan budget host.history host'.history (r.known ring) (r.known ring') left

  -- A host's turn: its parts one after another.
  abbrev pub HoldsHostOver : ℕ → Bool → HostIs → HostIs → R → R → Bool → Type 0
  HoldsHostOver n budget host host' ring ring' left = HoldsHostTurn r.alone (r.side ring).net n
      host.plan budget host.history host'.history (r.known ring) (r.known ring') left

  -- A turn of a host's worker.
  abbrev pub HoldsHostBy : HostWorkerIs → HostIs → HostIs → R → R → Bool → Type 0
  HoldsHostBy w host host' ring ring' left =
      HoldsHostOver w.node w.budget host host' ring ring' left
