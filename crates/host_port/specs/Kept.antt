-- What the fields of a host keep. This project's own.
use Rattle.std.specs.Prelude.{◌≡◌, ◌≤◌, ℕ, ◌-◌, true, false, not, List, length, map, set}
use Rattle.std.specs.List.{AllByRecursion}
use Rattle.plant_types.specs.declared.net.HostPlan.{HostPlan}
use Rattle.ring_core.specs.MstrBlock.{network_paths, CallId}
use Rattle.ring_core.specs.declared.frame.Frame.{Frame}
use Rattle.ring_core.specs.declared.frame.FrameKind.TheVariants.{Request}
use Rattle.ring_core.specs.Words.{frame_route}
use Rattle.ring_core.specs.Legal.{IsFrom, IsPath}
use Rattle.host_port.specs.declared.entry.HostEntry.{HostEntry}
use Rattle.host_port.specs.declared.entry.HostEntry.TheVariants.{Ask, Answer, Served}
use Rattle.host_port.specs.declared.host.Path.{Path}
use Rattle.plant_types.specs.Plans.{IsHostPlan}
use Rattle.host_port.specs.Calls.{requests_in, answered_calls, unanswered_in, path_is_free}
use Rattle.host_port.specs.Calls.{asked_on}
use Rattle.host_port.specs.Legal.{IsHostHistory}
use Rattle.host_port.specs.Host.{HostIs, route_ahead}
use Rattle.host_port.specs.Following.{MayComeNext}

-- A path as the history tells it: how many Requests it had, and whether the last is open.
abbrev pub path_in : List HostEntry → ℕ → Path
path_in history path =
    record { asked = asked_on history path; is_open = not (path_is_free history path) }

-- A call is the last one of its path.
abbrev pub last_on : HostPlan → List HostEntry → ℕ → CallId
last_on plan history path =
    record { node = plan.node; path = path; seq = asked_on history path }

pub record IsLast (plan : HostPlan) (history : List HostEntry) (request : Frame) : Type 0 where
  pub name : request.id ≡ last_on plan history request.id.path
  pub path : IsPath request.id.path

-- The paths behind an entry, which is the last of its path.
abbrev pub paths_after : List Path → HostEntry → List Path
paths_after paths (Ask id route pdu) =
    set paths (id.path - 1) (record { asked = id.seq; is_open = true })
paths_after paths (Answer id result) =
    set paths (id.path - 1) (record { asked = id.seq; is_open = false })
paths_after paths (Served id request reply) = paths

-- The path of a call that an entry makes or ends is one of the four.
abbrev pub HasPath : HostEntry → Type 0
HasPath (Ask id route pdu) = IsPath id.path
HasPath (Answer id result) = IsPath id.path
HasPath (Served id request reply) = Unit {0}

-- The Request that is due: its route is that of the next request of the plan, its Ask may come
-- next, and it may be posted by this host.
pub record IsDueRequest (v : HostIs) (request : Frame) : Type 0 where
  pub ahead : route_ahead v ≡ frame_route request
  pub next : MayComeNext v (Ask request.id (frame_route request) request.pdu)
  pub from : IsFrom v.plan.node Request request

-- The fields are those of a legal history; a Request without an answer is the last of its path,
-- and no call has ended that was not made.
pub record IsHostKept (plan : HostPlan) (made : ℕ) (paths : List Path)
    (history : List HostEntry) : Type 0 where
  pub legal : IsHostHistory plan history
  pub unanswered : AllByRecursion (IsLast plan history) (unanswered_in history)
  pub ended : AllByRecursion (λ id. id.seq ≤ asked_on history id.path) (answered_calls history)
  pub count : made ≡ length (requests_in history)
  pub state : paths ≡ map (path_in history) network_paths

-- A host is kept so, by a plan that a host can have.
pub record IsHost (plan : HostPlan) (made : ℕ) (paths : List Path)
    (history : List HostEntry) : Type 0 where
  pub sound : IsHostPlan plan
  pub kept : IsHostKept plan made paths history
