-- What stays true of the calls of a host. This project's own.
use Rattle.std.specs.Prelude.{◌≡◌, ◌==◌, ◌+◌, ℕ, true, false, not, ◌&&◌, if◌then◌else◌, List, []}
use Rattle.std.specs.Prelude.{◌∷◌, ◌++◌}
use Rattle.std.specs.Prelude.{Some, None}
use Rattle.plant_types.specs.declared.net.HostPlan.{HostPlan}
use Rattle.ring_core.specs.MstrBlock.{is_same_call, CallId}
use Rattle.ring_core.specs.declared.frame.Frame.{Frame}
use Rattle.ring_core.specs.Words.{request_along}
use Rattle.ring_core.specs.Legal.{IsPath}
use Rattle.host_port.specs.declared.entry.HostEntry.{HostEntry}
use Rattle.host_port.specs.declared.entry.HostEntry.TheVariants.{Ask, Answer, Served}
use Rattle.host_port.specs.declared.entry.HostResult.{HostResult}
use Rattle.host_port.specs.Calls.{asked_on, call_on, has_answer, is_unanswered, open_on}
use Rattle.host_port.specs.Legal.{IsHostHistory}
use Rattle.host_port.specs.Kept.{last_on}

-- A call that is out is still out behind an Ask.
abbrev pub AsksKeepCalls : Type 0
AsksKeepCalls = (history : List HostEntry) (id other : CallId) (route pdu : List ℕ)
    → is_unanswered history id ≡ true
    → is_unanswered (history ++ Ask other route pdu ∷ []) id ≡ true

-- An Answer ends its call, and changes nothing for any other.
abbrev pub AnswersEndOneCall : Type 0
AnswersEndOneCall =
    (history : List HostEntry) (id other : CallId) (result : HostResult)
    → is_unanswered (history ++ Answer other result ∷ []) id
    ≡ (is_unanswered history id && not (is_same_call id other))

-- What is served changes nothing for any call.
abbrev pub ServingKeepsCalls : Type 0
ServingKeepsCalls = (history : List HostEntry) (id other : CallId) (request reply : List ℕ)
    → is_unanswered (history ++ Served other request reply ∷ []) id ≡ is_unanswered history id

-- Behind an Ask that may come next its path has this Request without an answer, and each other
-- path what it had; behind an Answer its path has none; what is served changes none.
abbrev pub AsksOpenTheirPath : Type 0
AsksOpenTheirPath =
    (plan : HostPlan) (history : List HostEntry) (id : CallId) (route pdu : List ℕ) (path : ℕ)
    → IsHostHistory plan (history ++ Ask id route pdu ∷ [])
    → open_on (history ++ Ask id route pdu ∷ []) path
    ≡ (if id.path == path then Some (request_along id route pdu)
    else open_on history path)

abbrev pub AnswersFreeTheirPath : Type 0
AnswersFreeTheirPath =
    (plan : HostPlan) (history : List HostEntry) (id : CallId) (result : HostResult) (path : ℕ)
    → IsHostHistory plan (history ++ Answer id result ∷ [])
    → open_on (history ++ Answer id result ∷ []) path
    ≡ (if id.path == path then None else open_on history path)

abbrev pub ServingKeepsPaths : Type 0
ServingKeepsPaths =
    (history : List HostEntry) (id : CallId) (request reply : List ℕ) (path : ℕ)
    → open_on (history ++ Served id request reply ∷ []) path ≡ open_on history path

-- A Request without an answer is out, under the last name that its path, one of the four, gave.
pub record IsOpenOn (plan : HostPlan) (history : List HostEntry) (path : ℕ) (request : Frame)
    : Type 0 where
  pub out : is_unanswered history request.id ≡ true
  pub name : request.id ≡ last_on plan history path
  pub is_path : IsPath path

abbrev pub OpenRequestsAreLast : Type 0
OpenRequestsAreLast = (plan : HostPlan) (history : List HostEntry) (path : ℕ) (request : Frame)
    → IsHostHistory plan history → open_on history path ≡ Some request
    → IsOpenOn plan history path request

-- A new call has the next name of a path, one of the four, that has no Request without an answer.
pub record IsNewAsk (plan : HostPlan) (history : List HostEntry) (id : CallId) : Type 0 where
  pub name : id ≡ call_on plan history id.path
  pub free : open_on history id.path ≡ None
  pub is_path : IsPath id.path

abbrev pub AsksMakeNewCalls : Type 0
AsksMakeNewCalls =
    (plan : HostPlan) (history : List HostEntry) (id : CallId) (route pdu : List ℕ)
    → IsHostHistory plan (history ++ Ask id route pdu ∷ []) → IsNewAsk plan history id

-- An Ask counts on its path, and nothing else does.
pub record CountsFollow : Type 0 where
  pub asks : (history : List HostEntry) (id : CallId) (route pdu : List ℕ) (path : ℕ)
      → asked_on (history ++ Ask id route pdu ∷ []) path
      ≡ asked_on history path + (if id.path == path then 1 else 0)
  pub answers : (history : List HostEntry) (id : CallId) (result : HostResult) (path : ℕ)
      → asked_on (history ++ Answer id result ∷ []) path ≡ asked_on history path
  pub serving : (history : List HostEntry) (id : CallId) (request reply : List ℕ) (path : ℕ)
      → asked_on (history ++ Served id request reply ∷ []) path ≡ asked_on history path

-- What each legal history tells of the Requests that its paths have without an answer.
pub record OpenRequestsFollow : Type 0 where
  pub asks : AsksOpenTheirPath
  pub answers : AnswersFreeTheirPath
  pub serving : ServingKeepsPaths
  pub last : OpenRequestsAreLast
  pub new : AsksMakeNewCalls
  pub counts : CountsFollow

-- No call has an answer before it is asked.
abbrev pub AsksHaveNewNames : Type 0
AsksHaveNewNames =
    (plan : HostPlan) (history before after : List HostEntry) (id : CallId) (route pdu : List ℕ)
    → IsHostHistory plan history → history ≡ before ++ Ask id route pdu ∷ after
    → has_answer before id ≡ false
