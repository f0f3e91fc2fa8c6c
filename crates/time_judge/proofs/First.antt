-- The first station that is not in time.
use Rattle.std.specs.Prelude.{IfOk, MatchOption}
use Rattle.std.specs.List.{AllByRecursion as Each}
use Rattle.std.proofs.Common.{◌≡◌, ℕ, ◌<◌, suc, Option, Some, None, Result, Ok, Err, subst, List}
use Rattle.std.proofs.Common.{[], ◌∷◌, ◌++◌, length, get_or, map, take, drop, sym, ap, ◌∙◌}
use Rattle.std.proofs.Common.{append_assoc, drop-cons}
use Rattle.std.proofs.lemmas.List.{map-append, take-append-drop}
use Rattle.ring_core.specs.declared.entry.RingEntry.{RingEntry}
use Rattle.joint_history.specs.declared.joint.ControllerLog.{ControllerLog}
use Rattle.joint_history.specs.declared.joint.HostLog.{HostLog}
use Rattle.one_order.specs.Orders.{Log}
use Rattle.entry_causes.specs.Causes.{StationEntry}
use Rattle.entry_causes.specs.InTime.{IsInTime}
use Rattle.entry_causes.specs.Joint.{controller_log, host_log}
use Rattle.time_judge.specs.declared.judging.Standstill.{Standstill}
use Rattle.time_judge.specs.Judging.{StandsStill, StandsStillFirst}

pub first-here : {X : Type 0} (f : X → Log StationEntry) (ring : List RingEntry) (logs : List X)
    (k : ℕ) (log : X) (at : Standstill) → k < length logs → log ≡ get_or logs k log
    → Each (IsInTime ring) (map f (take k logs)) → StandsStill ring (f log) at
    → StandsStillFirst ring (map f logs) at
first-here f ring logs k log at low is before here = record {
  before = map f (take k logs);
  log = f log;
  after = map f (drop (suc k) logs);
  logs_are =
      let cut : logs ≡ take k logs ++ log ∷ drop (suc k) logs
      = sym (take-append-drop k logs)
      ∙ ap (λ (l : List _). take k logs ++ l)
      (drop-cons logs k log low ∙ ap (λ (x : _). x ∷ drop (suc k) logs) (sym is)) in
      ap (map f) cut ∙ map-append f (take k logs) (log ∷ drop (suc k) logs);
  in_time = before;
  here = here;
}

pub each-append : (ring : List RingEntry) (a b : List (Log StationEntry)) → Each (IsInTime ring) a
    → Each (IsInTime ring) b → Each (IsInTime ring) (a ++ b)
each-append ring [] b x y = y
each-append ring (log ∷ a) b x y = (x.0, each-append ring a b x.1 y)

pub first-right : (ring : List RingEntry) (a b : List (Log StationEntry)) (at : Standstill)
    → Each (IsInTime ring) a → StandsStillFirst ring b at → StandsStillFirst ring (a ++ b) at
first-right ring a b at x y = record {
  before = a ++ y.before;
  log = y.log;
  after = y.after;
  logs_are =
      ap (λ (l : List (Log StationEntry)). a ++ l) y.logs_are
      ∙ sym (append_assoc a y.before (y.log ∷ y.after));
  in_time = each-append ring a y.before x y.in_time;
  here = y.here;
}

-- what is said of the hosts, where all controllers are in time
abbrev Found : {X : Type 0} → List RingEntry → List (Log StationEntry)
    → Result (Option Standstill) X → Type 0
Found ring logs r =
    IfOk r (λ found. MatchOption found (Each (IsInTime ring) logs) (StandsStillFirst ring logs))

behind : {X : Type 0} (ring : List RingEntry) (a b : List (Log StationEntry))
    (r : Result (Option Standstill) X) → Each (IsInTime ring) a → Found ring b r
    → Found ring (a ++ b) r
behind ring a b (Ok None) x y = each-append ring a b x y
behind ring a b (Ok (Some at)) x y = first-right ring a b at x y
behind ring a b (Err e) x y = tt

abbrev FoundIn : {X : Type 0} → List RingEntry → List ControllerLog → List HostLog
    → Result (Option Standstill) X → Type 0
FoundIn ring cs hs r = Found ring (map controller_log cs ++ map host_log hs) r

pub hosts-behind : {X : Type 0} (ring ring_now : List RingEntry) (cs cs_now : List ControllerLog)
    (hs hs_now : List HostLog) (r : Result (Option Standstill) X)
    → ring ≡ ring_now → cs ≡ cs_now → hs ≡ hs_now → Each (IsInTime ring) (map controller_log cs)
    → Found ring (map host_log hs) r → FoundIn ring_now cs_now hs_now r
hosts-behind ring ring_now cs cs_now hs hs_now r p q s x y =
    subst (λ (g : List RingEntry). FoundIn g cs_now hs_now r) p
    (subst (λ (c : List ControllerLog). FoundIn ring c hs_now r) q
    (subst (λ (h : List HostLog). FoundIn ring cs h r) s
    (behind ring (map controller_log cs) (map host_log hs) r x y)))
