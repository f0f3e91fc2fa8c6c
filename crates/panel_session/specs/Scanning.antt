-- A scan of a controller that is alone on a bench. All of it is this project's own.
use Rattle.std.specs.Prelude.{◌≡◌, ◌+◌, if◌then◌else◌, List, [], ◌∷◌, ◌++◌, fold, map}
use Rattle.mstr_block.specs.declared.call.MstrResult.TheVariants.{Bad}
use Rattle.mstr_block.specs.Table.{has_untaken}
use Rattle.controller_core.specs.declared.call.Call.{Call}
use Rattle.controller_core.specs.declared.entry.Entry.{Entry}
use Rattle.controller_core.specs.declared.entry.Entry.TheVariants.{Collect, Finish}
use Rattle.controller_core.specs.declared.entry.StepEnd.{StepEnd}
use Rattle.controller_core.specs.declared.entry.StepEnd.TheVariants as ends
use Rattle.controller_core.specs.declared.fixed.Fixed.{Fixed}
use Rattle.controller_core.specs.Calls.{calls_of}
use Rattle.controller_core.specs.Controller.{ControllerIs, IsLegal, grown, has_ended, state_of}
use Rattle.controller_core.specs.Replay.{ControllerState, apply, table_of}
use Rattle.controller_core.specs.Run.{entries_from}
use Rattle.scan_order.specs.Due.{due}
use Rattle.panel_session.specs.declared.bench.BenchEnd.{BenchEnd}
use Rattle.panel_session.specs.declared.bench.BenchEnd.TheVariants.{Done, Ended, Stopped}

-- The word of a call to a target that is no member.
abbrev pub nobody_there : Call → Entry
nobody_there call = Finish call.id (Bad 0x6103)

-- Calls that are there to collect are collected, and each ends at once, since nobody is there.
abbrev pub calls_ended : ControllerState → List Entry
calls_ended s =
    let calls = calls_of (table_of s) in
    if has_untaken (table_of s) then Collect calls ∷ map nobody_there calls else []

-- A controller after its calls have ended so.
abbrev pub after_calls : ControllerIs → ControllerIs
after_calls v = grown v (calls_ended (state_of v)) v.reserved

-- The events of the scan that is due in a state, up to a stop.
abbrev pub scan_due : Fixed → ControllerState → List Entry
scan_due fixed s = entries_from fixed s (due fixed.plan (s.gone + 1))

-- What a scan on the bench makes: its events, and then the ends of the calls that it started.
abbrev pub scan_made : Fixed → ControllerState → List Entry
scan_made fixed s =
    let events = scan_due fixed s in events ++ calls_ended (fold (apply fixed) s events)

-- What a scan answers, by what a step does at its entry.
abbrev pub bench_end : StepEnd → BenchEnd
bench_end (ends.Did step) = Done
bench_end ends.Ended = Ended
bench_end (ends.Stopped code) = Stopped code

-- The entries that a scan makes; none where all scans are gone or the controller has stopped.
abbrev pub scan_entries : ControllerIs → List Entry
scan_entries v = if has_ended v then [] else scan_made v.fixed (state_of v)

-- A controller after a scan on the bench.
abbrev pub after_scan : ControllerIs → ControllerIs
after_scan v = grown v (scan_entries v) v.reserved

-- Memory ran out in a scan: the entries made so far stand, which are the first of it, and the
-- history is legal.
pub record HasBegunScan (old new : ControllerIs) : Type 0 where
  pub front : List Entry
  pub rest : List Entry
  pub is : new ≡ grown old front old.reserved
  pub made : front ++ rest ≡ scan_entries old
  pub legal : IsLegal new.fixed new.history

-- Memory ran out while a controller's calls were given up: the entries made so far stand, which are
-- the first of those that end the calls, and the history is legal.
pub record HasBegunGivingUp (old new : ControllerIs) : Type 0 where
  pub front : List Entry
  pub rest : List Entry
  pub is : new ≡ grown old front old.reserved
  pub made : front ++ rest ≡ calls_ended (state_of old)
  pub legal : IsLegal new.fixed new.history
