-- Calls that are made. This project's own.
use Rattle.std.specs.Prelude.{◌≡◌, ℕ, Bool, List, [], ◌∷◌, ◌++◌, map, drop, Option}
use Rattle.mstr_block.specs.declared.call.CallId.{CallId}
use Rattle.mstr_block.specs.declared.call.MstrResult.{MstrResult}
use Rattle.controller_core.specs.declared.call.Call.{Call}
use Rattle.controller_core.specs.declared.entry.Entry.{Entry}
use Rattle.controller_core.specs.declared.entry.Entry.TheVariants.{Finish}
use Rattle.ring_core.specs.declared.frame.Frame.{Frame}
use Rattle.ring_core.specs.declared.entry.LocalOp.{LocalOp}
use Rattle.ring_core.specs.declared.entry.RingEntry.{RingEntry}
use Rattle.ring_core.specs.declared.entry.RingEntry.TheVariants.{Local}
use Rattle.tied_lists.specs.Own.{is_of, WentOn, Grew}
use Rattle.tied_lists.specs.Items.{Called}
use Rattle.tied_lists.specs.Calls.{AreNewCalls}
use Rattle.comm_port.specs.Sides.{RingSideIs, RamSideIs}
use Rattle.joint_history.specs.Reading.{is_ours, called_of, items_of}
use Rattle.comm_port.specs.Turns.{Turning}

-- The calls from a place on, as the laws read them.
abbrev pub calls_from : List Call → ℕ → List Called
calls_from calls at = map called_of (drop at calls)

-- A call at home was done on the ring, and then ended with its result.
pub record DoesAtHome (alone_ram alone_ring : Bool) (n : ℕ) (id : CallId) (op : LocalOp)
    (known known_new : List Entry) (ring ring_new : List RingEntry) : Type 0 where
  pub outcome : MstrResult
  pub went : WentOn alone_ram is_ours known (Finish id outcome ∷ []) known_new
  pub grew : Grew alone_ring (is_of n) ring (Local n id op outcome ∷ []) ring_new

-- A worker still has to make these calls: they are the last ones collected, and new.
pub record Owing {P Q : Type 0} (n : ℕ) (rest : List Called) (ram : RamSideIs P)
    (known : List Entry) (side : RingSideIs Q) (ring : List RingEntry)
    (waiting : List (Option Frame)) : Type 0 where
  pub turning : Turning n rest ram known side ring waiting
  pub earlier : List Called
  pub calls_are : (items_of known).calls ≡ earlier ++ rest
  pub fresh : AreNewCalls n earlier (items_of known).ends rest
