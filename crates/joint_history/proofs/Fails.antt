-- How often a controller's power failed: as often as its list says.
use Rattle.std.proofs.Common.{◌≡◌, ◌+◌, Bool, true, false, List, [], ◌∷◌, Option, Some, None, refl}
use Rattle.std.proofs.Common.{ap, ◌∙◌}
use Rattle.std.specs.Prelude.{ℕ, fold, if◌then◌else◌}
use Rattle.plant_types.specs.declared.drops.IoDrop.{IoDrop}
use Rattle.plant_types.specs.declared.network.Segment.{Segment}
use Rattle.plant_types.specs.declared.plan.OrderRow.{OrderRow}
use Rattle.controller_core.specs.ScanOrder.{row_of}
use Rattle.controller_core.specs.declared.entry.Entry.{Entry}
use Rattle.controller_core.specs.declared.entry.Entry.TheVariants.{Begin, Input, Solve, Output, End}
use Rattle.controller_core.specs.declared.entry.Entry.TheVariants.{Fail, Dark, Off}
use Rattle.controller_core.specs.declared.entry.Entry.TheVariants.{Collect, Peer, Finish}
use Rattle.controller_core.specs.declared.fixed.Fixed.{Fixed}
use Rattle.controller_core.specs.Replay.{ControllerState, apply, control_is_on, read_in}
use Rattle.controller_core.specs.Replay.{segment_solved, solved, start}
use Rattle.tied_lists.specs.Items.{Items, no_items}
use Rattle.joint_history.specs.Reading.{failures_at, item_next, items_after, items_of}

reads-fail-none : (drops : List IoDrop) (drop : Option ℕ) (s : ControllerState)
    → (read_in drops drop s).failures ≡ s.failures
reads-fail-none drops None s = refl
reads-fail-none drops (Some drop) s = refl

solves-fail-none : (segments : List Segment) (row : Option OrderRow) (s : ControllerState)
    → (solved segments row s).failures ≡ s.failures
solves-fail-none segments None s = refl
solves-fail-none segments (Some row) s = either (control_is_on s.solving.map row.control)
  where
    either : (b : Bool)
        → (if b then segment_solved segments row.segment s else s).failures ≡ s.failures
    either true = refl
    either false = refl

fails-next : (f : Fixed) (s : ControllerState) (a : Items) (e : Entry) → s.failures ≡ a.fails
    → (apply f s e).failures ≡ (item_next a e).fails
fails-next f s a Begin same = same
fails-next f s a (Input row) same = reads-fail-none f.plan.drops _ s ∙ same
fails-next f s a (Solve row) same = solves-fail-none f.plan.segments (row_of f.plan row) s ∙ same
fails-next f s a (Output row words) same = same
fails-next f s a End same = same
fails-next f s a Fail same = ap (λ n. n + 1) same
fails-next f s a Dark same = same
fails-next f s a (Collect calls) same = same
fails-next f s a (Peer id request reply) same = same
fails-next f s a (Off id request) same = same
fails-next f s a (Finish id result) same = same

fails-after : (f : Fixed) (s : ControllerState) (a : Items) (h : List Entry)
    → s.failures ≡ a.fails → (fold (apply f) s h).failures ≡ (items_after a h).fails
fails-after f s a [] same = same
fails-after f s a (e ∷ h) same =
    fails-after f (apply f s e) (item_next a e) h (fails-next f s a e same)

pub failures-are : (f : Fixed) (h : List Entry) → failures_at f h ≡ (items_of h).fails
failures-are f h = fails-after f (start f.plan) no_items h refl
