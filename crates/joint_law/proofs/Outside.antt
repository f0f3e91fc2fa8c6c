-- Whether a controller is out of the ring, by the status of its node and by its list.
use Rattle.std.proofs.Common.{◌≡◌, ◌⊎◌, inl, inr, ⊎_elim, ℕ, Bool, true, false, List, [], ◌∷◌}
use Rattle.std.proofs.Common.{Option, Some, None, refl, sym, ap, ◌∙◌}
use Rattle.std.specs.Prelude.{fold, if◌then◌else◌}
use Rattle.plant_types.specs.declared.drops.IoDrop.{IoDrop}
use Rattle.plant_types.specs.declared.network.Segment.{Segment}
use Rattle.plant_types.specs.declared.plan.OrderRow.{OrderRow}
use Rattle.ring_core.specs.Machine.{admitted_status}
use Rattle.ring_core.specs.declared.status.NodeStatus.{NodeStatus}
use Rattle.ring_core.specs.declared.status.NodeStatus.TheVariants.{In, Away, Asking, Gone}
use Rattle.controller_core.specs.declared.fixed.Fixed.{Fixed}
use Rattle.controller_core.specs.declared.entry.Entry.{Entry}
use Rattle.controller_core.specs.declared.entry.Entry.TheVariants as entries
use Rattle.controller_core.specs.Replay.{ControllerState, apply, control_is_on, read_in, replay}
use Rattle.controller_core.specs.Replay.{segment_solved, solved, start}
use Rattle.joint_history.specs.Complete.{StaysOff}
use Rattle.net_laws.proofs.Standing.{is-away, is-gone}
use Rattle.joint_law.specs.AllComplete.{IsOutBy, powered_from, powered_next}

-- ---- power

read-powered : (drops : List IoDrop) (drop : Option ℕ) (s : ControllerState)
    → (read_in drops drop s).powered ≡ s.powered
read-powered drops None s = refl
read-powered drops (Some drop) s = refl

solved-powered : (segments : List Segment) (row : Option OrderRow) (s : ControllerState)
    → (solved segments row s).powered ≡ s.powered
solved-powered segments None s = refl
solved-powered segments (Some row) s = either (control_is_on s.solving.map row.control)
  where
    either : (b : Bool)
        → (if b then segment_solved segments row.segment s else s).powered ≡ s.powered
    either true = refl
    either false = refl

next-powered : (f : Fixed) (s : ControllerState) (e : Entry)
    → (apply f s e).powered ≡ powered_next s.powered e
next-powered f s entries.Begin = refl
next-powered f s (entries.Input row) = read-powered f.plan.drops _ s
next-powered f s (entries.Solve row) = solved-powered f.plan.segments _ s
next-powered f s (entries.Output row words) = refl
next-powered f s entries.End = refl
next-powered f s entries.Fail = refl
next-powered f s entries.Dark = refl
next-powered f s (entries.Collect calls) = refl
next-powered f s (entries.Peer id request reply) = refl
next-powered f s (entries.Off id request) = refl
next-powered f s (entries.Finish id result) = refl

fold-powered : (f : Fixed) (s : ControllerState) (es : List Entry)
    → (fold (apply f) s es).powered ≡ powered_from s.powered es
fold-powered f s [] = refl
fold-powered f s (e ∷ es) =
    fold-powered f (apply f s e) es
    ∙ ap (λ (powered : Bool). powered_from powered es) (next-powered f s e)

replay-powered : (f : Fixed) (es : List Entry) → (replay f es).powered ≡ powered_from true es
replay-powered f es = fold-powered f (start f.plan) es

-- ---- out of the ring

-- where a node stands so, if one that asks to come in counts as in
abbrev IsOut : NodeStatus → Fixed → List Entry → Type 0
IsOut status fixed es = (status ≡ Gone) ⊎ ((status ≡ Away) × StaysOff fixed es)

told-out : (told : NodeStatus) (fixed : Fixed) (es : List Entry)
    → IsOutBy fixed.scans told es → IsOut told fixed es
told-out In fixed es out = absurd out
told-out Away fixed es out =
    inr (refl, record { scans = out.scans_gone; off = replay-powered fixed es ∙ out.off })
told-out Asking fixed es out = absurd out
told-out Gone fixed es out = inl refl

out-told : (told : NodeStatus) (fixed : Fixed) (es : List Entry)
    → IsOut told fixed es → IsOutBy fixed.scans told es
out-told In fixed es (inl is) = absurd cc
out-told In fixed es (inr off) = absurd (let is : In ≡ Away = off.0 in cc)
out-told Away fixed es (inl is) = absurd cc
out-told Away fixed es (inr off) =
    record { scans_gone = off.1.scans; off = sym (replay-powered fixed es) ∙ off.1.off }
out-told Asking fixed es (inl is) = absurd cc
out-told Asking fixed es (inr off) = absurd (let is : Asking ≡ Away = off.0 in cc)
out-told Gone fixed es out = tt

pub out-from : (told status : NodeStatus) (fixed : Fixed) (es : List Entry)
    → told ≡ admitted_status status → IsOutBy fixed.scans told es → IsOut status fixed es
out-from told status fixed es is out =
    ⊎_elim (λ (gone : told ≡ Gone). inl (is-gone status (sym is ∙ gone)))
    (λ (off : (told ≡ Away) × StaysOff fixed es). inr (is-away status (sym is ∙ off.0), off.1))
    (told-out told fixed es out)

pub out-by : (told status : NodeStatus) (fixed : Fixed) (es : List Entry)
    → told ≡ admitted_status status → IsOut status fixed es → IsOutBy fixed.scans told es
out-by told status fixed es is out = out-told told fixed es
    (⊎_elim (λ (gone : status ≡ Gone). inl (is ∙ ap admitted_status gone))
    (λ (off : (status ≡ Away) × StaysOff fixed es). inr (is ∙ ap admitted_status off.0, off.1))
    out)
