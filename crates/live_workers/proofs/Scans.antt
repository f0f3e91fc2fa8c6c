-- What a scan worker adds behind the gate.
use Rattle.std.proofs.Common.{◌≡◌, zero, suc, List, [], ◌∷◌, All, Result, Ok, Err, IfOk}
use Rattle.std.proofs.Common.{OnErr, sym, ap, ◌∙◌, arith, append-nil, ◌+◌, ◌≤◌, ◌++◌, drop, length}
use Rattle.std.proofs.Math.Seq.{drop-append_seam}
use Rattle.std.proofs.lemmas.List.{length-append}
use Rattle.turn_gate.specs.Known.{PassFacts, PassAdds}
use Rattle.controller_core.specs.declared.entry.Entry.{Entry}
use Rattle.controller_core.specs.declared.entry.StepEnd.{StepEnd}
use Rattle.controller_core.specs.declared.entry.StepEnd.TheVariants.{Did, Ended, Stopped}
use Rattle.controller_core.specs.declared.entry.Maker.TheVariants.{Scan}
use Rattle.controller_core.specs.Controller.{AreOf, ControllerIs, ControllerWentOn, step_entries}
use Rattle.gated_sides.specs.Cells.{maker_number, number_of_maker}
use Rattle.gated_sides.proofs.Stays.{adds}

all-scan : (es : List Entry) → AreOf Scan es → All (λ e. maker_number e ≡ 1) es
all-scan [] are k d low = absurd (omega arith)
all-scan (e ∷ es) are zero d low = ap number_of_maker are.0
all-scan (e ∷ es) are (suc k) d low = all-scan es are.1 k d (omega arith)

-- a step adds its events, under the number of the scan; nothing where it was refused
pub step-adds : {X : Type 0} (r : Result StepEnd X) (old new : ControllerIs) (q : PassFacts Entry)
    (entered : List Entry) → q.number ≡ 1
    → q.seen ≡ entered → old.history ≡ entered
    → IfOk r (λ end. ControllerWentOn Scan (step_entries old end) old new) → OnErr r (new ≡ old)
    → PassAdds maker_number q new.history
step-adds (Ok end) old new q entered number seen same went err =
    adds maker_number q 1 old.history (step_entries old end) new.history number
    (seen ∙ sym same) went.history
    (all-scan (step_entries old end) went.made)
step-adds (Err why) old new q entered number seen same went err =
    adds maker_number q 1 old.history [] new.history number (seen ∙ sym same)
    (ap (λ (v : ControllerIs). v.history) err
    ∙ sym (append-nil old.history)) (λ k d low. absurd (omega arith))

-- a step makes one event at most
one-event : (v : ControllerIs) (end : StepEnd) → length (step_entries v end) ≤ 1
one-event v (Did step) = omega arith
one-event v Ended = omega arith
one-event v (Stopped code) = omega arith

-- what a stay adds is what its step made
stay-mine : (mine seen added list : List Entry) → list ≡ seen ++ added → length added ≤ 1
    → length (mine ++ drop (length seen) list) ≤ length mine + 1
stay-mine mine seen added list is few =
    let behind : drop (length seen) list ≡ added = ap (λ (l : List Entry). drop (length seen) l) is
    ∙ drop-append_seam seen added in
    let size : length (mine ++ drop (length seen) list) ≡ length mine
    + length (drop (length seen) list) = length-append mine (drop (length seen) list) in
    omega (arith, size, ap (λ (l : List Entry). length l) behind, few)

-- a stay of the scan adds one event at most
pub stay-adds-one : {X : Type 0} (r : Result StepEnd X) (old new : ControllerIs)
    (mine entered : List Entry) → old.history ≡ entered
    → IfOk r (λ end. ControllerWentOn Scan (step_entries old end) old new) → OnErr r (new ≡ old)
    → length (mine ++ drop (length entered) new.history) ≤ length mine + 1
stay-adds-one (Ok end) old new mine entered same went err =
    stay-mine mine entered (step_entries old end) new.history
    (went.history ∙ ap (λ (l : List Entry). l ++ step_entries old end) same) (one-event old end)
stay-adds-one (Err why) old new mine entered same went err =
    stay-mine mine entered [] new.history
    (ap (λ (v : ControllerIs). v.history) err ∙ (same ∙ sym (append-nil entered))) (omega arith)
