use Rattle.std.proofs.Common.{◌≡◌, false, All, sym, ap, subst, ◌∙◌, refl}
use Rattle.turn_gate.specs.Known.{Owns, StartsWith}
use Rattle.controller_core.specs.Controller.{ControllerIs, IsLegal}
use Rattle.controller_core.specs.Notes.{notes_of}
use Rattle.joint_history.specs.JointLaws.{fixed_of}
use Rattle.gated_sides.specs.Cells.{controller_in, maker_number}
use Rattle.live_workers.specs.Pairs.{IsBack, ram_side}
use Rattle.live_workers.proofs.Closing.{came-to-end}
use Rattle.live_workers.proofs.Starting.{talks-start}
use Rattle.live_workers.proofs.pairs.run_controller.Goals as goal

pub through_gate-zero-requires-clause-talks : goal.through_gate-zero-requires-clause-talks
through_gate-zero-requires-clause-talks g c κs within =
    let gate = c.in_ok-gate.gate in
    let made = c.new-3.ensures ∙ c.in_ok-controller.ensures in
    let ring = c.args.ring.now in
    talks-start c.args.run.now.plant.now c.args.plan.now.node c.in_ok-worker.worker (ram_side gate)
    gate.name.opening (g.G.RingSide.side ring) (g.G.RingSide.known ring)
    (ap (λ f. f.plan.node) c.in_ok-gate.ensures.fixed
    ∙ ap (λ (v : ControllerIs). v.fixed.plan.node) made)
    (c.in_ok-gate.ensures.opening ∙ ap (λ (v : ControllerIs). v.history) made)
    c.requires.unused c.in_ok-worker.ensures

pub returns-clause-ended : goal.returns-clause-ended
returns-clause-ended g c =
    let gate = c.in_ok-gate.gate in
    let plant = c.args.run.now.plant.now in
    let plan = c.args.plan.now in
    let scans = c.args.run.now.scans in
    let made = c.new-3.ensures ∙ c.in_ok-controller.ensures in
    let fixed : gate.fixed ≡ fixed_of plant scans plan =
    c.in_ok-gate.ensures.fixed ∙ ap (λ (v : ControllerIs). v.fixed) made in
    let t = c.through_gate-zero in
    let side = g.G.RingSide.side t.new.ring in
    let known = g.G.RingSide.known t.new.ring in
    let p = t.result.0 in
    let inner : c.into_inner-controller.result ≡ controller_in c.close.result =
    c.into_inner-controller.ensures in
    let parts = c.into_parts-entries in
    let entries = parts.result.0 in
    let history : entries ≡ (controller_in c.close.result).history =
    parts.ensures.history ∙ ap (λ (v : ControllerIs). v.history) inner in
    let kept : c.into_inner-controller.result.fixed ≡ fixed_of plant scans plan =
    ap (λ (v : ControllerIs). v.fixed) inner ∙ (c.close.ensures.fixed ∙ fixed) in
    let came = came-to-end plant scans plan gate t.new.worker side known p entries _
    (c.in_ok-gate.ensures.opening ∙ ap (λ (v : ControllerIs). v.history) made) fixed
    t.ensures.node (ap (λ s. s.net) t.ensures.side ∙ c.requires.unused.unused.net)
    (subst (IsBack gate t.new.worker side known p) c.if-not-done.false t.ensures.back)
    (subst (λ l. All (StartsWith l) p.heard) (sym history) c.close.ensures.heard)
    (subst (Owns maker_number p) (sym history) c.close.ensures.own)
    (subst (λ f. IsLegal f entries) kept
    (subst (IsLegal c.into_inner-controller.result.fixed) (sym parts.ensures.history)
    parts.ensures.legal)) refl in
    record {
      came = came;
      notes = parts.ensures.notes ∙ (λ i. notes_of (kept i) (sym parts.ensures.history i));
    }
