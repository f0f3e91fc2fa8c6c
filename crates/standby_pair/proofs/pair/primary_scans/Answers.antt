use Rattle.std.proofs.Common.{◌++◌, List, take, sym, ap, subst, ◌∙◌, arith}
use Rattle.controller_core.specs.declared.entry.Entry.{Entry}
use Rattle.controller_core.specs.declared.fixed.Fixed.{Fixed}
use Rattle.controller_core.specs.Controller.{ControllerIs, IsLegal, fixed_with}
use Rattle.panel_session.specs.Serving.{request_count}
use Rattle.standby_pair.specs.Course.{LeavesScans, parts_of, scans_to_come}
use Rattle.standby_pair.specs.Kept.{parts_history, scan_parts}
use Rattle.panel_session.specs.Asked.{frames_heard}
use Rattle.standby_pair.proofs.Courses.{start-leaves}
use Rattle.standby_pair.proofs.pair.primary_scans.Goals as goal

pub make_scans-requires-clause-node : goal.make_scans-requires-clause-node
make_scans-requires-clause-node c =
    ap (λ (v : ControllerIs). v.fixed.plan.node) c.in_ok-bench.ensures

pub make_scans-requires-clause-leaves : goal.make_scans-requires-clause-leaves
make_scans-requires-clause-leaves c =
    subst (λ (v : ControllerIs). LeavesScans v c.args.scans) (sym c.in_ok-bench.ensures)
    (start-leaves (fixed_with c.args.plan.now c.args.scan_time c.args.watchdog c.args.scans))

pub make_scans-requires-clause-few : goal.make_scans-requires-clause-few
make_scans-requires-clause-few c = λ goes.
    let none = ap (λ (v : ControllerIs). request_count v.history) c.in_ok-bench.ensures in
    omega (arith, none, c.requires.few)

pub returns-clause-parts : goal.returns-clause-parts
returns-clause-parts c =
    c.in_ok-made.ensures.parts
    ∙ ap (λ (v : ControllerIs). take c.args.fail (parts_of (scans_to_come v c.args.scans
    (frames_heard c.args.frames.now)))) c.in_ok-bench.ensures

pub returns-clause-legal : goal.returns-clause-legal
returns-clause-legal c =
    let parts = scan_parts c.in_ok-made.made.items in
    let fixed = c.in_ok-made.ensures.fixed
    ∙ ap (λ (v : ControllerIs). v.fixed) c.in_ok-bench.ensures in
    let history = c.in_ok-made.ensures.history
    ∙ ap (λ (v : ControllerIs). v.history ++ parts_history parts) c.in_ok-bench.ensures in
    subst (λ (fixed : Fixed). IsLegal fixed (parts_history parts)) fixed
    (subst (λ (h : List Entry). IsLegal c.make_scans.new.bench.fixed h) history
    c.history.ensures.legal)
