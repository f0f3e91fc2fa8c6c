use Rattle.std.proofs.Common.{◌++◌, not, List, ap, ◌∙◌, arith, length}
use Rattle.std.specs.List.{list_any}
use Rattle.controller_core.specs.declared.entry.Entry.{Entry}
use Rattle.controller_core.specs.declared.fixed.Fixed.{Fixed}
use Rattle.panel_session.proofs.Sessions.{done-goes, over-ended}
use Rattle.panel_session.specs.declared.asked.PortFrame.{PortFrame}
use Rattle.standby_pair.specs.Course.{ends_a_scan}
use Rattle.panel_session.specs.Asked.{entries_to_come, replies_to_come}
use Rattle.standby_pair.proofs.Making.{fixed-is, in-few, last-is, over-same, same-count, scan-is}
use Rattle.standby_pair.proofs.Making.{slice-behind}
use Rattle.standby_pair.proofs.scanning.make_scan.Goals as goal

pub returns-in_default : goal.returns-in_default
returns-in_default c =
    let ended = over-ended c.args.bench.now c.in_ok-scan.field-0 c.in_ok-scan.ensures.end
    c.in_default.not-Done in
    (ended, c.in_ok-scan.ensures.ok ∙ over-same c.args.bench.now ended)

pub serve_frames-requires-clause-node : goal.serve_frames-requires-clause-node
serve_frames-requires-clause-node c =
    let goes = done-goes c.args.bench.now c.in_ok-scan.field-0 c.in_ok-scan.ensures.end
    c.in-Done.is in
    ap (λ (fixed : Fixed). fixed.plan.node)
    (fixed-is c.args.bench.now c.scan.new.self goes c.in_ok-scan.ensures.ok)
    ∙ c.requires.node

pub serve_frames-requires-clause-few : goal.serve_frames-requires-clause-few
serve_frames-requires-clause-few c =
    let goes = done-goes c.args.bench.now c.in_ok-scan.field-0 c.in_ok-scan.ensures.end
    c.in-Done.is in
    let few = c.requires.few goes in
    let same = same-count c.args.bench.now c.scan.new.self goes c.in_ok-scan.ensures.ok in
    let inside = in-few c.is_last-last.result c.args.frames.now in
    let count = ap (λ (l : List PortFrame). length l) c.frames_in.ensures in
    omega (arith, few, same, inside, count)

pub returns : goal.returns
returns c =
    let v = c.args.bench.now in
    let w = c.scan.new.self in
    let goes = done-goes v c.in_ok-scan.field-0 c.in_ok-scan.ensures.end c.in-Done.is in
    let is = c.in_ok-scan.ensures.ok in
    let before = ap (λ (l : List Entry). length l) c.history-before.ensures.history in
    let made = slice-behind c.history.result.now v.history w.history
    (length c.history-before.result.now) before c.history.ensures.history in
    scan-is v w goes is c.args.left c.args.frames.now c.is_last-last.result
    c.serve_frames.new.bench _
    (c.is_last-last.ensures
    ∙ last-is v w goes is c.args.left _
    (ap (λ (entries : List Entry). not (list_any ends_a_scan entries)) made))
    c.in_ok-replies.ensures.fixed
    (c.in_ok-replies.ensures.history
    ∙ ap (λ (l : List PortFrame). w.history ++ entries_to_come w l) c.frames_in.ensures)
    c.in_ok-line.ensures
    (c.in_ok-entries.ensures
    ∙ slice-behind c.history-2.result.now v.history c.serve_frames.new.bench.history
    (length c.history-before.result.now) before c.history-2.ensures.history)
    (c.in_ok-replies.ensures.replies
    ∙ ap (λ (l : List PortFrame). replies_to_come w l) c.frames_in.ensures)
