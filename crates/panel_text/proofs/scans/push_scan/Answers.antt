use Rattle.std.proofs.Common.{◌++◌, ◌∙◌, arith, string_bytes}
use Rattle.panel_text.specs.Scans.{runs_noted, scan_lines}
use Rattle.panel_text.proofs.ScanLemmas.{controller_step, maps_long, maps_meet}
use Rattle.panel_text.proofs.scans.push_scan.Goals as goal

pub bounds-panels-at : goal.bounds-panels-at
bounds-panels-at c =
    let long = maps_long _ _ c.args.panels.now c.args.plans.now c.requires.panels in
    omega (arith, long)

pub push_line-requires : goal.push_line-requires
push_line-requires c =
    let long = maps_long _ _ c.args.panels.now c.args.plans.now c.requires.panels in
    c.as_slice.ensures.value
    ∙ maps_meet _ _ c.args.panels.now c.args.plans.now c.loop-at.at c.index-panels-at.result
    c.index-plans-at.result c.requires.panels (omega (arith, long)) (omega arith)
    c.index-panels-at.is c.index-plans-at.is

pub loop-at-preserved : goal.loop-at-preserved
loop-at-preserved c =
    controller_step c.args.plans.now c.args.notes.now c.loop-at.at c.index-plans-at.result
    c.index-notes-at.result c.args.scan (string_bytes c.loop-at.text)
    (string_bytes c.push_line.new.text)
    (string_bytes c.args.text.now
    ++ scan_lines (runs_noted c.args.plans.now c.args.notes.now) c.args.scan)
    (omega arith) (omega arith) c.index-plans-at.is c.index-notes-at.is c.loop-at.invariant
    c.in_ok-push_line.ensures
