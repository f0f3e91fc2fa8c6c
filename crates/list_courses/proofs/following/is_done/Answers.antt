use Rattle.std.proofs.Common.{◌≡◌, ◌≢◌, ◌⊎◌, inl, inr, sym, ap, ◌∙◌, List, count_by}
use Rattle.std.proofs.lemmas.Result.{IfOk-weaker}
use Rattle.controller_core.specs.declared.entry.Entry.{Entry}
use Rattle.controller_core.specs.Replay.{replay}
use Rattle.joint_history.specs.Complete.{is_scan_end}
use Rattle.joint_history.specs.Reading.{has_started_at}
use Rattle.list_courses.proofs.EndCounts.{done-iff}
use Rattle.list_courses.proofs.following.is_done.Goals.{else-stop_code-eq0-via-then-stop_code-eq0+else-count_scans-scans}
use Rattle.list_courses.proofs.following.is_done.Goals.{else-stop_code-eq0-via-else-stop_code-eq0}
use Rattle.list_courses.proofs.following.is_done.Goals as goal

pub returns : goal.returns
returns c =
    let fixed = c.args.controller.now.fixed in
    let entries = c.args.entries.now in
    let stop = ap (λ (h : List Entry). (replay fixed h).stop) c.requires.history in
    let scans : (count_by is_scan_end entries ≡ fixed.scans) ⊎ ((replay fixed entries).stop ≢ 0) =
    elim c.else-stop_code-eq0.branch [
      | else-stop_code-eq0-via-then-stop_code-eq0+else-count_scans-scans w ↦ inl
          (sym w.count_scans.ensures ∙ (w.if-count_scans-scans.false ∙ sym c.requires.scans))
      | else-stop_code-eq0-via-else-stop_code-eq0 w ↦ inr
          (λ none. w.if-stop_code-eq0.false (c.stop_code.ensures ∙ (stop ∙ none)))
    ] in
    let started = ap (has_started_at fixed) (sym c.requires.history)
    ∙ (sym c.has_started.ensures ∙ c.if-has_started.false) in
    IfOk-weaker c.ends_each_call.result _ _ (λ each h. done-iff fixed entries each scans started h)
    c.ends_each_call.ensures
