use Rattle.std.proofs.Common.{◌≡◌, ◌∷◌, [], ◌++◌, ◌+◌, suc, All, take, subst, sym, ap, ◌∙◌}
use Rattle.std.proofs.Common.{arith}
use Rattle.std.proofs.Math.Seq.{take-suc}
use Rattle.std.proofs.lemmas.List.{take_all}
use Rattle.std.proofs.lemmas.List.Elements.{All-append, All-cons, All-nil}
use Rattle.joint_history.specs.declared.joint.ControllerLog.{ControllerLog}
use Rattle.journal_lines.specs.Plain.{IsPlainEntry}
use Rattle.journal_text.proofs.plain.are_plain_logs.Goals as goal

-- all entries of a log are plain
abbrev IsPlainLog : ControllerLog → Type 0
IsPlainLog log = All IsPlainEntry log.entries

pub loop-at-preserved : goal.loop-at-preserved
loop-at-preserved c =
    let log = c.index-logs-at.result in
    let here : IsPlainLog log =
    subst (All IsPlainEntry)
    (c.as_slice.ensures ∙ ap (λ (of : ControllerLog). of.entries) (sym c.index-logs-at.is))
    (c.are_plain_entries.ensures.only c.if-not-are_plain_entries.false) in
    let last : All IsPlainLog (log ∷ []) = All-cons IsPlainLog log [] here (All-nil IsPlainLog) in
    let next : suc c.loop-at.at ≡ c.loop-at.at + 1 = omega arith in
    subst (All IsPlainLog)
    (ap (λ of. take c.loop-at.at c.args.logs.now ++ of ∷ []) c.index-logs-at.is
    ∙ sym (take-suc c.args.logs.now c.loop-at.at log c.loop-at-test.true)
    ∙ ap (λ count. take count c.args.logs.now) next)
    (All-append IsPlainLog (take c.loop-at.at c.args.logs.now) (log ∷ []) c.loop-at.invariant last)

pub returns-clause-only : goal.returns-clause-only
returns-clause-only c = λ _.
    subst (All IsPlainLog) (take_all c.loop-at.at c.args.logs.now c.loop-at-test.false)
    c.loop-at.invariant
