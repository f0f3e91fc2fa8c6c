use Rattle.std.proofs.Common.{◌≡◌, ◌∷◌, [], ◌++◌, ◌+◌, suc, All, take, subst, sym, ap, ◌∙◌}
use Rattle.std.proofs.Common.{arith}
use Rattle.std.proofs.Math.Seq.{take-suc}
use Rattle.std.proofs.lemmas.List.{take_all}
use Rattle.std.proofs.lemmas.List.Elements.{All-append, All-cons, All-nil}
use Rattle.joint_history.specs.declared.joint.HostLog.{HostLog}
use Rattle.journal_lines.specs.Plain.{IsPlainHostEntry}
use Rattle.journal_text.proofs.plain.are_plain_host_logs.Goals as goal

-- all entries of a log are plain
abbrev IsPlainHostLog : HostLog → Type 0
IsPlainHostLog log = All IsPlainHostEntry log.entries

pub loop-at-preserved : goal.loop-at-preserved
loop-at-preserved c =
    let log = c.index-logs-at.result in
    let here : IsPlainHostLog log =
    subst (All IsPlainHostEntry)
    (c.as_slice.ensures ∙ ap (λ (of : HostLog). of.entries) (sym c.index-logs-at.is))
    (c.are_plain_host_entries.ensures.only c.if-not-are_plain_host_entries.false) in
    let last : All IsPlainHostLog (log ∷ []) =
    All-cons IsPlainHostLog log [] here (All-nil IsPlainHostLog) in
    let next : suc c.loop-at.at ≡ c.loop-at.at + 1 = omega arith in
    subst (All IsPlainHostLog)
    (ap (λ of. take c.loop-at.at c.args.logs.now ++ of ∷ []) c.index-logs-at.is
    ∙ sym (take-suc c.args.logs.now c.loop-at.at log c.loop-at-test.true)
    ∙ ap (λ count. take count c.args.logs.now) next)
    (All-append IsPlainHostLog (take c.loop-at.at c.args.logs.now) (log ∷ []) c.loop-at.invariant
    last)

pub returns-clause-only : goal.returns-clause-only
returns-clause-only c = λ _.
    subst (All IsPlainHostLog) (take_all c.loop-at.at c.args.logs.now c.loop-at-test.false)
    c.loop-at.invariant
