use Rattle.std.proofs.Common.{◌≡◌, ◌∷◌, [], ◌++◌, ◌+◌, suc, All, take, subst, sym, ap, ◌∙◌}
use Rattle.std.proofs.Common.{arith}
use Rattle.std.proofs.Math.Seq.{take-suc}
use Rattle.std.proofs.lemmas.List.{take_all}
use Rattle.std.proofs.lemmas.List.Elements.{All-append, All-cons, All-nil}
use Rattle.joint_history.specs.declared.joint.BridgeLog.{BridgeLog}
use Rattle.journal_lines.specs.Plain.{IsPlainBridgeEntry}
use Rattle.journal_text.proofs.plain.are_plain_bridge_logs.Goals as goal

-- all entries of a log are plain
abbrev IsPlainBridgeLog : BridgeLog → Type 0
IsPlainBridgeLog log = All IsPlainBridgeEntry log.entries

pub loop-at-preserved : goal.loop-at-preserved
loop-at-preserved c =
    let log = c.index-logs-at.result in
    let here : IsPlainBridgeLog log =
    subst (All IsPlainBridgeEntry)
    (c.as_slice.ensures ∙ ap (λ (of : BridgeLog). of.entries) (sym c.index-logs-at.is))
    (c.are_plain_bridge_entries.ensures.only c.if-not-are_plain_bridge_entries.false) in
    let last : All IsPlainBridgeLog (log ∷ []) =
    All-cons IsPlainBridgeLog log [] here (All-nil IsPlainBridgeLog) in
    let next : suc c.loop-at.at ≡ c.loop-at.at + 1 = omega arith in
    subst (All IsPlainBridgeLog)
    (ap (λ of. take c.loop-at.at c.args.logs.now ++ of ∷ []) c.index-logs-at.is
    ∙ sym (take-suc c.args.logs.now c.loop-at.at log c.loop-at-test.true)
    ∙ ap (λ count. take count c.args.logs.now) next)
    (All-append IsPlainBridgeLog (take c.loop-at.at c.args.logs.now) (log ∷ []) c.loop-at.invariant
    last)

pub returns-clause-only : goal.returns-clause-only
returns-clause-only c = λ _.
    subst (All IsPlainBridgeLog) (take_all c.loop-at.at c.args.logs.now c.loop-at-test.false)
    c.loop-at.invariant
