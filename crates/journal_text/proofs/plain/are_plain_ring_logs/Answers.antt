use Rattle.std.proofs.Common.{◌≡◌, ◌∷◌, [], ◌++◌, ◌+◌, suc, All, take, subst, sym, ap, ◌∙◌}
use Rattle.std.proofs.Common.{arith}
use Rattle.std.proofs.Math.Seq.{take-suc}
use Rattle.std.proofs.lemmas.List.{take_all}
use Rattle.std.proofs.lemmas.List.Elements.{All-append, All-cons, All-nil}
use Rattle.joint_history.specs.declared.joint.RingLog.{RingLog}
use Rattle.journal_lines.specs.Plain.{IsPlainRing}
use Rattle.journal_text.proofs.plain.are_plain_ring_logs.Goals as goal

-- all entries of a log are plain
abbrev IsPlainRingLog : RingLog → Type 0
IsPlainRingLog log = All IsPlainRing log.entries

pub loop-at-preserved : goal.loop-at-preserved
loop-at-preserved c =
    let log = c.index-logs-at.result in
    let here : IsPlainRingLog log =
    subst (All IsPlainRing)
    (c.as_slice.ensures ∙ ap (λ (of : RingLog). of.entries) (sym c.index-logs-at.is))
    (c.are_plain_ring.ensures.only c.if-not-are_plain_ring.false) in
    let last : All IsPlainRingLog (log ∷ []) =
    All-cons IsPlainRingLog log [] here (All-nil IsPlainRingLog) in
    let next : suc c.loop-at.at ≡ c.loop-at.at + 1 = omega arith in
    subst (All IsPlainRingLog)
    (ap (λ of. take c.loop-at.at c.args.logs.now ++ of ∷ []) c.index-logs-at.is
    ∙ sym (take-suc c.args.logs.now c.loop-at.at log c.loop-at-test.true)
    ∙ ap (λ count. take count c.args.logs.now) next)
    (All-append IsPlainRingLog (take c.loop-at.at c.args.logs.now) (log ∷ []) c.loop-at.invariant
    last)

pub returns-clause-only : goal.returns-clause-only
returns-clause-only c = λ _.
    subst (All IsPlainRingLog) (take_all c.loop-at.at c.args.logs.now c.loop-at-test.false)
    c.loop-at.invariant
