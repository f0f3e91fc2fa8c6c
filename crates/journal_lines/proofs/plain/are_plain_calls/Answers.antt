use Rattle.std.proofs.Common.{List, All, subst}
use Rattle.std.proofs.lemmas.List.{take_all}
use Rattle.std.proofs.lemmas.List.Elements.{All-more}
use Rattle.controller_core.specs.declared.call.Call.{Call}
use Rattle.journal_lines.specs.Plain.{IsPlainCall}
use Rattle.journal_lines.proofs.plain.are_plain_calls.Goals as goal

pub loop-at-preserved : goal.loop-at-preserved
loop-at-preserved c =
    All-more IsPlainCall c.args.calls.now c.loop-at.at c.index-calls-at.result c.loop-at-test.true
    c.loop-at.invariant
    (subst IsPlainCall c.index-calls-at.is
    (c.is_plain_call.ensures.only c.if-not-is_plain_call.false))

pub returns-clause-only : goal.returns-clause-only
returns-clause-only c =
    λ _. subst (λ (calls : List Call). All IsPlainCall calls) (take_all _ _ c.loop-at-test.false)
    c.loop-at.invariant
