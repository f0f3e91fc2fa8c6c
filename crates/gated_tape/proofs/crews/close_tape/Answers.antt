use Rattle.std.proofs.Common.{All, ap, sym, subst, ◌∙◌}
use Rattle.turn_gate.specs.Known.{StartsWith}
use Rattle.gated_tape.specs.Marks.{TapeFacts, IsLegalTape}
use Rattle.gated_tape.specs.Crews.{AreByWriters}
use Rattle.gated_tape.proofs.Closing.{by_writers, heard_full}
use Rattle.gated_tape.proofs.crews.close_tape.Goals as goal

pub returns-clause-writers : goal.returns-clause-writers
returns-clause-writers c =
    let whole = ap (λ (t : TapeFacts). t.marks) c.into_inner-tape.ensures in
    subst (AreByWriters c.args.crew.writers) (sym whole)
    (by_writers c.args.gate.name c.args.pass c.requires.opening c.requires.gathered
    c.args.crew.writers _ c.requires.within c.close.ensures.named
    c.close.ensures.own)

pub returns-clause-full : goal.returns-clause-full
returns-clause-full c =
    let whole = ap (λ (t : TapeFacts). t.marks) c.into_inner-tape.ensures in
    let limit = ap (λ (t : TapeFacts). t.limit) c.into_inner-tape.ensures ∙ c.close.ensures.fixed in
    heard_full c.args.gate.fixed c.args.pass c.into_inner-tape.result.marks
    (subst (λ l. All (StartsWith l) c.args.pass.heard) (sym whole) c.close.ensures.heard)
    (subst (λ n. IsLegalTape n c.into_inner-tape.result.marks) limit c.marks.ensures.legal)
