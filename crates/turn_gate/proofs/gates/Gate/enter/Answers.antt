use Rattle.std.proofs.Common.{subst}
use Rattle.turn_gate.specs.Known.{PassFinds, Owns}
use Rattle.turn_gate.proofs.Between.{keeps_own, finds, owns}
use Rattle.turn_gate.proofs.gates.Gate.enter.Goals as goal

pub await_turn-value-requires-clause-keeps : goal.await_turn-value-requires-clause-keeps
await_turn-value-requires-clause-keeps g c =
    (_, keeps_own c.pass.inside.seat.me c.pass.invariant.keeps_one)

pub returns-clause-found : goal.returns-clause-found
returns-clause-found g c =
    let x = c.await_turn-value.result in
    let J = g.V.Journal in
    subst (λ p. PassFinds J.maker p (J.entries x)) c.pass.view_is
    (finds c.pass.inside.seat.me c.pass.invariant.keeps_one J.entries J.fixed J.maker _ _ x
    c.await_turn-value.ensures.handed)

pub returns-clause-own : goal.returns-clause-own
returns-clause-own g c =
    let x = c.await_turn-value.result in
    let J = g.V.Journal in
    subst (λ p. Owns J.maker p (J.entries x)) c.pass.view_is
    (owns c.pass.inside.seat.me c.pass.invariant.keeps_one J.maker _
    (J.entries x) c.await_turn-value.ensures.handed.lists)
