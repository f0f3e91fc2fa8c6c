use Rattle.std.proofs.Common.{ap, ◌∙◌}
use Rattle.turn_gate.proofs.Between.{never_none, closes_with}
use Rattle.turn_gate.proofs.gates.Gate.close.Goals as goal

pub unreachable-requires : goal.unreachable-requires
unreachable-requires g c =
    let J = g.V.Journal in
    never_none J.entries J.fixed J.maker _ _ _ _ _ _ _ _ c.pass.view_is c.pass.invariant
    c.requires.outside c.requires.zero c.requires.all_back
    c.close_with-closed.ensures.values.2 c.take-value.ensures.value c.in-None.is

pub returns-clause-fixed : goal.returns-clause-fixed
returns-clause-fixed g c =
    let J = g.V.Journal in
    let h = closes_with J.entries J.fixed J.maker _ _ _ _ _ _ _ _ c.pass.view_is c.pass.invariant
    c.requires.outside c.requires.zero
    c.requires.all_back c.close_with-closed.ensures.values.2 c.take-value.ensures.value
    c.in-Some.value c.in-Some.is in
    h.fixed_is ∙ ap (λ v. v.fixed) c.self.view_is

pub returns-clause-entries : goal.returns-clause-entries
returns-clause-entries g c =
    let J = g.V.Journal in
    let h = closes_with J.entries J.fixed J.maker _ _ _ _ _ _ _ _ c.pass.view_is c.pass.invariant
    c.requires.outside c.requires.zero
    c.requires.all_back c.close_with-closed.ensures.values.2 c.take-value.ensures.value
    c.in-Some.value c.in-Some.is in
    h.whole

pub returns-clause-own : goal.returns-clause-own
returns-clause-own g c =
    let J = g.V.Journal in
    let h = closes_with J.entries J.fixed J.maker _ _ _ _ _ _ _ _ c.pass.view_is c.pass.invariant
    c.requires.outside c.requires.zero
    c.requires.all_back c.close_with-closed.ensures.values.2 c.take-value.ensures.value
    c.in-Some.value c.in-Some.is in
    h.own_is

pub returns-clause-named : goal.returns-clause-named
returns-clause-named g c =
    let J = g.V.Journal in
    let h = closes_with J.entries J.fixed J.maker _ _ _ _ _ _ _ _ c.pass.view_is c.pass.invariant
    c.requires.outside c.requires.zero
    c.requires.all_back c.close_with-closed.ensures.values.2 c.take-value.ensures.value
    c.in-Some.value c.in-Some.is in
    h.named

pub returns-clause-heard : goal.returns-clause-heard
returns-clause-heard g c =
    let J = g.V.Journal in
    let h = closes_with J.entries J.fixed J.maker _ _ _ _ _ _ _ _ c.pass.view_is c.pass.invariant
    c.requires.outside c.requires.zero
    c.requires.all_back c.close_with-closed.ensures.values.2 c.take-value.ensures.value
    c.in-Some.value c.in-Some.is in
    h.heard
