use Rattle.std.proofs.Common.{rules, ap, sym, ◌∙◌, subst, Some, ◌∷◌}
use Rattle.atomic_table.specs.Table.{rest}
use Rattle.turn_gate.specs.Moves.{MayLeave}
use Rattle.turn_gate.proofs.Releasing.{releases}
use Rattle.turn_gate.proofs.gates.Gate.put_back.Goals as goal

pub fetch_add-requires : goal.fetch_add-requires
fetch_add-requires g c =
    let i = c.requires.inside in
    let x = c.args.value in
    let J = g.V.Journal in
    let e = c.exchange.ensures.3 ∙ ap (λ l. (c.args.seat.now.me.0, (0, Some x) ∷ rest l)) i.1 in (
      c.exchange.ensures.0 ∙ (c.requires.gate ∙ ap (λ v. v.name.table) (sym c.self.view_is)),
      search rules,
      releases J.entries J.fixed J.maker c.self.inside.table.shared.key.value _ _ _ i.0.0 x
          (ap (λ m. m.0.phase) e ∙ i.0.1) (ap (λ m. m.1) e)
          (c.requires.fixed ∙ ap (λ v. v.fixed) (sym c.self.view_is))
          (subst (λ v. MayLeave J.entries J.maker v x) (sym (ap (λ m. m.0) e)) c.requires.may),
    )
