use Rattle.std.proofs.Common.{rules, ap, ◌∙◌, sym}
use Rattle.turn_gate.proofs.Between.{idle_of, keeps_own, never_zero}
use Rattle.turn_gate.proofs.Joining.{joins}
use Rattle.turn_gate.proofs.gates.Gate.join.Goals as goal

pub join_seat-requires : goal.join_seat-requires
join_seat-requires g c =
    let J = g.V.Journal in
    let here = ap (λ v. v.name.table) (sym c.self.view_is) in
    let one = idle_of _ _ (ap (λ p. p.stay) c.one.view_is ∙ c.requires.outside.0)
    c.one.invariant.carries in
    let other = idle_of _ _ (ap (λ p. p.stay) c.other.view_is ∙ c.requires.outside.1)
    c.other.invariant.carries in (
      ap (λ p. p.gate.table) c.one.view_is ∙ (ap (λ v. v.table) c.requires.gate.0 ∙ here),
      ap (λ p. p.gate.table) c.other.view_is ∙ (ap (λ v. v.table) c.requires.gate.1 ∙ here),
      other.1,
      search rules,
      joins J.entries J.fixed J.maker _ _ _ _ _ one.0 _
          (keeps_own c.one.inside.seat.me c.one.invariant.keeps_one) other.0 _
          (keeps_own c.other.inside.seat.me c.other.invariant.keeps_one)
          (never_zero c.other.inside.seat.me c.other.invariant.keeps_one c.other.invariant.no_zero
          (λ e. c.requires.other (ap (λ p. p.number) (sym c.other.view_is) ∙ e))),
    )
