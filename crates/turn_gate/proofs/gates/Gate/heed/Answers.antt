use Rattle.std.proofs.Common.{rules, ap, sym, ◌∙◌}
use Rattle.turn_gate.proofs.Heeding.{heeds}
use Rattle.turn_gate.proofs.gates.Gate.heed.Goals as goal

pub load-requires : goal.load-requires
load-requires g c =
    let J = g.V.Journal in
    let keeps = c.requires.keeps in (
      c.requires.gate ∙ ap (λ v. v.name.table) (sym c.self.view_is),
      search rules,
      heeds J.entries J.fixed J.maker _ _ _ _ keeps.0 keeps.1,
    )
