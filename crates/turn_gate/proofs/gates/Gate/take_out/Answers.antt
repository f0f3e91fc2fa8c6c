use Rattle.std.proofs.Common.{◌∷◌, Some, ap, ◌∙◌, sym}
use Rattle.atomic_table.specs.Table.{rest}
use Rattle.turn_gate.proofs.gates.Gate.take_out.Goals as goal

pub exchange-requires : goal.exchange-requires
exchange-requires g c =
    let h = c.requires.carries in (
      c.requires.gate ∙ ap (λ v. v.name.table) (sym c.self.view_is),
      (Some h.0, h.1 ∙ ap (λ l. (0, Some h.0) ∷ l) (sym (ap rest h.1))),
    )
