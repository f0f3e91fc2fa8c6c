use Rattle.std.proofs.Common.{sym, subst}
use Rattle.plant_types.specs.declared.element.Element.{Element}
use Rattle.controller_tables.specs.Driven.{GainsLabel}
use Rattle.controller_tables.proofs.DrivenLemmas.{GainsLabel-insert}
use Rattle.controller_tables.proofs.program.with_label.Goals as goal

pub returns-in-Ok : goal.returns-in-Ok
returns-in-Ok c =
    subst (λ (e : Element). GainsLabel c.insert.new.self.keys c.args.labels.keys e)
    (sym c.in-Label.is) (GainsLabel-insert c.args.labels.keys c.insert.new.self.keys
    c.in-Label.number (λ q. c.in-Ok.ensures.updates.0 q))
