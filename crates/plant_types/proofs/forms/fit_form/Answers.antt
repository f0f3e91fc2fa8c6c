use Rattle.std.proofs.Common.{◌∙◌}
use Rattle.std.proofs.lemmas.Bool.{ne_eqb}
use Rattle.plant_types.specs.Operands.{fits_form}
use Rattle.plant_types.proofs.SlotLemmas.{pointwise-same, pointwise-other}
use Rattle.plant_types.proofs.forms.fit_form.Goals as goal

pub returns-then-slots-operands : goal.returns-then-slots-operands
returns-then-slots-operands c = c.all_fit_form.ensures
    ∙ pointwise-same fits_form c.args.slots.now c.args.operands.now c.if-slots-operands.true

pub returns-else-slots-operands : goal.returns-else-slots-operands
returns-else-slots-operands c = ne_eqb _ _ c.if-slots-operands.false
    ∙ pointwise-other fits_form c.args.slots.now c.args.operands.now c.if-slots-operands.false
