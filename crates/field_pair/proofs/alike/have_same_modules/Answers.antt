use Rattle.std.proofs.Common.{rules}
use Rattle.std.proofs.lemmas.Slice.Eq.{slice_eq-Decides}
use Rattle.plant_types.specs.declared.drops.Module.{Module}
use Rattle.field_pair.proofs.alike.have_same_modules.Goals as goal

pub returns : goal.returns
returns c =
    slice_eq-Decides (λ (a b : Module). (search rules, search rules)) c.args.old.now c.args.new.now
    c.eq.result c.eq.ensures
