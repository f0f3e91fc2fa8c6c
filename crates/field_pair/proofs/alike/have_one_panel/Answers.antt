use Rattle.std.proofs.Common.{rules}
use Rattle.std.proofs.lemmas.Slice.Eq.{slice_eq-Decides}
use Rattle.plant_types.specs.declared.reference.Ref.{Ref}
use Rattle.field_pair.proofs.alike.have_one_panel.Goals as goal

pub returns : goal.returns
returns c =
    slice_eq-Decides (λ (a b : Ref). (search rules, search rules)) c.args.old.now c.args.new.now
    c.eq.result c.eq.ensures
