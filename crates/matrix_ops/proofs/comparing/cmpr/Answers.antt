use Rattle.std.proofs.Common.{◌+◌, sym, subst, arith}
use Rattle.plant_types.specs.declared.reference.Ref.{Ref}
use Rattle.plant_types.specs.Store.{HasRegisters}
use Rattle.plant_types.proofs.RunLemmas.{HasRegisters-part}
use Rattle.matrix_ops.proofs.comparing.cmpr.Goals as goal

pub register_difference-found-requires-clause-second :
    goal.register_difference-found-requires-clause-second
register_difference-found-requires-clause-second g c =
    let m = g.R.RefStore.contents c.args.ram.now in
    subst (λ (at : Ref). HasRegisters m at c.args.length) (sym c.ref_after.ensures)
    (HasRegisters-part m c.args.mid (c.args.length + 1) 1 c.args.length c.requires.references.1.0
    (omega arith))
