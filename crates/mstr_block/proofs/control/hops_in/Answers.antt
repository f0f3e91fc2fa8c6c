use Rattle.std.proofs.Common.{sym, subst, arith}
use Rattle.plant_types.specs.declared.reference.Ref.{Ref}
use Rattle.plant_types.specs.Store.{HasRegisters}
use Rattle.plant_types.proofs.RunLemmas.{HasRegisters-part}
use Rattle.mstr_block.proofs.control.hops_in.Goals as goal

pub load_words-requires : goal.load_words-requires
load_words-requires g c =
    let m = g.R.RefStore.contents c.args.ram.now in
    subst (λ (at : Ref). HasRegisters m at 4) (sym c.ref_after.ensures)
    (HasRegisters-part m c.args.control 9 5 4 c.requires (omega arith))
