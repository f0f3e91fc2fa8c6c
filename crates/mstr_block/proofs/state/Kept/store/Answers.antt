use Rattle.std.proofs.Common.{sym, subst, length, arith}
use Rattle.plant_types.specs.declared.reference.Ref.{Ref}
use Rattle.plant_types.specs.Store.{HasRegisters}
use Rattle.plant_types.proofs.RunLemmas.{HasRegisters-part, HasRegisters-kept}
use Rattle.mstr_block.proofs.state.Kept.store.Goals as goal

pub store_words-requires : goal.store_words-requires
store_words-requires g c =
    let m = g.R.RefStore.contents c.args.ram.now in
    let after = g.R.RefStore.contents c.set_word.new.self in
    let count = length c.available-available.result.now in
    subst (λ (at : Ref). HasRegisters after at count) (sym c.start_register.ensures)
    (HasRegisters-part after c.args.site.control 9 3 count
    (HasRegisters-kept m after c.args.site.control 9 c.set_word.ensures.keeps c.requires.control)
    (let one = c.available-available.ensures.one in omega arith))
