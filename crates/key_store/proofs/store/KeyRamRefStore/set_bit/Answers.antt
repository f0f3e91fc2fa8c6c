use Rattle.std.proofs.Common.{ap, sym, subst, cond}
use Rattle.plant_types.specs.Store.{Keeps}
use Rattle.plant_types.proofs.RunLemmas.{Keeps-insert}
use Rattle.key_store.specs.Banks.{bank_words}
use Rattle.state_ram.specs.Packed.{packed_contents}
use Rattle.state_ram.proofs.Banked.{held_place, packed-insert}
use Rattle.key_store.proofs.store.KeyRamRefStore.set_bit.Goals as goal

pub set_bit-requires-clause-place : goal.set_bit-requires-clause-place
set_bit-requires-clause-place c = held_place (bank_words c.self.inside.banks) (packed_contents c.args.self.now)
    c.args.at (ap packed_contents c.self.view_is) c.requires.held

pub returns-clause-stored : goal.returns-clause-stored
returns-clause-stored c =
    let w = bank_words c.self.inside.banks in
    packed-insert w (bank_words c.set_bit.new.self) (packed_contents c.args.self.now) c.args.at
    (cond c.args.on 1 0) (ap packed_contents c.self.view_is)
    (held_place w (packed_contents c.args.self.now) c.args.at (ap packed_contents c.self.view_is) c.requires.held) c.set_bit.ensures

pub returns-clause-keeps : goal.returns-clause-keeps
returns-clause-keeps c = subst (Keeps (packed_contents c.args.self.now)) (sym (returns-clause-stored c))
    (Keeps-insert (packed_contents c.args.self.now) c.args.at (cond c.args.on 1 0))
