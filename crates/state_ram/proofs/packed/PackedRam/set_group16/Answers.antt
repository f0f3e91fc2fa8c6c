use Rattle.std.proofs.Common.{ap, sym, subst, ◌∙◌}
use Rattle.plant_types.specs.Store.{Keeps}
use Rattle.plant_types.proofs.RunLemmas.{Keeps-with_words}
use Rattle.state_ram.specs.Banks.{bank_words}
use Rattle.plant_types.specs.Discretes.{word_bits, bit_words}
use Rattle.state_ram.specs.Packed.{packed_contents}
use Rattle.state_ram.proofs.Banked.{held_place, packed-group}
use Rattle.state_ram.proofs.packed.PackedRam.set_group16.Goals as goal

pub set_group-requires-clause-place : goal.set_group-requires-clause-place
set_group-requires-clause-place c = held_place (bank_words c.self.inside.banks) c.args.self.now
    c.args.at c.self.view_is c.requires.held

pub returns-clause-stored : goal.returns-clause-stored
returns-clause-stored c =
    let w = bank_words c.self.inside.banks in
    ap packed_contents c.set_group.ensures
    ∙ packed-group w c.args.self.now c.args.at c.args.value c.self.view_is c.requires.kind
    (held_place w c.args.self.now c.args.at c.self.view_is c.requires.held) c.requires.first

pub returns-clause-keeps : goal.returns-clause-keeps
returns-clause-keeps c = subst (Keeps c.args.self.now) (sym (returns-clause-stored c))
    (Keeps-with_words c.args.self.now c.args.at (bit_words
    (word_bits c.args.value)))
