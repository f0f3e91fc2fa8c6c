use Rattle.std.proofs.Common.{ap, ◌∙◌}
use Rattle.state_ram.specs.Banks.{bank_words}
use Rattle.plant_types.specs.Discretes.{word_bits}
use Rattle.state_ram.proofs.Banked.{held_place, group_bits}
use Rattle.state_ram.proofs.packed.PackedRam.group16.Goals as goal

pub group-requires-clause-place : goal.group-requires-clause-place
group-requires-clause-place c = held_place (bank_words c.self.inside.banks) c.args.self.now
    c.args.at c.self.view_is c.requires.held

pub returns : goal.returns
returns c =
    let w = bank_words c.self.inside.banks in
    ap word_bits c.group.ensures
    ∙ group_bits w c.args.self.now c.args.at c.self.view_is c.requires.kind
    (held_place w c.args.self.now c.args.at c.self.view_is c.requires.held) c.requires.first
