use Rattle.std.proofs.Common.{ap, sym, ◌∙◌}
use Rattle.std.specs.Prelude.{nat_lt}
use Rattle.key_store.specs.Banks.{bank_words}
use Rattle.state_ram.specs.Packed.{packed_contents}
use Rattle.state_ram.proofs.Banked.{held_place, word_at-packed, on_again}
use Rattle.key_store.proofs.store.KeyRamRefStore.bit.Goals as goal

pub bit-requires-clause-place : goal.bit-requires-clause-place
bit-requires-clause-place c = held_place (bank_words c.self.inside.banks) (packed_contents c.args.self.now) c.args.at
    (ap packed_contents c.self.view_is) c.requires.held

pub returns : goal.returns
returns c =
    sym (on_again c.bit.result)
    ∙ ap (nat_lt 0) (c.bit.ensures
    ∙ sym (word_at-packed (bank_words c.self.inside.banks) (packed_contents c.args.self.now) c.args.at
    (ap packed_contents c.self.view_is) (held_place
    (bank_words c.self.inside.banks) (packed_contents c.args.self.now) c.args.at (ap packed_contents c.self.view_is) c.requires.held)))
