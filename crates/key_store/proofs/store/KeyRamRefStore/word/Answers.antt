use Rattle.std.proofs.Common.{ap, sym, ◌∙◌}
use Rattle.key_store.specs.Banks.{bank_words}
use Rattle.state_ram.specs.Packed.{packed_contents}
use Rattle.state_ram.proofs.Banked.{held_place, word_at-packed}
use Rattle.key_store.proofs.store.KeyRamRefStore.word.Goals as goal

pub word-requires-clause-place : goal.word-requires-clause-place
word-requires-clause-place c = held_place (bank_words c.self.inside.banks) (packed_contents c.args.self.now) c.args.at
    (ap packed_contents c.self.view_is) c.requires.held

pub returns : goal.returns
returns c =
    let w = bank_words c.self.inside.banks in
    c.word.ensures ∙ sym (word_at-packed w (packed_contents c.args.self.now) c.args.at (ap packed_contents c.self.view_is)
    (held_place w (packed_contents c.args.self.now) c.args.at (ap packed_contents c.self.view_is) c.requires.held))
