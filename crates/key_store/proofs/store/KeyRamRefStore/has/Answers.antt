use Rattle.std.proofs.Common.{ap, sym, ◌∙◌}
use Rattle.std.specs.FinMap.{contains_key}
use Rattle.key_store.specs.Banks.{bank_words}
use Rattle.state_ram.specs.Packed.{packed_contents}
use Rattle.state_ram.proofs.Banked.{contains_key-packed}
use Rattle.key_store.proofs.store.KeyRamRefStore.has.Goals as goal

pub returns : goal.returns
returns c = c.has.ensures ∙ sym (contains_key-packed (bank_words c.self.inside.banks) c.args.at)
    ∙ ap (λ m. contains_key m c.args.at) (ap packed_contents c.self.view_is)
