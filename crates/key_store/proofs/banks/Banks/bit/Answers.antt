use Rattle.std.proofs.Common.{ap, sym, ◌∙◌, ◌-◌, ◌%◌, cond}
use Rattle.state_ram.specs.Bits.{word_bit}
use Rattle.key_store.specs.Banks.{bank_words}
use Rattle.state_ram.proofs.Banked.{bit_number}
use Rattle.key_store.proofs.banks.Banks.bit.Goals as goal

pub returns : goal.returns
returns c =
    ap (λ on. cond on 1 0)
    (c.bit_of.ensures ∙ ap (λ w. word_bit w ((c.args.at.number - 1) % 16)) c.group.ensures)
    ∙ sym (bit_number (bank_words c.args.self.now) c.args.at c.requires.kind)
