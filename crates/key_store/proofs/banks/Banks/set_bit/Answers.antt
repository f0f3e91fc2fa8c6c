use Rattle.std.proofs.Common.{sym, subst, ◌-◌, ◌%◌, cond}
use Rattle.state_ram.specs.Bits.{IsWithBit}
use Rattle.state_ram.specs.Packed.{Sets}
use Rattle.key_store.specs.Banks.{bank_words}
use Rattle.state_ram.proofs.Banked.{sets_bit}
use Rattle.key_store.proofs.banks.Banks.set_bit.Goals as goal

pub returns : goal.returns
returns c =
    let w = bank_words c.args.self.now in
    let p = (c.args.at.number - 1) % 16 in
    let changed = subst (λ word. IsWithBit word p c.args.on c.with_bit-word.result) c.group.ensures
    c.with_bit-word.ensures in
    subst (λ v. Sets w v c.args.at (cond c.args.on 1 0)) (sym c.set_group.ensures)
    (sets_bit w c.args.at c.args.on c.with_bit-word.result c.requires.kind c.requires.place changed)
