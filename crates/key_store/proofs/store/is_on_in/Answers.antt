use Rattle.std.proofs.Common.{ap, ◌∙◌, ◌+◌, ◌-◌, ◌/◌, ◌%◌, get_or}
use Rattle.state_ram.specs.Bits.{word_bit}
use Rattle.key_store.proofs.Cutting.{on-coil-at, on-input-at}
use Rattle.key_store.proofs.store.is_on_in.Goals as goal

pub returns-in-Coil : goal.returns-in-Coil
returns-in-Coil c =
    let at = c.args.at in
    c.bit_of.ensures
    ∙ (ap (λ w. word_bit w ((at.number - 1) % 16)) (c.word_at.ensures
    ∙ ap (λ n. get_or c.args.words.now n 0) c.from-group.ensures)
    ∙ on-coil-at c.args.sizes c.args.words.now at c.in-Coil.is c.requires.whole c.requires.held)

pub returns-in_default : goal.returns-in_default
returns-in_default c =
    let at = c.args.at in
    c.bit_of-in_default.ensures
    ∙ (ap (λ w. word_bit w ((at.number - 1) % 16)) (c.word_at-in_default.ensures
    ∙ (ap (λ n. get_or c.args.words.now (c.from-before.result + n) 0) c.from-group.ensures
    ∙ ap (λ n. get_or c.args.words.now (n + (at.number - 1) / 16) 0) c.from-before.ensures))
    ∙ on-input-at c.args.sizes c.args.words.now at c.requires.kind c.in_default.not-Coil
    c.requires.whole c.requires.held)
