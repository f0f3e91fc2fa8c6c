use Rattle.std.proofs.Common.{◌+◌, ap, ◌∙◌, get_or}
use Rattle.field_machine.proofs.Registers.{input-register-cut, register-cut}
use Rattle.field_machine.proofs.reading.register_in.Goals as goal

pub returns-in-InputRegister : goal.returns-in-InputRegister
returns-in-InputRegister c =
    c.word_at.ensures
    ∙ ((λ i. get_or c.args.words.now
    (c.from.ensures i + c.from-2.ensures i + c.from-place.ensures i) 0)
    ∙ input-register-cut c.args.sizes c.args.words.now c.args.at c.in-InputRegister.is
    c.requires.held)

pub returns-in_default : goal.returns-in_default
returns-in_default c =
    c.word_at-in_default.ensures
    ∙ ((λ i. get_or c.args.words.now (c.from.ensures i + c.from-2.ensures i
    + c.from-in_default.ensures i + c.from-place.ensures i) 0)
    ∙ register-cut c.args.sizes c.args.words.now c.args.at c.requires.kind
    c.in_default.not-InputRegister c.requires.held)
