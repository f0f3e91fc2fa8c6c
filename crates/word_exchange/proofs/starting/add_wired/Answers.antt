use Rattle.std.proofs.Common.{sym, ap, ◌∙◌}
use Rattle.std.specs.List.{list_any}
use Rattle.word_exchange.specs.Starting.{is_drop_of}
use Rattle.word_exchange.proofs.StartLemmas.{adds-new}
use Rattle.word_exchange.proofs.starting.add_wired.Goals as goal

pub returns : goal.returns
returns c =
    let wire = c.args.wire in
    adds-new c.args.plant.now c.args.wires.now c.args.froms.now c.args.readers.now wire
    c.args.wired.now.items c.push.new.self.items c.in_ok-wired_drop.field-0
    (ap (list_any (is_drop_of wire.node wire.drop)) (sym c.as_slice.ensures.value)
    ∙ sym c.is_there.ensures ∙ c.if-is_there.false)
    c.in_ok-wired_drop.ensures c.in_ok-push.ensures.items
