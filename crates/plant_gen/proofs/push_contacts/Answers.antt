use Rattle.std.proofs.Common.{ap, ◌++◌, string_bytes}
use Rattle.std.proofs.lemmas.Result.{IfOk-equal}
use Rattle.plant_gen.proofs.TextLemmas.{contacts_written}
use Rattle.plant_gen.proofs.push_contacts.Goals as goal

pub returns : goal.returns
returns c =
    let made = c.args.made in
    IfOk-equal _ _ _ _ c.write.ensures.bytes
    (ap (λ line. string_bytes c.args.text.now ++ line)
    (contacts_written made.number made.node c.args.coil c.input_at-opens.result c.coil_at-at.result
    c.input_at-closes.result
    c.input_at-opens.ensures c.coil_at-at.ensures c.input_at-closes.ensures))
