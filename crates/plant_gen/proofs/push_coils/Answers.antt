use Rattle.std.proofs.Common.{◌-◌, ◌+◌, ◌++◌, ◌∷◌, [], ◌∙◌, ap, arith, string_bytes}
use Rattle.std.specs.List.{range_with_len}
use Rattle.plant_gen.specs.Text.{contacts_network, contacts_of, network_line, lines_text}
use Rattle.plant_gen.proofs.TextLemmas.{lines_of_networks, one_more}
use Rattle.plant_gen.proofs.push_coils.Goals as goal

pub loop-coil-preserved : goal.loop-coil-preserved
loop-coil-preserved c =
    let made = c.args.made in
    let coil = c.loop-coil.coil in
    c.in_ok-push_contacts.ensures
    ∙ one_more (λ at. lines_text (network_line (contacts_network made.number made.node at) ∷ []))
    (string_bytes c.args.text.now) (string_bytes c.loop-coil.text) 1 (coil - 1) (coil + 1 - 1) coil
    (omega arith) (omega arith) c.loop-coil.invariant

pub returns-in_ok-push_contacts : goal.returns-in_ok-push_contacts
returns-in_ok-push_contacts c =
    let made = c.args.made in
    let coil = c.loop-coil.coil in
    c.in_ok-push_contacts.ensures
    ∙ one_more (λ at. lines_text (network_line (contacts_network made.number made.node at) ∷ []))
    (string_bytes c.args.text.now) (string_bytes c.loop-coil.text) 1 (coil - 1)
    (contacts_of made.number) coil
    (omega arith) (omega arith) c.loop-coil.invariant
    ∙ ap (λ more. string_bytes c.args.text.now ++ more)
    (lines_of_networks (contacts_network made.number made.node)
    (range_with_len 1 (contacts_of made.number)))
