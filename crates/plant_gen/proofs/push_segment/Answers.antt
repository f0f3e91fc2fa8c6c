use Rattle.std.proofs.Common.{◌++◌, ◌∙◌, ap, codes, map, string_bytes}
use Rattle.plant_gen.specs.Text.{coil_networks, message_networks, network_line, lines_text}
use Rattle.plant_gen.proofs.TextLemmas.{segment_text}
use Rattle.plant_gen.proofs.push_segment.Goals as goal

pub returns : goal.returns
returns c =
    let made = c.args.made in
    let message = message_networks made.number made.node in
    let coils = coil_networks made.number made.node in
    c.in_ok-push_str-2.ensures.bytes
    ∙ ap (λ text. text ++ codes "]\n") (c.in_ok-push_coils.ensures
    ∙ ap (λ text. text ++ lines_text (map network_line coils)) (c.in_ok-push_message.ensures
    ∙ ap (λ text. text ++ lines_text (map network_line message)) c.in_ok-push_str.ensures.bytes))
    ∙ segment_text (string_bytes c.args.text.now) message coils
