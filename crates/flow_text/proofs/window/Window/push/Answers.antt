use Rattle.std.proofs.Common.{◌≡◌, ◌<◌, ◌-◌, length, map, set, string_bytes, refl, sym, ap, ◌∙◌, arith}
use Rattle.std.proofs.lemmas.List.{get_or-map, length-map, map-set}
use Rattle.std.proofs.lemmas.Result.{on_ok_weaker}
use Rattle.flow_text.proofs.Telling.{told_solve}
use Rattle.flow_text.proofs.window.Window.push.Goals as goal

pub returns : goal.returns
returns c =
    let items = c.args.self.now.texts.items in
    let first = c.args.self.now.first in
    let at = c.args.scan - first in
    let text = c.index_mut-text.result.now in
    let next = c.push_networks.new.text in
    let many : length (map string_bytes items) ≡ length items = length-map items string_bytes in
    let from = c.requires.first in
    let to = c.requires.last in
    let within : at < length items = omega (arith, many, from, to) in
    on_ok_weaker c.push_networks.result
    (λ added. record {
      first = refl;
      texts = told_solve c.args.node c.args.row first c.args.scan c.args.flows.now
          (map string_bytes items) (map string_bytes (set items at next)) (string_bytes text)
          from to
          (ap string_bytes c.index_mut-text.ensures.value
          ∙ sym (get_or-map string_bytes items at text (string_bytes text) within))
          (map-set string_bytes items at next ∙ ap (set (map string_bytes items) at) added);
    })
    c.push_networks.ensures
