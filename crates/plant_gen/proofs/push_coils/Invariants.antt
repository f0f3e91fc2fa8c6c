use Rattle.std.proofs.Common.{◌≡◌, ◌-◌, ◌++◌, ◌∷◌, [], string_bytes}
use Rattle.std.specs.List.{flat_map, range_with_len}
use Rattle.plant_gen.specs.Text.{contacts_network, network_line, lines_text}
use Rattle.plant_gen.proofs.push_coils.Given as goal

abbrev pub invariant-loop-coil : goal.invariant-loop-coil
invariant-loop-coil l =
    string_bytes l.text ≡ string_bytes l.fn.text
    ++ flat_map
    (λ coil. lines_text (network_line (contacts_network l.made.number l.made.node coil) ∷ []))
    (range_with_len 1 (l.coil - 1))
