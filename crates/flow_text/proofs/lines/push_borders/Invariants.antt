use Rattle.std.proofs.Common.{◌≡◌, ◌++◌, drop, string_bytes}
use Rattle.std.specs.List.{flat_map}
use Rattle.flow_text.specs.Lines.{border_text}
use Rattle.flow_text.proofs.lines.push_borders.Given as goal

abbrev pub invariant-loop-border : goal.invariant-loop-border
invariant-loop-border l =
    string_bytes l.text ++ flat_map border_text (drop l.border-index l.borders)
    ≡ string_bytes l.fn.text ++ flat_map border_text l.borders
