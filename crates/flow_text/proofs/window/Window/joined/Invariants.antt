use Rattle.std.proofs.Common.{◌≡◌, ◌++◌, drop, map, string_bytes}
use Rattle.std.specs.List.{flat_map}
use Rattle.flow_text.proofs.window.Window.joined.Given as goal

abbrev pub invariant-loop-piece : goal.invariant-loop-piece
invariant-loop-piece l =
    l.text.items
    ++ flat_map (λ piece. piece) (map string_bytes (drop l.piece-index l.self.texts.items))
    ≡ flat_map (λ piece. piece) (map string_bytes l.self.texts.items)
