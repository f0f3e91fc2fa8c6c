use Rattle.std.proofs.Common.{◌≡◌, ◌∷◌, take}
use Rattle.ascii_port.proofs.writing.frame_text.Given as goal

abbrev pub invariant-loop-byte : goal.invariant-loop-byte
invariant-loop-byte l = l.frame ≡ l.address ∷ take l.byte-index l.byte-items
