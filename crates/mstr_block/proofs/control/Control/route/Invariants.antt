use Rattle.std.proofs.Common.{◌≡◌, ◌+◌, ◌∷◌, length, take}
use Rattle.mstr_block.proofs.control.Control.route.Given as goal

abbrev pub invariant-loop-place : goal.invariant-loop-place
invariant-loop-place l = (length l.addresses ≡ 5)
    × (take (l.place + 1) l.addresses ≡ l.self.node ∷ take l.place l.self.hops)
