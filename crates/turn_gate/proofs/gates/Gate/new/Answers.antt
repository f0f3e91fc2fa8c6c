use Rattle.std.proofs.Common.{Some, [], ◌∷◌, ◌++◌, sym, ◌∙◌}
use Rattle.turn_gate.proofs.Beginning.{begins}
use Rattle.turn_gate.proofs.gates.Gate.new.Goals as goal

pub new-requires : goal.new-requires
new-requires g c = begins g.V.Journal.entries g.V.Journal.fixed g.V.Journal.maker
    c.of-first.result.value c.push_reserved.new.self.items
    (c.push_reserved.ensures.items
    ∙ (λ i. c.in_ok-slots.ensures.items i ++ Some (sym c.of-first.ensures i) ∷ []))
