use Rattle.std.proofs.Common.{◌≡◌, [], ◌∷◌, ap, sym, ◌∙◌, subst, refl}
use lib.ListN.{get_elem?}
use Rattle.turn_gate.specs.Rule.{KeepsNumber}
use Rattle.turn_gate.specs.Moves.{Exact}
use Rattle.turn_gate.specs.Seats.{first_kept, later_kept}
use Rattle.turn_gate.proofs.Between.{keeps_own, ready}
use Rattle.turn_gate.proofs.gates.Gate.split.Goals as goal

pub cut-seat-requires-clause-zero : goal.cut-seat-requires-clause-zero
cut-seat-requires-clause-zero g c =
    subst (λ n. KeepsNumber c.pass.inside.seat.me.0 n)
    (ap (λ p. p.number) c.pass.view_is ∙ c.requires.zero)
    (keeps_own c.pass.inside.seat.me c.pass.invariant.keeps_one)

pub heed-requires-clause-keeps : goal.heed-requires-clause-keeps
heed-requires-clause-keeps g c =
    (c.args.number, ([], (0, ap (λ m. get_elem? m.0.kept 0) c.cut-seat.ensures.newcomer)))

pub returns-clause-ready : goal.returns-clause-ready
returns-clause-ready g c =
    let J = g.V.Journal in
    let m = c.heed.new.seat.me in
    let same = c.heed.ensures.same ∙ c.cut-seat.ensures.newcomer in
    let alone = ap (λ k. k.0.kept) same in
    let one = subst (λ l. l ≡ first_kept l ∷ later_kept l) (sym alone) refl in
    let exact = subst (λ k. Exact J.maker k.0 k.0.seen)
    (sym c.heed.ensures.same) c.heed.ensures.exact in
    let gate = ap (λ p. p.gate) c.pass.view_is ∙ c.requires.gate in
    ready m one J.maker c.heed.new.seat.table_id c.args.number c.args.self.now.name
    (c.heed.ensures.gate ∙ (c.cut-seat.ensures.new_gate ∙ ap (λ n. n.table) gate))
    (ap (λ k. k.0.opening) same ∙ ap (λ n. n.opening) gate)
    alone (ap (λ k. k.0.heard) same) (ap (λ k. k.0.phase) same) exact
