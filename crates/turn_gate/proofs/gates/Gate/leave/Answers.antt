use Rattle.std.proofs.Common.{◌≡◌, ◌∷◌, ap, sym, subst, drop, length}
use Rattle.turn_gate.specs.Known.{Owns}
use Rattle.turn_gate.specs.Seats.{first_kept, later_kept, pass_facts}
use Rattle.turn_gate.proofs.Between.{may_leave, owns, keeps_one_after}
use Rattle.turn_gate.proofs.gates.Gate.leave.Goals as goal

pub put_back-requires-clause-may : goal.put_back-requires-clause-may
put_back-requires-clause-may g c =
    let J = g.V.Journal in
    may_leave c.pass.inside.seat.me c.pass.invariant.keeps_one J.entries J.maker _ _
    c.args.held.value c.held.inside.value c.pass.view_is
    (ap (λ h. h.value) c.held.view_is) c.requires.added

pub returns-clause-own : goal.returns-clause-own
returns-clause-own g c =
    let J = g.V.Journal in
    let m = c.put_back.new.seat.me in
    let x = c.held.inside.value in
    let kept = ap (λ n. n.0.kept) c.put_back.ensures.left in
    let one = subst (λ l. l ≡ first_kept l ∷ later_kept l) (sym kept)
    (keeps_one_after c.pass.inside.seat.me c.pass.invariant.keeps_one
    (drop (length c.pass.inside.seat.me.0.seen) (J.entries x))) in
    subst (λ y. Owns J.maker (pass_facts c.put_back.new.seat.table_id m) (J.entries y))
    (ap (λ h. h.value) c.held.view_is)
    (owns m one J.maker c.put_back.new.seat.table_id (J.entries x) c.put_back.ensures.exact)
