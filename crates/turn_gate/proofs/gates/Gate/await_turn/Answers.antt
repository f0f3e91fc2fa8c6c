use Rattle.std.proofs.Common.{[], ◌∷◌, None, Some, rules, ap, sym, ◌∙◌}
use lib.ListN.{get_elem?}
use Rattle.turn_gate.proofs.Drawing.{draws}
use Rattle.turn_gate.proofs.Looking.{looks, is_handed}
use Rattle.turn_gate.proofs.gates.Gate.await_turn.Goals as goal

pub fetch_add-ticket-requires : goal.fetch_add-ticket-requires
fetch_add-ticket-requires g c = (
  c.requires.gate ∙ ap (λ v. v.name.table) (sym c.self.view_is),
  search rules,
  draws g.V.Journal.entries g.V.Journal.fixed g.V.Journal.maker _ _ _ _ c.requires.idle.0
      c.requires.keeps.0 c.requires.keeps.1,
)

pub load-requires : goal.load-requires
load-requires g c =
    let i = c.loop.invariant in
    let k = c.requires.keeps in (
      i.0 ∙ (c.requires.gate ∙ ap (λ v. v.name.table) (sym c.self.view_is)),
      search rules,
      looks g.V.Journal.entries g.V.Journal.fixed g.V.Journal.maker _ _
          (c.requires.fixed ∙ ap (λ v. Some v.fixed) (sym c.self.view_is)) _ _ _ i.1.0
          (ap (λ m. m.0.phase) i.1.2) k.0
          (k.1.0, (k.1.1.0, ap (λ m. get_elem? m.0.kept k.1.1.0) i.1.2 ∙ k.1.1.1)),
    )

pub returns-then-load-ticket-clause-handed : goal.returns-then-load-ticket-clause-handed
returns-then-load-ticket-clause-handed g c =
    let i = c.loop.invariant.1 in
    (is_handed g.V.Journal.entries g.V.Journal.fixed g.V.Journal.maker
    c.self.inside.table.shared.key.value g.N.Fixing.fixed
    c.args.seat.now.me.0 i.0 _ _ _ _ i.2 (c.if-load-ticket.true ∙ i.1) c.load.ensures.2
    c.take_out.ensures.value).0

pub returns-then-load-ticket-clause-entered : goal.returns-then-load-ticket-clause-entered
returns-then-load-ticket-clause-entered g c =
    let i = c.loop.invariant.1 in
    let h = (is_handed g.V.Journal.entries g.V.Journal.fixed g.V.Journal.maker
    c.self.inside.table.shared.key.value g.N.Fixing.fixed
    c.args.seat.now.me.0 i.0 _ _ _ _ i.2 (c.if-load-ticket.true ∙ i.1) c.load.ensures.2
    c.take_out.ensures.value).1 in
    (i.0, c.take_out.ensures.taken ∙ ap (λ m. (m.0, (0, None) ∷ [])) h)
