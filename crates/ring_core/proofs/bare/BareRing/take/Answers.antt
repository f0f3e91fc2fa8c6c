use Rattle.std.proofs.Common.{ap, refl, ◌∙◌, subst}
use Rattle.ring_core.specs.Words.{Take}
use Rattle.ring_core.specs.Machine.{took, with_node, ring_node, NodeIs, RingIs}
use Rattle.ring_core.specs.Legal.{IsFirst}
use Rattle.ring_core.specs.Scratch.{counts}
use Rattle.ring_core.specs.Kept.{noted_at}
use Rattle.ring_core.specs.Bare.{bare_ring}
use Rattle.station_stats.specs.declared.event.StatEvent.{StatEvent}
use Rattle.ring_core.proofs.Keeping.{counted, kept-call, part}
use Rattle.ring_core.proofs.bare.BareRing.take.Goals as goal

pub count-requires : goal.count-requires
count-requires c = counted _ _ _ _ _ c.args.node c.requires.kept c.requires.member

pub returns-clause-some : goal.returns-clause-some
returns-clause-some c =
    let n = c.args.node in
    let f = c.in_ok-frame.frame in
    let r = bare_ring c.args.self.now in
    let k = c.requires.kept in
    let read = part _ _ _ _ _ n _ k c.requires.member c.index_mut-part.ensures.value in
    let first = subst (λ (p : NodeIs). IsFirst p.inbox f)
    (read ∙ ap (λ (s : RingIs). ring_node s n) k.state) c.in_ok-frame.ensures.some.0 in (
      first,
      record {
        net = refl;
        behind = kept-call _ _ r _ _ _ _ _ (Take n f) k
            (c.requires.member, (c.requires.turn, first))
            (ap (λ (p : NodeIs). with_node r n p)
            (c.in_ok-frame.ensures.some.1 ∙ ap (λ (p : NodeIs). took p f.kind f.id) read))
            (c.count.ensures ∙ ap (λ (event : StatEvent). noted_at c.args.self.now.stats.items
            (counts n event)) c.take_event.ensures) refl;
      },
    )
