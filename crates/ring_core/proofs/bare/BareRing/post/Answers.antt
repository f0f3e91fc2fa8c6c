use Rattle.std.proofs.Common.{ap, refl, ◌∙◌}
use Rattle.ring_core.specs.Words.{Post}
use Rattle.ring_core.specs.Machine.{posted, with_node, NodeIs}
use Rattle.ring_core.specs.Scratch.{counts}
use Rattle.ring_core.specs.Kept.{noted_at}
use Rattle.ring_core.specs.Bare.{bare_ring}
use Rattle.station_stats.specs.declared.event.StatEvent.{StatEvent}
use Rattle.ring_core.proofs.Keeping.{counted, kept-call, part}
use Rattle.ring_core.proofs.bare.BareRing.post.Goals as goal

pub count-requires : goal.count-requires
count-requires c = counted _ _ _ _ _ c.args.node c.requires.kept c.requires.member

pub returns-clause-ok : goal.returns-clause-ok
returns-clause-ok c =
    let n = c.args.node in
    let f = c.args.frame in
    let r = bare_ring c.args.self.now in
    let k = c.requires.kept in
    let read = part _ _ _ _ _ n _ k c.requires.member c.index_mut-part.ensures.value in
    record {
      net = refl;
      behind = kept-call _ _ r _ _ _ _ _ (Post n f) k
          ((c.requires.member, c.requires.from), (c.requires.next, c.requires.free))
          (ap (λ (p : NodeIs). with_node r n p)
          (c.in_ok-post.ensures.ok ∙ (λ i. posted (read i) f)))
          (c.count.ensures ∙ ap (λ (event : StatEvent). noted_at c.args.self.now.stats.items
          (counts n event)) c.post_event.ensures) refl;
    }
