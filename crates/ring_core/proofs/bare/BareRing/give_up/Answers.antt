use Rattle.std.proofs.Common.{ap, refl, ◌∙◌}
use Rattle.ring_core.specs.Words.{GiveUp}
use Rattle.ring_core.specs.Machine.{gave_up, with_node, NodeIs}
use Rattle.ring_core.specs.Bare.{bare_ring}
use Rattle.ring_core.proofs.Keeping.{counted, kept-call, part}
use Rattle.ring_core.proofs.bare.BareRing.give_up.Goals as goal

pub count-requires : goal.count-requires
count-requires c = counted _ _ _ _ _ c.args.id.node c.requires.kept c.requires.member

pub returns : goal.returns
returns c =
    let n = c.args.id.node in
    let r = bare_ring c.args.self.now in
    let k = c.requires.kept in
    let read = part _ _ _ _ _ n _ k c.requires.member c.index_mut-part.ensures.value in
    record {
      net = refl;
      behind = kept-call _ _ r _ _ _ _ _ (GiveUp c.args.id c.args.word) k
          ((c.requires.member, c.requires.path), (c.requires.due, c.requires.word))
          (ap (λ (p : NodeIs). with_node r n p)
          (c.give_up.ensures ∙ ap (λ (p : NodeIs). gave_up p c.args.id) read))
          c.count.ensures refl;
    }
