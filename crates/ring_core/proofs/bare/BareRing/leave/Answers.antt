use Rattle.std.proofs.Common.{ap, refl, ◌∙◌, map, set}
use Rattle.ring_core.specs.Words.{Leave}
use Rattle.ring_core.specs.Machine.{admitted, gone_by, successor}
use Rattle.ring_core.specs.Bare.{bare_ring}
use Rattle.ring_core.proofs.Keeping.{kept-call, part}
use Rattle.ring_core.proofs.bare.BareRing.leave.Goals as goal

pub returns : goal.returns
returns c =
    let n = c.args.node in
    let r = bare_ring c.args.self.now in
    let k = c.requires.kept in
    let read = part _ _ _ _ _ n _ k c.requires.member c.index_mut-part.ensures.value in
    let cause = c.args.cause in
    let left = ap (set r.nodes n) (c.leave.ensures ∙ ap (gone_by cause) read) in
    let nodes = c.hand_on-self.ensures.nodes ∙ ap (map admitted) left in
    let next = c.hand_on-self.ensures.next ∙ ap (λ l. successor (map admitted l) n) left in
    record {
      net = refl;
      behind = kept-call _ _ r _ _ _ _ _ (Leave n cause) k
          (c.requires.member, c.requires.due)
          (λ i. record { holder = next i; sent = r.sent; nodes = nodes i })
          refl c.lose_words.ensures;
    }
