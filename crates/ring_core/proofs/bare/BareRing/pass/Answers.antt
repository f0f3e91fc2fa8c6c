use Rattle.std.proofs.Common.{ap, refl, ◌∙◌, map, set}
use Rattle.ring_core.specs.Words.{Pass}
use Rattle.ring_core.specs.Machine.{admitted, after_pass, successor, NodeIs}
use Rattle.ring_core.specs.Bare.{bare_ring}
use Rattle.ring_core.proofs.Keeping.{counted, kept-call, part}
use Rattle.ring_core.proofs.bare.BareRing.pass.Goals as goal

pub count-requires : goal.count-requires
count-requires c = counted _ _ _ _ _ c.args.node c.requires.kept c.requires.member

pub returns : goal.returns
returns c =
    let n = c.args.node in
    let d = c.args.done in
    let r = bare_ring c.args.self.now in
    let k = c.requires.kept in
    let read = part _ _ _ _ _ n _ k c.requires.member c.index_mut-part.ensures.value in
    let passed = ap (set r.nodes n)
    (c.pass.ensures ∙ ap (λ (p : NodeIs). after_pass p d) read) in
    let nodes = c.hand_on-self.ensures.nodes ∙ ap (map admitted) passed in
    let next = c.hand_on-self.ensures.next ∙ ap (λ l. successor (map admitted l) n) passed in
    record {
      net = refl;
      behind = kept-call _ _ r _ _ _ _ _ (Pass n d c.args.words.now) k
          (c.requires.member, (c.requires.free, c.requires.waiting))
          (λ i. record { holder = next i; sent = r.sent; nodes = nodes i })
          c.count.ensures c.heard.ensures;
    }
