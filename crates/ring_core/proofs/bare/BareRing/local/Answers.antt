use Rattle.std.proofs.Common.{refl}
use Rattle.ring_core.specs.Words.{Local}
use Rattle.ring_core.specs.Bare.{bare_ring}
use Rattle.ring_core.proofs.Keeping.{counted, kept-call}
use Rattle.ring_core.proofs.bare.BareRing.local.Goals as goal

pub count_local-requires : goal.count_local-requires
count_local-requires c = counted _ _ _ _ _ c.args.node c.requires.kept c.requires.member

pub returns : goal.returns
returns c =
    let r = bare_ring c.args.self.now in
    let e = Local c.args.node c.args.id c.args.op.now c.args.outcome.now in
    record {
      net = refl;
      behind = kept-call _ _ r r _ _ _ _ e c.requires.kept
          ((c.requires.member, c.requires.room), (c.requires.free, c.requires.comes))
          refl c.count_local.ensures c.put_global.ensures;
    }
