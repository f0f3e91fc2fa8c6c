use Rattle.std.proofs.Common.{ap, ◌∙◌, replicate}
use Rattle.ring_core.specs.Words.{Path}
use Rattle.ring_core.proofs.node.Node.new.Goals as goal

pub returns : goal.returns
returns c =
    let paths = c.in_ok-vec.ensures.items_if_clones_equal (λ y e. e)
    ∙ ap (λ (p : Path). replicate 5 p) c.no_path.ensures in
    let accepted = c.new-3.ensures in
    let status = c.at_first.ensures in
    λ i. record {
      status = status i;
      down = 0;
      outbox = c.new.ensures.items i;
      tries = 0;
      inbox = c.new-2.ensures.items i;
      passes = 0;
      done_run = 0;
      paths = paths i;
      accepted = accepted i;
    }
