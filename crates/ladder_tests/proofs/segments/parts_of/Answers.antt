use Rattle.ladder_tests.proofs.segments.parts_of.Goals as goal

pub returns : goal.returns
returns c = record {
  checked = c.requires;
  laid = c.in_ok-solver.ensures.laid;
  stored = c.in_ok-stores.ensures.stored;
  discretes = c.in_ok-stores.ensures.discretes;
  ends = c.in_ok-stores.ensures.ends;
  blocks = c.in_ok-solver.ensures.blocks;
}
