use Rattle.std.proofs.Common.{◌≡◌, map}
use Rattle.plant_loader.specs.Whole.{net_from}
use Rattle.plant_loader.proofs.whole.nets_by_number.Given as goal

-- the networks so far
abbrev pub invariant-loop-net : goal.invariant-loop-net
invariant-loop-net l = l.plans ≡ map (net_from l.rules l.all l.ends) l.yielded
