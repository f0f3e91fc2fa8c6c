use Rattle.std.proofs.Common.{◌≡◌, length}
use Rattle.ladder_tests.proofs.segments.end_calls.Given as goal

abbrev pub invariant-loop-path : goal.invariant-loop-path
invariant-loop-path g l = length l.bank.blocks ≡ length l.fn.bank.blocks
