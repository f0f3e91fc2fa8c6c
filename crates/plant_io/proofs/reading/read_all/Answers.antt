use Rattle.std.proofs.Common.{◌++◌, take, arith, length-append, length-take, ℕ}
use Rattle.plant_io.proofs.Transfers.{Gave-then}
use Rattle.plant_io.proofs.reading.read_all.Goals as goal

pub returns-in_err-extend_from_slice-clause-memory_front :
    goal.returns-in_err-extend_from_slice-clause-memory_front
returns-in_err-extend_from_slice-clause-memory_front g c =
    λ _. (
      c.loop-piece.bytes.items ++ take c.in_ok-count.count c.read.new.buf,
      simp length-append (omega (arith, length-take {A = ℕ})),
      Gave-then _ _ _ _ _ c.loop-piece.invariant.gave c.in_ok-count.ensures.gave,
    )
