use Rattle.std.proofs.Common.{◌≡◌, ◌++◌, length, map}
use Rattle.std.specs.Prelude.{vec_len, vec_capacity}
use Rattle.std.specs.Vec.Iter.{into_iter_items, into_iter_len}
use Rattle.live_run.specs.Runs.{log_part, notes_part}
use Rattle.live_run.proofs.lists.apart.Given as goal

abbrev pub invariant-loop-one : goal.invariant-loop-one
invariant-loop-one l = record {
  along : l.yielded ++ into_iter_items l.one-iterator ≡ l.fn.noted.items;
  left : into_iter_len l.one-iterator ≡ length (into_iter_items l.one-iterator);
  room : (vec_capacity l.logs ≡ length l.fn.noted.items)
      × (vec_capacity l.notes ≡ length l.fn.noted.items);
  filled : (vec_len l.logs ≡ length l.yielded) × (vec_len l.notes ≡ length l.yielded);
  logs_are : l.logs.items ≡ map log_part l.yielded;
  notes_are : l.notes.items ≡ map notes_part l.yielded;
}
