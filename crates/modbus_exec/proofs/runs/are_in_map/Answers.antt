use Rattle.std.proofs.Common.{sym, arith}
use Rattle.modbus_exec.specs.Runs.{reference_at}
use Rattle.modbus_exec.proofs.RunLemmas.{all_in_map, not_in_map}
use Rattle.modbus_exec.proofs.runs.are_in_map.Goals as goal

pub returns-then-not-is_in_map_behind-clause-all : goal.returns-then-not-is_in_map_behind-clause-all
returns-then-not-is_in_map_behind-clause-all g c =
    let m = g.R.RefStore.contents c.args.ram.now in
    let at = reference_at c.args.kind c.args.address in
    let place = c.loop-place.place in
    sym (not_in_map m at c.args.count place (omega arith) (sym c.if-not-is_in_map_behind.ensures))

pub returns-clause-all : goal.returns-clause-all
returns-clause-all g c =
    sym (all_in_map (g.R.RefStore.contents c.args.ram.now)
    (reference_at c.args.kind c.args.address) c.args.count
    record {
      fits = λ place lt. c.loop-place.invariant.fits place (omega arith);
      held = λ place lt. c.loop-place.invariant.held place (omega arith);
    })
