use Rattle.std.proofs.Common.{sym}
use Rattle.word_exchange.specs.Rows.{feeds}
use Rattle.word_exchange.proofs.RowLemmas.{feeds-from, feeds-to, find-passes}
use Rattle.word_exchange.proofs.sources.source_due.Goals as goal

pub source_by-requires-clause-from : goal.source_by-requires-clause-from
source_by-requires-clause-from c =
    let node = c.args.node in
    let number = c.args.drop in
    let word = c.args.word in
    let found = c.in-Some.wire.now in
    feeds-from node number word found
    (find-passes (feeds node number word) c.args.wires.now found (sym c.in-Some.ensures))

pub source_by-requires-clause-to : goal.source_by-requires-clause-to
source_by-requires-clause-to c =
    let node = c.args.node in
    let number = c.args.drop in
    let word = c.args.word in
    let found = c.in-Some.wire.now in
    feeds-to node number word found
    (find-passes (feeds node number word) c.args.wires.now found (sym c.in-Some.ensures))
