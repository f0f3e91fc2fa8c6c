use Rattle.std.proofs.Common.{sym, arith}
use Rattle.std.proofs.lemmas.Result.{err_from_is_err_and}
use Rattle.journal_reading.proofs.Cuts.{shorter}
use Rattle.journal_text.proofs.ReadLoop.{goes_on, stopped, at_end}
use Rattle.journal_text.proofs.reading.read_journal.Goals as goal

pub returns-in_err-draft-in-Some-clause-all : goal.returns-in_err-draft-in-Some-clause-all
returns-in_err-draft-in-Some-clause-all c =
    let p = err_from_is_err_and c.from_residual.result c.from_residual.ensures.1 in
    rw (p.1, p.2) (stopped c.args.bytes.now c.loop-line.draft c.loop-line.rest.now
    c.loop-line.number (c.in-Some.line.now, c.in-Some.behind.now)
    c.in_err-draft-in-Some.field-0.0 c.loop-line.invariant.so_far
    (sym c.in-Some.ensures) c.in_err-draft-in-Some.ensures).all

pub returns-in_err-draft-in-Some-clause-fault : goal.returns-in_err-draft-in-Some-clause-fault
returns-in_err-draft-in-Some-clause-fault c =
    let p = err_from_is_err_and c.from_residual.result c.from_residual.ensures.1 in
    rw (p.1, p.2) (stopped c.args.bytes.now c.loop-line.draft c.loop-line.rest.now
    c.loop-line.number (c.in-Some.line.now, c.in-Some.behind.now)
    c.in_err-draft-in-Some.field-0.0 c.loop-line.invariant.so_far
    (sym c.in-Some.ensures) c.in_err-draft-in-Some.ensures).fault

pub loop-line-smaller : goal.loop-line-smaller
loop-line-smaller c = shorter 10 c.loop-line.rest.now (c.in-Some.line.now, c.in-Some.behind.now)
    (sym c.in-Some.ensures)

pub loop-line-preserved : goal.loop-line-preserved
loop-line-preserved c =
    let less = shorter 10 c.loop-line.rest.now (c.in-Some.line.now, c.in-Some.behind.now)
    (sym c.in-Some.ensures) in
    let room = c.loop-line.invariant.room in
    record {
      so_far = goes_on c.args.bytes.now c.loop-line.draft c.loop-line.rest.now c.loop-line.number
          (c.in-Some.line.now, c.in-Some.behind.now)
          c.in_ok-draft-in-Some.draft c.loop-line.invariant.so_far
          (sym c.in-Some.ensures) c.in_ok-draft-in-Some.ensures;
      room = omega arith;
    }

pub returns-in-None-clause-told : goal.returns-in-None-clause-told
returns-in-None-clause-told c =
    (at_end c.args.bytes.now c.loop-line.draft c.loop-line.rest.now c.loop-line.number
    c.loop-line.invariant.so_far (sym c.in-None.ensures)
    c.ending.result c.ending.ensures).told

pub returns-in-None-clause-all : goal.returns-in-None-clause-all
returns-in-None-clause-all c =
    (at_end c.args.bytes.now c.loop-line.draft c.loop-line.rest.now c.loop-line.number
    c.loop-line.invariant.so_far (sym c.in-None.ensures)
    c.ending.result c.ending.ensures).all

pub returns-in-None-clause-fault : goal.returns-in-None-clause-fault
returns-in-None-clause-fault c =
    (at_end c.args.bytes.now c.loop-line.draft c.loop-line.rest.now c.loop-line.number
    c.loop-line.invariant.so_far (sym c.in-None.ensures)
    c.ending.result c.ending.ensures).fault
