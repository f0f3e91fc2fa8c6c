use Rattle.std.proofs.Common.{sym}
use Rattle.std.proofs.lemmas.Result.{err_from_is_err_and}
use Rattle.journal_reading.specs.Reading.{read_parts}
use Rattle.journal_reading.specs.ReadLines.{read_calls, read_call}
use Rattle.journal_reading.proofs.PartLoop.{goes_on, stops, last_stops, is_done}
use Rattle.journal_reading.proofs.Cuts.{shorter}
use Rattle.journal_reading.proofs.calls_read.read_calls.Goals as goal

pub returns-in_err-call-in-Some : goal.returns-in_err-call-in-Some
unfolding read_calls
returns-in_err-call-in-Some c =
    let p = err_from_is_err_and c.from_residual.result c.from_residual.ensures.1 in
    rw (p.1, p.2) (stops read_call 32 c.loop-piece.calls c.loop-piece.rest.now
    (read_parts read_call 32 c.args.text.now) c.loop-piece.invariant
    c.in_err-call-in-Some.field-0.0 (c.in-Some.piece.now, c.in-Some.behind.now)
    (sym c.in-Some.ensures) c.in_err-call-in-Some.ensures)

pub loop-piece-smaller : goal.loop-piece-smaller
loop-piece-smaller c = shorter 32 c.loop-piece.rest.now
    (c.in-Some.piece.now, c.in-Some.behind.now) (sym c.in-Some.ensures)

pub loop-piece-preserved : goal.loop-piece-preserved
loop-piece-preserved c =
    rw c.in_ok-push-in-Some.ensures.ok
    (goes_on read_call 32 c.loop-piece.calls c.loop-piece.rest.now
    (read_parts read_call 32 c.args.text.now) c.loop-piece.invariant
    (c.in-Some.piece.now, c.in-Some.behind.now) c.in_ok-call-in-Some.call
    (sym c.in-Some.ensures) c.in_ok-call-in-Some.ensures)

pub returns-in_err-last-in-None : goal.returns-in_err-last-in-None
unfolding read_calls
returns-in_err-last-in-None c =
    let p = err_from_is_err_and c.from_residual-in_err-last-in-None.result
    c.from_residual-in_err-last-in-None.ensures.1 in
    rw (p.1, p.2)
    (last_stops read_call 32 c.loop-piece.calls c.loop-piece.rest.now
    (read_parts read_call 32 c.args.text.now) c.loop-piece.invariant
    c.in_err-last-in-None.field-0.0 (sym c.in-None.ensures) c.in_err-last-in-None.ensures)

pub returns-in-None : goal.returns-in-None
unfolding read_calls
returns-in-None c =
    rw c.in_ok-push-in-None.ensures.ok
    (is_done read_call 32 c.loop-piece.calls c.loop-piece.rest.now
    (read_parts read_call 32 c.args.text.now) c.loop-piece.invariant c.in_ok-last-in-None.last
    (sym c.in-None.ensures) c.in_ok-last-in-None.ensures)
