use Rattle.controller_tables.proofs.pieces.with_line.Goals as goal
use Rattle.std.proofs.Common.{length, sym, ◌∙◌, lit<}
use Rattle.std.specs.Prelude.{◌==◌}
use Rattle.std.specs.List.{slice_split}
use Rattle.std.proofs.lemmas.List.{length_push}
use Rattle.std.proofs.lemmas.Result.{err_from_is_err_and}
use Rattle.std.proofs.lemmas.Iterator.Splits.{YieldsList-from_str_split}
use Rattle.std.proofs.lemmas.Iterator.Consumers.{YieldsList-turn, YieldsList-end}
use Rattle.controller_tables.proofs.PieceSteps.{stops_along, piece-read, piece-none, piece-stops}
use Rattle.controller_tables.proofs.PieceSteps.{pieces-end}

pub returns-in_err-program : goal.returns-in_err-program
returns-in_err-program c =
    let t = YieldsList-turn (YieldsList-from_str_split 59 c.args.line.now (lit< tt) (cc) (cc)
    (cc)) c.loop-piece.yielded _ c.loop-piece.yielded_by _ _ c.in-Some.piece c.in-Some.is
    c.next.ensures.steps in
    let p = err_from_is_err_and c.from_residual.result c.from_residual.ensures.1 in
    rw (p.1, p.2) (stops_along c.in_err-program.field-0.0 _ _ c.loop-piece.invariant
    (piece-stops c.args.owner c.loop-piece.program
    (slice_split (λ byte. byte == 59) c.args.line.now)
    (length c.loop-piece.yielded) c.in-Some.piece.now c.in_err-program.field-0.0 t.0 t.1
    (sym c.if-has_word.ensures) c.in_err-program.ensures))

pub loop-piece-preserved-then-has_word : goal.loop-piece-preserved-then-has_word
loop-piece-preserved-then-has_word c =
    let t = YieldsList-turn (YieldsList-from_str_split 59 c.args.line.now (lit< tt) (cc) (cc)
    (cc)) c.loop-piece.yielded _ c.loop-piece.yielded_by _ _ c.in-Some.piece c.in-Some.is
    c.next.ensures.steps in
    rw (length_push c.loop-piece.yielded c.in-Some.piece)
    (piece-read c.args.owner c.loop-piece.program c.in_ok-program.program
    (slice_split (λ byte. byte == 59) c.args.line.now) (length c.loop-piece.yielded)
    c.in-Some.piece.now t.0 t.1
    (sym c.if-has_word.ensures) c.in_ok-program.ensures ∙ c.loop-piece.invariant)

pub loop-piece-preserved : goal.loop-piece-preserved
loop-piece-preserved c =
    let t = YieldsList-turn (YieldsList-from_str_split 59 c.args.line.now (lit< tt) (cc) (cc)
    (cc)) c.loop-piece.yielded _ c.loop-piece.yielded_by _ _ c.in-Some.piece c.in-Some.is
    c.next.ensures.steps in
    rw (length_push c.loop-piece.yielded c.in-Some.piece)
    (piece-none c.args.owner c.loop-piece.program
    (slice_split (λ byte. byte == 59) c.args.line.now) (length c.loop-piece.yielded)
    c.in-Some.piece.now t.0 t.1
    (sym c.if-has_word.ensures) ∙ c.loop-piece.invariant)

pub returns : goal.returns
returns c =
    let t = YieldsList-end (YieldsList-from_str_split 59 c.args.line.now (lit< tt) (cc) (cc)
    (cc)) c.loop-piece.yielded _ c.loop-piece.yielded_by _ _ c.in-None.is c.next.ensures.steps in
    sym c.loop-piece.invariant ∙ pieces-end c.args.owner c.loop-piece.program
    (slice_split (λ byte. byte == 59) c.args.line.now)
    (length c.loop-piece.yielded) t.1
