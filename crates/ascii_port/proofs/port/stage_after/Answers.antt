use Rattle.std.proofs.Common.{sym, eqb-true, ne_eqb}
use Rattle.ascii_port.proofs.Stages.{at_colon, at_high, at_line_feed, at_low, at_return}
use Rattle.ascii_port.proofs.Stages.{past_full, past_high, past_line_feed, past_pairs, past_return}
use Rattle.ascii_port.proofs.Values.{not_line_feed}
use Rattle.ascii_port.proofs.port.stage_after.Goals as goal

pub returns-then-byte-eq58-clause-stands : goal.returns-then-byte-eq58-clause-stands
returns-then-byte-eq58-clause-stands c =
    λ stream stands. rw (c.clear.ensures, c.if-byte-eq58.true) (at_colon stream)

pub returns-in-Pairs-Some-clause-stands : goal.returns-in-Pairs-Some-clause-stands
returns-in-Pairs-Some-clause-stands c =
    λ stream stands.
    at_high stream c.args.bytes.now c.args.byte c.in-Pairs-Some.digit
    (sym c.in-Pairs-Some.ensures) (rw c.in-Pairs-Some.is-0 at stands)

pub returns-in-Pairs-None-clause-stands : goal.returns-in-Pairs-None-clause-stands
returns-in-Pairs-None-clause-stands c =
    λ stream stands.
    rw c.if-byte-eq13.true
    (at_return stream c.args.bytes.now (rw c.in-Pairs-None.is-0 at stands))

pub returns-in-High-Some-clause-stands : goal.returns-in-High-Some-clause-stands
returns-in-High-Some-clause-stands c =
    λ stream stands.
    let has = rw c.in-High-Some.is-0 at stands in
    rw (c.push.ensures, c.joined.ensures)
    (at_low stream c.args.bytes.now c.args.byte has.0 c.in-High-Some.high.value
    c.in-High-Some.low.value has.1 (sym c.in-High-Some.ensures) has.2)

pub returns-in-Return-None-clause-stands : goal.returns-in-Return-None-clause-stands
returns-in-Return-None-clause-stands c =
    λ stream stands.
    rw c.if-byte-eq10.true
    (at_line_feed stream c.args.bytes.now c.if-is_frame.ensures.fits
    (sym c.if-is_frame.ensures.frame) (rw c.in-Return-None.is-0 at stands))

pub returns-in_default-clause-stands : goal.returns-in_default-clause-stands
returns-in_default-clause-stands c =
    λ stream stands.
    past_pairs stream c.args.bytes.now c.args.byte (ne_eqb c.args.byte 58 c.if-byte-eq58.false)
    (sym c.in-Pairs-None.ensures) c.if-byte-eq13.false (rw c.in-Pairs-None.is-0 at stands)

pub returns-in_default-2-clause-stands : goal.returns-in_default-2-clause-stands
returns-in_default-2-clause-stands c =
    λ stream stands.
    let has = rw c.in-High-Some.is-0 at stands in
    past_full stream c.args.bytes.now c.args.byte has.0 c.in-High-Some.high.value
    c.in-High-Some.low.value has.1 (sym c.in-High-Some.ensures)
    (eqb-true _ 255 (sym c.if-not-is_full.ensures.full)) has.2

pub returns-in_default-3-clause-stands : goal.returns-in_default-3-clause-stands
returns-in_default-3-clause-stands c =
    λ stream stands.
    let has = rw c.in_default.is-0 at stands in
    past_high stream c.args.bytes.now c.args.byte has.0 c.in_default.field-0-0.value
    (ne_eqb c.args.byte 58 c.if-byte-eq58.false) has.1 (sym c.in_default.ensures) has.2

pub returns-in_default-4-clause-stands : goal.returns-in_default-4-clause-stands
returns-in_default-4-clause-stands c =
    λ stream stands.
    rw c.if-byte-eq10.true
    (past_line_feed stream c.args.bytes.now c.if-is_frame.ensures.fits
    (sym c.if-is_frame.ensures.frame) (rw c.in-Return-None.is-0 at stands))

pub returns-in_default-5-clause-stands : goal.returns-in_default-5-clause-stands
returns-in_default-5-clause-stands c =
    λ stream stands.
    past_return stream c.args.bytes.now c.args.byte
    (ne_eqb c.args.byte 58 c.if-byte-eq58.false) c.if-byte-eq10.false
    (rw c.in-Return-None.is-0 at stands)

pub returns-in_default-6-clause-stands : goal.returns-in_default-6-clause-stands
returns-in_default-6-clause-stands c =
    λ stream stands.
    past_return stream c.args.bytes.now c.args.byte
    (ne_eqb c.args.byte 58 c.if-byte-eq58.false)
    (not_line_feed c.args.byte c.in_default.field-0-1.value (sym c.in_default.ensures))
    (rw c.in_default.is-0 at stands)
