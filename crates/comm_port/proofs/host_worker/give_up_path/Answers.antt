use Rattle.comm_port.proofs.HostAsks.{awaited-out, gave-at, gave-none, gave-some, looked, turn-at}
use Rattle.comm_port.proofs.HostGives.{gives-kept, gives-word, gives-zero}
use Rattle.std.proofs.Common.{Some, None}
use Rattle.mstr_block.specs.declared.call.CallId.{CallId}
use Rattle.comm_port.proofs.HostRuns.{legal-at, not-due-at}
use Rattle.comm_port.proofs.Steps.{host-noted, host-ring, ring-asked, ring-then}
use Rattle.comm_port.proofs.host_worker.give_up_path.Goals as goal

pub returns-then-seq-eq0-clause-turning : goal.returns-then-seq-eq0-clause-turning
returns-then-seq-eq0-clause-turning g c =
    let o = c.awaits-seq.ensures in
    (looked g.R.RingSide.alone c.args.node _ _ _ _ o.legal o.went.list c.requires.turning).turning

pub returns-then-seq-eq0-clause-kept : goal.returns-then-seq-eq0-clause-kept
returns-then-seq-eq0-clause-kept g c =
    let o = c.awaits-seq.ensures in
    (looked g.R.RingSide.alone c.args.node _ _ _ _ o.legal o.went.list c.requires.turning).kept

pub returns-then-seq-eq0-clause-less : goal.returns-then-seq-eq0-clause-less
returns-then-seq-eq0-clause-less g c =
    let o = c.awaits-seq.ensures in
    (looked g.R.RingSide.alone c.args.node _ _ _ _ o.legal o.went.list c.requires.turning).less

pub give_up_on-requires-clause-turn : goal.give_up_on-requires-clause-turn
give_up_on-requires-clause-turn g c =
    let o = c.awaits-seq.ensures in
    turn-at c.args.node _ _ _ o.same
    (looked g.R.RingSide.alone c.args.node _ _ _ _ o.legal o.went.list
    c.requires.turning).turning.own_turn

pub returns-in_default-clause-turning : goal.returns-in_default-clause-turning
returns-in_default-clause-turning g c =
    let o = c.awaits-seq.ensures in
    let w = c.in_ok-word.ensures in
    (gave-none g.R.RingSide.alone (record
    { node = c.args.node; path = c.args.path; seq = c.awaits-seq.result }) _ _ _ _ _ _ _
    (looked g.R.RingSide.alone c.args.node _ _ _ _ o.legal o.went.list c.requires.turning) o.same
    w.given c.in_default.is
    w.step.stands.legal).turning

pub returns-in_default-clause-kept : goal.returns-in_default-clause-kept
returns-in_default-clause-kept g c =
    let o = c.awaits-seq.ensures in
    let w = c.in_ok-word.ensures in
    (gave-none g.R.RingSide.alone (record
    { node = c.args.node; path = c.args.path; seq = c.awaits-seq.result }) _ _ _ _ _ _ _
    (looked g.R.RingSide.alone c.args.node _ _ _ _ o.legal o.went.list c.requires.turning) o.same
    w.given c.in_default.is
    w.step.stands.legal).kept

pub returns-in_default-clause-less : goal.returns-in_default-clause-less
returns-in_default-clause-less g c =
    let o = c.awaits-seq.ensures in
    let w = c.in_ok-word.ensures in
    (gave-none g.R.RingSide.alone (record
    { node = c.args.node; path = c.args.path; seq = c.awaits-seq.result }) _ _ _ _ _ _ _
    (looked g.R.RingSide.alone c.args.node _ _ _ _ o.legal o.went.list c.requires.turning) o.same
    w.given c.in_default.is
    w.step.stands.legal).less

pub answer-requires : goal.answer-requires
answer-requires g c =
    let o = c.awaits-seq.ensures in
    awaited-out c.args.node c.args.path c.awaits-seq.result _ _ _
    (looked g.R.RingSide.alone c.args.node _ _ _ _ o.legal o.went.list
    c.requires.turning).turning o.answer c.if-seq-eq0.false

pub returns-clause-turning : goal.returns-clause-turning
returns-clause-turning g c =
    let o = c.awaits-seq.ensures in
    let w = c.in_ok-word.ensures in
    let l = looked g.R.RingSide.alone c.args.node _ _ _ _ o.legal o.went.list c.requires.turning in
    let out = awaited-out c.args.node c.args.path c.awaits-seq.result _ _ _ l.turning o.answer
    c.if-seq-eq0.false in
    (gave-some g.R.RingSide.alone (record
    { node = c.args.node; path = c.args.path; seq = c.awaits-seq.result }) _ c.in-Some.word
    _ _ _ _ _ _ _ l o.same w.given c.in-Some.is w.step.stands.legal out
    c.in_ok-answer.ensures.went_on).turning

pub returns-clause-kept : goal.returns-clause-kept
returns-clause-kept g c =
    let o = c.awaits-seq.ensures in
    let w = c.in_ok-word.ensures in
    let l = looked g.R.RingSide.alone c.args.node _ _ _ _ o.legal o.went.list c.requires.turning in
    let out = awaited-out c.args.node c.args.path c.awaits-seq.result _ _ _ l.turning o.answer
    c.if-seq-eq0.false in
    (gave-some g.R.RingSide.alone (record
    { node = c.args.node; path = c.args.path; seq = c.awaits-seq.result }) _ c.in-Some.word
    _ _ _ _ _ _ _ l o.same w.given c.in-Some.is w.step.stands.legal out
    c.in_ok-answer.ensures.went_on).kept

pub returns-clause-less : goal.returns-clause-less
returns-clause-less g c =
    let o = c.awaits-seq.ensures in
    let w = c.in_ok-word.ensures in
    let l = looked g.R.RingSide.alone c.args.node _ _ _ _ o.legal o.went.list c.requires.turning in
    let out = awaited-out c.args.node c.args.path c.awaits-seq.result _ _ _ l.turning o.answer
    c.if-seq-eq0.false in
    (gave-some g.R.RingSide.alone (record
    { node = c.args.node; path = c.args.path; seq = c.awaits-seq.result }) _ c.in-Some.word
    _ _ _ _ _ _ _ l o.same w.given c.in-Some.is w.step.stands.legal out
    c.in_ok-answer.ensures.went_on).less

pub returns-then-seq-eq0-clause-left : goal.returns-then-seq-eq0-clause-left
returns-then-seq-eq0-clause-left g c =
    let o = c.awaits-seq.ensures in
    (looked g.R.RingSide.alone c.args.node _ _ _ _ o.legal o.went.list c.requires.turning).left

pub returns-in_default-clause-left : goal.returns-in_default-clause-left
returns-in_default-clause-left g c =
    let o = c.awaits-seq.ensures in
    let w = c.in_ok-word.ensures in
    (gave-none g.R.RingSide.alone (record
    { node = c.args.node; path = c.args.path; seq = c.awaits-seq.result }) _ _ _ _ _ _ _
    (looked g.R.RingSide.alone c.args.node _ _ _ _ o.legal o.went.list c.requires.turning) o.same
    w.given c.in_default.is
    w.step.stands.legal).left

pub returns-clause-left : goal.returns-clause-left
returns-clause-left g c =
    let o = c.awaits-seq.ensures in
    let w = c.in_ok-word.ensures in
    let l = looked g.R.RingSide.alone c.args.node _ _ _ _ o.legal o.went.list c.requires.turning in
    let out = awaited-out c.args.node c.args.path c.awaits-seq.result _ _ _ l.turning o.answer
    c.if-seq-eq0.false in
    (gave-some g.R.RingSide.alone (record
    { node = c.args.node; path = c.args.path; seq = c.awaits-seq.result }) _ c.in-Some.word
    _ _ _ _ _ _ _ l o.same w.given c.in-Some.is w.step.stands.legal out
    c.in_ok-answer.ensures.went_on).left

pub returns-then-seq-eq0-clause-gives_up : goal.returns-then-seq-eq0-clause-gives_up
returns-then-seq-eq0-clause-gives_up g c =
    let o = c.awaits-seq.ensures in
    gives-zero g.R.RingSide.alone c.args.node c.args.path c.awaits-seq.result _ _ _ _ _
    c.requires.turning o.legal o.went.list o.answer c.if-seq-eq0.true

pub returns-in_default-clause-gives_up : goal.returns-in_default-clause-gives_up
returns-in_default-clause-gives_up g c =
    let o = c.awaits-seq.ensures in
    let w = c.in_ok-word.ensures in
    let id : CallId = record { node = c.args.node; path = c.args.path; seq = c.awaits-seq.result }
    in
    gives-kept g.R.RingSide.alone c.args.node c.args.path c.awaits-seq.result _
    (g.R.RingSide.side c.args.ring.now) _ _ _ _ c.requires.turning o.legal o.went.list
    o.answer (gave-at g.R.RingSide.alone id _ _ _ _ _ None o.same c.in_default.is w.given)
    (legal-at (g.R.RingSide.side c.args.ring.now) (g.R.RingSide.side c.awaits-seq.new.self) _ o.same
    w.step.stands.legal)
    (not-due-at (g.R.RingSide.side c.args.ring.now) (g.R.RingSide.side c.awaits-seq.new.self)
    (g.R.RingSide.known c.give_up_on.new.ring) id o.same (w.not_due c.in_default.is))

pub returns-clause-gives_up : goal.returns-clause-gives_up
returns-clause-gives_up g c =
    let o = c.awaits-seq.ensures in
    let w = c.in_ok-word.ensures in
    let id : CallId = record { node = c.args.node; path = c.args.path; seq = c.awaits-seq.result }
    in
    gives-word g.R.RingSide.alone c.args.node c.args.path c.awaits-seq.result c.in-Some.word _
    (g.R.RingSide.side c.args.ring.now) _ _ _ _ _
    c.requires.turning o.legal o.went.list o.answer
    (gave-at g.R.RingSide.alone id _ _ _ _ _ (Some c.in-Some.word) o.same c.in-Some.is w.given)
    (legal-at (g.R.RingSide.side c.args.ring.now) (g.R.RingSide.side c.awaits-seq.new.self) _ o.same
    w.step.stands.legal)
    c.in_ok-answer.ensures.went_on.history

pub returns-then-seq-eq0-clause-step : goal.returns-then-seq-eq0-clause-step
returns-then-seq-eq0-clause-step g c =
    let o = c.awaits-seq.ensures in
    let there = ring-asked g.R.RingSide c.args.node o.same o.legal o.went in
    host-ring g.R.RingSide c.args.node c.args.host.now c.requires.turning.legal there

pub returns-in_err-word-clause-step : goal.returns-in_err-word-clause-step
returns-in_err-word-clause-step g c =
    let o = c.awaits-seq.ensures in
    let there = ring-asked g.R.RingSide c.args.node o.same o.legal o.went in
    host-ring g.R.RingSide c.args.node c.args.host.now c.requires.turning.legal
    (ring-then g.R.RingSide c.args.node there c.in_err-word.ensures.step)

pub returns-in_default-clause-step : goal.returns-in_default-clause-step
returns-in_default-clause-step g c =
    let o = c.awaits-seq.ensures in
    let there = ring-asked g.R.RingSide c.args.node o.same o.legal o.went in
    host-ring g.R.RingSide c.args.node c.args.host.now c.requires.turning.legal
    (ring-then g.R.RingSide c.args.node there c.in_ok-word.ensures.step)

pub returns-in_err-answer-clause-step : goal.returns-in_err-answer-clause-step
returns-in_err-answer-clause-step g c =
    let o = c.awaits-seq.ensures in
    let there = ring-asked g.R.RingSide c.args.node o.same o.legal o.went in
    host-noted g.R.RingSide c.args.node c.in_err-answer.ensures.went_on
    (ring-then g.R.RingSide c.args.node there c.in_ok-word.ensures.step)

pub returns-clause-step : goal.returns-clause-step
returns-clause-step g c =
    let o = c.awaits-seq.ensures in
    let there = ring-asked g.R.RingSide c.args.node o.same o.legal o.went in
    host-noted g.R.RingSide c.args.node c.in_ok-answer.ensures.went_on
    (ring-then g.R.RingSide c.args.node there c.in_ok-word.ensures.step)
