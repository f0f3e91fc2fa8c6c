use Rattle.std.proofs.Common.{ℕ, nat_le, ◌∙◌, ap, sym}
use Rattle.std.proofs.lemmas.Bool.{le-leb}
use Rattle.comm_port.proofs.Asked.{all-answered, one-uncollected, side-failures, side-started}
use Rattle.comm_port.proofs.Steps.{ram-asked, ram-then}
use Rattle.comm_port.proofs.ending.is_done.Goals as goal

pub returns-then-noticed-failures-clause-step : goal.returns-then-noticed-failures-clause-step
returns-then-noticed-failures-clause-step g c =
    let ended = c.if-not-has_ended.ensures in
    let fails = c.failures.ensures in
    ram-then g.M.RamSide (ram-asked g.M.RamSide ended.same ended.legal ended.went)
    (ram-asked g.M.RamSide fails.same fails.legal fails.went)

pub returns-then-has_started-clause-asked : goal.returns-then-has_started-clause-asked
returns-then-has_started-clause-asked g c =
    let ended = c.if-not-has_ended.ensures in
    let fails = c.failures.ensures in
    let started = c.if-has_started.ensures in
    one-uncollected g.M.RamSide.alone _ c.args.noticed _ _ _ _ _ ended.went.list
    (sym ended.answer) fails.went.list
    (ap (λ (k : ℕ). nat_le k c.args.noticed) (side-failures _ _
    (g.M.RamSide.known c.failures.new.self) ended.same ∙ sym fails.answer)
    ∙ le-leb c.failures.result c.args.noticed c.if-noticed-failures.false) started.went.list
    (side-started _ _ (g.M.RamSide.known c.has_started.new.self) (fails.same ∙ ended.same)
    ∙ sym started.answer)

pub returns-clause-asked : goal.returns-clause-asked
returns-clause-asked g c =
    let ended = c.if-not-has_ended.ensures in
    let fails = c.failures.ensures in
    let started = c.if-has_started.ensures in
    all-answered g.M.RamSide.alone _ c.args.noticed _ _ _ _ _ _ ended.went.list
    (sym ended.answer) fails.went.list
    (ap (λ (k : ℕ). nat_le k c.args.noticed) (side-failures _ _
    (g.M.RamSide.known c.failures.new.self) ended.same ∙ sym fails.answer)
    ∙ le-leb c.failures.result c.args.noticed c.if-noticed-failures.false) started.went.list
    (side-started _ _ (g.M.RamSide.known c.has_started.new.self) (fails.same ∙ ended.same)
    ∙ sym started.answer)
    c.is_idle.ensures.only c.is_idle.ensures.all

pub returns-then-has_started-clause-step : goal.returns-then-has_started-clause-step
returns-then-has_started-clause-step g c =
    let ended = c.if-not-has_ended.ensures in
    let fails = c.failures.ensures in
    let started = c.if-has_started.ensures in
    ram-then g.M.RamSide (ram-then g.M.RamSide
    (ram-asked g.M.RamSide ended.same ended.legal ended.went)
    (ram-asked g.M.RamSide fails.same fails.legal fails.went))
    (ram-asked g.M.RamSide started.same started.legal started.went)

pub returns-clause-step : goal.returns-clause-step
returns-clause-step g c =
    let ended = c.if-not-has_ended.ensures in
    let fails = c.failures.ensures in
    let started = c.if-has_started.ensures in
    ram-then g.M.RamSide (ram-then g.M.RamSide
    (ram-asked g.M.RamSide ended.same ended.legal ended.went)
    (ram-asked g.M.RamSide fails.same fails.legal fails.went))
    (ram-asked g.M.RamSide started.same started.legal started.went)
