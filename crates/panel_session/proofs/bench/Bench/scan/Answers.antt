use Rattle.std.proofs.Common.{◌≡◌, ◌+◌, length, sym, ap, ◌∙◌, subst}
use Rattle.controller_core.specs.Controller.{ControllerIs, IsLegal}
use Rattle.panel_session.specs.Bench.{IsOnBench, lines_of}
use Rattle.panel_session.specs.Scanning.{HasBegunScan, after_scan}
use Rattle.panel_session.proofs.GivingUp.{on_err}
use Rattle.panel_session.proofs.ScanMade.{bench-begun, bench-ended, is-scanned, line-more}
use Rattle.panel_session.proofs.ScanMade.{scan-begun, scan-ended, scan-not_begun}
use Rattle.panel_session.proofs.bench.Bench.scan.Goals as goal

pub invariant_of-self : goal.invariant_of-self
invariant_of-self c =
    subst (λ (v : ControllerIs). IsOnBench c.self.inside.shown v c.self.inside.served)
    (sym c.in_err-scan.ensures.err) c.self.invariant

pub returns-in_err-scan-clause-err : goal.returns-in_err-scan-clause-err
returns-in_err-scan-clause-err c =
    let same = c.in_err-scan.ensures.err in
    let legal = subst (λ (v : ControllerIs). IsLegal v.fixed v.history) (sym same)
    c.history.ensures.legal in
    on_err c.from_residual.result _
    (subst (λ (first : ControllerIs). HasBegunScan first c.scan.new.controller) c.self.view_is
    (scan-not_begun c.self.inside.controller c.scan.new.controller same legal))

pub invariant_of-self-in_err-give_up_calls : goal.invariant_of-self-in_err-give_up_calls
invariant_of-self-in_err-give_up_calls c =
    let goes = sym c.has_ended.ensures ∙ c.if-has_ended.false in
    let scanned =
    is-scanned c.self.inside.controller c.scan.new.controller goes c.in_ok-scan.ensures.made
    (c.in_ok-scan.ensures.rests goes) c.in_ok-scan.ensures.between in
    bench-begun c.self.inside.shown c.self.inside.controller c.scan.new.controller
    c.give_up_calls.new.controller c.self.inside.served c.self.invariant scanned
    c.scans_stay_whole.ensures.stays c.in_err-give_up_calls.ensures.err

pub returns-in_err-give_up_calls-clause-err : goal.returns-in_err-give_up_calls-clause-err
returns-in_err-give_up_calls-clause-err c =
    let goes = sym c.has_ended.ensures ∙ c.if-has_ended.false in
    let scanned =
    is-scanned c.self.inside.controller c.scan.new.controller goes c.in_ok-scan.ensures.made
    (c.in_ok-scan.ensures.rests goes) c.in_ok-scan.ensures.between in
    on_err c.from_residual-in_err-give_up_calls.result _
    (subst (λ (first : ControllerIs). HasBegunScan first c.give_up_calls.new.controller)
    c.self.view_is
    (scan-begun c.self.inside.shown c.self.inside.controller c.scan.new.controller
    c.give_up_calls.new.controller c.self.inside.served c.self.invariant scanned
    c.in_err-give_up_calls.ensures.err))

pub invariant_of-self-2 : goal.invariant_of-self-2
invariant_of-self-2 c =
    let goes = sym c.has_ended.ensures ∙ c.if-has_ended.false in
    let scanned =
    is-scanned c.self.inside.controller c.scan.new.controller goes c.in_ok-scan.ensures.made
    (c.in_ok-scan.ensures.rests goes) c.in_ok-scan.ensures.between in
    bench-ended c.self.inside.shown c.self.inside.controller c.scan.new.controller
    c.give_up_calls.new.controller c.self.inside.served c.self.invariant scanned
    c.scans_stay_whole.ensures.stays c.in_ok-give_up_calls.ensures.ok

pub returns-clause-ok : goal.returns-clause-ok
returns-clause-ok c =
    let goes = sym c.has_ended.ensures ∙ c.if-has_ended.false in
    let scanned =
    is-scanned c.self.inside.controller c.scan.new.controller goes c.in_ok-scan.ensures.made
    (c.in_ok-scan.ensures.rests goes) c.in_ok-scan.ensures.between in
    subst (λ (first : ControllerIs). c.give_up_calls.new.controller ≡ after_scan first)
    c.self.view_is
    (scan-ended c.self.inside.shown c.self.inside.controller c.scan.new.controller
    c.give_up_calls.new.controller c.self.inside.served c.self.invariant scanned
    c.in_ok-give_up_calls.ensures.ok)

pub returns-clause-line : goal.returns-clause-line
returns-clause-line c = λ done.
    let goes = sym c.has_ended.ensures ∙ c.if-has_ended.false in
    let scanned =
    is-scanned c.self.inside.controller c.scan.new.controller goes c.in_ok-scan.ensures.made
    (c.in_ok-scan.ensures.rests goes) c.in_ok-scan.ensures.between in
    subst (λ (first : ControllerIs). length (lines_of c.give_up_calls.new.controller)
    ≡ length (lines_of first) + 1) c.self.view_is
    (ap (λ (v : ControllerIs). length (lines_of v))
    (scan-ended c.self.inside.shown c.self.inside.controller c.scan.new.controller
    c.give_up_calls.new.controller c.self.inside.served c.self.invariant scanned
    c.in_ok-give_up_calls.ensures.ok)
    ∙ line-more c.self.inside.controller goes)
