use Rattle.std.proofs.Common.{[], ◌∷◌, Some, None, refl, ◌∙◌}
use Rattle.mstr_block.specs.declared.call.CallId.{CallId}
use Rattle.bridge_relay.specs.declared.entry.BridgeEntry.TheVariants.{Finish}
use Rattle.bridge_relay.specs.declared.entry.RelayResult.TheVariants.{Bad}
use Rattle.comm_port.proofs.HostAsks.{gave-at, turn-at}
use Rattle.comm_port.proofs.HostRuns.{legal-at}
use Rattle.comm_port.proofs.Steps.{ring-asked, ring-then}
use Rattle.bridge_port.proofs.EndSteps.{bridge-called, end-ring}
use Rattle.bridge_port.proofs.EndTurns.{turning-sides}
use Rattle.bridge_port.proofs.GivesUp.{gives-kept, gives-word, gives-zero, looked, waits-on}
use Rattle.bridge_port.proofs.Lists.{mine-one}
use Rattle.bridge_port.proofs.giving.give_up_path.Goals as goal

pub returns-then-seq-eq0-clause-turning : goal.returns-then-seq-eq0-clause-turning
returns-then-seq-eq0-clause-turning g c =
    let a = c.awaits-seq.ensures in
    let bs = g.B.BridgeSide in
    let rs = g.R.RingSide in
    let k = gives-zero bs.alone rs.alone c.args.side c.args.path c.awaits-seq.result
    (bs.bridge c.args.bridge.now) (bs.known c.args.bridge.now) (rs.side c.args.ring.now)
    (rs.known c.args.ring.now) (rs.known c.awaits-seq.new.self) c.requires.turning a.legal
    a.went.list a.answer c.if-seq-eq0.true in
    turning-sides c.args.side _ _ _ _ _ _ refl a.same k.turning

pub returns-in_default-clause-turning : goal.returns-in_default-clause-turning
returns-in_default-clause-turning g c =
    let a = c.awaits-seq.ensures in
    let bs = g.B.BridgeSide in
    let rs = g.R.RingSide in
    let w = c.in_ok-word.ensures in
    let id : CallId =
    record { node = c.args.side; path = c.args.path; seq = c.awaits-seq.result } in
    let k = gives-kept bs.alone rs.alone c.args.side c.args.path c.awaits-seq.result
    (bs.bridge c.args.bridge.now) (bs.known c.args.bridge.now) (rs.side c.args.ring.now)
    (rs.known c.args.ring.now) (rs.known c.awaits-seq.new.self) (rs.known c.give_up_on.new.ring)
    c.requires.path c.requires.turning a.legal a.went.list a.answer c.if-seq-eq0.false
    (gave-at rs.alone id _ _ _ _ _ None a.same c.in_default.is w.given)
    (legal-at (rs.side c.args.ring.now) (rs.side c.awaits-seq.new.self) _ a.same
    w.step.stands.legal) in
    turning-sides c.args.side _ _ _ _ _ _ refl (w.step.same ∙ a.same) k.turning

pub returns-clause-turning : goal.returns-clause-turning
returns-clause-turning g c =
    let a = c.awaits-seq.ensures in
    let bs = g.B.BridgeSide in
    let rs = g.R.RingSide in
    let w = c.in_ok-word.ensures in
    let id : CallId =
    record { node = c.args.side; path = c.args.path; seq = c.awaits-seq.result } in
    let f = c.in_ok-finish.ensures in
    let k = gives-word bs.alone rs.alone c.args.side c.args.path c.awaits-seq.result c.in-Some.word
    (bs.bridge c.args.bridge.now) (bs.known c.args.bridge.now) (bs.known c.finish.new.self)
    (rs.side c.args.ring.now) (rs.known c.args.ring.now) (rs.known c.awaits-seq.new.self)
    (rs.known c.give_up_on.new.ring)
    c.requires.path c.requires.turning a.legal a.went.list a.answer c.if-seq-eq0.false
    (gave-at rs.alone id _ _ _ _ _ (Some c.in-Some.word) a.same c.in-Some.is w.given)
    (legal-at (rs.side c.args.ring.now) (rs.side c.awaits-seq.new.self) _ a.same
    w.step.stands.legal) f.legal f.went in
    turning-sides c.args.side _ _ _ _ _ _ f.same (w.step.same ∙ a.same) k.turning

pub returns-then-seq-eq0-clause-kept : goal.returns-then-seq-eq0-clause-kept
returns-then-seq-eq0-clause-kept g c =
    let a = c.awaits-seq.ensures in
    let bs = g.B.BridgeSide in
    let rs = g.R.RingSide in
    (gives-zero bs.alone rs.alone c.args.side c.args.path c.awaits-seq.result
    (bs.bridge c.args.bridge.now) (bs.known c.args.bridge.now) (rs.side c.args.ring.now)
    (rs.known c.args.ring.now) (rs.known c.awaits-seq.new.self) c.requires.turning a.legal
    a.went.list a.answer c.if-seq-eq0.true).kept

pub returns-in_default-clause-kept : goal.returns-in_default-clause-kept
returns-in_default-clause-kept g c =
    let a = c.awaits-seq.ensures in
    let bs = g.B.BridgeSide in
    let rs = g.R.RingSide in
    let w = c.in_ok-word.ensures in
    let id : CallId =
    record { node = c.args.side; path = c.args.path; seq = c.awaits-seq.result } in
    (gives-kept bs.alone rs.alone c.args.side c.args.path c.awaits-seq.result
    (bs.bridge c.args.bridge.now) (bs.known c.args.bridge.now) (rs.side c.args.ring.now)
    (rs.known c.args.ring.now) (rs.known c.awaits-seq.new.self) (rs.known c.give_up_on.new.ring)
    c.requires.path c.requires.turning a.legal a.went.list a.answer c.if-seq-eq0.false
    (gave-at rs.alone id _ _ _ _ _ None a.same c.in_default.is w.given)
    (legal-at (rs.side c.args.ring.now) (rs.side c.awaits-seq.new.self) _ a.same
    w.step.stands.legal)).kept

pub returns-clause-kept : goal.returns-clause-kept
returns-clause-kept g c =
    let a = c.awaits-seq.ensures in
    let bs = g.B.BridgeSide in
    let rs = g.R.RingSide in
    let w = c.in_ok-word.ensures in
    let id : CallId =
    record { node = c.args.side; path = c.args.path; seq = c.awaits-seq.result } in
    let f = c.in_ok-finish.ensures in
    (gives-word bs.alone rs.alone c.args.side c.args.path c.awaits-seq.result c.in-Some.word
    (bs.bridge c.args.bridge.now) (bs.known c.args.bridge.now) (bs.known c.finish.new.self)
    (rs.side c.args.ring.now) (rs.known c.args.ring.now) (rs.known c.awaits-seq.new.self)
    (rs.known c.give_up_on.new.ring)
    c.requires.path c.requires.turning a.legal a.went.list a.answer c.if-seq-eq0.false
    (gave-at rs.alone id _ _ _ _ _ (Some c.in-Some.word) a.same c.in-Some.is w.given)
    (legal-at (rs.side c.args.ring.now) (rs.side c.awaits-seq.new.self) _ a.same
    w.step.stands.legal) f.legal f.went).kept

pub returns-then-seq-eq0-clause-less : goal.returns-then-seq-eq0-clause-less
returns-then-seq-eq0-clause-less g c =
    let a = c.awaits-seq.ensures in
    let bs = g.B.BridgeSide in
    let rs = g.R.RingSide in
    (gives-zero bs.alone rs.alone c.args.side c.args.path c.awaits-seq.result
    (bs.bridge c.args.bridge.now) (bs.known c.args.bridge.now) (rs.side c.args.ring.now)
    (rs.known c.args.ring.now) (rs.known c.awaits-seq.new.self) c.requires.turning a.legal
    a.went.list a.answer c.if-seq-eq0.true).less

pub returns-in_default-clause-less : goal.returns-in_default-clause-less
returns-in_default-clause-less g c =
    let a = c.awaits-seq.ensures in
    let bs = g.B.BridgeSide in
    let rs = g.R.RingSide in
    let w = c.in_ok-word.ensures in
    let id : CallId =
    record { node = c.args.side; path = c.args.path; seq = c.awaits-seq.result } in
    (gives-kept bs.alone rs.alone c.args.side c.args.path c.awaits-seq.result
    (bs.bridge c.args.bridge.now) (bs.known c.args.bridge.now) (rs.side c.args.ring.now)
    (rs.known c.args.ring.now) (rs.known c.awaits-seq.new.self) (rs.known c.give_up_on.new.ring)
    c.requires.path c.requires.turning a.legal a.went.list a.answer c.if-seq-eq0.false
    (gave-at rs.alone id _ _ _ _ _ None a.same c.in_default.is w.given)
    (legal-at (rs.side c.args.ring.now) (rs.side c.awaits-seq.new.self) _ a.same
    w.step.stands.legal)).less

pub returns-clause-less : goal.returns-clause-less
returns-clause-less g c =
    let a = c.awaits-seq.ensures in
    let bs = g.B.BridgeSide in
    let rs = g.R.RingSide in
    let w = c.in_ok-word.ensures in
    let id : CallId =
    record { node = c.args.side; path = c.args.path; seq = c.awaits-seq.result } in
    let f = c.in_ok-finish.ensures in
    (gives-word bs.alone rs.alone c.args.side c.args.path c.awaits-seq.result c.in-Some.word
    (bs.bridge c.args.bridge.now) (bs.known c.args.bridge.now) (bs.known c.finish.new.self)
    (rs.side c.args.ring.now) (rs.known c.args.ring.now) (rs.known c.awaits-seq.new.self)
    (rs.known c.give_up_on.new.ring)
    c.requires.path c.requires.turning a.legal a.went.list a.answer c.if-seq-eq0.false
    (gave-at rs.alone id _ _ _ _ _ (Some c.in-Some.word) a.same c.in-Some.is w.given)
    (legal-at (rs.side c.args.ring.now) (rs.side c.awaits-seq.new.self) _ a.same
    w.step.stands.legal) f.legal f.went).less

pub returns-then-seq-eq0-clause-left : goal.returns-then-seq-eq0-clause-left
returns-then-seq-eq0-clause-left g c =
    let a = c.awaits-seq.ensures in
    let bs = g.B.BridgeSide in
    let rs = g.R.RingSide in
    (gives-zero bs.alone rs.alone c.args.side c.args.path c.awaits-seq.result
    (bs.bridge c.args.bridge.now) (bs.known c.args.bridge.now) (rs.side c.args.ring.now)
    (rs.known c.args.ring.now) (rs.known c.awaits-seq.new.self) c.requires.turning a.legal
    a.went.list a.answer c.if-seq-eq0.true).left

pub returns-in_default-clause-left : goal.returns-in_default-clause-left
returns-in_default-clause-left g c =
    let a = c.awaits-seq.ensures in
    let bs = g.B.BridgeSide in
    let rs = g.R.RingSide in
    let w = c.in_ok-word.ensures in
    let id : CallId =
    record { node = c.args.side; path = c.args.path; seq = c.awaits-seq.result } in
    (gives-kept bs.alone rs.alone c.args.side c.args.path c.awaits-seq.result
    (bs.bridge c.args.bridge.now) (bs.known c.args.bridge.now) (rs.side c.args.ring.now)
    (rs.known c.args.ring.now) (rs.known c.awaits-seq.new.self) (rs.known c.give_up_on.new.ring)
    c.requires.path c.requires.turning a.legal a.went.list a.answer c.if-seq-eq0.false
    (gave-at rs.alone id _ _ _ _ _ None a.same c.in_default.is w.given)
    (legal-at (rs.side c.args.ring.now) (rs.side c.awaits-seq.new.self) _ a.same
    w.step.stands.legal)).left

pub returns-clause-left : goal.returns-clause-left
returns-clause-left g c =
    let a = c.awaits-seq.ensures in
    let bs = g.B.BridgeSide in
    let rs = g.R.RingSide in
    let w = c.in_ok-word.ensures in
    let id : CallId =
    record { node = c.args.side; path = c.args.path; seq = c.awaits-seq.result } in
    let f = c.in_ok-finish.ensures in
    (gives-word bs.alone rs.alone c.args.side c.args.path c.awaits-seq.result c.in-Some.word
    (bs.bridge c.args.bridge.now) (bs.known c.args.bridge.now) (bs.known c.finish.new.self)
    (rs.side c.args.ring.now) (rs.known c.args.ring.now) (rs.known c.awaits-seq.new.self)
    (rs.known c.give_up_on.new.ring)
    c.requires.path c.requires.turning a.legal a.went.list a.answer c.if-seq-eq0.false
    (gave-at rs.alone id _ _ _ _ _ (Some c.in-Some.word) a.same c.in-Some.is w.given)
    (legal-at (rs.side c.args.ring.now) (rs.side c.awaits-seq.new.self) _ a.same
    w.step.stands.legal) f.legal f.went).left

pub returns-then-seq-eq0-clause-given : goal.returns-then-seq-eq0-clause-given
returns-then-seq-eq0-clause-given g c =
    let a = c.awaits-seq.ensures in
    let bs = g.B.BridgeSide in
    let rs = g.R.RingSide in
    (gives-zero bs.alone rs.alone c.args.side c.args.path c.awaits-seq.result
    (bs.bridge c.args.bridge.now) (bs.known c.args.bridge.now) (rs.side c.args.ring.now)
    (rs.known c.args.ring.now) (rs.known c.awaits-seq.new.self) c.requires.turning a.legal
    a.went.list a.answer c.if-seq-eq0.true).given

pub returns-in_default-clause-given : goal.returns-in_default-clause-given
returns-in_default-clause-given g c =
    let a = c.awaits-seq.ensures in
    let bs = g.B.BridgeSide in
    let rs = g.R.RingSide in
    let w = c.in_ok-word.ensures in
    let id : CallId =
    record { node = c.args.side; path = c.args.path; seq = c.awaits-seq.result } in
    (gives-kept bs.alone rs.alone c.args.side c.args.path c.awaits-seq.result
    (bs.bridge c.args.bridge.now) (bs.known c.args.bridge.now) (rs.side c.args.ring.now)
    (rs.known c.args.ring.now) (rs.known c.awaits-seq.new.self) (rs.known c.give_up_on.new.ring)
    c.requires.path c.requires.turning a.legal a.went.list a.answer c.if-seq-eq0.false
    (gave-at rs.alone id _ _ _ _ _ None a.same c.in_default.is w.given)
    (legal-at (rs.side c.args.ring.now) (rs.side c.awaits-seq.new.self) _ a.same
    w.step.stands.legal)).given

pub returns-clause-given : goal.returns-clause-given
returns-clause-given g c =
    let a = c.awaits-seq.ensures in
    let bs = g.B.BridgeSide in
    let rs = g.R.RingSide in
    let w = c.in_ok-word.ensures in
    let id : CallId =
    record { node = c.args.side; path = c.args.path; seq = c.awaits-seq.result } in
    let f = c.in_ok-finish.ensures in
    (gives-word bs.alone rs.alone c.args.side c.args.path c.awaits-seq.result c.in-Some.word
    (bs.bridge c.args.bridge.now) (bs.known c.args.bridge.now) (bs.known c.finish.new.self)
    (rs.side c.args.ring.now) (rs.known c.args.ring.now) (rs.known c.awaits-seq.new.self)
    (rs.known c.give_up_on.new.ring)
    c.requires.path c.requires.turning a.legal a.went.list a.answer c.if-seq-eq0.false
    (gave-at rs.alone id _ _ _ _ _ (Some c.in-Some.word) a.same c.in-Some.is w.given)
    (legal-at (rs.side c.args.ring.now) (rs.side c.awaits-seq.new.self) _ a.same
    w.step.stands.legal) f.legal f.went).given

pub returns-then-seq-eq0-clause-part : goal.returns-then-seq-eq0-clause-part
returns-then-seq-eq0-clause-part g c =
    let a = c.awaits-seq.ensures in
    let bs = g.B.BridgeSide in
    let rs = g.R.RingSide in
    (gives-zero bs.alone rs.alone c.args.side c.args.path c.awaits-seq.result
    (bs.bridge c.args.bridge.now) (bs.known c.args.bridge.now) (rs.side c.args.ring.now)
    (rs.known c.args.ring.now) (rs.known c.awaits-seq.new.self) c.requires.turning a.legal
    a.went.list a.answer c.if-seq-eq0.true).part

pub returns-in_default-clause-part : goal.returns-in_default-clause-part
returns-in_default-clause-part g c =
    let a = c.awaits-seq.ensures in
    let bs = g.B.BridgeSide in
    let rs = g.R.RingSide in
    let w = c.in_ok-word.ensures in
    let id : CallId =
    record { node = c.args.side; path = c.args.path; seq = c.awaits-seq.result } in
    (gives-kept bs.alone rs.alone c.args.side c.args.path c.awaits-seq.result
    (bs.bridge c.args.bridge.now) (bs.known c.args.bridge.now) (rs.side c.args.ring.now)
    (rs.known c.args.ring.now) (rs.known c.awaits-seq.new.self) (rs.known c.give_up_on.new.ring)
    c.requires.path c.requires.turning a.legal a.went.list a.answer c.if-seq-eq0.false
    (gave-at rs.alone id _ _ _ _ _ None a.same c.in_default.is w.given)
    (legal-at (rs.side c.args.ring.now) (rs.side c.awaits-seq.new.self) _ a.same
    w.step.stands.legal)).part

pub returns-clause-part : goal.returns-clause-part
returns-clause-part g c =
    let a = c.awaits-seq.ensures in
    let bs = g.B.BridgeSide in
    let rs = g.R.RingSide in
    let w = c.in_ok-word.ensures in
    let id : CallId =
    record { node = c.args.side; path = c.args.path; seq = c.awaits-seq.result } in
    let f = c.in_ok-finish.ensures in
    (gives-word bs.alone rs.alone c.args.side c.args.path c.awaits-seq.result c.in-Some.word
    (bs.bridge c.args.bridge.now) (bs.known c.args.bridge.now) (bs.known c.finish.new.self)
    (rs.side c.args.ring.now) (rs.known c.args.ring.now) (rs.known c.awaits-seq.new.self)
    (rs.known c.give_up_on.new.ring)
    c.requires.path c.requires.turning a.legal a.went.list a.answer c.if-seq-eq0.false
    (gave-at rs.alone id _ _ _ _ _ (Some c.in-Some.word) a.same c.in-Some.is w.given)
    (legal-at (rs.side c.args.ring.now) (rs.side c.awaits-seq.new.self) _ a.same
    w.step.stands.legal) f.legal f.went).part

pub give_up_on-requires-clause-turn : goal.give_up_on-requires-clause-turn
give_up_on-requires-clause-turn g c =
    let a = c.awaits-seq.ensures in
    let bs = g.B.BridgeSide in
    let rs = g.R.RingSide in
    turn-at c.args.side _ _ _ a.same (looked rs.alone c.args.side (bs.bridge c.args.bridge.now)
    (bs.known c.args.bridge.now) (rs.side c.args.ring.now) (rs.known c.args.ring.now)
    (rs.known c.awaits-seq.new.self) a.legal a.went.list c.requires.turning).turning.own_turn

pub finish-requires-clause-out : goal.finish-requires-clause-out
finish-requires-clause-out g c =
    let a = c.awaits-seq.ensures in
    let bs = g.B.BridgeSide in
    let rs = g.R.RingSide in
    let l = (looked rs.alone c.args.side (bs.bridge c.args.bridge.now)
    (bs.known c.args.bridge.now) (rs.side c.args.ring.now) (rs.known c.args.ring.now)
    (rs.known c.awaits-seq.new.self) a.legal a.went.list c.requires.turning) in
    (waits-on c.args.side c.args.path c.awaits-seq.result (bs.bridge c.args.bridge.now)
    (bs.known c.args.bridge.now) (rs.side c.args.ring.now) (rs.known c.awaits-seq.new.self)
    c.requires.path l.turning a.answer c.if-seq-eq0.false).out

pub returns-then-seq-eq0-clause-step : goal.returns-then-seq-eq0-clause-step
returns-then-seq-eq0-clause-step g c =
    let a = c.awaits-seq.ensures in
    let bs = g.B.BridgeSide in
    let rs = g.R.RingSide in
    let there = ring-asked rs c.args.side a.same a.legal a.went in
    end-ring bs rs c.args.side c.args.bridge.now c.requires.turning.legal there

pub returns-in_err-word-clause-step : goal.returns-in_err-word-clause-step
returns-in_err-word-clause-step g c =
    let a = c.awaits-seq.ensures in
    let bs = g.B.BridgeSide in
    let rs = g.R.RingSide in
    let there = ring-asked rs c.args.side a.same a.legal a.went in
    end-ring bs rs c.args.side c.args.bridge.now c.requires.turning.legal
    (ring-then rs c.args.side there c.in_err-word.ensures.step)

pub returns-in_default-clause-step : goal.returns-in_default-clause-step
returns-in_default-clause-step g c =
    let a = c.awaits-seq.ensures in
    let bs = g.B.BridgeSide in
    let rs = g.R.RingSide in
    let there = ring-asked rs c.args.side a.same a.legal a.went in
    end-ring bs rs c.args.side c.args.bridge.now c.requires.turning.legal
    (ring-then rs c.args.side there c.in_ok-word.ensures.step)

pub returns-in_err-finish-clause-step : goal.returns-in_err-finish-clause-step
returns-in_err-finish-clause-step g c =
    let a = c.awaits-seq.ensures in
    let bs = g.B.BridgeSide in
    let rs = g.R.RingSide in
    let there = ring-asked rs c.args.side a.same a.legal a.went in
    let f = c.in_err-finish.ensures in
    record {
      station = bridge-called bs c.args.side [] f.same f.legal f.went refl;
      node = ring-then rs c.args.side there c.in_ok-word.ensures.step;
    }

pub returns-clause-step : goal.returns-clause-step
returns-clause-step g c =
    let a = c.awaits-seq.ensures in
    let bs = g.B.BridgeSide in
    let rs = g.R.RingSide in
    let there = ring-asked rs c.args.side a.same a.legal a.went in
    let f = c.in_ok-finish.ensures in
    record {
      station = bridge-called bs c.args.side
          (Finish c.args.side _ (Bad c.in-Some.word) ∷ []) f.same f.legal f.went
          (mine-one c.args.side (Finish c.args.side _ (Bad c.in-Some.word)) refl);
      node = ring-then rs c.args.side there c.in_ok-word.ensures.step;
    }
