use Rattle.std.proofs.Common.{◌≡◌, inl, inr, subst, sym}
use Rattle.std.proofs.lemmas.Result.{IfOk-weaker}
use Rattle.peer_cop.specs.Lines.{lines_of}
use Rattle.peer_cop.specs.Wires.{AreRefused, AreWires}
use Rattle.peer_cop.specs.declared.wire.WireEnd.{WireEnd}
use Rattle.one_exchange.specs.Runs.{AreWiresOf}
use Rattle.command_answers.specs.declared.answered.Answer.{Answer}
use Rattle.command_answers.specs.Due.{IsCopDue, IsExchangeShown, as_due, bad_wire}
use Rattle.command_answers.proofs.cops.answer_cop.Goals as goal

pub exchange_answer-requires-clause-wires : goal.exchange_answer-requires-clause-wires
exchange_answer-requires-clause-wires c =
    let are = c.in-Ok.ensures.wires in
    subst (AreWiresOf c.args.plant.now) (sym c.as_slice.ensures)
    (record { fit = are.fit; apart = are.apart })

pub returns-in-Ok : goal.returns-in-Ok
returns-in-Ok c =
    let plant = c.args.plant.now in
    let behind = c.args.behind.now in
    let wires = c.as_slice.result.now in
    let P : Answer → Type 0 =
    λ answer. IsExchangeShown plant wires c.args.scans (as_due answer) in
    let Q : Answer → Type 0 = λ answer. IsCopDue c.args.scans plant behind (as_due answer) in
    IfOk-weaker c.exchange_answer.result P Q (λ answer due. inl (record {
      wires = wires;
      are = subst (AreWires plant (lines_of behind)) (sym c.as_slice.ensures) c.in-Ok.ensures.wires;
      due = due;
    })) c.exchange_answer.ensures

pub returns-in-Err-BadWire : goal.returns-in-Err-BadWire
returns-in-Err-BadWire c =
    let plant = c.args.plant.now in
    let behind = c.args.behind.now in
    let line = c.in-Err-BadWire.line in
    let P : Answer → Type 0 = λ answer. as_due answer ≡ bad_wire line in
    let Q : Answer → Type 0 = λ answer. IsCopDue c.args.scans plant behind (as_due answer) in
    let Refused : WireEnd → Type 0 = AreRefused plant (lines_of behind) in
    let first = subst Refused c.in-Err-BadWire.field-0-is c.in-Err-BadWire.ensures.refused in
    IfOk-weaker c.bad_wire.result P Q
    (λ answer due. inr (record { line = line; first = first; due = due })) c.bad_wire.ensures
