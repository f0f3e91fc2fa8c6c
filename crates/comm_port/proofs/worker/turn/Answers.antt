use Rattle.std.proofs.Common.{◌≡◌, Bool, false, [], sym, subst, nat_lt, ◌∙◌}
use Rattle.std.proofs.lemmas.Bool.{le-ltb}
use Rattle.controller_core.specs.declared.fixed.Fixed.{Fixed}
use Rattle.comm_port.specs.HoldTurn.{WorksTurn}
use Rattle.comm_port.specs.WholeTurn.{TurnsBy, is_unnoticed}
use Rattle.comm_port.proofs.Made.{ram-still}
use Rattle.comm_port.proofs.Parts.{fixed-as}
use Rattle.comm_port.proofs.Steps.{both-ram, both-then, ram-asked}
use Rattle.comm_port.proofs.worker.turn.Goals as goal

pub go_down-requires-clause-turning : goal.go_down-requires-clause-turning
go_down-requires-clause-turning g c =
    let f = c.failures-failures.ensures in
    ram-still g.M.RamSide.alone c.args.node [] _ _ _ _ _ _ c.args.waiting.now f.same f.went.list
    c.requires.turning

pub work-requires-clause-turning : goal.work-requires-clause-turning
work-requires-clause-turning g c =
    let f = c.failures-failures.ensures in
    ram-still g.M.RamSide.alone c.args.node [] _ _ _ _ _ _ c.args.waiting.now f.same f.went.list
    c.requires.turning

pub returns-clause-held : goal.returns-clause-held
returns-clause-held g c =
    let f = c.failures-failures.ensures in
    let o = c.in_ok-left.ensures in
    let n = c.args.node in
    let ram = g.M.RamSide in
    let ring = g.R.RingSide in
    let fixed = (ram.side c.args.ram.now).fixed in
    let net = (ring.side c.args.ring.now).net in
    let asked = ram.known c.failures-failures.new.self in
    let before = ring.known c.args.ring.now in
    let few : is_unnoticed fixed n asked before ≡ false =
    (λ i. nat_lt (sym c.requires.noticed i) (sym f.answer i))
    ∙ le-ltb c.args.noticed.now c.failures-failures.result c.if-noticed-failures.false in
    record {
      asked = asked;
      asks = f.went.list;
      goes = subst (λ (b : Bool). TurnsBy b ram.alone ring.alone fixed net n c.args.budget asked
          (ram.known c.work.new.ram) before (ring.known c.work.new.ring) c.working_end.result)
          (sym few) (
            c.in_ok-left.left,
            c.working_end.ensures,
            fixed-as (λ (x : Fixed). WorksTurn ram.alone ring.alone x net n c.args.budget asked
                (ram.known c.work.new.ram) before (ring.known c.work.new.ring) c.in_ok-left.left) _
                _ f.same o.worked,
          );
    }

pub returns-in_err-joined-clause-step : goal.returns-in_err-joined-clause-step
returns-in_err-joined-clause-step g c =
    let f = c.failures-failures.ensures in
    let n = c.args.node in
    both-then g.M.RamSide g.R.RingSide n
    (both-ram g.M.RamSide g.R.RingSide n c.args.ring.now c.requires.turning.own_turn.on.legal
    (ram-asked g.M.RamSide f.same f.legal f.went)) c.in_err-joined.ensures.step

pub returns-then-noticed-failures-clause-step : goal.returns-then-noticed-failures-clause-step
returns-then-noticed-failures-clause-step g c =
    let f = c.failures-failures.ensures in
    let n = c.args.node in
    both-then g.M.RamSide g.R.RingSide n
    (both-ram g.M.RamSide g.R.RingSide n c.args.ring.now c.requires.turning.own_turn.on.legal
    (ram-asked g.M.RamSide f.same f.legal f.went)) c.in_ok-joined.ensures.step

pub returns-in_err-left-clause-step : goal.returns-in_err-left-clause-step
returns-in_err-left-clause-step g c =
    let f = c.failures-failures.ensures in
    let n = c.args.node in
    both-then g.M.RamSide g.R.RingSide n
    (both-ram g.M.RamSide g.R.RingSide n c.args.ring.now c.requires.turning.own_turn.on.legal
    (ram-asked g.M.RamSide f.same f.legal f.went)) c.in_err-left.ensures.step

pub returns-clause-step : goal.returns-clause-step
returns-clause-step g c =
    let f = c.failures-failures.ensures in
    let n = c.args.node in
    both-then g.M.RamSide g.R.RingSide n
    (both-ram g.M.RamSide g.R.RingSide n c.args.ring.now c.requires.turning.own_turn.on.legal
    (ram-asked g.M.RamSide f.same f.legal f.went)) c.in_ok-left.ensures.step
