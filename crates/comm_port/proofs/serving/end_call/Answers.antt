use Rattle.tied_lists.specs.Own.{is_of}
use Rattle.comm_port.proofs.Parts.{grew-none}
use Rattle.comm_port.proofs.Serves.{reply-due}
use Rattle.tied_lists.proofs.Growth.{grew-one}
use Rattle.std.proofs.Common.{refl}
use Rattle.std.proofs.Common.{◌≡◌, sym, ◌∙◌, subst, List, ◌∷◌, [], Option, Some, None}
use Rattle.std.proofs.Common.{get_or}
use Rattle.mstr_block.specs.declared.call.MstrResult.{MstrResult}
use Rattle.ring_core.specs.declared.frame.Frame.{Frame}
use Rattle.controller_core.specs.declared.entry.Entry.TheVariants.{Finish}
use Rattle.tied_lists.specs.Own.{WentOn}
use Rattle.joint_history.specs.Reading.{is_ours}
use Rattle.comm_port.specs.Turns.{Turning}
use Rattle.comm_port.proofs.Served.{end-lead, reply-out}
use Rattle.comm_port.proofs.Steps.{ram-called}
use Rattle.comm_port.proofs.serving.end_call.Goals as goal

pub finish-requires : goal.finish-requires
finish-requires g c = reply-out c.args.node c.args.reply.now _ _ _ _ c.args.waiting.now
    c.requires.kind c.requires.taking

pub returns-clause-turning : goal.returns-clause-turning
returns-clause-turning g c =
    let o = c.in_ok-finish.ensures in
    let n = c.args.node in
    let f = c.args.reply.now in
    let ask = c.unwrap-ask.result in
    let slot : get_or c.args.waiting.now f.id.path None ≡ Some ask = sym c.end.ensures.waited
    ∙ c.unwrap-ask.ensures in
    let went = subst (λ (r : MstrResult). WentOn g.M.RamSide.alone is_ours
    (g.M.RamSide.known c.args.ram.now) (Finish f.id r ∷ [])
    (g.M.RamSide.known c.finish.new.self)) c.result_of.ensures o.went.list in
    subst (λ (w : List (Option Frame)). Turning n [] (g.M.RamSide.side c.finish.new.self)
    (g.M.RamSide.known c.finish.new.self)
    (g.R.RingSide.side c.args.ring.now) (g.R.RingSide.known c.args.ring.now) w)
    (sym c.end.ensures.new)
    (end-lead g.M.RamSide.alone n f ask _ _ _ _ _ _ c.args.waiting.now o.same c.requires.kind slot
    went c.requires.taking)

pub returns-clause-served : goal.returns-clause-served
returns-clause-served g c = record {
  noted = Finish c.args.reply.now.id c.result_of.result ∷ [];
  done = [];
  due = reply-due c.args.node c.args.reply.now c.result_of.result c.requires.kind;
  station = grew-one g.M.RamSide.alone is_ours _
      (Finish c.args.reply.now.id c.result_of.result ∷ []) _ refl c.in_ok-finish.ensures.went.list;
  node = grew-none g.R.RingSide.alone (is_of c.args.node) _;
}

pub returns-in_err-finish-clause-step : goal.returns-in_err-finish-clause-step
returns-in_err-finish-clause-step g c =
    let f = c.in_err-finish.ensures in
    ram-called g.M.RamSide f.same f.legal f.went refl

pub returns-clause-step : goal.returns-clause-step
returns-clause-step g c =
    let f = c.in_ok-finish.ensures in
    ram-called g.M.RamSide f.same f.legal f.went refl
