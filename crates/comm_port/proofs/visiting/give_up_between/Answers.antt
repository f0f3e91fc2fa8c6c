use Rattle.comm_port.proofs.GivesUp.{gone-may}
use Rattle.std.proofs.Common.{◌≡◌, ℕ, refl, sym, ap, ◌∙◌, subst, List, [], ◌∷◌, Option, Some}
use Rattle.mstr_block.specs.declared.call.MstrResult.TheVariants.{Bad}
use Rattle.controller_core.specs.declared.entry.Entry.TheVariants.{Finish}
use Rattle.ring_core.specs.declared.frame.Frame.{Frame}
use Rattle.ring_core.specs.declared.entry.RingEntry.TheVariants.{GiveUp}
use Rattle.tied_lists.specs.Own.{is_of, Grew}
use Rattle.tied_lists.specs.Items.{NetCall}
use Rattle.tied_lists.proofs.Growth.{grew-one}
use Rattle.ring_core.specs.Machine.{gave_up}
use Rattle.comm_port.specs.Giving.{part_at}
use Rattle.comm_port.specs.Making.{Owing, calls_from}
use Rattle.joint_history.specs.Reading.{is_ours}
use Rattle.comm_port.specs.Waiting.{id_of}
use Rattle.comm_port.proofs.Given.{waits-at-but, turn-at}
use Rattle.comm_port.proofs.Sends.{gave-up}
use Rattle.comm_port.proofs.Visited.{owing-given}
use Rattle.comm_port.proofs.Steps.{both-ring, ram-called, ring-of}
use Rattle.comm_port.proofs.visiting.give_up_between.Goals as goal

pub give_up_now-requires : goal.give_up_now-requires
give_up_now-requires g c =
    let t = c.requires.owing.turning in
    let id = c.args.id in
    let w = c.requires.waits in
    let k = waits-at-but _ c.args.node id.path id _ _ _ _ c.args.waiting.now
    (ap id_of (t.waits.waits id.path ∙ w.1) ∙ ap Some w.2) t in
    record {
      turn = turn-at _ _ c.args.node id.node k.own_is t.own_turn;
      path = k.is_path;
      may = gone-may _ c.args.node id _ _ _ _ c.args.waiting.now c.requires.gone k t;
    }

pub finish-requires : goal.finish-requires
finish-requires g c =
    let t = c.requires.owing.turning in
    let id = c.args.id in
    let w = c.requires.waits in
    let k = waits-at-but _ c.args.node id.path id _ _ _ _ c.args.waiting.now
    (ap id_of (t.waits.waits id.path ∙ w.1) ∙ ap Some w.2) t in
    (NetCall, k.out)

pub returns-clause-owing : goal.returns-clause-owing
returns-clause-owing g c =
    let t = c.requires.owing.turning in
    let id = c.args.id in
    let n = c.args.node in
    let w = c.requires.waits in
    let k = waits-at-but _ n id.path id _ _ _ _ c.args.waiting.now
    (ap id_of (t.waits.waits id.path ∙ w.1) ∙ ap Some w.2) t in
    let o = c.in_ok-word.ensures in
    let f = c.in_ok-finish.ensures in
    let gave = gave-up _ g.R.RingSide.alone id c.in_ok-word.word _ _
    (turn-at _ _ n id.node k.own_is t.own_turn) o.step.stands.legal o.went in
    subst (λ (x : List (Option Frame)). Owing n (calls_from c.args.calls.now c.args.next)
    (g.M.RamSide.side c.finish.new.self)
    (g.M.RamSide.known c.finish.new.self) (g.R.RingSide.side c.give_up_now.new.ring)
    (g.R.RingSide.known c.give_up_now.new.ring) x)
    (sym c.end.ensures.new)
    (owing-given _ g.M.RamSide.alone g.R.RingSide.alone n id.path id c.in_ok-word.word _ _ _ _ _ _ _
    _ c.args.waiting.now f.same o.step.same
    o.step.stands.legal k gave f.went.list c.requires.owing)

pub returns-clause-given : goal.returns-clause-given
returns-clause-given g c =
    let t = c.requires.owing.turning in
    let id = c.args.id in
    let n = c.args.node in
    let w = c.requires.waits in
    let k = waits-at-but _ n id.path id _ _ _ _ c.args.waiting.now
    (ap id_of (t.waits.waits id.path ∙ w.1) ∙ ap Some w.2) t in
    let o = c.in_ok-word.ensures in
    let word = c.in_ok-word.word in
    let gave = gave-up _ g.R.RingSide.alone id word _ _ (turn-at _ _ n id.node k.own_is t.own_turn)
    o.step.stands.legal o.went in
    record {
      noted = Finish id (Bad word) ∷ [];
      done = GiveUp id word ∷ [];
      due = (word, refl, refl);
      station = grew-one g.M.RamSide.alone is_ours _ (Finish id (Bad word) ∷ []) _ refl
          c.in_ok-finish.ensures.went.list;
      node = subst (λ (m : ℕ). Grew g.R.RingSide.alone (is_of m)
          (g.R.RingSide.known c.args.ring.now) (GiveUp id word ∷ [])
          (g.R.RingSide.known c.give_up_now.new.ring)) k.own_is gave.grew;
    }

pub returns-clause-part : goal.returns-clause-part
returns-clause-part g c =
    let t = c.requires.owing.turning in
    let id = c.args.id in
    let n = c.args.node in
    let w = c.requires.waits in
    let k = waits-at-but _ n id.path id _ _ _ _ c.args.waiting.now
    (ap id_of (t.waits.waits id.path ∙ w.1) ∙ ap Some w.2) t in
    let o = c.in_ok-word.ensures in
    let gave = gave-up _ g.R.RingSide.alone id c.in_ok-word.word _ _
    (turn-at _ _ n id.node k.own_is t.own_turn) o.step.stands.legal o.went in
    subst (λ (m : ℕ). part_at (g.R.RingSide.side c.args.ring.now).net m
    (g.R.RingSide.known c.give_up_now.new.ring) ≡ gave_up (part_at
    (g.R.RingSide.side c.args.ring.now).net m (g.R.RingSide.known c.args.ring.now)) id) k.own_is
    gave.part_is

pub returns-in_err-word-clause-step : goal.returns-in_err-word-clause-step
returns-in_err-word-clause-step g c =
    let t = c.requires.owing.turning in
    let id = c.args.id in
    let w = c.requires.waits in
    let k = waits-at-but _ c.args.node id.path id _ _ _ _ c.args.waiting.now
    (ap id_of (t.waits.waits id.path ∙ w.1) ∙ ap Some w.2) t in
    both-ring g.M.RamSide g.R.RingSide c.args.node c.args.ram.now
    (ring-of g.R.RingSide id.node c.args.node k.own_is c.in_err-word.ensures.step)

pub returns-in_err-finish-clause-step : goal.returns-in_err-finish-clause-step
returns-in_err-finish-clause-step g c =
    let t = c.requires.owing.turning in
    let id = c.args.id in
    let w = c.requires.waits in
    let k = waits-at-but _ c.args.node id.path id _ _ _ _ c.args.waiting.now
    (ap id_of (t.waits.waits id.path ∙ w.1) ∙ ap Some w.2) t in
    let f = c.in_err-finish.ensures in
    record {
      station = ram-called g.M.RamSide f.same f.legal f.went refl;
      node = ring-of
          g.R.RingSide id.node c.args.node k.own_is c.in_ok-word.ensures.step;
    }

pub returns-clause-step : goal.returns-clause-step
returns-clause-step g c =
    let t = c.requires.owing.turning in
    let id = c.args.id in
    let w = c.requires.waits in
    let k = waits-at-but _ c.args.node id.path id _ _ _ _ c.args.waiting.now
    (ap id_of (t.waits.waits id.path ∙ w.1) ∙ ap Some w.2) t in
    let f = c.in_ok-finish.ensures in
    record {
      station = ram-called g.M.RamSide f.same f.legal f.went refl;
      node = ring-of
          g.R.RingSide id.node c.args.node k.own_is c.in_ok-word.ensures.step;
    }
