use Rattle.std.proofs.Common.{◌≡◌, true, false, not, [], ◌∷◌, refl, ap}
use Rattle.ring_core.specs.declared.entry.RingEntry.TheVariants.{Join}
use Rattle.tied_lists.specs.Own.{is_of}
use Rattle.tied_lists.proofs.Growth.{grew-one}
use Rattle.comm_port.proofs.Failed.{join-short}
use Rattle.comm_port.proofs.RingTurns.{mine}
use Rattle.comm_port.proofs.Steps.{ram-asked, ring-called}
use Rattle.comm_port.proofs.failing.come_back.Goals as goal

pub of-requires : goal.of-requires
of-requires g c =
    let e = c.in-Err.ensures in
    join-short g.R.RingSide.alone c.args.node _ _ _ _ e.legal e.went.list c.requires.turn
    c.requires.away e.refused

pub returns-in-Ok-clause-came : goal.returns-in-Ok-clause-came
returns-in-Ok-clause-came g c =
    let n = c.args.node in
    record {
      asks = c.is_off.ensures.went.list;
      joined_is = ap not c.if-is_off.ensures.answer;
      grew = grew-one g.R.RingSide.alone (is_of n) _ (Join n ∷ []) _ (mine n (Join n) refl)
          c.in-Ok.ensures.went.list;
      stays = λ e. absurd (let bad : true ≡ false = e in cc);
    }

pub returns-in-Ok-clause-step : goal.returns-in-Ok-clause-step
returns-in-Ok-clause-step g c =
    let o = c.in-Ok.ensures in
    let q = c.is_off.ensures in
    let n = c.args.node in
    record {
      station = ram-asked g.M.RamSide q.same q.legal q.went;
      node = ring-called g.R.RingSide n o.same o.legal o.went (mine n (Join n) refl);
    }

pub returns-in-Err-clause-step : goal.returns-in-Err-clause-step
returns-in-Err-clause-step g c =
    let e = c.in-Err.ensures in
    let q = c.is_off.ensures in
    record {
      station = ram-asked g.M.RamSide q.same q.legal q.went;
      node = ring-called g.R.RingSide c.args.node e.same e.legal e.went refl;
    }

pub returns-in-Err-clause-short : goal.returns-in-Err-clause-short
returns-in-Err-clause-short g c =
    let e = c.in-Err.ensures in
    record {
      station = c.is_off.ensures.went;
      node = record { list = e.went.list; kept = e.went.kept };
    }
