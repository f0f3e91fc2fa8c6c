use Rattle.std.proofs.Common.{[], ◌∷◌, refl}
use Rattle.ring_core.specs.declared.entry.RingEntry.TheVariants.{Post, Local}
use Rattle.bridge_relay.specs.Laws.{is_by}
use Rattle.tied_lists.specs.Own.{is_of}
use Rattle.tied_lists.specs.Items.{reply_of}
use Rattle.tied_lists.proofs.Growth.{adds-grew}
use Rattle.comm_port.specs.Order.{IsServing}
use Rattle.comm_port.specs.Replies.{reply_frame}
use Rattle.comm_port.proofs.Onward.{for-stats}
use Rattle.comm_port.proofs.Parts.{grew-none}
use Rattle.bridge_port.proofs.EndSteps.{end-ring}
use Rattle.bridge_port.proofs.Served.{port-due}
use Rattle.bridge_port.proofs.Turning.{turning-told}
use Rattle.bridge_port.proofs.serving.answer_port.Goals as goal

pub tell_statistics-requires-clause-stats : goal.tell_statistics-requires-clause-stats
tell_statistics-requires-clause-stats g c = for-stats c.args.request.now c.requires.stats

pub returns-clause-turning : goal.returns-clause-turning
returns-clause-turning g c =
    let o = c.in_ok-tell_statistics.ensures in
    turning-told c.args.side c.args.request.now _ _ _ _ g.R.RingSide.alone _ _ o.step.same
    c.requires.kind c.requires.stats o.told o.step.stands.legal o.kept c.requires.taking

pub returns-clause-ring_adds : goal.returns-clause-ring_adds
returns-clause-ring_adds g c =
    let told = c.in_ok-tell_statistics.ensures.told in
    let n = c.args.side in
    let id = c.args.request.now.id in
    adds-grew g.R.RingSide.alone (is_of n) (IsServing n) _
    (Local n id told.op told.result ∷ Post n (reply_frame id (reply_of told.result)) ∷ []) _
    (c.requires.taking.request c.requires.kind, (refl, tt)) told.grew

pub returns-clause-served : goal.returns-clause-served
returns-clause-served g c =
    let told = c.in_ok-tell_statistics.ensures.told in
    let f = c.args.request.now in
    record {
      noted = [];
      done = Local c.args.side f.id told.op told.result ∷ Post c.args.side
          (reply_frame f.id (reply_of told.result)) ∷ [];
      due = port-due g.R.RingSide.alone c.args.side f _ _ c.requires.kind c.requires.stats told;
      station = grew-none g.B.BridgeSide.alone (is_by c.args.side) _;
      node = told.grew;
    }

pub returns-in_err-tell_statistics-clause-step : goal.returns-in_err-tell_statistics-clause-step
returns-in_err-tell_statistics-clause-step g c = end-ring g.B.BridgeSide g.R.RingSide c.args.side
    c.args.bridge.now c.requires.taking.legal c.in_err-tell_statistics.ensures.step

pub returns-clause-step : goal.returns-clause-step
returns-clause-step g c = end-ring g.B.BridgeSide g.R.RingSide c.args.side c.args.bridge.now
    c.requires.taking.legal c.in_ok-tell_statistics.ensures.step
