use Rattle.joint_history.specs.Reading.{is_ours}
use Rattle.comm_port.proofs.Parts.{grew-none}
use Rattle.comm_port.proofs.Serves.{port-due}
use Rattle.std.proofs.Common.{refl, [], ◌∷◌}
use Rattle.ring_core.specs.declared.entry.RingEntry.TheVariants.{Post, Local}
use Rattle.tied_lists.specs.Own.{is_of}
use Rattle.tied_lists.specs.Items.{reply_of}
use Rattle.tied_lists.proofs.Growth.{adds-grew}
use Rattle.comm_port.specs.Replies.{reply_frame}
use Rattle.comm_port.specs.Order.{IsServing}
use Rattle.comm_port.proofs.Served.{port-lead}
use Rattle.comm_port.proofs.Onward.{for-stats}
use Rattle.comm_port.proofs.serving.answer_port.Goals as goal

pub tell_statistics-requires-clause-stats : goal.tell_statistics-requires-clause-stats
tell_statistics-requires-clause-stats g c = for-stats c.args.request.now c.requires.stats

pub returns-clause-turning : goal.returns-clause-turning
returns-clause-turning g c =
    let o = c.in_ok-tell_statistics.ensures in
    port-lead g.R.RingSide.alone c.args.node c.args.request.now _ _ _ _ _ _ c.args.waiting.now
    o.step.same c.requires.kind c.requires.stats o.step.stands.legal o.kept o.told c.requires.taking

pub returns-clause-ring_adds : goal.returns-clause-ring_adds
returns-clause-ring_adds g c =
    let told = c.in_ok-tell_statistics.ensures.told in
    let n = c.args.node in
    let id = c.args.request.now.id in
    adds-grew g.R.RingSide.alone (is_of n) (IsServing n) _
    (Local n id told.op told.result ∷ Post n (reply_frame id (reply_of told.result)) ∷ []) _
    (c.requires.taking.request c.requires.kind, (refl, tt)) told.grew

pub returns-clause-served : goal.returns-clause-served
returns-clause-served g c =
    let told = c.in_ok-tell_statistics.ensures.told in
    let f = c.args.request.now in
    record {
      noted = [];
      done = Local c.args.node f.id told.op told.result ∷ Post c.args.node
          (reply_frame f.id (reply_of told.result)) ∷ [];
      due = port-due g.R.RingSide.alone c.args.node f _ _ c.requires.kind c.requires.stats told;
      station = grew-none g.M.RamSide.alone is_ours _;
      node = told.grew;
    }
