use Rattle.std.proofs.Common.{arith}
use Rattle.panel_session.proofs.ServedAll.{served-history, served-replies, serving-begins}
use Rattle.panel_session.proofs.ServedAll.{serving-goes-on}
use Rattle.panel_session.proofs.session.serve_all.Goals as goal

pub loop-frame-init : goal.loop-frame-init
loop-frame-init c =
    serving-begins c.args.bench.now c.args.text.now.items c.args.asked.now

pub serve_frame-requires : goal.serve_frame-requires
serve_frame-requires c = omega (arith, c.loop-frame.invariant.requests, c.requires.few)

pub loop-frame-preserved : goal.loop-frame-preserved
loop-frame-preserved c =
    serving-goes-on c.args.bench.now c.loop-frame.bench c.serve_frame.new.bench c.args.node
    c.args.text.now.items c.loop-frame.text.items c.serve_frame.new.text.items c.args.asked.now
    c.loop-frame.frame-index c.frame-item.result c.requires.node c.loop-frame.invariant
    (omega arith) c.frame-item.is c.in_ok-serve_frame.ensures.bench
    c.in_ok-serve_frame.ensures.text

pub returns-clause-history : goal.returns-clause-history
returns-clause-history c =
    served-history c.args.bench.now c.loop-frame.bench c.args.text.now.items
    c.loop-frame.text.items c.args.asked.now c.loop-frame.frame-index c.loop-frame.invariant
    (omega arith)

pub returns-clause-text : goal.returns-clause-text
returns-clause-text c =
    served-replies c.args.bench.now c.loop-frame.bench c.args.text.now.items
    c.loop-frame.text.items c.args.asked.now c.loop-frame.frame-index c.loop-frame.invariant
    (omega arith)
