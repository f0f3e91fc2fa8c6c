use Rattle.gated_tape.proofs.Going.{worked-twice}
use Rattle.gated_tape.proofs.workers.write_both.Goals as goal

pub returns-in_err-put_both-clause-one : goal.returns-in_err-put_both-clause-one
returns-in_err-put_both-clause-one g c =
    worked-twice g.A.Side.alone c.args.node _ _ _ _ _ _ c.loop-word.invariant.worked_one
    c.put_both.ensures.one

pub returns-in_err-put_both-clause-two : goal.returns-in_err-put_both-clause-two
returns-in_err-put_both-clause-two g c =
    worked-twice g.B.Side.alone c.args.node _ _ _ _ _ _ c.loop-word.invariant.worked_two
    c.put_both.ensures.two

pub loop-word-preserved : goal.loop-word-preserved
loop-word-preserved g c =
    let i = c.loop-word.invariant in
    let e = c.in_ok-put_both.ensures in
    record {
      next_one = e.ended.done_one;
      next_two = e.ended.done_two;
      worked_one = worked-twice g.A.Side.alone c.args.node _ _ _ _ _ _ i.worked_one e.one;
      worked_two = worked-twice g.B.Side.alone c.args.node _ _ _ _ _ _ i.worked_two e.two;
    }
