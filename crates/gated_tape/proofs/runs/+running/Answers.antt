use Rattle.gated_tape.proofs.Ran.{ran_halves}
use Rattle.gated_tape.proofs.runs.+running.Goals as goal

pub run_each-returns-then-threads-lt2 : goal.run_each-returns-then-threads-lt2
run_each-returns-then-threads-lt2 g n c =
    ran_halves g.S.Side.frame g.S.Side.known c.args.count _ _ _ _ _
    c.split_at_mut-front.ensures.value c.run_each.ensures c.run_each-then-threads-lt2.ensures

pub run_each-returns : goal.run_each-returns
run_each-returns g n c =
    ran_halves g.S.Side.frame g.S.Side.known c.args.count _ _ _ _ _
    c.split_at_mut-front.ensures.value c.run_halves.ensures.front c.run_halves.ensures.back
