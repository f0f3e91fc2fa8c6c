use Rattle.std.proofs.Common.{sym}
use Rattle.journal_reading.proofs.Cuts.{first_cut, no_cut}
use Rattle.journal_reading.proofs.cutting.parted.Goals as goal

pub returns-in-Some : goal.returns-in-Some
returns-in-Some c =
    sym (rw (c.split_at.ensures.front, c.split_at-in-Some.ensures.back)
    (first_cut c.args.at c.args.text.now c.in-Some.place c.in-Some.ensures.0 c.in-Some.ensures.1))

pub returns-in-None : goal.returns-in-None
returns-in-None c = sym (no_cut c.args.at c.args.text.now c.in-None.ensures)
