use Rattle.word_exchange.proofs.Beginning.{wired-run}
use Rattle.word_exchange.proofs.wired.run_out.Goals as goal

pub returns : goal.returns
returns c =
    wired-run c.args.plant.now c.args.wires.now c.args.scans c.exchange_all.new.readers
    c.exchange_all.new.wired c.in_ok-serial.serial c.in_ok-plant.plant c.in_ok-noted.noted
    c.in_ok-serial.ensures c.in_ok-noted.ensures c.in_ok-plant.ensures
