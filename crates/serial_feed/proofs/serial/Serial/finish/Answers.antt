use Rattle.serial_feed.proofs.Standings.{runs-each}
use Rattle.serial_feed.proofs.serial.Serial.finish.Goals as goal

pub returns : goal.returns
returns c = runs-each c.args.self c.in_ok-noted.noted c.in_ok-noted.ensures
