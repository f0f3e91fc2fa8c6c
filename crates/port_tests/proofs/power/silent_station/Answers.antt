use Rattle.port_tests.proofs.Ready.{has-five}
use Rattle.port_tests.proofs.power.silent_station.Goals as goal

pub station_of-requires-clause-member : goal.station_of-requires-clause-member
station_of-requires-clause-member c = has-five c.args.net.now c.requires.members
