use Rattle.port_tests.proofs.Ready.{has-two}
use Rattle.port_tests.proofs.power.reading_station.Goals as goal

pub station_of-requires-clause-member : goal.station_of-requires-clause-member
station_of-requires-clause-member c = has-two c.args.net.now c.requires.members
