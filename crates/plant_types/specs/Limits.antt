-- The most that a plant and its parts have, and that their numbers say. This project's own.
use Rattle.std.specs.Prelude.{ℕ, Bool, ◌&&◌, nat_le}

-- A number is from 1 to a largest one.
abbrev pub is_up_to : ℕ → ℕ → Bool
is_up_to most number = nat_le 1 number && nat_le number most

-- The most controllers and hosts of a plant.
abbrev pub controller_limit : ℕ
controller_limit = 16

abbrev pub host_limit : ℕ
host_limit = 16

-- The most bridges of a plant.
abbrev pub bridge_limit : ℕ
bridge_limit = 16

-- The highest number of a network of nodes.
abbrev pub net_limit : ℕ
net_limit = 8

-- The highest address of a node. Modbus Plus Network Planning and Installation Guide.
abbrev pub most_address : ℕ
most_address = 64

-- The paths of a node by the network, and path 0 of its own calls.
abbrev pub path_places : ℕ
path_places = 5

-- The most ticks by which the clock goes on at a scan.
abbrev pub scan_time_limit : ℕ
scan_time_limit = 1000

-- The most networks that a scan may begin.
abbrev pub watchdog_limit : ℕ
watchdog_limit = 10000

-- The most scans of a run.
abbrev pub most_scans : ℕ
most_scans = 2000

-- The most scans after a power failure in which a controller is dark.
abbrev pub dark_limit : ℕ
dark_limit = 2000

-- The most fates of a network, which its transmissions take in turn.
abbrev pub fate_limit : ℕ
fate_limit = 1000

-- The most own Passes after which a call without a reply is given up.
abbrev pub answer_limit : ℕ
answer_limit = 1000

-- The most rounds of the token after a scan.
abbrev pub rotation_limit : ℕ
rotation_limit = 10

-- The most Passes in a row that every member has to be done before a node leaves.
abbrev pub round_limit : ℕ
round_limit = 100

-- The most Passes after which a node with a budget leaves in any case.
abbrev pub hold_limit : ℕ
hold_limit = 100000

-- The most requests of a host, and the last hold of the token from which on one is due.
abbrev pub request_limit : ℕ
request_limit = 1000

abbrev pub due_limit : ℕ
due_limit = 10000

-- The most words into a drop, and the most out of it.
abbrev pub drop_words : ℕ
drop_words = 64
