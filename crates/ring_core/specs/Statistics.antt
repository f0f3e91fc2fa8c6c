-- The requests for statistics, by which a station asks another. Modicon Modbus Protocol Reference
-- Guide.
use Rattle.std.specs.Prelude.{ℕ, ◌||◌, ◌&&◌, Bool, not, List, [], ◌∷◌}
use Rattle.std.specs.Str.{bytes_eq}
use Rattle.ring_core.specs.Words.{Frame, is_onward}

-- The request for the twenty words: function 8, sub-function 21, operation 3.
abbrev pub get_statistics : List ℕ
get_statistics = 8 ∷ 0 ∷ 0x15 ∷ 0 ∷ 3 ∷ []

-- The request that clears them: operation 4.
abbrev pub clear_statistics : List ℕ
clear_statistics = 8 ∷ 0 ∷ 0x15 ∷ 0 ∷ 4 ∷ []

-- A PDU is one of the two requests for statistics.
abbrev pub is_stats : List ℕ → Bool
is_stats pdu = bytes_eq pdu get_statistics || bytes_eq pdu clear_statistics

-- A Request is one for statistics where its PDU is one of the two, and it goes no further.
abbrev pub is_for_stats : Frame → Bool
is_for_stats f = not (is_onward f) && is_stats f.pdu
