-- What a primary sends to a standby, and what becomes of it. All of it is this project's own.
use Rattle.std.specs.Prelude.{ℕ, zero, suc, ◌+◌, ◌*◌, Bool, true, false, ◌&&◌, ◌==◌, nat_le}
use Rattle.std.specs.Prelude.{if◌then◌else◌, max, List, filter, fold, map}
use Rattle.std.specs.List.{count_by, range_with_len}
use Rattle.plant_types.specs.declared.net.Fate.{Fate}
use Rattle.plant_types.specs.declared.net.Fate.TheVariants as fates
use Rattle.ring_core.specs.Machine.{fate_at, fate_reaches}

-- A transmission arrives, and the sender is told so.
abbrev pub is_told : Fate → Bool
is_told fates.D = true
is_told fates.L = false
is_told fates.A = false

-- How many of so many first transmissions were told. Each of these acknowledged the next scan.
abbrev pub told_of : List Fate → ℕ → ℕ
told_of letters many = count_by is_told (map (fate_at letters) (range_with_len 0 many))

-- The scan of the primary behind which a transmission is made, by how many there were before it:
-- that of the one before it where that was told, else the next; but none goes out before its own
-- scan is made.
unfoldable pub sent_behind : List Fate → ℕ → ℕ
sent_behind letters zero = 1
sent_behind letters (suc before) =
    let last = sent_behind letters before in
    max (told_of letters (suc before) + 1)
    (if is_told (fate_at letters before) then last else last + 1)

-- A transmission of a packet: what becomes of it, the scan that it is of, how many scans were
-- acknowledged before it, and the scan behind which it is made.
pub record Sending : Type 0 where
  pub fate : Fate
  pub scan : ℕ
  pub acked : ℕ
  pub behind : ℕ

-- The transmission before which there were so many: its packet is that of the first scan that is
-- not acknowledged.
abbrev pub sending : List Fate → ℕ → Sending
sending letters before = record {
  fate = fate_at letters before;
  scan = told_of letters before + 1;
  acked = told_of letters before;
  behind = sent_behind letters before;
}

-- All transmissions of a primary that makes so many scans. They are at most twice as many, since
-- each one acknowledges a scan or is the last behind one.
abbrev pub sendings : List Fate → ℕ → List Sending
sendings letters scans = filter (λ one. nat_le one.behind scans)
    (map (sending letters) (range_with_len 0 (2 * scans)))

-- The transmissions behind a scan that acknowledge one.
abbrev pub acknowledged_behind : List Fate → ℕ → ℕ → List Sending
acknowledged_behind letters scans scan =
    filter (λ one. (one.behind == scan) && is_told one.fate) (sendings letters scans)

-- How many scans are acknowledged in all.
abbrev pub acknowledged : List Fate → ℕ → ℕ
acknowledged letters scans = count_by (λ one. is_told one.fate) (sendings letters scans)

-- The packets that arrive.
abbrev pub arrived : List Fate → ℕ → List Sending
arrived letters scans = filter (λ one. fate_reaches one.fate) (sendings letters scans)

-- The last of some numbers; 0 where there is none.
abbrev pub last_number : List ℕ → ℕ
last_number numbers = fold (λ before number. number) 0 numbers

-- The scans of the standby: packets go in order, so the last that arrived is of the last of them.
abbrev pub scans_there : List Fate → ℕ → ℕ
scans_there letters scans = last_number (map (λ one. one.scan) (arrived letters scans))

-- The scans that the standby knows to be acknowledged, from the last packet that it took.
abbrev pub known_acked : List Fate → ℕ → ℕ
known_acked letters scans = last_number (map (λ one. one.acked) (arrived letters scans))
