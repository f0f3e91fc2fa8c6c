-- What stations have noted is what stands in their joint history, and how it goes on.
use Rattle.std.proofs.Common.{◌≡◌, ◌≤◌, ℕ, ◌==◌, Bool, true, false, cond, List, [], ◌∷◌, ◌++◌}
use Rattle.std.proofs.Common.{length, drop, map, Option, Some, refl, sym, ap, ◌∙◌}
use Rattle.std.proofs.Common.{arith, length-append}
use Rattle.std.specs.List.{find}
use Rattle.joint_history.specs.declared.joint.ControllerLog.{ControllerLog}
use Rattle.joint_history.specs.declared.joint.RingLog.{RingLog}
use Rattle.joint_history.specs.Nets.{noted_on, entries_if as ring_entries_if}
use Rattle.serial_feed.specs.SerialRuns.{ControllerStation}
use Rattle.serial_feed.specs.SerialRuns.{RingStation}
use Rattle.serial_feed.specs.SerialRuns.{history_if, history_of}
use Rattle.serial_feed.specs.SerialRuns.{log_of, log_of_ring, ring_if, station_on}
use Rattle.serial_feed.specs.SerialRuns.{station_ring}
use Rattle.serial_feed.specs.Standing.{made_by, SerialIs}
use Rattle.word_exchange.specs.Running.{entries_now, ring_now, ReadersFollow}
use Rattle.word_exchange.specs.Words.{entries_if, entries_of}

-- ---- the history of a controller

log-by : (s : ControllerStation) (b : Bool) (found : Option ControllerStation)
    (later : Option ControllerLog) → history_if found ≡ entries_if later
    → history_if (cond b (Some s) found) ≡ entries_if (cond b (Some (log_of s)) later)
log-by s true found later more = refl
log-by s false found later more = more

log-there : (node : ℕ) (stations : List ControllerStation)
    → history_if (find (λ (s : ControllerStation). s.node == node) stations)
    ≡ entries_if (find (λ (log : ControllerLog). log.node == node) (map log_of stations))
log-there node [] = refl
log-there node (s ∷ stations) =
    log-by s (s.node == node) (find (λ (x : ControllerStation). x.node == node) stations)
    (find (λ (log : ControllerLog). log.node == node) (map log_of stations))
    (log-there node stations)

pub history-is : (node : ℕ) (serial : SerialIs)
    → history_of node serial.run ≡ entries_of node (made_by serial)
history-is node serial = log-there node serial.run.controllers.items

-- ---- the history of a ring

ring-by : (s : RingStation) (b : Bool) (found : Option RingStation) (later : Option RingLog)
    → (ring_if found).history ≡ ring_entries_if later
    → (ring_if (cond b (Some s) found)).history
    ≡ ring_entries_if (cond b (Some (log_of_ring s)) later)
ring-by s true found later more = refl
ring-by s false found later more = more

ring-there : (network : ℕ) (rings : List RingStation)
    → (ring_if (station_on rings network)).history
    ≡ ring_entries_if (find (λ (log : RingLog). log.network == network) (map log_of_ring rings))
ring-there network [] = refl
ring-there network (s ∷ rings) =
    ring-by s (s.network == network) (station_on rings network)
    (find (λ (log : RingLog). log.network == network) (map log_of_ring rings))
    (ring-there network rings)

pub ring-is : (network : ℕ) (serial : SerialIs)
    → (station_ring serial.run network).history ≡ noted_on network (made_by serial)
ring-is network serial = ring-there network serial.run.rings.items

-- ---- what came

pub drop-front : {X : Type 0} (xs more : List X) → drop (length xs) (xs ++ more) ≡ more
drop-front [] more = refl
drop-front (x ∷ xs) more = drop-front xs more

record Came {X : Type 0} (count : ℕ) (now old new : List X) : Type 0 where
  low : count ≤ length now
  is : new ≡ old ++ drop count now

came-by : {X : Type 0} (count : ℕ) (before now old new more : List X) → count ≡ length before
    → before ≡ old → now ≡ new → new ≡ old ++ more → Came count now old new
came-by count before now old new more all was is grown =
    let many : count ≡ length old = all ∙ ap length was in
    let long : length now ≡ length (old ++ more) = ap length (is ∙ grown) in
    let sum = length-append old more in
    record {
      low = omega (arith, many, long, sum);
      is = grown ∙ ap (λ l. old ++ l)
          (sym ((λ i. drop (many i) (is i)) ∙ ap (drop (length old)) grown
          ∙ drop-front old more));
    }

pub readers-follow : ReadersFollow
readers-follow old new reader read goes =
    let node = reader.plan.now.node in
    let network = reader.plan.now.network in
    let entries = goes.entries node in
    let ring = goes.rings network in
    let one = came-by reader.entries (entries_now old reader) (entries_now new reader)
    (entries_of node (made_by old)) (entries_of node (made_by new)) entries.0 read.entries
    (history-is node old) (history-is node new) entries.1 in
    let two = came-by reader.ring (ring_now old reader) (ring_now new reader)
    (noted_on network (made_by old)) (noted_on network (made_by new)) ring.0 read.ring
    (ring-is network old) (ring-is network new) ring.1 in
    record {
      has = record { entries = one.low; ring = two.low };
      came = record { entries_are = one.is; ring_is = two.is };
    }
