-- A word exchange at the moment after a repetition.
use Rattle.std.proofs.Common.{◌≡◌, ◌<◌, ◌≤◌, ℕ, zero, suc, ◌+◌, ◌==◌, Bool, true, false, cond, List}
use Rattle.std.proofs.Common.{[], ◌∷◌, ◌++◌, drop, get_or, length, map, max, Option, Some, refl, sym}
use Rattle.std.proofs.Common.{ap, subst, ◌∙◌, arith}
use Rattle.std.specs.Prelude.{option_map, ◌||◌}
use Rattle.std.specs.List.{AllZip, count_by, find, list_any}
use Rattle.std.proofs.lemmas.List.Sums.{count_by-le-length, sum_by-append}
use Rattle.plant_types.specs.declared.drops.ScriptRow.{ScriptRow}
use Rattle.plant_types.specs.declared.plan.ControllerPlan.{ControllerPlan}
use Rattle.plant_types.specs.declared.plan.Plant.{Plant}
use Rattle.plant_types.specs.Plans.{controller_nodes}
use Rattle.controller_core.specs.declared.entry.Entry.{Entry}
use Rattle.joint_history.specs.declared.joint.Joint.{Joint}
use Rattle.joint_history.specs.Nets.{noted_on}
use Rattle.serial_feed.specs.SerialRuns.{history_of}
use Rattle.serial_feed.specs.SerialRuns.{IsRepetition}
use Rattle.serial_feed.specs.SerialRuns.{station_ring}
use Rattle.serial_feed.proofs.SerialLemmas.{from-places, map-there}
use Rattle.serial_feed.proofs.SerialLemmas.{all-at}
use Rattle.serial_feed.specs.Standing.{made_by, SerialIs}
use Rattle.peer_cop.specs.declared.wire.Wire.{Wire}
use Rattle.peer_cop.specs.Plants.{drop_of, plan_of}
use Rattle.word_exchange.specs.declared.feeding.WiredDrop.{WiredDrop}
use Rattle.word_exchange.specs.declared.running.WireReader.{WireReader}
use Rattle.word_exchange.specs.declared.sending.Sending.{Sending}
use Rattle.word_exchange.specs.Counting.{counted_on, exchanges_now, noted_for, CanCount}
use Rattle.word_exchange.specs.Exchange.{exchanges_in, plan_exchanged, plant_exchanged}
use Rattle.word_exchange.specs.Exchange.{script_due}
use Rattle.word_exchange.specs.Exchanging.{froms_read, AreWiredDrops, IsReaderNow}
use Rattle.word_exchange.specs.Exchanging.{IsWiredDrop, IsWiredNow}
use Rattle.word_exchange.specs.Feeding.{rows_wanted, with_rows, AreOtherDrops}
use Rattle.word_exchange.specs.Moments.{node_of_log}
use Rattle.word_exchange.specs.Refresh.{Refreshed}
use Rattle.word_exchange.specs.Rows.{inputs_a_scan}
use Rattle.word_exchange.specs.Running.{entries_now, ring_now, HasReadAll, ReadsOn, ReadsWhatCame}
use Rattle.word_exchange.specs.Sendings.{sending_of}
use Rattle.word_exchange.specs.Starting.{is_drop_of}
use Rattle.word_exchange.specs.Words.{entries_of, is_input_of}
use Rattle.word_exchange.proofs.Exchanging.{exchanges}
use Rattle.word_exchange.proofs.Following.{drop-front, history-is, ring-is}
use Rattle.word_exchange.proofs.NextRows.{total-more}
use Rattle.word_exchange.proofs.StepsLeft.{nodes-fed}
use Rattle.word_exchange.proofs.TakingRows.{count-same, input-same}
use Rattle.word_exchange.proofs.WordLemmas.{follow}

-- ---- wired drops that were changed one by one

pub zip-map : {A : Type 0} (f : A → A) (xs ys : List A) → AllZip (λ (x y : A). y ≡ f x) xs ys
    → ys ≡ map f xs
zip-map f [] [] all = refl
zip-map f [] (y ∷ ys) all = absurd all
zip-map f (x ∷ xs) [] all = absurd all
zip-map f (x ∷ xs) (y ∷ ys) all =
    let rest = zip-map f xs ys all.1 in λ i. all.0 i ∷ rest i

pub map-both : {A : Type 0} (f g : A → A) (xs : List A)
    → map g (map f xs) ≡ map (λ (x : A). g (f x)) xs
map-both f g [] = refl
map-both {A} f g (x ∷ xs) = ap (λ (l : List A). g (f x) ∷ l) (map-both f g xs)

get-map : {A : Type 0} (f : A → A) (xs : List A) (k : ℕ) (d : A) → k < length xs
    → get_or (map f xs) k d ≡ f (get_or xs k d)
get-map f [] k d within = absurd (omega (arith, within))
get-map f (x ∷ xs) zero d within = refl
get-map f (x ∷ xs) (suc k) d within = get-map f xs k d (omega (arith, within))

long-map : {A : Type 0} (f : A → A) (xs : List A) → length (map f xs) ≡ length xs
long-map f [] = refl
long-map f (x ∷ xs) = ap suc (long-map f xs)

module _ (readers : List WireReader) (new : SerialIs) where
  -- a wired drop with the rows that it was given, counted on
  abbrev pub next_one : WiredDrop → WiredDrop
  next_one one = counted_on new (with_rows readers one)

  any-next : (n k : ℕ) (wired : List WiredDrop)
      → list_any (is_drop_of n k) (map next_one wired) ≡ list_any (is_drop_of n k) wired
  any-next n k [] = refl
  any-next n k (one ∷ wired) = ap (λ (b : Bool). is_drop_of n k one || b) (any-next n k wired)

  pub drops-next : (plant : Plant) (wires froms : List Wire) (wired : List WiredDrop)
      → AreWiredDrops plant wires froms wired
      → AreWiredDrops plant wires froms (map next_one wired)
  drops-next plant wires froms wired drops = record {
    each = from-places (IsWiredDrop plant wires froms) (map next_one wired) (λ k y there.
        let from = map-there next_one wired k y there in
        let is = all-at (IsWiredDrop plant wires froms) wired k from.0 drops.each from.1 in
        subst (IsWiredDrop plant wires froms) from.2
        (record { at = is.at; wired = is.wired; sources = is.sources; inputs = is.inputs }));
    there = λ k d within.
        any-next (get_or wires k d).node (get_or wires k d).drop wired ∙ drops.there k d within;
    apart = λ i j d low within.
        let long = long-map next_one wired in
        let high : j < length wired = omega (arith, within, long) in
        let one = get-map next_one wired i d (omega (arith, low, high)) in
        let other = get-map next_one wired j d high in
        subst (λ (x : WiredDrop). AreOtherDrops x (get_or (map next_one wired) j d)) (sym one)
        (subst (λ (y : WiredDrop). AreOtherDrops (next_one (get_or wired i d)) y) (sym other)
        (drops.apart i j d low high));
  }

-- ---- exchanges are counted on

find-fed : (plant : Plant) (wires : List Wire) (moments : List Joint) (node : ℕ)
    (plans : List ControllerPlan)
    → find (λ (p : ControllerPlan). p.node == node)
    (map (plan_exchanged plant wires moments) plans)
    ≡ option_map (plan_exchanged plant wires moments)
    (find (λ (p : ControllerPlan). p.node == node) plans)
find-fed plant wires moments node [] = refl
find-fed plant wires moments node (p ∷ plans) =
    pick (p.node == node) p (find (λ (q : ControllerPlan). q.node == node)
    (map (plan_exchanged plant wires moments) plans))
    (find (λ (q : ControllerPlan). q.node == node) plans)
    (find-fed plant wires moments node plans) where
      pick : (b : Bool) (q : ControllerPlan) (one other : Option ControllerPlan)
          → one ≡ option_map (plan_exchanged plant wires moments) other
          → cond b (Some (plan_exchanged plant wires moments q)) one
          ≡ option_map (plan_exchanged plant wires moments) (cond b (Some q) other)
      pick true q one other same = refl
      pick false q one other same = same

module _ (plant : Plant) (wires : List Wire) (moments : List Joint) (scans : ℕ) (old new : Joint)
    (nodes : map node_of_log old.controllers ≡ controller_nodes plant)
    (made : IsRepetition (plant_exchanged plant wires moments) scans old new) where
  -- a repetition makes no more exchanges than a full scan
  pub few-more : (plan : ControllerPlan) (number : ℕ) → plan_of plant plan.node ≡ Some plan
      → exchanges_in plan number new ≤ exchanges_in plan number old + inputs_a_scan plan number
  few-more plan number there =
      let fed = plan_exchanged plant wires moments plan in
      let found = find-fed plant wires moments plan.node plant.controllers
      ∙ ap (option_map (plan_exchanged plant wires moments)) there in
      let most = exchanges (plant_exchanged plant wires moments) scans fed number old new found
      (nodes ∙ sym (nodes-fed plant wires moments scans)) made in
      let one = count-same (is_input_of fed number) (is_input_of plan number)
      (entries_of plan.node new) (λ e. input-same fed plan number e refl) in
      let two = count-same (is_input_of fed number) (is_input_of plan number)
      (entries_of plan.node old) (λ e. input-same fed plan number e refl) in
      omega (arith, most, one, two)

module _ (plant : Plant) (wires : List Wire) (readers : List WireReader) (moments : List Joint)
    (new : SerialIs) (old : Joint) (one : WiredDrop) where
  abbrev plan : ControllerPlan
  plan = one.plan.now

  abbrev number : ℕ
  number = one.drop.now.number

  abbrev input : Entry → Bool
  input e = is_input_of plan number e

  abbrev Grown : Type 0
  Grown = (more : List Entry)
      × (entries_of plan.node (made_by new) ≡ entries_of plan.node old ++ more)

  now-as : Grown → exchanges_in plan number old ≡ one.exchanges
      → one.entries ≡ length (entries_of plan.node old)
      → exchanges_now new (with_rows readers one) ≡ exchanges_in plan number (made_by new)
  now-as grown made entries =
      let all : noted_for new one ≡ entries_of plan.node old ++ grown.0 =
      history-is plan.node new ∙ grown.1 in
      let rest : drop one.entries (noted_for new one) ≡ grown.0 =
      (λ i. drop (entries i) (all i)) ∙ drop-front (entries_of plan.node old) grown.0 in
      let added = ap (count_by input) rest in
      let sum = sum_by-append (λ (e : Entry). cond (input e) 1 0) (entries_of plan.node old)
      grown.0 in
      let total = ap (count_by input) grown.1 in
      omega (arith, added, sum, total, made)

  pub can-count : IsWiredNow plant wires moments old one → Grown
      → CanCount new (with_rows readers one)
  can-count now grown =
      let all = ap length (history-is plan.node new ∙ grown.1) in
      let most = count_by-le-length input (entries_of plan.node old) in
      let entries = now.entries in
      let made = now.exchanges in
      let long = length-both (entries_of plan.node old) grown.0 in
      record {
        entries = omega (arith, all, entries, long);
        exchanges = omega (arith, most, entries, made);
      } where
        length-both : (xs ys : List Entry) → length xs ≤ length (xs ++ ys)
        length-both [] ys = omega arith
        length-both (x ∷ xs) ys = let rest = length-both xs ys in omega (arith, rest)

  pub wired-next : (inputs_is : one.inputs ≡ inputs_a_scan plan number)
      → IsWiredNow plant wires moments old one → Grown
      → exchanges_in plan number (made_by new)
      ≤ exchanges_in plan number old + inputs_a_scan plan number
      → script_due plant wires plan one.drop.now moments ++ rows_wanted readers one
      ≡ script_due plant wires plan one.drop.now (moments ++ old ∷ [])
      → IsWiredNow plant wires (moments ++ old ∷ []) (made_by new) (next_one readers new one)
  wired-next inputs_is now grown most rows =
      let made = now-as grown (sym now.exchanges) now.entries in
      let total = total-more plant wires readers moments old plan number in
      record {
        script = ap (λ (l : List ScriptRow). l ++ rows_wanted readers one) now.script ∙ rows;
        entries = ap length (history-is plan.node new);
        exchanges = made;
        needed = (λ i. max 1 (made i + inputs_is i));
        made = record {
          few = omega (arith, most, total);
          unread = λ none.
              let before = now.made.unread none in omega (arith, most, before, none);
        };
      }

-- ---- readers read on

module _ (plant : Plant) (before : List Joint) (first old_serial new : SerialIs) where
  abbrev old : Joint
  old = made_by old_serial

  pub reader-next : (reader next : WireReader)
      → IsReaderNow plant first (before ++ old ∷ []) reader
      → ReadsWhatCame old_serial new reader → ReadsOn new reader next
      → IsReaderNow plant new (before ++ old ∷ made_by new ∷ []) next
  reader-next reader next is came on =
      let wire = reader.sending.wire in
      let plan = reader.plan.now in
      let entries = drop reader.entries (entries_now new reader) in
      let ring = drop reader.ring (ring_now new reader) in
      let same = on.sending.wire in
      let sent : next.sending
      ≡ sending_of plant (before ++ old ∷ made_by new ∷ []) wire =
      follow plant before old (made_by new) plan is.drop wire entries ring next.sending
      is.at.plan_is is.at.drop_is came.came
      (subst (λ (s : Sending). Refreshed plan entries ring s next.sending) is.sending on.sending)
      in
      let plans = sym on.plan in
      record {
        drop = is.drop;
        at = record {
          plan_is = (λ i. plan_of plant (same i).from) ∙ is.at.plan_is
              ∙ (λ i. Some (plans i).now);
          drop_is = (λ i. drop_of plant (same i).from (same i).from_drop) ∙ is.at.drop_is;
        };
        sending = sent ∙ (λ i. sending_of plant (before ++ old ∷ made_by new ∷ []) (sym same i));
        read = record {
          entries = on.entries ∙ (λ i. length (history_of (plans i).now.node new.run));
          ring = on.ring ∙ (λ i. length (station_ring new.run (plans i).now.network).history);
        };
      }

-- the readers keep their wires
pub froms-stay : (new : SerialIs) (readers next : List WireReader)
    → AllZip (ReadsOn new) readers next → froms_read next ≡ froms_read readers
froms-stay new [] [] all = refl
froms-stay new [] (n ∷ next) all = absurd all
froms-stay new (r ∷ readers) [] all = absurd all
froms-stay new (r ∷ readers) (n ∷ next) all =
    let here = all.0.sending.wire in
    let rest = froms-stay new readers next all.1 in
    λ i. here i ∷ rest i

-- a serial run that made nothing has nothing that was not read
pub read-still : (old new : SerialIs) (reader : WireReader) → made_by new ≡ made_by old
    → HasReadAll old reader → HasReadAll new reader
read-still old new reader same read =
    let node = reader.plan.now.node in
    let network = reader.plan.now.network in
    record {
      entries = read.entries ∙ ap length (history-is node old
          ∙ ap (entries_of node) (sym same) ∙ sym (history-is node new));
      ring = read.ring ∙ ap length (ring-is network old
          ∙ ap (noted_on network) (sym same) ∙ sym (ring-is network new));
    }
