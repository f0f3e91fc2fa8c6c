-- Rows by the sources of their words are those by all wires.
use Rattle.std.proofs.Common.{◌≡◌, ◌<◌, ◌≤◌, ℕ, zero, suc, ◌+◌, ◌-◌, ◌==◌, Bool, true, false, cond}
use Rattle.std.proofs.Common.{List, [], ◌∷◌, length, map, not, Option, Some, None, refl, sym, ap}
use Rattle.std.proofs.Common.{subst, ◌∙◌, arith}
use Rattle.std.specs.Prelude.{◌||◌, nat_lt, option_map, slice_get, slice_index}
use Rattle.std.specs.List.{All, enumerate_from, find, list_any, position, position_or_len}
use Rattle.std.specs.List.{range_with_len}
use Rattle.std.specs.Option.{option_flatten, unwrap_or}
use Rattle.std.proofs.lemmas.Bool.{and_parts, eqb-true, lt-ltb}
use Rattle.std.proofs.lemmas.Option.{slice_get-map}
use Rattle.plant_types.specs.declared.drops.Module.{Module}
use Rattle.plant_types.specs.declared.drops.ScriptRow.{ScriptRow}
use Rattle.plant_types.specs.declared.drops.ScriptRow.TheVariants.{Silent, Row}
use Rattle.plant_types.specs.declared.plan.Plant.{Plant}
use Rattle.traffic_cop.specs.Exchange.{fits_row, input_total}
use Rattle.joint_history.specs.declared.joint.Joint.{Joint}
use Rattle.serial_feed.proofs.SerialLemmas.{all-at}
use Rattle.peer_cop.specs.declared.wire.Wire.{Wire}
use Rattle.peer_cop.specs.Plants.{drop_of, plan_of}
use Rattle.peer_cop.proofs.PlantLemmas.{find_there}
use Rattle.word_exchange.specs.declared.running.WireReader.{WireReader}
use Rattle.word_exchange.specs.declared.sending.Sending.{Sending}
use Rattle.word_exchange.specs.declared.sources.Source.{Source}
use Rattle.word_exchange.specs.Exchanging.{froms_read}
use Rattle.word_exchange.specs.Rows.{brought, feeds, row_made, word_made}
use Rattle.word_exchange.specs.Sendings.{sending_of, sendings_at, words_if}
use Rattle.word_exchange.specs.Sources.{is_from, row_brought, source_by, source_due, source_of}
use Rattle.word_exchange.specs.Sources.{sources_due, word_brought, word_from, word_in, AreFroms}
use Rattle.word_exchange.specs.Words.{words_sent}

-- ---- the source of a word

range-at : (a n k at : ℕ) → k < n → at ≡ a + k → slice_get (range_with_len a n) k ≡ Some at
range-at a zero k at within is = absurd (omega (arith, within))
range-at a (suc n) zero at within is = ap Some (let same : a ≡ at = omega (arith, is) in same)
range-at a (suc n) (suc k) at within is =
    range-at (a + 1) n k at (omega (arith, within)) (omega (arith, is))

due-at : (froms wires : List Wire) (node number total word : ℕ) → 1 ≤ word → word ≤ total
    → source_of (sources_due froms wires node number total) word
    ≡ source_due froms wires node number word
due-at froms wires node number total word low high =
    let due = source_due froms wires node number in
    let there = range-at 1 total (word - 1) word (omega (arith, low, high)) (omega (arith, low)) in
    ap option_flatten (slice_get-map due (range_with_len 1 total) (word - 1)
    ∙ ap (option_map due) there)

-- ---- the reader of a wire's from drop

module _ (wire : Wire) where
  abbrev Found : List WireReader → ℕ → Type 0
  Found readers at = (reader : WireReader) × (slice_get readers at ≡ Some reader)
      × (is_from wire reader.sending.wire ≡ true)

  found-by : (b any : Bool) (r : WireReader) (rs : List WireReader) (rest : ℕ)
      → is_from wire r.sending.wire ≡ b → (b || any) ≡ true → (any ≡ true → Found rs rest)
      → Found (r ∷ rs) (cond (not b) (1 + rest) 0)
  found-by true any r rs rest is some later = (r, refl, is)
  found-by false any r rs rest is some later =
      let it = later some in
      let one : suc rest ≡ 1 + rest = omega arith in
      subst (Found (r ∷ rs)) one (it.0, it.1, it.2)

  first-there : (readers : List WireReader)
      → list_any (is_from wire) (froms_read readers) ≡ true
      → Found readers (position_or_len (is_from wire) (froms_read readers))
  first-there [] some = absurd cc
  first-there (r ∷ rs) some =
      found-by (is_from wire r.sending.wire) (list_any (is_from wire) (froms_read rs)) r rs
      (position_or_len (is_from wire) (froms_read rs)) refl some (first-there rs)

  within-by : (readers : List WireReader) (at : ℕ) (r : WireReader)
      → slice_get readers at ≡ Some r → at < length (froms_read readers)
  within-by [] at r there = absurd cc
  within-by (x ∷ rs) zero r there = omega arith
  within-by (x ∷ rs) (suc at) r there = let low = within-by rs at r there in omega (arith, low)

  place-by : (at long : ℕ) → at < long
      → unwrap_or (cond (nat_lt at long) (Some at) None) long ≡ at
  place-by at long low =
      ap (λ (b : Bool). unwrap_or (cond b (Some at) None) long) (lt-ltb at long low)

  reader-there : (readers : List WireReader)
      → list_any (is_from wire) (froms_read readers) ≡ true
      → Found readers (unwrap_or (position (is_from wire) (froms_read readers))
      (length (froms_read readers)))
  reader-there readers some =
      let it = first-there readers some in
      let at = position_or_len (is_from wire) (froms_read readers) in
      subst (Found readers)
      (sym (place-by at (length (froms_read readers)) (within-by readers at it.0 it.1))) it

-- ---- a word

module _ (plant : Plant) (wires : List Wire) (moments : List Joint) (readers : List WireReader)
    (all : AreFroms wires (froms_read readers))
    (sent : All (λ (r : WireReader). r.sending ≡ sending_of plant moments r.sending.wire) readers)
  where
    same-sent : (wire other : Wire) → is_from wire other ≡ true
        → (sending_of plant moments other).sent ≡ (sending_of plant moments wire).sent
    same-sent wire other is =
        let parts = and_parts (other.from == wire.from) (other.from_drop == wire.from_drop) is in
        let from = eqb-true other.from wire.from parts.0 in
        let number = eqb-true other.from_drop wire.from_drop parts.1 in
        λ i. words_if words_sent (plan_of plant (from i)) (drop_of plant (from i) (number i)) moments

    find-sending : (test : Wire → Bool) (list : List Wire)
        → find (λ (s : Sending). test s.wire) (sendings_at plant list moments)
        ≡ option_map (sending_of plant moments) (find test list)
    find-sending test [] = refl
    find-sending test (w ∷ list) =
        pick (test w) w (find (λ (s : Sending). test s.wire) (sendings_at plant list moments))
        (find test list) (find-sending test list) where
          pick : (b : Bool) (x : Wire) (one : Option Sending) (other : Option Wire)
              → one ≡ option_map (sending_of plant moments) other
              → cond b (Some (sending_of plant moments x)) one
              ≡ option_map (sending_of plant moments) (cond b (Some x) other)
          pick true x one other same = refl
          pick false x one other same = same

    module _ (node number word own : ℕ) where
      by-found : (o : Option Wire) → find (feeds node number word) wires ≡ o
          → word_from readers own (option_map (source_by (froms_read readers) word) o)
          ≡ brought word own (option_map (sending_of plant moments) o)
      by-found None is = refl
      by-found (Some wire) is =
          let some = (find_there (λ (w : Wire). list_any (is_from w) (froms_read readers) ≡ true)
          (feeds node number word) wires wire all.all is).0 in
          let it = reader-there wire readers some in
          let place = wire.from_word + (word - wire.word) - 1 in
          let at = unwrap_or (position (is_from wire) (froms_read readers))
          (length (froms_read readers)) in
          let reader = it.0 in
          let has = all-at (λ (r : WireReader). r.sending ≡ sending_of plant moments r.sending.wire)
          readers at reader sent it.1 in
          ap (λ (o : Option WireReader). word_in o place) it.1
          ∙ ap (λ (l : List ℕ). slice_index l place)
          (ap (λ (s : Sending). s.sent) has ∙ same-sent wire reader.sending.wire it.2)

      word-tied : (total : ℕ) → 1 ≤ word → word ≤ total
          → word_brought readers (sources_due (froms_read readers) wires node number total) (word, own)
          ≡ word_made (sendings_at plant wires moments) node number (word, own)
      word-tied total low high =
          ap (word_from readers own) (due-at (froms_read readers) wires node number total word low high)
          ∙ by-found (find (feeds node number word) wires) refl
          ∙ ap (brought word own) (sym (find-sending (feeds node number word) wires))

    -- ---- a row

    words-tied : (node number total k : ℕ) (words : List ℕ) → 1 ≤ k
        → k + length words ≤ total + 1
        → map (word_brought readers (sources_due (froms_read readers) wires node number total))
        (enumerate_from k words)
        ≡ map (word_made (sendings_at plant wires moments) node number) (enumerate_from k words)
    words-tied node number total k [] low high = refl
    words-tied node number total k (word ∷ words) low high =
        let here = word-tied node number k word total low (omega (arith, high)) in
        let rest = words-tied node number total (k + 1) words (omega (arith, low))
        (omega (arith, high)) in
        λ i. here i ∷ rest i

    pub row-tied : (node number : ℕ) (modules : List Module) (sources : List (Option Source))
        (own : ScriptRow)
        → sources ≡ sources_due (froms_read readers) wires node number (input_total modules)
        → fits_row modules own ≡ true
        → row_brought readers sources own
        ≡ row_made (sendings_at plant wires moments) node number own
    row-tied node number modules sources Silent is fits = refl
    row-tied node number modules sources (Row words) is fits =
        let long = eqb-true (length words) (input_total modules) fits in
        ap (λ (l : List (Option Source)). Row (map (word_brought readers l) (enumerate_from 1 words)))
        is
        ∙ ap Row (words-tied node number (input_total modules) 1 words (omega arith)
        (omega (arith, long)))
