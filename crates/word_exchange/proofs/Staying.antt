-- Rows that are there stay as moments go on, and which rows come to them.
use Rattle.std.proofs.Common.{◌≡◌, ◌<◌, ◌≤◌, ℕ, zero, suc, ◌+◌, ◌-◌, Bool, true, false, List, []}
use Rattle.std.proofs.Common.{◌∷◌}
use Rattle.std.proofs.Common.{◌++◌, length, map, take, fold, Option, Some, None, refl, sym, ap, ◌∙◌}
use Rattle.std.proofs.Common.{arith, length-append, max}
use Rattle.std.specs.Prelude.{cond, nat_le, not, ◌||◌, slice_index}
use Rattle.std.specs.List.{enumerate_from, list_any, position_or_len}
use Rattle.std.specs.List.{range_with_len}
use Rattle.std.proofs.lemmas.Bool.{le-leb, leb-false, lt-leb}
use Rattle.std.proofs.lemmas.List.{map-append, take-append-le}
use Rattle.std.proofs.lemmas.List.Sums.{fold-append}
use Rattle.std.proofs.Math.Seq.{take-length}
use Rattle.plant_types.specs.declared.drops.IoDrop.{IoDrop}
use Rattle.plant_types.specs.declared.drops.ScriptRow.{ScriptRow}
use Rattle.plant_types.specs.declared.drops.ScriptRow.TheVariants.{Silent, Row}
use Rattle.plant_types.specs.declared.plan.ControllerPlan.{ControllerPlan}
use Rattle.plant_types.specs.declared.plan.Plant.{Plant}
use Rattle.joint_history.specs.declared.joint.Joint.{Joint}
use Rattle.peer_cop.specs.declared.wire.Wire.{Wire}
use Rattle.peer_cop.specs.Plants.{drop_of, plan_of}
use Rattle.word_exchange.specs.declared.sending.Sending.{Sending}
use Rattle.word_exchange.specs.Exchange.{made_at, row_due, row_now, row_total, rows_before}
use Rattle.word_exchange.specs.Exchange.{script_due, RowsStay}
use Rattle.word_exchange.specs.Rows.{brought, feeds, own_row, row_made, word_by, word_made}
use Rattle.word_exchange.specs.Sendings.{sending_of, sendings_at, words_if}
use Rattle.word_exchange.specs.Words.{last_passed, words_sent}

-- ---- the first place that passes

-- one that passes is there
there-by : (b any : Bool) (rest more long : ℕ) → (b || any) ≡ true
    → (any ≡ true → (more ≡ rest) × (rest < long))
    → (cond (not b) (1 + more) 0 ≡ cond (not b) (1 + rest) 0)
    × (cond (not b) (1 + rest) 0 < suc long)
there-by true any rest more long is later = (refl, omega arith)
there-by false any rest more long is later =
    let it = later is in (ap (λ n. 1 + n) it.0, let low = it.1 in omega (arith, low))

first-there : {X : Type 0} (p : X → Bool) (xs ys : List X) → list_any p xs ≡ true
    → (position_or_len p (xs ++ ys) ≡ position_or_len p xs) × (position_or_len p xs < length xs)
first-there p [] ys is = absurd cc
first-there p (x ∷ xs) ys is =
    there-by (p x) (list_any p xs) (position_or_len p xs) (position_or_len p (xs ++ ys)) (length xs)
    is (first-there p xs ys)

-- the one after them passes
new-by : (b any : Bool) (more long : ℕ) → (b || any) ≡ false → (any ≡ false → more ≡ long)
    → cond (not b) (1 + more) 0 ≡ suc long
new-by true any more long is later = absurd cc
new-by false any more long is later = let it = later is in omega (arith, it)

last-by : (b : Bool) → b ≡ true → ◌≡◌ {A = ℕ} (cond (not b) 1 0) 0
last-by true is = refl
last-by false is = absurd cc

first-new : {X : Type 0} (p : X → Bool) (xs : List X) (y : X) → list_any p xs ≡ false → p y ≡ true
    → position_or_len p (xs ++ y ∷ []) ≡ length xs
first-new p [] y none is = last-by (p y) is
first-new p (x ∷ xs) y none is =
    new-by (p x) (list_any p xs) (position_or_len p (xs ++ y ∷ [])) (length xs) none
    (λ rest. first-new p xs y rest is)

-- ---- the most of a list

module _ {X : Type 0} (f : X → ℕ) where
  abbrev most : ℕ → List X → ℕ
  most a xs = fold (λ (m : ℕ) (x : X). max m (f x)) a xs

  pub most-least : (a : ℕ) (xs : List X) → a ≤ most a xs
  most-least a [] = omega arith
  most-least a (x ∷ xs) = let more = most-least (max a (f x)) xs in omega (arith, more)

  some-step : (b any : Bool) → (b ≡ false → any ≡ true) → (b || any) ≡ true
  some-step true any more = refl
  some-step false any more = more refl

  some-most : (r a : ℕ) (xs : List X) → a < r → r ≤ most a xs
      → list_any (λ (x : X). nat_le r (f x)) xs ≡ true
  some-most r a [] low high = absurd (omega (arith, low, high))
  some-most r a (x ∷ xs) low high =
      some-step (nat_le r (f x)) (list_any (λ (y : X). nat_le r (f y)) xs)
      (λ is. some-most r (max a (f x)) xs (let less = leb-false r (f x) is in omega arith) high)

  none-most : (r a : ℕ) (xs : List X) → most a xs < r
      → list_any (λ (x : X). nat_le r (f x)) xs ≡ false
  none-most r a [] high = refl
  none-most r a (x ∷ xs) high =
      let least = most-least (max a (f x)) xs in
      let here : nat_le r (f x) ≡ false = lt-leb r (f x) (omega (arith, least, high)) in
      ap (λ (b : Bool). b || list_any (λ (y : X). nat_le r (f y)) xs) here
      ∙ none-most r (max a (f x)) xs high

-- ---- ranges

range-split : (a m n k b : ℕ) → k ≡ m + n → b ≡ a + m
    → range_with_len a k ≡ range_with_len a m ++ range_with_len b n
range-split a zero n k b is from =
    let same : k ≡ n = omega arith in
    let start : b ≡ a = omega arith in
    λ i. range_with_len (sym start i) (same i)
range-split a (suc m) n zero b is from = absurd (omega arith)
range-split a (suc m) n (suc k) b is from =
    ap (λ (l : List ℕ). a ∷ l) (range-split (a + 1) m n k b (omega arith) (omega arith))

map-range : {X : Type 0} (f g : ℕ → X) (a n : ℕ)
    → ((r : ℕ) → a ≤ r → r < a + n → f r ≡ g r)
    → map f (range_with_len a n) ≡ map g (range_with_len a n)
map-range f g a zero each = refl
map-range f g a (suc n) each =
    let here = each a (omega arith) (omega arith) in
    let rest = map-range f g (a + 1) n (λ r low high. each r (omega arith) (omega arith)) in
    λ i. here i ∷ rest i

-- ---- a row that is made at the start

module _ (plant : Plant) (joint : Joint) where
  pub sent-if : (o : Option ControllerPlan) (d : Option IoDrop)
      → words_if words_sent o d (joint ∷ []) ≡ words_if words_sent o d []
  unfolding last_passed
  sent-if None None = refl
  sent-if None (Some d) = refl
  sent-if (Some plan) None = refl
  sent-if (Some plan) (Some d) = refl

  by-start : (word : ℕ) (wire : Wire) → word_by word (sending_of plant (joint ∷ []) wire)
      ≡ word_by word (sending_of plant [] wire)
  by-start word wire = ap (λ (l : List ℕ). slice_index l (wire.from_word + (word - wire.word) - 1))
      (sent-if (plan_of plant wire.from) (drop_of plant wire.from wire.from_drop))

  pick-start : (b : Bool) (word own : ℕ) (wire : Wire) (one other : Option Sending)
      → brought word own one ≡ brought word own other
      → brought word own (cond b (Some (sending_of plant (joint ∷ []) wire)) one)
      ≡ brought word own (cond b (Some (sending_of plant [] wire)) other)
  pick-start true word own wire one other same = by-start word wire
  pick-start false word own wire one other same = same

  word-start : (wires : List Wire) (node number : ℕ) (at : ℕ × ℕ)
      → word_made (sendings_at plant wires (joint ∷ [])) node number at
      ≡ word_made (sendings_at plant wires []) node number at
  word-start [] node number at = refl
  word-start (wire ∷ wires) node number at =
      pick-start (feeds node number at.0 wire) at.0 at.1 wire _ _
      (word-start wires node number at)

  words-start : (wires : List Wire) (node number k : ℕ) (words : List ℕ)
      → map (word_made (sendings_at plant wires (joint ∷ [])) node number) (enumerate_from k words)
      ≡ map (word_made (sendings_at plant wires []) node number) (enumerate_from k words)
  words-start wires node number k [] = refl
  words-start wires node number k (word ∷ words) =
      let here = word-start wires node number (k, word) in
      let rest = words-start wires node number (k + 1) words in
      λ i. here i ∷ rest i

  row-start : (wires : List Wire) (node number : ℕ) (own : ScriptRow)
      → row_made (sendings_at plant wires (joint ∷ [])) node number own
      ≡ row_made (sendings_at plant wires []) node number own
  row-start wires node number Silent = refl
  row-start wires node number (Row words) = ap Row (words-start wires node number 1 words)

-- ---- rows that are there, and rows that come

module _ (plant : Plant) (wires : List Wire) (plan : ControllerPlan) (drop : IoDrop) where
  abbrev rows_at : Joint → ℕ
  rows_at joint = rows_before plan drop.number joint

  abbrev test : ℕ → Joint → Bool
  test r joint = nat_le r (rows_at joint)

  abbrev total : List Joint → ℕ
  total moments = row_total plan drop.number moments

  abbrev made_with : List Joint → ℕ → ScriptRow
  made_with moments r =
      row_made (sendings_at plant wires moments) plan.node drop.number (own_row drop r)

  any-there : (m : Joint) (moments : List Joint) (r : ℕ) → r ≤ total (m ∷ moments)
      → list_any (test r) (m ∷ moments) ≡ true
  any-there m moments r high =
      some-step rows_at (test r m) (list_any (test r) moments)
      (λ is. some-most rows_at r (max 1 (rows_at m)) moments
      (let less = leb-false r (rows_at m) is in omega arith) high)

  stays : (moments : List Joint) (joint : Joint) (r : ℕ) → 1 ≤ r → r ≤ total moments
      → row_due plant wires plan drop (moments ++ joint ∷ []) r
      ≡ row_due plant wires plan drop moments r
  stays [] joint r low high =
      let passes : test r joint ≡ true = le-leb r (rows_at joint) (omega arith) in
      let place : made_at plan drop.number (joint ∷ []) r ≡ 0 = last-by (test r joint) passes in
      ap (λ n. made_with (take (suc n) (joint ∷ [])) r) place
      ∙ row-start plant joint wires plan.node drop.number (own_row drop r)
  stays (m ∷ moments) joint r low high =
      let it = first-there (test r) (m ∷ moments) (joint ∷ []) (any-there m moments r high) in
      let within = it.1 in
      ap (λ n. made_with (take (suc n) ((m ∷ moments) ++ joint ∷ [])) r) it.0
      ∙ ap (λ (l : List Joint). made_with l r)
      (take-append-le (suc (position_or_len (test r) (m ∷ moments))) (m ∷ moments) (joint ∷ [])
      (omega (arith, within)))

  comes : (moments : List Joint) (joint : Joint) (r : ℕ) → total moments < r
      → r ≤ total (moments ++ joint ∷ [])
      → row_due plant wires plan drop (moments ++ joint ∷ []) r
      ≡ row_now plant wires plan drop (moments ++ joint ∷ []) r
  comes moments joint r low high =
      let grown : total (moments ++ joint ∷ []) ≡ max (total moments) (rows_at joint) =
      fold-append (λ (m : ℕ) (x : Joint). max m (rows_at x)) 1 moments (joint ∷ []) in
      let passes : test r joint ≡ true = le-leb r (rows_at joint) (omega (arith, grown)) in
      let place = first-new (test r) moments joint (none-most rows_at r 1 moments low) passes in
      let long = length-append moments (joint ∷ []) in
      let all : suc (length moments) ≡ length (moments ++ joint ∷ []) = omega (arith, long) in
      ap (λ n. made_with (take (suc n) (moments ++ joint ∷ [])) r) place
      ∙ ap (λ n. made_with (take n (moments ++ joint ∷ [])) r) all
      ∙ ap (λ (l : List Joint). made_with l r) (take-length (moments ++ joint ∷ []))

  script-more : (moments : List Joint) (joint : Joint)
      → script_due plant wires plan drop (moments ++ joint ∷ [])
      ≡ script_due plant wires plan drop moments
      ++ map (row_now plant wires plan drop (moments ++ joint ∷ []))
      (range_with_len (suc (total moments)) (total (moments ++ joint ∷ []) - total moments))
  script-more moments joint =
      let later = moments ++ joint ∷ [] in
      let grown : total later ≡ max (total moments) (rows_at joint) =
      fold-append (λ (m : ℕ) (x : Joint). max m (rows_at x)) 1 moments (joint ∷ []) in
      let news = total later - total moments in
      let split = range-split 1 (total moments) news (total later) (suc (total moments))
      (omega (arith, grown)) (omega arith) in
      let due = row_due plant wires plan drop later in
      ap (map due) split
      ∙ map-append due (range_with_len 1 (total moments))
      (range_with_len (suc (total moments)) news)
      ∙ (λ i. map-range due (row_due plant wires plan drop moments) 1 (total moments)
      (λ r low high. stays moments joint r low (omega arith)) i
      ++ map-range due (row_now plant wires plan drop later) (suc (total moments)) news
      (λ r low high. comes moments joint r (omega arith) (omega (arith, grown))) i)

pub rows-stay : RowsStay
rows-stay plant wires plan drop moments joint =
    script-more plant wires plan drop moments joint
