-- The transmissions of a primary, one after another and row by row.
use Rattle.std.proofs.Common.{◌≡◌, ◌≢◌, ℕ, zero, suc, ◌+◌, ◌-◌, ◌*◌, ◌<◌, ◌≤◌, ◌==◌, ◌&&◌, max}
use Rattle.std.proofs.Common.{Bool, true, false, cond, List, [], ◌∷◌, ◌++◌, map, nat_le, refl, sym}
use Rattle.std.proofs.Common.{ap, ◌∙◌, arith, below_more}
use Rattle.std.specs.Prelude.{filter, if◌then◌else◌}
use Rattle.std.specs.List.{count_by, range_with_len}
use Rattle.std.proofs.Math.Bool.{and-false}
use Rattle.std.proofs.lemmas.Bool.{eq-eqb, le-leb, lt-leb, leb-false, ne_eqb}
use Rattle.std.proofs.lemmas.List.{map_push}
use Rattle.std.proofs.lemmas.List.Sums.{fold-append}
use Rattle.plant_types.specs.declared.net.Fate.{Fate}
use Rattle.plant_types.specs.declared.net.Fate.TheVariants as fates
use Rattle.standby_pair.specs.Sending.{Sending, acknowledged, acknowledged_behind, arrived}
use Rattle.standby_pair.specs.Sending.{is_told, last_number, sending, sendings, sent_behind, told_of}
use Rattle.ring_core.specs.Machine.{fate_at, fate_reaches}
use Rattle.standby_pair.specs.Kept.{first_arrived, first_sendings, held_of, known_of}
use Rattle.standby_pair.proofs.Firsts.{count-more, filter-all, filter-both, filter-front, filter-no}
use Rattle.standby_pair.proofs.Firsts.{filter-none, filter-yes, firsts, firsts-more, range-more}

-- The last of some numbers and one more.
pub last-push : (numbers : List ℕ) (number : ℕ) → last_number (numbers ++ number ∷ []) ≡ number
last-push numbers number = fold-append (λ before number. number) 0 numbers (number ∷ [])

told-reaches : (fate : Fate) → is_told fate ≡ true → fate_reaches fate ≡ true
told-reaches fates.D is = refl
told-reaches fates.L is = absurd cc
told-reaches fates.A is = absurd cc

module _ (letters : List Fate) where
  abbrev fate : ℕ → Fate
  fate many = fate_at letters many

  abbrev told : ℕ → ℕ
  told many = told_of letters many

  abbrev behind : ℕ → ℕ
  behind many = sent_behind letters many

  -- ---- one transmission more

  told-more : (many : ℕ) → told (suc many) ≡ told many + cond (is_told (fate many)) 1 0
  told-more many =
      ap (count_by is_told) (firsts-more fate many)
      ∙ count-more is_told (firsts fate many) (fate many)

  pub told-yes : (many : ℕ) → is_told (fate many) ≡ true → told (suc many) ≡ told many + 1
  told-yes many is = told-more many ∙ ap (λ (b : Bool). told many + cond b 1 0) is

  pub told-no : (many : ℕ) → is_told (fate many) ≡ false → told (suc many) ≡ told many
  told-no many is =
      told-more many ∙ ap (λ (b : Bool). told many + cond b 1 0) is ∙ omega arith

  behind-more : (many : ℕ) → behind (suc many)
      ≡ max (told (suc many) + 1) (if is_told (fate many) then behind many else behind many + 1)
  unfolding sent_behind
  behind-more many = refl

  behind-yes : (many : ℕ) → is_told (fate many) ≡ true
      → behind (suc many) ≡ max (told many + 1 + 1) (behind many)
  behind-yes many is =
      behind-more many
      ∙ ap (λ (n : ℕ). max (n + 1) (if is_told (fate many) then behind many else behind many + 1))
      (told-yes many is)
      ∙ ap (λ (b : Bool). max (told many + 1 + 1) (if b then behind many else behind many + 1)) is

  behind-no : (many : ℕ) → is_told (fate many) ≡ false
      → behind (suc many) ≡ max (told many + 1) (behind many + 1)
  behind-no many is =
      behind-more many
      ∙ ap (λ (n : ℕ). max (n + 1) (if is_told (fate many) then behind many else behind many + 1))
      (told-no many is)
      ∙ ap (λ (b : Bool). max (told many + 1) (if b then behind many else behind many + 1)) is

  behind-rises : (many : ℕ) → behind many ≤ behind (suc many)
  behind-rises many = by (is_told (fate many)) refl
    where
      by : (b : Bool) → is_told (fate many) ≡ b → behind many ≤ behind (suc many)
      by true is = omega (arith, behind-yes many is)
      by false is = omega (arith, behind-no many is)

  behind-from : (from more : ℕ) → behind from ≤ behind (from + more)
  behind-from from zero = omega (arith, ap behind (let e : from + 0 ≡ from = omega arith in e))
  behind-from from (suc more) =
      let e : from + suc more ≡ suc (from + more) = omega arith in
      omega (arith, ap behind e, behind-rises (from + more), behind-from from more)

  pub behind-later : (from place : ℕ) → from ≤ place → behind from ≤ behind place
  behind-later from place later =
      let e : from + (place - from) ≡ place = omega (arith, later) in
      omega (arith, ap behind e, behind-from from (place - from))

  -- ---- row by row

  -- so many were sent, the last of them behind a scan or before it
  pub record AtRow (scan many : ℕ) : Type 0 where
    pub behind_is : behind many ≡ max (told many + 1) scan
    pub before : (place : ℕ) → place < many → behind place ≤ scan
    pub most : told many ≤ scan
    pub few : many + 1 ≤ told many + scan

  -- all that goes out behind a scan was sent
  pub record RowOver (scan many : ℕ) : Type 0 where
    pub behind_is : behind many ≡ scan + 1
    pub before : (place : ℕ) → place < many → behind place ≤ scan
    pub most : told many ≤ scan
    pub few : many ≤ told many + scan

  pub row-none : RowOver 0 0
  unfolding sent_behind
  row-none = record {
    behind_is = refl;
    before = λ place below. absurd (omega (arith, below));
    most = omega arith;
    few = omega arith;
  }

  pub row-begins : (scan many : ℕ) → RowOver scan many → AtRow (suc scan) many
  row-begins scan many over = record {
    behind_is = omega (arith, over.behind_is, over.most);
    before = λ place below. omega (arith, over.before place below);
    most = omega (arith, over.most);
    few = omega (arith, over.few);
  }

  pub row-full : (scan many : ℕ) → AtRow scan many → scan ≤ told many → RowOver scan many
  row-full scan many at full = record {
    behind_is = omega (arith, at.behind_is, at.most, full);
    before = at.before;
    most = at.most;
    few = omega (arith, at.few);
  }

  pub in-row : (scan many : ℕ) → AtRow scan many → told many < scan → behind many ≡ scan
  in-row scan many at less = omega (arith, at.behind_is, less)

  one-before : (scan many : ℕ) → AtRow scan many → told many < scan → (place : ℕ)
      → place < suc many → behind place ≤ scan
  one-before scan many at less place below =
      below_more (λ (place : ℕ). behind place ≤ scan) many at.before
      (omega (arith, in-row scan many at less)) place (omega (arith, below))

  pub row-told : (scan many : ℕ) → AtRow scan many → told many < scan
      → is_told (fate many) ≡ true → AtRow scan (suc many)
  row-told scan many at less is =
      let more = told-yes many is in
      record {
        behind_is = omega (arith, behind-yes many is, in-row scan many at less, more);
        before = one-before scan many at less;
        most = omega (arith, more, less);
        few = omega (arith, more, at.few);
      }

  pub row-lost : (scan many : ℕ) → AtRow scan many → told many < scan
      → is_told (fate many) ≡ false → RowOver scan (suc many)
  row-lost scan many at less is =
      let same = told-no many is in
      record {
        behind_is = omega (arith, behind-no many is, in-row scan many at less, less);
        before = one-before scan many at less;
        most = omega (arith, same, less);
        few = omega (arith, same, at.few);
      }

  -- ---- what is acknowledged behind a scan

  abbrev one-at : ℕ → Sending
  one-at many = sending letters many

  abbrev tells : ℕ → Sending → Bool
  tells scan one = (one.behind == scan) && is_told one.fate

  other-row : (scan place : ℕ) → behind place ≢ scan → tells scan (one-at place) ≡ false
  other-row scan place other =
      ap (λ (b : Bool). b && is_told (fate place)) (ne_eqb (behind place) scan other)

  pub none-told : (scan many : ℕ) → RowOver scan many
      → filter (tells (suc scan)) (first_sendings letters many) ≡ []
  none-told scan many over =
      filter-none one-at (tells (suc scan)) many (λ place below.
      let no-later = over.before place below in
      other-row (suc scan) place (λ same. absurd (omega (arith, same, no-later))))

  pub one-told : (scan many : ℕ) → behind many ≡ scan → is_told (fate many) ≡ true
      → filter (tells scan) (first_sendings letters (suc many))
      ≡ filter (tells scan) (first_sendings letters many) ++ one-at many ∷ []
  one-told scan many here is =
      filter-yes one-at (tells scan) many
      (ap (λ (b : Bool). b && is_told (fate many)) (eq-eqb (behind many) scan here) ∙ is)

  pub one-lost : (scan many : ℕ) → is_told (fate many) ≡ false
      → filter (tells scan) (first_sendings letters (suc many))
      ≡ filter (tells scan) (first_sendings letters many)
  one-lost scan many is =
      filter-no one-at (tells scan) many
      (ap (λ (b : Bool). (behind many == scan) && b) is ∙ and-false (behind many == scan))

  -- the scans that are acknowledged behind a scan, of which so many were before
  abbrev scans-told : ℕ → ℕ → List ℕ
  scans-told scan many =
      map (λ (one : Sending). one.scan) (filter (tells scan) (first_sendings letters many))

  pub record ToldInRow (scan from many : ℕ) : Type 0 where
    pub more : told from ≤ told many
    pub scans : scans-told scan many
        ≡ range_with_len (told from + 1) (told many - told from)

  pub told-none : (scan from : ℕ) → RowOver scan from → ToldInRow (suc scan) from from
  told-none scan from over = record {
    more = omega arith;
    scans = ap (map (λ (one : Sending). one.scan)) (none-told scan from over)
        ∙ ap (range_with_len (told from + 1))
        (let e : 0 ≡ told from - told from = omega arith in e);
  }

  pub told-one : (scan from many : ℕ) → ToldInRow scan from many → behind many ≡ scan
      → is_told (fate many) ≡ true → ToldInRow scan from (suc many)
  told-one scan from many so here is =
      let more = told-yes many is in
      let count : told (suc many) - told from ≡ suc (told many - told from) =
      omega (arith, more, so.more) in
      let next : told from + 1 + (told many - told from) ≡ told many + 1 =
      omega (arith, so.more) in
      record {
        more = omega (arith, more, so.more);
        scans = ap (map (λ (one : Sending). one.scan)) (one-told scan many here is)
            ∙ map_push (λ (one : Sending). one.scan)
            (filter (tells scan) (first_sendings letters many)) (one-at many)
            ∙ ap (λ (l : List ℕ). l ++ (told many + 1) ∷ []) so.scans
            ∙ ap (λ (n : ℕ). range_with_len (told from + 1) (told many - told from) ++ n ∷ [])
            (sym next)
            ∙ sym (range-more (told from + 1) (told many - told from))
            ∙ ap (range_with_len (told from + 1)) (sym count);
      }

  pub told-same : (scan from many : ℕ) → ToldInRow scan from many
      → is_told (fate many) ≡ false → ToldInRow scan from (suc many)
  told-same scan from many so is =
      let same = told-no many is in
      record {
        more = omega (arith, same, so.more);
        scans = ap (map (λ (one : Sending). one.scan)) (one-lost scan many is)
            ∙ so.scans
            ∙ ap (λ (n : ℕ). range_with_len (told from + 1) (n - told from)) (sym same);
      }

  -- ---- all that is sent

  later-row : (scan many : ℕ) → RowOver scan many → (place : ℕ) → many ≤ place
      → scan < behind place
  later-row scan many over place later =
      omega (arith, over.behind_is, behind-later many place later)

  -- what is acknowledged behind a scan was sent by then
  pub told-behind : (scans scan many : ℕ) → RowOver scan many → scan ≤ scans
      → acknowledged_behind letters scans scan
      ≡ filter (tells scan) (first_sendings letters many)
  told-behind scans scan many over within =
      let all : 2 * scans ≡ many + (2 * scans - many) =
      omega (arith, over.few, over.most, within) in
      filter-both (tells scan) (λ (one : Sending). nat_le one.behind scans)
      (first_sendings letters (2 * scans)) (λ one late.
      let past : scans < one.behind = leb-false one.behind scans late in
      ap (λ (b : Bool). b && is_told one.fate)
      (ne_eqb one.behind scan (λ same. absurd (omega (arith, same, past, within)))))
      ∙ ap (λ (n : ℕ). filter (tells scan) (first_sendings letters n)) all
      ∙ filter-front one-at (tells scan) many (2 * scans - many) (λ place later.
      let past = later-row scan many over place later in
      other-row scan place (λ same. absurd (omega (arith, same, past))))

  pub all-sent : (scans many : ℕ) → RowOver scans many
      → sendings letters scans ≡ first_sendings letters many
  all-sent scans many over =
      let in-time : Sending → Bool = λ (one : Sending). nat_le one.behind scans in
      let all : 2 * scans ≡ many + (2 * scans - many) = omega (arith, over.few, over.most) in
      ap (λ (n : ℕ). filter in-time (first_sendings letters n)) all
      ∙ filter-front one-at in-time many (2 * scans - many)
      (λ place later. lt-leb (behind place) scans (later-row scans many over place later))
      ∙ filter-all one-at in-time many
      (λ place below. le-leb (behind place) scans (over.before place below))

  count-told : (many : ℕ)
      → count_by (λ (one : Sending). is_told one.fate) (first_sendings letters many) ≡ told many
  count-told zero = refl
  count-told (suc many) =
      ap (count_by (λ (one : Sending). is_told one.fate)) (firsts-more one-at many)
      ∙ count-more (λ (one : Sending). is_told one.fate) (firsts one-at many) (one-at many)
      ∙ ap (λ (n : ℕ). n + cond (is_told (fate many)) 1 0) (count-told many)
      ∙ sym (told-more many)

  pub acknowledged-is : (scans many : ℕ) → RowOver scans many
      → acknowledged letters scans ≡ told many
  acknowledged-is scans many over =
      ap (count_by (λ (one : Sending). is_told one.fate)) (all-sent scans many over)
      ∙ count-told many

  pub arrived-is : (scans many : ℕ) → RowOver scans many
      → arrived letters scans ≡ first_arrived letters many
  arrived-is scans many over =
      ap (filter (λ (one : Sending). fate_reaches one.fate)) (all-sent scans many over)

  -- ---- what the standby holds and knows

  abbrev reaching : Sending → Bool
  reaching one = fate_reaches one.fate

  pub held-yes : (many : ℕ) → fate_reaches (fate many) ≡ true
      → held_of letters (suc many) ≡ told many + 1
  held-yes many is =
      ap (λ (l : List Sending). last_number (map (λ (one : Sending). one.scan) l))
      (filter-yes one-at reaching many is)
      ∙ ap last_number (map_push (λ (one : Sending). one.scan) (first_arrived letters many)
      (one-at many))
      ∙ last-push (map (λ (one : Sending). one.scan) (first_arrived letters many)) (told many + 1)

  pub held-no : (many : ℕ) → fate_reaches (fate many) ≡ false
      → held_of letters (suc many) ≡ held_of letters many
  held-no many is =
      ap (λ (l : List Sending). last_number (map (λ (one : Sending). one.scan) l))
      (filter-no one-at reaching many is)

  pub known-yes : (many : ℕ) → fate_reaches (fate many) ≡ true
      → known_of letters (suc many) ≡ told many
  known-yes many is =
      ap (λ (l : List Sending). last_number (map (λ (one : Sending). one.acked) l))
      (filter-yes one-at reaching many is)
      ∙ ap last_number (map_push (λ (one : Sending). one.acked) (first_arrived letters many)
      (one-at many))
      ∙ last-push (map (λ (one : Sending). one.acked) (first_arrived letters many)) (told many)

  pub known-no : (many : ℕ) → fate_reaches (fate many) ≡ false
      → known_of letters (suc many) ≡ known_of letters many
  known-no many is =
      ap (λ (l : List Sending). last_number (map (λ (one : Sending). one.acked) l))
      (filter-no one-at reaching many is)

  -- it holds what was acknowledged, or one scan more, and knows of no more than that
  pub record HoldsTold (many : ℕ) : Type 0 where
    pub least : told many ≤ held_of letters many
    pub most : held_of letters many ≤ told many + 1
    pub knows : known_of letters many ≤ told many

  pub holds-none : HoldsTold 0
  holds-none = record { least = omega arith; most = omega arith; knows = omega arith }

  pub holds-more : (many : ℕ) → HoldsTold many → HoldsTold (suc many)
  holds-more many holds = by (fate many) refl
    where
      by : (f : Fate) → fate many ≡ f → HoldsTold (suc many)
      by fates.D is =
          let reach = held-yes many (ap fate_reaches is) in
          let knows = known-yes many (ap fate_reaches is) in
          let more = told-yes many (ap is_told is) in
          record {
            least = omega (arith, reach, more);
            most = omega (arith, reach, more);
            knows = omega (arith, knows, more);
          }
      by fates.L is =
          let reach = held-no many (ap fate_reaches is) in
          let knows = known-no many (ap fate_reaches is) in
          let more = told-no many (ap is_told is) in
          record {
            least = omega (arith, reach, more, holds.least);
            most = omega (arith, reach, more, holds.most);
            knows = omega (arith, knows, more, holds.knows);
          }
      by fates.A is =
          let reach = held-yes many (ap fate_reaches is) in
          let knows = known-yes many (ap fate_reaches is) in
          let more = told-no many (ap is_told is) in
          record {
            least = omega (arith, reach, more);
            most = omega (arith, reach, more);
            knows = omega (arith, knows, more);
          }

  -- ---- no scan is there before it is made

  told-before : (many : ℕ) → told many + 1 ≤ behind many
  unfolding sent_behind
  told-before zero = omega arith
  told-before (suc many) = omega (arith, behind-more many)

  pub held-made : (many scans : ℕ) → ((place : ℕ) → place < many → behind place ≤ scans)
      → held_of letters many ≤ scans
  held-made zero scans made = omega arith
  held-made (suc many) scans made =
      by (fate_reaches (fate many)) refl
      (held-made many scans (λ place below. made place (omega (arith, below))))
    where
      by : (b : Bool) → fate_reaches (fate many) ≡ b → held_of letters many ≤ scans
          → held_of letters (suc many) ≤ scans
      by true is before =
          let here = made many (omega arith) in
          omega (arith, held-yes many is, told-before many, here)
      by false is before = omega (arith, held-no many is, before)
