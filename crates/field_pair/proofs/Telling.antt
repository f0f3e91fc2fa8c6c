-- Each field is told by one of the ways of a scan of both.
use Rattle.std.proofs.Common.{◌≡◌, ℕ, zero, suc, ◌+◌, ◌-◌, ◌*◌, ◌/◌, ◌%◌, ◌<◌, ◌≤◌, Bool, true}
use Rattle.std.proofs.Common.{false}
use Rattle.std.proofs.Common.{◌==◌, List, [], ◌∷◌, ◌++◌, Option, Some, None, refl, sym, ap, ◌∙◌}
use Rattle.std.proofs.Common.{subst}
use Rattle.std.proofs.Common.{arith, map, drop}
use Rattle.std.specs.Prelude.{◌||◌, if◌then◌else◌, slice_get, unwrap_or}
use Rattle.std.specs.List.{cons_option, filter_map, list_any}
use Rattle.std.proofs.lemmas.Bool.{eqb-true, eq-eqb}
use Rattle.plant_types.specs.declared.drops.IoDrop.{IoDrop}
use Rattle.plant_types.specs.declared.plan.ControllerPlan.{ControllerPlan}
use Rattle.plant_types.specs.declared.plan.OrderRow.{OrderRow}
use Rattle.scan_order.specs.declared.due.ScanStep.{ScanStep}
use Rattle.scan_order.specs.declared.due.ScanStep.TheVariants as steps
use Rattle.scan_order.specs.Due.{full_scan, input_of, output_of, row_of, row_steps, rows_from}
use Rattle.scan_order.specs.Due.{step_with}
use Rattle.scan_order.proofs.Rows.{rows_from-end, rows_from-row}
use Rattle.controller_core.specs.declared.fixed.Fixed.{Fixed}
use Rattle.field_runs.specs.Played.{reads_drop}
use Rattle.field_machine.specs.declared.exchanges.Exchange.{Exchange}
use Rattle.field_machine.specs.Choices.{choices_for}
use Rattle.field_machine.specs.Exchanges.{row_to}
use Rattle.field_machine.proofs.Ways.{drop-next, drop-none}
use Rattle.side_runs.specs.Brought.{behind_exchange, NamesRows, next_row, rows_told, ScanField}
use Rattle.side_runs.specs.Laws.{TellBoth}
use Rattle.side_runs.proofs.Counting.{one_where, reads}
use Rattle.field_pair.specs.Choices.{brought_by, choice_for, choices_of_both, ways_of}
use Rattle.field_pair.specs.Exchanged.{beyond, drops_read, field_of, read_by_both, without}
use Rattle.field_pair.proofs.Taking.{brought-rows, field-named}
use Rattle.field_pair.proofs.Scans.{digits-below, high-digits, low-digit}

-- ---- how often a drop is read

abbrev pub tally : ℕ → List ℕ → ℕ
tally d [] = 0
tally d (x ∷ xs) = one_where (x == d) + tally d xs

tally-append : (d : ℕ) (xs ys : List ℕ) → tally d (xs ++ ys) ≡ tally d xs + tally d ys
tally-append d [] ys = omega arith
tally-append d (x ∷ xs) ys = let more = tally-append d xs ys in omega (arith, more)

reads-append : (plan : ControllerPlan) (d : ℕ) (xs ys : List ScanStep)
    → reads plan d (xs ++ ys) ≡ reads plan d xs + reads plan d ys
reads-append plan d [] ys = omega arith
reads-append plan d (x ∷ xs) ys = let more = reads-append plan d xs ys in omega (arith, more)

outs-read : (plan : ControllerPlan) (d r : ℕ) (output : Option ℕ)
    → reads plan d (step_with output (steps.Out r)) ≡ 0
outs-read plan d r None = refl
outs-read plan d r (Some x) = refl

-- what a row reads
abbrev read_in : Option ℕ → ℕ → ℕ
read_in None d = 0
read_in (Some x) d = one_where (x == d)

ins-read : (plan : ControllerPlan) (d r : ℕ) (input : Option ℕ) → input_of (row_of plan r) ≡ input
    → reads plan d (step_with input (steps.In r)) ≡ read_in input d
ins-read plan d r None is = refl
ins-read plan d r (Some x) is =
    let here : reads_drop (input_of (row_of plan r)) d ≡ (x == d) =
    ap (λ (o : Option ℕ). reads_drop o d) is in
    let none : one_where (x == d) + 0 ≡ one_where (x == d) = omega arith in
    ap (λ b. one_where b + 0) here ∙ none

row-reads : (plan : ControllerPlan) (d r : ℕ)
    → reads plan d (row_steps plan r) ≡ read_in (input_of (row_of plan r)) d
row-reads plan d r =
    let input = input_of (row_of plan r) in
    let output = output_of (row_of plan r) in
    let both = reads-append plan d (step_with input (steps.In r))
    (steps.Solve r ∷ step_with output (steps.Out r)) in
    let ins = ins-read plan d r input refl in
    let outs = outs-read plan d r output in
    omega (arith, both, ins, outs)

cons-tally : (d : ℕ) (o : Option ℕ) (xs : List ℕ)
    → tally d (cons_option o xs) ≡ read_in o d + tally d xs
cons-tally d None xs = omega arith
cons-tally d (Some x) xs = refl

rows-read : (plan : ControllerPlan) (d : ℕ) (rest : List OrderRow) (i : ℕ)
    → drop i plan.orders ≡ rest
    → reads plan d (rows_from plan (i + 1)) ≡ tally d (filter_map (λ (row : OrderRow). row.input)
    rest)
rows-read plan d [] i is =
    let past = drop-none i plan.orders is in
    ap (reads plan d) (rows_from-end plan (i + 1) (omega (arith, past)))
rows-read plan d (row ∷ rest) i is =
    let next = drop-next i plan.orders row rest is in
    let within = next.1.1 in
    let back : i + 1 - 1 ≡ i = omega arith in
    let up : suc i ≡ i + 1 = omega arith in
    let here : row_of plan (i + 1) ≡ Some row = ap (slice_get plan.orders) back ∙ next.0 in
    let input : read_in (input_of (row_of plan (i + 1))) d ≡ read_in row.input d =
    ap (λ (o : Option OrderRow). read_in (input_of o) d) here in
    let all = ap (reads plan d) (rows_from-row plan (i + 1) (omega (arith, within))) in
    let both = reads-append plan d (row_steps plan (i + 1)) (rows_from plan (i + 1 + 1)) in
    let first = row-reads plan d (i + 1) in
    let more = rows-read plan d rest (i + 1)
    (ap (λ n. drop n plan.orders) (sym up) ∙ next.1.0) in
    let cons = cons-tally d row.input (filter_map (λ (r : OrderRow). r.input) rest) in
    omega (arith, all, both, first, input, more, cons)

scan-read : (plan : ControllerPlan) (d : ℕ)
    → reads plan d (full_scan plan) ≡ tally d (drops_read plan)
scan-read plan d =
    let rows = rows-read plan d plan.orders 0 refl in omega (arith, rows)

-- ---- those of one and those beyond them

without-tally : (d x : ℕ) (ys : List ℕ) → list_any (λ other. x == other) ys ≡ true
    → one_where (x == d) + tally d (without x ys) ≡ tally d ys
without-tally d x [] is = absurd (let no' : false ≡ true = is in cc)
without-tally d x (y ∷ ys) is = by (x == y) refl is (without-tally d x ys)
  where
    by : (b : Bool) → (x == y) ≡ b → (b || list_any (λ other. x == other) ys) ≡ true
        → (list_any (λ other. x == other) ys ≡ true
        → one_where (x == d) + tally d (without x ys) ≡ tally d ys)
        → one_where (x == d) + tally d (if b then ys else y ∷ without x ys)
        ≡ one_where (y == d) + tally d ys
    by true same is' more = ap (λ k. one_where (k == d) + tally d ys) (eqb-true x y same)
    by false same is' more = let rest = more is' in omega (arith, rest)

beyond-tally : (d : ℕ) (xs ys : List ℕ) → tally d xs ≤ tally d (beyond xs ys) + tally d ys
beyond-tally d [] ys = omega arith
beyond-tally d (x ∷ xs) ys =
    by (list_any (λ other. x == other) ys) refl (beyond-tally d xs (without x ys))
    (beyond-tally d xs ys)
  where
    by : (b : Bool) → list_any (λ other. x == other) ys ≡ b
        → tally d xs ≤ tally d (beyond xs (without x ys)) + tally d (without x ys)
        → tally d xs ≤ tally d (beyond xs ys) + tally d ys
        → one_where (x == d) + tally d xs
        ≤ tally d (if b then beyond xs (without x ys) else x ∷ beyond xs ys) + tally d ys
    by true is taken kept =
        let one = without-tally d x ys is in
        omega (arith, one, taken)
    by false is taken kept = omega (arith, kept)

old-tally : (old new : ControllerPlan) (d : ℕ)
    → tally d (drops_read old) ≤ tally d (read_by_both old new)
old-tally old new d =
    let all = tally-append d (drops_read old) (beyond (drops_read new) (drops_read old)) in
    omega (arith, all)

new-tally : (old new : ControllerPlan) (d : ℕ)
    → tally d (drops_read new) ≤ tally d (read_by_both old new)
new-tally old new d =
    let all = tally-append d (drops_read old) (beyond (drops_read new) (drops_read old)) in
    let more = beyond-tally d (drops_read new) (drops_read old) in
    omega (arith, all, more)

-- ---- fields that bring the same as often as they are read

told-by : (input : Option ℕ) (one other : ScanField) (rows rows' : List ℕ)
    → next_row input one ≡ next_row input other → rows ≡ rows'
    → (next_row input one ∷ rows) ≡ (next_row input other ∷ rows')
told-by input one other rows rows' first rest = λ i. first i ∷ rest i

next-same : (input : Option ℕ) (one other : ScanField)
    → ((d : ℕ) → 0 < one_where (reads_drop input d) → one d 0 ≡ other d 0)
    → next_row input one ≡ next_row input other
next-same None one other same = refl
next-same (Some x) one other same =
    let own : (x == x) ≡ true = eq-eqb x x refl in
    same x (subst (λ b. 0 < one_where b) (sym own) (omega arith))

behind-same : (input : Option ℕ) (one other : ScanField) (many d nth : ℕ)
    → ((k : ℕ) → k < one_where (reads_drop input d) + many → one d k ≡ other d k) → nth < many
    → behind_exchange input one d nth ≡ behind_exchange input other d nth
behind-same None one other many d nth same low = same nth (omega (arith, low))
behind-same (Some x) one other many d nth same low = by (x == d) same
  where
    by : (b : Bool) → ((k : ℕ) → k < one_where b + many → one d k ≡ other d k)
        → one d (if b then nth + 1 else nth) ≡ other d (if b then nth + 1 else nth)
    by true same' = same' (nth + 1) (omega (arith, low))
    by false same' = same' nth (omega (arith, low))

module _ (plan : ControllerPlan) where
  -- two fields bring the same as often as these steps read
  abbrev SameIn : List ScanStep → ScanField → ScanField → Type 0
  SameIn due one other = (d nth : ℕ) → nth < reads plan d due → one d nth ≡ other d nth

  fields-same : (due : List ScanStep) (one other : ScanField) → SameIn due one other
      → rows_told plan due one ≡ rows_told plan due other
  fields-same [] one other same = refl
  fields-same (steps.Begin ∷ due) one other same =
      fields-same due one other (λ d nth low. same d nth (omega (arith, low)))
  fields-same (steps.In row ∷ due) one other same =
      let input = input_of (row_of plan row) in
      told-by input one other (rows_told plan due (behind_exchange input one))
      (rows_told plan due (behind_exchange input other))
      (next-same input one other (λ d low. same d 0 (omega (arith, low))))
      (fields-same due (behind_exchange input one) (behind_exchange input other)
      (λ d nth low. behind-same input one other (reads plan d due) d nth (same d) low))
  fields-same (steps.Solve row ∷ due) one other same =
      fields-same due one other (λ d nth low. same d nth (omega (arith, low)))
  fields-same (steps.Out row ∷ due) one other same =
      fields-same due one other (λ d nth low. same d nth (omega (arith, low)))
  fields-same (steps.End ∷ due) one other same =
      fields-same due one other (λ d nth low. same d nth (omega (arith, low)))
  fields-same (steps.Fail ∷ due) one other same =
      fields-same due one other (λ d nth low. same d nth (omega (arith, low)))
  fields-same (steps.Dark ∷ due) one other same =
      fields-same due one other (λ d nth low. same d nth (omega (arith, low)))

-- ---- the exchanges of a field

picked : List ℕ → ScanField → List Exchange
picked [] field = []
picked (d ∷ drops) field =
    record { drop = d; row = field d 0 } ∷ picked drops (behind_exchange (Some d) field)

abbrev rows_of : ℕ → List Exchange → List ℕ
rows_of d exchanges = filter_map (row_to d) exchanges

picked-by : (x d nth : ℕ) (rest : List Exchange) (field : ScanField) (many : ℕ) (b : Bool)
    → (x == d) ≡ b → nth < one_where b + many
    → ((k : ℕ) → k < many
    → unwrap_or (slice_get (rows_of d rest) k) 1 ≡ field d (if b then k + 1 else k))
    → unwrap_or (slice_get (cons_option (if b then Some (field x 0) else None) (rows_of d rest))
    nth) 1
    ≡ field d nth
picked-by x d zero rest field many true is low more = ap (λ k. field k 0) (eqb-true x d is)
picked-by x d (suc nth) rest field many true is low more =
    let up : nth + 1 ≡ suc nth = omega arith in
    more nth (omega (arith, low)) ∙ ap (field d) up
picked-by x d nth rest field many false is low more = more nth (omega (arith, low))

picked-field : (drops : List ℕ) (field : ScanField) (d nth : ℕ) → nth < tally d drops
    → field_of (picked drops field) d nth ≡ field d nth
unfolding picked
picked-field [] field d nth low = absurd (omega (arith, low))
picked-field (x ∷ drops) field d nth low =
    picked-by x d nth (picked drops (behind_exchange (Some x) field)) field (tally d drops) (x == d)
    refl low (λ k few. picked-field drops (behind_exchange (Some x) field) d k few)

-- the way that brings them
record IsWayOf (drops : List IoDrop) (read : List ℕ) (field : ScanField) : Type 0 where
  way : ℕ
  below : way < ways_of (map (choice_for drops) read)
  brings : brought_by (map (choice_for drops) read) way ≡ picked read field

exchange-same : (d x y : ℕ) (xs ys : List Exchange) → x ≡ y → xs ≡ ys
    → (record { drop = d; row = x } ∷ xs) ≡ (record { drop = d; row = y } ∷ ys)
exchange-same d x y xs ys one rest = λ i. record { drop = d; row = one i } ∷ rest i

way-of : (drops : List IoDrop) (read : List ℕ) (field : ScanField) → NamesRows drops field
    → IsWayOf drops read field
unfolding picked
way-of drops [] field named = record { way = 0; below = omega arith; brings = refl }
way-of drops (d ∷ read) field named =
    let rest = way-of drops read (behind_exchange (Some d) field)
    (λ e nth. named e (if d == e then nth + 1 else nth)) in
    let many = choices_for drops (Some d) in
    let from = (named d 0).0 in
    let to = (named d 0).1 in
    let low : field d 0 - 1 < many = omega (arith, from, to) in
    let way = field d 0 - 1 + many * rest.way in
    let digit : way % many + 1 ≡ field d 0 =
    ap (λ n. n + 1) (low-digit (field d 0 - 1) many rest.way low) ∙ omega (arith, from) in
    record {
      way = way;
      below = digits-below (field d 0 - 1) many rest.way (ways_of (map (choice_for drops) read)) low
          rest.below;
      brings = exchange-same d (way % many + 1) (field d 0)
          (brought_by (map (choice_for drops) read) (way / many))
          (picked read (behind_exchange (Some d) field)) digit
          (ap (brought_by (map (choice_for drops) read))
          (high-digits (field d 0 - 1) many rest.way low)
          ∙ rest.brings);
    }

-- ---- what a machine owes

pub tell-both : (old new : Fixed) (count : ℕ) → count ≡ ways_of (choices_of_both old.plan new.plan)
    → TellBoth old new (λ by. field_of (brought_by (choices_of_both old.plan new.plan) by)) count
tell-both old new count is = record {
  named = λ by low.
      field-named old.plan.drops (brought_by (choices_of_both old.plan new.plan) by)
      (brought-rows old.plan.drops (read_by_both old.plan new.plan) by);
  all = λ field named.
      let read = read_by_both old.plan new.plan in
      let one = way-of old.plan.drops read field named in
      let same = λ (d nth : ℕ) (low : nth < tally d read).
      ap (λ (l : List Exchange). field_of l d nth) one.brings ∙ picked-field read field d nth low
      in (
        one.way,
        (
          subst (λ n. one.way < n) (sym is) one.below,
          (
            fields-same old.plan (full_scan old.plan) _ field
                (λ d nth low.
                let many = scan-read old.plan d in
                let enough = old-tally old.plan new.plan d in
                same d nth (omega (arith, low, many, enough))),
            fields-same new.plan (full_scan new.plan) _ field
                (λ d nth low.
                let many = scan-read new.plan d in
                let enough = new-tally old.plan new.plan d in
                same d nth (omega (arith, low, many, enough))),
          ),
        ),
      );
}
