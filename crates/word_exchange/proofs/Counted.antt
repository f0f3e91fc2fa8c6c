-- The input exchanges that a controller counts are those that stand in its history.
use Rattle.std.proofs.Common.{◌≡◌, ◌≢◌, ◌<◌, ◌≤◌, ℕ, zero, suc, ◌+◌, ◌-◌, ◌==◌, Bool, true, false}
use Rattle.std.proofs.Common.{List, []}
use Rattle.std.proofs.Common.{◌∷◌, length, set, get_or, fold, replicate, Option, Some, None, refl}
use Rattle.std.proofs.Common.{sym}
use Rattle.std.proofs.Common.{ap, ◌∙◌, arith, length-set}
use Rattle.std.specs.Prelude.{cond, if◌then◌else◌}
use Rattle.std.specs.List.{count_by, slice_get, AllByRecursion}
use Rattle.std.proofs.lemmas.Bool.{eqb-true, eqb-false}
use Rattle.std.proofs.lemmas.List.{get_or-set_same}
use Rattle.std.proofs.lemmas.List.Sums.{sum_by-cons}
use Rattle.plant_types.specs.declared.drops.IoDrop.{IoDrop}
use Rattle.plant_types.specs.declared.network.Segment.{Segment}
use Rattle.plant_types.specs.declared.plan.ControllerPlan.{ControllerPlan}
use Rattle.plant_types.specs.declared.plan.OrderRow.{OrderRow}
use Rattle.scan_order.specs.Due.{input_of, row_of}
use Rattle.traffic_cop.specs.Rows.{FitsPlan, NamesDrop}
use Rattle.controller_core.specs.declared.entry.Entry.{Entry}
use Rattle.controller_core.specs.declared.entry.Entry.TheVariants as entries
use Rattle.controller_core.specs.declared.fixed.Fixed.{Fixed}
use Rattle.controller_core.specs.Replay.{ControllerState, apply, control_is_on, read_in}
use Rattle.controller_core.specs.Replay.{segment_solved, solved, start}
use Rattle.word_exchange.specs.Exchange.{ExchangesAreCounted}
use Rattle.word_exchange.specs.Words.{is_input_of, names_drop}

get-other : (xs : List ℕ) (i j y : ℕ) → i ≢ j → get_or (set xs i y) j 0 ≡ get_or xs j 0
get-other [] i j y differs = refl
get-other (x ∷ xs) zero zero y differs = absurd (differs refl)
get-other (x ∷ xs) zero (suc j) y differs = refl
get-other (x ∷ xs) (suc i) zero y differs = refl
get-other (x ∷ xs) (suc i) (suc j) y differs = get-other xs i j y (λ same. differs (ap suc same))

get-replicate : (n j : ℕ) → ◌≡◌ {A = ℕ} (get_or (replicate n 0) j 0) 0
get-replicate zero j = refl
get-replicate (suc n) zero = refl
get-replicate (suc n) (suc j) = get-replicate n j

module _ (f : Fixed) (number : ℕ) (low : 1 ≤ number)
    (named : (row d : ℕ) → input_of (row_of f.plan row) ≡ Some d → 1 ≤ d) where
  abbrev input : Entry → Bool
  input e = is_input_of f.plan number e

  -- an event leaves the counts, but for an input of the drop, which is one more
  record Counts (s t : ControllerState) (b : Bool) : Type 0 where
    long : length t.exchanges ≡ length s.exchanges
    more : get_or t.exchanges (number - 1) 0 ≡ cond b 1 0 + get_or s.exchanges (number - 1) 0

  same-counts : (s t : ControllerState) → t.exchanges ≡ s.exchanges → Counts s t false
  same-counts s t same = record {
    long = ap length same;
    more = ap (λ (l : List ℕ). get_or l (number - 1) 0) same ∙ omega arith;
  }

  read-by : (b : Bool) (drops : List IoDrop) (d : ℕ) (s : ControllerState)
      → (d == number) ≡ b → 1 ≤ d → number - 1 < length s.exchanges
      → Counts s (read_in drops (Some d) s) b
  read-by true drops d s is from place =
      let same = eqb-true d number is in
      let k = get_or s.exchanges (d - 1) 0 + 1 in
      record {
        long = length-set s.exchanges (d - 1) k;
        more =
            ap (λ n. get_or (set s.exchanges (d - 1) k) (n - 1) 0) (sym same)
            ∙ get_or-set_same s.exchanges (d - 1) k 0 (omega (arith, same, place))
            ∙ ap (λ n. get_or s.exchanges (n - 1) 0 + 1) same
            ∙ omega arith;
      }
  read-by false drops d s is from place =
      let k = get_or s.exchanges (d - 1) 0 + 1 in
      record {
        long = length-set s.exchanges (d - 1) k;
        more =
            get-other s.exchanges (d - 1) (number - 1) k
            (λ same. eqb-false d number is (omega (arith, same, from, low)))
            ∙ omega arith;
      }

  read-counts : (o : Option ℕ) (s : ControllerState) → ((d : ℕ) → o ≡ Some d → 1 ≤ d)
      → number - 1 < length s.exchanges
      → Counts s (read_in f.plan.drops o s) (names_drop number o)
  read-counts None s from place = same-counts s s refl
  read-counts (Some d) s from place =
      read-by (d == number) f.plan.drops d s refl (from d refl) place

  solved-by : (b : Bool) (segments : List Segment) (segment : ℕ) (s : ControllerState)
      → (if b then segment_solved segments segment s else s).exchanges ≡ s.exchanges
  solved-by true segments segment s = refl
  solved-by false segments segment s = refl

  solved-same : (row : Option OrderRow) (s : ControllerState)
      → (solved f.plan.segments row s).exchanges ≡ s.exchanges
  solved-same None s = refl
  solved-same (Some row) s =
      solved-by (control_is_on s.solving.map row.control) f.plan.segments row.segment s

  apply-counts : (s : ControllerState) (e : Entry) → number - 1 < length s.exchanges
      → Counts s (apply f s e) (input e)
  apply-counts s entries.Begin place = same-counts s (apply f s entries.Begin) refl
  apply-counts s (entries.Input row) place =
      read-counts (input_of (row_of f.plan row)) s (λ d is. named row d is) place
  apply-counts s (entries.Solve row) place =
      same-counts s (apply f s (entries.Solve row)) (solved-same (row_of f.plan row) s)
  apply-counts s (entries.Output row words) place = same-counts s s refl
  apply-counts s entries.End place = same-counts s (apply f s entries.End) refl
  apply-counts s entries.Fail place = same-counts s (apply f s entries.Fail) refl
  apply-counts s entries.Dark place = same-counts s (apply f s entries.Dark) refl
  apply-counts s (entries.Collect calls) place =
      same-counts s (apply f s (entries.Collect calls)) refl
  apply-counts s (entries.Peer id request reply) place =
      same-counts s (apply f s (entries.Peer id request reply)) refl
  apply-counts s (entries.Off id request) place = same-counts s s refl
  apply-counts s (entries.Finish id result) place =
      same-counts s (apply f s (entries.Finish id result)) refl

  fold-counts : (s : ControllerState) (h : List Entry) → number - 1 < length s.exchanges
      → get_or (fold (apply f) s h).exchanges (number - 1) 0
      ≡ count_by input h + get_or s.exchanges (number - 1) 0
  fold-counts s [] place = omega arith
  fold-counts s (e ∷ h) place =
      let one = apply-counts s e place in
      let long = one.long in
      let more = one.more in
      let rest = fold-counts (apply f s e) h (omega (arith, long, place)) in
      let sum = sum_by-cons (λ (x : Entry). cond (input x) 1 0) e h in
      omega (arith, more, rest, sum)

row-from : (plan : ControllerPlan) (orders : List OrderRow) (i d : ℕ)
    → AllByRecursion (FitsPlan plan) orders → input_of (slice_get orders i) ≡ Some d → 1 ≤ d
row-from plan [] i d all is = absurd cc
row-from plan (row ∷ orders) zero d all is = by row.input is all.0.input
  where
    by : (o : Option ℕ) → o ≡ Some d → NamesDrop plan o → 1 ≤ d
    by None none has = absurd cc
    by (Some n) some has = let same : n ≡ d = cc in let from = has.from in omega (arith, same, from)
row-from plan (row ∷ orders) (suc i) d all is = row-from plan orders i d all.1 is

pub counted : ExchangesAreCounted
counted fixed history number low high runs =
    let counts = fold-counts fixed number low
    (λ row d is. row-from fixed.plan fixed.plan.orders (row - 1) d runs.rows is)
    (start fixed.plan) history (omega (arith, high)) in
    let none = get-replicate 32 (number - 1) in
    omega (arith, counts, none)
