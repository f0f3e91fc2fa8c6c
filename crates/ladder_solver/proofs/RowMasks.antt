-- Masks by a test of their rows, and the rows that power at one row reaches.
use Rattle.std.proofs.Common.{◌≡◌, ℕ, ◌+◌, ◌-◌, ◌*◌, ◌/◌, ◌%◌, ◌^◌, ◌≤◌, ◌<◌, zero, suc, Bool, true}
use Rattle.std.proofs.Common.{false, ◌==◌, refl, ap, ◌∙◌, arith}
use Rattle.std.specs.Int.{bit_at}
use Rattle.std.proofs.Math.Bool.{or-false}
use Rattle.std.proofs.lemmas.Bool.Decides.{nat_tests}
use Rattle.std.proofs.lemmas.Nat.Bits.{bit_at-suc}
use Rattle.plant_types.specs.Power.{bit_of}
use Rattle.grid_compile.specs.Masks.{row_on, are_linked, is_joined_live}
use Rattle.grid_compile.proofs.Decision.{all_below, below_at}
use Rattle.ladder_solver.specs.Rows.{mask_of, reach_of}

-- the first row of a mask
first : (b : Bool) (more : ℕ) → row_on (bit_of b + 2 * more) 1 ≡ b
first true more = let e : (1 + 2 * more) / 1 % 2 ≡ 1 = omega arith in ap (λ n. n == 1) e
first false more = let e : (0 + 2 * more) / 1 % 2 ≡ 0 = omega arith in ap (λ n. n == 1) e

-- the last row of a mask
last : (b : Bool) → row_on (bit_of b) 1 ≡ b
last true = refl
last false = refl

half : (b : Bool) (more : ℕ) → (bit_of b + 2 * more) / 2 ≡ more
half true more = omega arith
half false more = omega arith

-- a row behind the first
behind : (b : Bool) (more i : ℕ)
    → (bit_at (bit_of b + 2 * more) (suc i) == 1) ≡ (bit_at more i == 1)
behind b more i =
    ap (λ n. n == 1) (bit_at-suc (bit_of b + 2 * more) i ∙ ap (λ n. bit_at n i) (half b more))

-- the mask of a test has the rows that pass it
mask_of-row : (on : ℕ → Bool) (row : ℕ) → 1 ≤ row → row ≤ 7 → row_on (mask_of on) row ≡ on row
mask_of-row on zero low high = absurd (omega arith)
mask_of-row on (suc zero) low high = first (on 1) _
mask_of-row on (suc (suc zero)) low high = behind (on 1) _ 0 ∙ first (on 2) _
mask_of-row on (suc (suc (suc zero))) low high = behind (on 1) _ 1 ∙ behind (on 2) _ 0
    ∙ first (on 3) _
mask_of-row on (suc (suc (suc (suc zero)))) low high = behind (on 1) _ 2 ∙ behind (on 2) _ 1
    ∙ behind (on 3) _ 0 ∙ first (on 4) _
mask_of-row on (suc (suc (suc (suc (suc zero))))) low high =
    behind (on 1) _ 3 ∙ behind (on 2) _ 2 ∙ behind (on 3) _ 1 ∙ behind (on 4) _ 0 ∙ first (on 5) _
mask_of-row on (suc (suc (suc (suc (suc (suc zero)))))) low high =
    behind (on 1) _ 4 ∙ behind (on 2) _ 3 ∙ behind (on 3) _ 2 ∙ behind (on 4) _ 1
    ∙ behind (on 5) _ 0 ∙ first (on 6) _
mask_of-row on (suc (suc (suc (suc (suc (suc (suc zero))))))) low high =
    behind (on 1) _ 5 ∙ behind (on 2) _ 4 ∙ behind (on 3) _ 3 ∙ behind (on 4) _ 2
    ∙ behind (on 5) _ 1 ∙ behind (on 6) _ 0 ∙ last (on 7)
mask_of-row on (suc (suc (suc (suc (suc (suc (suc (suc row)))))))) low high = absurd (omega arith)

bit-small : (b : Bool) → bit_of b < 2
bit-small true = omega arith
bit-small false = omega arith

seven-small : (a b c d e f g : ℕ) → a < 2 → b < 2 → c < 2 → d < 2 → e < 2 → f < 2 → g < 2
    → a + 2 * (b + 2 * (c + 2 * (d + 2 * (e + 2 * (f + 2 * g))))) < 128
seven-small a b c d e f g p q r s t u v = omega arith

-- and none but the seven
mask_of-small : (on : ℕ → Bool) → mask_of on < 128
mask_of-small on =
    seven-small _ _ _ _ _ _ _ (bit-small (on 1)) (bit-small (on 2)) (bit-small (on 3))
    (bit-small (on 4)) (bit-small (on 5)) (bit-small (on 6))
    (bit-small (on 7))

all_told : all_below (λ n. n == mask_of (row_on n)) 128 ≡ true
unfolding all_below
all_told = refl

equals : (a b : ℕ) → (a == b) ≡ true → a ≡ b
equals a b h = grind (arith, nat_tests)

-- its rows tell a mask
told : (n : ℕ) → n < 128 → n ≡ mask_of (row_on n)
told n small =
    equals n (mask_of (row_on n)) (below_at (λ n. n == mask_of (row_on n)) 128 n small all_told)

-- so a mask that has the rows that pass a test is that of the test
pub mask_of-is : (n : ℕ) (on : ℕ → Bool) → n < 128
    → ((row : ℕ) → 1 ≤ row → row ≤ 7 → row_on n row ≡ on row) → n ≡ mask_of on
mask_of-is n on small same =
    told n small
    ∙ (λ i. bit_of (same 1 (omega arith) (omega arith) i)
    + 2 * (bit_of (same 2 (omega arith) (omega arith) i)
    + 2 * (bit_of (same 3 (omega arith) (omega arith) i)
    + 2 * (bit_of (same 4 (omega arith) (omega arith) i)
    + 2 * (bit_of (same 5 (omega arith) (omega arith) i)
    + 2 * (bit_of (same 6 (omega arith) (omega arith) i)
    + 2 * bit_of (same 7 (omega arith) (omega arith) i)))))))

-- power at one row joins the rows that it is linked to
joined-one : (marks row r : ℕ) → 1 ≤ row → row ≤ 7
    → is_joined_live marks (2 ^ (row - 1)) r ≡ are_linked marks row r
joined-one marks zero r low high = absurd (omega arith)
joined-one marks (suc zero) r low high = or-false (are_linked marks 1 r)
joined-one marks (suc (suc zero)) r low high = or-false (are_linked marks 2 r)
joined-one marks (suc (suc (suc zero))) r low high = or-false (are_linked marks 3 r)
joined-one marks (suc (suc (suc (suc zero)))) r low high = or-false (are_linked marks 4 r)
joined-one marks (suc (suc (suc (suc (suc zero))))) r low high = or-false (are_linked marks 5 r)
joined-one marks (suc (suc (suc (suc (suc (suc zero)))))) r low high =
    or-false (are_linked marks 6 r)
joined-one marks (suc (suc (suc (suc (suc (suc (suc zero))))))) r low high =
    or-false (are_linked marks 7 r)
joined-one marks (suc (suc (suc (suc (suc (suc (suc (suc row)))))))) r low high =
    absurd (omega arith)

-- power at one row reaches the rows that it is linked to
pub reach-linked : (marks row r : ℕ) → 1 ≤ row → row ≤ 7 → 1 ≤ r → r ≤ 7
    → row_on (reach_of marks row) r ≡ are_linked marks row r
unfolding reach_of
reach-linked marks row r low high from to =
    mask_of-row (is_joined_live marks (2 ^ (row - 1))) r from to ∙ joined-one marks row r low high

-- of the seven rows
pub reach-small : (marks row : ℕ) → reach_of marks row < 128
unfolding reach_of
reach-small marks row = mask_of-small (is_joined_live marks (2 ^ (row - 1)))

-- a mask that has just those rows
pub reach-is : (marks row n : ℕ) → n < 128
    → ((r : ℕ) → 1 ≤ r → r ≤ 7 → row_on n r ≡ is_joined_live marks (2 ^ (row - 1)) r)
    → n ≡ reach_of marks row
unfolding reach_of
reach-is marks row n small same = mask_of-is n (is_joined_live marks (2 ^ (row - 1))) small same

-- the first row's bit, shifted to a row
pub shifted_row : (row : ℕ) → 1 ≤ row → row ≤ 7 → 1 * 2 ^ (row - 1) % 2 ^ 8 ≡ 2 ^ (row - 1)
shifted_row zero low high = absurd (omega arith)
shifted_row (suc zero) low high = refl
shifted_row (suc (suc zero)) low high = refl
shifted_row (suc (suc (suc zero))) low high = refl
shifted_row (suc (suc (suc (suc zero)))) low high = refl
shifted_row (suc (suc (suc (suc (suc zero))))) low high = refl
shifted_row (suc (suc (suc (suc (suc (suc zero)))))) low high = refl
shifted_row (suc (suc (suc (suc (suc (suc (suc zero))))))) low high = refl
shifted_row (suc (suc (suc (suc (suc (suc (suc (suc row)))))))) low high = absurd (omega arith)
