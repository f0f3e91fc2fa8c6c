-- The spare bits of a reply's last byte are 0 just where its highest digits are.
use Rattle.std.proofs.Common.{◌≡◌, ◌≢◌, ℕ, zero, suc, ◌+◌, ◌-◌, ◌*◌, ◌/◌, ◌%◌, ◌^◌, ◌<◌, ◌≤◌, ◌==◌}
use Rattle.std.proofs.Common.{true, false, List, length, drop, get_or, ap, subst, sym}
use Rattle.std.proofs.Common.{◌∙◌, arith}
use Rattle.std.proofs.lemmas.Bool.{both_ways, eq-eqb, eqb-true}
use Rattle.std.proofs.lemmas.List.{get_or-drop}
use Rattle.std.proofs.Math.Nat.{pow-suc, div-div-eq-div-mul}
use Rattle.modbus_pdu.specs.Bytes.{bytes_for, spare_count}
use Rattle.modbus_pdu.specs.Steps.{IsClear}
use Rattle.modbus_pdu.proofs.Bytes.{IsBytes}
use Rattle.modbus_pdu.proofs.Packing.{unpacked-at}
use Rattle.reply_laws.specs.Result.{has_clear_spare}

half-on : (b k : ℕ) → b / 2 ^ k / 2 ≡ b / 2 ^ suc k
half-on b k = div-div-eq-div-mul b (2 ^ k) 2 ∙ ap (λ (n : ℕ). b / n) (sym (pow-suc 2 k))

-- A byte whose highest digits are 0 is less than the lowest of them.
top-clear : (m b k : ℕ) → k + m ≡ 8 → b < 2 ^ 8
    → ((j : ℕ) → k ≤ j → j < 8 → (b / 2 ^ j % 2 == 1) ≡ false) → b / 2 ^ k ≡ 0
top-clear zero b k e lt h =
    let eight : k ≡ 8 = omega arith in
    subst (λ (n : ℕ). b / 2 ^ n ≡ 0) (sym eight) (omega arith)
top-clear (suc m) b k e lt h =
    let rest : b / 2 ^ suc k ≡ 0 = top-clear m b (suc k) (omega arith) lt
    (λ j le. h j (omega arith)) in
    let half = half-on b k in
    let digit : b / 2 ^ k % 2 ≢ 1 = λ one. both_ways (b / 2 ^ k % 2 == 1)
    (h k (omega arith) (omega arith)) (eq-eqb (b / 2 ^ k % 2) 1 one) in
    omega arith

-- And a number that small has no digit there.
clear-top : (m b k : ℕ) → b / 2 ^ k ≡ 0 → b / 2 ^ (k + m) ≡ 0
clear-top zero b k e =
    let same : k + 0 ≡ k = omega arith in
    subst (λ (n : ℕ). b / 2 ^ n ≡ 0) (sym same) e
clear-top (suc m) b k e =
    let same : k + suc m ≡ suc (k + m) = omega arith in
    let before : b / 2 ^ (k + m) ≡ 0 = clear-top m b k e in
    let half = half-on b (k + m) in
    subst (λ (n : ℕ). b / 2 ^ n ≡ 0) (sym same) (omega arith)

last-byte : (q : ℕ) (bytes : List ℕ) → 1 ≤ q
    → get_or (drop 2 bytes) (bytes_for q - 1) 0 ≡ get_or bytes (bytes_for q + 1) 0
last-byte q bytes some =
    let place : 2 + (bytes_for q - 1) ≡ bytes_for q + 1 = omega arith in
    get_or-drop 2 bytes (bytes_for q - 1) 0 ∙ ap (λ (i : ℕ). get_or bytes i 0) place

pub spare-clear : (q : ℕ) (bytes : List ℕ) → 1 ≤ q → length (drop 2 bytes) ≡ bytes_for q
    → has_clear_spare q bytes ≡ true → IsClear (drop 2 bytes) q
spare-clear q bytes some long t place le lt =
    let x = drop 2 bytes in
    let n = bytes_for q in
    let k = 8 - spare_count q in
    let small : get_or bytes (n + 1) 0 / 2 ^ k ≡ 0 =
    eqb-true (get_or bytes (n + 1) 0 / 2 ^ k) 0 t in
    let top : get_or x (n - 1) 0 / 2 ^ k ≡ 0 =
    ap (λ (b : ℕ). b / 2 ^ k) (last-byte q bytes some) ∙ small in
    let none = clear-top (place % 8 - k) (get_or x (n - 1) 0) k top in
    let byte : place / 8 ≡ n - 1 = omega arith in
    let digit : k + (place % 8 - k) ≡ place % 8 = omega arith in
    unpacked-at x place lt
    ∙ (λ i. get_or x (byte i) 0 / 2 ^ (sym digit i) % 2 == 1)
    ∙ ap (λ (z : ℕ). z % 2 == 1) none

pub clear-spare : (q : ℕ) (bytes : List ℕ) → 1 ≤ q → length (drop 2 bytes) ≡ bytes_for q
    → IsBytes (drop 2 bytes)
    → IsClear (drop 2 bytes) q → has_clear_spare q bytes ≡ true
clear-spare q bytes some long fits clear =
    let x = drop 2 bytes in
    let n = bytes_for q in
    let k = 8 - spare_count q in
    let b = get_or x (n - 1) 0 in
    let top : b / 2 ^ k ≡ 0 =
    top-clear (spare_count q) b k (omega arith) (fits (n - 1))
    (λ j le lt.
    let byte : (8 * (n - 1) + j) / 8 ≡ n - 1 = omega arith in
    let digit : (8 * (n - 1) + j) % 8 ≡ j = omega arith in
    (λ i. get_or x (sym byte i) 0 / 2 ^ (sym digit i) % 2 == 1)
    ∙ sym (unpacked-at x (8 * (n - 1) + j) (omega arith))
    ∙ clear (8 * (n - 1) + j) (omega arith) (omega arith)) in
    eq-eqb (get_or bytes (n + 1) 0 / 2 ^ k) 0
    (ap (λ (c : ℕ). c / 2 ^ k) (sym (last-byte q bytes some)) ∙ top)
