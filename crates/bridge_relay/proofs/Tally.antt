-- How often a call went out and ended, by the last number of its path and what is out there.
use Rattle.std.proofs.Common.{◌≡◌, ◌≤◌, ◌<◌, ◌+◌, ℕ, ◌==◌, ◌&&◌, true, false, cond, refl}
use Rattle.std.proofs.Common.{Some, None, ap, ◌∙◌, inl, inr, arith, is_some}
use Rattle.std.proofs.lemmas.Bool.{cases_eq, cases_lt, eq-eqb, ne_eqb}
use Rattle.bridge_relay.specs.Machine.{OutCall, RelayPath, unused_path}

-- a number's share: 1 where the call of this number is out on the path
abbrev pub share : RelayPath → ℕ → ℕ
share path seq = cond (is_some path.out && (path.last == seq)) 1 0

pub record Tally (path : RelayPath) (seq sent ended : ℕ) : Type 0 where
  pub some : 1 ≤ seq → seq ≤ path.last → sent ≡ 1
  pub zero : seq ≡ 0 → sent ≡ 0
  pub late : path.last < seq → sent ≡ 0
  pub under : ended + share path seq ≡ sent

free_share : (path : RelayPath) (seq : ℕ) → is_some path.out ≡ false → share path seq ≡ 0
free_share path seq free = ap (λ b. cond (b && (path.last == seq)) 1 0) free

-- behind a call that goes out with the next number
pub tally_sent : (path : RelayPath) (seq sent ended next : ℕ) (call : OutCall)
    → Tally path seq sent ended → is_some path.out ≡ false → next ≡ path.last + 1
    → Tally (record { last = next; out = Some call }) seq (sent + cond (next == seq) 1 0) ended
tally_sent path seq sent ended next call tally free more =
    let none = free_share path seq free in
    let under : ended + share path seq ≡ sent = tally.under in
    elim (cases_eq next seq) [
      | inl is ↦
          let one : cond {A = ℕ} (next == seq) 1 0 ≡ 1 =
          ap (λ b. cond b 1 0) (eq-eqb next seq is) in
          let low : path.last < seq = omega arith in
          let zero : sent ≡ 0 = tally.late low in
          record {
            some = λ low high. omega arith;
            zero = λ e. absurd (omega arith);
            late = λ high. absurd (omega arith);
            under = omega arith;
          }
      | inr other ↦
          let one : cond {A = ℕ} (next == seq) 1 0 ≡ 0 =
          ap (λ b. cond b 1 0) (ne_eqb next seq other) in
          record {
            some = λ low high.
                let within : seq ≤ path.last = omega arith in
                let is = tally.some low within in
                omega arith;
            zero = λ e. let is = tally.zero e in omega arith;
            late = λ high.
                let beyond : path.last < seq = omega arith in
                let is = tally.late beyond in
                omega arith;
            under = omega arith;
          }
    ]

-- behind the end of the call that is out
pub tally_ended : (path : RelayPath) (seq sent ended last : ℕ)
    → Tally path seq sent ended → is_some path.out ≡ true → path.last ≡ last
    → Tally (record path { out = None }) seq sent (ended + cond (last == seq) 1 0)
tally_ended path seq sent ended last tally taken is =
    let here : share path seq ≡ cond (last == seq) 1 0 =
    ap (λ b. cond (b && (path.last == seq)) 1 0) taken
    ∙ ap (λ n. cond (n == seq) 1 0) is in
    let under : ended + share path seq ≡ sent = tally.under in
    record {
      some = tally.some;
      zero = tally.zero;
      late = tally.late;
      under = omega arith;
    }

pub tally_first : (seq : ℕ) → Tally unused_path seq 0 0
tally_first seq = record {
  some = λ low high. absurd (omega arith);
  zero = λ e. refl;
  late = λ high. refl;
  under = refl;
}

-- no call goes out twice
pub sent_once : (path : RelayPath) (seq sent ended : ℕ) → Tally path seq sent ended → sent ≤ 1
sent_once path seq sent ended tally = elim (cases_eq seq 0) [
  | inl none ↦ let is = tally.zero none in omega arith
  | inr some ↦ elim (cases_lt path.last seq) [
    | inl beyond ↦ let is = tally.late beyond in omega arith
    | inr within ↦
        let low : 1 ≤ seq = omega arith in
        let is = tally.some low within in
        omega arith
  ]
]
