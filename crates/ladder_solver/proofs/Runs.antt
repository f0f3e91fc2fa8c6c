-- The networks of a run, one after another, and those that are skipped.
use Rattle.std.proofs.Common.{◌≡◌, ℕ, ◌+◌, ◌-◌, ◌<◌, ◌≤◌, zero, suc, get_or, List, [], ◌∷◌, Option}
use Rattle.std.proofs.Common.{Some, None, refl, ◌∙◌, sym, ap, length, take, drop, add-zero, arith}
use Rattle.std.specs.List.{slice_range}
use Rattle.plant_types.specs.declared.network.Network.{Network}
use Rattle.ladder_solver.specs.declared.layout.Spot.{Spot}
use Rattle.ladder_solver.specs.State.{BlockPlace, SolveState}
use Rattle.ladder_solver.specs.Flow.{Setting}
use Rattle.ladder_solver.specs.Segment.{network_turn, networks_after}
use Rattle.ladder_solver.specs.Layout.{network_spots}
use Rattle.ladder_solver.proofs.NumberLemmas.{laid_networks, length-laid}
use Rattle.ladder_solver.specs.Agreement.{behind_turn}

-- what a skip leaves of a list
drop_none : {X : Type 0} (n : ℕ) → drop n (let xs : List X = [] in xs) ≡ []
drop_none zero = refl
drop_none (suc n) = refl

take_none : {X : Type 0} (n : ℕ) → take n (let xs : List X = [] in xs) ≡ []
take_none zero = refl
take_none (suc n) = refl

drop_skip : {X : Type 0} (k j : ℕ) (xs : List X) → drop k (drop j xs) ≡ drop (j + k) xs
drop_skip k zero xs = let e : 0 + k ≡ k = omega arith in rw e refl
drop_skip k (suc j) [] = drop_none k ∙ sym (drop_none (suc j + k))
drop_skip k (suc j) (x ∷ xs) =
    let e : suc j + k ≡ suc (j + k) = omega arith in rw e (drop_skip k j xs)

drop_taken : {X : Type 0} (k m : ℕ) (xs : List X) → drop k (take m xs) ≡ take (m - k) (drop k xs)
drop_taken zero m xs = let e : m - 0 ≡ m = omega arith in rw e refl
drop_taken (suc k) zero xs = let e : 0 - suc k ≡ 0 = omega arith in rw e refl
drop_taken (suc k) (suc m) [] = sym (take_none (suc m - suc k))
drop_taken (suc k) (suc m) (x ∷ xs) =
    let e : suc m - suc k ≡ m - k = omega arith in rw e (drop_taken k m xs)

pub drop_range : {X : Type 0} (xs : List X) (j k end : ℕ)
    → drop k (slice_range xs j end) ≡ slice_range xs (j + k) end
drop_range xs j k end =
    let e : end - j - k ≡ end - (j + k) = omega arith in
    drop_taken k (end - j) (drop j xs) ∙ ap (take (end - j - k)) (drop_skip k j xs)
    ∙ ap (λ n. take n (drop (j + k) xs)) e

-- skipped networks are left out
skip_over : (setting : Setting) (segment number : ℕ) (networks : List Network) (skipped : ℕ)
    (s : SolveState)
    → networks_after setting segment number networks skipped s
    ≡ networks_after setting segment (number + skipped) (drop skipped networks) 0 s
unfolding networks_after
skip_over setting segment number networks zero s = rw add-zero refl
skip_over setting segment number [] (suc skipped) s = refl
skip_over setting segment number (network ∷ networks) (suc skipped) s =
    let e : number + suc skipped ≡ number + 1 + skipped = omega arith in
    rw e (skip_over setting segment (number + 1) networks skipped s)

-- the network at an index
pub network_at : (numbers : BlockPlace → ℕ) (segment first : ℕ) (networks : List Network) (i : ℕ)
    (spots : List Spot) → i < length networks
    → spots ≡ get_or (laid_networks numbers segment first networks) i spots
    → (network : Network) × (drop i networks ≡ network ∷ drop (i + 1) networks)
    × (spots ≡ network_spots numbers (record { segment = segment; network = first + i }) network)
unfolding laid_networks
network_at numbers segment first [] i spots within is = absurd (omega arith)
network_at numbers segment first (network ∷ networks) zero spots within is =
    (network, refl, rw add-zero is)
network_at numbers segment first (network ∷ networks) (suc i) spots within is =
    let one : suc i + 1 ≡ suc (i + 1) = omega arith in
    let next : first + suc i ≡ first + 1 + i = omega arith in
    let found = network_at numbers segment (first + 1) networks i spots (omega arith) is in
    (found.0, rw one found.1, rw next found.2)

-- the networks of a run behind one that is begun
abbrev pub run_rest : Setting → ℕ → ℕ → ℕ → List Network → ℕ → SolveState → SolveState
run_rest setting segment i end networks =
    networks_after setting segment (i + 1 + 1) (slice_range networks (i + 1) end)

-- behind those that are skipped
run-skip : (setting : Setting) (segment i skipped end : ℕ) (networks : List Network)
    (s : SolveState)
    → run_rest setting segment i end networks skipped s
    ≡ networks_after setting segment (i + (1 + skipped) + 1)
    (slice_range networks (i + (1 + skipped)) end) 0 s
run-skip setting segment i skipped end networks s =
    let number : i + 1 + 1 + skipped ≡ i + (1 + skipped) + 1 = omega arith in
    let index : i + 1 + skipped ≡ i + (1 + skipped) = omega arith in
    skip_over setting segment (i + 1 + 1) (slice_range networks (i + 1) end) skipped s
    ∙ (λ j. networks_after setting segment (number j)
    (drop_range networks (i + 1) skipped end j) 0 s)
    ∙ ap (λ n. networks_after setting segment (i + (1 + skipped) + 1)
    (slice_range networks n end) 0 s) index

module _ (setting : Setting) (segment i end : ℕ) (networks : List Network)
    (items : List (List Spot)) (spots : List Spot) (now new : SolveState)
    (skipped : Option ℕ) (more : i < end) (within : end ≤ length items)
    (laid : items ≡ laid_networks setting.numbers segment 1
    networks) (is : spots ≡ get_or items i spots)
    (solved : (network : Network) → spots ≡ network_spots setting.numbers
    (record { segment = segment; network = i + 1 }) network → (rest : ℕ → SolveState → SolveState)
    → network_turn setting network (record { segment = segment; network = i + 1 }) rest now
    ≡ behind_turn skipped rest new) where
  -- a run goes on with the network at an index
  run_turn : networks_after setting segment (i + 1) (slice_range networks i end) 0 now
      ≡ behind_turn skipped (run_rest setting segment i end networks) new
  unfolding networks_after
  run_turn =
      let many = ap length laid ∙ length-laid setting.numbers segment 1 networks in
      let found = network_at setting.numbers segment 1 networks i spots
      (omega (arith, many, more, within)) (is ∙ ap (λ xs. get_or xs i spots) laid) in
      let number : 1 + i ≡ i + 1 = omega arith in
      let one : end - i ≡ suc (end - (i + 1)) = omega arith in
      let turn : networks_after setting segment (i + 1) (slice_range networks i end) 0 now
      ≡ network_turn setting found.0 (record { segment = segment; network = i + 1 })
      (run_rest setting segment i end networks) now = rw (one, found.1) refl in
      turn ∙ solved found.0 (rw number at found.2) (run_rest setting segment i end networks)

  -- and ends with it
  pub run-ends : skipped ≡ None
      → networks_after setting segment (i + 1) (slice_range networks i end) 0 now ≡ new
  run-ends none = run_turn
      ∙ ap (λ o. behind_turn o (run_rest setting segment i end networks) new) none

  -- or goes on behind those that are skipped
  pub run-goes : (many count : ℕ) → skipped ≡ Some many → count ≡ many
      → networks_after setting segment (i + 1) (slice_range networks i end) 0 now
      ≡ networks_after setting segment (i + (1 + count) + 1)
      (slice_range networks (i + (1 + count)) end) 0 new
  run-goes many count some same =
      run_turn ∙ ap (λ o. behind_turn o (run_rest setting segment i end networks) new)
      (some ∙ ap Some (sym same))
      ∙ run-skip setting segment i count end networks new

-- a run that is over leaves the state
pub run-over : (setting : Setting) (segment i end : ℕ) (networks : List Network) (s : SolveState)
    → end ≤ i
    → networks_after setting segment (i + 1) (slice_range networks i end) 0 s ≡ s
unfolding networks_after
run-over setting segment i end networks s over =
    let none : end - i ≡ 0 = omega arith in
    rw none refl
