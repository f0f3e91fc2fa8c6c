-- A call whose request came to a controller without power took no effect.
use Rattle.std.proofs.Common.{◌≡◌, ℕ, zero, suc, ◌+◌, ◌≤◌, List, [], ◌∷◌, Option, Some, None, refl}
use Rattle.std.proofs.Common.{ap, ⊎_elim, arith}
use Rattle.std.specs.Prelude.{Contains, filter, slice_get, option_map, unwrap_or}
use Rattle.std.specs.List.{count_by, sum_by}
use Rattle.std.proofs.lemmas.Bool.{and_from}
use Rattle.std.proofs.lemmas.List.Sums.{sum_by-cons}
use Rattle.mstr_block.specs.declared.call.CallId.{CallId}
use Rattle.ring_laws.proofs.Lists.{contains-count, same-refl}
use Rattle.joint_history.specs.declared.joint.ControllerLog.{ControllerLog}
use Rattle.joint_history.specs.declared.joint.Joint.{Joint}
use Rattle.joint_history.specs.Effects.{effects}
use Rattle.joint_history.specs.Reading.{answered_here, items_of}
use Rattle.joint_history.proofs.Collected.{CallLaws}
use Rattle.effect_laws.proofs.Found.{part-most}
use Rattle.effect_laws.proofs.Sources.{first-or-behind, in-none}
use Rattle.route_laws.specs.Effects.{CameWithoutPower}
use Rattle.route_laws.specs.Laws.{OffsHaveNoEffect}
use Rattle.route_laws.specs.Ways.{SentOn, names_from, sent_on_in}
use Rattle.route_laws.proofs.Effects.{misses, misses_in, misses_of, one-effect}
use Rattle.route_laws.proofs.Noted.{off-told}
use Rattle.route_laws.proofs.Once.{forwards-accepts, is_old}
use Rattle.route_laws.proofs.Ways.{found-counts}

-- where a call has a name that came without power, none of its names took effect
module _ (sent : List SentOn) (took missed : CallId → ℕ)
    (once : (id : CallId) → took id + missed id ≤ 1)
    (gone : (id : CallId) → 1 ≤ count_by (is_old id) sent → took id + missed id ≡ 0) where
  last-none : (id name : CallId) → 1 ≤ missed name → Contains (id ∷ []) name
      → sum_by took (id ∷ []) ≡ 0
  last-none id name some there =
      let step = sum_by-cons took id [] in
      ⊎_elim
      (λ (same : id ≡ name).
      let here = once name in
      let equal = ap took same in
      omega (arith, step, here, equal, some))
      (λ (more : Contains {X = CallId} [] name). absurd (in-none name more))
      (first-or-behind id [] name there)

  next-none : (id name : CallId) (names : CallId → List CallId) (found : Option SentOn)
      → slice_get (filter (is_old id) sent) 0 ≡ found → 1 ≤ missed name
      → ((x : CallId) → Contains (names x) name → sum_by took (names x) ≡ 0)
      → Contains (id ∷ unwrap_or (option_map names (option_map (λ (s : SentOn). s.id) found)) [])
      name
      → sum_by took
      (id ∷ unwrap_or (option_map names (option_map (λ (s : SentOn). s.id) found)) [])
      ≡ 0
  next-none id name names None is some later there = last-none id name some there
  next-none id name names (Some s) is some later there =
      let here = gone id (found-counts (is_old id) sent s is) in
      ⊎_elim
      (λ (same : id ≡ name).
      let equal = ap missed same in absurd (omega (arith, here, equal, some)))
      (λ (more : Contains (names s.id) name).
      let rest = later s.id more in
      let step = sum_by-cons took id (names s.id) in
      omega (arith, here, rest, step))
      (first-or-behind id (names s.id) name there)

  all-none : (more : ℕ) (id name : CallId) → 1 ≤ missed name
      → Contains (names_from more sent id) name → sum_by took (names_from more sent id) ≡ 0
  all-none zero id name some there = last-none id name some there
  all-none (suc more) id name some there =
      next-none id name (names_from more sent) (slice_get (filter (is_old id) sent) 0) refl some
      (λ x. all-none more x name some) there

-- what came without power was answered with no reply
missed-once : (joint : Joint) (name : CallId) → CameWithoutPower joint name
    → 1 ≤ misses_in joint name
missed-once joint name (n, request, (log, there, node, off)) =
    let told = off-told log.entries name request off in
    let some = contains-count (misses name) (items_of log.entries).answers
    (answered_here name request None) (and_from _ _ (same-refl name) refl) told in
    let most = part-most (λ (l : ControllerLog). misses_of name (items_of l.entries))
    joint.controllers log there in
    omega (arith, some, most)

pub offs-no-effect : CallLaws → OffsHaveNoEffect
offs-no-effect laws plant scans joint is legal tied id name among came =
    all-none (sent_on_in joint) (effects joint) (misses_in joint)
    (λ x. let one = one-effect laws plant scans joint x is legal tied in omega (arith, one))
    (λ x some.
    let one = one-effect laws plant scans joint x is legal tied in
    let sent = forwards-accepts plant scans joint x legal in
    omega (arith, one, sent, some))
    _ id name (missed-once joint name came) among
