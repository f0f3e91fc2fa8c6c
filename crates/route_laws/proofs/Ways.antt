-- A call takes effect at most once under all of its names.
use Rattle.std.proofs.Common.{◌≡◌, ℕ, zero, suc, ◌+◌, ◌≤◌, Bool, true, false, cond, List, [], ◌∷◌}
use Rattle.std.proofs.Common.{Option, Some, None, refl, arith}
use Rattle.std.specs.Prelude.{filter, slice_get, option_map, unwrap_or}
use Rattle.std.specs.List.{count_by, sum_by}
use Rattle.std.proofs.lemmas.List.Sums.{sum_by-cons}
use Rattle.mstr_block.specs.declared.call.CallId.{CallId}
use Rattle.ring_laws.proofs.Lists.{count-cons}
use Rattle.joint_history.specs.Effects.{effects}
use Rattle.joint_history.proofs.Collected.{CallLaws}
use Rattle.route_laws.specs.Laws.{WaysHaveOneEffect}
use Rattle.route_laws.specs.Ways.{SentOn, names_from, sent_on_in}
use Rattle.route_laws.proofs.Effects.{one-effect}
use Rattle.route_laws.proofs.Once.{forwards-accepts, is_old}

-- what is found first is there
pub found-counts : {X : Type 0} (p : X → Bool) (xs : List X) (x : X)
    → slice_get (filter p xs) 0 ≡ Some x → 1 ≤ count_by p xs
found-counts p [] x is = absurd cc
found-counts p (y ∷ ys) x is = at (p y) is (count-cons p y ys) (found-counts p ys x)
  where
    at : (b : Bool) → slice_get (cond b (y ∷ filter p ys) (filter p ys)) 0 ≡ Some x
        → count_by p (y ∷ ys) ≡ cond b 1 0 + count_by p ys
        → (slice_get (filter p ys) 0 ≡ Some x → 1 ≤ count_by p ys)
        → 1 ≤ count_by p (y ∷ ys)
    at true here step rest = omega (arith, step)
    at false here step rest = let some = rest here in omega (arith, step, some)

-- under all names
module _ (sent : List SentOn) (f : CallId → ℕ) (once : (id : CallId) → f id ≤ 1)
    (gone : (id : CallId) → 1 ≤ count_by (is_old id) sent → f id ≡ 0) where
  next-names : (id : CallId) (names : CallId → List CallId) (found : Option SentOn)
      → slice_get (filter (is_old id) sent) 0 ≡ found
      → ((name : CallId) → sum_by f (names name) ≤ 1)
      → sum_by f (id ∷ unwrap_or (option_map names (option_map (λ (s : SentOn). s.id) found)) [])
      ≤ 1
  next-names id names None is most =
      let here = once id in
      let step = sum_by-cons f id [] in
      omega arith
  next-names id names (Some s) is most =
      let here = gone id (found-counts (is_old id) sent s is) in
      let rest = most s.id in
      let step = sum_by-cons f id (names s.id) in
      omega arith

  all-names : (more : ℕ) (id : CallId) → sum_by f (names_from more sent id) ≤ 1
  all-names zero id =
      let here = once id in
      let step = sum_by-cons f id [] in
      omega arith
  all-names (suc more) id =
      next-names id (names_from more sent) (slice_get (filter (is_old id) sent) 0) refl
      (all-names more)

pub one-effect-on-way : CallLaws → WaysHaveOneEffect
one-effect-on-way laws plant scans joint is legal tied id =
    all-names (sent_on_in joint) (effects joint)
    (λ name. let one = one-effect laws plant scans joint name is legal tied in omega (arith, one))
    (λ name some.
    let one = one-effect laws plant scans joint name is legal tied in
    let sent = forwards-accepts plant scans joint name legal in
    omega (arith, one, sent, some))
    _ id
