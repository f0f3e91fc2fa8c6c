-- The ends of all bridges.
use Rattle.std.proofs.Common.{◌≡◌, ℕ, zero, suc, ◌<◌, List, [], ◌∷◌, length, get_or, map, drop}
use Rattle.std.proofs.Common.{refl, sym, ap, subst, ◌∙◌, arith}
use Rattle.std.specs.List.{All, flat_map}
use Rattle.std.proofs.lemmas.List.Concat.{flat_map-cons}
use Rattle.std.proofs.lemmas.List.Elements.{All-cons, All-head, All-nil, All-tail}
use Rattle.plant_types.specs.declared.net.BridgePlan.{BridgePlan}
use Rattle.ring_core.specs.declared.entry.RingEntry.{RingEntry}
use Rattle.joint_history.specs.declared.joint.BridgeLog.{BridgeLog}
use Rattle.station_laws.specs.Bound.{Bound, side_bound, side_bounds}

first-sides : (ring : List RingEntry) (log : BridgeLog) (logs : List BridgeLog)
    → flat_map (side_bounds ring) (log ∷ logs)
    ≡ side_bound ring log log.left ∷ side_bound ring log log.right
    ∷ flat_map (side_bounds ring) logs
first-sides ring log logs = flat_map-cons (side_bounds ring) log logs

-- what holds of both ends of each bridge holds of all ends
pub sides-all : (P : Bound → Type 0) (ring : List RingEntry) (logs : List BridgeLog)
    → ((k : ℕ) (d : BridgeLog) → k < length logs
    → P (side_bound ring (get_or logs k d) (get_or logs k d).left)
    × P (side_bound ring (get_or logs k d) (get_or logs k d).right))
    → All P (flat_map (side_bounds ring) logs)
sides-all P ring [] each = All-nil P
sides-all P ring (log ∷ logs) each =
    let left = side_bound ring log log.left in
    let right = side_bound ring log log.right in
    let more = flat_map (side_bounds ring) logs in
    subst (All P) (sym (first-sides ring log logs))
    (All-cons P left (right ∷ more) (each 0 log (omega arith)).0
    (All-cons P right more (each 0 log (omega arith)).1
    (sides-all P ring logs (λ k d low. each (suc k) d (omega arith)))))

-- and back
pub sides-each : (P : Bound → Type 0) (ring : List RingEntry) (logs : List BridgeLog)
    → All P (flat_map (side_bounds ring) logs)
    → (k : ℕ) (d : BridgeLog) → k < length logs
    → P (side_bound ring (get_or logs k d) (get_or logs k d).left)
    × P (side_bound ring (get_or logs k d) (get_or logs k d).right)
sides-each P ring [] all k d low = absurd (omega arith)
sides-each P ring (log ∷ logs) all zero d low =
    let left = side_bound ring log log.left in
    let right = side_bound ring log log.right in
    let more = flat_map (side_bounds ring) logs in
    let both = subst (All P) (first-sides ring log logs) all in (
      All-head P left (right ∷ more) both,
      All-head P right more (All-tail P left (right ∷ more) both),
    )
sides-each P ring (log ∷ logs) all (suc k) d low =
    let left = side_bound ring log log.left in
    let right = side_bound ring log log.right in
    let more = flat_map (side_bounds ring) logs in
    let both = subst (All P) (first-sides ring log logs) all in
    sides-each P ring logs (All-tail P right more (All-tail P left (right ∷ more) both)) k d
    (omega arith)

-- their addresses are those of the plans
pub side-nodes : (ring : List RingEntry) (plans : List BridgePlan) (logs : List BridgeLog)
    → map (λ (g : BridgeLog). g.left) logs ≡ map (λ (p : BridgePlan). p.left) plans
    → map (λ (g : BridgeLog). g.right) logs ≡ map (λ (p : BridgePlan). p.right) plans
    → map (λ (s : Bound). s.node) (flat_map (side_bounds ring) logs)
    ≡ flat_map (λ (p : BridgePlan). p.left ∷ p.right ∷ []) plans
side-nodes ring [] [] lefts rights = refl
side-nodes ring [] (g ∷ gs) lefts rights =
    absurd (let n = ap (λ (l : List ℕ). length l) lefts in omega (arith, n))
side-nodes ring (p ∷ ps) [] lefts rights =
    absurd (let n = ap (λ (l : List ℕ). length l) lefts in omega (arith, n))
side-nodes ring (p ∷ ps) (g ∷ gs) lefts rights =
    let left : g.left ≡ p.left = ap (λ (l : List ℕ). get_or l 0 0) lefts in
    let right : g.right ≡ p.right = ap (λ (l : List ℕ). get_or l 0 0) rights in
    let more = side-nodes ring ps gs (ap (drop 1) lefts) (ap (drop 1) rights) in
    ap (map (λ (s : Bound). s.node)) (first-sides ring g gs)
    ∙ ((λ i. left i ∷ right i ∷ more i)
    ∙ sym (flat_map-cons (λ (p : BridgePlan). p.left ∷ p.right ∷ []) p ps))
