-- There is one first standstill.
use Rattle.std.proofs.Common.{◌≡◌, ℕ, ◌≤◌, List, [], ◌∷◌, ◌++◌, sym, ap, ◌∙◌, subst, arith}
use Rattle.std.specs.List.{AllByRecursion as Each}
use Rattle.ring_core.specs.Words.{maker}
use Rattle.ring_core.specs.declared.entry.RingEntry.{RingEntry}
use Rattle.one_order.specs.Orders.{Log}
use Rattle.one_order.proofs.Fronts as fronts
use Rattle.entry_causes.specs.Causes.{StationEntry, no_notes, no_deeds, note, deed, AreCaused}
use Rattle.entry_causes.specs.InTime.{IsInTime}
use Rattle.entry_causes.proofs.Counts.{both}
use Rattle.time_judge.specs.Reaching.{AreInTimeUpTo}
use Rattle.time_judge.specs.Judging.{OneStandstill}
use Rattle.joint_history.specs.Nets.{noted_on_rings}

same-first : (ring : List RingEntry) (a b : List (Log StationEntry)) (l k : Log StationEntry)
    (c d : List (Log StationEntry)) → a ++ l ∷ c ≡ b ++ k ∷ d
    → Each (IsInTime ring) a → Each (IsInTime ring) b → (IsInTime ring l → ⊥)
    → (IsInTime ring k → ⊥) → l ≡ k
same-first ring [] [] l k c d q x y n m = cc
same-first ring [] (e ∷ b) l k c d q x y n m =
    let is : e ≡ l = cc in absurd (n (subst (λ (t : Log StationEntry). IsInTime ring t) is y.0))
same-first ring (e ∷ a) [] l k c d q x y n m =
    let is : e ≡ k = cc in absurd (m (subst (λ (t : Log StationEntry). IsInTime ring t) is x.0))
same-first ring (e ∷ a) (f ∷ b) l k c d q x y n m = same-first ring a b l k c d (cc) x.1 y.1 n m

up-to : (n : ℕ) (list : List StationEntry) (ring : List RingEntry) (a b p q : ℕ)
    → AreInTimeUpTo n list ring a p → AreInTimeUpTo n list ring b q → (a ≤ b) × (p ≤ q)
up-to n list ring a b p q x y =
    fronts.up-to-is-one maker note deed AreCaused both no_notes no_deeds n list ring a b p q x y

pub one : OneStandstill
one joint first other x y =
    let ring = noted_on_rings joint in
    let same : y.log ≡ x.log = sym
    (same-first ring x.before y.before x.log y.log x.after y.after
    (sym x.logs_are ∙ y.logs_are) x.in_time y.in_time x.here.late y.here.late) in
    let there : AreInTimeUpTo x.log.node x.log.entries ring other.entries other.place
    = subst (λ (l : Log StationEntry). AreInTimeUpTo l.node l.entries ring other.entries
    other.place) same y.here.up_to in
    let low = up-to x.log.node x.log.entries ring first.entries other.entries first.place
    other.place x.here.up_to there in
    let high = up-to x.log.node x.log.entries ring other.entries first.entries other.place
    first.place there x.here.up_to in
    let nodes : first.node ≡ other.node = x.here.node
    ∙ (ap (λ (l : Log StationEntry). l.node) (sym same) ∙ sym y.here.node) in
    let entries : first.entries ≡ other.entries = omega (arith, low.0, high.0) in
    let places : first.place ≡ other.place = omega (arith, low.1, high.1) in
    λ i. record { node = nodes i; entries = entries i; place = places i }
