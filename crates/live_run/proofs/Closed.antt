-- The ring of each network, as its gate was closed.
use Rattle.std.proofs.Common.{◌≡◌, ℕ, ◌==◌, true, false, List, [], ◌∷◌, map}
use Rattle.std.proofs.Common.{◌++◌, Some, sym, ap, subst, ◌∙◌, ⊎_elim}
use Rattle.std.specs.List.{AllZip, slice_get}
use Rattle.std.proofs.lemmas.Bool.{cases_Bool}
use Rattle.joint_history.specs.declared.joint.RingLog.{RingLog}
use Rattle.joint_history.specs.JointLaws.{IsLegalRingLog}
use Rattle.joint_history.specs.Nets.{entries_if, entries_on}
use Rattle.live_run.specs.Closing.{AllClosed, ClosedTo, net_of_gate}
use Rattle.live_run.specs.Homes.{IsHomeOf, Purse, RingGate, is_ring_of, place_of_ring}
use Rattle.live_run.proofs.Places.{find-here, find-later, place-here, place-later}

-- closed rings have legal lists
pub closed-legal : (gates : List RingGate) (purses : List Purse) (rings : List RingLog)
    → AllClosed gates purses rings → AllZip IsLegalRingLog (map net_of_gate gates) rings
closed-legal [] [] [] all = tt
closed-legal [] [] (r ∷ rings) all = absurd all
closed-legal [] (p ∷ purses) rings all = absurd all
closed-legal (g ∷ gates) [] rings all = absurd all
closed-legal (g ∷ gates) (p ∷ purses) [] all = absurd all
closed-legal (g ∷ gates) (p ∷ purses) (r ∷ rings) all =
    ((all.0.network, all.0.legal), closed-legal gates purses rings all.1)

-- one ring more was closed
pub closed-push : (gates : List RingGate) (purses : List Purse) (rings : List RingLog)
    (gate : RingGate) (purse : Purse) (ring : RingLog) → AllClosed gates purses rings
    → ClosedTo gate purse ring
    → AllClosed (gates ++ gate ∷ []) (purses ++ purse ∷ []) (rings ++ ring ∷ [])
closed-push [] [] [] gate purse ring all it = (it, tt)
closed-push [] [] (r ∷ rings) gate purse ring all it = absurd all
closed-push [] (p ∷ purses) rings gate purse ring all it = absurd all
closed-push (g ∷ gates) [] rings gate purse ring all it = absurd all
closed-push (g ∷ gates) (p ∷ purses) [] gate purse ring all it = absurd all
closed-push (g ∷ gates) (p ∷ purses) (r ∷ rings) gate purse ring all it =
    (all.0, closed-push gates purses rings gate purse ring all.1 it)

-- what pass 0 of the gate of a network's ring kept, and what was noted on that ring
pub record ClosedAt (gates : List RingGate) (purses : List Purse) (rings : List RingLog)
    (network : ℕ) (gate : RingGate) : Type 0 where
  pub purse : Purse
  pub ring : RingLog
  pub closed : ClosedTo gate purse ring
  pub kept : slice_get purses (place_of_ring gates network) ≡ Some purse
  pub entries : entries_on network rings ≡ ring.entries

pub closed-at : (network : ℕ) (gate : RingGate) (gates : List RingGate) (purses : List Purse)
    (rings : List RingLog) → AllClosed gates purses rings → IsHomeOf gates network gate
    → ClosedAt gates purses rings network gate
closed-at network gate [] purses rings all home = absurd (cc)
closed-at network gate (g ∷ gates) [] rings all home = absurd all
closed-at network gate (g ∷ gates) (p ∷ purses) [] all home = absurd all
closed-at network gate (g ∷ gates) (p ∷ purses) (r ∷ rings) all home =
    let test = is_ring_of network in
    let named = λ (x : RingLog). x.network == network in
    let number = ap (λ (n : ℕ). n == network) all.0.network in
    ⊎_elim
    (λ (yes : test g ≡ true).
    let first : Some g ≡ Some gate = sym (find-here test g gates yes) ∙ home in
    let same : g ≡ gate = cc in
    record {
      purse = p;
      ring = r;
      closed = subst (λ (x : RingGate). ClosedTo x p r) same all.0;
      kept = ap (slice_get (p ∷ purses)) (place-here test g gates yes);
      entries = ap entries_if (find-here named r rings (number ∙ yes));
    })
    (λ (no' : test g ≡ false).
    let rest = closed-at network gate gates purses rings all.1
    (sym (find-later test g gates no') ∙ home) in
    record {
      purse = rest.purse;
      ring = rest.ring;
      closed = rest.closed;
      kept = ap (slice_get (p ∷ purses)) (place-later test g gates no') ∙ rest.kept;
      entries = ap entries_if (find-later named r rings (number ∙ no')) ∙ rest.entries;
    })
    (cases_Bool (test g))
