-- The rings of a joint history in which that of one network was written.
use Rattle.std.proofs.Common.{◌≡◌, ◌≢◌, ◌⊎◌, ℕ, zero, suc, ◌==◌, Bool, true, false, cond, List, []}
use Rattle.std.proofs.Common.{◌∷◌}
use Rattle.std.proofs.Common.{◌++◌, map, Option, Some, None, inl, inr, refl, sym, ap, subst, ◌∙◌}
use Rattle.std.proofs.Common.{append-nil, eq-eqb}
use Rattle.std.specs.Prelude.{option_map}
use Rattle.std.specs.List.{find, slice_get}
use Rattle.std.proofs.lemmas.Bool.{cases_eq, cond-false, cond-true, eqb-true, ne_eqb}
use Rattle.plant_types.specs.declared.net.NetPlan.{NetPlan}
use Rattle.ring_core.specs.declared.entry.RingEntry.{RingEntry}
use Rattle.joint_history.specs.declared.joint.RingLog.{RingLog}
use Rattle.joint_history.specs.Nets.{entries_if, entries_on}
use Rattle.serial_run.specs.Turns.{empty_ring_log, with_entries}
use Rattle.serial_run.proofs.Lists.{found-place}

-- the ring is that of a network
abbrev pub is_ring_of : ℕ → RingLog → Bool
is_ring_of k ring = ring.network == k

-- a network has its ring among these
pub record HasRing (k : ℕ) (rings : List RingLog) : Type 0 where
  pub ring : RingLog
  pub found : find (is_ring_of k) rings ≡ Some ring

-- a list went on by these entries, or by none
pub record WentOnBy (done old new : List RingEntry) : Type 0 where
  pub more : List RingEntry
  pub is : new ≡ old ++ more
  pub either : (more ≡ done) ⊎ (more ≡ [])

-- each network of a plant has its ring at first
pub ring-at-first : (nets : List NetPlan) (at : ℕ) (net : NetPlan)
    → slice_get nets at ≡ Some net
    → HasRing net.number (map empty_ring_log nets)
ring-at-first [] at net is = absurd (let bad : None ≡ Some net = is in cc)
ring-at-first (x ∷ nets) zero net is =
    let same : x ≡ net = cc in
    record {
      ring = empty_ring_log x;
      found = cond-true (x.number == net.number) _ _
          (eq-eqb x.number net.number (ap (λ (m : NetPlan). m.number) same));
    }
ring-at-first (x ∷ nets) (suc at) net is =
    by (x.number == net.number) refl (ring-at-first nets at net is)
  where
    by : (b : Bool) → (x.number == net.number) ≡ b → HasRing net.number (map empty_ring_log nets)
        → HasRing net.number (map empty_ring_log (x ∷ nets))
    by true same more = record {
      ring = empty_ring_log x;
      found = cond-true (x.number == net.number) _ _ same;
    }
    by false other more = record {
      ring = more.ring;
      found = cond-false (x.number == net.number) _ _ other ∙ more.found;
    }

-- nothing is noted on the rings at first
pub none-at : (nets : List NetPlan) (k : ℕ) → entries_on k (map empty_ring_log nets) ≡ []
none-at [] k = refl
none-at (net ∷ nets) k = by (net.number == k) (none-at nets k)
  where
    by : (b : Bool) → entries_on k (map empty_ring_log nets) ≡ []
        → entries_if (cond b (Some (empty_ring_log net))
        (find (is_ring_of k) (map empty_ring_log nets))) ≡ []
    by true more = refl
    by false more = more

module _ (network : ℕ) (list : List RingEntry) where
  abbrev written : List RingLog → List RingLog
  written rings = map (with_entries network list) rings

  -- what is found among them
  find-written : (k : ℕ) (rings : List RingLog) → find (is_ring_of k) (written rings)
      ≡ option_map (with_entries network list) (find (is_ring_of k) rings)
  find-written k [] = refl
  find-written k (ring ∷ rings) = at (ring.network == k) (find-written k rings)
    where
      at : (b : Bool) → find (is_ring_of k) (written rings)
          ≡ option_map (with_entries network list) (find (is_ring_of k) rings)
          → cond b (Some (with_entries network list ring)) (find (is_ring_of k) (written rings))
          ≡ option_map (with_entries network list)
          (cond b (Some ring) (find (is_ring_of k) rings))
      at true more = refl
      at false more = more

  -- each network keeps its ring
  pub written-has : (k : ℕ) (rings : List RingLog) → HasRing k rings → HasRing k (written rings)
  written-has k rings has = record {
    ring = with_entries network list has.ring;
    found = find-written k rings ∙ ap (option_map (with_entries network list)) has.found;
  }

  -- what was written is the ring of the network
  pub written-here : (rings : List RingLog) → HasRing network rings
      → entries_on network (written rings) ≡ list
  unfolding written-has
  written-here rings has =
      ap entries_if (written-has network rings has).found
      ∙ cond-true (has.ring.network == network) list has.ring.entries
      (found-place (is_ring_of network) rings has.ring has.found).2

  -- another network has the ring that it had
  pub written-other : (k : ℕ) (rings : List RingLog) → k ≢ network
      → entries_on k (written rings) ≡ entries_on k rings
  written-other k rings other =
      ap entries_if (find-written k rings) ∙ at (find (is_ring_of k) rings) refl
    where
      at : (o : Option RingLog) → find (is_ring_of k) rings ≡ o
          → entries_if (option_map (with_entries network list) o) ≡ entries_if o
      at None is = refl
      at (Some ring) is = cond-false (ring.network == network) list ring.entries
          (ne_eqb ring.network network (λ same. other
          (sym (eqb-true ring.network k (found-place (is_ring_of k) rings ring is).2) ∙ same)))

  -- so that each list went on by what was added to the one, or by nothing
  pub written-goes : (done : List RingEntry) (rings : List RingLog)
      → list ≡ entries_on network rings ++ done → (k : ℕ)
      → WentOnBy done (entries_on k rings) (entries_on k (written rings))
  written-goes done rings is k = elim (cases_eq k network) [
    | inl same ↦ subst (λ j. WentOnBy done (entries_on j rings) (entries_on j (written rings)))
        (sym same) (at (find (is_ring_of network) rings) refl)
    | inr other ↦ record {
      more = [];
      is = written-other k rings other ∙ sym (append-nil (entries_on k rings));
      either = inr refl;
    }
  ]
    where
      at : (o : Option RingLog) → find (is_ring_of network) rings ≡ o
          → WentOnBy done (entries_on network rings) (entries_on network (written rings))
      at None none = record {
        more = [];
        is = ap entries_if (find-written network rings
            ∙ ap (option_map (with_entries network list)) none)
            ∙ sym (ap entries_if none) ∙ sym (append-nil (entries_on network rings));
        either = inr refl;
      }
      at (Some ring) found = record {
        more = done;
        is = written-here rings (record { ring = ring; found = found }) ∙ is;
        either = inl refl;
      }
