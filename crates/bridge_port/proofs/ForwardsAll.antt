-- All requests that an end may send on, one after another.
use Rattle.std.proofs.Common.{◌≡◌, ℕ, ◌<◌, Bool, true, false, ◌||◌, List, [], Option, Some, None}
use Rattle.std.proofs.Common.{length, set, refl, sym, ◌∙◌, subst, arith, append-nil}
use Rattle.std.proofs.lemmas.List.{length-set}
use Rattle.plant_types.specs.declared.net.BridgePlan.{BridgePlan}
use Rattle.plant_types.specs.declared.net.NetPlan.{NetPlan}
use Rattle.bridge_relay.specs.declared.entry.BridgeEntry.{BridgeEntry}
use Rattle.bridge_relay.specs.Laws.{is_by}
use Rattle.ring_core.specs.Legal.{IsPath}
use Rattle.ring_core.specs.Machine.{NodeIs, path_places}
use Rattle.ring_core.specs.declared.entry.RingEntry.{RingEntry}
use Rattle.tied_lists.specs.Own.{Grew, is_of}
use Rattle.tied_lists.proofs.Growth.{grew-more}
use Rattle.comm_port.specs.Giving.{MaySend, part_at}
use Rattle.comm_port.specs.Parts.{PartOf}
use Rattle.comm_port.proofs.Parts.{part-both}
use Rattle.bridge_port.specs.EndParts.{AreForwarded, ForwardsNext, ForwardsNone, ForwardsOn}
use Rattle.bridge_port.specs.EndParts.{ForwardsOne, is_any_chosen}
use Rattle.bridge_port.proofs.Posted.{any-set, forwarded-both, may-more}

module _ (alone alone' : Bool) (plan : BridgePlan) (net : NetPlan) (n : ℕ)
    (list new_list : List BridgeEntry) (ring new_ring : List RingEntry) where
  -- one was sent on, or none
  pub forwards-some : (o : Option ℕ) (path : ℕ) → o ≡ Some path
      → ForwardsNext alone alone' plan net n list new_list ring new_ring o
      → ForwardsOne alone alone' plan net n path list new_list ring new_ring
  forwards-some o path is f = subst
      (λ (x : Option ℕ). ForwardsNext alone alone' plan net n list new_list ring new_ring x) is f

  pub forwards-none : (o : Option ℕ) → o ≡ None
      → ForwardsNext alone alone' plan net n list new_list ring new_ring o
      → ForwardsNone alone plan n list new_list ring new_ring
  forwards-none o is f = subst
      (λ (x : Option ℕ). ForwardsNext alone alone' plan net n list new_list ring new_ring x) is f

-- those so far, and the paths that they took
pub record ForwardsSoFar (alone alone' : Bool) (net : NetPlan) (n : ℕ)
    (list new_list : List BridgeEntry) (ring new_ring : List RingEntry) (fresh : List Bool)
    : Type 0 where
  pub size : length fresh ≡ path_places
  pub may : MaySend net n fresh (part_at net n new_ring)
  pub part : PartOf alone alone' (is_by n) n (AreForwarded (is_any_chosen fresh) n) list new_list
      ring new_ring

or-true : (b : Bool) → (b || true) ≡ true
or-true true = refl
or-true false = refl

-- and one more
pub forwards-next : (alone alone' : Bool) (plan : BridgePlan) (net : NetPlan) (n path at : ℕ)
    (one two three : List BridgeEntry) (x y z : List RingEntry) (fresh : List Bool)
    → 0 < net.answer → at ≡ path
    → ForwardsSoFar alone alone' net n one two x y fresh
    → ForwardsOne alone alone' plan net n path two three y z
    → ForwardsSoFar alone alone' net n one three x z (set fresh at true)
forwards-next alone alone' plan net n path at one two three x y z fresh wait is a f =
    let high = f.is_path.1 in
    let size = a.size in
    let low : path < length fresh = omega (arith, high, size) in
    let chosen = set fresh path true in
    let may : MaySend net n chosen (part_at net n z) = subst
    (λ (k : ℕ). MaySend net n (set fresh k true) (part_at net n z)) f.path_is
    (subst (λ (c : NodeIs). MaySend net n (set fresh f.request.id.path true) c) (sym f.node_is)
    (may-more net n fresh (part_at net n y) f.request wait f.kind
    (subst (λ (k : ℕ). IsPath k) (sym f.path_is) f.is_path) size a.may))
    in
    let both = or-true (is_any_chosen fresh) ∙ sym (any-set fresh path low) in
    let part : PartOf alone alone' (is_by n) n (AreForwarded (is_any_chosen chosen) n) one three
    x z = subst (λ (b : Bool). PartOf alone alone' (is_by n) n (AreForwarded b n) one three x z)
    both
    (part-both alone alone' (is_by n) n (AreForwarded (is_any_chosen fresh) n)
    (AreForwarded true n) (AreForwarded (is_any_chosen fresh || true) n) one two three x y z
    (forwarded-both n (is_any_chosen fresh) true) a.part f.part) in
    subst (λ (k : ℕ). ForwardsSoFar alone alone' net n one three x z (set fresh k true)) (sym is)
    (record {
      size = length-set _ _ _ ∙ size;
      may = may;
      part = part;
    })

-- and no more
pub forwards-end : (alone alone' : Bool) (plan : BridgePlan) (net : NetPlan) (n : ℕ)
    (one two three : List BridgeEntry) (x y z : List RingEntry) (fresh : List Bool)
    → ForwardsSoFar alone alone' net n one two x y fresh
    → ForwardsNone alone plan n two three y z
    → ForwardsOn alone alone' plan net n one three x z fresh
forwards-end alone alone' plan net n one two three x y z fresh a f =
    let station = subst (λ (l : List BridgeEntry). Grew alone (is_by n)
    one l three) (append-nil a.part.noted)
    (grew-more alone (is_by n) one two three a.part.noted [] a.part.station f.noted) in
    record {
      all = record {
        part = record {
          noted = a.part.noted;
          done = a.part.done;
          due = a.part.due.0;
          station = station;
          node = subst (λ (l : List RingEntry). Grew alone' (is_of n) x
              a.part.done l) (sym f.same) a.part.node;
        };
        none_due = f.none_due;
      };
      any = a.part.due.1;
      may = subst (λ (l : List RingEntry). MaySend net n fresh (part_at net n l)) (sym f.same)
          a.may;
    }
