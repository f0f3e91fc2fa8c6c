-- Steps of a turn, one after another.
use Rattle.std.proofs.Common.{◌≡◌, ℕ, Bool, true, false, List, [], ◌∷◌, ◌++◌, filter, Option, Some}
use Rattle.std.proofs.Common.{None, Result, refl, sym, ap, ◌∙◌, subst, append_assoc, append-nil}
use Rattle.std.proofs.Common.{arith}
use Rattle.controller_core.specs.declared.entry.Entry.{Entry}
use Rattle.controller_core.specs.Controller.{IsLegal}
use Rattle.ring_core.specs.declared.frame.Frame.{Frame}
use Rattle.ring_core.specs.declared.entry.LeaveCause.{LeaveCause}
use Rattle.ring_core.specs.declared.entry.RingEntry.{RingEntry}
use Rattle.ring_core.specs.declared.entry.RingEntry.TheVariants.{Leave, Take}
use Rattle.ring_core.specs.Legal.{IsLegalRing}
use Rattle.host_port.specs.declared.entry.HostEntry.{HostEntry}
use Rattle.host_port.specs.Host.{HostIs, HostWentOn}
use Rattle.host_port.specs.Legal.{IsHostHistory}
use Rattle.tied_lists.specs.Own.{added_if, is_of}
use Rattle.joint_history.specs.Reading.{is_ours}
use Rattle.comm_port.specs.declared.ram_side.RamSide as ram_sides
use Rattle.comm_port.specs.declared.ring_side.RingSide as ring_sides
use Rattle.comm_port.specs.Sides.{AddsNothing, CallAdds, CallNotes, KeepsForOne, KeepsRoom}
use Rattle.comm_port.specs.Sides.{LeaveAdds, NotesNothing, taken_entries}
use Rattle.comm_port.specs.BothSteps.{BothStep, RamStep}
use Rattle.comm_port.specs.HostSteps.{HostStep}
use Rattle.comm_port.specs.RingSteps.{RingStep}
use Rattle.comm_port.proofs.RingTurns.{mine}
use Rattle.comm_port.proofs.Stands.{grown-went, ram-on, ram-stays, ring-on, ring-stays}

-- ---- what memory is kept for

room-stays : {A : Type 0} (alone : Bool) (a : A) → KeepsRoom alone a a
room-stays true a = refl
room-stays false a = tt

room-then : {A : Type 0} (alone : Bool) (a b d : A) → KeepsRoom alone a b → KeepsRoom alone b d
    → KeepsRoom alone a d
room-then true a b d x y = y ∙ x
room-then false a b d x y = tt

one-stays : (alone : Bool) (a : ℕ) → KeepsForOne alone a a
one-stays true a = omega arith
one-stays false a = tt

one-then : (alone : Bool) (a b d : ℕ) → KeepsForOne alone a b → KeepsForOne alone b d
    → KeepsForOne alone a d
one-then true a b d x y = omega (arith, x, y)
one-then false a b d x y = tt

-- what is as it was is kept for no more
one-kept : (alone : Bool) (a b : ℕ) → KeepsRoom alone a b → KeepsForOne alone a b
one-kept true a b is = omega (arith, is)
one-kept false a b is = tt

-- ---- at the ring

-- the entry of a Take is the node's
pub mine-taken : (n : ℕ) (taken : Option Frame)
    → filter (is_of n) (taken_entries n taken) ≡ taken_entries n taken
mine-taken n None = refl
mine-taken n (Some f) = mine n (Take n f) refl

module _ {R Q : Type 0} (r : ring_sides.Ghosts R Q) where
  -- nothing was done
  pub ring-rest : (n : ℕ) (ring : R) → IsLegalRing (r.side ring).net (r.known ring)
      → RingStep r n ring ring
  ring-rest n ring legal = record {
    same = refl;
    kept = one-stays r.alone (r.room ring);
    stands = ring-stays r.alone (r.side ring).net n (r.known ring) legal;
  }

  -- two steps
  pub ring-then : (n : ℕ) {a b d : R} → RingStep r n a b → RingStep r n b d → RingStep r n a d
  ring-then n {a} {b} {d} x y = record {
    same = y.same ∙ x.same;
    kept = one-then r.alone (r.room a) (r.room b) (r.room d) x.kept y.kept;
    stands = ring-on r.alone n (r.side a) (r.side b) (r.known a) (r.known b) (r.known d) x.same
        x.stands y.stands;
  }

  -- a call, done or refused
  pub ring-called : (n : ℕ) {T X : Type 0} {a b : R} {result : Result T X}
      {added : T → List RingEntry} → r.side b ≡ r.side a
      → IsLegalRing (r.side a).net (r.known b) → CallAdds r.alone r.known r.room n a b result added
      → filter (is_of n) (added_if result added) ≡ added_if result added → RingStep r n a b
  ring-called n {T} {X} {a} {b} {result} {added} same legal went own = record {
    same = same;
    kept = one-kept r.alone (r.room a) (r.room b) went.kept;
    stands = record {
      grown = grown-went r.alone (is_of n) (r.known a) (added_if result added) (r.known b) own
          went.list;
      legal = legal;
    };
  }

  -- a question
  pub ring-asked : (n : ℕ) {a b : R} → r.side b ≡ r.side a → IsLegalRing (r.side a).net (r.known b)
      → AddsNothing r.alone r.known r.room n a b → RingStep r n a b
  ring-asked n {a} {b} same legal went = record {
    same = same;
    kept = one-kept r.alone (r.room a) (r.room b) went.kept;
    stands = record {
      grown = grown-went r.alone (is_of n) (r.known a) [] (r.known b) refl
          went.list;
      legal = legal;
    };
  }

  -- a Leave, done or refused
  pub ring-left : (n : ℕ) {T X : Type 0} {cause : LeaveCause} {a b : R} {result : Result T X}
      → r.side b ≡ r.side a
      → IsLegalRing (r.side a).net (r.known b) → LeaveAdds r.alone r.known r.room n cause a b result
      → filter (is_of n) (added_if result (λ _. Leave n cause ∷ [])) ≡ added_if result
      (λ _. Leave n cause ∷ []) → RingStep r n a b
  ring-left n {T} {X} {cause} {a} {b} {result} same legal went own = record {
    same = same;
    kept = went.kept;
    stands = record {
      grown = grown-went r.alone (is_of n) (r.known a) (added_if result (λ _. Leave n cause ∷ []))
          (r.known b) own went.list;
      legal = legal;
    };
  }

  -- of the node that is the call's own
  pub ring-of : (m n : ℕ) {a b : R} → m ≡ n → RingStep r m a b → RingStep r n a b
  ring-of m n {a} {b} is s = subst (λ (k : ℕ). RingStep r k a b) is s

-- ---- at the controller

module _ {M P : Type 0} (m : ram_sides.Ghosts M P) where
  pub ram-rest : (ram : M) → RamStep m ram ram
  ram-rest ram = record {
    same = refl;
    kept = room-stays m.alone (m.reserved ram);
    stands = ram-stays m.alone (m.side ram).fixed (m.known ram);
  }

  pub ram-then : {a b d : M} → RamStep m a b → RamStep m b d → RamStep m a d
  ram-then {a} {b} {d} x y = record {
    same = y.same ∙ x.same;
    kept = room-then m.alone (m.reserved a) (m.reserved b) (m.reserved d) x.kept y.kept;
    stands = ram-on m.alone (m.side a) (m.side b) (m.known a) (m.known b) (m.known d) x.same
        x.stands y.stands;
  }

  pub ram-called : {T X : Type 0} {a b : M} {result : Result T X} {added : T → List Entry}
      → m.side b ≡ m.side a
      → IsLegal (m.side a).fixed (m.known b)
      → CallNotes m.alone m.known m.reserved a b result added
      → filter is_ours (added_if result added) ≡ added_if result added → RamStep m a b
  ram-called {T} {X} {a} {b} {result} {added} same legal went own = record {
    same = same;
    kept = went.kept;
    stands = record {
      grown = grown-went m.alone is_ours (m.known a) (added_if result added) (m.known b) own
          went.list;
      legal = λ _. legal;
    };
  }

  pub ram-asked : {a b : M} → m.side b ≡ m.side a → IsLegal (m.side a).fixed (m.known b)
      → NotesNothing m.alone m.known m.reserved a b
      → RamStep m a b
  ram-asked {a} {b} same legal went = record {
    same = same;
    kept = went.kept;
    stands = record {
      grown = grown-went m.alone is_ours (m.known a) [] (m.known b) refl went.list;
      legal = λ _. legal;
    };
  }

-- ---- at both

module _ {M P R Q : Type 0} (m : ram_sides.Ghosts M P) (r : ring_sides.Ghosts R Q) where
  pub both-rest : (n : ℕ) (ram : M) (ring : R) → IsLegalRing (r.side ring).net (r.known ring)
      → BothStep m r n ram ram ring ring
  both-rest n ram ring legal = record { station = ram-rest m ram; node = ring-rest r n ring legal }

  pub both-then : (n : ℕ) {a b d : M} {x y z : R} → BothStep m r n a b x y → BothStep m r n b d y z
      → BothStep m r n a d x z
  both-then n one two = record {
    station = ram-then m one.station two.station;
    node = ring-then r n
        one.node two.node;
  }

  -- only one of them went on
  pub both-ring : (n : ℕ) (ram : M) {x y : R} → RingStep r n x y → BothStep m r n ram ram x y
  both-ring n ram s = record { station = ram-rest m ram; node = s }

  pub both-ram : (n : ℕ) {a b : M} (ring : R) → IsLegalRing (r.side ring).net (r.known ring)
      → RamStep m a b → BothStep m r n a b ring ring
  both-ram n ring legal s = record { station = s; node = ring-rest r n ring legal }

-- ---- of a host

module _ {R Q : Type 0} (r : ring_sides.Ghosts R Q) where
  -- the node alone did something
  pub host-ring : (n : ℕ) (host : HostIs) {x y : R} → IsHostHistory host.plan host.history
      → RingStep r n x y → HostStep r n host host x y
  host-ring n host sound s = record {
    plan = refl;
    legal_list = sound;
    noted = [];
    list = sym (append-nil host.history);
    node = s;
  }

  -- the host noted something
  pub host-noted : (n : ℕ) {a b : HostIs} {added : List HostEntry} {x y : R} → HostWentOn added a b
      → RingStep r n x y → HostStep r n a b x y
  host-noted n {a} {b} {added} w s = record
      { plan = w.plan; legal_list = w.legal; noted = added; list = w.history; node = s }

  pub host-then : (n : ℕ) {a b d : HostIs} {x y z : R} → HostStep r n a b x y → HostStep r n b d y z
      → HostStep r n a d x z
  host-then n {a} {b} {d} one two = record {
    plan = two.plan ∙ one.plan;
    legal_list = two.legal_list;
    noted = one.noted ++ two.noted;
    list = two.list ∙ ap (λ l. l ++ two.noted) one.list ∙ append_assoc a.history one.noted
        two.noted;
    node = ring-then r n one.node two.node;
  }
