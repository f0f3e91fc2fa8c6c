-- Lists that stand, whatever a call answers.
use Rattle.std.proofs.Common.{◌≡◌, ℕ, Bool, List, ◌++◌, filter, sym}
use Rattle.plant_types.specs.declared.net.NetPlan.{NetPlan}
use Rattle.controller_core.specs.declared.fixed.Fixed.{Fixed}
use Rattle.controller_core.specs.declared.entry.Entry.{Entry}
use Rattle.controller_core.specs.Controller.{IsLegal}
use Rattle.ring_core.specs.declared.entry.RingEntry.{RingEntry}
use Rattle.ring_core.specs.Legal.{IsLegalRing}
use Rattle.tied_lists.specs.Own.{is_of, WentOn}
use Rattle.tied_lists.proofs.Growth.{grew-one, grew-more}
use Rattle.joint_history.specs.Reading.{is_ours}
use Rattle.comm_port.specs.Sides.{RingSideIs, RamSideIs}
use Rattle.comm_port.specs.Stands.{HasGrown, RingStands, RamStands}
use Rattle.comm_port.proofs.Parts.{grew-none, net-as, fixed-as}

-- ---- one list

-- nothing was added
pub grown-none : {E : Type 0} (alone : Bool) (ours : E → Bool) (xs : List E)
    → HasGrown alone ours xs xs
grown-none alone ours xs = record { added = _; grew = grew-none alone ours xs }

-- two calls, one after the other
pub grown-more : {E : Type 0} (alone : Bool) (ours : E → Bool) (first middle last : List E)
    → HasGrown alone ours first middle
    → HasGrown alone ours middle last → HasGrown alone ours first last
grown-more alone ours first middle last a b = record {
  added = a.added ++ b.added;
  grew = grew-more alone ours first middle last a.added b.added a.grew b.grew;
}

-- a call of ours, which added entries of ours alone
pub grown-went : {E : Type 0} (alone : Bool) (ours : E → Bool) (before added after' : List E)
    → filter ours added ≡ added
    → WentOn alone ours before added after' → HasGrown alone ours before after'
grown-went alone ours before added after' mine w = record
    { added = added; grew = grew-one alone ours before added after' mine w }

-- ---- the ring's

pub ring-stays : (alone : Bool) (net : NetPlan) (n : ℕ) (ring : List RingEntry)
    → IsLegalRing net ring
    → RingStands alone net n ring ring
ring-stays alone net n ring legal = record
    { grown = grown-none alone (is_of n) ring; legal = legal }

pub ring-on : {Q : Type 0} (alone : Bool) (n : ℕ) (side side' : RingSideIs Q)
    (first middle last : List RingEntry) → side' ≡ side
    → RingStands alone side.net n first middle → RingStands alone side'.net n middle last
    → RingStands alone side.net n first last
ring-on alone n side side' first middle last same a b = record {
  grown = grown-more alone (is_of n) first middle last a.grown b.grown;
  legal = net-as (λ (m : NetPlan). IsLegalRing m last) _ _ same b.legal;
}

-- ---- the controller's

pub ram-stays : (alone : Bool) (fixed : Fixed) (known : List Entry)
    → RamStands alone fixed known known
ram-stays alone fixed known = record { grown = grown-none alone is_ours known; legal = λ l. l }

pub ram-on : {P : Type 0} (alone : Bool) (side side' : RamSideIs P) (first middle last : List Entry)
    → side' ≡ side
    → RamStands alone side.fixed first middle → RamStands alone side'.fixed middle last
    → RamStands alone side.fixed first last
ram-on alone side side' first middle last same a b = record {
  grown = grown-more alone is_ours first middle last a.grown b.grown;
  legal = λ l. fixed-as (λ (f : Fixed). IsLegal f last) _ _ same
      (b.legal (fixed-as (λ (f : Fixed). IsLegal f middle) _ _ (sym same) (a.legal l)));
}
