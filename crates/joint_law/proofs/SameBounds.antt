-- Stations that are the same to a node come to the same end of a law.
use Rattle.std.proofs.Common.{◌≡◌, ℕ, zero, suc, ◌+◌, List, [], ◌∷◌, ◌++◌, map, Option}
use Rattle.std.proofs.Common.{Some, None, refl, sym, subst, ◌∙◌, arith}
use Rattle.std.specs.List.{All, AllZip, Any, flat_map}
use Rattle.std.proofs.lemmas.List.Concat.{flat_map-cons}
use Rattle.std.proofs.lemmas.List.Elements.{All-cons, All-head, All-nil, All-tail}
use Rattle.ring_core.specs.declared.entry.RingEntry.{RingEntry}
use Rattle.tied_lists.specs.Own.{own}
use Rattle.joint_history.specs.declared.joint.BridgeLog.{BridgeLog}
use Rattle.joint_history.specs.declared.joint.ControllerLog.{ControllerLog}
use Rattle.joint_history.specs.declared.joint.HostLog.{HostLog}
use Rattle.station_laws.specs.Bound.{Bound, BreaksLaw, KeepsLaw, controller_bound, host_bound}
use Rattle.station_laws.specs.Bound.{side_bound, side_bounds}
use Rattle.station_laws.specs.declared.law.Law.{Law}
use Rattle.joint_law.specs.LawEnds.{IsLogsEnd}

-- two stations have one address, and are the same if it is this
pub record SameAt (node : ℕ) (s t : Bound) : Type 0 where
  pub address : s.node ≡ t.node
  pub same : s.node ≡ node → s ≡ t

keeps-as : (law : Law) (node : ℕ) (xs ys : List Bound) → AllZip (SameAt node) xs ys
    → All (λ (s : Bound). s.node ≡ node → KeepsLaw law s) xs
    → All (λ (s : Bound). s.node ≡ node → KeepsLaw law s) ys
keeps-as law node [] [] zip all = All-nil (λ (s : Bound). s.node ≡ node → KeepsLaw law s)
keeps-as law node [] (y ∷ ys) zip all = absurd zip
keeps-as law node (x ∷ xs) [] zip all = absurd zip
keeps-as law node (x ∷ xs) (y ∷ ys) zip all =
    let Keeps : Bound → Type 0 = λ s. s.node ≡ node → KeepsLaw law s in
    All-cons Keeps y ys
    (λ here.
    let mine : x.node ≡ node = zip.0.address ∙ here in
    subst (KeepsLaw law) (zip.0.same mine) (All-head Keeps x xs all mine))
    (keeps-as law node xs ys zip.1 (All-tail Keeps x xs all))

breaks-as : (law : Law) (node place : ℕ) (xs ys : List Bound) → AllZip (SameAt node) xs ys
    → Any (λ (s : Bound). (s.node ≡ node) × BreaksLaw law s place) xs
    → Any (λ (s : Bound). (s.node ≡ node) × BreaksLaw law s place) ys
breaks-as law node place [] ys zip any = absurd (let low = any.2 in omega (arith, low))
breaks-as law node place (x ∷ xs) [] zip any = absurd zip
breaks-as law node place (x ∷ xs) (y ∷ ys) zip (zero, s, low, is, breaks) =
    let Breaks : Bound → Type 0 = λ t. (t.node ≡ node) × BreaksLaw law t place in
    let here = subst Breaks (sym is) breaks in
    (0, y, omega arith, refl, subst Breaks (zip.0.same here.0) here)
breaks-as law node place (x ∷ xs) (y ∷ ys) zip (suc k, s, low, is, breaks) =
    let more = breaks-as law node place xs ys zip.1 (k, s, omega (arith, low), is, breaks) in (
      suc more.0,
      more.1,
      let within = more.2 in omega (arith, within),
      more.3,
      more.4,
    )

pub ends-as : (law : Law) (node : ℕ) (xs ys : List Bound) (end : Option ℕ)
    → AllZip (SameAt node) xs ys → IsLogsEnd law node xs end → IsLogsEnd law node ys end
ends-as law node xs ys None zip all = keeps-as law node xs ys zip all
ends-as law node xs ys (Some place) zip any = breaks-as law node (place + 1) xs ys zip any

-- ---- stations by two lists of entries that are the same to a node

zip-map : {L : Type 0} (node : ℕ) (bound other : L → Bound)
    → ((log : L) → SameAt node (bound log) (other log)) → (logs : List L)
    → AllZip (SameAt node) (map bound logs) (map other logs)
zip-map node bound other same [] = tt
zip-map node bound other same (log ∷ logs) = (same log, zip-map node bound other same logs)

module _ (node : ℕ) (one two : List RingEntry) (same : own node one ≡ own node two) where
  own-same : (n : ℕ) → n ≡ node → own n one ≡ own n two
  own-same n is = subst (λ (m : ℕ). own m one ≡ own m two) (sym is) same

  pub controllers-same : (logs : List ControllerLog)
      → AllZip (SameAt node) (map (controller_bound one) logs) (map (controller_bound two) logs)
  controllers-same logs =
      zip-map node (controller_bound one) (controller_bound two) (λ log. record {
        address = refl;
        same = λ is i. record (controller_bound one log) { ring = own-same log.node is i };
      }) logs

  pub hosts-same : (logs : List HostLog)
      → AllZip (SameAt node) (map (host_bound one) logs) (map (host_bound two) logs)
  hosts-same logs =
      zip-map node (host_bound one) (host_bound two) (λ log. record {
        address = refl;
        same = λ is i. record (host_bound one log) { ring = own-same log.node is i };
      }) logs

  side-same : (log : BridgeLog) (side : ℕ)
      → SameAt node (side_bound one log side) (side_bound two log side)
  side-same log side = record {
    address = refl;
    same = λ is i. record (side_bound one log side) { ring = own-same side is i };
  }

  pub sides-same : (logs : List BridgeLog)
      → AllZip (SameAt node) (flat_map (side_bounds one) logs) (flat_map (side_bounds two) logs)
  sides-same [] = tt
  sides-same (log ∷ logs) =
      subst (λ (l : List Bound). AllZip (SameAt node) l (flat_map (side_bounds two) (log ∷ logs)))
      (sym (flat_map-cons (side_bounds one) log logs))
      (subst (AllZip (SameAt node) (side_bounds one log ++ flat_map (side_bounds one) logs))
      (sym (flat_map-cons (side_bounds two) log logs))
      (side-same log log.left, (side-same log log.right, sides-same logs)))
