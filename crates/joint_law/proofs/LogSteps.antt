-- The laws at the stations of logs, one after another.
use Rattle.std.proofs.Common.{◌≡◌, ℕ, ◌+◌, ◌<◌, ◌≤◌, List, [], ◌∷◌, ◌++◌, length}
use Rattle.std.proofs.Common.{get_or, map, take, drop, Option, Some, None, refl, sym, ap, subst}
use Rattle.std.proofs.Common.{◌∙◌, ⊎_elim, arith, append-nil}
use Rattle.std.specs.List.{All, Any, flat_map}
use Rattle.std.proofs.lemmas.Bool.{cases_lt}
use Rattle.std.proofs.Math.ListN.{get_or-map}
use Rattle.std.proofs.lemmas.List.{get_or_append_left, get_or_read, get_or-append-add}
use Rattle.std.proofs.lemmas.List.{length-append, length-map, take-append-drop, take_all}
use Rattle.std.proofs.lemmas.Grind.{flat_map-append}
use Rattle.std.proofs.lemmas.List.Concat.{flat_map-cons}
use Rattle.std.proofs.lemmas.List.Elements.{All-append, All-map}
use Rattle.station_laws.specs.Bound.{Bound, BreaksLaw, KeepsLaw}
use Rattle.joint_law.specs.LawEnds.{IsLogEnd, IsLogsEnd}
use Rattle.station_laws.specs.declared.law.Law.{Law}
use Rattle.joint_history.specs.declared.joint.BridgeLog.{BridgeLog}
use Rattle.station_laws.proofs.Lists.{take-push}

flat_map-one : (bounds : BridgeLog → List Bound) (x : BridgeLog)
    → flat_map bounds (x ∷ []) ≡ bounds x
flat_map-one bounds x = flat_map-cons bounds x [] ∙ append-nil (bounds x)

-- stations so far, and one more
pub logs-more : {L : Type 0} (bound : L → Bound) (law : Law) (node : ℕ) (logs : List L) (i : ℕ)
    (x : L) → ((k : ℕ) (d : L) → k < i → (bound (get_or logs k d)).node ≡ node
    → KeepsLaw law (bound (get_or logs k d)))
    → i < length logs → x ≡ get_or logs i x → IsLogEnd law node (bound x) None
    → (k : ℕ) (d : L) → k < i + 1 → (bound (get_or logs k d)).node ≡ node
    → KeepsLaw law (bound (get_or logs k d))
logs-more bound law node logs i x before low is here k d below =
    ⊎_elim (λ (l : k < i). before k d l)
    (λ (l : i ≤ k).
    let e : i ≡ k = omega arith in
    let item : x ≡ get_or logs k d = get_or_read logs i x low is d
    ∙ ap (λ (n : ℕ). get_or logs n d) e in
    subst (λ y. (bound y).node ≡ node → KeepsLaw law (bound y)) item here)
    (cases_lt k i)

pub logs-all : {L : Type 0} (bound : L → Bound) (law : Law) (node : ℕ) (logs : List L)
    → ((k : ℕ) (d : L) → k < length logs → (bound (get_or logs k d)).node ≡ node
    → KeepsLaw law (bound (get_or logs k d)))
    → All (λ (s : Bound). s.node ≡ node → KeepsLaw law s) (map bound logs)
logs-all bound law node logs each =
    All-map (λ (s : Bound). s.node ≡ node → KeepsLaw law s) bound logs each

pub logs-any : {L : Type 0} (bound : L → Bound) (P : Bound → Type 0) (logs : List L) (i : ℕ)
    (x : L) → i < length logs → x ≡ get_or logs i x → P (bound x) → Any P (map bound logs)
logs-any bound P logs i x low is here = (
  i,
  bound x,
  let n = length-map logs bound in omega (arith, n),
  get_or-map bound logs i x
      ∙ ap bound (sym is),
  here,
)

-- an answer that is none
pub none-of : {X : Type 0} (o : Option X) → ((x : X) → o ≡ Some x → ⊥) → o ≡ None
none-of None no' = refl
none-of (Some x) no' = absurd (no' x refl)

any-left : {X : Type 0} (P : X → Type 0) (xs ys : List X) → Any P xs → Any P (xs ++ ys)
any-left P xs ys a = (
  a.0,
  a.1,
  let n = length-append xs ys in let l = a.2 in omega (arith, n, l),
  get_or_append_left xs ys a.1 a.0 a.2 ∙ a.3,
  a.4,
)

any-right : {X : Type 0} (P : X → Type 0) (xs ys : List X) → Any P ys → Any P (xs ++ ys)
any-right P xs ys a = (
  length xs + a.0,
  a.1,
  let n = length-append xs ys in let l = a.2 in
      omega (arith, n, l),
  get_or-append-add xs ys a.0 a.1 ∙ a.3,
  a.4,
)

pub joined-end : (law : Law) (node : ℕ) (xs ys : List Bound) (end : Option ℕ)
    → IsLogsEnd law node xs None → IsLogsEnd law node ys end → IsLogsEnd law node (xs ++ ys) end
joined-end law node xs ys None all more =
    All-append (λ (s : Bound). s.node ≡ node → KeepsLaw law s) xs ys all more
joined-end law node xs ys (Some place) all any =
    any-right (λ (s : Bound). (s.node ≡ node) × BreaksLaw law s (place + 1)) xs ys any

pub joined-break : (law : Law) (node : ℕ) (xs ys : List Bound) (place : ℕ)
    → IsLogsEnd law node xs (Some place) → IsLogsEnd law node (xs ++ ys) (Some place)
joined-break law node xs ys place any =
    any-left (λ (s : Bound). (s.node ≡ node) × BreaksLaw law s (place + 1)) xs ys any

-- the ends of bridges so far, and those of one more
pub sides-more : (bounds : BridgeLog → List Bound) (law : Law) (node : ℕ) (logs : List BridgeLog)
    (i : ℕ) (x : BridgeLog) → i < length logs → x ≡ get_or logs i x
    → IsLogsEnd law node (flat_map bounds (take i logs)) None
    → IsLogsEnd law node (bounds x) None
    → IsLogsEnd law node (flat_map bounds (take (i + 1) logs)) None
sides-more bounds law node logs i x low is before more =
    subst (λ (l : List Bound). IsLogsEnd law node l None)
    (sym (ap (flat_map bounds) (take-push logs i x low is)
    ∙ (flat_map-append bounds (take i logs) (x ∷ [])
    ∙ ap (λ (l : List Bound). flat_map bounds (take i logs) ++ l) (flat_map-one bounds x))))
    (joined-end law node (flat_map bounds (take i logs)) (bounds x) None before more)

pub sides-any : (bounds : BridgeLog → List Bound) (law : Law) (node : ℕ) (logs : List BridgeLog)
    (i : ℕ) (x : BridgeLog) (place : ℕ) → i < length logs → x ≡ get_or logs i x
    → IsLogsEnd law node (flat_map bounds (take i logs)) None
    → IsLogsEnd law node (bounds x) (Some place)
    → IsLogsEnd law node (flat_map bounds logs) (Some place)
sides-any bounds law node logs i x place low is before more =
    subst (λ (l : List BridgeLog). IsLogsEnd law node (flat_map bounds l) (Some place))
    (take-append-drop (i + 1) logs)
    (subst (λ (l : List Bound). IsLogsEnd law node l (Some place))
    (sym (flat_map-append bounds (take (i + 1) logs) (drop (i + 1) logs)))
    (joined-break law node (flat_map bounds (take (i + 1) logs))
    (flat_map bounds (drop (i + 1) logs)) place
    (subst (λ (l : List Bound). IsLogsEnd law node l (Some place))
    (sym (ap (flat_map bounds) (take-push logs i x low is)
    ∙ (flat_map-append bounds (take i logs) (x ∷ [])
    ∙ ap (λ (l : List Bound). flat_map bounds (take i logs) ++ l) (flat_map-one bounds x))))
    (joined-end law node (flat_map bounds (take i logs)) (bounds x) (Some place) before more))))

pub sides-end : (bounds : BridgeLog → List Bound) (law : Law) (node : ℕ) (logs : List BridgeLog)
    (i : ℕ) → length logs ≤ i → IsLogsEnd law node (flat_map bounds (take i logs)) None
    → IsLogsEnd law node (flat_map bounds logs) None
sides-end bounds law node logs i all kept =
    subst (λ (l : List BridgeLog). IsLogsEnd law node (flat_map bounds l) None)
    (take_all i logs all) kept
