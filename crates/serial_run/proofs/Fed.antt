-- A controller that is fed a row among its stations, and the lists that stations have noted.
use Rattle.std.proofs.Common.{◌≡◌, ℕ, ◌==◌, Bool, true, false, cond, nat_lt, List, [], length, set}
use Rattle.std.proofs.Common.{get_or, Option, Some, None, Result, Ok, Err, OnErr, refl, sym, ap}
use Rattle.std.proofs.Common.{subst, ◌∙◌, ⊎_elim}
use Rattle.std.specs.List.{find, position, position_or_len, slice_get}
use Rattle.std.specs.Vec.{with_item}
use Rattle.std.proofs.lemmas.Bool.{cases_Bool, eqb-true}
use Rattle.std.proofs.lemmas.List.Folds.{find_at}
use Rattle.std.proofs.lemmas.List.Quantifiers.{position-Some}
use Rattle.plant_types.specs.declared.drops.ScriptRow.{ScriptRow}
use Rattle.controller_core.specs.Controller.{ControllerIs}
use Rattle.controller_core.specs.Feeding.{feeding, CanFeed}
use Rattle.serial_run.specs.declared.stations.ControllerStation.{ControllerStation}
use Rattle.serial_run.specs.declared.stations.RingStation.{RingStation}
use Rattle.serial_run.specs.declared.stations.Stations.{Stations}
use Rattle.serial_run.specs.Feeding.{history_if, history_of, AreAsBefore, CanFeedNode, FedIf}
use Rattle.serial_run.specs.Feeding.{FedNode}
use Rattle.serial_run.specs.Stations.{ring_if, station_ring}
use Rattle.serial_run.proofs.Lists.{find-none, position-none, set-there}
use Rattle.serial_run.proofs.TurnsMade.{found-ring, found-station}

-- what is found stands at the first place
find-first : {X : Type 0} (p : X → Bool) (xs : List X) (at : ℕ) → position p xs ≡ Some at
    → find p xs ≡ slice_get xs at
find-first p xs at is = ⊎_elim
    (λ (low : nat_lt (position_or_len p xs) (length xs) ≡ true).
    let here : Some (position_or_len p xs) ≡ Some at =
    sym (ap (λ b. cond b (Some (position_or_len p xs)) None) low) ∙ is in
    let same : position_or_len p xs ≡ at = cc in
    find_at p xs ∙ ap (slice_get xs) same)
    (λ (high : nat_lt (position_or_len p xs) (length xs) ≡ false).
    absurd (let no' : None ≡ Some at =
    sym (ap (λ b. cond b (Some (position_or_len p xs)) None) high) ∙ is in cc))
    (cases_Bool (nat_lt (position_or_len p xs) (length xs)))

find-nowhere : {X : Type 0} (p : X → Bool) (xs : List X) → position p xs ≡ None
    → find p xs ≡ None
find-nowhere p xs none = find-none p xs (λ k x is. position-none p xs k x none is)

-- ---- the lists

pub history-there : (run : Stations) (node at : ℕ) (s : ControllerStation)
    → position (λ (x : ControllerStation). x.node == node) run.controllers.items ≡ Some at
    → s ≡ get_or run.controllers.items at s → s.controller.history ≡ history_of node run
history-there run node at s place value =
    let p = λ (x : ControllerStation). x.node == node in
    let found = found-station run node at s place value in
    sym (ap history_if (find-first p run.controllers.items at place ∙ found.0))

pub history-nowhere : (run : Stations) (node : ℕ)
    → position (λ (x : ControllerStation). x.node == node) run.controllers.items ≡ None
    → [] ≡ history_of node run
history-nowhere run node none =
    let p = λ (x : ControllerStation). x.node == node in
    sym (ap history_if (find-nowhere p run.controllers.items none))

pub ring-there : (run : Stations) (network place : ℕ) (r : RingStation)
    → position (λ (x : RingStation). x.network == network) run.rings.items ≡ Some place
    → r ≡ get_or run.rings.items place r → r.ring.history ≡ (station_ring run network).history
ring-there run network place r at value =
    let p = λ (x : RingStation). x.network == network in
    let found = found-ring run network place r at value in
    sym (ap (λ (o : Option RingStation). (ring_if o).history)
    (find-first p run.rings.items place at ∙ found.0))

pub ring-nowhere : (run : Stations) (network : ℕ)
    → position (λ (x : RingStation). x.network == network) run.rings.items ≡ None
    → [] ≡ (station_ring run network).history
ring-nowhere run network none =
    let p = λ (x : RingStation). x.network == network in
    sym (ap (λ (o : Option RingStation). (ring_if o).history)
    (find-nowhere p run.rings.items none))

-- ---- the controller that is fed

pub can-feed : (run : Stations) (node drop at : ℕ) (row : ScriptRow) (s : ControllerStation)
    → CanFeedNode node drop row run
    → position (λ (x : ControllerStation). x.node == node) run.controllers.items ≡ Some at
    → s ≡ get_or run.controllers.items at s → CanFeed s.controller drop row
can-feed run node drop at row s can place value =
    let it = position-Some (λ (x : ControllerStation). x.node == node) run.controllers.items at s
    place in
    subst (λ (x : ControllerStation). CanFeed x.controller drop row) (sym value)
    (can at s it.0 (eqb-true (get_or run.controllers.items at s).node node it.1))

module _ (run new : Stations) (at : ℕ) (s : ControllerStation) (w : ControllerIs)
    (items : new.controllers ≡ with_item run.controllers at (record s { controller = w }))
    (hosts : new.hosts ≡ run.hosts) (bridges : new.bridges ≡ run.bridges)
    (rings : new.rings ≡ run.rings) where
  pub node-fed : (node drop : ℕ) (row : ScriptRow)
      → position (λ (x : ControllerStation). x.node == node) run.controllers.items ≡ Some at
      → s ≡ get_or run.controllers.items at s
      → w ≡ feeding s.controller drop row → FedNode node drop row run new
  node-fed node drop row place value fed =
      subst (λ (o : Option ℕ). FedIf o drop row run new) (sym place) (record {
        station = s;
        station_is = (found-station run node at s place value).0;
        controllers = ap (λ v. v.items) items
            ∙ ap (λ (v : ControllerIs). set run.controllers.items at (record s { controller = v }))
            fed;
        hosts = hosts;
        bridges = bridges;
        rings = rings;
      })

  pub node-stays : (node : ℕ)
      → position (λ (x : ControllerStation). x.node == node) run.controllers.items ≡ Some at
      → s ≡ get_or run.controllers.items at s → w ≡ s.controller → AreAsBefore run new
  node-stays node place value same = record {
    controllers = ap (λ v. v.items) items
        ∙ ap (λ (v : ControllerIs). set run.controllers.items at (record s { controller = v })) same
        ∙ set-there run.controllers.items at s (found-station run node at s place value).0;
    hosts = hosts;
    bridges = bridges;
    rings = rings;
  }

pub nobody-fed : (run : Stations) (node drop : ℕ) (row : ScriptRow)
    → position (λ (x : ControllerStation). x.node == node) run.controllers.items ≡ None
    → FedNode node drop row run run
nobody-fed run node drop row none =
    subst (λ (o : Option ℕ). FedIf o drop row run run) (sym none)
    (record { controllers = refl; hosts = refl; bridges = refl; rings = refl })

pub on-err : {T E P Q : Type 0} (r : Result T E) → (P → Q) → OnErr r P → OnErr r Q
on-err (Ok x) f p = p
on-err (Err e) f p = f p
