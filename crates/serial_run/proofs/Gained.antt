-- What stations have, turn by turn.
use Rattle.std.proofs.Common.{◌≡◌, ◌≢◌, ℕ, zero, suc, ◌+◌, ◌<◌, ◌==◌, true, List, [], ◌∷◌}
use Rattle.std.proofs.Common.{length, set}
use Rattle.std.proofs.Common.{Some, None, refl, sym, ap, subst, ◌∙◌, arith, get_or, All}
use Rattle.std.specs.List.{AllZip, position, slice_get}
use Rattle.std.proofs.lemmas.Bool.{eq-eqb, eqb-true, true≢false}
use Rattle.std.proofs.lemmas.List.Elements.{All-cons, All-nil}
use Rattle.plant_types.specs.declared.plan.Plant.{Plant}
use Rattle.ring_core.specs.Kept.{KeptRing}
use Rattle.serial_run.specs.declared.stations.ControllerStation.{ControllerStation}
use Rattle.serial_run.specs.declared.stations.RingStation.{RingStation}
use Rattle.serial_run.specs.declared.stations.Stations.{Stations}
use Rattle.serial_run.specs.Stations.{StandAll, ring_on}
use Rattle.serial_run.specs.Held.{AllHave, Gains, GainFor, Stay}
use Rattle.net_laws.proofs.Apart.{same-controller}
use Rattle.serial_run.proofs.Lists.{position-none, zip-both}
use Rattle.serial_run.proofs.TurnsMade.{at-place}

module _ (Has : KeptRing → ControllerStation → Type 0) where
  abbrev HasOn : List RingStation → ControllerStation → Type 0
  HasOn rings x = Has (ring_on rings x.network) x

  abbrev StaysOne : List RingStation → List RingStation → ControllerStation → ControllerStation
      → Type 0
  StaysOne rings new_rings a b = HasOn rings a → HasOn new_rings b

  pub stays-same : (rings : List RingStation) (xs : List ControllerStation)
      → AllZip (StaysOne rings rings) xs xs
  stays-same rings [] = tt
  stays-same rings (x ∷ xs) = ((λ h. h), stays-same rings xs)

  -- a turn that leaves the stations
  pub stays-all : (rings new_rings : List RingStation) (xs : List ControllerStation)
      → ((k : ℕ) (x : ControllerStation) → slice_get xs k ≡ Some x → HasOn rings x → HasOn
      new_rings x)
      → AllZip (StaysOne rings new_rings) xs xs
  stays-all rings new_rings [] each = tt
  stays-all rings new_rings (x ∷ xs) each =
      (each 0 x refl, stays-all rings new_rings xs (λ k. each (suc k)))

  -- a turn of the station at a place
  pub stays-with : (rings new_rings : List RingStation) (xs : List ControllerStation) (at : ℕ)
      (s t : ControllerStation) → slice_get xs at ≡ Some s → (HasOn rings s → HasOn new_rings t)
      → ((k : ℕ) (x : ControllerStation) → slice_get xs k ≡ Some x → k ≢ at → HasOn rings x
      → HasOn new_rings x)
      → AllZip (StaysOne rings new_rings) xs (set xs at t)
  stays-with rings new_rings [] at s t is it other = tt
  stays-with rings new_rings (x ∷ xs) zero s t is it other =
      let there : x ≡ s = cc in (
        subst (λ (y : ControllerStation). StaysOne rings new_rings y t) (sym there) it,
        stays-all rings new_rings xs (λ k y at-y. other (suc k) y at-y (λ e. absurd (cc))),
      )
  stays-with rings new_rings (x ∷ xs) (suc at) s t is it other = (
    other 0 x refl (λ e. absurd (cc)),
    stays-with rings new_rings xs at s t is it (λ k y at-y no'. other (suc k) y at-y
        (λ e. no' (omega (arith, e)))),
  )

  pub stays-both : (a b c : Stations) → Stay Has a b → Stay Has b c → Stay Has a c
  stays-both a b c x y =
      zip-both (StaysOne a.rings.items b.rings.items) (StaysOne b.rings.items c.rings.items)
      (StaysOne a.rings.items c.rings.items)
      a.controllers.items b.controllers.items c.controllers.items x y (λ s t u f g h. g (f h))

  stay-each : (rings new_rings : List RingStation) (xs ys : List ControllerStation)
      → AllZip (StaysOne rings new_rings) xs ys → All (HasOn rings) xs → All (HasOn new_rings) ys
  stay-each rings new_rings [] [] stay all = All-nil (HasOn new_rings)
  stay-each rings new_rings [] (y ∷ ys) stay all = absurd stay
  stay-each rings new_rings (x ∷ xs) [] stay all = absurd stay
  stay-each rings new_rings (x ∷ xs) (y ∷ ys) stay all =
      All-cons (HasOn new_rings) y ys (stay.0 (all 0 x (omega arith)))
      (stay-each rings new_rings xs ys stay.1 (λ k d low. all (suc k) d (omega (arith, low))))

  pub all-stay : (a b : Stations) → Stay Has a b → AllHave Has a → AllHave Has b
  all-stay a b stay all =
      stay-each a.rings.items b.rings.items a.controllers.items b.controllers.items stay all

  -- ---- the turn of one node

  gains-none : (node : ℕ) (rings : List RingStation) (xs : List ControllerStation)
      → ((k : ℕ) (x : ControllerStation) → slice_get xs k ≡ Some x → x.node ≢ node)
      → AllZip (Gains Has node rings rings) xs xs
  gains-none node rings [] other = tt
  gains-none node rings (x ∷ xs) other = (
    record { stays = λ h. h; gains = λ is. absurd (other 0 x refl is) },
    gains-none node rings xs (λ k. other (suc k)),
  )

  -- the other stations
  abbrev OtherStays : ℕ → List RingStation → List RingStation → ControllerStation → Type 0
  OtherStays node rings new_rings x = (x.node ≢ node) × (HasOn rings x → HasOn new_rings x)

  gains-rest : (node : ℕ) (rings new_rings : List RingStation) (xs : List ControllerStation)
      → ((k : ℕ) (x : ControllerStation) → slice_get xs k ≡ Some x
      → OtherStays node rings new_rings x)
      → AllZip (Gains Has node rings new_rings) xs xs
  gains-rest node rings new_rings [] other = tt
  gains-rest node rings new_rings (x ∷ xs) other = (
    record { stays = (other 0 x refl).1; gains = λ is. absurd ((other 0 x refl).0 is) },
    gains-rest node rings new_rings xs (λ k. other (suc k)),
  )

  gains-at : (node : ℕ) (rings new_rings : List RingStation) (xs : List ControllerStation) (at : ℕ)
      (s t : ControllerStation) → slice_get xs at ≡ Some s → HasOn new_rings t
      → ((k : ℕ) (x : ControllerStation) → slice_get xs k ≡ Some x → k ≢ at
      → OtherStays node rings new_rings x)
      → AllZip (Gains Has node rings new_rings) xs (set xs at t)
  gains-at node rings new_rings [] at s t is it other = tt
  gains-at node rings new_rings (x ∷ xs) zero s t is it other = (
    record { stays = λ h. it; gains = λ e. it },
    gains-rest node rings new_rings xs (λ k y at-y. other (suc k) y at-y (λ e. absurd (cc))),
  )
  gains-at node rings new_rings (x ∷ xs) (suc at) s t is it other = (
    record {
      stays = (other 0 x refl (λ z. absurd (cc))).1;
      gains = λ e. absurd ((other 0 x refl (λ z. absurd (cc))).0 e);
    },
    gains-at node rings new_rings xs at s t is it (λ k y at-y no'. other (suc k) y at-y
        (λ e. no' (omega (arith, e)))),
  )

  pub gains-with : (plant : Plant) (scans : ℕ) (run new : Stations) (node at : ℕ)
      (s t : ControllerStation) → StandAll plant scans run
      → slice_get run.controllers.items at ≡ Some s → (s.node == node) ≡ true
      → new.controllers.items ≡ set run.controllers.items at t
      → HasOn new.rings.items t
      → ((x : ControllerStation) → x.node ≢ s.node → HasOn run.rings.items x → HasOn
      new.rings.items x)
      → GainFor Has node run new
  gains-with plant scans run new node at s t all is named items it other =
      let mine = at-place plant scans run at s all is in
      let same : s.node ≡ node = eqb-true s.node node named in
      subst (AllZip (Gains Has node run.rings.items new.rings.items) run.controllers.items) (sym
      items)
      (gains-at node run.rings.items new.rings.items run.controllers.items at s t is it
      (λ k x at-x apart.
      let its = at-place plant scans run k x all at-x in
      let not-same : x.node ≢ s.node = λ e.
      apart (same-controller plant all.sound k at its.plan mine.plan its.plan_is mine.plan_is
      (sym its.stands.node ∙ (e ∙ mine.stands.node))) in
      ((λ e. not-same (e ∙ sym same)), other x not-same)))

  pub stays-turn : (plant : Plant) (scans : ℕ) (run new : Stations) (at : ℕ)
      (s t : ControllerStation) → StandAll plant scans run
      → slice_get run.controllers.items at ≡ Some s
      → new.controllers.items ≡ set run.controllers.items at t
      → (HasOn run.rings.items s → HasOn new.rings.items t)
      → ((x : ControllerStation) → x.node ≢ s.node → HasOn run.rings.items x → HasOn
      new.rings.items x)
      → Stay Has run new
  stays-turn plant scans run new at s t all is items it other =
      let mine = at-place plant scans run at s all is in
      subst (AllZip (StaysOne run.rings.items new.rings.items) run.controllers.items) (sym items)
      (stays-with run.rings.items new.rings.items run.controllers.items at s t is it
      (λ k x at-x apart.
      let its = at-place plant scans run k x all at-x in
      other x (λ e. apart (same-controller plant all.sound k at its.plan mine.plan its.plan_is
      mine.plan_is (sym its.stands.node ∙ (e ∙ mine.stands.node))))))

  pub gains-nobody : (run : Stations) (node : ℕ)
      → position (λ (x : ControllerStation). x.node == node) run.controllers.items ≡ None
      → GainFor Has node run run
  gains-nobody run node none =
      gains-none node run.rings.items run.controllers.items
      (λ k x at-x is.
      true≢false (sym (eq-eqb x.node node is) ∙ position-none
      (λ (y : ControllerStation). y.node == node) run.controllers.items k x none at-x))

  -- ---- turns of all nodes, one after another

  abbrev pub SomeHave : ℕ → List RingStation → List ControllerStation → Type 0
  SomeHave at rings xs = (k : ℕ) (d : ControllerStation) → k < at → k < length xs
      → HasOn rings (get_or xs k d)

  pub everyone-has : (at : ℕ) (run : Stations) → at ≡ length run.controllers.items
      → SomeHave at run.rings.items run.controllers.items → AllHave Has run
  everyone-has at run is some = λ k d low. some k d (omega (arith, is, low)) low

  -- those before a place, and the station of the place
  more-by : (node : ℕ) (rings new_rings : List RingStation) (xs ys : List ControllerStation) (at :
      ℕ)
      → AllZip (Gains Has node rings new_rings) xs ys → SomeHave at rings xs
      → ((d : ControllerStation) → at < length xs → (get_or xs at d).node ≡ node)
      → (k : ℕ) (d : ControllerStation) → k < suc at → k < length ys
      → HasOn new_rings (get_or ys k d)
  more-by node rings new_rings [] [] at each some named k d low within =
      absurd (omega (arith, within))
  more-by node rings new_rings [] (y ∷ ys) at each some named k d low within = absurd each
  more-by node rings new_rings (x ∷ xs) [] at each some named k d low within = absurd each
  more-by node rings new_rings (x ∷ xs) (y ∷ ys) zero each some named zero d low within =
      each.0.gains (named d (omega arith))
  more-by node rings new_rings (x ∷ xs) (y ∷ ys) zero each some named (suc k) d low within =
      absurd (omega (arith, low))
  more-by node rings new_rings (x ∷ xs) (y ∷ ys) (suc at) each some named zero d low within =
      each.0.stays (some 0 d (omega arith) (omega arith))
  more-by node rings new_rings (x ∷ xs) (y ∷ ys) (suc at) each some named (suc k) d low within =
      more-by node rings new_rings xs ys at each.1
      (λ j e less there. some (suc j) e (omega (arith, less)) (omega (arith, there)))
      (λ e there. named e (omega (arith, there))) k d (omega (arith, low)) (omega (arith, within))

  pub one-more-has : (at : ℕ) (old new : Stations) (s : ControllerStation)
      → SomeHave at old.rings.items old.controllers.items
      → at < length old.controllers.items → s ≡ get_or old.controllers.items at s
      → GainFor Has s.node old new
      → SomeHave (at + 1) new.rings.items new.controllers.items
  one-more-has at old new s some low is each k d less within =
      more-by s.node old.rings.items new.rings.items old.controllers.items new.controllers.items at
      each some
      (λ e there. ap (λ (x : ControllerStation). x.node)
      (get-same old.controllers.items at e s there ∙ sym is)) k d (omega (arith, less)) within
    where
      get-same : (xs : List ControllerStation) (at : ℕ) (d e : ControllerStation) → at < length xs
          → get_or xs at d ≡ get_or xs at e
      get-same [] at d e low = absurd (omega (arith, low))
      get-same (x ∷ xs) zero d e low = refl
      get-same (x ∷ xs) (suc at) d e low = get-same xs at d e (omega (arith, low))
