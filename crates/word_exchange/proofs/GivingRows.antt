-- Wired drops are given their rows one drop after another.
use Rattle.std.proofs.Common.{◌≡◌, ◌≢◌, ◌<◌, ℕ, zero, suc, ◌+◌, ◌==◌, Bool, true, false, List, []}
use Rattle.std.proofs.Common.{◌∷◌, ◌++◌, length, drop, get_or, map, set, take, Option, Some, refl}
use Rattle.std.proofs.Common.{sym, ap, subst, ◌∙◌, arith}
use Rattle.std.specs.Prelude.{if◌then◌else◌}
use Rattle.std.specs.List.{All, AllPairs}
use Rattle.std.proofs.lemmas.Bool.{eqb-true, ne_eqb}
use Rattle.std.proofs.lemmas.List.{append-nil, take_more}
use Rattle.std.proofs.lemmas.List.Sums.{fold-append}
use Rattle.std.proofs.Math.Seq.{take-length}
use Rattle.plant_types.specs.declared.drops.IoDrop.{IoDrop}
use Rattle.plant_types.specs.declared.drops.ScriptRow.{ScriptRow}
use Rattle.plant_types.specs.declared.plan.ControllerPlan.{ControllerPlan}
use Rattle.plant_types.specs.declared.plan.Plant.{Plant}
use Rattle.traffic_cop.specs.Drops.{drop_named}
use Rattle.traffic_cop.specs.Feeding.{row_fed, with_row}
use Rattle.serial_feed.proofs.SerialLemmas.{from-places, map-there}
use Rattle.serial_feed.proofs.SerialLemmas.{all-at}
use Rattle.serial_feed.specs.Feeding.{plan_with, plant_fed}
use Rattle.joint_history.specs.declared.joint.Joint.{Joint}
use Rattle.serial_feed.specs.Standing.{are_gone, made_by, SerialIs}
use Rattle.word_exchange.specs.declared.feeding.WiredDrop.{WiredDrop}
use Rattle.word_exchange.specs.declared.running.WireReader.{WireReader}
use Rattle.word_exchange.specs.Feeding.{plant_with_all, plant_with_rows, rows_wanted, with_rows}
use Rattle.word_exchange.specs.Feeding.{with_script, AreGivenRows, AreOtherDrops}
use Rattle.word_exchange.specs.Feeding.{CanTakeAll, CanTakeIf, HasMadeAtMost, HasScript}
use Rattle.word_exchange.specs.Feeding.{HasScriptIn, IsGivenRows, StandsBy}
use Rattle.word_exchange.proofs.TakingRows.{by-own}

-- ---- rows of another drop

other-in : (d : IoDrop) (drops : List IoDrop) (number other : ℕ) (row : ScriptRow) (b : Bool)
    → (d.number == number) ≡ b → other ≢ number
    → drop_named (row_fed drops number row) other ≡ drop_named drops other
    → drop_named (if b then with_row d row ∷ drops else d ∷ row_fed drops number row) other
    ≡ drop_named (d ∷ drops) other
unfolding drop_named
other-in d drops number other row true e apart more =
    let here : d.number ≡ number = eqb-true d.number number e in
    let not-it : (d.number == other) ≡ false = ne_eqb d.number other
    (λ same. apart (sym same ∙ here)) in
    ap (λ (b : Bool). if b then Some (with_row d row) else drop_named drops other) not-it
    ∙ sym (ap (λ (b : Bool). if b then Some d else drop_named drops other) not-it)
other-in d drops number other row false e apart more =
    ap (λ (o : Option IoDrop). if d.number == other then Some d else o) more

other-named : (drops : List IoDrop) (number other : ℕ) (row : ScriptRow) → other ≢ number
    → drop_named (row_fed drops number row) other ≡ drop_named drops other
unfolding row_fed
other-named [] number other row apart = refl
other-named (d ∷ drops) number other row apart =
    other-in d drops number other row (d.number == number) refl apart
    (other-named drops number other row apart)

still-by : (plan fed : ControllerPlan) (drop : IoDrop) (script : List ScriptRow) (number : ℕ)
    (row : ScriptRow) (b : Bool) → (b ≡ true → drop.number ≢ number)
    → HasScriptIn plan drop script fed
    → drop_named (if b then row_fed fed.drops number row else fed.drops) drop.number
    ≡ Some (with_script drop script)
still-by plan fed drop script number row true apart has =
    other-named fed.drops number drop.number row (apart refl) ∙ has.drop_is
still-by plan fed drop script number row false apart has = has.drop_is

still-has : (plan : ControllerPlan) (drop : IoDrop) (script : List ScriptRow) (plant : Plant)
    (node number : ℕ) (row : ScriptRow) → (node ≡ plan.node → number ≢ drop.number)
    → HasScript plan drop script plant
    → HasScript plan drop script (plant_fed plant node number row)
still-has plan drop script plant node number row apart has =
    from-places
    (λ (f : ControllerPlan). f.node ≡ plan.node → HasScriptIn plan drop script f)
    (plant_fed plant node number row).controllers
    (λ k f is.
    let it = map-there (plan_with node number row) plant.controllers k f is in
    subst (λ (g : ControllerPlan). g.node ≡ plan.node → HasScriptIn plan drop script g) it.2
    (λ here.
    let was = all-at (λ (g : ControllerPlan). g.node ≡ plan.node → HasScriptIn plan drop script g)
    plant.controllers k it.0 has it.1 here in
    record {
      orders = was.orders;
      drop_is = still-by plan it.0 drop script number row (it.0.node == node)
          (λ same number-is. apart (sym (eqb-true it.0.node node same) ∙ here) (sym number-is)) was;
    }))

still-rows : (plan : ControllerPlan) (drop : IoDrop) (script : List ScriptRow) (plant : Plant)
    (node number : ℕ) (rows : List ScriptRow) → (node ≡ plan.node → number ≢ drop.number)
    → HasScript plan drop script plant
    → HasScript plan drop script (plant_with_rows plant node number rows)
still-rows plan drop script plant node number [] apart has = has
still-rows plan drop script plant node number (row ∷ rows) apart has =
    still-rows plan drop script (plant_fed plant node number row) node number rows apart
    (still-has plan drop script plant node number row apart has)

still-all : (readers : List WireReader) (one : WiredDrop) (plant : Plant) (wired : List WiredDrop)
    → All (λ (w : WiredDrop). AreOtherDrops w one) wired
    → HasScript one.plan.now one.drop.now one.script plant
    → HasScript one.plan.now one.drop.now one.script (plant_with_all readers plant wired)
still-all readers one plant [] apart has = has
still-all readers one plant (w ∷ wired) apart has =
    still-all readers one
    (plant_with_rows plant w.plan.now.node w.drop.now.number (rows_wanted readers w)) wired
    (λ k d within. apart (suc k) d (omega (arith, within)))
    (still-rows one.plan.now one.drop.now one.script plant w.plan.now.node w.drop.now.number
    (rows_wanted readers w) (apart 0 w (omega arith)) has)

-- ---- the state between two of the drops

drop-length : (xs : List WiredDrop) → drop (length xs) xs ≡ []
drop-length [] = refl
drop-length (x ∷ xs) = drop-length xs

-- The first so many wired drops have their rows.
pub record GivenSoFar (readers : List WireReader) (first wired : List WiredDrop) (at : ℕ)
    (start now : SerialIs) : Type 0 where
  pub wired_are : wired ≡ map (with_rows readers) (take at first) ++ drop at first
  pub made : made_by now ≡ made_by start
  pub gone : are_gone now ≡ are_gone start
  pub stands : (plant : Plant) (scans : ℕ) (after_each : List Joint)
      → StandsBy plant scans after_each start
      → StandsBy (plant_with_all readers plant (take at first)) scans after_each now

pub none-given : (readers : List WireReader) (wired : List WiredDrop) (serial : SerialIs)
    → GivenSoFar readers wired wired 0 serial serial
none-given readers wired serial = record {
  wired_are = refl;
  made = refl;
  gone = refl;
  stands = λ plant scans after_each stands. stands;
}

-- the one at the place is as it was, and giving it its rows changes only it
at-place : (readers : List WireReader) (first : List WiredDrop) (at : ℕ) → at < length first
    → (d : WiredDrop)
    → get_or (map (with_rows readers) (take at first) ++ drop at first) at d ≡ get_or first at d
at-place readers [] at within d = absurd (omega (arith, within))
at-place readers (w ∷ first) zero within d = refl
at-place readers (w ∷ first) (suc at) within d =
    at-place readers first at (omega (arith, within)) d

set-place : (readers : List WireReader) (first : List WiredDrop) (at next : ℕ) (d : WiredDrop)
    → at < length first → next ≡ suc at
    → set (map (with_rows readers) (take at first) ++ drop at first) at
    (with_rows readers (get_or first at d))
    ≡ map (with_rows readers) (take next first) ++ drop next first
set-place readers [] at next d within is = absurd (omega (arith, within))
set-place readers (w ∷ first) zero zero d within is = absurd (omega (arith, is))
set-place readers (w ∷ first) zero (suc next) d within is =
    let none : next ≡ 0 = omega (arith, is) in
    ap (λ n. map (with_rows readers) (take (suc n) (w ∷ first)) ++ drop (suc n) (w ∷ first))
    (sym none)
set-place readers (w ∷ first) (suc at) zero d within is = absurd (omega (arith, is))
set-place readers (w ∷ first) (suc at) (suc next) d within is =
    ap (λ (l : List WiredDrop). with_rows readers w ∷ l)
    (set-place readers first at next d (omega (arith, within)) (omega (arith, is)))

front-item : (first : List WiredDrop) (at k : ℕ) (e d : WiredDrop) → k < length (take at first)
    → at < length first → (k < at) × (get_or (take at first) k e ≡ get_or first k d)
front-item [] at k e d low within = absurd (omega (arith, within))
front-item (w ∷ first) zero k e d low within = absurd (omega (arith, low))
front-item (w ∷ first) (suc at) zero e d low within = (omega arith, refl)
front-item (w ∷ first) (suc at) (suc k) e d low within =
    let it = front-item first at k e d (omega (arith, low)) (omega (arith, within)) in
    let less = it.0 in
    (omega (arith, less), it.1)

others-apart : (first : List WiredDrop) (at : ℕ) (d : WiredDrop) → at < length first
    → AllPairs AreOtherDrops first
    → All (λ (w : WiredDrop). AreOtherDrops w (get_or first at d)) (take at first)
others-apart first at d within apart k e low =
    let it = front-item first at k e d low within in
    subst (λ (w : WiredDrop). AreOtherDrops w (get_or first at d)) (sym it.1)
    (apart k at d it.0 within)

pub can-give : (readers : List WireReader) (first wired : List WiredDrop) (at : ℕ) (d : WiredDrop)
    (start now : SerialIs) → at < length first → CanTakeAll first start
    → GivenSoFar readers first wired at start now → CanTakeIf (get_or wired at d) now
can-give readers first wired at d start now within can so_far =
    let one = get_or first at d in
    let here : get_or wired at d ≡ one =
    ap (λ (l : List WiredDrop). get_or l at d) so_far.wired_are
    ∙ at-place readers first at within d in
    subst (λ (w : WiredDrop). CanTakeIf w now) (sym here)
    (λ few.
    let give = can.each at d within few in
    record {
      plant = plant_with_all readers can.plant (take at first);
      scans = can.scans;
      stands = (so_far.stands can.plant can.scans can.stands.after_each
          (by-own can.plant can.scans start can.stands)).stands;
      has = still-all readers one can.plant (take at first)
          (others-apart first at d within can.apart) give.has;
      own = give.own;
      read = give.read;
      made = subst (HasMadeAtMost one.plan.now one.drop.now.number (length one.script))
          (sym so_far.made) give.made;
    })

pub one-given : (readers : List WireReader) (first wired : List WiredDrop) (at next : ℕ)
    (d new : WiredDrop) (start old now : SerialIs) → at < length first → next ≡ at + 1
    → GivenSoFar readers first wired at start old
    → IsGivenRows readers (get_or wired at d) new old now
    → GivenSoFar readers first (set wired at new) next start now
one-given readers first wired at next d new start old now within is so_far gives =
    let one = get_or first at d in
    let here : get_or wired at d ≡ one =
    ap (λ (l : List WiredDrop). get_or l at d) so_far.wired_are
    ∙ at-place readers first at within d in
    let given = subst (λ (w : WiredDrop). IsGivenRows readers w new old now) here gives in
    let front : take next first ≡ take at first ++ one ∷ [] =
    ap (λ n. take n first) is ∙ take_more first at d within in
    record {
      wired_are =
          (λ i. set (so_far.wired_are i) at (given.wired_is i))
          ∙ set-place readers first at next d within (omega (arith, is));
      made = given.fed.made ∙ so_far.made;
      gone = given.fed.gone ∙ so_far.gone;
      stands = λ plant scans after_each stands.
          let more = given.fed.stands (plant_with_all readers plant (take at first)) scans after_each
          (so_far.stands plant scans after_each stands) in
          subst (λ (p : Plant). StandsBy p scans after_each now)
          (sym (ap (plant_with_all readers plant) front
          ∙ fold-append (λ (fed : Plant) (w : WiredDrop). plant_with_rows fed w.plan.now.node
          w.drop.now.number (rows_wanted readers w)) plant (take at first) (one ∷ []))) more;
    }

pub all-given : (readers : List WireReader) (first wired : List WiredDrop) (at : ℕ)
    (start now : SerialIs) → at ≡ length first → GivenSoFar readers first wired at start now
    → AreGivenRows readers first wired start now
all-given readers first wired at start now is so_far =
    let all : take at first ≡ first = ap (λ n. take n first) is ∙ take-length first in
    let none : drop at first ≡ [] = ap (λ n. drop n first) is ∙ drop-length first in
    record {
      wired_are = so_far.wired_are
          ∙ (λ i. map (with_rows readers) (all i) ++ none i) ∙ append-nil _;
      made = so_far.made;
      gone = so_far.gone;
      stands = λ plant scans after_each stands.
          subst (λ (l : List WiredDrop). StandsBy (plant_with_all readers plant l) scans after_each
          now) all (so_far.stands plant scans after_each stands);
    }
