-- Readers and wired drops come one after another.
use Rattle.std.proofs.Common.{◌≡◌, ◌<◌, ℕ, zero, suc, ◌+◌, ◌==◌, Bool, true, false, List, [], ◌∷◌}
use Rattle.std.proofs.Common.{◌++◌, get_or}
use Rattle.std.proofs.Common.{length, take, Option, Some, None, refl, sym, ap, subst, ◌∙◌, arith}
use Rattle.std.proofs.Common.{eq-eqb}
use Rattle.std.specs.Prelude.{◌&&◌, ◌||◌, replicate}
use Rattle.std.specs.List.{AllZip, Contains, list_any}
use Rattle.std.specs.Option.{option_and_then}
use Rattle.std.proofs.lemmas.Bool.{eqb-true}
use Rattle.std.proofs.lemmas.List.{take_more}
use Rattle.std.proofs.lemmas.List.Elements.{All-push}
use Rattle.std.proofs.lemmas.List.Quantifiers.{all_pairs_push}
use Rattle.plant_types.specs.declared.drops.IoDrop.{IoDrop}
use Rattle.plant_types.specs.declared.plan.ControllerPlan.{ControllerPlan}
use Rattle.plant_types.specs.declared.plan.Plant.{Plant}
use Rattle.traffic_cop.specs.Drops.{drop_named}
use Rattle.traffic_cop.specs.Exchange.{output_total}
use Rattle.peer_cop.specs.declared.wire.Wire.{Wire}
use Rattle.peer_cop.specs.Plants.{drop_of, plan_of}
use Rattle.peer_cop.proofs.PlantLemmas.{named_find}
use Rattle.word_exchange.specs.declared.feeding.WiredDrop.{WiredDrop}
use Rattle.word_exchange.specs.declared.running.WireReader.{WireReader}
use Rattle.word_exchange.specs.declared.sending.Sending.{Sending}
use Rattle.word_exchange.specs.Feeding.{AreOtherDrops}
use Rattle.word_exchange.specs.Sendings.{sending_of, words_if}
use Rattle.word_exchange.specs.Starting.{is_drop_of, AddsIf, AddsWired, AreWiredOf, HasDropAt}
use Rattle.word_exchange.specs.Starting.{IsDropAt, IsOfWires, IsWiredAtStart}
use Rattle.word_exchange.specs.Words.{last_passed, words_latest, words_sent}
use Rattle.word_exchange.proofs.RowLemmas.{find-passes}
use Rattle.word_exchange.proofs.SourceLemmas.{any-last, any-left}

-- ---- a drop that is there

pub no-drop : (plant : Plant) (node number : ℕ) (plan : ControllerPlan)
    → HasDropAt plant node number → plan_of plant node ≡ Some plan
    → drop_named plan.drops number ≡ None → ⊥
no-drop plant node number plan has there none =
    let drops : Option ControllerPlan → Option IoDrop =
    option_and_then (λ (p : ControllerPlan). drop_named p.drops number) in
    let both : Some has.0 ≡ None = sym has.1 ∙ ap drops there ∙ none in cc

pub drop-there : (plant : Plant) (node number : ℕ) (plan : ControllerPlan) (d : IoDrop)
    → plan_of plant node ≡ Some plan → drop_named plan.drops number ≡ Some d
    → IsDropAt plant node number plan d
drop-there plant node number plan d there named = record {
  plan_is = there;
  drop_is = ap (option_and_then (λ (p : ControllerPlan). drop_named p.drops number)) there
      ∙ named;
}

-- ---- readers

sent-zeros : (plan : ControllerPlan) (d : IoDrop)
    → words_sent plan d [] ≡ replicate (output_total d.modules) 0
unfolding last_passed
sent-zeros plan d = refl

pub sending-zeros : (plant : Plant) (from : Wire) (plan : ControllerPlan) (d : IoDrop)
    (latest sent : List ℕ) → IsDropAt plant from.from from.from_drop plan d
    → latest ≡ replicate (output_total d.modules) 0 → sent ≡ replicate (output_total d.modules) 0
    → ◌≡◌ {A = Sending} (record { wire = from; latest = latest; sent = sent })
    (sending_of plant [] from)
sending-zeros plant from plan d latest sent at one other =
    let by_latest : words_if words_latest (plan_of plant from.from)
    (drop_of plant from.from from.from_drop) [] ≡ replicate (output_total d.modules) 0 =
    (λ i. words_if words_latest (at.plan_is i) (at.drop_is i) []) in
    let by_sent : words_if words_sent (plan_of plant from.from)
    (drop_of plant from.from from.from_drop) [] ≡ replicate (output_total d.modules) 0 =
    (λ i. words_if words_sent (at.plan_is i) (at.drop_is i) []) ∙ sent-zeros plan d in
    let latest_is = one ∙ sym by_latest in
    let sent_is = other ∙ sym by_sent in
    λ i. record { wire = from; latest = latest_is i; sent = sent_is i }

zip-push : {A B : Type 0} (R : A → B → Type 0) (xs : List A) (ys : List B) (x : A) (y : B)
    → AllZip R xs ys → R x y → AllZip R (xs ++ x ∷ []) (ys ++ y ∷ [])
zip-push R [] [] x y all here = (here, tt)
zip-push R [] (b ∷ ys) x y all here = absurd all
zip-push R (a ∷ xs) [] x y all here = absurd all
zip-push R (a ∷ xs) (b ∷ ys) x y all here = (all.0, zip-push R xs ys x y all.1 here)

pub zip-more : {A B : Type 0} (R : A → B → Type 0) (xs : List A) (ys new : List B)
    (at next : ℕ) (x d : A) (y : B) → at < length xs → next ≡ at + 1 → x ≡ get_or xs at d
    → new ≡ ys ++ y ∷ [] → AllZip R (take at xs) ys → R x y → AllZip R (take next xs) new
zip-more {A} {B} R xs ys new at next x d y within next_is here is all one =
    let front : take next xs ≡ take at xs ++ x ∷ [] =
    ap (λ n. take n xs) next_is ∙ take_more xs at d within
    ∙ ap (λ (z : A). take at xs ++ z ∷ []) (sym here) in
    subst (λ (l : List A). AllZip R l new) (sym front)
    (subst (λ (l : List B). AllZip R (take at xs ++ x ∷ []) l) (sym is)
    (zip-push R (take at xs) ys x y all one))

-- ---- wired drops

module _ (plant : Plant) (wires froms : List Wire) (readers : List WireReader) where
  among : (some : List Wire) (wire x : Wire) → Contains some x → Contains (some ++ wire ∷ []) x
  among some wire x there =
      (there.0, within some there.0 there.1, get-left some there.0 x there.1 ∙ there.2) where
        within : (xs : List Wire) (k : ℕ) → k < length xs → k < length (xs ++ wire ∷ [])
        within [] k low = absurd (omega (arith, low))
        within (y ∷ xs) zero low = omega arith
        within (y ∷ xs) (suc k) low =
            let rest = within xs k (omega (arith, low)) in omega (arith, rest)

        get-left : (xs : List Wire) (k : ℕ) (d : Wire) → k < length xs
            → get_or (xs ++ wire ∷ []) k d ≡ get_or xs k d
        get-left [] k d low = absurd (omega (arith, low))
        get-left (y ∷ xs) zero d low = refl
        get-left (y ∷ xs) (suc k) d low = get-left xs k d (omega (arith, low))

  last-there : (some : List Wire) (wire : Wire) → Contains (some ++ wire ∷ []) wire
  last-there some wire = (length some, long some, last some) where
    long : (xs : List Wire) → length xs < length (xs ++ wire ∷ [])
    long [] = omega arith
    long (y ∷ xs) = let rest = long xs in omega (arith, rest)

    last : (xs : List Wire) → get_or (xs ++ wire ∷ []) (length xs) wire ≡ wire
    last [] = refl
    last (y ∷ xs) = last xs

  of-more : (some : List Wire) (wire : Wire) (one : WiredDrop)
      → IsOfWires plant wires froms some readers one
      → IsOfWires plant wires froms (some ++ wire ∷ []) readers one
  of-more some wire one of = (of.0, among some wire of.0 of.1, of.2)

  -- the drop that is added has the numbers of the wire
  node-is : (wire : Wire) (one : WiredDrop) → IsWiredAtStart plant wires froms readers wire one
      → one.plan.now.node ≡ wire.node
  node-is wire one is = eqb-true one.plan.now.node wire.node
      (find-passes (λ (p : ControllerPlan). p.node == wire.node) plant.controllers one.plan.now
      is.at.plan_is)

  number-is : (wire : Wire) (one : WiredDrop) → IsWiredAtStart plant wires froms readers wire one
      → one.drop.now.number ≡ wire.drop
  number-is wire one is =
      let named : drop_named one.plan.now.drops wire.drop ≡ Some one.drop.now =
      sym (ap (option_and_then (λ (p : ControllerPlan). drop_named p.drops wire.drop))
      is.at.plan_is) ∙ is.at.drop_is in
      eqb-true one.drop.now.number wire.drop
      (find-passes (λ (e : IoDrop). e.number == wire.drop) one.plan.now.drops one.drop.now
      (named_find one.plan.now.drops wire.drop ∙ named))

  is-there : (wire : Wire) (one : WiredDrop) → IsWiredAtStart plant wires froms readers wire one
      → is_drop_of wire.node wire.drop one ≡ true
  is-there wire one is =
      let node = eq-eqb wire.node one.plan.now.node (sym (node-is wire one is)) in
      let number = eq-eqb wire.drop one.drop.now.number (sym (number-is wire one is)) in
      λ i. node i && number i

  -- a wired drop that is not the wire's is another drop
  other : (wire : Wire) (one new : WiredDrop)
      → IsWiredAtStart plant wires froms readers wire new
      → is_drop_of wire.node wire.drop one ≡ false → AreOtherDrops one new
  other wire one new is not-it same-node same-number =
      let node = eq-eqb wire.node one.plan.now.node
      (sym (same-node ∙ node-is wire new is)) in
      let number = eq-eqb wire.drop one.drop.now.number
      (sym (same-number ∙ number-is wire new is)) in
      let yes : is_drop_of wire.node wire.drop one ≡ true = λ i. node i && number i in
      let both : true ≡ false = sym yes ∙ not-it in cc

  or-parts : (a b : Bool) → (a || b) ≡ false → (a ≡ false) × (b ≡ false)
  or-parts true b is = absurd cc
  or-parts false b is = (refl, is)

  none-there : (p : WiredDrop → Bool) (list : List WiredDrop) → list_any p list ≡ false
      → (k : ℕ) (d : WiredDrop) → k < length list → p (get_or list k d) ≡ false
  none-there p [] none k d within = absurd (omega (arith, within))
  none-there p (x ∷ list) none zero d within = (or-parts (p x) (list_any p list) none).0
  none-there p (x ∷ list) none (suc k) d within =
      none-there p list (or-parts (p x) (list_any p list) none).1 k d (omega (arith, within))

  wired-by : (b : Bool) (some : List Wire) (wire : Wire) (old new : List WiredDrop)
      → list_any (is_drop_of wire.node wire.drop) old ≡ b
      → AddsIf b plant wires froms readers wire old new
      → AreWiredOf plant wires froms some readers old
      → AreWiredOf plant wires froms (some ++ wire ∷ []) readers new
  wired-by true some wire old new there same so_far =
      subst (AreWiredOf plant wires froms (some ++ wire ∷ []) readers) (sym same)
      (record {
        each = λ k d within. of-more some wire (get_or old k d) (so_far.each k d within);
        there = All-push (λ (w : Wire). list_any (is_drop_of w.node w.drop) old ≡ true) some wire
            so_far.there there;
        apart = so_far.apart;
      })
  wired-by false some wire old new none adds so_far =
      let one = adds.0 in
      let all = old ++ one ∷ [] in
      subst (AreWiredOf plant wires froms (some ++ wire ∷ []) readers) (sym adds.2)
      (record {
        each = All-push (IsOfWires plant wires froms (some ++ wire ∷ []) readers) old one
            (λ k d within. of-more some wire (get_or old k d) (so_far.each k d within))
            (wire, last-there some wire, adds.1);
        there = All-push (λ (w : Wire). list_any (is_drop_of w.node w.drop) all ≡ true) some wire
            (λ k d within. any-left (is_drop_of (get_or some k d).node (get_or some k d).drop) old
            (one ∷ []) (so_far.there k d within))
            (any-last (is_drop_of wire.node wire.drop) old one (is-there wire one adds.1));
        apart = all_pairs_push AreOtherDrops old one so_far.apart (λ k d within.
            other wire (get_or old k d) one adds.1
            (none-there (is_drop_of wire.node wire.drop) old none k d within));
      })

  pub wired-more : (at next : ℕ) (wire d : Wire) (old new : List WiredDrop) → at < length wires
      → next ≡ at + 1 → wire ≡ get_or wires at d
      → AddsWired plant wires froms readers wire old new
      → AreWiredOf plant wires froms (take at wires) readers old
      → AreWiredOf plant wires froms (take next wires) readers new
  wired-more at next wire d old new within next_is here adds so_far =
      let front : take next wires ≡ take at wires ++ wire ∷ [] =
      ap (λ n. take n wires) next_is ∙ take_more wires at d within
      ∙ ap (λ (w : Wire). take at wires ++ w ∷ []) (sym here) in
      subst (λ (some : List Wire). AreWiredOf plant wires froms some readers new) (sym front)
      (wired-by (list_any (is_drop_of wire.node wire.drop) old) (take at wires) wire old new refl
      adds so_far)

  pub adds-new : (wire : Wire) (old new : List WiredDrop) (one : WiredDrop)
      → list_any (is_drop_of wire.node wire.drop) old ≡ false
      → IsWiredAtStart plant wires froms readers wire one → new ≡ old ++ one ∷ []
      → AddsWired plant wires froms readers wire old new
  adds-new wire old new one none is new-is =
      subst (λ (b : Bool). AddsIf b plant wires froms readers wire old new) (sym none)
      (one, is, new-is)

  pub no-wired : AreWiredOf plant wires froms [] readers []
  no-wired = record {
    each = λ k d within. absurd (omega (arith, within));
    there = λ k d within. absurd (omega (arith, within));
    apart = λ i j d low within. absurd (omega (arith, within));
  }
