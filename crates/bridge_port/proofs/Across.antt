-- What entries of the other end leave of an end, and what an entry of its own makes of it.
use Rattle.std.proofs.Common.{◌≡◌, ◌≢◌, ℕ, Bool, true, false, cond, List, [], ◌∷◌, ◌++◌}
use Rattle.std.proofs.Common.{filter, Option, Some, None, refl, sym, ap, ◌∙◌, subst, inl, inr}
use Rattle.std.proofs.Common.{append_assoc, append-nil, eq-eqb}
use Rattle.std.proofs.lemmas.Bool.{cases_eq, ne_eqb}
use Rattle.plant_types.specs.declared.net.BridgePlan.{BridgePlan}
use Rattle.bridge_relay.specs.declared.entry.BridgeEntry.{BridgeEntry}
use Rattle.bridge_relay.specs.declared.entry.BridgeEntry.TheVariants.{Accept, Forward, Finish}
use Rattle.bridge_relay.specs.declared.entry.BridgeEntry.TheVariants.{Back, Gone}
use Rattle.bridge_relay.specs.Machine.{EndIs, RelayIs, Waiting, side_of, near_end, relay_after}
use Rattle.bridge_relay.specs.Machine.{relay_step}
use Rattle.bridge_relay.specs.Machine.{far_end, far_side}
use Rattle.bridge_relay.specs.Laws.{end_after, is_by}
use Rattle.bridge_relay.specs.Legal.{IsBridgeHistory, IsEnd, IsOpenEnd}
use Rattle.bridge_relay.specs.Kept.{far_accepted, far_after, near_after}
use Rattle.bridge_relay.proofs.Steps.{after_more, step_left, step_right}
use Rattle.bridge_causes.proofs.Ends.{near-left, near-right}
use Rattle.tied_lists.specs.Own.{WentOn}

-- the paths of an end, and whether it has left, as they were
pub record IsAsWas (old new : EndIs) : Type 0 where
  pub paths : new.paths ≡ old.paths
  pub gone : new.gone ≡ old.gone

pub as-was : (end : EndIs) → IsAsWas end end
as-was end = record { paths = refl; gone = refl }

pub as-then : (a b c : EndIs) → IsAsWas a b → IsAsWas b c → IsAsWas a c
as-then a b c x y = record { paths = y.paths ∙ x.paths; gone = y.gone ∙ x.gone }

-- ---- one entry

far-accepts : (far : EndIs) (item : Waiting) (code : Option ℕ)
    → IsAsWas far (far_accepted far item code)
far-accepts far item None = record { paths = refl; gone = refl }
far-accepts far item (Some code) = record { paths = refl; gone = refl }

pub far-stays : (across : ℕ) (near far : EndIs) (e : BridgeEntry)
    → IsAsWas far (far_after across near far e)
far-stays across near far (Accept side id route request) = far-accepts far _ _
far-stays across near far (Forward side old id route request) =
    record { paths = refl; gone = refl }
far-stays across near far (Finish side id result) = record { paths = refl; gone = refl }
far-stays across near far (Back side id reply) = record { paths = refl; gone = refl }
far-stays across near far (Gone side) = record { paths = refl; gone = refl }

-- an entry of the other end
step-across : (plan : BridgePlan) (relay : RelayIs) (n : ℕ) (e : BridgeEntry) → IsEnd plan n
    → IsEnd plan (side_of e) → side_of e ≢ n
    → IsAsWas (near_end plan relay n) (near_end plan (relay_step plan relay e) n)
step-across plan relay n e end made other =
    let next = relay_step plan relay e in
    elim (cases_eq n plan.left) [
      | inl is ↦
          let s = step_right plan relay.left relay.right e (λ m. other (m ∙ sym is)) in
          let now : near_end plan next n ≡ far_after plan.left relay.right relay.left e =
          near-left plan next n is ∙ ap (λ (r : RelayIs). r.left) s in
          subst (λ (x : EndIs). IsAsWas x (near_end plan next n)) (sym (near-left plan relay n is))
          (subst (IsAsWas relay.left) (sym now)
          (far-stays plan.left relay.right relay.left e))
      | inr apart ↦
          let s = step_left plan relay.left relay.right e (maker-left apart made) in
          let now : near_end plan next n ≡ far_after plan.right relay.left relay.right e =
          near-right plan next n apart ∙ ap (λ (r : RelayIs). r.right) s in
          subst (λ (x : EndIs). IsAsWas x (near_end plan next n))
          (sym (near-right plan relay n apart))
          (subst (IsAsWas relay.right) (sym now)
          (far-stays plan.right relay.left relay.right e))
    ]
  where
    n-right : n ≢ plan.left → IsEnd plan n → n ≡ plan.right
    n-right apart (inl is) = absurd (apart is)
    n-right apart (inr is) = is

    maker-left : n ≢ plan.left → IsEnd plan (side_of e) → side_of e ≡ plan.left
    maker-left apart (inl is) = is
    maker-left apart (inr is) = absurd (other (is ∙ sym (n-right apart end)))

-- ---- entries of the other end

first-made : (n : ℕ) (e : BridgeEntry) (es : List BridgeEntry) (b : Bool)
    → cond b (e ∷ filter (is_by n) es) (filter (is_by n) es) ≡ []
    → (b ≡ false) × (filter (is_by n) es ≡ [])
first-made n e es true is = absurd cc
first-made n e es false is = (refl, is)

pub across-stays : (plan : BridgePlan) (n : ℕ) (before more : List BridgeEntry) → IsEnd plan n
    → IsBridgeHistory plan (before ++ more) → filter (is_by n) more ≡ []
    → IsAsWas (end_after plan before n) (end_after plan (before ++ more) n)
across-stays plan n before [] end legal none =
    subst (λ (l : List BridgeEntry). IsAsWas (end_after plan before n) (end_after plan l n))
    (sym (append-nil before)) (as-was (end_after plan before n))
across-stays plan n before (e ∷ es) end legal none =
    let k = first-made n e es (is_by n e) none in
    let joined = append_assoc before (e ∷ []) es in
    let here = legal before es e refl in
    let other : side_of e ≢ n = λ is. absurd
    (let bad : true ≡ false = sym (eq-eqb (side_of e) n is) ∙ k.0 in cc) in
    let one : IsAsWas (end_after plan before n) (end_after plan (before ++ e ∷ []) n) =
    subst (λ (r : RelayIs). IsAsWas (end_after plan before n) (near_end plan r n))
    (sym (after_more plan before e))
    (step-across plan (relay_after plan before) n e end here.side.end other) in
    subst (λ (l : List BridgeEntry). IsAsWas (end_after plan before n) (end_after plan l n)) joined
    (as-then _ _ _ one (across-stays plan n (before ++ e ∷ []) es end
    (subst (IsBridgeHistory plan) (sym joined) legal) k.1))

-- the history before the last entries
pub legal-front : (plan : BridgePlan) (xs ys : List BridgeEntry) → IsBridgeHistory plan (xs ++ ys)
    → IsBridgeHistory plan xs
legal-front plan xs ys legal before after' e is =
    legal before (after' ++ ys) e (ap (λ l. l ++ ys) is ∙ append_assoc before (e ∷ after') ys)

-- nothing but entries of the other end came
pub still-stays : (alone : Bool) (plan : BridgePlan) (n : ℕ) (list list' : List BridgeEntry)
    → IsEnd plan n → IsBridgeHistory plan list' → WentOn alone (is_by n) list [] list'
    → IsAsWas (end_after plan list n) (end_after plan list' n)
still-stays alone plan n list list' end legal w =
    let is : list' ≡ list ++ w.between = w.after_is ∙ append-nil (list ++ w.between) in
    subst (λ (l : List BridgeEntry). IsAsWas (end_after plan list n) (end_after plan l n)) (sym is)
    (across-stays plan n list w.between end (subst (IsBridgeHistory plan) is legal) w.others)

pub still-open : (alone : Bool) (plan : BridgePlan) (n : ℕ) (list list' : List BridgeEntry)
    → IsBridgeHistory plan list' → WentOn alone (is_by n) list [] list'
    → IsOpenEnd plan list n → IsOpenEnd plan list' n
still-open alone plan n list list' legal w is = record {
  end = is.end;
  here = (still-stays alone plan n list list' is.end legal w).gone ∙ is.here;
}

-- ---- an entry of the end itself

-- the end before an entry of its own, behind those of the other end
pub record IsOwnStep (plan : BridgePlan) (n : ℕ) (list list' : List BridgeEntry) (e : BridgeEntry)
    : Type 0 where
  pub far : EndIs
  pub across : ℕ
  pub past : EndIs
  pub stays : IsAsWas (end_after plan list n) past
  pub after_is : end_after plan list' n ≡ near_after across past far e

step-own : (plan : BridgePlan) (relay : RelayIs) (n : ℕ) (e : BridgeEntry) → side_of e ≡ n
    → near_end plan (relay_step plan relay e) n
    ≡ near_after (far_side plan n) (near_end plan relay n) (far_end plan relay n) e
step-own plan relay n e made =
    let next = relay_step plan relay e in
    elim (cases_eq n plan.left) [
      | inl is ↦ near-left plan next n is
          ∙ (ap (λ (r : RelayIs). r.left)
          (step_left plan relay.left relay.right e (made ∙ is))
          ∙ ap by (sym (eq-eqb n plan.left is)))
      | inr apart ↦ near-right plan next n apart
          ∙ (ap (λ (r : RelayIs). r.right)
          (step_right plan relay.left relay.right e (λ m. apart (sym made ∙ m)))
          ∙ ap by (sym (ne_eqb n plan.left apart)))
    ]
  where
    by : Bool → EndIs
    by b = near_after (cond b plan.right plan.left) (cond b relay.left relay.right)
        (cond b relay.right relay.left) e

pub own-step : (alone : Bool) (plan : BridgePlan) (n : ℕ) (list : List BridgeEntry)
    (e : BridgeEntry) (list' : List BridgeEntry) → side_of e ≡ n → IsEnd plan n
    → IsBridgeHistory plan list' → WentOn alone (is_by n) list (e ∷ []) list'
    → IsOwnStep plan n list list' e
own-step alone plan n list e list' made end legal w =
    let before = list ++ w.between in
    let legal' = legal-front plan before (e ∷ []) (subst (IsBridgeHistory plan) w.after_is legal) in
    record {
      far = far_end plan (relay_after plan before) n;
      across = far_side plan n;
      past = end_after plan before n;
      stays = across-stays plan n list w.between end legal' w.others;
      after_is = ap (λ (l : List BridgeEntry). end_after plan l n) w.after_is
          ∙ (ap (λ (r : RelayIs). near_end plan r n) (after_more plan before e)
          ∙ step-own plan (relay_after plan before) n e made);
    }
