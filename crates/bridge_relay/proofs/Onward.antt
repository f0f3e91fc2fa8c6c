-- What waits goes on: its route has an address, and the first is not that of the end itself.
use Rattle.std.proofs.Common.{◌≡◌, ◌≢◌, ℕ, ◌==◌, ◌||◌, Bool, true, false, cond, List, [], ◌∷◌}
use Rattle.std.proofs.Common.{Option, Some, None, refl, sym, ap, ◌∙◌, subst, inl, inr, fold}
use Rattle.std.proofs.Common.{nat_le, length}
use Rattle.std.proofs.lemmas.Bool.{cases_eq, eq-eqb}
use Rattle.std.specs.List.{AllByRecursion}
use Rattle.plant_types.specs.declared.net.BridgePlan.{BridgePlan}
use Rattle.bridge_relay.specs.declared.entry.BridgeEntry.{BridgeEntry}
use Rattle.bridge_relay.specs.declared.entry.BridgeEntry.TheVariants.{Accept, Forward, Finish}
use Rattle.bridge_relay.specs.declared.entry.BridgeEntry.TheVariants.{Back, Gone}
use Rattle.bridge_relay.specs.Machine.{EndIs, RelayIs, Waiting, new_relay, relay_step, relay_after}
use Rattle.bridge_relay.specs.Machine.{side_of}
use Rattle.bridge_relay.specs.Machine.{no_path_code, busy_code, waiting_limit}
use Rattle.bridge_relay.specs.Kept.{code_between, near_accepted, far_accepted, near_after}
use Rattle.bridge_relay.specs.Kept.{far_after}
use Rattle.bridge_relay.proofs.Lists.{all_push, all_behind}
use Rattle.bridge_relay.proofs.Steps.{step_left, step_right}

pub record IsOnward (own : ℕ) (item : Waiting) : Type 0 where
  pub next : ℕ
  pub rest : List ℕ
  pub route : item.route ≡ next ∷ rest
  pub other : next ≢ own

pub record SendsOn (plan : BridgePlan) (relay : RelayIs) : Type 0 where
  pub left : AllByRecursion (IsOnward plan.left) relay.left.to_send
  pub right : AllByRecursion (IsOnward plan.right) relay.right.to_send

-- a request that waits has a route that goes on
next_apart : (gone : Bool) (next across : ℕ) (full : Option ℕ)
    → cond (gone || (next == across)) (Some no_path_code) full ≡ None → next ≢ across
next_apart true next across full is same = absurd cc
next_apart false next across full is same =
    let there = eq-eqb next across same in
    let some : Some no_path_code ≡ None =
    sym (ap (λ b. cond b (Some no_path_code) full) there) ∙ is in
    absurd cc

goes_on : (across : ℕ) (far : EndIs) (item : Waiting) (route : List ℕ) → item.route ≡ route
    → code_between across far route ≡ None → IsOnward across item
goes_on across far item [] same is = absurd cc
goes_on across far item (next ∷ rest) same is = record {
  next = next;
  rest = rest;
  route = same;
  other = next_apart far.gone next across
      (cond (nat_le waiting_limit (length far.to_send)) (Some busy_code) None) is;
}

near_given : (own : ℕ) (near : EndIs) (item : Waiting) (code : Option ℕ)
    → AllByRecursion (IsOnward own) near.to_send
    → AllByRecursion (IsOnward own) (near_accepted near item code).to_send
near_given own near item None all = all
near_given own near item (Some code) all = all

far_given : (across : ℕ) (far : EndIs) (item : Waiting) (code : Option ℕ)
    → code_between across far item.route ≡ code
    → AllByRecursion (IsOnward across) far.to_send
    → AllByRecursion (IsOnward across) (far_accepted far item code).to_send
far_given across far item None is all =
    all_push (IsOnward across) far.to_send item all (goes_on across far item item.route refl is)
far_given across far item (Some code) is all = all

near_keeps : (own across : ℕ) (near far : EndIs) (entry : BridgeEntry)
    → AllByRecursion (IsOnward own) near.to_send
    → AllByRecursion (IsOnward own) (near_after across near far entry).to_send
near_keeps own across near far (Accept side id route request) all =
    near_given own near (record { id = id; route = route; request = request })
    (code_between across far route) all
near_keeps own across near far (Forward side old id route request) all =
    all_behind (IsOnward own) near.to_send all
near_keeps own across near far (Finish side id result) all = all
near_keeps own across near far (Back side id reply) all = all
near_keeps own across near far (Gone side) all = tt

far_keeps : (across : ℕ) (near far : EndIs) (entry : BridgeEntry)
    → AllByRecursion (IsOnward across) far.to_send
    → AllByRecursion (IsOnward across) (far_after across near far entry).to_send
far_keeps across near far (Accept side id route request) all =
    far_given across far (record { id = id; route = route; request = request })
    (code_between across far route) refl all
far_keeps across near far (Forward side old id route request) all = all
far_keeps across near far (Finish side id result) all = all
far_keeps across near far (Back side id reply) all = all
far_keeps across near far (Gone side) all = all

step_sends : (plan : BridgePlan) (relay : RelayIs) (entry : BridgeEntry) → SendsOn plan relay
    → SendsOn plan (relay_step plan relay entry)
step_sends plan relay entry sends =
    let left = relay.left in
    let right = relay.right in
    elim (cases_eq (side_of entry) plan.left) [
      | inl is ↦ subst (SendsOn plan) (sym (step_left plan left right entry is)) (record {
        left = near_keeps plan.left plan.right left right entry sends.left;
        right = far_keeps plan.right left right entry sends.right;
      })
      | inr is ↦ subst (SendsOn plan) (sym (step_right plan left right entry is)) (record {
        left = far_keeps plan.left right left entry sends.left;
        right = near_keeps plan.right plan.left right left entry sends.right;
      })
    ]

all_send : (plan : BridgePlan) (relay : RelayIs) (history : List BridgeEntry) → SendsOn plan relay
    → SendsOn plan (fold (relay_step plan) relay history)
all_send plan relay [] sends = sends
all_send plan relay (entry ∷ history) sends =
    all_send plan (relay_step plan relay entry) history (step_sends plan relay entry sends)

-- after entries each end sends on
pub sends_on : (plan : BridgePlan) (history : List BridgeEntry)
    → SendsOn plan (relay_after plan history)
sends_on plan history = all_send plan new_relay history (record { left = tt; right = tt })
