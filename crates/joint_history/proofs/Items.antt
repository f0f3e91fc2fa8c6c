-- The items of a controller's list, as it goes on.
use Rattle.std.proofs.Common.{◌≡◌, ℕ, ◌+◌, ◌≤◌, Bool, List, [], ◌∷◌, ◌++◌, filter, refl}
use Rattle.std.proofs.Common.{ap, ◌∙◌, arith}
use Rattle.controller_core.specs.declared.entry.Entry.{Entry}
use Rattle.controller_core.specs.declared.entry.Entry.TheVariants.{Begin, Input, Solve, Output, End}
use Rattle.controller_core.specs.declared.entry.Entry.TheVariants.{Fail, Dark, Off}
use Rattle.controller_core.specs.declared.entry.Entry.TheVariants.{Collect, Peer, Finish}
use Rattle.tied_lists.specs.Own.{WentOn}
use Rattle.tied_lists.specs.Items.{Items, no_items, with_fails}
use Rattle.joint_history.specs.Reading.{is_ours, item_next, items_after, items_of}

items_after-append : (a : Items) (xs ys : List Entry)
    → items_after a (xs ++ ys) ≡ items_after (items_after a xs) ys
items_after-append a [] ys = refl
items_after-append a (x ∷ xs) ys = items_after-append (item_next a x) xs ys

-- events of the scan are no items but power failures
items_after-others : (a : Items) (xs : List Entry) → filter is_ours xs ≡ []
    → (fails : ℕ) × (a.fails ≤ fails) × (items_after a xs ≡ with_fails a fails)
items_after-others a [] none = (a.fails, omega arith, refl)
items_after-others a (Begin ∷ xs) none = items_after-others a xs none
items_after-others a (Input row ∷ xs) none = items_after-others a xs none
items_after-others a (Solve row ∷ xs) none = items_after-others a xs none
items_after-others a (Output row words ∷ xs) none = items_after-others a xs none
items_after-others a (End ∷ xs) none = items_after-others a xs none
items_after-others a (Fail ∷ xs) none =
    let more = items_after-others (with_fails a (a.fails + 1)) xs none in
    (more.0, let le = more.1 in omega (arith, le), more.2)
items_after-others a (Dark ∷ xs) none = items_after-others a xs none
items_after-others a (Collect calls ∷ xs) none = absurd (cc)
items_after-others a (Peer id request reply ∷ xs) none = absurd (cc)
items_after-others a (Off id request ∷ xs) none = absurd (cc)
items_after-others a (Finish id result ∷ xs) none = absurd (cc)

-- Items that went on: power failed more often, perhaps, and then these entries came.
pub record ItemsWent (a : Items) (added : List Entry) (a' : Items) : Type 0 where
  pub fails : ℕ
  pub more : a.fails ≤ fails
  pub items_are : a' ≡ items_after (with_fails a fails) added

pub items-went : (alone : Bool) (known added known' : List Entry)
    → WentOn alone is_ours known added known'
    → ItemsWent (items_of known) added (items_of known')
items-went alone known added known' w =
    let others = items_after-others (items_of known) w.between w.others in
    record {
      fails = others.0;
      more = others.1;
      items_are = ap items_of w.after_is ∙ (items_after-append no_items (known ++ w.between) added
          ∙ ap (λ (a : Items). items_after a added)
          (items_after-append no_items known w.between ∙ others.2));
    }

pub items-one : (alone : Bool) (known : List Entry) (e : Entry) (known' : List Entry)
    → WentOn alone is_ours known (e ∷ []) known'
    → ItemsWent (items_of known) (e ∷ []) (items_of known')
items-one alone known e known' w = items-went alone known (e ∷ []) known' w

pub items-same : (alone : Bool) (known known' : List Entry) → WentOn alone is_ours known [] known'
    → ItemsWent (items_of known) [] (items_of known')
items-same alone known known' w = items-went alone known [] known' w
