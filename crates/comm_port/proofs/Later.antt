-- A controller's items, whose power failed meanwhile.
use Rattle.std.proofs.Common.{◌≡◌, ℕ, ◌≤◌, Bool, true, List, [], ◌∷◌, Option, refl, sym, ◌∙◌}
use Rattle.std.proofs.Common.{subst, arith}
use Rattle.controller_core.specs.declared.entry.Entry.{Entry}
use Rattle.controller_core.specs.declared.entry.Entry.TheVariants.{Begin, Input, Solve, Output, End}
use Rattle.controller_core.specs.declared.entry.Entry.TheVariants.{Fail, Dark, Off}
use Rattle.controller_core.specs.declared.entry.Entry.TheVariants.{Collect, Peer, Finish}
use Rattle.ring_core.specs.declared.frame.Frame.{Frame}
use Rattle.ring_core.specs.declared.entry.RingEntry.{RingEntry}
use Rattle.tied_lists.specs.Own.{WentOn}
use Rattle.tied_lists.specs.Items.{Station, Items, Called, with_fails}
use Rattle.tied_lists.specs.Tied.{TiedBut}
use Rattle.tied_lists.proofs.Steps.{tied-raised}
use Rattle.joint_history.specs.Reading.{is_ours, item_next, items_of}
use Rattle.joint_history.proofs.Items.{items-one, items-same}
use Rattle.comm_port.specs.Turns.{AreWaiting}

-- the same items, after more failures
pub record Later (a a' : Items) : Type 0 where
  pub fails : ℕ
  pub is : a' ≡ with_fails a fails
  pub least : a.fails ≤ fails

-- an entry of ours leaves the failures
ours-fails : (a : Items) (k : ℕ) (e : Entry) → is_ours e ≡ true
    → (item_next (with_fails a k) e ≡ with_fails (item_next a e) k)
    × ((item_next a e).fails ≡ a.fails)
ours-fails a k Begin is = absurd (cc)
ours-fails a k (Input row) is = absurd (cc)
ours-fails a k (Solve row) is = absurd (cc)
ours-fails a k (Output row words) is = absurd (cc)
ours-fails a k End is = absurd (cc)
ours-fails a k Fail is = absurd (cc)
ours-fails a k Dark is = absurd (cc)
ours-fails a k (Collect calls) is = (refl, refl)
ours-fails a k (Peer id request reply) is = (refl, refl)
ours-fails a k (Off id request) is = (refl, refl)
ours-fails a k (Finish id result) is = (refl, refl)

-- the controller's list went on, and then had an entry of ours, or none
pub later-same : (alone : Bool) (known known' : List Entry) → WentOn alone is_ours known [] known'
    → Later (items_of known) (items_of known')
later-same alone known known' w =
    let g = items-same alone known known' w in
    record { fails = g.fails; is = g.items_are; least = g.more }

pub later-one : (alone : Bool) (known : List Entry) (e : Entry) (known' : List Entry)
    → WentOn alone is_ours known (e ∷ []) known' → is_ours e ≡ true
    → Later (item_next (items_of known) e) (items_of known')
later-one alone known e known' w ours =
    let g = items-one alone known e known' w in
    let kept = ours-fails (items_of known) g.fails e ours in
    record {
      fails = g.fails;
      is = g.items_are ∙ kept.0;
      least = let k = g.more in let same = kept.1 in omega (arith, k, same);
    }

-- the laws stay
pub tied-later : (station : Station) (rest : List Called) (b : List RingEntry) {a a' : Items}
    → Later a a' → TiedBut station rest a b → TiedBut station rest a' b
tied-later station rest b {a} {a'} l t = subst (λ (x : Items). TiedBut station rest x b) (sym l.is)
    (tied-raised station rest a l.fails b l.least t)

pub waits-later : (n : ℕ) (b : List RingEntry) (w : List (Option Frame)) {a a' : Items}
    → Later a a' → AreWaiting n a b w → AreWaiting n a' b w
waits-later n b w {a} {a'} l k = subst (λ (x : Items). AreWaiting n x b w) (sym l.is) (record {
  size = k.size;
  waits = k.waits;
  asks = k.asks;
  outs = λ p f is. let out = k.outs p f is in record { made = out.made; unended = out.unended };
})
