use Rattle.std.proofs.Common.{◌≡◌, ◌-◌, ◌++◌, ℕ, suc, List, Option, Some, None, refl, sym, ap, ◌∙◌}
use Rattle.std.proofs.Common.{length}
use Rattle.std.proofs.Common.{arith, take, drop}
use Rattle.std.specs.Prelude.{◌==◌}
use Rattle.std.specs.List.{position_from}
use Rattle.field_pair.proofs.Taking.{not-there, taken-at, taken-within}
use Rattle.field_pair.proofs.exchanges.take_out.Goals as goal

abbrev is_at : ℕ → List ℕ → Option ℕ
is_at number drops = position_from (λ drop. drop == number) 0 drops

pub remove-requires : goal.remove-requires
remove-requires c =
    let items = c.args.drops.now.items in
    let place = c.in-Some.place in
    let found : is_at c.args.number items ≡ Some place =
    ap (is_at c.args.number) (sym c.as_slice.ensures.value) ∙ sym c.in-Some.ensures in
    let within = taken-within items c.args.number 0 place found in
    let long = c.as_slice.ensures.len in
    let same = ap (λ (l : List ℕ). length l) c.as_slice.ensures.value in
    omega (arith, within, long, same)

pub returns-in-Some : goal.returns-in-Some
returns-in-Some c =
    let items = c.args.drops.now.items in
    let place = c.in-Some.place in
    let found : is_at c.args.number items ≡ Some place =
    ap (is_at c.args.number) (sym c.as_slice.ensures.value) ∙ sym c.in-Some.ensures in
    let taken = taken-at items c.args.number 0 place found in
    let back : place ≡ place - 0 = omega arith in
    record {
      there = sym taken.there;
      left = c.remove.ensures.items
          ∙ (ap (λ k. take k items ++ drop (suc k) items) back ∙ taken.left);
    }

pub returns-in-None : goal.returns-in-None
returns-in-None c =
    let items = c.args.drops.now.items in
    let found : is_at c.args.number items ≡ None =
    ap (is_at c.args.number) (sym c.as_slice.ensures.value) ∙ sym c.in-None.ensures in
    record { there = sym (not-there items c.args.number 0 found); left = refl }
