use Rattle.std.proofs.Common.{◌≡◌, ◌-◌, ◌++◌, ℕ, suc, List, Option, Some, None, sym, ap, ◌∙◌}
use Rattle.std.proofs.Common.{length, arith, take, drop}
use Rattle.std.specs.Prelude.{◌==◌, slice_get, unwrap_or}
use Rattle.std.specs.List.{position_from}
use Rattle.std.proofs.lemmas.Option.{get_or_from_slice_get, slice_get_within}
use Rattle.field_machine.specs.declared.exchanges.Exchange.{Exchange}
use Rattle.field_pair.specs.Choices.{next_brought, without_next}
use Rattle.field_pair.proofs.Taking.{no-next, taken-next}
use Rattle.field_pair.proofs.exchanges.take_next.Goals as goal

abbrev is_with : ℕ → List Exchange → Option ℕ
is_with number exchanges = position_from (λ (x : Exchange). x.drop == number) 0 exchanges

pub remove-requires : goal.remove-requires
remove-requires c =
    let items = c.args.exchanges.now.items in
    let number = c.in-Some.number in
    let place = c.in-Some-place_with.place in
    let found : is_with number items ≡ Some place =
    ap (is_with number) (sym c.as_slice.ensures.value) ∙ sym c.in-Some-place_with.ensures in
    let taken = taken-next items number 0 place found in
    let within = slice_get_within items (place - 0) taken.exchange taken.is_there in
    let long = c.as_slice.ensures.len in
    let same = ap (λ (l : List Exchange). length l) c.as_slice.ensures.value in
    omega (arith, within, long, same)

pub returns-in-Some-place_with-clause-row : goal.returns-in-Some-place_with-clause-row
returns-in-Some-place_with-clause-row c =
    let items = c.args.exchanges.now.items in
    let number = c.in-Some.number in
    let place = c.in-Some-place_with.place in
    let found : is_with number items ≡ Some place =
    ap (is_with number) (sym c.as_slice.ensures.value) ∙ sym c.in-Some-place_with.ensures in
    let taken = taken-next items number 0 place found in
    let back : place - 0 ≡ place = omega arith in
    let there : slice_get items place ≡ Some taken.exchange =
    ap (slice_get items) (sym back) ∙ taken.is_there in
    let same : c.remove.result ≡ taken.exchange =
    c.remove.ensures.value ∙ get_or_from_slice_get items place taken.exchange c.remove.result there
    in
    ap (λ (x : Exchange). x.row) same
    ∙ (taken.row ∙ ap (λ (o : Option ℕ). next_brought o items) (sym c.in-Some.is))

pub returns-in-Some-place_with-clause-left : goal.returns-in-Some-place_with-clause-left
returns-in-Some-place_with-clause-left c =
    let items = c.args.exchanges.now.items in
    let number = c.in-Some.number in
    let place = c.in-Some-place_with.place in
    let found : is_with number items ≡ Some place =
    ap (is_with number) (sym c.as_slice.ensures.value) ∙ sym c.in-Some-place_with.ensures in
    let taken = taken-next items number 0 place found in
    let back : place ≡ place - 0 = omega arith in
    c.remove.ensures.items
    ∙ (ap (λ k. take k items ++ drop (suc k) items) back
    ∙ (taken.left ∙ ap (λ (o : Option ℕ). without_next o items) (sym c.in-Some.is)))

pub returns-in-None-clause-row : goal.returns-in-None-clause-row
returns-in-None-clause-row c =
    let items = c.args.exchanges.now.items in
    let number = c.in-Some.number in
    let found : is_with number items ≡ None =
    ap (is_with number) (sym c.as_slice.ensures.value) ∙ sym c.in-None.ensures in
    let none = no-next items number 0 found in
    sym (ap (λ (l : List ℕ). unwrap_or (slice_get l 0) 1) none.none)
    ∙ ap (λ (o : Option ℕ). next_brought o items) (sym c.in-Some.is)

pub returns-in-None-clause-left : goal.returns-in-None-clause-left
returns-in-None-clause-left c =
    let items = c.args.exchanges.now.items in
    let number = c.in-Some.number in
    let found : is_with number items ≡ None =
    ap (is_with number) (sym c.as_slice.ensures.value) ∙ sym c.in-None.ensures in
    let none = no-next items number 0 found in
    sym none.left ∙ ap (λ (o : Option ℕ). without_next o items) (sym c.in-Some.is)
