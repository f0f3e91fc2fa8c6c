use Rattle.std.proofs.Common.{◌≡◌, ◌+◌, ◌/◌, ◌%◌, ◌++◌, ◌<◌, ◌≤◌, ℕ, List, [], Option, Some, None, get_or}
use Rattle.std.proofs.Common.{sym, ap, ◌∙◌, subst, append_assoc, append-nil, arith, length, refl}
use Rattle.std.specs.Prelude.{slice_get}
use Rattle.std.specs.List.{cons_option}
use Rattle.plant_types.specs.declared.drops.IoDrop.{IoDrop}
use Rattle.plant_types.specs.declared.plan.OrderRow.{OrderRow}
use Rattle.scan_order.specs.Due.{rows_from}
use Rattle.field_machine.specs.declared.exchanges.Exchange.{Exchange}
use Rattle.field_machine.specs.Choices.{choices_for}
use Rattle.field_machine.specs.Exchanges.{exchange_with}
use Rattle.field_machine.proofs.Exchanging.{exchanges_by, row-exchanged, rows-exchanged}
use Rattle.field_machine.proofs.Items.{get-there}
use Rattle.field_machine.proofs.exchanges.exchanges_of.Goals as goal

abbrev no-row : OrderRow
no-row = record { segment = 0; control = None; input = None; output = None }

one-more : (o : Option Exchange) (rest : List Exchange)
    → cons_option o [] ++ rest ≡ cons_option o rest
one-more None rest = refl
one-more (Some e) rest = refl

pub loop-row-preserved : goal.loop-row-preserved
loop-row-preserved c =
    let plan = c.args.plan.now in
    let orders = c.as_slice-row-items.result.now in
    let same : orders ≡ plan.orders = c.as_slice-row-items.ensures in
    let i = c.loop-row.row-index in
    let way = c.loop-row.left in
    let row = get_or orders i no-row in
    let at : slice_get plan.orders i ≡ Some row =
    subst (λ (l : List OrderRow). slice_get l i ≡ Some row) same
    (get-there orders i no-row c.loop-row-test.true) in
    let within : i < length plan.orders =
    subst (λ (l : List OrderRow). i < length l) same c.loop-row-test.true in
    let many : c.in_ok-many.many ≡ choices_for plan.drops row.input =
    c.in_ok-many.ensures
    ∙ ap (λ (drops : List IoDrop). choices_for drops row.input) c.as_slice.ensures in
    let es = c.loop-row.exchanges.items in
    let rest = λ (k : ℕ). exchanges_by plan (way / k) (rows_from plan (i + 1 + 1)) in
    let one = λ (k : ℕ). exchange_with row.input (way % k + 1) in
    let n = c.in_ok-many.many in
    ap (λ (l : List Exchange). l ++ rest n) c.in_ok-push_exchange.ensures
    ∙ (append_assoc es (cons_option (one n) []) (rest n)
    ∙ (ap (λ (l : List Exchange). es ++ l) (one-more (one n) (rest n))
    ∙ (ap (λ k. es ++ cons_option (one k) (rest k)) many
    ∙ (ap (λ (l : List Exchange). es ++ l) (sym (row-exchanged plan i way row at within))
    ∙ c.loop-row.invariant))))

pub returns : goal.returns
returns c =
    let plan = c.args.plan.now in
    let orders = c.as_slice-row-items.result.now in
    let same = ap (λ (l : List OrderRow). length l) c.as_slice-row-items.ensures in
    let i = c.loop-row.row-index in
    let past : length plan.orders ≤ i =
    let over = c.loop-row-test.false in omega (arith, same, over) in
    let es = c.loop-row.exchanges.items in
    sym (append-nil es)
    ∙ (ap (λ (l : List Exchange). es ++ l) (sym (rows-exchanged plan i c.loop-row.left past))
    ∙ c.loop-row.invariant)
