-- The first drop of a number, found step by step.
use Rattle.std.proofs.Common.{◌≡◌, ◌≢◌, ◌≤◌, ◌<◌, ◌+◌, ◌==◌, ℕ, cond, List, length, drop, get_or}
use Rattle.std.proofs.Common.{Option, Some, None, sym, ap, ◌∙◌, eq-eqb}
use Rattle.std.proofs.lemmas.Bool.{ne_eqb}
use Rattle.std.proofs.lemmas.List.{drop_more, drop_all}
use Rattle.plant_types.specs.declared.drops.IoDrop.{IoDrop}
use Rattle.plant_types.specs.declared.drops.Module.{Module}
use Rattle.plant_types.specs.declared.drops.ScriptRow.{ScriptRow}
use Rattle.plant_types.specs.Store.{Contents}
use Rattle.traffic_cop.specs.Exchange.{exchanged_by, row_at}
use Rattle.traffic_cop.specs.Drops.{drop_named, exchanged_in, health_at, health_by, health_in}
use Rattle.traffic_cop.specs.Drops.{input_after}

named_at : (drops : List IoDrop) (i : ℕ) (d : IoDrop) (number : ℕ) → i < length drops
    → d ≡ get_or drops i d
    → drop_named (drop i drops) number
    ≡ cond (d.number == number) (Some d) (drop_named (drop (i + 1) drops) number)
unfolding drop_named
named_at drops i d number h is =
    ap (λ (l : List IoDrop). drop_named l number) (drop_more drops i d h)
    ∙ ap (λ (x : IoDrop). cond (x.number == number) (Some x)
    (drop_named (drop (i + 1) drops) number)) (sym is)

pub named_here : (drops : List IoDrop) (i : ℕ) (d : IoDrop) (number : ℕ) → i < length drops
    → d ≡ get_or drops i d → d.number ≡ number
    → drop_named (drop i drops) number ≡ Some d
named_here drops i d number h is same =
    named_at drops i d number h is ∙ ap
    (λ b. cond b (Some d) (drop_named (drop (i + 1) drops) number)) (eq-eqb d.number number same)

pub named_later : (drops : List IoDrop) (i : ℕ) (d : IoDrop) (number : ℕ) → i < length drops
    → d ≡ get_or drops i d → d.number ≢ number
    → drop_named (drop i drops) number ≡ drop_named (drop (i + 1) drops) number
named_later drops i d number h is other =
    named_at drops i d number h is ∙ ap
    (λ b. cond b (Some d) (drop_named (drop (i + 1) drops) number)) (ne_eqb d.number number other)

pub named_none : (drops : List IoDrop) (i number : ℕ) → length drops ≤ i
    → drop_named (drop i drops) number ≡ None
unfolding drop_named
named_none drops i number h = ap (λ (l : List IoDrop). drop_named l number) (drop_all i drops h)

-- What is found of the exchange of a drop: the drop, its modules and its row.
pub record FindsRow (drops : List IoDrop) (number k : ℕ) (modules : List Module)
    (row : Option ScriptRow) : Type 0 where
  pub found : IoDrop
  pub named : Some found ≡ drop_named drops number
  pub modules_are : modules ≡ found.modules
  pub row_is : row_at found.script k ≡ row

pub stored_by_row : (drops : List IoDrop) (number k : ℕ) (modules : List Module)
    (row : Option ScriptRow) (m : Contents)
    → FindsRow drops number k modules row
    → exchanged_by row modules m ≡ input_after drops number k m
stored_by_row drops number k modules row m finds =
    ap (λ (l : List Module). exchanged_by row l m) finds.modules_are
    ∙ ap (λ (r : Option ScriptRow). exchanged_by r finds.found.modules m) (sym finds.row_is)
    ∙ ap (λ (o : Option IoDrop). exchanged_in o k m) finds.named

pub health_by_row : (drops : List IoDrop) (number k : ℕ) (modules : List Module)
    (row : Option ScriptRow)
    → FindsRow drops number k modules row → health_by row ≡ health_at drops number k
health_by_row drops number k modules row finds =
    ap health_by (sym finds.row_is) ∙ ap (λ (o : Option IoDrop). health_in o k) finds.named
