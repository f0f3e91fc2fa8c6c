-- A controller with the drops of another that takes the same field.
use Rattle.std.proofs.Common.{◌≡◌, ◌≤◌, ℕ, suc, true, List, [], ◌∷◌, Option, Some, None, refl}
use Rattle.std.proofs.Common.{sym, ap, ◌∙◌, subst}
use Rattle.std.specs.List.{AllByRecursion}
use Rattle.plant_types.specs.declared.drops.IoDrop.{IoDrop}
use Rattle.plant_types.specs.declared.drops.Module.{Module}
use Rattle.plant_types.specs.declared.drops.ScriptRow.{ScriptRow}
use Rattle.plant_types.specs.declared.plan.ControllerPlan.{ControllerPlan}
use Rattle.plant_types.specs.declared.plan.OrderRow.{OrderRow}
use Rattle.plant_types.specs.Checks.{sizes_of}
use Rattle.plant_types.specs.Limits.{drop_words}
use Rattle.plant_types.specs.Sizes.{cleared}
use Rattle.plant_types.specs.Store.{Contents}
use Rattle.traffic_cop.specs.Drops.{drop_named, CanExchange}
use Rattle.traffic_cop.specs.Exchange.{fits_row, input_total, output_total, HasModules, IsDrop}
use Rattle.traffic_cop.specs.Rows.{FitsPlan, NamesDrop}
use Rattle.field_runs.proofs.Settling.{all-get}
use Rattle.side_runs.specs.Beside.{AreAlikeDrops, HasRowsOf, TakeOneField, TakeTheSame}
use Rattle.side_runs.specs.Laws.{DropsStayAlone}

-- where each row of a script is one of another, what holds of all of these holds of all of those
all-into : (P : ScriptRow → Type 0) (script other : List ScriptRow) → HasRowsOf script other
    → AllByRecursion P other → AllByRecursion P script
all-into P [] other into all = tt
all-into P (row ∷ script) other into all = (
  let there = into 0 row refl in all-get P other there.0 row all there.1,
  all-into P script other (λ i x at. into (suc i) x at) all,
)

same-drop : (a b : IoDrop) → TakeTheSame a b → IsDrop b → IsDrop a
same-drop a b same is =
    let modules : b.modules ≡ a.modules = sym same.modules in
    record {
      rows = all-into (λ row. fits_row a.modules row ≡ true) a.script b.script same.in_other
          (subst (λ (m : List Module). AllByRecursion (λ row. fits_row m row ≡ true) b.script)
          modules is.rows);
      inputs = subst (λ (m : List Module). input_total m ≤ drop_words) modules is.inputs;
      outputs = subst (λ (m : List Module). output_total m ≤ drop_words) modules is.outputs;
    }

exchange-by : (drops plan-drops : List IoDrop) (number : ℕ) (m : Contents) (a b : Option IoDrop)
    → drop_named drops number ≡ a → drop_named plan-drops number ≡ b → AreAlikeDrops a b
    → CanExchange plan-drops number m → CanExchange drops number m
exchange-by drops other number m a None at at' alike can =
    absurd (let no' : None ≡ Some can.found = sym at' ∙ can.named in cc)
exchange-by drops other number m None (Some b) at at' alike can = absurd alike
exchange-by drops other number m (Some a) (Some b) at at' alike can =
    let found : Some b ≡ Some can.found = sym at' ∙ can.named in
    let e : can.found ≡ b = cc in
    record {
      found = a;
      named = at;
      fits = same-drop a b alike (subst IsDrop e can.fits);
      room = subst (λ (l : List Module). HasModules m l)
          (ap (λ (d : IoDrop). d.modules) e ∙ sym alike.modules) can.room;
    }

module _ (plan : ControllerPlan) (drops : List IoDrop) (one : TakeOneField drops plan.drops) where
  abbrev with' : ControllerPlan
  with' = record plan { drops = drops }

  names : (drop : Option ℕ) → NamesDrop plan drop → NamesDrop with' drop
  names None named = tt
  names (Some number) named = record {
    from = named.from;
    to = named.to;
    ready = exchange-by drops plan.drops number (cleared (sizes_of plan)) (drop_named drops number)
        (drop_named plan.drops number) refl refl (one number) named.ready;
  }

  row-fits : (row : OrderRow) → FitsPlan plan row → FitsPlan with' row
  row-fits row fits = record {
    from = fits.from;
    to = fits.to;
    control = fits.control;
    input = names row.input fits.input;
    output = names row.output fits.output;
  }

  rows-fit : (rows : List OrderRow) → AllByRecursion (FitsPlan plan) rows
      → AllByRecursion (FitsPlan with') rows
  rows-fit [] all = tt
  rows-fit (row ∷ rows) all = (row-fits row all.0, rows-fit rows all.1)

pub stays-alone : DropsStayAlone
stays-alone plan drops alone one = record {
  runs = record {
    passes = alone.runs.passes;
    messages = alone.runs.messages;
    count = alone.runs.count;
    rows = rows-fit plan drops one plan.orders alone.runs.rows;
  };
  power = alone.power;
  messages = alone.messages;
}
