use Rattle.std.proofs.Common.{◌≡◌, ◌∙◌, List, refl, subst, sym, true, false}
use Rattle.plant_types.specs.declared.drops.ScriptRow.{ScriptRow}
use Rattle.side_runs.specs.Beside.{HasRowsOf}
use Rattle.field_pair.proofs.alike.take_the_same.Goals as goal

-- rows of scripts that are the same lists
rows-same : (a b c d : List ScriptRow) → a ≡ c → b ≡ d → HasRowsOf a b → HasRowsOf c d
rows-same a b c d one other has =
    subst (λ (l : List ScriptRow). HasRowsOf c l) other
    (subst (λ (l : List ScriptRow). HasRowsOf l b) one has)

pub returns-in_ok-has_rows_of-2 : goal.returns-in_ok-has_rows_of-2
returns-in_ok-has_rows_of-2 c =
    let old = c.args.old.now in
    let new = c.args.new.now in
    let one = c.as_slice-one.ensures in
    let other = c.as_slice-other.ensures in
    let has = c.in_ok-has_rows_of.ensures.0 c.if-branch.true in
    let modules : old.modules ≡ new.modules =
    sym c.as_slice.ensures ∙ (c.if-not-have_same_modules.ensures.0 refl ∙ c.as_slice-2.ensures) in (
      λ t. record {
        modules = modules;
        in_other = rows-same _ _ old.script new.script one other has;
        in_one = rows-same _ _ new.script old.script other one (c.in_ok-has_rows_of-2.ensures.0 t);
      },
      λ same. c.in_ok-has_rows_of-2.ensures.1
          (rows-same new.script old.script _ _ (sym other) (sym one) same.in_one),
    )

pub returns-else-branch : goal.returns-else-branch
returns-else-branch c =
    let old = c.args.old.now in
    let new = c.args.new.now in (
      λ t. absurd (let no' : false ≡ true = sym c.if-branch.false ∙ t in cc),
      λ same. c.in_ok-has_rows_of.ensures.1
          (rows-same old.script new.script _ _ (sym c.as_slice-one.ensures)
          (sym c.as_slice-other.ensures) same.in_other),
    )
