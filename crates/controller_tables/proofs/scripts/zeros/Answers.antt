use Rattle.std.proofs.Common.{◌≡◌, ℕ, List, [], ◌∷◌, ◌++◌, take, replicate, ap, ◌∙◌}
use Rattle.std.proofs.lemmas.List.{take-replicate}
use Rattle.plant_types.specs.declared.drops.ScriptRow.{ScriptRow}
use Rattle.plant_types.specs.declared.drops.ScriptRow.TheVariants.{Row}
use Rattle.traffic_cop.specs.Exchange.{input_total}
use Rattle.controller_tables.proofs.scripts.zeros.Goals as goal

pub returns : goal.returns
returns c =
    let total = input_total c.args.modules.now in
    let taken : take c.input_total.result (replicate 64 0) ≡ replicate total 0 =
    rw c.input_total.ensures (take-replicate total 64 0 c.requires) in
    let words : c.in_ok-words.words ≡ replicate total 0 = c.in_ok-words.ensures ∙ taken in
    c.in_ok-push.ensures.ok
    ∙ ap (λ (script : List ScriptRow). script ++ Row c.in_ok-words.words ∷ []) c.new-script.ensures
    ∙ ap (λ (w : List ℕ). Row w ∷ []) words
