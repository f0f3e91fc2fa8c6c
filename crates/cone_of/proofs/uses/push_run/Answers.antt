use Rattle.std.proofs.Common.{◌++◌, ◌∷◌, [], List, sym, ap, ◌∙◌, append_assoc}
use Rattle.plant_types.specs.declared.reference.Ref.{Ref}
use Rattle.plant_types.specs.Reference.{ref_from}
use Rattle.cone_of.specs.Uses.{run_from}
use Rattle.cone_of.proofs.Runs.{run_more}
use Rattle.cone_of.proofs.uses.push_run.Goals as goal

pub loop-i-preserved : goal.loop-i-preserved
loop-i-preserved c =
    let old = c.args.refs.now.items in
    let at = c.args.at in
    let run = c.loop-i.invariant in
    let one = c.in_ok-ref_on.ensures in
    c.in_ok-push.ensures.items
    ∙ ((λ j. run j ++ one j ∷ [])
    ∙ (append_assoc old (run_from at c.loop-i.i) (ref_from at c.loop-i.i ∷ [])
    ∙ ap (λ (l : List Ref). old ++ l) (sym (run_more at c.loop-i.i))))
