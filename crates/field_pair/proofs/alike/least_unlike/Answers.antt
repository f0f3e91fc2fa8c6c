use Rattle.std.proofs.Common.{◌≡◌, ◌∙◌, ◌+◌, ℕ, Option, refl, subst, sym, take, true, false}
use Rattle.std.proofs.lemmas.Option.{slice_get_read}
use Rattle.field_pair.specs.Least.{IsLeastUnlike}
use Rattle.field_pair.proofs.Drops.{looked-less, looked-on}
use Rattle.field_pair.proofs.alike.least_unlike.Goals as goal
use Rattle.field_pair.proofs.alike.least_unlike.Goals.{then-is_less+in_ok-are_alike+then-not-branch}
use Rattle.field_pair.proofs.alike.least_unlike.Goals.{else-is_less}
use Rattle.field_pair.proofs.alike.least_unlike.Goals.{}
use Rattle.field_pair.proofs.alike.least_unlike.Goals.{else-is_less-via-then-is_less+in_ok-are_alike+else-not-branch}
use Rattle.field_pair.proofs.alike.least_unlike.Goals.{else-is_less-via-else-is_less}

pub loop-drop-preserved : goal.loop-drop-preserved
loop-drop-preserved c =
    let old = c.args.old.now in
    let new = c.args.new.now in
    let looked = c.args.looked.now in
    let i = c.loop-drop.drop-index in
    let drop = c.drop-item.result in
    let at = slice_get_read looked _ i drop refl c.loop-drop-test.true c.drop-item.is in
    let least = c.loop-drop.least in
    elim c.if-is_less.branch [
      | then-is_less+in_ok-are_alike+then-not-branch w ↦
          subst (λ (l : Option ℕ). IsLeastUnlike old new (take (i + 1) looked) l) (sym w.least-is)
          (looked-less old new looked i least drop at c.loop-drop.invariant
          (c.is_less.ensures.0 w.if-is_less.true)
          (λ alike. let no' : false ≡ true = sym w.if-not-branch.true
          ∙ w.in_ok-are_alike.ensures.1 alike in cc))
      | else-is_less w ↦
          subst (λ (l : Option ℕ). IsLeastUnlike old new (take (i + 1) looked) l) (sym w.least-is)
          (looked-on old new looked i least drop at c.loop-drop.invariant
          (λ below. elim w.else-is_less.branch [
            | else-is_less-via-then-is_less+in_ok-are_alike+else-not-branch w' ↦
                w'.in_ok-are_alike.ensures.0 w'.if-not-branch.false
            | else-is_less-via-else-is_less w' ↦
                absurd (let no' : false ≡ true = sym w'.if-is_less.false
                ∙ c.is_less.ensures.1 below in cc)
          ]))
    ]
