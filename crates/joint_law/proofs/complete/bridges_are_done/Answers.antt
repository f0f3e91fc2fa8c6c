use Rattle.std.proofs.Common.{ℕ, ◌≡◌, ◌<◌, ◌≤◌, get_or, refl, sym, ap, subst, ◌∙◌, ⊎_elim, arith}
use Rattle.std.proofs.lemmas.Bool.{cases_lt}
use Rattle.std.proofs.lemmas.List.{get_or_default}
use Rattle.joint_law.specs.AllComplete.{AreEndsDoneOn}
use Rattle.station_laws.proofs.Lists.{not-true}
use Rattle.joint_law.proofs.complete.bridges_are_done.Goals as goal

pub returns-then-not-branch : goal.returns-then-not-branch
returns-then-not-branch c = (
  λ no'. not-true no',
  λ all. sym c.if-not-branch.true ∙ c.in_ok-bridge_is_done.ensures.1
      (subst (AreEndsDoneOn c.args.on) (sym c.log-item.is)
      (all c.loop-log.log-index c.log-item.result (omega arith))),
)

pub loop-log-preserved : goal.loop-log-preserved
loop-log-preserved c = λ k d below.
    ⊎_elim (λ (l : k < c.loop-log.log-index). c.loop-log.invariant k d l)
    (λ (l : c.loop-log.log-index ≤ k).
    let e : c.loop-log.log-index ≡ k = omega arith in
    let log : c.log-item.result ≡ get_or c.args.logs.now k d =
    c.log-item.is
    ∙ (get_or_default c.args.logs.now c.loop-log.log-index c.log-item.result d (omega arith)
    ∙ ap (λ (n : ℕ). get_or c.args.logs.now n d) e) in
    subst (AreEndsDoneOn c.args.on) log
    (c.in_ok-bridge_is_done.ensures.0 c.if-not-branch.false))
    (cases_lt k c.loop-log.log-index)

pub returns : goal.returns
returns c = (λ _ k d low. c.loop-log.invariant k d (omega arith), λ _. refl)
