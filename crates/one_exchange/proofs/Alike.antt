-- Plants that are alike but for the drops of their controllers, and fixed parts that agree.
use Rattle.std.proofs.Common.{◌≡◌, ℕ, ◌==◌, List, Some, sym, ap, subst, ◌∙◌}
use Rattle.std.specs.List.{AllZip, slice_get}
use Rattle.plant_types.specs.declared.drops.IoDrop.{IoDrop}
use Rattle.plant_types.specs.declared.plan.ControllerPlan.{ControllerPlan}
use Rattle.plant_types.specs.declared.plan.Plant.{Plant}
use Rattle.controller_core.specs.declared.entry.Entry.{Entry}
use Rattle.controller_core.specs.declared.fixed.Fixed.{Fixed}
use Rattle.joint_history.specs.declared.joint.ControllerLog.{ControllerLog}
use Rattle.joint_history.specs.declared.joint.Joint.{Joint}
use Rattle.joint_history.specs.JointLaws.{fixed_of}
use Rattle.fed_turns.specs.Agreeing.{AgreeOn}
use Rattle.fed_turns.proofs.Agreements.{agree-front}
use Rattle.word_exchange.specs.SerialRuns.{place_of_controller, with_list, IsControllerAt}
use Rattle.word_exchange.proofs.SerialLemmas.{zip-at, zip-at-first, zip-position}
use Rattle.one_run.proofs.Between.{Fine, FineAt, Grows}
use Rattle.one_run.proofs.Places.{set-get, some-same}
use Rattle.one_exchange.proofs.Agreed.{legal-same}

-- a plan is another one but for its drops
pub record Alike (plan other : ControllerPlan) : Type 0 where
  pub drops : List IoDrop
  pub is : other ≡ record plan { drops = drops }

module _ (p : Plant) (plans : List ControllerPlan) (scans : ℕ)
    (like : AllZip Alike p.controllers plans) where
  -- the other plant
  abbrev pub q : Plant
  q = record p { controllers = plans }

  -- and a controller's plan in it
  abbrev pub in_q : (at : ℕ) (plan : ControllerPlan) → slice_get p.controllers at ≡ Some plan
      → ControllerPlan
  in_q at plan is =
      record plan { drops = (zip-at-first Alike p.controllers plans at plan like is).2.drops }

  -- which stands at the same place
  pub there-in_q : (at : ℕ) (plan : ControllerPlan) (is : slice_get p.controllers at ≡ Some plan)
      → slice_get plans at ≡ Some (in_q at plan is)
  there-in_q at plan is =
      let found = zip-at-first Alike p.controllers plans at plan like is in
      found.1 ∙ ap Some found.2.is

  -- a node's controller stands at the same place
  pub same-place : (n : ℕ) → place_of_controller q n ≡ place_of_controller p n
  same-place n = zip-position Alike (λ (x : ControllerPlan). x.node == n)
      (λ (y : ControllerPlan). y.node == n) p.controllers plans like
      (λ x y alike. ap (λ (z : ControllerPlan). z.node == n) (sym alike.is))

  -- a controller that is at a place is there in the other plant
  pub at-q : (joint : Joint) (at : ℕ) (plan : ControllerPlan) (log : ControllerLog)
      → (is : IsControllerAt p joint at plan log)
      → IsControllerAt q joint at (in_q at plan is.plan_is) log
  at-q joint at plan log is =
      record { plan_is = there-in_q at plan is.plan_is; log_is = is.log_is }

  -- ---- who agrees

  -- the fixed part of a controller in each plant
  abbrev pub fixed_in_p : ControllerPlan → Fixed
  fixed_in_p plan = fixed_of p scans plan

  abbrev pub fixed_in_q : (at : ℕ) (plan : ControllerPlan)
      → slice_get p.controllers at ≡ Some plan → Fixed
  fixed_in_q at plan is = fixed_of q scans (in_q at plan is)

  -- both fixed parts of each controller agree on its list
  abbrev pub Agrees : Joint → Type 0
  Agrees joint = (at : ℕ) (plan : ControllerPlan) (log : ControllerLog)
      (is : IsControllerAt p joint at plan log)
      → AgreeOn (fixed_in_p plan) (fixed_in_q at plan is.plan_is) log.entries

  -- who agree on later lists agree on those before
  pub agrees-front : (old new : Joint) → Grows p scans old new → Agrees new → Agrees old
  agrees-front old new grows agrees at plan log is =
      let went = grows.lists at plan log is in
      agree-front (fixed_in_p plan) (fixed_in_q at plan is.plan_is) log.entries
      went.new_log.entries (went.noted, sym went.entries_are)
      (agrees at plan went.new_log
      (record { plan_is = is.plan_is; log_is = went.is.log_is }))

  -- they agree on the list that a turn leaves at a place
  pub agree-set : (old new : Joint) (at : ℕ) (plan : ControllerPlan) (log : ControllerLog)
      (entries : List Entry) (is : IsControllerAt p old at plan log)
      → new.controllers ≡ (with_list at log entries old).controllers → Agrees new
      → AgreeOn (fixed_in_p plan) (fixed_in_q at plan is.plan_is) entries
  agree-set old new at plan log entries is same agrees =
      let new_log : ControllerLog = record { node = log.node; entries = entries } in
      agrees at plan new_log (record {
        plan_is = is.plan_is;
        log_is = ap (λ (logs : List ControllerLog). slice_get logs at) same
            ∙ set-get old.controllers at new_log log is.log_is;
      })

  -- ---- what holds between turns

  -- a list that is fine in one plant is in the other
  fine-list : (joint : Joint) → Agrees joint → Fine p scans joint → (at : ℕ)
      (other : ControllerPlan) (log : ControllerLog) → IsControllerAt q joint at other log
      → FineAt q scans joint other log
  fine-list joint agrees fine at other log is =
      let from = zip-at Alike p.controllers plans at other like is.plan_is in
      let plan = from.0 in
      let there : IsControllerAt p joint at plan log =
      record { plan_is = from.1; log_is = is.log_is } in
      let same : in_q at plan from.1 ≡ other =
      some-same (sym (there-in_q at plan from.1) ∙ is.plan_is) in
      let old = fine.lists at plan log there in
      subst (λ (y : ControllerPlan). FineAt q scans joint y log) same (record {
        legal = legal-same (fixed_in_p plan) (fixed_in_q at plan from.1) log.entries
            (agrees at plan log there) old.legal;
        meets = old.meets;
      })

  -- so are all lists of a joint history
  pub fine-alike : (joint : Joint) → Agrees joint → Fine p scans joint → Fine q scans joint
  fine-alike joint agrees fine = record {
    rings = fine.rings;
    lists = fine-list joint agrees fine;
    bridges = λ at plan log is.
        fine.bridges at plan log (record { plan_is = is.plan_is; log_is = is.log_is });
  }
