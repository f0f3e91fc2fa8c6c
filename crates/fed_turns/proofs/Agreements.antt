-- What is read of a history by fixed parts that agree on it.
use Rattle.std.proofs.Common.{◌≡◌, ℕ, not, List, [], ◌++◌, length, drop, Option, Some, None}
use Rattle.std.proofs.Common.{refl, sym, ap, subst, ◌∙◌, append-nil, append_assoc}
use Rattle.std.specs.Prelude.{◌==◌, if◌then◌else◌}
use Rattle.std.specs.List.{flat_map, range_with_len}
use Rattle.plant_types.specs.declared.drops.ScriptRow.{ScriptRow}
use Rattle.plant_types.specs.declared.plan.ControllerPlan.{ControllerPlan}
use Rattle.mstr_block.specs.Table.{has_untaken}
use Rattle.scan_order.specs.declared.due.ScanStep.{ScanStep}
use Rattle.scan_order.specs.declared.due.ScanStep.TheVariants as steps
use Rattle.scan_order.specs.Due.{due, output_of, row_of, rows_from}
use Rattle.scan_order.specs.Power.{power_in}
use Rattle.traffic_cop.specs.Feeding.{plan_fed, row_fed}
use Rattle.traffic_cop.proofs.FeedingLemmas.{rows-later}
use Rattle.controller_core.specs.declared.entry.Entry.{Entry}
use Rattle.controller_core.specs.declared.entry.Entry.TheVariants as entries
use Rattle.controller_core.specs.declared.fixed.Fixed.{Fixed}
use Rattle.controller_core.specs.Controller.{due_step, first_step, is_none, left_of}
use Rattle.controller_core.specs.Event.{entry_of, outputs_to, scan_steps}
use Rattle.controller_core.specs.Feeding.{fixed_fed, CanFeedAfter}
use Rattle.controller_core.specs.Replay.{ControllerState, replay, table_of}
use Rattle.controller_core.proofs.FeedingLemmas.{rows-keep}
use Rattle.joint_history.specs.Reading.{controller_at, failures_at, has_ended_at}
use Rattle.joint_history.specs.Reading.{has_started_at, is_off_at}
use Rattle.fed_turns.specs.Agreeing.{AgreeOn, IsFront}
use Rattle.fed_turns.specs.Laws.{RowsAgree}

-- ---- fronts

pub front-all : (h : List Entry) → IsFront h h
front-all h = ([], append-nil h)

pub front-same : (g h : List Entry) → h ≡ g → IsFront g h
front-same g h same = ([], append-nil g ∙ sym same)

pub front-then : (f g h : List Entry) → IsFront f g → IsFront g h → IsFront f h
front-then f g h x y = (x.0 ++ y.0, sym (append_assoc f x.0 y.0) ∙ ap (λ l. l ++ y.0) x.1 ∙ y.1)

-- ---- what is read

module _ (fixed other : Fixed) where
  pub agree-front : (f h : List Entry) → IsFront f h → AgreeOn fixed other h
      → AgreeOn fixed other f
  agree-front f h front a = record {
    scans = a.scans;
    steps = a.steps;
    entries = a.entries;
    states = λ g x. a.states g (front-then g f h x front);
  }

  module _ (h : List Entry) (a : AgreeOn fixed other h) where
    pub state-same : replay other h ≡ replay fixed h
    state-same = a.states h (front-all h)

    pub left-same : left_of other h ≡ left_of fixed h
    left-same = λ i. drop (length (scan_steps h))
        (flat_map (λ n. a.steps n i) (range_with_len 1 (a.scans i)))

    pub due-same : due_step (controller_at other h) ≡ due_step (controller_at fixed h)
    due-same = λ i. if (state-same i).stop == 0 then first_step (left-same i) else None

    pub ended-same : has_ended_at other h ≡ has_ended_at fixed h
    ended-same = ap is_none due-same

    pub off-same : is_off_at other h ≡ is_off_at fixed h
    off-same = ap (λ (s : ControllerState). not s.powered) state-same

    pub started-same : has_started_at other h ≡ has_started_at fixed h
    started-same = ap (λ (s : ControllerState). has_untaken (table_of s)) state-same

    pub failures-same : failures_at other h ≡ failures_at fixed h
    failures-same = ap (λ (s : ControllerState). s.failures) state-same

-- ---- a row more

due-fed : (plan : ControllerPlan) (drop : ℕ) (row : ScriptRow) (scan : ℕ)
    → due (plan_fed plan drop row) scan ≡ due plan scan
unfolding rows_from power_in
due-fed plan drop row scan = refl

words-fed : (plan : ControllerPlan) (number : ℕ) (row : ScriptRow) (to : Option ℕ)
    (s : ControllerState)
    → outputs_to (row_fed plan.drops number row) to s.solving.map
    ≡ outputs_to plan.drops to s.solving.map
words-fed plan number row None s = refl
words-fed plan number row (Some other) s =
    rows-later.outputs plan.drops number other row s.solving.map

entry-fed : (fixed : Fixed) (number : ℕ) (row : ScriptRow) (s : ControllerState) (step : ScanStep)
    → entry_of (fixed_fed fixed number row) s step ≡ entry_of fixed s step
entry-fed fixed number row s steps.Begin = refl
entry-fed fixed number row s (steps.In at) = refl
entry-fed fixed number row s (steps.Solve at) = refl
entry-fed fixed number row s (steps.Out at) =
    ap (λ (words : List ℕ). entries.Output at words)
    (words-fed fixed.plan number row (output_of (row_of fixed.plan at)) s)
entry-fed fixed number row s steps.End = refl
entry-fed fixed number row s steps.Fail = refl
entry-fed fixed number row s steps.Dark = refl

pub rows : RowsAgree
rows fixed h drop row can = record {
  scans = refl;
  steps = due-fed fixed.plan drop row;
  entries = entry-fed fixed drop row;
  states = λ front x. rows-keep.state fixed front drop row
      (rows-keep.fronts fixed front x.0 drop row
      (subst (λ (l : List Entry). CanFeedAfter fixed l drop row) (sym x.1) can));
}
