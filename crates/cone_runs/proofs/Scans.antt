-- A scan of two states that are alike on a closed set.
use Rattle.std.proofs.Common.{◌≡◌, ℕ, ◌+◌, ◌-◌, ◌%◌, Bool, true, false, cond, ◌==◌, List, [], ◌∷◌}
use Rattle.std.proofs.Common.{Option, Some, None, unwrap_or, refl, sym, ap, ◌∙◌, subst}
use Rattle.std.specs.Prelude.{if◌then◌else◌, ◌&&◌, nat_lt, slice_get, slice_index, take, drop}
use Rattle.std.specs.Prelude.{replicate}
use Rattle.std.specs.FinMap.{get, get-retain_keys}
use Rattle.std.specs.FinSet.{contains}
use Rattle.std.specs.declared.cmp.Ordering.TheVariants.{Equal}
use Rattle.plant_types.specs.declared.drops.IoDrop.{IoDrop}
use Rattle.plant_types.specs.declared.drops.Module.{Module}
use Rattle.plant_types.specs.declared.drops.ModuleKind.{ModuleKind}
use Rattle.plant_types.specs.declared.drops.ModuleKind.TheVariants as modules
use Rattle.plant_types.specs.declared.drops.ScriptRow.{ScriptRow}
use Rattle.plant_types.specs.declared.drops.ScriptRow.TheVariants.{Silent, Row}
use Rattle.plant_types.specs.declared.plan.OrderRow.{OrderRow}
use Rattle.plant_types.specs.declared.reference.Ref.{Ref}
use Rattle.plant_types.specs.declared.sizes.Sizes.{Sizes}
use Rattle.plant_types.specs.Checks.{sizes_of}
use Rattle.plant_types.specs.Discretes.{Refs, discretes_on, DiscretesAreOn, word_bits, bit_words}
use Rattle.plant_types.specs.Reference.{ref_cmp, is_discrete}
use Rattle.plant_types.specs.Sizes.{discretes, discretes_of, has_reference}
use Rattle.plant_types.specs.Standing.{cells_of_segments}
use Rattle.plant_types.specs.Store.{Contents, word_at, with_bit}
use Rattle.plant_types.proofs.Contents.{exact_refs}
use Rattle.scan_order.specs.declared.due.ScanStep.{ScanStep}
use Rattle.scan_order.specs.declared.due.ScanStep.TheVariants as steps
use Rattle.scan_order.specs.Due.{rows_from, input_of, row_of}
use Rattle.traffic_cop.specs.Drops.{drop_named, exchanged_in}
use Rattle.traffic_cop.specs.Exchange.{input_total, input_count, put_by, put_words, put_all, row_at}
use Rattle.traffic_cop.specs.Exchange.{exchanged_by, module_at}
use Rattle.ladder_solver.specs.State.{SolveState}
use Rattle.field_runs.specs.AlikeStates.{HasNoMessages}
use Rattle.controller_core.specs.declared.fixed.Fixed.{Fixed}
use Rattle.controller_core.specs.Replay.{ControllerState, begun, control_is_on, solved}
use Rattle.controller_core.specs.Replay.{coils_off, discretes_kept, segment_solved, unpowered}
use Rattle.controller_core.specs.Replay.{unlatched_coils, watchdog_stop}
use Rattle.field_runs.specs.Alike.{IsAlike, IsSettled, AlikeStatesStay}
use Rattle.field_runs.specs.Scan.{brought_to, stepped_with, told_first, told_behind, behind_steps}
use Rattle.field_runs.specs.Scan.{scanned}
use Rattle.field_runs.proofs.Settling.{all-get}
use Rattle.cone_of.specs.Cone.{HasIn, IsClosed}
use Rattle.cone_laws.specs.Agree.{SameIn, Agree, SolvesKeepAgreement}
use Rattle.cone_laws.proofs.Stores.{insert-both, words-both}
use Rattle.cone_runs.specs.AlikeIn.{IsAlikeIn, AlikeInStay}

-- ---- what the field brings

put-by : (set : Refs) (kind : ModuleKind) (at : Ref) (words : List ℕ) (m n : Contents)
    → SameIn set m n → SameIn set (put_by kind at words m) (put_by kind at words n)
put-by set modules.In at words m n same =
    words-both set m n at (bit_words (word_bits (slice_index words 0))) same
put-by set modules.InWords at words m n same = words-both set m n at words same
put-by set modules.Out at words m n same = same
put-by set modules.OutWords at words m n same = same

put-one : (set : Refs) (io_module : Module) (words : List ℕ) (m n : Contents) → SameIn set m n
    → SameIn set (put_words io_module words m) (put_words io_module words n)
unfolding put_words
put-one set io_module words m n same =
    put-by set io_module.kind (module_at io_module) words m n same

put-all : (set : Refs) (all : List Module) (words : List ℕ) (m n : Contents) → SameIn set m n
    → SameIn set (put_all all words m) (put_all all words n)
unfolding put_all
put-all set [] words m n same = same
put-all set (io_module ∷ all) words m n same =
    put-all set all (drop (input_count io_module) words) _ _
    (put-one set io_module (take (input_count io_module) words) m n same)

row-both : (set : Refs) (row : Option ScriptRow) (all : List Module) (m n : Contents)
    → SameIn set m n → SameIn set (exchanged_by row all m) (exchanged_by row all n)
row-both set None all m n same = put-all set all (replicate (input_total all) 0) m n same
row-both set (Some Silent) all m n same = same
row-both set (Some (Row words)) all m n same = put-all set all words m n same

drop-both : (set : Refs) (found : Option IoDrop) (k : ℕ) (m n : Contents) → SameIn set m n
    → SameIn set (exchanged_in found k m) (exchanged_in found k n)
drop-both set None k m n same = same
drop-both set (Some drop) k m n same =
    row-both set (row_at drop.script k) drop.modules m n same

-- ---- discretes that are kept

cut-both : (b : Bool) (x y : Option ℕ) → unwrap_or x 0 ≡ unwrap_or y 0
    → unwrap_or (cond b x None) 0 ≡ unwrap_or (cond b y None) 0
cut-both true x y same = same
cut-both false x y same = refl

discretes-both : (set : Refs) (sizes : Sizes) (m n : Contents) → SameIn set m n
    → SameIn set (discretes sizes m) (discretes sizes n)
discretes-both set sizes m n same q has =
    let test = has_reference (discretes_of sizes) in
    let alike : (x : Ref) → ref_cmp q x ≡ Equal → test x ≡ test q =
    λ x e. ap test (sym (exact_refs q x e)) in
    ap (λ (o : Option ℕ). unwrap_or o 0) (get-retain_keys m test q alike)
    ∙ cut-both (test q) (get m q) (get n q) (same q has)
    ∙ sym (ap (λ (o : Option ℕ). unwrap_or o 0) (get-retain_keys n test q alike))

coils-both : (set : Refs) (coils : List Ref) (m n : Contents) → SameIn set m n
    → SameIn set (coils_off coils m) (coils_off coils n)
coils-both set [] m n same = same
coils-both set (at ∷ coils) m n same =
    coils-both set coils (with_bit m at false) (with_bit n at false)
    (insert-both set m n at 0 same)

module _ (are_on : DiscretesAreOn) (solves : SolvesKeepAgreement) (stay : AlikeStatesStay)
    (fixed : Fixed) (set : Refs) (none : HasNoMessages fixed.plan.segments)
    (closed : IsClosed fixed.plan set) where
  kept-both : (m n : Contents) → SameIn set m n → (at : Ref) → contains set at ≡ true
      → contains (discretes_on (discretes (sizes_of fixed.plan) m)) at
      ≡ contains (discretes_on (discretes (sizes_of fixed.plan) n)) at
  kept-both m n same at has =
      let sizes = sizes_of fixed.plan in
      are_on.each (discretes sizes m) at
      ∙ ap (λ (word : ℕ). is_discrete at.kind && nat_lt 0 word)
      (discretes-both set sizes m n same at has)
      ∙ sym (are_on.each (discretes sizes n) at)

  -- two states agree on the set, and have the same stop code
  record Agrees (s t : ControllerState) : Type 0 where
    solving : Agree fixed.plan.segments set s.solving t.solving
    stop : s.stop ≡ t.stop

  -- ---- one step

  with-maps : (s t : SolveState) (m n : Contents) → Agree fixed.plan.segments set s t
      → SameIn set m n
      → Agree fixed.plan.segments set (record s { map = m }) (record t { map = n })
  with-maps s t m n a same = record {
    references = same;
    past = a.past;
    edges = a.edges;
    clock = a.clock;
    left = a.left;
  }

  read-both : (found : Option ℕ) (row : ℕ) (s t : ControllerState) → Agrees s t
      → Agrees (brought_to fixed.plan.drops found row s) (brought_to fixed.plan.drops found row t)
  read-both None row s t a = a
  read-both (Some drop) row s t a = record {
    solving = with-maps s.solving t.solving _ _ a.solving
        (drop-both set (drop_named fixed.plan.drops drop) row s.solving.map t.solving.map
        a.solving.references);
    stop = a.stop;
  }

  segment-both : (number : ℕ) (s t : ControllerState) → Agrees s t
      → Agrees (segment_solved fixed.plan.segments number s)
      (segment_solved fixed.plan.segments number t)
  segment-both number s t a =
      let after = solves fixed.plan.segments set number s.solving t.solving none closed.networks
      a.solving in
      let left = after.left in
      let stop = a.stop in
      record {
        solving = after;
        stop = λ i. if left i == 0 then watchdog_stop else stop i;
      }

  control-both : (control : Option Ref) (m n : Contents) → HasIn set control → SameIn set m n
      → control_is_on m control ≡ control_is_on n control
  control-both None m n has same = refl
  control-both (Some at) m n has same = ap (nat_lt 0) (same at (has at refl))

  controlled : (number : ℕ) (s t : ControllerState) (b c : Bool) → b ≡ c → Agrees s t
      → Agrees (if b then segment_solved fixed.plan.segments number s else s)
      (if c then segment_solved fixed.plan.segments number t else t)
  controlled number s t true true same a = segment-both number s t a
  controlled number s t false false same a = a
  controlled number s t true false same a = absurd (let no' : true ≡ false = same in cc)
  controlled number s t false true same a = absurd (let no' : false ≡ true = same in cc)

  solved-both : (found : Option OrderRow) (k : ℕ) (s t : ControllerState)
      → slice_get fixed.plan.orders k ≡ found → Agrees s t
      → Agrees (solved fixed.plan.segments found s) (solved fixed.plan.segments found t)
  solved-both None k s t is a = a
  solved-both (Some row) k s t is a =
      controlled row.segment s t _ _
      (control-both row.control s.solving.map t.solving.map
      (all-get (λ (r : OrderRow). HasIn set r.control) fixed.plan.orders k row closed.controls is)
      a.solving.references) a

  ended : (s t : SolveState) → Agree fixed.plan.segments set s t
      → Agree fixed.plan.segments set (discretes_kept (sizes_of fixed.plan) s)
      (discretes_kept (sizes_of fixed.plan) t)
  ended s t a = record {
    references = a.references;
    past = kept-both s.map t.map a.references;
    edges = a.edges;
    clock = a.clock;
    left = a.left;
  }

  failed : (s t : SolveState) → Agree fixed.plan.segments set s t
      → Agree fixed.plan.segments set (unpowered fixed.plan s) (unpowered fixed.plan t)
  failed s t a =
      let coils = unlatched_coils (cells_of_segments fixed.plan.segments) in
      let same = coils-both set coils s.map t.map a.references in
      record {
        references = same;
        past = kept-both (coils_off coils s.map) (coils_off coils t.map) same;
        edges = a.edges;
        clock = a.clock;
        left = a.left;
      }

  began : (s t : SolveState) → Agree fixed.plan.segments set s t
      → Agree fixed.plan.segments set (begun fixed s) (begun fixed t)
  began s t a =
      let clock = a.clock in
      record {
        references = a.references;
        past = a.past;
        edges = a.edges;
        clock = λ i. record { before = (clock i).now; now = (clock i).now + fixed.scan_time };
        left = refl;
      }

  step-both : (brought : ℕ) (s t : ControllerState) (step : ScanStep) → Agrees s t
      → Agrees (stepped_with fixed brought s step) (stepped_with fixed brought t step)
  step-both brought s t steps.Begin a =
      record { solving = began s.solving t.solving a.solving; stop = a.stop }
  step-both brought s t (steps.In row) a =
      read-both (input_of (row_of fixed.plan row)) brought s t a
  step-both brought s t (steps.Solve row) a =
      solved-both (row_of fixed.plan row) (row - 1) s t refl a
  step-both brought s t (steps.Out row) a = a
  step-both brought s t steps.End a =
      record { solving = ended s.solving t.solving a.solving; stop = a.stop }
  step-both brought s t steps.Fail a =
      record { solving = failed s.solving t.solving a.solving; stop = a.stop }
  step-both brought s t steps.Dark a = record { solving = a.solving; stop = a.stop }

  -- ---- steps

  going : (s t s' t' : ControllerState) (b c : Bool) → b ≡ c → Agrees s t → Agrees s' t'
      → Agrees (if b then s' else s) (if c then t' else t)
  going s t s' t' true true same a b = b
  going s t s' t' false false same a b = a
  going s t s' t' true false same a b = absurd (let no' : true ≡ false = same in cc)
  going s t s' t' false true same a b = absurd (let no' : false ≡ true = same in cc)

  steps-both : (rows : List ℕ) (s t : ControllerState) (due : List ScanStep) → Agrees s t
      → Agrees (behind_steps fixed rows s due) (behind_steps fixed rows t due)
  unfolding behind_steps
  steps-both rows s t [] a = a
  steps-both rows s t (step ∷ due) a =
      going s t _ _ (s.stop == 0) (t.stop == 0) (ap (λ n. n == 0) a.stop) a
      (steps-both (told_behind step rows) (stepped_with fixed (told_first rows) s step)
      (stepped_with fixed (told_first rows) t step) due
      (step-both (told_first rows) s t step a))

  -- ---- a scan

  -- a state with the clock of another
  abbrev at_clock : ControllerState → ControllerState → ControllerState
  at_clock s t = record t {
    solving = record t.solving {
      clock = record { before = s.solving.clock.before; now = s.solving.clock.now };
    };
  }

  -- settled states that are alike on the set agree on it, by one clock
  start-both : (s t : ControllerState) → IsSettled fixed.plan s → IsSettled fixed.plan t
      → IsAlikeIn fixed.plan set s t
      → Agrees (stepped_with fixed 1 s steps.Begin) (stepped_with fixed 1 (at_clock s t) steps.Begin)
  start-both s t settled-s settled-t alike = record {
    solving = record {
      references = alike.references;
      past = λ at has. ap (λ past. contains past at) settled-s.kept
          ∙ (kept-both s.solving.map t.solving.map alike.references at has
          ∙ sym (ap (λ past. contains past at) settled-t.kept));
      edges = alike.edges;
      clock = refl;
      left = refl;
    };
    stop = alike.stop;
  }

  scan-begins : (rows : List ℕ) (s : ControllerState) → s.stop ≡ 0
      → scanned fixed rows s
      ≡ behind_steps fixed rows (stepped_with fixed 1 s steps.Begin) (rows_from fixed.plan 1)
  unfolding behind_steps
  scan-begins rows s goes =
      ap (λ n. if n == 0
      then behind_steps fixed rows (stepped_with fixed 1 s steps.Begin) (rows_from fixed.plan 1)
      else s) goes

  pub scan-both : (rows : List ℕ) (s t : ControllerState) → IsSettled fixed.plan s
      → IsSettled fixed.plan t → s.stop ≡ 0 → IsAlikeIn fixed.plan set s t
      → IsAlikeIn fixed.plan set (scanned fixed rows s) (scanned fixed rows t)
  scan-both rows s t settled-s settled-t goes alike =
      let u = at_clock s t in
      let after = steps-both rows (stepped_with fixed 1 s steps.Begin)
      (stepped_with fixed 1 u steps.Begin) (rows_from fixed.plan 1)
      (start-both s t settled-s settled-t alike) in
      let one = scan-begins rows s goes in
      let other = scan-begins rows u (sym alike.stop ∙ goes) in
      let both : Agrees (scanned fixed rows s) (scanned fixed rows u) =
      subst (λ (q : ControllerState). Agrees q (scanned fixed rows u)) (sym one)
      (subst (λ (q : ControllerState). Agrees (behind_steps fixed rows
      (stepped_with fixed 1 s steps.Begin) (rows_from fixed.plan 1)) q) (sym other) after) in
      let settled-u : IsSettled fixed.plan u =
      record { kept = settled-t.kept; blocks = settled-t.blocks } in
      let hours : IsAlike (scanned fixed rows u) (scanned fixed rows t) =
      stay fixed rows u t settled-u settled-t (sym alike.stop ∙ goes)
      (record { references = refl; edges = refl; stop = refl; clock = alike.clock }) in
      let references = hours.references in
      let edges = hours.edges in
      record {
        references = λ at has. both.solving.references at has ∙ ap (λ m. word_at m at) references;
        edges = λ place matters. both.solving.edges place matters
            ∙ ap (λ e. contains e place) edges;
        stop = both.stop ∙ hours.stop;
        clock = ap (λ clock. clock.now % 100) both.solving.clock ∙ hours.clock;
      }

pub alike-stay : DiscretesAreOn → SolvesKeepAgreement → AlikeStatesStay → AlikeInStay
alike-stay are_on solves stay fixed set rows s t none closed settled-s settled-t goes alike =
    scan-both are_on solves stay fixed set none closed rows s t settled-s settled-t goes alike
