-- The panel lines of a legal history by what it has noted.
use Rattle.std.proofs.Common.{◌≡◌, ◌==◌, ℕ, zero, suc, ◌+◌, Bool, true, false, List, [], ◌∷◌, ◌++◌}
use Rattle.std.proofs.Common.{Option, Some, None, length, drop, map, refl, sym, ap, subst, ◌∙◌}
use Rattle.std.proofs.Common.{arith}
use Rattle.std.proofs.lemmas.List.{length-map}
use Rattle.std.proofs.lemmas.List.Elements.{filter-append}
use Rattle.std.proofs.Math.Seq.{drop-append_seam}
use Rattle.std.specs.Prelude.{filter, fold, not, codes, if◌then◌else◌}
use Rattle.std.specs.Fmt.{decimal}
use Rattle.std.specs.List.{flat_map, range_with_len}
use Rattle.plant_types.specs.declared.reference.Ref.{Ref}
use Rattle.plant_types.specs.declared.plan.ControllerPlan.{ControllerPlan}
use Rattle.plant_types.specs.declared.drops.IoDrop.{IoDrop}
use Rattle.plant_types.specs.Store.{Contents, value_at}
use Rattle.scan_order.specs.declared.due.ScanStep.{ScanStep}
use Rattle.scan_order.specs.declared.due.ScanStep.TheVariants as steps
use Rattle.scan_order.specs.declared.power.ScanPower.{ScanPower}
use Rattle.scan_order.specs.declared.power.ScanPower.TheVariants as powers
use Rattle.scan_order.specs.Power.{ends_off, power_in}
use Rattle.scan_order.specs.Due.{due, ends_scan, input_of, last_by, row_of, ScansEndOnce}
use Rattle.controller_core.specs.declared.fixed.Fixed.{Fixed}
use Rattle.controller_core.specs.declared.entry.Entry.{Entry}
use Rattle.controller_core.specs.declared.entry.Entry.TheVariants as entries
use Rattle.controller_core.specs.Replay.{ControllerState, apply, read_in, start}
use Rattle.controller_core.specs.Event.{scan_steps}
use Rattle.controller_core.specs.Scans.{scans_from}
use Rattle.controller_core.specs.Controller.{EachFits, IsLegal}
use Rattle.controller_core.specs.Panel.{lacks_power, line_text, lines_from, panel_line, panel_lines}
use Rattle.controller_core.specs.Panel.{value_text}
use Rattle.controller_core.specs.Notes.{noted_from, notes_of, values_of}
use Rattle.controller_core.specs.NotedLines.{gone_line, gone_lines, noted_lines, noted_texts}
use Rattle.controller_core.specs.NotedLines.{stopped_lines}
use Rattle.controller_core.proofs.Keeping.{read_gone, solved_gone}

-- the values of a panel, whatever values come behind them
panel_told : (store : Contents) (panel : List Ref) (rest : List ℕ)
    → noted_texts panel (values_of store panel ++ rest)
    ≡ flat_map (value_text store) panel
panel_told store [] rest = refl
panel_told store (at ∷ panel) rest =
    ap (λ (l : List ℕ). value_text store at ++ l) (panel_told store panel rest)

values_behind : (store : Contents) (panel : List Ref) (rest : List ℕ)
    → drop (length panel) (values_of store panel ++ rest) ≡ rest
values_behind store panel rest =
    ap (λ n. drop n (values_of store panel ++ rest)) (sym (length-map panel (value_at store)))
    ∙ drop-append_seam (values_of store panel) rest

read_stop : (drops : List IoDrop) (drop : Option ℕ) (s : ControllerState)
    → (read_in drops drop s).stop ≡ s.stop
read_stop drops None s = refl
read_stop drops (Some drop) s = refl

-- entries that were made where the controller had stopped have no line, and note nothing
pub record IsQuiet (f : Fixed) (s : ControllerState) (h : List Entry) : Type 0 where
  pub lines : lines_from f s h ≡ []
  pub noted : noted_from f s h ≡ []
  pub gone : (fold (apply f) s h).gone ≡ s.gone
  pub stop : (fold (apply f) s h).stop ≡ s.stop

stopped_quiet : (f : Fixed) (s : ControllerState) (h : List Entry) → (s.stop == 0) ≡ false
    → EachFits f s h → IsQuiet f s h
unfolding EachFits lines_from noted_from
stopped_quiet f s [] stopped each = record { lines = refl; noted = refl; gone = refl; stop = refl }
stopped_quiet f s (entries.Begin ∷ h) stopped each =
    let goes = each.0 in grind (arith, goes, stopped)
stopped_quiet f s (entries.Input row ∷ h) stopped each =
    let goes = each.0 in grind (arith, goes, stopped)
stopped_quiet f s (entries.Solve row ∷ h) stopped each =
    let goes = each.0 in grind (arith, goes, stopped)
stopped_quiet f s (entries.Output row words ∷ h) stopped each =
    let goes = each.0.0 in grind (arith, goes, stopped)
stopped_quiet f s (entries.End ∷ h) stopped each = let goes = each.0 in grind (arith, goes, stopped)
stopped_quiet f s (entries.Fail ∷ h) stopped each =
    let goes = each.0 in grind (arith, goes, stopped)
stopped_quiet f s (entries.Dark ∷ h) stopped each =
    let goes = each.0 in grind (arith, goes, stopped)
stopped_quiet f s (entries.Collect calls ∷ h) stopped each =
    let rest = stopped_quiet f (apply f s (entries.Collect calls)) h stopped each.1 in
    record { lines = rest.lines; noted = rest.noted; gone = rest.gone; stop = rest.stop }
stopped_quiet f s (entries.Peer id request reply ∷ h) stopped each =
    let rest = stopped_quiet f (apply f s (entries.Peer id request reply)) h stopped each.1 in
    record { lines = rest.lines; noted = rest.noted; gone = rest.gone; stop = rest.stop }
stopped_quiet f s (entries.Off id request ∷ h) stopped each =
    let rest = stopped_quiet f (apply f s (entries.Off id request)) h stopped each.1 in
    record { lines = rest.lines; noted = rest.noted; gone = rest.gone; stop = rest.stop }
stopped_quiet f s (entries.Finish id result ∷ h) stopped each =
    let rest = stopped_quiet f (apply f s (entries.Finish id result)) h stopped each.1 in
    record { lines = rest.lines; noted = rest.noted; gone = rest.gone; stop = rest.stop }

-- ---- the last steps of scans

abbrev lasts_from : ControllerPlan → ℕ → ℕ → List ScanStep
lasts_from plan scan count = map (λ k. last_by (power_in plan k)) (range_with_len scan count)

-- the last steps among these are those of the scans from one on, as far as they go
abbrev HasLasts : ControllerPlan → ℕ → List ScanStep → Type 0
HasLasts plan scan steps = (more : List ScanStep) × (count : ℕ)
    × (filter ends_scan steps ++ more ≡ lasts_from plan scan count)

lacks_last : (power : ScanPower) → lacks_power (last_by power) ≡ ends_off power
lacks_last powers.Stays = refl
lacks_last (powers.Fails row) = refl
lacks_last powers.Dark = refl

-- the first of them is that of its scan, and behind it are those of later scans
pub record IsLast (plan : ControllerPlan) (scan : ℕ) (step : ScanStep) (rest : List ScanStep)
    : Type 0 where
  pub off : lacks_power step ≡ ends_off (power_in plan scan)
  pub later : HasLasts plan (scan + 1) rest

first_last : (plan : ControllerPlan) (scan : ℕ) (step : ScanStep) (rest more : List ScanStep)
    (count : ℕ) → step ∷ (filter ends_scan rest ++ more) ≡ lasts_from plan scan count
    → IsLast plan scan step rest
first_last plan scan step rest more zero is = absurd cc
first_last plan scan step rest more (suc count) is =
    let same : step ≡ last_by (power_in plan scan) = cc in
    let later : filter ends_scan rest ++ more ≡ lasts_from plan (scan + 1) count = cc in
    record {
      off = ap lacks_power same ∙ lacks_last (power_in plan scan);
      later = (more, count, later);
    }

scans_last : ScansEndOnce → (f : Fixed) (scan n : ℕ)
    → filter ends_scan (scans_from f scan n) ≡ lasts_from f.plan scan n
scans_last law f scan zero = refl
scans_last law f scan (suc n) =
    filter-append ends_scan (due f.plan scan) (scans_from f (scan + 1) n)
    ∙ ap (λ (l : List ScanStep). l ++ filter ends_scan (scans_from f (scan + 1) n))
    (law f.plan scan)
    ∙ ap (λ (l : List ScanStep). last_by (power_in f.plan scan) ∷ l) (scans_last law f (scan + 1) n)

legal_lasts : ScansEndOnce → (f : Fixed) (h : List Entry) → IsLegal f h
    → HasLasts f.plan 1 (scan_steps h)
legal_lasts law f h legal = (
  filter ends_scan legal.due.0,
  f.scans,
  sym (filter-append ends_scan (scan_steps h) legal.due.0)
      ∙ ap (λ (l : List ScanStep). filter ends_scan l) legal.due.1 ∙ scans_last law f 1 f.scans,
)

-- ---- lines

-- these lines are told by these values, from the scans that were gone up to those that are
abbrev Told : ControllerPlan → ℕ → ControllerState → List ℕ → List (List ℕ) → Type 0
Told plan before behind values lines = (count : ℕ) × (behind.gone ≡ before + count)
    × (gone_lines plan before count values ++ stopped_lines plan (before + count) behind.stop
    ≡ lines)

told_from : (plan : ControllerPlan) (before after : ℕ) (behind : ControllerState) (values : List ℕ)
    (lines : List (List ℕ)) → after ≡ before
    → Told plan after behind values lines → Told plan before behind values lines
told_from plan before after behind values lines same told =
    subst (λ n. Told plan n behind values lines) same told

-- the line of a scan by its values
told_line : (plan : ControllerPlan) (step : ScanStep) (after : ControllerState) (before : ℕ)
    (values : List ℕ) → after.stop ≡ 0 → after.gone ≡ before + 1
    → lacks_power step ≡ ends_off (power_in plan (before + 1))
    → gone_line plan (before + 1) (values_of after.solving.map plan.panel ++ values)
    ≡ panel_line plan step after
told_line plan step after before values goes gone off =
    let shown = flat_map (value_text after.solving.map) plan.panel in
    ap (λ b. line_text (before + 1) plan.node (if b then codes " OFF"
    else noted_texts plan.panel (values_of after.solving.map plan.panel ++ values))) (sym off)
    ∙ ap (λ (l : List ℕ). line_text (before + 1) plan.node
    (if lacks_power step then codes " OFF" else l)) (panel_told after.solving.map plan.panel values)
    ∙ ap (λ n. line_text n plan.node (if lacks_power step then codes " OFF" else shown)) (sym gone)
    ∙ sym (ap (λ n. line_text (if n == 0 then after.gone else after.gone + 1) plan.node
    (if n == 0 then (if lacks_power step then codes " OFF" else shown)
    else codes " STOP " ++ decimal n)) goes)

-- the scan is gone
told_gone : (f : Fixed) (step : ScanStep) (after behind : ControllerState) (before : ℕ)
    (values : List ℕ) (lines : List (List ℕ)) → after.stop ≡ 0 → after.gone ≡ before + 1
    → lacks_power step ≡ ends_off (power_in f.plan (before + 1))
    → Told f.plan (before + 1) behind values lines
    → Told f.plan before behind (values_of after.solving.map f.plan.panel ++ values)
    (panel_line f.plan step after ∷ lines)
unfolding gone_lines
told_gone f step after behind before values lines goes gone off told =
    let plan = f.plan in
    let count = told.0 in
    let many : before + 1 + count ≡ before + suc count = omega arith in
    let line = told_line plan step after before values goes gone off in
    let rest = ap (gone_lines plan (before + 1) count)
    (values_behind after.solving.map plan.panel values) in (
      suc count,
      told.1 ∙ many,
      ap (λ (l : List ℕ). l ∷ (gone_lines plan (before + 1) count
          (drop (length plan.panel) (values_of after.solving.map plan.panel ++ values))
          ++ stopped_lines plan (before + suc count) behind.stop)) line
          ∙ ap (λ (l : List (List ℕ)).
          panel_line plan step after ∷ (l ++ stopped_lines plan (before + suc count) behind.stop))
          rest
          ∙ ap (λ n. panel_line plan step after ∷ (gone_lines plan (before + 1) count values
          ++ stopped_lines plan n behind.stop)) (sym many)
          ∙ ap (λ (l : List (List ℕ)). panel_line plan step after ∷ l) told.2,
    )

-- the controller stopped in the scan
told_stopped : (f : Fixed) (step : ScanStep) (after : ControllerState) (h : List Entry) (before : ℕ)
    → (after.stop == 0) ≡ false → after.gone ≡ before
    → IsQuiet f after h
    → Told f.plan before (fold (apply f) after h)
    (values_of after.solving.map f.plan.panel ++ noted_from f after h)
    (panel_line f.plan step after ∷ lines_from f after h)
unfolding gone_lines
told_stopped f step after h before stopped gone quiet =
    let plan = f.plan in
    let told = codes " STOP " ++ decimal after.stop in
    let none : before ≡ before + 0 = omega arith in
    let line : line_text (before + 1) plan.node told ≡ panel_line plan step after =
    ap (λ n. line_text (n + 1) plan.node told) (sym gone)
    ∙ sym (ap (λ b. line_text (if b then after.gone else after.gone + 1) plan.node
    (if b then (if lacks_power step then codes " OFF"
    else flat_map (value_text after.solving.map) plan.panel) else told)) stopped) in (
      0,
      quiet.gone ∙ gone ∙ none,
      ap (stopped_lines plan (before + 0)) quiet.stop
          ∙ ap (λ b. if b then [] else line_text (before + 0 + 1) plan.node told ∷ []) stopped
          ∙ ap (λ n. line_text (n + 1) plan.node told ∷ []) (sym none)
          ∙ ap (λ (l : List ℕ). l ∷ []) line
          ∙ ap (λ (l : List (List ℕ)). panel_line plan step after ∷ l) (sym quiet.lines),
    )

-- a solve goes on, or stops the controller
told_solved : (f : Fixed) (step : ScanStep) (s after : ControllerState) (h : List Entry)
    → after.gone ≡ s.gone
    → EachFits f after h
    → (after.stop ≡ 0 → Told f.plan after.gone (fold (apply f) after h) (noted_from f after h)
    (lines_from f after h))
    → (b : Bool) → (after.stop == 0) ≡ b
    → Told f.plan s.gone (fold (apply f) after h)
    ((if not b then values_of after.solving.map f.plan.panel else []) ++ noted_from f after h)
    ((if not b then panel_line f.plan step after ∷ [] else []) ++ lines_from f after h)
told_solved f step s after h gone each rest true going =
    let goes : after.stop ≡ 0 = grind arith in
    told_from f.plan s.gone after.gone (fold (apply f) after h) (noted_from f after h)
    (lines_from f after h) gone (rest goes)
told_solved f step s after h gone each rest false stopped =
    told_stopped f step after h s.gone stopped gone (stopped_quiet f after h stopped each)

-- the lasts of the same scans, where as many are gone
lasts_as : (plan : ControllerPlan) (before after : ℕ) (steps : List ScanStep) → after ≡ before
    → HasLasts plan (before + 1) steps → HasLasts plan (after + 1) steps
lasts_as plan before after steps same lasts =
    subst (λ n. HasLasts plan (n + 1) steps) (sym same) lasts

told_all : (f : Fixed) (s : ControllerState) (h : List Entry) → s.stop ≡ 0 → EachFits f s h
    → HasLasts f.plan (s.gone + 1) (scan_steps h)
    → Told f.plan s.gone (fold (apply f) s h) (noted_from f s h) (lines_from f s h)
unfolding EachFits lines_from noted_from gone_lines
told_all f s [] goes each lasts = (0, omega arith, ap (stopped_lines f.plan (s.gone + 0)) goes)
told_all f s (entries.Begin ∷ h) goes each lasts =
    told_all f (apply f s entries.Begin) h goes each.1 lasts
told_all f s (entries.Input row ∷ h) goes each lasts =
    let after = apply f s (entries.Input row) in
    let input = input_of (row_of f.plan row) in
    let same = read_gone f.plan.drops input s in
    told_from f.plan s.gone after.gone (fold (apply f) after h) (noted_from f after h)
    (lines_from f after h) same
    (told_all f after h (read_stop f.plan.drops input s ∙ goes) each.1
    (lasts_as f.plan s.gone after.gone (scan_steps h) same lasts))
told_all f s (entries.Solve row ∷ h) goes each lasts =
    let after = apply f s (entries.Solve row) in
    let same = solved_gone f.plan.segments (row_of f.plan row) s in
    told_solved f (steps.Solve row) s after h same each.1
    (λ stop. told_all f after h stop each.1
    (lasts_as f.plan s.gone after.gone (scan_steps h) same lasts)) (after.stop == 0) refl
told_all f s (entries.Output row words ∷ h) goes each lasts = told_all f s h goes each.1 lasts
told_all f s (entries.End ∷ h) goes each lasts =
    let after = apply f s entries.End in
    let last = first_last f.plan (s.gone + 1) steps.End (scan_steps h) lasts.0 lasts.1 lasts.2 in
    told_gone f steps.End after (fold (apply f) after h) s.gone (noted_from f after h)
    (lines_from f after h) goes refl last.off (told_all f after h goes each.1 last.later)
told_all f s (entries.Fail ∷ h) goes each lasts =
    let after = apply f s entries.Fail in
    let last = first_last f.plan (s.gone + 1) steps.Fail (scan_steps h) lasts.0 lasts.1 lasts.2 in
    told_gone f steps.Fail after (fold (apply f) after h) s.gone (noted_from f after h)
    (lines_from f after h) goes refl last.off (told_all f after h goes each.1 last.later)
told_all f s (entries.Dark ∷ h) goes each lasts =
    let after = apply f s entries.Dark in
    let last = first_last f.plan (s.gone + 1) steps.Dark (scan_steps h) lasts.0 lasts.1 lasts.2 in
    told_gone f steps.Dark after (fold (apply f) after h) s.gone (noted_from f after h)
    (lines_from f after h) goes refl last.off (told_all f after h goes each.1 last.later)
told_all f s (entries.Collect calls ∷ h) goes each lasts =
    told_all f (apply f s (entries.Collect calls)) h goes each.1 lasts
told_all f s (entries.Peer id request reply ∷ h) goes each lasts =
    told_all f (apply f s (entries.Peer id request reply)) h goes each.1 lasts
told_all f s (entries.Off id request ∷ h) goes each lasts =
    told_all f (apply f s (entries.Off id request)) h goes each.1 lasts
told_all f s (entries.Finish id result ∷ h) goes each lasts =
    told_all f (apply f s (entries.Finish id result)) h goes each.1 lasts

pub notes_tell : ScansEndOnce → (f : Fixed) (h : List Entry) → IsLegal f h
    → noted_lines f.plan (notes_of f h) ≡ panel_lines f h
notes_tell law f h legal =
    let told = told_all f (start f.plan) h refl legal.each (legal_lasts law f h legal) in
    let notes = notes_of f h in
    let none : 0 + told.0 ≡ told.0 = omega arith in
    ap (λ n. gone_lines f.plan 0 n notes.values ++ stopped_lines f.plan notes.gone notes.stop)
    (told.1 ∙ none)
    ∙ ap (λ n. gone_lines f.plan 0 told.0 notes.values ++ stopped_lines f.plan n notes.stop) told.1
    ∙ told.2
