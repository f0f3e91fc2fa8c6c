-- What is told of scans, text by text.
use Rattle.std.proofs.Common.{◌≡◌, ◌≢◌, ◌<◌, ◌≤◌, ◌==◌, ℕ, zero, suc, ◌+◌, ◌-◌, true, false, List}
use Rattle.std.proofs.Common.{[], ◌∷◌, ◌++◌, length, get_or, set, map, replicate, refl, sym, ap, ◌∙◌}
use Rattle.std.proofs.Common.{append_assoc, append-nil, add-zero, arith, ⊎_elim}
use Rattle.std.specs.Prelude.{cond}
use Rattle.std.specs.List.{filter, flat_map, range_with_len}
use Rattle.std.proofs.lemmas.Bool.{cases_eq}
use Rattle.std.proofs.lemmas.List.Concat.{flat_map-append}
use Rattle.std.proofs.lemmas.List.Elements.{filter-append}
use Rattle.std.proofs.lemmas.List.Sums.{fold-append}
use Rattle.ladder_solver.specs.declared.note.NetworkFlow.{NetworkFlow}
use Rattle.controller_core.specs.declared.fixed.Fixed.{Fixed}
use Rattle.controller_core.specs.declared.entry.Entry.{Entry}
use Rattle.controller_core.specs.declared.entry.Entry.TheVariants as entries
use Rattle.controller_core.specs.Conducted.{conducted_at}
use Rattle.controller_core.specs.Controller.{ControllerIs, state_of}
use Rattle.controller_core.specs.Replay.{ControllerState, apply, replay, start}
use Rattle.joint_history.specs.declared.joint.ControllerLog.{ControllerLog}
use Rattle.plant_types.specs.declared.plan.ControllerPlan.{ControllerPlan}
use Rattle.flow_text.specs.Solved.{SolvedNetwork, solved_at, solved_from, solved_in}
use Rattle.flow_text.specs.Lines.{network_line, scan_lines}
use Rattle.flow_text.specs.Window.{told}

-- where nothing is told of any of the scans, the texts stay
pub told_nothing : (lines : ℕ → List ℕ) (first : ℕ) (texts : List (List ℕ))
    → ((scan : ℕ) → first ≤ scan → scan < first + length texts → lines scan ≡ [])
    → told lines first texts ≡ texts
told_nothing lines first [] none = refl
told_nothing lines first (text ∷ texts) none =
    let here : text ++ lines first ≡ text = ap (λ back. text ++ back)
    (none first (omega arith) (omega arith)) ∙ append-nil text in
    let behind = told_nothing lines (first + 1) texts
    (λ scan from to. none scan (omega (arith, from)) (omega (arith, to))) in
    λ i. here i ∷ behind i

-- one telling after another
pub told_both : (one other : ℕ → List ℕ) (first : ℕ) (texts : List (List ℕ))
    → told other first (told one first texts) ≡ told (λ scan. one scan ++ other scan) first texts
told_both one other first [] = refl
told_both one other first (text ∷ texts) =
    λ i. append_assoc text (one first) (other first) i ∷ told_both one other (first + 1) texts i

-- the same is told where the lines are the same
pub told_same : (one other : ℕ → List ℕ) (first : ℕ) (texts : List (List ℕ))
    → ((scan : ℕ) → one scan ≡ other scan) → told one first texts ≡ told other first texts
told_same one other first [] same = refl
told_same one other first (text ∷ texts) same =
    λ i. (text ++ same first i) ∷ told_same one other (first + 1) texts same i

-- where something is told of one scan alone, its text alone changes
pub told_one : (lines : ℕ → List ℕ) (first at : ℕ) (texts : List (List ℕ)) (text : List ℕ)
    → at < length texts → text ≡ get_or texts at text
    → ((scan : ℕ) → scan ≢ first + at → lines scan ≡ [])
    → set texts at (text ++ lines (first + at)) ≡ told lines first texts
told_one lines first at [] text within is none = absurd (omega (arith, within))
told_one lines first zero (here ∷ texts) text within is none =
    let behind = told_nothing lines (first + 1) texts
    (λ scan from to. none scan (λ same. absurd (omega (arith, from, same)))) in
    let begins : text ++ lines (first + 0) ≡ here ++ lines first =
    ap (λ t. t ++ lines (first + 0)) is ∙ ap (λ n. here ++ lines n) (add-zero first) in
    λ i. begins i ∷ sym behind i
told_one lines first (suc at) (here ∷ texts) text within is none =
    let stays : here ≡ here ++ lines first =
    sym (ap (λ back. here ++ back) (none first (λ same. absurd (omega (arith, same))))
    ∙ append-nil here) in
    let next : first + suc at ≡ first + 1 + at = omega arith in
    let behind = told_one lines (first + 1) at texts text (omega (arith, within)) is
    (λ scan not. none scan (λ same. not (same ∙ next))) in
    λ i. stays i ∷ (ap (λ n. set texts at (text ++ lines n)) next ∙ behind) i

-- the texts of scans of which nothing was told before
pub told_all : (lines : ℕ → List ℕ) (first many : ℕ)
    → flat_map (λ piece. piece) (told lines first (replicate many []))
    ≡ flat_map lines (range_with_len first many)
told_all lines first zero = refl
told_all lines first (suc many) = ap (λ back. lines first ++ back)
    (told_all lines (first + 1) many)

-- ---- the lines of a scan

pub scan_lines-append : (node : ℕ) (one other : List SolvedNetwork) (scan : ℕ)
    → scan_lines node (one ++ other) scan ≡ scan_lines node one scan ++ scan_lines node other scan
scan_lines-append node one other scan =
    ap (flat_map (network_line node))
    (filter-append (λ (solved : SolvedNetwork). solved.scan == scan) one other)
    ∙ flat_map-append (network_line node) _ _

-- networks that were solved in another scan have none
pub scan_lines-other : (node of row scan : ℕ) (flows : List NetworkFlow) → (of == scan) ≡ false
    → scan_lines node (map (solved_in of row) flows) scan ≡ []
scan_lines-other node of row scan [] not = refl
scan_lines-other node of row scan (flow ∷ flows) not =
    let rest = filter (λ (solved : SolvedNetwork). solved.scan == scan)
    (map (solved_in of row) flows) in
    ap (λ b. flat_map (network_line node) (cond b (solved_in of row flow ∷ rest) rest)) not
    ∙ scan_lines-other node of row scan flows not

-- those of the scan itself have one each
pub scan_lines-own : (node row scan : ℕ) (flows : List NetworkFlow)
    → scan_lines node (map (solved_in scan row) flows) scan
    ≡ flat_map (network_line node) (map (solved_in scan row) flows)
scan_lines-own node row scan [] = refl
scan_lines-own node row scan (flow ∷ flows) =
    let rest = filter (λ (solved : SolvedNetwork). solved.scan == scan)
    (map (solved_in scan row) flows) in
    let same : (scan == scan) ≡ true = grind arith in
    ap (λ b. flat_map (network_line node) (cond b (solved_in scan row flow ∷ rest) rest)) same
    ∙ ap (λ back. network_line node (solved_in scan row flow) ++ back)
    (scan_lines-own node row scan flows)

-- ---- the events of a log, one after another

-- what one event more solves is told before what those after it solve
pub told_more : (node : ℕ) (f : Fixed) (s : ControllerState) (entry : Entry) (rest : List Entry)
    (first : ℕ) (texts next : List (List ℕ))
    → next ≡ told (scan_lines node (solved_at f s entry)) first texts
    → told (scan_lines node (solved_from f (apply f s entry) rest)) first next
    ≡ told (scan_lines node (solved_from f s (entry ∷ rest))) first texts
unfolding solved_from
told_more node f s entry rest first texts next is =
    let now = solved_at f s entry in
    let then = solved_from f (apply f s entry) rest in
    ap (told (scan_lines node then) first) is
    ∙ told_both (scan_lines node now) (scan_lines node then) first texts
    ∙ told_same (λ scan. scan_lines node now scan ++ scan_lines node then scan)
    (scan_lines node (now ++ then)) first texts
    (λ scan. sym (scan_lines-append node now then scan))

-- after the last event nothing is told any more
pub told_end : (node : ℕ) (f : Fixed) (s : ControllerState) (first : ℕ) (texts : List (List ℕ))
    → told (scan_lines node (solved_from f s [])) first texts ≡ texts
unfolding solved_from
told_end node f s first texts =
    told_nothing (scan_lines node []) first texts (λ scan from to. refl)

-- a Solve in a scan of the texts adds its lines to the text of that scan
pub told_solve : (node row first scan : ℕ) (flows : List NetworkFlow) (texts next : List (List ℕ))
    (text : List ℕ) → first ≤ scan → scan < first + length texts
    → text ≡ get_or texts (scan - first) text
    → next ≡ set texts (scan - first)
    (text ++ flat_map (network_line node) (map (solved_in scan row) flows))
    → next ≡ told (scan_lines node (map (solved_in scan row) flows)) first texts
told_solve node row first scan flows texts next text from to there is =
    let at : first + (scan - first) ≡ scan = omega (arith, from) in
    let lines = scan_lines node (map (solved_in scan row) flows) in
    let own = scan_lines-own node row scan flows in
    is ∙ ap (λ back. set texts (scan - first) (text ++ back)) (sym own ∙ ap lines (sym at))
    ∙ told_one lines first (scan - first) texts text (omega (arith, from, to)) there
    (λ other not. scan_lines-other node scan row other flows (differs other (λ same. not (same
    ∙ sym at))))
  where
    differs : (other : ℕ) → (other ≢ scan) → (scan == other) ≡ false
    differs other not = ⊎_elim (λ (same : scan ≡ other). absurd (not (sym same)))
        (λ (apart : scan ≢ other). grind (arith, apart)) (cases_eq scan other)

-- one in another scan adds none
pub told_other : (node row first scan : ℕ) (flows : List NetworkFlow) (texts : List (List ℕ))
    → (first ≤ scan → scan < first + length texts → ⊥)
    → told (scan_lines node (map (solved_in scan row) flows)) first texts ≡ texts
told_other node row first scan flows texts out =
    told_nothing (scan_lines node (map (solved_in scan row) flows)) first texts
    (λ other from to. scan_lines-other node scan row other flows (differs other from to))
  where
    differs : (other : ℕ) → first ≤ other → other < first + length texts → (scan == other) ≡ false
    differs other from to = ⊎_elim
        (λ (same : scan ≡ other).
        absurd (out (omega (arith, same, from)) (omega (arith, same, to))))
        (λ (apart : scan ≢ other). grind (arith, apart)) (cases_eq scan other)

-- an event that is no Solve solves nothing
pub told_quiet : (node first : ℕ) (texts : List (List ℕ))
    → told (scan_lines node []) first texts ≡ texts
told_quiet node first texts = told_nothing (scan_lines node []) first texts (λ scan from to. refl)

-- a controller after one event more
state_more : (v w : ControllerIs) (e : Entry) → w.fixed ≡ v.fixed → w.history ≡ v.history ++ e ∷ []
    → state_of w ≡ apply v.fixed (state_of v) e
state_more v w e fixed history =
    ap (λ h. replay w.fixed h) history
    ∙ ap (λ (f : Fixed). replay f (v.history ++ e ∷ [])) fixed
    ∙ fold-append (apply v.fixed) (start v.fixed.plan) v.history (e ∷ [])

-- one event more of a log
pub log_step : (node : ℕ) (f : Fixed) (v w : ControllerIs) (entry : Entry) (rest : List Entry)
    (first : ℕ) (texts next whole : List (List ℕ))
    → v.fixed ≡ f → w.fixed ≡ v.fixed → w.history ≡ v.history ++ entry ∷ []
    → next ≡ told (scan_lines node (solved_at v.fixed (state_of v) entry)) first texts
    → told (scan_lines node (solved_from f (state_of v) (entry ∷ rest))) first texts ≡ whole
    → told (scan_lines node (solved_from f (state_of w) rest)) first next ≡ whole
log_step node f v w entry rest first texts next whole same fixed history tells so_far =
    let after : state_of w ≡ apply f (state_of v) entry =
    state_more v w entry fixed history ∙ ap (λ (g : Fixed). apply g (state_of v) entry) same in
    ap (λ (s : ControllerState). told (scan_lines node (solved_from f s rest)) first next) after
    ∙ told_more node f (state_of v) entry rest first texts next
    (tells ∙ ap (λ (g : Fixed). told (scan_lines node (solved_at g (state_of v) entry)) first texts)
    same)
    ∙ so_far

-- an event that does not solve in a scan of the texts tells nothing
pub told_again : (node : ℕ) (f : Fixed) (s : ControllerState) (entry : Entry) (first : ℕ)
    (texts : List (List ℕ))
    → ((row : ℕ) → entry ≡ entries.Solve row → first ≤ s.gone + 1
    → s.gone + 1 < first + length texts → ⊥)
    → told (scan_lines node (solved_at f s entry)) first texts ≡ texts
told_again node f s entries.Begin first texts out = told_quiet node first texts
told_again node f s (entries.Input row) first texts out = told_quiet node first texts
told_again node f s (entries.Solve row) first texts out =
    told_other node row first (s.gone + 1) (conducted_at f s (entries.Solve row)) texts
    (out row refl)
told_again node f s (entries.Output row words) first texts out = told_quiet node first texts
told_again node f s entries.End first texts out = told_quiet node first texts
told_again node f s entries.Fail first texts out = told_quiet node first texts
told_again node f s entries.Dark first texts out = told_quiet node first texts
told_again node f s (entries.Collect calls) first texts out = told_quiet node first texts
told_again node f s (entries.Peer id request reply) first texts out = told_quiet node first texts
told_again node f s (entries.Off id request) first texts out = told_quiet node first texts
told_again node f s (entries.Finish id result) first texts out = told_quiet node first texts

-- ---- the logs of controllers, one after another

-- what is told of one log more is told before what is told of those after it
pub logs_step : (lines : ℕ → ControllerPlan × ControllerLog → List ℕ)
    (of : ControllerPlan × ControllerLog) (rest : List (ControllerPlan × ControllerLog)) (first : ℕ)
    (texts next whole : List (List ℕ))
    → next ≡ told (λ scan. lines scan of) first texts
    → told (λ scan. flat_map (lines scan) (of ∷ rest)) first texts ≡ whole
    → told (λ scan. flat_map (lines scan) rest) first next ≡ whole
logs_step lines of rest first texts next whole tells so_far =
    ap (told (λ scan. flat_map (lines scan) rest) first) tells
    ∙ told_both (λ scan. lines scan of) (λ scan. flat_map (lines scan) rest) first texts
    ∙ so_far

-- after the last log nothing is told any more
pub logs_end : (lines : ℕ → ControllerPlan × ControllerLog → List ℕ) (first : ℕ)
    (texts : List (List ℕ))
    → told (λ scan. flat_map (lines scan) []) first texts ≡ texts
logs_end lines first texts =
    told_nothing (λ scan. flat_map (lines scan) []) first texts (λ scan from to. refl)
