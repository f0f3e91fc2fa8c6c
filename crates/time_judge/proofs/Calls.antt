-- Calls that are handed on are counted one after another.
use Rattle.std.proofs.Common.{◌≡◌, ℕ, suc, ◌+◌, ◌<◌, ◌≤◌, Bool, List, [], ◌∷◌, length, map, drop}
use Rattle.std.proofs.Common.{get_or, refl, sym, ap, ◌∙◌, arith, drop-cons}
use Rattle.std.proofs.Math.ListN.{drop_of_length-le}
use Rattle.controller_core.specs.declared.call.Call.{Call}
use Rattle.controller_core.specs.declared.call.CallKind.{CallKind}
use Rattle.controller_core.specs.declared.call.CallKind.TheVariants as call_kinds
use Rattle.one_order.specs.Merges.{tally}
use Rattle.entry_causes.specs.Causes.{Noted, noted_next, asking, asking_of}
use Rattle.time_judge.specs.declared.counts.NotedCounts.{NotedCounts}
use Rattle.time_judge.specs.Counts.{noted_is, NotedAre}

asks-none : (s : Noted) (kind : CallKind) → (noted_next s (asking kind)).answers ≡ s.answers
asks-none s (call_kinds.Net route pdu) = refl
asks-none s (call_kinds.Local op) = refl

abbrev Left : NotedCounts → List Bool → List Call → Noted
Left counts answers calls = tally noted_next (noted_is counts answers) (map asking_of calls)

pub calls-step : (calls : List Call) (i : ℕ) (x : Call) → i < length calls → x ≡ get_or calls i x
    → (now next : NotedCounts)
    → ((answers : List Bool) → NotedAre (noted_next (noted_is now answers) (asking x.kind)) next)
    → (answers : List Bool) → Left next answers (drop (i + 1) calls)
    ≡ Left now answers (drop i calls)
calls-step calls i x low is now next counted answers =
    let s = noted_next (noted_is now answers) (asking x.kind) in
    let same : noted_is next answers ≡ s =
    ap (noted_is next) (sym (asks-none (noted_is now answers) x.kind)) ∙ counted answers in
    let parts : drop i calls ≡ x ∷ drop (i + 1) calls = drop-cons calls i x low
    ∙ (λ j. sym is j ∷ drop (let one : suc i ≡ i + 1 = omega arith in one j) calls) in
    ap (λ (t : Noted). tally noted_next t (map asking_of (drop (i + 1) calls))) same
    ∙ ap (Left now answers) (sym parts)

pub calls-end : (calls : List Call) (i : ℕ) → length calls ≤ i → (old next : NotedCounts)
    → ((answers : List Bool) → Left next answers (drop i calls) ≡ Left old answers calls)
    → (answers : List Bool) → NotedAre (Left old answers calls) next
calls-end calls i over old next all answers =
    let same : noted_is next answers ≡ Left old answers calls =
    ap (Left next answers) (sym (drop_of_length-le calls over)) ∙ all answers in
    ap (noted_is next) (sym (ap (λ (t : Noted). t.answers) same)) ∙ same

pub calls-answer : (s : Noted) (calls : List Call)
    → (tally noted_next s (map asking_of calls)).answers ≡ s.answers
calls-answer s [] = refl
calls-answer s (c ∷ calls) =
    calls-answer (noted_next s (asking_of c)) calls ∙ asks-none s c.kind
