-- The entries of one scan: they have one line, and they are those of all its steps, or of those up
-- to a stop.
use Rattle.std.proofs.Common.{◌≡◌, ◌≢◌, ◌⊎◌, ℕ, ◌+◌, ◌≤◌, Bool, true, false, List, [], ◌∷◌, ◌++◌}
use Rattle.std.proofs.Common.{length, Option, refl, sym, ap, subst, ◌∙◌, append-nil, append_assoc}
use Rattle.std.proofs.Common.{arith, inl, inr}
use Rattle.std.specs.Prelude.{if◌then◌else◌}
use Rattle.std.specs.List.{cons_option}
use Rattle.std.proofs.lemmas.Bool.{ne_eqb}
use Rattle.std.proofs.lemmas.List.Elements.{filter_map-append}
use Rattle.scan_order.specs.declared.due.ScanStep.{ScanStep}
use Rattle.scan_order.specs.Due.{due, ends_scan}
use Rattle.controller_core.specs.declared.entry.Entry.{Entry}
use Rattle.controller_core.specs.declared.entry.Maker.TheVariants.{Communication}
use Rattle.controller_core.specs.declared.fixed.Fixed.{Fixed}
use Rattle.controller_core.specs.Controller.{AreOf}
use Rattle.controller_core.specs.Event.{entry_of, scan_steps, step_of}
use Rattle.controller_core.specs.Panel.{line_of_step, lines_from, panel_line}
use Rattle.controller_core.specs.Replay.{ControllerState, apply}
use Rattle.controller_core.specs.Run.{entries_from}
use Rattle.controller_core.specs.Scans.{closes_scan}
use Rattle.controller_core.proofs.Keeping.{gone_made}
use Rattle.controller_core.proofs.NextEntry.{replay_append}
use Rattle.controller_core.proofs.RunLemmas.{step_of_made}
use Rattle.whole_scan.proofs.ScanEnds.{NoEnds, due-once}
use Rattle.whole_scan.proofs.ScanSteps.{closes, ends-close, entries-end, entries-first}
use Rattle.whole_scan.proofs.ScanSteps.{entries-none}
use Rattle.panel_session.specs.Scanning.{calls_ended, scan_due, scan_made}
use Rattle.panel_session.specs.Session.{state_after}
use Rattle.panel_session.proofs.Quiet.{ends-of, given-ends, leaves}

pub record IsScanOf (fixed : Fixed) (s : ControllerState) (steps : List ScanStep)
    (entries : List Entry) : Type 0 where
  pub line : length (lines_from fixed s entries) ≡ 1
  pub some : 1 ≤ length (scan_steps entries)
  pub ends : ((state_after fixed s entries).stop ≢ 0)
      ⊎ ((scan_steps entries ≡ steps) × ((state_after fixed s entries).gone ≡ s.gone + 1))

-- The line of a step, if it closes its scan.
line-made : (fixed : Fixed) (s : ControllerState) (step : ScanStep) (closed : Bool)
    → let after = apply fixed s (entry_of fixed s step) in
    closes_scan step after.stop ≡ closed
    → line_of_step fixed.plan (step_of (entry_of fixed s step)) after
    ≡ (if closed then panel_line fixed.plan step after ∷ [] else [])
line-made fixed s step closed is =
    let after = apply fixed s (entry_of fixed s step) in
    ap (λ (made : Option ScanStep). line_of_step fixed.plan made after) (step_of_made fixed s step)
    ∙ ap (λ (closed : Bool). if closed then panel_line fixed.plan step after ∷ [] else []) is

steps-first : (fixed : Fixed) (s : ControllerState) (step : ScanStep) (entries : List Entry)
    → scan_steps (entry_of fixed s step ∷ entries) ≡ step ∷ scan_steps entries
steps-first fixed s step entries =
    ap (λ (made : Option ScanStep). cons_option made (scan_steps entries))
    (step_of_made fixed s step)

gone-by : (fixed : Fixed) (s : ControllerState) (step : ScanStep) (ends : Bool)
    → ends_scan step ≡ ends
    → (apply fixed s (entry_of fixed s step)).gone ≡ (if ends then s.gone + 1 else s.gone)
gone-by fixed s step ends is =
    gone_made fixed s step ∙ ap (λ (ends : Bool). if ends then s.gone + 1 else s.gone) is

-- A step that closes its scan.
closed-by : (fixed : Fixed) (s : ControllerState) (step : ScanStep) (steps : List ScanStep)
    → let after = apply fixed s (entry_of fixed s step) in
    closes_scan step after.stop ≡ true
    → (after.stop ≢ 0) ⊎ ((step ∷ [] ≡ steps) × (after.gone ≡ s.gone + 1))
    → IsScanOf fixed s steps (entry_of fixed s step ∷ [])
unfolding lines_from
closed-by fixed s step steps closed ends = record {
  line = ap (λ (lines : List (List ℕ)). length (lines ++ [])) (line-made fixed s step true closed);
  some = omega (arith, ap length (steps-first fixed s step []));
  ends = elim ends [
    | inl stops ↦ inl stops
    | inr all ↦ inr (steps-first fixed s step [] ∙ all.0, all.1)
  ];
}

-- A step with which its scan goes on.
goes-on-by : (fixed : Fixed) (s : ControllerState) (step : ScanStep) (rest : List ScanStep)
    (entries : List Entry)
    → let after = apply fixed s (entry_of fixed s step) in
    closes_scan step after.stop ≡ false → after.gone ≡ s.gone
    → IsScanOf fixed after rest entries
    → IsScanOf fixed s (step ∷ rest) (entry_of fixed s step ∷ entries)
unfolding lines_from
goes-on-by fixed s step rest entries closed gone more =
    let after = apply fixed s (entry_of fixed s step) in
    let first = steps-first fixed s step entries in
    record {
      line = ap (λ (lines : List (List ℕ)). length (lines ++ lines_from fixed after entries))
          (line-made fixed s step false closed)
          ∙ more.line;
      some = omega (arith, ap length first);
      ends = elim more.ends [
        | inl stops ↦ inl stops
        | inr all ↦ inr (
          first ∙ ap (λ (rest : List ScanStep). step ∷ rest) all.0,
          all.1 ∙ ap (λ (n : ℕ). n + 1) gone,
        )
      ];
    }

scan-by : (fixed : Fixed) (s : ControllerState) (front : List ScanStep) (last : ScanStep)
    → s.stop ≡ 0 → NoEnds front → ends_scan last ≡ true
    → IsScanOf fixed s (front ++ last ∷ []) (entries_from fixed s (front ++ last ∷ []))
scan-by fixed s [] last goes none ends =
    let after = apply fixed s (entry_of fixed s last) in
    subst (IsScanOf fixed s (last ∷ []))
    (sym (entries-first fixed s last [] goes
    ∙ ap (λ (entries : List Entry). entry_of fixed s last ∷ entries) (entries-end fixed after)))
    (closed-by fixed s last (last ∷ []) (ends-close last after.stop ends)
    (inr (refl, gone-by fixed s last true ends)))
scan-by fixed s (step ∷ front) last goes none ends =
    either (closes_scan step after.stop) refl
    (λ runs. scan-by fixed after front last runs none.1 ends)
  where
    after : ControllerState
    after = apply fixed s (entry_of fixed s step)

    rest : List ScanStep
    rest = front ++ last ∷ []

    either : (closed : Bool) → closes_scan step after.stop ≡ closed
        → (after.stop ≡ 0 → IsScanOf fixed after rest (entries_from fixed after rest))
        → IsScanOf fixed s (step ∷ rest) (entries_from fixed s (step ∷ rest))
    either true closed more =
        let stops = (closes fixed s step goes none.0).over closed in
        subst (IsScanOf fixed s (step ∷ rest))
        (sym (entries-first fixed s step rest goes
        ∙ ap (λ (entries : List Entry). entry_of fixed s step ∷ entries)
        (entries-none fixed after rest (ne_eqb after.stop 0 stops))))
        (closed-by fixed s step (step ∷ rest) closed (inl stops))
    either false closed more =
        subst (IsScanOf fixed s (step ∷ rest)) (sym (entries-first fixed s step rest goes))
        (goes-on-by fixed s step rest (entries_from fixed after rest) closed
        (gone-by fixed s step false none.0)
        (more ((closes fixed s step goes none.0).goes_on closed)))

-- The lines of a history are those of its parts.
pub lines-both : (fixed : Fixed) (s : ControllerState) (front rest : List Entry)
    → lines_from fixed s (front ++ rest)
    ≡ lines_from fixed s front ++ lines_from fixed (state_after fixed s front) rest
unfolding lines_from
lines-both fixed s [] rest = refl
lines-both fixed s (entry ∷ front) rest =
    let after = apply fixed s entry in
    let this = line_of_step fixed.plan (step_of entry) after in
    ap (λ (lines : List (List ℕ)). this ++ lines) (lines-both fixed after front rest)
    ∙ sym (append_assoc this (lines_from fixed after front) _)

-- It stays a scan where entries follow that are of no scan.
scan-and : (fixed : Fixed) (s : ControllerState) (steps : List ScanStep)
    (entries added : List Entry) → IsScanOf fixed s steps entries → AreOf Communication added
    → IsScanOf fixed s steps (entries ++ added)
scan-and fixed s steps entries added scan of =
    let after = state_after fixed s entries in
    let left = leaves fixed after added of in
    let same : state_after fixed s (entries ++ added) ≡ state_after fixed after added =
    replay_append fixed s entries added in
    let made : scan_steps (entries ++ added) ≡ scan_steps entries =
    filter_map-append step_of entries added
    ∙ ap (λ (more : List ScanStep). scan_steps entries ++ more) left.steps
    ∙ append-nil (scan_steps entries) in
    record {
      line = ap length (lines-both fixed s entries added
          ∙ ap (λ (lines : List (List ℕ)). lines_from fixed s entries ++ lines) left.lines
          ∙ append-nil (lines_from fixed s entries))
          ∙ scan.line;
      some = omega (arith, ap length made, scan.some);
      ends = elim scan.ends [
        | inl stops ↦ inl (λ none. stops (sym left.stop
            ∙ (sym (ap (λ (t : ControllerState). t.stop) same) ∙ none)))
        | inr all ↦ inr (
          made ∙ all.0,
          ap (λ (t : ControllerState). t.gone) same ∙ (left.gone ∙ all.1),
        )
      ];
    }

-- The scan that is due, with the ends of its calls.
pub made-scan : (fixed : Fixed) (s : ControllerState) → s.stop ≡ 0
    → IsScanOf fixed s (due fixed.plan (s.gone + 1)) (scan_made fixed s)
made-scan fixed s goes =
    let once = due-once fixed.plan (s.gone + 1) in
    let after = state_after fixed s (scan_due fixed s) in
    scan-and fixed s (due fixed.plan (s.gone + 1)) (scan_due fixed s) (calls_ended after)
    (subst (λ (steps : List ScanStep). IsScanOf fixed s steps (entries_from fixed s steps))
    (sym once.is) (scan-by fixed s once.front once.last goes once.none once.ends))
    (ends-of (calls_ended after) (given-ends after))
