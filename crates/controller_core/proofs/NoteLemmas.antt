-- What a history notes of the panel, entry by entry.
use Rattle.std.proofs.Common.{◌≡◌, ◌≤◌, ℕ, ◌+◌, Bool, true, false, ◌&&◌, List, [], ◌∷◌, ◌++◌}
use Rattle.std.proofs.Common.{length}
use Rattle.std.proofs.Common.{Option, Some, refl, sym, ap, subst, ◌∙◌, arith, append_assoc}
use Rattle.std.proofs.Common.{append-nil}
use Rattle.std.specs.Prelude.{fold, not, if◌then◌else◌}
use Rattle.scan_order.specs.declared.due.ScanPlace.{ScanPlace}
use Rattle.scan_order.specs.declared.due.ScanStep.{ScanStep}
use Rattle.controller_core.specs.declared.fixed.Fixed.{Fixed}
use Rattle.controller_core.specs.declared.entry.Entry.{Entry}
use Rattle.controller_core.specs.declared.entry.Entry.TheVariants as entries
use Rattle.controller_core.specs.declared.machine.Machine.{Machine}
use Rattle.controller_core.specs.Replay.{ControllerState, apply, replay, start}
use Rattle.controller_core.specs.Event.{entry_of, step_of}
use Rattle.controller_core.specs.Kept.{IsKept}
use Rattle.controller_core.specs.Machine.{state_is}
use Rattle.controller_core.specs.Scans.{closes_scan}
use Rattle.controller_core.specs.Notes.{IsPanelNoted, note_of_step, noted_from, noted_values}
use Rattle.controller_core.specs.Notes.{notes_of}
use Rattle.controller_core.specs.Notes.{values_of}
use Rattle.controller_core.proofs.Keeping.{IsTold}
use Rattle.controller_core.proofs.RunLemmas.{step_of_made}

pub noted_more : (f : Fixed) (s : ControllerState) (h : List Entry) (e : Entry)
    → noted_from f s (h ++ e ∷ [])
    ≡ noted_from f s h ++ note_of_step f.plan (step_of e) (fold (apply f) s (h ++ e ∷ []))
unfolding noted_from
noted_more f s [] e = append-nil (note_of_step f.plan (step_of e) (apply f s e))
noted_more f s (x ∷ h) e =
    let after = apply f s x in
    let now = note_of_step f.plan (step_of x) after in
    ap (λ (l : List ℕ). now ++ l) (noted_more f after h e)
    ∙ sym (append_assoc now (noted_from f after h)
    (note_of_step f.plan (step_of e) (fold (apply f) after (h ++ e ∷ []))))

-- ---- the number of scans

abbrev more_scans : Fixed → ℕ → Fixed
more_scans f n = record f { scans = n }

same_after : (f : Fixed) (n : ℕ) (s : ControllerState) (e : Entry) → apply (more_scans f n) s e
    ≡ apply f s e
same_after f n s entries.Begin = refl
same_after f n s (entries.Input row) = refl
same_after f n s (entries.Solve row) = refl
same_after f n s (entries.Output row words) = refl
same_after f n s entries.End = refl
same_after f n s entries.Fail = refl
same_after f n s entries.Dark = refl
same_after f n s (entries.Collect calls) = refl
same_after f n s (entries.Peer id request reply) = refl
same_after f n s (entries.Off id request) = refl
same_after f n s (entries.Finish id result) = refl

same_fold : (f : Fixed) (n : ℕ) (s : ControllerState) (h : List Entry)
    → fold (apply (more_scans f n)) s h ≡ fold (apply f) s h
same_fold f n s [] = refl
same_fold f n s (e ∷ h) = ap (λ (t : ControllerState). fold (apply (more_scans f n)) t h)
    (same_after f n s e) ∙ same_fold f n (apply f s e) h

same_from : (f : Fixed) (n : ℕ) (s : ControllerState) (h : List Entry)
    → noted_from (more_scans f n) s h ≡ noted_from f s h
unfolding noted_from
same_from f n s [] = refl
same_from f n s (e ∷ h) =
    ap (λ (t : ControllerState). note_of_step f.plan (step_of e) t
    ++ noted_from (more_scans f n) t h) (same_after f n s e)
    ∙ ap (λ (l : List ℕ). note_of_step f.plan (step_of e) (apply f s e) ++ l)
    (same_from f n (apply f s e) h)

pub notes_same : (f : Fixed) (n : ℕ) (h : List Entry)
    → notes_of (record f { scans = n }) h ≡ notes_of f h
notes_same f n h =
    let values = same_from f n (start f.plan) h in
    let state = same_fold f n (start f.plan) h in
    λ i. record { values = values i; gone = (state i).gone; stop = (state i).stop }

-- ---- what a controller has noted

-- at its start nothing
pub noted_start : (f : Fixed) (h : List Entry) (values : List ℕ) (capacity : ℕ) → h ≡ []
    → values ≡ [] → IsPanelNoted f h false values capacity
unfolding noted_from
noted_start f h values capacity none empty =
    record {
      are = empty ∙ ap (λ (l : List Entry). noted_values f l) (sym none);
      room = λ no. absurd cc;
    }

-- what the communication does notes nothing
pub noted_told : (f g : Fixed) (h l : List Entry) (e : Entry) (r : Bool) (values : List ℕ)
    (capacity : ℕ) → IsTold e → g ≡ f → l ≡ h ++ e ∷ []
    → IsPanelNoted f h r values capacity → IsPanelNoted g l r values capacity
noted_told f g h l e r values capacity told fixed items noted =
    let nothing : noted_values f (h ++ e ∷ []) ≡ noted_values f h =
    noted_more f (start f.plan) h e
    ∙ ap (λ (o : Option ScanStep).
    noted_values f h ++ note_of_step f.plan o (replay f (h ++ e ∷ []))) told.step
    ∙ append-nil (noted_values f h) in
    record {
      are = noted.are ∙ sym nothing ∙ ap (λ (x : List Entry). noted_values f x) (sym items)
          ∙ ap (λ (x : Fixed). noted_values x l) (sym fixed);
      room = λ is. subst (λ (x : Fixed). length values + length x.plan.panel ≤ capacity) (sym fixed)
          (noted.room is);
    }

-- memory that is kept behind a step was there, and the step is not the last of its scan
still : (r closes : Bool) → (r && not closes) ≡ true → (r ≡ true) × (closes ≡ false)
still true true is = absurd cc
still true false is = (refl, refl)
still false closes is = absurd cc

-- a step notes the panel, if it is the last of its scan
pub noted_step : (f : Fixed) (s : ControllerState) (n : Machine) (h l : List Entry)
    (step : ScanStep) (r q : Bool) (old new : List ℕ) (capacity room : ℕ)
    → n.fixed ≡ f → l ≡ h ++ entry_of f s step ∷ [] → state_is n ≡ replay n.fixed l
    → q ≡ (r && not (closes_scan step n.stop))
    → new ≡ old ++ note_of_step n.fixed.plan (Some step) (state_is n) → capacity ≤ room
    → IsPanelNoted f h r old capacity
    → IsPanelNoted n.fixed l q new room
noted_step f s n h l step r q old new capacity room fixed items state keeps is more noted =
    let e = entry_of f s step in
    let made : noted_values f (h ++ e ∷ [])
    ≡ noted_values f h ++ note_of_step f.plan (Some step) (replay f (h ++ e ∷ [])) =
    noted_more f (start f.plan) h e
    ∙ ap (λ (o : Option ScanStep).
    noted_values f h ++ note_of_step f.plan o (replay f (h ++ e ∷ []))) (step_of_made f s step) in
    record {
      are = is
          ∙ ap (λ (t : ControllerState). old ++ note_of_step n.fixed.plan (Some step) t) state
          ∙ ap (λ (x : Fixed). old ++ note_of_step x.plan (Some step) (replay x l)) fixed
          ∙ ap (λ (x : List Entry). old ++ note_of_step f.plan (Some step) (replay f x)) items
          ∙ ap (λ (x : List ℕ). x ++ note_of_step f.plan (Some step) (replay f (h ++ e ∷ [])))
          noted.are
          ∙ sym made
          ∙ ap (λ (x : List Entry). noted_values f x) (sym items)
          ∙ ap (λ (x : Fixed). noted_values x l) (sym fixed);
      room = λ kept.
          let two = still r (closes_scan step n.stop) (sym keeps ∙ kept) in
          let same : new ≡ old =
          is ∙ ap (λ b. old ++ (if b then values_of n.ram n.fixed.plan.panel else [])) two.1
          ∙ append-nil old in
          let before = noted.room two.0 in
          let panel = ap (λ (x : Fixed). length x.plan.panel) fixed in
          let count = ap length same in
          omega (arith, before, panel, count, more);
    }

-- the same where the history is the same
pub kept_same : (m : Machine) (h l : List Entry) (at : ScanPlace) → l ≡ h → IsKept m.fixed m h at
    → IsKept m.fixed m l at
kept_same m h l at same kept = subst (λ (x : List Entry). IsKept m.fixed m x at) (sym same) kept

pub noted_same : (f : Fixed) (h l : List Entry) (values : List ℕ) → l ≡ h
    → values ≡ noted_values f h → values ≡ noted_values f l
noted_same f h l values same noted = noted ∙ ap (λ (x : List Entry). noted_values f x) (sym same)
