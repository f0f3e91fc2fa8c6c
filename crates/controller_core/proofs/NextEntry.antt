-- Which entries may come next.
use Rattle.std.proofs.Common.{◌≡◌, ◌==◌, ℕ, Bool, true, false, List, [], ◌∷◌, ◌++◌, length, drop}
use Rattle.std.proofs.Common.{Option, Some, None, refl, sym, ap, subst, ◌∙◌, append_assoc}
use Rattle.std.proofs.Common.{append-nil}
use Rattle.std.specs.Prelude.{fold, if◌then◌else◌}
use Rattle.std.specs.Prelude.{IfOk, OnErr, Result, Ok, Err}
use Rattle.std.specs.List.{cons_option}
use Rattle.std.proofs.lemmas.List.Elements.{filter_map-append}
use Rattle.std.proofs.Math.Seq.{drop-append_seam}
use Rattle.modbus_exec.specs.Answer.{answer_of}
use Rattle.mstr_block.specs.declared.call.CallId.{CallId}
use Rattle.scan_order.specs.declared.due.ScanStep.{ScanStep}
use Rattle.scan_order.specs.declared.due.ScanStep.TheVariants as steps
use Rattle.controller_core.specs.declared.call.Call.{Call}
use Rattle.controller_core.specs.declared.fixed.Fixed.{Fixed}
use Rattle.controller_core.specs.declared.entry.Entry.{Entry}
use Rattle.controller_core.specs.declared.entry.Entry.TheVariants as entries
use Rattle.controller_core.specs.declared.entry.Maker.{Maker}
use Rattle.controller_core.specs.declared.entry.Maker.TheVariants as makers
use Rattle.controller_core.specs.Replay.{ControllerState, apply, start}
use Rattle.controller_core.specs.Event.{entry_of, maker_of, peer_entry, reply_in, scan_steps}
use Rattle.controller_core.specs.Event.{step_of}
use Rattle.controller_core.specs.Scans.{all_due}
use Rattle.controller_core.specs.Controller.{AreOf, ControllerIs, EachFits, Fits, GoesOn, IsLegal}
use Rattle.controller_core.specs.Controller.{ControllerWentOn, due_entry, due_step, entry_for}
use Rattle.controller_core.specs.Controller.{first_step}
use Rattle.controller_core.specs.Controller.{grown, has_ended, is_none, left_of, made}
use Rattle.controller_core.specs.Controller.{reply_to, state_of, store_of}
use Rattle.controller_core.specs.Controller.{stepped, uncollected, collecting}
use Rattle.controller_core.specs.Controller.{has_started}
use Rattle.controller_core.specs.Following.{HasWords, MayFollow, followed, followed_step}
use Rattle.controller_core.specs.Conducted.{conducted_at, conducted_if, step_conducts}
use Rattle.controller_core.proofs.Keeping.{scan_steps-quiet, told_entry, off_told, peer_told}
use Rattle.controller_core.proofs.Keeping.{IsTold}

-- ---- the last entry of a legal history

each_last : (f : Fixed) (s : ControllerState) (h : List Entry) (e : Entry)
    → EachFits f s (h ++ e ∷ []) → Fits f (fold (apply f) s h) e
unfolding EachFits
each_last f s [] e each = each.0
each_last f s (x ∷ h) e each = each_last f (apply f s x) h e each.1

-- the front of a legal history is legal, as far as what is left
left_is : (f : Fixed) (h : List Entry) (rest : List ScanStep) → scan_steps h ++ rest ≡ all_due f
    → left_of f h ≡ rest
left_is f h rest is =
    ap (λ (l : List ScanStep). drop (length (scan_steps h)) l) (sym is)
    ∙ drop-append_seam (scan_steps h) rest

front_fits : (f : Fixed) (s : ControllerState) (h rest : List Entry) → EachFits f s (h ++ rest)
    → EachFits f s h
unfolding EachFits
front_fits f s [] rest each = tt
front_fits f s (x ∷ h) rest each = (each.0, front_fits f (apply f s x) h rest each.1)

pub front_legal : (f : Fixed) (h rest : List Entry) → IsLegal f (h ++ rest) → IsLegal f h
front_legal f h rest legal = record {
  each = front_fits f (start f.plan) h rest legal.each;
  due = (
    scan_steps rest ++ legal.due.0,
    sym (append_assoc (scan_steps h) (scan_steps rest) legal.due.0)
        ∙ ap (λ (l : List ScanStep). l ++ legal.due.0) (sym (filter_map-append step_of h rest))
        ∙ legal.due.1,
  );
}

-- ---- an entry of a scan

the_step : {a b : ScanStep} → Some a ≡ Some b → a ≡ b
the_step is = cc

-- it is the entry of its step, if its words are those of the row
entry_is : (f : Fixed) (s : ControllerState) (e : Entry) (step : ScanStep) → step_of e ≡ Some step
    → HasWords f s e → entry_of f s step ≡ e
entry_is f s entries.Begin step is words = ap (entry_of f s) (sym (the_step is))
entry_is f s (entries.Input row) step is words = ap (entry_of f s) (sym (the_step is))
entry_is f s (entries.Solve row) step is words = ap (entry_of f s) (sym (the_step is))
entry_is f s (entries.Output row given) step is words =
    ap (entry_of f s) (sym (the_step is)) ∙ ap (entries.Output row) (sym words)
entry_is f s entries.End step is words = ap (entry_of f s) (sym (the_step is))
entry_is f s entries.Fail step is words = ap (entry_of f s) (sym (the_step is))
entry_is f s entries.Dark step is words = ap (entry_of f s) (sym (the_step is))
entry_is f s (entries.Collect calls) step is words = absurd cc
entry_is f s (entries.Peer id request reply) step is words = absurd cc
entry_is f s (entries.Off id request) step is words = absurd cc
entry_is f s (entries.Finish id result) step is words = absurd cc

-- an entry of a step that fits is made where the controller goes on, and has the words of its row
fits_goes : (f : Fixed) (s : ControllerState) (e : Entry) (step : ScanStep) → step_of e ≡ Some step
    → Fits f s e → GoesOn s × HasWords f s e
fits_goes f s entries.Begin step is fits = (fits, tt)
fits_goes f s (entries.Input row) step is fits = (fits, tt)
fits_goes f s (entries.Solve row) step is fits = (fits, tt)
fits_goes f s (entries.Output row given) step is fits = fits
fits_goes f s entries.End step is fits = (fits, tt)
fits_goes f s entries.Fail step is fits = (fits, tt)
fits_goes f s entries.Dark step is fits = (fits, tt)
fits_goes f s (entries.Collect calls) step is fits = absurd cc
fits_goes f s (entries.Peer id request reply) step is fits = absurd cc
fits_goes f s (entries.Off id request) step is fits = absurd cc
fits_goes f s (entries.Finish id result) step is fits = absurd cc

-- an entry of a scan is a step
pub scan_step : (e : Entry) → maker_of e ≡ makers.Scan → (step : ScanStep) × (step_of e ≡ Some step)
scan_step entries.Begin of = (steps.Begin, refl)
scan_step (entries.Input row) of = (steps.In row, refl)
scan_step (entries.Solve row) of = (steps.Solve row, refl)
scan_step (entries.Output row words) of = (steps.Out row, refl)
scan_step entries.End of = (steps.End, refl)
scan_step entries.Fail of = (steps.Fail, refl)
scan_step entries.Dark of = (steps.Dark, refl)
scan_step (entries.Collect calls) of = absurd cc
scan_step (entries.Peer id request reply) of = absurd cc
scan_step (entries.Off id request) of = absurd cc
scan_step (entries.Finish id result) of = absurd cc

steps_with : (h : List Entry) (e : Entry) (step : ScanStep) → step_of e ≡ Some step
    → scan_steps (h ++ e ∷ []) ≡ scan_steps h ++ step ∷ []
steps_with h e step is =
    filter_map-append step_of h (e ∷ [])
    ∙ ap (λ (o : Option ScanStep). scan_steps h ++ cons_option o []) is

-- what is due where an entry of a step may come next
pub due_of : (v : ControllerIs) (e : Entry) (step : ScanStep) → step_of e ≡ Some step
    → MayFollow v e → due_entry v ≡ Some e
due_of v e step is may =
    let f = v.fixed in
    let h = v.history in
    let fits = fits_goes f (state_of v) e step is (each_last f (start f.plan) h e may.each) in
    let left : left_of f h ≡ step ∷ may.due.0 =
    left_is f h (step ∷ may.due.0) (sym (append_assoc (scan_steps h) (step ∷ []) may.due.0)
    ∙ ap (λ (l : List ScanStep). l ++ may.due.0) (sym (steps_with h e step is)) ∙ may.due.1) in
    let due : due_step v ≡ Some step =
    ap (λ n. if n == 0 then first_step (left_of f h) else None) fits.0 ∙ ap first_step left in
    ap (entry_for v) due ∙ ap Some (entry_is f (state_of v) e step is fits.1)

entry_for-reserved : (v : ControllerIs) (due : Option ScanStep)
    → entry_for (record v { reserved = true }) due ≡ entry_for v due
entry_for-reserved v None = refl
entry_for-reserved v (Some step) = refl

-- what the entry conducts that is due, once its scan is reserved
pub conducts_due : (v : ControllerIs) (e : Entry) → due_entry v ≡ Some e
    → step_conducts (record v { reserved = true }) ≡ conducted_at v.fixed (state_of v) e
conducts_due v e is =
    let w : ControllerIs = record v { reserved = true } in
    ap (conducted_if w) (entry_for-reserved v (due_step v) ∙ is)

-- ---- what the communication does

pub fits_last : (v : ControllerIs) (e : Entry) → MayFollow v e → Fits v.fixed (state_of v) e
fits_last v e may = each_last v.fixed (start v.fixed.plan) v.history e may.each

fits_by : (f : Fixed) (s : ControllerState) (id : CallId) (request : List ℕ) (powered : Bool)
    → s.powered ≡ powered → Fits f s (peer_entry id request
    (if powered then Some (answer_of request s.solving.map).reply else None))
fits_by f s id request true is = (is, refl)
fits_by f s id request false is = is

-- the entry of a request fits, whatever comes of it
pub peer_fits : (f : Fixed) (s : ControllerState) (id : CallId) (request : List ℕ)
    (reply : Option (List ℕ)) → reply ≡ reply_in s request
    → Fits f s (peer_entry id request reply)
peer_fits f s id request reply is =
    subst (λ (r : Option (List ℕ)). Fits f s (peer_entry id request r)) (sym is)
    (fits_by f s id request s.powered refl)

-- and leaves the scan as it is
pub peer_entry-told : (id : CallId) (request : List ℕ) (reply : Option (List ℕ))
    → IsTold (peer_entry id request reply)
peer_entry-told id request (Some reply) = peer_told id request reply
peer_entry-told id request None = off_told id request

pub legal_went : (maker : Maker) (added : List Entry) (old new : ControllerIs)
    → ControllerWentOn maker added old new → IsLegal old.fixed (old.history ++ added)
legal_went maker added old new went =
    subst (λ (f : Fixed). IsLegal f (old.history ++ added)) went.fixed
    (subst (λ (h : List Entry). IsLegal new.fixed h) went.history went.legal)

-- what a request comes to where its entry fits
peer_reply : (v : ControllerIs) (request reply : List ℕ)
    → ((state_of v).powered ≡ true) × (reply ≡ (answer_of request (store_of v)).reply)
    → reply_to v request ≡ Some reply
peer_reply v request reply fits =
    ap (λ b. if b then Some (answer_of request (store_of v)).reply else None) fits.0
    ∙ ap Some (sym fits.1)

no_reply : (v : ControllerIs) (request : List ℕ) → (state_of v).powered ≡ false
    → reply_to v request ≡ None
no_reply v request off =
    ap (λ b. if b then Some (answer_of request (store_of v)).reply else None) off

-- what a request comes to where its entry fits
made_reply : (v : ControllerIs) (id : CallId) (request : List ℕ) (reply : Option (List ℕ))
    → Fits v.fixed (state_of v) (peer_entry id request reply) → reply_to v request ≡ reply
made_reply v id request (Some reply) fits = peer_reply v request reply fits
made_reply v id request None fits = no_reply v request fits

-- a reply, or none, may come next exactly where it is the one that was made
pub reply_may : (v : ControllerIs) (id : CallId) (request : List ℕ) (reply given : Option (List ℕ))
    → given ≡ reply_to v request
    → IsLegal v.fixed (v.history ++ peer_entry id request given ∷ []) → (b : Bool)
    → ((b ≡ true → given ≡ reply) × (given ≡ reply → b ≡ true))
    → (b ≡ true → MayFollow v (peer_entry id request reply))
    × (MayFollow v (peer_entry id request reply) → b ≡ true)
reply_may v id request reply given due legal b both = (
  λ yes. subst (λ (r : Option (List ℕ)).
      IsLegal v.fixed (v.history ++ peer_entry id request r ∷ [])) (both.0 yes) legal,
  λ may. both.1 (due ∙ made_reply v id request reply
      (fits_last v (peer_entry id request reply) may)),
)

-- so may calls exactly where they are those that were collected
pub collect_may : (v : ControllerIs) (calls given : List Call) → given ≡ uncollected v
    → IsLegal v.fixed (v.history ++ entries.Collect given ∷ []) → (b : Bool)
    → ((b ≡ true → given ≡ calls) × (given ≡ calls → b ≡ true))
    → (b ≡ true → MayFollow v (entries.Collect calls))
    × (MayFollow v (entries.Collect calls) → b ≡ true)
collect_may v calls given due legal b both = (
  λ yes. subst (λ (l : List Call). IsLegal v.fixed (v.history ++ entries.Collect l ∷ []))
      (both.0 yes) legal,
  λ may. both.1 (due ∙ sym (fits_last v (entries.Collect calls) may).1),
)

-- ---- other makers

steps_stay : (h added : List Entry) → AreOf makers.Communication added
    → scan_steps (h ++ added) ≡ scan_steps h
steps_stay h [] of = ap scan_steps (append-nil h)
steps_stay h (e ∷ added) of =
    sym (ap scan_steps (append_assoc h (e ∷ []) added))
    ∙ steps_stay (h ++ e ∷ []) added of.1
    ∙ scan_steps-quiet h e (told_entry e of.0).step

stop_from : (f : Fixed) (s : ControllerState) (added : List Entry)
    → AreOf makers.Communication added → (fold (apply f) s added).stop ≡ s.stop
stop_from f s [] of = refl
stop_from f s (e ∷ added) of = stop_from f (apply f s e) added of.1 ∙ (told_entry e of.0).stop f s

pub replay_append : (f : Fixed) (s : ControllerState) (h added : List Entry)
    → fold (apply f) s (h ++ added) ≡ fold (apply f) (fold (apply f) s h) added
replay_append f s [] added = refl
replay_append f s (x ∷ h) added = replay_append f (apply f s x) h added

pub stop_stays : (v : ControllerIs) (added : List Entry) → AreOf makers.Communication added
    → (state_of (grown v added v.reserved)).stop ≡ (state_of v).stop
stop_stays v added of =
    ap (λ (t : ControllerState). t.stop) (replay_append v.fixed
    (start v.fixed.plan) v.history added)
    ∙ stop_from v.fixed (state_of v) added of

pub due_stays : (v : ControllerIs) (added : List Entry) → AreOf makers.Communication added
    → due_step (grown v added v.reserved) ≡ due_step v
due_stays v added of =
    let steps = steps_stay v.history added of in
    ap (λ n. if n == 0 then first_step (left_of v.fixed (v.history ++ added)) else None)
    (stop_stays v added of)
    ∙ ap (λ (l : List ScanStep). if (state_of v).stop == 0
    then first_step (drop (length l) (all_due v.fixed)) else None) steps

pub ended_stays : (v : ControllerIs) (added : List Entry) → AreOf makers.Communication added
    → has_ended (grown v added v.reserved) ≡ has_ended v
ended_stays v added of = ap is_none (due_stays v added of)

made_none : (v : ControllerIs) (due : Option ScanStep) → is_none due ≡ true → made v due ≡ v
made_none v None none = refl
made_none v (Some step) none = absurd cc

pub stays : (v : ControllerIs) → has_ended v ≡ true → stepped v ≡ v
stays v ended = made_none v (due_step v) ended

-- ---- following

made_takes : (v : ControllerIs) (due : Option ScanStep) (e : Entry) → entry_for v due ≡ Some e
    → (made v due).history ≡ v.history ++ e ∷ []
made_takes v None e is = absurd cc
made_takes v (Some step) e is =
    let same : entry_of v.fixed (state_of v) step ≡ e = cc in
    ap (λ (x : Entry). v.history ++ x ∷ []) same

step_takes : (v : ControllerIs) (e : Entry) → maker_of e ≡ makers.Scan → MayFollow v e
    → (followed_step v true).history ≡ v.history ++ e ∷ []
step_takes v e of may =
    let step = scan_step e of in
    let w : ControllerIs = record v { reserved = true } in
    made_takes w (due_step w) e (due_of w e step.0 step.1 may)

pub takes : (v : ControllerIs) (e : Entry) → MayFollow v e
    → (followed v e true).history ≡ v.history ++ e ∷ []
takes v entries.Begin may = step_takes v entries.Begin refl may
takes v (entries.Input row) may = step_takes v (entries.Input row) refl may
takes v (entries.Solve row) may = step_takes v (entries.Solve row) refl may
takes v (entries.Output row words) may = step_takes v (entries.Output row words) refl may
takes v entries.End may = step_takes v entries.End refl may
takes v entries.Fail may = step_takes v entries.Fail refl may
takes v entries.Dark may = step_takes v entries.Dark refl may
takes v (entries.Collect calls) may =
    let fits = fits_last v (entries.Collect calls) may in
    ap (λ b. (if b then collecting v else v).history) fits.0
    ∙ ap (λ (l : List Call). v.history ++ entries.Collect l ∷ []) (sym fits.1)
takes v (entries.Peer id request reply) may =
    ap (λ (r : Option (List ℕ)). v.history ++ peer_entry id request r ∷ [])
    (peer_reply v request reply (fits_last v (entries.Peer id request reply) may))
takes v (entries.Off id request) may =
    ap (λ (r : Option (List ℕ)). v.history ++ peer_entry id request r ∷ [])
    (no_reply v request (fits_last v (entries.Off id request) may))
takes v (entries.Finish id result) may = refl

made_fixed : (v : ControllerIs) (due : Option ScanStep) → (made v due).fixed ≡ v.fixed
made_fixed v None = refl
made_fixed v (Some step) = refl

step_fixed : (v : ControllerIs) (same : Bool) → (followed_step v same).fixed ≡ v.fixed
step_fixed v true = let w : ControllerIs = record v { reserved = true } in made_fixed w (due_step w)
step_fixed v false = refl

pub fixed_stays : (v : ControllerIs) (e : Entry) (same : Bool) → (followed v e same).fixed ≡ v.fixed
fixed_stays v entries.Begin same = step_fixed v same
fixed_stays v (entries.Input row) same = step_fixed v same
fixed_stays v (entries.Solve row) same = step_fixed v same
fixed_stays v (entries.Output row words) same = step_fixed v same
fixed_stays v entries.End same = step_fixed v same
fixed_stays v entries.Fail same = step_fixed v same
fixed_stays v entries.Dark same = step_fixed v same
fixed_stays v (entries.Collect calls) same = either (has_started v)
  where
    either : (b : Bool) → (if b then collecting v else v).fixed ≡ v.fixed
    either true = refl
    either false = refl
fixed_stays v (entries.Peer id request reply) same = refl
fixed_stays v (entries.Off id request) same = refl
fixed_stays v (entries.Finish id result) true = refl
fixed_stays v (entries.Finish id result) false = refl

-- the same of whatever is answered
pub takes_ok : {E : Type 0} (v w : ControllerIs) (e : Entry) (r : Result Bool E)
    → IfOk r (λ same. w ≡ followed v e same)
    → IfOk r (λ same. (same ≡ true → MayFollow v e) × (MayFollow v e → same ≡ true))
    → IfOk r (λ same. same ≡ true → w.history ≡ v.history ++ e ∷ [])
takes_ok v w e (Ok same) state legal =
    λ yes. ap (λ (u : ControllerIs). u.history) (state ∙ ap (followed v e) yes)
    ∙ takes v e (legal.0 yes)
takes_ok v w e (Err x) state legal = tt

pub fixed_ok : {E : Type 0} (v w : ControllerIs) (e : Entry) (r : Result Bool E)
    → IfOk r (λ same. w ≡ followed v e same)
    → OnErr r (w ≡ v) → w.fixed ≡ v.fixed
fixed_ok v w e (Ok same) state err = ap (λ (u : ControllerIs). u.fixed) state ∙ fixed_stays v e same
fixed_ok v w e (Err x) state err = ap (λ (u : ControllerIs). u.fixed) err
