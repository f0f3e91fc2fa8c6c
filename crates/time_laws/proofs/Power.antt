-- What a controller's list notes of its power, and what events of the scan leave.
use Rattle.std.proofs.Common.{◌≡◌, ℕ, ◌+◌, ◌≤◌, Bool, true, false, not, List, [], ◌∷◌, ◌++◌}
use Rattle.std.proofs.Common.{map, fold, Option, Some, None, refl, sym, ap, ◌∙◌, subst, arith}
use Rattle.std.specs.Prelude.{max, if◌then◌else◌}
use Rattle.std.proofs.Math.Nat.{le-max_left, le-max_right}
use Rattle.plant_types.specs.declared.drops.IoDrop.{IoDrop}
use Rattle.plant_types.specs.declared.network.Segment.{Segment}
use Rattle.plant_types.specs.declared.plan.OrderRow.{OrderRow}
use Rattle.scan_order.specs.Due.{row_of}
use Rattle.controller_core.specs.declared.call.Call.{Call}
use Rattle.controller_core.specs.declared.call.CallKind.{CallKind}
use Rattle.controller_core.specs.declared.call.CallKind.TheVariants as call_kinds
use Rattle.controller_core.specs.declared.entry.Entry.{Entry}
use Rattle.controller_core.specs.declared.entry.Entry.TheVariants as entries
use Rattle.controller_core.specs.declared.fixed.Fixed.{Fixed}
use Rattle.controller_core.specs.Replay.{ControllerState, apply, control_is_on, read_in, replay}
use Rattle.controller_core.specs.Replay.{segment_solved, solved, start}
use Rattle.comm_port.specs.JointHistory.{failures_at, is_off_at, is_ours, item_next, items_after}
use Rattle.comm_port.specs.JointHistory.{items_of}
use Rattle.comm_port.proofs.JointHistory.{failures-are}
use Rattle.tied_lists.specs.Items.{Items, no_items}
use Rattle.one_order.specs.Merges.{tally}
use Rattle.one_order.proofs.Merges.{Allows}
use Rattle.entry_causes.specs.Causes.{Noting, Asks, AsksPort, Serves}
use Rattle.entry_causes.specs.Causes.{Declines, Ends, Fails, HasPower}
use Rattle.entry_causes.specs.Causes.{Noted, Done, AreCaused, asking}
use Rattle.entry_causes.specs.Causes.{asking_of, deed, no_notes, note_entry}
use Rattle.entry_causes.specs.Causes.{noted_next, notings, ready}

-- ---- events of the scan note of power alone

pub record MoreNotes (s t : Noted) : Type 0 where
  pub asked : t.asked ≡ s.asked
  pub asked_port : t.asked_port ≡ s.asked_port
  pub served : t.served ≡ s.served
  pub answers : t.answers ≡ s.answers
  pub ended : t.ended ≡ s.ended
  pub failed : s.failed ≤ t.failed
  pub returned : s.returned ≤ t.returned

pub more-same : (s : Noted) → MoreNotes s s
more-same s = record {
  asked = refl;
  asked_port = refl;
  served = refl;
  answers = refl;
  ended = refl;
  failed = omega arith;
  returned = omega arith;
}

more-caused : (s t : Noted) (d : Done) → MoreNotes s t → AreCaused s d → AreCaused t d
more-caused s t d m f = record {
  posts = let a = m.asked in let b = f.posts in omega (arith, a, b);
  port_works = let a = m.asked_port in let b = f.port_works in omega (arith, a, b);
  answers = let a = m.served in let b = f.answers in omega (arith, a, b);
  port_answers = f.port_answers;
  replies = subst (λ (l : List Bool). d.replies ≤ ready d.requests l d.answered_port)
      (sym m.answers) f.replies;
  ends = let a = m.ended in let b = f.ends in omega (arith, a, b);
  downs = let a = m.failed in let b = f.downs in omega (arith, a, b);
  joins = let a = m.returned in let b = f.joins in omega (arith, a, b);
}

more-next : (s t : Noted) (x : Noting) → MoreNotes s t → MoreNotes (noted_next s x) (noted_next t x)
more-next s t Asks m = record {
  asked = ap (λ (k : ℕ). k + 1) m.asked;
  asked_port = m.asked_port;
  served = m.served;
  answers = m.answers;
  ended = m.ended;
  failed = m.failed;
  returned = m.returned;
}
more-next s t AsksPort m = record {
  asked = m.asked;
  asked_port = ap (λ (k : ℕ). k + 1) m.asked_port;
  served = m.served;
  answers = m.answers;
  ended = m.ended;
  failed = m.failed;
  returned = m.returned;
}
more-next s t Serves m = record {
  asked = m.asked;
  asked_port = m.asked_port;
  served = ap (λ (k : ℕ). k + 1) m.served;
  answers = ap (λ (l : List Bool). l ++ true ∷ []) m.answers;
  ended = m.ended;
  failed = m.failed;
  returned = m.returned;
}
more-next s t Declines m = record {
  asked = m.asked;
  asked_port = m.asked_port;
  served = ap (λ (k : ℕ). k + 1) m.served;
  answers = ap (λ (l : List Bool). l ++ false ∷ []) m.answers;
  ended = m.ended;
  failed = m.failed;
  returned = m.returned;
}
more-next s t Ends m = record {
  asked = m.asked;
  asked_port = m.asked_port;
  served = m.served;
  answers = m.answers;
  ended = ap (λ (k : ℕ). k + 1) m.ended;
  failed = m.failed;
  returned = m.returned;
}
more-next s t Fails m = record {
  asked = m.asked;
  asked_port = m.asked_port;
  served = m.served;
  answers = m.answers;
  ended = m.ended;
  failed = let a = m.failed in omega (arith, a);
  returned = m.returned;
}
more-next s t HasPower m = record {
  asked = m.asked;
  asked_port = m.asked_port;
  served = m.served;
  answers = m.answers;
  ended = m.ended;
  failed = m.failed;
  returned = let a = m.failed in let b = m.returned in omega (arith, a, b);
}

more-tally : (s t : Noted) (xs : List Noting) → MoreNotes s t
    → MoreNotes (tally noted_next s xs) (tally noted_next t xs)
more-tally s t [] m = m
more-tally s t (x ∷ xs) m = more-tally (noted_next s x) (noted_next t x) xs (more-next s t x m)

more-others : (s t : Noted) (e : Entry) → is_ours e ≡ false → MoreNotes s t
    → MoreNotes s (note_entry t e)
more-others s t entries.Begin q m = record {
  asked = m.asked;
  asked_port = m.asked_port;
  served = m.served;
  answers = m.answers;
  ended = m.ended;
  failed = m.failed;
  returned = let a = m.returned in let b = le-max_left t.returned t.failed in omega (arith, a, b);
}
more-others s t (entries.Input row) q m = m
more-others s t (entries.Solve row) q m = m
more-others s t (entries.Output row words) q m = m
more-others s t entries.End q m = m
more-others s t entries.Fail q m = record {
  asked = m.asked;
  asked_port = m.asked_port;
  served = m.served;
  answers = m.answers;
  ended = m.ended;
  failed = let a = m.failed in omega (arith, a);
  returned = m.returned;
}
more-others s t entries.Dark q m = m
more-others s t (entries.Collect calls) q m = absurd (cc)
more-others s t (entries.Peer id request reply) q m = absurd (cc)
more-others s t (entries.Off id request) q m = absurd (cc)
more-others s t (entries.Finish id result) q m = absurd (cc)

pub scans-allow : Allows note_entry deed AreCaused is_ours MoreNotes
scans-allow = record {
  caused = more-caused;
  by_ours = λ s t e ours m. more-tally s t (notings e) m;
  by_others = more-others;
}

-- ---- how often power failed, and whether there is power

asked-power : (s : Noted) (calls : List Call)
    → ((tally noted_next s (map asking_of calls)).failed ≡ s.failed)
    × ((tally noted_next s (map asking_of calls)).returned ≡ s.returned)
asked-power s [] = (refl, refl)
asked-power s (call ∷ calls) = by (λ (t : Noted). asked-power t calls) call.kind
  where
    by : ((t : Noted) → ((tally noted_next t (map asking_of calls)).failed ≡ t.failed)
        × ((tally noted_next t (map asking_of calls)).returned ≡ t.returned)) → (kind : CallKind)
        → ((tally noted_next (noted_next s (asking kind))
        (map asking_of calls)).failed ≡ s.failed)
        × ((tally noted_next (noted_next s (asking kind))
        (map asking_of calls)).returned ≡ s.returned)
    by rest (call_kinds.Net route pdu) = rest (noted_next s Asks)
    by rest (call_kinds.Local op) = rest (noted_next s AsksPort)

fails-next : (s : Noted) (a : Items) (e : Entry) → s.failed ≡ a.fails
    → (note_entry s e).failed ≡ (item_next a e).fails
fails-next s a entries.Begin same = same
fails-next s a (entries.Input row) same = same
fails-next s a (entries.Solve row) same = same
fails-next s a (entries.Output row words) same = same
fails-next s a entries.End same = same
fails-next s a entries.Fail same = ap (λ (n : ℕ). n + 1) same
fails-next s a entries.Dark same = same
fails-next s a (entries.Collect calls) same = (asked-power s calls).0 ∙ same
fails-next s a (entries.Peer id request reply) same = same
fails-next s a (entries.Off id request) same = same
fails-next s a (entries.Finish id result) same = same

fails-after : (s : Noted) (a : Items) (h : List Entry) → s.failed ≡ a.fails
    → (tally note_entry s h).failed ≡ (items_after a h).fails
fails-after s a [] same = same
fails-after s a (e ∷ h) same =
    fails-after (note_entry s e) (item_next a e) h (fails-next s a e same)

pub fails-noted : (f : Fixed) (h : List Entry)
    → (tally note_entry no_notes h).failed ≡ failures_at f h
fails-noted f h = fails-after no_notes no_items h refl ∙ sym (failures-are f h)

reads-keep : (drops : List IoDrop) (drop : Option ℕ) (s : ControllerState)
    → (read_in drops drop s).powered ≡ s.powered
reads-keep drops None s = refl
reads-keep drops (Some drop) s = refl

solves-keep : (segments : List Segment) (row : Option OrderRow) (s : ControllerState)
    → (solved segments row s).powered ≡ s.powered
solves-keep segments None s = refl
solves-keep segments (Some row) s = either (control_is_on s.solving.map row.control)
  where
    either : (b : Bool)
        → (if b then segment_solved segments row.segment s else s).powered ≡ s.powered
    either true = refl
    either false = refl

-- where there is power all failures are over
abbrev IsOver : ControllerState → Noted → Type 0
IsOver st s = st.powered ≡ true → s.failed ≤ s.returned

power-next : (f : Fixed) (st : ControllerState) (s : Noted) (e : Entry) → IsOver st s
    → IsOver (apply f st e) (note_entry s e)
power-next f st s entries.Begin o = λ on. le-max_right s.returned s.failed
power-next f st s (entries.Input row) o = λ on. o (sym (reads-keep f.plan.drops _ st) ∙ on)
power-next f st s (entries.Solve row) o =
    λ on. o (sym (solves-keep f.plan.segments (row_of f.plan row) st) ∙ on)
power-next f st s (entries.Output row words) o = o
power-next f st s entries.End o = o
power-next f st s entries.Fail o = λ on. absurd (let bad : false ≡ true = on in cc)
power-next f st s entries.Dark o = o
power-next f st s (entries.Collect calls) o =
    λ on. let k = asked-power s calls in let a = k.0 in let b = k.1 in let c = o on in
    omega (arith, a, b, c)
power-next f st s (entries.Peer id request reply) o = o
power-next f st s (entries.Off id request) o = o
power-next f st s (entries.Finish id result) o = o

power-after : (f : Fixed) (st : ControllerState) (s : Noted) (h : List Entry) → IsOver st s
    → IsOver (fold (apply f) st h) (tally note_entry s h)
power-after f st s [] o = o
power-after f st s (e ∷ h) o =
    power-after f (apply f st e) (note_entry s e) h (power-next f st s e o)

on-again : (b : Bool) → not b ≡ false → b ≡ true
on-again true e = refl
on-again false e = absurd (let bad : true ≡ false = e in cc)

pub power-noted : (f : Fixed) (h : List Entry) → is_off_at f h ≡ false
    → (tally note_entry no_notes h).failed ≤ (tally note_entry no_notes h).returned
power-noted f h on =
    power-after f (start f.plan) no_notes h (λ _. omega arith)
    (on-again (replay f h).powered on)
