-- What a node has done, as its entries go on.
use Rattle.std.proofs.Common.{◌≡◌, ℕ, suc, ◌+◌, ◌<◌, ◌≤◌, ◌^◌, Bool, true, false, List, [], ◌∷◌}
use Rattle.std.proofs.Common.{◌++◌, length, cond}
use Rattle.std.proofs.Common.{refl, sym, ap, subst, ◌∙◌, arith, count_by, Option, Some, None}
use Rattle.std.specs.Prelude.{◌||◌}
use Rattle.std.specs.List.{cons_option, filter_map, list_any}
use Rattle.std.proofs.Common.{take}
use Rattle.std.proofs.lemmas.List.{length-append, length-map, length-take}
use Rattle.std.proofs.lemmas.List.Folds.{list_any-append}
use Rattle.std.proofs.lemmas.List.Sums.{sum_by_push}
use Rattle.ring_core.specs.declared.frame.FrameKind.{FrameKind}
use Rattle.ring_core.specs.declared.frame.FrameKind.TheVariants.{Request, Reply}
use Rattle.ring_core.specs.declared.frame.Frame.{Frame}
use Rattle.ring_core.specs.declared.entry.RingEntry.{RingEntry}
use Rattle.ring_core.specs.declared.entry.RingEntry.TheVariants.{Post, Send, Take, Local, GiveUp}
use Rattle.ring_core.specs.declared.entry.RingEntry.TheVariants.{Pass, Leave, Join}
use Rattle.tied_lists.specs.Items.{Asked, Item, Taken, asked_by, asked_in, asked_of, replied_by}
use Rattle.tied_lists.specs.Items.{replied_in, replied_of, taken_by, taken_in, taken_of}
use Rattle.tied_lists.proofs.Boxes.{at-most-one, count-cons}
use Rattle.joint_history.specs.Complete.{is_pass}
use Rattle.list_courses.specs.Completing.{IsShort, due_count, left_given, posted_next}
use Rattle.list_courses.specs.Completing.{progress_next, progress_of, says_done}
use Rattle.list_courses.specs.declared.completing.Progress.{Progress}
use Rattle.station_laws.specs.Picked.{entry_at, picked}
use Rattle.list_courses.proofs.Due.{due_count-append, due-few, left_given-append}
use Rattle.station_laws.proofs.Lists.{filter_map-push}

size-push : {Y : Type 0} (f : RingEntry → Option Y) (b : List RingEntry) (e : RingEntry)
    (o : Option Y) → f e ≡ o
    → length (filter_map f (b ++ e ∷ [])) ≡ length (filter_map f b) + length (cons_option o [])
size-push f b e o is =
    ap length (filter_map-push f b e) ∙ (length-append (filter_map f b) (cons_option (f e) [])
    ∙ ap (λ (x : Option _). length (filter_map f b) + length (cons_option x [])) is)

same-progress : (p q : Progress) → p.passes ≡ q.passes → p.asked ≡ q.asked → p.replied ≡ q.replied
    → p.due ≡ q.due → p.is_done ≡ q.is_done → p ≡ q
same-progress p q a b c d e =
    λ i. record { passes = a i; asked = b i; replied = c i; due = d i; is_done = e i }

passes-push : (b : List RingEntry) (e : RingEntry)
    → count_by is_pass (b ++ e ∷ []) ≡ count_by is_pass b + cond (is_pass e) 1 0
passes-push b e = sum_by_push (λ y. cond (is_pass y) 1 0) b e

done-push : (b : List RingEntry) (e : RingEntry)
    → list_any says_done (b ++ e ∷ []) ≡ (list_any says_done b || (says_done e || false))
done-push b e = list_any-append says_done b (e ∷ [])

plus-none : (n : ℕ) → n + 0 ≡ n
plus-none n = omega arith

or-none : (b : Bool) → (b || (false || false)) ≡ b
or-none true = refl
or-none false = refl

or-one : (b c : Bool) → (b || (c || false)) ≡ (b || c)
or-one true c = refl
or-one false true = refl
or-one false false = refl

-- one entry more makes so many Replies due
due-push : (P : List Bool) (b : List RingEntry) (e : RingEntry) (o : Option Taken)
    → taken_of e ≡ o → due_count (taken_by (b ++ e ∷ [])) P
    ≡ due_count (taken_by b) P + due_count (cons_option o []) (left_given (taken_by b) P)
due-push P b e o is =
    ap (λ (ts : List Taken). due_count ts P) (filter_map-push taken_of b e)
    ∙ (due_count-append (taken_by b) (cons_option (taken_of e) []) P
    ∙ ap (λ (x : Option Taken). due_count (taken_by b) P
    + due_count (cons_option x []) (left_given (taken_by b) P)) is)

-- an entry that counts so much
record Counts (P : List Bool) (q : Progress) (b : List RingEntry) (e : RingEntry)
    : Type 0 where
  passes : count_by is_pass b + cond (is_pass e) 1 0 ≡ q.passes
  asked : (o : Option Asked) × (asked_of e ≡ o)
      × (length (asked_by b) + length (cons_option o []) ≡ q.asked)
  replied : (o : Option Item) × (replied_of e ≡ o)
      × (length (replied_by b) + length (cons_option o []) ≡ q.replied)
  due : (o : Option Taken) × (taken_of e ≡ o)
      × (due_count (taken_by b) P + due_count (cons_option o []) (left_given (taken_by b) P)
      ≡ q.due)
  done : (list_any says_done b || (says_done e || false)) ≡ q.is_done

counted : (P : List Bool) (b : List RingEntry) (e : RingEntry) (q : Progress)
    → Counts P q b e → progress_of P (b ++ e ∷ []) ≡ q
counted P b e q c = same-progress (progress_of P (b ++ e ∷ [])) q
    (passes-push b e ∙ c.passes)
    (size-push asked_of b e c.asked.0 c.asked.1 ∙ c.asked.2)
    (size-push replied_of b e c.replied.0 c.replied.1 ∙ c.replied.2)
    (due-push P b e c.due.0 c.due.1 ∙ c.due.2)
    (done-push b e ∙ c.done)

posted-push : (P : List Bool) (b : List RingEntry) (n : ℕ) (f : Frame)
    (kind : FrameKind) → f.kind ≡ kind
    → progress_of P (b ++ Post n f ∷ []) ≡ posted_next (progress_of P b) kind
posted-push P b n f Request is = counted P b (Post n f) _ (record {
  passes = plus-none (count_by is_pass b);
  asked = (Some _, ap (λ k. asked_in k f) is, refl);
  replied = (None, ap (λ k. replied_in k f) is, plus-none (length (replied_by b)));
  due = (None, refl, plus-none (due_count (taken_by b) P));
  done = or-none (list_any says_done b);
})
posted-push P b n f Reply is = counted P b (Post n f) _ (record {
  passes = plus-none (count_by is_pass b);
  asked = (None, ap (λ k. asked_in k f) is, plus-none (length (asked_by b)));
  replied = (Some _, ap (λ k. replied_in k f) is, refl);
  due = (None, refl, plus-none (due_count (taken_by b) P));
  done = or-none (list_any says_done b);
})

taken-push : (P : List Bool) (b : List RingEntry) (n : ℕ) (f : Frame)
    → progress_of P (b ++ Take n f ∷ [])
    ≡ progress_next (left_given (taken_by b) P) (progress_of P b) (Take n f)
taken-push P b n f = counted P b (Take n f) _ (record {
  passes = plus-none (count_by is_pass b);
  asked = (None, refl, plus-none (length (asked_by b)));
  replied = (None, refl, plus-none (length (replied_by b)));
  due = (taken_in f.kind f, refl, refl);
  done = or-none (list_any says_done b);
})

-- an entry that counts nothing
quiet-push : (P : List Bool) (b : List RingEntry) (e : RingEntry) → is_pass e ≡ false
    → asked_of e ≡ None → replied_of e ≡ None → taken_of e ≡ None → says_done e ≡ false
    → progress_of P (b ++ e ∷ []) ≡ progress_of P b
quiet-push P b e no-pass no-ask no-reply no-take no-done =
    counted P b e (progress_of P b) (record {
      passes = ap (λ x. count_by is_pass b + cond x 1 0) no-pass
          ∙ plus-none (count_by is_pass b);
      asked = (None, no-ask, plus-none (length (asked_by b)));
      replied = (None, no-reply, plus-none (length (replied_by b)));
      due = (None, no-take, plus-none (due_count (taken_by b) P));
      done = ap (λ x. list_any says_done b || (x || false)) no-done
          ∙ or-none (list_any says_done b);
    })

pub progress-push : (P : List Bool) (b : List RingEntry) (e : RingEntry)
    → progress_of P (b ++ e ∷ [])
    ≡ progress_next (left_given (taken_by b) P) (progress_of P b) e
progress-push P b (Post n f) = posted-push P b n f f.kind refl
progress-push P b (Send n heard) = quiet-push P b (Send n heard) refl refl refl refl refl
progress-push P b (Take n f) = taken-push P b n f
progress-push P b (Local n id op result) =
    quiet-push P b (Local n id op result) refl refl refl refl refl
progress-push P b (GiveUp id word) = quiet-push P b (GiveUp id word) refl refl refl refl refl
progress-push P b (Pass n done words) = counted P b (Pass n done words) _ (record {
  passes = refl;
  asked = (None, refl, plus-none (length (asked_by b)));
  replied = (None, refl, plus-none (length (replied_by b)));
  due = (None, refl, plus-none (due_count (taken_by b) P));
  done = or-one (list_any says_done b) done;
})
progress-push P b (Leave n cause) = quiet-push P b (Leave n cause) refl refl refl refl refl
progress-push P b (Join n) = quiet-push P b (Join n) refl refl refl refl refl

-- what is left of the answers behind one entry more
pub left-push : (P : List Bool) (b : List RingEntry) (e : RingEntry)
    → left_given (taken_by (b ++ e ∷ [])) P
    ≡ left_given (cons_option (taken_of e) []) (left_given (taken_by b) P)
left-push P b e =
    ap (λ (ts : List Taken). left_given ts P) (filter_map-push taken_of b e)
    ∙ left_given-append (taken_by b) (cons_option (taken_of e) []) P

-- counts of few entries can go on
size-few : {Y : Type 0} (f : RingEntry → Option Y) (b : List RingEntry)
    → length (filter_map f b) ≤ length b
size-few f [] = omega arith
size-few f (e ∷ es) = at (f e) (size-few f es)
  where
    at : (o : Option _) → length (filter_map f es) ≤ length es
        → length (cons_option o (filter_map f es)) ≤ suc (length es)
    at None low = omega arith
    at (Some y) low = omega arith

count-few : (b : List RingEntry) → count_by is_pass b ≤ length b
count-few [] = omega arith
count-few (e ∷ es) =
    let c = count-cons is_pass e es in let one = at-most-one (is_pass e) in
    let low = count-few es in omega (arith, c, one, low)

pub few-short : (P : List Bool) (b : List RingEntry) → length b + 1 < 2 ^ 64
    → IsShort (progress_of P b)
few-short P b low =
    let passes = count-few b in
    let asked = size-few asked_of b in
    let replied = size-few replied_of b in
    let taken = size-few taken_of b in
    let due = due-few (taken_by b) P in
    record {
      passes = omega arith;
      asked = omega arith;
      replied = omega arith;
      due = omega arith;
    }

pub progress-short : (P : List Bool) (ring : List RingEntry) (places : List ℕ)
    (i : ℕ) (p : Progress) → p ≡ progress_of P (picked ring (take i places)) → i + 1 < 2 ^ 64
    → IsShort p
progress-short P ring places i p is low =
    let size : length (picked ring (take i places)) ≤ i =
    let a = length-map (take i places) (entry_at ring) in
    let b = length-take i places in
    omega (arith, a, b) in
    subst IsShort (sym is) (few-short P (picked ring (take i places)) (omega arith))
