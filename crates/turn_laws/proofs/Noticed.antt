-- What a controller's list answers as it goes on, and the failures that its node noticed.
use Rattle.std.proofs.Common.{◌≡◌, ℕ, zero, suc, ◌≤◌, true, false}
use Rattle.std.proofs.Common.{List, [], ◌∷◌, ◌++◌, Some, None, inl, inr}
use Rattle.std.proofs.Common.{refl, sym, ap, subst, ◌∙◌, arith, append_assoc, append-nil}
use Rattle.std.specs.List.{Contains, AllByRecursion as Each}
use Rattle.std.proofs.lemmas.List.Elements.{Contains-append_cases}
use Rattle.ring_core.specs.declared.entry.LeaveCause.TheVariants.{Ended}
use Rattle.ring_core.specs.declared.entry.RingEntry.{RingEntry}
use Rattle.ring_core.specs.declared.entry.RingEntry.TheVariants.{Post, Send, Take, Local, GiveUp}
use Rattle.ring_core.specs.declared.entry.RingEntry.TheVariants.{Pass, Leave, Join}
use Rattle.controller_core.specs.declared.entry.Entry.{Entry}
use Rattle.controller_core.specs.declared.entry.Entry.TheVariants as entries
use Rattle.controller_core.specs.declared.fixed.Fixed.{Fixed}
use Rattle.controller_core.specs.Controller.{IsLegal}
use Rattle.tied_lists.specs.Items.{AController, Answered, Items}
use Rattle.tied_lists.specs.Items.{no_items}
use Rattle.tied_lists.specs.Items.{down_of, downs_by, last_from, latest_down}
use Rattle.tied_lists.specs.Tied.{Tied}
use Rattle.joint_history.specs.Reading.{answered_here, item_next, items_after, items_of}
use Rattle.comm_port.proofs.Downs.{latest-more, no-downs}
use Rattle.turn_laws.specs.KeepsOn.{EndedNoticed}
use Rattle.turn_laws.proofs.Passes.{AnswersMore, IsInner}
use Rattle.turn_laws.proofs.Passes.{is_last}
use Rattle.turn_laws.proofs.Rests.{ended-goes}
use Rattle.turn_laws.proofs.Rests.{items-join}

-- the answers of a list that goes on
answers-after : (a : Items) (h : List Entry) → AnswersMore a (items_after a h)
answers-after a [] = record { more = []; is = sym (append-nil a.answers) }
answers-after a (entries.Begin ∷ h) = answers-after a h
answers-after a (entries.Input row ∷ h) = answers-after a h
answers-after a (entries.Solve row ∷ h) = answers-after a h
answers-after a (entries.Output row words ∷ h) = answers-after a h
answers-after a (entries.End ∷ h) = answers-after a h
answers-after a (entries.Fail ∷ h) =
    let rest = answers-after (item_next a entries.Fail) h in
    record { more = rest.more; is = rest.is }
answers-after a (entries.Dark ∷ h) = answers-after a h
answers-after a (entries.Collect calls ∷ h) =
    let rest = answers-after (item_next a (entries.Collect calls)) h in
    record { more = rest.more; is = rest.is }
answers-after a (entries.Peer id request reply ∷ h) =
    let answer : Answered = answered_here id request (Some reply) in
    let rest = answers-after (item_next a (entries.Peer id request reply)) h in
    record {
      more = answer ∷ rest.more;
      is = rest.is ∙ append_assoc a.answers (answer ∷ []) rest.more;
    }
answers-after a (entries.Off id request ∷ h) =
    let answer : Answered = answered_here id request None in
    let rest = answers-after (item_next a (entries.Off id request)) h in
    record {
      more = answer ∷ rest.more;
      is = rest.is ∙ append_assoc a.answers (answer ∷ []) rest.more;
    }
answers-after a (entries.Finish id result ∷ h) =
    let rest = answers-after (item_next a (entries.Finish id result)) h in
    record { more = rest.more; is = rest.is }

pub answers-more : (h more : List Entry) → AnswersMore (items_of h) (items_of (h ++ more))
answers-more h more =
    subst (AnswersMore (items_of h)) (sym (items-join no_items h more))
    (answers-after (items_of h) more)

-- entries by which no node goes down
abbrev pub IsNoDown : RingEntry → Type 0
IsNoDown e = down_of e ≡ None

pub inner-down : (e : RingEntry) → IsInner e → IsNoDown e
inner-down (Post n f) inner = refl
inner-down (Send n heard) inner = refl
inner-down (Take n f) inner = refl
inner-down (Local n id op result) inner = refl
inner-down (GiveUp id word) inner = refl
inner-down (Pass n done words) inner = refl
inner-down (Leave n cause) inner = absurd (let no' : true ≡ false = inner in cc)
inner-down (Join n) inner = refl

pub inner-apart : (m : ℕ) (c : List RingEntry) → Each IsInner c → Contains c (Leave m Ended) → ⊥
inner-apart m [] inner is = omega (arith, is.1)
inner-apart m (e ∷ c) inner is = elim (Contains-append_cases (e ∷ []) c (Leave m Ended) is) [
  | inl here ↦ one here
  | inr later ↦ inner-apart m c inner.1 later
]
  where
    one : Contains (e ∷ []) (Leave m Ended) → ⊥
    one (zero, _, same) = let no' : true ≡ false = sym (ap is_last same) ∙ inner.0 in cc
    one (suc k, low, same) = omega (arith, low)

-- what is said of the two lists once the node left as all was done
pub noticed-on : (fixed : Fixed) (h more : List Entry) (b c : List RingEntry)
    → IsLegal fixed (h ++ more) → Each IsNoDown c → EndedNoticed fixed h b
    → EndedNoticed fixed (h ++ more) (b ++ c)
noticed-on fixed h more b c legal none e =
    let goes = ended-goes fixed h more legal e.ended in
    record {
      ended = goes.ended;
      noticed = goes.fails ∙ e.noticed
          ∙ sym (latest-more b c ∙ ap (last_from (latest_down b)) (no-downs c none));
    }

-- no Down has a number above that of the failures
last-few : (most now : ℕ) (ks : List ℕ) → now ≤ most → Each (λ (k : ℕ). k ≤ most) ks
    → last_from now ks ≤ most
last-few most now [] low all = low
last-few most now (k ∷ ks) low all = last-few most k ks all.0 all.1

pub latest-few : (h : List Entry) (b : List RingEntry) → Tied AController (items_of h) b
    → latest_down b ≤ (items_of h).fails
latest-few h b t = last-few (items_of h).fails 0 (downs_by b) (omega arith) t.downs.1
