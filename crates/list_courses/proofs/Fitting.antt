-- Entries that fit those before them, and what a node has done.
use Rattle.std.proofs.Common.{◌≡◌, ℕ, ◌+◌, ◌<◌, Bool, true, false, List, [], ◌∷◌, ◌++◌, length}
use Rattle.std.proofs.Common.{get_or, take, drop, Option}
use Rattle.std.proofs.Common.{refl, sym, ap, subst, ◌∙◌, append_assoc, arith}
use Rattle.std.specs.Prelude.{◌||◌}
use Rattle.std.specs.List.{Contains, list_any}
use Rattle.std.proofs.Common.{suc}
use Rattle.std.proofs.lemmas.List.{same_from_push, length-append, take-append-drop, drop_more}
use Rattle.std.proofs.lemmas.List.{get_or_at}
use Rattle.std.proofs.lemmas.List.Folds.{list_any-append}
use Rattle.plant_types.specs.declared.net.HostPlan.{HostPlan}
use Rattle.ring_core.specs.declared.frame.FrameKind.{FrameKind}
use Rattle.ring_core.specs.declared.frame.FrameKind.TheVariants.{Request, Reply}
use Rattle.ring_core.specs.declared.frame.Frame.{Frame}
use Rattle.ring_core.specs.declared.entry.RingEntry.{RingEntry}
use Rattle.ring_core.specs.declared.entry.RingEntry.TheVariants.{Post, Send, Take, Local, GiveUp}
use Rattle.ring_core.specs.declared.entry.RingEntry.TheVariants.{Pass, Leave, Join}
use Rattle.ring_core.specs.declared.entry.LeaveCause.TheVariants.{Ended, Spent, Down}
use Rattle.tied_lists.specs.Items.{Items, latest_down, taken_by}
use Rattle.joint_history.specs.Complete.{AsksAllBeforeDone, AsksInItsHolds, IsOfDone}
use Rattle.joint_history.specs.Complete.{NoticesFailures, RepliesBeforePasses}
use Rattle.joint_history.specs.Complete.{StandsIn, StaysDone}
use Rattle.list_courses.specs.Completing.{AskFits, EachAllows, HasReplied, HostAllows, NodeAllows}
use Rattle.list_courses.specs.Completing.{given_in, is_ended, progress_of, says_done}
use Rattle.list_courses.proofs.Due.{due-counted}

-- the last of a list that isn't empty
last-split : (x : RingEntry) (xs : List RingEntry)
    → (front : List RingEntry) × (z : RingEntry) × (x ∷ xs ≡ front ++ z ∷ [])
last-split x [] = ([], x, refl)
last-split x (y ∷ ys) =
    let more = last-split y ys in (x ∷ more.0, more.1, ap (λ (l : List RingEntry). x ∷ l) more.2)

-- one entry more that fits
pub each-push : (P : List RingEntry → RingEntry → Type 0) (xs : List RingEntry) (e : RingEntry)
    → EachAllows P xs → P xs e → EachAllows P (xs ++ e ∷ [])
each-push P xs e each here before after e' is = at after is
  where
    at : (after : List RingEntry) → xs ++ e ∷ [] ≡ before ++ e' ∷ after → P before e'
    at [] is' =
        let two = same_from_push xs before e e' is' in
        subst (λ (x : RingEntry). P before x) two.1
        (subst (λ (l : List RingEntry). P l e) two.0 here)
    at (a ∷ as') is' =
        let last = last-split a as' in
        let whole : xs ++ e ∷ [] ≡ (before ++ e' ∷ last.0) ++ last.1 ∷ [] =
        is' ∙ (ap (λ (l : List RingEntry). before ++ e' ∷ l) last.2
        ∙ sym (append_assoc before (e' ∷ last.0) (last.1 ∷ []))) in
        each before last.0 e' (same_from_push xs (before ++ e' ∷ last.0) e last.1 whole).0

pub each-none : (P : List RingEntry → RingEntry → Type 0) → EachAllows P []
each-none P [] after e is = absurd cc
each-none P (b ∷ bs) after e is = absurd cc

-- some entry that said done
abbrev Said : List RingEntry → Type 0
Said xs =
    (before : List RingEntry) × (n : ℕ) × (words : List ℕ) × (after : List RingEntry)
    × (xs ≡ before ++ Pass n true words ∷ after)

said-later : (x : RingEntry) (xs : List RingEntry) → Said xs → Said (x ∷ xs)
said-later x xs more =
    (x ∷ more.0, more.1, more.2, more.3, ap (λ (l : List RingEntry). x ∷ l) more.4)

said-head : (x : RingEntry) (xs : List RingEntry) → (says_done x || list_any says_done xs) ≡ true
    → (list_any says_done xs ≡ true → Said xs) → Said (x ∷ xs)
said-head (Post n f) xs there rest = said-later (Post n f) xs (rest there)
said-head (Send n heard) xs there rest = said-later (Send n heard) xs (rest there)
said-head (Take n f) xs there rest = said-later (Take n f) xs (rest there)
said-head (Local n id op result) xs there rest = said-later (Local n id op result) xs (rest there)
said-head (GiveUp id word) xs there rest = said-later (GiveUp id word) xs (rest there)
said-head (Pass n true words) xs there rest = ([], n, words, xs, refl)
said-head (Pass n false words) xs there rest = said-later (Pass n false words) xs (rest there)
said-head (Leave n cause) xs there rest = said-later (Leave n cause) xs (rest there)
said-head (Join n) xs there rest = said-later (Join n) xs (rest there)

said-split : (xs : List RingEntry) → list_any says_done xs ≡ true → Said xs
said-split [] is = absurd (let no' : false ≡ true = is in cc)
said-split (x ∷ xs) is = said-head x xs is (said-split xs)

said-any : (before after : List RingEntry) (n : ℕ) (words : List ℕ)
    → list_any says_done (before ++ Pass n true words ∷ after) ≡ true
said-any before after n words =
    list_any-append says_done before (Pass n true words ∷ after)
    ∙ or-true (list_any says_done before)
  where
    or-true : (b : Bool) → (b || true) ≡ true
    or-true true = refl
    or-true false = refl

-- an item and what is around it
around : (xs : List RingEntry) (k : ℕ) (d : RingEntry) → k < length xs
    → xs ≡ take k xs ++ get_or xs k d ∷ drop (k + 1) xs
around xs k d low =
    sym (take-append-drop k xs) ∙ ap (λ (l : List RingEntry). take k xs ++ l)
    (drop_more xs k d low)

-- each entry of a node fits where it replies before its Passes, and stays done
pub replies-from : (items : Items) (b : List RingEntry)
    → EachAllows (NodeAllows (given_in items.answers)) b → RepliesBeforePasses items b
replies-from items b each before after n done words is =
    (each before after (Pass n done words) is).replied
    ∙ sym (due-counted (taken_by before) items.answers b)

pub done-from : (P : List Bool) (b : List RingEntry) → EachAllows (NodeAllows P) b
    → StaysDone b
done-from P b each before after n words is k d low =
    let e = get_or after k d in
    let whole : b ≡ (before ++ Pass n true words ∷ take k after) ++ e ∷ drop (k + 1) after =
    is ∙ (ap (λ (l : List RingEntry). before ++ Pass n true words ∷ l) (around after k d low)
    ∙ sym (append_assoc before (Pass n true words ∷ take k after) (e ∷ drop (k + 1) after))) in
    (each (before ++ Pass n true words ∷ take k after) (drop (k + 1) after) e whole).done
    (said-any before (take k after) n words)

replied-at : (items : Items) (b : List RingEntry) (before after : List RingEntry)
    → RepliesBeforePasses items b → (e : RingEntry) → StandsIn b before e after
    → HasReplied (progress_of (given_in items.answers) before) e
replied-at items b before after replies (Post n f) is = tt
replied-at items b before after replies (Send n heard) is = tt
replied-at items b before after replies (Take n f) is = tt
replied-at items b before after replies (Local n id op result) is = tt
replied-at items b before after replies (GiveUp id word) is = tt
replied-at items b before after replies (Pass n done words) is =
    replies before after n done words is
    ∙ due-counted (taken_by before) items.answers b
replied-at items b before after replies (Leave n cause) is = tt
replied-at items b before after replies (Join n) is = tt

done-at : (b : List RingEntry) (before after : List RingEntry) (e : RingEntry) → StaysDone b
    → StandsIn b before e after → list_any says_done before ≡ true → IsOfDone e
done-at b before after e stays is said =
    let s = said-split before said in
    let whole : b ≡ s.0 ++ Pass s.1 true s.2 ∷ (s.3 ++ e ∷ after) =
    is ∙ (ap (λ (l : List RingEntry). l ++ e ∷ after) s.4
    ∙ append_assoc s.0 (Pass s.1 true s.2 ∷ s.3) (e ∷ after)) in
    let all = stays s.0 (s.3 ++ e ∷ after) s.1 s.2 whole in
    let size = length-append s.3 (e ∷ after) in
    let one : length (e ∷ after) ≡ suc (length after) = refl in
    subst IsOfDone (get_or_at s.3 e after e (length s.3) refl)
    (all (length s.3) e (omega (arith, size, one)))

pub node-each : (items : Items) (b : List RingEntry) → RepliesBeforePasses items b → StaysDone b
    → EachAllows (NodeAllows (given_in items.answers)) b
node-each items b replies stays before after e is =
    record {
      replied = replied-at items b before after replies e is;
      done = done-at b before after e stays is;
    }

-- and each of a host where it asks in its holds, and all before it is done
pub holds-from : (plan : HostPlan) (b : List RingEntry) → EachAllows (HostAllows plan) b
    → AsksInItsHolds plan b
holds-from plan b each before after n f ask is request there =
    (subst (AskFits plan (progress_of [] before)) request (each before after (Post n f) is)) ask
    there

pub all-from : (plan : HostPlan) (b : List RingEntry) → EachAllows (HostAllows plan) b
    → AsksAllBeforeDone plan b
all-from plan b each before after n words is = each before after (Pass n true words) is refl

ask-at : (plan : HostPlan) (b before after : List RingEntry) (n : ℕ) (f : Frame)
    → AsksInItsHolds plan b → StandsIn b before (Post n f) after → (kind : FrameKind)
    → f.kind ≡ kind
    → AskFits plan (progress_of [] before) kind
ask-at plan b before after n f holds is Request kind =
    λ ask there. holds before after n f ask is kind there
ask-at plan b before after n f holds is Reply kind = tt

host-at : (plan : HostPlan) (b before after : List RingEntry) → AsksInItsHolds plan b
    → AsksAllBeforeDone plan b → (e : RingEntry) → StandsIn b before e after
    → HostAllows plan before e
host-at plan b before after holds all (Post n f) is =
    ask-at plan b before after n f holds is f.kind refl
host-at plan b before after holds all (Send n heard) is = tt
host-at plan b before after holds all (Take n f) is = tt
host-at plan b before after holds all (Local n id op result) is = tt
host-at plan b before after holds all (GiveUp id word) is = tt
host-at plan b before after holds all (Pass n true words) is = λ done. all before after n words is
host-at plan b before after holds all (Pass n false words) is =
    λ done. absurd (let no' : false ≡ true = done in cc)
host-at plan b before after holds all (Leave n cause) is = tt
host-at plan b before after holds all (Join n) is = tt

pub host-each : (plan : HostPlan) (b : List RingEntry) → AsksInItsHolds plan b
    → AsksAllBeforeDone plan b → EachAllows (HostAllows plan) b
host-each plan b holds all before after e is = host-at plan b before after holds all e is

-- a list that has a Leave as all was done
pub any-ended : (front : List RingEntry) (e : RingEntry) (rest : List RingEntry)
    → is_ended e ≡ true → list_any is_ended (front ++ e ∷ rest) ≡ true
any-ended front e rest is =
    list_any-append is_ended front (e ∷ rest)
    ∙ (ap (λ b. list_any is_ended front || (b || list_any is_ended rest)) is
    ∙ or-true (list_any is_ended front))
  where
    or-true : (b : Bool) → (b || true) ≡ true
    or-true true = refl
    or-true false = refl

ended-any : (b : List RingEntry) (n : ℕ) → Contains b (Leave n Ended) → list_any is_ended b ≡ true
ended-any b n there =
    let whole : b ≡ take there.0 b ++ Leave n Ended ∷ drop (there.0 + 1) b =
    around b there.0 (Leave n Ended) there.1
    ∙ ap (λ (e : RingEntry). take there.0 b ++ e ∷ drop (there.0 + 1) b) there.2 in
    ap (list_any is_ended) whole
    ∙ any-ended (take there.0 b) (Leave n Ended) (drop (there.0 + 1) b) refl

-- some entry that left as all was done
abbrev HasEnded : List RingEntry → Type 0
HasEnded b = (n : ℕ) × Contains b (Leave n Ended)

ended-later : (x : RingEntry) (xs : List RingEntry) → HasEnded xs → HasEnded (x ∷ xs)
ended-later x xs more = (more.0, (suc more.1.0, let low = more.1.1 in omega (arith, low), more.1.2))

ended-head : (x : RingEntry) (xs : List RingEntry) → (is_ended x || list_any is_ended xs) ≡ true
    → (list_any is_ended xs ≡ true → HasEnded xs) → HasEnded (x ∷ xs)
ended-head (Post n f) xs there rest = ended-later (Post n f) xs (rest there)
ended-head (Send n heard) xs there rest = ended-later (Send n heard) xs (rest there)
ended-head (Take n f) xs there rest = ended-later (Take n f) xs (rest there)
ended-head (Local n id op result) xs there rest =
    ended-later (Local n id op result) xs (rest there)
ended-head (GiveUp id word) xs there rest = ended-later (GiveUp id word) xs (rest there)
ended-head (Pass n done words) xs there rest = ended-later (Pass n done words) xs (rest there)
ended-head (Leave n Ended) xs there rest = (n, (0, omega arith, refl))
ended-head (Leave n Spent) xs there rest = ended-later (Leave n Spent) xs (rest there)
ended-head (Leave n (Down number)) xs there rest =
    ended-later (Leave n (Down number)) xs (rest there)
ended-head (Join n) xs there rest = ended-later (Join n) xs (rest there)

ended-split : (b : List RingEntry) → list_any is_ended b ≡ true → HasEnded b
ended-split [] is = absurd (let no' : false ≡ true = is in cc)
ended-split (x ∷ xs) is = ended-head x xs is (ended-split xs)

-- a node that has ended noticed so many failures
pub noticed-from : (items : Items) (fails : ℕ) (b : List RingEntry) → items.fails ≡ fails
    → (list_any is_ended b ≡ true → fails ≡ latest_down b) → NoticesFailures items b
noticed-from items fails b count notices n there = count ∙ notices (ended-any b n there)

pub notices-ended : (items : Items) (fails : ℕ) (b : List RingEntry) → items.fails ≡ fails
    → NoticesFailures items b → list_any is_ended b ≡ true → fails ≡ latest_down b
notices-ended items fails b count notices is =
    let ended = ended-split b is in sym count ∙ notices ended.0 ended.1
