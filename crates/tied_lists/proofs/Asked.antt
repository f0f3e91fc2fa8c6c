-- What a node's own list has asked, and what its paths wait for.
use Rattle.std.proofs.Common.{◌≡◌, ◌≢◌, ℕ, ◌==◌, ◌&&◌, Bool, true, false, cond, List, [], ◌∷◌}
use Rattle.std.proofs.Common.{◌++◌, Option, Some, None, refl, sym}
use Rattle.std.proofs.Common.{ap, ◌∙◌, subst, ⊎_elim}
use Rattle.std.specs.List.{cons_option}
use Rattle.std.proofs.lemmas.Bool.{eq-eqb, ne_eqb, cases_eq, cond-true}
use Rattle.std.proofs.lemmas.Bool.{cond-false}
use Rattle.ring_core.specs.Words.{is_same_call}
use Rattle.tied_lists.specs.Words.{CallId, FrameKind, Request, Reply, Frame, RingEntry, Post, Send}
use Rattle.tied_lists.specs.Words.{Take, Local, GiveUp, Pass, Leave, Join}
use Rattle.tied_lists.specs.Items.{asked_in, asked_of, asked_by, or_some, last_asked, Called}
use Rattle.tied_lists.specs.Items.{Ended, Kind, kind_in, kind_of_sort}
use Rattle.tied_lists.specs.Calls.{NoEnd}
use Rattle.tied_lists.specs.Waits.{waits_posted, waits_taken, waits_after, waiting}

-- two names
pub same-refl : (a : CallId) → is_same_call a a ≡ true
same-refl a =
    λ i. eq-eqb a.node a.node refl i && (eq-eqb a.path a.path refl i && eq-eqb a.seq a.seq refl i)

pub other-path : (a b : CallId) → a.path ≢ b.path → is_same_call a b ≡ false
other-path a b other =
    and-false (a.node == b.node) (a.path == b.path) (a.seq == b.seq) (ne_eqb a.path b.path other)
  where
    and-false : (x y z : Bool) → y ≡ false → (x && (y && z)) ≡ false
    and-false true true z e = absurd (cc)
    and-false true false z e = refl
    and-false false y z e = refl

-- the Request that a path waits for was the last asked by its name
data Last (p : ℕ) (g : Frame) (now : Option Frame) (es : List RingEntry) : Type 0 where
  within : last_asked g.id (asked_by es) ≡ Some g.pdu → Last p g now es
  before : now ≡ Some g → last_asked g.id (asked_by es) ≡ None → Last p g now es

pub or_some-first : {X : Type 0} (a b : Option X) (x : X) → a ≡ Some x → or_some a b ≡ Some x
or_some-first a b x e = ap (λ o. or_some o b) e

pub or_some-none : {X : Type 0} (a b : Option X) → a ≡ None → or_some a b ≡ b
or_some-none a b e = ap (λ o. or_some o b) e

-- an entry that asks nothing
last-skip : (id : CallId) (e : RingEntry) (es : List RingEntry) → asked_of e ≡ None
    → last_asked id (asked_by (e ∷ es)) ≡ last_asked id (asked_by es)
last-skip id e es none = ap (λ o. last_asked id (cons_option o (asked_by es))) none

last-post : (id : CallId) (n : ℕ) (f : Frame) (es : List RingEntry) → f.kind ≡ Request
    → last_asked id (asked_by (Post n f ∷ es))
    ≡ or_some (last_asked id (asked_by es)) (cond (is_same_call f.id id) (Some f.pdu) None)
last-post id n f es kind = ap (λ k. last_asked id (cons_option (asked_in k f) (asked_by es))) kind

skip : (p : ℕ) (g : Frame) (now now' : Option Frame) (e : RingEntry) (es : List RingEntry)
    → asked_of e ≡ None → (now' ≡ Some g → now ≡ Some g) → Last p g now' es → Last p g now (e ∷ es)
skip p g now now' e es none back (within l) = within (last-skip g.id e es none ∙ l)
skip p g now now' e es none back (before is l) = before (back is) (last-skip g.id e es none ∙ l)

closed : (b : Bool) (g : Frame) (now : Option Frame) → cond b None now ≡ Some g → now ≡ Some g
closed true g now e = absurd (let no' : None ≡ Some g = e in cc)
closed false g now e = e

posted : (p n : ℕ) (g : Frame) (now : Option Frame) (f : Frame) (es : List RingEntry)
    → g.id.path ≡ p → f.kind ≡ Request → Last p
    g (cond (f.id.path == p) (Some f) now) es → Last p g now (Post n f ∷ es)
posted p n g now f es path kind (within l) =
    within (last-post g.id n f es kind ∙ or_some-first _ _ g.pdu l)
posted p n g now f es path kind (before is l) = ⊎_elim
    (λ (here : f.id.path ≡ p).
    let f_is : Some f ≡ Some g =
    sym (cond-true (f.id.path == p) (Some f) now (eq-eqb f.id.path p here)) ∙ is in
    let same : f ≡ g = cc in
    within (last-post g.id n f es kind ∙ (or_some-none _ _ l ∙ (ap
    (λ (x : Frame). cond (is_same_call x.id g.id) (Some x.pdu) None) same
    ∙ cond-true (is_same_call g.id g.id) _ _
    (same-refl g.id)))))
    (λ (else' : f.id.path ≡ p → ⊥).
    before (sym (cond-false (f.id.path == p) (Some f) now (ne_eqb f.id.path p else')) ∙ is)
    (last-post g.id n f es kind ∙ (or_some-none _ _ l
    ∙ cond-false (is_same_call f.id g.id) _ _ (other-path f.id g.id (λ e. else' (e ∙ path))))))
    (cases_eq f.id.path p)

last-of : (p : ℕ) (g : Frame) (now : Option Frame) (es : List RingEntry) → g.id.path ≡ p
    → waits_after p now es ≡ Some g → Last p g now es
last-of p g now [] path is = before is refl
last-of p g now (Post n f ∷ es) path is =
    by-kind f.kind refl (last-of p g (waits_posted p now f.kind f) es path is)
  where
    by-kind : (k : FrameKind) → f.kind ≡ k → Last p g (waits_posted p now f.kind f) es
        → Last p g now (Post n f ∷ es)
    by-kind Request e l = posted p n g now f es path e
        (subst (λ (x : FrameKind). Last p g (waits_posted p now x f) es) e l)
    by-kind Reply e l = skip p g now now (Post n f) es (ap (λ k. asked_in k f) e) (λ x. x)
        (subst (λ (x : FrameKind). Last p g (waits_posted p now x f) es) e l)
last-of p g now (Send n heard ∷ es) path is =
    skip p g now now (Send n heard) es refl (λ x. x) (last-of p g now es path is)
last-of p g now (Take n f ∷ es) path is =
    by-kind f.kind refl (last-of p g (waits_taken p now f.kind f) es path is)
  where
    by-kind : (k : FrameKind) → f.kind ≡ k → Last p g (waits_taken p now f.kind f) es
        → Last p g now (Take n f ∷ es)
    by-kind Request e l = skip p g now now (Take n f) es refl (λ x. x)
        (subst (λ (x : FrameKind). Last p g (waits_taken p now x f) es) e l)
    by-kind Reply e l = skip p g now _ (Take n f) es refl (closed (f.id.path == p) g now)
        (subst (λ (x : FrameKind). Last p g (waits_taken p now x f) es) e l)
last-of p g now (Local n id op result ∷ es) path is =
    skip p g now now (Local n id op result) es refl (λ x. x) (last-of p g now es path is)
last-of p g now (GiveUp id word ∷ es) path is =
    skip p g now _ (GiveUp id word) es refl (closed (id.path == p) g now) (last-of p g _ es path is)
last-of p g now (Pass n done words ∷ es) path is =
    skip p g now now (Pass n done words) es refl (λ x. x) (last-of p g now es path is)
last-of p g now (Leave n cause ∷ es) path is =
    skip p g now now (Leave n cause) es refl (λ x. x) (last-of p g now es path is)
last-of p g now (Join n ∷ es) path is =
    skip p g now now (Join n) es refl (λ x. x) (last-of p g now es path is)

pub waiting-last : (p : ℕ) (g : Frame) (b : List RingEntry) → g.id.path ≡ p → waiting p b ≡ Some g
    → last_asked g.id (asked_by b) ≡ Some g.pdu
waiting-last p g b path is = found (last-of p g None b path is)
  where
    found : Last p g None b → last_asked g.id (asked_by b) ≡ Some g.pdu
    found (within l) = l
    found (before none l) = absurd (let no' : None ≡ Some g = none in cc)

-- ends that are added
pub no-end-push : (id : CallId) (ends : List Ended) (e : Ended) → is_same_call e.id id ≡ false
    → NoEnd id ends → NoEnd id (ends ++ e ∷ [])
no-end-push id [] e other none = (other, tt)
no-end-push id (x ∷ ends) e other none = (none.0, no-end-push id ends e other none.1)

-- calls that are added
if-more : {X : Type 0} (b : Bool) (x y y' z : X) → (y ≡ z → y' ≡ z) → cond b x y ≡ z
    → cond b x y' ≡ z
if-more true x y y' z f e = e
if-more false x y y' z f e = f e

if-new : {X : Type 0} (b : Bool) (x : X) (y y' z : Option X) → (y ≡ None → y' ≡ z)
    → cond b (Some x) y ≡ None → cond b (Some x) y' ≡ z
if-new true x y y' z f e = absurd (let no' : Some x ≡ None = e in cc)
if-new false x y y' z f e = f e

pub kind-more : (calls more : List Called) (id : CallId) (kind : Kind)
    → kind_in calls id ≡ Some kind → kind_in (calls ++ more) id ≡ Some kind
kind-more [] more id kind is = absurd (let no' : None ≡ Some kind = is in cc)
kind-more (c ∷ calls) more id kind is =
    if-more (is_same_call c.id id) (Some (kind_of_sort c.sort)) (kind_in calls id) (kind_in
    (calls ++ more) id) (Some kind) (kind-more calls more id kind) is

pub kind-new : (calls : List Called) (c : Called) (more : List Called) → kind_in calls c.id ≡ None
    → kind_in (calls ++ c ∷ more)
    c.id ≡ Some (kind_of_sort c.sort)
kind-new [] c more none = cond-true (is_same_call c.id c.id) _ _ (same-refl c.id)
kind-new (x ∷ calls) c more none =
    if-new (is_same_call x.id c.id) (kind_of_sort x.sort) (kind_in calls c.id) (kind_in (calls ++ c
    ∷ more) c.id) (Some (kind_of_sort c.sort)) (kind-new calls c more) none
