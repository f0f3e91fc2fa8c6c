-- Whether an end of a bridge was quiet where it left, by the row of done Passes that stands last.
use Rattle.std.proofs.Common.{◌≡◌, ℕ, Bool, true, false, not, List, [], ◌∷◌, ◌++◌, refl, sym}
use Rattle.std.proofs.Common.{ap, subst, ◌∙◌, append_assoc, append-nil}
use Rattle.std.specs.List.{All}
use Rattle.std.proofs.lemmas.Bool.{eq-eqb, ne_eqb}
use Rattle.std.proofs.lemmas.List.Elements.{All-cons, All-head, All-nil, All-push, All-tail}
use Rattle.ring_core.specs.Words.{asks}
use Rattle.ring_core.specs.declared.frame.FrameKind.{FrameKind}
use Rattle.ring_core.specs.declared.frame.FrameKind.TheVariants.{Request, Reply}
use Rattle.ring_core.specs.declared.entry.RingEntry.{RingEntry}
use Rattle.ring_core.specs.declared.entry.RingEntry.TheVariants.{Post, Send, Take, Local, GiveUp}
use Rattle.ring_core.specs.declared.entry.RingEntry.TheVariants.{Pass, Leave, Join}
use Rattle.ring_core.specs.declared.entry.LeaveCause.TheVariants.{Ended, Spent, Down}
use Rattle.joint_history.specs.Complete.{IsQuiet, LeavesQuietly, SaysDone, StandsIn}
use Rattle.joint_history.proofs.Lists.{all-behind, all-front}
use Rattle.list_courses.specs.Completing.{EachAllows, is_ended}
use Rattle.list_courses.specs.Leaving.{LeaveAllows, MayFollow, done_row, is_quiet, row_from}
use Rattle.list_courses.specs.Leaving.{row_left, row_next, row_noted, row_passed}
use Rattle.list_courses.specs.declared.leaving.Row.{Row}
use Rattle.list_courses.specs.declared.leaving.Row.TheVariants.{Broken, Quiet, Loud, Left}
use Rattle.station_laws.proofs.Lists.{not-true}

-- ---- one entry

reply-from : (kind : FrameKind) → not (asks kind) ≡ true → kind ≡ Reply
reply-from Request is = not-true is
reply-from Reply is = refl

quiet-from : (e : RingEntry) → is_quiet e ≡ true → IsQuiet e
quiet-from (Post n f) is = reply-from f.kind is
quiet-from (Send n heard) is = tt
quiet-from (Take n f) is = tt
quiet-from (Local n id op result) is =
    λ same. not-true (sym (ap not (eq-eqb id.node n same)) ∙ is)
quiet-from (GiveUp id word) is = not-true is
quiet-from (Pass n done words) is = tt
quiet-from (Leave n cause) is = tt
quiet-from (Join n) is = tt

quiet-by : (e : RingEntry) → IsQuiet e → is_quiet e ≡ true
quiet-by (Post n f) is = ap (λ (k : FrameKind). not (asks k)) is
quiet-by (Send n heard) is = refl
quiet-by (Take n f) is = refl
quiet-by (Local n id op result) is = ap not (ne_eqb id.node n is)
quiet-by (GiveUp id word) is = absurd is
quiet-by (Pass n done words) is = refl
quiet-by (Leave n cause) is = refl
quiet-by (Join n) is = refl

row-joined : (row : Row) (xs ys : List RingEntry)
    → row_from row (xs ++ ys) ≡ row_from (row_from row xs) ys
row-joined row [] ys = refl
row-joined row (x ∷ xs) ys = row-joined (row_next row x) xs ys

-- one entry more
pub row-push : (b : List RingEntry) (e : RingEntry)
    → done_row (b ++ e ∷ []) ≡ row_next (done_row b) e
row-push b e = row-joined Broken b (e ∷ [])

-- ---- what a row says of the entries so far

-- they end with an unbroken row of done Passes
record EndsWithRow (b : List RingEntry) : Type 0 where
  before : List RingEntry
  between : List RingEntry
  node : ℕ
  words : List ℕ
  b_is : b ≡ before ++ Pass node true words ∷ between
  says : All SaysDone between

-- in which not all is quiet
record EndsLoud (b : List RingEntry) : Type 0 where
  row : EndsWithRow b
  loud : All IsQuiet row.between → ⊥

-- behind such a row the node left
record LeftBehindRow (b : List RingEntry) : Type 0 where
  front : List RingEntry
  row : EndsWithRow front
  node : ℕ
  after : List RingEntry
  b_is : b ≡ front ++ Leave node Ended ∷ after

abbrev Tells : Row → List RingEntry → Type 0
Tells Broken b = Unit {0}
Tells Quiet b = EndsWithRow b
Tells Loud b = EndsLoud b
Tells Left b = LeftBehindRow b

begins : (b : List RingEntry) (n : ℕ) (words : List ℕ) → EndsWithRow (b ++ Pass n true words ∷ [])
begins b n words = record {
  before = b;
  between = [];
  node = n;
  words = words;
  b_is = refl;
  says = All-nil SaysDone;
}

longer : (b : List RingEntry) (e : RingEntry) → SaysDone e → EndsWithRow b
    → EndsWithRow (b ++ e ∷ [])
longer b e says r = record {
  before = r.before;
  between = r.between ++ e ∷ [];
  node = r.node;
  words = r.words;
  b_is = ap (λ (xs : List RingEntry). xs ++ e ∷ []) r.b_is
      ∙ append_assoc r.before (Pass r.node true r.words ∷ r.between) (e ∷ []);
  says = All-push SaysDone r.between e r.says says;
}

longer-loud : (b : List RingEntry) (e : RingEntry) → SaysDone e → EndsLoud b
    → EndsLoud (b ++ e ∷ [])
unfolding longer
longer-loud b e says l = record {
  row = longer b e says l.row;
  loud = λ all. l.loud (all-front IsQuiet l.row.between (e ∷ []) all);
}

loud-now : (b : List RingEntry) (e : RingEntry) → SaysDone e → is_quiet e ≡ false → EndsWithRow b
    → EndsLoud (b ++ e ∷ [])
unfolding longer
loud-now b e says is r = record {
  row = longer b e says r;
  loud = λ all. not-true (sym is ∙ quiet-by e
      (All-head IsQuiet e [] (all-behind IsQuiet r.between (e ∷ []) all)));
}

left-now : (b : List RingEntry) (n : ℕ) → EndsWithRow b → LeftBehindRow (b ++ Leave n Ended ∷ [])
left-now b n r = record { front = b; row = r; node = n; after = []; b_is = refl }

longer-left : (b : List RingEntry) (e : RingEntry) → LeftBehindRow b
    → LeftBehindRow (b ++ e ∷ [])
longer-left b e l = record {
  front = l.front;
  row = l.row;
  node = l.node;
  after = l.after ++ e ∷ [];
  b_is = ap (λ (xs : List RingEntry). xs ++ e ∷ []) l.b_is
      ∙ append_assoc l.front (Leave l.node Ended ∷ l.after) (e ∷ []);
}

-- with one entry more
noted-tells : (row : Row) (b : List RingEntry) (e : RingEntry) (quiet : Bool) → SaysDone e
    → is_quiet e ≡ quiet → Tells row b → Tells (row_noted row quiet) (b ++ e ∷ [])
noted-tells Broken b e quiet says is t = tt
noted-tells Quiet b e true says is t = longer b e says t
noted-tells Quiet b e false says is t = loud-now b e says is t
noted-tells Loud b e quiet says is t = longer-loud b e says t
noted-tells Left b e quiet says is t = longer-left b e t

passed-tells : (row : Row) (b : List RingEntry) (n : ℕ) (done : Bool) (words : List ℕ)
    → Tells row b → Tells (row_passed row done) (b ++ Pass n done words ∷ [])
passed-tells Broken b n true words t = begins b n words
passed-tells Quiet b n true words t = longer b (Pass n true words) refl t
passed-tells Loud b n true words t = longer-loud b (Pass n true words) refl t
passed-tells Left b n true words t = longer-left b (Pass n true words) t
passed-tells Broken b n false words t = tt
passed-tells Quiet b n false words t = tt
passed-tells Loud b n false words t = tt
passed-tells Left b n false words t = longer-left b (Pass n false words) t

left-tells : (row : Row) (b : List RingEntry) (n : ℕ) → Tells row b
    → Tells (row_left row) (b ++ Leave n Ended ∷ [])
left-tells Broken b n t = tt
left-tells Quiet b n t = left-now b n t
left-tells Loud b n t = longer-loud b (Leave n Ended) tt t
left-tells Left b n t = longer-left b (Leave n Ended) t

next-tells : (row : Row) (b : List RingEntry) (e : RingEntry) → Tells row b
    → Tells (row_next row e) (b ++ e ∷ [])
next-tells row b (Post n f) t =
    noted-tells row b (Post n f) (is_quiet (Post n f)) tt refl t
next-tells row b (Send n heard) t = noted-tells row b (Send n heard) true tt refl t
next-tells row b (Take n f) t = noted-tells row b (Take n f) true tt refl t
next-tells row b (Local n id op result) t =
    noted-tells row b (Local n id op result) (is_quiet (Local n id op result)) tt refl t
next-tells row b (GiveUp id word) t = noted-tells row b (GiveUp id word) false tt refl t
next-tells row b (Pass n done words) t = passed-tells row b n done words t
next-tells row b (Leave n Ended) t = left-tells row b n t
next-tells row b (Leave n Spent) t = noted-tells row b (Leave n Spent) true tt refl t
next-tells row b (Leave n (Down number)) t =
    noted-tells row b (Leave n (Down number)) true tt refl t
next-tells row b (Join n) t = noted-tells row b (Join n) true tt refl t

more-tell : (b es : List RingEntry) → Tells (done_row b) b
    → Tells (done_row (b ++ es)) (b ++ es)
more-tell b [] t =
    subst (λ (xs : List RingEntry). Tells (done_row xs) xs) (sym (append-nil b)) t
more-tell b (e ∷ es) t =
    subst (λ (xs : List RingEntry). Tells (done_row xs) xs) (append_assoc b (e ∷ []) es)
    (more-tell (b ++ e ∷ []) es
    (subst (λ (row : Row). Tells row (b ++ e ∷ [])) (sym (row-push b e))
    (next-tells (done_row b) b e t)))

tells : (b : List RingEntry) → Tells (done_row b) b
tells b = more-tell [] b tt

-- ---- entries that follow on a row

abbrev Follow : Row → List RingEntry → Type 0
Follow row [] = Unit {0}
Follow row (e ∷ es) = MayFollow row e × Follow (row_next row e) es

follow-from : (front es : List RingEntry) → EachAllows LeaveAllows (front ++ es)
    → Follow (done_row front) es
follow-from front [] each = tt
follow-from front (e ∷ es) each = (
  each front es e refl,
  subst (λ (row : Row). Follow row es) (row-push front e)
      (follow-from (front ++ e ∷ []) es
      (subst (EachAllows LeaveAllows) (sym (append_assoc front (e ∷ []) es)) each)),
)

-- all that stands behind a Leave is quiet
left-next : (e : RingEntry) → row_next Left e ≡ Left
left-next (Post n f) = refl
left-next (Send n heard) = refl
left-next (Take n f) = refl
left-next (Local n id op result) = refl
left-next (GiveUp id word) = refl
left-next (Pass n done words) = refl
left-next (Leave n Ended) = refl
left-next (Leave n Spent) = refl
left-next (Leave n (Down number)) = refl
left-next (Join n) = refl

left-quiet : (es : List RingEntry) → Follow Left es → All IsQuiet es
left-quiet [] f = All-nil IsQuiet
left-quiet (e ∷ es) f =
    All-cons IsQuiet e es (quiet-from e f.0)
    (left-quiet es (subst (λ (row : Row). Follow row es) (left-next e) f.1))

-- no Leave stands behind a loud row
loud-next : (e : RingEntry) → SaysDone e → row_next Loud e ≡ Loud
loud-next (Post n f) says = refl
loud-next (Send n heard) says = refl
loud-next (Take n f) says = refl
loud-next (Local n id op result) says = refl
loud-next (GiveUp id word) says = refl
loud-next (Pass n true words) says = refl
loud-next (Pass n false words) says = not-true says
loud-next (Leave n Ended) says = refl
loud-next (Leave n Spent) says = refl
loud-next (Leave n (Down number)) says = refl
loud-next (Join n) says = refl

loud-stays : (between after : List RingEntry) (n : ℕ) → All SaysDone between
    → Follow Loud (between ++ Leave n Ended ∷ after) → ⊥
loud-stays [] after n says f = let ended : true ≡ false = f.0 in cc
loud-stays (e ∷ between) after n says f =
    loud-stays between after n (All-tail SaysDone e between says)
    (subst (λ (row : Row). Follow row (between ++ Leave n Ended ∷ after))
    (loud-next e (All-head SaysDone e between says)) f.1)

-- so a node that may leave was quiet, and stays so
abbrev AreQuiet : List RingEntry → List RingEntry → Type 0
AreQuiet between after = All IsQuiet between × All IsQuiet after

behind-left : (between after : List RingEntry) (n : ℕ)
    → Follow Left (between ++ Leave n Ended ∷ after) → AreQuiet between after
behind-left between after n f =
    let all = left-quiet (between ++ Leave n Ended ∷ after) f in (
      all-front IsQuiet between (Leave n Ended ∷ after) all,
      All-tail IsQuiet (Leave n Ended) after
          (all-behind IsQuiet between (Leave n Ended ∷ after) all),
    )

-- what comes of a quiet row that goes on
abbrev QuietGoesOn : RingEntry → Row → Type 0
QuietGoesOn e Broken = ⊥
QuietGoesOn e Quiet = IsQuiet e
QuietGoesOn e Loud = Unit {0}
QuietGoesOn e Left = IsQuiet e

noted-goes : (e : RingEntry) (quiet : Bool) → is_quiet e ≡ quiet
    → QuietGoesOn e (row_noted Quiet quiet)
noted-goes e true is = quiet-from e is
noted-goes e false is = tt

quiet-goes : (e : RingEntry) → SaysDone e → QuietGoesOn e (row_next Quiet e)
quiet-goes (Post n f) says = noted-goes (Post n f) (is_quiet (Post n f)) refl
quiet-goes (Send n heard) says = tt
quiet-goes (Take n f) says = tt
quiet-goes (Local n id op result) says =
    noted-goes (Local n id op result) (is_quiet (Local n id op result)) refl
quiet-goes (GiveUp id word) says = tt
quiet-goes (Pass n true words) says = tt
quiet-goes (Pass n false words) says = not-true says
quiet-goes (Leave n Ended) says = tt
quiet-goes (Leave n Spent) says = tt
quiet-goes (Leave n (Down number)) says = tt
quiet-goes (Join n) says = tt

behind-quiet : (between after : List RingEntry) (n : ℕ) → All SaysDone between
    → Follow Quiet (between ++ Leave n Ended ∷ after) → AreQuiet between after
behind-quiet [] after n says f = (All-nil IsQuiet, left-quiet after f.1)
behind-quiet (e ∷ between) after n says f =
    at (row_next Quiet e) (quiet-goes e (All-head SaysDone e between says)) f.1
    (behind-quiet between after n rest)
  where
    rest : All SaysDone between
    rest = All-tail SaysDone e between says

    with-this : IsQuiet e → AreQuiet between after → AreQuiet (e ∷ between) after
    with-this is both = (All-cons IsQuiet e between is both.0, both.1)

    at : (row : Row) → QuietGoesOn e row → Follow row (between ++ Leave n Ended ∷ after)
        → (Follow Quiet (between ++ Leave n Ended ∷ after) → AreQuiet between after)
        → AreQuiet (e ∷ between) after
    at Broken goes f more = absurd goes
    at Quiet goes f more = with-this goes (more f)
    at Loud goes f more = absurd (loud-stays between after n rest f)
    at Left goes f more = with-this goes (behind-left between after n f)

behind-pass : (row : Row) (between after : List RingEntry) (n : ℕ) → All SaysDone between
    → Follow (row_passed row true) (between ++ Leave n Ended ∷ after) → AreQuiet between after
behind-pass Broken between after n says f = behind-quiet between after n says f
behind-pass Quiet between after n says f = behind-quiet between after n says f
behind-pass Loud between after n says f = absurd (loud-stays between after n says f)
behind-pass Left between after n says f = behind-left between after n f

-- ---- all

-- a node left quietly where each entry may follow on the row before it
pub quietly-by : (b : List RingEntry) → EachAllows LeaveAllows b → LeavesQuietly b
quietly-by b each before between after n m words is says =
    let behind = Pass m true words ∷ (between ++ Leave n Ended ∷ after) in
    let whole : b ≡ before ++ behind =
    is ∙ append_assoc before (Pass m true words ∷ between) (Leave n Ended ∷ after) in
    behind-pass (done_row before) between after n says
    (follow-from before behind (subst (EachAllows LeaveAllows) whole each)).1

-- no Leave as all was done behind a loud row
no-leave : (b before after : List RingEntry) (e : RingEntry) → LeavesQuietly b
    → StandsIn b before e after → EndsLoud before → is_ended e ≡ false
no-leave b before after (Post n f) quietly is l = refl
no-leave b before after (Send n heard) quietly is l = refl
no-leave b before after (Take n f) quietly is l = refl
no-leave b before after (Local n id op result) quietly is l = refl
no-leave b before after (GiveUp id word) quietly is l = refl
no-leave b before after (Pass n done words) quietly is l = refl
no-leave b before after (Leave n Ended) quietly is l = absurd
    (l.loud (quietly l.row.before l.row.between after n l.row.node l.row.words
    (is ∙ ap (λ (xs : List RingEntry). xs ++ Leave n Ended ∷ after) l.row.b_is) l.row.says).0)
no-leave b before after (Leave n Spent) quietly is l = refl
no-leave b before after (Leave n (Down number)) quietly is l = refl
no-leave b before after (Join n) quietly is l = refl

-- and behind a Leave only what is quiet
quiet-then : (b before after : List RingEntry) (e : RingEntry) → LeavesQuietly b
    → StandsIn b before e after → LeftBehindRow before → is_quiet e ≡ true
quiet-then b before after e quietly is l =
    let r = l.row in
    let behind = l.after ++ e ∷ after in
    let whole : b ≡ (r.before ++ Pass r.node true r.words ∷ r.between)
    ++ Leave l.node Ended ∷ behind =
    is ∙ (ap (λ (xs : List RingEntry). xs ++ e ∷ after) l.b_is
    ∙ (append_assoc l.front (Leave l.node Ended ∷ l.after) (e ∷ after)
    ∙ ap (λ (xs : List RingEntry). xs ++ Leave l.node Ended ∷ behind) r.b_is)) in
    let quiet = (quietly r.before r.between behind l.node r.node r.words whole r.says).1 in
    quiet-by e (All-head IsQuiet e after (all-behind IsQuiet l.after (e ∷ after) quiet))

-- and back
pub by-quietly : (b : List RingEntry) → LeavesQuietly b → EachAllows LeaveAllows b
by-quietly b quietly before after e is = at (done_row before) (tells before)
  where
    at : (row : Row) → Tells row before → MayFollow row e
    at Broken t = tt
    at Quiet t = tt
    at Loud t = no-leave b before after e quietly is t
    at Left t = quiet-then b before after e quietly is t
