-- A node's own list with its row of done Passes, as the list goes on.
use Rattle.std.proofs.Common.{◌≡◌, ℕ, true, false, List, [], ◌∷◌, ◌++◌, refl, sym}
use Rattle.std.proofs.Common.{ap, subst, ◌∙◌, append_assoc, append-nil}
use Rattle.std.specs.List.{All, AllByRecursion as Each}
use Rattle.std.proofs.lemmas.List.Elements.{All-append, All-from_recursion, All-head, All-nil}
use Rattle.std.proofs.lemmas.List.Elements.{All-push, All-tail}
use Rattle.ring_core.specs.declared.entry.LeaveCause.TheVariants.{Ended as AllDone}
use Rattle.ring_core.specs.declared.entry.RingEntry.{RingEntry}
use Rattle.ring_core.specs.declared.entry.RingEntry.TheVariants.{Pass, Leave}
use Rattle.joint_history.specs.Complete.{IsQuiet, LeavesQuietly, SaysDone, is_pass}
use Rattle.joint_history.proofs.Lists.{all-front, all-behind}
use Rattle.end_laws.specs.EndKeeps.{EndsDone, IsNoDoneLeave, IsQuietSinceDone}
use Rattle.turn_laws.proofs.Passes.{Stands, last, earlier, stands-in, cons-head, cons-tail}
use Rattle.turn_laws.proofs.Passes.{nil-cons, each-map, IsNoPass, IsInner, is_last}

-- ---- rows

-- a list ends with a row of done Passes
pub record DoneRow (b : List RingEntry) : Type 0 where
  pub before : List RingEntry
  pub between : List RingEntry
  pub node : ℕ
  pub words : List ℕ
  pub ends : EndsDone b before node words between

pub no-row : DoneRow [] → ⊥
no-row r = at r.before r.ends.stands
  where
    at : (before : List RingEntry) → [] ≡ before ++ Pass r.node true r.words ∷ r.between → ⊥
    at [] is = nil-cons is
    at (x ∷ xs) is = nil-cons is

-- the row in a list with one entry more: one that ended the list before, or this entry alone
pub data Row (b : List RingEntry) (e : RingEntry) (before : List RingEntry) (node : ℕ)
    (words : List ℕ) (between : List RingEntry) : Type 0 where
  begins : e ≡ Pass node true words → between ≡ [] → Row b e before node words between
  goes : (rest : List RingEntry) → EndsDone b before node words rest → SaysDone e
      → between ≡ rest ++ e ∷ [] → Row b e before node words between

pub row-in : (b : List RingEntry) (e : RingEntry) (before : List RingEntry) (node : ℕ)
    (words : List ℕ) (between : List RingEntry)
    → EndsDone (b ++ e ∷ []) before node words between → Row b e before node words between
row-in b e before node words between d =
    at (stands-in b e before (Pass node true words) between d.stands)
  where
    at : Stands b e before (Pass node true words) between → Row b e before node words between
    at (last p q r) = begins (sym q) r
    at (earlier rest p q) =
        let all = subst (All SaysDone) q d.done in
        goes rest (record { stands = p; done = all-front SaysDone rest (e ∷ []) all })
        (All-head SaysDone e [] (all-behind SaysDone rest (e ∷ []) all)) q

row-still : (b : List RingEntry) (e : RingEntry) → IsNoPass e → DoneRow (b ++ e ∷ []) → DoneRow b
row-still b e none r = at (row-in b e r.before r.node r.words r.between r.ends)
  where
    at : Row b e r.before r.node r.words r.between → DoneRow b
    at (begins is same) = absurd
        (let there : is_pass e ≡ true = ap is_pass is in let both : true ≡ false =
        sym there ∙ none in cc)
    at (goes rest d says same) = record {
      before = r.before;
      between = rest;
      node = r.node;
      words = r.words;
      ends = d;
    }

-- ---- quiet since it said done

pub quiet-none : IsQuietSinceDone []
quiet-none before between node words d = absurd
    (no-row (record {
      before = before;
      between = between;
      node = node;
      words = words;
      ends = d;
    }))

pub quiet-push : (b : List RingEntry) (e : RingEntry) → IsQuietSinceDone b
    → (DoneRow b → IsQuiet e) → IsQuietSinceDone (b ++ e ∷ [])
quiet-push b e old new before between node words d =
    at (row-in b e before node words between d)
  where
    at : Row b e before node words between → All IsQuiet between
    at (begins is same) = subst (All IsQuiet) (sym same) (All-nil IsQuiet)
    at (goes rest k says same) = subst (All IsQuiet) (sym same)
        (All-push IsQuiet rest e (old before rest node words k)
        (new (record {
          before = before;
          between = rest;
          node = node;
          words = words;
          ends = k;
        })))

-- a Pass that does not say done ends each row
pub no-row-now : (b : List RingEntry) (n : ℕ) (words : List ℕ)
    → DoneRow (b ++ Pass n false words ∷ []) → ⊥
no-row-now b n words r =
    at (row-in b (Pass n false words) r.before r.node r.words r.between r.ends)
  where
    at : Row b (Pass n false words) r.before r.node r.words r.between → ⊥
    at (begins is same) = let bad : false ≡ true = cc in cc
    at (goes rest k says same) = let bad : false ≡ true = says in cc

-- entries without a Pass
shift : (P : List RingEntry → Type 0) (b : List RingEntry) (e : RingEntry) (c : List RingEntry)
    → P ((b ++ e ∷ []) ++ c) → P (b ++ e ∷ c)
shift P b e c = subst P (append_assoc b (e ∷ []) c)

pub quiet-more : (b c : List RingEntry) → Each IsNoPass c → (DoneRow b → Each IsQuiet c)
    → IsQuietSinceDone b → IsQuietSinceDone (b ++ c)
quiet-more b [] none of old = subst IsQuietSinceDone (sym (append-nil b)) old
quiet-more b (e ∷ c) none of old =
    shift IsQuietSinceDone b e c
    (quiet-more (b ++ e ∷ []) c none.1 (λ r. (of (row-still b e none.0 r)).1)
    (quiet-push b e old (λ r. (of r).0)))

-- ---- where it left

inner-no-leave : (e : RingEntry) → IsInner e → IsNoDoneLeave e
inner-no-leave e inner n is =
    let there : is_last e ≡ true = ap is_last is in let both : true ≡ false =
    sym there ∙ inner in cc

-- entries inside a turn are none
pub inner-here : (c : List RingEntry) → Each IsInner c → All IsNoDoneLeave c
inner-here c inner = All-from_recursion IsNoDoneLeave c
    (each-map IsInner IsNoDoneLeave c inner-no-leave inner)

pub here-more : (b c : List RingEntry) → Each IsInner c → All IsNoDoneLeave b
    → All IsNoDoneLeave (b ++ c)
here-more b c inner none = All-append IsNoDoneLeave b c none (inner-here c inner)

no-leave-at : (front after : List RingEntry) (n : ℕ)
    → All IsNoDoneLeave (front ++ Leave n AllDone ∷ after) → ⊥
no-leave-at [] after n all = All-head IsNoDoneLeave (Leave n AllDone) after all n refl
no-leave-at (x ∷ front) after n all =
    no-leave-at front after n
    (All-tail IsNoDoneLeave x (front ++ Leave n AllDone ∷ after) all)

-- where one entry alone can be such a Leave, that is the one
record IsAlone (b c : List RingEntry) (e : RingEntry) (front after : List RingEntry) (n : ℕ)
    : Type 0 where
  before : b ≡ front
  leave : e ≡ Leave n AllDone
  behind : c ≡ after

alone-at : (b c : List RingEntry) (e : RingEntry) (front after : List RingEntry) (n : ℕ)
    → All IsNoDoneLeave b → All IsNoDoneLeave c → b ++ e ∷ c ≡ front ++ Leave n AllDone ∷ after
    → IsAlone b c e front after n
alone-at [] c e [] after n none none' is =
    record { before = refl; leave = cons-head is; behind = cons-tail is }
alone-at [] c e (x ∷ front) after n none none' is = absurd
    (no-leave-at front after n (subst (All IsNoDoneLeave) (cons-tail is) none'))
alone-at (y ∷ b) c e [] after n none none' is = absurd
    (All-head IsNoDoneLeave y b none n (cons-head is))
alone-at (y ∷ b) c e (x ∷ front) after n none none' is =
    let rest = alone-at b c e front after n (All-tail IsNoDoneLeave y b none) none'
    (cons-tail is) in
    record {
      before = λ i. cons-head is i ∷ rest.before i;
      leave = rest.leave;
      behind = rest.behind;
    }

-- it leaves quietly where it was quiet before and is behind
pub leaves-now : (b c : List RingEntry) (e : RingEntry) → All IsNoDoneLeave b
    → All IsNoDoneLeave c
    → ((n : ℕ) → e ≡ Leave n AllDone → IsQuietSinceDone b × All IsQuiet c)
    → LeavesQuietly (b ++ e ∷ c)
leaves-now b c e none none' quiet before between after n m words is says =
    let alone = alone-at b c e (before ++ Pass m true words ∷ between) after n none none' is in
    let both = quiet n alone.leave in (
      both.0 before between m words (record { stands = alone.before; done = says }),
      subst (All IsQuiet) alone.behind both.1,
    )
