-- Gates that are closed one after another.
use Rattle.std.proofs.Common.{◌≡◌, ◌<◌, ◌&&◌, Bool, true, List, [], ◌∷◌, ◌++◌, Some, length}
use Rattle.std.proofs.Common.{reverse, sym, ap, subst, ◌∙◌, arith}
use Rattle.std.specs.List.{AllZip}
use Rattle.std.proofs.lemmas.Bool.{and_parts}
use Rattle.std.proofs.lemmas.List.{append-nil, append_assoc, reverse-append, reverse-reverse}
use Rattle.joint_history.specs.declared.joint.RingLog.{RingLog}
use Rattle.live_run.specs.Closing.{AllClosed, ClosedTo, IsClosable}
use Rattle.live_run.specs.Dealing.{IsLogged}
use Rattle.live_run.specs.Homes.{Purse, RingGate}
use Rattle.live_run.proofs.Closed.{closed-push}
use Rattle.live_run.proofs.Zipped.{zip-none}

-- some of the gates were closed, and the rest are left in a stack, beside one of their purses
pub record IsClosing (gates : List RingGate) (purses : List Purse) (left : List RingGate)
    (left_purses : List Purse) (logs : List RingLog) (done : Bool) : Type 0 where
  pub closed : List RingGate
  pub emptied : List Purse
  pub gates_are : gates ≡ closed ++ reverse left
  pub purses_are : purses ≡ emptied ++ reverse left_purses
  pub closable : AllZip IsClosable (reverse left) (reverse left_purses)
  pub logged : done ≡ true → AllClosed closed emptied logs

pub closing-init : (gates left : List RingGate) (purses left_purses : List Purse)
    (logs : List RingLog) → left ≡ reverse gates → left_purses ≡ reverse purses → logs ≡ []
    → AllZip IsClosable gates purses → IsClosing gates purses left left_purses logs true
closing-init gates left purses left_purses logs is purses-are none all =
    let one : gates ≡ reverse left = sym (ap reverse is ∙ reverse-reverse gates) in
    let two : purses ≡ reverse left_purses =
    sym (ap reverse purses-are ∙ reverse-reverse purses) in
    record {
      closed = [];
      emptied = [];
      gates_are = one;
      purses_are = two;
      closable = subst (AllZip IsClosable (reverse left)) two
          (subst (λ (l : List RingGate). AllZip IsClosable l purses) one all);
      logged = λ yes'. subst (AllClosed [] []) (sym none) tt;
    }

last-first : {A : Type 0} (left rest : List A) (x : A) → left ≡ rest ++ x ∷ []
    → reverse left ≡ x ∷ reverse rest
last-first left rest x is = ap reverse is ∙ reverse-append rest (x ∷ [])

-- beside a gate that is left a purse is
pub some-purse : (left rest : List RingGate) (gate : RingGate) (left_purses : List Purse)
    → left ≡ rest ++ gate ∷ [] → AllZip IsClosable (reverse left) (reverse left_purses)
    → 0 < length left_purses
some-purse left rest gate [] is all =
    absurd (subst (λ (l : List RingGate). AllZip IsClosable l []) (last-first left rest gate is)
    all)
some-purse left rest gate (p ∷ purses) is all = omega arith

-- the gate that comes next can be closed with it
pub next-closable : (left rest : List RingGate) (gate : RingGate) (left_purses others : List Purse)
    (purse : Purse) → left ≡ rest ++ gate ∷ [] → left_purses ≡ others ++ purse ∷ []
    → AllZip IsClosable (reverse left) (reverse left_purses)
    → IsClosable gate purse × AllZip IsClosable (reverse rest) (reverse others)
next-closable left rest gate left_purses others purse is purses-are all =
    subst (AllZip IsClosable (gate ∷ reverse rest)) (last-first left_purses others purse purses-are)
    (subst (λ (l : List RingGate). AllZip IsClosable l (reverse left_purses))
    (last-first left rest gate is) all)

pub closing-next : (gates left rest : List RingGate) (purses left_purses others : List Purse)
    (gate : RingGate) (purse : Purse) (log : RingLog) (logs more : List RingLog)
    (done kept : Bool) → left ≡ rest ++ gate ∷ [] → left_purses ≡ others ++ purse ∷ []
    → ClosedTo gate purse log → (kept ≡ true → IsLogged (Some log) logs more)
    → IsClosing gates purses left left_purses logs done
    → IsClosing gates purses rest others more (done && kept)
closing-next gates left rest purses left_purses others gate purse log logs more done kept is
    purses-are it keeps c = record {
      closed = c.closed ++ gate ∷ [];
      emptied = c.emptied ++ purse ∷ [];
      gates_are = c.gates_are ∙ (ap (λ l. c.closed ++ l) (last-first left rest gate is)
          ∙ sym (append_assoc c.closed (gate ∷ []) (reverse rest)));
      purses_are = c.purses_are
          ∙ (ap (λ l. c.emptied ++ l) (last-first left_purses others purse purses-are)
          ∙ sym (append_assoc c.emptied (purse ∷ []) (reverse others)));
      closable = (next-closable left rest gate left_purses others purse is purses-are
          c.closable).1;
      logged = λ yes'.
          let both = and_parts done kept yes' in
          let k = keeps both.1 in
          let named : Some log ≡ Some k.item = k.log_is in
          let same : log ≡ k.item = cc in
          subst (AllClosed (c.closed ++ gate ∷ []) (c.emptied ++ purse ∷ [])) (sym k.grown)
          (closed-push c.closed c.emptied logs gate purse k.item (c.logged both.0)
          (subst (ClosedTo gate purse) same it));
    }

-- where no gate is left no purse is, and all were closed
pub none-left : (left : List RingGate) (left_purses : List Purse) → left ≡ []
    → AllZip IsClosable (reverse left) (reverse left_purses) → left_purses ≡ []
none-left left left_purses is all =
    sym (reverse-reverse left_purses) ∙ ap reverse (zip-none IsClosable (reverse left_purses)
    (subst (λ (l : List RingGate). AllZip IsClosable (reverse l) (reverse left_purses)) is all))

pub closed-all : (gates left : List RingGate) (purses left_purses : List Purse)
    (logs : List RingLog) (done : Bool) → left ≡ []
    → IsClosing gates purses left left_purses logs done → done ≡ true
    → AllClosed gates purses logs
closed-all gates left purses left_purses logs done is c yes' =
    let none = none-left left left_purses is c.closable in
    let one : gates ≡ c.closed =
    c.gates_are ∙ (ap (λ l. c.closed ++ reverse l) is ∙ append-nil c.closed) in
    let two : purses ≡ c.emptied =
    c.purses_are ∙ (ap (λ l. c.emptied ++ reverse l) none ∙ append-nil c.emptied) in
    subst (λ (l : List RingGate). AllClosed l purses logs) (sym one)
    (subst (λ (l : List Purse). AllClosed c.closed l logs) (sym two) (c.logged yes'))
