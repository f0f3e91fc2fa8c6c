-- Parts of a turn, joined.
use Rattle.std.proofs.Common.{◌≡◌, ℕ, Bool, List, [], ◌∷◌, ◌++◌, refl, sym, ap, ◌∙◌, subst}
use Rattle.std.proofs.Common.{append_assoc, append-nil, true, false, cond, inl, inr, ◌⊎◌, ⊎_elim}
use Rattle.std.specs.List.{AllByRecursion as Each}
use Rattle.ring_core.specs.declared.entry.RingEntry.{RingEntry}
use Rattle.tied_lists.specs.Own.{is_of, own, WentOn, Grew}
use Rattle.tied_lists.proofs.Growth.{grew-more}
use Rattle.plant_types.specs.declared.net.NetPlan.{NetPlan}
use Rattle.controller_core.specs.declared.fixed.Fixed.{Fixed}
use Rattle.comm_port.specs.Sides.{RingSideIs, RamSideIs}
use Rattle.comm_port.specs.Turns.{IsOwnTurn}
use Rattle.comm_port.specs.Parts.{InOrder, PartOf, EachNext}

pub grew-none : {E : Type 0} (alone : Bool) (ours : E → Bool) (xs : List E)
    → Grew alone ours xs [] xs
grew-none alone ours xs = record
    { more = []; after_is = sym (append-nil xs); ours_are = refl; all_alone = λ _. refl }

-- one after others
pub in-order-both : {X A : Type 0} (Due : X → List A → List RingEntry → Type 0) (xs ys : List X)
    (n n' : List A) (d d' : List
    RingEntry) → InOrder Due xs n d → InOrder Due ys n' d'
    → InOrder Due (xs ++ ys) (n ++ n') (d ++ d')
in-order-both {X} {A} Due [] ys n n' d d' a b =
    subst (λ (l : List A). InOrder Due ys (l ++ n') (d ++ d')) (sym a.0)
    (subst (λ (l : List RingEntry). InOrder Due ys n' (l ++ d')) (sym a.1) b)
in-order-both {X} {A} Due (x ∷ xs) ys n n' d d' a b = (
  a.0,
  a.1 ++ n',
  a.2,
  a.3 ++ d',
  ap (λ l. l ++ n') a.4 ∙ append_assoc a.0 a.1 n',
  ap (λ l. l ++ d') a.5 ∙ append_assoc a.2 a.3 d',
  a.6,
  in-order-both Due xs ys a.1 n' a.3 d' a.7 b,
)

pub in-order-one : {X A : Type 0} (Due : X → List A → List RingEntry → Type 0) (x : X) (n : List A)
    (d : List RingEntry) → Due x n d
    → InOrder Due (x ∷ []) n d
in-order-one Due x n d due = (
  n,
  [],
  d,
  [],
  sym (append-nil n),
  sym (append-nil d),
  due,
  (refl, refl),
)

pub in-order-last : {X A : Type 0} (Due : X → List A → List RingEntry → Type 0) (xs : List X)
    (x : X) (n n' : List A) (d d' : List
    RingEntry) → InOrder Due xs n d → Due x n' d' → InOrder Due (xs ++ x ∷ []) (n ++ n') (d ++ d')
in-order-last Due xs x n n' d d' a due = in-order-both Due xs (x ∷ []) n n' d d' a
    (in-order-one Due x n' d' due)

-- nothing was added
pub part-none : {A : Type 0} (alone alone' : Bool) (ours : A → Bool) (n : ℕ)
    (Due : List A → List RingEntry → Type 0) (known : List
    A) (ring : List RingEntry) → Due [] [] → PartOf alone alone' ours n Due known known ring ring
part-none alone alone' ours n Due known ring due = record {
  noted = [];
  done = [];
  due = due;
  station = grew-none alone ours known;
  node = grew-none alone' (is_of n) ring;
}

-- two parts, one after another
pub part-both : {A : Type 0} (alone alone' : Bool) (ours : A → Bool) (n : ℕ)
    (One Two Both : List A → List RingEntry → Type 0)
    (known known' known'' : List A) (ring ring' ring'' : List RingEntry)
    → ((n n' : List A) (d d' : List RingEntry) → One n d → Two n' d' → Both (n ++ n') (d ++ d'))
    → PartOf alone alone' ours n One known known' ring ring'
    → PartOf alone alone' ours n Two known' known'' ring' ring''
    → PartOf alone alone' ours n Both known known'' ring ring''
part-both alone alone' ours n One Two Both known known' known'' ring ring' ring'' join a b =
    record {
      noted = a.noted ++ b.noted;
      done = a.done ++ b.done;
      due = join a.noted b.noted a.done b.done a.due b.due;
      station = grew-more alone ours known known' known'' a.noted b.noted a.station b.station;
      node = grew-more alone' (is_of n) ring ring' ring'' a.done b.done a.node b.node;
    }

-- the same part, said otherwise
pub part-as : {A : Type 0} (alone alone' : Bool) (ours : A → Bool) (n : ℕ)
    (One Two : List A → List RingEntry → Type 0) (known
    known' : List A) (ring ring' : List RingEntry)
    → ((noted : List A) (done : List RingEntry) → One noted done → Two noted done)
    → PartOf alone alone' ours n One known known' ring ring'
    → PartOf alone alone' ours n Two known known' ring ring'
part-as alone alone' ours n One Two known known' ring ring' as' p = record {
  noted = p.noted;
  done = p.done;
  due = as' p.noted p.done p.due;
  station = p.station;
  node = p.node;
}

-- ---- each entry of a node at its place

-- where an entry of two joined lists stands
head-is : {X : Type 0} (a b : X) (as' bs : List X) → a ∷ as' ≡ b ∷ bs → a ≡ b
head-is a b as' bs k = cc

tail-is : {X : Type 0} (a b : X) (as' bs : List X) → a ∷ as' ≡ b ∷ bs → as' ≡ bs
tail-is a b as' bs k = cc

abbrev pub Place : {X : Type 0} → List X → List X → List X → X → List X → Type 0
Place {X} one two before e after' = ((rest : List X) × (one ≡ before ++ e ∷ rest))
    ⊎ ((rest : List X) × (before ≡ one ++ rest) × (two ≡ rest ++ e ∷ after'))

pub placed : {X : Type 0} (one two before : List X) (e : X) (after' : List X)
    → one ++ two ≡ before ++ e ∷ after' → Place one two before e after'
placed [] two before e after' is = inr (before, refl, is)
placed (x ∷ one) two [] e after' is = inl
    (one, ap (λ (y : _). y ∷ one) (head-is x e (one ++ two) after' is))
placed {X} (x ∷ one) two (y ∷ before) e after' is =
    let h : x ≡ y = head-is x y (one ++ two) (before ++ e ∷ after') is in
    ⊎_elim (λ (a : (rest : List X) × (one ≡ before ++ e ∷ rest)). inl (a.0, (λ i. h i ∷ a.1 i)))
    (λ (b : (rest : List X) × (before ≡ one ++ rest) × (two ≡ rest ++ e ∷ after')). inr
    (b.0, (λ i. sym h i ∷ b.1 i), b.2))
    (placed one two before e after' (tail-is x y (one ++ two) (before ++ e ∷ after') is))

pub each-none : (n : ℕ) (IsNext : List RingEntry → RingEntry → Type 0) (ring : List RingEntry)
    → EachNext n IsNext ring ring
each-none n IsNext ring = record {
  more = [];
  after_is = sym (append-nil ring);
  each = λ before after' e is mine. absurd (not-in before e after' is);
}
  where
    not-in : (before : List RingEntry) (e : RingEntry) (after' : List RingEntry)
        → [] ≡ before ++ e ∷ after' → ⊥
    not-in [] e after' is = cc
    not-in (x ∷ before) e after' is = cc

pub each-both : (n : ℕ) (IsNext : List RingEntry → RingEntry → Type 0)
    (ring ring' ring'' : List RingEntry) → EachNext n IsNext ring ring'
    → EachNext n IsNext ring' ring'' → EachNext n IsNext ring ring''
each-both n IsNext ring ring' ring'' a b = record {
  more = a.more ++ b.more;
  after_is = b.after_is ∙ (ap (λ l. l ++ b.more) a.after_is ∙ append_assoc ring a.more b.more);
  each = λ before after' e is mine. ⊎_elim
      (λ (x : (rest : List RingEntry) × (a.more ≡ before ++ e ∷ rest)). a.each before x.0 e x.1
      mine)
      (λ (y : (rest : List RingEntry) × (before ≡ a.more ++ rest) × (b.more ≡ rest ++ e ∷ after')).
      subst (λ (l : List RingEntry). IsNext l e)
      (ap (λ l. l ++ y.0) a.after_is ∙ (append_assoc ring a.more y.0 ∙ ap (λ l. ring ++ l)
      (sym y.1)))
      (b.each y.0 after' e y.2 mine))
      (placed a.more b.more before e after' is);
}

pub each-as : (n : ℕ) (One Two : List RingEntry → RingEntry → Type 0) (ring ring' : List RingEntry)
    → ((past : List RingEntry) (e :
    RingEntry) → One past e → Two past e) → EachNext n One ring ring' → EachNext n Two ring ring'
each-as n One Two ring ring' f a = record {
  more = a.more;
  after_is = a.after_is;
  each = λ before after' e is mine. f (ring ++ before) e (a.each before after' e is mine);
}

-- none of its own stands among others
none-own : (n : ℕ) (es before after' : List RingEntry) (e : RingEntry) → own n es ≡ []
    → es ≡ before ++ e ∷ after' → is_of n e ≡ true → ⊥
none-own n [] [] after' e none is mine = cc
none-own n [] (x ∷ before) after' e none is mine = cc
none-own n (x ∷ es) [] after' e none is mine =
    let h : x ≡ e = head-is x e es after' is in
    let hit : is_of n x ≡ true = ap (is_of n) h ∙ mine in
    let bad : x ∷ own n es ≡ [] = sym (ap (λ (b : Bool). cond b (x ∷ own n es) (own n es)) hit)
    ∙ none in
    cc
none-own n (x ∷ es) (y ∷ before) after' e none is mine =
    none-own n es before after' e (rest (is_of n x) none) (tail-is x y es (before ++ e ∷ after') is)
    mine
  where
    rest : (b : Bool) → cond b (x ∷ own n es) (own n es) ≡ [] → own n es ≡ []
    rest true k = absurd (cc)
    rest false k = k

pub each-others : (n : ℕ) (IsNext : List RingEntry → RingEntry → Type 0)
    (ring between : List RingEntry) → own n between ≡ [] → EachNext n
    IsNext ring (ring ++ between)
each-others n IsNext ring between none = record {
  more = between;
  after_is = refl;
  each = λ before after' e is mine. absurd (none-own n between before after' e none is mine);
}

pub each-grew : (alone : Bool) (n : ℕ) (IsNext : List RingEntry → RingEntry → Type 0)
    (ring ring' : List RingEntry) → Grew alone
    (is_of n) ring [] ring' → EachNext n IsNext ring ring'
each-grew alone n IsNext ring ring' g =
    subst (EachNext n IsNext ring) (sym g.after_is) (each-others n IsNext ring g.more g.ours_are)

pub each-still : (alone : Bool) (n : ℕ) (IsNext : List RingEntry → RingEntry → Type 0)
    (ring ring' : List RingEntry) → WentOn alone
    (is_of n) ring [] ring' → EachNext n IsNext ring ring'
each-still alone n IsNext ring ring' w =
    subst (EachNext n IsNext ring) (sym (w.after_is ∙ append-nil (ring ++ w.between)))
    (each-others n IsNext ring w.between w.others)

pub one-each : (n : ℕ) (IsNext : List RingEntry → RingEntry → Type 0) (ring : List RingEntry)
    (e : RingEntry) → IsNext ring e → EachNext n IsNext ring (ring ++ e ∷ [])
one-each n IsNext ring e it = record {
  more = e ∷ [];
  after_is = refl;
  each = λ before after' x is mine. only before x after' is;
}
  where
    only : (before : List RingEntry) (x : RingEntry) (after' : List RingEntry)
        → e ∷ [] ≡ before ++ x ∷ after' → IsNext (ring ++ before) x
    only [] x after' is = subst (λ (l : List RingEntry). IsNext l x) (sym (append-nil ring))
        (subst (IsNext ring) (head-is e x [] after' is) it)
    only (y ∷ []) x after' is = absurd
        (let bad : [] ≡ x ∷ after' = tail-is e y [] (x ∷ after') is in cc)
    only (y ∷ z ∷ before) x after' is = absurd
        (let bad : [] ≡ z ∷ (before ++ x ∷ after') = tail-is e y [] (z ∷ (before ++ x ∷ after')) is
        in cc)

-- others, and then one entry
pub each-went : (alone : Bool) (n : ℕ) (IsNext : List RingEntry → RingEntry → Type 0)
    (ring : List RingEntry) (e : RingEntry) (ring' : List RingEntry)
    → (w : WentOn alone (is_of n) ring (e ∷ []) ring') → IsNext (ring ++ w.between) e
    → EachNext n IsNext ring ring'
each-went alone n IsNext ring e ring' w it =
    each-both n IsNext ring (ring ++ w.between) ring' (each-others n IsNext ring w.between w.others)
    (subst (EachNext n IsNext (ring ++ w.between)) (sym w.after_is)
    (one-each n IsNext (ring ++ w.between) e it))

-- what follows from each next entry holds of each entry by which the list grew
each-own : (n : ℕ) (IsNext : List RingEntry → RingEntry → Type 0) (P : RingEntry → Type 0)
    → ((past : List RingEntry) (e : RingEntry) → IsNext past e → P e)
    → (ring front rest : List RingEntry)
    → ((before after' : List RingEntry) (e : RingEntry) → front ++ rest ≡ before ++ e ∷ after'
    → is_of n e ≡ true → IsNext (ring ++ before) e)
    → Each P (own n rest)
each-own n IsNext P f ring front [] each = tt
each-own n IsNext P f ring front (e ∷ rest) each =
    at (is_of n e) refl
    (each-own n IsNext P f ring (front ++ e ∷ []) rest
    (λ before after' x is. each before after' x (sym (append_assoc front (e ∷ []) rest) ∙ is)))
  where
    at : (b : Bool) → is_of n e ≡ b → Each P (own n rest)
        → Each P (cond b (e ∷ own n rest) (own n rest))
    at true mine all = (f (ring ++ front) e (each front rest e refl mine), all)
    at false other all = all

cancel : {X : Type 0} (a b c : List X) → a ++ b ≡ a ++ c → b ≡ c
cancel [] b c is = is
cancel (x ∷ a) b c is = cancel a b c (cc)

pub each-added : (alone : Bool) (n : ℕ) (IsNext : List RingEntry → RingEntry → Type 0)
    (P : RingEntry → Type 0) → ((past : List RingEntry) (e : RingEntry) → IsNext past e → P e)
    → (ring added ring' : List RingEntry) → Grew alone (is_of n) ring added ring'
    → EachNext n IsNext ring ring' → Each P added
each-added alone n IsNext P f ring added ring' g a =
    let same : a.more ≡ g.more = cancel ring a.more g.more (sym a.after_is ∙ g.after_is) in
    subst (Each P) (ap (own n) same ∙ g.ours_are) (each-own n IsNext P f ring [] a.more a.each)

-- ---- sides that are the same

pub net-as : {Q : Type 0} (P : NetPlan → Type 0) (side side' : RingSideIs Q) → side' ≡ side
    → P side'.net → P side.net
net-as {Q} P side side' same it = subst (λ (x : RingSideIs Q). P x.net) same it

pub fixed-as : {P : Type 0} (R : Fixed → Type 0) (side side' : RamSideIs P) → side' ≡ side
    → R side'.fixed → R side.fixed
fixed-as {P} R side side' same it = subst (λ (x : RamSideIs P). R x.fixed) same it

pub turn-as : {Q : Type 0} (side side' : RingSideIs Q) (ring : List RingEntry) (n : ℕ)
    → side' ≡ side → IsOwnTurn side' ring n → IsOwnTurn side ring n
turn-as {Q} side side' ring n same t = subst (λ (x : RingSideIs Q). IsOwnTurn x ring n) same t
