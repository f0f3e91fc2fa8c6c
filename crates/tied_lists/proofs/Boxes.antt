-- Boxes of frames, and paths that change.
use Rattle.std.proofs.Common.{◌≡◌, ℕ, ◌+◌, ◌≤◌, ◌==◌, ◌&&◌, Bool, true, false, cond}
use Rattle.std.proofs.Common.{not, List, [], ◌∷◌, ◌++◌, get_or, set, drop, filter}
use Rattle.std.proofs.Common.{count_by, refl, sym, ap, subst, ⊎_elim, arith}
use Rattle.std.proofs.Common.{get_or-set_other}
use Rattle.std.specs.List.{AllByRecursion as Each}
use Rattle.std.proofs.lemmas.Bool.{eq-eqb, ne_eqb, cases_Bool}
use Rattle.std.proofs.lemmas.Bool.{cond_both}
use Rattle.std.proofs.lemmas.List.Sums.{sum_by-cons, sum_by_push}
use Rattle.tied_lists.specs.Words.{CallId, FrameKind, Request, Reply, Frame}
use Rattle.ring_core.specs.declared.path.Await.{Await}
use Rattle.ring_core.specs.declared.path.Await.TheVariants.{Nothing, Out, Arrived, Failed}
use Rattle.ring_core.specs.declared.path.Path.{Path}
use Rattle.ring_core.specs.Words.{asks}
use Rattle.ring_core.specs.Machine.{no_path, waits_for}

pub each-push : {X : Type 0} (P : X → Type 0) (xs : List X) (x : X) → Each P xs → P x
    → Each P (xs ++ x ∷ [])
each-push P [] x e p = (p, tt)
each-push P (y ∷ ys) x e p = (e.0, each-push P ys x e.1 p)

pub each-drop : {X : Type 0} (P : X → Type 0) (xs : List X) → Each P xs → Each P (drop 1 xs)
each-drop P [] e = tt
each-drop P (y ∷ ys) e = e.1

pub each-map : {X : Type 0} (P Q : X → Type 0) (xs : List X) → ((x : X) → P x → Q x)
    → Each P xs → Each Q xs
each-map P Q [] f e = tt
each-map P Q (x ∷ xs) f e = (f x e.0, each-map P Q xs f e.1)

pub each-filter : {X : Type 0} (P Q : X → Type 0) (test : X → Bool) (xs : List X)
    → ((x : X) → test x ≡ true → P x → Q x) → Each P xs → Each Q (filter test xs)
each-filter P Q test [] f e = tt
each-filter P Q test (x ∷ xs) f e =
    cond_both (test x) (x ∷ filter test xs) (filter test xs) (Each Q)
    (λ (y : test x ≡ true). (f x y e.0, each-filter P Q test xs f e.1))
    (λ _. each-filter P Q test xs f e.1)

pub one-if : (b : Bool) → b ≡ true → (◌≡◌) {A = ℕ} (cond b 1 0) 1
one-if true e = refl
one-if false e = absurd (cc)

pub none-if : (b : Bool) → b ≡ false → (◌≡◌) {A = ℕ} (cond b 1 0) 0
none-if true e = absurd (cc)
none-if false e = refl

-- where nothing is counted, nothing passes
pub each-none : {X : Type 0} (P Q : X → Type 0) (test : X → Bool) (xs : List X)
    → ((x : X) → test x ≡ false → P x → Q x) → count_by test xs ≡ 0 → Each P xs → Each Q xs
each-none P Q test [] f none e = tt
each-none P Q test (x ∷ xs) f none e =
    let c = sum_by-cons (λ y. cond (test y) 1 0) x xs in
    ⊎_elim (λ (y : test x ≡ true). absurd (let o = one-if (test x) y in omega (arith, c, o, none)))
    (λ (no' : test x ≡ false). (
      f x no' e.0,
      each-none P Q test xs f (let o = none-if (test x) no' in omega (arith, c, o, none)) e.1,
    ))
    (cases_Bool (test x))

pub at-most-one : (b : Bool) → cond {A = ℕ} b 1 0 ≤ 1
at-most-one true = omega arith
at-most-one false = omega arith

pub count-cons : {X : Type 0} (p : X → Bool) (x : X) (xs : List X)
    → count_by p (x ∷ xs) ≡ cond (p x) 1 0 + count_by p xs
count-cons p x xs = sum_by-cons (λ y. cond (p y) 1 0) x xs

pub count-push : {X : Type 0} (p : X → Bool) (xs : List X) (x : X)
    → count_by p (xs ++ x ∷ []) ≡ count_by p xs + cond (p x) 1 0
count-push p xs x = sum_by_push (λ y. cond (p y) 1 0) xs x

pub count-drop : {X : Type 0} (p : X → Bool) (xs : List X) → count_by p (drop 1 xs) ≤ count_by p xs
count-drop p [] = omega arith
count-drop p (x ∷ xs) = let c = count-cons p x xs in omega (arith, c)

pub count-filter : {X : Type 0} (p q : X → Bool) (xs : List X)
    → count_by p (filter q xs) ≤ count_by p xs
count-filter p q [] = omega arith
count-filter p q (x ∷ xs) =
    let c = count-cons p x xs in let h = count-filter p q xs in
    cond_both (q x) (x ∷ filter q xs) (filter q xs) (λ l. count_by p l ≤ count_by p (x ∷ xs))
    (λ _. let d = count-cons p x (filter q xs) in omega (arith, c, d, h)) (λ _. omega (arith, c, h))

-- none fails the test
pub count-each : {X : Type 0} (p : X → Bool) (xs : List X) → Each (λ x. p x ≡ false) xs
    → count_by p xs ≡ 0
count-each p [] e = refl
count-each p (x ∷ xs) e = let c = count-cons p x xs in let o = none-if (p x) e.0 in
    let h = count-each p xs e.1 in omega (arith, c, o, h)

-- Requests and Replies of a path
abbrev pub asks_on : ℕ → Frame → Bool
asks_on p f = asks f.kind && f.id.path == p

abbrev pub replies_on : ℕ → Frame → Bool
replies_on p f = not (asks f.kind) && f.id.path == p

-- a Request is out on its path
abbrev pub OutOn : List Path → FrameKind → CallId → Type 0
OutOn ps Request id = waits_for (get_or ps id.path no_path).awaits id.seq ≡ true
OutOn ps Reply id = Unit {0}

-- a Reply has come to a path of its node; a Request is of another
abbrev pub CameOn : ℕ → List Path → FrameKind → CallId → Type 0
CameOn n ps Request id = id.node ≡ n → ⊥
CameOn n ps Reply id = ((get_or ps id.path no_path).awaits ≡ Arrived id.seq) × (id.node ≡ n)

abbrev pub IsSent : List Path → Frame → Type 0
IsSent ps f = OutOn ps f.kind f.id

abbrev pub HasCome : ℕ → List Path → Frame → Type 0
HasCome n ps f = CameOn n ps f.kind f.id

-- what a path awaits
abbrev pub is_out : Await → Bool
is_out Nothing = false
is_out (Out seq to onward passes) = true
is_out (Arrived seq) = false
is_out (Failed seq word) = false

abbrev pub has_arrived : Await → Bool
has_arrived Nothing = false
has_arrived (Out seq to onward passes) = false
has_arrived (Arrived seq) = true
has_arrived (Failed seq word) = false

pub waits-out : (a : Await) (seq : ℕ) → waits_for a seq ≡ true → is_out a ≡ true
waits-out Nothing seq w = absurd (let no' : false ≡ true = w in cc)
waits-out (Out s to onward passes) seq w = refl
waits-out (Arrived s) seq w = absurd (let no' : false ≡ true = w in cc)
waits-out (Failed s word) seq w = absurd (let no' : false ≡ true = w in cc)

pub out-not-arrived : (a : Await) → is_out a ≡ true → has_arrived a ≡ false
out-not-arrived Nothing w = refl
out-not-arrived (Out s to onward passes) w = refl
out-not-arrived (Arrived s) w = absurd (let no' : false ≡ true = w in cc)
out-not-arrived (Failed s word) w = refl

pub arrived-not-out : (a : Await) → has_arrived a ≡ true → is_out a ≡ false
arrived-not-out Nothing w = refl
arrived-not-out (Out s to onward passes) w = absurd (let no' : false ≡ true = w in cc)
arrived-not-out (Arrived s) w = refl
arrived-not-out (Failed s word) w = refl

-- another path
pub out-apart : (ps : List Path) (q : ℕ) (v : Path) (kind : FrameKind) (id : CallId)
    → (kind ≡ Request → id.path ≡ q → ⊥) → OutOn
    ps kind id → OutOn (set ps q v) kind id
out-apart ps q v Request id apart o = subst (λ (x : Path). waits_for x.awaits id.seq ≡ true)
    (sym (get_or-set_other ps q id.path v no_path (apart refl))) o
out-apart ps q v Reply id apart o = tt

pub came-apart : (n : ℕ) (ps : List Path) (q : ℕ) (v : Path) (kind : FrameKind) (id : CallId)
    → (kind ≡ Reply → id.path ≡ q → ⊥) → CameOn n ps kind id → CameOn n (set ps q v) kind id
came-apart n ps q v Request id apart o = o
came-apart n ps q v Reply id apart o = (
  subst (λ (x : Path). x.awaits ≡ Arrived id.seq)
      (sym (get_or-set_other ps q id.path v no_path (apart refl))) o.0,
  o.1,
)

-- a path that is not out changes: what is sent stays out
not-here : (ps : List Path) (q : ℕ) (kind : FrameKind) (id : CallId)
    → is_out (get_or ps q no_path).awaits ≡ false → OutOn ps kind
    id → kind ≡ Request → id.path ≡ q → ⊥
not-here ps q Request id no' o is same =
    let w : is_out (get_or ps id.path no_path).awaits ≡ true =
    waits-out (get_or ps id.path no_path).awaits id.seq o in
    let e : is_out (get_or ps q no_path).awaits ≡ true =
    subst (λ (p : ℕ). is_out (get_or ps p no_path).awaits ≡ true) same w in cc
not-here ps q Reply id no' o is same = absurd (cc)

pub sent-apart : (ps : List Path) (q : ℕ) (v : Path) (box : List Frame)
    → is_out (get_or ps q no_path).awaits ≡ false → Each
    (IsSent ps) box → Each (IsSent (set ps q v)) box
sent-apart ps q v box no' all = each-map (IsSent ps) (IsSent (set ps q v)) box
    (λ f o. out-apart ps q v f.kind f.id (not-here ps q f.kind f.id no' o) o) all

not-came : (n : ℕ) (ps : List Path) (q : ℕ) (kind : FrameKind) (id : CallId)
    → has_arrived (get_or ps q no_path).awaits ≡ false → CameOn n ps kind id → kind ≡ Reply
    → id.path ≡ q → ⊥
not-came n ps q Request id no' o is same = absurd (cc)
not-came n ps q Reply id no' o is same =
    let e : has_arrived (get_or ps q no_path).awaits ≡ true = subst
    (λ (p : ℕ). has_arrived (get_or ps p no_path).awaits ≡ true) same (ap has_arrived o.0) in cc

pub come-apart : (n : ℕ) (ps : List Path) (q : ℕ) (v : Path) (box : List Frame)
    → has_arrived (get_or ps q no_path).awaits ≡ false
    → Each (HasCome n ps) box → Each (HasCome n (set ps q v)) box
come-apart n ps q v box no' all =
    each-map (HasCome n ps) (HasCome n (set ps q v)) box (λ f o. came-apart n ps q v f.kind f.id
    (not-came n ps q f.kind f.id no' o) o) all

-- the only one of a path is gone
asks-apart : (q : ℕ) (kind : FrameKind) (path : ℕ) → (asks kind && path == q) ≡ false
    → kind ≡ Request → path ≡ q → ⊥
asks-apart q Request path no' is same = let e : (path == q) ≡ true = eq-eqb path q same in cc
asks-apart q Reply path no' is same = absurd (cc)

replies-apart : (q : ℕ) (kind : FrameKind) (path : ℕ) → (not (asks kind) && path == q) ≡ false
    → kind ≡ Reply → path ≡ q → ⊥
replies-apart q Request path no' is same = absurd (cc)
replies-apart q Reply path no' is same = let e : (path == q) ≡ true = eq-eqb path q same in cc

pub sent-rest : (ps : List Path) (q : ℕ) (v : Path) (box : List Frame)
    → count_by (asks_on q) box ≡ 0 → Each (IsSent ps) box → Each (IsSent (set ps q v)) box
sent-rest ps q v box none all = each-none (IsSent ps) (IsSent (set ps q v)) (asks_on q) box
    (λ f no' o. out-apart ps q v f.kind f.id (asks-apart q f.kind f.id.path no') o) none all

pub come-rest : (n : ℕ) (ps : List Path) (q : ℕ) (v : Path) (box : List Frame)
    → count_by (replies_on q) box ≡ 0 → Each (HasCome n
    ps) box → Each (HasCome n (set ps q v)) box
come-rest n ps q v box none all =
    each-none (HasCome n ps) (HasCome n (set ps q v)) (replies_on q) box
    (λ f no' o. came-apart n ps q v f.kind f.id (replies-apart q f.kind f.id.path no') o) none all

-- a path that is not out has nothing in the outbox
on-if : (ps : List Path) (q : ℕ) (kind : FrameKind) (id : CallId)
    → is_out (get_or ps q no_path).awaits ≡ false → OutOn ps kind id
    → (asks kind && id.path == q) ≡ false
on-if ps q Request id no' o = ne_eqb id.path q (not-here ps q Request id no' o refl)
on-if ps q Reply id no' o = refl

pub none-out : (ps : List Path) (q : ℕ) (box : List Frame) → is_out (get_or ps q no_path).awaits
    ≡ false → Each (IsSent ps) box → count_by (asks_on q) box ≡ 0
none-out ps q box no' all = count-each (asks_on q) box
    (each-map (IsSent ps) (λ f. asks_on q f ≡ false) box (λ f o. on-if ps q f.kind f.id no' o) all)

in-if : (n : ℕ) (ps : List Path) (q : ℕ) (kind : FrameKind) (id : CallId)
    → has_arrived (get_or ps q no_path).awaits ≡ false → CameOn n ps kind id
    → (not (asks kind) && id.path == q) ≡ false
in-if n ps q Request id no' o = refl
in-if n ps q Reply id no' o = ne_eqb id.path q (not-came n ps q Reply id no' o refl)

pub none-in : (n : ℕ) (ps : List Path) (q : ℕ) (box : List Frame)
    → has_arrived (get_or ps q no_path).awaits ≡ false → Each
    (HasCome n ps) box → count_by (replies_on q) box ≡ 0
none-in n ps q box no' all =
    count-each (replies_on q) box (each-map (HasCome n ps) (λ f. replies_on q f ≡ false) box (λ f o.
    in-if n ps q f.kind f.id no' o) all)
