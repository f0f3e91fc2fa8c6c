-- Calls that a host's worker gives up, path by path.
use Rattle.std.proofs.Common.{◌≡◌, ℕ, zero, suc, ◌+◌, ◌<◌, ◌≤◌, ◌==◌, ◌||◌, Bool, true, false, cond}
use Rattle.std.proofs.Common.{List}
use Rattle.std.proofs.Common.{[], ◌∷◌, ◌++◌, map, take, get_or, Option, Some, None, refl, sym, ap}
use Rattle.std.proofs.Common.{◌∙◌}
use Rattle.std.proofs.Common.{subst, arith, append_assoc, append-nil, eq-eqb}
use Rattle.std.specs.Prelude.{is_none}
use Rattle.std.specs.List.{cons_option, filter, list_any, AllByRecursion as Each}
use Rattle.std.proofs.lemmas.List.{map-append}
use Rattle.std.proofs.lemmas.List.Elements.{filter-append}
use Rattle.plant_types.specs.declared.net.NetPlan.{NetPlan}
use Rattle.mstr_block.specs.Table.{network_paths}
use Rattle.mstr_block.specs.declared.call.CallId.{CallId}
use Rattle.ring_core.specs.Legal.{IsLegalRing}
use Rattle.ring_core.specs.Machine.{is_here, awaited_number, NodeIs, path_of, ring_after}
use Rattle.ring_core.specs.Refusals.{give_up_no}
use Rattle.ring_core.specs.declared.frame.Frame.{Frame}
use Rattle.ring_core.specs.declared.path.Path.{Path}
use Rattle.ring_core.specs.declared.path.Await.{Await}
use Rattle.ring_core.specs.declared.path.Await.TheVariants.{Nothing, Out, Arrived, Failed}
use Rattle.ring_core.specs.declared.entry.RingEntry.{RingEntry}
use Rattle.host_port.specs.declared.entry.HostEntry.{HostEntry}
use Rattle.host_port.specs.declared.entry.HostEntry.TheVariants.{Answer}
use Rattle.host_port.specs.declared.entry.HostResult.TheVariants as results
use Rattle.host_port.specs.Host.{HostIs}
use Rattle.host_port.proofs.Lists.{all_filter}
use Rattle.tied_lists.specs.Own.{is_of, own, Grew, WentOn}
use Rattle.tied_lists.specs.Waits.{AwaitsThis, HasLeft, IsFree, IsOnRing, waiting}
use Rattle.tied_lists.proofs.Growth.{grew-more, grew-one}
use Rattle.tied_lists.proofs.Histories.{legal-follows}
use Rattle.tied_lists.proofs.Turns.{Found, part, unmoved}
use Rattle.comm_port.specs.Sides.{RingSideIs}
use Rattle.comm_port.specs.Sending.{GaveUp, sends_left}
use Rattle.comm_port.specs.Giving.{due_calls, due_on, part_at, is_chosen}
use Rattle.comm_port.specs.HostTurns.{bad_answer_of, GivenUp}
use Rattle.comm_port.specs.HostTurns.{GivesUpDue, give_up_of, HostTurning, wanted_path}
use Rattle.comm_port.proofs.HostRuns.{all-let, due-both, due-nothing, due-one, due-same, ends_on}
use Rattle.comm_port.proofs.HostRuns.{kept_for, kept-why, left-grew, still-none}
use Rattle.comm_port.proofs.Dues.{named-by}
use Rattle.comm_port.proofs.RingTurns.{on-grew, on-still}

-- ---- one path

-- nothing was given up, as nothing goes
gives-none : (alone : Bool) (net : NetPlan) (n p : ℕ) (list : List HostEntry) (a b : List RingEntry)
    → IsOnRing net b n → IsFree net a n
    → Grew alone (is_of n) a [] b → due_calls net n a (p ∷ []) ≡ []
    → GivesUpDue alone net n (p ∷ []) list list a b
gives-none alone net n p list a b on free grew none = record {
  ends = [];
  calls = sym none;
  grew = grew;
  answers = sym (append-nil list);
  none_left = still-none net n [] a b (p ∷ []) free (left-grew alone net n [] a b on free grew)
      none;
}

nothing-of : (a : Await) (w : Option Frame) → awaited_number a ≡ 0 → AwaitsThis a w
    → ((f : Frame) → w ≡ Some f → 0 < f.id.seq) → a ≡ Nothing
nothing-of Nothing w is this some = refl
nothing-of (Out s to onward passes) None is this some = absurd this
nothing-of (Arrived s) None is this some = absurd this
nothing-of (Failed s word) None is this some = absurd this
nothing-of (Out s to onward passes) (Some f) is this some = absurd
    (let pos = some f refl in let zero' : f.id.seq ≡ 0 = sym this ∙ is in omega arith)
nothing-of (Arrived s) (Some f) is this some = absurd
    (let pos = some f refl in let zero' : f.id.seq ≡ 0 = sym this ∙ is in omega arith)
nothing-of (Failed s word) (Some f) is this some = absurd
    (let pos = some f refl in let zero' : f.id.seq ≡ 0 = sym this ∙ is in omega arith)

-- a look at a path
pub record LooksAt (net : NetPlan) (n p seq : ℕ) (a b : List RingEntry) : Type 0 where
  pub on : IsOnRing net b n
  pub found : Found net n a b
  pub seq_is : seq ≡ awaited_number (path_of (part net b n) p).awaits

pub looks-at : {Q : Type 0} (alone : Bool) (n p seq : ℕ) (host : HostIs) (side : RingSideIs Q)
    (a b : List RingEntry) → HostTurning n host side a
    → IsLegalRing side.net b → WentOn alone (is_of n) a [] b
    → seq ≡ awaited_number (path_of (part side.net b n) p).awaits → LooksAt side.net n p seq a b
looks-at alone n p seq host side a b t legal went is =
    let on = on-still side alone a b n t.own_turn legal went in
    record { on = on; found = unmoved side.net n alone a b on went t.own_turn.free; seq_is = is }

pub gives-zero : {Q : Type 0} (alone : Bool) (n p seq : ℕ) (host : HostIs) (side : RingSideIs Q)
    (list : List HostEntry) (a b : List RingEntry)
    → HostTurning n host side a → IsLegalRing side.net b → WentOn alone (is_of n) a [] b
    → seq ≡ awaited_number (path_of (part side.net b n) p).awaits → seq ≡ 0
    → GivesUpDue alone side.net n (p ∷ []) list list a b
gives-zero alone n p seq host side list a b t legal went is zero' =
    let l = looks-at alone n p seq host side a b t legal went is in
    let follows = (legal-follows side.net b n l.on).node.part in
    let awaits = (path_of (part side.net b n) p).awaits in
    let none : awaits ≡ Nothing = nothing-of awaits (waiting p (own n b)) (sym is ∙ zero')
    (follows.paths p) (λ f w. (follows.asks p f w).number) in
    let before : (path_of (part side.net a n) p).awaits ≡ Nothing = ap
    (λ (c : NodeIs). (path_of c p).awaits) (sym l.found.part_is) ∙ none in
    gives-none alone side.net n p list a b l.on t.own_turn.free
    (grew-one alone (is_of n) a [] b refl went) (due-nothing side.net a n p before)

-- the ring does not let it go
pub gives-kept : {Q : Type 0} (alone : Bool) (n p seq : ℕ) (host : HostIs) (side : RingSideIs Q)
    (list : List HostEntry) (a b c : List RingEntry)
    → HostTurning n host side a → IsLegalRing side.net b → WentOn alone (is_of n) a [] b
    → seq ≡ awaited_number (path_of (part side.net b n) p).awaits
    → GaveUp alone side.net (record { node = n; path = p; seq = seq }) b c None
    → IsLegalRing side.net c
    → is_none (give_up_no side.net (ring_after side.net c)
    (record { node = n; path = p; seq = seq })) ≡ false
    → GivesUpDue alone side.net n (p ∷ []) list list a c
gives-kept alone n p seq host side list a b c t legal went is gave legal' kept =
    let net = side.net in
    let l = looks-at alone n p seq host side a b t legal went is in
    let grew : Grew alone (is_of n) a [] c = grew-more alone (is_of n) a b c [] []
    (grew-one alone (is_of n) a [] b refl went) gave.grew in
    let on = on-grew alone side.net n a [] c t.own_turn.on legal' tt grew in
    let left = left-grew alone net n [] a c on t.own_turn.free grew in
    let path : path_of (part net c n) p ≡ path_of (part net a n) p = left.others p refl in
    let number : seq ≡ awaited_number (path_of (part net c n) p).awaits =
    is ∙ ap (λ (x : NodeIs). awaited_number (path_of x p).awaits) l.found.part_is ∙ ap
    (λ (x : Path). awaited_number x.awaits) (sym path) in
    let why = kept-why net c n p seq left.free in
    let no' : is_none (kept_for net.answer (is_here (part net c n))
    (path_of (part net c n) p).awaits
    seq) ≡ false = ap is_none (sym why) ∙ kept in
    let here = (is_here (part net c n)) in
    let awaits = (path_of (part net c n) p).awaits in
    let no'' : is_none (kept_for net.answer here awaits (awaited_number awaits)) ≡ false =
    ap (λ (k : ℕ). is_none (kept_for net.answer here awaits k)) (sym number) ∙ no' in
    let none : due_calls net n c (p ∷ []) ≡ [] = due-one net c n p
    ∙ ap (λ (g : Bool). cond g (record { node = n; path = p; seq = awaited_number awaits } ∷ []) [])
    no'' in
    gives-none alone net n p list a c on t.own_turn.free grew
    (sym (due-same net a c n p left.here path) ∙ none)

-- it does
pub gives-word : {Q : Type 0} (alone : Bool) (n p seq word : ℕ) (host : HostIs)
    (side : RingSideIs Q) (list new : List HostEntry) (a b c : List RingEntry)
    → HostTurning n host side a → IsLegalRing side.net b → WentOn alone (is_of n) a [] b
    → seq ≡ awaited_number (path_of (part side.net b n) p).awaits
    → GaveUp alone side.net (record { node = n; path = p; seq = seq }) b c (Some word)
    → IsLegalRing side.net c
    → new ≡ list ++ Answer (record { node = n; path = p; seq = seq }) (results.Bad word) ∷ []
    → GivesUpDue alone side.net n (p ∷ []) list new a c
gives-word alone n p seq word host side list new a b c t legal went is gave legal' new_is =
    let net = side.net in
    let id : CallId = record { node = n; path = p; seq = seq } in
    let end : GivenUp = record { id = id; word = word } in
    let l = looks-at alone n p seq host side a b t legal went is in
    let free = t.own_turn.free in
    let grew : Grew alone (is_of n) a (give_up_of end ∷ []) c =
    grew-more alone (is_of n) a b c [] (give_up_of end ∷ [])
    (grew-one alone (is_of n) a [] b refl went) gave.grew in
    let on = on-grew alone side.net n a (give_up_of end ∷ []) c t.own_turn.on legal' (tt, tt) grew
    in
    let left = left-grew alone net n (end ∷ []) a c on free grew in
    let awaits = (path_of (part net a n) p).awaits in
    let here = (is_here (part net a n)) in
    let number : seq ≡ awaited_number awaits = is ∙ ap
    (λ (x : NodeIs). awaited_number (path_of x p).awaits) l.found.part_is in
    let lets : kept_for net.answer here awaits seq ≡ None = all-let alone net n end a c on free grew
    refl in
    let lets' : is_none (kept_for net.answer here awaits (awaited_number awaits)) ≡ true =
    ap (λ (k : ℕ). is_none (kept_for net.answer here awaits k)) (sym number) ∙ ap is_none lets in
    let due : due_calls net n a (p ∷ []) ≡ id ∷ [] = due-one net a n p
    ∙ ap (λ (g : Bool). cond g (record { node = n; path = p; seq = awaited_number awaits } ∷ []) [])
    lets'
    ∙ ap (λ (k : ℕ). record { node = n; path = p; seq = k } ∷ []) (sym number) in
    record {
      ends = end ∷ [];
      calls = sym due;
      grew = grew;
      answers = new_is;
      none_left = due-nothing net c n p (left.ended p (itself p));
    }
  where
    itself : (p : ℕ) → ((p == p) || false) ≡ true
    itself p = ap (λ (b : Bool). b || false) (eq-eqb p p refl)

-- ---- path after path

pub none-ids : (ends : List GivenUp) → map (λ (g : GivenUp). g.id) ends ≡ [] → ends ≡ []
none-ids [] is = refl
none-ids (g ∷ ends) is = absurd (cc)

any-of-ids : (q : ℕ) (ends : List GivenUp)
    → list_any (ends_on q) ends ≡ list_any (λ (id : CallId). id.path == q)
    (map (λ (g : GivenUp). g.id) ends)
any-of-ids q [] = refl
any-of-ids q (g ∷ ends) = ap (λ (b : Bool). (g.id.path == q) || b) (any-of-ids q ends)

none-of-due : (net : NetPlan) (ring : List RingEntry) (n q : ℕ) (ps : List ℕ)
    → Each (λ p. (p == q) ≡ false) ps
    → list_any (λ (id : CallId). id.path == q) (due_calls net n ring ps) ≡ false
none-of-due net ring n q [] each = refl
none-of-due net ring n q (p ∷ ps) each = by (due_on net n (part_at net n ring) p) refl
    (none-of-due net ring n q ps each.1)
  where
    rest : List CallId
    rest = due_calls net n ring ps

    by : (o : Option CallId) → due_on net n (part_at net n ring) p ≡ o
        → list_any (λ (id : CallId). id.path == q) rest ≡ false
        → list_any (λ (id : CallId). id.path == q) (cons_option o rest) ≡ false
    by None is none = none
    by (Some id) is none =
        let path = (named-by net n p (part_at net n ring) id is).path in
        ap (λ (k : ℕ). (k == q) || list_any (λ (x : CallId). x.path == q) rest) path
        ∙ ap (λ (b : Bool). b || list_any (λ (x : CallId). x.path == q) rest) each.0 ∙ none

pub gives-both : (alone : Bool) (net : NetPlan) (n q : ℕ) (ps : List ℕ) (l l' l'' : List HostEntry)
    (a b c : List RingEntry) → IsOnRing net b n
    → IsOnRing net c n → IsFree net a n → Each (λ p. (p == q) ≡ false) ps
    → GivesUpDue alone net n ps l l' a b
    → GivesUpDue alone net n (q ∷ []) l' l'' b c → GivesUpDue alone net n (ps ++ q ∷ []) l l'' a c
gives-both alone net n q ps l l' l'' a b c on on' free apart x y =
    let id_of : GivenUp → CallId = λ (g : GivenUp). g.id in
    let left = left-grew alone net n x.ends a b on free x.grew in
    let left' = left-grew alone net n y.ends b c on' left.free y.grew in
    let not_on : list_any (ends_on q) x.ends ≡ false = any-of-ids q x.ends
    ∙ ap (list_any (λ (id : CallId). id.path == q)) x.calls ∙ none-of-due net a n q ps apart in
    let same : due_calls net n b (q ∷ []) ≡ due_calls net n a (q ∷ []) = due-same net a b n q
    left.here (left.others q not_on) in
    record {
      ends = x.ends ++ y.ends;
      calls = map-append id_of x.ends y.ends ∙ (λ i. x.calls i ++ (y.calls ∙ same) i) ∙ sym
          (due-both net a n ps (q ∷ []));
      grew = subst (λ (added : List RingEntry). Grew alone (is_of n) a added c)
          (sym (map-append give_up_of x.ends y.ends))
          (grew-more alone (is_of n) a b c (map give_up_of x.ends) (map give_up_of y.ends) x.grew
          y.grew);
      answers = y.answers ∙ ap (λ h. h ++ map bad_answer_of y.ends) x.answers ∙ append_assoc l
          (map bad_answer_of x.ends) (map bad_answer_of y.ends)
          ∙ ap (λ h. l ++ h) (sym (map-append bad_answer_of x.ends y.ends));
      none_left = due-both net c n ps (q ∷ [])
          ∙ (λ i. still-none net n y.ends b c ps left.free left' x.none_left i ++ y.none_left i);
    }

-- no path more
gives-none-more : (alone : Bool) (net : NetPlan) (n : ℕ) (ps : List ℕ) (l l' l'' : List HostEntry)
    (a b c : List RingEntry) → IsOnRing net b n
    → IsOnRing net c n → IsFree net a n → GivesUpDue alone net n ps l l' a b
    → GivesUpDue alone net n [] l' l'' b c
    → GivesUpDue alone net n (ps ++ []) l l'' a c
gives-none-more alone net n ps l l' l'' a b c on on' free x y =
    let left = left-grew alone net n x.ends a b on free x.grew in
    let none : y.ends ≡ [] = none-ids y.ends y.calls in
    let grew : Grew alone (is_of n) b [] c = subst
    (λ (e : List GivenUp). Grew alone (is_of n) b (map give_up_of e) c) none y.grew in
    let left' = left-grew alone net n [] b c on' left.free grew in
    subst (λ (k : List ℕ). GivesUpDue alone net n k l l'' a c) (sym (append-nil ps)) (record {
      ends = x.ends;
      calls = x.calls;
      grew = subst (λ (added : List RingEntry). Grew alone (is_of n) a added c)
          (append-nil (map give_up_of x.ends))
          (grew-more alone (is_of n) a b c (map give_up_of x.ends) [] x.grew grew);
      answers = y.answers ∙ ap (λ (e : List GivenUp). l' ++ map bad_answer_of e) none ∙ append-nil
          l' ∙ x.answers;
      none_left = still-none net n [] b c ps left.free left' x.none_left;
    })

-- the paths of a loop so far
abbrev pub paths_to : List Bool → ℕ → List ℕ
paths_to which i = filter (is_chosen which) (take i network_paths)

at-four : (P : ℕ → Type 0) → P 0 → P 1 → P 2 → P 3 → (i : ℕ) → i < 4 → P i
at-four P zero' one two three zero low = zero'
at-four P zero' one two three (suc zero) low = one
at-four P zero' one two three (suc (suc zero)) low = two
at-four P zero' one two three (suc (suc (suc zero))) low = three
at-four P zero' one two three (suc (suc (suc (suc i)))) low = absurd (omega (arith, low))

abbrev NextPath : List Bool → ℕ → Type 0
NextPath which i = (paths_to which (i + 1) ≡ paths_to which i ++ filter (is_chosen which)
    (get_or network_paths i 0 ∷ []))
    × Each (λ p. (p == get_or network_paths i 0) ≡ false) (take i network_paths)

next-path : (which : List Bool) (i : ℕ) → i < 4 → NextPath which i
next-path which i low = at-four (NextPath which)
    (filter-append (is_chosen which) [] (1 ∷ []), tt)
    (filter-append (is_chosen which) (1 ∷ []) (2 ∷ []), (refl, tt))
    (filter-append (is_chosen which) (1 ∷ 2 ∷ []) (3 ∷ []), (refl, (refl, tt)))
    (filter-append (is_chosen which) (1 ∷ 2 ∷ 3 ∷ []) (4 ∷ []), (refl, (refl, (refl, tt))))
    i low

pub gives-next : (alone : Bool) (net : NetPlan) (n i path : ℕ) (which : List Bool) (wanted : Bool)
    (l l' l'' : List HostEntry) (a b c : List RingEntry)
    → i < 4 → path ≡ get_or network_paths i 0 → wanted ≡ is_chosen which path → IsOnRing net b n
    → IsOnRing net c n → IsFree net a n
    → GivesUpDue alone net n (paths_to which i) l l' a b
    → GivesUpDue alone net n (wanted_path wanted path) l' l'' b c
    → GivesUpDue alone net n (paths_to which (i + 1)) l l'' a c
gives-next alone net n i path which wanted l l' l'' a b c low is is_wanted on on' free x y =
    let next = next-path which i low in
    let q = get_or network_paths i 0 in
    let apart = all_filter (λ p. (p == q) ≡ false) (is_chosen which) (take i network_paths) next.1
    in
    let y' : GivesUpDue alone net n (wanted_path (is_chosen which q) q) l' l'' b c =
    subst (λ (k : ℕ). GivesUpDue alone net n (wanted_path (is_chosen which k) k) l' l'' b c) is
    (subst (λ (w : Bool). GivesUpDue alone net n (wanted_path w path) l' l'' b c) is_wanted y) in
    subst (λ (k : List ℕ). GivesUpDue alone net n k l l'' a c)
    (sym (next.0 ∙ ap (λ (k : List ℕ). paths_to which i ++ k) (one (is_chosen which q) q)))
    (both (is_chosen which q) q (paths_to which i) apart x y')
  where
    one : (w : Bool) (q : ℕ) → cond w (q ∷ []) [] ≡ wanted_path w q
    one true q = refl
    one false q = refl

    both : (w : Bool) (q : ℕ) (ps : List ℕ) → Each (λ p. (p == q) ≡ false) ps
        → GivesUpDue alone net n ps l l' a b
        → GivesUpDue alone net n (wanted_path w q) l' l'' b c
        → GivesUpDue alone net n (ps ++ wanted_path w q) l l'' a c
    both true q ps apart x y = gives-both alone net n q ps l l' l'' a b c on on' free apart x y
    both false q ps apart x y = gives-none-more alone net n ps l l' l'' a b c on on' free x y

pub gives-at : {Q : Type 0} (alone : Bool) (n : ℕ) (ps : List ℕ) (l l' : List HostEntry)
    (a b : List RingEntry) (side side' : RingSideIs Q)
    → side' ≡ side → GivesUpDue alone side.net n ps l l' a b
    → GivesUpDue alone side'.net n ps l l' a b
gives-at {Q} alone n ps l l' a b side side' same x = subst
    (λ (s : RingSideIs Q). GivesUpDue alone s.net n ps l l' a b) (sym same) x

-- what stays as it was, by a side that is the same
pub less-at : {Q : Type 0} (n : ℕ) (side side' : RingSideIs Q) (a b c : List RingEntry)
    → side' ≡ side → sends_left side.net b n ≤ sends_left side.net a n
    → sends_left side'.net c n ≤ sends_left side'.net b n
    → sends_left side.net c n ≤ sends_left side.net a n
less-at {Q} n side side' a b c same one two =
    let two' = subst (λ (s : RingSideIs Q). sends_left s.net c n ≤ sends_left s.net b n) same two in
    omega (arith, one, two')

pub left-at : {Q : Type 0} (n : ℕ) (side side' : RingSideIs Q) (a b c : List RingEntry)
    → side' ≡ side → (HasLeft side.net a n → HasLeft side.net b n)
    → (HasLeft side'.net b n → HasLeft side'.net c n) → HasLeft side.net a n → HasLeft side.net c n
left-at {Q} n side side' a b c same one two gone' = subst
    (λ (s : RingSideIs Q). HasLeft s.net b n → HasLeft s.net c n) same two (one gone')
