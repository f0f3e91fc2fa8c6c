-- What a node's own give-ups leave of its part, wherever others' entries stand between them.
use Rattle.std.proofs.Common.{◌≡◌, ◌≢◌, ◌⊎◌, ℕ, ◌<◌, ◌==◌, ◌||◌, nat_le, Bool, true, false, cond}
use Rattle.std.proofs.Common.{List, []}
use Rattle.std.proofs.Common.{length, ◌∷◌, ◌++◌, map, get_or, set, Option, Some, None, refl, sym}
use Rattle.std.proofs.Common.{ap, ◌∙◌}
use Rattle.std.proofs.Common.{subst, inl, inr, ⊎_elim, arith, append_assoc, append-nil}
use Rattle.std.proofs.Common.{get_or-set_same, get_or-set_other, eq-eqb}
use Rattle.std.specs.Prelude.{if◌then◌else◌, is_none, ◌↔◌}
use Rattle.std.specs.List.{cons_option, list_any, AllByRecursion as Each}
use Rattle.std.proofs.lemmas.Bool.{cases_Bool, cases_eq, cond_both, eqb-true, leb-false, leb-true}
use Rattle.std.proofs.lemmas.Bool.{le-ltb}
use Rattle.std.proofs.lemmas.Bool.{lt-ltb}
use Rattle.std.proofs.lemmas.List.Folds.{list_any-append}
use Rattle.std.proofs.lemmas.List.Elements.{filter_map-append}
use Rattle.plant_types.specs.declared.net.NetPlan.{NetPlan}
use Rattle.mstr_block.specs.declared.call.CallId.{CallId}
use Rattle.ring_core.specs.Words.{maker}
use Rattle.ring_core.specs.Legal.{IsLegalRing, IsPath}
use Rattle.ring_core.specs.Machine.{is_here, awaited_number, no_path, NodeIs, passes_of}
use Rattle.ring_core.specs.Machine.{path_of, ring_after, ring_node, RingIs}
use Rattle.ring_core.specs.Refusals.{answer_after, awaited_no, due_no, free_no, give_up_no, or_no}
use Rattle.ring_core.specs.Refusals.{other_no}
use Rattle.ring_core.specs.declared.refusal.RingNo.{RingNo}
use Rattle.ring_core.specs.declared.refusal.RingNo.TheVariants.{Untaken, NotHolder}
use Rattle.ring_core.specs.declared.refusal.RingNo.TheVariants.{NoMemory, NotAwaited, NotDue}
use Rattle.ring_core.specs.declared.path.Path.{Path}
use Rattle.ring_core.specs.declared.path.Await.{Await}
use Rattle.ring_core.specs.declared.path.Await.TheVariants.{Nothing, Out, Arrived, Failed}
use Rattle.ring_core.specs.declared.entry.RingEntry.{RingEntry}
use Rattle.tied_lists.specs.Own.{is_of, own, Grew, WentOn}
use Rattle.tied_lists.specs.Waits.{HasLeft, Holds, IsFree, IsOnRing}
use Rattle.tied_lists.proofs.Histories.{legal-follows}
use Rattle.tied_lists.proofs.Turns.{after-give_up, Found, found-at, legal-parts, Moved, moved, part}
use Rattle.tied_lists.proofs.Turns.{patient-parts}
use Rattle.comm_port.proofs.RingTurns.{not-in}
use Rattle.comm_port.specs.Sides.{RingSideIs}
use Rattle.comm_port.specs.Giving.{due_by, due_calls, due_on, part_at, HasFailed}
use Rattle.comm_port.specs.HostTurns.{GivenUp, give_up_of}
use Rattle.comm_port.specs.Parts.{EachNext}
use Rattle.comm_port.specs.SendsAll.{IsNextSending}
use Rattle.comm_port.proofs.Parts.{each-both, each-others, one-each}

-- ---- one entry behind a history

pub on-front : (net : NetPlan) (n : ℕ) (a b : List RingEntry) → IsOnRing net (a ++ b) n
    → IsOnRing net a n
on-front net n a b on = record {
  members = on.members;
  legal = (legal-parts net a b on.legal).0;
  member = on.member;
  patient = (patient-parts net n [] a b on.patient).0;
}

pub on-step : (net : NetPlan) (n : ℕ) (past : List RingEntry) (e : RingEntry) (xs : List RingEntry)
    → IsOnRing net (past ++ e ∷ xs) n
    → IsOnRing net ((past ++ e ∷ []) ++ xs) n
on-step net n past e xs on = subst (λ (l : List RingEntry). IsOnRing net l n)
    (sym (append_assoc past (e ∷ []) xs)) on

-- that of another
pub other-step : (net : NetPlan) (n : ℕ) (past : List RingEntry) (e : RingEntry)
    → IsOnRing net (past ++ e ∷ []) n → IsFree net past n
    → is_of n e ≡ false → Found net n past (past ++ e ∷ [])
other-step net n past e on free other =
    found-at net n past (e ∷ []) on.legal (ap (λ (b : Bool). cond b (e ∷ []) []) other) free

-- a give-up of its own
pub own-step : (net : NetPlan) (n : ℕ) (past : List RingEntry) (e : RingEntry)
    → IsOnRing net (past ++ e ∷ []) n → IsFree net past n
    → maker e ≡ n → Moved net n past e (past ++ e ∷ [])
own-step net n past e on free mine =
    let went : WentOn false (is_of n) past (e ∷ []) (past ++ e ∷ []) = record {
      between = [];
      others = refl;
      none_alone = λ is. refl;
      after_is = ap (λ l. l ++ e ∷ []) (sym (append-nil past));
    } in
    moved net n false past e (past ++ e ∷ []) mine on went free

pub not-true-is : (b : Bool) (P : Type 0) → (b ≡ true) ↔ P → b ≡ false → P → ⊥
not-true-is b P same off is = let wrong : true ≡ false = sym (same.1 is) ∙ off in cc

-- a call that was refused, though memory was there
pub not-due : (no' : Option RingNo) (why : RingNo)
    → (no' ≡ Some why) ⊎ ((why ≡ NoMemory) × (no' ≡ None)) → why ≢ NoMemory → is_none no' ≡ false
not-due no' why refused other =
    ⊎_elim (λ (e : no' ≡ Some why). ap is_none e)
    (λ (e : (why ≡ NoMemory) × (no' ≡ None)). absurd (other e.0)) refused

pub legal-at : {Q : Type 0} (side side' : RingSideIs Q) (ring : List RingEntry) → side' ≡ side
    → IsLegalRing side'.net ring → IsLegalRing side.net ring
legal-at {Q} side side' ring same legal = subst (λ (s : RingSideIs Q). IsLegalRing s.net ring) same
    legal

pub not-due-at : {Q : Type 0} (side side' : RingSideIs Q) (ring : List RingEntry) (id : CallId)
    → side' ≡ side
    → is_none (give_up_no side'.net (ring_after side'.net ring) id) ≡ false
    → is_none (give_up_no side.net (ring_after side.net ring) id) ≡ false
not-due-at {Q} side side' ring id same no' =
    subst (λ (s : RingSideIs Q). is_none (give_up_no s.net (ring_after s.net ring) id) ≡ false) same
    no'

-- ---- what give-ups leave

-- a call that was given up on this path
abbrev pub ends_on : ℕ → GivenUp → Bool
ends_on path end = end.id.path == path

pub record LeftBy (net : NetPlan) (n : ℕ) (ends : List GivenUp) (a b : List RingEntry) : Type 0
  where
    pub free : IsFree net b n
    pub holds : Holds net a n → Holds net b n
    pub here : (is_here (part net b n)) ≡ (is_here (part net a n))
    pub paths : (p : ℕ) → (path_of (part net b n) p ≡ path_of (part net a n) p) ⊎
        ((path_of (part net b n) p).awaits ≡ Nothing)
    pub others : (p : ℕ) → list_any (ends_on p) ends ≡ false
        → path_of (part net b n) p ≡ path_of (part net a n) p
    pub ended : (p : ℕ) → list_any (ends_on p) ends ≡ true
        → (path_of (part net b n) p).awaits ≡ Nothing

left-same : (net : NetPlan) (n : ℕ) (a b : List RingEntry) → Found net n a b → LeftBy net n [] a b
left-same net n a b f = record {
  free = f.free;
  holds = f.holds;
  here = ap (λ (c : NodeIs). is_here c) f.part_is;
  paths = λ p. inl (ap (λ (c : NodeIs). path_of c p) f.part_is);
  others = λ p none. ap (λ (c : NodeIs). path_of c p) f.part_is;
  ended = λ p some. absurd (cc);
}

none-both : (p : ℕ) (xs ys : List GivenUp) → list_any (ends_on p) (xs ++ ys) ≡ false
    → (list_any (ends_on p) xs ≡ false) × (list_any (ends_on p) ys ≡ false)
none-both p [] ys none = (refl, none)
none-both p (x ∷ xs) ys none =
    let k = or-parts (ends_on p x) (list_any (ends_on p) (xs ++ ys)) none in
    let rest = none-both p xs ys k.1 in
    (ap (λ (b : Bool). b || list_any (ends_on p) xs) k.0 ∙ rest.0, rest.1)
  where
    or-parts : (a b : Bool) → (a || b) ≡ false → (a ≡ false) × (b ≡ false)
    or-parts true b k = absurd (cc)
    or-parts false b k = (refl, k)

pub left-both : (net : NetPlan) (n : ℕ) (xs ys : List GivenUp) (a b c : List RingEntry)
    → LeftBy net n xs a b → LeftBy net n ys b c
    → LeftBy net n (xs ++ ys) a c
left-both net n xs ys a b c one two = record {
  free = two.free;
  holds = λ h. two.holds (one.holds h);
  here = two.here ∙ one.here;
  paths = λ p. ⊎_elim
      (λ (e : path_of (part net c n) p ≡ path_of (part net b n) p). ⊎_elim
      (λ (d : path_of (part net b n) p ≡ path_of (part net a n) p). inl (e ∙ d))
      (λ (d : (path_of (part net b n) p).awaits ≡ Nothing). inr (ap (λ (x : Path). x.awaits) e ∙ d))
      (one.paths p))
      (λ (e : (path_of (part net c n) p).awaits ≡ Nothing). inr e) (two.paths p);
  others = λ p none. let k = none-both p xs ys none in two.others p k.1 ∙ one.others p k.0;
  ended = λ p some. elim (cases_Bool (list_any (ends_on p) ys)) [
    | inl last ↦ two.ended p last
    | inr not_last ↦
        let first : list_any (ends_on p) xs ≡ true = or-left (list_any (ends_on p) xs)
        (list_any (ends_on p) ys)
        (sym (list_any-append (ends_on p) xs ys) ∙ some) not_last in
        ap (λ (x : Path). x.awaits) (two.others p not_last) ∙ one.ended p first
  ];
}
  where
    or-left : (a b : Bool) → (a || b) ≡ true → b ≡ false → a ≡ true
    or-left true b k l = refl
    or-left false b k l = absurd (let wrong : true ≡ false = sym k ∙ l in cc)

-- one give-up
gave-step : (net : NetPlan) (n : ℕ) (past : List RingEntry) (g : GivenUp)
    → IsOnRing net (past ++ give_up_of g ∷ []) n → IsFree net past n
    → g.id.node ≡ n → LeftBy net n (g ∷ []) past (past ++ give_up_of g ∷ [])
gave-step net n past g on free mine =
    let m = own-step net n past (give_up_of g) on free mine in
    let w = after-give_up net n past g.id g.word (past ++ give_up_of g ∷ []) mine m in
    let c = part net past n in
    let d = part net (past ++ give_up_of g ∷ []) n in
    let q = g.id.path in
    let v : Path = record { awaits = Nothing; posted = (path_of c q).posted } in
    let ps : d.paths ≡ set c.paths q v = ap (λ (x : NodeIs). x.paths) w.part_is in
    let other : (p : ℕ) → (p ≡ q → ⊥) → path_of d p ≡ path_of c p =
    λ p o. ap (λ (l : List Path). get_or l p no_path) ps ∙ get_or-set_other c.paths q p v no_path o
    in
    let size = (legal-follows net past n
    (on-front net n past (give_up_of g ∷ []) on)).node.part.size in
    let law = m.step.0.1 in
    let high = law.1 in
    let range : q < length c.paths = omega (arith, size, high) in
    let here : (path_of d q).awaits ≡ Nothing =
    ap (λ (l : List Path). (get_or l q no_path).awaits) ps ∙ ap (λ (x : Path). x.awaits)
    (get_or-set_same c.paths q v no_path range) in
    record {
      free = w.free;
      holds = w.holds;
      here = ap (λ (x : NodeIs). is_here x) w.part_is;
      paths = λ p. ⊎_elim (λ (e : p ≡ q). inr (ap (λ (k : ℕ). (path_of d k).awaits) e ∙ here))
          (λ (o : p ≡ q → ⊥). inl (other p o)) (cases_eq p q);
      others = λ p none. other p (λ e. apart p e none);
      ended = λ p some. ap (λ (k : ℕ). (path_of d k).awaits) (on-it p some) ∙ here;
    }
  where
    or-off : (b : Bool) → (b || false) ≡ b
    or-off true = refl
    or-off false = refl

    on-it : (p : ℕ) → list_any (ends_on p) (g ∷ []) ≡ true → p ≡ g.id.path
    on-it p some = sym (eqb-true g.id.path p (sym (or-off (g.id.path == p)) ∙ some))

    apart : (p : ℕ) → p ≡ g.id.path → list_any (ends_on p) (g ∷ []) ≡ false → ⊥
    apart p e none = let on' : (g.id.path == p) ≡ true = eq-eqb g.id.path p (sym e) in
        let wrong : true ≡ false = sym (ap (λ (b : Bool). b || false) on') ∙ none in cc

-- the entries of a node and of others
first-own : (n : ℕ) (e : RingEntry) (xs : List RingEntry) (ends : List GivenUp)
    → own n (e ∷ xs) ≡ map give_up_of ends → is_of n e ≡ true
    → (g : GivenUp) × (rest : List GivenUp) × (ends ≡ g ∷ rest) × (e ≡ give_up_of g) ×
    (own n xs ≡ map give_up_of rest)
first-own n e xs ends is mine = parted ends
    (sym (ap (λ (b : Bool). cond b (e ∷ own n xs) (own n xs)) mine) ∙ is)
  where
    head-of : (x y : RingEntry) (as' bs : List RingEntry) → x ∷ as' ≡ y ∷ bs → x ≡ y
    head-of x y as' bs k = cc

    tail-of : (x y : RingEntry) (as' bs : List RingEntry) → x ∷ as' ≡ y ∷ bs → as' ≡ bs
    tail-of x y as' bs k = cc

    parted : (ends : List GivenUp) → e ∷ own n xs ≡ map give_up_of ends
        → (g : GivenUp) × (rest : List GivenUp) × (ends ≡ g ∷ rest) × (e ≡ give_up_of g) ×
        (own n xs ≡ map give_up_of rest)
    parted [] k = absurd (cc)
    parted (g ∷ rest) k = (
      g,
      rest,
      refl,
      head-of e (give_up_of g) (own n xs) (map give_up_of rest)
          k,
      tail-of e (give_up_of g) (own n xs) (map give_up_of rest) k,
    )

pub not-own : (n : ℕ) (e : RingEntry) (xs : List RingEntry) (l : List RingEntry)
    → own n (e ∷ xs) ≡ l → is_of n e ≡ false → own n xs ≡ l
not-own n e xs l is other = sym (ap (λ (b : Bool). cond b (e ∷ own n xs) (own n xs)) other) ∙ is

none-ends : (ends : List GivenUp) → [] ≡ map give_up_of ends → ends ≡ []
none-ends [] is = refl
none-ends (g ∷ ends) is = absurd (cc)

pub left-by : (net : NetPlan) (n : ℕ) (past xs : List RingEntry) (ends : List GivenUp)
    → IsOnRing net (past ++ xs) n → IsFree net past n
    → own n xs ≡ map give_up_of ends → LeftBy net n ends past (past ++ xs)
left-by net n past [] ends on free is =
    let same : past ++ [] ≡ past = append-nil past in
    subst (λ (l : List RingEntry). LeftBy net n ends past l) (sym same)
    (subst (λ (g : List GivenUp). LeftBy net n g past past) (sym (none-ends ends is))
    (left-same net n past past
    (record { free = free; holds = λ h. h; part_is = refl; own_is = refl })))
left-by net n past (e ∷ xs) ends on free is =
    let on' = on-step net n past e xs on in
    let next = on-front net n (past ++ e ∷ []) xs on' in
    let joined = append_assoc past (e ∷ []) xs in
    subst (λ (l : List RingEntry). LeftBy net n ends past l) joined (elim (cases_Bool (is_of n e)) [
      | inl mine ↦
          let k = first-own n e xs ends is mine in
          let g = k.0 in
          let next' : IsOnRing net (past ++ give_up_of g ∷ []) n = subst
          (λ (x : RingEntry). IsOnRing net (past ++ x ∷ []) n) k.3 next in
          let by : g.id.node ≡ n = ap maker (sym k.3) ∙ eqb-true (maker e) n mine in
          let one' = gave-step net n past g next' free by in
          let one : LeftBy net n (g ∷ []) past (past ++ e ∷ []) =
          subst (λ (x : RingEntry). LeftBy net n (g ∷ []) past (past ++ x ∷ [])) (sym k.3) one' in
          let two = left-by net n (past ++ e ∷ []) xs k.1 on' one.free k.4 in
          subst (λ (l : List GivenUp). LeftBy net n l past ((past ++ e ∷ []) ++ xs)) (sym k.2)
          (left-both net n (g ∷ []) k.1 past (past ++ e ∷ []) ((past ++ e ∷ []) ++ xs) one two)
      | inr other ↦
          let one = left-same net n past (past ++ e ∷ []) (other-step net n past e next free other)
          in
          let two = left-by net n (past ++ e ∷ []) xs ends on' one.free
          (not-own n e xs (map give_up_of ends) is other) in
          left-both net n [] ends past (past ++ e ∷ []) ((past ++ e ∷ []) ++ xs) one two
    ])

-- the same of a list that grew by them
pub left-grew : (alone : Bool) (net : NetPlan) (n : ℕ) (ends : List GivenUp) (a b : List RingEntry)
    → IsOnRing net b n → IsFree net a n
    → Grew alone (is_of n) a (map give_up_of ends) b → LeftBy net n ends a b
left-grew alone net n ends a b on free g =
    subst (λ (l : List RingEntry). LeftBy net n ends a l) (sym g.after_is)
    (left-by net n a g.more ends (subst (λ (l : List RingEntry). IsOnRing net l n) g.after_is on)
    free g.ours_are)

-- ---- when the ring lets a call go

-- why not, by what its path awaits
abbrev pub kept_for : ℕ → Bool → Await → ℕ → Option RingNo
kept_for answer here a seq = or_no (awaited_no a seq) (if here then answer_after answer a else None)

pub free-none : (net : NetPlan) (ring : List RingEntry) (n : ℕ) → IsFree net ring n
    → free_no (ring_after net ring) n ≡ None
free-none net ring n free = ⊎_elim
    (λ (h : Holds net ring n). both (is_here (ring_node (ring_after net ring) n))
    ((ring_after net ring).holder == n) h.here (eq-eqb _ n h.holder))
    (λ (l : HasLeft net ring n). gone' (is_here (ring_node (ring_after net ring) n))
    ((ring_after net ring).holder == n) (not-in net n ring l))
    free
  where
    r : RingIs
    r = ring_after net ring

    both : (here holds : Bool) → here ≡ true → holds ≡ true
        → (if here then (if holds then None else Some (NotHolder r.holder)) else None) ≡ None
    both true true h k = refl
    both true false h k = absurd (cc)
    both false k h l = absurd (cc)

    gone' : (here holds : Bool) → here ≡ false
        → (if here then (if holds then None else Some (NotHolder r.holder)) else None) ≡ None
    gone' true k h = absurd (cc)
    gone' false k h = refl

pub kept-why : (net : NetPlan) (ring : List RingEntry) (n p seq : ℕ) → IsFree net ring n
    → give_up_no net (ring_after net ring) (record { node = n; path = p; seq = seq })
    ≡ kept_for net.answer (is_here (part net ring n)) (path_of (part net ring n) p).awaits seq
kept-why net ring n p seq free =
    ap (λ (o : Option RingNo). or_no o
    (kept_for net.answer (is_here (part net ring n)) (path_of (part net ring n) p).awaits seq))
    (free-none net ring n free)

-- the call of a path that goes, if it does
abbrev pub goes_by : ℕ → Bool → ℕ → ℕ → Await → List CallId
goes_by answer here n p a =
    let seq = awaited_number a in
    cond (is_none (kept_for answer here a seq)) (record { node = n; path = p; seq = seq } ∷ []) []

other-none : (seq : ℕ) → other_no seq seq ≡ None
other-none seq = ap (λ (b : Bool). if b then None else Some (NotAwaited seq)) (eq-eqb seq seq refl)

-- what is due is what nothing keeps
waited : (n p answer seq passes : ℕ)
    → cons_option {X = CallId} (if nat_le answer passes then Some
    (record { node = n; path = p; seq = seq }) else None) []
    ≡ cond (is_none (due_no passes answer)) (record { node = n; path = p; seq = seq } ∷ []) []
waited n p answer seq passes = elim (cases_Bool (nat_le answer passes)) [
  | inl long ↦
      let id : CallId = record { node = n; path = p; seq = seq } in
      let far = le-ltb passes answer (leb-true answer passes long) in
      ap (λ (b : Bool). cons_option {X = CallId} (if b then Some id else None) []) long
      ∙ sym (ap (λ (b : Bool). cond (is_none (if b then Some (NotDue passes answer) else None))
      (id ∷ []) []) far)
  | inr short ↦
      let id : CallId = record { node = n; path = p; seq = seq } in
      let near = lt-ltb passes answer (leb-false answer passes short) in
      ap (λ (b : Bool). cons_option {X = CallId} (if b then Some id else None) []) short
      ∙ sym (ap (λ (b : Bool). cond (is_none (if b then Some (NotDue passes answer) else None))
      (id ∷ []) []) near)
]

goes-due : (answer : ℕ) (here : Bool) (n p : ℕ) (a : Await)
    → cons_option (due_by answer here n p a) [] ≡ goes_by answer here n p a
goes-due answer here n p Nothing = refl
goes-due answer true n p (Out s to onward passes) = waited n p answer s passes
    ∙ sym (ap (λ (o : Option RingNo). cond (is_none (or_no o (due_no passes answer)))
    (record { node = n; path = p; seq = s } ∷ []) []) (other-none s))
goes-due answer false n p (Out s to onward passes) =
    sym (ap (λ (o : Option RingNo). cond (is_none (or_no o None))
    (record { node = n; path = p; seq = s } ∷ []) []) (other-none s))
goes-due answer true n p (Arrived s) =
    sym (ap (λ (o : Option RingNo). cond (is_none (or_no o (Some (Untaken 1))))
    (record { node = n; path = p; seq = s } ∷ []) []) (other-none s))
goes-due answer false n p (Arrived s) =
    sym (ap (λ (o : Option RingNo). cond (is_none (or_no o None))
    (record { node = n; path = p; seq = s } ∷ []) []) (other-none s))
goes-due answer true n p (Failed s word) =
    sym (ap (λ (o : Option RingNo). cond (is_none (or_no o None))
    (record { node = n; path = p; seq = s } ∷ []) []) (other-none s))
goes-due answer false n p (Failed s word) =
    sym (ap (λ (o : Option RingNo). cond (is_none (or_no o None))
    (record { node = n; path = p; seq = s } ∷ []) []) (other-none s))

pub due-one : (net : NetPlan) (ring : List RingEntry) (n p : ℕ)
    → due_calls net n ring (p ∷ []) ≡ goes_by net.answer (is_here (part net ring n)) n p
    (path_of (part net ring n) p).awaits
due-one net ring n p = goes-due net.answer (is_here (part net ring n)) n p
    (path_of (part net ring n) p).awaits

pub due-both : (net : NetPlan) (ring : List RingEntry) (n : ℕ) (ps qs : List ℕ)
    → due_calls net n ring (ps ++ qs) ≡ due_calls net n ring ps ++ due_calls net n ring qs
due-both net ring n ps qs = filter_map-append (due_on net n (part_at net n ring)) ps qs

pub due-same : (net : NetPlan) (a b : List RingEntry) (n p : ℕ)
    → (is_here (part net b n)) ≡ (is_here (part net a n))
    → path_of (part net b n) p ≡ path_of (part net a n) p
    → due_calls net n b (p ∷ []) ≡ due_calls net n a (p ∷ [])
due-same net a b n p here path =
    due-one net b n p ∙ (λ i. goes_by net.answer (here i) n p (path i).awaits) ∙ sym
    (due-one net a n p)

pub due-nothing : (net : NetPlan) (b : List RingEntry) (n p : ℕ)
    → (path_of (part net b n) p).awaits ≡ Nothing
    → due_calls net n b (p ∷ []) ≡ []
due-nothing net b n p is = due-one net b n p
    ∙ ap (goes_by net.answer (is_here (part net b n)) n p) is

no-more : (xs ys : List CallId) → xs ++ ys ≡ [] → (xs ≡ []) × (ys ≡ [])
no-more [] ys is = (refl, is)
no-more (x ∷ xs) ys is = absurd (cc)

-- each of these paths has no call that goes
pub none-due : (net : NetPlan) (ring : List RingEntry) (n : ℕ) (ps : List ℕ)
    → due_calls net n ring ps ≡ []
    → Each (λ p. due_calls net n ring (p ∷ []) ≡ []) ps
none-due net ring n [] none = tt
none-due net ring n (p ∷ ps) none =
    let k = no-more (due_calls net n ring (p ∷ [])) (due_calls net n ring ps)
    (sym (due-both net ring n (p ∷ []) ps) ∙ none) in
    (k.0, none-due net ring n ps k.1)

pub all-due-none : (net : NetPlan) (ring : List RingEntry) (n : ℕ) (ps : List ℕ)
    → Each (λ p. due_calls net n ring (p ∷ []) ≡ []) ps
    → due_calls net n ring ps ≡ []
all-due-none net ring n [] each = refl
all-due-none net ring n (p ∷ ps) each =
    due-both net ring n (p ∷ []) ps ∙ (λ i. each.0 i ++ all-due-none net ring n ps each.1 i)

-- where none went, none does behind give-ups
pub still-none : (net : NetPlan) (n : ℕ) (ends : List GivenUp) (a b : List RingEntry) (ps : List ℕ)
    → IsFree net a n → LeftBy net n ends a b
    → due_calls net n a ps ≡ [] → due_calls net n b ps ≡ []
still-none net n ends a b ps free l none = all-due-none net b n ps
    (each ps (none-due net a n ps none))
  where
    each : (ps : List ℕ) → Each (λ p. due_calls net n a (p ∷ []) ≡ []) ps
        → Each (λ p. due_calls net n b (p ∷ []) ≡ []) ps
    each [] e = tt
    each (p ∷ ps) e = (
      ⊎_elim (λ (s : path_of (part net b n) p ≡ path_of (part net a n) p). due-same net a b n p
          l.here s ∙ e.0)
          (λ (s : (path_of (part net b n) p).awaits ≡ Nothing). due-nothing net b n p s)
          (l.paths p),
      each ps e.1,
    )

-- ---- give-ups of calls that had not waited

-- no call on these paths has waited for a Pass
abbrev pub AreYoung : (ℕ → Bool) → NodeIs → Type 0
AreYoung on c = (p : ℕ) → IsPath p → on p ≡ true → passes_of (path_of c p).awaits ≡ 0

or-second : (a b : Option RingNo) → or_no a b ≡ None → b ≡ None
or-second None b is = is
or-second (Some x) b is = absurd (cc)

or-first : (a b : Option RingNo) → or_no a b ≡ None → a ≡ None
or-first None b is = refl
or-first (Some x) b is = absurd (cc)

due-at-none : (answer : ℕ) → 0 < answer → due_no 0 answer ≡ None → ⊥
due-at-none answer pos is =
    let t = lt-ltb 0 answer pos in
    let wrong : Some (NotDue 0 answer) ≡ None = ap
    (λ (b : Bool). if b then Some (NotDue 0 answer) else None) (sym t) ∙ is in
    cc

number-same : (out seq : ℕ) → other_no out seq ≡ None → out ≡ seq
number-same out seq is = cond_both (out == seq) None (Some (NotAwaited out))
    (λ x. x ≡ None → out ≡ seq) (λ y _. eqb-true out seq y) (λ _ x. absurd (cc)) is

failed-of : (answer : ℕ) (a : Await) (seq : ℕ) → passes_of a ≡ 0 → 0 < answer
    → kept_for answer true a seq ≡ None → HasFailed a × (awaited_number a ≡ seq)
failed-of answer Nothing seq young pos is = absurd (cc)
failed-of answer (Out s to onward passes) seq young pos is =
    absurd (due-at-none answer pos (ap (λ (k : ℕ). due_no k answer) (sym young) ∙ or-second
    (other_no s seq) (due_no passes answer) is))
failed-of answer (Arrived s) seq young pos is =
    absurd (let wrong : Some (Untaken 1) ≡ None = or-second (other_no s seq) (Some (Untaken 1)) is
    in cc)
failed-of answer (Failed s word) seq young pos is =
    (tt, number-same s seq (or-first (other_no s seq) None is))

pub still-young : (net : NetPlan) (n : ℕ) (ends : List GivenUp) (on : ℕ → Bool)
    (a b : List RingEntry) → LeftBy net n ends a b
    → AreYoung on (part net a n) → AreYoung on (part net b n)
still-young net n ends on a b l young p is_path chosen' = ⊎_elim
    (λ (s : path_of (part net b n) p ≡ path_of (part net a n) p). ap
    (λ (x : Path). passes_of x.awaits) s ∙ young p is_path chosen')
    (λ (s : (path_of (part net b n) p).awaits ≡ Nothing). ap passes_of s) (l.paths p)

-- each of them was of a failed call
pub each-gone : (net : NetPlan) (n : ℕ) (on : ℕ → Bool) (past xs : List RingEntry)
    (ends : List GivenUp) → IsOnRing net (past ++ xs) n
    → Holds net past n → own n xs ≡ map give_up_of ends → AreYoung on (part net past n)
    → Each (λ (g : GivenUp). on g.id.path ≡ true) ends
    → 0 < net.answer → EachNext n (IsNextSending net n on) past (past ++ xs)
each-gone net n on past [] ends ring holds is young all wait =
    each-others n (IsNextSending net n on) past [] refl
each-gone net n on past (e ∷ xs) ends ring holds is young all wait =
    let ring' = on-step net n past e xs ring in
    let next = on-front net n (past ++ e ∷ []) xs ring' in
    let both = each-both n (IsNextSending net n on) past (past ++ e ∷ []) ((past ++ e ∷ []) ++ xs)
    in
    subst (EachNext n (IsNextSending net n on) past) (append_assoc past (e ∷ []) xs)
    (elim (cases_Bool (is_of n e)) [
      | inl mine ↦
          let k = first-own n e xs ends is mine in
          let g = k.0 in
          let next' : IsOnRing net (past ++ give_up_of g ∷ []) n = subst
          (λ (x : RingEntry). IsOnRing net (past ++ x ∷ []) n) k.3 next in
          let by : g.id.node ≡ n = ap maker (sym k.3) ∙ eqb-true (maker e) n mine in
          let all' = subst (λ (l : List GivenUp). Each (λ (x : GivenUp). on x.id.path ≡ true) l) k.2
          all in
          let one' = gave-step net n past g next' (inl holds) by in
          let one : LeftBy net n (g ∷ []) past (past ++ e ∷ []) =
          subst (λ (x : RingEntry). LeftBy net n (g ∷ []) past (past ++ x ∷ [])) (sym k.3) one' in
          let rest = each-gone net n on (past ++ e ∷ []) xs k.1 ring' (one.holds holds) k.4
          (still-young net n (g ∷ []) on past (past ++ e ∷ []) one young) all'.1 wait in
          let was = was-failed net n on past g next' holds by young all'.0 wait in
          both (one-each n (IsNextSending net n on) past e
          (subst (IsNextSending net n on past) (sym k.3) (all'.0, was.0, was.1))) rest
      | inr other ↦
          let one = left-same net n past (past ++ e ∷ [])
          (other-step net n past e next (inl holds) other) in
          let rest = each-gone net n on (past ++ e ∷ []) xs ends ring' (one.holds holds)
          (not-own n e xs (map give_up_of ends) is other)
          (still-young net n [] on past (past ++ e ∷ []) one young) all wait in
          both (each-others n (IsNextSending net n on) past (e ∷ [])
          (ap (λ (b : Bool). cond b (e ∷ []) []) other)) rest
    ])
  where
    was-failed : (net : NetPlan) (n : ℕ) (on : ℕ → Bool) (past : List RingEntry) (g : GivenUp)
        → IsOnRing net (past ++ give_up_of g ∷ []) n
        → Holds net past n → g.id.node ≡ n → AreYoung on (part net past n) → on g.id.path ≡ true
        → 0 < net.answer
        → HasFailed (path_of (part net past n) g.id.path).awaits
        × (awaited_number (path_of (part net past n) g.id.path).awaits ≡ g.id.seq)
    was-failed net n on past g ring holds by young chosen' pos =
        let m = own-step net n past (give_up_of g) ring (inl holds) by in
        let c = part net past n in
        let id : CallId = record { node = n; path = g.id.path; seq = g.id.seq } in
        let same : g.id ≡ id = λ i. record { node = by i; path = g.id.path; seq = g.id.seq } in
        let let_go : give_up_no net (ring_after net m.past) id ≡ None = ap
        (give_up_no net (ring_after net m.past)) (sym same) ∙ m.step.1.0 in
        let why : kept_for net.answer (is_here (part net m.past n))
        (path_of (part net m.past n) g.id.path).awaits g.id.seq ≡ None =
        sym (kept-why net m.past n g.id.path g.id.seq m.found.free) ∙ let_go in
        let there : kept_for net.answer (is_here c) (path_of c g.id.path).awaits g.id.seq ≡ None =
        ap (λ (x : NodeIs). kept_for net.answer (is_here x) (path_of x g.id.path).awaits g.id.seq)
        (sym m.found.part_is) ∙ why in
        let held : kept_for net.answer true (path_of c g.id.path).awaits g.id.seq ≡ None =
        ap (λ (b : Bool). kept_for net.answer b (path_of c g.id.path).awaits g.id.seq)
        (sym holds.here) ∙ there in
        failed-of net.answer (path_of c g.id.path).awaits g.id.seq
        (young g.id.path m.step.0.1 chosen') pos held

-- the ring let the one call go that was given up, by what its path awaited before
lets-go : (net : NetPlan) (n : ℕ) (g : GivenUp) (past xs : List RingEntry)
    → IsOnRing net (past ++ xs) n → IsFree net past n
    → own n xs ≡ give_up_of g ∷ [] → g.id.node ≡ n
    → kept_for net.answer (is_here (part net past n)) (path_of (part net past n) g.id.path).awaits
    g.id.seq ≡ None
lets-go net n g past [] ring free is by = absurd (cc)
lets-go net n g past (e ∷ xs) ring free is by =
    let ring' = on-step net n past e xs ring in
    let next = on-front net n (past ++ e ∷ []) xs ring' in
    elim (cases_Bool (is_of n e)) [
      | inl mine ↦
          let k = first-own n e xs (g ∷ []) is mine in
          let same : k.0 ≡ g = only k.0 k.1 k.2 in
          let e_is : e ≡ give_up_of g = k.3 ∙ ap give_up_of same in
          let m = own-step net n past (give_up_of g)
          (subst (λ (x : RingEntry). IsOnRing net (past ++ x ∷ []) n) e_is next) free by in
          let id : CallId = record { node = n; path = g.id.path; seq = g.id.seq } in
          let id_is : g.id ≡ id = λ i. record { node = by i; path = g.id.path; seq = g.id.seq } in
          let let_go : give_up_no net (ring_after net m.past) id ≡ None = ap
          (give_up_no net (ring_after net m.past)) (sym id_is) ∙ m.step.1.0 in
          ap (λ (x : NodeIs). kept_for net.answer (is_here x) (path_of x g.id.path).awaits g.id.seq)
          (sym m.found.part_is)
          ∙ (sym (kept-why net m.past n g.id.path g.id.seq m.found.free) ∙ let_go)
      | inr other ↦
          let f = other-step net n past e next free other in
          ap (λ (x : NodeIs). kept_for net.answer (is_here x) (path_of x g.id.path).awaits g.id.seq)
          (sym f.part_is)
          ∙ lets-go net n g (past ++ e ∷ []) xs ring' f.free
          (not-own n e xs (give_up_of g ∷ []) is other) by
    ]
  where
    only : (x : GivenUp) (rest : List GivenUp) → g ∷ [] ≡ x ∷ rest → x ≡ g
    only x rest k = cc

pub all-let : (alone : Bool) (net : NetPlan) (n : ℕ) (g : GivenUp) (a b : List RingEntry)
    → IsOnRing net b n → IsFree net a n
    → Grew alone (is_of n) a (give_up_of g ∷ []) b → g.id.node ≡ n
    → kept_for net.answer (is_here (part net a n)) (path_of (part net a n) g.id.path).awaits
    g.id.seq ≡
    None
all-let alone net n g a b on free w by =
    lets-go net n g a w.more (subst (λ (l : List RingEntry). IsOnRing net l n) w.after_is on) free
    w.ours_are by
