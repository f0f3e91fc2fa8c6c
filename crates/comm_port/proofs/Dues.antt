-- Calls that may be given up, and what a GiveUp leaves of a node's part.
use Rattle.std.proofs.Common.{◌≡◌, ℕ, zero, suc, ◌+◌, ◌-◌, ◌<◌, ◌≤◌, ◌==◌, nat_le, Bool, true}
use Rattle.std.proofs.Common.{false, not, cond}
use Rattle.std.proofs.Common.{List, [], ◌∷◌, ◌++◌, get_or, set, take, filter, filter_map, Option}
use Rattle.std.proofs.Common.{Some, None}
use Rattle.std.proofs.Common.{refl, sym, ap, ◌∙◌, subst, inl, inr, ⊎_elim, arith, eq-eqb}
use Rattle.std.proofs.Common.{get_or-set_other, append-nil}
use Rattle.std.specs.Prelude.{nat_lt}
use Rattle.std.specs.List.{cons_option}
use Rattle.std.proofs.lemmas.Bool.{cases_eq, cond-true, cond-false, leb-true, leb-false, le-leb}
use Rattle.std.proofs.lemmas.Bool.{lt-leb}
use Rattle.std.proofs.lemmas.List.Elements.{filter-append, filter_map-append}
use Rattle.plant_types.specs.declared.net.NetPlan.{NetPlan}
use Rattle.mstr_block.specs.declared.call.CallId.{CallId}
use Rattle.mstr_block.specs.declared.call.MstrResult.TheVariants.{Bad}
use Rattle.controller_core.specs.declared.entry.Entry.{Entry}
use Rattle.controller_core.specs.declared.entry.Entry.TheVariants.{Finish}
use Rattle.ring_core.specs.declared.frame.FrameKind.TheVariants.{Request}
use Rattle.ring_core.specs.declared.frame.Frame.{Frame}
use Rattle.ring_core.specs.declared.path.Await.{Await}
use Rattle.ring_core.specs.declared.path.Await.TheVariants.{Nothing, Out, Arrived, Failed}
use Rattle.ring_core.specs.declared.path.Path.{Path}
use Rattle.ring_core.specs.declared.refusal.RingNo.{RingNo}
use Rattle.ring_core.specs.declared.refusal.RingNo.TheVariants.{NotHolder, NotAwaited, NotDue}
use Rattle.ring_core.specs.declared.refusal.RingNo.TheVariants.{Untaken}
use Rattle.ring_core.specs.declared.entry.RingEntry.{RingEntry}
use Rattle.ring_core.specs.declared.entry.RingEntry.TheVariants.{GiveUp}
use Rattle.ring_core.specs.Words.{asks_for}
use Rattle.ring_core.specs.Machine.{is_here, NodeIs, no_path, path_of}
use Rattle.ring_core.specs.Machine.{gave_up, ring_node, ring_after}
use Rattle.ring_core.specs.Refusals.{or_no, free_no, awaited_no, other_no, answer_after}
use Rattle.tied_lists.specs.Waits.{AwaitsThis, IsFree, Holds, HasLeft}
use Rattle.tied_lists.proofs.Boxes.{each-filter}
use Rattle.comm_port.proofs.RingTurns.{not-in}
use Rattle.comm_port.specs.Giving.{due_by, due_on, is_chosen, chosen_below, given_due, AsksAreOn}
use Rattle.comm_port.specs.Giving.{IsPathSettled, IsOtherPath, GaveUpBelow, part_no}
use Rattle.comm_port.specs.HoldTurn.{IsGivenUp, finish_of}
use Rattle.comm_port.specs.Parts.{InOrder}
use Rattle.mstr_block.specs.Table.{network_paths}

-- ---- what the ring says, and whether a call is due

-- a node that holds the token, or has left, is let through
pub free-none : (net : NetPlan) (ring : List RingEntry) (n : ℕ) → IsFree net ring n
    → free_no (ring_after net ring) n ≡ None
free-none net ring n free =
    let r = ring_after net ring in
    ⊎_elim
    (λ (h : Holds net ring n). cond-true (is_here (ring_node r n)) _ _ h.here
    ∙ cond-true (r.holder == n)
    None (Some (NotHolder r.holder))
    (eq-eqb r.holder n h.holder))
    (λ (l : HasLeft net ring n). cond-false (is_here (ring_node r n)) _ _ (not-in net n ring l))
    free

pub record Judged (due : Option CallId) (no : Option RingNo) (id : CallId) : Type 0 where
  pub may : no ≡ None → due ≡ Some id
  pub never : (why : RingNo) → no ≡ Some why → due ≡ None

judge-yes : (id' id : CallId) → id' ≡ id → Judged (Some id') None id
judge-yes id' id same = record {
  may = λ _. ap Some same;
  never = λ why e. absurd (let bad : None ≡ Some why = e in cc);
}

judge-no : (why : RingNo) (id : CallId) → Judged None (Some why) id
judge-no why id = record {
  may = λ e. absurd (let bad : Some why ≡ None = e in cc);
  never = λ w e.
      refl;
}

judge-held : (answer passes : ℕ) (id' id : CallId) (b : Bool) → nat_lt passes answer ≡ b → id' ≡ id
    → Judged (cond (nat_le answer passes) (Some id') None)
    (cond b (Some (NotDue passes answer)) None) id
judge-held answer passes id' id true late same =
    let early : nat_le answer passes ≡ false = lt-leb answer passes
    (let l = leb-true (suc passes) answer late in omega (arith, l)) in
    subst (λ (x : Option CallId). Judged x (Some (NotDue passes answer)) id)
    (sym (cond-false (nat_le answer passes) (Some id') None early))
    (judge-no (NotDue passes answer) id)
judge-held answer passes id' id false late same =
    let held : nat_le answer passes ≡ true = le-leb answer passes
    (let l = leb-false (suc passes) answer late in omega (arith, l)) in
    subst (λ (x : Option CallId). Judged x None id)
    (sym (cond-true (nat_le answer passes) (Some id') None held)) (judge-yes id' id same)

judge-by : (answer : ℕ) (here : Bool) (n p : ℕ) (a : Await) (f : Frame) (id : CallId)
    → AwaitsThis a (Some f)
    → ((seq : ℕ) → seq ≡ f.id.seq → (record { node = n; path = p; seq = seq }) ≡ id)
    → Judged (due_by answer here n p a) (cond here (answer_after answer a) None) id
judge-by answer here n p Nothing f id awaits same = absurd awaits
judge-by answer true n p (Out seq to onward passes) f id awaits same =
    judge-held answer passes (record { node = n; path = p; seq = seq }) id (nat_lt passes answer)
    refl (same seq awaits)
judge-by answer false n p (Out seq to onward passes) f id awaits same = judge-yes
    (record { node = n; path = p; seq = seq }) id (same seq awaits)
judge-by answer true n p (Arrived seq) f id awaits same = judge-no (Untaken 1) id
judge-by answer false n p (Arrived seq) f id awaits same = judge-yes
    (record { node = n; path = p; seq = seq }) id (same seq awaits)
judge-by answer true n p (Failed seq word) f id awaits same = judge-yes
    (record { node = n; path = p; seq = seq }) id (same seq awaits)
judge-by answer false n p (Failed seq word) f id awaits same = judge-yes
    (record { node = n; path = p; seq = seq }) id (same seq awaits)

same-number : (out seq : ℕ) → out ≡ seq → other_no out seq ≡ None
same-number out seq e = cond-true (out == seq) None (Some (NotAwaited out)) (eq-eqb out seq e)

awaited : (a : Await) (f : Frame) → AwaitsThis a (Some f) → awaited_no a f.id.seq ≡ None
awaited Nothing f w = absurd w
awaited (Out seq to onward passes) f w = same-number seq f.id.seq w
awaited (Arrived seq) f w = same-number seq f.id.seq w
awaited (Failed seq word) f w = same-number seq f.id.seq w

-- the call that a path waits for
pub judged : (net : NetPlan) (n p : ℕ) (c : NodeIs) (f : Frame) (id : CallId)
    → AwaitsThis (path_of c p).awaits (Some f) → f.id ≡ id
    → id.node ≡ n → id.path ≡ p → Judged (due_on net n c p) (part_no net c id) id
judged net n p c f id awaits named own' path' =
    let a = (path_of c p).awaits in
    let here-is : Judged (due_on net n c p) (cond (is_here c) (answer_after net.answer a) None) id =
    judge-by net.answer (is_here c) n p a f id awaits
    (λ seq e. (λ i. record {
      node = sym own' i;
      path = sym path' i;
      seq = (e ∙ ap (λ (x : CallId). x.seq) named) i;
    })) in
    let none : awaited_no a id.seq ≡ None = ap (λ (x : CallId). awaited_no a x.seq) (sym named)
    ∙ awaited a f awaits in
    let now : Judged (due_on net n c p)
    (or_no (awaited_no a id.seq) (cond (is_here c) (answer_after net.answer a) None)) id =
    subst (λ (x : Option RingNo). Judged (due_on net n c p)
    (or_no x (cond (is_here c) (answer_after net.answer a) None)) id) (sym none) here-is in
    subst (λ (q : ℕ). Judged (due_on net n c p)
    (or_no (awaited_no (path_of c q).awaits id.seq) (cond (is_here c) (answer_after net.answer
    (path_of c q).awaits) None)) id) (sym path') now

-- a path that waits for nothing
pub nothing-waits : (a : Await) → AwaitsThis a None → a ≡ Nothing
nothing-waits Nothing w = refl
nothing-waits (Out seq to onward passes) w = absurd w
nothing-waits (Arrived seq) w = absurd w
nothing-waits (Failed seq word) w = absurd w

pub none-due : (net : NetPlan) (n p : ℕ) (c : NodeIs) → (path_of c p).awaits ≡ Nothing
    → due_on net n c p ≡ None
none-due net n p c is = ap (due_by net.answer (is_here c) n p) is

-- the name of a call that is due
some-is : (a b : CallId) → Some a ≡ Some b → a ≡ b
some-is a b e = cc

pub record NamedBy (n p : ℕ) (id : CallId) : Type 0 where
  pub node : id.node ≡ n
  pub path : id.path ≡ p

named-if : (n p seq : ℕ) (b : Bool) (id : CallId)
    → cond b (Some (record { node = n; path = p; seq = seq })) None ≡ Some id → NamedBy n p id
named-if n p seq true id e =
    let same = some-is (record { node = n; path = p; seq = seq }) id e in
    record {
      node = ap (λ (x : CallId). x.node) (sym same);
      path = ap (λ (x : CallId). x.path)
          (sym same);
    }
named-if n p seq false id e = absurd (let bad : None ≡ Some id = e in cc)

due-named : (answer : ℕ) (here : Bool) (n p : ℕ) (a : Await) (id : CallId)
    → due_by answer here n p a ≡ Some id → NamedBy n p id
due-named answer here n p Nothing id e = absurd (let bad : None ≡ Some id = e in cc)
due-named answer true n p (Out seq to onward passes) id e =
    named-if n p seq (nat_le answer passes) id e
due-named answer false n p (Out seq to onward passes) id e = named-if n p seq true id e
due-named answer true n p (Arrived seq) id e = absurd (let bad : None ≡ Some id = e in cc)
due-named answer false n p (Arrived seq) id e = named-if n p seq true id e
due-named answer true n p (Failed seq word) id e = named-if n p seq true id e
due-named answer false n p (Failed seq word) id e = named-if n p seq true id e

pub named-by : (net : NetPlan) (n p : ℕ) (c : NodeIs) (id : CallId) → due_on net n c p ≡ Some id
    → NamedBy n p id
named-by net n p c id e = due-named net.answer (is_here c) n p (path_of c p).awaits id e

-- ---- a node's part after a GiveUp

no-wait : (ps : List Path) (q : ℕ) (v : Path) → v.awaits ≡ Nothing
    → (get_or (set ps q v) q no_path).awaits ≡ Nothing
no-wait [] q v e = refl
no-wait (y ∷ ys) zero v e = e
no-wait (y ∷ ys) (suc q) v e = no-wait ys q v e

pub gave-nothing : (c : NodeIs) (id : CallId) (p : ℕ) → id.path ≡ p
    → (path_of (gave_up c id) p).awaits ≡ Nothing
gave-nothing c id p is = subst (λ (q : ℕ). (path_of (gave_up c id) q).awaits ≡ Nothing) is
    (no-wait c.paths id.path (record { awaits = Nothing; posted = (path_of c id.path).posted })
    refl)

pub gave-other : (c : NodeIs) (id : CallId) (p q : ℕ) → id.path ≡ p → (q ≡ p → ⊥)
    → path_of (gave_up c id) q ≡ path_of c q
gave-other c id p q is other = get_or-set_other c.paths id.path q _ no_path (λ e. other (e ∙ is))

still-asks : (on : List Bool) (c : NodeIs) (id : CallId) → AsksAreOn on c.outbox
    → AsksAreOn on (gave_up c id).outbox
still-asks on c id a = each-filter (λ (f : Frame). f.kind ≡ Request → is_chosen on f.id.path ≡ true)
    (λ (f : Frame). f.kind ≡
    Request → is_chosen on f.id.path ≡ true) (λ f. not (asks_for id f)) c.outbox (λ f passes it. it)
    a

still-sent : (c : NodeIs) (id : CallId) → c.outbox ≡ [] → (gave_up c id).outbox ≡ []
still-sent c id e = ap (filter (λ f. not (asks_for id f))) e

-- ---- the calls due on chosen paths, one path after another

pub below-none : (net : NetPlan) (n : ℕ) (chosen : List Bool) (c : NodeIs)
    → GaveUpBelow net n chosen 1 c c
below-none net n chosen c = record {
  here = refl;
  settled = λ path from to is. absurd (omega (arith, from, to));
  others = λ path _. refl;
  asks = λ on a. a;
  sent = λ e. e;
}

due-as-before : (net : NetPlan) (n : ℕ) (chosen : List Bool) (p : ℕ) (old mid : NodeIs)
    → GaveUpBelow net n chosen p old mid → due_on
    net n mid p ≡ due_on net n old p
due-as-before net n chosen p old mid g =
    (λ i. due_by net.answer (g.here i) n p (g.others p (inr (inl (omega arith))) i).awaits)

wider : (chosen : List Bool) (p q : ℕ) → IsOtherPath chosen (p + 1) q → IsOtherPath chosen p q
wider chosen p q (inl first) = inl first
wider chosen p q (inr (inl above)) = inr (inl (omega (arith, above)))
wider chosen p q (inr (inr un)) = inr (inr un)

pub below-skip : (net : NetPlan) (n : ℕ) (chosen : List Bool) (p : ℕ) (old new : NodeIs)
    → is_chosen chosen p ≡ false → GaveUpBelow net n
    chosen p old new → GaveUpBelow net n chosen (p + 1) old new
below-skip net n chosen p old new skipped g = record {
  here = g.here;
  settled = λ q from to is. ⊎_elim
      (λ (e : q ≡ p). absurd (let t : is_chosen chosen p ≡ true = ap (is_chosen chosen) (sym e) ∙ is
      in let bad : false ≡ true = sym skipped ∙ t in cc))
      (λ (o : q ≡ p → ⊥). g.settled q from (omega (arith, to, o)) is) (cases_eq q p);
  others = λ q k. g.others q (wider chosen p q k);
  asks = g.asks;
  sent = g.sent;
}

below-given : (net : NetPlan) (n : ℕ) (chosen : List Bool) (p : ℕ) (old mid : NodeIs) (id : CallId)
    → 1 ≤ p → id.path ≡ p → is_chosen chosen p ≡ true →
    GaveUpBelow net n chosen p old mid → GaveUpBelow net n chosen (p + 1) old (gave_up mid id)
below-given net n chosen p old mid id from path' on g = record {
  here = g.here;
  settled = λ q from' to is. ⊎_elim
      (λ (e : q ≡ p). inl (gave-nothing mid id q (path' ∙ sym e)))
      (λ (o : q ≡ p → ⊥). ⊎_elim
      (λ (a : (path_of mid q).awaits ≡ Nothing). inl
      (ap (λ (x : Path). x.awaits) (gave-other mid id p q path' o) ∙ a))
      (λ (b : (path_of mid q ≡ path_of old q) × (due_on net n old q ≡ None)). inr
      (gave-other mid id p q path' o ∙ b.0, b.1))
      (g.settled q from' (omega (arith, to, o)) is)) (cases_eq q p);
  others = λ q k. let apart : q ≡ p
      → ⊥ = away q k in gave-other mid id p q path' apart ∙ g.others q (wider chosen p q k);
  asks = λ on' a. still-asks on' mid id (g.asks on' a);
  sent = λ e. still-sent mid id (g.sent e);
}
  where
    away : (q : ℕ) → IsOtherPath chosen (p + 1) q → q ≡ p → ⊥
    away q (inl first) e = omega (arith, first, e, from)
    away q (inr (inl above)) e = omega (arith, above, e)
    away q (inr (inr un)) e = let bad : true ≡ false = sym on ∙ (ap (is_chosen chosen) (sym e) ∙ un)
        in cc

below-kept : (net : NetPlan) (n : ℕ) (chosen : List Bool) (p : ℕ) (old mid : NodeIs)
    → due_on net n old p ≡ None → GaveUpBelow net n chosen p old
    mid → GaveUpBelow net n chosen (p + 1) old mid
below-kept net n chosen p old mid none g = record {
  here = g.here;
  settled = λ q from to is. ⊎_elim
      (λ (e : q ≡ p). subst (IsPathSettled net n old mid) (sym e)
      (inr (g.others p (inr (inl (omega arith))), none)))
      (λ (o : q ≡ p → ⊥). g.settled q from (omega (arith, to, o)) is) (cases_eq q p);
  others = λ q k. g.others q (wider chosen p q k);
  asks = g.asks;
  sent = g.sent;
}

below-by : (net : NetPlan) (n : ℕ) (chosen : List Bool) (p : ℕ) (old mid new : NodeIs)
    (due : Option CallId) → 1 ≤ p → is_chosen chosen p ≡ true → due ≡
    due_on net n old p → new ≡ given_due mid due → GaveUpBelow net n chosen p old mid
    → GaveUpBelow net n chosen (p + 1) old new
below-by net n chosen p old mid new None from on due' is g =
    subst (GaveUpBelow net n chosen (p + 1) old) (sym is)
    (below-kept net n chosen p old mid (sym due') g)
below-by net n chosen p old mid new (Some id) from on due' is g =
    subst (GaveUpBelow net n chosen (p + 1) old) (sym is)
    (below-given net n chosen p old mid id from (named-by net n p old id (sym due')).path on g)

pub below-more : (net : NetPlan) (n : ℕ) (chosen : List Bool) (p : ℕ) (old mid new : NodeIs) → 1 ≤ p
    → is_chosen chosen p ≡ true → new ≡ given_due mid
    (due_on net n mid p) → GaveUpBelow net n chosen p old mid
    → GaveUpBelow net n chosen (p + 1) old new
below-more net n chosen p old mid new from on is g =
    below-by net n chosen p old mid new (due_on net n mid p) from on
    (due-as-before net n chosen p old mid g) is g

-- the chosen paths up to one more
next-path : (p : ℕ) → 1 ≤ p → p < 5
    → take (p + 1 - 1) network_paths ≡ take (p - 1) network_paths ++ p ∷ []
next-path zero from to = absurd (omega (arith, from))
next-path (suc zero) from to = refl
next-path (suc (suc zero)) from to = refl
next-path (suc (suc (suc zero))) from to = refl
next-path (suc (suc (suc (suc zero)))) from to = refl
next-path (suc (suc (suc (suc (suc p))))) from to = absurd (omega (arith, to))

pub chosen-more : (chosen : List Bool) (p : ℕ) → 1 ≤ p → p < 5 → is_chosen chosen p ≡ true
    → chosen_below chosen (p + 1) ≡ chosen_below chosen p ++ p ∷ []
chosen-more chosen p from to on =
    ap (filter (is_chosen chosen)) (next-path p from to)
    ∙ (filter-append (is_chosen chosen) (take (p - 1) network_paths) (p ∷ [])
    ∙ ap (λ l. chosen_below chosen p ++ l) (cond-true (is_chosen chosen p) (p ∷ []) [] on))

pub chosen-skip : (chosen : List Bool) (p : ℕ) → 1 ≤ p → p < 5 → is_chosen chosen p ≡ false
    → chosen_below chosen (p + 1) ≡ chosen_below chosen p
chosen-skip chosen p from to off =
    ap (filter (is_chosen chosen)) (next-path p from to)
    ∙ (filter-append (is_chosen chosen) (take (p - 1) network_paths) (p ∷ [])
    ∙ (ap (λ l. chosen_below chosen p ++ l) (cond-false (is_chosen chosen p) (p ∷ []) [] off)
    ∙ append-nil (chosen_below chosen p)))

pub due-more : (net : NetPlan) (n : ℕ) (chosen : List Bool) (p : ℕ) (old mid : NodeIs)
    → GaveUpBelow net n chosen p old mid → (paths : List ℕ)
    → filter_map (due_on net n old) (paths ++ p ∷ []) ≡ filter_map (due_on net n old) paths ++
    filter_map (due_on net n mid) (p ∷ [])
due-more net n chosen p old mid g paths = filter_map-append (due_on net n old) paths (p ∷ [])
    ∙ ap (λ (d : Option CallId). filter_map (due_on net n old) paths ++ cons_option d [])
    (sym (due-as-before net n chosen p old mid g))

-- ---- what the controller notes of calls that are given up

pub noted-of : (ids : List CallId) (noted : List Entry) (done : List RingEntry)
    → InOrder IsGivenUp ids noted done → noted ≡ filter_map finish_of done
noted-of [] noted done a = a.0 ∙ ap (filter_map finish_of) (sym a.1)
noted-of (id ∷ ids) noted done a =
    let word = a.6.0 in
    let rest = noted-of ids a.1 a.3 a.7 in
    let done-is : done ≡ GiveUp id word ∷ a.3 = a.5 ∙ ap (λ l. l ++ a.3) a.6.2 in
    a.4 ∙ (ap (λ l. l ++ a.1) a.6.1
    ∙ (ap (λ (l : List Entry). Finish id (Bad word) ∷ l) rest ∙ ap (filter_map finish_of)
    (sym done-is)))
