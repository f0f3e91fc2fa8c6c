-- Calls that are given up on the paths of a node.
use Rattle.std.proofs.Common.{◌≡◌, ℕ, zero, suc, ◌+◌, ◌<◌, ◌≤◌, Bool, true, false, List, [], ◌∷◌}
use Rattle.std.proofs.Common.{◌++◌, get_or}
use Rattle.std.proofs.Common.{Option, Some, None, refl, sym, ap, ◌∙◌, subst, inl, inr, arith}
use Rattle.std.specs.List.{cons_option}
use Rattle.plant_types.specs.declared.net.NetPlan.{NetPlan}
use Rattle.mstr_block.specs.Table.{network_paths}
use Rattle.mstr_block.specs.declared.call.CallId.{CallId}
use Rattle.mstr_block.specs.declared.call.MstrResult.TheVariants.{Bad}
use Rattle.controller_core.specs.declared.entry.Entry.{Entry}
use Rattle.controller_core.specs.declared.entry.Entry.TheVariants.{Finish}
use Rattle.ring_core.specs.declared.frame.Frame.{Frame}
use Rattle.ring_core.specs.declared.refusal.RingNo.{RingNo}
use Rattle.ring_core.specs.declared.entry.RingEntry.{RingEntry}
use Rattle.ring_core.specs.declared.entry.RingEntry.TheVariants.{Post, Send, Take, Local, GiveUp}
use Rattle.ring_core.specs.declared.entry.RingEntry.TheVariants.{Pass, Leave, Join}
use Rattle.ring_core.specs.declared.path.Await.{Await}
use Rattle.ring_core.specs.declared.path.Await.TheVariants.{Nothing, Out, Arrived, Failed}
use Rattle.ring_core.specs.Machine.{NodeIs, path_of}
use Rattle.tied_lists.specs.Own.{is_of, own, WentOn, Grew}
use Rattle.tied_lists.specs.Items.{Called}
use Rattle.tied_lists.specs.Waits.{waiting as waits_on, AwaitsThis, HasLeft}
use Rattle.tied_lists.proofs.Growth.{grew-one}
use Rattle.tied_lists.proofs.Histories.{legal-follows}
use Rattle.comm_port.proofs.RingTurns.{not-in}
use Rattle.comm_port.specs.Sides.{RingSideIs, RamSideIs}
use Rattle.comm_port.specs.Giving.{part_at, part_no, due_by, due_on, due_calls, given_due}
use Rattle.comm_port.specs.Giving.{given_part, is_chosen, chosen_below}
use Rattle.comm_port.specs.Giving.{IsDueNext, GivesOnPath, GivesWhere}
use Rattle.comm_port.specs.HoldTurn.{IsGivenUp}
use Rattle.comm_port.specs.Parts.{InOrder, PartOf, EachNext}
use Rattle.joint_history.specs.Reading.{is_ours}
use Rattle.comm_port.specs.Sending.{GaveUp, IsThis}
use Rattle.comm_port.specs.Turns.{Turning}
use Rattle.comm_port.specs.Waiting.{id_of}
use Rattle.comm_port.proofs.Parts.{grew-none, in-order-one, in-order-both, part-both, each-none}
use Rattle.comm_port.proofs.Parts.{each-as, each-both, each-grew}
use Rattle.comm_port.proofs.Dues.{Judged, judged, nothing-waits, none-due, below-none, below-skip}
use Rattle.comm_port.proofs.Dues.{below-more}
use Rattle.comm_port.proofs.Dues.{chosen-more, chosen-skip, due-more}
use Rattle.comm_port.proofs.Given.{Waits}

-- what a path of a node awaits is what its own list waits for
awaits-own : {P Q : Type 0} (n p : ℕ) (rest : List Called) (ram : RamSideIs P) (known : List Entry)
    (side : RingSideIs Q) (ring : List
    RingEntry) (w : List (Option Frame)) (o : Option Frame) → get_or w p None ≡ o
    → Turning n rest ram known side ring w → AwaitsThis (path_of
    (part_at side.net n ring) p).awaits o
awaits-own n p rest ram known side ring w o is t =
    subst (AwaitsThis (path_of (part_at side.net n ring) p).awaits) (sym (t.waits.waits p) ∙ is)
    ((legal-follows side.net ring n t.own_turn.on).node.part.paths p)

no-frame : (o : Option Frame) → id_of o ≡ None → o ≡ None
no-frame None e = refl
no-frame (Some f) e = absurd (let bad : Some f.id ≡ None = e in cc)

pub nothing-on : {P Q : Type 0} (n p : ℕ) (rest : List Called) (ram : RamSideIs P)
    (known : List Entry) (side : RingSideIs Q) (ring : List
    RingEntry) (w : List (Option Frame)) → id_of (get_or w p None) ≡ None
    → Turning n rest ram known side ring w → due_on side.net n (part_at
    side.net n ring) p ≡ None
nothing-on n p rest ram known side ring w is t = none-due side.net n p (part_at side.net n ring)
    (nothing-waits _ (awaits-own n p rest ram known side ring w None
    (no-frame (get_or w p None) is) t))

pub judged-on : {P Q : Type 0} (n p : ℕ) (id : CallId) (rest : List Called) (ram : RamSideIs P)
    (known : List Entry) (side : RingSideIs Q)
    (ring : List RingEntry) (w : List (Option Frame)) → Waits n p id ram known side ring w
    → Turning n rest ram known side ring w → Judged
    (due_on side.net n (part_at side.net n ring) p) (part_no side.net (part_at side.net n ring) id)
    id
judged-on n p id rest ram known side ring w k t =
    judged side.net n p (part_at side.net n ring) k.ask id
    (awaits-own n p rest ram known side ring w (Some k.ask) k.slot t) k.same k.own_is k.path_is

-- a GiveUp of the call of a node
node-gave : (alone : Bool) (net : NetPlan) (n : ℕ) (id : CallId) (ring ring' : List RingEntry)
    (word : Option ℕ) → id.node ≡ n → GaveUp alone net id ring ring' word
    → (part_at net n ring' ≡ given_part (part_at net n ring) id word) × EachNext n
    (λ past e. (v : ℕ) × IsThis net n (GiveUp id v) ring past e) ring ring'
node-gave alone net n id ring ring' word own' g =
    subst (λ (m : ℕ). (part_at net m ring' ≡ given_part (part_at net m ring) id word) × EachNext m
    (λ past e. (v : ℕ) × IsThis net m (GiveUp id v)
    ring past e) ring ring') own' (g.part_is, g.each)

pub no-no : (alone : Bool) (net : NetPlan) (n p : ℕ) (id : CallId) (ring ring' : List RingEntry)
    → id.node ≡ n → Judged (due_on net n (part_at
    net n ring) p) (part_no net (part_at net n ring) id) id → GaveUp alone net id ring ring' None
    → due_on net n (part_at net n ring) p ≡ None
no-no alone net n p id ring ring' own' j g =
    let no' : (why : RingNo) × (part_no net (part_at net n ring) id ≡ Some why) = subst
    (λ (m : ℕ). (why : RingNo) × (part_no net (part_at net
    m ring) id ≡ Some why)) own' (g.never refl) in
    j.never no'.0 no'.1

pub may-yes : (alone : Bool) (net : NetPlan) (n p : ℕ) (id : CallId) (word : ℕ)
    (ring ring' : List RingEntry) → id.node ≡ n → Judged (due_on net n
    (part_at net n ring) p) (part_no net (part_at net n ring) id) id
    → GaveUp alone net id ring ring' (Some word) → due_on net n (part_at net n ring) p ≡ Some id
may-yes alone net n p id word ring ring' own' j g =
    j.may (subst (λ (m : ℕ). part_no net (part_at net m ring) id ≡ None) own' (g.may word refl))

-- what is due on one path
pub path-none : (alone alone' : Bool) (net : NetPlan) (n p : ℕ) (known : List Entry)
    (ring0 ring ring' : List RingEntry) → due_on net n
    (part_at net n ring0) p ≡ None → Grew alone' (is_of n) ring [] ring'
    → PartOf alone alone' is_ours n (InOrder IsGivenUp (due_calls net n ring0 (p ∷ []))) known known
    ring ring'
path-none alone alone' net n p known ring0 ring ring' none grew = record {
  noted = [];
  done = [];
  due = subst (λ (d : Option CallId). InOrder IsGivenUp (cons_option d []) [] []) (sym none)
      (refl, refl);
  station = grew-none alone is_ours known;
  node = grew;
}

pub path-given : (alone alone' : Bool) (net : NetPlan) (n p : ℕ) (id : CallId) (word : ℕ)
    (known known' : List Entry) (ring0 ring ring' : List
    RingEntry) → due_on net n (part_at net n ring0) p ≡ Some id
    → WentOn alone is_ours known (Finish id (Bad word) ∷ []) known'
    → Grew alone' (is_of n) ring (GiveUp id word ∷ []) ring'
    → PartOf alone alone' is_ours n (InOrder IsGivenUp (due_calls net n ring0 (p ∷ [])))
    known known' ring ring'
path-given alone alone' net n p id word known known' ring0 ring ring' due went grew = record {
  noted = Finish id (Bad word) ∷ [];
  done = GiveUp id word ∷ [];
  due = subst (λ (d : Option CallId). InOrder IsGivenUp (cons_option d [])
      (Finish id (Bad word) ∷ []) (GiveUp id word ∷ [])) (sym due)
      (in-order-one IsGivenUp id (Finish id (Bad word) ∷ []) (GiveUp id word ∷ [])
      (word, refl, refl));
  station = grew-one alone is_ours known (Finish id (Bad word) ∷ []) known' refl went;
  node = grew;
}

pub on-none : (net : NetPlan) (n p : ℕ) (ring : List RingEntry)
    → due_on net n (part_at net n ring) p ≡ None → GivesOnPath net n p ring ring
on-none net n p ring none = record {
  part_is = ap (given_due (part_at net n ring)) (sym none);
  each = each-none n (IsDueNext net n (λ q. q ≡ p) (part_at net n ring)) ring;
}

pub on-not : (alone : Bool) (net : NetPlan) (n p : ℕ) (id : CallId) (ring ring' : List RingEntry)
    → id.node ≡ n → Judged (due_on net n (part_at
    net n ring) p) (part_no net (part_at net n ring) id) id → (o : Option ℕ) → o ≡ None
    → GaveUp alone net id ring ring' o → GivesOnPath net n p ring ring'
on-not alone net n p id ring ring' own' j o is g' =
    let g = subst (GaveUp alone net id ring ring') is g' in
    let none = no-no alone net n p id ring ring' own' j g in
    let s = node-gave alone net n id ring ring' None own' g in
    record {
      part_is = s.0 ∙ ap (given_due (part_at net n ring)) (sym none);
      each = each-of-none alone net n id ring ring' own' g
          (IsDueNext net n (λ q. q ≡ p) (part_at net n ring));
    }
  where
    each-of-none : (alone' : Bool) (net' : NetPlan) (m : ℕ) (id' : CallId) (a b : List RingEntry)
        → id'.node ≡ m → GaveUp alone' net' id' a b None → (Any : List
        RingEntry → RingEntry → Type 0) → EachNext m Any a b
    each-of-none alone' net' m id' a b own'' g'' Any = subst (λ (k : ℕ). EachNext k Any a b) own''
        (each-grew alone' id'.node Any a b g''.grew)

pub on-given : (alone : Bool) (net : NetPlan) (n p : ℕ) (id : CallId) (word : ℕ)
    (ring ring' : List RingEntry) → id.node ≡ n → id.path ≡ p → Judged
    (due_on net n (part_at net n ring) p) (part_no net (part_at net n ring) id) id → (o : Option ℕ)
    → o ≡ Some word → GaveUp alone net id ring
    ring' o → GivesOnPath net n p ring ring'
on-given alone net n p id word ring ring' own' path' j o is g' =
    let g = subst (GaveUp alone net id ring ring') is g' in
    let due = may-yes alone net n p id word ring ring' own' j g in
    let s = node-gave alone net n id ring ring' (Some word) own' g in
    record {
      part_is = s.0 ∙ ap (given_due (part_at net n ring)) (sym due);
      each = each-as n (λ past e. (v : ℕ) × IsThis net n (GiveUp id v) ring past e)
          (IsDueNext net n (λ q. q ≡ p) (part_at net n ring)) ring ring'
          (λ past e it. subst (IsDueNext net n (λ q. q ≡ p) (part_at net n ring) past)
          (sym it.1.0) (
            path',
            ap (λ (c : NodeIs). path_of c id.path) it.1.1,
            subst
                (λ (q : ℕ). due_on net n (part_at net n ring) q ≡ Some id) (sym path') due,
          )) s.1;
    }

-- ---- path by path

-- the path at a place
pub path-next : (k : ℕ) → k < 4 → get_or network_paths k 0 ≡ k + 1
path-next zero low = refl
path-next (suc zero) low = refl
path-next (suc (suc zero)) low = refl
path-next (suc (suc (suc zero))) low = refl
path-next (suc (suc (suc (suc k)))) low = absurd (omega (arith, low))

pub where-none : (net : NetPlan) (n : ℕ) (chosen : List Bool) (ring : List RingEntry)
    → GivesWhere net n chosen 1 ring ring
where-none net n chosen ring = record {
  part = below-none net n chosen (part_at net n ring);
  each = each-none n (IsDueNext net n (λ p. is_chosen chosen p ≡ true) (part_at net n ring)) ring;
}

pub where-skip : (net : NetPlan) (n : ℕ) (chosen : List Bool) (p : ℕ) (ring ring' : List RingEntry)
    → is_chosen chosen p ≡ false → GivesWhere net n
    chosen p ring ring' → GivesWhere net n chosen (p + 1) ring ring'
where-skip net n chosen p ring ring' off g = record {
  part = below-skip net n chosen p (part_at net n ring) (part_at net n ring') off g.part;
  each = g.each;
}

pub where-more : (net : NetPlan) (n : ℕ) (chosen : List Bool) (p : ℕ)
    (ring ring' ring'' : List RingEntry) → 1 ≤ p → is_chosen chosen p ≡ true
    → GivesWhere net n chosen p ring ring' → GivesOnPath net n p ring' ring''
    → GivesWhere net n chosen (p + 1) ring ring''
where-more net n chosen p ring ring' ring'' from on a b = record {
  part = below-more net n chosen p (part_at net n ring) (part_at net n ring') (part_at net n ring'')
      from on b.part_is a.part;
  each = each-both n (IsDueNext net n (λ q. is_chosen chosen q ≡ true) (part_at net n ring)) ring
      ring' ring'' a.each
      (each-as n (IsDueNext net n (λ q. q ≡ p) (part_at net n ring'))
      (IsDueNext net n (λ q. is_chosen chosen q ≡ true) (part_at net n ring)) ring' ring''
      as-then b.each);
}
  where
    as-then : (past : List RingEntry) (e : RingEntry)
        → IsDueNext net n (λ q. q ≡ p) (part_at net n ring') past e
        → IsDueNext net n (λ q. is_chosen chosen q ≡ true) (part_at net n ring) past e
    as-then past (GiveUp id word) it =
        let same : path_of (part_at net n ring') id.path ≡ path_of (part_at net n ring)
        id.path = a.part.others id.path (inr (inl (let e = it.0 in omega (arith, e)))) in
        let due : due_on net n (part_at net n ring') id.path ≡ due_on net n (part_at net n ring)
        id.path =
        (λ i. due_by net.answer (a.part.here i) n id.path (same i).awaits) in
        (ap (is_chosen chosen) it.0 ∙ on, it.1 ∙ same, sym due ∙ it.2)
    as-then past (Post m f) it = absurd it
    as-then past (Send m heard) it = absurd it
    as-then past (Take m f) it = absurd it
    as-then past (Local m id op result) it = absurd it
    as-then past (Pass m done words) it = absurd it
    as-then past (Leave m cause) it = absurd it
    as-then past (Join m) it = absurd it

pub given-skip : (alone alone' : Bool) (net : NetPlan) (n : ℕ) (chosen : List Bool) (p : ℕ)
    (known known' : List Entry) (ring ring' : List RingEntry)
    → 1 ≤ p → p < 5 → is_chosen chosen p ≡ false
    → PartOf alone alone' is_ours n
    (InOrder IsGivenUp (due_calls net n ring (chosen_below chosen p))) known known' ring ring'
    → PartOf alone alone' is_ours n
    (InOrder IsGivenUp (due_calls net n ring (chosen_below chosen (p + 1)))) known known' ring
    ring'
given-skip alone alone' net n chosen p known known' ring ring' from to off g =
    subst (λ (l : List ℕ). PartOf alone alone' is_ours n
    (InOrder IsGivenUp (due_calls net n ring l)) known known' ring ring')
    (sym (chosen-skip chosen p from to off)) g

pub given-more : (alone alone' : Bool) (net : NetPlan) (n : ℕ) (chosen : List Bool) (p : ℕ)
    (known known' known'' : List Entry) (ring ring' ring'' : List
    RingEntry) → 1 ≤ p → p < 5 → is_chosen chosen p ≡ true → GivesWhere net n chosen p ring ring'
    → PartOf alone alone' is_ours n
    (InOrder IsGivenUp (due_calls net n ring (chosen_below chosen p))) known known' ring ring'
    → PartOf alone alone' is_ours n (InOrder IsGivenUp (due_calls net n ring' (p ∷ []))) known'
    known'' ring' ring''
    → PartOf alone alone' is_ours n
    (InOrder IsGivenUp (due_calls net n ring (chosen_below chosen (p + 1)))) known known'' ring
    ring''
given-more alone alone' net n chosen p known known' known'' ring ring' ring'' from to on g a b =
    let paths = chosen_below chosen p in
    let is : due_calls net n ring (chosen_below chosen (p + 1)) ≡ due_calls net n ring paths ++
    due_calls net n ring' (p ∷ []) =
    ap (due_calls net n ring) (chosen-more chosen p from to on) ∙ due-more net n chosen p
    (part_at net n ring) (part_at net n ring') g.part paths in
    subst (λ (l : List CallId). PartOf alone alone' is_ours n (InOrder IsGivenUp l) known known''
    ring ring'') (sym is)
    (part-both alone alone' is_ours n (InOrder IsGivenUp (due_calls net n ring paths))
    (InOrder IsGivenUp (due_calls net n ring' (p ∷ [])))
    (InOrder IsGivenUp (due_calls net n ring paths ++ due_calls net n ring' (p ∷ []))) known known'
    known'' ring ring' ring''
    (λ noted noted' done done' x y. in-order-both IsGivenUp (due_calls net n ring paths)
    (due_calls net n ring' (p ∷ [])) noted noted' done done' x y) a b)

-- ---- of a node that has left each call that waits may be given up

gone-some : (answer n p : ℕ) (a : Await) (f : Frame) → AwaitsThis a (Some f)
    → due_by answer false n p a ≡ None → ⊥
gone-some answer n p Nothing f w e = w
gone-some answer n p (Out seq to onward passes) f w e = let bad : Some
    (record { node = n; path = p; seq = seq }) ≡ None = e in cc
gone-some answer n p (Arrived seq) f w e = let bad : Some (record { node = n; path = p; seq = seq })
    ≡ None = e in cc
gone-some answer n p (Failed seq word) f w e = let bad : Some
    (record { node = n; path = p; seq = seq }) ≡ None = e in cc

never-no : (due : Option CallId) (no' : Option RingNo) (id : CallId) → Judged due no' id
    → (due ≡ None → ⊥) → no' ≡ None
never-no due None id j some = refl
never-no due (Some why) id j some = absurd (some (j.never why refl))

pub gone-may : {P Q : Type 0} (rest : List Called) (n : ℕ) (id : CallId) (ram : RamSideIs P)
    (known : List Entry) (side : RingSideIs Q) (ring : List RingEntry) (w : List
    (Option Frame)) → HasLeft side.net ring n → (k : Waits n id.path id ram known side ring w)
    → Turning n rest ram known side ring w → part_no side.net (part_at side.net id.node
    ring) id ≡ None
gone-may rest n id ram known side ring w gone k t =
    let p = id.path in
    let c = part_at side.net n ring in
    let some : due_on side.net n c p ≡ None
    → ⊥ = λ e. gone-some side.net.answer n p (path_of c p).awaits k.ask
    (awaits-own n p rest ram known side ring w (Some k.ask) k.slot t)
    (ap (λ (b : Bool). due_by side.net.answer b n p (path_of c p).awaits)
    (sym (not-in side.net n ring gone)) ∙ e) in
    subst (λ (m : ℕ). part_no side.net (part_at side.net m ring) id ≡ None) (sym k.own_is)
    (never-no (due_on side.net n c p) (part_no side.net c id) id
    (judged-on n p id rest ram known side ring w k t) some)

-- a path that waits for nothing awaits nothing
pub waits-nothing : {P Q : Type 0} (n p : ℕ) (rest : List Called) (ram : RamSideIs P)
    (known : List Entry) (side : RingSideIs Q) (ring : List RingEntry) (w : List (Option
    Frame)) → waits_on p (own n ring) ≡ None → Turning n rest ram known side ring w
    → (path_of (part_at side.net n ring) p).awaits ≡ Nothing
waits-nothing n p rest ram known side ring w none t =
    nothing-waits _ (subst (AwaitsThis (path_of (part_at side.net n ring) p).awaits) none
    ((legal-follows side.net ring n t.own_turn.on).node.part.paths p))
