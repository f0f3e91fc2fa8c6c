-- A node that sends until its outbox is empty.
use Rattle.std.proofs.Common.{◌≡◌, ◌⊎◌, ℕ, zero, suc, ◌+◌, ◌<◌, ◌≤◌, nat_le, Bool, true, false}
use Rattle.std.proofs.Common.{cond, List, [], ◌∷◌, ◌++◌}
use Rattle.std.proofs.Common.{get_or, set, filter_map, Some, None, refl, sym, ap, ◌∙◌, subst, inl}
use Rattle.std.proofs.Common.{inr, ⊎_elim, arith}
use Rattle.std.proofs.Common.{get_or-set_other}
use Rattle.std.specs.List.{AllByRecursion as Each}
use Rattle.std.proofs.lemmas.Bool.{cases_Bool, cases_eq, cond-false, leb-true, leb-false, lt-leb}
use Rattle.std.proofs.lemmas.List.Elements.{filter_map-append}
use Rattle.plant_types.specs.declared.net.NetPlan.{NetPlan}
use Rattle.mstr_block.specs.declared.call.CallId.{CallId}
use Rattle.controller_core.specs.declared.entry.Entry.{Entry}
use Rattle.ring_core.specs.declared.frame.FrameKind.{FrameKind}
use Rattle.ring_core.specs.declared.frame.FrameKind.TheVariants.{Request, Reply}
use Rattle.ring_core.specs.declared.frame.Frame.{Frame}
use Rattle.ring_core.specs.declared.path.Await.{Await}
use Rattle.ring_core.specs.declared.path.Await.TheVariants.{Nothing, Out, Arrived, Failed}
use Rattle.ring_core.specs.declared.path.Path.{Path}
use Rattle.ring_core.specs.declared.entry.Heard.{Heard}
use Rattle.ring_core.specs.declared.entry.Heard.TheVariants.{Acked, Silent, Busy}
use Rattle.ring_core.specs.declared.entry.RingEntry.{RingEntry}
use Rattle.ring_core.specs.declared.entry.RingEntry.TheVariants.{Post, Send, Take, Local, GiveUp}
use Rattle.ring_core.specs.declared.entry.RingEntry.TheVariants.{Pass, Leave, Join}
use Rattle.ring_core.specs.Legal.{IsPath, IsFrom}
use Rattle.ring_core.specs.Machine.{is_here, NodeIs, no_path, path_of}
use Rattle.ring_core.specs.Machine.{passes_of, failed, sent_off, heard_by}
use Rattle.ring_core.specs.Machine.{awaited_number, busy_word, silence_word}
use Rattle.tied_lists.specs.Own.{is_of, Grew}
use Rattle.tied_lists.specs.Waits.{IsOnRing}
use Rattle.tied_lists.proofs.Boxes.{each-drop}
use Rattle.tied_lists.proofs.Histories.{IsOwn, legal-follows}
use Rattle.comm_port.specs.Giving.{part_at, due_by, due_on, is_chosen, AsksAreOn}
use Rattle.comm_port.specs.Giving.{MaySend, HasSent, GivesWhere, IsDueNext, IsOtherPath}
use Rattle.comm_port.specs.Giving.{HasFailed, NoneFailed, each_path}
use Rattle.comm_port.specs.HoldTurn.{IsGivenUp, SendsAll, finish_of}
use Rattle.comm_port.specs.SendsAll.{IsNextSending}
use Rattle.comm_port.specs.Parts.{InOrder, PartOf, EachNext}
use Rattle.joint_history.specs.Reading.{is_ours}
use Rattle.comm_port.specs.Sending.{SentNext, AllSent, IsThis}
use Rattle.comm_port.proofs.Parts.{grew-none, part-as, part-both, each-as, each-both, each-grew}
use Rattle.comm_port.proofs.Dues.{noted-of}

-- ---- which paths have failed

-- a path that failed
pub failed-is : (a : Await) → HasFailed a → (seq word : ℕ) × (a ≡ Failed seq word)
failed-is Nothing f = absurd f
failed-is (Out seq to onward passes) f = absurd f
failed-is (Arrived seq) f = absurd f
failed-is (Failed seq word) f = (seq, word, refl)

-- a path that failed with a word has failed
has-failed : (a : Await) (seq word : ℕ) → a ≡ Failed seq word → HasFailed a
has-failed a seq word is = subst HasFailed (sym is) tt

-- none failed where none did with a number and a word
none-of : (c : NodeIs) → ((path seq word : ℕ) → (path_of c path).awaits ≡ Failed seq word → ⊥)
    → NoneFailed each_path c
none-of c none p on f =
    let is = failed-is (path_of c p).awaits f in none p is.0 is.1 is.2

-- ---- a Send, by the node's part

after-fail : (net : NetPlan) (n : ℕ) (chosen : List Bool) (c : NodeIs) (kind : FrameKind)
    (id : CallId) (word : ℕ) → 0 < net.answer → (kind ≡
    Request → (is_chosen chosen id.path ≡ true) × IsPath id.path) → MaySend net n chosen c
    → HasSent net n chosen (sent_off c (failed c kind id word))
after-fail net n chosen c Request id word wait on m = record {
  failed_on = λ q seq w is. ⊎_elim
      (λ (e : q ≡ id.path). subst (λ (x : ℕ). (is_chosen chosen x ≡ true) × IsPath x) (sym e)
      (on refl))
      (λ (o : q ≡ id.path → ⊥). absurd
      (m.none_failed q refl (has-failed (path_of c q).awaits seq w (sym (ap (λ (x : Path). x.awaits)
      (get_or-set_other c.paths id.path q
      (record { awaits = Failed id.seq word; posted = (path_of c id.path).posted }) no_path o))
      ∙ is))))
      (cases_eq q id.path);
  young = λ q is. either c.paths id.path q
      (record { awaits = Failed id.seq word; posted = (path_of c id.path).posted }) net.answer wait
      (m.young q is);
  asks = each-drop _ c.outbox m.asks;
}
  where
    either : (ps : List Path) (p q : ℕ) (v : Path) (answer : ℕ) → passes_of v.awaits < answer
        → passes_of (get_or ps q no_path).awaits < answer →
        passes_of (get_or (set ps p v) q no_path).awaits < answer
    either [] p q v answer new old = old
    either (x ∷ ps) zero zero v answer new old = new
    either (x ∷ ps) zero (suc q) v answer new old = old
    either (x ∷ ps) (suc p) zero v answer new old = old
    either (x ∷ ps) (suc p) (suc q) v answer new old = either ps p q v answer new old
after-fail net n chosen c Reply id word wait on m = record {
  failed_on = λ q seq w is.
      absurd (m.none_failed q refl (has-failed (path_of c q).awaits seq w is));
  young = m.young;
  asks = each-drop _ c.outbox m.asks;
}

after-silence : (net : NetPlan) (n : ℕ) (chosen : List Bool) (c : NodeIs) (kind : FrameKind)
    (id : CallId) (there b : Bool) → 0 < net.answer →
    (kind ≡ Request → (is_chosen chosen id.path ≡ true) × IsPath id.path) → MaySend net n chosen c
    → HasSent net n chosen (cond b (sent_off c (failed c kind id (silence_word there)))
    (record c { tries = c.tries + 1 }))
after-silence net n chosen c kind id there true wait on m = after-fail net n chosen c kind id
    (silence_word there) wait on m
after-silence net n chosen c kind id there false wait on m = record {
  failed_on = λ q seq w is.
      absurd (m.none_failed q refl (has-failed (path_of c q).awaits seq w is));
  young = m.young;
  asks = m.asks;
}

after-heard : (net : NetPlan) (n : ℕ) (chosen : List Bool) (c : NodeIs) (kind : FrameKind)
    (id : CallId) (there : Bool) (heard : Heard) → 0 < net.answer →
    (kind ≡ Request → (is_chosen chosen id.path ≡ true) × IsPath id.path) → MaySend net n chosen c
    → HasSent net n chosen (heard_by c kind id there heard)
after-heard net n chosen c kind id there Acked wait on m = record {
  failed_on = λ q seq w is.
      absurd (m.none_failed q refl (has-failed (path_of c q).awaits seq w is));
  young = m.young;
  asks = each-drop _ c.outbox m.asks;
}
after-heard net n chosen c kind id there Busy wait on m = after-fail net n chosen c kind id
    busy_word wait on m
after-heard net n chosen c kind id there Silent wait on m = after-silence net n chosen c kind id
    there (nat_le 2 c.tries) wait on m

from-path : (n : ℕ) (kind : FrameKind) (f : Frame) → IsFrom n kind f → kind ≡ Request
    → IsPath f.id.path
from-path n Request f it e = it.2
from-path n Reply f it e = absurd (let bad : Reply ≡ Request = e in cc)

-- the frame that is sent is on a chosen path
sent-on : (net : NetPlan) (n : ℕ) (chosen : List Bool) (ring : List RingEntry) (f : Frame)
    (fs : List Frame) → IsOnRing net ring n → (part_at
    net n ring).outbox ≡ f ∷ fs → AsksAreOn chosen (part_at net n ring).outbox → f.kind ≡ Request
    → (is_chosen chosen f.id.path ≡ true) × IsPath f.id.path
sent-on net n chosen ring f fs on first asks kind =
    let from : Each (IsOwn n) (f ∷ fs) = subst (Each (IsOwn n)) first
    ((legal-follows net ring n on).frames n) in
    let here : AsksAreOn chosen (f ∷ fs) = subst (AsksAreOn chosen) first asks in
    (here.0 kind, from-path n f.kind f from.0 kind)

pub has-sent : (alone : Bool) (net : NetPlan) (n : ℕ) (chosen : List Bool) (heard : Heard)
    (ring ring' : List RingEntry) → 0 < net.answer →
    IsOnRing net ring n → SentNext alone net n heard ring ring'
    → MaySend net n chosen (part_at net n ring) → HasSent net n chosen (part_at net n ring')
has-sent alone net n chosen heard ring ring' wait on s m =
    subst (HasSent net n chosen) (sym s.part_is)
    (after-heard net n chosen (part_at net n ring) s.frame.kind s.frame.id s.there heard wait
    (sent-on net n chosen ring s.frame s.left on s.first m.asks) m)

-- an acknowledged one leaves the paths
pub may-go-on : (alone : Bool) (net : NetPlan) (n : ℕ) (chosen : List Bool) (heard : Heard)
    (ring ring' : List RingEntry) → heard ≡ Acked → SentNext
    alone net n heard ring ring' → MaySend net n chosen (part_at net n ring)
    → MaySend net n chosen (part_at net n ring')
may-go-on alone net n chosen heard ring ring' is s m =
    let c = part_at net n ring in
    let now : part_at net n ring' ≡ sent_off c c.paths = s.part_is ∙ ap
    (heard_by c s.frame.kind s.frame.id s.there) is in
    subst (MaySend net n chosen) (sym now)
    (record {
      none_failed = m.none_failed;
      young = m.young;
      asks = each-drop _ c.outbox
          m.asks;
    })

-- ---- what is due where nothing but a failure is

failed-by : (answer n p : ℕ) (a : Await) (id : CallId) → passes_of a < answer
    → due_by answer true n p a ≡ Some id → (word : ℕ) × (a ≡ Failed id.seq word)
failed-by answer n p Nothing id young due = absurd (let bad : None ≡ Some id = due in cc)
failed-by answer n p (Out seq to onward passes) id young due =
    absurd (let none = cond-false (nat_le answer passes)
    (Some (record { node = n; path = p; seq = seq })) None (lt-leb answer passes young) in
    let bad : None ≡ Some id = sym none ∙ due in cc)
failed-by answer n p (Arrived seq) id young due = absurd (let bad : None ≡ Some id = due in cc)
failed-by answer n p (Failed seq word) id young due =
    let same : record { node = n; path = p; seq = seq } ≡ id = unsome
    (record { node = n; path = p; seq = seq }) id due in
    (word, ap (λ (x : CallId). Failed x.seq word) same)
  where
    unsome : (x y : CallId) → Some x ≡ Some y → x ≡ y
    unsome x y e = cc

pub due-failed : (net : NetPlan) (n p : ℕ) (c : NodeIs) (id : CallId) → (is_here c) ≡ true
    → passes_of (path_of c p).awaits < net.answer → due_on net n c p ≡
    Some id → (word : ℕ) × ((path_of c p).awaits ≡ Failed id.seq word)
due-failed net n p c id here young due =
    failed-by net.answer n p (path_of c p).awaits id young
    (ap (λ (b : Bool). due_by net.answer b n p (path_of c p).awaits) (sym here) ∙ due)

-- a path that failed is due
failed-due : (net : NetPlan) (n p seq word : ℕ) (c : NodeIs)
    → (path_of c p).awaits ≡ Failed seq word
    → due_on net n c p ≡ Some (record { node = n; path = p; seq = seq })
failed-due net n p seq word c is = ap (due_by net.answer (is_here c) n p) is

-- ---- all that failed is given up

pub may-again : (net : NetPlan) (n : ℕ) (chosen : List Bool) (ring ring' : List RingEntry)
    → 0 < net.answer → HasSent net n chosen (part_at net n
    ring) → GivesWhere net n chosen 5 ring ring' → MaySend net n chosen (part_at net n ring')
may-again net n chosen ring ring' wait s g = record {
  none_failed = none-of new (λ q seq word is. ⊎_elim
      (λ (low : q < 1). let k = s.failed_on q seq word (sym (same q (inl low)) ∙ is) in absurd
      (let p = k.1.0 in omega (arith, p, low)))
      (λ (from : 1 ≤ q). ⊎_elim
      (λ (high : 5 ≤ q). let k = s.failed_on q seq word (sym (same q (inr (inl high))) ∙ is) in
      absurd (let p = k.1.1 in omega (arith, p, high)))
      (λ (to : q < 5). ⊎_elim
      (λ (on : is_chosen chosen q ≡ true). ⊎_elim
      (λ (none : (path_of new q).awaits ≡ Nothing). let bad : Nothing ≡ Failed seq word = sym none
      ∙ is in absurd cc)
      (λ (kept : (path_of new q ≡ path_of old q) × (due_on net n old q ≡ None)).
      let due = failed-due net n q seq word old (sym (ap (λ (x : Path). x.awaits) kept.0) ∙ is) in
      let bad : Some (record { node = n; path = q; seq = seq }) ≡ None = sym due ∙ kept.1 in absurd
      cc)
      (g.part.settled q from to on))
      (λ (off : is_chosen chosen q ≡ false). let k = s.failed_on q seq word
      (sym (same q (inr (inr off))) ∙ is) in
      let bad : true ≡ false = sym k.0 ∙ off in absurd cc)
      (cases_Bool (is_chosen chosen q)))
      (below q 5)) (first q));
  young = λ q on. young-at q on (first q);
  asks = g.part.asks chosen s.asks;
}
  where
    old : NodeIs
    old = part_at net n ring

    new : NodeIs
    new = part_at net n ring'

    same : (q : ℕ) → IsOtherPath chosen 5 q → (path_of new q).awaits ≡ (path_of old q).awaits
    same q o = ap (λ (x : Path). x.awaits) (g.part.others q o)

    first : (q : ℕ) → (q < 1) ⊎ (1 ≤ q)
    first zero = inl (omega arith)
    first (suc q) = inr (omega arith)

    below : (q k : ℕ) → (k ≤ q) ⊎ (q < k)
    below q k = ⊎_elim (λ (y : nat_le k q ≡ true). inl (leb-true k q y))
        (λ (n' : nat_le k q ≡ false). inr (leb-false k q n')) (cases_Bool (nat_le k q))

    young-at : (q : ℕ) → is_chosen chosen q ≡ true → (q < 1) ⊎ (1 ≤ q)
        → passes_of (path_of new q).awaits < net.answer
    young-at q on (inl low) = subst (λ (a : Await). passes_of a < net.answer)
        (sym (same q (inl low))) (s.young q on)
    young-at q on (inr from) = ⊎_elim
        (λ (high : 5 ≤ q). subst (λ (a : Await). passes_of a < net.answer)
        (sym (same q (inr (inl high)))) (s.young q on))
        (λ (to : q < 5). ⊎_elim
        (λ (none : (path_of new q).awaits ≡ Nothing). subst
        (λ (a : Await). passes_of a < net.answer) (sym none) wait)
        (λ (kept : (path_of new q ≡ path_of old q) × (due_on net n old q ≡ None)). subst
        (λ (x : Path). passes_of x.awaits < net.answer) (sym kept.0) (s.young q on))
        (g.part.settled q from to on))
        (below q 5)

-- ---- each entry

pub send-each : (alone : Bool) (net : NetPlan) (n : ℕ) (chosen : List Bool) (heard : Heard)
    (ring ring' : List RingEntry) → SentNext alone net n heard ring
    ring' → MaySend net n chosen (part_at net n ring)
    → EachNext n (IsNextSending net n each_path) ring ring'
send-each alone net n chosen heard ring ring' s m =
    each-as n (IsThis net n (Send n heard) ring) (IsNextSending net n each_path) ring ring'
    (λ past e it. subst (IsNextSending net n each_path past) (sym it.0)
    (subst (NoneFailed each_path) (sym it.1) m.none_failed)) s.each

pub given-each : (net : NetPlan) (n : ℕ) (chosen : List Bool) (ring ring' : List RingEntry)
    → (is_here (part_at net n ring)) ≡ true → HasSent net n chosen
    (part_at net n ring) → GivesWhere net n chosen 5 ring ring'
    → EachNext n (IsNextSending net n each_path) ring ring'
given-each net n chosen ring ring' here s g =
    each-as n (IsDueNext net n (λ p. is_chosen chosen p ≡ true) (part_at net n ring))
    (IsNextSending net n each_path) ring ring' then-failed g.each
  where
    then-failed : (past : List RingEntry) (e : RingEntry)
        → IsDueNext net n (λ p. is_chosen chosen p ≡ true) (part_at net n ring) past e
        → IsNextSending net n each_path past e
    then-failed past (GiveUp id word) it =
        let f = due-failed net n id.path (part_at net n ring) id here (s.young id.path it.0) it.2 in
        let is : (path_of (part_at net n past) id.path).awaits ≡ Failed id.seq f.0 =
        ap (λ (x : Path). x.awaits) it.1 ∙ f.1 in
        (refl, has-failed _ id.seq f.0 is, ap awaited_number is)
    then-failed past (Post m f) it = absurd it
    then-failed past (Send m heard) it = absurd it
    then-failed past (Take m f) it = absurd it
    then-failed past (Local m id op result) it = absurd it
    then-failed past (Pass m done words) it = absurd it
    then-failed past (Leave m cause) it = absurd it
    then-failed past (Join m) it = absurd it

-- ---- both lists

abbrev pub Finished : List Entry → List RingEntry → Type 0
Finished noted done = noted ≡ filter_map finish_of done

pub finished-both : (noted noted' : List Entry) (done done' : List RingEntry) → Finished noted done
    → Finished noted' done' → Finished (noted ++ noted') (done ++ done')
finished-both noted noted' done done' a b = (λ i. a i ++ b i) ∙ sym
    (filter_map-append finish_of done done')

pub send-part : (alone alone' : Bool) (n : ℕ) (heard : Heard) (known : List Entry)
    (ring ring' : List RingEntry) → Grew alone' (is_of n) ring (Send n
    heard ∷ []) ring' → PartOf alone alone' is_ours n Finished known known ring ring'
send-part alone alone' n heard known ring ring' grew = record {
  noted = [];
  done = Send n heard ∷ [];
  due = refl;
  station = grew-none alone is_ours known;
  node = grew;
}

pub given-part : (alone alone' : Bool) (n : ℕ) (ids : List CallId) (known known' : List Entry)
    (ring ring' : List RingEntry) → PartOf alone alone'
    is_ours n (InOrder IsGivenUp ids) known known' ring ring'
    → PartOf alone alone' is_ours n Finished known known' ring ring'
given-part alone alone' n ids known known' ring ring' p = part-as alone alone' is_ours n
    (InOrder IsGivenUp ids) Finished known known' ring ring'
    (λ noted done x. noted-of ids noted done x) p

pub sent-all : (alone alone' : Bool) (net : NetPlan) (n : ℕ) (chosen : List Bool)
    (known known' : List Entry) (ring0 ring ring' : List RingEntry)
    → AllSent alone' net n ring ring' → MaySend net n chosen (part_at net n ring)
    → PartOf alone alone' is_ours n Finished known known' ring0 ring
    → EachNext n (IsNextSending net n each_path) ring0 ring
    → SendsAll alone alone' net n known known' ring0 ring'
sent-all alone alone' net n chosen known known' ring0 ring ring' s m p each =
    let q = part-both alone alone' is_ours n Finished (λ noted done. (noted ≡ []) × (done ≡ []))
    Finished known known' known' ring0 ring ring'
    (λ noted noted' done done' x y. finished-both noted noted' done done' x
    (y.0 ∙ ap (filter_map finish_of) (sym y.1))) p
    (record {
      noted = [];
      done = [];
      due = (refl, refl);
      station = grew-none alone is_ours known';
      node = s.grew;
    }) in
    record {
      frames = record {
        done = q.done;
        grew = q.node;
        each = each-both n (IsNextSending net n each_path) ring0 ring ring' each
            (each-grew alone' n (IsNextSending net n each_path) ring ring' s.grew);
        all_sent = s.empty;
        none_failed = subst (NoneFailed each_path) (sym s.part_is) m.none_failed;
      };
      finishes = subst (λ (l : List Entry). Grew alone is_ours known l known') q.due q.station;
    }
