-- What the paths of a bridge's end and those of its node say of one another.
use Rattle.std.proofs.Common.{◌≡◌, ℕ, ◌<◌, ◌-◌, ◌==◌, ◌&&◌, Bool, true, false, cond, List, []}
use Rattle.std.proofs.Common.{◌∷◌, ◌++◌, filter_map, get_or, set, zero, suc, Option, Some, None}
use Rattle.std.proofs.Common.{refl, sym, ap, ◌∙◌, inl, inr, arith, eq-eqb, get_or-set_other}
use Rattle.std.specs.Prelude.{is_some}
use Rattle.std.specs.List.{AllByRecursion as Each, cons_option}
use Rattle.std.proofs.lemmas.Bool.{cases_Bool, cases_eq, cond-true, cond-false, ne_eqb}
use Rattle.plant_types.specs.declared.net.BridgePlan.{BridgePlan}
use Rattle.mstr_block.specs.declared.call.CallId.{CallId}
use Rattle.ring_core.specs.Words.{is_same_call}
use Rattle.ring_core.specs.declared.frame.Frame.{Frame}
use Rattle.ring_core.specs.declared.path.Await.{Await}
use Rattle.ring_core.specs.declared.path.Await.TheVariants.{Nothing, Out, Arrived, Failed}
use Rattle.ring_core.specs.declared.entry.RingEntry.{RingEntry}
use Rattle.ring_core.specs.Legal.{IsPath}
use Rattle.ring_core.specs.Machine.{awaited_number}
use Rattle.bridge_relay.specs.declared.entry.BridgeEntry.{BridgeEntry}
use Rattle.bridge_relay.specs.Machine.{EndIs, RelayPath, freed, relay_path, unused_path}
use Rattle.bridge_relay.specs.Laws.{end_after}
use Rattle.bridge_relay.specs.Legal.{is_call_out}
use Rattle.bridge_relay.proofs.Paths.{path_known}
use Rattle.tied_lists.specs.Items.{Asked, AtHome, Called, CallSort, Item, NetCall, OverNet}
use Rattle.tied_lists.specs.Items.{kind_in, kind_of_sort, last_asked, net_ask, or_some}
use Rattle.tied_lists.specs.Tied.{TiedEnd}
use Rattle.tied_lists.specs.Waits.{AwaitsThis, last_number, number_next, waiting, waits_next}
use Rattle.tied_lists.proofs.Asked.{waiting-last}
use Rattle.tied_lists.proofs.Paths.{number-push, waiting-push}
use Rattle.comm_port.proofs.Dues.{nothing-waits}
use Rattle.bridge_port.specs.EndTurns.{EndPathsAgree, number_out, number_waited}
use Rattle.comm_port.specs.JointHistory.{side_items}
use Rattle.bridge_port.proofs.Lists.{IsNet, all-net}

-- ---- the paths

-- those of the end as they were
pub agree-as : (old new : EndIs) (b : List RingEntry) → new.paths ≡ old.paths → EndPathsAgree old b
    → EndPathsAgree new b
agree-as old new b same k = record {
  waits = λ p is. k.waits p is
      ∙ ap (λ (ps : List RelayPath). number_out (get_or ps (p - 1) unused_path)) (sym same);
  numbers = λ p is. k.numbers p is
      ∙ ap (λ (ps : List RelayPath). (get_or ps (p - 1) unused_path).last) (sym same);
}

-- an entry of the node that says nothing of its own calls
pub agree-still : (end : EndIs) (b : List RingEntry) (e : RingEntry)
    → ((p : ℕ) (now : Option Frame) → waits_next p now e ≡ now)
    → ((p now : ℕ) → number_next p now e ≡ now)
    → EndPathsAgree end b → EndPathsAgree end (b ++ e ∷ [])
agree-still end b e waits numbers k = record {
  waits = λ p is. ap number_waited (waiting-push p b e ∙ waits p (waiting p b)) ∙ k.waits p is;
  numbers = λ p is. number-push p b e ∙ (numbers p (last_number p b) ∙ k.numbers p is);
}

freed-here : (ps : List RelayPath) (i : ℕ)
    → get_or (set ps i (record (get_or ps i unused_path) { out = None })) i unused_path
    ≡ record (get_or ps i unused_path) { out = None }
freed-here [] zero = refl
freed-here [] (suc i) = refl
freed-here (x ∷ ps) zero = refl
freed-here (x ∷ ps) (suc i) = freed-here ps i

freed-there : (end : EndIs) (p q : ℕ) → IsPath p → IsPath q → (p ≡ q → ⊥)
    → relay_path (freed end q) p ≡ relay_path end p
freed-there end p q is_p is_q other =
    get_or-set_other end.paths (q - 1) (p - 1) _ unused_path
    (λ same. other (let a = is_p.0 in let b = is_q.0 in omega (arith, a, b, same)))

-- a call that was ended by one entry of each list
pub agree-ended : (end : EndIs) (b : List RingEntry) (e : RingEntry) (q : ℕ) → IsPath q
    → ((p : ℕ) (now : Option Frame) → waits_next p now e ≡ cond (q == p) None now)
    → ((p now : ℕ) → number_next p now e ≡ now) → EndPathsAgree end b
    → EndPathsAgree (freed end q) (b ++ e ∷ [])
agree-ended end b e q is_q waits numbers k = record {
  waits = λ p is. ap number_waited (waiting-push p b e ∙ waits p (waiting p b)) ∙ waits-at p is;
  numbers = λ p is. number-push p b e ∙ (numbers p (last_number p b) ∙ (k.numbers p is
      ∙ sym (last-at p is)));
}
  where
    here : relay_path (freed end q) q ≡ record (relay_path end q) { out = None }
    here = freed-here end.paths (q - 1)

    waits-at : (p : ℕ) → IsPath p → number_waited (cond (q == p) None (waiting p b))
        ≡ number_out (relay_path (freed end q) p)
    waits-at p is = elim (cases_eq p q) [
      | inl same ↦
          ap number_waited (cond-true (q == p) None (waiting p b) (eq-eqb q p (sym same)))
          ∙ (sym (ap number_out here)
          ∙ ap (λ (m : ℕ). number_out (relay_path (freed end q) m)) (sym same))
      | inr other ↦
          ap number_waited
          (cond-false (q == p) None (waiting p b) (ne_eqb q p (λ x. other (sym x))))
          ∙ (k.waits p is ∙ ap number_out (sym (freed-there end p q is is_q other)))
    ]

    last-at : (p : ℕ) → IsPath p
        → (relay_path (freed end q) p).last ≡ (relay_path end p).last
    last-at p is = elim (cases_eq p q) [
      | inl same ↦
          ap (λ (m : ℕ). (relay_path (freed end q) m).last) same
          ∙ (ap (λ (x : RelayPath). x.last) here
          ∙ ap (λ (m : ℕ). (relay_path end m).last) (sym same))
      | inr other ↦ ap (λ (x : RelayPath). x.last) (freed-there end p q is is_q other)
    ]

-- ---- what a path waits for

number-of : (a : Await) (f : Frame) → AwaitsThis a (Some f) → awaited_number a ≡ f.id.seq
number-of Nothing f k = absurd k
number-of (Out seq to onward passes) f k = k
number-of (Arrived seq) f k = k
number-of (Failed seq word) f k = k

pub waited-some : (a : Await) (w : Option Frame) → AwaitsThis a w → (awaited_number a ≡ 0 → ⊥)
    → (f : Frame) × (w ≡ Some f) × (f.id.seq ≡ awaited_number a)
waited-some a None k some = absurd (some (ap awaited_number (nothing-waits a k)))
waited-some a (Some f) k some = (f, refl, sym (number-of a f k))

pub waited-none : (a : Await) (w : Option Frame) → AwaitsThis a w
    → ((f : Frame) → w ≡ Some f → 0 < f.id.seq) → awaited_number a ≡ 0 → w ≡ None
waited-none a None k some is = refl
waited-none a (Some f) k some is =
    absurd (let n = number-of a f k in let s = some f refl in omega (arith, n, s, is))

-- what a path waits for is out at the end
out-by : (b : Bool) (last seq : ℕ) → Some seq ≡ cond b (Some last) None
    → (b && (last == seq)) ≡ true
out-by true last seq is = let same : seq ≡ last = cc in eq-eqb last seq (sym same)
out-by false last seq is = absurd (let bad : Some seq ≡ None = is in cc)

pub waited-out : (plan : BridgePlan) (list : List BridgeEntry) (n p seq : ℕ) (b : List RingEntry)
    (f : Frame) → IsPath p → EndPathsAgree (end_after plan list n) b → waiting p b ≡ Some f
    → f.id.seq ≡ seq
    → is_call_out plan list n (record { node = n; path = p; seq = seq }) ≡ true
waited-out plan list n p seq b f path k is number =
    let there = relay_path (end_after plan list n) p in
    let on = out-by (is_some there.out) there.last seq
    (ap Some (sym number) ∙ (sym (ap number_waited is) ∙ k.waits p path)) in
    (λ i. (eq-eqb n n refl i && path_known p path i) && on i)

-- ---- a call that a path waits for was made

ask-none : (c : Called) (id : CallId) (pdu : List ℕ) (rest : List Asked)
    → is_same_call c.id id ≡ false
    → last_asked id (cons_option (net_ask c) rest) ≡ Some pdu → last_asked id rest ≡ Some pdu
ask-none c id pdu rest other is = by c.sort is
  where
    none-or : (o : Option (List ℕ)) → or_some o None ≡ o
    none-or None = refl
    none-or (Some x) = refl

    by : (s : CallSort)
        → last_asked id (cons_option (net_ask (record { id = c.id; sort = s })) rest) ≡ Some pdu
        → last_asked id rest ≡ Some pdu
    by (OverNet route q) k = sym (ap (λ (b : Bool). or_some (last_asked id rest)
        (cond b (Some q) None)) other ∙ none-or (last_asked id rest)) ∙ k
    by (AtHome op) k = k

asked-made : (calls : List Called) (id : CallId) (pdu : List ℕ) → Each IsNet calls
    → last_asked id (filter_map net_ask calls) ≡ Some pdu → kind_in calls id ≡ Some NetCall
asked-made [] id pdu all is = absurd (let bad : None ≡ Some pdu = is in cc)
asked-made (c ∷ calls) id pdu all is = elim (cases_Bool (is_same_call c.id id)) [
  | inl same ↦
      cond-true (is_same_call c.id id) (Some (kind_of_sort c.sort)) (kind_in calls id) same
      ∙ ap Some all.0
  | inr other ↦
      cond-false (is_same_call c.id id) (Some (kind_of_sort c.sort)) (kind_in calls id) other
      ∙ asked-made calls id pdu all.1
      (ask-none c id pdu (filter_map net_ask calls) other is)
]

pub made-net : (n p : ℕ) (list : List BridgeEntry) (backs : List Item) (b : List RingEntry)
    (f : Frame) → f.id.path ≡ p → TiedEnd (side_items n list) backs b → waiting p b ≡ Some f
    → kind_in (side_items n list).calls f.id ≡ Some NetCall
made-net n p list backs b f path t is =
    asked-made (side_items n list).calls f.id f.pdu (all-net n list)
    (ap (last_asked f.id) (sym t.asks) ∙ waiting-last p f b path is)
