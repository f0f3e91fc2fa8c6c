-- Calls of a bridge's end that are given up, path by path.
use Rattle.std.proofs.Common.{◌≡◌, ℕ, ◌+◌, ◌<◌, ◌≤◌, Bool, true, false, List, [], ◌∷◌, ◌++◌, Option}
use Rattle.std.proofs.Common.{Some, None, refl, sym, ap, ◌∙◌, subst, arith, append-nil}
use Rattle.std.specs.List.{cons_option}
use Rattle.plant_types.specs.declared.net.NetPlan.{NetPlan}
use Rattle.mstr_block.specs.declared.call.CallId.{CallId}
use Rattle.ring_core.specs.declared.frame.Frame.{Frame}
use Rattle.ring_core.specs.declared.path.Await.TheVariants.{Nothing}
use Rattle.ring_core.specs.declared.entry.RingEntry.{RingEntry}
use Rattle.ring_core.specs.declared.entry.RingEntry.TheVariants.{GiveUp}
use Rattle.ring_core.specs.Legal.{IsLegalRing, IsPath}
use Rattle.ring_core.specs.Machine.{NodeIs, awaited_number, path_of}
use Rattle.bridge_relay.specs.declared.entry.BridgeEntry.{BridgeEntry}
use Rattle.bridge_relay.specs.declared.entry.BridgeEntry.TheVariants.{Finish}
use Rattle.bridge_relay.specs.declared.entry.RelayResult.TheVariants as results
use Rattle.bridge_relay.specs.Machine.{EndIs}
use Rattle.bridge_relay.specs.Laws.{end_after, is_by}
use Rattle.bridge_relay.specs.Legal.{IsBridgeHistory, is_call_out}
use Rattle.tied_lists.specs.Own.{is_of, own, Grew, WentOn}
use Rattle.tied_lists.specs.Items.{Item, Items, NetCall, kind_in}
use Rattle.tied_lists.specs.Tied.{TiedEnd}
use Rattle.tied_lists.specs.Waits.{AwaitsThis, HasLeft, has_left, waiting}
use Rattle.tied_lists.proofs.Growth.{grew-more, grew-one, grew-ours}
use Rattle.tied_lists.proofs.Histories.{legal-follows}
use Rattle.tied_lists.proofs.Turns.{Found, unmoved}
use Rattle.comm_port.specs.Giving.{GivesOnPath, GivesWhere, IsDueNext, chosen_below, due_calls}
use Rattle.comm_port.specs.Giving.{due_on, given_due, is_chosen, part_at, part_no}
use Rattle.comm_port.specs.Parts.{EachNext, InOrder, PartOf}
use Rattle.comm_port.specs.Sending.{GaveUp, sends_left, sends_of}
use Rattle.comm_port.specs.Sides.{RingSideIs}
use Rattle.comm_port.specs.Turns.{KeepsInbox}
use Rattle.comm_port.proofs.Dues.{Judged, chosen-more, chosen-skip, due-more, judged, none-due}
use Rattle.comm_port.proofs.Dues.{nothing-waits}
use Rattle.comm_port.proofs.GivesUp.{may-yes, no-no, on-given, on-none, on-not}
use Rattle.comm_port.proofs.HostTurning.{own-turn}
use Rattle.comm_port.proofs.Parts.{each-both, each-still, grew-none, in-order-both, in-order-one}
use Rattle.comm_port.proofs.Parts.{part-both}
use Rattle.comm_port.proofs.RingTurns.{kept-both, on-still}
use Rattle.comm_port.proofs.Sends.{kept-found}
use Rattle.bridge_port.specs.EndParts.{EndGivesUp}
use Rattle.bridge_port.specs.EndTurns.{EndTurning, EndPathsAgree}
use Rattle.comm_port.specs.JointHistory.{backs_of, side_items}
use Rattle.bridge_port.specs.Sides.{BridgeSideIs}
use Rattle.bridge_port.proofs.Across.{own-step}
use Rattle.bridge_port.proofs.EndTurns.{turning-others}
use Rattle.bridge_port.proofs.Ends.{end-given}
use Rattle.bridge_port.proofs.Lists.{backs-one, items-one, mine-one}
use Rattle.bridge_port.proofs.Waited.{agree-as, agree-ended, made-net, waited-none, waited-out}
use Rattle.bridge_port.proofs.Waited.{waited-some}

-- ---- a look at the ring

pub record Looked {P Q : Type 0} (alone : Bool) (n : ℕ) (bridge : BridgeSideIs P)
    (list : List BridgeEntry) (side : RingSideIs Q) (ring ring' : List RingEntry) : Type 0 where
  pub turning : EndTurning n bridge list side ring'
  pub kept : KeepsInbox side.net n ring ring'
  pub found : Found side.net n ring ring'
  pub grew : Grew alone (is_of n) ring [] ring'
  pub went : WentOn alone (is_of n) ring [] ring'

pub looked : {P Q : Type 0} (alone : Bool) (n : ℕ) (bridge : BridgeSideIs P)
    (list : List BridgeEntry) (side : RingSideIs Q) (ring ring' : List RingEntry)
    → IsLegalRing side.net ring' → WentOn alone (is_of n) ring [] ring'
    → EndTurning n bridge list side ring → Looked alone n bridge list side ring ring'
looked alone n bridge list side ring ring' legal went t =
    let on = on-still side alone ring ring' n t.own_turn legal went in
    let found = unmoved side.net n alone ring ring' on went t.own_turn.free in
    let kept = kept-found side.net n ring ring' on found in
    let grew = grew-one alone (is_of n) ring [] ring' refl went in
    record {
      turning = turning-others alone n bridge list side side ring ring'
          (own-turn side ring ring' n t.own_turn legal kept) grew t;
      kept = kept;
      found = found;
      grew = grew;
      went = went;
    }

-- ---- what a path waits for

-- the call that a path waits for, by the number that the ring told of it
pub record WaitsOn (n p seq : ℕ) (net : NetPlan) (plan-out : Bool) (ring : List RingEntry) : Type 0
  where
    pub ask : Frame
    pub waits : waiting p (own n ring) ≡ Some ask
    pub named : ask.id ≡ record { node = n; path = p; seq = seq }
    pub judged-is : Judged (due_on net n (part_at net n ring) p)
        (part_no net (part_at net n ring) (record { node = n; path = p; seq = seq }))
        (record { node = n; path = p; seq = seq })
    pub out : plan-out ≡ true

pub waits-on : {P Q : Type 0} (n p seq : ℕ) (bridge : BridgeSideIs P) (list : List BridgeEntry)
    (side : RingSideIs Q) (ring : List RingEntry) → IsPath p → EndTurning n bridge list side ring
    → seq ≡ awaited_number (path_of (part_at side.net n ring) p).awaits → (seq ≡ 0 → ⊥)
    → WaitsOn n p seq side.net
    (is_call_out bridge.plan list n (record { node = n; path = p; seq = seq })) ring
waits-on n p seq bridge list side ring path t is some =
    let id : CallId = record { node = n; path = p; seq = seq } in
    let follows = (legal-follows side.net ring n t.own_turn.on).node.part in
    let awaits = (path_of (part_at side.net n ring) p).awaits in
    let w = waited-some awaits (waiting p (own n ring)) (follows.paths p) (λ e. some (is ∙ e)) in
    let ask = follows.asks p w.0 w.1 in
    let number : w.0.id.seq ≡ seq = w.2 ∙ sym is in
    let named : w.0.id ≡ id =
    (λ i. record { node = ask.node i; path = ask.path i; seq = number i }) in
    record {
      ask = w.0;
      waits = w.1;
      named = named;
      judged-is = judged side.net n p (part_at side.net n ring) w.0 id
          (subst (AwaitsThis awaits) w.1 (follows.paths p)) named
          refl refl;
      out = waited-out bridge.plan list n p seq (own n ring) w.0 path t.paths w.1 number;
    }

-- ---- the two lists after it

path-none : (alone alone' : Bool) (net : NetPlan) (n p : ℕ) (list : List BridgeEntry)
    (ring ring' : List RingEntry) → due_on net n (part_at net n ring) p ≡ None
    → Grew alone' (is_of n) ring [] ring'
    → PartOf alone alone' (is_by n) n (InOrder (EndGivesUp n) (due_calls net n ring (p ∷ [])))
    list list ring ring'
path-none alone alone' net n p list ring ring' none grew = record {
  noted = [];
  done = [];
  due = subst (λ (d : Option CallId). InOrder (EndGivesUp n) (cons_option d []) [] []) (sym none)
      (refl, refl);
  station = grew-none alone (is_by n) list;
  node = grew;
}

path-given : (alone alone' : Bool) (net : NetPlan) (n p : ℕ) (id : CallId) (word : ℕ)
    (list list' : List BridgeEntry) (ring ring' : List RingEntry)
    → due_on net n (part_at net n ring) p ≡ Some id
    → Grew alone (is_by n) list (Finish n id (results.Bad word) ∷ []) list'
    → Grew alone' (is_of n) ring (GiveUp id word ∷ []) ring'
    → PartOf alone alone' (is_by n) n (InOrder (EndGivesUp n) (due_calls net n ring (p ∷ [])))
    list list' ring ring'
path-given alone alone' net n p id word list list' ring ring' due noted grew = record {
  noted = Finish n id (results.Bad word) ∷ [];
  done = GiveUp id word ∷ [];
  due = subst (λ (d : Option CallId). InOrder (EndGivesUp n) (cons_option d [])
      (Finish n id (results.Bad word) ∷ []) (GiveUp id word ∷ [])) (sym due)
      (in-order-one (EndGivesUp n) id (Finish n id (results.Bad word) ∷ []) (GiveUp id word ∷ [])
      (word, refl, refl));
  station = noted;
  node = grew;
}

on-later : (alone : Bool) (net : NetPlan) (n p : ℕ) (a b c : List RingEntry)
    → part_at net n b ≡ part_at net n a → WentOn alone (is_of n) a [] b
    → GivesOnPath net n p b c → GivesOnPath net n p a c
on-later alone net n p a b c same went g = record {
  part_is = subst (λ (x : NodeIs). part_at net n c ≡ given_due x (due_on net n x p)) same g.part_is;
  each = each-both n (IsDueNext net n (λ q. q ≡ p) (part_at net n a)) a b c
      (each-still alone n (IsDueNext net n (λ q. q ≡ p) (part_at net n a)) a b went)
      (subst (λ (x : NodeIs). EachNext n (IsDueNext net n (λ q. q ≡ p) x) b c) same g.each);
}

-- a call that was given up, and ended
turning-gave : {P Q : Type 0} (alone alone' : Bool) (n : ℕ) (id : CallId) (word : ℕ)
    (bridge : BridgeSideIs P) (list list' : List BridgeEntry) (side : RingSideIs Q)
    (ring ring' : List RingEntry) → IsPath id.path
    → kind_in (side_items n list).calls id ≡ Some NetCall → IsBridgeHistory bridge.plan list'
    → WentOn alone (is_by n) list (Finish n id (results.Bad word) ∷ []) list'
    → Grew alone' (is_of n) ring (GiveUp id word ∷ []) ring'
    → KeepsInbox side.net n ring ring' → IsLegalRing side.net ring'
    → EndTurning n bridge list side ring → EndTurning n bridge list' side ring'
turning-gave alone alone' n id word bridge list list' side ring ring' path made legal went grew kept
    legal_ring t =
    let e : BridgeEntry = Finish n id (results.Bad word) in
    let s = own-step alone bridge.plan n list e list' refl t.is_open.end legal went in
    let own_is : own n ring' ≡ own n ring ++ GiveUp id word ∷ [] =
    grew-ours alone' (is_of n) ring (GiveUp id word ∷ []) ring' grew in
    let tied = end-given (side_items n list) (backs_of n list) (own n ring) id word made t.tied in
    let before = agree-as (end_after bridge.plan list n) s.past (own n ring) s.stays.paths t.paths
    in
    let paths = agree-ended s.past (own n ring) (GiveUp id word) id.path path (λ p now. refl)
    (λ p now. refl) before in
    record {
      serves = t.serves;
      is_open = record {
        end = t.is_open.end;
        here = ap (λ (x : EndIs). x.gone) s.after_is ∙ (s.stays.gone ∙ t.is_open.here);
      };
      legal = legal;
      own_turn = own-turn side ring ring' n t.own_turn legal_ring kept;
      tied = subst (TiedEnd (side_items n list') (backs_of n list')) (sym own_is)
          (subst (λ (l : List Item). TiedEnd (side_items n list') l (own n ring ++ GiveUp id word
          ∷ [])) (sym (backs-one alone n list e list' refl went ∙ append-nil (backs_of n list)))
          (subst (λ (a : Items). TiedEnd a (backs_of n list) (own n ring ++ GiveUp id word ∷ []))
          (sym (items-one alone n list e list' refl went)) tied));
      paths = subst (EndPathsAgree (end_after bridge.plan list' n)) (sym own_is)
          (subst (λ (x : EndIs). EndPathsAgree x (own n ring ++ GiveUp id word ∷ []))
          (sym s.after_is) paths);
    }

-- ---- one path

pub record GivesPath {P Q : Type 0} (alone alone' : Bool) (n p : ℕ) (bridge : BridgeSideIs P)
    (list list' : List BridgeEntry) (side : RingSideIs Q) (ring ring' : List RingEntry) : Type 0
  where
    pub turning : EndTurning n bridge list' side ring'
    pub kept : KeepsInbox side.net n ring ring'
    pub less : sends_left side.net ring' n ≤ sends_left side.net ring n
    pub left : HasLeft side.net ring n → HasLeft side.net ring' n
    pub given : PartOf alone alone' (is_by n) n
        (InOrder (EndGivesUp n) (due_calls side.net n ring (p ∷ []))) list list' ring ring'
    pub part : GivesOnPath side.net n p ring ring'

-- it waits for nothing
pub gives-zero : {P Q : Type 0} (alone alone' : Bool) (n p seq : ℕ) (bridge : BridgeSideIs P)
    (list : List BridgeEntry) (side : RingSideIs Q) (a b : List RingEntry)
    → EndTurning n bridge list side a → IsLegalRing side.net b
    → WentOn alone' (is_of n) a [] b
    → seq ≡ awaited_number (path_of (part_at side.net n b) p).awaits → seq ≡ 0
    → GivesPath alone alone' n p bridge list list side a b
gives-zero alone alone' n p seq bridge list side a b t legal went is zero' =
    let l = looked alone' n bridge list side a b legal went t in
    let follows = (legal-follows side.net b n l.turning.own_turn.on).node.part in
    let awaits = (path_of (part_at side.net n b) p).awaits in
    let none = waited-none awaits (waiting p (own n b)) (follows.paths p)
    (λ f w. (follows.asks p f w).number) (sym is ∙ zero') in
    let nothing : awaits ≡ Nothing = nothing-waits awaits
    (subst (AwaitsThis awaits) none (follows.paths p)) in
    let due : due_on side.net n (part_at side.net n b) p ≡ None =
    none-due side.net n p (part_at side.net n b) nothing in
    record {
      turning = l.turning;
      kept = l.kept;
      less = let same : sends_left side.net b n ≡ sends_left side.net a n =
          ap sends_of l.found.part_is in omega (arith, same);
      left = λ gone. ap (λ (x : NodeIs). has_left x.status) l.found.part_is ∙ gone;
      given = path-none alone alone' side.net n p list a b
          (ap (λ (x : NodeIs). due_on side.net n x p) (sym l.found.part_is) ∙ due) l.grew;
      part = on-later alone' side.net n p a b b l.found.part_is l.went (on-none side.net n p b due);
    }

-- the ring does not let its call go
pub gives-kept : {P Q : Type 0} (alone alone' : Bool) (n p seq : ℕ) (bridge : BridgeSideIs P)
    (list : List BridgeEntry) (side : RingSideIs Q) (a b c : List RingEntry) → IsPath p
    → EndTurning n bridge list side a → IsLegalRing side.net b
    → WentOn alone' (is_of n) a [] b
    → seq ≡ awaited_number (path_of (part_at side.net n b) p).awaits → (seq ≡ 0 → ⊥)
    → GaveUp alone' side.net (record { node = n; path = p; seq = seq }) b c None
    → IsLegalRing side.net c → GivesPath alone alone' n p bridge list list side a c
gives-kept alone alone' n p seq bridge list side a b c path t legal went is some gave legal' =
    let net = side.net in
    let id : CallId = record { node = n; path = p; seq = seq } in
    let l = looked alone' n bridge list side a b legal went t in
    let w = waits-on n p seq bridge list side b path l.turning is some in
    let due = no-no alone' net n p id b c refl w.judged-is gave in
    let grew : Grew alone' (is_of n) a [] c =
    grew-more alone' (is_of n) a b c [] [] l.grew gave.grew in
    record {
      turning = turning-others alone' n bridge list side side b c
          (own-turn side b c n l.turning.own_turn legal' gave.kept) gave.grew l.turning;
      kept = kept-both net n a b c l.kept gave.kept;
      less = let same : sends_left net b n ≡ sends_left net a n = ap sends_of l.found.part_is in
          let k = gave.less in omega (arith, same, k);
      left = λ gone. gave.left
          (ap (λ (x : NodeIs). has_left x.status) l.found.part_is ∙ gone);
      given = path-none alone alone' net n p list a c
          (ap (λ (x : NodeIs). due_on net n x p) (sym l.found.part_is) ∙ due) grew;
      part = on-later alone' net n p a b c l.found.part_is l.went
          (on-not alone' net n p id b c refl w.judged-is None refl gave);
    }

-- it does
pub gives-word : {P Q : Type 0} (alone alone' : Bool) (n p seq word : ℕ) (bridge : BridgeSideIs P)
    (list list' : List BridgeEntry) (side : RingSideIs Q) (a b c : List RingEntry) → IsPath p
    → EndTurning n bridge list side a → IsLegalRing side.net b
    → WentOn alone' (is_of n) a [] b
    → seq ≡ awaited_number (path_of (part_at side.net n b) p).awaits → (seq ≡ 0 → ⊥)
    → GaveUp alone' side.net (record { node = n; path = p; seq = seq }) b c (Some word)
    → IsLegalRing side.net c → IsBridgeHistory bridge.plan list'
    → WentOn alone (is_by n) list
    (Finish n (record { node = n; path = p; seq = seq }) (results.Bad word) ∷ []) list'
    → GivesPath alone alone' n p bridge list list' side a c
gives-word alone alone' n p seq word bridge list list' side a b c path t legal went is some gave
    legal' sound ended =
    let net = side.net in
    let id : CallId = record { node = n; path = p; seq = seq } in
    let e : BridgeEntry = Finish n id (results.Bad word) in
    let l = looked alone' n bridge list side a b legal went t in
    let w = waits-on n p seq bridge list side b path l.turning is some in
    let due = may-yes alone' net n p id word b c refl w.judged-is gave in
    let made = subst (λ (i : CallId). kind_in (side_items n list).calls i ≡ Some NetCall) w.named
    (made-net n p list (backs_of n list) (own n b) w.ask (ap (λ (i : CallId). i.path) w.named)
    l.turning.tied w.waits) in
    let mine = mine-one n e refl in
    record {
      turning = turning-gave alone alone' n id word bridge list list' side b c path made sound ended
          gave.grew gave.kept legal' l.turning;
      kept = kept-both net n a b c l.kept gave.kept;
      less = let same : sends_left net b n ≡ sends_left net a n = ap sends_of l.found.part_is in
          let k = gave.less in omega (arith, same, k);
      left = λ gone. gave.left
          (ap (λ (x : NodeIs). has_left x.status) l.found.part_is ∙ gone);
      given = path-given alone alone' net n p id word list list' a c
          (ap (λ (x : NodeIs). due_on net n x p) (sym l.found.part_is) ∙ due)
          (grew-one alone (is_by n) list (e ∷ []) list' mine ended)
          (grew-more alone' (is_of n) a b c [] (GiveUp id word ∷ []) l.grew gave.grew);
      part = on-later alone' net n p a b c l.found.part_is l.went
          (on-given alone' net n p id word b c refl refl w.judged-is (Some word) refl gave);
    }

-- ---- path after path

pub given-skip : (alone alone' : Bool) (net : NetPlan) (n : ℕ) (chosen : List Bool) (p : ℕ)
    (list list' : List BridgeEntry) (ring ring' : List RingEntry) → 1 ≤ p → p < 5
    → is_chosen chosen p ≡ false
    → PartOf alone alone' (is_by n) n
    (InOrder (EndGivesUp n) (due_calls net n ring (chosen_below chosen p))) list list' ring ring'
    → PartOf alone alone' (is_by n) n
    (InOrder (EndGivesUp n) (due_calls net n ring (chosen_below chosen (p + 1)))) list list' ring
    ring'
given-skip alone alone' net n chosen p list list' ring ring' from to off g =
    subst (λ (l : List ℕ). PartOf alone alone' (is_by n) n
    (InOrder (EndGivesUp n) (due_calls net n ring l)) list list' ring ring')
    (sym (chosen-skip chosen p from to off)) g

pub given-more : (alone alone' : Bool) (net : NetPlan) (n : ℕ) (chosen : List Bool) (p : ℕ)
    (one two three : List BridgeEntry) (ring ring' ring'' : List RingEntry) → 1 ≤ p → p < 5
    → is_chosen chosen p ≡ true → GivesWhere net n chosen p ring ring'
    → PartOf alone alone' (is_by n) n
    (InOrder (EndGivesUp n) (due_calls net n ring (chosen_below chosen p))) one two ring ring'
    → PartOf alone alone' (is_by n) n
    (InOrder (EndGivesUp n) (due_calls net n ring' (p ∷ []))) two three ring' ring''
    → PartOf alone alone' (is_by n) n
    (InOrder (EndGivesUp n) (due_calls net n ring (chosen_below chosen (p + 1)))) one three ring
    ring''
given-more alone alone' net n chosen p one two three ring ring' ring'' from to on g a b =
    let paths = chosen_below chosen p in
    let is : due_calls net n ring (chosen_below chosen (p + 1))
    ≡ due_calls net n ring paths ++ due_calls net n ring' (p ∷ []) =
    ap (due_calls net n ring) (chosen-more chosen p from to on) ∙ due-more net n chosen p
    (part_at net n ring) (part_at net n ring') g.part paths in
    subst (λ (l : List CallId). PartOf alone alone' (is_by n) n (InOrder (EndGivesUp n) l) one
    three ring ring'') (sym is)
    (part-both alone alone' (is_by n) n (InOrder (EndGivesUp n) (due_calls net n ring paths))
    (InOrder (EndGivesUp n) (due_calls net n ring' (p ∷ [])))
    (InOrder (EndGivesUp n) (due_calls net n ring paths ++ due_calls net n ring' (p ∷ []))) one two
    three ring ring' ring''
    (λ noted noted' done done' x y. in-order-both (EndGivesUp n) (due_calls net n ring paths)
    (due_calls net n ring' (p ∷ [])) noted noted' done done' x y) a b)
