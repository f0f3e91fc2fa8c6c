-- What calls that are given up, and Sends, leave.
use Rattle.std.proofs.Common.{◌≡◌, ℕ, ◌<◌, ◌≤◌, ◌==◌, Bool, List, []}
use Rattle.std.proofs.Common.{◌∷◌, ◌++◌, get_or, set, Option, Some, None, refl, sym, ap}
use Rattle.std.proofs.Common.{◌∙◌, subst, arith, append-nil, eq-eqb, ne_eqb}
use Rattle.std.proofs.lemmas.Bool.{cond-true, cond-false}
use Rattle.mstr_block.specs.declared.call.CallId.{CallId}
use Rattle.mstr_block.specs.declared.call.MstrResult.TheVariants.{Bad}
use Rattle.controller_core.specs.declared.entry.Entry.{Entry}
use Rattle.controller_core.specs.declared.entry.Entry.TheVariants.{Finish}
use Rattle.ring_core.specs.declared.frame.Frame.{Frame}
use Rattle.ring_core.specs.declared.entry.Heard.{Heard}
use Rattle.ring_core.specs.declared.entry.RingEntry.{RingEntry}
use Rattle.ring_core.specs.declared.entry.RingEntry.TheVariants.{Send, GiveUp}
use Rattle.ring_core.specs.Machine.{path_places}
use Rattle.ring_core.specs.Legal.{IsLegalRing, IsPath}
use Rattle.tied_lists.specs.Own.{is_of, own, WentOn, Grew}
use Rattle.tied_lists.specs.Items.{AController, Called, NetCall, Came, with_end}
use Rattle.tied_lists.specs.Tied.{TiedBut}
use Rattle.tied_lists.specs.Calls.{IsOutAs}
use Rattle.tied_lists.specs.Waits.{Holds}
use Rattle.tied_lists.proofs.Paths.{waiting-push}
use Rattle.tied_lists.proofs.Asked.{other-path, no-end-push}
use Rattle.tied_lists.proofs.Growth.{grew-ours}
use Rattle.tied_lists.proofs.Steps.{tied-given_up, tied-quiet}
use Rattle.comm_port.specs.Sides.{RingSideIs, RamSideIs}
use Rattle.joint_history.specs.Reading.{is_ours, items_of}
use Rattle.comm_port.specs.Waiting.{id_of}
use Rattle.comm_port.specs.Sending.{GaveUp, SentNext, sends_left}
use Rattle.comm_port.specs.Turns.{IsOwnTurn, KeepsInbox, AreWaiting, Turning}
use Rattle.comm_port.proofs.RingTurns.{turn-on}
use Rattle.comm_port.proofs.Later.{later-one, tied-later, waits-later}
use Rattle.comm_port.proofs.Served.{waiting-as, waiting-ended}

-- the Request that a path waits for
pub record Waits {P Q : Type 0} (n : ℕ) (p : ℕ) (id : CallId) (ram : RamSideIs P)
    (known : List Entry) (side : RingSideIs Q) (ring
    : List RingEntry) (w : List (Option Frame)) : Type 0 where
  pub ask : Frame
  pub slot : get_or w p None ≡ Some ask
  pub same : ask.id ≡ id
  pub own_is : id.node ≡ n
  pub path_is : id.path ≡ p
  pub is_path : IsPath id.path
  pub low : p < path_places
  pub out : IsOutAs (items_of known) id NetCall

frame-of : (o : Option Frame) (id : CallId) → id_of o ≡ Some id
    → (g : Frame) × (o ≡ Some g) × (g.id ≡ id)
frame-of None id e = absurd (cc)
frame-of (Some g) id e = (g, refl, cc)

pub waits-at-but : {P Q : Type 0} (rest : List Called) (n p : ℕ) (id : CallId) (ram : RamSideIs P)
    (known : List Entry) (side : RingSideIs Q) (ring : List
    RingEntry) (w : List (Option Frame)) → id_of (get_or w p None) ≡ Some id
    → Turning n rest ram known side ring w → Waits n p id
    ram known side ring w
waits-at-but rest n p id ram known side ring w is t =
    let g = frame-of (get_or w p None) id is in
    let ask = t.waits.asks p g.0 g.1 in
    let path_is : id.path ≡ p = ap (λ (i : CallId). i.path) (sym g.2) ∙ ask.path in
    let path : IsPath id.path = subst IsPath (sym path_is) ask.is_path in
    record {
      ask = g.0;
      slot = g.1;
      same = g.2;
      own_is = ap (λ (i : CallId). i.node) (sym g.2) ∙ ask.node;
      path_is = path_is;
      is_path = path;
      low = let k = ask.is_path.1 in omega (arith, k);
      out = subst (λ (i : CallId). IsOutAs (items_of known) i NetCall) g.2 (t.waits.outs p g.0 g.1);
    }

pub waits-at : {P Q : Type 0} (n p : ℕ) (id : CallId) (ram : RamSideIs P) (known : List Entry)
    (side : RingSideIs Q) (ring : List
    RingEntry) (w : List (Option Frame)) → id_of (get_or w p None) ≡ Some id
    → Turning n [] ram known side ring w → Waits n p id
    ram known side ring w
waits-at n p id ram known side ring w is t = waits-at-but [] n p id ram known side ring w is t

pub turn-at : {Q : Type 0} (side : RingSideIs Q) (ring : List RingEntry) (n m : ℕ) → m ≡ n
    → IsOwnTurn side ring n → IsOwnTurn side ring m
turn-at side ring n m is t = subst (IsOwnTurn side ring) (sym is) t

-- a call that was given up, and ended
pub given-lead-but : {P Q : Type 0} (rest : List Called) (alone alone' : Bool) (n p : ℕ)
    (id : CallId) (word : ℕ) (ram ram' : RamSideIs P) (known known' :
    List Entry) (side side' : RingSideIs Q) (ring ring' : List RingEntry) (w : List (Option Frame))
    → ram' ≡ ram → side' ≡ side →
    IsLegalRing side.net ring'
    → Waits n p id ram known side ring w → GaveUp alone' side.net id ring ring' (Some word)
    → WentOn alone is_ours known (Finish
    id (Bad word) ∷ []) known' → Turning n rest ram known side ring w
    → Turning n rest ram' known' side' ring' (set w p None)
given-lead-but {P} {Q} rest alone alone' n p id word ram ram' known known' side side' ring ring' w
    same same' legal k gave went t =
    let e = GiveUp id word in
    let grew : Grew alone' (is_of n) ring (e ∷ []) ring' = subst
    (λ (m : ℕ). Grew alone' (is_of m) ring (e ∷ []) ring') k.own_is gave.grew in
    let kept = subst (λ (m : ℕ). KeepsInbox side.net m ring ring') k.own_is gave.kept in
    let own_is = grew-ours alone' (is_of n) ring (e ∷ []) ring' grew in
    let later = later-one alone known (Finish id (Bad word)) known' went refl in
    let a' = with_end (items_of known) id (Came (Bad word)) in
    subst (λ (s : RamSideIs P). Turning n rest s known' side' ring' (set w p None)) (sym same)
    (record {
      node = t.node;
      own_turn = turn-on side side' ring ring' n same' t.own_turn legal kept;
      tied = tied-later AController rest (own n ring') later
          (subst (TiedBut AController rest a') (sym own_is)
          (tied-given_up AController rest (items_of known) (own n ring) id word k.out.made t.tied));
      waits = waits-later n (own n ring') (set w p None) later
          (subst (λ (l : List RingEntry).
          AreWaiting n a' l (set w p None)) (sym own_is)
          (waiting-ended n (items_of known) a' (own n ring) (own n ring ++ e ∷ []) w p k.low
          (waiting-push p (own n ring) e ∙ cond-true (id.path == p) _ _
          (eq-eqb id.path p k.path_is))
          (λ q o. waiting-push q (own n ring) e ∙ cond-false (id.path == q) _ _
          (ne_eqb id.path q (λ x. o (sym x ∙ k.path_is))))
          (λ i other out. record {
            made = out.made;
            unended = no-end-push i (items_of known).ends _ (other-path id i
                (λ x. other (sym x ∙ k.path_is))) out.unended;
          }) t.waits));
    })

pub given-lead : {P Q : Type 0} (alone alone' : Bool) (n p : ℕ) (id : CallId) (word : ℕ)
    (ram ram' : RamSideIs P) (known known' :
    List Entry) (side side' : RingSideIs Q) (ring ring' : List RingEntry) (w : List (Option Frame))
    → ram' ≡ ram → side' ≡ side →
    IsLegalRing side.net ring'
    → Waits n p id ram known side ring w → GaveUp alone' side.net id ring ring' (Some word)
    → WentOn alone is_ours known (Finish
    id (Bad word) ∷ []) known' → Turning n [] ram known side ring w
    → Turning n [] ram' known' side' ring' (set w p None)
given-lead alone alone' n p id word ram ram' known known' side side' ring ring' w same same' legal k
    gave went t =
    given-lead-but [] alone alone' n p id word ram ram' known known' side side' ring ring' w same
    same' legal k gave went t

-- a call that was not given up
pub stays-lead : {P Q : Type 0} (alone : Bool) (n : ℕ) (rest : List Called) (ram : RamSideIs P)
    (known : List Entry) (side side' :
    RingSideIs Q) (ring ring' : List RingEntry) (w : List (Option Frame)) → side' ≡ side
    → IsLegalRing side.net ring' → KeepsInbox
    side.net n ring ring' → Grew alone (is_of n) ring [] ring'
    → Turning n rest ram known side ring w → Turning n rest ram known side' ring' w
stays-lead {P} {Q} alone n rest ram known side side' ring ring' w same legal kept grew t =
    let own_is : own n ring' ≡ own n ring = grew-ours alone (is_of n) ring [] ring' grew
    ∙ append-nil (own n ring) in
    record {
      node = t.node;
      own_turn = turn-on side side' ring ring' n same t.own_turn legal kept;
      tied = subst (TiedBut AController rest (items_of known)) (sym own_is) t.tied;
      waits = subst (λ (l : List RingEntry). AreWaiting n (items_of known) l w) (sym own_is)
          t.waits;
    }

pub not-given : {P Q : Type 0} (alone' : Bool) (n p : ℕ) (id : CallId) (ram : RamSideIs P)
    (known : List Entry) (side side' :
    RingSideIs Q) (ring ring' : List RingEntry) (w : List (Option Frame)) → side' ≡ side
    → IsLegalRing side.net ring' → Waits n p id
    ram known side ring w → GaveUp alone' side.net id ring ring' None
    → Turning n [] ram known side ring w → Turning n [] ram known side' ring' w
not-given {P} {Q} alone' n p id ram known side side' ring ring' w same legal k gave t =
    stays-lead alone' n [] ram known side side' ring ring' w same legal
    (subst (λ (m : ℕ). KeepsInbox side.net m ring ring') k.own_is gave.kept)
    (subst (λ (m : ℕ). Grew alone' (is_of m) ring [] ring') k.own_is gave.grew) t

-- a frame that was sent
pub sent-lead : {P Q : Type 0} (alone : Bool) (n : ℕ) (heard : Heard) (ram : RamSideIs P)
    (known : List Entry) (side side' :
    RingSideIs Q) (ring ring' : List RingEntry) (w : List (Option Frame)) → side' ≡ side
    → IsLegalRing side.net ring' → SentNext alone
    side.net n heard ring ring' → Turning n [] ram known side ring w
    → Turning n [] ram known side' ring' w
sent-lead {P} {Q} alone n heard ram known side side' ring ring' w same legal sent t =
    let e = Send n heard in
    let own_is = grew-ours alone (is_of n) ring (e ∷ []) ring' sent.grew in
    record {
      node = t.node;
      own_turn = turn-on side side' ring ring' n same t.own_turn legal sent.kept;
      tied = subst (TiedBut AController [] (items_of known)) (sym own_is)
          (tied-quiet AController [] (items_of known) (own n ring)
          e refl refl refl refl refl refl t.tied);
      waits = subst (λ (l : List RingEntry). AreWaiting n (items_of known) l w) (sym own_is)
          (waiting-as n (items_of known) (items_of known) (own n ring) (own n ring ++ e ∷ []) w
          (λ p. waiting-push p (own n ring) e) (λ id out. out) t.waits);
    }

pub holds-at : {Q : Type 0} (side side' : RingSideIs Q) (ring : List RingEntry) (n : ℕ)
    → side' ≡ side → Holds side.net ring n → Holds side'.net ring n
holds-at {Q} side side' ring n same h = subst (λ (s : RingSideIs Q). Holds s.net ring n) (sym same)
    h

pub less-both : {Q : Type 0} (side side' : RingSideIs Q) (n : ℕ) (a b d : List RingEntry)
    → side' ≡ side → sends_left side.net b n
    ≤ sends_left side.net a n → sends_left side'.net d n ≤ sends_left side'.net b n
    → sends_left side.net d n ≤ sends_left
    side.net a n
less-both {Q} side side' n a b d same one two =
    let two' : sends_left side.net d n ≤ sends_left side.net b n = subst
    (λ (s : RingSideIs Q). sends_left s.net d n ≤ sends_left s.net b n) same two in
    omega (arith, one, two')
