-- How a turn ends, and what it leaves.
use Rattle.std.specs.Prelude.{is_some}
use Rattle.std.proofs.Common.{◌≡◌, ℕ, Bool, true, false, List, [], ◌∷◌, ◌++◌, Option, Some, None}
use Rattle.std.proofs.Common.{refl, sym, subst, inr}
use Rattle.controller_core.specs.declared.fixed.Fixed.{Fixed}
use Rattle.controller_core.specs.declared.entry.Entry.{Entry}
use Rattle.ring_core.specs.declared.frame.Frame.{Frame}
use Rattle.ring_core.specs.declared.entry.LeaveCause.{LeaveCause}
use Rattle.ring_core.specs.declared.entry.RingEntry.{RingEntry}
use Rattle.ring_core.specs.declared.entry.RingEntry.TheVariants.{Pass, Leave}
use Rattle.ring_core.specs.Legal.{IsLegalRing}
use Rattle.tied_lists.specs.Own.{is_of, own}
use Rattle.tied_lists.specs.Items.{AController, Items}
use Rattle.tied_lists.specs.Tied.{Tied, TiedBut}
use Rattle.tied_lists.specs.Waits.{waiting as waits_on, HasLeft}
use Rattle.tied_lists.proofs.Paths.{waiting-push}
use Rattle.tied_lists.proofs.Growth.{grew-ours}
use Rattle.tied_lists.proofs.Steps.{tied-all, tied-none, tied-quiet}
use Rattle.comm_port.specs.Sides.{RingSideIs, RamSideIs}
use Rattle.joint_history.specs.Reading.{items_of}
use Rattle.comm_port.specs.Leaving.{last_entry, HandedOn}
use Rattle.comm_port.specs.Turns.{AreWaiting, Turning, Rested}
use Rattle.comm_port.specs.Ending.{AsksIfDone}
use Rattle.comm_port.proofs.Asked.{both-asked}
use Rattle.comm_port.specs.Waiting.{IsIdle}
use Rattle.comm_port.proofs.Leaves.{IsQuietCause, handed-on}
use Rattle.comm_port.proofs.Made.{ram-still}
use Rattle.comm_port.proofs.Served.{waiting-as}

-- the last entry says nothing to the laws
last-tied : (n : ℕ) (done : Bool) (words : List ℕ) (cause : Option LeaveCause) (a : Items)
    (b : List RingEntry) → IsQuietCause cause → TiedBut
    AController [] a b → TiedBut AController [] a (b ++ last_entry n done words cause ∷ [])
last-tied n done words None a b quiet t = tied-quiet AController [] a b (Pass n done words) refl
    refl refl refl refl refl t
last-tied n done words (Some cause) a b quiet t = tied-quiet AController [] a b (Leave n cause) refl
    refl refl refl refl (quiet cause refl) t

last-waits : (n : ℕ) (done : Bool) (words : List ℕ) (cause : Option LeaveCause) (b : List RingEntry)
    (p : ℕ) → waits_on p (b ++
    last_entry n done words cause ∷ []) ≡ waits_on p b
last-waits n done words None b p = waiting-push p b (Pass n done words)
last-waits n done words (Some cause) b p = waiting-push p b (Leave n cause)

pub handed-lead : {P Q : Type 0} (alone : Bool) (n : ℕ) (done : Bool) (words : List ℕ)
    (cause : Option LeaveCause) (ram :
    RamSideIs P) (known : List Entry) (side side' : RingSideIs Q) (ring ring' : List RingEntry)
    (w : List (Option Frame)) → side'
    ≡ side → IsLegalRing side.net ring' → IsQuietCause cause
    → HandedOn alone side.net n done words cause ring ring' → Turning n [] ram known side ring w
    → Rested n ram known side' ring' w
handed-lead {P} {Q} alone n done words cause ram known side side' ring ring' w same
    legal quiet h t =
    let e = last_entry n done words cause in
    let own_is = grew-ours alone (is_of n) ring (e ∷ []) ring' h.grew in
    subst (λ (s : RingSideIs Q). Rested n ram known s ring' w) (sym same) (record {
      node = t.node;
      serves = t.own_turn.serves;
      on = handed-on alone side.net n done words cause ring ring' t.own_turn.on legal h;
      tied = subst (Tied AController (items_of known)) (sym own_is)
          (tied-all AController (items_of known) (own n ring ++ e ∷ [])
          (last-tied n done words cause (items_of known) (own n ring) quiet t.tied));
      waits = subst (λ (l : List RingEntry). AreWaiting n (items_of known) l w) (sym own_is)
          (waiting-as n (items_of known) (items_of known) (own n ring) (own n ring ++ e ∷ []) w
          (last-waits n done words cause
          (own n ring)) (λ id out. out) t.waits);
    })

-- a node that left goes on by itself
pub left-lead : {P Q : Type 0} (n : ℕ) (ram : RamSideIs P) (known : List Entry)
    (side : RingSideIs Q) (ring : List RingEntry) (w :
    List (Option Frame)) → HasLeft side.net ring n → Rested n ram known side ring w
    → Turning n [] ram known side ring w
left-lead n ram known side ring w gone r = record {
  node = r.node;
  own_turn = record { serves = r.serves; on = r.on; free = inr gone };
  tied = tied-none AController (items_of known) (own n ring) r.tied;
  waits = r.waits;
}

pub some-of : {X : Type 0} (o : Option X) → is_some o ≡ true → (x : X) × (o ≡ Some x)
some-of None e = absurd (let no' : false ≡ true = e in cc)
some-of (Some x) e = (x, refl)

pub left-at : {Q : Type 0} (side side' : RingSideIs Q) (ring : List RingEntry) (n : ℕ)
    → side' ≡ side → HasLeft side.net ring n → HasLeft side'.net ring n
left-at {Q} side side' ring n same gone = subst (λ (s : RingSideIs Q). HasLeft s.net ring n)
    (sym same) gone

-- after the questions
pub asked-lead : {P Q : Type 0} (alone : Bool) (n : ℕ) (fixed : Fixed) (noticed : ℕ) (done : Bool)
    (ram ram' : RamSideIs P) (known known' : List
    Entry) (side : RingSideIs Q) (ring : List RingEntry) (w : List (Option Frame)) → ram' ≡ ram
    → AsksIfDone alone fixed noticed (IsIdle w) known
    known' done → Turning n [] ram known side ring w
    → Turning n [] ram' known' side ring w
asked-lead alone n fixed noticed done ram ram' known known' side ring w same asked t =
    let both = both-asked asked in
    ram-still alone n [] ram ram' both.at_end known' side ring w same both.then_on
    (ram-still alone n [] ram ram known both.at_end side ring w refl both.first t)
