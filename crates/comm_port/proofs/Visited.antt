-- What a visit of a node that has left leaves.
use Rattle.std.proofs.Common.{◌≡◌, ℕ, ◌==◌, Bool, true, false, List, [], ◌∷◌, ◌++◌}
use Rattle.std.proofs.Common.{set, Option, Some, None, refl, sym, ap, ◌∙◌}
use Rattle.std.proofs.Common.{subst}
use Rattle.std.proofs.lemmas.Bool.{eqb-true, and_parts, cases_Bool}
use Rattle.std.proofs.Common.{⊎_elim}
use Rattle.mstr_block.specs.declared.call.CallId.{CallId}
use Rattle.mstr_block.specs.declared.call.MstrResult.TheVariants.{Bad}
use Rattle.controller_core.specs.declared.entry.Entry.{Entry}
use Rattle.controller_core.specs.declared.entry.Entry.TheVariants.{Finish}
use Rattle.ring_core.specs.declared.frame.Frame.{Frame}
use Rattle.ring_core.specs.declared.entry.RingEntry.{RingEntry}
use Rattle.ring_core.specs.Words.{is_same_call}
use Rattle.ring_core.specs.Legal.{IsLegalRing}
use Rattle.tied_lists.specs.Own.{own, WentOn}
use Rattle.tied_lists.specs.Items.{Called, Kind, Ended, Items}
use Rattle.tied_lists.specs.Items.{Came, kind_in, asked_by, last_asked}
use Rattle.tied_lists.specs.Calls.{AreNewCalls}
use Rattle.tied_lists.specs.Waits.{waiting as waits_on}
use Rattle.tied_lists.proofs.Asked.{waiting-last, no-end-push, kind-more}
use Rattle.comm_port.specs.Sides.{RingSideIs, RamSideIs}
use Rattle.joint_history.specs.Reading.{is_ours, items_of}
use Rattle.comm_port.specs.Sending.{GaveUp}
use Rattle.comm_port.specs.Making.{Owing}
use Rattle.comm_port.proofs.Later.{later-one}
use Rattle.comm_port.proofs.Given.{Waits, given-lead-but}
use Rattle.comm_port.proofs.Made.{asked-before, known-net, out-before}

same-eq : (a b : CallId) → is_same_call a b ≡ true → a ≡ b
same-eq a b e =
    let first = and_parts (a.node == b.node) _ e in
    let two = and_parts (a.path == b.path) (a.seq == b.seq) first.1 in
    let n = eqb-true a.node b.node first.0 in let p = eqb-true a.path b.path two.0 in let
    k = eqb-true a.seq b.seq two.1 in
    (λ i. record { node = n i; path = p i; seq = k i })

-- a call that was made is not one of the new ones
ends-of-known : (n : ℕ) (earlier : List Called) (ends : List Ended) (rest : List Called) (e : Ended)
    (k : Kind) → kind_in earlier
    e.id ≡ Some k → AreNewCalls n earlier ends rest → AreNewCalls n earlier (ends ++ e ∷ []) rest
ends-of-known n earlier ends [] e k known all = tt
ends-of-known n earlier ends (r ∷ rest) e k known all =
    let one = all.0 in
    let other : is_same_call e.id r.id ≡ false = ⊎_elim
    (λ (y : is_same_call e.id r.id ≡ true). absurd
    (let no' : None ≡ Some k = sym one.first
    ∙ (ap (kind_in earlier) (sym (same-eq e.id r.id y)) ∙ known) in cc))
    (λ (no' : is_same_call e.id r.id ≡ false). no') (cases_Bool (is_same_call e.id r.id)) in (
      record {
        own = one.own;
        first = one.first;
        unended = no-end-push r.id ends e other one.unended;
        fits = one.fits;
        alone = λ net id o. one.alone net id (out-before r.id.path earlier ends e id o);
      },
      ends-of-known n (earlier ++ r ∷ []) ends rest e k (kind-more earlier (r ∷ []) e.id k known)
          all.1,
    )

pub owing-given : {P Q : Type 0} (rest : List Called) (alone alone' : Bool) (n p : ℕ) (id : CallId)
    (word : ℕ) (ram ram' :
    RamSideIs P) (known known' : List Entry) (side side' : RingSideIs Q)
    (ring ring' : List RingEntry) (w : List (Option Frame)) →
    ram' ≡ ram → side' ≡ side
    → IsLegalRing side.net ring' → Waits n p id ram known side ring w
    → GaveUp alone' side.net id ring ring' (Some word) → WentOn
    alone is_ours known (Finish id (Bad word) ∷ []) known' → Owing n rest ram known side ring w
    → Owing n rest ram' known'
    side' ring' (set w p None)
owing-given {P} {Q} rest alone alone' n p id word ram ram' known known' side side' ring ring' w same
    same' legal k gave went o =
    let later = later-one alone known (Finish id (Bad word)) known' went refl in
    let slot : waits_on p (own n ring) ≡ Some k.ask = sym (o.turning.waits.waits p) ∙ k.slot in
    let last : last_asked id (asked_by (own n ring)) ≡ Some k.ask.pdu = subst
    (λ (i : CallId). last_asked i (asked_by (own n ring)) ≡ Some k.ask.pdu) k.same
    (waiting-last p k.ask (own n ring) (ap (λ (i : CallId). i.path) k.same ∙ k.path_is) slot) in
    let made = known-net o.earlier id k.ask.pdu
    (ap (last_asked id) (sym (asked-before n rest ram known side ring w o)) ∙ last) in
    let ended : Ended = record {
      id = id;
      kind = kind_in (items_of known).calls id;
      outcome = Came
          (Bad word);
    } in
    record {
      turning = given-lead-but rest alone alone' n p id word ram ram' known known' side side' ring
          ring' w same same' legal k gave went o.turning;
      earlier = o.earlier;
      calls_are = ap (λ (a : Items). a.calls) later.is ∙ o.calls_are;
      fresh = subst (λ (a : Items). AreNewCalls n o.earlier a.ends rest) (sym later.is)
          (ends-of-known n o.earlier (items_of
          known).ends rest ended made.0 made.1 o.fresh);
    }
