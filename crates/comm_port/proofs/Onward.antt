-- What a node takes that is not the end of a bridge goes no further.
use Rattle.std.proofs.Common.{◌≡◌, ℕ, ◌==◌, Bool, true, false, not, ◌&&◌, List, [], ◌∷◌, ◌++◌, length}
use Rattle.std.proofs.Common.{Option, Some, refl, sym, ap, ◌∙◌, subst, arith, ne_eqb}
use Rattle.std.specs.List.{Contains, list_any}
use Rattle.std.proofs.lemmas.List.Elements.{Contains-push}
use Rattle.plant_types.specs.declared.net.NetPlan.{NetPlan}
use Rattle.ring_core.specs.Legal.{IsLegalRing}
use Rattle.ring_core.specs.Statistics.{is_for_stats, is_stats}
use Rattle.ring_core.specs.Words.{is_onward}
use Rattle.ring_core.specs.declared.frame.Frame.{Frame}
use Rattle.ring_core.specs.declared.entry.RingEntry.{RingEntry}
use Rattle.ring_core.specs.declared.entry.RingEntry.TheVariants.{Take}
use Rattle.ring_core.proofs.Onward.{onward-to-bridges}
use Rattle.tied_lists.specs.Items.{Station, Items, Called, with_answer}
use Rattle.tied_lists.specs.Own.{is_of, WentOn}
use Rattle.tied_lists.specs.Tied.{TiedBut}
use Rattle.joint_history.specs.Reading.{answered_here}
use Rattle.comm_port.specs.Turns.{IsNoBridge}

none-left : (rest : List ℕ) → (not (length rest == 0) ≡ true → ⊥) → rest ≡ []
none-left [] not-on = refl
none-left (a ∷ rest) not-on = absurd (not-on (ap not
    (ne_eqb (length (a ∷ rest)) 0 (λ (is : length (a ∷ rest) ≡ 0). omega (arith, is)))))

pub taken-last : (alone : Bool) (net : NetPlan) (n : ℕ) (f : Frame) (ring ring' : List RingEntry)
    → IsNoBridge net n → IsLegalRing net ring' → WentOn alone (is_of n) ring (Take n f ∷ []) ring'
    → f.rest ≡ []
taken-last alone net n f ring ring' none legal went =
    let there : Contains ring' (Take n f) =
    subst (λ (l : List RingEntry). Contains l (Take n f)) (sym went.after_is)
    (Contains-push (ring ++ went.between) (Take n f)) in
    none-left f.rest (λ (on : is_onward f ≡ true).
    let no' : true ≡ false = sym (onward-to-bridges net ring' n f legal there on) ∙ none in cc)

-- on a ring without bridges nobody is the end of one
pub none-bridges : (net : NetPlan) (n : ℕ) → net.bridges ≡ [] → IsNoBridge net n
none-bridges net n none = ap (list_any (λ (end : ℕ). end == n)) none

-- so its answer is to a request with no rest
pub answered-last : (station : Station) (more : List Called) (a : Items) (b : List RingEntry)
    (f : Frame) (reply : Option (List ℕ)) → f.rest ≡ []
    → TiedBut station more
    (with_answer a (record { id = f.id; rest = f.rest; request = Some f.pdu; reply = reply })) b
    → TiedBut station more (with_answer a (answered_here f.id f.pdu reply)) b
answered-last station more a b f reply last t = subst (λ (rest : List ℕ). TiedBut station more
    (with_answer a (record { id = f.id; rest = rest; request = Some f.pdu; reply = reply })) b)
    last t

-- a request for statistics has the PDU of one
both-true : (on stats : Bool) → (not on && stats) ≡ true → stats ≡ true
both-true true stats is = absurd (cc)
both-true false stats is = is

pub for-stats : (f : Frame) → is_for_stats f ≡ true → is_stats f.pdu ≡ true
for-stats f is = both-true (is_onward f) (is_stats f.pdu) is
