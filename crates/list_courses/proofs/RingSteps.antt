-- The ring's list followed entry by entry.
use Rattle.std.proofs.Common.{◌≡◌, ℕ, ◌+◌, ◌-◌, ◌<◌, Bool, true, false, List, [], ◌∷◌, ◌++◌}
use Rattle.std.proofs.Common.{length}
use Rattle.std.proofs.Common.{get_or, take}
use Rattle.std.proofs.Common.{sym, subst, ◌∙◌, append_assoc, append-nil, arith}
use Rattle.plant_types.specs.declared.net.NetPlan.{NetPlan}
use Rattle.ring_core.specs.declared.entry.RingEntry.{RingEntry}
use Rattle.ring_core.specs.declared.bare.BareRing.{BareRing}
use Rattle.ring_core.specs.Bare.{IsBehind, bare_net}
use Rattle.ring_core.specs.Legal.{IsLegalRing, IsRingStep, IsRun}
use Rattle.ring_core.proofs.Runs.{IsLegal-push}
use Rattle.station_laws.specs.Differing.{BreaksAt}
use Rattle.list_courses.specs.RingFollowing.{IsRingBehind, RingFollowed}
use Rattle.station_laws.proofs.Lists.{not-true, take-push}

-- the last entry of a run is a step
run-step : (net : NetPlan) (past es : List RingEntry) (e : RingEntry)
    → IsRun net past (es ++ e ∷ []) → IsRingStep net (past ++ es) e
run-step net past [] e run =
    subst (λ (h : List RingEntry). IsRingStep net h e) (sym (append-nil past)) run.0
run-step net past (f ∷ es) e run =
    subst (λ (h : List RingEntry). IsRingStep net h e) (append_assoc past (f ∷ []) es)
    (run-step net (past ++ f ∷ []) es e run.1)

legal-step : (net : NetPlan) (h : List RingEntry) (e : RingEntry) → IsLegalRing net (h ++ e ∷ [])
    → IsRingStep net h e
legal-step net h e legal = run-step net [] h e legal

pub ring-breaks : (net : NetPlan) (entries : List RingEntry) (place : ℕ) (e : RingEntry)
    (past : List RingEntry) (old new : BareRing) (b : Bool)
    → bare_net old ≡ net → past ≡ take place entries → IsLegalRing net (take place entries)
    → place < length entries → e ≡ get_or entries place e
    → RingFollowed past old e new b → b ≡ false → BreaksAt (IsLegalRing net) entries (place + 1)
ring-breaks net entries place e past old new true net-is past-is legal low is followed no' =
    not-true (sym no')
ring-breaks net entries place e past old new false net-is past-is legal low is followed no' =
    record {
      before =
          let n : place + 1 - 1 ≡ place = omega arith in
          subst (λ (k : ℕ). IsLegalRing net (take k entries)) (sym n) legal;
      here = λ more.
          let step = legal-step net (take place entries) e
          (subst (IsLegalRing net) (take-push entries place e low is) more) in
          followed (subst (λ (h : List RingEntry). IsRingStep (bare_net old) h e) (sym past-is)
          (subst (λ (n : NetPlan). IsRingStep n (take place entries) e) (sym net-is) step));
    }

pub ring-goes-on : (net : NetPlan) (entries : List RingEntry) (place : ℕ) (e : RingEntry)
    (past : List RingEntry) (old new : BareRing) (b : Bool)
    → bare_net old ≡ net → past ≡ take place entries → IsLegalRing net (take place entries)
    → place < length entries → e ≡ get_or entries place e
    → RingFollowed past old e new b → b ≡ true
    → IsRingBehind net (take (place + 1) entries) new
ring-goes-on net entries place e past old new true net-is past-is legal low is done sure =
    let push = take-push entries place e low is in
    let step = subst (λ (n : NetPlan). IsRingStep n (take place entries) e) net-is
    (subst (λ (h : List RingEntry). IsRingStep (bare_net old) h e) past-is done.step) in
    record {
      net_is = done.made.net ∙ net-is;
      behind = subst (λ (h : List RingEntry). IsBehind h new) (sym push)
          (subst (λ (h : List RingEntry). IsBehind (h ++ e ∷ []) new) past-is done.made.behind);
      legal = subst (IsLegalRing net) (sym push)
          (IsLegal-push net (take place entries) e legal step);
    }
ring-goes-on net entries place e past old new false net-is past-is legal low is done sure =
    not-true sure
