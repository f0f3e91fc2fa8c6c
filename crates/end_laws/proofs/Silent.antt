-- An end that has none of its calls out, and sends nothing on, ends none either.
use Rattle.std.proofs.Common.{◌≡◌, ℕ, Bool, true, false, cond, List, [], ◌∷◌, ◌++◌, filter, refl}
use Rattle.std.proofs.Common.{sym, ap, subst, ◌∙◌, append_assoc, append-nil}
use Rattle.std.specs.Prelude.{is_some, not, ◌&&◌, ◌==◌}
use Rattle.std.specs.List.{list_all, AllByRecursion as Each}
use Rattle.std.proofs.lemmas.Bool.{and_parts, eq-eqb, eqb-true, true≢false}
use Rattle.plant_types.specs.declared.net.BridgePlan.{BridgePlan}
use Rattle.plant_types.specs.Plans.{IsBridgePlan}
use Rattle.bridge_relay.specs.declared.entry.BridgeEntry.{BridgeEntry}
use Rattle.bridge_relay.specs.declared.entry.BridgeEntry.TheVariants.{Accept, Forward, Finish}
use Rattle.bridge_relay.specs.declared.entry.BridgeEntry.TheVariants.{Back, Gone}
use Rattle.bridge_relay.specs.Machine.{RelayPath, near_end, none_out, relay_after, relay_path}
use Rattle.bridge_relay.specs.Machine.{is_out_on, side_of}
use Rattle.bridge_relay.specs.Laws.{end_after, is_by}
use Rattle.bridge_relay.specs.Legal.{FitsBridge, IsBridgeHistory, IsBridgeStep, IsEnd}
use Rattle.bridge_relay.specs.Legal.{is_network_path}
use Rattle.bridge_relay.proofs.Parts.{Part, own_step, part_of, part_step, side_step}
use Rattle.bridge_relay.proofs.Steps.{after_more}
use Rattle.end_laws.proofs.Ended.{free-path}

-- an entry that sends no call out, and one that ends none either
abbrev pub IsNoForward : BridgeEntry → Type 0
IsNoForward (Forward side old id route request) = ⊥
IsNoForward _ = Unit {0}

abbrev pub IsOfNoCall : BridgeEntry → Type 0
IsOfNoCall (Forward side old id route request) = ⊥
IsOfNoCall (Finish side id outcome) = ⊥
IsOfNoCall _ = Unit {0}

-- the part of an end with one entry more
pub part-more : (plan : BridgePlan) (n : ℕ) (past : List BridgeEntry) (e : BridgeEntry)
    → IsBridgePlan plan → IsEnd plan n → IsEnd plan (side_of e)
    → part_of (end_after plan (past ++ e ∷ []) n) ≡ own_step n (part_of (end_after plan past n)) e
part-more plan n past e sound end made =
    ap (λ r. part_of (near_end plan r n)) (after_more plan past e)
    ∙ side_step plan (relay_after plan past) n e sound end made

abbrev none_in : Part → Bool
none_in part = list_all (λ (path : RelayPath). not (is_some path.out)) part.paths

-- behind an entry of the end
record StaysSilent (part : Part) (e : BridgeEntry) : Type 0 where
  out : none_in (part_step part e) ≡ true
  call : IsOfNoCall e

stays-silent : (plan : BridgePlan) (n : ℕ) (past : List BridgeEntry) (e : BridgeEntry)
    → FitsBridge plan past e → side_of e ≡ n → none_out (end_after plan past n) ≡ true
    → IsNoForward e → StaysSilent (part_of (end_after plan past n)) e
stays-silent plan n past (Accept by id route request) fits mine none calm =
    record { out = none; call = tt }
stays-silent plan n past (Forward by old id route request) fits mine none calm = absurd calm
stays-silent plan n past (Finish by id outcome) fits mine none calm = absurd
    (let path = relay_path (end_after plan past by) id.path in
    let there = (and_parts ((id.node == by) && is_network_path id.path) (is_out_on path id) fits).1
    in
    let out : is_some path.out ≡ true =
    (and_parts (is_some path.out) (path.last == id.seq) there).0 in
    let free : is_some path.out ≡ false = free-path (end_after plan past by) id.path
    (ap (λ m. none_out (end_after plan past m)) mine ∙ none) in
    let bad : true ≡ false = sym out ∙ free in true≢false bad)
stays-silent plan n past (Back by id reply) fits mine none calm =
    record { out = none; call = tt }
stays-silent plan n past (Gone by) fits mine none calm = record { out = none; call = tt }

pub record Silent (plan : BridgePlan) (n : ℕ) (list more : List BridgeEntry) : Type 0 where
  pub out : none_out (end_after plan (list ++ more) n) ≡ true
  pub calls : Each IsOfNoCall (filter (is_by n) more)

pub silent : (plan : BridgePlan) (n : ℕ) (list more : List BridgeEntry) → IsBridgePlan plan
    → IsEnd plan n → IsBridgeHistory plan (list ++ more) → none_out (end_after plan list n) ≡ true
    → Each IsNoForward (filter (is_by n) more) → Silent plan n list more
silent plan n list [] sound end legal none calm = record {
  out = ap (λ l. none_out (end_after plan l n)) (append-nil list) ∙ none;
  calls = tt;
}
silent plan n list (e ∷ more) sound end legal none calm =
    at (is_by n e) refl calm (silent plan n (list ++ e ∷ []) more sound end
    (subst (IsBridgeHistory plan) (sym joined) legal))
  where
    own : List BridgeEntry
    own = filter (is_by n) more

    joined : (list ++ e ∷ []) ++ more ≡ list ++ e ∷ more
    joined = append_assoc list (e ∷ []) more

    step : IsBridgeStep plan list e
    step = legal list more e refl

    next : (b : Bool) → is_by n e ≡ b
        → none_out (end_after plan (list ++ e ∷ []) n)
        ≡ none_in (cond b (part_step (part_of (end_after plan list n)) e)
        (part_of (end_after plan list n)))
    next b is = ap none_in (part-more plan n list e sound end step.side.end)
        ∙ ap (λ b. none_in (cond b (part_step (part_of (end_after plan list n)) e)
        (part_of (end_after plan list n)))) is

    at : (b : Bool) → is_by n e ≡ b
        → Each IsNoForward (cond b (e ∷ filter (is_by n) more) (filter (is_by n) more))
        → (none_out (end_after plan (list ++ e ∷ []) n) ≡ true
        → Each IsNoForward (filter (is_by n) more) → Silent plan n (list ++ e ∷ []) more)
        → Silent plan n list (e ∷ more)
    at true mine all rest =
        let here = stays-silent plan n list e step.fits (eqb-true (side_of e) n mine) none all.0 in
        let later = rest (next true mine ∙ here.out) all.1 in
        record {
          out = ap (λ l. none_out (end_after plan l n)) (sym joined) ∙ later.out;
          calls = subst (λ b.
              Each IsOfNoCall (cond b (e ∷ filter (is_by n) more) (filter (is_by n) more)))
              (sym mine) (here.call, later.calls);
        }
    at false other all rest =
        let later = rest (next false other ∙ none) all in
        record {
          out = ap (λ l. none_out (end_after plan l n)) (sym joined) ∙ later.out;
          calls = subst (λ b.
              Each IsOfNoCall (cond b (e ∷ filter (is_by n) more) (filter (is_by n) more)))
              (sym other) later.calls;
        }

-- an end that left for good
pub record LeftAtLast (plan : BridgePlan) (n : ℕ) (list : List BridgeEntry) : Type 0 where
  pub gone : (end_after plan list n).gone ≡ true
  pub none : none_out (end_after plan list n) ≡ true

pub left-now : (plan : BridgePlan) (n : ℕ) (past : List BridgeEntry) → IsBridgePlan plan
    → IsEnd plan n → IsBridgeHistory plan (past ++ Gone n ∷ [])
    → LeftAtLast plan n (past ++ Gone n ∷ [])
left-now plan n past sound end legal =
    let step = legal past [] (Gone n) refl in
    let now : part_of (end_after plan (past ++ Gone n ∷ []) n)
    ≡ part_step (part_of (end_after plan past n)) (Gone n) =
    part-more plan n past (Gone n) sound end end
    ∙ ap (λ b. cond b (part_step (part_of (end_after plan past n)) (Gone n))
    (part_of (end_after plan past n))) (eq-eqb n n refl) in
    record {
      gone = ap (λ (p : Part). p.gone) now;
      none = ap none_in now ∙ step.fits;
    }
