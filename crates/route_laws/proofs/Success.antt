-- A call that reports success took effect, under one of its names.
use Rattle.std.proofs.Common.{◌≡◌, ◌⊎◌, ℕ, zero, suc, ◌+◌, ◌<◌, ◌≤◌, true, cond, List, [], ◌∷◌}
use Rattle.std.proofs.Common.{length, Option, Some, None, refl, sym, ap, ◌∙◌, subst, inl, inr}
use Rattle.std.proofs.Common.{⊎_elim, arith}
use Rattle.std.specs.Prelude.{Contains, filter, nat_le, option_map, slice_get, unwrap_or}
use Rattle.std.specs.List.{count_by, sum_by}
use Rattle.std.proofs.lemmas.Bool.{and_from, cases_Bool, le-leb, leb-true, true≢false}
use Rattle.std.proofs.lemmas.List.Elements.{All-contains, filter_passes}
use Rattle.std.proofs.lemmas.List.Sums.{count_by-le-length, sum_by-cons}
use Rattle.plant_types.specs.declared.plan.Plant.{Plant}
use Rattle.mstr_block.specs.declared.call.CallId.{CallId}
use Rattle.mstr_block.specs.declared.call.MstrResult.{MstrResult}
use Rattle.mstr_block.specs.declared.call.MstrResult.TheVariants.{Bad, Good}
use Rattle.ring_core.specs.declared.entry.RingEntry.{RingEntry}
use Rattle.ring_core.specs.declared.entry.RingEntry.TheVariants.{Local}
use Rattle.ring_laws.proofs.Lists.{count-cons, only-one, same-refl}
use Rattle.host_port.specs.declared.entry.HostResult.TheVariants as results
use Rattle.reply_laws.specs.Result.{no_result, result_of}
use Rattle.tied_lists.specs.Items.{AController, AHost, Asked, Came, Ended, last_asked, result_for}
use Rattle.joint_history.specs.declared.joint.Joint.{Joint}
use Rattle.joint_history.specs.Effects.{effects}
use Rattle.joint_history.specs.JointLaws.{IsJoint, IsLegalJoint, IsTiedController, IsTiedHost}
use Rattle.joint_history.specs.Nets.{noted_on_rings}
use Rattle.effect_laws.specs.Success.{ReportsSuccess, is_exception_reply}
use Rattle.effect_laws.proofs.Homes.{home-effect}
use Rattle.effect_laws.proofs.Reports.{answer-ends, finish-ends}
use Rattle.effect_laws.proofs.Sources.{EndedBy, by_port, by_reply, by_word, first-or-behind, here}
use Rattle.effect_laws.proofs.Sources.{in-none}
use Rattle.plant_types.specs.Plans.{IsPlant}
use Rattle.route_laws.specs.Laws.{SuccessIsOneEffectOnWay, WaysHaveOneEffect}
use Rattle.route_laws.specs.Ways.{SentOn, names_from, next_name, sent_on_in}
use Rattle.route_laws.proofs.Once.{is_old, taken-on-once}
use Rattle.route_laws.proofs.Places.{size_of}
use Rattle.route_laws.proofs.Plain.{good-plain}
use Rattle.route_laws.proofs.Sides.{in-filter, of-filter}
use Rattle.route_laws.proofs.Traces.{Onward, TookPlain, ended-at, took-replied, traced}

-- ---- the names on a way

-- how many calls that are no further from their end were sent on
abbrev pub rank : (CallId → ℕ) → List SentOn → ℕ → ℕ
rank size sent far = count_by (λ (s : SentOn). nat_le (size s.old) far) sent

near-far : (k near far : ℕ) → near ≤ far
    → cond {A = ℕ} (nat_le k near) 1 0 ≤ cond {A = ℕ} (nat_le k far) 1 0
near-far k near far within = elim (cases_Bool (nat_le k near)) [
  | inl is ↦
      let low = leb-true k near is in
      let one : cond {A = ℕ} (nat_le k near) 1 0 ≡ 1 = ap (λ b. cond b 1 0) is in
      let two : cond {A = ℕ} (nat_le k far) 1 0 ≡ 1 =
      ap (λ b. cond b 1 0) (le-leb k far (omega (arith, low, within))) in
      omega (arith, one, two)
  | inr is ↦
      let one : cond {A = ℕ} (nat_le k near) 1 0 ≡ 0 = ap (λ b. cond b 1 0) is in
      omega (arith, one)
]

rank-rises : (size : CallId → ℕ) (sent : List SentOn) (near far : ℕ) → near ≤ far
    → rank size sent near ≤ rank size sent far
rank-rises size [] near far within = omega arith
rank-rises size (s ∷ sent) near far within =
    let rest = rank-rises size sent near far within in
    let one = count-cons (λ (x : SentOn). nat_le (size x.old) near) s sent in
    let two = count-cons (λ (x : SentOn). nat_le (size x.old) far) s sent in
    let first = near-far (size s.old) near far within in
    omega (arith, rest, one, two, first)

-- one that was sent on on a shorter way ranks lower
pub rank-falls : (size : CallId → ℕ) (sent : List SentOn) (s : SentOn) (near far : ℕ)
    → Contains sent s → size s.old ≡ far → near < far
    → rank size sent near + 1 ≤ rank size sent far
rank-falls size [] s near far there is less = absurd (in-none s there)
rank-falls size (x ∷ sent) s near far there is less =
    let one = count-cons (λ (y : SentOn). nat_le (size y.old) near) x sent in
    let two = count-cons (λ (y : SentOn). nat_le (size y.old) far) x sent in
    ⊎_elim
    (λ (same : x ≡ s).
    let at : size x.old ≡ far = ap (λ (y : SentOn). size y.old) same ∙ is in
    let up : cond {A = ℕ} (nat_le (size x.old) far) 1 0 ≡ 1 =
    ap (λ b. cond b 1 0) (le-leb (size x.old) far (omega (arith, at))) in
    let rest = rank-rises size sent near far (omega (arith, less)) in
    elim (cases_Bool (nat_le (size x.old) near)) [
      | inl low ↦
          let within = leb-true (size x.old) near low in
          absurd (omega (arith, within, at, less))
      | inr high ↦
          let off : cond {A = ℕ} (nat_le (size x.old) near) 1 0 ≡ 0 =
          ap (λ b. cond b 1 0) high in
          omega (arith, one, two, up, off, rest)
    ])
    (λ (more : Contains sent s).
    let rest = rank-falls size sent s near far more is less in
    let first = near-far (size x.old) near far (omega (arith, less)) in
    omega (arith, one, two, first, rest))
    (first-or-behind x sent s there)

first-there : {X : Type 0} (xs : List X) (x : X) → Contains xs x
    → (y : X) × (slice_get xs 0 ≡ Some y) × Contains xs y
first-there [] x there = absurd (in-none x there)
first-there (y ∷ ys) x there = (y, refl, here y ys)

-- the one name under which a call was sent on
pub next-is : (sent : List SentOn) (id : CallId) (s : SentOn) → count_by (is_old id) sent ≤ 1
    → Contains sent s → is_old id s ≡ true
    → slice_get (filter (is_old id) sent) 0 ≡ Some s
next-is sent id s few there old =
    let first = first-there (filter (is_old id) sent) s (in-filter (is_old id) sent s old there) in
    let passes = All-contains (λ x. is_old id x ≡ true) (filter (is_old id) sent) first.0
    (filter_passes (is_old id) sent) first.2 in
    let same = only-one (is_old id) sent first.0 s few passes old
    (of-filter (is_old id) sent first.0 first.2) there in
    first.1 ∙ ap Some same

-- a call stands under its own name
own-name : (f : CallId → ℕ) (sent : List SentOn) (more : ℕ) (id : CallId)
    → f id ≤ sum_by f (names_from more sent id)
own-name f sent zero id = let step = sum_by-cons f id [] in omega (arith, step)
own-name f sent (suc more) id =
    let rest = unwrap_or (option_map (names_from more sent) (next_name sent id)) [] in
    let step = sum_by-cons f id rest in
    omega (arith, step)

module _ (plant : Plant) (scans : ℕ) (joint : Joint) (is : IsPlant plant)
    (legal : IsLegalJoint plant scans joint) (tied : IsJoint joint) where
  -- a Reply that is no exception has an effect behind it, under one of the names that follow
  reaches : (more : ℕ) (id : CallId)
      → rank (size_of (noted_on_rings joint)) (sent_on_in joint) (size_of (noted_on_rings joint) id)
      ≤ more
      → TookPlain joint id → 1 ≤ sum_by (effects joint) (names_from more (sent_on_in joint) id)
  reaches zero id low took =
      ⊎_elim
      (λ (some : 1 ≤ effects joint id).
      let own = own-name (effects joint) (sent_on_in joint) zero id in omega (arith, some, own))
      (λ (on : Onward joint id).
      let size = size_of (noted_on_rings joint) in
      let falls = rank-falls size (sent_on_in joint) (record { old = id; id = on.new })
      (size on.new) (size id) on.sent refl on.shorter in
      absurd (omega (arith, falls, low)))
      (traced plant scans joint is legal tied id took)
  reaches (suc more) id low took =
      ⊎_elim
      (λ (some : 1 ≤ effects joint id).
      let own = own-name (effects joint) (sent_on_in joint) (suc more) id in
      omega (arith, some, own))
      (λ (on : Onward joint id).
      let size = size_of (noted_on_rings joint) in
      let sent = sent_on_in joint in
      let s : SentOn = record { old = id; id = on.new } in
      let falls = rank-falls size sent s (size on.new) (size id) on.sent refl on.shorter in
      let few = (taken-on-once plant scans joint is legal tied id).forwarded in
      let next = next-is sent id s few on.sent (same-refl id) in
      let rest = reaches more on.new (omega (arith, falls, low)) on.took in
      let names = λ (o : Option SentOn). unwrap_or (option_map (names_from more sent)
      (option_map (λ (x : SentOn). x.id) o)) [] in
      let step = sum_by-cons (effects joint) id
      (names (slice_get (filter (is_old id) sent) 0)) in
      let behind = ap (λ o. sum_by (effects joint) (names o)) next in
      omega (arith, rest, step, behind))
      (traced plant scans joint is legal tied id took)

  -- ---- success

  result-plain : (request : Option (List ℕ)) (reply words : List ℕ)
      → Came (result_for request reply) ≡ Came (Good words)
      → is_exception_reply reply ≡ true → ⊥
  result-plain None reply words same high =
      let no' : no_result ≡ Good words = cc in cc
  result-plain (Some request) reply words same high =
      let good : result_of request reply ≡ Good words = came _ _ same in
      good-plain request reply words good high
    where
      came : (x y : MstrResult) → Came x ≡ Came y → x ≡ y
      came x y e = cc

  -- what ended a controller's call with a good result
  ended-good : (asked : List Asked) (e : RingEntry) (end' : Ended) (words : List ℕ)
      → Contains (noted_on_rings joint) e → EndedBy AController asked e end'
      → end'.outcome ≡ Came (Good words)
      → (1 ≤ effects joint end'.id) ⊎ TookPlain joint end'.id
  ended-good asked e end' words there (by_reply n f e_is kind named outcome) good =
      inr (record {
        node = n;
        frame = f;
        there = subst (λ (x : RingEntry). Contains (noted_on_rings joint) x) e_is there;
        kind = kind;
        same = named;
        plain = result-plain (last_asked f.id asked) f.pdu words (outcome ∙ good);
      })
  ended-good asked e end' words there (by_word word e_is outcome) good =
      absurd (let no' : Came (Bad word) ≡ Came (Good words) = outcome ∙ good in cc)
  ended-good asked e end' words there (by_port n op result e_is mine outcome) good =
      inl (home-effect joint end'.id (Local n end'.id op result)
      (subst (λ (x : RingEntry). Contains (noted_on_rings joint) x) e_is there)
      (and_from _ _ (same-refl end'.id) mine))

  started : (id : CallId) → ReportsSuccess joint id
      → (1 ≤ effects joint id) ⊎ TookPlain joint id
  started id (inl (log, there, (words, finished))) =
      let t = All-contains (IsTiedController (noted_on_rings joint)) joint.controllers log
      tied.controllers there in
      let told = finish-ends log.entries id (Good words) finished in
      let at = ended-at (noted_on_rings joint) AController log.node _ told.end' t.ends told.there in
      subst (λ (i : CallId). (1 ≤ effects joint i) ⊎ TookPlain joint i) told.id_is
      (ended-good at.asked at.entry told.end' words at.there at.by told.outcome_is)
  started id (inr (log, there, (pdu, answered, plain))) =
      let t = All-contains (IsTiedHost (noted_on_rings joint)) joint.hosts log tied.hosts there in
      let told = answer-ends log.entries id (results.Reply pdu) answered in
      inr (took-replied joint AHost told.end' id pdu (λ request reply. refl) (λ word. refl)
      (ended-at (noted_on_rings joint) AHost log.node _ told.end' t.ends told.there)
      told.id_is told.outcome_is (λ high. true≢false (sym high ∙ plain)))

  some-effect : (id : CallId) → ReportsSuccess joint id
      → 1 ≤ sum_by (effects joint) (names_from (length (sent_on_in joint)) (sent_on_in joint) id)
  some-effect id success =
      let sent = sent_on_in joint in
      let size = size_of (noted_on_rings joint) in
      ⊎_elim
      (λ (some : 1 ≤ effects joint id).
      let own = own-name (effects joint) sent (length sent) id in omega (arith, some, own))
      (λ (took : TookPlain joint id).
      reaches (length sent) id
      (count_by-le-length (λ (s : SentOn). nat_le (size s.old) (size id)) sent) took)
      (started id success)

pub success-on-way : WaysHaveOneEffect → SuccessIsOneEffectOnWay
success-on-way ways plant scans joint is legal tied id success =
    let most = ways plant scans joint is legal tied id in
    let least = some-effect plant scans joint is legal tied id success in
    omega (arith, most, least)
