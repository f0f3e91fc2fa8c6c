-- Runs of a field beside keys that cover it.
use Rattle.std.proofs.Common.{◌≡◌, ℕ, zero, suc, ◌+◌, ◌%◌, Bool, true, false, ◌==◌, List, [], ◌∷◌}
use Rattle.std.proofs.Common.{Option, Some, None, refl, sym, ap, ◌∙◌, subst, arith}
use Rattle.std.proofs.Common.{length, map, take}
use Rattle.std.specs.Prelude.{if◌then◌else◌}
use Rattle.std.proofs.lemmas.Bool.{eqb-true, eq-eqb}
use Rattle.plant_types.specs.declared.plan.ControllerPlan.{ControllerPlan}
use Rattle.plant_types.specs.Checks.{sizes_of}
use Rattle.plant_types.specs.Discretes.{discretes_on, Refs}
use Rattle.plant_types.specs.Store.{word_at}
use Rattle.std.specs.FinSet.{contains}
use Rattle.plant_types.specs.Sizes.{discretes}
use Rattle.scan_order.specs.declared.due.ScanStep.{ScanStep}
use Rattle.scan_order.specs.declared.due.ScanStep.TheVariants as steps
use Rattle.scan_order.specs.Due.{full_scan}
use Rattle.ladder_solver.specs.State.{SolveState}
use Rattle.field_runs.specs.ControllerCore.{fixed_with, start, ControllerState, Fixed}
use Rattle.state_space.specs.Answers.{Covers, IsAmong}
use Rattle.state_space.specs.Reaching.{IsBelow, LeadBy}
use Rattle.field_runs.specs.Alike.{IsSettled, ScansSettle}
use Rattle.field_runs.specs.Field.{PlaysInField, state_after}
use Rattle.field_runs.specs.Scan.{behind_steps, scanned, stepped_with, told_behind, told_first}
use Rattle.field_runs.specs.Played.{behind_scans, AreScansTold, ScansAreFieldRuns}
use Rattle.field_runs.specs.Played.{with_scripts}
use Rattle.field_runs.specs.Told.{Agrees, FieldRunsAreScans}
use Rattle.field_runs.proofs.Playing.{stopped-steps}
use Rattle.cone_of.specs.Cone.{IsClosed}
use Rattle.cone_runs.specs.AlikeIn.{AlikeInStay, IsAlikeIn}
use Rattle.field_search.specs.Covered.{AsksAlike, CoversHoldInField, CoversReachAll, HasAlike}
use Rattle.field_search.specs.Covered.{IsAlone, StandsFor, TellAll}
use Rattle.field_search.specs.Covered.{leads_to, starts_at}
use Rattle.field_search.specs.Found.{EachTells, PathsAreRuns}

pub alike-then : (plan : ControllerPlan) (set : Refs) (s t u : ControllerState)
    → IsAlikeIn plan set s t → IsAlikeIn plan set t u → IsAlikeIn plan set s u
alike-then plan set s t u a b = record {
  references = λ at has. a.references at has ∙ b.references at has;
  edges = λ place matters. a.edges place matters ∙ b.edges place matters;
  stop = a.stop ∙ b.stop;
  clock = a.clock ∙ b.clock;
}

agrees-alike : (plan : ControllerPlan) (set : Refs) (s t : ControllerState) → Agrees s t
    → IsAlikeIn plan set s t
agrees-alike plan set s t r = record {
  references = λ at has. ap (λ (q : SolveState). word_at q.map at) r.solving;
  edges = λ place matters. ap (λ (q : SolveState). contains q.edges place) r.solving;
  stop = r.stop;
  clock = ap (λ (q : SolveState). q.clock.now % 100) r.solving;
}

pub agrees-settled : (plan : ControllerPlan) (s t : ControllerState) → Agrees s t → IsSettled plan t
    → IsSettled plan s
agrees-settled plan s t r settled = record {
  kept = ap (λ (q : SolveState). q.past) r.solving
      ∙ (settled.kept
      ∙ sym (ap (λ (q : SolveState). discretes_on (discretes (sizes_of plan) q.map)) r.solving));
  blocks = ap (λ (q : SolveState). q.table) r.solving ∙ settled.blocks;
}

-- how many scans a controller makes does not matter to one
same-step : (fixed : Fixed) (n row : ℕ) (s : ControllerState) (step : ScanStep)
    → stepped_with (fixed_with fixed.plan fixed.scan_time fixed.watchdog n) row s step
    ≡ stepped_with fixed row s step
same-step fixed n row s steps.Begin = refl
same-step fixed n row s (steps.In number) = refl
same-step fixed n row s (steps.Solve number) = refl
same-step fixed n row s (steps.Out number) = refl
same-step fixed n row s steps.End = refl
same-step fixed n row s steps.Fail = refl
same-step fixed n row s steps.Dark = refl

same-behind : (fixed : Fixed) (n : ℕ) (rows : List ℕ) (s : ControllerState)
    (due : List ScanStep)
    → behind_steps (fixed_with fixed.plan fixed.scan_time fixed.watchdog n) rows s due
    ≡ behind_steps fixed rows s due
unfolding behind_steps
same-behind fixed n rows s [] = refl
same-behind fixed n rows s (step ∷ due) =
    ap (λ (q : ControllerState). if s.stop == 0 then q else s)
    (ap (λ (t : ControllerState). behind_steps (fixed_with fixed.plan fixed.scan_time
    fixed.watchdog n) (told_behind step rows) t due) (same-step fixed n (told_first rows) s step)
    ∙ same-behind fixed n (told_behind step rows) (stepped_with fixed (told_first rows) s step) due)

pub below-less : (bound : Option ℕ) (n : ℕ) → IsBelow bound (n + 1) → IsBelow bound n
below-less None n h = tt
below-less (Some most) n h = omega (arith, h)

module _ (stay : AlikeInStay) (settle : ScansSettle) (fixed : Fixed) (set : Refs)
    (alone : IsAlone fixed.plan) (closed : IsClosed fixed.plan set) where
  -- a scan of a state and of the one that its key stands for
  scanned-alike : (told : List ℕ) (s kept : ControllerState) (b : Bool) → (s.stop == 0) ≡ b
      → (s.stop ≡ 0 → IsSettled fixed.plan s) → StandsFor fixed.plan set s kept
      → IsAlikeIn fixed.plan set (scanned fixed told s) (scanned fixed told kept)
  scanned-alike told s kept true is settled stands =
      let goes : s.stop ≡ 0 = eqb-true s.stop 0 is in
      stay fixed set told s kept alone.messages closed (settled goes) (stands.settled (sym stands.alike.stop ∙ goes)) goes
      stands.alike
  scanned-alike told s kept false is settled stands =
      let one = stopped-steps fixed told s (full_scan fixed.plan) is in
      let other = stopped-steps fixed told kept (full_scan fixed.plan)
      (ap (λ k. k == 0) (sym stands.alike.stop) ∙ is) in
      subst (λ (q : ControllerState). IsAlikeIn fixed.plan set q (scanned fixed told kept)) (sym one)
      (subst (λ (q : ControllerState). IsAlikeIn fixed.plan set s q) (sym other) stands.alike)

  -- a scan that did not stop settles
  pub scanned-settled : (told : List ℕ) (s : ControllerState) (b : Bool) → (s.stop == 0) ≡ b
      → (s.stop ≡ 0 → IsSettled fixed.plan s) → (scanned fixed told s).stop ≡ 0
      → IsSettled fixed.plan (scanned fixed told s)
  scanned-settled told s true is settled goes =
      settle.scans fixed told s alone.runs alone.messages (settled (eqb-true s.stop 0 is)) goes
  scanned-settled told s false is settled goes =
      let one = stopped-steps fixed told s (full_scan fixed.plan) is in
      let on : s.stop ≡ 0 = ap (λ (q : ControllerState). q.stop) (sym one) ∙ goes in
      absurd (let no' : true ≡ false = sym (eq-eqb s.stop 0 on) ∙ is in cc)

module _ (stay : AlikeInStay) (runs : FieldRunsAreScans) (settle : ScansSettle) (fixed : Fixed) (set : Refs)
    (states : List ℕ → ControllerState) (rows : ℕ → List ℕ) (count : ℕ)
    (asked : ControllerState → Bool) (bound : Option ℕ) (keys : List (List ℕ)) (depth : ℕ → ℕ)
    (alone : IsAlone fixed.plan) (closed : IsClosed fixed.plan set)
    (tell : TellAll fixed rows count) (asks : AsksAlike fixed.plan set asked)
    (covers : Covers (starts_at fixed set states) count (leads_to fixed set states rows)
    (λ key. asked (states key)) bound keys depth)
    (played : ControllerPlan) (plays : PlaysInField fixed.plan played) where
  -- a key of the state behind so many scans
  pub record HasKey (scans : ℕ) : Type 0 where
    pub key : List ℕ
    pub among : IsAmong keys depth scans key
    pub stands : StandsFor fixed.plan set (state_after played fixed.scan_time fixed.watchdog scans)
        (states key)
    pub settled : (state_after played fixed.scan_time fixed.watchdog scans).stop ≡ 0
        → IsSettled fixed.plan (state_after played fixed.scan_time fixed.watchdog scans)

  first-key : HasKey 0
  first-key =
      let at : state_after played fixed.scan_time fixed.watchdog 0 ≡ start fixed.plan =
      runs.starts fixed.plan played fixed.scan_time fixed.watchdog plays in
      record {
        key = covers.first;
        among = covers.first_among;
        stands = subst (λ (q : ControllerState). StandsFor fixed.plan set q (states covers.first))
            (sym at) covers.is_first;
        settled = λ goes. subst (IsSettled fixed.plan) (sym at) (settle.starts fixed.plan);
      }

  next-key : (n : ℕ) → IsBelow bound (n + 1) → HasKey n → HasKey (n + 1)
  next-key n below k =
      let s = state_after played fixed.scan_time fixed.watchdog n in
      let after = state_after played fixed.scan_time fixed.watchdog (n + 1) in
      let on = runs.scans fixed.plan played fixed.scan_time fixed.watchdog n alone.power plays in
      let by = tell on.rows on.told in
      let next = covers.closed n by.0 k.key k.among by.1.0 below in
      let same : Agrees after (scanned fixed on.rows s) =
      subst (λ (q : ControllerState). Agrees after q)
      (same-behind fixed n on.rows s (full_scan fixed.plan)) on.agrees in
      record {
        key = next.0;
        among = next.1.1;
        stands = record {
          alike = alike-then fixed.plan set after (scanned fixed on.rows s) (states next.0)
              (agrees-alike fixed.plan set after (scanned fixed on.rows s) same)
              (alike-then fixed.plan set (scanned fixed on.rows s) (scanned fixed (rows by.0) (states k.key))
              (states next.0)
              (subst (λ (q : ControllerState). IsAlikeIn fixed.plan set q
              (scanned fixed (rows by.0) (states k.key))) (by.1.1 s)
              (scanned-alike stay settle fixed set alone closed (rows by.0) s (states k.key) (s.stop == 0) refl k.settled k.stands))
              next.1.0.alike);
          settled = next.1.0.settled;
        };
        settled = λ goes. agrees-settled fixed.plan after (scanned fixed on.rows s) same
            (scanned-settled stay settle fixed set alone closed on.rows s (s.stop == 0) refl k.settled (sym same.stop ∙ goes));
      }

  has-key : (n : ℕ) → IsBelow bound n → HasKey n
  has-key zero below = first-key
  has-key (suc n) below =
      let e : n + 1 ≡ suc n = omega arith in
      let less : IsBelow bound (n + 1) = subst (IsBelow bound) (sym e) below in
      subst HasKey e (next-key n less (has-key n (below-less bound n less)))

  never-asked : (scans : ℕ) → IsBelow bound scans
      → asked (state_after played fixed.scan_time fixed.watchdog scans) ≡ false
  never-asked scans below =
      let k = has-key scans below in
      asks (state_after played fixed.scan_time fixed.watchdog scans) (states k.key) k.stands.alike
      ∙ covers.good scans k.key k.among below

pub covers-reach : AlikeInStay → FieldRunsAreScans → ScansSettle → CoversReachAll
covers-reach stay runs settle fixed set states rows count asked bound keys depth alone closed tell
    asks covers
    played scans plays below =
    let k = has-key stay runs settle fixed set states rows count asked bound keys depth alone closed
    tell asks covers played plays scans below in
    record {
      place = k.among.place;
      key = k.key;
      is_there = k.among.is_there;
      alike = k.stands.alike;
    }

pub covers-hold : AlikeInStay → FieldRunsAreScans → ScansSettle → CoversHoldInField
covers-hold stay runs settle fixed set states rows count asked bound keys depth alone closed tell
    asks covers
    played scans plays below =
    never-asked stay runs settle fixed set states rows count asked bound keys depth alone closed tell
    asks covers
    played plays scans below

-- ---- a path is a run

took-all : {X : Type 0} (xs : List X) → take (length xs) xs ≡ xs
took-all [] = refl
took-all {X} (x ∷ xs) = ap (λ (l : List X). x ∷ l) (took-all xs)

length-told : (rows : ℕ → List ℕ) (path : List ℕ) → length (map rows path) ≡ length path
length-told rows [] = refl
length-told rows (by ∷ path) = let h = length-told rows path in omega (arith, h)

module _ (stay : AlikeInStay) (settle : ScansSettle) (fixed : Fixed) (set : Refs)
    (states : List ℕ → ControllerState) (rows : ℕ → List ℕ) (count : ℕ)
    (alone : IsAlone fixed.plan) (closed : IsClosed fixed.plan set) where
  lead-alike : (path from to : List ℕ) (s : ControllerState)
      → (s.stop ≡ 0 → IsSettled fixed.plan s) → StandsFor fixed.plan set s (states from)
      → LeadBy count (leads_to fixed set states rows) from path to
      → IsAlikeIn fixed.plan set (behind_scans fixed (map rows path) s) (states to)
  lead-alike [] from to s settled stands same =
      subst (λ k. IsAlikeIn fixed.plan set s (states k)) same stands.alike
  lead-alike (by ∷ path) from to s settled stands leads =
      let next = leads.1.0 in
      lead-alike path next to (scanned fixed (rows by) s)
      (scanned-settled stay settle fixed set alone closed (rows by) s (s.stop == 0) refl settled)
      (record {
        alike = alike-then fixed.plan set (scanned fixed (rows by) s) (scanned fixed (rows by) (states from))
            (states next)
            (scanned-alike stay settle fixed set alone closed (rows by) s (states from) (s.stop == 0) refl
            settled stands)
            leads.1.1.0.alike;
        settled = leads.1.1.0.settled;
      })
      leads.1.1.1

  lead-told : (path from to : List ℕ) → EachTells fixed rows count
      → LeadBy count (leads_to fixed set states rows) from path to
      → AreScansTold fixed.plan (map rows path)
  lead-told [] from to tells same = tt
  lead-told (by ∷ path) from to tells leads =
      (tells by leads.0, lead-told path leads.1.0 to tells leads.1.1.1)

pub paths-run : AlikeInStay → ScansAreFieldRuns → ScansSettle → PathsAreRuns
paths-run stay scans settle fixed set states rows count path key alone closed tells r =
    let played = scans fixed (map rows path) alone.runs alone.power
    (lead-told stay settle fixed set states rows count alone closed path r.first key tells r.leads_on) in
    let long = length-told rows path in
    let same = played.same (length path) (omega (arith, long)) in
    let whole : take (length path) (map rows path) ≡ map rows path =
    ap (λ n. take n (map rows path)) (sym long) ∙ took-all (map rows path) in
    record {
      plays = played.plays;
      alike = subst (λ n. IsAlikeIn fixed.plan set (state_after (with_scripts fixed.plan (map rows path))
          fixed.scan_time fixed.watchdog n) (states key)) (sym long)
          (alike-then fixed.plan set _ (behind_scans fixed (map rows path) (start fixed.plan)) (states key)
          (subst (λ (l : List (List ℕ)). IsAlikeIn fixed.plan set (state_after (with_scripts fixed.plan
          (map rows path)) fixed.scan_time fixed.watchdog (length path))
          (behind_scans fixed l (start fixed.plan))) whole (agrees-alike fixed.plan set _ _ same))
          (lead-alike stay settle fixed set states rows count alone closed path r.first key
          (start fixed.plan) (λ goes. settle.starts fixed.plan) r.is_first r.leads_on));
    }
