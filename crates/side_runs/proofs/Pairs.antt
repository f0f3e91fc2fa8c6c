-- Runs side by side beside keys that cover both.
use Rattle.std.proofs.Common.{◌≡◌, ℕ, zero, suc, ◌+◌, ◌<◌, ◌≤◌, Bool, ◌==◌, List, []}
use Rattle.std.proofs.Common.{◌∷◌}
use Rattle.std.proofs.Common.{Option, Some, None, refl, sym, ap, ◌∙◌, subst, arith, length, map}
use Rattle.std.specs.Prelude.{slice_get}
use Rattle.std.specs.List.{AllByRecursion}
use Rattle.std.proofs.lemmas.List.{length-map}
use Rattle.plant_types.specs.declared.drops.IoDrop.{IoDrop}
use Rattle.plant_types.specs.declared.plan.ControllerPlan.{ControllerPlan}
use Rattle.scan_order.specs.Due.{full_scan}
use Rattle.traffic_cop.specs.Drops.{drop_named}
use Rattle.controller_core.specs.declared.fixed.Fixed.{Fixed}
use Rattle.controller_core.specs.Replay.{ControllerState, start}
use Rattle.controller_core.specs.Run.{entries_from}
use Rattle.state_space.specs.Answers.{Covers, IsAmong}
use Rattle.state_space.specs.Reaching.{IsBelow, LeadBy}
use Rattle.field_runs.specs.Alike.{AlikeStatesStay, IsSettled, ScansSettle}
use Rattle.field_runs.specs.Field.{PlaysInField, state_after}
use Rattle.field_runs.specs.Scan.{scanned}
use Rattle.field_runs.specs.Told.{Agrees}
use Rattle.field_runs.proofs.Runs.{get-some}
use Rattle.field_search.specs.Covered.{IsAlone}
use Rattle.side_runs.specs.Standing.{StandsWhole}
use Rattle.field_search.proofs.Fields.{agrees-settled, below-less}
use Rattle.side_runs.proofs.Standing.{agrees-alike, alike-then, scanned-alike, scanned-settled}
use Rattle.side_runs.specs.Beside.{AreAlikePairs, pair_after, PlaySideBySide, StatePair}
use Rattle.side_runs.specs.Beside.{AreAlikeDrops, TakeOneField}
use Rattle.side_runs.specs.Brought.{Brings, NamesRows, rows_told, ScanField}
use Rattle.side_runs.specs.Laws.{AreSearchable, AsksPairsAlike, BroughtRunsAreScans}
use Rattle.side_runs.specs.Laws.{CoverRuns, DropsStayAlone, FieldsArePlayed}
use Rattle.side_runs.specs.Laws.{PairCoversHold, PairPathsAreRuns, pairs_lead, pairs_start}
use Rattle.side_runs.proofs.Playing.{get-named}
use Rattle.side_runs.specs.Laws.{TellBoth, with_drops}

starts-from : (plan : ControllerPlan) (scan_time watchdog : ℕ) (drops : List IoDrop)
    → state_after (record plan { drops = drops }) scan_time watchdog 0 ≡ start plan
unfolding entries_from
starts-from plan scan_time watchdog drops = refl

pub run-starts : (plan played : ControllerPlan) (scan_time watchdog : ℕ) → PlaysInField plan played
    → state_after played scan_time watchdog 0 ≡ start plan
run-starts plan played scan_time watchdog plays =
    subst (λ (p : ControllerPlan). state_after p scan_time watchdog 0 ≡ start plan)
    (sym plays.others) (starts-from plan scan_time watchdog played.drops)

-- ---- one of the two

-- a state of a run, and the one that a key keeps for it
pub record Keeps (plan : ControllerPlan) (s kept : ControllerState) : Type 0 where
  pub stands : StandsWhole plan s kept
  pub settled : s.stop ≡ 0 → IsSettled plan s

-- the drops do not matter to what settles
settled-with : (plan : ControllerPlan) (drops : List IoDrop) (s : ControllerState)
    → IsSettled plan s → IsSettled (record plan { drops = drops }) s
settled-with plan drops s h = record { kept = h.kept; blocks = h.blocks }

settled-own : (plan : ControllerPlan) (drops : List IoDrop) (s : ControllerState)
    → IsSettled (record plan { drops = drops }) s → IsSettled plan s
settled-own plan drops s h = record { kept = h.kept; blocks = h.blocks }

stands-with : (plan : ControllerPlan) (drops : List IoDrop) (s kept : ControllerState)
    → StandsWhole plan s kept → StandsWhole (record plan { drops = drops }) s kept
stands-with plan drops s kept h =
    record { alike = h.alike; settled = λ goes. settled-with plan drops kept (h.settled goes) }

module _ (stay : AlikeStatesStay) (settle : ScansSettle) (scans : BroughtRunsAreScans)
    (drop-alone : DropsStayAlone) (fixed : Fixed) (drops : List IoDrop)
    (alone : IsAlone fixed.plan) (one : TakeOneField drops fixed.plan.drops) where
  abbrev moved : Fixed
  moved = with_drops drops fixed

  moved-alone : IsAlone moved.plan
  moved-alone = drop-alone fixed.plan drops alone one

  abbrev run : ControllerPlan → ℕ → ControllerState
  run played n = state_after played fixed.scan_time fixed.watchdog n

  pub keeps-start : (fields : List ScanField) (played : ControllerPlan) (kept : ControllerState)
      → Brings fixed drops fields played → StandsWhole fixed.plan (start fixed.plan) kept
      → Keeps fixed.plan (run played 0) kept
  keeps-start fields played kept brings stands =
      let at = run-starts fixed.plan played fixed.scan_time fixed.watchdog brings.plays in
      record {
        stands = subst (λ (q : ControllerState). StandsWhole fixed.plan q kept) (sym at) stands;
        settled = λ goes. subst (IsSettled fixed.plan) (sym at) (settle.starts fixed.plan);
      }

  pub keeps-scan : (fields : List ScanField) (played : ControllerPlan) (n : ℕ) (field : ScanField)
      (rows : List ℕ) (kept next : ControllerState) → Brings fixed drops fields played
      → slice_get fields n ≡ Some field
      → rows_told fixed.plan (full_scan fixed.plan) field ≡ rows
      → Keeps fixed.plan (run played n) kept
      → StandsWhole fixed.plan (scanned moved rows kept) next
      → Keeps fixed.plan (run played (n + 1)) next
  keeps-scan fields played n field rows kept next brings at told keeps stands =
      let s = run played n in
      let after = run played (n + 1) in
      let before = λ (goes : s.stop ≡ 0). settled-with fixed.plan drops s (keeps.settled goes) in
      let agrees = subst (λ (l : List ℕ). Agrees after (scanned moved l s)) told
      (scans fixed drops fields played n field alone.runs alone.power one brings at) in
      record {
        stands = record {
          alike = alike-then after (scanned moved rows s) next
              (agrees-alike after (scanned moved rows s) agrees)
              (alike-then (scanned moved rows s) (scanned moved rows kept) next
              (scanned-alike stay settle moved moved-alone rows s kept (s.stop == 0) refl before
              (stands-with fixed.plan drops s kept keeps.stands))
              stands.alike);
          settled = stands.settled;
        };
        settled = λ goes. agrees-settled fixed.plan after (scanned moved rows s) agrees
            (settled-own fixed.plan drops (scanned moved rows s)
            (scanned-settled stay settle moved moved-alone rows s (s.stop == 0) refl before
            (sym agrees.stop ∙ goes)));
      }

-- a controller takes its own field
itself : (o : Option IoDrop) → AreAlikeDrops o o
itself None = tt
itself (Some drop) = record {
  modules = refl;
  in_other = λ i row at. (i, at);
  in_one = λ i row at. (i, at);
}

pub own-field : (drops : List IoDrop) → TakeOneField drops drops
own-field drops number = itself (drop_named drops number)

-- ---- both

-- what laws say of two controllers that can be searched
pub record Laws' : Type 0 where
  pub stay : AlikeStatesStay
  pub settle : ScansSettle
  pub scans : BroughtRunsAreScans
  pub drops : DropsStayAlone

module _ (laws : Laws') (old new : Fixed) (states : List ℕ → StatePair) (fields : ℕ → ScanField)
    (count : ℕ) (can : AreSearchable old new) where
  abbrev starts : List ℕ → Type 0
  starts = pairs_start old new states

  abbrev leads : List ℕ → ℕ → List ℕ → Type 0
  leads = pairs_lead old new states fields

  -- both states of two runs, and the pair that a key stands for
  record KeepsBoth (one other : ControllerPlan) (n : ℕ) (key : List ℕ) : Type 0 where
    old_keeps : Keeps old.plan (pair_after old new one other n).old (states key).old
    new_keeps : Keeps new.plan (pair_after old new one other n).new (states key).new

  both-start : (brought : List ScanField) (one other : ControllerPlan) (key : List ℕ)
      → Brings old old.plan.drops brought one → Brings new old.plan.drops brought other
      → starts key → KeepsBoth one other 0 key
  both-start brought one other key old-brings new-brings first = record {
    old_keeps = keeps-start laws.stay laws.settle laws.scans laws.drops old old.plan.drops
        can.old_alone (own-field old.plan.drops) brought one (states key).old old-brings
        first.old_stands;
    new_keeps = keeps-start laws.stay laws.settle laws.scans laws.drops new old.plan.drops
        can.new_alone can.one_field brought other (states key).new new-brings first.new_stands;
  }

  both-scan : (brought : List ScanField) (one other : ControllerPlan) (n by : ℕ)
      (field : ScanField) (key next : List ℕ) → Brings old old.plan.drops brought one
      → Brings new old.plan.drops brought other → slice_get brought n ≡ Some field
      → rows_told old.plan (full_scan old.plan) field
      ≡ rows_told old.plan (full_scan old.plan) (fields by)
      → rows_told new.plan (full_scan new.plan) field
      ≡ rows_told new.plan (full_scan new.plan) (fields by)
      → KeepsBoth one other n key → leads key by next → KeepsBoth one other (n + 1) next
  both-scan brought one other n by field key next old-brings new-brings at old-told new-told keeps
      lead = record {
        old_keeps = keeps-scan laws.stay laws.settle laws.scans laws.drops old old.plan.drops
            can.old_alone (own-field old.plan.drops) brought one n field
            (rows_told old.plan (full_scan old.plan) (fields by)) (states key).old (states next).old
            old-brings at old-told keeps.old_keeps lead.old_stands;
        new_keeps = keeps-scan laws.stay laws.settle laws.scans laws.drops new old.plan.drops
            can.new_alone can.one_field brought other n field
            (rows_told new.plan (full_scan new.plan) (fields by)) (states key).new (states next).new
            new-brings at new-told keeps.new_keeps lead.new_stands;
      }

  alike-by : (one other : ControllerPlan) (n : ℕ) (key : List ℕ) → KeepsBoth one other n key
      → AreAlikePairs (pair_after old new one other n) (states key)
  alike-by one other n key keeps = record {
    old = keeps.old_keeps.stands.alike;
    new = keeps.new_keeps.stands.alike;
  }

  -- ---- keys that cover

  module _ (asked : StatePair → Bool) (bound : Option ℕ) (keys : List (List ℕ)) (depth : ℕ → ℕ)
      (tell : TellBoth old new fields count) (asks : AsksPairsAlike asked)
      (covers : Covers starts count leads (λ key. asked (states key)) bound keys depth) where
    -- a key of the pair behind so many scans
    record HasKey (one other : ControllerPlan) (n : ℕ) : Type 0 where
      key : List ℕ
      among : IsAmong keys depth n key
      keeps : KeepsBoth one other n key

    has-key : (one other : ControllerPlan) (scans : ℕ) (beside : PlaySideBySide old new one other
        scans)
        (n : ℕ) → n ≤ scans → IsBelow bound n → HasKey one other n
    has-key one other scans beside zero few below = record {
      key = covers.first;
      among = covers.first_among;
      keeps = both-start beside.fields one other covers.first beside.old_brings beside.new_brings
          covers.is_first;
    }
    has-key one other scans beside (suc n) few below =
        let e : n + 1 ≡ suc n = omega arith in
        let less : IsBelow bound (n + 1) = subst (IsBelow bound) (sym e) below in
        let k = has-key one other scans beside n (omega (arith, few)) (below-less bound n less) in
        let long = beside.as_many in
        let field = get-some beside.fields n (omega (arith, few, long)) in
        let named = get-named old.plan.drops beside.fields n field.0 beside.named field.1 in
        let by = tell.all field.0 named in
        let next = covers.closed n by.0 k.key k.among by.1.0 less in
        subst (HasKey one other) e (record {
          key = next.0;
          among = next.1.1;
          keeps = both-scan beside.fields one other n by.0 field.0 k.key next.0 beside.old_brings
              beside.new_brings field.1 (sym by.1.1.0) (sym by.1.1.1) k.keeps next.1.0;
        })

    pub cover-runs : CoverRuns old new states asked bound keys
    cover-runs = record {
      never = λ one other scans beside below.
          let k = has-key one other scans beside scans (omega arith) below in
          asks (pair_after old new one other scans) (states k.key) (alike-by one other scans k.key
          k.keeps)
          ∙ covers.good scans k.key k.among below;
      all = λ one other scans beside below.
          let k = has-key one other scans beside scans (omega arith) below in
          record {
            place = k.among.place;
            key = k.key;
            is_there = k.among.is_there;
            alike = alike-by one other scans k.key k.keeps;
          };
    }

  -- ---- a path

  path-named : (path from to : List ℕ) → ((by : ℕ) → by < count → NamesRows old.plan.drops (fields
      by))
      → LeadBy count leads from path to → AllByRecursion (NamesRows old.plan.drops) (map fields
      path)
  path-named [] from to named same = tt
  path-named (by ∷ path) from to named lead =
      (named by lead.0, path-named path lead.1.0 to named lead.1.1.1)

  -- a list from a place on is a path's fields
  keeps-path : (brought : List ScanField) (one other : ControllerPlan)
      → Brings old old.plan.drops brought one → Brings new old.plan.drops brought other
      → (path from to : List ℕ) (n : ℕ)
      → ((i : ℕ) (field : ScanField) → slice_get (map fields path) i ≡ Some field
      → slice_get brought (n + i) ≡ Some field)
      → KeepsBoth one other n from → LeadBy count leads from path to
      → KeepsBoth one other (n + length path) to
  keeps-path brought one other old-brings new-brings [] from to n there keeps same =
      let e : n ≡ n + 0 = omega arith in
      subst (λ k. KeepsBoth one other k to) e (subst (KeepsBoth one other n) same keeps)
  keeps-path brought one other old-brings new-brings (by ∷ path) from to n there keeps lead =
      let here : n + 0 ≡ n = omega arith in
      let at : slice_get brought n ≡ Some (fields by) =
      ap (slice_get brought) (sym here) ∙ there 0 (fields by) refl in
      let far : n + 1 + length path ≡ n + suc (length path) = omega arith in
      subst (λ k. KeepsBoth one other k to) far
      (keeps-path brought one other old-brings new-brings path lead.1.0 to (n + 1)
      (λ i field is.
      let up : n + suc i ≡ n + 1 + i = omega arith in
      ap (slice_get brought) (sym up) ∙ there (suc i) field is)
      (both-scan brought one other n by (fields by) from lead.1.0 old-brings new-brings at refl refl
      keeps lead.1.1.0) lead.1.1.1)

pub pair-covers : AlikeStatesStay → ScansSettle → BroughtRunsAreScans → DropsStayAlone
    → PairCoversHold
pair-covers stay settle scans drops old new states fields count asked bound keys depth can tell asks
    covers =
    cover-runs (record { stay = stay; settle = settle; scans = scans; drops = drops }) old new
    states
    fields count can asked bound keys depth tell asks covers

pub pair-paths : AlikeStatesStay → ScansSettle → BroughtRunsAreScans → DropsStayAlone
    → FieldsArePlayed → PairPathsAreRuns
pair-paths stay settle scans drops played old new states fields count path key can tell r =
    let laws : Laws' = record { stay = stay; settle = settle; scans = scans; drops = drops } in
    let brought = map fields path in
    let named = path-named laws old new states fields count can path r.first key tell.named
    r.leads_on in
    let one = played old old.plan.drops brought can.old_alone.runs can.old_alone.power
    (own-field old.plan.drops) named in
    let other = played new old.plan.drops brought can.new_alone.runs can.new_alone.power
    can.one_field
    named in
    let kept = keeps-path laws old new states fields count can brought one.0 other.0 one.1 other.1
    path
    r.first key 0 (λ i field is. let e : 0 + i ≡ i = omega arith in ap (slice_get brought) e ∙ is)
    (both-start laws old new states fields count can brought one.0 other.0 r.first one.1 other.1
    r.is_first) r.leads_on in
    let none : 0 + length path ≡ length path = omega arith in
    let long : 0 + length path ≡ length brought = none ∙ sym (length-map path fields) in
    record {
      one = one.0;
      other = other.0;
      old_brings = one.1;
      new_brings = other.1;
      alike = subst (λ n. AreAlikePairs (pair_after old new one.0 other.0 n) (states key))
          long
          (alike-by laws old new states fields count can one.0 other.0 (0 + length path) key kept);
    }
