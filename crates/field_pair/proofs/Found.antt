-- What a search of keys says of two controllers side by side.
use Rattle.std.proofs.Common.{◌≡◌, ℕ, ◌<◌, Bool, true, false, ◌==◌, List, [], ◌∷◌, Option}
use Rattle.std.proofs.Common.{Some, None}
use Rattle.std.proofs.Common.{refl, sym, ap, ◌∙◌, subst, length, map}
use Rattle.std.specs.Prelude.{if◌then◌else◌, nat_eq, not, slice_get}
use Rattle.std.specs.Cmp.Lexicographic.{pointwise}
use Rattle.std.specs.List.{AllByRecursion}
use Rattle.std.specs.Option.{option_map}
use Rattle.std.proofs.lemmas.List.{length-map}
use Rattle.std.proofs.lemmas.Option.{slice_get-map}
use Rattle.std.proofs.lemmas.Slice.Eq.{bytes_eq-Decides}
use Rattle.plant_types.specs.declared.drops.IoDrop.{IoDrop}
use Rattle.plant_types.specs.declared.plan.ControllerPlan.{ControllerPlan}
use Rattle.plant_types.specs.declared.reference.Ref.{Ref}
use Rattle.scan_order.specs.declared.due.ScanStep.{ScanStep}
use Rattle.scan_order.specs.declared.due.ScanStep.TheVariants as steps
use Rattle.scan_order.specs.Due.{full_scan, input_of, row_of}
use Rattle.controller_core.specs.declared.fixed.Fixed.{Fixed}
use Rattle.controller_core.specs.Notes.{values_of}
use Rattle.controller_core.specs.Replay.{ControllerState, start}
use Rattle.state_space.specs.Answers.{Covers, FailsBy, HoldsWith}
use Rattle.state_space.specs.Reaching.{IsBelow, LeadBy, Reaches, up_to}
use Rattle.field_runs.specs.Alike.{IsAlike}
use Rattle.field_runs.specs.Scan.{scanned}
use Rattle.side_runs.specs.Standing.{StandsWhole}
use Rattle.field_machine.specs.Never.{state_of_run}
use Rattle.side_runs.specs.Beside.{AreAlikePairs, pair_after, StatePair}
use Rattle.side_runs.specs.Brought.{behind_exchange, Brings, NamesRows, next_row, rows_told}
use Rattle.side_runs.specs.Brought.{ScanField}
use Rattle.side_runs.specs.Laws.{AreRunsTo, AreSearchable, AsksPairsAlike, PairCoversHold}
use Rattle.side_runs.specs.Laws.{PairPathsAreRuns, pairs_lead, pairs_start, scanned_pair}
use Rattle.side_runs.specs.Laws.{StandsForPair}
use Rattle.side_runs.specs.Laws.{TellBoth, with_drops}
use Rattle.side_runs.proofs.Counting.{due-same}
use Rattle.field_pair.specs.declared.pair.Pair.{Pair}
use Rattle.field_pair.specs.declared.exchanges.Choice.{Choice}
use Rattle.field_pair.specs.declared.searching.Apart.{Apart}
use Rattle.field_pair.specs.declared.searching.PanelEnd.{PanelEnd}
use Rattle.field_pair.specs.Choices.{brought_by, choices_of_both, ways_of}
use Rattle.field_pair.specs.Exchanged.{AreOfBoth, field_of, read_by_both}
use Rattle.field_pair.specs.Pair.{are_apart, field_by, IsApartBy, IsKeyIn, IsPair, MayMove}
use Rattle.field_pair.specs.Pair.{pair_behind, pair_leads, pair_start, pair_starts, states_in}
use Rattle.field_pair.specs.Panel.{panel_told}
use Rattle.field_pair.specs.Same.{ApartRuns, AreToldBy, IsFirstApart, IsPanelEnd}
use Rattle.field_pair.specs.Same.{IsSameFor}
use Rattle.field_pair.specs.Same.{TellTheSame}
use Rattle.field_pair.proofs.PairKeys.{one-pair-key, pair-keys-apart, pair-stands, same-pair}
use Rattle.field_pair.proofs.PairKeys.{stands-own}
use Rattle.field_pair.proofs.Taking.{brought-drops, brought-rows, field-named}
use Rattle.field_pair.proofs.Telling.{tell-both}

-- ---- what panels tell of alike states

told-alike : (panel : List Ref) (s t : ControllerState) → IsAlike s t
    → panel_told panel s ≡ panel_told panel t
told-alike panel s t alike =
    λ i. if alike.stop i == 0 then 0 ∷ values_of (alike.references i) panel
    else alike.stop i ∷ []

apart-alike : (pair : Pair) → AsksPairsAlike (are_apart pair)
apart-alike pair s t alike =
    λ i. not (pointwise nat_eq (told-alike pair.panel.items s.old t.old alike.old i)
    (told-alike pair.panel.items s.new t.new alike.new i))

not-apart : (xs ys : List ℕ) → not (pointwise nat_eq xs ys) ≡ false → xs ≡ ys
not-apart xs ys is = by (pointwise nat_eq xs ys) refl is
  where
    by : (b : Bool) → pointwise nat_eq xs ys ≡ b → not b ≡ false → xs ≡ ys
    by true same is' = (bytes_eq-Decides xs ys).0 same
    by false same is' = absurd (let no' : true ≡ false = is' in cc)

same-not : (xs ys : List ℕ) → xs ≡ ys → not (pointwise nat_eq xs ys) ≡ true → ⊥
same-not xs ys same is =
    let equal = (bytes_eq-Decides xs ys).1 same in
    let no' : false ≡ true = ap not (sym equal) ∙ is in
    cc

-- the drops do not matter to what is told of a field
told-same : (plan : ControllerPlan) (drops : List IoDrop) (due : List ScanStep) (field : ScanField)
    → rows_told (record plan { drops = drops }) due field ≡ rows_told plan due field
told-same plan drops [] field = refl
told-same plan drops (steps.Begin ∷ due) field = told-same plan drops due field
told-same plan drops (steps.In row ∷ due) field =
    ap (λ (l : List ℕ). next_row (input_of (row_of plan row)) field ∷ l)
    (told-same plan drops due (behind_exchange (input_of (row_of plan row)) field))
told-same plan drops (steps.Solve row ∷ due) field = told-same plan drops due field
told-same plan drops (steps.Out row ∷ due) field = told-same plan drops due field
told-same plan drops (steps.End ∷ due) field = told-same plan drops due field
told-same plan drops (steps.Fail ∷ due) field = told-same plan drops due field
told-same plan drops (steps.Dark ∷ due) field = told-same plan drops due field

scan-told : (plan : ControllerPlan) (drops : List IoDrop) (field : ScanField)
    → rows_told (record plan { drops = drops }) (full_scan (record plan { drops = drops })) field
    ≡ rows_told plan (full_scan plan) field
scan-told plan drops field =
    ap (λ (due : List ScanStep). rows_told (record plan { drops = drops }) due field)
    (due-same plan drops)
    ∙ told-same plan drops (full_scan plan) field

map-fields : (choices : List Choice) (path : List ℕ)
    → map field_of (map (brought_by choices) path)
    ≡ map (λ by. field_of (brought_by choices by)) path
map-fields choices [] = refl
map-fields choices (by ∷ path) =
    ap (λ (l : List ScanField). field_of (brought_by choices by) ∷ l) (map-fields choices path)

-- moves that lead on are those of a pair
lead-moves : (pair : Pair) (path from to : List ℕ)
    → LeadBy pair.moves (pair_leads pair) from path to → MayMove pair path
lead-moves pair [] from to same = tt
lead-moves pair (by ∷ path) from to l = (l.0, lead-moves pair path l.1.0 to l.1.1.1)

pub may-move : (pair : Pair) (bad : List ℕ → Bool) (limit : Option ℕ) (path : List ℕ)
    → FailsBy (pair_starts pair) pair.moves (pair_leads pair) bad limit path → MayMove pair path
may-move pair bad limit path f =
    lead-moves pair path f.reaches.first f.key f.reaches.leads_on

module _ (pair : Pair) (new : Fixed) (parts : IsPair pair)
    (is-new : pair.new.fixed ≡ with_drops pair.old.fixed.plan.drops new) where
  abbrev old : Fixed
  old = pair.old.fixed

  abbrev fields : ℕ → ScanField
  fields by = field_by pair by

  abbrev states : List ℕ → StatePair
  states key = states_in pair key

  -- the panel of the new one
  panel-new : pair.panel.items ≡ new.plan.panel
  panel-new = parts.new_panel ∙ ap (λ (f : Fixed). f.plan.panel) is-new

  choices-are : pair.choices.items ≡ choices_of_both old.plan new.plan
  choices-are = parts.choices ∙ ap (λ (f : Fixed). choices_of_both old.plan f.plan) is-new

  pub tell : TellBoth old new fields pair.moves
  tell =
      subst (λ (cs : List Choice). TellBoth old new (λ by. field_of (brought_by cs by)) pair.moves)
      (sym choices-are)
      (tell-both old new pair.moves (parts.moves ∙ ap ways_of choices-are))

  -- what a move brings are rows of the drops
  all-named : (path : List ℕ) → AllByRecursion (NamesRows old.plan.drops) (map fields path)
  all-named [] = tt
  all-named (by ∷ path) = (
    subst (λ (cs : List Choice). NamesRows old.plan.drops (field_of (brought_by cs by)))
        (sym choices-are)
        (field-named old.plan.drops (brought_by (choices_of_both old.plan new.plan) by)
        (brought-rows old.plan.drops (read_by_both old.plan new.plan) by)),
    all-named path,
  )

  -- ---- keys

  -- a key of the new one's state stands for it with its own drops
  stands-new : (s kept : ControllerState) → StandsWhole pair.new.fixed.plan s kept
      → StandsWhole new.plan s kept
  stands-new s kept h =
      stands-own new.plan old.plan.drops s kept
      (subst (λ (f : Fixed). StandsWhole f.plan s kept) is-new h)

  stands : (s : StatePair) (key : List ℕ) → IsKeyIn pair s key
      → StandsForPair old.plan new.plan s (states key)
  stands s key k =
      let both = pair-stands old.plan pair.old.counters.items pair.new.fixed.plan
      pair.new.counters.items pair.size parts.size s key k in
      record {
        old_stands = both.old_stands;
        new_stands = stands-new s.new (states key).new both.new_stands;
      }

  -- the start of the new one
  starts-new : start pair.new.fixed.plan ≡ start new.plan
  starts-new = ap (λ (f : Fixed). start f.plan) is-new

  -- a scan of the new one
  scan-new : (field : ScanField) (s : ControllerState)
      → scanned pair.new.fixed
      (rows_told pair.new.fixed.plan (full_scan pair.new.fixed.plan) field) s
      ≡ (scanned_pair old new field (record { old = s; new = s })).new
  scan-new field s =
      ap (λ (f : Fixed). scanned f (rows_told f.plan (full_scan f.plan) field) s) is-new
      ∙ ap (λ (rows : List ℕ). scanned (with_drops old.plan.drops new) rows s)
      (scan-told new.plan old.plan.drops field)

  start-in : (key : List ℕ) → pair_starts pair key → pairs_start old new states key
  start-in key k =
      let both = stands (pair_start pair) key k in
      record {
        old_stands = both.old_stands;
        new_stands = subst (λ (s : ControllerState). StandsWhole new.plan s (states key).new)
            starts-new both.new_stands;
      }

  lead-in : (from : List ℕ) (by : ℕ) (key : List ℕ) → pair_leads pair from by key
      → pairs_lead old new states fields from by key
  lead-in from by key k =
      let both = stands (pair_behind pair by from) key k in
      record {
        old_stands = both.old_stands;
        new_stands = subst (λ (s : ControllerState). StandsWhole new.plan s (states key).new)
            (scan-new (fields by) (states from).new) both.new_stands;
      }

  covers-in : (bad : List ℕ → Bool) (bound : Option ℕ) (keys : List (List ℕ)) (depth : ℕ → ℕ)
      → Covers (pair_starts pair) pair.moves (pair_leads pair) bad bound keys depth
      → Covers (pairs_start old new states) pair.moves (pairs_lead old new states fields) bad bound
      keys depth
  covers-in bad bound keys depth c = record {
    first = c.first;
    is_first = start-in c.first c.is_first;
    first_among = c.first_among;
    closed = λ moves by key among below within.
        let next = c.closed moves by key among below within in
        (next.0, (lead-in key by next.0 next.1.0, next.1.1));
    good = c.good;
  }

  path-in : (path from to : List ℕ) → LeadBy pair.moves (pair_leads pair) from path to
      → LeadBy pair.moves (pairs_lead old new states fields) from path to
  path-in [] from to same = same
  path-in (by ∷ path) from to l =
      (l.0, (l.1.0, (lead-in from by l.1.0 l.1.1.0, path-in path l.1.0 to l.1.1.1)))

  pub reaches-in : (path key : List ℕ) → Reaches (pair_starts pair) pair.moves (pair_leads pair)
      path key
      → Reaches (pairs_start old new states) pair.moves (pairs_lead old new states fields) path key
  reaches-in path key r = record {
    first = r.first;
    is_first = start-in r.first r.is_first;
    leads_on = path-in path r.first key r.leads_on;
  }

  -- a key that is reached is one of a pair of states
  record HasPair (key : List ℕ) : Type 0 where
    s : StatePair
    is : IsKeyIn pair s key

  path-pair : (path from to : List ℕ) → HasPair from
      → LeadBy pair.moves (pair_leads pair) from path to → HasPair to
  path-pair [] from to has same = subst HasPair same has
  path-pair (by ∷ path) from to has l =
      path-pair path l.1.0 to (record { s = pair_behind pair by from; is = l.1.1.0 }) l.1.1.1

  reached-pair : (path key : List ℕ)
      → Reaches (pair_starts pair) pair.moves (pair_leads pair) path key → HasPair key
  reached-pair path key r =
      path-pair path r.first key (record { s = pair_start pair; is = r.is_first }) r.leads_on

  -- keys of alike pairs are one
  keys-apart : (key other : List ℕ) → HasPair key → HasPair other
      → AreAlikePairs (states key) (states other) → key ≡ other
  keys-apart key other k o alike =
      pair-keys-apart old.plan pair.old.counters.items pair.new.fixed.plan pair.new.counters.items
      pair.size parts.size k.s o.s key other k.is o.is alike

  one-key : (s : StatePair) (key other : List ℕ) → IsKeyIn pair s key → IsKeyIn pair s other
      → key ≡ other
  one-key s key other k o =
      one-pair-key old.plan pair.old.counters.items pair.new.fixed.plan pair.new.counters.items
      pair.size parts.size s s key other k o
      (same-pair old.plan pair.old.counters.items pair.new.fixed.plan pair.new.counters.items
      pair.size parts.size s)

  -- moves lead to one key
  path-one : (path from key other : List ℕ) → LeadBy pair.moves (pair_leads pair) from path key
      → LeadBy pair.moves (pair_leads pair) from path other → key ≡ other
  path-one [] from key other l l' = sym l ∙ l'
  path-one (by ∷ path) from key other l l' =
      let same : l'.1.0 ≡ l.1.0 =
      one-key (pair_behind pair by from) l'.1.0 l.1.0 l'.1.1.0 l.1.1.0 in
      path-one path l.1.0 key other l.1.1.1
      (subst (λ (k : List ℕ). LeadBy pair.moves (pair_leads pair) k path other) same l'.1.1.1)

  reaches-one : (path key other : List ℕ)
      → Reaches (pair_starts pair) pair.moves (pair_leads pair) path key
      → Reaches (pair_starts pair) pair.moves (pair_leads pair) path other → key ≡ other
  reaches-one path key other r r' =
      let same : r'.first ≡ r.first =
      one-key (pair_start pair) r'.first r.first r'.is_first r.is_first in
      path-one path r.first key other r.leads_on
      (subst (λ (k : List ℕ). LeadBy pair.moves (pair_leads pair) k path other) same r'.leads_on)

  -- a pair of a list of keys is that of one of them
  pair-there : (keys : List (List ℕ)) (i : ℕ) (s : StatePair) (o : Option (List ℕ))
      → slice_get keys i ≡ o → option_map states o ≡ Some s
      → (key : List ℕ) × ((slice_get keys i ≡ Some key) × (states key ≡ s))
  pair-there keys i s None is some = absurd (let no' : None ≡ Some s = some in cc)
  pair-there keys i s (Some key) is some =
      let first : Some (states key) ≡ Some s = some in
      let e : states key ≡ s = cc in
      (key, (is, e))

  in-pairs : (keys : List (List ℕ)) (i : ℕ) (s : StatePair)
      → slice_get (map states keys) i ≡ Some s
      → (key : List ℕ) × ((slice_get keys i ≡ Some key) × (states key ≡ s))
  in-pairs keys i s is =
      pair-there keys i s (slice_get keys i) refl (sym (slice_get-map states keys i) ∙ is)

  -- what a pair tells, as both panels tell it
  told-pair : (one other : ControllerPlan) (scans : ℕ)
      → panel_told pair.panel.items (state_of_run old one scans)
      ≡ panel_told pair.panel.items (state_of_run new other scans)
      → TellTheSame old new one other scans
  told-pair one other scans same =
      ap (λ (l : List Ref). panel_told l (state_of_run old one scans)) (sym parts.old_panel)
      ∙ (same ∙ ap (λ (l : List Ref). panel_told l (state_of_run new other scans)) panel-new)

  pair-told : (one other : ControllerPlan) (scans : ℕ) → TellTheSame old new one other scans
      → panel_told pair.panel.items (state_of_run old one scans)
      ≡ panel_told pair.panel.items (state_of_run new other scans)
  pair-told one other scans same =
      ap (λ (l : List Ref). panel_told l (state_of_run old one scans)) parts.old_panel
      ∙ (same ∙ ap (λ (l : List Ref). panel_told l (state_of_run new other scans)) (sym panel-new))

  -- the exchanges of a move are those of a scan of both
  of-both : (path : List ℕ)
      → AllByRecursion (AreOfBoth old.plan new.plan) (map (brought_by pair.choices.items) path)
  of-both [] = tt
  of-both (by ∷ path) = (
    subst (λ (cs : List Choice). AreOfBoth old.plan new.plan (brought_by cs by)) (sym choices-are)
        (record {
          drops = brought-drops old.plan.drops (read_by_both old.plan new.plan) by;
          rows = brought-rows old.plan.drops (read_by_both old.plan new.plan) by;
        }),
    of-both path,
  )

  module _ (hold : PairCoversHold) (run : PairPathsAreRuns) (can : AreSearchable old new)
      (limit : Option ℕ) where
    abbrev bad : List ℕ → Bool
    bad key = are_apart pair (states key)

    pub same-found : (many : ℕ)
        → HoldsWith (pair_starts pair) pair.moves (pair_leads pair) bad limit many
        → IsSameFor old new limit many
    same-found many h =
        let covers = hold old new states fields pair.moves (are_apart pair) (up_to limit) h.keys
        h.depth can tell (apart-alike pair) (covers-in bad (up_to limit) h.keys h.depth h.covers) in
        record {
          same = λ one other scans beside within.
              told-pair one other scans
              (not-apart _ _ (covers.never one other scans beside within));
          pairs = map states h.keys;
          as_many = length-map h.keys states ∙ h.as_many;
          apart = λ i j s t one two alike.
              let k = in-pairs h.keys i s one in
              let o = in-pairs h.keys j t two in
              let here = h.reached i k.0 k.1.0 in
              let there = h.reached j o.0 o.1.0 in
              let same : k.0 ≡ o.0 =
              keys-apart k.0 o.0 (reached-pair here.0 k.0 here.1.0)
              (reached-pair there.0 o.0 there.1.0)
              (subst (λ (q : StatePair). AreAlikePairs q (states o.0)) (sym k.1.1)
              (subst (λ (q : StatePair). AreAlikePairs s q) (sym o.1.1) alike)) in
              h.apart i j o.0 (k.1.0 ∙ ap Some same) o.1.0;
          reached = λ i s is.
              let k = in-pairs h.keys i s is in
              let here = h.reached i k.0 k.1.0 in
              let found = run old new states fields pair.moves here.0 k.0 can tell
              (reaches-in here.0 k.0 here.1.0) in
              let long : length (map fields here.0) ≡ length here.0 = length-map here.0 fields in
              record {
                one = found.one;
                other = found.other;
                scans = length (map fields here.0);
                beside = record {
                  fields = map fields here.0;
                  as_many = refl;
                  named = all-named here.0;
                  old_brings = found.old_brings;
                  new_brings = found.new_brings;
                };
                within = subst (IsBelow (up_to limit)) (sym long) here.1.1;
                alike = subst (λ (q : StatePair). AreAlikePairs (pair_after old new found.one
                    found.other (length (map fields here.0))) q) k.1.1 found.alike;
              };
          all = λ one other scans beside within.
              let found = covers.all one other scans beside within in
              record {
                place = found.place;
                pair = states found.key;
                is_there = slice_get-map states h.keys found.place
                    ∙ ap (option_map states) found.is_there;
                alike = found.alike;
              };
        }

    -- the runs of a path that tells two controllers apart
    abbrev pub apart-runs : (path : List ℕ) (key : List ℕ)
        → AreRunsTo old new (map fields path) (states key) → ApartRuns
    apart-runs path key found = record {
      brought = map (brought_by pair.choices.items) path;
      one = found.one;
      other = found.other;
    }

    abbrev pub run-to : (path key : List ℕ)
        → Reaches (pair_starts pair) pair.moves (pair_leads pair) path key
        → AreRunsTo old new (map fields path) (states key)
    run-to path key r =
        run old new states fields pair.moves path key can tell (reaches-in path key r)

    pub first-apart : (path key : List ℕ)
        (r : Reaches (pair_starts pair) pair.moves (pair_leads pair) path key)
        → FailsBy (pair_starts pair) pair.moves (pair_leads pair) bad limit path
        → IsFirstApart old new limit (apart-runs path key (run-to path key r))
    first-apart path key r f =
        let found = run-to path key r in
        let brought = map (brought_by pair.choices.items) path in
        let long : length brought ≡ length path = length-map path _ in
        let long' : length (map fields path) ≡ length path = length-map path fields in
        let same : key ≡ f.key = reaches-one path key f.key r f.reaches in
        let told = map-fields pair.choices.items path in
        let covers = hold old new states fields pair.moves (are_apart pair) (Some (length path))
        f.keys
        f.depth can tell (apart-alike pair)
        (covers-in bad (Some (length path)) f.keys f.depth f.covers) in
        let so : are_apart pair (pair_after old new found.one found.other (length path)) ≡ true =
        ap (λ n. are_apart pair (pair_after old new found.one found.other n)) (sym long')
        ∙ (apart-alike pair _ (states key) found.alike ∙ (ap bad same ∙ f.is_bad)) in
        record {
          exchanges = of-both path;
          old_brings = subst (λ (l : List ScanField). Brings old old.plan.drops l found.one) (sym
              told)
              found.old_brings;
          new_brings = subst (λ (l : List ScanField). Brings new old.plan.drops l found.other)
              (sym told) found.new_brings;
          within = subst (IsBelow (up_to limit)) (sym long) f.within;
          apart = λ tells.
              same-not _ _ (pair-told found.one found.other (length path)
              (subst (TellTheSame old new found.one found.other) long tells)) so;
          first = λ one other scans beside fewer.
              told-pair one other scans
              (not-apart _ _ (covers.never one other scans beside (subst (λ n. scans < n) long
              fewer)));
        }

    end-alike : (panel : List Ref) (s t : ControllerState) (end : PanelEnd) → IsAlike s t
        → IsPanelEnd panel t end → IsPanelEnd panel s end
    end-alike panel s t end alike is = record {
      stop = is.stop ∙ sym alike.stop;
      values = is.values ∙ ap (λ m. values_of m panel) (sym alike.references);
    }

    pub apart-told : (path : List ℕ) (apart : Apart) (by : IsApartBy pair path apart)
        → AreToldBy old new (apart-runs path by.key (run-to path by.key by.reaches)) apart
    apart-told path apart by =
        let found = run-to path by.key by.reaches in
        let brought = map (brought_by pair.choices.items) path in
        let long : length (map fields path) ≡ length brought =
        length-map path fields ∙ sym (length-map path _) in
        let alike = subst (λ n. AreAlikePairs (pair_after old new found.one found.other n)
        (states by.key)) long found.alike in
        record {
          brought = sym by.brought;
          old_end = subst (λ (l : List Ref). IsPanelEnd l
              (state_of_run old found.one (length brought)) apart.old) parts.old_panel
              (end-alike pair.panel.items _ (states by.key).old apart.old alike.old by.old_end);
          new_end = subst (λ (l : List Ref). IsPanelEnd l
              (state_of_run new found.other (length brought)) apart.new) panel-new
              (end-alike pair.panel.items _ (states by.key).new apart.new alike.new by.new_end);
        }
