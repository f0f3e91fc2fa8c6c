-- What a search of keys says of a field.
use Rattle.std.proofs.Common.{◌≡◌, ℕ, ◌<◌, Bool, List, [], ◌∷◌, Option, Some, None}
use Rattle.std.proofs.Common.{refl, sym, ap, ◌∙◌, subst, length, map}
use Rattle.std.specs.Prelude.{◌==◌, not, slice_get}
use Rattle.std.specs.Option.{option_map}
use Rattle.std.proofs.lemmas.List.{length-map}
use Rattle.std.proofs.lemmas.Option.{slice_get-map}
use Rattle.std.specs.Prelude.{nat_lt}
use Rattle.plant_types.specs.declared.plan.ControllerPlan.{ControllerPlan}
use Rattle.plant_types.specs.declared.reference.Ref.{Ref}
use Rattle.plant_types.specs.Checks.{sizes_of}
use Rattle.plant_types.specs.Discretes.{Refs}
use Rattle.scan_order.specs.Due.{full_scan}
use Rattle.ladder_solver.specs.declared.places.BlockPlace.{BlockPlace}
use Rattle.controller_core.specs.declared.fixed.Fixed.{Fixed}
use Rattle.controller_core.specs.Replay.{ControllerState, start}
use Rattle.state_space.specs.Answers.{Covers, FailsBy, HoldsWith}
use Rattle.state_space.specs.Reaching.{IsBelow, LeadBy, Reaches, up_to}
use Rattle.field_runs.specs.Played.{with_scripts, AreScansTold}
use Rattle.field_runs.specs.Scan.{scanned}
use Rattle.field_search.specs.Covered.{AsksAlike, CoversHoldInField, CoversReachAll, IsAlone, TellAll}
use Rattle.field_search.specs.Covered.{leads_to, starts_at, StandsFor}
use Rattle.cone_of.specs.Cone.{HasIn, IsCone}
use Rattle.field_search.specs.ConeRuns.{IsAlikeIn}
use Rattle.field_search.specs.Found.{PathsAreRuns}
use Rattle.field_search.proofs.Fields.{alike-then}
use Rattle.field_machine.specs.declared.asked.Asked.{Asked}
use Rattle.field_machine.specs.declared.asked.Asked.TheVariants.{On, Stopped}
use Rattle.field_machine.specs.Asked.{is_so}
use Rattle.field_machine.specs.Choices.{told_by}
use Rattle.field_machine.specs.Keys.{state_in, IsKeyOf}
use Rattle.field_machine.specs.Narrow.{apart_of, outside_of, reference_of, state_cleared}
use Rattle.field_machine.specs.Never.{state_of_run, told_in_ways, IsFirstSo, IsNeverSo}
use Rattle.field_machine.proofs.Narrowing.{alike-in, alike-in-back, clear-alike, cleared-alike}
use Rattle.field_machine.proofs.Narrowing.{cleared-clear, start-clear, IsClear}
use Rattle.field_machine.proofs.States.{key-stands, one-key}
use Rattle.field_machine.proofs.Ways.{each-tells}

-- states that are alike where it is asked are asked the same
pub asks-alike : (plan : ControllerPlan) (set : Refs) (asked : Asked)
    → HasIn set (reference_of asked) → AsksAlike plan set (is_so asked)
asks-alike plan set (On at) has s t alike =
    ap (nat_lt 0) (alike.references at (has at refl))
asks-alike plan set Stopped has s t alike =
    ap (λ n. not (n == 0)) alike.stop

module _ (fixed : Fixed) (places : List BlockPlace) (count : ℕ) (outside : List Ref)
    (apart : List BlockPlace) where
  abbrev pub rows : ℕ → List ℕ
  rows = told_by fixed.plan (full_scan fixed.plan)

  abbrev pub states : List ℕ → ControllerState
  states = state_in fixed.plan places

  abbrev pub starts : List ℕ → Type 0
  starts key = IsKeyOf fixed.plan places (start fixed.plan) key

  abbrev pub leads : List ℕ → ℕ → List ℕ → Type 0
  leads from by key =
      IsKeyOf fixed.plan places (state_cleared outside apart (scanned fixed (rows by) (states from)))
      key

module _ (fixed : Fixed) (places : List BlockPlace) (count : ℕ) (set : Refs) where
  -- what the set lacks
  abbrev outside : List Ref
  outside = outside_of (sizes_of fixed.plan) set

  abbrev apart : List BlockPlace
  apart = apart_of set fixed.plan.segments places

  abbrev rows' : ℕ → List ℕ
  rows' = rows fixed places count outside apart

  abbrev states' : List ℕ → ControllerState
  states' = states fixed places count outside apart

  abbrev starts' : List ℕ → Type 0
  starts' = starts fixed places count outside apart

  abbrev leads' : List ℕ → ℕ → List ℕ → Type 0
  leads' = leads fixed places count outside apart

  -- a key of a state stands for it, and one of a cleared state for the state that was cleared
  stands-in : (s : ControllerState) (key : List ℕ) → IsKeyOf fixed.plan places s key
      → StandsFor fixed.plan set s (states' key)
  stands-in s key is =
      let stands = key-stands fixed.plan places s key is in
      record {
        alike = alike-in fixed.plan set places s (states' key) stands.alike;
        settled = stands.settled;
      }

  cleared-stands : (s : ControllerState) (key : List ℕ)
      → IsKeyOf fixed.plan places (state_cleared outside apart s) key
      → StandsFor fixed.plan set s (states' key)
  cleared-stands s key is =
      let stands = stands-in (state_cleared outside apart s) key is in
      record {
        alike = alike-then fixed.plan set s (state_cleared outside apart s) (states' key)
            (cleared-alike fixed.plan set places s) stands.alike;
        settled = stands.settled;
      }

  -- what the machine does is what a field owes
  covers-in : (bad : List ℕ → Bool) (bound : Option ℕ) (keys : List (List ℕ)) (depth : ℕ → ℕ)
      → Covers starts' count leads' bad bound keys depth
      → Covers (starts_at fixed set states') count (leads_to fixed set states' rows') bad bound keys
      depth
  covers-in bad bound keys depth c = record {
    first = c.first;
    is_first = stands-in (start fixed.plan) c.first c.is_first;
    first_among = c.first_among;
    closed = λ moves by key among below within.
        let next = c.closed moves by key among below within in (
          next.0,
          (
            cleared-stands (scanned fixed (rows' by) (states' key)) next.0 next.1.0,
            next.1.1,
          ),
        );
    good = c.good;
  }

  lead-in : (path from to : List ℕ) → LeadBy count leads' from path to
      → LeadBy count (leads_to fixed set states' rows') from path to
  lead-in [] from to same = same
  lead-in (by ∷ path) from to l =
      let next = l.1.0 in (
        l.0,
        (
          next,
          (
            cleared-stands (scanned fixed (rows' by) (states' from)) next l.1.1.0,
            lead-in path next to l.1.1.1,
          ),
        ),
      )

  reaches-in : (path key : List ℕ) → Reaches starts' count leads' path key
      → Reaches (starts_at fixed set states') count (leads_to fixed set states' rows') path key
  reaches-in path key r = record {
    first = r.first;
    is_first = stands-in (start fixed.plan) r.first r.is_first;
    leads_on = lead-in path r.first key r.leads_on;
  }

  -- a key that is reached is one of a state in which what does not matter is cleared
  pub record HasState (key : List ℕ) : Type 0 where
    pub s : ControllerState
    pub is : IsKeyOf fixed.plan places s key
    pub clear : IsClear fixed.plan set places s

  lead-state : (path from to : List ℕ) → HasState from → LeadBy count leads' from path to
      → HasState to
  lead-state [] from to has same = subst HasState same has
  lead-state (by ∷ path) from to has l =
      let s = scanned fixed (rows' by) (states' from) in
      lead-state path l.1.0 to
      (record {
        s = state_cleared outside apart s;
        is = l.1.1.0;
        clear = cleared-clear fixed.plan set places s;
      }) l.1.1.1

  reached-state : (path key : List ℕ) → Reaches starts' count leads' path key → HasState key
  reached-state path key r =
      lead-state path r.first key (record {
        s = start fixed.plan;
        is = r.is_first;
        clear = start-clear fixed.plan set places;
      }) r.leads_on

  -- keys of states that are alike on the set are one
  keys-apart : (key other : List ℕ) → HasState key → HasState other
      → IsAlikeIn fixed.plan set (states' key) (states' other) → key ≡ other
  keys-apart key other k o alike =
      let one = (stands-in k.s key k.is).alike in
      let two = (stands-in o.s other o.is).alike in
      one-key fixed.plan places k.s o.s key other k.is o.is
      (clear-alike fixed.plan set places k.s o.s key other k.is o.is k.clear o.clear
      (alike-then fixed.plan set k.s (states' key) o.s one
      (alike-then fixed.plan set (states' key) (states' other) o.s alike
      (alike-in-back fixed.plan set places o.s (states' other) two))))

  -- a state of a list of keys is that of one of them
  state-there : (keys : List (List ℕ)) (i : ℕ) (s : ControllerState) (o : Option (List ℕ))
      → slice_get keys i ≡ o → option_map states' o ≡ Some s
      → (key : List ℕ) × ((slice_get keys i ≡ Some key) × (states' key ≡ s))
  state-there keys i s None is some = absurd (let no' : None ≡ Some s = some in cc)
  state-there keys i s (Some key) is some =
      let first : Some (states' key) ≡ Some s = some in
      let e : states' key ≡ s = cc in
      (key, (is, e))

  in-states : (keys : List (List ℕ)) (i : ℕ) (s : ControllerState)
      → slice_get (map states' keys) i ≡ Some s
      → (key : List ℕ) × ((slice_get keys i ≡ Some key) × (states' key ≡ s))
  in-states keys i s is =
      state-there keys i s (slice_get keys i) refl (sym (slice_get-map states' keys i) ∙ is)

  path-told : (path from to : List ℕ) → LeadBy count leads' from path to
      → AreScansTold fixed.plan (told_in_ways fixed.plan path)
  path-told [] from to same = tt
  path-told (by ∷ path) from to l =
      (each-tells fixed count by l.0, path-told path l.1.0 to l.1.1.1)

  module _ (hold : CoversHoldInField) (reach : CoversReachAll) (run : PathsAreRuns)
      (alone : IsAlone fixed.plan) (tell : TellAll fixed rows' count) (asked : Asked)
      (limit : Option ℕ) (is-cone : IsCone fixed.plan (reference_of asked) set) where
    abbrev bad : List ℕ → Bool
    bad key = is_so asked (states' key)

    asks : AsksAlike fixed.plan set (is_so asked)
    asks = asks-alike fixed.plan set asked is-cone.holds

    pub never-found : (many : ℕ) → HoldsWith starts' count leads' bad limit many
        → IsNeverSo fixed asked limit many
    never-found many h =
        let covers = covers-in bad (up_to limit) h.keys h.depth h.covers in
        record {
          cone = set;
          is_cone = is-cone;
          never = λ played scans plays within.
              hold fixed set states' rows' count (is_so asked) (up_to limit) h.keys h.depth alone
              is-cone.closed tell asks covers played scans plays within;
          states = map states' h.keys;
          as_many = length-map h.keys states' ∙ h.as_many;
          apart = λ i j s t one two alike.
              let k = in-states h.keys i s one in
              let o = in-states h.keys j t two in
              let here = h.reached i k.0 k.1.0 in
              let there = h.reached j o.0 o.1.0 in
              let same : k.0 ≡ o.0 =
              keys-apart k.0 o.0 (reached-state here.0 k.0 here.1.0)
              (reached-state there.0 o.0 there.1.0)
              (subst (λ (q : ControllerState). IsAlikeIn fixed.plan set q (states' o.0)) (sym k.1.1)
              (subst (λ (q : ControllerState). IsAlikeIn fixed.plan set s q) (sym o.1.1) alike)) in
              h.apart i j o.0 (k.1.0 ∙ ap Some same) o.1.0;
          reached = λ i s is.
              let k = in-states h.keys i s is in
              let here = h.reached i k.0 k.1.0 in
              let found = run fixed set states' rows' count here.0 k.0 alone is-cone.closed (each-tells fixed count)
              (reaches-in here.0 k.0 here.1.0) in
              let long : length (map rows' here.0) ≡ length here.0 = length-map here.0 rows' in
              record {
                played = with_scripts fixed.plan
                    (map rows' here.0);
                scans = length (map rows' here.0);
                plays = found.plays;
                within = subst (IsBelow (up_to limit)) (sym long) here.1.1;
                alike = subst (λ (q : ControllerState). IsAlikeIn fixed.plan set (state_of_run fixed (with_scripts fixed.plan
                    (map rows' here.0)) (length (map rows' here.0))) q) k.1.1 found.alike;
              };
          all = λ played scans plays within.
              let found = reach fixed set states' rows' count (is_so asked) (up_to limit) h.keys h.depth
              alone is-cone.closed tell asks covers played scans plays within in
              record {
                place = found.place;
                one = states' found.key;
                is_there = slice_get-map states' h.keys found.place
                    ∙ ap (option_map states') found.is_there;
                alike = found.alike;
              };
        }

    pub first-found : (path : List ℕ) → FailsBy starts' count leads' bad limit path
        → IsFirstSo fixed (is_so asked) limit (told_in_ways fixed.plan path)
    first-found path f =
        let found = run fixed set states' rows' count path f.key alone is-cone.closed (each-tells fixed count)
        (reaches-in path f.key f.reaches) in
        let long : length (map rows' path) ≡ length path = length-map path rows' in
        let covers = covers-in bad (Some (length path)) f.keys f.depth f.covers in
        record {
          rows = path-told path f.reaches.first f.key f.reaches.leads_on;
          plays = found.plays;
          within = subst (IsBelow (up_to limit)) (sym long) f.within;
          so = asks _ (states' f.key) found.alike ∙ f.is_bad;
          first = λ played scans plays fewer.
              hold fixed set states' rows' count (is_so asked) (Some (length path)) f.keys f.depth alone
              is-cone.closed tell asks covers played scans plays
              (subst (λ n. scans < n) long fewer);
        }
