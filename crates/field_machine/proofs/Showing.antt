-- A run of a field beside keys of its states, scan by scan.
use Rattle.std.proofs.Common.{◌≡◌, ◌<◌, ◌==◌, ℕ, zero, suc, ◌+◌, Bool, true, false, List, []}
use Rattle.std.proofs.Common.{◌∷◌, ◌++◌, refl, sym, ap, ◌∙◌, subst, arith, length, take}
use Rattle.std.proofs.Common.{append-nil, get_or}
use Rattle.std.proofs.lemmas.Bool.{eqb-true, eq-eqb}
use Rattle.std.proofs.lemmas.Grind.{flat_map-append}
use Rattle.std.proofs.lemmas.List.{length-map}
use Rattle.std.specs.List.{flat_map, range_with_len}
use Rattle.scan_order.specs.Due.{full_scan}
use Rattle.ladder_solver.specs.State.{SolveState}
use Rattle.ladder_solver.specs.declared.places.BlockPlace.{BlockPlace}
use Rattle.controller_core.specs.declared.fixed.Fixed.{Fixed}
use Rattle.controller_core.specs.Notes.{values_of}
use Rattle.controller_core.specs.Replay.{ControllerState, start}
use Rattle.field_runs.specs.Alike.{AlikeStatesStay, IsAlike, IsSettled, ScansSettle}
use Rattle.field_runs.specs.Played.{behind_scans, with_scripts, AreScansTold}
use Rattle.field_runs.specs.Played.{ScansAreFieldRuns}
use Rattle.field_runs.specs.Scan.{scanned}
use Rattle.field_runs.proofs.Playing.{stopped-steps}
use Rattle.field_search.specs.Covered.{IsAlone}
use Rattle.field_machine.specs.Choices.{told_by}
use Rattle.field_machine.specs.Keys.{state_in, IsKeyOf}
use Rattle.field_machine.specs.Never.{state_of_run, told_in_ways}
use Rattle.field_machine.specs.Shown.{panel_after, panel_in, IsShownBy, ShowsScan}
use Rattle.field_machine.specs.declared.shown.Shown.{Shown}
use Rattle.field_machine.proofs.States.{alike-then, key-stands, StandsAs}
use Rattle.field_machine.proofs.Ways.{each-tells}

-- the rows of ways are told
pub all-told : (fixed : Fixed) (ways : List ℕ)
    → AreScansTold fixed.plan (told_in_ways fixed.plan ways)
all-told fixed [] = tt
all-told fixed (by ∷ ways) =
    (each-tells fixed (suc by) by (omega arith), all-told fixed ways)

-- one scan more
behind-next : (fixed : Fixed) (ways : List ℕ) (s : ControllerState) (i : ℕ) → i < length ways
    → behind_scans fixed (take (suc i) (told_in_ways fixed.plan ways)) s
    ≡ scanned fixed (told_by fixed.plan (full_scan fixed.plan) (get_or ways i 0))
    (behind_scans fixed (take i (told_in_ways fixed.plan ways)) s)
behind-next fixed [] s i within = absurd (omega (arith, within))
behind-next fixed (by ∷ ways) s zero within = refl
behind-next fixed (by ∷ ways) s (suc i) within =
    behind-next fixed ways (scanned fixed (told_by fixed.plan (full_scan fixed.plan) by) s) i
    (omega (arith, within))

-- a key stands for a state, which has settled unless it stopped
pub record HasKey (fixed : Fixed) (places : List BlockPlace) (s : ControllerState)
    (key : List ℕ) : Type 0 where
  pub stands : StandsAs fixed.plan s (state_in fixed.plan places key)
  pub settled : s.stop ≡ 0 → IsSettled fixed.plan s

module _ (stay : AlikeStatesStay) (settle : ScansSettle) (fixed : Fixed)
    (alone : IsAlone fixed.plan) where
  -- a scan of a state and of the one that its key stands for
  scanned-alike : (told : List ℕ) (s kept : ControllerState) (b : Bool) → (s.stop == 0) ≡ b
      → (s.stop ≡ 0 → IsSettled fixed.plan s) → StandsAs fixed.plan s kept
      → IsAlike (scanned fixed told s) (scanned fixed told kept)
  scanned-alike told s kept true is settled stands =
      let goes : s.stop ≡ 0 = eqb-true s.stop 0 is in
      stay fixed told s kept (settled goes) (stands.settled (sym stands.alike.stop ∙ goes)) goes
      stands.alike
  scanned-alike told s kept false is settled stands =
      let one = stopped-steps fixed told s (full_scan fixed.plan) is in
      let other = stopped-steps fixed told kept (full_scan fixed.plan)
      (ap (λ k. k == 0) (sym stands.alike.stop) ∙ is) in
      subst (λ (q : ControllerState). IsAlike q (scanned fixed told kept)) (sym one)
      (subst (λ (q : ControllerState). IsAlike s q) (sym other) stands.alike)

  -- a scan that did not stop settles
  scanned-settled : (told : List ℕ) (s : ControllerState) (b : Bool) → (s.stop == 0) ≡ b
      → (s.stop ≡ 0 → IsSettled fixed.plan s) → (scanned fixed told s).stop ≡ 0
      → IsSettled fixed.plan (scanned fixed told s)
  scanned-settled told s true is settled goes =
      settle.scans fixed told s alone.runs alone.messages (settled (eqb-true s.stop 0 is)) goes
  scanned-settled told s false is settled goes =
      let one = stopped-steps fixed told s (full_scan fixed.plan) is in
      let on : s.stop ≡ 0 = ap (λ (q : ControllerState). q.stop) (sym one) ∙ goes in
      absurd (let no' : true ≡ false = sym (eq-eqb s.stop 0 on) ∙ is in cc)

  -- the key of the state after a scan, and what its panel is
  next-key : (places : List BlockPlace) (told : List ℕ) (s next : ControllerState)
      (key to : List ℕ) → HasKey fixed places s key
      → IsAlike (scanned fixed told (state_in fixed.plan places key)) next
      → IsKeyOf fixed.plan places next to
      → HasKey fixed places (scanned fixed told s) to × (IsAlike (scanned fixed told s) next)
  next-key places told s next key to has behind is =
      let kept = state_in fixed.plan places key in
      let alike = alike-then (scanned fixed told s) (scanned fixed told kept) next
      (scanned-alike told s kept (s.stop == 0) refl has.settled has.stands) behind in
      let stands = key-stands fixed.plan places next to is in (
        record {
          stands = record {
            alike = alike-then (scanned fixed told s) next (state_in fixed.plan places to) alike
                stands.alike;
            settled = stands.settled;
          };
          settled = scanned-settled told s (s.stop == 0) refl has.settled;
        },
        alike,
      )

-- n numbers and one more
range-more : (a n : ℕ) → range_with_len a (suc n) ≡ range_with_len a n ++ (a + n) ∷ []
range-more a zero = let e : a + 0 ≡ a = omega arith in ap (λ n. n ∷ []) (sym e)
range-more a (suc n) =
    let far : a + 1 + n ≡ a + suc n = omega arith in
    ap (λ (l : List ℕ). a ∷ l)
    (range-more (a + 1) n ∙ ap (λ k. range_with_len (a + 1) n ++ k ∷ []) far)

flat-more : (f : ℕ → List ℕ) (n : ℕ)
    → flat_map f (range_with_len 1 (suc n)) ≡ flat_map f (range_with_len 1 n) ++ f (1 + n)
flat-more f n =
    ap (flat_map f) (range-more 1 n)
    ∙ (flat_map-append f (range_with_len 1 n) ((1 + n) ∷ [])
    ∙ ap (λ (l : List ℕ). flat_map f (range_with_len 1 n) ++ l) (append-nil (f (1 + n))))

-- what has been shown after so many scans of the run of these ways
pub record HasShown (fixed : Fixed) (places : List BlockPlace) (ways : List ℕ) (i : ℕ)
    (key values : List ℕ) : Type 0 where
  pub has : HasKey fixed places
      (behind_scans fixed (take i (told_in_ways fixed.plan ways)) (start fixed.plan)) key
  pub are : values
      ≡ flat_map (panel_after fixed (with_scripts fixed.plan (told_in_ways fixed.plan ways)))
      (range_with_len 1 i)

pub none-shown : ScansSettle → (fixed : Fixed) (places : List BlockPlace) (ways key values : List ℕ)
    → IsKeyOf fixed.plan places (start fixed.plan) key → values ≡ []
    → HasShown fixed places ways 0 key values
none-shown settle fixed places ways key values is none = record {
  has = record {
    stands = key-stands fixed.plan places (start fixed.plan) key is;
    settled = λ goes. settle.starts fixed.plan;
  };
  are = none;
}

pub more-shown : AlikeStatesStay → ScansSettle → ScansAreFieldRuns → (fixed : Fixed)
    → IsAlone fixed.plan → (places : List BlockPlace) (ways : List ℕ) (i : ℕ)
    (key to old new : List ℕ) → i < length ways → HasShown fixed places ways i key old
    → ShowsScan fixed places (get_or ways i 0) key to old new
    → HasShown fixed places ways (i + 1) to new
more-shown stay settle runs fixed alone places ways i key to old new within shown scan =
    let told = told_in_ways fixed.plan ways in
    let rows = told_by fixed.plan (full_scan fixed.plan) (get_or ways i 0) in
    let panel = panel_after fixed (with_scripts fixed.plan told) in
    let s = behind_scans fixed (take i told) (start fixed.plan) in
    let after = behind_scans fixed (take (suc i) told) (start fixed.plan) in
    let next = next-key stay settle fixed alone places rows s scan.after key to shown.has
    scan.behind scan.key in
    let here : after ≡ scanned fixed rows s = behind-next fixed ways (start fixed.plan) i within in
    let up : suc i ≡ i + 1 = omega arith in
    let long : length told ≡ length ways =
    length-map ways (told_by fixed.plan (full_scan fixed.plan)) in
    let played = runs fixed told alone.runs alone.power (all-told fixed ways) in
    let run = played.same (suc i) (omega (arith, long, within)) in
    let far : suc i ≡ 1 + i = omega arith in
    let values : panel_in fixed.plan scan.after ≡ panel (1 + i) =
    ap (λ m. values_of m fixed.plan.panel) (sym next.1.references)
    ∙ (ap (panel_in fixed.plan) (sym here)
    ∙ (ap (λ (q : SolveState). values_of q.map fixed.plan.panel) (sym run.solving)
    ∙ ap panel far)) in
    subst (λ n. HasShown fixed places ways n to new) up (record {
      has = subst (λ (q : ControllerState). HasKey fixed places q to) (sym here) next.0;
      are = scan.values
          ∙ (ap (λ (l : List ℕ). l ++ panel_in fixed.plan scan.after) shown.are
          ∙ (ap (λ (l : List ℕ). flat_map panel (range_with_len 1 i) ++ l) values
          ∙ sym (flat-more panel i)));
    })

-- all was shown
pub all-shown : ScansAreFieldRuns → (fixed : Fixed) → IsAlone fixed.plan
    → (places : List BlockPlace) (ways : List ℕ) (i : ℕ) (key : List ℕ) (shown : Shown)
    → i ≡ length ways → HasShown fixed places ways i key shown.values.items
    → shown.stop ≡ (state_in fixed.plan places key).stop → IsShownBy fixed ways shown
all-shown runs fixed alone places ways i key shown all has stop =
    let told = told_in_ways fixed.plan ways in
    let played = runs fixed told alone.runs alone.power (all-told fixed ways) in
    let long : length told ≡ length ways =
    length-map ways (told_by fixed.plan (full_scan fixed.plan)) in
    let run = played.same i (omega (arith, long, all)) in
    record {
      values = has.are
          ∙ ap (λ n. flat_map (panel_after fixed (with_scripts fixed.plan told))
          (range_with_len 1 n)) all;
      stop = stop
          ∙ (sym has.has.stands.alike.stop
          ∙ (sym run.stop
          ∙ ap (λ n. (state_of_run fixed (with_scripts fixed.plan told) n).stop) all));
    }
