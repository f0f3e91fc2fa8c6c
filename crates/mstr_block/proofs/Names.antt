-- The names of the calls of a table.
use Rattle.std.proofs.Common.{◌≡◌, ◌⊎◌, ℕ, zero, suc, ◌-◌, Bool, true, false, Option, Some, None}
use Rattle.std.proofs.Common.{List, [], ◌∷◌, get_or, set, map, is_some, unwrap_or, refl, sym, ap}
use Rattle.std.proofs.Common.{◌∙◌, subst, inl, inr}
use Rattle.std.specs.Prelude.{if◌then◌else◌}
use Rattle.std.proofs.lemmas.Bool.{false≢true}
use Rattle.mstr_block.specs.declared.call.CallId.{CallId}
use Rattle.mstr_block.specs.declared.call.MstrResult.{MstrResult}
use Rattle.mstr_block.specs.declared.state.Running.{Running}
use Rattle.mstr_block.specs.declared.state.BlockState.{BlockState}
use Rattle.mstr_block.specs.declared.state.BlockState.TheVariants.{Idle, Waiting, Active, Aborted}
use Rattle.mstr_block.specs.declared.state.BlockState.TheVariants.{Ready}
use Rattle.mstr_block.specs.Table.{BlockTable, block_state, with_state, running_in, is_awaited}
use Rattle.mstr_block.specs.Table.{call_taken, taken_at, call_ended, with_result, finished}
use Rattle.mstr_block.specs.Table.{power_lost, power_failed}
use Rattle.mstr_block.specs.Running.{RunsAt, IsRunning, IsStateOf, IsTable}
use Rattle.mstr_block.proofs.Steps.{IsResting, idle, waiting}

-- nothing is no running call
pub nothing : {X : Type 0} (x : X) → None ≡ Some x → ⊥
nothing x e = false≢true (ap is_some e)

-- what holds of a value holds of the same one
pub the_same : {X : Type 0} (P : X → Type 0) (x y : X) → P x → Some x ≡ Some y → P y
the_same P x y has e = subst P (ap (λ o. unwrap_or o x) e) has

-- one element written: what stands at a place
pub set-cases : {X : Type 0} (xs : List X) (k : ℕ) (y d : X) (place : ℕ)
    → (get_or (set xs k y) place d ≡ get_or xs place d)
    ⊎ ((place ≡ k) × (get_or (set xs k y) place d ≡ y))
set-cases [] k y d place = inl refl
set-cases (x ∷ xs) zero y d zero = inr (refl, refl)
set-cases (x ∷ xs) zero y d (suc place) = inl refl
set-cases (x ∷ xs) (suc k) y d zero = inl refl
set-cases (x ∷ xs) (suc k) y d (suc place) =
    elim (set-cases xs k y d place) [ inl e ↦ inl e | inr w ↦ inr (ap suc w.0, w.1) ]

map-at : (f : BlockState → BlockState) → f Idle ≡ Idle → (xs : List BlockState) (place : ℕ)
    → get_or (map f xs) place Idle ≡ f (get_or xs place Idle)
map-at f e [] place = sym e
map-at f e (x ∷ xs) zero = refl
map-at f e (x ∷ xs) (suc place) = map-at f e xs place

-- the states of a table after one of them is written, or after a function of each
pub set-states : (routed : Bool) (own : ℕ) (numbers : List ℕ) (xs : List BlockState) (k : ℕ)
    (s : BlockState)
    → ((place : ℕ) → IsStateOf routed own numbers (get_or xs place Idle))
    → IsStateOf routed own numbers s
    → (place : ℕ) → IsStateOf routed own numbers (get_or (set xs k s) place Idle)
set-states routed own numbers xs k s were now place = elim (set-cases xs k s Idle place) [
  | inl e ↦ subst (IsStateOf routed own numbers) (sym e) (were place)
  | inr w ↦ subst (IsStateOf routed own numbers) (sym w.1) now
]

map-states : (routed : Bool) (own : ℕ) (numbers : List ℕ) (f : BlockState → BlockState)
    → f Idle ≡ Idle
    → ((s : BlockState) → IsStateOf routed own
    numbers s → IsStateOf routed own numbers (f s))
    → (xs : List BlockState) → ((place : ℕ) → IsStateOf routed own numbers (get_or xs place Idle))
    → (place : ℕ) → IsStateOf routed own numbers (get_or (map f xs) place Idle)
map-states routed own numbers f rests keeps xs were place =
    subst (IsStateOf routed own numbers) (sym (map-at f rests xs place)) (keeps _ (were place))

-- a block ran a call of this name
abbrev pub RanAt : BlockTable → ℕ → CallId → Type 0
RanAt table place id = (was : Running) × RunsAt table place was × (was.id ≡ id)

-- what runs in a table ran in another by the same name: so its names are apart as those of the
-- other
names-stay : (table : BlockTable) (xs : List BlockState) → ((place : ℕ) (r : Running)
    → RunsAt (record table { blocks = xs }) place r → RanAt table place r.id)
    → ((place : ℕ) → IsStateOf table.routed table.node table.numbers (get_or xs place Idle))
    → IsTable table → IsTable (record table { blocks = xs })
names-stay table xs from states t = record {
  paths = t.paths;
  numbers = t.numbers;
  states = states;
  apart = λ one other r s differ runs1 runs2 paths.
      let first = from one r runs1 in
      let second = from other s runs2 in
      let same = ap (λ (id : CallId). id.path) first.2 ∙ paths
      ∙ sym (ap (λ (id : CallId). id.path) second.2) in
      let were = t.apart one other first.0 second.0 differ first.1 second.1 same in (
        sym (ap (λ (id : CallId). id.path) first.2) ∙ were.0,
        λ h. were.1 (ap (λ (id : CallId). id.seq) first.2 ∙ h
            ∙ sym (ap (λ (id : CallId). id.seq) second.2)),
      );
}

pub same_name : (r s : Running) → Some r ≡ Some s → r.id ≡ s.id
same_name r s e = ap (λ o. (unwrap_or o r).id) e

-- a block that runs what it ran, or nothing
pub written : (table : BlockTable) (k : ℕ) (s : BlockState) (place : ℕ) (r : Running)
    → ((r' : Running) → running_in s ≡ Some r' → RanAt table k r'.id)
    → RunsAt (record table { blocks = set table.blocks k s }) place r → RanAt table place r.id
written table k s place r here runs = elim (set-cases table.blocks k s Idle place) [
  | inl e ↦ (r, sym (ap running_in e) ∙ runs, refl)
  | inr w ↦ subst (λ n. RanAt table n r.id) (sym w.0) (here r (sym (ap running_in w.1) ∙ runs))
]

-- no call runs in a state of rest
pub runs_none : (s : BlockState) → IsResting s → running_in s ≡ None
runs_none _ idle = refl
runs_none _ waiting = refl

at_rest : (routed : Bool) (own : ℕ) (numbers : List ℕ) (s : BlockState) → IsResting s
    → IsStateOf routed own numbers s
at_rest routed own numbers _ idle = tt
at_rest routed own numbers _ waiting = tt

pub rests-stay : (table : BlockTable) (block : ℕ) (s : BlockState) → IsResting s → IsTable table
    → IsTable (with_state table block s)
rests-stay table block s rest t =
    names-stay table _ (λ place r. written table (block - 1) s place r
    (λ q e. absurd (nothing q (sym (runs_none s rest) ∙ e))))
    (set-states table.routed table.node table.numbers table.blocks (block - 1) s t.states
    (at_rest table.routed table.node table.numbers s rest)) t

pub gives-stay : (table : BlockTable) (block : ℕ) (a : Running) → block_state table block ≡ Active a
    → IsTable table → IsTable
    (with_state table block (Aborted a))
gives-stay table block a is t =
    let running : IsRunning table.routed table.node table.numbers a =
    subst (IsStateOf table.routed table.node table.numbers) is (t.states (block - 1)) in
    names-stay table _ (λ place r. written table (block - 1) (Aborted a) place r
    (λ q e. (a, ap running_in is, same_name a q e)))
    (set-states table.routed table.node table.numbers table.blocks (block - 1) (Aborted a)
    t.states running) t

-- a finish
ended-rests : (result : MstrResult) (s : BlockState) → running_in (call_ended result s) ≡ None
ended-rests result Idle = refl
ended-rests result Waiting = refl
ended-rests result (Active r) = refl
ended-rests result (Aborted r) = refl
ended-rests result (Ready kept outcome) = refl

still : (result : MstrResult) (s : BlockState) (b : Bool) (r : Running)
    → running_in (if b then call_ended result s else s) ≡ Some r → running_in s ≡ Some r
still result s true r e = absurd (nothing r (sym (ended-rests result s) ∙ e))
still result s false r e = e

ended-state : (routed : Bool) (own : ℕ) (numbers : List ℕ) (result : MstrResult) (s : BlockState)
    → IsStateOf routed own numbers s → IsStateOf routed own numbers (call_ended result s)
ended-state routed own numbers result Idle is = tt
ended-state routed own numbers result Waiting is = tt
ended-state routed own numbers result (Active r) is = is.kept
ended-state routed own numbers result (Aborted r) is = tt
ended-state routed own numbers result (Ready kept outcome) is = is

result-state : (routed : Bool) (own : ℕ) (numbers : List ℕ) (result : MstrResult)
    (s : BlockState) (b : Bool) → IsStateOf routed own numbers s
    → IsStateOf routed own numbers (if b then call_ended result s else s)
result-state routed own numbers result s true is = ended-state routed own numbers result s is
result-state routed own numbers result s false is = is

pub finished-stays : (table : BlockTable) (id : CallId) (result : MstrResult) → IsTable table
    → IsTable (finished id result table)
finished-stays table id result t = names-stay table _ (λ place r runs.
    let block = get_or table.blocks place Idle in
    let after = map-at (with_result id result) refl table.blocks place in
    (r, still result block (is_awaited id block) r (sym (ap running_in after) ∙ runs), refl))
    (map-states table.routed table.node table.numbers (with_result id result) refl
    (λ s. result-state table.routed table.node table.numbers result s
    (is_awaited id s)) table.blocks t.states) t

-- a power failure leaves each call that runs
pub lost-runs : (s : BlockState) → running_in (power_lost s) ≡ running_in s
lost-runs Idle = refl
lost-runs Waiting = refl
lost-runs (Active r) = refl
lost-runs (Aborted r) = refl
lost-runs (Ready kept result) = refl

lost-state : (routed : Bool) (own : ℕ) (numbers : List ℕ) (s : BlockState)
    → IsStateOf routed own numbers s → IsStateOf routed own numbers (power_lost s)
lost-state routed own numbers Idle is = tt
lost-state routed own numbers Waiting is = tt
lost-state routed own numbers (Active r) is = is
lost-state routed own numbers (Aborted r) is = is
lost-state routed own numbers (Ready kept result) is = tt

pub failed-runs : (table : BlockTable) (place : ℕ) (r : Running)
    → RunsAt (power_failed table) place r → RunsAt table place r
failed-runs table place r runs =
    sym (lost-runs (get_or table.blocks place Idle))
    ∙ sym (ap running_in (map-at power_lost refl table.blocks place)) ∙ runs

pub failed-stays : (table : BlockTable) → IsTable table → IsTable (power_failed table)
failed-stays table t = names-stay table _
    (λ place r runs. (r, failed-runs table place r runs, refl))
    (map-states table.routed table.node table.numbers power_lost refl
    (lost-state table.routed table.node table.numbers) table.blocks t.states) t

-- a call that is taken keeps its name
taken-name : (s : BlockState) (r : Running) → running_in (call_taken s) ≡ Some r
    → (was : Running) × (running_in s ≡ Some was) × (was.id ≡ r.id)
taken-name Idle r e = absurd (nothing r e)
taken-name Waiting r e = absurd (nothing r e)
taken-name (Active a) r e = (a, refl, same_name (record a { ask = None }) r e)
taken-name (Aborted a) r e = (a, refl, same_name (record a { ask = None }) r e)
taken-name (Ready kept result) r e = absurd (nothing r e)

taken-running : (routed : Bool) (own : ℕ) (numbers : List ℕ) (r : Running)
    → IsRunning routed own numbers r → IsRunning routed own numbers (record r { ask = None })
taken-running routed own numbers r is = record {
  named = is.named;
  network = is.network;
  kept = is.kept;
  ask = λ ask e. absurd (nothing ask e);
}

taken-state : (routed : Bool) (own : ℕ) (numbers : List ℕ) (s : BlockState)
    → IsStateOf routed own numbers s → IsStateOf routed own numbers (call_taken s)
taken-state routed own numbers Idle is = tt
taken-state routed own numbers Waiting is = tt
taken-state routed own numbers (Active r) is = taken-running routed own numbers r is
taken-state routed own numbers (Aborted r) is = taken-running routed own numbers r is
taken-state routed own numbers (Ready kept result) is = is

pub taken-stays : (table : BlockTable) (o : Option ℕ) → IsTable table → IsTable (taken_at table o)
taken-stays table None t = t
taken-stays table (Some k) t =
    let block = get_or table.blocks k Idle in
    names-stay table _
    (λ place r. written table k (call_taken block) place r (λ q e. taken-name block q e))
    (set-states table.routed table.node table.numbers table.blocks k (call_taken block) t.states
    (taken-state table.routed table.node table.numbers block (t.states k))) t
