-- The started calls are taken in block order.
use Rattle.std.proofs.Common.{◌≡◌, ℕ, suc, ◌+◌, ◌<◌, Bool, true, false, cond, Option, Some, None}
use Rattle.std.proofs.Common.{List, [], ◌∷◌, length, get_or, set, map, drop, is_some, refl, sym, ap}
use Rattle.std.proofs.Common.{◌∙◌, arith, one-add}
use Rattle.std.specs.Prelude.{nat_lt, ◌||◌, ◌&&◌, not, option_map}
use Rattle.std.specs.Option.{is_none}
use Rattle.std.specs.List.{filter_map, cons_option, list_any, slice_get, position, position_or_len}
use Rattle.std.proofs.lemmas.Bool.{false≢true, lt-ltb, le-ltb, ltb-true, ltb-false}
use Rattle.mstr_block.specs.declared.call.CallId.{CallId}
use Rattle.mstr_block.specs.declared.call.MstrCall.{MstrCall}
use Rattle.mstr_block.specs.declared.call.MstrAsk.{MstrAsk}
use Rattle.mstr_block.specs.declared.state.Kept.{Kept}
use Rattle.mstr_block.specs.declared.state.Running.{Running}
use Rattle.mstr_block.specs.declared.state.BlockState.{BlockState}
use Rattle.mstr_block.specs.declared.state.BlockState.TheVariants.{Idle, Waiting, Active, Aborted}
use Rattle.mstr_block.specs.declared.state.BlockState.TheVariants.{Ready}
use Rattle.mstr_block.specs.Call.{is_same_call}
use Rattle.mstr_block.specs.Table.{BlockTable, is_awaited, untaken_call, untaken, is_untaken}
use Rattle.mstr_block.specs.Table.{call_taken}
use Rattle.mstr_block.specs.Table.{taken_at, first_taken, started_calls}
use Rattle.mstr_block.specs.Laws.{collected, CallsAreTakenInOrder}

-- the blocks after the call of the first block that has one is taken
abbrev first : List BlockState → List BlockState
first [] = []
first (s ∷ rest) = cond (is_untaken s) (call_taken s ∷ rest) (s ∷ first rest)

abbrev at_place : List BlockState → Option ℕ → List BlockState
at_place xs None = xs
at_place xs (Some k) = set xs k (call_taken (get_or xs k Idle))

later : (k n : ℕ) (b : Bool) → nat_lt k n ≡ b → nat_lt (1 + k) (suc n) ≡ b
later k n true e = lt-ltb (1 + k) (suc n) (let h = ltb-true k n e in omega arith)
later k n false e = le-ltb (1 + k) (suc n) (let h = ltb-false k n e in omega arith)

place_later : (x : BlockState) (xs : List BlockState) (k : ℕ) (b : Bool)
    → at_place (x ∷ xs) (cond b (Some (1 + k)) None) ≡ x ∷ at_place xs (cond b (Some k) None)
place_later x xs k true = ap (λ n. set (x ∷ xs) n (call_taken (get_or (x ∷ xs) n Idle))) (one-add k)
place_later x xs k false = refl

abbrev place_of : Bool → ℕ → ℕ → Option ℕ
place_of here k n =
    cond (nat_lt (cond (not here) (1 + k) 0) (suc n)) (Some (cond (not here) (1 + k) 0)) None

at_head : (x : BlockState) (xs : List BlockState) (k : ℕ) (here : Bool)
    → at_place xs (cond (nat_lt k (length xs)) (Some k) None) ≡ first xs
    → at_place (x ∷ xs) (place_of here k (length xs)) ≡ cond here (call_taken x ∷ xs) (x ∷ first xs)
at_head x xs k true ih =
    let within : 0 < suc (length xs) = omega arith in
    ap (λ b. at_place (x ∷ xs) (cond b (Some 0) None)) (lt-ltb 0 (suc (length xs)) within)
at_head x xs k false ih =
    ap (λ b. at_place (x ∷ xs) (cond b (Some (1 + k)) None))
    (later k (length xs) (nat_lt k (length xs)) refl)
    ∙ place_later x xs k (nat_lt k (length xs)) ∙ ap (λ rest. x ∷ rest) ih

first_is : (xs : List BlockState) → at_place xs (position is_untaken xs) ≡ first xs
first_is [] = refl
first_is (x ∷ xs) = at_head x xs (position_or_len is_untaken xs) (is_untaken x) (first_is xs)

-- a block whose call is taken
taken-untaken : (s : BlockState) → untaken (call_taken s) ≡ None
taken-untaken Idle = refl
taken-untaken Waiting = refl
taken-untaken (Active r) = refl
taken-untaken (Aborted r) = refl
taken-untaken (Ready kept result) = refl

taken-taken : (s : BlockState) → call_taken (call_taken s) ≡ call_taken s
taken-taken Idle = refl
taken-taken Waiting = refl
taken-taken (Active r) = refl
taken-taken (Aborted r) = refl
taken-taken (Ready kept result) = refl

-- the rest of the started calls
rest_at : (x : BlockState) (xs : List BlockState) (o : Option MstrCall) → untaken x ≡ o
    → filter_map untaken (first xs) ≡ drop 1 (filter_map untaken xs)
    → filter_map untaken (cond (is_some o) (call_taken x ∷ xs) (x ∷ first xs))
    ≡ drop 1 (cons_option o (filter_map untaken xs))
rest_at x xs None e ih = ap (λ o. cons_option o (filter_map untaken (first xs))) e ∙ ih
rest_at x xs (Some call) e ih = ap (λ o. cons_option o (filter_map untaken xs)) (taken-untaken x)

rest_of : (xs : List BlockState) → filter_map untaken (first xs) ≡ drop 1 (filter_map untaken xs)
rest_of [] = refl
rest_of (x ∷ xs) = rest_at x xs (untaken x) refl (rest_of xs)

-- the same blocks once all are taken
same_at : (x : BlockState) (xs : List BlockState) (here : Bool)
    → map call_taken (first xs) ≡ map call_taken xs
    → map call_taken (cond here (call_taken x ∷ xs) (x ∷ first xs)) ≡ map call_taken (x ∷ xs)
same_at x xs true ih = ap (λ s. s ∷ map call_taken xs) (taken-taken x)
same_at x xs false ih = ap (λ rest. call_taken x ∷ rest) ih

same_of : (xs : List BlockState) → map call_taken (first xs) ≡ map call_taken xs
same_of [] = refl
same_of (x ∷ xs) = same_at x xs (is_untaken x) (same_of xs)

-- where no call is left nothing is taken
left_alone : (wrap : Running → BlockState) (id : CallId) (ask : Option MstrAsk) (kept : Kept)
    → untaken_call (record { id = id; ask = ask; kept = kept }) ≡ None
    → wrap (record { id = id; ask = None; kept = kept })
    ≡ wrap (record { id = id; ask = ask; kept = kept })
left_alone wrap id None kept e = refl
left_alone wrap id (Some ask) kept e = absurd (false≢true (sym (ap is_some e)))

alone : (s : BlockState) → untaken s ≡ None → call_taken s ≡ s
alone Idle e = refl
alone Waiting e = refl
alone (Active r) e = left_alone (λ q. Active q) r.id r.ask r.kept e
alone (Aborted r) e = left_alone (λ q. Aborted q) r.id r.ask r.kept e
alone (Ready kept result) e = refl

all_at : (x : BlockState) (xs : List BlockState) (o : Option MstrCall) → untaken x ≡ o
    → cons_option o (filter_map untaken xs) ≡ []
    → (filter_map untaken xs ≡ [] → map call_taken xs ≡ xs)
    → call_taken x ∷ map call_taken xs ≡ x ∷ xs
all_at x xs None e none ih = λ i. alone x e i ∷ ih none i
all_at x xs (Some call) e none ih = absurd (cc)

all_of : (xs : List BlockState) → filter_map untaken xs ≡ [] → map call_taken xs ≡ xs
all_of [] none = refl
all_of (x ∷ xs) none = all_at x xs (untaken x) refl none (all_of xs)

-- the calls that are out once all are taken
assoc_or : (a b c r : Bool) → r ≡ (b || c) → (a || r) ≡ ((a || b) || c)
assoc_or true b c r e = refl
assoc_or false b c r e = e

past_or : (a b c r : Bool) → r ≡ (b || c) → (a || r) ≡ (b || (a || c))
past_or true true c r e = refl
past_or true false c r e = refl
past_or false b c r e = e

out_at : (id : CallId) (ask : Option MstrAsk) (name : CallId) (calls : List MstrCall) (b r : Bool)
    → r ≡ (b || list_any (λ call. is_same_call call.id id) calls)
    → (is_same_call name id || r)
    ≡ (((is_none ask && is_same_call name id) || b)
    || list_any (λ call. is_same_call call.id id)
    (cons_option (option_map (λ a. record { id = name; ask = a }) ask) calls))
out_at id None name calls b r e = assoc_or (is_same_call name id) b _ r e
out_at id (Some ask) name calls b r e = past_or (is_same_call name id) b _ r e

out_of : (id : CallId) (xs : List BlockState)
    → list_any (is_awaited id) (map call_taken xs) ≡ (list_any (is_awaited id) xs
    || list_any (λ call. is_same_call call.id id) (filter_map untaken xs))
out_of id [] = refl
out_of id (Idle ∷ xs) = out_of id xs
out_of id (Waiting ∷ xs) = out_of id xs
out_of id (Active r ∷ xs) =
    out_at id r.ask r.id (filter_map untaken xs) (list_any (is_awaited id) xs) _ (out_of id xs)
out_of id (Aborted r ∷ xs) =
    out_at id r.ask r.id (filter_map untaken xs) (list_any (is_awaited id) xs) _ (out_of id xs)
out_of id (Ready kept result ∷ xs) = out_of id xs

-- there is one exactly where the list has a first
any_at : (o : Option MstrCall) (calls : List MstrCall) (rest : Bool)
    → rest ≡ is_some (slice_get calls 0)
    → (is_some o || rest) ≡ is_some (slice_get (cons_option o calls) 0)
any_at None calls rest e = e
any_at (Some call) calls rest e = refl

any_of : (xs : List BlockState)
    → list_any is_untaken xs ≡ is_some (slice_get (filter_map untaken xs) 0)
any_of [] = refl
any_of (x ∷ xs) = any_at (untaken x) (filter_map untaken xs) (list_any is_untaken xs) (any_of xs)

-- the table, by its blocks
table_at : (table : BlockTable) (place : Option ℕ)
    → taken_at table place ≡ record table { blocks = at_place table.blocks place }
table_at table None = refl
table_at table (Some k) = refl

first_table : (table : BlockTable)
    → first_taken table ≡ record table { blocks = first table.blocks }
first_table table = table_at table (position is_untaken table.blocks)
    ∙ ap (λ xs. record table { blocks = xs }) (first_is table.blocks)

pub calls-are_taken_in_order : CallsAreTakenInOrder
calls-are_taken_in_order table = record {
  any = any_of table.blocks;
  rest = ap started_calls (first_table table) ∙ rest_of table.blocks;
  same = ap collected (first_table table)
      ∙ ap (λ xs. record table { blocks = xs }) (same_of table.blocks);
  all = λ none. ap (λ xs. record table { blocks = xs }) (all_of table.blocks none);
  out = λ id. out_of id table.blocks;
}
