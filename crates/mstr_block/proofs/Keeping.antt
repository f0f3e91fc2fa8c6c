-- Which calls stay started and out.
use Rattle.std.proofs.Common.{◌≡◌, ℕ, zero, suc, ◌-◌, Bool, true, false, None, List, [], ◌∷◌}
use Rattle.std.proofs.Common.{get_or, set, map, is_some, refl, sym, ap, ◌∙◌}
use Rattle.std.specs.Prelude.{◌||◌, option_and_then}
use Rattle.std.specs.List.{list_any}
use Rattle.std.proofs.lemmas.Bool.{false≢true}
use Rattle.std.proofs.lemmas.List.{length-set}
use Rattle.mstr_block.specs.declared.state.Running.{Running}
use Rattle.mstr_block.specs.declared.state.BlockState.{BlockState}
use Rattle.mstr_block.specs.declared.state.BlockState.TheVariants.{Idle, Waiting, Active, Aborted}
use Rattle.mstr_block.specs.declared.state.BlockState.TheVariants.{Ready}
use Rattle.mstr_block.specs.Table.{BlockTable, block_state, with_state, running_in, runs_such}
use Rattle.mstr_block.specs.Table.{untaken_call, is_untaken, is_awaited}
use Rattle.mstr_block.specs.Laws.{KeepsCalls, SolvesKeepCalls}
use Rattle.mstr_block.proofs.Steps.{Step, stays, rests, gives_up, launches, step_of}

or_kept : (a b c : Bool) → (a ≡ true → b ≡ true) → (a || c) ≡ true → (b || c) ≡ true
or_kept true b c f h = ap (λ x. x || c) (f refl)
or_kept false true c f h = refl
or_kept false false c f h = h

or_tail : (a b c : Bool) → (b ≡ true → c ≡ true) → (a || b) ≡ true → (a || c) ≡ true
or_tail true b c f h = refl
or_tail false b c f h = f h

-- a test that some element passes, where another takes its place that passes too
any-set : {X : Type 0} (p : X → Bool) (xs : List X) (i : ℕ) (y d : X)
    → (p (get_or xs i d) ≡ true → p y ≡ true)
    → list_any p xs ≡ true → list_any p (set xs i y) ≡ true
any-set p [] i y d f h = absurd (false≢true h)
any-set p (x ∷ xs) zero y d f h = or_kept (p x) (p y) (list_any p xs) f h
any-set p (x ∷ xs) (suc i) y d f h =
    or_tail (p x) (list_any p xs) (list_any p (set xs i y)) (any-set p xs i y d f) h

-- a test that a function of the elements leaves alone
pub any-map : {X : Type 0} (p : X → Bool) (f : X → X) → ((x : X) → p (f x) ≡ p x) → (xs : List X)
    → list_any p (map f xs) ≡ list_any p xs
any-map p f same [] = refl
any-map p f same (x ∷ xs) = λ i. same x i || any-map p f same xs i

pub none-map : {X : Type 0} (p : X → Bool) (f : X → X) → ((x : X) → p (f x) ≡ false) → (xs : List X)
    → list_any p (map f xs) ≡ false
none-map p f fails [] = refl
none-map p f fails (x ∷ xs) = ap (λ b. b || list_any p (map f xs)) (fails x) ∙ none-map p f fails xs

-- a block that runs no call has none that was not taken, and none that is awaited
rests-untaken : (s : BlockState) → running_in s ≡ None → is_untaken s ≡ false
rests-untaken s e = ap (λ o. is_some (option_and_then untaken_call o)) e

rests-such : (test : Running → Bool) (s : BlockState) → running_in s ≡ None
    → runs_such test s ≡ false
rests-such test Idle e = refl
rests-such test Waiting e = refl
rests-such test (Active r) e = absurd (false≢true (sym (ap is_some e)))
rests-such test (Aborted r) e = absurd (false≢true (sym (ap is_some e)))
rests-such test (Ready kept result) e = refl

never : (a b : Bool) → a ≡ false → a ≡ true → b ≡ true
never a b off on = absurd (false≢true (sym off ∙ on))

-- so any state may follow such a block
follows : (table : BlockTable) (block : ℕ) (s : BlockState)
    → running_in (block_state table block) ≡ None → KeepsCalls table (with_state table block s)
follows table block s none = record {
  node = refl;
  routed = refl;
  count = length-set table.blocks (block - 1) _;
  started = any-set is_untaken table.blocks (block - 1) s Idle
      (never _ (is_untaken s) (rests-untaken (block_state table block) none));
  out = λ id. any-set (is_awaited id) table.blocks (block - 1) s Idle
      (never _ (is_awaited id s) (rests-such _ (block_state table block) none));
}

-- and a call that is given up is still the same call
given : (table : BlockTable) (block : ℕ) (r : Running) → block_state table block ≡ Active r
    → KeepsCalls table (with_state table block (Aborted r))
given table block r e = record {
  node = refl;
  routed = refl;
  count = length-set table.blocks (block - 1) _;
  started = any-set is_untaken table.blocks (block - 1) (Aborted r) Idle
      (λ h. sym (ap is_untaken e) ∙ h);
  out = λ id. any-set (is_awaited id) table.blocks (block - 1) (Aborted r) Idle
      (λ h. sym (ap (is_awaited id) e) ∙ h);
}

step-keeps : (table : BlockTable) (block : ℕ) (after : BlockTable) → Step table block after
    → KeepsCalls table after
step-keeps table block after stays = record {
  node = refl;
  routed = refl;
  count = refl;
  started = λ h. h;
  out = λ id h. h;
}
step-keeps table block after (rests s none rest) = follows table block s none
step-keeps table block after (gives_up r e) = given table block r e
step-keeps table block after (launches op control words path none e passed long) =
    let kept = follows table block _ none in
    record {
      node = kept.node;
      routed = kept.routed;
      count = kept.count;
      started = kept.started;
      out = kept.out;
    }

pub solves-keep_calls : SolvesKeepCalls
solves-keep_calls table block site inputs m =
    step-keeps table block _ (step_of table block site inputs m)
