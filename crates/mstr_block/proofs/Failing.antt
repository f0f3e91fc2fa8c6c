-- A power failure leaves the calls of a table as they are.
use Rattle.std.proofs.Common.{◌≡◌, List, [], ◌∷◌, map, is_some, refl, ap, ◌∙◌, inl, arith}
use Rattle.std.specs.Prelude.{option_and_then}
use Rattle.std.specs.List.{filter_map, cons_option, list_any}
use Rattle.std.proofs.lemmas.List.{length-map}
use Rattle.mstr_block.specs.declared.call.CallId.{CallId}
use Rattle.mstr_block.specs.declared.state.BlockState.{BlockState}
use Rattle.mstr_block.specs.declared.state.BlockState.TheVariants.{Idle, Waiting, Active, Aborted}
use Rattle.mstr_block.specs.declared.state.BlockState.TheVariants.{Ready}
use Rattle.mstr_block.specs.Table.{untaken_call, untaken, is_untaken, is_awaited, power_lost}
use Rattle.mstr_block.specs.Laws.{PowerFailuresKeepCalls}
use Rattle.mstr_block.proofs.Keeping.{any-map}
use Rattle.mstr_block.proofs.Names.{lost-runs, failed-runs}

-- a call that was not taken, and one that is awaited
lost-untaken : (s : BlockState) → untaken (power_lost s) ≡ untaken s
lost-untaken s = ap (option_and_then untaken_call) (lost-runs s)

lost-awaited : (id : CallId) (s : BlockState) → is_awaited id (power_lost s) ≡ is_awaited id s
lost-awaited id Idle = refl
lost-awaited id Waiting = refl
lost-awaited id (Active r) = refl
lost-awaited id (Aborted r) = refl
lost-awaited id (Ready kept result) = refl

same-started : (xs : List BlockState)
    → filter_map untaken (map power_lost xs) ≡ filter_map untaken xs
same-started [] = refl
same-started (x ∷ xs) = λ i. cons_option (lost-untaken x i) (same-started xs i)

same-out : (id : CallId) (xs : List BlockState)
    → list_any (is_awaited id) (map power_lost xs) ≡ list_any (is_awaited id) xs
same-out id xs = any-map (is_awaited id) power_lost (lost-awaited id) xs

pub power_failures-keep_calls : PowerFailuresKeepCalls
power_failures-keep_calls = record {
  keeps = λ table. record {
    node = refl;
    routed = refl;
    count = length-map table.blocks power_lost;
    started = λ h.
        any-map is_untaken power_lost (λ s. ap is_some (lost-untaken s)) table.blocks ∙ h;
    out = λ id h. same-out id table.blocks ∙ h;
  };
  started = λ table. same-started table.blocks;
  out = λ table id. same-out id table.blocks;
  new = λ table. record {
    rises = λ path. omega arith;
    new = λ place running runs. inl (failed-runs table place running runs);
  };
}
