-- Where none of its four paths has a call out, none of an end is out.
use Rattle.std.proofs.Common.{◌≡◌, ℕ, ◌&&◌, true, not, List, [], ◌∷◌, length, get_or}
use Rattle.std.proofs.Common.{None, refl, ap, arith}
use Rattle.std.specs.Prelude.{is_some}
use Rattle.std.specs.List.{list_all}
use Rattle.plant_types.specs.declared.net.BridgePlan.{BridgePlan}
use Rattle.ring_core.specs.Legal.{IsPath}
use Rattle.bridge_relay.specs.declared.entry.BridgeEntry.{BridgeEntry}
use Rattle.bridge_relay.specs.Laws.{end_after}
use Rattle.bridge_relay.specs.Machine.{RelayPath, none_out, relay_path, unused_path}
use Rattle.bridge_port.proofs.Agree.{have-four}

all-free : (ps : List RelayPath) → length ps ≡ 4 → (get_or ps 0 unused_path).out ≡ None
    → (get_or ps 1 unused_path).out ≡ None → (get_or ps 2 unused_path).out ≡ None
    → (get_or ps 3 unused_path).out ≡ None
    → list_all (λ (path : RelayPath). not (is_some path.out)) ps ≡ true
all-free [] size one two three four = refl
all-free (a ∷ []) size one two three four = ap (λ o. not (is_some o) && true) one
all-free (a ∷ b ∷ []) size one two three four =
    (λ i. not (is_some (one i)) && (not (is_some (two i)) && true))
all-free (a ∷ b ∷ c ∷ []) size one two three four =
    (λ i. not (is_some (one i)) && (not (is_some (two i)) && (not (is_some (three i)) && true)))
all-free (a ∷ b ∷ c ∷ d ∷ []) size one two three four =
    (λ i. not (is_some (one i)) && (not (is_some (two i)) && (not (is_some (three i))
    && (not (is_some (four i)) && true))))
all-free (a ∷ b ∷ c ∷ d ∷ e ∷ ps) size one two three four = absurd (omega (arith, size))

pub none-out : (plan : BridgePlan) (list : List BridgeEntry) (n : ℕ)
    → ((p : ℕ) → IsPath p → (relay_path (end_after plan list n) p).out ≡ None)
    → none_out (end_after plan list n) ≡ true
none-out plan list n free =
    all-free (end_after plan list n).paths (have-four plan list n)
    (free 1 (omega arith, omega arith)) (free 2 (omega arith, omega arith))
    (free 3 (omega arith, omega arith)) (free 4 (omega arith, omega arith))
