-- Names of calls as keys.
use Rattle.std.proofs.Common.{◌≡◌, ℕ, ◌&&◌, ◌==◌, nat_cmp, refl, ◌∙◌, arith}
use Rattle.std.specs.Ordering.{is_eq, ordering_then}
use Rattle.std.specs.declared.cmp.Ordering.{Ordering}
use Rattle.std.specs.declared.cmp.Ordering.TheVariants.{Less, Equal, Greater}
use Rattle.std.proofs.lemmas.Bool.Decides.{nat_tests}
use Rattle.mstr_block.specs.Call.{is_same_call}
use Rattle.mstr_block.specs.declared.call.CallId.{CallId}
use Rattle.station_laws.specs.Named.{order_of_keys}

equal-then : (a b : Ordering) → is_eq (ordering_then a b) ≡ is_eq a && is_eq b
equal-then Less b = refl
equal-then Equal b = refl
equal-then Greater b = refl

equal-numbers : (x y : ℕ) → is_eq (nat_cmp x y) ≡ (x == y)
equal-numbers x y = grind (arith, nat_tests)

-- two keys compare as equal exactly where they are one name
pub equal-keys : (p q : CallId)
    → is_eq (order_of_keys (p.node, (p.path, p.seq)) (q.node, (q.path, q.seq))) ≡ is_same_call p q
equal-keys p q =
    equal-then (nat_cmp p.node q.node)
    (ordering_then (nat_cmp p.path q.path) (nat_cmp p.seq q.seq))
    ∙ ((λ i. equal-numbers p.node q.node i
    && equal-then (nat_cmp p.path q.path) (nat_cmp p.seq q.seq) i)
    ∙ (λ i. (p.node == q.node)
    && (equal-numbers p.path q.path i && equal-numbers p.seq q.seq i)))
