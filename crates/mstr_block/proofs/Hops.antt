-- The hops of a route, as far as the tests of a start tell.
use Rattle.std.proofs.Common.{◌≡◌, ◌≤◌, ◌<◌, ◌+◌, ℕ, Bool, true, false, cond, List, [], ◌∷◌}
use Rattle.std.proofs.Common.{length, take, drop, get_or, Some, None, unwrap_or, refl, sym, ap}
use Rattle.std.proofs.Common.{◌∙◌, subst, arith}
use Rattle.std.specs.Prelude.{◌==◌, ◌||◌, not, nat_le, nat_lt, min}
use Rattle.std.specs.List.{All, list_any, list_all, before_first, after_first, position}
use Rattle.std.specs.List.{position_or_len}
use Rattle.std.proofs.lemmas.Bool.{and_parts, or_parts, not-false, leb-true, ltb-false, eqb-false}
use Rattle.std.proofs.lemmas.Bool.{leb-false}
use Rattle.std.proofs.lemmas.List.{drop_all, get_or-take}
use Rattle.std.proofs.lemmas.List.Elements.{All-nil, All-cons, All-head, All-tail}
use Rattle.std.proofs.lemmas.List.Elements.{All-get_or}
use Rattle.std.proofs.lemmas.List.Folds.{length-prefix_len}
use Rattle.std.proofs.lemmas.List.Sums.{take_while-cons, prefix_len-le-length}
use Rattle.plant_types.specs.Limits.{is_up_to, most_address}
use Rattle.plant_types.specs.Plans.{IsNode, IsRouteFrom}
use Rattle.mstr_block.specs.declared.control.Control.{Control}
use Rattle.mstr_block.specs.Control.{is_no_hop, has_bad_hops, route_of, AreLow}

-- numbers of which none is above the highest address
all-low : (xs : List ℕ) → list_any (nat_lt most_address) xs ≡ false → AreLow xs
all-low [] none = All-nil (λ n. n ≤ most_address)
all-low (x ∷ xs) none =
    let parts = or_parts (nat_lt most_address x) (list_any (nat_lt most_address) xs) none in
    All-cons (λ n. n ≤ most_address) x xs (ltb-false most_address x parts.0) (all-low xs parts.1)

-- the hops up to the first that is 0
before-more : (x : ℕ) (xs : List ℕ) → before_first is_no_hop (x ∷ xs)
    ≡ cond (not (x == 0)) (x ∷ before_first is_no_hop xs) []
before-more x xs = take_while-cons (λ hop. not (is_no_hop hop)) x xs

more-nodes : (x : ℕ) (rest : List ℕ) (b : Bool) → (x == 0) ≡ b → x ≤ most_address
    → All IsNode rest → All IsNode (cond (not b) (x ∷ rest) [])
more-nodes x rest true is low nodes = All-nil IsNode
more-nodes x rest false is low nodes =
    let some = eqb-false x 0 is in
    All-cons IsNode x rest (record { from = omega arith; to = low }) nodes

before-nodes : (xs : List ℕ) → AreLow xs → All IsNode (before_first is_no_hop xs)
before-nodes [] low = All-nil IsNode
before-nodes (x ∷ xs) low = subst (All IsNode) (sym (before-more x xs))
    (more-nodes x (before_first is_no_hop xs) (x == 0) refl
    (All-head (λ n. n ≤ most_address) x xs low)
    (before-nodes xs (All-tail (λ n. n ≤ most_address) x xs low)))

-- where all are 0 there is none
before-zeros : (xs : List ℕ) → list_all is_no_hop xs ≡ true → before_first is_no_hop xs ≡ []
before-zeros [] zeros = refl
before-zeros (x ∷ xs) zeros =
    before-more x xs ∙ ap (λ b. cond (not b) (x ∷ before_first is_no_hop xs) [])
    (and_parts (is_no_hop x) (list_all is_no_hop xs) zeros).0

-- the node of a route
pub node-within : (control : Control) (rest : Bool)
    → (not (is_up_to most_address control.node) || rest) ≡ false → IsNode control.node
node-within control rest good =
    let up = not-false _ (or_parts (not (is_up_to most_address control.node)) rest good).0 in
    let parts = and_parts (nat_le 1 control.node) (nat_le control.node most_address) up in
    record {
      from = leb-true 1 control.node parts.0;
      to = leb-true control.node most_address parts.1;
    }

-- the hops of a route that passes its tests
hops-nodes : (routed : Bool) (hops : List ℕ) → has_bad_hops routed hops ≡ false
    → All IsNode (before_first is_no_hop hops)
hops-nodes true hops good =
    let parts = or_parts (list_any (nat_lt most_address) hops)
    (not (list_all is_no_hop (after_first is_no_hop hops))) good in
    before-nodes hops (all-low hops parts.0)
hops-nodes false hops good =
    subst (All IsNode) (sym (before-zeros hops (not-false _ good))) (All-nil IsNode)

-- all of its addresses
abbrev pub GoodRoute : Bool → Control → Type 0
GoodRoute routed control =
    (not (is_up_to most_address control.node) || has_bad_hops routed control.hops) ≡ false

route-nodes : (routed : Bool) (control : Control) → GoodRoute routed control
    → All IsNode (route_of control)
route-nodes routed control good =
    let hops = (or_parts (not (is_up_to most_address control.node))
    (has_bad_hops routed control.hops) good).1 in
    All-cons IsNode control.node _ (node-within control _ good)
    (hops-nodes routed control.hops hops)

alone : (control : Control) → GoodRoute false control → length (route_of control) ≡ 1
alone control good =
    let hops = (or_parts (not (is_up_to most_address control.node))
    (has_bad_hops false control.hops) good).1 in
    ap (λ l. length (control.node ∷ l)) (before-zeros control.hops (not-false _ hops))

-- it leads to another node
pub route-from : (routed : Bool) (own : ℕ) (control : Control) → GoodRoute routed control
    → (control.node == own) ≡ false → IsRouteFrom routed own (route_of control)
route-from routed own control good apart = record {
  some = omega arith;
  nodes = route-nodes routed control good;
  other = λ same. eqb-false control.node own apart (ap (λ o. unwrap_or o 0) same);
  alone = λ unrouted. alone control (subst (λ r. GoodRoute r control) unrouted good);
}

-- where the first hop that is 0 stands, or how many hops there are
end_at : (end count : ℕ) (b : Bool) → nat_lt end count ≡ b → end ≤ count
    → unwrap_or (cond b (Some end) None) count ≡ end
end_at end count true is within = refl
end_at end count false is within = let past = ltb-false end count is in omega arith

pub end-or : (hops : List ℕ) → unwrap_or (position is_no_hop hops) (length hops)
    ≡ position_or_len is_no_hop hops
end-or hops = end_at (position_or_len is_no_hop hops) (length hops) _ refl
    (prefix_len-le-length (λ hop. not (is_no_hop hop)) hops)

-- what stands behind it
behind_at : (hops : List ℕ) (end : ℕ) (b : Bool) → nat_le (end + 1) (length hops) ≡ b
    → drop (min (end + 1) (length hops)) hops ≡ drop (end + 1) hops
behind_at hops end true is =
    let within = leb-true (end + 1) (length hops) is in
    let same : min (end + 1) (length hops) ≡ end + 1 = omega arith in
    ap (λ n. drop n hops) same
behind_at hops end false is =
    let past = leb-false (end + 1) (length hops) is in
    let all : min (end + 1) (length hops) ≡ length hops = omega arith in
    ap (λ n. drop n hops) all ∙ drop_all (length hops) hops (omega arith)
    ∙ sym (drop_all (end + 1) hops (omega arith))

pub behind-end : (hops : List ℕ)
    → drop (min (position_or_len is_no_hop hops + 1) (length hops)) hops
    ≡ after_first is_no_hop hops
behind-end hops = behind_at hops (position_or_len is_no_hop hops) _ refl

-- a hop of the route is low
pub low-at : (hops : List ℕ) (place d : ℕ) → AreLow (before_first is_no_hop hops)
    → place < position_or_len is_no_hop hops → get_or hops place d ≤ most_address
low-at hops place d low within =
    let count = position_or_len is_no_hop hops in
    let long = length-prefix_len (λ hop. not (is_no_hop hop)) hops in
    subst (λ n. n ≤ most_address) (get_or-take count hops place d within)
    (All-get_or (λ n. n ≤ most_address) (take count hops) place d
    (subst (λ n. place < n) (sym long) within) low)
