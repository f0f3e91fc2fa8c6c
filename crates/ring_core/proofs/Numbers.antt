-- The numbers that a node has accepted, by their sources: what is read and what is written.
use Rattle.std.proofs.Common.{◌≡◌, ℕ, ◌<◌, ◌≤◌, ◌==◌, ◌&&◌, Bool, true, cond, List, Option}
use Rattle.std.proofs.Common.{Some, unwrap_or, refl, sym, ap, ◌∙◌, subst, eq-eqb, arith, nat_cmp}
use Rattle.std.proofs.Common.{Ordering, Less, Equal, Greater}
use Rattle.std.proofs.lemmas.Bool.{cond_both}
use Rattle.std.proofs.lemmas.Cmp.{on_total, then_total}
use Rattle.std.proofs.lemmas.Map.Lookups.{CmpEqualImpliesEq, exact_pairs, exact_unsigned}
use Rattle.std.specs.BTreeMap.{is_at}
use Rattle.std.specs.Cmp.{IsTotalOrder, nat_cmp_total, unsigned_tied}
use Rattle.std.specs.Map.{lookup}
use Rattle.std.specs.Ordering.{eq_by_cmp, is_eq, ordering_then}
use Rattle.std.specs.FinMap.{get, insert, from_entries, get-insert, get_tied}
use Rattle.global_data.proofs.Entries.{get-entries, entry-written}
use Rattle.mstr_block.specs.declared.call.CallId.{CallId}
use Rattle.ring_core.specs.Machine.{AcceptedIs, Source, source_cmp, source_of, accepted_of}
use Rattle.ring_core.specs.Machine.{accepting}

pub sources_total : IsTotalOrder source_cmp
sources_total = then_total (on_total (λ (s : Source). s.0) nat_cmp_total)
    (on_total (λ (s : Source). s.1) nat_cmp_total)

pub exact_sources : CmpEqualImpliesEq source_cmp
exact_sources = exact_pairs nat_cmp nat_cmp exact_unsigned exact_unsigned

tied_both : (a b : Ordering) → is_eq (ordering_then a b) ≡ (is_eq a && is_eq b)
tied_both Less b = refl
tied_both Equal b = refl
tied_both Greater b = refl

tied_sources : (node path m p : ℕ)
    → eq_by_cmp source_cmp (node, path) (m, p) ≡ ((node == m) && (path == p))
tied_sources node path m p = tied_both (nat_cmp node m) (nat_cmp path p)
    ∙ (λ i. unsigned_tied node m i && unsigned_tied path p i)

-- what the entries have of a Request's source is what was accepted of it
pub number-read : (es : List (Source × ℕ)) (accepted : AcceptedIs) (id : CallId) (o : Option ℕ)
    → from_entries es ≡ accepted → o ≡ lookup (is_at (source_cmp (source_of id))) es
    → unwrap_or o 0 ≡ accepted_of accepted id
number-read es accepted id o is read = ap (λ (x : Option ℕ). unwrap_or x 0)
    (read ∙ sym (get-entries sources_total es (source_of id))
    ∙ ap (λ (m : AcceptedIs). get m (source_of id)) is)

-- a number that is written is the one of its source
pub number-written : (es fs : List (Source × ℕ)) (accepted : AcceptedIs) (id : CallId)
    → from_entries es ≡ accepted
    → ((q : Source) → lookup (is_at (source_cmp q)) fs
    ≡ cond (is_at (source_cmp (source_of id)) q) (Some id.seq) (lookup (is_at (source_cmp q)) es))
    → from_entries fs ≡ accepting accepted id
number-written es fs accepted id is written =
    entry-written sources_total exact_sources es fs (source_of id) id.seq written
    ∙ ap (λ (m : AcceptedIs). insert m (source_of id) id.seq) is

is_equal : (o : Ordering) → is_eq o ≡ true → o ≡ Equal
is_equal Less e = absurd (cc)
is_equal Equal e = refl
is_equal Greater e = absurd (cc)

-- after a Request is accepted its number is the greatest of its source
pub number-own : (accepted : AcceptedIs) (id : CallId)
    → accepted_of (accepting accepted id) id ≡ id.seq
number-own accepted id =
    let tied : eq_by_cmp source_cmp (source_of id) (source_of id) ≡ true =
    tied_sources id.node id.path id.node id.path
    ∙ (λ i. eq-eqb id.node id.node refl i && eq-eqb id.path id.path refl i) in
    ap (λ (o : Option ℕ). unwrap_or o 0)
    (get-insert sources_total accepted (source_of id) id.seq (source_of id)
    ∙ ap (λ (b : Bool). cond b (Some id.seq) (get accepted (source_of id))) tied)

-- and no number of a source is less than before
pub number-more : (accepted : AcceptedIs) (id other : CallId) → accepted_of accepted id < id.seq
    → accepted_of accepted other ≤ accepted_of (accepting accepted id) other
number-more accepted id other more =
    let test = eq_by_cmp source_cmp (source_of other) (source_of id) in
    let now : accepted_of (accepting accepted id) other
    ≡ unwrap_or (cond test (Some id.seq) (get accepted (source_of other))) 0 =
    ap (λ (o : Option ℕ). unwrap_or o 0)
    (get-insert sources_total accepted (source_of id) id.seq (source_of other)) in
    subst (λ (n : ℕ). accepted_of accepted other ≤ n) (sym now)
    (cond_both test (Some id.seq) (get accepted (source_of other))
    (λ (o : Option ℕ). accepted_of accepted other ≤ unwrap_or o 0)
    (λ (tied : test ≡ true).
    let same : accepted_of accepted id ≡ accepted_of accepted other =
    ap (λ (o : Option ℕ). unwrap_or o 0)
    (get_tied sources_total accepted (source_of other) (source_of id)
    (is_equal (source_cmp (source_of other) (source_of id)) tied)) in
    omega (arith, more, same))
    (λ _. omega arith))
