-- Values by the name of a call. This project's own.
use Rattle.std.specs.Prelude.{◌≡◌, ℕ, if◌then◌else◌, Option, Some}
use Rattle.std.specs.BTreeMap as tree
use Rattle.std.specs.Ordering.{nat_cmp, ordering_then}
use Rattle.std.specs.declared.cmp.Ordering.{Ordering}
use Rattle.mstr_block.specs.Call.{is_same_call}
use Rattle.mstr_block.specs.declared.call.CallId.{CallId}
use Rattle.station_laws.specs.declared.by_call.ByCall.{ByCall}

-- The order of two calls by their names: by node, then by path, then by number.
abbrev pub order_of_keys : ℕ × (ℕ × ℕ) → ℕ × (ℕ × ℕ) → Ordering
order_of_keys x y = ordering_then (nat_cmp x.0 y.0)
    (ordering_then (nat_cmp x.1.0 y.1.0) (nat_cmp x.1.1 y.1.1))

-- The value of a call.
abbrev pub value_of_call : {T : Type 0} → ByCall T → CallId → Option T
value_of_call m id = tree.get order_of_keys m.values (id.node, (id.path, id.seq))

-- One call has this value, and each other what it had.
abbrev pub Puts : {T : Type 0} → ByCall T → CallId → T → ByCall T → Type 0
Puts old id value new = (q : CallId)
    → value_of_call new q ≡ (if is_same_call id q then Some value else value_of_call old q)
