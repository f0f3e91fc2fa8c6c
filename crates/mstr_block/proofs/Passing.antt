-- What a start that passed its tests may move and ask for.
use Rattle.std.proofs.Common.{◌≡◌, ℕ, ◌+◌, ◌-◌, ◌≤◌, Bool, true, false, Option, Some, None, Ok, Err}
use Rattle.std.proofs.Common.{List, length, refl, sym, subst, arith}
use Rattle.std.specs.Prelude.{if◌then◌else◌, ◌==◌, ◌||◌, not, nat_le, nat_lt}
use Rattle.std.proofs.lemmas.Bool.{and_parts, or_parts, not-false, leb-true, ltb-false, eqb-false}
use Rattle.mstr_block.specs.declared.control.Control.{Control}
use Rattle.mstr_block.specs.declared.operation.Operation.{Operation}
use Rattle.mstr_block.specs.declared.operation.Operation.TheVariants as op
use Rattle.plant_types.specs.Limits.{is_up_to}
use Rattle.plant_types.specs.Reference.{most_references}
use Rattle.plant_types.specs.Words.{statistics_words}
use Rattle.mstr_block.specs.Operations.{operation_of}
use Rattle.mstr_block.specs.Control.{has_bad_length, has_bad_start, has_bad_end, has_small_area}
use Rattle.mstr_block.specs.Control.{has_bad_route, asks_itself, first_failing}
use Rattle.mstr_block.specs.Control.{tests_of, tests_passed, checked, start_of, ask_of}
use Rattle.mstr_block.specs.Solve.{kept_of}
use Rattle.mstr_block.specs.Running.{AreRegisters, AreStatistics, AreGlobal, MayBeAsked, CanMove}
use Rattle.mstr_block.specs.Running.{AsksFor}
use Rattle.mstr_block.proofs.Hops.{node-within, route-from}

-- all tests of a start passed
pub record Passes (routed : Bool) (own : ℕ) (operation : Operation) (control : Control)
    : Type 0 where
  pub long : has_bad_length operation control ≡ false
  pub start : has_bad_start operation control ≡ false
  pub last : has_bad_end operation control ≡ false
  pub route : has_bad_route routed operation control ≡ false
  pub self : asks_itself own operation control ≡ false

not_bad : {X : Type 0} (word : ℕ) (operation : Operation) → Err word ≡ Ok operation → X
not_bad word operation e = absurd (cc)

-- one test
pass : (asked operation : Operation) (fails : Bool) (word : ℕ) (rest : Option ℕ)
    → tests_passed asked (if fails then Some word else rest) ≡ Ok operation
    → (fails ≡ false) × (tests_passed asked rest ≡ Ok operation)
pass asked operation true word rest e = not_bad word operation e
pass asked operation false word rest e = (refl, e)

same : (asked operation : Operation) → tests_passed asked None ≡ Ok operation → asked ≡ operation
same asked operation e = cc

pass_all : (routed : Bool) (own room : ℕ) (control : Control) (asked operation : Operation)
    → tests_passed asked (first_failing (tests_of routed own room asked control)) ≡ Ok operation
    → Passes routed own operation control
pass_all routed own room control asked operation e =
    let one = pass asked operation (has_bad_length asked control) _ _ e in
    let two = pass asked operation (has_bad_start asked control) _ _ one.1 in
    let three = pass asked operation (has_bad_end asked control) _ _ two.1 in
    let four = pass asked operation (has_small_area room asked control) _ _ three.1 in
    let five = pass asked operation (has_bad_route routed asked control) _ _ four.1 in
    let six = pass asked operation (asks_itself own asked control) _ _ five.1 in
    subst (λ (o : Operation). Passes routed own o control) (same asked operation six.1) (record {
      long = one.0;
      start = two.0;
      last = three.0;
      route = five.0;
      self = six.0;
    })

pass_known : (routed : Bool) (own room : ℕ) (control : Control) (o : Option Operation)
    (operation : Operation) → checked routed own room control o ≡ Ok operation
    → Passes routed own operation control
pass_known routed own room control None operation e = not_bad _ operation e
pass_known routed own room control (Some asked) operation e =
    pass_all routed own room control asked operation e

pub passes : (routed : Bool) (own room : ℕ) (control : Control) (operation : Operation)
    → start_of routed own room control ≡ Ok operation → Passes routed own operation control
passes routed own room control operation e =
    pass_known routed own room control (operation_of control.code) operation e

-- a length within its limits
within : (most n : ℕ) → not (is_up_to most n) ≡ false → (1 ≤ n) × (n ≤ most)
within most n e =
    let parts = and_parts (nat_le 1 n) (nat_le n most) (not-false _ e) in
    (leb-true 1 n parts.0, leb-true n most parts.1)

not_zero : (n : ℕ) → (n == 0) ≡ false → 1 ≤ n
not_zero n e = let apart = eqb-false n 0 e in omega arith

registers : (start count : ℕ) → not (is_up_to 100 count) ≡ false → ((start == 0) || false) ≡ false
    → (nat_lt most_references (start + count - 1) || false) ≡ false → AreRegisters start count
registers start count long first last =
    let few = within 100 count long in
    let some = not_zero start (or_parts (start == 0) false first).0 in
    let end = ltb-false most_references (start + count - 1)
    (or_parts (nat_lt most_references (start + count - 1)) false last).0 in
    (some, few.0, few.1, omega arith)

statistics : (start count : ℕ) → not (is_up_to 20 count) ≡ false
    → nat_lt statistics_words (start + count) ≡ false → AreStatistics start count
statistics start count long last =
    ((within 20 count long).0, ltb-false statistics_words (start + count) last)

pub can_move : (routed : Bool) (own : ℕ) (operation : Operation) (control : Control)
    → Passes routed own operation control → CanMove operation control.start control.length
can_move routed own op.WriteData control p =
    registers control.start control.length p.long p.start p.last
can_move routed own op.ReadData control p =
    registers control.start control.length p.long p.start p.last
can_move routed own op.LocalStatistics control p =
    statistics control.start control.length p.long p.last
can_move routed own op.ClearLocal control p = tt
can_move routed own op.WriteGlobal control p = within 32 control.length p.long
can_move routed own op.ReadGlobal control p = within 32 control.length p.long
can_move routed own op.RemoteStatistics control p =
    statistics control.start control.length p.long p.last
can_move routed own op.ClearRemote control p = tt

pub is_ask : (routed : Bool) (own : ℕ) (operation : Operation) (control : Control)
    (words : List ℕ) → Passes routed own operation control → length words ≡ control.length
    → MayBeAsked routed own (ask_of operation control words)
is_ask routed own op.WriteData control words p long = (
  route-from routed own control p.route p.self,
  subst (λ (n : ℕ). AreRegisters control.start n) (sym long)
      (can_move routed own op.WriteData control p),
)
is_ask routed own op.ReadData control words p long =
    (route-from routed own control p.route p.self, can_move routed own op.ReadData control p)
is_ask routed own op.LocalStatistics control words p long = tt
is_ask routed own op.ClearLocal control words p long = tt
is_ask routed own op.WriteGlobal control words p long =
    subst AreGlobal (sym long) (can_move routed own op.WriteGlobal control p)
is_ask routed own op.ReadGlobal control words p long =
    (node-within control false p.route, can_move routed own op.ReadGlobal control p)
is_ask routed own op.RemoteStatistics control words p long =
    route-from routed own control p.route p.self
is_ask routed own op.ClearRemote control words p long =
    route-from routed own control p.route p.self

pub asks_for : (operation : Operation) (control : Control) (words : List ℕ)
    → length words ≡ control.length
    → AsksFor (kept_of operation control) (ask_of operation control words)
asks_for op.WriteData control words long = (refl, refl, sym long)
asks_for op.ReadData control words long = (refl, refl, refl)
asks_for op.LocalStatistics control words long = refl
asks_for op.ClearLocal control words long = refl
asks_for op.WriteGlobal control words long = (refl, sym long)
asks_for op.ReadGlobal control words long = (refl, refl)
asks_for op.RemoteStatistics control words long = refl
asks_for op.ClearRemote control words long = refl
