-- What a bridge of a plant sends on and gives back comes from what its list tells before it.
use Rattle.std.proofs.Common.{◌≡◌, ℕ, ◌+◌, ◌<◌, ◌≤◌, Bool, true, false, cond, List, [], ◌∷◌, ◌++◌}
use Rattle.std.proofs.Common.{Some, None, refl, sym, ap, subst, ⊎_elim, arith}
use Rattle.std.specs.Prelude.{Contains, slice_index, nat_le, nat_lt, length, ◌==◌, ◌||◌}
use Rattle.std.specs.Prelude.{if◌then◌else◌}
use Rattle.std.specs.List.{All, AllZip}
use Rattle.std.proofs.lemmas.Bool.{cases_lt, eq-eqb, le-leb, lt-ltb}
use Rattle.std.proofs.lemmas.List.Elements.{All-head, All-tail, Contains-append_left}
use Rattle.std.proofs.lemmas.List.Elements.{Contains-append_right}
use Rattle.plant_types.specs.declared.net.BridgePlan.{BridgePlan}
use Rattle.plant_types.specs.declared.plan.Plant.{Plant}
use Rattle.plant_types.specs.Plans.{IsBridgeOf, IsBridgePlan, IsPlant}
use Rattle.modbus_pdu.specs.Exceptions.{illegal_function}
use Rattle.modbus_pdu.specs.Spelling.{exception_code}
use Rattle.mstr_block.specs.declared.call.CallId.{CallId}
use Rattle.bridge_relay.specs.declared.entry.BridgeEntry.{BridgeEntry}
use Rattle.bridge_relay.specs.declared.entry.BridgeEntry.TheVariants.{Accept, Back, Forward}
use Rattle.bridge_relay.specs.Kept.{code_between}
use Rattle.bridge_relay.specs.Laws.{end_after}
use Rattle.bridge_relay.specs.Legal.{IsBridgeHistory}
use Rattle.bridge_relay.specs.Machine.{EndIs, busy_code, exception_to, far_side, no_answer_code}
use Rattle.bridge_relay.specs.Machine.{no_path_code, waiting_limit}
use Rattle.bridge_causes.specs.Causes.{AtOnce, BackCause, RefusalCause, Unsent, WithoutReply}
use Rattle.bridge_causes.proofs.Behind.{backs-follow, forwards-follow}
use Rattle.joint_history.specs.declared.joint.BridgeLog.{BridgeLog}
use Rattle.joint_history.specs.declared.joint.Joint.{Joint}
use Rattle.joint_history.specs.JointLaws.{IsLegalBridgeLog, IsLegalJoint}
use Rattle.reply_laws.specs.Result.{exception_result, function_in, or_good, result_of, told_bytes}
use Rattle.effect_laws.specs.Success.{is_exception_reply}
use Rattle.effect_laws.proofs.Sources.{first-or-behind, here, in-none}

-- ---- exceptions

is-exception : (first code : ℕ) → 128 ≤ first → is_exception_reply (first ∷ code ∷ []) ≡ true
is-exception first code high = le-leb 128 first high

exception-high : (function : ℕ) → 128 ≤ exception_code function
exception-high function = ⊎_elim
    (λ (low : function < 128).
    subst (λ (b : Bool). 128 ≤ cond b (function + 128) function) (sym (lt-ltb function 128 low))
    (omega arith))
    (λ (high : 128 ≤ function). at (nat_lt function 128) high)
    (cases_lt function 128)
  where
    at : (b : Bool) → 128 ≤ function → 128 ≤ cond b (function + 128) function
    at true high = omega arith
    at false high = high

pub exceptions-are : (request : List ℕ) (code : ℕ)
    → is_exception_reply (exception_to request code) ≡ true
exceptions-are request code =
    is-exception (exception_code (slice_index request 0)) code
    (exception-high (slice_index request 0))

-- what such an exception comes to
pub exception-result : (request : List ℕ) (code : ℕ)
    → result_of request (exception_to request code) ≡ exception_result code
exception-result request code =
    ap (λ b. or_good (if b then Some code else None)
    (told_bytes request (exception_to request code)))
    (eq-eqb (exception_code (function_in request)) (exception_code (function_in request)) refl)

-- a bridge gives no exception the code 0
at-once-some : (across : ℕ) (far : EndIs) (route : List ℕ) (code : ℕ)
    → code_between across far route ≡ Some code → 1 ≤ code
at-once-some across far [] code is =
    let same : illegal_function ≡ code = cc in omega (arith, same)
at-once-some across far (next ∷ rest) code is =
    at (far.gone || (next == across)) (nat_le waiting_limit (length far.to_send)) is
  where
    at : (b c : Bool)
        → (if b then Some no_path_code else if c then Some busy_code else None) ≡ Some code
        → 1 ≤ code
    at true c is' = let same : no_path_code ≡ code = cc in omega (arith, same)
    at false true is' = let same : busy_code ≡ code = cc in omega (arith, same)
    at false false is' = absurd cc

word-some : (b : Bool) → 1 ≤ (if b then no_path_code else no_answer_code)
word-some true = omega arith
word-some false = omega arith

pub cause-some : (plan : BridgePlan) (before : List BridgeEntry) (side across : ℕ) (id : CallId)
    (route request : List ℕ) (code : ℕ)
    → RefusalCause plan before side across id route request code → 1 ≤ code
cause-some plan before side across id route request code (AtOnce from) =
    at-once-some across (end_after plan from.past across) route code from.code_is
cause-some plan before side across id route request code (Unsent from) =
    let is = from.code_is in omega (arith, is)
cause-some plan before side across id route request code (WithoutReply from) =
    let is = from.code_is in
    let some = word-some (from.word == 0x6103) in
    omega (arith, is, some)

-- ---- places in lists

-- what a list has stands behind a front of it
pub record Placed {X : Type 0} (xs : List X) (x : X) : Type 0 where
  pub before : List X
  pub after : List X
  pub is : xs ≡ before ++ x ∷ after

pub placed-in : {X : Type 0} (xs : List X) (x : X) → Contains xs x → Placed xs x
placed-in [] x there = absurd (in-none x there)
placed-in (y ∷ xs) x there =
    ⊎_elim
    (λ (same : y ≡ x).
    record { before = []; after = xs; is = ap (λ z. z ∷ xs) same })
    (λ (more : Contains xs x).
    let rest = placed-in xs x more in
    record { before = y ∷ rest.before; after = rest.after; is = ap (λ l. y ∷ l) rest.is })
    (first-or-behind y xs x there)

-- a front of a list has nothing else
pub of-front : {X : Type 0} (xs before : List X) (x : X) (after : List X) (y : X)
    → xs ≡ before ++ x ∷ after → Contains before y → Contains xs y
of-front xs before x after y is there =
    subst (λ l. Contains l y) (sym is) (Contains-append_left before (x ∷ after) y there)

-- a Request that the bridge answered itself was accepted
pub cause-accepted : (plan : BridgePlan) (before : List BridgeEntry) (side across : ℕ)
    (id : CallId) (route request : List ℕ) (code : ℕ)
    → RefusalCause plan before side across id route request code
    → Contains before (Accept side id route request)
cause-accepted plan before side across id route request code (AtOnce from) =
    let e = Accept side id route request in
    subst (λ (l : List BridgeEntry). Contains l e) (sym from.accepted)
    (Contains-append_right from.past (e ∷ from.rest) e (here e from.rest))
cause-accepted plan before side across id route request code (Unsent from) =
    of-front before from.past _ from.rest _ from.gone from.accepted
cause-accepted plan before side across id route request code (WithoutReply from) = from.accepted

-- ---- the plans of bridges

-- the plan of a list of a plant's bridge
pub record PlannedBy (log : BridgeLog) : Type 0 where
  pub plan : BridgePlan
  pub sound : IsBridgePlan plan
  pub legal : IsLegalBridgeLog plan log

planned-by : (plant : Plant) (plans : List BridgePlan) (logs : List BridgeLog) (log : BridgeLog)
    → All (IsBridgeOf plant) plans → AllZip IsLegalBridgeLog plans logs → Contains logs log
    → PlannedBy log
planned-by plant [] [] log all zip there = absurd (in-none log there)
planned-by plant [] (x ∷ logs) log all zip there = absurd zip
planned-by plant (plan ∷ plans) [] log all zip there = absurd zip
planned-by plant (plan ∷ plans) (x ∷ logs) log all zip there =
    ⊎_elim
    (λ (same : x ≡ log). record {
      plan = plan;
      sound = (All-head (IsBridgeOf plant) plan plans all).plan;
      legal = subst (IsLegalBridgeLog plan) same zip.0;
    })
    (λ (more : Contains logs log).
    planned-by plant plans logs log (All-tail (IsBridgeOf plant) plan plans all) zip.1 more)
    (first-or-behind x logs log there)

pub plan-of : (plant : Plant) (scans : ℕ) (joint : Joint) (log : BridgeLog) → IsPlant plant
    → IsLegalJoint plant scans joint → Contains joint.bridges log → PlannedBy log
plan-of plant scans joint log is legal there =
    planned-by plant plant.bridges joint.bridges log is.bridges legal.bridges there

-- ---- what stands before

-- a Request that an end sent on the end across accepted
pub sent-accepts : (plan : BridgePlan) (list : List BridgeEntry) (side : ℕ) (old id : CallId)
    (route request : List ℕ) → IsBridgePlan plan → IsBridgeHistory plan list
    → Contains list (Forward side old id route request)
    → Contains list (Accept (far_side plan side) old route request)
sent-accepts plan list side old id route request sound legal there =
    let at = placed-in list (Forward side old id route request) there in
    of-front list at.before _ at.after _ at.is
    (forwards-follow plan list at.before at.after side old id route request sound legal at.is)

-- a reply that was given back has a cause
pub record Caused (plan : BridgePlan) (list : List BridgeEntry) (side : ℕ) (id : CallId)
    (reply : List ℕ) : Type 0 where
  pub before : List BridgeEntry
  pub after : List BridgeEntry
  pub is : list ≡ before ++ Back side id reply ∷ after
  pub cause : BackCause plan before side (far_side plan side) id reply

pub back-caused : (plan : BridgePlan) (list : List BridgeEntry) (side : ℕ) (id : CallId)
    (reply : List ℕ) → IsBridgePlan plan → IsBridgeHistory plan list
    → Contains list (Back side id reply) → Caused plan list side id reply
back-caused plan list side id reply sound legal there =
    let at = placed-in list (Back side id reply) there in
    record {
      before = at.before;
      after = at.after;
      is = at.is;
      cause = backs-follow plan list at.before at.after side id reply sound legal at.is;
    }
