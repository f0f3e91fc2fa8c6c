-- What end 9 of a bridge gives back, worked by hand: node 2 read two registers of node 5 across it.
use Rattle.std.proofs.Common.{◌≡◌, ◌⊎◌, ℕ, zero, suc, List, [], ◌∷◌, ◌++◌, Option, Some, None}
use Rattle.std.proofs.Common.{refl, sym, subst, inl, inr, ⊎_elim, arith}
use Rattle.std.specs.Prelude.{Contains}
use Rattle.plant_types.specs.declared.net.BridgePlan.{BridgePlan}
use Rattle.mstr_block.specs.declared.call.CallId.{CallId}
use Rattle.bridge_relay.specs.declared.entry.BridgeEntry.{BridgeEntry}
use Rattle.bridge_relay.specs.declared.entry.BridgeEntry.TheVariants.{Accept, Forward, Finish}
use Rattle.bridge_relay.specs.declared.entry.BridgeEntry.TheVariants.{Gone}
use Rattle.bridge_relay.specs.declared.entry.RelayResult.TheVariants.{Reply, Bad}
use Rattle.bridge_relay.specs.Kept.{code_between}
use Rattle.bridge_relay.specs.Laws.{end_after}
use Rattle.bridge_relay.specs.Machine.{exception_to}
use Rattle.bridge_causes.specs.Causes.{AtOnce, BackCause, OfCall, OfRefusal, RefusalCause, Unsent}
use Rattle.bridge_causes.specs.Causes.{WithoutReply}

abbrev plan : BridgePlan
plan = record { left_net = 1; left = 9; right_net = 2; right = 12 }

abbrev own-name : CallId
own-name = record { node = 2; path = 1; seq = 1 }

abbrev onward-name : CallId
onward-name = record { node = 12; path = 1; seq = 1 }

abbrev reads : List ℕ
reads = 3 ∷ 0 ∷ 0 ∷ 0 ∷ 2 ∷ []

abbrev tells : List ℕ
tells = 3 ∷ 4 ∷ 0 ∷ 42 ∷ 0 ∷ 43 ∷ []

abbrev first : BridgeEntry
first = Accept 9 own-name (5 ∷ []) reads

abbrev second : BridgeEntry
second = Forward 12 own-name onward-name (5 ∷ []) reads

-- ---- the reply that end 9 gives back is that of the call which end 12 made
abbrev third : BridgeEntry
third = Finish 12 onward-name (Reply tells)

abbrev up-to-back : List BridgeEntry
up-to-back = first ∷ second ∷ third ∷ []

back-is-of-call : BackCause plan up-to-back 9 12 own-name tells
back-is-of-call = OfCall (record {
  onward = onward-name;
  route = 5 ∷ [];
  request = reads;
  accepted = (0, omega arith, refl);
  sent = (1, omega arith, refl);
  ended = (2, omega arith, refl);
})

one-of-three : (x y z e : BridgeEntry) → Contains (x ∷ y ∷ z ∷ []) e
    → (x ≡ e) ⊎ ((y ≡ e) ⊎ (z ≡ e))
one-of-three x y z e (zero, low, is) = inl is
one-of-three x y z e (suc zero, low, is) = inr (inl is)
one-of-three x y z e (suc (suc zero), low, is) = inr (inr is)
one-of-three x y z e (suc (suc (suc k)), low, is) = absurd (omega (arith, low))

-- with a byte of it changed it has no cause
abbrev changed : List ℕ
changed = 3 ∷ 4 ∷ 0 ∷ 42 ∷ 0 ∷ 44 ∷ []

changed-has-none : BackCause plan up-to-back 9 12 own-name changed → ⊥
changed-has-none (OfCall from) =
    ⊎_elim
    (λ (is : first ≡ Finish 12 from.onward (Reply changed)). absurd cc)
    (λ (later : (second ≡ Finish 12 from.onward (Reply changed))
    ⊎ (third ≡ Finish 12 from.onward (Reply changed))).
    ⊎_elim
    (λ (is : second ≡ Finish 12 from.onward (Reply changed)). absurd cc)
    (λ (is : third ≡ Finish 12 from.onward (Reply changed)).
    absurd (let same : ◌≡◌ {A = ℕ} 43 44 = cc in omega (arith, same)))
    later)
    (one-of-three first second third _ from.ended)
changed-has-none (OfRefusal from) =
    absurd (let no' : changed ≡ exception_to from.request from.code = from.reply_is in cc)

-- nor has it one where the Request was accepted alone
alone-is-it : (e : BridgeEntry) → Contains (first ∷ []) e → e ≡ first
alone-is-it e (zero, low, is) = sym is
alone-is-it e (suc k, low, is) = absurd (omega (arith, low))

back-has-none : BackCause plan (first ∷ []) 9 12 own-name tells → ⊥
back-has-none (OfCall from) =
    absurd (let no' : Forward 12 own-name from.onward from.route from.request ≡ first =
    alone-is-it _ from.sent in cc)
back-has-none (OfRefusal from) =
    absurd (let no' : tells ≡ exception_to from.request from.code = from.reply_is in cc)

-- ---- exceptions that the bridge makes

-- code 11: the call across ended with the word 6101
no-answer : RefusalCause plan (first ∷ second ∷ Finish 12 onward-name (Bad 0x6101) ∷ []) 9 12
    own-name (5 ∷ []) reads 11
no-answer = WithoutReply (record {
  onward = onward-name;
  word = 0x6101;
  accepted = (0, omega arith, refl);
  sent = (1, omega arith, refl);
  ended = (2, omega arith, refl);
  code_is = refl;
})

-- code 10: end 12 left for good while the Request waited
left-waiting : RefusalCause plan (first ∷ Gone 12 ∷ []) 9 12 own-name (5 ∷ []) reads 10
left-waiting = Unsent (record {
  past = first ∷ [];
  rest = [];
  accepted = (0, omega arith, refl);
  waits = (0, omega arith, refl);
  gone = refl;
  code_is = refl;
})

-- code 1: the Request goes no further than end 9
goes-no-further : RefusalCause plan (Accept 9 own-name [] reads ∷ []) 9 12 own-name [] reads 1
goes-no-further = AtOnce (record { past = []; rest = []; accepted = refl; code_is = refl })

-- code 10 has no cause where the Request was accepted, and end 12 is there
none-behind : (past rest : List BridgeEntry) (e : BridgeEntry) → first ∷ [] ≡ past ++ e ∷ rest
    → past ≡ []
none-behind [] rest e is = refl
none-behind (x ∷ []) rest e is = absurd cc
none-behind (x ∷ y ∷ past) rest e is = absurd cc

is-there : RefusalCause plan (first ∷ []) 9 12 own-name (5 ∷ []) reads 10 → ⊥
is-there (AtOnce from) =
    let empty = none-behind from.past from.rest first from.accepted in
    absurd (let no' : ◌≡◌ {A = Option ℕ} None (Some 10) =
    subst (λ (past : List BridgeEntry). code_between 12 (end_after plan past 12) (5 ∷ []) ≡ Some 10)
    empty from.code_is in cc)
is-there (Unsent from) =
    let empty = none-behind from.past from.rest (Gone 12) from.gone in
    absurd (let no' : first ∷ [] ≡ Gone 12 ∷ from.rest =
    subst (λ (past : List BridgeEntry). first ∷ [] ≡ past ++ Gone 12 ∷ from.rest) empty from.gone in
    cc)
is-there (WithoutReply from) =
    absurd (let no' : Forward 12 own-name from.onward (5 ∷ []) reads ≡ first =
    alone-is-it _ from.sent in cc)
