-- The read over a bridge again: what it came to is its own, and what would not be.
use Rattle.std.proofs.Common.{◌≡◌, ◌⊎◌, ℕ, zero, suc, List, [], ◌∷◌, refl, sym, ap, ◌∙◌, subst}
use Rattle.std.proofs.Common.{inl, inr, ⊎_elim, arith}
use Rattle.std.specs.Prelude.{Contains, count_by}
use Rattle.plant_types.specs.declared.net.BridgePlan.{BridgePlan}
use Rattle.mstr_block.specs.declared.call.CallId.{CallId}
use Rattle.mstr_block.specs.declared.call.MstrResult.TheVariants.{Bad, Good}
use Rattle.ring_core.specs.declared.entry.RingEntry.TheVariants.{Local}
use Rattle.controller_core.specs.declared.call.Call.{Call}
use Rattle.controller_core.specs.declared.entry.Entry.{Entry}
use Rattle.controller_core.specs.declared.entry.Entry.TheVariants.{Collect, Finish, Off, Peer}
use Rattle.bridge_relay.specs.declared.entry.BridgeEntry.{BridgeEntry}
use Rattle.bridge_relay.specs.declared.entry.BridgeEntry.TheVariants as bridge_entries
use Rattle.bridge_relay.specs.declared.entry.RelayResult.TheVariants as relay_results
use Rattle.bridge_relay.proofs.Legal.{legal_more, legal_new}
use Rattle.bridge_causes.specs.Causes.{WithoutReply}
use Rattle.reply_laws.specs.Result.{exception_result, result_of}
use Rattle.joint_history.specs.declared.joint.BridgeLog.{BridgeLog}
use Rattle.joint_history.specs.declared.joint.ControllerLog.{ControllerLog}
use Rattle.joint_history.specs.declared.joint.Joint.{Joint}
use Rattle.joint_history.specs.Effects.{does_locally}
use Rattle.joint_history.specs.JointLaws.{IsLegalBridgeLog}
use Rattle.joint_history.specs.Nets.{noted_on_rings}
use Rattle.ring_laws.proofs.Lists.{contains-count, same-refl}
use Rattle.effect_laws.specs.Answers.{NodeAnswers}
use Rattle.effect_laws.proofs.Sources.{in-none}
use Rattle.route_laws.specs.Effects.{CameWithoutPower, OffsAreNoEffects}
use Rattle.route_laws.specs.Ends.{RefusedOnWay}
use Rattle.route_laws.specs.Own.{AsAsked, CameBy, FinishesAreOwn, IsOwnFinish, IsOwnRelay}
use Rattle.route_laws.specs.Own.{IsResultOf, OfException, OfReply, OfWord, RequestsAreOwn}
use Rattle.route_laws.specs.Ways.{effects_on_way, names_on_way}
use Rattle.route_laws.proofs.Journey.{answered, asked, asks, bridge, caller, joint, onward-name}
use Rattle.route_laws.proofs.Journey.{own-name, reads, target, tells}

-- ---- what the call came to is its own

-- node 2 notes the words of the reply of node 5
finish-is-own : IsOwnFinish joint caller own-name (Good (42 ∷ 43 ∷ []))
finish-is-own = record {
  calls = asks ∷ [];
  collected = (0, omega arith, refl);
  call = asks;
  among = (0, omega arith, refl);
  named = refl;
  came = OfReply tells answered refl;
}

-- end 12 notes the reply itself
relay-is-own : IsOwnRelay joint bridge 12 onward-name (relay_results.Reply tells)
relay-is-own = record {
  old = own-name;
  route = 5 ∷ [];
  request = reads;
  sent = (1, omega arith, refl);
  came = inl (record {
    name = onward-name;
    named = (0, omega arith, refl);
    last = refl;
    to = 5;
    end = ([], refl);
    given = inl (target, (1, omega arith, refl), refl, (0, omega arith, refl));
  });
}

-- ---- a bridge that changes a byte of what it sends on

abbrev reads-more : List ℕ
reads-more = 3 ∷ 0 ∷ 0 ∷ 0 ∷ 3 ∷ []

abbrev changing : BridgeLog
changing = record bridge {
  entries =
      bridge_entries.Accept 9 own-name (5 ∷ []) reads
      ∷ bridge_entries.Forward 12 own-name onward-name (5 ∷ []) reads-more ∷ [];
}

abbrev changed : Joint
changed = record joint { bridges = changing ∷ [] }

changes-a-byte : RequestsAreOwn changed → ⊥
changes-a-byte own =
    let is = own own-name (9 ∷ 5 ∷ []) reads (inl asked) onward-name (1, omega arith, refl)
    (5 ∷ []) reads-more
    (AsAsked (inr (changing, (0, omega arith, refl), 12, own-name, (1, omega arith, refl)))) in
    let same : reads-more ≡ reads = is.request_is in
    absurd (let last : ◌≡◌ {A = ℕ} 3 2 = cc in omega (arith, last))

-- ---- a controller that notes other words than those of the reply

abbrev telling : ControllerLog
telling = record caller {
  entries = Collect (asks ∷ []) ∷ Finish own-name (Good (42 ∷ 44 ∷ [])) ∷ [];
}

abbrev told : Joint
told = record joint { controllers = telling ∷ target ∷ [] }

one-of : {X : Type 0} (x z : X) → Contains (x ∷ []) z → x ≡ z
one-of x z (zero, low, is) = is
one-of x z (suc k, low, is) = absurd (omega (arith, low))

two-of : {X : Type 0} (x y z : X) → Contains (x ∷ y ∷ []) z → (x ≡ z) ⊎ (y ≡ z)
two-of x y z (zero, low, is) = inl is
two-of x y z (suc zero, low, is) = inr is
two-of x y z (suc (suc k), low, is) = absurd (omega (arith, low))

-- the one answer to the request is that of node 5
answer-is : (to : ℕ) (name : CallId) (reply : List ℕ) → NodeAnswers told to name reads reply
    → tells ≡ reply
answer-is to name reply (inl (log, there, node, peer)) =
    ⊎_elim
    (λ (is : telling ≡ log).
    let among = subst (λ (l : ControllerLog). Contains l.entries (Peer name reads reply)) (sym is)
    peer in
    ⊎_elim
    (λ (first : Collect (asks ∷ []) ≡ Peer name reads reply). absurd cc)
    (λ (second : Finish own-name (Good (42 ∷ 44 ∷ [])) ≡ Peer name reads reply). absurd cc)
    (two-of _ _ (Peer name reads reply) among))
    (λ (is : target ≡ log).
    let among = subst (λ (l : ControllerLog). Contains l.entries (Peer name reads reply)) (sym is)
    peer in
    let same : Peer onward-name reads tells ≡ Peer name reads reply = one-of _ _ among in
    cc)
    (two-of telling target log there)
answer-is to name reply (inr (inl (log, there, node, served))) = absurd (in-none log there)
answer-is to name reply (inr (inr (op, result, there, asks', told'))) =
    let some = contains-count (does_locally name) (noted_on_rings told) (Local to name op result)
    (same-refl name) there in
    let none : count_by (does_locally name) (noted_on_rings told) ≡ 0 = refl in
    absurd (omega (arith, some, none))

no-result : IsResultOf told own-name (9 ∷ 5 ∷ []) reads (Good (42 ∷ 44 ∷ [])) → ⊥
no-result (OfReply reply by result_is) =
    let given = answer-is by.to by.name reply by.given in
    let same : Good (42 ∷ 44 ∷ []) ≡ Good (42 ∷ 43 ∷ []) =
    result_is ∙ ap (result_of reads) (sym given) in
    absurd (let last : ◌≡◌ {A = ℕ} 44 43 = cc in omega (arith, last))
no-result (OfException reply refused result_is) =
    absurd (let no' : Good (42 ∷ 44 ∷ []) ≡ exception_result refused.code = result_is in cc)
no-result (OfWord word given_up result_is) =
    absurd (let no' : Good (42 ∷ 44 ∷ []) ≡ Bad word = result_is in cc)

notes-other-words : FinishesAreOwn told → ⊥
notes-other-words own =
    let it = own telling own-name (Good (42 ∷ 44 ∷ [])) (0, omega arith, refl)
    (1, omega arith, refl) in
    ⊎_elim
    (λ (first : Collect (asks ∷ []) ≡ Collect it.calls).
    let calls : asks ∷ [] ≡ it.calls = cc in
    let call : asks ≡ it.call = one-of asks it.call
    (subst (λ (l : List Call). Contains l it.call) (sym calls) it.among) in
    no-result (subst (λ (c : Call). CameBy told own-name c.kind (Good (42 ∷ 44 ∷ []))) (sym call)
    it.came))
    (λ (second : Finish own-name (Good (42 ∷ 44 ∷ [])) ≡ Collect it.calls). absurd cc)
    (two-of _ _ (Collect it.calls) it.collected)

-- ---- the exception of a bridge

-- the call of end 12 ended with the word that nobody is there: end 9 gives back code 10
abbrev plan : BridgePlan
plan = record { left_net = 1; left = 9; right_net = 2; right = 12 }

abbrev first-entry : BridgeEntry
first-entry = bridge_entries.Accept 9 own-name (5 ∷ []) reads

abbrev second-entry : BridgeEntry
second-entry = bridge_entries.Forward 12 own-name onward-name (5 ∷ []) reads

abbrev third-entry : BridgeEntry
third-entry = bridge_entries.Finish 12 onward-name (relay_results.Bad 0x6103)

abbrev refusal : List ℕ
refusal = 131 ∷ 10 ∷ []

abbrev fourth-entry : BridgeEntry
fourth-entry = bridge_entries.Back 9 own-name refusal

abbrev refusing : BridgeLog
refusing = record {
  left = 9;
  right = 12;
  entries = first-entry ∷ second-entry ∷ third-entry ∷ fourth-entry ∷ [];
}

abbrev refused : Joint
refused = record joint { bridges = refusing ∷ [] }

refusing-legal : IsLegalBridgeLog plan refusing
refusing-legal =
    let one = legal_more plan [] first-entry (legal_new plan)
    (record { side = record { end = inl refl; here = refl }; fits = tt }) in
    let two = legal_more plan (first-entry ∷ []) second-entry one
    (record { side = record { end = inr refl; here = refl }; fits = refl }) in
    let three = legal_more plan (first-entry ∷ second-entry ∷ []) third-entry two
    (record { side = record { end = inr refl; here = refl }; fits = refl }) in (
      refl,
      refl,
      legal_more plan (first-entry ∷ second-entry ∷ third-entry ∷ []) fourth-entry three
          (record { side = record { end = inl refl; here = refl }; fits = refl }),
    )

refused-on-way : RefusedOnWay refused (names_on_way refused own-name) (9 ∷ 5 ∷ []) reads refusal
refused-on-way = record {
  name = own-name;
  named = (0, omega arith, refl);
  plan = plan;
  log = refusing;
  there = (0, omega arith, refl);
  legal = refusing-legal;
  side = 9;
  way = [];
  rest = 5 ∷ [];
  on_way = refl;
  before = first-entry ∷ second-entry ∷ third-entry ∷ [];
  after = [];
  returned = refl;
  code = 10;
  cause = WithoutReply (record {
    onward = onward-name;
    word = 0x6103;
    accepted = (0, omega arith, refl);
    sent = (1, omega arith, refl);
    ended = (2, omega arith, refl);
    code_is = refl;
  });
  is = refl;
}

-- so node 2 notes 300a
refused-is-own : IsResultOf refused own-name (9 ∷ 5 ∷ []) reads (Bad 0x300a)
unfolding refused-on-way
refused-is-own = OfException refusal refused-on-way refl

-- ---- a request that came without power

abbrev dark-target : List Entry → ControllerLog
dark-target more = record { node = 5; entries = Off onward-name reads ∷ more }

abbrev dark : List Entry → Joint
dark more = record joint { controllers = caller ∷ dark-target more ∷ [] }

came-dark : (more : List Entry) → CameWithoutPower (dark more) onward-name
came-dark more =
    (5, reads, (dark-target more, (1, omega arith, refl), refl, (0, omega arith, refl)))

-- it took no effect
no-effect : effects_on_way (dark []) own-name ≡ 0
no-effect = refl

-- and may take none later
answers-without-power : OffsAreNoEffects (dark (Peer onward-name reads tells ∷ [])) → ⊥
answers-without-power none =
    let none-at-all : ◌≡◌ {A = ℕ} 1 0 = none own-name onward-name (1, omega arith, refl)
    (came-dark (Peer onward-name reads tells ∷ [])) in
    omega (arith, none-at-all)
