-- The paths of an end and those of its node, as a call goes out on both.
use Rattle.std.proofs.Common.{◌≡◌, ℕ, ◌-◌, ◌==◌, true, false, cond, List, [], ◌∷◌, ◌++◌, Option}
use Rattle.std.proofs.Common.{Some, None, length, fold, refl, sym, ap, ◌∙◌, subst, inl, inr, arith}
use Rattle.std.proofs.Common.{eq-eqb, get_or-set_same, get_or-set_other, Bool}
use Rattle.std.proofs.lemmas.Bool.{cases_eq, cond-true, cond-false, ne_eqb}
use Rattle.std.proofs.lemmas.List.{length-set}
use Rattle.plant_types.specs.declared.net.BridgePlan.{BridgePlan}
use Rattle.mstr_block.specs.declared.call.CallId.{CallId}
use Rattle.bridge_relay.specs.declared.entry.BridgeEntry.{BridgeEntry}
use Rattle.bridge_relay.specs.declared.entry.BridgeEntry.TheVariants.{Accept, Forward, Finish}
use Rattle.bridge_relay.specs.declared.entry.BridgeEntry.TheVariants.{Back, Gone}
use Rattle.bridge_relay.specs.Machine.{EndIs, RelayIs, RelayPath, side_of, new_relay, relay_after}
use Rattle.bridge_relay.specs.Machine.{relay_path, relay_step, unused_path}
use Rattle.bridge_relay.specs.Kept.{code_between, far_after, near_accepted, near_after}
use Rattle.bridge_relay.specs.Laws.{end_after}
use Rattle.bridge_relay.proofs.Steps.{step_left, step_right}
use Rattle.ring_core.specs.Legal.{IsPath}
use Rattle.ring_core.specs.declared.frame.FrameKind.{FrameKind}
use Rattle.ring_core.specs.declared.frame.FrameKind.TheVariants.{Request, Reply}
use Rattle.ring_core.specs.declared.frame.Frame.{Frame}
use Rattle.ring_core.specs.declared.entry.RingEntry.{RingEntry}
use Rattle.ring_core.specs.declared.entry.RingEntry.TheVariants.{Post, Take}
use Rattle.tied_lists.specs.Waits.{last_number, number_posted, waiting, waits_posted, waits_taken}
use Rattle.tied_lists.proofs.Paths.{number-push, waiting-push}
use Rattle.bridge_port.specs.EndTurns.{EndPathsAgree, number_out, number_waited}
use Rattle.bridge_port.proofs.Across.{far-stays}
use Rattle.bridge_port.proofs.Waited.{agree-still}

-- ---- an entry of the node that is of no own call

pub agree-taken : (end : EndIs) (b : List RingEntry) (n : ℕ) (f : Frame) → f.kind ≡ Request
    → EndPathsAgree end b → EndPathsAgree end (b ++ Take n f ∷ [])
agree-taken end b n f kind k = agree-still end b (Take n f)
    (λ p now. ap (λ (k : FrameKind). waits_taken p now k f) kind) (λ p now. refl) k

pub agree-replied : (end : EndIs) (b : List RingEntry) (n : ℕ) (g : Frame) → g.kind ≡ Reply
    → EndPathsAgree end b → EndPathsAgree end (b ++ Post n g ∷ [])
agree-replied end b n g kind k = agree-still end b (Post n g)
    (λ p now. ap (λ (k : FrameKind). waits_posted p now k g) kind)
    (λ p now. ap (λ (k : FrameKind). number_posted p now k g) kind) k

-- ---- how many paths an end has

accepted-size : (near : EndIs) (id : CallId) (route request : List ℕ) (code : Option ℕ)
    → length (near_accepted near (record { id = id; route = route; request = request }) code).paths
    ≡ length near.paths
accepted-size near id route request None = refl
accepted-size near id route request (Some code) = refl

near-size : (across : ℕ) (near far : EndIs) (e : BridgeEntry)
    → length (near_after across near far e).paths ≡ length near.paths
near-size across near far (Accept side id route request) =
    accepted-size near id route request (code_between across far route)
near-size across near far (Forward side old id route request) = length-set _ _ _
near-size across near far (Finish side id result) = length-set _ _ _
near-size across near far (Back side id reply) = refl
near-size across near far (Gone side) = refl

far-size : (across : ℕ) (near far : EndIs) (e : BridgeEntry)
    → length (far_after across near far e).paths ≡ length far.paths
far-size across near far e = ap length (far-stays across near far e).paths

record HaveFour (relay : RelayIs) : Type 0 where
  pub left : length relay.left.paths ≡ 4
  pub right : length relay.right.paths ≡ 4

four-step : (plan : BridgePlan) (relay : RelayIs) (e : BridgeEntry) → HaveFour relay
    → HaveFour (relay_step plan relay e)
four-step plan relay e four = elim (cases_eq (side_of e) plan.left) [
  | inl is ↦ subst HaveFour (sym (step_left plan relay.left relay.right e is)) (record {
    left = near-size plan.right relay.left relay.right e ∙ four.left;
    right = far-size plan.right relay.left relay.right e ∙ four.right;
  })
  | inr is ↦ subst HaveFour (sym (step_right plan relay.left relay.right e is)) (record {
    left = far-size plan.left relay.right relay.left e ∙ four.left;
    right = near-size plan.left relay.right relay.left e ∙ four.right;
  })
]

four-after : (plan : BridgePlan) (relay : RelayIs) (list : List BridgeEntry) → HaveFour relay
    → HaveFour (fold (relay_step plan) relay list)
four-after plan relay [] four = four
four-after plan relay (e ∷ list) four =
    four-after plan (relay_step plan relay e) list (four-step plan relay e four)

pub have-four : (plan : BridgePlan) (list : List BridgeEntry) (n : ℕ)
    → length (end_after plan list n).paths ≡ 4
have-four plan list n = by (n == plan.left) (relay_after plan list)
    (four-after plan new_relay list (record { left = refl; right = refl }))
  where
    by : (b : Bool) (r : RelayIs) → HaveFour r → length (cond b r.left r.right).paths ≡ 4
    by true r four = four.left
    by false r four = four.right

-- ---- a call that goes out

-- a path of an end after a Forward: its number and its call there, and the others
pub record WentOut (near near' : EndIs) (id : CallId) : Type 0 where
  pub number : (relay_path near' id.path).last ≡ id.seq
  pub out : number_out (relay_path near' id.path) ≡ Some id.seq
  pub others : (p : ℕ) → IsPath p → (p ≡ id.path → ⊥)
      → relay_path near' p ≡ relay_path near p

pub went-out : (across : ℕ) (near far : EndIs) (side : ℕ) (old id : CallId) (route request : List ℕ)
    → IsPath id.path → length near.paths ≡ 4
    → WentOut near (near_after across near far (Forward side old id route request)) id
went-out across near far side old id route request is size =
    let low = is.0 in
    let high = is.1 in
    let now = get_or-set_same near.paths (id.path - 1) _ unused_path
    (omega (arith, size, high, low)) in
    record {
      number = ap (λ (x : RelayPath). x.last) now;
      out = ap number_out now;
      others = λ p is_p other. get_or-set_other near.paths (id.path - 1) (p - 1) _ unused_path
          (λ same. other (let least = is_p.0 in omega (arith, same, least, low)));
    }

pub agree-called : (end end' : EndIs) (b : List RingEntry) (n : ℕ) (f : Frame) → f.kind ≡ Request
    → WentOut end end' f.id → EndPathsAgree end b → EndPathsAgree end' (b ++ Post n f ∷ [])
agree-called end end' b n f kind w k =
    let q = f.id.path in
    let waits : (p : ℕ)
    → waiting p (b ++ Post n f ∷ []) ≡ cond (q == p) (Some f) (waiting p b) =
    λ p. waiting-push p b (Post n f)
    ∙ ap (λ (k : FrameKind). waits_posted p (waiting p b) k f) kind in
    let numbers : (p : ℕ)
    → last_number p (b ++ Post n f ∷ []) ≡ cond (q == p) f.id.seq (last_number p b) =
    λ p. number-push p b (Post n f)
    ∙ ap (λ (k : FrameKind). number_posted p (last_number p b) k f) kind in
    record {
      waits = λ p is. ap number_waited (waits p) ∙ elim (cases_eq p q) [
        | inl same ↦
            ap number_waited (cond-true (q == p) (Some f) (waiting p b) (eq-eqb q p (sym same)))
            ∙ (sym w.out ∙ ap (λ (m : ℕ). number_out (relay_path end' m)) (sym same))
        | inr other ↦
            ap number_waited
            (cond-false (q == p) (Some f) (waiting p b) (ne_eqb q p (λ x. other (sym x))))
            ∙ (k.waits p is ∙ ap number_out (sym (w.others p is other)))
      ];
      numbers = λ p is. numbers p ∙ elim (cases_eq p q) [
        | inl same ↦
            cond-true (q == p) f.id.seq (last_number p b) (eq-eqb q p (sym same))
            ∙ (sym w.number ∙ ap (λ (m : ℕ). (relay_path end' m).last) (sym same))
        | inr other ↦
            cond-false (q == p) f.id.seq (last_number p b) (ne_eqb q p (λ x. other (sym x)))
            ∙ (k.numbers p is ∙ ap (λ (x : RelayPath). x.last) (sym (w.others p is other)))
      ];
    }
