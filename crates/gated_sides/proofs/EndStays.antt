-- What a stay behind the bridge's gate finds and adds.
use Rattle.std.proofs.Common.{◌≡◌, ℕ, ◌-◌, ◌==◌, ◌&&◌, Bool, true, false, List, [], ◌++◌, filter}
use Rattle.std.proofs.Common.{All, Result, Ok, Err, MatchResult, Option, Some, None, option_to_list}
use Rattle.std.proofs.Common.{option_map, get_or, refl, sym, ap, ◌∙◌, subst, append-nil, not}
use Rattle.std.proofs.Common.{is_some}
use Rattle.std.specs.List.{list_all}
use Rattle.plant_types.specs.declared.net.BridgePlan.{BridgePlan}
use Rattle.mstr_block.specs.declared.call.CallId.{CallId}
use Rattle.ring_core.specs.declared.frame.Frame.{Frame}
use Rattle.bridge_relay.specs.declared.entry.BridgeEntry.{BridgeEntry}
use Rattle.bridge_relay.specs.declared.entry.BridgeEntry.TheVariants.{Back}
use Rattle.bridge_relay.specs.Bridge.{IsForwarded, IsGivenBack}
use Rattle.bridge_relay.specs.Laws.{end_after, is_by}
use Rattle.bridge_relay.specs.Legal.{IsBridgeHistory, IsEnd, IsOpenEnd, due_back, due_forward}
use Rattle.bridge_relay.specs.Legal.{forward_by, is_call_out, is_network_path}
use Rattle.bridge_relay.specs.Machine.{EndIs, RelayPath, Returned, Waiting}
use Rattle.bridge_relay.specs.Machine.{is_out_on, none_out, side_of, unused_path}
use Rattle.tied_lists.specs.Own.{WentOn}
use Rattle.turn_gate.specs.Known.{PassAdds, PassFacts, made_by}
use Rattle.bridge_port.specs.Sides.{MakesDue}
use Rattle.bridge_port.proofs.Across.{still-open, still-stays}
use Rattle.gated_sides.proofs.Stays.{adds, all_none, all_one, alone-is, stay-adds, went-through}

-- ---- what it finds

-- none under an end's number is none of its own
pub none-end : (n : ℕ) (es : List BridgeEntry) → made_by side_of n es ≡ []
    → filter (is_by n) es ≡ []
none-end n es none = none

-- an open end still is
pub open-found : (plan plan' : BridgePlan) (n : ℕ) (known found : List BridgeEntry) → plan' ≡ plan
    → IsBridgeHistory plan' found → WentOn false (is_by n) known [] found
    → IsOpenEnd plan known n → IsOpenEnd plan' found n
open-found plan plan' n known found same legal w is =
    still-open false plan' n known found legal w
    (subst (λ (x : BridgePlan). IsOpenEnd x known n) (sym same) is)

-- a call that is out still is
pub out-found : (plan plan' : BridgePlan) (n : ℕ) (id : CallId) (known found : List BridgeEntry)
    → plan' ≡ plan → IsBridgeHistory plan' found → WentOn false (is_by n) known [] found
    → IsEnd plan n → is_call_out plan known n id ≡ true → is_call_out plan' found n id ≡ true
out-found plan plan' n id known found same legal w end out =
    let stays = still-stays false plan' n known found
    (subst (λ (x : BridgePlan). IsEnd x n) (sym same) end) legal w in
    ap (λ (paths : List RelayPath). ((id.node == n) && is_network_path id.path)
    && is_out_on (get_or paths (id.path - 1) unused_path) id) stays.paths
    ∙ subst (λ (x : BridgePlan). is_call_out x known n id ≡ true) (sym same) out

-- an end of which no call is out still has none
pub none-out-found : (plan plan' : BridgePlan) (n : ℕ) (known found : List BridgeEntry)
    → plan' ≡ plan → IsBridgeHistory plan' found → WentOn false (is_by n) known [] found
    → IsEnd plan n → none_out (end_after plan known n) ≡ true
    → none_out (end_after plan' found n) ≡ true
none-out-found plan plan' n known found same legal w end out =
    let stays = still-stays false plan' n known found
    (subst (λ (x : BridgePlan). IsEnd x n) (sym same) end) legal w in
    ap (λ (paths : List RelayPath). list_all (λ (path : RelayPath). not (is_some path.out)) paths)
    stays.paths
    ∙ subst (λ (x : BridgePlan). none_out (end_after x known n) ≡ true) (sym same) out

-- ---- what it adds

-- each entry is this end's
abbrev OfEnd : ℕ → List BridgeEntry → Type 0
OfEnd n added = All (λ (e : BridgeEntry). side_of e ≡ n) added

of-forward : (n : ℕ) (end : EndIs) (item : Option Waiting) (path : Option ℕ)
    → OfEnd n (option_to_list (forward_by n end item path))
of-forward n end (Some item) (Some path) = all_one side_of n _ refl
of-forward n end (Some item) None = all_none side_of n
of-forward n end None path = all_none side_of n

pub of-due-forward : (plan : BridgePlan) (n : ℕ) (past : List BridgeEntry)
    → OfEnd n (option_to_list (due_forward plan past n))
of-due-forward plan n past = of-forward n (end_after plan past n) _ _

of-back : (n : ℕ) (item : Option Returned) → OfEnd n (option_to_list
    (option_map (λ (x : Returned). Back n x.id x.reply) item))
of-back n (Some item) = all_one side_of n _ refl
of-back n None = all_none side_of n

pub of-due-back : (plan : BridgePlan) (n : ℕ) (past : List BridgeEntry)
    → OfEnd n (option_to_list (due_back plan past n))
of-due-back plan n past = of-back n _

-- ---- a stay whose call makes what is due

module _ (n : ℕ) (due : List BridgeEntry → Option BridgeEntry)
    (IsIts : List BridgeEntry → Frame → Type 0) where
  -- what the call made, or that it made nothing
  abbrev pub MadeOrNot : {X : Type 0} → Bool → List BridgeEntry → List BridgeEntry
      → Result (Option Frame) X → Type 0
  MadeOrNot alone list list' r = MatchResult r (MakesDue alone n due IsIts list list')
      (λ _. WentOn alone (is_by n) list [] list')

  pub due-adds : {X : Type 0} (q : PassFacts BridgeEntry) (entered found left : List BridgeEntry)
      (r : Result (Option Frame) X) → q.number ≡ n → q.seen ≡ entered → found ≡ entered
      → MadeOrNot true found left r
      → ((past : List BridgeEntry) → OfEnd n (option_to_list (due past))) → PassAdds side_of q left
  due-adds q entered found left (Ok frame) number seen same m all =
      adds side_of q n found (option_to_list (due m.past)) left number (seen ∙ sym same)
      (m.after_is ∙ ap (λ l. l ++ option_to_list (due m.past))
      (alone-is (is_by n) found [] m.past m.went ∙ append-nil found)) (all m.past)
  due-adds q entered found left (Err why) number seen same m all =
      stay-adds side_of (is_by n) q n entered found [] left number seen same m (all_none side_of n)

  due-went : {X : Type 0} (known found left seen : List BridgeEntry)
      (r : Result (Option Frame) X) → WentOn false (is_by n) known [] found
      → MadeOrNot true found left r → seen ≡ left → MadeOrNot false known seen r
  due-went known found left seen (Ok frame) f m now = record {
    past = m.past;
    went = went-through (is_by n) known found [] m.past f m.went;
    after_is = now ∙ m.after_is;
    frame_is = m.frame_is;
  }
  due-went known found left seen (Err why) f m now =
      subst (WentOn false (is_by n) known []) (sym now)
      (went-through (is_by n) known found [] left f m)

-- a call that sends on
pub forward-went : {X : Type 0} (plan plan' : BridgePlan) (n : ℕ)
    (known found left seen : List BridgeEntry) (r : Result (Option Frame) X) → plan' ≡ plan
    → WentOn false (is_by n) known [] found
    → MadeOrNot n (λ past. due_forward plan' past n) (λ past f. IsForwarded plan' past n f)
    true found left r
    → seen ≡ left
    → MadeOrNot n (λ past. due_forward plan past n) (λ past f. IsForwarded plan past n f)
    false known seen r
forward-went plan plan' n known found left seen r same f m now =
    subst (λ (x : BridgePlan). MadeOrNot n (λ past. due_forward x past n)
    (λ past f. IsForwarded x past n f) false known seen r) same
    (due-went n (λ past. due_forward plan' past n) (λ past f. IsForwarded plan' past n f)
    known found left seen r f m now)

-- a call that gives back
pub back-went : {X : Type 0} (plan plan' : BridgePlan) (n : ℕ)
    (known found left seen : List BridgeEntry) (r : Result (Option Frame) X) → plan' ≡ plan
    → WentOn false (is_by n) known [] found
    → MadeOrNot n (λ past. due_back plan' past n) (λ past f. IsGivenBack plan' past n f)
    true found left r
    → seen ≡ left
    → MadeOrNot n (λ past. due_back plan past n) (λ past f. IsGivenBack plan past n f)
    false known seen r
back-went plan plan' n known found left seen r same f m now =
    subst (λ (x : BridgePlan). MadeOrNot n (λ past. due_back x past n)
    (λ past f. IsGivenBack x past n f) false known seen r) same
    (due-went n (λ past. due_back plan' past n) (λ past f. IsGivenBack plan' past n f)
    known found left seen r f m now)
