-- Calls that are new, and calls that are out. This project's own.
use Rattle.std.specs.Prelude.{◌≡◌, ◌≢◌, ℕ, ◌<◌, false, List, [], ◌∷◌, ◌++◌, Some, None}
use Rattle.std.specs.List.{AllByRecursion}
use Rattle.ring_core.specs.Legal.{IsPath, HasRoom}
use Rattle.ring_core.specs.Words.{is_same_call}
use Rattle.tied_lists.specs.Words.{CallId}
use Rattle.tied_lists.specs.Items.{Called, CallSort, OverNet, AtHome, Kind, Ended, Items, kind_in}

-- No call of this name has ended.
abbrev pub NoEnd : CallId → List Ended → Type 0
NoEnd id ends = AllByRecursion (λ (e : Ended). is_same_call e.id id ≡ false) ends

-- A call of this kind was made and has not ended.
pub record IsOutAs (a : Items) (id : CallId) (kind : Kind) : Type 0 where
  pub made : kind_in a.calls id ≡ Some kind
  pub unended : NoEnd id a.ends

-- A call was made and has not ended.
abbrev pub IsOut : Items → CallId → Type 0
IsOut a id = (kind : Kind) × IsOutAs a id kind

-- A number is above those of all calls on its path.
abbrev pub IsAbove : CallId → List Called → Type 0
IsAbove id calls =
    AllByRecursion (λ (c : Called). c.id.path ≡ id.path → c.id.seq < id.seq) calls

-- A route leads to another node: it has a first address, which is not the node's own.
abbrev pub LeadsAway : ℕ → List ℕ → Type 0
LeadsAway n [] = ⊥
LeadsAway n (to ∷ rest) = to ≢ n

-- A network call goes to another node, on one of the four paths; a call at home takes path 0.
abbrev pub FitsSort : ℕ → List Called → CallId → CallSort → Type 0
FitsSort n earlier id (OverNet route pdu) =
    LeadsAway n route × IsPath id.path × (0 < id.seq) × IsAbove id earlier
FitsSort n earlier id (AtHome op) = HasRoom op × (id.path ≡ 0)

-- A call on the same path was made, and has not ended.
pub record IsOutOn (path : ℕ) (calls : List Called) (ends : List Ended) (id : CallId)
    : Type 0 where
  pub path_is : id.path ≡ path
  pub kind : Kind
  pub made : kind_in calls id ≡ Some kind
  pub unended : NoEnd id ends

-- A call of a node is new after these calls and these ends, and alone on its path by the network.
pub record IsNewCall (n : ℕ) (earlier : List Called) (ends : List Ended) (c : Called)
    : Type 0 where
  pub own : c.id.node ≡ n
  pub first : kind_in earlier c.id ≡ None
  pub unended : NoEnd c.id ends
  pub fits : FitsSort n earlier c.id c.sort
  pub alone : IsPath c.id.path → (id : CallId) → IsOutOn c.id.path earlier ends id → ⊥

-- Calls of a node are new one after another.
abbrev pub AreNewCalls : ℕ → List Called → List Ended → List Called → Type 0
AreNewCalls n earlier ends [] = Unit {0}
AreNewCalls n earlier ends (c ∷ cs) =
    IsNewCall n earlier ends c × AreNewCalls n (earlier ++ c ∷ []) ends cs
