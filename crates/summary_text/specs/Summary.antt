-- The summary of a run: how much of each sort it has. All of it is this project's own.
use Rattle.std.specs.Prelude.{codes, ℕ, Bool, true, false, List, [], ◌∷◌, ◌++◌, length}
use Rattle.std.specs.Fmt.{decimal}
use Rattle.std.specs.List.{count_by, flat_map, sum_by}
use Rattle.plant_types.specs.declared.plan.Plant.{Plant}
use Rattle.mstr_block.specs.declared.call.MstrResult.TheVariants as results
use Rattle.controller_core.specs.declared.entry.Entry.{Entry}
use Rattle.controller_core.specs.declared.entry.Entry.TheVariants as entries
use Rattle.joint_history.specs.declared.joint.ControllerLog.{ControllerLog}
use Rattle.joint_history.specs.declared.joint.Joint.{Joint}
use Rattle.joint_history.specs.Complete.{is_pass}
use Rattle.joint_history.specs.Nets.{noted_on_rings}
use Rattle.summary_text.specs.Coils.{coils_at_end}
use Rattle.summary_text.specs.declared.counts.Counted.{Counted}
use Rattle.summary_text.specs.declared.counts.Counted.TheVariants.{Solves, Peers, Good, Bad}

-- A segment was due, and solved where its control was on.
abbrev pub is_solve : Entry → Bool
is_solve (entries.Solve row) = true
is_solve _ = false

-- A request of another node was answered.
abbrev pub is_peer : Entry → Bool
is_peer (entries.Peer id request reply) = true
is_peer _ = false

-- A call ended with success.
abbrev pub is_good : Entry → Bool
is_good (entries.Finish id (results.Good words)) = true
is_good _ = false

-- A call ended with an error.
abbrev pub is_bad : Entry → Bool
is_bad (entries.Finish id (results.Bad word)) = true
is_bad _ = false

-- The entries that are counted under a name.
abbrev pub is_counted : Counted → Entry → Bool
is_counted Solves = is_solve
is_counted Peers = is_peer
is_counted Good = is_good
is_counted Bad = is_bad

-- How many entries of all controllers are such.
abbrev pub entries_that : (Entry → Bool) → List ControllerLog → ℕ
entries_that such logs = sum_by (λ log. count_by such log.entries) logs

-- The counts of a joint history, each with its name: the controllers, the segments that they
-- solved, the requests that they answered, their calls that ended well and badly, how often the
-- tokens of the rings were passed on, and the coils that are on at the end.
abbrev pub run_counts : Plant → Joint → List (List ℕ × ℕ)
run_counts plant joint =
    (codes "controllers", length joint.controllers)
    ∷ (codes "solves", entries_that is_solve joint.controllers)
    ∷ (codes "peers", entries_that is_peer joint.controllers)
    ∷ (codes "good", entries_that is_good joint.controllers)
    ∷ (codes "bad", entries_that is_bad joint.controllers)
    ∷ (codes "passes", count_by is_pass (noted_on_rings joint))
    ∷ (codes "coils", coils_at_end plant joint) ∷ []

-- A line: a name and its count.
abbrev pub count_line : List ℕ × ℕ → List ℕ
count_line count = count.0 ++ codes " " ++ decimal count.1 ++ codes "\n"

-- The summary of a joint history: a line for each count.
abbrev pub summary : Plant → Joint → List ℕ
summary plant joint = flat_map count_line (run_counts plant joint)
