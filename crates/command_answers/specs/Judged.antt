-- What a journal comes to: its joint history, or the spot at which it is not that of a complete
-- run. This project's own.
use Rattle.std.specs.Prelude.{◌≡◌, ◌⊎◌, ◌==◌, ℕ, cond, codes, List, [], ◌++◌, string_bytes}
use Rattle.std.specs.Fmt.{decimal}
use Rattle.plant_types.specs.declared.plan.Plant.{Plant}
use Rattle.joint_history.specs.declared.joint.Joint.{Joint}
use Rattle.joint_history.specs.Noted.{IsNoted}
use Rattle.journal_text.specs.Fronts.{IsJournalOf, IsText}
use Rattle.joint_law.specs.declared.verdict.Spot.{Spot}
use Rattle.joint_law.specs.declared.verdict.Spot.TheVariants as spots
use Rattle.joint_law.specs.Spots.{IsSpot, IsWholeRun}
use Rattle.command_answers.specs.declared.judging.Judged.{Judged}
use Rattle.command_answers.specs.declared.judging.Judged.TheVariants.{Whole, Illegal}

-- What is told of a line that is wrong, and of a spot, up to the line end.
abbrev pub wrong_line_text : ℕ → List ℕ
wrong_line_text line = codes "text " ++ decimal line ++ codes "\n"

abbrev pub spot_place_text : List ℕ → ℕ → ℕ → List ℕ
spot_place_text section node place =
    section ++ codes " " ++ decimal node ++ codes " " ++ decimal place ++ codes "\n"

abbrev pub law_text : ℕ → ℕ → ℕ → List ℕ
law_text law node place =
    codes "J" ++ decimal law ++ codes " " ++ decimal node ++ codes " " ++ decimal place
    ++ codes "\n"

-- A network's number is told where it is not 0.
abbrev pub ring_text : ℕ → ℕ → List ℕ
ring_text network entry =
    codes "R" ++ cond (network == 0) [] (decimal network) ++ codes " " ++ decimal entry
    ++ codes "\n"

abbrev pub spot_text : Spot → List ℕ
spot_text spots.Sections = codes "sections\n"
spot_text (spots.Controller node entry) = spot_place_text (codes "C") node entry
spot_text (spots.Host node entry) = spot_place_text (codes "H") node entry
spot_text (spots.Bridge left entry) = spot_place_text (codes "W") left entry
spot_text (spots.Ring network entry) = ring_text network entry
spot_text (spots.Law law node place) = law_text law node place
spot_text (spots.Incomplete node) = codes "D16 " ++ decimal node ++ codes "\n"

-- The bytes are the journal of a complete run of a plant.
pub record IsRunRead (plant : Plant) (scans : ℕ) (bytes : List ℕ) (joint : Joint) : Type 0 where
  pub read : IsJournalOf joint bytes
  pub whole : IsWholeRun plant scans joint

-- The bytes are no journal, from a line on.
pub record IsNoJournal (bytes spot : List ℕ) : Type 0 where
  pub line : ℕ
  pub wrong : IsText bytes line
  pub text : spot ≡ wrong_line_text line

-- The bytes are the journal of a joint history that is not a complete run, as a spot of it shows.
pub record IsNoRun (plant : Plant) (scans : ℕ) (bytes spot : List ℕ) : Type 0 where
  pub joint : Joint
  pub read : IsJournalOf joint bytes
  pub there : Spot
  pub breaks : IsSpot plant scans joint there
  pub text : spot ≡ spot_text there

-- A spot shows that the bytes are not the journal of a complete run.
abbrev pub IsIllegalAt : Plant → ℕ → List ℕ → List ℕ → Type 0
IsIllegalAt plant scans bytes spot = IsNoJournal bytes spot ⊎ IsNoRun plant scans bytes spot

-- What bytes came to: a complete run, with what its controllers noted, or a spot.
abbrev pub IsJudged : Plant → ℕ → List ℕ → Judged → Type 0
IsJudged plant scans bytes (Whole noted) =
    IsRunRead plant scans bytes noted.joint × IsNoted plant noted
IsJudged plant scans bytes (Illegal spot) = IsIllegalAt plant scans bytes (string_bytes spot)
