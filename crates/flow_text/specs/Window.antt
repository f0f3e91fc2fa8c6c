-- The texts of scans, from one on. All of it is this project's own.
use Rattle.std.specs.Prelude.{◌≡◌, ℕ, ◌+◌, List, [], ◌∷◌, ◌++◌, map, string_bytes}
use Rattle.flow_text.specs.declared.window.Window.{Window}
use Rattle.flow_text.specs.Lines.{scan_lines}
use Rattle.flow_text.specs.Solved.{SolvedNetwork}

-- The text of each scan.
abbrev pub texts_of : Window → List (List ℕ)
texts_of window = map string_bytes window.texts.items

-- Texts of scans from one on, each with what is told of its scan after it.
abbrev pub told : (ℕ → List ℕ) → ℕ → List (List ℕ) → List (List ℕ)
told lines first [] = []
told lines first (text ∷ texts) = (text ++ lines first) ∷ told lines (first + 1) texts

-- Lines are added to a window: it has the same scans, and the text of each has the lines of its scan
-- after what was told before.
pub record AddsLines (lines : ℕ → List ℕ) (old new : Window) : Type 0 where
  pub first : new.first ≡ old.first
  pub texts : texts_of new ≡ told lines old.first (texts_of old)

-- What conducted is added to a window: a line of each of these networks that a node solved.
abbrev pub AddsFlow : ℕ → List SolvedNetwork → Window → Window → Type 0
AddsFlow node networks old new = AddsLines (scan_lines node networks) old new
