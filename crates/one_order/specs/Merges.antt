-- A station's list and what its node has done, in one order in time, whatever their entries are.
-- This project's own.
use Rattle.std.specs.Prelude.{◌≡◌, List, [], ◌∷◌, ◌++◌, Option, Some, None, filter_map}

-- An entry of one of the two: the station noted it, or its node did it.
pub data Merged (E R : Type 0) : Type 0 where
  AsNoted : (e : E) → Merged E R
  AsDone : (r : R) → Merged E R

abbrev pub noted_in : {E R : Type 0} → Merged E R → Option E
noted_in (AsNoted e) = Some e
noted_in (AsDone r) = None

abbrev pub done_in : {E R : Type 0} → Merged E R → Option R
done_in (AsNoted e) = None
done_in (AsDone r) = Some r

-- The two lists that a merge is of.
abbrev pub noted_of : {E R : Type 0} → List (Merged E R) → List E
noted_of merge = filter_map noted_in merge

abbrev pub deeds_of : {E R : Type 0} → List (Merged E R) → List R
deeds_of merge = filter_map done_in merge

-- What is counted after a list, entry by entry, from what was counted before it.
abbrev pub tally : {X T : Type 0} → (T → X → T) → T → List X → T
tally next counts [] = counts
tally next counts (x ∷ xs) = tally next (next counts x) xs

-- Entries are counted by `note` and `deed`. These counts are caused where nothing of what they
-- count came before its cause.
module _ {E R S D : Type 0} (note : S → E → S) (deed : D → R → D) (Caused : S → D → Type 0) where
  -- After each entry of a merge the counts are caused, from these counts on.
  abbrev pub Runs : S → D → List (Merged E R) → Type 0
  Runs s d [] = Unit {0}
  Runs s d (AsNoted e ∷ merge) = Caused (note s e) d × Runs (note s e) d merge
  Runs s d (AsDone r ∷ merge) = Caused s (deed d r) × Runs s (deed d r) merge

  -- In each front of a merge nothing came before its cause.
  abbrev pub EachFrontIsCaused : S → D → List (Merged E R) → Type 0
  EachFrontIsCaused s d merge = (front rest : List (Merged E R)) → merge ≡ front ++ rest
      → Caused (tally note s (noted_of front)) (tally deed d (deeds_of front))

  -- Some merge of the two lists has each entry behind its cause, from these counts on.
  pub record InTimeFrom (s : S) (d : D) (noted_list : List E) (done_list : List R) : Type 0 where
    pub merge : List (Merged E R)
    pub noted : noted_of merge ≡ noted_list
    pub done : deeds_of merge ≡ done_list
    pub runs : Runs s d merge

  -- These entries are due wherever the counts are caused and good, and leave good counts.
  abbrev pub IsDueWhere : (S → D → Type 0) → List E → List R → Type 0
  IsDueWhere Good noted_list done_list = (s : S) (d : D) → Caused s d → Good s d
      → InTimeFrom s d noted_list done_list
      × Good (tally note s noted_list) (tally deed d done_list)
