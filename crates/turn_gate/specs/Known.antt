-- What contracts see of a gate, of its passes and of the value that it hands out. All of it is
-- this project's own.
use Rattle.std.specs.Prelude.{◌≡◌, ℕ, ◌==◌, nat_eq, nat_lt, List, [], ◌∷◌, ◌++◌, All, length, drop}
use Rattle.std.specs.Prelude.{filter, map, Option, Some, None, Bool, true, if◌then◌else◌}
use Rattle.std.specs.List.{list_any}
use Rattle.atomic_table.specs.Seated.{TableId}

-- which gate it is: its table, and the entries of its opening value
pub record GateName (E : Type 0) : Type 0 where
  pub table : TableId
  pub opening : List E

-- which gate it is, and the fixed part of each value that it hands out
pub record GateFacts (E F : Type 0) : Type 0 where
  pub name : GateName E
  pub fixed : F

-- what a pass knows: its gate, its number, the entries that it has seen, those of them that it
-- made, the numbers and own entries of the passes that were joined into it, what each of those had
-- seen, the numbers that it gave, and the ticket of its stay while it is inside
pub record PassFacts (E : Type 0) : Type 0 where
  pub gate : GateName E
  pub number : ℕ
  pub seen : List E
  pub mine : List E
  pub joined : List (ℕ × List E)
  pub heard : List (List E)
  pub given : List ℕ
  pub stay : Option ℕ

-- the value that was handed out, at which gate, and the ticket of the stay
pub record HeldFacts (V : Type 0) : Type 0 where
  pub value : V
  pub table : TableId
  pub ticket : ℕ

-- the number n stands in the list
abbrev pub is_among : ℕ → List ℕ → Bool
is_among n numbers = list_any (nat_eq n) numbers

-- the entries that name n, in order
abbrev pub made_by : {E : Type 0} → (E → ℕ) → ℕ → List E → List E
made_by maker n entries = filter (λ e. maker e == n) entries

-- the list begins with these entries
abbrev pub StartsWith : {E : Type 0} → List E → List E → Type 0
StartsWith {E} all front = (rest : List E) × (all ≡ front ++ rest)

-- the longer of two lists, the first where they are as long
abbrev pub longer : {E : Type 0} → List E → List E → List E
longer xs ys = if nat_lt (length xs) (length ys) then ys else xs

-- the same held value, changed to x
abbrev pub with_value : {V : Type 0} → HeldFacts V → V → HeldFacts V
with_value h x = record h { value = x }

module _ {E : Type 0} where
  -- pass 0 of a new gate
  abbrev pub first_pass : GateName E → PassFacts E
  first_pass g = record {
    gate = g;
    number = 0;
    seen = g.opening;
    mine = [];
    joined = [];
    heard = [];
    given = [];
    stay = None;
  }

  -- the pass p inside with this ticket, having seen these entries
  abbrev pub entered : PassFacts E → List E → ℕ → PassFacts E
  entered p entries ticket = record p { seen = entries; stay = Some ticket }

  -- a new pass with the number n, split off p: it has seen as much, and made nothing
  abbrev pub split_off : ℕ → PassFacts E → PassFacts E
  split_off n p = record p { number = n; mine = []; joined = []; heard = []; given = [] }

  -- the pass p outside again, having left these entries: those behind what it had seen are its own
  abbrev pub left_after : PassFacts E → List E → PassFacts E
  left_after p entries = record p {
    seen = entries;
    mine = p.mine ++ drop (length p.seen) entries;
    stay = None;
  }

  -- each number that the pass keeps, with its own entries: the pass's own, and then those that
  -- were joined into it
  abbrev pub own_lists : PassFacts E → List (ℕ × List E)
  own_lists p = (p.number, p.mine) ∷ p.joined

  -- the pass p, which has taken in q
  abbrev pub with_pass : PassFacts E → PassFacts E → PassFacts E
  with_pass p q = record p {
    seen = longer p.seen q.seen;
    joined = p.joined ++ own_lists q;
    heard = p.heard ++ q.seen ∷ q.heard;
  }

  -- the numbers that the pass keeps
  abbrev pub numbers : PassFacts E → List ℕ
  numbers p = p.number ∷ map (λ q. q.0) p.joined

  -- it is outside
  abbrev pub IsOutside : PassFacts E → Type 0
  IsOutside p = p.stay ≡ None

  -- every number that pass 0 gave was joined back into it
  abbrev pub HasAllBack : PassFacts E → Type 0
  HasAllBack p = (n : ℕ) → is_among n p.given ≡ true → is_among n (numbers p) ≡ true

  -- the held value is what this pass was handed as it entered, and it is still inside
  abbrev pub HandedTo : {V : Type 0} → PassFacts E → HeldFacts V → Type 0
  HandedTo p h = (h.table ≡ p.gate.table) × (p.stay ≡ Some h.ticket)

  -- the entries found begin with all that the pass had seen, and what others added since names
  -- none of its numbers
  pub record PassFinds (maker : E → ℕ) (p : PassFacts E) (found : List E) : Type 0 where
    pub between : List E
    pub begins : found ≡ p.seen ++ between
    pub not_mine : made_by maker p.number between ≡ []
    pub not_joined : All (λ q. made_by maker q.0 between ≡ []) p.joined

  -- of the entries made after the opening ones, those that name a number of the pass are exactly
  -- its own entries under that number, each once and in order
  pub record Owns (maker : E → ℕ) (p : PassFacts E) (all : List E) : Type 0 where
    pub made : List E
    pub all_is : all ≡ p.gate.opening ++ made
    pub mine_is : p.mine ≡ made_by maker p.number made
    pub joined_are : All (λ q. q.1 ≡ made_by maker q.0 made) p.joined

  -- each entry made after the opening ones names a number that the pass keeps
  pub record NamesKept (maker : E → ℕ) (p : PassFacts E) (all : List E) : Type 0 where
    pub made : List E
    pub all_is : all ≡ p.gate.opening ++ made
    pub named : All (λ e. is_among (maker e) (numbers p) ≡ true) made

  -- the entries are those that the pass has seen, and then some that name its number
  pub record PassAdds (maker : E → ℕ) (p : PassFacts E) (entries : List E) : Type 0 where
    pub added : List E
    pub grown : entries ≡ p.seen ++ added
    pub own_all : All (λ e. maker e ≡ p.number) added

  -- the pass is ready for a stay under this number: it is of this gate and outside, no other was
  -- joined into it, and of what it has seen its own entries are exact
  pub record IsPassReady (maker : E → ℕ) (number : ℕ) (gate : GateName E)
      (p : PassFacts E) : Type 0 where
    pub gate_is : p.gate ≡ gate
    pub outside : IsOutside p
    pub number_is : p.number ≡ number
    pub unjoined : p.joined ≡ []
    pub unheard : p.heard ≡ []
    pub own_is : Owns maker p p.seen
