-- Wires that are read line by line.
use Rattle.std.proofs.Common.{◌≡◌, ℕ, suc, ◌+◌, ◌-◌, ◌<◌, ◌≤◌, Bool, true, false, List, [], ◌∷◌}
use Rattle.std.proofs.Common.{◌++◌, length, get_or, take, drop, refl, sym, ap, subst, ◌∙◌, arith}
use Rattle.std.proofs.Common.{append_assoc, length-append}
use Rattle.std.specs.Prelude.{◌==◌, map, replicate, All, AllPairs}
use Rattle.std.proofs.lemmas.Bool.{eqb-true, false≢true}
use Rattle.std.proofs.lemmas.List.{append-nil, get_or_append_left, length-map, map-append, take_at}
use Rattle.std.proofs.Math.Seq.{get_or-append_seam}
use Rattle.std.proofs.lemmas.List.Elements.{All-nil, All-push, All-head, All-tail, All-weaker}
use Rattle.std.proofs.lemmas.List.Sums.{count_by-le-length}
use Rattle.std.proofs.lemmas.List.Quantifiers.{all_pairs_push}
use Rattle.plant_types.specs.declared.plan.Plant.{Plant}
use Rattle.peer_cop.specs.declared.wire.Wire.{Wire}
use Rattle.peer_cop.specs.Lines.{BeginsWithWire, HasSmallNumbers, lines_of, wire_line}
use Rattle.peer_cop.specs.Words.{AreApart}
use Rattle.peer_cop.specs.Plants.{CanBeWired, FitsPlant}
use Rattle.peer_cop.specs.Places.{IsFree, place_count}
use Rattle.peer_cop.specs.Wires.{AreWires, IsFirstBad, TakesWire}
use Rattle.peer_cop.proofs.LineLemmas.{first_line, same_line, some_line, wire_first}
use Rattle.peer_cop.proofs.FlagLemmas.{AreFlags, apart_free, flag_count, free_apart, more_count}
use Rattle.peer_cop.proofs.FlagLemmas.{more_flags, no_flags}
use Rattle.peer_cop.proofs.PlantLemmas.{wire_places, wire_small}

-- the wires that were read, and their flags
pub record HasRead (plant : Plant) (bytes rest : List ℕ) (wires : List Wire)
    (flags : List Bool) : Type 0 where
  pub lines : lines_of bytes ≡ map wire_line wires ++ lines_of rest
  pub fit : All (FitsPlant plant) wires
  pub apart : AllPairs AreApart wires
  pub flags_are : AreFlags wires flags
  pub few : length wires ≤ flag_count flags

pub read_none : (plant : Plant) (bytes : List ℕ) (wires : List Wire) (flags : List Bool)
    → wires ≡ [] → flags ≡ replicate place_count false → HasRead plant bytes bytes wires flags
read_none plant bytes wires flags none are =
    subst (λ (ws : List Wire). HasRead plant bytes bytes ws flags) (sym none) (record {
      lines = refl;
      fit = All-nil (FitsPlant plant);
      apart = λ i j d before within. absurd (omega arith);
      flags_are = no_flags flags are;
      few = omega arith;
    })

pub read_more : (plant : Plant) (bytes rest later : List ℕ) (wires : List Wire)
    (flags after : List Bool) (wire : Wire) → CanBeWired plant
    → HasRead plant bytes rest wires flags → TakesWire plant flags after rest wire later
    → HasRead plant bytes later (wires ++ wire ∷ []) after
read_more plant bytes rest later wires flags after wire can has takes =
    let there = wire_places plant wire can takes.fits in
    let more = more_count flags wire takes.free takes.fits.joins.count.from in
    subst (λ (fs : List Bool). HasRead plant bytes later (wires ++ wire ∷ []) fs)
    (sym takes.marked) (record {
      lines = has.lines
          ∙ ap (λ (ls : List (List ℕ)). map wire_line wires ++ ls)
          (wire_first rest wire later takes.begins)
          ∙ sym (append_assoc (map wire_line wires) (wire_line wire ∷ []) (lines_of later))
          ∙ ap (λ (ls : List (List ℕ)). ls ++ lines_of later)
          (sym (map-append wire_line wires (wire ∷ [])));
      fit = All-push (FitsPlant plant) wires wire has.fit takes.fits;
      apart = all_pairs_push AreApart wires wire has.apart
          (free_apart wires flags wire has.flags_are there takes.free);
      flags_are = more_flags wires flags wire has.flags_are there;
      few = omega (arith, has.few, more, length-append wires (wire ∷ []));
    })

-- at the end all lines are wires
pub read_all : (plant : Plant) (bytes rest : List ℕ) (wires : List Wire) (flags : List Bool)
    → HasRead plant bytes rest wires flags → rest ≡ [] → AreWires plant (lines_of bytes) wires
unfolding lines_of
read_all plant bytes rest wires flags has none = record {
  read = has.lines
      ∙ ap (λ (text : List ℕ). map wire_line wires ++ lines_of text) none
      ∙ append-nil (map wire_line wires);
  fit = has.fit;
  apart = has.apart;
}

-- the number of a line is small
pub few_lines : (plant : Plant) (bytes rest : List ℕ) (wires : List Wire) (flags : List Bool)
    → HasRead plant bytes rest wires flags → length wires ≤ place_count
few_lines plant bytes rest wires flags has =
    omega (arith, has.few, has.flags_are.size, count_by-le-length (λ flag. flag) flags)

-- a list whose images end with one has a last one
record EndsWith {X Y : Type 0} (f : X → Y) (xs : List X) (ys : List Y) (y : Y) : Type 0 where
  front : List X
  last : X
  whole : xs ≡ front ++ last ∷ []
  fronts : map f front ≡ ys
  image : f last ≡ y

longer : {X Y : Type 0} (f : X → Y) (x : X) (xs : List X) (z : Y) (ys : List Y) (y : Y)
    → f x ≡ z → EndsWith f xs ys y → EndsWith f (x ∷ xs) (z ∷ ys) y
longer {X} {Y} f x xs z ys y same ends = record {
  front = x ∷ ends.front;
  last = ends.last;
  whole = ap (λ (l : List X). x ∷ l) ends.whole;
  fronts = pair (f x) z (map f ends.front) ys same ends.fronts;
  image = ends.image;
}
  where
    pair : (a b : Y) (later others : List Y) → a ≡ b → later ≡ others → a ∷ later ≡ b ∷ others
    pair a b later others one other = cc

ends_with : {X Y : Type 0} (f : X → Y) (xs : List X) (ys : List Y) (y : Y)
    → map f xs ≡ ys ++ y ∷ [] → EndsWith f xs ys y
ends_with f [] [] y e = absurd cc
ends_with f [] (z ∷ ys) y e = absurd cc
ends_with f (x ∷ []) [] y e =
    record { front = []; last = x; whole = refl; fronts = refl; image = cc }
ends_with f (x ∷ w ∷ xs) [] y e = absurd cc
ends_with f (x ∷ xs) (z ∷ ys) y e =
    let first : f x ≡ z = cc in
    let later : map f xs ≡ ys ++ y ∷ [] = cc in
    longer f x xs z ys y first (ends_with f xs ys y later)

-- wires with the same lines are the same
same_lines : (ones others : List Wire) → All HasSmallNumbers ones → All HasSmallNumbers others
    → map wire_line ones ≡ map wire_line others → ones ≡ others
same_lines [] [] small few e = refl
same_lines [] (other ∷ others) small few e = absurd cc
same_lines (one ∷ ones) [] small few e = absurd cc
same_lines (one ∷ ones) (other ∷ others) small few e =
    let first : wire_line one ≡ wire_line other = cc in
    let later : map wire_line ones ≡ map wire_line others = cc in
    let same = same_line one other (All-head HasSmallNumbers one ones small)
    (All-head HasSmallNumbers other others few) first in
    let rest = same_lines ones others (All-tail HasSmallNumbers one ones small)
    (All-tail HasSmallNumbers other others few) later in
    cc

-- of a longer list
front_pairs : (wires : List Wire) (wire : Wire) → AllPairs AreApart (wires ++ wire ∷ [])
    → (k : ℕ) (d : Wire) → k < length wires → AreApart (get_or wires k d) wire
front_pairs wires wire apart k d within =
    let both = apart k (length wires) d within
    (omega (arith, length-append wires (wire ∷ []))) in
    let last = get_or-append_seam wires wire [] d in
    let front = get_or_append_left wires (wire ∷ []) d k within in
    subst (λ (other : Wire). AreApart (get_or wires k d) other) last
    (subst (λ (one : Wire). AreApart one (get_or (wires ++ wire ∷ []) (length wires) d)) front both)

last_fits : (plant : Plant) (wires : List Wire) (wire : Wire)
    → All (FitsPlant plant) (wires ++ wire ∷ []) → FitsPlant plant wire
last_fits plant wires wire fit =
    subst (FitsPlant plant) (get_or-append_seam wires wire [] wire)
    (fit (length wires) wire (omega (arith, length-append wires (wire ∷ []))))

front_fits : (plant : Plant) (wires : List Wire) (wire : Wire)
    → All (FitsPlant plant) (wires ++ wire ∷ []) → All (FitsPlant plant) wires
front_fits plant wires wire fit k d within =
    subst (FitsPlant plant) (get_or_append_left wires (wire ∷ []) d k within)
    (fit k d (omega (arith, length-append wires (wire ∷ []))))

-- with the next line they are no wires where no wire is taken
module _ (plant : Plant) (can : CanBeWired plant) (bytes rest : List ℕ) (wires : List Wire)
    (flags : List Bool) (has : HasRead plant bytes rest wires flags)
    (none : (wire : Wire) (more : List ℕ) → BeginsWithWire rest wire more
    → FitsPlant plant wire → ¬ (IsFree flags wire)) (line : List ℕ) (lines : List (List ℕ))
    (first : lines_of rest ≡ line ∷ lines) where
  fitting : (ws : List Wire) → All (FitsPlant plant) ws → All HasSmallNumbers ws
  fitting ws fit =
      All-weaker (FitsPlant plant) HasSmallNumbers (λ wire fits. wire_small plant wire can fits)
      ws fit

  with_last : (wire : Wire) → wire_line wire ≡ line → All (FitsPlant plant) (wires ++ wire ∷ [])
      → AllPairs AreApart (wires ++ wire ∷ []) → ⊥
  with_last wire is fit apart =
      let fits = last_fits plant wires wire fit in
      let (more, whole) = first_line rest line lines first in
      none wire more (record {
        small = wire_small plant wire can fits;
        whole = whole ∙ ap (λ (l : List ℕ). l ++ more) (sym is);
      }) fits (apart_free wires flags wire has.flags_are (wire_places plant wire can fits)
      (front_pairs wires wire apart))

  all_lines : lines_of bytes ≡ map wire_line wires ++ line ∷ lines
  all_lines = has.lines ∙ ap (λ (ls : List (List ℕ)). map wire_line wires ++ ls) first

  number : length (map wire_line wires) ≡ length wires
  number = length-map wires wire_line

  lines_before : take (length wires) (lines_of bytes) ≡ map wire_line wires
  lines_before =
      ap (take (length wires)) all_lines
      ∙ take_at (map wire_line wires) (line ∷ lines) (length wires) number

  lines_with : take (length wires + 1) (lines_of bytes) ≡ map wire_line wires ++ line ∷ []
  lines_with =
      ap (take (length wires + 1)) (all_lines
      ∙ sym (append_assoc (map wire_line wires) (line ∷ []) lines))
      ∙ take_at (map wire_line wires ++ line ∷ []) lines (length wires + 1)
      (length-append (map wire_line wires) (line ∷ [])
      ∙ ap (λ n. n + 1) number)

  none_with : (ws : List Wire) → ¬ (AreWires plant (take (length wires + 1) (lines_of bytes)) ws)
  none_with ws are =
      let ends = ends_with wire_line ws (map wire_line wires) line
      (sym are.read ∙ lines_with) in
      let fit = subst (All (FitsPlant plant)) ends.whole are.fit in
      let apart = subst (AllPairs AreApart) ends.whole are.apart in
      let same = same_lines ends.front wires
      (fitting ends.front (front_fits plant ends.front ends.last fit)) (fitting wires has.fit)
      ends.fronts in
      with_last ends.last ends.image
      (subst (λ (front : List Wire). All (FitsPlant plant) (front ++ ends.last ∷ [])) same fit)
      (subst (λ (front : List Wire). AllPairs AreApart (front ++ ends.last ∷ [])) same apart)

  bad_at : IsFirstBad plant (lines_of bytes) (length wires + 1)
  bad_at = record {
    there = record {
      from = omega arith;
      to = omega (
        arith,
        ap length all_lines,
        length-append (map wire_line wires) (line ∷ lines),
        number,
      );
    };
    before = (
      wires,
      record {
        read = ap (λ n. take n (lines_of bytes)) back ∙ lines_before;
        fit = has.fit;
        apart = has.apart;
      },
    );
    bad = none_with;
  }
    where
      back : length wires + 1 - 1 ≡ length wires
      back = omega arith

pub first_bad : (plant : Plant) (bytes rest : List ℕ) (wires : List Wire) (flags : List Bool)
    → CanBeWired plant → HasRead plant bytes rest wires flags → 0 < length rest
    → ((wire : Wire) (more : List ℕ) → BeginsWithWire rest wire more → FitsPlant plant wire
    → ¬ (IsFree flags wire))
    → IsFirstBad plant (lines_of bytes) (length wires + 1)
first_bad plant bytes [] wires flags can has some none = absurd (omega arith)
first_bad plant bytes (byte ∷ rest) wires flags can has some none =
    let (line, lines, first) = some_line byte rest in
    bad_at plant can bytes (byte ∷ rest) wires flags has none line lines first

-- what a vector holds after its items were lent and given back
pub given_back : (items after : List Bool) (len : ℕ) → len ≡ length items
    → length after ≡ length items
    → take len (after ++ drop (length after) items) ≡ after
given_back items after len size same =
    take_at after (drop (length after) items) len (same ∙ sym size)

pub read_pushed : (plant : Plant) (bytes rest later : List ℕ) (wires pushed : List Wire)
    (flags lent after kept : List Bool) (wire : Wire) → CanBeWired plant
    → HasRead plant bytes rest wires flags → TakesWire plant lent after rest wire later
    → lent ≡ flags → pushed ≡ wires ++ wire ∷ [] → kept ≡ after
    → HasRead plant bytes later pushed kept
read_pushed plant bytes rest later wires pushed flags lent after kept wire can has takes same
    more back =
    let from = subst (λ (fs : List Bool). TakesWire plant fs after rest wire later) same takes in
    let read = read_more plant bytes rest later wires flags after wire can has from in
    subst (λ (ws : List Wire). HasRead plant bytes later ws kept) (sym more)
    (subst (λ (fs : List Bool). HasRead plant bytes later (wires ++ wire ∷ []) fs) (sym back) read)

-- a text with no byte, and one with some
pub no_bytes : (text : List ℕ) → true ≡ (length text == 0) → text ≡ []
no_bytes [] none = refl
no_bytes (byte ∷ bytes) none =
    let same : suc (length bytes) ≡ 0 = eqb-true (suc (length bytes)) 0 (sym none) in
    absurd (omega arith)

pub some_bytes : (text : List ℕ) → false ≡ (length text == 0) → 0 < length text
some_bytes [] some = absurd (false≢true some)
some_bytes (byte ∷ bytes) some = omega arith
