-- The lines of a text, one by one.
use Rattle.std.proofs.Common.{◌≡◌, ℕ, ◌^◌, ◌<◌, ◌≤◌, Bool, true, false, cond, List, []}
use Rattle.std.proofs.Common.{◌∷◌, ◌++◌, length, refl, sym, ap, subst, ◌∙◌, arith, append_assoc}
use Rattle.std.proofs.Common.{length-append, get_or}
use Rattle.std.specs.Prelude.{◌==◌, map}
use Rattle.std.specs.List.{join_with_byte, list_all, onto_first}
use Rattle.std.specs.Fmt.{decimal}
use Rattle.std.proofs.lemmas.Bool.{and_parts}
use Rattle.std.proofs.lemmas.Bool.Decides.{nat_tests}
use Rattle.std.proofs.lemmas.List.Folds.{list_all-append}
use Rattle.plant_types.specs.Numerals.{is_digit}
use Rattle.peer_cop.specs.declared.wire.Wire.{Wire}
use Rattle.peer_cop.specs.Lines.{BeginsWithWire, HasSmallNumbers, lines_of, numbers_of, wire_line}
use Rattle.peer_cop.proofs.Parts.{all_differ, differs}
use Rattle.peer_cop.proofs.Numbers.{decimal_digits, same_number}
use Rattle.peer_cop.proofs.WireLines.{NumbersAt, wire_forms, wire_numbers}

-- what stands before the first line feed is a line with it
apart : (end byte : ℕ) → differs end byte ≡ true → (byte == end) ≡ false
apart end byte h = grind (arith, nat_tests)

first_of : (front rest : List ℕ) → list_all (differs 10) front ≡ true
    → lines_of (front ++ 10 ∷ rest) ≡ (front ++ 10 ∷ []) ∷ lines_of rest
unfolding lines_of
first_of [] rest all = refl
first_of (byte ∷ bytes) rest all =
    let passes = and_parts (differs 10 byte) (list_all (differs 10) bytes) all in
    rw (apart 10 byte passes.0, first_of bytes rest passes.1) refl

-- no line feed stands in the line of a wire before its end
no_feed : (n : ℕ) → n < 2 ^ 16 → list_all (differs 10) (decimal n) ≡ true
no_feed n few = all_differ is_digit 10 refl (decimal n) (decimal_digits n few)

then_more : (n : ℕ) (more : List ℕ) → n < 2 ^ 16 → list_all (differs 10) more ≡ true
    → list_all (differs 10) (decimal n ++ 32 ∷ more) ≡ true
then_more n more few all =
    rw (list_all-append (differs 10) (decimal n) (32 ∷ more), no_feed n few, all) refl

abbrev front_of : Wire → List ℕ
front_of wire = join_with_byte 32 (map decimal (numbers_of wire))

front_differs : (wire : Wire) → HasSmallNumbers wire
    → list_all (differs 10) (front_of wire) ≡ true
front_differs wire small =
    then_more wire.node _ (omega (arith, small.node)) (
    then_more wire.drop _ (omega (arith, small.drop)) (
    then_more wire.word _ (omega (arith, small.word)) (
    then_more wire.from _ (omega (arith, small.from)) (
    then_more wire.from_drop _ (omega (arith, small.from_drop)) (
    then_more wire.from_word _ (omega (arith, small.from_word))
    (no_feed wire.count (omega (arith, small.count)))
    )
    )
    )
    )
    )

-- the lines of a text that begins with a wire
pub wire_first : (text : List ℕ) (wire : Wire) (rest : List ℕ) → BeginsWithWire text wire rest
    → lines_of text ≡ wire_line wire ∷ lines_of rest
unfolding wire_line
wire_first text wire rest is =
    ap lines_of (is.whole ∙ append_assoc (front_of wire) (10 ∷ []) rest)
    ∙ first_of (front_of wire) rest (front_differs wire is.small)

-- a text with bytes has a first line, with which it begins
onto : (byte : ℕ) (bytes line : List ℕ) (all lines : List (List ℕ))
    → ((first : List ℕ) (others : List (List ℕ)) → all ≡ first ∷ others
    → (rest : List ℕ) × (bytes ≡ first ++ rest))
    → onto_first byte all ≡ line ∷ lines → (rest : List ℕ) × (byte ∷ bytes ≡ line ++ rest)
onto byte bytes line [] lines inner e =
    let alone : line ≡ byte ∷ [] = cc in
    (bytes, ap (λ (l : List ℕ). l ++ bytes) (sym alone))
onto byte bytes line (first ∷ others) lines inner e =
    let (rest, whole) = inner first others refl in
    let here : byte ∷ first ≡ line = cc in
    (rest, ap (λ (bs : List ℕ). byte ∷ bs) whole ∙ ap (λ (l : List ℕ). l ++ rest) here)

begun : (byte : ℕ) (bytes line : List ℕ) (all lines : List (List ℕ)) (ends : Bool)
    → ((first : List ℕ) (others : List (List ℕ)) → all ≡ first ∷ others
    → (rest : List ℕ) × (bytes ≡ first ++ rest))
    → cond ends ((byte ∷ []) ∷ all) (onto_first byte all) ≡ line ∷ lines
    → (rest : List ℕ) × (byte ∷ bytes ≡ line ++ rest)
begun byte bytes line all lines true inner here =
    let alone : line ≡ byte ∷ [] = cc in
    (bytes, ap (λ (l : List ℕ). l ++ bytes) (sym alone))
begun byte bytes line all lines false inner here = onto byte bytes line all lines inner here

pub first_line : (text line : List ℕ) (lines : List (List ℕ)) → lines_of text ≡ line ∷ lines
    → (rest : List ℕ) × (text ≡ line ++ rest)
unfolding lines_of
first_line [] line lines e = absurd cc
first_line (byte ∷ bytes) line lines e =
    begun byte bytes line (lines_of bytes) lines (byte == 10) (first_line bytes) e

onto_some : (byte : ℕ) (all : List (List ℕ))
    → (line : List ℕ) × (lines : List (List ℕ)) × (onto_first byte all ≡ line ∷ lines)
onto_some byte [] = (byte ∷ [], [], refl)
onto_some byte (first ∷ others) = (byte ∷ first, others, refl)

pub some_line : (byte : ℕ) (bytes : List ℕ)
    → (line : List ℕ) × (lines : List (List ℕ)) × (lines_of (byte ∷ bytes) ≡ line ∷ lines)
unfolding lines_of
some_line byte bytes = go (byte == 10)
  where
    go : (b : Bool) → (line : List ℕ) × (lines : List (List ℕ))
        × (cond b ((byte ∷ []) ∷ lines_of bytes) (onto_first byte (lines_of bytes))
        ≡ line ∷ lines)
    go true = (byte ∷ [], lines_of bytes, refl)
    go false = onto_some byte (lines_of bytes)

-- a wire's line has bytes
pub wire_shorter : (text : List ℕ) (wire : Wire) (rest : List ℕ) → BeginsWithWire text wire rest
    → length rest < length text
unfolding wire_line
wire_shorter text wire rest is =
    let whole = ap length is.whole ∙ length-append (front_of wire ++ 10 ∷ []) rest in
    let line = length-append (front_of wire) (10 ∷ []) in
    omega arith

-- a text begins with one wire alone
abbrev Forms : List (ℕ × ℕ) → Type 0
Forms [] = Unit {0}
Forms (form ∷ forms) = ((form.0 ≤ 2 ^ 16) × (is_digit form.1 ≡ false)) × Forms forms

forms_fit : Forms wire_forms
forms_fit = (
  (omega arith, refl),
  (
    (omega arith, refl),
    (
      (omega arith, refl),
      (
        (omega arith, refl),
        (
          (omega arith, refl),
          ((omega arith, refl), ((omega arith, refl), tt)),
        ),
      ),
    ),
  ),
)

same_numbers : (forms : List (ℕ × ℕ)) → Forms forms → (text ns ms one other : List ℕ)
    → NumbersAt forms text ns one → NumbersAt forms text ms other → (ns ≡ ms) × (one ≡ other)
same_numbers [] all text [] [] one other a b = (refl, sym a ∙ b)
same_numbers [] all text (n ∷ ns) ms one other a b = absurd a
same_numbers [] all text [] (m ∷ ms) one other a b = absurd b
same_numbers (form ∷ forms) all text [] ms one other a b = absurd a
same_numbers (form ∷ forms) all text (n ∷ ns) [] one other a b = absurd b
same_numbers (form ∷ forms) all text (n ∷ ns) (m ∷ ms) one other a b =
    let (here, more) = same_number form.0 form.1 text n m a.0 b.0 all.0.0 all.0.1 a.1 b.1 in
    let (ends, later) = same_numbers forms all.1 b.0 ns ms one other
    (subst (λ (t : List ℕ). NumbersAt forms t ns one) more a.2) b.2 in
    let whole : n ∷ ns ≡ m ∷ ms = cc in
    (whole, later)

abbrev made : List ℕ → Wire
made numbers = record {
  node = get_or numbers 0 0;
  drop = get_or numbers 1 0;
  word = get_or numbers 2 0;
  from = get_or numbers 3 0;
  from_drop = get_or numbers 4 0;
  from_word = get_or numbers 5 0;
  count = get_or numbers 6 0;
}

same_record : (one other : Wire) → numbers_of one ≡ numbers_of other → one ≡ other
same_record one other e = ap made e

pub same_wire : (text : List ℕ) (one other : Wire) (rest more : List ℕ)
    → BeginsWithWire text one rest → BeginsWithWire text other more → one ≡ other
same_wire text one other rest more a b =
    same_record one other (same_numbers wire_forms forms_fit text (numbers_of one)
    (numbers_of other) rest more (wire_numbers text one rest a) (wire_numbers text other more b)).0

-- two wires with one line are one
pub same_line : (one other : Wire) → HasSmallNumbers one → HasSmallNumbers other
    → wire_line one ≡ wire_line other → one ≡ other
same_line one other small few e =
    same_wire (wire_line one ++ []) one other [] []
    (record { small = small; whole = refl })
    (record { small = few; whole = ap (λ (l : List ℕ). l ++ []) e })
