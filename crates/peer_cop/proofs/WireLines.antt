-- The line of a wire at the front of a text.
use Rattle.std.proofs.Common.{◌≡◌, ℕ, ◌^◌, ◌≤◌, ◌<◌, false, List, [], ◌∷◌, ◌++◌, refl, sym, ap}
use Rattle.std.proofs.Common.{subst, ◌∙◌, append_assoc, arith}
use Rattle.std.specs.Fmt.{decimal}
use Rattle.plant_types.specs.Numerals.{is_digit}
use Rattle.peer_cop.specs.declared.wire.Wire.{Wire}
use Rattle.peer_cop.specs.Lines.{BeginsWithNumber, BeginsWithWire, HasSmallNumbers}
use Rattle.peer_cop.specs.Lines.{numbers_of, wire_line}
use Rattle.peer_cop.proofs.Numbers.{same_number}

-- numbers, each below its limit and with its byte after it
abbrev pub NumbersAt : List (ℕ × ℕ) → List ℕ → List ℕ → List ℕ → Type 0
NumbersAt [] text [] rest = text ≡ rest
NumbersAt [] text (n ∷ ns) rest = ⊥
NumbersAt (form ∷ forms) text [] rest = ⊥
NumbersAt (form ∷ forms) text (n ∷ ns) rest =
    (more : List ℕ) × BeginsWithNumber form.0 form.1 text n more × NumbersAt forms more ns rest

-- a text does not begin with numbers of these forms
pub record HasNone (forms : List (ℕ × ℕ)) (text : List ℕ) : Type 0 where
  pub none : (ns rest : List ℕ) → ¬ (NumbersAt forms text ns rest)

-- the limits of a wire's numbers and the bytes after them
abbrev pub small : ℕ × ℕ
small = (2 ^ 8, 32)

abbrev pub word : ℕ × ℕ
word = (2 ^ 16, 32)

abbrev pub last : ℕ × ℕ
last = (2 ^ 16, 10)

abbrev pub from_forms : List (ℕ × ℕ)
from_forms = small ∷ small ∷ word ∷ last ∷ []

abbrev pub wire_forms : List (ℕ × ℕ)
wire_forms = small ∷ small ∷ word ∷ from_forms

-- a text without the first number has none of them, and so has one whose rest has not the others
pub none_here : (forms : List (ℕ × ℕ)) (limit end : ℕ) (text : List ℕ)
    → ((n : ℕ) (rest : List ℕ) → ¬ (BeginsWithNumber limit end text n rest))
    → HasNone ((limit, end) ∷ forms) text
none_here forms limit end text none =
    record { none = go }
  where
    go : (ns rest : List ℕ) → ¬ (NumbersAt ((limit, end) ∷ forms) text ns rest)
    go [] rest at = at
    go (n ∷ ns) rest at = none n at.0 at.1

pub none_later : {forms : List (ℕ × ℕ)} {limit end : ℕ} {text : List ℕ} {m : ℕ} {more : List ℕ}
    → limit ≤ 2 ^ 16 → is_digit end ≡ false → BeginsWithNumber limit end text m more
    → HasNone forms more → HasNone ((limit, end) ∷ forms) text
none_later {forms} {limit} {end} {text} {m} {more} few apart here later =
    record { none = go }
  where
    go : (ns rest : List ℕ) → ¬ (NumbersAt ((limit, end) ∷ forms) text ns rest)
    go [] rest at = at
    go (n ∷ ns) rest at =
        let same = same_number limit end text n m at.0 more few apart at.1 here in
        later.none ns rest (subst (λ (t : List ℕ). NumbersAt forms t ns rest) same.1 at.2)

pub small_later : {forms : List (ℕ × ℕ)} {text : List ℕ} {m : ℕ} {more : List ℕ}
    → BeginsWithNumber (2 ^ 8) 32 text m more → HasNone forms more
    → HasNone (small ∷ forms) text
small_later here later = none_later (omega arith) refl here later

pub word_later : {forms : List (ℕ × ℕ)} {text : List ℕ} {m : ℕ} {more : List ℕ}
    → BeginsWithNumber (2 ^ 16) 32 text m more → HasNone forms more → HasNone (word ∷ forms) text
word_later here later = none_later (omega arith) refl here later

-- a wire's line and what follows it, number by number
abbrev line_from : Wire → List ℕ → List ℕ
line_from wire rest =
    decimal wire.node ++ 32 ∷ (decimal wire.drop ++ 32 ∷ (decimal wire.word ++ 32 ∷
    (decimal wire.from ++ 32 ∷ (decimal wire.from_drop ++ 32 ∷ (decimal wire.from_word ++ 32 ∷
    (decimal wire.count ++ 10 ∷ rest))))))

line_apart : (wire : Wire) (rest : List ℕ) → wire_line wire ++ rest ≡ line_from wire rest
unfolding wire_line
line_apart wire rest = simp append_assoc

at_number : (limit end n : ℕ) (more : List ℕ) → n < limit
    → BeginsWithNumber limit end (decimal n ++ end ∷ more) n more
at_number limit end n more below = record { below = below; whole = refl }

-- a text that begins with a wire has the numbers of the wire
numbers_from : (wire : Wire) (rest : List ℕ) → HasSmallNumbers wire
    → NumbersAt wire_forms (line_from wire rest) (numbers_of wire) rest
numbers_from wire rest is = (
  _,
  at_number (2 ^ 8) 32 wire.node _ is.node,
  (
    _,
    at_number (2 ^ 8) 32 wire.drop _ is.drop,
    (
      _,
      at_number (2 ^ 16) 32 wire.word _ is.word,
      (
        _,
        at_number (2 ^ 8) 32 wire.from _ is.from,
        (
          _,
          at_number (2 ^ 8) 32 wire.from_drop _ is.from_drop,
          (
            _,
            at_number (2 ^ 16) 32 wire.from_word _ is.from_word,
            (
              rest,
              at_number (2 ^ 16) 10 wire.count rest is.count,
              refl,
            ),
          ),
        ),
      ),
    ),
  ),
)

pub wire_numbers : (text : List ℕ) (wire : Wire) (rest : List ℕ) → BeginsWithWire text wire rest
    → NumbersAt wire_forms text (numbers_of wire) rest
wire_numbers text wire rest is =
    subst (λ (t : List ℕ). NumbersAt wire_forms t (numbers_of wire) rest)
    (sym (is.whole ∙ line_apart wire rest)) (numbers_from wire rest is.small)

pub no_wire : (text : List ℕ) → HasNone wire_forms text → (wire : Wire) (rest : List ℕ)
    → ¬ (BeginsWithWire text wire rest)
no_wire text none wire rest is = none.none (numbers_of wire) rest (wire_numbers text wire rest is)

-- a text with the numbers of a wire begins with the wire
pub wire_from : (wire : Wire) (text one two three four five six rest : List ℕ)
    → BeginsWithNumber (2 ^ 8) 32 text wire.node one
    → BeginsWithNumber (2 ^ 8) 32 one wire.drop two
    → BeginsWithNumber (2 ^ 16) 32 two wire.word three
    → BeginsWithNumber (2 ^ 8) 32 three wire.from four
    → BeginsWithNumber (2 ^ 8) 32 four wire.from_drop five
    → BeginsWithNumber (2 ^ 16) 32 five wire.from_word six
    → BeginsWithNumber (2 ^ 16) 10 six wire.count rest
    → BeginsWithWire text wire rest
wire_from wire text one two three four five six rest a b c d e f g = record {
  small = record {
    node = a.below;
    drop = b.below;
    word = c.below;
    from = d.below;
    from_drop = e.below;
    from_word = f.below;
    count = g.below;
  };
  whole =
      a.whole ∙ ap (λ (t : List ℕ). decimal wire.node ++ 32 ∷ t) (b.whole
      ∙ ap (λ (t : List ℕ). decimal wire.drop ++ 32 ∷ t) (c.whole
      ∙ ap (λ (t : List ℕ). decimal wire.word ++ 32 ∷ t) (d.whole
      ∙ ap (λ (t : List ℕ). decimal wire.from ++ 32 ∷ t) (e.whole
      ∙ ap (λ (t : List ℕ). decimal wire.from_drop ++ 32 ∷ t) (f.whole
      ∙ ap (λ (t : List ℕ). decimal wire.from_word ++ 32 ∷ t) g.whole)))))
      ∙ sym (line_apart wire rest);
}
