-- The first word of a text, and the words behind it.
use Rattle.std.proofs.Common.{◌≡◌, ℕ, suc, ◌+◌, ◌<◌, ◌≤◌, Bool, true, false, cond, not, List, []}
use Rattle.std.proofs.Common.{◌∷◌, length, take, drop, get_or, nat_lt, Some, None, refl, sym, ap}
use Rattle.std.proofs.Common.{◌∙◌, arith, add-one}
use Rattle.std.specs.Prelude.{filter, ◌==◌}
use Rattle.std.specs.List.{slice_split, position, position_or_len}
use Rattle.std.proofs.Math.Nat.{add_comm}
use Rattle.std.proofs.Math.Seq.{drop-length}
use Rattle.std.proofs.lemmas.List.{drop_more}
use Rattle.std.proofs.lemmas.List.Quantifiers.{position-Some}
use Rattle.std.proofs.lemmas.List.Sums.{position_or_len_is}
use Rattle.std.proofs.lemmas.Bool.Decides.{nat_tests}
use Rattle.cell_text.specs.Words.{is_blank, text_words}

-- a word has a byte
abbrev is_some_byte : List ℕ → Bool
is_some_byte word = not (length word == 0)

-- a byte of a word
abbrev is_word_byte : ℕ → Bool
is_word_byte byte = not (is_blank byte)

-- one byte more is taken
pub take-front : (n b : ℕ) (bs : List ℕ) → take (1 + n) (b ∷ bs) ≡ b ∷ take n bs
take-front n b bs = rw (add_comm 1 n, add-one) refl

-- one byte more is dropped
pub drop-front : (n b : ℕ) (bs : List ℕ) → drop (1 + n) (b ∷ bs) ≡ drop n bs
drop-front n b bs = rw (add_comm 1 n, add-one) refl

-- blanks in front are no words
text_words-blank : (b : ℕ) (bs : List ℕ) → is_blank b ≡ true → text_words (b ∷ bs) ≡ text_words bs
unfolding text_words
text_words-blank b bs h = rw h refl

-- a blank in front is skipped, another byte is not
skipped : (v : Bool) (b : ℕ) (bs : List ℕ) → is_blank b ≡ v
    → text_words bs ≡ text_words (drop (position_or_len is_word_byte bs) bs)
    → text_words (b ∷ bs)
    ≡ text_words (drop (cond (not (not v)) (1 + position_or_len is_word_byte bs) 0) (b ∷ bs))
skipped true b bs h ih = text_words-blank b bs h ∙ ih
    ∙ ap text_words (sym (drop-front (position_or_len is_word_byte bs) b bs))
skipped false b bs h ih = refl

-- the words of a text are those from its first word on
text_words-skip : (t : List ℕ) → text_words t ≡ text_words (drop (position_or_len is_word_byte t) t)
text_words-skip [] = refl
text_words-skip (b ∷ bs) = skipped (is_blank b) b bs refl (text_words-skip bs)

-- the words are the parts that have a byte
pub words_as_filter : (t : List ℕ) → filter is_some_byte (slice_split is_blank t) ≡ text_words t
unfolding text_words
words_as_filter t = refl

-- a text of nothing has no words
pub words_of_nil : text_words [] ≡ []
unfolding text_words
words_of_nil = refl

-- the same, the other way round
words_as_filter_nil : [] ≡ text_words []
words_as_filter_nil = sym words_of_nil

-- one byte more within the length
len_more : (v : Bool) (m n : ℕ) → m ≤ n → cond v (1 + m) 0 ≤ suc n
len_more true m n h = omega arith
len_more false m n h = omega arith

-- a place found or the length is within the length
position_or_len-le : {A : Type 0} (p : A → Bool) (xs : List A) → position_or_len p xs ≤ length xs
position_or_len-le p [] = omega arith
position_or_len-le p (x ∷ xs) = len_more (not (p x)) _ _ (position_or_len-le p xs)

-- a text is cut into its first part and others, which are those of the text behind that part
record Cut (t : List ℕ) : Type 0 where
  others : List (List ℕ)
  parts : slice_split is_blank t ≡ take (position_or_len is_blank t) t ∷ others
  behind : filter is_some_byte others ≡ text_words (drop (position_or_len is_blank t) t)

-- a cut of a text that has one byte more in front
cut_more : (v : Bool) (b : ℕ) (bs : List ℕ) → is_blank b ≡ v → Cut bs → Cut (b ∷ bs)
cut_more true b bs h c =
    let same : b ∷ bs ≡ drop (position_or_len is_blank (b ∷ bs)) (b ∷ bs) = rw h refl in
    record {
      others = slice_split is_blank bs;
      parts = rw h refl;
      behind = words_as_filter bs ∙ sym (text_words-blank b bs h) ∙ ap text_words same;
    }
cut_more false b bs h c =
    let same : drop (position_or_len is_blank bs) bs
    ≡ drop (position_or_len is_blank (b ∷ bs)) (b ∷ bs) = rw (h, drop-front) refl in
    record {
      others = c.others;
      parts = rw (h, c.parts, take-front) refl;
      behind = c.behind ∙ ap text_words same;
    }

-- so each text is cut
cut : (t : List ℕ) → Cut t
cut [] = record { others = []; parts = refl; behind = words_as_filter_nil }
cut (b ∷ bs) = cut_more (is_blank b) b bs refl (cut bs)

-- a length above 0
some_byte : (n : ℕ) → not (suc n == 0) ≡ true
some_byte n = grind (arith, nat_tests)

-- a first part that has a byte is a word
some_first : (word : List ℕ) (others rest : List (List ℕ)) (b : ℕ) (bs : List ℕ) → word ≡ b ∷ bs
    → filter is_some_byte others ≡ rest
    → filter is_some_byte (word ∷ others) ≡ word ∷ rest
some_first word others rest b bs same h = rw (same, h, some_byte (length bs)) refl

-- a text that begins with a word has that word first
text_words-first : (b : ℕ) (bs : List ℕ) → is_blank b ≡ false → text_words (b ∷ bs)
    ≡ take (position_or_len is_blank (b ∷ bs)) (b ∷ bs)
    ∷ text_words (drop (position_or_len is_blank (b ∷ bs)) (b ∷ bs))
text_words-first b bs h =
    let c = cut (b ∷ bs) in
    let word : take (position_or_len is_blank (b ∷ bs)) (b ∷ bs)
    ≡ b ∷ take (position_or_len is_blank bs) bs = rw (h, take-front) refl in
    sym (words_as_filter (b ∷ bs)) ∙ ap (filter is_some_byte) c.parts
    ∙ some_first (take (position_or_len is_blank (b ∷ bs)) (b ∷ bs)) c.others
    (text_words (drop (position_or_len is_blank (b ∷ bs)) (b ∷ bs))) b
    (take (position_or_len is_blank bs) bs) word c.behind

-- a test that does not hold
pub not_blank : (v : Bool) → not v ≡ true → v ≡ false
not_blank true h = sym h
not_blank false h = refl

-- the parts of a text behind its first blanks
pub text_words-split : (t rest word behind : List ℕ) (start end : ℕ)
    → Some start ≡ position is_word_byte t → rest ≡ drop start t
    → end ≡ position_or_len is_blank rest → word ≡ take end rest → behind ≡ drop end rest
    → text_words t ≡ word ∷ text_words behind
text_words-split t rest word behind start end found r e w b =
    let s = position-Some is_word_byte t start 0 (sym found) in
    let within : start < length t = s.0 in
    let at : position_or_len is_word_byte t ≡ start = position_or_len_is is_word_byte t start 0
    (omega arith) s.2 (λ _. s.1) in
    let front : drop start t ≡ get_or t start 0 ∷ drop (start + 1) t = drop_more t start 0 within in
    let first = text_words-first (get_or t start 0) (drop (start + 1) t)
    (not_blank (is_blank (get_or t start 0)) s.1) in
    let again : text_words rest ≡ take (position_or_len is_blank rest) rest
    ∷ text_words (drop (position_or_len is_blank rest) rest) = rw (r, front) first in
    text_words-skip t ∙ ap (λ n. text_words (drop n t)) at ∙ ap text_words (sym r) ∙ again
    ∙ rw (w, b, e) refl

-- a place that is not found is none
position_none : (v : Bool) (m n : ℕ) → cond v (Some m) None ≡ None → v ≡ false
position_none true m n h = cc
position_none false m n h = refl

-- where a place is not found, it counts as the length
pub position_or_len-none : {A : Type 0} (p : A → Bool) (xs : List A) → None ≡ position p xs
    → length xs ≡ position_or_len p xs
position_or_len-none p xs h =
    let past = position_none (nat_lt (position_or_len p xs) (length xs))
    (position_or_len p xs) 0 (sym h) in
    let low = position_or_len-le p xs in
    grind (arith, nat_tests)

-- a text in which no word starts has none
pub text_words-none : (t : List ℕ) → None ≡ position is_word_byte t → text_words t ≡ []
text_words-none t h =
    let past : length t ≡ position_or_len is_word_byte t = position_or_len-none is_word_byte t h in
    text_words-skip t ∙ ap (λ n. text_words (drop n t)) (sym past) ∙ ap text_words (drop-length t)
    ∙ words_of_nil
