-- Passes dealt to writers.
use Rattle.std.proofs.Common.{◌≡◌, ℕ, zero, suc, ◌<◌, ◌||◌, false, List, [], ◌∷◌, ◌++◌, All, Some}
use Rattle.std.proofs.Common.{reverse, refl, sym, ap, ◌∙◌, ne_eqb, arith}
use Rattle.std.proofs.lemmas.List.{map-append, reverse-append}
use Rattle.std.proofs.lemmas.List.Elements.{All-append}
use Rattle.turn_gate.specs.Known.{GateName, GateFacts, first_pass, is_among}
use Rattle.gated_tape.specs.declared.tapes.Mark.{Mark}
use Rattle.gated_tape.specs.Marks.{mark_count}
use Rattle.gated_tape.specs.Sides.{SideFacts, gated_frame}
use Rattle.gated_tape.specs.Runs.{card_of, IsFreshWriter}
use Rattle.gated_tape.specs.Crews.{GatedWriter, count_down, seen_of, cards_of, writer_nodes}
use Rattle.gated_tape.specs.Crews.{frame_at}
use Rattle.gated_tape.specs.Crews.{IsCardOver, AreDealt}

-- what holds of one element holds of all of a list of one
pub all_one : {A : Type 0} (P : A → Type 0) (x : A) → P x → All P (x ∷ [])
all_one P x p zero d low = p
all_one P x p (suc k) d low = absurd (omega arith)

-- a number above those that were counted down
pub fresh_above : (k n : ℕ) → n < k → is_among k (count_down n) ≡ false
unfolding count_down
fresh_above k zero low = refl
fresh_above k (suc n) low = ap (λ b. b || is_among k (count_down n))
    (ne_eqb k (suc n) (λ e. omega arith)) ∙ fresh_above k n (omega arith)

-- 0 is not counted down to
pub positive_down : (n : ℕ) → is_among 0 (count_down n) ≡ false
unfolding count_down
positive_down zero = refl
positive_down (suc n) =
    ap (λ b. b || is_among 0 (count_down n)) (ne_eqb 0 (suc n) (λ e. omega arith)) ∙ positive_down n

-- pass 0 of a new gate has given no number
pub first_given : (gate : GateName Mark)
    → first_pass gate ≡ record (first_pass gate) { given = count_down 0 }
unfolding count_down
first_given gate = refl

-- pass 0, which gave all numbers up to n and one more
pub next_given : (gate : GateName Mark) (n m : ℕ) → m ≡ suc n
    → record (first_pass gate) { given = m ∷ count_down n }
    ≡ record (first_pass gate) { given = count_down m }
unfolding count_down
next_given gate n m is = ap (λ k. record (first_pass gate) { given = k ∷ count_down n }) is
    ∙ ap (λ k. record (first_pass gate) { given = count_down k }) (sym is)

module _ (one two : GateFacts Mark ℕ) where
  -- no writer is dealt yet
  pub dealt_none : AreDealt one two (count_down 0) []
  unfolding count_down
  dealt_none = record {
    fresh = λ k d low. absurd (omega arith);
    at = λ k d low. absurd (omega arith);
    nodes = refl;
  }

  -- a side over a new pass of a gate that opened empty
  abbrev new_side : GateFacts Mark ℕ → ℕ → SideFacts
  new_side gate n = record { gate = gate; number = n; seen = gate.name.opening }

  unwritten : (gate : GateFacts Mark ℕ) (side : SideFacts) (n : ℕ) → gate.name.opening ≡ []
      → side ≡ new_side gate n → mark_count n (seen_of side) ≡ 0
  unwritten gate side n opening is = ap (λ (s : SideFacts). mark_count n s.seen) is
      ∙ ap (mark_count n) opening

  -- one more writer with sides of its own
  pub dealt_next : (n m : ℕ) (writers : List GatedWriter) (w : GatedWriter) → one.name.opening ≡ []
      → two.name.opening ≡ [] → m ≡ suc n
      → AreDealt one two (count_down n) writers
      → w.node ≡ m → w.one ≡ new_side one m → w.two ≡ new_side two m
      → AreDealt one two (count_down m) (writers ++ w ∷ [])
  unfolding count_down
  dealt_next n m writers w open_one open_two is dealt node one_is two_is = record {
    fresh = All-append (IsFreshWriter gated_frame seen_of) writers (w ∷ []) dealt.fresh
        (all_one (IsFreshWriter gated_frame seen_of) w (record {
          serves_one = ap (λ (s : SideFacts). Some s.number) one_is ∙ ap Some (sym node);
          serves_two = ap (λ (s : SideFacts). Some s.number) two_is ∙ ap Some (sym node);
          unwritten_one = ap (λ k. mark_count k (seen_of w.one)) node
              ∙ unwritten one w.one m open_one one_is;
          unwritten_two = ap (λ k. mark_count k (seen_of w.two)) node
              ∙ unwritten two w.two m open_two two_is;
        }));
    at = cards_at;
    nodes = ap reverse (map-append (λ (v : GatedWriter). v.node) writers (w ∷ []))
        ∙ (reverse-append (writer_nodes writers) (w.node ∷ [])
        ∙ ((λ i. (node ∙ is) i ∷ dealt.nodes i) ∙ ap count_down (sym is)));
  }
    where
      card : IsCardOver one two (card_of gated_frame seen_of w)
      card = (
        ap gated_frame one_is ∙ ap (frame_at one) (sym node),
        ap gated_frame two_is ∙ ap (frame_at two) (sym node),
      )

      cards_at : All (IsCardOver one two) (cards_of (writers ++ w ∷ []))
      cards_at = Rattle.std.proofs.Common.subst (All (IsCardOver one two))
          (sym (map-append (card_of gated_frame seen_of) writers (w ∷ [])))
          (All-append (IsCardOver one two) (cards_of writers)
          (card_of gated_frame seen_of w ∷ []) dealt.at
          (all_one (IsCardOver one two) (card_of gated_frame seen_of w) card))
