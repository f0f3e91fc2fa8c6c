-- Runs of writers, put together.
use Rattle.std.proofs.Common.{◌≡◌, ℕ, zero, suc, ◌<◌, List, [], ◌∷◌, ◌++◌, length, map, set}
use Rattle.std.proofs.Common.{slice_index_or, sym, ap, ◌∙◌, arith}
use Rattle.std.proofs.lemmas.List.{map-append}
use Rattle.std.proofs.lemmas.List.Elements.{All-append}
use Rattle.gated_tape.specs.declared.tapes.Mark.{Mark}
use Rattle.gated_tape.specs.declared.runs.Writer.{Writer}
use Rattle.gated_tape.specs.Sides.{Frame}
use Rattle.gated_tape.specs.Runs.{card_of, HasEnded, EachWriterRan}

module _ {S P : Type 0} (frame : S → Frame P) (known : S → List Mark) (count : ℕ) where
  -- no writer ran
  pub ran_none : EachWriterRan frame known count [] []
  ran_none = record { ended = λ k d low. absurd (omega arith); cards = λ i. [] }

  -- a list of one writer
  pub ran_one : (l : List (Writer S)) (w d : Writer S) → length l ≡ 1 → HasEnded frame known count w
      → card_of frame known w ≡ card_of frame known (slice_index_or l 0 d)
      → EachWriterRan frame known count l (set l 0 w)
  ran_one [] w d long ended card = absurd (omega arith)
  ran_one (v ∷ []) w d long ended card = record { ended = one; cards = ap (λ c. c ∷ []) card }
    where
      one : (k : ℕ) (e : Writer S) → k < 1
          → HasEnded frame known count (slice_index_or (w ∷ []) k e)
      one zero e low = ended
      one (suc k) e low = absurd (omega arith)
  ran_one (v ∷ u ∷ us) w d long ended card = absurd (omega arith)

  -- two runs over the halves of a list are one over the whole
  ran_both : (a b c d : List (Writer S)) → EachWriterRan frame known count a c
      → EachWriterRan frame known count b d → EachWriterRan frame known count (a ++ b) (c ++ d)
  ran_both a b c d p q = record {
    ended = All-append (HasEnded frame known count) c d p.ended q.ended;
    cards = map-append (card_of frame known) c d
        ∙ ((λ i. p.cards i ++ q.cards i) ∙ sym (map-append (card_of frame known) a b));
  }

  -- and so of halves that make up a list
  pub ran_halves : (whole a b c d : List (Writer S)) → whole ≡ a ++ b
      → EachWriterRan frame known count a c → EachWriterRan frame known count b d
      → EachWriterRan frame known count whole (c ++ d)
  ran_halves whole a b c d is p q =
      let both = ran_both a b c d p q in
      record { ended = both.ended; cards = both.cards ∙ ap (map (card_of frame known)) (sym is) }
