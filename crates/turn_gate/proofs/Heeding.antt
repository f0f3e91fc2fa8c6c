-- Reading a word keeps the rule, and tells a pass that its own lists are exact.
use Rattle.std.proofs.Common.{◌≡◌, ℕ, List, ◌++◌, set, slice_index, Option, refl, sym, ap, ◌∙◌}
use Rattle.std.proofs.Common.{subst}
use Rattle.std.proofs.lemmas.List.{append-nil}
use mathlib.Core.Option.{some, none}
use lib.ListN.{get_elem?}
use Rattle.atomic_table.specs.Table.{State, Me, keeps, step, Allows}
use Rattle.atomic_table.proofs.Lists.{set_again}
use Rattle.turn_gate.specs.declared.views.View.{View}
use Rattle.turn_gate.specs.Known.{made_by}
use Rattle.turn_gate.specs.Rule.{HasKept, KeepsNumber, ViewFits, Rule}
use Rattle.turn_gate.specs.Moves.{Exact, Heeded}
use Rattle.turn_gate.proofs.Owning.{own-append}

module _ {V E F : Type 0} (entries : V → List E) (fixed : V → F) (maker : E → ℕ) (first : V) where
  module _ (s : State (Option V) (View E)) (r : Rule entries fixed maker first s) (id : ℕ)
      (v : View E) (at : get_elem? s.views id ≡ some v) where
    -- a word that is read and a view that stays leave the state as it is
    pub reads_only : Rule entries fixed maker first record {
      words = set s.words 1 (slice_index s.words 1);
      homes = s.homes;
      views = set s.views id v;
    }
    reads_only =
        let same : s.words ≡ set s.words 1 (slice_index s.words 1) =
        r.words ∙ sym (ap (λ ws. set ws 1 (slice_index ws 1)) r.words) in
        subst (Rule entries fixed maker first)
        (λ i. record { words = same i; homes = s.homes; views = sym (set_again s.views id v at) i })
        r

    module _ (n : ℕ) (keeps_one : KeepsNumber v n) where
      -- of all entries, the own lists of a pass are exact
      pub exact_in_all : (all : List E) → all ≡ entries first ++ r.account.made → Exact maker v all
      exact_in_all all whole =
          let mine : ViewFits maker (entries first) r.account id v = r.each id v at in
          let owned = mine.owns n keeps_one.0 keeps_one.1 in
          record {
            made = r.account.made;
            all_is = whole ∙ ap (λ l. l ++ r.account.made) (sym owned.opening_is);
            exact = λ m es k. (mine.owns m es k).exact;
          }

      -- and so they are of what it has seen
      pub exact_in_seen : Exact maker v v.seen
      exact_in_seen =
          let mine : ViewFits maker (entries first) r.account id v = r.each id v at in
          let owned = mine.owns n keeps_one.0 keeps_one.1 in
          let early_ones : (m : ℕ) (es : List E) → HasKept v m es → es
          ≡ made_by maker m mine.early =
          λ m es k. (mine.owns m es k).exact
          ∙ (ap (made_by maker m) mine.made_is
          ∙ (own-append maker m mine.early mine.rest
          ∙ (ap (λ l. made_by maker m mine.early ++ l) (mine.owns m es k).unseen
          ∙ append-nil _))) in
          record {
            made = mine.early;
            all_is = mine.seen_is n keeps_one.0 keeps_one.1
                ∙ ap (λ l. l ++ mine.early) (sym owned.opening_is);
            exact = early_ones;
          }

  pub heeds : (slots id : ℕ) (me : Me (Option V) (View E)) (n : ℕ) → KeepsNumber me.0 n
      → Allows (Rule entries fixed maker first) slots id me 1 (λ n. n)
      (Heeded maker (step slots 1 0 0 none) me)
  heeds slots id me n keeps_one s r _ at _ =
      (me.0, keeps, tt, reads_only s r id me.0 at, (refl, exact_in_seen s r id me.0 at n keeps_one))
