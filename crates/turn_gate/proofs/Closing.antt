-- What pass 0 learns as the gate is taken apart, once it keeps all numbers that it gave.
use Rattle.std.proofs.Common.{◌≡◌, ◌⊎◌, ℕ, List, [], ◌∷◌, ◌++◌, true, Some, None, Option, refl, sym}
use Rattle.std.proofs.Common.{ap, ◌∙◌, subst, ⊎_elim}
use Rattle.std.proofs.lemmas.List.{append-nil}
use mathlib.Core.Option.{some, some-injective}
use lib.ListN.{get_elem?}
use Rattle.atomic_table.specs.Table.{State, Final, Seen}
use Rattle.turn_gate.specs.declared.views.Phase.TheVariants.{Idle, Inside}
use Rattle.turn_gate.specs.declared.views.View.{View}
use Rattle.turn_gate.specs.Known.{is_among, StartsWith}
use Rattle.turn_gate.specs.Rule.{KeepsNumber, Account, HasTicket, ViewFits, IsAtHome, home_of, Rule}
use Rattle.turn_gate.specs.Moves.{Exact}
use Rattle.turn_gate.proofs.Lists.{none_at, at_right}
use Rattle.turn_gate.proofs.Heeding.{exact_in_all}
use Rattle.turn_gate.proofs.Owning.{own-has}

module _ {V E F : Type 0} (entries : V → List E) (fixed : V → F) (maker : E → ℕ) (first : V) where
  -- the slot has a value x with the opening fixed part: its entries are those that the pass has
  -- seen, and
  -- begin with all that it heard of; the own lists of the pass are exact, and each entry names one
  -- of its numbers
  pub record Closes (v : View E) (xs : List (Option V)) : Type 0 where
    pub x : V
    pub is_there : get_elem? xs 0 ≡ some (Some x)
    pub whole : entries x ≡ v.seen
    pub heard : (k : ℕ) (s : List E) → get_elem? v.heard k ≡ some s → StartsWith (entries x) s
    pub lists : Exact maker v (entries x)
    pub made : List E
    pub made_is : entries x ≡ v.opening ++ made
    pub named : (k : ℕ) (e : E) → get_elem? made k ≡ some e → KeepsNumber v (maker e)
    pub fixed_is : fixed x ≡ fixed first

  module _ (id : ℕ) (v : View E) (zero_kept : KeepsNumber v 0)
      (all : (n : ℕ) → is_among n v.given ≡ true → KeepsNumber v n)
      (s : State (Option V) (View E)) (r : Rule entries fixed maker first s)
      (at : get_elem? s.views id ≡ some v) where
    -- pass 0 has the list of all numbers given
    given_is : r.account.given ≡ v.given
    given_is =
        let q = r.root in
        let zero_is = (r.each id v at).owns 0 zero_kept.0 zero_kept.1 in
        let root_is : q.0 ≡ v =
        some-injective q.0 v (sym q.1 ∙ (ap (get_elem? s.views) zero_is.owner_is ∙ at)) in
        sym q.3 ∙ ap (λ (x : View E). x.given) root_is

    -- it keeps 0 and each number given
    keeps_all : (n : ℕ) → (n ≡ 0) ⊎ (is_among n r.account.given ≡ true) → KeepsNumber v n
    keeps_all n origin =
        ⊎_elim (λ (e : n ≡ 0). subst (λ (m : ℕ). KeepsNumber v m) (sym e) zero_kept)
        (λ (e : is_among n r.account.given ≡ true).
        all n (sym (ap (is_among n) given_is) ∙ e)) origin

    -- so it keeps the number of each entry made
    keeps_maker : (k : ℕ) (e : E) → get_elem? r.account.made k ≡ some e → KeepsNumber v (maker e)
    keeps_maker k e there =
        let q = r.named k e there in
        let o = (r.each (r.account.owner (maker e)) q.0 q.1).owns (maker e) q.2.0 q.2.1 in
        keeps_all (maker e) o.origin

    -- and no entry is left that it has not seen
    none_unseen : (r.each id v at).rest ≡ []
    none_unseen =
        let mine : ViewFits maker (entries first) r.account id v = r.each id v at in
        none_at mine.rest (λ k e there.
        let p = at_right mine.early mine.rest k e there in
        let kept = keeps_maker p.0 e (ap (λ l. get_elem? l p.0) mine.made_is ∙ p.1) in
        own-has maker mine.rest k e there (mine.owns (maker e) kept.0 kept.1).unseen)

    -- it has seen all entries
    seen_all : v.seen ≡ entries first ++ r.account.made
    seen_all =
        let mine : ViewFits maker (entries first) r.account id v = r.each id v at in
        mine.seen_is 0 zero_kept.0 zero_kept.1 ∙ ap (λ l. entries first ++ l)
        (sym (mine.made_is ∙ (ap (λ l. mine.early ++ l) none_unseen ∙ append-nil mine.early)))

    -- and no other pass is inside
    none_inside : v.phase ≡ Idle → (u : View E)
        → get_elem? s.views (r.account.holder r.account.serving) ≡ some u
        → u.phase ≡ Inside r.account.serving → ⊥
    none_inside idle u there is_in =
        let account : Account V E = r.account in
        let j : ℕ = account.holder account.serving in
        let f : ViewFits maker (entries first) account j u = r.each j u there in
        let l = f.lives account.serving
        (subst (λ p. HasTicket p account.serving) (sym is_in) refl) in
        let o = f.owns l.0 l.1.0 l.1.1 in
        let kept = keeps_all l.0 o.origin in
        let same_seat : j ≡ id = sym o.owner_is
        ∙ ((r.each id v at).owns l.0 kept.0 kept.1).owner_is in
        let same : u ≡ v =
        some-injective u v (sym there ∙ (ap (get_elem? s.views) same_seat ∙ at)) in
        let no : Idle ≡ Inside account.serving = sym idle
        ∙ (sym (ap (λ (x : View E). x.phase) same) ∙ is_in) in cc

    close_at : (xs : List (Option V)) → v.phase ≡ Idle
        → ((k : ℕ) (y : Option V) → get_elem? s.homes k ≡ some (some y) → get_elem? xs k ≡ some y)
        → (slot : Option V) → r.account.slot ≡ slot → IsAtHome entries fixed
        (entries first ++ r.account.made) (fixed first) r.account s.views slot
        → Closes v xs
    close_at xs idle values None is h = absurd (none_inside idle h.0 h.1 h.2)
    close_at xs idle values (Some x) is h =
        let here = r.homes ∙ ap (λ (o : Option V). home_of o ∷ []) is in
        record {
          x = x;
          is_there = values 0 (Some x) (ap (λ hs. get_elem? hs 0) here);
          whole = h.0 ∙ sym seen_all;
          heard = λ k front e. subst (λ l. StartsWith l front) (sym h.0)
              ((r.each id v at).heard k front e);
          lists = exact_in_all entries fixed maker first s r id v at 0 zero_kept (entries x) h.0;
          made = r.account.made;
          made_is = h.0 ∙ ap (λ l. l ++ r.account.made)
              (sym ((r.each id v at).owns 0 zero_kept.0 zero_kept.1).opening_is);
          named = keeps_maker;
          fixed_is = h.1;
        }

  pub closes : (id : ℕ) (v : View E) (ws : List ℕ) (xs : List (Option V)) → v.phase ≡ Idle
      → KeepsNumber v 0
      → ((n : ℕ) → is_among n v.given ≡ true → KeepsNumber v n)
      → Final (Seen (Rule entries fixed maker first) id v) ws xs → Closes v xs
  closes id v ws xs idle zero_kept all f = close_at id v zero_kept all f.0 f.1.0 f.1.1 xs idle f.4
      f.1.0.account.slot refl f.1.0.at_home
