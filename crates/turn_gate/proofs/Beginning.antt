-- A new table keeps the rule of its gate.
use Rattle.std.proofs.Common.{◌≡◌, ℕ, zero, suc, List, [], ◌∷◌, map, Some, Option, refl, sym, ap}
use Rattle.std.proofs.Common.{◌∙◌, subst, inl, arith, true, false}
use Rattle.std.proofs.lemmas.List.{append-nil}
use mathlib.Core.Option.{some, some-injective, some-ne-none}
use lib.ListN.{get_elem?}
use Rattle.atomic_table.specs.Table.{opening}
use Rattle.turn_gate.specs.declared.views.View.{View}
use Rattle.turn_gate.specs.Rule.{first_view, Account, ViewFits, OwnsNumber, Rule}
use Rattle.turn_gate.proofs.Lists.{at_only}
use Rattle.turn_gate.proofs.Owning.{distinct-nil, distinct-cons}

module _ {V E F : Type 0} (entries : V → List E) (fixed : V → F) (maker : E → ℕ) (first : V) where
  -- both words are 0, the opening value is at home, and pass 0 has seen its entries
  pub begins : (xs : List (Option V)) → xs ≡ Some first ∷ []
      → Rule entries fixed maker first (opening (0 ∷ 0 ∷ []) xs (first_view (entries first)))
  begins xs is = record {
    account = start;
    words = refl;
    homes = ap (map some) is;
    ordered = omega arith;
    counted = refl;
    at_home = (sym (append-nil _), refl);
    held = λ t low high. absurd (omega arith);
    each = one;
    longest = (0, v, refl, sym (append-nil _));
    named = λ k e h. absurd (some-ne-none e (sym h));
    root = (v, refl, ([], (0, refl)), refl);
    few = refl;
    distinct = distinct-nil;
    low = λ n h. absurd (let no : false ≡ true = h in cc);
  }
    where
      v : View E
      v = first_view (entries first)

      start : Account V E
      start = record {
        made = [];
        ticket = 0;
        serving = 0;
        holder = λ _. 0;
        owner = λ _. 0;
        given = [];
        slot = Some first;
      }

      owns : (n : ℕ) (es : List E) (k : ℕ)
          → get_elem? {A = ℕ × List E} ((0, []) ∷ []) k ≡ some (n, es)
          → OwnsNumber maker (entries first) [] (λ _. 0) [] 0 (entries first) [] n es
      owns n es k there = let p = at_only (0, []) (n, es) k there in
          record {
            exact = sym (ap (λ (q : ℕ × List E). q.1) p);
            owner_is = refl;
            origin = inl (sym (ap (λ (q : ℕ × List E). q.0) p));
            opening_is = refl;
            unseen = refl;
          }

      one : (j : ℕ) (d : View E) → get_elem? (v ∷ []) j ≡ some d
          → ViewFits maker (entries first) start j d
      one zero d e = subst (ViewFits maker (entries first) start 0) (some-injective v d e) (record {
        begins = ([], append-nil _ ∙ sym (append-nil _));
        heard = λ k s e. absurd (some-ne-none s (sym e));
        early = [];
        rest = [];
        made_is = refl;
        seen_is = λ _ _ _. sym (append-nil _);
        phase = tt;
        lives = λ t has. absurd has;
        owns = λ n es k. owns n es k.0 k.1;
        differ = distinct-cons 0 [] refl distinct-nil;
      })
      one (suc j) d e = absurd (some-ne-none d (sym e))
