-- A release keeps the rule: the value is at home with the added entries, and the next ticket is
-- served.
use Rattle.std.proofs.Common.{◌≡◌, ◌≢◌, ℕ, zero, suc, ◌+◌, ◌%◌, ◌^◌, ◌<◌, List, [], ◌∷◌, ◌++◌}
use Rattle.std.proofs.Common.{length, drop, set, Some, None, Option, true, false, refl, sym, ap}
use Rattle.std.proofs.Common.{◌∙◌, subst, ⊎_elim, arith, length-set, slice_index, nat_eq}
use Rattle.std.proofs.Math.Nat.{mod-add-mod}
use Rattle.std.proofs.lemmas.List.{append_assoc, append-nil}
use Rattle.std.proofs.Math.Seq.{drop-append_seam}
use Rattle.std.specs.List.{IsDistinct}
use mathlib.Core.Logic.{dite}
use mathlib.Core.Option.{some, none, some-injective}
use native.Mathlib.Decide.{ℕ_discrete}
use lib.ListN.{get_elem?}
use Rattle.atomic_table.specs.Table.{State, Me, gives, step, put_back, rest, Allows}
use Rattle.atomic_table.proofs.Lists.{set_here}
use Rattle.turn_gate.specs.declared.views.Phase.{Phase}
use Rattle.turn_gate.specs.declared.views.Phase.TheVariants.{Idle, Waiting, Inside}
use Rattle.turn_gate.specs.declared.views.View.{View}
use Rattle.turn_gate.specs.Known.{made_by, is_among}
use Rattle.turn_gate.specs.Rule.{numbers_of, HasKept, KeepsNumber, OwnsNumber, tickets_of, Account}
use Rattle.turn_gate.specs.Rule.{InPhase, HasTicket, ViewFits, Rule}
use Rattle.turn_gate.specs.Moves.{first_grown, left_with, Released, MayLeave}
use Rattle.turn_gate.proofs.Lists.{inside_of, each_set, witness, at_append}
use Rattle.turn_gate.proofs.Owning.{own-mine, own-others, own-append, among_kept, distinct-first}
use Rattle.turn_gate.proofs.Tickets.{tickets_held-set}

-- lists by number, where the first has grown by entries that name its number
module _ {E : Type 0} (maker : E → ℕ) (by : ℕ) (mine added : List E) (later : List (ℕ × List E))
    (all_own : (k : ℕ) (e : E) → get_elem? added k ≡ some e → maker e ≡ by) where
  -- a number that was kept is kept still
  still_kept : (n : ℕ) (es : List E) (k : ℕ) → get_elem? ((by, mine) ∷ later) k ≡ some (n, es)
      → (fs : List E)
      × ((i : ℕ) × (get_elem? (first_grown added ((by, mine) ∷ later)) i ≡ some (n, fs)))
  still_kept n es zero e = let p = some-injective _ _ e in
      (mine ++ added, (0, ap (λ (q : ℕ × List E). some (q.0, mine ++ added)) p))
  still_kept n es (suc k) e = (es, (suc k, e))

  -- a list that is kept now is a list that was kept, and then the added entries that name its
  -- number
  was_kept : IsDistinct nat_eq (numbers_of ((by, mine) ∷ later)) → (n : ℕ) (fs : List E) (k : ℕ)
      → get_elem? (first_grown added ((by, mine) ∷ later)) k ≡ some (n, fs)
      → (es : List E) × (get_elem? ((by, mine) ∷ later) k ≡ some (n, es))
      × (fs ≡ es ++ made_by maker n added)
  was_kept differ n fs zero e =
      let p = some-injective _ _ e in
      let number : by ≡ n = ap (λ (q : ℕ × List E). q.0) p in
      let grown : mine ++ added ≡ fs = ap (λ (q : ℕ × List E). q.1) p in (
        mine,
        ap (λ m. some (m, mine)) number,
        sym grown ∙ ap (λ l. mine ++ l)
            (sym (own-mine maker by added all_own) ∙ ap (λ m. made_by maker m added) number),
      )
  was_kept differ n fs (suc k) e =
      let other : n ≢ by = λ same. let no : true ≡ false = sym (among_kept n later k fs e)
      ∙ (ap (λ m. is_among m (numbers_of later)) same
      ∙ distinct-first by (numbers_of later) differ) in cc in (
        fs,
        e,
        sym (append-nil fs) ∙ ap (λ l. fs ++ l) (sym (own-others maker by n added other all_own)),
      )

module _ {V E : Type 0} (entries : V → List E) (maker : E → ℕ) (v : View E) (x : V)
    (may : MayLeave entries maker v x) where
  -- the entries beyond those that it had seen are the added ones
  new_ones : drop (length v.seen) (entries x) ≡ may.added
  new_ones = ap (drop (length v.seen)) may.grown ∙ drop-append_seam v.seen may.added

  -- what the pass keeps once it has left
  kept_after : (left_with v (entries x)).kept
      ≡ first_grown may.added ((may.by, may.mine) ∷ may.later)
  kept_after i = first_grown (new_ones i) (may.kept_is i)

  -- the numbers that it keeps are the same
  same_numbers : numbers_of (left_with v (entries x)).kept ≡ numbers_of v.kept
  same_numbers = ap numbers_of kept_after ∙ sym (ap numbers_of may.kept_is)

  -- it keeps what it kept
  keeps_still : (n : ℕ) → KeepsNumber v n → KeepsNumber (left_with v (entries x)) n
  keeps_still n k =
      let p = still_kept maker may.by may.mine may.added may.later may.all_own n k.0 k.1.0
      (ap (λ l. get_elem? l k.1.0) (sym may.kept_is) ∙ k.1.1) in
      (p.0, (p.1.0, ap (λ l. get_elem? l p.1.0) kept_after ∙ p.1.1))

  -- it kept what it keeps, without the added entries
  kept_before : IsDistinct nat_eq (numbers_of v.kept) → (n : ℕ) (fs : List E)
      → HasKept (left_with v (entries x)) n fs
      → (es : List E) × HasKept v n es × (fs ≡ es ++ made_by maker n may.added)
  kept_before differ n fs k =
      let p = was_kept maker may.by may.mine may.added may.later may.all_own
      (subst (λ l. IsDistinct nat_eq (numbers_of l)) may.kept_is differ) n fs k.0
      (ap (λ l. get_elem? l k.0) (sym kept_after) ∙ k.1) in
      (p.0, (k.0, ap (λ l. get_elem? l k.0) may.kept_is ∙ p.1), p.2)

module _ {V E F : Type 0} (entries : V → List E) (fixed : V → F) (maker : E → ℕ) (first : V) where
  -- the next ticket is served, these entries are added, and the value x is at home
  abbrev after_release : Account V E → List E → V → Account V E
  after_release account added x =
      record account { made = account.made ++ added; serving = account.serving + 1; slot = Some x }

  others : (account : Account V E) (added : List E) (x : V) (id : ℕ) (all all' : List E) (j : ℕ)
      (seen : List E) → j ≢ id
      → account.holder account.serving ≡ id → (p : Phase) → InPhase account all j seen p
      → InPhase (after_release account added x) all' j seen p
  others account added x id all all' j seen apart holds Idle k = tt
  others account added x id all all' j seen apart holds (Waiting t) k =
      let low = k.0 in (
        dite (ℕ_discrete t account.serving)
            (λ e. absurd (apart (sym k.2 ∙ (ap account.holder e ∙ holds)))) (λ ne. omega arith),
        k.1,
        k.2,
      )
  others account added x id all all' j seen apart holds (Inside t) k =
      absurd (apart (sym k.holds ∙ (ap account.holder k.served ∙ holds)))

  -- the numbers of the pass that leaves
  owns_after : (s : State (Option V) (View E)) (r : Rule entries fixed maker first s) (id : ℕ)
      (v : View E) → get_elem? s.views id ≡ some v
      → (x : V) (may : MayLeave entries maker v x) (n : ℕ) (fs : List E)
      → HasKept (left_with v (entries x)) n fs
      → OwnsNumber maker (entries first) (r.account.made ++ may.added) r.account.owner
      r.account.given id v.opening [] n fs
  owns_after s r id v at x may n fs k =
      let f : ViewFits maker (entries first) r.account id v = r.each id v at in
      let p = kept_before entries maker v x may f.differ n fs k in
      let o = f.owns n p.0 p.1 in
      record {
        exact = p.2 ∙ (ap (λ l. l ++ made_by maker n may.added) o.exact
            ∙ sym (own-append maker n r.account.made may.added));
        owner_is = o.owner_is;
        origin = o.origin;
        opening_is = o.opening_is;
        unseen = refl;
      }

  -- the other passes have not seen the added entries, which name none of their numbers
  fits_after : (s : State (Option V) (View E)) (r : Rule entries fixed maker first s) (id : ℕ)
      (added : List E) (x : V) (by : ℕ)
      → ((k : ℕ) (e : E) → get_elem? added k ≡ some e → maker e ≡ by) → r.account.owner by ≡ id
      → r.account.holder r.account.serving ≡ id
      → (j : ℕ) (d : View E) → j ≢ id → get_elem? s.views j ≡ some d
      → ViewFits maker (entries first) (after_release r.account added x) j d
  fits_after s r id added x by all_own owned holds j d other there =
      let account : Account V E = r.account in
      let f : ViewFits maker (entries first) account j d = r.each j d there in
      record {
        begins = (
          f.begins.0 ++ added,
          sym (append_assoc (entries first) account.made added)
              ∙ (ap (λ l. l ++ added) f.begins.1 ∙ append_assoc d.seen f.begins.0 added),
        );
        heard = λ k s e. let h = f.heard k s e in (
          h.0 ++ added,
          sym (append_assoc (entries first) account.made added)
              ∙ (ap (λ l. l ++ added) h.1 ∙ append_assoc s h.0 added),
        );
        early = f.early;
        rest = f.rest ++ added;
        made_is = ap (λ l. l ++ added) f.made_is ∙ append_assoc f.early f.rest added;
        seen_is = f.seen_is;
        phase = others account added x id _ _ j d.seen other holds d.phase f.phase;
        lives = f.lives;
        owns = λ n es k. let o = f.owns n es k in
            let no = own-others maker by n added
            (λ e. other (sym o.owner_is ∙ (ap account.owner e ∙ owned))) all_own in
            record {
              exact = o.exact ∙ sym (append-nil _) ∙ ap (λ l. made_by maker n account.made ++ l)
                  (sym no) ∙ sym (own-append maker n account.made added);
              owner_is = o.owner_is;
              origin = o.origin;
              opening_is = o.opening_is;
              unseen = own-append maker n f.rest added ∙ (λ i. o.unseen i ++ no i);
            };
        differ = f.differ;
      }

  abbrev carried_first : List (ℕ × Option V) → Option V
  carried_first [] = None
  carried_first (y ∷ ys) = y.1

  pub releases : (slots id : ℕ) (me : Me (Option V) (View E)) (t : ℕ) (x : V)
      → me.0.phase ≡ Inside t → me.1 ≡ (0, Some x) ∷ []
      → fixed x ≡ fixed first → MayLeave entries maker me.0 x
      → Allows (Rule entries fixed maker first) slots id me 1 (λ n. (n + 1) % 2 ^ 64)
      (Released entries maker (step slots 1 1 0 none) me)
  releases slots id me t x is_in carries about may s r _ at _ =
      let v : View E = me.0 in
      let account : Account V E = r.account in
      let added = may.added in
      let after : Account V E = after_release account added x in
      let w : View E = left_with v (entries x) in
      let size : id < length s.views = inside_of s.views id v at in
      let mine : ViewFits maker (entries first) account id v = r.each id v at in
      let phase = subst (InPhase account (entries first ++ account.made) id v.seen)
      is_in mine.phase in
      let served : t ≡ account.serving = phase.served in
      let below : t < account.ticket = phase.drawn in
      let holds : account.holder account.serving ≡ id = ap account.holder (sym served)
      ∙ phase.holds in
      let kept_one : HasKept v may.by may.mine = (0, ap (λ l. get_elem? l 0) may.kept_is) in
      let owned = mine.owns may.by may.mine kept_one in
      let whole : entries x ≡ entries first ++ (account.made ++ added) = may.grown
      ∙ (ap (λ l. l ++ added) phase.seen_all ∙ append_assoc (entries first) account.made added) in
      let owns_now = owns_after s r id v at x may in (
        w,
        gives,
        tt,
        record {
          account = after;
          words = ap (λ ws. set ws 1 ((slice_index ws 1 + 1) % 2 ^ 64)) r.words
              ∙ ap (λ n. account.ticket % 2 ^ 64 ∷ n ∷ []) (mod-add-mod account.serving (2 ^ 64) 1);
          homes = ap (λ cs. put_back s.homes cs) carries
              ∙ ap (λ hs. set hs 0 (some (Some x))) r.homes;
          ordered = omega arith;
          counted = let b = tickets_held-set s.views id v w at in let c = r.counted in
              let z : tickets_of v.phase ≡ 1 = ap tickets_of is_in in omega arith;
          at_home = (whole, about);
          held = λ u low high. let k = r.held u (omega arith) high in
              witness (λ (y : View E). HasTicket y.phase u) s.views id v w at
              (λ has. absurd (let e : t ≡ u = subst (λ (q : Phase). HasTicket q u) is_in has in
              omega arith)) (account.holder u) k.0 k.1 k.2;
          each = each_set (ViewFits maker (entries first) after) s.views id w
              (record {
                begins = ([], sym whole ∙ sym (append-nil _));
                heard = λ k s e. let h = mine.heard k s e in (
                  h.0 ++ added,
                  sym (append_assoc (entries first) account.made added)
                      ∙ (ap (λ l. l ++ added) h.1 ∙ append_assoc s h.0 added),
                );
                early = account.made ++ added;
                rest = [];
                made_is = sym (append-nil _);
                seen_is = λ _ _ _. whole;
                phase = tt;
                lives = λ t has. absurd has;
                owns = owns_now;
                differ = subst (IsDistinct nat_eq)
                    (sym (same_numbers entries maker v x may)) mine.differ;
              })
              (fits_after s r id added x may.by may.all_own owned.owner_is holds);
          longest = (id, w, set_here s.views id w size, whole);
          named = λ k e there. ⊎_elim
              (λ was. let l = r.named k e was in
              witness (λ (y : View E). KeepsNumber y (maker e)) s.views id v w at
              (keeps_still entries maker v x may (maker e))
              (account.owner (maker e)) l.0 l.1 l.2)
              (λ (q : (i : ℕ) × (get_elem? added i ≡ some e)).
              let is_mine : maker e ≡ may.by = may.all_own q.0 e q.1 in (
                w,
                ap (get_elem? (set s.views id w)) (ap account.owner is_mine ∙ owned.owner_is)
                    ∙ set_here s.views id w size,
                subst (λ (n : ℕ). KeepsNumber w n) (sym is_mine)
                    (keeps_still entries maker v x may may.by (may.mine, kept_one)),
              ))
              (at_append account.made added k e there);
          root = let l = r.root in
              let p = witness (λ (y : View E). KeepsNumber y 0 × (y.given ≡ account.given))
              s.views id v w at
              (λ q. (keeps_still entries maker v x may 0 q.0, q.1)) (account.owner 0) l.0 l.1
              (l.2, l.3) in (p.0, p.1, p.2.0, p.2.1);
          few = length-set s.views id w ∙ r.few;
          distinct = r.distinct;
          low = r.low;
        },
        λ t' x' is holds'.
            let same : Some x ≡ Some x' = ap carried_first (sym carries ∙ holds') in
            let e : x ≡ x' = cc in (
              (λ i. (left_with v (entries (e i)), rest (carries i))),
              record {
                made = account.made ++ added;
                all_is = ap entries (sym e)
                    ∙ (whole ∙ ap (λ l. l ++ (account.made ++ added)) (sym owned.opening_is));
                exact = λ n fs k. (owns_now n fs k).exact;
              },
            ),
      )
