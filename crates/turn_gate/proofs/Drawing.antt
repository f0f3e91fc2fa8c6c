-- A draw keeps the rule: the pass holds the ticket that it found, and waits.
use Rattle.std.proofs.Common.{◌≡◌, ℕ, ◌+◌, ◌%◌, ◌^◌, ◌<◌, eqb, cond, List, [], ◌∷◌, ◌++◌, length}
use Rattle.std.proofs.Common.{set, false, Some, None, Option, refl, sym, ap, ◌∙◌, subst, arith}
use Rattle.std.proofs.Common.{length-set, eq-eqb, ne_eqb, slice_index}
use Rattle.std.proofs.Math.Nat.{mod-add-mod}
use mathlib.Core.Logic.{dite}
use mathlib.Core.Option.{some, none}
use native.Mathlib.Decide.{ℕ_discrete}
use lib.ListN.{get_elem?}
use Rattle.atomic_table.specs.Table.{State, Me, keeps, step, Allows}
use Rattle.atomic_table.proofs.Lists.{set_here}
use Rattle.turn_gate.specs.declared.views.Phase.{Phase}
use Rattle.turn_gate.specs.declared.views.Phase.TheVariants.{Idle, Waiting, Inside}
use Rattle.turn_gate.specs.declared.views.View.{View}
use Rattle.turn_gate.specs.Rule.{KeepsNumber, tickets_of, Account, InPhase, HasTicket, ViewFits}
use Rattle.turn_gate.specs.Rule.{IsAtHome}
use Rattle.turn_gate.specs.Rule.{Rule}
use Rattle.turn_gate.specs.Moves.{in_phase, Drawn}
use Rattle.turn_gate.proofs.Lists.{inside_of, each_set, witness}
use Rattle.turn_gate.proofs.Tickets.{tickets_held-set}

module _ {V E F : Type 0} (entries : V → List E) (fixed : V → F) (maker : E → ℕ) (first : V) where
  -- the seat `id` holds one ticket more
  abbrev after_draw : Account V E → ℕ → Account V E
  after_draw account id = record account {
    ticket = account.ticket + 1;
    holder = λ u. cond (eqb u account.ticket) id (account.holder u);
  }

  -- the tickets drawn before are held as they were
  same_holder : (account : Account V E) (id t : ℕ) → t < account.ticket
      → (after_draw account id).holder t ≡ account.holder t
  same_holder account id t below =
      let other : eqb t account.ticket ≡ false = ne_eqb t account.ticket (λ e. omega arith) in
      ap (λ b. cond b id (account.holder t)) other

  others : (account : Account V E) (id : ℕ) (all : List E) (j : ℕ) (seen : List E) (p : Phase)
      → InPhase account all j seen p
      → InPhase (after_draw account id) all j seen p
  others account id all j seen Idle k = tt
  others account id all j seen (Waiting t) k =
      let below = k.1 in (k.0, omega arith, same_holder account id t below ∙ k.2)
  others account id all j seen (Inside t) k =
      let below = k.drawn in
      record {
        served = k.served;
        drawn = omega arith;
        holds = same_holder account id t below ∙ k.holds;
        seen_all = k.seen_all;
        emptied = k.emptied;
      }

  home : (s : State (Option V) (View E)) (r : Rule entries fixed maker first s) (id : ℕ)
      (v : View E) → get_elem? s.views id ≡ some v
      → v.phase ≡ Idle → (slot : Option V) → IsAtHome entries fixed
      (entries first ++ r.account.made) (fixed first) r.account s.views slot
      → IsAtHome entries fixed (entries first ++ r.account.made) (fixed first)
      (after_draw r.account id)
      (set s.views id (in_phase v (Waiting r.account.ticket))) slot
  home s r id v at idle (Some x) h = h
  home s r id v at idle None h =
      let account : Account V E = r.account in
      let f = r.each (account.holder account.serving) h.0 h.1 in
      let below : account.serving < account.ticket =
      (subst (InPhase account (entries first ++ account.made)
      (account.holder account.serving) h.0.seen) h.2 f.phase).drawn in
      let p = witness (λ (x : View E). x.phase ≡ Inside account.serving) s.views id v
      (in_phase v (Waiting account.ticket)) at
      (λ e. absurd (let no : Idle ≡ Inside account.serving = sym idle ∙ e in cc))
      (account.holder account.serving) h.0 h.1 h.2 in (
        p.0,
        ap (get_elem? (set s.views id (in_phase v (Waiting account.ticket))))
            (same_holder account id account.serving below) ∙ p.1,
        p.2,
      )

  pub draws : (slots id : ℕ) (me : Me (Option V) (View E)) → me.0.phase ≡ Idle → (n : ℕ)
      → KeepsNumber me.0 n
      → Allows (Rule entries fixed maker first) slots id me 0 (λ n. (n + 1) % 2 ^ 64)
      (Drawn (step slots 0 1 0 none) me)
  draws slots id me idle n keeps_one s r _ at _ =
      let v : View E = me.0 in
      let account : Account V E = r.account in
      let t : ℕ = account.ticket in
      let after : Account V E = after_draw account id in
      let w : View E = in_phase v (Waiting t) in
      let size : id < length s.views = inside_of s.views id v at in
      let ordered = r.ordered in
      let mine : ViewFits maker (entries first) account id v = r.each id v at in
      let new_holder : after.holder t ≡ id = ap (λ b. cond b id (account.holder t))
      (eq-eqb t t refl) in (
        w,
        keeps,
        tt,
        record {
          account = after;
          words = ap (λ ws. set ws 0 ((slice_index ws 0 + 1) % 2 ^ 64)) r.words
              ∙ ap (λ n. n ∷ account.serving % 2 ^ 64 ∷ []) (mod-add-mod t (2 ^ 64) 1);
          homes = r.homes;
          ordered = omega arith;
          counted = let b = tickets_held-set s.views id v w at in let c = r.counted in
              let z : tickets_of v.phase ≡ 0 = ap tickets_of idle in omega arith;
          at_home = home s r id v at idle account.slot r.at_home;
          held = λ u low high. dite (ℕ_discrete u t)
              (λ e. (
                w,
                ap (λ m. get_elem? (set s.views id w) (after.holder m)) e
                    ∙ (ap (get_elem? (set s.views id w)) new_holder ∙ set_here s.views id w size),
                sym e,
              ))
              (λ ne. let below : u < t = omega arith in let h = r.held u low below in
              let p = witness (λ (x : View E). HasTicket x.phase u) s.views id v w at
              (λ has. absurd (subst (λ (q : Phase). HasTicket q u) idle has))
              (account.holder u) h.0 h.1 h.2 in
              (p.0, ap (get_elem? (set s.views id w)) (same_holder account id u below) ∙ p.1, p.2));
          each = each_set (ViewFits maker (entries first) after) s.views id w
              (record {
                begins = mine.begins;
                heard = mine.heard;
                early = mine.early;
                rest = mine.rest;
                made_is = mine.made_is;
                seen_is = mine.seen_is;
                phase = (ordered, omega arith, new_holder);
                lives = λ _ _. (n, keeps_one);
                owns = mine.owns;
                differ = mine.differ;
              })
              (λ j d other e. let f = r.each j d e in record {
                begins = f.begins;
                heard = f.heard;
                early = f.early;
                rest = f.rest;
                made_is = f.made_is;
                seen_is = f.seen_is;
                phase = others account id (entries first ++ account.made) j d.seen d.phase f.phase;
                lives = f.lives;
                owns = f.owns;
                differ = f.differ;
              });
          longest = let l = r.longest in let p = witness
              (λ (x : View E). x.seen ≡ entries first ++ account.made) s.views id v w at
              (λ e. e) l.0 l.1 l.2 l.3 in (l.0, p.0, p.1, p.2);
          named = λ k e is. let l = r.named k e is in
              witness (λ (x : View E). KeepsNumber x (maker e)) s.views id v w at (λ e. e)
              (account.owner (maker e)) l.0 l.1 l.2;
          root = let l = r.root in
              let p = witness (λ (x : View E). KeepsNumber x 0 × (x.given ≡ account.given)) s.views
              id v w at (λ e. e) (account.owner 0) l.0 l.1
              (l.2, l.3) in (p.0, p.1, p.2.0, p.2.1);
          few = length-set s.views id w ∙ r.few;
          distinct = r.distinct;
          low = r.low;
        },
        (t, ap (λ ws. slice_index ws 0) r.words, refl),
      )
