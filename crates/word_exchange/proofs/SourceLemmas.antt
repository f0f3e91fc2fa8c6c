-- Where the words of wired drops come from.
use Rattle.std.proofs.Common.{◌≡◌, ◌<◌, ℕ, zero, suc, ◌+◌, Bool, true, false, cond}
use Rattle.std.proofs.Common.{List, [], ◌∷◌, ◌++◌, get_or, length, map, take, Option, Some, refl}
use Rattle.std.proofs.Common.{sym, ap, subst, ◌∙◌, arith, eq-eqb}
use Rattle.std.specs.Prelude.{◌&&◌, ◌||◌, nat_le, nat_lt, option_map, if◌then◌else◌}
use Rattle.std.specs.List.{Contains, filter, find, list_any, range_with_len}
use Rattle.std.proofs.lemmas.List.{map-append, take_more}
use Rattle.std.proofs.lemmas.List.Elements.{All-push}
use Rattle.std.proofs.lemmas.List.Folds.{list_any-append}
use Rattle.peer_cop.specs.declared.wire.Wire.{Wire}
use Rattle.word_exchange.specs.declared.sources.Source.{Source}
use Rattle.word_exchange.specs.Rows.{ends_at, feeds}
use Rattle.word_exchange.specs.Sources.{is_from, source_by, source_due, sources_due, with_from}
use Rattle.word_exchange.specs.Sources.{AreFromsOf}
use Rattle.word_exchange.proofs.TakingRows.{range-last}

-- ---- the first wire that feeds a word is the first among those of its drop

module _ (node number word : ℕ) where
  abbrev fed : Wire → Bool
  fed wire = feeds node number word wire

  own-step : (b : Bool) (x : Wire) (own xs : List Wire) → ends_at node number x ≡ b
      → find fed own ≡ find fed xs → find fed (cond b (x ∷ own) own) ≡ find fed (x ∷ xs)
  own-step true x own xs is same = ap (λ (o : Option Wire). cond (fed x) (Some x) o) same
  own-step false x own xs is same =
      same ∙ sym (ap (λ (b : Bool). cond
      (b && (nat_le x.word word && nat_lt word (x.word + x.count))) (Some x) (find fed xs)) is)

  own-find : (wires : List Wire)
      → find fed (filter (ends_at node number) wires) ≡ find fed wires
  own-find [] = refl
  own-find (x ∷ xs) =
      own-step (ends_at node number x) x (filter (ends_at node number) xs) xs refl (own-find xs)

-- one source more
pub sources-more : (froms wires own : List Wire) (node number before next : ℕ)
    (sources : List (Option Source)) (source : Option Source)
    → own ≡ filter (ends_at node number) wires → next ≡ before + 1
    → source ≡ source_due froms own node number next
    → sources ≡ sources_due froms wires node number before
    → sources ++ source ∷ [] ≡ sources_due froms wires node number next
sources-more froms wires own node number before next sources source own_is next_is is so_far =
    let due = source_due froms wires node number in
    let here : source ≡ due next =
    is ∙ ap (λ (l : List Wire). option_map (source_by froms next) (find (feeds node number next) l))
    own_is
    ∙ ap (option_map (source_by froms next)) (own-find node number next wires) in
    let count : next ≡ suc before = omega (arith, next_is) in
    (λ i. so_far i ++ here i ∷ [])
    ∙ sym (ap (λ n. map due (range_with_len 1 n)) count
    ∙ ap (map due) (range-last 1 before next (omega (arith, next_is)))
    ∙ map-append due (range_with_len 1 before) (next ∷ []))

-- ---- a wire from each from drop

or-left : (a b : Bool) → a ≡ true → (a || b) ≡ true
or-left true b is = refl
or-left false b is = absurd cc

or-right : (a b : Bool) → b ≡ true → (a || b) ≡ true
or-right true b is = refl
or-right false b is = is

pub any-left : {X : Type 0} (p : X → Bool) (xs ys : List X) → list_any p xs ≡ true
    → list_any p (xs ++ ys) ≡ true
any-left p xs ys is = list_any-append p xs ys ∙ or-left (list_any p xs) (list_any p ys) is

pub any-last : {X : Type 0} (p : X → Bool) (xs : List X) (x : X) → p x ≡ true
    → list_any p (xs ++ x ∷ []) ≡ true
any-last p xs x is =
    list_any-append p xs (x ∷ [])
    ∙ or-right (list_any p xs) (list_any p (x ∷ [])) (or-left (p x) false is)

same-from : (wire : Wire) → is_from wire wire ≡ true
same-from wire =
    (λ i. eq-eqb wire.from wire.from refl i && eq-eqb wire.from_drop wire.from_drop refl i)

from-by : (b : Bool) (wires some froms new : List Wire) (wire : Wire)
    → list_any (is_from wire) froms ≡ b → Contains wires wire
    → new ≡ (if b then froms else froms ++ wire ∷ []) → AreFromsOf wires some froms
    → AreFromsOf wires (some ++ wire ∷ []) new
from-by true wires some froms new wire there among is so_far =
    subst (AreFromsOf wires (some ++ wire ∷ [])) (sym is)
    (record {
      each = so_far.each;
      all = All-push (λ (w : Wire). list_any (is_from w) froms ≡ true) some wire so_far.all there;
    })
from-by false wires some froms new wire there among is so_far =
    let more = froms ++ wire ∷ [] in
    subst (AreFromsOf wires (some ++ wire ∷ [])) (sym is)
    (record {
      each = All-push (Contains wires) froms wire so_far.each among;
      all = All-push (λ (w : Wire). list_any (is_from w) more ≡ true) some wire
          (λ k d within. any-left (is_from (get_or some k d)) froms (wire ∷ [])
          (so_far.all k d within))
          (any-last (is_from wire) froms wire (same-from wire));
    })

get-any : {X : Type 0} (xs : List X) (k : ℕ) (d e : X) → k < length xs
    → get_or xs k d ≡ get_or xs k e
get-any [] k d e within = absurd (omega (arith, within))
get-any (x ∷ xs) zero d e within = refl
get-any (x ∷ xs) (suc k) d e within = get-any xs k d e (omega (arith, within))

pub there-at : {X : Type 0} (xs : List X) (k : ℕ) (x d : X) → k < length xs → x ≡ get_or xs k d
    → Contains xs x
there-at xs k x d within is = (k, within, get-any xs k x d within ∙ sym is)

pub from-more : (wires froms new : List Wire) (at next : ℕ) (wire d : Wire) → at < length wires
    → next ≡ at + 1 → wire ≡ get_or wires at d → new ≡ with_from froms wire
    → AreFromsOf wires (take at wires) froms → AreFromsOf wires (take next wires) new
from-more wires froms new at next wire d within next_is here is so_far =
    let front : take next wires ≡ take at wires ++ wire ∷ [] =
    ap (λ n. take n wires) next_is ∙ take_more wires at d within
    ∙ ap (λ (w : Wire). take at wires ++ w ∷ []) (sym here) in
    subst (λ (some : List Wire). AreFromsOf wires some new) (sym front)
    (from-by (list_any (is_from wire) froms) wires (take at wires) froms new wire refl
    (there-at wires at wire d within here) is so_far)

pub no-froms : (wires : List Wire) → AreFromsOf wires [] []
no-froms wires = record {
  each = λ k d within. absurd (omega (arith, within));
  all = λ k d within. absurd (omega (arith, within));
}
