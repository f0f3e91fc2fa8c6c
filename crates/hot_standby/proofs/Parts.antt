-- Entries that are followed as one scan's part, up to a place.
use Rattle.std.proofs.Common.{◌≡◌, ℕ, suc, ◌<◌, ◌==◌, true, false, List, [], ◌∷◌}
use Rattle.std.proofs.Common.{◌++◌, length, take, drop, get_or, refl, sym, ap, subst, ◌∙◌, arith}
use Rattle.std.proofs.Common.{append_assoc, append-nil, zero}
use Rattle.std.proofs.Math.Seq.{take-suc}
use Rattle.std.proofs.lemmas.Bool.{ne_eqb}
use Rattle.std.proofs.lemmas.List.{take-append-drop}
use Rattle.std.proofs.lemmas.List.Elements.{All-append, All-cons, All-get_or, All-nil}
use Rattle.controller_core.specs.declared.fixed.Fixed.{Fixed}
use Rattle.controller_core.specs.declared.entry.Entry.{Entry}
use Rattle.controller_core.specs.Controller.{ControllerIs, IsLegal, state_of}
use Rattle.controller_core.specs.Following.{MayFollow, followed}
use Rattle.controller_core.proofs.NextEntry.{front_legal}
use Rattle.whole_scan.specs.Scans.{IsBetweenScans}
use Rattle.hot_standby.specs.Part.{BeginsOnce, MayComeNext, begins_scan, scans_made}
use Rattle.hot_standby.proofs.Following.{InPart, begins, goes-on}

-- so many entries were followed from a controller on
pub record FollowsPart (v : ControllerIs) (entries : List Entry) (count : ℕ) (c : ControllerIs)
    : Type 0 where
  pub fixed : c.fixed ≡ v.fixed
  pub history : c.history ≡ v.history ++ take count entries
  pub legal : IsLegal v.fixed (v.history ++ take count entries)
  pub none : count ≡ 0 → c ≡ v
  pub some : 0 < count → InPart (scans_made (state_of v)) c
  pub first : 0 < count → BeginsOnce (take count entries)

pub follows-none : (v : ControllerIs) (entries : List Entry) → IsLegal v.fixed v.history
    → FollowsPart v entries 0 v
follows-none v entries legal = record {
  fixed = refl;
  history = sym (append-nil v.history);
  legal = subst (λ (h : List Entry). IsLegal v.fixed h) (sym (append-nil v.history)) legal;
  none = λ is. refl;
  some = λ more. absurd (omega (arith, more));
  first = λ more. absurd (omega (arith, more));
}

-- ---- one entry more

-- an entry of a part begins a scan just where it is the first
pub begins-at : (entries : List Entry) (count : ℕ) (e : Entry) → BeginsOnce entries
    → count < length entries → e ≡ get_or entries count e → begins_scan e ≡ (count == 0)
begins-at [] count e once small is = absurd once
begins-at (first ∷ rest) zero e once small is =
    ap begins_scan is ∙ once.0
begins-at (first ∷ rest) (suc n) e once small is =
    ap begins_scan is ∙ All-get_or (λ (x : Entry). begins_scan x ≡ false) rest n e
    (omega (arith, small)) once.1
    ∙ sym (ne_eqb (suc n) 0 (λ zero'. absurd (omega (arith, zero'))))

more-begins : (entries : List Entry) (e : Entry) (count : ℕ) → BeginsOnce entries → 0 < count
    → begins_scan e ≡ (count == 0) → BeginsOnce (entries ++ e ∷ [])
more-begins [] e count once some is = absurd once
more-begins (first ∷ rest) e count once some is = (
  once.0,
  All-append (λ (x : Entry). begins_scan x ≡ false) rest (e ∷ []) once.1
      (All-cons (λ (x : Entry). begins_scan x ≡ false) e [] (is ∙ ne_eqb count 0 (λ zero'.
      absurd (omega (arith, some, zero')))) (All-nil (λ (x : Entry). begins_scan x ≡ false))),
)

taken-more : (entries : List Entry) (count : ℕ) (e : Entry) → count < length entries
    → e ≡ get_or entries count e → take (suc count) entries ≡ take count entries ++ e ∷ []
taken-more entries count e small is =
    take-suc entries count e small ∙ ap (λ (x : Entry). take count entries ++ x ∷ []) (sym is)

-- the entries so far and one more
pub follows-more : (v c d : ControllerIs) (entries : List Entry) (count : ℕ) (e : Entry)
    → IsBetweenScans v → FollowsPart v entries count c → count < length entries
    → e ≡ get_or entries count e → begins_scan e ≡ (count == 0) → MayFollow c e
    → d ≡ followed c e true → d.fixed ≡ c.fixed → d.history ≡ c.history ++ e ∷ []
    → FollowsPart v entries (suc count) d
follows-more v c d entries count e whole so small is first may same fixed history =
    let more = taken-more entries count e small is in
    let longer : c.history ++ e ∷ [] ≡ v.history ++ take (suc count) entries =
    ap (λ (h : List Entry). h ++ e ∷ []) so.history
    ∙ append_assoc v.history (take count entries) (e ∷ [])
    ∙ ap (λ (l : List Entry). v.history ++ l) (sym more) in
    record {
      fixed = fixed ∙ so.fixed;
      history = history ∙ longer;
      legal = subst (λ (f : Fixed). IsLegal f (v.history ++ take (suc count) entries)) so.fixed
          (subst (λ (h : List Entry). IsLegal c.fixed h) longer may);
      none = λ zero'. absurd (omega (arith, zero'));
      some = λ _. part count refl;
      first = λ _. subst BeginsOnce (sym more) (once count refl);
    }
  where
    part : (n : ℕ) → count ≡ n → InPart (scans_made (state_of v)) d
    part zero at =
        let here : c ≡ v = so.none at in
        begins v d e whole (first ∙ ap (λ n. n == 0) at)
        (subst (λ (u : ControllerIs). MayFollow u e) here may)
        (same ∙ ap (λ (u : ControllerIs). followed u e true) here)
        (history ∙ ap (λ (u : ControllerIs). u.history ++ e ∷ []) here)
    part (suc n) at =
        goes-on (scans_made (state_of v)) c d e (so.some (omega (arith, at)))
        (first ∙ ne_eqb count 0 (λ zero'. absurd (omega (arith, at, zero')))) may same fixed history

    once : (n : ℕ) → count ≡ n → BeginsOnce (take count entries ++ e ∷ [])
    once zero at =
        subst (λ (l : List Entry). BeginsOnce (l ++ e ∷ []))
        (sym (ap (λ n. take n entries) at))
        (first ∙ ap (λ n. n == 0) at, All-nil (λ (x : Entry). begins_scan x ≡ false))
    once (suc n) at =
        more-begins (take count entries) e count (so.first (omega (arith, at)))
        (omega (arith, at)) first

-- ---- what a refusal says

-- an entry that may not come at its place spoils the part
pub stops-at : (v c : ControllerIs) (entries : List Entry) (count : ℕ) (e : Entry)
    → FollowsPart v entries count c → count < length entries → e ≡ get_or entries count e
    → MayComeNext v.fixed v.history entries
    → (begins_scan e ≡ (count == 0)) × MayFollow c e
stops-at v c entries count e so small is next =
    let more = taken-more entries count e small is in
    let longer : c.history ++ e ∷ [] ≡ v.history ++ take (suc count) entries =
    ap (λ (h : List Entry). h ++ e ∷ []) so.history
    ∙ append_assoc v.history (take count entries) (e ∷ [])
    ∙ ap (λ (l : List Entry). v.history ++ l) (sym more) in
    let cut : v.history ++ entries
    ≡ (v.history ++ take (suc count) entries) ++ drop (suc count) entries =
    ap (λ (l : List Entry). v.history ++ l) (sym (take-append-drop (suc count) entries))
    ∙ sym (append_assoc v.history (take (suc count) entries) (drop (suc count) entries)) in
    let front : IsLegal v.fixed (v.history ++ take (suc count) entries) =
    front_legal v.fixed (v.history ++ take (suc count) entries) (drop (suc count) entries)
    (subst (λ (h : List Entry). IsLegal v.fixed h) cut next.legal) in (
      begins-at entries count e next.part.begins small is,
      subst (λ (f : Fixed). IsLegal f (c.history ++ e ∷ [])) (sym so.fixed)
          (subst (λ (h : List Entry). IsLegal v.fixed h) (sym longer) front),
    )
