-- The way back along the links.
use Rattle.std.proofs.Common.{◌≡◌, ℕ, ◌+◌, ◌<◌, List, [], ◌∷◌, ◌++◌, length}
use Rattle.std.proofs.Common.{Some, refl, sym, ap, subst, arith, reverse, length-append}
use Rattle.std.specs.Prelude.{slice_get}
use Rattle.std.proofs.lemmas.List.{reverse-append}
use Rattle.state_space.specs.Reaching.{LeadBy}
use Rattle.state_space.specs.Found.{Entry, key_in, depth_in, AreLinked, IsPathTo}
use Rattle.state_space.proofs.Places.{at-some, at-same, at-within}

module _ (starts : List ℕ → Type 0) (count : ℕ) (leads : List ℕ → ℕ → List ℕ → Type 0)
    (es : List Entry) where
  -- these moves, last first, lead from the entry at `at` to the one at `end`
  pub record IsTrail (end at : ℕ) (path : List ℕ) : Type 0 where
    pub within : at < length es
    pub from : Entry
    pub to : Entry
    pub from_there : slice_get es at ≡ Some from
    pub to_there : slice_get es end ≡ Some to
    pub leads_on : LeadBy count leads (key_in from) (reverse path) (key_in to)
    pub depth : length path + depth_in from ≡ depth_in to

  pub trail-init : (end : ℕ) → end < length es → IsTrail end end []
  trail-init end h =
      let there = at-some es end h in
      record {
        within = h;
        from = there.0;
        to = there.0;
        from_there = there.1;
        to_there = there.1;
        leads_on = refl;
        depth = omega arith;
      }

  pub trail-next : (end at : ℕ) (path : List ℕ) (e : Entry) → AreLinked starts count leads es
      → IsTrail end at path → 0 < at → slice_get es at ≡ Some e
      → IsTrail end e.1.from (path ++ e.1.by ∷ [])
  trail-next end at path e links t more is =
      let link = links.linked at e is more in
      let same : t.from ≡ e = at-same es at t.from e t.from_there is in
      let turned : reverse (path ++ e.1.by ∷ []) ≡ e.1.by ∷ reverse path =
      reverse-append path (e.1.by ∷ []) in
      let long : length (path ++ e.1.by ∷ []) ≡ length path + 1 =
      length-append path (e.1.by ∷ []) in
      record {
        within = at-within es e.1.from link.parent link.is_there;
        from = link.parent;
        to = t.to;
        from_there = link.is_there;
        to_there = t.to_there;
        leads_on = subst (λ p. LeadBy count leads (key_in link.parent) p (key_in t.to)) (sym turned) (
          link.move,
          (
            key_in e,
            (
              link.leads_here,
              subst (λ (x : Entry). LeadBy count leads (key_in x) (reverse path) (key_in t.to))
                  same t.leads_on,
            ),
          ),
        );
        depth =
            let d = t.depth in
            let l = link.depth in
            let s : depth_in t.from ≡ depth_in e = ap (λ (x : Entry). depth_in x) same in
            omega (arith, d, l, s, long);
      }

  pub trail-end : (end : ℕ) (path turned : List ℕ) → AreLinked starts count leads es
      → IsTrail end 0 path → turned ≡ reverse path → length turned ≡ length path
      → IsPathTo starts count leads es end turned
  trail-end end path turned links t is long =
      let start = links.first t.from t.from_there in
      let d = t.depth in
      let z = start.1 in
      record {
        entry = t.to;
        is_there = t.to_there;
        reaches = record {
          first = key_in t.from;
          is_first = start.0;
          leads_on = subst (λ p. LeadBy count leads (key_in t.from) p (key_in t.to)) (sym is)
              t.leads_on;
        };
        as_deep = omega (arith, d, z, long);
      }

  pub link-before : (i : ℕ) (e : Entry) → AreLinked starts count leads es → 0 < i
      → slice_get es i ≡ Some e → e.1.from < i
  link-before i e links more is = (links.linked i e is more).before
