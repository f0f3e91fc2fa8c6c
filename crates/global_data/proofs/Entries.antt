-- The map that the entries of an ordered store make: what it has at a key, and after one write.
use Rattle.std.proofs.Common.{◌≡◌, ap, sym, ◌∙◌, cond, List, [], ◌∷◌, Some, refl}
use Rattle.std.proofs.Common.{Ordering}
use Rattle.std.proofs.lemmas.Map.Lookups.{CmpEqualImpliesEq}
use Rattle.std.specs.BTreeMap.{is_at}
use Rattle.std.specs.Map.{lookup}
use Rattle.std.specs.Cmp.{IsTotalOrder, eq_by_cmp_equiv}
use Rattle.std.specs.FinMap.{get, insert, from_entries, find, get-from_entries, get-insert}
use Rattle.std.specs.FinMap.{same_map}

module _ {K X : Type 0} {R : K → K → Ordering} (total : IsTotalOrder R) where
  find_entry : (es : List (K × X)) (q : K) → find R q es ≡ lookup (is_at (R q)) es
  find_entry [] q = refl
  find_entry (e ∷ es) q = ap (cond (is_at (R q) e.0) (Some e.1)) (find_entry es q)

  -- the map has at a key what the entries have there
  pub get-entries : (es : List (K × X)) (q : K)
      → get (from_entries {R = R} es) q ≡ lookup (is_at (R q)) es
  get-entries es q = get-from_entries total es q ∙ find_entry es q

  -- entries that differ at one key make maps that differ there
  pub entry-written : CmpEqualImpliesEq R → (es fs : List (K × X)) (k : K) (x : X) → ((q : K)
      → lookup (is_at (R q)) fs ≡ cond (is_at (R k) q) (Some x) (lookup (is_at (R q)) es))
      → from_entries {R = R} fs ≡ insert (from_entries es) k x
  entry-written exact es fs k x h = same_map total exact _ _ (λ q.
      get-entries fs q ∙ h q
      ∙ ap (λ b. cond b (Some x) (lookup (is_at (R q)) es)) ((eq_by_cmp_equiv total).symm k q)
      ∙ sym (get-insert total (from_entries es) k x q
      ∙ ap (cond (is_at (R q) k) (Some x)) (get-entries es q)))
