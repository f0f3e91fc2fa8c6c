-- Tables with known keys.
use Rattle.std.proofs.Common.{◌≡◌, ℕ, List, [], ◌∷◌, map, Bor, refl, String, Global, string_bytes}
use Rattle.std.specs.Prelude.{bytes_eq}
use Rattle.std.specs.List.{list_any, list_all}
use Rattle.std.specs.Map.{keys_of}
use Rattle.toml.specs.View.{members_view}
use Rattle.toml.specs.declared.value.Value.{Value}
use Rattle.plant_tables.specs.Keys.{has_only}

-- a key is among texts as it is among their bytes
any_of_views : (ks : List (Bor (List ℕ))) (key : List ℕ)
    → list_any (λ k. bytes_eq k.now key) ks ≡ list_any (λ k. bytes_eq k key) (map (λ k. k.now) ks)
any_of_views [] key = refl
any_of_views (k ∷ ks) key = rw (any_of_views ks key) refl

-- the keys of a table are those of its members
pub has_only-keys : (known : List (Bor (List ℕ))) (es : List (String Global × Value))
    → list_all (λ key. list_any (λ k. bytes_eq k.now (string_bytes key)) known) (keys_of es)
    ≡ has_only (map (λ k. k.now) known) (members_view es)
has_only-keys known [] = refl
has_only-keys known (e ∷ es) =
    rw (any_of_views known (string_bytes e.0), has_only-keys known es) refl
