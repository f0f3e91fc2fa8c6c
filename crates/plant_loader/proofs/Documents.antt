-- Bytes that are text or not.
use Rattle.std.proofs.Common.{◌≡◌, ℕ, Bool, true, false, List, Option, None, refl}
use Rattle.std.specs.Prelude.{if◌then◌else◌}
use Rattle.std.specs.Str.{is_utf8, IsUtf8}
use Rattle.std.proofs.lemmas.Str.{IsUtf8-from_is_utf8, is_utf8-from_IsUtf8}
use Rattle.toml.specs.Data.{Members}
use Rattle.toml.specs.Parse.{parse_document}
use Rattle.plant_loader.specs.Plant.{document_of}

-- a test that fails gives no document
not_text : (b : Bool) (r : Option Members) → (b ≡ true → ⊥) → (if b then r else None) ≡ None
not_text true r h = absurd (h refl)
not_text false r h = refl

-- bytes that are no text are no document
pub document-no_text : (bytes : List ℕ) → ¬ (IsUtf8 bytes) → document_of bytes ≡ None
document-no_text bytes h =
    not_text (is_utf8 bytes) (parse_document bytes) (λ e. h (IsUtf8-from_is_utf8 bytes e))

-- the document of bytes that are text is that of the text
pub document-text : (bytes text : List ℕ) (r : Option Members) → text ≡ bytes → IsUtf8 bytes
    → parse_document text ≡ r → document_of bytes ≡ r
document-text bytes text r same valid parsed = rw (is_utf8-from_IsUtf8 bytes valid, ← same) parsed
