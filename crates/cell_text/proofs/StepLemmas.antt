-- Steps that all went well.
use Rattle.std.proofs.Common.{◌≡◌, Bool, true, false, Option, Some, None, Result, Ok, Err, refl}
use Rattle.std.specs.Prelude.{option_map, option_and_then, if◌then◌else◌}
use Rattle.cell_text.specs.Steps.{◌>>=◌, or_fault, unless}

-- where steps end well, so did the first one
pub step-ok : {A B E : Type 0} (r : Result A E) (g : A → Result B E) (y : B) → (r >>= g) ≡ Ok y
    → (x : A) × ((r ≡ Ok x) × (g x ≡ Ok y))
step-ok (Ok x) g y h = (x, (refl, h))
step-ok (Err e) g y h = cc

-- a value that has to be there was there
pub or_fault-ok : {A B E : Type 0} (e : E) (o : Option A) (g : A → Result B E) (y : B)
    → (or_fault e o >>= g) ≡ Ok y → (x : A) × ((o ≡ Some x) × (g x ≡ Ok y))
or_fault-ok e (Some x) g y h = (x, (refl, h))
or_fault-ok e None g y h = cc

-- a test that has to hold did
pub unless-ok : {B E : Type 0} (b : Bool) (e : E) (g : Unit {0} → Result B E) (y : B)
    → (unless b e >>= g) ≡ Ok y → (b ≡ true) × (g tt ≡ Ok y)
unless-ok true e g y h = (refl, h)
unless-ok false e g y h = cc

-- the same of options
pub some-step : {A B : Type 0} (f : A → Option B) (o : Option A) (y : B)
    → option_and_then f o ≡ Some y → (x : A) × ((o ≡ Some x) × (f x ≡ Some y))
some-step f (Some x) y h = (x, (refl, h))
some-step f None y h = cc

-- an option that was mapped was there
pub some-map : {A B : Type 0} (f : A → B) (o : Option A) (y : B) → option_map f o ≡ Some y
    → (x : A) × ((o ≡ Some x) × (f x ≡ y))
some-map f (Some x) y h = (x, (refl, cc))
some-map f None y h = cc

-- a test before a value held
pub some-guard : {A : Type 0} (b : Bool) (o : Option A) (y : A) → (if b then o else None) ≡ Some y
    → (b ≡ true) × (o ≡ Some y)
some-guard true o y h = (refl, h)
some-guard false o y h = cc

-- a value in place of a fault was there
pub or_fault-some : {A E : Type 0} (e : E) (o : Option A) (x : A) → or_fault e o ≡ Ok x → o ≡ Some x
or_fault-some e (Some y) x h = cc
or_fault-some e None x h = cc
