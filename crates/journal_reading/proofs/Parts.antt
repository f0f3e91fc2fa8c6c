-- Values with a byte between each two, and routes, are read as they are written.
use Rattle.std.proofs.Common.{◌≡◌, ◌≢◌, ℕ, ◌<◌, true, false, ◌⊎◌, inl, inr, List, [], ◌∷◌, ◌++◌}
use Rattle.std.proofs.Common.{length, Option, Some, None, All, map, refl, sym, ap, subst, ◌∙◌}
use Rattle.std.proofs.Common.{arith}
use Rattle.std.specs.Prelude.{◌==◌, codes, nat_le}
use Rattle.std.specs.List.{join_with_byte, slice_split}
use Rattle.std.specs.Str.{bytes_eq}
use Rattle.std.proofs.lemmas.Bool.{and_parts}
use Rattle.std.proofs.lemmas.Bool.Decides.{nat_tests}
use Rattle.std.proofs.lemmas.List.{append-nil}
use Rattle.std.proofs.lemmas.List.Splits.{join_with_byte-slice_split, length-slice_split}
use Rattle.std.proofs.lemmas.List.Elements.{All-nil, All-cons, All-head, All-tail}
use Rattle.plant_types.specs.Routes.{FitsRoute, route_limit}
use Rattle.journal_lines.specs.Fields.{hex_bytes, route_or_dash, route_text}
use Rattle.journal_lines.specs.Lines.{onward_text}
use Rattle.journal_lines.specs.Sizes.{IsPdu, IsRoute, IsSmall}
use Rattle.journal_reading.specs.Reading.{◌>>=◌, cut, if_route, read_addresses, read_each}
use Rattle.journal_reading.specs.Reading.{read_parts, read_as, read_pdu, read_route, read_way}
use Rattle.journal_reading.specs.Reading.{way_from, read_route_or_dash}
use Rattle.journal_reading.specs.ReadLines.{read_going, read_onward}
use Rattle.journal_reading.proofs.Ranges.{chosen, lies, all_lie, all-append, outside}
use Rattle.journal_reading.proofs.Cuts.{some_is, bind_some, else_some, none_some, cut_parts}
use Rattle.journal_reading.proofs.Cuts.{cut_range, byte_self, cut_none, text_is}
use Rattle.journal_reading.proofs.ReadLaws.{IsField, is_out, is_in, out_of, lie_in}
use Rattle.journal_reading.proofs.Numbers.{small_field}
use Rattle.journal_reading.proofs.Digits.{pdu_field}

-- a byte that is not there parts nothing
split_none : (low high at : ℕ) → ((at < low) ⊎ (high < at)) → (text : List ℕ)
    → all_lie low high text ≡ true → slice_split (λ byte. byte == at) text ≡ text ∷ []
split_none low high at out [] lie = refl
split_none low high at out (b ∷ text) lie =
    let (here, more) = and_parts (lies low high b) (all_lie low high text) lie in
    rw (outside low high at b out here, split_none low high at out text more) refl

split_byte : (low high at : ℕ) → ((at < low) ⊎ (high < at)) → (text rest : List ℕ)
    → all_lie low high text ≡ true
    → slice_split (λ byte. byte == at) (text ++ at ∷ rest)
    ≡ text ∷ slice_split (λ byte. byte == at) rest
split_byte low high at out [] rest lie = rw (byte_self at) refl
split_byte low high at out (b ∷ text) rest lie =
    let (here, more) = and_parts (lies low high b) (all_lie low high text) lie in
    rw (outside low high at b out here, split_byte low high at out text rest more) refl

-- values of a field with a byte between each two that is not in it
module _ {V : Type 0} {read : List ℕ → Option V} {text : V → List ℕ} {Fits : V → Type 0}
    {low high : ℕ} (field : IsField read text Fits low high) (at below above : ℕ) where
  abbrev parts_text : List V → List ℕ
  parts_text xs = join_with_byte at (map text xs)

  each_takes : (texts : List (List ℕ)) (xs : List V) → read_each read texts ≡ Some xs
      → (texts ≡ map text xs) × All Fits xs
  each_takes [] xs e =
      subst (λ (ys : List V). ([] ≡ map text ys) × All Fits ys) (some_is [] xs e)
      (refl, All-nil Fits)
  each_takes (piece ∷ texts) xs e =
      let p = bind_some (read piece) (λ x. read_each read texts >>= λ more. Some (x ∷ more)) xs e in
      let q = bind_some (read_each read texts) (λ more. Some (p.0 ∷ more)) xs p.2 in
      let one = field.takes piece p.0 p.1 in
      let rest = each_takes texts q.0 q.1 in
      let same : (piece ∷ texts) ≡ map text (p.0 ∷ q.0) = λ i. one.0 i ∷ rest.0 i in
      subst (λ (ys : List V). (piece ∷ texts ≡ map text ys) × All Fits ys)
      (some_is (p.0 ∷ q.0) xs q.2)
      (same, All-cons Fits p.0 q.0 one.1 rest.1)

  some_parts : (bytes : List ℕ) (xs : List V)
      → slice_split (λ byte. byte == at) bytes ≡ map text xs → xs ≢ []
  some_parts bytes [] e none =
      let size = ap length e in
      let one = length-slice_split (λ byte. byte == at) bytes in omega arith
  some_parts bytes (x ∷ xs) e none = cc

  parts_take : (bytes : List ℕ) (xs : List V) → read_parts read at bytes ≡ Some xs
      → (bytes ≡ parts_text xs) × ((xs ≢ []) × All Fits xs)
  parts_take bytes xs e =
      let each = each_takes (slice_split (λ byte. byte == at) bytes) xs e in (
        sym (join_with_byte-slice_split at bytes) ∙ ap (join_with_byte at) each.0,
        (some_parts bytes xs each.0, each.1),
      )

  each_again : (xs : List V) → All Fits xs → read_each read (map text xs) ≡ Some xs
  each_again [] each = refl
  each_again (x ∷ xs) each =
      rw (
        field.again x (All-head Fits x xs each),
        each_again xs (All-tail Fits x xs each),
      ) refl

  split_parts : is_out low high at ≡ true → (x : V) (xs : List V) → All Fits (x ∷ xs)
      → slice_split (λ byte. byte == at) (parts_text (x ∷ xs)) ≡ map text (x ∷ xs)
  split_parts out x [] each =
      split_none low high at (out_of low high at out) (text x)
      (field.lie x (All-head Fits x [] each))
  split_parts out x (y ∷ xs) each =
      split_byte low high at (out_of low high at out) (text x) (parts_text (y ∷ xs))
      (field.lie x (All-head Fits x (y ∷ xs) each))
      ∙ ap (λ (texts : List (List ℕ)). text x ∷ texts)
      (split_parts out y xs (All-tail Fits x (y ∷ xs) each))

  parts_again : is_out low high at ≡ true → (xs : List V) → (xs ≢ []) × All Fits xs
      → read_parts read at (parts_text xs) ≡ Some xs
  parts_again out [] are = absurd (are.0 refl)
  parts_again out (x ∷ xs) are =
      ap (read_each read) (split_parts out x xs are.1) ∙ each_again (x ∷ xs) are.1

  parts_lie : is_in low high below above ≡ true → lies below above at ≡ true → (xs : List V)
      → All Fits xs → all_lie below above (parts_text xs) ≡ true
  parts_lie within between [] each = refl
  parts_lie within between (x ∷ []) each =
      lie_in field below above within x (All-head Fits x [] each)
  parts_lie within between (x ∷ y ∷ xs) each =
      all-append (lies below above) (text x) (at ∷ parts_text (y ∷ xs))
      (lie_in field below above within x (All-head Fits x (y ∷ xs) each))
      (rw between (parts_lie within between (y ∷ xs) (All-tail Fits x (y ∷ xs) each)))

  pub parts_field : is_out low high at ≡ true → is_in low high below above ≡ true
      → lies below above at ≡ true
      → IsField (read_parts read at) parts_text (λ xs. (xs ≢ []) × All Fits xs) below above
  parts_field out within between = record {
    takes = parts_take;
    again = parts_again out;
    lie = λ xs are. parts_lie within between xs are.1;
  }

-- a route
addresses_field : IsField read_addresses route_text (λ route. (route ≢ []) × All IsSmall route)
    46 57
unfolding read_addresses
addresses_field = parts_field small_field 46 46 57 refl refl refl

fit_of : (route : List ℕ) → nat_le (length route) route_limit ≡ true → FitsRoute route
fit_of route few = grind (arith, nat_tests)

few_test : (route : List ℕ) → FitsRoute route → nat_le (length route) route_limit ≡ true
few_test route fits = grind (arith, nat_tests)

route_is : (addresses route : List ℕ) → if_route addresses ≡ Some route
    → (addresses ≡ route) × FitsRoute addresses
route_is addresses route e =
    elim (chosen (nat_le (length addresses) route_limit) (Some addresses) None (Some route) e) [
      | inl few ↦ (some_is addresses route few.1, fit_of addresses few.0)
      | inr many ↦ none_some ((addresses ≡ route) × FitsRoute addresses) route many.1
    ]

abbrev pub IsSomeRoute : List ℕ → Type 0
IsSomeRoute route = (route ≢ []) × IsRoute route

pub route_field : IsField read_route route_text IsSomeRoute 46 57
unfolding read_route
route_field = record {
  takes = λ bytes route e.
      let p = bind_some (read_addresses bytes) if_route route e in
      let t = addresses_field.takes bytes p.0 p.1 in
      let r = route_is p.0 route p.2 in
      subst (λ (way : List ℕ). (bytes ≡ route_text way) × IsSomeRoute way) r.0
      (t.0, (t.1.0, record { count = r.1; each = t.1.1 }));
  again = λ route is.
      rw (addresses_field.again route (is.0, is.1.each), few_test route is.1.count) refl;
  lie = λ route is. addresses_field.lie route (is.0, is.1.each);
}

pub no_route : IsRoute []
no_route = record { count = omega arith; each = All-nil IsSmall }

-- a route, or the dash that stands for none
dash_is : (route : List ℕ) → route ≢ [] → route_text route ≡ route_or_dash route
dash_is [] some = absurd (some refl)
dash_is (to ∷ rest) some = refl

no_dash : (text : List ℕ) → all_lie 46 57 text ≡ true → bytes_eq text (codes "-") ≡ false
no_dash [] lie = refl
no_dash (b ∷ text) lie =
    let (here, more) = and_parts (lies 46 57 b) (all_lie 46 57 text) lie in
    rw (outside 46 57 45 b (inl (omega arith)) here) refl

route_or_dash_takes : (text route : List ℕ) → read_route_or_dash text ≡ Some route
    → (text ≡ route_or_dash route) × IsRoute route
unfolding read_route_or_dash
route_or_dash_takes text route e =
    elim (chosen (bytes_eq text (codes "-")) (Some []) (read_route text) (Some route) e) [
      | inl dash ↦
          subst (λ (r : List ℕ). (text ≡ route_or_dash r) × IsRoute r) (some_is [] route dash.1)
          (text_is text (codes "-") dash.0, no_route)
      | inr more ↦
          let t = route_field.takes text route more.1 in
          (t.0 ∙ dash_is route t.1.0, t.1.1)
    ]

route_or_dash_again : (route : List ℕ) → IsRoute route
    → read_route_or_dash (route_or_dash route) ≡ Some route
unfolding read_route_or_dash
route_or_dash_again [] is = refl
route_or_dash_again (to ∷ rest) is =
    let some : IsSomeRoute (to ∷ rest) = (λ none. cc, is) in
    rw (
      no_dash (route_text (to ∷ rest)) (route_field.lie (to ∷ rest) some),
      route_field.again (to ∷ rest) some,
    ) refl

route_or_dash_lie : (route : List ℕ) → IsRoute route → all_lie 45 57 (route_or_dash route) ≡ true
route_or_dash_lie [] is = refl
route_or_dash_lie (to ∷ rest) is = lie_in route_field 45 57 refl (to ∷ rest) (λ none. cc, is)

pub route_or_dash_field : IsField read_route_or_dash route_or_dash IsRoute 45 57
route_or_dash_field = record {
  takes = route_or_dash_takes;
  again = route_or_dash_again;
  lie = route_or_dash_lie;
}

-- the route of a frame that is posted
abbrev pub way_text : ℕ × List ℕ → List ℕ
way_text way = route_text (way.0 ∷ way.1)

abbrev pub IsWay : ℕ × List ℕ → Type 0
IsWay way = IsSmall way.0 × IsRoute way.1

way_is : (addresses : List ℕ) (way : ℕ × List ℕ) → way_from addresses ≡ Some way
    → (addresses ≡ way.0 ∷ way.1) × FitsRoute way.1
way_is [] way e = none_some (([] ≡ way.0 ∷ way.1) × FitsRoute way.1) way e
way_is (to ∷ rest) way e =
    let p = bind_some (if_route rest) (λ route. Some (to, route)) way e in
    let r = route_is rest p.0 p.1 in
    subst (λ (w : ℕ × List ℕ). (to ∷ rest ≡ w.0 ∷ w.1) × FitsRoute w.1)
    (some_is (to, p.0) way p.2)
    (ap (λ (x : List ℕ). to ∷ x) r.0, subst FitsRoute r.0 r.1)

addresses_of_way : (way : ℕ × List ℕ) → IsWay way
    → (way.0 ∷ way.1 ≢ []) × All IsSmall (way.0 ∷ way.1)
addresses_of_way way is = (λ none. cc, All-cons IsSmall way.0 way.1 is.0 is.1.each)

pub way_field : IsField read_way way_text IsWay 46 57
unfolding read_way
way_field = record {
  takes = λ bytes way e.
      let p = bind_some (read_addresses bytes) way_from way e in
      let t = addresses_field.takes bytes p.0 p.1 in
      let w = way_is p.0 way p.2 in
      let each = subst (All IsSmall) w.0 t.1.1 in (
        t.0 ∙ ap route_text w.0,
        (
          All-head IsSmall way.0 way.1 each,
          record { count = w.1; each = All-tail IsSmall way.0 way.1 each },
        ),
      );
  again = λ way is.
      rw (
        addresses_field.again (way.0 ∷ way.1) (addresses_of_way way is),
        few_test way.1 is.1.count,
      ) refl;
  lie = λ way is. addresses_field.lie (way.0 ∷ way.1) (addresses_of_way way is);
}

-- bytes, and a route behind them where there is one
abbrev pub onward_body : List ℕ × List ℕ → List ℕ
onward_body parts = hex_bytes parts.0 ++ onward_text parts.1

abbrev pub IsOnward : List ℕ × List ℕ → Type 0
IsOnward parts = IsPdu parts.0 × IsRoute parts.1

onward_is : (rest : List ℕ) → rest ≢ [] → 32 ∷ route_text rest ≡ onward_text rest
onward_is [] some = absurd (some refl)
onward_is (to ∷ rest) some = refl

onward_takes : (bytes : List ℕ) (parts : List ℕ × List ℕ) → read_onward bytes ≡ Some parts
    → (bytes ≡ onward_body parts) × IsOnward parts
unfolding read_onward
onward_takes bytes parts e =
    elim (else_some (cut 32 bytes) read_going (read_as (λ pdu. (pdu, [])) read_pdu bytes) parts e) [
      | inl going ↦
          let texts = going.0 in
          let p = bind_some (read_pdu texts.0) (λ pdu. read_route texts.1
          >>= λ rest. Some (pdu, rest)) parts going.2 in
          let q = bind_some (read_route texts.1) (λ rest. Some (p.0, rest)) parts p.2 in
          let l = pdu_field.takes texts.0 p.0 p.1 in
          let k = route_field.takes texts.1 q.0 q.1 in
          let whole : bytes ≡ hex_bytes p.0 ++ onward_text q.0 =
          (cut_parts 32 bytes texts going.1).whole
          ∙ ap (λ (t : List ℕ). t ++ 32 ∷ texts.1) l.0
          ∙ ap (λ (t : List ℕ). hex_bytes p.0 ++ 32 ∷ t) k.0
          ∙ ap (λ (t : List ℕ). hex_bytes p.0 ++ t) (onward_is q.0 k.1.0) in
          subst (λ (o : List ℕ × List ℕ). (bytes ≡ onward_body o) × IsOnward o)
          (some_is (p.0, q.0) parts q.2) (whole, (l.1, k.1.1))
      | inr last ↦
          let p = bind_some (read_pdu bytes) (λ pdu. Some (pdu, [])) parts last in
          let l = pdu_field.takes bytes p.0 p.1 in
          subst (λ (o : List ℕ × List ℕ). (bytes ≡ onward_body o) × IsOnward o)
          (some_is (p.0, []) parts p.2) (l.0 ∙ sym (append-nil (hex_bytes p.0)), (l.1, no_route))
    ]

onward_again : (pdu rest : List ℕ) → IsOnward (pdu, rest)
    → read_onward (onward_body (pdu, rest)) ≡ Some (pdu, rest)
unfolding read_onward
onward_again pdu [] is =
    let bytes : hex_bytes pdu ++ [] ≡ hex_bytes pdu = append-nil (hex_bytes pdu) in
    rw (
      bytes,
      cut_none 48 102 32 (inl (omega arith)) (hex_bytes pdu) (pdu_field.lie pdu is.0),
      pdu_field.again pdu is.0,
    ) refl
onward_again pdu (to ∷ rest) is =
    rw (
      cut_range 48 102 32 (inl (omega arith)) (hex_bytes pdu) (route_text (to ∷ rest))
          (pdu_field.lie pdu is.0),
      pdu_field.again pdu is.0,
      route_field.again (to ∷ rest) (λ none. cc, is.1),
    ) refl

onward_lie : (pdu rest : List ℕ) → IsOnward (pdu, rest)
    → all_lie 32 102 (onward_body (pdu, rest)) ≡ true
onward_lie pdu [] is = all-append (lies 32 102) (hex_bytes pdu) []
    (lie_in pdu_field 32 102 refl pdu is.0) refl
onward_lie pdu (to ∷ rest) is =
    all-append (lies 32 102) (hex_bytes pdu) (32 ∷ route_text (to ∷ rest))
    (lie_in pdu_field 32 102 refl pdu is.0)
    (lie_in route_field 32 102 refl (to ∷ rest) (λ none. cc, is.1))

pub onward_field : IsField read_onward onward_body IsOnward 32 102
onward_field = record {
  takes = onward_takes;
  again = λ parts is. onward_again parts.0 parts.1 is;
  lie = λ parts is. onward_lie parts.0 parts.1 is;
}
