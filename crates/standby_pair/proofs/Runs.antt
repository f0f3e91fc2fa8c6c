-- A pair as the code has it: what was sent, where the standby stands, and what both wrote.
use Rattle.std.proofs.Common.{◌≡◌, ℕ, ◌≤◌, List, [], ◌++◌, drop, length, take, sym, ap, ◌∙◌}
use Rattle.std.proofs.Common.{arith}
use Rattle.std.specs.List.{flat_map}
use Rattle.plant_types.specs.declared.net.Fate.{Fate}
use Rattle.controller_core.specs.declared.fixed.Fixed.{Fixed}
use Rattle.controller_core.specs.Controller.{IsLegal}
use Rattle.hot_standby.specs.Standby.{bench_of, scans_held}
use Rattle.standby_pair.specs.declared.sending.Link.{Link}
use Rattle.standby_pair.specs.Course.{ScanPart}
use Rattle.standby_pair.specs.Kept.{FollowEachOther, HasSent, WritesTold, held_of, parts_history}
use Rattle.standby_pair.specs.Kept.{replies_between, standby_with}
use Rattle.standby_pair.specs.Pair.{RepliesComeOnceOrTwice, SwitchesInTime, bench_parts, pair_text}
use Rattle.standby_pair.specs.Pair.{pieces_text, primary_pieces, switch_line}
use Rattle.standby_pair.proofs.Ends.{follow, held-is, held-left, held-most, in-time, known-within}
use Rattle.standby_pair.proofs.Ends.{once-or-twice, text-whole}
use Rattle.standby_pair.proofs.Pieces.{both}

-- The primary has made its scans, and all of it was sent.
pub record IsSent (fixed : Fixed) (stream : List ℕ) (letters : List Fate) (fail : ℕ)
    (parts : List ScanPart) (link : Link) : Type 0 where
  pub some : 1 ≤ fixed.scans
  pub parts_is : parts ≡ take fail (bench_parts fixed stream)
  pub legal : IsLegal fixed (parts_history parts)
  pub sent : HasSent fixed letters parts (length parts) link
  pub writes : WritesTold (length parts) (primary_pieces letters (length parts)) link.told

-- The standby holds so many scans.
pub record StandsAt (fixed : Fixed) (stream : List ℕ) (letters : List Fate) (fail : ℕ)
    (parts : List ScanPart) (link : Link) (held : ℕ) : Type 0 where
  pub is : held ≡ held_of letters link.sent
  pub most : held ≤ length parts
  pub within : held ≤ length (take fail (bench_parts fixed stream))
  pub known : link.known ≤ held
  pub left : held ≤ fixed.scans
  pub bench : bench_of link.standby
      ≡ bench_of (standby_with fixed (take fail (bench_parts fixed stream)) held)

module _ (fixed : Fixed) (stream : List ℕ) (letters : List Fate) (fail : ℕ)
    (parts : List ScanPart) (link : Link) (so : IsSent fixed stream letters fail parts link) where
  pub stands-at : (held : ℕ) → held ≡ scans_held link.standby
      → StandsAt fixed stream letters fail parts link held
  stands-at held is =
      let same : held ≡ held_of letters link.sent =
      is ∙ held-is fixed stream so.some letters fail parts link so.parts_is so.legal so.sent
      so.writes in
      let most : held ≤ length parts =
      let m = held-most fixed stream so.some letters fail parts link so.parts_is so.legal so.sent
      so.writes in omega (arith, same, m) in
      let within : held ≤ length (take fail (bench_parts fixed stream)) =
      let n = ap (λ (l : List ScanPart). length l) so.parts_is in omega (arith, most, n) in
      record {
        is = same;
        most = most;
        within = within;
        known = let k = known-within fixed stream so.some letters fail parts link so.parts_is
            so.legal so.sent so.writes in omega (arith, k, same);
        left = held-left fixed stream so.some fail held within;
        bench = ap bench_of (so.sent.is.standby
            ∙ ap (λ (parts : List ScanPart). standby_with fixed parts (held_of letters link.sent))
            so.parts_is
            ∙ ap (standby_with fixed (take fail (bench_parts fixed stream))) (sym same));
      }

  pub follows : FollowEachOther fixed parts
  follows = follow fixed stream so.some fail parts so.parts_is so.legal

  pub timely : SwitchesInTime fixed letters stream fail
  timely = in-time fixed stream so.some letters fail parts link so.parts_is so.legal so.sent so.writes

  pub repeated : RepliesComeOnceOrTwice fixed letters stream fail
  repeated =
      once-or-twice fixed stream so.some letters fail parts link so.parts_is so.legal so.sent
      so.writes

  pub text-due : (held : ℕ) (at : StandsAt fixed stream letters fail parts link held)
      (text : List ℕ)
      → text ≡ ((pieces_text parts (primary_pieces letters (length parts)) ++ switch_line held)
      ++ replies_between parts link.known held) ++ flat_map both (drop held (bench_parts fixed stream))
      → text ≡ pair_text fixed letters stream fail
  text-due held at text written =
      text-whole fixed stream so.some letters fail parts link so.parts_is so.legal so.sent so.writes
      text (written ∙ ap (λ (n : ℕ).
      ((pieces_text parts (primary_pieces letters (length parts)) ++ switch_line n)
      ++ replies_between parts link.known n) ++ flat_map both (drop n (bench_parts fixed stream)))
      at.is)

-- The text as it was built.
pub text-built : (none t1 t2 t3 t4 line sent switch : List ℕ)
    (parts4 parts later6 later : List ScanPart) (known held : ℕ)
    → none ≡ [] → t1 ≡ none ++ sent → line ≡ switch → t2 ≡ t1 ++ line → parts4 ≡ parts
    → t3 ≡ t2 ++ replies_between parts4 known held → later6 ≡ later
    → t4 ≡ t3 ++ flat_map both later6
    → t4 ≡ ((sent ++ switch) ++ replies_between parts known held) ++ flat_map both later
text-built none t1 t2 t3 t4 line sent switch parts4 parts later6 later known held none_is is1
    line_is is2 parts_is is3 later_is is4 =
    is4
    ∙ ap (λ (l : List ScanPart). t3 ++ flat_map both l) later_is
    ∙ ap (λ (l : List ℕ). l ++ flat_map both later)
    (is3
    ∙ ap (λ (l : List ScanPart). t2 ++ replies_between l known held) parts_is
    ∙ ap (λ (l : List ℕ). l ++ replies_between parts known held)
    (is2
    ∙ ap (λ (l : List ℕ). t1 ++ l) line_is
    ∙ ap (λ (l : List ℕ). l ++ switch) (is1 ∙ ap (λ (l : List ℕ). l ++ sent) none_is)))
