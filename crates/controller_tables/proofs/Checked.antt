-- What stays while pieces, networks and segments are read.
use Rattle.std.proofs.Common.{◌≡◌, ℕ, ◌+◌, List, [], ◌∷◌, length, Ok, refl, ap, ◌∙◌, length-append}
use Rattle.toml.specs.Data.{Members}
use Rattle.plant_types.specs.declared.network.Network.{Network}
use Rattle.plant_types.specs.declared.network.Segment.{Segment}
use Rattle.plant_types.specs.Sizes.{Sizes}
use Rattle.plant_types.specs.Fault.{at_place}
use Rattle.cell_text.specs.declared.piece.Piece.{Piece}
use Rattle.cell_text.specs.declared.piece.Piece.TheVariants as pieces
use Rattle.cell_text.proofs.StepLemmas.{step-ok}
use Rattle.controller_tables.specs.declared.owner.Owner.{Owner}
use Rattle.controller_tables.specs.Texts.{network_texts}
use Rattle.controller_tables.specs.Pieces.{piece_behind, pieces_of}
use Rattle.controller_tables.specs.Program.{ReadProgram, open_network, site_of, added, with_piece}
use Rattle.controller_tables.specs.Program.{place_of_next, with_pieces, with_network, with_segment}
use Rattle.controller_tables.specs.Program.{with_text, with_texts, with_segment_texts}
use Rattle.controller_tables.specs.Program.{with_segment_table}
use Rattle.plant_tables.proofs.Common.{ok_value, at_place-ok}

-- what stays while the pieces of a network are read
pub record IsSameBefore (read next : ReadProgram) : Type 0 where
  pub segments : next.segments ≡ read.segments
  pub networks : next.networks ≡ read.networks

-- a piece is neither a network nor a segment
added-before : (read : ReadProgram) (piece : Piece) → IsSameBefore read (added read piece)
added-before read (pieces.Cell cell) = record { segments = refl; networks = refl }
added-before read (pieces.Short short) = record { segments = refl; networks = refl }

-- so it is with one that is taken
with_piece-before : (sizes : Sizes) (read next : ReadProgram) (text : List ℕ)
    → with_piece sizes read text ≡ Ok next → IsSameBefore read next
with_piece-before sizes read next text h =
    let taken = step-ok (piece_behind (site_of sizes read) (open_network read) text)
    (λ piece. Ok (added read piece)) next h in
    let whole : added read taken.0 ≡ next = ok_value (added read taken.0) next taken.1.1 in
    rw (← whole) (added-before read taken.0)

-- pieces are neither networks nor segments
pub with_pieces-before : (owner : Owner) (pieces : List (List ℕ)) (read next : ReadProgram)
    → with_pieces owner read pieces ≡ Ok next → IsSameBefore read next
unfolding with_pieces
with_pieces-before owner [] read next h =
    let same : read ≡ next = ok_value read next h in
    let kept : IsSameBefore read read = record { segments = refl; networks = refl } in
    rw (← same) kept
with_pieces-before owner (piece ∷ pieces) read next h =
    let place = place_of_next owner.position read in
    let here = step-ok (at_place place (with_piece owner.sizes read piece))
    (λ after. with_pieces owner after pieces) next h in
    let step = with_piece-before owner.sizes read here.0 piece
    (at_place-ok place (with_piece owner.sizes read piece) here.0 here.1.0) in
    let rest = with_pieces-before owner pieces here.0 next here.1.1 in
    record { segments = rest.segments ∙ step.segments; networks = rest.networks ∙ step.networks }

-- one text is one network more, and no network is open behind it
pub record IsNetworkMore (read next : ReadProgram) : Type 0 where
  pub segments : next.segments ≡ read.segments
  pub count : length next.networks ≡ length read.networks + 1
  pub cells : next.cells ≡ []

-- so it is with a text that is read
pub with_text-more : (owner : Owner) (text : List ℕ) (read next : ReadProgram)
    → with_text owner read text ≡ Ok next → IsNetworkMore read next
unfolding with_text
with_text-more owner text read next h =
    let here = step-ok (with_pieces owner read (pieces_of text))
    (λ after. Ok (with_network after)) next h in
    let same : with_network here.0 ≡ next = ok_value (with_network here.0) next here.1.1 in
    let kept = with_pieces-before owner (pieces_of text) read here.0 here.1.0 in
    let more : IsNetworkMore read (with_network here.0) = record {
      segments = kept.segments;
      count = length-append here.0.networks (open_network here.0 ∷ [])
          ∙ ap (λ (networks : List Network). length networks + 1) kept.networks;
      cells = refl;
    } in
    rw (← same) more

-- what was read between the texts of a segment: the segments before it, and no network is open
pub record IsWithin (read next : ReadProgram) : Type 0 where
  pub segments : next.segments ≡ read.segments
  pub closed : next.cells ≡ []

-- so it is behind the texts of a segment
pub with_texts-within : (owner : Owner) (texts : List (List ℕ)) (read next : ReadProgram)
    → with_texts owner read texts ≡ Ok next
    → read.cells ≡ [] → IsWithin read next
unfolding with_texts
with_texts-within owner [] read next h c =
    let same : read ≡ next = ok_value read next h in
    let here : IsWithin read read = record { segments = refl; closed = c } in
    rw (← same) here
with_texts-within owner (text ∷ texts) read next h c =
    let here = step-ok (with_text owner read text) (λ after. with_texts owner after texts) next h in
    let more = with_text-more owner text read here.0 here.1.0 in
    let rest = with_texts-within owner texts here.0 next here.1.1 more.cells in
    record { segments = rest.segments ∙ more.segments; closed = rest.closed }

-- one segment more, and nothing of the next
pub record IsSegmentMore (read next : ReadProgram) : Type 0 where
  pub count : length next.segments ≡ length read.segments + 1
  pub networks : next.networks ≡ []
  pub cells : next.cells ≡ []

-- so it is with the texts of a segment that are read
pub with_segment_texts-more : (owner : Owner) (texts : List (List ℕ)) (read next : ReadProgram)
    → with_segment_texts owner read texts ≡ Ok next → read.cells ≡ [] → IsSegmentMore read next
unfolding with_segment_texts
with_segment_texts-more owner texts read next h c =
    let here = step-ok (with_texts owner read texts) (λ after. Ok (with_segment after)) next h in
    let same : with_segment here.0 ≡ next = ok_value (with_segment here.0) next here.1.1 in
    let within = with_texts-within owner texts read here.0 here.1.0 c in
    let more : IsSegmentMore read (with_segment here.0) = record {
      count = length-append here.0.segments (record { networks = here.0.networks } ∷ [])
          ∙ ap (λ (segments : List Segment). length segments + 1) within.segments;
      networks = refl;
      cells = within.closed;
    } in
    rw (← same) more

-- a table of a segment that is read has texts that are
with_segment_table-texts : (owner : Owner) (table : Members) (read next : ReadProgram)
    → with_segment_table owner read table ≡ Ok next
    → (texts : List (List ℕ)) × (with_segment_texts owner read texts ≡ Ok next)
unfolding with_segment_table
with_segment_table-texts owner table read next h =
    let texts = step-ok (network_texts owner.position (length read.segments + 1) table)
    (with_segment_texts owner read) next h in (texts.0, texts.1.1)

-- one table is one segment more, and nothing of the next
pub with_segment_table-more : (owner : Owner) (table : Members) (read next : ReadProgram)
    → with_segment_table owner read table ≡ Ok next → read.cells ≡ []
    → IsSegmentMore read next
with_segment_table-more owner table read next h c = let texts = with_segment_table-texts owner table
    read next h in with_segment_texts-more owner texts.0 read next texts.1 c
