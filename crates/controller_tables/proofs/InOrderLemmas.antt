-- What is read piece by piece, network by network and segment by segment is what the lists of
-- pieces, networks and segments stand for.
use Rattle.std.proofs.Common.{◌≡◌, ℕ, ◌+◌, List, [], ◌∷◌, ◌++◌, length, Result, Ok, Err, refl, sym}
use Rattle.std.proofs.Common.{ap, ◌∙◌, arith, length-append}
use Rattle.std.specs.List.{filter_map}
use Rattle.std.proofs.lemmas.List.{append-nil}
use Rattle.std.proofs.lemmas.List.Elements.{filter_map-append}
use Rattle.toml.specs.Data.{Members}
use Rattle.plant_types.specs.declared.network.Network.{Network}
use Rattle.plant_types.specs.declared.network.Segment.{Segment}
use Rattle.plant_types.specs.declared.fault.PlantFault.{PlantFault}
use Rattle.plant_types.specs.declared.fault.Place.{Place}
use Rattle.plant_types.specs.Fault.{at_place}
use Rattle.controller_tables.specs.declared.owner.Owner.{Owner}
use Rattle.cell_text.specs.declared.piece.Piece.{Piece}
use Rattle.cell_text.specs.declared.piece.Piece.TheVariants as pieces
use Rattle.cell_text.specs.Steps.{◌>>=◌}
use Rattle.plant_tables.specs.declared.refusal.LoadEnd.{LoadEnd}
use Rattle.plant_tables.specs.declared.refusal.LoadEnd.TheVariants as ends
use Rattle.plant_tables.specs.Refusals.{Refusal, Stops}
use Rattle.plant_tables.specs.InOrder.{numbered_from, with_positions, each_behind}
use Rattle.controller_tables.specs.Texts.{network_texts}
use Rattle.controller_tables.specs.Pieces.{cell_in, short_in, network_from, site_behind}
use Rattle.controller_tables.specs.Pieces.{place_of_piece, piece_behind, placed_behind, pieces_of}
use Rattle.controller_tables.specs.Pieces.{network_behind, next_network, segment_behind}
use Rattle.controller_tables.specs.Pieces.{segments_of}
use Rattle.controller_tables.specs.Program.{ReadProgram, nothing_read, added, with_tested}
use Rattle.controller_tables.specs.Program.{place_of_next, with_piece, with_pieces, with_network}
use Rattle.controller_tables.specs.Program.{with_text, with_texts, with_segment, with_segment_texts}
use Rattle.controller_tables.specs.Program.{with_segment_table, with_segment_tables}

-- one item more
length-more : {B : Type 0} (bs : List B) (b : B) → length (bs ++ b ∷ []) + 1 ≡ (length bs + 1) + 1
length-more bs b = ap (λ n. n + 1) (length-append bs (b ∷ []))

-- a step before others, and what is made of all of them
step_behind : {A B E St : Type 0} (read : List B → ℕ × A → Result B E)
    (walk : St → List A → Result St E) (state : List B → St)
    (bs : List B) (x : A) (xs : List A) (first : Result B E)
    → ((b : B) → walk (state (bs ++ b ∷ [])) xs ≡ (each_behind read (bs ++ b ∷ [])
    (numbered_from ((length bs + 1) + 1) xs) >>= λ all. Ok (state all)))
    → ((first >>= λ b. Ok (state (bs ++ b ∷ []))) >>= λ next. walk next xs)
    ≡ ((first >>= λ b. each_behind read (bs ++ b ∷ []) (numbered_from ((length bs + 1) + 1) xs))
    >>= λ all. Ok (state all))
step_behind read walk state bs x xs (Ok b) rest = rest b
step_behind read walk state bs x xs (Err e) rest = refl

-- a walk whose each step reads one item with those before it reads the items in order
walk_behind : {A B E St : Type 0} (read : List B → ℕ × A → Result B E) (step : St → A → Result St E)
    (walk : St → List A → Result St E) (state : List B → St)
    → ((s : St) → walk s [] ≡ Ok s)
    → ((s : St) (x : A) (xs : List A) → walk s (x ∷ xs) ≡ (step s x >>= λ next. walk next xs))
    → ((bs : List B) (x : A)
    → step (state bs) x ≡ (read bs (length bs + 1, x) >>= λ b. Ok (state (bs ++ b ∷ []))))
    → (xs : List A) (bs : List B) → walk (state bs) xs
    ≡ (each_behind read bs (numbered_from (length bs + 1) xs) >>= λ all. Ok (state all))
unfolding each_behind
walk_behind read step walk state none more each [] bs = none (state bs)
walk_behind read step walk state none more each (x ∷ xs) bs =
    more (state bs) x xs ∙ ap (λ r. r >>= λ next. walk next xs) (each bs x)
    ∙ step_behind read walk state bs x xs (read bs (length bs + 1, x)) (λ b.
    walk_behind read step walk state none more each xs (bs ++ b ∷ [])
    ∙ ap (λ n. each_behind read (bs ++ b ∷ []) (numbered_from n xs) >>= λ all. Ok (state all))
    (length-more bs b))

-- what was read of a network's pieces behind segments and networks
abbrev state_of : ℕ → List Segment → List Network → List Piece → ReadProgram
state_of count segments networks ps = record {
  count = count;
  segments = segments;
  networks = networks;
  cells = filter_map cell_in ps;
  shorts = filter_map short_in ps;
}

-- one piece more
added-state : (count : ℕ) (segments : List Segment) (networks : List Network) (ps : List Piece)
    (piece : Piece)
    → added (state_of count segments networks ps) piece
    ≡ state_of count segments networks (ps ++ piece ∷ [])
added-state count segments networks ps (pieces.Cell cell) =
    let cells : filter_map cell_in ps ++ cell ∷ []
    ≡ filter_map cell_in (ps ++ pieces.Cell cell ∷ []) =
    sym (filter_map-append cell_in ps (pieces.Cell cell ∷ [])) in
    let shorts : filter_map short_in ps ≡ filter_map short_in (ps ++ pieces.Cell cell ∷ []) =
    sym (filter_map-append short_in ps (pieces.Cell cell ∷ [])
    ∙ append-nil (filter_map short_in ps)) in
    cc
added-state count segments networks ps (pieces.Short short) =
    let cells : filter_map cell_in ps ≡ filter_map cell_in (ps ++ pieces.Short short ∷ []) =
    sym (filter_map-append cell_in ps (pieces.Short short ∷ [])
    ∙ append-nil (filter_map cell_in ps)) in
    let shorts : filter_map short_in ps ++ short ∷ []
    ≡ filter_map short_in (ps ++ pieces.Short short ∷ []) =
    sym (filter_map-append short_in ps (pieces.Short short ∷ [])) in
    cc

-- each piece is a cell or a short
pieces_counted : (ps : List Piece)
    → length (filter_map cell_in ps) + length (filter_map short_in ps) ≡ length ps
pieces_counted [] = refl
pieces_counted (pieces.Cell cell ∷ ps) = omega (arith, pieces_counted ps)
pieces_counted (pieces.Short short ∷ ps) = omega (arith, pieces_counted ps)

-- a piece at its place
placed-each : (count : ℕ) (segments : List Segment) (networks : List Network) (ps : List Piece)
    (place other : Place)
    (r : Result Piece PlantFault) → place ≡ other
    → at_place place (with_tested (state_of count segments networks ps) r)
    ≡ (at_place other r >>= λ piece. Ok (state_of count segments networks (ps ++ piece ∷ [])))
placed-each count segments networks ps place other (Ok piece) e =
    ap Ok (added-state count segments networks ps piece)
placed-each count segments networks ps place other (Err fault) e = ap (λ p. Err (fault, p)) e

-- pieces one after another
pieces_in_order : (owner : Owner) (count : ℕ) (segments : List Segment) (networks : List Network)
    (texts : List (List ℕ)) (ps : List Piece)
    → with_pieces owner (state_of count segments networks ps) texts
    ≡ (each_behind (placed_behind owner.position (site_behind owner.sizes count segments networks))
    ps
    (numbered_from (length ps + 1) texts) >>= λ all. Ok (state_of count segments networks all))
unfolding with_pieces
pieces_in_order owner count segments networks =
    let site = site_behind owner.sizes count segments networks in
    walk_behind (placed_behind owner.position site)
    (λ read text. at_place (place_of_next owner.position read) (with_piece owner.sizes read text))
    (with_pieces owner) (state_of count segments networks)
    (λ read. refl) (λ read text texts. refl)
    (λ ps text. placed-each count segments networks ps
    (place_of_next owner.position (state_of count segments networks ps))
    (place_of_piece owner.position site (length ps + 1)) (piece_behind site (network_from ps) text)
    (ap (λ n. place_of_piece owner.position site (n + 1)) (pieces_counted ps)))

-- two steps and two others that make the same
two_steps : {A B C D E : Type 0} (r : Result A E) (f : A → B) (g : B → D) (h : A → C) (k : C → D)
    → ((a : A) → g (f a) ≡ k (h a))
    → ((r >>= λ a. Ok (f a)) >>= λ b. Ok (g b)) ≡ ((r >>= λ a. Ok (h a)) >>= λ c. Ok (k c))
two_steps (Ok a) f g h k same = ap Ok (same a)
two_steps (Err e) f g h k same = refl

-- one network more
network_in_order : (owner : Owner) (count : ℕ) (segments : List Segment) (networks : List Network)
    (text : List ℕ)
    → with_text owner (state_of count segments networks []) text
    ≡ (network_behind owner.position (site_behind owner.sizes count segments networks) text
    >>= λ network. Ok
    (state_of count segments (networks ++ network ∷ []) []))
unfolding with_text network_behind
network_in_order owner count segments networks text =
    ap (λ r. r >>= λ next. Ok (with_network next))
    (pieces_in_order owner count segments networks (pieces_of text) [])
    ∙ two_steps
    (each_behind (placed_behind owner.position (site_behind owner.sizes count segments networks)) []
    (numbered_from 1 (pieces_of text)))
    (state_of count segments networks) with_network network_from
    (λ network. state_of count segments (networks ++ network ∷ []) []) (λ ps. refl)

-- networks one after another
networks_in_order : (owner : Owner) (count : ℕ) (segments : List Segment) (texts : List (List ℕ))
    (networks : List Network)
    → with_texts owner (state_of count segments networks []) texts
    ≡ (each_behind (next_network owner count segments) networks
    (numbered_from (length networks + 1) texts) >>= λ all. Ok (state_of count segments all []))
unfolding with_texts
networks_in_order owner count segments =
    walk_behind (next_network owner count segments) (with_text owner)
    (with_texts owner) (λ networks. state_of count segments networks []) (λ read. refl)
    (λ read text texts. refl)
    (λ networks text. network_in_order owner count segments networks text)

-- a step that only hands on its value
ok_again : {A B E : Type 0} (r : Result A E) (make : A → B)
    → ((r >>= λ a. Ok a) >>= λ a. Ok (make a)) ≡ (r >>= λ a. Ok (make a))
ok_again (Ok a) make = refl
ok_again (Err e) make = refl

-- the segment of networks that are read
segment_again : {S E : Type 0} (r : Result (List Network) E) (make : Segment → S)
    → (r >>= λ all. Ok (make (record { networks = all })))
    ≡ ((r >>= λ all. Ok (record { networks = all })) >>= λ segment. Ok (make segment))
segment_again (Ok all) make = refl
segment_again (Err e) make = refl

-- the segment of networks, behind a step that gives their texts
table_behind : {T S E : Type 0} (first : Result T E) (walk : T → Result S E)
    (networks : T → Result (List Network) E) (make : Segment → S)
    → ((t : T) → walk t ≡ (networks t >>= λ all. Ok (make (record { networks = all }))))
    → (first >>= walk) ≡ ((first >>= λ t. networks t >>= λ all. Ok (record { networks = all }))
    >>= λ segment. Ok (make segment))
table_behind (Ok t) walk networks make same = same t ∙ segment_again (networks t) make
table_behind (Err e) walk networks make same = refl

-- one segment more, of these texts
texts_in_order : (owner : Owner) (count : ℕ) (segments : List Segment) (texts : List (List ℕ))
    → with_segment_texts owner (state_of count segments [] []) texts
    ≡ (each_behind (next_network owner count segments) []
    (numbered_from 1 texts)
    >>= λ networks. Ok (state_of count (segments ++ record { networks = networks } ∷ []) [] []))
unfolding with_segment_texts
texts_in_order owner count segments texts =
    ap (λ r. r >>= λ next. Ok (with_segment next)) (networks_in_order owner count segments texts [])
    ∙ two_steps (each_behind (next_network owner count segments) [] (numbered_from 1 texts))
    (λ networks. state_of count segments networks []) with_segment (λ networks. networks)
    (λ networks. state_of count (segments ++ record { networks = networks } ∷ []) [] [])
    (λ networks. refl)
    ∙ ok_again (each_behind (next_network owner count segments) []
    (numbered_from 1 texts))
    (λ networks. state_of count (segments ++ record { networks = networks } ∷ []) [] [])

-- one segment more, by its table
segment_in_order : (owner : Owner) (count : ℕ) (segments : List Segment) (table : Members)
    → with_segment_table owner (state_of count segments [] []) table
    ≡ (segment_behind owner count segments (length segments + 1, table)
    >>= λ segment. Ok (state_of count (segments ++ segment ∷ []) [] []))
unfolding with_segment_table segment_behind
segment_in_order owner count segments table =
    table_behind (network_texts owner.position (length segments + 1) table)
    (with_segment_texts owner (state_of count segments [] []))
    (λ texts. each_behind (next_network owner count segments) [] (with_positions texts))
    (λ segment. state_of count (segments ++ segment ∷ []) [] [])
    (texts_in_order owner count segments)

-- segments one after another
segments_in_order : (owner : Owner) (count : ℕ) (tables : List Members) (segments : List Segment)
    → with_segment_tables owner (state_of count segments [] []) tables ≡
    (each_behind (segment_behind owner count) segments (numbered_from (length segments + 1) tables)
    >>= λ all. Ok (state_of count all [] []))
unfolding with_segment_tables
segments_in_order owner count = walk_behind (segment_behind owner count) (with_segment_table owner)
    (with_segment_tables owner)
    (λ segments. state_of count segments [] []) (λ read. refl) (λ read table more. refl)
    (λ segments table. segment_in_order owner count segments table)

-- what is made of a value and taken out of it again
taken_out : {A S E : Type 0} (r : Result A E) (make : A → S) (take : S → A)
    → ((a : A) → take (make a) ≡ a)
    → ((r >>= λ a. Ok (make a)) >>= λ s. Ok (take s)) ≡ r
taken_out (Ok a) make take back = ap Ok (back a)
taken_out (Err e) make take back = refl

-- the segments that are read one after another are those of the tables
pub segments_of-read : (owner : Owner) (tables : List Members) →
    (with_segment_tables owner (nothing_read (length tables)) tables >>= λ read. Ok read.segments)
    ≡ segments_of owner tables
segments_of-read owner tables =
    ap (λ (r : Result ReadProgram Refusal). r >>= λ read. Ok read.segments)
    (segments_in_order owner (length tables) tables [])
    ∙ taken_out (segments_of owner tables) (λ segments. state_of (length tables) segments [] [])
    (λ (read : ReadProgram). read.segments) (λ segments. refl)

-- what was read from nothing gives the segments
pub segments-given : (owner : Owner) (tables : List Members) (start next : ReadProgram)
    (segments : List Segment)
    → start ≡ nothing_read (length tables) → with_segment_tables owner start tables ≡ Ok next
    → segments ≡ next.segments → segments_of owner tables ≡ Ok segments
segments-given owner tables start next segments none read out =
    sym (segments_of-read owner tables) ∙ ap (λ (s : ReadProgram).
    with_segment_tables owner s tables >>= λ read. Ok read.segments) (sym none)
    ∙ ap (λ (r : Result ReadProgram Refusal). r >>= λ read. Ok read.segments) read ∙ ap Ok (sym out)

-- what stops the reading from nothing stops the segments
pub segments-stop : (owner : Owner) (tables : List Members) (start : ReadProgram) (end : LoadEnd)
    → start ≡ nothing_read (length tables)
    → Stops end (with_segment_tables owner start tables) → Stops end (segments_of owner tables)
segments-stop owner tables start ends.NoMemory none read = tt
segments-stop owner tables start (ends.Refused fault place) none read =
    sym (segments_of-read owner tables) ∙ ap (λ (s : ReadProgram).
    with_segment_tables owner s tables >>= λ read. Ok read.segments) (sym none)
    ∙ ap (λ (r : Result ReadProgram Refusal). r >>= λ read. Ok read.segments) read
