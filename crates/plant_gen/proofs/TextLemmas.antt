-- The texts that are written piece by piece, as lines.
use Rattle.std.proofs.Common.{◌≡◌, ℕ, ◌+◌, List, [], ◌∷◌, ◌++◌, refl, sym, ap, ◌∙◌, codes, map}
use Rattle.std.proofs.Common.{append_assoc}
use Rattle.std.proofs.lemmas.Grind.{flat_map-append}
use Rattle.std.proofs.lemmas.List.{append-nil, map-append, map-id}
use Rattle.std.proofs.lemmas.List.FromFn.{map-range_with_len_more}
use Rattle.std.specs.List.{flat_map, range_with_len}
use Rattle.plant_types.specs.declared.reference.Ref.{Ref}
use Rattle.plant_types.specs.Reference.{reference_text}
use Rattle.plant_types.specs.Reference.{coil_at}
use Rattle.plant_gen.specs.Text.{contacts_network, input_at, network_line, quoted}
use Rattle.plant_gen.specs.Text.{lines_text}

-- one more number at the end of a range
range_more : (a n j : ℕ) → a + n ≡ j → range_with_len a (n + 1) ≡ range_with_len a n ++ j ∷ []
range_more a n j e =
    sym (map-id (range_with_len a (n + 1))) ∙ map-range_with_len_more (λ x. x) a n j e
    ∙ ap (λ front. front ++ j ∷ []) (map-id (range_with_len a n))

flat_range_more : (f : ℕ → List ℕ) (a n j : ℕ) → a + n ≡ j
    → flat_map f (range_with_len a (n + 1)) ≡ flat_map f (range_with_len a n) ++ f j
flat_range_more f a n j e =
    ap (flat_map f) (range_more a n j e) ∙ flat_map-append f (range_with_len a n) (j ∷ [])
    ∙ ap (λ last. flat_map f (range_with_len a n) ++ last) (append-nil (f j))

-- what stands in a text after one more piece
pub one_more : (f : ℕ → List ℕ) (old now : List ℕ) (a n next j : ℕ) → a + n ≡ j → n + 1 ≡ next
    → now ≡ old ++ flat_map f (range_with_len a n)
    → now ++ f j ≡ old ++ flat_map f (range_with_len a next)
one_more f old now a n next j e s h =
    ap (λ text. text ++ f j) h ∙ append_assoc old (flat_map f (range_with_len a n)) (f j)
    ∙ ap (λ more. old ++ more) (sym (flat_range_more f a n j e))
    ∙ ap (λ count. old ++ flat_map f (range_with_len a count)) s

-- the lines of some networks, one by one
pub lines_of_networks : (network : ℕ → List ℕ) (coils : List ℕ)
    → flat_map (λ coil. lines_text (network_line (network coil) ∷ [])) coils
    ≡ lines_text (map network_line (map network coils))
lines_of_networks network [] = refl
lines_of_networks network (coil ∷ coils) =
    ap (λ rest. lines_text (network_line (network coil) ∷ []) ++ rest)
    (lines_of_networks network coils)
    ∙ sym (flat_map-append (λ line. line ++ codes "\n") (network_line (network coil) ∷ [])
    (map network_line (map network coils)))

-- the lines of some controllers, one by one
pub lines_of_all : (lines : ℕ → List (List ℕ)) (nodes : List ℕ)
    → flat_map (λ node. lines_text (lines node)) nodes ≡ lines_text (flat_map lines nodes)
lines_of_all lines [] = refl
lines_of_all lines (node ∷ nodes) =
    ap (λ rest. lines_text (lines node) ++ rest) (lines_of_all lines nodes)
    ∙ sym (flat_map-append (λ line. line ++ codes "\n") (lines node) (flat_map lines nodes))

pub segment_text : (old : List ℕ) (message coils : List (List ℕ))
    → (((old ++ codes "[[controller.segment]]\nnetworks = [\n")
    ++ lines_text (map network_line message))
    ++ lines_text (map network_line coils)) ++ codes "]\n"
    ≡ old ++ lines_text (codes "[[controller.segment]]" ∷ codes "networks = [" ∷ map network_line
    (message ++ coils) ++ codes "]" ∷ [])
segment_text old message coils = simp (append_assoc, map-append, flat_map-append)

pub table_text : (old node fixed : List ℕ)
    → (old ++ (codes "[[controller]]\nnode = " ++ (node ++ codes "\n"))) ++ fixed
    ≡ old ++ ((codes "[[controller]]" ++ codes "\n")
    ++ (((codes "node = " ++ node) ++ codes "\n") ++ fixed))
table_text old node fixed = simp append_assoc

pub script_text : (old first rest : List ℕ)
    → ((old ++ (codes "script = [" ++ quoted first)) ++ rest) ++ codes "]\n"
    ≡ old ++ lines_text ((codes "script = [" ++ (quoted first ++ rest) ++ codes "]") ∷ [])
script_text old first rest = simp append_assoc

-- the first word of a script stands before the commas
pub first_word : (old first : List ℕ)
    → old ++ (codes "script = [\"" ++ (first ++ codes "\""))
    ≡ old ++ (codes "script = [" ++ quoted first)
first_word old first = simp append_assoc

pub controller_text : (old : List ℕ) (table script segment : List (List ℕ))
    → ((old ++ lines_text table) ++ lines_text script) ++ lines_text segment
    ≡ old ++ lines_text (table ++ (script ++ segment))
controller_text old table script segment = simp (append_assoc, flat_map-append)

-- a line that is written with the texts of three references
contacts_line : (a b c : List ℕ)
    → codes "\"1,1 NO " ++ (a ++ (codes "; 2,1 NO " ++ (b ++ (codes "; 1,1 V; 1,2 NC "
    ++ (c ++ (codes "; 1,3 CO " ++ (b ++ codes "\",\n")))))))
    ≡ lines_text (network_line (codes "1,1 NO " ++ a ++ codes "; 2,1 NO " ++ b
    ++ codes "; 1,1 V; 1,2 NC " ++ c ++ codes "; 1,3 CO " ++ b) ∷ [])
contacts_line a b c = simp append_assoc

pub contacts_written : (number node coil : ℕ) (opens at closes : Ref)
    → opens ≡ input_at (coil + number) → at ≡ coil_at coil → closes ≡ input_at (coil + node)
    → codes "\"1,1 NO " ++ (reference_text opens ++ (codes "; 2,1 NO " ++ (reference_text at
    ++ (codes "; 1,1 V; 1,2 NC " ++ (reference_text closes
    ++ (codes "; 1,3 CO " ++ (reference_text at ++ codes "\",\n")))))))
    ≡ lines_text (network_line (contacts_network number node coil) ∷ [])
contacts_written number node coil opens at closes p q r =
    rw (p, q, r)
    (contacts_line (reference_text (input_at (coil + number))) (reference_text (coil_at coil))
    (reference_text (input_at (coil + node))))
