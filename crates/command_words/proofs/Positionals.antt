-- A simple command of `clap` that has positionals alone takes words as it takes `--` and then the
-- words without their first `--`.
use Rattle.std.proofs.Common.{◌≡◌, ◌∙◌, ◌+◌, ℕ, Bool, cond, true, false, zero, suc, refl, sym, ap}
use Rattle.std.proofs.Common.{ap₂}
use Rattle.std.proofs.Common.{List, [], ◌∷◌, length, Option, Some, None}
use Rattle.std.specs.Prelude.{◌==◌, ◌&&◌, ◌||◌, if◌then◌else◌, not, is_some, codes, drop, fold}
use Rattle.std.specs.Prelude.{find, map, min, slice_get}
use Rattle.std.specs.List.{list_all}
use Rattle.std.specs.Str.{bytes_eq, chars}
use Rattle.std.proofs.lemmas.Bool.{and_parts}
use Rattle.clap.specs.Lexer.{long_of, short_of, usize_max}
use Rattle.clap.specs.Walk.{Held, Names, finished, nothing_held, rows_after, Rule, Text, Walk, idle}
use Rattle.clap.specs.Walk.{positional, trailing as trails, after_flag, after_step, arg_by_index}
use Rattle.clap.specs.Walk.{arg_by_long, arg_by_short, bundle, bundle_met, bundle_step, is_multiple}
use Rattle.clap.specs.Walk.{is_pending, long_or_other, plain, positional_held, short_or_plain}
use Rattle.clap.specs.Walk.{settled, takes_several, to_positional, value, walk, walk_from, walked}
use Rattle.clap.specs.Simple.{App, Shape, built, entered, label_of, matches_of, names_of}
use Rattle.clap.specs.Kinds.{Kinds, or_else}
use Rattle.clap.specs.Faults.{built_fault, check_fault, defaults_fault, entered_fault, fault_of}
use Rattle.clap.specs.Faults.{settle_fault, flag_word_fault, step_fault, turn_fault, walk_fault}
use Rattle.command_words.specs.Words.{without_dashes}

-- an argument that takes one value by its place
abbrev pub is_place : Rule → Bool
is_place a = is_some a.index && (not (is_multiple a) && not a.trailing_var_arg)

-- the word begins with a dash
abbrev pub has_dash : Text → Bool
has_dash [] = false
has_dash (x ∷ xs) = x == 45

-- ---- positionals have no names

no_long : (c : List Rule) (name : Text) → list_all is_place c ≡ true → arg_by_long c name ≡ None
no_long [] name h = refl
no_long (a ∷ c) name h =
    let parts = and_parts (is_place a) (list_all is_place c) h in
    let index = (and_parts (is_some a.index) _ parts.0).0 in
    rw index (no_long c name parts.1)

no_short : (c : List Rule) (x : ℕ) → list_all is_place c ≡ true → arg_by_short c x ≡ None
no_short [] x h = refl
no_short (a ∷ c) x h =
    let parts = and_parts (is_place a) (list_all is_place c) h in
    let index = (and_parts (is_some a.index) _ parts.0).0 in
    rw index (no_short c x parts.1)

find_place : (c : List Rule) (p : Rule → Bool) (a : Rule) → list_all is_place c ≡ true
    → find p c ≡ Some a → is_place a ≡ true
find_place [] p a h found = cc
find_place (b ∷ c) p a h found =
    let parts = and_parts (is_place b) (list_all is_place c) h in
    go (p b) parts.0 (λ e. find_place c p a parts.1 e) found
  where
    go : (t : Bool) → is_place b ≡ true → (find p c ≡ Some a → is_place a ≡ true)
        → cond t (Some b) (find p c) ≡ Some a → is_place a ≡ true
    go true here rest e =
        let same : b ≡ a = cc in
        rw (← same) here
    go false here rest e = rest e

-- ---- one word

if_true : {X : Type 0} (b : Bool) (x y : X) → b ≡ true → (if b then x else y) ≡ x
if_true true x y e = refl
if_true false x y e = cc

if_false : {X : Type 0} (b : Bool) (x y : X) → b ≡ false → (if b then x else y) ≡ y
if_false true x y e = cc
if_false false x y e = refl

-- where the walk stands between two words, where nothing waits
abbrev pub standing : Bool → ℕ → Held → Walk
standing last position h =
    record { held = h; waiting = idle; position = position; is_trailing = last; stopped = None }

-- the place after a word that goes to a positional
abbrev place_after : Option Rule → ℕ → ℕ
place_after None position = position
place_after (Some a) position = min (position + 1) usize_max

abbrev held_after : List Rule → Option Rule → Text → Held → Held
held_after c None word h = h
held_after c (Some a) word h = positional_held c a word h

-- where it stands after a word that is a value
abbrev went : List Rule → Bool → ℕ → Text → Held → Walk
went c last p w h =
    standing last (place_after (arg_by_index c p) p) (held_after c (arg_by_index c p) w h)

not_true : (b : Bool) → not b ≡ true → b ≡ false
not_true true e = cc
not_true false e = refl

placed : (c : List Rule) (o : Option Rule) (t : Bool) (p : ℕ) (w : Text) (h : Held)
    → ((a : Rule) → o ≡ Some a → is_place a ≡ true)
    → to_positional c o w (standing t p h) h ≡ standing t (place_after o p) (held_after c o w h)
placed c None t p w h is = refl
placed c (Some a) t p w h is =
    let parts = and_parts (not (is_multiple a)) (not a.trailing_var_arg)
    (and_parts (is_some a.index) _ (is a refl)).1 in
    go (is_multiple a) a.trailing_var_arg t (not_true (is_multiple a) parts.0)
    (not_true a.trailing_var_arg parts.1)
  where
    go : (multiple last t : Bool) → multiple ≡ false → last ≡ false
        → record {
          held = positional_held c a w h;
          waiting = if multiple then positional else idle;
          position = if multiple then p else min (p + 1) usize_max;
          is_trailing = t || last;
          stopped = None;
        }
        ≡ standing t (min (p + 1) usize_max) (positional_held c a w h)
    go false false true one ends = refl
    go false false false one ends = refl
    go true last t one ends = cc
    go false true t one ends = cc

by_index : (c : List Rule) (t : Bool) (p : ℕ) (w : Text) (h : Held) → list_all is_place c ≡ true
    → to_positional c (arg_by_index c p) w (standing t p h) h ≡ went c t p w h
by_index c t p w h all = placed c (arg_by_index c p) t p w h (λ a e. find_place c _ a all e)

-- after `--` each word is a value
walked_trailing : (c : List Rule) (p : ℕ) (w : Text) (h : Held) → list_all is_place c ≡ true
    → walked c [] (standing true p h) w ≡ went c true p w h
unfolding walked
walked_trailing c p w h all = by_index c true p w h all

same_skip : (h : Held) → h.skip ≡ 0 → record h { skip = 0 } ≡ h
same_skip h none = ap (λ k. record h { skip = k }) (sym none)

-- a word that could be a flag names no argument, so it is a value to the walk
bundle_is_value : (c : List Rule) (w : Text) (flags : Text) (h : Held)
    → list_all is_place c ≡ true → h.skip ≡ 0
    → after_flag c idle w (bundle c flags h).0 (bundle c flags h).1 ≡ (h, value)
unfolding bundle_met
bundle_is_value c w [] h all none = ap (λ k. (k, value)) (same_skip h none)
bundle_is_value c w (x ∷ xs) h all none = go (slice_get (chars (x ∷ xs)) 0) h.skip none
    ∙ ap (λ k. (k, value)) (same_skip h none)
  where
    go : (o : Option ℕ) (k : ℕ) → k ≡ 0
        → after_flag c idle w
        (bundle_step c o (x ∷ xs) k plain (record h { skip = 0 }) (bundle_met c (length xs))).0
        (bundle_step c o (x ∷ xs) k plain (record h { skip = 0 }) (bundle_met c (length xs))).1
        ≡ (record h { skip = 0 }, value)
    go None k e = refl
    go (Some y) zero e = rw (no_short c y all)
    go (Some y) (suc k) e = cc

flag_is_value : (c : List Rule) (w : Text) (h : Held) → list_all is_place c ≡ true → h.skip ≡ 0
    → long_or_other c idle w (long_of w) h ≡ (h, value)
flag_is_value c w h all none = go (long_of w) (short_of w)
  where
    short : (flags : Option Text) → short_or_plain c idle w flags h ≡ (h, value)
    short None = refl
    short (Some flags) = bundle_is_value c w flags h all none

    go : (long : Option (Text × Option Text)) (flags : Option Text)
        → long_or_other c idle w long h ≡ (h, value)
    go (Some p) flags = rw (no_long c p.0 all)
    go None flags = short (short_of w)

before_trailing : (c : List Rule) (p : ℕ) (w : Text) (h : Held)
    → list_all is_place c ≡ true → h.skip ≡ 0
    → walked c [] (standing false p h) w
    ≡ (if bytes_eq w (codes "--") then standing true p h else went c false p w h)
unfolding walked
before_trailing c p w h all none = go (bytes_eq w (codes "--"))
  where
    go : (t : Bool)
        → after_step c w (standing false p h)
        (if t then (h, trails p) else long_or_other c idle w (long_of w) h).0
        (if t then (h, trails p) else long_or_other c idle w (long_of w) h).1
        ≡ (if t then standing true p h else went c false p w h)
    go true = refl
    go false = rw (flag_is_value c w h all none) (by_index c false p w h all)

-- ---- the faults

or_else_none : (a b : Kinds) → or_else a b ≡ [] → (a ≡ []) × (b ≡ [])
or_else_none [] b e = (refl, e)
or_else_none (k ∷ ks) b e = cc

no_dash : (w : Text) → has_dash w ≡ false
    → (bytes_eq w (codes "--") ≡ false) × (long_of w ≡ None) × (short_of w ≡ None)
no_dash [] h = (refl, refl, refl)
no_dash (x ∷ xs) h = (rw h, rw h, rw h)

held_skip : (c : List Rule) (o : Option Rule) (w : Text) (h : Held) → h.skip ≡ 0
    → (held_after c o w h).skip ≡ 0
held_skip c None w h none = none
held_skip c (Some a) w h none = go (is_pending a h.pending && takes_several a)
  where
    go : (t : Bool) → (if t then h else settled c h).skip ≡ 0
    go true = none
    go false = none

abbrev pub is_plain : Text → Bool
is_plain w = not (has_dash w)

-- what the word and the rest fail by, before `--`, at it and after it
turn_before : (s : Shape) (p : ℕ) (w : Text) (h : Held)
    → list_all is_place s.rules ≡ true → h.skip ≡ 0
    → turn_fault s [] (standing false p h) w
    ≡ (if bytes_eq w (codes "--") then []
    else or_else (flag_word_fault s.rules s.args_override_self (long_of w) w h)
    (step_fault s p h value))
turn_before s p w h all none = go (bytes_eq w (codes "--"))
  where
    go : (t : Bool)
        → or_else (if t then [] else flag_word_fault s.rules s.args_override_self (long_of w) w h)
        (step_fault s p (if t then (h, trails p) else long_or_other s.rules idle w (long_of w) h).0
        (if t then (h, trails p) else long_or_other s.rules idle w (long_of w) h).1)
        ≡ (if t then [] else or_else (flag_word_fault s.rules s.args_override_self (long_of w) w h)
        (step_fault s p h value))
    go true = refl
    go false = rw (flag_is_value s.rules w h all none) refl

fault_before : (s : Shape) (p : ℕ) (h : Held) (w : Text) (ws : List Text)
    → list_all is_place s.rules ≡ true → h.skip ≡ 0
    → bytes_eq w (codes "--") ≡ false
    → walk_fault s [] (standing false p h) (w ∷ ws)
    ≡ or_else (or_else (flag_word_fault s.rules s.args_override_self (long_of w) w h)
    (step_fault s p h value))
    (walk_fault s [] (went s.rules false p w h) ws)
unfolding walk_fault
fault_before s p h w ws all none e =
    let turn = turn_before s p w h all none ∙ if_false _ _ _ e in
    let next = before_trailing s.rules p w h all none ∙ if_false _ _ _ e in
    ap₂ or_else turn (ap (λ k. walk_fault s [] k ws) next)

fault_at : (s : Shape) (p : ℕ) (h : Held) (w : Text) (ws : List Text)
    → list_all is_place s.rules ≡ true → h.skip ≡ 0
    → bytes_eq w (codes "--") ≡ true
    → walk_fault s [] (standing false p h) (w ∷ ws) ≡ walk_fault s [] (standing true p h) ws
unfolding walk_fault
fault_at s p h w ws all none e =
    let turn = turn_before s p w h all none ∙ if_true _ _ _ e in
    let next = before_trailing s.rules p w h all none ∙ if_true _ _ _ e in
    ap₂ or_else turn (ap (λ k. walk_fault s [] k ws) next)

fault_after : (s : Shape) (p : ℕ) (h : Held) (w : Text) (ws : List Text)
    → list_all is_place s.rules ≡ true
    → walk_fault s [] (standing true p h) (w ∷ ws)
    ≡ or_else (step_fault s p h value)
    (walk_fault s [] (went s.rules true p w h) ws)
unfolding walk_fault
fault_after s p h w ws all = ap (λ k. or_else (step_fault s p h value) (walk_fault s [] k ws))
    (walked_trailing s.rules p w h all)

drops : (w : Text) (ws : List Text) → bytes_eq w (codes "--") ≡ true → without_dashes (w ∷ ws) ≡ ws
drops w ws e = rw e refl

keeps : (w : Text) (ws : List Text) → bytes_eq w (codes "--") ≡ false
    → without_dashes (w ∷ ws) ≡ w ∷ without_dashes ws
keeps w ws e = rw e refl

-- words of which none but the first `--` begins with a dash fail as they do after `--`
same_fault : (s : Shape) (p : ℕ) (h : Held) (ws : List Text)
    → list_all is_place s.rules ≡ true → h.skip ≡ 0
    → list_all is_plain (without_dashes ws) ≡ true
    → walk_fault s [] (standing false p h) ws
    ≡ walk_fault s [] (standing true p h) (without_dashes ws)
unfolding walk_fault
same_fault s p h [] all none clear = refl
same_fault s p h (w ∷ ws) all none clear =
    go (bytes_eq w (codes "--")) refl
    (λ q. same_fault s (place_after (arg_by_index s.rules p) p)
    (held_after s.rules (arg_by_index s.rules p) w h) ws all
    (held_skip s.rules (arg_by_index s.rules p) w h none) q)
  where
    go : (t : Bool) → bytes_eq w (codes "--") ≡ t
        → (list_all is_plain (without_dashes ws) ≡ true
        → walk_fault s [] (went s.rules false p w h) ws
        ≡ walk_fault s [] (went s.rules true p w h) (without_dashes ws))
        → walk_fault s [] (standing false p h) (w ∷ ws)
        ≡ walk_fault s [] (standing true p h) (without_dashes (w ∷ ws))
    go true e rest = fault_at s p h w ws all none e
        ∙ ap (walk_fault s [] (standing true p h)) (sym (drops w ws e))
    go false e rest =
        let kept = keeps w ws e in
        let parts = and_parts (is_plain w) (list_all is_plain (without_dashes ws))
        (ap (list_all is_plain) (sym kept) ∙ clear) in
        let none_here = no_dash w (not_true (has_dash w) parts.0) in
        let no_flag : flag_word_fault s.rules s.args_override_self (long_of w) w h ≡ [] =
        rw (none_here.1, none_here.2) refl in
        fault_before s p h w ws all none e
        ∙ (ap₂ (λ a b. or_else (or_else a (step_fault s p h value)) b) no_flag (rest parts.1)
        ∙ (sym (fault_after s p h w (without_dashes ws) all)
        ∙ ap (walk_fault s [] (standing true p h)) (sym kept)))

-- and words that do not fail do not fail after `--`
less_fault : (s : Shape) (p : ℕ) (h : Held) (ws : List Text)
    → list_all is_place s.rules ≡ true → h.skip ≡ 0
    → walk_fault s [] (standing false p h) ws ≡ []
    → walk_fault s [] (standing true p h) (without_dashes ws) ≡ []
unfolding walk_fault
less_fault s p h [] all none e = refl
less_fault s p h (w ∷ ws) all none passed =
    go (bytes_eq w (codes "--")) refl
    (λ q. less_fault s (place_after (arg_by_index s.rules p) p)
    (held_after s.rules (arg_by_index s.rules p) w h) ws all
    (held_skip s.rules (arg_by_index s.rules p) w h none) q)
  where
    go : (t : Bool) → bytes_eq w (codes "--") ≡ t
        → (walk_fault s [] (went s.rules false p w h) ws ≡ []
        → walk_fault s [] (went s.rules true p w h) (without_dashes ws) ≡ [])
        → walk_fault s [] (standing true p h) (without_dashes (w ∷ ws)) ≡ []
    go true e rest = ap (walk_fault s [] (standing true p h)) (drops w ws e)
        ∙ (sym (fault_at s p h w ws all none e) ∙ passed)
    go false e rest =
        let parts = or_else_none _ _ (sym (fault_before s p h w ws all none e) ∙ passed) in
        let here = (or_else_none _ _ parts.0).1 in
        ap (walk_fault s [] (standing true p h)) (keeps w ws e)
        ∙ (fault_after s p h w (without_dashes ws) all ∙ ap₂ or_else here (rest parts.1))

-- what is held after the words is what is held after `--` and the words without their first `--`
abbrev seen : Walk → Held × Option (Text × List Text)
seen w = (w.held, w.stopped)

same_walk : (c : List Rule) (p : ℕ) (h : Held) (ws : List Text)
    → list_all is_place c ≡ true → h.skip ≡ 0
    → seen (fold (walked c []) (standing false p h) ws)
    ≡ seen (fold (walked c []) (standing true p h) (without_dashes ws))
same_walk c p h [] all none = refl
same_walk c p h (w ∷ ws) all none =
    go (bytes_eq w (codes "--")) refl
    (same_walk c (place_after (arg_by_index c p) p) (held_after c (arg_by_index c p) w h) ws all
    (held_skip c (arg_by_index c p) w h none))
  where
    go : (t : Bool) → bytes_eq w (codes "--") ≡ t
        → seen (fold (walked c []) (went c false p w h) ws)
        ≡ seen (fold (walked c []) (went c true p w h) (without_dashes ws))
        → seen (fold (walked c []) (standing false p h) (w ∷ ws))
        ≡ seen (fold (walked c []) (standing true p h) (without_dashes (w ∷ ws)))
    go true e rest =
        let next = before_trailing c p w h all none ∙ if_true _ _ _ e in
        ap (λ k. seen (fold (walked c []) k ws)) next
        ∙ ap (λ xs. seen (fold (walked c []) (standing true p h) xs)) (sym (drops w ws e))
    go false e rest =
        let next = before_trailing c p w h all none ∙ if_false _ _ _ e in
        ap (λ k. seen (fold (walked c []) k ws)) next ∙ (rest
        ∙ (ap (λ k. seen (fold (walked c []) k (without_dashes ws)))
        (sym (walked_trailing c p w h all))
        ∙ ap (λ xs. seen (fold (walked c []) (standing true p h) xs)) (sym (keeps w ws e))))

-- ---- the whole parse

-- the command has positionals alone, and its words have no program's name before them
pub record IsPositional (a : App) : Type 0 where
  pub bare : a.top.no_binary_name ≡ true
  pub alone : (built a).subs ≡ []
  pub places : list_all is_place (built a).top.rules ≡ true

abbrev fault_after_walk : App → Held × Option (Text × List Text) → Kinds
fault_after_walk b end = or_else (entered_fault b end.1)
    (or_else (settle_fault b.top.rules b.top.args_override_self end.0)
    (or_else (defaults_fault (settled b.top.rules end.0).rows b.top.rules)
    (check_fault b.top (finished b.top.rules end.0) (is_some (entered b end.1)))))

abbrev fault_with : App → Names → List Text → Kinds
fault_with b names ws =
    or_else (walk_fault b.top names (walk_from nothing_held) ws)
    (fault_after_walk b (seen (walk b.top.rules names nothing_held ws)))

fault_is : (a : App) (ws : List Text) → IsPositional a → fault_of a ws ≡ fault_with (built a) [] ws
fault_is a ws is =
    ap (λ xs. built_fault (built a) nothing_held xs) (if_true _ ws (drop 1 ws) is.bare)
    ∙ ap (λ names. fault_with (built a) names ws) (ap (map label_of) is.alone)

matches_are : (a : App) (ws : List Text) → IsPositional a
    → matches_of a ws
    ≡ finished (built a).top.rules (seen (walk (built a).top.rules [] nothing_held ws)).0
matches_are a ws is =
    ap (λ xs. rows_after (built a).top.rules (names_of (built a)) xs)
    (if_true _ ws (drop 1 ws) is.bare)
    ∙ ap (λ names. rows_after (built a).top.rules names ws) (ap (map label_of) is.alone)

seen_after : (c : List Rule) (ws : List Text) → list_all is_place c ≡ true
    → seen (walk c [] nothing_held ws)
    ≡ seen (walk c [] nothing_held (codes "--" ∷ without_dashes ws))
seen_after c ws all =
    same_walk c 1 nothing_held ws all refl
    ∙ ap (λ k. seen (fold (walked c []) k (without_dashes ws)))
    (sym (before_trailing c 1 (codes "--") nothing_held all refl))

-- the matches are those of the words after `--`
pub matches_after : (a : App) (ws : List Text) → IsPositional a
    → matches_of a ws ≡ matches_of a (codes "--" ∷ without_dashes ws)
matches_after a ws is =
    matches_are a ws is
    ∙ (ap (λ (end : Held × Option (Text × List Text)). finished (built a).top.rules end.0)
    (seen_after (built a).top.rules ws is.places)
    ∙ sym (matches_are a (codes "--" ∷ without_dashes ws) is))

-- what passes passes after `--`
pub passes_after : (a : App) (ws : List Text) → IsPositional a → fault_of a ws ≡ []
    → fault_of a (codes "--" ∷ without_dashes ws) ≡ []
passes_after a ws is passed =
    let parts = or_else_none _ _ (sym (fault_is a ws is) ∙ passed) in
    let walk_passes = less_fault (built a).top 1 nothing_held ws is.places refl parts.0 in
    let at = fault_at (built a).top 1 nothing_held (codes "--")
    (without_dashes ws) is.places refl refl in
    fault_is a (codes "--" ∷ without_dashes ws) is
    ∙ ap₂ or_else (at ∙ walk_passes)
    (ap (fault_after_walk (built a)) (sym (seen_after (built a).top.rules ws is.places)) ∙ parts.1)

-- and words of which none but the first `--` begins with a dash fail as they do after `--`
pub fault_after_dashes : (a : App) (ws : List Text) → IsPositional a
    → list_all is_plain (without_dashes ws) ≡ true
    → fault_of a ws ≡ fault_of a (codes "--" ∷ without_dashes ws)
fault_after_dashes a ws is clear =
    let at = fault_at (built a).top 1 nothing_held (codes "--")
    (without_dashes ws) is.places refl refl in
    fault_is a ws is
    ∙ (ap₂ or_else (same_fault (built a).top 1 nothing_held ws is.places refl clear ∙ sym at)
    (ap (fault_after_walk (built a)) (seen_after (built a).top.rules ws is.places))
    ∙ sym (fault_is a (codes "--" ∷ without_dashes ws) is))
