-- What the fields of a host tell.
use Rattle.std.proofs.Common.{◌≡◌, ◌-◌, ◌==◌, ◌&&◌, ◌||◌, ℕ, Bool, true, false, not, List, [], ◌∷◌}
use Rattle.std.proofs.Common.{get_or, length, map, refl, sym, ap, ◌∙◌}
use Rattle.std.proofs.Common.{arith}
use Rattle.std.specs.List.{list_all, list_any, AllByRecursion}
use Rattle.std.proofs.lemmas.Bool.{eq-eqb, ne_eqb}
use Rattle.plant_types.specs.declared.net.HostPlan.{HostPlan}
use Rattle.ring_core.specs.MstrBlock.{network_paths, CallId}
use Rattle.ring_core.specs.declared.frame.Frame.{Frame}
use Rattle.ring_core.specs.Legal.{IsPath}
use Rattle.host_port.specs.declared.entry.HostEntry.{HostEntry}
use Rattle.host_port.specs.declared.host.Path.{Path}
use Rattle.host_port.specs.Calls.{asked_on, goes_on_path, is_unanswered, unanswered_in}
use Rattle.host_port.specs.Kept.{IsLast, path_in}
use Rattle.host_port.proofs.Lists.{and_false}
use Rattle.host_port.proofs.Paths.{at_path, get_four}
use Rattle.host_port.proofs.Unanswered.{out_on}

pub not_not : (b : Bool) → not (not b) ≡ b
not_not true = refl
not_not false = refl

pub path_read : (h : List HostEntry) (paths : List Path) (p n : ℕ) (d : Path)
    → paths ≡ map (path_in h) network_paths → IsPath p → n ≡ p
    → get_or paths (n - 1) d ≡ path_in h p
path_read h paths p n d state path is =
    ap (λ l. get_or l (n - 1) d) state
    ∙ ap (λ m. get_or (map (path_in h) network_paths) (m - 1) d) is ∙ get_four (path_in h) p d path

one_of_four : (G : ℕ → Bool) (p : ℕ) → IsPath p → G p ≡ false → list_all G network_paths ≡ false
one_of_four G p path =
    at_path (λ p. G p ≡ false → list_all G network_paths ≡ false) p path
    (λ is. ap (λ b. b && (G 2 && (G 3 && (G 4 && true)))) is)
    (λ is. ap (λ b. G 1 && (b && (G 3 && (G 4 && true)))) is ∙ and_false (G 1))
    (λ is. ap (λ b. G 1 && (G 2 && (b && (G 4 && true)))) is ∙ ap (λ b. G 1 && b) (and_false (G 2))
    ∙ and_false (G 1))
    (λ is. ap (λ b. G 1 && (G 2 && (G 3 && (b && true)))) is
    ∙ ap (λ b. G 1 && (G 2 && b)) (and_false (G 3)) ∙ ap (λ b. G 1 && b)
    (and_false (G 2)) ∙ and_false (G 1))

none_there : (plan : HostPlan) (h : List HostEntry) (xs : List Frame)
    → AllByRecursion (IsLast plan h) xs
    → list_all (λ q. not (not (not (list_any (goes_on_path q) xs)))) network_paths
    ≡ (length xs == 0)
none_there plan h [] all = refl
none_there plan h (r ∷ xs) all =
    one_of_four (λ q. not (not (not (list_any (goes_on_path q) (r ∷ xs))))) r.id.path all.0.path
    (ap (λ b. not (not (not (b || list_any (goes_on_path r.id.path) xs))))
    (eq-eqb r.id.path r.id.path refl))
    ∙ sym (ne_eqb (length (r ∷ xs)) 0 (λ e. omega arith))

-- all paths are free where no Request is without an answer
pub all_free : (plan : HostPlan) (h : List HostEntry) (paths : List Path)
    → AllByRecursion (IsLast plan h) (unanswered_in h)
    → paths ≡ map (path_in h) network_paths
    → list_all (λ p. not p.is_open) paths ≡ (length (unanswered_in h) == 0)
all_free plan h paths all state = ap (list_all (λ (p : Path). not p.is_open)) state
    ∙ none_there plan h (unanswered_in h) all

-- a call of this host on a path that has an open Request, or has none
pub out_where : (plan : HostPlan) (h : List HostEntry) (id : CallId) (p : Path)
    → AllByRecursion (IsLast plan h) (unanswered_in h)
    → id.node ≡ plan.node
    → p ≡ path_in h id.path → p.is_open ≡ true → (p.asked == id.seq) ≡ is_unanswered h id
out_where plan h id p all node is on =
    let u = unanswered_in h in
    let some : list_any (goes_on_path id.path) u ≡ true =
    sym (not_not (list_any (goes_on_path id.path) u)) ∙ ap (λ (q : Path). q.is_open) (sym is)
    ∙ on in
    ap (λ (q : Path). q.asked == id.seq) is
    ∙ ap (λ b. b && (asked_on h id.path == id.seq)) (sym some) ∙ sym (out_on plan h u id all node)

pub out_nowhere : (plan : HostPlan) (h : List HostEntry) (id : CallId) (p : Path)
    → AllByRecursion (IsLast plan h) (unanswered_in h)
    → id.node ≡ plan.node
    → p ≡ path_in h id.path → p.is_open ≡ false → p.is_open ≡ is_unanswered h id
out_nowhere plan h id p all node is off =
    let u = unanswered_in h in
    let none : list_any (goes_on_path id.path) u
    ≡ false = sym (not_not (list_any (goes_on_path id.path) u))
    ∙ ap (λ (q : Path). q.is_open) (sym is) ∙ off in
    off ∙ ap (λ b. b && (asked_on h id.path == id.seq)) (sym none)
    ∙ sym (out_on plan h u id all node)
