-- The Replies that may be posted, as the lists go on.
use Rattle.std.proofs.Common.{◌≡◌, ℕ, zero, suc, ◌+◌, ◌≤◌, Bool, true, false, cond, List, [], ◌∷◌}
use Rattle.std.proofs.Common.{◌++◌, arith}
use Rattle.entry_causes.specs.Causes.{ready, AllAnswered}

-- More answers, more Requests and more answers of the port make no Reply wait.
pub ready-answers : (requests answers more : List Bool) (port : ℕ)
    → ready requests answers port ≤ ready requests (answers ++ more) port
ready-answers [] answers more port = omega arith
ready-answers (true ∷ requests) [] more port = omega arith
ready-answers (true ∷ requests) (true ∷ answers) more port =
    let h = ready-answers requests answers more port in omega (arith, h)
ready-answers (true ∷ requests) (false ∷ answers) more port =
    ready-answers requests answers more port
ready-answers (false ∷ requests) answers more zero = omega arith
ready-answers (false ∷ requests) answers more (suc port) =
    let h = ready-answers requests answers more port in omega (arith, h)

pub ready-requests : (requests more answers : List Bool) (port : ℕ)
    → ready requests answers port ≤ ready (requests ++ more) answers port
ready-requests [] more answers port = omega arith
ready-requests (true ∷ requests) more [] port = omega arith
ready-requests (true ∷ requests) more (true ∷ answers) port =
    let h = ready-requests requests more answers port in omega (arith, h)
ready-requests (true ∷ requests) more (false ∷ answers) port =
    ready-requests requests more answers port
ready-requests (false ∷ requests) more answers zero = omega arith
ready-requests (false ∷ requests) more answers (suc port) =
    let h = ready-requests requests more answers port in omega (arith, h)

pub ready-port : (requests answers : List Bool) (port : ℕ)
    → ready requests answers port ≤ ready requests answers (suc port)
ready-port [] answers port = omega arith
ready-port (true ∷ requests) [] port = omega arith
ready-port (true ∷ requests) (true ∷ answers) port =
    let h = ready-port requests answers port in omega (arith, h)
ready-port (true ∷ requests) (false ∷ answers) port = ready-port requests answers port
ready-port (false ∷ requests) answers zero = omega arith
ready-port (false ∷ requests) answers (suc port) =
    let h = ready-port requests answers port in omega (arith, h)

-- Where all were answered, one more Request and its answer make one more Reply ready, or none where
-- it came without power.
pub station-ready : (requests answers : List Bool) (port : ℕ) (with_reply : Bool)
    → AllAnswered requests answers port
    → (ready (requests ++ true ∷ []) (answers ++ with_reply ∷ []) port
    ≡ ready requests answers port + cond with_reply 1 0)
    × AllAnswered (requests ++ true ∷ []) (answers ++ with_reply ∷ []) port
station-ready [] [] zero true all = (omega arith, tt)
station-ready [] [] zero false all = (omega arith, tt)
station-ready [] [] (suc port) with_reply all = absurd all
station-ready [] (b ∷ answers) port with_reply all = absurd all
station-ready (true ∷ requests) [] port with_reply all = absurd all
station-ready (true ∷ requests) (true ∷ answers) port with_reply all =
    let h = station-ready requests answers port with_reply all in
    (let e = h.0 in omega (arith, e), h.1)
station-ready (true ∷ requests) (false ∷ answers) port with_reply all =
    station-ready requests answers port with_reply all
station-ready (false ∷ requests) answers zero with_reply all = absurd all
station-ready (false ∷ requests) answers (suc port) with_reply all =
    let h = station-ready requests answers port with_reply all in
    (let e = h.0 in omega (arith, e), h.1)

pub port-ready : (requests answers : List Bool) (port : ℕ) → AllAnswered requests answers port
    → (ready (requests ++ false ∷ []) answers (suc port) ≡ ready requests answers port + 1)
    × AllAnswered (requests ++ false ∷ []) answers (suc port)
port-ready [] [] zero all = (omega arith, tt)
port-ready [] [] (suc port) all = absurd all
port-ready [] (b ∷ answers) port all = absurd all
port-ready (true ∷ requests) [] port all = absurd all
port-ready (true ∷ requests) (true ∷ answers) port all =
    let h = port-ready requests answers port all in (let e = h.0 in omega (arith, e), h.1)
port-ready (true ∷ requests) (false ∷ answers) port all = port-ready requests answers port all
port-ready (false ∷ requests) answers zero all = absurd all
port-ready (false ∷ requests) answers (suc port) all =
    let h = port-ready requests answers port all in (let e = h.0 in omega (arith, e), h.1)
