-- Routes from one node to another.
use Rattle.std.proofs.Common.{◌≡◌, ◌≢◌, ℕ, Bool, List, [], ◌∷◌, Some, refl, ap, arith}
use Rattle.plant_types.specs.Plans.{IsRouteFrom}
use Rattle.ring_core.specs.Words.{request_along, frame_route}
use Rattle.tied_lists.specs.Words.{CallId}
use Rattle.tied_lists.specs.Calls.{LeadsAway}

-- a route from a node leads away
pub leads-away : (routed : Bool) (own : ℕ) (route : List ℕ) → IsRouteFrom routed own route
    → LeadsAway own route
leads-away routed own [] is = let some = is.some in absurd (omega (arith, some))
leads-away routed own (to ∷ rest) is = λ same. is.other (ap Some same)

-- the Request of a call goes by the route of the call
pub along-route : (n : ℕ) (id : CallId) (route pdu : List ℕ) → LeadsAway n route
    → frame_route (request_along id route pdu) ≡ route
along-route n id [] pdu away = absurd away
along-route n id (to ∷ rest) pdu away = refl

-- its first address is that of another node
pub goes-away : (n : ℕ) (id : CallId) (route pdu : List ℕ) → LeadsAway n route
    → (request_along id route pdu).to ≢ n
goes-away n id [] pdu away = absurd away
goes-away n id (to ∷ rest) pdu away = away
