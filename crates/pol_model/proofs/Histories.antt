-- The state after a list of requests, one request at a time.
use Rattle.std.proofs.Common.{◌≡◌, ◌+◌, List, [], ◌∷◌, ◌++◌, length, refl, arith}
use Rattle.pol_model.specs.declared.options.Options.{Options}
use Rattle.pol_model.specs.declared.request.Request.{Request}
use Rattle.pol_model.specs.After.{after, after_all, start, state_of}
use Rattle.pol_model.specs.State.{State}

after_all-push : (s : State) (requests : List Request) (request : Request) → after_all s (requests ++ request ∷ []) ≡ after (after_all s requests) request
after_all-push s [] request = refl
after_all-push s (first ∷ others) request = after_all-push (after s first) others request

pub state_of-push : (options : Options) (requests : List Request) (request : Request) → state_of options (requests ++ request ∷ []) ≡ after (state_of options requests) request
state_of-push options requests request = after_all-push (start options) requests request

after_all-revision : (s : State) (requests : List Request) → (after_all s requests).revision ≡ s.revision + length requests
after_all-revision s [] = omega arith
after_all-revision s (first ∷ others) = omega (arith, after_all-revision (after s first) others)

pub state_of-revision : (options : Options) (requests : List Request) → (state_of options requests).revision ≡ length requests
state_of-revision options requests = omega (arith, after_all-revision (start options) requests)
