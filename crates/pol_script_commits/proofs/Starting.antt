-- What is left and refused from the first state on.
use Rattle.std.proofs.Common.{◌≡◌, ℕ, List, [], Option, None, ap, sym, ◌∙◌}
use Rattle.pol_model.specs.After.{state_of}
use Rattle.pol_model.specs.declared.options.Options.{Options}
use Rattle.pol_model.specs.declared.request.Request.{Request}
use Rattle.pol_repo.specs.Repository.{Repository, state_in}
use Rattle.pol_run.specs.Spots.{Reading}
use Rattle.pol_script_commits.specs.declared.refusal.Refusal.{Refusal}
use Rattle.pol_script_commits.specs.Left.{state_after, state_left}
use Rattle.pol_script_commits.specs.Refused.{refusals_from, refusals_of}

abbrev with_limit : Options → Option ℕ → Options
with_limit options limit = record options { map_max = limit }

-- a repository that is made for options without a limit has these options
pub under_these : (options : Options) (repo : Repository)
    → repo ≡ record { options = record { mode = options.mode; localhost = options.localhost; map_max = None }; journal = []; prepared = None }
    → options.map_max ≡ None → repo.options ≡ options
under_these options repo made free = ap (λ (r : Repository). r.options) made ∙ ap (with_limit options) (sym free)

-- lines that were committed over a repository without a request
module _ (old new : Repository) (readings : List Reading) (first : old.journal ≡ []) where
  pub at_end : state_in new ≡ state_left (state_in old) readings → state_in new ≡ state_after old.options readings
  at_end committed = committed ∙ ap (λ (requests : List Request). state_left (state_of old.options requests) readings) first

  pub all_refused : (refusals : List Refusal) → refusals ≡ refusals_from 0 (state_in old) readings → refusals ≡ refusals_of old.options readings
  all_refused refusals told = told ∙ ap (λ (requests : List Request). refusals_from 0 (state_of old.options requests) readings) first
