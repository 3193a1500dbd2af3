use Rattle.std.proofs.Common.{◌∷◌, [], List, None, ℕ, ap, refl, subst, sym, vec_len, ◌∙◌, ◌++◌}
use Rattle.std.specs.Vec.{vec_capacity}
use Rattle.pol_model.specs.declared.options.Options.{Options}
use Rattle.pol_model.specs.declared.request.Request.{Request}
use Rattle.pol_set_moves.specs.Chained.{IsChained}
use Rattle.pol_set_moves.proofs.Chains.{chain_starts}
use Rattle.pol_repo.specs.Inside.{IsSound}
use Rattle.pol_repo.proofs.repo.Repo.new.Goals as goal

pub invariant_of-result : goal.invariant_of-result
invariant_of-result c =
    let options : Options = record { mode = c.args.mode; localhost = c.args.localhost; map_max = None } in
    let store = c.in_ok-new.field-0 in (
      subst (λ (requests : List Request). IsSound options requests (vec_len c.new.result) (vec_capacity c.new.result) store None) (sym c.new.ensures.items)
          (record { without_faults = tt; inside = c.in_ok-new.ensures.start options refl }),
      subst (λ (requests : List Request). IsChained options requests c.push.new.self.items store.cache) (sym c.new.ensures.items)
          (subst (λ (nexts : List ℕ). IsChained options [] nexts store.cache) (sym (c.in_ok-push.ensures.items ∙ ap (λ (items : List ℕ). items ++ 0 ∷ []) c.new-nexts.ensures.items))
          (chain_starts options store.cache c.in_ok-new.ensures.nothing)),
    )
