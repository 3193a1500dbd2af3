-- The repository is at the writer's history.
use Rattle.std.proofs.Common.{◌≤◌, ℕ, List, map, sym, ap, subst, ◌∙◌}
use Rattle.pol_model.specs.Ascending.{Ascends}
use Rattle.pol_model.specs.Committed.{slots_of}
use Rattle.pol_model.specs.declared.row.Endpoint.{Endpoint}
use Rattle.pol_model.proofs.AscendingStates.{state_slots_ascend}
use Rattle.pol_model_laws.proofs.KeepsAll.{state_keeps}
use Rattle.pol_repo.specs.Repository.{state_in}
use Rattle.pol_node.proofs.Answering.{at_shown}
use Rattle.pol_repo_history.proofs.AtHistory.{revision_at}
use Rattle.pol_node.proofs.FewSlots.{few_slots}
use Rattle.pol_node.proofs.desk.Desk.show.Goals as goal

pub slots_in-requires : goal.slots_in-requires
slots_in-requires g c =
    let repo = c.args.self.now.repo in record {
      ascend = subst (λ (rows : List Endpoint). Ascends (map (λ e. e.slot) rows)) (sym c.endpoints.ensures.list) (state_slots_ascend repo.options repo.journal);
    }

pub returns-clause-revision : goal.returns-clause-revision
returns-clause-revision g c =
    let options = g.N.NodeName.options in let repo = c.args.self.now.repo in let history = c.show.new.pass.has.history in
    let at = at_shown options c.args.self.now.writer.seen c.show.new.self.seen history repo c.args.self.now.at c.show.ensures.all c.show.ensures.same in
    c.revision.ensures.revision ∙ revision_at options history repo at

pub returns-clause-few : goal.returns-clause-few
returns-clause-few g c =
    let repo = c.args.self.now.repo in
    let few = few_slots (state_in repo) (state_keeps repo.options repo.journal c.fits_together.ensures.without_faults) in
    let is = c.slots_in.ensures ∙ ap (λ (rows : List Endpoint). slots_of rows) c.endpoints.ensures.list in
    subst (λ (n : ℕ). n ≤ 256) (sym is) few
