use Rattle.std.proofs.Common.{◌++◌, [], ◌∷◌, List, ap, sym, ◌∙◌, append_assoc}
use Rattle.std.specs.Vec.Iter.{into_iter_items}
use Rattle.pol_repo.specs.Repository.{state_in}
use Rattle.pol_run.specs.Spots.{Reading}
use Rattle.pol_script_commits.proofs.Committing.{more_refused, one_longer, one_more}
use Rattle.pol_script_commits.proofs.commits.commit_all.Goals as goal

pub loop-reading-preserved : goal.loop-reading-preserved
loop-reading-preserved c =
    let so_far = c.loop-reading.invariant in
    let steps = rw c.in-Some.is at c.next.ensures.steps in
    let yielded = c.loop-reading.yielded in
    let reading = c.in-Some.reading in
    record {
      options = c.in_ok-found.ensures.options ∙ so_far.options;
      idle = c.in_ok-found.ensures.idle;
      state = one_more (state_in c.args.repo.now) (state_in c.loop-reading.repo) (state_in c.commit_line.new.repo) yielded reading
          so_far.state c.in_ok-found.ensures.state;
      counted = one_longer c.loop-reading.line yielded reading so_far.counted;
      refused = more_refused (state_in c.args.repo.now) (state_in c.loop-reading.repo) yielded reading c.loop-reading.line c.loop-reading.refusals.items
          c.push_found.new.refusals.items c.in_ok-found.found so_far.counted so_far.state so_far.refused c.in_ok-found.ensures.refused
          c.in_ok-push_found.ensures;
      left = append_assoc yielded (reading ∷ []) (into_iter_items c.next.new.self) ∙ ap (λ (xs : List Reading). yielded ++ xs) (sym steps.0) ∙ so_far.left;
    }
