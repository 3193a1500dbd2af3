use Rattle.std.proofs.Common.{◌≡◌, refl, sym, ap, subst, ◌∙◌}
use Rattle.std.specs.Prelude.{⊤}
use Rattle.pol_history.specs.Commits.{Lives, state_after}
use Rattle.pol_history.specs.declared.event.EndpointId.{EndpointId}
use Rattle.pol_history.specs.declared.event.HistoryEvent.{HistoryEvent}
use Rattle.pol_history.specs.declared.event.HistoryEvent.TheVariants as event
use Rattle.pol_history.specs.ExampleEvents.{open_map, web_since}
use Rattle.pol_history.proofs.Lists.{no_element}
use Rattle.pol_history.proofs.Small.{web_row}
use Rattle.pol_run.specs.ExampleLines.{db, unlimited, web}
use Rattle.pol_run_laws.proofs.Places.{element_at}
use Rattle.history_examples.specs.Histories as history
use Rattle.history_examples.specs.Rounds.{published_though_gone}
use Rattle.history_examples.proofs.OneEndpoint.{IsNoReport}
use Rattle.history_examples.proofs.rounds.maps_of_verdicts.Goals as goal

pub returns-clause-is : goal.returns-clause-is
returns-clause-is c = record {
  endpoint = web_since 1;
  named = refl;
  lives = record { row = web_row 1; found = refl };
  published = record { place = 1; table = open_map; there = refl };
}

pub returns-clause-not_published : goal.returns-clause-not_published
returns-clause-not_published c = λ it.
    element_at IsNoReport history.added it.published.place (event.Publish it.endpoint 1 it.published.table) (tt, tt) it.published.there

-- a published map is of the endpoint that was added at revision 1
abbrev IsOfWeb : HistoryEvent → Type 0
IsOfWeb (event.Commit pass number request) = ⊤
IsOfWeb (event.Publish endpoint revision table) = endpoint ≡ web_since 1
IsOfWeb (event.Blocked endpoint revision count) = ⊤

web_is_db : web ≡ db → ⊥
web_is_db is = cc

pub returns-clause-of_another_name : goal.returns-clause-of_another_name
returns-clause-of_another_name c = λ it.
    let is = element_at IsOfWeb history.published it.published.place (event.Publish it.endpoint 1 it.published.table) (tt, (refl, tt)) it.published.there in
    web_is_db (sym (ap (λ (e : EndpointId). e.name) is) ∙ it.named)

pub returns-clause-of_one_that_has_gone : goal.returns-clause-of_one_that_has_gone
returns-clause-of_one_that_has_gone c = λ it.
    let is = element_at IsOfWeb published_though_gone it.published.place (event.Publish it.endpoint 2 it.published.table) (tt, (tt, (refl, tt))) it.published.there in
    let lives = subst (λ (e : EndpointId). Lives (state_after unlimited published_though_gone 2) e) is it.lives in
    no_element lives.row lives.found

pub returns-clause-added_lives : goal.returns-clause-added_lives
returns-clause-added_lives c = record { row = web_row 1; found = refl }

pub returns-clause-gone_is_published : goal.returns-clause-gone_is_published
returns-clause-gone_is_published c = record { place = 2; table = open_map; there = refl }
