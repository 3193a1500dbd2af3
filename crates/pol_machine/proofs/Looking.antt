-- A look-up in the rows is one in the history.
use Rattle.std.proofs.Common.{◌≡◌, ℕ, ◌<◌, ◌^◌, Option, sym, ap, ◌∙◌}
use Rattle.pol_model_laws.proofs.Positive.{rows_positive}
use Rattle.pol_model.specs.After.{state_of}
use Rattle.pol_model.specs.declared.options.Options.{Options}
use Rattle.pol_model.specs.declared.request.Query.{Query}
use Rattle.pol_distill.proofs.MapLaw.{read_is_verdict}
use Rattle.pol_history.specs.Content.{BoardRow, content_of}
use Rattle.pol_history.specs.Look.{look}
use Rattle.pol_history.specs.LookIn.{MapsAreRead, look_row}
use Rattle.pol_history.specs.Machine.{Machine}
use Rattle.pol_history.proofs.Contents.{content-commits}
use Rattle.pol_history.proofs.LookedIn.{look-told}
use Rattle.pol_repo.specs.Repository.{state_in}
use Rattle.pol_machine.specs.Rows.{live_held}
use Rattle.pol_machine.specs.Stands.{Kept, StandsFor, options_of}
use Rattle.pol_repo_history.proofs.AtHistory.{revision_at}

pub maps_are_read : (options : Options) → MapsAreRead options
maps_are_read options requests endpoint dir number proto port small =
    read_is_verdict options (state_of options requests) endpoint dir number proto port (rows_positive options requests) small

pub looked : (k : Kept) (m : Machine) → StandsFor k m → (query : Query) → query.port < 2 ^ 16
    → look_row (state_in k.repo).revision query (live_held k.rows query.endpoint) ≡ look (options_of k) m.history query
looked k m stands query port =
    let options = options_of k in
    let content = content_of options m.history in
    ap (λ (n : ℕ). look_row n query (live_held k.rows query.endpoint)) (revision_at options m.history k.repo stands.at ∙ sym (content-commits options m.history))
    ∙ ap (λ (row : Option BoardRow). look_row content.commits query row) (stands.live query.endpoint)
    ∙ look-told options (maps_are_read options) m.history query port stands.sound.legal
