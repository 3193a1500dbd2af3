-- A look-up in what a board holds finds what one in its history does.
use Rattle.std.proofs.Common.{◌≡◌, ℕ, ◌<◌, ◌^◌, List, take, Option, None, Some, refl, sym, ap, ◌∙◌, bytes_eq}
use Rattle.std.specs.Cmp.Lexicographic.{bytes_decides}
use Rattle.pol_addr.specs.declared.address.Addr.{Addr}
use Rattle.pol_mapkey.specs.Entries.{Entry as MapEntry, read_map}
use Rattle.pol_model.specs.PolicyMap.{policy_map}
use Rattle.pol_model.specs.Remote.{remote_number, verdict_for}
use Rattle.pol_model.specs.State.{State}
use Rattle.pol_model.specs.declared.options.Options.{Options}
use Rattle.pol_model.specs.declared.request.Query.{Query}
use Rattle.pol_model.specs.declared.request.Remote.{Remote}
use Rattle.pol_model.specs.declared.request.Remote.TheVariants.{Identity, Address}
use Rattle.pol_model.specs.declared.row.Endpoint.{Endpoint}
use Rattle.pol_model_laws.proofs.Membership.{find-In}
use Rattle.pol_history.specs.declared.event.HistoryEvent.{HistoryEvent}
use Rattle.pol_history.specs.Commits.{commits_in, revision_of, state_after, state_now}
use Rattle.pol_history.specs.Content.{BoardRow, PublishedMap, content_of}
use Rattle.pol_history.specs.Held.{IsShownMap, ShowsMap, ShowsRow}
use Rattle.pol_history.specs.Legal.{IsLegal}
use Rattle.pol_history.specs.Look.{Found, look, look_live, look_published}
use Rattle.pol_history.specs.LookIn.{MapsAreRead, look_in, look_map, look_row, number_shown}
use Rattle.pol_history.specs.Reports.{last_published}
use Rattle.pol_history.proofs.Contents.{content-commits, content-rows}

module _ (options : Options) (law : MapsAreRead options) (history : List HistoryEvent) (query : Query) (port : query.port < 2 ^ 16) where
  number_is : (s : State) (map : PublishedMap) (remote : Remote) → ((address : Addr) → map.numbers address ≡ remote_number s (Address address))
      → number_shown map remote ≡ remote_number s remote
  number_is s map (Identity number) numbers = refl
  number_is s map (Address address) numbers = numbers address

  found_map : (endpoint : Endpoint) (map : PublishedMap) → IsShownMap options history endpoint map
      → read_map map.table query.dir (number_shown map query.remote) query.proto query.port
      ≡ verdict_for options (state_after options history map.revision) query endpoint
  found_map endpoint map shows =
      let s = state_after options history map.revision in
      ap (λ (table : List MapEntry). read_map table query.dir (number_shown map query.remote) query.proto query.port) shows.canonical
      ∙ ap (λ (n : ℕ). read_map (policy_map options s endpoint) query.dir n query.proto query.port) (number_is s map query.remote shows.numbers)
      ∙ law (take map.revision (commits_in history)) endpoint query.dir (remote_number s query.remote) query.proto query.port port

  in_map : (endpoint : Endpoint) (map : Option PublishedMap) → ShowsMap options history endpoint map
      → look_map (revision_of history) query map
      ≡ look_published options history query endpoint (last_published (record { name = endpoint.name; added = endpoint.added }) history)
  in_map endpoint None shows = ap (look_published options history query endpoint) (sym shows)
  in_map endpoint (Some map) shows =
      ap (Found map.revision) (found_map endpoint map shows) ∙ ap (look_published options history query endpoint) (sym shows.last)

  in_row : (row : Option BoardRow) → ShowsRow options history query.endpoint row → look_row (revision_of history) query row ≡ look options history query
  in_row None shows = ap (look_live options history query) (sym shows)
  in_row (Some row) shows =
      let named : shows.endpoint.name ≡ query.endpoint =
      (bytes_decides shows.endpoint.name query.endpoint).0
      (find-In (λ (e : Endpoint). bytes_eq e.name query.endpoint) shows.endpoint (state_now options history).endpoints shows.found).1 in
      in_map shows.endpoint row.map shows.map
      ∙ ap (λ (name : List ℕ). look_published options history query shows.endpoint (last_published (record { name = name; added = shows.endpoint.added }) history)) named
      ∙ ap (look_live options history query) (sym shows.found)

  pub look-told : IsLegal options history → look_in (content_of options history) query ≡ look options history query
  look-told legal =
      ap (λ (n : ℕ). look_row n query ((content_of options history).live query.endpoint)) (content-commits options history)
      ∙ in_row ((content_of options history).live query.endpoint) (content-rows options history legal query.endpoint)
