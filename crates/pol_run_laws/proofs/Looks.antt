-- What an answer to a look-up tells of the history.
use Rattle.std.proofs.Common.{◌≡◌, ℕ, List, Option, None, Some, refl, sym, subst}
use Rattle.pol_mapkey.specs.Entries.{Entry as MapEntry}
use Rattle.pol_mapkey.specs.declared.Word.{Word}
use Rattle.pol_model.specs.Endpoints.{endpoint_of}
use Rattle.pol_model.specs.Remote.{verdict_for}
use Rattle.pol_model.specs.declared.options.Options.{Options}
use Rattle.pol_model.specs.declared.request.Query.{Query}
use Rattle.pol_model.specs.declared.row.Endpoint.{Endpoint}
use Rattle.pol_answer.specs.declared.answer.Answer.{Answer}
use Rattle.pol_answer.specs.declared.answer.Answer.TheVariants as answer
use Rattle.pol_history.specs.declared.event.EndpointId.{EndpointId}
use Rattle.pol_history.specs.declared.event.HistoryEvent.{HistoryEvent}
use Rattle.pol_history.specs.Commits.{revision_of, state_after, state_now}
use Rattle.pol_history.specs.Look.{look, look_live, look_published}
use Rattle.pol_history.specs.Reports.{last_published}
use Rattle.pol_run_laws.specs.Placed.{answer_found}
use Rattle.pol_history.proofs.Published.{IsLastPublished, PublishesAt, TellsPublished, told_published}

-- the endpoint of a row
abbrev pub id_of : List ℕ → Endpoint → EndpointId
id_of name row = record { name = name; added = row.added }

-- the endpoint is live now
pub record IsLiveNow (options : Options) (history : List HistoryEvent) (name : List ℕ) : Type 0 where
  pub row : Endpoint
  pub found : endpoint_of name (state_now options history).endpoints ≡ Some row

-- a verdict at R: of the last published map
pub record IsFound (options : Options) (history : List HistoryEvent) (query : Query) (revision : ℕ) (word : Word) : Type 0 where
  pub live : IsLiveNow options history query.endpoint
  pub published : IsLastPublished history (id_of query.endpoint live.row) revision
  pub scan : word ≡ verdict_for options (state_after options history revision) query live.row

-- `notyet at k`: no map was published
pub record IsNotYet (options : Options) (history : List HistoryEvent) (query : Query) (revision : ℕ) : Type 0 where
  pub now : revision ≡ revision_of history
  pub live : IsLiveNow options history query.endpoint
  pub none : (i at : ℕ) (table : List MapEntry) → PublishesAt history (id_of query.endpoint live.row) i at table → ⊥

-- `noendpoint at k`
pub record IsNone (options : Options) (history : List HistoryEvent) (query : Query) (revision : ℕ) : Type 0 where
  pub now : revision ≡ revision_of history
  pub absent : endpoint_of query.endpoint (state_now options history).endpoints ≡ None

abbrev pub TellsLook : Options → List HistoryEvent → Query → Answer → Type 0
TellsLook options history query (answer.Verdict revision word) = IsFound options history query revision word
TellsLook options history query (answer.NotYet revision) = IsNotYet options history query revision
TellsLook options history query (answer.NoEndpoint revision) = IsNone options history query revision
TellsLook options history query told = ⊥

module _ (options : Options) (history : List HistoryEvent) (query : Query) where
  of_live : (row : Endpoint) → endpoint_of query.endpoint (state_now options history).endpoints ≡ Some row
      → (published : Option ℕ) → TellsPublished history (id_of query.endpoint row) published
      → TellsLook options history query (answer_found (look_published options history query row published))
  of_live row found None none = record { now = refl; live = record { row = row; found = found }; none = none }
  of_live row found (Some revision) last = record { live = record { row = row; found = found }; published = last; scan = refl }

  of_row : (row : Option Endpoint) → endpoint_of query.endpoint (state_now options history).endpoints ≡ row
      → TellsLook options history query (answer_found (look_live options history query row))
  of_row None absent = record { now = refl; absent = absent }
  of_row (Some row) found =
      of_live row found (last_published (id_of query.endpoint row) history) (told_published history (id_of query.endpoint row))

  pub tells_look : (told : Answer) → told ≡ answer_found (look options history query) → TellsLook options history query told
  tells_look told is =
      subst (λ (a : Answer). TellsLook options history query a) (sym is)
      (of_row (endpoint_of query.endpoint (state_now options history).endpoints) refl)
