-- What callers of the desk are told where they are refused.
use Rattle.std.specs.Prelude.{⊤, List}
use Rattle.pol_history.specs.declared.event.HistoryEvent.{HistoryEvent}
use Rattle.pol_history.specs.Calls.{IsAbsent, IsRefused}
use Rattle.pol_model.specs.declared.answer.CommitError.{CommitError}
use Rattle.pol_model.specs.declared.answer.CommitError.TheVariants.{Refused, Memory}
use Rattle.pol_model.specs.declared.request.Query.{Query}
use Rattle.pol_model.specs.declared.request.Request.{Request}
use Rattle.pol_model.specs.declared.options.Options.{Options}
use Rattle.pol_node.specs.declared.report.TraceError.{TraceError}
use Rattle.pol_node.specs.declared.report.TraceError.TheVariants as no_trace

-- why a request was not committed, to a caller who had seen `old` before, and has seen `new` after
abbrev pub IsCauseOf : Options → List HistoryEvent → List HistoryEvent → Request → CommitError → Type 0
IsCauseOf options old new request (Refused refused) = IsRefused options old new request refused
IsCauseOf options old new request Memory = ⊤

-- why there is no trace
abbrev pub IsNotTraced : Options → List HistoryEvent → List HistoryEvent → Query → TraceError → Type 0
IsNotTraced options old new query (no_trace.NoEndpoint revision) = IsAbsent options old new query revision
IsNotTraced options old new query no_trace.Memory = ⊤
