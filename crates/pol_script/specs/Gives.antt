-- What a reader of the script answers, beside what reading is defined to give. Want of memory is always allowed.
use Rattle.std.specs.Prelude.{◌≡◌, Option, None, Some, Result, Ok, Err}
use Rattle.pol_json.specs.declared.fault.DocError.{DocError}
use Rattle.pol_json.specs.declared.fault.DocError.TheVariants as doc
use Rattle.pol_labels.specs.declared.label.LabelError.{LabelError}
use Rattle.pol_labels.specs.declared.label.LabelError.TheVariants as label
use Rattle.pol_labels.specs.declared.label_set.SetError.{SetError}
use Rattle.pol_labels.specs.declared.label_set.SetError.TheVariants as labels
use Rattle.pol_netpol.specs.declared.fault.NetError.{NetError}
use Rattle.pol_netpol.specs.declared.fault.NetError.TheVariants as network
use Rattle.pol_sanitize.specs.declared.fault.SanitizeError.{SanitizeError}
use Rattle.pol_sanitize.specs.declared.fault.SanitizeError.TheVariants as rules
use Rattle.pol_script.specs.Commands.{net_fault}
use Rattle.pol_script.specs.declared.line_fault.LineFault.{LineFault}
use Rattle.pol_script.specs.declared.line_fault.LineFault.TheVariants as fault
use Rattle.pol_script.specs.declared.line_fault.LineError.{LineError}
use Rattle.pol_script.specs.declared.line_fault.LineError.TheVariants as error

-- the fault of a line's error, none where it is want of memory
abbrev pub line_fault_of : LineError → Option LineFault
line_fault_of error.Memory = None
line_fault_of (error.Fault fault) = Some fault

-- the error is this fault
abbrev pub Refuses : LineFault → LineError → Type 0
Refuses fault error.Memory = Unit {0}
Refuses fault (error.Fault found) = found ≡ fault

-- the answer, seen by `view`, is what reading gives
abbrev pub Reads : {X Y : Type 0} → (X → Y) → Result X LineError → Result Y LineFault → Type 0
Reads view (Ok value) reading = reading ≡ Ok (view value)
Reads view (Err error.Memory) reading = Unit {0}
Reads view (Err (error.Fault fault)) reading = reading ≡ Err fault

-- ---- errors of what a line holds, as errors of the line

abbrev pub of_document : DocError → LineError
of_document (doc.Fault found) = error.Fault (fault.Doc found)
of_document doc.Memory = error.Memory

abbrev pub of_rules : SanitizeError → LineError
of_rules (rules.Fault found) = error.Fault (fault.Rule found)
of_rules rules.Memory = error.Memory

abbrev pub of_network : NetError → LineError
of_network (network.Fault found) = error.Fault (net_fault found)
of_network network.Memory = error.Memory

abbrev pub of_label : LabelError → LineError
of_label label.Bad = error.Fault fault.BadLabel
of_label label.Memory = error.Memory

abbrev pub of_labels : SetError → LineError
of_labels labels.DuplicateKey = error.Fault fault.DuplicateLabelKey
of_labels labels.Memory = error.Memory
