-- What a reader answers, beside what reading is defined to give. Want of memory is always allowed.
use Rattle.std.specs.Prelude.{◌≡◌, Option, None, Some, Result, Ok, Err}
use Rattle.pol_json.specs.declared.fault.DocFault.{DocFault}
use Rattle.pol_json.specs.declared.fault.DocError.{DocError}
use Rattle.pol_json.specs.declared.fault.DocError.TheVariants as error

-- the fault of an error, none where it is want of memory
abbrev pub Fails : {Y F : Type 0} → Option F → Result Y F → Type 0
Fails None reading = Unit {0}
Fails (Some fault) reading = reading ≡ Err fault

-- the answer is what reading gives: the value, or the fault that `fault_of` finds in the error
abbrev pub Gives : {Y E F : Type 0} → (E → Option F) → Result Y E → Result Y F → Type 0
Gives fault_of (Ok value) reading = reading ≡ Ok value
Gives fault_of (Err error) reading = Fails (fault_of error) reading

-- the fault of a document's error
abbrev pub doc_fault_of : DocError → Option DocFault
doc_fault_of error.Memory = None
doc_fault_of (error.Fault fault) = Some fault

-- ---- forms

-- the fault of an error says that the form isn't read, and it is not
abbrev pub IsUnread : {Y F : Type 0} → F → Option F → Option Y → Type 0
IsUnread unread None form = Unit {0}
IsUnread unread (Some fault) form = (fault ≡ unread) × (form ≡ None)

-- the answer, seen by `view`, is what the form reads as; `unread` is the fault of a form that isn't read
abbrev pub ReadsForm : {X Y E F : Type 0} → (E → Option F) → F → (X → Y) → Result X E → Option Y → Type 0
ReadsForm fault_of unread view (Ok value) form = form ≡ Some (view value)
ReadsForm fault_of unread view (Err error) form = IsUnread unread (fault_of error) form

-- ---- faults alone

-- the answer is that there is no fault, or this first one
abbrev pub Finds : {Y : Type 0} → Option DocFault → Result Y DocError → Type 0
Finds found (Ok _) = found ≡ None
Finds found (Err error.Memory) = Unit {0}
Finds found (Err (error.Fault fault)) = found ≡ Some fault

-- the answer is this error, with more in front of the path of its fault
abbrev pub Led : {Y : Type 0} → (DocFault → DocFault) → DocError → Result Y DocError → Type 0
Led led error.Memory result = result ≡ Err error.Memory
Led led (error.Fault fault) result = Finds (Some (led fault)) result

-- an answer is another, with more in front of the path of its fault
abbrev pub Leads : {X Y : Type 0} → (DocFault → DocFault) → Result X DocError → Result Y DocError → Type 0
Leads led (Ok _) result = Finds None result
Leads led (Err error) result = Led led error result
