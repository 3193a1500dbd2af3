-- The answers to a script from its bytes, in turn; and the scripts that apply a document.
use Rattle.std.specs.Prelude.{◌≡◌, ℕ, true, List, ◌++◌, codes, Some}
use Rattle.pol_answer.specs.Text.{texts_of}
use Rattle.pol_model.specs.declared.options.Mode.TheVariants.{Default}
use Rattle.pol_model.specs.declared.options.Options.{Options}
use Rattle.pol_run.specs.Run.{readings_of}
use Rattle.pol_run.specs.Serial.{serial_answers}

-- what the program plays without words
abbrev pub by_default : Options
by_default = record { mode = Default; localhost = true; map_max = Some 16384 }

-- the bytes that answer a script whose lines are answered one behind another
abbrev pub answered : List ℕ → List ℕ
answered script = texts_of (serial_answers by_default (readings_of script))

-- ---- scripts of one line

-- the one that applies the document
abbrev pub applies : List ℕ → List ℕ
applies document = codes "{\"op\":\"apply\",\"policy\":" ++ document ++ codes "}\n"

-- a CiliumNetworkPolicy of this spec, and a NetworkPolicy
abbrev pub cilium : List ℕ → List ℕ
cilium spec = codes "{\"apiVersion\":\"cilium.io/v2\",\"kind\":\"CiliumNetworkPolicy\",\"metadata\":{\"name\":\"p\"},\"spec\":" ++ spec ++ codes "}"

abbrev pub network : List ℕ → List ℕ
network spec = codes "{\"apiVersion\":\"networking.k8s.io/v1\",\"kind\":\"NetworkPolicy\",\"metadata\":{\"name\":\"np\"},\"spec\":" ++ spec ++ codes "}"

-- the line that applies the document is refused by these words
abbrev pub IsRefusedBy : List ℕ → List ℕ → Type 0
IsRefusedBy document words = answered (applies document) ≡ codes "refused " ++ words ++ codes "\n"
