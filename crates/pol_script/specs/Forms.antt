-- The forms of the members of a line, and what a value of each form reads as ('profile').
use Rattle.std.specs.Prelude.{ℕ, ◌&&◌, nat_le, Bool, if◌then◌else◌, List, [], ◌∷◌, codes, Option, None, Some, option_and_then}
use Rattle.std.specs.Str.{bytes_eq, str_eq_ignore_ascii_case}
use Rattle.serde_json.specs.Data.{Data}
use Rattle.serde_json.specs.Find.{as_array, as_number, as_str, as_u64}
use Rattle.pol_json.specs.Members.{items_list}
use Rattle.pol_json.specs.Texts.{is_name}
use Rattle.pol_model.specs.declared.options.Mode.{Mode}
use Rattle.pol_model.specs.declared.options.Mode.TheVariants as mode
use Rattle.pol_ports.specs.declared.Direction.{Direction}
use Rattle.pol_ports.specs.declared.Direction.TheVariants.{Ingress, Egress}
use Rattle.pol_ports.specs.declared.Proto.{Proto}
use Rattle.pol_ports.specs.declared.Proto.TheVariants.{Tcp, Udp, Sctp}
use Rattle.pol_script.specs.Steps.{only, each}
use Rattle.pol_script.specs.declared.kind.PolicyKind.{PolicyKind}
use Rattle.pol_script.specs.declared.kind.PolicyKind.TheVariants as kind

-- ---- words

-- what a text stands for among some words
abbrev pub word_among : {A : Type 0} → List (List ℕ × A) → List ℕ → Option A
word_among [] text = None
word_among (word ∷ words) text = if bytes_eq text word.0 then Some word.1 else word_among words text

-- the kinds of policies
abbrev pub kinds : List (List ℕ × PolicyKind)
kinds =
    (codes "CiliumNetworkPolicy", kind.Namespaced)
    ∷ (codes "CiliumClusterwideNetworkPolicy", kind.ClusterWide)
    ∷ (codes "NetworkPolicy", kind.Network)
    ∷ []

-- Cilium, "Policy Enforcement Modes"
abbrev pub modes : List (List ℕ × Mode)
modes = (codes "default", mode.Default) ∷ (codes "always", mode.Always) ∷ (codes "never", mode.Never) ∷ []

abbrev pub directions : List (List ℕ × Direction)
directions = (codes "ingress", Ingress) ∷ (codes "egress", Egress) ∷ []

-- a protocol, without ASCII case
abbrev pub protocol_of : List ℕ → Option Proto
protocol_of text =
    if str_eq_ignore_ascii_case text (codes "TCP") then Some Tcp
    else (if str_eq_ignore_ascii_case text (codes "UDP") then Some Udp
    else (if str_eq_ignore_ascii_case text (codes "SCTP") then Some Sctp
    else None))

-- ---- forms

pub data Form : Type 0 where
  a_name : Form
  a_text : Form
  texts : Form
  anything : Form
  a_kind : Form
  a_mode : Form
  a_direction : Form
  a_protocol : Form
  -- a whole number, from the first to the second
  whole : ℕ → ℕ → Form

-- what a value of the form is, once it is read
abbrev pub Read : Form → Type 0
Read a_name = List ℕ
Read a_text = List ℕ
Read texts = List (List ℕ)
Read anything = Data
Read a_kind = PolicyKind
Read a_mode = Mode
Read a_direction = Direction
Read a_protocol = Proto
Read (whole least greatest) = ℕ

abbrev pub is_within : ℕ → ℕ → ℕ → Bool
is_within least greatest number = nat_le least number && nat_le number greatest

-- what a value reads as, none where it is of another form; a number with a fraction or an exponent is no
-- whole number
abbrev pub read_as : (form : Form) → Data → Option (Read form)
read_as a_name d = only is_name (as_str d)
read_as a_text d = as_str d
read_as texts d = option_and_then (λ ds. each as_str (items_list ds)) (as_array d)
read_as anything d = Some d
read_as a_kind d = option_and_then (word_among kinds) (as_str d)
read_as a_mode d = option_and_then (word_among modes) (as_str d)
read_as a_direction d = option_and_then (word_among directions) (as_str d)
read_as a_protocol d = option_and_then protocol_of (as_str d)
read_as (whole least greatest) d = only (is_within least greatest) (option_and_then as_u64 (as_number d))
