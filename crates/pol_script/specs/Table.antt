-- The operations of the script, and the members that each of them has, in order ('profile').
use Rattle.std.specs.Prelude.{ℕ, List, [], ◌∷◌, codes, map}
use Rattle.pol_script.specs.Forms.{Form, a_name, a_text, texts, anything, a_kind, a_mode, a_direction, a_protocol, whole}
use Rattle.pol_script.specs.declared.op.Op.{Op}
use Rattle.pol_script.specs.declared.op.Op.TheVariants as op

-- the texts of the member `op`
abbrev pub ops : List (List ℕ × Op)
ops =
    (codes "endpoint", op.Endpoint)
    ∷ (codes "remove-endpoint", op.RemoveEndpoint)
    ∷ (codes "identity", op.Identity)
    ∷ (codes "remove-identity", op.RemoveIdentity)
    ∷ (codes "apply", op.Apply)
    ∷ (codes "delete", op.Delete)
    ∷ (codes "mode", op.Mode)
    ∷ (codes "verdict", op.Verdict)
    ∷ (codes "trace", op.Trace)
    ∷ (codes "sync", op.Sync)
    ∷ (codes "phase", op.Phase)
    ∷ []

-- whether a member has to be there
pub data Need : Type 0 where
  needed : Need
  optional : Need
  -- exactly one of this member and of that one has to be
  or_else : List ℕ → Need

pub record Row : Type 0 where
  pub name : List ℕ
  pub form : Form
  pub need : Need

abbrev row : List ℕ → Form → Need → Row
row name form need = record { name = name; form = form; need = need }

abbrev session : List Row
session = row (codes "session") (whole 1 8) optional ∷ []

abbrev pub query_rows : List Row
query_rows =
    row (codes "endpoint") a_name needed
    ∷ row (codes "direction") a_direction needed
    ∷ row (codes "identity") (whole 0 4294967295) (or_else (codes "address"))
    ∷ row (codes "address") a_text optional
    ∷ row (codes "protocol") a_protocol needed
    ∷ row (codes "port") (whole 0 65535) needed
    ∷ session

abbrev pub rows : Op → List Row
rows op.Endpoint =
    row (codes "name") a_name needed ∷ row (codes "labels") texts needed ∷ row (codes "address") a_text needed ∷ session
rows op.RemoveEndpoint = row (codes "name") a_name needed ∷ session
rows op.Identity = row (codes "name") a_name needed ∷ row (codes "labels") texts needed ∷ session
rows op.RemoveIdentity = row (codes "name") a_name needed ∷ session
rows op.Apply = row (codes "policy") anything needed ∷ session
rows op.Delete =
    row (codes "kind") a_kind needed ∷ row (codes "namespace") a_name optional ∷ row (codes "name") a_name needed ∷ session
rows op.Mode = row (codes "enable") a_mode needed ∷ session
rows op.Verdict = query_rows
rows op.Trace = query_rows
rows op.Sync = session
rows op.Phase = []

-- the names of the members that a line with these rows may have
abbrev pub names : List Row → List (List ℕ)
names table = codes "op" ∷ map (λ (row : Row). row.name) table
