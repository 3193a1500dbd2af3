-- What is read is a command that some value writes: so no condition of a written command could be left out.
use Rattle.std.proofs.Common.{◌≡◌, ℕ, Bool, true, false, List, [], ◌∷◌, codes, cond, Option, None, Some, ok_or, option_map, option_and_then, unwrap_or, IfSome, Result, Ok, Err, inl, inr, refl, ap, subst}
use Rattle.serde_json.specs.Data.{Data}
use Rattle.document_laws.proofs.Needed.{read_is_well_formed}
use Rattle.document_laws.proofs.NetworkPolicies.{read_network_is_well_formed}
use Rattle.document_laws.specs.NetworkWritten.{network_document_of}
use Rattle.document_laws.specs.Written.{document_of}
use Rattle.pol_addr.proofs.HexTexts.{read_addr_sound}
use Rattle.pol_addr.specs.Address.{read_addr}
use Rattle.pol_addr.specs.Grammar.{WritesAddr}
use Rattle.pol_addr.specs.declared.address.Addr.{Addr}
use Rattle.pol_json.specs.Document.{read_document}
use Rattle.pol_json.specs.Members.{text_at}
use Rattle.pol_json.specs.Network.{is_network_policy}
use Rattle.pol_json.specs.Texts.{is_name}
use Rattle.pol_json.specs.declared.fault.DocFault.{DocFault}
use Rattle.pol_netpol.specs.Document as net
use Rattle.pol_netpol.specs.Translated.{translated_of}
use Rattle.pol_netpol.specs.declared.raw.RawNetworkPolicy.{RawNetworkPolicy}
use Rattle.pol_labels.proofs.GrammarLemmas.{IsTextOf-from_read_label}
use Rattle.pol_labels.specs.declared.label.Label.{Label}
use Rattle.pol_labels.specs.LabelText.{read_label}
use Rattle.pol_labels.specs.Order.{label_set_of}
use Rattle.pol_model.specs.declared.request.Remote.TheVariants as remote
use Rattle.pol_model.specs.declared.request.Request.TheVariants as request
use Rattle.pol_ports.specs.declared.Direction.{Direction}
use Rattle.pol_ports.specs.declared.Proto.{Proto}
use Rattle.pol_rule.specs.declared.fault.RuleFault.{RuleFault}
use Rattle.pol_rule.specs.declared.policy.Policy.{Policy}
use Rattle.pol_rule.specs.declared.raw.RawPolicy.{RawPolicy}
use Rattle.pol_sanitize.specs.Sanitized.{sanitized_of}
use Rattle.pol_script.proofs.Given.{AllHold, IsOfWords, op_holds, there, word_found}
use Rattle.pol_script.specs.Commands.{address_of, asks, cilium_policy_of, commit, key_of, labels_of, make, net_fault, network_policy_of, policy_of, query_from, remote_of}
use Rattle.pol_script.specs.Forms.{a_kind, Read, is_within, kinds, word_among}
use Rattle.pol_script.specs.Members.{known}
use Rattle.pol_script.specs.Reading.{read_object, read_op}
use Rattle.pol_script.specs.Steps.{◌>>=◌, each, fault_as}
use Rattle.pol_script.specs.Table.{ops, rows}
use Rattle.pol_script.specs.declared.command.Command.{Command}
use Rattle.pol_script.specs.declared.line_fault.LineFault.{LineFault}
use Rattle.pol_script.specs.declared.line_fault.LineFault.TheVariants as fault
use Rattle.script_examples.specs.Commands.{AreTextsOf, NamesSession, Writes, WritesLabels, WritesPolicy, of_cilium, of_network, key_named}
use Rattle.script_examples.specs.Printed.{Kind, namespaced, cluster_wide, network, address_query_line, apply_line, delete_line, endpoint_line, identity_line, mode_line, named_line, query_line, sync_line}
use Rattle.script_examples.specs.Values.{fields, text}

-- ---- what gives a value

-- a value that came through a change of its fault was there before
unfaulted : {A E : Type 0} (as_fault : E → LineFault) (r : Result A E) (x : A) → fault_as as_fault r ≡ Ok x → r ≡ Ok x
unfaulted as_fault (Ok y) x is = let same : y ≡ x = cc in ap Ok same
unfaulted as_fault (Err f) x is = absurd cc

-- ---- labels and addresses

first_text : (text : List ℕ) (others : List (List ℕ)) (labels : List Label) (one : Option Label) (more : Option (List Label))
    → read_label text ≡ one → ((rest : List Label) → more ≡ Some rest → AreTextsOf others rest)
    → option_and_then (λ l. option_map (λ rest. l ∷ rest) more) one ≡ Some labels → AreTextsOf (text ∷ others) labels
first_text text others labels None more reads behind is = absurd cc
first_text text others labels (Some l) None reads behind is = absurd cc
first_text text others labels (Some l) (Some rest) reads behind is =
    let same : (l ∷ rest) ≡ labels = cc in
    subst (AreTextsOf (text ∷ others)) same (IsTextOf-from_read_label text l reads, behind rest refl)

each_written : (list : List (List ℕ)) (labels : List Label) → each read_label list ≡ Some labels → AreTextsOf list labels
each_written [] labels is = let same : [] ≡ labels = cc in subst (AreTextsOf []) same tt
each_written (text ∷ others) labels is =
    first_text text others labels (read_label text) (each read_label others) refl (λ rest found. each_written others rest found) is

labels_by : (list : List (List ℕ)) (all : List Label) (labels : Option (List Label)) → each read_label list ≡ labels
    → (ok_or labels fault.BadLabel >>= λ them. ok_or (label_set_of them) fault.DuplicateLabelKey) ≡ Ok all → WritesLabels list all
labels_by list all None reads is = absurd cc
labels_by list all (Some labels) reads is =
    record { labels = labels; each = each_written list labels reads; set = there (label_set_of labels) fault.DuplicateLabelKey all is }

labels_written : (list : List (List ℕ)) (all : List Label) → labels_of list ≡ Ok all → WritesLabels list all
labels_written list all is = labels_by list all (each read_label list) refl is

address_written : (at_text : List ℕ) (address : Addr) → address_of at_text ≡ Ok address → WritesAddr at_text address
address_written at_text address is = read_addr_sound at_text address (there (read_addr at_text) fault.BadAddress address is)

-- ---- policies

abbrev IsPolicy : Policy → Type 0
IsPolicy policy = (document : Data) × WritesPolicy document policy

cilium_written : (d : Data) (r : Result RawPolicy DocFault) (policy : Policy) → read_document d ≡ r
    → (fault_as fault.Doc r >>= λ raw. fault_as fault.Rule (sanitized_of raw)) ≡ Ok policy → IsPolicy policy
cilium_written d (Ok raw) policy reads is =
    (document_of raw, of_cilium raw (read_is_well_formed d raw reads) (unfaulted fault.Rule (sanitized_of raw) policy is) refl)
cilium_written d (Err f) policy reads is = absurd cc

accepted : (r : Result Policy RuleFault) (policy : Policy) → net.of_object r ≡ Ok policy → r ≡ Ok policy
accepted (Ok p) policy is = let same : p ≡ policy = cc in ap Ok same
accepted (Err f) policy is = absurd cc

network_written : (d : Data) (r : Result RawNetworkPolicy DocFault) (policy : Policy) → net.read_document d ≡ r → net.of_document r ≡ Ok policy → IsPolicy policy
network_written d (Ok raw) policy reads is =
    (network_document_of raw, of_network raw (read_network_is_well_formed d raw reads) (accepted (translated_of raw) policy is) refl)
network_written d (Err f) policy reads is = absurd cc

policy_by : (d : Data) (is_network : Bool) (policy : Policy) → cond is_network (network_policy_of d) (cilium_policy_of d) ≡ Ok policy → IsPolicy policy
policy_by d true policy is = network_written d (net.read_document d) policy refl (unfaulted net_fault (net.netpol_of d) policy is)
policy_by d false policy is = cilium_written d (read_document d) policy refl is

policy_written : (d : Data) (policy : Policy) → policy_of d ≡ Ok policy → IsPolicy policy
policy_written d policy is = policy_by d (is_network_policy d) policy is

-- ---- what the rows of an operation give

abbrev Asked : Type 0
Asked = Result Command LineFault

-- where the line is read, some value writes the command
abbrev IsWritten : Asked → Type 0
IsWritten (Ok c) = (e : Data) × Writes e c
IsWritten (Err f) = Unit {0}

refused_written : (f : LineFault) → IsWritten (Err f)
refused_written f = tt

-- ---- the operations

-- the session is named as it was
session_named : (session : Option ℕ) → IfSome session (λ n. is_within 1 8 n ≡ true) → NamesSession session (unwrap_or session 1)
session_named session fits = record { fits = fits; is = refl }

abbrev FitsSession : Option ℕ → Type 0
FitsSession session = IfSome session (λ n. is_within 1 8 n ≡ true)

endpoint_written : (name : List ℕ) (list : List (List ℕ)) (at_text : List ℕ) (session : Option ℕ) (labels : Result (List Label) LineFault)
    (address : Result Addr LineFault) → is_name name ≡ true → FitsSession session → labels_of list ≡ labels → address_of at_text ≡ address
    → IsWritten (labels >>= λ set. address >>= λ it. Ok (commit session (request.AddEndpoint name set it)))
endpoint_written name list at_text session (Ok set) (Ok it) own fits labels_is address_is = (
  endpoint_line session name list at_text,
  (
    session,
    session_named session fits,
    record {
      label_texts = list;
      address_text = at_text;
      is_named = own;
      labelled = labels_written list set labels_is;
      addressed = address_written at_text it address_is;
      is = refl;
    },
  ),
)
endpoint_written name list at_text session (Ok set) (Err f) own fits labels_is address_is = tt
endpoint_written name list at_text session (Err f) address own fits labels_is address_is = tt

identity_written : (name : List ℕ) (list : List (List ℕ)) (session : Option ℕ) (labels : Result (List Label) LineFault) → is_name name ≡ true
    → FitsSession session → labels_of list ≡ labels → IsWritten (labels >>= λ set. Ok (commit session (request.AddIdentity name set)))
identity_written name list session (Ok set) own fits labels_is = (
  identity_line session name list,
  (session, session_named session fits, record { label_texts = list; is_named = own; labelled = labels_written list set labels_is; is = refl }),
)
identity_written name list session (Err f) own fits labels_is = tt

apply_written : (d : Data) (session : Option ℕ) (p : Result Policy LineFault) → FitsSession session → policy_of d ≡ p
    → IsWritten (p >>= λ policy. Ok (commit session (request.Apply policy)))
apply_written d session (Ok policy) fits is =
    let own = policy_written d policy is in
    (apply_line session own.0, (session, session_named session fits, record { document = own.0; written = own.1; is = refl }))
apply_written d session (Err f) fits is = tt

module _ (namespace : Option (List ℕ)) (name : List ℕ) (session : Option ℕ) (placed : IfSome namespace (λ n. is_name n ≡ true))
    (own : is_name name ≡ true) (fits : FitsSession session) where
  -- of a kind by its name here
  kind_written : (kind : Kind) → IsWritten (Ok (commit session (request.Remove (key_named kind namespace name))))
  kind_written kind = (
    delete_line session kind namespace name,
    (
      session,
      session_named session fits,
      record { kind = kind; namespace = namespace; name = name; is_placed = placed; is_named = own; key_is = refl; is = refl },
    ),
  )

  delete_written : (of_kind : Read a_kind) → IsOfWords kinds of_kind → IsWritten (Ok (commit session (request.Remove (key_of of_kind namespace name))))
  delete_written of_kind (inl is) = subst (λ k. IsWritten (Ok (commit session (request.Remove (key_of k namespace name))))) is (kind_written namespaced)
  delete_written of_kind (inr (inl is)) = subst (λ k. IsWritten (Ok (commit session (request.Remove (key_of k namespace name))))) is (kind_written cluster_wide)
  delete_written of_kind (inr (inr (inl is))) = subst (λ k. IsWritten (Ok (commit session (request.Remove (key_of k namespace name))))) is (kind_written network)
  delete_written of_kind (inr (inr (inr none))) = absurd none

module _ (endpoint : List ℕ) (dir : Direction) (proto : Proto) (port : ℕ) (session : Option ℕ) (own : is_name endpoint ≡ true)
    (small : is_within 0 65535 port ≡ true) (fits : FitsSession session) where
  number_written : (is_trace : Bool) (identity : ℕ) → is_within 0 4294967295 identity ≡ true
      → IsWritten (Ok (asks is_trace session (query_from endpoint dir proto port (remote.Identity identity))))
  number_written true identity known = (
    query_line (codes "trace") session endpoint dir identity proto port,
    (session, session_named session fits, record { is_named = own; port_fits = small; other = (known, refl) }),
  )
  number_written false identity known = (
    query_line (codes "verdict") session endpoint dir identity proto port,
    (session, session_named session fits, record { is_named = own; port_fits = small; other = (known, refl) }),
  )

  address_query_written : (is_trace : Bool) (at_text : List ℕ) (address : Addr) → address_of at_text ≡ Ok address
      → IsWritten (Ok (asks is_trace session (query_from endpoint dir proto port (remote.Address address))))
  address_query_written true at_text address is = (
    address_query_line (codes "trace") session endpoint dir at_text proto port,
    (
      session,
      session_named session fits,
      record { is_named = own; port_fits = small; other = (at_text, address_written at_text address is, refl) },
    ),
  )
  address_query_written false at_text address is = (
    address_query_line (codes "verdict") session endpoint dir at_text proto port,
    (
      session,
      session_named session fits,
      record { is_named = own; port_fits = small; other = (at_text, address_written at_text address is, refl) },
    ),
  )

  by_address : (is_trace : Bool) (at_text : List ℕ) (a : Result Addr LineFault) → address_of at_text ≡ a
      → IsWritten ((a >>= λ address. Ok (remote.Address address)) >>= λ other. Ok (asks is_trace session (query_from endpoint dir proto port other)))
  by_address is_trace at_text (Ok address) is = address_query_written is_trace at_text address is
  by_address is_trace at_text (Err f) is = tt

  query_written : (is_trace : Bool) (identity : Option ℕ) (at_text : Option (List ℕ)) → IfSome identity (λ n. is_within 0 4294967295 n ≡ true)
      → IsWritten (remote_of identity at_text >>= λ other. Ok (asks is_trace session (query_from endpoint dir proto port other)))
  query_written is_trace (Some identity) at_text known = number_written is_trace identity known
  query_written is_trace None (Some at_text) known = by_address is_trace at_text (address_of at_text) refl
  query_written is_trace None None known = tt

-- by the operation's place among all of them, since its type has no name here
op_written : (o : _) → IsOfWords ops o → AllHold IsWritten (rows o) (make o)
-- Endpoint
op_written o (inl is) =
    subst (λ x. AllHold IsWritten (rows x) (make x)) is
    (λ name own list _ at_text _ session fits. endpoint_written name list at_text session (labels_of list) (address_of at_text) own fits refl refl)
-- RemoveEndpoint
op_written o (inr (inl is)) =
    subst (λ x. AllHold IsWritten (rows x) (make x)) is
    (λ name own session fits. (named_line (codes "remove-endpoint") session name, (session, session_named session fits, (own, refl))))
-- Identity
op_written o (inr (inr (inl is))) =
    subst (λ x. AllHold IsWritten (rows x) (make x)) is
    (λ name own list _ session fits. identity_written name list session (labels_of list) own fits refl)
-- RemoveIdentity
op_written o (inr (inr (inr (inl is)))) =
    subst (λ x. AllHold IsWritten (rows x) (make x)) is
    (λ name own session fits. (named_line (codes "remove-identity") session name, (session, session_named session fits, (own, refl))))
-- Apply
op_written o (inr (inr (inr (inr (inl is))))) =
    subst (λ x. AllHold IsWritten (rows x) (make x)) is
    (λ document _ session fits. apply_written document session (policy_of document) fits refl)
-- Delete
op_written o (inr (inr (inr (inr (inr (inl is)))))) =
    subst (λ x. AllHold IsWritten (rows x) (make x)) is
    (λ of_kind known namespace placed name own session fits. delete_written namespace name session placed own fits of_kind known)
-- Mode
op_written o (inr (inr (inr (inr (inr (inr (inl is))))))) =
    subst (λ x. AllHold IsWritten (rows x) (make x)) is
    (λ mode _ session fits. (mode_line session mode, (session, session_named session fits, refl)))
-- Verdict
op_written o (inr (inr (inr (inr (inr (inr (inr (inl is)))))))) =
    subst (λ x. AllHold IsWritten (rows x) (make x)) is
    (λ endpoint own dir _ identity known at_text _ proto _ port small session fits. query_written endpoint dir proto port session own small fits false identity at_text known)
-- Trace
op_written o (inr (inr (inr (inr (inr (inr (inr (inr (inl is))))))))) =
    subst (λ x. AllHold IsWritten (rows x) (make x)) is
    (λ endpoint own dir _ identity known at_text _ proto _ port small session fits. query_written endpoint dir proto port session own small fits true identity at_text known)
-- Sync
op_written o (inr (inr (inr (inr (inr (inr (inr (inr (inr (inl is)))))))))) =
    subst (λ x. AllHold IsWritten (rows x) (make x)) is
    (λ session fits. (sync_line session, (session, session_named session fits, refl)))
-- Phase
op_written o (inr (inr (inr (inr (inr (inr (inr (inr (inr (inr (inl is))))))))))) =
    subst (λ x. AllHold IsWritten (rows x) (make x)) is
    (fields ((codes "op", text (codes "phase")) ∷ []), refl)
op_written o (inr (inr (inr (inr (inr (inr (inr (inr (inr (inr (inr none))))))))))) = absurd none

-- ---- lines

read_op_written : (o : _) → IsOfWords ops o → (d : Data) → IsWritten (read_op o d)
read_op_written o is d = op_holds IsWritten refused_written o d (op_written o is)

by_word : (d : Data) (found : Option _) → ((o : _) → found ≡ Some o → IsOfWords ops o) → IsWritten (ok_or found fault.NoOp >>= λ o. read_op o d)
by_word d None is = tt
by_word d (Some o) is = read_op_written o (is o refl) d

by_text : (d : Data) (said : Option (List ℕ)) → IsWritten (ok_or (option_and_then (word_among ops) said) fault.NoOp >>= λ o. read_op o d)
by_text d None = tt
by_text d (Some said) = by_word d (word_among ops said) (word_found ops said)

pub as_read : (d : Data) (c : Command) → read_object d ≡ Ok c → (e : Data) × Writes e c
as_read d c is = subst IsWritten is (by_text d (text_at (codes "op") d))
