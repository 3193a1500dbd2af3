-- What is read of a document is the translation of its object, and has the object's key.
use Rattle.std.proofs.Common.{◌≡◌, Option, None, Some, Result, Ok, Err, IsTrue, refl, ap}
use Rattle.serde_json.specs.Data.{Data}
use Rattle.pol_json.proofs.Keys.{name_of_network, namespace_of_network}
use Rattle.pol_json.specs.Document.{unless_fault}
use Rattle.pol_json.specs.Network.{network_fault, network_name, network_namespace}
use Rattle.pol_json.specs.Texts.{is_dns_name}
use Rattle.pol_json.specs.declared.fault.DocFault.{DocFault}
use Rattle.pol_rule.specs.declared.fault.RuleFault.{RuleFault}
use Rattle.pol_rule.specs.declared.policy.Policy.{Policy}
use Rattle.pol_netpol.specs.Document.{key_of, netpol_of, of_document, of_object, raw_of}
use Rattle.pol_netpol.specs.Keeps.{ReadKeepsItsMeaning}
use Rattle.pol_netpol.specs.Translated.{translated_of}
use Rattle.pol_netpol.specs.declared.raw.RawNetworkPolicy.{RawNetworkPolicy}
use Rattle.pol_netpol.proofs.Kept.{keeps}

of_accepted : (r : Result Policy RuleFault) (policy : Policy) → of_object r ≡ Ok policy → r ≡ Ok policy
of_accepted (Ok p) policy is = let same : p ≡ policy = cc in ap Ok same
of_accepted (Err fault) policy is = absurd cc

-- the document has no fault, and its object is accepted
of_read : (fault : Option DocFault) (raw : RawNetworkPolicy) (policy : Policy) → of_document (unless_fault fault raw) ≡ Ok policy
    → (fault ≡ None) × (translated_of raw ≡ Ok policy)
of_read None raw policy is = (refl, of_accepted (translated_of raw) policy is)
of_read (Some f) raw policy is = absurd cc

pub read_keeps : ReadKeepsItsMeaning
read_keeps d policy is = keeps (raw_of d) policy (of_read (network_fault d) (raw_of d) policy is).1

pub read_key : (d : Data) (policy : Policy) → netpol_of d ≡ Ok policy → policy.key ≡ key_of d
read_key d policy is = (read_keeps d policy is).0

pub read_name : (d : Data) (policy : Policy) → netpol_of d ≡ Ok policy → IsTrue (is_dns_name (network_name d))
read_name d policy is = name_of_network d (of_read (network_fault d) (raw_of d) policy is).0

pub read_namespace : (d : Data) (policy : Policy) → netpol_of d ≡ Ok policy → IsTrue (is_dns_name (network_namespace d))
read_namespace d policy is = namespace_of_network d (of_read (network_fault d) (raw_of d) policy is).0
