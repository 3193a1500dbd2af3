-- What an error of a lower crate is to whoever reads a NetworkPolicy.
use Rattle.pol_json.specs.declared.fault.DocError.{DocError}
use Rattle.pol_json.specs.declared.fault.DocError.TheVariants as document
use Rattle.pol_sanitize.specs.declared.fault.SanitizeError.{SanitizeError}
use Rattle.pol_sanitize.specs.declared.fault.SanitizeError.TheVariants as rules
use Rattle.pol_netpol.specs.declared.fault.NetError.{NetError}
use Rattle.pol_netpol.specs.declared.fault.NetError.TheVariants.{Fault, Memory}
use Rattle.pol_netpol.specs.declared.fault.NetFault.TheVariants.{Doc, Rule}

abbrev pub of_doc_error : DocError → NetError
of_doc_error document.Memory = Memory
of_doc_error (document.Fault fault) = Fault (Doc fault)

abbrev pub of_rule_error : SanitizeError → NetError
of_rule_error rules.Memory = Memory
of_rule_error (rules.Fault fault) = Fault (Rule fault)
