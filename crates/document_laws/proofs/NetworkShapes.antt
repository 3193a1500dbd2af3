-- What should stand at each place of a NetworkPolicy's document, named by the way to it.
use Rattle.std.proofs.Common.{◌≡◌, codes, None, Some, refl}
use Rattle.serde_json.specs.Data.{Data, null}
use Rattle.document_laws.proofs.Shapes.{IsObject, first_shape, item_shape, member_shape}
use Rattle.pol_json.proofs.FirstFaults.{network_refused_at_the_first}
use Rattle.pol_json.specs.Document.{places_in}
use Rattle.pol_json.specs.Look.{IsFirstFault}
use Rattle.pol_json.specs.Network.{network_fault, network_head_fault}
use Rattle.pol_json.specs.Table.{Shape}
use Rattle.pol_json.specs.declared.fault.DocFault.{DocFault}
use Rattle.pol_ports.specs.declared.Direction.{Direction}
use Rattle.pol_ports.specs.declared.Direction.TheVariants.{Ingress, Egress}

-- that of the whole document, by a lemma of such documents: their kind has no name here
abbrev whole_shape : (kind : _) → ((d : Data) (fault : DocFault) → network_head_fault d ≡ None → network_fault d ≡ Some fault → IsFirstFault kind d fault) → Shape
whole_shape kind told = first_shape (places_in kind null)

abbrev pub network_shape : Shape
network_shape = whole_shape _ network_refused_at_the_first

abbrev pub net_spec_shape : Shape
net_spec_shape = member_shape network_shape (codes "spec")

abbrev pub net_entry_shape : Direction → Shape
net_entry_shape Ingress = item_shape (member_shape net_spec_shape (codes "ingress"))
net_entry_shape Egress = item_shape (member_shape net_spec_shape (codes "egress"))

abbrev pub net_peer_shape : Shape
net_peer_shape = item_shape (member_shape (net_entry_shape Ingress) (codes "from"))

abbrev pub block_shape : Shape
block_shape = member_shape net_peer_shape (codes "ipBlock")

abbrev pub net_port_shape : Shape
net_port_shape = item_shape (member_shape (net_entry_shape Ingress) (codes "ports"))

abbrev pub port_number_shape : Shape
port_number_shape = member_shape net_port_shape (codes "port")

-- ---- those of objects

pub network_is : IsObject network_shape
network_is = record { nothing = refl; more = λ name d others. refl }

pub net_spec_is : IsObject net_spec_shape
net_spec_is = record { nothing = refl; more = λ name d others. refl }

pub net_entry_is : (dir : Direction) → IsObject (net_entry_shape dir)
net_entry_is Ingress = record { nothing = refl; more = λ name d others. refl }
net_entry_is Egress = record { nothing = refl; more = λ name d others. refl }

pub net_peer_is : IsObject net_peer_shape
net_peer_is = record { nothing = refl; more = λ name d others. refl }

pub block_is : IsObject block_shape
block_is = record { nothing = refl; more = λ name d others. refl }

pub net_port_is : IsObject net_port_shape
net_port_is = record { nothing = refl; more = λ name d others. refl }
