-- A table of one entry, as a text, and what it says.
use Rattle.std.proofs.Common.{◌≡◌, ◌≢◌, ℕ, ◌<◌, ◌==◌, Bool, false, List, [], ◌∷◌, ◌++◌, codes, get_or, length, ◌+◌, inl, inr, refl, sym, ap, ◌∙◌, arith, ne_eqb}
use Rattle.std.proofs.lemmas.Bool.{and_left}
use Rattle.pol_audit.proofs.Following.{follows_none}
use Rattle.pol_audit.proofs.Reading.{no_entries_are_table, no_entries_kept, one_kept}
use Rattle.pol_audit.specs.Audit.{IsLeastDiffering}
use Rattle.pol_audit.specs.Packets.{ComesBefore, direction_place, packet_place}
use Rattle.pol_audit.specs.Tables.{IsTable}
use Rattle.pol_audit.specs.Text.{AreKept, IsBadLine, IsKept, direction_word, said_words, spaced, text_of}
use Rattle.pol_audit.specs.declared.packet.Packet.{Packet}
use Rattle.pol_compare.proofs.OneFinding.{one_finding}
use Rattle.pol_compare.specs.Finding.{AreSmall, IsFinding, IsTextOf, is_same}
use Rattle.pol_compare.specs.Text.{finding_text}
use Rattle.pol_compare.specs.declared.finding.Finding.{Finding}
use Rattle.pol_mapkey.specs.Entries.{Entry, longest, reaches, read_map}
use Rattle.pol_mapkey.specs.MapKey.{every_key}
use Rattle.pol_mapkey.specs.declared.KeyProto.{KeyProto}
use Rattle.pol_mapkey.specs.declared.Kind.{Kind}
use Rattle.pol_mapkey.specs.declared.Kind.TheVariants.{Allow}
use Rattle.pol_mapkey.specs.declared.Word.{Word}
use Rattle.pol_mapkey.specs.declared.Word.TheVariants.{Allowed, DeniedByDefault}
use Rattle.pol_ports.specs.declared.Direction.{Direction}
use Rattle.pol_ports.specs.declared.Direction.TheVariants.{Ingress, Egress}
use Rattle.pol_ports.specs.declared.PortPrefix.{PortPrefix}
use Rattle.pol_ports.specs.declared.Proto.{Proto}
use Rattle.pol_ports.specs.declared.Proto.TheVariants.{Tcp, Udp, Sctp}
use Rattle.answer_examples.specs.Found.{IsToldAs}

-- ---- a text has one finding

pub told_by : (text line : List ℕ) (same : Bool) (finding : Finding) → AreSmall finding → IsFinding text finding
    → finding_text finding ≡ line → is_same finding ≡ same → IsToldAs text line same
told_by text line same finding small is words mark = record {
  finding = finding;
  is_one = is;
  told = λ found small' is'. ap finding_text (one_finding text found finding small' small is' is) ∙ words;
  marked = λ found small' is'. ap is_same (one_finding text found finding small' small is' is) ∙ mark;
}

-- ---- tables of one entry, and of none

abbrev pub entry : Entry
entry = (every_key Ingress 257, Allow)

abbrev pub one : List Entry
one = entry ∷ []

pub one_table : IsTable one
one_table = follows_none [] entry refl

entry_kept : IsKept entry
entry_kept = (omega arith, omega arith)

pub kept_one : AreKept one
kept_one = one_kept [] one entry no_entries_kept entry_kept refl

pub text_of_none : IsTextOf [] []
text_of_none = record { ascends = no_entries_are_table; kept = no_entries_kept; written = refl }

-- ---- a line that begins with `b` is none

no_line : (dir : Direction) (id : ℕ) (proto : KeyProto) (port : PortPrefix) (kind : Kind) (behind : List ℕ)
    → codes "bad\n" ≡ (spaced (direction_word dir) (said_words id proto port kind) ++ codes "\n") ++ behind → ⊥
no_line Ingress id proto port kind behind is = let first : 98 ≡ 105 = ap (λ (bytes : List ℕ). get_or bytes 0 0) is in omega (arith, first)
no_line Egress id proto port kind behind is = let first : 98 ≡ 101 = ap (λ (bytes : List ℕ). get_or bytes 0 0) is in omega (arith, first)

not_empty : codes "bad\n" ≢ []
not_empty is = let first : 98 ≡ 0 = ap (λ (bytes : List ℕ). get_or bytes 0 0) is in omega (arith, first)

pub bad_behind : (front : List Entry) (text : List ℕ) (line : ℕ) → AreKept front → IsTable front → text ≡ text_of front ++ codes "bad\n"
    → line ≡ length front + 1 → IsBadLine text line
bad_behind front text line kept table split place = record {
  front = front;
  rest = codes "bad\n";
  kept = kept;
  table = table;
  split = split;
  place = place;
  some = not_empty;
  bad = λ e behind kept' up is. no_line e.0.dir e.0.id e.0.proto e.0.port e.1 behind is;
}

-- ---- the least packet on which the two differ

abbrev pub packet : Word → Word → Packet
packet left right = record { dir = Ingress; id = 257; proto = Tcp; port = 0; left = left; right = right }

-- where the entry isn't for the packet, the table says what an empty one says
unreached : (dir : Direction) (id : ℕ) (proto : Proto) (port : ℕ) → reaches dir id proto port entry ≡ false
    → read_map one dir id proto port ≡ read_map [] dir id proto port
unfolding read_map longest
unreached dir id proto port not = rw not refl

another_number : (dir : Direction) (id : ℕ) (proto : Proto) (port : ℕ) → id < 257 → reaches dir id proto port entry ≡ false
another_number dir id proto port less = and_left (257 == id) _ (ne_eqb 257 id (λ same. omega (arith, less, same)))

none_less : (dir : Direction) → direction_place dir < direction_place Ingress → ⊥
none_less Ingress less = omega (arith, less)
none_less Egress less = omega (arith, less)

no_proto_less : (proto : Proto) → packet_place proto < packet_place Tcp → ⊥
no_proto_less Tcp less = omega (arith, less)
no_proto_less Udp less = omega (arith, less)
no_proto_less Sctp less = omega (arith, less)

same_before : (dir : Direction) (id : ℕ) (proto : Proto) (port : ℕ) → ComesBefore dir id proto Ingress 257 Tcp (port < 0)
    → read_map one dir id proto port ≡ read_map [] dir id proto port
same_before dir id proto port (inl less) = absurd (none_less dir less)
same_before dir id proto port (inr (is_dir, inl less)) = unreached dir id proto port (another_number dir id proto port less)
same_before dir id proto port (inr (is_dir, inr (is_id, inl less))) = absurd (no_proto_less proto less)
same_before dir id proto port (inr (is_dir, inr (is_id, inr (is_proto, less)))) = absurd (omega (arith, less))

apart : Allowed ≢ DeniedByDefault
apart is = cc

pub left_differs : IsLeastDiffering one [] (packet Allowed DeniedByDefault)
unfolding read_map longest
left_differs = record {
  left_word = refl;
  right_word = refl;
  differ = apart;
  least = λ dir id proto port small before. same_before dir id proto port before;
}

pub right_differs : IsLeastDiffering [] one (packet DeniedByDefault Allowed)
unfolding read_map longest
right_differs = record {
  left_word = refl;
  right_word = refl;
  differ = λ is. apart (sym is);
  least = λ dir id proto port small before. sym (same_before dir id proto port before);
}
