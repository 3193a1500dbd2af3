-- A map that allows all reads so everywhere.
use Rattle.std.proofs.Common.{◌≡◌, ℕ, ◌<◌, ◌≤◌, ◌&&◌, ◌||◌, nat_le, nat_lt, Bool, true, false, cond, List, [], ◌∷◌, Option, None, Some, refl, sym, ap, ◌∙◌, arith}
use Rattle.std.specs.List.Sorted.{IsStrictlySortedBy}
use Rattle.std.proofs.lemmas.Bool.{and_from, le-leb, lt-ltb}
use Rattle.pol_audit.specs.Tables.{IsTable}
use Rattle.pol_ports.specs.PortPrefix.{empty_prefix, prefix_holds}
use Rattle.pol_ports.specs.declared.Direction.{Direction}
use Rattle.pol_ports.specs.declared.Direction.TheVariants.{Ingress, Egress}
use Rattle.pol_ports.specs.declared.Proto.{Proto}
use Rattle.pol_ports.proofs.Blocks.{prefix_same}
use Rattle.pol_mapkey.specs.declared.KeyProto.TheVariants.{Every}
use Rattle.pol_mapkey.specs.declared.Kind.TheVariants.{Allow}
use Rattle.pol_mapkey.specs.declared.MapKey.{MapKey}
use Rattle.pol_mapkey.specs.declared.Word.TheVariants.{Allowed, DeniedByRule, DeniedByDefault}
use Rattle.pol_mapkey.specs.Entries.{Entry, allows, denies, longest, read_map, word_of}
use Rattle.pol_mapkey.specs.MapKey.{every_key}
use Rattle.pol_mapkey.proofs.Keys.{key_same}
use Rattle.pol_shut_ports.specs.Shut.{all_allowed}

-- its two entries are in order
pub all_is_table : IsTable all_allowed
unfolding IsStrictlySortedBy
all_is_table = ((refl, tt), (tt, tt))

pub every_key_is : (dir : Direction) (id : ℕ) (key : MapKey) → key.dir ≡ dir → key.id ≡ id → key.proto ≡ Every → key.port.bits ≡ 0 → key.port.len ≡ 0 → key ≡ every_key dir id
every_key_is dir id key dirs ids protos bits len = key_same key (every_key dir id) dirs ids protos (prefix_same key.port empty_prefix bits len)

abbrev comes_in : Entry
comes_in = (every_key Ingress 0, Allow)

abbrev goes_out : Entry
goes_out = (every_key Egress 0, Allow)

none_denies : (x y : Bool) → denies (cond x (Some comes_in) (cond y (Some goes_out) None)) ≡ false
none_denies true y = refl
none_denies false true = refl
none_denies false false = refl

longest_denies : (dir : Direction) (id : ℕ) (proto : Proto) (port : ℕ) → denies (longest all_allowed dir id proto port) ≡ false
unfolding longest
longest_denies dir id proto port = none_denies _ _

held : (port : ℕ) → port < 65536 → prefix_holds empty_prefix port ≡ true
held port below = and_from (nat_le 0 port) (nat_lt port 65536) (le-leb 0 port (omega arith)) (lt-ltb port 65536 below)

longest_allows : (dir : Direction) (proto : Proto) (port : ℕ) → port < 65536 → allows (longest all_allowed dir 0 proto port) ≡ true
unfolding longest
longest_allows Ingress proto port below = rw (held port below) refl
longest_allows Egress proto port below = rw (held port below) refl

allowed_word : (own every : Option Entry) → denies own ≡ false → denies every ≡ false → allows every ≡ true → word_of own every ≡ Allowed
allowed_word own every one two three =
    (λ i. cond (one i || two i) DeniedByRule (cond (allows own || three i) Allowed DeniedByDefault))
    ∙ by (allows own)
  where
    by : (b : Bool) → cond (b || true) Allowed DeniedByDefault ≡ Allowed
    by true = refl
    by false = refl

pub reads_allowed : (dir : Direction) (id : ℕ) (proto : Proto) (port : ℕ) → port < 65536 → read_map all_allowed dir id proto port ≡ Allowed
unfolding read_map
reads_allowed dir id proto port below =
    allowed_word (longest all_allowed dir id proto port) (longest all_allowed dir 0 proto port)
    (longest_denies dir id proto port) (longest_denies dir 0 proto port) (longest_allows dir proto port below)
