-- How a policy map is read (profile: how the keys of two identities are weighed).
use Rattle.std.specs.Prelude.{◌≢◌, ℕ, Bool, true, false, not, ◌&&◌, ◌||◌, ◌==◌, List, Option, Some, None, is_some, if◌then◌else◌}
use Rattle.std.specs.List.{find, list_all, AllPairs}
use Rattle.pol_ports.specs.declared.Direction.{Direction}
use Rattle.pol_ports.specs.declared.Proto.{Proto}
use Rattle.pol_mapkey.specs.declared.MapKey.{MapKey}
use Rattle.pol_mapkey.specs.declared.Kind.{Kind}
use Rattle.pol_mapkey.specs.declared.Kind.TheVariants.{Allow, Deny}
use Rattle.pol_mapkey.specs.declared.Word.{Word}
use Rattle.pol_mapkey.specs.declared.Word.TheVariants.{Allowed, DeniedByRule, DeniedByDefault}
use Rattle.pol_mapkey.specs.MapKey.{covers, covers_packet}

-- an entry of a policy map
abbrev pub Entry : Type 0
Entry = MapKey × Kind

-- whether the entry's key has that identity, and covers the packet
abbrev pub reaches : Direction → ℕ → Proto → ℕ → Entry → Bool
reaches dir id proto port e = (e.0.id == id) && covers_packet e.0 dir proto port

-- whether the key of each entry that passes the test covers this key
abbrev pub all_cover : (Entry → Bool) → List Entry → MapKey → Bool
all_cover test entries key = list_all (λ e. not (test e) || covers e.0 key) entries

-- the entry of the longest key of that identity that covers the packet: the one that all the others
-- cover
unfoldable pub longest : List Entry → Direction → ℕ → Proto → ℕ → Option Entry
longest entries dir id proto port =
    find (λ e. reaches dir id proto port e && all_cover (reaches dir id proto port) entries e.0) entries

-- whether the kind is a deny
abbrev pub is_deny : Kind → Bool
is_deny Allow = false
is_deny Deny = true

-- whether there is an entry, and it denies
abbrev pub denies : Option Entry → Bool
denies None = false
denies (Some e) = is_deny e.1

-- whether there is an entry, and it allows
abbrev pub allows : Option Entry → Bool
allows None = false
allows (Some e) = not (is_deny e.1)

-- What a map says by the deciding entries of the remote identity and of identity 0: a deny on either
-- denies, and else an allow on either allows.
abbrev pub word_of : Option Entry → Option Entry → Word
word_of own every =
    if denies own || denies every then DeniedByRule else (if allows own || allows every then Allowed else DeniedByDefault)

-- whether there is a kind, and it is a deny
abbrev pub kind_denies : Option Kind → Bool
kind_denies None = false
kind_denies (Some kind) = is_deny kind

-- the same word by the kinds of these entries alone
abbrev pub word_of_kinds : Option Kind → Option Kind → Word
word_of_kinds own every =
    if kind_denies own || kind_denies every then DeniedByRule else (if is_some own || is_some every then Allowed else DeniedByDefault)

-- what the map of these entries says of a packet to or from the identity
unfoldable pub read_map : List Entry → Direction → ℕ → Proto → ℕ → Word
read_map entries dir id proto port =
    word_of (longest entries dir id proto port) (longest entries dir 0 proto port)

-- each key stands once in the list of entries
abbrev pub EachKeyOnce : List Entry → Type 0
EachKeyOnce entries = AllPairs (λ e f. e.0 ≢ f.0) entries
