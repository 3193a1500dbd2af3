-- What a contract sees of a node.
use Rattle.std.specs.Prelude.{◌≡◌, ℕ, zero, suc, ◌+◌, ◌^◌, ◌<◌, IfSome, Option, Some, None, refl}
use Rattle.pol_ports.specs.declared.PortPrefix.{PortPrefix}
use Rattle.pol_mapkey.specs.declared.Kind.{Kind}
use Rattle.pol_mapkey.specs.declared.Kind.TheVariants.{Allow, Deny}
use Rattle.pol_trie.specs.declared.node.Held.{Held}
use Rattle.pol_trie.specs.declared.node.Held.TheVariants.{Nothing, Allow as HeldAllow, Deny as HeldDeny}

-- a prefix, its kind, if it has one, and the nodes of its lower and its upper half
pub record Linked : Type 0 where
  pub port : PortPrefix
  pub kind : Option Kind
  pub low : Option ℕ
  pub high : Option ℕ

-- the kind that a node holds, and a kind as it is held
abbrev pub kind_of : Held → Option Kind
kind_of Nothing = None
kind_of HeldAllow = Some Allow
kind_of HeldDeny = Some Deny

abbrev pub held_of : Option Kind → Held
held_of None = Nothing
held_of (Some Allow) = HeldAllow
held_of (Some Deny) = HeldDeny

pub held_of-kind_of : (held : Held) → held_of (kind_of held) ≡ held
held_of-kind_of Nothing = refl
held_of-kind_of HeldAllow = refl
held_of-kind_of HeldDeny = refl

-- the index that a link has, and the link to an index
abbrev pub link_of : ℕ → Option ℕ
link_of zero = None
link_of (suc index) = Some index

abbrev pub index_of : Option ℕ → ℕ
index_of None = zero
index_of (Some index) = suc index

pub index_of-link_of : (link : ℕ) → index_of (link_of link) ≡ link
index_of-link_of zero = refl
index_of-link_of (suc index) = refl

-- an index that a link has room for
abbrev pub FitsLink : Option ℕ → Type 0
FitsLink index = IfSome index (λ i. i + 1 < 2 ^ 32)
