-- The links of nodes, and which indices they have room for.
use Rattle.std.proofs.Common.{zero, suc, ◌≡◌, ◌≢◌, ℕ, ◌+◌, ◌-◌, ◌%◌, ◌^◌, ◌<◌, ◌≤◌, Option, Some, None, is_some, IsSome, length, inl, inr, refl, sym, ap, ◌∙◌, arith}
use Rattle.std.proofs.Math.ListN.{get_or-eq_default}
use Rattle.std.proofs.lemmas.Bool.{cases_lt}
use Rattle.pol_arena.specs.Pool.{Pool, node_at, IsSound}
use Rattle.pol_ports.proofs.Blocks.{prefix_same}
use Rattle.pol_ports.specs.declared.PortPrefix.{PortPrefix}
use Rattle.pol_mapkey.specs.declared.Kind.{Kind}
use Rattle.pol_mapkey.specs.declared.Kind.TheVariants.{Allow, Deny}
use Rattle.pol_trie.specs.declared.node.Held.{Held}
use Rattle.pol_trie.specs.declared.node.PortNode.{PortNode}
use Rattle.pol_trie.specs.PortNode.{Linked, held_of, index_of, kind_of, link_of}

pub linked_back : (index : Option ℕ) → link_of (index_of index) ≡ index
linked_back None = refl
linked_back (Some index) = refl

pub held_back : (kind : Option Kind) → kind_of (held_of kind) ≡ kind
held_back None = refl
held_back (Some Allow) = refl
held_back (Some Deny) = refl

pub link_of_some : (link : ℕ) → link ≢ 0 → link_of link ≡ Some (link - 1)
link_of_some zero some = absurd (some refl)
link_of_some (suc index) some = ap Some (omega arith)

-- the index of a node in use, and one, has 32 bits
pub small_index : (p : Pool PortNode) (i : ℕ) → IsSound p → IsSome (node_at p i) → i + 1 < 2 ^ 32
small_index p i sound used =
    elim (cases_lt i (length p.slots)) [
      | inl within ↦ omega (arith, sound.counted, sound.covered, sound.fits, within)
      | inr past ↦ absurd (let none : node_at p i ≡ None = get_or-eq_default p.slots None past in let e = sym used ∙ ap is_some none in cc)
    ]

-- prefixes of the same bits and length are one
pub prefix_is : (p q : PortPrefix) → p.bits ≡ q.bits → p.len ≡ q.len → p ≡ q
prefix_is = prefix_same

-- what is seen of a node with these fields
abbrev pub seen : (bits len : ℕ) → len ≤ 16 → bits % 2 ^ (16 - len) ≡ 0 → Held → ℕ → ℕ → Linked
seen bits len short clear held low high =
    record { port = record { bits = bits; len = len; short = short; clear = clear }; kind = kind_of held; low = link_of low; high = link_of high }

-- it is fixed by the prefix, the kind and the links
pub linked_is : (p : PortPrefix) (bits len : ℕ) (short : len ≤ 16) (clear : bits % 2 ^ (16 - len) ≡ 0) (held : Held) (low high : ℕ) (kind : Option Kind) (lo hi : Option ℕ)
    → bits ≡ p.bits → len ≡ p.len → kind_of held ≡ kind → link_of low ≡ lo → link_of high ≡ hi
    → seen bits len short clear held low high ≡ record { port = p; kind = kind; low = lo; high = hi }
linked_is p bits len short clear held low high kind lo hi same_bits same_len kinds lows highs = λ i. record {
  port = prefix_same (record { bits = bits; len = len; short = short; clear = clear }) p same_bits same_len i;
  kind = kinds i;
  low = lows i;
  high = highs i;
}
