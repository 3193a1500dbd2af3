-- A binary trie of port prefixes as data.
use Rattle.std.specs.Prelude.{ℕ, ◌+◌, ◌/◌, ◌≤◌, ◌⊎◌, Bool, nat_lt, nat_le, ◌&&◌, if◌then◌else◌, List, [], ◌∷◌, ◌++◌, Option, Some, None}
use Rattle.std.specs.Option.{option_or}
use Rattle.pol_ports.specs.declared.PortPrefix.{PortPrefix}
use Rattle.pol_ports.specs.PortPrefix.{end_of, same_prefix, prefix_holds}
use Rattle.pol_mapkey.specs.declared.Kind.{Kind}

-- nothing, or a prefix with its kind, if it has one, over the trees of its lower and its upper half
pub data Tree : Type 0 where
  Leaf : Tree
  Fork : PortPrefix → Option Kind → Tree → Tree → Tree

-- the first port of the prefix's upper half
abbrev pub middle : PortPrefix → ℕ
middle p = (p.bits + end_of p) / 2

-- whether the port lies past the prefix's lower half
abbrev pub is_upper : PortPrefix → ℕ → Bool
is_upper p port = nat_le (middle p) port

-- whether both end by the prefix's middle, and whether both begin from there on
abbrev pub both_low : PortPrefix → PortPrefix → PortPrefix → Bool
both_low p a b = nat_le (end_of a) (middle p) && nat_le (end_of b) (middle p)

abbrev pub both_high : PortPrefix → PortPrefix → PortPrefix → Bool
both_high p a b = nat_le (middle p) a.bits && nat_le (middle p) b.bits

-- the kind of a prefix in the tree
abbrev pub kind_in : Tree → PortPrefix → Option Kind
kind_in Leaf q = None
kind_in (Fork p kind low high) q =
    if same_prefix p q then kind else (if nat_lt q.bits (middle p) then kind_in low q else kind_in high q)

-- the ports of the prefix lie from `lo` up to before `hi`, and it has that length at least
abbrev pub Inside : PortPrefix → ℕ → ℕ → ℕ → Type 0
Inside p lo hi len = (lo ≤ p.bits) × (end_of p ≤ hi) × (len ≤ p.len)

-- the prefixes of the tree lie there, and below a prefix those of its lower half on the one side and
-- those of its upper half on the other, all longer than it
abbrev pub Fits : Tree → ℕ → ℕ → ℕ → Type 0
Fits Leaf lo hi len = Unit {0}
Fits (Fork p kind low high) lo hi len =
    Inside p lo hi len × Fits low p.bits (middle p) (p.len + 1) × Fits high (middle p) (end_of p) (p.len + 1)

-- there is a prefix in the tree
abbrev pub IsFork : Tree → Type 0
IsFork Leaf = ⊥
IsFork (Fork p kind low high) = Unit {0}

-- a prefix without a kind has prefixes on both sides
abbrev pub IsNeeded : Option Kind → Tree → Tree → Type 0
IsNeeded None low high = IsFork low × IsFork high
IsNeeded (Some kind) low high = Unit {0}

-- each prefix of the tree has a kind, or stands where two sides part
abbrev pub IsTight : Tree → Type 0
IsTight Leaf = Unit {0}
IsTight (Fork p kind low high) = IsNeeded kind low high × IsTight low × IsTight high

-- the same but for its first prefix
abbrev pub IsLooselyTight : Tree → Type 0
IsLooselyTight Leaf = Unit {0}
IsLooselyTight (Fork p kind low high) = IsTight low × IsTight high

-- how many prefixes the tree has, with and without a kind
abbrev pub node_count : Tree → ℕ
node_count Leaf = 0
node_count (Fork p kind low high) = 1 + node_count low + node_count high

-- the prefix with its kind, if it has one, before the rest
abbrev pub entry_before : PortPrefix → Option Kind → List (PortPrefix × Kind) → List (PortPrefix × Kind)
entry_before p None rest = rest
entry_before p (Some kind) rest = (p, kind) ∷ rest

-- the prefixes that have a kind
abbrev pub listed : Tree → List (PortPrefix × Kind)
listed Leaf = []
listed (Fork p kind low high) = entry_before p kind (listed low ++ listed high)

-- what a walk toward the port finds last, where it comes with that
abbrev pub walk : Tree → ℕ → Option Kind → Option Kind
walk Leaf port best = best
walk (Fork p kind low high) port best =
    if prefix_holds p port then (if nat_lt port (middle p) then walk low port (option_or kind best) else walk high port (option_or kind best)) else best

-- the prefixes with a kind that a walk toward the port comes by
abbrev pub met : Tree → ℕ → List (PortPrefix × Kind)
met Leaf port = []
met (Fork p kind low high) port =
    if prefix_holds p port then entry_before p kind (if nat_lt port (middle p) then met low port else met high port) else []

-- each is longer than those before, and has that length at least
abbrev pub Ascends : ℕ → List (PortPrefix × Kind) → Type 0
Ascends len [] = Unit {0}
Ascends len (e ∷ es) = (len ≤ e.0.len) × Ascends (e.0.len + 1) es

-- the kind of the last, or what was there before
abbrev pub last_of : Option Kind → List (PortPrefix × Kind) → Option Kind
last_of best [] = best
last_of best (e ∷ es) = last_of (Some e.1) es

-- how many prefixes that walk visits
abbrev pub visits : Tree → ℕ → ℕ
visits Leaf port = 0
visits (Fork p kind low high) port =
    1 + (if prefix_holds p port then (if nat_lt port (middle p) then visits low port else visits high port) else 0)

-- the prefixes lie in different halves of the first
pub record Parts (f a b : PortPrefix) : Type 0 where
  pub has_a : Inside a f.bits (end_of f) (f.len + 1)
  pub has_b : Inside b f.bits (end_of f) (f.len + 1)
  pub apart : ((end_of a ≤ middle f) × (middle f ≤ b.bits)) ⊎ ((end_of b ≤ middle f) × (middle f ≤ a.bits))

-- a place that takes the prefix, and takes what two prefixes part below wherever it takes both
pub record Takes (lo hi len : ℕ) (port : PortPrefix) : Type 0 where
  pub inside : Inside port lo hi len
  pub common : (f a b : PortPrefix) → Parts f a b → Inside a lo hi len → Inside b lo hi len → Inside f lo hi len
