-- A walk that has come so far, in a trie that changed elsewhere or towards a longer prefix.
use Rattle.std.proofs.Common.{◌≡◌, ℕ, ◌+◌, ◌≤◌, true, is_some, IsSome, MatchOption, Option, Some, None, refl, sym, ap, subst, ◌∙◌, arith}
use Rattle.std.proofs.lemmas.Option.{none-some}
use Rattle.slab.specs.Slab.{Slab, get}
use Rattle.pol_addr.specs.Cidr.{IsPrefix}
use Rattle.pol_addr.specs.declared.network.Prefix.{Prefix}
use Rattle.pol_addr.specs.declared.family.Family.{Family}
use Rattle.pol_addr.specs.Address.{family_of}
use Rattle.pol_addr.specs.Prefix.{covers}
use Rattle.pol_addr.proofs.Containment.{covers_trans, covers_from_covered}
use Rattle.pol_addr.proofs.Halves.{covers_len}
use Rattle.pol_prefix_table.specs.declared.node.PrefixNode.{PrefixNode}
use Rattle.pol_prefix_table.specs.declared.walk.Reached.{Reached}
use Rattle.pol_prefix_table.specs.Starts.{HasReached}
use Rattle.pol_prefix_table.specs.Trie.{IsTree, HasRoot, IsDeepest, IsNumberUpTo, NoNumberUpTo, IsNumberOver, NoNumberOver, number_of, len_at}
use Rattle.pol_prefix_table.proofs.Steps.{len_at-node, root_stands, world_root}
use Rattle.pol_prefix_table.proofs.Best.{best_start, some_none}
use Rattle.pol_prefix_table.proofs.Numbers.{HasNumber, HasNumber-from, number_of-node}

-- ---- after a change that no prefix over the target's way took part in
module _ (old new : Slab PrefixNode) (t : IsTree (get old)) (t' : IsTree (get new)) (target : Prefix)
    (same : (q : Prefix) → covers q target ≡ true → number_of new q ≡ number_of old q) where
  before : (j : ℕ) (m : PrefixNode) → get new j ≡ Some m → covers m.prefix target ≡ true → (x : ℕ) → m.number ≡ Some x → HasNumber old m.prefix x
  before j m is over x numbered = HasNumber-from old t m.prefix x (sym (same m.prefix over) ∙ number_of-node new t' j m is ∙ numbered)

  none_at : (most : ℕ) → NoNumberUpTo old target most → (j : ℕ) (m : PrefixNode) → get new j ≡ Some m → covers m.prefix target ≡ true → m.prefix.len ≤ most → (o : Option ℕ) → m.number ≡ o → o ≡ None
  none_at most none j m is over short None e = refl
  none_at most none j m is over short (Some x) e =
      let g = before j m is over x e in
      let gone = none g.key g.node g.there (ap (λ p. covers p target) g.prefix ∙ over) (omega (arith, short, ap (λ p. p.len) g.prefix)) in
      absurd (none-some x (sym gone ∙ g.number))

  longest_at : (most x : ℕ) (h : IsNumberUpTo old target most x) (j : ℕ) (m : PrefixNode) → get new j ≡ Some m → covers m.prefix target ≡ true → m.prefix.len ≤ most → IsSome m.number → (o : Option ℕ) → m.number ≡ o → m.prefix.len ≤ h.node.prefix.len
  longest_at most x h j m is over short some None e = absurd (some_none m.number some e)
  longest_at most x h j m is over short some (Some y) e =
      let g = before j m is over y e in
      let shorter = h.longest g.key g.node g.there (ap (λ p. covers p target) g.prefix ∙ over) (omega (arith, short, ap (λ p. p.len) g.prefix)) (ap is_some g.number) in
      omega (arith, shorter, ap (λ p. p.len) g.prefix)

  best_kept : (most : ℕ) (best : Option ℕ) → MatchOption best (NoNumberUpTo old target most) (IsNumberUpTo old target most) → MatchOption best (NoNumberUpTo new target most) (IsNumberUpTo new target most)
  best_kept most None none = λ j m is over short. none_at most none j m is over short m.number refl
  best_kept most (Some x) h =
      let g = HasNumber-from new t' h.node.prefix x (same h.node.prefix h.over ∙ number_of-node old t h.key h.node h.there ∙ h.numbered) in
      record {
        key = g.key;
        node = g.node;
        there = g.there;
        over = ap (λ p. covers p target) g.prefix ∙ h.over;
        short = omega (arith, h.short, ap (λ p. p.len) g.prefix);
        numbered = g.number;
        longest = λ j m is over short some. omega (arith, longest_at most x h j m is over short some m.number refl, ap (λ p. p.len) g.prefix);
      }

pub reached_kept : (old new : Slab PrefixNode) → IsTree (get old) → IsTree (get new) → (r : Reached)
    → ((n : PrefixNode) → get old r.at ≡ Some n → covers n.prefix r.to ≡ true → (m : PrefixNode) × (get new r.at ≡ Some m) × (m.prefix ≡ n.prefix))
    → ((q : Prefix) → covers q r.to ≡ true → number_of new q ≡ number_of old q) → HasReached old r → HasReached new r
reached_kept old new t t' r still same h =
    let st = h.stands in
    let n = st.node in
    let (m, is, prefix) = still n st.there st.over in
    let len : len_at old r.at ≡ len_at new r.at = len_at-node old r.at n st.there ∙ ap (λ p. p.len) (sym prefix) ∙ sym (len_at-node new r.at m is) in
    record {
      stands = record { node = m; there = is; over = ap (λ p. covers p r.to) prefix ∙ st.over; short = omega (arith, ap (λ p. p.len) prefix, st.short) };
      best = subst (λ most. MatchOption r.number (NoNumberUpTo new r.to most) (IsNumberUpTo new r.to most)) len
          (best_kept old new t t' r.to same (len_at old r.at) r.number h.best);
      few = omega (arith, len, h.few);
    }

-- ---- towards a longer prefix
best_further : (s : Slab PrefixNode) (near far : Prefix) → covers near far ≡ true → (most : ℕ) → most ≤ near.len → (best : Option ℕ) → MatchOption best (NoNumberUpTo s near most) (IsNumberUpTo s near most) → MatchOption best (NoNumberUpTo s far most) (IsNumberUpTo s far most)
best_further s near far further most within None none = λ j m is over short. none j m is (covers_from_covered m.prefix near far over further (omega (arith, short, within))) short
best_further s near far further most within (Some x) h = record {
  key = h.key;
  node = h.node;
  there = h.there;
  over = covers_trans h.node.prefix near far h.over further;
  short = h.short;
  numbered = h.numbered;
  longest = λ j m is over short some. h.longest j m is (covers_from_covered m.prefix near far over further (omega (arith, short, within))) short some;
}

pub reached_further : (s : Slab PrefixNode) (r : Reached) (to : Prefix) → HasReached s r → covers r.to to ≡ true → HasReached s (record { to = to; at = r.at; number = r.number; visits = r.visits })
reached_further s r to h further =
    let st = h.stands in
    let n = st.node in
    let within : len_at s r.at ≤ r.to.len = omega (arith, len_at-node s r.at n st.there, st.short) in
    record {
      stands = record { node = n; there = st.there; over = covers_trans n.prefix r.to to st.over further; short = omega (arith, st.short, covers_len r.to to further) };
      best = best_further s r.to to further (len_at s r.at) within r.number h.best;
      few = h.few;
    }

-- ---- at the root, and at the end
pub reached_root : {family : Family} (s : Slab PrefixNode) → IsTree (get s) → (to : Prefix) (root : PrefixNode) → HasRoot family (get s) → IsPrefix to → family_of to.addr ≡ family → get s 0 ≡ Some root → HasReached s (record { to = to; at = 0; number = root.number; visits = 1 })
reached_root s t to root has valid same is =
    let h = root_stands s to (to.len + 1) has valid same (omega arith) in
    record {
      stands = h;
      best = best_start s t to _ (to.len + 1) root is h (world_root _ s root has is);
      few = omega arith;
    }

-- the number that a walk knows at its end is that of the longest node
best_is_over : (s : Slab PrefixNode) (target : Prefix) (most : ℕ) → ((j : ℕ) (m : PrefixNode) → get s j ≡ Some m → covers m.prefix target ≡ true → m.prefix.len ≤ target.len → m.prefix.len ≤ most) → most ≤ target.len → (best : Option ℕ) → MatchOption best (NoNumberUpTo s target most) (IsNumberUpTo s target most) → MatchOption best (NoNumberOver s target) (IsNumberOver s target)
best_is_over s target most all within None none = λ j m is over short. none j m is over (all j m is over short)
best_is_over s target most all within (Some x) h = record {
  key = h.key;
  node = h.node;
  there = h.there;
  over = h.over;
  short = omega (arith, h.short, within);
  numbered = h.numbered;
  longest = λ j m is over short some. h.longest j m is over (all j m is over short) some;
}

pub reached_end : (s : Slab PrefixNode) (r : Reached) → HasReached s r → IsDeepest s r.to (r.to.len + 1) r.at → MatchOption r.number (NoNumberOver s r.to) (IsNumberOver s r.to)
reached_end s r h d =
    let st = d.stands in
    let len = len_at-node s r.at st.node st.there in
    best_is_over s r.to (len_at s r.at) (λ j m is over short. omega (arith, len, d.deepest j m is over (omega (arith, short)))) (omega (arith, len, st.short)) r.number h.best
