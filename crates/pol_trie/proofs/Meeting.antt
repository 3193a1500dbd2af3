-- A walk toward a port meets exactly the prefixes that have it, the longest last.
use Rattle.std.proofs.Common.{◌≡◌, ℕ, ◌+◌, ◌<◌, ◌≤◌, Bool, true, false, nat_lt, if◌then◌else◌, filter, List, [], ◌∷◌, ◌++◌, Option, Some, None, refl, sym, ap, ◌∙◌, inl, inr, ◌⊎◌, arith}
use Rattle.std.specs.Option.{option_or}
use Rattle.std.proofs.lemmas.Bool.{cases_lt, cases_Bool, both_ways, lt-ltb, le-ltb}
use Rattle.std.proofs.lemmas.List.{append-nil}
use Rattle.pol_ports.specs.declared.PortPrefix.{PortPrefix}
use Rattle.pol_ports.specs.PortPrefix.{end_of, prefix_holds}
use Rattle.pol_ports.proofs.Containing.{holds_is, holds_from}
use Rattle.pol_mapkey.specs.declared.Kind.{Kind}
use Rattle.pol_trie.specs.Tree.{Tree, Leaf, Fork, middle, walk, met, Ascends, last_of, Fits, listed, entry_before}
use Rattle.pol_trie.proofs.Prefixes.{middle_within}

abbrev Entries : Type 0
Entries = List (PortPrefix × Kind)

abbrev having : ℕ → Entries → Entries
having port es = filter (λ e. prefix_holds e.0 port) es

having-append : (port : ℕ) (xs ys : Entries) → having port (xs ++ ys) ≡ having port xs ++ having port ys
having-append port [] ys = refl
having-append port (x ∷ xs) ys = by (prefix_holds x.0 port) (having-append port xs ys)
  where
    by : (b : Bool) → having port (xs ++ ys) ≡ having port xs ++ having port ys
        → (if b then x ∷ having port (xs ++ ys) else having port (xs ++ ys)) ≡ (if b then x ∷ having port xs else having port xs) ++ having port ys
    by true e = ap (λ l. x ∷ l) e
    by false e = e

kept : (port : ℕ) (p : PortPrefix) (kind : Option Kind) (rest : Entries) → prefix_holds p port ≡ true → having port (entry_before p kind rest) ≡ entry_before p kind (having port rest)
kept port p None rest t = refl
kept port p (Some k) rest t = ap (λ b. if b then (p, k) ∷ having port rest else having port rest) t

dropped : (port : ℕ) (p : PortPrefix) (kind : Option Kind) (rest : Entries) → prefix_holds p port ≡ false → having port (entry_before p kind rest) ≡ having port rest
dropped port p None rest f = refl
dropped port p (Some k) rest f = ap (λ b. if b then (p, k) ∷ having port rest else having port rest) f

-- a port outside of where a tree lies is on none of its prefixes
none_has : (t : Tree) (lo hi len port : ℕ) → Fits t lo hi len → (port < lo) ⊎ (hi ≤ port) → having port (listed t) ≡ []
none_has Leaf lo hi len port fits out = refl
none_has (Fork p kind low high) lo hi len port fits out =
    let m = middle_within p in
    let i = fits.0 in
    let not_p : prefix_holds p port ≡ false =
    elim (cases_Bool (prefix_holds p port)) [
      | inl t ↦ (let h = holds_is p port t in absurd (elim out [ inl l ↦ omega (arith, i.0, h.0) | inr g ↦ omega (arith, i.1, h.1) ]))
      | inr f ↦ f
    ] in
    let out_low : (port < p.bits) ⊎ (middle p ≤ port) = elim out [ inl l ↦ inl (omega (arith, i.0)) | inr g ↦ inr (omega (arith, i.1, m.1)) ] in
    let out_high : (port < middle p) ⊎ (end_of p ≤ port) = elim out [ inl l ↦ inl (omega (arith, i.0, m.0)) | inr g ↦ inr (omega (arith, i.1)) ] in
    dropped port p kind (listed low ++ listed high) not_p ∙ having-append port (listed low) (listed high)
    ∙ (λ x. none_has low p.bits (middle p) (p.len + 1) port fits.1 out_low x ++ none_has high (middle p) (end_of p) (p.len + 1) port fits.2 out_high x)

-- what the walk meets
pub meets : (t : Tree) (lo hi len port : ℕ) → Fits t lo hi len → met t port ≡ having port (listed t)
meets Leaf lo hi len port fits = refl
meets (Fork p kind low high) lo hi len port fits =
    elim (cases_Bool (prefix_holds p port)) [
      | inl t ↦
          elim (cases_lt port (middle p)) [
            | inl l ↦
                choose_low (prefix_holds p port) (nat_lt port (middle p)) t (lt-ltb port (middle p) l)
                ∙ ap (entry_before p kind)
                (meets low p.bits (middle p) (p.len + 1) port fits.1 ∙ sym (append-nil (having port (listed low)))
                ∙ ap (λ es. having port (listed low) ++ es) (sym (none_has high (middle p) (end_of p) (p.len + 1) port fits.2 (inl l)))
                ∙ sym (having-append port (listed low) (listed high)))
                ∙ sym (kept port p kind (listed low ++ listed high) t)
            | inr g ↦
                choose_high (prefix_holds p port) (nat_lt port (middle p)) t (le-ltb port (middle p) g)
                ∙ ap (entry_before p kind)
                (meets high (middle p) (end_of p) (p.len + 1) port fits.2
                ∙ ap (λ es. es ++ having port (listed high)) (sym (none_has low p.bits (middle p) (p.len + 1) port fits.1 (inr g)))
                ∙ sym (having-append port (listed low) (listed high)))
                ∙ sym (kept port p kind (listed low ++ listed high) t)
          ]
      | inr f ↦
          choose_none (prefix_holds p port) (nat_lt port (middle p)) f
          ∙ sym (none_has (Fork p kind low high) p.bits (end_of p) p.len port ((omega arith, omega arith, omega arith), fits.1, fits.2) (outside f))
    ]
  where
    choose_low : (s l : Bool) → s ≡ true → l ≡ true → (if s then entry_before p kind (if l then met low port else met high port) else []) ≡ entry_before p kind (met low port)
    choose_low true true e f = refl
    choose_low true false e f = cc
    choose_low false l e f = cc

    choose_high : (s l : Bool) → s ≡ true → l ≡ false → (if s then entry_before p kind (if l then met low port else met high port) else []) ≡ entry_before p kind (met high port)
    choose_high true false e f = refl
    choose_high true true e f = cc
    choose_high false l e f = cc

    choose_none : (s l : Bool) → s ≡ false → (if s then entry_before p kind (if l then met low port else met high port) else []) ≡ []
    choose_none true l e = cc
    choose_none false l e = refl

    outside : prefix_holds p port ≡ false → (port < p.bits) ⊎ (end_of p ≤ port)
    outside f =
        elim (cases_lt port p.bits) [
          | inl l ↦ inl l
          | inr g ↦ elim (cases_lt port (end_of p)) [ inl l ↦ absurd (both_ways _ f (holds_from p port g l)) | inr e ↦ inr e ]
        ]

-- each that it meets is longer than those before
Ascends-weaken : (es : Entries) (n m : ℕ) → m ≤ n → Ascends n es → Ascends m es
Ascends-weaken [] n m le a = tt
Ascends-weaken (e ∷ es) n m le a = (omega (arith, a.0), a.1)

pub ascends : (t : Tree) (lo hi len port : ℕ) → Fits t lo hi len → Ascends len (met t port)
ascends Leaf lo hi len port fits = tt
ascends (Fork p kind low high) lo hi len port fits =
    choose (prefix_holds p port) (nat_lt port (middle p)) (ascends low p.bits (middle p) (p.len + 1) port fits.1) (ascends high (middle p) (end_of p) (p.len + 1) port fits.2)
  where
    own : (kind : Option Kind) (es : Entries) → Ascends (p.len + 1) es → Ascends len (entry_before p kind es)
    own None es a = Ascends-weaken es (p.len + 1) len (omega (arith, fits.0.2)) a
    own (Some k) es a = (fits.0.2, a)

    choose : (s l : Bool) → Ascends (p.len + 1) (met low port) → Ascends (p.len + 1) (met high port)
        → Ascends len (if s then entry_before p kind (if l then met low port else met high port) else [])
    choose true true a b = own kind (met low port) a
    choose true false a b = own kind (met high port) b
    choose false l a b = tt

-- and the walk gives the last of them
pub gives_last : (t : Tree) (port : ℕ) (best : Option Kind) → walk t port best ≡ last_of best (met t port)
gives_last Leaf port best = refl
gives_last (Fork p kind low high) port best = choose (prefix_holds p port) (nat_lt port (middle p)) kind (λ b. gives_last low port b) (λ b. gives_last high port b)
  where
    choose : (s l : Bool) (kind : Option Kind) → ((b : Option Kind) → walk low port b ≡ last_of b (met low port)) → ((b : Option Kind) → walk high port b ≡ last_of b (met high port))
        → (if s then (if l then walk low port (option_or kind best) else walk high port (option_or kind best)) else best)
        ≡ last_of best (if s then entry_before p kind (if l then met low port else met high port) else [])
    choose true true None a b = a best
    choose true true (Some k) a b = a (Some k)
    choose true false None a b = b best
    choose true false (Some k) a b = b (Some k)
    choose false l kind a b = refl
