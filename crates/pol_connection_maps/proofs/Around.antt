-- The longest prefix around a region is found length by length, from that of the region down.
use Rattle.std.proofs.Common.{◌≡◌, ℕ, ◌+◌, ◌<◌, ◌≤◌, ◌==◌, ◌&&◌, Bool, true, false, cond, List, [], ◌∷◌, find, Option, None, Some, option_map, refl, sym, ap, subst, ◌∙◌, inl, inr, arith, if◌then◌else◌}
use Rattle.std.specs.Prelude.{nat_le, nat_lt}
use Rattle.std.specs.BTreeMap.{BTreeMap, get, is_at}
use Rattle.std.specs.List.{cons_option}
use Rattle.std.specs.Map.{lookup}
use Rattle.std.proofs.lemmas.Bool.{and_from, cases_lt, eq-eqb, le-leb, le-ltb, lt-leb, lt-ltb, ltb-true}
use Rattle.std.proofs.lemmas.Option.{same_Some}
use Rattle.pol_addr.specs.Address.{same_addr}
use Rattle.pol_addr.specs.declared.network.Prefix.{Prefix}
use Rattle.pol_addr.specs.Longest.{longer}
use Rattle.pol_addr.specs.Order.{prefix_cmp}
use Rattle.pol_addr.specs.Prefix.{covers, prefix_of, same_prefix}
use Rattle.pol_addr.specs.contracts.network.PrefixOrd.TheImpl as prefix_ord
use Rattle.pol_addr.proofs.ByFamily.{same_addr_from}
use Rattle.pol_addr.proofs.Containment.{covers-parts, covers_from}
use Rattle.pol_model.specs.declared.row.IdentityRow.{IdentityRow}
use Rattle.pol_model.specs.Remote.{numbered_prefixes}
use Rattle.pol_model_laws.proofs.Ledger.{same_prefix-is}
use Rattle.pol_model_laws.proofs.Membership.{find-In}
use Rattle.pol_connections.specs.Regions.{longest_over}
use Rattle.pol_connections.proofs.Names.{prefix_tied}
use Rattle.pol_connection_maps.specs.Named.{AreNumbersOf, number_of}
use Rattle.pol_connection_maps.proofs.Turns.{same_order}

pub none_of : (o : Option ℕ) → ((n : ℕ) → o ≡ Some n → ⊥) → o ≡ None
none_of None other = refl
none_of (Some n) other = absurd (other n refl)

-- ---- the table
pub no_numbers : (table : BTreeMap Prefix ℕ) → table.entries ≡ [] → AreNumbersOf [] table
no_numbers table none q = ap (λ es. lookup (is_at (prefix_cmp q)) es) none

found_first : (q : Prefix) (prefix : Prefix) (n : ℕ) (es : List (Prefix × ℕ)) → cond (same_prefix prefix q) (Some n) (number_of q es) ≡ number_of q ((prefix, n) ∷ es)
found_first q prefix n es = by (same_prefix prefix q)
  where
    by : (b : Bool) → cond b (Some n) (number_of q es) ≡ option_map (λ (e : Prefix × ℕ). e.1) (cond b (Some (prefix, n)) (find (λ e. same_prefix e.0 q) es))
    by true = refl
    by false = refl

-- the row of a prefix is put in front of those that are there
pub number_more : (row : IdentityRow) (prefix : Prefix) (rows : List IdentityRow) (old new : BTreeMap Prefix ℕ) → row.prefix ≡ Some prefix
    → ((q : Prefix) → get prefix_ord.ghosts.cmp new q ≡ cond (is_at (prefix_ord.ghosts.cmp prefix) q) (Some row.number) (get prefix_ord.ghosts.cmp old q))
    → AreNumbersOf rows old → AreNumbersOf (row ∷ rows) new
number_more row prefix rows old new has updates are q =
    let given = subst (λ cmp. get cmp new q ≡ cond (is_at (cmp prefix) q) (Some row.number) (get cmp old q)) same_order (updates q) in
    given ∙ (λ i. cond (prefix_tied prefix q i) (Some row.number) (are q i))
    ∙ found_first q prefix row.number (numbered_prefixes rows)
    ∙ ap (λ o. number_of q (cons_option (option_map (λ (p : Prefix). (p, row.number)) o) (numbered_prefixes rows))) (sym has)

pub number_none : (row : IdentityRow) (rows : List IdentityRow) (table : BTreeMap Prefix ℕ) → row.prefix ≡ None → AreNumbersOf rows table → AreNumbersOf (row ∷ rows) table
number_none row rows table none are q =
    are q ∙ ap (λ o. number_of q (cons_option (option_map (λ (p : Prefix). (p, row.number)) o) (numbered_prefixes rows))) (sym none)

-- ---- the entries over a region
module _ (region : Prefix) where
  -- the longest that is shorter than this
  abbrev pub over_below : ℕ → List (Prefix × ℕ) → Option (Prefix × ℕ)
  over_below n [] = None
  over_below n (e ∷ es) = if covers e.0 region && nat_lt e.0.len n then longer e (over_below n es) else over_below n es

  pub over_all : (es : List (Prefix × ℕ)) → over_below (region.len + 1) es ≡ longest_over region es
  over_all [] = refl
  over_all (e ∷ es) = by (covers e.0 region) refl (over_all es)
    where
      by : (b : Bool) → covers e.0 region ≡ b → over_below (region.len + 1) es ≡ longest_over region es
          → cond (b && nat_lt e.0.len (region.len + 1)) (longer e (over_below (region.len + 1) es)) (over_below (region.len + 1) es) ≡ cond b (longer e (longest_over region es)) (longest_over region es)
      by true is rest =
          let within : e.0.len ≤ region.len = (covers-parts e.0 region is).0 in
          let short : nat_lt e.0.len (region.len + 1) ≡ true = lt-ltb e.0.len (region.len + 1) (omega arith) in
          λ i. cond (short i) (longer e (rest i)) (rest i)
      by false is rest = rest

  pub over_none : (es : List (Prefix × ℕ)) → over_below 0 es ≡ None
  over_none [] = refl
  over_none (e ∷ es) = by (covers e.0 region) (over_none es)
    where
      short : nat_lt e.0.len 0 ≡ false
      short = le-ltb e.0.len 0 (omega arith)

      by : (b : Bool) → over_below 0 es ≡ None → cond (b && nat_lt e.0.len 0) (longer e (over_below 0 es)) (over_below 0 es) ≡ None
      by true rest = (λ i. cond (short i) (longer e (over_below 0 es)) (over_below 0 es)) ∙ rest
      by false rest = rest

  -- the longer of two that are shorter than this is so too
  longer_short : (n : ℕ) (e : Prefix × ℕ) (o : Option (Prefix × ℕ)) (g : Prefix × ℕ) → e.0.len < n → ((h : Prefix × ℕ) → o ≡ Some h → h.0.len < n) → longer e o ≡ Some g → g.0.len < n
  longer_short n e None g less all is = subst (λ (x : Prefix × ℕ). x.0.len < n) (same_Some e g is) less
  longer_short n e (Some h) g less all is = by (nat_le h.0.len e.0.len) is
    where
      by : (b : Bool) → cond b (Some e) (Some h) ≡ Some g → g.0.len < n
      by true one = subst (λ (x : Prefix × ℕ). x.0.len < n) (same_Some e g one) less
      by false one = subst (λ (x : Prefix × ℕ). x.0.len < n) (same_Some h g one) (all h refl)

  below_short : (n : ℕ) (es : List (Prefix × ℕ)) (g : Prefix × ℕ) → over_below n es ≡ Some g → g.0.len < n
  below_short n [] g is = absurd cc
  below_short n (e ∷ es) g is = by (below_short n es) (covers e.0 region && nat_lt e.0.len n) (and_right (covers e.0 region) (nat_lt e.0.len n)) is
    where
      and_right : (a b : Bool) → a && b ≡ true → b ≡ true
      and_right true b t = t
      and_right false b t = absurd cc

      by : ((h : Prefix × ℕ) → over_below n es ≡ Some h → h.0.len < n) → (b : Bool) → (b ≡ true → nat_lt e.0.len n ≡ true)
          → cond b (longer e (over_below n es)) (over_below n es) ≡ Some g → g.0.len < n
      by all true under one = longer_short n e (over_below n es) g (ltb-true e.0.len n (under refl)) all one
      by all false under one = all g one

  -- the first entry of this length, and else what is shorter
  abbrev or_shorter : Option (Prefix × ℕ) → Option (Prefix × ℕ) → Option (Prefix × ℕ)
  or_shorter None o = o
  or_shorter (Some f) o = Some f

  module _ (n : ℕ) (within : n ≤ region.len) where
    abbrev around : Prefix
    around = prefix_of region.addr n

    abbrev first : List (Prefix × ℕ) → Option (Prefix × ℕ)
    first es = find (λ (e : Prefix × ℕ). same_prefix e.0 around) es

    is_around : (p : Prefix) → covers p region ≡ true → p.len ≡ n → same_prefix p around ≡ true
    is_around p over len =
        let addr : p.addr ≡ around.addr = sym (covers-parts p region over).1 ∙ ap (λ l. (prefix_of region.addr l).addr) len in
        and_from (same_addr p.addr around.addr) (p.len == around.len) (same_addr_from p.addr around.addr addr) (eq-eqb p.len around.len len)

    -- nothing of this length: what is shorter than the next length is shorter than this
    no_longer : (e : Prefix × ℕ) → same_prefix e.0 around ≡ false → covers e.0 region ≡ true → nat_lt e.0.len (n + 1) ≡ nat_lt e.0.len n
    no_longer e other over = elim (cases_lt e.0.len n) [
      | inl less ↦ lt-ltb e.0.len (n + 1) (omega arith) ∙ sym (lt-ltb e.0.len n less)
      | inr least ↦ elim (cases_lt n e.0.len) [
        | inl more ↦ le-ltb e.0.len (n + 1) (omega arith) ∙ sym (le-ltb e.0.len n least)
        | inr most ↦ absurd (let wrong : true ≡ false = sym (is_around e.0 over (let same : e.0.len ≡ n = omega arith in same)) ∙ other in cc)
      ]
    ]

    -- the entry of this length is longer than a shorter one
    stays_first : (e f : Prefix × ℕ) → e.0.len < n → f.0.len ≡ n → longer e (Some f) ≡ Some f
    stays_first e f less len = λ i. cond (lt-leb f.0.len e.0.len (let under : e.0.len < f.0.len = omega (arith, len) in under) i) (Some e) (Some f)

    comes_first : (e : Prefix × ℕ) (o : Option (Prefix × ℕ)) → e.0.len ≡ n → ((g : Prefix × ℕ) → o ≡ Some g → g.0.len < n + 1) → longer e o ≡ Some e
    comes_first e None len all = refl
    comes_first e (Some g) len all = let under = all g refl in λ i. cond (le-leb g.0.len e.0.len (let most : g.0.len ≤ e.0.len = omega (arith, len) in most) i) (Some e) (Some g)

    first_len : (es : List (Prefix × ℕ)) (f : Prefix × ℕ) → first es ≡ Some f → f.0.len ≡ n
    first_len es f is = ap (λ (p : Prefix). p.len) (same_prefix-is f.0 around (find-In (λ (e : Prefix × ℕ). same_prefix e.0 around) f es is).1)

    longer_or : (e : Prefix × ℕ) (f o : Option (Prefix × ℕ)) → e.0.len < n → ((g : Prefix × ℕ) → f ≡ Some g → g.0.len ≡ n) → longer e (or_shorter f o) ≡ or_shorter f (longer e o)
    longer_or e None o less one = refl
    longer_or e (Some f) o less one = stays_first e f less (one f refl)

    pub over_step : (es : List (Prefix × ℕ)) → over_below (n + 1) es ≡ or_shorter (first es) (over_below n es)
    over_step [] = refl
    over_step (e ∷ es) = by (same_prefix e.0 around) refl (over_step es)
      where
        kept : (b c : Bool) → covers e.0 region ≡ b → nat_lt e.0.len n ≡ c → same_prefix e.0 around ≡ false → over_below (n + 1) es ≡ or_shorter (first es) (over_below n es)
            → cond (b && nat_lt e.0.len (n + 1)) (longer e (over_below (n + 1) es)) (over_below (n + 1) es) ≡ or_shorter (first es) (cond (b && c) (longer e (over_below n es)) (over_below n es))
        kept false c over under other rest = rest
        kept true true over under other rest =
            (λ i. cond ((no_longer e other over ∙ under) i) (longer e (rest i)) (rest i))
            ∙ longer_or e (first es) (over_below n es) (ltb-true e.0.len n under) (first_len es)
        kept true false over under other rest = (λ i. cond ((no_longer e other over ∙ under) i) (longer e (rest i)) (rest i))

        by : (b : Bool) → same_prefix e.0 around ≡ b → over_below (n + 1) es ≡ or_shorter (first es) (over_below n es)
            → over_below (n + 1) (e ∷ es) ≡ or_shorter (cond b (Some e) (first es)) (over_below n (e ∷ es))
        by true same rest =
            let is : e.0 ≡ around = same_prefix-is e.0 around same in
            let len : e.0.len ≡ n = ap (λ (p : Prefix). p.len) is in
            let over : covers e.0 region ≡ true = covers_from e.0 region (omega (arith, len)) (ap (λ l. (prefix_of region.addr l).addr) len ∙ sym (ap (λ (p : Prefix). p.addr) is)) in
            let short : nat_lt e.0.len (n + 1) ≡ true = lt-ltb e.0.len (n + 1) (omega (arith, len)) in
            (λ i. cond (over i && short i) (longer e (over_below (n + 1) es)) (over_below (n + 1) es))
            ∙ comes_first e (over_below (n + 1) es) len (below_short (n + 1) es)
        by false other rest = kept (covers e.0 region) (nat_lt e.0.len n) refl refl other rest

    -- ---- the numbers
    abbrev pub number_over : Option (Prefix × ℕ) → Option ℕ
    number_over o = option_map (λ (e : Prefix × ℕ). e.1) o

    pub step_found : (es : List (Prefix × ℕ)) (number : ℕ) → Some number ≡ number_of around es → Some number ≡ number_over (over_below (n + 1) es)
    step_found es number is = by (first es) is ∙ sym (ap number_over (over_step es))
      where
        by : (f : Option (Prefix × ℕ)) → Some number ≡ option_map (λ (e : Prefix × ℕ). e.1) f → Some number ≡ number_over (or_shorter f (over_below n es))
        by None wrong = absurd cc
        by (Some f) same = same

    pub step_none : (es : List (Prefix × ℕ)) → None ≡ number_of around es → over_below (n + 1) es ≡ over_below n es
    step_none es is = over_step es ∙ by (first es) is
      where
        by : (f : Option (Prefix × ℕ)) → None ≡ option_map (λ (e : Prefix × ℕ). e.1) f → or_shorter f (over_below n es) ≡ over_below n es
        by None same = refl
        by (Some f) wrong = absurd cc
