-- What the longest prefix around an address is, among rows of identities.
use Rattle.std.proofs.Common.{◌≡◌, ℕ, ◌≤◌, true, false, List, [], ◌∷◌, nat_le, Option, None, Some, option_map, inl, inr, refl, sym, ap, ◌∙◌, subst, arith, MatchOption}
use Rattle.std.specs.List.{cons_option}
use Rattle.std.proofs.lemmas.Bool.{both_ways, cases_Bool, leb-true, leb-false}
use Rattle.pol_addr.specs.declared.address.Addr.{Addr}
use Rattle.pol_addr.specs.declared.network.Prefix.{Prefix}
use Rattle.pol_addr.specs.Prefix.{contains}
use Rattle.pol_addr.specs.Longest.{longer, longest_of}
use Rattle.pol_model.specs.Remote.{numbered_prefixes}
use Rattle.pol_model.specs.declared.row.IdentityRow.{IdentityRow}
use Rattle.pol_data.proofs.Members.{In}

-- ---- the longest of a list of prefixes

module _ (address : Addr) where
  -- the entry is of the list and contains the address, and none that does is longer
  pub record IsLongest (es : List (Prefix × ℕ)) (best : Prefix × ℕ) : Type 0 where
    pub there : In best es
    pub inside : contains best.0 address ≡ true
    pub most : (e : Prefix × ℕ) → In e es → contains e.0 address ≡ true → e.0.len ≤ best.0.len

  abbrev NoneInside : List (Prefix × ℕ) → Type 0
  NoneInside es = (e : Prefix × ℕ) → In e es → contains e.0 address ≡ false

  abbrev Scanned : List (Prefix × ℕ) → Option (Prefix × ℕ) → Type 0
  Scanned es found = MatchOption found (NoneInside es) (IsLongest es)

  passed : (e : Prefix × ℕ) (es : List (Prefix × ℕ)) (found : Option (Prefix × ℕ)) → contains e.0 address ≡ false → Scanned es found → Scanned (e ∷ es) found
  passed e es None outside none = λ f there. elim there [ inl same ↦ ap (λ x. contains x.0 address) (sym same) ∙ outside | inr later ↦ none f later ]
  passed e es (Some best) outside it = record {
    there = inr it.there;
    inside = it.inside;
    most = λ f there inside. elim there [
      | inl same ↦ absurd (both_ways (contains e.0 address) outside (ap (λ x. contains x.0 address) same ∙ inside))
      | inr later ↦ it.most f later inside
    ];
  }

  first : (e : Prefix × ℕ) (es : List (Prefix × ℕ)) → contains e.0 address ≡ true → ((f : Prefix × ℕ) → In f es → contains f.0 address ≡ true → f.0.len ≤ e.0.len) → IsLongest (e ∷ es) e
  first e es inside most = record {
    there = inl refl;
    inside = inside;
    most = λ f there within. elim there [ inl same ↦ omega (arith, ap (λ (x : Prefix × ℕ). x.0.len) same) | inr later ↦ most f later within ];
  }

  taken : (e : Prefix × ℕ) (es : List (Prefix × ℕ)) (found : Option (Prefix × ℕ)) → contains e.0 address ≡ true → Scanned es found → Scanned (e ∷ es) (longer e found)
  taken e es None inside none = first e es inside (λ f there within. absurd (both_ways (contains f.0 address) (none f there) within))
  taken e es (Some best) inside it =
      elim (cases_Bool (nat_le best.0.len e.0.len)) [
        | inl shorter ↦ rw shorter (first e es inside (λ f there within. omega (arith, it.most f there within, leb-true best.0.len e.0.len shorter)))
        | inr longer_one ↦ rw longer_one (record {
          there = inr it.there;
          inside = it.inside;
          most = λ f there within. elim there [
            | inl same ↦ omega (arith, ap (λ (x : Prefix × ℕ). x.0.len) same, leb-false best.0.len e.0.len longer_one)
            | inr later ↦ it.most f later within
          ];
        })
      ]

  scanned : (es : List (Prefix × ℕ)) → Scanned es (longest_of address es)
  scanned [] = λ e there. elim there [ ]
  scanned (e ∷ es) =
      elim (cases_Bool (contains e.0 address)) [
        | inl inside ↦ rw inside (taken e es (longest_of address es) inside (scanned es))
        | inr outside ↦ rw outside (passed e es (longest_of address es) outside (scanned es))
      ]

  pub longest_is : (es : List (Prefix × ℕ)) (best : Prefix × ℕ) → longest_of address es ≡ Some best → IsLongest es best
  longest_is es best is = subst (Scanned es) is (scanned es)

  pub longest_none : (es : List (Prefix × ℕ)) → longest_of address es ≡ None → (e : Prefix × ℕ) → In e es → contains e.0 address ≡ false
  longest_none es is = subst (Scanned es) is (scanned es)

-- ---- the prefixes of rows

in_cons : {Y : Type 0} (y : Y) (o : Option Y) (rest : List Y) → In y rest → In y (cons_option o rest)
in_cons y None rest there = there
in_cons y (Some z) rest there = inr there

first_cons : {Y : Type 0} (y : Y) (o : Option Y) (rest : List Y) → o ≡ Some y → In y (cons_option o rest)
first_cons y o rest is = subst (λ other. In y (cons_option other rest)) (sym is) (inl refl)

-- a row's prefix, with the row's number
abbrev numbered : IdentityRow → Option Prefix → Option (Prefix × ℕ)
numbered row own = option_map (λ prefix. (prefix, row.number)) own

pub prefix_listed : (row : IdentityRow) (prefix : Prefix) (rows : List IdentityRow) → In row rows → row.prefix ≡ Some prefix → In (prefix, row.number) (numbered_prefixes rows)
prefix_listed row prefix [] there own = elim there [ ]
prefix_listed row prefix (top ∷ others) (inl same) own =
    first_cons (prefix, row.number) (numbered top top.prefix) (numbered_prefixes others) (ap (λ r. numbered r r.prefix) same ∙ ap (numbered row) own)
prefix_listed row prefix (top ∷ others) (inr later) own =
    in_cons (prefix, row.number) (numbered top top.prefix) (numbered_prefixes others) (prefix_listed row prefix others later own)

-- the row that gives an entry
pub record GivesEntry (rows : List IdentityRow) (e : Prefix × ℕ) : Type 0 where
  pub row : IdentityRow
  pub there : In row rows
  pub prefix : row.prefix ≡ Some e.0
  pub number : row.number ≡ e.1

later_gives : (top : IdentityRow) (others : List IdentityRow) (e : Prefix × ℕ) → GivesEntry others e → GivesEntry (top ∷ others) e
later_gives top others e it = record { row = it.row; there = inr it.there; prefix = it.prefix; number = it.number }

pub listed_prefix : (rows : List IdentityRow) (e : Prefix × ℕ) → In e (numbered_prefixes rows) → GivesEntry rows e
listed_prefix [] e there = elim there [ ]
listed_prefix (top ∷ others) e there = cases top.prefix refl there (listed_prefix others e)
  where
    cases : (own : Option Prefix) → top.prefix ≡ own → In e (cons_option (numbered top own) (numbered_prefixes others))
        → (In e (numbered_prefixes others) → GivesEntry others e) → GivesEntry (top ∷ others) e
    cases None is within later = later_gives top others e (later within)
    cases (Some prefix) is (inl same) later = record { row = top; there = inl refl; prefix = is ∙ ap (λ (x : Prefix × ℕ). Some x.0) same; number = ap (λ (x : Prefix × ℕ). x.1) same }
    cases (Some prefix) is (inr within) later = later_gives top others e (later within)
