-- What is shut changes only where a range begins or has just ended.
use Rattle.std.proofs.Common.{◌≡◌, ◌↔◌, ℕ, ◌+◌, ◌<◌, ◌≤◌, ◌&&◌, nat_le, nat_lt, Bool, true, false, cond, List, [], ◌∷◌, ◌++◌, None, Some, IfOk, Result, Ok, Err, refl, sym, ap, subst, ◌∙◌, inl, inr, arith}
use Rattle.std.specs.List.{Contains, flat_map}
use Rattle.std.specs.List.Sorted.{IsStrictlySortedBy}
use Rattle.std.specs.Ordering.{nat_cmp}
use Rattle.std.proofs.lemmas.Bool.{and_from, and_parts, cases_lt, le-leb, leb-true, lt-ltb}
use Rattle.std.proofs.lemmas.List.Elements.{Contains-append_left, Contains-append_right}
use Rattle.pol_data.proofs.Members.{Contains-cases, Contains-here, Contains-later}
use Rattle.pol_audit.specs.declared.difference.Difference.{Difference}
use Rattle.pol_audit.proofs.Steady.{above_head, begins_with_0, tail_ascends}
use Rattle.pol_port_ranges.specs.declared.said.PortSaid.{PortSaid}
use Rattle.pol_port_ranges.specs.Walk.{IsSteady}
use Rattle.pol_shut_ports.specs.Pairs.{changed_at, ends_of, open_at}
use Rattle.pol_shut_ports.specs.Shut.{shuts, word_in}

pub if_ok : {T E : Type 0} (r : Result T E) (P Q : T → Type 0) → IfOk r P → ((x : T) → P x → Q x) → IfOk r Q
if_ok (Ok v) P Q p f = f v p
if_ok (Err e) P Q p f = tt

agree : (p q : Bool) → (p ≡ true → q ≡ true) → (q ≡ true → p ≡ true) → p ≡ q
agree true q to back = sym (to refl)
agree false true to back = back refl
agree false false to back = refl

-- ---- two ports between which nothing begins or ends
module _ (a b : ℕ) (less : a < b) (small : b < 65536) where
  begin_in : (d : Difference) → Contains (ends_of d) d.first
  begin_in d = Contains-here d.first (cond (nat_lt d.last 65535) ((d.last + 1) ∷ []) [])

  end_in : (d : Difference) → d.last < 65535 → Contains (ends_of d) (d.last + 1)
  end_in d below =
      let at : Bool → Type 0 = λ c. Contains (d.first ∷ cond c ((d.last + 1) ∷ []) []) (d.last + 1) in
      subst at (sym (lt-ltb d.last 65535 below)) (Contains-later d.first ((d.last + 1) ∷ []) (d.last + 1) (Contains-here (d.last + 1) []))

  shuts_agree : (d : Difference) → ((n : ℕ) → a < n → n ≤ b → Contains (ends_of d) n → ⊥) → shuts d b ≡ shuts d a
  shuts_agree d none =
      agree (shuts d b) (shuts d a)
      (λ t.
      let both = and_parts (nat_le d.first b) (nat_le b d.last) t in
      let low : d.first ≤ b = leb-true d.first b both.0 in
      let high : b ≤ d.last = leb-true b d.last both.1 in
      and_from (nat_le d.first a) (nat_le a d.last)
      (le-leb d.first a (elim (cases_lt a d.first) [ inl above ↦ absurd (none d.first above low (begin_in d)) | inr below ↦ below ]))
      (le-leb a d.last (omega (arith, less, high))))
      (λ t.
      let both = and_parts (nat_le d.first a) (nat_le a d.last) t in
      let low : d.first ≤ a = leb-true d.first a both.0 in
      let high : a ≤ d.last = leb-true a d.last both.1 in
      and_from (nat_le d.first b) (nat_le b d.last)
      (le-leb d.first b (omega (arith, less, low)))
      (le-leb b d.last (elim (cases_lt d.last b) [ inl above ↦ absurd (none (d.last + 1) (omega (arith, high)) (omega (arith, above)) (end_in d (omega (arith, above, small)))) | inr below ↦ below ])))

  pub word_agree : (ds : List Difference) → ((n : ℕ) → a < n → n ≤ b → Contains (flat_map ends_of ds) n → ⊥) → word_in ds b ≡ word_in ds a
  word_agree [] none = refl
  word_agree (d ∷ ds) none =
      let one = shuts_agree d (λ n low high there. none n low high (Contains-append_left (ends_of d) (flat_map ends_of ds) n there)) in
      let rest = word_agree ds (λ n low high there. none n low high (Contains-append_right (ends_of d) (flat_map ends_of ds) n there)) in
      λ i. cond (one i) d.right (rest i)

  abbrev cut : List Difference → List ℕ
  cut ds = flat_map ends_of ds

  pub open_agree : (xs ys : List Difference) → ((n : ℕ) → a < n → n ≤ b → Contains (cut xs ++ cut ys) n → ⊥) → open_at xs ys b ≡ open_at xs ys a
  open_agree xs ys none =
      let one = word_agree xs (λ n low high there. none n low high (Contains-append_left (cut xs) (cut ys) n there)) in
      let two = word_agree ys (λ n low high there. none n low high (Contains-append_right (cut xs) (cut ys) n there)) in
      λ i. record { before = None; after = record { sent = one i; received = two i }; halves = false }

  pub changed_agree : (halves : Bool) (xs ys zs ws : List Difference) → ((n : ℕ) → a < n → n ≤ b → Contains (((cut xs ++ cut ys) ++ cut zs) ++ cut ws) n → ⊥)
      → changed_at halves xs ys zs ws b ≡ changed_at halves xs ys zs ws a
  changed_agree halves xs ys zs ws none =
      let three = λ (n : ℕ) (low : a < n) (high : n ≤ b) (there : Contains ((cut xs ++ cut ys) ++ cut zs) n). none n low high (Contains-append_left ((cut xs ++ cut ys) ++ cut zs) (cut ws) n there) in
      let two = λ (n : ℕ) (low : a < n) (high : n ≤ b) (there : Contains (cut xs ++ cut ys) n). three n low high (Contains-append_left (cut xs ++ cut ys) (cut zs) n there) in
      let x = word_agree xs (λ n low high there. two n low high (Contains-append_left (cut xs) (cut ys) n there)) in
      let y = word_agree ys (λ n low high there. two n low high (Contains-append_right (cut xs) (cut ys) n there)) in
      let z = word_agree zs (λ n low high there. three n low high (Contains-append_right (cut xs ++ cut ys) (cut zs) n there)) in
      let w = word_agree ws (λ n low high there. none n low high (Contains-append_right ((cut xs ++ cut ys) ++ cut zs) (cut ws) n there)) in
      λ i. record { before = Some (record { sent = x i; received = y i }); after = record { sent = z i; received = w i }; halves = halves }

-- ---- from port to port
module _ (f : ℕ → PortSaid) (cuts : List ℕ) (small : (n : ℕ) → Contains cuts n → n < 65536)
    (same : (a b : ℕ) → a < b → b < 65536 → ((n : ℕ) → a < n → n ≤ b → Contains cuts n → ⊥) → f b ≡ f a) where
  steady : (here : ℕ) (cs : List ℕ) → here < 65536 → IsStrictlySortedBy nat_cmp (here ∷ cs) → ((n : ℕ) → here < n → Contains cuts n → Contains cs n)
      → ((n : ℕ) → Contains cs n → Contains cuts n) → IsSteady f here cs
  steady here [] low up all from = (
    low,
    λ port from_here high. elim (cases_lt here port) [
      | inl above ↦ same here port above high (λ n less le there. let none = all n less there in absurd (let below = none.1 in omega arith))
      | inr below ↦ ap f (let e : port ≡ here = omega arith in e)
    ],
  )
  steady here (c ∷ cs) low up all from =
      let next : c < 65536 = small c (from c (Contains-here c cs)) in (
        above_head here (c ∷ cs) up c (Contains-here c cs),
        λ port from_here high. elim (cases_lt here port) [
          | inl above ↦ same here port above (omega arith) (λ n less le there. elim (Contains-cases c cs n (all n less there)) [
            | inl is ↦ omega (arith, is)
            | inr later ↦ (let far = above_head c cs (tail_ascends here (c ∷ cs) up) n later in omega arith)
          ])
          | inr below ↦ ap f (let e : port ≡ here = omega arith in e)
        ],
        steady c cs next (tail_ascends here (c ∷ cs) up)
            (λ n less there. elim (Contains-cases c cs n (all n (let above = above_head here (c ∷ cs) up c (Contains-here c cs) in omega arith) there)) [
              | inl is ↦ absurd (omega (arith, is))
              | inr later ↦ later
            ])
            (λ n there. from n (Contains-later c cs n there)),
      )

  -- from port 0 on, where these are 0 and the cuts, in order
  pub from_0 : (ports : List ℕ) → IsStrictlySortedBy nat_cmp ports → ((n : ℕ) → Contains ports n ↔ Contains (0 ∷ cuts) n)
      → (rest : List ℕ) × (ports ≡ 0 ∷ rest) × IsSteady f 0 rest
  from_0 ports up are =
      let start = begins_with_0 ports up ((are 0).1 (Contains-here 0 cuts)) in
      let sorted = subst (IsStrictlySortedBy nat_cmp) start.1 up in (
        start.0,
        start.1,
        steady 0 start.0 (omega arith) sorted
            (λ n above there. elim (Contains-cases 0 start.0 n (subst (λ ps. Contains ps n) start.1 ((are n).1 (Contains-later 0 cuts n there)))) [
              | inl is ↦ absurd (omega (arith, is))
              | inr later ↦ later
            ])
            (λ n there. elim (Contains-cases 0 cuts n ((are n).0 (subst (λ ps. Contains ps n) (sym start.1) (Contains-later 0 start.0 n there)))) [
              | inl is ↦ absurd (let above = above_head 0 start.0 sorted n there in omega (arith, is))
              | inr later ↦ later
            ]),
      )
