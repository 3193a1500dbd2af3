-- Whether a key lies under a deny, by the counts of its group.
use Rattle.std.proofs.Common.{◌≡◌, ℕ, ◌<◌, ◌≤◌, Bool, true, false, cond, ◌||◌, nat_lt, List, [], ◌∷◌, Option, None, Some, slice_get, refl, sym, ◌∙◌, ap, arith}
use Rattle.std.proofs.lemmas.Bool.{or_from}
use Rattle.std.proofs.lemmas.Option.{same_Some}
use Rattle.pol_ports.specs.PortPrefix.{prefix_at}
use Rattle.pol_ports.specs.declared.Proto.{Proto}
use Rattle.pol_mapkey.specs.MapKey.{every_key, port_key}
use Rattle.pol_mapkey.specs.declared.Kind.TheVariants.{Allow, Deny}
use Rattle.pol_mapkey.specs.declared.Kind.{Kind}
use Rattle.pol_mapkey.specs.declared.MapKey.{MapKey}
use Rattle.pol_entry_tally.specs.declared.counts.Count.{Count}
use Rattle.pol_entry_tally.specs.Numbers.{fits, place_of}
use Rattle.pol_entry_tally.specs.Counts.{Ascend, held, times_at}
use Rattle.pol_entry_tally.specs.Times.{Times, any_below, is_given, is_under, is_under_of, kind_by, kind_of, packets_of}
use Rattle.pol_entry_tally.proofs.AtPlaces.{above_first, above_weaker, none_at}
use Rattle.pol_entry_tally.proofs.Below.{none_below}
use Rattle.pol_entry_tally.proofs.ByNumber.{local_small}

-- how often the key is given, by the count at its place
pub held_at : (counts : List Count) (key : MapKey) (kind : Kind) (n : ℕ) → fits key ≡ true → n ≡ times_at counts (place_of key kind) → nat_lt 0 n ≡ is_given (held counts) kind key
held_at counts key kind n fit is = ap (nat_lt 0) (is ∙ sym (ap (λ b. cond b (times_at counts (place_of key kind)) 0) fit))

-- ---- where nothing is denied
held_none : (counts : List Count) (q : MapKey) (kind : Kind) → (fits q ≡ true → times_at counts (place_of q kind) ≡ 0) → held counts q kind ≡ 0
held_none counts q kind none = by (fits q) refl
  where
    by : (b : Bool) → fits q ≡ b → cond b (times_at counts (place_of q kind)) 0 ≡ 0
    by true fit = none fit
    by false out = refl

no_deny : (c : Count) (cs : List Count) → Ascend (c ∷ cs) → 8388608 ≤ c.place → (q : MapKey) → held (c ∷ cs) q Deny ≡ 0
no_deny c cs up high q =
    held_none (c ∷ cs) q Deny (λ fit.
    let small = local_small q fit in
    let less : place_of q Deny < c.place = omega (arith, small, high) in
    none_at (place_of q Deny) (c ∷ cs) (less, above_weaker (place_of q Deny) c.place cs (omega (arith, less)) (above_first c cs up)))

pub first_allows : (counts : List Count) (c : Count) → slice_get counts 0 ≡ Some c → Ascend counts → 8388608 ≤ c.place → (q : MapKey) → held counts q Deny ≡ 0
first_allows [] c is up high q = absurd (let wrong : ⊥ = cc in wrong)
first_allows (d ∷ ds) c is up high q =
    let same : d.place ≡ c.place = ap (λ (x : Count). x.place) (same_Some d c is) in
    no_deny d ds up (omega (arith, same, high)) q

pub none_held : (counts : List Count) → slice_get counts 0 ≡ None → (q : MapKey) → held counts q Deny ≡ 0
none_held [] is q = held_none [] q Deny (λ fit. refl)
none_held (c ∷ cs) is q = absurd (let wrong : ⊥ = cc in wrong)

module _ (given : Times) (none : (q : MapKey) → given q Deny ≡ 0) where
  not_given : (q : MapKey) → is_given given Deny q ≡ false
  not_given q = ap (nat_lt 0) (none q)

  pub not_under : (key : MapKey) → is_under given key ≡ false
  not_under key = by (packets_of key.proto)
    where
      by : (proto : Option Proto) → is_under_of given key proto ≡ false
      by None = refl
      by (Some proto) =
          or_from _ _ (none_below (λ len. is_given given Deny (port_key key.dir key.id proto (prefix_at key.port.bits len))) key.port.len (λ m below. not_given _))
          (not_given (every_key key.dir key.id))

-- ---- by the denies of its own direction and identity alone
any_same : (one other : ℕ → Bool) (n : ℕ) → ((m : ℕ) → one m ≡ other m) → any_below one n ≡ any_below other n
any_same one other n same = ap (λ test. any_below test n) (λ i m. same m i)

module _ (one other : Times) (key : MapKey) where
  pub under_alike : ((w : MapKey) → w.dir ≡ key.dir → w.id ≡ key.id → is_given one Deny w ≡ is_given other Deny w) → is_under one key ≡ is_under other key
  under_alike same = by (packets_of key.proto)
    where
      by : (proto : Option Proto) → is_under_of one key proto ≡ is_under_of other key proto
      by None = refl
      by (Some proto) =
          let ports = any_same (λ len. is_given one Deny (port_key key.dir key.id proto (prefix_at key.port.bits len))) (λ len. is_given other Deny (port_key key.dir key.id proto (prefix_at key.port.bits len))) key.port.len
          (λ m. same (port_key key.dir key.id proto (prefix_at key.port.bits m)) refl refl) in
          let every = same (every_key key.dir key.id) refl refl in
          λ i. ports i || every i

  -- what the map says of a key
  pub kind_alike : ((w : MapKey) (k : Kind) → w.dir ≡ key.dir → w.id ≡ key.id → one w k ≡ other w k) → kind_of one key ≡ kind_of other key
  kind_alike same =
      let under = under_alike (λ w dirs ids. ap (nat_lt 0) (same w Deny dirs ids)) in
      λ i. kind_by (under i) (nat_lt 0 (same key Deny refl refl i)) (nat_lt 0 (same key Allow refl refl i))
