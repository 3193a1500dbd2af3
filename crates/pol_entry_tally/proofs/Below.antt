-- Whether a number below another passes.
use Rattle.std.proofs.Common.{◌≡◌, ℕ, zero, suc, ◌+◌, ◌<◌, ◌||◌, Bool, true, false, None, Some, refl, sym, ◌∙◌, ap, subst, inl, inr, arith}
use Rattle.std.proofs.lemmas.Bool.{cases_lt, or_from, or_left, or_right}
use Rattle.pol_ports.specs.PortPrefix.{prefix_at}
use Rattle.pol_ports.specs.declared.Proto.{Proto}
use Rattle.pol_mapkey.specs.MapKey.{every_key, port_key}
use Rattle.pol_mapkey.specs.declared.Kind.TheVariants.{Deny}
use Rattle.pol_mapkey.specs.declared.MapKey.{MapKey}
use Rattle.pol_entry_tally.specs.Times.{Times, any_below, is_given, is_under, is_under_of, packets_of}

-- one length more
pub one_more_below : (test : ℕ → Bool) (n : ℕ) (own old new : Bool) → own ≡ test n → old ≡ any_below test n → new ≡ (own || old) → new ≡ any_below test (n + 1)
one_more_below test n own old new here before made =
    let next : suc n ≡ n + 1 = omega arith in
    subst (λ m. new ≡ any_below test m) next (made ∙ (λ i. here i || before i))

-- the ports of a protocol, and then every port
pub under_made : (given : Times) (key : MapKey) (proto : Proto) (ports every new : Bool) → packets_of key.proto ≡ Some proto
    → ports ≡ any_below (λ len. is_given given Deny (port_key key.dir key.id proto (prefix_at key.port.bits len))) key.port.len
    → every ≡ is_given given Deny (every_key key.dir key.id) → new ≡ (ports || every) → new ≡ is_under given key
under_made given key proto ports every new is tried own made = made ∙ (λ i. tried i || own i) ∙ sym (ap (is_under_of given key) is)

pub under_none : (given : Times) (key : MapKey) → packets_of key.proto ≡ None → false ≡ is_under given key
under_none given key is = sym (ap (is_under_of given key) is)

pub none_below : (test : ℕ → Bool) (n : ℕ) → ((m : ℕ) → m < n → test m ≡ false) → any_below test n ≡ false
none_below test zero none = refl
none_below test (suc n) none = or_from (test n) (any_below test n) (none n (omega arith)) (none_below test n (λ m below. none m (omega (arith, below))))

pub some_below : (test : ℕ → Bool) (n m : ℕ) → m < n → test m ≡ true → any_below test n ≡ true
some_below test zero m below t = absurd (omega (arith, below))
some_below test (suc n) m below t =
    elim (cases_lt m n) [
      | inl less ↦ or_right (test n) (any_below test n) (some_below test n m less t)
      | inr more ↦ or_left (test n) (any_below test n) (let same : m ≡ n = omega (arith, below, more) in subst (λ x. test x ≡ true) same t)
    ]

-- which one it is
pub below_some : (test : ℕ → Bool) (n : ℕ) → any_below test n ≡ true → (m : ℕ) × (m < n) × (test m ≡ true)
below_some test zero t = absurd (let wrong : ⊥ = cc in wrong)
below_some test (suc n) t = by (test n) refl t (below_some test n)
  where
    by : (b : Bool) → test n ≡ b → (b || any_below test n) ≡ true → (any_below test n ≡ true → (m : ℕ) × (m < n) × (test m ≡ true)) → (m : ℕ) × (m < suc n) × (test m ≡ true)
    by true is t rest = (n, omega arith, is)
    by false is t rest = let less = rest t in (less.0, omega (arith, less.1), less.2)
