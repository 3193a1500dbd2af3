-- Reading a canonical map by its raw entries: a deny that lies on the packet decides, and else an allow.
use Rattle.std.proofs.Common.{◌≡◌, ℕ, Bool, true, false, not, if◌then◌else◌, ◌&&◌, ◌||◌, ◌==◌, List, [], ◌∷◌, Option, Some, None, MatchOption, refl, sym, ◌∙◌, ap, subst, ◌⊎◌, inl, inr}
use Rattle.std.proofs.lemmas.Bool.{and_parts, and_from, cases_Bool, both_ways, eqb-true, eq-eqb, false_from_ne_true, or_from, not_from_false, not-true}
use Rattle.std.specs.List.{Contains, list_any}
use Rattle.pol_data.proofs.Members.{Contains-here, Contains-later, Contains-cases}
use Rattle.pol_ports.specs.declared.Direction.{Direction}
use Rattle.pol_ports.specs.declared.Proto.{Proto}
use Rattle.pol_mapkey.specs.MapKey.{covers, covers_packet, strictly_covers, same_key}
use Rattle.pol_mapkey.specs.Entries.{Entry, reaches, is_deny, denies, allows, longest, read_map}
use Rattle.pol_mapkey.specs.declared.Kind.{Kind}
use Rattle.pol_mapkey.specs.declared.Kind.TheVariants.{Deny}
use Rattle.pol_mapkey.specs.declared.MapKey.{MapKey}
use Rattle.pol_mapkey.specs.declared.Word.{Word}
use Rattle.pol_mapkey.specs.declared.Word.TheVariants.{Allowed, DeniedByRule, DeniedByDefault}
use Rattle.pol_mapkey.proofs.Equality.{same_key-is, same_key-self}
use Rattle.pol_mapkey.proofs.Keys.{covers_is, covers-self, covers-both, covers-three, covers-packet, chain}
use Rattle.pol_mapkey.proofs.Longest.{NoneReaches, IsLongest, longest_gives, one_kind}
use Rattle.pol_model_laws.specs.MapFacts.{HasKey}
use Rattle.pol_model.specs.PolicyMap.{canonical}
use Rattle.pol_model_laws.proofs.Canonical.{deny_is, canonical_keys, canonical_denies, canonical_once, canonical_under_none}
use Rattle.pol_model_laws.proofs.Merged.{passing, any_from}

-- an element that passes, and leads all that pass
record Leads {X : Type 0} (q : X → Bool) (R : X → X → Type 0) (xs : List X) (x : X) : Type 0 where
  there : Contains xs x
  passes : q x ≡ true
  all : (y : X) → Contains xs y → q y ≡ true → R x y

-- where of each two that pass one leads the other, some element leads all
module _ {X : Type 0} (q : X → Bool) (R : X → X → Type 0) (self : (x : X) → R x x) (pair : (x y : X) → q x ≡ true → q y ≡ true → R x y ⊎ R y x)
    (through : (x y z : X) → R x y → R y z → R x z) where
  -- the first of two is the head
  leads_head : (x : X) (xs : List X) → q x ≡ true → ((y : X) → Contains xs y → q y ≡ true → R x y) → Leads q R (x ∷ xs) x
  leads_head x xs t all = record {
    there = Contains-here x xs;
    passes = t;
    all = λ y there u. elim (Contains-cases x xs y there) [ inl same ↦ subst (R x) same (self x) | inr later ↦ all y later u ];
  }

  leads_rest : (x z : X) (xs : List X) → (q x ≡ true → R z x) → Leads q R xs z → Leads q R (x ∷ xs) z
  leads_rest x z xs first rest = record {
    there = Contains-later x xs z rest.there;
    passes = rest.passes;
    all = λ y there u. elim (Contains-cases x xs y there) [
      | inl same ↦ subst (R z) same (first (ap q same ∙ u))
      | inr later ↦ rest.all y later u
    ];
  }

  leader : (xs : List X) → (list_any q xs ≡ false) ⊎ ((x : X) × Leads q R xs x)
  leader [] = inl refl
  leader (x ∷ xs) =
      elim (cases_Bool (q x)) [
        | inl t ↦ elim (leader xs) [
          | inl none ↦ inr (x, leads_head x xs t (λ y later u. absurd (both_ways (list_any q xs) none (any_from q xs y later u))))
          | inr some ↦ elim (pair x some.0 t some.1.passes) [
            | inl first ↦ inr (x, leads_head x xs t (λ y later u. through x some.0 y first (some.1.all y later u)))
            | inr first ↦ inr (some.0, leads_rest x some.0 xs (λ _. first) some.1)
          ]
        ]
        | inr f ↦ elim (leader xs) [
          | inl none ↦ inl (or_from (q x) (list_any q xs) f none)
          | inr some ↦ inr (some.0, leads_rest x some.0 xs (λ t. absurd (both_ways (q x) f t)) some.1)
        ]
      ]

module _ (dir : Direction) (id : ℕ) (proto : Proto) (port : ℕ) where
  -- whether some entry of a kind that passes has the identity and lies on the packet
  abbrev pub lies_on : (Kind → Bool) → List Entry → Bool
  lies_on kinds entries = list_any (λ e. kinds e.1 && reaches dir id proto port e) entries

  abbrev pub is_allow : Kind → Bool
  is_allow kind = not (is_deny kind)

  -- what covers a key that lies on the packet lies on it too
  wider_reaches : (a b : MapKey) → covers a b ≡ true → reaches dir id proto port (b, Deny) ≡ true → reaches dir id proto port (a, Deny) ≡ true
  wider_reaches a b over t =
      let both = and_parts (b.id == id) (covers_packet b dir proto port) t in
      and_from (a.id == id) (covers_packet a dir proto port) (eq-eqb a.id id ((covers_is a b over).1 ∙ eqb-true b.id id both.0))
      (covers-packet a b over dir proto port both.1)

  reaching_pair : (a b : Entry) → reaches dir id proto port a ≡ true → reaches dir id proto port b ≡ true → (covers a.0 b.0 ≡ true) ⊎ (covers b.0 a.0 ≡ true)
  reaching_pair a b s t =
      let x = and_parts (a.0.id == id) (covers_packet a.0 dir proto port) s in
      let y = and_parts (b.0.id == id) (covers_packet b.0 dir proto port) t in
      chain a.0 b.0 dir proto port (eqb-true a.0.id id x.0 ∙ sym (eqb-true b.0.id id y.0)) x.1 y.1

  strict_from : (a b : MapKey) → covers a b ≡ true → same_key a b ≡ false → strictly_covers a b ≡ true
  strict_from a b over differ = and_from (covers a b) (not (same_key a b)) over (not_from_false (same_key a b) differ)

  denying : Entry → Bool
  denying e = is_deny e.1 && reaches dir id proto port e

  abbrev Widest : List Entry → Entry → Type 0
  Widest = Leads denying (λ (a b : Entry). covers a.0 b.0 ≡ true)

  not_strictly : (a b : MapKey) → (covers a b ≡ true → a ≡ b) → strictly_covers a b ≡ false
  not_strictly a b same =
      false_from_ne_true (strictly_covers a b) (λ t.
      let both = and_parts (covers a b) (not (same_key a b)) t in
      both_ways (same_key a b) (not-true (same_key a b) both.1) (subst (λ k. same_key a k ≡ true) (same both.0) (same_key-self a)))

  module _ (raw : List Entry) where
    -- of the denies on the packet, one covers all others
    widest : (lies_on is_deny raw ≡ false) ⊎ ((e : Entry) × Widest raw e)
    unfolding denying
    widest =
        leader denying (λ (a b : Entry). covers a.0 b.0 ≡ true) (λ (a : Entry). covers-self a.0)
        (λ (a b : Entry) s t. reaching_pair a b (and_parts (is_deny a.1) _ s).1 (and_parts (is_deny b.1) _ t).1)
        (λ (a b c : Entry) s t. covers-three a.0 b.0 c.0 s t) raw

    abbrev Gives : Option Entry → Type 0
    Gives r = MatchOption r (NoneReaches (canonical raw) dir id proto port) (IsLongest (canonical raw) dir id proto port)

    -- a deny that decides is a raw deny
    deny_is_raw : (r : Option Entry) → Gives r → denies r ≡ true → lies_on is_deny raw ≡ true
    deny_is_raw None gives t = cc
    deny_is_raw (Some e) gives t =
        any_from (λ f. is_deny f.1 && reaches dir id proto port f) raw (e.0, Deny) ((canonical_denies raw e.0 e.1 gives.0).0 (deny_is e.1 t)) gives.1

    -- a raw key stays, where a deny that covers it is of that key
    key_stays : (key : MapKey) → HasKey raw key → ((deny : MapKey) → Contains raw (deny, Deny) → covers deny key ≡ true → deny ≡ key)
        → HasKey (canonical raw) key
    key_stays key has same = (canonical_keys raw key).1 (has, λ deny there. not_strictly deny key (same deny there))

    widest_stays : (w : Entry) → Widest raw w → Contains (canonical raw) (w.0, Deny)
    unfolding denying
    widest_stays w is =
        let passes = and_parts (is_deny w.1) (reaches dir id proto port w) is.passes in
        let there : Contains raw (w.0, Deny) = subst (Contains raw) (λ i. (w.0, deny_is w.1 passes.0 i)) is.there in
        let stays = key_stays w.0 (Deny, there) (λ deny has over.
        covers-both deny w.0 over (is.all (deny, Deny) has (wider_reaches deny w.0 over passes.1))) in
        subst (λ kind. Contains (canonical raw) (w.0, kind)) ((canonical_denies raw w.0 stays.0 stays.1).1 there) stays.1

    widest_decides : (w : Entry) → Widest raw w → (r : Option Entry) → Gives r → denies r ≡ true
    unfolding denying
    widest_decides w is None gives =
        let passes = and_parts (is_deny w.1) (reaches dir id proto port w) is.passes in
        absurd (both_ways (reaches dir id proto port w) (gives (w.0, Deny) (widest_stays w is)) passes.1)
    widest_decides w is (Some e) gives =
        let passes = and_parts (is_deny w.1) (reaches dir id proto port w) is.passes in
        let stays = widest_stays w is in
        let over : covers w.0 e.0 ≡ true = gives.2 (w.0, Deny) stays passes.1 in
        elim (cases_Bool (same_key w.0 e.0)) [
          | inl same ↦
              (let one = one_kind (canonical raw) (canonical_once raw) (w.0, Deny) e stays gives.0 (same_key-is w.0 e.0 same) in
              ap (λ (f : Entry). is_deny f.1) (sym one))
          | inr differ ↦
              absurd (both_ways (strictly_covers w.0 e.0) (canonical_under_none raw e.0 (e.1, gives.0) w.0 stays) (strict_from w.0 e.0 over differ))
        ]

    denies_is : denies (longest (canonical raw) dir id proto port) ≡ lies_on is_deny raw
    denies_is =
        elim widest [
          | inl none ↦
              false_from_ne_true (denies (longest (canonical raw) dir id proto port)) (λ t.
              both_ways (lies_on is_deny raw) none (deny_is_raw _ (longest_gives dir id proto port (canonical raw)) t)) ∙ sym none
          | inr some ↦
              (let decides = widest_decides some.0 some.1 _ (longest_gives dir id proto port (canonical raw)) in
              decides ∙ sym (deny_is_raw _ (longest_gives dir id proto port (canonical raw)) decides))
        ]

    no_deny : lies_on is_deny raw ≡ false → (deny : MapKey) → Contains raw (deny, Deny) → reaches dir id proto port (deny, Deny) ≡ true → ⊥
    no_deny none deny there on =
        both_ways (lies_on is_deny raw) none (any_from (λ f. is_deny f.1 && reaches dir id proto port f) raw (deny, Deny) there on)

    allow_is_raw : (r : Option Entry) → Gives r → allows r ≡ true → lies_on is_allow raw ≡ true
    allow_is_raw None gives t = cc
    allow_is_raw (Some e) gives t =
        let there = ((canonical_keys raw e.0).0 (e.1, gives.0)).0 in
        elim (cases_Bool (is_deny there.0)) [
          | inl deny ↦
              (let raw_deny = subst (λ kind. Contains raw (e.0, kind)) (deny_is there.0 deny) there.1 in
              absurd (both_ways (is_deny e.1) (not-true (is_deny e.1) t) (ap is_deny ((canonical_denies raw e.0 e.1 gives.0).1 raw_deny))))
          | inr allow ↦
              any_from (λ f. is_allow f.1 && reaches dir id proto port f) raw (e.0, there.0) there.1
              (and_from (is_allow there.0) (reaches dir id proto port e) (not_from_false (is_deny there.0) allow) gives.1)
        ]

    allow_decides : lies_on is_deny raw ≡ false → (a : Entry) → Contains raw a → reaches dir id proto port a ≡ true
        → (r : Option Entry) → Gives r → allows r ≡ true
    allow_decides none a has on None gives =
        let stays = key_stays a.0 (a.1, has) (λ deny there over. absurd (no_deny none deny there (wider_reaches deny a.0 over on))) in
        absurd (both_ways (reaches dir id proto port a) (gives (a.0, stays.0) stays.1) on)
    allow_decides none a has on (Some e) gives =
        not_from_false (is_deny e.1) (false_from_ne_true (is_deny e.1) (λ t.
        both_ways (lies_on is_deny raw) none (deny_is_raw (Some e) gives t)))

    allows_is : lies_on is_deny raw ≡ false → allows (longest (canonical raw) dir id proto port) ≡ lies_on is_allow raw
    allows_is none =
        elim (cases_Bool (lies_on is_allow raw)) [
          | inl t ↦
              (let one = passing (λ f. is_allow f.1 && reaches dir id proto port f) raw t in
              let on = (and_parts (is_allow one.0.1) (reaches dir id proto port one.0) one.2).1 in
              allow_decides none one.0 one.1 on _ (longest_gives dir id proto port (canonical raw)) ∙ sym t)
          | inr f ↦
              false_from_ne_true (allows (longest (canonical raw) dir id proto port)) (λ t.
              both_ways (lies_on is_allow raw) f (allow_is_raw _ (longest_gives dir id proto port (canonical raw)) t)) ∙ sym f
        ]

-- the word where a deny lies on the packet or not, and where an allow does or not
abbrev pub word_by : Bool → Bool → Word
word_by denied allowed = if denied then DeniedByRule else (if allowed then Allowed else DeniedByDefault)

words : (d d0 a a0 e e0 b b0 : Bool) → e ≡ d → e0 ≡ d0 → (d ≡ false → b ≡ a) → (d0 ≡ false → b0 ≡ a0)
    → word_by (e || e0) (b || b0) ≡ word_by (d || d0) (a || a0)
words true d0 a a0 e e0 b b0 same same0 else' else0 = ap (λ x. word_by (x || e0) (b || b0)) same
words false true a a0 e e0 b b0 same same0 else' else0 = λ i. word_by (same i || same0 i) (b || b0)
words false false a a0 e e0 b b0 same same0 else' else0 = λ i. word_by (same i || same0 i) (else' refl i || else0 refl i)

-- what a canonical map says, by its raw entries
pub read_canonical : (raw : List Entry) (dir : Direction) (id : ℕ) (proto : Proto) (port : ℕ) → read_map (canonical raw) dir id proto port
    ≡ word_by (lies_on dir id proto port is_deny raw || lies_on dir 0 proto port is_deny raw)
    (lies_on dir id proto port (λ kind. not (is_deny kind)) raw || lies_on dir 0 proto port (λ kind. not (is_deny kind)) raw)
unfolding read_map
read_canonical raw dir id proto port =
    words _ _ _ _ _ _ _ _ (denies_is dir id proto port raw) (denies_is dir 0 proto port raw) (allows_is dir id proto port raw) (allows_is dir 0 proto port raw)
