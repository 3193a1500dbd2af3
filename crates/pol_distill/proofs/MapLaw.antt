-- The law of the map.
use Rattle.std.proofs.Common.{◌≡◌, ℕ, ◌<◌, ◌^◌, Bool, true, false, not, cond, ◌&&◌, ◌||◌, ◌==◌, List, [], ◌∷◌, refl, sym, ◌∙◌, ap, inl, inr, arith}
use Rattle.std.proofs.lemmas.Bool.{cond-true, cond-false, cases_eq, eq-eqb, or_left, or_right, or_from, ne_eqb}
use Rattle.std.proofs.lemmas.List.Elements.{recursion_from_All}
use Rattle.std.specs.List.{All, AllByRecursion, list_any, flat_map, filter}
use Rattle.pol_ports.specs.declared.Direction.{Direction}
use Rattle.pol_ports.specs.declared.Proto.{Proto}
use Rattle.pol_mapkey.specs.MapKey.{covers_packet}
use Rattle.pol_mapkey.specs.Entries.{Entry as MapEntry, is_deny, reaches, read_map}
use Rattle.pol_mapkey.specs.declared.Kind.{Kind}
use Rattle.pol_mapkey.specs.declared.Word.TheVariants.{Allowed}
use Rattle.pol_rule.specs.Covers.{section_of, entry_covers}
use Rattle.pol_rule.specs.declared.policy.Peer.{Peer}
use Rattle.pol_rule.specs.declared.policy.Section.{Section}
use Rattle.pol_model.specs.Enforced.{allow_section, deny_section, rule_selects, has_rule, enforced}
use Rattle.pol_model.specs.PolicyMap.{MapParts, peer_numbers, raw_entries, canonical, selecting_rules, map_parts, policy_map}
use Rattle.pol_model.specs.Selects.{is_all, selects_row, set_at, selects_number}
use Rattle.pol_model.specs.State.{State}
use Rattle.pol_model.specs.Verdict.{rule_covers, some_covers, is_never, is_ingress, verdict_of}
use Rattle.pol_model.specs.declared.options.Options.{Options}
use Rattle.pol_model.specs.declared.row.Endpoint.{Endpoint}
use Rattle.pol_model.specs.declared.row.IdentityRow.{IdentityRow}
use Rattle.pol_model.specs.declared.row.Stamped.{Stamped}
use Rattle.pol_distill.proofs.AnyLemmas.{any_agree, any_flat_map, any_filter, any_map, any_or}
use Rattle.pol_distill.proofs.Canon.{lies_on, word_by, read_canonical}
use Rattle.pol_distill.proofs.Raw.{and_true, and_false, raw_denies, raw_allows, never_lies}

-- the numbers whose entries are read for a number
abbrev is_read : ℕ → ℕ → Bool
is_read number id = (id == number) || (id == 0)

zero_is_read : (number : ℕ) → is_read number 0 ≡ true
zero_is_read number = or_right (0 == number) true refl

-- the entries of a selecting rule that cover the packet are found by either scan
scanned : (policies : List Stamped) (endpoint : Endpoint) (section : Section) (takes : Peer → Bool) (proto : Proto) (port : ℕ)
    → list_any (entry_covers takes proto port) (flat_map (section_of section) (selecting_rules policies endpoint))
    ≡ some_covers policies endpoint section takes proto port
unfolding has_rule rule_covers
scanned policies endpoint section takes proto port =
    any_flat_map (entry_covers takes proto port) (section_of section) (selecting_rules policies endpoint)
    ∙ any_filter (λ rule. list_any (entry_covers takes proto port) (section_of section rule)) (rule_selects endpoint)
    (flat_map (λ stamped. stamped.policy.rules) policies)
    ∙ any_flat_map (λ rule. rule_selects endpoint rule && list_any (entry_covers takes proto port) (section_of section rule))
    (λ stamped. stamped.policy.rules) policies

-- a peer's numbers have the number, or 0, exactly where the peer selects the number
row_read : (number : ℕ) (p : Peer) (rows : List IdentityRow) → AllByRecursion (λ (row : IdentityRow). 0 < row.number) rows
    → list_any (λ row. selects_row p row && is_read number row.number) rows ≡ list_any (λ row. (row.number == number) && selects_row p row) rows
row_read number p [] all = refl
row_read number p (row ∷ rows) all =
    let other : (row.number == 0) ≡ false = ne_eqb row.number 0 (λ e. omega (arith, all.0)) in
    λ i. one_row (selects_row p row) (row.number == number) (row.number == 0) other i || row_read number p rows all.1 i
  where
    one_row : (s a z : Bool) → z ≡ false → (s && (a || z)) ≡ (a && s)
    one_row s true z none = and_true s
    one_row true false z none = none
    one_row false false z none = refl

set_read : (number : ℕ) (p : Peer) (rows : List IdentityRow) → All (λ (row : IdentityRow). 0 < row.number) rows
    → list_any (is_read number) (peer_numbers (set_at rows) p) ≡ selects_number rows number p
set_read number p rows positive = by_all (is_all p)
  where
    by_all : (b : Bool) → list_any (is_read number) (cond b (0 ∷ []) (set_at rows p))
        ≡ (b || list_any (λ row. (row.number == number) && selects_row p row) rows)
    by_all true = or_left (is_read number 0) false (zero_is_read number)
    by_all false =
        any_map (is_read number) (λ row. row.number) (filter (selects_row p) rows)
        ∙ any_filter (λ row. is_read number row.number) (selects_row p) rows
        ∙ row_read number p rows (recursion_from_All (λ (row : IdentityRow). 0 < row.number) rows positive)

either_reaches : (k a b c : Bool) → (k && (a && c) || k && (b && c)) ≡ (k && ((a || b) && c))
either_reaches false a b c = refl
either_reaches true true true true = refl
either_reaches true true true false = refl
either_reaches true true false true = refl
either_reaches true true false false = refl
either_reaches true false b c = refl

-- the local host's number is 1
host_read : (number : ℕ) → is_read number 1 ≡ (number == 1)
host_read number =
    elim (cases_eq number 1) [
      | inl same ↦ or_left (1 == number) false (eq-eqb 1 number (sym same)) ∙ sym (eq-eqb number 1 same)
      | inr other ↦ or_from (1 == number) false (ne_eqb 1 number (λ e. other (sym e))) refl ∙ sym (ne_eqb number 1 other)
    ]

host_first : (i l h : Bool) → (i && l && h) ≡ (i && h && l)
host_first false l h = refl
host_first true true h = sym (and_true h)
host_first true false h = sym (and_false h)

module _ (options : Options) (s : State) (endpoint : Endpoint) (dir : Direction) (number : ℕ) (proto : Proto) (port : ℕ)
    (positive : All (λ (row : IdentityRow). 0 < row.number) s.identities) (small : port < 2 ^ 16) where
  pub read_is_verdict : read_map (policy_map options s endpoint) dir number proto port ≡ verdict_of options s endpoint dir number proto port
  read_is_verdict = by_mode (is_never s.mode) refl
    where
      set : Peer → List ℕ
      set = set_at s.identities

      takes : Peer → Bool
      takes = selects_number s.identities number

      parts : MapParts
      parts = map_parts options s endpoint

      zero : is_read number 0 ≡ true
      zero = zero_is_read number

      taken : (p : Peer) → list_any (is_read number) (peer_numbers set p) ≡ takes p
      taken p = set_read number p s.identities positive

      host : (is_ingress dir && options.localhost && is_read number 1) ≡ (is_ingress dir && (number == 1) && options.localhost)
      host = ap (λ b. is_ingress dir && options.localhost && b) (host_read number) ∙ host_first (is_ingress dir) options.localhost (number == 1)

      raw : List MapEntry
      raw = raw_entries set parts

      either_lies : (kinds : Kind → Bool) → (lies_on dir number proto port kinds raw || lies_on dir 0 proto port kinds raw)
          ≡ list_any (λ e. kinds e.1 && (is_read number e.0.id && covers_packet e.0 dir proto port)) raw
      either_lies kinds =
          any_or (λ e. kinds e.1 && reaches dir number proto port e) (λ e. kinds e.1 && reaches dir 0 proto port e) raw
          ∙ any_agree _ _ (λ e. either_reaches (kinds e.1) (e.0.id == number) (e.0.id == 0) (covers_packet e.0 dir proto port)) raw

      by_raw : read_map (canonical raw) dir number proto port
          ≡ word_by (list_any (λ e. is_deny e.1 && (is_read number e.0.id && covers_packet e.0 dir proto port)) raw)
          (list_any (λ e. not (is_deny e.1) && (is_read number e.0.id && covers_packet e.0 dir proto port)) raw)
      by_raw = read_canonical raw dir number proto port ∙ (λ i. word_by (either_lies is_deny i) (either_lies (λ kind. not (is_deny kind)) i))

      by_mode : (b : Bool) → is_never s.mode ≡ b → read_map (policy_map options s endpoint) dir number proto port ≡ verdict_of options s endpoint dir number proto port
      by_mode true never =
          by_raw
          ∙ (λ i. word_by (never_lies dir proto port small (is_read number) is_deny set takes zero taken parts never i)
          (never_lies dir proto port small (is_read number) (λ kind. not (is_deny kind)) set takes zero taken parts never i))
          ∙ sym (cond-true (is_never s.mode) Allowed _ never)
      by_mode false some =
          by_raw
          ∙ (λ i. word_by (raw_denies dir proto port small (is_read number) set takes zero taken parts some i)
          (raw_allows dir proto port small (is_read number) set takes zero taken parts some i))
          ∙ (λ i. word_by (scanned s.policies endpoint (deny_section dir) takes proto port i)
          (scanned s.policies endpoint (allow_section dir) takes proto port i || not (enforced s.mode s.policies endpoint dir) || host i))
          ∙ sym (cond-false (is_never s.mode) Allowed _ some)
