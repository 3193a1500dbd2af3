-- A prefix table stays that of the rows, as they change.
use Rattle.std.proofs.Common.{◌≡◌, ℕ, Bool, true, false, cond, ◌==◌, ◌&&◌, List, [], ◌∷◌, find, is_some, Option, None, Some, option_map, refl, sym, ap, ◌∙◌, subst}
use Rattle.std.specs.FinMap as map
use Rattle.std.specs.List.{cons_option}
use Rattle.std.specs.Ordering.{eq_by_cmp}
use Rattle.std.proofs.lemmas.Bool.{cond-false, cond-true}
use Rattle.pol_addr.specs.declared.address.Addr.{Addr}
use Rattle.pol_addr.specs.declared.address.Addr.TheVariants.{V4, V6}
use Rattle.pol_addr.specs.declared.family.Family.TheVariants.{Ipv4, Ipv6}
use Rattle.pol_addr.specs.declared.network.Prefix.{Prefix}
use Rattle.pol_addr.specs.Order.{prefix_cmp}
use Rattle.pol_addr.specs.Prefix.{same_prefix, world}
use Rattle.pol_addr.proofs.Order.{prefix_cmp_total, prefix_cmp-IsAntisymmetric, same_tied, tied_same}
use Rattle.pol_model.specs.declared.limits.TheConstants.{LOCAL_FIRST}
use Rattle.pol_model.specs.declared.row.IdentityRow.{IdentityRow}
use Rattle.pol_model.specs.Identities.{free_number, or_free, released, reserved_identities, reserved_row}
use Rattle.pol_model.specs.Prefixes.{has_prefix, number_of_prefix, prefix_held}
use Rattle.pol_model.specs.Remote.{longest_at, numbered_prefixes}
use Rattle.pol_model.specs.Worlds.{world_in}
use Rattle.pol_model_laws.specs.Holding.{has_row}
use Rattle.pol_model_laws.specs.Keeps.{KeepsRows}
use Rattle.pol_model_laws.proofs.Ledger.{same_prefix-is}
use Rattle.pol_model_laws.proofs.PrefixHolders.{same_prefix-itself, same_tests}
use Rattle.pol_ident.specs.Look.{number_for_prefix}
use Rattle.pol_prefix_table.specs.Table.{PrefixMap, look_up}
use Rattle.pol_prefix_table.proofs.Scan.{look_up-from_entries}
use Rattle.pol_prefixes.specs.Tables.{IsTableOf}
use Rattle.pol_prefixes.proofs.Numbers.{if_there, number_of_held, number_of_released}

tied_test : (own prefix : Prefix) → eq_by_cmp prefix_cmp own prefix ≡ same_prefix own prefix
tied_test own prefix =
    same_tests (eq_by_cmp prefix_cmp own prefix) (same_prefix own prefix)
    (λ tied. subst (λ p. same_prefix own p ≡ true) (same_tied own prefix tied) (same_prefix-itself own))
    (λ same. tied_same own prefix (same_prefix-is own prefix same))

-- what an insertion and a removal leave
pub get_with : (table : PrefixMap) (prefix own : Prefix) (number : ℕ) → map.get (map.insert table prefix number) own ≡ cond (same_prefix own prefix) (Some number) (map.get table own)
get_with table prefix own number =
    map.get-insert prefix_cmp_total table prefix number own ∙ ap (λ b. cond b (Some number) (map.get table own)) (tied_test own prefix)

pub get_without : (table : PrefixMap) (prefix own : Prefix) → map.get (map.remove table prefix) own ≡ cond (same_prefix own prefix) None (map.get table own)
get_without table prefix own =
    map.get-remove prefix_cmp_total table prefix own ∙ ap (λ b. cond b None (map.get table own)) (tied_test own prefix)

module _ (rows : List IdentityRow) (table : PrefixMap) (is : IsTableOf rows table) (prefix : Prefix) where
  -- a prefix that is held
  pub table_held : (number : ℕ) → number ≡ number_for_prefix prefix rows → IsTableOf (prefix_held prefix rows) (map.insert table prefix number)
  table_held number its own =
      get_with table prefix own number
      ∙ ap (cond (same_prefix own prefix) (Some number)) (is own)
      ∙ ap (λ n. cond (same_prefix own prefix) (Some n) (number_of_prefix own rows)) its
      ∙ sym (number_of_held prefix own rows)

  -- one that has a number already
  table_kept : (number : ℕ) → number_of_prefix prefix rows ≡ Some number → IsTableOf (prefix_held prefix rows) table
  table_kept number at own = is own ∙ same_where (same_prefix own prefix) refl ∙ sym (number_of_held prefix own rows)
    where
      same_where : (b : Bool) → same_prefix own prefix ≡ b → number_of_prefix own rows ≡ cond b (Some (number_for_prefix prefix rows)) (number_of_prefix own rows)
      same_where true same =
          ap (λ p. number_of_prefix p rows) (same_prefix-is own prefix same) ∙ at ∙ ap (λ o. Some (or_free o (free_number LOCAL_FIRST rows))) (sym at)
      same_where false other = refl

  pub table_known : is_some (number_of_prefix prefix rows) ≡ true → IsTableOf (prefix_held prefix rows) table
  table_known some = by (number_of_prefix prefix rows) refl some
    where
      by : (o : Option ℕ) → number_of_prefix prefix rows ≡ o → is_some o ≡ true → IsTableOf (prefix_held prefix rows) table
      by None at some = absurd cc
      by (Some number) at some = table_kept number at

  module _ (keeps : KeepsRows rows) (number : ℕ) (at : number_of_prefix prefix rows ≡ Some number) where
    -- one that is released, and whose number stays
    pub table_stays : has_row number (released number rows) ≡ true → IsTableOf (released number rows) table
    table_stays stays own = is own ∙ same_where (same_prefix own prefix) refl ∙ sym (number_of_released rows keeps number prefix at own)
      where
        same_where : (b : Bool) → same_prefix own prefix ≡ b → number_of_prefix own rows ≡ cond b (if_there (released number rows) (Some number)) (number_of_prefix own rows)
        same_where true same =
            ap (λ p. number_of_prefix p rows) (same_prefix-is own prefix same) ∙ at ∙ sym (cond-true (has_row number (released number rows)) _ _ stays)
        same_where false other = refl

    -- or goes
    pub table_without : has_row number (released number rows) ≡ false → IsTableOf (released number rows) (map.remove table prefix)
    table_without goes own =
        get_without table prefix own
        ∙ ap (cond (same_prefix own prefix) None) (is own)
        ∙ ap (λ o. cond (same_prefix own prefix) o (number_of_prefix own rows)) (sym (cond-false (has_row number (released number rows)) (Some number) None goes))
        ∙ sym (number_of_released rows keeps number prefix at own)

-- ---- the table of the start
abbrev one_world : PrefixMap
one_world = map.insert map.empty (world Ipv4) (world_in Ipv4).identity

-- one test of a prefix gives the number of its row, or none
by_test : (row : IdentityRow) (b : Bool) → cond b (Some row.number) None ≡ option_map (λ found. found.number) (cond b (Some row) None)
by_test row true = refl
by_test row false = refl

-- a prefix isn't that of both worlds
world_found : (addr : Addr) (len : ℕ) → let own : Prefix = record { addr = addr; len = len } in
    cond (same_prefix own (world Ipv6)) (Some (world_in Ipv6).identity) (cond (same_prefix own (world Ipv4)) (Some (world_in Ipv4).identity) None) ≡ number_of_prefix own reserved_identities
world_found (V4 bits) len = by_test (reserved_row (world_in Ipv4).identity (world_in Ipv4).name) ((bits == 0) && (len == 0))
world_found (V6 bits) len = by_test (reserved_row (world_in Ipv6).identity (world_in Ipv6).name) ((bits == 0) && (len == 0))

pub table_at_start : IsTableOf reserved_identities (map.insert one_world (world Ipv6) (world_in Ipv6).identity)
table_at_start own =
    get_with one_world (world Ipv6) own (world_in Ipv6).identity
    ∙ ap (cond (same_prefix own (world Ipv6)) (Some (world_in Ipv6).identity)) (get_with map.empty (world Ipv4) own (world_in Ipv4).identity ∙ ap (cond (same_prefix own (world Ipv4)) (Some (world_in Ipv4).identity)) (map.get-empty prefix_cmp own))
    ∙ world_found own.addr own.len

-- ---- what an address finds
-- the first entry of a prefix is its row's
entries_found : (own : Prefix) (rows : List IdentityRow) → map.find prefix_cmp own (numbered_prefixes rows) ≡ number_of_prefix own rows
entries_found own [] = refl
entries_found own (row ∷ rows) = by row.prefix (entries_found own rows)
  where
    rest : Option ℕ
    rest = map.find prefix_cmp own (numbered_prefixes rows)

    later : Option IdentityRow
    later = find (λ row. has_prefix own row.prefix) rows

    here : (b c : Bool) → b ≡ c → rest ≡ option_map (λ row. row.number) later → cond b (Some row.number) rest ≡ option_map (λ row. row.number) (cond c (Some row) later)
    here b true same found = cond-true b (Some row.number) rest same
    here b false same found = cond-false b (Some row.number) rest same ∙ found

    by : (o : Option Prefix) → rest ≡ option_map (λ row. row.number) later
        → map.find prefix_cmp own (cons_option (option_map (λ prefix. (prefix, row.number)) o) (numbered_prefixes rows)) ≡ option_map (λ row. row.number) (cond (has_prefix own o) (Some row) later)
    by None found = found
    by (Some prefix) found = here (eq_by_cmp prefix_cmp own prefix) (same_prefix own prefix) (tied_test own prefix) found

pub one_table : (rows : List IdentityRow) (table other : PrefixMap) → IsTableOf rows table → IsTableOf rows other → table ≡ other
one_table rows table other one two = map.same_map prefix_cmp_total prefix_cmp-IsAntisymmetric table other (λ own. one own ∙ sym (two own))

table_of_entries : (rows : List IdentityRow) → IsTableOf rows (map.from_entries (numbered_prefixes rows))
table_of_entries rows own = map.get-from_entries prefix_cmp_total (numbered_prefixes rows) own ∙ entries_found own rows

pub longest_found : (rows : List IdentityRow) (table : PrefixMap) (addr : Addr) → IsTableOf rows table → look_up table addr ≡ option_map (λ found. found.1) (longest_at addr rows)
longest_found rows table addr is =
    ap (λ t. look_up t addr) (one_table rows table (map.from_entries (numbered_prefixes rows)) is (table_of_entries rows))
    ∙ look_up-from_entries addr (numbered_prefixes rows)
