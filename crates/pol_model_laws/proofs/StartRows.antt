-- The reserved rows, which are there from the start.
use Rattle.std.proofs.Common.{◌≡◌, true, [], None, Some, ◌⊎◌, inl, inr, ⊎_elim, refl, sym, ap, ◌∙◌, arith}
use Rattle.std.proofs.lemmas.Option.{same_Some}
use Rattle.pol_addr.specs.declared.family.Family.TheVariants.{Ipv4, Ipv6}
use Rattle.pol_addr.specs.declared.network.Prefix.{Prefix}
use Rattle.pol_addr.specs.Prefix.{world}
use Rattle.pol_data.proofs.Members.{In, every-in}
use Rattle.pol_model.specs.declared.row.IdentityRow.{IdentityRow}
use Rattle.pol_model.specs.Fault.{has_reserved}
use Rattle.pol_model.specs.Identities.{is_reserved, number_of_labels, reserved_identities}
use Rattle.pol_model.specs.Prefixes.{number_of_prefix}
use Rattle.pol_model.proofs.AscendingStates.{reserved_ascend}
use Rattle.pol_model_laws.proofs.Ledger.{AllHeld, AreApart, IsReservedRow, Ledger, SameLabels, SamePrefix}

pub record StartRow (row : IdentityRow) : Type 0 where
  pub reserved : IsReservedRow row
  pub own_labels : number_of_labels row.labels reserved_identities ≡ Some row.number
  pub own_prefix : (row.prefix ≡ None) ⊎ ((own : Prefix) × (row.prefix ≡ Some own) × (number_of_prefix own reserved_identities ≡ Some row.number))

start_one : (row : IdentityRow) → is_reserved row.number ≡ true → row.holders ≡ 1 → has_reserved row.labels ≡ true → number_of_labels row.labels reserved_identities ≡ Some row.number
    → (row.prefix ≡ None) ⊎ ((own : Prefix) × (row.prefix ≡ Some own) × (number_of_prefix own reserved_identities ≡ Some row.number)) → StartRow row
start_one row is holders labels own_labels own_prefix = record { reserved = record { is = is; holders = holders; labels = labels }; own_labels = own_labels; own_prefix = own_prefix }

-- the rows without a prefix, and those of the worlds
pub start_row : (row : IdentityRow) → In row reserved_identities → StartRow row
start_row = every-in StartRow reserved_identities (
  start_one _ refl refl refl refl (inl refl),
  (
    start_one _ refl refl refl refl (inl refl),
    (
      start_one _ refl refl refl refl (inl refl),
      (
        start_one _ refl refl refl refl (inl refl),
        (
          start_one _ refl refl refl refl (inl refl),
          (
            start_one _ refl refl refl refl (inl refl),
            (
              start_one _ refl refl refl refl (inl refl),
              (
                start_one _ refl refl refl refl (inl refl),
                (
                  start_one _ refl refl refl refl (inr (world Ipv4, refl, refl)),
                  (start_one _ refl refl refl refl (inr (world Ipv6, refl, refl)), tt),
                ),
              ),
            ),
          ),
        ),
      ),
    ),
  ),
)

start_labels : AreApart SameLabels reserved_identities
start_labels one other there here same =
    let first = (start_row one there).own_labels in
    let second = (start_row other here).own_labels in
    let numbers : Some one.number ≡ Some other.number = sym first ∙ ap (λ l. number_of_labels l reserved_identities) same.2 ∙ second in
    cc

prefix_number : (row : IdentityRow) (prefix : Prefix) → In row reserved_identities → row.prefix ≡ Some prefix → number_of_prefix prefix reserved_identities ≡ Some row.number
prefix_number row prefix there has =
    ⊎_elim (λ none. absurd cc) (λ own. ap (λ p. number_of_prefix p reserved_identities) (same_Some prefix own.0 (sym has ∙ own.1)) ∙ own.2) ((start_row row there).own_prefix)

start_prefixes : AreApart SamePrefix reserved_identities
start_prefixes one other there here same =
    let numbers : Some one.number ≡ Some other.number = sym (prefix_number one same.0 there same.1) ∙ prefix_number other same.0 here same.2 in
    cc

-- they fit together, and nobody holds them
pub start_ledger : Ledger (λ _. 0) (λ _. 0) reserved_identities
start_ledger = record {
  ascend = reserved_ascend;
  begins = ([], refl);
  each = λ row there. inl (start_row row there).reserved;
  labels = start_labels;
  prefixes = start_prefixes;
  numbers_there = λ number none. refl;
  prefixes_there = λ prefix none. refl;
}

pub start_held : AllHeld reserved_identities
start_held row there = omega (arith, (start_row row there).reserved.holders)
