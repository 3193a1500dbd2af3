-- What the look for a longest key gives, in the words of the law.
use Rattle.std.proofs.Common.{◌≡◌, ℕ, true, List, Option, Some, None, MatchOption}
use Rattle.std.specs.List.{All, Contains}
use Rattle.std.proofs.lemmas.Bool.{both_ways}
use Rattle.pol_ports.specs.declared.Direction.{Direction}
use Rattle.pol_ports.specs.declared.Proto.{Proto}
use Rattle.pol_mapkey.specs.MapKey.{covers}
use Rattle.pol_mapkey.specs.Entries.{Entry, reaches, longest}
use Rattle.pol_data.proofs.Members.{All-from_Contains}
use Rattle.pol_mapkey.proofs.Longest.{NoneReaches, IsLongest, longest_gives}
use Rattle.pol_mapkey.proofs.laws.there_is_a_longest.Goals as goal

as_lists : (entries : List Entry) (dir : Direction) (id : ℕ) (proto : Proto) (port : ℕ) (r : Option Entry)
    → MatchOption r (NoneReaches entries dir id proto port) (IsLongest entries dir id proto port)
    → MatchOption r
    (All (λ e. reaches dir id proto port e ≡ true → ⊥) entries)
    (λ e. Contains entries e × (reaches dir id proto port e ≡ true) × All (λ f. reaches dir id proto port f ≡ true → covers f.0 e.0 ≡ true) entries)
as_lists entries dir id proto port None none =
    All-from_Contains (λ (e : Entry). reaches dir id proto port e ≡ true → ⊥) entries
    (λ e has t. both_ways (reaches dir id proto port e) (none e has) t)
as_lists entries dir id proto port (Some e) is =
    (is.0, is.1, All-from_Contains (λ (f : Entry). reaches dir id proto port f ≡ true → covers f.0 e.0 ≡ true) entries is.2)

pub returns : goal.returns
returns c = λ entries dir id proto port.
    as_lists entries dir id proto port (longest entries dir id proto port) (longest_gives dir id proto port entries)
