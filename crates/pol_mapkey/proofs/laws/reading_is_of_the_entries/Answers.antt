-- Each of the two look-ups gives the same entry.
use Rattle.pol_mapkey.specs.Entries.{read_map}
use Rattle.pol_mapkey.proofs.Longest.{one_kind, longest_same}
use Rattle.pol_mapkey.proofs.laws.reading_is_of_the_entries.Goals as goal

pub returns : goal.returns
unfolding read_map
returns c = λ xs ys dir id proto port once same.
    let own = longest_same dir id proto port xs ys (one_kind xs once) same in
    let every = longest_same dir 0 proto port xs ys (one_kind xs once) same in
    cc (own, every)
