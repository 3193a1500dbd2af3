-- The live selectors of a cache, under the names that they have in `pol_selectors`.
pub use Rattle.pol_selectors.specs.Live.{Live, AreLive, rows_without, AreExact, selector_of, is_live, number_of, where_number, one_more, one_less, with_count, with_numbers, with_reference, without_reference, with_set, is_label_peer, label_selectors}
