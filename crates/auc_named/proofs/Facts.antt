-- What other crates may cite of the proofs here; every other module is private.
pub use Rattle.auc_named.proofs.GivenLemmas.{jobs_plain, top_named}
pub use Rattle.auc_named.proofs.PlaceLemmas.{HasPlace, IsUnnamed, length-put_words, other_place, place_or_none, put_at, put_elsewhere, same_place}
pub use Rattle.auc_named.proofs.RecordLemmas.{ArePlainLines, ArePlainRecords, IsPlainRecord, all_lines-records_of, drawn_named, drawn_unnamed, entries_named, entries_unnamed, held_named, held_unnamed, numbers_named, numbers_unnamed, withheld_named, withheld_unnamed}
pub use Rattle.auc_named.proofs.RoundLemmas.{each_named_round_is_lawful, round_is_plain, words_at}
