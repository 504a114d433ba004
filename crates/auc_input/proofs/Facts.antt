-- What other crates may cite of the proofs here; every other module is private.
pub use Rattle.auc_input.proofs.OpeningLemmas.{imsi_here, opening_none}
pub use Rattle.auc_input.proofs.TurnLemmas.{concat_append, heard_append, heard_heard, heard_said, map_append, none_waits, prompt_of, replied_append, replied_heard, replied_more, replied_said, said_append, said_heard, said_said, take_whole, taken_all, taken_block, taken_more, turns_more, turns_none}
