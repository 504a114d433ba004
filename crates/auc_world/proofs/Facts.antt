-- What other crates may cite of the proofs here; every other module is private.
pub use Rattle.auc_world.proofs.AgainHomeLemmas.{run_is_sized, run_resumes_sized}
pub use Rattle.auc_world.proofs.AgainLemmas.{AgainOf, AllLaws, agreed}
pub use Rattle.auc_world.proofs.AgreementLemmas.{HoldsOf, IsDrawn, Laws}
pub use Rattle.auc_world.proofs.ApartLemmas.{accepted-append, job_quiet, jobs_give_after_all_lines}
pub use Rattle.auc_world.proofs.BitLemmas.{bit_mask_is_bytes}
pub use Rattle.auc_world.proofs.DeviceMoveLemmas.{PeerLaws, run_is_named}
pub use Rattle.auc_world.proofs.HomeLemmas.{homes_alike}
pub use Rattle.auc_world.proofs.HomeMoveLemmas.{place_stays, waiting_stays}
pub use Rattle.auc_world.proofs.JobLemmas.{moved_releases, number_of_line, numbers_in, of_sub, of_sub-append}
pub use Rattle.auc_world.proofs.JobRunLemmas.{IsKnown, IsOfJob, counted_once, job_runs, number_counts}
pub use Rattle.auc_world.proofs.EndLemmas.{came_at_end, lawful_at_ends}
pub use Rattle.auc_world.proofs.LimitLemmas.{get_or-greater, length-opened, opened_above, opened_at, opened_within}
pub use Rattle.auc_world.proofs.NetLemmas.{AreAt, IsPresentedAt, OpensAt, places_stay, presented_is_at}
pub use Rattle.auc_world.proofs.PastLemmas.{each_accepted_in_past}
pub use Rattle.auc_world.proofs.PeerMoveLemmas.{Counts, IsNamed, IsQuiet, giving_up_counts, new_is_quiet, taken_in, turn_counts}
pub use Rattle.auc_world.proofs.PieceLemmas.{pieces_split_the_round}
pub use Rattle.auc_world.proofs.PlaceMoveLemmas.{get_here, get_there, pushes}
pub use Rattle.auc_world.proofs.PlainVectorLemmas.{autn_size, rand_block, sixteen_block}
pub use Rattle.auc_world.proofs.RowPlaceLemmas.{places_differ}
pub use Rattle.auc_world.proofs.RunLemmas.{IsOfResumption, one_challenge_is_of_one_number, peer_success_is_drawn, peer_success_is_resumed, server_success_is_drawn, server_success_is_resumed}
pub use Rattle.auc_world.proofs.SimLemmas.{Names, draw_few, draw_names, draw_releasable, follows_nothing, noted, notes_nothing, sim_each, sim_gives_drawn, sim_names, sim_numbers}
pub use Rattle.auc_world.proofs.SitesLemmas.{lease_ends, sites_append, turns_append}
pub use Rattle.auc_world.proofs.TurningLemmas.{turn_subs}
