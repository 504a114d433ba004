-- What other crates may cite of the proofs here; every other module is private.
pub use Rattle.auc_server.proofs.FitsLemmas.{each_turn_fits, gave_up_fits, given_up_fits, started_fits}
pub use Rattle.auc_server.proofs.HomeLemmas.{challenged_subs, resumed_subs, rewon_subs, won_subs}
pub use Rattle.auc_server.proofs.LawLemmas.{IsRight, IsRightToo, Says, awaits_challenge, awaits_reauth, none_challenged, none_resumed, says_row}
pub use Rattle.auc_server.proofs.MessageLemmas.{challenge_may, identity_may, is_small, names_encryptable, notification_may, reauth_encryptable, reauth_may}
pub use Rattle.auc_server.proofs.OptionsLemmas.{gave_up_options, turn_options}
pub use Rattle.auc_server.proofs.ResumeLemmas.{given_store, gone}
pub use Rattle.auc_server.proofs.TurnLemmas.{IsReported, asked_is, identity_fits, sub_asked}
