use Rattle.std.proofs.Common.{◌≡◌, ◌∙◌, List, ℕ, ap}
use Rattle.std.specs.List.{concat}
use Rattle.sha2.specs.Sha256.{sha256}
use Rattle.auc_load.specs.Input.{load_key}
use Rattle.auc_load.specs.Pieces.{each_vector}
use Rattle.auc_load.specs.Summary.{all_bytes}
use Rattle.auc_load.proofs.PieceLemmas.{if_ok_map}
use Rattle.auc_load.proofs.SummaryLemmas.{bytes_of_load, source_of_load}
use Rattle.auc_record.specs.declared.record.Closing.{Closing}
use Rattle.auc_load.proofs.digest.digest.Goals as goal

pub digest_of-requires-clause-source : goal.digest_of-requires-clause-source
digest_of-requires-clause-source g c κs within =
    source_of_load c.args.load.now _ c.requires.load (c.new-rands.ensures ∙ c.key_of.ensures) c.requires.subscribers c.requires.closings

pub returns : goal.returns
returns g c =
    let load = c.args.load.now in
    let closings = c.args.closings.now in
    if_ok_map (λ digest. digest ≡ sha256 (concat (each_vector c.new-rands.result closings))) (λ digest. digest ≡ sha256 (all_bytes load)) c.digest_of.result
    (λ digest is.
    is ∙ ap (λ (key : List ℕ). sha256 (concat (each_vector key closings))) (c.new-rands.ensures ∙ c.key_of.ensures)
    ∙ ap (λ (cs : List Closing). sha256 (concat (each_vector (load_key load.key) cs))) c.requires.closings ∙ ap sha256 (bytes_of_load load))
    c.digest_of.ensures
