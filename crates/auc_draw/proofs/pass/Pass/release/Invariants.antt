use Rattle.auc_draw.proofs.pass.Pass.release.Given as goal

abbrev pub ghosts-read_limit : goal.ghosts-read_limit
ghosts-read_limit a = record { sub = a.sub; number = a.n }
