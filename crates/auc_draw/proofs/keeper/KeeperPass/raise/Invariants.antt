use Rattle.auc_draw.proofs.keeper.KeeperPass.raise.Given as goal

abbrev pub ghosts-raise_limit : goal.ghosts-raise_limit
ghosts-raise_limit a = record { sub = a.sub; number = 0 }
