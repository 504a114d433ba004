use Rattle.std.proofs.Common.{◌≡◌, List, drop, fold, take}
use Rattle.auc_usim.specs.Usim.{Memory}
use Rattle.auc_cards.specs.Stores.{put_own}
use Rattle.auc_cards.specs.Usims.{ArePutBack}
use Rattle.auc_cards.proofs.cards.Cards.put_back.Given as goal

abbrev pub invariant-loop-own : goal.invariant-loop-own
invariant-loop-own l = record {
  usims : (new : List Memory) → ArePutBack l.self.usims (drop l.own-index l.jobs) new → ArePutBack l.initial.self.usims l.jobs new;
  kept : l.self.kept ≡ fold put_own l.initial.self.kept (take l.own-index l.jobs);
}
