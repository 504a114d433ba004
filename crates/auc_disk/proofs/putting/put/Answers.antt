use Rattle.std.proofs.Common.{rules, ◌≡◌, ◌+◌, ◌-◌, ◌++◌, ◌∙◌, length, take, drop, List, ℕ, ap}
use Rattle.auc_disk.proofs.PutLemmas.{put_in}
use Rattle.auc_disk.proofs.putting.put.Goals as goal
use borrow.Rule.Slice.PartMut.{put_mid}

pub returns-clause-put : goal.returns-clause-put
returns-clause-put c =
    let at = c.args.at in
    let grown = c.resize.new.self.items in
    let slice = c.deref_mut.result.now in
    let long = at + length c.args.bytes.now - at in
    let bytes : c.copy_from_slice.new.self ≡ c.args.bytes.now = search rules in
    let value : slice ≡ grown = search rules in
    ap (λ (l : List ℕ). take c.resize.new.self.len (put_mid at long slice l ++ drop (length (put_mid at long slice l)) grown)) bytes
    ∙ put_in c.args.filler c.args.file.now.items at c.args.bytes.now grown slice c.resize.new.self.len (search rules) value (search rules)
