-- For calls that say what they did to counts of faults.
use Rattle.std.proofs.Common.{◌≡◌, ◌∙◌, ℕ, Result, Ok, Err, subst}
use Rattle.auc_memory.specs.Faults.{Rose}
use Rattle.auc_refusal.specs.Faults.{RoseOnDisk, RoseOnWire}
use Rattle.auc_refusal.specs.declared.refusal.Refusal.{Refusal}
use Rattle.auc_refusal.specs.declared.refusal.Refusal.TheVariants as refused

-- what is done isn't refused
not_done : {A : Type 0} (result : Result A Refusal) (done : A) (refusal : Refusal) → result ≡ Ok done → result ≡ Err refusal → ⊥
not_done result done refusal is other = cc

-- what is refused for one reason isn't for another
not_late : {A : Type 0} (result : Result A Refusal) → result ≡ Err refused.TooLong → result ≡ Err refused.StoreFault → ⊥
not_late result is other = cc

late_unread : {A : Type 0} (result : Result A Refusal) → result ≡ Err refused.TooLong → result ≡ Err refused.ReadFault → ⊥
late_unread result is other = cc

late_unsaid : {A : Type 0} (result : Result A Refusal) → result ≡ Err refused.TooLong → result ≡ Err refused.WriteFault → ⊥
late_unsaid result is other = cc

-- a call is done, and nothing failed
pub done_on_disk : {A : Type 0} (result : Result A Refusal) (done : A) (old new : ℕ) → result ≡ Ok done → new ≡ old → RoseOnDisk result old new
done_on_disk result done old new is same = record {
  rose = λ fault. absurd (not_done result done refused.StoreFault is fault);
  same = λ quiet. same;
}

pub done_on_wire : {A : Type 0} (result : Result A Refusal) (done : A) (old new : ℕ) → result ≡ Ok done → new ≡ old → RoseOnWire result old new
done_on_wire result done old new is same = record {
  heard = λ fault. absurd (not_done result done refused.ReadFault is fault);
  said = λ fault. absurd (not_done result done refused.WriteFault is fault);
  same = λ quiet. same;
}

-- a service hears no more, and nothing failed
pub late_on_disk : {A : Type 0} (result : Result A Refusal) (old new : ℕ) → result ≡ Err refused.TooLong → new ≡ old → RoseOnDisk result old new
late_on_disk result old new is same = record {
  rose = λ fault. absurd (not_late result is fault);
  same = λ quiet. same;
}

pub late_on_wire : {A : Type 0} (result : Result A Refusal) (old new : ℕ) → result ≡ Err refused.TooLong → new ≡ old → RoseOnWire result old new
late_on_wire result old new is same = record {
  heard = λ fault. absurd (late_unread result is fault);
  said = λ fault. absurd (late_unsaid result is fault);
  same = λ quiet. same;
}

-- a call ends with the refusal of another, before which nothing failed
so_refused : {A B : Type 0} (before : Result A Refusal) (result : Result B Refusal) (refusal other : Refusal) → before ≡ Err refusal → result ≡ Err refusal → result ≡ Err other → before ≡ Err other
so_refused before result refusal other was is so = cc

pub so_on_disk : {A B : Type 0} (before : Result A Refusal) (result : Result B Refusal) (refusal : Refusal) (old mid new : ℕ) → before ≡ Err refusal → result ≡ Err refusal → mid ≡ old → RoseOnDisk before mid new → RoseOnDisk result old new
so_on_disk before result refusal old mid new was is still rose = record {
  rose = λ fault. subst (λ (n : ℕ). Rose n new) still (rose.rose (so_refused before result refusal refused.StoreFault was is fault));
  same = λ quiet. rose.same (rw was (rw is at quiet)) ∙ still;
}

pub so_on_wire : {A B : Type 0} (before : Result A Refusal) (result : Result B Refusal) (refusal : Refusal) (old mid new : ℕ) → before ≡ Err refusal → result ≡ Err refusal → mid ≡ old → RoseOnWire before mid new → RoseOnWire result old new
so_on_wire before result refusal old mid new was is still rose = record {
  heard = λ fault. subst (λ (n : ℕ). Rose n new) still (rose.heard (so_refused before result refusal refused.ReadFault was is fault));
  said = λ fault. subst (λ (n : ℕ). Rose n new) still (rose.said (so_refused before result refusal refused.WriteFault was is fault));
  same = λ quiet. rose.same (rw was (rw is at quiet)) ∙ still;
}
