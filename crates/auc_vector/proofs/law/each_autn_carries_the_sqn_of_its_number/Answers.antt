use Rattle.auc_vector.proofs.AutnLemmas.{autn_carries, one_number}
use Rattle.auc_vector.proofs.law.each_autn_carries_the_sqn_of_its_number.Goals as goal

pub returns : goal.returns
returns c = record {
  carried = λ k opc rand amf bits n hk ho. autn_carries k opc rand amf bits n hk ho;
  different = λ k opc amf r s bits m n hk ho few lm ln e. one_number k opc amf r s bits m n hk ho few lm ln e;
}
