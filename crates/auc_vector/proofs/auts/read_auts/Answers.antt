-- The MAC that is compared is XMAC-S, of the SQN_MS in AUTS.
use Rattle.std.proofs.Common.{sym, ◌∙◌}
use Rattle.auc_vector.proofs.AutsLemmas.{reads_said, reads_wrong}
use Rattle.auc_vector.proofs.auts.read_auts.Goals as goal

pub returns-then-eq-clause-value : goal.returns-then-eq-clause-value
returns-then-eq-clause-value c =
    reads_said c.args.s.now c.args.rand c.args.auts c.parts.result.0 c.f5_star.result c.xor-sqn_ms.result c.f1_star.result c.parts.result.1 c.args.bits c.said.result
    (record { masked_is = c.parts.ensures.masked; mac_s_is = c.parts.ensures.mac_s; key_is = c.f5_star.ensures; sqn_is = c.xor-sqn_ms.ensures; expected_is = c.f1_star.ensures })
    (sym c.eq.ensures ∙ c.if-eq.true) c.said.ensures.value

pub returns-else-eq-clause-value : goal.returns-else-eq-clause-value
returns-else-eq-clause-value c =
    reads_wrong c.args.s.now c.args.rand c.args.auts c.parts.result.0 c.f5_star.result c.xor-sqn_ms.result c.f1_star.result c.parts.result.1 c.args.bits
    (record { masked_is = c.parts.ensures.masked; mac_s_is = c.parts.ensures.mac_s; key_is = c.f5_star.ensures; sqn_is = c.xor-sqn_ms.ensures; expected_is = c.f1_star.ensures })
    (sym c.eq.ensures ∙ c.if-eq.false)
