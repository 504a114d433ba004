use Rattle.std.proofs.Common.{◌≡◌, ◌<◌, ℕ, List, length, map, ap, ◌∙◌, arith}
use Rattle.std.proofs.lemmas.List.{length-map}
use Rattle.auc_milenage.specs.Milenage.{temp_of}
use Rattle.auc_vector.proofs.ManyLemmas.{ciphers_are}
use Rattle.auc_vector.proofs.many.ciphers.Goals as goal

pub returns : goal.returns
returns c j l =
    let temp : List ℕ → List ℕ = temp_of c.args.m.now.k c.args.m.now.opc in
    let temps : c.temps.new.rands ≡ map temp c.args.rands.now = c.temps.ensures ∙ ap (map temp) c.copy_from_slice.ensures.after in
    let there : j < length c.temps.new.rands = omega (arith, ap length temps, length-map c.args.rands.now temp) in
    ciphers_are c.args.m.now c.args.amf c.args.bits c.args.first (length c.args.rands.now) c.args.rands.now c.inputs-blocks.result c.encrypt.new.blocks _ j
    (omega arith) c.encrypt.ensures l (c.inputs-blocks.ensures c.args.rands.now temps j there)
