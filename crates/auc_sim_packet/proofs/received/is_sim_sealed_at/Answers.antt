use Rattle.std.proofs.Common.{arith}
use Rattle.auc_attr.specs.declared.table.Table.TheVariants as tables
use Rattle.auc_attr.proofs.Facts.{place_fits_in}
use Rattle.auc_sim_packet.proofs.received.is_sim_sealed_at.Goals as goal

pub length_of-size-requires : goal.length_of-size-requires
length_of-size-requires c =
    let fits = place_fits_in tables.Sim c.args.packet.now c.args.place (λ i. omega (arith, c.type_inv.packet i)) c.requires in
    omega (arith, fits.0, fits.1)

pub piece_of-requires : goal.piece_of-requires
piece_of-requires c =
    let fits = place_fits_in tables.Sim c.args.packet.now c.args.place (λ i. omega (arith, c.type_inv.packet i)) c.requires in
    (omega arith, omega (arith, fits.0, fits.1))

pub mac_at-requires-clause-within : goal.mac_at-requires-clause-within
mac_at-requires-clause-within c =
    let fits = place_fits_in tables.Sim c.args.packet.now c.args.place (λ i. omega (arith, c.type_inv.packet i)) c.requires in
    omega (arith, fits.0, c.length_of-size.ensures)

pub mac_at-requires-clause-given : goal.mac_at-requires-clause-given
mac_at-requires-clause-given c =
    let fits = place_fits_in tables.Sim c.args.packet.now c.args.place (λ i. omega (arith, c.type_inv.packet i)) c.requires in
    omega (arith, fits.1, c.length_of-size.ensures)
