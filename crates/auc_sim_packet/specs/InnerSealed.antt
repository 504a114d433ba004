-- Inner facts: what only private contracts of this crate cite. A sealed message up to the value of its AT_MAC.
use Rattle.std.specs.Prelude.{ℕ, ◌+◌, List, [], ◌∷◌, ◌++◌, length}
use Rattle.std.specs.Int.{w16, to_be_bytes}
use Rattle.auc_attr.specs.Frame.{message_code}
use Rattle.auc_sim_packet.specs.declared.sealing.SimDraft.{SimDraft}
use Rattle.auc_sim_packet.specs.Packet.{sim_type}
use Rattle.auc_sim_packet.specs.Spelling.{spelling}

-- code, Identifier and Length, type, Subtype and two reserved bytes, the attributes, and the first bytes of AT_MAC
abbrev pub front_of : SimDraft → List ℕ
front_of draft = message_code draft.request ∷ draft.id ∷ (to_be_bytes w16 (28 + length (spelling draft.attrs))
    ++ (sim_type ∷ draft.subtype ∷ 0 ∷ 0 ∷ (spelling draft.attrs ++ (11 ∷ 5 ∷ 0 ∷ 0 ∷ []))))
