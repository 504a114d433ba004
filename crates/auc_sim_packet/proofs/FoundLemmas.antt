-- The RANDs of attributes that are read, for the peer of a session.
use Rattle.std.proofs.Common.{◌≡◌, ℕ, ◌⊎◌, List, [], ◌∷◌, ◌++◌, length, None, Some, true, subst, sym}
use Rattle.auc_attr.specs.declared.table.Row.{Row}
use Rattle.auc_attr.specs.declared.table.Shape.TheVariants as shape
use Rattle.auc_attr.specs.declared.table.Table.TheVariants as tables
use Rattle.auc_attr.specs.Grammar.{IsBody, IsAttrIn, WalksIn}
use Rattle.auc_attr.specs.Item.{item}
use Rattle.auc_attr.specs.Table.{sim_row_of}
use Rattle.auc_attr.proofs.Facts.{some_is}
use Rattle.auc_sim_packet.specs.declared.attr.SimAttr.{SimAttr}
use Rattle.auc_sim_packet.specs.declared.attr.SimAttr.TheVariants as attr
use Rattle.auc_sim_packet.specs.Attributes.{items, first_value, rands_of}
use Rattle.auc_sim_packet.specs.Packet.{ReadsSimAttrs}

-- RANDs are two or three
abbrev pub AreRands : List ℕ → Type 0
AreRands v = (length v ≡ 32) ⊎ (length v ≡ 48)

-- AT_RAND has RANDs
rand_body : (seen v bytes rest : List ℕ) → IsAttrIn tables.Sim seen (item 1 v) bytes rest → AreRands v
unfolding sim_row_of
rand_body seen v bytes rest p =
    (subst (λ (row : Row). IsBody row.shape p.body v) (sym (some_is (record { shape = shape.Several; once = true }) p.row p.known)) p.value).0

-- the RANDs of attributes that are read
rands_from : (seen bytes : List ℕ) (list : List SimAttr) (v : List ℕ) → WalksIn tables.Sim seen bytes (items list) None → first_value rands_of list ≡ Some v → AreRands v
rands_from seen bytes [] v w e = absurd cc
rands_from seen bytes (attr.Rand u ∷ list) v w e = subst AreRands (some_is u v e) (rand_body seen u bytes w.0 w.1)
rands_from seen bytes (attr.NonceMt u ∷ list) v w e = rands_from (seen ++ 7 ∷ []) w.0 list v w.2 e
rands_from seen bytes (attr.PermanentIdReq ∷ list) v w e = rands_from (seen ++ 10 ∷ []) w.0 list v w.2 e
rands_from seen bytes (attr.Mac u ∷ list) v w e = rands_from (seen ++ 11 ∷ []) w.0 list v w.2 e
rands_from seen bytes (attr.AnyIdReq ∷ list) v w e = rands_from (seen ++ 13 ∷ []) w.0 list v w.2 e
rands_from seen bytes (attr.Identity u ∷ list) v w e = rands_from (seen ++ 14 ∷ []) w.0 list v w.2 e
rands_from seen bytes (attr.VersionList u ∷ list) v w e = rands_from (seen ++ 15 ∷ []) w.0 list v w.2 e
rands_from seen bytes (attr.SelectedVersion n ∷ list) v w e = rands_from (seen ++ 16 ∷ []) w.0 list v w.2 e
rands_from seen bytes (attr.FullauthIdReq ∷ list) v w e = rands_from (seen ++ 17 ∷ []) w.0 list v w.2 e
rands_from seen bytes (attr.ClientErrorCode n ∷ list) v w e = rands_from (seen ++ 22 ∷ []) w.0 list v w.2 e
rands_from seen bytes (attr.Skipped kind u ∷ list) v w e = rands_from (seen ++ kind ∷ []) w.0 list v w.2 e

-- RANDs that are read are two or three
pub rands_read : (bytes : List ℕ) (list : List SimAttr) (v : List ℕ) → ReadsSimAttrs bytes list → first_value rands_of list ≡ Some v → AreRands v
rands_read bytes list v r e = rands_from [] bytes list v r.0 e
