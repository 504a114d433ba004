-- The attributes of EAP-AKA (RFC 4187 §10) with EAP-AKA' (RFC 9048 §3 and §4), and those of EAP-SIM (RFC 4186 §10), by
-- their type: what follows type and length, and whether a message may have the attribute only once. A name with _in or In
-- goes by a table, the same name without it by that of EAP-AKA.
use Rattle.std.specs.Prelude.{ℕ, true, false, ◌==◌, nat_le, Option, Some, None, if◌then◌else◌}
use Rattle.auc_attr.specs.declared.table.Row.{Row}
use Rattle.auc_attr.specs.declared.table.Shape.{Shape}
use Rattle.auc_attr.specs.declared.table.Shape.TheVariants as shape
use Rattle.auc_attr.specs.declared.table.Table.{Table}
use Rattle.auc_attr.specs.declared.table.Table.TheVariants as tables

-- an attribute that a message may have only once, and one that it may have several times
abbrev pub single : Shape → Option Row
single s = Some (record { shape = s; once = true })

abbrev pub repeated : Shape → Option Row
repeated s = Some (record { shape = s; once = false })

-- the row of a type in EAP-AKA. A type from 128 on that isn't in the table is skipped, one below 128 is refused
-- (RFC 4187 §8.2)
unfoldable pub row_of : ℕ → Option Row
row_of kind =
    if kind == 1 then single (shape.AfterReserved 16)  -- AT_RAND, RFC 4187 §10.6
    else if kind == 2 then single (shape.AfterReserved 16)  -- AT_AUTN, RFC 4187 §10.7
    else if kind == 3 then single shape.BitCounted  -- AT_RES, RFC 4187 §10.8
    else if kind == 4 then single (shape.Fixed 14)  -- AT_AUTS, RFC 4187 §10.9
    else if kind == 6 then single shape.Zeros  -- AT_PADDING, RFC 4187 §10.12
    else if kind == 10 then single (shape.AfterReserved 0)  -- AT_PERMANENT_ID_REQ, RFC 4187 §10.2
    else if kind == 11 then single (shape.AfterReserved 16)  -- AT_MAC, RFC 4187 §10.15
    else if kind == 12 then single (shape.Fixed 2)  -- AT_NOTIFICATION, RFC 4187 §10.19
    else if kind == 13 then single (shape.AfterReserved 0)  -- AT_ANY_ID_REQ, RFC 4187 §10.3
    else if kind == 14 then single shape.ByteCounted  -- AT_IDENTITY, RFC 4187 §10.5
    else if kind == 17 then single (shape.AfterReserved 0)  -- AT_FULLAUTH_ID_REQ, RFC 4187 §10.4
    else if kind == 19 then single (shape.Fixed 2)  -- AT_COUNTER, RFC 4187 §10.16
    else if kind == 20 then single (shape.AfterReserved 0)  -- AT_COUNTER_TOO_SMALL, RFC 4187 §10.17
    else if kind == 21 then single (shape.AfterReserved 16)  -- AT_NONCE_S, RFC 4187 §10.18
    else if kind == 22 then single (shape.Fixed 2)  -- AT_CLIENT_ERROR_CODE, RFC 4187 §10.20
    else if kind == 23 then single shape.ByteCounted  -- AT_KDF_INPUT, RFC 9048 §3.1
    else if kind == 24 then repeated (shape.Fixed 2)  -- AT_KDF, RFC 9048 §3.2
    else if kind == 129 then single (shape.AfterReserved 16)  -- AT_IV, RFC 4187 §10.12
    else if kind == 130 then single shape.Ciphertext  -- AT_ENCR_DATA, RFC 4187 §10.12
    else if kind == 132 then single shape.ByteCounted  -- AT_NEXT_PSEUDONYM, RFC 4187 §10.10
    else if kind == 133 then single shape.ByteCounted  -- AT_NEXT_REAUTH_ID, RFC 4187 §10.11
    else if kind == 134 then single shape.Hash  -- AT_CHECKCODE, RFC 4187 §10.13, RFC 9048 §3.4.3
    else if kind == 135 then single (shape.AfterReserved 0)  -- AT_RESULT_IND, RFC 4187 §10.14
    else if kind == 136 then single shape.Flag  -- AT_BIDDING, RFC 9048 §4
    else if nat_le 128 kind then repeated shape.Skipped
    else None

-- the row of a type in EAP-SIM, without fast re-authentication, pseudonyms and notifications (RFC 4186 §8.2 and §10)
unfoldable pub sim_row_of : ℕ → Option Row
sim_row_of kind =
    if kind == 1 then single shape.Several  -- AT_RAND, RFC 4186 §10.9
    else if kind == 7 then single (shape.AfterReserved 16)  -- AT_NONCE_MT, RFC 4186 §10.4
    else if kind == 10 then single (shape.AfterReserved 0)  -- AT_PERMANENT_ID_REQ, RFC 4186 §10.5
    else if kind == 11 then single (shape.AfterReserved 16)  -- AT_MAC, RFC 4186 §10.14
    else if kind == 13 then single (shape.AfterReserved 0)  -- AT_ANY_ID_REQ, RFC 4186 §10.6
    else if kind == 14 then single shape.ByteCounted  -- AT_IDENTITY, RFC 4186 §10.8
    else if kind == 15 then single shape.Versions  -- AT_VERSION_LIST, RFC 4186 §10.2
    else if kind == 16 then single (shape.Fixed 2)  -- AT_SELECTED_VERSION, RFC 4186 §10.3
    else if kind == 17 then single (shape.AfterReserved 0)  -- AT_FULLAUTH_ID_REQ, RFC 4186 §10.7
    else if kind == 22 then single (shape.Fixed 2)  -- AT_CLIENT_ERROR_CODE, RFC 4186 §10.19
    else if nat_le 128 kind then repeated shape.Skipped
    else None

-- the row of a type
abbrev pub row_in : Table → ℕ → Option Row
row_in tables.Aka = row_of
row_in tables.Sim = sim_row_of
