-- How the map of the rows follows their list, for `Subscribers`.
use Rattle.std.proofs.Common.{◌≡◌, ◌<◌, false, List, [], ◌∷◌, ◌++◌, length, map, Option, Some, None, is_some, refl, sym, ap, ◌∙◌, arith}
use Rattle.std.specs.List.{position, position_or_len}
use Rattle.std.specs.Map.{keys_of, values_of, lookup}
use Rattle.std.proofs.lemmas.Bool.Decides.{nat_tests}
use Rattle.std.proofs.lemmas.List.{length-map, map-append}
use Rattle.indexmap.specs.IndexMap.{insert_entry}
use Rattle.indexmap.proofs.MapLemmas.{absent_from_lookup, insert_entry-absent, some_index}
use Rattle.auc_memory.specs.Identity.{Identity}
use Rattle.auc_memory.specs.IdentityKey.{is_key, key_of}
use Rattle.auc_memory.specs.declared.identity_key.IdentityKey.{IdentityKey}
use Rattle.auc_subs.specs.declared.row.Row.{Row}
use Rattle.auc_subs.specs.Subscriber.{most_subscribers, same_identity, place_of, IsRow}
use Rattle.auc_subs.specs.InnerLookup.{IsLookup}
use Rattle.auc_subs.proofs.RowLemmas.{one_more}

-- keys are one where their identities are
same_test : (a b : Identity) → is_key (key_of b) (key_of a) ≡ same_identity a b
same_test a b = grind (arith, nat_tests)

first_place : (rows : List Row) (imsi : Identity)
    → position_or_len (is_key (key_of imsi)) (map (λ row. key_of row.imsi) rows) ≡ position_or_len (λ row. same_identity row.imsi imsi) rows
first_place [] imsi = refl
first_place (row ∷ rows) imsi = rw (same_test row.imsi imsi, first_place rows imsi) refl

-- the place of a key is that of its identity
pub place_by_key : (keys : List IdentityKey) (rows : List Row) (imsi : Identity) → IsLookup keys rows → position (is_key (key_of imsi)) keys ≡ place_of rows imsi
place_by_key keys rows imsi before = rw (before.keyed, first_place rows imsi, length-map rows (λ row. key_of row.imsi)) refl

-- what isn't some is none
pub none_there : {A : Type 0} (found : Option A) → is_some found ≡ false → found ≡ None
none_there None none = refl
none_there (Some value) none = cc

-- where no row has an identity, no entry has its key
absent : (entries : List (IdentityKey × Row)) (imsi : Identity) → IsLookup (keys_of entries) (values_of entries)
    → is_some (place_of (values_of entries) imsi) ≡ false → lookup (is_key (key_of imsi)) entries ≡ None
absent entries imsi before none =
    none_there (lookup (is_key (key_of imsi)) entries)
    (sym (some_index (is_key (key_of imsi)) entries) ∙ ap is_some (place_by_key (keys_of entries) (values_of entries) imsi before) ∙ none)

module _ (old new : List (IdentityKey × Row)) (row : Row) (before : IsLookup (keys_of old) (values_of old))
    (none : is_some (place_of (values_of old) row.imsi) ≡ false) (put : new ≡ insert_entry is_key old (key_of row.imsi) row) where
  behind : new ≡ old ++ (key_of row.imsi, row) ∷ []
  behind = put ∙ insert_entry-absent is_key (key_of row.imsi) row old (absent_from_lookup (is_key (key_of row.imsi)) old (absent old row.imsi before none))

  -- a row of a new identity is put behind the last
  pub values_put : values_of new ≡ values_of old ++ row ∷ []
  values_put = rw behind (map-append (λ e. e.1) old ((key_of row.imsi, row) ∷ []))

  keys_put : keys_of new ≡ keys_of old ++ key_of row.imsi ∷ []
  keys_put = rw behind (map-append (λ e. e.0) old ((key_of row.imsi, row) ∷ []))

  -- and the rows stay subscribers under their keys
  pub lookup_put : IsRow row → length (values_of old) < most_subscribers → IsLookup (keys_of new) (values_of new)
  lookup_put is_row room = record {
    subscribers = rw values_put (one_more (values_of old) row before.subscribers is_row none room);
    keyed = rw (keys_put, values_put, map-append (λ row. key_of row.imsi) (values_of old) (row ∷ [])) (ap (λ keys. keys ++ key_of row.imsi ∷ []) before.keyed);
  }
