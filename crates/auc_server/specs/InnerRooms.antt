-- Memory for a turn of a server, of which nothing is used yet.
use Rattle.std.specs.Prelude.{◌≡◌, ℕ, []}
use Rattle.auc_attr.specs.declared.attr.Attr.{Attr}
use Rattle.auc_memory.specs.Reserved.{Reserved}

-- for the greatest request, the Challenge
pub record IsFresh (room : Reserved ℕ) : Type 0 where
  pub empty : room.written ≡ []
  pub size : room.left ≡ 728

-- for the attributes of the Challenge
pub record HasPlaces (places : Reserved Attr) : Type 0 where
  pub empty : places.written ≡ []
  pub size : places.left ≡ 7

-- for a pseudonym
pub record IsFreshName (room : Reserved ℕ) : Type 0 where
  pub empty : room.written ≡ []
  pub size : room.left ≡ 33

-- for the value of AT_CHECKCODE
pub record IsFreshCheck (room : Reserved ℕ) : Type 0 where
  pub empty : room.written ≡ []
  pub size : room.left ≡ 32

-- for a re-authentication identity with a realm
pub record IsFreshIdentity (room : Reserved ℕ) : Type 0 where
  pub empty : room.written ≡ []
  pub size : room.left ≡ 289

-- for the encrypted attributes
pub record HasInner (places : Reserved Attr) : Type 0 where
  pub empty : places.written ≡ []
  pub size : places.left ≡ 3
