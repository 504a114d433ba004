-- The attributes that a server looks for in a response.
use Rattle.std.specs.Prelude.{ℕ, List, Option, Some, None}
use Rattle.auc_attr.specs.First.{first_value}
use Rattle.auc_attr.specs.declared.attr.Attr.{Attr}
use Rattle.auc_attr.specs.declared.attr.Attr.TheVariants as attr
use Rattle.auc_request.specs.Request.{text_or_none}

-- the value of an AT_RES
abbrev pub res_of : Attr → Option (List ℕ)
res_of (attr.Res v) = Some v
res_of _ = None

-- the value of an AT_AUTS
abbrev pub auts_of : Attr → Option (List ℕ)
auts_of (attr.Auts v) = Some v
auts_of _ = None

-- the text of an AT_IDENTITY
abbrev pub identity_of : Attr → Option (List ℕ)
identity_of (attr.Identity v) = Some v
identity_of _ = None

-- the code of an AT_CLIENT_ERROR_CODE
abbrev pub error_code_of : Attr → Option ℕ
error_code_of (attr.ClientErrorCode code) = Some code
error_code_of _ = None

-- the text of the first AT_IDENTITY of a list, empty if there is none (RFC 4187 §10.5)
abbrev pub identity_in : List Attr → List ℕ
identity_in list = text_or_none (first_value identity_of list)
