-- For walks along bytes that look for the value of a type.
use Rattle.std.proofs.Common.{◌≡◌, ℕ, ◌==◌, Bool, true, false, cond, List, [], ◌∷◌, ◌++◌, length, Option, Some, None, refl, sym, ap, ◌∙◌}
use Rattle.auc_attr.specs.declared.refusal.AttrRefusal.{AttrRefusal}
use Rattle.auc_attr.specs.declared.table.Table.TheVariants as tables
use Rattle.auc_attr.specs.Fault.{kind_at}
use Rattle.auc_attr.specs.Grammar.{IsAttr, IsFault}
use Rattle.auc_attr.specs.InnerValue.{value_or}
use Rattle.auc_attr.specs.Item.{Item}
use Rattle.auc_attr.specs.Seen.{Marks}
use Rattle.auc_attr.specs.Spelling.{stands_in}
use Rattle.auc_attr.specs.Value.{first_of_kind, IsValueIn}
use Rattle.auc_attr.proofs.WalkLemmas.{IsReadTo, begins, goes_on, faulty, ended}

later : (b : Bool) (first : List ℕ) (one both : Option (List ℕ)) (wanted kind : ℕ) (value : List ℕ) → both ≡ value_or one wanted kind value
    → cond b (Some first) both ≡ value_or (cond b (Some first) one) wanted kind value
later true first one both wanted kind value e = refl
later false first one both wanted kind value e = e

-- one more attribute
value_push : (wanted : ℕ) (is : List Item) (i : Item) → first_of_kind wanted (is ++ i ∷ []) ≡ value_or (first_of_kind wanted is) wanted i.kind i.value
value_push wanted [] i = refl
value_push wanted (j ∷ is) i = later (j.kind == wanted) j.value (first_of_kind wanted is) (first_of_kind wanted (is ++ i ∷ [])) wanted i.kind i.value (value_push wanted is i)

-- bytes are read as far as the rest, and the value is the one in what was read
pub record IsValuedTo (bytes : List ℕ) (wanted : ℕ) (value : Option (List ℕ)) (marks : List Bool) (rest : List ℕ) : Type 0 where
  pub is : List Item
  pub read : IsReadTo tables.Aka bytes is marks rest
  pub found : value ≡ first_of_kind wanted is

-- before the first attribute there is no value
pub value_begins : (bytes : List ℕ) (wanted : ℕ) (marks : List Bool) → Marks marks [] → IsValuedTo bytes wanted None marks bytes
value_begins bytes wanted marks m = record { is = []; read = begins tables.Aka bytes marks m; found = refl }

-- one more attribute is read, and the value is still the first
pub value_goes_on : (bytes : List ℕ) (wanted : ℕ) (value after_value : Option (List ℕ)) (marks after : List Bool) (rest : List ℕ) (stood : Bool) (i : Item) (more : List ℕ)
    → IsValuedTo bytes wanted value marks rest → ((ks : List ℕ) → Marks marks ks → stood ≡ stands_in ks (kind_at rest)) → ((seen : List ℕ) → stood ≡ stands_in seen (kind_at rest) → IsAttr seen i rest more)
    → after_value ≡ value_or value wanted i.kind i.value → ((ks : List ℕ) → Marks marks ks → Marks after (ks ++ i.kind ∷ [])) → IsValuedTo bytes wanted after_value after more
value_goes_on bytes wanted value after_value marks after rest stood i more p tells found f m =
    record {
      is = p.is ++ i ∷ [];
      read = goes_on tables.Aka bytes p.is marks after rest stood i more p.read tells found m;
      found = f ∙ ap (λ (o : Option (List ℕ)). value_or o wanted i.kind i.value) p.found ∙ sym (value_push wanted p.is i);
    }

-- attributes with a fault have no value
pub value_faulty : (bytes : List ℕ) (wanted : ℕ) (value : Option (List ℕ)) (marks : List Bool) (rest : List ℕ) (stood : Bool) (f : AttrRefusal)
    → IsValuedTo bytes wanted value marks rest → ((ks : List ℕ) → Marks marks ks → stood ≡ stands_in ks (kind_at rest)) → ((seen : List ℕ) → stood ≡ stands_in seen (kind_at rest) → IsFault seen rest f)
    → IsValueIn wanted bytes None
value_faulty bytes wanted value marks rest stood f p tells fault = (p.is, Some f, faulty tables.Aka bytes p.is marks rest stood f p.read tells fault, refl)

-- attributes that end have the value that was found
pub value_ended : (bytes : List ℕ) (wanted : ℕ) (value : Option (List ℕ)) (marks : List Bool) (rest : List ℕ) → IsValuedTo bytes wanted value marks rest → length rest ≡ 0 → IsValueIn wanted bytes value
value_ended bytes wanted value marks rest p e = (p.is, None, ended tables.Aka bytes p.is marks rest p.read e, p.found)
