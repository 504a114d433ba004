-- Finding the place of the message authentication code from the front.
use Rattle.std.proofs.Common.{◌≡◌, ℕ, ◌+◌, ◌-◌, ◌≤◌, Bool, true, false, cond, ◌==◌, List, [], ◌∷◌, ◌++◌, length, Option, Some, None, IfSome, refl, sym, ap, ◌∙◌, subst, arith, length-append}
use Rattle.std.proofs.lemmas.Bool.{eqb-true}
use Rattle.std.proofs.lemmas.List.{append-nil}
use Rattle.std.proofs.lemmas.List.Concat.{flat_map-append}
use Rattle.auc_attr.specs.declared.refusal.AttrRefusal.{AttrRefusal}
use Rattle.auc_attr.specs.declared.table.Row.{Row}
use Rattle.auc_attr.specs.declared.table.Shape.{Shape}
use Rattle.auc_attr.specs.declared.table.Shape.TheVariants as shape
use Rattle.auc_attr.specs.declared.table.Table.{Table}
use Rattle.auc_attr.specs.declared.table.Table.TheVariants as tables
use Rattle.auc_attr.specs.Table.{row_of, sim_row_of, row_in}
use Rattle.auc_attr.specs.Fault.{kind_at}
use Rattle.auc_attr.specs.Item.{Item}
use Rattle.auc_attr.specs.Grammar.{IsBody, IsAttrIn, IsFaultIn, WalksIn}
use Rattle.auc_attr.specs.Mac.{mac_from_in, IsMacAmongIn}
use Rattle.auc_attr.specs.Inner.{place_or}
use Rattle.auc_attr.specs.Seen.{Marks}
use Rattle.auc_attr.specs.Spelling.{stands_in, item_text_in, texts_in}
use Rattle.auc_attr.proofs.Tools.{some_is}
use Rattle.auc_attr.proofs.SpellingLemmas.{attr_size_in}
use Rattle.auc_attr.proofs.WalkLemmas.{kinds, IsReadTo, begins, goes_on, faulty, ended}

-- one more attribute after another one, which is AT_MAC or not
push_by_kind : (b : Bool) (start later total : ℕ) (one both : Option ℕ) (kind : ℕ) → both ≡ place_or one kind total
    → cond b (Some (start + 4)) both ≡ place_or (cond b (Some (start + 4)) one) kind total
push_by_kind true start later total one both kind e = refl
push_by_kind false start later total one both kind e = e

-- AT_MAC takes 20 bytes
mac_shape : (table : Table) (kind : ℕ) (row : Row) → kind ≡ 11 → row_in table kind ≡ Some row → row.shape ≡ shape.AfterReserved 16
unfolding row_of sim_row_of
mac_shape tables.Aka kind row e known = sym (ap (λ (r : Row). r.shape) (some_is (record { shape = shape.AfterReserved 16; once = true }) row (sym (ap (λ (k : ℕ). row_of k) e) ∙ known)))
mac_shape tables.Sim kind row e known = sym (ap (λ (r : Row). r.shape) (some_is (record { shape = shape.AfterReserved 16; once = true }) row (sym (ap (λ (k : ℕ). sim_row_of k) e) ∙ known)))

-- the body of AT_MAC has 18 bytes
mac_size : (body value : List ℕ) (s : Shape) → s ≡ shape.AfterReserved 16 → IsBody s body value → length body ≡ 18
mac_size body value s e p =
    let q = subst (λ (t : Shape). IsBody t body value) e p in
    ap length q.1.parts ∙ omega (arith, length-append q.1.free value, q.1.two, q.0)

-- a place within the rest is one within the whole
wider : (o : Option ℕ) (later start more all : ℕ) → later + more ≡ start + all → IfSome o (λ place. place + 16 ≤ later + more) → IfSome o (λ place. place + 16 ≤ start + all)
wider None later start more all e h = tt
wider (Some place) later start more all e h = omega (arith, h)

module _ (table : Table) where
  -- one more attribute
  mac_push : (start : ℕ) (is : List Item) (i : Item) → mac_from_in table start (is ++ i ∷ []) ≡ place_or (mac_from_in table start is) i.kind (start + length (texts_in table is))
  mac_push start [] i = ap (λ (n : ℕ). cond (i.kind == 11) (Some (n + 4)) None) (omega arith)
  mac_push start (j ∷ is) i =
      let later = start + length (item_text_in table j) in
      push_by_kind (j.kind == 11) start later (start + length (texts_in table (j ∷ is))) (mac_from_in table later is) (mac_from_in table later (is ++ i ∷ [])) i.kind
      (mac_push later is i ∙ ap (λ (n : ℕ). place_or (mac_from_in table later is) i.kind n) (omega (arith, length-append (item_text_in table j) (texts_in table is))))

  -- bytes are read as far as the rest, and the place is the one in what was read
  pub record IsPlacedTo (attrs : List ℕ) (place : Option ℕ) (marks : List Bool) (rest : List ℕ) : Type 0 where
    pub is : List Item
    pub read : IsReadTo table attrs is marks rest
    pub placed : place ≡ mac_from_in table 8 is
    pub size : length (texts_in table is) + length rest ≡ length attrs

  -- before the first attribute there is no place
  pub place_begins : (attrs : List ℕ) (marks : List Bool) → Marks marks [] → IsPlacedTo attrs None marks attrs
  place_begins attrs marks m = record { is = []; read = begins table attrs marks m; placed = refl; size = omega arith }

  -- the bytes of one more attribute stand after the others
  texts_push : (is : List Item) (i : Item) → texts_in table (is ++ i ∷ []) ≡ texts_in table is ++ item_text_in table i
  texts_push is i = flat_map-append (item_text_in table) is (i ∷ []) ∙ ap (λ (t : List ℕ). texts_in table is ++ t) (append-nil (item_text_in table i))

  -- one more attribute is read, and the place is still the first
  pub place_goes_on : (attrs : List ℕ) (place later : Option ℕ) (marks after : List Bool) (rest : List ℕ) (stood : Bool) (i : Item) (more : List ℕ)
      → IsPlacedTo attrs place marks rest → ((ks : List ℕ) → Marks marks ks → stood ≡ stands_in ks (kind_at rest)) → ((seen : List ℕ) → stood ≡ stands_in seen (kind_at rest) → IsAttrIn table seen i rest more)
      → later ≡ place_or place i.kind (8 + (length attrs - length rest)) → ((ks : List ℕ) → Marks marks ks → Marks after (ks ++ i.kind ∷ [])) → IsPlacedTo attrs later after more
  place_goes_on attrs place later marks after rest stood i more p tells found f m =
      let attr : IsAttrIn table (kinds p.is) i rest more = found (kinds p.is) (tells (kinds p.is) p.read.marked) in
      let start : 8 + (length attrs - length rest) ≡ 8 + length (texts_in table p.is) = omega (arith, p.size) in
      record {
        is = p.is ++ i ∷ [];
        read = goes_on table attrs p.is marks after rest stood i more p.read tells found m;
        placed = f ∙ ap (λ (o : Option ℕ). place_or o i.kind (8 + (length attrs - length rest))) p.placed
            ∙ ap (λ (n : ℕ). place_or (mac_from_in table 8 p.is) i.kind n) start ∙ sym (mac_push 8 p.is i);
        size = omega (arith, p.size, ap length (texts_push p.is i), length-append (texts_in table p.is) (item_text_in table i), attr_size_in table (kinds p.is) i rest more attr);
      }

  -- attributes with a fault have no place
  pub place_faulty : (attrs : List ℕ) (place : Option ℕ) (marks : List Bool) (rest : List ℕ) (stood : Bool) (f : AttrRefusal)
      → IsPlacedTo attrs place marks rest → ((ks : List ℕ) → Marks marks ks → stood ≡ stands_in ks (kind_at rest)) → ((seen : List ℕ) → stood ≡ stands_in seen (kind_at rest) → IsFaultIn table seen rest f)
      → IsMacAmongIn table attrs None
  place_faulty attrs place marks rest stood f p tells fault = (p.is, Some f, faulty table attrs p.is marks rest stood f p.read tells fault, refl)

  -- attributes that end have the place that was found
  pub place_ended : (attrs : List ℕ) (place : Option ℕ) (marks : List Bool) (rest : List ℕ) → IsPlacedTo attrs place marks rest → length rest ≡ 0 → IsMacAmongIn table attrs place
  place_ended attrs place marks rest p e = (p.is, None, ended table attrs p.is marks rest p.read e, p.placed)

  -- an AT_MAC takes 20 bytes
  mac_fits : (seen : List ℕ) (i : Item) (bytes rest : List ℕ) → IsAttrIn table seen i bytes rest → i.kind ≡ 11 → 20 ≤ length bytes
  mac_fits seen i bytes rest p e =
      omega (arith, ap length p.parts, length-append p.body rest, mac_size p.body i.value p.row.shape (mac_shape table i.kind p.row e p.known) p.value)

  -- the place is in this attribute, or after it
  within_by_kind : (seen : List ℕ) (start : ℕ) (bytes rest : List ℕ) (i : Item) (o : Option ℕ) (b : Bool) → IsAttrIn table seen i bytes rest → (i.kind == 11) ≡ b
      → IfSome o (λ place. place + 16 ≤ start + length bytes) → IfSome (cond b (Some (start + 4)) o) (λ place. place + 16 ≤ start + length bytes)
  within_by_kind seen start bytes rest i o true p e h = omega (arith, mac_fits seen i bytes rest p (eqb-true i.kind 11 e))
  within_by_kind seen start bytes rest i o false p e h = h

  -- the 16 bytes of AT_MAC's value stand in the attributes
  pub mac_within_in : (seen : List ℕ) (start : ℕ) (bytes : List ℕ) (is : List Item) (end : Option AttrRefusal) → WalksIn table seen bytes is end
      → IfSome (mac_from_in table start is) (λ place. place + 16 ≤ start + length bytes)
  mac_within_in seen start bytes [] end w = tt
  mac_within_in seen start bytes (i ∷ is) end w =
      let later = start + length (item_text_in table i) in
      within_by_kind seen start bytes w.0 i (mac_from_in table later is) (i.kind == 11) w.1 refl
      (wider (mac_from_in table later is) later start (length w.0) (length bytes) (omega (arith, attr_size_in table seen i bytes w.0 w.1)) (mac_within_in (seen ++ i.kind ∷ []) later w.0 is end w.2))

  -- the 16 bytes at the place that was found stand in the attributes
  pub place_within : (attrs : List ℕ) (place : Option ℕ) (marks : List Bool) (rest : List ℕ) → IsPlacedTo attrs place marks rest → length rest ≡ 0
      → IfSome place (λ found. found + 16 ≤ 8 + length attrs)
  place_within attrs place marks rest p e =
      subst (λ (o : Option ℕ). IfSome o (λ found. found + 16 ≤ 8 + length attrs)) (sym p.placed) (mac_within_in [] 8 attrs p.is None (ended table attrs p.is marks rest p.read e))
