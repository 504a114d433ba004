-- Bytes have one reading, or one first fault; and reading them from the front.
use Rattle.std.proofs.Common.{◌≡◌, ℕ, Bool, true, List, [], ◌∷◌, ◌++◌, length, get_or, map, Option, Some, None, refl, sym, ap, ◌∙◌, subst, append_assoc}
use Rattle.std.specs.List.{list_all}
use Rattle.std.proofs.lemmas.List.{append-nil, map_push, nil_from_length}
use Rattle.auc_attr.specs.declared.attr.Attr.{Attr}
use Rattle.auc_attr.specs.declared.refusal.AttrRefusal.{AttrRefusal}
use Rattle.auc_attr.specs.declared.refusal.AttrRefusal.TheVariants as refusal
use Rattle.auc_attr.specs.declared.table.Table.{Table}
use Rattle.auc_attr.specs.declared.table.Table.TheVariants as tables
use Rattle.auc_attr.specs.Fault.{kind_at}
use Rattle.auc_attr.specs.Item.{Item, item_of, items, is_named}
use Rattle.auc_attr.specs.InnerFront.{item_at}
use Rattle.auc_attr.specs.Grammar.{IsAttrIn, IsFaultIn, EndsIn, WalksIn, ReadsIn, FirstFaultIn, IsAttr}
use Rattle.auc_attr.specs.Laws.{is_value}
use Rattle.auc_attr.specs.Seen.{Marks}
use Rattle.auc_attr.specs.Spelling.{stands_in}
use Rattle.auc_attr.proofs.Tools.{and_parts, and_from, ok_is, some_is}
use Rattle.auc_attr.proofs.ItemLemmas.{attr_again}
use Rattle.auc_attr.proofs.FaultLemmas.{attr_right}

-- the types of attributes
abbrev pub kinds : List Item → List ℕ
kinds is = map (λ (i : Item). i.kind) is

module _ (table : Table) where
  -- at a place there is one fault
  one_fault : (seen bytes : List ℕ) (e f : AttrRefusal) → IsFaultIn table seen bytes e → IsFaultIn table seen bytes f → e ≡ f
  one_fault seen bytes e f p q = some_is e f (sym p.first ∙ q.first)

  -- at a place the bytes end, or have one fault
  one_end : (seen bytes : List ℕ) (e f : Option AttrRefusal) → EndsIn table seen bytes e → EndsIn table seen bytes f → e ≡ f
  one_end seen bytes None None p q = refl
  one_end seen bytes None (Some f) p q = absurd (q.some p)
  one_end seen bytes (Some e) None p q = absurd (p.some q)
  one_end seen bytes (Some e) (Some f) p q = ap (λ x. Some x) (one_fault seen bytes e f p q)

  -- if an attribute stands there, the bytes don't end, nor is there a fault
  no_end : (seen : List ℕ) (i : Item) (bytes rest : List ℕ) (e : Option AttrRefusal) → IsAttrIn table seen i bytes rest → EndsIn table seen bytes e → ⊥
  no_end seen i bytes rest None p q = not_empty _ _ (sym p.parts ∙ q)
    where
      not_empty : (k : ℕ) (b : List ℕ) → k ∷ b ≡ [] → ⊥
      not_empty k b h = cc
  no_end seen i bytes rest (Some f) p q = attr_right table seen i bytes rest f p q

  -- one attribute stands at the front
  one_attr : (seen : List ℕ) (i j : Item) (bytes r s : List ℕ) → IsAttrIn table seen i bytes r → IsAttrIn table seen j bytes s → (i ≡ j) × (r ≡ s)
  one_attr seen i j bytes r s p q =
      let kinds : i.kind ≡ j.kind = ap (λ (b : List ℕ). get_or b 0 0) (sym p.parts ∙ q.parts) in
      let both : ◌≡◌ {A = Item × List ℕ} (i, r) (j, s) =
      ok_is _ _ (sym (attr_again table seen i bytes r p) ∙ ap (λ k. item_at table (stands_in seen k) bytes) kinds ∙ attr_again table seen j bytes s q) in
      (ap (λ (x : Item × List ℕ). x.0) both, ap (λ (x : Item × List ℕ). x.1) both)

  -- bytes have one reading, or one first fault
  pub one_walk_in : (seen bytes : List ℕ) (is js : List Item) (e f : Option AttrRefusal) → WalksIn table seen bytes is e → WalksIn table seen bytes js f → (is ≡ js) × (e ≡ f)
  one_walk_in seen bytes [] [] e f p q = (refl, one_end seen bytes e f p q)
  one_walk_in seen bytes [] (j ∷ js) e f p q = absurd (no_end seen j bytes q.0 e q.1 p)
  one_walk_in seen bytes (i ∷ is) [] e f p q = absurd (no_end seen i bytes p.0 f p.1 q)
  one_walk_in seen bytes (i ∷ is) (j ∷ js) e f p q =
      let front = one_attr seen i j bytes p.0 q.0 p.1 q.1 in
      let moved : WalksIn table (seen ++ i.kind ∷ []) p.0 js f =
      subst (λ (r : List ℕ). WalksIn table (seen ++ i.kind ∷ []) r js f) (sym front.1) (subst (λ (k : Item). WalksIn table (seen ++ k.kind ∷ []) q.0 js f) (sym front.0) q.2) in
      let more = one_walk_in (seen ++ i.kind ∷ []) p.0 is js e f p.2 moved in
      (ap (λ (k : Item). k ∷ is) front.0 ∙ ap (λ (x : List Item). j ∷ x) more.0, more.1)

  -- whatever the rest of the bytes is, the bytes are these attributes and then that
  abbrev pub Completes : List ℕ → List Item → List ℕ → Type 0
  Completes bytes is rest = (more : List Item) (end : Option AttrRefusal) → WalksIn table (kinds is) rest more end → WalksIn table [] bytes (is ++ more) end

  -- bytes are read as far as the rest
  pub record IsReadTo (bytes : List ℕ) (is : List Item) (marks : List Bool) (rest : List ℕ) : Type 0 where
    pub marked : Marks marks (kinds is)
    pub completes : Completes bytes is rest

  -- nothing is read at first
  pub begins : (bytes : List ℕ) (marks : List Bool) → Marks marks [] → IsReadTo bytes [] marks bytes
  begins bytes marks m = record { marked = m; completes = λ more end w. w }

  -- one more attribute is read, by what its mark said of its type
  pub goes_on : (bytes : List ℕ) (is : List Item) (marks after : List Bool) (rest : List ℕ) (stood : Bool) (i : Item) (more : List ℕ) → IsReadTo bytes is marks rest
      → ((ks : List ℕ) → Marks marks ks → stood ≡ stands_in ks (kind_at rest)) → ((seen : List ℕ) → stood ≡ stands_in seen (kind_at rest) → IsAttrIn table seen i rest more)
      → ((ks : List ℕ) → Marks marks ks → Marks after (ks ++ i.kind ∷ [])) → IsReadTo bytes (is ++ i ∷ []) after more
  goes_on bytes is marks after rest stood i more p tells found m =
      let types : kinds (is ++ i ∷ []) ≡ kinds is ++ i.kind ∷ [] = map_push (λ (x : Item). x.kind) is i in
      let attr : IsAttrIn table (kinds is) i rest more = found (kinds is) (tells (kinds is) p.marked) in
      record {
        marked = subst (λ (ks : List ℕ). Marks after ks) (sym types) (m (kinds is) p.marked);
        completes = λ others end w.
            subst (λ (x : List Item). WalksIn table [] bytes x end) (sym (append_assoc is (i ∷ []) others))
            (p.completes (i ∷ others) end (more, attr, subst (λ (ks : List ℕ). WalksIn table ks more others end) types w));
      }

  -- a fault after attributes is the first
  fault_of : (bytes : List ℕ) (f : AttrRefusal) (is : List Item) → WalksIn table [] bytes is (Some f) → FirstFaultIn table bytes f
  fault_of bytes refusal.Truncated is w = (is, w)
  fault_of bytes refusal.ZeroLength is w = (is, w)
  fault_of bytes (refusal.BadLength k) is w = (is, w)
  fault_of bytes (refusal.UnknownType k) is w = (is, w)
  fault_of bytes (refusal.Twice k) is w = (is, w)
  fault_of bytes refusal.BadPadding is w = (is, w)
  fault_of bytes refusal.NoMemory is w = tt

  -- a fault at the front of the rest is the first
  pub faulty : (bytes : List ℕ) (is : List Item) (marks : List Bool) (rest : List ℕ) (stood : Bool) (f : AttrRefusal) → IsReadTo bytes is marks rest
      → ((ks : List ℕ) → Marks marks ks → stood ≡ stands_in ks (kind_at rest)) → ((seen : List ℕ) → stood ≡ stands_in seen (kind_at rest) → IsFaultIn table seen rest f) → WalksIn table [] bytes is (Some f)
  faulty bytes is marks rest stood f p tells fault =
      subst (λ (x : List Item). WalksIn table [] bytes x (Some f)) (append-nil is)
      (p.completes [] (Some f) (fault (kinds is) (tells (kinds is) p.marked)))

  -- a fault at the front of the rest is the first of the bytes
  pub first_fault : (bytes : List ℕ) (is : List Item) (marks : List Bool) (rest : List ℕ) (stood : Bool) (f : AttrRefusal) → IsReadTo bytes is marks rest
      → ((ks : List ℕ) → Marks marks ks → stood ≡ stands_in ks (kind_at rest)) → ((seen : List ℕ) → stood ≡ stands_in seen (kind_at rest) → IsFaultIn table seen rest f) → FirstFaultIn table bytes f
  first_fault bytes is marks rest stood f p tells fault = fault_of bytes f is (faulty bytes is marks rest stood f p tells fault)

  -- if nothing is left, all was read
  pub ended : (bytes : List ℕ) (is : List Item) (marks : List Bool) (rest : List ℕ) → IsReadTo bytes is marks rest → length rest ≡ 0 → ReadsIn table bytes is
  ended bytes is marks rest p e =
      subst (λ (x : List Item). WalksIn table [] bytes x None) (append-nil is) (p.completes [] None (nil_from_length rest e))

-- a list of attributes is read as far as the rest
pub record IsListedTo (bytes : List ℕ) (list : List Attr) (marks : List Bool) (rest : List ℕ) : Type 0 where
  pub read : IsReadTo tables.Aka bytes (items list) marks rest
  pub named : list_all is_named list ≡ true
  pub valued : list_all is_value list ≡ true

-- one more attribute that passes a test
all_push : (test : Attr → Bool) (list : List Attr) (a : Attr) → list_all test list ≡ true → test a ≡ true → list_all test (list ++ a ∷ []) ≡ true
all_push test [] a e f = and_from (test a) true f refl
all_push test (b ∷ list) a e f =
    let p = and_parts (test b) (list_all test list) e in
    and_from (test b) (list_all test (list ++ a ∷ [])) p.0 (all_push test list a p.1 f)

-- one more attribute is put on the list
pub list_goes_on : (bytes : List ℕ) (list longer : List Attr) (marks after : List Bool) (rest : List ℕ) (stood : Bool) (a : Attr) (i : Item) (more : List ℕ) → IsListedTo bytes list marks rest
    → ((ks : List ℕ) → Marks marks ks → stood ≡ stands_in ks (kind_at rest)) → ((seen : List ℕ) → stood ≡ stands_in seen (kind_at rest) → IsAttr seen i rest more)
    → item_of a ≡ i → is_named a ≡ true → is_value a ≡ true → longer ≡ list ++ a ∷ [] → ((ks : List ℕ) → Marks marks ks → Marks after (ks ++ i.kind ∷ []))
    → IsListedTo bytes longer after more
list_goes_on bytes list longer marks after rest stood a i more p tells found is named valued push m =
    let grown : items (list ++ a ∷ []) ≡ items list ++ i ∷ [] = map_push item_of list a ∙ ap (λ (x : Item). items list ++ x ∷ []) is in
    subst (λ (l : List Attr). IsListedTo bytes l after more) (sym push) (record {
      read = subst (λ (x : List Item). IsReadTo tables.Aka bytes x after more) (sym grown) (goes_on tables.Aka bytes (items list) marks after rest stood i more p.read tells found m);
      named = all_push is_named list a p.named named;
      valued = all_push is_value list a p.valued valued;
    })

-- the list is empty at first
pub list_begins : (bytes : List ℕ) (list : List Attr) (marks : List Bool) → list ≡ [] → Marks marks [] → IsListedTo bytes list marks bytes
list_begins bytes list marks e m =
    subst (λ (l : List Attr). IsListedTo bytes l marks bytes) (sym e) (record { read = begins tables.Aka bytes marks m; named = refl; valued = refl })
