-- Reading attributes from the front of bytes.
use Rattle.std.proofs.Common.{◌≡◌, ℕ, Bool, true, List, [], ◌∷◌, ◌++◌, length, sym, ap, ◌∙◌, refl, subst}
use Rattle.std.specs.List.{list_all}
use Rattle.std.proofs.lemmas.List.{map_push}
use Rattle.auc_attr.specs.declared.refusal.AttrRefusal.{AttrRefusal}
use Rattle.auc_attr.specs.declared.table.Table.TheVariants as tables
use Rattle.auc_attr.specs.Fault.{kind_at}
use Rattle.auc_attr.specs.Grammar.{IsAttrIn, IsFaultIn, FirstFaultIn}
use Rattle.auc_attr.specs.Item.{Item}
use Rattle.auc_attr.specs.Seen.{Marks}
use Rattle.auc_attr.specs.Spelling.{stands_in}
use Rattle.auc_attr.proofs.Facts as facts
use Rattle.auc_attr.proofs.Facts.{and_parts, and_from, IsReadTo}
use Rattle.auc_sim_packet.specs.declared.attr.SimAttr.{SimAttr}
use Rattle.auc_sim_packet.specs.Attributes.{item_of, items, is_named, is_value}
use Rattle.auc_sim_packet.specs.Packet.{ReadsSimAttrs}

-- a list of attributes is read as far as the rest
pub record IsListedTo (bytes : List ℕ) (list : List SimAttr) (marks : List Bool) (rest : List ℕ) : Type 0 where
  pub read : IsReadTo tables.Sim bytes (items list) marks rest
  pub named : list_all is_named list ≡ true
  pub valued : list_all is_value list ≡ true

-- the list is empty at first
pub list_begins : (bytes : List ℕ) (list : List SimAttr) (marks : List Bool) → list ≡ [] → Marks marks [] → IsListedTo bytes list marks bytes
list_begins bytes list marks e m =
    subst (λ (l : List SimAttr). IsListedTo bytes l marks bytes) (sym e) (record { read = facts.begins tables.Sim bytes marks m; named = refl; valued = refl })

-- one more attribute that passes a test
pub all_push : (test : SimAttr → Bool) (list : List SimAttr) (a : SimAttr) → list_all test list ≡ true → test a ≡ true → list_all test (list ++ a ∷ []) ≡ true
all_push test [] a e f = and_from (test a) true f refl
all_push test (b ∷ list) a e f =
    let p = and_parts (test b) (list_all test list) e in
    and_from (test b) (list_all test (list ++ a ∷ [])) p.0 (all_push test list a p.1 f)

-- what a mark of the type at the front says
abbrev pub Tells : List Bool → List ℕ → Bool → Type 0
Tells marks rest stood = (ks : List ℕ) → Marks marks ks → stood ≡ stands_in ks (kind_at rest)

-- one more attribute is put on the list
pub list_goes_on : (bytes : List ℕ) (list longer : List SimAttr) (marks after : List Bool) (rest : List ℕ) (stood : Bool) (a : SimAttr) (i : Item) (more : List ℕ)
    → IsListedTo bytes list marks rest → Tells marks rest stood → ((seen : List ℕ) → stood ≡ stands_in seen (kind_at rest) → IsAttrIn tables.Sim seen i rest more)
    → item_of a ≡ i → is_named a ≡ true → is_value a ≡ true → longer ≡ list ++ a ∷ []
    → ((ks : List ℕ) → Marks marks ks → Marks after (ks ++ i.kind ∷ [])) → IsListedTo bytes longer after more
list_goes_on bytes list longer marks after rest stood a i more p tells found is named valued push m =
    let grown : items (list ++ a ∷ []) ≡ items list ++ i ∷ [] = map_push item_of list a ∙ ap (λ (x : Item). items list ++ x ∷ []) is in
    subst (λ (l : List SimAttr). IsListedTo bytes l after more) (sym push) (record {
      read = subst (λ (x : List Item). IsReadTo tables.Sim bytes x after more) (sym grown) (facts.goes_on tables.Sim bytes (items list) marks after rest stood i more p.read tells found m);
      named = all_push is_named list a p.named named;
      valued = all_push is_value list a p.valued valued;
    })

-- a fault at the front of the rest is the first of the bytes
pub first_fault : (bytes : List ℕ) (list : List SimAttr) (marks : List Bool) (rest : List ℕ) (stood : Bool) (f : AttrRefusal) → IsListedTo bytes list marks rest
    → Tells marks rest stood → ((seen : List ℕ) → stood ≡ stands_in seen (kind_at rest) → IsFaultIn tables.Sim seen rest f) → FirstFaultIn tables.Sim bytes f
first_fault bytes list marks rest stood f p tells fault = facts.first_fault tables.Sim bytes (items list) marks rest stood f p.read tells fault

-- if nothing is left, all was read
pub ended : (bytes : List ℕ) (list : List SimAttr) (marks : List Bool) (rest : List ℕ) → IsListedTo bytes list marks rest → length rest ≡ 0 → ReadsSimAttrs bytes list
ended bytes list marks rest p e = (facts.ended tables.Sim bytes (items list) marks rest p.read e, p.named)
