-- What the steps find is what stands there, and the other way round.
use Rattle.std.proofs.Common.{◌≡◌, ℕ, ◌+◌, ◌<◌, ◌≤◌, ◌⊎◌, Bool, true, false, cond, not, ◌||◌, ◌==◌, nat_lt, nat_le, List, [], ◌∷◌, ◌++◌, length, get_or, take, drop, Ok, refl, sym, ap, ◌∙◌, subst, arith, inl, inr, append_assoc, length-append, length-drop, drop-cons}
use Rattle.std.specs.Int.{w16, to_be_bytes}
use Rattle.std.proofs.lemmas.Bool.{eqb-true, ltb-false, le-ltb}
use Rattle.std.proofs.lemmas.Bool.Decides.{nat_tests}
use Rattle.std.proofs.lemmas.List.{take_at, take-append-drop, length-take, get_or-take, drop-drop, drop-append-le}
use Rattle.std.proofs.lemmas.Nat.{from_be_bytes-to_be_bytes_2}
use Rattle.auc_attr.specs.declared.frame.FrameFault.TheVariants as faults
use Rattle.auc_attr.specs.declared.table.Table.{Table}
use Rattle.auc_attr.specs.declared.table.Table.TheVariants as tables
use Rattle.auc_attr.specs.Frame.{Frame, Ended, Named, Message, length_of, is_code, is_method_in, is_subtype_in, is_identity_in, end_code, message_code, IsEnded, IsIdentityPacket, IsNamedIn, IsMessageIn, IsFramedIn}
use Rattle.auc_attr.specs.InnerFrame.{is_wrong_length, typed_at, sized_at, frame_by_steps}
use Rattle.auc_attr.proofs.Tools.{IsBytes, IsBytes-drop, passed, ok_is, not-false}
use Rattle.auc_attr.proofs.ValueLemmas.{number_front}

-- ---- what stands there is found

-- as many bytes as a Length of at least 5 counts are enough
enough : (given size : ℕ) → size ≤ given → 5 ≤ size → (nat_lt given size || nat_lt size 5) ≡ false
enough given size h k = grind (arith, nat_tests)

-- four bytes are enough for a Length of 4
four : (given : ℕ) → 4 ≤ given → (nat_lt given 4 || false) ≡ false
four given h = grind (arith, nat_tests)

module _ (table : Table) where
  -- bytes of a code that exists are judged by their Length
  pub frame_steps : (bytes : List ℕ) → 4 ≤ length bytes → is_code (get_or bytes 0 0) ≡ true → frame_by_steps table bytes ≡ sized_at table (get_or bytes 0 0) (get_or bytes 1 0) (length_of bytes) bytes
  unfolding frame_by_steps
  frame_steps bytes long code = rw (le-ltb (length bytes) 4 long, code) refl

  -- a Success or Failure of right Length is one
  sized_ended : (code id size : ℕ) (bytes : List ℕ) → is_wrong_length code size (length bytes) ≡ false → nat_le 3 code ≡ true → sized_at table code id size bytes ≡ Ok (Ended (code == 3) id)
  sized_ended code id size bytes e f = rw (e, f) refl

  -- a Request or Response of right Length is judged by its type
  sized_typed : (code id size : ℕ) (bytes : List ℕ) → is_wrong_length code size (length bytes) ≡ false → nat_le 3 code ≡ false
      → sized_at table code id size bytes ≡ typed_at table (code == 1) id (get_or bytes 4 0) (take size bytes)
  sized_typed code id size bytes e f = rw (e, f) refl

  -- Success and Failure are found, whatever follows them
  ended_again : (success : Bool) (id : ℕ) (past : List ℕ) → frame_by_steps table (end_code success ∷ id ∷ 0 ∷ 4 ∷ past) ≡ Ok (Ended success id)
  ended_again true id past =
      let bytes = 3 ∷ id ∷ 0 ∷ 4 ∷ past in
      let long : 4 ≤ length bytes = omega arith in
      frame_steps bytes long refl ∙ sized_ended 3 id 4 bytes (four (length bytes) long) refl
  ended_again false id past =
      let bytes = 4 ∷ id ∷ 0 ∷ 4 ∷ past in
      let long : 4 ≤ length bytes = omega arith in
      frame_steps bytes long refl ∙ sized_ended 4 id 4 bytes (four (length bytes) long) refl

  -- a Request or Response whose Length is the number of bytes up to what follows it
  typed_code : (code id size : ℕ) (front past : List ℕ) → is_code code ≡ true → nat_le 3 code ≡ false → size < 65536 → length front + 4 ≡ size → 1 ≤ length front
      → frame_by_steps table (code ∷ id ∷ (to_be_bytes w16 size ++ (front ++ past)))
      ≡ typed_at table (code == 1) id (get_or (front ++ past) 0 0) (code ∷ id ∷ (to_be_bytes w16 size ++ front))
  typed_code code id size front past known below small whole some =
      let bytes = code ∷ id ∷ (to_be_bytes w16 size ++ (front ++ past)) in
      let inner = code ∷ id ∷ (to_be_bytes w16 size ++ front) in
      let number : length_of bytes ≡ size = from_be_bytes-to_be_bytes_2 size small in
      let within : size ≤ length bytes = omega (arith, length-append front past) in
      let right : is_wrong_length code size (length bytes) ≡ false = rw below (enough (length bytes) size within (omega arith)) in
      frame_steps bytes (omega arith) known
      ∙ ap (λ (n : ℕ). sized_at table code id n bytes) number
      ∙ sized_typed code id size bytes right below
      ∙ ap (λ (b : List ℕ). typed_at table (code == 1) id (get_or (front ++ past) 0 0) b) (take_at inner past size (omega arith))

-- Identity is found, whatever follows it
named_again : (request : Bool) (id : ℕ) (text past : List ℕ) → 5 + length text < 65536
    → frame_by_steps tables.Aka (message_code request ∷ id ∷ (to_be_bytes w16 (5 + length text) ++ (1 ∷ (text ++ past)))) ≡ Ok (Named request id text)
named_again true id text past small = typed_code tables.Aka 1 id (5 + length text) (1 ∷ text) past refl refl small (omega arith) (omega arith)
named_again false id text past small = typed_code tables.Aka 2 id (5 + length text) (1 ∷ text) past refl refl small (omega arith) (omega arith)

-- the type of a method is not that of Identity
not_identity : (table : Table) (kind : ℕ) → is_method_in table kind ≡ true → is_identity_in table kind ≡ false
not_identity tables.Aka kind e = grind (arith, nat_tests)
not_identity tables.Sim kind e = refl

-- an Identity that stands there is found
named_steps : (table : Table) (request : Bool) (id : ℕ) (text bytes : List ℕ) → IsNamedIn table request id text bytes → frame_by_steps table bytes ≡ Ok (Named request id text)
named_steps tables.Aka request id text bytes p = ap (λ (b : List ℕ). frame_by_steps tables.Aka b) p.parts ∙ named_again request id text p.past p.size
named_steps tables.Sim request id text bytes p = absurd p

module _ (table : Table) where
  -- a message of a known method and Subtype is found
  typed_message : (request : Bool) (id kind : ℕ) (bytes : List ℕ) → is_method_in table kind ≡ true → 8 ≤ length bytes → is_subtype_in table (get_or bytes 5 0) ≡ true
      → typed_at table request id kind bytes ≡ Ok (Message request id kind (get_or bytes 5 0) (drop 8 bytes))
  typed_message request id kind bytes m long s = rw (not_identity table kind m, m, le-ltb (length bytes) 8 long, s) refl

  -- a message is found, whatever its reserved bytes are and whatever follows it
  message_again : (request : Bool) (id kind subtype : ℕ) (reserved attrs past : List ℕ) → is_method_in table kind ≡ true → is_subtype_in table subtype ≡ true → length reserved ≡ 2 → 8 + length attrs < 65536
      → frame_by_steps table (message_code request ∷ id ∷ (to_be_bytes w16 (8 + length attrs) ++ (kind ∷ subtype ∷ (reserved ++ (attrs ++ past))))) ≡ Ok (Message request id kind subtype attrs)
  message_again request id kind subtype [] attrs past m s two small = absurd (omega arith)
  message_again request id kind subtype (a ∷ []) attrs past m s two small = absurd (omega arith)
  message_again true id kind subtype (a ∷ b ∷ []) attrs past m s two small =
      typed_code table 1 id (8 + length attrs) (kind ∷ subtype ∷ a ∷ b ∷ attrs) past refl refl small (omega arith) (omega arith)
      ∙ typed_message true id kind (1 ∷ id ∷ (to_be_bytes w16 (8 + length attrs) ++ (kind ∷ subtype ∷ a ∷ b ∷ attrs))) m (omega arith) s
  message_again false id kind subtype (a ∷ b ∷ []) attrs past m s two small =
      typed_code table 2 id (8 + length attrs) (kind ∷ subtype ∷ a ∷ b ∷ attrs) past refl refl small (omega arith) (omega arith)
      ∙ typed_message false id kind (2 ∷ id ∷ (to_be_bytes w16 (8 + length attrs) ++ (kind ∷ subtype ∷ a ∷ b ∷ attrs))) m (omega arith) s
  message_again request id kind subtype (a ∷ b ∷ c ∷ reserved) attrs past m s two small = absurd (omega arith)

  -- what stands there is found
  pub steps_again : (f : Frame) (bytes : List ℕ) → IsFramedIn table f bytes → frame_by_steps table bytes ≡ Ok f
  steps_again (Ended success id) bytes p = ap (λ (b : List ℕ). frame_by_steps table b) p.parts ∙ ended_again table success id p.past
  steps_again (Named request id text) bytes p = named_steps table request id text bytes p
  steps_again (Message request id kind subtype attrs) bytes p =
      ap (λ (b : List ℕ). frame_by_steps table b) p.parts ∙ message_again request id kind subtype p.reserved attrs p.past p.method p.known p.two p.size

-- ---- what is found stands there

-- which of two answers a test chose
chosen : {A : Type 0} (b : Bool) (x y z : A) → cond b x y ≡ z → ((b ≡ true) × (x ≡ z)) ⊎ ((b ≡ false) × (y ≡ z))
chosen true x y z e = inl (refl, e)
chosen false x y z e = inr (refl, e)

-- bytes are code, Identifier, the two bytes of Length and what follows them
header : (bytes : List ℕ) → 4 ≤ length bytes → IsBytes bytes → bytes ≡ get_or bytes 0 0 ∷ get_or bytes 1 0 ∷ (to_be_bytes w16 (length_of bytes) ++ drop 4 bytes)
header [] long fits = absurd (omega arith)
header (a ∷ []) long fits = absurd (omega arith)
header (a ∷ b ∷ rest) long fits =
    ap (λ (r : List ℕ). a ∷ b ∷ r)
    (sym (take-append-drop 2 rest) ∙ ap (λ (f : List ℕ). f ++ drop 2 rest) (sym (number_front rest (omega arith) (IsBytes-drop 2 (a ∷ b ∷ rest) fits))))

-- Length has 16 bits
length_below : (bytes : List ℕ) → IsBytes bytes → length_of bytes < 65536
length_below bytes fits = omega (arith, IsBytes-drop 2 bytes fits 0, IsBytes-drop 2 bytes fits 1)

-- bytes from the fifth on, as far as Length says and past it
tail_is : (bytes : List ℕ) (size : ℕ) → 5 ≤ size → size ≤ length bytes → drop 4 bytes ≡ get_or bytes 4 0 ∷ (drop 5 (take size bytes) ++ drop size bytes)
tail_is bytes size some within =
    let t = take size bytes in
    let long : length t ≡ size = omega (arith, length-take size bytes) in
    ap (λ (b : List ℕ). drop 4 b) (sym (take-append-drop size bytes))
    ∙ drop-append-le 4 t (drop size bytes) (omega arith)
    ∙ ap (λ (b : List ℕ). b ++ drop size bytes) (drop-cons t 4 0 (omega arith))
    ∙ ap (λ (x : ℕ). x ∷ (drop 5 t ++ drop size bytes)) (get_or-take size bytes 4 0 (omega arith))

-- an Identity that is found stands in the bytes
named_sound : (request : Bool) (id : ℕ) (bytes : List ℕ) → IsBytes bytes → get_or bytes 0 0 ≡ message_code request → get_or bytes 1 0 ≡ id → 5 ≤ length_of bytes → length_of bytes ≤ length bytes
    → get_or bytes 4 0 ≡ 1 → IsIdentityPacket request id (drop 5 (take (length_of bytes) bytes)) bytes
named_sound request id bytes fits code ident some within one =
    let size = length_of bytes in
    let text = drop 5 (take size bytes) in
    let whole : size ≡ 5 + length text = omega (arith, length-drop 5 (take size bytes), length-take size bytes) in
    record {
      size = omega (arith, length_below bytes fits, whole);
      past = drop size bytes;
      parts =
          header bytes (omega arith) fits
          ∙ ap (λ (x : ℕ). x ∷ get_or bytes 1 0 ∷ (to_be_bytes w16 size ++ drop 4 bytes)) code
          ∙ ap (λ (x : ℕ). message_code request ∷ x ∷ (to_be_bytes w16 size ++ drop 4 bytes)) ident
          ∙ ap (λ (r : List ℕ). message_code request ∷ id ∷ (to_be_bytes w16 size ++ r)) (tail_is bytes size some within)
          ∙ ap (λ (x : ℕ). message_code request ∷ id ∷ (to_be_bytes w16 size ++ (x ∷ (text ++ drop size bytes)))) one
          ∙ ap (λ (n : ℕ). message_code request ∷ id ∷ (to_be_bytes w16 n ++ (1 ∷ (text ++ drop size bytes)))) whole;
    }

-- bytes whose type is Identity's are one
named_in : (table : Table) (request : Bool) (id kind : ℕ) (text bytes : List ℕ) → is_identity_in table kind ≡ true → (kind ≡ 1 → IsIdentityPacket request id text bytes) → IsNamedIn table request id text bytes
named_in tables.Aka request id kind text bytes e f = f (eqb-true kind 1 e)
named_in tables.Sim request id kind text bytes e f = absurd cc

-- bytes from the sixth on
rest_is : (t : List ℕ) → 8 ≤ length t → drop 5 t ≡ get_or t 5 0 ∷ (take 2 (drop 6 t) ++ drop 8 t)
rest_is t long =
    drop-cons t 5 0 (omega arith)
    ∙ ap (λ (r : List ℕ). get_or t 5 0 ∷ r) (sym (take-append-drop 2 (drop 6 t)) ∙ ap (λ (r : List ℕ). take 2 (drop 6 t) ++ r) (drop-drop 2 6 t))

module _ (table : Table) where
  -- a message that is found stands in the bytes
  message_sound : (request : Bool) (id : ℕ) (bytes : List ℕ) → IsBytes bytes → get_or bytes 0 0 ≡ message_code request → get_or bytes 1 0 ≡ id → length_of bytes ≤ length bytes
      → is_method_in table (get_or bytes 4 0) ≡ true → 8 ≤ length (take (length_of bytes) bytes) → is_subtype_in table (get_or (take (length_of bytes) bytes) 5 0) ≡ true
      → IsMessageIn table request id (get_or bytes 4 0) (get_or (take (length_of bytes) bytes) 5 0) (drop 8 (take (length_of bytes) bytes)) bytes
  message_sound request id bytes fits code ident within m long s =
      let size = length_of bytes in
      let t = take size bytes in
      let kind = get_or bytes 4 0 in
      let subtype = get_or t 5 0 in
      let attrs = drop 8 t in
      let free = take 2 (drop 6 t) in
      let past = drop size bytes in
      let some : 8 ≤ size = omega (arith, length-take size bytes) in
      let whole : size ≡ 8 + length attrs = omega (arith, length-drop 8 t, length-take size bytes) in
      record {
        method = m;
        known = s;
        size = omega (arith, length_below bytes fits, whole);
        reserved = free;
        two = omega (arith, length-take 2 (drop 6 t), length-drop 6 t);
        past = past;
        parts =
            header bytes (omega arith) fits
            ∙ ap (λ (x : ℕ). x ∷ get_or bytes 1 0 ∷ (to_be_bytes w16 size ++ drop 4 bytes)) code
            ∙ ap (λ (x : ℕ). message_code request ∷ x ∷ (to_be_bytes w16 size ++ drop 4 bytes)) ident
            ∙ ap (λ (r : List ℕ). message_code request ∷ id ∷ (to_be_bytes w16 size ++ r)) (tail_is bytes size (omega arith) within)
            ∙ ap (λ (r : List ℕ). message_code request ∷ id ∷ (to_be_bytes w16 size ++ (kind ∷ (r ++ past)))) (rest_is t long)
            ∙ ap (λ (r : List ℕ). message_code request ∷ id ∷ (to_be_bytes w16 size ++ (kind ∷ subtype ∷ r))) (append_assoc free attrs past)
            ∙ ap (λ (n : ℕ). message_code request ∷ id ∷ (to_be_bytes w16 n ++ (kind ∷ subtype ∷ (free ++ (attrs ++ past))))) whole;
      }

  -- a Request or Response that is found stands in the bytes
  typed_sound : (request : Bool) (id : ℕ) (bytes : List ℕ) (f : Frame) → IsBytes bytes → get_or bytes 0 0 ≡ message_code request → get_or bytes 1 0 ≡ id → 5 ≤ length_of bytes → length_of bytes ≤ length bytes
      → typed_at table request id (get_or bytes 4 0) (take (length_of bytes) bytes) ≡ Ok f → IsFramedIn table f bytes
  typed_sound request id bytes f fits code ident some within e =
      let t = take (length_of bytes) bytes in
      let kind = get_or bytes 4 0 in
      elim (chosen (is_identity_in table kind) _ _ (Ok f) e) [
        | inl h ↦ subst (λ (g : Frame). IsFramedIn table g bytes) (ok_is (Named request id (drop 5 t)) f h.1) (named_in table request id kind (drop 5 t) bytes h.0 (named_sound request id bytes fits code ident some within))
        | inr h ↦
            let p = passed (not (is_method_in table kind)) (faults.OtherType kind) _ f h.1 in
            let q = passed (nat_lt (length t) 8) faults.LengthDisagrees _ f p.1 in
            let r = passed (not (is_subtype_in table (get_or t 5 0))) (faults.UnknownSubtype (get_or t 5 0)) _ f q.1 in
            subst (λ (g : Frame). IsFramedIn table g bytes) (ok_is (Message request id kind (get_or t 5 0) (drop 8 t)) f r.1)
            (message_sound request id bytes fits code ident within (not-false _ p.0) (ltb-false (length t) 8 q.0) (not-false _ r.0))
      ]

-- what a right Length says
record IsRight (code size given : ℕ) : Type 0 where
  within : size ≤ given
  least : nat_le 3 code ≡ false → 5 ≤ size
  whole : nat_le 3 code ≡ true → size ≡ 4

-- a Length that is not wrong is right
right_is : (code size given : ℕ) → is_wrong_length code size given ≡ false → IsRight code size given
right_is code size given e = record { within = grind (arith, nat_tests); least = λ h. grind (arith, nat_tests); whole = λ h. grind (arith, nat_tests) }

-- the code of a Success or Failure is 3 or 4
end_is : (code : ℕ) → is_code code ≡ true → nat_le 3 code ≡ true → code ≡ end_code (code == 3)
end_is code e f = grind (arith, nat_tests)

-- the code of a Request or Response is 1 or 2
message_is : (code : ℕ) → is_code code ≡ true → nat_le 3 code ≡ false → code ≡ message_code (code == 1)
message_is code e f = grind (arith, nat_tests)

-- a Success or Failure that is found stands in the bytes
ended_sound : (bytes : List ℕ) → IsBytes bytes → 4 ≤ length bytes → get_or bytes 0 0 ≡ end_code (get_or bytes 0 0 == 3) → length_of bytes ≡ 4
    → IsEnded (get_or bytes 0 0 == 3) (get_or bytes 1 0) bytes
ended_sound bytes fits long code size = record {
  past = drop 4 bytes;
  parts =
      header bytes long fits
      ∙ ap (λ (n : ℕ). get_or bytes 0 0 ∷ get_or bytes 1 0 ∷ (to_be_bytes w16 n ++ drop 4 bytes)) size
      ∙ ap (λ (x : ℕ). x ∷ get_or bytes 1 0 ∷ (to_be_bytes w16 4 ++ drop 4 bytes)) code;
}

module _ (table : Table) where
  -- what is found stands there
  pub steps_sound : (bytes : List ℕ) (f : Frame) → IsBytes bytes → frame_by_steps table bytes ≡ Ok f → IsFramedIn table f bytes
  unfolding frame_by_steps
  steps_sound bytes f fits e =
      let code = get_or bytes 0 0 in
      let id = get_or bytes 1 0 in
      let size = length_of bytes in
      let p = passed (nat_lt (length bytes) 4) faults.Short _ f e in
      let q = passed (not (is_code code)) faults.BadCode _ f p.1 in
      let r = passed (is_wrong_length code size (length bytes)) faults.LengthDisagrees _ f q.1 in
      let known = not-false (is_code code) q.0 in
      let right = right_is code size (length bytes) r.0 in
      let long = ltb-false (length bytes) 4 p.0 in
      elim (chosen (nat_le 3 code) _ _ (Ok f) r.1) [
        | inl h ↦ subst (λ (g : Frame). IsFramedIn table g bytes) (ok_is (Ended (code == 3) id) f h.1) (ended_sound bytes fits long (end_is code known h.0) (right.whole h.0))
        | inr h ↦ typed_sound table (code == 1) id bytes f fits (message_is code known h.0) refl (right.least h.0) right.within h.1
      ]

  -- the attributes of a message stand within its Length
  pub attrs_within_in : (request : Bool) (id kind subtype : ℕ) (attrs bytes : List ℕ) → IsMessageIn table request id kind subtype attrs bytes
      → (length_of bytes ≡ 8 + length attrs) × (length_of bytes ≤ length bytes)
  attrs_within_in request id kind subtype attrs bytes p =
      let number : length_of bytes ≡ 8 + length attrs = ap (λ (b : List ℕ). length_of b) p.parts ∙ from_be_bytes-to_be_bytes_2 (8 + length attrs) p.size in
      (number, omega (arith, number, ap length p.parts, length-append p.reserved (attrs ++ p.past), length-append attrs p.past, p.two))
