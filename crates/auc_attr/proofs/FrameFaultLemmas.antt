-- The steps before the attributes report the first fault whose condition holds.
use Rattle.std.proofs.Common.{◌≡◌, ℕ, ◌≤◌, Bool, true, false, cond, not, ◌&&◌, ◌==◌, nat_lt, List, [], ◌∷◌, length, get_or, take, drop, Result, Ok, Err, IfOk, refl, sym, ap, ◌∙◌, subst, arith}
use Rattle.std.proofs.lemmas.Bool.Decides.{nat_tests}
use Rattle.std.proofs.lemmas.Bool.{ltb-false}
use Rattle.std.proofs.lemmas.List.{length-take, get_or-take}
use Rattle.auc_attr.specs.declared.frame.FrameFault.{FrameFault}
use Rattle.auc_attr.specs.declared.frame.FrameFault.TheVariants as faults
use Rattle.auc_attr.specs.declared.frame.Framed.{Framed}
use Rattle.auc_attr.specs.declared.table.Table.{Table}
use Rattle.auc_attr.specs.declared.table.Table.TheVariants as tables
use Rattle.auc_attr.specs.Conditions.{first_of, unless}
use Rattle.auc_attr.specs.Frame.{Frame, Ended, Named, Message, length_of, code_at, id_at, type_at, subtype_at, is_code, is_method_in, is_subtype_in, is_identity_in, is_ended, is_message_in, has_bad_length, has_other_type_in, faults_before, frame_faults, sim_frame_faults, frame_found_in, frame_at, sim_frame_at, frame_at_in, IsFramedIn}
use Rattle.auc_attr.specs.FrameView.{frame_of, Frames}
use Rattle.auc_attr.specs.InnerFrame.{is_wrong_length, typed_at, frame_by_steps}
use Rattle.auc_attr.proofs.ConditionLemmas.{step_unless}
use Rattle.auc_attr.proofs.FrameLemmas.{steps_again, steps_sound}
use Rattle.auc_attr.proofs.Tools.{IsBytes}

-- Identity has no further fault
no_method : (table : Table) (kind : ℕ) → is_identity_in table kind ≡ true → is_method_in table kind ≡ false
no_method tables.Aka kind e = grind (arith, nat_tests)
no_method tables.Sim kind e = absurd cc

module _ (table : Table) where
  -- the steps at a type that isn't Identity's
  method_steps : (m : Bool) (request : Bool) (id kind size subtype : ℕ) (these : List ℕ) → length these ≡ size → (8 ≤ size → get_or these 5 0 ≡ subtype)
      → cond (not m) (Err (faults.OtherType kind)) (cond (nat_lt (length these) 8) (Err faults.LengthDisagrees) (cond (not (is_subtype_in table (get_or these 5 0))) (Err (faults.UnknownSubtype (get_or these 5 0)))
      (Ok (Message request id kind (get_or these 5 0) (drop 8 these)))))
      ≡ unless (first_of ((not m, faults.OtherType kind) ∷ (m && nat_lt size 8, faults.LengthDisagrees) ∷ (m && not (is_subtype_in table subtype), faults.UnknownSubtype subtype) ∷ []))
      (Message request id kind subtype (drop 8 these))
  method_steps false request id kind size subtype these long same = refl
  method_steps true request id kind size subtype these long same =
      step_unless (nat_lt (length these) 8) (nat_lt size 8) faults.LengthDisagrees _ ((not (is_subtype_in table subtype), faults.UnknownSubtype subtype) ∷ []) (Message request id kind subtype (drop 8 these)) (ap (λ (n : ℕ). nat_lt n 8) long)
      (λ enough.
      ap (λ (s : ℕ). cond (not (is_subtype_in table s)) (Err (faults.UnknownSubtype s)) (Ok (Message request id kind s (drop 8 these)))) (same (omega (arith, long, ltb-false (length these) 8 enough)))
      ∙ step_unless (not (is_subtype_in table subtype)) (not (is_subtype_in table subtype)) (faults.UnknownSubtype subtype) (Ok (Message request id kind subtype (drop 8 these))) [] (Message request id kind subtype (drop 8 these)) refl (λ known. refl))

  -- the steps at a type
  typed_by : (b : Bool) (request : Bool) (id kind size subtype : ℕ) (these : List ℕ) → is_identity_in table kind ≡ b → length these ≡ size → (8 ≤ size → get_or these 5 0 ≡ subtype)
      → cond b (Ok (Named request id (drop 5 these)))
      (cond (not (is_method_in table kind)) (Err (faults.OtherType kind)) (cond (nat_lt (length these) 8) (Err faults.LengthDisagrees) (cond (not (is_subtype_in table (get_or these 5 0))) (Err (faults.UnknownSubtype (get_or these 5 0)))
      (Ok (Message request id kind (get_or these 5 0) (drop 8 these))))))
      ≡ unless (first_of ((not b && not (is_method_in table kind), faults.OtherType kind) ∷ (is_method_in table kind && nat_lt size 8, faults.LengthDisagrees) ∷ (is_method_in table kind && not (is_subtype_in table subtype), faults.UnknownSubtype subtype) ∷ []))
      (cond b (Named request id (drop 5 these)) (Message request id kind subtype (drop 8 these)))
  typed_by true request id kind size subtype these one long same =
      ap (λ m. unless (first_of ((false, faults.OtherType kind) ∷ (m && nat_lt size 8, faults.LengthDisagrees) ∷ (m && not (is_subtype_in table subtype), faults.UnknownSubtype subtype) ∷ [])) (Named request id (drop 5 these)))
      (sym (no_method table kind one))
  typed_by false request id kind size subtype these one long same = method_steps (is_method_in table kind) request id kind size subtype these long same

-- a right Length counts no more bytes than there are
within : (code size given : ℕ) → is_wrong_length code size given ≡ false → size ≤ given
within code size given e = grind (arith, nat_tests)

module _ (table : Table) where
  -- the steps after a right Length
  ended_by : (b : Bool) (bytes : List ℕ) → is_wrong_length (code_at bytes) (length_of bytes) (length bytes) ≡ false
      → cond b (Ok (Ended (code_at bytes == 3) (id_at bytes))) (typed_at table (code_at bytes == 1) (id_at bytes) (type_at bytes) (take (length_of bytes) bytes))
      ≡ unless (first_of ((not b && not (is_identity_in table (type_at bytes)) && not (is_method_in table (type_at bytes)), faults.OtherType (type_at bytes))
      ∷ ((not b && is_method_in table (type_at bytes)) && nat_lt (length_of bytes) 8, faults.LengthDisagrees)
      ∷ ((not b && is_method_in table (type_at bytes)) && not (is_subtype_in table (subtype_at bytes)), faults.UnknownSubtype (subtype_at bytes)) ∷ []))
      (cond b (Ended (code_at bytes == 3) (id_at bytes)) (cond (is_identity_in table (type_at bytes)) (Named (code_at bytes == 1) (id_at bytes) (drop 5 (take (length_of bytes) bytes)))
      (Message (code_at bytes == 1) (id_at bytes) (type_at bytes) (subtype_at bytes) (drop 8 (take (length_of bytes) bytes)))))
  ended_by true bytes right = refl
  ended_by false bytes right =
      let size = length_of bytes in
      let long : length (take size bytes) ≡ size = omega (arith, length-take size bytes, within (code_at bytes) size (length bytes) right) in
      typed_by table (is_identity_in table (type_at bytes)) (code_at bytes == 1) (id_at bytes) (type_at bytes) size (subtype_at bytes) (take size bytes) refl long (λ eight. get_or-take size bytes 5 0 (omega arith))

  -- the steps report the first fault whose condition holds, and find what stands there if there is none
  frame_unless : (bytes : List ℕ) → frame_by_steps table bytes ≡ unless (first_of (faults_before table bytes)) (frame_found_in table bytes)
  unfolding frame_by_steps
  frame_unless bytes =
      let typed : List (Bool × FrameFault) =
      (has_other_type_in table bytes, faults.OtherType (type_at bytes))
      ∷ (is_message_in table bytes && nat_lt (length_of bytes) 8, faults.LengthDisagrees)
      ∷ (is_message_in table bytes && not (is_subtype_in table (subtype_at bytes)), faults.UnknownSubtype (subtype_at bytes))
      ∷ [] in
      let sized : List (Bool × FrameFault) = (has_bad_length bytes, faults.LengthDisagrees) ∷ typed in
      step_unless (nat_lt (length bytes) 4) (nat_lt (length bytes) 4) faults.Short _ ((not (is_code (code_at bytes)), faults.BadCode) ∷ sized) (frame_found_in table bytes) refl
      (λ long. step_unless (not (is_code (code_at bytes))) (not (is_code (code_at bytes))) faults.BadCode _ sized (frame_found_in table bytes) refl
      (λ known. step_unless (is_wrong_length (code_at bytes) (length_of bytes) (length bytes)) (has_bad_length bytes) faults.LengthDisagrees _ typed (frame_found_in table bytes) refl
      (λ right. ended_by (is_ended bytes) bytes right)))

-- the same by the faults of a table
pub frame_is : (table : Table) (bytes : List ℕ) → frame_by_steps table bytes ≡ frame_at_in table bytes
unfolding frame_at frame_faults sim_frame_at sim_frame_faults
frame_is tables.Aka bytes = frame_unless tables.Aka bytes
frame_is tables.Sim bytes = frame_unless tables.Sim bytes

module _ (table : Table) where
  -- what stands there is found
  pub frame_again_in : (f : Frame) (bytes : List ℕ) → IsFramedIn table f bytes → frame_at_in table bytes ≡ Ok f
  frame_again_in f bytes p = sym (frame_is table bytes) ∙ steps_again table f bytes p

  -- what is found stands there
  pub frame_sound_in : (bytes : List ℕ) (f : Frame) → IsBytes bytes → frame_at_in table bytes ≡ Ok f → IsFramedIn table f bytes
  frame_sound_in bytes f fits e = steps_sound table bytes f fits (frame_is table bytes ∙ e)

  -- what a reader by the steps answers stands there
  pub framed_from : (bytes : List ℕ) (r : Result Framed FrameFault) → IsBytes bytes → Frames r (frame_by_steps table bytes) → IfOk r (λ f. IsFramedIn table (frame_of f) bytes)
  framed_from bytes (Ok f) fits e = steps_sound table bytes (frame_of f) fits e
  framed_from bytes (Err d) fits e = tt

  -- and it is the first fault, or what stands there
  pub frames_from : (bytes : List ℕ) (r : Result Framed FrameFault) → Frames r (frame_by_steps table bytes) → Frames r (frame_at_in table bytes)
  frames_from bytes r e = subst (λ x. Frames r x) (frame_is table bytes) e
