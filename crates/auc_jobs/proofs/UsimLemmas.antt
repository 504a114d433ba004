-- For the USIMs: what a USIM answers to the vector of a number, and the USIMs after that.
use Rattle.std.proofs.Common.{◌≡◌, ◌≢◌, ℕ, zero, suc, ◌%◌, ◌<◌, ◌≤◌, ◌⊎◌, eqb, true, false, List, [], ◌∷◌, ◌++◌, length, get_or, refl, sym, ◌∙◌, ap, subst, arith, inl, inr, Contains, append-nil}
use Rattle.std.specs.Prelude.{Option, Some, is_some, slice_get, if◌then◌else◌}
use Rattle.std.proofs.lemmas.Bool.Decides.{eqb_tells}
use Rattle.std.proofs.lemmas.List.Sums.{fold_push}
use Rattle.auc_aes.specs.Bytes.{IsBlock}
use Rattle.auc_hmac.specs.declared.method.Method.TheVariants as method
use Rattle.auc_milenage.specs.Milenage.{f2, f3, f4, f5}
use Rattle.auc_milenage.specs.declared.secret.Secret.{Secret}
use Rattle.auc_sqn.specs.Number.{indices, ind_of, most_bits, seq_of, sqn_bytes, top_of}
use Rattle.auc_sqn.specs.Past.{ArrayValue, Past, Remembers, verdict_of, opening_past}
use Rattle.auc_sqn.specs.declared.verdict.Verdict.{Verdict}
use Rattle.auc_sqn.specs.declared.verdict.Verdict.TheVariants.{Fresh, Old, Far, Aged}
use Rattle.auc_sqn.proofs.Facts.{seq_of-sqn_bytes, ind_of-sqn_bytes}
use Rattle.auc_subs.specs.declared.row.Row.{Row}
use Rattle.auc_world.specs.Given.{UsimAnswers as Answers, past_by, past_of, verdict_by}
use Rattle.auc_record.specs.Lines.{accepted, accepted_by}
use Rattle.auc_usim.specs.Usim.{Memory, sqn_in, mac_in, xmac, acceptance, verdict_on, FollowsVerdict, IsAnswer, past_after_answer}
use Rattle.auc_usim.specs.declared.answer.Answer.{Answer}
use Rattle.auc_usim.specs.declared.answer.Answer.TheVariants.{Accepted, WrongMac, SyncFailure}
use Rattle.auc_subs.specs.Subscriber.{IsRow, top_at}
use Rattle.auc_subs.proofs.Facts.{top_at-row}
use Rattle.auc_vector.specs.Vector.{autn_of, vector_of, sqn_in as sqn_found}
use Rattle.auc_vector.specs.declared.parts.Vector.{Vector}
use Rattle.auc_vector.proofs.Facts.{autn_carries, autn_has_its_mac}
use Rattle.auc_record.specs.declared.record.GiveVerdict.{GiveVerdict}
use Rattle.auc_record.specs.declared.record.GiveVerdict.TheVariants as given
use Rattle.auc_record.specs.declared.record.LineRecord.{LineRecord}
use Rattle.auc_record.specs.declared.record.LineRecord.TheVariants.{Give}
use Rattle.auc_jobs.specs.declared.giving.UsimKeys.{UsimKeys}
use Rattle.auc_jobs.specs.InnerUsims.{has_usim, usim_keys, Challenges, Presents}
use Rattle.auc_cards.specs.Usims.{IsOfRow}
use Rattle.auc_jobs.specs.Usims.{HaveSecrets, AreBehind}
use Rattle.auc_world.proofs.Facts.{accepted-append}

-- ---- each array remembers some past

-- the first entries of an array, each with its IND
entries_to : List ℕ → ℕ → Past
entries_to entries zero = []
entries_to entries (suc n) = (get_or entries n 0, n) ∷ entries_to entries n

there_to : (entries : List ℕ) (n ind : ℕ) → ind < n → Contains (entries_to entries n) (get_or entries ind 0, ind)
unfolding entries_to
there_to entries zero ind lt = absurd (omega arith)
there_to entries (suc n) ind lt =
    elim (eqb_tells n ind) [
      | inl (e, same) ↦ (0, omega arith, ap (λ (i : ℕ). let pair : ℕ × ℕ = (get_or entries i 0, i) in pair) same)
      | inr (e, other) ↦ (let rest = there_to entries n ind (omega arith) in (suc rest.0, omega arith, rest.2))
    ]

above_to : (entries : List ℕ) (n seq ind : ℕ) → Contains (entries_to entries n) (seq, ind) → (ind < n) × (seq ≤ get_or entries ind 0)
unfolding entries_to
above_to entries zero seq ind (k, k<n, at) = absurd (omega arith)
above_to entries (suc n) seq ind (zero, k<n, at) =
    let is : n ≡ ind = ap (λ (p : ℕ × ℕ). p.1) at in let from : get_or entries n 0 ≡ seq = ap (λ (p : ℕ × ℕ). p.0) at in
    let same : get_or entries n 0 ≡ get_or entries ind 0 = ap (λ (i : ℕ). get_or entries i 0) is in
    (omega arith, omega arith)
above_to entries (suc n) seq ind (suc k, k<n, at) = let rest = above_to entries n seq ind (k, omega arith, at) in (omega arith, rest.1)

pub some_past : (array : ArrayValue) → (past : Past) × Remembers array past
some_past array = (
  entries_to array.entries (indices array.bits),
  record {
    there = λ ind lt. there_to array.entries (indices array.bits) ind lt;
    above = λ seq ind in_past. above_to array.entries (indices array.bits) seq ind in_past;
  },
)

-- ---- the answer to the vector of a number

-- the SQN that the USIM finds in the AUTN of a number
found_sqn : (s : Secret) (rand amf : List ℕ) (bits n : ℕ) → IsBlock s.k → IsBlock s.opc → sqn_in s rand (autn_of s.k s.opc rand amf bits n) ≡ sqn_bytes bits n
unfolding sqn_in sqn_found
found_sqn s rand amf bits n hk ho = autn_carries s.k s.opc rand amf bits n hk ho

-- the MAC of such an AUTN is right
right_mac : (s : Secret) (rand amf : List ℕ) (bits n : ℕ) → IsBlock s.k → IsBlock s.opc → length amf ≡ 2
    → mac_in (autn_of s.k s.opc rand amf bits n) ≡ xmac s rand (autn_of s.k s.opc rand amf bits n)
unfolding sqn_in sqn_found xmac
right_mac s rand amf bits n hk ho two = autn_has_its_mac s.k s.opc rand amf bits n hk ho two

-- so the verdict of the past on the number decides, for a USIM with a row's secret, index length and age limit
pub verdict_decides : (row : Row) (past : Past) (rand amf : List ℕ) (n : ℕ) (answer : Answer) → IsBlock row.secret.k → IsBlock row.secret.opc → length amf ≡ 2 → row.bits ≤ most_bits → n ≤ top_of row.bits
    → IsAnswer row.secret row.bits row.age past rand (autn_of row.secret.k row.secret.opc rand amf row.bits n) answer
    → FollowsVerdict row.secret row.bits past rand (autn_of row.secret.k row.secret.opc rand amf row.bits n) (verdict_by row past n) answer
verdict_decides row past rand amf n answer hk ho two few last is =
    let autn = autn_of row.secret.k row.secret.opc rand amf row.bits n in
    let found = found_sqn row.secret rand amf row.bits n hk ho in
    let seq : seq_of row.bits (sqn_in row.secret rand autn) ≡ n = ap (seq_of row.bits) found ∙ seq_of-sqn_bytes row.bits n few last in
    let ind : ind_of row.bits (sqn_in row.secret rand autn) ≡ n % indices row.bits = ap (ind_of row.bits) found ∙ ind_of-sqn_bytes row.bits n few last in
    let same : verdict_on row.secret row.bits row.age past rand autn ≡ verdict_by row past n =
    ap (λ (q : ℕ). verdict_of row.age past q (ind_of row.bits (sqn_in row.secret rand autn))) seq ∙ ap (verdict_of row.age past n) ind in
    subst (λ (v : Verdict). FollowsVerdict row.secret row.bits past rand autn v answer) same (is.right_mac (right_mac row.secret rand amf row.bits n hk ho two))

-- it isn't that the MAC is wrong
pub never_wrong : (s : Secret) (bits : ℕ) (past : Past) (rand autn : List ℕ) (verdict : Verdict) → FollowsVerdict s bits past rand autn verdict WrongMac → ⊥
unfolding acceptance
never_wrong s bits past rand autn Fresh is = cc
never_wrong s bits past rand autn (Old entry) (sqn_ms, is, e) = cc
never_wrong s bits past rand autn (Far greatest) (sqn_ms, is, e) = cc
never_wrong s bits past rand autn (Aged greatest) (sqn_ms, is, e) = cc

-- an acceptance comes where the verdict is Fresh
pub accepts : (s : Secret) (bits : ℕ) (past : Past) (rand autn : List ℕ) (verdict : Verdict) (res ck ik ak amf sqn : List ℕ)
    → FollowsVerdict s bits past rand autn verdict (Accepted res ck ik ak amf sqn) → Answers bits verdict past given.Accepted × (Accepted res ck ik ak amf sqn ≡ acceptance s rand autn)
accepts s bits past rand autn Fresh res ck ik ak amf sqn is = (refl, is)
accepts s bits past rand autn (Old entry) res ck ik ak amf sqn (sqn_ms, is, e) = absurd (cc)
accepts s bits past rand autn (Far greatest) res ck ik ak amf sqn (sqn_ms, is, e) = absurd (cc)
accepts s bits past rand autn (Aged greatest) res ck ik ak amf sqn (sqn_ms, is, e) = absurd (cc)

-- it has RES, CK, IK and AK of the secret, and names the SQN that was found
acceptance_keys : (s : Secret) (rand autn res ck ik ak amf sqn : List ℕ) → Accepted res ck ik ak amf sqn ≡ acceptance s rand autn
    → ◌≡◌ {A = UsimKeys} (record { res = res; ck = ck; ik = ik; ak = ak; sqn = sqn })
    (record { res = f2 s.k s.opc rand; ck = f3 s.k s.opc rand; ik = f4 s.k s.opc rand; ak = f5 s.k s.opc rand; sqn = sqn_in s rand autn })
unfolding acceptance
acceptance_keys s rand autn res ck ik ak amf sqn is = cc

-- a synchronisation failure comes where it isn't, and tells SQN_MS
pub fails : (s : Secret) (bits : ℕ) (past : Past) (rand autn : List ℕ) (verdict : Verdict) (auts sqn : List ℕ)
    → FollowsVerdict s bits past rand autn verdict (SyncFailure auts sqn) → Answers bits verdict past (given.Sync sqn)
unfolding acceptance
fails s bits past rand autn Fresh auts sqn is = absurd (cc)
fails s bits past rand autn (Old entry) auts sqn (sqn_ms, is, e) = (sqn_ms, is, cc)
fails s bits past rand autn (Far greatest) auts sqn (sqn_ms, is, e) = (sqn_ms, is, cc)
fails s bits past rand autn (Aged greatest) auts sqn (sqn_ms, is, e) = (sqn_ms, is, cc)

-- ---- the USIMs after a challenge

-- one USIM changed, and keeps its secret, its index length and its age limit
pub record Changes (old : ℕ → Option Memory) (sub : ℕ) (new : ℕ → Option Memory) : Type 0 where
  pub before : Memory
  pub there : old sub ≡ Some before
  pub after : Memory
  pub here : new sub ≡ Some after
  pub others : (i : ℕ) → i ≢ sub → new i ≡ old i
  pub secret : after.secret ≡ before.secret
  pub bits : after.array.bits ≡ before.array.bits
  pub age : after.array.age ≡ before.array.age

-- each of them is the changed one, or another as it was
pub changed_cases : (old new : ℕ → Option Memory) (sub i : ℕ) (usim : Memory) (c : Changes old sub new)
    → new i ≡ Some usim → ((sub ≡ i) × (c.after ≡ usim)) ⊎ ((sub ≢ i) × (old i ≡ Some usim))
changed_cases old new sub i usim c there = step (eqb_tells sub i)
  where
    some_is : (a b : Memory) → Some a ≡ Some b → a ≡ b
    some_is a b e = cc

    step : ((eqb sub i ≡ true) × (sub ≡ i)) ⊎ ((eqb sub i ≡ false) × (sub ≢ i)) → ((sub ≡ i) × (c.after ≡ usim)) ⊎ ((sub ≢ i) × (old i ≡ Some usim))
    step (inl (e, same)) = inl (same, some_is c.after usim (sym c.here ∙ subst (λ (k : ℕ). new k ≡ Some usim) (sym same) there))
    step (inr (e, other)) = inr (other, sym (c.others i (λ same. other (sym same))) ∙ there)

-- they are their rows'
pub changed_secrets : (rows : List Row) (old new : ℕ → Option Memory) (sub : ℕ) → Changes old sub new → HaveSecrets rows old → HaveSecrets rows new
changed_secrets rows old new sub c are i row usim at there = step (changed_cases old new sub i usim c there)
  where
    step : ((sub ≡ i) × (c.after ≡ usim)) ⊎ ((sub ≢ i) × (old i ≡ Some usim)) → IsOfRow row usim
    step (inl (same, is)) =
        let before : IsOfRow row c.before = are sub row c.before (subst (λ (k : ℕ). slice_get rows k ≡ Some row) (sym same) at) c.there in
        subst (IsOfRow row) is (record { secret = c.secret ∙ before.secret; bits = c.bits ∙ before.bits; age = c.age ∙ before.age })
    step (inr (other, is)) = are i row usim at is

-- they are of the same subscribers
pub changed_keys : (old new : ℕ → Option Memory) (sub : ℕ) → Changes old sub new → (i : ℕ) → has_usim new i ≡ has_usim old i
changed_keys old new sub c i = step (eqb_tells sub i)
  where
    step : ((eqb sub i ≡ true) × (sub ≡ i)) ⊎ ((eqb sub i ≡ false) × (sub ≢ i)) → has_usim new i ≡ has_usim old i
    step (inl (e, same)) =
        subst (λ (k : ℕ). has_usim new k ≡ has_usim old k) same (ap (λ (m : Option Memory). is_some m) c.here ∙ sym (ap (λ (m : Option Memory). is_some m) c.there))
    step (inr (e, other)) = ap (λ (m : Option Memory). is_some m) (c.others i (λ same. other (sym same)))

-- a challenge changes one
abbrev challenge_changes : (old new : ℕ → Option Memory) (sub : ℕ) (rand autn : List ℕ) (answer : Answer) → Challenges old sub rand autn answer new → Changes old sub new
challenge_changes old new sub rand autn answer c = record { before = c.before; there = c.there; after = c.after; here = c.here; others = c.others; secret = c.secret; bits = c.bits; age = c.age }

challenge_cases : (old new : ℕ → Option Memory) (sub : ℕ) (rand autn : List ℕ) (answer : Answer) (i : ℕ) (usim : Memory) (c : Challenges old sub rand autn answer new)
    → new i ≡ Some usim → ((sub ≡ i) × (c.after ≡ usim)) ⊎ ((sub ≢ i) × (old i ≡ Some usim))
challenge_cases old new sub rand autn answer i usim c there = changed_cases old new sub i usim (challenge_changes old new sub rand autn answer c) there

pub challenged_secrets : (rows : List Row) (old new : ℕ → Option Memory) (sub : ℕ) (rand autn : List ℕ) (answer : Answer)
    → Challenges old sub rand autn answer new → HaveSecrets rows old → HaveSecrets rows new
challenged_secrets rows old new sub rand autn answer c are = changed_secrets rows old new sub (challenge_changes old new sub rand autn answer c) are

pub challenged_keys : (old new : ℕ → Option Memory) (sub : ℕ) (rand autn : List ℕ) (answer : Answer)
    → Challenges old sub rand autn answer new → (i : ℕ) → has_usim new i ≡ has_usim old i
challenged_keys old new sub rand autn answer c i = changed_keys old new sub (challenge_changes old new sub rand autn answer c) i

-- the SQNs that a USIM accepted, after a line of its own or of another one's
accepted_here : (bits sub n : ℕ) (lines : List LineRecord) → accepted bits sub (lines ++ Give sub n given.Accepted ∷ []) ≡ accepted bits sub lines ++ sqn_bytes bits n ∷ []
accepted_here bits sub n lines = accepted-append bits sub lines (Give sub n given.Accepted ∷ []) ∙ step (eqb_tells sub sub)
  where
    step : ((eqb sub sub ≡ true) × (sub ≡ sub)) ⊎ ((eqb sub sub ≡ false) × (sub ≢ sub))
        → accepted bits sub lines ++ ((if eqb sub sub then sqn_bytes bits n ∷ [] else []) ++ []) ≡ accepted bits sub lines ++ sqn_bytes bits n ∷ []
    step (inl (e, same)) = rw e refl
    step (inr (e, not)) = absurd (not refl)

accepted_quiet : (bits i : ℕ) (lines : List LineRecord) (line : LineRecord) → accepted_by bits i line ≡ [] → accepted bits i (lines ++ line ∷ []) ≡ accepted bits i lines
accepted_quiet bits i lines line quiet = accepted-append bits i lines (line ∷ []) ∙ rw quiet (append-nil (accepted bits i lines))

-- a USIM whose line tells no acceptance remembers what it did
sync_quiet : (bits i sub n : ℕ) (sqn : List ℕ) → accepted_by bits i (Give sub n (given.Sync sqn)) ≡ []
sync_quiet bits i sub n sqn = step (eqb_tells sub i)
  where
    step : ((eqb sub i ≡ true) × (sub ≡ i)) ⊎ ((eqb sub i ≡ false) × (sub ≢ i)) → accepted_by bits i (Give sub n (given.Sync sqn)) ≡ []
    step (inl (e, same)) = rw e refl
    step (inr (e, not)) = rw e refl

other_quiet : (bits i sub n : ℕ) (answer : GiveVerdict) → sub ≢ i → accepted_by bits i (Give sub n answer) ≡ []
other_quiet bits i sub n answer other = step (eqb_tells sub i)
  where
    step : ((eqb sub i ≡ true) × (sub ≡ i)) ⊎ ((eqb sub i ≡ false) × (sub ≢ i)) → accepted_by bits i (Give sub n answer) ≡ []
    step (inl (e, same)) = absurd (other same)
    step (inr (e, not)) = rw e refl

-- what stands of a challenged USIM and the others: the challenged one remembers what it answered
pub record Challenged (rows : List Row) (lines : List LineRecord) (old : ℕ → Option Memory) (sub n : ℕ) (rand amf : List ℕ) (answer : Answer) (new : ℕ → Option Memory) (row : Row) : Type 0 where
  pub challenge : Challenges old sub rand (autn_of row.secret.k row.secret.opc rand amf row.bits n) answer new
  pub at : slice_get rows sub ≡ Some row
  pub k : IsBlock row.secret.k
  pub opc : IsBlock row.secret.opc
  pub amf_size : length amf ≡ 2
  pub few : row.bits ≤ most_bits
  pub last : n ≤ top_of row.bits
  pub secrets : HaveSecrets rows old
  pub behind : AreBehind rows lines old

-- a number of a subscriber is one by its row
of_row : (rows : List Row) (sub n : ℕ) (row : Row) → slice_get rows sub ≡ Some row → n ≤ top_at rows sub → n ≤ top_of row.bits
of_row rows sub n row at last = subst (λ (top : ℕ). n ≤ top) (top_at-row rows sub row at) last

-- it stands so where the vector was made of the row
pub challenged : (rows : List Row) (lines : List LineRecord) (old : ℕ → Option Memory) (sub n : ℕ) (rand : List ℕ) (made : Vector) (answer : Answer) (new : ℕ → Option Memory) (row : Row)
    → slice_get rows sub ≡ Some row → IsRow row → made ≡ vector_of row.secret method.Aka row.amf [] row.bits n rand → n ≤ top_at rows sub
    → Challenges old sub made.rand made.autn answer new → HaveSecrets rows old → AreBehind rows lines old
    → Challenged rows lines old sub n rand row.amf answer new row
challenged rows lines old sub n rand made answer new row at is e last c secrets behind = record {
  challenge = subst (λ (v : Vector). Challenges old sub v.rand v.autn answer new) e c;
  at = at;
  k = is.key;
  opc = is.operator;
  amf_size = is.management;
  few = is.few;
  last = of_row rows sub n row at last;
  secrets = secrets;
  behind = behind;
}

-- the answer of a row's USIM is by what the row says
by_row : (row : Row) (usim : Memory) (past : Past) (rand autn : List ℕ) (answer : Answer) → IsOfRow row usim
    → IsAnswer usim.secret usim.array.bits usim.array.age past rand autn answer → IsAnswer row.secret row.bits row.age past rand autn answer
by_row row usim past rand autn answer of is =
    subst (λ (s : Secret). IsAnswer s row.bits row.age past rand autn answer) of.secret
    (subst (λ (b : ℕ). IsAnswer usim.secret b row.age past rand autn answer) of.bits
    (subst (λ (a : Option ℕ). IsAnswer usim.secret usim.array.bits a past rand autn answer) of.age is))

-- the verdict of some past decides the answer
some_verdict : (rows : List Row) (old : ℕ → Option Memory) (sub n : ℕ) (rand : List ℕ) (made : Vector) (answer : Answer) (new : ℕ → Option Memory) (row : Row)
    → slice_get rows sub ≡ Some row → IsRow row → made ≡ vector_of row.secret method.Aka row.amf [] row.bits n rand → n ≤ top_at rows sub
    → Challenges old sub made.rand made.autn answer new → HaveSecrets rows old
    → (past : Past) × FollowsVerdict row.secret row.bits past rand (autn_of row.secret.k row.secret.opc rand row.amf row.bits n) (verdict_by row past n) answer
some_verdict rows old sub n rand made answer new row at is e last c secrets =
    let autn : List ℕ = autn_of row.secret.k row.secret.opc rand row.amf row.bits n in
    let d : Challenges old sub rand autn answer new = subst (λ (v : Vector). Challenges old sub v.rand v.autn answer new) e c in
    let past = some_past d.before.array in
    let answers = by_row row d.before past.0 rand autn answer (secrets sub row d.before at d.there) (d.answers past.0 past.1) in
    (past.0, verdict_decides row past.0 rand row.amf n answer is.key is.operator is.management is.few (of_row rows sub n row at last) answers)

-- so the answer isn't that the MAC is wrong
pub never_wrong_of : (rows : List Row) (old : ℕ → Option Memory) (sub n : ℕ) (rand : List ℕ) (made : Vector) (answer : Answer) (new : ℕ → Option Memory) (row : Row)
    → slice_get rows sub ≡ Some row → IsRow row → made ≡ vector_of row.secret method.Aka row.amf [] row.bits n rand → n ≤ top_at rows sub
    → Challenges old sub made.rand made.autn answer new → HaveSecrets rows old → answer ≡ WrongMac → ⊥
never_wrong_of rows old sub n rand made answer new row at is e last c secrets wrong =
    let (past, follows) = some_verdict rows old sub n rand made answer new row at is e last c secrets in
    let autn : List ℕ = autn_of row.secret.k row.secret.opc rand row.amf row.bits n in
    never_wrong row.secret row.bits past rand autn (verdict_by row past n)
    (subst (λ (a : Answer). FollowsVerdict row.secret row.bits past rand autn (verdict_by row past n) a) wrong follows)

-- and if the USIM accepts, it hands on what the row's secret makes of RAND, and the SQN of the number
pub accepted_keys : (rows : List Row) (old : ℕ → Option Memory) (sub n : ℕ) (rand : List ℕ) (made : Vector) (res ck ik ak management sqn : List ℕ) (new : ℕ → Option Memory) (row other : Row)
    → slice_get rows sub ≡ Some row → IsRow row → made ≡ vector_of row.secret method.Aka row.amf [] row.bits n rand → n ≤ top_at rows sub
    → Challenges old sub made.rand made.autn (Accepted res ck ik ak management sqn) new → HaveSecrets rows old → slice_get rows sub ≡ Some other
    → ◌≡◌ {A = UsimKeys} (record { res = res; ck = ck; ik = ik; ak = ak; sqn = sqn }) (usim_keys other n rand)
accepted_keys rows old sub n rand made res ck ik ak management sqn new row other at is e last c secrets there =
    let (past, follows) = some_verdict rows old sub n rand made (Accepted res ck ik ak management sqn) new row at is e last c secrets in
    let autn : List ℕ = autn_of row.secret.k row.secret.opc rand row.amf row.bits n in
    let (fresh, accepted) = accepts row.secret row.bits past rand autn (verdict_by row past n) res ck ik ak management sqn follows in
    acceptance_keys row.secret rand autn res ck ik ak management sqn accepted
    ∙ ap (λ (q : List ℕ). with_sqn row q) (found_sqn row.secret rand row.amf row.bits n is.key is.operator)
    ∙ ap (λ (r : Row). usim_keys r n rand) (one row other (sym at ∙ there))
  where
    with_sqn : Row → List ℕ → UsimKeys
    with_sqn r q = record { res = f2 r.secret.k r.secret.opc rand; ck = f3 r.secret.k r.secret.opc rand; ik = f4 r.secret.k r.secret.opc rand; ak = f5 r.secret.k r.secret.opc rand; sqn = q }

    one : (a b : Row) → Some a ≡ Some b → a ≡ b
    one a b same = cc

-- the verdict decides its answer
answer_follows : (rows : List Row) (lines : List LineRecord) (old : ℕ → Option Memory) (sub n : ℕ) (rand amf : List ℕ) (answer : Answer) (new : ℕ → Option Memory) (row : Row)
    → Challenged rows lines old sub n rand amf answer new row
    → FollowsVerdict row.secret row.bits (past_by row sub lines) rand (autn_of row.secret.k row.secret.opc rand amf row.bits n) (verdict_by row (past_by row sub lines) n) answer
answer_follows rows lines old sub n rand amf answer new row d =
    let past = past_by row sub lines in
    let remembers = d.behind sub row d.challenge.before d.at d.challenge.there in
    verdict_decides row past rand amf n answer d.k d.opc d.amf_size d.few d.last
    (by_row row d.challenge.before past rand (autn_of row.secret.k row.secret.opc rand amf row.bits n) answer (d.secrets sub row d.challenge.before d.at d.challenge.there)
    (d.challenge.answers past remembers))

-- the USIMs after the line, if the challenged one remembers the past that the line tells
behind_line : (rows : List Row) (lines : List LineRecord) (old : ℕ → Option Memory) (sub n : ℕ) (rand amf : List ℕ) (answer : Answer) (new : ℕ → Option Memory) (row : Row) (verdict : GiveVerdict)
    → Challenged rows lines old sub n rand amf answer new row
    → past_after_answer row.bits (past_by row sub lines) answer ≡ past_by row sub (lines ++ Give sub n verdict ∷ [])
    → AreBehind rows (lines ++ Give sub n verdict ∷ []) new
behind_line rows lines old sub n rand amf answer new row verdict d past i other usim at there =
    elim (challenge_cases old new sub rand (autn_of row.secret.k row.secret.opc rand amf row.bits n) answer i usim d.challenge there) [
      | inl (same, is) ↦
          let one : row ≡ other = some_is row other (sym d.at ∙ subst (λ (k : ℕ). slice_get rows k ≡ Some other) (sym same) at) in
          let of : IsOfRow row d.challenge.before = d.secrets sub row d.challenge.before d.at d.challenge.there in
          let after : Remembers d.challenge.after.array (past_after_answer row.bits (past_by row sub lines) answer) =
          subst (λ (b : ℕ). Remembers d.challenge.after.array (past_after_answer b (past_by row sub lines) answer)) of.bits
          (d.challenge.past (past_by row sub lines) (d.behind sub row d.challenge.before d.at d.challenge.there)) in
          let now : Remembers d.challenge.after.array (past_by row sub (lines ++ Give sub n verdict ∷ [])) = subst (Remembers d.challenge.after.array) past after in
          subst (λ (m : Memory). Remembers m.array (past_by other i (lines ++ Give sub n verdict ∷ []))) is
          (subst (λ (k : ℕ). Remembers d.challenge.after.array (past_by other k (lines ++ Give sub n verdict ∷ []))) same
          (subst (λ (r : Row). Remembers d.challenge.after.array (past_by r sub (lines ++ Give sub n verdict ∷ []))) one now))
      | inr (not, is) ↦
          subst (λ (sqns : List (List ℕ)). Remembers usim.array (past_of other.bits other.usim sqns))
          (sym (accepted_quiet other.bits i lines (Give sub n verdict) (other_quiet other.bits i sub n verdict not))) (d.behind i other usim at is)
    ]
  where
    some_is : (a b : Row) → Some a ≡ Some b → a ≡ b
    some_is a b e = cc

-- the USIM accepted the vector
pub presents_accepted : (rows : List Row) (lines : List LineRecord) (old : ℕ → Option Memory) (sub n : ℕ) (rand amf : List ℕ) (res ck ik ak management sqn : List ℕ) (new : ℕ → Option Memory) (row : Row)
    → Challenged rows lines old sub n rand amf (Accepted res ck ik ak management sqn) new row → Presents rows lines sub n given.Accepted new
presents_accepted rows lines old sub n rand amf res ck ik ak management sqn new row d = record {
  answered = λ other at. subst (λ (r : Row). Answers r.bits (verdict_by r (past_by r sub lines) n) (past_by r sub lines) given.Accepted) (some_is row other (sym d.at ∙ at)) took.0;
  behind = behind_line rows lines old sub n rand amf (Accepted res ck ik ak management sqn) new row given.Accepted d past;
}
  where
    some_is : (a b : Row) → Some a ≡ Some b → a ≡ b
    some_is a b e = cc

    took : Answers row.bits (verdict_by row (past_by row sub lines) n) (past_by row sub lines) given.Accepted
        × (Accepted res ck ik ak management sqn ≡ acceptance row.secret rand (autn_of row.secret.k row.secret.opc rand amf row.bits n))
    took = accepts row.secret row.bits (past_by row sub lines) rand (autn_of row.secret.k row.secret.opc rand amf row.bits n) (verdict_by row (past_by row sub lines) n) res ck ik ak management sqn
        (answer_follows rows lines old sub n rand amf (Accepted res ck ik ak management sqn) new row d)

    number : sqn ≡ sqn_bytes row.bits n
    number =
        ap (λ (k : UsimKeys). k.sqn) (acceptance_keys row.secret rand (autn_of row.secret.k row.secret.opc rand amf row.bits n) res ck ik ak management sqn took.1)
        ∙ found_sqn row.secret rand amf row.bits n d.k d.opc

    past : past_after_answer row.bits (past_by row sub lines) (Accepted res ck ik ak management sqn) ≡ past_by row sub (lines ++ Give sub n given.Accepted ∷ [])
    past =
        let e : past_by row sub (lines ++ Give sub n given.Accepted ∷ []) ≡ (seq_of row.bits (sqn_bytes row.bits n), ind_of row.bits (sqn_bytes row.bits n)) ∷ past_by row sub lines =
        ap (past_of row.bits row.usim) (accepted_here row.bits sub n lines)
        ∙ fold_push (λ past sqn. (seq_of row.bits sqn, ind_of row.bits sqn) ∷ past) (opening_past row.bits row.usim) (accepted row.bits sub lines) (sqn_bytes row.bits n) in
        ap (λ (q : List ℕ). (seq_of row.bits q, ind_of row.bits q) ∷ past_by row sub lines) number ∙ sym e

-- the USIM answered a synchronisation failure
pub presents_failure : (rows : List Row) (lines : List LineRecord) (old : ℕ → Option Memory) (sub n : ℕ) (rand amf : List ℕ) (auts sqn : List ℕ) (new : ℕ → Option Memory) (row : Row)
    → Challenged rows lines old sub n rand amf (SyncFailure auts sqn) new row → Presents rows lines sub n (given.Sync sqn) new
presents_failure rows lines old sub n rand amf auts sqn new row d = record {
  answered = λ other at. subst (λ (r : Row). Answers r.bits (verdict_by r (past_by r sub lines) n) (past_by r sub lines) (given.Sync sqn)) (some_is row other (sym d.at ∙ at))
      (fails row.secret row.bits (past_by row sub lines) rand (autn_of row.secret.k row.secret.opc rand amf row.bits n) (verdict_by row (past_by row sub lines) n) auts sqn
      (answer_follows rows lines old sub n rand amf (SyncFailure auts sqn) new row d));
  behind = behind_line rows lines old sub n rand amf (SyncFailure auts sqn) new row (given.Sync sqn) d
      (ap (past_of row.bits row.usim) (sym (accepted_quiet row.bits sub lines (Give sub n (given.Sync sqn)) (sync_quiet row.bits sub sub n sqn))));
}
  where
    some_is : (a b : Row) → Some a ≡ Some b → a ≡ b
    some_is a b e = cc
