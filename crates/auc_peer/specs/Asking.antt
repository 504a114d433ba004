-- A USIM's answer by its note: the note, the secret and the challenge determine it (TS 33.102 §6.3.3).
use Rattle.auc_milenage.specs.Milenage.{auts}
use Rattle.auc_milenage.specs.declared.secret.Secret.{Secret}
use Rattle.auc_peer.specs.declared.peer.Challenge.{Challenge}
use Rattle.auc_usim.specs.Usim.{acceptance}
use Rattle.auc_usim.specs.declared.answer.Answer.{Answer}
use Rattle.auc_usim.specs.declared.answer.Answer.TheVariants as answer
use Rattle.auc_vector.specs.declared.notes.UsimNote.{UsimNote}
use Rattle.auc_vector.specs.declared.notes.UsimNote.TheVariants as note

-- the note of an answer: the SQN that was accepted, or SQN_MS
abbrev pub note_of : Answer → UsimNote
note_of (answer.Accepted res ck ik ak amf sqn) = note.Accepted sqn
note_of (answer.SyncFailure auts_sent sqn) = note.Sync sqn
note_of answer.WrongMac = note.WrongMac

-- the answer of a note
abbrev pub answer_noted : Secret → Challenge → UsimNote → Answer
answer_noted s c (note.Accepted sqn) = acceptance s c.rand c.autn
answer_noted s c (note.Sync sqn) = answer.SyncFailure (auts s.k s.opc c.rand sqn) sqn
answer_noted s c note.WrongMac = answer.WrongMac
