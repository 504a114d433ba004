-- The words of a line for a session of EAP-SIM, behind the subscriber's IMSI, and the lines that a full print adds. Packets have
-- their numbers, from 1.
use Rattle.std.specs.Prelude.{ℕ, List, [], ◌∷◌, ◌++◌, Option, Some, None, codes}
use Rattle.auc_vector.specs.declared.sim_note.SimBecame.{SimBecame}
use Rattle.auc_vector.specs.declared.sim_note.SimBecame.TheVariants as became
use Rattle.auc_vector.specs.declared.sim_note.SimNote.{SimNote}
use Rattle.auc_vector.specs.declared.sim_note.SimNote.TheVariants as note
use Rattle.auc_vector.specs.declared.why.SimWhy.{SimWhy}
use Rattle.auc_vector.specs.declared.why.SimWhy.TheVariants as why
use Rattle.auc_print.specs.EventText.{agree_word, end_word, packet_lines, packet_words, what_lines, what_sent, what_words}
use Rattle.auc_print.specs.Numeral.{numeral}

-- why an end ends in Failure
abbrev pub sim_why_words : SimWhy → List (List ℕ)
sim_why_words why.WrongMac = codes "wrongmac" ∷ []
sim_why_words (why.ClientError code) = codes "clienterror" ∷ numeral code ∷ []
sim_why_words why.Version = codes "version" ∷ []
sim_why_words why.NotFresh = codes "notfresh" ∷ []
sim_why_words why.FailureReceived = codes "failurereceived" ∷ []

-- the packet that an end sent, if it sent one
abbrev pub answer_words : Option ℕ → List (List ℕ)
answer_words None = []
answer_words (Some packet) = codes "sent" ∷ numeral packet ∷ []

-- what became of a packet that was delivered
abbrev pub became_words : SimBecame → List (List ℕ)
became_words became.NoSuchPacket = codes "nosuchpacket" ∷ []
became_words (became.Did what sent) = answer_words sent ++ what_words sim_why_words what

-- what happened
abbrev pub sim_words : SimNote → List (List ℕ)
sim_words (note.Started bytes) = codes "start" ∷ codes "sent" ∷ numeral 1 ∷ []
sim_words (note.Delivered at' packet it) = end_word at' ∷ numeral packet ∷ became_words it
sim_words (note.Ended agree) = agree_word agree ∷ []

-- the lines that a full print adds: the packet that was sent, and the keys of Success
abbrev pub became_lines : SimBecame → List (List (List ℕ))
became_lines became.NoSuchPacket = []
became_lines (became.Did what sent) = packet_lines sent (what_sent what) ++ what_lines what

abbrev pub sim_lines : SimNote → List (List (List ℕ))
sim_lines (note.Started bytes) = packet_words 1 bytes ∷ []
sim_lines (note.Delivered at' packet it) = became_lines it
sim_lines (note.Ended agree) = []
