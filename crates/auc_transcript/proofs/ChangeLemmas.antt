-- For the laws: what comes of a changed packet. It is a refusal, or a note of the network in which nobody is asked; and the network of the
-- job's sessions has one packet more, or none.
use Rattle.std.proofs.Common.{◌≡◌, ℕ, List, ◌++◌, map, Option, Some, None, Ok, Err, refl, ap, ◌∙◌}
use Rattle.std.proofs.lemmas.List.{map-append}
use Rattle.auc_record.specs.Event.{Came}
use Rattle.auc_world.specs.Came.{by_network, came_changed}
use Rattle.auc_world.specs.Happened.{changed_at}
use Rattle.auc_world.specs.Net.{copies}
use Rattle.auc_record.specs.declared.event.WorldRefusal.{WorldRefusal}
use Rattle.auc_record.specs.declared.event.WorldRefusal.TheVariants as refused
use Rattle.auc_world.specs.declared.net.SentPacket.{SentPacket}
use Rattle.auc_transcript.specs.Presented.{sent_in}

-- what holds of each refusal and of each note of the network holds of what comes of a change
pub change_holds : (P : Came → Type 0) → ((why : WorldRefusal) → P (Err why)) → ((packets : List SentPacket) (bytes : List ℕ) → P (Ok (by_network packets bytes)))
    → (packets : List SentPacket) (sent : Option SentPacket) (copy : Option (List ℕ)) → P (came_changed packets sent copy)
change_holds P refusal made packets None copy = refusal refused.NoSuchPacket
change_holds P refusal made packets (Some sent) None = refusal refused.NoSuchPlace
change_holds P refusal made packets (Some sent) (Some bytes) = made packets bytes

-- the packets with the copy are those before, and the one that is told
pub copies_are_sent : (packets : List SentPacket) (place : ℕ) (by : List ℕ → List ℕ) (sent : Option SentPacket)
    → map (λ p. p.bytes) (packets ++ copies (changed_at place by sent)) ≡ map (λ p. p.bytes) packets ++ sent_in (came_changed packets sent (changed_at place by sent))
copies_are_sent packets place by sent =
    map-append (λ (p : SentPacket). p.bytes) packets (copies (changed_at place by sent))
    ∙ ap (λ (bs : List (List ℕ)). map (λ (p : SentPacket). p.bytes) packets ++ bs) (told sent)
  where
    told_copy : (sent : SentPacket) (copy : Option (List ℕ)) → map (λ (p : SentPacket). p.bytes) (copies copy) ≡ sent_in (came_changed packets (Some sent) copy)
    told_copy sent None = refl
    told_copy sent (Some bytes) = refl

    told : (sent : Option SentPacket) → map (λ (p : SentPacket). p.bytes) (copies (changed_at place by sent)) ≡ sent_in (came_changed packets sent (changed_at place by sent))
    told None = refl
    told (Some sent) = told_copy sent (changed_at place by (Some sent))
