-- For `turning`: the memory for a server's identity is enough, its network's name stays, and so do its homes' subscribers.
use Rattle.std.proofs.Common.{◌≡◌, ◌≤◌, ◌∙◌, ℕ, List, ◌++◌, drop, length, map, max, take, refl, ap, sym, arith}
use Rattle.std.proofs.Math.Seq.{take-append_seam}
use Rattle.auc_packet.specs.Received.{IsReceived, Seen}
use Rattle.auc_server.proofs.Facts.{challenged_subs, identity_fits, resumed_subs, rewon_subs, turn_options, won_subs}
use Rattle.auc_server.specs.Contexts.{context_in}
use Rattle.auc_server.specs.Rows.{server_row, text_in}
use Rattle.auc_server.specs.Server.{ServerEnd}
use Rattle.auc_subs.specs.Setting.{Setting}
use Rattle.auc_server.specs.Table.{homes_after, homes_done, server_step}
use Rattle.auc_server.specs.declared.reply.Reply.{Reply}
use Rattle.auc_server.specs.declared.rows.Row.{Row}
use Rattle.auc_server.specs.declared.rows.Row.TheVariants as row
use Rattle.auc_vector.specs.declared.notes.Notes.{Notes}
use Rattle.auc_server.specs.declared.options.ServerOptions.{ServerOptions}
use Rattle.auc_server.specs.declared.setting.HomeRow.{HomeRow}
use Rattle.auc_vector.specs.declared.why.ServerWhy.{ServerWhy}
use Rattle.auc_vector.specs.declared.turn.Turn.{Turn}

pub identity_left : (set : Setting) (homes : List HomeRow) (s new : ServerEnd) (seen : Seen) (said : Reply) (turn : Turn ServerWhy) (bytes before : List ℕ) (left : ℕ)
    → (new, turn) ≡ server_step set homes s seen said turn.notes → IsReceived seen → seen.bytes ≡ bytes → before ≡ s.identity
    → left ≡ max (length before) (length bytes) → length new.identity ≤ left
identity_left set homes s new seen said turn bytes before left same received of is size =
    let fits = identity_fits set homes s seen said turn.notes received in
    let now : length new.identity ≡ length (server_step set homes s seen said turn.notes).0.identity = ap (λ (x : ServerEnd × Turn ServerWhy). length x.0.identity) same in
    let got : length seen.bytes ≡ length bytes = ap (λ (b : List ℕ). length b) of in
    let old : length before ≡ length s.identity = ap (λ (b : List ℕ). length b) is in
    omega (arith, fits, now, got, old, size)

-- the name of its network stays
pub name_stays : (set : Setting) (homes : List HomeRow) (s new : ServerEnd) (seen : Seen) (said : Reply) (turn : Turn ServerWhy) (name : List ℕ)
    → (new, turn) ≡ server_step set homes s seen said turn.notes → name ≡ s.options.name → name ≡ new.options.name
name_stays set homes s new seen said turn name same is =
    is ∙ ap (λ (o : ServerOptions). o.name) (sym (turn_options set homes s seen said turn.notes)) ∙ ap (λ (x : ServerEnd × Turn ServerWhy). x.0.options.name) (sym same)

-- ---- the homes

done_subs : (homes : List HomeRow) (s : ServerEnd) (text : List ℕ) (r : Row) (notes : Notes)
    → map (λ (home : HomeRow). home.sub) (homes_done homes s text r notes) ≡ map (λ (home : HomeRow). home.sub) homes
done_subs homes s text (row.Ignore cause) notes = refl
done_subs homes s text (row.Ask kind) notes = refl
done_subs homes s text row.UnknownIdentity notes = refl
done_subs homes s text (row.Challenge sub) notes = challenged_subs s.options homes sub notes.number
done_subs homes s text (row.Resume sub) notes = resumed_subs s.options text homes sub (context_in s.options.method text homes sub)
done_subs homes s text row.WrongCounter notes = refl
done_subs homes s text (row.TooSmall sub) notes = challenged_subs s.options homes sub notes.number
done_subs homes s text (row.Reauthenticated sent) notes = rewon_subs s.options.method homes sent
done_subs homes s text row.WrongMac notes = refl
done_subs homes s text row.WrongRes notes = refl
done_subs homes s text row.WrongCheckcode notes = refl
done_subs homes s text (row.Success sent) notes = won_subs s.options.method homes sent
done_subs homes s text row.SecondSync notes = refl
done_subs homes s text row.BadAuts notes = refl
done_subs homes s text (row.Resynchronise sub seq) notes = challenged_subs s.options homes sub notes.number
done_subs homes s text row.Rejected notes = refl
done_subs homes s text (row.ClientError code) notes = refl
done_subs homes s text (row.Notified cause) notes = refl

-- no turn changes whose the homes are
pub turn_subs : (set : Setting) (homes : List HomeRow) (s : ServerEnd) (seen : Seen) (said : Reply) (notes : Notes)
    → map (λ (home : HomeRow). home.sub) (homes_after set homes s seen said notes) ≡ map (λ (home : HomeRow). home.sub) homes
turn_subs set homes s seen said notes = done_subs homes s (text_in seen.reading) (server_row set homes s seen said) notes

-- homes that are written through a slice of all of them are those of the slice
pub written_back : (homes later : List HomeRow) (count : ℕ) → length later ≡ count → take count (later ++ drop (length later) homes) ≡ later
written_back homes later count size =
    ap (λ (n : ℕ). take n (later ++ drop (length later) homes)) (sym size) ∙ take-append_seam later (drop (length later) homes)
