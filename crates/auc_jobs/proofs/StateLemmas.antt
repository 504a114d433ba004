-- For the state: the numbers of the rows, and the released ones.
use Rattle.std.proofs.Common.{◌≡◌, ℕ, zero, suc, ◌+◌, ◌<◌, ◌≤◌, List, [], ◌∷◌, ◌++◌, length, map, take, arith, refl, sym, ◌∙◌, ap, subst}
use Rattle.std.specs.Prelude.{Some, slice_get, slice_index}
use Rattle.std.proofs.lemmas.List.{take_more, take_all, map-append, length-map}
use Rattle.std.proofs.lemmas.List.Elements.{All-nil}
use Rattle.std.proofs.lemmas.Option.{get_or_from_slice_get}
use Rattle.auc_subs.specs.declared.row.Row.{Row}
use Rattle.auc_subs.specs.Subscriber.{AreSubscribers, top_at}
use Rattle.auc_subs.proofs.Facts.{drawn_within}
use Rattle.auc_sqn.specs.Past.{Remembers}
use Rattle.auc_record.specs.Released.{Released}
use Rattle.auc_subs.specs.Setting.{Setting}
use Rattle.auc_world.specs.Start.{Kept, fresh_kept}
use Rattle.auc_record.specs.declared.record.LineRecord.{LineRecord}
use Rattle.auc_jobs.specs.Usims.{AreOfRows, AreBehind}
use Rattle.auc_jobs.specs.InnerSharing.{Shared, IsServable}
use Rattle.auc_world.specs.Given.{past_of}
use Rattle.auc_jobs.specs.State.{AcceptNothing, IsStateOf, Standing, StandsAt}
use Rattle.auc_jobs.proofs.LineLemmas.{some_at}

-- the numbers of the first rows and of one more
pub map-take_more : (rows : List Row) (sub : ℕ) (row : Row) (words : List ℕ) → words ≡ map (λ row. row.seq) (take sub rows)
    → slice_get rows sub ≡ Some row → sub < length rows → words ++ row.seq ∷ [] ≡ map (λ row. row.seq) (take (sub + 1) rows)
map-take_more rows sub row words so_far here inside =
    ap (λ (s : List ℕ). s ++ row.seq ∷ []) so_far
    ∙ sym (ap (map (λ (r : Row). r.seq)) (take_more rows sub row inside ∙ ap (λ (r : Row). take sub rows ++ r ∷ []) (get_or_from_slice_get rows sub row row here))
    ∙ map-append (λ (r : Row). r.seq) (take sub rows) (row ∷ []))

-- the rows' numbers are at most the greatest of their subscribers
pub first_within : (rows : List Row) (sub : ℕ) → AreSubscribers rows → sub < length rows → slice_index (map (λ row. row.seq) rows) sub ≤ top_at rows sub
first_within rows sub subscribers inside =
    let (row, here) = some_at rows sub inside in
    let low = drawn_within rows subscribers sub row here in
    let same : slice_index (map (λ (r : Row). r.seq) rows) sub ≡ row.seq = at rows sub row here in
    omega (arith, low, same)
  where
    at : (rs : List Row) (place : ℕ) (row : Row) → slice_get rs place ≡ Some row → slice_index (map (λ (r : Row). r.seq) rs) place ≡ row.seq
    at [] place row here = let no : ⊥ = cc in absurd no
    at (first ∷ rs) zero row here = ap (λ (r : Row). r.seq) (one first row here)
      where
        one : (a b : Row) → Some a ≡ Some b → a ≡ b
        one a b e = cc
    at (first ∷ rs) (suc place) row here = at rs place row here

pub words_within : (rows : List Row) (words : List ℕ) (count : ℕ) → AreSubscribers rows → words ≡ map (λ row. row.seq) (take count rows) → length rows ≤ count
    → (sub : ℕ) → sub < length rows → slice_index words sub ≤ top_at rows sub
words_within rows words count subscribers is all sub inside =
    subst (λ (ws : List ℕ). slice_index ws sub ≤ top_at rows sub) (sym (is ∙ ap (map (λ (r : Row). r.seq)) (take_all count rows all))) (first_within rows sub subscribers inside)

-- the state before the first round
pub stands_first : (rows : List Row) (set : Setting) (state : Standing) → set.rows ≡ rows → state.words ≡ map (λ row. row.seq) rows
    → ((sub : ℕ) → sub < length rows → slice_index state.words sub ≤ top_at rows sub) → AreOfRows rows state.usims → state.kept ≡ map (λ row. fresh_kept) rows → AreBehind rows [] (slice_get state.usims) → state.released ≡ [] → StandsAt set [] state
stands_first rows set state is words within of_rows fresh behind none = record {
  subscribers = record {
    size = ap (λ (ws : List ℕ). length ws) words ∙ length-map rows (λ (row : Row). row.seq) ∙ ap (λ (rs : List Row). length rs) (sym is);
    numbers = rw is within;
    secrets = rw is of_rows;
    kept = ap (λ (ks : List Kept). length ks) fresh ∙ length-map rows (λ (row : Row). fresh_kept) ∙ ap (λ (rs : List Row). length rs) (sym is);
  };
  pasts = rw is behind;
  earlier = λ sub n. rw none refl;
  numbers = λ sub. All-nil (λ n. n ≤ top_at set.rows sub);
}

-- at other words it still stands after the same lines
pub stands_opened : (inside old : Standing) (words : List ℕ) → inside ≡ old → length words ≡ length old.words
    → (set : Setting) (early : List LineRecord) → ((sub : ℕ) → sub < length set.rows → slice_index words sub ≤ top_at set.rows sub) → StandsAt set early old → StandsAt set early (record { words = words; usims = inside.usims; kept = inside.kept; released = inside.released })
stands_opened inside old words same size set early within stands =
    let s : StandsAt set early inside = subst (StandsAt set early) (sym same) stands in
    record {
      subscribers = record { size = size ∙ stands.subscribers.size; numbers = within; secrets = s.subscribers.secrets; kept = s.subscribers.kept };
      pasts = s.pasts;
      earlier = s.earlier;
      numbers = s.numbers;
    }

-- by lines that no USIM accepted anything by, it stands before all lines once no vector is released
pub stands_forgotten : (inside old : Standing) (none : Released) → inside ≡ old → none ≡ []
    → (set : Setting) (early : List LineRecord) → AcceptNothing early → StandsAt set early old → StandsAt set [] (record { words = inside.words; usims = inside.usims; kept = inside.kept; released = none })
stands_forgotten inside old none same empty set early nothing stands =
    let s : StandsAt set early inside = subst (StandsAt set early) (sym same) stands in
    record {
      subscribers = record { size = s.subscribers.size; numbers = s.subscribers.numbers; secrets = s.subscribers.secrets; kept = s.subscribers.kept };
      pasts = λ sub row usim here its. subst (λ (sqns : List (List ℕ)). Remembers usim.array (past_of row.bits row.usim sqns)) (nothing row.bits sub) (s.pasts sub row usim here its);
      earlier = λ sub n. rw empty refl;
      numbers = λ sub. All-nil (λ n. n ≤ top_at set.rows sub);
    }

-- ---- a round's beginning

-- a book can be opened at the words of its state
pub openings_fit : (inside shared : Shared) (words : List ℕ) → inside ≡ shared → words ≡ inside.state.words → IsServable shared
    → (length words ≡ length inside.set.rows) × (length words ≤ 65536) × ((sub : ℕ) → sub < length inside.set.rows → slice_index words sub ≤ top_at inside.set.rows sub)
openings_fit inside shared words same is servable =
    let own : IsServable inside = subst IsServable (sym same) servable in
    let state : IsStateOf inside.set.rows inside.state = own.begins.1.subscribers in
    let limit : length inside.set.rows ≤ 65536 = own.round.subscribers.limit in
    subst (λ (ws : List ℕ). (length ws ≡ length inside.set.rows) × (length ws ≤ 65536) × ((sub : ℕ) → sub < length inside.set.rows → slice_index ws sub ≤ top_at inside.set.rows sub)) (sym is)
    (state.size, subst (λ (n : ℕ). n ≤ 65536) (sym state.size) limit, state.numbers)
