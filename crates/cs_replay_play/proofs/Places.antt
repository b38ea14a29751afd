-- The logs that are kept are those of the nodes, before the first event and after each.
use Rattle.std.proofs.Common.{◌≡◌, ℕ, Bool, true, false, Bor, zero, suc, ◌<◌, ◌≤◌, List, [], ◌∷◌, ◌++◌, length, get_or, slice_get, slice_set, Option, Some, None, ◌⊎◌, inl, inr, refl, ap, sym, subst, ◌∙◌, arith}
use Rattle.std.specs.Prelude.{replicate, nat_lt, is_some, IfSome, option_copied}
use Rattle.std.proofs.lemmas.Bool.{lt-ltb, ltb-true}
use Rattle.std.proofs.lemmas.List.{length-replicate}
use Rattle.cs_base.specs.declared.node_id.NodeId.{NodeId}
use Rattle.cs_tx_types.specs.declared.transaction.Tx.{Tx}
use Rattle.cs_order.specs.Deeds.{Member}
use Rattle.cs_node_state.specs.Bench.{effect_from}
use Rattle.cs_node_rules.specs.Site.{Input, Site, View, start_view, view_after, signs_of}
use Rattle.cs_node_rules.specs.Signs.{Sign, Dropped, Took, Entered, Viewed, Did, Headed, Kept, Sent}
use Rattle.cs_node_rules.specs.Trail.{event_marks}
use Rattle.cs_node_rules.specs.World.{Happening, trail_of, view_of, happens}
use Rattle.cs_node.specs.declared.node_core.Core.{Core}
use Rattle.cs_node.specs.declared.draft.Note.{Note}
use Rattle.cs_node.specs.declared.draft.Note.TheVariants as note
use Rattle.cs_node.specs.declared.outs.Made.{Made}
use Rattle.cs_node.specs.Notes.{notes_of}
use Rattle.cs_replay_play.specs.Logged.{Logged, none_logged, note_logged, notes_logged, logged_at, IsLogOf, AllLogged}
use Rattle.cs_replay_play.specs.Standing.{Delivered}
use Rattle.cs_replay_play.proofs.Leaves.{sign_logged, signs_logged, HasLeaves, EntriesAreAlone, event-leads, after-enough}
use Rattle.cs_replay_play.proofs.Views.{view-here, view-there, get-within, get-read}

-- ---- what notes tell

pub logged-push : (notes : List Note) (n : Note) (kept : Logged) → notes_logged (notes ++ n ∷ []) kept ≡ note_logged n (notes_logged notes kept)
logged-push [] n kept = refl
logged-push (m ∷ notes) n kept = logged-push notes n (note_logged m kept)

-- notes tell of a log what the signs of an event do
logged-noted : (signs : List Sign) (kept : Logged) → notes_logged (notes_of signs) kept ≡ signs_logged signs kept
logged-noted [] kept = refl
logged-noted (Dropped cause ∷ past) kept = logged-push (notes_of past) (note.Dropped cause) kept ∙ logged-noted past kept
logged-noted (Took sender vote x ∷ past) kept = logged-noted past kept
logged-noted (Entered x ∷ past) kept = logged-noted past kept
logged-noted (Viewed slot view ∷ past) kept = logged-push (notes_of past) (note.Viewed slot view) kept ∙ logged-noted past kept
logged-noted (Did slot place entry effect ∷ past) kept =
    logged-push (notes_of past) (note.Executed slot place entry (effect_from effect)) kept ∙ ap (sign_logged (Did slot place entry effect)) (logged-noted past kept)
logged-noted (Headed number head ∷ past) kept = logged-push (notes_of past) (note.Headed number head) kept ∙ ap (sign_logged (Headed number head)) (logged-noted past kept)
logged-noted (Kept index checkpoint ∷ past) kept = logged-noted past kept
logged-noted (Sent to message ∷ past) kept = logged-noted past kept

-- ---- places

length-logged : (place : ℕ) (notes : List Note) (logs : List Logged) → length (logged_at place notes logs) ≡ length logs
length-logged place notes [] = refl
length-logged zero notes (kept ∷ logs) = refl
length-logged (suc place) notes (kept ∷ logs) = ap suc (length-logged place notes logs)

-- what is written at the place
pub logged-set : (place : ℕ) (notes : List Note) (logs : List Logged) (kept : Logged) → place < length logs → kept ≡ get_or logs place kept → slice_set logs place (notes_logged notes kept) ≡ logged_at place notes logs
logged-set place notes [] kept within is = absurd (omega arith)
logged-set zero notes (first ∷ logs) kept within is = ap (λ k. notes_logged notes k ∷ logs) is
logged-set (suc place) notes (first ∷ logs) kept within is = ap (λ ls. first ∷ ls) (logged-set place notes logs kept (omega arith) is)

-- where there is no such place
pub logged-past : (place : ℕ) (notes : List Note) (logs : List Logged) → length logs ≤ place → logs ≡ logged_at place notes logs
logged-past place notes [] past = refl
logged-past zero notes (first ∷ logs) past = absurd (omega arith)
logged-past (suc place) notes (first ∷ logs) past = ap (λ ls. first ∷ ls) (logged-past place notes logs (omega arith))

-- what was lent of a place
pub copied-at : {A : Type 0} (lent : Option (Bor A)) (xs : List A) (k : ℕ) (x : A) → is_some lent ≡ nat_lt k (length xs) → IfSome lent (λ y. y.now ≡ get_or xs k y.now) → slice_get xs k ≡ Some x → option_copied lent ≡ Some x
copied-at {A} None xs k x within is there =
    let less : nat_lt k (length xs) ≡ true = lt-ltb k (length xs) (get-within xs k x there) in
    let both : false ≡ true = within ∙ less in
    absurd (cc)
copied-at {A} (Some y) xs k x within is there = sym (get-read xs k y.now (ltb-true k (length xs) (sym within)) is) ∙ there

-- the log at the place, with what the notes tell
pub record IsTold (place : ℕ) (notes : List Note) (logs : List Logged) (i : ℕ) (kept : Logged) : Type 0 where
  pub before : Logged
  pub here : i ≡ place
  pub was : slice_get logs i ≡ Some before
  pub is : kept ≡ notes_logged notes before

-- or any other, as it was
pub record IsLeft (place : ℕ) (logs : List Logged) (i : ℕ) (kept : Logged) : Type 0 where
  pub other : i ≡ place → ⊥
  pub was : slice_get logs i ≡ Some kept

get-logged : (place : ℕ) (notes : List Note) (logs : List Logged) (i : ℕ) (kept : Logged) → slice_get (logged_at place notes logs) i ≡ Some kept
    → IsTold place notes logs i kept ⊎ IsLeft place logs i kept
get-logged place notes [] i kept h = let q : None ≡ Some kept = h in absurd (cc)
get-logged zero notes (first ∷ logs) zero kept h =
    let q : Some (notes_logged notes first) ≡ Some kept = h in
    let same : kept ≡ notes_logged notes first = cc in
    inl (record { before = first; here = refl; was = refl; is = same })
get-logged zero notes (first ∷ logs) (suc i) kept h = inr (record { other = λ e. omega arith; was = h })
get-logged (suc place) notes (first ∷ logs) zero kept h = inr (record { other = λ e. omega arith; was = h })
get-logged (suc place) notes (first ∷ logs) (suc i) kept h =
    elim (get-logged place notes logs i kept h) [
      | inl told ↦ inl (record { before = told.before; here = ap suc told.here; was = told.was; is = told.is })
      | inr left ↦ inr (record { other = λ e. left.other (omega arith); was = left.was })
    ]

module _ {M : Type 0} (site : Site M) (alone : EntriesAreAlone site) where
  -- one node took an input
  log-told : (world : List (Happening M)) (me : NodeId) (input : Input) (notes : List Note) (kept : Logged) → notes ≡ notes_of (signs_of (event_marks site (view_of site world me) input))
      → IsLogOf (view_of site world me) kept → IsLogOf (view_of site (happens site me input world) me) (notes_logged notes kept)
  log-told world me input notes kept told log =
      let v = view_of site world me in
      let signs = signs_of (event_marks site v input) in
      let enough : HasLeaves v.bench.log = after-enough site alone (trail_of me world) (start_view site me) (omega arith) in
      let fits = event-leads site alone v input kept (record { is = log.is; slots = log.slots; enough = enough }) in
      let tells : notes_logged notes kept ≡ signs_logged signs kept = ap (λ ns. notes_logged ns kept) told ∙ logged-noted signs kept in
      subst (λ (w : View M). IsLogOf w (notes_logged notes kept)) (sym (view-here site me input world))
      (subst (λ (k : Logged). IsLogOf (view_after site (event_marks site v input) v) k) (sym tells) (record { is = fits.is; slots = fits.slots }))

  -- the logs after it
  pub logs-told : {O J : Type 0} (stands : O → Member M → Type 0) (approves : J → Tx → Bool) (names : ℕ → NodeId) (cores : List (Core O J M)) (world : List (Happening M)) (me : NodeId) (input : Input) (made : Made) (notes : List Note)
      (logs logs' : List Logged) (place : ℕ) → Delivered stands approves site names cores world me input made → made.notes ≡ notes → names place ≡ me → place < length cores → AllLogged site names (length cores) logs world → logs' ≡ logged_at place notes logs
      → AllLogged site names (length cores) logs' (happens site me input world)
  logs-told stands approves names cores world me input made notes logs logs' place d are named within all is =
      subst (λ (ls : List Logged). AllLogged site names (length cores) ls (happens site me input world)) (sym is) (record {
        each = λ i kept h.
            elim (get-logged place notes logs i kept h) [
              | inl told ↦
                  let name : names i ≡ me = ap names told.here ∙ named in
                  let before : IsLogOf (view_of site world me) told.before = subst (λ (n : NodeId). IsLogOf (view_of site world n) told.before) name (all.each i told.before told.was) in
                  subst (λ (n : NodeId). IsLogOf (view_of site (happens site me input world) n) kept) (sym name)
                  (subst (λ (k : Logged). IsLogOf (view_of site (happens site me input world) me) k) (sym told.is) (log-told world me input notes told.before (sym are ∙ d.notes) before))
              | inr left ↦
                  let below : i < length cores = subst (λ n. i < n) all.count (get-within logs i kept left.was) in
                  subst (λ (v : View M). IsLogOf v kept)
                  (sym (view-there site me (names i) input world (λ same. left.other (sym (d.all.apart place i within below (named ∙ same))))))
                  (all.each i kept left.was)
            ];
        count = length-logged place notes logs ∙ all.count;
      })

-- ---- before the first event

module _ {M : Type 0} (site : Site M) where
  none-at : (count i : ℕ) (kept : Logged) → slice_get (replicate count none_logged) i ≡ Some kept → kept ≡ none_logged
  none-at zero i kept h = let q : None ≡ Some kept = h in absurd (cc)
  none-at (suc count) zero kept h = let q : Some none_logged ≡ Some kept = h in cc
  none-at (suc count) (suc i) kept h = none-at count i kept h

  pub logs-begin : (names : ℕ → NodeId) (count : ℕ) (logs : List Logged) → logs ≡ replicate count none_logged → AllLogged site names count logs []
  logs-begin names count logs is =
      subst (λ (ls : List Logged). AllLogged site names count ls []) (sym is) (record {
        each = λ i kept h. record { is = none-at count i kept h; slots = refl };
        count = length-replicate count none_logged;
      })
