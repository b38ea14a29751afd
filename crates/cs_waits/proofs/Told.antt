-- What a client notes before its first input, and by one input more.
use Rattle.std.proofs.Common.{◌≡◌, ℕ, zero, suc, ◌+◌, ◌*◌, ◌<◌, ◌≤◌, Bool, true, false, List, [], ◌∷◌, ◌++◌, length, map, Option, Some, None, inl, inr, refl, sym, ap, ◌∙◌, arith, replicate, if◌then◌else◌}
use Rattle.std.specs.Prelude.{option_and_then, option_map, is_some, unwrap_or, slice_set, ◌==◌}
use Rattle.std.proofs.lemmas.Bool.{cases_Bool, cases_eq, cases_lt}
use Rattle.std.proofs.lemmas.List.{map-append, length-map}
use Rattle.cs_base.specs.declared.config.Config.{Config}
use Rattle.cs_base.specs.declared.node_id.NodeId.{NodeId}
use Rattle.cs_base.specs.NodeId.{same_name, members_below}
use Rattle.cs_base.specs.Options.{or_else}
use Rattle.cs_wire.specs.declared.input.Out.{Out}
use Rattle.cs_wire.specs.declared.keys.Keys.{Keys}
use Rattle.cs_wire_message.specs.declared.message.Message.{Message}
use Rattle.cs_client.specs.declared.errand.Errand.{Errand}
use Rattle.cs_client.specs.Nodes.{nodes_in}
use Rattle.cs_client.specs.Inputs.{ClientInput, Said, heard, from_node, latest}
use Rattle.cs_client.specs.Objects.{shard_of_name}
use Rattle.cs_client.specs.Sayings.{says_at, outs_of_sayings}
use Rattle.cs_client.specs.declared.waiting.Waiting.{Waiting}
use Rattle.cs_client.specs.Waits.{waiting}
use Rattle.cs_client.proofs.Members.{node_at, length-members, same-members, set-members, same-each, each-changed}
use Rattle.cs_client.proofs.Telling.{is-one, isn't, same-place, other-shard, other-index}
use Rattle.cs_waits.specs.declared.notes.Watched.{Watched}
use Rattle.cs_waits.specs.declared.words.Word.{Word}
use Rattle.cs_waits.specs.declared.words.Word.TheVariants.{Silent}
use Rattle.cs_waits.specs.Words.{word_in, word_by, last_word, words_on}
use Rattle.cs_waits.specs.Notes.{Noted, objects_of, watched_on, asked_by, heard_by, with_heard, notes_of, unwatched, nothing_noted, put_from, with_told, with_word, after_said, after_asking}
use Rattle.cs_waits.specs.Lines.{open_text}
use Rattle.cs_waits.specs.Standing.{notes_if, lines_if}

-- ---- before the first input

module _ {A : Type 0} where
  replicate-more : (n : ℕ) (c : A) → replicate n c ++ c ∷ [] ≡ replicate (suc n) c
  replicate-more zero c = refl
  replicate-more (suc n) c = ap (λ cs. c ∷ cs) (replicate-more n c)

  none-members : (F : NodeId → A) (c : A) (shard n : ℕ) → ((node : NodeId) → F node ≡ c) → map F (members_below shard n) ≡ replicate n c
  none-members F c shard zero same = refl
  none-members F c shard (suc n) same =
      map-append F (members_below shard n) (node_at shard n ∷ [])
      ∙ (ap (λ cs. cs ++ F (node_at shard n) ∷ []) (none-members F c shard n same)
      ∙ (ap (λ y. replicate n c ++ y ∷ []) (same (node_at shard n)) ∙ replicate-more n c))

unwatched-so : (e : Errand) (name : List ℕ) → watched_on e.config e.keys [] name ≡ unwatched (3 * e.config.f + 1) name
unwatched-so e name =
    ap (λ words. let w : Watched = record { name = name; words = words } in w)
    (none-members (last_word e.keys name []) Silent (shard_of_name e.config name) (3 * e.config.f + 1) (λ node. refl))

pub nothing-so : (e : Errand) → nothing_noted e.config e.call ≡ notes_of e []
nothing-so e =
    let fresh = unwatched (3 * e.config.f + 1) in
    ap (λ watched. let n : Noted = record { watched = watched; asked = []; heard = [] } in n)
    (sym (same-each (watched_on e.config e.keys []) fresh (objects_of e.call) (unwatched-so e) ∙ map-append fresh e.call.inputs e.call.reads))

-- ---- one word more

-- past the end nothing is put
put-past : {A : Type 0} (xs : List A) (i : ℕ) (x : A) → length xs ≤ i → slice_set xs i x ≡ xs
put-past [] i x past = refl
put-past (y ∷ xs) zero x past = absurd (omega arith)
put-past (y ∷ xs) (suc i) x past = ap (λ ys. y ∷ ys) (put-past xs i x (omega arith))

module _ (config : Config) (keys : Keys) (input : ClientInput) (past : List ClientInput) (name : List ℕ) where
  abbrev shard : ℕ
  shard = shard_of_name config name

  word-none : (node : NodeId) → word_by keys name node input ≡ None → last_word keys name (input ∷ past) node ≡ last_word keys name past node
  word-none node none = ap (λ o. unwrap_or (or_else o (latest (word_by keys name node) past)) Silent) none

  word-some : (node : NodeId) (word : Word) → word_by keys name node input ≡ Some word → last_word keys name (input ∷ past) node ≡ word
  word-some node word some = ap (λ o. unwrap_or (or_else o (latest (word_by keys name node) past)) Silent) some

  unsaid : ((i : ℕ) → i < 3 * config.f + 1 → word_by keys name (node_at shard i) input ≡ None) → words_on config keys (input ∷ past) name ≡ words_on config keys past name
  unsaid none =
      same-members (last_word keys name (input ∷ past)) (last_word keys name past) shard (3 * config.f + 1)
      (λ i less. word-none (node_at shard i) (none i less))

  -- what doesn't open says nothing
  unheard : heard keys input ≡ None → words_on config keys (input ∷ past) name ≡ words_on config keys past name
  unheard none = unsaid (λ i less. ap (λ s. option_and_then (word_in name) (from_node (node_at shard i) s)) none)

  module _ (from : NodeId) (m : Message) (said : heard keys input ≡ Some (from, m)) where
    step-here : (node : NodeId) → same_name from node ≡ true → word_by keys name node input ≡ word_in name m
    step-here node same =
        ap (λ s. option_and_then (word_in name) (from_node node s)) said
        ∙ ap (λ t. option_and_then (word_in name) (if t then Some m else None)) same

    step-not : (node : NodeId) → same_name from node ≡ false → word_by keys name node input ≡ None
    step-not node other =
        ap (λ s. option_and_then (word_in name) (from_node node s)) said
        ∙ ap (λ t. option_and_then (word_in name) (if t then Some m else None)) other

    -- it says nothing of the object
    says-nothing : word_in name m ≡ None → words_on config keys (input ∷ past) name ≡ words_on config keys past name
    says-nothing none =
        unsaid (λ i less. elim (cases_Bool (same_name from (node_at shard i))) [
          | inl same ↦ step-here (node_at shard i) same ∙ none
          | inr other ↦ step-not (node_at shard i) other
        ])

    -- it says this of it
    module _ (word : Word) (tells : word_in name m ≡ Some word) where
      length-words : length (words_on config keys past name) ≡ 3 * config.f + 1
      length-words = length-map (nodes_in config.f shard) (last_word keys name past) ∙ length-members shard (3 * config.f + 1)

      in-shard : from.shard ≡ shard → words_on config keys (input ∷ past) name ≡ slice_set (words_on config keys past name) from.index word
      in-shard there =
          elim (cases_lt from.index (3 * config.f + 1)) [
            | inl less ↦
                set-members (last_word keys name past) (last_word keys name (input ∷ past)) shard (3 * config.f + 1) from.index word less
                (word-some (node_at shard from.index) word
                (step-here (node_at shard from.index) (same-place from shard from.index there refl) ∙ tells))
                (λ i low other. word-none (node_at shard i)
                (step-not (node_at shard i) (other-index from (node_at shard i) (λ same. other (sym same)))))
            | inr past-end ↦
                unsaid (λ i low. step-not (node_at shard i) (other-index from (node_at shard i) (λ same. omega (arith, same, low, past-end))))
                ∙ sym (put-past (words_on config keys past name) from.index word (let long = length-words in omega arith))
          ]

      says-so : words_on config keys (input ∷ past) name ≡ put_from from word (words_on config keys past name) (from.shard == shard)
      says-so =
          elim (cases_eq from.shard shard) [
            | inl there ↦ in-shard there ∙ sym (ap (put_from from word (words_on config keys past name)) (is-one from.shard shard there))
            | inr other ↦
                unsaid (λ i low. step-not (node_at shard i) (other-shard from (node_at shard i) other))
                ∙ sym (ap (put_from from word (words_on config keys past name)) (isn't from.shard shard other))
          ]

    abbrev one : List Word → Watched
    one words = record { name = name; words = words }

    -- whatever it says of it
    told-so : watched_on config keys (input ∷ past) name ≡ with_word config from m (watched_on config keys past name)
    told-so = by (word_in name m) refl where
      by : (o : Option Word) → word_in name m ≡ o → watched_on config keys (input ∷ past) name ≡ with_told config from o (watched_on config keys past name)
      by None is = ap one (says-nothing is)
      by (Some word) is = ap one (says-so word is)

-- ---- one input more

module _ (e : Errand) (input : ClientInput) (past : List ClientInput) where
  -- the notes of these words, nodes asked, and nodes heard
  abbrev noted : List Watched → List NodeId → List NodeId → Noted
  noted watched asked heard = record { watched = watched; asked = asked; heard = heard }

  -- what an input says is noted, before what is said at it
  pub said-so : after_said e.config (heard e.keys input) (notes_of e past) ≡ noted (notes_of e (input ∷ past)).watched (asked_by e past) (heard_by e.keys (input ∷ past))
  said-so = by (heard e.keys input) refl where
    by : (said : Said) → heard e.keys input ≡ said → after_said e.config said (notes_of e past) ≡ noted (notes_of e (input ∷ past)).watched (asked_by e past) (with_heard said (heard_by e.keys past))
    by None is =
        sym (ap (λ watched. noted watched (asked_by e past) (heard_by e.keys past))
        (same-each (watched_on e.config e.keys (input ∷ past)) (watched_on e.config e.keys past) (objects_of e.call)
        (λ name. ap (λ words. let w : Watched = record { name = name; words = words } in w) (unheard e.config e.keys input past name is))))
    by (Some (from, m)) is =
        sym (ap (λ watched. noted watched (asked_by e past) (with_heard (Some (from, m)) (heard_by e.keys past)))
        (each-changed (watched_on e.config e.keys past) (watched_on e.config e.keys (input ∷ past)) (with_word e.config from m) (objects_of e.call)
        (λ name. told-so e.config e.keys input past name from m is)))

  pub noted-so : (outs : List Out) → outs ≡ outs_of_sayings e.keys (says_at e input past) → after_asking outs (after_said e.config (heard e.keys input) (notes_of e past)) ≡ notes_of e (input ∷ past)
  noted-so outs is =
      ap (λ os. after_asking os (after_said e.config (heard e.keys input) (notes_of e past))) is
      ∙ ap (after_asking (outs_of_sayings e.keys (says_at e input past))) said-so

  -- where there are notes
  pub notes-so : (details : Bool) (outs : List Out) → outs ≡ outs_of_sayings e.keys (says_at e input past)
      → option_map (after_asking outs) (option_map (after_said e.config (heard e.keys input)) (notes_if details e past)) ≡ notes_if details e (input ∷ past)
  notes-so true outs is = ap (λ n. let o : Option Noted = Some n in o) (noted-so outs is)
  notes-so false outs is = refl

pub has-notes : (details : Bool) (e : Errand) (inputs : List ClientInput) → is_some (notes_if details e inputs) ≡ details
has-notes true e inputs = refl
has-notes false e inputs = refl

pub no-lines : (details : Bool) (e : Errand) (inputs : List ClientInput) → notes_if details e inputs ≡ None → lines_if details e inputs ≡ None
no-lines true e inputs is = absurd cc
no-lines false e inputs is = refl

pub lines-so : (details : Bool) (e : Errand) (inputs : List ClientInput) (f : ℕ) (n : Noted) (w : Waiting) → notes_if details e inputs ≡ Some n → w ≡ waiting e inputs → f ≡ e.config.f → Some (open_text f n w) ≡ lines_if details e inputs
lines-so true e inputs f n w is waits same =
    let notes : notes_of e inputs ≡ n = cc in
    ap (λ k. Some (open_text k n w)) same
    ∙ (ap (λ (k : Noted). Some (open_text e.config.f k w)) (sym notes) ∙ ap (λ (so : Waiting). Some (open_text e.config.f (notes_of e inputs) so)) waits)
lines-so false e inputs f n w is waits same = absurd cc
