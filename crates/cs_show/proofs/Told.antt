-- The last words of the nodes of a shard, by one input more.
use Rattle.std.proofs.Common.{◌≡◌, ℕ, zero, suc, ◌+◌, ◌*◌, ◌<◌, ◌≤◌, Bool, true, false, List, [], ◌∷◌, ◌++◌, length, map, Option, Some, None, inl, inr, refl, sym, ap, ◌∙◌, arith, replicate, if◌then◌else◌}
use Rattle.std.specs.Prelude.{option_and_then, slice_set, ◌==◌}
use Rattle.std.proofs.lemmas.Bool.{cases_Bool, cases_eq, cases_lt}
use Rattle.std.proofs.lemmas.List.{map-append, length-map}
use Rattle.cs_base.specs.declared.node_id.NodeId.{NodeId}
use Rattle.cs_base.specs.NodeId.{same_name, members_below}
use Rattle.cs_base.specs.Options.{or_else}
use Rattle.cs_wire_message.specs.declared.message.Message.{Message}
use Rattle.cs_client.specs.Inputs.{ClientInput, heard, from_node, said_from}
use Rattle.cs_client.proofs.Members.{node_at, length-members, same-members, set-members}
use Rattle.cs_client.proofs.Telling.{is-one, isn't, same-place, other-shard, other-index}
use Rattle.cs_show.specs.declared.lookup.Lookup.{Lookup}
use Rattle.cs_show.specs.Words.{line_in, word_of, shard_asked, nodes_asked, words_of, first_said, seen}

-- ---- before the first input

module _ {A : Type 0} where
  replicate-more : (n : ℕ) (c : A) → replicate n c ++ c ∷ [] ≡ replicate (suc n) c
  replicate-more zero c = refl
  replicate-more (suc n) c = ap (λ cs. c ∷ cs) (replicate-more n c)

  none-members : (F : NodeId → A) (c : A) (shard n : ℕ) → ((node : NodeId) → F node ≡ c) → map F (members_below shard n) ≡ replicate n c
  none-members F c shard zero same = refl
  none-members F c shard (suc n) same =
      map-append F (members_below shard n) (node_at shard n ∷ [])
      ∙ (ap (λ cs. cs ++ F (node_at shard n) ∷ []) (none-members F c shard n same)
      ∙ (ap (λ y. replicate n c ++ y ∷ []) (same (node_at shard n)) ∙ replicate-more n c))

pub nothing-told : (l : Lookup) → words_of l [] ≡ replicate (3 * l.config.f + 1) None
nothing-told l = none-members (word_of l []) None (shard_asked l) (3 * l.config.f + 1) (λ node. refl)

none-said : (f n : ℕ) (all : List (Option (List ℕ))) → first_said f all (replicate n None) ≡ None
none-said f zero all = refl
none-said f (suc n) all = none-said f n all

pub nothing-seen : (l : Lookup) → seen l [] ≡ None
nothing-seen l =
    ap (first_said l.config.f (words_of l [])) (nothing-told l) ∙ none-said l.config.f (3 * l.config.f + 1) (words_of l [])

-- ---- one word more

-- past the end nothing is put
pub put-past : {A : Type 0} (xs : List A) (i : ℕ) (x : A) → length xs ≤ i → slice_set xs i x ≡ xs
put-past [] i x past = refl
put-past (y ∷ xs) zero x past = absurd (omega arith)
put-past (y ∷ xs) (suc i) x past = ap (λ ys. y ∷ ys) (put-past xs i x (omega arith))

-- these words, with that of this node in the place of its last one, where it is one of the shard
abbrev pub put_from : NodeId → ℕ → List ℕ → List (Option (List ℕ)) → Bool → List (Option (List ℕ))
put_from from shard line words there = if there then slice_set words from.index (Some line) else words

module _ (l : Lookup) (input : ClientInput) (past : List ClientInput) where
  -- what a node is found to say of the key
  abbrev step : NodeId → Option (List ℕ)
  step node = option_and_then (line_in l.key) (said_from l.keys node input)

  word-none : (node : NodeId) → step node ≡ None → word_of l (input ∷ past) node ≡ word_of l past node
  word-none node none = ap (λ o. or_else o (word_of l past node)) none

  word-some : (node : NodeId) (line : List ℕ) → step node ≡ Some line → word_of l (input ∷ past) node ≡ Some line
  word-some node line some = ap (λ o. or_else o (word_of l past node)) some

  unsaid : ((i : ℕ) → i < 3 * l.config.f + 1 → step (node_at (shard_asked l) i) ≡ None) → words_of l (input ∷ past) ≡ words_of l past
  unsaid none =
      same-members (word_of l (input ∷ past)) (word_of l past) (shard_asked l) (3 * l.config.f + 1)
      (λ i less. word-none (node_at (shard_asked l) i) (none i less))

  -- what doesn't open says nothing
  pub unheard : heard l.keys input ≡ None → words_of l (input ∷ past) ≡ words_of l past
  unheard none = unsaid (λ i less. ap (λ s. option_and_then (line_in l.key) (from_node (node_at (shard_asked l) i) s)) none)

  module _ (from : NodeId) (m : Message) (said : heard l.keys input ≡ Some (from, m)) where
    step-here : (node : NodeId) → same_name from node ≡ true → step node ≡ line_in l.key m
    step-here node same =
        ap (λ s. option_and_then (line_in l.key) (from_node node s)) said
        ∙ ap (λ t. option_and_then (line_in l.key) (if t then Some m else None)) same

    step-not : (node : NodeId) → same_name from node ≡ false → step node ≡ None
    step-not node other =
        ap (λ s. option_and_then (line_in l.key) (from_node node s)) said
        ∙ ap (λ t. option_and_then (line_in l.key) (if t then Some m else None)) other

    -- it tells nothing of the key
    pub says-nothing : line_in l.key m ≡ None → words_of l (input ∷ past) ≡ words_of l past
    says-nothing none =
        unsaid (λ i less. elim (cases_Bool (same_name from (node_at (shard_asked l) i))) [
          | inl same ↦ step-here (node_at (shard_asked l) i) same ∙ none
          | inr other ↦ step-not (node_at (shard_asked l) i) other
        ])

    -- it tells this of it
    module _ (line : List ℕ) (tells : line_in l.key m ≡ Some line) where
      length-words : length (words_of l past) ≡ 3 * l.config.f + 1
      length-words = length-map (nodes_asked l) (word_of l past) ∙ length-members (shard_asked l) (3 * l.config.f + 1)

      in-shard : from.shard ≡ shard_asked l → words_of l (input ∷ past) ≡ slice_set (words_of l past) from.index (Some line)
      in-shard there =
          elim (cases_lt from.index (3 * l.config.f + 1)) [
            | inl less ↦
                set-members (word_of l past) (word_of l (input ∷ past)) (shard_asked l) (3 * l.config.f + 1) from.index (Some line) less
                (word-some (node_at (shard_asked l) from.index) line
                (step-here (node_at (shard_asked l) from.index) (same-place from (shard_asked l) from.index there refl) ∙ tells))
                (λ i low other. word-none (node_at (shard_asked l) i)
                (step-not (node_at (shard_asked l) i) (other-index from (node_at (shard_asked l) i) (λ same. other (sym same)))))
            | inr past-end ↦
                unsaid (λ i low. step-not (node_at (shard_asked l) i) (other-index from (node_at (shard_asked l) i) (λ same. omega (arith, same, low, past-end))))
                ∙ sym (put-past (words_of l past) from.index (Some line) (let long = length-words in omega arith))
          ]

      pub says-so : words_of l (input ∷ past) ≡ put_from from (shard_asked l) line (words_of l past) (from.shard == shard_asked l)
      says-so =
          elim (cases_eq from.shard (shard_asked l)) [
            | inl there ↦ in-shard there ∙ sym (ap (put_from from (shard_asked l) line (words_of l past)) (is-one from.shard (shard_asked l) there))
            | inr other ↦
                unsaid (λ i low. step-not (node_at (shard_asked l) i) (other-shard from (node_at (shard_asked l) i) other))
                ∙ sym (ap (put_from from (shard_asked l) line (words_of l past)) (isn't from.shard (shard_asked l) other))
          ]
