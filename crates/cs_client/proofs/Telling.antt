-- What is kept of the inputs, by one input more.
use Rattle.std.proofs.Common.{◌≡◌, ℕ, ◌+◌, ◌*◌, ◌<◌, Bool, true, false, List, ◌∷◌, map, Option, Some, None, inl, inr, refl, sym, ap, ◌∙◌, arith, if◌then◌else◌}
use Rattle.std.specs.Prelude.{option_and_then, bytes_eq, is_some, slice_set, unwrap_or, ◌==◌, ◌&&◌, drop, []}
use Rattle.std.specs.Int.{w32, from_be_bytes}
use Rattle.std.proofs.lemmas.Nat.{mod_below}
use Rattle.std.proofs.lemmas.Bool.{cases_Bool, cases_eq}
use Rattle.std.proofs.lemmas.Bool.Decides.{nat_tests}
use Rattle.std.proofs.lemmas.Slice.Eq.{bytes_eq-Decides}
use Rattle.cs_base.specs.declared.config.Config.{Config}
use Rattle.cs_base.specs.declared.key.Key.{Key}
use Rattle.cs_base.specs.declared.key.Key.TheVariants as key
use Rattle.cs_base.specs.declared.node_id.NodeId.{NodeId}
use Rattle.cs_base.specs.Key.{shard_of_key}
use Rattle.cs_base.specs.NodeId.{same_name, is_node}
use Rattle.cs_base.specs.Options.{or_else}
use Rattle.cs_tx_value.specs.declared.object.Object.{Object}
use Rattle.cs_tx_types.specs.declared.state.State.{State}
use Rattle.cs_wire.specs.declared.keys.Keys.{Keys}
use Rattle.cs_wire_message.specs.declared.message.Message.{Message}
use Rattle.cs_wire_message.specs.declared.message.Message.TheVariants as message
use Rattle.cs_client.specs.declared.errand.Errand.{Errand}
use Rattle.cs_client.specs.Inputs.{ClientInput, heard, from_node, said_from, latest, or_none}
use Rattle.cs_client.specs.Objects.{active, free_in, word_told, object_told, told_in, word_on, shard_of_name, words_on}
use Rattle.cs_dummies.specs.Named.{DummyWord, named_with}
use Rattle.cs_client.specs.Nodes.{numbers_below}
use Rattle.cs_client.specs.Dummies.{dummy_told, dummy_word_in, named_after, named_by, serials_in}
use Rattle.cs_client.specs.Kept.{WordsTold, told_by_inputs, asked_on, asked_with, with_word, word_of_name, told_with_state, heard_of, serials_kept, with_dummy_word}
use Rattle.cs_client.proofs.Members.{node_at, same-members, same-shards, same-each, set-members, set-shards, each-changed, get-shards, get-members}

-- ---- names of nodes

is_self : (n : ℕ) → (n == n) ≡ true
is_self n = grind (arith, nat_tests)

pub is-one : (m n : ℕ) → m ≡ n → (m == n) ≡ true
is-one m n same = ap (λ k. k == n) same ∙ is_self n

pub isn't : (m n : ℕ) → (m ≡ n → ⊥) → (m == n) ≡ false
isn't m n other = grind (arith, nat_tests)

pub same-place : (a : NodeId) (shard index : ℕ) → a.shard ≡ shard → a.index ≡ index → same_name a (node_at shard index) ≡ true
same-place a shard index s i = grind (arith, nat_tests)

pub other-shard : (a b : NodeId) → (a.shard ≡ b.shard → ⊥) → same_name a b ≡ false
other-shard a b other = ap (λ t. t && (a.index == b.index)) (isn't a.shard b.shard other)

and-false : (t : Bool) → (t && false) ≡ false
and-false true = refl
and-false false = refl

pub other-index : (a b : NodeId) → (a.index ≡ b.index → ⊥) → same_name a b ≡ false
other-index a b other = ap (λ t. (a.shard == b.shard) && t) (isn't a.index b.index other) ∙ and-false (a.shard == b.shard)

pub is_in : (config : Config) (node : NodeId) → is_node config node ≡ true → (node.shard < config.shards) × (node.index < 3 * config.f + 1)
is_in config node is = (grind (arith, nat_tests), grind (arith, nat_tests))

-- ---- what is found last

latest-none : {A : Type 0} (found : ClientInput → Option A) (input : ClientInput) (past : List ClientInput) → found input ≡ None → latest found (input ∷ past) ≡ latest found past
latest-none found input past none = ap (λ o. or_else o (latest found past)) none

latest-some : {A : Type 0} (found : ClientInput → Option A) (input : ClientInput) (past : List ClientInput) (x : A) → found input ≡ Some x → latest found (input ∷ past) ≡ Some x
latest-some found input past x some = ap (λ o. or_else o (latest found past)) some

module _ (config : Config) (keys : Keys) (input : ClientInput) (past : List ClientInput) where
  -- what a node is found to say of a name, and of dummies
  abbrev word : List ℕ → NodeId → Option (Option Object)
  word name node = option_and_then (told_in name) (said_from keys node input)

  abbrev serial : NodeId → Option DummyWord
  serial node = option_and_then (dummy_word_in node.shard) (said_from keys node input)

  word-none : (name : List ℕ) (node : NodeId) → word name node ≡ None → word_on keys name (input ∷ past) node ≡ word_on keys name past node
  word-none name node none = ap or_none (latest-none (λ i. option_and_then (told_in name) (said_from keys node i)) input past none)

  word-some : (name : List ℕ) (node : NodeId) (w : Option Object) → word name node ≡ Some w → word_on keys name (input ∷ past) node ≡ w
  word-some name node w some = ap or_none (latest-some (λ i. option_and_then (told_in name) (said_from keys node i)) input past w some)

  serial-none : (first : Option ℕ) (node : NodeId) → serial node ≡ None → named_by first keys (input ∷ past) node ≡ named_by first keys past node
  serial-none first node none = ap (λ (w : Option DummyWord). named_after first w (named_by first keys past node)) none

  serial-some : (first : Option ℕ) (node : NodeId) (w : DummyWord) → serial node ≡ Some w → named_by first keys (input ∷ past) node ≡ named_with first w (named_by first keys past node)
  serial-some first node w some = ap (λ (word : Option DummyWord). named_after first word (named_by first keys past node)) some

  -- ---- nothing is told

  asked-none : (name : List ℕ) → ((i : ℕ) → i < 3 * config.f + 1 → word name (node_at (shard_of_name config name) i) ≡ None) → asked_on config keys (input ∷ past) name ≡ asked_on config keys past name
  asked-none name none =
      ap (asked_with config.f name) (same-members (word_on keys name (input ∷ past)) (word_on keys name past) (shard_of_name config name) (3 * config.f + 1)
      (λ i less. word-none name (node_at (shard_of_name config name) i) (none i less)))

  serials-none : (first : Option ℕ) (shard : ℕ) → ((i : ℕ) → i < 3 * config.f + 1 → serial (node_at shard i) ≡ None) → serials_in first config keys (input ∷ past) shard ≡ serials_in first config keys past shard
  serials-none first shard none =
      same-members (named_by first keys (input ∷ past)) (named_by first keys past) shard (3 * config.f + 1) (λ i less. serial-none first (node_at shard i) (none i less))

  -- ---- a node says a message

  module _ (from : NodeId) (m : Message) (said : heard keys input ≡ Some (from, m)) where
    said-here : (node : NodeId) → same_name from node ≡ true → said_from keys node input ≡ Some m
    said-here node same = ap (from_node node) said ∙ ap (λ t. if t then Some m else None) same

    said-not : (node : NodeId) → same_name from node ≡ false → said_from keys node input ≡ None
    said-not node other = ap (from_node node) said ∙ ap (λ t. if t then Some m else None) other

    word-here : (name : List ℕ) (node : NodeId) → same_name from node ≡ true → word name node ≡ told_in name m
    word-here name node same = ap (option_and_then (told_in name)) (said-here node same)

    word-not : (name : List ℕ) (node : NodeId) → same_name from node ≡ false → word name node ≡ None
    word-not name node other = ap (option_and_then (told_in name)) (said-not node other)

    -- it says nothing of the name, whoever says it
    word-nothing : (name : List ℕ) → told_in name m ≡ None → (node : NodeId) → word name node ≡ None
    word-nothing name none node =
        elim (cases_Bool (same_name from node)) [
          | inl same ↦ word-here name node same ∙ none
          | inr other ↦ word-not name node other
        ]

    serial-not : (node : NodeId) → same_name from node ≡ false → serial node ≡ None
    serial-not node other = ap (option_and_then (dummy_word_in node.shard)) (said-not node other)

    serial-here : (node : NodeId) → same_name from node ≡ true → serial node ≡ dummy_word_in node.shard m
    serial-here node same = ap (option_and_then (dummy_word_in node.shard)) (said-here node same)

    serial-nothing : (node : NodeId) → dummy_word_in node.shard m ≡ None → serial node ≡ None
    serial-nothing node none =
        elim (cases_Bool (same_name from node)) [
          | inl same ↦ serial-here node same ∙ none
          | inr other ↦ serial-not node other
        ]

-- ---- all that is told

pub told-eq : (a b : WordsTold) → a.inputs ≡ b.inputs → a.reads ≡ b.reads → a.first ≡ b.first → a.serials ≡ b.serials → a ≡ b
told-eq a b i r f s = λ k. record { inputs = i k; reads = r k; first = f k; serials = s k }

pub silent : (e : Errand) (input : ClientInput) (past : List ClientInput)
    → ((name : List ℕ) (i : ℕ) → i < 3 * e.config.f + 1 → word e.config e.keys input past name (node_at (shard_of_name e.config name) i) ≡ None)
    → ((shard : ℕ) → shard < e.config.shards → (i : ℕ) → i < 3 * e.config.f + 1 → serial e.config e.keys input past (node_at shard i) ≡ None)
    → told_by_inputs e (input ∷ past) ≡ told_by_inputs e past
silent e input past words serials =
    let asked = λ (name : List ℕ). asked-none e.config e.keys input past name (words name) in
    told-eq (told_by_inputs e (input ∷ past)) (told_by_inputs e past)
    (same-each (asked_on e.config e.keys (input ∷ past)) (asked_on e.config e.keys past) e.call.inputs asked)
    (same-each (asked_on e.config e.keys (input ∷ past)) (asked_on e.config e.keys past) e.call.reads asked)
    refl
    (same-shards (serials_in e.dummy e.config e.keys (input ∷ past)) (serials_in e.dummy e.config e.keys past) e.config.shards
    (λ shard less. serials-none e.config e.keys input past e.dummy shard (serials shard less)))

-- what doesn't open tells nothing
pub unheard-told : (e : Errand) (input : ClientInput) (past : List ClientInput) → heard e.keys input ≡ None → told_by_inputs e (input ∷ past) ≡ told_by_inputs e past
unheard-told e input past none =
    silent e input past
    (λ name i less. ap (λ s. option_and_then (told_in name) (from_node (node_at (shard_of_name e.config name) i) s)) none)
    (λ shard low i less. ap (λ s. option_and_then (dummy_word_in shard) (from_node (node_at shard i) s)) none)

pub name-low : (config : Config) (name : List ℕ) → shard_of_name config name < config.shards
name-low config name = let some : 0 < config.shards = config.some_shard in mod_below (from_be_bytes w32 (drop 28 name)) config.shards some

-- nor does who isn't a node of the configuration
pub stranger : (config : Config) (from : NodeId) (shard i : ℕ) → is_node config from ≡ false → shard < config.shards → i < 3 * config.f + 1 → same_name from (node_at shard i) ≡ false
stranger config from shard i other low less = grind (arith, nat_tests)

pub stranger-told : (e : Errand) (input : ClientInput) (past : List ClientInput) (from : NodeId) (m : Message) → heard e.keys input ≡ Some (from, m) → is_node e.config from ≡ false → told_by_inputs e (input ∷ past) ≡ told_by_inputs e past
stranger-told e input past from m said other =
    silent e input past
    (λ name i less. word-not e.config e.keys input past from m said name (node_at (shard_of_name e.config name) i) (stranger e.config from (shard_of_name e.config name) i other (name-low e.config name) less))
    (λ shard low i less. serial-not e.config e.keys input past from m said (node_at shard i) (stranger e.config from shard i other low less))

-- nor does a message that tells of no key
pub other-told : (e : Errand) (input : ClientInput) (past : List ClientInput) (from : NodeId) (m : Message) → heard e.keys input ≡ Some (from, m)
    → ((name : List ℕ) → told_in name m ≡ None) → ((shard : ℕ) → dummy_word_in shard m ≡ None) → told_by_inputs e (input ∷ past) ≡ told_by_inputs e past
other-told e input past from m said names dummies =
    silent e input past
    (λ name i less. word-nothing e.config e.keys input past from m said name (names name) (node_at (shard_of_name e.config name) i))
    (λ shard low i less. serial-nothing e.config e.keys input past from m said (node_at shard i) (dummies shard))

-- ---- a node tells of a key

module _ (e : Errand) (input : ClientInput) (past : List ClientInput) (from : NodeId) (k : Key) (s : State) (said : heard e.keys input ≡ Some (from, message.Told k s)) where
  -- all nodes of the name's shard say nothing new
  abbrev NoWord : List ℕ → Type 0
  NoWord name = (i : ℕ) → i < 3 * e.config.f + 1 → word e.config e.keys input past name (node_at (shard_of_name e.config name) i) ≡ None

  -- the name is of another shard than who tells
  elsewhere : (name : List ℕ) → (from.shard ≡ shard_of_name e.config name → ⊥) → NoWord name
  elsewhere name apart i less =
      let node = node_at (shard_of_name e.config name) i in
      word-not e.config e.keys input past from (message.Told k s) said name node (other-shard from node apart)

  -- it isn't told of
  untold : (name : List ℕ) → object_told name k s ≡ None → NoWord name
  untold name none i less = word-nothing e.config e.keys input past from (message.Told k s) said name none (node_at (shard_of_name e.config name) i)

  abbrev NoSerial : ℕ → Type 0
  NoSerial shard = (i : ℕ) → i < 3 * e.config.f + 1 → serial e.config e.keys input past (node_at shard i) ≡ None

  serial-elsewhere : (shard : ℕ) → (from.shard ≡ shard → ⊥) → NoSerial shard
  serial-elsewhere shard apart i less =
      serial-not e.config e.keys input past from (message.Told k s) said (node_at shard i) (other-shard from (node_at shard i) apart)

  serial-untold : (shard : ℕ) → dummy_told shard k s ≡ None → NoSerial shard
  serial-untold shard none i less = serial-nothing e.config e.keys input past from (message.Told k s) said (node_at shard i) none

  -- the words of the name's nodes, of which this one's is another
  words-set : (name : List ℕ) (w : Option Object) → from.shard ≡ shard_of_name e.config name → from.index < 3 * e.config.f + 1 → object_told name k s ≡ Some w
      → words_on e.config e.keys name (input ∷ past) ≡ slice_set (words_on e.config e.keys name past) from.index w
  words-set name w at low tells =
      let shard = shard_of_name e.config name in
      set-members (word_on e.keys name past) (word_on e.keys name (input ∷ past)) shard (3 * e.config.f + 1) from.index w low
      (word-some e.config e.keys input past name (node_at shard from.index) w
      (word-here e.config e.keys input past from (message.Told k s) said name (node_at shard from.index) (same-place from shard from.index at refl) ∙ tells))
      (λ i less apart. word-none e.config e.keys input past name (node_at shard i)
      (word-not e.config e.keys input past from (message.Told k s) said name (node_at shard i) (other-index from (node_at shard i) (λ q. apart (sym q)))))

  serials-set : (w : DummyWord) → from.index < 3 * e.config.f + 1 → dummy_told from.shard k s ≡ Some w
      → serials_in e.dummy e.config e.keys (input ∷ past) from.shard ≡ with_dummy_word e.dummy from.index w (serials_in e.dummy e.config e.keys past from.shard)
  serials-set w low tells =
      let before = named_by e.dummy e.keys past in
      let named = named_with e.dummy w (before (node_at from.shard from.index)) in
      set-members before (named_by e.dummy e.keys (input ∷ past)) from.shard (3 * e.config.f + 1) from.index named low
      (serial-some e.config e.keys input past e.dummy (node_at from.shard from.index) w
      (serial-here e.config e.keys input past from (message.Told k s) said (node_at from.shard from.index) (same-place from from.shard from.index refl refl) ∙ tells))
      (λ i less apart. serial-none e.config e.keys input past e.dummy (node_at from.shard i)
      (serial-not e.config e.keys input past from (message.Told k s) said (node_at from.shard i) (other-index from (node_at from.shard i) (λ q. apart (sym q)))))
      ∙ ap (λ (o : Option (List ℕ)). slice_set (serials_in e.dummy e.config e.keys past from.shard) from.index (named_with e.dummy w (unwrap_or o [])))
      (sym (get-members before from.shard (3 * e.config.f + 1) from.index low))

-- who isn't of the key's shard tells nothing
told-elsewhere : (e : Errand) (input : ClientInput) (past : List ClientInput) (from : NodeId) (k : Key) (s : State) → heard e.keys input ≡ Some (from, message.Told k s)
    → (shard_of_key e.config.shards k ≡ from.shard → ⊥) → told_by_inputs e (input ∷ past) ≡ told_by_inputs e past
told-elsewhere e input past from (key.Dummy other number) s said apart =
    silent e input past
    (λ name. untold e input past from (key.Dummy other number) s said name refl)
    (λ shard low. elim (cases_eq from.shard shard) [
      | inl same ↦ serial-untold e input past from (key.Dummy other number) s said shard
          (ap (λ t. if t then Some (number, is_some (active s)) else None) (isn't other shard (λ q. apart (q ∙ sym same))))
      | inr not ↦ serial-elsewhere e input past from (key.Dummy other number) s said shard not
    ])
told-elsewhere e input past from (key.Object told) s said apart =
    silent e input past
    (λ name. elim (cases_Bool (bytes_eq name told)) [
      | inl same ↦ elsewhere e input past from (key.Object told) s said name
          (λ q. apart (ap (shard_of_name e.config) (sym ((bytes_eq-Decides name told).0 same)) ∙ sym q))
      | inr other ↦ untold e input past from (key.Object told) s said name (ap (λ t. if t then Some (free_in s) else None) other)
    ])
    (λ shard low. serial-untold e input past from (key.Object told) s said shard refl)

told-object : (e : Errand) (input : ClientInput) (past : List ClientInput) (from : NodeId) (told : List ℕ) (s : State) → heard e.keys input ≡ Some (from, message.Told (key.Object told) s)
    → from.index < 3 * e.config.f + 1 → shard_of_name e.config told ≡ from.shard
    → told_by_inputs e (input ∷ past) ≡ told_with_state e.config.f from (key.Object told) (free_in s) (told_by_inputs e past)
told-object e input past from told s said low at =
    let before = asked_on e.config e.keys past in
    let after = asked_on e.config e.keys (input ∷ past) in
    let change = word_of_name e.config.f told from.index (free_in s) in
    let each : (name : List ℕ) → after name ≡ change (before name) = λ name.
    elim (cases_Bool (bytes_eq name told)) [
      | inl same ↦
          ap (asked_with e.config.f name)
          (words-set e input past from (key.Object told) s said name (free_in s)
          (sym at ∙ ap (shard_of_name e.config) (sym ((bytes_eq-Decides name told).0 same))) low
          (ap (λ t. if t then Some (free_in s) else None) same))
          ∙ sym (ap (λ t. if t then with_word e.config.f from.index (free_in s) (before name) else before name) same)
      | inr other ↦
          asked-none e.config e.keys input past name
          (untold e input past from (key.Object told) s said name (ap (λ t. if t then Some (free_in s) else None) other))
          ∙ sym (ap (λ t. if t then with_word e.config.f from.index (free_in s) (before name) else before name) other)
    ] in
    told-eq (told_by_inputs e (input ∷ past)) (told_with_state e.config.f from (key.Object told) (free_in s) (told_by_inputs e past))
    (each-changed before after change e.call.inputs each)
    (each-changed before after change e.call.reads each)
    refl
    (same-shards (serials_in e.dummy e.config e.keys (input ∷ past)) (serials_in e.dummy e.config e.keys past) e.config.shards
    (λ shard less. serials-none e.config e.keys input past e.dummy shard (serial-untold e input past from (key.Object told) s said shard refl)))

told-dummy : (e : Errand) (input : ClientInput) (past : List ClientInput) (from : NodeId) (other number : ℕ) (s : State) → heard e.keys input ≡ Some (from, message.Told (key.Dummy other number) s)
    → from.shard < e.config.shards → from.index < 3 * e.config.f + 1 → other ≡ from.shard
    → told_by_inputs e (input ∷ past) ≡ told_with_state e.config.f from (key.Dummy other number) (active s) (told_by_inputs e past)
told-dummy e input past from other number s said here low at =
    let k = key.Dummy other number in
    let w : DummyWord = (number, is_some (active s)) in
    let before = serials_in e.dummy e.config e.keys past in
    let after = serials_in e.dummy e.config e.keys (input ∷ past) in
    let kept : serials_kept (map before (numbers_below e.config.shards)) from.shard ≡ before from.shard =
    ap (λ o. unwrap_or o []) (get-shards before e.config.shards from.shard here) in
    let asked : (name : List ℕ) → asked_on e.config e.keys (input ∷ past) name ≡ asked_on e.config e.keys past name = λ name.
    asked-none e.config e.keys input past name (untold e input past from k s said name refl) in
    told-eq (told_by_inputs e (input ∷ past)) (told_with_state e.config.f from k (active s) (told_by_inputs e past))
    (same-each (asked_on e.config e.keys (input ∷ past)) (asked_on e.config e.keys past) e.call.inputs asked)
    (same-each (asked_on e.config e.keys (input ∷ past)) (asked_on e.config e.keys past) e.call.reads asked)
    refl
    (set-shards before after e.config.shards from.shard (with_dummy_word e.dummy from.index w (serials_kept (map before (numbers_below e.config.shards)) from.shard)) here
    (serials-set e input past from k s said w low (ap (λ t. if t then Some w else None) (is-one other from.shard at))
    ∙ ap (with_dummy_word e.dummy from.index w) (sym kept))
    (λ shard less apart. serials-none e.config e.keys input past e.dummy shard (serial-elsewhere e input past from k s said shard (λ q. apart (sym q)))))

-- what a node tells of a key
pub told-heard : (e : Errand) (input : ClientInput) (past : List ClientInput) (from : NodeId) (k : Key) (s : State) → heard e.keys input ≡ Some (from, message.Told k s)
    → is_node e.config from ≡ true → told_by_inputs e (input ∷ past) ≡ heard_of e.config from k s (told_by_inputs e past)
told-heard e input past from k s said known =
    elim (cases_eq (shard_of_key e.config.shards k) from.shard) [
      | inl same ↦ here k s said same ∙ sym (ap (λ t. if t then told_with_state e.config.f from k (word_told k s) (told_by_inputs e past) else told_by_inputs e past) (is-one (shard_of_key e.config.shards k) from.shard same))
      | inr apart ↦ told-elsewhere e input past from k s said apart ∙ sym (ap (λ t. if t then told_with_state e.config.f from k (word_told k s) (told_by_inputs e past) else told_by_inputs e past) (isn't (shard_of_key e.config.shards k) from.shard apart))
    ]
  where
    place : (from.shard < e.config.shards) × (from.index < 3 * e.config.f + 1)
    place = is_in e.config from known

    here : (k : Key) (s : State) → heard e.keys input ≡ Some (from, message.Told k s) → shard_of_key e.config.shards k ≡ from.shard
        → told_by_inputs e (input ∷ past) ≡ told_with_state e.config.f from k (word_told k s) (told_by_inputs e past)
    here (key.Object told) s said at = told-object e input past from told s said place.1 at
    here (key.Dummy other number) s said at = told-dummy e input past from other number s said place.0 place.1 at
