-- What a client keeps before its first input, and that what it keeps has its form.
use Rattle.std.proofs.Common.{◌≡◌, ℕ, zero, suc, ◌+◌, ◌*◌, ◌<◌, Bool, true, false, List, [], ◌∷◌, ◌++◌, length, map, Option, Some, None, refl, sym, ap, subst, ◌∙◌, arith, length-set, replicate, if◌then◌else◌}
use Rattle.std.specs.Prelude.{slice_set, slice_get, bytes_eq, is_some, ◌==◌}
use Rattle.std.specs.List.{AllByRecursion}
use Rattle.std.proofs.lemmas.List.{map-append, length-replicate}
use Rattle.cs_base.specs.declared.config.Config.{Config}
use Rattle.cs_base.specs.declared.key.Key.{Key}
use Rattle.cs_base.specs.declared.key.Key.TheVariants as key
use Rattle.cs_base.specs.declared.node_id.NodeId.{NodeId}
use Rattle.cs_base.specs.Key.{shard_of_key}
use Rattle.cs_base.specs.NodeId.{is_node, members_below}
use Rattle.cs_tx_value.specs.declared.object.Object.{Object}
use Rattle.cs_tx_types.specs.declared.state.State.{State}
use Rattle.cs_tx_types.specs.declared.state.State.TheVariants as state
use Rattle.cs_tx_types.specs.State.{StateFits}
use Rattle.cs_client.specs.declared.beliefs.Asked.{Asked}
use Rattle.cs_client.specs.declared.errand.Errand.{Errand}
use Rattle.cs_client.specs.Objects.{active, free_in, word_told, word_on, words_on, first_believed, shard_of_name}
use Rattle.cs_dummies.specs.Named.{named_with}
use Rattle.cs_client.specs.Nodes.{numbers_below}
use Rattle.cs_client.specs.Dummies.{named_by, serials_in}
use Rattle.cs_client.specs.Kept.{WordsTold, told_by_inputs, asked_with, asked_on, unheard_on, unheard, with_word, word_of_name, named_kept, serials_kept, told_with_state, heard_of, WordFits, AskedFits, HasAll, ToldFits, FlagsSayWords, ToldMarked}
use Rattle.cs_client.proofs.Members.{node_at, same-each}
use Rattle.cs_client.proofs.Telling.{is_in, is-one, isn't, told-eq}

-- ---- before the first input

module _ {A : Type 0} where
  replicate-more : (n : ℕ) (c : A) → replicate n c ++ c ∷ [] ≡ replicate (suc n) c
  replicate-more zero c = refl
  replicate-more (suc n) c = ap (λ cs. c ∷ cs) (replicate-more n c)

  none-members : (F : NodeId → A) (c : A) (shard n : ℕ) → ((node : NodeId) → F node ≡ c) → map F (members_below shard n) ≡ replicate n c
  none-members F c shard zero same = refl
  none-members F c shard (suc n) same =
      map-append F (members_below shard n) (node_at shard n ∷ [])
      ∙ (ap (λ cs. cs ++ F (node_at shard n) ∷ []) (none-members F c shard n same)
      ∙ (ap (λ y. replicate n c ++ y ∷ []) (same (node_at shard n)) ∙ replicate-more n c))

  none-shards : (F : ℕ → A) (c : A) (n : ℕ) → ((shard : ℕ) → F shard ≡ c) → map F (numbers_below n) ≡ replicate n c
  none-shards F c zero same = refl
  none-shards F c (suc n) same =
      map-append F (numbers_below n) (n ∷ [])
      ∙ (ap (λ cs. cs ++ F n ∷ []) (none-shards F c n same) ∙ (ap (λ y. replicate n c ++ y ∷ []) (same n) ∙ replicate-more n c))

none-believed : (f n : ℕ) (all : List (Option Object)) → first_believed f all (replicate n None) ≡ None
none-believed f zero all = refl
none-believed f (suc n) all = none-believed f n all

pub nothing-told : (e : Errand) → told_by_inputs e [] ≡ unheard e.config e.dummy e.call.inputs e.call.reads
nothing-told e =
    let n = 3 * e.config.f + 1 in
    let words : (name : List ℕ) → words_on e.config e.keys name [] ≡ replicate n None = λ name.
    none-members (word_on e.keys name []) None (shard_of_name e.config name) n (λ node. refl) in
    let asked : (name : List ℕ) → asked_on e.config e.keys [] name ≡ unheard_on n name = λ name.
    ap (asked_with e.config.f name) (words name)
    ∙ ap (λ b. let one : Asked = record { name = name; words = replicate n None; settled = b } in one) (ap is_some (none-believed e.config.f n (replicate n None))) in
    let inputs = same-each (asked_on e.config e.keys []) (unheard_on n) e.call.inputs asked in
    let reads = same-each (asked_on e.config e.keys []) (unheard_on n) e.call.reads asked in
    let serials : map (serials_in e.dummy e.config e.keys []) (numbers_below e.config.shards) ≡ replicate e.config.shards (replicate n []) =
    none-shards (serials_in e.dummy e.config e.keys []) (replicate n []) e.config.shards (λ shard. none-members (named_by e.dummy e.keys []) [] shard n (λ node. refl)) in
    told-eq (told_by_inputs e []) (unheard e.config e.dummy e.call.inputs e.call.reads) inputs reads refl serials

-- ---- its form

module _ {X : Type 0} (P : X → Type 0) where
  all-replicate : (n : ℕ) (x : X) → P x → AllByRecursion P (replicate n x)
  all-replicate zero x h = tt
  all-replicate (suc n) x h = (h, all-replicate n x h)

  all-set : (xs : List X) (i : ℕ) (x : X) → AllByRecursion P xs → P x → AllByRecursion P (slice_set xs i x)
  all-set [] i x all h = tt
  all-set (y ∷ xs) zero x all h = (h, all.1)
  all-set (y ∷ xs) (suc i) x all h = (all.0, all-set xs i x all.1 h)

  all-at : (xs : List X) (i : ℕ) (x : X) → AllByRecursion P xs → slice_get xs i ≡ Some x → P x
  all-at [] i x all is = absurd cc
  all-at (y ∷ xs) zero x all is = subst P (let e : y ≡ x = cc in e) all.0
  all-at (y ∷ xs) (suc i) x all is = all-at xs i x all.1 is

  all-map : {Y : Type 0} (f : Y → X) (ys : List Y) → ((y : Y) → P (f y)) → AllByRecursion P (map f ys)
  all-map f [] h = tt
  all-map f (y ∷ ys) h = (h y, all-map f ys h)

  all-changed : (f : X → X) (xs : List X) → ((x : X) → P x → P (f x)) → AllByRecursion P xs → AllByRecursion P (map f xs)
  all-changed f [] h all = tt
  all-changed f (x ∷ xs) h all = (h x all.0, all-changed f xs h all.1)

pub unheard-fits : (config : Config) (first : Option ℕ) (inputs reads : List (List ℕ)) → ToldFits config (unheard config first inputs reads)
unheard-fits config first inputs reads =
    let n = 3 * config.f + 1 in
    let one : (name : List ℕ) → AskedFits n (unheard_on n name) = λ name.
    record { all = length-replicate n None; fit = all-replicate WordFits n None tt } in
    record {
      inputs = all-map (AskedFits n) (unheard_on n) inputs one;
      reads = all-map (AskedFits n) (unheard_on n) reads one;
      shards = length-replicate config.shards (replicate n []);
      serials = all-replicate (HasAll n) config.shards (replicate n []) (length-replicate n []);
    }

pub unheard-marked : (config : Config) (first : Option ℕ) (inputs reads : List (List ℕ)) → ToldMarked config.f (unheard config first inputs reads)
unheard-marked config first inputs reads =
    let n = 3 * config.f + 1 in
    let one : (name : List ℕ) → FlagsSayWords config.f (unheard_on n name) = λ name. sym (ap is_some (none-believed config.f n (replicate n None))) in
    record { inputs = all-map (FlagsSayWords config.f) (unheard_on n) inputs one; reads = all-map (FlagsSayWords config.f) (unheard_on n) reads one }

active-fits : (s : State) → StateFits s → WordFits (active s)
active-fits state.Unknown fits = tt
active-fits (state.Active object) fits = fits
active-fits (state.Locked object session) fits = tt
active-fits (state.Inactive session) fits = tt
active-fits (state.Shared object readers) fits = tt

free-fits : (s : State) → StateFits s → WordFits (free_in s)
free-fits state.Unknown fits = tt
free-fits (state.Active object) fits = fits
free-fits (state.Locked object session) fits = tt
free-fits (state.Inactive session) fits = tt
free-fits (state.Shared object readers) fits = fits.0

pub word-fits : (k : Key) (s : State) → StateFits s → WordFits (word_told k s)
word-fits (key.Object name) s fits = free-fits s fits
word-fits (key.Dummy shard serial) s fits = active-fits s fits

told-fits : (n f : ℕ) (name : List ℕ) (index : ℕ) (word : Option Object) → WordFits word → (asked : Asked) → AskedFits n asked → AskedFits n (word_of_name f name index word asked)
told-fits n f name index word fits asked before = by (bytes_eq asked.name name) where
  by : (here : Bool) → AskedFits n (if here then with_word f index word asked else asked)
  by true = record { all = length-set asked.words index word ∙ before.all; fit = all-set WordFits asked.words index word before.fit fits }
  by false = before

told-marked : (f : ℕ) (name : List ℕ) (index : ℕ) (word : Option Object) (asked : Asked) → FlagsSayWords f asked → FlagsSayWords f (word_of_name f name index word asked)
told-marked f name index word asked before = by (bytes_eq asked.name name) where
  by : (here : Bool) → FlagsSayWords f (if here then with_word f index word asked else asked)
  by true = refl
  by false = before

kept-all : (n : ℕ) (serials : List (List (List ℕ))) (shard : ℕ) → shard < length serials → AllByRecursion (HasAll n) serials → HasAll n (serials_kept serials shard)
kept-all n [] shard less all = absurd (omega arith)
kept-all n (words ∷ serials) zero less all = all.0
kept-all n (words ∷ serials) (suc shard) less all = kept-all n serials shard (omega arith) all.1

-- a node of the configuration has its place among the words of its shard
pub has-words : (config : Config) (from : NodeId) (told : WordsTold) → is_node config from ≡ true → ToldFits config told → from.index < length (serials_kept told.serials from.shard)
has-words config from told known fits =
    let place = is_in config from known in
    let many = fits.shards in
    let long : length (serials_kept told.serials from.shard) ≡ 3 * config.f + 1 =
    kept-all (3 * config.f + 1) told.serials from.shard (omega arith) fits.serials in
    omega arith

-- what is told of a key of this shard, and of one of another
pub heard-here : (config : Config) (from : NodeId) (k : Key) (s : State) (told : WordsTold) → shard_of_key config.shards k ≡ from.shard → heard_of config from k s told ≡ told_with_state config.f from k (word_told k s) told
heard-here config from k s told here =
    ap (λ t. if t then told_with_state config.f from k (word_told k s) told else told) (is-one (shard_of_key config.shards k) from.shard here)

pub heard-apart : (config : Config) (from : NodeId) (k : Key) (s : State) (told : WordsTold) → (shard_of_key config.shards k ≡ from.shard → ⊥) → heard_of config from k s told ≡ told
heard-apart config from k s told apart =
    ap (λ t. if t then told_with_state config.f from k (word_told k s) told else told) (isn't (shard_of_key config.shards k) from.shard apart)

pub heard-fits : (config : Config) (from : NodeId) (k : Key) (s : State) (told : WordsTold) → is_node config from ≡ true → StateFits s → ToldFits config told → ToldFits config (heard_of config from k s told)
heard-fits config from k s told known fits before = by (shard_of_key config.shards k == from.shard) k where
  by : (here : Bool) (k : Key) → ToldFits config (if here then told_with_state config.f from k (word_told k s) told else told)
  by false k = before
  by true (key.Object name) =
      let n = 3 * config.f + 1 in
      let one = told-fits n config.f name from.index (free_in s) (free-fits s fits) in
      record {
        inputs = all-changed (AskedFits n) (word_of_name config.f name from.index (free_in s)) told.inputs one before.inputs;
        reads = all-changed (AskedFits n) (word_of_name config.f name from.index (free_in s)) told.reads one before.reads;
        shards = before.shards;
        serials = before.serials;
      }
  by true (key.Dummy shard serial) =
      let n = 3 * config.f + 1 in
      let place = is_in config from known in
      let many = before.shards in
      let words = serials_kept told.serials from.shard in
      let named = named_with told.first (serial, is_some (active s)) (named_kept words from.index) in
      record {
        inputs = before.inputs;
        reads = before.reads;
        shards = length-set told.serials from.shard (slice_set words from.index named) ∙ before.shards;
        serials = all-set (HasAll n) told.serials from.shard (slice_set words from.index named) before.serials
            (length-set words from.index named ∙ kept-all n told.serials from.shard (omega arith) before.serials);
      }

pub heard-marked : (config : Config) (from : NodeId) (k : Key) (s : State) (told : WordsTold) → ToldMarked config.f told → ToldMarked config.f (heard_of config from k s told)
heard-marked config from k s told before = by (shard_of_key config.shards k == from.shard) k where
  by : (here : Bool) (k : Key) → ToldMarked config.f (if here then told_with_state config.f from k (word_told k s) told else told)
  by false k = before
  by true (key.Object name) =
      let one = told-marked config.f name from.index (free_in s) in
      record {
        inputs = all-changed (FlagsSayWords config.f) (word_of_name config.f name from.index (free_in s)) told.inputs one before.inputs;
        reads = all-changed (FlagsSayWords config.f) (word_of_name config.f name from.index (free_in s)) told.reads one before.reads;
      }
  by true (key.Dummy shard serial) = record { inputs = before.inputs; reads = before.reads }
