-- What is read line by line can be played.
use Rattle.std.specs.Prelude.{◌≡◌, ◌≢◌, ℕ, ◌+◌, ◌<◌, ◌≤◌, Bool, true, false, List, [], ◌∷◌, ◌++◌, length, replicate}
use Rattle.std.specs.List.{All, AllPairs}
use Rattle.std.proofs.Common.{◌∙◌, sym, ap, subst, refl, arith, zero, suc}
use Rattle.std.proofs.lemmas.Bool.{true≢false}
use Rattle.std.proofs.lemmas.List.{length-append}
use Rattle.std.proofs.lemmas.List.Elements.{All-push, All-nil}
use Rattle.cs_base.specs.Fields.{IsBytes}
use Rattle.cs_base.specs.Config.{config_of}
use Rattle.cs_base.specs.declared.config.Config.{Config}
use Rattle.cs_base.specs.NodeId.{is_node}
use Rattle.cs_base.specs.declared.node_id.NodeId.{NodeId}
use Rattle.cs_base.specs.declared.limits.TheConstants.{MOST_GENESIS}
use Rattle.cs_tx_value.specs.declared.object.Object.{Object}
use Rattle.cs_tx_value.specs.Object.{object_encoding, DigestFits, ObjectFits}
use Rattle.cs_tx.specs.Digest.{name_of_genesis}
use Rattle.cs_sched.specs.declared.schedule.Event.{Event}
use Rattle.cs_sched.specs.declared.draft.Draft.{Draft}
use Rattle.cs_sched.specs.declared.draft.Stage.{Stage}
use Rattle.cs_sched.specs.declared.draft.Stage.TheVariants as stage
use Rattle.cs_tx.specs.GenesisNames.{is_known, genesis_names}
use Rattle.cs_sched.specs.Naming.{liars_of}
use Rattle.cs_sched.specs.Drafts.{empty_draft}
use Rattle.cs_sched.specs.Lines.{with_config, with_master, with_liar, with_contract_text, with_genesis, with_event, at_stage}
use Rattle.cs_sched.specs.declared.limits.TheConstants.{MOST_CONTRACTS}
use Rattle.cs_sched.specs.Playable.{IsPlayable, IsPlayableEvent, IsContractText}
use Rattle.cs_sched.proofs.Liars.{IsNewLiar, one_more, liars_differ}
use Rattle.cs_tx.proofs.GenesisNames.{names_differ, genesis_names-append}

-- the line `run` was met
abbrev pub has_run : Stage → Bool
has_run stage.Shards = false
has_run stage.Faulty = false
has_run stage.Dummies = false
has_run stage.Master = false
has_run stage.Liars = false
has_run stage.Contracts = false
has_run stage.Genesis = false
has_run stage.Events = true
has_run stage.Ended = true

-- the master was met
abbrev pub has_master : Stage → Bool
has_master stage.Shards = false
has_master stage.Faulty = false
has_master stage.Dummies = false
has_master stage.Master = false
has_master stage.Liars = true
has_master stage.Contracts = true
has_master stage.Genesis = true
has_master stage.Events = true
has_master stage.Ended = true

-- a draft whose schedule can be played, with the names of its objects, without liars before the master and without events before the line `run`; master and objects are made of bytes
pub record IsSound (draft : Draft) : Type 0 where
  pub playable : IsPlayable draft.schedule
  pub names : draft.names ≡ genesis_names 0 draft.schedule.genesis
  pub trusted : has_master draft.stage ≡ false → draft.schedule.liars ≡ []
  pub unplayed : has_run draft.stage ≡ false → draft.schedule.events ≡ []
  pub master : DigestFits draft.schedule.master
  pub encodings : All (λ object. IsBytes (object_encoding object)) draft.schedule.genesis

-- a schedule without events, whose members can be any
unplayed_fits : (config : Config) (liars : List NodeId) (events : List (ℕ × Event)) → events ≡ [] → All (λ numbered. IsPlayableEvent config liars numbered.1) events
unplayed_fits config liars events none = subst (All (λ numbered. IsPlayableEvent config liars numbered.1)) (sym none) (All-nil (λ numbered. IsPlayableEvent config liars numbered.1))

-- what holds before the line `run`, where that was met
run_before : (next : Stage) (events : List (ℕ × Event)) → has_run next ≡ true → has_run next ≡ false → events ≡ []
run_before next events run before = absurd (true≢false (sym run ∙ before))

zeros_fit : (n : ℕ) → IsBytes (replicate n 0)
zeros_fit zero i = omega arith
zeros_fit (suc n) zero = omega arith
zeros_fit (suc n) (suc i) = zeros_fit n i

pub empty_sound : IsSound empty_draft
empty_sound = record {
  playable = record {
    some_shard = omega arith;
    few_shards = omega arith;
    few_faulty = omega arith;
    version = omega arith;
    liars = All-nil (λ name. is_node (config_of 1 0 0) name ≡ true);
    few_liars = λ shard. omega arith;
    liars_differ = λ i j d before within. absurd (omega arith);
    contracts = All-nil IsContractText;
    few_contracts = omega arith;
    objects = All-nil ObjectFits;
    few_objects = omega arith;
    keys_differ = λ i j d before within. absurd (omega arith);
    events = unplayed_fits (config_of 1 0 0) [] [] refl;
  };
  names = refl;
  trusted = λ before. refl;
  unplayed = λ before. refl;
  master = (refl, zeros_fit 32);
  encodings = All-nil (λ object. IsBytes (object_encoding object));
}

-- what holds before the master, where that was met
master_before : (next : Stage) (liars : List NodeId) → has_master next ≡ true → has_master next ≡ false → liars ≡ []
master_before next liars met before = absurd (true≢false (sym met ∙ before))

-- the line `run` stands behind the master
master_first : (next : Stage) → has_run next ≡ true → has_master next ≡ true
master_first stage.Shards run = absurd (true≢false (sym run))
master_first stage.Faulty run = absurd (true≢false (sym run))
master_first stage.Dummies run = absurd (true≢false (sym run))
master_first stage.Master run = absurd (true≢false (sym run))
master_first stage.Liars run = refl
master_first stage.Contracts run = refl
master_first stage.Genesis run = refl
master_first stage.Events run = refl
master_first stage.Ended run = refl

-- a stage behind `run` says nothing of the schedule
pub at_stage-sound : (draft : Draft) (next : Stage) → IsSound draft → has_run next ≡ true → IsSound (at_stage draft next)
at_stage-sound draft next sound run = record {
  playable = sound.playable;
  names = sound.names;
  trusted = master_before next draft.schedule.liars (master_first next run);
  unplayed = run_before next draft.schedule.events run;
  master = sound.master;
  encodings = sound.encodings;
}

-- where no liar is told
no_liars : (config : Config) (liars : List NodeId) → liars ≡ [] → All (λ name. is_node config name ≡ true) liars
no_liars config liars none = subst (All (λ name. is_node config name ≡ true)) (sym none) (All-nil (λ name. is_node config name ≡ true))

none_few : (liars : List NodeId) (most shard : ℕ) → liars ≡ [] → liars_of liars shard ≤ most
none_few liars most shard none = subst (λ those. liars_of those shard ≤ most) (sym none) (omega arith)

pub with_config-sound : (draft : Draft) (next : Stage) (config : Config) → config.version ≡ 1 → IsSound draft → draft.schedule.liars ≡ [] → draft.schedule.events ≡ [] → IsSound (with_config draft next config)
with_config-sound draft next config first sound trusted unplayed = record {
  playable = record {
    some_shard = config.some_shard;
    few_shards = config.few_shards;
    few_faulty = config.few_liars;
    version = first;
    liars = no_liars config draft.schedule.liars trusted;
    few_liars = λ shard. none_few draft.schedule.liars config.f shard trusted;
    liars_differ = sound.playable.liars_differ;
    contracts = sound.playable.contracts;
    few_contracts = sound.playable.few_contracts;
    objects = sound.playable.objects;
    few_objects = sound.playable.few_objects;
    keys_differ = sound.playable.keys_differ;
    events = unplayed_fits config draft.schedule.liars draft.schedule.events unplayed;
  };
  names = sound.names;
  trusted = λ before. trusted;
  unplayed = λ before. unplayed;
  master = sound.master;
  encodings = sound.encodings;
}

pub with_master-sound : (draft : Draft) (master : List ℕ) → IsSound draft → draft.schedule.events ≡ [] → DigestFits master → IsSound (with_master draft master)
with_master-sound draft master sound none fits = record {
  playable = record {
    some_shard = sound.playable.some_shard;
    few_shards = sound.playable.few_shards;
    few_faulty = sound.playable.few_faulty;
    version = sound.playable.version;
    liars = sound.playable.liars;
    few_liars = sound.playable.few_liars;
    liars_differ = sound.playable.liars_differ;
    contracts = sound.playable.contracts;
    few_contracts = sound.playable.few_contracts;
    objects = sound.playable.objects;
    few_objects = sound.playable.few_objects;
    keys_differ = sound.playable.keys_differ;
    events = sound.playable.events;
  };
  names = sound.names;
  trusted = λ before. absurd (true≢false before);
  unplayed = λ before. none;
  master = fits;
  encodings = sound.encodings;
}

pub with_event-sound : (draft : Draft) (line : ℕ) (said : Event) → IsSound draft → has_run draft.stage ≡ true → IsPlayableEvent draft.schedule.config draft.schedule.liars said → IsSound (with_event draft line said)
with_event-sound draft line said sound run played = record {
  playable = record {
    some_shard = sound.playable.some_shard;
    few_shards = sound.playable.few_shards;
    few_faulty = sound.playable.few_faulty;
    version = sound.playable.version;
    liars = sound.playable.liars;
    few_liars = sound.playable.few_liars;
    liars_differ = sound.playable.liars_differ;
    contracts = sound.playable.contracts;
    few_contracts = sound.playable.few_contracts;
    objects = sound.playable.objects;
    few_objects = sound.playable.few_objects;
    keys_differ = sound.playable.keys_differ;
    events = All-push (λ numbered. IsPlayableEvent draft.schedule.config draft.schedule.liars numbered.1) draft.schedule.events (line, said) sound.playable.events played;
  };
  names = sound.names;
  trusted = sound.trusted;
  unplayed = run_before draft.stage (draft.schedule.events ++ (line, said) ∷ []) run;
  master = sound.master;
  encodings = sound.encodings;
}

pub with_contract-sound : (draft : Draft) (text : List ℕ) → IsSound draft → draft.schedule.events ≡ [] → IsContractText text → length draft.schedule.contracts < MOST_CONTRACTS → IsSound (with_contract_text draft text)
with_contract-sound draft text sound none fits few = record {
  playable = record {
    some_shard = sound.playable.some_shard;
    few_shards = sound.playable.few_shards;
    few_faulty = sound.playable.few_faulty;
    version = sound.playable.version;
    liars = sound.playable.liars;
    few_liars = sound.playable.few_liars;
    liars_differ = sound.playable.liars_differ;
    contracts = All-push IsContractText draft.schedule.contracts text sound.playable.contracts fits;
    few_contracts = omega (arith, length-append draft.schedule.contracts (text ∷ []));
    objects = sound.playable.objects;
    few_objects = sound.playable.few_objects;
    keys_differ = sound.playable.keys_differ;
    events = sound.playable.events;
  };
  names = sound.names;
  trusted = λ before. absurd (true≢false before);
  unplayed = λ before. none;
  master = sound.master;
  encodings = sound.encodings;
}

pub with_genesis-sound : (draft : Draft) (object : Object) → IsSound draft → draft.schedule.events ≡ [] → ObjectFits object → IsBytes (object_encoding object) → length draft.schedule.genesis < MOST_GENESIS
    → is_known (name_of_genesis (length draft.schedule.genesis) object) draft.names ≡ false → IsSound (with_genesis draft object (name_of_genesis (length draft.schedule.genesis) object))
with_genesis-sound draft object sound none fits encoded few new =
    let name = name_of_genesis (length draft.schedule.genesis) object in
    let zero_first : 0 + length draft.schedule.genesis ≡ length draft.schedule.genesis = omega arith in
    let appended : genesis_names 0 (draft.schedule.genesis ++ object ∷ []) ≡ genesis_names 0 draft.schedule.genesis ++ name ∷ [] = genesis_names-append 0 draft.schedule.genesis object ∙ rw zero_first refl in
    let fresh : is_known name (genesis_names 0 draft.schedule.genesis) ≡ false = subst (λ names. is_known name names ≡ false) sound.names new in
    record {
      playable = record {
        some_shard = sound.playable.some_shard;
        few_shards = sound.playable.few_shards;
        few_faulty = sound.playable.few_faulty;
        version = sound.playable.version;
        liars = sound.playable.liars;
        few_liars = sound.playable.few_liars;
        liars_differ = sound.playable.liars_differ;
        contracts = sound.playable.contracts;
        few_contracts = sound.playable.few_contracts;
        objects = All-push ObjectFits draft.schedule.genesis object sound.playable.objects fits;
        few_objects = omega (arith, length-append draft.schedule.genesis (object ∷ []));
        keys_differ = subst (λ names. AllPairs (λ a b. a ≢ b) names) (sym appended) (names_differ (genesis_names 0 draft.schedule.genesis) name sound.playable.keys_differ fresh);
        events = sound.playable.events;
      };
      names = ap (λ names. names ++ name ∷ []) sound.names ∙ sym appended;
      trusted = λ before. absurd (true≢false before);
      unplayed = λ before. none;
      master = sound.master;
      encodings = All-push (λ object. IsBytes (object_encoding object)) draft.schedule.genesis object sound.encodings encoded;
    }

-- one more liar, behind the master
pub with_liar-sound : (draft : Draft) (liar : NodeId) → IsSound draft → has_master draft.stage ≡ true → IsNewLiar draft.schedule.config draft.schedule.liars liar → draft.schedule.events ≡ []
    → IsSound (with_liar draft liar)
with_liar-sound draft liar sound met new none = record {
  playable = record {
    some_shard = sound.playable.some_shard;
    few_shards = sound.playable.few_shards;
    few_faulty = sound.playable.few_faulty;
    version = sound.playable.version;
    liars = All-push (λ name. is_node draft.schedule.config name ≡ true) draft.schedule.liars liar sound.playable.liars new.node;
    few_liars = one_more draft.schedule.liars liar draft.schedule.config.f sound.playable.few_liars new.room;
    liars_differ = liars_differ draft.schedule.liars liar sound.playable.liars_differ new.new;
    contracts = sound.playable.contracts;
    few_contracts = sound.playable.few_contracts;
    objects = sound.playable.objects;
    few_objects = sound.playable.few_objects;
    keys_differ = sound.playable.keys_differ;
    events = unplayed_fits draft.schedule.config (draft.schedule.liars ++ liar ∷ []) draft.schedule.events none;
  };
  names = sound.names;
  trusted = master_before draft.stage (draft.schedule.liars ++ liar ∷ []) met;
  unplayed = sound.unplayed;
  master = sound.master;
  encodings = sound.encodings;
}
