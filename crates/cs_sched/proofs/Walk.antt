-- The lines of a schedule, read one after the other, give the schedule.
use Rattle.std.specs.Prelude.{◌≡◌, ◌≢◌, ℕ, ◌+◌, ◌<◌, ◌≤◌, Bool, true, false, List, [], ◌∷◌, ◌++◌, length, replicate, None, Ok, codes}
use Rattle.std.specs.List.{AllByRecursion, AllPairs}
use Rattle.std.proofs.Common.{◌∙◌, sym, ap, refl, subst, arith, append_assoc}
use Rattle.std.proofs.lemmas.Bool.{lt-ltb}
use Rattle.std.proofs.lemmas.Bool.Decides.{nat_tests}
use Rattle.std.proofs.lemmas.List.{append-nil, length-append}
use Rattle.cs_base.specs.Config.{config_of, configured, first_out, unless_out}
use Rattle.cs_base.specs.Fields.{IsBytes}
use Rattle.cs_base.specs.NodeId.{is_node, node_text}
use Rattle.cs_base.specs.declared.config.Config.{Config}
use Rattle.cs_base.specs.declared.node_id.NodeId.{NodeId}
use Rattle.cs_base.specs.declared.limits.TheConstants.{MOST_SHARDS, MOST_LIARS, MOST_DUMMIES, MOST_BODY, MOST_DATAGRAM, MOST_GENESIS}
use Rattle.cs_base.proofs.Configs.{configured-config}
use Rattle.cs_tx_value.specs.Object.{object_encoding, DigestFits, ObjectFits}
use Rattle.cs_tx_value.specs.declared.object.Object.{Object}
use Rattle.cs_tx.specs.Digest.{name_of_genesis}
use Rattle.cs_sched.specs.declared.schedule.Event.{Event}
use Rattle.cs_sched.specs.declared.schedule.Event.TheVariants.{Say, Inject, Deliver, Tick, Drain}
use Rattle.cs_sched.specs.Drafts.{empty_draft}
use Rattle.cs_tx.specs.GenesisNames.{is_known, genesis_names}
use Rattle.cs_sched.specs.Naming.{is_liar, liars_of, liar_in}
use Rattle.cs_text.specs.Text.{line_step}
use Rattle.cs_text.specs.Printed.{number_words, bytes_words}
use Rattle.cs_text.proofs.Back.{number_back, within_back, bytes_back, digest_back}
use Rattle.cs_text.proofs.Rows.{read_fields, read-cons}
use Rattle.cs_sched.specs.Text.{schedule_form}
use Rattle.cs_sched.specs.declared.limits.TheConstants.{MOST_CONTRACTS}
use Rattle.cs_sched.specs.Playable.{IsPlayableEvent, IsContractText}
use Rattle.cs_sched.specs.Values.{config_in_range}
use Rattle.cs_sched.specs.declared.draft.Draft.{Draft}
use Rattle.cs_sched.specs.declared.draft.Stage.{Stage}
use Rattle.cs_sched.specs.declared.draft.Stage.TheVariants as stage
use Rattle.cs_tx.proofs.GenesisNames.{genesis_names-append}
use Rattle.cs_sched.specs.Again.{numbered_events}
use Rattle.cs_sched.specs.Printed.{liar_words, contract_words, object_words, event_words, liar_lines, contract_lines, genesis_lines, printed_events}
use Rattle.cs_sched.proofs.Back.{named_back, node_named, node_no_client, speaker_back, honest_back}
use Rattle.cs_sched.proofs.Liars.{new_liar, room_before}
use Rattle.cs_sched.proofs.Fields.{shards_back, faulty_back, dummies_back, contract_back, object_back, next_new}

-- a draft, whose names are those of its objects
abbrev pub made : Stage → Config → List ℕ → List NodeId → List (List ℕ) → List Object → List (ℕ × Event) → Draft
made place config master liars contracts genesis events = record {
  stage = place;
  schedule = record { config = config; master = master; liars = liars; contracts = contracts; genesis = genesis; events = events };
  names = genesis_names 0 genesis;
}

-- the places at which a contract can stand: before the first one, and behind it
abbrev pub contract_stage : Bool → Stage
contract_stage false = stage.Liars
contract_stage true = stage.Contracts

-- the places at which an object can stand: before the first one, and behind it
abbrev pub genesis_stage : Bool → Bool → Stage
genesis_stage told false = contract_stage told
genesis_stage told true = stage.Genesis

-- an object with its encoding
abbrev pub IsPrintable : Object → Type 0
IsPrintable object = ObjectFits object × IsBytes (object_encoding object)

-- liars

liar_back : (config : Config) (liars : List NodeId) (name : NodeId) → is_node config name ≡ true → is_liar liars name ≡ false → liars_of liars name.shard < config.f → liar_in config liars (node_text name) ≡ Ok name
liar_back config liars name node new room =
    rw (named_back config name (node_named config name node), node_no_client config name node, new, lt-ltb (liars_of liars name.shard) config.f room) refl

module _ (config : Config) (master : List ℕ) where
  liar_step : (before : List NodeId) (name : NodeId) (number : ℕ) → is_node config name ≡ true → is_liar before name ≡ false → liars_of before name.shard < config.f
      → line_step schedule_form number (made stage.Liars config master before [] [] []) (liar_words name) ≡ Ok (made stage.Liars config master (before ++ name ∷ []) [] [] [])
  liar_step before name number node new room = rw (liar_back config before name node new room) refl

  pub reads_liars : (liars : List NodeId) (last : Draft) (rest : List (List (List ℕ))) → AllPairs (λ a b. a ≢ b) liars → ((shard : ℕ) → liars_of liars shard ≤ config.f)
      → (more before : List NodeId) (number : ℕ) → before ++ more ≡ liars → AllByRecursion (λ name. is_node config name ≡ true) more
      → read_fields schedule_form (made stage.Liars config master liars [] [] []) (number + length more) rest ≡ Ok last
      → read_fields schedule_form (made stage.Liars config master before [] [] []) number (liar_lines more ++ rest) ≡ Ok last
  reads_liars liars last rest differ few [] before number is nodes after =
      let none : number + 0 ≡ number = omega arith in
      let at : read_fields schedule_form (made stage.Liars config master before [] [] []) (number + 0) rest ≡ Ok last =
      subst (λ all. read_fields schedule_form (made stage.Liars config master all [] [] []) (number + 0) rest ≡ Ok last) (sym is ∙ append-nil before) after in
      subst (λ n. read_fields schedule_form (made stage.Liars config master before [] [] []) n rest ≡ Ok last) none at
  reads_liars liars last rest differ few (name ∷ more) before number is nodes after =
      let next : number + length (name ∷ more) ≡ number + 1 + length more = omega arith in
      let new : is_liar before name ≡ false = new_liar before more name (subst (AllPairs (λ a b. a ≢ b)) (sym is) differ) in
      let room : liars_of before name.shard < config.f = room_before before more name config.f (subst (λ those. liars_of those name.shard ≤ config.f) (sym is) (few name.shard)) in
      read-cons schedule_form (made stage.Liars config master before [] [] []) (made stage.Liars config master (before ++ name ∷ []) [] [] []) last number (liar_words name) (liar_lines more ++ rest)
      (liar_step before name number nodes.0 new room)
      (reads_liars liars last rest differ few more (before ++ name ∷ []) (number + 1) (append_assoc before (name ∷ []) more ∙ is) nodes.1
      (subst (λ n. read_fields schedule_form (made stage.Liars config master liars [] [] []) n rest ≡ Ok last) next after))

module _ (config : Config) (master : List ℕ) (liars : List NodeId) where
  contract_step : (told : Bool) (before : List (List ℕ)) (text : List ℕ) (number : ℕ) → IsContractText text → length before < MOST_CONTRACTS
      → line_step schedule_form number (made (contract_stage told) config master liars before [] []) (contract_words text) ≡ Ok (made stage.Contracts config master liars (before ++ text ∷ []) [] [])
  contract_step false before text number fits few = rw (contract_back (length before) text few fits) refl
  contract_step true before text number fits few = rw (contract_back (length before) text few fits) refl

  module _ (contracts : List (List ℕ)) (last : Draft) (rest : List (List (List ℕ))) where
    pub reads_contracts : length contracts ≤ MOST_CONTRACTS → (texts before : List (List ℕ)) (told : Bool) (number : ℕ) → before ++ texts ≡ contracts → AllByRecursion IsContractText texts
        → ((told : Bool) → read_fields schedule_form (made (contract_stage told) config master liars contracts [] []) (number + length texts) rest ≡ Ok last)
        → read_fields schedule_form (made (contract_stage told) config master liars before [] []) number (contract_lines texts ++ rest) ≡ Ok last
    reads_contracts few [] before told number is fit more =
        let none : number + 0 ≡ number = omega arith in
        let at : read_fields schedule_form (made (contract_stage told) config master liars before [] []) (number + 0) rest ≡ Ok last =
        subst (λ all. read_fields schedule_form (made (contract_stage told) config master liars all [] []) (number + 0) rest ≡ Ok last) (sym is ∙ append-nil before) (more told) in
        subst (λ n. read_fields schedule_form (made (contract_stage told) config master liars before [] []) n rest ≡ Ok last) none at
    reads_contracts few (text ∷ texts) before told number is fit more =
        let next : number + length (text ∷ texts) ≡ number + 1 + length texts = omega arith in
        let total : length before + length (text ∷ texts) ≡ length contracts = sym (length-append before (text ∷ texts)) ∙ ap length is in
        read-cons schedule_form (made (contract_stage told) config master liars before [] []) (made stage.Contracts config master liars (before ++ text ∷ []) [] []) last number (contract_words text) (contract_lines texts ++ rest)
        (contract_step told before text number fit.0 (omega arith))
        (reads_contracts few texts (before ++ text ∷ []) true (number + 1) (append_assoc before (text ∷ []) texts ∙ is) fit.1
        (λ told. subst (λ n. read_fields schedule_form (made (contract_stage told) config master liars contracts [] []) n rest ≡ Ok last) next (more told)))

module _ (config : Config) (master : List ℕ) (liars : List NodeId) (contracts : List (List ℕ)) where
  named : (before : List Object) (object : Object) → genesis_names 0 (before ++ object ∷ []) ≡ genesis_names 0 before ++ name_of_genesis (length before) object ∷ []
  named before object =
      let zero_first : 0 + length before ≡ length before = omega arith in
      genesis_names-append 0 before object ∙ rw zero_first refl

  object_step : (told any : Bool) (before : List Object) (object : Object) (number : ℕ) → IsPrintable object → length before < MOST_GENESIS
      → is_known (name_of_genesis (length before) object) (genesis_names 0 before) ≡ false
      → line_step schedule_form number (made (genesis_stage told any) config master liars contracts before []) (object_words object) ≡ Ok (made stage.Genesis config master liars contracts (before ++ object ∷ []) [])
  object_step false false before object number fits few new = rw (object_back (length before) object few fits.0 fits.1, new, named before object) refl
  object_step true false before object number fits few new = rw (object_back (length before) object few fits.0 fits.1, new, named before object) refl
  object_step told true before object number fits few new = rw (object_back (length before) object few fits.0 fits.1, new, named before object) refl

  pub run_step : (told any : Bool) (genesis : List Object) (number : ℕ) → line_step schedule_form number (made (genesis_stage told any) config master liars contracts genesis []) (codes "run" ∷ []) ≡ Ok (made stage.Events config master liars contracts genesis [])
  run_step false false genesis number = refl
  run_step true false genesis number = refl
  run_step told true genesis number = refl

  event_step : (event : Event) (genesis : List Object) (before : List (ℕ × Event)) (number : ℕ) → IsPlayableEvent config liars event
      → line_step schedule_form number (made stage.Events config master liars contracts genesis before) (event_words event) ≡ Ok (made stage.Events config master liars contracts genesis (before ++ (number, event) ∷ []))
  event_step (Say from to kind body) genesis before number fits =
      let few = fits.kind in
      rw (speaker_back config liars from fits.speaker, honest_back config liars to fits.listener, within_back 255 kind few (omega arith), bytes_back MOST_BODY body fits.short fits.in_bytes) refl
  event_step (Inject to bytes) genesis before number fits = rw (honest_back config liars to fits.node, bytes_back MOST_DATAGRAM bytes fits.short fits.in_bytes) refl
  event_step (Deliver count) genesis before number fits = rw (number_back count fits) refl
  event_step (Tick node) genesis before number fits = rw (honest_back config liars node fits) refl
  event_step (Drain times) genesis before number fits = rw (number_back times fits) refl

  module _ (genesis : List Object) (last : Draft) (rest : List (List (List ℕ))) where
    pub reads_events : (events before : List (ℕ × Event)) (number : ℕ) → AllByRecursion (λ event. IsPlayableEvent config liars event.1) events
        → read_fields schedule_form (made stage.Events config master liars contracts genesis (before ++ numbered_events number events)) (number + length events) rest ≡ Ok last
        → read_fields schedule_form (made stage.Events config master liars contracts genesis before) number (printed_events events ++ rest) ≡ Ok last
    reads_events [] before number fit more =
        let none : number + 0 ≡ number = omega arith in
        let at : read_fields schedule_form (made stage.Events config master liars contracts genesis before) (number + 0) rest ≡ Ok last =
        subst (λ all. read_fields schedule_form (made stage.Events config master liars contracts genesis all) (number + 0) rest ≡ Ok last) (append-nil before) more in
        subst (λ n. read_fields schedule_form (made stage.Events config master liars contracts genesis before) n rest ≡ Ok last) none at
    reads_events (event ∷ events) before number fit more =
        let next : number + length (event ∷ events) ≡ number + 1 + length events = omega arith in
        let all = sym (append_assoc before ((number, event.1) ∷ []) (numbered_events (number + 1) events)) in
        read-cons schedule_form (made stage.Events config master liars contracts genesis before) (made stage.Events config master liars contracts genesis (before ++ (number, event.1) ∷ [])) last number (event_words event.1) (printed_events events ++ rest)
        (event_step event.1 genesis before number fit.0)
        (reads_events events (before ++ (number, event.1) ∷ []) (number + 1) fit.1
        (subst (λ n. read_fields schedule_form (made stage.Events config master liars contracts genesis ((before ++ (number, event.1) ∷ []) ++ numbered_events (number + 1) events)) n rest ≡ Ok last) next
        (subst (λ found. read_fields schedule_form (made stage.Events config master liars contracts genesis found) (number + length (event ∷ events)) rest ≡ Ok last) all more)))

    pub reads_objects : length genesis ≤ MOST_GENESIS → AllPairs (λ a b. a ≢ b) (genesis_names 0 genesis)
        → (objects before : List Object) (told any : Bool) (number : ℕ) → before ++ objects ≡ genesis → AllByRecursion IsPrintable objects
        → ((any : Bool) → read_fields schedule_form (made (genesis_stage told any) config master liars contracts genesis []) (number + length objects) rest ≡ Ok last)
        → read_fields schedule_form (made (genesis_stage told any) config master liars contracts before []) number (genesis_lines objects ++ rest) ≡ Ok last
    reads_objects few differ [] before told any number is fit more =
        let none : number + 0 ≡ number = omega arith in
        let at : read_fields schedule_form (made (genesis_stage told any) config master liars contracts before []) (number + 0) rest ≡ Ok last =
        subst (λ all. read_fields schedule_form (made (genesis_stage told any) config master liars contracts all []) (number + 0) rest ≡ Ok last) (sym is ∙ append-nil before) (more any) in
        subst (λ n. read_fields schedule_form (made (genesis_stage told any) config master liars contracts before []) n rest ≡ Ok last) none at
    reads_objects few differ (object ∷ objects) before told any number is fit more =
        let next : number + length (object ∷ objects) ≡ number + 1 + length objects = omega arith in
        let total : length before + length (object ∷ objects) ≡ length genesis = sym (length-append before (object ∷ objects)) ∙ ap length is in
        let new = next_new before object objects (subst (λ (all : List Object). AllPairs (λ a b. a ≢ b) (genesis_names 0 all)) (sym is) differ) in
        read-cons schedule_form (made (genesis_stage told any) config master liars contracts before []) (made stage.Genesis config master liars contracts (before ++ object ∷ []) []) last number (object_words object) (genesis_lines objects ++ rest)
        (object_step told any before object number fit.0 (omega arith) new)
        (reads_objects few differ objects (before ++ object ∷ []) told true (number + 1) (append_assoc before (object ∷ []) objects ∙ is) fit.1
        (λ any. subst (λ n. read_fields schedule_form (made (genesis_stage told any) config master liars contracts genesis []) n rest ≡ Ok last) next (more any)))

-- the four lines before liars
pub reads_head : (config : Config) (master : List ℕ) → config.version ≡ 1 → DigestFits master → (last : Draft) (rest : List (List (List ℕ))) → read_fields schedule_form (made stage.Liars config master [] [] [] []) 5 rest ≡ Ok last
    → read_fields schedule_form empty_draft 1 (number_words (codes "shards") config.shards ∷ number_words (codes "faulty") config.f ∷ number_words (codes "dummies") config.dummies ∷ bytes_words (codes "master") master ∷ rest) ≡ Ok last
reads_head config master one fits last rest more =
    let zeros : List ℕ = replicate 32 0 in
    let least = config_of 1 0 0 in
    let first = config_of config.shards 0 0 in
    let second = config_of config.shards config.f 0 in
    let some_shard : 0 < config.shards = config.some_shard in
    let few_shards : config.shards ≤ MOST_SHARDS = config.few_shards in
    let few_liars : config.f ≤ MOST_LIARS = config.few_liars in
    let few_dummies : config.dummies ≤ MOST_DUMMIES = config.few_dummies in
    let same : first.shards ≡ config.shards = omega arith in
    let same_f : second.f ≡ config.f = omega arith in
    let out : first_out config.shards 0 0 ≡ None = grind (arith, nat_tests) in
    let out_f : first_out config.shards config.f 0 ≡ None = grind (arith, nat_tests) in
    let sharded : config_in_range (configured config.shards 0 0) ≡ Ok first = ap (λ field. config_in_range (unless_out first field)) out in
    let trusted : config_in_range (configured first.shards config.f 0) ≡ Ok second =
    ap (λ n. config_in_range (configured n config.f 0)) same ∙ ap (λ field. config_in_range (unless_out second field)) out_f in
    let whole : config_in_range (configured second.shards second.f config.dummies) ≡ Ok config =
    ap (λ n. config_in_range (configured n second.f config.dummies)) same ∙ ap (λ n. config_in_range (configured config.shards n config.dummies)) same_f ∙ ap config_in_range (configured-config config one) in
    let shards : line_step schedule_form 1 empty_draft (number_words (codes "shards") config.shards) ≡ Ok (made stage.Faulty first zeros [] [] [] []) =
    rw (shards_back least first config.shards (omega arith) sharded) refl in
    let faulty : line_step schedule_form 2 (made stage.Faulty first zeros [] [] [] []) (number_words (codes "faulty") config.f) ≡ Ok (made stage.Dummies second zeros [] [] [] []) =
    rw (faulty_back first second config.f (omega arith) trusted) refl in
    let dummies : line_step schedule_form 3 (made stage.Dummies second zeros [] [] [] []) (number_words (codes "dummies") config.dummies) ≡ Ok (made stage.Master config zeros [] [] [] []) =
    rw (dummies_back second config config.dummies (omega arith) whole) refl in
    let mastered : line_step schedule_form 4 (made stage.Master config zeros [] [] [] []) (bytes_words (codes "master") master) ≡ Ok (made stage.Liars config master [] [] [] []) = rw (digest_back master fits) refl in
    rw (shards, faulty, dummies, mastered) more
