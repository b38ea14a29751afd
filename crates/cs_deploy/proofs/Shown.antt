-- What is taken to look a key up, and what becomes of it.
use Rattle.std.proofs.Common.{◌≡◌, ◌≢◌, ◌++◌, ℕ, ◌+◌, ◌-◌, ◌^◌, Bool, true, false, List, Option, Some, None, Result, Ok, Err, inl, inr, refl, sym, ap, subst, ◌∙◌}
use Rattle.std.specs.Prelude.{min, reverse}
use Rattle.cs_base.specs.declared.key.Key.{Key}
use Rattle.cs_io.specs.Told.{Stays}
use Rattle.cs_io.specs.Store.{Files}
use Rattle.cs_io.specs.Outside.{LinkTold, Beside}
use Rattle.cs_io.specs.declared.until.Until.{Until}
use Rattle.cs_io.specs.laws.Told.{changes-after}
use Rattle.cs_config.specs.declared.hosts.Hosts.{Hosts}
use Rattle.cs_config.specs.declared.site.Site.{Site}
use Rattle.cs_config.specs.Site.{site_of_file}
use Rattle.cs_wire.specs.declared.keys.Keys.{Keys}
use Rattle.cs_client.specs.Inputs.{ClientInput}
use Rattle.cs_client.specs.declared.known.Known.TheVariants as known
use Rattle.cs_serve.specs.declared.receiving.TheConstants.{MOST_MISSED}
use Rattle.cs_serve.specs.Attending.{missed_past}
use Rattle.cs_serve.specs.laws.Offering.{adds-later, front-later}
use Rattle.cs_show.specs.declared.lookup.Lookup.{Lookup}
use Rattle.cs_show.specs.declared.ending.Ending.{Ending}
use Rattle.cs_show.specs.declared.ending.Ending.TheVariants.{Tells, Open, LinkFault, Memory}
use Rattle.cs_show.specs.Looking.{LookEnds, Looks}
use Rattle.cs_deploy.specs.declared.cause.Untaken.{Untaken}
use Rattle.cs_deploy.specs.declared.keys.Role.TheVariants.{Client}
use Rattle.cs_deploy.specs.Taking.{Taken, TakesFiles, FilesCome}
use Rattle.cs_deploy.specs.Files.{site_taken, keys_taken}
use Rattle.cs_deploy.specs.Hosts.{hosts_taken}
use Rattle.cs_deploy.specs.Untaken.{IsDecided}
use Rattle.cs_deploy.specs.Binding.{link_answer}
use Rattle.cs_deploy.specs.Client.{known_answer, IsToldOf}
use Rattle.cs_deploy.specs.Show.{has_shard, Shown, hosts_behind, keys_where, show_taken, no_shard_answer, line_answer, TellsLook, ShowGoes, ShowRuns}
use Rattle.cs_deploy.proofs.Steps.{first-not, then-next, takes-ok}
use Rattle.cs_deploy.proofs.Takes.{file-stable, stable-keys}
use Rattle.cs_deploy.proofs.Hosted.{stable-hosts}
use Rattle.cs_deploy.proofs.Answered.{answers-other}
use Rattle.cs_deploy.proofs.Decided.{runs-decided, runs-other}

-- ---- files

module _ (site_name keys_name : List ℕ) (name : Option (List ℕ)) (key : Key) (a : Option Files) where
  abbrev rest : Files → Site → Taken (Option Shown)
  rest files site = keys_where (has_shard site.config key) site keys_name name files

  pub show-no-site : (why : Untaken) → TakesFiles (FilesCome (site_taken site_name)) a (Err why) → TakesFiles (FilesCome (show_taken site_name keys_name name key)) a (Err why)
  show-no-site = first-not (site_taken site_name) rest a

  module _ (site : Site) (first : TakesFiles (FilesCome (site_taken site_name)) a (Ok site)) where
    behind-site : (b : Bool) → has_shard site.config key ≡ b → (result : Result (Option Shown) Untaken) → TakesFiles (FilesCome (keys_where b site keys_name name)) a result
        → TakesFiles (FilesCome (show_taken site_name keys_name name key)) a result
    behind-site b is result later =
        then-next (site_taken site_name) rest a site result (file-stable site_of_file site_name) first
        (subst (λ (t : Bool). TakesFiles (FilesCome (keys_where t site keys_name name)) a result) (sym is) later)

    pub show-no-shard : has_shard site.config key ≡ false → TakesFiles (FilesCome (show_taken site_name keys_name name key)) a (Ok None)
    show-no-shard is =
        behind-site false is (Ok None) (takes-ok (λ (outcome : Taken (Option Shown)). Ok None ≡ outcome) a None refl)

    module _ (is : has_shard site.config key ≡ true) where
      pub show-no-keys : (why : Untaken) → TakesFiles (FilesCome (keys_taken Client site.config keys_name)) a (Err why) → TakesFiles (FilesCome (show_taken site_name keys_name name key)) a (Err why)
      show-no-keys why later =
          behind-site true is (Err why) (first-not (keys_taken Client site.config keys_name) (hosts_behind site name) a why later)

      module _ (keys : Keys) (second : TakesFiles (FilesCome (keys_taken Client site.config keys_name)) a (Ok keys)) where
        behind-keys : (result : Result (Option Shown) Untaken) → TakesFiles (FilesCome (λ files. hosts_behind site name files keys)) a result
            → TakesFiles (FilesCome (show_taken site_name keys_name name key)) a result
        behind-keys result later =
            behind-site true is result (then-next (keys_taken Client site.config keys_name) (hosts_behind site name) a keys result (stable-keys Client site.config keys_name) second later)

        pub show-no-hosts : (why : Untaken) → TakesFiles (FilesCome (hosts_taken site.config name)) a (Err why) → TakesFiles (FilesCome (show_taken site_name keys_name name key)) a (Err why)
        show-no-hosts why later =
            behind-keys (Err why) (first-not (hosts_taken site.config name) (λ files hosts. Ok (Some (site, keys, hosts))) a why later)

        pub show-ok : (hosts : Option Hosts) → TakesFiles (FilesCome (hosts_taken site.config name)) a (Ok hosts) → TakesFiles (FilesCome (show_taken site_name keys_name name key)) a (Ok (Some (site, keys, hosts)))
        show-ok hosts later =
            behind-keys (Ok (Some (site, keys, hosts)))
            (then-next (hosts_taken site.config name) (λ files hosts. Ok (Some (site, keys, hosts))) a hosts (Ok (Some (site, keys, hosts))) (stable-hosts site.config name) later
            (takes-ok (λ (outcome : Taken (Option Shown)). Ok (Some (site, keys, hosts)) ≡ outcome) a (Some (site, keys, hosts)) refl))

-- ---- a bind changed nothing of this

abbrev Came : List ClientInput → List ClientInput → List ClientInput → Type 0
Came inputs before now = (taken : List ClientInput) × (before ≡ taken ++ now) × (inputs ≡ reverse taken)

pub looks-later : (l : Lookup) (until : Until) (a b c : LinkTold) (ending : Ending) → Stays a.left b.left → Stays a.offered b.offered → b.missed ≡ a.missed → Looks l until b c ending → Looks l until a c ending
looks-later l until a b c ending stays kept same looks = record {
  inputs = looks.inputs;
  needed = looks.needed;
  takes = changes-after (Came looks.inputs) a.left b.left c.left stays looks.takes;
  unseen = looks.unseen;
  ends = by ending looks.inputs looks.ends;
}
  where
    by : (ending : Ending) (inputs : List ClientInput) → LookEnds l until inputs b c ending → LookEnds l until inputs a c ending
    by (Tells line) inputs (is, adds) = (is, adds-later a.offered b.offered c.offered _ kept adds)
    by Open inputs (is, over, adds) = (is, over, adds-later a.offered b.offered c.offered _ kept adds)
    by LinkFault inputs (missing, is, adds) =
        (missing ∙ ap (λ n. min (missed_past n inputs + MOST_MISSED) (2 ^ 64 - 1)) same, is, adds-later a.offered b.offered c.offered _ kept adds)
    by Memory inputs front = front-later a.offered b.offered c.offered _ kept front

-- ---- what decides, and which statuses there are

module _ (key : Key) (until : Until) (Failed : Type 0) (old new : Beside LinkTold) (status : ℕ) where
  show-done : (taken : Option Shown) → ShowGoes key until Failed taken old new status → (Failed → ⊥) → status ≢ 6 → status ≢ 8 → IsToldOf status
  show-done None is links writes other = inr (inr (is.1.verdict writes other).0)
  show-done (Some (site, keys, hosts)) (inl is) links writes other = absurd (other is.silent.0)
  show-done (Some (site, keys, hosts)) (inr (inl is)) links writes other = absurd (links is.failed)
  show-done (Some (site, keys, hosts)) (inr (inr is)) links writes other = by is.ending is.failed is.told
    where
      by : (e : Ending) → (e ≡ LinkFault → Failed) → TellsLook e old.written new.written status → IsToldOf status
      by (Tells line) failed tells = inl (tells.verdict writes other).0
      by Open failed tells = inr (inl (tells.verdict writes other).0)
      by LinkFault failed tells = absurd (links (failed refl))
      by Memory failed tells = absurd (other tells.0)

  show-other : (taken : Option Shown) (n : ℕ) → ShowGoes key until Failed taken old new status → 0 ≢ n → 10 ≢ n → 3 ≢ n → 7 ≢ n → 6 ≢ n → 8 ≢ n → status ≢ n
  show-other None n is zero ten three seven six eight = answers-other no_shard_answer old.written new.written status n is.1 three six eight
  show-other (Some (site, keys, hosts)) n (inl is) zero ten three seven six eight = λ p. eight (sym is.silent.0 ∙ p)
  show-other (Some (site, keys, hosts)) n (inr (inl is)) zero ten three seven six eight = answers-other link_answer old.written new.written status n is.told seven six eight
  show-other (Some (site, keys, hosts)) n (inr (inr is)) zero ten three seven six eight = by is.ending is.told
    where
      by : (e : Ending) → TellsLook e old.written new.written status → status ≢ n
      by (Tells line) tells = answers-other (line_answer line) old.written new.written status n tells zero six eight
      by Open tells = answers-other (known_answer known.Open) old.written new.written status n tells ten six eight
      by LinkFault tells = answers-other link_answer old.written new.written status n tells seven six eight
      by Memory tells = λ p. eight (sym tells.0 ∙ p)

module _ (site keys : List ℕ) (hosts : Option (List ℕ)) (key : Key) (until : Until) (Failed Linked : Type 0) (files : Option Files) (old new : Beside LinkTold) (status : ℕ) where
  pub show-runs-decided : ShowRuns site keys hosts key until Failed Linked files old new status → (Failed → ⊥) → (Linked → ⊥) → status ≢ 6 → IsDecided (FilesCome (show_taken site keys hosts key)) IsToldOf files status
  show-runs-decided runs stores links writes =
      runs-decided (FilesCome (show_taken site keys hosts key)) (ShowGoes key until Linked) Failed files old new status IsToldOf runs stores writes
      (λ taken goes other. show-done key until Linked old new status taken goes links writes other)

  pub show-runs-other : (n : ℕ) → ShowRuns site keys hosts key until Failed Linked files old new status → 0 ≢ n → 10 ≢ n → 3 ≢ n → 7 ≢ n → 12 ≢ n → 6 ≢ n → 8 ≢ n → status ≢ n
  show-runs-other n runs zero ten three seven twelve six eight =
      runs-other (FilesCome (show_taken site keys hosts key)) (ShowGoes key until Linked) Failed files old new status n runs twelve six eight
      (λ taken goes. show-other key until Linked old new status taken n goes zero ten three seven six eight)
