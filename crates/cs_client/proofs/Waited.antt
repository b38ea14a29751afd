-- What a client waits for by what it keeps is what it waits for by its inputs.
use Rattle.std.proofs.Common.{◌≡◌, ℕ, ◌<◌, Bool, List, [], ◌∷◌, ◌++◌, map, Option, Some, None, refl, ap, ◌∙◌, if◌then◌else◌}
use Rattle.std.specs.Prelude.{is_none, is_some, filter}
use Rattle.std.specs.List.{AllByRecursion}
use Rattle.cs_tx_value.specs.declared.object.Object.{Object}
use Rattle.cs_client.specs.declared.errand.Errand.{Errand}
use Rattle.cs_client.specs.declared.phases.Phase.{Phase as Kept}
use Rattle.cs_client.specs.declared.phases.Phase.TheVariants as kept
use Rattle.cs_client.specs.declared.waiting.Waiting.TheVariants.{Objects, Dummies}
use Rattle.cs_client.specs.Inputs.{ClientInput}
use Rattle.cs_client.specs.Objects.{believed}
use Rattle.cs_client.specs.Sessions.{bare_shards}
use Rattle.cs_client.specs.Phases.{phase}
use Rattle.cs_client.specs.Kept.{WordsTold, asked_on, told_by_inputs}
use Rattle.cs_client.specs.Seen.{phase_seen, PhaseFits}
use Rattle.cs_client.specs.Hearing.{Keeps}
use Rattle.cs_client.specs.Waits.{unbelieved, lacks_dummy, waiting_in, waiting, unsettled, lacks_kept, waiting_kept}
use Rattle.cs_client.proofs.Moving.{dummy-so, all-bare}

-- the flags are those of the inputs
unsettled-so : (e : Errand) (inputs : List ClientInput) (names : List (List ℕ)) → unsettled (map (asked_on e.config e.keys inputs) names) ≡ unbelieved e inputs names
unsettled-so e inputs [] = refl
unsettled-so e inputs (name ∷ names) =
    ap (λ more. (if is_some (believed e.config e.keys inputs name) then [] else name ∷ []) ++ more) (unsettled-so e inputs names)
    ∙ by (believed e.config e.keys inputs name)
  where
    by : (o : Option Object) → (if is_some o then [] else name ∷ []) ++ unbelieved e inputs names ≡ (if is_none o then name ∷ unbelieved e inputs names else unbelieved e inputs names)
    by None = refl
    by (Some object) = refl

-- tests that agree on all of these leave the same
filter-alike : (p q : ℕ → Bool) (xs : List ℕ) → AllByRecursion (λ x. p x ≡ q x) xs → filter p xs ≡ filter q xs
filter-alike p q [] same = refl
filter-alike p q (x ∷ xs) same =
    ap (λ t. if t then x ∷ filter p xs else filter p xs) same.0
    ∙ ap (λ more. if q x then x ∷ more else more) (filter-alike p q xs same.1)

lacking-so : (e : Errand) (inputs : List ClientInput) (shard : ℕ) → shard < e.config.shards → lacks_kept e.config.f (told_by_inputs e inputs).serials shard ≡ lacks_dummy e inputs shard
lacking-so e inputs shard low = ap (λ (o : Option ℕ). is_none o) (dummy-so e inputs shard low)

-- in each phase
kept-so : (e : Errand) (inputs : List ClientInput) (now : Kept) → PhaseFits e.config now → waiting_kept e.config.f (told_by_inputs e inputs) now ≡ waiting_in e inputs (phase_seen now)
kept-so e inputs kept.Asking fits =
    ap (λ names. Objects (names ++ unsettled (told_by_inputs e inputs).reads)) (unsettled-so e inputs e.call.inputs)
    ∙ ap (λ names. Objects (unbelieved e inputs e.call.inputs ++ names)) (unsettled-so e inputs e.call.reads)
kept-so e inputs (kept.Wanting wanted) fits =
    let lacks = lacks_kept e.config.f (told_by_inputs e inputs).serials in
    ap (λ shards. Dummies (filter lacks shards)) fits.shards_are
    ∙ ap Dummies (filter-alike lacks (lacks_dummy e inputs) (bare_shards e.config wanted.session)
    (all-bare (λ s. lacks s ≡ lacks_dummy e inputs s) e.config wanted.session (lacking-so e inputs)))
kept-so e inputs (kept.Submitting submission) fits = refl
kept-so e inputs kept.Idle fits = refl

pub waiting-so : (e : Errand) (inputs : List ClientInput) (told : WordsTold) (now : Kept) → PhaseFits e.config now → Keeps e inputs (phase e inputs) told now → waiting_kept e.config.f told now ≡ waiting e inputs
waiting-so e inputs told now fits keeps =
    ap (λ (t : WordsTold). waiting_kept e.config.f t now) keeps.told_is
    ∙ (kept-so e inputs now fits ∙ ap (waiting_in e inputs) keeps.phase_is)
