-- What is due is of the sessions of the pool, and has an encoding where they have.
use Rattle.std.proofs.Common.{◌≡◌, inl, inr, ℕ, ◌-◌, ◌≤◌, ◌<◌, nat_lt, nat_le, List, [], ◌∷◌, length, Option, Some, None, refl, sym, subst, arith, ltb-true, leb-true}
use Rattle.std.specs.List.{AllByRecursion}
use Rattle.std.proofs.lemmas.Bool.{cond_both, and_parts}
use Rattle.std.proofs.lemmas.List.{length-append}
use Rattle.cs_base.specs.declared.limits.TheConstants.{MOST_ACTIONS, MOST_BATCH}
use Rattle.cs_base.specs.declared.version.Version.{Version}
use Rattle.cs_base.specs.declared.version.Version.TheVariants.{One, Two}
use Rattle.cs_base.specs.Fields.{each}
use Rattle.cs_base.specs.Lists.{IsIn}
use Rattle.cs_tx_types.specs.declared.action.Action.{Action}
use Rattle.cs_tx_types.specs.declared.entry.Entry.{Entry}
use Rattle.cs_tx_types.specs.Session.{action_encoding, ActionFits}
use Rattle.cs_tx_types.specs.Entry.{EntryFits, entry_of}
use Rattle.cs_node_state.specs.Setup.{Setup}
use Rattle.cs_node_state.specs.Pool.{Pool}
use Rattle.cs_node_state.specs.Admission.{all_due, has_room_for, beginning, batch_head, first_alone, batched, some_entry, due}

-- ---- a beginning

pub beginning_in : (most room : ℕ) (actions : List Action) (a : Action) → IsIn a (beginning most room actions) → IsIn a actions
beginning_in most room [] a i = absurd i
beginning_in most room (action ∷ more) a i =
    cond_both (has_room_for most room action) (action ∷ beginning (most - 1) (room - length (action_encoding action)) more) [] (λ some. IsIn a some → IsIn a (action ∷ more))
    (λ room_is j. elim j [ inl here ↦ inl here | inr there ↦ inr (beginning_in (most - 1) (room - length (action_encoding action)) more a there) ])
    (λ none j. absurd j) i

pub beginning_fits : (most room : ℕ) (actions : List Action) → AllByRecursion ActionFits actions → AllByRecursion ActionFits (beginning most room actions)
beginning_fits most room [] fits = tt
beginning_fits most room (action ∷ more) fits =
    cond_both (has_room_for most room action) (action ∷ beginning (most - 1) (room - length (action_encoding action)) more) [] (λ some. AllByRecursion ActionFits some)
    (λ room_is. (fits.0, beginning_fits (most - 1) (room - length (action_encoding action)) more fits.1)) (λ none. tt)

pub beginning_few : (most room : ℕ) (actions : List Action) → length (beginning most room actions) ≤ most
beginning_few most room [] = omega arith
beginning_few most room (action ∷ more) =
    cond_both (has_room_for most room action) (action ∷ beginning (most - 1) (room - length (action_encoding action)) more) [] (λ some. length some ≤ most)
    (λ room_is.
    let one : 0 < most = ltb-true 0 most (and_parts (nat_lt 0 most) (nat_le (length (action_encoding action)) room) room_is).0 in
    let rest = beginning_few (most - 1) (room - length (action_encoding action)) more in
    omega arith)
    (λ none. omega arith)

pub beginning_small : (most room : ℕ) (actions : List Action) → length (each action_encoding (beginning most room actions)) ≤ room
beginning_small most room [] = omega arith
beginning_small most room (action ∷ more) =
    let left = room - length (action_encoding action) in
    let rest = beginning (most - 1) left more in
    cond_both (has_room_for most room action) (action ∷ rest) [] (λ some. length (each action_encoding some) ≤ room)
    (λ room_is.
    let fits : length (action_encoding action) ≤ room = leb-true (length (action_encoding action)) room (and_parts (nat_lt 0 most) (nat_le (length (action_encoding action)) room) room_is).1 in
    let small = beginning_small (most - 1) left more in
    let both = length-append (action_encoding action) (each action_encoding rest) in
    omega (arith, fits, small, both))
    (λ none. omega arith)

-- ---- of either version

pub batched_in : (version : Version) (actions : List Action) (a : Action) → IsIn a (batched version actions) → IsIn a actions
batched_in One [] a i = absurd i
batched_in One (action ∷ more) a (inl here) = inl here
batched_in One (action ∷ more) a (inr none) = absurd none
batched_in Two actions a i = beginning_in MOST_ACTIONS (MOST_BATCH - batch_head) actions a i

first_fits : (actions : List Action) → AllByRecursion ActionFits actions → AllByRecursion ActionFits (first_alone actions)
first_fits [] fits = tt
first_fits (action ∷ more) fits = (fits.0, tt)

first_one : (actions : List Action) → 1 ≤ length (first_alone actions) → length (first_alone actions) ≡ 1
first_one [] some = absurd (omega (arith, some))
first_one (action ∷ more) some = refl

-- what has been put into an entry has an encoding
pub batched_fits : (version : Version) (actions : List Action) → AllByRecursion ActionFits actions → 1 ≤ length (batched version actions)
    → EntryFits version (entry_of (batched version actions))
batched_fits One actions fits some = (first_one actions some, first_fits actions fits)
batched_fits Two actions fits some =
    let few = beginning_few MOST_ACTIONS (MOST_BATCH - batch_head) actions in
    let small = beginning_small MOST_ACTIONS (MOST_BATCH - batch_head) actions in
    record {
      some = some;
      actions = (few, beginning_fits MOST_ACTIONS (MOST_BATCH - batch_head) actions fits);
      small = omega (arith, small);
    }

-- ---- the due entry

-- the actions of an entry, where there are some
pub record IsOf (actions : List Action) (entry : Entry) : Type 0 where
  pub some : 1 ≤ length actions
  pub is : entry ≡ entry_of actions

pub some_of : (actions : List Action) (entry : Entry) → some_entry actions ≡ Some entry → IsOf actions entry
some_of [] entry is = let q : ◌≡◌ {A = Option Entry} None (Some entry) = is in absurd cc
some_of (action ∷ more) entry is =
    let same : entry_of (action ∷ more) ≡ entry = cc in
    record { some = omega arith; is = sym same }

pub due_in : (setup : Setup) (pool : Pool) (entry : Entry) → due setup pool ≡ Some entry → (a : Action) → IsIn a entry.actions → IsIn a (all_due setup pool)
due_in setup pool entry is a i =
    let of = some_of (batched setup.version (all_due setup pool)) entry is in
    batched_in setup.version (all_due setup pool) a (subst (λ (e : Entry). IsIn a e.actions) of.is i)

pub due_fits : (setup : Setup) (pool : Pool) (entry : Entry) → due setup pool ≡ Some entry → AllByRecursion ActionFits (all_due setup pool)
    → EntryFits setup.version entry
due_fits setup pool entry is fits =
    let of = some_of (batched setup.version (all_due setup pool)) entry is in
    subst (λ (e : Entry). EntryFits setup.version e) (sym of.is) (batched_fits setup.version (all_due setup pool) fits of.some)
