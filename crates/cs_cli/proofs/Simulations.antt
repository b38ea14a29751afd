-- What the words of a simulation call for.
use Rattle.std.proofs.Common.{◌≡◌, ℕ, ◌≤◌, Bool, true, false, cond, nat_lt, nat_le, ◌&&◌, List, [], ◌∷◌, Option, Some, None, refl, ap, subst, arith}
use Rattle.std.specs.Prelude.{codes, option_map}
use Rattle.std.specs.Str.{bytes_eq}
use Rattle.std.proofs.lemmas.Bool.Decides.{nat_tests}
use Rattle.cs_io.specs.Numbers.{short_number}
use Rattle.cs_gen.specs.declared.limits.TheConstants.{MOST_SIZE}
use Rattle.cs_cli.specs.Numbers.{size_in, both_numbers, simulated}
use Rattle.cs_cli.specs.Deployed.{reads_master, deployment_of_word}
use Rattle.cs_cli.specs.Words.{plain_mode, mode_from, plain_contract, contract_mode_from, plain_command, topic_called, command_of, file_called}
use Rattle.cs_cli.specs.declared.words.Command.{Command}
use Rattle.cs_cli.specs.declared.words.Command.TheVariants.{Replay, Contract, Try, Verify, Audit, Simulate, Help, Version, Wallet, Transaction, ReadKeys, Deploy}
use Rattle.cs_cli.specs.Wallets.{wallet_called}
use Rattle.cs_cli.specs.Transactions.{numbered_called}

-- ---- its size is within the limit

is_small : (size n : ℕ) (test : Bool) → (nat_lt 0 size && nat_le size MOST_SIZE) ≡ test → cond test (Some size) None ≡ Some n → n ≤ MOST_SIZE
is_small size n true holds is =
    let below : size ≤ MOST_SIZE = grind (arith, nat_tests) in
    let q : Some size ≡ Some n = is in
    let same : size ≡ n = cc in
    subst (λ (k : ℕ). k ≤ MOST_SIZE) same below
is_small size n false fails is = absurd (let q : None ≡ Some n = is in cc)

size-small : (size : Option ℕ) (n : ℕ) → size_in size ≡ Some n → n ≤ MOST_SIZE
size-small None n is = absurd (let q : None ≡ Some n = is in cc)
size-small (Some size) n is = is_small size n (nat_lt 0 size && nat_le size MOST_SIZE) refl is

abbrev size_of_both : Option (ℕ × ℕ) → ℕ
size_of_both None = 0
size_of_both (Some said) = said.1

both-small : (number size : Option ℕ) (n s : ℕ) → ((k : ℕ) → size ≡ Some k → k ≤ MOST_SIZE) → both_numbers number size ≡ Some (n, s) → s ≤ MOST_SIZE
both-small None size n s small is = absurd (let q : None ≡ Some (n, s) = is in cc)
both-small (Some number) None n s small is = absurd (let q : None ≡ Some (n, s) = is in cc)
both-small (Some number) (Some size) n s small is = subst (λ (k : ℕ). k ≤ MOST_SIZE) (ap size_of_both is) (small size refl)

simulated-small : (options : List (List ℕ)) (n s : ℕ) → simulated options ≡ Some (n, s) → s ≤ MOST_SIZE
simulated-small [] n s is = absurd (let q : None ≡ Some (n, s) = is in cc)
simulated-small (number ∷ []) n s is = absurd (let q : None ≡ Some (n, s) = is in cc)
simulated-small (number ∷ size ∷ []) n s is =
    both-small (short_number number) (size_in (short_number size)) n s (size-small (short_number size)) is
simulated-small (number ∷ size ∷ other ∷ options) n s is = absurd (let q : None ≡ Some (n, s) = is in cc)

-- ---- no other command is one

abbrev Small : ℕ → ℕ → Option Command → Type 0
Small number size command = command ≡ Some (Simulate number size) → size ≤ MOST_SIZE

none-small : (number size : ℕ) → Small number size None
none-small number size is = absurd (let q : None ≡ Some (Simulate number size) = is in cc)

keys-small : (number size : ℕ) → Small number size (Some (ReadKeys 1))
keys-small number size is = absurd (let q : Some (ReadKeys 1) ≡ Some (Simulate number size) = is in cc)

either-small : (number size : ℕ) (b : Bool) (x y : Option Command) → Small number size x → Small number size y → Small number size (cond b x y)
either-small number size true x y here there = here
either-small number size false x y here there = there

other-small : {A : Type 0} (number size : ℕ) (made : A → Command) → ((x : A) → made x ≡ Simulate number size → ⊥) → (said : Option A) → Small number size (option_map made said)
other-small number size made other None is = none-small number size is
other-small number size made other (Some x) is = absurd (other x (let q : Some (made x) ≡ Some (Simulate number size) = is in cc))

no-plain : (command : Command) (options : List (List ℕ)) (number size : ℕ) → (command ≡ Simulate number size → ⊥) → plain_command command options ≡ Some (Simulate number size) → size ≤ MOST_SIZE
no-plain command [] number size other is = absurd (other (let q : Some command ≡ Some (Simulate number size) = is in cc))
no-plain command (option ∷ options) number size other is = absurd (let q : None ≡ Some (Simulate number size) = is in cc)

abbrev simulating : ℕ × ℕ → Command
simulating said = Simulate said.0 said.1

said-small : (said : Option (ℕ × ℕ)) (number size : ℕ) → ((n s : ℕ) → said ≡ Some (n, s) → s ≤ MOST_SIZE) → option_map simulating said ≡ Some (Simulate number size) → size ≤ MOST_SIZE
said-small None number size small is = absurd (let q : None ≡ Some (Simulate number size) = is in cc)
said-small (Some said) number size small is =
    let q : Some (Simulate said.0 said.1) ≡ Some (Simulate number size) = is in
    let same : said.1 ≡ size = cc in
    subst (λ (k : ℕ). k ≤ MOST_SIZE) same (small said.0 said.1 refl)

-- words that call for a simulation have its size within the limit
pub command-small : (words : List (List ℕ)) (number size : ℕ) → command_of words ≡ Some (Simulate number size) → size ≤ MOST_SIZE
command-small [] number size = none-small number size
command-small (word ∷ options) number size =
    either-small number size (bytes_eq word (codes "replay")) _ _ (other-small number size Replay (λ mode q. cc) (mode_from plain_mode options))
    (either-small number size (bytes_eq word (codes "contract")) _ _ (other-small number size Contract (λ mode q. cc) (contract_mode_from plain_contract options))
    (either-small number size (bytes_eq word (codes "try")) _ _ (other-small number size Try (λ file q. cc) (file_called options))
    (either-small number size (bytes_eq word (codes "verify")) _ _ (no-plain Verify options number size (λ q. cc))
    (either-small number size (bytes_eq word (codes "audit")) _ _ (no-plain Audit options number size (λ q. cc))
    (either-small number size (bytes_eq word (codes "simulate")) _ _ (said-small (simulated options) number size (simulated-small options))
    (either-small number size (bytes_eq word (codes "help")) _ _ (other-small number size Help (λ topic q. cc) (topic_called options))
    (either-small number size (bytes_eq word (codes "version")) _ _ (no-plain Version options number size (λ q. cc))
    (either-small number size (bytes_eq word (codes "wallet")) _ _ (other-small number size Wallet (λ call q. cc) (wallet_called options))
    (either-small number size (bytes_eq word (codes "transaction")) _ _ (other-small number size Transaction (λ session q. cc) (numbered_called options))
    (either-small number size (bytes_eq word (codes "keys") && reads_master options) _ _ (keys-small number size)
    (other-small number size Deploy (λ deployment q. cc) (deployment_of_word word options))))))))))))
