-- A wallet that signs can be held by a file as before.
use Rattle.std.proofs.Common.{◌≡◌, ℕ, zero, suc, ◌<◌, ◌≤◌, Bool, true, false, cond, List, [], ◌∷◌, ◌++◌, length, get_or, length-append, Option, Some, None, Result, Ok, Err, refl, sym, ap, subst, ◌∙◌, arith}
use Rattle.std.specs.Prelude.{IfOk, nat_lt, ◌==◌, not, ◌&&◌, ◌||◌}
use Rattle.std.specs.Str.{bytes_eq}
use Rattle.std.proofs.lemmas.Bool.{ltb-true}
use Rattle.std.proofs.lemmas.Bool.Decides.{nat_tests}
use Rattle.cs_config.specs.Printed.{IsDigest}
use Rattle.cs_onetime.specs.declared.wallet.Wallet.{Wallet}
use Rattle.cs_onetime.specs.declared.wallet.WalletError.TheVariants.{Used, Full}
use Rattle.cs_onetime.specs.declared.wallet.TheConstants.{LAST_NUMBER, MOST_USED}
use Rattle.cs_onetime.specs.Wallet.{message_of, signed_after, after_signing}
use Rattle.cs_wallet.specs.File.{FileGives, are_apart, numbered}
use Rattle.cs_wallet.specs.Fitting.{SignedFits, AllSignedFit, is_used, are_once, UsedFits, WalletFits}
use Rattle.cs_wallet.specs.declared.entry.Entry.{Entry}
use Rattle.cs_wallet.specs.declared.error.FileError.{FileError}
use Rattle.cs_wallet.proofs.Numbered.{length-entries_of, apart-entries_of, numbered-is}

-- ---- one more

pub fits_push : (used : List (ℕ × List ℕ)) (signed : ℕ × List ℕ) → AllSignedFit used → SignedFits signed → AllSignedFit (used ++ signed ∷ [])
fits_push [] signed all here = (here, tt)
fits_push (x ∷ used) signed all here = (all.0, fits_push used signed all.1 here)

swapped : (m n : ℕ) → (m == n) ≡ (n == m)
swapped m n = grind (arith, nat_tests)

-- a number that has signed nothing isn't used
unused : (number : ℕ) (used : List (ℕ × List ℕ)) → message_of number used ≡ None → is_used number used ≡ false
unused number [] none = refl
unused number (x ∷ used) none = by (x.0 == number) (λ e. unused number used e) none
  where
    by : (here : Bool) → (message_of number used ≡ None → is_used number used ≡ false) → cond here (Some x.1) (message_of number used) ≡ None → (here || is_used number used) ≡ false
    by true later e = absurd (cc)
    by false later e = later e

used-append : (n number : ℕ) (message : List ℕ) (used : List (ℕ × List ℕ)) → is_used n (used ++ (number, message) ∷ []) ≡ (is_used n used || (number == n))
used-append n number message [] = by (number == n)
  where
    by : (b : Bool) → (b || false) ≡ b
    by true = refl
    by false = refl
used-append n number message (x ∷ used) = ap (λ b. (x.0 == n) || b) (used-append n number message used) ∙ by (x.0 == n) (is_used n used) (number == n)
  where
    by : (a b c : Bool) → (a || (b || c)) ≡ ((a || b) || c)
    by true b c = refl
    by false b c = refl

both_of : (a b : Bool) → (a && b) ≡ true → (a ≡ true) × (b ≡ true)
both_of true b e = (refl, e)
both_of false b e = absurd (cc)

neither_of : (a b : Bool) → (a || b) ≡ false → (a ≡ false) × (b ≡ false)
neither_of true b e = absurd (cc)
neither_of false b e = (refl, e)

not_true : (b : Bool) → not b ≡ true → b ≡ false
not_true true e = absurd (cc)
not_true false e = refl

once-append : (number : ℕ) (message : List ℕ) (used : List (ℕ × List ℕ)) → is_used number used ≡ false → are_once used ≡ true → are_once (used ++ (number, message) ∷ []) ≡ true
once-append number message [] none once = refl
once-append number message (x ∷ used) none once =
    let parts : (not (is_used x.0 used) ≡ true) × (are_once used ≡ true) = both_of (not (is_used x.0 used)) (are_once used) once in
    let apart : ((x.0 == number) ≡ false) × (is_used number used ≡ false) = neither_of (x.0 == number) (is_used number used) none in
    let here : is_used x.0 (used ++ (number, message) ∷ []) ≡ false =
    used-append x.0 number message used ∙ rw (not_true (is_used x.0 used) parts.0, swapped number x.0, apart.0) refl in
    rw (here, once-append number message used apart.1 parts.1) refl

-- ---- a wallet that signs

module _ (number : ℕ) (message : List ℕ) (small : number ≤ LAST_NUMBER) (digest : IsDigest message) where
  abbrev with_it : Wallet → Wallet
  with_it old = record { seed = old.seed; used = old.used ++ (number, message) ∷ [] }

  pub grown : (old : Wallet) → length old.used < MOST_USED → message_of number old.used ≡ None → WalletFits old → WalletFits (with_it old)
  grown old room none fits = record {
    seed = fits.seed;
    used = record {
      few = (let more = length-append old.used ((number, message) ∷ []) in omega (arith, more, room));
      fit = fits_push old.used (number, message) fits.used.fit (record { number = small; message = digest });
      once = once-append number message old.used (unused number old.used none) fits.used.once;
    };
  }

  again : (old new : Wallet) (same : Bool) → cond same (Ok old) (Err Used) ≡ Ok new → WalletFits old → WalletFits new
  again old new true is fits = let stays : old ≡ new = cc in subst WalletFits stays fits
  again old new false is fits = absurd (cc)

  first : (old new : Wallet) (room : Bool) → nat_lt (length old.used) MOST_USED ≡ room → message_of number old.used ≡ None → cond room (Ok (with_it old)) (Err Full) ≡ Ok new → WalletFits old → WalletFits new
  first old new true room none is fits = let made : with_it old ≡ new = cc in subst WalletFits made (grown old (ltb-true (length old.used) MOST_USED room) none fits)
  first old new false room none is fits = absurd (cc)

  by_earlier : (old new : Wallet) (earlier : Option (List ℕ)) → message_of number old.used ≡ earlier → signed_after earlier old number message ≡ Ok new → WalletFits old → WalletFits new
  by_earlier old new None was is fits = first old new (nat_lt (length old.used) MOST_USED) refl was is fits
  by_earlier old new (Some earlier) was is fits = again old new (bytes_eq earlier message) is fits

  pub signed-fits : (old new : Wallet) → after_signing old number message ≡ Ok new → WalletFits old → WalletFits new
  signed-fits old new is fits = by_earlier old new (message_of number old.used) refl is fits

-- ---- a wallet that is read

pub read-fits : (entries : List Entry) (used : List (ℕ × List ℕ)) → are_apart entries ≡ true → length entries ≤ MOST_USED → numbered entries ≡ Ok used → AllSignedFit used → UsedFits used
read-fits entries used apart few is fit =
    let same = numbered-is entries used is in
    record {
      few = subst (λ (n : ℕ). n ≤ MOST_USED) (ap length same ∙ length-entries_of used) few;
      fit = fit;
      once = sym (ap are_apart same ∙ apart-entries_of used) ∙ apart;
    }

pub used_fits : (entries : List Entry) (read : Result (List (ℕ × List ℕ)) FileError) → are_apart entries ≡ true → length entries ≤ MOST_USED → FileGives read (numbered entries) → IfOk read AllSignedFit → IfOk read UsedFits
used_fits entries (Ok used) apart few given fit = read-fits entries used apart few given fit
used_fits entries (Err e) apart few given fit = tt

-- each of those that fit fits
pub fits_at : (used : List (ℕ × List ℕ)) (i : ℕ) (d : ℕ × List ℕ) → AllSignedFit used → i < length used → SignedFits (get_or used i d)
fits_at [] i d all lt = absurd (omega (arith, lt))
fits_at (signed ∷ used) zero d all lt = all.0
fits_at (signed ∷ used) (suc i) d all lt = fits_at used i d all.1 (omega (arith, lt))
