-- Over every list of calls no number signs two messages.
use Rattle.std.proofs.Common.{◌≡◌, ℕ, Bool, true, false, cond, List, [], ◌∷◌, ◌++◌, Option, Some, None, Ok, Err, refl, sym, ap, subst, ◌∙◌, inl, inr, arith}
use Rattle.std.specs.Prelude.{◌==◌, IsTrue, length, nat_lt}
use Rattle.std.specs.Str.{bytes_eq}
use Rattle.std.proofs.lemmas.Bool.Decides.{nat_tests}
use Rattle.std.proofs.lemmas.Slice.Eq.{bytes_eq-Decides}
use Rattle.cs_onetime.specs.declared.wallet.Wallet.{Wallet}
use Rattle.cs_onetime.specs.declared.wallet.WalletError.TheVariants.{Used, Full}
use Rattle.cs_onetime.specs.declared.wallet.TheConstants.{MOST_USED}
use Rattle.cs_onetime.specs.Wallet.{message_of, signed_after, after_signing, Call, Goes, CallGoes, CallsGo, IsSigned}

eq_bytes : (xs ys : List ℕ) → bytes_eq xs ys ≡ true → xs ≡ ys
eq_bytes xs ys test = (bytes_eq-Decides xs ys).0 test

-- what a number signed earlier stays, whatever is added
kept-append : (number : ℕ) (used more : List (ℕ × List ℕ)) (message : List ℕ) → message_of number used ≡ Some message → message_of number (used ++ more) ≡ Some message
kept-append number [] more message is = absurd (cc)
kept-append number (x ∷ used) more message is = by (x.0 == number) (λ e. kept-append number used more message e) is
  where
    by : (here : Bool) → (message_of number used ≡ Some message → message_of number (used ++ more) ≡ Some message) → cond here (Some x.1) (message_of number used) ≡ Some message → cond here (Some x.1) (message_of number (used ++ more)) ≡ Some message
    by true later e = e
    by false later e = later e

same_number : (number : ℕ) → (number == number) ≡ true
same_number number = grind (arith, nat_tests)

-- a number that has signed nothing signs what is added
new-append : (number : ℕ) (used : List (ℕ × List ℕ)) (message : List ℕ) → message_of number used ≡ None → message_of number (used ++ (number, message) ∷ []) ≡ Some message
new-append number [] message none = ap (λ (b : Bool). cond b (Some message) None) (same_number number)
new-append number (x ∷ used) message none = by (x.0 == number) (λ e. new-append number used message e) none
  where
    by : (here : Bool) → (message_of number used ≡ None → message_of number (used ++ (number, message) ∷ []) ≡ Some message) → cond here (Some x.1) (message_of number used) ≡ None → cond here (Some x.1) (message_of number (used ++ (number, message) ∷ [])) ≡ Some message
    by true later e = absurd (cc)
    by false later e = later e

module _ (number : ℕ) (message : List ℕ) where
  abbrev with_it : Wallet → Wallet
  with_it old = record { seed = old.seed; used = old.used ++ (number, message) ∷ [] }

  -- the wallet of a call that signs has what it had, and the message under its number
  pub record Signed (old new : Wallet) : Type 0 where
    pub here : message_of number new.used ≡ Some message
    pub others : (n : ℕ) (m : List ℕ) → message_of n old.used ≡ Some m → message_of n new.used ≡ Some m

  again : (old new : Wallet) (earlier : List ℕ) (same : Bool) → bytes_eq earlier message ≡ same → message_of number old.used ≡ Some earlier → cond same (Ok old) (Err Used) ≡ Ok new → Signed old new
  again old new earlier true test was is =
      let stays : old ≡ new = cc in
      let equal : earlier ≡ message = eq_bytes earlier message test in
      subst (λ (w : Wallet). Signed old w) stays (record { here = was ∙ ap Some equal; others = λ n m e. e })
  again old new earlier false test was is = absurd (cc)

  first : (old new : Wallet) (room : Bool) → message_of number old.used ≡ None → cond room (Ok (with_it old)) (Err Full) ≡ Ok new → Signed old new
  first old new true none is =
      let grown : with_it old ≡ new = cc in
      subst (λ (w : Wallet). Signed old w) grown (record {
        here = new-append number old.used message none;
        others = λ n m e. kept-append n old.used ((number, message) ∷ []) m e;
      })
  first old new false none is = absurd (cc)

  by_earlier : (old new : Wallet) (earlier : Option (List ℕ)) → message_of number old.used ≡ earlier → signed_after earlier old number message ≡ Ok new → Signed old new
  by_earlier old new None was is = first old new (nat_lt (length old.used) MOST_USED) was is
  by_earlier old new (Some earlier) was is = again old new earlier (bytes_eq earlier message) refl was is

  pub signed : (old new : Wallet) → after_signing old number message ≡ Ok new → Signed old new
  signed old new is = by_earlier old new (message_of number old.used) refl is

-- what the call signed is kept
goes-signed : (old new : Wallet) (call : Call) → CallGoes old call new → IsTrue call.signs → message_of call.number new.used ≡ Some call.message
goes-signed old new call goes signs = by call.signs goes signs
  where
    by : (signs : Bool) → Goes signs old call new → IsTrue signs → message_of call.number new.used ≡ Some call.message
    by true e is = (signed call.number call.message old new e).here
    by false e is = absurd (let q : false ≡ true = is in cc)

-- a call keeps what was signed
goes-kept : (old new : Wallet) (call : Call) (number : ℕ) (message : List ℕ) → CallGoes old call new → message_of number old.used ≡ Some message → message_of number new.used ≡ Some message
goes-kept old new call number message goes is = by call.signs goes
  where
    by : (signs : Bool) → Goes signs old call new → message_of number new.used ≡ Some message
    by true e = (signed call.number call.message old new e).others number message is
    by false e = subst (λ (w : Wallet). message_of number w.used ≡ Some message) (sym e) is

all-kept : (old new : Wallet) (calls : List Call) (number : ℕ) (message : List ℕ) → CallsGo old calls new → message_of number old.used ≡ Some message → message_of number new.used ≡ Some message
all-kept old new [] number message go is = subst (λ (w : Wallet). message_of number w.used ≡ Some message) (sym go) is
all-kept old new (call ∷ calls) number message go is = all-kept go.0 new calls number message go.2 (goes-kept old go.0 call number message go.1 is)

all-signed : (old new : Wallet) (calls : List Call) (number : ℕ) (message : List ℕ) → CallsGo old calls new → IsSigned number message calls → message_of number new.used ≡ Some message
all-signed old new [] number message go signed = absurd signed
all-signed old new (call ∷ calls) number message go (inl here) =
    all-kept go.0 new calls number message go.2
    (subst (λ (n : ℕ). message_of n go.0.used ≡ Some message) here.1 (goes-signed old go.0 call go.1 here.0 ∙ ap Some here.2))
all-signed old new (call ∷ calls) number message go (inr later) = all-signed go.0 new calls number message go.2 later

pub one_message : (old new : Wallet) (calls : List Call) (number : ℕ) (one other : List ℕ) → CallsGo old calls new → IsSigned number one calls → IsSigned number other calls → one ≡ other
one_message old new calls number one other go first second =
    let e : Some one ≡ Some other = sym (all-signed old new calls number one go first) ∙ all-signed old new calls number other go second in
    cc
