-- The locked sessions of a pool, one after the other.
use Rattle.std.proofs.Common.{◌≡◌, true, cond, List, [], ◌∷◌, ◌++◌, Some, ap, sym, subst, ◌∙◌, append_assoc}
use Rattle.cs_tx_types.specs.declared.session.Session.{Session}
use Rattle.cs_tx_types.specs.Session.{SessionFits}
use Rattle.cs_ledger.specs.Ledger.{Bytes}
use Rattle.cs_node_pool.specs.Fits.{PoolFits, SessionsFit}
use Rattle.cs_node_pool.specs.Calls.{locked_in}
use Rattle.cs_node_pool.specs.declared.seat.Seat.{Seat}
use Rattle.cs_node_pool.specs.Seats.{Seats, seated}

all-push : (xs : List Session) (x : Session) → SessionsFit xs → SessionFits x → SessionsFit (xs ++ x ∷ [])
all-push [] x fits fit = (fit, tt)
all-push (y ∷ xs) x fits fit = (fits.0, all-push xs x fits.1 fit)

-- one more of the seats was looked at
module _ (d : Bytes) (old rest : Seats) where
  module _ (seat : Seat) (at : old ≡ (d, Some seat) ∷ rest) where
    pub fits-passed : PoolFits (seated old) → PoolFits (seated rest)
    fits-passed fits = let both : PoolFits (seated ((d, Some seat) ∷ rest)) = subst (λ seats. PoolFits (seated seats)) at fits in both.1

    module _ (xs ys : List Session) (x : Session) (same : x ≡ seat.pooled.session) (grown : ys ≡ xs ++ x ∷ []) where
      pub fits-pushed : PoolFits (seated old) → SessionsFit xs → SessionsFit ys
      fits-pushed pool fits =
          let both : PoolFits (seated ((d, Some seat) ∷ rest)) = subst (λ seats. PoolFits (seated seats)) at pool in
          subst SessionsFit (sym grown) (all-push xs x fits (subst SessionFits (sym same) both.0))

      pub locked-pushed : seat.pooled.locked ≡ true → (whole : List Session) → xs ++ locked_in (seated old) ≡ whole → ys ++ locked_in (seated rest) ≡ whole
      locked-pushed locked whole so-far =
          ap (λ zs. zs ++ locked_in (seated rest)) grown
          ∙ append_assoc xs (x ∷ []) (locked_in (seated rest))
          ∙ ap (λ y. xs ++ (y ∷ locked_in (seated rest))) same
          ∙ ap (λ b. xs ++ cond b (seat.pooled.session ∷ locked_in (seated rest)) (locked_in (seated rest))) (sym locked)
          ∙ ap (λ seats. xs ++ locked_in (seated seats)) (sym at)
          ∙ so-far
