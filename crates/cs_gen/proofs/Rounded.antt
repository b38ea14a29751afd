-- What a round makes.
use Rattle.std.proofs.Common.{◌≡◌, ℕ, zero, suc, ◌+◌, ◌*◌, ◌/◌, ◌%◌, ◌==◌, ◌<◌, ◌≤◌, ◌^◌, Bool, true, false, Some, None, List, [], ◌∷◌, ◌++◌, length, map, slice_index, refl, ap, ◌∙◌, arith, add-one}
use Rattle.std.specs.Prelude.{if◌then◌else◌}
use Rattle.std.specs.Bool.{then_some}
use Rattle.cs_base.proofs.Forms.{some_is}
use Rattle.cs_tx_types.specs.Session.{SessionFits}
use Rattle.cs_gen.specs.declared.sessions.Offer.{Offer}
use Rattle.cs_gen.specs.Draws.{next_state, state_after, draw}
use Rattle.cs_gen.specs.Rounds.{round_tx, split_tx, session, round_session, concerned_by, wanting_dummies, serial, dummies_of, second_number, events_of, events_below}
use Rattle.cs_gen.proofs.States.{drawn}
use Rattle.cs_gen.proofs.Fitting.{session_fits}
use Rattle.cs_gen.proofs.Shards.{wanting-below}
use Rattle.cs_gen.proofs.Counted.{same_dummies, dummies_fit}

pub events-none : (state : ℕ) (worths : List ℕ) → events_below state worths 0 ≡ []
unfolding events_below
events-none state worths = refl

-- one more round
pub events-more : (state : ℕ) (worths : List ℕ) (n m : ℕ) → m ≡ n + 1 → events_below state worths m ≡ events_below state worths n ++ events_of state worths n
unfolding events_below
events-more state worths n m is = ap (events_below state worths) (is ∙ add-one n)

pub zeros : (shard : ℕ) → slice_index (0 ∷ 0 ∷ 0 ∷ []) shard ≡ 0
zeros zero = refl
zeros (suc zero) = refl
zeros (suc (suc zero)) = refl
zeros (suc (suc (suc shard))) = refl

pub chosen : (is : Bool) (n : ℕ) → then_some is n ≡ (if is then Some n else None)
chosen true n = refl
chosen false n = refl

share-low : (n worth : ℕ) → n % (worth + 1) ≤ worth
share-low n worth = grind arith

module _ (state : ℕ) (worths : List ℕ) (round : ℕ) where
  abbrev worth : ℕ
  worth = slice_index worths round

  abbrev made : ℕ → Offer
  made share = record {
    session = session (split_tx round worth share) round [];
    shards = concerned_by (split_tx round worth share);
    wanting = wanting_dummies (split_tx round worth share);
  }

  -- the offer of this round
  abbrev pub own : Offer
  own = record {
    session = session (round_tx state worths round) round [];
    shards = concerned_by (round_tx state worths round);
    wanting = wanting_dummies (round_tx state worths round);
  }

  pub offered : (offer : Offer) (share now : ℕ) → offer ≡ made share → share ≡ next_state now / 2 ^ 33 % (worth + 1) → now ≡ state_after state (2 * round) → offer ≡ own
  offered offer share now is given before =
      is ∙ ap made (given ∙ ap (λ (s : ℕ). next_state s / 2 ^ 33 % (worth + 1)) before ∙ ap (λ (d : ℕ). d % (worth + 1)) (drawn state (2 * round)))

  -- its dummies
  pub dummied : (offer : Offer) (serials : List ℕ) (shards : List ℕ) (dummies : List (ℕ × ℕ)) → offer ≡ own → shards ≡ offer.wanting → dummies ≡ map (λ shard. (shard, slice_index serials shard)) shards
      → ((shard : ℕ) → shard < 3 → slice_index serials shard ≡ serial state worths shard round) → dummies ≡ dummies_of state worths round
  dummied offer serials shards dummies is lent given counted =
      given ∙ ap (λ (ss : List ℕ). map (λ shard. (shard, slice_index serials shard)) ss) (lent ∙ ap (λ (o : Offer). o.wanting) is)
      ∙ same_dummies (slice_index serials) (λ shard. serial state worths shard round) (wanting_dummies (round_tx state worths round)) (wanting-below (round_tx state worths round)) counted

  -- its session
  pub sessioned : (offer : Offer) (dummies : List (ℕ × ℕ)) → offer ≡ own → dummies ≡ dummies_of state worths round → session offer.session.tx offer.session.number dummies ≡ round_session state worths round
  sessioned offer dummies is given =
      ap (λ (o : Offer). session o.session.tx o.session.number dummies) is ∙ ap (λ (ds : List (ℕ × ℕ)). session (round_tx state worths round) round ds) given

  pub round_fits : worth < 2 ^ 63 → round < 2 ^ 32 → SessionFits (round_session state worths round)
  round_fits small few =
      session_fits round worth (draw state (2 * round) % (worth + 1)) round (dummies_of state worths round) small (share-low (draw state (2 * round)) worth) (omega arith) (dummies_fit state worths round few)

  -- so does a second session
  pub number_fits : (number : ℕ) → worth < 2 ^ 63 → round < 2 ^ 32 → second_number state worths round ≡ Some number → length worths + round < 2 ^ 64 → SessionFits (record (round_session state worths round) { number = number })
  number_fits number small few is low =
      let of_number : number < 2 ^ 64 = by (draw state (2 * round + 1) % 4 == 0) is in
      session_fits round worth (draw state (2 * round) % (worth + 1)) number (dummies_of state worths round) small (share-low (draw state (2 * round)) worth) of_number (dummies_fit state worths round few)
    where
      by : (again : Bool) → (if again then Some (length worths + round) else None) ≡ Some number → number < 2 ^ 64
      by true same = omega (arith, some_is (length worths + round) number same)
      by false same = absurd cc
