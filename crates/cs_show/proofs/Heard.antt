-- What is kept of what is heard.
use Rattle.std.proofs.Common.{◌≡◌, ℕ, List, ◌∷◌, Option, Some, None, Result, Ok, Err, sym, ap, ◌∙◌}
use Rattle.std.specs.Prelude.{OnOk, ◌==◌}
use Rattle.cs_base.specs.declared.node_id.NodeId.{NodeId}
use Rattle.cs_wire_message.specs.declared.message.Message.{Message}
use Rattle.cs_client.specs.Inputs.{ClientInput, heard}
use Rattle.cs_show.specs.declared.lookup.Lookup.{Lookup}
use Rattle.cs_show.specs.declared.looker.Looker.{Looker}
use Rattle.cs_show.specs.Words.{line_in, shard_asked, words_of, first_said, seen}
use Rattle.cs_show.specs.Standing.{LookerStandsFor}
use Rattle.cs_show.proofs.Told.{put_from, says-nothing, says-so}

-- a fact that follows from one that holds unless memory ran out
pub on-ok : {A E : Type 0} (r : Result A E) (P Q : Type 0) → (P → Q) → OnOk r P → OnOk r Q
on-ok (Ok x) P Q follows h = follows h
on-ok (Err e) P Q follows h = tt

module _ (l : Lookup) (past : List ClientInput) (input : ClientInput) (from : NodeId) (m : Message) (said : heard l.keys input ≡ Some (from, m)) where
  -- the message tells nothing of the key
  pub kept-still : (words : List (Option (List ℕ))) → None ≡ line_in l.key m → words ≡ words_of l past → words ≡ words_of l (input ∷ past)
  kept-still words none is = is ∙ sym (says-nothing l input past from m said (sym none))

  -- it tells this
  pub kept-put : (words words' : List (Option (List ℕ))) (shard : ℕ) (line : List ℕ) → Some line ≡ line_in l.key m → shard ≡ shard_asked l → words ≡ words_of l past
      → words' ≡ put_from from shard line words (from.shard == shard) → words' ≡ words_of l (input ∷ past)
  kept-put words words' shard line tells in_shard is put =
      put
      ∙ (ap (λ s. put_from from s line words (from.shard == s)) in_shard
      ∙ (ap (λ w. put_from from (shard_asked l) line w (from.shard == shard_asked l)) is
      ∙ sym (says-so l input past from m said line (sym tells))))

-- what is kept of a datagram, of a lookup that is the same
pub hears-so : (l k : Lookup) (past : List ClientInput) (input : ClientInput) (words words' : List (Option (List ℕ))) → l ≡ k
    → (words ≡ words_of l past → words' ≡ words_of l (input ∷ past)) → words ≡ words_of k past → words' ≡ words_of k (input ∷ past)
hears-so l k past input words words' same step is =
    step (is ∙ sym (ap (λ (m : Lookup). words_of m past) same)) ∙ ap (λ (m : Lookup). words_of m (input ∷ past)) same

-- what is seen of what is kept
pub seen-so : (l : Lookup) (inputs : List ClientInput) (looker : Looker) → LookerStandsFor l inputs looker
    → first_said looker.lookup.config.f looker.words.items looker.words.items ≡ seen l inputs
seen-so l inputs looker stands =
    ap (λ (k : Lookup). first_said k.config.f looker.words.items looker.words.items) stands.lookup_is
    ∙ ap (λ words. first_said l.config.f words words) stands.words_are
