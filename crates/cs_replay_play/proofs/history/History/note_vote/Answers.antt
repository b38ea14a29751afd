use Rattle.std.proofs.Common.{◌≡◌, ◌∙◌, ℕ, List, sym, ap}
use Rattle.cs_tx_types.specs.declared.vote.Vote.{Vote}
use Rattle.cs_tx.specs.Votes.{vote_of}
use Rattle.cs_ledger.specs.Ledger.{Bytes}
use Rattle.cs_replay_play.specs.Kept.{KeptHistory, with_commit, after_vote}
use Rattle.cs_replay_play.proofs.history.History.note_vote.Goals as goal

-- the commits are those of the set, with this one where it is new
pub returns-in_ok-insert-in-Commit : goal.returns-in_ok-insert-in-Commit
returns-in_ok-insert-in-Commit c =
    let inside = c.self.inside in
    let left : List (ℕ × Bytes) → KeptHistory = λ commits. record {
      config = inside.config;
      slots = inside.slots.items;
      places = inside.places.items;
      commits = commits;
      told = inside.told.keys;
      aborted = inside.aborted.keys;
    } in
    let kept : c.insert.new.self.keys ≡ with_commit c.args.shard c.args.digest inside.commits.keys = c.in_ok-insert-in-Commit.ensures.keys in
    ap left kept
    ∙ ap (λ (k : KeptHistory). record k { commits = with_commit c.args.shard c.args.digest k.commits }) c.self.view_is
    ∙ ap (λ (vote : Vote). after_vote c.args.self.now c.args.shard c.args.digest (vote_of vote)) (sym c.in-Commit.is)
