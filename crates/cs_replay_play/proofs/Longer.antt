-- The longest log of a shard, one member after the other.
use Rattle.std.proofs.Common.{◌≡◌, ℕ, suc, ◌+◌, Bool, true, false, cond, List, [], ◌∷◌, ◌++◌, length, nat_lt, Option, Some, None, refl, ap, sym, ◌∙◌, append-nil, arith}
use Rattle.std.specs.List.{filter}
use Rattle.std.proofs.lemmas.List.Elements.{filter-append}
use Rattle.cs_base.specs.NodeId.{members_below}
use Rattle.cs_base.specs.declared.node_id.NodeId.{NodeId}
use Rattle.cs_check_rules.specs.Chain.{Log, empty_log}
use Rattle.cs_replay_rules.specs.Dumps.{longer, longest, logs_of}
use Rattle.cs_node_rules.specs.Site.{Site}
use Rattle.cs_node_rules.specs.World.{Happening, view_of}
use Rattle.cs_replay_play.specs.Logged.{Logged, logged_of}
use Rattle.cs_replay_play.specs.Longest.{honest_log, slots_in, longer_found, logged_or_empty}

longest-push : (first : Log) (logs : List Log) (log : Log) → longest first (logs ++ log ∷ []) ≡ longer (longest first logs) log
longest-push first [] log = refl
longest-push first (next ∷ logs) log = longest-push (longer first next) logs log

-- the longer one of what was found, which is kept of one log, and of another log
longer-in : (found : Option Logged) (first log : Log) → logged_or_empty found ≡ logged_of first → logged_or_empty (longer_found found (Some (logged_of log))) ≡ logged_of (longer first log)
longer-in found first log is =
    ap (λ n. logged_or_empty (cond (nat_lt n (length log.leaves)) (Some (logged_of log)) found)) (slots-same found ∙ ap (λ (kept : Logged). length kept.leaves) is)
    ∙ pick (nat_lt (length first.leaves) (length log.leaves))
  where
    pick : (b : Bool) → logged_or_empty (cond b (Some (logged_of log)) found) ≡ logged_of (cond b log first)
    pick true = refl
    pick false = is

    slots-same : (o : Option Logged) → slots_in o ≡ length (logged_or_empty o).leaves
    slots-same None = refl
    slots-same (Some kept) = refl

module _ {M : Type 0} (site : Site M) (world : List (Happening M)) (shard : ℕ) where
  abbrev honest_names : ℕ → List NodeId
  honest_names n = filter site.net.is_honest (members_below shard n)

  -- the longest log of the first so many members that don't lie
  abbrev pub longest_below : ℕ → Log
  longest_below n = longest (empty_log shard) (logs_of site world (honest_names n))

  abbrev member : ℕ → NodeId
  member n = record { shard = shard; index = n }

  logs-push : (names : List NodeId) (name : NodeId) → logs_of site world (names ++ name ∷ []) ≡ logs_of site world names ++ (view_of site world name).bench.log ∷ []
  logs-push [] name = refl
  logs-push (first ∷ names) name = ap (λ logs. (view_of site world first).bench.log ∷ logs) (logs-push names name)

  names-next : (n : ℕ) (b : Bool) → site.net.is_honest (member n) ≡ b → honest_names (n + 1) ≡ honest_names n ++ cond b (member n ∷ []) []
  names-next n b is =
      let next : n + 1 ≡ suc n = omega arith in
      ap honest_names next
      ∙ filter-append site.net.is_honest (members_below shard n) (member n ∷ [])
      ∙ ap (λ c. honest_names n ++ cond c (member n ∷ []) []) is

  -- one member more
  pub longest-next : (n : ℕ) (found : Option Logged) → logged_or_empty found ≡ logged_of (longest_below n) → logged_or_empty (longer_found found (honest_log site world (member n))) ≡ logged_of (longest_below (n + 1))
  longest-next n found so_far = by (site.net.is_honest (member n)) refl
    where
      log : Log
      log = (view_of site world (member n)).bench.log

      by : (b : Bool) → site.net.is_honest (member n) ≡ b → logged_or_empty (longer_found found (honest_log site world (member n))) ≡ logged_of (longest_below (n + 1))
      by true is =
          ap (λ c. logged_or_empty (longer_found found (cond c (Some (logged_of log)) None))) is
          ∙ longer-in found (longest_below n) log so_far
          ∙ ap logged_of
          (sym (longest-push (empty_log shard) (logs_of site world (honest_names n)) log)
          ∙ ap (longest (empty_log shard)) (sym (logs-push (honest_names n) (member n)))
          ∙ ap (λ names. longest (empty_log shard) (logs_of site world names)) (sym (names-next n true is)))
      by false is =
          ap (λ c. logged_or_empty (longer_found found (cond c (Some (logged_of log)) None))) is
          ∙ so_far
          ∙ ap (λ names. logged_of (longest (empty_log shard) (logs_of site world names))) (sym (names-next n false is ∙ append-nil (honest_names n)))
