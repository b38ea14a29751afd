-- What a master key that is read decides, and which statuses there are.
use Rattle.std.specs.Prelude.{◌≡◌, ◌≢◌, ◌⊎◌, ℕ, ◌≤◌, List, Option, Some, None, Ok}
use Rattle.std.proofs.Common.{inl, inr, ap, sym, ◌∙◌}
use Rattle.cs_base.specs.Answers.{Answers, IsTextOf}
use Rattle.cs_base.specs.Outside.{Rose}
use Rattle.cs_io.specs.Answers.{read_fault_answer}
use Rattle.cs_io.proofs.Sources.{text-read}
use Rattle.cs_io.specs.Told.{Stays}
use Rattle.cs_io.specs.laws.Told.{stays-both, changes-after}
use Rattle.cs_io.specs.Store.{Files}
use Rattle.cs_io.specs.Outside.{Beside, beside}
use Rattle.cs_config.specs.declared.site.Site.{Site}
use Rattle.cs_wire.specs.AllNames.{names_of}
use Rattle.cs_config.specs.Saving.{SavesUpTo}
use Rattle.cs_deploy.specs.Taking.{TakesFiles, FilesCome}
use Rattle.cs_deploy.specs.Files.{site_taken}
use Rattle.cs_deploy.specs.declared.limits.TheConstants.{MOST_MASTER}
use Rattle.cs_deploy.specs.Untaken.{IsSilent, IsDecided}
use Rattle.cs_deploy.specs.Master.{master_of}
use Rattle.cs_deploy.specs.ReadKeys.{refused_master, SavesUnder, IsUnread, IsRead, ReadKeysRuns, read_status, EndsAsRead}
use Rattle.cs_deploy.proofs.Answered.{answers-other, rose-later}
use Rattle.cs_deploy.proofs.DecidedKeys.{untaken-decided, untaken-other, saved-done, saved-other}

module _ (Failed Reads : Type 0) (left left' : Option (List ℕ)) (a b : Beside (Option Files)) (status : ℕ) where
  under-done : (master : Option (List ℕ)) (site : Site) → SavesUnder master site Failed a b status → (Failed → ⊥) → status ≢ 6 → status ≢ 8 → status ≡ read_status master
  under-done (Some master) site is stores writes other = saved-done is.result Failed a.written b.written status is.failed is.told stores other
  under-done None site (kept, answers) stores writes other = (answers.verdict writes other).0

  ends-as : (left : Option (List ℕ)) (text : List ℕ) → IsTextOf MOST_MASTER left text → status ≡ read_status (master_of text) → EndsAsRead left status
  ends-as None text is done = tt
  ends-as (Some bytes) text is done = done ∙ ap (λ (t : List ℕ). read_status (master_of t)) is

  read-done : (site : Site) → (IsUnread Reads a b status) ⊎ (IsRead site Failed left left' a b status) → (Failed → ⊥) → (Reads → ⊥) → status ≢ 6 → status ≢ 8 → EndsAsRead left status
  read-done site (inl is) stores reads writes other = by is.told
    where
      by : (Reads × Answers read_fault_answer a.written b.written status) ⊎ IsSilent a.written b.written status → EndsAsRead left status
      by (inl (failed, answers)) = absurd (reads failed)
      by (inr silent) = absurd (other silent.0)
  read-done site (inr is) stores reads writes other =
      ends-as left is.text (text-read MOST_MASTER left left' is.text is.is_text) (under-done (master_of is.text) site is.saves stores writes other)

  pub read-decided : (name : List ℕ) → ReadKeysRuns name Failed Reads left left' a b status → (Failed → ⊥) → (Reads → ⊥) → status ≢ 6 → IsDecided (FilesCome (site_taken name)) (EndsAsRead left) a.told status
  read-decided name (inl (kept, unread, is)) stores reads writes = untaken-decided (FilesCome (site_taken name)) (EndsAsRead left) Failed a.told a.written b.written status is stores writes
  read-decided name (inr (site, taken, goes)) stores reads writes = by a.told taken
    where
      by : (files : Option Files) → TakesFiles (FilesCome (site_taken name)) files (Ok site) → IsDecided (FilesCome (site_taken name)) (EndsAsRead left) files status
      by None taken = λ other. tt
      by (Some told) taken = λ other. (Ok site, taken, read-done site goes stores reads writes other)

  -- ---- statuses

  pub under-other : (master : Option (List ℕ)) (site : Site) (n : ℕ) → SavesUnder master site Failed a b status → 0 ≢ n → 3 ≢ n → 12 ≢ n → 6 ≢ n → 8 ≢ n → status ≢ n
  under-other (Some master) site n is zero three own six eight = saved-other is.result a.written b.written status n is.told zero own six eight
  under-other None site n (kept, answers) zero three own six eight = answers-other refused_master a.written b.written status n answers three six eight

  read-other : (site : Site) (n : ℕ) → (IsUnread Reads a b status) ⊎ (IsRead site Failed left left' a b status) → 0 ≢ n → 3 ≢ n → 5 ≢ n → 12 ≢ n → 6 ≢ n → 8 ≢ n → status ≢ n
  read-other site n (inl is) zero three five own six eight = by is.told
    where
      by : (Reads × Answers read_fault_answer a.written b.written status) ⊎ IsSilent a.written b.written status → status ≢ n
      by (inl (failed, answers)) = answers-other read_fault_answer a.written b.written status n answers five six eight
      by (inr silent) = λ p. eight (sym silent.0 ∙ p)
  read-other site n (inr is) zero three five own six eight = under-other (master_of is.text) site n is.saves zero three own six eight

  pub keys_read-other : (name : List ℕ) (n : ℕ) → ReadKeysRuns name Failed Reads left left' a b status → 0 ≢ n → 3 ≢ n → 5 ≢ n → 12 ≢ n → 6 ≢ n → 8 ≢ n → status ≢ n
  keys_read-other name n (inl (kept, unread, is)) zero three five own six eight = untaken-other (FilesCome (site_taken name)) Failed a.told a.written b.written status n is own six eight
  keys_read-other name n (inr (site, taken, goes)) zero three five own six eight = read-other site n goes zero three five own six eight

-- ---- the store kept its files until then

module _ (first middle last : ℕ) (left left' : Option (List ℕ)) (files files' files'' : Option Files) (written written' : Option (List ℕ)) (status : ℕ) (kept : Stays files files') (later : first ≤ middle) where
  under-later : (master : Option (List ℕ)) (site : Site) → SavesUnder master site (Rose middle last) (beside files' written) (beside files'' written') status
      → SavesUnder master site (Rose first last) (beside files written) (beside files'' written') status
  under-later (Some master) site is = record {
    result = is.result;
    saved = changes-after (SavesUpTo site.config master (names_of site.config) is.result) files files' files'' kept is.saved;
    failed = λ failed. rose-later first middle last later (is.failed failed);
    told = is.told;
  }
  under-later None site (stays, answers) = (stays-both files files' files'' kept stays, answers)

  pub read-later : (site : Site) (Reads : Type 0) → (IsUnread Reads (beside files' written) (beside files'' written') status) ⊎ (IsRead site (Rose middle last) left left' (beside files' written) (beside files'' written') status)
      → (IsUnread Reads (beside files written) (beside files'' written') status) ⊎ (IsRead site (Rose first last) left left' (beside files written) (beside files'' written') status)
  read-later site Reads (inl is) = inl (record { kept = stays-both files files' files'' kept is.kept; told = is.told })
  read-later site Reads (inr is) = inr (record { text = is.text; is_text = is.is_text; saves = under-later (master_of is.text) site is.saves })
