use Rattle.cs_slot.proofs.Adding.{entry_added, none_if}
use Rattle.cs_slot.proofs.entries.Entries.add.Goals as goal
